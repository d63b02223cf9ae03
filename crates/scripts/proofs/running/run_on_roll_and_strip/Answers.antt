use Rattle.std.proofs.Common.{◌≡◌, ◌-◌, min, List, [], ◌++◌, length, refl, ap, ◌∙◌}
use Rattle.std.proofs.Math.Nat.{min_comm}
use Rattle.meaning.specs.declared.entry.Entry.{Entry}
use Rattle.journal.specs.declared.strip.Strip.{Strip}
use Rattle.journal.specs.Strips.{made_list, made_spare, room, listed}
use Rattle.steps.specs.Written.{entries_of}
use Rattle.clients.specs.Rounds.{left}
use Rattle.clients.proofs.Memories.{bytes_left}
use Rattle.scripts.specs.declared.head.JournalKind.TheVariants.{RollAndStrip as OnRollAndStrip}
use Rattle.scripts.specs.Made.{went_on}
use Rattle.scripts.specs.Told.{as_8}
use Rattle.scripts.proofs.Endings.{used_behind}
use Rattle.scripts.proofs.Found.{over, done_then, used_is, second_list, least}
use Rattle.scripts.proofs.running.run_on_roll_and_strip.Goals as goal

pub returns-clause-ran : goal.returns-clause-ran
returns-clause-ran g c =
    let m = c.args.memory.now in
    let u = c.args.used in
    let S = c.make.result in
    let made = c.make.ensures in
    let X = c.new-journal.result in
    let of = c.new-journal.ensures in
    let X' = c.run_over-mirror.result.0 in
    let S' = c.apart-first.result.1 in
    let end = c.show_used-ended.ensures in
    let admits = g.P.Policy.admits c.args.policy in
    let none = of.one ∙ c.new.ensures.list in
    let first = ap (λ (r : List Entry). 256 - length r) of.one ∙ c.new.ensures.spare in
    let second = ap (λ (s : Strip). room s.memory.now - s.count) of.other ∙ made.spare in
    let spare = least first second ∙ min_comm 256 (made_spare m u) in
    let W = over _ X [] (min (made_spare m u) 256) none spare admits c.args.page.now c.args.calls.now _ _ _ c.run_over-mirror.ensures in
    let D = done_then _ X [] (min (made_spare m u) 256) none spare admits c.args.page.now c.args.calls.now _ _ _ c.run_over-mirror.ensures in
    let bytes : S'.memory.now ≡ left m u _ = ap (λ x. x.1.memory.now) c.apart-first.ensures ∙ bytes_left m u S X.second of.other _ _ refl X'.second.memory.now (W.wrote.images []) made.bytes made.count in
    let new = (went_on admits m u OnRollAndStrip c.args.calls.now c.args.page.now).new in
    let before : listed X.second.memory.now X.second.count ≡ made_list m u = ap (λ (s : Strip). listed s.memory.now s.count) of.other ∙ made.list in
    let list : listed S'.memory.now S'.count ≡ made_list m u ++ entries_of new = ap (λ x. listed x.1.memory.now x.1.count) c.apart-first.ensures ∙ second_list _ _ _ _ _ (W.wrote.lists []) ∙ ap (λ es. es ++ entries_of new) before in
    record {
      memory = c.give_back.ensures.bytes ∙ bytes;
      done = rw (← used_is S' _ _ c.used.ensures bytes list) (used_behind c.args.page.now _ _ (as_8 c.used.result) refl _ _ _ _ D end.same end.through end.cut);
    }
