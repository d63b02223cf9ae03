use Rattle.std.proofs.Common.{◌≡◌, ◌-◌, min, List, [], length, refl, ap, ◌∙◌}
use Rattle.meaning.specs.declared.entry.Entry.{Entry}
use Rattle.journal.specs.declared.strip.Strip.{Strip}
use Rattle.journal.specs.Strips.{made_list, made_spare, room, listed}
use Rattle.clients.specs.Rounds.{left}
use Rattle.clients.proofs.Memories.{bytes_left}
use Rattle.scripts.specs.Told.{as_8}
use Rattle.scripts.proofs.Endings.{used_behind}
use Rattle.scripts.proofs.Found.{over, listed_then, done_then, used_is, least}
use Rattle.scripts.proofs.running.run_on_strip_and_roll.Goals as goal

pub returns-clause-ran : goal.returns-clause-ran
returns-clause-ran g c =
    let m = c.args.memory.now in
    let u = c.args.used in
    let S = c.make.result in
    let made = c.make.ensures in
    let X = c.new-journal.result in
    let of = c.new-journal.ensures in
    let X' = c.run_over-mirror.result.0 in
    let S' = c.apart-first.result.0 in
    let apart = c.apart-first.ensures in
    let end = c.show_used-ended.ensures in
    let admits = g.P.Policy.admits c.args.policy in
    let found = ap (λ (s : Strip). listed s.memory.now s.count) of.one ∙ made.list in
    let first = ap (λ (s : Strip). room s.memory.now - s.count) of.one ∙ made.spare in
    let second = ap (λ (r : List Entry). 256 - length r) of.other ∙ c.new.ensures.spare in
    let spare = least first second in
    let W = over _ X (made_list m u) (min (made_spare m u) 256) found spare admits c.args.page.now c.args.calls.now _ _ _ c.run_over-mirror.ensures in
    let list = listed_then _ X (made_list m u) (min (made_spare m u) 256) found spare admits c.args.page.now c.args.calls.now _ _ _ c.run_over-mirror.ensures in
    let D = done_then _ X (made_list m u) (min (made_spare m u) 256) found spare admits c.args.page.now c.args.calls.now _ _ _ c.run_over-mirror.ensures in
    let bytes : S'.memory.now ≡ left m u _ = ap (λ x. x.0.memory.now) apart ∙ bytes_left m u S X.first of.one _ _ refl X'.first.memory.now (W.wrote.images []) made.bytes made.count in
    record {
      memory = c.give_back.ensures.bytes ∙ bytes;
      done = rw (← used_is S' _ _ c.used.ensures bytes (ap (λ x. listed x.0.memory.now x.0.count) apart ∙ list)) (used_behind c.args.page.now _ _ (as_8 c.used.result) refl _ _ _ _ D end.same end.through end.cut);
    }
