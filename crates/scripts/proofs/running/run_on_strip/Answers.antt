use Rattle.std.proofs.Common.{◌≡◌, [], refl, ◌∙◌}
use Rattle.journal.specs.Strips.{made_list, made_spare}
use Rattle.clients.specs.Rounds.{left}
use Rattle.clients.proofs.Memories.{bytes_left}
use Rattle.scripts.specs.Told.{as_8}
use Rattle.scripts.proofs.Endings.{used_behind}
use Rattle.scripts.proofs.Found.{over, listed_then, done_then, used_is}
use Rattle.scripts.proofs.running.run_on_strip.Goals as goal

pub returns-clause-ran : goal.returns-clause-ran
returns-clause-ran g c =
    let m = c.args.memory.now in
    let u = c.args.used in
    let S = c.make.result in
    let made = c.make.ensures in
    let S' = c.run_over-strip.result.0 in
    let end = c.show_used-ended.ensures in
    let admits = g.P.Policy.admits c.args.policy in
    let W = over _ S (made_list m u) (made_spare m u) made.list made.spare admits c.args.page.now c.args.calls.now _ _ _ c.run_over-strip.ensures in
    let list = listed_then _ S (made_list m u) (made_spare m u) made.list made.spare admits c.args.page.now c.args.calls.now _ _ _ c.run_over-strip.ensures in
    let D = done_then _ S (made_list m u) (made_spare m u) made.list made.spare admits c.args.page.now c.args.calls.now _ _ _ c.run_over-strip.ensures in
    let bytes : S'.memory.now ≡ left m u _ = bytes_left m u S S refl _ _ refl S'.memory.now (W.wrote.images []) made.bytes made.count in
    record {
      memory = c.give_back.ensures.bytes ∙ bytes;
      done = rw (← used_is S' _ _ c.used.ensures bytes list) (used_behind c.args.page.now _ _ (as_8 c.used.result) refl _ _ _ _ D end.same end.through end.cut);
    }
