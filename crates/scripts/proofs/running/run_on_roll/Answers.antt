use Rattle.std.proofs.Common.{[], refl}
use Rattle.scripts.specs.Told.{as_8}
use Rattle.scripts.proofs.Endings.{used_behind}
use Rattle.scripts.proofs.Found.{done_then}
use Rattle.scripts.proofs.running.run_on_roll.Goals as goal

pub returns : goal.returns
returns g c m u =
    let end = c.show_used.ensures in
    let D = done_then _ c.new.result [] 256 c.new.ensures.list c.new.ensures.spare (g.P.Policy.admits c.args.policy) c.args.page.now c.args.calls.now _ _ _ c.run_over-roll.ensures in
    record {
      memory = refl;
      done = used_behind c.args.page.now _ _ (as_8 0) refl _ _ _ _ D end.same end.through end.cut;
    }
