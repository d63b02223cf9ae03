use Rattle.std.proofs.Common.{ℕ, List, Bor, [], rules}
use Rattle.std.proofs.lemmas.List.Folds.{length-flat_map-take}
use Rattle.scripts.proofs.page.Page.end_of.Goals as goal

pub returns-in_err-end : goal.returns-in_err-end
returns-in_err-end c =
    let bound = length-flat_map-take (λ (p : Bor (List ℕ)). p.now) c.args.parts.now _ (record { ref_ptr = (0, 0); now = [] }) c.loop-part-test.true in
    search rules
