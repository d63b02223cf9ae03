use Rattle.std.proofs.Common.{◌≡◌, ℕ, ◌+◌, ◌++◌, List, Bor, [], length, take, get_or, ap, ◌∙◌, sym, arith}
use Rattle.std.proofs.lemmas.List.{length-append}
use Rattle.std.proofs.lemmas.List.Folds.{length-flat_map-take}
use Rattle.scripts.specs.Pages.{joined_parts, laid}
use Rattle.scripts.proofs.Laid.{joined_more, length_laid, laid_more}
use Rattle.scripts.proofs.page.Page.put_each.Goals as goal

pub put_one-requires : goal.put_one-requires
put_one-requires c =
    let parts = c.args.parts.now in
    let bs = c.args.self.now.bytes.now in
    let n = c.args.self.now.next in
    let so_far = joined_parts (take c.loop-part.part-index parts) in
    let room = length-flat_map-take (λ (p : Bor (List ℕ)). p.now) parts _ (record { ref_ptr = (0, 0); now = [] }) c.loop-part-test.true in
    let long : length c.loop-part.self.bytes.now ≡ length bs = ap length c.loop-part.invariant.1.0 ∙ length_laid n so_far bs (omega (arith, room, c.requires)) in
    omega (arith, room, long, c.requires, c.loop-part.invariant.1.1)

pub loop-part-preserved : goal.loop-part-preserved
loop-part-preserved c =
    let parts = c.args.parts.now in
    let bs = c.args.self.now.bytes.now in
    let n = c.args.self.now.next in
    let so_far = joined_parts (take c.loop-part.part-index parts) in
    let part = (get_or parts c.loop-part.part-index (record { ref_ptr = (0, 0); now = [] })).now in
    let room = length-flat_map-take (λ (p : Bor (List ℕ)). p.now) parts _ (record { ref_ptr = (0, 0); now = [] }) c.loop-part-test.true in
    let more : joined_parts (take (c.loop-part.part-index + 1) parts) ≡ so_far ++ part = joined_more parts _ c.loop-part-test.true in
    let laid_here : c.put_one.new.self.bytes.now ≡ laid (n + length so_far) part (laid n so_far bs) = c.put_one.ensures.bytes ∙ ap (λ k. laid k part c.loop-part.self.bytes.now) c.loop-part.invariant.1.1 ∙ ap (laid (n + length so_far) part) c.loop-part.invariant.1.0 in
    let all : c.put_one.new.self.bytes.now ≡ laid n (joined_parts (take (c.loop-part.part-index + 1) parts)) bs = laid_here ∙ laid_more n so_far bs (omega (arith, room, c.requires)) part ∙ ap (λ xs. laid n xs bs) (sym more) in
    (c.put_one.ensures.same ∙ c.loop-part.invariant.0, (all, c.put_one.ensures.next ∙ omega (arith, ap length more, length-append so_far part, c.loop-part.invariant.1.1)))
