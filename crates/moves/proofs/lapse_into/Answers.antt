use Rattle.std.proofs.Common.{◌≡◌, length, get_or, set, sym, ap, ◌∙◌, arith}
use Rattle.std.specs.Option.{unwrap_or}
use Rattle.balances.specs.Books.{books_of}
use Rattle.balances.specs.Lapses.{next_due, number_in}
use Rattle.moves.proofs.Stepping.{one_more, number_more}
use Rattle.moves.proofs.lapse_into.Goals as goal
use Rattle.moves.proofs.lapse_into.Goals.{in-Some, in_default}

pub loop-place-preserved : goal.loop-place-preserved
loop-place-preserved c =
    let t = c.args.moment in
    let xs = c.loop-place.places in
    let i = c.loop-place.place-index in
    let k = books_of c.loop-place.balances in
    let written : c.match-lapse_next.places ≡ set xs i (unwrap_or (number_in (next_due t k)) (get_or xs i 0)) =
    elim c.match-lapse_next.branch [
      | in-Some w ↦ w.places-is ∙ ap (set xs i) (sym (ap (λ o. unwrap_or o (get_or xs i 0)) (sym c.lapse_next.ensures.number ∙ w.in-Some.is)))
      | in_default w ↦ w.places-is ∙ ap (set xs i) (sym (ap (λ o. unwrap_or o (get_or xs i 0)) (sym c.lapse_next.ensures.number ∙ w.in_default.is)))
    ] in
    let step = one_more (length xs) i t k (omega arith) in
    let long : length c.match-lapse_next.places ≡ length xs = omega arith in
    let next = number_more t k xs c.match-lapse_next.places _ i (omega arith) written c.loop-place.invariant.1 in
    (cc, cc)
