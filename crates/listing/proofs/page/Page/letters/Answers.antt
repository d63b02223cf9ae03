use Rattle.std.proofs.Common.{◌≡◌, cond, eqb, [], ◌∷◌, get_or, sym, ◌∙◌}
use Rattle.std.proofs.lemmas.Bool.{eq-eqb, ne_eqb}
use Rattle.listing.specs.Pages.{with_bytes}
use Rattle.listing.proofs.Writing.{letter_more, letters_end}
use Rattle.listing.proofs.page.Page.letters.Goals as goal
use Rattle.listing.proofs.page.Page.letters.Goals.{then-byte-ne-FILLING, else-byte-ne-FILLING}

pub loop-byte-preserved : goal.loop-byte-preserved
loop-byte-preserved c =
    let bs = c.args.name.now in
    let i = c.loop-byte.byte-index in
    let p = c.loop-byte.self in
    let q = c.if-byte-ne-FILLING.self in
    let step : q ≡ cond (eqb (get_or bs i 0) 32) p (with_bytes (get_or bs i 0 ∷ []) p) = elim c.if-byte-ne-FILLING.branch [
      | then-byte-ne-FILLING w ↦ (let e = ne_eqb (get_or bs i 0) 32 w.if-byte-ne-FILLING.true in rw e (w.self-is ∙ w.byte.ensures))
      | else-byte-ne-FILLING w ↦ (let e = eq-eqb (get_or bs i 0) 32 w.if-byte-ne-FILLING.false in rw e w.self-is)
    ] in
    sym (letter_more bs i p q c.loop-byte-test.true step) ∙ c.loop-byte.invariant

pub returns : goal.returns
returns c = sym (letters_end c.args.name.now c.loop-byte.byte-index c.loop-byte.self c.loop-byte-test.false) ∙ c.loop-byte.invariant
