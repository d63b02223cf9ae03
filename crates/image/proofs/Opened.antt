-- An opening keeps the image.
use Rattle.std.proofs.Common.{◌≡◌, ℕ, ◌<◌, Bool, true, cond, ltb, List, [], ◌∷◌, ◌++◌, map, length, None, refl, ap, ◌∙◌, arith}
use Rattle.std.proofs.lemmas.List.{length-map}
use Rattle.std.proofs.lemmas.Bool.{leb-false, lt-ltb, cond-true}
use Rattle.meaning.specs.declared.opening.Opening.{Opening}
use Rattle.meaning.specs.Basics.{put, in_order}
use Rattle.meaning.specs.Given.{Journal, accounts}
use Rattle.meaning.specs.Rules.{Policy, opening_checks, opening_refused, opening_writes}
use Rattle.meaning.specs.Questions.{standing}
use Rattle.ordered.specs.Orders.{line_before}
use Rattle.ordered.specs.Keyed.{line_of}
use Rattle.ordered.proofs.Orderly.{length-put}
use Rattle.balances.specs.Books.{opened_with}
use Rattle.laws.proofs.Passes.{all_pass}
use Rattle.image.specs.Image.{image_of}
use Rattle.image.proofs.Oldest.{length-oldest}

module _ {K : Type 0} (before : K → K → Bool) where
  pub length-in_order : (ks : List K) → length (in_order before ks) ≡ length ks
  length-in_order [] = refl
  length-in_order (k ∷ ks) = omega (arith, length-put before k (in_order before ks), length-in_order ks)

room_left : (policy : Policy) (J : Journal) (full : Bool) (A : Opening) → opening_refused policy J full A ≡ None → length (accounts J) < 64
room_left policy J full A e = leb-false 64 (length (accounts J)) (all_pass (opening_checks policy J full A) e).1.1.1.1.0

pub by_opening : (policy : Policy) (J : Journal) (T : ℕ) (full : Bool) (A : Opening) → opening_refused policy J full A ≡ None → opened_with (standing J T A) (image_of J T) ≡ image_of (opening_writes T A ∷ J) T
by_opening policy J T full A e =
    let k = image_of J T in
    let room = room_left policy J full A e in
    let rows = length-oldest (standing J T) (accounts J) in
    let lines = length-in_order line_before (map line_of (accounts J)) ∙ length-map (accounts J) line_of in
    let r : ltb (length k.rows) 64 ≡ true = lt-ltb (length k.rows) 64 (omega arith) in
    let l : ltb (length k.lines) 64 ≡ true = lt-ltb (length k.lines) 64 (omega arith) in
    cond-true (ltb (length k.rows) 64) _ _ r
    ∙ ap (λ b. record { rows = k.rows ++ (standing J T A ∷ []); held = k.held; highest = k.highest; queue = k.queue; lines = cond b (put line_before (line_of A) k.lines) k.lines }) l
