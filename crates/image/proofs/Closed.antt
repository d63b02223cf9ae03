-- A post and a void keep the image.
use Rattle.std.proofs.Common.{◌≡◌, ℕ, ◌+◌, ◌<◌, Bool, true, false, cond, eqb, ◌∷◌, Some, None, sym, refl, ap, ◌∙◌, arith}
use Rattle.meaning.specs.declared.content.Content.TheVariants.{Post, Void}
use Rattle.meaning.specs.declared.fate.Event.TheVariants.{Post as posting, Void as voiding}
use Rattle.meaning.specs.declared.fate.Fate.TheVariants.{Live, Posted, Voided}
use Rattle.meaning.specs.Basics.{at}
use Rattle.meaning.specs.Fates.{decided}
use Rattle.meaning.specs.Given.{Journal, Reserved, reservations, the_reservation, fate, highest, pick, posted}
use Rattle.meaning.specs.Rules.{Policy, number_refused, refused}
use Rattle.balances.specs.Books.{held_place}
use Rattle.balances.specs.Legs.{closed}
use Rattle.laws.specs.Steps.{Reads}
use Rattle.laws.proofs.Finds.{find_key}
use Rattle.laws.proofs.Fates.{fates_go_on}
use Rattle.laws.proofs.Passes.{both_none, number_above}
use Rattle.laws.proofs.Numbered.{key, numbered}
use Rattle.laws.proofs.Known.{known}
use Rattle.laws.proofs.Totals.{step}
use Rattle.image.specs.Image.{image_of, entry}
use Rattle.image.proofs.Ending.{close_at}

module _ (policy : Policy) (J : Journal) (h : Reads policy J) (T n : ℕ) (l : Bool) where
  pub by_post : (r z : ℕ) → refused policy J T n (Post r z) ≡ None → closed posting n (held_place (image_of J T) r) z (image_of J T) ≡ image_of (entry n l T (Post r z) ∷ J) T
  by_post r z e =
      let N = numbered policy J h in
      let st = step policy J T n l T (Post r z) N e in
      let R = st.0 in
      let kr : R.number ≡ r = find_key key r (reservations J) R st.1.found in
      let lt : highest J < n = number_above policy J T n (both_none (number_refused (highest J) n) _ e).0 in
      let found : the_reservation J R.number ≡ Some R = ap (the_reservation J) kr ∙ st.1.found in
      let after : (Q : Reserved) → fate (entry n l T (Post r z) ∷ J) T Q ≡ decided (cond (eqb R.number Q.number) Posted Live) (fate J T Q) = λ Q. (fates_go_on J T Q).by_entry (entry n l T (Post r z)) ∙ ap (λ m. decided (cond (eqb m Q.number) Posted Live) (fate J T Q)) (sym kr) in
      ap (λ m. closed posting n (held_place (image_of J T) m) z (image_of J T)) (sym kr)
      ∙ close_at J (entry n l T (Post r z) ∷ J) (fate J T) (fate (entry n l T (Post r z) ∷ J) T) R N.distinct found st.1.live posting Posted refl refl (λ f. refl) after (known policy J h).apart z st.2 st.3 n refl refl (omega arith)

  pub by_void : (r : ℕ) → refused policy J T n (Void r) ≡ None → closed voiding n (held_place (image_of J T) r) 0 (image_of J T) ≡ image_of (entry n l T (Void r) ∷ J) T
  by_void r e =
      let N = numbered policy J h in
      let st = step policy J T n l T (Void r) N e in
      let R = st.0 in
      let kr : R.number ≡ r = find_key key r (reservations J) R st.1.found in
      let lt : highest J < n = number_above policy J T n (both_none (number_refused (highest J) n) _ e).0 in
      let found : the_reservation J R.number ≡ Some R = ap (the_reservation J) kr ∙ st.1.found in
      let after : (Q : Reserved) → fate (entry n l T (Void r) ∷ J) T Q ≡ decided (cond (eqb R.number Q.number) Voided Live) (fate J T Q) = λ Q. (fates_go_on J T Q).by_entry (entry n l T (Void r)) ∙ ap (λ m. decided (cond (eqb m Q.number) Voided Live) (fate J T Q)) (sym kr) in
      ap (λ m. closed voiding n (held_place (image_of J T) m) 0 (image_of J T)) (sym kr)
      ∙ close_at J (entry n l T (Void r) ∷ J) (fate J T) (fate (entry n l T (Void r) ∷ J) T) R N.distinct found st.1.live voiding Voided refl refl (λ f. refl) after (known policy J h).apart 0 (omega arith) (λ s a. ((st.2 s a).0, (st.2 s a).1 ∙ zero (posted J s a) (eqb (pick s R.debit R.credit) a))) n refl refl (omega arith)
    where
      zero : (m : ℕ) (b : Bool) → m ≡ m + at b 0
      zero m true = omega arith
      zero m false = omega arith
