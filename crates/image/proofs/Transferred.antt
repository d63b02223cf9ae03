-- A transfer keeps the image.
use Rattle.std.proofs.Common.{◌≡◌, ℕ, ◌+◌, ◌<◌, ◌≤◌, max, Bool, true, false, eqb, List, [], ◌∷◌, None, sym, refl, ◌∙◌, subst, arith}
use Rattle.std.specs.List.{AllByRecursion as All}
use Rattle.meaning.specs.declared.content.Content.TheVariants.{Transfer}
use Rattle.meaning.specs.declared.opening.Opening.{Opening}
use Rattle.meaning.specs.Basics.{at}
use Rattle.meaning.specs.Sound.{top}
use Rattle.meaning.specs.Given.{Journal, accounts, highest, debits, credits, pending, posted}
use Rattle.meaning.specs.Rules.{Policy, refused}
use Rattle.meaning.specs.Questions.{standing}
use Rattle.meaning.specs.Rows.{debited, credited}
use Rattle.balances.specs.Books.{no_row}
use Rattle.balances.specs.Legs.{transferred}
use Rattle.balances.proofs.Tables.{books}
use Rattle.laws.specs.Steps.{Reads}
use Rattle.laws.proofs.Finds.{find_key}
use Rattle.laws.proofs.Passes.{movement_passes}
use Rattle.laws.proofs.Numbered.{numbered}
use Rattle.laws.proofs.Known.{akey, known}
use Rattle.laws.proofs.Totals.{step}
use Rattle.image.specs.Image.{image_of, entry}
use Rattle.image.proofs.Oldest.{same-oldest, changed_if}
use Rattle.image.proofs.Asked.{skey}
use Rattle.image.proofs.Moving.{two_changes, moved_row}

pub all_of : {X : Type 0} (P : X → Type 0) → ((x : X) → P x) → (xs : List X) → All P xs
all_of P h [] = tt
all_of P h (x ∷ xs) = (h x, all_of P h xs)

module _ (policy : Policy) (J : Journal) (h : Reads policy J) (T n : ℕ) (l : Bool) (d c z : ℕ) (e : refused policy J T n (Transfer d c z) ≡ None) where
  abbrev J' : Journal
  J' = entry n l T (Transfer d c z) ∷ J

  row_after : (A : Opening) → changed_if skey c no_row (credited 0 z) (changed_if skey d no_row (debited 0 z) (standing J T A)) ≡ standing J' T A
  row_after A =
      let m = movement_passes policy J T n d c 0 z e in
      let kd : m.debit.number ≡ d = find_key akey d (accounts J) m.debit m.is_debit in
      let kc : m.credit.number ≡ c = find_key akey c (accounts J) m.credit m.is_credit in
      let st = step policy J T n l T (Transfer d c z) (numbered policy J h) e in
      let sd = st debits A.number in
      let sc = st credits A.number in
      let ne : d ≡ c → ⊥ = λ x. m.moves.apart (kd ∙ (x ∙ sym kc)) in
      let fd : A.number ≡ d → pending J T debits A.number + posted J debits A.number + 0 + z ≤ top = λ x. subst (λ a. pending J T debits a + posted J debits a + 0 + z ≤ top) (kd ∙ sym x) m.moves.debit_fits in
      let fc : A.number ≡ c → pending J T credits A.number + posted J credits A.number + 0 + z ≤ top = λ x. subst (λ a. pending J T credits a + posted J credits a + 0 + z ≤ top) (kc ∙ sym x) m.moves.credit_fits in
      moved_row A (pending J T debits A.number) (posted J debits A.number) (pending J T credits A.number) (posted J credits A.number) d c 0 z ne fd fc
      ∙ (λ i. record { account = A; debits_pending = (grind_zero (pending J T debits A.number) (eqb d A.number) ∙ sym sd.0) i; debits_posted = sym sd.1 i; credits_pending = (grind_zero (pending J T credits A.number) (eqb c A.number) ∙ sym sc.0) i; credits_posted = sym sc.1 i })
    where
      grind_zero : (m : ℕ) (b : Bool) → m + at b 0 ≡ m
      grind_zero m true = omega arith
      grind_zero m false = omega arith

  pub by_transfer : transferred n d c z (image_of J T) ≡ image_of J' T
  by_transfer =
      let k = image_of J T in
      let lt : highest J < n = (movement_passes policy J T n d c 0 z e).above in
      let top-number : n ≡ max (highest J) n = omega arith in
      let rows = two_changes (standing J T) (λ A. refl) (accounts J) (known policy J h).apart d c (debited 0 z) (credited 0 z) (λ s. refl) ∙ same-oldest _ (standing J' T) (accounts J) (all_of _ row_after (accounts J)) in
      λ i. books (rows i) k.held (top-number i) k.queue k.lines
