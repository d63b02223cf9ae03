-- Two rows that change are the rows of two accounts that change.
use Rattle.std.proofs.Common.{◌≡◌, ℕ, ◌+◌, ◌≤◌, Bool, true, false, cond, eqb, List, [], ◌∷◌, ◌++◌, map, get_or, set, sym, refl, ap, ◌∙◌, arith}
use Rattle.std.proofs.lemmas.Bool.{le-leb, eqb-true, ne_eqb, eqb-false, eq-eqb}
use Rattle.meaning.specs.declared.opening.Opening.{Opening}
use Rattle.meaning.specs.Basics.{at}
use Rattle.meaning.specs.Sound.{top, fits}
use Rattle.meaning.specs.declared.standing.Standing.{Standing}
use Rattle.meaning.specs.Rows.{debited, credited}
use Rattle.balances.specs.Books.{no_row}
use Rattle.laws.proofs.Finds.{Distinct}
use Rattle.laws.proofs.Known.{akey}
use Rattle.image.specs.Image.{oldest}
use Rattle.image.proofs.Asked.{skey}
use Rattle.image.proofs.Oldest.{place, place_by_keys, changed_at, changed_if, changed_there, map-oldest, distinct_oldest}

-- the number of a row does not change with it
kept_key : (n : ℕ) (g : Standing → Standing) → ((s : Standing) → skey (g s) ≡ skey s) → (s : Standing) → skey (changed_if skey n no_row g s) ≡ skey s
kept_key n g keep s = go (eqb (skey s) n)
  where
    go : (b : Bool) → skey (cond b (g s) s) ≡ skey s
    go true = keep s
    go false = refl

module _ (S : Opening → Standing) (same : (A : Opening) → skey (S A) ≡ akey A) (As : List Opening) (apart : Distinct akey As) where
  one_change : (n : ℕ) (g : Standing → Standing) → changed_at skey n no_row g (oldest S As) ≡ oldest (λ A. changed_if skey n no_row g (S A)) As
  one_change n g = changed_there skey n no_row g (oldest S As) (distinct_oldest S akey skey same As apart) ∙ map-oldest S (changed_if skey n no_row g) As

  keys : map skey (oldest S As) ≡ oldest akey As
  keys = map-oldest S skey As ∙ ap_oldest As
    where
      ap_oldest : (Bs : List Opening) → oldest (λ A. skey (S A)) Bs ≡ oldest akey Bs
      ap_oldest [] = refl
      ap_oldest (B ∷ Bs) = ap (λ ns. ns ++ (skey (S B) ∷ [])) (ap_oldest Bs) ∙ ap (λ n. oldest akey Bs ++ (n ∷ [])) (same B)

module _ (S : Opening → Standing) (same : (A : Opening) → skey (S A) ≡ akey A) (As : List Opening) (apart : Distinct akey As) (d c : ℕ) (f g : Standing → Standing) (keep : (s : Standing) → skey (f s) ≡ skey s) where
  abbrev first : Opening → Standing
  first A = changed_if skey d no_row f (S A)

  same_first : (A : Opening) → skey (first A) ≡ akey A
  same_first A = kept_key d f keep (S A) ∙ same A

  pub two_changes : set (changed_at skey d no_row f (oldest S As)) (place skey c (oldest S As)) (g (get_or (changed_at skey d no_row f (oldest S As)) (place skey c (oldest S As)) no_row)) ≡ oldest (λ A. changed_if skey c no_row g (first A)) As
  two_changes =
      ap (λ rs. set rs (place skey c (oldest S As)) (g (get_or rs (place skey c (oldest S As)) no_row))) (one_change S same As apart d f)
      ∙ (ap (λ i. set (oldest first As) i (g (get_or (oldest first As) i no_row))) (place_by_keys skey skey c (oldest S As) (oldest first As) (keys S same As apart ∙ sym (keys first same_first As apart)))
      ∙ one_change first same_first As apart c g)

-- p more pending and q more posted from account d to account c, where both sides take it
module _ (A : Opening) (dp dq cp cq : ℕ) (d c p q : ℕ) (ne : d ≡ c → ⊥) (fd : A.number ≡ d → dp + dq + p + q ≤ top) (fc : A.number ≡ c → cp + cq + p + q ≤ top) where
  abbrev row : Standing
  row = record { account = A; debits_pending = dp; debits_posted = dq; credits_pending = cp; credits_posted = cq }

  standing_of_lem : {dp' dq' cp' cq' dp'' dq'' cp'' cq'' : ℕ} → dp' ≡ dp'' → dq' ≡ dq'' → cp' ≡ cp'' → cq' ≡ cq'' → ◌≡◌ {A = Standing} (record { account = A; debits_pending = dp'; debits_posted = dq'; credits_pending = cp'; credits_posted = cq' }) (record { account = A; debits_pending = dp''; debits_posted = dq''; credits_pending = cp''; credits_posted = cq'' })
  standing_of_lem e1 e2 e3 e4 = λ i. record { account = A; debits_pending = e1 i; debits_posted = e2 i; credits_pending = e3 i; credits_posted = e4 i }

  -- nothing is added to what is not concerned
  none : (m n x : ℕ) (b : Bool) → b ≡ false → n ≡ n + at b x
  none m n x b e = let z : at b x ≡ 0 = ap (λ t. at t x) e in omega arith

  abbrev after : Standing
  after = record { account = A; debits_pending = dp + at (eqb d A.number) p; debits_posted = dq + at (eqb d A.number) q; credits_pending = cp + at (eqb c A.number) p; credits_posted = cq + at (eqb c A.number) q }

  pub moved_row : changed_if skey c no_row (credited p q) (changed_if skey d no_row (debited p q) row) ≡ after
  moved_row = go (eqb A.number d) refl
    where
      other : (n : ℕ) → (A.number ≡ n → ⊥) → eqb n A.number ≡ false
      other n x = ne_eqb n A.number (λ e. x (sym e))

      credit_too : (b : Bool) → eqb A.number c ≡ b → (A.number ≡ d → ⊥) → cond b (credited p q row) row ≡ after
      credit_too true e nd =
          let is : A.number ≡ c = eqb-true A.number c e in
          let f : fits cp cq (p + q) ≡ true = le-leb (cp + cq + (p + q)) top (omega (arith, fc is)) in
          let h : eqb c A.number ≡ true = eq-eqb c A.number (sym is) in
          let nod = other d nd in
          standing_of_lem (none 0 dp p (eqb d A.number) nod) (none 0 dq q (eqb d A.number) nod) (ap (λ b. cp + at b p) (f ∙ sym h)) (ap (λ b. cq + at b q) (f ∙ sym h))
      credit_too false e nd =
          let noc = other c (eqb-false A.number c e) in
          let nod = other d nd in
          standing_of_lem (none 0 dp p (eqb d A.number) nod) (none 0 dq q (eqb d A.number) nod) (none 0 cp p (eqb c A.number) noc) (none 0 cq q (eqb c A.number) noc)

      go : (b : Bool) → eqb A.number d ≡ b → changed_if skey c no_row (credited p q) (cond b (debited p q row) row) ≡ after
      go true e =
          let is : A.number ≡ d = eqb-true A.number d e in
          let f : fits dp dq (p + q) ≡ true = le-leb (dp + dq + (p + q)) top (omega (arith, fd is)) in
          let h : eqb d A.number ≡ true = eq-eqb d A.number (sym is) in
          let nc : A.number ≡ c → ⊥ = λ x. ne (sym is ∙ x) in
          let noc = other c nc in
          ap (λ b. cond b (credited p q (debited p q row)) (debited p q row)) (ne_eqb A.number c nc)
          ∙ standing_of_lem (ap (λ b. dp + at b p) (f ∙ sym h)) (ap (λ b. dq + at b q) (f ∙ sym h)) (none 0 cp p (eqb c A.number) noc) (none 0 cq q (eqb c A.number) noc)
      go false e = credit_too (eqb A.number c) refl (eqb-false A.number d e)
