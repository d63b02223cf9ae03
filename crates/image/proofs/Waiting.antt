-- What is in the queue: the keys of the reservations that wait, the earliest deadline first.
use Rattle.std.proofs.Common.{◌≡◌, ℕ, Bool, true, false, cond, leb, List, [], ◌∷◌, map, Some, sym, refl, ap, ◌∙◌, arith}
use Rattle.std.specs.List.{AllByRecursion as All, filter}
use Rattle.std.proofs.ByRecursion.{All-weaker}
use Rattle.std.proofs.lemmas.Bool.{eq-eqb, ne_eqb, both_ways}
use Rattle.std.proofs.lemmas.Bool.Decides.{nat_tests}
use Rattle.meaning.specs.Basics.{put, in_order}
use Rattle.meaning.specs.Given.{Reserved}
use Rattle.ordered.specs.declared.due.Due.{Due}
use Rattle.ordered.specs.Orders.{due_before}
use Rattle.ordered.specs.Keyed.{due_of}
use Rattle.ordered.specs.Rows.{Ordered}
use Rattle.ordered.proofs.Orderly.{all_put}
use Rattle.laws.proofs.Finds.{Distinct, find_by}
use Rattle.laws.proofs.Numbered.{key}

module _ {X : Type 0} where
  pub all_both : (P Q : X → Type 0) (xs : List X) → All P xs → All Q xs → All (λ x. P x × Q x) xs
  all_both P Q [] p q = tt
  all_both P Q (x ∷ xs) p q = ((p.0, q.0), all_both P Q xs p.1 q.1)

  -- among distinct keys, each is found by its own
  pub all_found : (k : X → ℕ) (xs : List X) → Distinct k xs → All (λ x. find_by k (k x) xs ≡ Some x) xs
  all_found k [] dist = tt
  all_found k (x ∷ xs) dist = (
    ap (λ b. cond b (Some x) (find_by k (k x) xs)) (eq-eqb (k x) (k x) refl),
    All-weaker (λ y. (k y ≡ k x → ⊥) × (find_by k (k y) xs ≡ Some y)) (λ y. find_by k (k y) (x ∷ xs) ≡ Some y) (λ y h. ap (λ b. cond b (Some x) (find_by k (k y) xs)) (ne_eqb (k x) (k y) (λ e. h.0 (sym e))) ∙ h.1) xs (all_both _ _ xs dist.0 (all_found k xs dist.1)),
  )

  module _ (before : X → X → Bool) (P : X → Type 0) where
    pub all_in_order : (xs : List X) → All P xs → All P (in_order before xs)
    all_in_order [] h = tt
    all_in_order (x ∷ xs) h = all_put before P x (in_order before xs) h.0 (all_in_order xs h.1)

    all_of_put : (x : X) (ys : List X) → All P (put before x ys) → P x × All P ys
    all_of_put x [] h = (h.0, tt)
    all_of_put x (y ∷ ys) h = go (before x y) h (all_of_put x ys)
      where
        go : (b : Bool) → All P (cond b (x ∷ (y ∷ ys)) (y ∷ put before x ys)) → (All P (put before x ys) → P x × All P ys) → P x × All P (y ∷ ys)
        go true q ih = q
        go false q ih = let r = ih q.1 in (r.0, (q.0, r.1))

    pub all_of_in_order : (xs : List X) → All P (in_order before xs) → All P xs
    all_of_in_order [] h = tt
    all_of_in_order (x ∷ xs) h = let r = all_of_put x (in_order before xs) h in (r.0, all_of_in_order xs r.1)

-- what holds for the keys of those that pass, and for those
module _ (P : Due → Type 0) (p : Reserved → Bool) where
  pub all_keys : (rs : List Reserved) → All (λ R. p R ≡ true → P (due_of R)) rs → All P (map due_of (filter p rs))
  all_keys [] h = tt
  all_keys (R ∷ rs) h = go (p R) refl (all_keys rs h.1)
    where
      go : (b : Bool) → p R ≡ b → All P (map due_of (filter p rs)) → All P (map due_of (cond b (R ∷ filter p rs) (filter p rs)))
      go true e r = (h.0 e, r)
      go false e r = r

  pub all_of_keys : (rs : List Reserved) → All P (map due_of (filter p rs)) → All (λ R. p R ≡ true → P (due_of R)) rs
  all_of_keys [] h = tt
  all_of_keys (R ∷ rs) h = go (p R) refl h (all_of_keys rs)
    where
      go : (b : Bool) → p R ≡ b → All P (map due_of (cond b (R ∷ filter p rs) (filter p rs))) → (All P (map due_of (filter p rs)) → All (λ Q. p Q ≡ true → P (due_of Q)) rs) → (p R ≡ true → P (due_of R)) × All (λ Q. p Q ≡ true → P (due_of Q)) rs
      go true e q ih = ((λ x. q.0), ih q.1)
      go false e q ih = ((λ x. absurd (both_ways (p R) e x)), ih q)

-- a key of the queue is that of a reservation that waits
abbrev pub Waits : (Reserved → Bool) → List Reserved → Due → Type 0
Waits p rs d = (R : Reserved) × (find_by key R.number rs ≡ Some R) × (p R ≡ true) × (due_of R ≡ d)

pub queued : (p : Reserved → Bool) (rs : List Reserved) → Distinct key rs → All (Waits p rs) (in_order due_before (map due_of (filter p rs)))
queued p rs dist =
    all_in_order due_before (Waits p rs) (map due_of (filter p rs)) (all_keys (Waits p rs) p rs (All-weaker (λ R. find_by key (key R) rs ≡ Some R) (λ R. p R ≡ true → Waits p rs (due_of R)) (λ R f e. (R, f, e, refl)) rs (all_found key rs dist)))

-- if the first deadline has not come, none has
pub none_due : (t : ℕ) (d : Due) (ds : List Due) → Ordered due_before (d ∷ ds) → leb d.deadline t ≡ false → All (λ (e : Due). leb e.deadline t ≡ false) (d ∷ ds)
none_due t d ds o h = (h, All-weaker (λ e. due_before e d ≡ false) (λ (e : Due). leb e.deadline t ≡ false) later ds o.0)
  where
    later : (e : Due) → due_before e d ≡ false → leb e.deadline t ≡ false
    later e b = grind (arith, nat_tests)
