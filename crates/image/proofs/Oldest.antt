-- Lists turned round, and the place of a key in them.
use Rattle.std.proofs.Common.{◌≡◌, ℕ, ◌+◌, Bool, true, false, cond, eqb, List, [], ◌∷◌, ◌++◌, map, length, get_or, set, Some, None, Option, sym, refl, ap, ◌∙◌, suc, not, arith}
use Rattle.std.specs.List.{AllByRecursion as All, prefix_len, position_or_len}
use Rattle.std.proofs.lemmas.List.Folds.{find_at}
use Rattle.std.proofs.lemmas.List.{map-append, length-append}
use Rattle.std.specs.Option.{option_map, option_or}
use Rattle.std.proofs.ByRecursion.{All-weaker}
use Rattle.std.proofs.lemmas.Bool.{ne_eqb, eqb-true}
use Rattle.std.specs.Prelude.{slice_get}
use Rattle.balances.proofs.Placing.{prefix_len-map}
use Rattle.image.specs.Image.{oldest}
use Rattle.laws.proofs.Finds.{Distinct, find_by}

-- the place of key n
abbrev pub place : {Y : Type 0} → (Y → ℕ) → ℕ → List Y → ℕ
place key n ys = position_or_len (λ y. eqb (key y) n) ys

pub one_more : (n : ℕ) → 1 + n ≡ suc n
one_more n = omega arith

-- lists with the same keys have it at the same place
pub place_by_keys : {Y Z : Type 0} (f : Y → ℕ) (g : Z → ℕ) (n : ℕ) (ys : List Y) (zs : List Z) → map f ys ≡ map g zs → place f n ys ≡ place g n zs
place_by_keys f g n ys zs e =
    prefix_len-map f (λ m. not (eqb m n)) ys ∙ ap (prefix_len (λ m. not (eqb m n))) e ∙ sym (prefix_len-map g (λ m. not (eqb m n)) zs)

-- a change of what stands at the place of key n
module _ {Y : Type 0} (key : Y → ℕ) (n : ℕ) (d : Y) (g : Y → Y) where
  abbrev pub changed_at : List Y → List Y
  changed_at ys = set ys (place key n ys) (g (get_or ys (place key n ys) d))

  abbrev pub changed_if : Y → Y
  changed_if y = cond (eqb (key y) n) (g y) y

  -- where no key is n nothing changes
  pub unchanged : (ys : List Y) → All (λ y. key y ≡ n → ⊥) ys → map changed_if ys ≡ ys
  unchanged [] h = refl
  unchanged (y ∷ ys) h =
      let no : eqb (key y) n ≡ false = ne_eqb (key y) n h.0 in
      ap (λ b. cond b (g y) y ∷ map changed_if ys) no ∙ ap (λ zs. y ∷ zs) (unchanged ys h.1)

  -- at the place of n is where the key is n
  pub changed_there : (ys : List Y) → Distinct key ys → changed_at ys ≡ map changed_if ys
  changed_there [] h = refl
  changed_there (y ∷ ys) h = go (eqb (key y) n) refl (changed_there ys h.1)
    where
      go : (b : Bool) → eqb (key y) n ≡ b → changed_at ys ≡ map changed_if ys → set (y ∷ ys) (cond (not b) (1 + place key n ys) 0) (g (get_or (y ∷ ys) (cond (not b) (1 + place key n ys) 0) d)) ≡ cond b (g y) y ∷ map changed_if ys
      go true e ih =
          let is : key y ≡ n = eqb-true (key y) n e in
          let others = All-weaker (λ z. key z ≡ key y → ⊥) (λ z. key z ≡ n → ⊥) (λ z ne v. ne (v ∙ sym is)) ys h.0 in
          ap (λ zs. g y ∷ zs) (sym (unchanged ys others))
      go false e ih = ap (λ m. set (y ∷ ys) m (g (get_or (y ∷ ys) m d))) (one_more (place key n ys)) ∙ ap (λ zs. y ∷ zs) ih

or_none : {Y : Type 0} (o : Option Y) → option_or o None ≡ o
or_none None = refl
or_none (Some y) = refl

-- what stands at the place of n is the first whose key is n
module _ {Y : Type 0} (key : Y → ℕ) (n : ℕ) where
  pub asked_found : (ys : List Y) → slice_get ys (place key n ys) ≡ find_by key n ys
  asked_found ys = sym (find_at (λ y. eqb (key y) n) ys)

  -- and the last, put behind others
  pub find_push : (ys : List Y) (y : Y) → find_by key n (ys ++ (y ∷ [])) ≡ option_or (find_by key n ys) (cond (eqb (key y) n) (Some y) None)
  find_push [] y = refl
  find_push (x ∷ ys) y = go (eqb (key x) n) (find_push ys y)
    where
      go : (b : Bool) → find_by key n (ys ++ (y ∷ [])) ≡ option_or (find_by key n ys) (cond (eqb (key y) n) (Some y) None) → cond b (Some x) (find_by key n (ys ++ (y ∷ []))) ≡ option_or (cond b (Some x) (find_by key n ys)) (cond (eqb (key y) n) (Some y) None)
      go true ih = refl
      go false ih = ih

  pub find_missing : (ys : List Y) → All (λ y. key y ≡ n → ⊥) ys → find_by key n ys ≡ None
  find_missing [] h = refl
  find_missing (y ∷ ys) h = let no : eqb (key y) n ≡ false = ne_eqb (key y) n h.0 in ap (λ b. cond b (Some y) (find_by key n ys)) no ∙ find_missing ys h.1

module _ {X Y : Type 0} (f : X → Y) where
  pub map-oldest : {Z : Type 0} (g : Y → Z) (xs : List X) → map g (oldest f xs) ≡ oldest (λ x. g (f x)) xs
  map-oldest g [] = refl
  map-oldest g (x ∷ xs) = map-append g (oldest f xs) (f x ∷ []) ∙ ap (λ zs. zs ++ (g (f x) ∷ [])) (map-oldest g xs)

  pub all_oldest : (P : Y → Type 0) (xs : List X) → All (λ x. P (f x)) xs → All P (oldest f xs)
  all_oldest P [] h = tt
  all_oldest P (x ∷ xs) h = push (oldest f xs) (all_oldest P xs h.1)
    where
      push : (ys : List Y) → All P ys → All P (ys ++ (f x ∷ []))
      push [] a = (h.0, tt)
      push (y ∷ ys) a = (a.0, push ys a.1)

  pub length-oldest : (xs : List X) → length (oldest f xs) ≡ length xs
  length-oldest [] = refl
  length-oldest (x ∷ xs) = omega (arith, length-append (oldest f xs) (f x ∷ []), length-oldest xs)

  pub same-oldest : (g : X → Y) (xs : List X) → All (λ x. f x ≡ g x) xs → oldest f xs ≡ oldest g xs
  same-oldest g [] h = refl
  same-oldest g (x ∷ xs) h = ap (λ ys. ys ++ (f x ∷ [])) (same-oldest g xs h.1) ∙ ap (λ y. oldest g xs ++ (y ∷ [])) h.0

  module _ (k : X → ℕ) (key : Y → ℕ) (same : (x : X) → key (f x) ≡ k x) where
    pub distinct_oldest : (xs : List X) → Distinct k xs → Distinct key (oldest f xs)
    distinct_oldest [] h = tt
    distinct_oldest (x ∷ xs) h =
        push (oldest f xs) (distinct_oldest xs h.1) (all_oldest (λ y. key y ≡ key (f x) → ⊥) xs (All-weaker (λ z. k z ≡ k x → ⊥) (λ z. key (f z) ≡ key (f x) → ⊥) (λ z ne v. ne (sym (same z) ∙ (v ∙ same x))) xs h.0))
      where
        push : (ys : List Y) → Distinct key ys → All (λ y. key y ≡ key (f x) → ⊥) ys → Distinct key (ys ++ (f x ∷ []))
        push [] dist a = (tt, tt)
        push (y ∷ ys) dist a = (last ys dist.0, push ys dist.1 a.1)
          where
            last : (zs : List Y) → All (λ z. key z ≡ key y → ⊥) zs → All (λ z. key z ≡ key y → ⊥) (zs ++ (f x ∷ []))
            last [] b = ((λ e. a.0 (sym e)), tt)
            last (z ∷ zs) b = (b.0, last zs b.1)

    -- the one whose key is n is found in either order
    pub find-oldest : (n : ℕ) (xs : List X) → Distinct k xs → find_by key n (oldest f xs) ≡ option_map f (find_by k n xs)
    find-oldest n [] h = refl
    find-oldest n (x ∷ xs) h = find_push key n (oldest f xs) (f x) ∙ (ap (λ m. option_or (find_by key n (oldest f xs)) (cond (eqb m n) (Some (f x)) None)) (same x) ∙ go (eqb (k x) n) refl (find-oldest n xs h.1))
      where
        go : (b : Bool) → eqb (k x) n ≡ b → find_by key n (oldest f xs) ≡ option_map f (find_by k n xs) → option_or (find_by key n (oldest f xs)) (cond b (Some (f x)) None) ≡ option_map f (cond b (Some x) (find_by k n xs))
        go true e ih =
            let is : k x ≡ n = eqb-true (k x) n e in
            let none = find_missing k n xs (All-weaker (λ z. k z ≡ k x → ⊥) (λ z. k z ≡ n → ⊥) (λ z ne v. ne (v ∙ sym is)) xs h.0) in
            ap (λ o. option_or o (Some (f x))) (ih ∙ ap (option_map f) none)
        go false e ih = or_none (find_by key n (oldest f xs)) ∙ ih
