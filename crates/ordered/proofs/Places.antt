-- Where a key is put in, and where it is taken out.
use Rattle.std.proofs.Common.{◌≡◌, ℕ, suc, ◌≤◌, Bool, true, false, not, cond, ltb, List, [], ◌∷◌, length, position, Some, None, refl, ap, sym, ◌∙◌, arith, one-add}
use Rattle.std.specs.List.{insert, remove, prefix_len, position_or_len}
use Rattle.std.proofs.lemmas.Option.{none-some, cond_some}
use Rattle.std.proofs.lemmas.Bool.{ltb-false}
use Rattle.std.proofs.lemmas.List.{take_all, drop_all, append-nil}
use Rattle.meaning.specs.Basics.{put}
use Rattle.ordered.specs.Rows.{apart, without}

module _ {K : Type 0} (before : K → K → Bool) (k : K) where
  -- behind all at the front that come no later
  pub put_at_place : (xs : List K) → insert xs (prefix_len (λ x. not (before k x)) xs) k ≡ put before k xs
  put_at_place [] = refl
  put_at_place (x ∷ xs) = go (before k x) refl (put_at_place xs)
    where
      go : (b : Bool) → before k x ≡ b → insert xs (prefix_len (λ x. not (before k x)) xs) k ≡ put before k xs → insert (x ∷ xs) (prefix_len (λ x. not (before k x)) (x ∷ xs)) k ≡ put before k (x ∷ xs)
      go true e r = rw e
      go false e r = rw e (rw (one-add (prefix_len (λ x. not (before k x)) xs)) (ap (λ ys. x ∷ ys) r))

  -- at the first that is the same
  abbrev same : K → Bool
  same x = not (apart before k x)

  without_at_place : (xs : List K) → remove xs (position_or_len same xs) ≡ without before k xs
  without_at_place [] = refl
  without_at_place (x ∷ xs) = go (apart before k x) refl (without_at_place xs)
    where
      go : (b : Bool) → apart before k x ≡ b → remove xs (position_or_len same xs) ≡ without before k xs → remove (x ∷ xs) (position_or_len same (x ∷ xs)) ≡ without before k (x ∷ xs)
      go true e r = rw e (rw (one-add (position_or_len same xs)) (ap (λ ys. x ∷ ys) r))
      go false e r = rw e

  pub without_found : (xs : List K) (i : ℕ) → position same xs ≡ Some i → remove xs i ≡ without before k xs
  without_found xs i e = ap (remove xs) (sym (cond_some _ _ _ e).1) ∙ without_at_place xs

  pub without_missing : (xs : List K) → position same xs ≡ None → xs ≡ without before k xs
  without_missing xs e = go (ltb n (length xs)) refl e
    where
      n : ℕ
      n = position_or_len same xs

      go : (b : Bool) → ltb n (length xs) ≡ b → cond b (Some n) None ≡ None → xs ≡ without before k xs
      go true f e = absurd (none-some n (sym e))
      go false f e =
          let past : length xs ≤ n = ltb-false n (length xs) f in
          let front = take_all n xs past in
          let rest = drop_all (suc n) xs (omega arith) in
          let all = append-nil xs in
          let at = without_at_place xs in
          cc
