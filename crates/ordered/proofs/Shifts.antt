-- What moving a part of a row by one place leaves.
use Rattle.std.proofs.Common.{◌≡◌, ℕ, suc, ◌+◌, ◌-◌, ◌<◌, ◌≤◌, List, ◌∷◌, ◌++◌, length, take, drop, set, ◌∙◌, append_assoc, arith}
use lib.Seq.{paste}
use Rattle.std.specs.List.{insert, remove}
use Rattle.std.proofs.lemmas.List.{set_split, take-append-le, take-take, drop_at, length-append, length-take, length-drop}
use Rattle.std.proofs.lemmas.Slice.{between_is}

module _ {X : Type 0} where
  -- those from i on move up, and k goes to i
  pub shift_up : (row : List X) (n i : ℕ) (k : X) → n < length row → i ≤ n → set (paste row (i + 1) (drop i row) (n - i)) i k ≡ insert (take n row) i k ++ drop (n + 1) row
  shift_up row n i k room at =
      let mid = take (n - i) (drop i row) in
      let whole : set ((take (i + 1) row ++ mid) ++ drop ((i + 1) + (n - i)) row) i k ≡ _ = set_split ((take (i + 1) row ++ mid) ++ drop ((i + 1) + (n - i)) row) i k (simp (length-append, length-take, length-drop) (omega arith)) in
      let short : i ≤ length (take (i + 1) row) = simp length-take (omega arith) in
      let front : take i ((take (i + 1) row ++ mid) ++ drop ((i + 1) + (n - i)) row) ≡ take i row = rw append_assoc (take-append-le i (take (i + 1) row) _ short ∙ take-take i (i + 1) row (omega arith)) in
      let back : drop (suc i) ((take (i + 1) row ++ mid) ++ drop ((i + 1) + (n - i)) row) ≡ mid ++ drop ((i + 1) + (n - i)) row = rw append_assoc (drop_at (take (i + 1) row) _ (suc i) (simp length-take (omega arith))) in
      let end : (i + 1) + (n - i) ≡ n + 1 = omega arith in
      let f = take-take i n row at in
      let m : mid ≡ drop i (take n row) = between_is row i n in
      let join = append_assoc (take i row) (k ∷ mid) (drop (n + 1) row) in
      cc

  -- those behind i move down
  pub shift_down : (row : List X) (n i : ℕ) → n ≤ length row → i < n → paste row i (drop (i + 1) row) (n - (i + 1)) ≡ remove (take n row) i ++ drop (n - 1) row
  shift_down row n i room at =
      let end : i + (n - (i + 1)) ≡ n - 1 = omega arith in
      let f = take-take i n row (omega arith) in
      let m : take (n - (i + 1)) (drop (i + 1) row) ≡ drop (i + 1) (take n row) = between_is row (i + 1) n in
      let s : i + 1 ≡ suc i = omega arith in
      cc
