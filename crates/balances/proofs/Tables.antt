-- Tables seen through a view.
use Rattle.std.proofs.Common.{◌≡◌, ℕ, zero, suc, ◌<◌, ◌≤◌, List, [], ◌∷◌, map, length, get_or, set, MutBor, unwrap_or, sym, refl, ap, ◌∙◌, ⊎_elim, arith}
use Rattle.std.proofs.lemmas.Bool.{cases_lt}
use Rattle.std.proofs.lemmas.List.{map-set, get_or-map, get_or_default, length-map}
use Rattle.std.specs.List.{slice_get}
use Rattle.std.specs.Fn.{FnOnceReturnsAtMut}
use denote.Param.Members.{Once}
use lib.Seq.{set_out}
use Rattle.meaning.specs.declared.account.Account.{Account}
use Rattle.meaning.specs.declared.reservation.Reservation.{Reservation}
use Rattle.meaning.specs.declared.standing.Standing.{Standing}
use Rattle.meaning.specs.Rows.{standing_of}
use Rattle.ordered.specs.declared.due.Due.{Due}
use Rattle.ordered.specs.declared.line.Line.{Line}
use Rattle.balances.specs.Contents.{Books, no_row, row_place, with_row}

abbrev pub books : List Standing → List Reservation → ℕ → List Due → List Line → Books
books rows held highest queue lines = record { rows = rows; held = held; highest = highest; queue = queue; lines = lines }

-- what stands at a place, or what stands for none
pub shown_at : (xs : List Account) (i : ℕ) (x : Account) (d : Standing) → standing_of x ≡ d → standing_of (unwrap_or (slice_get xs i) x) ≡ get_or (map standing_of xs) i d
shown_at [] i x d e = e
shown_at (y ∷ ys) zero x d e = refl
shown_at (y ∷ ys) (suc i) x d e = shown_at ys i x d e

-- an item that a closure changed in its place, if it is there, changes what is shown there
module _ {X Y F : Type 0} (g : X → Y) (f : Y → Y) (d : Y) (xs ys : List X) (i : ℕ) {once : Once F (MutBor X × Unit {0}) (Unit {0} × (MutBor X × Unit {0}))} {change : F} where
  pub shown_change : (i < length xs → (y : X) × FnOnceReturnsAtMut once change (get_or xs i y) tt y × (ys ≡ set xs i y)) → (length xs ≤ i → ys ≡ xs) → ((x y : X) → FnOnceReturnsAtMut once change x tt y → g y ≡ f (g x)) → map g ys ≡ set (map g xs) i (f (get_or (map g xs) i d))
  shown_change there nowhere means = ⊎_elim here past (cases_lt i (length xs))
    where
      here : i < length xs → map g ys ≡ set (map g xs) i (f (get_or (map g xs) i d))
      here lt =
          let h = there lt in
          ap (map g) h.2 ∙ (map-set g xs i h.0 ∙ ap (set (map g xs) i) (means _ _ h.1 ∙ ap f (sym (get_or-map g xs i h.0 d lt))))

      past : length xs ≤ i → map g ys ≡ set (map g xs) i (f (get_or (map g xs) i d))
      past le = ap (map g) (nowhere le) ∙ sym (set_out (map g xs) i _ (omega (arith, length-map xs g)))

-- the same where it is shown as it is
module _ {X F : Type 0} (f : X → X) (d : X) (xs ys : List X) (i : ℕ) {once : Once F (MutBor X × Unit {0}) (Unit {0} × (MutBor X × Unit {0}))} {change : F} where
  pub plain_change : (i < length xs → (y : X) × FnOnceReturnsAtMut once change (get_or xs i y) tt y × (ys ≡ set xs i y)) → (length xs ≤ i → ys ≡ xs) → ((x y : X) → FnOnceReturnsAtMut once change x tt y → y ≡ f x) → ys ≡ set xs i (f (get_or xs i d))
  plain_change there nowhere means = ⊎_elim here past (cases_lt i (length xs))
    where
      here : i < length xs → ys ≡ set xs i (f (get_or xs i d))
      here lt = let h = there lt in h.2 ∙ ap (set xs i) (means _ _ h.1 ∙ ap f (get_or_default xs i h.0 d lt))

      past : length xs ≤ i → ys ≡ set xs i (f (get_or xs i d))
      past le = nowhere le ∙ sym (set_out xs i _ le)

-- the rows of two accounts, changed one after the other
module _ (k : Books) (f h : Standing → Standing) (d c : ℕ) {i j : ℕ} {rs ss : List Standing} where
  pub between : i ≡ row_place k d → j ≡ row_place k c → rs ≡ set k.rows i (f (get_or k.rows i no_row)) → ss ≡ set rs j (h (get_or rs j no_row)) → books ss k.held k.highest k.queue k.lines ≡ with_row h (row_place k c) (with_row f (row_place k d) k)
  between from to one two =
      (λ n. books ((two ∙ ap (λ rows. set rows j (h (get_or rows j no_row))) one) n) k.held k.highest k.queue k.lines) ∙ (λ n. with_row h (to n) (with_row f (from n) k))
