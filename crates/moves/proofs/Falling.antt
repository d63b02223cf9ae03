-- What falls due by a moment: the front of the queue, and the numbers that are written.
use Rattle.std.proofs.Common.{◌≡◌, ℕ, suc, ◌+◌, ◌≤◌, Bool, true, false, cond, leb, List, [], ◌∷◌, map, length, take, Some, sym, refl, ap, ◌∙◌, arith}
use Rattle.std.specs.List.{AllByRecursion as All, filter}
use Rattle.std.specs.Option.{unwrap_or}
use Rattle.ordered.specs.declared.due.Due.{Due}
use Rattle.ordered.specs.Orders.{due_before}
use Rattle.ordered.specs.Rows.{without, Ordered}
use Rattle.ordered.proofs.Lawfully.{due_lawful}
use Rattle.balances.specs.Books.{Books}
use Rattle.balances.specs.Legs.{lapsed}
use Rattle.balances.specs.Lapses.{next_due, lapsed_if, number_in}
use Rattle.balances.specs.Queues.{due_count}
use Rattle.image.proofs.Oldest.{one_more}
use Rattle.image.proofs.Waiting.{none_due}
use Rattle.moves.specs.Turns.{filled_in}

abbrev pub number_of : Due → ℕ
number_of d = d.number

abbrev pub is_due : ℕ → Due → Bool
is_due t d = leb d.deadline t

filter_none : {X : Type 0} (p : X → Bool) (xs : List X) → All (λ x. p x ≡ false) xs → filter p xs ≡ []
filter_none p [] h = refl
filter_none p (x ∷ xs) h = rw h.0 (filter_none p xs h.1)

-- in a row in order, those that are due stand in front
pub due_front : (t : ℕ) (ds : List Due) → Ordered due_before ds → filter (is_due t) ds ≡ take (due_count t ds) ds
due_front t [] h = refl
due_front t (d ∷ ds) h = go (is_due t d) refl (due_front t ds h.1)
  where
    go : (b : Bool) → is_due t d ≡ b → filter (is_due t) ds ≡ take (due_count t ds) ds → cond b (d ∷ filter (is_due t) ds) (filter (is_due t) ds) ≡ take (cond b (1 + due_count t ds) 0) (d ∷ ds)
    go true e r = rw (one_more (due_count t ds)) (ap (λ xs. d ∷ xs) r)
    go false e r = filter_none (is_due t) ds (none_due t d ds h e).1

-- a key that lapses leaves the front
leaves : (d : Due) (ds : List Due) → without due_before d (d ∷ ds) ≡ ds
leaves d ds = let e = due_lawful.irreflexive d in rw e

-- at most as many places as are due take the numbers of the front
abbrev Front : ℕ → Books → List ℕ → Type 0
Front t k ns = length ns ≤ due_count t k.queue → filled_in t k ns ≡ map number_of (take (length ns) k.queue)

one_filled : (t : ℕ) (k : Books) (n : ℕ) (ns : List ℕ) (d : Due) (ds : List Due) → k.queue ≡ d ∷ ds → is_due t d ≡ true → length ns ≤ due_count t ds → Front t (lapsed d k) ns → filled_in t k (n ∷ ns) ≡ map number_of (take (suc (length ns)) k.queue)
one_filled t k n ns d ds e b le ih =
    let is : next_due t k ≡ Some d = rw (e, b) in
    let rest : without due_before d k.queue ≡ ds = rw e (leaves d ds) in
    let r = ih (rw rest le) in
    let step : filled_in t k (n ∷ ns) ≡ d.number ∷ filled_in t (lapsed d k) ns = ap (λ o. unwrap_or (number_in o) n ∷ filled_in t (lapsed_if o k) ns) is in
    step
    ∙ (ap (λ xs. d.number ∷ xs) (r ∙ ap (λ q. map number_of (take (length ns) q)) rest)
    ∙ sym (ap (λ q. map number_of (take (suc (length ns)) q)) e))

pub front_filled : (t : ℕ) (k : Books) (ns : List ℕ) → Front t k ns
front_filled t k [] h = refl
front_filled t k (n ∷ ns) h = go k.queue refl h (λ x. front_filled t x ns)
  where
    go : (q : List Due) → k.queue ≡ q → suc (length ns) ≤ due_count t q → ((x : Books) → Front t x ns) → filled_in t k (n ∷ ns) ≡ map number_of (take (suc (length ns)) k.queue)
    go [] e le ih = absurd (omega arith)
    go (d ∷ ds) e le ih = by (is_due t d) refl le
      where
        by : (b : Bool) → is_due t d ≡ b → suc (length ns) ≤ cond b (1 + due_count t ds) 0 → filled_in t k (n ∷ ns) ≡ map number_of (take (suc (length ns)) k.queue)
        by true f le = one_filled t k n ns d ds e f (omega arith) (ih (lapsed d k))
        by false f le = absurd (omega arith)

-- no more are due than there are
pub due_within : (t : ℕ) (ds : List Due) → due_count t ds ≤ length ds
due_within t [] = omega arith
due_within t (d ∷ ds) = by (is_due t d) (due_within t ds)
  where
    by : (b : Bool) → due_count t ds ≤ length ds → cond b (1 + due_count t ds) 0 ≤ suc (length ds)
    by true h = omega arith
    by false h = omega arith
