-- A leg that is put back leaves the tables as they were.
use Rattle.std.proofs.Common.{◌≡◌, ℕ, ◌<◌, Bool, true, false, cond, ltb, List, [], ◌∷◌, ◌++◌, length, get_or, take, set, sym, refl, ap, ◌∙◌, ⊎_elim, arith}
use lib.Seq.{set_out}
use Rattle.std.proofs.lemmas.List.{set-set, set_comm, set-get_or, take_all, take_at, set_at}
use Rattle.std.proofs.lemmas.Bool.{cases_eq, lt-ltb, cond-true}
use Rattle.meaning.specs.declared.record.Record.{Record}
use Rattle.meaning.specs.declared.reservation.Reservation.{Reservation}
use Rattle.meaning.specs.declared.fate.Event.{Event}
use Rattle.meaning.specs.declared.standing.Standing.{Standing}
use Rattle.meaning.specs.Rows.{credited, credit_released}
use Rattle.ordered.specs.declared.due.Due.{Due}
use Rattle.balances.specs.Contents.{Books, row_place, no_row, no_reservation}
use Rattle.balances.specs.Legs.{tracing, moved, numbered, waits, transferred, reserved, closed}
use Rattle.balances.specs.Noted.{Trace, Noted, with_leg}
use Rattle.balances.specs.Undone.{undone, unwound, with_queue, restored}
use Rattle.balances.proofs.Tables.{books}

-- the latest leg is put back first
unwound_push : (ts : List Trace) (t : Trace) (k : Books) → unwound (ts ++ (t ∷ [])) k ≡ unwound ts (undone t k)
unwound_push [] t k = refl
unwound_push (s ∷ ts) t k = ap (undone s) (unwound_push ts t k)

-- which queue stands beside the rest does not matter to it
unwound_queue : (q : List Due) (ts : List Trace) (k : Books) → with_queue q (unwound ts k) ≡ unwound ts (with_queue q k)
unwound_queue q [] k = refl
unwound_queue q (t ∷ ts) k = ap (undone t) (unwound_queue q ts k)

-- one leg more, which put back gives what was there before it
pub leg_restored : (n : Noted) (t : Trace) (f : Record) (k k' : Books) → length n.traces < 16 → with_queue n.queue (undone t k') ≡ with_queue n.queue k → restored (with_leg t f n) k' ≡ restored n k
leg_restored n t f k k' lt e =
    let room = lt-ltb (length n.traces) 16 lt in
    ap (λ m. restored m k') (cond-true (ltb (length n.traces) 16) _ _ room)
    ∙ (ap (with_queue n.queue) (unwound_push n.traces t k')
    ∙ (unwound_queue n.queue n.traces (undone t k') ∙ (ap (unwound n.traces) e ∙ sym (unwound_queue n.queue n.traces k))))

-- two rows are put back, whether they are two or one
module _ {X : Type 0} (xs : List X) (d : X) (i j : ℕ) (y : X) (f : List X → X) where
  pub rows_back : set (set (set (set xs i y) j (f (set xs i y))) j (get_or xs j d)) i (get_or xs i d) ≡ xs
  rows_back =
      ap (λ ys. set ys i (get_or xs i d)) (set-set (set xs i y) j (f (set xs i y)) (get_or xs j d))
      ∙ ⊎_elim (λ (e : i ≡ j). one e) (λ (ne : i ≡ j → ⊥). two ne) (cases_eq i j)
    where
      one : i ≡ j → set (set (set xs i y) j (get_or xs j d)) i (get_or xs i d) ≡ xs
      one e = ap (λ m. set (set (set xs i y) m (get_or xs m d)) i (get_or xs i d)) (sym e) ∙ (set-set (set xs i y) i _ _ ∙ (set-set xs i y _ ∙ set-get_or xs i d))

      two : (i ≡ j → ⊥) → set (set (set xs i y) j (get_or xs j d)) i (get_or xs i d) ≡ xs
      two ne = set_comm (set xs i y) j i (get_or xs j d) (get_or xs i d) (λ e. ne (sym e)) ∙ (ap (λ ys. set ys j (get_or xs j d)) (set-set xs i y (get_or xs i d) ∙ set-get_or xs i d) ∙ set-get_or xs j d)

-- what is held is put back: nothing was written, one was added, or one was changed
module _ {X : Type 0} (xs : List X) (d x : X) where
  pub none_back : take (length xs) (set xs (length xs) x) ≡ xs
  none_back = ap (take (length xs)) (set_out xs (length xs) x (omega arith)) ∙ take_all (length xs) xs (omega arith)

  pub added_back : (z : X) → take (length xs) (set (xs ++ (z ∷ [])) (length xs) x) ≡ xs
  added_back z = ap (take (length xs)) (set_at xs z [] x (length xs) refl) ∙ take_at xs (x ∷ []) (length xs) refl

  pub changed_back : (i : ℕ) → take (length xs) (set (set xs i x) i (get_or xs i d)) ≡ xs
  changed_back i = ap (take (length xs)) (set-set xs i x (get_or xs i d) ∙ set-get_or xs i d) ∙ take_all (length xs) xs (omega arith)

module _ (k : Books) (q : List Due) where
  back : {rows rows' : List Standing} {held held' : List Reservation} → rows ≡ rows' → held ≡ held' → books rows held k.highest q k.lines ≡ books rows' held' k.highest q k.lines
  back e h = λ i. books (e i) (h i) k.highest q k.lines

  pub transfer_back : (n d c z : ℕ) → with_queue q (undone (tracing d c (length k.held) k) (transferred n d c z k)) ≡ with_queue q k
  transfer_back n d c z = back (rows_back k.rows no_row (row_place k d) (row_place k c) _ (λ rs. credited 0 z (get_or rs (row_place k c) no_row))) (none_back k.held no_reservation _)

  pub reserve_back : (R : Reservation) → with_queue q (undone (tracing R.debit R.credit (length k.held) k) (reserved R k)) ≡ with_queue q k
  reserve_back R = go (ltb (length k.held) 256)
    where
      rows : set (set (moved R.debit R.credit R.amount 0 k).rows (row_place k R.credit) (get_or k.rows (row_place k R.credit) no_row)) (row_place k R.debit) (get_or k.rows (row_place k R.debit) no_row) ≡ k.rows
      rows = rows_back k.rows no_row (row_place k R.debit) (row_place k R.credit) _ (λ rs. credited R.amount 0 (get_or rs (row_place k R.credit) no_row))

      go : (b : Bool) → with_queue q (undone (tracing R.debit R.credit (length k.held) k) (numbered R.number (cond b (books (moved R.debit R.credit R.amount 0 k).rows (k.held ++ (R ∷ [])) k.highest (waits R k.queue) k.lines) (moved R.debit R.credit R.amount 0 k)))) ≡ with_queue q k
      go true = back rows (added_back k.held no_reservation _ R)
      go false = back rows (none_back k.held no_reservation _)

  pub close_back : (e : Event) (n i z : ℕ) → with_queue q (undone (tracing (get_or k.held i no_reservation).debit (get_or k.held i no_reservation).credit i k) (closed e n i z k)) ≡ with_queue q k
  close_back e n i z =
      let R = get_or k.held i no_reservation in
      back (rows_back k.rows no_row (row_place k R.debit) (row_place k R.credit) _ (λ rs. credit_released R.amount z (get_or rs (row_place k R.credit) no_row))) (changed_back k.held no_reservation _ i)

-- the same of tables that are known by what they say
pub leg_back : (n n' : Noted) (t t' : Trace) (f : Record) (k k' k'' : Books) → n' ≡ with_leg t f n → t ≡ t' → k'' ≡ k' → length n.traces < 16 → with_queue n.queue (undone t' k') ≡ with_queue n.queue k → restored n' k'' ≡ restored n k
leg_back n n' t t' f k k' k'' en et ek lt e =
    ap (λ m. restored m k'') en ∙ (ap (λ s. restored (with_leg s f n) k'') et ∙ (ap (restored (with_leg t' f n)) ek ∙ leg_restored n t' f k k' lt e))

-- the latest leg is taken from the notes and put back
pub latest_back : (n n' : Noted) (t : Trace) (k k' : Books) → n.traces ≡ n'.traces ++ (t ∷ []) → n'.queue ≡ n.queue → k' ≡ undone t k → restored n' k' ≡ restored n k
latest_back n n' t k k' last same back = λ i. with_queue (same i) ((ap (unwound n'.traces) back ∙ (sym (unwound_push n'.traces t k) ∙ ap (λ ts. unwound ts k) (sym last))) i)
