-- A live reservation ends: what the tables hold then, by the fates before and after.
use Rattle.std.proofs.Common.{◌≡◌, ℕ, ◌+◌, ◌≤◌, Bool, true, false, cond, ◌&&◌, eqb, ltb, map, get_or, Some, sym, refl, ap, ◌∙◌, arith}
use Rattle.std.specs.Option.{option_map}
use Rattle.std.proofs.ByRecursion.{All-weaker}
use Rattle.std.proofs.lemmas.Bool.{eqb-true, eqb-false, eq-eqb, ne_eqb}
use Rattle.std.specs.List.{filter}
use Rattle.std.proofs.lemmas.Option.{get_or_from_slice_get}
use Rattle.meaning.specs.declared.opening.Opening.{Opening}
use Rattle.meaning.specs.declared.reservation.Reservation.{Reservation}
use Rattle.meaning.specs.declared.fate.Event.{Event}
use Rattle.meaning.specs.declared.fate.Fate.{Fate}
use Rattle.meaning.specs.declared.fate.Fate.TheVariants.{Live, Posted, Voided, Lapsed}
use Rattle.meaning.specs.Basics.{at, in_order}
use Rattle.meaning.specs.Fates.{next, ends, decided}
use Rattle.meaning.specs.Given.{Journal, Reserved, accounts, reservations, the_reservation, is_live, highest, Side, debits, credits, pick, through, posted}
use Rattle.meaning.specs.declared.standing.Standing.{Standing}
use Rattle.meaning.specs.Rows.{debit_released, credit_released, met}
use Rattle.ordered.specs.Orders.{due_before, line_before}
use Rattle.ordered.specs.Rows.{without}
use Rattle.ordered.specs.Keyed.{due_of, line_of}
use Rattle.ordered.proofs.Lawfully.{due_lawful}
use Rattle.ordered.proofs.Removals.{without-in_order}
use Rattle.balances.specs.Books.{Books, no_row, no_reservation, held_place}
use Rattle.balances.specs.Legs.{closed, ended as ending, numbered as with_number, without_due, with_fate as meeting, released, due_of as key_of}
use Rattle.balances.proofs.Tables.{books}
use Rattle.laws.proofs.Finds.{Distinct}
use Rattle.laws.proofs.Numbered.{key}
use Rattle.laws.proofs.Known.{akey}
use Rattle.image.specs.Image.{oldest}
use Rattle.image.proofs.Oldest.{changed_at, changed_if, changed_there, map-oldest, distinct_oldest, same-oldest, asked_found, find-oldest}
use Rattle.image.proofs.Asked.{skey, hkey}
use Rattle.image.proofs.Moving.{two_changes}
use Rattle.image.proofs.Releasing.{released_row, found_only, taken_out}
use Rattle.image.proofs.Transferred.{all_of}

-- what the tables hold where the reservations have these fates
abbrev pub pending_by : Journal → (Reserved → Fate) → Side → ℕ → ℕ
pending_by J F = through (λ (R : Reserved). R.debit) (λ R. R.credit) (λ R. at (is_live (F R)) R.amount) (reservations J)

abbrev pub standing_by : Journal → (Reserved → Fate) → Opening → Standing
standing_by J F A = record { account = A; debits_pending = pending_by J F debits A.number; debits_posted = posted J debits A.number; credits_pending = pending_by J F credits A.number; credits_posted = posted J credits A.number }

abbrev pub fated : (Reserved → Fate) → Reserved → Reservation
fated F R = record { number = R.number; debit = R.debit; credit = R.credit; amount = R.amount; deadline = R.until; fate = F R }

abbrev pub waiting_by : (Reserved → Fate) → Reserved → Bool
waiting_by F R = is_live (F R) && ltb 0 R.until

abbrev pub image_by : Journal → (Reserved → Fate) → Books
image_by J F = record {
  rows = oldest (standing_by J F) (accounts J);
  held = oldest (fated F) (reservations J);
  highest = highest J;
  queue = in_order due_before (map due_of (filter (waiting_by F) (reservations J)));
  lines = in_order line_before (map line_of (accounts J));
}

pub live_is : (f : Fate) → is_live f ≡ true → f ≡ Live
live_is Live h = refl
live_is Posted h = grind arith
live_is Voided h = grind arith
live_is Lapsed h = grind arith

-- reservation R of J is live by the fates F, and by F' it has met the event that ends it as E; the others are as they were
module _ (J J' : Journal) (F F' : Reserved → Fate) (R : Reserved) (dist : Distinct key (reservations J)) (found : the_reservation J R.number ≡ Some R) (alive : is_live (F R) ≡ true) (ev : Event) (E : Fate) (isE : ends ev ≡ E) (dead : is_live E ≡ false) (final : (f : Fate) → decided E f ≡ E) (after : (Q : Reserved) → F' Q ≡ decided (cond (eqb R.number Q.number) E Live) (F Q)) where
  ended_now : F' R ≡ E
  ended_now = after R ∙ (ap (λ b. decided (cond b E Live) (F R)) (eq-eqb R.number R.number refl) ∙ final (F R))

  as_before : (Q : Reserved) → (Q.number ≡ R.number → ⊥) → F Q ≡ F' Q
  as_before Q ne = sym (after Q ∙ ap (λ b. decided (cond b E Live) (F Q)) (ne_eqb R.number Q.number (λ x. ne (sym x))))

  met_one : (Q : Reserved) → (Q.number ≡ R.number → Q ≡ R) → changed_if hkey R.number no_reservation (met ev) (fated F Q) ≡ fated F' Q
  met_one Q only = go (eqb Q.number R.number) refl
    where
      go : (b : Bool) → eqb Q.number R.number ≡ b → cond b (met ev (fated F Q)) (fated F Q) ≡ fated F' Q
      go true e =
          let here = only (eqb-true Q.number R.number e) in
          let was : F Q ≡ Live = ap F here ∙ live_is (F R) alive in
          ap (λ f. record { number = Q.number; debit = Q.debit; credit = Q.credit; amount = Q.amount; deadline = Q.until; fate = f }) (ap (λ f. next f ev) was ∙ (isE ∙ sym (ap F' here ∙ ended_now)))
      go false e = ap (λ f. record { number = Q.number; debit = Q.debit; credit = Q.credit; amount = Q.amount; deadline = Q.until; fate = f }) (as_before Q (eqb-false Q.number R.number e))

  pub held_after : changed_at hkey R.number no_reservation (met ev) (oldest (fated F) (reservations J)) ≡ oldest (fated F') (reservations J)
  held_after =
      changed_there hkey R.number no_reservation (met ev) (oldest (fated F) (reservations J)) (distinct_oldest (fated F) key hkey (λ Q. refl) (reservations J) dist)
      ∙ (map-oldest (fated F) (changed_if hkey R.number no_reservation (met ev)) (reservations J)
      ∙ same-oldest _ (fated F') (reservations J) (All-weaker (λ Q. key Q ≡ R.number → Q ≡ R) (λ Q. changed_if hkey R.number no_reservation (met ev) (fated F Q) ≡ fated F' Q) met_one (reservations J) (found_only key R.number (reservations J) R dist found)))

  pub queue_after : without due_before (due_of R) (image_by J F).queue ≡ in_order due_before (map due_of (filter (waiting_by F') (reservations J)))
  queue_after =
      without-in_order due_before due_lawful (due_of R) (map due_of (filter (waiting_by F) (reservations J)))
      ∙ ap (in_order due_before) (taken_out R (waiting_by F) (waiting_by F') (ap (λ f. is_live f && ltb 0 R.until) ended_now ∙ ap (λ b. b && ltb 0 R.until) dead) (λ Q ne. ap (λ f. is_live f && ltb 0 Q.until) (as_before Q ne)) (reservations J) dist (found_only key R.number (reservations J) R dist found))

  pub stands_there : get_or (image_by J F).held (held_place (image_by J F) R.number) no_reservation ≡ fated F R
  stands_there = get_or_from_slice_get (image_by J F).held _ _ _ (asked_found hkey R.number (oldest (fated F) (reservations J)) ∙ (find-oldest (fated F) key hkey (λ Q. refl) R.number (reservations J) dist ∙ ap (option_map (fated F)) found))

  -- the rows, where so much is posted
  module _ (apart : Distinct akey (accounts J)) (b : ℕ) (le : b ≤ R.amount) (moves : (s : Side) (a : ℕ) → (pending_by J F s a ≡ pending_by J' F' s a + at (eqb (pick s R.debit R.credit) a) R.amount) × (posted J' s a ≡ posted J s a + at (eqb (pick s R.debit R.credit) a) b)) (n : ℕ) (same-as : accounts J' ≡ accounts J) (rs : reservations J' ≡ reservations J) (hs : n ≡ highest J') where
    row_after : (A : Opening) → changed_if skey R.credit no_row (credit_released R.amount b) (changed_if skey R.debit no_row (debit_released R.amount b) (standing_by J F A)) ≡ standing_by J' F' A
    row_after A =
        released_row A (pending_by J F debits A.number) (posted J debits A.number) (pending_by J F credits A.number) (posted J credits A.number) (pending_by J' F' debits A.number) (posted J' debits A.number) (pending_by J' F' credits A.number) (posted J' credits A.number) R.debit R.credit R.amount b le (moves debits A.number).0 (moves debits A.number).1 (moves credits A.number).0 (moves credits A.number).1

    pub ends_at : with_number n (without_due (due_of R) (meeting ev (held_place (image_by J F) R.number) (released R.debit R.credit R.amount b (image_by J F)))) ≡ image_by J' F'
    ends_at =
        let rows = two_changes (standing_by J F) (λ A. refl) (accounts J) apart R.debit R.credit (debit_released R.amount b) (credit_released R.amount b) (λ s. refl) ∙ (same-oldest _ (standing_by J' F') (accounts J) (all_of _ row_after (accounts J)) ∙ ap (oldest (standing_by J' F')) (sym same-as)) in
        let held = held_after ∙ ap (oldest (fated F')) (sym rs) in
        let queue = queue_after ∙ ap (λ xs. in_order due_before (map due_of (filter (waiting_by F') xs))) (sym rs) in
        λ j. books (rows j) (held j) (hs j) (queue j) (ap (λ As. in_order line_before (map line_of As)) (sym same-as) j)

    pub close_at : closed ev n (held_place (image_by J F) R.number) b (image_by J F) ≡ image_by J' F'
    close_at =
        let k = image_by J F in
        let i = held_place k R.number in
        ap (λ (Q : Reservation). with_number n (without_due (key_of Q) (meeting ev i (released Q.debit Q.credit Q.amount b k)))) stands_there ∙ ends_at

    pub lapse_at : with_number n (without_due (due_of R) (ending ev (held_place (image_by J F) R.number) b (image_by J F))) ≡ image_by J' F'
    lapse_at =
        let k = image_by J F in
        let i = held_place k R.number in
        ap (λ (Q : Reservation). with_number n (without_due (due_of R) (meeting ev i (released Q.debit Q.credit Q.amount b k)))) stands_there ∙ ends_at
