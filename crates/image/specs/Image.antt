-- What the tables hold for a journal J and a moment T, and that openings, legs and lapses keep it.
use Rattle.std.specs.Prelude.{◌≡◌, ℕ, zero, suc, ◌≤◌, Bool, false, ◌&&◌, List, [], ◌∷◌, ◌++◌, map, None, nat_lt}
use Rattle.std.specs.List.{filter}
use Rattle.meaning.specs.declared.content.Content.TheVariants.{Transfer, Reserve, Post, Void}
use Rattle.meaning.specs.declared.content.Content.{Content}
use Rattle.meaning.specs.declared.record.Record.{Record}
use Rattle.meaning.specs.declared.opening.Opening.{Opening}
use Rattle.meaning.specs.declared.reservation.Reservation.{Reservation}
use Rattle.meaning.specs.declared.fate.Fate.TheVariants.{Live}
use Rattle.meaning.specs.declared.fate.Event.TheVariants.{Post as posting, Void as voiding}
use Rattle.meaning.specs.Basics.{in_order}
use Rattle.meaning.specs.Given.{Journal, Reserved, accounts, reservations, fate, is_live, due, highest}
use Rattle.meaning.specs.Rules.{Policy, opening_refused, opening_writes, refused}
use Rattle.meaning.specs.Questions.{standing, with_fate, account_asked, reservation_asked}
use Rattle.ordered.specs.Orders.{due_before, line_before}
use Rattle.ordered.specs.Keyed.{due_of, line_of}
use Rattle.balances.specs.Books.{Books, row_asked, held_asked, held_place, opened_with}
use Rattle.balances.specs.Legs.{transferred, reserved, closed}
use Rattle.balances.specs.Lapses.{next_due, lapsed_if}
use Rattle.balances.specs.Queues.{due_count}
use Rattle.laws.specs.Steps.{Reads}

-- a list that has the newest first, the oldest first
abbrev pub oldest : {X Y : Type 0} → (X → Y) → List X → List Y
oldest f [] = []
oldest f (x ∷ xs) = oldest f xs ++ (f x ∷ [])

-- live, with a deadline
abbrev pub waiting : Journal → ℕ → Reserved → Bool
waiting J T R = is_live (fate J T R) && nat_lt 0 R.until

abbrev pub image_of : Journal → ℕ → Books
image_of J T = record {
  rows = oldest (standing J T) (accounts J);
  held = oldest (with_fate J T) (reservations J);
  highest = highest J;
  queue = in_order due_before (map due_of (filter (waiting J T) (reservations J)));
  lines = in_order line_before (map line_of (accounts J));
}

abbrev pub entry : ℕ → Bool → ℕ → Content → Record
entry n l t k = record { number = n; linked = l; moment = t; content = k }

-- a live reservation
abbrev pub held_as : (number debit credit amount deadline : ℕ) → Reservation
held_as n d c z u = record { number = n; debit = d; credit = c; amount = z; deadline = u; fate = Live }

-- so many times, the first of the queue lapses if its deadline has come
abbrev pub lapses : (times moment : ℕ) → Books → Books
lapses zero t k = k
lapses (suc n) t k = lapses n t (lapsed_if (next_due t k) k)

-- questions on the image are answered as J and T do
pub record Asks (J : Journal) (T : ℕ) : Type 0 where
  pub account : (a : ℕ) → row_asked (image_of J T) a ≡ account_asked J T a
  pub reservation : (r : ℕ) → held_asked (image_of J T) r ≡ reservation_asked J T r

pub record KeepsImage (policy : Policy) (J : Journal) (T : ℕ) : Type 0 where
  pub asks : Asks J T
  pub by_opening : (full : Bool) (A : Opening) → opening_refused policy J full A ≡ None → opened_with (standing J T A) (image_of J T) ≡ image_of (opening_writes T A ∷ J) T
  pub by_transfer : (n : ℕ) (l : Bool) (d c z : ℕ) → refused policy J T n (Transfer d c z) ≡ None → transferred n d c z (image_of J T) ≡ image_of (entry n l T (Transfer d c z) ∷ J) T
  pub by_reserve : (n : ℕ) (l : Bool) (d c z u : ℕ) → refused policy J T n (Reserve d c z u) ≡ None → due u T ≡ false → reserved (held_as n d c z u) (image_of J T) ≡ image_of (entry n l T (Reserve d c z u) ∷ J) T
  pub by_post : (n : ℕ) (l : Bool) (r z : ℕ) → refused policy J T n (Post r z) ≡ None → closed posting n (held_place (image_of J T) r) z (image_of J T) ≡ image_of (entry n l T (Post r z) ∷ J) T
  pub by_void : (n : ℕ) (l : Bool) (r : ℕ) → refused policy J T n (Void r) ≡ None → closed voiding n (held_place (image_of J T) r) 0 (image_of J T) ≡ image_of (entry n l T (Void r) ∷ J) T
  pub by_lapses : (t n : ℕ) → T ≤ t → due_count t (image_of J T).queue ≤ n → lapses n t (image_of J T) ≡ image_of J t

abbrev pub ImageKeeps : Type 0
ImageKeeps = (policy : Policy) (J : Journal) → Reads policy J → (T : ℕ) → KeepsImage policy J T
