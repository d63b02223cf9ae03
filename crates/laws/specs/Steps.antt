-- What one more entry changes, and what a later moment changes: exactly this, and nothing else.
use Rattle.std.specs.Prelude.{◌≡◌, ℕ, ◌+◌, ◌≤◌, true, cond, not, ◌&&◌, List, [], ◌∷◌, Some, None, ◌==◌, Ok}
use Rattle.meaning.specs.declared.content.Content.{Content}
use Rattle.meaning.specs.declared.content.Content.TheVariants.{Account, Transfer, Reserve, Post, Void}
use Rattle.meaning.specs.declared.record.Record.{Record}
use Rattle.meaning.specs.declared.order.Order.{Order}
use Rattle.meaning.specs.Basics.{at}
use Rattle.meaning.specs.declared.fate.Fate.TheVariants.{Lapsed}
use Rattle.meaning.specs.Fates.{decided}
use Rattle.meaning.specs.Given.{Journal, Reserved, reservations, the_reservation, ended_by, due, fate, is_live, latest, Side, pick, through, pending, posted}
use Rattle.meaning.specs.Rules.{Policy, refused}
use Rattle.meaning.specs.Reading.{read_so_far, reading}

-- each entry of J passes its rules over those before it
abbrev pub Reads : Policy → Journal → Type 0
Reads policy J = read_so_far policy J ≡ Ok tt

-- reservation r of J is R, and live
pub record Alive (J : Journal) (T r : ℕ) (R : Reserved) : Type 0 where
  pub found : the_reservation J r ≡ Some R
  pub live : is_live (fate J T R) ≡ true

-- P and Q are what is pending and what is posted after an entry of this content joins J
abbrev pub Step : Journal → ℕ → Content → (P Q : Side → ℕ → ℕ) → Type 0
Step J T (Account l k m b) P Q = (s : Side) (a : ℕ) → (P s a ≡ pending J T s a) × (Q s a ≡ posted J s a)
Step J T (Transfer d c z) P Q = (s : Side) (a : ℕ) → (P s a ≡ pending J T s a) × (Q s a ≡ posted J s a + at (pick s d c == a) z)
Step J T (Reserve d c z u) P Q = (s : Side) (a : ℕ) → (P s a ≡ pending J T s a + at (not (due u T)) (at (pick s d c == a) z)) × (Q s a ≡ posted J s a)
Step J T (Post r z) P Q = (R : Reserved) × Alive J T r R × (z ≤ R.amount) × ((s : Side) (a : ℕ) → (pending J T s a ≡ P s a + at (pick s R.debit R.credit == a) R.amount) × (Q s a ≡ posted J s a + at (pick s R.debit R.credit == a) z))
Step J T (Void r) P Q = (R : Reserved) × Alive J T r R × ((s : Side) (a : ℕ) → (pending J T s a ≡ P s a + at (pick s R.debit R.credit == a) R.amount) × (Q s a ≡ posted J s a))

-- what falls due of an account from T to T'
abbrev pub falling : Journal → (T T' : ℕ) → Side → ℕ → ℕ
falling J T T' = through (λ (R : Reserved). R.debit) (λ R. R.credit) (λ R. at (is_live (fate J T R) && due R.until T') R.amount) (reservations J)

-- how a fate goes on: by an entry that names the reservation, and by a deadline that comes
pub record FatesGoOn (J : Journal) (T : ℕ) (R : Reserved) : Type 0 where
  pub by_entry : (e : Record) → fate (e ∷ J) T R ≡ decided (ended_by R.number e.content) (fate J T R)
  pub by_time : (T' : ℕ) → T ≤ T' → fate J T' R ≡ cond (is_live (fate J T R) && due R.until T') Lapsed (fate J T R)

pub record Stepwise (policy : Policy) (J : Journal) (T : ℕ) : Type 0 where
  pub by_entry : (e : Record) → refused policy J T e.number e.content ≡ None → Step J T e.content (pending (e ∷ J) T) (posted (e ∷ J))
  pub by_time : (T' : ℕ) → T ≤ T' → (s : Side) (a : ℕ) → pending J T s a ≡ pending J T' s a + falling J T T' s a

-- J is read through, no chain left unfinished, and T is not before its last moment: what a book goes on from
pub record Ready (policy : Policy) (J : Journal) (T : ℕ) : Type 0 where
  pub through : reading policy J ≡ Ok tt
  pub in_time : latest J ≤ T

-- the orders of a chain all have the mark, but perhaps the last
abbrev pub Fronted : List Order → Type 0
Fronted [] = Unit {0}
Fronted (o ∷ []) = Unit {0}
Fronted (o ∷ (p ∷ os)) = (o.linked ≡ true) × Fronted (p ∷ os)
