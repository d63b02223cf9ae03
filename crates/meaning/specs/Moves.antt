-- Moving to a moment: what lapses, in which order, and the earliest deadline that is left.
use Rattle.std.specs.Prelude.{ℕ, Bool, ◌&&◌, ◌||◌, List, [], ◌∷◌, map, length, Option, ◌==◌, nat_le, nat_lt}
use Rattle.std.specs.List.{filter}
use Rattle.meaning.specs.declared.refusal.Refusal.{Refusal}
use Rattle.meaning.specs.Numbers.{refusal}
use Rattle.meaning.specs.Basics.{in_order, first_of}
use Rattle.meaning.specs.Given.{Journal, Reserved, reservations, fate, is_live}
use Rattle.meaning.specs.Sound.{last}

-- by deadline, then by number
abbrev pub sooner : Reserved → Reserved → Bool
sooner R S = nat_lt R.until S.until || (R.until == S.until && nat_lt R.number S.number)

-- the live reservations of J at T with a deadline, in that order
abbrev pub awaiting : Journal → ℕ → List Reserved
awaiting J T = in_order sooner (filter (λ R. is_live (fate J T R) && nat_lt 0 R.until) (reservations J))

-- those that a move from T to t lets lapse
abbrev pub lapsing : Journal → (T t : ℕ) → List Reserved
lapsing J T t = filter (λ R. nat_le R.until t) (awaiting J T)

-- their numbers, in the order of the lapse list
abbrev pub lapse_list : Journal → (T t : ℕ) → List ℕ
lapse_list J T t = map (λ (R : Reserved). R.number) (lapsing J T t)

abbrev pub first_deadline : List Reserved → ℕ
first_deadline [] = 0
first_deadline (R ∷ rs) = R.until

-- the earliest live deadline at t, or 0
abbrev pub next_deadline : Journal → ℕ → ℕ
next_deadline J t = first_deadline (awaiting J t)

-- why a move from T to t is refused, if it is, with so many places for so many that fall due
abbrev pub refused_with : (T t places falling : ℕ) → Option Refusal
refused_with T t places falling = first_of
    ((nat_lt last t, refusal 51)
    ∷ (nat_lt t T, refusal 52)
    ∷ (nat_lt places falling, refusal 53)
    ∷ [])

abbrev pub move_refused : Journal → (T t places : ℕ) → Option Refusal
move_refused J T t places = refused_with T t places (length (lapse_list J T t))
