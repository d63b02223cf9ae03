-- Ten worked cases, as tests of the definitions that are computed.
use Rattle.std.specs.Prelude.{◌≡◌, ℕ, Bool, true, false, ◌&&◌, List, [], ◌∷◌, map, Some, None, Option, ◌==◌}
use Rattle.meaning.specs.declared.order.Order.{Order}
use Rattle.meaning.specs.declared.order.Action.{Action}
use Rattle.meaning.specs.declared.order.Action.TheVariants.{Transfer, Reserve, Post}
use Rattle.meaning.specs.declared.fate.Fate.{Fate}
use Rattle.meaning.specs.declared.fate.Fate.TheVariants.{Live, Posted, Voided, Lapsed}
use Rattle.meaning.specs.declared.opening.Opening.{Opening}
use Rattle.meaning.specs.Numbers.{answer_of}
use Rattle.meaning.specs.Sound.{top, last}
use Rattle.meaning.specs.Given.{Journal, Reserved, the_reservation, fate, is_live, debits, pending, posted}
use Rattle.meaning.specs.Rules.{Policy, opening_writes}
use Rattle.meaning.specs.Policies.{open_to_all, floor}
use Rattle.meaning.specs.Batches.{batch, grown}
use Rattle.meaning.specs.Moves.{lapse_list}

abbrev same : List ℕ → List ℕ → Bool
same [] [] = true
same [] (y ∷ ys) = false
same (x ∷ xs) [] = false
same (x ∷ xs) (y ∷ ys) = x == y && same xs ys

abbrev order : ℕ → Action → Order
order n a = record { number = n; linked = false; action = a }

-- an account in ledger 7 with limit 0; the label is A
abbrev account : ℕ → Opening
account n = record { number = n; ledger = 7; class = 1; limit = 0; label = 0x4120202020202020 }

-- accounts 1, 2 and 3, opened at moment 0
abbrev opened : Journal
opened = opening_writes 0 (account 3) ∷ opening_writes 0 (account 2) ∷ opening_writes 0 (account 1) ∷ []

module _ (policy : Policy) (J : Journal) (T : ℕ) (os : List Order) where
  -- J after a batch at T, and the numbers that its orders were answered
  abbrev ran : Journal
  ran = grown J (batch policy J T 1000 os).entries

  abbrev answered : List ℕ
  answered = map answer_of (batch policy J T 1000 os).answers

abbrev is_lapsed : Fate → Bool
is_lapsed Live = false
is_lapsed Posted = false
is_lapsed Voided = false
is_lapsed Lapsed = true

-- whether there is such a reservation, with such a fate
abbrev has_fate : (Fate → Bool) → Journal → ℕ → Option Reserved → Bool
has_fate test J T None = false
has_fate test J T (Some R) = test (fate J T R)

abbrev live_at : Journal → ℕ → ℕ → Bool
live_at J T r = has_fate is_live J T (the_reservation J r)

abbrev reserved : Journal
reserved = ran open_to_all opened 1000 (order 1 (Reserve 1 2 400 60) ∷ [])

-- reserve 400, post 250: nothing is pending, 250 are posted
abbrev post_in_part : Bool
post_in_part =
    same (answered open_to_all reserved 1000 (order 2 (Post 1 250) ∷ [])) (0 ∷ [])
    && (pending (ran open_to_all reserved 1000 (order 2 (Post 1 250) ∷ [])) 1000 debits 1 == 0
    && posted (ran open_to_all reserved 1000 (order 2 (Post 1 250) ∷ [])) debits 1 == 250)

-- all of it may be posted, and not more
abbrev post_all : Bool
post_all = same (answered open_to_all reserved 1000 (order 2 (Post 1 400) ∷ [])) (0 ∷ [])

abbrev post_too_much : Bool
post_too_much = same (answered open_to_all reserved 1000 (order 2 (Post 1 401) ∷ [])) (35 ∷ [])

-- the deadline is 1060: live after a move to 1059, lapsed after one to 1060
abbrev live_before : Bool
live_before = live_at reserved 1059 1 && same (lapse_list reserved 1000 1059) []

abbrev lapsed_at : Bool
lapsed_at =
    has_fate is_lapsed reserved 1060 (the_reservation reserved 1)
    && (same (lapse_list reserved 1000 1060) (1 ∷ []) && pending reserved 1060 debits 1 == 0)

-- without a duration it is live at the last moment
abbrev unending : Journal
unending = ran open_to_all opened 1000 (order 1 (Reserve 1 2 400 0) ∷ [])

abbrev live_at_last : Bool
live_at_last = live_at unending last 1 && same (lapse_list unending 1000 last) []

-- under Floor with limit 0, account 2 has received 900
abbrev received : Journal
received = ran open_to_all opened 0 (order 1 (Transfer 1 2 900) ∷ [])

abbrev draws_all : Bool
draws_all = same (answered floor received 0 (order 2 (Transfer 2 3 900) ∷ [])) (0 ∷ [])

abbrev draws_too_much : Bool
draws_too_much = same (answered floor received 0 (order 2 (Transfer 2 3 901) ∷ [])) (28 ∷ [])

-- the top and then 1
abbrev passes_top : Bool
passes_top = same (answered open_to_all opened 0 (order 1 (Transfer 1 2 top) ∷ order 2 (Transfer 1 2 1) ∷ [])) (0 ∷ 27 ∷ [])

-- a number equal to the highest one taken
abbrev same_number : Bool
same_number = same (answered open_to_all opened 0 (order 5 (Transfer 1 2 9) ∷ order 5 (Transfer 1 2 9) ∷ [])) (0 ∷ 21 ∷ [])

abbrev pub TenCases : Type 0
TenCases =
    (post_in_part && (post_all && (post_too_much && (live_before && (lapsed_at && (live_at_last && (draws_all && (draws_too_much && (passes_top && same_number))))))))) ≡ true
