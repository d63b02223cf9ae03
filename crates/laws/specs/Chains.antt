-- How orders fall into chains, and what becomes of each chain of a batch.
use Rattle.std.specs.Prelude.{◌≡◌, ℕ, ◌+◌, ◌-◌, ◌<◌, ◌≤◌, ◌⊎◌, ◌↔◌, true, false, List, [], ◌∷◌, ◌++◌, map, length, replicate, take, drop, zip, filter, flat_map, is_ok, IsErr, Any, Some, None, Ok, Err, Option, slice_set, slice_range}
use Rattle.std.specs.List.{AllByRecursion}
use Rattle.meaning.specs.declared.order.Order.{Order}
use Rattle.meaning.specs.declared.refusal.Refusal.{Refusal}
use Rattle.meaning.specs.declared.refusal.Refusal.TheVariants.{ChainRefused, ChainUnfinished, ChainTooLong, ChainOverSpare}
use Rattle.meaning.specs.Given.{Journal}
use Rattle.meaning.specs.Limits.{most_legs}
use Rattle.meaning.specs.Rules.{Policy, leg_refused, leg_writes}
use Rattle.meaning.specs.Batches.{Answer, Outcome, chains, and_then, grown, batch, taken}

-- a chain that is finished: orders with the linked mark, and a last one without it
pub record Finished (c : List Order) : Type 0 where
  pub front : List Order
  pub end : Order
  pub is : c ≡ front ++ end ∷ []
  pub marked : AllByRecursion (λ o. o.linked ≡ true) front
  pub unmarked : end.linked ≡ false

-- one that is not: each of its orders has the mark
pub record Unfinished (c : List Order) : Type 0 where
  pub some : 0 < length c
  pub marked : AllByRecursion (λ o. o.linked ≡ true) c

-- the orders of these chains, in a row
abbrev pub orders_of : List (List Order) → List Order
orders_of cs = flat_map (λ c. c) cs

-- c is finished, or it is the last chain and unfinished
abbrev pub StandsBefore : List Order → List (List Order) → Type 0
StandsBefore c after = Finished c ⊎ (Unfinished c × (after ≡ []))

-- joined, these chains are the orders, and each is finished, but perhaps the last
pub record AreChains (os : List Order) (cs : List (List Order)) : Type 0 where
  pub joined : orders_of cs ≡ os
  pub each : (before after : List (List Order)) (c : List Order)
      → cs ≡ before ++ c ∷ after → StandsBefore c after

-- such are the chains of the orders, and no others
abbrev pub FallIntoChains : List Order → Type 0
FallIntoChains os = (cs : List (List Order)) → AreChains os cs ↔ (cs ≡ chains os)

-- What becomes of a chain.

-- each order of the chain is answered a
abbrev pub each_gets : List Order → Answer → List Answer
each_gets c a = replicate (length c) a

-- the order at place i is answered r, and the others that their chain is refused
abbrev pub one_gets : List Order → ℕ → Refusal → List Answer
one_gets c i r = slice_set (each_gets c (Err ChainRefused)) i (Err r)

-- J after these orders were taken at moment T
abbrev pub with_orders : Journal → ℕ → List Order → Journal
with_orders J T os = grown J (map (leg_writes T) os)

module _ (policy : Policy) (J : Journal) (T : ℕ) where
  -- what the rules say of an order after J and the orders in front of it
  abbrev pub refused_behind : List Order → Order → Option Refusal
  refused_behind front o = leg_refused policy (with_orders J T front) T o

  -- none of these orders is refused, each behind those in front of it
  abbrev pub NoneRefused : List Order → Type 0
  NoneRefused os =
      (front back : List Order) (o : Order) → os ≡ front ++ o ∷ back → refused_behind front o ≡ None

  -- the first of them that is refused stands at place i, and r is why
  pub record FirstRefused (os : List Order) (i : ℕ) (r : Refusal) : Type 0 where
    pub front : List Order
    pub order : Order
    pub back : List Order
    pub is : os ≡ front ++ order ∷ back
    pub place : i ≡ length front
    pub passed : NoneRefused front
    pub refused : refused_behind front order ≡ Some r

  module _ (spare : ℕ) (c : List Order) where
    -- the rules are asked of the orders of this chain
    pub record IsAsked : Type 0 where
      pub finished : Finished c
      pub not_too_long : length c ≤ most_legs
      pub within_spare : length c ≤ spare

    -- how a chain is answered whose turn comes after J, with so much spare left
    pub data AnsweredAsOne (ans : List Answer) : Type 0 where
      all_taken : IsAsked → NoneRefused c → ans ≡ each_gets c (Ok tt) → AnsweredAsOne ans
      one_refused : (i : ℕ) (r : Refusal)
          → IsAsked → FirstRefused c i r → ans ≡ one_gets c i r → AnsweredAsOne ans
      unfinished : Unfinished c
          → ans ≡ one_gets c (length c - 1) ChainUnfinished → AnsweredAsOne ans
      too_long : Finished c → most_legs < length c
          → ans ≡ each_gets c (Err ChainTooLong) → AnsweredAsOne ans
      over_spare : Finished c → length c ≤ most_legs → spare < length c
          → ans ≡ each_gets c (Err ChainOverSpare) → AnsweredAsOne ans

-- What becomes of a batch.

-- c is a chain of these orders, and stands from place n on
pub record ChainAt (os : List Order) (n : ℕ) (c : List Order) : Type 0 where
  pub before : List (List Order)
  pub after : List (List Order)
  pub is : chains os ≡ before ++ c ∷ after
  pub place : n ≡ length (orders_of before)

-- the orders that are answered 0
abbrev pub orders_taken : List Order → List Answer → List Order
orders_taken os ans = map (λ p. p.0) (filter (λ p. is_ok p.1) (zip os ans))

-- an outcome's answers for a chain from place n on
abbrev pub answers_at : ℕ → List Order → Outcome → List Answer
answers_at n c x = slice_range x.answers n (n + length c)

-- a list without k items from place n on
abbrev pub leaving_out : {X : Type 0} → (n k : ℕ) → List X → List X
leaving_out n k xs = take n xs ++ drop (n + k) xs

-- an outcome without the answers of a chain from place n on
abbrev pub but_for : ℕ → List Order → Outcome → Outcome
but_for n c x = record { answers = leaving_out n (length c) x.answers; entries = x.entries }

module _ (policy : Policy) (J : Journal) (T spare : ℕ) where
  module _ (os : List Order) (x : Outcome) where
    -- the orders in front of place n that are taken
    abbrev pub taken_before : ℕ → List Order
    taken_before n = orders_taken (take n os) (take n x.answers)

    -- the journal and its spare after those
    abbrev pub journal_at : ℕ → Journal
    journal_at n = with_orders J T (taken_before n)

    abbrev pub spare_at : ℕ → ℕ
    spare_at n = spare - length (taken_before n)

    -- x answers each of these orders, each chain as one when its turn comes, and what is taken joins
    pub record IsOutcome : Type 0 where
      pub each_answered : length x.answers ≡ length os
      pub each_chain : (n : ℕ) (c : List Order) → ChainAt os n c
          → AnsweredAsOne policy (journal_at n) T (spare_at n) c (answers_at n c x)
      pub taken_join : x.entries ≡ map (leg_writes T) (orders_taken os x.answers)

  abbrev pub outcome : List Order → Outcome
  outcome os = batch policy J T spare os

  -- the outcome of a batch is such a one, and no other is; what is taken is what is answered 0
  pub record HasOutcome (os : List Order) : Type 0 where
    pub one : (x : Outcome) → IsOutcome os x ↔ (x ≡ outcome os)
    pub counted : taken (outcome os) ≡ length (orders_taken os (outcome os).answers)

  -- a chain from place n on is taken whole, or no order of it is
  abbrev pub IsWhole : List Order → ℕ → List Order → Type 0
  IsWhole os n c =
      (answers_at n c (outcome os) ≡ each_gets c (Ok tt)) ⊎ AllByRecursion IsErr (answers_at n c (outcome os))

  -- where one is refused, a batch without the chain has the other answers, and the same entries
  abbrev pub LeavesNoTrace : List Order → ℕ → List Order → Type 0
  LeavesNoTrace os n c =
      Any IsErr (answers_at n c (outcome os))
      → outcome (leaving_out n (length c) os) ≡ but_for n c (outcome os)

  -- two batches one after the other, the second on what the first one leaves
  abbrev pub both : (first : Outcome) → List Order → Outcome
  both first os =
      and_then first (batch policy (grown J first.entries) T (spare - length first.entries) os)

  -- a batch may be cut in two behind an order without the linked mark
  abbrev pub IsCut : Type 0
  IsCut =
      (front back : List Order) (o : Order) → o.linked ≡ false
      → outcome (front ++ o ∷ back) ≡ both (outcome (front ++ o ∷ [])) back
