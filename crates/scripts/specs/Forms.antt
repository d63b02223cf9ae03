-- The form of a script: a head, and one call after another until it ends.
use Rattle.std.specs.Prelude.{ℕ, zero, suc, cond, List, [], ◌∷◌, length, take, drop, Ok, Err, Result, ◌==◌, nat_le, nat_lt}
use Rattle.meaning.specs.declared.opening.Opening.{Opening}
use Rattle.meaning.specs.declared.order.Action.{Action}
use Rattle.meaning.specs.declared.order.Action.TheVariants.{Transfer, Reserve, Post, Void}
use Rattle.meaning.specs.declared.order.Order.{Order}
use Rattle.layout.specs.Layout.{byte, u16_at, u32_at, u64_at}
use Rattle.scripts.specs.declared.bad.Bad.{Bad}
use Rattle.scripts.specs.declared.bad.Bad.TheVariants.{Head as NoHead, Journal as NoJournal, Policy as NoPolicy, Cut, Call as NoCall, Order as NoOrder, List as TooLong}
use Rattle.scripts.specs.declared.head.Head.{Head}
use Rattle.scripts.specs.declared.head.JournalKind.{JournalKind}
use Rattle.scripts.specs.declared.head.JournalKind.TheVariants.{Roll, Strip, RollAndStrip, StripAndRoll}
use Rattle.scripts.specs.declared.head.PolicyKind.{PolicyKind}
use Rattle.scripts.specs.declared.head.PolicyKind.TheVariants.{Plain, ByClass}
use Rattle.scripts.specs.declared.plain.PlainPolicy.{PlainPolicy}
use Rattle.scripts.specs.declared.plain.PlainPolicy.TheVariants.{Open as OpenToAll, Floor, Ceiling}
use Rattle.scripts.specs.declared.step.Step.{Step}
use Rattle.scripts.specs.declared.step.Step.TheVariants.{Open, Run, Move, Report, Account, Reservation, Moment, Reading}
use Rattle.scripts.specs.Limits.{most_orders, most_answers, most_lapses, most_bytes}

-- what is made of the next n bytes, where there are so many
abbrev pub with_next : {X : Type 0} → ℕ → List ℕ → (List ℕ → Result X Bad) → Result X Bad
with_next n bs f = cond (nat_le n (length bs)) (f (take n bs)) (Err Cut)

-- what is made of a result, where there is one
abbrev pub then_do : {X Y : Type 0} → Result X Bad → (X → Result Y Bad) → Result Y Bad
then_do (Ok x) f = f x
then_do (Err b) f = Err b

-- The head, of 14 bytes.

-- a journal, and a policy, by its number
abbrev pub journal_kind : ℕ → Result JournalKind Bad
journal_kind n = cond (n == 0) (Ok Roll) (cond (n == 1) (Ok Strip) (cond (n == 2) (Ok RollAndStrip) (cond (n == 3) (Ok StripAndRoll) (Err NoJournal))))

abbrev pub plain_policy : ℕ → Result PlainPolicy Bad
plain_policy n = cond (n == 0) (Ok OpenToAll) (cond (n == 1) (Ok Floor) (cond (n == 2) (Ok Ceiling) (Err NoPolicy)))

abbrev pub policy_kind : (number class below from : ℕ) → Result PolicyKind Bad
policy_kind number class below from = cond (number == 3)
    (then_do (plain_policy below) (λ b. then_do (plain_policy from) (λ f. Ok (ByClass b class f))))
    (then_do (plain_policy number) (λ s. Ok (Plain s)))

abbrev pub head_of : List ℕ → Result Head Bad
head_of f = cond (byte f 0 == 1)
    (then_do (journal_kind (byte f 1)) (λ k. then_do (policy_kind (byte f 2) (byte f 3) (byte f 4) (byte f 5)) (λ r. Ok (record { journal = k; policy = r; used = u64_at f 6 }))))
    (Err NoHead)

abbrev pub head_at : List ℕ → Result Head Bad
head_at bs = cond (nat_le 14 (length bs)) (head_of (take 14 bs)) (Err NoHead)

-- Orders, of 26 bytes each.

abbrev pub action_of : (kind first second amount duration : ℕ) → Result Action Bad
action_of kind first second amount duration =
    cond (kind == 2) (Ok (Transfer first second amount))
    (cond (kind == 3) (Ok (Reserve first second amount duration))
    (cond (kind == 4) (Ok (Post first amount))
    (cond (kind == 5) (Ok (Void first)) (Err NoOrder))))

abbrev pub order_of : List ℕ → Result Order Bad
order_of f = cond (nat_lt 1 (byte f 4)) (Err NoOrder)
    (then_do (action_of (byte f 5) (u32_at f 6) (u32_at f 10) (u64_at f 14) (u32_at f 22)) (λ a. Ok (record { number = u32_at f 0; linked = (byte f 4 == 1); action = a })))

-- n of them, and the bytes behind them
abbrev pub orders_at : ℕ → List ℕ → Result (List Order × List ℕ) Bad
orders_at zero bs = Ok ([], bs)
orders_at (suc n) bs = then_do (with_next 26 bs order_of) (λ o. then_do (orders_at n (drop 26 bs)) (λ r. Ok (o ∷ r.0, r.1)))

-- Calls: a code, and the fields behind it.

abbrev pub opening_of : List ℕ → Opening
opening_of f = record { number = u32_at f 0; ledger = u16_at f 4; class = byte f 6; limit = u64_at f 7; label = u64_at f 15 }

-- a list's length, where it is no longer than allowed
abbrev pub at_most : ℕ → ℕ → Result ℕ Bad
at_most most n = cond (nat_lt most n) (Err TooLong) (Ok n)

-- a call: what it asks for, and its orders where it is a batch
pub record Call : Type 0 where
  pub step : Step
  pub orders : List Order

-- one whose fields take n bytes, and the bytes behind it
abbrev pub call_of : ℕ → List ℕ → (List ℕ → Result Step Bad) → Result (Call × List ℕ) Bad
call_of n bs f = then_do (with_next n bs f) (λ s. Ok (record { step = s; orders = [] }, drop n bs))

abbrev pub batch_at : List ℕ → Result (Call × List ℕ) Bad
batch_at bs =
    then_do (with_next 1 bs (λ f. at_most most_orders (byte f 0))) (λ n.
    then_do (with_next 1 (drop 1 bs) (λ f. at_most most_answers (byte f 0))) (λ places.
    then_do (orders_at n (drop 2 bs)) (λ r. Ok (record { step = Run n places; orders = r.0 }, r.1))))

-- the call of a code
abbrev pub coded : ℕ → List ℕ → Result (Call × List ℕ) Bad
coded code bs =
    cond (code == 1) (call_of 23 bs (λ f. Ok (Open (opening_of f))))
    (cond (code == 2) (batch_at bs)
    (cond (code == 3) (call_of 10 bs (λ f. then_do (at_most most_lapses (u16_at f 8)) (λ places. Ok (Move (u64_at f 0) places))))
    (cond (code == 4) (call_of 2 bs (λ f. then_do (at_most most_bytes (u16_at f 0)) (λ places. Ok (Report places))))
    (cond (code == 5) (call_of 4 bs (λ f. Ok (Account (u32_at f 0))))
    (cond (code == 6) (call_of 4 bs (λ f. Ok (Reservation (u32_at f 0))))
    (cond (code == 7) (call_of 0 bs (λ f. Ok Moment))
    (cond (code == 8) (call_of 0 bs (λ f. Ok Reading)) (Err NoCall))))))))

abbrev pub call_at : List ℕ → Result (Call × List ℕ) Bad
call_at bs = then_do (with_next 1 bs (λ f. Ok (byte f 0))) (λ code. coded code (drop 1 bs))

-- one after another until the bytes end, and at most so many
abbrev pub calls_at : ℕ → List ℕ → Result (List Call) Bad
calls_at zero bs = Ok []
calls_at (suc most) bs = cond (length bs == 0) (Ok []) (then_do (call_at bs) (λ r. then_do (calls_at most r.1) (λ cs. Ok (r.0 ∷ cs))))

-- The whole script. No call is shorter than a byte, so that there are no more calls than bytes.
abbrev pub script_at : List ℕ → Result (Head × List Call) Bad
script_at bs = then_do (head_at bs) (λ h. then_do (calls_at (length (drop 14 bs)) (drop 14 bs)) (λ cs. Ok (h, cs)))
