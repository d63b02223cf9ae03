-- Partway through a batch: the chains so far, and the chain that is open.
use Rattle.std.proofs.Common.{◌≡◌, ℕ, suc, ◌+◌, ◌-◌, ◌<◌, ◌≤◌, true, false, List, [], ◌∷◌, ◌++◌, length, get_or, take, drop, set, replicate, None, Ok, Err, sym, refl, ap, ◌∙◌, subst, arith, length-set, take-append-drop}
use borrow.Rule.Slice.PartMut.{put_mid}
use Rattle.std.specs.List.{AllByRecursion as All}
use Rattle.std.proofs.ByRecursion.{All-more}
use Rattle.std.proofs.lemmas.List.{get_or-drop, drop-drop, length-drop, length-take-le, length-append, length-replicate, take_all, append_assoc, append-nil}
use Rattle.std.proofs.lemmas.Slice.{take-put_mid, drop-put_mid}
use Rattle.std.proofs.lemmas.Bool.{le-ltb}
use Rattle.meaning.specs.declared.order.Order.{Order}
use Rattle.meaning.specs.declared.record.Record.{Record}
use Rattle.meaning.specs.declared.refusal.Refusal.TheVariants.{ChainRefused, ChainUnfinished, AnswersTooShort}
use Rattle.meaning.specs.Basics.{sum_of, first_of}
use Rattle.meaning.specs.Batches.{chains, unfinished, Outcome, but_one, chain, and_then, in_turn, batch, is_taken, taken, batch_refused, Answer}
use Rattle.meaning.specs.Calls.{answered, unless, over}
use Rattle.meaning.specs.Given.{Journal}
use Rattle.meaning.specs.Rules.{Policy}
use Rattle.journal.specs.declared.journal.Journal as journal
use Rattle.balances.specs.declared.balances.Balances.{Balances}
use Rattle.steps.specs.Chained.{Tied, Chained, Batched}
use Rattle.steps.specs.Written.{journal_of, Wrote}
use Rattle.steps.proofs.Outcomes.{none_taken, still_none}
use Rattle.steps.proofs.Splits.{Linked, chains_split, one_chain, all_unfinished}
use Rattle.steps.proofs.Writes.{wrote_then}

abbrev pub outcome : List Answer → List Record → Outcome
outcome ans new = record { answers = ans; entries = new }

pub sum-append : (f : Answer → ℕ) (xs ys : List Answer) → sum_of f (xs ++ ys) ≡ sum_of f xs + sum_of f ys
sum-append f [] ys = omega arith
sum-append f (x ∷ xs) ys = omega (arith, sum-append f xs ys)

then_assoc : (ans : List Answer) (new : List Record) (y z : Outcome) → and_then (outcome ans new) (and_then y z) ≡ and_then (outcome (ans ++ y.answers) (new ++ y.entries)) z
then_assoc ans new y z = sym (λ i. outcome (append_assoc ans y.answers z.answers i) (append_assoc new y.entries z.entries i))

module _ {J : Type 0} (j : journal.Ghosts J) (policy : Policy) (T : ℕ) (x : J) (os : List Order) (ans0 : List Answer) where
  abbrev whole : Outcome
  whole = batch policy (journal_of j x) T (j.spare x) os

  -- what is left to run from a place on, over the journal y
  abbrev left : J → ℕ → Outcome
  left y start = in_turn policy (journal_of j y) T (j.spare y) (chains (drop start os))

  pub record Partway (start i n : ℕ) (ans : List Answer) (b : Balances) (y : J) : Type 0 where
    pub new : List Record
    pub tied : Tied j policy T b y
    pub wrote : Wrote j x new y
    pub marked : All Linked (take (i - start) (drop start os))
    pub out : whole ≡ and_then (outcome (take start ans) new) (left y start)
    pub count : n ≡ sum_of is_taken (take start ans)
    pub rest : drop start ans ≡ drop start ans0

  module _ (start i n : ℕ) (ans : List Answer) (b : Balances) (y : J) (d : Order) (le : start ≤ i) (lt : i < length os) (W : Partway start i n ans b y) where
    here : get_or (drop start os) (i - start) d ≡ get_or os i d
    here = let e : start + (i - start) ≡ i = omega arith in get_or-drop start os (i - start) d ∙ ap (λ m. get_or os m d) e

    within : i - start < length (drop start os)
    within = omega (arith, length-drop start os)

    -- an order with the mark goes on with the chain
    pub partway_mark : (get_or os i d).linked ≡ true → Partway start (i + 1) n ans b y
    partway_mark e =
        let k : i - start + 1 ≡ i + 1 - start = omega arith in
        record {
          new = W.new;
          tied = W.tied;
          wrote = W.wrote;
          marked = subst (λ m. All Linked (take m (drop start os))) k (All-more Linked (drop start os) (i - start) d within W.marked (ap (λ (o : Order). o.linked) here ∙ e));
          out = W.out;
          count = W.count;
          rest = W.rest;
        }

    -- one without it ends the chain, which came to its outcome
    module _ (end : (get_or os i d).linked ≡ false) (long : length os ≤ length ans) (m : ℕ) (told : List Answer) (b' : Balances) (y' : J) (told-length : length told ≡ i + 1 - start)
        (C : Chained j policy T y (chain policy (journal_of j y) T (j.spare y) (take (i + 1 - start) (drop start os))) m told b' y') where
      abbrev legs : List Order
      legs = take (i + 1 - start) (drop start os)

      abbrev ended : Outcome
      ended = chain policy (journal_of j y) T (j.spare y) legs

      abbrev ans' : List Answer
      ans' = put_mid start (i + 1 - start) ans told

      split : chains (drop start os) ≡ legs ∷ chains (drop (i + 1) os)
      split =
          let k : suc (i - start) ≡ i + 1 - start = omega arith in
          let s : start + (i + 1 - start) ≡ i + 1 = omega arith in
          chains_split (i - start) (drop start os) d W.marked within (ap (λ (o : Order). o.linked) here ∙ end)
          ∙ (ap (λ w. take w (drop start os) ∷ chains (drop w (drop start os))) k ∙ (ap (λ w. legs ∷ chains w) (drop-drop (i + 1 - start) start os) ∙ ap (λ w. legs ∷ chains (drop w os)) s))

      front : take (i + 1) ans' ≡ take start ans ++ ended.answers
      front = take-put_mid start (i + 1 - start) ans told (i + 1) (omega arith) (omega arith) ∙ ap (λ w. take start ans ++ w) C.answers

      goes_on : left y start ≡ and_then ended (left y' (i + 1))
      goes_on =
          ap (in_turn policy (journal_of j y) T (j.spare y)) split
          ∙ (ap (λ K. and_then ended (in_turn policy K T (j.spare y - length ended.entries) (chains (drop (i + 1) os)))) (sym C.wrote.records)
          ∙ ap (λ s. and_then ended (in_turn policy (journal_of j y') T s (chains (drop (i + 1) os)))) (sym C.wrote.spare))

      pub partway_chain : Partway (i + 1) (i + 1) (n + m) ans' b' y'
      partway_chain =
          let none : i + 1 - (i + 1) ≡ 0 = omega arith in
          let to : start + (i + 1 - start) ≡ i + 1 = omega arith in
          record {
            new = W.new ++ ended.entries;
            tied = C.tied;
            wrote = wrote_then j x y y' W.new ended.entries W.wrote C.wrote;
            marked = subst (λ w. All Linked (take w (drop (i + 1) os))) (sym none) tt;
            out = W.out ∙ (ap (and_then (outcome (take start ans) W.new)) goes_on ∙ (then_assoc (take start ans) W.new ended (left y' (i + 1)) ∙ ap (λ w. and_then (outcome w (W.new ++ ended.entries)) (left y' (i + 1))) (sym front)));
            count = omega (arith, W.count, C.count, ap (sum_of is_taken) front, sum-append is_taken (take start ans) ended.answers);
            rest = drop-put_mid start (i + 1 - start) ans told (i + 1) (omega arith) (omega arith) told-length ∙ (ap (λ w. drop w ans) (sym to) ∙ (sym (drop-drop (i + 1 - start) start ans) ∙ (ap (drop (i + 1 - start)) W.rest ∙ (drop-drop (i + 1 - start) start ans0 ∙ ap (λ w. drop w ans0) to))));
          }

-- orders that all have the mark, at the end of a batch: the last is told that its chain is unfinished
unfinished_out : (policy : Policy) (K : Journal) (T s : ℕ) (xs : List Order) → All Linked xs → in_turn policy K T s (chains xs) ≡ outcome (set (replicate (length xs) (Err ChainRefused)) (length xs - 1) (Err ChainUnfinished)) []
unfinished_out policy K T s [] h = refl
unfinished_out policy K T s (o ∷ xs) h =
    let u = all_unfinished o xs h in
    ap (in_turn policy K T s) (one_chain o xs h)
    ∙ (ap (λ (w : Outcome). and_then w (outcome [] [])) (ended u)
    ∙ ap (λ ans. outcome ans []) (append-nil (set (replicate (length (o ∷ xs)) (Err ChainRefused)) (length (o ∷ xs) - 1) (Err ChainUnfinished))))
  where
    ended : unfinished (o ∷ xs) ≡ true → chain policy K T s (o ∷ xs) ≡ but_one (length (o ∷ xs) - 1) ChainUnfinished (o ∷ xs)
    ended u = rw u

module _ {J : Type 0} (j : journal.Ghosts J) (policy : Policy) (T : ℕ) (x : J) (os : List Order) (ans0 : List Answer) (enough : length os ≤ length ans0) where
  -- after the last order, with the answers of an unfinished chain put in
  module _ (start i n : ℕ) (ans told : List Answer) (b : Balances) (y : J) (le : start ≤ length os) (past : length os ≤ i) (kept : length ans ≡ length ans0) (W : Partway j policy T x os ans0 start i n ans b y)
      (ended : told ≡ set (replicate (length os - start) (Err ChainRefused)) (length os - start - 1) (Err ChainUnfinished)) where
    abbrev all : Outcome
    all = batch policy (journal_of j x) T (j.spare x) os

    rest_long : length (drop start os) ≡ length os - start
    rest_long = length-drop start os

    told_long : length told ≡ length os - start
    told_long = ap length ended ∙ (length-set (replicate (length os - start) (Err ChainRefused)) (length os - start - 1) (Err ChainUnfinished) ∙ length-replicate (length os - start) (Err ChainRefused))

    told_none : sum_of is_taken told ≡ 0
    told_none = ap (sum_of is_taken) ended ∙ still_none (replicate (length os - start) (Err ChainRefused)) (length os - start - 1) ChainUnfinished (none_taken (length os - start) ChainRefused)

    all_is : all ≡ outcome (take start ans ++ told) (W.new ++ [])
    all_is =
        let every : take (i - start) (drop start os) ≡ drop start os = take_all (i - start) (drop start os) (omega (arith, rest_long)) in
        W.out ∙ ap (and_then (outcome (take start ans) W.new))
        (unfinished_out policy (journal_of j y) T (j.spare y) (drop start os) (subst (All Linked) every W.marked)
        ∙ (ap (λ m. outcome (set (replicate m (Err ChainRefused)) (m - 1) (Err ChainUnfinished)) []) rest_long ∙ ap (λ w. outcome w []) (sym ended)))

    passes : batch_refused os (length ans0) ≡ None
    passes = ap (λ t. first_of ((t, AnswersTooShort) ∷ [])) (le-ltb (length ans0) (length os) enough)

    abbrev ans'' : List Answer
    ans'' = put_mid start (length os - start) ans told

    answers_are : ans'' ≡ over all.answers ans0
    answers_are =
        let told-all : all.answers ≡ take start ans ++ told = ap (λ (o : Outcome). o.answers) all_is in
        let fronts = length-take-le start ans (omega arith) in
        let long : length all.answers ≡ length os = ap length told-all ∙ (length-append (take start ans) told ∙ omega (arith, told_long, fronts)) in
        let to : start + (length os - start) ≡ length os = omega arith in
        sym (take-append-drop (length os) ans'')
        ∙ (ap (λ w. w ++ drop (length os) ans'') (take-put_mid start (length os - start) ans told (length os) (omega (arith, told_long)) (omega arith) ∙ sym told-all)
        ∙ ap (λ w. all.answers ++ w) (drop-put_mid start (length os - start) ans told (length os) (omega arith) (omega arith) told_long
        ∙ (ap (λ w. drop w ans) (sym to) ∙ (sym (drop-drop (length os - start) start ans) ∙ (ap (drop (length os - start)) W.rest ∙ (drop-drop (length os - start) start ans0 ∙ ap (λ w. drop w ans0) (to ∙ sym long)))))))

    pub partway_all : Batched j policy T x all os ans0 (Ok n) ans'' b y
    partway_all = record {
      answer = ap Ok (omega (arith, W.count, ap (λ (o : Outcome). sum_of is_taken o.answers) all_is, sum-append is_taken (take start ans) told, told_none)) ∙ sym (ap (λ r. answered r (taken all)) passes);
      answers = answers_are ∙ sym (ap (λ r. unless r (over all.answers ans0) ans0) passes);
      wrote = subst (λ w. Wrote j x w y) (sym (ap (λ r. unless r all.entries []) passes ∙ (ap (λ (o : Outcome). o.entries) all_is ∙ append-nil W.new))) W.wrote;
      tied = W.tied;
    }

module _ {J : Type 0} (j : journal.Ghosts J) (policy : Policy) (T : ℕ) (x : J) (os : List Order) (ans0 : List Answer) where
  -- the same by other names
  pub partway_same : (i s s' n n' : ℕ) (ans ans' : List Answer) (b b' : Balances) (y y' : J) → s' ≡ s → n' ≡ n → ans' ≡ ans → b' ≡ b → y' ≡ y → Partway j policy T x os ans0 s i n ans b y → Partway j policy T x os ans0 s' i n' ans' b' y'
  partway_same i s s' n n' ans ans' b b' y y' es en ea eb ey W =
      subst (λ v. Partway j policy T x os ans0 v i n' ans' b' y') (sym es)
      (subst (λ v. Partway j policy T x os ans0 s i v ans' b' y') (sym en)
      (subst (λ v. Partway j policy T x os ans0 s i n v b' y') (sym ea)
      (subst (λ v. Partway j policy T x os ans0 s i n ans v y') (sym eb)
      (subst (λ v. Partway j policy T x os ans0 s i n ans b v) (sym ey) W))))
