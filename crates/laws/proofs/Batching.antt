-- What becomes of a batch: each chain is answered as one, and one that is refused leaves no trace.
use Rattle.std.proofs.Common.{◌≡◌, ℕ, ◌+◌, ◌-◌, Bool, true, false, cond, ◌⊎◌, inl, inr, ⊎_elim, List, [], ◌∷◌, ◌++◌, map, length, replicate, take, drop, Ok, Err, sym, refl, ap, ◌∙◌, subst, arith, append_assoc}
use Rattle.std.specs.Prelude.{is_err, IsErr, Any, slice_range}
use Rattle.std.proofs.lemmas.Bool.{false≢true}
use Rattle.std.specs.List.{AllByRecursion as All}
use Rattle.std.proofs.lemmas.List.{length-append, length-map, length-replicate, length-set, get_or-replicate, map-append, take_at, drop_at}
use Rattle.std.proofs.lemmas.List.Concat.{flat_map-append}
use Rattle.meaning.specs.declared.order.Order.{Order}
use Rattle.meaning.specs.declared.record.Record.{Record}
use Rattle.meaning.specs.declared.refusal.Refusal.{Refusal}
use Rattle.meaning.specs.declared.refusal.Refusal.TheVariants.{ChainRefused}
use Rattle.meaning.specs.Basics.{sum_of}
use Rattle.meaning.specs.Given.{Journal}
use Rattle.meaning.specs.Rules.{Policy, leg_writes}
use Rattle.meaning.specs.Batches.{Answer, Outcome, joins, chains, chain, grown, and_then, in_turn, is_taken, taken}
use Rattle.laws.specs.Chains.{Finished, Unfinished, orders_of, one_gets, AnsweredAsOne, all_taken, one_refused, too_long, over_spare, ChainAt, leaving_out, orders_taken, answers_at, but_for, taken_before, journal_at, spare_at, IsOutcome, outcome, IsWhole, LeavesNoTrace, IsCut}
use Rattle.laws.specs.Chains as chained
use Rattle.laws.proofs.Writings.{grown_on}
use Rattle.laws.proofs.Joining.{Ended, chains_of, joined, ended, at_place}
use Rattle.laws.proofs.Asking.{Whole, came, stayed, Outcomes, outcome_of}

-- Three lists in a row.
module _ {X : Type 0} (p q r : List X) (n : ℕ) (at : n ≡ length p) where
  first_of_three : take n (p ++ (q ++ r)) ≡ p
  first_of_three = take_at p (q ++ r) n (sym at)

  second_of_three : slice_range (p ++ (q ++ r)) n (n + length q) ≡ q
  second_of_three =
      let w : n + length q - n ≡ length q = omega arith in
      ap (λ k. take k (drop n (p ++ (q ++ r)))) w ∙ (ap (take (length q)) (drop_at p (q ++ r) n (sym at)) ∙ take_at q r (length q) refl)

  without_second : leaving_out n (length q) (p ++ (q ++ r)) ≡ p ++ r
  without_second =
      let long : length (p ++ q) ≡ n + length q = length-append p q ∙ ap (λ k. k + length q) (sym at) in
      ap (λ xs. xs ++ drop (n + length q) (p ++ (q ++ r))) first_of_three ∙ ap (λ xs. p ++ xs) (ap (drop (n + length q)) (sym (append_assoc p q r)) ∙ drop_at (p ++ q) r (n + length q) long)

-- Orders that are taken.

pub taken_append : (xs ys : List Order) (us vs : List Answer) → length xs ≡ length us → orders_taken (xs ++ ys) (us ++ vs) ≡ orders_taken xs us ++ orders_taken ys vs
taken_append [] ys [] vs e = refl
taken_append [] ys (u ∷ us) vs e = absurd (omega arith)
taken_append (x ∷ xs) ys [] vs e = absurd (omega arith)
taken_append (x ∷ xs) ys (Ok u ∷ us) vs e = ap (λ os. x ∷ os) (taken_append xs ys us vs (omega arith))
taken_append (x ∷ xs) ys (Err r ∷ us) vs e = taken_append xs ys us vs (omega arith)

all_are_taken : (c : List Order) → orders_taken c (replicate (length c) (Ok tt)) ≡ c
all_are_taken [] = refl
all_are_taken (o ∷ c) = ap (λ os. o ∷ os) (all_are_taken c)

none_is_taken : (c : List Order) (us : List Answer) → All IsErr us → orders_taken c us ≡ []
none_is_taken [] us h = refl
none_is_taken (o ∷ c) [] h = refl
none_is_taken (o ∷ c) (Ok u ∷ us) h = absurd (false≢true h.0)
none_is_taken (o ∷ c) (Err r ∷ us) h = none_is_taken c us h.1

counted : (os : List Order) (us : List Answer) → length os ≡ length us → sum_of is_taken us ≡ length (orders_taken os us)
counted [] [] e = refl
counted [] (u ∷ us) e = absurd (omega arith)
counted (o ∷ os) [] e = absurd (omega arith)
counted (o ∷ os) (Ok u ∷ us) e = omega (arith, counted os us (omega arith))
counted (o ∷ os) (Err r ∷ us) e = omega (arith, counted os us (omega arith))

-- Chains, each finished or not.

abbrev pub EitherWay : List (List Order) → Type 0
EitherWay cs = All (λ c. Finished c ⊎ Unfinished c) cs

pub either_way : (cs : List (List Order)) → Ended cs → EitherWay cs
either_way [] h = tt
either_way (c ∷ []) h = (h, tt)
either_way (c ∷ (d ∷ cs)) h = (inl h.0, either_way (d ∷ cs) h.1)

first_ways : (before after : List (List Order)) → EitherWay (before ++ after) → EitherWay before
first_ways [] after h = tt
first_ways (b ∷ before) after h = (h.0, first_ways before after h.1)

one_less : (before after : List (List Order)) (c : List Order) → Ended (before ++ c ∷ after) → Ended (before ++ after)
one_less [] [] c h = tt
one_less [] (d ∷ after) c h = h.1
one_less (b ∷ []) [] c h = inl h.0
one_less (b ∷ []) (d ∷ after) c h = (h.0, h.1.1)
one_less (b ∷ (d ∷ before)) after c h = (h.0, one_less (d ∷ before) after c h.1)

module _ (policy : Policy) (T : ℕ) where
  -- the same of the same
  pub moved : (c : List Order) {K L : Journal} {s t : ℕ} {us vs : List Answer} → K ≡ L → s ≡ t → us ≡ vs → AnsweredAsOne policy K T s c us → AnsweredAsOne policy L T t c vs
  moved c {K = K} {L = L} {s = s} {t = t} {us = us} {vs = vs} k m u h =
      subst (AnsweredAsOne policy L T t c) u (subst (λ n. AnsweredAsOne policy L T n c us) m (subst (λ J. AnsweredAsOne policy J T s c us) k h))

  -- the first chains, and then the others on what the first ones leave
  in_turn_append : (J : Journal) (spare : ℕ) (xs ys : List (List Order)) → in_turn policy J T spare (xs ++ ys) ≡ and_then (in_turn policy J T spare xs) (in_turn policy (grown J (in_turn policy J T spare xs).entries) T (spare - length (in_turn policy J T spare xs).entries) ys)
  in_turn_append J spare [] ys = ap (λ s. in_turn policy J T s ys) (omega arith)
  in_turn_append J spare (c ∷ xs) ys =
      let x = chain policy J T spare c in
      let K = grown J x.entries in
      let s = spare - length x.entries in
      let b = in_turn policy K T s xs in
      let z = λ (L : Journal) (k : ℕ). in_turn policy L T k ys in
      let left : s - length b.entries ≡ spare - length (x.entries ++ b.entries) = omega (arith, length-append x.entries b.entries) in
      let y = z (grown K b.entries) (s - length b.entries) in
      let row : and_then x (and_then b y) ≡ and_then (and_then x b) y = λ i. record { answers = sym (append_assoc x.answers b.answers y.answers) i; entries = sym (append_assoc x.entries b.entries y.entries) i } in
      ap (and_then x) (in_turn_append K s xs ys) ∙ (row ∙ (ap (λ L. and_then (and_then x b) (z L (s - length b.entries))) (sym (grown_on J x.entries b.entries)) ∙ ap (λ k. and_then (and_then x b) (z (grown J (x.entries ++ b.entries)) k)) left))

  module _ (J : Journal) (spare : ℕ) (c : List Order) where
    answered_all : (us : List Answer) → AnsweredAsOne policy J T spare c us → length us ≡ length c
    answered_all us (all_taken a n e) = ap length e ∙ length-replicate (length c) (Ok tt)
    answered_all us (one_refused i r a f e) = ap length e ∙ but_one_length i r
      where
        but_one_length : (i : ℕ) (r : Refusal) → length (one_gets c i r) ≡ length c
        but_one_length i r = length-set (replicate (length c) (Err ChainRefused)) i (Err r) ∙ length-replicate (length c) (Err ChainRefused)
    answered_all us (chained.unfinished u e) =
        ap length e ∙ (length-set (replicate (length c) (Err ChainRefused)) (length c - 1) (Err Refusal.ChainUnfinished) ∙ length-replicate (length c) (Err ChainRefused))
    answered_all us (too_long f l e) = ap length e ∙ length-replicate (length c) (Err Refusal.ChainTooLong)
    answered_all us (over_spare f l o e) = ap length e ∙ length-replicate (length c) (Err Refusal.ChainOverSpare)

  -- a chain's orders that are taken are those that join
  pub chain_entries : (J : Journal) (spare : ℕ) (c : List Order) (x : Outcome) → Whole T c x → x.entries ≡ map (leg_writes T) (orders_taken c x.answers)
  chain_entries J spare c x (came a e) =
      e ∙ ap (map (leg_writes T)) (sym (ap (orders_taken c) a ∙ all_are_taken c))
  chain_entries J spare c x (stayed a e) = e ∙ ap (map (leg_writes T)) (sym (none_is_taken c x.answers a))

  answers_long : (J : Journal) (spare : ℕ) (cs : List (List Order)) → EitherWay cs → length (in_turn policy J T spare cs).answers ≡ length (orders_of cs)
  answers_long J spare [] h = refl
  answers_long J spare (c ∷ cs) h =
      let x = chain policy J T spare c in
      let y = in_turn policy (grown J x.entries) T (spare - length x.entries) cs in
      let one : length x.answers ≡ length c = answered_all J spare c x.answers (outcome_of policy J T spare c h.0).as_one in
      let more : length y.answers ≡ length (orders_of cs) = answers_long (grown J x.entries) (spare - length x.entries) cs h.1 in
      omega (arith, length-append x.answers y.answers, length-append c (orders_of cs))

  entries_taken : (J : Journal) (spare : ℕ) (cs : List (List Order)) → EitherWay cs → (in_turn policy J T spare cs).entries ≡ map (leg_writes T) (orders_taken (orders_of cs) (in_turn policy J T spare cs).answers)
  entries_taken J spare [] h = refl
  entries_taken J spare (c ∷ cs) h =
      let x = chain policy J T spare c in
      let y = in_turn policy (grown J x.entries) T (spare - length x.entries) cs in
      let O = outcome_of policy J T spare c h.0 in
      let here = chain_entries J spare c x O.whole in
      let more = entries_taken (grown J x.entries) (spare - length x.entries) cs h.1 in
      let row = taken_append c (orders_of cs) x.answers y.answers (sym (answered_all J spare c x.answers O.as_one)) in
      (λ i. here i ++ more i) ∙ sym (ap (map (leg_writes T)) row ∙ map-append (leg_writes T) (orders_taken c x.answers) (orders_taken (orders_of cs) y.answers))

module _ (policy : Policy) (J : Journal) (T spare : ℕ) (os : List Order) where
  -- a chain of the batch, with those before and after it
  module _ (n : ℕ) (c : List Order) (C : ChainAt os n c) where
    abbrev front : Outcome
    front = in_turn policy J T spare C.before

    abbrev K : Journal
    K = grown J front.entries

    abbrev s : ℕ
    s = spare - length front.entries

    abbrev own : Outcome
    own = chain policy K T s c

    abbrev back : Outcome
    back = in_turn policy (grown K own.entries) T (s - length own.entries) C.after

    in_three : outcome policy J T spare os ≡ and_then front (and_then own back)
    in_three = ap (in_turn policy J T spare) C.is ∙ in_turn_append policy T J spare C.before (c ∷ C.after)

    orders : os ≡ orders_of C.before ++ (c ++ orders_of C.after)
    orders = sym (joined os) ∙ (ap orders_of C.is ∙ flat_map-append (λ c. c) C.before (c ∷ C.after))

    all_ended : Ended (C.before ++ c ∷ C.after)
    all_ended = subst Ended C.is (ended os)

    one_left_out : Ended (C.before ++ C.after)
    one_left_out = one_less C.before C.after c all_ended

    before_ways : EitherWay C.before
    before_ways = first_ways C.before C.after (either_way (C.before ++ C.after) one_left_out)

    outcomes : Outcomes policy K T s c own
    outcomes =
        outcome_of policy K T s c (⊎_elim inl (λ U. inr U.0) (at_place C.before C.after c all_ended))

    own_length : length own.answers ≡ length c
    own_length = answered_all policy T K s c own.answers outcomes.as_one

    front_length : n ≡ length front.answers
    front_length = C.place ∙ sym (answers_long policy T J spare C.before before_ways)

    answers : (outcome policy J T spare os).answers ≡ front.answers ++ (own.answers ++ back.answers)
    answers = ap (λ (x : Outcome). x.answers) in_three

    its_answers : answers_at n c (outcome policy J T spare os) ≡ own.answers
    its_answers =
        ap (λ us. slice_range us n (n + length c)) answers ∙ (ap (λ k. slice_range (front.answers ++ (own.answers ++ back.answers)) n (n + k)) (sym own_length) ∙ second_of_three front.answers own.answers back.answers n front_length)

    pub front_orders : take n os ≡ orders_of C.before
    front_orders = ap (take n) orders ∙ first_of_three (orders_of C.before) c (orders_of C.after) n C.place

    before_taken : taken_before policy J T spare os (outcome policy J T spare os) n ≡ orders_taken (orders_of C.before) front.answers
    before_taken =
        let us = ap (take n) answers ∙ first_of_three front.answers own.answers back.answers n front_length in
        λ i. orders_taken (front_orders i) (us i)

    front_entries : front.entries ≡ map (leg_writes T) (taken_before policy J T spare os (outcome policy J T spare os) n)
    front_entries = entries_taken policy T J spare C.before before_ways ∙ ap (map (leg_writes T)) (sym before_taken)

    its_spare : s ≡ spare - length (taken_before policy J T spare os (outcome policy J T spare os) n)
    its_spare =
        ap (λ (es : List Record). spare - length es) front_entries ∙ ap (λ k. spare - k) (length-map (taken_before policy J T spare os (outcome policy J T spare os) n) (leg_writes T))

    pub as_one : AnsweredAsOne policy (journal_at policy J T spare os (outcome policy J T spare os) n) T (spare_at policy J T spare os (outcome policy J T spare os) n) c (answers_at n c (outcome policy J T spare os))
    as_one =
        moved policy T c (ap (grown J) front_entries) its_spare (sym its_answers) outcomes.as_one

    -- what the other chains come to, where this one adds nothing
    others : own.entries ≡ [] → outcome policy J T spare (leaving_out n (length c) os) ≡ and_then front back
    others e =
        let less : leaving_out n (length c) os ≡ orders_of (C.before ++ C.after) = ap (leaving_out n (length c)) orders ∙ (without_second (orders_of C.before) c (orders_of C.after) n C.place ∙ sym (flat_map-append (λ c. c) C.before C.after)) in
        let cs : chains (leaving_out n (length c) os) ≡ C.before ++ C.after = ap chains less ∙ chains_of (C.before ++ C.after) one_left_out in
        let k : s ≡ s - length own.entries = omega (arith, ap (λ (es : List Record). length es) e) in
        ap (in_turn policy J T spare) cs ∙ (in_turn_append policy T J spare C.before C.after ∙ ap (and_then front) (ap (λ k. in_turn policy K T k C.after) k ∙ ap (λ es. in_turn policy (grown K es) T (s - length own.entries) C.after) (sym e)))

    untaken : own.entries ≡ [] → outcome policy J T spare (leaving_out n (length c) os) ≡ but_for n c (outcome policy J T spare os)
    untaken e =
        let us : leaving_out n (length c) (outcome policy J T spare os).answers ≡ front.answers ++ back.answers = ap (leaving_out n (length c)) answers ∙ (ap (λ k. leaving_out n k (front.answers ++ (own.answers ++ back.answers))) (sym own_length) ∙ without_second front.answers own.answers back.answers n front_length) in
        let es : (outcome policy J T spare os).entries ≡ front.entries ++ back.entries = ap (λ (x : Outcome). x.entries) in_three ∙ ap (λ es. front.entries ++ (es ++ back.entries)) e in
        others e ∙ (λ i. record { answers = sym us i; entries = sym es i })

    -- a list of equal answers that are 0 has none that is not
    none_refused : (k : ℕ) → Any {X = Answer} IsErr (replicate k (Ok tt)) → ⊥
    none_refused k A =
        let q : ◌≡◌ {A = Answer} (Ok tt) A.1 = sym (get_or-replicate k A.0 (Ok tt) A.1 (omega (arith, length-replicate {A = Answer} k (Ok tt)))) ∙ A.3 in
        false≢true (subst (λ (u : Answer). is_err u ≡ true) (sym q) A.4)

    pub is_whole : IsWhole policy J T spare os n c
    is_whole = go outcomes.whole
      where
        go : Whole T c own → IsWhole policy J T spare os n c
        go (came a e) = inl (its_answers ∙ a)
        go (stayed a e) = inr (subst (All IsErr) (sym its_answers) a)

    pub leaves_no_trace : LeavesNoTrace policy J T spare os n c
    leaves_no_trace = go outcomes.whole
      where
        go : Whole T c own → LeavesNoTrace policy J T spare os n c
        go (came a e) A = absurd (none_refused (length c) (subst (Any IsErr) (its_answers ∙ a) A))
        go (stayed a e) A = untaken e

  pub is_outcome : IsOutcome policy J T spare os (outcome policy J T spare os)
  is_outcome =
      let x = outcome policy J T spare os in
      let ways = either_way (chains os) (ended os) in
      let long = answers_long policy T J spare (chains os) ways ∙ ap length (joined os) in
      record {
        each_answered = long;
        each_chain = as_one;
        taken_join = entries_taken policy T J spare (chains os) ways ∙ ap (λ xs. map (leg_writes T) (orders_taken xs x.answers)) (joined os);
      }

  -- as many are taken as it says
  pub count_taken : taken (outcome policy J T spare os) ≡ length (orders_taken os (outcome policy J T spare os).answers)
  count_taken = counted os (outcome policy J T spare os).answers (sym is_outcome.each_answered)

-- A batch that is cut.

joins_in_front : (o : Order) (cs ds : List (List Order)) → (cs ≡ [] → ⊥) → joins o (cs ++ ds) ≡ joins o cs ++ ds
joins_in_front o [] ds h = absurd (h refl)
joins_in_front o (c ∷ cs) ds h = refl

some_chains : (front : List Order) (o : Order) → chains (front ++ o ∷ []) ≡ [] → ⊥
some_chains front o e = none front (sym (joined (front ++ o ∷ [])) ∙ ap orders_of e)
  where
    none : (front : List Order) → front ++ o ∷ [] ≡ [] → ⊥
    none [] e = cc
    none (p ∷ front) e = cc

cut_chains : (front back : List Order) (o : Order) → o.linked ≡ false → chains (front ++ o ∷ back) ≡ chains (front ++ o ∷ []) ++ chains back
cut_chains [] back o l = rw l
cut_chains (p ∷ front) back o l =
    ap (λ cs. cond p.linked (joins p cs) ((p ∷ []) ∷ cs)) (cut_chains front back o l) ∙ go p.linked
  where
    go : (b : Bool) → cond b (joins p (chains (front ++ o ∷ []) ++ chains back)) ((p ∷ []) ∷ (chains (front ++ o ∷ []) ++ chains back)) ≡ cond b (joins p (chains (front ++ o ∷ []))) ((p ∷ []) ∷ chains (front ++ o ∷ [])) ++ chains back
    go true = joins_in_front p (chains (front ++ o ∷ [])) (chains back) (some_chains front o)
    go false = refl

pub is_cut : (policy : Policy) (J : Journal) (T spare : ℕ) → IsCut policy J T spare
is_cut policy J T spare front back o l =
    ap (in_turn policy J T spare) (cut_chains front back o l) ∙ in_turn_append policy T J spare (chains (front ++ o ∷ [])) (chains back)
