-- How a chain is answered, and which entries it adds.
use Rattle.std.proofs.Common.{◌≡◌, ℕ, zero, suc, ◌+◌, ◌-◌, true, false, cond, ltb, Bool, ◌⊎◌, ⊎_elim, List, [], ◌∷◌, ◌++◌, map, length, replicate, set, Some, None, Ok, Err, Option, sym, refl, ap, ◌∙◌, subst, arith, add-one}
use Rattle.std.specs.Prelude.{IsErr}
use Rattle.std.specs.List.{AllByRecursion as All}
use Rattle.std.proofs.lemmas.Bool.{true≢false, ltb-true, ltb-false, le-ltb, lt-ltb, cond_both}
use Rattle.meaning.specs.declared.order.Order.{Order}
use Rattle.meaning.specs.declared.refusal.Refusal.{Refusal}
use Rattle.meaning.specs.declared.refusal.Refusal.TheVariants.{ChainRefused, ChainUnfinished, ChainTooLong, ChainOverSpare}
use Rattle.meaning.specs.declared.answers.Stop.{Stop}
use Rattle.meaning.specs.Given.{Journal}
use Rattle.meaning.specs.Rules.{Policy, leg_refused, leg_writes}
use Rattle.meaning.specs.Batches.{Answer, Outcome, unfinished, later, stop_if, first_refused, all_are, but_one, by_legs, chain}
use Rattle.laws.specs.Chains.{Finished, Unfinished, refused_behind, NoneRefused, IsAsked, FirstRefused, AnsweredAsOne, all_taken, one_refused, too_long, over_spare}
use Rattle.laws.specs.Chains as chained

-- Which chain is unfinished.

end_unmarked : (front : List Order) (o : Order) → o.linked ≡ false → unfinished (front ++ o ∷ []) ≡ false
end_unmarked [] o l = l
end_unmarked (p ∷ []) o l = l
end_unmarked (p ∷ (q ∷ front)) o l = end_unmarked (q ∷ front) o l

finished_not : (c : List Order) → Finished c → unfinished c ≡ false
finished_not c F = ap unfinished F.is ∙ end_unmarked F.front F.end F.unmarked

marked_all : (o : Order) (os : List Order) → All (λ p. p.linked ≡ true) (o ∷ os) → unfinished (o ∷ os) ≡ true
marked_all o [] h = h.0
marked_all o (p ∷ os) h = marked_all p os h.1

unfinished_is : (c : List Order) → Unfinished c → unfinished c ≡ true
unfinished_is [] U = absurd (omega (arith, U.some))
unfinished_is (o ∷ os) U = marked_all o os U.marked

-- The first order that is refused.

module _ (policy : Policy) (T : ℕ) where
  -- each order is asked behind those in front of it
  none_refused : (J : Journal) (o : Order) (os : List Order) → leg_refused policy J T o ≡ None → NoneRefused policy (leg_writes T o ∷ J) T os → NoneRefused policy J T (o ∷ os)
  none_refused J o os h rest [] back p e = let q : o ≡ p = cc in subst (λ x. leg_refused policy J T x ≡ None) q h
  none_refused J o os h rest (q ∷ front) back p e =
      let same : o ≡ q = cc in
      let more : os ≡ front ++ p ∷ back = cc in
      subst (λ x. refused_behind policy (leg_writes T x ∷ J) T front p ≡ None) same (rest front back p more)

  nothing : (front back : List Order) (p : Order) → [] ≡ front ++ p ∷ back → ⊥
  nothing [] back p s = cc
  nothing (q ∷ front) back p s = cc

  later_none : (s : Option Stop) → later s ≡ None → s ≡ None
  later_none None e = refl
  later_none (Some x) e = grind arith

  pub passes : (J : Journal) (os : List Order) → first_refused policy J T os ≡ None → NoneRefused policy J T os
  passes J [] e = λ front back p s. absurd (nothing front back p s)
  passes J (o ∷ os) e = go (leg_refused policy J T o) refl e (passes (leg_writes T o ∷ J) os)
    where
      go : (r : Option Refusal) → leg_refused policy J T o ≡ r → stop_if r (first_refused policy (leg_writes T o ∷ J) T os) ≡ None → (first_refused policy (leg_writes T o ∷ J) T os ≡ None → NoneRefused policy (leg_writes T o ∷ J) T os) → NoneRefused policy J T (o ∷ os)
      go None h e ih = none_refused J o os h (ih (later_none _ e))
      go (Some r) h e ih = grind arith

  first_here : (J : Journal) (o : Order) (os : List Order) (r : Refusal) → leg_refused policy J T o ≡ Some r → FirstRefused policy J T (o ∷ os) 0 r
  first_here J o os r h = record { front = []; order = o; back = os; is = refl; place = refl; passed = passes J [] refl; refused = h }

  first_later : (J : Journal) (o : Order) (os : List Order) (i : ℕ) (r : Refusal) → leg_refused policy J T o ≡ None → FirstRefused policy (leg_writes T o ∷ J) T os i r → FirstRefused policy J T (o ∷ os) (i + 1) r
  first_later J o os i r h F = record {
    front = o ∷ F.front;
    order = F.order;
    back = F.back;
    is = ap (λ x. o ∷ x) F.is;
    place = omega (arith, F.place);
    passed = none_refused J o F.front h F.passed;
    refused = F.refused;
  }

  pub stops : (J : Journal) (os : List Order) (s : Stop) → first_refused policy J T os ≡ Some s → FirstRefused policy J T os s.place s.refusal
  stops J [] s e = grind arith
  stops J (o ∷ os) s e = go (leg_refused policy J T o) refl (first_refused policy (leg_writes T o ∷ J) T os) refl e (stops (leg_writes T o ∷ J) os)
    where
      go : (r : Option Refusal) → leg_refused policy J T o ≡ r → (x : Option Stop) → first_refused policy (leg_writes T o ∷ J) T os ≡ x → stop_if r x ≡ Some s → ((s : Stop) → first_refused policy (leg_writes T o ∷ J) T os ≡ Some s → FirstRefused policy (leg_writes T o ∷ J) T os s.place s.refusal) → FirstRefused policy J T (o ∷ os) s.place s.refusal
      go (Some r) h x f e ih = let q : record { place = 0; refusal = r } ≡ s = cc in subst (λ (y : Stop). FirstRefused policy J T (o ∷ os) y.place y.refusal) q (first_here J o os r h)
      go None h None f e ih = grind arith
      go None h (Some y) f e ih = let q : record y { place = y.place + 1 } ≡ s = cc in subst (λ (z : Stop). FirstRefused policy J T (o ∷ os) z.place z.refusal) q (first_later J o os y.place y.refusal h (ih y f))

-- Nor is there another.

module _ (policy : Policy) (T : ℕ) where
  unstopped : (J : Journal) (os : List Order) → NoneRefused policy J T os → first_refused policy J T os ≡ None
  unstopped J [] h = refl
  unstopped J (o ∷ os) h =
      ap (λ r. stop_if r (first_refused policy (leg_writes T o ∷ J) T os)) (h [] os o refl) ∙ ap later (unstopped (leg_writes T o ∷ J) os (λ front back p e. h (o ∷ front) back p (ap (λ x. o ∷ x) e)))

  stopped : (J : Journal) (front back : List Order) (o : Order) (r : Refusal) → NoneRefused policy J T front → refused_behind policy J T front o ≡ Some r → first_refused policy J T (front ++ o ∷ back) ≡ Some (record { place = length front; refusal = r })
  stopped J [] back o r h e =
      ap (λ x. stop_if x (first_refused policy (leg_writes T o ∷ J) T back)) e
  stopped J (p ∷ front) back o r h e =
      let K = leg_writes T p ∷ J in
      let rest = stopped K front back o r (λ f b q s. h (p ∷ f) b q (ap (λ x. p ∷ x) s)) e in
      ap (λ x. stop_if x (first_refused policy K T (front ++ o ∷ back))) (h [] front p refl) ∙ (ap later rest ∙ ap (λ k. Some (record { place = k; refusal = r })) (add-one (length front)))

-- A chain and its outcome.

-- all of its orders are taken and join, or none is
pub data Whole (T : ℕ) (c : List Order) (x : Outcome) : Type 0 where
  came : x.answers ≡ replicate (length c) (Ok tt) → x.entries ≡ map (leg_writes T) c → Whole T c x
  stayed : All IsErr x.answers → x.entries ≡ [] → Whole T c x

each_is : (n : ℕ) (r : Refusal) → All {X = Answer} IsErr (replicate n (Err r))
each_is zero r = tt
each_is (suc n) r = (refl, each_is n r)

each_but : (xs : List Answer) (i : ℕ) (r : Refusal) → All IsErr xs → All IsErr (set xs i (Err r))
each_but [] i r h = tt
each_but (x ∷ xs) zero r h = (refl, h.1)
each_but (x ∷ xs) (suc i) r h = (h.0, each_but xs i r h.1)

module _ (policy : Policy) (J : Journal) (T spare : ℕ) (c : List Order) where
  -- an outcome of the chain: how it is answered, and that it joins as a whole
  pub record Outcomes (x : Outcome) : Type 0 where
    pub as_one : AnsweredAsOne policy J T spare c x.answers
    pub whole : Whole T c x

  refused_whole : (i : ℕ) (r : Refusal) → Whole T c (but_one i r c)
  refused_whole i r = stayed (each_but (replicate (length c) (Err ChainRefused)) i r (each_is (length c) ChainRefused)) refl

  by_rules : IsAsked policy J T spare c → (s : Option Stop) → first_refused policy J T c ≡ s → Outcomes (by_legs T c s)
  by_rules A None e = record { as_one = all_taken A (passes policy T J c e) refl; whole = came refl refl }
  by_rules A (Some s) e = record { as_one = one_refused s.place s.refusal A (stops policy T J c s e) refl; whole = refused_whole s.place s.refusal }

  is_open : Finished c ⊎ Unfinished c → unfinished c ≡ true → Unfinished c
  is_open h u = ⊎_elim (λ F. absurd (true≢false (sym u ∙ finished_not c F))) (λ U. U) h

  is_finished : Finished c ⊎ Unfinished c → unfinished c ≡ false → Finished c
  is_finished h u = ⊎_elim (λ F. F) (λ U. absurd (true≢false (sym (unfinished_is c U) ∙ u))) h

  pub outcome_of : Finished c ⊎ Unfinished c → Outcomes (chain policy J T spare c)
  outcome_of h =
      cond_both (unfinished c) _ _ Outcomes (λ u. record { as_one = chained.unfinished (is_open h u) refl; whole = refused_whole (length c - 1) ChainUnfinished })
      (λ u. cond_both (ltb 16 (length c)) _ _ Outcomes (λ long. record { as_one = too_long (is_finished h u) (ltb-true 16 (length c) long) refl; whole = stayed (each_is (length c) ChainTooLong) refl })
      (λ short. cond_both (ltb spare (length c)) _ _ Outcomes (λ over. record { as_one = over_spare (is_finished h u) (ltb-false 16 (length c) short) (ltb-true spare (length c) over) refl; whole = stayed (each_is (length c) ChainOverSpare) refl })
      (λ fits. by_rules (record { finished = is_finished h u; not_too_long = ltb-false 16 (length c) short; within_spare = ltb-false spare (length c) fits }) (first_refused policy J T c) refl)))

  -- the outcome by the three tests, and by the first order that is refused
  abbrev by_tests : (open' long over : Bool) → Option Stop → Outcome
  by_tests open' long over s =
      cond open' (but_one (length c - 1) ChainUnfinished c) (cond long (all_are (Err ChainTooLong) c) (cond over (all_are (Err ChainOverSpare) c) (by_legs T c s)))

  asked_only : IsAsked policy J T spare c → (s : Option Stop) → first_refused policy J T c ≡ s → (chain policy J T spare c).answers ≡ (by_legs T c s).answers
  asked_only A s e =
      let u = finished_not c A.finished in
      let long = le-ltb 16 (length c) A.not_too_long in
      let over = le-ltb spare (length c) A.within_spare in
      λ i. (by_tests (u i) (long i) (over i) (e i)).answers

  -- a chain is answered in no other way
  pub answered_only : (us : List Answer) → AnsweredAsOne policy J T spare c us → us ≡ (chain policy J T spare c).answers
  answered_only us (all_taken A N e) = e ∙ sym (asked_only A None (unstopped policy T J c N))
  answered_only us (one_refused i r A F e) =
      let s : first_refused policy J T c ≡ Some (record { place = i; refusal = r }) = ap (first_refused policy J T) F.is ∙ (stopped policy T J F.front F.back F.order r F.passed F.refused ∙ ap (λ k. Some (record { place = k; refusal = r })) (sym F.place)) in
      e ∙ sym (asked_only A (Some (record { place = i; refusal = r })) s)
  answered_only us (chained.unfinished U e) =
      let u = unfinished_is c U in
      e ∙ (λ i. (by_tests (sym u i) (ltb 16 (length c)) (ltb spare (length c)) (first_refused policy J T c)).answers)
  answered_only us (too_long F l e) =
      let u = finished_not c F in
      let long = lt-ltb 16 (length c) l in
      e ∙ (λ i. (by_tests (sym u i) (sym long i) (ltb spare (length c)) (first_refused policy J T c)).answers)
  answered_only us (over_spare F l o e) =
      let u = finished_not c F in
      let long = le-ltb 16 (length c) l in
      let over = lt-ltb spare (length c) o in
      e ∙ (λ i. (by_tests (sym u i) (sym long i) (sym over i) (first_refused policy J T c)).answers)
