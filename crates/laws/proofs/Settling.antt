-- A batch has one outcome only.
use Rattle.std.proofs.Common.{◌≡◌, ℕ, suc, ◌+◌, ◌-◌, List, [], ◌∷◌, ◌++◌, map, length, take, drop, sym, refl, ap, ◌∙◌, subst, arith}
use Rattle.std.specs.Prelude.{slice_range}
use Rattle.std.proofs.lemmas.List.{length-append, length-map, length-drop, map-append, take-append-drop, take_at, length-take-le, nil_from_length}
use Rattle.meaning.specs.declared.order.Order.{Order}
use Rattle.meaning.specs.Given.{Journal}
use Rattle.meaning.specs.Rules.{Policy, leg_writes}
use Rattle.meaning.specs.Batches.{Answer, Outcome, chains, chain, grown, in_turn}
use Rattle.laws.specs.Chains.{orders_of, AnsweredAsOne, ChainAt, orders_taken, IsOutcome, outcome, HasOutcome}
use Rattle.laws.proofs.Writings.{grown_on}
use Rattle.laws.proofs.Joining.{joined, ended}
use Rattle.laws.proofs.Asking.{outcome_of, answered_only}
use Rattle.laws.proofs.Batching.{EitherWay, either_way, moved, taken_append, front_orders, chain_entries, is_outcome, count_taken}

-- A first part of n items, and more.
module _ {X : Type 0} where
  take_more_than : (p q : List X) (n : ℕ) → take (length p + n) (p ++ q) ≡ p ++ take n q
  take_more_than [] q n = ap (λ k. take k q) (omega arith)
  take_more_than (x ∷ p) q n = let k : suc (length p) + n ≡ suc (length p + n) = omega arith in ap (λ m. take m (x ∷ (p ++ q))) k ∙ ap (λ xs. x ∷ xs) (take_more_than p q n)

  drop_more_than : (p q : List X) (n : ℕ) → drop (length p + n) (p ++ q) ≡ drop n q
  drop_more_than [] q n = ap (λ k. drop k q) (omega arith)
  drop_more_than (x ∷ p) q n = let k : suc (length p) + n ≡ suc (length p + n) = omega arith in ap (λ m. drop m (x ∷ (p ++ q))) k ∙ drop_more_than p q n

  range_more_than : (p q : List X) (n k : ℕ) → slice_range (p ++ q) (length p + n) (length p + n + k) ≡ slice_range q n (n + k)
  range_more_than p q n k =
      let a : length p + n + k - (length p + n) ≡ n + k - n = omega arith in
      ap (λ m. take m (drop (length p + n) (p ++ q))) a ∙ ap (take (n + k - n)) (drop_more_than p q n)

module _ (policy : Policy) (T : ℕ) where
  -- the orders of these chains that are taken, by these answers
  abbrev pub taken_of : List (List Order) → List Answer → List Order
  taken_of before us = orders_taken (orders_of before) (take (length (orders_of before)) us)

  -- a chain is answered as one behind those before it
  abbrev pub Turn : (J : Journal) (spare : ℕ) → List Answer → List (List Order) → List Order → Type 0
  Turn J spare us before c =
      AnsweredAsOne policy (grown J (map (leg_writes T) (taken_of before us))) T (spare - length (taken_of before us)) c (slice_range us (length (orders_of before)) (length (orders_of before) + length c))

  abbrev pub Turns : (J : Journal) (spare : ℕ) → List (List Order) → List Answer → Type 0
  Turns J spare cs us = (before after : List (List Order)) (c : List Order) → cs ≡ before ++ c ∷ after → Turn J spare us before c

  -- the first chain
  first_turn : (J : Journal) (spare : ℕ) (c : List Order) (p q : List Answer) → length p ≡ length c → Turn J spare (p ++ q) [] c → p ≡ (chain policy J T spare c).answers
  first_turn J spare c p q e h =
      let own : slice_range (p ++ q) 0 (0 + length c) ≡ p = ap (λ m. take m (p ++ q)) (omega arith) ∙ take_at p q (length c) e in
      let s : spare - 0 ≡ spare = omega arith in
      answered_only policy J T spare c p (moved policy T c refl s own h)

  -- the chains behind it
  other_turn : (J : Journal) (spare : ℕ) (c : List Order) (p q : List Answer) (before : List (List Order)) (d : List Order) → length p ≡ length c → Turn J spare (p ++ q) (c ∷ before) d → Turn (grown J (map (leg_writes T) (orders_taken c p))) (spare - length (orders_taken c p)) q before d
  other_turn J spare c p q before d e h =
      let os = orders_of before in
      let n = length os in
      let W = leg_writes T in
      let long : length (c ++ os) ≡ length p + n = length-append c os ∙ ap (λ k. k + n) (sym e) in
      let us : take (length (c ++ os)) (p ++ q) ≡ p ++ take n q = ap (λ k. take k (p ++ q)) long ∙ take_more_than p q n in
      let row : taken_of (c ∷ before) (p ++ q) ≡ orders_taken c p ++ taken_of before q = ap (orders_taken (c ++ os)) us ∙ taken_append c os p (take n q) (sym e) in
      let K : grown J (map W (taken_of (c ∷ before) (p ++ q))) ≡ grown (grown J (map W (orders_taken c p))) (map W (taken_of before q)) = ap (λ xs. grown J (map W xs)) row ∙ (ap (grown J) (map-append W (orders_taken c p) (taken_of before q)) ∙ grown_on J (map W (orders_taken c p)) (map W (taken_of before q))) in
      let s : spare - length (taken_of (c ∷ before) (p ++ q)) ≡ spare - length (orders_taken c p) - length (taken_of before q) = ap (λ xs. spare - length xs) row ∙ omega (arith, length-append (orders_taken c p) (taken_of before q)) in
      let own : slice_range (p ++ q) (length (c ++ os)) (length (c ++ os) + length d) ≡ slice_range q n (n + length d) = ap (λ k. slice_range (p ++ q) k (k + length d)) long ∙ range_more_than p q n (length d) in
      moved policy T d K s own h

  settled : (J : Journal) (spare : ℕ) (cs : List (List Order)) (us : List Answer) → EitherWay cs → length us ≡ length (orders_of cs) → Turns J spare cs us → us ≡ (in_turn policy J T spare cs).answers
  settled J spare [] us w e h = nil_from_length us e
  settled J spare (c ∷ cs) us w e h =
      let p = take (length c) us in
      let q = drop (length c) us in
      let whole : p ++ q ≡ us = take-append-drop (length c) us in
      let enough : length us ≡ length c + length (orders_of cs) = e ∙ length-append c (orders_of cs) in
      let long : length p ≡ length c = length-take-le (length c) us (omega arith) in
      let rest : length q ≡ length (orders_of cs) = omega (arith, length-drop (length c) us) in
      let turns : Turns J spare (c ∷ cs) (p ++ q) = subst (Turns J spare (c ∷ cs)) (sym whole) h in
      let x = chain policy J T spare c in
      let first : p ≡ x.answers = first_turn J spare c p q long (turns [] cs c refl) in
      let entries : x.entries ≡ map (leg_writes T) (orders_taken c p) = chain_entries policy T J spare c x (outcome_of policy J T spare c w.0).whole ∙ ap (λ us. map (leg_writes T) (orders_taken c us)) (sym first) in
      let s : spare - length (orders_taken c p) ≡ spare - length x.entries = sym (ap (λ es. spare - length es) entries ∙ ap (λ k. spare - k) (length-map (orders_taken c p) (leg_writes T))) in
      let more = settled (grown J (map (leg_writes T) (orders_taken c p))) (spare - length (orders_taken c p)) cs q w.1 rest (λ before after d z. other_turn J spare c p q before d long (turns (c ∷ before) after d (ap (λ y. c ∷ y) z))) in
      sym whole ∙ (λ i. first i ++ (more ∙ (λ j. (in_turn policy (grown J (sym entries j)) T (s j) cs).answers)) i)

module _ (policy : Policy) (J : Journal) (T spare : ℕ) (os : List Order) where
  in_turns : (before after : List (List Order)) (c : List Order) → chains os ≡ before ++ c ∷ after → (x : Outcome) → IsOutcome policy J T spare os x → Turn policy T J spare x.answers before c
  in_turns before after c e x O =
      let n = length (orders_of before) in
      let C : ChainAt os n c = record { before = before; after = after; is = e; place = refl } in
      let xs : orders_taken (take n os) (take n x.answers) ≡ taken_of policy T before x.answers = ap (λ os. orders_taken os (take n x.answers)) (front_orders policy J T spare os n c C) in
      moved policy T c (ap (λ os. grown J (map (leg_writes T) os)) xs) (ap (λ os. spare - length os) xs) refl (O.each_chain n c C)

  only_one : (x : Outcome) → IsOutcome policy J T spare os x → x ≡ outcome policy J T spare os
  only_one x O =
      let y = outcome policy J T spare os in
      let turns : Turns policy T J spare (chains os) x.answers = λ before after c e. in_turns before after c e x O in
      let us : x.answers ≡ y.answers = settled policy T J spare (chains os) x.answers (either_way (chains os) (ended os)) (O.each_answered ∙ ap length (sym (joined os))) turns in
      let es : x.entries ≡ y.entries = O.taken_join ∙ (ap (λ us. map (leg_writes T) (orders_taken os us)) us ∙ sym (is_outcome policy J T spare os).taken_join) in
      λ i. record { answers = us i; entries = es i }

  pub has_outcome : HasOutcome policy J T spare os
  has_outcome = record {
    one = λ x. (only_one x, λ e. subst (IsOutcome policy J T spare os) (sym e) (is_outcome policy J T spare os));
    counted = count_taken policy J T spare os;
  }
