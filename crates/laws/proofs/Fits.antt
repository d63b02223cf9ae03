-- A batch answers each order, and writes no more than the journal takes.
use Rattle.std.proofs.Common.{◌≡◌, ℕ, ◌+◌, ◌-◌, ◌≤◌, Bool, true, false, cond, ltb, List, [], ◌∷◌, length, replicate, Some, None, Option, refl, ◌∙◌, arith, Ok, Err}
use Rattle.std.proofs.lemmas.List.{length-append, length-map, length-replicate, length-set}
use Rattle.std.proofs.lemmas.Bool.{ltb-false}
use Rattle.meaning.specs.declared.order.Order.{Order}
use Rattle.meaning.specs.declared.refusal.Refusal.{Refusal}
use Rattle.meaning.specs.Basics.{sum_of}
use Rattle.meaning.specs.Given.{Journal}
use Rattle.meaning.specs.Rules.{Policy, leg_writes}
use Rattle.meaning.specs.declared.answers.Stop.{Stop}
use Rattle.meaning.specs.Batches.{joins, chains, first_refused, unfinished, Outcome, all_are, but_one, by_legs, chain, grown, in_turn, Answer}
use Rattle.laws.specs.Laws.{BatchesFit}

joins_total : (o : Order) (cs : List (List Order)) → sum_of length (joins o cs) ≡ 1 + sum_of length cs
joins_total o [] = refl
joins_total o (c ∷ cs) = omega arith

chains_total : (os : List Order) → sum_of length (chains os) ≡ length os
chains_total [] = refl
chains_total (o ∷ os) = go o.linked (chains_total os)
  where
    go : (b : Bool) → sum_of length (chains os) ≡ length os → sum_of length (cond b (joins o (chains os)) ((o ∷ []) ∷ chains os)) ≡ length (o ∷ os)
    go true h = omega (arith, joins_total o (chains os))
    go false h = omega arith

-- an outcome of these orders, within a spare
pub record Fits (os : List Order) (spare : ℕ) (x : Outcome) : Type 0 where
  pub answered : length x.answers ≡ length os
  pub within : length x.entries ≤ spare

module _ (os : List Order) (spare : ℕ) where
  all_fit : (a : Answer) → Fits os spare (all_are a os)
  all_fit a = record { answered = length-replicate (length os) a; within = omega arith }

  but_one_fits : (i : ℕ) (r : Refusal) → Fits os spare (but_one i r os)
  but_one_fits i r = record { answered = length-set (replicate (length os) (Err Refusal.ChainRefused)) i (Err r) ∙ length-replicate (length os) (Err Refusal.ChainRefused); within = omega arith }

  legs_fit : (T : ℕ) (s : Option Stop) → length os ≤ spare → Fits os spare (by_legs T os s)
  legs_fit T None le = record { answered = length-replicate (length os) (Ok tt); within = omega (arith, length-map os (leg_writes T)) }
  legs_fit T (Some s) le = but_one_fits s.place s.refusal

  either : (b : Bool) (x y : Outcome) → Fits os spare x → (b ≡ false → Fits os spare y) → Fits os spare (cond b x y)
  either true x y px py = px
  either false x y px py = py refl

  chain_fits : (policy : Policy) (J : Journal) (T : ℕ) → Fits os spare (chain policy J T spare os)
  chain_fits policy J T =
      either (unfinished os) _ _ (but_one_fits (length os - 1) Refusal.ChainUnfinished) (λ _. either (ltb 16 (length os)) _ _ (all_fit (Err Refusal.ChainTooLong)) (λ _. either (ltb spare (length os)) _ _ (all_fit (Err Refusal.ChainOverSpare)) (λ le. legs_fit T (first_refused policy J T os) (ltb-false spare (length os) le))))

module _ (policy : Policy) (T : ℕ) where
  in_turn_answered : (J : Journal) (spare : ℕ) (cs : List (List Order)) → length (in_turn policy J T spare cs).answers ≡ sum_of length cs
  in_turn_answered J spare [] = refl
  in_turn_answered J spare (c ∷ cs) =
      let x = chain policy J T spare c in
      let y = in_turn policy (grown J x.entries) T (spare - length x.entries) cs in
      omega (arith, length-append x.answers y.answers, (chain_fits c spare policy J T).answered, in_turn_answered (grown J x.entries) (spare - length x.entries) cs)

  in_turn_within : (J : Journal) (spare : ℕ) (cs : List (List Order)) → length (in_turn policy J T spare cs).entries ≤ spare
  in_turn_within J spare [] = omega arith
  in_turn_within J spare (c ∷ cs) =
      let x = chain policy J T spare c in
      let y = in_turn policy (grown J x.entries) T (spare - length x.entries) cs in
      omega (arith, length-append x.entries y.entries, (chain_fits c spare policy J T).within, in_turn_within (grown J x.entries) (spare - length x.entries) cs)

pub batch-fits : (policy : Policy) (J : Journal) (T spare : ℕ) (os : List Order) → BatchesFit policy J T spare os
batch-fits policy J T spare os = record { each_answered = in_turn_answered policy T J spare (chains os) ∙ chains_total os; within_spare = in_turn_within policy T J spare (chains os) }
