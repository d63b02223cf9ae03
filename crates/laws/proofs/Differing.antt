-- In a journal that reads no two accounts have one number.
use Rattle.std.proofs.Common.{◌≡◌, ◌≢◌, List, [], ◌∷◌, sym, arith}
use Rattle.std.proofs.ByRecursion.{All-weaker}
use Rattle.std.proofs.lemmas.List.Elements.{All-from_recursion}
use Rattle.std.proofs.lemmas.List.Kept.{AllPairs-cons}
use Rattle.meaning.specs.declared.opening.Opening.{Opening}
use Rattle.meaning.specs.Given.{Journal, accounts}
use Rattle.meaning.specs.Rules.{Policy}
use Rattle.laws.specs.Steps.{Reads}
use Rattle.laws.specs.Listed.{NumbersDiffer}
use Rattle.laws.proofs.Finds.{Distinct}
use Rattle.laws.proofs.Known.{akey, known}

apart_pairs : (As : List Opening) → Distinct akey As → NumbersDiffer As
apart_pairs [] d = λ i j d l k. absurd (omega arith)
apart_pairs (A ∷ As) d =
    AllPairs-cons (λ A B. A.number ≢ B.number) A As
    (All-from_recursion (λ B. A.number ≢ B.number) As (All-weaker (λ B. B.number ≡ A.number → ⊥) (λ B. A.number ≢ B.number) (λ B ne e. ne (sym e)) As d.0))
    (apart_pairs As d.1)

pub accounts_differ : (policy : Policy) (J : Journal) → Reads policy J → NumbersDiffer (accounts J)
accounts_differ policy J h = apart_pairs (accounts J) (known policy J h).apart
