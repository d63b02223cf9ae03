-- How fates go on.
use Rattle.std.proofs.Common.{◌≡◌, ℕ, Bool, true, false, cond, ◌&&◌, refl, arith}
use Rattle.meaning.specs.declared.fate.Fate.{Fate}
use Rattle.meaning.specs.declared.fate.Fate.TheVariants.{Live, Posted, Voided, Lapsed}
use Rattle.meaning.specs.Fates.{decided}
use Rattle.meaning.specs.Given.{Journal, Reserved, ended_by, ended, due, is_live}
use Rattle.laws.specs.Steps.{FatesGoOn}

decided_assoc : (f g h : Fate) → decided (decided f g) h ≡ decided f (decided g h)
decided_assoc Live g h = refl
decided_assoc Posted g h = refl
decided_assoc Voided g h = refl
decided_assoc Lapsed g h = refl

-- b and b' say whether the deadline has come, at a moment and at a later one
comes : (f : Fate) (b b' : Bool) → (b ≡ true → b' ≡ true) → decided f (cond b' Lapsed Live) ≡ cond (is_live (decided f (cond b Lapsed Live)) && b') Lapsed (decided f (cond b Lapsed Live))
comes Live true b' h = let w = h refl in grind arith
comes Live false true h = refl
comes Live false false h = refl
comes Posted b b' h = refl
comes Voided b b' h = refl
comes Lapsed b b' h = refl

pub fates_go_on : (J : Journal) (T : ℕ) (R : Reserved) → FatesGoOn J T R
fates_go_on J T R = record {
  by_entry = λ e. decided_assoc (ended_by R.number e.content) (ended J R.number) _;
  by_time = λ T' le. comes (ended J R.number) (due R.until T) (due R.until T') (λ h. grind arith);
}
