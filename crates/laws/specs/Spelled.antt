-- Which numbers are labels: those that spell a text.
use Rattle.std.specs.Prelude.{◌≡◌, ℕ, ◌-◌, ◌^◌, ◌<◌, ◌≤◌, ◌↔◌, true, List, ◌++◌, length, replicate, IsTrue}
use Rattle.std.specs.List.{AllByRecursion}
use Rattle.std.specs.Int.{w64, to_be_bytes}
use Rattle.meaning.specs.Labels.{letter, is_label}
use Rattle.meaning.specs.Listing.{letters_in}

-- 1 to 8 letters A to Z, digits 0 to 9 or hyphens
pub record IsText (text : List ℕ) : Type 0 where
  pub some : 1 ≤ length text
  pub short : length text ≤ 8
  pub letters : AllByRecursion (λ b. letter b ≡ true) text

-- the eight bytes of n, the highest first, are this text and then spaces
pub record Spells (n : ℕ) (text : List ℕ) : Type 0 where
  pub below : n < 2 ^ 64
  pub bytes : to_be_bytes w64 n ≡ text ++ replicate (8 - length text) 32

-- a label is a number that spells a text
abbrev pub LabelSpells : ℕ → Type 0
LabelSpells n = IsTrue (is_label n) ↔ ((text : List ℕ) × IsText text × Spells n text)

-- each text is spelled by one number, and by one only
abbrev pub IsSpelledOnce : List ℕ → Type 0
IsSpelledOnce text = (n : ℕ) × Spells n text × ((m : ℕ) → Spells m text → m ≡ n)

-- a listing shows the text that a label spells
abbrev pub IsShown : ℕ → List ℕ → Type 0
IsShown n text = Spells n text → letters_in (to_be_bytes w64 n) ≡ text
