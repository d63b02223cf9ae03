-- What a label is: 1 to 8 letters, digits or hyphens, filled to 8 bytes with spaces, as one number, the highest byte first.
use Rattle.std.specs.Prelude.{ℕ, ◌-◌, ◌^◌, Bool, true, false, cond, ◌&&◌, ◌||◌, List, [], ◌∷◌, ◌++◌, length, replicate, ◌==◌, nat_le, nat_lt}
use Rattle.std.specs.Int.{w64, to_be_bytes}
use Rattle.std.specs.List.{list_all}

-- A to Z, 0 to 9 and the hyphen
abbrev pub letter : ℕ → Bool
letter b = (nat_le 65 b && nat_le b 90) || (nat_le 48 b && nat_le b 57) || b == 45

-- nothing but spaces
abbrev pub filling : List ℕ → Bool
filling bs = list_all (λ b. b == 32) bs

-- letters, and then nothing but spaces
abbrev pub lettered : List ℕ → Bool
lettered [] = true
lettered (b ∷ bs) = cond (letter b) (lettered bs) (filling (b ∷ bs))

abbrev pub named : List ℕ → Bool
named [] = false
named (b ∷ bs) = letter b && lettered bs

unfoldable pub is_label : ℕ → Bool
is_label n = nat_lt n (2 ^ 64) && named (to_be_bytes w64 n)

-- a text, filled to eight bytes with spaces
abbrev pub filled : List ℕ → List ℕ
filled text = text ++ replicate (8 - length text) 32
