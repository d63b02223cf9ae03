-- What makes a number a label.
use Rattle.std.proofs.Common.{◌≡◌, ℕ, ◌^◌, ◌<◌, true, ◌&&◌, ltb, List, get_or, take, drop}
use Rattle.std.proofs.lemmas.Bool.{lt-ltb}
use Rattle.std.specs.Int.{w64, to_be_bytes}
use Rattle.meaning.specs.Labels.{letter, lettered, is_label}

-- a number is a label if its first byte is a letter and the others are letters, then spaces
pub label_by_bytes : (n : ℕ) (bs : List ℕ) → n < 2 ^ 64 → bs ≡ to_be_bytes w64 n → is_label n ≡ (letter (get_or bs 0 0) && lettered (take 7 (drop 1 bs)))
unfolding is_label
label_by_bytes n bs h e = let w : ltb n (2 ^ 64) ≡ true = lt-ltb n (2 ^ 64) h in rw (e, w)
