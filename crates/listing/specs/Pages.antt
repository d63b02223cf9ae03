-- Bytes written one after another into a buffer, as far as it has room.
use Rattle.std.specs.Prelude.{ℕ, ◌+◌, ◌-◌, ◌^◌, min, List, [], ◌∷◌, slice_set}
use Rattle.std.specs.Borrow.{MutBor}
use Rattle.listing.specs.declared.page.Page.{Page}

-- nothing written yet
abbrev pub new_page : MutBor (List ℕ) → Page
new_page bs = record { bytes = bs; next = 0 }

-- a byte behind the buffer's end is left out; places are at most the greatest 64-bit number
abbrev pub with_byte : ℕ → Page → Page
with_byte b p = record p { bytes = record p.bytes { now = slice_set p.bytes.now p.next b }; next = min (p.next + 1) (2 ^ 64 - 1) }

abbrev pub with_bytes : List ℕ → Page → Page
with_bytes [] p = p
with_bytes (b ∷ bs) p = with_bytes bs (with_byte b p)
