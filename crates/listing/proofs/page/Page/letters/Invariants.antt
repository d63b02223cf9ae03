use Rattle.std.proofs.Common.{◌≡◌, drop}
use Rattle.meaning.specs.Listing.{letters_in}
use Rattle.listing.specs.Pages.{with_bytes}
use Rattle.listing.proofs.page.Page.letters.Given as goal

abbrev pub invariant-loop-byte : goal.invariant-loop-byte
invariant-loop-byte l = with_bytes (letters_in (drop l.byte-index l.name)) l.self ≡ with_bytes (letters_in l.name) l.initial.self
