use Rattle.std.proofs.Common.{◌≡◌, drop}
use Rattle.meaning.specs.Listing.{fields}
use Rattle.listing.specs.Pages.{with_bytes}
use Rattle.listing.proofs.page.Page.fields.Given as goal

abbrev pub invariant-loop-number : goal.invariant-loop-number
invariant-loop-number l = with_bytes (fields (drop l.number-index l.numbers)) l.self ≡ with_bytes (fields l.numbers) l.initial.self
