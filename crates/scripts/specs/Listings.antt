-- What the longest buffer of a report is long enough for.
use Rattle.std.specs.Prelude.{ℕ, ◌≤◌, List, length}
use Rattle.meaning.specs.declared.entry.Entry.{Entry}
use Rattle.meaning.specs.Listing.{listing}
use Rattle.meaning.specs.Policies.{Lawful}
use Rattle.meaning.specs.Rules.{Policy}
use Rattle.laws.specs.Steps.{Ready}
use Rattle.steps.specs.Written.{records_of}
use Rattle.scripts.specs.Limits.{most_bytes}

-- the listing of every journal that is read through, at its last moment and later
abbrev pub ListingsFit : Type 0
ListingsFit =
    (policy : Policy) → Lawful policy → (es : List Entry) (T : ℕ) → Ready policy (records_of es) T
    → length (listing (records_of es) T) ≤ most_bytes
