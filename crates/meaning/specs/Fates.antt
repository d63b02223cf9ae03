-- What a reservation's fate becomes: only a live one changes.
use Rattle.meaning.specs.declared.fate.Fate.{Fate}
use Rattle.meaning.specs.declared.fate.Fate.TheVariants.{Live, Posted, Voided, Lapsed}
use Rattle.meaning.specs.declared.fate.Event.{Event}
use Rattle.meaning.specs.declared.fate.Event.TheVariants.{Post, Void, Lapse}

-- how a live reservation ends
abbrev pub ends : Event → Fate
ends Post = Posted
ends Void = Voided
ends Lapse = Lapsed

-- a fate that one event or another decides: what is resolved stays
abbrev pub decided : Fate → Fate → Fate
decided Live f = f
decided Posted f = Posted
decided Voided f = Voided
decided Lapsed f = Lapsed

abbrev pub next : Fate → Event → Fate
next f e = decided f (ends e)
