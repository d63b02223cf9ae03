use Rattle.laws.proofs.Spelling.{label_spells, spelled_once, shown}
use Rattle.laws.proofs.labels.labels_spell_texts.Goals as goal

pub returns : goal.returns
returns c = record { labels = label_spells; once = spelled_once; shown = shown }
