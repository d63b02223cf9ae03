use Rattle.std.proofs.Common.{length}
use Rattle.meaning.proofs.label.text.+is_lettered.Given as goal

abbrev pub decreases-is_lettered : goal.decreases-is_lettered
decreases-is_lettered l = length l.bytes.now
