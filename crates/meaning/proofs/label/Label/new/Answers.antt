use Rattle.std.proofs.Common.{sym}
use Rattle.meaning.specs.Labels.{is_label}
use Rattle.meaning.proofs.Only.{only_true}
use Rattle.meaning.proofs.label.Label.new.Goals as goal

pub returns-then-is_label : goal.returns-then-is_label
returns-then-is_label c = sym (only_true (is_label c.args.code) _ _)
