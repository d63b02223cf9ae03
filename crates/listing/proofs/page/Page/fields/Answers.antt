use Rattle.std.proofs.Common.{sym, ◌∙◌}
use Rattle.listing.proofs.Writing.{field_more}
use Rattle.listing.proofs.page.Page.fields.Goals as goal

pub loop-number-preserved : goal.loop-number-preserved
loop-number-preserved c = sym (field_more c.args.numbers.now c.loop-number.number-index c.loop-number.self c.byte.new.self c.decimal.new.self c.loop-number-test.true c.byte.ensures c.decimal.ensures) ∙ c.loop-number.invariant
