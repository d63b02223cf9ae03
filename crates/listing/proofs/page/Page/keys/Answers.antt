use Rattle.std.proofs.Common.{sym, ap, ◌∙◌}
use Rattle.balances.specs.Books.{books_of}
use Rattle.listing.specs.Keys.{to_come}
use Rattle.listing.specs.Lines.{sum_bytes}
use Rattle.listing.specs.Pages.{with_bytes}
use Rattle.listing.proofs.Row.{ledger_ends, ledger_goes_on}
use Rattle.listing.proofs.page.Page.keys.Goals as goal

pub loop-key-preserved-then-ends : goal.loop-key-preserved-then-ends
loop-key-preserved-then-ends c =
    let key = c.in-Some.key in
    let sums = c.sums.ensures ∙ ap (λ s. with_bytes (sum_bytes key.ledger s) c.key.new.self) c.sum_ledger.ensures in
    sym (ledger_ends (books_of c.args.balances.now) (to_come c.loop-key.keys) (to_come c.next.new.self) key c.in-Some.ensures.steps c.loop-key.self c.key.new.self c.key.ensures (sym c.ends.ensures ∙ c.if-ends.true) c.sums.new.self sums) ∙ c.loop-key.invariant

pub loop-key-preserved : goal.loop-key-preserved
loop-key-preserved c =
    sym (ledger_goes_on (books_of c.args.balances.now) (to_come c.loop-key.keys) (to_come c.next.new.self) c.in-Some.key c.in-Some.ensures.steps c.loop-key.self c.key.new.self c.key.ensures (sym c.ends.ensures ∙ c.if-ends.false)) ∙ c.loop-key.invariant
