use Rattle.std.proofs.Common.{◌∙◌}
use Rattle.balances.specs.Shown.{shown}
use Rattle.balances.specs.Books.{books_of}
use Rattle.balances.specs.Noted.{noted, trace_in}
use Rattle.balances.proofs.Undoing.{latest_back}
use Rattle.balances.proofs.balances.Balances.unwind.Goals as goal

pub loop-leg-preserved : goal.loop-leg-preserved
loop-leg-preserved c =
    let s = c.loop-leg.self in
    latest_back (noted s.notes) (noted c.take_last.new.self) (trace_in c.in-Some.leg) (books_of s) (shown c.put_back.new.self) c.in-Some.ensures.traces c.in-Some.ensures.queue c.put_back.ensures ∙ c.loop-leg.invariant
