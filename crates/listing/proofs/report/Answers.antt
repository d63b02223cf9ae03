use Rattle.std.proofs.Common.{arith}
use Rattle.listing.proofs.Listed.{listed}
use Rattle.listing.proofs.Reported.{too_short, with_room}
use Rattle.listing.proofs.report.Goals as goal

pub returns-then-buffer-len : goal.returns-then-buffer-len
returns-then-buffer-len c = λ policy J T reads image.
    too_short J T c.args.buffer.now _ (listed policy c.args.balances.now J T reads image) c.put_listing-len.result c.put_listing-len.ensures.length (omega arith)

pub returns : goal.returns
returns c = λ policy J T reads image.
    with_room J T c.args.buffer.now _ (listed policy c.args.balances.now J T reads image) c.put_listing-len.result c.put_listing-len.ensures.length (omega arith) (omega arith) c.put_listing.new.out c.put_listing.result c.put_listing.ensures.length c.put_listing.ensures.bytes
