use Rattle.image.proofs.Asked.{asks}
use Rattle.image.proofs.Opened.{by_opening}
use Rattle.image.proofs.Transferred.{by_transfer}
use Rattle.image.proofs.Held.{by_reserve}
use Rattle.image.proofs.Closed.{by_post, by_void}
use Rattle.image.proofs.Arriving.{by_lapses}
use Rattle.image.proofs.image_keeps.Goals as goal

pub returns : goal.returns
returns c = λ policy J h T. record {
  asks = asks policy J h T;
  by_opening = by_opening policy J T;
  by_transfer = by_transfer policy J h T;
  by_reserve = by_reserve policy J h T;
  by_post = by_post policy J h T;
  by_void = by_void policy J h T;
  by_lapses = by_lapses policy J h T;
}
