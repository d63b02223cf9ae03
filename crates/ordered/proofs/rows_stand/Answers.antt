use Rattle.std.proofs.Common.{refl}
use Rattle.ordered.specs.Laws.{LawfulOrder}
use Rattle.ordered.proofs.Inserts.{put_ordered, in_order_ordered, put-put, in_order_push}
use Rattle.ordered.proofs.Removals.{without_none, without_put_fresh, without-put, without-in_order}
use Rattle.ordered.proofs.Filtered.{filter-in_order}
use Rattle.ordered.proofs.Splitting.{splits}
use Rattle.ordered.proofs.rows_stand.Goals as goal

pub returns : goal.returns
returns g c =
    let before = g.K.Key.before in
    let law : LawfulOrder before = record { irreflexive = g.met.K.Key.irreflexive; transitive = g.met.K.Key.transitive; total = g.met.K.Key.total } in
    record {
      order = record { one = put_ordered before law; all = in_order_ordered before law };
      entry = record { two = put-put before law; first = λ k xs. refl; last = in_order_push before law };
      taken = record { none = without_none before law; fresh = without_put_fresh before law; back = without-put before law; either = without-in_order before law };
      tests = λ p. filter-in_order before p law;
      fronts = λ p down. splits before law p down;
    }
