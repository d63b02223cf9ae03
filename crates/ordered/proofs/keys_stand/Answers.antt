use Rattle.std.proofs.Common.{refl}
use Rattle.meaning.specs.Moves.{sooner}
use Rattle.meaning.specs.Listing.{earlier}
use Rattle.ordered.specs.Orders.{due_before, line_before}
use Rattle.ordered.specs.Keyed.{due_of, line_of}
use Rattle.ordered.proofs.Keyed.{map-in_order}
use Rattle.ordered.proofs.Lawfully.{due_lawful, line_lawful}
use Rattle.ordered.proofs.keys_stand.Goals as goal

pub returns : goal.returns
returns c =
    record {
      due = due_lawful;
      line = line_lawful;
      meant = record { dues = map-in_order sooner due_before due_of (λ R S. refl); lines = map-in_order earlier line_before line_of (λ A B. refl) };
    }
