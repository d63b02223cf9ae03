-- What an outlook shows of two accounts.
use Rattle.std.specs.Prelude.{◌≡◌, Some, Option}
use Rattle.meaning.specs.declared.standing.Standing.{Standing}
use Rattle.meaning.specs.Rows.{standing_of}
use Rattle.balances.specs.declared.outlook.Outlook.{Outlook}

pub record Shows (o : Outlook) (D C : Option Standing) : Type 0 where
  pub debit : D ≡ Some (standing_of o.debit)
  pub credit : C ≡ Some (standing_of o.credit)
