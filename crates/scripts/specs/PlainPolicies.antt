-- What the policies that know no classes admit.
use Rattle.meaning.specs.Policies.{open_to_all, floor, ceiling}
use Rattle.meaning.specs.Rules.{Policy}
use Rattle.scripts.specs.declared.plain.PlainPolicy.{PlainPolicy}
use Rattle.scripts.specs.declared.plain.PlainPolicy.TheVariants.{Open, Floor, Ceiling}

abbrev pub admits_of : PlainPolicy → Policy
admits_of Open = open_to_all
admits_of Floor = floor
admits_of Ceiling = ceiling
