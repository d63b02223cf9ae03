use Rattle.std.proofs.Common.{not, eqb, ◌∙◌}
use Rattle.meaning.specs.declared.standing.Standing.{Standing}
use Rattle.meaning.specs.Rows.{standing_of}
use Rattle.balances.proofs.Placing.{prefix_len-map}
use Rattle.balances.proofs.plain.Tables.account_place.Goals as goal

pub returns : goal.returns
returns c =
    rw (← c.as_slice.ensures.items) (c.place_of.ensures.place ∙ prefix_len-map standing_of (λ (s : Standing). not (eqb s.account.number c.args.number)) c.as_slice.result.now)
