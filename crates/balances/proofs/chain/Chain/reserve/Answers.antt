use Rattle.std.proofs.Common.{refl, sym, ap, subst}
use Rattle.meaning.specs.declared.record.Record.{Record}
use Rattle.balances.specs.Noted.{AtMoment}
use Rattle.balances.proofs.Timely.{one_more}
use Rattle.balances.proofs.chain.Chain.reserve.Goals as goal

pub returns-clause-goes_on : goal.returns-clause-goes_on
returns-clause-goes_on c =
    let room = c.in_ok-check_legs.ensures.room refl in
    let moment = ap (λ (e : Record). e.moment) c.record-fields.ensures in
    record {
      same = refl;
      moment = refl;
      back = c.reserve.ensures.back room;
      legs = c.reserve.ensures.legs room;
      timely = λ h. subst (AtMoment c.args.self.now.moment) (sym (c.reserve.ensures.written room)) (one_more _ _ _ h moment);
    }
