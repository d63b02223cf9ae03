use Rattle.std.proofs.Common.{Some, sym, ap, ◌∙◌, arith}
use Rattle.std.specs.Option.{option_map, option_or}
use Rattle.std.proofs.lemmas.Result.{err_from_is_err_and}
use Rattle.std.specs.Result.{result_err}
use Rattle.meaning.specs.Rows.{standing_of, debited, credited}
use Rattle.balances.specs.Books.{books_of, row_asked}
use Rattle.balances.specs.Judged.{sum}
use Rattle.steps.proofs.Judging.{asked_if, movement_judged_lem}
use Rattle.steps.proofs.legs.check_movement.Goals as goal

pub returns-in_err-outlook : goal.returns-in_err-outlook
returns-in_err-outlook g c = record {
  narrow = omega arith;
  answer = λ J T shown fits.
      let p = err_from_is_err_and c.from_residual.result c.from_residual.ensures.1 in
      let h = c.in_err-outlook.ensures.answer in
      let a = c.args in
      let m = a.movement in
      let k = books_of a.chain.now.balances.now in
      let policy = g.P.Policy.admits a.policy.now in
      ap result_err p.1 ∙ (ap Some p.2
      ∙ (ap (λ r. option_or r (asked_if policy (option_map (debited m.pending m.posted) (row_asked k m.debit)) (option_map (credited m.pending m.posted) (row_asked k m.credit)))) h
      ∙ movement_judged_lem policy J T shown.reads k shown.tables m.number m.debit m.credit m.pending m.posted (sum m.pending m.posted) (omega arith)));
}

pub returns : goal.returns
returns g c = record {
  narrow = omega arith;
  answer = λ J T shown fits.
      let h = c.in_ok-outlook.ensures in
      let a = c.args in
      let m = a.movement in
      let k = books_of a.chain.now.balances.now in
      let policy = g.P.Policy.admits a.policy.now in
      let o = c.in_ok-outlook.outlook in
      c.ask.ensures
      ∙ (ap (λ C. asked_if policy (Some (standing_of o.debit)) C) (sym h.shown.credit)
      ∙ (ap (λ D. asked_if policy D (option_map (credited m.pending m.posted) (row_asked k m.credit))) (sym h.shown.debit)
      ∙ (ap (λ r. option_or r (asked_if policy (option_map (debited m.pending m.posted) (row_asked k m.debit)) (option_map (credited m.pending m.posted) (row_asked k m.credit)))) h.answer
      ∙ movement_judged_lem policy J T shown.reads k shown.tables m.number m.debit m.credit m.pending m.posted (sum m.pending m.posted) (omega arith))));
}
