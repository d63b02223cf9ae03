use Rattle.std.proofs.Common.{Some, sym, ap, ◌∙◌, arith}
use Rattle.std.proofs.lemmas.Result.{err_from_is_err_and, IfOk-from_err}
use Rattle.std.proofs.lemmas.Bool.{le-leb, lt-leb, eq-eqb, ne_eqb}
use Rattle.std.specs.Result.{result_err}
use Rattle.meaning.specs.Basics.{first_of}
use Rattle.meaning.specs.Rules.{zeros_checks}
use Rattle.balances.specs.Books.{books_of}
use Rattle.steps.proofs.Accounts.{opened_count, place_first, count_stops, spare_stops, zeros_last, label_made, limit_made}
use Rattle.steps.proofs.opening.check_opening.Goals as goal

pub returns-in_err-check_place : goal.returns-in_err-check_place
returns-in_err-check_place g c =
    let r = c.from_residual.result in
    let p = err_from_is_err_and r c.from_residual.ensures.1 in
    record {
      answer = λ J T shown.
          let policy = g.P.Policy.admits c.args.policy.now in
          ap result_err p.1 ∙ (ap Some p.2 ∙ sym (place_first policy J _ c.args.opening.now _ (c.in_err-check_place.ensures.answer policy J T shown)));
      account = IfOk-from_err r _ c.from_residual.ensures.0;
      narrow = IfOk-from_err r _ c.from_residual.ensures.0;
    }

pub returns-then-opened-ge-ACCOUNTS : goal.returns-then-opened-ge-ACCOUNTS
returns-then-opened-ge-ACCOUNTS g c = record {
  answer = λ J T shown.
      let policy = g.P.Policy.admits c.args.policy.now in
      let A = c.args.opening.now in
      let count = opened_count policy J T shown.reads (books_of c.args.balances.now) shown.tables in
      sym (count_stops policy J _ A (c.in_ok-check_place.ensures.answer policy J T shown) (limit_made A.limit c.in_ok-limit.limit c.new.result c.new.ensures.within c.new.ensures.litres c.in_ok-limit.ensures.value).0 (label_made A.label c.in_ok-label.label c.new-2.result c.new-2.ensures c.in_ok-label.ensures.value).0 (le-leb 64 _ (omega (arith, c.opened.ensures))));
  account = tt;
  narrow = tt;
}

pub returns-then-spare-eq0 : goal.returns-then-spare-eq0
returns-then-spare-eq0 g c = record {
  answer = λ J T shown.
      let policy = g.P.Policy.admits c.args.policy.now in
      let A = c.args.opening.now in
      let count = opened_count policy J T shown.reads (books_of c.args.balances.now) shown.tables in
      sym (spare_stops policy J _ A (c.in_ok-check_place.ensures.answer policy J T shown) (limit_made A.limit c.in_ok-limit.limit c.new.result c.new.ensures.within c.new.ensures.litres c.in_ok-limit.ensures.value).0 (label_made A.label c.in_ok-label.label c.new-2.result c.new-2.ensures c.in_ok-label.ensures.value).0 (lt-leb 64 _ (omega (arith, c.opened.ensures))) (eq-eqb c.args.spare 0 c.if-spare-eq0.true));
  account = tt;
  narrow = tt;
}

pub returns-in_err-check_zeros : goal.returns-in_err-check_zeros
returns-in_err-check_zeros g c =
    let r = c.from_residual-in_err-check_zeros.result in
    let p = err_from_is_err_and r c.from_residual-in_err-check_zeros.ensures.1 in
    record {
      answer = λ J T shown.
          let policy = g.P.Policy.admits c.args.policy.now in
          let A = c.args.opening.now in
          let limit = limit_made A.limit c.in_ok-limit.limit c.new.result c.new.ensures.within c.new.ensures.litres c.in_ok-limit.ensures.value in
          let count = opened_count policy J T shown.reads (books_of c.args.balances.now) shown.tables in
          ap result_err p.1 ∙ (ap Some p.2 ∙ (c.in_err-check_zeros.ensures.answer ∙ (ap (λ m. first_of (zeros_checks policy A.class m)) limit.1
          ∙ sym (zeros_last policy J _ A (c.in_ok-check_place.ensures.answer policy J T shown) limit.0 (label_made A.label c.in_ok-label.label c.new-2.result c.new-2.ensures c.in_ok-label.ensures.value).0 (lt-leb 64 _ (omega (arith, c.opened.ensures))) (ne_eqb c.args.spare 0 c.if-spare-eq0.false)))));
      account = IfOk-from_err r _ c.from_residual-in_err-check_zeros.ensures.0;
      narrow = IfOk-from_err r _ c.from_residual-in_err-check_zeros.ensures.0;
    }

pub returns : goal.returns
returns g c =
    let A = c.args.opening.now in
    let label = label_made A.label c.in_ok-label.label c.new-2.result c.new-2.ensures c.in_ok-label.ensures.value in
    let limit = limit_made A.limit c.in_ok-limit.limit c.new.result c.new.ensures.within c.new.ensures.litres c.in_ok-limit.ensures.value in
    let zero = c.zero.ensures in
    record {
      answer = λ J T shown.
          let policy = g.P.Policy.admits c.args.policy.now in
          let count = opened_count policy J T shown.reads (books_of c.args.balances.now) shown.tables in
          c.in_ok-check_zeros.ensures.answer ∙ (ap (λ m. first_of (zeros_checks policy A.class m)) limit.1
          ∙ sym (zeros_last policy J _ A (c.in_ok-check_place.ensures.answer policy J T shown) limit.0 label.0 (lt-leb 64 _ (omega (arith, c.opened.ensures))) (ne_eqb c.args.spare 0 c.if-spare-eq0.false)));
      account = λ i. record { account = record { number = A.number; ledger = A.ledger; class = A.class; limit = limit.1 i; label = label.1 i }; debits_pending = zero.debits.0 i; debits_posted = zero.debits.1 i; credits_pending = zero.credits.0 i; credits_posted = zero.credits.1 i };
      narrow = record { number = c.in_ok-check_place.ensures.narrow.0; ledger = c.in_ok-check_place.ensures.narrow.1; class = c.in_ok-check_zeros.ensures.narrow };
    }
