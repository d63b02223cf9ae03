use Rattle.std.proofs.Common.{sym, ap, ◌∙◌}
use Rattle.meaning.specs.declared.standing.Standing.{Standing}
use Rattle.balances.specs.Books.{books_of, opened_with}
use Rattle.laws.proofs.Passes.{opening_passes}
use Rattle.image.proofs.Opened.{by_opening}
use Rattle.steps.proofs.Accounts.{stands_at_zero, opening_sound}
use Rattle.steps.proofs.opening.open_account.Goals as goal

pub returns : goal.returns
returns g c = λ J T shown.
    let policy = g.P.Policy.admits c.args.policy.now in
    let A = c.args.opening.now in
    let h = c.in_ok-account.ensures in
    let none = sym (h.answer J T shown) in
    let row = h.account ∙ stands_at_zero policy J T shown.reads A (opening_passes policy J _ A none).free in
    record {
      answer = h.answer J T shown;
      tables = c.open.ensures ∙ (ap (λ (s : Standing). opened_with s (books_of c.args.balances.now)) row ∙ (ap (opened_with _) shown.tables ∙ by_opening policy J T _ A none));
      sound = λ ok le. opening_sound policy J T _ A h.narrow le none;
    }
