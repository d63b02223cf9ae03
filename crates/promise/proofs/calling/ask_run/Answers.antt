use Rattle.std.proofs.Common.{length, set, sym, refl, ap, ◌∙◌}
use Rattle.std.proofs.lemmas.Bool.{and_from}
use Rattle.promise.specs.declared.call.Ask.TheVariants.{Run}
use Rattle.promise.specs.Spans.{inside}
use Rattle.promise.specs.declared.told.Told.TheVariants.{Ran as tells}
use Rattle.promise.proofs.Making.{laid, made_by}
use Rattle.promise.proofs.calling.ask_run.Goals as goal

pub returns-then-is_within-2-clause-made : goal.returns-then-is_within-2-clause-made
returns-then-is_within-2-clause-made g c =
    let e = c.run.ensures in
    let os = c.args.orders.now in
    let d = c.args.desk.now in
    let fits = sym c.if-is_within-2.ensures in
    made_by g.J.Journal g.P.Policy os c.args.book.now d (record { at = c.args.at; ask = Run c.args.legs c.args.answers }) c.run.new.self _ (and_from (inside c.args.legs (length os)) (inside c.args.answers (length d.answers.now)) (sym c.if-is_within.ensures) fits) e.after
    (c.put.ensures ∙ ap (set d.told.now c.args.at) (ap tells e.answer)) (laid c.args.answers d.answers.now c.run.new.answers _ fits c.run.auto.answers e.answers) refl refl
