use Rattle.promise.proofs.calling.call.Goals as goal

pub returns-in-Open-clause-made : goal.returns-in-Open-clause-made
returns-in-Open-clause-made g c = rw c.in-Open.is (c.ask_open.ensures.made c.args.orders.now)

pub returns-in-Move-clause-made : goal.returns-in-Move-clause-made
returns-in-Move-clause-made g c = rw c.in-Move.is (c.ask_move.ensures.made c.args.orders.now)

pub returns-in-Report-clause-made : goal.returns-in-Report-clause-made
returns-in-Report-clause-made g c = rw c.in-Report.is (c.ask_report.ensures.made c.args.orders.now)
