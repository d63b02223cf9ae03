use Rattle.std.proofs.Common.{subst, ap, ◌∙◌, sym}
use Rattle.scripts.specs.Pages.{Put}
use Rattle.scripts.specs.Told.{as_8}
use Rattle.scripts.proofs.Telling.{moved_in_parts}
use Rattle.scripts.proofs.showing.show_moved.Goals as goal

pub returns-clause-put : goal.returns-clause-put
returns-clause-put c =
    let e = moved_in_parts c.args.answer.now c.args.lapses.now _ _ _ (c.to_be_bytes.ensures ∙ ap (λ p. as_8 p.0) c.parts_of-lapsed.ensures) (c.to_be_bytes-2.ensures ∙ ap (λ p. as_8 p.1) c.parts_of-lapsed.ensures) c.bytes_of.ensures in
    subst (λ xs. Put c.args.page.now xs c.put.result c.put.new.self) e (rw (sym c.number_of.ensures) c.put.ensures.put)
