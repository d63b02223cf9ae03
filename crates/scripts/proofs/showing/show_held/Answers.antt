use Rattle.std.proofs.Common.{subst}
use Rattle.scripts.specs.Pages.{Put}
use Rattle.scripts.proofs.Telling.{held_in_parts}
use Rattle.scripts.proofs.showing.show_held.Goals as goal

pub returns-clause-put : goal.returns-clause-put
returns-clause-put c =
    let e = held_in_parts c.args.held.now _ _ _ _ _ _ c.to_be_bytes.ensures c.to_be_bytes-2.ensures c.to_be_bytes-3.ensures c.to_be_bytes-4.ensures c.to_be_bytes-5.ensures c.fate_number.ensures in
    subst (λ xs. Put c.args.page.now xs c.put.result c.put.new.self) e c.put.ensures.put
