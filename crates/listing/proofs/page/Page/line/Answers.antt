use Rattle.std.proofs.Common.{[], ◌∷◌, decimal, ap, ◌∙◌}
use Rattle.meaning.specs.Listing.{fields, letters_in}
use Rattle.listing.specs.Pages.{with_bytes}
use Rattle.listing.proofs.Writing.{five_pieces}
use Rattle.listing.proofs.page.Page.line.Goals as goal

pub returns : goal.returns
returns c =
    let p = c.args.self.now in
    five_pieces (decimal c.args.ledger) (32 ∷ []) (letters_in c.args.name.now) (fields c.args.numbers.now) (10 ∷ []) p c.decimal.new.self c.byte.new.self c.letters.new.self c.fields.new.self c.byte-2.new.self
    (c.decimal.ensures ∙ ap (λ n. with_bytes (decimal n) p) c.from.ensures) c.byte.ensures c.letters.ensures c.fields.ensures c.byte-2.ensures
