use Rattle.std.proofs.Common.{ap, ◌∙◌, arith, rules}
use Rattle.balances.specs.Books.{books_of}
use Rattle.listing.specs.declared.page.Page.{Page}
use Rattle.listing.specs.Lines.{keys_bytes}
use Rattle.listing.specs.Pages.{with_bytes}
use Rattle.listing.proofs.Room.{home_is, next_is, bytes_over}
use Rattle.listing.proofs.lines.put_listing.Goals as goal

pub returns-clause-length : goal.returns-clause-length
returns-clause-length c =
    let k = books_of c.args.balances.now in
    let zero = ap (λ (p : Page). p.next) c.new-page.ensures in
    let end = ap (λ (p : Page). p.next) c.keys.ensures in
    omega (arith, c.len.ensures, end, next_is (keys_bytes k k.lines) c.new-page.result (omega (arith, zero)), zero)

pub returns-clause-bytes : goal.returns-clause-bytes
returns-clause-bytes c =
    let k = books_of c.args.balances.now in
    let start = c.new-page.result in
    let home = ap (λ (p : Page). p.bytes.ghost_name) c.keys.ensures ∙ home_is (keys_bytes k k.lines) start ∙ ap (λ (p : Page). p.bytes.ghost_name) c.new-page.ensures in
    let bytes = ap (λ (p : Page). p.bytes.now) (c.keys.ensures ∙ ap (with_bytes (keys_bytes k k.lines)) c.new-page.ensures) ∙ bytes_over (keys_bytes k k.lines) _ (omega arith) in
    search (rules, home, bytes)
