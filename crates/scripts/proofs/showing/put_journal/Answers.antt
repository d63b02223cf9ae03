use Rattle.std.proofs.Common.{◌≡◌, ◌+◌, [], ◌∷◌, ◌++◌, length, ap, ◌∙◌, arith}
use Rattle.std.specs.Prelude.{flat_map}
use Rattle.std.proofs.lemmas.List.{length-append}
use Rattle.layout.specs.Layout.{bytes_of}
use Rattle.scripts.specs.Pages.{laid}
use Rattle.scripts.specs.Told.{as_8}
use Rattle.scripts.proofs.Laid.{length_laid, laid_more}
use Rattle.scripts.proofs.Telling.{entries_long, journal_in_parts}
use Rattle.scripts.proofs.showing.put_journal.Goals as goal

pub put_entries-requires : goal.put_entries-requires
put_entries-requires g c =
    let es = g.J.Journal.entries c.args.journal.now in
    let a = c.to_be_bytes.result in
    let b = c.to_be_bytes-2.result in
    let head = 255 ∷ (a ++ (b ++ [])) in
    let head_long : length head ≡ 17 = omega (arith, length-append a (b ++ []), length-append b [], ap length c.to_be_bytes.ensures, ap length c.to_be_bytes-2.ensures) in
    let long = entries_long es in
    let kept : length c.put_each.new.self.bytes.now ≡ length c.args.page.now.bytes.now = ap length c.put_each.ensures.bytes ∙ length_laid c.args.page.now.next head c.args.page.now.bytes.now (omega (arith, head_long, c.requires)) in
    omega (arith, head_long, long, kept, c.put_each.ensures.next, c.requires)

pub returns-clause-bytes : goal.returns-clause-bytes
returns-clause-bytes g c =
    let es = g.J.Journal.entries c.args.journal.now in
    let n = c.args.page.now.next in
    let bs = c.args.page.now.bytes.now in
    let a = c.to_be_bytes.result in
    let b = c.to_be_bytes-2.result in
    let head = 255 ∷ (a ++ (b ++ [])) in
    let head_long : length head ≡ 17 = omega (arith, length-append a (b ++ []), length-append b [], ap length c.to_be_bytes.ensures, ap length c.to_be_bytes-2.ensures) in
    let parts = journal_in_parts es (g.J.Journal.spare c.args.journal.now) a b (c.to_be_bytes.ensures ∙ ap as_8 c.count-count.ensures) (c.to_be_bytes-2.ensures ∙ ap as_8 c.spare.ensures.left) in
    c.put_entries.ensures.bytes
    ∙ ap (λ k. laid k (flat_map bytes_of es) c.put_each.new.self.bytes.now) c.put_each.ensures.next
    ∙ ap (laid (n + length head) (flat_map bytes_of es)) c.put_each.ensures.bytes
    ∙ laid_more n head bs (omega (arith, head_long, c.requires)) (flat_map bytes_of es)
    ∙ ap (λ xs. laid n xs bs) parts
