use Rattle.std.proofs.Common.{◌≡◌, suc, ◌+◌, ◌++◌, Some, length, take, ap, sym, ◌∙◌, arith}
use Rattle.std.specs.Prelude.{flat_map}
use Rattle.std.specs.List.{slice_get}
use Rattle.std.proofs.lemmas.List.{length-append}
use Rattle.layout.specs.Layout.{bytes_of}
use Rattle.scripts.specs.declared.page.Page.{Page}
use Rattle.scripts.specs.Pages.{laid}
use Rattle.reading.proofs.Reaching.{some_entry}
use Rattle.scripts.proofs.Laid.{length_laid, laid_more}
use Rattle.scripts.proofs.Parts.{parts_more, parts_within}
use Rattle.scripts.proofs.showing.put_entries.Goals as goal
use Rattle.scripts.proofs.showing.put_entries.Goals.{in-Some, in_default}

pub put_one-requires : goal.put_one-requires
put_one-requires g c =
    let es = g.J.Journal.entries c.args.journal.now in
    let bs = c.args.page.now.bytes.now in
    let n = c.args.page.now.next in
    let so_far = flat_map bytes_of (take c.loop-place.place es) in
    let room = parts_within bytes_of es c.loop-place.place c.in-Some.entry (sym c.in-Some.ensures) in
    let long : length c.loop-place.page.bytes.now ≡ length bs = ap length c.loop-place.invariant.1.0 ∙ length_laid n so_far bs (omega (arith, room, c.requires)) in
    omega (arith, room, long, c.requires, c.loop-place.invariant.1.1, ap length c.encode.ensures)

pub loop-place-preserved : goal.loop-place-preserved
loop-place-preserved g c =
    let es = g.J.Journal.entries c.args.journal.now in
    let bs = c.args.page.now.bytes.now in
    let n = c.args.page.now.next in
    let i = c.loop-place.place in
    let so_far = flat_map bytes_of (take i es) in
    let I = c.loop-place.invariant in
    elim c.match-entry_at.branch [
      | in-Some w ↦
          let e = w.in-Some.entry in
          let at : slice_get es i ≡ Some e = sym w.in-Some.ensures in
          let room = parts_within bytes_of es i e at in
          let up : i + 1 ≡ suc i = omega arith in
          let more : flat_map bytes_of (take (i + 1) es) ≡ so_far ++ bytes_of e = ap (λ k. flat_map bytes_of (take k es)) up ∙ parts_more bytes_of es i e at in
          let laid_here : w.put_one.new.self.bytes.now ≡ laid (n + length so_far) (bytes_of e) (laid n so_far bs) =
          w.put_one.ensures.bytes ∙ ap (λ xs. laid c.loop-place.page.next xs c.loop-place.page.bytes.now) w.encode.ensures ∙ ap (λ k. laid k (bytes_of e) c.loop-place.page.bytes.now) I.1.1 ∙ ap (laid (n + length so_far) (bytes_of e)) I.1.0 in
          let all = laid_here ∙ laid_more n so_far bs (omega (arith, room, c.requires)) (bytes_of e) ∙ ap (λ xs. laid n xs bs) (sym more) in (
            ap (λ (p : Page). p.bytes.ghost_name) w.page-is ∙ w.put_one.ensures.same ∙ I.0,
            (
              ap (λ (p : Page). p.bytes.now) w.page-is ∙ all,
              ap (λ (p : Page). p.next) w.page-is ∙ w.put_one.ensures.next ∙ omega (arith, ap length w.encode.ensures, ap length more, length-append so_far (bytes_of e), I.1.1),
            ),
          )
      | in_default w ↦ some_entry es i (omega (arith, c.loop-place-test.true, c.count-place-end.ensures)) (sym c.entry_at.ensures ∙ w.in_default.is)
    ]
