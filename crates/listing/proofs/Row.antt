-- The keys of the report row, and the lines that one of them adds.
use Rattle.std.proofs.Common.{◌≡◌, true, false, List, ◌∷◌, ◌++◌, sym, ap, ◌∙◌}
use Rattle.std.proofs.lemmas.Bool.{cond-true, cond-false}
use Rattle.ordered.specs.declared.line.Line.{Line}
use Rattle.balances.specs.Books.{Books}
use Rattle.listing.specs.declared.page.Page.{Page}
use Rattle.listing.specs.Pages.{with_bytes}
use Rattle.listing.specs.Sums.{sums_of}
use Rattle.listing.specs.Lines.{sum_bytes, key_bytes, ends_in, end_bytes, keys_bytes}
use Rattle.listing.proofs.Writing.{with_bytes-++}

-- the key l is the first of ls, and its account's line leads from p to q
module _ (k : Books) (ls rest : List Line) (l : Line) (is : ls ≡ l ∷ rest) (p q : Page) (line : q ≡ with_bytes (key_bytes k l) p) where
  key_more : with_bytes (keys_bytes k ls) p ≡ with_bytes (keys_bytes k rest) (with_bytes (end_bytes k l.ledger rest) q)
  key_more =
      let ends = end_bytes k l.ledger rest in
      let after = keys_bytes k rest in
      ap (λ js. with_bytes (keys_bytes k js) p) is ∙ with_bytes-++ (key_bytes k l) (ends ++ after) p ∙ ap (with_bytes (ends ++ after)) (sym line) ∙ with_bytes-++ ends after q

  pub ledger_ends : ends_in l.ledger rest ≡ true → (r : Page) → r ≡ with_bytes (sum_bytes l.ledger (sums_of k l.ledger)) q → with_bytes (keys_bytes k ls) p ≡ with_bytes (keys_bytes k rest) r
  ledger_ends end r sums = key_more ∙ ap (λ bs. with_bytes (keys_bytes k rest) (with_bytes bs q)) (cond-true _ _ _ end) ∙ ap (with_bytes (keys_bytes k rest)) (sym sums)

  pub ledger_goes_on : ends_in l.ledger rest ≡ false → with_bytes (keys_bytes k ls) p ≡ with_bytes (keys_bytes k rest) q
  ledger_goes_on on = key_more ∙ ap (λ bs. with_bytes (keys_bytes k rest) (with_bytes bs q)) (cond-false _ _ _ on)
