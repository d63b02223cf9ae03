-- The listing over the tables is the listing of the journal and the moment that they are the image of.
use Rattle.std.proofs.Common.{◌≡◌, ℕ, ◌^◌, ◌<◌, ◌≤◌, eqb, List, [], ◌∷◌, ◌++◌, map, length, Some, decimal, sym, refl, ap, ◌∙◌, arith}
use Rattle.std.specs.List.{AllByRecursion as All}
use Rattle.std.specs.Option.{option_map, option_map_or}
use Rattle.std.proofs.ByRecursion.{All-weaker}
use Rattle.std.proofs.lemmas.List.{length-map}
use Rattle.laws.proofs.Finds.{find_by}
use Rattle.meaning.specs.declared.opening.Opening.{Opening}
use Rattle.meaning.specs.Basics.{at, sum_of, in_order}
use Rattle.meaning.specs.Given.{Journal, accounts}
use Rattle.meaning.specs.Listing.{earlier, fields, account_line, sum_line, last_of_ledger, lines, listing}
use Rattle.meaning.specs.declared.standing.Standing.{Standing}
use Rattle.meaning.specs.Questions.{standing}
use Rattle.meaning.specs.Rules.{Policy}
use Rattle.ordered.specs.Keyed.{line_of}
use Rattle.ordered.specs.Orders.{line_before}
use Rattle.ordered.proofs.Keyed.{map-in_order}
use Rattle.balances.specs.declared.balances.Balances.{Balances}
use Rattle.balances.specs.Books.{Books, books_of, row_asked}
use Rattle.balances.specs.Judged.{sum}
use Rattle.laws.specs.Steps.{Reads}
use Rattle.laws.proofs.Known.{akey, known}
use Rattle.image.specs.Image.{image_of}
use Rattle.image.proofs.Asked.{asks}
use Rattle.image.proofs.Waiting.{all_found, all_in_order}
use Rattle.listing.specs.declared.sums.Sums.{Sums}
use Rattle.listing.specs.Sums.{no_sums, plus, plus_keys, sums_of}
use Rattle.listing.specs.Lines.{sum_bytes, key_bytes, ends_in, keys_bytes}
use Rattle.listing.proofs.Totals.{Small, small}
use Rattle.listing.proofs.Summing.{Shown, sum-in_order, sum_exact}

sum-bytes : (L : ℕ) (s : Sums) (n dp dq cp cq : ℕ) → s.accounts ≡ n → s.debits_pending ≡ dp → s.debits_posted ≡ dq → s.credits_pending ≡ cp → s.credits_posted ≡ cq → sum_bytes L s ≡ decimal L ++ (32 ∷ (61 ∷ (fields (n ∷ dp ∷ dq ∷ cp ∷ cq ∷ []) ++ (10 ∷ []))))
unfolding sum_bytes
sum-bytes L s n dp dq cp cq e f g h i = rw (e, f, g, h, i)

module _ (k : Books) (J : Journal) (T : ℕ) where
  -- the lines of accounts that the tables show as J and T do
  shown_lines : ((L : ℕ) → sum_bytes L (sums_of k L) ≡ sum_line J T L) → (As : List Opening) → All (Shown k J T) As → keys_bytes k (map line_of As) ≡ lines J T As
  shown_lines sums [] h = refl
  shown_lines sums (A ∷ As) h =
      let one : key_bytes k (line_of A) ≡ account_line (standing J T A) = ap (λ o. option_map_or account_line o []) h.0 in
      let rest = shown_lines sums As h.1 in
      let end : ends_in A.ledger (map line_of As) ≡ last_of_ledger A.ledger As = same_end As in
      let total = sums A.ledger in
      cc
    where
      same_end : (Bs : List Opening) → ends_in A.ledger (map line_of Bs) ≡ last_of_ledger A.ledger Bs
      same_end [] = refl
      same_end (B ∷ Bs) = refl

  -- the sums of tables whose report row has the accounts of J in order
  module _ (row : k.lines ≡ map line_of (in_order earlier (accounts J))) (shown : All (Shown k J T) (in_order earlier (accounts J))) (few : length (in_order earlier (accounts J)) ≤ 64) (L : ℕ) where
    one_sum : (π : Sums → ℕ) (f : Standing → ℕ) → ((a : Standing) (s : Sums) → π (plus a s) ≡ sum (π s) (f a)) → π no_sums ≡ 0 → All (λ A. f (standing J T A) < 2 ^ 56) (in_order earlier (accounts J)) → π (sums_of k L) ≡ sum_of (λ A. at (eqb A.ledger L) (f (standing J T A))) (accounts J)
    unfolding sums_of
    one_sum π f adds zero low =
        ap (λ ls. π (plus_keys k L ls no_sums)) row ∙ omega (arith, sum_exact k J T L π f adds (in_order earlier (accounts J)) no_sums shown low (omega arith), sum-in_order earlier (λ A. at (eqb A.ledger L) (f (standing J T A))) (accounts J))

    sum_line_lem : All (λ A. Small (standing J T A)) (in_order earlier (accounts J)) → sum_bytes L (sums_of k L) ≡ sum_line J T L
    sum_line_lem low =
        let As = in_order earlier (accounts J) in
        sum-bytes L (sums_of k L) _ _ _ _ _
        (one_sum (λ s. s.accounts) (λ a. 1) (λ a s. refl) refl (All-weaker _ _ (λ A h. omega arith) As low))
        (one_sum (λ s. s.debits_pending) (λ a. a.debits_pending) (λ a s. refl) refl (All-weaker _ _ (λ A h. h.debits_pending) As low))
        (one_sum (λ s. s.debits_posted) (λ a. a.debits_posted) (λ a s. refl) refl (All-weaker _ _ (λ A h. h.debits_posted) As low))
        (one_sum (λ s. s.credits_pending) (λ a. a.credits_pending) (λ a s. refl) refl (All-weaker _ _ (λ A h. h.credits_pending) As low))
        (one_sum (λ s. s.credits_posted) (λ a. a.credits_posted) (λ a s. refl) refl (All-weaker _ _ (λ A h. h.credits_posted) As low))

pub listed : (policy : Policy) (b : Balances) (J : Journal) (T : ℕ) → Reads policy J → books_of b ≡ image_of J T → keys_bytes (books_of b) (books_of b).lines ≡ listing J T
listed policy b J T reads e =
    let k = books_of b in
    let As = in_order earlier (accounts J) in
    let row : k.lines ≡ map line_of As = ap (λ (x : Books). x.lines) e ∙ sym (map-in_order earlier line_before line_of (λ A B. refl) (accounts J)) in
    let found = all_found akey (accounts J) (known policy J reads).apart in
    let shown : All (Shown k J T) (accounts J) = All-weaker (λ A. find_by akey (akey A) (accounts J) ≡ Some A) (Shown k J T) (λ A f. ap (λ (x : Books). row_asked x A.number) e ∙ (asks policy J reads T).account A.number ∙ ap (option_map (standing J T)) f) (accounts J) found in
    let shown-in : All (Shown k J T) As = all_in_order earlier (Shown k J T) (accounts J) shown in
    let low = all_in_order earlier (λ A. Small (standing J T A)) (accounts J) (small b J T e) in
    let few : length As ≤ 64 = omega (arith, b.few.1, ap length row, length-map As line_of) in
    ap (keys_bytes k) row ∙ shown_lines k J T (λ L. sum_line_lem k J T row shown-in few L low) As shown-in
