-- How many lines a listing has, and what they add up to.
use Rattle.std.proofs.Common.{◌≡◌, ℕ, zero, suc, ◌+◌, ◌/◌, ◌%◌, Bool, true, false, cond, eqb, ltb, List, [], ◌∷◌, ◌++◌, length, None, refl, sym, ap, ◌∙◌, arith}
use Rattle.std.specs.Prelude.{decimal}
use Rattle.std.specs.Fmt.{digit_glyph, digits_onto, digits}
use Rattle.std.specs.Int.{w64, to_be_bytes}
use Rattle.std.specs.List.{AllByRecursion as All, filter, sum_by}
use Rattle.std.proofs.lemmas.Bool.{ne_eqb}
use Rattle.std.proofs.lemmas.List.Elements.{All-from_recursion, recursion_from_All}
use Rattle.std.proofs.lemmas.List.Sums.{sum_by-cons, sum_by-append}
use Rattle.std.proofs.lemmas.List.Sorted.{All-permutation, length_permutation, sum_by-IsPermutation}
use Rattle.meaning.specs.declared.content.Content.{Content}
use Rattle.meaning.specs.declared.content.Content.TheVariants.{Account, Transfer, Reserve, Post, Void}
use Rattle.meaning.specs.declared.opening.Opening.{Opening}
use Rattle.meaning.specs.Basics.{at, sum_of, in_order}
use Rattle.meaning.specs.Labels.{letter, is_label}
use Rattle.meaning.specs.Given.{Journal, accounts, with_account, debits, credits, pending, posted, of_ledger}
use Rattle.meaning.specs.Rules.{Policy, opening_refused, refused}
use Rattle.meaning.specs.Questions.{standing}
use Rattle.meaning.specs.Listing.{earlier, fields, letters_in, line_bytes, account_line, sum_line, last_of_ledger, lines}
use Rattle.laws.specs.Steps.{Reads}
use Rattle.laws.specs.Listed.{Labelled, SumsItsLines, LinesCounted}
use Rattle.laws.proofs.Passes.{reads_prefix, reads_rules}
use Rattle.laws.proofs.Ranking.{in_order_permutes}
use Rattle.laws.proofs.Spelling.{label_spells, shown}
use Rattle.laws.proofs.Parts.{ledgers_of, only_listing, its_ledgers}

-- What is added up.

module _ (L : ℕ) (f : ℕ → ℕ) where
  abbrev own : Opening → ℕ
  own A = at (eqb A.ledger L) (f A.number)

  as_fold : (As : List Opening) → sum_of own As ≡ sum_by own As
  as_fold [] = refl
  as_fold (A ∷ As) = ap (λ k. own A + k) (as_fold As) ∙ sym (sum_by-cons own A As)

  of_the_ledger : (As : List Opening) → sum_by own As ≡ sum_by (λ A. f A.number) (filter (λ A. eqb A.ledger L) As)
  of_the_ledger [] = refl
  of_the_ledger (A ∷ As) = sum_by-cons own A As ∙ go (eqb A.ledger L) (of_the_ledger As)
    where
      rest : List Opening
      rest = filter (λ A. eqb A.ledger L) As

      go : (b : Bool) → sum_by own As ≡ sum_by (λ A. f A.number) rest → at b (f A.number) + sum_by own As ≡ sum_by (λ A. f A.number) (cond b (A ∷ rest) rest)
      go true e = ap (λ k. f A.number + k) e ∙ sym (sum_by-cons (λ A. f A.number) A rest)
      go false e = omega (arith, e)

pub sums_its_lines : (J : Journal) (T : ℕ) → SumsItsLines J T
sums_its_lines J T bytes X L f =
    as_fold L f (accounts J) ∙ (sym (sum_by-IsPermutation (own L f) (accounts J) X.shown X.each_account) ∙ of_the_ledger L f X.shown)

-- How many lines there are.

abbrev is_end : ℕ → ℕ
is_end b = cond (eqb b 10) 1 0

-- how many lines end in these bytes
abbrev ends : List ℕ → ℕ
ends bs = sum_by is_end bs

no_end : (b : ℕ) → (b ≡ 10 → ⊥) → is_end b ≡ 0
no_end b h = ap (λ (t : Bool). cond t 1 0) (ne_eqb b 10 h)

glyph : (d : ℕ) → is_end (digit_glyph false d) ≡ 0
glyph d = go (ltb d 10)
  where
    go : (b : Bool) → is_end (cond b (48 + d) (87 + d)) ≡ 0
    go true = no_end (48 + d) (λ e. omega arith)
    go false = no_end (87 + d) (λ e. omega arith)

digits_end_none : (k n : ℕ) (acc : List ℕ) → ends acc ≡ 0 → ends (digits_onto k 10 false n acc) ≡ 0
digits_end_none zero n acc h = h
digits_end_none (suc k) n acc h =
    let here : ends (digit_glyph false (n % 10) ∷ acc) ≡ 0 = sum_by-cons is_end (digit_glyph false (n % 10)) acc ∙ omega (arith, glyph (n % 10)) in
    go (eqb (n / 10) 0) here (digits_end_none k (n / 10) (digit_glyph false (n % 10) ∷ acc) here)
  where
    go : (b : Bool) → ends (digit_glyph false (n % 10) ∷ acc) ≡ 0 → ends (digits_onto k 10 false (n / 10) (digit_glyph false (n % 10) ∷ acc)) ≡ 0 → ends (cond b (digit_glyph false (n % 10) ∷ acc) (digits_onto k 10 false (n / 10) (digit_glyph false (n % 10) ∷ acc))) ≡ 0
    go true x y = x
    go false x y = y

decimal_ends_none : (n : ℕ) → ends (decimal n) ≡ 0
unfolding digits
decimal_ends_none n = digits_end_none 64 n [] refl

fields_end_none : (ns : List ℕ) → ends (fields ns) ≡ 0
fields_end_none [] = refl
fields_end_none (n ∷ ns) =
    let rest : ends (decimal n ++ fields ns) ≡ 0 = sum_by-append is_end (decimal n) (fields ns) ∙ omega (arith, decimal_ends_none n, fields_end_none ns) in
    sum_by-cons is_end 32 (decimal n ++ fields ns) ∙ omega (arith, rest)

one_line : (L : ℕ) (name ns : List ℕ) → ends name ≡ 0 → ends (line_bytes L name ns) ≡ 1
one_line L name ns h =
    let a : ends (fields ns ++ 10 ∷ []) ≡ 1 = sum_by-append is_end (fields ns) (10 ∷ []) ∙ ap (λ k. k + 1) (fields_end_none ns) in
    let b : ends (name ++ (fields ns ++ 10 ∷ [])) ≡ 1 = sum_by-append is_end name (fields ns ++ 10 ∷ []) ∙ omega (arith, a) in
    let c : ends (32 ∷ (name ++ (fields ns ++ 10 ∷ []))) ≡ 1 = sum_by-cons is_end 32 (name ++ (fields ns ++ 10 ∷ [])) ∙ omega (arith, b) in
    sum_by-append is_end (decimal L) (32 ∷ (name ++ (fields ns ++ 10 ∷ []))) ∙ omega (arith, c, decimal_ends_none L)

not_an_end : (b : ℕ) → letter b ≡ true → b ≡ 10 → ⊥
not_an_end b h e = grind arith

letters_end_none : (text : List ℕ) → All (λ b. letter b ≡ true) text → ends text ≡ 0
letters_end_none [] h = refl
letters_end_none (b ∷ text) h = sum_by-cons is_end b text ∙ omega (arith, no_end b (not_an_end b h.0), letters_end_none text h.1)

module _ (J : Journal) (T : ℕ) where
  account_ends : (A : Opening) → is_label A.label ≡ true → ends (account_line (standing J T A)) ≡ 1
  unfolding account_line
  account_ends A h =
      let s = (label_spells A.label).0 h in
      let S = standing J T A in
      one_line A.ledger (letters_in (to_be_bytes w64 A.label)) (A.number ∷ S.debits_pending ∷ S.debits_posted ∷ S.credits_pending ∷ S.credits_posted ∷ []) (ap ends (shown A.label s.0 s.1 s.2) ∙ letters_end_none s.0 s.1.letters)

  sum_ends : (L : ℕ) → ends (sum_line J T L) ≡ 1
  sum_ends L =
      one_line L (61 ∷ []) (of_ledger J L (λ a. 1) ∷ of_ledger J L (pending J T debits) ∷ of_ledger J L (posted J debits) ∷ of_ledger J L (pending J T credits) ∷ of_ledger J L (posted J credits) ∷ []) refl

  lines_end : (As : List Opening) → Labelled As → ends (lines J T As) ≡ length As + length (ledgers_of As)
  lines_end [] h = refl
  lines_end (A ∷ As) h = go (last_of_ledger A.ledger As) (lines_end As h.1)
    where
      go : (b : Bool) → ends (lines J T As) ≡ length As + length (ledgers_of As) → ends (account_line (standing J T A) ++ (cond b (sum_line J T A.ledger) [] ++ lines J T As)) ≡ length (A ∷ As) + length (cond b (A.ledger ∷ ledgers_of As) (ledgers_of As))
      go true e =
          let rest : ends (sum_line J T A.ledger ++ lines J T As) ≡ 1 + (length As + length (ledgers_of As)) = sum_by-append is_end (sum_line J T A.ledger) (lines J T As) ∙ omega (arith, e, sum_ends A.ledger) in
          sum_by-append is_end (account_line (standing J T A)) (sum_line J T A.ledger ++ lines J T As) ∙ omega (arith, rest, account_ends A h.0)
      go false e =
          sum_by-append is_end (account_line (standing J T A)) (lines J T As) ∙ omega (arith, e, account_ends A h.0)

  pub lines_counted : LinesCounted J T
  lines_counted bytes X labels =
      let As = in_order earlier (accounts J) in
      let same = in_order_permutes (accounts J) in
      let each = recursion_from_All (λ A. is_label A.label ≡ true) As (All-permutation (λ A. is_label A.label ≡ true) (accounts J) As same (All-from_recursion (λ A. is_label A.label ≡ true) (accounts J) labels)) in
      ap ends (only_listing J T bytes X) ∙ (lines_end As each ∙ omega (arith, length_permutation (accounts J) As same, ap (λ (Ls : List ℕ). length Ls) (its_ledgers J T bytes X)))

opened_label : (policy : Policy) (J : Journal) (A : Opening) → opening_refused policy J false A ≡ None → is_label A.label ≡ true
opened_label policy J A h = grind arith

pub labelled : (policy : Policy) (J : Journal) → Reads policy J → Labelled (accounts J)
labelled policy [] h = tt
labelled policy (e ∷ J) h = go e.content (reads_rules policy e J h) (labelled policy J (reads_prefix policy e J h))
  where
    go : (k : Content) → refused policy J e.moment e.number k ≡ None → Labelled (accounts J) → Labelled (with_account e.number k (accounts J))
    go (Account l k m b) r rest = (opened_label policy J (record { number = e.number; ledger = l; class = k; limit = m; label = b }) r, rest)
    go (Transfer d c z) r rest = rest
    go (Reserve d c z u) r rest = rest
    go (Post q z) r rest = rest
    go (Void q) r rest = rest
