-- A listing takes at most 98 bytes for each account and 91 for the sums of each ledger.
use Rattle.std.proofs.Common.{◌≡◌, ℕ, ◌+◌, ◌*◌, ◌^◌, ◌<◌, ◌≤◌, Bool, true, false, cond, eqb, leb, ltb, not, List, [], ◌∷◌, ◌++◌, map, length, decimal, Some, None, Ok, refl, arith, length-append}
use Rattle.std.specs.Int.{w64, to_be_bytes}
use Rattle.std.specs.List.{AllByRecursion as All}
use Rattle.std.proofs.ByRecursion.{All-weaker}
use Rattle.std.proofs.lemmas.Bool.{and_parts, ltb-true, leb-false}
use Rattle.std.proofs.lemmas.Fmt.{length-decimal-le}
use Rattle.meaning.specs.declared.content.Content.{Content}
use Rattle.meaning.specs.declared.content.Content.TheVariants.{Account, Transfer, Reserve, Post, Void}
use Rattle.meaning.specs.declared.entry.Entry.{Entry}
use Rattle.meaning.specs.declared.opening.Opening.{Opening}
use Rattle.meaning.specs.declared.record.Record.{Record}
use Rattle.meaning.specs.declared.standing.Standing.{Standing}
use Rattle.meaning.specs.Basics.{at, sum_of, in_order}
use Rattle.meaning.specs.Batches.{grown}
use Rattle.meaning.specs.Given.{Journal, with_account, accounts, Side, debits, credits, pending, posted, of_ledger, latest}
use Rattle.meaning.specs.Listing.{earlier, fields, letters_in, line_bytes, account_line, sum_line, last_of_ledger, lines, listing}
use Rattle.meaning.specs.Policies.{Lawful}
use Rattle.meaning.specs.Questions.{standing}
use Rattle.meaning.specs.Reading.{read_so_far}
use Rattle.meaning.specs.Rules.{Policy, opening_checks, refused}
use Rattle.meaning.specs.Sound.{is_number, content_sound, sound}
use Rattle.laws.specs.Steps.{Reads, Ready}
use Rattle.laws.proofs.Admitted.{admitted}
use Rattle.laws.proofs.Finds.{find_by}
use Rattle.laws.proofs.Known.{akey, known}
use Rattle.laws.proofs.Passes.{all_pass, not_stopped, reads_prefix, reads_rules}
use Rattle.layout.proofs.Fits.{content_sound_lem}
use Rattle.image.proofs.Held.{length-filter-le}
use Rattle.image.proofs.Opened.{length-in_order}
use Rattle.image.proofs.Waiting.{all_both, all_found, all_in_order}
use Rattle.listing.proofs.Totals.{Small}
use Rattle.steps.specs.Written.{records_of}
use Rattle.scripts.specs.Limits.{most_bytes}

-- Lines.

-- a line of so long a name, a number of at most v digits, and four of at most w
line_le : (v w : ℕ) (L : ℕ) (name : List ℕ) (n a b c d : ℕ) → length (decimal L) ≤ 5 → length (decimal n) ≤ v → length (decimal a) ≤ w → length (decimal b) ≤ w → length (decimal c) ≤ w → length (decimal d) ≤ w → length (line_bytes L name (n ∷ a ∷ b ∷ c ∷ d ∷ [])) ≤ 12 + length name + v + 4 * w
line_le v w L name n a b c d hL hn ha hb hc hd =
    let e0 = length-append (32 ∷ decimal d) [] in
    let e1 = length-append (32 ∷ decimal c) (fields (d ∷ [])) in
    let e2 = length-append (32 ∷ decimal b) (fields (c ∷ d ∷ [])) in
    let e3 = length-append (32 ∷ decimal a) (fields (b ∷ c ∷ d ∷ [])) in
    let e4 = length-append (32 ∷ decimal n) (fields (a ∷ b ∷ c ∷ d ∷ [])) in
    let e5 = length-append (fields (n ∷ a ∷ b ∷ c ∷ d ∷ [])) (10 ∷ []) in
    let e6 = length-append name (fields (n ∷ a ∷ b ∷ c ∷ d ∷ []) ++ (10 ∷ [])) in
    let e7 = length-append (decimal L) (32 ∷ (name ++ (fields (n ∷ a ∷ b ∷ c ∷ d ∷ []) ++ (10 ∷ [])))) in
    omega (arith, e0, e1, e2, e3, e4, e5, e6, e7, hL, hn, ha, hb, hc, hd)

-- an account whose number and ledger have their widths
pub record Narrow (A : Opening) : Type 0 where
  pub number : A.number < 2 ^ 32
  pub ledger : A.ledger < 2 ^ 16

label_le : (b : ℕ) → length (letters_in (to_be_bytes w64 b)) ≤ 8
unfolding letters_in
label_le b = length-filter-le (λ x. not (eqb x 32)) (to_be_bytes w64 b)

five : (L : ℕ) → L < 2 ^ 16 → length (decimal L) ≤ 5
five L h = length-decimal-le 5 L (omega arith) (omega arith) (omega arith)

total_17 : (n : ℕ) → n < 2 ^ 56 → length (decimal n) ≤ 17
total_17 n h = length-decimal-le 17 n (omega arith) (omega arith) (omega arith)

account_line_le : (s : Standing) → Narrow s.account → Small s → length (account_line s) ≤ 98
unfolding account_line
account_line_le s N S =
    let a = label_le s.account.label in
    let b = length-decimal-le 10 s.account.number (omega arith) (omega (arith, N.number)) (omega (arith, N.number)) in
    let c = line_le 10 17 s.account.ledger (letters_in (to_be_bytes w64 s.account.label)) s.account.number s.debits_pending s.debits_posted s.credits_pending s.credits_posted (five s.account.ledger N.ledger) b (total_17 _ S.debits_pending) (total_17 _ S.debits_posted) (total_17 _ S.credits_pending) (total_17 _ S.credits_posted) in
    omega (arith, a, c)

-- Sums.

sum_le : (L : ℕ) (f : ℕ → ℕ) (As : List Opening) → All (λ A. f A.number < 2 ^ 56) As → sum_of (λ (A : Opening). at (eqb A.ledger L) (f A.number)) As ≤ length As * 2 ^ 56
sum_le L f [] h = omega arith
sum_le L f (A ∷ As) h =
    let now = h.0 in
    let least : at (eqb A.ledger L) (f A.number) < 2 ^ 56 = elim (eqb A.ledger L) as (λ b. at b (f A.number) < 2 ^ 56) [ true ↦ now | false ↦ omega arith ] in
    omega (arith, sum_le L f As h.1)

count_le : (L : ℕ) (As : List Opening) → sum_of (λ (A : Opening). at (eqb A.ledger L) 1) As ≤ length As
count_le L [] = omega arith
count_le L (A ∷ As) =
    let least : at (eqb A.ledger L) 1 ≤ 1 = elim (eqb A.ledger L) as (λ b. at b 1 ≤ 1) [ true ↦ omega arith | false ↦ omega arith ] in
    omega (arith, count_le L As)

sum_19 : (n : ℕ) → n ≤ 64 * 2 ^ 56 → length (decimal n) ≤ 19
sum_19 n h = length-decimal-le 19 n (omega arith) (omega arith) (omega arith)

module _ (J : Journal) (T : ℕ) where
  -- an account of J that is narrow and has small totals
  abbrev Fine : Opening → Type 0
  Fine A = Narrow A × Small (standing J T A)

  module _ (few : length (accounts J) ≤ 64) (fine : All Fine (accounts J)) where
    ledger_le : (L : ℕ) (f : ℕ → ℕ) → All (λ (A : Opening). f A.number < 2 ^ 56) (accounts J) → length (decimal (of_ledger J L f)) ≤ 19
    ledger_le L f h = sum_19 (of_ledger J L f) (omega (arith, sum_le L f (accounts J) h, few))

    sum_line_le : (L : ℕ) → L < 2 ^ 16 → length (sum_line J T L) ≤ 91
    sum_line_le L h =
        let n = length-decimal-le 2 (of_ledger J L (λ a. 1)) (omega arith) (omega (arith, count_le L (accounts J), few)) (omega (arith, count_le L (accounts J), few)) in
        let a = ledger_le L (pending J T debits) (All-weaker Fine (λ A. pending J T debits A.number < 2 ^ 56) (λ A F. F.1.debits_pending) (accounts J) fine) in
        let b = ledger_le L (posted J debits) (All-weaker Fine (λ A. posted J debits A.number < 2 ^ 56) (λ A F. F.1.debits_posted) (accounts J) fine) in
        let c = ledger_le L (pending J T credits) (All-weaker Fine (λ A. pending J T credits A.number < 2 ^ 56) (λ A F. F.1.credits_pending) (accounts J) fine) in
        let d = ledger_le L (posted J credits) (All-weaker Fine (λ A. posted J credits A.number < 2 ^ 56) (λ A F. F.1.credits_posted) (accounts J) fine) in
        line_le 2 19 L (61 ∷ []) _ _ _ _ _ (five L h) n a b c d

    lines_le : (As : List Opening) → All Fine As → length (lines J T As) ≤ length As * 189
    lines_le [] h = omega arith
    lines_le (A ∷ As) h =
        let one = account_line_le (standing J T A) h.0.0 h.0.1 in
        let all = sum_line_le A.ledger h.0.0.ledger in
        let end : List ℕ = cond (last_of_ledger A.ledger As) (sum_line J T A.ledger) [] in
        let sums : length (cond (last_of_ledger A.ledger As) (sum_line J T A.ledger) []) ≤ 91 = elim (last_of_ledger A.ledger As) as (λ b. length (cond b (sum_line J T A.ledger) []) ≤ 91) [ true ↦ all | false ↦ omega arith ] in
        let a = length-append (account_line (standing J T A)) (cond (last_of_ledger A.ledger As) (sum_line J T A.ledger) [] ++ lines J T As) in
        let b = length-append (cond (last_of_ledger A.ledger As) (sum_line J T A.ledger) []) (lines J T As) in
        omega (arith, one, sums, a, b, lines_le As h.1)

    listing_le : length (listing J T) ≤ most_bytes
    listing_le =
        let l = lines_le (in_order earlier (accounts J)) (all_in_order earlier Fine (accounts J) fine) in
        let n = length-in_order earlier (accounts J) in
        omega (arith, l, n, few)

-- What a journal that reads gives.

few_more : (policy : Policy) (J : Journal) (T n : ℕ) (k : Content) → length (accounts J) ≤ 64 → refused policy J T n k ≡ None → length (with_account n k (accounts J)) ≤ 64
few_more policy J T n (Account l c m b) h e =
    let A : Opening = record { number = n; ledger = l; class = c; limit = m; label = b } in
    let r = leb-false 64 (length (accounts J)) (all_pass (opening_checks policy J false A) e).1.1.1.1.0 in
    omega arith
few_more policy J T n (Transfer d c z) h e = h
few_more policy J T n (Reserve d c z u) h e = h
few_more policy J T n (Post r z) h e = h
few_more policy J T n (Void r) h e = h

few_accounts : (policy : Policy) (J : Journal) → Reads policy J → length (accounts J) ≤ 64
few_accounts policy [] h = omega arith
few_accounts policy (e ∷ J) h = few_more policy J e.moment e.number e.content (few_accounts policy J (reads_prefix policy e J h)) (reads_rules policy e J h)

small_totals : (policy : Policy) → Lawful policy → (J : Journal) → Reads policy J → (T : ℕ) → latest J ≤ T → All (λ A. Small (standing J T A)) (accounts J)
small_totals policy law J h T le =
    All-weaker _ (λ A. Small (standing J T A)) (λ A H. let d = H.debits_fit in let c = H.credits_fit in record { debits_pending = omega arith; debits_posted = omega arith; credits_pending = omega arith; credits_posted = omega arith }) (accounts J) (admitted policy law J h T le)

narrow_more : (n t : ℕ) (l : Bool) (k : Content) → is_number n ≡ true → content_sound l t k ≡ true → (rest : List Opening) → All Narrow rest → All Narrow (with_account n k rest)
narrow_more n t l (Account L k m b) num h rest R =
    let number = ltb-true n (2 ^ 32) (and_parts (leb 1 n) _ num).1 in
    let p = (and_parts (not l) _ h).1 in
    let q = (and_parts (leb 1 L) _ p).1 in
    let ledger = ltb-true L (2 ^ 16) (and_parts (ltb L (2 ^ 16)) _ q).0 in
    (record { number = number; ledger = ledger }, R)
narrow_more n t l (Transfer d c z) num h rest R = R
narrow_more n t l (Reserve d c z u) num h rest R = R
narrow_more n t l (Post r z) num h rest R = R
narrow_more n t l (Void r) num h rest R = R

narrow : (J : Journal) → All (λ e. sound e ≡ true) J → All Narrow (accounts J)
narrow [] h = tt
narrow (e ∷ J) h = let s = content_sound_lem e h.0 in narrow_more e.number e.moment e.linked e.content s.0 s.2 (accounts J) (narrow J h.1)

sound_grown : (J : Journal) (es : List Entry) → All (λ e. sound e ≡ true) J → All (λ e. sound e ≡ true) (grown J (map (λ (e : Entry). e.fields) es))
sound_grown J [] h = h
sound_grown J (e ∷ es) h = sound_grown (e.fields ∷ J) es (e.ok, h)

pub listing_fits : (policy : Policy) → Lawful policy → (es : List Entry) (T : ℕ) → Ready policy (records_of es) T → length (listing (records_of es) T) ≤ most_bytes
listing_fits policy law es T R =
    let J = records_of es in
    let h = (not_stopped (read_so_far policy J) _ R.through).0 in
    listing_le J T (few_accounts policy J h) (all_both Narrow (λ A. Small (standing J T A)) (accounts J) (narrow J (sound_grown [] es tt)) (small_totals policy law J h T R.in_time))
