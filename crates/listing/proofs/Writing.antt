-- Bytes written behind bytes: digits, fields and letters.
use Rattle.std.proofs.Common.{◌≡◌, ℕ, ◌+◌, ◌/◌, ◌%◌, ◌^◌, ◌<◌, ◌≤◌, Bool, true, false, cond, not, eqb, List, [], ◌∷◌, ◌++◌, length, get_or, drop, decimal, sym, refl, ap, ◌∙◌, arith}
use Rattle.std.proofs.lemmas.Fmt.{decimal_digit, decimal_step}
use Rattle.std.proofs.lemmas.List.{at_drop_more, at_drop_all}
use Rattle.meaning.specs.Listing.{fields, letters_in}
use Rattle.listing.specs.declared.page.Page.{Page}
use Rattle.listing.specs.Pages.{with_bytes}

pub with_bytes-++ : (xs ys : List ℕ) (p : Page) → with_bytes (xs ++ ys) p ≡ with_bytes ys (with_bytes xs p)
with_bytes-++ [] ys p = refl
with_bytes-++ (x ∷ xs) ys p = with_bytes-++ xs ys _

pub one_digit : (n : ℕ) (p q r : Page) → n < 10 → q ≡ p → r ≡ with_bytes ((48 + n % 10) ∷ []) q → r ≡ with_bytes (decimal n) p
one_digit n p q r small e f =
    let m : n % 10 ≡ n = omega arith in
    let d = decimal_digit n small in
    rw d (rw (e, m) at f)

pub last_digit : (n : ℕ) (p q r : Page) → 10 ≤ n → n < 2 ^ 64 → q ≡ with_bytes (decimal (n / 10)) p → r ≡ with_bytes ((48 + n % 10) ∷ []) q → r ≡ with_bytes (decimal n) p
last_digit n p q r big fits e f =
    let w = with_bytes-++ (decimal (n / 10)) ((48 + n % 10) ∷ []) p in
    let d = ap (λ bs. with_bytes bs p) (decimal_step n big fits) in
    let h = ap (with_bytes ((48 + n % 10) ∷ [])) e in
    f ∙ h ∙ sym w ∙ sym d

-- one field more
pub field_more : (ns : List ℕ) (i : ℕ) (p q r : Page) → i < length ns → q ≡ with_bytes (32 ∷ []) p → r ≡ with_bytes (decimal (get_or ns i 0)) q → with_bytes (fields (drop i ns)) p ≡ with_bytes (fields (drop (i + 1) ns)) r
field_more ns i p q r within e f =
    let d : with_bytes (fields (drop i ns)) p ≡ with_bytes (decimal (get_or ns i 0) ++ fields (drop (i + 1) ns)) (with_bytes (32 ∷ []) p) = at_drop_more (λ ms. with_bytes (fields ms) p) ns i 0 within in
    let w = with_bytes-++ (decimal (get_or ns i 0)) (fields (drop (i + 1) ns)) (with_bytes (32 ∷ []) p) in
    let h = ap (with_bytes (decimal (get_or ns i 0))) e in
    d ∙ w ∙ ap (with_bytes (fields (drop (i + 1) ns))) (sym h ∙ sym f)

-- one byte of a label more, unless it is filling
pub letter_more : (bs : List ℕ) (i : ℕ) (p q : Page) → i < length bs → q ≡ cond (eqb (get_or bs i 0) 32) p (with_bytes (get_or bs i 0 ∷ []) p) → with_bytes (letters_in (drop i bs)) p ≡ with_bytes (letters_in (drop (i + 1) bs)) q
unfolding letters_in
letter_more bs i p q within e =
    at_drop_more (λ cs. with_bytes (letters_in cs) p) bs i 0 within ∙ go (eqb (get_or bs i 0) 32) e
  where
    rest : List ℕ
    rest = letters_in (drop (i + 1) bs)

    go : (b : Bool) → q ≡ cond b p (with_bytes (get_or bs i 0 ∷ []) p) → with_bytes (cond (not b) (get_or bs i 0 ∷ rest) rest) p ≡ with_bytes rest q
    go true h = ap (with_bytes rest) (sym h)
    go false h = ap (with_bytes rest) (sym h)

pub letters_end : (bs : List ℕ) (i : ℕ) (p : Page) → length bs ≤ i → with_bytes (letters_in (drop i bs)) p ≡ p
unfolding letters_in
letters_end bs i p past = at_drop_all (λ cs. with_bytes (letters_in cs) p) bs i past

-- five pieces, each behind the one before
pub five_pieces : (v w x y z : List ℕ) (p q r s t u : Page) → q ≡ with_bytes v p → r ≡ with_bytes w q → s ≡ with_bytes x r → t ≡ with_bytes y s → u ≡ with_bytes z t → u ≡ with_bytes (v ++ (w ++ (x ++ (y ++ z)))) p
five_pieces v w x y z p q r s t u e f g h k =
    rw (with_bytes-++ v (w ++ (x ++ (y ++ z))) p, ← e, with_bytes-++ w (x ++ (y ++ z)) q, ← f, with_bytes-++ x (y ++ z) r, ← g, with_bytes-++ y z s, ← h) k
