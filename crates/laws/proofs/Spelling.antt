-- A label spells a text, each text is spelled once, and a listing shows it.
use Rattle.std.proofs.Common.{◌≡◌, ℕ, zero, suc, ◌+◌, ◌-◌, ◌^◌, ◌<◌, Bool, true, false, cond, not, eqb, ltb, List, [], ◌∷◌, ◌++◌, length, get_or, replicate, sym, refl, ap, ◌∙◌, arith, lit<}
use Rattle.std.specs.List.{AllByRecursion as All, filter}
use Rattle.std.specs.Int.{w64, to_be_bytes, from_be_bytes}
use Rattle.std.proofs.lemmas.Bool.{and_parts, and_from, ltb-true, lt-ltb, eqb-true}
use Rattle.std.proofs.lemmas.List.{length-append, length-replicate}
use Rattle.std.proofs.lemmas.Nat.{be_bytes_8, from_be_bytes-to_be_bytes_8}
use Rattle.meaning.specs.Labels.{letter, filling, lettered, named, is_label}
use Rattle.meaning.specs.Listing.{letters_in}
use Rattle.laws.specs.Spelled.{IsText, Spells, LabelSpells, IsSpelledOnce, IsShown}

abbrev Letters : List ℕ → Type 0
Letters text = All (λ b. letter b ≡ true) text

-- From bytes to a text.

spaces : (bs : List ℕ) → filling bs ≡ true → bs ≡ replicate (length bs) 32
spaces [] h = refl
spaces (b ∷ bs) h =
    let p = and_parts (eqb b 32) (filling bs) h in
    let w : b ≡ 32 = eqb-true b 32 p.0 in
    let rest : bs ≡ replicate (length bs) 32 = spaces bs p.1 in
    λ i. w i ∷ rest i

-- letters, and then so many spaces
pub record Begins (bs : List ℕ) : Type 0 where
  pub text : List ℕ
  pub more : ℕ
  pub is : bs ≡ text ++ replicate more 32
  pub letters : Letters text

begins : (bs : List ℕ) → lettered bs ≡ true → Begins bs
begins [] h = record { text = []; more = 0; is = refl; letters = tt }
begins (b ∷ bs) h = go (letter b) refl h (begins bs)
  where
    go : (l : Bool) → letter b ≡ l → cond l (lettered bs) (filling (b ∷ bs)) ≡ true → (lettered bs ≡ true → Begins bs) → Begins (b ∷ bs)
    go true l h ih = let B = ih h in record { text = b ∷ B.text; more = B.more; is = ap (λ x. b ∷ x) B.is; letters = (l, B.letters) }
    go false l h ih = record { text = []; more = length (b ∷ bs); is = spaces (b ∷ bs) h; letters = tt }

text_of : (n : ℕ) (bs : List ℕ) → n < 2 ^ 64 → to_be_bytes w64 n ≡ bs → length bs ≡ 8 → named bs ≡ true → (text : List ℕ) × IsText text × Spells n text
text_of n [] lt e long h = absurd (omega arith)
text_of n (b ∷ bs) lt e long h =
    let p = and_parts (letter b) (lettered bs) h in
    let B = begins bs p.1 in
    let size : 1 + length B.text + B.more ≡ 8 = omega (arith, ap (λ (x : List ℕ). length x) B.is, length-append B.text (replicate B.more 32), length-replicate {A = ℕ} B.more 32) in
    let k : B.more ≡ 8 - length (b ∷ B.text) = omega arith in
    (b ∷ B.text, record { some = omega arith; short = omega arith; letters = (p.0, B.letters) }, record { below = lt; bytes = e ∙ (ap (λ x. b ∷ x) B.is ∙ ap (λ m. b ∷ (B.text ++ replicate m 32)) k) })

-- From a text to bytes.

all_spaces : (k : ℕ) → filling (replicate k 32) ≡ true
all_spaces zero = refl
all_spaces (suc k) = all_spaces k

spaced : (k : ℕ) → lettered (replicate k 32) ≡ true
spaced zero = refl
spaced (suc k) = all_spaces k

spelled : (text : List ℕ) (k : ℕ) → Letters text → lettered (text ++ replicate k 32) ≡ true
spelled [] k h = spaced k
spelled (b ∷ text) k h =
    ap (λ l. cond l (lettered (text ++ replicate k 32)) (filling (b ∷ (text ++ replicate k 32)))) h.0 ∙ spelled text k h.1

named_from : (text : List ℕ) → IsText text → named (text ++ replicate (8 - length text) 32) ≡ true
named_from [] t = absurd (omega (arith, t.some))
named_from (b ∷ text) t =
    and_from (letter b) _ t.letters.0 (spelled text (8 - length (b ∷ text)) t.letters.1)

pub label_spells : (n : ℕ) → LabelSpells n
unfolding is_label
label_spells n = (
  λ h. let p = and_parts (ltb n (2 ^ 64)) (named (to_be_bytes w64 n)) h in text_of n (to_be_bytes w64 n) (ltb-true n (2 ^ 64) p.0) refl refl p.1,
  λ s. and_from (ltb n (2 ^ 64)) _ (lt-ltb n (2 ^ 64) s.2.below) (ap named s.2.bytes ∙ named_from s.0 s.1),
)

-- The number of a text.

small_letter : (b : ℕ) → letter b ≡ true → b < 256
small_letter b h = grind arith

small_space : (k i : ℕ) → get_or (replicate k 32) i 0 < 256
small_space zero i = lit< tt
small_space (suc k) zero = lit< tt
small_space (suc k) (suc i) = small_space k i

small : (text : List ℕ) (k : ℕ) → Letters text → (i : ℕ) → get_or (text ++ replicate k 32) i 0 < 256
small [] k h i = small_space k i
small (b ∷ text) k h zero = small_letter b h.0
small (b ∷ text) k h (suc i) = small text k h.1 i

below : (bs : List ℕ) → ((i : ℕ) → get_or bs i 0 < 256) → from_be_bytes w64 bs < 2 ^ 64
below bs h = omega (arith, h 0, h 1, h 2, h 3, h 4, h 5, h 6, h 7)

pub spelled_once : (text : List ℕ) → IsText text → IsSpelledOnce text
spelled_once text t =
    let bs = text ++ replicate (8 - length text) 32 in
    let n = from_be_bytes w64 bs in
    let low = small text (8 - length text) t.letters in
    let short = t.short in
    let long : length bs ≡ 8 = length-append text (replicate (8 - length text) 32) ∙ (ap (λ k. length text + k) (length-replicate (8 - length text) 32) ∙ omega arith) in
    (n, record { below = below bs low; bytes = be_bytes_8 bs n long low refl }, λ m S. sym (from_be_bytes-to_be_bytes_8 m S.below) ∙ ap (from_be_bytes w64) S.bytes)

-- What a listing shows.

no_spaces : (k : ℕ) → filter (λ b. not (eqb b 32)) (replicate k 32) ≡ []
no_spaces zero = refl
no_spaces (suc k) = no_spaces k

not_a_space : (b : ℕ) → letter b ≡ true → not (eqb b 32) ≡ true
not_a_space b h = grind arith

only_letters : (text : List ℕ) (k : ℕ) → Letters text → filter (λ b. not (eqb b 32)) (text ++ replicate k 32) ≡ text
only_letters [] k h = no_spaces k
only_letters (b ∷ text) k h =
    let rest = text ++ replicate k 32 in
    ap (λ c. cond c (b ∷ filter (λ b. not (eqb b 32)) rest) (filter (λ b. not (eqb b 32)) rest)) (not_a_space b h.0) ∙ ap (λ x. b ∷ x) (only_letters text k h.1)

pub shown : (n : ℕ) (text : List ℕ) → IsText text → IsShown n text
unfolding letters_in
shown n text t S = ap (filter (λ b. not (eqb b 32))) S.bytes ∙ only_letters text (8 - length text) t.letters
