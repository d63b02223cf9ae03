-- How long a text is, and what is written of it where there is room for all of it.
use Rattle.std.proofs.Common.{◌≡◌, ℕ, ◌+◌, ◌-◌, ◌^◌, ◌<◌, ◌≤◌, min, List, [], ◌∷◌, ◌++◌, length, take, drop, set, sym, refl, ap, ◌∙◌, ⊎_elim, append_assoc, add-zero, zero-add, arith, length-append, length-drop}
use Rattle.std.proofs.lemmas.Bool.{cases_lt}
use Rattle.std.proofs.lemmas.List.{take-append-drop, take_all, take_at, take_more_set, drop-set-lt, length-set, set_past}
use Rattle.std.specs.Borrow.{MutBor}
use Rattle.meaning.specs.Calls.{over}
use Rattle.listing.specs.declared.page.Page.{Page}
use Rattle.listing.specs.Pages.{new_page, with_byte, with_bytes}

-- the place of the next byte, whatever the buffer
pub next_is : (bs : List ℕ) (p : Page) → p.next < 2 ^ 64 → (with_bytes bs p).next ≡ min (p.next + length bs) (2 ^ 64 - 1)
next_is [] p h = omega arith
next_is (b ∷ bs) p h = omega (arith, next_is bs (with_byte b p) (omega arith))

-- the buffer stays the same one
pub home_is : (bs : List ℕ) (p : Page) → (with_bytes bs p).bytes.ghost_name ≡ p.bytes.ghost_name
home_is [] p = refl
home_is (b ∷ bs) p = home_is bs (with_byte b p)

-- bytes from a place on over those of a buffer, cut where it ends
abbrev laid : List ℕ → ℕ → List ℕ → List ℕ
laid bs i m = take (length m) (take i m ++ (bs ++ drop (i + length bs) m))

laid_past : (bs : List ℕ) (i : ℕ) (m : List ℕ) → length m ≤ i → laid bs i m ≡ m
laid_past bs i m past = ap (λ f. take (length m) (f ++ (bs ++ drop (i + length bs) m))) (take_all i m past) ∙ take_at m _ (length m) refl

laid_more : (b : ℕ) (bs : List ℕ) (i : ℕ) (m : List ℕ) → i < length m → laid bs (i + 1) (set m i b) ≡ laid (b ∷ bs) i m
laid_more b bs i m here =
    let front = take_more_set m i b here in
    let back = drop-set-lt ((i + 1) + length bs) m i b (omega arith) in
    let end : (i + 1) + length bs ≡ i + length (b ∷ bs) = omega arith in
    ap (λ n. take n (take (i + 1) (set m i b) ++ (bs ++ drop ((i + 1) + length bs) (set m i b)))) (length-set m i b)
    ∙ ap (λ f. take (length m) (f ++ (bs ++ drop ((i + 1) + length bs) (set m i b)))) front
    ∙ ap (take (length m)) (append_assoc (take i m) (b ∷ []) _)
    ∙ ap (λ r. take (length m) (take i m ++ (b ∷ (bs ++ r)))) (back ∙ ap (λ j. drop j m) end)

bytes_laid : (bs : List ℕ) (p : Page) → length p.bytes.now < 2 ^ 64 - 1 → (with_bytes bs p).bytes.now ≡ laid bs p.next p.bytes.now
bytes_laid [] p fits =
    let m = p.bytes.now in
    sym (ap (λ n. take (length m) (take p.next m ++ drop n m)) (add-zero p.next) ∙ ap (take (length m)) (take-append-drop p.next m) ∙ take_all (length m) m (omega arith))
bytes_laid (b ∷ bs) p fits =
    let m = p.bytes.now in
    let i = p.next in
    let q = with_byte b p in
    let long = length-set m i b in
    bytes_laid bs q (omega arith)
    ∙ ⊎_elim
    (λ here. ap (λ j. laid bs j (set m i b)) (omega arith) ∙ laid_more b bs i m here)
    (λ past. ap (laid bs q.next) (set_past m i b past) ∙ laid_past bs q.next m (omega arith) ∙ sym (laid_past (b ∷ bs) i m past))
    (cases_lt i (length m))

-- from the first byte on, what is written stands over what was there, as far as there is room
pub bytes_over : (bs : List ℕ) (m : MutBor (List ℕ)) → length m.now < 2 ^ 64 - 1 → (with_bytes bs (new_page m)).bytes.now ≡ take (length m.now) (over bs m.now)
bytes_over bs m fits = bytes_laid bs (new_page m) fits ∙ ap (λ n. take (length m.now) (bs ++ drop n m.now)) (zero-add (length bs))

pub over_whole : (bs m : List ℕ) → length bs ≤ length m → take (length m) (over bs m) ≡ over bs m
over_whole bs m room =
    let d = length-drop (length bs) m in
    let l = length-append bs (drop (length bs) m) in
    take_all (length m) (over bs m) (omega arith)
