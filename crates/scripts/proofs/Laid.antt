-- Parts that are laid one behind the other.
use Rattle.std.proofs.Common.{◌≡◌, ℕ, ◌+◌, ◌<◌, ◌≤◌, List, [], ◌++◌, Bor, length, take, drop, get_or, arith, ap, ◌∙◌, sym}
use Rattle.std.proofs.lemmas.List.{take_more, append-nil, append_assoc, length-append, length-take-le, length-drop, drop-drop}
use Rattle.std.proofs.lemmas.Grind.{flat_map-append}
use lib.Seq.{take-append_seam, drop-append-add}
use Rattle.scripts.specs.Pages.{joined_parts, laid}

-- one part more
pub joined_more : (parts : List (Bor (List ℕ))) (i : ℕ) → i < length parts → joined_parts (take (i + 1) parts) ≡ joined_parts (take i parts) ++ (get_or parts i (record { ref_ptr = (0, 0); now = [] })).now
joined_more parts i inside =
    ap joined_parts (take_more parts i _ inside) ∙ flat_map-append (λ (p : Bor (List ℕ)). p.now) (take i parts) _ ∙ ap (λ xs. joined_parts (take i parts) ++ xs) (append-nil _)

module _ (n : ℕ) (a bs : List ℕ) (fits : n + length a ≤ length bs) where
  abbrev front_part : List ℕ
  front_part = take n bs ++ a

  abbrev behind_it : List ℕ
  behind_it = drop (n + length a) bs

  in_two : laid n a bs ≡ front_part ++ behind_it
  in_two = sym (append_assoc (take n bs) a behind_it)

  front_long : n + length a ≡ length front_part
  front_long = sym (length-append (take n bs) a ∙ ap (λ k. k + length a) (length-take-le n bs (omega (arith, fits))))

  pub length_laid : length (laid n a bs) ≡ length bs
  length_laid = ap length in_two ∙ length-append front_part behind_it ∙ omega (arith, fits, front_long, length-drop (n + length a) bs)

  front_kept : take (n + length a) (laid n a bs) ≡ front_part
  front_kept = ap (take (n + length a)) in_two ∙ ap (λ k. take k (front_part ++ behind_it)) front_long ∙ take-append_seam front_part behind_it

  rest_kept : (k : ℕ) → drop (n + length a + k) (laid n a bs) ≡ drop (n + length a + k) bs
  rest_kept k =
      ap (drop (n + length a + k)) in_two ∙ ap (λ m. drop (m + k) (front_part ++ behind_it)) front_long ∙ drop-append-add front_part behind_it k ∙ drop-drop _ _ bs

  pub laid_more : (b : List ℕ) → laid (n + length a) b (laid n a bs) ≡ laid n (a ++ b) bs
  laid_more b =
      let behind_both : drop (n + length a + length b) (laid n a bs) ≡ drop (n + length (a ++ b)) bs = rest_kept (length b) ∙ ap (λ k. drop k bs) (omega (arith, length-append a b)) in
      ap (λ xs. xs ++ (b ++ drop (n + length a + length b) (laid n a bs))) front_kept
      ∙ ap (λ xs. front_part ++ (b ++ xs)) behind_both
      ∙ append_assoc (take n bs) a _
      ∙ ap (λ xs. take n bs ++ xs) (sym (append_assoc a b _))
