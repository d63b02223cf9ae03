-- One reservation more keeps the image.
use Rattle.std.proofs.Common.{◌≡◌, ℕ, ◌+◌, ◌<◌, ◌≤◌, max, Bool, true, false, cond, not, ◌&&◌, eqb, ltb, List, [], ◌∷◌, ◌++◌, map, length, None, sym, refl, ap, ◌∙◌, subst, arith}
use Rattle.std.proofs.lemmas.List.{length-map}
use Rattle.std.proofs.lemmas.Bool.{lt-ltb, le-ltb, eqb-true, eqb-false, cond-true}
use Rattle.std.specs.List.{filter}
use Rattle.meaning.specs.declared.content.Content.TheVariants.{Reserve}
use Rattle.meaning.specs.declared.opening.Opening.{Opening}
use Rattle.meaning.specs.declared.fate.Fate.TheVariants.{Live, Lapsed}
use Rattle.meaning.specs.Basics.{at, put, in_order}
use Rattle.meaning.specs.Sound.{top}
use Rattle.meaning.specs.Fates.{decided}
use Rattle.meaning.specs.Given.{Journal, Reserved, accounts, reservations, highest, ended, fate, due, is_live, debits, credits, pending, posted}
use Rattle.meaning.specs.Rules.{Policy, movement_refused, refused}
use Rattle.meaning.specs.Questions.{standing, with_fate}
use Rattle.meaning.specs.Rows.{debited, credited}
use Rattle.ordered.specs.Orders.{due_before}
use Rattle.ordered.specs.Keyed.{due_of}
use Rattle.balances.specs.Books.{no_row}
use Rattle.balances.specs.Legs.{reserved, numbered as with_number}
use Rattle.balances.proofs.Tables.{books}
use Rattle.laws.specs.Steps.{Reads}
use Rattle.laws.proofs.Finds.{find_key}
use Rattle.laws.proofs.Passes.{both_none, Passes, reserve_passes}
use Rattle.laws.proofs.Numbered.{numbered}
use Rattle.laws.proofs.Known.{akey, known}
use Rattle.laws.proofs.Totals.{step}
use Rattle.image.specs.Image.{oldest, image_of, entry, waiting, held_as}
use Rattle.image.proofs.Oldest.{same-oldest, changed_if, length-oldest}
use Rattle.image.proofs.Opened.{length-in_order}
use Rattle.image.proofs.Asked.{skey}
use Rattle.image.proofs.Moving.{two_changes, moved_row}
use Rattle.image.proofs.Transferred.{all_of}

pub length-filter-le : {X : Type 0} (p : X → Bool) (xs : List X) → length (filter p xs) ≤ length xs
length-filter-le p [] = omega arith
length-filter-le p (x ∷ xs) = go (p x) (length-filter-le p xs)
  where
    go : (b : Bool) → length (filter p xs) ≤ length xs → length (cond b (x ∷ filter p xs) (filter p xs)) ≤ length (x ∷ xs)
    go true h = omega arith
    go false h = omega arith

-- the queue is no longer than the reservations
queue_length : (J : Journal) (T : ℕ) → length (image_of J T).queue ≤ length (reservations J)
queue_length J T =
    let ws = filter (waiting J T) (reservations J) in
    omega (arith, length-in_order due_before (map due_of ws), length-map ws due_of, length-filter-le (waiting J T) (reservations J))

module _ (policy : Policy) (J : Journal) (h : Reads policy J) (T n : ℕ) (l : Bool) (d c z u : ℕ) (e : refused policy J T n (Reserve d c z u) ≡ None) (fresh : due u T ≡ false) where
  abbrev J' : Journal
  J' = entry n l T (Reserve d c z u) ∷ J

  abbrev R : Reserved
  R = record { number = n; debit = d; credit = c; amount = z; until = u }

  passes : Passes policy J T n d c z 0
  passes = reserve_passes policy J T n d c z u e

  above : highest J < n
  above = passes.above

  room : length (reservations J) < 256
  room = let r = (both_none (movement_refused policy J T n d c z 0) _ e).1 in grind arith

  -- the new one is live
  is_live_lem : fate J' T R ≡ Live
  is_live_lem =
      let o : ended J n ≡ Live = (numbered policy J h).unclosed n above in
      ap (λ f. decided f (cond (due u T) Lapsed Live)) o ∙ ap (λ b. cond b Lapsed Live) fresh

  row_after : (A : Opening) → changed_if skey c no_row (credited z 0) (changed_if skey d no_row (debited z 0) (standing J T A)) ≡ standing J' T A
  row_after A =
      let m = passes in
      let kd : m.debit.number ≡ d = find_key akey d (accounts J) m.debit m.is_debit in
      let kc : m.credit.number ≡ c = find_key akey c (accounts J) m.credit m.is_credit in
      let st = step policy J T n l T (Reserve d c z u) (numbered policy J h) e in
      let sd = st debits A.number in
      let sc = st credits A.number in
      let ne : d ≡ c → ⊥ = λ x. m.moves.apart (kd ∙ (x ∙ sym kc)) in
      let fd : A.number ≡ d → pending J T debits A.number + posted J debits A.number + z + 0 ≤ top = λ x. subst (λ a. pending J T debits a + posted J debits a + z + 0 ≤ top) (kd ∙ sym x) m.moves.debit_fits in
      let fc : A.number ≡ c → pending J T credits A.number + posted J credits A.number + z + 0 ≤ top = λ x. subst (λ a. pending J T credits a + posted J credits a + z + 0 ≤ top) (kc ∙ sym x) m.moves.credit_fits in
      moved_row A (pending J T debits A.number) (posted J debits A.number) (pending J T credits A.number) (posted J credits A.number) d c z 0 ne fd fc
      ∙ (λ i. record { account = A; debits_pending = sym (sd.0 ∙ now_live (pending J T debits A.number) (at (eqb d A.number) z)) i; debits_posted = (zero (posted J debits A.number) (eqb d A.number) ∙ sym sd.1) i; credits_pending = sym (sc.0 ∙ now_live (pending J T credits A.number) (at (eqb c A.number) z)) i; credits_posted = (zero (posted J credits A.number) (eqb c A.number) ∙ sym sc.1) i })
    where
      zero : (m : ℕ) (b : Bool) → m + at b 0 ≡ m
      zero m true = omega arith
      zero m false = omega arith

      now_live : (m x : ℕ) → m + at (not (due u T)) x ≡ m + x
      now_live m x = ap (λ b. m + at (not b) x) fresh

  -- where it waits in the queue
  waits_there : (b : Bool) → eqb u 0 ≡ b → cond b (image_of J T).queue (cond (ltb (length (image_of J T).queue) 256) (put due_before (due_of R) (image_of J T).queue) (image_of J T).queue) ≡ (image_of J' T).queue
  waits_there true q =
      let no : ltb 0 u ≡ false = le-ltb 0 u (omega (arith, eqb-true u 0 q)) in
      sym (ap (λ (b : Bool). in_order due_before (map due_of (cond b (R ∷ filter (waiting J T) (reservations J)) (filter (waiting J T) (reservations J))))) (ap (λ f. is_live f && ltb 0 u) is_live_lem ∙ no))
  waits_there false q =
      let nz = eqb-false u 0 q in
      let yes : ltb 0 u ≡ true = lt-ltb 0 u (grind arith) in
      let short : ltb (length (image_of J T).queue) 256 ≡ true = lt-ltb (length (image_of J T).queue) 256 (omega (arith, queue_length J T, room)) in
      cond-true (ltb (length (image_of J T).queue) 256) _ _ short
      ∙ sym (ap (λ (b : Bool). in_order due_before (map due_of (cond b (R ∷ filter (waiting J T) (reservations J)) (filter (waiting J T) (reservations J))))) (ap (λ f. is_live f && ltb 0 u) is_live_lem ∙ yes))

  pub by_reserve : reserved (held_as n d c z u) (image_of J T) ≡ image_of J' T
  by_reserve =
      let k = image_of J T in
      let top-number : n ≡ max (highest J) n = omega (arith, above) in
      let rows = two_changes (standing J T) (λ A. refl) (accounts J) (known policy J h).apart d c (debited z 0) (credited z 0) (λ s. refl) ∙ same-oldest _ (standing J' T) (accounts J) (all_of _ row_after (accounts J)) in
      let free : ltb (length k.held) 256 ≡ true = lt-ltb (length k.held) 256 (omega (arith, length-oldest (with_fate J T) (reservations J), room)) in
      let held : oldest (with_fate J T) (reservations J) ++ (held_as n d c z u ∷ []) ≡ oldest (with_fate J' T) (reservations J') = ap (λ f. oldest (with_fate J T) (reservations J) ++ (record { number = n; debit = d; credit = c; amount = z; deadline = u; fate = f } ∷ [])) (sym is_live_lem) in
      ap (with_number n) (cond-true (ltb (length k.held) 256) _ _ free) ∙ (λ i. books (rows i) (held i) (top-number i) (waits_there (eqb u 0) refl i) k.lines)
