-- One reservation lapses: what the tables hold then.
use Rattle.std.proofs.Common.{◌≡◌, ℕ, zero, suc, ◌+◌, Bool, true, false, cond, ◌&&◌, eqb, ltb, List, [], ◌∷◌, map, Some, None, sym, refl, ap, ◌∙◌, arith}
use Rattle.std.specs.List.{AllByRecursion as All}
use Rattle.std.proofs.ByRecursion.{All-weaker}
use Rattle.std.proofs.lemmas.Bool.{eq-eqb, ne_eqb}
use Rattle.meaning.specs.declared.opening.Opening.{Opening}
use Rattle.meaning.specs.declared.fate.Fate.{Fate}
use Rattle.meaning.specs.declared.fate.Fate.TheVariants.{Live, Lapsed}
use Rattle.meaning.specs.declared.fate.Event.TheVariants.{Lapse}
use Rattle.meaning.specs.Basics.{at, sum_of, in_order}
use Rattle.meaning.specs.Fates.{decided}
use Rattle.meaning.specs.Given.{Journal, Reserved, accounts, reservations, the_reservation, is_live, highest, Side, debits, credits, pick, posted}
use Rattle.ordered.specs.Orders.{due_before, line_before}
use Rattle.ordered.specs.Keyed.{due_of, line_of}
use Rattle.ordered.specs.Rows.{without}
use Rattle.balances.specs.Books.{Books}
use Rattle.balances.specs.Legs.{lapsed}
use Rattle.balances.specs.Lapses.{next_due, lapsed_if}
use Rattle.balances.proofs.Tables.{books}
use Rattle.laws.proofs.Finds.{Distinct, sum_less}
use Rattle.laws.proofs.Numbered.{key}
use Rattle.laws.proofs.Known.{akey}
use Rattle.image.specs.Image.{lapses}
use Rattle.image.proofs.Oldest.{same-oldest}
use Rattle.image.proofs.Transferred.{all_of}
use Rattle.image.proofs.Releasing.{filter-same}
use Rattle.image.proofs.Ending.{pending_by, standing_by, fated, waiting_by, image_by, lapse_at, queue_after}

-- R has lapsed, the others are as they were
abbrev pub lapsing : Reserved → (Reserved → Fate) → Reserved → Fate
lapsing R F Q = decided (cond (eqb R.number Q.number) Lapsed Live) (F Q)

module _ (J : Journal) (dist : Distinct key (reservations J)) (apart : Distinct akey (accounts J)) (F : Reserved → Fate) (R : Reserved) (found : the_reservation J R.number ≡ Some R) (alive : is_live (F R) ≡ true) where
  abbrev part : (Reserved → Fate) → Side → ℕ → Reserved → ℕ
  part G s a Q = at (eqb (pick s Q.debit Q.credit) a) (at (is_live (G Q)) Q.amount)

  gone : is_live (lapsing R F R) ≡ false
  gone = ap (λ b. is_live (decided (cond b Lapsed Live) (F R))) (eq-eqb R.number R.number refl)

  stays : (Q : Reserved) → (Q.number ≡ R.number → ⊥) → F Q ≡ lapsing R F Q
  stays Q ne = sym (ap (λ b. decided (cond b Lapsed Live) (F Q)) (ne_eqb R.number Q.number (λ e. ne (sym e))))

  nothing : (b : Bool) → at b 0 ≡ 0
  nothing true = refl
  nothing false = refl

  pending_falls : (s : Side) (a : ℕ) → pending_by J F s a ≡ pending_by J (lapsing R F) s a + at (eqb (pick s R.debit R.credit) a) R.amount
  pending_falls s a =
      sum_less key R.number (part F s a) (part (lapsing R F) s a) (reservations J) R dist found (λ Q ne. ap (λ f. at (eqb (pick s Q.debit Q.credit) a) (at (is_live f) Q.amount)) (stays Q ne)) (ap (λ b. at (eqb (pick s R.debit R.credit) a) (at b R.amount)) gone ∙ nothing (eqb (pick s R.debit R.credit) a))
      ∙ ap (λ b. pending_by J (lapsing R F) s a + at (eqb (pick s R.debit R.credit) a) (at b R.amount)) alive

  same-posted : (m : ℕ) (b : Bool) → m ≡ m + at b 0
  same-posted m b = let z = nothing b in omega arith

  pub one_lapse : lapsed (due_of R) (image_by J F) ≡ image_by J (lapsing R F)
  one_lapse = lapse_at J J F (lapsing R F) R dist found alive Lapse Lapsed refl refl (λ f. refl) (λ Q. refl) apart 0 (omega arith) (λ s a. (pending_falls s a, same-posted (posted J s a) (eqb (pick s R.debit R.credit) a))) (highest J) refl refl refl

  pub queue_falls : without due_before (due_of R) (image_by J F).queue ≡ (image_by J (lapsing R F)).queue
  queue_falls = queue_after J J F (lapsing R F) R dist found alive Lapse Lapsed refl refl (λ f. refl) (λ Q. refl)

sum_same : {X : Type 0} (f g : X → ℕ) (xs : List X) → All (λ x. f x ≡ g x) xs → sum_of f xs ≡ sum_of g xs
sum_same f g [] h = refl
sum_same f g (x ∷ xs) h = omega (arith, h.0, sum_same f g xs h.1)

same_row : (J : Journal) (F G : Reserved → Fate) → ((s : Side) (a : ℕ) → pending_by J F s a ≡ pending_by J G s a) → (A : Opening) → standing_by J F A ≡ standing_by J G A
same_row J F G h A = λ i. record { account = A; debits_pending = h debits A.number i; debits_posted = posted J debits A.number; credits_pending = h credits A.number i; credits_posted = posted J credits A.number }

-- the same fates give the same image
pub same_image : (J : Journal) (F G : Reserved → Fate) → All (λ Q. F Q ≡ G Q) (reservations J) → image_by J F ≡ image_by J G
same_image J F G h =
    let pend : (s : Side) (a : ℕ) → pending_by J F s a ≡ pending_by J G s a = λ s a. sum_same _ _ (reservations J) (All-weaker (λ Q. F Q ≡ G Q) (λ Q. at (eqb (pick s Q.debit Q.credit) a) (at (is_live (F Q)) Q.amount) ≡ at (eqb (pick s Q.debit Q.credit) a) (at (is_live (G Q)) Q.amount)) (λ Q e. ap (λ f. at (eqb (pick s Q.debit Q.credit) a) (at (is_live f) Q.amount)) e) (reservations J) h) in
    let rows = same-oldest (standing_by J F) (standing_by J G) (accounts J) (all_of _ (same_row J F G pend) (accounts J)) in
    let held = same-oldest (fated F) (fated G) (reservations J) (All-weaker (λ Q. F Q ≡ G Q) (λ Q. fated F Q ≡ fated G Q) (λ Q e i. record { number = Q.number; debit = Q.debit; credit = Q.credit; amount = Q.amount; deadline = Q.until; fate = e i }) (reservations J) h) in
    let queue = ap (λ xs. in_order due_before (map due_of xs)) (filter-same (waiting_by F) (waiting_by G) (reservations J) (All-weaker (λ Q. F Q ≡ G Q) (λ Q. waiting_by F Q ≡ waiting_by G Q) (λ Q e. ap (λ f. is_live f && ltb 0 Q.until) e) (reservations J) h)) in
    λ j. books (rows j) (held j) (highest J) (queue j) (in_order line_before (map line_of (accounts J)))

-- where nothing is due, nothing lapses
pub idle : (n t : ℕ) (k : Books) → next_due t k ≡ None → lapses n t k ≡ k
idle zero t k e = refl
idle (suc n) t k e = ap (λ o. lapses n t (lapsed_if o k)) e ∙ idle n t k e
