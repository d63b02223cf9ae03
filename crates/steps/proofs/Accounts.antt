-- What the tables say of an account that is to be opened is what the journal says.
use Rattle.std.proofs.Common.{◌≡◌, ℕ, ◌^◌, ◌≤◌, Bool, true, false, not, ◌||◌, eqb, ltb, leb, List, [], ◌∷◌, length, Some, None, Option, Ok, sym, refl, ap, ◌∙◌, arith}
use Rattle.std.specs.Option.{option_map, ok_or, is_some, option_or, IfSome}
use Rattle.std.proofs.lemmas.Bool.{le-leb, le-ltb, leb-true, lt-ltb, and_from}
use Rattle.meaning.specs.declared.account.Account.{Account}
use Rattle.meaning.specs.declared.label.Label.{Label}
use Rattle.meaning.specs.declared.limit.Limit.{Limit as Bound}
use Rattle.meaning.specs.declared.opening.Opening.{Opening}
use Rattle.meaning.specs.declared.refusal.Refusal.{Refusal}
use Rattle.meaning.specs.declared.refusal.Refusal.TheVariants.{AccountNumber, Ledger, Limit, LabelMalformed, AccountsFull, JournalFull, AccountNotAdmitted}
use Rattle.meaning.specs.Basics.{first_of}
use Rattle.meaning.specs.Given.{Journal, accounts, the_account, debits, credits, pending, posted, Side}
use Rattle.meaning.specs.Labels.{is_label}
use Rattle.meaning.specs.Made.{only, label_of}
use Rattle.meaning.specs.Questions.{standing}
use Rattle.meaning.specs.Rows.{standing_of}
use Rattle.meaning.specs.Rules.{Policy, place_checks, zeros_checks, opening_refused, opening_writes}
use Rattle.meaning.specs.Sound.{top, last, is_number, sound}
use Rattle.balances.specs.Books.{Books, row_asked}
use Rattle.laws.specs.Steps.{Reads}
use Rattle.laws.proofs.Known.{known, through_none}
use Rattle.image.specs.Image.{image_of}
use Rattle.image.proofs.Asked.{asks}
use Rattle.image.proofs.Oldest.{length-oldest}
use Rattle.steps.specs.Openings.{at_zero, Narrowed}

module _ (policy : Policy) (J : Journal) (T : ℕ) (h : Reads policy J) (k : Books) (is : k ≡ image_of J T) where
  asked : (n : ℕ) → row_asked k n ≡ option_map (standing J T) (the_account J n)
  asked n = ap (λ b. row_asked b n) is ∙ (asks policy J h T).account n

  pub taken : (n : ℕ) (a : Option Account) → option_map standing_of a ≡ row_asked k n → is_some (the_account J n) ≡ is_some a
  taken n a e = go a (the_account J n) (e ∙ asked n)
    where
      go : (a : Option Account) (o : Option Opening) → option_map standing_of a ≡ option_map (standing J T) o → is_some o ≡ is_some a
      go None None q = refl
      go None (Some A) q = absurd (let z : ◌≡◌ {A = ℕ} 0 1 = cc in omega arith)
      go (Some a) None q = absurd (let z : ◌≡◌ {A = ℕ} 0 1 = cc in omega arith)
      go (Some a) (Some A) q = refl

  pub opened_count : length k.rows ≡ length (accounts J)
  opened_count = ap (λ (b : Books). length b.rows) is ∙ length-oldest (standing J T) (accounts J)

-- a number and a ledger are tested before the rest
two_first : {X : Type 0} (a b : Bool) (x y : X) (rest : List (Bool × X)) → first_of ((a, x) ∷ ((b, y) ∷ rest)) ≡ option_or (first_of ((a, x) ∷ ((b, y) ∷ []))) (first_of rest)
two_first true b x y rest = refl
two_first false true x y rest = refl
two_first false false x y rest = refl

module _ (policy : Policy) (J : Journal) (full : Bool) (A : Opening) where
  abbrev rest : List (Bool × Refusal)
  rest = (ltb top A.limit, Limit) ∷ (not (is_label A.label), LabelMalformed) ∷ (leb 64 (length (accounts J)), AccountsFull) ∷ (full, JournalFull) ∷ (not (policy A.class A.limit 0 0 0 0), AccountNotAdmitted) ∷ []

  pub place_first : (o : Option Refusal) → o ≡ first_of (place_checks J A.number A.ledger) → opening_refused policy J full A ≡ option_or o (first_of rest)
  place_first o e = two_first (eqb A.number 0 || is_some (the_account J A.number)) (eqb A.ledger 0) AccountNumber Ledger rest ∙ ap (λ x. option_or x (first_of rest)) (sym e)

  -- where place and ledger pass, the first of the other tests that fails
  module _ (placed : None ≡ first_of (place_checks J A.number A.ledger)) where
    module _ (l : ltb top A.limit ≡ false) where
      module _ (b : is_label A.label ≡ true) where
        pub count_stops : leb 64 (length (accounts J)) ≡ true → opening_refused policy J full A ≡ Some AccountsFull
        count_stops n = place_first None placed ∙ rw (l, b, n)

        module _ (n : leb 64 (length (accounts J)) ≡ false) where
          pub spare_stops : full ≡ true → opening_refused policy J full A ≡ Some JournalFull
          spare_stops f = place_first None placed ∙ rw (l, b, n, f)

          pub zeros_last : full ≡ false → opening_refused policy J full A ≡ first_of (zeros_checks policy A.class A.limit)
          zeros_last f = place_first None placed ∙ rw (l, b, n, f)

-- a label is made of a number that is one
pub label_made : (n : ℕ) (b : Label) (o : Option Label) → o ≡ label_of n → Ok b ≡ ok_or o LabelMalformed → (is_label n ≡ true) × (b.code ≡ n)
label_made n b o e made = go (is_label n) (λ ok. record { code = n; ok = ok }) (λ ok. refl) (made ∙ ap (λ (x : Option Label). ok_or x LabelMalformed) e)
  where
    go : (t : Bool) (f : t ≡ true → Label) → ((p : t ≡ true) → (f p).code ≡ n) → Ok b ≡ ok_or (only t f) LabelMalformed → (t ≡ true) × (b.code ≡ n)
    go true f c q = let w : b ≡ f refl = cc in (refl, ap (λ (x : Label). x.code) w ∙ c refl)
    go false f c q = absurd (let z : ◌≡◌ {A = ℕ} 0 1 = cc in omega arith)

-- and a limit of a number within the top
pub limit_made : (m : ℕ) (l : Bound) (o : Option Bound) → is_some o ≡ leb m top → IfSome o (λ (x : Bound). x.litres ≡ m) → Ok l ≡ ok_or o Limit → (ltb top m ≡ false) × (l.litres ≡ m)
limit_made m l None is has made = absurd (let z : ◌≡◌ {A = ℕ} 0 1 = cc in omega arith)
limit_made m l (Some x) is has made = (le-ltb top m (leb-true m top (sym is)), let w : l ≡ x = cc in ap (λ (b : Bound). b.litres) w ∙ has)

-- nothing goes through an account before it is opened
pub stands_at_zero : (policy : Policy) (J : Journal) (T : ℕ) → Reads policy J → (A : Opening) → the_account J A.number ≡ None → at_zero A ≡ standing J T A
stands_at_zero policy J T h A free =
    let K = known policy J h in
    let P : (s : Side) → pending J T s A.number ≡ 0 = λ s. through_none (accounts J) _ _ _ A.number free s _ K.of_reservations in
    let Q : (s : Side) → posted J s A.number ≡ 0 = λ s. through_none (accounts J) _ _ _ A.number free s _ K.of_movements in
    sym (λ i. record { account = A; debits_pending = P debits i; debits_posted = Q debits i; credits_pending = P credits i; credits_posted = Q credits i })

-- what a taken opening writes keeps the rules of an entry
pub opening_sound : (policy : Policy) (J : Journal) (T : ℕ) (full : Bool) (A : Opening) → Narrowed A → T ≤ last → opening_refused policy J full A ≡ None → sound (opening_writes T A) ≡ true
unfolding sound
opening_sound policy J T full A w le e =
    and_from (is_number A.number) _ (and_from (leb 1 A.number) _ (le-leb 1 A.number (grind arith)) (lt-ltb A.number (2 ^ 32) w.number))
    (and_from (leb T last) _ (le-leb T last le)
    (and_from (leb 1 A.ledger) _ (le-leb 1 A.ledger (grind arith))
    (and_from (ltb A.ledger (2 ^ 16)) _ (lt-ltb A.ledger (2 ^ 16) w.ledger)
    (and_from (ltb A.class (2 ^ 8)) _ (lt-ltb A.class (2 ^ 8) w.class)
    (and_from (leb A.limit top) _ (le-leb A.limit top (grind arith)) (grind arith))))))
