-- What the tables refuse of a leg, and the policy after them, is what the rules refuse.
use Rattle.std.proofs.Common.{◌≡◌, ℕ, ◌+◌, Bool, true, false, length, not, eqb, [], ◌∷◌, Some, None, Option, refl, ap, ◌∙◌}
use Rattle.std.specs.Option.{option_map, option_or, option_and_then}
use Rattle.meaning.specs.declared.opening.Opening.{Opening}
use Rattle.meaning.specs.declared.refusal.Refusal.{Refusal}
use Rattle.meaning.specs.declared.reservation.Reservation.{Reservation}
use Rattle.meaning.specs.declared.refusal.Refusal.TheVariants.{SameAccount, LedgersDiffer, TopPassed, DebitNotAdmitted, CreditNotAdmitted}
use Rattle.meaning.specs.Basics.{at, first_of}
use Rattle.meaning.specs.declared.content.Content.TheVariants.{Post, Void}
use Rattle.meaning.specs.Given.{Journal, reservations, the_account, the_reservation, highest}
use Rattle.meaning.specs.declared.standing.Standing.{Standing}
use Rattle.meaning.specs.Questions.{standing, with_fate, account_asked, reservation_asked}
use Rattle.meaning.specs.Rows.{debited, credited}
use Rattle.meaning.specs.Rules.{Policy, number_refused, amount_refused, pair_checks, policy_checks, between_checks, parties_refused, movement_refused, room_refused, part_refused, void_refused, refused}
use Rattle.meaning.specs.Sound.{fits}
use Rattle.balances.specs.Books.{Books, row_asked, held_asked}
use Rattle.balances.specs.Judged.{number_judged, pair_judged, movement_judged, room_judged, void_judged, post_judged}
use Rattle.laws.specs.Steps.{Reads}
use Rattle.image.specs.Image.{image_of}
use Rattle.image.proofs.Asked.{asks}
use Rattle.image.proofs.Oldest.{length-oldest}

-- the policy is asked only about accounts that are there
abbrev pub asked_if : Policy → Option Standing → Option Standing → Option Refusal
asked_if policy None C = None
asked_if policy (Some D) None = None
asked_if policy (Some D) (Some C) = first_of (policy_checks policy D C)

-- four tests, and then two more that count only if the third and the fourth passed
in_turn_lem : (a b f g x x' y y' : Bool) → (f ≡ true → x' ≡ x) → (g ≡ true → y' ≡ y)
    → option_or (first_of ((a, SameAccount) ∷ (b, LedgersDiffer) ∷ (not f, TopPassed) ∷ (not g, TopPassed) ∷ [])) (first_of ((not x', DebitNotAdmitted) ∷ (not y', CreditNotAdmitted) ∷ []))
    ≡ first_of ((a, SameAccount) ∷ (b, LedgersDiffer) ∷ (not f, TopPassed) ∷ (not g, TopPassed) ∷ (not x, DebitNotAdmitted) ∷ (not y, CreditNotAdmitted) ∷ [])
in_turn_lem true b f g x x' y y' p q = refl
in_turn_lem false true f g x x' y y' p q = refl
in_turn_lem false false false g x x' y y' p q = refl
in_turn_lem false false true false x x' y y' p q = refl
in_turn_lem false false true true x x' y y' p q =
    ap (λ v. first_of ((not v, DebitNotAdmitted) ∷ (not y', CreditNotAdmitted) ∷ [])) (p refl)
    ∙ ap (λ v. first_of ((not x, DebitNotAdmitted) ∷ (not v, CreditNotAdmitted) ∷ [])) (q refl)

module _ (policy : Policy) (J : Journal) (T p q : ℕ) where
  between : (D C : Opening) → option_or (pair_judged (p + q) (standing J T D) (standing J T C)) (first_of (policy_checks policy (debited p q (standing J T D)) (credited p q (standing J T C)))) ≡ first_of (between_checks policy p q (standing J T D) (standing J T C))
  between D C =
      let d = standing J T D in
      let c = standing J T C in
      let f = fits d.debits_pending d.debits_posted (p + q) in
      let g = fits c.credits_pending c.credits_posted (p + q) in
      let x = policy D.class D.limit (d.debits_pending + p) (d.debits_posted + q) d.credits_pending d.credits_posted in
      let y = policy C.class C.limit c.debits_pending c.debits_posted (c.credits_pending + p) (c.credits_posted + q) in
      let a = eqb D.number C.number in
      let b = not (eqb D.ledger C.ledger) in
      in_turn_lem a b f g x _ y _
      (λ e. ap (λ v. policy D.class D.limit (d.debits_pending + at v p) (d.debits_posted + at v q) d.credits_pending d.credits_posted) e)
      (λ e. ap (λ v. policy C.class C.limit c.debits_pending c.debits_posted (c.credits_pending + at v p) (c.credits_posted + at v q)) e)

  pub parties_lem : (D C : Option Opening)
      → option_or (parties_refused (pair_checks (p + q)) (option_map (standing J T) D) (option_map (standing J T) C)) (asked_if policy (option_map (debited p q) (option_map (standing J T) D)) (option_map (credited p q) (option_map (standing J T) C)))
      ≡ parties_refused (between_checks policy p q) (option_map (standing J T) D) (option_map (standing J T) C)
  parties_lem None C = refl
  parties_lem (Some D) None = refl
  parties_lem (Some D) (Some C) = between D C

pub option_or-assoc : {X : Type 0} (x y z : Option X) → option_or (option_or x y) z ≡ option_or x (option_or y z)
option_or-assoc None y z = refl
option_or-assoc (Some x) y z = refl

pub option_or-none : {X : Type 0} (x : Option X) → option_or x None ≡ x
option_or-none None = refl
option_or-none (Some x) = refl

-- tables k that show J at T
module _ (policy : Policy) (J : Journal) (T : ℕ) (h : Reads policy J) (k : Books) (is : k ≡ image_of J T) where
  account_asked_lem : (a : ℕ) → row_asked k a ≡ option_map (standing J T) (the_account J a)
  account_asked_lem a = ap (λ b. row_asked b a) is ∙ (asks policy J h T).account a

  reservation_asked_lem : (r : ℕ) → held_asked k r ≡ option_map (with_fate J T) (the_reservation J r)
  reservation_asked_lem r = ap (λ b. held_asked b r) is ∙ (asks policy J h T).reservation r

  pub number_judged_lem : (n : ℕ) → number_judged n k ≡ number_refused (highest J) n
  number_judged_lem n = ap (number_judged n) is

  pub room_judged_lem : room_judged k ≡ room_refused (length (reservations J))
  room_judged_lem = ap room_judged is ∙ ap room_refused (length-oldest (with_fate J T) (reservations J))

  pub movement_judged_lem : (n d c p q z : ℕ) → z ≡ p + q → option_or (movement_judged n d c z k) (asked_if policy (option_map (debited p q) (row_asked k d)) (option_map (credited p q) (row_asked k c))) ≡ movement_refused policy J T n d c p q
  movement_judged_lem n d c p q z e =
      let ask : Option Standing → Option Standing → Option Refusal = λ D C. asked_if policy (option_map (debited p q) D) (option_map (credited p q) C) in
      ap (λ m. option_or (movement_judged n d c m k) (ask (row_asked k d) (row_asked k c))) e
      ∙ (option_or-assoc (number_judged n k) (option_or (amount_refused (p + q)) (parties_refused (pair_checks (p + q)) (row_asked k d) (row_asked k c))) (ask (row_asked k d) (row_asked k c))
      ∙ (ap (option_or (number_judged n k)) (option_or-assoc (amount_refused (p + q)) (parties_refused (pair_checks (p + q)) (row_asked k d) (row_asked k c)) (ask (row_asked k d) (row_asked k c)))
      ∙ (ap (λ D. option_or (number_judged n k) (option_or (amount_refused (p + q)) (option_or (parties_refused (pair_checks (p + q)) D (row_asked k c)) (ask D (row_asked k c))))) (account_asked_lem d)
      ∙ (ap (λ C. option_or (number_judged n k) (option_or (amount_refused (p + q)) (option_or (parties_refused (pair_checks (p + q)) (option_map (standing J T) (the_account J d)) C) (ask (option_map (standing J T) (the_account J d)) C)))) (account_asked_lem c)
      ∙ (ap (λ r. option_or (number_judged n k) (option_or (amount_refused (p + q)) r)) (parties_lem policy J T p q (the_account J d) (the_account J c))
      ∙ ap (λ r. option_or r (option_or (amount_refused (p + q)) (parties_refused (between_checks policy p q) (account_asked J T d) (account_asked J T c)))) (number_judged_lem n))))))

  pub void_judged_lem : (n r : ℕ) → void_judged n r k ≡ refused policy J T n (Void r)
  void_judged_lem n r =
      ap (λ x. option_or x (void_refused (held_asked k r))) (number_judged_lem n)
      ∙ ap (λ o. option_or (number_refused (highest J) n) (void_refused o)) (reservation_asked_lem r)

  pub post_judged_lem : (n r z : ℕ) → post_judged n r z k ≡ refused policy J T n (Post r z)
  post_judged_lem n r z =
      let part : Option Reservation → Option Refusal = option_and_then (λ (R : Reservation). part_refused z R.amount) in
      ap (λ x. option_or x (part (held_asked k r))) (void_judged_lem n r)
      ∙ (option_or-assoc (number_refused (highest J) n) (void_refused (reservation_asked J T r)) (part (held_asked k r))
      ∙ ap (λ o. option_or (number_refused (highest J) n) (option_or (void_refused (reservation_asked J T r)) (part o))) (reservation_asked_lem r))
