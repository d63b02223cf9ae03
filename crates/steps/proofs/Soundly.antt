-- What a leg that no rule refuses writes down keeps the rules of an entry.
use Rattle.std.proofs.Common.{◌≡◌, ℕ, ◌^◌, ◌<◌, ◌≤◌, Bool, true, false, ◌&&◌, ltb, leb, [], ◌∷◌, Some, None, sym, ap, ◌∙◌, arith, ◌+◌}
use Rattle.std.specs.List.{AllByRecursion as All}
use Rattle.std.specs.Option.{option_map}
use Rattle.std.proofs.lemmas.Bool.{le-leb, lt-ltb, and_from}
use Rattle.meaning.specs.declared.content.Content.{Content}
use Rattle.meaning.specs.declared.content.Content.TheVariants.{Account, Transfer, Reserve, Post, Void}
use Rattle.meaning.specs.declared.opening.Opening.{Opening}
use Rattle.meaning.specs.Given.{Journal, Reserved, accounts, reservations, the_account, the_reservation, due, fate, highest}
use Rattle.meaning.specs.Questions.{with_fate, reservation_asked}
use Rattle.meaning.specs.Rules.{Policy, number_refused, fate_refused, post_refused, refused, part_refused}
use Rattle.meaning.specs.Sound.{top, last, is_number, is_amount, is_until, content_sound, sound}
use Rattle.laws.specs.Steps.{Reads}
use Rattle.laws.proofs.Finds.{find_all, find_key}
use Rattle.laws.proofs.Known.{akey}
use Rattle.laws.proofs.Numbered.{key}
use Rattle.laws.proofs.Passes.{both_none, number_above, Passes, movement_passes, reserve_passes, post_open, void_open, reads_prefix, reads_rules}
use Rattle.image.specs.Image.{entry}

-- the numbers of accounts and reservations are not 0, and what is reserved is at most the top
pub record Marked (J : Journal) : Type 0 where
  pub accounts_are : All (λ (A : Opening). 0 < A.number) (accounts J)
  pub reservations_are : All (λ (R : Reserved). (0 < R.number) × (R.amount ≤ top)) (reservations J)

module _ (policy : Policy) (J : Journal) (T n : ℕ) where
  marked_more : (k : Content) (l : Bool) (t : ℕ) → Marked J → refused policy J T n k ≡ None → Marked (entry n l t k ∷ J)
  marked_more (Account x y z w) l t M e = record { accounts_are = (grind arith, M.accounts_are); reservations_are = M.reservations_are }
  marked_more (Transfer d c z) l t M e = record { accounts_are = M.accounts_are; reservations_are = M.reservations_are }
  marked_more (Reserve d c z u) l t M e =
      let p = reserve_passes policy J T n d c z u e in
      let above = p.above in
      let within = p.within in
      record { accounts_are = M.accounts_are; reservations_are = ((omega arith, omega arith), M.reservations_are) }
  marked_more (Post r z) l t M e = record { accounts_are = M.accounts_are; reservations_are = M.reservations_are }
  marked_more (Void r) l t M e = record { accounts_are = M.accounts_are; reservations_are = M.reservations_are }

pub marked : (policy : Policy) (J : Journal) → Reads policy J → Marked J
marked policy [] h = record { accounts_are = tt; reservations_are = tt }
marked policy (e ∷ J) h = marked_more policy J e.moment e.number e.content e.linked e.moment (marked policy J (reads_prefix policy e J h)) (reads_rules policy e J h)

is_number_lem : (n : ℕ) → 0 < n → n < 2 ^ 32 → is_number n ≡ true
is_number_lem n lo hi = and_from (leb 1 n) (ltb n (2 ^ 32)) (le-leb 1 n lo) (lt-ltb n (2 ^ 32) hi)

is_amount_lem : (z : ℕ) → 0 < z → z ≤ top → is_amount z ≡ true
is_amount_lem z lo hi = and_from (leb 1 z) (leb z top) (le-leb 1 z lo) (le-leb z top hi)

-- a reservation is not due when it is set
pub not_due : (T u : ℕ) → is_until T u ≡ true → due u T ≡ false
not_due T u e = grind arith

module _ (policy : Policy) (J : Journal) (h : Reads policy J) (T n : ℕ) (l : Bool) (small : n < 2 ^ 32) (in_time : T ≤ last) where
  written : (k : Content) → 0 < n → content_sound l T k ≡ true → sound (entry n l T k) ≡ true
  unfolding sound
  written k lo e = and_from (is_number n) (leb T last && content_sound l T k) (is_number_lem n lo small) (and_from (leb T last) (content_sound l T k) (le-leb T last in_time) e)

  numbered : number_refused (highest J) n ≡ None → 0 < n
  numbered e = let above = number_above policy J T n e in omega arith

  account_number : (d : ℕ) (D : Opening) → the_account J d ≡ Some D → 0 < d
  account_number d D e = let w = find_all akey d (λ A. 0 < A.number) (accounts J) D (marked policy J h).accounts_are e in let q = find_key akey d (accounts J) D e in omega arith

  -- a leg that moves z pending or posted between two accounts
  moved_sound : (d c p q z : ℕ) → z ≡ p + q → d < 2 ^ 32 → c < 2 ^ 32 → Passes policy J T n d c p q → (0 < n) × (is_number d ≡ true) × (is_number c ≡ true) × (is_amount z ≡ true)
  moved_sound d c p q z e sd sc m =
      let above = m.above in
      let some = m.some in
      let within = m.within in
      (omega arith, is_number_lem d (account_number d m.debit m.is_debit) sd, is_number_lem c (account_number c m.credit m.is_credit) sc, is_amount_lem z (omega arith) (omega arith))

  pub transfer_sound : (d c z : ℕ) → d < 2 ^ 32 → c < 2 ^ 32 → refused policy J T n (Transfer d c z) ≡ None → sound (entry n l T (Transfer d c z)) ≡ true
  transfer_sound d c z sd sc e =
      let p = moved_sound d c 0 z z (omega arith) sd sc (movement_passes policy J T n d c 0 z e) in
      written (Transfer d c z) p.0 (and_from (is_number d) _ p.1 (and_from (is_number c) _ p.2 p.3))

  pub reserve_sound : (d c z u : ℕ) → d < 2 ^ 32 → c < 2 ^ 32 → is_until T u ≡ true → refused policy J T n (Reserve d c z u) ≡ None → sound (entry n l T (Reserve d c z u)) ≡ true
  reserve_sound d c z u sd sc su e =
      let p = moved_sound d c z 0 z (omega arith) sd sc (reserve_passes policy J T n d c z u e) in
      written (Reserve d c z u) p.0 (and_from (is_number d) _ p.1 (and_from (is_number c) _ p.2 (and_from (is_amount z) _ p.3 su)))

  reservation_number : (r : ℕ) (R : Reserved) → the_reservation J r ≡ Some R → (0 < r) × (R.amount ≤ top)
  reservation_number r R e =
      let w = find_all key r (λ R. (0 < R.number) × (R.amount ≤ top)) (reservations J) R (marked policy J h).reservations_are e in
      let q = find_key key r (reservations J) R e in
      (omega arith, w.1)

  pub post_sound : (r z : ℕ) → r < 2 ^ 32 → refused policy J T n (Post r z) ≡ None → sound (entry n l T (Post r z)) ≡ true
  post_sound r z sr e =
      let w = both_none (number_refused (highest J) n) _ e in
      let p = post_open policy J T z (the_reservation J r) w.1 in
      let m = reservation_number r p.0 p.1 in
      let some : 0 < z = posted_some p.0 p.1 w.1 in
      written (Post r z) (numbered w.0) (and_from (is_number r) _ (is_number_lem r m.0 sr) (is_amount_lem z some (omega arith)))
    where
      posted_some : (R : Reserved) → the_reservation J r ≡ Some R → post_refused z (reservation_asked J T r) ≡ None → 0 < z
      posted_some R is none = let q = sym (ap (λ o. post_refused z (option_map (with_fate J T) o)) is) ∙ none in let v = (both_none (fate_refused (fate J T R)) (part_refused z R.amount) q).1 in grind arith

  pub void_sound : (r : ℕ) → r < 2 ^ 32 → refused policy J T n (Void r) ≡ None → sound (entry n l T (Void r)) ≡ true
  void_sound r sr e =
      let w = both_none (number_refused (highest J) n) _ e in
      let p = void_open policy J T (the_reservation J r) w.1 in
      written (Void r) (numbered w.0) (is_number_lem r (reservation_number r p.0 p.1).0 sr)
