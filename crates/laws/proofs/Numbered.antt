-- The numbers of a journal that reads: reservations differ, and nothing above the highest number is closed.
use Rattle.std.proofs.Common.{◌≡◌, ℕ, ◌<◌, ◌≤◌, max, Bool, List, [], ◌∷◌, None, refl, arith}
use Rattle.std.specs.List.{AllByRecursion as All}
use Rattle.std.proofs.ByRecursion.{All-weaker}
use Rattle.meaning.specs.declared.content.Content.{Content}
use Rattle.meaning.specs.declared.content.Content.TheVariants.{Account, Transfer, Reserve, Post, Void}
use Rattle.meaning.specs.declared.record.Record.{Record}
use Rattle.meaning.specs.declared.fate.Fate.TheVariants.{Live}
use Rattle.meaning.specs.Given.{Journal, Reserved, reservations, the_reservation, ended, highest}
use Rattle.meaning.specs.Rules.{Policy, number_refused, refused}
use Rattle.laws.specs.Steps.{Reads}
use Rattle.laws.proofs.Finds.{Distinct, find_key, find_all}
use Rattle.laws.proofs.Passes.{both_none, reserve_passes, post_open, void_open, reads_prefix, reads_rules}

abbrev pub key : Reserved → ℕ
key R = R.number

abbrev pub entry : ℕ → Bool → ℕ → Content → Record
entry n l t k = record { number = n; linked = l; moment = t; content = k }

pub record Numbered (J : Journal) : Type 0 where
  pub below : All (λ R. R.number ≤ highest J) (reservations J)
  pub distinct : Distinct key (reservations J)
  pub unclosed : (r : ℕ) → highest J < r → ended J r ≡ Live

module _ (policy : Policy) (J : Journal) (n : ℕ) (l : Bool) (t : ℕ) where
  higher : (h : ℕ) → highest J ≤ h → (xs : List Reserved) → All (λ R. R.number ≤ highest J) xs → All (λ R. R.number ≤ h) xs
  higher h le xs a = All-weaker (λ R. R.number ≤ highest J) (λ R. R.number ≤ h) (λ R w. omega arith) xs a

  numbered_more : (k : Content) → Numbered J → refused policy J t n k ≡ None → Numbered (entry n l t k ∷ J)
  numbered_more (Account x y z w) S e = record { below = S.below; distinct = S.distinct; unclosed = S.unclosed }
  numbered_more (Transfer d c z) S e = record { below = higher (max (highest J) n) (omega arith) _ S.below; distinct = S.distinct; unclosed = λ r h. S.unclosed r (omega arith) }
  numbered_more (Reserve d c z u) S e =
      let lt : highest J < n = (reserve_passes policy J t n d c z u e).above in
      record {
        below = (omega arith, higher (max (highest J) n) (omega arith) _ S.below);
        distinct = (All-weaker (λ R. R.number ≤ highest J) (λ R. R.number ≡ n → ⊥) (λ R w v. omega arith) _ S.below, S.distinct);
        unclosed = λ r h. S.unclosed r (omega arith);
      }
  numbered_more (Post q z) S e =
      let p = post_open policy J t z (the_reservation J q) (both_none (number_refused (highest J) n) _ e).1 in
      let b : p.0.number ≤ highest J = find_all key q (λ R. R.number ≤ highest J) _ p.0 S.below p.1 in
      let w : p.0.number ≡ q = find_key key q _ p.0 p.1 in
      record { below = higher (max (highest J) n) (omega arith) _ S.below; distinct = S.distinct; unclosed = λ r h. let u : ended J r ≡ Live = S.unclosed r (omega arith) in grind arith }
  numbered_more (Void q) S e =
      let p = void_open policy J t (the_reservation J q) (both_none (number_refused (highest J) n) _ e).1 in
      let b : p.0.number ≤ highest J = find_all key q (λ R. R.number ≤ highest J) _ p.0 S.below p.1 in
      let w : p.0.number ≡ q = find_key key q _ p.0 p.1 in
      record { below = higher (max (highest J) n) (omega arith) _ S.below; distinct = S.distinct; unclosed = λ r h. let u : ended J r ≡ Live = S.unclosed r (omega arith) in grind arith }

pub numbered : (policy : Policy) (J : Journal) → Reads policy J → Numbered J
numbered policy [] h = record { below = tt; distinct = tt; unclosed = λ r w. refl }
numbered policy (e ∷ J) h =
    numbered_more policy J e.number e.linked e.moment e.content (numbered policy J (reads_prefix policy e J h)) (reads_rules policy e J h)
