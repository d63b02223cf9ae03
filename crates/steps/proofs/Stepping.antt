-- A leg's answer and its effect on the tables, put together.
use Rattle.std.proofs.Common.{◌≡◌, ℕ, ◌<◌, ◌≤◌, Bool, true, cond, [], ◌∷◌, is_ok, Some, None, Ok, Err, Result, sym, ap, ◌∙◌}
use Rattle.std.proofs.lemmas.Bool.{lt-leb, true≢false, false≢true}
use Rattle.std.specs.Result.{result_err}
use Rattle.meaning.specs.declared.content.Content.{Content}
use Rattle.meaning.specs.declared.refusal.Refusal.{Refusal}
use Rattle.meaning.specs.declared.refusal.Refusal.TheVariants.{ChainTooLong}
use Rattle.meaning.specs.declared.reservation.Reservation.{Reservation}
use Rattle.meaning.specs.declared.fate.Fate.TheVariants.{Live}
use Rattle.meaning.specs.Basics.{first_of}
use Rattle.meaning.specs.Given.{Journal}
use Rattle.meaning.specs.Rules.{Policy, refused}
use Rattle.meaning.specs.Sound.{last, sound}
use Rattle.balances.specs.declared.balances.Balances.{Balances}
use Rattle.balances.specs.Books.{Books, books_of}
use Rattle.balances.specs.Judged.{full_judged}
use Rattle.balances.specs.Undone.{noted_of, legs_of}
use Rattle.image.specs.Image.{image_of, entry, held_as}
use Rattle.steps.specs.Shown.{Stepped}

-- fewer than 16 legs leave room for one more
pub room_for_leg : (b : Balances) → legs_of b < 16 → full_judged (noted_of b) ≡ None
room_for_leg b lt = ap (λ t. first_of ((t, ChainTooLong) ∷ [])) (lt-leb 16 (legs_of b) lt)

pub held_live : (R : Reservation) → R.fate ≡ Live → R ≡ held_as R.number R.debit R.credit R.amount R.deadline
held_live R e = λ i. record { number = R.number; debit = R.debit; credit = R.credit; amount = R.amount; deadline = R.deadline; fate = e i }

module _ (policy : Policy) (J : Journal) (T n : ℕ) (content : Content) where
  -- a leg that a rule refuses
  pub stopped : (r : Result (Unit {0}) Refusal) (x : Refusal) (b : Balances) → r ≡ Err x → refused policy J T n content ≡ Some x → books_of b ≡ image_of J T → Stepped policy J T n content r b
  stopped r x b e h shown = record { answer = ap result_err e ∙ sym h; tables = λ l. shown ∙ sym (ap (λ (y : Result (Unit {0}) Refusal). cond (is_ok y) (image_of (entry n l T content ∷ J) T) (image_of J T)) e); sound = λ ok. absurd (true≢false (sym ok ∙ ap (λ (y : Result (Unit {0}) Refusal). is_ok y) e)) }

  -- a leg that the tables take as the rules say
  pub stepped : (r : Result (Unit {0}) Refusal) (k : Books) (apply : Books → Books) (b : Balances) → result_err r ≡ refused policy J T n content → books_of b ≡ cond (is_ok r) (apply k) k → k ≡ image_of J T
      → (refused policy J T n content ≡ None → (l : Bool) → apply (image_of J T) ≡ image_of (entry n l T content ∷ J) T)
      → (refused policy J T n content ≡ None → T ≤ last → (l : Bool) → sound (entry n l T content) ≡ true) → Stepped policy J T n content r b
  stepped (Ok x) k apply b answer books is keeps fine = record { answer = answer; tables = λ l. books ∙ (ap apply is ∙ keeps (sym answer) l); sound = λ ok. fine (sym answer) }
  stepped (Err x) k apply b answer books is keeps fine = record { answer = answer; tables = λ l. books ∙ is; sound = λ ok. absurd (false≢true ok) }
