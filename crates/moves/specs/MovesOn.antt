-- What a move of the tables answers, writes and leaves.
use Rattle.std.specs.Prelude.{◌≡◌, ℕ, List, length, Result}
use Rattle.meaning.specs.declared.answers.Moved.{Moved}
use Rattle.meaning.specs.declared.refusal.Refusal.{Refusal}
use Rattle.meaning.specs.Given.{Journal}
use Rattle.meaning.specs.Moves.{lapse_list, move_refused}
use Rattle.meaning.specs.Calls.{answered, unless, over, move_answer}
use Rattle.balances.specs.Books.{Books}
use Rattle.image.specs.Image.{image_of}

-- from T to t, with a list ls for the numbers of what lapses
pub record MovesOn (J : Journal) (T t : ℕ) (ls : List ℕ) (r : Result Moved Refusal) (ls' : List ℕ) (after : Books) : Type 0 where
  pub answer : r ≡ answered (move_refused J T t (length ls)) (move_answer J T t)
  pub lapses : ls' ≡ unless (move_refused J T t (length ls)) (over (lapse_list J T t) ls) ls
  pub tables : after ≡ image_of J (unless (move_refused J T t (length ls)) t T)
