-- A book with a past from nothing on, and one that took over from what that past has written into a mirror of two rolls.
use Rattle.std.specs.Prelude.{◌≡◌, List, Ok, Result}
use Rattle.meaning.specs.declared.answers.Moved.{Moved}
use Rattle.meaning.specs.declared.order.Order.{Order}
use Rattle.meaning.specs.declared.refusal.Refusal.{Refusal}
use Rattle.meaning.specs.Calls.{move_answer}
use Rattle.meaning.specs.Given.{latest}
use Rattle.journal.specs.declared.journal.Journal as journal
use Rattle.policy.specs.declared.policy.Policy as policy
use Rattle.book.specs.declared.book.Book.{Book}
use Rattle.book.specs.States.{state_of}
use Rattle.promise.specs.declared.call.Call.{Call}
use Rattle.promise.specs.declared.desk.Desk.{Desk}
use Rattle.promise.specs.Kept.{Keeps}
use Rattle.promise.specs.Made.{with_desk}
use Rattle.promise.specs.Pairs.{Alike, Pair}
use Rattle.promise.specs.Takeovers.{then_is, Meets, Twin, InStep}
use Rattle.promise.specs.Worlds.{final}
use Rattle.clients.specs.Seasons.{season, season_was, season_wrote, season_point}

pub record HandedOver {J P K Q : Type 0}
    {j : journal.Ghosts J} {p : policy.Ghosts P} {k : journal.Ghosts K} {q : policy.Ghosts Q}
    (os : List Order) (past further : List Call) (mine theirs : Desk)
    (v : Pair j p k q) (r : Result Moved Refusal) : Type 0 where
  -- the first book, and what its caller was told, are what the rules give
  pub told : with_desk (state_of j p v.first) v.mine ≡ then_is (season_point os past) os further mine
  pub keeps : Keeps j p v.first
  -- and so are the second book's: where the past ended, it went on from there
  pub arrival : r ≡ Ok (move_answer (season_was os past).journal
      (latest (season_was os past).journal) (season_was os past).moment)
  pub second_told : with_desk (state_of k q v.second) v.theirs ≡ then_is (season_point os past) os further theirs
  -- it took over a journal with what the past has written, and comes to where the first book was, whatever the desks
  pub taken : K
  pub entries : k.entries taken ≡ season_wrote os past
  pub with_policy : Q
  pub meets : Meets k q (season_point os past) taken with_policy r v.second
  -- with desks that are alike it goes on as the first does, and agrees with it after every call
  pub twin : Alike mine theirs → Twin (season_point os past) os further mine taken with_policy theirs v
  pub together : Alike mine theirs
      → (b : Book J P j p) × ((state_of j p b ≡ season_was os past)
      × InStep os further b mine taken with_policy theirs v r)
