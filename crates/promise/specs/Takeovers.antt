-- A second book that takes over from a book in hand, and further calls on both.
use Rattle.std.specs.Prelude.{◌≡◌, ℕ, List, [], replicate, None, Ok, Result}
use Rattle.meaning.specs.declared.answers.Moved.{Moved}
use Rattle.meaning.specs.declared.entry.Entry.{Entry}
use Rattle.meaning.specs.declared.order.Order.{Order}
use Rattle.meaning.specs.declared.record.Record.{Record}
use Rattle.meaning.specs.declared.refusal.Refusal.{Refusal}
use Rattle.meaning.specs.Calls.{State, answered, move_answer, moves_not, moved_to}
use Rattle.meaning.specs.Given.{latest}
use Rattle.meaning.specs.Limits.{most_reservations}
use Rattle.meaning.specs.Moves.{move_refused}
use Rattle.meaning.specs.Policies.{Agrees}
use Rattle.meaning.specs.Reading.{Reading, reading as reading_of}
use Rattle.meaning.specs.Rules.{Policy}
use Rattle.journal.specs.declared.journal.Journal as journal
use Rattle.policy.specs.declared.policy.Policy as policy
use Rattle.steps.specs.Written.{journal_of, Wrote}
use Rattle.book.specs.declared.book.Book.{Book}
use Rattle.book.specs.Called.{Created, MovedTo}
use Rattle.book.specs.States.{begins, policy_of, state_of}
use Rattle.promise.specs.declared.call.Call.{Call}
use Rattle.promise.specs.declared.desk.Desk.{Desk}
use Rattle.promise.specs.Kept.{Keeps}
use Rattle.promise.specs.Made.{with_desk}
use Rattle.promise.specs.Pairs.{Alike, Pair, pair, Agree, Together}
use Rattle.promise.specs.Worlds.{World, after, final, adds_all}

-- what a book over the journal x begins with
abbrev pub beginning : {J : Type 0} → journal.Ghosts J → Policy → J → State
beginning j admits x = begins (j.entries x) (j.spare x) admits

-- places for as many lapses as there can be
abbrev pub places : List ℕ
places = replicate most_reservations 0

-- a move from s to t, under a policy: what it answers, and what it comes to
abbrev pub arrival : Policy → State → ℕ → Result Moved Refusal
arrival admits s t = answered (moves_not admits s t places) (move_answer s.journal s.moment t)

abbrev pub arrived : Policy → State → ℕ → State
arrived admits s t = after s [] (moved_to admits s t places)

-- where a first book stands when another takes over: what its policy admits, how the reading of its journal ended, its
-- state, and its journal's list
pub record Point : Type 0 where
  pub admits : Policy
  pub reading : Reading
  pub state : State
  pub entries : List Entry

-- what the rules make of further calls on that first book, and the records that these add
abbrev pub then_is : Point → List Order → List Call → Desk → World
then_is at os further mine = final at.admits os (with_desk at.state mine) further

abbrev pub new : Point → List Order → List Call → Desk → List Record
new at os further mine = adds_all at.admits os (with_desk at.state mine) further

module _ {J P : Type 0} (j : journal.Ghosts J) (p : policy.Ghosts P) where
  abbrev pub point_of : Book J P j p → Point
  point_of b = record {
    admits = policy_of j p b;
    reading = b.reading;
    state = state_of j p b;
    entries = j.entries b.journal;
  }

-- a book that was created over x and moved to t, and what this move answered
pub record Comes {K Q : Type 0} (k : journal.Ghosts K) (q : policy.Ghosts Q)
    (x : K) (y : Q) (t : ℕ) (r : Result Moved Refusal) (b : Book K Q k q) : Type 0 where
  pub new : Book K Q k q
  pub created : Created k q x y new
  pub lapses : List ℕ
  pub moved : MovedTo k q new t places r lapses b

module _ {K Q : Type 0} (k : journal.Ghosts K) (q : policy.Ghosts Q)
    (at : Point) (x : K) (y : Q) where
  -- a book over x with the policy y can take the place: there the journal was read through, the policy says yes to the
  -- same of all that an account can have, and the journal x, of whatever kind, has the same list and as much spare
  pub record Fits : Type 0 where
    pub through : at.reading ≡ Ok tt
    pub policy : Agrees (q.admits y) at.admits
    pub entries : k.entries x ≡ at.entries
    pub spare : k.spare x ≡ at.state.spare

  -- what a second book comes to before the further calls, and that with its caller's lists
  abbrev pub other_then : State
  other_then = arrived (q.admits y) (beginning k (q.admits y) x) at.state.moment

  abbrev pub other_begins : Desk → World
  other_begins theirs = with_desk other_then theirs

  -- such a second book comes to where the first one is, whatever desks the callers have; its move answers r
  pub record Meets (r : Result Moved Refusal) (b : Book K Q k q) : Type 0 where
    pub there : other_then ≡ at.state
    -- with so many places for lapses the move is not refused, and it answers what lapsed since the newest entry
    pub arrives : move_refused (journal_of k x) (latest (journal_of k x)) at.state.moment most_reservations ≡ None
    pub arrival : r ≡ Ok (move_answer at.state.journal (latest at.state.journal) at.state.moment)
    -- its policy is the same, its journal was read through, and it keeps what every book keeps
    pub policy : policy_of k q b ≡ at.admits
    pub through : b.reading ≡ Ok tt
    pub keeps : Keeps k q b

module _ {J P K Q : Type 0}
    {j : journal.Ghosts J} {p : policy.Ghosts P} {k : journal.Ghosts K} {q : policy.Ghosts Q} where
  -- At this point a second book is created over x and moved to the first one's moment; then further calls are made on
  -- both, with the desks mine and theirs.
  module _ (at : Point) (os : List Order) (further : List Call)
      (mine : Desk) (x : K) (y : Q) (theirs : Desk) where
    -- a second book against the first, after the further calls with desks that were alike
    pub record Twin (v : Pair j p k q) : Type 0 where
      pub agree : Agree v
      -- these records joined its journal, and no other byte of its memory changed
      pub wrote : Wrote k x (new at os further mine) v.second.journal

    -- what is left when all is done, and what the second book's move answered
    pub record TakenOver (v : Pair j p k q) (r : Result Moved Refusal) : Type 0 where
      -- the move and the further calls gave what the rules give, whatever the second journal and its policy
      pub second_moved : r ≡ arrival (q.admits y) (beginning k (q.admits y) x) at.state.moment
      pub second_told : with_desk (state_of k q v.second) v.theirs
          ≡ final (q.admits y) os (other_begins k q at x y theirs) further
      pub second_wrote : Wrote k x (adds_all (q.admits y) os (other_begins k q at x y theirs) further)
          v.second.journal
      pub second_policy : policy_of k q v.second ≡ q.admits y
      pub second_reading : v.second.reading ≡ reading_of (q.admits y) (journal_of k x)
      -- a second book that can take the first one's place does
      pub meets : Fits k q at x y → Meets k q at x y r v.second
      pub twin : Fits k q at x y → Alike mine theirs → Twin v

  -- and it goes with the first book b, call by call: from where it came to by its move, up to the end v
  pub record InStep (os : List Order) (further : List Call) (b : Book J P j p)
      (mine : Desk) (x : K) (y : Q) (theirs : Desk)
      (v : Pair j p k q) (r : Result Moved Refusal) : Type 0 where
    pub second : Book K Q k q
    pub comes : Comes k q x y b.moment r second
    pub together : Together os further (pair b mine second theirs) v
