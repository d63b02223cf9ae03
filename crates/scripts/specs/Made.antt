-- What the runner has made of a book and of a page, beside what the rules give.
use Rattle.std.specs.Prelude.{◌≡◌, ℕ, ◌+◌, ◌≤◌, cond, List, length, Ok, Err, Result, nat_le}
use Rattle.meaning.specs.declared.order.Order.{Order}
use Rattle.meaning.specs.Rules.{Policy}
use Rattle.journal.specs.declared.journal.Journal as journal
use Rattle.policy.specs.declared.policy.Policy as policy
use Rattle.steps.specs.Written.{Wrote}
use Rattle.book.specs.declared.book.Book.{Book}
use Rattle.book.specs.States.{begins, policy_of, state_of, After}
use Rattle.scripts.specs.declared.bad.Bad.{Bad}
use Rattle.scripts.specs.declared.bad.Bad.TheVariants.{Output}
use Rattle.scripts.specs.declared.head.Head.{Head}
use Rattle.scripts.specs.declared.head.JournalKind.{JournalKind}
use Rattle.scripts.specs.declared.page.Page.{Page}
use Rattle.scripts.specs.declared.step.Step.{Step}
use Rattle.scripts.specs.Courses.{Course, tells, writes, comes_to, with_end}
use Rattle.scripts.specs.Ended.{ending, told, output_after, memory_after}
use Rattle.scripts.specs.Forms.{Call, then_do}
use Rattle.scripts.specs.Pages.{laid, Put}
use Rattle.scripts.specs.Readers.{course_at}
use Rattle.scripts.specs.Runs.{entries_found, spare_found, memory_left, told_last}
use Rattle.scripts.specs.Told.{told_journal}

-- a call: what it was told was put on the page, and the book is what the rules make of it
pub record Made {J P : Type 0} (j : journal.Ghosts J) (p : policy.Ghosts P) (b : Book J P j p) (os : List Order) (c : Step) (page : Page) (r : Result (Unit {0}) Bad) (b' : Book J P j p) (page' : Page) : Type 0 where
  pub put : Put page (tells (policy_of j p b) (state_of j p b) os c) r page'
  pub same : page'.bytes.ghost_name ≡ page.bytes.ghost_name
  pub after : After j p b (writes (policy_of j p b) (state_of j p b) os c) (comes_to (policy_of j p b) (state_of j p b) os c) b'

-- a list of calls
pub record MadeAll {J P : Type 0} (j : journal.Ghosts J) (p : policy.Ghosts P) (b : Book J P j p) (c : Course) (page : Page) (r : Result (Unit {0}) Bad) (b' : Book J P j p) (page' : Page) : Type 0 where
  pub ended : r ≡ c.ended
  pub bytes : page'.bytes.now ≡ laid page.next c.told page.bytes.now
  pub next : page'.next ≡ page.next + length c.told
  pub fits : page.next + length c.told ≤ length page.bytes.now
  pub same : page'.bytes.ghost_name ≡ page.bytes.ghost_name
  pub after : After j p b c.new c.moment b'

-- How calls end that came to c, on n bytes of so much room: where all of them went through, the end is told, if it and
-- so many bytes more have room.
module _ (n room : ℕ) (c : Course) (end : List ℕ) (more : ℕ) where
  abbrev pub closed_at : Result (Unit {0}) Bad
  closed_at = then_do c.ended (λ _. cond (nat_le (n + length c.told + (length end + more)) room) (Ok tt) (Err Output))

-- the page when calls came to c, and the end was told where it could be
pub record Done (page : Page) (c : Course) (end : List ℕ) (more : ℕ) (r : Result (Unit {0}) Bad) (page' : Page) : Type 0 where
  pub answer : r ≡ closed_at page.next (length page.bytes.now) c end more
  pub bytes : page'.bytes.now ≡ laid page.next (with_end r c.told end) page.bytes.now
  pub next : page'.next ≡ page.next + length (with_end r c.told end)
  pub same : page'.bytes.ghost_name ≡ page.bytes.ghost_name

-- a journal that was given to a book, and the calls made on it
pub record Over {J : Type 0} (j : journal.Ghosts J) (x : J) (c : Course) (page : Page) (x' : J) (r : Result (Unit {0}) Bad) (page' : Page) : Type 0 where
  pub wrote : Wrote j x c.new x'
  pub done : Done page c (told_journal (j.entries x') (j.spare x')) 8 r page'

-- The calls of these bytes on a book over a journal of a kind.
module _ (policy : Policy) (m : List ℕ) (u : ℕ) (k : JournalKind) (calls : List ℕ) (page : Page) where
  abbrev pub went_on : Course
  went_on = course_at policy (length page.bytes.now) (length calls) (begins (entries_found m u k) (spare_found m u k) policy) calls page.next

  -- the journal was shown, and the memory given back
  pub record RanOn (r : Result (Unit {0}) Bad) (page' : Page) (m' : List ℕ) : Type 0 where
    pub memory : m' ≡ memory_left m u k went_on.new
    pub done : Done page went_on (told_last m u k went_on.new) 0 r page'

-- how a script ended, how many bytes were told, and what it left
pub record Ends (read : Result (Head × List Call) Bad) (m o : List ℕ) (r : ℕ × Result (Unit {0}) Bad) (m' o' : List ℕ) : Type 0 where
  pub ended : r.1 ≡ ending read m o
  pub written : r.0 ≡ length (told read m o)
  pub memory : m' ≡ memory_after read m o
  pub output : o' ≡ output_after read m o
