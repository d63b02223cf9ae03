-- What was made over a journal, in terms of what the journal listed.
use Rattle.std.proofs.Common.{◌≡◌, ℕ, ◌-◌, min, List, [], ◌∷◌, ◌++◌, length, Result, ap, sym, subst, ◌∙◌}
use Rattle.std.proofs.lemmas.List.{append-nil}
use Rattle.meaning.specs.declared.entry.Entry.{Entry}
use Rattle.meaning.specs.Calls.{State}
use Rattle.meaning.specs.Reading.{reading as reading_of}
use Rattle.meaning.specs.Rules.{Policy}
use Rattle.journal.specs.declared.journal.Journal as journal
use Rattle.journal.specs.declared.strip.Strip.{Strip}
use Rattle.journal.specs.Strips.{used_of, listed}
use Rattle.reading.specs.Stands.{start_of}
use Rattle.steps.specs.Written.{records_of, entries_of}
use Rattle.book.specs.States.{begins}
use Rattle.promise.specs.Takeovers.{beginning}
use Rattle.scripts.specs.declared.bad.Bad.{Bad}
use Rattle.scripts.specs.declared.page.Page.{Page}
use Rattle.scripts.specs.Courses.{Course}
use Rattle.scripts.specs.Made.{Done, Over}
use Rattle.scripts.specs.Readers.{course_at}
use Rattle.scripts.specs.Told.{told_journal}

module _ {J : Type 0} (j : journal.Ghosts J) (x : J) (es : List Entry) (spare : ℕ) (list : j.entries x ≡ es) (left : j.spare x ≡ spare)
    (policy : Policy) (page : Page) (calls : List ℕ) where
  abbrev come_to : State → Course
  come_to s = course_at policy (length page.bytes.now) (length calls) s calls page.next

  abbrev whole : Course
  whole = come_to (begins es spare policy)

  same_start : beginning j policy x ≡ begins es spare policy
  same_start = λ i. record { journal = records_of (list i); moment = start_of (reading_of policy (records_of (list i))) (records_of (list i)); spare = left i }

  module _ (x' : J) (r : Result (Unit {0}) Bad) (page' : Page) (O : Over j x (come_to (beginning j policy x)) page x' r page') where
    pub over : Over j x whole page x' r page'
    over = subst (λ c. Over j x c page x' r page') (ap come_to same_start) O

    pub listed_then : j.entries x' ≡ es ++ entries_of whole.new
    listed_then = over.wrote.entries ∙ ap (λ xs. xs ++ entries_of whole.new) list

    pub spare_then : j.spare x' ≡ spare - length whole.new
    spare_then = over.wrote.spare ∙ ap (λ n. n - length whole.new) left

    pub done_then : Done page whole (told_journal (es ++ entries_of whole.new) (spare - length whole.new)) 8 r page'
    done_then = subst (λ n. Done page whole (told_journal (es ++ entries_of whole.new) n) 8 r page') spare_then (subst (λ xs. Done page whole (told_journal xs (j.spare x')) 8 r page') listed_then over.done)

-- how much of a strip is in use, from its bytes and its list
pub used_is : (S : Strip) (m : List ℕ) (es : List Entry) {used : ℕ} → used ≡ used_of S.memory.now (length (listed S.memory.now S.count)) → S.memory.now ≡ m → listed S.memory.now S.count ≡ es → used ≡ used_of m (length es)
used_is S m es is bytes list = is ∙ ap (λ x. used_of x (length (listed S.memory.now S.count))) bytes ∙ ap (λ (es : List Entry). used_of m (length es)) list

-- what the second journal of a mirror lists, from what both list
pub second_list : (a b l l' new : List Entry) → ◌≡◌ {A = List (List Entry)} (a ∷ (l' ++ []) ∷ []) (b ∷ (l ++ (new ++ [])) ∷ []) → l' ≡ l ++ new
second_list a b l l' new both =
    let second : l' ++ [] ≡ l ++ (new ++ []) = cc in
    sym (append-nil l') ∙ second ∙ ap (λ es. l ++ es) (append-nil new)

pub least : {a b c d : ℕ} → a ≡ b → c ≡ d → min a c ≡ min b d
least p q = λ i. min (p i) (q i)
