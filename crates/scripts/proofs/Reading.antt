-- Calls that are read one after another come to what the list of them comes to.
use Rattle.std.proofs.Common.{◌≡◌, ℕ, zero, suc, Bool, true, false, cond, List, [], ◌∷◌, length, Ok, Err, Result, refl, ap, sym, ◌∙◌}
use Rattle.std.specs.Prelude.{◌==◌}
use Rattle.meaning.specs.Calls.{State}
use Rattle.meaning.specs.Rules.{Policy}
use Rattle.scripts.specs.declared.bad.Bad.{Bad}
use Rattle.scripts.specs.Courses.{Course, over_at, with_call, course}
use Rattle.scripts.specs.Forms.{Call, then_do, call_at, calls_at}
use Rattle.scripts.specs.Readers.{with_read, course_at}
use Rattle.scripts.proofs.Calls.{with_next_call, calls_more}

module _ (policy : Policy) (room : ℕ) where
  abbrev Before : ℕ → Type 0
  Before k = (rest : List ℕ) (cs : List Call) (s : State) (n : ℕ) → calls_at k rest ≡ Ok cs → course_at policy room k s rest n ≡ course policy room s cs n

  pub as_listed : (k : ℕ) (bs : List ℕ) (cs : List Call) (s : State) (n : ℕ) → calls_at k bs ≡ Ok cs → course_at policy room k s bs n ≡ course policy room s cs n
  as_listed zero bs cs s n is = let e : [] ≡ cs = cc in ap (λ cs. course policy room s cs n) e
  as_listed (suc k) bs cs s n is = go (λ rest cs s n e. as_listed k rest cs s n e) (length bs == 0) refl (call_at bs) refl
    where
      f : Call → List ℕ → Course
      f c rest = with_call policy room s c n (λ s' n'. course_at policy room k s' rest n')

      read_on : (length bs == 0) ≡ false → (r : Result (Call × List ℕ) Bad) → call_at bs ≡ r → course_at policy room (suc k) s bs n ≡ with_read policy room s r f
      read_on more r e = ap (λ d. cond d (over_at s.moment (Ok tt)) (with_read policy room s (call_at bs) f)) more ∙ ap (λ r. with_read policy room s r f) e

      others : Before k → (c : Call) (rest : List ℕ) (x : Result (List Call) Bad) → calls_at k rest ≡ x → Ok cs ≡ then_do x (λ cs. Ok (c ∷ cs)) → f c rest ≡ course policy room s cs n
      others ih c rest (Ok cs') e all =
          let same : c ∷ cs' ≡ cs = cc in
          (λ i. with_call policy room s c n (λ s' n'. ih rest cs' s' n' e i)) ∙ ap (λ cs. course policy room s cs n) same
      others ih c rest (Err b) e all = absurd (cc all)

      go : Before k → (d : Bool) → (length bs == 0) ≡ d → (r : Result (Call × List ℕ) Bad) → call_at bs ≡ r → course_at policy room (suc k) s bs n ≡ course policy room s cs n
      go ih true done r e =
          let none : Ok cs ≡ Ok [] = sym is ∙ ap (λ d. cond d (Ok []) (with_next_call k (call_at bs))) done in
          let same : [] ≡ cs = cc in
          ap (λ d. cond d (over_at s.moment (Ok tt)) (with_read policy room s (call_at bs) f)) done ∙ ap (λ cs. course policy room s cs n) same
      go ih false more (Ok r) e = read_on more (Ok r) e ∙ others ih r.0 r.1 (calls_at k r.1) refl (sym is ∙ calls_more k bs more ∙ ap (with_next_call k) e)
      go ih false more (Err b) e = absurd (let no : Ok cs ≡ Err b = sym is ∙ calls_more k bs more ∙ ap (with_next_call k) e in cc no)
