-- A list of calls, made up to one of them.
use Rattle.std.proofs.Common.{◌≡◌, ℕ, suc, ◌+◌, ◌≤◌, Bool, true, false, cond, List, [], ◌++◌, length, take, drop, Ok, Err, Result, refl, ap, sym, subst, ◌∙◌, arith}
use Rattle.std.specs.Prelude.{◌==◌, nat_le}
use Rattle.std.proofs.lemmas.Bool.{leb-true}
use Rattle.std.proofs.lemmas.List.{append-nil, append_assoc, length-append, take-append-drop}
use Rattle.meaning.specs.declared.record.Record.{Record}
use Rattle.journal.specs.declared.journal.Journal as journal
use Rattle.policy.specs.declared.policy.Policy as policy
use Rattle.steps.specs.Written.{Wrote}
use Rattle.steps.proofs.Writes.{wrote_none, wrote_then}
use Rattle.book.specs.declared.book.Book.{Book}
use Rattle.book.specs.States.{policy_of, state_of, After}
use Rattle.promise.specs.Worlds.{after}
use Rattle.scripts.specs.declared.bad.Bad.{Bad}
use Rattle.scripts.specs.declared.bad.Bad.TheVariants.{Output}
use Rattle.scripts.specs.declared.page.Page.{Page}
use Rattle.scripts.specs.Courses.{Course, tells, writes, comes_to, over_at, told_before, with_call}
use Rattle.scripts.specs.Forms.{Call, call_at}
use Rattle.scripts.specs.Made.{Made, MadeAll}
use Rattle.scripts.specs.Pages.{laid, Put}
use Rattle.scripts.specs.Readers.{with_read, course_at}
use Rattle.scripts.proofs.Booked.{state_after}
use Rattle.scripts.proofs.Laid.{length_laid, laid_more}
use Rattle.scripts.proofs.Rooms.{put_fits, put_fails}

before_before : (T U : List ℕ) (V W : List Record) (c : Course) → told_before T V (told_before U W c) ≡ told_before (T ++ U) (V ++ W) c
before_before T U V W c = λ i. record { told = sym (append_assoc T U c.told) i; new = sym (append_assoc V W c.new) i; moment = c.moment; ended = c.ended }

module _ {J P : Type 0} (j : journal.Ghosts J) (p : policy.Ghosts P) (b0 : Book J P j p) (page0 : Page) (whole : Course) where
  abbrev admits : Rattle.meaning.specs.Rules.Policy
  admits = policy_of j p b0

  abbrev room : ℕ
  room = length page0.bytes.now

  -- so many calls may follow, from these bytes on
  pub record Underway (k : ℕ) (rest : List ℕ) (b : Book J P j p) (page : Page) : Type 0 where
    pub told : List ℕ
    pub new : List Record
    pub wrote : Wrote j b0.journal new b.journal
    pub policy : b.policy ≡ b0.policy
    pub reading : b.reading ≡ b0.reading
    pub bytes : page.bytes.now ≡ laid page0.next told page0.bytes.now
    pub next : page.next ≡ page0.next + length told
    pub fits : page0.next + length told ≤ room
    pub same : page.bytes.ghost_name ≡ page0.bytes.ghost_name
    pub course : told_before told new (course_at admits room k (state_of j p b) rest page.next) ≡ whole

  -- before the first one
  pub begun : (k : ℕ) (rest : List ℕ) → page0.next ≤ room → course_at admits room k (state_of j p b0) rest page0.next ≡ whole → Underway k rest b0 page0
  begun k rest inside is = record {
    told = [];
    new = [];
    wrote = wrote_none j b0.journal;
    policy = refl;
    reading = refl;
    bytes = sym (ap (λ n. take page0.next page0.bytes.now ++ drop n page0.bytes.now) (omega arith) ∙ take-append-drop page0.next page0.bytes.now);
    next = omega arith;
    fits = omega (arith, inside);
    same = refl;
    course = is;
  }

  -- what is reached when no call follows
  pub finished : (k : ℕ) (rest : List ℕ) (b : Book J P j p) (page : Page) (r : Result (Unit {0}) Bad) → Underway k rest b page
      → course_at admits room k (state_of j p b) rest page.next ≡ over_at b.moment r → MadeAll j p b0 whole page0 r b page
  finished k rest b page r U ends =
      let last : MadeAll j p b0 (told_before U.told U.new (over_at b.moment r)) page0 r b page = record {
        ended = refl;
        bytes = U.bytes ∙ ap (λ xs. laid page0.next xs page0.bytes.now) (sym (append-nil U.told));
        next = U.next ∙ ap (λ xs. page0.next + length xs) (sym (append-nil U.told));
        fits = subst (λ xs. page0.next + length xs ≤ room) (sym (append-nil U.told)) U.fits;
        same = U.same;
        after = record { journal = subst (λ ws. Wrote j b0.journal ws b.journal) (sym (append-nil U.new)) U.wrote; moment = refl; policy = U.policy; reading = U.reading };
      } in
      subst (λ c. MadeAll j p b0 c page0 r b page) (ap (told_before U.told U.new) (sym ends) ∙ U.course) last

  pub none_left : (n k : ℕ) (rest : List ℕ) (b : Book J P j p) (page : Page) → n ≡ suc k → (length rest == 0) ≡ true → Underway n rest b page → MadeAll j p b0 whole page0 (Ok tt) b page
  none_left n k rest b page some done U =
      finished (suc k) rest b page (Ok tt) (subst (λ m. Underway m rest b page) some U)
      (ap (λ d. cond d (over_at b.moment (Ok tt)) (with_read admits room (state_of j p b) (call_at rest) (λ c rest. with_call admits room (state_of j p b) c page.next (λ s' n'. course_at admits room k s' rest n')))) done)

  -- no call may follow
  pub none_more : (n : ℕ) (rest : List ℕ) (b : Book J P j p) (page : Page) → n ≡ 0 → Underway n rest b page → MadeAll j p b0 whole page0 (Ok tt) b page
  none_more n rest b page none U = finished 0 rest b page (Ok tt) (subst (λ m. Underway m rest b page) none U) refl

  pub not_read : (n k : ℕ) (rest : List ℕ) (b : Book J P j p) (page : Page) (x : Bad) → n ≡ suc k → (length rest == 0) ≡ false → call_at rest ≡ Err x → Underway n rest b page → MadeAll j p b0 whole page0 (Err x) b page
  not_read n k rest b page x some more cut U =
      let f = λ (c : Call) (rest : List ℕ). with_call admits room (state_of j p b) c page.next (λ s' n'. course_at admits room k s' rest n') in
      finished (suc k) rest b page (Err x) (subst (λ m. Underway m rest b page) some U)
      (ap (λ d. cond d (over_at b.moment (Ok tt)) (with_read admits room (state_of j p b) (call_at rest) f)) more ∙ ap (λ r. with_read admits room (state_of j p b) r f) cut)

  -- A call that follows, and what it gave.
  module _ (n k : ℕ) (rest rest' : List ℕ) (b : Book J P j p) (page : Page) (c : Call) (some : n ≡ suc k) (before_it : Underway n rest b page)
      (more : (length rest == 0) ≡ false) (read : call_at rest ≡ Ok (c, rest')) where
    abbrev U : Underway (suc k) rest b page
    U = subst (λ m. Underway m rest b page) some before_it

    abbrev T : List ℕ
    T = tells admits (state_of j p b) c.orders c.step

    abbrev W : List Record
    W = writes admits (state_of j p b) c.orders c.step

    abbrev t : ℕ
    t = comes_to admits (state_of j p b) c.orders c.step

    abbrev room_left : Bool
    room_left = nat_le (page.next + length T) room

    unrolled : course_at admits room (suc k) (state_of j p b) rest page.next ≡ with_call admits room (state_of j p b) c page.next (λ s' n'. course_at admits room k s' rest' n')
    unrolled =
        let f = λ (c : Call) (rest : List ℕ). with_call admits room (state_of j p b) c page.next (λ s' n'. course_at admits room k s' rest n') in
        ap (λ d. cond d (over_at b.moment (Ok tt)) (with_read admits room (state_of j p b) (call_at rest) f)) more ∙ ap (λ r. with_read admits room (state_of j p b) r f) read

    by_call : told_before U.told U.new (with_call admits room (state_of j p b) c page.next (λ s' n'. course_at admits room k s' rest' n')) ≡ whole
    by_call = ap (told_before U.told U.new) (sym unrolled) ∙ U.course

    same_room : length page.bytes.now ≡ room
    same_room = ap length U.bytes ∙ length_laid page0.next U.told page0.bytes.now U.fits

    module _ (r : Result (Unit {0}) Bad) (b' : Book J P j p) (page' : Page) (M : Made j p b c.orders c.step page r b' page') where
      same_policy : policy_of j p b ≡ admits
      same_policy = ap p.admits U.policy

      put : Put page T r page'
      put = subst (λ q. Put page (tells q (state_of j p b) c.orders c.step) r page') same_policy M.put

      went : After j p b W t b'
      went = subst (λ q. After j p b (writes q (state_of j p b) c.orders c.step) (comes_to q (state_of j p b) c.orders c.step) b') same_policy M.after

      both_wrote : Wrote j b0.journal (U.new ++ W) b'.journal
      both_wrote = wrote_then j b0.journal b.journal b'.journal U.new W U.wrote went.journal

      abbrev by_room : {X : Type 0} → X → X → X
      by_room x y = cond room_left x y

      answer : r ≡ by_room (Ok tt) (Err Output)
      answer = put.answer ∙ ap (λ n. cond (nat_le (page.next + length T) n) (Ok tt) (Err Output)) same_room

      bytes : page'.bytes.now ≡ by_room (laid page.next T page.bytes.now) page.bytes.now
      bytes = put.bytes ∙ ap (λ n. cond (nat_le (page.next + length T) n) (laid page.next T page.bytes.now) page.bytes.now) same_room

      next : page'.next ≡ by_room (page.next + length T) page.next
      next = put.next ∙ ap (λ n. cond (nat_le (page.next + length T) n) (page.next + length T) page.next) same_room

      -- it found room
      pub one_more : r ≡ Ok tt → Underway k rest' b' page'
      one_more ok =
          let yes : room_left ≡ true = put_fits room_left (sym ok ∙ answer) in
          let inside : page.next + length T ≤ room = leb-true _ _ yes in
          let stands : page0.next + length U.told + length T ≤ room = omega (arith, inside, U.next) in
          let laid_here : page'.bytes.now ≡ laid (page0.next + length U.told) T (laid page0.next U.told page0.bytes.now) =
          bytes ∙ ap (λ d. cond d (laid page.next T page.bytes.now) page.bytes.now) yes ∙ ap (λ n. laid n T page.bytes.now) U.next ∙ ap (laid (page0.next + length U.told) T) U.bytes in
          let moved_on : page'.next ≡ page.next + length T = next ∙ ap (λ d. cond d (page.next + length T) page.next) yes in
          let long = length-append U.told T in
          record {
            told = U.told ++ T;
            new = U.new ++ W;
            wrote = both_wrote;
            policy = went.policy ∙ U.policy;
            reading = went.reading ∙ U.reading;
            bytes = laid_here ∙ laid_more page0.next U.told page0.bytes.now U.fits T;
            next = moved_on ∙ omega (arith, U.next, long);
            fits = omega (arith, stands, long);
            same = M.same ∙ U.same;
            course =
                ap (λ n. told_before (U.told ++ T) (U.new ++ W) (course_at admits room k (state_of j p b') rest' n)) moved_on
                ∙ ap (λ s. told_before (U.told ++ T) (U.new ++ W) (course_at admits room k s rest' (page.next + length T))) (state_after j p b W t b' went)
                ∙ sym (before_before U.told T U.new W _)
                ∙ ap (λ d. told_before U.told U.new (cond d (told_before T W (course_at admits room k (after (state_of j p b) W t) rest' (page.next + length T))) (record { told = []; new = W; moment = t; ended = Err Output }))) (sym yes)
                ∙ by_call;
          }

      -- it found none
      pub last_one : (x : Bad) → r ≡ Err x → MadeAll j p b0 whole page0 r b' page'
      last_one x err =
          let no : room_left ≡ false = put_fails room_left x (sym err ∙ answer) in
          let here : Course = record { told = []; new = W; moment = t; ended = Err Output } in
          let last : MadeAll j p b0 (told_before U.told U.new here) page0 r b' page' = record {
            ended = answer ∙ ap (λ d. cond d (Ok tt) (Err Output)) no;
            bytes = bytes ∙ ap (λ d. cond d (laid page.next T page.bytes.now) page.bytes.now) no ∙ U.bytes ∙ ap (λ xs. laid page0.next xs page0.bytes.now) (sym (append-nil U.told));
            next = next ∙ ap (λ d. cond d (page.next + length T) page.next) no ∙ U.next ∙ ap (λ xs. page0.next + length xs) (sym (append-nil U.told));
            fits = subst (λ xs. page0.next + length xs ≤ room) (sym (append-nil U.told)) U.fits;
            same = M.same ∙ U.same;
            after = record { journal = both_wrote; moment = went.moment; policy = went.policy ∙ U.policy; reading = went.reading ∙ U.reading };
          } in
          subst (λ c. MadeAll j p b0 c page0 r b' page')
          (ap (λ d. told_before U.told U.new (cond d (told_before T W (course_at admits room k (after (state_of j p b) W t) rest' (page.next + length T))) here)) (sym no) ∙ by_call) last
