-- The end of a script, behind what its calls were told.
use Rattle.std.proofs.Common.{◌≡◌, ℕ, ◌+◌, ◌≤◌, Bool, true, false, cond, List, ◌++◌, length, Ok, Err, Result, refl, ap, sym, ◌∙◌, arith}
use Rattle.std.specs.Prelude.{nat_le}
use Rattle.std.proofs.lemmas.Bool.{leb-true, le-leb}
use Rattle.std.proofs.lemmas.List.{append_assoc, length-append}
use Rattle.scripts.specs.declared.bad.Bad.{Bad}
use Rattle.scripts.specs.declared.bad.Bad.TheVariants.{Output}
use Rattle.scripts.specs.declared.page.Page.{Page}
use Rattle.scripts.specs.Courses.{Course, with_end}
use Rattle.scripts.specs.Forms.{then_do}
use Rattle.scripts.specs.Made.{Done, closed_at}
use Rattle.scripts.specs.Pages.{laid, Put, PutBefore}
use Rattle.scripts.proofs.Laid.{length_laid, laid_more}
use Rattle.scripts.proofs.Rooms.{put_fits}

module _ (page : Page) (c : Course) (E : List ℕ) (more : ℕ) (p1 p2 : Page) (r0 r : Result (Unit {0}) Bad)
    (bytes : p1.bytes.now ≡ laid page.next c.told page.bytes.now) (next : p1.next ≡ page.next + length c.told)
    (fits : page.next + length c.told ≤ length page.bytes.now) where
  abbrev bs : List ℕ
  bs = page.bytes.now

  abbrev finds_room : Bool
  finds_room = nat_le (page.next + length c.told + (length E + more)) (length bs)

  by_room : (b : Bool) → r ≡ cond b (Ok tt) (Err Output) → p2.bytes.now ≡ cond b (laid p1.next E p1.bytes.now) p1.bytes.now → p2.next ≡ cond b (p1.next + length E) p1.next
      → (p2.bytes.now ≡ laid page.next (with_end r c.told E) bs) × (p2.next ≡ page.next + length (with_end r c.told E))
  by_room true e put on =
      let told : with_end r c.told E ≡ c.told ++ E = ap (λ r. with_end r c.told E) e in (
        put ∙ ap (λ n. laid n E p1.bytes.now) next ∙ ap (laid (page.next + length c.told) E) bytes ∙ laid_more page.next c.told bs fits E ∙ ap (λ xs. laid page.next xs bs) (sym told),
        on ∙ omega (arith, next, length-append c.told E, ap length told),
      )
  by_room false e put on =
      let told : with_end r c.told E ≡ c.told = ap (λ r. with_end r c.told E) e in
      (put ∙ bytes ∙ ap (λ xs. laid page.next xs bs) (sym told), on ∙ next ∙ ap (λ xs. page.next + length xs) (sym told))

  -- the journal is shown where the calls went through
  pub shown_behind : r0 ≡ c.ended → p2.bytes.ghost_name ≡ page.bytes.ghost_name → (r0 ≡ Ok tt → PutBefore p1 E more r p2) → ((b : Bad) → r0 ≡ Err b → (r ≡ Err b) × (p2 ≡ p1)) → Done page c E more r p2
  shown_behind ended same through cut = go r0 refl
    where
      same_room : length p1.bytes.now ≡ length bs
      same_room = ap length bytes ∙ length_laid page.next c.told bs fits

      put_together : r ≡ closed_at page.next (length bs) c E more → (p2.bytes.now ≡ laid page.next (with_end r c.told E) bs) × (p2.next ≡ page.next + length (with_end r c.told E)) → Done page c E more r p2
      put_together answer both = record { answer = answer; bytes = both.0; next = both.1; same = same }

      asked : nat_le (p1.next + (length E + more)) (length p1.bytes.now) ≡ finds_room
      asked = ap (λ n. nat_le (n + (length E + more)) (length p1.bytes.now)) next ∙ ap (nat_le (page.next + length c.told + (length E + more))) same_room

      go : (x : Result (Unit {0}) Bad) → r0 ≡ x → Done page c E more r p2
      go (Ok u) is =
          let P = through is in
          let answer : r ≡ cond finds_room (Ok tt) (Err Output) = P.answer ∙ ap (λ b. cond b (Ok tt) (Err Output)) asked in
          put_together (answer ∙ ap (λ e. then_do e (λ _. cond finds_room (Ok tt) (Err Output))) (sym is ∙ ended))
          (by_room finds_room answer (P.bytes ∙ ap (λ b. cond b (laid p1.next E p1.bytes.now) p1.bytes.now) asked) (P.next ∙ ap (λ b. cond b (p1.next + length E) p1.next) asked))
      go (Err b) is =
          let C = cut b is in
          let told : with_end r c.told E ≡ c.told = ap (λ r. with_end r c.told E) C.0 in
          put_together (C.0 ∙ ap (λ e. then_do e (λ _. cond finds_room (Ok tt) (Err Output))) (sym is ∙ ended))
          (ap (λ (p : Page). p.bytes.now) C.1 ∙ bytes ∙ ap (λ xs. laid page.next xs bs) (sym told), ap (λ (p : Page). p.next) C.1 ∙ next ∙ ap (λ xs. page.next + length xs) (sym told))

closed_ok : (e : Result (Unit {0}) Bad) (b : Bool) → Ok tt ≡ then_do e (λ _. cond {A = Result (Unit {0}) Bad} b (Ok tt) (Err Output)) → b ≡ true
closed_ok (Ok u) b is = put_fits b is
closed_ok (Err x) b is = absurd (cc is)

-- How much of a strip is in use, behind the end: eight bytes more, for which there is room where it was told.
module _ (page : Page) (c : Course) (E U : List ℕ) (long : length U ≡ 8) (p1 p2 : Page) (r1 r : Result (Unit {0}) Bad) (D : Done page c E 8 r1 p1) where
  abbrev room : ℕ
  room = length page.bytes.now

  same_length : length E + 8 ≡ length (E ++ U) + 0
  same_length = omega (arith, long, length-append E U)

  same_end : closed_at page.next room c E 8 ≡ closed_at page.next room c (E ++ U) 0
  same_end = ap (λ k. then_do c.ended (λ _. cond (nat_le (page.next + length c.told + k) room) (Ok tt) (Err Output))) same_length

  pub used_behind : p2.bytes.ghost_name ≡ p1.bytes.ghost_name → (r1 ≡ Ok tt → Put p1 U r p2) → ((b : Bad) → r1 ≡ Err b → (r ≡ Err b) × (p2 ≡ p1)) → Done page c (E ++ U) 0 r p2
  used_behind same through cut = go r1 refl
    where
      go : (x : Result (Unit {0}) Bad) → r1 ≡ x → Done page c (E ++ U) 0 r p2
      go (Ok u) is =
          let P = through is in
          let inside : page.next + length c.told + (length E + 8) ≤ room = leb-true _ _ (closed_ok c.ended _ (sym is ∙ D.answer)) in
          let told : with_end r1 c.told E ≡ c.told ++ E = ap (λ r. with_end r c.told E) is in
          let both : length (c.told ++ E) ≡ length c.told + length E = length-append c.told E in
          let fits : page.next + length (c.told ++ E) ≤ room = omega (arith, inside, both) in
          let bytes1 : p1.bytes.now ≡ laid page.next (c.told ++ E) page.bytes.now = D.bytes ∙ ap (λ xs. laid page.next xs page.bytes.now) told in
          let next1 : p1.next ≡ page.next + length (c.told ++ E) = D.next ∙ ap (λ xs. page.next + length xs) told in
          let kept : length p1.bytes.now ≡ room = ap length bytes1 ∙ length_laid page.next (c.told ++ E) page.bytes.now fits in
          let yes : nat_le (p1.next + length U) (length p1.bytes.now) ≡ true = le-leb _ _ (omega (arith, inside, both, next1, kept, long)) in
          let ok : r ≡ Ok tt = P.answer ∙ ap (λ b. cond b (Ok tt) (Err Output)) yes in
          let all : with_end r c.told (E ++ U) ≡ c.told ++ E ++ U = ap (λ r. with_end r c.told (E ++ U)) ok ∙ sym (append_assoc c.told E U) in
          record {
            answer = ok ∙ sym is ∙ D.answer ∙ same_end;
            bytes =
                P.bytes ∙ ap (λ b. cond b (laid p1.next U p1.bytes.now) p1.bytes.now) yes ∙ ap (λ n. laid n U p1.bytes.now) next1 ∙ ap (laid (page.next + length (c.told ++ E)) U) bytes1
                ∙ laid_more page.next (c.told ++ E) page.bytes.now fits U ∙ ap (λ xs. laid page.next xs page.bytes.now) (sym all);
            next = P.next ∙ ap (λ b. cond b (p1.next + length U) p1.next) yes ∙ omega (arith, next1, length-append (c.told ++ E) U, ap length all);
            same = same ∙ D.same;
          }
      go (Err b) is =
          let C = cut b is in
          let told1 : with_end r1 c.told E ≡ c.told = ap (λ r. with_end r c.told E) is in
          let told : with_end r c.told (E ++ U) ≡ c.told = ap (λ r. with_end r c.told (E ++ U)) C.0 in
          record {
            answer = C.0 ∙ sym is ∙ D.answer ∙ same_end;
            bytes = ap (λ (p : Page). p.bytes.now) C.1 ∙ D.bytes ∙ ap (λ xs. laid page.next xs page.bytes.now) (told1 ∙ sym told);
            next = ap (λ (p : Page). p.next) C.1 ∙ D.next ∙ ap (λ xs. page.next + length xs) (told1 ∙ sym told);
            same = same ∙ D.same;
          }
