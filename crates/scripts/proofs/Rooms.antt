-- Whether there is room on a page, from what was answered.
use Rattle.std.proofs.Common.{◌≡◌, ℕ, ◌+◌, Bool, true, false, cond, List, length, Ok, Err, Result, refl, ap, sym, ◌∙◌}
use Rattle.std.specs.Prelude.{nat_le}
use Rattle.scripts.specs.declared.bad.Bad.{Bad}
use Rattle.scripts.specs.declared.bad.Bad.TheVariants.{Output}
use Rattle.scripts.specs.declared.page.Page.{Page}
use Rattle.scripts.specs.Pages.{if_fits, laid, PutBefore}

pub put_fits : (b : Bool) → Ok tt ≡ cond {A = Result (Unit {0}) Bad} b (Ok tt) (Err Output) → b ≡ true
put_fits true e = refl
put_fits false e = absurd (cc e)

pub put_fails : (b : Bool) (x : Bad) → Err x ≡ cond {A = Result (Unit {0}) Bad} b (Ok tt) (Err Output) → b ≡ false
put_fails true x e = absurd (cc e)
put_fails false x e = refl

abbrev asked : Page → ℕ → Result (Unit {0}) Bad
asked p n = if_fits p n (Ok tt) (Err Output)

module _ (p : Page) (new : List ℕ) (more n : ℕ) (same : n ≡ length new + more) where
  abbrev there_is : Bool
  there_is = nat_le (p.next + (length new + more)) (length p.bytes.now)

  room_for : {r : Result (Unit {0}) Bad} → r ≡ asked p n → r ≡ cond there_is (Ok tt) (Err Output)
  room_for is = is ∙ ap (asked p) same

  -- room for n bytes was asked for and not found, and nothing was put
  pub kept_out : (x : Bad) (r : Result (Unit {0}) Bad) → r ≡ Err x → Err x ≡ asked p n → PutBefore p new more r p
  kept_out x r err is =
      let no : there_is ≡ false = put_fails there_is x (room_for is) in
      record {
        answer = err ∙ room_for is;
        bytes = ap (λ b. cond b (laid p.next new p.bytes.now) p.bytes.now) (sym no);
        next = ap (λ b. cond b (p.next + length new) p.next) (sym no);
      }

  -- it was found, and they were put
  pub let_in : (p' : Page) → Ok tt ≡ asked p n → p'.bytes.now ≡ laid p.next new p.bytes.now → p'.next ≡ p.next + length new → PutBefore p new more (Ok tt) p'
  let_in p' is bytes next =
      let yes : there_is ≡ true = put_fits there_is (room_for is) in
      record {
        answer = room_for is;
        bytes = bytes ∙ ap (λ b. cond b (laid p.next new p.bytes.now) p.bytes.now) (sym yes);
        next = next ∙ ap (λ b. cond b (p.next + length new) p.next) (sym yes);
      }
