-- The output: bytes one after another, as far as there is room.
use Rattle.std.specs.Prelude.{◌≡◌, ℕ, ◌+◌, List, length, Ok, Err, Result, nat_le, cond, flat_map}
use Rattle.std.specs.Borrow.{Bor}
use Rattle.std.specs.List.{splice}
use Rattle.scripts.specs.declared.bad.Bad.{Bad}
use Rattle.scripts.specs.declared.bad.Bad.TheVariants.{Output}
use Rattle.scripts.specs.declared.page.Page.{Page}

-- parts, one behind the other
abbrev pub joined_parts : List (Bor (List ℕ)) → List ℕ
joined_parts parts = flat_map (λ p. p.now) parts

-- bytes with others in the place from n on
abbrev pub laid : ℕ → List ℕ → List ℕ → List ℕ
laid n new bs = splice bs n (n + length new) new

-- one of two things, by whether so many bytes more fit
abbrev pub if_fits : {X : Type 0} → Page → ℕ → X → X → X
if_fits p n x y = cond (nat_le (p.next + n) (length p.bytes.now)) x y

-- these bytes were put behind those that were written, if there was room for n; else nothing has changed
pub record PutIn (n : ℕ) (p : Page) (new : List ℕ) (r : Result (Unit {0}) Bad) (p' : Page) : Type 0 where
  pub answer : r ≡ if_fits p n (Ok tt) (Err Output)
  pub bytes : p'.bytes.now ≡ if_fits p n (laid p.next new p.bytes.now) p.bytes.now
  pub next : p'.next ≡ if_fits p n (p.next + length new) p.next

abbrev pub Put : Page → List ℕ → Result (Unit {0}) Bad → Page → Type 0
Put p new = PutIn (length new) p new

-- so many bytes more are to fit behind them
abbrev pub PutBefore : Page → List ℕ → ℕ → Result (Unit {0}) Bad → Page → Type 0
PutBefore p new more = PutIn (length new + more) p new
