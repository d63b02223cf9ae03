-- An open chain from one answer to the next.
use Rattle.std.specs.Prelude.{◌≡◌, ℕ, ◌+◌, Bool, List, [], ◌∷◌, ◌++◌, if◌then◌else◌}
use Rattle.meaning.specs.declared.content.Content.{Content}
use Rattle.meaning.specs.declared.record.Record.{Record}
use Rattle.balances.specs.declared.chain.Chain.{Chain}
use Rattle.balances.specs.Noted.{AtMoment}
use Rattle.balances.specs.Undone.{legs_of, written_of, rolled_back}

-- what a leg of a number, a linked mark and a content writes at the moment of a chain
abbrev pub leg_of : Chain → ℕ → Bool → Content → Record
leg_of c n linked content = record { number = n; linked = linked; moment = c.moment; content = content }

-- what an open chain writes
abbrev pub writing : Chain → List Record
writing c = written_of c.balances.now

-- the same, and behind it the record of a leg if that was taken
abbrev pub Writes : Chain → Bool → Record → Chain → Type 0
Writes c taken e c' = writing c' ≡ (if taken then writing c ++ (e ∷ []) else writing c)

-- it borrows the same tables at the same moment, its drop would still leave them as at its opening, a leg that was
-- taken is one more, and all are written at that moment still
pub record GoesOn (c : Chain) (taken : Bool) (c' : Chain) : Type 0 where
  pub same : c'.balances.ghost_name ≡ c.balances.ghost_name
  pub moment : c'.moment ≡ c.moment
  pub back : rolled_back c'.balances.now ≡ rolled_back c.balances.now
  pub legs : legs_of c'.balances.now ≡ (if taken then legs_of c.balances.now + 1 else legs_of c.balances.now)
  pub timely : AtMoment c.moment (writing c) → AtMoment c'.moment (writing c')
