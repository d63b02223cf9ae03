-- A leg more is written at the moment of its chain.
use Rattle.std.proofs.Common.{◌≡◌, ℕ, List, [], ◌∷◌, ◌++◌}
use Rattle.meaning.specs.declared.record.Record.{Record}
use Rattle.balances.specs.Noted.{AtMoment}

pub one_more : (T : ℕ) (es : List Record) (e : Record) → AtMoment T es → e.moment ≡ T → AtMoment T (es ++ (e ∷ []))
one_more T [] e h m = (m, tt)
one_more T (x ∷ xs) e h m = (h.0, one_more T xs e h.1 m)
