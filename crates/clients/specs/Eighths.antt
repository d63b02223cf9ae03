-- A policy as 64 bits reckon it, which wraps where numbers are beyond what an account can have.
use Rattle.std.specs.Prelude.{◌≡◌, ℕ, ◌+◌, ◌-◌, ◌*◌, ◌^◌, ◌%◌, ◌≤◌, true, nat_le}
use Rattle.meaning.specs.Policies.{bounded}
use Rattle.meaning.specs.Rules.{Policy}

-- eight times what is drawn, pending or posted, stays within what has come in and the limit
abbrev pub in_64_bits : Policy
in_64_bits class limit dp dq cp cq = nat_le ((dp + dq) * 8 % 2 ^ 64) ((cq + limit) % 2 ^ 64)

abbrev pub eighth : Policy
eighth = bounded in_64_bits

-- the first law of a policy, of every number, also of those that no account can have
abbrev pub LawBeyond : Policy → Type 0
LawBeyond says =
    (k m dp dq cp cq x y : ℕ) → says k m dp dq cp cq ≡ true → y ≤ x → x ≤ dp → says k m (dp - x) (dq + y) cp cq ≡ true
