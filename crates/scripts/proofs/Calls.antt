-- Calls, one after another.
use Rattle.std.proofs.Common.{◌≡◌, ℕ, suc, false, cond, List, ◌∷◌, Ok, Err, Result, refl, ap, ◌∙◌, [], length}
use Rattle.std.specs.Prelude.{◌==◌}
use Rattle.scripts.specs.declared.bad.Bad.{Bad}
use Rattle.scripts.specs.declared.head.Head.{Head}
use Rattle.scripts.specs.Forms.{Call, then_do, call_at, calls_at}
use Rattle.scripts.specs.Readers.{whether}

whether_after : (c : Call) (r : Result (List Call) Bad) → whether (then_do r (λ cs. Ok (c ∷ cs))) ≡ whether r
whether_after c (Ok cs) = refl
whether_after c (Err b) = refl

-- what the next one adds
abbrev pub with_next_call : ℕ → Result (Call × List ℕ) Bad → Result (List Call) Bad
with_next_call k r = then_do r (λ r. then_do (calls_at k r.1) (λ cs. Ok (r.0 ∷ cs)))

pub calls_more : (k : ℕ) (bs : List ℕ) → (length bs == 0) ≡ false → calls_at (suc k) bs ≡ with_next_call k (call_at bs)
calls_more k bs more = ap (λ b. cond b (Ok []) (with_next_call k (call_at bs))) more

pub whether_more : (k : ℕ) (bs : List ℕ) (r : Call × List ℕ) → (length bs == 0) ≡ false → call_at bs ≡ Ok r → whether (calls_at (suc k) bs) ≡ whether (calls_at k r.1)
whether_more k bs r more is = ap whether (calls_more k bs more ∙ ap (with_next_call k) is) ∙ whether_after r.0 (calls_at k r.1)

pub whether_cut : (k : ℕ) (bs : List ℕ) (b : Bad) → (length bs == 0) ≡ false → call_at bs ≡ Err b → whether (calls_at (suc k) bs) ≡ Err b
whether_cut k bs b more is = ap whether (calls_more k bs more ∙ ap (with_next_call k) is)

-- a script that can be read has the calls behind its head
pub parts_of : (x : Result Head Bad) (y : Result (List Call) Bad) (h : Head) (cs : List Call) → then_do {Y = Head × List Call} x (λ h. then_do {Y = Head × List Call} y (λ cs. Ok (h, cs))) ≡ Ok (h, cs) → (x ≡ Ok h) × (y ≡ Ok cs)
parts_of (Ok a) (Ok b) h cs is = let e : ◌≡◌ {A = Head × List Call} (a, b) (h, cs) = cc in (ap (λ p. Ok p.0) e, ap (λ p. Ok p.1) e)
parts_of (Ok a) (Err b) h cs is = absurd (cc is)
parts_of (Err b) y h cs is = absurd (cc is)
