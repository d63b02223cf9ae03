-- A script that was read in whole, or could not be.
use Rattle.std.proofs.Common.{◌≡◌, ℕ, List, length, drop, Ok, Err, Result, refl, ap, sym, subst, ◌∙◌}
use Rattle.scripts.specs.declared.bad.Bad.{Bad}
use Rattle.scripts.specs.declared.head.Head.{Head}
use Rattle.scripts.specs.Forms.{Call, head_at, calls_at, script_at, then_do}
use Rattle.scripts.specs.Made.{Ends}
use Rattle.scripts.specs.Readers.{to_run}
use Rattle.scripts.proofs.Calls.{parts_of}

module _ (script : List ℕ) where
  abbrev with_bytes : Result (Head × List Call) Bad → Result (Head × List ℕ) Bad
  with_bytes r = then_do r (λ s. Ok (s.0, drop 14 script))

  -- it ends as its head and its calls do
  pub as_read : (h : Head) (bs m o m' o' : List ℕ) (r : ℕ × Result (Unit {0}) Bad) → Ok (h, bs) ≡ to_run script → ((cs : List Call) → calls_at (length bs) bs ≡ Ok cs → Ends (Ok (h, cs)) m o r m' o') → Ends (script_at script) m o r m' o'
  as_read h bs m o m' o' r seen run = go (script_at script) refl
    where
      go : (x : Result (Head × List Call) Bad) → script_at script ≡ x → Ends (script_at script) m o r m' o'
      go (Ok s) is =
          let whole : Ok (h, bs) ≡ Ok (s.0, drop 14 script) = seen ∙ ap with_bytes is in
          let both : (h, bs) ≡ (s.0, drop 14 script) = cc in
          let read : calls_at (length bs) bs ≡ Ok s.1 = ap (λ (p : Head × List ℕ). calls_at (length p.1) p.1) both ∙ (parts_of (head_at script) _ s.0 s.1 is).1 in
          subst (λ x. Ends x m o r m' o') (ap (λ (p : Head × List ℕ). Ok (p.0, s.1)) both ∙ sym is) (run s.1 read)
      go (Err b) is = absurd (let no : Ok (h, bs) ≡ Err b = seen ∙ ap with_bytes is in cc no)

  -- it ends by what is bad in it
  pub not_read : (b : Bad) (m o : List ℕ) → Err b ≡ to_run script → Ends (script_at script) m o (0, Err b) m o
  not_read b m o seen = go (script_at script) refl
    where
      go : (x : Result (Head × List Call) Bad) → script_at script ≡ x → Ends (script_at script) m o (0, Err b) m o
      go (Ok s) is = absurd (let no : Err b ≡ Ok (s.0, drop 14 script) = seen ∙ ap with_bytes is in cc no)
      go (Err x) is =
          let whole : Err b ≡ Err x = seen ∙ ap with_bytes is in
          let same : b ≡ x = cc in
          subst (λ y. Ends y m o (0, Err b) m o) (ap Err same ∙ sym is) (record { ended = refl; written = refl; memory = refl; output = refl })
