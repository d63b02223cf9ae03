-- Tables hold no more than there is room for.
use Rattle.std.proofs.Common.{◌≡◌, ◌≤◌, Bool, true, false, cond, ltb, List, [], ◌∷◌, ◌++◌, length, refl, arith}
use Rattle.std.proofs.lemmas.Bool.{ltb-true}
use Rattle.std.proofs.lemmas.List.{length_push}
use Rattle.meaning.specs.Basics.{put}
use Rattle.meaning.specs.declared.standing.Standing.{Standing}
use Rattle.ordered.specs.declared.line.Line.{Line}
use Rattle.ordered.specs.Orders.{line_before}
use Rattle.ordered.proofs.Orderly.{length-put}
use Rattle.balances.specs.Queues.{listed}
use Rattle.balances.specs.Contents.{Books, Few, line_of, opened_with}
use Rattle.balances.proofs.Tables.{books}

few_listed : (l : Line) (ls : List Line) → length ls ≤ 64 → length (listed l ls) ≤ 64
few_listed l ls le = go (ltb (length ls) 64) refl
  where
    go : (b : Bool) → ltb (length ls) 64 ≡ b → length (cond b (put line_before l ls) ls) ≤ 64
    go true e = omega (arith, length-put line_before l ls, ltb-true (length ls) 64 e)
    go false e = le

-- one account more, unless there are 64 already
pub few_opened : (s : Standing) (k : Books) → Few k → Few (opened_with s k)
few_opened s k few = go (ltb (length k.rows) 64) refl
  where
    go : (b : Bool) → ltb (length k.rows) 64 ≡ b → Few (cond b (books (k.rows ++ (s ∷ [])) k.held k.highest k.queue (listed (line_of s) k.lines)) k)
    go true e = (omega (arith, length_push k.rows s, ltb-true (length k.rows) 64 e), few_listed (line_of s) k.lines few.1)
    go false e = few
