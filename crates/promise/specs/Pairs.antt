-- Two books that are called alike, each with its caller's desk: that they agree, and that they do after every call.
use Rattle.std.specs.Prelude.{◌≡◌, List, [], ◌∷◌}
use Rattle.meaning.specs.declared.order.Order.{Order}
use Rattle.journal.specs.declared.journal.Journal as journal
use Rattle.policy.specs.declared.policy.Policy as policy
use Rattle.book.specs.declared.book.Book.{Book}
use Rattle.promise.specs.declared.call.Call.{Call}
use Rattle.promise.specs.declared.desk.Desk.{Desk}
use Rattle.promise.specs.Made.{Calls}

-- two desks whose lists hold the same
pub record Alike (d e : Desk) : Type 0 where
  pub told : e.told.now ≡ d.told.now
  pub answers : e.answers.now ≡ d.answers.now
  pub lapses : e.lapses.now ≡ d.lapses.now
  pub bytes : e.bytes.now ≡ d.bytes.now

pub record Pair {J P K Q : Type 0}
    (j : journal.Ghosts J) (p : policy.Ghosts P) (k : journal.Ghosts K) (q : policy.Ghosts Q) : Type 0 where
  pub first : Book J P j p
  pub mine : Desk
  pub second : Book K Q k q
  pub theirs : Desk

module _ {J P K Q : Type 0}
    {j : journal.Ghosts J} {p : policy.Ghosts P} {k : journal.Ghosts K} {q : policy.Ghosts Q} where
  abbrev pub pair : Book J P j p → Desk → Book K Q k q → Desk → Pair j p k q
  pair b d b' d' = record { first = b; mine = d; second = b'; theirs = d' }

  -- entries, spare and moment are the same, reading ended alike, and the desks hold the same in every place
  pub record Agree (u : Pair j p k q) : Type 0 where
    pub entries : k.entries u.second.journal ≡ j.entries u.first.journal
    pub spare : k.spare u.second.journal ≡ j.spare u.first.journal
    pub moment : u.second.moment ≡ u.first.moment
    pub reading : u.second.reading ≡ u.first.reading
    pub desks : Alike u.mine u.theirs

  -- one call, on both books
  pub record CallsBoth (os : List Order) (c : Call) (u v : Pair j p k q) : Type 0 where
    pub first : Calls j p os u.first u.mine c v.first v.mine
    pub second : Calls k q os u.second u.theirs c v.second v.theirs

  -- the calls in order, each on both books, from u on to v: the two agree at first, and after every call
  abbrev pub Together : List Order → List Call → Pair j p k q → Pair j p k q → Type 0
  Together os [] u v = Agree u × (u ≡ v)
  Together os (c ∷ cs) u v = Agree u × ((w : Pair j p k q) × (CallsBoth os c u w × Together os cs w v))
