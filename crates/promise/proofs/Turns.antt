-- One call more of a list of calls.
use Rattle.std.proofs.Common.{◌≡◌, ℕ, ◌+◌, ◌<◌, List, [], ◌++◌, length, get_or, drop, sym, refl, ap, ◌∙◌, subst}
use Rattle.std.proofs.lemmas.List.{drop_more, append_assoc}
use Rattle.meaning.specs.declared.order.Order.{Order}
use Rattle.meaning.specs.declared.record.Record.{Record}
use Rattle.meaning.specs.Rules.{Policy}
use Rattle.journal.specs.declared.journal.Journal as journal
use Rattle.policy.specs.declared.policy.Policy as policy
use Rattle.steps.specs.Written.{Wrote}
use Rattle.steps.proofs.Writes.{wrote_none, wrote_then}
use Rattle.book.specs.declared.book.Book.{Book}
use Rattle.book.specs.States.{policy_of}
use Rattle.promise.specs.declared.call.Call.{Call}
use Rattle.promise.specs.declared.desk.Desk.{Desk}
use Rattle.promise.specs.Made.{Same, world_of, Calls}
use Rattle.promise.specs.Worlds.{next, adds, final, adds_all}

pub same_then : (d e f : Desk) → Same d e → Same e f → Same d f
same_then d e f p q = record { told = q.told ∙ p.told; answers = q.answers ∙ p.answers; lapses = q.lapses ∙ p.lapses; bytes = q.bytes ∙ p.bytes }

module _ {J P : Type 0} (j : journal.Ghosts J) (p : policy.Ghosts P) (os : List Order) (b : Book J P j p) (d : Desk) (cs : List Call) where
  abbrev admits : Policy
  admits = policy_of j p b

  -- after i calls: what is left leads to the same end, and what was written so far with what is left is all
  pub record Along (i : ℕ) (b' : Book J P j p) (d' : Desk) : Type 0 where
    pub new : List Record
    pub left : final admits os (world_of j p b' d') (drop i cs) ≡ final admits os (world_of j p b d) cs
    pub adds_left : new ++ adds_all admits os (world_of j p b' d') (drop i cs) ≡ adds_all admits os (world_of j p b d) cs
    pub wrote : Wrote j b.journal new b'.journal
    pub policy : b'.policy ≡ b.policy
    pub reading : b'.reading ≡ b.reading

  pub along_none : Along 0 b d
  along_none = record { new = []; left = refl; adds_left = refl; wrote = wrote_none j b.journal; policy = refl; reading = refl }

  pub along_more : (i : ℕ) (o : Call) (b' b'' : Book J P j p) (d' d'' : Desk) → i < length cs → Along i b' d' → Calls j p os b' d' (get_or cs i o) b'' d'' → Along (i + 1) b'' d''
  along_more i o b' b'' d' d'' lt A M =
      let c = get_or cs i o in
      let w = world_of j p b' d' in
      let same : policy_of j p b' ≡ admits = ap p.admits A.policy in
      let reached : world_of j p b'' d'' ≡ next admits os w c = M.world ∙ ap (λ q. next q os w c) same in
      let added : List Record = adds admits os w c in
      record {
        new = A.new ++ added;
        left = ap (λ v. final admits os v (drop (i + 1) cs)) reached ∙ (ap (final admits os w) (sym (drop_more cs i o lt)) ∙ A.left);
        adds_left = append_assoc A.new added (adds_all admits os (world_of j p b'' d'') (drop (i + 1) cs))
            ∙ (ap (λ v. A.new ++ (added ++ adds_all admits os v (drop (i + 1) cs))) reached ∙ (ap (λ v. A.new ++ adds_all admits os w v) (sym (drop_more cs i o lt)) ∙ A.adds_left));
        wrote = wrote_then j b.journal b'.journal b''.journal A.new added A.wrote (subst (λ q. Wrote j b'.journal (adds q os w c) b''.journal) same M.wrote);
        policy = M.policy ∙ A.policy;
        reading = M.reading ∙ A.reading;
      }
