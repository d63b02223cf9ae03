-- What is found in a memory to which entries were appended.
use Rattle.std.proofs.Common.{◌≡◌, ℕ, ◌+◌, ◌-◌, ◌*◌, ◌≤◌, ◌<◌, ◌/◌, min, drop, Bool, true, false, cond, List, [], ◌∷◌, ◌++◌, length, Some, None, Option, sym, refl, ap, ◌∙◌, arith}
use Rattle.std.proofs.lemmas.List.{length-append, append-nil}
use Rattle.std.specs.List.{cons_option}
use Rattle.meaning.specs.declared.entry.Entry.{Entry}
use Rattle.meaning.specs.declared.order.Order.{Order}
use Rattle.meaning.specs.declared.record.Record.{Record}
use Rattle.meaning.specs.declared.refusal.Refusal.{Refusal}
use Rattle.meaning.specs.Batches.{Answer}
use Rattle.meaning.specs.Calls.{State, unless, ran, run_writes, runs_not}
use Rattle.meaning.specs.Made.{entry_of}
use Rattle.meaning.specs.Reading.{reading as reading_of}
use Rattle.meaning.specs.Rules.{Policy}
use Rattle.laws.proofs.Fits.{batch-fits}
use Rattle.journal.specs.declared.strip.Strip.{Strip}
use Rattle.journal.specs.Strips.{is_strip, room, held, listed, written_all, used_of, made_bytes, made_list, made_spare}
use Rattle.journal.proofs.Again.{lists_again}
use Rattle.journal.proofs.Held.{length-blocks}
use Rattle.steps.specs.Written.{entries_of, records_of}
use Rattle.reading.specs.Stands.{start_of}
use Rattle.clients.specs.Rounds.{found, left}

-- a batch writes no more than there is room for
no_more_entries : (fs : List Record) → length (entries_of fs) ≤ length fs
no_more_entries [] = omega arith
no_more_entries (f ∷ fs) = omega (arith, go (entry_of f) (no_more_entries fs))
  where
    go : (o : Option Entry) → length (entries_of fs) ≤ length fs → length (cons_option o (entries_of fs)) ≤ length fs + 1
    go None le = omega arith
    go (Some e) le = omega arith

pub writes_within : (policy : Policy) (s : State) (os : List Order) (ans : List Answer) → length (entries_of (run_writes policy s os ans)) ≤ s.spare
writes_within policy s os ans = go (runs_not policy s os ans)
  where
    go : (o : Option Refusal) → length (entries_of (unless o (ran policy s os).entries [])) ≤ s.spare
    go None = omega (arith, no_more_entries (ran policy s os).entries, (batch-fits policy s.journal s.moment s.spare os).within_spare)
    go (Some r) = omega arith

-- memory with room begins with the version
begins : (m : List ℕ) → 0 < room m → is_strip m ≡ true
begins m lt = go (is_strip m) lt
  where
    go : (b : Bool) → 0 < cond b ((length m - 1) / 48) 0 → b ≡ true
    go true lt = refl
    go false lt = absurd (omega arith)

module _ (m : List ℕ) (u : ℕ) (m' : List ℕ) (c : ℕ) where
  same_version : (es : List Entry) → m' ≡ written_all (made_bytes m u) (length (made_list m u)) es → length (listed m' c) ≡ length (made_list m u) + length es → length es ≤ made_spare m u → is_strip m' ≡ is_strip (made_bytes m u)
  unfolding made_spare
  same_version [] bytes long fits = ap is_strip bytes
  same_version (e ∷ es) bytes long fits = begins m' (omega (arith, long, length-blocks (min c (room m')) (drop 1 m'))) ∙ sym (begins (made_bytes m u) (omega arith))

  -- a strip made again of these bytes lists what was there and what was appended
  pub found_again : (es : List Entry) → m' ≡ written_all (made_bytes m u) (length (made_list m u)) es → listed m' c ≡ made_list m u ++ es → length es ≤ made_spare m u → made_list m' (used_of m' (length (listed m' c))) ≡ made_list m u ++ es
  found_again es bytes list fits =
      let long = ap length list ∙ length-append (made_list m u) es in
      ap (λ x. made_list x (used_of m' (length (listed m' c)))) bytes
      ∙ (ap (λ b. made_list (written_all (made_bytes m u) (length (made_list m u)) es) (cond b (1 + 48 * length (listed m' c)) 0)) (same_version es bytes long fits)
      ∙ (ap (λ n. made_list (written_all (made_bytes m u) (length (made_list m u)) es) (used_of (made_bytes m u) n)) long ∙ lists_again m u es fits))

-- the memory of a strip that was made, and its list, when the batch has written
module _ (m : List ℕ) (u : ℕ) (S S' : Strip) (same : S' ≡ S) (new new' : List Record) (alike : new ≡ new') where
  pub bytes_left : (m' : List ℕ) → ◌≡◌ {A = List (List ℕ)} (m' ∷ []) (written_all S'.memory.now (held S'.memory.now S'.count) (entries_of new ++ []) ∷ []) → S.memory.now ≡ made_bytes m u → held S.memory.now S.count ≡ length (made_list m u) → m' ≡ left m u new'
  bytes_left m' one bytes count =
      let added = entries_of new ++ [] in
      let w : m' ≡ written_all S'.memory.now (held S'.memory.now S'.count) added = cc in
      w ∙ (ap (λ (x : Strip). written_all x.memory.now (held x.memory.now x.count) added) same
      ∙ (ap (λ x. written_all x (held S.memory.now S.count) added) bytes
      ∙ (ap (λ n. written_all (made_bytes m u) n added) count
      ∙ (ap (written_all (made_bytes m u) (length (made_list m u))) (append-nil (entries_of new)) ∙ ap (left m u) alike))))

  pub list_left : (es : List Entry) → es ≡ listed S'.memory.now S'.count ++ entries_of new → listed S.memory.now S.count ≡ made_list m u → es ≡ made_list m u ++ entries_of new'
  list_left es e list = e ∙ (ap (λ (x : Strip). listed x.memory.now x.count ++ entries_of new) same ∙ (ap (λ xs. xs ++ entries_of new) list ∙ ap (λ (fs : List Record). made_list m u ++ entries_of fs) alike))

-- A book over a strip begins with what the memory gives.
module _ (policy : Policy) (m : List ℕ) (u : ℕ) (S S' : Strip) (T : ℕ) where
  abbrev start : State
  start = record { journal = records_of (listed S'.memory.now S'.count); moment = T; spare = room S'.memory.now - S'.count }

  starts_as_found : S' ≡ S → listed S.memory.now S.count ≡ made_list m u → room S.memory.now - S.count ≡ made_spare m u → T ≡ start_of (reading_of policy (records_of (listed S.memory.now S.count))) (records_of (listed S.memory.now S.count)) → start ≡ found m u policy
  starts_as_found same list spare moment =
      let J = ap (λ (x : Strip). records_of (listed x.memory.now x.count)) same ∙ ap records_of list in
      let t = moment ∙ ap (λ es. start_of (reading_of policy (records_of es)) (records_of es)) list in
      let left = ap (λ (x : Strip). room x.memory.now - x.count) same ∙ spare in
      λ i. record { journal = J i; moment = t i; spare = left i }

  -- and its batch writes what the rules write from there
  pub writes_as_found : (policy' : Policy) → policy' ≡ policy → S' ≡ S → listed S.memory.now S.count ≡ made_list m u → room S.memory.now - S.count ≡ made_spare m u → T ≡ start_of (reading_of policy (records_of (listed S.memory.now S.count))) (records_of (listed S.memory.now S.count))
      → (os : List Order) (ans : List Answer) → run_writes policy' start os ans ≡ run_writes policy (found m u policy) os ans
  writes_as_found policy' e same list spare moment os ans = ap (λ a. run_writes a start os ans) e ∙ ap (λ x. run_writes policy x os ans) (starts_as_found same list spare moment)
