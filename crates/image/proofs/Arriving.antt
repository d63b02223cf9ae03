-- Lapses take the image from one moment to a later one.
use Rattle.std.proofs.Common.{◌≡◌, ℕ, zero, suc, ◌+◌, ◌≤◌, Bool, true, false, cond, ◌&&◌, eqb, ltb, leb, List, [], ◌∷◌, map, Some, None, sym, refl, ap, ◌∙◌, subst, arith}
use Rattle.std.specs.List.{AllByRecursion as All, filter}
use Rattle.std.proofs.ByRecursion.{All-weaker}
use Rattle.std.proofs.lemmas.Bool.{eqb-true}
use Rattle.meaning.specs.declared.fate.Fate.{Fate}
use Rattle.meaning.specs.declared.fate.Fate.TheVariants.{Live, Lapsed}
use Rattle.meaning.specs.Fates.{decided}
use Rattle.meaning.specs.Given.{Journal, Reserved, accounts, reservations, the_reservation, due, fate, is_live}
use Rattle.meaning.specs.Rules.{Policy}
use Rattle.ordered.specs.declared.due.Due.{Due}
use Rattle.ordered.specs.Orders.{due_before}
use Rattle.ordered.specs.Keyed.{due_of}
use Rattle.ordered.specs.Rows.{without, Ordered}
use Rattle.ordered.proofs.Lawfully.{due_lawful}
use Rattle.ordered.proofs.Inserts.{in_order_ordered}
use Rattle.balances.specs.Lapses.{due_if, next_due, lapsed_if}
use Rattle.balances.specs.Queues.{first, due_count}
use Rattle.laws.specs.Steps.{Reads}
use Rattle.laws.proofs.Finds.{Distinct}
use Rattle.laws.proofs.Fates.{fates_go_on}
use Rattle.laws.proofs.Numbered.{key, numbered}
use Rattle.laws.proofs.Known.{akey, known}
use Rattle.image.specs.Image.{image_of, lapses}
use Rattle.image.proofs.Transferred.{all_of}
use Rattle.image.proofs.Releasing.{found_only, not_apart}
use Rattle.image.proofs.Ending.{waiting_by, image_by}
use Rattle.image.proofs.Waiting.{all_both, all_of_in_order, all_of_keys, Waits, queued, none_due}
use Rattle.image.proofs.Lapsing.{lapsing, one_lapse, queue_falls, same_image, idle}

module _ (J : Journal) (dist : Distinct key (reservations J)) (apart : Distinct akey (accounts J)) (t : ℕ) where
  -- at t, what is live by F and due by then has lapsed, and the rest is as F says
  abbrev pub Bound : (Reserved → Fate) → Reserved → Type 0
  Bound F Q = fate J t Q ≡ cond (is_live (F Q) && due Q.until t) Lapsed (F Q)

  not_yet : (F : Reserved → Fate) (Q : Reserved) → Bound F Q × (waiting_by F Q ≡ true → leb Q.until t ≡ false) → F Q ≡ fate J t Q
  not_yet F Q h = sym (h.0 ∙ ap (λ c. cond c Lapsed (F Q)) (no (is_live (F Q)) (ltb 0 Q.until) (leb Q.until t) h.1))
    where
      no : (x y z : Bool) → (x && y ≡ true → z ≡ false) → x && (y && z) ≡ false
      no true true z e = e refl
      no true false z e = refl
      no false y z e = refl

  arrived : (F : Reserved → Fate) → All (Bound F) (reservations J) → All (λ (e : Due). leb e.deadline t ≡ false) (image_by J F).queue → image_by J F ≡ image_by J (fate J t)
  arrived F b h =
      let rs = reservations J in
      let later : All (λ Q. waiting_by F Q ≡ true → leb Q.until t ≡ false) rs = all_of_keys (λ (e : Due). leb e.deadline t ≡ false) (waiting_by F) rs (all_of_in_order due_before (λ (e : Due). leb e.deadline t ≡ false) (map due_of (filter (waiting_by F) rs)) h) in
      same_image J F (fate J t) (All-weaker (λ Q. Bound F Q × (waiting_by F Q ≡ true → leb Q.until t ≡ false)) (λ Q. F Q ≡ fate J t Q) (not_yet F) rs (all_both (Bound F) (λ Q. waiting_by F Q ≡ true → leb Q.until t ≡ false) rs b later))

  still_bound : (F : Reserved → Fate) (R : Reserved) → is_live (F R) && due R.until t ≡ true → (Q : Reserved) → Bound F Q × (Q.number ≡ R.number → Q ≡ R) → Bound (lapsing R F) Q
  still_bound F R now Q h = go (eqb R.number Q.number) refl
    where
      go : (c : Bool) → eqb R.number Q.number ≡ c → fate J t Q ≡ cond (is_live (decided (cond c Lapsed Live) (F Q)) && due Q.until t) Lapsed (decided (cond c Lapsed Live) (F Q))
      go true e =
          let here : Q ≡ R = h.1 (sym (eqb-true R.number Q.number e)) in
          h.0 ∙ (ap (λ (Z : Reserved). cond (is_live (F Z) && due Z.until t) Lapsed (F Z)) here ∙ ap (λ c. cond c Lapsed (F R)) now)
      go false e = h.0

  abbrev Arrives : ℕ → (Reserved → Fate) → Type 0
  Arrives n F = lapses n t (image_by J F) ≡ image_by J (fate J t)

  stop : (n : ℕ) (F : Reserved → Fate) → All (Bound F) (reservations J) → (q : List Due) → (image_by J F).queue ≡ q → due_if t (first q) ≡ None → All (λ (e : Due). leb e.deadline t ≡ false) q → Arrives n F
  stop n F b q e none h = idle n t (image_by J F) (ap (λ ds. due_if t (first ds)) e ∙ none) ∙ arrived F b (subst (All (λ (x : Due). leb x.deadline t ≡ false)) (sym e) h)

  -- the first of the queue is due
  module _ (n : ℕ) (F : Reserved → Fate) (b : All (Bound F) (reservations J)) (d : Due) (ds : List Due) (e : (image_by J F).queue ≡ d ∷ ds) (now : leb d.deadline t ≡ true) where
    module _ (R : Reserved) (found : the_reservation J R.number ≡ Some R) (waits : waiting_by F R ≡ true) (is : due_of R ≡ d) where
      live_due : is_live (F R) && due R.until t ≡ true
      live_due = go (is_live (F R)) (ltb 0 R.until) waits
        where
          come : leb R.until t ≡ true
          come = ap (λ (x : Due). leb x.deadline t) is ∙ now

          go : (x y : Bool) → x && y ≡ true → x && (y && leb R.until t) ≡ true
          go true true h = come
          go true false h = h
          go false y h = h

      alive : is_live (F R) ≡ true
      alive = go (is_live (F R)) waits
        where
          go : (x : Bool) → x && ltb 0 R.until ≡ true → x ≡ true
          go true h = refl
          go false h = h

      rest_queue : (image_by J (lapsing R F)).queue ≡ ds
      rest_queue =
          sym (queue_falls J dist apart F R found alive)
          ∙ (ap (without due_before (due_of R)) (e ∙ ap (λ x. x ∷ ds) (sym is))
          ∙ ap (λ c. cond c (due_of R ∷ without due_before (due_of R) ds) ds) (not_apart R))

      bound_after : All (Bound (lapsing R F)) (reservations J)
      bound_after = All-weaker (λ Q. Bound F Q × (Q.number ≡ R.number → Q ≡ R)) (Bound (lapsing R F)) (still_bound F R live_due) (reservations J) (all_both (Bound F) (λ Q. Q.number ≡ R.number → Q ≡ R) (reservations J) b (found_only key R.number (reservations J) R dist found))

      after_one : ((G : Reserved → Fate) → All (Bound G) (reservations J) → due_count t (image_by J G).queue ≤ n → Arrives n G) → due_count t ds ≤ n → Arrives (suc n) F
      after_one ih le =
          let head : next_due t (image_by J F) ≡ Some (due_of R) = ap (λ q. due_if t (first q)) e ∙ (ap (λ c. cond c (Some d) None) now ∙ ap Some (sym is)) in
          ap (λ o. lapses n t (lapsed_if o (image_by J F))) head
          ∙ (ap (lapses n t) (one_lapse J dist apart F R found alive)
          ∙ ih (lapsing R F) bound_after (subst (λ q. due_count t q ≤ n) (sym rest_queue) le))

    pub first-lapses : ((G : Reserved → Fate) → All (Bound G) (reservations J) → due_count t (image_by J G).queue ≤ n → Arrives n G) → due_count t ds ≤ n → Arrives (suc n) F
    first-lapses ih le =
        let w = (subst (All (Waits (waiting_by F) (reservations J))) e (queued (waiting_by F) (reservations J) dist)).0 in
        after_one w.0 w.1 w.2 w.3 ih le

    pub counts : due_count t (image_by J F).queue ≡ 1 + due_count t ds
    counts = ap (due_count t) e ∙ ap (λ c. cond c (1 + due_count t ds) 0) now

  cases : (n : ℕ) (F : Reserved → Fate) → All (Bound F) (reservations J) → ((d : Due) (ds : List Due) → (image_by J F).queue ≡ d ∷ ds → leb d.deadline t ≡ true → Arrives n F) → (q : List Due) → (image_by J F).queue ≡ q → Arrives n F
  cases n F b more [] e = stop n F b [] e refl tt
  cases n F b more (d ∷ ds) e = go (leb d.deadline t) refl
    where
      go : (c : Bool) → leb d.deadline t ≡ c → Arrives n F
      go true h = more d ds e h
      go false h = stop n F b (d ∷ ds) e (ap (λ c. cond c (Some d) None) h) (none_due t d ds (subst (Ordered due_before) e (in_order_ordered due_before due_lawful (map due_of (filter (waiting_by F) (reservations J))))) h)

  pub arrives : (n : ℕ) (F : Reserved → Fate) → All (Bound F) (reservations J) → due_count t (image_by J F).queue ≤ n → Arrives n F
  arrives zero F b le = cases zero F b (λ d ds e h. let c = counts zero F b d ds e h in absurd (omega arith)) (image_by J F).queue refl
  arrives (suc n) F b le = cases (suc n) F b (λ d ds e h. let c = counts n F b d ds e h in first-lapses n F b d ds e h (arrives n) (omega arith)) (image_by J F).queue refl

pub by_lapses : (policy : Policy) (J : Journal) → Reads policy J → (T t n : ℕ) → T ≤ t → due_count t (image_of J T).queue ≤ n → lapses n t (image_of J T) ≡ image_of J t
by_lapses policy J h T t n le c = arrives J (numbered policy J h).distinct (known policy J h).apart t n (fate J T) (all_of _ (λ Q. (fates_go_on J T Q).by_time t le) (reservations J)) c
