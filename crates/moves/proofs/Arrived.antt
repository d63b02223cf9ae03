-- A move on the image of journal and moment is the move that the journal and the two moments define.
use Rattle.std.proofs.Common.{◌≡◌, ℕ, ◌≤◌, Bool, true, false, cond, leb, List, [], ◌∷◌, ◌++◌, map, length, take, drop, Some, None, Ok, Err, sym, refl, ap, ◌∙◌, arith, length-take}
use lib.ListN.{length-map}
use Rattle.std.proofs.lemmas.Bool.Decides.{nat_tests}
use Rattle.std.specs.List.{filter}
use Rattle.meaning.specs.declared.refusal.Refusal.{Refusal}
use Rattle.meaning.specs.Given.{Journal, Reserved, reservations}
use Rattle.meaning.specs.Rules.{Policy}
use Rattle.meaning.specs.Moves.{sooner, awaiting, lapse_list, first_deadline, next_deadline, move_refused, refused_with}
use Rattle.meaning.specs.Calls.{over}
use Rattle.ordered.specs.Orders.{due_before}
use Rattle.ordered.specs.Keyed.{due_of}
use Rattle.ordered.proofs.Keyed.{map-in_order}
use Rattle.ordered.proofs.Inserts.{in_order_ordered}
use Rattle.ordered.proofs.Lawfully.{due_lawful}
use Rattle.balances.specs.Books.{Books}
use Rattle.balances.specs.Lapses.{deadline_in}
use Rattle.balances.specs.Queues.{first, due_count}
use Rattle.laws.specs.Steps.{Reads}
use Rattle.image.specs.Image.{waiting, image_of, lapses}
use Rattle.image.proofs.Arriving.{by_lapses}
use Rattle.moves.specs.Turns.{filled_in}
use Rattle.moves.specs.MovesOn.{MovesOn}
use Rattle.moves.proofs.Falling.{number_of, is_due, due_front, due_within, front_filled}

-- the queue of the image holds the keys of those that wait
queue_of : (J : Journal) (T : ℕ) → map due_of (awaiting J T) ≡ (image_of J T).queue
queue_of J T = map-in_order sooner due_before due_of (λ R S. refl) (filter (waiting J T) (reservations J))

abbrev number : Reserved → ℕ
number R = R.number

abbrev falls : ℕ → Reserved → Bool
falls t R = leb R.until t

filtered_keys : (t : ℕ) (rs : List Reserved) → map number (filter (falls t) rs) ≡ map number_of (filter (is_due t) (map due_of rs))
filtered_keys t [] = refl
filtered_keys t (R ∷ rs) = by (falls t R) (filtered_keys t rs)
  where
    by : (b : Bool) → map number (filter (falls t) rs) ≡ map number_of (filter (is_due t) (map due_of rs)) → map number (cond b (R ∷ filter (falls t) rs) (filter (falls t) rs)) ≡ map number_of (cond b (due_of R ∷ filter (is_due t) (map due_of rs)) (filter (is_due t) (map due_of rs)))
    by true r = ap (λ ns. R.number ∷ ns) r
    by false r = r

first_key : (rs : List Reserved) → deadline_in (first (map due_of rs)) ≡ first_deadline rs
first_key [] = refl
first_key (R ∷ rs) = refl

next-deadline : (J : Journal) (t : ℕ) → deadline_in (first (image_of J t).queue) ≡ next_deadline J t
next-deadline J t = ap (λ q. deadline_in (first q)) (sym (queue_of J t)) ∙ first_key (awaiting J t)

-- what falls due is the front of the queue
lapsed_front : (J : Journal) (T t : ℕ) → lapse_list J T t ≡ map number_of (take (due_count t (image_of J T).queue) (image_of J T).queue)
lapsed_front J T t =
    filtered_keys t (awaiting J T)
    ∙ (ap (λ q. map number_of (filter (is_due t) q)) (queue_of J T)
    ∙ ap (map number_of) (due_front t (image_of J T).queue (in_order_ordered due_before due_lawful (map due_of (filter (waiting J T) (reservations J))))))

lapsed_count : (J : Journal) (T t : ℕ) → length (lapse_list J T t) ≡ due_count t (image_of J T).queue
lapsed_count J T t =
    let q = (image_of J T).queue in
    let w = due_within t q in
    ap length (lapsed_front J T t) ∙ (length-map (take (due_count t q) q) number_of ∙ simp length-take (omega arith))

module _ (policy : Policy) (J : Journal) (reads : Reads policy J) (T t : ℕ) (k : Books) (is : k ≡ image_of J T) (n : ℕ) (count : n ≡ due_count t k.queue) where
  pub all_lapse : T ≤ t → lapses n t k ≡ image_of J t
  all_lapse le =
      let c : n ≡ due_count t (image_of J T).queue = count ∙ ap (λ (x : Books). due_count t x.queue) is in
      ap (lapses n t) is ∙ by_lapses policy J reads T t n le (omega arith)

  same_count : n ≡ length (lapse_list J T t)
  same_count = count ∙ (ap (λ (x : Books). due_count t x.queue) is ∙ sym (lapsed_count J T t))

  module _ (ls : List ℕ) where
    same_refusal : refused_with T t (length ls) n ≡ move_refused J T t (length ls)
    same_refusal = ap (refused_with T t (length ls)) same_count

    pub refused_move : (r : Refusal) → refused_with T t (length ls) n ≡ Some r → MovesOn J T t ls (Err r) ls k
    refused_move r e =
        let m : move_refused J T t (length ls) ≡ Some r = sym same_refusal ∙ e in
        record { answer = rw m; lapses = rw m; tables = rw m is }

    -- a move that is taken, with m places
    module _ (e : refused_with T t (length ls) n ≡ None) (m : ℕ) (places : m ≡ n) where
      in_time : T ≤ t
      in_time = grind (arith, nat_tests)

      as_many : length (take m ls) ≡ n
      as_many = let enough : n ≤ length ls = grind (arith, nat_tests) in simp length-take (omega arith)

      numbers : filled_in t k (take m ls) ≡ lapse_list J T t
      numbers =
          let all = as_many in
          front_filled t k (take m ls) (omega arith)
          ∙ (ap (λ x. map number_of (take x k.queue)) (all ∙ count)
          ∙ (ap (λ (x : Books). map number_of (take (due_count t x.queue) x.queue)) is ∙ sym (lapsed_front J T t)))

      pub taken_move : (k' : Books) → k' ≡ lapses (length (take m ls)) t k → (d : ℕ) → d ≡ deadline_in (first k'.queue) → (ns : List ℕ) → ns ≡ filled_in t k (take m ls) → MovesOn J T t ls (Ok (record { lapsed = n; next_deadline = d })) (ns ++ drop m ls) k'
      taken_move k' after d next ns written =
          let none : move_refused J T t (length ls) ≡ None = sym same_refusal ∙ e in
          let there : k' ≡ image_of J t = after ∙ (ap (λ x. lapses x t k) as_many ∙ all_lapse in_time) in
          let left : d ≡ next_deadline J t = next ∙ (ap (λ (x : Books). deadline_in (first x.queue)) there ∙ next-deadline J t) in
          let front : ns ++ drop m ls ≡ over (lapse_list J T t) ls = λ i. (written ∙ numbers) i ++ drop ((places ∙ same_count) i) ls in
          record { answer = rw none (λ i. Ok (record { lapsed = same_count i; next_deadline = left i })); lapses = rw none front; tables = rw none there }
