-- A journal that reads has at most 256 reservations, so 256 places are enough for every move.
use Rattle.std.proofs.Common.{◌≡◌, ℕ, ◌<◌, ◌≤◌, Bool, ◌&&◌, ltb, leb, [], ◌∷◌, length, None, arith}
use Rattle.std.proofs.lemmas.List.{length-map}
use Rattle.std.proofs.lemmas.Bool.{le-ltb}
use Rattle.std.specs.List.{filter}
use Rattle.meaning.specs.declared.content.Content.{Content}
use Rattle.meaning.specs.declared.content.Content.TheVariants.{Account, Transfer, Reserve, Post, Void}
use Rattle.meaning.specs.Given.{Journal, Reserved, reservations, with_reservation, fate, is_live}
use Rattle.meaning.specs.Moves.{sooner, awaiting, lapse_list, move_refused}
use Rattle.meaning.specs.Rules.{Policy, movement_refused, room_refused, refused}
use Rattle.meaning.specs.Sound.{last}
use Rattle.laws.specs.Steps.{Reads}
use Rattle.image.proofs.Held.{length-filter-le}
use Rattle.laws.proofs.Passes.{both_none, reads_prefix, reads_rules}
use Rattle.image.proofs.Opened.{length-in_order}

room_found : (J : Journal) → room_refused (length (reservations J)) ≡ None → length (reservations J) < 256
room_found J e = grind arith

few_more : (policy : Policy) (J : Journal) (T n : ℕ) (k : Content) → length (reservations J) ≤ 256 → refused policy J T n k ≡ None → length (with_reservation n k (reservations J)) ≤ 256
few_more policy J T n (Account l c m b) h e = h
few_more policy J T n (Transfer d c z) h e = h
few_more policy J T n (Reserve d c z u) h e =
    let r = room_found J (both_none (movement_refused policy J T n d c z 0) (room_refused (length (reservations J))) e).1 in
    omega arith
few_more policy J T n (Post r z) h e = h
few_more policy J T n (Void r) h e = h

pub few_reservations : (policy : Policy) (J : Journal) → Reads policy J → length (reservations J) ≤ 256
few_reservations policy [] h = omega arith
few_reservations policy (e ∷ J) h = few_more policy J e.moment e.number e.content (few_reservations policy J (reads_prefix policy e J h)) (reads_rules policy e J h)

few_lapses : (J : Journal) (T t : ℕ) → length (lapse_list J T t) ≤ length (reservations J)
few_lapses J T t =
    let waits : Reserved → Bool = λ R. is_live (fate J T R) && ltb 0 R.until in
    let a = length-map (filter (λ R. leb R.until t) (awaiting J T)) (λ (R : Reserved). R.number) in
    let b = length-filter-le (λ (R : Reserved). leb R.until t) (awaiting J T) in
    let c = length-in_order sooner (filter waits (reservations J)) in
    let d = length-filter-le waits (reservations J) in
    omega arith

-- a move with 256 places is not refused, if it goes on and not past the last moment
pub arrives : (policy : Policy) (J : Journal) → Reads policy J → (T t : ℕ) → T ≤ t → t ≤ last → move_refused J T t 256 ≡ None
arrives policy J h T t le bound =
    let few = few_reservations policy J h in
    let lapse = few_lapses J T t in
    let a = le-ltb last t bound in
    let b = le-ltb t T le in
    let c = le-ltb 256 (length (lapse_list J T t)) (omega arith) in
    rw (a, b, c)
