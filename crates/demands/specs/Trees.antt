-- Trees of calls: rings of samples and records read, joined, added and turned about in any order, wherever no step is refused. The corners are those of the ring
-- of all streams behind: of a join the streams behind both rings, of a sum every stream behind the one added to every stream behind the other, of a ring turned
-- about, and of one read from a coming-from record, those behind it with both signs changed. So a tree may be rearranged anywhere and leaves the same lists: joins and sums in any order and grouping, repeats
-- and empty envelopes joined; adding spreads over joining, and turning about over both. On every course the strongest set of a sum is the sum of the two strongest
-- sets. A call is any that the entry's own promise allows. Assumes nothing.
use Rattle.std.specs.Prelude.{◌≡◌, refl, cond, ◌↔◌, ℕ, ℤ, ◌+ℤ◌, length, take, Ok}
use Rattle.std.proofs.Common.{sym, ap, ap₂, ◌∙◌, subst, subst₂}
use mathlib.Core.List.{List, [], ◌++◌, map, map-append, append-nil, append_assoc, Memᴰ}
use Rattle.rules.specs.Streams.{Stream, streams, turned}
use Rattle.rules.specs.Ring.{ring}
use Rattle.rules.specs.Use.{join, sums, sum, turn_about}
use Rattle.rules.specs.Record.{coming_from, in_sense, sense, stored}
use Rattle.rules.specs.Entries.{easts, norths}
use Rattle.laws_outline.specs.ListLaws.{map-twice}
use Rattle.laws_outline.specs.Sidedness.{turned-twice as stream-twice}
use Rattle.laws_outline.specs.SameOutline.{ring_members}
use Rattle.laws_rings.specs.Rings.{envelope-ring}
use Rattle.laws_rings.specs.FewestCorners.{no_samples}
use Rattle.laws_rings.specs.Joins as joins
use Rattle.laws_rings.specs.Turning.{turn-ring}
use Rattle.laws_sums.specs.Sums as adds
use Rattle.laws_records.specs.InSense.{sense-ring}
use Rattle.samples.specs.Samples.{streams-easts, streams-norths}
use Rattle.demands.specs.Done.{Left, left_even, left-ring}
use Rattle.demands.specs.Ringed as rings
use Rattle.demands.specs.Records as records
use Rattle.demands.specs.RingTurned as turns
use Rattle.demands.specs.TwoRings.{east, north, east2, north2, east_after, north_after}
use Rattle.demands.specs.Joined.{Joining, joining_done}
use Rattle.demands.specs.Added.{Adding, adding_done}
use Rattle.demands.specs.Strongest as strongest

-- a ring that comes of calls that are done, and all streams behind it: the ring of samples, a record that was read, of whatever streams its corners are the ring, two
-- rings joined, two added, or one turned about
pub data Made : List Stream → List ℤ → List ℤ → Type 1 where
  ringed_by : (c : rings.Ringing) {n : ℕ} → c.answer ≡ Ok n
      → Made (rings.samples c) (take n (rings.east_after c)) (take n (rings.north_after c))
  read_by : (xs : List Stream) (c : records.Reading) {n : ℕ} → c.answer ≡ Ok n → stored (records.bytes c) ≡ ring xs
      → Made (records.as_meant c xs) (take n (records.east_after c)) (take n (records.north_after c))
  joined_by : {xs ys : List Stream} (c : Joining) {n : ℕ} → c.answer ≡ Ok n → Made xs (east c) (north c) → Made ys (east2 c) (north2 c)
      → Made (xs ++ ys) (take n (east_after c)) (take n (north_after c))
  added_by : {xs ys : List Stream} (c : Adding) {n : ℕ} → c.answer ≡ Ok n → Made xs (east c) (north c) → Made ys (east2 c) (north2 c)
      → Made (sums xs ys) (take n (east_after c)) (take n (north_after c))
  turned_by : {xs : List Stream} (c : turns.Turning) {n : ℕ} → c.answer ≡ Ok n → Made xs (turns.east c) (turns.north c)
      → Made (map turned xs) (take n (turns.east_after c)) (take n (turns.north_after c))

-- such streams are always the corners as stored
pub read-stored : (c : records.Reading) {n : ℕ} → c.answer ≡ Ok n
    → Made (records.as_meant c (stored (records.bytes c))) (take n (records.east_after c)) (take n (records.north_after c))
read-stored c e =
    let xs = stored (records.bytes c) in
    read_by xs c e (sym ((envelope-ring xs).0 (records.reading_done c e).ring-stored))

-- two lists that are the parts of a ring
record Parts (r : List Stream) (es ns : List ℤ) : Type 0 where
  even : length es ≡ length ns
  ring-is : streams es ns ≡ r

parts_of : {r R : List Stream} {n : ℕ} {es ns : List ℤ} → Left r n es ns → r ≡ R → Parts R (take n es) (take n ns)
parts_of l e = record { even = left_even l; ring-is = left-ring l ∙ e }

-- one ring has no others
parts_only : {r R : List Stream} {es ns fs ms : List ℤ} → Parts r es ns → Parts R fs ms → r ≡ R → (es ≡ fs) × (ns ≡ ms)
parts_only {es} {ns} {fs} {ms} a b h =
    let r : streams es ns ≡ streams fs ms = a.ring-is ∙ h ∙ sym b.ring-is in (
      sym (streams-easts es ns a.even) ∙ ap easts r ∙ streams-easts fs ms b.even,
      sym (streams-norths es ns a.even) ∙ ap norths r ∙ streams-norths fs ms b.even,
    )

made : {xs : List Stream} {es ns : List ℤ} → Made xs es ns → Parts (ring xs) es ns
made (ringed_by c e) = parts_of (rings.ringing_done c e).left refl
made (read_by xs c e h) =
    let s = sense (records.bytes c) in
    parts_of (records.reading_done c e).left (ap (in_sense s) h ∙ sense-ring s xs)
made (joined_by {xs} {ys} c e a b) = parts_of (joining_done c e).left (ap₂ join (made a).ring-is (made b).ring-is ∙ joins.join_rings xs ys)
made (added_by {xs} {ys} c e a b) = parts_of (adding_done c e).left (ap₂ sum (made a).ring-is (made b).ring-is ∙ adds.sum_rings xs ys)
made (turned_by {xs} c e a) = parts_of (turns.turning_done c e).left (ap turn_about (made a).ring-is ∙ turn-ring xs)

-- THE LAW: the corners are those of the ring of all streams behind
pub made_ring : {xs : List Stream} {es ns : List ℤ} → Made xs es ns → streams es ns ≡ ring xs
made_ring m = (made m).ring-is

-- so they depend only on which streams are behind
pub made_same : {xs ys : List Stream} {es ns fs ms : List ℤ} → Made xs es ns → Made ys fs ms → ((s : Stream) → Memᴰ s xs ↔ Memᴰ s ys)
    → (es ≡ fs) × (ns ≡ ms)
made_same a b h = parts_only (made a) (made b) (ring_members (λ s. (h s).0) (λ s. (h s).1))

-- THE LAW: a ring read from a coming-from record joins as the envelope of its streams turned about
pub read-turned : (xs : List Stream) {ys : List Stream} (c : records.Reading) {n : ℕ} → c.answer ≡ Ok n → sense (records.bytes c) ≡ 1
    → stored (records.bytes c) ≡ ring xs → (d : Joining) {m : ℕ} → d.answer ≡ Ok m → east d ≡ take n (records.east_after c)
    → north d ≡ take n (records.north_after c) → Made ys (east2 d) (north2 d)
    → streams (take m (east_after d)) (take m (north_after d)) ≡ ring (map turned xs ++ ys)
read-turned xs c {n} e from h d f he hn b =
    let es = take n (records.east_after c) in
    let ns = take n (records.north_after c) in
    let read = subst (λ (s : ℕ). Made (cond (coming_from s) (map turned xs) xs) es ns) from (read_by xs c e h) in
    let given : Made (map turned xs) (east d) (north d) = subst₂ (λ (E N : List ℤ). Made (map turned xs) E N) (sym he) (sym hn) read in
    made_ring (joined_by d f given b)

-- ---- trees rearranged

-- what stands behind a tree, and behind the same tree with steps of it rearranged
pub data Rearranged : List Stream → List Stream → Type 0 where
  -- by nothing, the other way round, one thing after another
  as_it_is : {xs : List Stream} → Rearranged xs xs
  back : {xs ys : List Stream} → Rearranged xs ys → Rearranged ys xs
  in_turn : {xs ys zs : List Stream} → Rearranged xs ys → Rearranged ys zs → Rearranged xs zs
  -- further down in the tree
  within-join : {xs ys us vs : List Stream} → Rearranged xs us → Rearranged ys vs → Rearranged (xs ++ ys) (us ++ vs)
  within-sum : {xs ys us vs : List Stream} → Rearranged xs us → Rearranged ys vs → Rearranged (sums xs ys) (sums us vs)
  within-turn : {xs ys : List Stream} → Rearranged xs ys → Rearranged (map turned xs) (map turned ys)
  -- joins in any order and grouping, with repeats and with empty envelopes
  join_order : (xs ys : List Stream) → Rearranged (xs ++ ys) (ys ++ xs)
  join_grouping : (xs ys zs : List Stream) → Rearranged ((xs ++ ys) ++ zs) (xs ++ (ys ++ zs))
  join_repeats : (xs : List Stream) → Rearranged (xs ++ xs) xs
  join_empty : (xs : List Stream) → Rearranged (xs ++ []) xs
  -- sums in any order and grouping; with an empty envelope a sum is empty
  sum_order : (xs ys : List Stream) → Rearranged (sums xs ys) (sums ys xs)
  sum_grouping : (xs ys zs : List Stream) → Rearranged (sums (sums xs ys) zs) (sums xs (sums ys zs))
  sum_empty : (xs : List Stream) → Rearranged (sums [] xs) []
  -- adding spreads over joining
  sum-join-left : (xs ys zs : List Stream) → Rearranged (sums (xs ++ ys) zs) (sums xs zs ++ sums ys zs)
  -- a join or a sum turned about is that of the rings turned about; turned twice, a ring is itself
  turned-join : (xs ys : List Stream) → Rearranged (map turned (xs ++ ys)) (map turned xs ++ map turned ys)
  turned-sum : (xs ys : List Stream) → Rearranged (map turned (sums xs ys)) (sums (map turned xs) (map turned ys))
  turned-twice : (xs : List Stream) → Rearranged (map turned (map turned xs)) xs

-- either way round
pub sum_join_right : (xs ys zs : List Stream) → Rearranged (sums xs (ys ++ zs)) (sums xs ys ++ sums xs zs)
sum_join_right xs ys zs = in_turn (sum_order xs (ys ++ zs)) (in_turn (sum-join-left ys zs xs) (within-join (sum_order ys xs) (sum_order zs xs)))

one-ring : {xs ys : List Stream} → Rearranged xs ys → ring xs ≡ ring ys
unfolding join sums sum
one-ring as_it_is = refl
one-ring (back a) = sym (one-ring a)
one-ring (in_turn a b) = one-ring a ∙ one-ring b
one-ring (within-join {xs} {ys} {us} {vs} a b) = sym (joins.join_rings xs ys) ∙ ap₂ join (one-ring a) (one-ring b) ∙ joins.join_rings us vs
one-ring (within-sum {xs} {ys} {us} {vs} a b) = sym (adds.sum_rings xs ys) ∙ ap₂ sum (one-ring a) (one-ring b) ∙ adds.sum_rings us vs
one-ring (within-turn {xs} {ys} a) = sym (turn-ring xs) ∙ ap turn_about (one-ring a) ∙ turn-ring ys
one-ring (join_order xs ys) = joins.join_order xs ys
one-ring (join_grouping xs ys zs) = ap ring (append_assoc xs ys zs)
one-ring (join_repeats xs) = joins.ring_repeats xs
one-ring (join_empty xs) = ap ring (append-nil xs)
one-ring (sum_order xs ys) = adds.sum_order xs ys
one-ring (sum_grouping xs ys zs) = ring_members (λ s. (adds.sums_grouping xs ys zs).0) (λ s. (adds.sums_grouping xs ys zs).1)
one-ring (sum_empty xs) = refl
one-ring (sum-join-left xs ys zs) =
    sym (adds.sum_rings (xs ++ ys) zs)
    ∙ ap (λ (r : List Stream). sum r (ring zs)) (sym (joins.join_rings xs ys))
    ∙ adds.sum-join-left (ring xs) (ring ys) (ring zs)
    ∙ ap₂ join (adds.sum_rings xs zs) (adds.sum_rings ys zs)
    ∙ joins.join_rings (sums xs zs) (sums ys zs)
one-ring (turned-join xs ys) = ap ring (map-append turned xs ys)
one-ring (turned-sum xs ys) = ap ring (adds.sums-turned xs ys)
one-ring (turned-twice xs) = ap ring (map-twice turned stream-twice xs)

-- THE LAW: a tree and what it is rearranged to, anywhere and any number of times, leave the same lists, wherever no step of either is refused
pub made_rearranged : {xs ys : List Stream} {es ns fs ms : List ℤ} → Made xs es ns → Made ys fs ms → Rearranged xs ys → (es ≡ fs) × (ns ≡ ms)
made_rearranged a b h = parts_only (made a) (made b) (one-ring h)

-- and a tree that is rearranged to nothing leaves nothing
pub made_empty : {xs : List Stream} {es ns : List ℤ} → Made xs es ns → Rearranged xs [] → (es ≡ []) × (ns ≡ [])
unfolding streams
made_empty a h = parts_only (made a) (record { even = refl; ring-is = refl }) (one-ring h ∙ no_samples)

-- ---- the strongest set

-- THE LAW: of three calls of strongest set on one course, the third on a sum of the others' rings, the third's set is the sum of the others', whatever calls the
-- three rings come of
pub made_strongest : (a b c : strongest.Call) {z w v : ℤ} {i j k : ℕ} → a.answer ≡ Ok (record { set = z; place = i }) → b.answer ≡ Ok (record { set = w; place = j })
    → c.answer ≡ Ok (record { set = v; place = k }) → strongest.course a ≡ strongest.course c → strongest.course b ≡ strongest.course c → {xs ys : List Stream}
    → Made xs (strongest.east a) (strongest.north a) → Made ys (strongest.east b) (strongest.north b)
    → Made (sums xs ys) (strongest.east c) (strongest.north c) → v ≡ z +ℤ w
made_strongest a b c e f g h l {xs} {ys} p q r =
    strongest.strongest-added a b c e f g h l (ap₂ sum (made_ring p) (made_ring q) ∙ adds.sum_rings xs ys ∙ sym (made_ring r))
