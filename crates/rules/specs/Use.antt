-- Using a ring: the envelope, the ring hand, the strongest set, the cover test, join and turn about. "A ring comes as two lists, east and north, and is an
-- envelope exactly if it equals the ring of its own positions."
-- Assumes nothing.
use Rattle.std.specs.Prelude.{◌≡◌, Bool, false, cond, ◌&&◌, ◌||◌, List, [], ◌∷◌, ◌++◌, map, ℕ, zero, ◌+◌, ℤ, pos, ◌+ℤ◌, ◌*ℤ◌, ◌<ℤ◌, eqb, length}
use Rattle.std.specs.Int.Signed.{le_z, lt_z}
use Rattle.rules.specs.Lists.{alike, best_from, first_place}
use Rattle.rules.specs.Streams.{Stream, stream, same, turned, side, eqZ}
use Rattle.rules.specs.Ring.{ring}

unfoldable pub envelope : List Stream → Bool
envelope r = alike same (ring r) r

-- ---- ring hand

-- "made for m corners .. starts at place 0"
pub record HandAt : Type 0 where
  pub count : ℕ
  pub place : ℕ

abbrev pub hand_for : ℕ → HandAt
hand_for m = record { count = m; place = zero }

-- "the present edge as two places": this place and the next, "place 0 after m - 1"
abbrev pub next_place : HandAt → ℕ
next_place h = cond (eqb (h.place + 1) h.count) zero (h.place + 1)

-- "the hand one place on"
abbrev pub moved_on : HandAt → HandAt
moved_on h = record { count = h.count; place = next_place h }

-- ---- strongest set

-- how strong a stream sets on the course (x, y)
unfoldable pub set_on : ℤ → ℤ → Stream → ℤ
set_on x y s = x *ℤ s.east +ℤ y *ℤ s.north

-- "greatest x·east + y·north": that of the corner that no other beats
unfoldable pub strongest : ℤ → ℤ → Stream → List Stream → ℤ
strongest x y p ps = set_on x y (best_from (λ s t. lt_z (set_on x y t) (set_on x y s)) p ps)

-- "the first ring place that has it"
unfoldable pub strongest_place : ℤ → ℤ → Stream → List Stream → ℕ
strongest_place x y p ps = first_place (λ s. eqZ (set_on x y s) (strongest x y p ps)) (p ∷ ps)

-- ---- cover test

-- the part of each corner times its weight, added up
unfoldable pub weighed : (Stream → ℤ) → List ℕ → List Stream → ℤ
weighed part [] ps = pos 0
weighed part (w ∷ ws) [] = pos 0
weighed part (w ∷ ws) (p ∷ ps) = pos w *ℤ part p +ℤ weighed part ws ps

-- the weights of corners added up
abbrev pub total : List ℕ → List Stream → ℤ
total ws r = weighed (λ p. pos 1) ws r

-- "a weighted mean of corners", the weights "whole numbers, none below 0 and not all 0", one for each corner
pub record Mean (r : List Stream) (s : Stream) : Type 0 where
  pub weights : List ℕ
  pub for_each : length weights ≡ length r
  pub not_all_0 : pos 0 <ℤ total weights r
  pub of_easts : weighed (λ p. p.east) weights r ≡ total weights r *ℤ s.east
  pub of_norths : weighed (λ p. p.north) weights r ≡ total weights r *ℤ s.north

-- x lies from a to b or from b to a, ends included
unfoldable pub between : ℤ → ℤ → ℤ → Bool
between a b x = (le_z a x && le_z x b) || (le_z b x && le_z x a)

-- the stream lies right of or on every edge from p on over the corners, and back to the first
unfoldable pub beside : Stream → Stream → Stream → List Stream → Bool
beside s first p [] = le_z (side p first s) (pos 0)
beside s first p (q ∷ ps) = le_z (side p q s) (pos 0) && beside s first q ps

-- "yes exactly if the stream is a weighted mean of corners", decided by sidedness: "an empty ring nothing", "a one-corner ring its one position", "a
-- two-corner ring covers the whole segment between them", and any other what lies right of or on every edge
unfoldable pub covers : List Stream → Stream → Bool
covers [] s = false
covers (p ∷ []) s = same p s
covers (p ∷ q ∷ []) s = eqZ (side p q s) (pos 0) && between p.east q.east s.east && between p.north q.north s.north
covers (p ∷ q ∷ r ∷ ps) s = beside s p p (q ∷ r ∷ ps)

-- ---- join, sum and turn about

-- "the ring of both rings' positions"
unfoldable pub join : List Stream → List Stream → List Stream
join r t = ring (r ++ t)

-- two streams added, part by part
abbrev pub added : Stream → Stream → Stream
added p q = stream (p.east +ℤ q.east) (p.north +ℤ q.north)

-- "all positions got by adding a corner of one to a corner of the other"
unfoldable pub sums : List Stream → List Stream → List Stream
sums [] t = []
sums (p ∷ r) t = map (added p) t ++ sums r t

-- the ring of them
unfoldable pub sum : List Stream → List Stream → List Stream
sum r t = ring (sums r t)

-- "the ring of all positions with both signs changed"
unfoldable pub turn_about : List Stream → List Stream
turn_about r = ring (map turned r)
