-- A ring in a sense: twice it is the ring again; it stays an envelope, of as many corners, within the limit; and it is the envelope of the streams behind it as they
-- are meant.
-- Assumes nothing.
use Rattle.std.specs.Prelude.{◌≡◌, Bool, not, ◌&&◌, List, map, ℕ, zero, suc, ℤ, pos, negsuc, neg_ℤ, length}
use Rattle.std.proofs.Math.Path.{refl}
use Rattle.std.proofs.Common.{sym, ap₂, ◌∙◌}
use Rattle.std.proofs.Math.Bool.{true, false, cond}
use Rattle.rules.specs.Lists.{some_of}
use Rattle.rules.specs.Streams.{Stream, within, beyond, turned}
use Rattle.rules.specs.Ring.{ring}
use Rattle.rules.specs.Use.{envelope, turn_about}
use Rattle.rules.specs.Record.{coming_from, in_sense}
use Rattle.laws_outline.specs.ListLaws.{none_of_is, is_none_of, map_in}
use Rattle.laws_outline.specs.Sidedness.{turned-twice}
use Rattle.laws_rings.specs.Rings.{ring-sample}
use Rattle.laws_rings.specs.Turning.{turn-ring, turn-envelope, turn_twice}
use Rattle.laws_rings.specs.Cycle.{turned-length}

-- a part is within the limit with either sign
within-turned : (z : ℤ) → within (neg_ℤ z) ≡ within z
unfolding within
within-turned (pos zero) = refl
within-turned (pos (suc n)) = refl
within-turned (negsuc n) = refl

beyond-turned : (p : Stream) → beyond (turned p) ≡ beyond p
unfolding beyond
beyond-turned p = ap₂ (λ (e n : Bool). not (e && n)) (within-turned p.east) (within-turned p.north)

turned_near : (r : List Stream) → some_of beyond r ≡ false → some_of beyond (turn_about r) ≡ false
unfolding turn_about
turned_near r near =
    is_none_of beyond (ring (map turned r))
    (λ p m. sym (beyond-turned p) ∙ none_of_is beyond r near (map_in turned turned-twice r (ring-sample (map turned r) m)))

-- what holds of a ring and of it turned about holds of it in a sense
in_either : (P : List Stream → Type 0) (s : ℕ) (r : List Stream) → P r → P (turn_about r) → P (in_sense s r)
unfolding in_sense
in_either P s r to from = go (coming_from s)
  where
    go : (b : Bool) → P (cond b (turn_about r) r)
    go true = from
    go false = to

module _ (s : ℕ) (r : List Stream) where
  pub sense_near : some_of beyond r ≡ false → some_of beyond (in_sense s r) ≡ false
  sense_near near = in_either (λ t. some_of beyond t ≡ false) s r near (turned_near r near)

  module _ (is : envelope r ≡ true) where
    pub sense-envelope : envelope (in_sense s r) ≡ true
    sense-envelope = in_either (λ t. envelope t ≡ true) s r is (turn-envelope r)

    pub sense-length : length (in_sense s r) ≡ length r
    sense-length = in_either (λ t. length t ≡ length r) s r refl (turned-length r is)

    pub sense-twice : in_sense s (in_sense s r) ≡ r
    unfolding in_sense
    sense-twice = go (coming_from s)
      where
        go : (b : Bool) → cond b (turn_about (cond b (turn_about r) r)) (cond b (turn_about r) r) ≡ r
        go true = turn_twice r is
        go false = refl

-- the ring of streams, in a sense, is the ring of the streams with both signs changed where that is coming from
pub sense-ring : (s : ℕ) (xs : List Stream) → in_sense s (ring xs) ≡ ring (cond (coming_from s) (map turned xs) xs)
unfolding in_sense
sense-ring s xs = go (coming_from s)
  where
    go : (b : Bool) → cond b (turn_about (ring xs)) (ring xs) ≡ ring (cond b (map turned xs) xs)
    go true = turn-ring xs
    go false = refl
