-- The rounds: the list that a round keeps carries the bridge of the list that they began with.
-- Assumes nothing.
use Rattle.std.specs.Prelude.{◌≡◌, ℕ, ◌*◌, ◌<◌, ◌≤◌, true, List, map, length, take, ℤ}
use mathlib.Core.Path.{refl, sym, ap, ap₂, ◌∙◌}
use mathlib.Core.Option.{some, some-injective}
use native.Mathlib.Omega.{arith}
use lib.ListN.{length-take, length-map}
use lib.Seq.{length-take-le}
use Rattle.rules.specs.Streams.{Stream}
use Rattle.rules.specs.Chain.{Of}
use Rattle.rules.specs.Bridge.{Bridge, ends, spans}
use Rattle.laws_outline.specs.Bridges.{BridgeOver, bridge-is, bridge_unique}
use Rattle.laws_rounds.specs.ListedItems.{first_of, kept_in}
use Rattle.laws_rounds.specs.Pairs.{here}
use Rattle.laws_rounds.specs.Rounds.{Found, Kept, found_bridge, kept_spans, kept-bridge}
use Rattle.laws_rounds.proofs.Rounds.{found_says, kept_says, kept_shorter}
use Rattle.samples.specs.Positions.{Listed}
use Rattle.samples.specs.Samples.{spans-two}
use Rattle.round.specs.declared.turn.Said.TheVariants as said
use Rattle.round.specs.Saying.{RoundSays}

module _ (at : ℕ → Stream) (a : ℤ) where
  -- what is found in a list that is kept is found in the list
  found_back : {l m : List ℕ} {b : Bridge ℕ} → spans a (map at l) ≡ true → Kept at a l m → Found at a m b → Found at a l b
  found_back {l} {m} {b} s k f =
      record {
        over = over;
        first-left = sym (k.first-left (at b.left) (at b.right) over) ∙ f.first-left;
        first_right = sym (k.first_right (at b.left) (at b.right) over) ∙ f.first_right;
      }
    where
      over : BridgeOver (Of (map at l)) a (at b.left) (at b.right)
      over = bridge-is (map at l) a (sym (kept-bridge at a k s) ∙ found_bridge at a f)

  -- a list has one bridge, with one first item at each end
  pub found_one : {l : List ℕ} {b c : Bridge ℕ} → Found at a l b → Found at a l c → b ≡ c
  found_one {l} {b} {c} f g = ap₂ ends (first o.0 f.first-left g.first-left) (first o.1 f.first_right g.first_right)
    where
      o : (at b.left ≡ at c.left) × (at b.right ≡ at c.right)
      o = bridge_unique f.over g.over

      first : {i j : ℕ} → at i ≡ at j → first_of (here at (at i)) l ≡ some i → first_of (here at (at j)) l ≡ some j → i ≡ j
      first {i} {j} e p q = some-injective i j (sym p ∙ ap (λ (s : Stream). first_of (here at s) l) e ∙ q)

  -- ---- the loop, from the count numbers at the front of w₀

  module _ (samples : ℕ) (w₀ : List ℕ) (count : ℕ) where
    pub record Bridging (w : List ℕ) (t : ℕ) : Type 0 where
      pub long : length w ≡ length w₀
      pub fewer : t ≤ count
      pub listed : Listed samples (take t w)
      pub spanned : spans a (map at (take t w)) ≡ true
      pub carries : (b : Bridge ℕ) → Found at a (take t w) b → Found at a (take count w₀) b

    pub bridging_first : Listed samples (take count w₀) → spans a (map at (take count w₀)) ≡ true → Bridging w₀ count
    bridging_first h s = record { long = refl; fewer = omega arith; listed = h; spanned = s; carries = λ b f. f }

    module _ (room : 3 * count ≤ length w₀) {w : List ℕ} {t : ℕ} (g : Bridging w t) where
      pub at_least_two : 2 ≤ t
      at_least_two =
          let h = spans-two a (map at (take t w)) g.spanned in
          omega (arith, length-map (take t w) at, length-take t w)

      pub bridging_found : {i j : ℕ} {after : List ℕ} → RoundSays at a w t (said.Found i j) after → Found at a (take count w₀) (ends i j)
      bridging_found h = g.carries (ends _ _) (found_says at a g.spanned (sym h.is))

      module _ {m : ℕ} {after : List ℕ} (same : length after ≡ length w) (h : RoundSays at a w t (said.Kept m) after) where
        is-kept : Kept at a (take t w) (take m after)
        is-kept = kept_says at a g.spanned (sym h.is)

        pub bridging_more : Bridging after m
        bridging_more =
            let less = g.fewer in
            let few = h.fewer in
            record {
              long = same ∙ g.long;
              fewer = omega arith;
              listed = record { below = λ x i. g.listed.below x (kept_in is-kept.in_order i) };
              spanned = kept_spans at a is-kept g.spanned;
              carries = λ b f. g.carries b (found_back g.spanned is-kept f);
            }

        pub bridging_less : m < t
        bridging_less =
            let less = g.fewer in
            let few = h.fewer in
            let long = g.long in
            omega (
              arith,
              kept_shorter at a (take t w) (take m after) g.spanned (sym h.is),
              length-take-le t w (omega arith),
              length-take-le m after (omega arith),
            )
