-- What a round says, by what it answers: a bridge found is the bridge over a of the listed samples, its ends the first items of the list at their positions;
-- a list kept has the same bridge, and the same first items at its ends. And how many items a round drops. That each round says so and drops so many, for any K
-- whose run is above zero, and what the rounds come to, is shown in proofs/Rounds.antt.
-- Assumes nothing.
use Rattle.std.specs.Prelude.{◌≡◌, ℤ, pos, ◌<ℤ◌}
use Rattle.std.proofs.Common.{sym, ◌∙◌}
use Rattle.std.proofs.Math.Bool.{true}
use Rattle.std.proofs.Math.Option.{some}
use mathlib.Core.List.Memᴰ
use mathlib.Core.List.{List, map, Memᴰ, Sublistᴰ}
use Prim.Native.Nat.{ℕ, ◌+◌, ◌/◌, ◌≤◌}
use Rattle.std.proofs.Math.ListN.{length}
use Rattle.whole.specs.Linear.{order}
use Rattle.rules.specs.Streams.{Stream, side}
use Rattle.rules.specs.Chain.{Of}
use Rattle.rules.specs.Bridge.{Bridge, ends, bridge, spans}
use Rattle.rules.specs.Round.{paired, Said, found, kept, Tops, keep}
use Rattle.laws_outline.specs.SamePosition.{same_equal, equal_same}
use Rattle.laws_outline.specs.Sidedness.{side_of_first, side_of_second}
use Rattle.laws_outline.specs.Bridges.{BridgeOver, is-bridge, bridge-is, bridge_survives, is-spans, spans-bridge}
use Rattle.laws_rounds.specs.ListedItems.{first_of, first_of_some, first_of_in, kept_in}
use Rattle.laws_rounds.specs.Pairs.{Fits, here, keep_in_order, keep-first}

module _ {A : Type 0} (at : A → Stream) (a : ℤ) where
  -- ---- what a round says of its list

  -- the bridge over a, its ends the first items at their positions
  pub record Found (l : List A) (b : Bridge A) : Type 0 where
    pub over : BridgeOver (Of (map at l)) a (at b.left) (at b.right)
    pub first-left : first_of (here at (at b.left)) l ≡ some b.left
    pub first_right : first_of (here at (at b.right)) l ≡ some b.right

  -- items of the list in its order, with the bridge and the first items at its ends
  pub record Kept (l m : List A) : Type 0 where
    pub in_order : Sublistᴰ m l
    pub same-bridge : (p q : Stream) → BridgeOver (Of (map at l)) a p q → BridgeOver (Of (map at m)) a p q
    pub first-left : (p q : Stream) → BridgeOver (Of (map at l)) a p q → first_of (here at p) m ≡ first_of (here at p) l
    pub first_right : (p q : Stream) → BridgeOver (Of (map at l)) a p q → first_of (here at q) m ≡ first_of (here at q) l

  abbrev pub Says : List A → Said A → Type 0
  Says l (found b) = Found l b
  Says l (kept m) = Kept l m

  -- where the tops fit the bridge, what the pairs keep is kept
  pub keep_says : (t : Tops) (l : List A) → ((p q : Stream) → BridgeOver (Of (map at l)) a p q → Fits t p q) → Kept l (keep at t (paired l))
  keep_says t l fits =
      record {
        in_order = keep_in_order at t l;
        same-bridge = λ p q b. bridge_survives inside (stays p q b p (side_of_first p q) b.from) (stays p q b q (side_of_second p q) b.to) b;
        first-left = λ p q b. first p q b p (side_of_first p q);
        first_right = λ p q b. first p q b q (side_of_second p q);
      }
    where
      m : List A
      m = keep at t (paired l)

      inside : (s : Stream) → Of (map at m) s → Of (map at l) s
      inside s h = let o = Memᴰ.of_map at m h in Memᴰ.cast (sym o.2) (Memᴰ.map at (kept_in (keep_in_order at t l) o.1))

      ahead : (p q : Stream) → BridgeOver (Of (map at l)) a p q → p.east <ℤ q.east
      ahead p q b = let g = b.left in let h = b.right in omega order

      first : (p q : Stream) → BridgeOver (Of (map at l)) a p q → (s : Stream) → side p q s ≡ pos 0 → first_of (here at s) m ≡ first_of (here at s) l
      first p q b s on = keep-first at p q (ahead p q b) s on t (fits p q b) l (λ x n. b.below (at x) (Memᴰ.map at n))

      stays : (p q : Stream) → BridgeOver (Of (map at l)) a p q → (s : Stream) → side p q s ≡ pos 0 → Of (map at l) s → Of (map at m) s
      stays p q b s on h =
          let o = Memᴰ.of_map at l h in
          let y = first_of_some (here at s) o.1 (equal_same (sym o.2)) in
          let z = first_of_in (here at s) m (first p q b s on ∙ y.1) in
          Memᴰ.cast (same_equal s (at y.0) z.1) (Memᴰ.map at z.0)

  -- so the ends of a bridge found are items of the list, it is the bridge, and a list kept has samples on either side of a and the same bridge
  pub found_in : {l : List A} {b : Bridge A} → Found l b → Memᴰ b.left l × Memᴰ b.right l
  found_in {l} {b} h = ((first_of_in (here at (at b.left)) l h.first-left).0, (first_of_in (here at (at b.right)) l h.first_right).0)

  pub found_bridge : {l : List A} {b : Bridge A} → Found l b → bridge (map at l) a ≡ some (ends (at b.left) (at b.right))
  found_bridge {l} h = is-bridge (map at l) h.over

  module _ {l m : List A} (h : Kept l m) (s : spans a (map at l) ≡ true) where
    the_bridge : (b : Bridge Stream) × (bridge (map at l) a ≡ some b)
    the_bridge = spans-bridge a (map at l) s

    stays-over : BridgeOver (Of (map at m)) a the_bridge.0.left the_bridge.0.right
    stays-over = h.same-bridge the_bridge.0.left the_bridge.0.right (bridge-is (map at l) a the_bridge.1)

    pub kept_spans : spans a (map at m) ≡ true
    kept_spans =
        let b = stays-over in
        is-spans
        a
        (map at m)
        (record {
          west = the_bridge.0.left;
          east = the_bridge.0.right;
          west_given = b.from;
          east_given = b.to;
          at_most = b.left;
          above = b.right;
        })

    pub kept-bridge : bridge (map at m) a ≡ bridge (map at l) a
    kept-bridge = is-bridge (map at m) stays-over ∙ sym the_bridge.1

  -- ---- dropping

  -- "a round of t that answers no bridge drops at least ceil(floor(t/2)/2)"
  abbrev pub Drops : ℕ → Said A → Type 0
  Drops t (found b) = Unit {0}
  Drops t (kept m) = length m + (t / 2 + 1) / 2 ≤ t
