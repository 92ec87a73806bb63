-- A corner lies behind no other streams of its ring. So a corner of a greater envelope, where a smaller one has its position, is a corner of that.
-- Assumes nothing.
use Rattle.std.specs.Prelude.{◌≡◌, refl, not}
use Rattle.std.proofs.Common.{ap, subst}
use mathlib.Core.List.Memᴰ
use mathlib.Core.List.{List, Memᴰ}
use Rattle.rules.specs.Lists.{those}
use Rattle.rules.specs.Streams.{Stream, same}
use Rattle.rules.specs.Chain.{Of}
use Rattle.rules.specs.Ring.{ring}
use Rattle.laws_outline.specs.ListLaws.{not-both, those_in, in_those}
use Rattle.laws_outline.specs.SamePosition.{equal_same, no_same, position_decides, member_decides}
use Rattle.laws_outline.specs.Under.{Behind, on_self, on_inside}
use Rattle.laws_outline.specs.SameOutline.{ring_equal}
use Rattle.laws_rings.specs.Rings.{ring-sample, sample-behind, AllBehind}

-- THE LAW: a corner that lies behind some streams is one of them
pub corner-among : (xs ys : List Stream) {p : Stream} → Memᴰ p (ring xs) → ((s : Stream) → Memᴰ s ys → Memᴰ s xs) → Behind (Of ys) p
    → Memᴰ p ys
corner-among xs ys {p} corner inside behind = go (member_decides p ys)
  where
    others : List Stream
    others = those (λ s. not (same p s)) xs

    left : (s : Stream) → Memᴰ s xs → ¬ (p ≡ s) → Memᴰ s others
    left s m f = in_those (λ t. not (same p t)) m (ap not (no_same f))

    -- if p were none of them, all of xs would lie behind the others
    behind_others : ¬ Memᴰ p ys → AllBehind xs others
    behind_others n s m = each (position_decides p s)
      where
        each : Dec (p ≡ s) → Behind (Of others) s
        each (yes e) = subst (Behind (Of others)) e (on_inside (λ t k. left t (inside t k) (λ q. n (Memᴰ.cast q k))) behind)
        each (no f) = on_self (left s m f)

    go : Dec (Memᴰ p ys) → Memᴰ p ys
    go (yes m) = m
    go (no n) =
        let same_ring = ring_equal (behind_others n) (λ s m. on_self (those_in (λ t. not (same p t)) xs m).0) in
        let m = ring-sample others (subst (λ (r : List Stream). Memᴰ p r) same_ring corner) in
        not-both (those_in (λ t. not (same p t)) xs m).1 (ap not (equal_same {p = p} refl))

-- a corner of a greater envelope is a corner of the smaller
pub corner_inside : (xs ys : List Stream) {p : Stream} → Memᴰ p (ring xs) → ((s : Stream) → Memᴰ s ys → Memᴰ s xs) → Memᴰ p ys
    → Memᴰ p (ring ys)
corner_inside xs ys corner inside m = corner-among xs (ring ys) corner (λ s n. inside s (ring-sample ys n)) (sample-behind ys m)
