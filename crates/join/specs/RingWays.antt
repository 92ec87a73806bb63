-- The ways over an envelope from west to east, above and below: each goes over a chain of it, so it goes east, and every corner is under it.
-- Assumes nothing.
use Rattle.std.specs.Prelude.{◌≡◌, Bool, true, false, cond, ℕ, suc, ◌+◌, ◌-◌, ◌≤◌, ◌<◌, eqb, ℤ, pos, ◌≤ℤ◌, ◌<ℤ◌, length}
use Rattle.std.proofs.Common.{sym, ap, ◌∙◌, subst, subst₂, add-one, arith, eq-eqb, ne_eqb}
use Rattle.std.proofs.lemmas.Bool.{false≢true}
use mathlib.Core.List.{List, map, Memᴰ}
use Rattle.std.proofs.Math.Decide.{ℕ_discrete}
use Rattle.std.proofs.lemmas.List.{length-map}
use Rattle.std.proofs.Math.ListN.{get_or-map}
use Rattle.whole.specs.Laws.{<ℤ→≤ℤ}
use Rattle.rules.specs.Streams.{Stream, stream, streams, sample, mirrored, eqZ}
use Rattle.rules.specs.Chain.{Samples, UpperChain, empty, starts, lower}
use Rattle.laws_outline.specs.ListLaws.{in_place}
use Rattle.laws_outline.specs.Sidedness.{mirrored-twice}
use Rattle.laws_outline.specs.Under.{Under, on_inside}
use Rattle.laws_outline.specs.Chains.{upper_is}
use Rattle.laws_outline.specs.SameOutline.{upper-under, lower-is}
use Rattle.laws_rings.specs.Halves.{half}
use Rattle.laws_stack.specs.Stack.{Upto}
use Rattle.laws_halves.specs.Scanned.{HalfAt, Scanned, goes_rises}
use Rattle.laws_halves.specs.LowerPlaces.{lower-count, lower-place}
use Rattle.samples.specs.Positions.{facing, east_of}
use Rattle.samples.specs.Samples.{streams-length}
use Rattle.envelope.specs.Tests.{Sound}
use Rattle.halves.specs.Found.{found_halves}
use Rattle.walk.specs.declared.draw.Way.{Way}
use Rattle.walk.specs.Ways.{way_place, Inside}

-- what is found of m easts: no corner, or both halves
pub data WaysFound (E : ℕ → ℤ) (m : ℕ) : ℕ → ℕ → ℕ → Type 0 where
  no_corner : m ≡ 0 → WaysFound E m 0 0 0
  two_halves : {k c n : ℕ} → Scanned E m k c n → WaysFound E m (k + 1) (c + n) (n + 1)

-- found as two ways: above from place 0 on, below from place `home` back
pub record WaysHeld (E : ℕ → ℤ) (m : ℕ) (above below : Way) : Type 0 where
  pub at_start : above.from ≡ 0
  pub found : WaysFound E m above.count below.from below.count

-- the way back ends in the ring, or at place 0 again
pub home_within : {E : ℕ → ℤ} {m k c n : ℕ} → Scanned E m k c n → c + n ≤ m
home_within {E} {m} {c} {n} s = go (eqZ (E (m - 1)) (E 0)) s.last
  where
    go : (b : Bool) → c + n ≡ cond b (m - 1) m → c + n ≤ m
    go true e = omega arith
    go false e = omega arith

-- a way as the code holds it
abbrev pub held : ℕ → ℕ → Way
held from count = record { from = from; count = count }

-- corner i of a way over the ring r, as a side sees it
abbrev pub way_at : Bool → List Stream → ℕ → ℕ → ℕ → Stream
way_at lower r m from i = facing lower (sample r (way_place lower m from i))

-- a way over a ring of m corners that goes east, and every corner is under it
pub record WayOver (lower : Bool) (r : List Stream) (m from n : ℕ) : Type 0 where
  pub inside : Inside lower m (held from n)
  pub east : (i : ℕ) → suc i < n → (way_at lower r m from i).east ≤ℤ (way_at lower r m from (suc i)).east
  pub under : (s : Stream) → Memᴰ s r → Under (Upto (way_at lower r m from) n) (facing lower s)

-- ---- a chain by its places

rises : {S : Samples} {D : List Stream} → UpperChain S D → (i : ℕ) → suc i < length D → (sample D i).east <ℤ (sample D (suc i)).east
rises (empty f) i l = absurd (omega arith)
rises (starts h g) i l = goes_rises g i (omega arith)

module _ {S : Samples} {D : List Stream} (h : UpperChain S D) (n : ℕ) (count : length D ≡ n) (F : ℕ → Stream) (at : (i : ℕ) → i < n → sample D i ≡ F i) where
  chain-east : (i : ℕ) → suc i < n → (F i).east ≤ℤ (F (suc i)).east
  chain-east i l =
      subst₂ (λ (p q : Stream). p.east ≤ℤ q.east) (at i (omega arith)) (at (suc i) l) (<ℤ→≤ℤ (rises h i (omega (arith, count))))

  chain-under : (s : Stream) → S s → Under (Upto F n) s
  chain-under s m = on_inside placed (upper-under h s m)
    where
      placed : (t : Stream) → Memᴰ t D → Upto F n t
      placed t k =
          let p = in_place D (stream (pos 0) (pos 0)) k in
          let l : p.0 < n = omega (arith, p.1, count) in
          (p.0, l, p.2 ∙ at p.0 l)

-- ---- the two ways

module _ {r : List Stream} {m : ℕ} (size : length r ≡ m) where
  over_none : m ≡ 0 → (lower : Bool) → WayOver lower r m 0 0
  over_none e lower = record {
    inside = record { below = λ i l. absurd (omega arith); back = λ b. omega arith; few = omega arith };
    east = λ i l. absurd (omega arith);
    under = λ s k. absurd (let p = (in_place r (stream (pos 0) (pos 0)) k).1 in omega (arith, size));
  }

  over-above : {k : ℕ} → HalfAt false r 0 k → k < m → WayOver false r m 0 (k + 1)
  over-above {k} h l = record {
    inside = record { below = λ i b. omega arith; back = λ e. absurd (false≢true e); few = omega arith };
    east = chain-east (upper_is r) (k + 1) (h.count ∙ sym (add-one k)) (way_at false r m 0) at;
    under = chain-under (upper_is r) (k + 1) (h.count ∙ sym (add-one k)) (way_at false r m 0) at;
  }
    where
      at : (i : ℕ) → i < k + 1 → sample (half false r) i ≡ way_at false r m 0 i
      at i b =
          h.at i (omega arith)
          ∙ ap (λ (t : Bool). sample r (cond t 0 (0 + i))) (ne_eqb (0 + i) (length r) (λ q. absurd (omega (arith, size))))

  over_below : {c n : ℕ} → HalfAt true r c n → 0 < m → WayOver true r m (c + n) (n + 1)
  over_below {c} {n} h some = record {
    inside = record { below = below; back = λ b. omega arith; few = omega (arith, h.within, size) };
    east = chain-east (lower-is r) (n + 1) count (way_at true r m (c + n)) at;
    under = λ s k. chain-under (lower-is r) (n + 1) count (way_at true r m (c + n)) at (mirrored s) (subst (λ (t : Stream). Memᴰ t r) (sym (mirrored-twice s)) k);
  }
    where
      below : (i : ℕ) → i < n + 1 → way_place true m (c + n) i < m
      below i l = go (ℕ_discrete (c + n - i) m)
        where
          go : Dec (c + n - i ≡ m) → cond (eqb (c + n - i) m) 0 (c + n - i) < m
          go (yes e) = rw (eq-eqb (c + n - i) m e) some
          go (no f) = rw (ne_eqb (c + n - i) m f) (omega (arith, h.within, size))

      count : length (map mirrored (lower r)) ≡ n + 1
      count = length-map (lower r) mirrored ∙ lower-count h ∙ sym (add-one n)

      at : (i : ℕ) → i < n + 1 → sample (map mirrored (lower r)) i ≡ way_at true r m (c + n) i
      at i l =
          get_or-map mirrored (lower r) i (stream (pos 0) (pos 0))
          ∙ ap mirrored (lower-place h i (omega arith) ∙ ap (λ (k : ℕ). sample r (cond (eqb (c + n - i) k) 0 (c + n - i))) size)

-- THE LAW: the ways that are found
pub ways_over : {es ns : List ℤ} {above home below : ℕ} → Sound es ns → WaysFound (east_of es) (length es) above home below
    → WayOver false (streams es ns) (length es) 0 above × WayOver true (streams es ns) (length es) home below
ways_over {es} {ns} o (no_corner e) =
    let size = streams-length es ns o.sampled.even in (over_none size e false, over_none size e true)
ways_over {es} {ns} o (two_halves s) =
    let size = streams-length es ns o.sampled.even in
    let h = found_halves o.sampled o.is-envelope s in
    (over-above size h.0 s.inside, over_below size h.1 (let l = s.inside in omega arith))

pub ways_of : {es ns : List ℤ} {above below : Way} → Sound es ns → WaysHeld (east_of es) (length es) above below
    → WayOver false (streams es ns) (length es) above.from above.count × WayOver true (streams es ns) (length es) below.from below.count
ways_of {es} {ns} {above} {below} o f =
    let w = ways_over o f.found in (subst (λ (from : ℕ). WayOver false (streams es ns) (length es) from above.count) (sym f.at_start) w.0, w.1)
