use Rattle.std.specs.Prelude.{◌≡◌, ℕ, ◌+◌, ◌*◌, ◌≤◌, ◌<◌, List, length, slice_index, take}
use Rattle.std.proofs.Common.{arith, sym, subst}
use lib.Seq.{length-take-le}
use Rattle.rules.specs.Streams.{Stream}
use Rattle.samples.specs.Positions.{Listed}
use Rattle.samples.specs.Sides.{seen, size}
use Rattle.samples.specs.Samples.{listed_at}
use Rattle.round.proofs.PairSlopes.{Sloping, sloping_none, sloping_more, sloping_all, same_number}
use Rattle.round.proofs.pairs.slopes.Goals as goal

-- a number of the list is below the count
below : (places : ℕ → Stream) (count : ℕ) (w₀ : List ℕ) (t : ℕ) → Listed count (take t w₀) → 2 * t ≤ length w₀ → {w : List ℕ} {q i : ℕ}
    → Sloping places w₀ t w q i → (j : ℕ) → j < t → slice_index w j < count
below places count w₀ t listed room g j h =
    subst (λ (x : ℕ). x < count) (sym (same_number places w₀ t room g j h)) (listed_at listed j (omega (arith, length-take-le t w₀ (omega arith))))

pub slope_of_pair-f-requires : goal.slope_of_pair-f-requires
slope_of_pair-f-requires c =
    let a = c.args in
    let b = below (seen a.side) (size a.side) a.w.now a.t c.requires.listed c.requires.room c.loop-i.invariant in
    (b (2 * c.loop-i.i) (omega arith), b (2 * c.loop-i.i + 1) (omega arith))

pub loop-i-init : goal.loop-i-init
loop-i-init c = let a = c.args in sloping_none (seen a.side) a.w.now a.t

pub loop-i-preserved : goal.loop-i-preserved
loop-i-preserved c =
    let a = c.args in
    let two : 2 * (c.loop-i.i + 1) ≡ 2 * c.loop-i.i + 2 = omega arith in
    rw two (sloping_more (seen a.side) a.w.now a.t c.requires.room c.loop-i.invariant (omega arith) c.slope_of_pair-f.ensures)

pub returns : goal.returns
returns c =
    let a = c.args in
    sloping_all (seen a.side) a.w.now a.t c.requires.room c.loop-i.invariant (omega arith)
