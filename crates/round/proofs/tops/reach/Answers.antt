use Rattle.std.specs.Prelude.{◌≡◌, ℕ, Bool, get_or, ℤ, int_le}
use Rattle.std.proofs.Common.{arith, sym, ap, ◌∙◌}
use mathlib.Core.Path.{ap₂}
use Rattle.rules.specs.Lists.{first_place}
use Rattle.rules.specs.Streams.{Stream}
use Rattle.rules.specs.Round.{Slope, height}
use Rattle.samples.specs.Sides.{seen}
use Rattle.samples.specs.Samples.{listed_at}
use Rattle.samples.specs.Scans.{passed_more, passed_here, passed_all}
use Rattle.round.specs.Tops.{as_scaled, reaches}
use Rattle.round.proofs.RoundWords.{word_of}
use Rattle.round.proofs.tops.reach.Goals as goal

-- the test of two heights
tested : (places : ℕ → Stream) (k : Slope) (top x : ℕ) {y z : ℤ} {p q : Stream} → y ≡ height k p → z ≡ height k q → p ≡ places top → q ≡ places x
    → {b : Bool} → int_le y z ≡ b → reaches places k top x ≡ b
tested places k top x h g p q e = sym (ap₂ int_le (h ∙ ap (height k) p) (g ∙ ap (height k) q)) ∙ e

pub position-requires-in-loop-i : goal.position-requires-in-loop-i
position-requires-in-loop-i c = listed_at c.requires.listed c.loop-i.i c.loop-i-test.true

pub returns-then-h-height : goal.returns-then-h-height
returns-then-h-height c =
    let a = c.args in
    let places = seen a.side in
    let k = as_scaled a.k in
    let yes =
    tested places k a.top (get_or a.list.now c.loop-i.i 0)
    (word_of c.height-h.result c.height-h.type_inv ∙ c.height-h.ensures)
    (word_of c.height.result c.height.type_inv ∙ c.height.ensures)
    c.position.ensures c.position-in-loop-i.ensures c.if-h-height.true
    in
    passed_here (reaches places k a.top) 0 a.list.now c.loop-i.i c.loop-i-test.true yes c.loop-i.invariant

pub loop-i-preserved : goal.loop-i-preserved
loop-i-preserved c =
    let a = c.args in
    let places = seen a.side in
    let k = as_scaled a.k in
    let no =
    tested places k a.top (get_or a.list.now c.loop-i.i 0)
    (word_of c.height-h.result c.height-h.type_inv ∙ c.height-h.ensures)
    (word_of c.height.result c.height.type_inv ∙ c.height.ensures)
    c.position.ensures c.position-in-loop-i.ensures c.if-h-height.false
    in
    passed_more (reaches places k a.top) 0 a.list.now c.loop-i.i c.loop-i-test.true no c.loop-i.invariant

pub returns : goal.returns
returns c =
    let a = c.args in
    let places = seen a.side in
    let k = as_scaled a.k in
    let all : c.loop-i.i ≡ first_place (reaches places k a.top) a.list.now = passed_all (reaches places k a.top) c.loop-i-test.false c.loop-i.invariant in
    let inside = c.loop-i.auto.i-end in
    omega arith
