use Rattle.std.specs.Prelude.{◌≡◌, ℕ, ◌+◌, ◌-◌, ◌/◌, ◌≤◌, ◌<◌, List, length, get_or, take, drop, ℤ}
use Rattle.std.specs.Int.{w64}
use Rattle.std.proofs.Common.{rules, arith, sym, ◌∙◌, subst, to_z, of_z}
use borrow.Rule.Slice.PartMut.{put_mid, take_put}
use lib.ListN.{length-drop}
use lib.Seq.{length-take-le, get_or-take, take_all}
use Rattle.slopes.specs.Fractions.{as_slope}
use Rattle.samples.specs.Positions.{Listed}
use Rattle.samples.specs.Sides.{seen}
use Rattle.samples.specs.Samples.{listed_at}
use Rattle.round.specs.Saying.{FinishSays}
use Rattle.round.proofs.SayingCases.{two_says, without_says, picked_says}
use Rattle.round.proofs.turn.round_of.Goals as goal

-- a number of the list is below the count
below : {count : ℕ} (w : List ℕ) (t : ℕ) → Listed count (take t w) → t ≤ length w → (j : ℕ) → j < t → get_or w j 0 < count
below {count} w t listed room j h =
    subst (λ (x : ℕ). x < count) (get_or-take t w j 0 h) (listed_at listed j (omega (arith, length-take-le t w room)))

pub two-requires : goal.two-requires
two-requires c =
    let h = c.requires in
    let room : c.args.t ≤ length c.args.w.now = let r = h.room in omega arith in
    (below c.args.w.now c.args.t h.listed room 0 (omega arith), below c.args.w.now c.args.t h.listed room 1 (omega arith))

pub returns-then-t-eq2 : goal.returns-then-t-eq2
returns-then-t-eq2 c =
    let a = c.args in
    let room : a.t ≤ length a.w.now = let r = c.requires.room in omega arith in
    two_says (seen a.side) a.a a.w.now a.t room c.if-t-eq2.true c.two.result c.two.ensures

pub returns-then-q-eq0 : goal.returns-then-q-eq0
returns-then-q-eq0 c =
    let a = c.args in
    let h = c.requires in
    let room : a.t ≤ length a.w.now = let r = h.room in omega arith in
    without_says (seen a.side) a.a a.w.now a.t room h.two c.if-t-eq2.false c.slopes-q.ensures c.if-q-eq0.true c.keep-m.auto.w
    c.keep-m.ensures

pub returns : goal.returns
returns c =
    let a = c.args in
    let h = c.requires in
    let places = seen a.side in
    let K = as_slope c.pick_slope-k.result in
    let u = c.slopes-q.new.w in
    let n = length u - a.t in
    let v = c.pick_slope-k.new.w in
    let room : a.t ≤ length a.w.now = let r = h.room in omega arith in
    let long : length u ≡ length a.w.now = c.slopes-q.auto.w in
    let inside : a.t ≤ length u = omega arith in
    let one : 1 ≤ c.slopes-q.result = omega arith in
    let behind-is : take n (drop a.t u) ≡ drop a.t u = take_all n (drop a.t u) (omega (arith, length-drop a.t u)) in
    let same-list : take a.t (put_mid a.t n u v) ≡ take a.t a.w.now = take_put a.t n u v inside ∙ c.slopes-q.ensures.same-list in
    let read : to_z w64 (of_z w64 a.a) ≡ a.a = search rules in
    let up : c.div_ceil.result ≡ (c.slopes-q.result + 1) / 2 = omega (arith, c.div_ceil.ensures) in
    picked_says places a.a a.w.now a.t room h.two c.if-t-eq2.false c.slopes-q.ensures one
    K (take n (drop a.t u)) (rw (sym up) c.pick_slope-k.ensures) behind-is (put_mid a.t n u v) c.finish.new.w c.finish.result same-list
    (subst (λ (z : ℤ). FinishSays places z K (put_mid a.t n u v) a.t c.finish.result c.finish.new.w) read c.finish.ensures)
