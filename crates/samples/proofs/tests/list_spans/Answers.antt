-- The loop counts the listed easts on either side of a.
use Rattle.std.proofs.Common.{◌≡◌, sym, ap, ap₂, ◌∙◌, ◌&&◌, List, ℕ, ℤ, map, get_or, to_z-of_z, arith, rules}
use Rattle.std.proofs.Math.ListN.{length-map, get_or-map}
use Rattle.std.specs.Int.Signed.{le_z, lt_z}
use Rattle.std.specs.Int.{w64}
use mir.Val.{to_z, of_z}
use Rattle.samples.specs.Positions.{east_of, easts_span}
use Rattle.samples.specs.Scans.{seen_more, seen_all}
use Rattle.samples.specs.Samples.{listed_at}
use Rattle.samples.proofs.tests.list_spans.Goals as goal

-- an east of the list
listed-east : (e : List ℤ) (list : List ℕ) (i : ℕ) → get_or (map (east_of e) list) i (east_of e 0) ≡ east_of e (get_or list i 0)
listed-east e list i = get_or-map (east_of e) list i 0

pub east-x-requires : goal.east-x-requires
east-x-requires c = listed_at c.requires c.loop-number.number-index c.loop-number-test.true

pub loop-number-preserved : goal.loop-number-preserved
loop-number-preserved c =
    let a = c.args in
    let l = c.loop-number in
    let e = a.e.now in
    let list = a.list.now in
    let z = to_z w64 (of_z w64 a.a) in
    let fits : to_z w64 (of_z w64 c.east-x.result) ≡ c.east-x.result = search rules in
    let is = fits ∙ c.east-x.ensures ∙ sym (listed-east e list l.number-index) in
    let inside = length-map list (east_of e) in (
      seen_more (λ y. le_z y z) (east_of e 0) _ (omega arith) (ap (λ (y : ℤ). le_z y z) is) l.invariant.0,
      seen_more (λ y. lt_z z y) (east_of e 0) _ (omega arith) (ap (λ (y : ℤ). lt_z z y) is) l.invariant.1,
    )

pub returns : goal.returns
unfolding easts_span
returns c =
    let a = c.args in
    let l = c.loop-number in
    let easts = map (east_of a.e.now) a.list.now in
    let z = to_z w64 (of_z w64 a.a) in
    let inside = length-map a.list.now (east_of a.e.now) in
    ap₂ ◌&&◌ (seen_all (λ y. le_z y z) (omega arith) l.invariant.0) (seen_all (λ y. lt_z z y) (omega arith) l.invariant.1)
    ∙ ap (λ (y : ℤ). easts_span y easts) (to_z-of_z c.ranges.a)
