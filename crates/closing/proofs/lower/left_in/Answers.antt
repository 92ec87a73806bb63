use Rattle.std.proofs.Common.{◌≡◌, sym, ◌∙◌, arith, add-zero, ◌<◌}
use mathlib.Core.Logic.{⊎_elim}
use Rattle.rules.specs.Streams.{same}
use Rattle.laws_stack.specs.ClosedPlaces.{closes_none, closes-all, closes-left, closes_open}
use Rattle.closing.specs.TwoChains.{upper_at, lower_at}
use Rattle.closing.proofs.lower.left_in.Goals as goal

-- the lower chain has a corner, so the upper has one
pub after_right-hi-requires : goal.after_right-hi-requires
after_right-hi-requires c =
    let p = c.requires in
    (p, ⊎_elim (λ h. h) (λ e. absurd (c.if-l-eq0.false e)) p.some, (omega arith))

pub returns-then-l-eq0 : goal.returns-then-l-eq0
returns-then-l-eq0 c = rw c.if-l-eq0.true closes_none

pub returns-then-hi-eq0 : goal.returns-then-hi-eq0
returns-then-hi-eq0 c =
    let some : 0 < c.args.u = ⊎_elim (λ h. h) (λ e. absurd (c.if-l-eq0.false e)) c.requires.some in
    closes-all _ _ _ _ some (omega arith) c.after_right-hi.ensures c.if-hi-eq0.true

pub same_at-requires : goal.same_at-requires
same_at-requires c =
    let some : 0 < c.args.u = ⊎_elim (λ h. h) (λ e. absurd (c.if-l-eq0.false e)) c.requires.some in
    let room = c.requires.stand.room in record {
      first = omega arith;
      first_below = c.requires.stand.below 0 (omega arith);
      second = omega arith;
      second_below = c.requires.stand.below c.args.u (omega arith);
    }

pub returns-then-same_at : goal.returns-then-same_at
returns-then-same_at c =
    let a = c.args in
    let some : 0 < c.args.u = ⊎_elim (λ h. h) (λ e. absurd (c.if-l-eq0.false e)) c.requires.some in
    let left : c.same_at.result ≡ same (upper_at a.rings.east.now a.rings.north.now a.rings.east2.now a.rings.north2.now a.w.now a.u 0)
    (lower_at a.rings.east.now a.rings.north.now a.rings.east2.now a.rings.north2.now a.w.now a.u 0) = rw (add-zero a.u) c.same_at.ensures in
    closes-left _ _ _ _ some (omega arith) c.after_right-hi.ensures (omega arith) (sym left ∙ c.if-same_at.true)

pub returns : goal.returns
returns c =
    let a = c.args in
    let some : 0 < c.args.u = ⊎_elim (λ h. h) (λ e. absurd (c.if-l-eq0.false e)) c.requires.some in
    let left : c.same_at.result ≡ same (upper_at a.rings.east.now a.rings.north.now a.rings.east2.now a.rings.north2.now a.w.now a.u 0)
    (lower_at a.rings.east.now a.rings.north.now a.rings.east2.now a.rings.north2.now a.w.now a.u 0) = rw (add-zero a.u) c.same_at.ensures in
    closes_open _ _ _ _ some (omega arith) c.after_right-hi.ensures (omega arith) (sym left ∙ c.if-same_at.false)
