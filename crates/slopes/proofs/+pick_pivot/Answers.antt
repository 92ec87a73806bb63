use Rattle.std.proofs.Common.{◌-◌, ◌*◌, length, arith}
use borrow.Rule.Slice.PartMut.{take_put}
use Rattle.slopes.specs.Fractions.{as_slope}
use Rattle.slopes.specs.ScratchLaws.{alike-take}
use Rattle.slopes.specs.Gathering.{alike_asks, alike_answer, pivoted_in, pivot_here, gathered_asks, gathered_pivot}
use Rattle.slopes.proofs.+pick_pivot.Goals as goal

pub pick-narrow-requires : goal.pick-narrow-requires
pick-narrow-requires t c =
    let p = c.pivot-p in
    (alike_asks c.args.n p.ensures.front p.auto.w c.requires, pivoted_in p.ensures)

pub pick-returns-in-None : goal.pick-returns-in-None
pick-returns-in-None t c = alike_answer c.args.n c.pivot-p.ensures.front c.in-None.ensures

pub pick-returns-in-Some : goal.pick-returns-in-Some
pick-returns-in-Some t c = alike_answer c.args.n c.pivot-p.ensures.front (c.in-Some.ensures.back (as_slope c.pick.result) c.pick.ensures)

pub pivot-returns-then-n-lt40 : goal.pivot-returns-then-n-lt40
pivot-returns-then-n-lt40 t c =
    let one = c.requires.1 in
    let place = c.middle_of_three.ensures in
    pivot_here c.args.n c.args.w.now (omega arith) c.at.ensures.is

pub pivot-pick-requires : goal.pivot-pick-requires
pivot-pick-requires t c =
    let f = c.few-g in
    let few = f.ensures.few in
    let one = f.ensures.one in
    (omega arith, gathered_asks c.requires.0 f.auto.w f.ensures (omega arith) (omega arith))

pub pivot-returns : goal.pivot-returns
pivot-returns t c =
    let f = c.few-g in
    let p = c.pick in
    let v = f.new.w in
    let e = 2 * c.args.n in
    let room = c.requires.0.room in
    let long = f.auto.w in
    gathered_pivot c.requires.0 f.auto.w f.ensures
    (alike-take (take_put e (length v - e) v p.new.w (omega arith))) p.ensures
