-- Each return is one of the steps of a merge.
use Rattle.std.specs.Prelude.{◌+◌}
use Rattle.std.proofs.Common.{arith, rules}
use Rattle.sum.specs.Stretches.{along_near, first-over, second-over, less, steeper, level}
use Rattle.sum.proofs.follow.Together.next.Goals as goal

pub returns-then-self-i : goal.returns-then-self-i
returns-then-self-i c =
    let a = c.args.self.first in
    let b = c.args.self.second in
    first-over a.ring.east.now a.ring.north.now b.ring.east.now b.ring.north.now a.over b.over c.args.at.first c.args.at.second c.requires.0 c.if-self-i.true c.requires.1

pub returns-then-self-j : goal.returns-then-self-j
returns-then-self-j c =
    let a = c.args.self.first in
    let b = c.args.self.second in
    second-over a.ring.east.now a.ring.north.now b.ring.east.now b.ring.north.now a.over b.over c.args.at.first c.args.at.second c.requires.0 c.if-self-i.false c.if-self-j.true

-- where both go on, the four corners are within the limit
pub bend-z-requires : goal.bend-z-requires
bend-z-requires c =
    let a = c.args.self.first in
    let b = c.args.self.second in
    let i = c.args.at.first in
    let j = c.args.at.second in
    let p = c.requires.0 in
    let m = c.if-self-i.false in
    let n = c.if-self-j.false in (
      along_near a.on i p.first_in c.at.ensures,
      along_near a.on (i + 1) (omega (arith, p.first_in)) c.at-2.ensures,
      along_near b.on j p.second_in c.at-3.ensures,
      along_near b.on (j + 1) (omega (arith, p.second_in)) c.at-4.ensures,
    )

pub returns-then-z-lt0 : goal.returns-then-z-lt0
returns-then-z-lt0 c =
    let a = c.args.self.first in
    let b = c.args.self.second in
    less a.ring.east.now a.ring.north.now b.ring.east.now b.ring.north.now a.over b.over c.args.at.first c.args.at.second c.requires.0 c.if-self-i.false c.if-self-j.false
    c.at.ensures c.at-2.ensures c.at-3.ensures c.at-4.ensures c.bend-z.ensures (search rules)

pub returns-then-z-gt0 : goal.returns-then-z-gt0
returns-then-z-gt0 c =
    let a = c.args.self.first in
    let b = c.args.self.second in
    steeper a.ring.east.now a.ring.north.now b.ring.east.now b.ring.north.now a.over b.over c.args.at.first c.args.at.second c.requires.0 c.if-self-i.false c.if-self-j.false
    c.at.ensures c.at-2.ensures c.at-3.ensures c.at-4.ensures c.bend-z.ensures (search rules)

pub returns : goal.returns
returns c =
    let a = c.args.self.first in
    let b = c.args.self.second in
    level a.ring.east.now a.ring.north.now b.ring.east.now b.ring.north.now a.over b.over c.args.at.first c.args.at.second c.requires.0 c.if-self-i.false c.if-self-j.false
    c.at.ensures c.at-2.ensures c.at-3.ensures c.at-4.ensures c.bend-z.ensures (search rules) (search rules)
