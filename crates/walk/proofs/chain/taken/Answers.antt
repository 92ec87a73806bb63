-- A corner that is hidden is passed over, another is put on top of those that stay.
use Rattle.std.proofs.Common.{add-one, arith}
use Rattle.walk.specs.Stacks.{taken_top, taken_hidden}
use Rattle.walk.proofs.chain.taken.Goals as goal

pub returns-then-hides : goal.returns-then-hides
returns-then-hides c = taken_hidden c.seen-s.ensures c.hides.ensures c.if-hides.true c.requires.1

pub returns : goal.returns
returns c =
    rw add-one (taken_top c.seen-s.ensures c.settled-t.ensures (c.hides.ensures.passes c.if-hides.false) c.requires.1 (omega arith) c.requires.0)
