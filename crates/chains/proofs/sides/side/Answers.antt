use Rattle.std.proofs.Common.{arith}
use Rattle.chains.proofs.Siding.{none, first_asks, chain_asks, side_says}
use Rattle.chains.proofs.sides.side.Goals as goal

pub returns-then-e-eq0 : goal.returns-then-e-eq0
returns-then-e-eq0 c = let a = c.args in none a.s.samples.east.now a.s.samples.north.now a.s.lower a.w.now (omega arith)

pub first-t-requires : goal.first-t-requires
first-t-requires c = first_asks c.args.s.lower c.args.s.samples.sampled c.requires (omega arith) c.end_of-p.ensures c.end_of-q.ensures

pub chain-requires : goal.chain-requires
chain-requires c =
    chain_asks c.args.s.lower c.args.s.samples.sampled c.requires (omega arith) c.end_of-p.ensures c.end_of-q.ensures c.first-t.ensures c.first-t.auto.w

pub returns : goal.returns
returns c =
    side_says c.args.s.lower c.args.s.samples.sampled c.requires (omega arith) c.end_of-p.ensures c.end_of-q.ensures c.first-t.ensures c.first-t.auto.w
    c.chain.result
    c.chain.new.w
    c.chain.ensures
