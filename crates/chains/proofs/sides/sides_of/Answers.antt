use Rattle.chains.proofs.Siding.{admitted, sides_made}
use Rattle.chains.proofs.sides.sides_of.Goals as goal

pub returns : goal.returns
returns c =
    let a = c.args in
    let d = admitted a.e.now a.n.now a.scratch.now c.in_ok-samples.samples c.in_ok-samples.ensures in
    sides_made a.e.now a.n.now a.scratch.now d c.in-Some.ensures c.side.auto.w c.in-Some-side.ensures c.side-2.auto.w
