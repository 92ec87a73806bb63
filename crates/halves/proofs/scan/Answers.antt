-- The turn comes no later than the way home ends.
use Rattle.std.specs.Prelude.{length}
use Rattle.std.proofs.Common.{arith}
use Rattle.samples.specs.Positions.{east_of}
use Rattle.halves.specs.Scans.{turn_before, scanned}
use Rattle.halves.proofs.scan.Goals as goal

pub returns : goal.returns
returns c =
    let e = c.args.east.now in
    let k = c.crest-there in
    scanned k.ensures c.turn-turn.ensures (omega (arith, turn_before (east_of e) (length e) k.result k.ensures.inside))
