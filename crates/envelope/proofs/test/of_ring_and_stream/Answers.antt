use Rattle.std.proofs.Common.{sym, []}
use Rattle.rules.specs.Refusals.{ring_tests}
use Rattle.samples.specs.InOrder.{passed_tests, sampled_few}
use Rattle.envelope.specs.CornersNear.{lists_near}
use Rattle.envelope.proofs.test.of_ring_and_stream.Goals as goal

pub is_envelope-requires : goal.is_envelope-requires
is_envelope-requires c =
    let es = c.args.east.now in
    let ns = c.args.north.now in
    lists_near (sampled_few es ns [] (passed_tests (es, ns) (ring_tests es ns) (sym c.in_ok-tested.ensures))).0
