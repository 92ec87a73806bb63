use Rattle.rules.specs.Streams.{within, beyond}
use Rattle.envelope.proofs.test.of_ring.Goals as goal

-- the stream that is tested is within the limit
pub returns : goal.returns
unfolding within beyond
returns c = c.of_ring_and_stream.ensures
