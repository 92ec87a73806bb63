-- What a stream held by the code is in the rules' words.
-- Assumes nothing.
use Rattle.rules.specs.Streams.{Stream, stream}
use Rattle.samples.specs.declared.streams.Stream as held

abbrev pub stream_of : held.Stream → Stream
stream_of s = stream s.east s.north
