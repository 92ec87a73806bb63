use Rattle.std.proofs.Common.{ap₂, ◌∙◌, ◌&&◌}
use Rattle.rules.specs.Streams.{same}
use Rattle.samples.specs.StreamWords.{numbers_equal}
use Rattle.samples.proofs.streams.same.Goals as goal

pub returns : goal.returns
unfolding same
returns c =
    let p = c.args.p in
    let q = c.args.q in
    c.eq.ensures ∙ ap₂ ◌&&◌ (numbers_equal p.east q.east) (numbers_equal p.north q.north)
