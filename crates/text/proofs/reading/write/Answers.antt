use Rattle.std.specs.Prelude.{◌≡◌, Some}
use Rattle.std.proofs.Common.{w32, to_z, of_z, sym, ap, ◌∙◌, arith, rules}
use Rattle.samples.specs.HeldStream.{stream_of}
use Rattle.text.specs.TextAnswers.{first_as, first_there}
use Rattle.text.specs.Writing.{writing_none, writing_more, line_comes, east-counted, north-counted}
use Rattle.text.proofs.reading.write.Goals as goal

pub loop-i-init : goal.loop-i-init
loop-i-init c = writing_none c.args.text.now c.args.east.now c.args.north.now

pub unwrap-first-requires : goal.unwrap-first-requires
unwrap-first-requires c =
    first_there c.first_line.result (λ e. line_comes c.requires c.loop-i.invariant (omega arith) (sym c.first_line.ensures ∙ e))

pub loop-i-preserved : goal.loop-i-preserved
loop-i-preserved c =
    let f = c.unwrap-first.result in
    let e : to_z w32 (of_z w32 f.sample.east) ≡ f.sample.east = search rules in
    let n : to_z w32 (of_z w32 f.sample.north) ≡ f.sample.north = search rules in
    let found : c.first_line.result ≡ Some f = search rules in
    rw (e, n)
    (writing_more c.requires c.loop-i.invariant (stream_of f.sample) f.rest.now (sym c.first_line.ensures ∙ ap first_as found))

pub returns : goal.returns
returns c =
    record { east = east-counted c.requires c.loop-i.invariant (omega arith); north = north-counted c.requires c.loop-i.invariant (omega arith) }
