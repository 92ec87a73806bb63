use Rattle.std.proofs.Common.{◌≡◌, sym, ap, ap₂, ◌∙◌, ℤ, not, ◌||◌, rules}
use Rattle.rules.specs.Streams.{within}
use Rattle.samples.specs.StreamWords.{read}
use Rattle.samples.specs.Samples.{beyond-parts}
use Rattle.samples.specs.HeldStream.{stream_of}
use Rattle.samples.proofs.streams.beyond.Goals as goal

pub returns : goal.returns
returns c =
    let s = c.args.s in
    let east : read s.east ≡ s.east = search rules in
    let north : read s.north ≡ s.north = search rules in
    let test = λ (z : ℤ). not (within z) in
    ap₂ ◌||◌ (c.part_beyond.ensures ∙ ap test east) (c.part_beyond-2.ensures ∙ ap test north)
    ∙ sym (beyond-parts (stream_of s))
