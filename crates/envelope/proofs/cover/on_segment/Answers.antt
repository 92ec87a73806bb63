use Rattle.std.proofs.Common.{◌≡◌, ap, ap₂, ◌∙◌, ◌&&◌, ℤ, pos, arith}
use Rattle.std.specs.Int.{w64}
use Rattle.whole.specs.Fits.{Within}
use Rattle.rules.specs.Streams.{limit, eqZ}
use Rattle.rules.specs.Use.{between, covers}
use Rattle.samples.specs.StreamWords.{read, held, words_equal}
use Rattle.envelope.proofs.cover.on_segment.Goals as goal

-- the parts are read as they are
spans : {a b x : ℤ} → Within a limit → Within b limit → Within x limit → between (read a) (read b) (read x) ≡ between a b x
spans h k l = λ i. between ((held h).same i) ((held k).same i) ((held l).same i)

pub returns : goal.returns
unfolding covers
returns c =
    let z = c.side-level in
    let near = c.requires in
    ap₂ ◌&&◌
    (ap₂ ◌&&◌
    (words_equal w64 z.result (pos 0) z.type_inv (omega arith) ∙ ap (λ (z : ℤ). eqZ z (pos 0)) z.ensures)
    (c.between.ensures ∙ spans near.0.east_near near.1.east_near near.2.east_near))
    (c.between-2.ensures ∙ spans near.0.north_near near.1.north_near near.2.north_near)
