use Rattle.std.proofs.Common.{sym, ap, ◌∙◌, subst, arith}
use Rattle.envelope.specs.Begins.{After, changed_if, begins-corner}
use Rattle.envelope.specs.CornersNear.{near_read}
use Rattle.envelope.proofs.turn.turned_corner.Goals as goal

pub place_after-requires : goal.place_after-requires
place_after-requires g c = (omega (arith, c.requires.1.here), omega arith)

pub changed-requires : goal.changed-requires
changed-requires g c = near_read c.requires.0 c.place_after.result c.corner.ensures

pub returns : goal.returns
returns g c =
    let q = c.requires in
    let after = subst (λ n. After n c.args.first c.args.i c.place_after.result) c.count.ensures c.place_after.ensures in
    c.changed.ensures ∙ ap (changed_if c.args.about) c.corner.ensures ∙ sym (begins-corner q.1 after)
