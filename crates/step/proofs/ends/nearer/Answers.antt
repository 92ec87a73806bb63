use Rattle.std.proofs.Common.{◌≡◌, Bool, sym, ap, ap₂, ◌∙◌, rules, to_z, of_z, w32}
use Rattle.rules.specs.Streams.{stream}
use Rattle.rules.specs.Chain.{leftmost}
use Rattle.samples.specs.HeldStream.{stream_of}
use Rattle.step.specs.Ends.{nearer, rightmost_exchanged}
use Rattle.step.proofs.ends.nearer.Goals as goal

pub returns-then-right : goal.returns-then-right
returns-then-right c =
    let a = c.args in
    let qe : to_z w32 (of_z w32 a.q.east) ≡ a.q.east = search rules in
    let pn : to_z w32 (of_z w32 a.p.north) ≡ a.p.north = search rules in
    let pe : to_z w32 (of_z w32 a.p.east) ≡ a.p.east = search rules in
    let qn : to_z w32 (of_z w32 a.q.north) ≡ a.q.north = search rules in
    c.leftmost.ensures
    ∙ ap₂ leftmost (ap₂ stream qe pn) (ap₂ stream pe qn)
    ∙ rightmost_exchanged (stream_of a.p) (stream_of a.q)
    ∙ sym (ap (λ (right : Bool). nearer right (stream_of a.p) (stream_of a.q)) c.if-right.true)
