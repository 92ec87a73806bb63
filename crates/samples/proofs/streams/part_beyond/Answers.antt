use Rattle.std.proofs.Common.{◌≡◌, refl, ap, ◌∙◌, Bool, true, false, not, ◌||◌, ℤ, pos, neg_ℤ, to_z-of_z}
use Rattle.std.specs.Int.Signed.{lt_z}
use Rattle.rules.specs.Streams.{limit, within}
use Rattle.samples.specs.Samples.{beyond-below, beyond-above}
use Rattle.samples.proofs.streams.part_beyond.Goals as goal

by_tests : (z : ℤ) (b : Bool) → lt_z z (neg_ℤ (pos limit)) ≡ b → (b || lt_z (pos limit) z) ≡ not (within z)
by_tests z true e = beyond-below z e
by_tests z false e = beyond-above z e

pub returns : goal.returns
returns c =
    let z = c.args.x in
    ap (λ (y : ℤ). lt_z y (neg_ℤ (pos limit)) || lt_z (pos limit) y) (to_z-of_z c.ranges.x)
    ∙ by_tests z (lt_z z (neg_ℤ (pos limit))) refl
