use Rattle.std.proofs.Common.{ap₂, ◌∙◌, ◌*ℤ◌, w64}
use lib.Signed.{lt_z}
use borrow.Author.Rules.{to_z-of_z_to}
use Rattle.rules.specs.Round.{slope_le}
use Rattle.laws_ranks.specs.Numbers.{whole_under}
use Rattle.slopes.proofs.Slope.below.Goals as goal

pub returns : goal.returns
unfolding slope_le
returns c =
    let j = c.args.self in
    let k = c.args.k in
    ap₂ lt_z (to_z-of_z_to w64 _ _ (record { sfits = c.cross.type_inv }) c.cross.ensures) (to_z-of_z_to w64 _ _ (record { sfits = c.cross-2.type_inv }) c.cross-2.ensures)
    ∙ whole_under (k.rise *ℤ j.run) (j.rise *ℤ k.run)
