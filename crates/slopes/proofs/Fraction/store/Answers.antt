use Rattle.std.proofs.Common.{refl}
use Rattle.slopes.specs.Fractions.{put}
use Rattle.slopes.proofs.Fraction.store.Goals as goal

pub returns : goal.returns
unfolding put
returns c = refl
