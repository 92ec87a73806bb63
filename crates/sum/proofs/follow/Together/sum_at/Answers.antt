use Rattle.sum.specs.Stretches.{along_near}
use Rattle.sum.proofs.follow.Together.sum_at.Goals as goal

pub added-requires : goal.added-requires
added-requires c =
    let s = c.args.self in
    let at = c.args.at in
    (along_near s.first.on at.first c.requires.first_in c.at.ensures, along_near s.second.on at.second c.requires.second_in c.at-2.ensures)
