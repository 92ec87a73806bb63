use Rattle.std.proofs.lemmas.Option.{IfSome_then}
use Rattle.slopes.specs.ScratchLaws.{near_of, alike_trans}
use Rattle.slopes.specs.Gathering.{alike_asks}
use Rattle.slopes.specs.Brackets.{bracketed_alike}
use Rattle.slopes.proofs.bracket.bracket.Goals as goal

pub enclosed-requires : goal.enclosed-requires
enclosed-requires c =
    let high = c.sampled-high in
    let low = c.sampled-low in
    let n = c.args.n in
    let ask = alike_asks n low.ensures.front low.auto.w c.requires in
    (alike_asks n high.ensures.front high.auto.w ask, near_of c.requires.sound low.ensures.isIn, near_of ask.sound high.ensures.isIn)

pub returns-clause-few : goal.returns-clause-few
returns-clause-few c =
    IfSome_then c.enclosed.result c.enclosed.ensures.few (λ s. bracketed_alike (alike_trans c.sampled-low.ensures.front c.sampled-high.ensures.front))
