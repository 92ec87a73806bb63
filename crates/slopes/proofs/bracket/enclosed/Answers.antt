use Rattle.std.proofs.Common.{arith}
use Rattle.slopes.specs.Brackets.{lent_listed, bracketed}
use Rattle.slopes.proofs.bracket.enclosed.Goals as goal

pub not_above-k-requires : goal.not_above-k-requires
not_above-k-requires c =
    let h = c.requires in
    (lent_listed h.0 h.1 c.not_below-a.auto.w c.not_below-a.ensures, h.2)

pub returns-clause-few : goal.returns-clause-few
returns-clause-few c =
    let h = c.requires in
    let a = c.not_above-k in
    let b = c.not_below-a in
    bracketed h.0 h.1 b.auto.w b.ensures h.2 a.auto.w a.ensures (omega arith) (omega arith) (omega arith)
