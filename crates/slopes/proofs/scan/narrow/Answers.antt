use Rattle.std.proofs.Common.{◌≡◌, ℕ, ◌*◌, ◌<◌, get_or, drop, sym, ap, ◌∙◌, arith, get_or-drop}
use Rattle.slopes.specs.ScratchLaws.{near_of}
use Rattle.slopes.specs.PassLaws.{roomy, kept-alike, kept-count}
use Rattle.slopes.specs.PivotSteps.{narrowed_below, narrowed_above, narrowed_none}
use Rattle.slopes.proofs.scan.narrow.Goals as goal

pub part-below-requires : goal.part-below-requires
part-below-requires c = let h = c.requires in (roomy h.0, near_of h.0.sound h.1)

pub returns-then-r-below : goal.returns-then-r-below
returns-then-r-below c =
    let p = c.part-below in
    narrowed_below c.requires.0 c.requires.1 p.auto.w p.ensures.below-kept c.if-r-below.true

pub returns-then-r-upto : goal.returns-then-r-upto
returns-then-r-upto c =
    let p = c.part-below.ensures in
    narrowed_none c.requires.0 c.requires.1 (kept-count p.below-kept) (kept-count p.above_kept) c.if-r-below.false c.if-r-upto.true

pub returns : goal.returns
returns c =
    let p = c.part-below in
    let v = p.new.w in
    let n = c.args.n in
    let u = c.copy_within in
    let moved : (j : ℕ) → j < 2 * p.result.above → get_or u.new.self j 0 ≡ get_or (drop (2 * n) v) j 0 =
    λ j h. u.ensures.by_index.0 j 0 (omega arith) (omega arith) ∙ ap (λ (k : ℕ). get_or v k 0) (omega arith) ∙ sym (get_or-drop (2 * n) v j 0)
    in
    narrowed_above c.requires.0 c.requires.1 (u.ensures.len ∙ p.auto.w) (kept-alike p.ensures.above_kept (record { same = moved })) c.if-r-upto.false
