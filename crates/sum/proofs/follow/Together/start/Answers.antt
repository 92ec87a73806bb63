-- The first corner, or a step on from it.
use Rattle.std.specs.Prelude.{◌≡◌, ℕ}
use Rattle.std.proofs.Common.{sym, subst, arith}
use Rattle.sum.specs.declared.follow.Together.{Together}
use Rattle.sum.specs.Stretches.{Reached, reached_next, starts, pair-first}
use Rattle.sum.specs.Corners.{corners_of, both_of}
use Rattle.sum.proofs.follow.Together.start.Goals as goal

-- the first corner
first : (t : Together) → Reached (corners_of t.first) (corners_of t.second) 0 0 0
first t = record { stands = λ h. starts (both_of t) }

pub returns-then-lo-eq1 : goal.returns-then-lo-eq1
returns-then-lo-eq1 c =
    let s = c.args.self in
    let r = c.step.result in (
      c.step.ensures.0,
      subst (λ (n : ℕ). Reached (corners_of s.first) (corners_of s.second) n r.first r.second) (sym c.if-lo-eq1.true)
          (reached_next (first s) c.step.ensures.1),
    )

pub returns : goal.returns
returns c =
    let s = c.args.self in
    let e : 0 ≡ c.args.lo = omega arith in
    (pair-first (both_of s), subst (λ (n : ℕ). Reached (corners_of s.first) (corners_of s.second) n 0 0) e (first s))
