-- The slope of two positions as the code's words.
-- Assumes nothing.
use Rattle.std.specs.Prelude.{◌≡◌, Bool, cond, ltb, ℤ, pos, ◌+ℤ◌, ◌-ℤ◌, neg_ℤ, nat_abs, ◌≤ℤ◌, ◌<ℤ◌}
use mathlib.Core.Path.{refl, sym, ap, ap₂, ◌∙◌}
use mathlib.Core.Option.{none, some}
use borrow.Author.Tests.{lt-ltb}
use lib.Signed.{lt_z}
use Rattle.whole.specs.Linear.{order, sum, difference, negation}
use Rattle.whole.specs.Laws.{lt_test, nlt_test, <ℤ→≤ℤ, ≤ℤ_of-≡, ≡→0≡}
use Rattle.whole.specs.Solver.{num, ◌⊕◌, ◌⊖◌, ⊝◌}
use Rattle.whole.specs.Fits.{value-within, at_most, at_least}
use Rattle.rules.specs.Streams.{Stream}
use Rattle.rules.specs.Round.{Slope, slope}
use Rattle.slopes.specs.Fractions.{fraction}
use Rattle.samples.specs.Positions.{Near}
use Rattle.round.specs.Slopes.{PairSlope}
use Rattle.round.proofs.RoundWords.{two_leaves, way, climb, natural}

-- a slope from its words: x is the rise plus 2,000,000, y the run
has-slope : (x y : ℤ) (k : Slope) → pos 0 ≤ℤ x → pos 0 <ℤ y → k.rise ≡ x -ℤ pos 2000000 → k.run ≡ y
    → some k ≡ cond (ltb 0 (nat_abs y)) (some (fraction (nat_abs x) (nat_abs y))) none
has-slope x y k h g e f =
    some_is ∙ sym (ap (λ (b : Bool). cond b (some (fraction (nat_abs x) (nat_abs y))) none) (lt-ltb 0 (nat_abs y) (let n = natural (<ℤ→≤ℤ g) in omega order)))
  where
    rise-is : k.rise ≡ pos (nat_abs x) -ℤ pos 2000000
    rise-is = e ∙ ap (λ (z : ℤ). z -ℤ pos 2000000) (sym (natural h))

    run_is : k.run ≡ pos (nat_abs y)
    run_is = f ∙ sym (natural (<ℤ→≤ℤ g))

    some_is : some k ≡ some (fraction (nat_abs x) (nat_abs y))
    some_is = λ i. some (record { rise = rise-is i; run = run_is i })

module _ {p q : Stream} (hp : Near p) (hq : Near q) where
  -- the rise of the way from q to p plus 2,000,000, and of the way from p to q
  abbrev rise : ℤ
  rise = q.north -ℤ p.north

  pub up-to-first : pos 0 ≤ℤ (pos 2000000 -ℤ rise)
  up-to-first =
      let high = at_most hq.north_near in
      let low = at_least hp.north_near in
      omega (order, difference (pos 2000000) rise, difference q.north p.north, negation (pos 1000000))

  pub up-to-second : pos 0 ≤ℤ (pos 2000000 +ℤ rise)
  up-to-second =
      let low = at_least hq.north_near in
      let high = at_most hp.north_near in
      omega (order, sum (pos 2000000) rise, difference q.north p.north, negation (pos 1000000))

  -- the second lies west of the first
  pub slope_west : q.east <ℤ p.east → PairSlope p q (nat_abs (pos 2000000 -ℤ rise)) (nat_abs (neg_ℤ (q.east -ℤ p.east)))
  slope_west h =
      record {
        rise-high = (value-within (two_leaves hp hq) (num (pos 2000000) ⊖ climb)).within;
        run-high = (value-within (two_leaves hp hq) (⊝ way)).within;
        is =
            ap₂ (λ (b c : Bool). cond b (some (slope p q)) (cond c (some (slope q p)) none)) (nlt_test (<ℤ→≤ℤ h)) (lt_test h)
            ∙ has-slope (pos 2000000 -ℤ rise) (neg_ℤ (q.east -ℤ p.east)) (slope q p) up-to-first
            (omega (order, negation (q.east -ℤ p.east), difference q.east p.east))
            (let a = difference q.north p.north in
            let b = difference p.north q.north in
            omega (order, difference (pos 2000000 -ℤ rise) (pos 2000000), difference (pos 2000000) rise))
            (omega (order, negation (q.east -ℤ p.east), difference q.east p.east, difference p.east q.east));
      }

  -- it lies east of it, or at its east
  pub slope-east : p.east <ℤ q.east → PairSlope p q (nat_abs (pos 2000000 +ℤ rise)) (nat_abs (q.east -ℤ p.east))
  slope-east h =
      record {
        rise-high = (value-within (two_leaves hp hq) (num (pos 2000000) ⊕ climb)).within;
        run-high = (value-within (two_leaves hp hq) way).within;
        is =
            ap (λ (b : Bool). cond b (some (slope p q)) (cond (lt_z q.east p.east) (some (slope q p)) none)) (lt_test h)
            ∙ has-slope (pos 2000000 +ℤ rise) (q.east -ℤ p.east) (slope p q) up-to-second
            (omega (order, difference q.east p.east))
            (omega (order, difference (pos 2000000 +ℤ rise) (pos 2000000), sum (pos 2000000) rise))
            refl;
      }

  pub no_slope : p.east ≡ q.east → PairSlope p q (nat_abs (pos 2000000 +ℤ rise)) (nat_abs (q.east -ℤ p.east))
  no_slope h =
      record {
        rise-high = (value-within (two_leaves hp hq) (num (pos 2000000) ⊕ climb)).within;
        run-high = (value-within (two_leaves hp hq) way).within;
        is =
            ap₂ (λ (b c : Bool). cond b (some (slope p q)) (cond c (some (slope q p)) none)) (nlt_test (≤ℤ_of-≡ (sym h))) (nlt_test (≤ℤ_of-≡ h))
            ∙ sym
            (ap
            (λ (y : ℤ). cond (ltb 0 (nat_abs y)) (some (fraction (nat_abs (pos 2000000 +ℤ rise)) (nat_abs y))) none)
            (≡→0≡ h));
      }
