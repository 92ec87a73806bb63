use Rattle.std.proofs.Common.{◌≡◌, ℕ, zero, suc, ◌+◌, ◌-◌, ◌*◌, ◌<◌, ◌≤◌, arith}
use Rattle.std.specs.Int.{div_ceil}
use Rattle.std.proofs.Math.Nat.{mul-le-mul_right}
use Rattle.std.proofs.lemmas.Grind.{div_ceil_times}
use Rattle.slopes.specs.Gathering.{gathering_more, gathered}
use Rattle.slopes.proofs.gather.sample.Goals as goal

-- one of every d taken of n: g of them, from place 0 on, of which the last is below n
ends : (n d g : ℕ) → 8 ≤ d → g ≡ div_ceil n d → (n ≤ g * d) × (g * d < n + d)
ends n d g wide e = rw e (div_ceil_times n d (omega arith))

placed : (n d g i : ℕ) → 8 ≤ d → g ≡ div_ceil n d → i < g → d * i < n
placed n d g i wide e here = let few = (ends n d g wide e).1 in grind arith

some : (n d g : ℕ) → n ≤ g * d → 1 ≤ n → 1 ≤ g
some n d zero h one = absurd (omega arith)
some n d (suc g) h one = omega arith

-- at most an eighth, rounded up, is taken
eighth : (n d g : ℕ) → 8 ≤ d → g ≡ div_ceil n d → 1 ≤ g → 8 * g < n + 8
eighth n d g wide e one = omega (arith, placed n d g (g - 1) wide e (omega arith), mul-le-mul_right (g - 1) wide)

pub loop-i-preserved : goal.loop-i-preserved
loop-i-preserved c =
    let long = c.loop-i.invariant.long in
    let room = c.requires.0.room in
    let n = c.args.n in
    let d = c.args.d in
    let g = c.div_ceil-g in
    let place : d * c.loop-i.i < n = placed n d g.result c.loop-i.i c.requires.2 g.ensures c.loop-i-test.true in
    rw c.copy.ensures (gathering_more c.loop-i.invariant place (omega (arith, eighth n d g.result c.requires.2 g.ensures (omega arith))))

pub returns : goal.returns
returns c =
    let many = c.requires.1 in
    let n = c.args.n in
    let d = c.args.d in
    let g = c.div_ceil-g in
    let all : c.loop-i.i ≡ g.result = omega arith in
    let one : 1 ≤ g.result = some n d g.result (ends n d g.result c.requires.2 g.ensures).0 (omega arith) in
    gathered (rw all at c.loop-i.invariant) one (omega (arith, eighth n d g.result c.requires.2 g.ensures one))
