use Rattle.std.proofs.Common.{◌≡◌, ◌<◌, ℕ, ℤ, Bool, List, length, take, get_or, ap, ◌∙◌, arith, rules, length-take-le}
use Rattle.std.proofs.Math.Path.{subst⁻¹}
use Rattle.samples.specs.Positions.{east_of}
use Rattle.samples.specs.Samples.{listed_at}
use Rattle.step.specs.NumberLists.{past, PassAsks}
use Rattle.step.proofs.SignedWords.{word}
use Rattle.step.proofs.Passing.{Passing, passing_none, passing_more, passing_item}
use Rattle.step.proofs.lists.pass.Goals as goal

module _ {e : List ℤ} {w : List ℕ} {t to : ℕ} (asks : PassAsks e w t to) (test : ℕ → Bool) where
  list_long : length (take t w) ≡ t
  list_long = length-take-le t w (omega (arith, asks))

  -- the number at place i is as it was
  item : {now : List ℕ} {i k : ℕ} → i < t → Passing test (take t w) w to now i k → get_or now i 0 ≡ get_or (take t w) i 0
  item {i = i} h p = passing_item test (take t w) w to t i h asks.behind p

pub loop-i-init : goal.loop-i-init
loop-i-init c =
    let a = c.args in
    passing_none (λ x. past a.west (word a.a) (east_of a.e.now x)) (take a.t a.w.now) a.w.now a.to

pub east-requires : goal.east-requires
east-requires c =
    let a = c.args in
    let l = c.loop-i in
    let test : ℕ → Bool = λ x. past a.west (word a.a) (east_of a.e.now x) in
    subst⁻¹ (λ (x : ℕ). x < length a.e.now) (item c.requires test (omega arith) l.invariant)
    (listed_at c.requires.listed l.i (omega (arith, list_long c.requires test)))

pub loop-i-preserved : goal.loop-i-preserved
loop-i-preserved c =
    let a = c.args in
    let l = c.loop-i in
    let test : ℕ → Bool = λ x. past a.west (word a.a) (east_of a.e.now x) in
    let k : word c.east.result ≡ c.east.result = search rules in
    passing_more test (take a.t a.w.now) a.w.now a.to _
    (c.past.ensures ∙ ap (past a.west (word a.a)) (k ∙ c.east.ensures))
    (item c.requires test (omega arith) l.invariant)
    (omega (arith, list_long c.requires test))
    (omega (arith, l.invariant.few, c.requires))
    l.invariant
