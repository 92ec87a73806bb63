-- The tests refuse, or the rounds from all the numbers report the bridge.
use Rattle.std.specs.Prelude.{◌≡◌, false, List, ℕ, ℤ, length}
use Rattle.std.proofs.Common.{sym, ◌∙◌, subst, subst₂, arith, rules}
use mir.Syntax.{w32, w64}
use mir.Val.{to_z, of_z}
use mir.Facts.{to_z-of_z}
use Rattle.whole.specs.Solver.{var}
use Rattle.whole.specs.Fits.{[]ʷ, ◌∷ᶜ◌, cast, word-is}
use Rattle.rules.specs.Bridge.{ends}
use Rattle.laws_rounds.specs.Rounds.{Found}
use Rattle.laws_rounds.specs.WholeList.{numbers}
use Rattle.samples.specs.Positions.{at}
use Rattle.rules.specs.Refusals.{refused}
use Rattle.samples.specs.Answers.{number_of, answer_as}
use Rattle.bridge.specs.Promise.{BridgeAsks, ends_of}
use Rattle.bridge.proofs.Promising.{ready, passed_parts, reported, bridge_asks, refused_promise, passed_promise}
use Rattle.bridge.proofs.bridge.Goals as goal

pub returns-in_err-samples : goal.returns-in_err-samples
returns-in_err-samples c =
    let a = c.args in
    let r = c.in_err-samples.field-0.0 in
    let e : answer_as ends_of c.from_residual.result ≡ refused (number_of r.reason) r.place = search rules in
    refused_promise a.east.now a.north.now a.a a.scratch.now (rw (to_z-of_z c.ranges.a) at c.in_err-samples.ensures) e

pub bridge_of-found-requires : goal.bridge_of-found-requires
bridge_of-found-requires c =
    let a = c.args in
    let passed = rw (to_z-of_z c.ranges.a) at c.in_ok-samples.ensures in
    let whole : to_z w64 (of_z w64 (to_z w32 (of_z w32 a.a))) ≡ a.a = word-is w64 (cast c.ranges.a ∷ᶜ []ʷ) (var 0) tt in
    let kept = c.number.auto.w in
    subst₂ (λ (z : ℤ) (y : List ℤ × List ℤ). BridgeAsks (length y.0) (at y.0 y.1 false) z c.number.new.w (length a.east.now)) (sym whole)
    (sym (passed_parts a.east.now a.north.now a.a (length a.scratch.now) passed))
    (bridge_asks a.east.now a.north.now a.a (ready a.east.now a.north.now a.a (length a.scratch.now) passed) c.number.ensures (omega arith))

pub returns : goal.returns
returns c =
    let a = c.args in
    let passed = rw (to_z-of_z c.ranges.a) at c.in_ok-samples.ensures in
    let whole : to_z w64 (of_z w64 (to_z w32 (of_z w32 a.a))) ≡ a.a = word-is w64 (cast c.ranges.a ∷ᶜ []ʷ) (var 0) tt in
    let f = c.bridge_of-found in
    let over = subst₂ (λ (z : ℤ) (l : List ℕ). Found (at c.in_ok-samples.samples.east.now c.in_ok-samples.samples.north.now false) z l (ends f.result.left f.result.right))
    whole c.number.ensures f.ensures in
    let found = subst (λ (y : List ℤ × List ℤ). Found (at y.0 y.1 false) a.a (numbers (length a.east.now)) (ends f.result.left f.result.right))
    (passed_parts a.east.now a.north.now a.a (length a.scratch.now) passed) over in
    passed_promise a.east.now a.north.now a.a a.scratch.now passed
    (reported a.east.now a.north.now a.a (ready a.east.now a.north.now a.a (length a.scratch.now) passed) found)
    f.new.w
    (f.auto.w ∙ c.number.auto.w)
    (search rules)
