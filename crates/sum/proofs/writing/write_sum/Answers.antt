-- The two halves make the sum, which is written, or an output is too short for it.
use Rattle.std.specs.Prelude.{◌≡◌, Err, List, ℕ, ◌+◌, ◌-◌, ◌≤◌, ◌<◌, ℤ, length, take, drop}
use Rattle.std.proofs.Common.{sym, ap, ◌∙◌, rules, arith, length-drop}
use Rattle.std.proofs.lemmas.List.{length-take-le}
use Rattle.rules.specs.Lists.{zeros}
use Rattle.rules.specs.Streams.{streams, most}
use Rattle.rules.specs.Use.{sum}
use Rattle.laws_halves.specs.Closing.{LeftIn}
use Rattle.laws_halves.specs.Scanned.{Scanned}
use Rattle.samples.specs.Positions.{east_of}
use Rattle.samples.specs.Answers.{answer_of}
use Rattle.samples.specs.InOrder.{fits_both}
use Rattle.samples.specs.declared.refusals.Refusal.{Refusal}
use Rattle.envelope.specs.TwoRings.{Rings}
use Rattle.sum.specs.Stretches.{merged, few_corners}
use Rattle.sum.specs.Whole.{held, there_on, back_on, there-both, back-both, sum-parts, in_order, sum-count, both-written}
use Rattle.sum.specs.Outcome.{short, done}
use Rattle.sum.proofs.writing.write_sum.Goals as goal

-- what is left in, how many corners go there and how many are left in, and that they are all of the sum
module _ {es ns fs ms : List ℤ} (p : Rings es ns fs ms) (some : 0 < length es) (some2 : 0 < length fs) {k c n k2 c2 n2 : ℕ}
    (s : Scanned (east_of es) (length es) k c n) (t : Scanned (east_of fs) (length fs) k2 c2 n2) {there lo hi : ℕ}
    (e : there ≡ length (merged es ns fs ms (held 0 k) (held 0 k2)))
    (l : LeftIn (merged es ns fs ms (held 0 k) (held 0 k2)) (merged es ns fs ms (held c n) (held c2 n2)) lo hi) where
  order : (lo ≤ hi) × (hi ≤ length (merged es ns fs ms (held c n) (held c2 n2))) × (lo ≤ 1)
  order = in_order p some some2 s t l

  few : (there ≤ most + 2) × (hi - lo ≤ most + 2)
  few =
      let g = few_corners (there-both p some some2 s t) in
      let h = few_corners (back-both p some some2 s t) in
      let o = order in
      (omega (arith, g, e), omega (arith, h, o.1))

  size : length (sum (streams es ns) (streams fs ms)) ≡ there + (hi - lo)
  size = sum-count p some some2 s t l ∙ ap (λ (m : ℕ). m + (hi - lo)) (sym e)

-- so much of a list from a place on
behind : (l : List ℤ) (n m : ℕ) → n + m ≤ length l → m ≤ length (take (length l - n) (drop n l))
behind l n m h = omega (arith, length-drop n l, length-take-le (length l - n) (drop n l) (omega (arith, length-drop n l)))

pub invariant_of-there : goal.invariant_of-there
invariant_of-there c = record { on = there_on c.requires.first c.args.first.one.some c.scan-h.ensures }

pub invariant_of-there-2 : goal.invariant_of-there-2
invariant_of-there-2 c = record { on = there_on c.requires.second c.args.second.one.some c.scan-g.ensures }

pub invariant_of-back : goal.invariant_of-back
invariant_of-back c = record { on = back_on c.requires.first c.args.first.one.some c.scan-h.ensures }

pub invariant_of-back-2 : goal.invariant_of-back-2
invariant_of-back-2 c = record { on = back_on c.requires.second c.args.second.one.some c.scan-g.ensures }

pub overflow_sub-rest : goal.overflow_sub-rest
overflow_sub-rest c =
    let p = c.requires in
    let some = c.args.first.one.some in
    let some2 = c.args.second.one.some in (in_order p some some2 c.scan-h.ensures c.scan-g.ensures c.left_in-part.ensures).0

pub overflow_add-corners : goal.overflow_add-corners
overflow_add-corners c =
    let p = c.requires in
    let some = c.args.first.one.some in
    let some2 = c.args.second.one.some in
    let f = few p some some2 c.scan-h.ensures c.scan-g.ensures c.count-corners.ensures c.left_in-part.ensures in
    omega (arith, f.0, f.1)

pub returns-then-too_short : goal.returns-then-too_short
returns-then-too_short c =
    let p = c.requires in
    let some = c.args.first.one.some in
    let some2 = c.args.second.one.some in
    let a = c.args in
    let cleared : c.clear.new.w ≡ zeros a.scratch.now = search rules in
    short (sum (streams a.first.east.now a.first.north.now) (streams a.second.east.now a.second.north.now)) _
    (size p some some2 c.scan-h.ensures c.scan-g.ensures c.count-corners.ensures c.left_in-part.ensures) a.out_east.now a.out_north.now
    a.scratch.now cleared (ap (λ (r : Refusal). answer_of (Err r)) c.into.ensures) (sym c.too_short.ensures ∙ c.if-too_short.true)

pub put-requires-2 : goal.put-requires-2
put-requires-2 c =
    let p = c.requires in
    let some = c.args.first.one.some in
    let some2 = c.args.second.one.some in
    let o = in_order p some some2 c.scan-h.ensures c.scan-g.ensures c.left_in-part.ensures in
    let a = c.args in
    let q = c.left_in-part.result in
    let n = c.count-corners.result in
    let r = fits_both (length a.out_east.now) (length a.out_north.now) (n + (q.end - q.start)) (sym c.too_short.ensures ∙ c.if-too_short.false) in (
      o.2,
      omega (arith, o.0, o.1),
      behind c.put.new.out_east n (q.end - q.start) (omega (arith, r.0, c.put.auto.out_east)),
      behind c.put.new.out_north n (q.end - q.start) (omega (arith, r.1, c.put.auto.out_north)),
    )

pub returns : goal.returns
returns c =
    let p = c.requires in
    let some = c.args.first.one.some in
    let some2 = c.args.second.one.some in
    let a = c.args in
    let q = c.left_in-part.result in
    let n = c.count-corners.result in
    let whole = sum (streams a.first.east.now a.first.north.now) (streams a.second.east.now a.second.north.now) in
    let parts = sum-parts p some some2 c.scan-h.ensures c.scan-g.ensures c.left_in-part.ensures in
    let o = in_order p some some2 c.scan-h.ensures c.scan-g.ensures c.left_in-part.ensures in
    let cleared : c.clear.new.w ≡ zeros a.scratch.now = search rules in
    done whole (n + (q.end - q.start)) (size p some some2 c.scan-h.ensures c.scan-g.ensures c.count-corners.ensures c.left_in-part.ensures)
    a.out_east.now a.out_north.now a.scratch.now cleared (sym c.too_short.ensures ∙ c.if-too_short.false)
    (both-written (λ t. t.east) whole _ _ q.start q.end n a.out_east.now c.put.new.out_east c.put-2.new.out_east parts c.count-corners.ensures o.0
    c.put.ensures.0 c.put-2.ensures.0)
    (both-written (λ t. t.north) whole _ _ q.start q.end n a.out_north.now c.put.new.out_north c.put-2.new.out_north parts c.count-corners.ensures o.0
    c.put.ensures.1 c.put-2.ensures.1)
