use Rattle.std.specs.Prelude.{◌≡◌, ◌≤◌, Bool, length, get_or, take, drop, int_le, int_lt}
use Rattle.std.specs.Int.{w64}
use Rattle.std.proofs.Common.{rules, arith, sym, ap, ◌∙◌, to_z, of_z}
use mathlib.Core.Path.{ap₂}
use lib.Seq.{length-take-le, take-append-le}
use Rattle.rules.specs.Round.{paired, kept, keep, round_with}
use Rattle.slopes.specs.Fractions.{as_slope}
use Rattle.samples.specs.Sides.{seen}
use Rattle.round.specs.Keeping.{towards}
use Rattle.round.proofs.Rounding.{tops_found, tops_west, tops_east}
use Rattle.round.proofs.turn.finish.Goals as goal
use Rattle.round.proofs.turn.finish.Goals.{else-top-a-via-then-top-a+else-a-top, else-top-a-via-else-top-a}

pub returns-then-a-top : goal.returns-then-a-top
returns-then-a-top c =
    let a = c.args in
    let places = seen a.side in
    let list = take a.t a.w.now in
    let top = c.of_list-top.result in
    let long = length-take-le a.t a.w.now c.requires.room in
    let one : 1 ≤ length list = let h = c.requires.one in omega (arith, long) in
    let a-is : to_z w64 (of_z w64 a.a) ≡ a.a = search rules in
    let from_is : to_z w64 (of_z w64 top.from) ≡ top.from = search rules in
    let to_is : to_z w64 (of_z w64 top.to) ≡ top.to = search rules in
    record {
      is =
          tops_found places a.a (as_slope a.k) list one c.of_list-top.ensures
          (sym (ap₂ int_le from_is a-is) ∙ c.if-top-a.true) (sym (ap₂ int_lt a-is to_is) ∙ c.if-a-top.true);
      fewer = omega arith;
    }

pub returns : goal.returns
returns c =
    let a = c.args in
    let places = seen a.side in
    let K = as_slope a.k in
    let list = take a.t a.w.now in
    let t = c.of_list-top.result in
    let top = c.of_list-top.ensures in
    let long = length-take-le a.t a.w.now c.requires.room in
    let one : 1 ≤ length list = let h = c.requires.one in omega (arith, long) in
    let a-is : to_z w64 (of_z w64 a.a) ≡ a.a = search rules in
    let from_is : to_z w64 (of_z w64 t.from) ≡ t.from = search rules in
    let to_is : to_z w64 (of_z w64 t.to) ≡ t.to = search rules in
    let front = c.keep-m.ensures in
    let ys = c.keep-m.new.w in
    let m = c.keep-m.result in
    let same : length ys ≡ length list = c.keep-m.auto.w in
    let fewer = front.fewer in
    let tests : kept (keep places (towards (int_le t.to a.a) K) (paired list)) ≡ round_with places a.a K (get_or list 0 0) (drop 1 list) =
    elim c.else-top-a.branch [
      | else-top-a-via-then-top-a+else-a-top w ↦
          tops_west places a.a K list one top (sym (ap₂ int_le from_is a-is) ∙ w.if-top-a.true) (sym (ap₂ int_lt a-is to_is) ∙ w.if-a-top.false)
      | else-top-a-via-else-top-a w ↦ tops_east places a.a K list one top (sym (ap₂ int_le from_is a-is) ∙ w.if-top-a.false)
    ]
    in
    record {
      is =
          ap kept
          (take-append-le m ys (drop a.t a.w.now) (omega arith)
          ∙ front.front
          ∙ ap (λ (b : Bool). keep places (towards b K) (paired list)) (ap₂ int_le to_is a-is))
          ∙ tests;
      fewer = omega (arith, long);
    }
