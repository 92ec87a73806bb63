use Rattle.std.specs.Prelude.{◌≡◌, ℕ, ◌-◌, ◌≤◌, Bool, List, length, take, drop}
use Rattle.std.proofs.Common.{arith, sym, ap, ◌∙◌, subst}
use mathlib.Core.List.Memᴰ
use mathlib.Core.List.{Memᴰ}
use mathlib.Core.Logic.{⊎_elim}
use lib.ListN.{length-drop, take-append-drop}
use lib.Seq.{take_all}
use Rattle.rules.specs.Lists.{first_place, some_of}
use Rattle.laws_outline.specs.ListLaws.{answer, first_place_in, no_first_place}
use Rattle.samples.specs.Positions.{Listed}
use Rattle.samples.specs.Sides.{seen, size}
use Rattle.round.specs.Tops.{as_scaled, reaches}
use Rattle.round.proofs.tops.next.Goals as goal

module _ (list : List ℕ) (i : ℕ) where
  -- the part that is lent is the rest of the list
  rest-is : take (length list - i) (drop i list) ≡ drop i list
  rest-is = take_all (length list - i) (drop i list) (omega (arith, length-drop i list))

  rest-listed : {count : ℕ} → Listed count list → Listed count (drop i list)
  rest-listed l = record { below = λ x m. l.below x (subst (Memᴰ x) (take-append-drop i list) (Memᴰ.append_right (take i list) m)) }

  place_inside : (test : ℕ → Bool) → i ≤ length list → first_place test (drop i list) ≤ length list - i
  place_inside test inside =
      ⊎_elim
      (λ h. let l = first_place_in test (drop i list) h in omega (arith, length-drop i list))
      (λ h. omega (arith, length-drop i list, no_first_place test (drop i list) h))
      (answer (some_of test (drop i list)))

pub reach-requires : goal.reach-requires
reach-requires c =
    let h = c.requires.0 in
    record {
      listed = subst (Listed (size c.args.side)) (sym (rest-is c.args.list.now c.args.i)) (rest-listed c.args.list.now c.args.i h.listed);
      given = h.given;
    }

pub overflow_add-result : goal.overflow_add-result
overflow_add-result c =
    let a = c.args in
    let places = seen a.side in
    let test = reaches places (as_scaled a.k) a.top in
    let place_is : c.reach.result ≡ first_place test (drop a.i a.list.now) = c.reach.ensures ∙ ap (first_place test) (rest-is a.list.now a.i) in
    omega (arith, place_is, place_inside a.list.now a.i test c.requires.1)
