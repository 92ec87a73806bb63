-- One side: its ends, its first list and the chain of that, told by the numbers that the rules report. And both sides, one behind the other, where the tests of
-- the samples are passed. Assumes nothing.
use mathlib.Core.Path.{◌≡◌, refl, sym, ap, ◌∙◌, subst, subst⁻¹}
use mathlib.Core.Logic.{⊎_elim}
use mathlib.Core.Bool.{Bool, true, false}
use mathlib.Core.List.Memᴰ
use mathlib.Core.List.{List, [], ◌∷◌, ◌++◌, map, Memᴰ}
use Prim.Native.Nat.{ℕ, zero, suc, ◌+◌, ◌-◌, ◌*◌, ◌≤◌, ◌<◌}
use native.Mathlib.Nat.{le_refl}
use native.Mathlib.Omega.{arith}
use lib.IntN.{ℤ}
use Rattle.std.specs.Prelude.{Option, Some, None}
use lib.Dec.{ltb}
use lib.ListN.{length, take, drop}
use lib.Seq.{length-take-le, take-append-le, drop_at}
use borrow.Author.Tests.{ltb-false}
use borrow.Rule.Slice.PartMut.{mid_of, put_mid, mid_len, same_len_mid, take_put}
use Rattle.rules.specs.Streams.{Stream, streams, most}
use Rattle.rules.specs.Chain.{corners, upper, lower, upper_numbers, lower_numbers}
use Rattle.rules.specs.Refusals.{Answer, refused, done, Test, test, unless}
use Rattle.rules.specs.Entries.{step_without_bridge}
use Rattle.laws_outline.specs.ListLaws.{those-most, those_in}
use Rattle.laws_rounds.specs.ListedItems.{first_of_in}
use Rattle.laws_rounds.specs.Pairs.{here}
use Rattle.laws_rounds.specs.StepsAtMiddle.{BySteps, no_step_without_bridge}
use Rattle.laws_rounds.specs.WholeList.{numbers, numbers-length}
use Rattle.samples.specs.Positions.{Sampled, Listed, at, east_of}
use Rattle.step.specs.NumberLists.{between, first_numbers, FirstAsks, Listing}
use Rattle.step.specs.Ends.{EndOf, nearest}
use Rattle.step.specs.Chaining.{Chainable}
use Rattle.step.specs.Stepping.{side_samples, number_at, ChainAsks, ChainSays}
use Rattle.step.specs.FirstList.{first_chainable, first-chain, end_is}
use Rattle.laws_outline.specs.Numbers.{lower-mirrored}
use Rattle.samples.specs.InOrder.{room_tests, refused_too, then_answer, answer_by, passed_by, passed_tests, sampled_few, quiet-scratch}
use Rattle.samples.specs.Answers.{number_of}
use Rattle.samples.specs.Listed.{parts_of}
use Rattle.samples.specs.declared.refusals.Refusal.{Refusal}
use Rattle.samples.specs.declared.listed.Samples as held
use Rattle.chains.specs.BothSides.{side_numbers, SideAsks, SideIs, SideSays, BothAre, tested, SidesRefused, SidesMade}

-- ---- the numbers of a side

reported : (es ns : List ℤ) (lower : Bool) → map (number_at es ns lower) (upper (side_samples es ns lower)) ≡ side_numbers es ns lower
unfolding upper_numbers
reported es ns true = sym (lower-mirrored (streams es ns))
reported es ns false = refl

-- no samples: both chains empty
pub none : (es ns : List ℤ) (lower : Bool) (w : List ℕ) → length es ≡ 0 → SideIs es ns lower 0 w
unfolding streams upper_numbers lower_numbers lower upper corners
none [] ns true w e = record { numbers = refl; few = omega arith }
none [] ns false w e = record { numbers = refl; few = omega arith }
none (x ∷ es) ns b w e = absurd (omega arith)

-- ---- the first list

-- the numbers of all samples are below their count
all-below : (n x : ℕ) → Memᴰ x (numbers n) → x < n
unfolding numbers
all-below zero x m = absurd (Memᴰ.not-nil m)
all-below (suc n) x m =
    ⊎_elim
    (λ e. omega (arith, e))
    (λ k. let o = Memᴰ.of_map suc (numbers n) k in omega (arith, all-below n o.0 o.1, o.2))
    (Memᴰ.cases_cons m)

module _ {es ns : List ℤ} {w : List ℕ} (lower : Bool) (sampled : Sampled es ns) (asks : SideAsks es w) (some_sample : 1 ≤ length es) {p q : ℕ}
    (p_is : p ≡ nearest (at es ns lower) false (drop 1 (numbers (length es))))
    (q_is : q ≡ nearest (at es ns lower) true (drop 1 (numbers (length es)))) where
  abbrev to : ℕ → Stream
  to = at es ns lower

  left_end : EndOf to false (numbers (length es)) p
  left_end = subst (EndOf to false (numbers (length es))) (sym p_is) (end_is to false (length es) some_sample)

  right_end : EndOf to true (numbers (length es)) q
  right_end = subst (EndOf to true (numbers (length es))) (sym q_is) (end_is to true (length es) some_sample)

  end_below : {right : Bool} {x : ℕ} → EndOf to right (numbers (length es)) x → x < length es
  end_below {x = x} h = all-below (length es) x (first_of_in (here to (to x)) (numbers (length es)) h.first).0

  pub first_asks : FirstAsks es w p q
  first_asks =
      record { few = asks.few; room = omega (arith, asks.room); left_below = end_below left_end; right_below = end_below right_end }

  first_few : length (first_numbers es p q) ≤ length es + 2
  first_few =
      omega (arith, those-most (λ x. between (east_of es p) (east_of es q) (east_of es x)) (numbers (length es)), numbers-length (length es))

  first-listed : Listed (length es) (first_numbers es p q)
  first-listed = record {
    below = λ x m. ⊎_elim (λ e. subst⁻¹ (λ (y : ℕ). y < length es) e (end_below left_end)) (λ k. ⊎_elim
        (λ e. subst⁻¹ (λ (y : ℕ). y < length es) e (end_below right_end)) (λ i. all-below (length es) x (those_in (λ x. between (east_of es p) (east_of es q) (east_of es x)) (numbers (length es)) i).0)
        (Memᴰ.cases_cons k)) (Memᴰ.cases_cons m);
  }

  module _ {t : ℕ} {w₁ : List ℕ} (l : Listing (first_numbers es p q) t w₁) (long : length w₁ ≡ length w) where
    count : t ≡ length (first_numbers es p q)
    count = sym (length-take-le t w₁ l.inside) ∙ ap (λ (k : List ℕ). length k) l.front

    pub chain_asks : ChainAsks es ns lower w₁ t p q
    chain_asks =
        record {
          listed = subst⁻¹ (Listed (length es)) l.front first-listed;
          left_below = end_below left_end;
          right_below = end_below right_end;
          chainable = subst⁻¹ (λ (k : List ℕ). Chainable to (number_at es ns lower) k p q) l.front (first_chainable es ns sampled.even lower left_end right_end);
          room = omega (arith, asks.room, long, count, first_few);
        }

    pub side_says : (r : Option ℕ) (after : List ℕ) → ChainSays to (number_at es ns lower) (take t w₁) p q r after → SideSays es ns lower r after
    side_says (Some m) after c =
        record {
          numbers =
              c.corners
              ∙ ap (map (number_at es ns lower)) (first-chain es ns sampled.even lower left_end right_end
              (subst (λ (k : List ℕ). BySteps (map to k) (to p) (to q) c.chain) l.front c.by_steps))
              ∙ reported es ns lower;
          few = omega (arith, c.few, ap (λ (k : List ℕ). length k) l.front, first_few);
        }
    side_says None after c = c

-- ---- both sides

-- the lower chain is made in the part behind the upper one
pub both_are : {es ns : List ℤ} {u v : ℕ} {w ys : List ℕ} → u + 4 * (length es + 2) ≤ length w → SideIs es ns false u w → SideIs es ns true v ys
    → length ys ≡ length (mid_of u (length w - u) w)
    → BothAre es ns u v (put_mid u (length w - u) w ys)
both_are {es} {ns} {u} {v} {w} {ys} room a b long =
    record {
      upper_is = take_put u (length w - u) w ys (omega arith) ∙ a.numbers;
      lower-is =
          ap (take v) (drop_at (take u w) (ys ++ drop (length w - u) (drop u w)) u (length-take-le u w (omega arith)))
          ∙ take-append-le v ys (drop (length w - u) (drop u w)) (omega (arith, b.few, part))
          ∙ b.numbers;
      inside = omega (arith, b.few, same_len_mid u (length w - u) w ys long);
    }
  where
    part : length ys ≡ length w - u
    part = long ∙ mid_len u (length w) w (le_refl (length w))

-- ---- the tests

then_passed : (t : Answer (Unit {0})) → then_answer t (done tt) ≡ t
then_passed (done x) = refl
then_passed (refused number place) = refl

module _ (es ns : List ℤ) (w : List ℕ) where
  -- 1, 2, 3, 4
  abbrev tests : List Test
  tests = room_tests es ns (length w)

  -- what they say is what all say, since 18 is never given
  tested_all : {t : Answer (Unit {0})} → unless tests tt ≡ t → tested es ns w ≡ t
  tested_all {t} e =
      let last = test 18 0 (step_without_bridge (streams es ns)) ∷ [] in
      answer_by tests last tt tt e ∙ ap (then_answer t) (passed_by {x = tt} last (no_step_without_bridge (streams es ns), tt)) ∙ then_passed t

  abbrev both : List ℤ × List ℤ
  both = (es, ns)

  pub sides_refused : (r : Refusal) → refused (number_of r.reason) r.place ≡ unless tests both → SidesRefused es ns w (number_of r.reason) r.place w
  sides_refused r e = record {
    tests = tested_all (refused_too both tt tests (sym e));
    scratch-is = sym (quiet-scratch both tests tt (sym e) w);
  }

  -- samples that pass are those of the two lists, with room for both sides
  pub record Admitted (s : held.Samples) : Type 0 where
    pub same : parts_of s ≡ both
    pub passed : tested es ns w ≡ done tt
    pub few : length s.east.now ≤ most
    pub room : 16 * length s.east.now + 64 ≤ length w

  pub admitted : (s : held.Samples) → done (parts_of s) ≡ unless tests both → Admitted s
  admitted s e =
      let n = passed_tests both tests (sym e) in
      let p : done (parts_of s) ≡ done both = e ∙ passed_by tests n in
      let same : parts_of s ≡ both = cc in
      let long : length s.east.now ≡ length es = ap (λ (x : List ℤ × List ℤ). length x.0) same in
      record {
        same = same;
        passed = tested_all (passed_by tests n);
        few = omega (arith, (sampled_few es ns (test 4 0 (ltb (length w) (16 * length es + 64)) ∷ []) n).1, long);
        room = omega (arith, ltb-false (length w) (16 * length es + 64) n.1.1.1.0, long);
      }

  -- the upper side leaves room for the lower one, and both are made
  module _ {s : held.Samples} {u : ℕ} {now : List ℕ} (d : Admitted s) (upper : SideIs s.east.now s.north.now false u now) (long : length now ≡ length w) where
    left : u + 4 * (length s.east.now + 2) ≤ length now
    left = omega (arith, d.room, upper.few, long)

    pub second_room : SideAsks s.east.now (mid_of u (length now - u) now)
    second_room = record { few = d.few; room = omega (arith, left, mid_len u (length now) now (le_refl (length now))) }

    pub sides_made : {v : ℕ} {ys : List ℕ} → SideIs s.east.now s.north.now true v ys → length ys ≡ length (mid_of u (length now - u) now)
        → SidesMade es ns w (record { upper = u; lower = v }) (put_mid u (length now - u) now ys)
    sides_made {v} {ys} lower same_length = record {
      tests = d.passed;
      both = subst (λ (x : List ℤ × List ℤ). BothAre x.0 x.1 u v (put_mid u (length now - u) now ys)) d.same (both_are left upper lower same_length);
    }
