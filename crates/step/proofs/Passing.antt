-- What a pass keeps: those of the items read so far that pass the test stand at `to` and after it, and what lies before is as it was.
-- Assumes nothing.
use mathlib.Core.Path.{◌≡◌, refl, sym, ap, ap₂, ◌∙◌}
use mathlib.Core.Bool.{Bool}
use mathlib.Core.List.{List, [], ◌∷◌, ◌++◌}
use Prim.Native.Nat.{ℕ, ◌+◌, ◌≤◌, ◌<◌}
use native.Mathlib.Nat.{le_refl, add_comm}
use native.Mathlib.Numerals.{add-one}
use native.Mathlib.Omega.{arith}
use mir.Val.{bool_byte}
use lib.ListN.{length, get_or, take, drop, set, length-set, length-drop}
use lib.Seq.{take_all, take-set-le, take-take, take-add, drop-cons, drop-set-add, get_or-take, get_or-set_same}
use Rattle.rules.specs.Lists.{those, consIf}
use Rattle.laws_ranks.specs.Counts.{those-append}
use Rattle.laws_ranks.specs.Kept.{byte_most, first_more, stored}
use Rattle.step.specs.NumberLists.{Passed, Beyond, Listing}

module _ (test : ℕ → Bool) (src w : List ℕ) (to : ℕ) where
  -- of the first i items k pass
  pub record Passing (now : List ℕ) (i k : ℕ) : Type 0 where
    pub few : k ≤ i
    pub before : take to now ≡ take to w
    pub part : take k (drop to now) ≡ those test (take i src)
    pub long : length now ≡ length w

  pub passing_none : Passing w 0 0
  unfolding those
  passing_none = record { few = omega arith; before = refl; part = refl; long = refl }

  passing_part : (now : List ℕ) (i k x : ℕ) (b : Bool)
      → b ≡ test x
      → x ≡ get_or src i 0
      → i < length src
      → to + k < length now
      → take k (drop to now) ≡ those test (take i src)
      → take (k + bool_byte b) (drop to (set now (to + k) x)) ≡ those test (take (i + 1) src)
  unfolding those
  passing_part now i k x b e at h room p =
      ap (take (k + bool_byte b)) (drop-set-add to now k x)
      ∙ stored (drop to now) k x b (omega (arith, length-drop to now))
      ∙ ap₂ (λ (l : List ℕ) (c : Bool). l ++ consIf c x []) p e
      ∙ sym (those-append test (take i src) (x ∷ []))
      ∙ ap (λ (y : ℕ). those test (take i src ++ (y ∷ []))) at
      ∙ ap (those test) (sym (first_more 0 src i h))

  pub passing_more : {now : List ℕ} {i k x : ℕ} (b : Bool)
      → b ≡ test x
      → x ≡ get_or src i 0
      → i < length src
      → to + k < length w
      → Passing now i k
      → Passing (set now (to + k) x) (i + 1) (k + bool_byte b)
  passing_more {now} {i} {k} {x} b e at h room p =
      let a = p.few in
      let l = p.long in
      record {
        few = omega (arith, byte_most b);
        before = take-set-le to now (to + k) x (omega arith) ∙ p.before;
        part = passing_part now i k x b e at h (omega arith) p.part;
        long = length-set now (to + k) x ∙ p.long;
      }

  -- an item read before the part that is written
  pub passing_item : {now : List ℕ} {i k : ℕ} (t j : ℕ) → j < t → t ≤ to → Passing now i k → get_or now j 0 ≡ get_or (take t w) j 0
  passing_item {now} t j h l p =
      sym (get_or-take to now j 0 (omega arith))
      ∙ ap (λ (l : List ℕ). get_or l j 0) p.before
      ∙ get_or-take to w j 0 (omega arith)
      ∙ sym (get_or-take t w j 0 h)

  pub passing_all : {now : List ℕ} {i k : ℕ} → i ≡ length src → Passing now i k → Passed test src w to k now
  passing_all {now} {i} h p =
      let a = p.few in
      record { before = p.before; part = p.part ∙ ap (those test) (take_all i src (omega arith)); few = omega arith }

-- ---- numbers before those that pass

-- one number at `to`, and those that pass behind it
pub one_then : {test : ℕ → Bool} {l w after : List ℕ} {to k x : ℕ} → to + length l < length w → length after ≡ length w
    → Passed test l (set w to x) (to + 1) k after
    → Beyond (x ∷ those test l) w to (k + 1) after
one_then {test} {l} {w} {after} {to} {k} {x} room long p =
    let few = p.few in
    record {
      before =
          sym (take-take to (to + 1) after (omega arith))
          ∙ ap (take to) p.before
          ∙ take-take to (to + 1) (set w to x) (omega arith)
          ∙ take-set-le to w to x (le_refl to);
      part =
          ap₂ take (add-one k) (drop-cons after to 0 (omega arith))
          ∙ ap₂ (λ (y : ℕ) (r : List ℕ). y ∷ take k r) first (ap (λ (n : ℕ). drop n after) (sym (add-one to)))
          ∙ ap (λ (r : List ℕ). x ∷ r) p.part;
      inside = omega arith;
    }
  where
    first : get_or after to 0 ≡ x
    first =
        sym (get_or-take (to + 1) after to 0 (omega arith))
        ∙ ap (λ (r : List ℕ). get_or r to 0) p.before
        ∙ get_or-take (to + 1) (set w to x) to 0 (omega arith)
        ∙ get_or-set_same w to x 0 (omega arith)

-- two numbers at the front
pub two_then : {test : ℕ → Bool} {l after : List ℕ} {k p q : ℕ} (w : List ℕ) → length l + 2 ≤ length w → length after ≡ length w
    → Passed test l (set (set w 0 p) 1 q) 2 k after
    → Listing (p ∷ q ∷ those test l) (k + 2) after
two_then [] room long h = absurd (omega arith)
two_then (a ∷ []) room long h = absurd (omega arith)
two_then {after} {k} {p} {q} (a ∷ b ∷ w) room long h =
    let few = h.few in
    record {
      front =
          ap (λ (n : ℕ). take n after) (add_comm k 2)
          ∙ take-add 2 k after
          ∙ ap₂ ◌++◌ h.before h.part;
      inside = omega arith;
    }
