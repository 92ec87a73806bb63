-- The laws of the passes over the words of slopes: where slopes lie, counting, keeping, parting, moving to the front.
-- Assumes nothing.
use Rattle.std.specs.Prelude.{◌≡◌, refl, Bool, true, false, ℕ, ◌+◌, ◌*◌, ◌≤◌, ◌<◌, pos, ◌<ℤ◌, length, get_or, drop}
use Rattle.std.proofs.Common.{sym, ap₂, ◌∙◌, subst, add-zero, arith, length-drop}
use Rattle.std.proofs.Math.Path.{ap}
use mathlib.Core.List.{List, [], ◌∷◌, ◌++◌, append-nil, Memᴰ}
use Rattle.rules.specs.Lists.{those, consIf}
use Rattle.rules.specs.Round.{Slope, slope_le}
use Rattle.laws_ranks.specs.Counts.{bit, count, count-append, count-le-length, count-not, length-those, those-append}
use Rattle.laws_ranks.specs.Ranks.{HasRank, under, upto, over}
use Rattle.slopes.specs.Fractions.{fraction, fraction_at, fractions, put, Part, Sound, Pickable, Near}
use Rattle.slopes.specs.Passes.{Shows, Stands, Listed, Roomy, Counted, Kept, Parted, Alike, copied}
use Rattle.slopes.specs.declared.scan.Counts.{Counts}
use Rattle.slopes.specs.ScratchLaws.{near_part, one_more, length-fractions, near_of, fractions-alike, part-is, sound_alike, length-put, put_other, put-alike, fractions-put, sound_put, sound_none, drop-put, drop_put_before}

-- ---- the words of one slope

pub shows : {a b : ℕ} {k : Slope} → Part a b → k ≡ fraction a b → Shows a b k
shows h e = record { is = e; near = subst Near (sym e) (near_part h) }

-- ---- where slopes lie

pub roomy : {n r : ℕ} {w : List ℕ} → Pickable n r w → Roomy n w
roomy h = record { sound = h.sound; room = h.room }

pub listed : {n : ℕ} {w : List ℕ} → Roomy n w → Listed n w
listed all = let a = all.room in record { inside = omega arith; sound = all.sound }

pub fewer_listed : {n m : ℕ} {w : List ℕ} → Listed n w → m ≤ n → Listed m w
fewer_listed all b = let a = all.inside in record { inside = omega arith; sound = record { part = λ k i. all.sound.part k (omega arith) } }

pub stands : {n : ℕ} {w : List ℕ} → Listed n w → {k : ℕ} → k < n → Stands w k
stands all {k} h = let a = all.inside in record { inside = omega arith; part = all.sound.part k h }

-- every run is above zero
pub forward : {n r : ℕ} {w : List ℕ} → Pickable n r w → (k : Slope) → Memᴰ k (fractions n w) → pos 0 <ℤ k.run
forward ask k m = (near_of ask.sound m).forward

-- ---- counting the slopes below p and above it

count_more : (test : Slope → Bool) (i : ℕ) (w : List ℕ) → count test (fractions (i + 1) w) ≡ count test (fractions i w) + bit (test (fraction_at w i))
unfolding count
count_more test i w = ap (count test) (one_more i w) ∙ count-append test (fractions i w) (fraction_at w i ∷ []) ∙ omega arith

pub counted_none : (w : List ℕ) (p : Slope) → Counted 0 w p (record { below = 0; above = 0 })
unfolding fractions count
counted_none w p = record { below-is = refl; above-is = refl }

module _ {i : ℕ} {w : List ℕ} {p : Slope} {c : Counts} (h : Counted i w p c) where
  pub counted-most : (c.below ≤ i) × (c.above ≤ i)
  counted-most =
      let b = h.below-is in
      let a = h.above-is in
      let e = length-fractions i w in
      (omega (arith, count-le-length (under slope_le p) (fractions i w)), omega (arith, count-le-length (over slope_le p) (fractions i w)))

  pub counted_more : (s t : Bool) → s ≡ under slope_le p (fraction_at w i) → t ≡ over slope_le p (fraction_at w i)
      → Counted (i + 1) w p (record { below = c.below + bit s; above = c.above + bit t })
  counted_more s t e g =
      record {
        below-is = ap₂ (λ (k : ℕ) (q : Bool). k + bit q) h.below-is e ∙ sym (count_more (under slope_le p) i w);
        above-is = ap₂ (λ (k : ℕ) (q : Bool). k + bit q) h.above-is g ∙ sym (count_more (over slope_le p) i w);
      }

  -- those that are at most p are all but those above it
  pub upto-count : count (upto slope_le p) (fractions i w) + c.above ≡ i
  upto-count = let a = h.above-is in omega (arith, count-not (upto slope_le p) (fractions i w), length-fractions i w)

  -- the counts tell whether p has rank r
  pub counted-rank : {r : ℕ} → c.below < r → r + c.above ≤ i → HasRank slope_le r (fractions i w) p
  counted-rank low high = let b = h.below-is in record { fewer = omega arith; enough = omega (arith, upto-count) }

-- ---- keeping the slopes that pass a test: of the first i those that pass, k of them

module _ {test : Slope → Bool} {w u : List ℕ} {i k : ℕ} (h : Kept test i w u k) where
  pub kept-alike : {v : List ℕ} → Alike (2 * k) u v → Kept test i w v k
  kept-alike a = record { few = h.few; front = fractions-alike k a ∙ h.front; sound = sound_alike a h.sound }

  -- slope i is stored behind them, and is one of them if it passes
  module _ {a b : ℕ} (inside : 2 * k + 1 < length u) (part : Part a b) (here : fraction a b ≡ fraction_at w i) where
    few_more : (t : Bool) → k + bit t ≤ i + 1
    few_more true = omega (arith, h.few)
    few_more false = omega (arith, h.few)

    front_more : (t : Bool) → fractions (k + bit t) (put u k a b) ≡ fractions k u ++ consIf t (fraction a b) []
    front_more true = fractions-put u k a b inside
    front_more false = ap (λ (m : ℕ). fractions m (put u k a b)) (add-zero k) ∙ fractions-alike k (put-alike u k a b) ∙ sym (append-nil (fractions k u))

    sound_more : (t : Bool) → Sound (k + bit t) (put u k a b)
    sound_more true = sound_put u k a b inside part h.sound
    sound_more false = subst (λ (m : ℕ). Sound m (put u k a b)) (sym (add-zero k)) (sound_alike (put-alike u k a b) h.sound)

    those_more : those test (fractions (i + 1) w) ≡ those test (fractions i w) ++ consIf (test (fraction_at w i)) (fraction_at w i) []
    unfolding those
    those_more = ap (those test) (one_more i w) ∙ those-append test (fractions i w) (fraction_at w i ∷ [])

    pub kept_more : (t : Bool) → t ≡ test (fraction a b) → Kept test (i + 1) w (put u k a b) (k + bit t)
    kept_more t e =
        record {
          few = few_more t;
          front =
              front_more t
              ∙ ap₂ (λ (l : List Slope) (s : List Slope). l ++ s) h.front (ap₂ (λ (c : Bool) (s : Slope). consIf c s []) (e ∙ ap test here) here)
              ∙ sym those_more;
          sound = sound_more t;
        }

pub kept_none : (test : Slope → Bool) (w u : List ℕ) → Kept test 0 w u 0
unfolding fractions those
kept_none test w u = record { few = omega arith; front = refl; sound = sound_none u }

-- they are as many as pass
pub kept-count : {test : Slope → Bool} {w u : List ℕ} {i k : ℕ} → Kept test i w u k → k ≡ count test (fractions i w)
kept-count {test} {w} {u} {i} {k} h = omega (arith, length-fractions k u, ap length h.front, length-those test (fractions i w))

-- ---- parting: of the first i those below p at the front, b of them, and those above it behind the first n, a of them

pub record Parting (n : ℕ) (w v : List ℕ) (p : Slope) (i b a : ℕ) : Type 0 where
  pub long : length v ≡ length w
  pub rest : (j : ℕ) → 2 * i ≤ j → j < 2 * n → get_or v j 0 ≡ get_or w j 0
  pub below-kept : Kept (under slope_le p) i w v b
  pub above_kept : Kept (over slope_le p) i w (drop (2 * n) v) a

pub parting_none : (n : ℕ) (w : List ℕ) (p : Slope) → Parting n w w p 0 0 0
parting_none n w p =
    record {
      long = refl;
      rest = λ j h g. refl;
      below-kept = kept_none (under slope_le p) w w;
      above_kept = kept_none (over slope_le p) w (drop (2 * n) w);
    }

module _ {n : ℕ} {w v : List ℕ} {p : Slope} {i b a : ℕ} (all : Roomy n w) (h : Parting n w v p i b a) (below : i < n) where
  abbrev rise_here : ℕ
  rise_here = get_or v (2 * i) 0

  abbrev run_here : ℕ
  run_here = get_or v (2 * i + 1) 0

  -- slope i is as it came
  same-fraction : fraction_at v i ≡ fraction_at w i
  same-fraction = ap₂ fraction (h.rest (2 * i) (omega arith) (omega arith)) (h.rest (2 * i + 1) (omega arith) (omega arith))

  part-here : Part rise_here run_here
  part-here = part-is (h.rest (2 * i) (omega arith) (omega arith)) (h.rest (2 * i + 1) (omega arith) (omega arith)) (all.sound.part i below)

  pub stands_here : Stands v i
  stands_here = let r = all.room in let l = h.long in record { inside = omega arith; part = part-here }

  pub inside_above : 2 * (n + a) + 1 < length v
  inside_above = let r = all.room in let l = h.long in let f = h.above_kept.few in omega arith

  -- slope i is stored among those above, and then among those below
  abbrev once : List ℕ
  once = copied v i (n + a)

  abbrev twice : List ℕ
  twice = copied once i b

  once-alike : Alike (2 * (n + a)) v once
  once-alike = put-alike v (n + a) rise_here run_here

  once_long : length once ≡ length v
  once_long = length-put v (n + a) rise_here run_here

  pub inside_once : 2 * i + 1 < length once
  inside_once = let r = all.room in let l = h.long in omega (arith, once_long)

  pub inside_below : 2 * b + 1 < length once
  inside_below = let r = all.room in let l = h.long in omega (arith, once_long, h.below-kept.few)

  rise-once : get_or once (2 * i) 0 ≡ rise_here
  rise-once = once-alike.same (2 * i) (omega arith)

  run-once : get_or once (2 * i + 1) 0 ≡ run_here
  run-once = once-alike.same (2 * i + 1) (omega arith)

  twice_long : length twice ≡ length w
  twice_long = length-put once b (get_or once (2 * i) 0) (get_or once (2 * i + 1) 0) ∙ once_long ∙ h.long

  twice_rest : (j : ℕ) → 2 * (i + 1) ≤ j → j < 2 * n → get_or twice j 0 ≡ get_or w j 0
  twice_rest j g l =
      let f = h.below-kept.few in
      put_other once b (get_or once (2 * i) 0) (get_or once (2 * i + 1) 0) j (omega arith) (omega arith)
      ∙ once-alike.same j (omega arith)
      ∙ h.rest j (omega arith) l

  behind-is-put : drop (2 * n) twice ≡ put (drop (2 * n) v) a rise_here run_here
  behind-is-put =
      let f = h.below-kept.few in
      drop_put_before n once b (get_or once (2 * i) 0) (get_or once (2 * i + 1) 0) (omega arith) ∙ drop-put n v a rise_here run_here

  pub parting_more : (s t : Bool) → s ≡ under slope_le p (fraction_at v i) → t ≡ over slope_le p (fraction_at v i)
      → Parting n w twice p (i + 1) (b + bit s) (a + bit t)
  parting_more s t e g =
      let f = h.below-kept.few in
      record {
        long = twice_long;
        rest = twice_rest;
        below-kept =
            kept_more (kept-alike h.below-kept (record { same = λ j l. once-alike.same j (omega arith) })) inside_below
            (part-is rise-once run-once part-here)
            (ap₂ fraction rise-once run-once ∙ same-fraction)
            s
            (e ∙ ap (under slope_le p) (sym (ap₂ fraction rise-once run-once)));
        above_kept =
            subst (λ (l : List ℕ). Kept (over slope_le p) (i + 1) w l (a + bit t)) (sym behind-is-put)
            (kept_more h.above_kept (let r = all.room in let l = h.long in omega (arith, length-drop (2 * n) v, h.above_kept.few)) part-here same-fraction t g);
      }

pub parted : {n : ℕ} {w v : List ℕ} {p : Slope} {b a : ℕ} → Parting n w v p n b a → Parted n w v p (record { below = b; above = a })
parted h = record { below-kept = h.below-kept; above_kept = h.above_kept }
