-- A pivot: slopes gathered behind those at the front, and one of them picked; and what a pick says.
-- Assumes nothing.
use Rattle.std.specs.Prelude.{◌≡◌, refl, ◌⊎◌, ℕ, ◌+◌, ◌*◌, ◌-◌, ◌≤◌, ◌<◌, length, get_or, drop}
use Rattle.std.proofs.Common.{sym, ap, ap₂, ◌∙◌, subst, inl, inr, not-suc-le-zero, eq-or-lt_of_le, arith, length-drop, get_or-drop, take_all}
use mathlib.Core.List.Memᴰ
use mathlib.Core.List.{List, Memᴰ}
use Rattle.rules.specs.Round.{Slope}
use Rattle.slopes.specs.Fractions.{fraction, fraction_at, fractions, Part, Pickable, Picked}
use Rattle.slopes.specs.Passes.{Listed, Answers, Alike, behind, copied, Copied, Roomy, Gathered, Pivoted}
use Rattle.slopes.specs.Order.{level-ranked}
use Rattle.slopes.specs.ScratchLaws.{place_of, near_of, fraction_in, fractions-alike, part-is, sound_alike, alike_trans, length-put, put-alike, put-rise, put-run}
use Rattle.slopes.specs.PassLaws.{fewer_listed, forward}

-- ---- the slopes stand as they came

module _ (n : ℕ) {w v : List ℕ} (h : Alike (2 * n) w v) where
  pub alike_asks : {r : ℕ} → length v ≡ length w → Pickable n r w → Pickable n r v
  alike_asks e a =
      let room = a.room in
      record { rank_low = a.rank_low; rank-high = a.rank-high; sound = sound_alike h a.sound; room = omega arith }

  pub alike_answer : {r : ℕ} {x : Slope} → Answers r (fractions n v) x → Answers r (fractions n w) x
  alike_answer {r} {x} = subst (λ (l : List Slope). Answers r l x) (fractions-alike n h)

-- ---- a pivot

pub pivoted_in : {n : ℕ} {w v : List ℕ} {p : Slope} → Pivoted n w v p → Memᴰ p (fractions n v)
pivoted_in {n} {p = p} h = subst (Memᴰ p) (sym (fractions-alike n h.front)) h.isIn

pub pivot_here : (n : ℕ) (w : List ℕ) {k : ℕ} {p : Slope} → k < n → p ≡ fraction_at w k → Pivoted n w w p
pivot_here n w h e = record { front = record { same = λ j i. refl }; isIn = Memᴰ.cast e (fraction_in n w h) }

-- ---- gathering: behind the first n stand g of them

pub record Gathering (n : ℕ) (w v : List ℕ) (g : ℕ) : Type 0 where
  pub long : length v ≡ length w
  pub front : Alike (2 * n) w v
  pub copies : (k : ℕ) → k < g → Copied n w v (n + k)

-- the first m still stand as they came
pub listed_here : {n : ℕ} {w v : List ℕ} {g : ℕ} → Roomy n w → Gathering n w v g → (m : ℕ) → m ≤ n → Listed m v
listed_here {n} all h m b =
    let a = all.room in
    let d = h.long in
    fewer_listed (record { inside = omega arith; sound = sound_alike h.front all.sound }) b

-- g of them gathered
pub gathered : {n : ℕ} {w v : List ℕ} {g : ℕ} → Gathering n w v g → 1 ≤ g → 2 * g ≤ n → Gathered n w v g
gathered h one few = record { one = one; few = few; front = h.front; copies = h.copies }

pub gathering_none : (n : ℕ) (w : List ℕ) → Gathering n w w 0
gathering_none n w = record { long = refl; front = record { same = λ j h. refl }; copies = λ k h. absurd (not-suc-le-zero h) }

module _ {n : ℕ} {w v : List ℕ} {g j : ℕ} (h : Gathering n w v g) (below : j < n) (inside : 2 * (n + g) + 1 < length v) where
  abbrev gathered_next : List ℕ
  gathered_next = copied v j (n + g)

  abbrev rise : ℕ
  rise = get_or v (2 * j) 0

  abbrev run : ℕ
  run = get_or v (2 * j + 1) 0

  before : (i : ℕ) → i < 2 * (n + g) → get_or gathered_next i 0 ≡ get_or v i 0
  before i b = (put-alike v (n + g) rise run).same i b

  copy_more : (k : ℕ) → (k ≡ g) ⊎ (k < g) → Copied n w gathered_next (n + k)
  copy_more k (inl e) =
      subst (λ (m : ℕ). Copied n w gathered_next (n + m)) (sym e)
      (record {
        place = j;
        inside = below;
        rise-is = put-rise v (n + g) rise run inside ∙ h.front.same (2 * j) (omega arith);
        run_is = put-run v (n + g) rise run inside ∙ h.front.same (2 * j + 1) (omega arith);
      })
  copy_more k (inr b) =
      let o = h.copies k b in
      record {
        place = o.place;
        inside = o.inside;
        rise-is = before (2 * (n + k)) (omega arith) ∙ o.rise-is;
        run_is = before (2 * (n + k) + 1) (omega arith) ∙ o.run_is;
      }

  pub gathering_more : Gathering n w gathered_next (g + 1)
  gathering_more =
      record {
        long = length-put v (n + g) rise run ∙ h.long;
        front = record { same = λ i b. before i (omega arith) ∙ h.front.same i b };
        copies = λ k b. copy_more k (eq-or-lt_of_le (omega arith));
      }

pub behind-is : (n : ℕ) (v : List ℕ) → behind n v ≡ drop (2 * n) v
behind-is n v = take_all (length v - 2 * n) (drop (2 * n) v) (omega (arith, length-drop (2 * n) v))

module _ {n : ℕ} {w v : List ℕ} {g : ℕ} (all : Roomy n w) (long : length v ≡ length w) (h : Gathered n w v g) where
  word-behind : (i : ℕ) → get_or (behind n v) i 0 ≡ get_or v (2 * n + i) 0
  word-behind i = ap (λ (l : List ℕ). get_or l i 0) (behind-is n v) ∙ get_or-drop (2 * n) v i 0

  rise-behind : (k : ℕ) → get_or (behind n v) (2 * k) 0 ≡ get_or v (2 * (n + k)) 0
  rise-behind k = word-behind (2 * k) ∙ ap (λ (i : ℕ). get_or v i 0) (omega arith)

  run-behind : (k : ℕ) → get_or (behind n v) (2 * k + 1) 0 ≡ get_or v (2 * (n + k) + 1) 0
  run-behind k = word-behind (2 * k + 1) ∙ ap (λ (i : ℕ). get_or v i 0) (omega arith)

  pub gathered_asks : {r : ℕ} → 1 ≤ r → r ≤ g → Pickable g r (behind n v)
  gathered_asks low high =
      let few = h.few in
      let room = all.room in
      record {
        rank_low = low;
        rank-high = high;
        sound = record { part = part };
        room = subst (λ (l : List ℕ). 4 * g ≤ length l) (sym (behind-is n v)) (omega (arith, length-drop (2 * n) v));
      }
    where
      part : (k : ℕ) → k < g → Part (get_or (behind n v) (2 * k) 0) (get_or (behind n v) (2 * k + 1) 0)
      part k i = let o = h.copies k i in part-is (rise-behind k ∙ o.rise-is) (run-behind k ∙ o.run_is) (all.sound.part o.place o.inside)

  -- the middle of those gathered is one of the slopes
  pub gathered_pivot : {u : List ℕ} {r : ℕ} {x : Slope} → Alike (2 * n) v u → Answers r (fractions g (behind n v)) x → Pivoted n w u x
  gathered_pivot e a =
      let p = place_of g (behind n v) a.isIn in
      let o = h.copies p.place p.inside in
      record {
        front = alike_trans h.front e;
        isIn =
            Memᴰ.cast (p.is ∙ ap₂ fraction (rise-behind p.place ∙ o.rise-is) (run-behind p.place ∙ o.run_is)) (fraction_in n w o.inside);
      }

-- ---- what a pick says

pub picked : {q r : ℕ} {w : List ℕ} {k : Slope} → Pickable q r w → Answers r (fractions q w) k → Picked r (fractions q w) k
picked {q} {r} {w} {k} ask a =
    record {
      isIn = a.isIn;
      near = near_of ask.sound a.isIn;
      has-rank = a.has-rank;
      is-ranked = level-ranked (fractions q w) (forward ask) r k a.isIn a.has-rank;
    }
