-- A bracket: the slopes from one a little below the rank up to one a little above it, kept behind those at the front, and the rank sought among them.
-- Assumes nothing.
use Rattle.std.specs.Prelude.{◌≡◌, refl, ◌⊎◌, Bool, ℕ, ◌+◌, ◌*◌, ◌-◌, ◌≤◌, ◌<◌, length, get_or, take, drop}
use Rattle.std.proofs.Common.{sym, ap, ap₂, ◌∙◌, subst, inl, inr, arith, length-drop, drop_at, length-take-le}
use mathlib.Core.List.{List, ◌++◌, append-nil, Memᴰ}
use Rattle.std.proofs.Math.Seq.{drop-length}
use borrow.Rule.Slice.PartMut.{put_mid, take_put}
use Rattle.rules.specs.Lists.{those}
use Rattle.rules.specs.Round.{Slope, slope_le}
use Rattle.laws_ranks.specs.Counts.{bit, count, not_by, count-not, length-those, of_those}
use Rattle.laws_ranks.specs.Ranks.{HasRank, under, over}
use Rattle.laws_rounds.specs.Slopes.{Up, slope_order}
use Rattle.slopes.specs.Fractions.{fraction, fraction_at, fractions, Sound, Pickable, Near}
use Rattle.slopes.specs.Order.{rank_from_on, rank_upto_on}
use Rattle.slopes.specs.Passes.{Stands, Listed, Alike, Kept, KeptFrom, Clear, Answers, behind, Bracketed, copied}
use Rattle.slopes.specs.ScratchLaws.{length-fractions, near_of, part-is, alike_trans, alike-take, length-put, put-alike, put_other, drop-put}
use Rattle.slopes.specs.PassLaws.{forward, kept_none, kept_more}
use Rattle.slopes.specs.Gathering.{alike_answer, behind-is}

-- ---- keeping: of the first i those that pass the test, k of them, from slope m on; what lies before it is as it came, and the n from slope i on, and what lies
-- behind slope m + i

pub record Keeping (test : Slope → Bool) (n m : ℕ) (w v : List ℕ) (i k : ℕ) : Type 0 where
  pub long : length v ≡ length w
  pub front : Alike (2 * m) w v
  pub rest : (j : ℕ) → 2 * i ≤ j → (j < 2 * n) ⊎ (2 * (m + i) ≤ j) → get_or v j 0 ≡ get_or w j 0
  pub kept : Kept test i w (drop (2 * m) v) k

pub keeping_none : (test : Slope → Bool) (n m : ℕ) (w : List ℕ) → Keeping test n m w w 0 0
keeping_none test n m w =
    record { long = refl; front = record { same = λ j h. refl }; rest = λ j h g. refl; kept = kept_none test w (drop (2 * m) w) }

module _ {test : Slope → Bool} {n m : ℕ} {w v : List ℕ} {i k : ℕ} (all : Clear n m w) (h : Keeping test n m w v i k) (below : i < n) where
  pub keeping_stands : Stands v i
  keeping_stands =
      let r = all.room in
      let l = h.long in
      record {
        inside = omega arith;
        part = part-is (h.rest (2 * i) (omega arith) (inl (omega arith))) (h.rest (2 * i + 1) (omega arith) (inl (omega arith))) (all.sound.part i below);
      }

  pub keeping_inside : 2 * (m + k) + 1 < length v
  keeping_inside = let r = all.room in let l = h.long in omega (arith, h.kept.few)

  pub keeping_more : (t : Bool) → t ≡ test (fraction_at v i) → Keeping test n m w (copied v i (m + k)) (i + 1) (k + bit t)
  keeping_more t e =
      let rise = get_or v (2 * i) 0 in
      let run = get_or v (2 * i + 1) 0 in
      let few = h.kept.few in
      let clear = all.behind in
      record {
        long = length-put v (m + k) rise run ∙ h.long;
        front = record { same = λ j l. (put-alike v (m + k) rise run).same j (omega arith) ∙ h.front.same j l };
        rest = further;
        kept =
            subst (λ (l : List ℕ). Kept test (i + 1) w l (k + bit t)) (sym (drop-put m v k rise run))
            (kept_more h.kept (omega (arith, keeping_inside, length-drop (2 * m) v)) keeping_stands.part
            (ap₂ fraction (h.rest (2 * i) (omega arith) (inl (omega arith))) (h.rest (2 * i + 1) (omega arith) (inl (omega arith)))) t e);
      }
    where
      further : (j : ℕ) → 2 * (i + 1) ≤ j → (j < 2 * n) ⊎ (2 * (m + (i + 1)) ≤ j) → get_or (copied v i (m + k)) j 0 ≡ get_or w j 0
      further j g (inl l) =
          let few = h.kept.few in
          let clear = all.behind in
          put_other v (m + k) (get_or v (2 * i) 0) (get_or v (2 * i + 1) 0) j (grind arith) (grind arith) ∙ h.rest j (omega arith) (inl l)
      further j g (inr l) =
          let few = h.kept.few in
          put_other v (m + k) (get_or v (2 * i) 0) (get_or v (2 * i + 1) 0) j (omega arith) (omega arith) ∙ h.rest j (omega arith) (inr (omega arith))

-- ---- the rank among those that are kept

module _ {n r : ℕ} {w v : List ℕ} {low : Slope} {a : ℕ} (ask : Pickable n r w) (nl : Near low) (long : length v ≡ length w)
    (h : KeptFrom (not_by (under slope_le low)) n n w v a) where
  abbrev slopes : List Slope
  slopes = fractions n w

  -- those kept behind, lent
  lent_is : fractions a (behind n v) ≡ those (not_by (under slope_le low)) slopes
  lent_is = ap (fractions a) (behind-is n v) ∙ h.kept.front

  -- the rest lie below low
  pub left_out : (a ≤ n) × (n - a ≡ count (under slope_le low) slopes)
  left_out =
      let m = h.kept.few in (
        m,
        omega (arith, length-fractions a (behind n v), ap length lent_is, length-those (not_by (under slope_le low)) slopes, count-not (under slope_le low) slopes, length-fractions n w),
      )

  pub lent_listed : Listed a (behind n v)
  lent_listed =
      let room = ask.room in
      record {
        inside = subst (λ (l : List ℕ). 2 * a ≤ length l) (sym (behind-is n v)) (omega (arith, length-drop (2 * n) v, h.kept.few));
        sound = subst (Sound a) (sym (behind-is n v)) h.kept.sound;
      }

  lent_answer : {x : Slope} → Answers (r - (n - a)) (fractions a (behind n v)) x → Answers r slopes x
  lent_answer {x} b =
      let k = subst (λ (l : List Slope). Answers (r - (n - a)) l x) lent_is b in
      record {
        isIn = (of_those (not_by (under slope_le low)) slopes k.isIn).0;
        has-rank =
            rank_from_on slope_order low nl.forward slopes (forward ask) r k.isIn
            (subst (λ (j : ℕ). HasRank slope_le (r - j) (those (not_by (under slope_le low)) slopes) x) left_out.1 k.has-rank);
      }

  -- lent and given back, of those behind the ones that are not above high are left
  module _ {high : Slope} {ys : List ℕ} {k : ℕ} (nh : Near high) (same : length ys ≡ length (behind n v)) (g : Kept (not_by (over slope_le high)) a (behind n v) ys k) where
    abbrev back : List ℕ
    back = put_mid (2 * n) (length v - 2 * n) v ys

    pub front_back : Alike (2 * n) w back
    front_back =
        let room = ask.room in
        alike_trans h.front (alike-take (take_put (2 * n) (length v - 2 * n) v ys (omega arith)))

    behind-back : behind n back ≡ ys
    behind-back =
        let room = ask.room in
        behind-is n back
        ∙ drop_at (take (2 * n) v) (ys ++ drop (length v - 2 * n) (drop (2 * n) v)) (2 * n) (length-take-le (2 * n) v (omega arith))
        ∙ ap (λ (l : List ℕ). ys ++ l) (ap (λ (m : ℕ). drop m (drop (2 * n) v)) (sym (length-drop (2 * n) v)) ∙ drop-length (drop (2 * n) v))
        ∙ append-nil ys

    pub bracketed : n - a < r → r - (n - a) ≤ k → 2 * k ≤ n → Bracketed n r w back k (r - (n - a))
    bracketed more enough few =
        let room = ask.room in
        let e = behind-is n v in
        record {
          asks =
              subst (Pickable k (r - (n - a))) (sym behind-back)
              (record { rank_low = omega arith; rank-high = enough; sound = g.sound; room = omega (arith, same, ap length e, length-drop (2 * n) v) });
          back =
              λ x b. lent_answer (upto x
              (subst (λ (l : List Slope). Answers (r - (n - a)) l x) (ap (fractions k) behind-back ∙ g.front) b));
        }
      where
        lent : List Slope
        lent = fractions a (behind n v)

        up : (x : Slope) → Memᴰ x lent → Up x
        up x m = (near_of lent_listed.sound m).forward

        upto : (x : Slope) → Answers (r - (n - a)) (those (not_by (over slope_le high)) lent) x → Answers (r - (n - a)) lent x
        upto x b =
            record {
              isIn = (of_those (not_by (over slope_le high)) lent b.isIn).0;
              has-rank = rank_upto_on slope_order high nh.forward lent up (r - (n - a)) b.isIn b.has-rank;
            }

-- where the slopes stand as they came, a bracket of them is one of those that came
pub bracketed_alike : {n r : ℕ} {w v u : List ℕ} {k s : ℕ} → Alike (2 * n) w v → Bracketed n r v u k s → Bracketed n r w u k s
bracketed_alike {n} h b =
    record { asks = b.asks; back = λ x a. alike_answer n h (b.back x a) }
