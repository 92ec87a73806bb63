-- A short list of slopes: the least taken out.
-- Assumes nothing.
use Rattle.std.specs.Prelude.{◌≡◌, refl, Bool, true, false, cond, ℕ, ◌+◌, ◌*◌, ◌-◌, ◌≤◌, ◌<◌, pos, ◌<ℤ◌, length, get_or}
use Rattle.std.proofs.Common.{sym, ap, ap₂, ◌∙◌, subst, subst₂, arith}
use mathlib.Core.List.{List, [], ◌∷◌, ◌++◌, Memᴰ}
use Rattle.rules.specs.Round.{Slope, slope_le}
use Rattle.laws_ranks.specs.Ranks.{under}
use Rattle.laws_ranks.specs.Least.{LeastOut, out_one, out_more}
use Rattle.slopes.specs.Fractions.{fraction, fraction_at, fractions, put, Part, Sound, Pickable}
use Rattle.slopes.specs.Passes.{Listed, Lifted, Read}
use Rattle.slopes.specs.declared.Fraction.{Fraction}
use Rattle.laws_rounds.specs.Slopes.{slope_order}
use Rattle.slopes.specs.ScratchLaws.{near_part, one_more, near_of, part-is, length-put, put_other, fractions-put, sound_put, sound_none}

-- the slope of the words that the code holds
abbrev pub held : Fraction → Slope
held f = fraction f.rise f.run

-- p has the words of the least of the first i + 1, and the others stand at the front; behind slope i the list is as it came
pub record Lifting (w v : List ℕ) (i : ℕ) (p : Fraction) : Type 0 where
  pub long : length v ≡ length w
  pub rest : (j : ℕ) → 2 * i + 2 ≤ j → get_or v j 0 ≡ get_or w j 0
  pub part : Part p.rise p.run
  pub sound : Sound i v
  pub out : LeastOut slope_le (fractions (i + 1) w) (held p) (fractions i v)

pub lifting_none : {n : ℕ} {w : List ℕ} {p : Fraction} → Listed n w → 1 ≤ n → Read w 0 p → Lifting w w 0 p
unfolding fractions
lifting_none {n} {w} {p} all one r =
    record {
      long = refl;
      rest = λ j h. refl;
      part = part-is r.rise-is r.run_is (all.sound.part 0 one);
      sound = sound_none w;
      out = subst (λ (k : Slope). LeastOut slope_le (fraction_at w 0 ∷ []) k []) (sym (ap₂ fraction r.rise-is r.run_is)) (out_one slope_order (fraction_at w 0));
    }

module _ {n : ℕ} {w v : List ℕ} {i : ℕ} {p f : Fraction} (all : Listed n w) (h : Lifting w v i p) (below : i + 1 < n) (r : Read v (i + 1) f) where
  next_rise : f.rise ≡ get_or w (2 * (i + 1)) 0
  next_rise = r.rise-is ∙ h.rest (2 * (i + 1)) (omega arith)

  next_run : f.run ≡ get_or w (2 * (i + 1) + 1) 0
  next_run = r.run_is ∙ h.rest (2 * (i + 1) + 1) (omega arith)

  pub next_part : Part f.rise f.run
  next_part = part-is next_rise next_run (all.sound.part (i + 1) below)

  up : (k : Slope) → Memᴰ k (fractions (i + 1) w) → pos 0 <ℤ k.run
  up k m = (near_of (record { part = λ j l. all.sound.part j (omega arith) }) m).forward

  -- x is stored and y goes on
  lifted_by : {x y : Fraction} → Part x.rise x.run → Part y.rise y.run
      → LeastOut slope_le (fractions (i + 1) w ++ (held f ∷ [])) (held y) (fractions i v ++ (held x ∷ []))
      → Lifting w (put v i x.rise x.run) (i + 1) y
  lifted_by {x} {y} stored goes out =
      let l = h.long in
      let inside = all.inside in
      let here : 2 * i + 1 < length v = omega arith in
      let first : fractions (i + 1 + 1) w ≡ fractions (i + 1) w ++ (held f ∷ []) =
      one_more (i + 1) w ∙ ap (λ (k : Slope). fractions (i + 1) w ++ (k ∷ [])) (sym (ap₂ fraction next_rise next_run))
      in
      record {
        long = length-put v i x.rise x.run ∙ h.long;
        rest = λ j g. put_other v i x.rise x.run j (omega arith) (omega arith) ∙ h.rest j (omega arith);
        part = goes;
        sound = sound_put v i x.rise x.run here stored h.sound;
        out =
            subst₂ (λ (k l : List Slope). LeastOut slope_le k (held y) l) (sym first) (sym (fractions-put v i x.rise x.run here)) out;
      }

  -- the lesser of the least and the next goes on, and the other is stored
  pub lifting_more : (t : Bool) → t ≡ under slope_le (held p) (held f)
      → Lifting w (put v i (cond t p f).rise (cond t p f).run) (i + 1) (cond t f p)
  lifting_more true e = lifted_by h.part next_part (out_more slope_order up h.out (near_part next_part).forward true e)
  lifting_more false e = lifted_by next_part h.part (out_more slope_order up h.out (near_part next_part).forward false e)

pub lifting_all : (n : ℕ) {w v : List ℕ} {i : ℕ} {p : Fraction} → i + 1 ≡ n → Lifting w v i p → Lifted n w (held p) v
lifting_all n {w} {v} {i} {p} e h =
    let k : n - 1 ≡ i = omega arith in
    record { sound = rw k h.sound; out = rw (k, ← e) h.out }

-- the rank before is asked among one slope fewer
pub asked_next : {m s : ℕ} {v u : List ℕ} {p : Slope} → Pickable m s v → Lifted m v p u → length u ≡ length v → 1 < s → Pickable (m - 1) (s - 1) u
asked_next t h same more =
    let high = t.rank-high in
    let room = t.room in
    record { rank_low = omega arith; rank-high = omega arith; sound = h.sound; room = omega arith }
