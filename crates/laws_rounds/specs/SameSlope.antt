-- The answer of a round depends on its K by value alone: two slopes of one value give the same tops, the same pairs lose the same items.
-- Assumes nothing.
use Rattle.std.specs.Prelude.{◌≡◌, Bool, true, false, cond, ◌&&◌, ◌+◌, ◌/◌, ℤ, length}
use Rattle.std.proofs.Math.Path.{refl, ap, ap₂, fun_ext}
use Rattle.std.proofs.Common.{sym, ◌∙◌, subst}
use Rattle.std.proofs.Math.Option.{Option, none, some}
use mathlib.Core.List.{List, [], ◌∷◌, ◌++◌, Memᴰ}
use Rattle.std.specs.Int.Signed.{le_z, lt_z}
use Rattle.rules.specs.Lists.{best_from}
use Rattle.rules.specs.Streams.{Stream}
use Rattle.rules.specs.Bridge.{ends}
use Rattle.rules.specs.Round.{Slope, slope_le, Group, pair, odd, paired, found, kept, Tops, west, east, slope_of, keeps_of, keep, left_top, right_top, decided, round_with, round_by, slopes}
use Rattle.laws_ranks.specs.Ranks.{HasRank}
use Rattle.laws_rounds.specs.Pairs.{slopes-up}
use Rattle.laws_rounds.specs.Slopes.{Up, SameSlope, middle_by_counts, same_heights_le, same_heights_lt, same-at-most, same_at_least}

module _ {A : Type 0} (at : A → Stream) {J K : Slope} (h : SameSlope J K) where
  same_left_top : left_top at J ≡ left_top at K
  unfolding left_top
  same_left_top = fun_ext λ x. fun_ext λ y.
      rw (same_heights_lt h (at y) (at x), same_heights_le h (at x) (at y), same_heights_le h (at y) (at x))

  same_right_top : right_top at J ≡ right_top at K
  unfolding right_top
  same_right_top = fun_ext λ x. fun_ext λ y.
      rw (same_heights_lt h (at y) (at x), same_heights_le h (at x) (at y), same_heights_le h (at y) (at x))

  -- a pair keeps the same by tops of one value
  same-keeps : (gs : List (Group A)) (t u : Tops)
      → ((o : Option Slope) (x y : A) → keeps_of at t o x y ≡ keeps_of at u o x y)
      → keep at t gs ≡ keep at u gs
  unfolding keep
  same-keeps [] t u e = refl
  same-keeps (odd x ∷ gs) t u e = ap (λ (l : List A). x ∷ l) (same-keeps gs t u e)
  same-keeps (pair x y ∷ gs) t u e = ap₂ ◌++◌ (e (slope_of at (pair x y)) x y) (same-keeps gs t u e)

  same_keeps_west : (o : Option Slope) (x y : A) → keeps_of at (west J) o x y ≡ keeps_of at (west K) o x y
  same_keeps_west none x y = refl
  same_keeps_west (some k) x y = rw (same_at_least h k)

  same-keeps-east : (o : Option Slope) (x y : A) → keeps_of at (east J) o x y ≡ keeps_of at (east K) o x y
  same-keeps-east none x y = refl
  same-keeps-east (some k) x y = rw (same-at-most h k)

  same-decided : (a : ℤ) (i j : A) (gs : List (Group A)) → decided at a J i j gs ≡ decided at a K i j gs
  same-decided a i j gs = go (le_z (at i).east a && lt_z a (at j).east) (le_z (at j).east a)
    where
      go : (b c : Bool)
          → cond b (found (ends i j)) (kept (keep at (cond c (west J) (east J)) gs))
          ≡ cond b (found (ends i j)) (kept (keep at (cond c (west K) (east K)) gs))
      go true c = refl
      go false true = ap kept (same-keeps gs (west J) (west K) same_keeps_west)
      go false false = ap kept (same-keeps gs (east J) (east K) same-keeps-east)

  -- THE LAW
  pub same-round : (a : ℤ) (x : A) (l : List A) → round_with at a J x l ≡ round_with at a K x l
  unfolding round_with
  same-round a x l =
      same-decided a (best_from (left_top at J) x l) (best_from (right_top at J) x l) (paired (x ∷ l))
      ∙ ap₂
      (λ (f g : A → A → Bool). decided at a K (best_from f x l) (best_from g x l) (paired (x ∷ l)))
      same_left_top
      same_right_top

-- so a round may take any slope that the counts give the middle rank
pub round_by_counts : {A : Type 0} (at : A → Stream) (a : ℤ) (x : A) (l : List A) (k : Slope) (ks : List Slope) → slopes at (paired (x ∷ l)) ≡ k ∷ ks
    → (K : Slope) → Up K → HasRank slope_le ((length (k ∷ ks) + 1) / 2) (k ∷ ks) K
    → round_by at a (slopes at (paired (x ∷ l))) x l ≡ round_with at a K x l
round_by_counts at a x l k ks e K up h =
    ap (λ (js : List Slope). round_by at a js x l) e ∙ sym (same-round at (middle_by_counts k ks ups K up h) a x l)
  where
    ups : (j : Slope) → Memᴰ j (k ∷ ks) → Up j
    ups j m = slopes-up at (paired (x ∷ l)) j (subst (λ (js : List Slope). Memᴰ j js) (sym e) m)
