-- What a round says in each of its three cases, from what its parts say.
-- Assumes nothing.
use Rattle.std.specs.Prelude.{◌≡◌, ℕ, ◌+◌, ◌/◌, ◌<◌, ◌≤◌, Bool, true, false, cond, ◌≢◌, List, [], ◌++◌, length, get_or, take, drop, ℤ, pos}
use mathlib.Core.Path.{refl, sym, ap, ap₂, ◌∙◌, subst₂}
use native.Mathlib.Omega.{arith}
use lib.Signed.{lt_z}
use lib.Seq.{length-take-le, get_or-take, take-append-le}
use Rattle.rules.specs.Streams.{Stream}
use Rattle.rules.specs.Bridge.{ends}
use Rattle.rules.specs.Round as rules
use Rattle.laws_ranks.specs.Ranks.{HasRank}
use Rattle.slopes.specs.Fractions.{fractions, Near, Picked}
use Rattle.slopes.specs.ScratchLaws.{length-fractions}
use Rattle.round.specs.declared.turn.Said.{Said}
use Rattle.round.specs.declared.turn.Said.TheVariants.{Found, Kept}
use Rattle.round.specs.Slopes.{Sloped}
use Rattle.round.specs.Keeping.{towards, KeptFront}
use Rattle.round.specs.Saying.{said_as, kept_count, RoundSays, FinishSays}
use Rattle.round.proofs.Rounding.{round_of_two, round-without, round_by_rank}

-- the slope that stands in where there is none
abbrev pub level : rules.Slope
level = record { rise = pos 0; run = pos 1 }

pub level_near : Near level
level_near = record { rise_near = record { within = omega arith }; run_near = record { within = omega arith }; forward = record { lt = tt } }

module _ (places : ℕ → Stream) (a : ℤ) (w : List ℕ) (t : ℕ) (room : t ≤ length w) where
  abbrev list : List ℕ
  list = take t w

  list_long : length list ≡ t
  list_long = length-take-le t w room

  -- ---- two samples

  two_said : (b : Bool) (x y : ℕ) → said_as (cond b (Found x y) (Found y x)) w ≡ rules.found (ends (cond b x y) (cond b y x))
  two_said true x y = refl
  two_said false x y = refl

  two-kept : (b : Bool) (x y : ℕ) → kept_count (cond b (Found x y) (Found y x)) ≡ 0
  two-kept true x y = refl
  two-kept false x y = refl

  pub two_says : t ≡ 2 → (r : Said)
      → r ≡ cond (lt_z (places (get_or w 0 0)).east (places (get_or w 1 0)).east) (Found (get_or w 0 0) (get_or w 1 0)) (Found (get_or w 1 0) (get_or w 0 0))
      → RoundSays places a w t r w
  two_says two r e =
      record {
        is =
            ap (λ (r : Said). said_as r w) e
            ∙ two_said b (get_or w 0 0) (get_or w 1 0)
            ∙ ap₂
            (λ (x y : ℕ). rules.found (ends (rules.left_of places x y) (rules.right_of places x y)))
            (sym (get_or-take t w 0 0 (omega arith)))
            (sym (get_or-take t w 1 0 (omega arith)))
            ∙ sym (round_of_two places a list (omega (arith, list_long)));
        fewer = omega (arith, ap kept_count e, two-kept b (get_or w 0 0) (get_or w 1 0));
      }
    where
      b : Bool
      b = lt_z (places (get_or w 0 0)).east (places (get_or w 1 0)).east

  module _ (two : 2 ≤ t) (more : t ≢ 2) {u : List ℕ} {q : ℕ} (s : Sloped places w t q u) where
    many : 2 < length list
    many = omega (arith, list_long)

    -- ---- no slope

    no_slopes : q ≡ 0 → rules.slopes places (rules.paired list) ≡ []
    unfolding fractions
    no_slopes e = sym s.slopes_are ∙ ap (λ (k : ℕ). fractions k (drop t u)) e

    pub without_says : q ≡ 0 → {m : ℕ} {v : List ℕ} → length v ≡ length (take t u) → KeptFront places (towards true level) (take t u) m v
        → RoundSays places a w t (Kept m) (v ++ drop t u)
    without_says e {m} {v} long k =
        let few = k.fewer in
        let same = ap length s.same-list in
        record {
          is =
              ap rules.kept
              (take-append-le m v (drop t u) (omega arith)
              ∙ k.front
              ∙ ap (λ (l : List ℕ). rules.keep places (towards true level) (rules.paired l)) s.same-list)
              ∙ sym (round-without places a list level many (no_slopes e));
          fewer = omega (arith, list_long);
        }

    -- ---- K among the slopes

    pub picked_says : 1 ≤ q → (K : rules.Slope) (v : List ℕ) → Picked ((q + 1) / 2) (fractions q v) K → v ≡ drop t u
        → (x z : List ℕ) (r : Said) → take t x ≡ list → FinishSays places a K x t r z
        → RoundSays places a w t r z
    picked_says one K v p e x z r same f =
        record {
          is =
              f.is
              ∙ ap (λ (l : List ℕ). rules.round_with places a K (get_or l 0 0) (drop 1 l)) same
              ∙ sym (round_by_rank places a list ks many (sym s.slopes_are) (omega (arith, long)) K p.near.forward rank);
          fewer = f.fewer;
        }
      where
        ks : List rules.Slope
        ks = fractions q (drop t u)

        long : length ks ≡ q
        long = length-fractions q (drop t u)

        rank : HasRank rules.slope_le ((length ks + 1) / 2) ks K
        rank =
            subst₂
            (λ (n : ℕ) (l : List ℕ). HasRank rules.slope_le ((n + 1) / 2) (fractions q l) K)
            (sym long)
            e
            p.has-rank
