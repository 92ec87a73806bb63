-- The slopes of the pairs passed, as a loop writes them behind the list: at the start, one pair more, at the end.
-- Assumes nothing.
use Rattle.std.specs.Prelude.{◌≡◌, ℕ, ◌+◌, ◌*◌, ◌<◌, ◌≤◌, Bool, true, false, cond, ltb, ◌⊎◌, List, [], ◌∷◌, ◌++◌, length, get_or, take, drop, set}
use mathlib.Core.Path.{refl, sym, ap, ap₂, ◌∙◌, subst, subst₂}
use mathlib.Core.Logic.{inl, inr}
use mathlib.Core.Option.{Option, none, some}
use mathlib.Core.List.{append-nil}
use native.Mathlib.Nat.{not-suc-le-zero, eq-or-lt_of_le, add-zero, add_assoc}
use native.Mathlib.Omega.{arith}
use borrow.Author.Tests.{ltb-true}
use mir.Val.{bool_byte}
use lib.ListN.{length-set, length-drop}
use lib.Seq.{get_or-set_same, get_or-set_other, get_or-take, drop-set-add, take-set-le, length-take-le, append_snoc}
use Rattle.rules.specs.Streams.{Stream}
use Rattle.rules.specs.Round.{Slope, paired, with_slope, slopes}
use Rattle.slopes.specs.Fractions.{fraction, fractions, Part, Sound}
use Rattle.slopes.specs.Passes.{Alike}
use Rattle.slopes.specs.ScratchLaws.{one_more, fractions-alike, sound_alike}
use Rattle.laws_ranks.specs.Kept.{byte_most}
use Rattle.round.specs.Slopes.{PairSlope, Sloped}
use Rattle.round.proofs.TwoAtATime.{drop-two}

-- ---- two words behind q slopes

module _ (u : List ℕ) (q rise run : ℕ) (room : 2 * q + 1 < length u) where
  abbrev raised : List ℕ
  raised = set u (2 * q) rise

  abbrev put : List ℕ
  put = set raised (2 * q + 1) run

  put-rise : get_or put (2 * q) 0 ≡ rise
  put-rise = get_or-set_other raised (2 * q + 1) (2 * q) run 0 (omega arith) ∙ get_or-set_same u (2 * q) rise 0 (omega arith)

  put-run : get_or put (2 * q + 1) 0 ≡ run
  put-run = get_or-set_same raised (2 * q + 1) run 0 (omega (arith, length-set u (2 * q) rise))

  put-alike : Alike (2 * q) u put
  put-alike =
      record {
        same = λ j h. get_or-set_other raised (2 * q + 1) j run 0 (omega arith) ∙ get_or-set_other u (2 * q) j rise 0 (omega arith);
      }

  -- one slope more where the run is not 0
  put-slopes : (b : Bool) → fractions (q + bool_byte b) put ≡ fractions q u ++ cond b (fraction rise run ∷ []) []
  put-slopes true =
      one_more q put ∙ ap₂ (λ (l : List Slope) (s : Slope). l ++ (s ∷ [])) (fractions-alike q put-alike) (ap₂ fraction put-rise put-run)
  put-slopes false = ap (λ (k : ℕ). fractions k put) (add-zero q) ∙ fractions-alike q put-alike ∙ sym (append-nil (fractions q u))

  put_sound : rise ≤ 4000000 → run ≤ 2000000 → (b : Bool) → (b ≡ true → 1 ≤ run) → Sound q u → Sound (q + bool_byte b) put
  put_sound hr hu false low s = subst (λ (k : ℕ). Sound k put) (sym (add-zero q)) (sound_alike put-alike s)
  put_sound hr hu true low s = record { part = λ k h. go k (eq-or-lt_of_le (omega arith)) }
    where
      go : (k : ℕ) → (k ≡ q) ⊎ (k < q) → Part (get_or put (2 * k) 0) (get_or put (2 * k + 1) 0)
      go k (inl e) =
          subst (λ (m : ℕ). Part (get_or put (2 * m) 0) (get_or put (2 * m + 1) 0)) (sym e)
          (subst₂ Part (sym put-rise) (sym put-run) (record { rise-high = hr; run_low = low refl; run-high = hu }))
      go k (inr h) = (sound_alike put-alike s).part k h

-- ---- the loop

module _ (at : ℕ → Stream) (w₀ : List ℕ) (t : ℕ) where
  abbrev list : List ℕ
  list = take t w₀

  pub record Sloping (w : List ℕ) (q i : ℕ) : Type 0 where
    pub inside : i ≤ t
    pub few : 2 * q ≤ i
    pub long : length w ≡ length w₀
    pub same-list : take t w ≡ list
    pub slopes_are : fractions q (drop t w) ++ slopes at (paired (drop i list)) ≡ slopes at (paired list)
    pub sound : Sound q (drop t w)

  pub sloping_none : Sloping w₀ 0 0
  unfolding fractions
  sloping_none =
      record {
        inside = omega arith;
        few = omega arith;
        long = refl;
        same-list = refl;
        slopes_are = refl;
        sound = record { part = λ k h. absurd (not-suc-le-zero h) };
      }

  module _ (room : 2 * t ≤ length w₀) {w : List ℕ} {q i : ℕ} (g : Sloping w q i) where
    list_long : length list ≡ t
    list_long = length-take-le t w₀ (omega arith)

    -- a number of the list is still the given one
    pub same_number : (j : ℕ) → j < t → get_or w j 0 ≡ get_or list j 0
    same_number j h = sym (get_or-take t w j 0 h) ∙ ap (λ (l : List ℕ). get_or l j 0) g.same-list

    module _ (h : i + 1 < t) {rise run : ℕ} (p : PairSlope (at (get_or w i 0)) (at (get_or w (i + 1) 0)) rise run) where
      x : ℕ
      x = get_or w i 0

      y : ℕ
      y = get_or w (i + 1) 0

      abbrev after : List ℕ
      after = set (set w (t + 2 * q) rise) (t + 2 * q + 1) run

      next : drop i list ≡ x ∷ y ∷ drop (i + 2) list
      unfolding x y
      next =
          drop-two list i (omega (arith, list_long))
          ∙ ap₂ (λ (m n : ℕ). m ∷ n ∷ drop (i + 2) list) (sym (same_number i (omega arith))) (sym (same_number (i + 1) h))

      behind : drop t after ≡ set (set (drop t w) (2 * q) rise) (2 * q + 1) run
      behind =
          ap (λ (k : ℕ). drop t (set (set w (t + 2 * q) rise) k run)) (add_assoc t (2 * q) 1)
          ∙ drop-set-add t (set w (t + 2 * q) rise) (2 * q + 1) run
          ∙ ap (λ (l : List ℕ). set l (2 * q + 1) run) (drop-set-add t w (2 * q) rise)

      fits : 2 * q + 1 < length (drop t w)
      fits = let a = g.few in let b = g.long in omega (arith, length-drop t w)

      gathered : (b : Bool) (ks : List Slope)
          → (fractions q (drop t w) ++ cond b (fraction rise run ∷ []) []) ++ ks
          ≡ fractions q (drop t w) ++ with_slope at (cond b (some (fraction rise run)) none) ks
      gathered true ks = append_snoc (fractions q (drop t w)) (fraction rise run) ks
      gathered false ks = ap (λ (l : List Slope). l ++ ks) (append-nil (fractions q (drop t w)))

      pub sloping_more : Sloping after (q + bool_byte (ltb 0 run)) (i + 2)
      unfolding slopes paired x y
      sloping_more =
          record {
            inside = omega arith;
            few = let a = g.few in omega (arith, byte_most (ltb 0 run));
            long = length-set (set w (t + 2 * q) rise) (t + 2 * q + 1) run ∙ length-set w (t + 2 * q) rise ∙ g.long;
            same-list =
                take-set-le t (set w (t + 2 * q) rise) (t + 2 * q + 1) run (omega arith) ∙ take-set-le t w (t + 2 * q) rise (omega arith) ∙ g.same-list;
            slopes_are =
                ap (λ (l : List Slope). l ++ slopes at (paired (drop (i + 2) list)))
                (ap (fractions (q + bool_byte (ltb 0 run))) behind ∙ put-slopes (drop t w) q rise run fits (ltb 0 run))
                ∙ gathered (ltb 0 run) (slopes at (paired (drop (i + 2) list)))
                ∙ ap (λ (o : Option Slope). fractions q (drop t w) ++ with_slope at o (slopes at (paired (drop (i + 2) list)))) (sym p.is)
                ∙ ap (λ (l : List ℕ). fractions q (drop t w) ++ slopes at (paired l)) (sym next)
                ∙ g.slopes_are;
            sound =
                subst (Sound (q + bool_byte (ltb 0 run))) (sym behind)
                (put_sound (drop t w) q rise run fits p.rise-high p.run-high (ltb 0 run) (λ e. ltb-true 0 run e) g.sound);
          }

    -- at most one number is left, which has no slope
    none_left : (l : List ℕ) → length l ≤ 1 → slopes at (paired l) ≡ []
    unfolding slopes paired
    none_left [] h = refl
    none_left (a ∷ []) h = refl
    none_left (a ∷ b ∷ l) h = absurd (omega arith)

    pub sloping_all : t ≤ i + 1 → Sloped at w₀ t q w
    sloping_all h =
        record {
          same-list = g.same-list;
          slopes_are =
              sym (append-nil (fractions q (drop t w)))
              ∙ ap (λ (l : List Slope). fractions q (drop t w) ++ l) (sym (none_left (drop i list) (omega (arith, length-drop i list, list_long))))
              ∙ g.slopes_are;
          sound = g.sound;
          few = let a = g.few in let b = g.inside in omega arith;
        }
