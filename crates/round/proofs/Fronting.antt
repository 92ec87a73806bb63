-- What the pairs passed keep, as a loop moves it to the front of the list: at the start, one pair more, at the end.
-- Assumes nothing.
use Rattle.std.specs.Prelude.{◌≡◌, ℕ, suc, ◌+◌, ◌<◌, ◌≤◌, Bool, true, false, List, [], ◌∷◌, ◌++◌, length, get_or, take, drop, set}
use mathlib.Core.Path.{refl, sym, ap, ap₂, ◌∙◌}
use mathlib.Core.List.{append-nil, append_assoc}
use native.Mathlib.Nat.{add-zero}
use native.Mathlib.Omega.{arith}
use mir.Val.{bool_byte}
use lib.ListN.{length-set, drop_of_length-le}
use lib.Seq.{get_or-drop, drop-cons, drop-drop, drop-set-lt}
use Rattle.rules.specs.Lists.{consIf}
use Rattle.rules.specs.Streams.{Stream}
use Rattle.rules.specs.Round.{Tops, pair, paired, keeps, keep}
use Rattle.laws_ranks.specs.Kept.{byte_most, stored}
use Rattle.round.specs.Keeping.{chosen, KeptFront}
use Rattle.round.proofs.TwoAtATime.{drop-two}

both : (l : List ℕ) (x y : ℕ) (b c : Bool) → (l ++ consIf b x []) ++ consIf c y [] ≡ l ++ chosen b c x y
both l x y true c = append_assoc l (x ∷ []) (consIf c y [])
both l x y false c = append_assoc l [] (consIf c y [])

module _ (at : ℕ → Stream) (t : Tops) (given : List ℕ) where
  pub record Fronting (w : List ℕ) (out i : ℕ) : Type 0 where
    pub inside : i ≤ length given
    pub behind : out ≤ i
    pub long : length w ≡ length given
    pub rest : drop i w ≡ drop i given
    pub front : take out w ++ keep at t (paired (drop i given)) ≡ keep at t (paired given)

  pub fronting_none : Fronting given 0 0
  fronting_none = record { inside = omega arith; behind = omega arith; long = refl; rest = refl; front = refl }

  module _ {w : List ℕ} {out i : ℕ} (g : Fronting w out i) where
    -- a number that is not passed is still the given one
    later : (k : ℕ) → get_or w (i + k) 0 ≡ get_or given (i + k) 0
    later k = sym (get_or-drop i w k 0) ∙ ap (λ (l : List ℕ). get_or l k 0) g.rest ∙ get_or-drop i given k 0

    pub here : get_or w i 0 ≡ get_or given i 0
    here = ap (λ (k : ℕ). get_or w k 0) (sym (add-zero i)) ∙ later 0 ∙ ap (λ (k : ℕ). get_or given k 0) (add-zero i)

    pub next : get_or w (i + 1) 0 ≡ get_or given (i + 1) 0
    next = later 1

    module _
        (h : i + 1 < length given)
        (b c : Bool)
        (e : keeps at t (pair (get_or w i 0) (get_or w (i + 1) 0)) ≡ chosen b c (get_or w i 0) (get_or w (i + 1) 0))
      where
        x : ℕ
        x = get_or w i 0

        y : ℕ
        y = get_or w (i + 1) 0

        abbrev after : List ℕ
        after = set (set w out (get_or w i 0)) (out + bool_byte b) (get_or w (i + 1) 0)

        pair_next : drop i given ≡ x ∷ y ∷ drop (i + 2) given
        unfolding x y
        pair_next = drop-two given i h ∙ ap₂ (λ (m n : ℕ). m ∷ n ∷ drop (i + 2) given) (sym here) (sym next)

        front_more : take (out + bool_byte b + bool_byte c) after ≡ take out w ++ chosen b c x y
        unfolding x y
        front_more =
            let a = g.behind in
            let l = g.long in
            stored (set w out x) (out + bool_byte b) y c (omega (arith, length-set w out x, byte_most b))
            ∙ ap (λ (l : List ℕ). l ++ consIf c y []) (stored w out x b (omega arith))
            ∙ both (take out w) x y b c

        pub fronting_more : Fronting after (out + bool_byte b + bool_byte c) (i + 2)
        unfolding keep paired x y
        fronting_more =
            let a = g.behind in
            record {
              inside = omega arith;
              behind = omega (arith, byte_most b, byte_most c);
              long = length-set (set w out x) (out + bool_byte b) y ∙ length-set w out x ∙ g.long;
              rest =
                  drop-set-lt (i + 2) (set w out x) (out + bool_byte b) y (omega (arith, byte_most b))
                  ∙ drop-set-lt (i + 2) w out x (omega arith)
                  ∙ sym (drop-drop 2 i w)
                  ∙ ap (drop 2) g.rest
                  ∙ drop-drop 2 i given;
              front =
                  ap (λ (l : List ℕ). l ++ keep at t (paired (drop (i + 2) given))) (front_more ∙ ap (λ (l : List ℕ). take out w ++ l) (sym e))
                  ∙ append_assoc (take out w) (keeps at t (pair x y)) (keep at t (paired (drop (i + 2) given)))
                  ∙ ap (λ (l : List ℕ). take out w ++ keep at t (paired l)) (sym pair_next)
                  ∙ g.front;
            }

    -- none is left
    pub fronting_all : length given ≤ i → KeptFront at t given out w
    unfolding keep paired
    fronting_all h =
        let a = g.behind in
        let b = g.inside in
        record {
          front =
              sym (append-nil (take out w))
              ∙ ap (λ (l : List ℕ). take out w ++ keep at t (paired l)) (sym (drop_of_length-le given h))
              ∙ g.front;
          fewer = omega arith;
        }

    -- an odd last one is left
    pub fronting_odd : {last : ℕ} → last ≡ i → length given ≡ i + 1 → KeptFront at t given (out + 1) (set w out (get_or w last 0))
    unfolding keep paired
    fronting_odd {last} e h =
        let a = g.behind in
        let l = g.long in
        let end = drop-cons given i 0 (omega arith) ∙ ap (λ (l : List ℕ). get_or given i 0 ∷ l) (drop_of_length-le given {i = suc i} (omega arith)) in
        let same = ap (λ (k : ℕ). get_or w k 0) e ∙ here in
        record {
          front =
              stored w out (get_or w last 0) true (omega arith)
              ∙ ap (λ (m : ℕ). take out w ++ (m ∷ [])) same
              ∙ ap (λ (l : List ℕ). take out w ++ keep at t (paired l)) (sym end)
              ∙ g.front;
          fewer = omega arith;
        }
