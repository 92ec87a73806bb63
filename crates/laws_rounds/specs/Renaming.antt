-- A round over other items at the same positions: the answer is the image of the answer. So lists of sample numbers and lists of positions say the
-- same.
-- Assumes nothing.
use Rattle.std.specs.Prelude.{◌≡◌, Bool, cond, ◌&&◌, ℤ}
use Rattle.std.proofs.Math.Path.{refl, sym, ap, ap₂}
use Rattle.std.proofs.Common.{◌∙◌}
use Rattle.std.proofs.Math.Bool.{true, false}
use Rattle.std.proofs.Math.Option
use Rattle.std.proofs.Math.Option.{Option, none, some}
use mathlib.Core.List.{List, [], ◌∷◌, ◌++◌, map, map-append}
use Prim.Native.Nat.{ℕ, zero, suc}
use Rattle.std.specs.Int.Signed.{le_z, lt_z}
use Rattle.rules.specs.Lists.{best_from}
use Rattle.rules.specs.Streams.{Stream}
use Rattle.rules.specs.Bridge.{Bridge, ends}
use Rattle.rules.specs.Round.{Slope, slope_le, middle_slope, Group, pair, odd, paired, Said, found, kept, Tops, unsought, west, east, slope_of, with_slope, slopes, right_of, left_of, keeps_of, keeps, keep, left_top, right_top, decided, round_with, round_by, round, rounds}

module _ {A B : Type 0} (f : B → A) where
  -- the image of a pair, of a bridge, and of what a round says
  abbrev pub pair_image : Group B → Group A
  pair_image (pair x y) = pair (f x) (f y)
  pair_image (odd x) = odd (f x)

  abbrev pub bridge_image : Bridge B → Bridge A
  bridge_image b = ends (f b.left) (f b.right)

  abbrev pub image : Said B → Said A
  image (found b) = found (bridge_image b)
  image (kept l) = kept (map f l)

  paired-map : (l : List B) → paired (map f l) ≡ map pair_image (paired l)
  unfolding paired
  paired-map [] = refl
  paired-map (x ∷ []) = refl
  paired-map (x ∷ y ∷ l) = ap (λ (gs : List (Group A)). pair (f x) (f y) ∷ gs) (paired-map l)

  best_from_map : (beats : A → A → Bool) (x : B) (l : List B) → best_from beats (f x) (map f l) ≡ f (best_from (λ x y. beats (f x) (f y)) x l)
  unfolding best_from
  best_from_map beats x [] = refl
  best_from_map beats x (y ∷ l) = go (beats (f y) (f x)) (λ z. best_from_map beats z l)
    where
      go : (b : Bool) → ((z : B) → best_from beats (f z) (map f l) ≡ f (best_from (λ x y. beats (f x) (f y)) z l))
          → best_from beats (cond b (f y) (f x)) (map f l) ≡ f (best_from (λ x y. beats (f x) (f y)) (cond b y x) l)
      go true e = e y
      go false e = e x

  module _ (at : A → Stream) where
    abbrev at_image : B → Stream
    at_image x = at (f x)

    slopes-map : (gs : List (Group B)) → slopes at (map pair_image gs) ≡ slopes at_image gs
    unfolding slopes
    slopes-map [] = refl
    slopes-map (pair x y ∷ gs) = ap (with_slope at (slope_of at (pair (f x) (f y)))) (slopes-map gs)
    slopes-map (odd x ∷ gs) = slopes-map gs

    one_map : (b : Bool) (x y : B) → cond b (f x) (f y) ∷ [] ≡ map f (cond b x y ∷ [])
    one_map true x y = refl
    one_map false x y = refl

    keeps-map : (t : Tops) (o : Option Slope) (x y : B) → keeps_of at t o (f x) (f y) ≡ map f (keeps_of at_image t o x y)
    keeps-map t none x y = one_map (lt_z (at (f x)).north (at (f y)).north) y x
    keeps-map unsought (some k) x y = refl
    keeps-map (west K) (some k) x y = go (slope_le K k)
      where
        go : (b : Bool) → cond b (right_of at (f x) (f y) ∷ []) (f x ∷ f y ∷ []) ≡ map f (cond b (right_of at_image x y ∷ []) (x ∷ y ∷ []))
        go true = one_map (lt_z (at (f x)).east (at (f y)).east) y x
        go false = refl
    keeps-map (east K) (some k) x y = go (slope_le k K)
      where
        go : (b : Bool) → cond b (left_of at (f x) (f y) ∷ []) (f x ∷ f y ∷ []) ≡ map f (cond b (left_of at_image x y ∷ []) (x ∷ y ∷ []))
        go true = one_map (lt_z (at (f x)).east (at (f y)).east) x y
        go false = refl

    keep-map : (t : Tops) (gs : List (Group B)) → keep at t (map pair_image gs) ≡ map f (keep at_image t gs)
    unfolding keep
    keep-map t [] = refl
    keep-map t (pair x y ∷ gs) =
        ap₂ ◌++◌ (keeps-map t (slope_of at (pair (f x) (f y))) x y) (keep-map t gs)
        ∙ sym (map-append f (keeps at_image t (pair x y)) (keep at_image t gs))
    keep-map t (odd x ∷ gs) = ap (λ (k : List A). f x ∷ k) (keep-map t gs)

    decided-map : (a : ℤ) (K : Slope) (i j : B) (gs : List (Group B))
        → decided at a K (f i) (f j) (map pair_image gs) ≡ image (decided at_image a K i j gs)
    decided-map a K i j gs = go (le_z (at (f i)).east a && lt_z a (at (f j)).east)
      where
        t : Tops
        t = cond (le_z (at (f j)).east a) (west K) (east K)

        go : (b : Bool)
            → cond b (found (ends (f i) (f j))) (kept (keep at t (map pair_image gs))) ≡ image (cond b (found (ends i j)) (kept (keep at_image t gs)))
        go true = refl
        go false = ap kept (keep-map t gs)

    pub round_with_map : (a : ℤ) (K : Slope) (x : B) (l : List B) → round_with at a K (f x) (map f l) ≡ image (round_with at_image a K x l)
    unfolding round_with left_top right_top
    round_with_map a K x l =
        ap₂ (λ (i j : A). decided at a K i j (paired (map f (x ∷ l)))) (best_from_map (left_top at K) x l) (best_from_map (right_top at K) x l)
        ∙ ap (decided at a K (f i) (f j)) (paired-map (x ∷ l))
        ∙ decided-map a K i j (paired (x ∷ l))
      where
        i : B
        i = best_from (left_top at_image K) x l

        j : B
        j = best_from (right_top at_image K) x l

    round_by_map : (a : ℤ) (ks : List Slope) (x : B) (l : List B) → round_by at a ks (f x) (map f l) ≡ image (round_by at_image a ks x l)
    round_by_map a [] x l =
        ap (λ (gs : List (Group A)). kept (keep at unsought gs)) (paired-map (x ∷ l))
        ∙ ap kept (keep-map unsought (paired (x ∷ l)))
    round_by_map a (k ∷ ks) x l = round_with_map a (middle_slope k ks) x l

    -- THE LAW: of a round, and of the rounds
    pub round-map : (a : ℤ) (l : List B) → round at a (map f l) ≡ image (round at_image a l)
    unfolding round
    round-map a [] = refl
    round-map a (x ∷ []) = refl
    round-map a (x ∷ y ∷ []) = go (lt_z (at (f x)).east (at (f y)).east)
      where
        go : (b : Bool) → found (ends (cond b (f x) (f y)) (cond b (f y) (f x))) ≡ found (ends (f (cond b x y)) (f (cond b y x)))
        go true = refl
        go false = refl
    round-map a (x ∷ y ∷ z ∷ l) =
        ap
        (λ (ks : List Slope). round_by at a ks (f x) (map f (y ∷ z ∷ l)))
        (ap (slopes at) (paired-map (x ∷ y ∷ z ∷ l)) ∙ slopes-map (paired (x ∷ y ∷ z ∷ l)))
        ∙ round_by_map a (slopes at_image (paired (x ∷ y ∷ z ∷ l))) x (y ∷ z ∷ l)

    pub rounds-map : (n : ℕ) (a : ℤ) (r : Said B) → rounds at n a (image r) ≡ Option.map bridge_image (rounds at_image n a r)
    unfolding rounds
    rounds-map zero a (found b) = refl
    rounds-map zero a (kept l) = refl
    rounds-map (suc n) a (found b) = refl
    rounds-map (suc n) a (kept l) = ap (rounds at n a) (round-map a l) ∙ rounds-map n a (round at_image a l)
