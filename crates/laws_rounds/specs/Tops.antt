-- The tops of a round: the items of greatest height by K, the furthest west of them and the furthest east. Where they lie on either side of a they
-- are the bridge over a, and where they lie on one side of it K is steeper or less steep than the bridge (001, Lemma 3.3).
-- Assumes nothing.
use Rattle.std.specs.Prelude.{◌≡◌, Bool, ℤ, pos, ◌≤ℤ◌, ◌<ℤ◌}
use Rattle.std.proofs.Common.{sym, ap, ◌∙◌, subst, ⊎_elim}
use Rattle.std.proofs.Math.Bool.{true, false}
use Rattle.std.proofs.Math.Option.{some}
use mathlib.Core.List.Memᴰ
use mathlib.Core.List.{List, ◌∷◌, map, Memᴰ}
use Rattle.whole.specs.Linear.{order}
use Rattle.whole.specs.Laws.{≤ℤ_antisym, ≤ℤ_split}
use Rattle.rules.specs.Lists.{best_from}
use Rattle.rules.specs.Streams.{Stream, side}
use Rattle.rules.specs.Chain.{Of}
use Rattle.rules.specs.Round.{Slope, height, left_top, right_top}
use Rattle.laws_outline.specs.ListLaws.{Ranks, Best, best_from_best}
use Rattle.laws_outline.specs.TwoKeys.{two_keys_rank, two_keys_no}
use Rattle.laws_outline.specs.Bridges.{BridgeOver}
use Rattle.laws_rounds.specs.ListedItems.{first_of, best-first}
use Rattle.laws_rounds.specs.Slopes.{Up, is-steeper, is_flatter, level-below, level_on}
use Rattle.laws_rounds.specs.Pairs.{here}

module _ {A : Type 0} (at : A → Stream) where
  -- i is a top: none is higher by K, those as high lie beyond it, and it is the first at its position
  pub record Top (K : Slope) (beyond : ℤ → ℤ → Type 0) (l : List A) (i : A) : Type 0 where
    pub given : Memᴰ i l
    pub highest : (x : A) → Memᴰ x l → height K (at x) ≤ℤ height K (at i)
    pub furthest : (x : A) → Memᴰ x l → height K (at x) ≡ height K (at i) → beyond (at i).east (at x).east
    pub first : first_of (here at (at i)) l ≡ some i

  -- the furthest west, and the furthest east
  abbrev pub LeftTop : Slope → List A → A → Type 0
  LeftTop K l i = Top K (λ a b. a ≤ℤ b) l i

  abbrev pub RightTop : Slope → List A → A → Type 0
  RightTop K l j = Top K (λ a b. b ≤ℤ a) l j

  module _ (K : Slope) (x : A) (l : List A) where
    -- the best by a test that reads so is a top
    top_is : (beats : Stream → Stream → Bool) (beyond : ℤ → ℤ → Type 0) → Ranks (λ (x : A). Unit {0}) (λ x y. beats (at x) (at y))
        → ((p q : Stream) → beats p q ≡ false → (height K p ≤ℤ height K q) × (height K p ≡ height K q → beyond q.east p.east))
        → Top K beyond (x ∷ l) (best_from (λ x y. beats (at x) (at y)) x l)
    top_is beats beyond o reads =
        record {
          given = h.given;
          highest = λ z m. (reads (at z) (at i) (h.unbeaten z m)).0;
          furthest = λ z m e. (reads (at z) (at i) (h.unbeaten z m)).1 e;
          first = best-first at beats o x l;
        }
      where
        i : A
        i = best_from (λ x y. beats (at x) (at y)) x l

        h : Best (λ x y. beats (at x) (at y)) (x ∷ l) i
        h = best_from_best o x l (λ z m. tt)

    pub left_top_is : LeftTop K (x ∷ l) (best_from (left_top at K) x l)
    unfolding left_top
    left_top_is =
        top_is
        (left_top (λ s. s) K)
        (λ a b. a ≤ℤ b)
        (two_keys_rank false true (λ x. height K (at x)) (λ x. (at x).east))
        (λ p q e. two_keys_no (height K q) (height K p) (height K p) (height K q) p.east q.east e)

    pub right_top_is : RightTop K (x ∷ l) (best_from (right_top at K) x l)
    unfolding right_top
    right_top_is =
        top_is
        (right_top (λ s. s) K)
        (λ a b. b ≤ℤ a)
        (two_keys_rank false false (λ x. height K (at x)) (λ x. (at x).east))
        (λ p q e. two_keys_no (height K q) (height K p) (height K p) (height K q) q.east p.east e)

  -- what lies not beyond a top is lower
  below_top : (K : Slope) {beyond : ℤ → ℤ → Type 0} (l : List A) (i : A) → Top K beyond l i
      → (s : Stream) → Memᴰ s (map at l) → ¬ beyond (at i).east s.east → height K s <ℤ height K (at i)
  below_top K {beyond} l i h s m f =
      let o = Memᴰ.of_map at l m in
      subst (λ (s : Stream). height K s <ℤ height K (at i)) o.2 (go o.0 o.1 o.2)
    where
      go : (x : A) → Memᴰ x l → at x ≡ s → height K (at x) <ℤ height K (at i)
      go x n e =
          ⊎_elim
          (λ g. g)
          (λ g. absurd (f (subst (λ (s : Stream). beyond (at i).east s.east) e (h.furthest x n g))))
          (≤ℤ_split (h.highest x n))

  -- ---- the tops and the bridge

  module _ (K : Slope) (up : Up K) (a : ℤ) (l : List A) (i j : A) (hi : LeftTop K l i) (hj : RightTop K l j) where
    level_tops : height K (at i) ≡ height K (at j)
    level_tops = ≤ℤ_antisym (hj.highest i hi.given) (hi.highest j hj.given)

    -- on either side of a they are the bridge
    pub tops_bridge : (at i).east ≤ℤ a → a <ℤ (at j).east → BridgeOver (Of (map at l)) a (at i) (at j)
    tops_bridge low high =
        record {
          from = Memᴰ.map at hi.given;
          to = Memᴰ.map at hj.given;
          left = low;
          right = high;
          below = λ s m. let o = Memᴰ.of_map at l m in below s o.0 o.1 o.2;
          within = λ s m e. let o = Memᴰ.of_map at l m in within s o.0 o.1 o.2 e;
        }
      where
        ahead : (at i).east <ℤ (at j).east
        ahead = omega order

        below : (s : Stream) (x : A) → Memᴰ x l → at x ≡ s → side (at i) (at j) s ≤ℤ pos 0
        below s x m e =
            subst (λ (s : Stream). side (at i) (at j) s ≤ℤ pos 0) e (level-below (at i) (at j) ahead K up level_tops (at x) (hj.highest x m))

        within : (s : Stream) (x : A) → Memᴰ x l → at x ≡ s → side (at i) (at j) s ≡ pos 0 → ((at i).east ≤ℤ s.east) × (s.east ≤ℤ (at j).east)
        within s x m e on =
            let h : height K (at x) ≡ height K (at j) = ap (height K) e ∙ level_on (at i) (at j) ahead K up level_tops s on in
            subst (λ (s : Stream). ((at i).east ≤ℤ s.east) × (s.east ≤ℤ (at j).east)) e (hi.furthest x m (h ∙ sym level_tops), hj.furthest x m h)

    -- on one side of a they tell how K stands to the bridge
    module _ (p q : Stream) (b : BridgeOver (Of (map at l)) a p q) where
      ahead : p.east <ℤ q.east
      ahead = let g = b.left in let h = b.right in omega order

      pub tops_west : (at j).east ≤ℤ a → height K q <ℤ height K p
      tops_west h =
          let g = b.right in
          is-steeper p q ahead K up (at j) (b.below (at j) (Memᴰ.map at hj.given)) (omega order) (below_top K l j hj q b.to (omega order))

      pub tops_east : a <ℤ (at i).east → height K p <ℤ height K q
      tops_east h =
          let g = b.left in
          is_flatter p q ahead K up (at i) (b.below (at i) (Memᴰ.map at hi.given)) (omega order) (below_top K l i hi p b.from (omega order))
