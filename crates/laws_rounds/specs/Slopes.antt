-- Slopes compared as fractions: an order where the runs are above zero; and the height that a slope gives a stream, by which a round tells on which
-- side of its tops the bridge lies (001, Lemma 3.3) and which sample of a pair lies below the bridge (001, Lemmas 3.1 and 3.2).
-- Assumes nothing.
use Rattle.std.specs.Prelude.{◌≡◌, true, false, not, ℕ, ◌+◌, ◌/◌, ◌≤◌, length, pos, ◌*ℤ◌, ◌≤ℤ◌, ◌<ℤ◌}
use Rattle.std.proofs.Math.Path.{refl, sym}
use Rattle.std.proofs.Common.{ap, ◌∙◌, arith}
use mathlib.Core.List.{List, [], ◌∷◌, Memᴰ}
use Rattle.std.proofs.Math.IntN.{ℤ}
use Rattle.std.specs.Int.Signed.{le_z, lt_z}
use Rattle.whole.specs.Linear.{order}
use Rattle.whole.specs.Laws.{is_true, test-le, le_test, le_z_not_lt_z, ≤ℤ_antisym}
use Rattle.whole.specs.Solver.{Ex, var, num, ◌⊖◌, ◌⊗◌, east, north, tri}
use Rattle.whole.specs.Certificate.{from-≤, from-<, from-≡, from_0<, from-≤0, from-≡0, scaled, ◌⊞◌, ◌⊠◌, conclude-≤, conclude-<, cancel-≤, cancel-<, cancel-≡}
use Rattle.rules.specs.Streams.{Stream, side}
use Rattle.rules.specs.Round.{Slope, slope, slope_le, height, middle_slope}
use Rattle.laws_ranks.specs.Counts.{count, count-not}
use Rattle.laws_ranks.specs.Ranks.{HasRank}
use Rattle.laws_ranks.specs.RanksAmong.{OrderOn, ranked_holds_on, ranked_has_rank_on, rank_by_counts_on}
use Rattle.laws_outline.specs.ListLaws.{same_true}
use Rattle.laws_rounds.specs.ListedItems.{T_true, false_T, not-not}

-- ---- the order

-- a slope as the rules have it: the run above zero
abbrev pub Up : Slope → Type 0
Up k = pos 0 <ℤ k.run

pub slope-total : (j k : Slope) → slope_le j k ≡ false → slope_le k j ≡ true
unfolding slope_le
slope-total j k e = let h : (k.rise *ℤ j.run) ≤ℤ (j.rise *ℤ k.run) = omega order in le_test h

module _ (i j k : Slope) where
  abbrev three : List ℤ
  three = i.rise ∷ i.run ∷ j.rise ∷ j.run ∷ k.rise ∷ k.run ∷ []

  pub slope_trans : Up i → Up j → Up k → slope_le i j ≡ true → slope_le j k ≡ true → slope_le i k ≡ true
  unfolding slope_le
  slope_trans hi hj hk p q =
      le_test
      (cancel-≤ (from_0< three (var 3) hj)
      (from-≤ three (var 0 ⊗ var 3) (var 2 ⊗ var 1) (test-le _ _ p) ⊠ from_0< three (var 5) hk
      ⊞ from-≤ three (var 2 ⊗ var 5) (var 4 ⊗ var 3) (test-le _ _ q) ⊠ from_0< three (var 1) hi)
      (var 0 ⊗ var 5) (var 4 ⊗ var 1) refl)

-- among such slopes the test is an order
pub slope_order : OrderOn Up slope_le
slope_order =
    record {
      total = λ j k hj hk h. T_true (slope-total j k (false_T h));
      trans = λ i j k hi hj hk p q. T_true (slope_trans i j k hi hj hk (is_true (slope_le i j) p) (is_true (slope_le j k) q));
    }

-- so the middle slope is one of them, at least half of them are at most it and at least half are at least it
pub record MiddleSlope (ks : List Slope) (K : Slope) : Type 0 where
  pub given : Memᴰ K ks
  pub at_most : (length ks + 1) / 2 ≤ count (λ k. slope_le k K) ks
  pub at_least : (length ks + 1) / 2 ≤ count (λ k. slope_le K k) ks

order_among : (ks : List Slope) → ((k : Slope) → Memᴰ k ks → Up k) → OrderOn (λ k. Memᴰ k ks) slope_le
order_among ks up =
    record {
      total = λ j k mj mk h. slope_order.total j k (up j mj) (up k mk) h;
      trans = λ i j k mi mj mk p q. slope_order.trans i j k (up i mi) (up j mj) (up k mk) p q;
    }

pub middle-slope-is : (k : Slope) (ks : List Slope) → ((j : Slope) → Memᴰ j (k ∷ ks) → Up j) → MiddleSlope (k ∷ ks) (middle_slope k ks)
unfolding middle_slope
middle-slope-is k ks up =
    let js = k ∷ ks in
    let r = (length js + 1) / 2 in
    let o = order_among js up in
    let first : Memᴰ k js = mathlib.Core.List.Memᴰ.head refl in
    let h = ranked_has_rank_on o js (λ j m. m) k first r (omega arith) (omega arith) in
    let a = h.fewer in
    let b = h.enough in
    record {
      given = ranked_holds_on o js (λ j m. m) k first r;
      at_most = b;
      at_least = omega (arith, count-not (slope_le (middle_slope k ks)) js);
    }

-- ---- heights. K is at most the slope from l to r exactly if r is at least as high by K as l, and steeper than it exactly if r is lower

-- a height in syntax: p, q, l and r are the streams 0 to 3, and K stands behind them
abbrev tall : ℕ → Ex
tall p = var 9 ⊗ north p ⊖ var 8 ⊗ east p

module _ (K : Slope) (p q l r : Stream) where
  abbrev four : List ℤ
  four = p.east ∷ p.north ∷ q.east ∷ q.north ∷ l.east ∷ l.north ∷ r.east ∷ r.north ∷ K.rise ∷ K.run ∷ []

module _ (K : Slope) (l r : Stream) where
  abbrev two : List ℤ
  two = four K l r l r

  pub slope_at_least : slope_le K (slope l r) ≡ true → height K l ≤ℤ height K r
  unfolding slope_le height
  slope_at_least e = conclude-≤ (from-≤ two (var 8 ⊗ (east 1 ⊖ east 0)) ((north 1 ⊖ north 0) ⊗ var 9) (test-le _ _ e)) (tall 0) (tall 1) refl

  pub slope-at-most : slope_le (slope l r) K ≡ true → height K r ≤ℤ height K l
  unfolding slope_le height
  slope-at-most e = conclude-≤ (from-≤ two ((north 1 ⊖ north 0) ⊗ var 9) (var 8 ⊗ (east 1 ⊖ east 0)) (test-le _ _ e)) (tall 1) (tall 0) refl

module _ (p q : Stream) (ahead : p.east <ℤ q.east) where
  -- of two streams of one east the one further south is the lower over the line from p to q (Lemma 3.1)
  pub lower-below : (l r : Stream) → l.east ≡ r.east → l.north <ℤ r.north → side p q l <ℤ side p q r
  unfolding side
  lower-below l r e n =
      conclude-<
      (from-< ρ (east 0) (east 1) ahead ⊠ from-< ρ (north 2) (north 3) n ⊞ scaled (from-≡ ρ (east 3) (east 2) (sym e)) (north 1 ⊖ north 0))
      (tri 0 1 2) (tri 0 1 3) refl
    where
      ρ : List ℤ
      ρ = four (slope p q) p q l r

  module _ (K : Slope) (up : Up K) where
    -- K is steeper than the way from p to q and at most the slope from l to r: the left one is the lower (Lemma 3.2, 1)
    pub lower_left : (l r : Stream) → l.east <ℤ r.east → height K q <ℤ height K p → height K l ≤ℤ height K r → side p q l <ℤ side p q r
    unfolding side height
    lower_left l r e steep h =
        cancel-< (from_0< ρ (var 9) up)
        (from-< ρ (east 0) (east 1) ahead ⊠ from-≤ ρ (tall 2) (tall 3) h ⊞ from-< ρ (east 2) (east 3) e ⊠ from-< ρ (tall 1) (tall 0) steep)
        (tri 0 1 2) (tri 0 1 3) refl
      where
        ρ : List ℤ
        ρ = four K p q l r

    -- K is less steep than the way from p to q and at least the slope from l to r: the right one is the lower (Lemma 3.2, 2)
    pub lower_right : (l r : Stream) → l.east <ℤ r.east → height K p <ℤ height K q → height K r ≤ℤ height K l → side p q r <ℤ side p q l
    unfolding side height
    lower_right l r e flat h =
        cancel-< (from_0< ρ (var 9) up)
        (from-< ρ (east 0) (east 1) ahead ⊠ from-≤ ρ (tall 3) (tall 2) h ⊞ from-< ρ (east 2) (east 3) e ⊠ from-< ρ (tall 0) (tall 1) flat)
        (tri 0 1 3) (tri 0 1 2) refl
      where
        ρ : List ℤ
        ρ = four K p q l r

    -- a stream on or below the line that is west of q and higher by K: K is steeper (Lemma 3.3, 3)
    pub is-steeper : (j : Stream) → side p q j ≤ℤ pos 0 → j.east <ℤ q.east → height K q <ℤ height K j → height K q <ℤ height K p
    unfolding side height
    is-steeper j s e h =
        cancel-< (from-< ρ (east 2) (east 1) e)
        (from-< ρ (east 0) (east 1) ahead ⊠ from-< ρ (tall 1) (tall 2) h ⊞ from_0< ρ (var 9) up ⊠ from-≤0 ρ (tri 0 1 2) s)
        (tall 1) (tall 0) refl
      where
        ρ : List ℤ
        ρ = four K p q j j

    -- a stream on or below the line that is east of p and higher by K: K is less steep (Lemma 3.3, 1)
    pub is_flatter : (i : Stream) → side p q i ≤ℤ pos 0 → p.east <ℤ i.east → height K p <ℤ height K i → height K p <ℤ height K q
    unfolding side height
    is_flatter i s e h =
        cancel-< (from-< ρ (east 0) (east 2) e)
        (from-< ρ (east 0) (east 1) ahead ⊠ from-< ρ (tall 0) (tall 2) h ⊞ from_0< ρ (var 9) up ⊠ from-≤0 ρ (tri 0 1 2) s)
        (tall 0) (tall 1) refl
      where
        ρ : List ℤ
        ρ = four K p q i i

    -- where p and q are equally high by K, height is the distance from their line (Lemma 3.3, 2)
    module _ (level : height K p ≡ height K q) (s : Stream) where
      pub level-below : height K s ≤ℤ height K q → side p q s ≤ℤ pos 0
      unfolding side height
      level-below h =
          cancel-≤ (from_0< ρ (var 9) up)
          (from-< ρ (east 0) (east 1) ahead ⊠ from-≤ ρ (tall 2) (tall 1) h ⊞ scaled (from-≡ ρ (tall 0) (tall 1) level) (east 2 ⊖ east 1))
          (tri 0 1 2) (num (pos 0)) refl
        where
          ρ : List ℤ
          ρ = four K p q s s

      pub level_on : side p q s ≡ pos 0 → height K s ≡ height K q
      unfolding side height
      level_on h =
          sym
          (cancel-≡ (from-< ρ (east 0) (east 1) ahead)
          (scaled (from-≡0 ρ (tri 0 1 2) h) (var 9) ⊞ scaled (from-≡ ρ (tall 0) (tall 1) level) (east 2 ⊖ east 1))
          (tall 1) (tall 2) refl)
        where
          ρ : List ℤ
          ρ = four K p q s s

-- ---- slopes of one value: a round depends on its K by these tests alone

pub record SameSlope (J K : Slope) : Type 0 where
  pub up : Up J
  pub up' : Up K
  pub low : slope_le J K ≡ true
  pub high : slope_le K J ≡ true

-- as a slope and the middle slope are, if the counts give both one rank
pub middle_by_counts : (k : Slope) (ks : List Slope) → ((j : Slope) → Memᴰ j (k ∷ ks) → Up j) → (K : Slope) → Up K
    → HasRank slope_le ((length (k ∷ ks) + 1) / 2) (k ∷ ks) K → SameSlope K (middle_slope k ks)
unfolding middle_slope
middle_by_counts k ks up K hK h =
    let r = (length (k ∷ ks) + 1) / 2 in
    let first : Up k = up k (mathlib.Core.List.Memᴰ.head refl) in
    let e = rank_by_counts_on slope_order (k ∷ ks) up k first r hK h in
    record {
      up = hK;
      up' = ranked_holds_on slope_order (k ∷ ks) up k first r;
      low = is_true (slope_le K (middle_slope k ks)) e.low;
      high = is_true (slope_le (middle_slope k ks) K) e.high;
    }

turned-slope : {J K : Slope} → SameSlope J K → SameSlope K J
turned-slope h = record { up = h.up'; up' = h.up; low = h.high; high = h.low }

-- two tests of order agree if the one order is the other
same-le : (a b c d : ℤ) → (a ≤ℤ b → c ≤ℤ d) → (c ≤ℤ d → a ≤ℤ b) → le_z a b ≡ le_z c d
same-le a b c d f g = same_true (le_z a b) (le_z c d) (λ e. le_test (f (test-le a b e))) (λ e. le_test (g (test-le c d e)))

same-lt : (a b c d : ℤ) → le_z b a ≡ le_z d c → lt_z a b ≡ lt_z c d
same-lt a b c d e = sym (not-not (lt_z a b)) ∙ ap not (sym (le_z_not_lt_z b a) ∙ e ∙ le_z_not_lt_z d c) ∙ not-not (lt_z c d)

module _ (J K : Slope) (h : SameSlope J K) where
  -- l and r are the streams 0 and 1, and J stands at 8 and 9, K at 10 and 11
  abbrev both : Stream → Stream → List ℤ
  both l r = l.east ∷ l.north ∷ r.east ∷ r.north ∷ pos 0 ∷ pos 0 ∷ pos 0 ∷ pos 0 ∷ J.rise ∷ J.run ∷ K.rise ∷ K.run ∷ []

  heights_carried : (l r : Stream) → height J l ≤ℤ height J r → height K l ≤ℤ height K r
  unfolding slope_le height
  heights_carried l r g =
      cancel-≤ (from_0< ρ (var 9) h.up)
      (from-≤ ρ (tall 0) (tall 1) g ⊠ from_0< ρ (var 11) h.up'
      ⊞ scaled (from-≡ ρ (var 8 ⊗ var 11) (var 10 ⊗ var 9) (≤ℤ_antisym (test-le _ _ h.low) (test-le _ _ h.high))) (east 0 ⊖ east 1))
      (var 11 ⊗ north 0 ⊖ var 10 ⊗ east 0) (var 11 ⊗ north 1 ⊖ var 10 ⊗ east 1) refl
    where
      ρ : List ℤ
      ρ = both l r

  at_most_carried : (k : Slope) → slope_le k J ≡ true → slope_le k K ≡ true
  unfolding slope_le
  at_most_carried k g =
      le_test
      (cancel-≤ (from_0< ρ (var 1) h.up)
      (from-≤ ρ (var 4 ⊗ var 1) (var 0 ⊗ var 5) (test-le _ _ g) ⊠ from_0< ρ (var 3) h.up'
      ⊞ scaled (from-≡ ρ (var 0 ⊗ var 3) (var 2 ⊗ var 1) (≤ℤ_antisym (test-le _ _ h.low) (test-le _ _ h.high))) (var 5))
      (var 4 ⊗ var 3) (var 2 ⊗ var 5) refl)
    where
      ρ : List ℤ
      ρ = three J K k

  at_least_carried : (k : Slope) → slope_le J k ≡ true → slope_le K k ≡ true
  unfolding slope_le
  at_least_carried k g =
      le_test
      (cancel-≤ (from_0< ρ (var 1) h.up)
      (from-≤ ρ (var 0 ⊗ var 5) (var 4 ⊗ var 1) (test-le _ _ g) ⊠ from_0< ρ (var 3) h.up'
      ⊞ scaled (from-≡ ρ (var 2 ⊗ var 1) (var 0 ⊗ var 3) (≤ℤ_antisym (test-le _ _ h.high) (test-le _ _ h.low))) (var 5))
      (var 2 ⊗ var 5) (var 4 ⊗ var 3) refl)
    where
      ρ : List ℤ
      ρ = three J K k

module _ {J K : Slope} (h : SameSlope J K) where
  pub same_heights_le : (l r : Stream) → le_z (height J l) (height J r) ≡ le_z (height K l) (height K r)
  same_heights_le l r =
      same-le (height J l) (height J r) (height K l) (height K r) (heights_carried J K h l r) (heights_carried K J (turned-slope h) l r)

  pub same_heights_lt : (l r : Stream) → lt_z (height J l) (height J r) ≡ lt_z (height K l) (height K r)
  same_heights_lt l r = same-lt (height J l) (height J r) (height K l) (height K r) (same_heights_le r l)

  pub same-at-most : (k : Slope) → slope_le k J ≡ slope_le k K
  same-at-most k = same_true (slope_le k J) (slope_le k K) (at_most_carried J K h k) (at_most_carried K J (turned-slope h) k)

  pub same_at_least : (k : Slope) → slope_le J k ≡ slope_le K k
  same_at_least k = same_true (slope_le J k) (slope_le K k) (at_least_carried J K h k) (at_least_carried K J (turned-slope h) k)
