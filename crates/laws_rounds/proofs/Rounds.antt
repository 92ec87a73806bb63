-- What a round says, for any K whose run is above zero, and what the rounds come to: a bridge found is the bridge over a of the listed samples, its
-- ends the first items of the list at their positions; a list kept has the same bridge, and the same first items at its ends. A round that takes the
-- middle slope drops an item of at least half of its pairs, so the rounds end.
-- Assumes nothing.
use Rattle.std.specs.Prelude.{◌≡◌, ◌≢◌, ◌⊎◌, Bool, false, cond, ◌&&◌, ℤ, ◌<ℤ◌}
use Rattle.std.proofs.Math.Path.{refl}
use Rattle.std.proofs.Common.{sym, ap, ◌∙◌, subst, subst₂, inl, inr, ⊎_elim}
use Rattle.std.proofs.Math.Bool.{true}
use Rattle.std.proofs.Math.Option.{some}
use mathlib.Core.List.Memᴰ
use mathlib.Core.List.{List, [], ◌∷◌, map, Memᴰ}
use Prim.Native.Nat.{ℕ, zero, suc, ◌+◌, ◌/◌, ◌≤◌, ◌<◌}
use native.Mathlib.Omega.{arith}
use Rattle.std.specs.Int.Signed.{le_z, lt_z}
use Rattle.std.proofs.Math.ListN.{length}
use Rattle.whole.specs.Linear.{order}
use Rattle.whole.specs.Laws.{<ℤ→≤ℤ, lt_test, nlt_test, test-le, test-lt, test_nle}
use Rattle.rules.specs.Lists.{best_from}
use Rattle.rules.specs.Streams.{Stream}
use Rattle.rules.specs.Chain.{Of}
use Rattle.rules.specs.Bridge.{Bridge, ends, bridge, spans}
use Rattle.rules.specs.Round.{Slope, middle_slope, Group, paired, Said, found, kept, Tops, unsought, west, east, slopes, keep, left_of, right_of, left_top, right_top, round_with, round_by, round, rounds}
use Rattle.laws_ranks.specs.Counts.{count}
use Rattle.laws_outline.specs.SamePosition.{no_same, equal_same}
use Rattle.laws_outline.specs.ListLaws.{both_yes, one_no, not-both}
use Rattle.laws_outline.specs.Bridges.{BridgeOver, bridge-is, bridge_unique, spans-is, spans-bridge}
use Rattle.laws_rounds.specs.ListedItems.{first_of}
use Rattle.laws_rounds.specs.Slopes.{Up, MiddleSlope, middle-slope-is}
use Rattle.laws_rounds.specs.Pairs.{Fits, loses, here, slopes-up, tally}
use Rattle.laws_rounds.specs.Tops.{LeftTop, RightTop, left_top_is, right_top_is, tops_bridge, tops_west, tops_east}
use Rattle.laws_rounds.specs.Rounds.{Found, Kept, Says, keep_says, found_bridge, kept_spans, Drops}

module _ {A : Type 0} (at : A → Stream) (a : ℤ) where
  -- ---- a round with any K

  pub round_with_says : (K : Slope) → Up K → (x : A) (l : List A) → Says at a (x ∷ l) (round_with at a K x l)
  unfolding round_with
  round_with_says K up x l = go (le_z (at i).east a && lt_z a (at j).east) refl
    where
      i : A
      i = best_from (left_top at K) x l

      j : A
      j = best_from (right_top at K) x l

      hi : LeftTop at K (x ∷ l) i
      hi = left_top_is at K x l

      hj : RightTop at K (x ∷ l) j
      hj = right_top_is at K x l

      fits : (le_z (at i).east a && lt_z a (at j).east) ≡ false
          → (b : Bool) → le_z (at j).east a ≡ b → (p q : Stream) → BridgeOver (Of (map at (x ∷ l))) a p q → Fits (cond b (west K) (east K)) p q
      fits e true f p q h = (up, tops_west at K up a (x ∷ l) i j hi hj p q h (test-le _ _ f))
      fits e false f p q h =
          let past : a <ℤ (at j).east = test_nle _ _ f in
          let west_no : le_z (at i).east a ≡ false = ⊎_elim (λ g. g) (λ g. not-both (lt_test past) g) (one_no _ _ e) in
          (up, tops_east at K up a (x ∷ l) i j hi hj p q h (test_nle _ _ west_no))

      go : (b : Bool) → (le_z (at i).east a && lt_z a (at j).east) ≡ b
          → Says at a (x ∷ l) (cond b (found (ends i j)) (kept (keep at (cond (le_z (at j).east a) (west K) (east K)) (paired (x ∷ l)))))
      go true e =
          let h = both_yes _ _ e in
          record {
            over = tops_bridge at K up a (x ∷ l) i j hi hj (test-le _ _ h.0) (test-lt _ _ h.1);
            first-left = hi.first;
            first_right = hj.first;
          }
      go false e = keep_says at a (cond (le_z (at j).east a) (west K) (east K)) (x ∷ l) (fits e (le_z (at j).east a) refl)

  -- ---- the round

  -- the middle slope of pairs is the slope of one of them
  middle_of : (gs : List (Group A)) (k : Slope) (ks : List Slope) → slopes at gs ≡ k ∷ ks → MiddleSlope (k ∷ ks) (middle_slope k ks)
  middle_of gs k ks e = middle-slope-is k ks (λ j m. slopes-up at gs j (subst (λ (js : List Slope). Memᴰ j js) (sym e) m))

  middle-up : (gs : List (Group A)) (k : Slope) (ks : List Slope) → slopes at gs ≡ k ∷ ks → Up (middle_slope k ks)
  middle-up gs k ks e =
      let K = middle_slope k ks in
      slopes-up at gs K (subst (λ (js : List Slope). Memᴰ K js) (sym e) (middle_of gs k ks e).given)

  -- two samples on either side of a are the bridge
  module _ (x y : A) (h : spans a (map at (x ∷ y ∷ [])) ≡ true) where
    first-at : first_of (here at (at x)) (x ∷ y ∷ []) ≡ some x
    unfolding first_of
    first-at = rw (equal_same {p = at x} refl)

    second_at : at y ≢ at x → first_of (here at (at y)) (x ∷ y ∷ []) ≡ some y
    unfolding first_of
    second_at f = rw (no_same f, equal_same {p = at y} refl)

    two_say : Found at a (x ∷ y ∷ []) (ends (left_of at x y) (right_of at x y))
    two_say = go (either b.from) (either b.to)
      where
        o : (c : Bridge Stream) × (bridge (map at (x ∷ y ∷ [])) a ≡ some c)
        o = spans-bridge a (map at (x ∷ y ∷ [])) h

        p : Stream
        p = o.0.left

        q : Stream
        q = o.0.right

        b : BridgeOver (Of (map at (x ∷ y ∷ []))) a p q
        b = bridge-is (map at (x ∷ y ∷ [])) a o.1

        ahead : p.east <ℤ q.east
        ahead = let g = b.left in let h = b.right in omega order

        either : {s : Stream} → Memᴰ s (map at (x ∷ y ∷ [])) → (s ≡ at x) ⊎ (s ≡ at y)
        either m = ⊎_elim inl (λ n. inr (Memᴰ.eq_of_singleton n)) (Memᴰ.cases_cons m)

        -- l and r are x and y
        ends_are : (l r : A) → left_of at x y ≡ l → right_of at x y ≡ r → p ≡ at l → q ≡ at r
            → first_of (here at (at l)) (x ∷ y ∷ []) ≡ some l → first_of (here at (at r)) (x ∷ y ∷ []) ≡ some r
            → Found at a (x ∷ y ∷ []) (ends (left_of at x y) (right_of at x y))
        ends_are l r el er ep eq fl fr =
            subst₂
            (λ (i j : A). Found at a (x ∷ y ∷ []) (ends i j))
            (sym el)
            (sym er)
            (record { over = subst₂ (λ (i j : Stream). BridgeOver (Of (map at (x ∷ y ∷ []))) a i j) ep eq b; first-left = fl; first_right = fr })

        one_position : {s : Stream} → p ≡ s → q ≡ s → ⊥
        one_position e f = omega (order, ahead, ap (λ (s : Stream). s.east) (e ∙ sym f))

        go : (p ≡ at x) ⊎ (p ≡ at y) → (q ≡ at x) ⊎ (q ≡ at y) → Found at a (x ∷ y ∷ []) (ends (left_of at x y) (right_of at x y))
        go (inl e) (inl f) = absurd (one_position e f)
        go (inl e) (inr f) =
            let t : lt_z (at x).east (at y).east ≡ true = lt_test (subst₂ (λ (p q : Stream). p.east <ℤ q.east) e f ahead) in
            ends_are x y (rw t) (rw t) e f first-at (second_at (λ g. one_position (e ∙ sym g) f))
        go (inr e) (inl f) =
            let t : lt_z (at x).east (at y).east ≡ false = nlt_test (<ℤ→≤ℤ (subst₂ (λ (p q : Stream). p.east <ℤ q.east) e f ahead)) in
            ends_are y x (rw t) (rw t) e f (second_at (λ g. one_position (e ∙ g) f)) first-at
        go (inr e) (inr f) = absurd (one_position e f)

  pub round_says : (l : List A) → spans a (map at l) ≡ true → Says at a l (round at a l)
  unfolding round keep paired
  round_says [] h = keep_says at a unsought [] (λ p q b. tt)
  round_says (x ∷ []) h = keep_says at a unsought (x ∷ []) (λ p q b. tt)
  round_says (x ∷ y ∷ []) h = two_say x y h
  round_says (x ∷ y ∷ z ∷ l) h = go (slopes at (paired (x ∷ y ∷ z ∷ l))) refl
    where
      go : (ks : List Slope) → slopes at (paired (x ∷ y ∷ z ∷ l)) ≡ ks → Says at a (x ∷ y ∷ z ∷ l) (round_by at a ks x (y ∷ z ∷ l))
      go [] e = keep_says at a unsought (x ∷ y ∷ z ∷ l) (λ p q b. tt)
      go (k ∷ ks) e = round_with_says (middle_slope k ks) (middle-up (paired (x ∷ y ∷ z ∷ l)) k ks e) x (y ∷ z ∷ l)

  -- the laws by what the round answers
  pub found_says : {l : List A} {b : Bridge A} → spans a (map at l) ≡ true → round at a l ≡ found b → Found at a l b
  found_says {l} h e = subst (Says at a l) e (round_says l h)

  pub kept_says : {l m : List A} → spans a (map at l) ≡ true → round at a l ≡ kept m → Kept at a l m
  kept_says {l} h e = subst (Says at a l) e (round_says l h)

  -- ---- dropping

  -- it is enough that half of the pairs with a slope lose an item
  keep_drops : (t : Tops) (l : List A)
      → (length (slopes at (paired l)) + 1) / 2 ≤ count (loses t) (slopes at (paired l))
      → Drops at a (length l) (kept (keep at t (paired l)))
  keep_drops t l h = let c = tally at t l in omega arith

  -- so with the middle slope of the pairs
  pub round_with_drops : (K : Slope) (x : A) (l : List A)
      → MiddleSlope (slopes at (paired (x ∷ l))) K
      → Drops at a (length (x ∷ l)) (round_with at a K x l)
  unfolding round_with
  round_with_drops K x l h = go (le_z (at i).east a && lt_z a (at j).east) (le_z (at j).east a)
    where
      i : A
      i = best_from (left_top at K) x l

      j : A
      j = best_from (right_top at K) x l

      go : (b c : Bool) → Drops at a (length (x ∷ l)) (cond b (found (ends i j)) (kept (keep at (cond c (west K) (east K)) (paired (x ∷ l)))))
      go true c = tt
      go false true = keep_drops (west K) (x ∷ l) h.at_least
      go false false = keep_drops (east K) (x ∷ l) h.at_most

  pub round_drops : (l : List A) → Drops at a (length l) (round at a l)
  unfolding round
  round_drops [] = omega arith
  round_drops (x ∷ []) = omega arith
  round_drops (x ∷ y ∷ []) = tt
  round_drops (x ∷ y ∷ z ∷ l) = go (slopes at (paired (x ∷ y ∷ z ∷ l))) refl
    where
      go : (ks : List Slope) → slopes at (paired (x ∷ y ∷ z ∷ l)) ≡ ks → Drops at a (length (x ∷ y ∷ z ∷ l)) (round_by at a ks x (y ∷ z ∷ l))
      go [] e =
          keep_drops
          unsought
          (x ∷ y ∷ z ∷ l)
          (subst (λ (ks : List Slope). (length ks + 1) / 2 ≤ count (loses unsought) ks) (sym e) (omega arith))
      go (k ∷ ks) e =
          let K = middle_slope k ks in
          round_with_drops
          K
          x
          (y ∷ z ∷ l)
          (subst (λ (js : List Slope). MiddleSlope js K) (sym e) (middle_of (paired (x ∷ y ∷ z ∷ l)) k ks e))

  pub kept_drops : (l m : List A) → round at a l ≡ kept m → length m + (length l / 2 + 1) / 2 ≤ length l
  kept_drops l m e = subst (Drops at a (length l)) e (round_drops l)

  -- a list with samples on either side of a has two at least
  spans-two : (l : List A) → spans a (map at l) ≡ true → 2 ≤ length l
  spans-two [] h = absurd (Memᴰ.not-nil (spans-is a [] h).west_given)
  spans-two (x ∷ []) h =
      let s = spans-is a (at x ∷ []) h in
      let low = s.at_most in
      let high = s.above in
      let one = ap (λ (s : Stream). s.east) (Memᴰ.eq_of_singleton s.west_given) in
      let other = ap (λ (s : Stream). s.east) (Memᴰ.eq_of_singleton s.east_given) in
      absurd (omega order)
  spans-two (x ∷ y ∷ l) h = omega arith

  pub kept_shorter : (l m : List A) → spans a (map at l) ≡ true → round at a l ≡ kept m → length m < length l
  kept_shorter l m h e = omega (arith, kept_drops l m e, spans-two l h)

  -- ---- the rounds

  -- what is found in a list kept is found in the list
  found_before : {l m : List A} {b : Bridge A} → spans a (map at l) ≡ true → Kept at a l m → Found at a m b → Found at a l b
  found_before {l} {m} {b} s k f =
      record {
        over = over;
        first-left = sym (k.first-left (at b.left) (at b.right) over) ∙ f.first-left;
        first_right = sym (k.first_right (at b.left) (at b.right) over) ∙ f.first_right;
      }
    where
      o : (c : Bridge Stream) × (bridge (map at l) a ≡ some c)
      o = spans-bridge a (map at l) s

      over-l : BridgeOver (Of (map at l)) a o.0.left o.0.right
      over-l = bridge-is (map at l) a o.1

      one : (o.0.left ≡ at b.left) × (o.0.right ≡ at b.right)
      one = bridge_unique (k.same-bridge o.0.left o.0.right over-l) f.over

      over : BridgeOver (Of (map at l)) a (at b.left) (at b.right)
      over = subst₂ (λ (p q : Stream). BridgeOver (Of (map at l)) a p q) one.0 one.1 over-l

  -- THE LAW: as many rounds as the list has items, or more, find the bridge over a of its samples, by the first items at its ends
  pub rounds_find : (n : ℕ) (l : List A) → length l ≤ n → spans a (map at l) ≡ true
      → (b : Bridge A) × (rounds at n a (round at a l) ≡ some b) × Found at a l b
  unfolding rounds
  rounds_find zero l h s = absurd (omega (arith, spans-two l s))
  rounds_find (suc n) l h s = go (round at a l) refl (λ m g t. rounds_find n m g t)
    where
      go : (r : Said A) → round at a l ≡ r
          → ((m : List A) → length m ≤ n → spans a (map at m) ≡ true → (b : Bridge A) × (rounds at n a (round at a m) ≡ some b) × Found at a m b)
          → (b : Bridge A) × (rounds at (suc n) a r ≡ some b) × Found at a l b
      go (found b) e f = (b, refl, found_says s e)
      go (kept m) e f =
          let k = kept_says s e in
          let b = f m (omega (arith, kept_shorter l m s e)) (kept_spans at a k s) in
          (b.0, b.1, found_before s k b.2)

  pub rounds-bridge : (n : ℕ) (l : List A) → length l ≤ n → spans a (map at l) ≡ true
      → (b : Bridge A) × (rounds at n a (round at a l) ≡ some b) × (bridge (map at l) a ≡ some (ends (at b.left) (at b.right)))
  rounds-bridge n l h s = let b = rounds_find n l h s in (b.0, b.1, found_bridge at a b.2)
