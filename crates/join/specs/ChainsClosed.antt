-- Both chains in one list of places, the upper one's at its front and the lower one's, which were made in the part behind them: they close to the join of
-- both rings. Assumes nothing.
use Rattle.std.specs.Prelude.{◌≡◌, refl, ◌⊎◌, true, false, List, ◌++◌, ℕ, zero, suc, ◌+◌, ◌-◌, ◌≤◌, ◌<◌, ℤ, length, take, drop, get_or}
use Rattle.std.proofs.Common.{sym, ap, ◌∙◌, subst, inl, inr, arith, length-append, length-drop, length-take-le, get_or-take, get_or-append-add}
use Rattle.std.proofs.Math.Decide.{dec_lt}
use Rattle.std.proofs.Math.ListN.{get_or-append}
use borrow.Rule.Slice.PartMut.{put_mid, post_of}
use Rattle.rules.specs.Streams.{Stream, streams, sample, mirrored}
use Rattle.rules.specs.Chain.{UpperChain, empty, starts}
use Rattle.rules.specs.Ring.{closed}
use Rattle.rules.specs.Use.{join}
use Rattle.laws_stack.specs.Places.{listed, listed-alike}
use Rattle.laws_stack.specs.Stack.{Upto}
use Rattle.laws_stack.specs.ClosedPlaces.{chains_ring}
use Rattle.walk.specs.declared.draw.Way.{Way}
use Rattle.walk.specs.TwoRings.{Corners, both, count, corner_at, listed_at, Stand}
use Rattle.walk.specs.Ways.{Chained}
use Rattle.closing.specs.TwoChains.{Both, upper_at, lower_at}
use Rattle.walk.specs.Places.{both-length}

-- the part behind the first u items
pub behind-length : (u : ℕ) (v : List ℕ) → length (take (length v - u) (drop u v)) ≡ length v - u
behind-length u v = length-take-le (length v - u) (drop u v) (omega (arith, length-drop u v))

-- ---- a list with ys put behind its first u items

module _ (u k : ℕ) (v ys : List ℕ) (room : u ≤ length v) where
  front_length : length (take u v) ≡ u
  front_length = length-take-le u v room

  put_front : (i : ℕ) → i < u → get_or (put_mid u k v ys) i 0 ≡ get_or v i 0
  put_front i l = get_or-append (take u v) (ys ++ post_of u k v) 0 i (omega (arith, front_length)) ∙ get_or-take u v i 0 l

  put-behind : (i : ℕ) → i < length ys → get_or (put_mid u k v ys) (u + i) 0 ≡ get_or ys i 0
  put-behind i l =
      ap (λ (m : ℕ). get_or (put_mid u k v ys) (m + i) 0) (sym front_length) ∙ get_or-append-add (take u v) (ys ++ post_of u k v) i 0
      ∙ get_or-append ys (post_of u k v) 0 i l

-- ---- both chains

-- no chain without a corner where there are samples
chain_some : {P : ℕ → Stream} {n : ℕ} (f : ℕ → Stream) (r : ℕ) → UpperChain (Upto P n) (listed f r) → 0 < n → 0 < r
chain_some {P} f zero (empty none) h = absurd (none (P 0) (0, h, refl))
chain_some f (suc r) c h = omega arith

-- and none with one where there are none
chain_none : {P : ℕ → Stream} {n : ℕ} (f : ℕ → Stream) (r : ℕ) → UpperChain (Upto P n) (listed f r) → ¬ (0 < n) → r ≡ 0
chain_none f zero c h = refl
chain_none f (suc r) (starts l g) h = absurd (h (let p = l.given.1 in omega arith))

module _ {es ns fs ms : List ℤ} {p q p' q' : Way} {v ys : List ℕ} {u l : ℕ} (k : ℕ) (a : Chained es ns fs ms false p q v u) (b : Chained es ns fs ms true p' q' ys l) where
  below_both : (i : ℕ) → i < u + l → Dec (i < u) → get_or (put_mid u k v ys) i 0 < count es fs
  below_both i h (yes p) = rw (put_front u k v ys a.stand.room i p) (a.stand.below i p)
  below_both i h (no p) =
      let e : i ≡ u + (i - u) = omega arith in
      let room : l ≤ length ys = b.stand.room in
      subst (λ (m : ℕ). get_or (put_mid u k v ys) m 0 < count es fs) (sym e)
      (rw (put-behind u k v ys a.stand.room (i - u) (omega arith)) (b.stand.below (i - u) (omega arith)))

  stand_both : Stand (count es fs) (put_mid u k v ys) (u + l)
  stand_both = record {
    room = omega
        (arith, length-append (take u v) (ys ++ post_of u k v), length-append ys (post_of u k v), front_length u k v ys a.stand.room, b.stand.room);
    below = λ i h. below_both i h (dec_lt i u);
  }

  some_both : Dec (0 < count es fs) → (0 < u) ⊎ (l ≡ 0)
  some_both (yes h) = inl (chain_some (listed_at es ns fs ms false v) u a.chain h)
  some_both (no h) = inr (chain_none (listed_at es ns fs ms true ys) l b.chain h)

  pub chained_both : Both (count es fs) (put_mid u k v ys) u l
  chained_both = record { stand = stand_both; some = some_both (dec_lt 0 (count es fs)) }

  upper-same : listed (listed_at es ns fs ms false v) u ≡ listed (upper_at es ns fs ms (put_mid u k v ys) u) u
  upper-same = listed-alike (listed_at es ns fs ms false v) (upper_at es ns fs ms (put_mid u k v ys) u) u
      (λ i h. ap (corner_at es ns fs ms false) (sym (put_front u k v ys a.stand.room i h)))

  lower-same : listed (listed_at es ns fs ms true ys) l ≡ listed (λ i. mirrored (lower_at es ns fs ms (put_mid u k v ys) u i)) l
  lower-same = listed-alike (listed_at es ns fs ms true ys) (λ i. mirrored (lower_at es ns fs ms (put_mid u k v ys) u i)) l
      (λ i h. let room : l ≤ length ys = b.stand.room in ap (corner_at es ns fs ms true) (sym (put-behind u k v ys a.stand.room i (omega arith))))

  pub chained_ring : Corners es ns fs ms → join (streams es ns) (streams fs ms)
      ≡ closed (listed (upper_at es ns fs ms (put_mid u k v ys) u) u) (listed (lower_at es ns fs ms (put_mid u k v ys) u) l)
  unfolding join
  chained_ring r = chains_ring (both es ns fs ms) (upper_at es ns fs ms (put_mid u k v ys) u) u (lower_at es ns fs ms (put_mid u k v ys) u) l
      (rw (both-length r) (subst (UpperChain (Upto (sample (both es ns fs ms)) (count es fs))) upper-same a.chain))
      (rw (both-length r) (subst (UpperChain (Upto (λ j. mirrored (sample (both es ns fs ms) j)) (count es fs))) lower-same b.chain))
