-- Joining rings: from corners alone a join is the envelope of all streams behind both rings, in any order and grouping, and repeats and empty rings
-- change nothing. Assumes nothing.
use Rattle.std.specs.Prelude.{◌≡◌, refl, ◌↔◌, true}
use Rattle.std.proofs.Common.{sym, ap, ap₂, ◌∙◌, subst, ⊎_elim}
use mathlib.Core.List.Memᴰ
use mathlib.Core.List.{List, [], ◌∷◌, ◌++◌, append-nil, append_assoc, Memᴰ}
use Rattle.rules.specs.Streams.{Stream}
use Rattle.rules.specs.Chain.{Of}
use Rattle.rules.specs.Ring.{ring}
use Rattle.rules.specs.Use.{envelope, join}
use Rattle.laws_outline.specs.Under.{Behind, on_self, on_inside}
use Rattle.laws_outline.specs.SameOutline.{ring_equal, ring_members}
use Rattle.laws_rings.specs.Rings.{ring-sample, AllBehind, ring-behind, behind-ring, envelope-ring, ring-envelope}

-- ---- two lists behind two others, one after the other

both_behind : (xs ys us vs : List Stream) → AllBehind xs us → AllBehind ys vs → AllBehind (xs ++ ys) (us ++ vs)
both_behind xs ys us vs b c s m =
    ⊎_elim
    (λ n. on_inside (λ t. Memᴰ.append_left vs) (b s n))
    (λ n. on_inside (λ t. Memᴰ.append_right us) (c s n))
    (Memᴰ.append_cases xs m)

pub itself_behind : (xs : List Stream) → AllBehind xs xs
itself_behind xs s m = on_self m

pub same-join : (xs ys us vs : List Stream) → AllBehind xs us → AllBehind us xs → AllBehind ys vs → AllBehind vs ys →
    ring (xs ++ ys) ≡ ring (us ++ vs)
same-join xs ys us vs b b' c c' = ring_equal (both_behind xs ys us vs b c) (both_behind us vs xs ys b' c')

-- one stream more changes no ring exactly if it lies behind
pub behind-same-ring : (xs : List Stream) (s : Stream) → Behind (Of xs) s ↔ (ring (xs ++ (s ∷ [])) ≡ ring xs)
behind-same-ring xs s = (
  λ h. ring_equal (with_it h) (λ t m. on_self (Memᴰ.append_left (s ∷ []) m)),
  λ e. on_inside (λ t. ring-sample xs)
      (subst (λ (r : List Stream). Behind (Of r) s) e (behind-ring (xs ++ (s ∷ [])) s (Memᴰ.append_right xs (Memᴰ.head refl)))),
)
  where
    with_it : Behind (Of xs) s → AllBehind (xs ++ (s ∷ [])) xs
    with_it h t m =
        ⊎_elim on_self (λ n. subst (Behind (Of xs)) (sym (Memᴰ.eq_of_singleton n)) h) (Memᴰ.append_cases xs m)

-- from corners alone, the envelope of all streams behind both
pub join_rings : (xs ys : List Stream) → join (ring xs) (ring ys) ≡ ring (xs ++ ys)
unfolding join
join_rings xs ys = same-join (ring xs) (ring ys) xs ys (ring-behind xs) (behind-ring xs) (ring-behind ys) (behind-ring ys)

-- a ring and a list, either way round
join-left : (xs ys : List Stream) → join (ring xs) ys ≡ ring (xs ++ ys)
unfolding join
join-left xs ys = same-join (ring xs) ys xs ys (ring-behind xs) (behind-ring xs) (itself_behind ys) (itself_behind ys)

join_right : (xs ys : List Stream) → join xs (ring ys) ≡ ring (xs ++ ys)
unfolding join
join_right xs ys = same-join xs (ring ys) xs ys (itself_behind xs) (itself_behind xs) (ring-behind ys) (behind-ring ys)

pub join-envelope : (r t : List Stream) → envelope (join r t) ≡ true
unfolding join
join-envelope r t = ring-envelope (r ++ t)

-- ---- order, grouping, repeats, an empty ring

pub join_order : (r t : List Stream) → join r t ≡ join t r
unfolding join
join_order r t = ring_members (λ s. swap r t) (λ s. swap t r)
  where
    swap : (xs ys : List Stream) {s : Stream} → Memᴰ s (xs ++ ys) → Memᴰ s (ys ++ xs)
    swap xs ys m = ⊎_elim (Memᴰ.append_right ys) (Memᴰ.append_left xs) (Memᴰ.append_cases xs m)

pub join_grouping : (r t u : List Stream) → join (join r t) u ≡ join r (join t u)
unfolding join
join_grouping r t u = join-left (r ++ t) u ∙ ap ring (append_assoc r t u) ∙ sym (join_right r (t ++ u))

pub ring_repeats : (xs : List Stream) → ring (xs ++ xs) ≡ ring xs
ring_repeats xs = ring_members (λ s m. ⊎_elim (λ n. n) (λ n. n) (Memᴰ.append_cases xs m)) (λ s. Memᴰ.append_left xs)

pub join_repeats : (r : List Stream) → envelope r ≡ true → join r r ≡ r
unfolding join
join_repeats r e = ring_repeats r ∙ (envelope-ring r).0 e

pub join_empty_left : (r : List Stream) → envelope r ≡ true → join [] r ≡ r
unfolding join
join_empty_left r e = (envelope-ring r).0 e

pub join_empty_right : (r : List Stream) → envelope r ≡ true → join r [] ≡ r
unfolding join
join_empty_right r e = ap ring (append-nil r) ∙ (envelope-ring r).0 e

-- ---- any number of rings, in any order and grouping

-- a tree of joins over the rings of some lists of streams
pub data Joins : Type 0 where
  ring-over : List Stream → Joins
  joined : Joins → Joins → Joins

-- what it gives, joined from corners alone
abbrev pub result : Joins → List Stream
result (ring-over xs) = ring xs
result (joined j k) = join (result j) (result k)

-- all streams behind it
abbrev pub behind : Joins → List Stream
behind (ring-over xs) = xs
behind (joined j k) = behind j ++ behind k

pub joins_ring : (j : Joins) → result j ≡ ring (behind j)
joins_ring (ring-over xs) = refl
joins_ring (joined j k) = ap₂ join (joins_ring j) (joins_ring k) ∙ join_rings (behind j) (behind k)

-- it depends only on which streams occur
pub joins_same : (j k : Joins) → ((s : Stream) → Memᴰ s (behind j) ↔ Memᴰ s (behind k)) → result j ≡ result k
joins_same j k e = joins_ring j ∙ ring_members (λ s. (e s).0) (λ s. (e s).1) ∙ sym (joins_ring k)
