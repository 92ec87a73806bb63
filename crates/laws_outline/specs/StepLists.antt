-- The lists of a chain step: the left list of the bridge (i, j) has the chain up to i, the right list the chain from j on, and so the chain of a list is
-- that of its left list and that of its right list, one after the other. The first list has the chain of all samples.
-- Assumes nothing.
use Rattle.std.specs.Prelude.{◌≡◌, refl, ◌≢◌, ◌⊎◌, Bool, ◌≤◌, ◌<◌, ℤ, ◌≤ℤ◌, ◌<ℤ◌}
use Rattle.std.proofs.Common.{sym, ap, ap₂, ◌∙◌, subst, inl, inr, ⊎_elim, arith}
use Rattle.std.proofs.Math.Bool.{◌&&◌}
use mathlib.Core.List.Memᴰ
use mathlib.Core.List.{List, [], ◌∷◌, ◌++◌, append_assoc, Memᴰ}
use Rattle.std.specs.Int.Signed.{lt_z, ≤ℤ_refl, clash_ℤ}
use Rattle.std.proofs.Math.ListN.{length}
use Rattle.whole.specs.Laws.{≤ℤ-<ℤ_trans, <ℤ_trans, ≤ℤ_antisym, ≤ℤ_of-≡, ≤ℤ_split, <ℤ→≤ℤ, lt_test, nlt_test, test-lt}
use Rattle.rules.specs.Lists.{those}
use Rattle.rules.specs.Streams.{Stream}
use Rattle.rules.specs.Chain.{Samples, Of, LeftEnd, RightEnd, Edge, Turn, Goes, stop, on, UpperChain, starts, upper}
use Rattle.rules.specs.Bridge.{bridge}
use Rattle.rules.specs.Step.{left_list, right_list, first_list}
use Rattle.laws_outline.specs.ListLaws.{those_in, in_those, those_fewer, those_shorter, both_yes, yes_both}
use Rattle.laws_outline.specs.SamePosition.{streams_equal}
use Rattle.laws_outline.specs.Sidedness.{below-at-first, below-at-second}
use Rattle.laws_outline.specs.Under.{Under, on_self, under-at-east}
use Rattle.laws_outline.specs.Chains.{upper_is, upper_only, upper_along, goes_east}
use Rattle.laws_outline.specs.SameOutline.{upper_inside, same-samples}
use Rattle.laws_outline.specs.Bridges.{BridgeOver, EdgeOver, edge-over-is, is-bridge}

-- ---- a set of samples up to i, and from j on

abbrev pub UpTo : Samples → Stream → Samples
UpTo S i s = (s ≡ i) ⊎ (S s × (s.east <ℤ i.east))

abbrev pub FromOn : Samples → Stream → Samples
FromOn S j s = (s ≡ j) ⊎ (S s × (j.east <ℤ s.east))

pub up_to_given : (S : Samples) {i : Stream} → S i → (s : Stream) → UpTo S i s → S s
up_to_given S h s (inl e) = subst S (sym e) h
up_to_given S h s (inr m) = m.0

pub from_on_given : (S : Samples) {j : Stream} → S j → (s : Stream) → FromOn S j s → S s
from_on_given S h s (inl e) = subst S (sym e) h
from_on_given S h s (inr m) = m.0

-- i is the right end of the first, j the left end of the second
pub up_to_right_end : {S : Samples} {i : Stream} → RightEnd (UpTo S i) i
up_to_right_end {S} {i} = record { given = inl refl; most = most; greatest = greatest }
  where
    most : (s : Stream) → UpTo S i s → s.east ≤ℤ i.east
    most s (inl e) = ≤ℤ_of-≡ (ap (λ (t : Stream). t.east) e)
    most s (inr m) = <ℤ→≤ℤ m.1

    greatest : (s : Stream) → UpTo S i s → s.east ≡ i.east → s.north ≤ℤ i.north
    greatest s (inl e) l = ≤ℤ_of-≡ (ap (λ (t : Stream). t.north) e)
    greatest s (inr m) l = clash_ℤ m.1 (≤ℤ_of-≡ (sym l))

pub from_on_left_end : {S : Samples} {j : Stream} → LeftEnd (FromOn S j) j
from_on_left_end {S} {j} = record { given = inl refl; least = least; greatest = greatest }
  where
    least : (s : Stream) → FromOn S j s → j.east ≤ℤ s.east
    least s (inl e) = ≤ℤ_of-≡ (ap (λ (t : Stream). t.east) (sym e))
    least s (inr m) = <ℤ→≤ℤ m.1

    greatest : (s : Stream) → FromOn S j s → s.east ≡ j.east → s.north ≤ℤ j.north
    greatest s (inl e) l = ≤ℤ_of-≡ (ap (λ (t : Stream). t.north) e)
    greatest s (inr m) l = clash_ℤ m.1 (≤ℤ_of-≡ l)

-- ends and edges stay where samples other than theirs are taken away
fewer_left_end : {S T : Samples} {p : Stream} → ((s : Stream) → T s → S s) → T p → LeftEnd S p → LeftEnd T p
fewer_left_end f m h = record { given = m; least = λ s n. h.least s (f s n); greatest = λ s n. h.greatest s (f s n) }

fewer_right_end : {S T : Samples} {p : Stream} → ((s : Stream) → T s → S s) → T p → RightEnd S p → RightEnd T p
fewer_right_end f m h = record { given = m; most = λ s n. h.most s (f s n); greatest = λ s n. h.greatest s (f s n) }

fewer_edge : {S T : Samples} {p q : Stream} → ((s : Stream) → T s → S s) → T p → T q → Edge S p q → Edge T p q
fewer_edge f m n e = record { from = m; to = n; ahead = e.ahead; below = λ s k. e.below s (f s k) }

-- ---- the chain up to i

turn-cut : (p q i : Stream) (P Q : List Stream) → Turn p q (P ++ (i ∷ Q)) → Turn p q (P ++ (i ∷ []))
turn-cut p q i [] Q t = t
turn-cut p q i (r ∷ P) Q t = t

module _ (S : Samples) (i : Stream) (si : S i) where
  goes_up_to : {p : Stream} (P Q : List Stream) → UpTo S i p → Goes S p (P ++ (i ∷ Q)) → Goes (UpTo S i) p (P ++ (i ∷ []))
  goes_up_to [] Q m (on e t g) = on (fewer_edge (up_to_given S si) m (inl refl) e) tt (stop up_to_right_end)
  goes_up_to (r ∷ P) Q m (on {p} e t g) = on (fewer_edge (up_to_given S si) m n e) (turn-cut p r i P Q t) (goes_up_to P Q n g)
    where
      n : UpTo S i r
      n = inr (e.to, goes_east g i (Memᴰ.append_right P (Memᴰ.head refl)))

  chain-up-to : (P Q : List Stream) → UpperChain S (P ++ (i ∷ Q)) → UpperChain (UpTo S i) (P ++ (i ∷ []))
  chain-up-to [] Q (starts h g) = starts (fewer_left_end (up_to_given S si) (inl refl) h) (stop up_to_right_end)
  chain-up-to (p ∷ P) Q (starts h g) = starts (fewer_left_end (up_to_given S si) m h) (goes_up_to P Q m g)
    where
      m : UpTo S i p
      m = inr (h.given, goes_east g i (Memᴰ.append_right P (Memᴰ.head refl)))

-- ---- the chain from j on

module _ (S : Samples) (j : Stream) (sj : S j) where
  goes_from_on : {p : Stream} {Q : List Stream} → j.east ≤ℤ p.east → FromOn S j p → Goes S p Q → Goes (FromOn S j) p Q
  goes_from_on l m (stop h) = stop (fewer_right_end (from_on_given S sj) m h)
  goes_from_on {p} l m (on {q} e t g) = on (fewer_edge (from_on_given S sj) m n e) t (goes_from_on (<ℤ→≤ℤ k) n g)
    where
      k : j.east <ℤ q.east
      k = ≤ℤ-<ℤ_trans l e.ahead

      n : FromOn S j q
      n = inr (e.to, k)

  chain_from_on : (P : List Stream) {Q : List Stream} → UpperChain S (P ++ (j ∷ Q)) → UpperChain (FromOn S j) (j ∷ Q)
  chain_from_on P h = starts from_on_left_end (goes_from_on (≤ℤ_refl j.east) (inl refl) (upper_along P h))

-- ---- the left list and the right list

left-test : Stream → Stream → Bool
left-test i s = lt_z s.east i.east

right_test : Stream → Stream → Bool
right_test j s = lt_z j.east s.east

pub left-list-is : (i : Stream) (l : List Stream) (s : Stream) → Memᴰ s (left_list i l) → UpTo (Of l) i s
unfolding left_list left-test
left-list-is i l s m = ⊎_elim inl (λ n. let t = those_in (left-test i) l n in inr (t.0, test-lt s.east i.east t.1)) (Memᴰ.cases_cons m)

pub is-left-list : (i : Stream) (l : List Stream) (s : Stream) → UpTo (Of l) i s → Memᴰ s (left_list i l)
unfolding left_list left-test
is-left-list i l s (inl e) = Memᴰ.head e
is-left-list i l s (inr m) = Memᴰ.tail (in_those (left-test i) m.0 (lt_test m.1))

pub right_list_is : (j : Stream) (l : List Stream) (s : Stream) → Memᴰ s (right_list j l) → FromOn (Of l) j s
unfolding right_list right_test
right_list_is j l s m =
    ⊎_elim inl (λ n. let t = those_in (right_test j) l n in inr (t.0, test-lt j.east s.east t.1)) (Memᴰ.cases_cons m)

pub is_right_list : (j : Stream) (l : List Stream) (s : Stream) → FromOn (Of l) j s → Memᴰ s (right_list j l)
unfolding right_list right_test
is_right_list j l s (inl e) = Memᴰ.head e
is_right_list j l s (inr m) = Memᴰ.tail (in_those (right_test j) m.0 (lt_test m.1))

-- the chain of a list splits at its bridge, and its halves are the chains of the two lists
pub record Splits (l : List Stream) (i j : Stream) : Type 0 where
  pub before : List Stream
  pub after : List Stream
  pub whole : upper l ≡ before ++ (i ∷ j ∷ after)
  pub left : upper (left_list i l) ≡ before ++ (i ∷ [])
  pub right : upper (right_list j l) ≡ j ∷ after

pub bridge_splits : (l : List Stream) {a : ℤ} {i j : Stream} → BridgeOver (Of l) a i j → Splits l i j
unfolding bridge
bridge_splits l {a} {i} {j} b = record { before = P; after = Q; whole = o.splits; left = upper_only left; right = upper_only right }
  where
    o : EdgeOver a (upper l) i j
    o = edge-over-is a (upper l) (is-bridge l b)

    P : List Stream
    P = o.before

    Q : List Stream
    Q = o.after

    chain : UpperChain (Of l) (P ++ (i ∷ j ∷ Q))
    chain = subst (UpperChain (Of l)) o.splits (upper_is l)

    left : UpperChain (Of (left_list i l)) (P ++ (i ∷ []))
    left = same-samples (is-left-list i l) (left-list-is i l) (chain-up-to (Of l) i b.from P (j ∷ Q) chain)

    right : UpperChain (Of (right_list j l)) (j ∷ Q)
    right =
        same-samples (is_right_list j l) (right_list_is j l) (chain_from_on (Of l) j b.to (P ++ (i ∷ []))
        (subst (UpperChain (Of l)) (sym (append_assoc P (i ∷ []) (j ∷ Q))) chain))

-- THE LAW: the chain of the left list, then that of the right list
pub step-chain : (l : List Stream) {a : ℤ} {i j : Stream} → BridgeOver (Of l) a i j → upper l ≡ upper (left_list i l) ++ upper (right_list j l)
step-chain l {i = i} {j = j} b =
    let s = bridge_splits l b in s.whole ∙ sym (append_assoc s.before (i ∷ []) (j ∷ s.after)) ∙ sym (ap₂ ◌++◌ s.left s.right)

-- ---- the ends of the two lists

-- the bridge's ends have nothing above them at their east
pub bridge-left-greatest : {S : Samples} {a : ℤ} {i j : Stream} → BridgeOver S a i j → (s : Stream) → S s → s.east ≡ i.east → s.north ≤ℤ i.north
bridge-left-greatest {i = i} {j = j} b s m e = below-at-first i j s (≤ℤ-<ℤ_trans b.left b.right) e (b.below s m)

pub bridge_right_greatest : {S : Samples} {a : ℤ} {i j : Stream} → BridgeOver S a i j → (s : Stream) → S s → s.east ≡ j.east → s.north ≤ℤ j.north
bridge_right_greatest {i = i} {j = j} b s m e = below-at-second i j s (≤ℤ-<ℤ_trans b.left b.right) e (b.below s m)

-- ends at one position: the chain is that position
pub one-corner : {xs : List Stream} {p : Stream} → LeftEnd (Of xs) p → RightEnd (Of xs) p → upper xs ≡ p ∷ []
one-corner h k = upper_only (starts h (stop k))

-- an outer end that is not the bridge's end stays the end
pub left_end_before : {S : Samples} {a : ℤ} {p i j : Stream} → LeftEnd S p → BridgeOver S a i j → p ≢ i → p.east <ℤ i.east
left_end_before {p} {i} h b f =
    ⊎_elim (λ l. l) (λ e. absurd (f (streams_equal e (≤ℤ_antisym (bridge-left-greatest b p h.given e) (h.greatest i b.from (sym e))))))
    (≤ℤ_split (h.least i b.from))

pub right_end_after : {S : Samples} {a : ℤ} {q i j : Stream} → RightEnd S q → BridgeOver S a i j → j ≢ q → j.east <ℤ q.east
right_end_after {q} {j = j} h b f =
    ⊎_elim (λ l. l) (λ e. absurd (f (streams_equal e (≤ℤ_antisym (h.greatest j b.to e) (bridge_right_greatest b q h.given (sym e))))))
    (≤ℤ_split (h.most j b.to))

module _ (l : List Stream) {a : ℤ} {i j : Stream} (b : BridgeOver (Of l) a i j) where
  pub left-list-left-end : {p : Stream} → LeftEnd (Of l) p → p ≢ i → LeftEnd (Of (left_list i l)) p
  left-list-left-end {p} h f =
      fewer_left_end (λ s m. up_to_given (Of l) b.from s (left-list-is i l s m)) (is-left-list i l p (inr (h.given, left_end_before h b f))) h

  pub left_list_right_end : RightEnd (Of (left_list i l)) i
  left_list_right_end = fewer_right_end (left-list-is i l) (is-left-list i l i (inl refl)) up_to_right_end

  pub right_list_left_end : LeftEnd (Of (right_list j l)) j
  right_list_left_end = fewer_left_end (right_list_is j l) (is_right_list j l j (inl refl)) from_on_left_end

  pub right_list_right_end : {q : Stream} → RightEnd (Of l) q → j ≢ q → RightEnd (Of (right_list j l)) q
  right_list_right_end {q} h f =
      fewer_right_end (λ s m. from_on_given (Of l) b.to s (right_list_is j l s m)) (is_right_list j l q (inr (h.given, right_end_after h b f))) h

  -- a side whose outer end is reached has that end alone for its chain
  pub left_list_alone : LeftEnd (Of l) i → upper (left_list i l) ≡ i ∷ []
  left_list_alone h =
      one-corner (fewer_left_end (λ s m. up_to_given (Of l) b.from s (left-list-is i l s m)) (is-left-list i l i (inl refl)) h) left_list_right_end

  pub right_list_alone : RightEnd (Of l) j → upper (right_list j l) ≡ j ∷ []
  right_list_alone h =
      one-corner right_list_left_end (fewer_right_end (λ s m. from_on_given (Of l) b.to s (right_list_is j l s m))
      (is_right_list j l j (inl refl)) h)

  -- both lists are shorter
  pub left_list_shorter : length (left_list i l) < length l
  unfolding left_list left-test
  left_list_shorter = omega (arith, fewer, those_shorter (left-test j) b.to (nlt_test (≤ℤ_refl j.east)))
    where
      ij : i.east <ℤ j.east
      ij = ≤ℤ-<ℤ_trans b.left b.right

      fewer : length (those (left-test i) l) < length (those (left-test j) l)
      fewer =
          those_fewer (left-test i) (left-test j) (λ s t. lt_test (<ℤ_trans (test-lt s.east i.east t) ij)) b.from
          (nlt_test (≤ℤ_refl i.east)) (lt_test ij)

  pub right_list_shorter : length (right_list j l) < length l
  unfolding right_list right_test
  right_list_shorter = omega (arith, fewer, those_shorter (right_test i) b.from (nlt_test (≤ℤ_refl i.east)))
    where
      ij : i.east <ℤ j.east
      ij = ≤ℤ-<ℤ_trans b.left b.right

      fewer : length (those (right_test j) l) < length (those (right_test i) l)
      fewer =
          those_fewer (right_test j) (right_test i) (λ s t. lt_test (<ℤ_trans ij (test-lt j.east s.east t))) b.to
          (nlt_test (≤ℤ_refl j.east)) (lt_test ij)

-- ---- the first list

-- ends at two positions stand at two easts
pub ends-apart : {S : Samples} {p q : Stream} → LeftEnd S p → RightEnd S q → p ≢ q → p.east <ℤ q.east
ends-apart {p} {q} h k f =
    ⊎_elim (λ l. l) (λ e. absurd (f (streams_equal e (≤ℤ_antisym (k.greatest p h.given e) (h.greatest q k.given (sym e))))))
    (≤ℤ_split (h.least q k.given))

between-test : Stream → Stream → Stream → Bool
between-test p q s = lt_z p.east s.east && lt_z s.east q.east

abbrev pub Between : Samples → Stream → Stream → Samples
Between S p q s = (s ≡ p) ⊎ ((s ≡ q) ⊎ (S s × (p.east <ℤ s.east) × (s.east <ℤ q.east)))

pub first-list-is : (p q : Stream) (xs : List Stream) (s : Stream) → Memᴰ s (first_list p q xs) → Between (Of xs) p q s
unfolding first_list between-test
first-list-is p q xs s m = ⊎_elim inl (λ n. inr (⊎_elim inl (λ k. inr (inner k)) (Memᴰ.cases_cons n))) (Memᴰ.cases_cons m)
  where
    inner : Memᴰ s (those (between-test p q) xs) → Memᴰ s xs × (p.east <ℤ s.east) × (s.east <ℤ q.east)
    inner k =
        let t = those_in (between-test p q) xs k in
        let u = both_yes (lt_z p.east s.east) (lt_z s.east q.east) t.1 in
        (t.0, test-lt p.east s.east u.0, test-lt s.east q.east u.1)

pub is-first-list : (p q : Stream) (xs : List Stream) (s : Stream) → Between (Of xs) p q s → Memᴰ s (first_list p q xs)
unfolding first_list between-test
is-first-list p q xs s (inl e) = Memᴰ.head e
is-first-list p q xs s (inr (inl e)) = Memᴰ.tail (Memᴰ.head e)
is-first-list p q xs s (inr (inr m)) =
    Memᴰ.tail (Memᴰ.tail (in_those (between-test p q) m.0 (yes_both (lt_test m.1) (lt_test m.2))))

module _ {xs : List Stream} {p q : Stream} (h : LeftEnd (Of xs) p) (k : RightEnd (Of xs) q) where
  pub first_list_inside : (s : Stream) → Memᴰ s (first_list p q xs) → Memᴰ s xs
  first_list_inside s m = ⊎_elim (λ e. Memᴰ.cast e h.given) (λ n. ⊎_elim (λ e. Memᴰ.cast e k.given) (λ n. n.0) n) (first-list-is p q xs s m)

  pub first-list-left-end : LeftEnd (Of (first_list p q xs)) p
  first-list-left-end = fewer_left_end first_list_inside (is-first-list p q xs p (inl refl)) h

  pub first_list_right_end : RightEnd (Of (first_list p q xs)) q
  first_list_right_end = fewer_right_end first_list_inside (is-first-list p q xs q (inr (inl refl))) k

  -- a sample left out stands at the east of an end
  pub first-list-under : (s : Stream) → Memᴰ s xs → Under (Of (first_list p q xs)) s
  first-list-under s m =
      ⊎_elim (λ l. ⊎_elim (λ r. on_self (is-first-list p q xs s (inr (inr (m, l, r)))))
      (λ e. under-at-east (is-first-list p q xs q (inr (inl refl))) e (k.greatest s m e)) (≤ℤ_split (k.most s m)))
      (λ e. under-at-east (is-first-list p q xs p (inl refl)) (sym e) (h.greatest s m (sym e))) (≤ℤ_split (h.least s m))

  -- THE LAW: the first list has the chain of all samples
  pub first-list-chain : upper (first_list p q xs) ≡ upper xs
  first-list-chain = upper_inside first_list_inside first-list-under

  pub first-list-length : p.east <ℤ q.east → length (first_list p q xs) ≤ length xs
  unfolding first_list between-test right_test
  first-list-length pq = omega (arith, fewer, those_shorter (right_test p) h.given (nlt_test (≤ℤ_refl p.east)))
    where
      fewer : length (those (between-test p q) xs) < length (those (right_test p) xs)
      fewer =
          those_fewer (between-test p q) (right_test p) (λ s t. (both_yes (lt_z p.east s.east) (lt_z s.east q.east) t).0) k.given
          (ap₂ ◌&&◌ (lt_test pq) (nlt_test (≤ℤ_refl q.east))) (lt_test pq)
