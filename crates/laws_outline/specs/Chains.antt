-- The laws of the upper chain: the computed chain is a chain of its samples, and a set of samples has one chain only.
-- Assumes nothing.
use Rattle.std.specs.Prelude.{◌≡◌, refl, ◌⊎◌, Bool, true, false, ℕ, zero, suc, ◌≤◌, ◌<◌, pos, ◌≤ℤ◌, ◌<ℤ◌, length}
use Rattle.std.proofs.Common.{sym, ap, ap₂, ◌∙◌, subst, inl, inr, ⊎_elim, arith}
use Rattle.std.proofs.Math.Option.{Option, none, some, none-ne-some}
use mathlib.Core.List.Memᴰ
use mathlib.Core.List.{List, [], ◌∷◌, ◌++◌, Memᴰ}
use Rattle.std.specs.Int.Signed.{lt_z, ≤ℤ_refl, <ℤ_irrefl, clash_ℤ}
use Rattle.whole.specs.Linear.{order, negation}
use Rattle.whole.specs.Laws.{≤ℤ_total, <ℤ_trans, ≤ℤ_antisym, ≤ℤ_of-≡, ≤ℤ_split, <ℤ→≤ℤ, lt_test, nlt_test, test-lt}
use Rattle.rules.specs.Lists.{those}
use Rattle.rules.specs.Streams.{Stream, side}
use Rattle.rules.specs.Chain.{Samples, Of, LeftEnd, RightEnd, Edge, Turn, Goes, stop, on, UpperChain, empty, starts, leftmost, rightmost, left_end, right_end, furthest_round, next_corner, corners, upper}
use Rattle.laws_outline.specs.ListLaws.{Ranks, Best, best-is, best_some, those_in, in_those, those_fewer, those_shorter, member_counts, is_no}
use Rattle.laws_outline.specs.TwoKeys.{two_keys_rank, two_keys_yes, two_keys_no, yes_first_key, yes_second_key}
use Rattle.laws_outline.specs.SamePosition.{streams_equal}
use Rattle.laws_outline.specs.Sidedness.{side_crossed, side_of_second, before_turn, before_strict_turn, past_strict_turn, at-first-below, below-at-second, round_strictly, strictly_round, round-level}

-- ---- the ends

pub left_end_unique : {S : Samples} {p q : Stream} → LeftEnd S p → LeftEnd S q → p ≡ q
left_end_unique {p} {q} h k = streams_equal e (≤ℤ_antisym (k.greatest p h.given e) (h.greatest q k.given (sym e)))
  where
    e : p.east ≡ q.east
    e = ≤ℤ_antisym (h.least q k.given) (k.least p h.given)

pub right_end_unique : {S : Samples} {p q : Stream} → RightEnd S p → RightEnd S q → p ≡ q
right_end_unique {p} {q} h k = streams_equal e (≤ℤ_antisym (k.greatest p h.given e) (h.greatest q k.given (sym e)))
  where
    e : p.east ≡ q.east
    e = ≤ℤ_antisym (k.most p h.given) (h.most q k.given)

-- the computed ends are the ends
pub left-end-is : (xs : List Stream) {p : Stream} → left_end xs ≡ some p → LeftEnd (Of xs) p
unfolding left_end leftmost
left-end-is xs {p} h = record { given = b.given; least = λ s m. (says s m).0; greatest = λ s m. (says s m).1 }
  where
    b : Best leftmost xs p
    b = best-is (two_keys_rank true false (λ s. s.east) (λ s. s.north)) xs (λ y m. tt) h

    says : (s : Stream) → Memᴰ s xs → (p.east ≤ℤ s.east) × (s.east ≡ p.east → s.north ≤ℤ p.north)
    says s m = two_keys_no s.east p.east s.east p.east p.north s.north (b.unbeaten s m)

pub right_end_is : (xs : List Stream) {p : Stream} → right_end xs ≡ some p → RightEnd (Of xs) p
unfolding right_end rightmost
right_end_is xs {p} h = record { given = b.given; most = λ s m. (says s m).0; greatest = λ s m. (says s m).1 }
  where
    b : Best rightmost xs p
    b = best-is (two_keys_rank false false (λ s. s.east) (λ s. s.north)) xs (λ y m. tt) h

    says : (s : Stream) → Memᴰ s xs → (s.east ≤ℤ p.east) × (s.east ≡ p.east → s.north ≤ℤ p.north)
    says s m = two_keys_no p.east s.east s.east p.east p.north s.north (b.unbeaten s m)

-- samples have ends
pub left_end_some : {xs : List Stream} {s : Stream} → Memᴰ s xs → (p : Stream) × (left_end xs ≡ some p)
unfolding left_end
left_end_some m = best_some leftmost m

pub right_end_some : {xs : List Stream} {s : Stream} → Memᴰ s xs → (p : Stream) × (right_end xs ≡ some p)
unfolding right_end
right_end_some m = best_some rightmost m

pub is-left-end : {xs : List Stream} {p : Stream} → LeftEnd (Of xs) p → left_end xs ≡ some p
is-left-end {xs} h = let b = left_end_some h.given in b.1 ∙ ap some (left_end_unique (left-end-is xs b.1) h)

pub is_right_end : {xs : List Stream} {p : Stream} → RightEnd (Of xs) p → right_end xs ≡ some p
is_right_end {xs} h = let b = right_end_some h.given in b.1 ∙ ap some (right_end_unique (right_end_is xs b.1) h)

-- ---- the corner after a corner

-- q is the furthest round of the samples further east than p, and the furthest east of those on the line pq
pub record Next (S : Samples) (p q : Stream) : Type 0 where
  pub given : S q
  pub ahead : p.east <ℤ q.east
  pub below : (s : Stream) → S s → p.east <ℤ s.east → side p q s ≤ℤ pos 0
  pub furthest : (s : Stream) → S s → p.east <ℤ s.east → side p q s ≡ pos 0 → s.east ≤ℤ q.east

-- the test orders the streams further east than p
round_ranks : (p : Stream) → Ranks (λ s. p.east <ℤ s.east) (furthest_round p)
unfolding furthest_round
round_ranks p = record { not_itself = itself; in_turn = turn }
  where
    Ahead : Stream → Stream → Type 0
    Ahead x y = (pos 0 <ℤ side p y x) ⊎ ((side p y x ≡ pos 0) × (y.east <ℤ x.east))

    reads : (x y : Stream) → furthest_round p x y ≡ true → Ahead x y
    reads x y e = two_keys_yes (pos 0) (side p y x) (side p y x) (pos 0) y.east x.east e

    gives : (x y : Stream) → Ahead x y → furthest_round p x y ≡ true
    gives x y (inl h) = yes_first_key (side p y x) (pos 0) y.east x.east h
    gives x y (inr h) = yes_second_key (pos 0) (side p y x) h.0 h.1

    not_ahead : (x : Stream) → Ahead x x → ⊥
    not_ahead x (inl h) = clash_ℤ h (≤ℤ_of-≡ (side_of_second p x))
    not_ahead x (inr h) = <ℤ_irrefl h.1

    itself : (x : Stream) → p.east <ℤ x.east → furthest_round p x x ≡ false
    itself x px = is_no (furthest_round p x x) (λ e. not_ahead x (reads x x e))

    follows : (x y z : Stream) → p.east <ℤ x.east → p.east <ℤ y.east → p.east <ℤ z.east → Ahead x y → Ahead y z → Ahead x z
    follows x y z px py pz (inl h) (inl k) = inl (round_strictly p x y z px py pz (<ℤ→≤ℤ h) k)
    follows x y z px py pz (inl h) (inr k) = inl (strictly_round p x y z px py pz h (≤ℤ_of-≡ (sym k.0)))
    follows x y z px py pz (inr h) (inl k) = inl (round_strictly p x y z px py pz (≤ℤ_of-≡ (sym h.0)) k)
    follows x y z px py pz (inr h) (inr k) = inr (round-level p x y z px py pz h.0 k.0, <ℤ_trans k.1 h.1)

    turn : (x y z : Stream) → p.east <ℤ x.east → p.east <ℤ y.east → p.east <ℤ z.east → furthest_round p x y ≡ true → furthest_round p y z ≡ true
        → furthest_round p x z ≡ true
    turn x y z px py pz h k = gives x z (follows x y z px py pz (reads x y h) (reads y z k))

further : Stream → Stream → Bool
further p s = lt_z p.east s.east

next_corner_is : (p : Stream) (xs : List Stream) {q : Stream} → next_corner p xs ≡ some q → Next (Of xs) p q
unfolding next_corner furthest_round further
next_corner_is p xs {q} e =
    record { given = (east_of q b.given).0; ahead = (east_of q b.given).1; below = λ s m h. (says s m h).0; furthest = λ s m h. (says s m h).1 }
  where
    east_of : (s : Stream) → Memᴰ s (those (further p) xs) → Memᴰ s xs × (p.east <ℤ s.east)
    east_of s m = let t = those_in (further p) xs m in (t.0, test-lt p.east s.east t.1)

    b : Best (furthest_round p) (those (further p) xs) q
    b = best-is (round_ranks p) (those (further p) xs) (λ y m. (east_of y m).1) e

    says : (s : Stream) → Memᴰ s xs → p.east <ℤ s.east → (side p q s ≤ℤ pos 0) × (side p q s ≡ pos 0 → s.east ≤ℤ q.east)
    says s m h = two_keys_no (pos 0) (side p q s) (side p q s) (pos 0) q.east s.east (b.unbeaten s (in_those (further p) m (lt_test h)))

no_next_corner : (p : Stream) (xs : List Stream) → next_corner p xs ≡ none → (s : Stream) → Memᴰ s xs → s.east ≤ℤ p.east
unfolding next_corner further
no_next_corner p xs e s m =
    ⊎_elim (λ h. h) (λ h. let b = best_some (furthest_round p) (in_those (further p) m (lt_test h)) in absurd
    (none-ne-some b.0 (sym e ∙ b.1))) (≤ℤ_total s.east p.east)

-- ---- the computed chain

-- p is a corner from which the chain may go on: a sample, none above it at its east, and all that are not further east lie on or below its way on
record Stands (S : Samples) (p : Stream) : Type 0 where
  given : S p
  greatest : (s : Stream) → S s → s.east ≡ p.east → s.north ≤ℤ p.north
  behind : (q : Stream) → p.east <ℤ q.east → S q → (s : Stream) → S s → s.east ≤ℤ p.east → side p q s ≤ℤ pos 0

left_end_stands : {S : Samples} {p : Stream} → LeftEnd S p → Stands S p
left_end_stands {S} {p} h = record { given = h.given; greatest = h.greatest; behind = behind }
  where
    behind : (q : Stream) → p.east <ℤ q.east → S q → (s : Stream) → S s → s.east ≤ℤ p.east → side p q s ≤ℤ pos 0
    behind q pq m s n le = let e = ≤ℤ_antisym le (h.least s n) in at-first-below p q s pq e (h.greatest s n e)

module _ {S : Samples} {p q : Stream} (st : Stands S p) (nx : Next S p q) where
  next_edge : Edge S p q
  next_edge =
      record {
        from = st.given;
        to = nx.given;
        ahead = nx.ahead;
        below = λ s m. ⊎_elim (λ h. st.behind q nx.ahead nx.given s m h) (λ h. nx.below s m h) (≤ℤ_total s.east p.east);
      }

  next_turn : (r : Stream) → S r → q.east <ℤ r.east → side p q r <ℤ pos 0
  next_turn r m h = ⊎_elim (λ l. l) (λ e. clash_ℤ h (nx.furthest r m (<ℤ_trans nx.ahead h) e)) (≤ℤ_split (next_edge.below r m))

  next_stands : Stands S q
  next_stands =
      record {
        given = nx.given;
        greatest = λ s m e. below-at-second p q s nx.ahead e (next_edge.below s m);
        behind = λ r qr m s n le. before_turn p q r s nx.ahead qr (next_edge.below r m) le (next_edge.below s n);
      }

-- no sample is further east
stands_last : {S : Samples} {p : Stream} → Stands S p → ((s : Stream) → S s → s.east ≤ℤ p.east) → RightEnd S p
stands_last st h = record { given = st.given; most = h; greatest = st.greatest }

turn-to : (xs : List Stream) (p q : Stream) → ((r : Stream) → Memᴰ r xs → q.east <ℤ r.east → side p q r <ℤ pos 0) → (n : ℕ) (o : Option Stream)
    → next_corner q xs ≡ o → Turn p q (corners n o xs)
unfolding corners
turn-to xs p q h zero o e = tt
turn-to xs p q h (suc n) none e = tt
turn-to xs p q h (suc n) (some r) e = let nx = next_corner_is q xs e in h r nx.given nx.ahead

-- with room for as many corners as there are samples further east
corners_go : (xs : List Stream) (n : ℕ) (p : Stream) → Stands (Of xs) p → length (those (further p) xs) ≤ n
    → Goes (Of xs) p (corners n (next_corner p xs) xs)
unfolding corners further
corners_go xs zero p st h =
    stop (stands_last st (λ s m. ⊎_elim (λ l. l) (λ l. absurd (far (member_counts (in_those (further p) m (lt_test l)))))
    (≤ℤ_total s.east p.east)))
  where
    far : 0 < length (those (further p) xs) → ⊥
    far l = omega arith
corners_go xs (suc n) p st h = go (next_corner p xs) refl (λ q st' h'. corners_go xs n q st' h')
  where
    go : (o : Option Stream) → next_corner p xs ≡ o
        → ((q : Stream) → Stands (Of xs) q → length (those (further q) xs) ≤ n → Goes (Of xs) q (corners n (next_corner q xs) xs))
        → Goes (Of xs) p (corners (suc n) o xs)
    go none e r = stop (stands_last st (no_next_corner p xs e))
    go (some q) e r = on (next_edge st nx) (turn-to xs p q (next_turn st nx) n (next_corner q xs) refl) (r q (next_stands st nx) fewer)
      where
        nx : Next (Of xs) p q
        nx = next_corner_is p xs e

        less : length (those (further q) xs) < length (those (further p) xs)
        less =
            those_fewer (further q) (further p) (λ s t. lt_test (<ℤ_trans nx.ahead (test-lt q.east s.east t))) nx.given
            (nlt_test (≤ℤ_refl q.east)) (lt_test nx.ahead)

        fewer : length (those (further q) xs) ≤ n
        fewer = omega (arith, less)

-- THE LAW: the computed chain is a chain
pub upper_is : (xs : List Stream) → UpperChain (Of xs) (upper xs)
unfolding upper corners further
upper_is [] = empty (λ s m. Memᴰ.not-nil m)
upper_is (x ∷ xs) = go (left_end (x ∷ xs)) refl
  where
    go : (o : Option Stream) → left_end (x ∷ xs) ≡ o → UpperChain (Of (x ∷ xs)) (corners (suc (length xs)) o (x ∷ xs))
    go none e = let b = left_end_some {xs = x ∷ xs} {s = x} (Memᴰ.head refl) in absurd (none-ne-some b.0 (sym e ∙ b.1))
    go (some p) e =
        starts h (corners_go (x ∷ xs) (length xs) p (left_end_stands h) (omega
        (arith, those_shorter (further p) h.given (nlt_test (≤ℤ_refl p.east)))))
      where
        h : LeftEnd (Of (x ∷ xs)) p
        h = left-end-is (x ∷ xs) e

-- ---- the chain is unique

-- of two edges from p the one that the chain goes on from, or ends with, reaches as far east as the other
nearer : {S : Samples} {p q r : Stream} {C : List Stream} → Edge S p q → Turn p q C → Goes S q C → Edge S p r → r.east ≤ℤ q.east
nearer {p} {q} {r} pq t (stop h) pr = h.most r pr.to
nearer {p} {q} {r} pq t (on {q = z} e u g) pr =
    ⊎_elim (λ h. h) (λ h. absurd (above (past_strict_turn p q z r pq.ahead e.ahead t h (e.below r pr.to)))) (≤ℤ_total r.east q.east)
  where
    above : side p q r <ℤ pos 0 → ⊥
    above h = let k = pr.below q pq.to in let c = side_crossed p q r in omega (order, negation (side p q r))

goes_unique : {S : Samples} {p : Stream} {C D : List Stream} → Goes S p C → Goes S p D → C ≡ D
goes_unique (stop h) (stop k) = refl
goes_unique (stop h) (on {q = q} e t g) = clash_ℤ e.ahead (h.most q e.to)
goes_unique (on {q = q} e t g) (stop h) = clash_ℤ e.ahead (h.most q e.to)
goes_unique {S} (on {p} {q} {C} e t g) (on {q = r} {C = D} f u k) = ap₂ ◌∷◌ qr (goes_unique g (subst (λ (s : Stream). Goes S s D) (sym qr) k))
  where
    level : q.east ≡ r.east
    level = ≤ℤ_antisym (nearer f u k e) (nearer e t g f)

    qr : q ≡ r
    qr =
        streams_equal level (≤ℤ_antisym (below-at-second p r q f.ahead level (f.below q e.to))
        (below-at-second p q r e.ahead (sym level) (e.below r f.to)))

pub upper_unique : {S : Samples} {C D : List Stream} → UpperChain S C → UpperChain S D → C ≡ D
upper_unique (empty f) (empty g) = refl
upper_unique (empty f) (starts {p} h k) = absurd (f p h.given)
upper_unique (starts {p} h k) (empty f) = absurd (f p h.given)
upper_unique {S} (starts {p} {C} h k) (starts {p = q} {C = D} l m) = ap₂ ◌∷◌ e (goes_unique k (subst (λ (s : Stream). Goes S s D) (sym e) m))
  where
    e : p ≡ q
    e = left_end_unique h l

-- a list that is a chain of the samples of xs is the computed one
pub upper_only : {xs C : List Stream} → UpperChain (Of xs) C → upper xs ≡ C
upper_only {xs} h = upper_unique (upper_is xs) h

-- ---- along a chain

pub goes_edge : {S : Samples} {p q : Stream} {C : List Stream} → Goes S p (q ∷ C) → Edge S p q
goes_edge (on e t g) = e

pub goes_turn : {S : Samples} {p q : Stream} {C : List Stream} → Goes S p (q ∷ C) → Turn p q C
goes_turn (on e t g) = t

pub goes_next : {S : Samples} {p q : Stream} {C : List Stream} → Goes S p (q ∷ C) → Goes S q C
goes_next (on e t g) = g

pub goes_last : {S : Samples} {p : Stream} → Goes S p [] → RightEnd S p
goes_last (stop h) = h

-- every corner is a sample, and corners go strictly east
pub goes_given : {S : Samples} {p : Stream} {C : List Stream} → Goes S p C → S p
goes_given (stop h) = h.given
goes_given (on e t g) = e.from

pub goes_corners : {S : Samples} {p : Stream} {C : List Stream} → Goes S p C → (q : Stream) → Memᴰ q (p ∷ C) → S q
goes_corners {S} (stop {p} h) q m = subst S (sym (Memᴰ.eq_of_singleton m)) h.given
goes_corners {S} (on e t g) q m = ⊎_elim (λ h. subst S (sym h) e.from) (λ h. goes_corners g q h) (Memᴰ.cases_cons m)

pub goes_east : {S : Samples} {p : Stream} {C : List Stream} → Goes S p C → (q : Stream) → Memᴰ q C → p.east <ℤ q.east
goes_east (stop h) q m = absurd (Memᴰ.not-nil m)
goes_east (on {p} {q = r} e t g) q m =
    ⊎_elim (λ h. subst (λ (s : Stream). p.east <ℤ s.east) (sym h) e.ahead) (λ h. <ℤ_trans e.ahead (goes_east g q h)) (Memᴰ.cases_cons m)

pub upper-corners : {S : Samples} {C : List Stream} → UpperChain S C → (q : Stream) → Memᴰ q C → S q
upper-corners (empty f) q m = absurd (Memᴰ.not-nil m)
upper-corners (starts h g) q m = goes_corners g q m

-- from any corner on the chain goes on
pub goes_along : {S : Samples} {o p : Stream} (P : List Stream) {Q : List Stream} → Goes S o (P ++ (p ∷ Q)) → Goes S p Q
goes_along [] g = goes_next g
goes_along (q ∷ P) g = goes_along P (goes_next g)

pub upper_along : {S : Samples} {p : Stream} (P : List Stream) {Q : List Stream} → UpperChain S (P ++ (p ∷ Q)) → Goes S p Q
upper_along [] (starts h g) = g
upper_along (q ∷ P) (starts h g) = goes_along P g

pub upper_first : {S : Samples} {p : Stream} {C : List Stream} → UpperChain S (p ∷ C) → LeftEnd S p
upper_first (starts h g) = h

-- every sample is on or below every edge, and the chain turns strictly right at every corner
pub upper-edge : {S : Samples} (P : List Stream) (p q : Stream) (Q : List Stream) → UpperChain S (P ++ (p ∷ q ∷ Q)) → Edge S p q
upper-edge P p q Q h = goes_edge (upper_along P h)

pub upper-turn : {S : Samples} (P : List Stream) (p q r : Stream) (Q : List Stream) → UpperChain S (P ++ (p ∷ q ∷ r ∷ Q)) → side p q r <ℤ pos 0
upper-turn P p q r Q h = goes_turn (upper_along P h)

pub upper-east : {S : Samples} (P : List Stream) (p : Stream) (Q : List Stream) → UpperChain S (P ++ (p ∷ Q)) → (q : Stream) → Memᴰ q Q
    → p.east <ℤ q.east
upper-east P p Q h q m = goes_east (upper_along P h) q m

-- a sample further east than an edge is strictly below its line, and so is one further west
pub past-edge : {S : Samples} {p q : Stream} {C : List Stream} → Goes S p (q ∷ C) → (s : Stream) → S s → q.east <ℤ s.east → side p q s <ℤ pos 0
past-edge (on e t (stop h)) s m l = clash_ℤ l (h.most s m)
past-edge (on {p} {q} e t (on {q = r} f u g)) s m l = past_strict_turn p q r s e.ahead f.ahead t l (f.below s m)

-- all samples west of p are strictly below the way on from p
abbrev pub West : Samples → Stream → List Stream → Type 0
West S p [] = Unit {0}
West S p (q ∷ C) = (s : Stream) → S s → s.east <ℤ p.east → side p q s <ℤ pos 0

pub west_next : {S : Samples} {p q : Stream} {C : List Stream} → Goes S p (q ∷ C) → West S q C
west_next (on e t (stop h)) = tt
west_next (on {p} {q} e t (on {q = r} f u g)) = λ s m l. before_strict_turn p q r s e.ahead f.ahead t l (e.below s m)

pub west_first : {S : Samples} {p : Stream} (C : List Stream) → LeftEnd S p → West S p C
west_first [] h = tt
west_first (q ∷ C) h = λ s m l. clash_ℤ l (h.least s m)

west_along : {S : Samples} {o : Stream} (P : List Stream) (p : Stream) (Q : List Stream) → Goes S o (P ++ (p ∷ Q)) → West S p Q
west_along [] p Q g = west_next g
west_along (q ∷ P) p Q g = west_along P p Q (goes_next g)

pub upper_west : {S : Samples} (P : List Stream) (p : Stream) (Q : List Stream) → UpperChain S (P ++ (p ∷ Q)) → West S p Q
upper_west [] p Q (starts h g) = west_first Q h
upper_west (q ∷ P) p Q (starts h g) = west_along P p Q g
