-- A ring turned about is the same cycle of corners, both signs of each changed, entered at another corner: the one with the greatest east and, among
-- those, the least north. Assumes nothing.
use Rattle.std.specs.Prelude.{◌≡◌, refl, ◌⊎◌, Bool, true, false, neg_ℤ, ◌≤ℤ◌, ◌<ℤ◌, length, take, drop}
use Rattle.std.proofs.Common.{sym, ◌∙◌, inl, inr, ⊎_elim, arith, length-append}
use Rattle.std.proofs.Math.Path.{ap, ap₂}
use Rattle.std.proofs.Math.Bool.{cond}
use Rattle.std.proofs.Math.Option.{some}
use mathlib.Core.List.Memᴰ
use mathlib.Core.List.{List, [], ◌∷◌, ◌++◌, map, reverse, map-append, reverse-reverse, Memᴰ}
use Prim.Native.Nat.{ℕ, zero, suc}
use Rattle.std.proofs.lemmas.List.{length-map}
use Rattle.whole.specs.Linear.{order, negation}
use Rattle.whole.specs.Laws.{≤ℤ_antisym}
use Rattle.rules.specs.Lists.{first_place}
use Rattle.rules.specs.Streams.{Stream, same, turned}
use Rattle.rules.specs.Chain.{Samples, Of, LeftEnd, RightEnd, Edge, Goes, stop, on, UpperChain, empty, starts, upper, lower}
use Rattle.rules.specs.Ring.{last_of, leave_first, leave_last, closed, ring}
use Rattle.rules.specs.Use.{envelope, turn_about}
use Rattle.laws_outline.specs.ListLaws.{map-twice, map_in, answer}
use Rattle.laws_outline.specs.SamePosition.{streams_equal, same_equal, equal_same, same_no, no_same}
use Rattle.laws_outline.specs.Sidedness.{turned-twice}
use Rattle.laws_outline.specs.Chains.{upper_is}
use Rattle.laws_rings.specs.FromBehind.{lower-turned}
use Rattle.laws_rings.specs.Rings.{envelope-ring}
use Rattle.laws_rings.specs.FewestCorners.{no_samples, closed-one}

-- ---- closing two chains: an end that both have may be left out of either

-- a chain without its last corner, if that is p
abbrev without : Stream → List Stream → List Stream
without p R = leave_last (some p) R

-- the chain from d over R has more than one corner, or one that is not p
abbrev Apart : Stream → Stream → List Stream → Type 0
Apart p d [] = same p d ≡ false
Apart p d (e ∷ R) = Unit {0}

without-kept : (p c : Stream) (R : List Stream) → Apart p c R → without p (c ∷ R) ≡ c ∷ without p R
without-kept p c [] h = ap (λ (b : Bool). cond b [] (c ∷ [])) h
without-kept p c (e ∷ R) h = refl

-- a chain from c over U, and one from d over R that ends where p is
without_either : (p c : Stream) (U : List Stream) (d : Stream) (R : List Stream) → Apart p d R →
    (c ∷ U) ++ without p (leave_first (last_of (c ∷ U)) (d ∷ R)) ≡ without d (c ∷ U) ++ without p (d ∷ R)
without_either p c [] d R h = ⊎_elim (λ e. met (same_equal c d e)) apart (answer (same c d))
  where
    first : (b : Bool) → same c d ≡ b → c ∷ without p (cond (same c d) R (d ∷ R)) ≡ c ∷ without p (cond b R (d ∷ R))
    first b = ap (λ (t : Bool). c ∷ without p (cond t R (d ∷ R)))

    last : (b : Bool) → same d c ≡ b → cond b [] (c ∷ []) ++ without p (d ∷ R) ≡ without d (c ∷ []) ++ without p (d ∷ R)
    last b e = ap (λ (t : Bool). cond t [] (c ∷ []) ++ without p (d ∷ R)) (sym e)

    met : c ≡ d → c ∷ without p (cond (same c d) R (d ∷ R)) ≡ without d (c ∷ []) ++ without p (d ∷ R)
    met e = first true (equal_same e) ∙ ap (λ (s : Stream). s ∷ without p R) e ∙ sym (without-kept p d R h) ∙ last true (equal_same (sym e))

    apart : same c d ≡ false → c ∷ without p (cond (same c d) R (d ∷ R)) ≡ without d (c ∷ []) ++ without p (d ∷ R)
    apart e = first false e ∙ last false (no_same (λ q. same_no c d e (sym q)))
without_either p c (e ∷ U) d R h = ap (λ (l : List Stream). c ∷ l) (without_either p e U d R h)

-- ---- turned about

same-turned : (p q : Stream) → same (turned p) (turned q) ≡ same p q
same-turned p q = ⊎_elim (λ e. equal_same (ap turned (same_equal p q e)) ∙ sym e) (λ e. no_same (different e) ∙ sym e) (answer (same p q))
  where
    different : same p q ≡ false → turned p ≡ turned q → ⊥
    different e h = same_no p q e (sym (turned-twice p) ∙ ap turned h ∙ turned-twice q)

without-turned : (p : Stream) (R : List Stream) → without (turned p) (map turned R) ≡ map turned (without p R)
without-turned p [] = refl
without-turned p (q ∷ []) = ap (λ (b : Bool). cond b [] (turned q ∷ [])) (same-turned p q) ∙ go (same p q)
  where
    go : (b : Bool) → cond b [] (turned q ∷ []) ≡ map turned (cond b [] (q ∷ []))
    go true = refl
    go false = refl
without-turned p (q ∷ r ∷ R) = ap (λ (l : List Stream). turned q ∷ l) (without-turned p (r ∷ R))

-- an upper chain from a, and one from w that, turned about, goes back as the lower chain
module _ (a : Stream) (U : List Stream) (w : Stream) (W : List Stream) where
  abbrev upper_part : List Stream
  upper_part = without (turned w) (a ∷ U)

  abbrev lower_part : List Stream
  lower_part = without a (map turned (w ∷ W))

  closed_cycle : Apart a (turned w) (map turned W) → closed (a ∷ U) (reverse (map turned (w ∷ W))) ≡ upper_part ++ lower_part
  unfolding closed
  closed_cycle h =
      ap (λ (R : List Stream). (a ∷ U) ++ without a (leave_first (last_of (a ∷ U)) R)) (reverse-reverse (map turned (w ∷ W))) ∙
      without_either a a U (turned w) (map turned W) h

  -- the two parts change places
  parts-turned : without (turned a) (w ∷ W) ++ without w (map turned (a ∷ U)) ≡ map turned (lower_part ++ upper_part)
  parts-turned = ap₂ ◌++◌ lower-turned-part upper-turned-part ∙ sym (map-append turned lower_part upper_part)
    where
      lower-turned-part : without (turned a) (w ∷ W) ≡ map turned lower_part
      lower-turned-part = ap (without (turned a)) (sym (map-twice turned turned-twice (w ∷ W))) ∙ without-turned a (map turned (w ∷ W))

      upper-turned-part : without w (map turned (a ∷ U)) ≡ map turned upper_part
      upper-turned-part = ap (λ (p : Stream). without p (map turned (a ∷ U))) (sym (turned-twice w)) ∙ without-turned (turned w) (a ∷ U)

-- ---- the ring and the ring turned about, entered at c

-- c stands once, after all of `before`; it has the greatest east and, among those, the least north
pub record Entered (xs : List Stream) (c : Stream) : Type 0 where
  pub before : List Stream
  pub after : List Stream
  pub corners : ring xs ≡ before ++ (c ∷ after)
  pub turned-corners : ring (map turned xs) ≡ map turned ((c ∷ after) ++ before)
  pub once : Memᴰ c before → ⊥
  pub given : Memᴰ c xs
  pub greatest : (s : Stream) → Memᴰ s xs → s.east ≤ℤ c.east
  pub least : (s : Stream) → Memᴰ s xs → s.east ≡ c.east → c.north ≤ℤ s.north

-- a chain of one corner has all samples at its east, so the chain of what is turned about has one corner too
one-east : {S T : Samples} → ((s : Stream) → T s → S (turned s)) → {p : Stream} → LeftEnd S p → RightEnd S p → {w q : Stream} → Edge T w q → ⊥
one-east back {p} l r {w} {q} e =
    let a = l.least (turned w) (back w e.from) in
    let b = r.most (turned w) (back w e.from) in
    let c = l.least (turned q) (back q e.to) in
    let d = r.most (turned q) (back q e.to) in
    let h = e.ahead in
    omega (order, negation w.east, negation q.east)

-- two chains that meet at their ends at most, or one position
abbrev Meeting : Stream → List Stream → Stream → List Stream → Type 0
Meeting a U w W = (Apart a (turned w) (map turned W) × Apart w (turned a) (map turned U)) ⊎ ((a ≡ turned w) × (U ≡ []) × (W ≡ []))

module _ {S T : Samples} (to : (s : Stream) → S s → T (turned s)) (back : (s : Stream) → T s → S (turned s)) where
  meeting : {a w : Stream} {U W : List Stream} → LeftEnd S a → Goes S a U → LeftEnd T w → Goes T w W → Meeting a U w W
  meeting {a} {w} l (stop r) k (stop q) =
      ⊎_elim (λ e. inr (same_equal a (turned w) e, refl, refl)) (λ e. inl (e, no_same (other e))) (answer (same a (turned w)))
    where
      other : same a (turned w) ≡ false → w ≡ turned a → ⊥
      other e h = same_no a (turned w) e (sym (turned-twice a) ∙ ap turned (sym h))
  meeting l (stop r) k (on e t g) = absurd (one-east back l r e)
  meeting l (on e t g) k (stop q) = absurd (one-east to k q e)
  meeting l (on e t g) k (on f u h) = inl (tt, tt)

-- what is left out of a chain, if it has the greatest east, does not stand in it
left_out : {S : Samples} {d : Stream} → ((s : Stream) → S s → s.east ≤ℤ d.east) → {p : Stream} {C : List Stream} → Goes S p C →
    Memᴰ d (without d (p ∷ C)) → ⊥
left_out {d} h {p} (stop r) m = go (same d p) refl m
  where
    go : (b : Bool) → same d p ≡ b → Memᴰ d (cond b [] (p ∷ [])) → ⊥
    go true e m = Memᴰ.not-nil m
    go false e m = same_no d p e (Memᴰ.eq_of_singleton m)
left_out {d} h (on {p} {q} e t g) m =
    ⊎_elim (λ k. further (ap (λ (s : Stream). s.east) k) e.ahead (h q e.to)) (left_out h g) (Memᴰ.cases_cons m)
  where
    further : d.east ≡ p.east → p.east <ℤ q.east → q.east ≤ℤ d.east → ⊥
    further k l n = omega order

module _ (xs : List Stream) where
  module _ {a w : Stream} {U W : List Stream} (u : upper xs ≡ a ∷ U) (v : upper (map turned xs) ≡ w ∷ W) where
    ring_chains : ring xs ≡ closed (a ∷ U) (reverse (map turned (w ∷ W)))
    unfolding ring
    ring_chains = ap₂ closed u (ap lower (sym (map-twice turned turned-twice xs)) ∙ lower-turned (map turned xs) ∙ ap (λ l. reverse (map turned l)) v)

    turned_chains : ring (map turned xs) ≡ closed (w ∷ W) (reverse (map turned (a ∷ U)))
    unfolding ring
    turned_chains = ap₂ closed v (lower-turned xs ∙ ap (λ (l : List Stream). reverse (map turned l)) u)

    module _ (g : Goes (Of xs) a U) (k : LeftEnd (Of (map turned xs)) w) where
      greatest-east : (s : Stream) → Memᴰ s xs → s.east ≤ℤ neg_ℤ w.east
      greatest-east s m =
          let h : w.east ≤ℤ neg_ℤ s.east = k.least (turned s) (Memᴰ.map turned m) in
          omega (order, negation s.east, negation w.east)

      least_north : (s : Stream) → Memᴰ s xs → s.east ≡ neg_ℤ w.east → neg_ℤ w.north ≤ℤ s.north
      least_north s m e =
          let f : neg_ℤ s.east ≡ w.east = omega (order, negation s.east, negation w.east) in
          let h : neg_ℤ s.north ≤ℤ w.north = k.greatest (turned s) (Memᴰ.map turned m) f in
          omega (order, negation s.north, negation w.north)

      entered : (b c : List Stream) → ring xs ≡ b ++ (turned w ∷ c) → ring (map turned xs) ≡ map turned ((turned w ∷ c) ++ b) →
          (Memᴰ (turned w) b → ⊥) → Entered xs (turned w)
      entered b c h h' o = record {
        before = b;
        after = c;
        corners = h;
        turned-corners = h';
        once = o;
        given = map_in turned turned-twice xs k.given;
        greatest = greatest-east;
        least = least_north;
      }

      two_chains : Apart a (turned w) (map turned W) → Apart w (turned a) (map turned U) → Entered xs (turned w)
      two_chains h h' = entered (upper_part a U w W) (without a (map turned W)) whole whole_turned (left_out greatest-east g)
        where
          kept : lower_part a U w W ≡ turned w ∷ without a (map turned W)
          kept = without-kept a (turned w) (map turned W) h

          whole : ring xs ≡ upper_part a U w W ++ (turned w ∷ without a (map turned W))
          whole = ring_chains ∙ closed_cycle a U w W h ∙ ap (λ (l : List Stream). upper_part a U w W ++ l) kept

          whole_turned : ring (map turned xs) ≡ map turned ((turned w ∷ without a (map turned W)) ++ upper_part a U w W)
          whole_turned =
              turned_chains ∙
              closed_cycle w W a U h' ∙
              parts-turned a U w W ∙
              ap (λ (l : List Stream). map turned (l ++ upper_part a U w W)) kept

      alone : a ≡ turned w → U ≡ [] → W ≡ [] → Entered xs (turned w)
      alone e n m = entered [] [] whole whole_turned Memᴰ.not-nil
        where
          whole : ring xs ≡ turned w ∷ []
          whole =
              ring_chains ∙
              ap₂ (λ (P Q : List Stream). closed (a ∷ P) (reverse (map turned (w ∷ Q)))) n m ∙
              ap (λ (p : Stream). closed (p ∷ []) (turned w ∷ [])) e ∙
              closed-one (turned w)

          whole_turned : ring (map turned xs) ≡ turned (turned w) ∷ []
          whole_turned =
              turned_chains ∙
              ap₂ (λ (P Q : List Stream). closed (w ∷ Q) (reverse (map turned (a ∷ P)))) n m ∙
              ap₂ (λ (p q : Stream). closed (p ∷ []) (q ∷ [])) (sym (turned-twice w)) (ap turned e) ∙
              closed-one (turned (turned w))

  pub enter : {s : Stream} → Memᴰ s xs → (c : Stream) × Entered xs c
  enter {s} m = go refl refl (upper_is xs) (upper_is (map turned xs))
    where
      go : {C D : List Stream} → upper xs ≡ C → upper (map turned xs) ≡ D → UpperChain (Of xs) C → UpperChain (Of (map turned xs)) D →
          (c : Stream) × Entered xs c
      go u v (empty n) d = absurd (n s m)
      go u v (starts l g) (empty n) = absurd (n (turned s) (Memᴰ.map turned m))
      go u v (starts l g) (starts {p = w} k f) =
          let meet = meeting (λ t n. Memᴰ.map turned n) (λ t n. map_in turned turned-twice xs n) l g k f in
          (turned w, ⊎_elim (λ h. two_chains u v g k h.0 h.1) (λ h. alone u v g k h.0 h.1 h.2) meet)

-- ---- the place of entry

module _ {A : Type 0} where
  first-place-after : (test : A → Bool) (X : List A) {c : A} (Y : List A) → ((s : A) → Memᴰ s X → test s ≡ false) → test c ≡ true →
      first_place test (X ++ (c ∷ Y)) ≡ length X
  unfolding first_place
  first-place-after test [] {c} Y n e = ap (λ (b : Bool). cond b zero (suc (first_place test Y))) e
  first-place-after test (x ∷ X) {c} Y n e =
      ap (λ (b : Bool). cond b zero (suc (first_place test (X ++ (c ∷ Y))))) (n x (Memᴰ.head refl)) ∙
      ap suc (first-place-after test X Y (λ s m. n s (Memᴰ.tail m)) e)

  rotated : (X Y : List A) → drop (length X) (X ++ Y) ++ take (length X) (X ++ Y) ≡ Y ++ X
  rotated X Y = ap₂ ◌++◌ (dropped X) (taken X)
    where
      dropped : (X : List A) → drop (length X) (X ++ Y) ≡ Y
      dropped [] = refl
      dropped (x ∷ X) = dropped X

      taken : (X : List A) → take (length X) (X ++ Y) ≡ X
      taken [] = refl
      taken (x ∷ X) = ap (λ (l : List A). x ∷ l) (taken X)

-- the list from a place on, and then what is before it
abbrev pub from_place : ℕ → List Stream → List Stream
from_place k r = drop k r ++ take k r

-- an envelope turned about: its corners with both signs changed, from the place of c on and round
pub turn_from : (r : List Stream) (c : Stream) → envelope r ≡ true → Memᴰ c r → ((s : Stream) → Memᴰ s r → s.east ≤ℤ c.east) →
    ((s : Stream) → Memᴰ s r → s.east ≡ c.east → c.north ≤ℤ s.north) →
    turn_about r ≡ map turned (from_place (first_place (same c) r) r)
unfolding turn_about
turn_from r c e m greatest least = go (enter r m)
  where
    go : (d : Stream) × Entered r d → ring (map turned r) ≡ map turned (from_place (first_place (same c) r) r)
    go (d, t) = t.turned-corners ∙ ap (map turned) (sym (rotated t.before (d ∷ t.after)) ∙ ap₂ from_place (sym place) (sym whole))
      where
        one : c ≡ d
        one =
            let e = ≤ℤ_antisym (t.greatest c m) (greatest d t.given) in
            streams_equal e (≤ℤ_antisym (least d t.given (sym e)) (t.least c m e))

        whole : r ≡ t.before ++ (d ∷ t.after)
        whole = sym ((envelope-ring r).0 e) ∙ t.corners

        not_before : (s : Stream) → Memᴰ s t.before → same c s ≡ false
        not_before s n = no_same (λ h. t.once (Memᴰ.cast (sym one ∙ h) n))

        place : first_place (same c) r ≡ length t.before
        place = ap (first_place (same c)) whole ∙ first-place-after (same c) t.before t.after not_before (equal_same one)

-- an envelope keeps its number of corners
pub turned-length : (xs : List Stream) → envelope xs ≡ true → length (turn_about xs) ≡ length xs
unfolding turn_about
turned-length [] e = ap length no_samples
turned-length (x ∷ xs) e = go (enter (x ∷ xs) (Memᴰ.head refl))
  where
    go : (c : Stream) × Entered (x ∷ xs) c → length (ring (map turned (x ∷ xs))) ≡ length (x ∷ xs)
    go (c, t) =
        ap length t.turned-corners ∙
        length-map ((c ∷ t.after) ++ t.before) turned ∙
        swapped ∙
        ap length (sym t.corners ∙ (envelope-ring (x ∷ xs)).0 e)
      where
        swapped : length ((c ∷ t.after) ++ t.before) ≡ length (t.before ++ (c ∷ t.after))
        swapped = omega (arith, length-append (c ∷ t.after) t.before, length-append t.before (c ∷ t.after))
