-- The strongest set: over a ring's corners it is the strongest over every stream behind the ring, and its place is the first that has it.
-- Assumes nothing.
use Rattle.std.specs.Prelude.{◌≡◌, refl, ◌≢◌, Bool, true, ℕ, ◌<◌, ℤ, pos, ◌≤ℤ◌, ◌<ℤ◌}
use Rattle.std.proofs.Common.{sym, ◌∙◌, subst, arith}
use mathlib.Core.List.{List, ◌∷◌, Memᴰ}
use Rattle.std.specs.Int.Signed.{lt_z, ≤ℤ_refl}
use Rattle.std.proofs.Math.ListN.{length}
use Rattle.whole.specs.Linear.{order, read-ne}
use Rattle.whole.specs.Laws.{≤ℤ_antisym, ≤ℤ_trans, <ℤ_trans, ≤ℤ_of-≡, <ℤ→≢}
use Rattle.whole.specs.Laws.{test_nlt, test-lt, lt_test, nlt_test, eq_test, ne_test, test-eq, test-ne, eqZ}
use Rattle.rules.specs.Lists.{best_from, first_place, some_of}
use Rattle.rules.specs.Streams.{Stream, stream, sample}
use Rattle.rules.specs.Ring.{ring}
use Rattle.rules.specs.Use.{set_on, strongest, strongest_place}
use Rattle.laws_outline.specs.ListLaws.{at_place_in, Ranks, Best, best_from_best, is_some_of, first_place_in, first_place_passes, first-place-first, is-first-place}
use Rattle.laws_rings.specs.Rings.{AllBehind, ring-behind, behind-ring}

module _ (x y : ℤ) where
  abbrev stronger : Stream → Stream → Bool
  stronger s t = lt_z (set_on x y t) (set_on x y s)

  ranks : Ranks (λ s. Unit {0}) stronger
  ranks =
      record {
        not_itself = λ s u. nlt_test (≤ℤ_refl (set_on x y s));
        in_turn = λ s t r u v w e f. lt_test (<ℤ_trans (test-lt (set_on x y r) (set_on x y t) f) (test-lt (set_on x y t) (set_on x y s) e));
      }

  module _ (p : Stream) (ps : List Stream) where
    strongest-best : Best stronger (p ∷ ps) (best_from stronger p ps)
    strongest-best = best_from_best ranks p ps (λ s m. tt)

    -- no stream of the list sets stronger
    pub strongest-most : {s : Stream} → Memᴰ s (p ∷ ps) → set_on x y s ≤ℤ strongest x y p ps
    unfolding strongest
    strongest-most {s} m = test_nlt (set_on x y (best_from stronger p ps)) (set_on x y s) (strongest-best.unbeaten s m)

    -- and one of them sets so
    pub strongest_of : (s : Stream) × Memᴰ s (p ∷ ps) × (strongest x y p ps ≡ set_on x y s)
    unfolding strongest
    strongest_of = (best_from stronger p ps, strongest-best.given, refl)

    -- and no other number is so
    pub strongest_only : {s : Stream} → Memᴰ s (p ∷ ps) → ((t : Stream) → Memᴰ t (p ∷ ps) → set_on x y t ≤ℤ set_on x y s) →
        strongest x y p ps ≡ set_on x y s
    strongest_only m most = let b = strongest_of in ≤ℤ_antisym (≤ℤ_trans (≤ℤ_of-≡ b.2) (most b.0 b.1)) (strongest-most m)

  -- ---- over all streams behind

  no_stronger : (p : Stream) (ps : List Stream) (q : Stream) (qs : List Stream) → AllBehind (p ∷ ps) (q ∷ qs) →
      strongest x y p ps ≤ℤ strongest x y q qs
  no_stronger p ps q qs b =
      let s = strongest_of p ps in
      let t = (b s.0 s.1).stronger x y tt in
      ≤ℤ_trans (≤ℤ_of-≡ s.2) (≤ℤ_trans t.2 (strongest-most q qs t.1))

  -- streams that lie behind each other have one strongest set
  pub same-strongest : (p : Stream) (ps : List Stream) (q : Stream) (qs : List Stream) → AllBehind (p ∷ ps) (q ∷ qs) →
      AllBehind (q ∷ qs) (p ∷ ps) → strongest x y p ps ≡ strongest x y q qs
  same-strongest p ps q qs b c = ≤ℤ_antisym (no_stronger p ps q qs b) (no_stronger q qs p ps c)

  -- p and ps are the ring's corners, q and qs all streams behind it
  module _ (p : Stream) (ps : List Stream) (q : Stream) (qs : List Stream) (e : ring (q ∷ qs) ≡ p ∷ ps) where
    pub strongest-ring : strongest x y p ps ≡ strongest x y q qs
    strongest-ring =
        same-strongest p ps q qs
        (subst (λ (r : List Stream). AllBehind r (q ∷ qs)) e (ring-behind (q ∷ qs)))
        (subst (AllBehind (q ∷ qs)) e (behind-ring (q ∷ qs)))

    pub strongest-behind : {s : Stream} → Memᴰ s (q ∷ qs) → set_on x y s ≤ℤ strongest x y p ps
    strongest-behind m = ≤ℤ_trans (strongest-most q qs m) (≤ℤ_of-≡ (sym strongest-ring))

    pub strongest_of_behind : (s : Stream) × Memᴰ s (q ∷ qs) × (strongest x y p ps ≡ set_on x y s)
    strongest_of_behind = let s = strongest_of q qs in (s.0, s.1, strongest-ring ∙ s.2)

  -- ---- "the first ring place that has it"

  module _ (p : Stream) (ps : List Stream) where
    abbrev has : Stream → Bool
    has s = eqZ (set_on x y s) (strongest x y p ps)

    some_has : some_of has (p ∷ ps) ≡ true
    some_has = let s = strongest_of p ps in is_some_of has s.1 (eq_test (sym s.2))

    pub strongest_place_in : strongest_place x y p ps < length (p ∷ ps)
    unfolding strongest_place
    strongest_place_in = first_place_in has (p ∷ ps) some_has

    pub strongest-place-has : set_on x y (sample (p ∷ ps) (strongest_place x y p ps)) ≡ strongest x y p ps
    unfolding strongest_place
    strongest-place-has =
        test-eq (set_on x y (sample (p ∷ ps) (first_place has (p ∷ ps)))) (strongest x y p ps)
        (first_place_passes has (p ∷ ps) (stream (pos 0) (pos 0)) some_has)

    -- the corners before it set less strong
    pub strongest-place-first : (i : ℕ) → i < strongest_place x y p ps → set_on x y (sample (p ∷ ps) i) <ℤ strongest x y p ps
    unfolding strongest_place
    strongest-place-first i h =
        weaker
        (strongest-most p ps (at_place_in (p ∷ ps) i (stream (pos 0) (pos 0)) (within i h)))
        (test-ne (set_on x y (sample (p ∷ ps) i)) (strongest x y p ps) (first-place-first has (p ∷ ps) (stream (pos 0) (pos 0)) i h))
      where
        within : (i : ℕ) → i < first_place has (p ∷ ps) → i < length (p ∷ ps)
        within i h = omega (arith, first_place_in has (p ∷ ps) some_has)

        weaker : {a b : ℤ} → a ≤ℤ b → a ≢ b → a <ℤ b
        weaker h f = omega (order, read-ne f)

    -- and no other place is so
    pub strongest_place_only : (i : ℕ) → i < length (p ∷ ps) → set_on x y (sample (p ∷ ps) i) ≡ strongest x y p ps →
        ((k : ℕ) → k < i → set_on x y (sample (p ∷ ps) k) <ℤ strongest x y p ps) → strongest_place x y p ps ≡ i
    unfolding strongest_place
    strongest_place_only i h e b = is-first-place has (p ∷ ps) (stream (pos 0) (pos 0)) i h (eq_test e) (λ k l. ne_test (<ℤ→≢ (b k l)))
