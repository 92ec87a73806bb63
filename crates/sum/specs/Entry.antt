-- What comes of a sum after the tests of its rings: nothing where a ring is empty, 19 where it reaches beyond the limit, else the last test. Assumes nothing.
use Rattle.std.specs.Prelude.{◌≡◌, refl, true, false, List, [], ◌∷◌, ℕ, ℤ, length, Ok}
use Rattle.std.proofs.Common.{sym, ap, ◌∙◌, subst, arith, le-ltb}
use Rattle.rules.specs.Lists.{some_of, zeros}
use Rattle.rules.specs.Streams.{Stream, streams, beyond}
use Rattle.rules.specs.Use.{sum}
use Rattle.rules.specs.Refusals.{refused, Test, unless}
use Rattle.rules.specs.Entries.{ring_short, sum_beyond}
use Rattle.laws_sums.specs.Sums.{sum_empty_left, sum_empty_right}
use Rattle.closing.specs.RingPromise.{unless_short, Outcome}

-- the tests of the sum itself
abbrev pub own_tests : List ℤ → List ℤ → List Stream → List Test
own_tests east north R = sum_beyond R ∷ ring_short east north R ∷ []

pub too_far_refused : (east north : List ℤ) (R : List Stream) → true ≡ some_of beyond R → unless (own_tests east north R) R ≡ refused 19 0
too_far_refused east north R e = rw (sym e) refl

pub near_passes : (east north : List ℤ) (R : List Stream) → false ≡ some_of beyond R → unless (own_tests east north R) R ≡ unless_short east north R
near_passes east north R e = rw (sym e) refl

-- an empty sum has no corner beyond the limit, and there is always room for it
pub nothing-beyond : {R : List Stream} → R ≡ [] → false ≡ some_of beyond R
unfolding some_of
nothing-beyond e = sym (ap (some_of beyond) e)

pub nothing_written : {R : List Stream} (east north : List ℤ) (scratch : List ℕ) {scratch' : List ℕ} → R ≡ [] → scratch' ≡ zeros scratch
    → Outcome (unless_short east north R) (Ok 0) east east north north scratch scratch'
nothing_written {R} east north scratch {scratch'} e z =
    subst (λ (L : List Stream). Outcome (unless_short east north L) (Ok 0) east east north north scratch scratch') (sym e)
    (rw (le-ltb (length east) 0 (omega arith), le-ltb (length north) 0 (omega arith)) (record { says = refl; east_after = refl; north_after = refl; scratch-is = z }))

-- no corners, no streams
no_streams : (es ns : List ℤ) → length es ≡ 0 → streams es ns ≡ []
unfolding streams
no_streams [] ns h = refl
no_streams (e ∷ es) ns h = absurd (omega arith)

pub empty_first : (es ns : List ℤ) (t : List Stream) → length es ≡ 0 → sum (streams es ns) t ≡ []
empty_first es ns t h = ap (λ (r : List Stream). sum r t) (no_streams es ns h) ∙ sum_empty_left t

pub empty_second : (r : List Stream) (fs ms : List ℤ) → length fs ≡ 0 → sum r (streams fs ms) ≡ []
empty_second r fs ms h = ap (sum r) (no_streams fs ms h) ∙ sum_empty_right r
