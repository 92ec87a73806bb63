-- Positions told apart: two streams at one position, and lists alike.
-- Assumes nothing.
use Rattle.std.specs.Prelude.{◌≡◌, refl, ◌↔◌, ◌≢◌, ◌⊎◌, true, false}
use Rattle.std.proofs.Common.{ap, ⊎_elim}
use mathlib.Core.List.Memᴰ
use mathlib.Core.List.{List, Memᴰ}
use Rattle.whole.specs.Laws.{eq_test, test-eq}
use Rattle.rules.specs.Lists.{some_of, alike}
use Rattle.rules.specs.Streams.{Stream, stream, same, eqZ}
use Rattle.laws_outline.specs.ListLaws.{both_yes, yes_both, answer, not-both, is_no, some_of_is, none_of_is, alike_equal, equal_alike}

-- ---- positions

pub streams_equal : {p q : Stream} → p.east ≡ q.east → p.north ≡ q.north → p ≡ q
streams_equal e n i = stream (e i) (n i)

pub same_equal : (p q : Stream) → same p q ≡ true → p ≡ q
unfolding same
same_equal p q h =
    let k = both_yes (eqZ p.east q.east) (eqZ p.north q.north) h in
    streams_equal (test-eq p.east q.east k.0) (test-eq p.north q.north k.1)

pub equal_same : {p q : Stream} → p ≡ q → same p q ≡ true
unfolding same
equal_same e = yes_both (eq_test (ap (λ (s : Stream). s.east) e)) (eq_test (ap (λ (s : Stream). s.north) e))

pub same_no : (p q : Stream) → same p q ≡ false → p ≢ q
same_no p q h e = not-both (equal_same e) h

pub no_same : {p q : Stream} → p ≢ q → same p q ≡ false
no_same {p} {q} f = is_no (same p q) (λ h. f (same_equal p q h))

pub position_decides : (p q : Stream) → Dec (p ≡ q)
position_decides p q = ⊎_elim (λ e. yes (same_equal p q e)) (λ e. no (same_no p q e)) (answer (same p q))

pub member_decides : (p : Stream) (xs : List Stream) → Dec (Memᴰ p xs)
member_decides p xs =
    ⊎_elim (λ e. let s = some_of_is (same p) xs e in yes (Memᴰ.cast (same_equal p s.0 s.2) s.1))
    (λ e. no (λ m. not-both (equal_same refl) (none_of_is (same p) xs e m))) (answer (some_of (same p) xs))

-- lists of positions are alike exactly if they are equal
pub alike_same : (xs ys : List Stream) → (alike same xs ys ≡ true) ↔ (xs ≡ ys)
alike_same xs ys = (alike_equal same same_equal xs ys, equal_alike same (λ x. equal_same refl))
