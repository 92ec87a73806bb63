-- Tests by two keys: one item is ahead of another in the first, or level in it and ahead in the second.
-- Assumes nothing.
use Rattle.std.specs.Prelude.{◌≡◌, ◌⊎◌, Bool, true, false, ◌&&◌, ◌||◌, ℤ, ◌≤ℤ◌, ◌<ℤ◌}
use Rattle.std.proofs.Common.{sym, ap, ap₂, ◌∙◌, subst, inl, inr, ⊎_elim}
use Rattle.std.proofs.Math.Bool.{and-false}
use Rattle.std.specs.Int.Signed.{lt_z, ≤ℤ_refl}
use Rattle.whole.specs.Laws.{<ℤ_trans, lt_test, nlt_test, eq_test, test-lt, test_nlt, test-eq}
use Rattle.rules.specs.Streams.{eqZ}
use Rattle.laws_outline.specs.ListLaws.{both_yes, yes_both, one_no, one_yes, yes_one, both_no, not-both, Ranks}

-- ---- tests by two keys: one is ahead in the first, or level in it and ahead in the second

-- from the first number to the second is the way up, or the way down
abbrev pub way : Bool → ℤ → ℤ → Bool
way true a b = lt_z a b
way false a b = lt_z b a

-- what the test says
pub two_keys_yes : (a b c d e f : ℤ) → (lt_z a b || eqZ c d && lt_z e f) ≡ true → (a <ℤ b) ⊎ ((c ≡ d) × (e <ℤ f))
two_keys_yes a b c d e f h =
    ⊎_elim (λ g. inl (test-lt a b g)) (λ g. inr (level (both_yes (eqZ c d) (lt_z e f) g))) (one_yes (lt_z a b) (eqZ c d && lt_z e f) h)
  where
    level : (eqZ c d ≡ true) × (lt_z e f ≡ true) → (c ≡ d) × (e <ℤ f)
    level g = (test-eq c d g.0, test-lt e f g.1)

pub two_keys_no : (a b c d e f : ℤ) → (lt_z a b || eqZ c d && lt_z e f) ≡ false → (b ≤ℤ a) × (c ≡ d → f ≤ℤ e)
two_keys_no a b c d e f h =
    (test_nlt a b n.0, λ q. ⊎_elim (λ g. not-both (eq_test q) g) (λ g. test_nlt e f g) (one_no (eqZ c d) (lt_z e f) n.1))
  where
    n : (lt_z a b ≡ false) × ((eqZ c d && lt_z e f) ≡ false)
    n = both_no (lt_z a b) (eqZ c d && lt_z e f) h

-- the answer that a fact gives
pub yes_first_key : {a b : ℤ} (c d e f : ℤ) → a <ℤ b → (lt_z a b || eqZ c d && lt_z e f) ≡ true
yes_first_key c d e f h = ap (λ (t : Bool). t || eqZ c d && lt_z e f) (lt_test h)

pub yes_second_key : (a b : ℤ) {c d e f : ℤ} → c ≡ d → e <ℤ f → (lt_z a b || eqZ c d && lt_z e f) ≡ true
yes_second_key a b {c} {d} {e} {f} p q = yes_one (lt_z a b) (eqZ c d && lt_z e f) (inr (yes_both (eq_test p) (lt_test q)))

-- such a test ranks the items
way_not_itself : (w : Bool) (a : ℤ) → way w a a ≡ false
way_not_itself true a = nlt_test (≤ℤ_refl a)
way_not_itself false a = nlt_test (≤ℤ_refl a)

way_in_turn : (w : Bool) (a b c : ℤ) → way w a b ≡ true → way w b c ≡ true → way w a c ≡ true
way_in_turn true a b c p q = lt_test (<ℤ_trans (test-lt a b p) (test-lt b c q))
way_in_turn false a b c p q = lt_test (<ℤ_trans (test-lt c b q) (test-lt b a p))

pub two_keys_rank : {A : Type 0} (w v : Bool) (first second : A → ℤ)
    → Ranks (λ x. Unit {0}) (λ (x y : A). way w (first x) (first y) || eqZ (first x) (first y) && way v (second x) (second y))
two_keys_rank {A} w v first second = record { not_itself = λ x t. itself x; in_turn = λ x y z s t u. turn x y z }
  where
    beats : A → A → Bool
    beats x y = way w (first x) (first y) || eqZ (first x) (first y) && way v (second x) (second y)

    itself : (x : A) → beats x x ≡ false
    itself x =
        ap₂ (λ (s t : Bool). s || eqZ (first x) (first x) && t) (way_not_itself w (first x)) (way_not_itself v (second x)) ∙ and-false
        (eqZ (first x) (first x))

    Ahead : A → A → Type 0
    Ahead x y = (way w (first x) (first y) ≡ true) ⊎ ((first x ≡ first y) × (way v (second x) (second y) ≡ true))

    reads : (x y : A) → beats x y ≡ true → Ahead x y
    reads x y e =
        ⊎_elim inl (λ g. let k = both_yes (eqZ (first x) (first y)) (way v (second x) (second y)) g in inr
        (test-eq (first x) (first y) k.0, k.1)) (one_yes (way w (first x) (first y))
        (eqZ (first x) (first y) && way v (second x) (second y)) e)

    gives : (x y : A) → Ahead x y → beats x y ≡ true
    gives x y o =
        yes_one (way w (first x) (first y)) (eqZ (first x) (first y) && way v (second x) (second y))
        (⊎_elim inl (λ e. inr (yes_both (eq_test e.0) e.1)) o)

    follows : (x y z : A) → Ahead x y → Ahead y z → Ahead x z
    follows x y z (inl p) (inl q) = inl (way_in_turn w (first x) (first y) (first z) p q)
    follows x y z (inl p) (inr q) = inl (subst (λ (a : ℤ). way w (first x) a ≡ true) q.0 p)
    follows x y z (inr p) (inl q) = inl (subst (λ (a : ℤ). way w a (first z) ≡ true) (sym p.0) q)
    follows x y z (inr p) (inr q) = inr (p.0 ∙ q.0, way_in_turn v (second x) (second y) (second z) p.1 q.1)

    turn : (x y z : A) → beats x y ≡ true → beats y z ≡ true → beats x z ≡ true
    turn x y z p q = gives x z (follows x y z (reads x y p) (reads y z q))
