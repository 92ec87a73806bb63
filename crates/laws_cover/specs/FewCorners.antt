-- One corner covers its position, and two the segment between them: that is what lies behind them.
-- Assumes nothing.
use Rattle.std.specs.Prelude.{◌≡◌, refl, ◌⊎◌, true, ◌&&◌, ℤ, negsuc, neg_ℤ, ◌-ℤ◌, ◌*ℤ◌, ◌≤ℤ◌}
use Rattle.std.proofs.Common.{sym}
use Rattle.std.proofs.Math.Path.{subst}
use Rattle.std.proofs.Math.Logic.{inl, inr, ⊎_elim}
use mathlib.Core.List.Memᴰ
use mathlib.Core.List.{[], ◌∷◌, Memᴰ}
use Rattle.std.proofs.Math.IntN.{pos, *ℤ_comm}
use Rattle.std.specs.Int.Signed.{le_z}
use Rattle.whole.specs.Linear.{order, negation}
use Rattle.whole.specs.Laws.{≤ℤ_total, ≤ℤ_trans, <ℤ→≤ℤ, test-le, le_test, test-eq, eq_test, eqZ}
use Rattle.whole.specs.Solver.{var, num, ◌⊕◌, ◌⊖◌, ◌⊗◌, east, north, tri}
use Rattle.whole.specs.Certificate.{◌⊞◌, ◌⊠◌, scaled, square, from-≤, from-<, from-≤0, from-≡0, conclude-≤, refute}
use Rattle.rules.specs.Streams.{Stream, side}
use Rattle.rules.specs.Chain.{Of}
use Rattle.rules.specs.Use.{set_on, between, covers}
use Rattle.laws_outline.specs.ListLaws.{both_yes, yes_both, one_yes, yes_one}
use Rattle.laws_outline.specs.SamePosition.{streams_equal, same_equal, equal_same}
use Rattle.laws_outline.specs.Sidedness.{set_eastward, set_westward, set_northward, set_southward}
use Rattle.laws_outline.specs.Under.{Behind, on_self, on_inside}
use Rattle.laws_cover.specs.Beside.{Weaker, no_course_behind}

-- ---- between two numbers

module _ (x : ℤ) where
  -- x from a up to b: it is not on one side of both
  up_apart : (a b : ℤ) → (le_z a x && le_z x b) ≡ true → ((x -ℤ a) *ℤ (x -ℤ b)) ≤ℤ pos 0
  up_apart a b e =
      let ρ = a ∷ b ∷ x ∷ [] in
      let h = both_yes (le_z a x) (le_z x b) e in
      conclude-≤ (from-≤ ρ (var 0) (var 2) (test-le a x h.0) ⊠ from-≤ ρ (var 2) (var 1) (test-le x b h.1))
      ((var 2 ⊖ var 0) ⊗ (var 2 ⊖ var 1)) (num (pos 0)) refl

  -- and it is so if it is no further than one of them, either way
  is_up : (a b : ℤ) → a ≤ℤ b → (x ≤ℤ a) ⊎ (x ≤ℤ b) → (a ≤ℤ x) ⊎ (b ≤ℤ x) → (le_z a x && le_z x b) ≡ true
  is_up a b l h k = yes_both (le_test (⊎_elim (λ g. g) (λ g. ≤ℤ_trans l g) k)) (le_test (⊎_elim (λ g. ≤ℤ_trans g l) (λ g. g) h))

  between-apart : (a b : ℤ) → between a b x ≡ true → ((x -ℤ a) *ℤ (x -ℤ b)) ≤ℤ pos 0
  unfolding between
  between-apart a b e =
      ⊎_elim (up_apart a b) (λ h. subst (λ (z : ℤ). z ≤ℤ pos 0) (*ℤ_comm (x -ℤ b) (x -ℤ a)) (up_apart b a h))
      (one_yes (le_z a x && le_z x b) (le_z b x && le_z x a) e)

  is-between : (a b : ℤ) → (x ≤ℤ a) ⊎ (x ≤ℤ b) → (a ≤ℤ x) ⊎ (b ≤ℤ x) → between a b x ≡ true
  unfolding between
  is-between a b h k =
      yes_one (le_z a x && le_z x b) (le_z b x && le_z x a)
      (⊎_elim (λ l. inl (is_up a b l h k)) (λ l. inr (is_up b a (<ℤ→≤ℤ l) (⊎_elim inr inl h) (⊎_elim inr inl k))) (≤ℤ_total a b))

-- ---- two corners

-- s is on their line, and on no side of both by its east or by its north. Seen from p and from q it then lies on opposite ways, or stands there, and is
-- stronger than both on no course
segment_behind : (p q s : Stream) → side p q s ≡ pos 0 → ((s.east -ℤ p.east) *ℤ (s.east -ℤ q.east)) ≤ℤ pos 0
    → ((s.north -ℤ p.north) *ℤ (s.north -ℤ q.north)) ≤ℤ pos 0 → Behind (Of (p ∷ q ∷ [])) s
unfolding side set_on
segment_behind p q s flush e n = no_course_behind p (q ∷ []) s
    (λ x y h. never x y (h p (Memᴰ.head refl)) (h q (Memᴰ.tail (Memᴰ.head refl))))
  where
    never : (x y : ℤ) → Weaker x y s p → Weaker x y s q → ⊥
    never x y hp hq =
        let ρ = p.east ∷ p.north ∷ q.east ∷ q.north ∷ s.east ∷ s.north ∷ x ∷ y ∷ [] in
        let sp = from-< ρ (east 3 ⊗ east 0 ⊕ north 3 ⊗ north 0) (east 3 ⊗ east 2 ⊕ north 3 ⊗ north 2) hp in
        let sq = from-< ρ (east 3 ⊗ east 1 ⊕ north 3 ⊗ north 1) (east 3 ⊗ east 2 ⊕ north 3 ⊗ north 2) hq in
        let across = east 3 ⊗ (north 2 ⊖ north 0) ⊖ north 3 ⊗ (east 2 ⊖ east 0) in
        refute (sp ⊠ sp ⊠ sq ⊞ square ρ across ⊠ sq ⊞ (square ρ (east 3) ⊞ square ρ (north 3)) ⊠ sp
        ⊠ (from-≤0 ρ ((east 2 ⊖ east 0) ⊗ (east 2 ⊖ east 1)) e ⊞ from-≤0 ρ ((north 2 ⊖ north 0) ⊗ (north 2 ⊖ north 1)) n)
        ⊞ scaled (from-≡0 ρ (tri 0 1 2) flush) ((east 3 ⊗ east 3 ⊕ north 3 ⊗ north 3) ⊗ across)) (pos 0) tt refl

-- a part f is the set on a course (x, y), and with its sign changed that on a course (u, v)
part-between : (p q s : Stream) (f : Stream → ℤ) (x y u v : ℤ) → ((t : Stream) → set_on x y t ≡ f t) → ((t : Stream) → set_on u v t ≡ neg_ℤ (f t))
    → Behind (Of (p ∷ q ∷ [])) s → between (f p) (f q) (f s) ≡ true
part-between p q s f x y u v to back h = is-between (f s) (f p) (f q) (more (h.stronger x y tt)) (less (h.stronger u v tt))
  where
    either : (P : Stream → Type 0) {t : Stream} → Memᴰ t (p ∷ q ∷ []) → P t → P p ⊎ P q
    either P m k = ⊎_elim (λ e. inl (subst P e k)) (λ n. inr (subst P (Memᴰ.eq_of_singleton n) k)) (Memᴰ.cases_cons m)

    more : (t : Stream) × Memᴰ t (p ∷ q ∷ []) × (set_on x y s ≤ℤ set_on x y t) → (f s ≤ℤ f p) ⊎ (f s ≤ℤ f q)
    more (t, m, k) = either (λ t. f s ≤ℤ f t) m (rw (← to s, ← to t) k)

    less : (t : Stream) × Memᴰ t (p ∷ q ∷ []) × (set_on u v s ≤ℤ set_on u v t) → (f p ≤ℤ f s) ⊎ (f q ≤ℤ f s)
    less (t, m, k) = either (λ t. f t ≤ℤ f s) m (let a = back s in let b = back t in omega (order, negation (f s), negation (f t)))

module _ (p q s : Stream) where
  pub two-behind : covers (p ∷ q ∷ []) s ≡ true → Behind (Of (p ∷ q ∷ [])) s
  unfolding covers
  two-behind h =
      let b = both_yes (eqZ (side p q s) (pos 0) && between p.east q.east s.east) (between p.north q.north s.north) h in
      let c = both_yes (eqZ (side p q s) (pos 0)) (between p.east q.east s.east) b.0 in
      segment_behind p q s (test-eq (side p q s) (pos 0) c.0) (between-apart s.east p.east q.east c.1)
      (between-apart s.north p.north q.north b.1)

  east-between : Behind (Of (p ∷ q ∷ [])) s → between p.east q.east s.east ≡ true
  east-between = part-between p q s (λ t. t.east) (pos 1) (pos 0) (negsuc 0) (pos 0) set_eastward set_westward

  north-between : Behind (Of (p ∷ q ∷ [])) s → between p.north q.north s.north ≡ true
  north-between = part-between p q s (λ t. t.north) (pos 0) (pos 1) (pos 0) (negsuc 0) set_northward set_southward

  pub behind-two : side p q s ≡ pos 0 → Behind (Of (p ∷ q ∷ [])) s → covers (p ∷ q ∷ []) s ≡ true
  unfolding covers
  behind-two flush h = yes_both (yes_both (eq_test flush) (east-between h)) (north-between h)

-- ---- one corner, as two at one position

between-same : (a x : ℤ) → between a a x ≡ true → a ≡ x
unfolding between
between-same a x h = ⊎_elim (test-eq a x) (test-eq a x) (one_yes (eqZ a x) (eqZ a x) h)

module _ (p s : Stream) where
  pub one-behind : covers (p ∷ []) s ≡ true → Behind (Of (p ∷ [])) s
  unfolding covers
  one-behind h = on_self (Memᴰ.head (sym (same_equal p s h)))

  pub behind-one : Behind (Of (p ∷ [])) s → covers (p ∷ []) s ≡ true
  unfolding covers
  behind-one h =
      let b = on_inside {T = Of (p ∷ p ∷ [])} (λ t m. Memᴰ.tail m) h in
      equal_same (streams_equal (between-same p.east s.east (east-between p p s b)) (between-same p.north s.north (north-between p p s b)))
