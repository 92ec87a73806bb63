-- Every sample hangs under its upper chain: it stands at a weighted mean of two corners, or straight below it.
-- Assumes nothing.
use Rattle.std.specs.Prelude.{◌≡◌, refl, ℤ, pos, ◌+ℤ◌, ◌-ℤ◌, ◌*ℤ◌, ◌≤ℤ◌, ◌<ℤ◌}
use Rattle.std.proofs.Common.{sym, ⊎_elim}
use mathlib.Core.List.{List, [], ◌∷◌, Memᴰ}
use Rattle.std.specs.Int.Signed.{lt_z_yes, le_z_yes}
use Rattle.whole.specs.Laws.{≤ℤ_total, ≤ℤ_antisym, <ℤ→≤ℤ, ≤ℤ→0≤}
use Rattle.whole.specs.Solver.{Ex, ring, num, ◌⊕◌, ◌⊖◌, ◌⊗◌, east, north, tri}
use Rattle.whole.specs.Certificate.{from-≤, from-<, from-≡, from-≤0, conclude-≤, conclude-<, conclude-≡}
use Rattle.rules.specs.Streams.{Stream, side}
use Rattle.rules.specs.Chain.{Samples, Of, Goes, stop, on, UpperChain, empty, starts}
use Rattle.laws_cover.specs.Weights.{in_all, to_east, to_north}

-- m times a part of p and n times that of q
abbrev pub pair : ℤ → Stream → ℤ → Stream → (Stream → ℤ) → ℤ
pair m p n q f = m *ℤ f p +ℤ n *ℤ f q

-- s stands at a weighted mean of two samples p and q, or straight below it
pub record Hangs (T : Samples) (s : Stream) : Type 0 where
  pub p : Stream
  pub q : Stream
  pub has_p : T p
  pub has_q : T q
  pub m : ℤ
  pub n : ℤ
  pub m_not_below : pos 0 ≤ℤ m
  pub n_not_below : pos 0 ≤ℤ n
  pub not_both_0 : pos 0 <ℤ in_all (pair m p n q)
  pub level : to_east (pair m p n q) ≡ in_all (pair m p n q) *ℤ s.east
  pub high : (in_all (pair m p n q) *ℤ s.north) ≤ℤ to_north (pair m p n q)

goes_hangs : {S T : Samples} {p : Stream} {C : List Stream} → Goes S p C → ((q : Stream) → Memᴰ q (p ∷ C) → T q) → (s : Stream) → S s
    → p.east ≤ℤ s.east → Hangs T s
unfolding side
goes_hangs (stop {p} r) f s h l = record {
  p = p;
  q = p;
  has_p = f p (Memᴰ.head refl);
  has_q = f p (Memᴰ.head refl);
  m = pos 1;
  n = pos 0;
  m_not_below = le_z_yes tt;
  n_not_below = le_z_yes tt;
  not_both_0 = lt_z_yes tt;
  level = conclude-≡ (from-≡ ρ (east 0) (east 1) (sym e)) (num (pos 1) ⊗ east 0 ⊕ num (pos 0) ⊗ east 0) (num (pos 1) ⊗ east 1) refl;
  high =
      conclude-≤ (from-≤ ρ (north 1) (north 0) (r.greatest s h e)) (num (pos 1) ⊗ north 1) (num (pos 1) ⊗ north 0 ⊕ num (pos 0) ⊗ north 0) refl;
}
  where
    e : s.east ≡ p.east
    e = ≤ℤ_antisym (r.most s h) l

    ρ : List ℤ
    ρ = p.east ∷ p.north ∷ s.east ∷ s.north ∷ []
goes_hangs {S} {T} (on {p} {q} {C} e t g) f s h l =
    ⊎_elim here (λ k. goes_hangs g (λ r n. f r (Memᴰ.tail n)) s h (<ℤ→≤ℤ k)) (≤ℤ_total s.east q.east)
  where
    here : s.east ≤ℤ q.east → Hangs T s
    here k = record {
      p = p;
      q = q;
      has_p = f p (Memᴰ.head refl);
      has_q = f q (Memᴰ.tail (Memᴰ.head refl));
      m = q.east -ℤ s.east;
      n = s.east -ℤ p.east;
      m_not_below = ≤ℤ→0≤ k;
      n_not_below = ≤ℤ→0≤ l;
      not_both_0 = conclude-< (from-< ρ (east 0) (east 1) e.ahead) (num (pos 0)) (m ⊗ num (pos 1) ⊕ n ⊗ num (pos 1)) refl;
      level = ring ρ (m ⊗ east 0 ⊕ n ⊗ east 1) ((m ⊗ num (pos 1) ⊕ n ⊗ num (pos 1)) ⊗ east 2) refl;
      high = conclude-≤ (from-≤0 ρ (tri 0 1 2) (e.below s h)) ((m ⊗ num (pos 1) ⊕ n ⊗ num (pos 1)) ⊗ north 2) (m ⊗ north 0 ⊕ n ⊗ north 1) refl;
    }
      where
        ρ : List ℤ
        ρ = p.east ∷ p.north ∷ q.east ∷ q.north ∷ s.east ∷ s.north ∷ []

        m : Ex
        m = east 1 ⊖ east 2

        n : Ex
        n = east 2 ⊖ east 0

pub chain_hangs : {S : Samples} {C : List Stream} → UpperChain S C → (s : Stream) → S s → Hangs (Of C) s
chain_hangs (empty f) s h = absurd (f s h)
chain_hangs (starts l g) s h = goes_hangs g (λ q n. n) s h (l.least s h)
