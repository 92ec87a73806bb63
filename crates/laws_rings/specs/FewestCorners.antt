-- The rings of fewest corners: no samples give none, one position gives one, and samples on one line give its two ends, the western first or, where
-- the line runs straight north, the top. Assumes nothing.
use Rattle.std.specs.Prelude.{◌≡◌, refl, ◌≢◌, ◌⊎◌, Bool, cond, ℤ, pos, neg_ℤ, ◌-ℤ◌, ◌*ℤ◌, ◌≤ℤ◌, ◌<ℤ◌}
use Rattle.std.proofs.Math.Path.{sym}
use Rattle.std.proofs.Common.{ap, ap₂, ◌∙◌, subst, inl, inr, ⊎_elim}
use Rattle.std.proofs.Math.Option.{some}
use mathlib.Core.List.Memᴰ
use mathlib.Core.List.{List, [], ◌∷◌, Memᴰ}
use Rattle.whole.specs.Linear.{order, negation}
use Rattle.whole.specs.Laws.{≤ℤ_of-≡, ≤ℤ_antisym, <ℤ→≢, *ℤ-≡0, 0≡→≡, ≤ℤ_total}
use Rattle.whole.specs.Solver.{num, ◌⊖◌, ◌⊗◌, east, north, tri}
use Rattle.whole.specs.Certificate.{◌⊞◌, scaled, from-≡0, conclude-≡}
use Rattle.rules.specs.Streams.{Stream, side, mirrored}
use Rattle.rules.specs.Chain.{Samples, Of, LeftEnd, RightEnd, Edge, stop, on, UpperChain, empty, starts, corners, upper, lower}
use Rattle.rules.specs.Ring.{closed, ring, leave_last}
use Rattle.laws_outline.specs.SamePosition.{equal_same, no_same, streams_equal}
use Rattle.laws_outline.specs.Sidedness.{mirrored-twice, side-mirrored, on_at_first, on_at_second}
use Rattle.laws_outline.specs.Under.{Through}
use Rattle.laws_outline.specs.Chains.{upper_is, upper_only}
use Rattle.laws_outline.specs.SameOutline.{lower-is, lower_only}

pub no_samples : ring [] ≡ []
unfolding ring closed upper lower corners
no_samples = refl

-- ---- two chains closed that have their ends in common

pub closed-one : (p : Stream) → closed (p ∷ []) (p ∷ []) ≡ p ∷ []
unfolding closed
closed-one p = ap (λ (b : Bool). p ∷ leave_last (some p) (cond b [] (p ∷ []))) (equal_same refl)

closed-two : (p q : Stream) → closed (p ∷ q ∷ []) (p ∷ q ∷ []) ≡ p ∷ q ∷ []
unfolding closed
closed-two p q =
    ap (λ (b : Bool). p ∷ q ∷ leave_last (some p) (cond b (p ∷ []) (q ∷ p ∷ []))) (equal_same refl) ∙
    ap (λ (b : Bool). p ∷ q ∷ cond b [] (p ∷ [])) (equal_same refl)

-- and two of one corner that have not
closed-apart : (p q : Stream) → p ≢ q → closed (p ∷ []) (q ∷ []) ≡ p ∷ q ∷ []
unfolding closed
closed-apart p q f =
    ap (λ (b : Bool). p ∷ leave_last (some p) (cond b [] (q ∷ []))) (no_same f) ∙
    ap (λ (b : Bool). p ∷ cond b [] (q ∷ [])) (no_same f)

-- ---- all samples at one east: the upper chain is the top alone

pub record Top (S : Samples) (p : Stream) : Type 0 where
  pub given : S p
  pub upright : (s : Stream) → S s → s.east ≡ p.east
  pub greatest : (s : Stream) → S s → s.north ≤ℤ p.north

top_chain : {S : Samples} {p : Stream} → Top S p → UpperChain S (p ∷ [])
top_chain {S} {p} t = starts left (stop right)
  where
    left : LeftEnd S p
    left = record { given = t.given; least = λ s m. ≤ℤ_of-≡ (sym (t.upright s m)); greatest = λ s m e. t.greatest s m }

    right : RightEnd S p
    right = record { given = t.given; most = λ s m. ≤ℤ_of-≡ (t.upright s m); greatest = λ s m e. t.greatest s m }

upper_top : {xs : List Stream} {p : Stream} → Top (Of xs) p → upper xs ≡ p ∷ []
upper_top t = upper_only (top_chain t)

lower_top : {xs : List Stream} {q : Stream} → Top (Through mirrored (Of xs)) (mirrored q) → lower xs ≡ q ∷ []
lower_top {q} t = lower_only (top_chain t) ∙ ap (λ (s : Stream). s ∷ []) (mirrored-twice q)

-- "One position gives one corner"
pub one_position : (p : Stream) (xs : List Stream) → Memᴰ p xs → ((s : Stream) → Memᴰ s xs → s ≡ p) → ring xs ≡ p ∷ []
unfolding ring
one_position p xs m all = ap₂ closed (upper_top (top m all)) (lower_top (top (Memᴰ.cast (mirrored-twice p) m) mirrored-all)) ∙ closed-one p
  where
    top : {S : Samples} {q : Stream} → S q → ((s : Stream) → S s → s ≡ q) → Top S q
    top n a =
        record {
          given = n;
          upright = λ s k. ap (λ (t : Stream). t.east) (a s k);
          greatest = λ s k. ≤ℤ_of-≡ (ap (λ (t : Stream). t.north) (a s k));
        }

    mirrored-all : (s : Stream) → Memᴰ (mirrored s) xs → s ≡ mirrored p
    mirrored-all s n = sym (mirrored-twice s) ∙ ap mirrored (all (mirrored s) n)

-- all samples stand at one east, from the top p to the bottom q
pub record Upright (S : Samples) (p q : Stream) : Type 0 where
  pub top : S p
  pub bottom : S q
  pub apart : q.north <ℤ p.north
  pub upright : (s : Stream) → S s → s.east ≡ p.east
  pub below : (s : Stream) → S s → s.north ≤ℤ p.north
  pub above : (s : Stream) → S s → q.north ≤ℤ s.north

pub upright_apart : {S : Samples} {p q : Stream} → Upright S p q → p ≢ q
upright_apart u e = <ℤ→≢ u.apart (ap (λ (s : Stream). s.north) (sym e))

pub upright_ring : (xs : List Stream) {p q : Stream} → Upright (Of xs) p q → ring xs ≡ p ∷ q ∷ []
unfolding ring
upright_ring xs {p} {q} u = ap₂ closed (upper_top top) (lower_top bottom) ∙ closed-apart p q (upright_apart u)
  where
    top : Top (Of xs) p
    top = record { given = u.top; upright = u.upright; greatest = u.below }

    deeper : (s : Stream) → q.north ≤ℤ neg_ℤ s.north → s.north ≤ℤ neg_ℤ q.north
    deeper s h = omega (order, negation s.north, negation q.north)

    bottom : Top (Through mirrored (Of xs)) (mirrored q)
    bottom =
        record {
          given = Memᴰ.cast (mirrored-twice q) u.bottom;
          upright = λ s m. u.upright (mirrored s) m ∙ sym (u.upright q u.bottom);
          greatest = λ s m. deeper s (u.above (mirrored s) m);
        }

-- ---- all samples stand on the line from p east to q, between them

pub record Line (S : Samples) (p q : Stream) : Type 0 where
  pub from : S p
  pub to : S q
  pub ahead : p.east <ℤ q.east
  pub after : (s : Stream) → S s → p.east ≤ℤ s.east
  pub before : (s : Stream) → S s → s.east ≤ℤ q.east
  pub flush : (s : Stream) → S s → side p q s ≡ pos 0

pub line-apart : {S : Samples} {p q : Stream} → Line S p q → p ≢ q
line-apart l e = <ℤ→≢ l.ahead (ap (λ (s : Stream). s.east) e)

line-chain : {S : Samples} {p q : Stream} → Line S p q → UpperChain S (p ∷ q ∷ [])
line-chain {S} {p} {q} l = starts left (on edge tt (stop right))
  where
    edge : Edge S p q
    edge = record { from = l.from; to = l.to; ahead = l.ahead; below = λ s m. ≤ℤ_of-≡ (l.flush s m) }

    left : LeftEnd S p
    left = record { given = l.from; least = l.after; greatest = λ s m e. ≤ℤ_of-≡ (on_at_first p q s l.ahead e (l.flush s m)) }

    right : RightEnd S q
    right = record { given = l.to; most = l.before; greatest = λ s m e. ≤ℤ_of-≡ (on_at_second p q s l.ahead e (l.flush s m)) }

line-mirrored : {S : Samples} {p q : Stream} → Line S p q → Line (Through mirrored S) (mirrored p) (mirrored q)
line-mirrored {S} {p} {q} l =
    record {
      from = subst S (sym (mirrored-twice p)) l.from;
      to = subst S (sym (mirrored-twice q)) l.to;
      ahead = l.ahead;
      after = λ s m. l.after (mirrored s) m;
      before = λ s m. l.before (mirrored s) m;
      flush = λ s m. flush s (l.flush (mirrored s) m);
    }
  where
    flush : (s : Stream) → side p q (mirrored s) ≡ pos 0 → side (mirrored p) (mirrored q) s ≡ pos 0
    flush s e = ap (side (mirrored p) (mirrored q)) (sym (mirrored-twice s)) ∙ side-mirrored p q (mirrored s) ∙ ap neg_ℤ e

pub line-ring : (xs : List Stream) {p q : Stream} → Line (Of xs) p q → ring xs ≡ p ∷ q ∷ []
unfolding ring
line-ring xs {p} {q} l = ap₂ closed (upper_only (line-chain l)) lower-line ∙ closed-two p q
  where
    lower-line : lower xs ≡ p ∷ q ∷ []
    lower-line = lower_only (line-chain (line-mirrored l)) ∙ ap₂ (λ (a b : Stream). a ∷ b ∷ []) (mirrored-twice p) (mirrored-twice q)

-- ---- "all samples on one line give two"

-- streams on the line of two positions are on one another's
module _ (u v p q s : Stream) (up : side u v p ≡ pos 0) (uq : side u v q ≡ pos 0) (us : side u v s ≡ pos 0) where
  ρ : List ℤ
  ρ = p.east ∷ p.north ∷ q.east ∷ q.north ∷ s.east ∷ s.north ∷ u.east ∷ u.north ∷ v.east ∷ v.north ∷ []

  over-easts : (v.east -ℤ u.east) *ℤ side p q s ≡ pos 0
  unfolding side ρ
  over-easts =
      let zs = scaled (from-≡0 ρ (tri 3 4 2) us) (east 1 ⊖ east 0) in
      let zp = scaled (from-≡0 ρ (tri 3 4 0) up) (east 2 ⊖ east 1) in
      let zq = scaled (from-≡0 ρ (tri 3 4 1) uq) (east 0 ⊖ east 2) in
      sym (conclude-≡ (zs ⊞ zp ⊞ zq) (num (pos 0)) ((east 4 ⊖ east 3) ⊗ tri 0 1 2) refl)

  over-norths : (v.north -ℤ u.north) *ℤ side p q s ≡ pos 0
  unfolding side ρ
  over-norths =
      let zs = scaled (from-≡0 ρ (tri 3 4 2) us) (north 1 ⊖ north 0) in
      let zp = scaled (from-≡0 ρ (tri 3 4 0) up) (north 2 ⊖ north 1) in
      let zq = scaled (from-≡0 ρ (tri 3 4 1) uq) (north 0 ⊖ north 2) in
      sym (conclude-≡ (zs ⊞ zp ⊞ zq) (num (pos 0)) ((north 4 ⊖ north 3) ⊗ tri 0 1 2) refl)

  pub all-flush : u ≢ v → side p q s ≡ pos 0
  all-flush f = ⊎_elim upright (λ z. z) (*ℤ-≡0 (v.east -ℤ u.east) (side p q s) over-easts)
    where
      met : v.east -ℤ u.east ≡ pos 0 → v.north -ℤ u.north ≡ pos 0 → u ≡ v
      met e n = streams_equal (0≡→≡ u.east v.east e) (0≡→≡ u.north v.north n)

      upright : v.east -ℤ u.east ≡ pos 0 → side p q s ≡ pos 0
      upright e = ⊎_elim (λ n. absurd (f (met e n))) (λ z. z) (*ℤ-≡0 (v.north -ℤ u.north) (side p q s) over-norths)

-- the line that all samples stand on runs from west to east, or straight down
abbrev pub Ends : List Stream → Type 0
Ends xs = (p : Stream) × (q : Stream) × (Line (Of xs) p q ⊎ Upright (Of xs) p q)

-- two samples at different positions
module _ (xs : List Stream) {u v : Stream} (mu : Memᴰ u xs) (mv : Memᴰ v xs) (f : u ≢ v) where
  -- an upper chain of one corner, and a lower chain
  down : {p : Stream} → LeftEnd (Of xs) p → RightEnd (Of xs) p → {C : List Stream} → UpperChain (Through mirrored (Of xs)) C → Ends xs
  down l r (empty n) = absurd (n (mirrored u) (Memᴰ.cast (mirrored-twice u) mu))
  down {p} l r (starts {p = q} m g) =
      (p, mirrored q, inr (record { top = l.given; bottom = m.given; apart = apart; upright = upright; below = below; above = above }))
    where
      upright : (s : Stream) → Memᴰ s xs → s.east ≡ p.east
      upright s n = ≤ℤ_antisym (r.most s n) (l.least s n)

      below : (s : Stream) → Memᴰ s xs → s.north ≤ℤ p.north
      below s n = l.greatest s n (upright s n)

      level : (s : Stream) → Memᴰ s xs → s.east ≡ q.east
      level s n = upright s n ∙ sym (upright (mirrored q) m.given)

      above : (s : Stream) → Memᴰ s xs → neg_ℤ q.north ≤ℤ s.north
      above s n =
          let h : neg_ℤ s.north ≤ℤ q.north = m.greatest (mirrored s) (Memᴰ.cast (mirrored-twice s) n) (level s n) in
          omega (order, negation s.north, negation q.north)

      -- if top and bottom met, all samples would be at one position
      same-north : p.north ≤ℤ neg_ℤ q.north → u.north ≡ v.north
      same-north h =
          let bu = below u mu in
          let au = above u mu in
          let bv = below v mv in
          let av = above v mv in
          omega order

      met : p.north ≤ℤ neg_ℤ q.north → ⊥
      met h = f (streams_equal (upright u mu ∙ sym (upright v mv)) (same-north h))

      apart : neg_ℤ q.north <ℤ p.north
      apart = ⊎_elim (λ h. absurd (met h)) (λ h. h) (≤ℤ_total p.north (neg_ℤ q.north))

  module _ (flush : (s : Stream) → Memᴰ s xs → side u v s ≡ pos 0) where
    pub one_line : Ends xs
    one_line = go (upper_is xs)
      where
        on_line : (p q s : Stream) → Memᴰ p xs → Memᴰ q xs → Memᴰ s xs → side p q s ≡ pos 0
        on_line p q s mp mq ms = all-flush u v p q s (flush p mp) (flush q mq) (flush s ms) f

        go : {C : List Stream} → UpperChain (Of xs) C → Ends xs
        go (empty n) = absurd (n u mu)
        go (starts l (stop r)) = down l r (lower-is xs)
        go (starts {p} l (on {q} e t (stop r))) = (
          p,
          q,
          inl (record {
            from = l.given;
            to = r.given;
            ahead = e.ahead;
            after = l.least;
            before = r.most;
            flush = λ s m. on_line p q s l.given r.given m;
          }),
        )
        go (starts {p} l (on {q} e t (on {q = r} d t' g))) = absurd (<ℤ→≢ t (on_line p q r l.given e.to d.to))

    pub one-line-ring : (p : Stream) × (q : Stream) × (p ≢ q) × (ring xs ≡ p ∷ q ∷ [])
    one-line-ring = let (p, q, d) = one_line in ⊎_elim (λ l. (p, q, line-apart l, line-ring xs l)) (λ l. (p, q, upright_apart l, upright_ring xs l)) d
