-- A list that passes the test of neighbours splits into two lists that fit: the corners of the sides that go east, and those of the sides that go west,
-- gathered from right to left.
-- Assumes nothing.
use Rattle.std.specs.Prelude.{◌≡◌, refl, ◌≢◌, ◌⊎◌, Bool, true, false, cond, ◌||◌, ℤ, pos, ◌≤ℤ◌, ◌<ℤ◌}
use Rattle.std.proofs.Common.{sym, ap, ◌∙◌, subst, inl, inr, ⊎_elim}
use Rattle.std.proofs.Math.Option.{Option, some}
use mathlib.Core.List.{List, [], ◌∷◌, ◌++◌, map, reverse, reverse_aux}
use Rattle.std.specs.Int.Signed.{le_z, lt_z, ≤ℤ_refl, clash_ℤ}
use Rattle.whole.specs.Laws.{≤ℤ_of-≡, ≤ℤ_total, ≤ℤ_split, ℤ_trichotomy, <ℤ→≤ℤ, <ℤ_trans, <ℤ→≢, test-lt, test-le}
use Rattle.whole.specs.Solver.{◌⊖◌, east, north, tri}
use Rattle.whole.specs.Certificate.{◌⊞◌, ◌⊠◌, scaled, from-≤, from-≡, from-<0, refute}
use Rattle.rules.specs.Streams.{Stream, side, same, mirrored}
use Rattle.rules.specs.Chain.{Turn, leftmost}
use Rattle.rules.specs.Ring.{leave_first, leave_last, closed}
use Rattle.laws_outline.specs.ListLaws.{both_yes, one_yes}
use Rattle.laws_outline.specs.TwoKeys.{two_keys_yes}
use Rattle.laws_outline.specs.SamePosition.{equal_same, no_same}
use Rattle.laws_outline.specs.Sidedness.{side_of_second, below-at-second}
use Rattle.laws_neighbours.specs.NeighbourTest.{turns, closes, goes_round, neighbourly}
use Rattle.laws_neighbours.specs.TurnsMakeChain.{Bends, ends, bends, far_end, last_far, mirrored-turn}
use Rattle.laws_neighbours.specs.ListsFit.{Atop, Parts}

atop_itself : (p : Stream) → Atop p p
atop_itself p = record { level = refl; high = ≤ℤ_refl p.north }

-- a strict turn leads away from its corner
turn-away : (a b c : Stream) → side a b c <ℤ pos 0 → b ≢ c
turn-away a b c t e = clash_ℤ t (≤ℤ_of-≡ (sym (side_of_second a b) ∙ ap (side a b) e))

-- ---- the sides that go west

-- at b, with the corners `done` to the right of it and C to come, before the first corner: the list below, from its left end l, and the corners Z
-- that follow b in it, the first corner left in
record Way (first b : Stream) (done C : List Stream) : Type 0 where
  l : Stream
  L : List Stream
  Z : List Stream
  below : Bends (mirrored l) (map mirrored L)
  left : Atop first l
  right : far_end l L ≡ far_end b done
  order : reverse (l ∷ L) ≡ reverse_aux done (b ∷ Z)
  kept : leave_last (some first) (b ∷ Z) ≡ b ∷ C

-- after a side that goes west, or straight down, a strict right turn at one east goes up
goes_up : (a b c : Stream) → b.east ≤ℤ a.east → c.east ≡ b.east → side a b c <ℤ pos 0 → b.north <ℤ c.north
unfolding side
goes_up a b c ba e t = ⊎_elim no_turn (λ h. h) (≤ℤ_total c.north b.north)
  where
    ρ : List ℤ
    ρ = a.east ∷ a.north ∷ b.east ∷ b.north ∷ c.east ∷ c.north ∷ []

    no_turn : c.north ≤ℤ b.north → b.north <ℤ c.north
    no_turn h = refute (from-<0 ρ (tri 0 1 2) t ⊞ from-≤ ρ (east 1) (east 0) ba ⊠ from-≤ ρ (north 2) (north 1) h
        ⊞ scaled (from-≡ ρ (east 2) (east 1) e) (north 1 ⊖ north 0)) (pos 0) tt refl

westward : (first a b : Stream) (done C : List Stream) → b.east ≤ℤ a.east → Bends (mirrored b) (map mirrored done)
    → ((c : Stream) → side a b c <ℤ pos 0 → Turn (mirrored c) (mirrored b) (map mirrored done)) → goes_round first a b C ≡ true → Way first b done C
unfolding goes_round turns closes
westward first a b done [] ba w t g = go (≤ℤ_split (test-le first.east b.east says.1))
  where
    says : (lt_z (side a b first) (pos 0) ≡ true) × (le_z first.east b.east ≡ true)
    says = both_yes (lt_z (side a b first) (pos 0)) (le_z first.east b.east) g

    turn : side a b first <ℤ pos 0
    turn = test-lt (side a b first) (pos 0) says.0

    go : (first.east <ℤ b.east) ⊎ (first.east ≡ b.east) → Way first b done []
    go (inl h) = record {
      l = first;
      L = b ∷ done;
      Z = first ∷ [];
      below = bends h (t first turn) w;
      left = atop_itself first;
      right = refl;
      order = refl;
      kept = ap (λ (s : Bool). b ∷ cond s [] (first ∷ [])) (equal_same refl);
    }
    go (inr e) = record {
      l = b;
      L = done;
      Z = [];
      below = w;
      left = record { level = sym e; high = <ℤ→≤ℤ (goes_up a b first ba e turn) };
      right = refl;
      order = refl;
      kept = ap (λ (s : Bool). cond s [] (b ∷ [])) (no_same (λ q. turn-away a b first turn (sym q)));
    }
westward first a b done (c ∷ C) ba w t g = further (westward first b c (b ∷ done) C (<ℤ→≤ℤ cb) (bends cb (t c turn) w) (mirrored-turn b c) says.1)
  where
    says : (turns a b c ≡ true) × (goes_round first b c C ≡ true)
    says = both_yes (turns a b c) (goes_round first b c C) g

    here : (lt_z (side a b c) (pos 0) ≡ true) × ((lt_z a.east b.east || lt_z c.east b.east) ≡ true)
    here = both_yes (lt_z (side a b c) (pos 0)) (lt_z a.east b.east || lt_z c.east b.east) says.0

    turn : side a b c <ℤ pos 0
    turn = test-lt (side a b c) (pos 0) here.0

    cb : c.east <ℤ b.east
    cb = ⊎_elim (λ h. clash_ℤ (test-lt a.east b.east h) ba) (λ h. test-lt c.east b.east h)
        (one_yes (lt_z a.east b.east) (lt_z c.east b.east) here.1)

    further : Way first c (b ∷ done) C → Way first b done (c ∷ C)
    further v = record {
      l = v.l;
      L = v.L;
      Z = c ∷ v.Z;
      below = v.below;
      left = v.left;
      right = v.right;
      order = v.order;
      kept = ap (λ (R : List Stream). b ∷ R) v.kept;
    }

-- ---- the sides that go east

-- at b, come to from a, with C to come: the corners U above that follow b, and the list below, from its left end l
record Halves (first a b : Stream) (C : List Stream) : Type 0 where
  l : Stream
  L : List Stream
  U : List Stream
  above : Bends b U
  turn : Turn a b U
  below : Bends (mirrored l) (map mirrored L)
  left : Atop first l
  right : Atop (far_end b U) (far_end l L)
  closes : U ++ leave_last (some first) (leave_first (some (far_end b U)) (reverse (l ∷ L))) ≡ C

-- the last corner above is b
turn_west : {first a b c : Stream} {C : List Stream} (done : List Stream) → Way first c done C → Atop b (far_end c done)
    → ((Z : List Stream) → leave_first (some b) (reverse_aux done (c ∷ Z)) ≡ c ∷ Z) → Halves first a b (c ∷ C)
turn_west {first} {b} done v h e = record {
  l = v.l;
  L = v.L;
  U = [];
  above = ends;
  turn = tt;
  below = v.below;
  left = v.left;
  right = subst (Atop b) (sym v.right) h;
  closes = ap (λ (R : List Stream). leave_last (some first) (leave_first (some b) R)) v.order
      ∙ ap (leave_last (some first)) (e v.Z) ∙ v.kept;
}

eastward : (first a b : Stream) (C : List Stream) → a.east <ℤ b.east → first.east <ℤ b.east → goes_round first a b C ≡ true → Halves first a b C
unfolding goes_round turns
eastward first a b [] ab fb g = record {
  l = first;
  L = b ∷ [];
  U = [];
  above = ends;
  turn = tt;
  below = bends fb tt ends;
  left = atop_itself first;
  right = atop_itself b;
  closes = ap (λ (s : Bool). leave_last (some first) (cond s (first ∷ []) (b ∷ first ∷ []))) (equal_same {p = b} refl)
      ∙ ap (λ (s : Bool). cond s [] (first ∷ [])) (equal_same {p = first} refl);
}
eastward first a b (c ∷ C) ab fb g = go (ℤ_trichotomy b.east c.east) (λ bc. eastward first b c C bc (<ℤ_trans fb bc) says.1)
  where
    says : (turns a b c ≡ true) × (goes_round first b c C ≡ true)
    says = both_yes (turns a b c) (goes_round first b c C) g

    bend : side a b c <ℤ pos 0
    bend = test-lt (side a b c) (pos 0) (both_yes (lt_z (side a b c) (pos 0)) (lt_z a.east b.east || lt_z c.east b.east) says.0).0

    go : (b.east <ℤ c.east) ⊎ ((b.east ≡ c.east) ⊎ (c.east <ℤ b.east)) → (b.east <ℤ c.east → Halves first b c C) → Halves first a b (c ∷ C)
    go (inl h) r = let v = r h in record {
      l = v.l;
      L = v.L;
      U = c ∷ v.U;
      above = bends h v.turn v.above;
      turn = bend;
      below = v.below;
      left = v.left;
      right = v.right;
      closes = ap (λ (R : List Stream). c ∷ R) v.closes;
    }
    go (inr (inl e)) r = turn_west [] (westward first b c [] C (≤ℤ_of-≡ (sym e)) ends (λ d h. tt) says.1)
        (record { level = sym e; high = below-at-second a b c ab (sym e) (<ℤ→≤ℤ bend) })
        (λ Z. ap (λ (s : Bool). cond s Z (c ∷ Z)) (no_same (turn-away a b c bend)))
    go (inr (inr h)) r = turn_west (b ∷ []) (westward first b c (b ∷ []) C (<ℤ→≤ℤ h) (bends h tt ends) (mirrored-turn b c) says.1) (atop_itself b)
        (λ Z. ap (λ (s : Bool). cond s (c ∷ Z) (b ∷ c ∷ Z)) (equal_same {p = b} refl))

-- ---- the whole list

pub split : (x : Stream) (xs : List Stream) → neighbourly (x ∷ xs) ≡ true → Parts (x ∷ xs)
unfolding neighbourly leftmost closed
split p [] g = record {
  u = p;
  l = p;
  U = [];
  L = [];
  fit = record { above = ends; below = ends; left = atop_itself p; right = atop_itself p };
  closes = ap (λ (s : Bool). p ∷ leave_last (some p) (cond s [] (p ∷ []))) (equal_same {p = p} refl);
}
split p (q ∷ []) g = go (two_keys_yes p.east q.east p.east q.east q.north p.north g)
  where
    go : (p.east <ℤ q.east) ⊎ ((p.east ≡ q.east) × (q.north <ℤ p.north)) → Parts (p ∷ q ∷ [])
    go (inl h) = record {
      u = p;
      l = p;
      U = q ∷ [];
      L = q ∷ [];
      fit = record
          { above = bends h tt ends; below = bends h tt ends; left = atop_itself p; right = atop_itself q };
      closes = ap (λ (s : Bool). p ∷ q ∷ leave_last (some p) (cond s (p ∷ []) (q ∷ p ∷ []))) (equal_same {p = q} refl)
          ∙ ap (λ (s : Bool). p ∷ q ∷ cond s [] (p ∷ [])) (equal_same {p = p} refl);
    }
    go (inr h) = record {
      u = p;
      l = q;
      U = [];
      L = [];
      fit = record { above = ends; below = ends; left = down; right = down };
      closes = ap (λ (s : Bool). p ∷ leave_last (some p) (cond s [] (q ∷ []))) apart ∙ ap (λ (s : Bool). p ∷ cond s [] (q ∷ [])) apart;
    }
      where
        down : Atop p q
        down = record { level = sym h.0; high = <ℤ→≤ℤ h.1 }

        apart : same p q ≡ false
        apart = no_same (λ e. <ℤ→≢ h.1 (ap (λ (s : Stream). s.north) (sym e)))
split p (q ∷ r ∷ C) g = whole (eastward p p q (r ∷ C) pq pq says.1)
  where
    says : (lt_z p.east q.east ≡ true) × (goes_round p p q (r ∷ C) ≡ true)
    says = both_yes (lt_z p.east q.east) (goes_round p p q (r ∷ C)) g

    pq : p.east <ℤ q.east
    pq = test-lt p.east q.east says.0

    whole : Halves p p q (r ∷ C) → Parts (p ∷ q ∷ r ∷ C)
    whole v = record {
      u = p;
      l = v.l;
      U = q ∷ v.U;
      L = v.L;
      fit = record
          { above = bends pq v.turn v.above; below = v.below; left = v.left; right = v.right };
      closes = ap (λ (m : Option Stream). p ∷ q ∷ (v.U ++ leave_last (some p) (leave_first m (reverse (v.l ∷ v.L))))) (last_far q v.U)
          ∙ ap (λ (R : List Stream). p ∷ q ∷ R) v.closes;
    }
