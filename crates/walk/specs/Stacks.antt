-- The stack at the front of a list of places, as the code keeps it: a corner put on top, and the walk over two ways, from its start to its end.
-- Assumes nothing.
use Rattle.std.specs.Prelude.{◌≡◌, ◌⊎◌, Bool, true, List, ℕ, suc, ◌+◌, ◌-◌, ◌≤◌, ◌<◌, ℤ, length, get_or, set}
use Rattle.std.proofs.Common.{sym, ap, ◌∙◌, subst, inl, inr, arith, length-set, get_or-set_same, get_or-set_other}
use Rattle.rules.specs.Streams.{Stream}
use Rattle.laws_stack.specs.Places.{below_or_last}
use Rattle.laws_stack.specs.Stack.{Before}
use Rattle.laws_stack.specs.DrawnWalk.{Comes, skips, tops, walk_start, walk_next, walk_on, walk_end}
use Rattle.walk.specs.declared.draw.Way.{Way}
use Rattle.walk.specs.TwoRings.{count, corner_at, listed_at, Stand, Settled, Next, Hides, Taken}
use Rattle.walk.specs.Ways.{first_way, second_way, way-corner, Ways, Stands, Drawn, Walking, Chained}

-- k at place t of w
module _ (w : List ℕ) (t k : ℕ) (room : t < length w) where
  before_top : (i : ℕ) → i < t → get_or (set w t k) i 0 ≡ get_or w i 0
  before_top i l = get_or-set_other w t i k 0 (omega arith)

  at_top : get_or (set w t k) t 0 ≡ k
  at_top = get_or-set_same w t k 0 room

  stand_top : {n : ℕ} → ((i : ℕ) → i < t → get_or w i 0 < n) → k < n → Stand n (set w t k) (suc t)
  stand_top {n} h l = record { room = simp length-set room; below = λ i m. go i (below_or_last m) }
    where
      go : (i : ℕ) → (i < t) ⊎ (i ≡ t) → get_or (set w t k) i 0 < n
      go i (inl p) = rw (before_top i p) (h i p)
      go i (inr e) = rw (e, at_top) l

module _ {es ns fs ms : List ℤ} {lower : Bool} where
  -- the corner s, at place k, is put on top of the t corners that stay
  pub taken_top : {w : List ℕ} {top t k : ℕ} {s : Stream} → s ≡ corner_at es ns fs ms lower k → Settled (listed_at es ns fs ms lower w) top s t
      → ((i : ℕ) → i < top → Before (listed_at es ns fs ms lower w i) s) → Stand (count es fs) w top → t < length w → k < count es fs
      → Taken es ns fs ms lower w top k (set w t k) (suc t)
  taken_top {w} {top} {t} {k} {s} e h b st room l = record {
    comes = subst (λ (x : Stream). Comes (listed_at es ns fs ms lower w) top x (listed_at es ns fs ms lower (set w t k)) (suc t)) e
        (tops h.fewer (λ i m. b i (let p = h.fewer in omega arith)) h.stay h.under (λ i m. ap (corner_at es ns fs ms lower) (before_top w t k room i m))
        (ap (corner_at es ns fs ms lower) (at_top w t k room) ∙ sym e));
    stand = stand_top w t k room (λ i m. st.below i (let p = h.fewer in omega arith)) l;
    more = let p = h.fewer in omega arith;
  }

  -- the corner s, at place k, is hidden
  pub taken_hidden : {w : List ℕ} {top k : ℕ} {s : Stream} {r : Bool} → s ≡ corner_at es ns fs ms lower k → Hides (listed_at es ns fs ms lower w) top s r → r ≡ true
      → Stand (count es fs) w top → Taken es ns fs ms lower w top k w top
  taken_hidden {w} {top} {s} e h y st = record {
    comes = subst (λ (x : Stream). Comes (listed_at es ns fs ms lower w) top x (listed_at es ns fs ms lower w) top) e
        (let p = h.hidden y in skips (top - 1) (omega arith) p.1 p.2);
    stand = st;
    more = omega arith;
  }

  -- ---- the walk

  module _ {a b : Way} where
    pub walking_start : {w : List ℕ} → Walking es ns fs ms lower a b w 0 0 0
    walking_start = record {
      few = omega arith;
      stand = record { room = omega arith; below = λ i l. absurd (omega arith) };
      walk = walk_start (first_way es ns fs ms lower a) a.count (second_way es ns fs ms lower b) b.count;
    }

    module _ {w : List ℕ} {i j top : ℕ} (h : Walking es ns fs ms lower a b w i j top) where
      pub walking_stands : i + j < a.count + b.count → Stands a b i j
      walking_stands l = record { inside = h.walk.inside; inside2 = h.walk.inside2; left = l }

      module _ {k i' j' : ℕ} (d : Drawn es ns fs ms lower a b i j k i' j') where
        -- the corner that is drawn comes next
        pub walking_next : Next (listed_at es ns fs ms lower w) top (corner_at es ns fs ms lower k)
        walking_next = record {
          stacked = h.walk.stack.stacked;
          west = walk_next (first_way es ns fs ms lower a) a.count (second_way es ns fs ms lower b) b.count h.walk d.draws;
        }

        pub walking_on : Ways es ns fs ms lower a b → {r : ℕ} {w' : List ℕ} → Taken es ns fs ms lower w top k w' r → Walking es ns fs ms lower a b w' i' j' r
        walking_on o t = record {
          few = omega (arith, h.few, t.more, d.one);
          stand = t.stand;
          walk = walk_on (first_way es ns fs ms lower a) a.count (second_way es ns fs ms lower b) b.count h.walk o.east d.draws t.comes;
        }

      pub walking_end : Ways es ns fs ms lower a b → a.count + b.count ≤ i + j → Chained es ns fs ms lower a b w top
      walking_end o l = record {
        chain = walk_end (first_way es ns fs ms lower a) a.count (second_way es ns fs ms lower b) b.count h.walk (way-corner o) o.under l;
        stand = h.stand;
        few = omega (arith, h.few, h.walk.inside, h.walk.inside2);
      }
