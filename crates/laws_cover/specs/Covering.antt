-- What an envelope covers: the weighted means of its corners, which lie behind it, so that one joined to it changes nothing.
-- Assumes nothing.
use Rattle.std.specs.Prelude.{◌≡◌, true, ◌||◌, List, [], ◌∷◌, ◌++◌, pos, ◌<ℤ◌}
use Rattle.std.proofs.Math.Path.{sym}
use Rattle.std.proofs.Common.{◌∙◌, subst}
use Rattle.std.proofs.lemmas.Bool.{false≢true}
use mathlib.Core.List.Memᴰ
use Rattle.std.specs.Int.Signed.{lt_z}
use Rattle.whole.specs.Linear.{order, negation}
use Rattle.whole.specs.Laws.{test-lt}
use Rattle.rules.specs.Streams.{Stream, side}
use Rattle.rules.specs.Chain.{Of}
use Rattle.rules.specs.Ring.{ring}
use Rattle.rules.specs.Use.{envelope, Mean, covers, join}
use Rattle.laws_outline.specs.ListLaws.{both_yes}
use Rattle.laws_outline.specs.Sidedness.{side-back}
use Rattle.laws_outline.specs.Under.{Behind, on_line}
use Rattle.laws_rings.specs.Rings.{envelope-ring}
use Rattle.laws_rings.specs.Joins.{behind-same-ring}
use Rattle.laws_neighbours.specs.NeighbourTest.{turns, goes_round, neighbourly}
use Rattle.laws_neighbours.specs.Recognised.{recognised}
use Rattle.laws_cover.specs.Means.{mean_behind, behind_mean}
use Rattle.laws_cover.specs.EdgeSides.{Sides, NoneLeft, NotLeft, way_as, ring-sides, beside-way, way_beside}
use Rattle.laws_cover.specs.Beside.{sides-behind}
use Rattle.laws_cover.specs.FewCorners.{one-behind, behind-one, two-behind, behind-two}

-- ---- what is covered lies behind

-- the first three corners of an envelope turn strictly right
pub first-turn : (p q r : Stream) (ps : List Stream) → envelope (p ∷ q ∷ r ∷ ps) ≡ true → side p q r <ℤ pos 0
unfolding neighbourly goes_round turns
first-turn p q r ps e =
    let a = both_yes (lt_z p.east q.east) (goes_round p p q (r ∷ ps)) (recognised (p ∷ q ∷ r ∷ ps) ∙ e) in
    let b = both_yes (turns p q r) (goes_round p q r ps) a.1 in
    let c = both_yes (lt_z (side p q r) (pos 0)) (lt_z p.east q.east || lt_z r.east q.east) b.0 in
    test-lt (side p q r) (pos 0) c.0

pub covers-behind : (r : List Stream) (s : Stream) → envelope r ≡ true → covers r s ≡ true → Behind (Of r) s
unfolding covers
covers-behind [] s e c = absurd (false≢true c)
covers-behind (p ∷ []) s e c = one-behind p s c
covers-behind (p ∷ q ∷ []) s e c = two-behind p q s c
covers-behind (p ∷ q ∷ r ∷ ps) s e c = sides-behind p q r ps s (first-turn p q r ps e) (beside-way s p p (q ∷ r ∷ ps) c)

-- ---- and what lies behind is covered

-- it is left of no side, since no corner is
pub behind-sides : (r : List Stream) (s : Stream) → envelope r ≡ true → Behind (Of r) s → Sides (NotLeft s) r
behind-sides r s e h = go r h (subst (Sides (NoneLeft (Of r))) ((envelope-ring r).0 e) (ring-sides r))
  where
    go : (t : List Stream) → Behind (Of r) s → Sides (NoneLeft (Of r)) t → Sides (NotLeft s) t
    go [] h w = tt
    go (p ∷ ps) h w = way_as (NoneLeft (Of r)) (NotLeft s) (λ a b f. on_line a b h tt f) p ps p w

pub behind-covers : (r : List Stream) (s : Stream) → envelope r ≡ true → Behind (Of r) s → covers r s ≡ true
unfolding covers
behind-covers [] s e h = absurd (Memᴰ.not-nil (h.stronger (pos 0) (pos 0) tt).1)
behind-covers (p ∷ []) s e h = behind-one p s h
behind-covers (p ∷ q ∷ []) s e h = behind-two p q s (flush (behind-sides (p ∷ q ∷ []) s e h)) h
  where
    flush : NotLeft s p q × NotLeft s q p → side p q s ≡ pos 0
    flush w = let a = w.0 in let b = w.1 in omega (order, side-back p q s, negation (side p q s))
behind-covers (p ∷ q ∷ r ∷ ps) s e h = way_beside s p p (q ∷ r ∷ ps) (behind-sides (p ∷ q ∷ r ∷ ps) s e h)

-- ---- "yes exactly if the stream is a weighted mean of corners"

module _ (r : List Stream) (s : Stream) (e : envelope r ≡ true) where
  pub covers_mean : covers r s ≡ true → Mean r s
  covers_mean c = behind_mean r s (covers-behind r s e c)

  pub mean_covers : Mean r s → covers r s ≡ true
  mean_covers m = behind-covers r s e (mean_behind r s m)

  -- a stream changes nothing when it is joined exactly if it is covered
  pub covered_ring : covers r s ≡ true → ring (r ++ (s ∷ [])) ≡ r
  covered_ring c = (behind-same-ring r s).0 (covers-behind r s e c) ∙ (envelope-ring r).0 e

  pub covered_join : covers r s ≡ true → join r (s ∷ []) ≡ r
  unfolding join
  covered_join c = covered_ring c

  pub join_covered : join r (s ∷ []) ≡ r → covers r s ≡ true
  unfolding join
  join_covered j = behind-covers r s e ((behind-same-ring r s).1 (j ∙ sym ((envelope-ring r).0 e)))
