-- The laws of the bridge. Said of a set of samples: two samples, one with east at most a and one with east above a, all samples on or below the line
-- through them, and those on the line between them. It is unique, it is the chain's edge over a, it is there exactly if samples lie on both sides of a,
-- and taking other samples away does not change it.
-- Assumes nothing.
use Rattle.std.specs.Prelude.{◌≡◌, refl, ◌↔◌, Bool, true, false, cond, ◌&&◌, ℤ, pos, ◌≤ℤ◌, ◌<ℤ◌}
use Rattle.std.proofs.Common.{sym, ap, ap₂, ◌∙◌, subst, ⊎_elim}
use Rattle.std.proofs.Math.Option.{Option, none, some, some-injective, none-ne-some}
use mathlib.Core.List.{List, [], ◌∷◌, ◌++◌, Memᴰ}
use Rattle.std.specs.Int.Signed.{le_z, lt_z, clash_ℤ}
use Rattle.whole.specs.Laws.{≤ℤ_total, ≤ℤ_trans, ≤ℤ-<ℤ_trans, ≤ℤ_antisym, ≤ℤ_of-≡, <ℤ→≤ℤ, le_test, lt_test, nlt_test, test-le, test-lt}
use Rattle.rules.specs.Lists.{some_of}
use Rattle.rules.specs.Streams.{Stream, side}
use Rattle.rules.specs.Chain.{Samples, Of, Edge, Goes, stop, on, UpperChain, empty, starts, upper}
use Rattle.rules.specs.Bridge.{Bridge, ends, edge_over, bridge, spans}
use Rattle.laws_outline.specs.ListLaws.{not-both, is_no, both_yes, yes_both, some_of_is, is_some_of}
use Rattle.laws_outline.specs.SamePosition.{streams_equal}
use Rattle.laws_outline.specs.Sidedness.{side_of_first, side_of_second, meets_between, meets_first, meets_second, on_at_first, on_at_second}
use Rattle.laws_outline.specs.Chains.{upper_is, upper_along, upper_west, goes_edge, past-edge}
use Rattle.laws_outline.specs.SameOutline.{upper_members}

pub record BridgeOver (S : Samples) (a : ℤ) (p q : Stream) : Type 0 where
  pub from : S p
  pub to : S q
  pub left : p.east ≤ℤ a
  pub right : a <ℤ q.east
  pub below : (s : Stream) → S s → side p q s ≤ℤ pos 0
  pub within : (s : Stream) → S s → side p q s ≡ pos 0 → (p.east ≤ℤ s.east) × (s.east ≤ℤ q.east)

-- ---- the bridge is unique

-- two bridges over a
module _ {S : Samples} {a : ℤ} {p q u v : Stream} (b : BridgeOver S a p q) (c : BridgeOver S a u v) where
  ahead : p.east <ℤ q.east
  ahead = ≤ℤ-<ℤ_trans b.left b.right

  past : u.east <ℤ v.east
  past = ≤ℤ-<ℤ_trans c.left c.right

  -- a left end not west of the other is between the other bridge's ends, so each left end is on both lines and they are one position
  left-within : p.east ≤ℤ u.east → p ≡ u
  left-within h = streams_equal level (sym (on_at_first p q u ahead (sym level) on_pq))
    where
      before : u.east <ℤ q.east
      before = ≤ℤ-<ℤ_trans c.left b.right

      on_pq : side p q u ≡ pos 0
      on_pq =
          meets_between p q u u v ahead h (<ℤ→≤ℤ before) past (c.below p b.from) (c.below q b.to) (side_of_first u v) (b.below u c.from)

      on_uv : side u v p ≡ pos 0
      on_uv =
          meets_first p q u u v ahead h (<ℤ→≤ℤ before) past (c.below p b.from) (c.below q b.to) (side_of_first u v) (b.below u c.from)
          before

      level : p.east ≡ u.east
      level = ≤ℤ_antisym h (c.within p b.from on_uv).0

  right_within : v.east ≤ℤ q.east → q ≡ v
  right_within h = streams_equal level (sym (on_at_second p q v ahead (sym level) on_pq))
    where
      after : p.east <ℤ v.east
      after = ≤ℤ-<ℤ_trans b.left c.right

      on_pq : side p q v ≡ pos 0
      on_pq = meets_between p q v u v ahead (<ℤ→≤ℤ after) h past (c.below p b.from) (c.below q b.to) (side_of_second u v) (b.below v c.to)

      on_uv : side u v q ≡ pos 0
      on_uv =
          meets_second p q v u v ahead (<ℤ→≤ℤ after) h past (c.below p b.from) (c.below q b.to) (side_of_second u v) (b.below v c.to)
          after

      level : q.east ≡ v.east
      level = ≤ℤ_antisym (c.within q b.to on_uv).1 h

pub bridge_unique : {S : Samples} {a : ℤ} {p q u v : Stream} → BridgeOver S a p q → BridgeOver S a u v → (p ≡ u) × (q ≡ v)
bridge_unique {p} {q} {u} {v} b c = (
  ⊎_elim (left-within b c) (λ h. sym (left-within c b (<ℤ→≤ℤ h))) (≤ℤ_total p.east u.east),
  ⊎_elim (right_within b c)
      (λ h. sym (right_within c b (<ℤ→≤ℤ h))) (≤ℤ_total v.east q.east),
)

-- taking away samples other than its ends leaves it
pub bridge_survives : {S T : Samples} {a : ℤ} {p q : Stream} → ((s : Stream) → T s → S s) → T p → T q → BridgeOver S a p q → BridgeOver T a p q
bridge_survives f tp tq b =
    record { from = tp; to = tq; left = b.left; right = b.right; below = λ s m. b.below s (f s m); within = λ s m. b.within s (f s m) }

-- ---- the chain's edge over a

-- p, q is an edge of the chain C, and a lies from p's east to below q's
pub record EdgeOver (a : ℤ) (C : List Stream) (p q : Stream) : Type 0 where
  pub before : List Stream
  pub after : List Stream
  pub splits : C ≡ before ++ (p ∷ q ∷ after)
  pub left : p.east ≤ℤ a
  pub right : a <ℤ q.east

pub edge-over-is : (a : ℤ) (C : List Stream) {b : Bridge Stream} → edge_over a C ≡ some b → EdgeOver a C b.left b.right
unfolding edge_over
edge-over-is a [] e = absurd (none-ne-some _ e)
edge-over-is a (p ∷ []) e = absurd (none-ne-some _ e)
edge-over-is a (p ∷ q ∷ C) {b} e = go (le_z p.east a && lt_z a q.east) refl e (λ h. edge-over-is a (q ∷ C) h)
  where
    go : (t : Bool) → (le_z p.east a && lt_z a q.east) ≡ t → cond t (some (ends p q)) (edge_over a (q ∷ C)) ≡ some b
        → (edge_over a (q ∷ C) ≡ some b → EdgeOver a (q ∷ C) b.left b.right) → EdgeOver a (p ∷ q ∷ C) b.left b.right
    go true t e r = subst (λ (c : Bridge Stream). EdgeOver a (p ∷ q ∷ C) c.left c.right) (some-injective _ _ e) here
      where
        here : EdgeOver a (p ∷ q ∷ C) p q
        here =
            let k = both_yes (le_z p.east a) (lt_z a q.east) t in
            record { before = []; after = C; splits = refl; left = test-le p.east a k.0; right = test-lt a q.east k.1 }
    go false t e r =
        let o = r e in
        record { before = p ∷ o.before; after = o.after; splits = ap (λ (l : List Stream). p ∷ l) o.splits; left = o.left; right = o.right }

-- an edge over a is a bridge over a
pub edge-bridge : {S : Samples} {C : List Stream} {a : ℤ} {p q : Stream} → UpperChain S C → EdgeOver a C p q → BridgeOver S a p q
edge-bridge {S} {C} {a} {p} {q} h o =
    record { from = e.from; to = e.to; left = o.left; right = o.right; below = e.below; within = λ s m l. (not_west s m l, not-past s m l) }
  where
    chain : UpperChain S (o.before ++ (p ∷ q ∷ o.after))
    chain = subst (UpperChain S) o.splits h

    e : Edge S p q
    e = goes_edge (upper_along o.before chain)

    not_west : (s : Stream) → S s → side p q s ≡ pos 0 → p.east ≤ℤ s.east
    not_west s m l =
        ⊎_elim (λ k. k) (λ k. clash_ℤ (upper_west o.before p (q ∷ o.after) chain s m k) (≤ℤ_of-≡ (sym l))) (≤ℤ_total p.east s.east)

    not-past : (s : Stream) → S s → side p q s ≡ pos 0 → s.east ≤ℤ q.east
    not-past s m l = ⊎_elim (λ k. k) (λ k. clash_ℤ (past-edge (upper_along o.before chain) s m k) (≤ℤ_of-≡ (sym l))) (≤ℤ_total s.east q.east)

-- there is one if some sample has east above a and the chain starts with east at most a
edge_over_some : {S : Samples} {a : ℤ} {p r : Stream} {C : List Stream} → Goes S p C → p.east ≤ℤ a → S r → a <ℤ r.east
    → (b : Bridge Stream) × (edge_over a (p ∷ C) ≡ some b)
unfolding edge_over
edge_over_some {r = r} (stop h) l m k = clash_ℤ (≤ℤ-<ℤ_trans l k) (h.most r m)
edge_over_some {a} (on {p} {q} {C} e t g) l m k = ⊎_elim (λ h. later h (edge_over_some g h m k)) here (≤ℤ_total q.east a)
  where
    here : a <ℤ q.east → (b : Bridge Stream) × (cond (le_z p.east a && lt_z a q.east) (some (ends p q)) (edge_over a (q ∷ C)) ≡ some b)
    here h = (ends p q, ap (λ (c : Bool). cond c (some (ends p q)) (edge_over a (q ∷ C))) (yes_both (le_test l) (lt_test h)))

    later : q.east ≤ℤ a → (b : Bridge Stream) × (edge_over a (q ∷ C) ≡ some b)
        → (b : Bridge Stream) × (cond (le_z p.east a && lt_z a q.east) (some (ends p q)) (edge_over a (q ∷ C)) ≡ some b)
    later h b = (b.0, ap (λ (c : Bool). cond c (some (ends p q)) (edge_over a (q ∷ C))) (ap₂ ◌&&◌ (le_test l) (nlt_test h)) ∙ b.1)

upper_edge_some : {S : Samples} {a : ℤ} {l r : Stream} {C : List Stream} → UpperChain S C → S l → l.east ≤ℤ a → S r → a <ℤ r.east
    → (b : Bridge Stream) × (edge_over a C ≡ some b)
upper_edge_some {l = l} (empty f) m h n k = absurd (f l m)
upper_edge_some {l = l} (starts e g) m h n k = edge_over_some g (≤ℤ_trans (e.least l m) h) n k

-- ---- the computed bridge

pub bridge-is : (xs : List Stream) (a : ℤ) {b : Bridge Stream} → bridge xs a ≡ some b → BridgeOver (Of xs) a b.left b.right
unfolding bridge
bridge-is xs a e = edge-bridge (upper_is xs) (edge-over-is a (upper xs) e)

pub bridge_some : (xs : List Stream) (a : ℤ) {l r : Stream} → Memᴰ l xs → l.east ≤ℤ a → Memᴰ r xs → a <ℤ r.east
    → (b : Bridge Stream) × (bridge xs a ≡ some b)
unfolding bridge
bridge_some xs a m h n k = upper_edge_some (upper_is xs) m h n k

pub is-bridge : (xs : List Stream) {a : ℤ} {p q : Stream} → BridgeOver (Of xs) a p q → bridge xs a ≡ some (ends p q)
is-bridge xs {a} {p} {q} h = s.1 ∙ ap some (λ i. ends (same.0 i) (same.1 i))
  where
    s : (b : Bridge Stream) × (bridge xs a ≡ some b)
    s = bridge_some xs a h.from h.left h.to h.right

    same : (s.0.left ≡ p) × (s.0.right ≡ q)
    same = bridge_unique (bridge-is xs a s.1) h

-- THE LAW: the bridge of a list is the bridge over a of its samples
pub bridge-over : (xs : List Stream) (a : ℤ) (p q : Stream) → (bridge xs a ≡ some (ends p q)) ↔ BridgeOver (Of xs) a p q
bridge-over xs a p q = (bridge-is xs a, is-bridge xs)

-- ---- it is there exactly if samples lie on both sides of a

pub record BothSides (S : Samples) (a : ℤ) : Type 0 where
  pub west : Stream
  pub east : Stream
  pub west_given : S west
  pub east_given : S east
  pub at_most : west.east ≤ℤ a
  pub above : a <ℤ east.east

pub spans-is : (a : ℤ) (xs : List Stream) → spans a xs ≡ true → BothSides (Of xs) a
unfolding spans
spans-is a xs e =
    record {
      west = l.0;
      east = r.0;
      west_given = l.1;
      east_given = r.1;
      at_most = test-le l.0.east a l.2;
      above = test-lt a r.0.east r.2;
    }
  where
    k : (some_of (λ s. le_z s.east a) xs ≡ true) × (some_of (λ s. lt_z a s.east) xs ≡ true)
    k = both_yes (some_of (λ s. le_z s.east a) xs) (some_of (λ s. lt_z a s.east) xs) e

    l : (s : Stream) × Memᴰ s xs × (le_z s.east a ≡ true)
    l = some_of_is (λ s. le_z s.east a) xs k.0

    r : (s : Stream) × Memᴰ s xs × (lt_z a s.east ≡ true)
    r = some_of_is (λ s. lt_z a s.east) xs k.1

pub is-spans : (a : ℤ) (xs : List Stream) → BothSides (Of xs) a → spans a xs ≡ true
unfolding spans
is-spans a xs h =
    yes_both (is_some_of (λ s. le_z s.east a) h.west_given (le_test h.at_most))
    (is_some_of (λ s. lt_z a s.east) h.east_given (lt_test h.above))

bridge-spans : {S : Samples} {a : ℤ} {p q : Stream} → BridgeOver S a p q → BothSides S a
bridge-spans {p} {q} b = record { west = p; east = q; west_given = b.from; east_given = b.to; at_most = b.left; above = b.right }

pub spans-bridge : (a : ℤ) (xs : List Stream) → spans a xs ≡ true → (b : Bridge Stream) × (bridge xs a ≡ some b)
spans-bridge a xs e = let s = spans-is a xs e in bridge_some xs a s.west_given s.at_most s.east_given s.above

-- refused exactly if not
pub no_bridge : (a : ℤ) (xs : List Stream) → (bridge xs a ≡ none) ↔ (spans a xs ≡ false)
no_bridge a xs =
    (λ e. is_no (spans a xs) (λ y. let b = spans-bridge a xs y in none-ne-some b.0 (sym e ∙ b.1)), λ e. go (bridge xs a) refl e)
  where
    go : (o : Option (Bridge Stream)) → bridge xs a ≡ o → spans a xs ≡ false → o ≡ none
    go none q e = refl
    go (some b) q e = not-both (is-spans a xs (bridge-spans (bridge-is xs a q))) e

-- ---- lists of the same samples, and of fewer

pub bridge_members : {xs ys : List Stream} → ((s : Stream) → Memᴰ s xs → Memᴰ s ys) → ((s : Stream) → Memᴰ s ys → Memᴰ s xs)
    → (a : ℤ) → bridge xs a ≡ bridge ys a
unfolding bridge
bridge_members f g a = ap (edge_over a) (upper_members f g)

pub bridge_inside : {xs ys : List Stream} {b : Bridge Stream} (a : ℤ) → ((s : Stream) → Memᴰ s ys → Memᴰ s xs) → Memᴰ b.left ys
    → Memᴰ b.right ys → bridge xs a ≡ some b → bridge ys a ≡ some b
bridge_inside {xs} {ys} a f l r e = is-bridge ys (bridge_survives f l r (bridge-is xs a e))
