use Rattle.std.specs.Prelude.{◌≡◌, ℕ, ◌+◌, ◌<◌, ltb, List, length, get_or, ℤ, neg_ℤ}
use Rattle.std.specs.Int.{w64}
use Rattle.std.proofs.Common.{rules, arith, sym, ap, ◌∙◌, subst, to_z, of_z}
use lib.Signed.{≤ℤ_refl}
use Rattle.rules.specs.Streams.{Stream}
use Rattle.rules.specs.Round.{Slope, height}
use Rattle.slopes.specs.Fractions.{as_slope}
use Rattle.samples.specs.Positions.{Near}
use Rattle.samples.specs.Sides.{seen}
use Rattle.samples.specs.Samples.{listed_at}
use Rattle.round.specs.declared.tops.Top.{Top}
use Rattle.round.specs.Tops.{as_scaled, scaled, key, better_of, reaches, next_place}
use Rattle.round.proofs.Topping.{Leads, leads_first, leads_more, leads_on, leads_all, NoHigher, left-greater, right_greater, left_beaten, right_beaten, no_higher_more}
use Rattle.round.proofs.RoundWords.{near_side, word_of}
use Rattle.round.proofs.tops.of_list.Goals as goal

module _ (places : ℕ → Stream) (list : List ℕ) (k : Slope) where
  -- the key of a sample, as the code has it
  abbrev key_of : (ℤ → ℤ) → ℕ → ℤ
  key_of side x = key side k (places x)

  -- what the loop carries
  abbrev Carried : ℕ → Top → Top → Type 0
  Carried i l r = (Leads (key_of neg_ℤ) list i l × Leads (key_of (λ z. z)) list i r) × NoHigher places k l.number r.number

  -- the tops with one sample more
  module _
      (i : ℕ)
      (here : i < length list)
      {l r u v : Top}
      (g : Carried i l r)
      {y z : ℤ}
      (west_is : y ≡ key_of neg_ℤ (get_or list i 0))
      (east_is : z ≡ key_of (λ z. z) (get_or list i 0))
      (left_is : u ≡ better_of l y (get_or list i 0))
      (right_is : v ≡ better_of r z (get_or list i 0))
    where
      lefts : Leads (key_of neg_ℤ) list (i + 1) u
      lefts = leads_more (key_of neg_ℤ) list i here g.0.0 west_is left_is

      rights : Leads (key_of (λ z. z)) list (i + 1) v
      rights = leads_more (key_of (λ z. z)) list i here g.0.1 east_is right_is

      module _ (near : (x : ℕ) → Near (places x)) (K : Slope) (k-is : k ≡ scaled K) where
        no-higher : NoHigher places k u.number v.number
        no-higher = no_higher_more places near K k-is l r (get_or list i 0) y z g.0.1.key-is east_is left_is right_is g.1

        -- and where the search goes on
        carried_on : {j : ℕ} → j ≡ next_place places k u.number list (i + 1) → Carried j u v
        carried_on e =
            subst (λ (j : ℕ). Carried j u v) (sym e) (
              (
                leads_on (key_of neg_ℤ) list (reaches places k u.number) (ltb (length list) 100)
                    (left_beaten places near K k-is u.number u.number (≤ℤ_refl (height k (places u.number)))) lefts,
                leads_on (key_of (λ z. z)) list (reaches places k u.number) (ltb (length list) 100)
                    (right_beaten places near K k-is u.number v.number no-higher) rights,
              ),
              no-higher,
            )

pub position-requires : goal.position-requires
position-requires c =
    let h = c.requires in
    let many = h.some in
    listed_at h.listed 0 (omega arith)

pub loop-i-init : goal.loop-i-init
loop-i-init c =
    let a = c.args in
    let list = a.list.now in
    let k = as_scaled c.of-scaled.result in
    let of = key_of (seen a.side) list k in
    let many = c.requires.some in
    let keys = c.keys-c in
    let p = c.position.ensures in
    let west : to_z w64 (of_z w64 keys.result.west) ≡ keys.result.west = search rules in
    let east : to_z w64 (of_z w64 keys.result.east) ≡ keys.result.east = search rules in (
      (
        leads_first (of neg_ℤ) list many (west ∙ keys.ensures.west_is ∙ ap (key neg_ℤ k) p),
        leads_first (of (λ z. z)) list many (east ∙ keys.ensures.east_is ∙ ap (key (λ z. z) k) p),
      ),
      ≤ℤ_refl (height k (seen a.side (get_or list 0 0))),
    )

pub position-requires-in-loop-i : goal.position-requires-in-loop-i
position-requires-in-loop-i c = listed_at c.requires.listed c.loop-i.i c.loop-i-test.true

pub keys-c-requires-in-loop-i : goal.keys-c-requires-in-loop-i
keys-c-requires-in-loop-i c =
    subst Near (sym c.position-in-loop-i.ensures) (near_side c.args.side (get_or c.args.list.now c.loop-i.i 0))

pub next-i-requires : goal.next-i-requires
next-i-requires c =
    let a = c.args in
    let h = c.requires in
    let k = as_scaled c.of-scaled.result in
    let here = c.loop-i-test.true in
    let keys = c.keys-c-in-loop-i in
    let p = c.position-in-loop-i.ensures in
    let west : to_z w64 (of_z w64 keys.result.west) ≡ keys.result.west = search rules in
    let east : to_z w64 (of_z w64 keys.result.east) ≡ keys.result.east = search rules in
    let ls =
    lefts (seen a.side) a.list.now k c.loop-i.i here c.loop-i.invariant
    (west ∙ keys.ensures.west_is ∙ ap (key neg_ℤ k) p) (east ∙ keys.ensures.east_is ∙ ap (key (λ z. z) k) p)
    c.better-left.ensures c.better-right.ensures
    in
    (record { listed = h.listed; given = h.listed.below c.better-left.result.number ls.given }, omega arith)

pub loop-i-preserved : goal.loop-i-preserved
loop-i-preserved c =
    let a = c.args in
    let h = c.requires in
    let k = as_scaled c.of-scaled.result in
    let keys = c.keys-c-in-loop-i in
    let p = c.position-in-loop-i.ensures in
    let west : to_z w64 (of_z w64 keys.result.west) ≡ keys.result.west = search rules in
    let east : to_z w64 (of_z w64 keys.result.east) ≡ keys.result.east = search rules in
    carried_on (seen a.side) a.list.now k c.loop-i.i c.loop-i-test.true c.loop-i.invariant
    (west ∙ keys.ensures.west_is ∙ ap (key neg_ℤ k) p) (east ∙ keys.ensures.east_is ∙ ap (key (λ z. z) k) p)
    c.better-left.ensures c.better-right.ensures
    (near_side a.side) (as_slope a.k) c.of-scaled.ensures c.next-i.ensures

pub east-requires-2 : goal.east-requires-2
east-requires-2 c = c.requires.listed.below c.loop-i.right.number c.loop-i.invariant.0.1.given

pub returns : goal.returns
returns c =
    let a = c.args in
    let places = seen a.side in
    let list = a.list.now in
    let of = key_of places list (as_scaled c.of-scaled.result) in
    let near = near_side a.side in
    let is = c.of-scaled.ensures in
    let end = c.loop-i-test.false in
    record {
      left_is = leads_all (of neg_ℤ) list (left-greater places near (as_slope a.k) is) end c.loop-i.invariant.0.0;
      right_is = leads_all (of (λ z. z)) list (right_greater places near (as_slope a.k) is) end c.loop-i.invariant.0.1;
      from_is = word_of c.east.result c.east.type_inv ∙ c.east.ensures;
      to_is = word_of c.east-2.result c.east-2.type_inv ∙ c.east-2.ensures;
    }
