-- "Turning about every stream turns the envelope about", over the promises of the entries. For two calls of chains that are done, the second on the samples
-- turned about, the lower chain of the second is the upper chain of the first in reverse, number by number, and the upper chain of the second the lower
-- chain of the first. For two calls of the ring the same holds of positions, both signs changed, and the second leaves what turning about leaves of the
-- first's ring. A call is any that the entry's own promise allows. Assumes nothing.
use Rattle.std.specs.Prelude.{◌≡◌, refl, List, [], ◌∷◌, map, reverse, ℕ, ℤ, neg_ℤ, length, take, Ok}
use Rattle.std.proofs.Common.{sym, ap, ap₂, ◌∙◌, subst, subst₂}
use Rattle.std.proofs.lemmas.List.{length-reverse}
use Rattle.rules.specs.Streams.{Stream, streams, turned}
use Rattle.rules.specs.Chain.{upper, lower, upper_numbers, lower_numbers}
use Rattle.laws_outline.specs.Numbers.{lower-mirrored}
use Rattle.laws_rings.specs.Rings.{upper_of_ring, lower_of_ring}
use Rattle.laws_rings.specs.FromBehind.{upper-turned, lower-turned, upper-numbers-turned, lower-numbers-turned}
use Rattle.demands.specs.Done.{left-ring}
use Rattle.demands.specs.Chains as chains
use Rattle.demands.specs.Ringed as rings
use Rattle.demands.specs.RingTurned as turns
use Rattle.demands.specs.Trees.{Made, ringed_by, turned_by, made_same}

-- the parts fs and ms are es and ns, every sign changed
pub record About (es ns fs ms : List ℤ) : Type 0 where
  pub easts : fs ≡ map neg_ℤ es
  pub norths : ms ≡ map neg_ℤ ns

streams_about : (es ns : List ℤ) → streams (map neg_ℤ es) (map neg_ℤ ns) ≡ map turned (streams es ns)
unfolding streams
streams_about [] ns = refl
streams_about (e ∷ es) [] = refl
streams_about (e ∷ es) (n ∷ ns) = ap (λ (l : List Stream). turned (record { east = e; north = n }) ∷ l) (streams_about es ns)

about_streams : {es ns fs ms : List ℤ} → About es ns fs ms → streams fs ms ≡ map turned (streams es ns)
about_streams {es} {ns} h = ap₂ streams h.easts h.norths ∙ streams_about es ns

-- ---- chains, number by number

-- what a call that is done leaves, by the rules' numbers
upper_left : (c : chains.Call) {u v : ℕ} → c.answer ≡ Ok (record { upper = u; lower = v }) → take u (chains.upper_after c) ≡ upper_numbers (chains.samples c)
upper_left c {u} e = chains.upper_alone (take u (chains.upper_after c)) (chains.chains_done c e).upper-chain

lower_left : (c : chains.Call) {u v : ℕ} → c.answer ≡ Ok (record { upper = u; lower = v }) → take v (chains.lower_after c) ≡ lower_numbers (chains.samples c)
lower_left c {v = v} e =
    chains.upper_alone (take v (chains.lower_after c)) (chains.chains_done c e).lower-chain ∙ sym (lower-mirrored (chains.samples c))

-- the chains of the second call are those of the first changed over, each in reverse
pub record Changed-over (c : chains.Call) (u v : ℕ) (d : chains.Call) (u' v' : ℕ) : Type 0 where
  pub lower-count : v' ≡ u
  pub upper-count : u' ≡ v
  pub lower-chain : take v' (chains.lower_after d) ≡ reverse (take u (chains.upper_after c))
  pub upper-chain : take u' (chains.upper_after d) ≡ reverse (take v (chains.lower_after c))

-- THE LAW, of chains
pub chains_about : (c d : chains.Call) {u v u' v' : ℕ} → c.answer ≡ Ok (record { upper = u; lower = v }) → d.answer ≡ Ok (record { upper = u'; lower = v' })
    → About (chains.east c) (chains.north c) (chains.east d) (chains.north d)
    → Changed-over c u v d u' v'
chains_about c d {u} {v} e f h =
    let t = about_streams h in
    let first = chains.chains_done c e in
    let second = chains.chains_done d f in
    let low = lower_left d f ∙ ap lower_numbers t ∙ lower-numbers-turned (chains.samples c) ∙ ap reverse (sym (upper_left c e)) in
    let up = upper_left d f ∙ ap upper_numbers t ∙ upper-numbers-turned (chains.samples c) ∙ ap reverse (sym (lower_left c e)) in
    record {
      lower-count = sym second.lower_long ∙ ap (λ (k : List ℕ). length k) low ∙ length-reverse (take u (chains.upper_after c)) ∙ first.upper_long;
      upper-count = sym second.upper_long ∙ ap (λ (k : List ℕ). length k) up ∙ length-reverse (take v (chains.lower_after c)) ∙ first.lower_long;
      lower-chain = low;
      upper-chain = up;
    }

-- ---- rings

-- the ring that a call leaves, with so many corners
abbrev pub ring_of : rings.Ringing → ℕ → List Stream
ring_of c n = streams (take n (rings.east_after c)) (take n (rings.north_after c))

-- THE LAW, of rings: by their chains
pub rings_about : (c d : rings.Ringing) {n m : ℕ} → c.answer ≡ Ok n → d.answer ≡ Ok m
    → About (rings.east c) (rings.north c) (rings.east d) (rings.north d)
    → (lower (ring_of d m) ≡ reverse (map turned (upper (ring_of c n)))) × (upper (ring_of d m) ≡ reverse (map turned (lower (ring_of c n))))
rings_about c d e f h =
    let xs = rings.samples c in
    let first = left-ring (rings.ringing_done c e).left in
    let second = left-ring (rings.ringing_done d f).left in
    let t = about_streams h in (
      ap lower second ∙ lower_of_ring (rings.samples d) ∙ ap lower t ∙ lower-turned xs
          ∙ ap (λ (C : List Stream). reverse (map turned C)) (sym (ap upper first ∙ upper_of_ring xs)),
      ap upper second ∙ upper_of_ring (rings.samples d) ∙ ap upper t ∙ upper-turned xs
          ∙ ap (λ (C : List Stream). reverse (map turned C)) (sym (ap lower first ∙ lower_of_ring xs)),
    )

-- and the second leaves what turning about leaves of the first's ring
pub ring_turned_about : (c d : rings.Ringing) (t : turns.Turning) {n m k : ℕ} → c.answer ≡ Ok n → d.answer ≡ Ok m
    → t.answer ≡ Ok k → About (rings.east c) (rings.north c) (rings.east d) (rings.north d)
    → turns.east t ≡ take n (rings.east_after c) → turns.north t ≡ take n (rings.north_after c)
    → (take m (rings.east_after d) ≡ take k (turns.east_after t)) × (take m (rings.north_after d) ≡ take k (turns.north_after t))
ring_turned_about c d t {m = m} e f g h he hn =
    made_same
    (subst (λ (zs : List Stream). Made zs (take m (rings.east_after d)) (take m (rings.north_after d))) (about_streams h) (ringed_by d f))
    (turned_by t g (subst₂ (Made (rings.samples c)) (sym he) (sym hn) (ringed_by c e)))
    (λ s. (λ n. n, λ n. n))
