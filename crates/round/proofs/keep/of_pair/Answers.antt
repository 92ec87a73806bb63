use Rattle.std.specs.Prelude.{◌≡◌, ℕ, zero, suc, ◌-◌, Bool, true, false, cond, ltb, ◌&&◌, ◌||◌, eqb, [], ◌∷◌, ℤ, pos, negsuc}
use Rattle.std.specs.Int.{w64}
use Rattle.std.proofs.Common.{refl, arith, sym, ap, ◌∙◌, to_z, of_z}
use borrow.Author.Tests.{ne_eqb}
use mathlib.Core.Path.{ap₂, subst₂}
use lib.Dec.{lit≤}
use lib.Signed.{lt_z}
use Rattle.whole.specs.Laws.{eqZ, ne_test}
use Rattle.whole.specs.Solver.{⊝◌}
use Rattle.whole.specs.Fits.{Leaves, step_fits, word-is}
use Rattle.rules.specs.Streams.{Stream, limit}
use Rattle.slopes.specs.Fractions.{as_slope}
use Rattle.samples.specs.Positions.{Near}
use Rattle.samples.specs.Sides.{seen}
use Rattle.samples.specs.StreamWords.{read, two_near, words_equal}
use Rattle.round.specs.Keeping.{excess, chosen}
use Rattle.round.proofs.Choosing.{away, pair_keeps}
use Rattle.round.proofs.RoundWords.{near_side, parts, way, word_of}
use Rattle.round.proofs.keep.of_pair.Goals as goal
use Rattle.round.proofs.keep.of_pair.Goals.{then-west, else-west}

-- the parts of two positions, read from the words of what stands for them
leaves : {s t p q : Stream} → s ≡ p → t ≡ q → Near p × Near q
    → Leaves (read s.east ∷ read s.north ∷ read t.east ∷ read t.north ∷ []) (parts p q) (limit ∷ limit ∷ limit ∷ limit ∷ [])
leaves {p} {q} d e h =
    subst₂ (λ (s t : Stream). Leaves (read s.east ∷ read s.north ∷ read t.east ∷ read t.north ∷ []) (parts p q) (limit ∷ limit ∷ limit ∷ limit ∷ []))
    (sym d) (sym e) (two_near h)

pub overflow_sub-d : goal.overflow_sub-d
overflow_sub-d c =
    let near = near_side c.args.side in
    step_fits w64 (leaves c.position-p.ensures c.position-q.ensures (near c.args.x, near c.args.y)) way tt

pub overflow_sub-g : goal.overflow_sub-g
overflow_sub-g c =
    let near = near_side c.args.side in
    step_fits w64 (leaves c.position-p.ensures c.position-q.ensures (near c.args.x, near c.args.y)) (⊝ way) tt

-- a word is 0 exactly if what is read of it is
zero_word : (n : ℕ) → eqb n 0 ≡ eqZ (to_z w64 n) (pos 0)
zero_word zero = refl
zero_word (suc n) = ne_eqb (suc n) 0 (λ e. omega arith) ∙ sym (ne_test {a = to_z w64 (suc n)} {b = pos 0} (go (ltb (suc n) 9223372036854775808)))
  where
    go : (b : Bool) → cond b (pos (suc n)) (negsuc (18446744073709551616 - suc (suc n))) ≡ pos 0 → ⊥
    go true e = cc
    go false e = cc

pub returns : goal.returns
returns c =
    let a = c.args in
    let places = seen a.side in
    let near = near_side a.side in
    let p = places a.x in
    let q = places a.y in
    let l = leaves c.position-p.ensures c.position-q.ensures (near a.x, near a.y) in
    let seen = λ (w : Bool). away w p.east q.east in
    let o = excess (as_slope a.k) p q in
    let g-is : to_z w64 c.if-west.g-bits ≡ seen a.west =
    elim c.if-west.branch [
      | then-west w ↦ w.g-is ∙ word-is w64 l way tt ∙ ap seen (sym w.if-west.true)
      | else-west w ↦ w.g-is ∙ word-is w64 l (⊝ way) tt ∙ ap seen (sym w.if-west.false)
    ]
    in
    let g-zero : eqb c.if-west.g-bits 0 ≡ eqZ (seen a.west) (pos 0) = zero_word c.if-west.g-bits ∙ ap (λ (z : ℤ). eqZ z (pos 0)) g-is in
    let z = c.excess-c.result in
    let is : z ≡ o = c.excess-c.ensures ∙ ap₂ (excess (as_slope a.k)) c.position-p.ensures c.position-q.ensures in
    let c-is : to_z w64 (of_z w64 z) ≡ o = word_of z c.excess-c.type_inv ∙ is in
    let c-zero : eqb (of_z w64 z) 0 ≡ eqZ o (pos 0) = words_equal w64 z (pos 0) c.excess-c.type_inv (lit≤ tt) ∙ ap (λ (z : ℤ). eqZ z (pos 0)) is in
    pair_keeps places (as_slope a.k) a.x a.y a.west c.requires.near.forward
    ∙ ap₂ (λ (s t : Bool). chosen s t a.x a.y)
    (ap₂ ◌||◌ (ap₂ (λ (g o : ℤ). lt_z g (pos 0) || lt_z o (pos 0)) (sym g-is) (sym c-is)) (ap₂ ◌&&◌ (sym g-zero) (sym c-zero)))
    (ap₂ (λ (g o : ℤ). lt_z (pos 0) g || lt_z (pos 0) o) (sym g-is) (sym c-is))
