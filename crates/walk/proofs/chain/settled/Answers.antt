-- Where the topmost corner does not stay, there is one.
use Rattle.std.specs.Prelude.{refl}
use Rattle.std.proofs.Common.{sym, ◌∙◌, inl, arith}
use Rattle.laws_outline.specs.Under.{on_self}
use Rattle.laws_stack.specs.Stack.{stays_some, stacked_less, one_fewer}
use Rattle.walk.proofs.chain.settled.Goals as goal

pub loop-s-init : goal.loop-s-init
loop-s-init c = (omega arith, λ i l. on_self (inl (i, l, refl)))

pub overflow_sub-t : goal.overflow_sub-t
overflow_sub-t c = stays_some _ _ _ (sym c.stays.ensures ∙ c.loop-s-test.true)

pub loop-s-smaller : goal.loop-s-smaller
loop-s-smaller c = let some = stays_some _ _ _ (sym c.stays.ensures ∙ c.loop-s-test.true) in omega (arith, some)

pub loop-s-preserved : goal.loop-s-preserved
loop-s-preserved c =
    let p = c.requires in
    let inv = c.loop-s.invariant in
    let gone = sym c.stays.ensures ∙ c.loop-s-test.true in
    (omega arith, λ i l. one_fewer c.loop-s.t (stacked_less inv.0 p.2.stacked) (λ j m. p.2.before j (omega arith)) gone (inv.1 i l))
