use Rattle.std.proofs.Common.{◌≡◌, ◌+◌, Bool, ℕ, List, sym, ◌∙◌, subst, arith}
use Rattle.rules.specs.Streams.{Stream, sample}
use Rattle.rules.specs.Chain.{leftmost}
use Rattle.envelope.specs.FirstBest.{First, nearer_entry, entry_orders, first_one, first_taken, first-left}
use Rattle.envelope.specs.Turns.{entered_at}
use Rattle.envelope.proofs.turn.entry.Goals as goal
use Rattle.envelope.proofs.turn.entry.Goals.{then-leftmost_by_jumps, else-leftmost_by_jumps}

-- what the code compares are the corners at best and at i
compared : (xs : List Stream) (best i : ℕ) {b : Bool} {p q : Stream} → p ≡ sample xs best → q ≡ sample xs i → b ≡ leftmost p q →
    nearer_entry (sample xs i) (sample xs best) ≡ b
compared xs best i p q e = sym (e ∙ (λ k. leftmost (p k) (q k)))

pub loop-i-init : goal.loop-i-init
loop-i-init g c = record { inside = omega arith; first = first_one entry_orders (g.C.Corners.corners c.args.ring.now) }

pub loop-i-preserved : goal.loop-i-preserved
loop-i-preserved g c =
    let xs = g.C.Corners.corners c.args.ring.now in
    let l = c.loop-i in
    let found = compared xs l.best l.i c.corner.ensures c.corner-in-loop-i.ensures c.leftmost_by_jumps.ensures in
    let next = First nearer_entry xs (l.i + 1) in
    record {
      inside = omega arith;
      first =
          elim c.if-leftmost_by_jumps.branch [
            | then-leftmost_by_jumps w ↦ subst next (sym w.best-is) (first_taken entry_orders xs l.invariant.first (found ∙ w.if-leftmost_by_jumps.true))
            | else-leftmost_by_jumps w ↦ subst next (sym w.best-is) (first-left entry_orders xs l.invariant.first (found ∙ w.if-leftmost_by_jumps.false))
          ];
    }

pub returns : goal.returns
returns g c = entered_at (g.C.Corners.corners c.args.ring.now) c.loop-i.invariant.first (omega arith) (omega arith) c.requires
