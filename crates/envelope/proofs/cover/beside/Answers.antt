use Rattle.std.proofs.Common.{◌≡◌, sym, ap, ◌∙◌, arith, Bool, ◌&&◌, List, ℕ, ◌+◌, ◌-◌, ◌≤◌, ◌<◌, pos, length}
use Rattle.std.specs.Int.Signed.{le_z}
use Rattle.rules.specs.Streams.{Stream, streams, sample, side}
use Rattle.samples.specs.HeldStream.{stream_of}
use Rattle.samples.specs.Samples.{streams-length, read_near}
use Rattle.envelope.specs.RoundTheRing.{beside_from, beside_more, beside_end}
use Rattle.envelope.proofs.cover.beside.Goals as goal

-- one turn of the loop, by what it found
went : (xs : List Stream) (s : Stream) (i : ℕ) {b : Bool} {p q : Stream} → 1 ≤ i → i < length xs → beside_from xs s 1 ≡ beside_from xs s i →
    p ≡ sample xs (i - 1) → q ≡ sample xs i → b ≡ le_z (side p q s) (pos 0) → beside_from xs s 1 ≡ (b && beside_from xs s (i + 1))
went xs s i one h so p q e =
    let same = e ∙ (λ k. le_z (side (p k) (q k) s) (pos 0)) in
    so ∙ beside_more xs s i one h ∙ ap (λ (b : Bool). b && beside_from xs s (i + 1)) (sym same)

pub not_left-requires : goal.not_left-requires
not_left-requires c =
    let p = c.requires in
    let i = c.loop-i.i in
    (read_near p.0 (i - 1) c.at.ensures, read_near p.0 i c.at-in-loop-i.ensures, p.1)

pub returns-then-not-not_left : goal.returns-then-not-not_left
returns-then-not-not_left c =
    let a = c.args in
    sym
    (went (streams a.east.now a.north.now) (stream_of a.s) c.loop-i.i
    (omega (arith, streams-length a.east.now a.north.now c.requires.0.even)) (omega (arith, streams-length a.east.now a.north.now c.requires.0.even)) c.loop-i.invariant
    c.at.ensures c.at-in-loop-i.ensures c.if-not-not_left.ensures)

pub loop-i-preserved : goal.loop-i-preserved
loop-i-preserved c =
    let a = c.args in
    went (streams a.east.now a.north.now) (stream_of a.s) c.loop-i.i
    (omega (arith, streams-length a.east.now a.north.now c.requires.0.even)) (omega (arith, streams-length a.east.now a.north.now c.requires.0.even)) c.loop-i.invariant
    c.at.ensures c.at-in-loop-i.ensures c.if-not-not_left.ensures

pub not_left-requires-2 : goal.not_left-requires-2
not_left-requires-2 c =
    let p = c.requires in
    let n = length c.args.east.now in
    (read_near p.0 (n - 1) c.at-2.ensures, read_near p.0 0 c.at-3.ensures, p.1)

pub returns : goal.returns
returns c =
    let xs = streams c.args.east.now c.args.north.now in
    let s = stream_of c.args.s in
    let n = length c.args.east.now in
    let many : length xs ≡ n = streams-length c.args.east.now c.args.north.now c.requires.0.even in
    let end : c.loop-i.i ≡ n = omega arith in
    c.not_left-2.ensures ∙
    (λ k. le_z (side (c.at-2.ensures k) (c.at-3.ensures k) s) (pos 0)) ∙
    sym (c.loop-i.invariant ∙ ap (beside_from xs s) end ∙ beside_end xs s n (omega arith))
