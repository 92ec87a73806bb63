-- The places of both rings: which corner stands where, how many there are, and that mirrored they are as near.
-- Assumes nothing.
use Rattle.std.specs.Prelude.{◌≡◌, Bool, List, ℕ, ◌+◌, ◌-◌, ◌≤◌, ◌<◌, ℤ, pos, length}
use Rattle.std.proofs.Common.{sym, ap, ap₂, ◌∙◌, arith, length-append, get_or-append-add}
use Rattle.std.proofs.Math.ListN.{get_or-append}
use Rattle.rules.specs.Streams.{stream, streams, sample}
use Rattle.samples.specs.Positions.{Near}
use Rattle.samples.specs.Samples.{streams-length, facing_near}
use Rattle.walk.specs.TwoRings.{both, count, corner_at, Corners}

module _ (es ns fs ms : List ℤ) (even : length es ≡ length ns) where
  first-length : length (streams es ns) ≡ length es
  first-length = streams-length es ns even

  pub sample-first : (k : ℕ) → k < length es → sample (streams es ns) k ≡ sample (both es ns fs ms) k
  sample-first k h = sym (get_or-append (streams es ns) (streams fs ms) (stream (pos 0) (pos 0)) k (omega (arith, first-length)))

  pub sample-second : (k : ℕ) → length es ≤ k → sample (streams fs ms) (k - length es) ≡ sample (both es ns fs ms) k
  sample-second k h =
      let e : length es + (k - length es) ≡ k = omega arith in
      sym (get_or-append-add (streams es ns) (streams fs ms) (k - length es) (stream (pos 0) (pos 0)))
      ∙ ap (sample (both es ns fs ms)) (ap (λ (m : ℕ). m + (k - length es)) first-length ∙ e)

pub both-length : {es ns fs ms : List ℤ} → Corners es ns fs ms → length (both es ns fs ms) ≡ count es fs
both-length {es} {ns} {fs} {ms} r =
    length-append (streams es ns) (streams fs ms) ∙ ap₂ ◌+◌ (streams-length es ns r.even) (streams-length fs ms r.even2)

pub corner_near : {es ns fs ms : List ℤ} → Corners es ns fs ms → (lower : Bool) (k : ℕ) → Near (corner_at es ns fs ms lower k)
corner_near {es} {ns} {fs} {ms} r lower k = facing_near lower (r.near k)
