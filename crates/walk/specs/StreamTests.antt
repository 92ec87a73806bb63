-- What the tests of two streams that the code holds say of the streams.
-- Assumes nothing.
use Rattle.std.specs.Prelude.{◌≡◌, Bool, true, false, ℤ, ◌≤ℤ◌, ◌<ℤ◌}
use Rattle.std.proofs.Common.{sym, ap₂, ◌∙◌}
use Rattle.std.specs.Int.Signed.{lt_z}
use Rattle.whole.specs.Laws.{test-lt, test_nlt}
use Rattle.rules.specs.Streams.{Stream}
use Rattle.samples.specs.declared.streams.Stream as held
use Rattle.samples.specs.HeldStream.{stream_of}

-- a part of one stream is tested to be below that of another
module _ (part : Stream → ℤ) {p q : held.Stream} {s t : Stream} {r : Bool} (ps : stream_of p ≡ s) (qt : stream_of q ≡ t)
    (told : r ≡ lt_z (part (stream_of p)) (part (stream_of q))) where
  less : r ≡ lt_z (part s) (part t)
  less = told ∙ ap₂ (λ (x y : Stream). lt_z (part x) (part y)) ps qt

  pub told_less : r ≡ true → part s <ℤ part t
  told_less e = test-lt (part s) (part t) (sym less ∙ e)

  pub told_not_less : r ≡ false → part t ≤ℤ part s
  told_not_less e = test_nlt (part s) (part t) (sym less ∙ e)

-- the parts
abbrev pub east_of : Stream → ℤ
east_of s = s.east

abbrev pub north_of : Stream → ℤ
north_of s = s.north
