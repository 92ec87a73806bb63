-- The corners in bytes: how many there are, and where each stands.
-- Assumes nothing.
use Rattle.std.specs.Prelude.{◌≡◌, refl, List, ℕ, zero, suc, ◌+◌, ◌*◌, ◌/◌, ◌<◌, length}
use Rattle.std.proofs.Math.Path.{ap}
use Rattle.std.proofs.Common.{◌∙◌, arith}
use Rattle.rules.specs.Streams.{Stream, stream, sample}
use Rattle.rules.specs.Record.{corner_size, word, twos, corners_at, corners_in}

-- the corner whose bytes start at a place
abbrev pub corner_at : List ℕ → ℕ → Stream
corner_at bs at = stream (twos (word bs at)) (twos (word bs (at + 4)))

pub corners-length : (n : ℕ) (bs : List ℕ) (at : ℕ) → length (corners_at n bs at) ≡ n
unfolding corners_at
corners-length zero bs at = refl
corners-length (suc n) bs at = ap suc (corners-length n bs (at + corner_size))

sample_from : (n : ℕ) (bs : List ℕ) (at i : ℕ) → i < n → sample (corners_at n bs at) i ≡ corner_at bs (at + corner_size * i)
unfolding corners_at
sample_from zero bs at i h = absurd (omega arith)
sample_from (suc n) bs at zero h = ap (corner_at bs) (omega arith)
sample_from (suc n) bs at (suc i) h = sample_from n bs (at + corner_size) i (omega arith) ∙ ap (corner_at bs) (omega arith)

module _ (cs : List ℕ) where
  pub corners-count : length (corners_in cs) ≡ length cs / corner_size
  unfolding corners_in
  corners-count = corners-length (length cs / corner_size) cs 0

  pub corners-sample : (i : ℕ) → i < length (corners_in cs) → sample (corners_in cs) i ≡ corner_at cs (corner_size * i)
  unfolding corners_in
  corners-sample i h = sample_from (length cs / corner_size) cs 0 i (omega (arith, corners-count)) ∙ ap (corner_at cs) (omega arith)
