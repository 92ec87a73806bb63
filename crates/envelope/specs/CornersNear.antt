-- Corners that lie within the limit, each as it is read at its place. Assumes nothing.
use Rattle.std.specs.Prelude.{◌≡◌, refl, false, List, ℕ, ℤ}
use Rattle.std.proofs.Common.{sym, subst}
use Rattle.rules.specs.Lists.{some_of}
use Rattle.rules.specs.Streams.{Stream, streams, sample, beyond}
use Rattle.samples.specs.Positions.{Near, Sampled}
use Rattle.samples.specs.Samples.{sample_near, read_near}

-- every corner lies within the limit
pub record CornersNear (xs : List Stream) : Type 0 where
  pub near : (i : ℕ) → Near (sample xs i)

-- so does one that was read at a place
pub near_read : {xs : List Stream} → CornersNear xs → (i : ℕ) {s : Stream} → s ≡ sample xs i → Near s
near_read p i e = subst Near (sym e) (p.near i)

-- those of two lists of samples, and those of which none is beyond
pub lists_near : {es ns : List ℤ} → Sampled es ns → CornersNear (streams es ns)
lists_near p = record { near = λ i. read_near p i refl }

pub none_beyond : (xs : List Stream) → some_of beyond xs ≡ false → CornersNear xs
none_beyond xs e = record { near = sample_near xs e }
