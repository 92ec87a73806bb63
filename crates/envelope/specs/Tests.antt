-- The tests of a ring that comes as two lists, with a stream or alone, and what they show where they are passed.
-- Assumes nothing.
use Rattle.std.specs.Prelude.{◌≡◌, true, List, [], ◌∷◌, ◌++◌, ◌≤◌, ℤ, length}
use Rattle.std.proofs.lemmas.Bool.{not-false}
use Rattle.rules.specs.Streams.{Stream, streams, most}
use Rattle.rules.specs.Use.{envelope}
use Rattle.rules.specs.Refusals.{done, Test, unless, ring_tests, single_beyond, not_envelope}
use Rattle.samples.specs.Positions.{Near, Sampled}
use Rattle.samples.specs.Samples.{both-within}
use Rattle.samples.specs.InOrder.{passed_tests, sampled_few}

-- "A course or single stream is tested for 3 after the ring's own 3": 1, 2, 3, 3, 9
abbrev pub stream_tests : List ℤ → List ℤ → Stream → List Test
stream_tests es ns s = ring_tests es ns ++ (single_beyond s ∷ not_envelope es ns ∷ [])

-- 1, 2, 3, 9
abbrev pub alone_tests : List ℤ → List ℤ → List Test
alone_tests es ns = ring_tests es ns ++ (not_envelope es ns ∷ [])

module _ (es ns : List ℤ) where
  -- a ring and a stream within the limit
  pub stream_passed : {A : Type 0} (x : A) {y : A} (s : Stream) → unless (stream_tests es ns s) x ≡ done y → Sampled es ns × Near s
  stream_passed x s e =
      let n = passed_tests x (stream_tests es ns s) e in
      ((sampled_few es ns (single_beyond s ∷ not_envelope es ns ∷ []) n).0, both-within s n.1.1.1.0)

  -- a ring that is an envelope
  pub record Sound : Type 0 where
    pub sampled : Sampled es ns
    pub few : length es ≤ most
    pub is-envelope : envelope (streams es ns) ≡ true

  pub sound : {A : Type 0} (x : A) {y : A} → unless (alone_tests es ns) x ≡ done y → Sound
  sound x e =
      let n = passed_tests x (alone_tests es ns) e in
      let f = sampled_few es ns (not_envelope es ns ∷ []) n in
      record { sampled = f.0; few = f.1; is-envelope = not-false (envelope (streams es ns)) n.1.1.1.0 }
