-- An answer of two lists of parts, as it is told: a refusal, or a count, with the parts at the front of two outputs.
-- Assumes nothing.
use Rattle.std.specs.Prelude.{◌≡◌, refl, List, ℕ, ℤ, length, take}
use Rattle.std.proofs.Common.{sym, ap, ap₂, ◌∙◌, arith}
use Rattle.std.proofs.lemmas.List.{length-map}
use Rattle.rules.specs.Streams.{Stream, streams}
use Rattle.rules.specs.Refusals.{Answer, refused, done, output_after}
use Rattle.rules.specs.Entries.{easts, norths, counted}
use Rattle.samples.specs.Outputs.{counted_done, front, streams-parts}

pub told_refused : (a : Answer (List Stream)) (k p : ℕ) → refused k p ≡ counted a → a ≡ refused k p
told_refused (refused l q) k p e =
    let f : l ≡ k = cc in
    let g : q ≡ p = cc in
    rw (f, g) refl
told_refused (done xs) k p e = let z : ◌≡◌ {A = ℕ} 0 1 = cc in absurd (omega arith)

-- so many, and what stands at the front of the outputs
pub record Told (a : Answer (List Stream)) (m : ℕ) (e n : List ℤ) : Type 0 where
  pub all : List Stream
  pub is_done : a ≡ done all
  pub many : m ≡ length all
  pub parts : streams (take m e) (take m n) ≡ all
  pub east-length : length (take m e) ≡ m
  pub north-length : length (take m n) ≡ m

-- what stands there is the answer
pub answered : {a : Answer (List Stream)} {m : ℕ} {e n : List ℤ} → Told a m e n → done (streams (take m e) (take m n)) ≡ a
answered t = ap done t.parts ∙ sym t.is_done

module _ (a : Answer (List Stream)) (e e' n n' : List ℤ) (m : ℕ) where
  pub told : e' ≡ output_after easts a e → n' ≡ output_after norths a n → done m ≡ counted a → Told a m e' n'
  told east_is north_is says =
      let d = counted_done a says in
      let r = d.0 in
      let many : length r ≡ m = sym d.2 in
      let at_east : take m e' ≡ easts r =
      ap (take m) (east_is ∙ ap (λ (b : Answer (List Stream)). output_after easts b e) d.1) ∙ front (easts r) e m (length-map r (λ s. s.east) ∙ many) in
      let at_north : take m n' ≡ norths r =
      ap (take m) (north_is ∙ ap (λ (b : Answer (List Stream)). output_after norths b n) d.1) ∙ front (norths r) n m (length-map r (λ s. s.north) ∙ many) in
      record {
        all = r;
        is_done = d.1;
        many = d.2;
        parts = ap₂ streams at_east at_north ∙ streams-parts r;
        east-length = ap length at_east ∙ length-map r (λ s. s.east) ∙ many;
        north-length = ap length at_north ∙ length-map r (λ s. s.north) ∙ many;
      }
