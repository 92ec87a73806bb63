-- The last test of an entry that writes a ring, and what it leaves: a ring of n corners is written, or an output is too short for it. Assumes nothing.
use Rattle.std.specs.Prelude.{◌≡◌, refl, Bool, true, false, cond, ◌||◌, List, ◌++◌, map, ℕ, ℤ, ltb, length, drop, Result, Ok}
use Rattle.std.proofs.Common.{sym, ap, ap₂, ◌∙◌, subst}
use Rattle.rules.specs.Lists.{written, zeros}
use Rattle.rules.specs.Streams.{Stream}
use Rattle.rules.specs.Refusals.{Answer, refused, done}
use Rattle.laws_stack.specs.Places.{listed, length-listed, map-listed}
use Rattle.samples.specs.Answers.{answer_of}
use Rattle.samples.specs.declared.refusals.Refusal.{Refusal}
use Rattle.closing.specs.RingPromise.{unless_short, Outcome}

-- a ring of n corners f
module _ (R : List Stream) (f : ℕ → Stream) (n : ℕ) (e : R ≡ listed f n) (east north : List ℤ) (scratch : List ℕ) where
  count : length R ≡ n
  count = ap length e ∙ length-listed f n

  -- the test of the outputs decides
  told : (b : Bool) → (ltb (length east) n || ltb (length north) n) ≡ b → cond b (refused 5 0) (done R) ≡ unless_short east north R
  told b h = ap (λ (t : Bool). cond t (refused 5 0) (done R)) (sym h ∙ sym (ap (λ (m : ℕ). ltb (length east) m || ltb (length north) m) count))

  -- an output is too short
  pub outcome_short : {r : Result ℕ Refusal} {scratch' : List ℕ} → answer_of r ≡ refused 5 0 → (ltb (length east) n || ltb (length north) n) ≡ true
      → scratch' ≡ zeros scratch → Outcome (unless_short east north R) r east east north north scratch scratch'
  outcome_short {r} {scratch'} s h z =
      subst (λ (a : Answer (List Stream)). Outcome a r east east north north scratch scratch') (told true h)
      (record { says = s; east_after = refl; north_after = refl; scratch-is = z })

  -- a part of each corner is written
  parts : (part : Stream → ℤ) (old : List ℤ) → listed (λ i. part (f i)) n ++ drop n old ≡ written (map part R) old
  parts part old =
      ap₂ (λ (l : List ℤ) (m : ℕ). l ++ drop m old) (sym (ap (map part) e ∙ map-listed part f n))
      (sym (ap length (ap (map part) e ∙ map-listed part f n) ∙ length-listed (λ i. part (f i)) n))

  pub outcome_done : {east' north' : List ℤ} {scratch' : List ℕ} → (ltb (length east) n || ltb (length north) n) ≡ false
      → east' ≡ listed (λ i. (f i).east) n ++ drop n east → north' ≡ listed (λ i. (f i).north) n ++ drop n north → scratch' ≡ zeros scratch
      → Outcome (unless_short east north R) (Ok n) east east' north north' scratch scratch'
  outcome_done {east'} {north'} {scratch'} h p q z =
      subst (λ (a : Answer (List Stream)). Outcome a (Ok n) east east' north north' scratch scratch')
      (told false h)
      (record {
        says = ap done (sym count);
        east_after = p ∙ parts (λ s. s.east) east;
        north_after = q ∙ parts (λ s. s.north) north;
        scratch-is = z;
      })
