-- Samples written to two outputs as the lines of a good text are read: the front of each output holds the parts of the samples so far.
-- Assumes nothing.
use Rattle.std.specs.Prelude.{◌≡◌, refl, List, [], ◌∷◌, ◌++◌, map, ℕ, suc, ◌+◌, ◌≤◌, ◌<◌, ℤ, length, get_or, drop, set}
use Rattle.std.proofs.Common.{sym, ap, ◌∙◌, append_assoc, arith, length-append, length-drop, drop-cons}
use Rattle.std.proofs.lemmas.List.{map-append, length-map, set_at}
use Rattle.rules.specs.Lists.{written}
use Rattle.rules.specs.Streams.{Stream}
use Rattle.rules.specs.Refusals.{output_after}
use Rattle.rules.specs.Entries.{easts, norths}
use Rattle.rules.specs.Program.{cut_at, newline}
use Rattle.text.specs.TextAnswers.{samples_answer, next_line, bad_line, good_line, Fit}
use Rattle.text.specs.TextLines.{Passed, passed_none, passed_more, passed_all, same_all, count-within, more_room, never_bad, line-left, not_empty, fit_answer}

module _ {A : Type 0} where
  -- one more item, after the result so far
  pub written_more : (result old : List A) (n : ℕ) (x : A) → length result ≡ n → n < length old →
      set (written result old) n x ≡ written (result ++ (x ∷ [])) old
  written_more result old n x e h =
      let l : length (result ++ (x ∷ [])) ≡ suc n = length-append result (x ∷ []) ∙ omega arith in
      rw (l, e, drop-cons old n x h, append_assoc result (x ∷ []) (drop (suc n) old)) (set_at result (get_or old n x) (drop (suc n) old) x n e)

-- one part of the samples, at the front of its output
module _ (part : Stream → ℤ) (xs : List Stream) (old out : List ℤ) (out_is : out ≡ written (map part xs) old) where
  part_length : length xs ≤ length old → length out ≡ length old
  part_length h =
      ap length out_is ∙ length-append (map part xs) (drop (length (map part xs)) old)
      ∙ omega (arith, length-drop (length (map part xs)) old, length-map xs part)

  part_more : (s : Stream) (n : ℕ) → length xs ≡ n → n < length old → set out n (part s) ≡ written (map part (xs ++ (s ∷ []))) old
  part_more s n e h =
      ap (λ (l : List ℤ). set l n (part s)) out_is
      ∙ written_more (map part xs) old n (part s) (length-map xs part ∙ e) h
      ∙ ap (λ (l : List ℤ). written l old) (sym (map-append part xs (s ∷ [])))

pub record Writing (bs : List ℕ) (es₀ ns₀ : List ℤ) (rest : List ℕ) (count : ℕ) (es ns : List ℤ) : Type 0 where
  pub so_far : List Stream
  pub passed : Passed bs rest count so_far
  pub east_is : es ≡ written (easts so_far) es₀
  pub north_is : ns ≡ written (norths so_far) ns₀

pub writing_none : (bs : List ℕ) (es ns : List ℤ) → Writing bs es ns bs 0 es ns
writing_none bs es ns = record { so_far = []; passed = passed_none bs; east_is = refl; north_is = refl }

module _
    {bs : List ℕ}
    {n : ℕ}
    {es₀ ns₀ : List ℤ}
    {rest : List ℕ}
    {count : ℕ}
    {es ns : List ℤ}
    (f : Fit bs n es₀ ns₀)
    (w : Writing bs es₀ ns₀ rest count es ns)
  where
    so_many : length w.so_far ≤ length f.all
    so_many = omega (arith, w.passed.many, count-within w.passed f.good)

    pub line_comes : count < n → next_line (cut_at newline rest) ≡ bad_line → ⊥
    line_comes h e = never_bad w.passed f.good (line-left w.passed f.good (omega (arith, f.many))) e

    pub east-length : length es ≡ length es₀
    east-length = part_length (λ s. s.east) w.so_far es₀ es w.east_is (omega (arith, so_many, f.many, f.east_room))

    pub north-length : length ns ≡ length ns₀
    north-length = part_length (λ s. s.north) w.so_far ns₀ ns w.north_is (omega (arith, so_many, f.many, f.north_room))

    module _ (same : w.so_far ≡ f.all) where
      east-same : es ≡ output_after easts (samples_answer bs es₀ ns₀) es₀
      east-same = w.east_is ∙ rw (fit_answer bs es₀ ns₀ f) (ap (λ (xs : List Stream). written (easts xs) es₀) same)

      north-same : ns ≡ output_after norths (samples_answer bs es₀ ns₀) ns₀
      north-same = w.north_is ∙ rw (fit_answer bs es₀ ns₀ f) (ap (λ (xs : List Stream). written (norths xs) ns₀) same)

    -- once nothing is left of the text
    same-all : length rest ≡ 0 → w.so_far ≡ f.all
    same-all h =
        let read = passed_all w.passed h in
        let good = f.good in
        cc

    pub east_after : length rest ≡ 0 → es ≡ output_after easts (samples_answer bs es₀ ns₀) es₀
    east_after h = east-same (same-all h)

    pub north_after : length rest ≡ 0 → ns ≡ output_after norths (samples_answer bs es₀ ns₀) ns₀
    north_after h = north-same (same-all h)

    -- once as many are written as were counted
    pub east-counted : count ≡ n → es ≡ output_after easts (samples_answer bs es₀ ns₀) es₀
    east-counted h = east-same (same_all w.passed f.good (h ∙ f.many))

    pub north-counted : count ≡ n → ns ≡ output_after norths (samples_answer bs es₀ ns₀) ns₀
    north-counted h = north-same (same_all w.passed f.good (h ∙ f.many))

    -- one more line
    module _ (s : Stream) (next : List ℕ) (good : next_line (cut_at newline rest) ≡ good_line s next) where
      further : Passed bs next (count + 1) (w.so_far ++ (s ∷ []))
      further = passed_more w.passed (more_room w.passed f.good (not_empty rest good)) s next good

      pub room : count < length f.all
      room = omega (arith, count-within further f.good)

      pub writing_more : Writing bs es₀ ns₀ next (count + 1) (set es count s.east) (set ns count s.north)
      writing_more = record {
        so_far = w.so_far ++ (s ∷ []);
        passed = further;
        east_is = part_more (λ s. s.east) w.so_far es₀ es w.east_is s count w.passed.many (omega (arith, room, f.many, f.east_room));
        north_is = part_more (λ s. s.north) w.so_far ns₀ ns w.north_is s count w.passed.many (omega (arith, room, f.many, f.north_room));
      }
