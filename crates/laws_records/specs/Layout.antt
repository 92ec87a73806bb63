-- Where a record's numbers and corners stand among its bytes: what was put there is what is read there, and what is read there is what stands there.
-- Assumes nothing.
use Rattle.std.specs.Prelude.{◌≡◌, true, false, ℕ, zero, suc, ◌+◌, ◌*◌, ◌^◌, ◌≤◌, ◌<◌}
use Rattle.std.proofs.Math.Path.{refl, sym, ap}
use Rattle.std.proofs.Common.{◌∙◌, add-zero, arith, drop-drop, get_or-drop}
use mathlib.Core.List.{List, [], ◌∷◌, ◌++◌}
use Rattle.std.proofs.Math.Numerals.{add-one}
use Rattle.std.proofs.lemmas.Bool.{not-false}
use Rattle.std.proofs.Math.ListN.{length, get_or, drop}
use Rattle.std.proofs.Math.Seq.{drop-cons}
use Rattle.rules.specs.Lists.{some_of}
use Rattle.rules.specs.Streams.{Stream, stream, within, beyond}
use Rattle.rules.specs.Record.{corner_size, big_endian, word, twos, corners_at, word_bytes, word_of, corners_bytes}
use Rattle.laws_outline.specs.ListLaws.{both_yes, both_no}
use Rattle.laws_records.specs.Words.{number-back, bytes_back, part-back, word_back}

-- bytes, each below 256
pub record Bytes (bs : List ℕ) : Type 0 where
  pub below : (i : ℕ) → get_or bs i 0 < 256

-- ---- a number

module _ (bs : List ℕ) (at : ℕ) where
  -- its bytes are those of the rest from there on
  from_there : word bs at ≡ word (drop at bs) 0
  unfolding word
  from_there =
      let first : get_or bs at 0 ≡ get_or (drop at bs) 0 0 = ap (λ (i : ℕ). get_or bs i 0) (sym (add-zero at)) ∙ sym (get_or-drop at bs 0 0) in
      let second = sym (get_or-drop at bs 1 0) in
      let third = sym (get_or-drop at bs 2 0) in
      let fourth = sym (get_or-drop at bs 3 0) in
      λ k. big_endian (first k) (second k) (third k) (fourth k)

  module _ (w : ℕ) (rest : List ℕ) (e : drop at bs ≡ word_bytes w ++ rest) where
    pub word-there : word bs at ≡ w
    unfolding word
    word-there = from_there ∙ ap (λ (l : List ℕ). word l 0) e ∙ number-back w

    pub after-word : drop (at + 4) bs ≡ rest
    after-word = sym (drop-drop 4 at bs) ∙ ap (drop 4) e

  module _ (b : Bytes bs) where
    pub word_below : word bs at < 2 ^ 32
    unfolding word
    word_below = omega (arith, b.below at, b.below (at + 1), b.below (at + 2), b.below (at + 3))

    pub word-here : at + 4 ≤ length bs → drop at bs ≡ word_bytes (word bs at) ++ drop (at + 4) bs
    unfolding word
    word-here h =
        byte at (at + 1) refl (omega arith)
        ∙ ap (λ (l : List ℕ). get_or bs at 0 ∷ l)
        (byte (at + 1) (at + 2) (omega arith) (omega arith)
        ∙ ap (λ (l : List ℕ). get_or bs (at + 1) 0 ∷ l)
        (byte (at + 2) (at + 3) (omega arith) (omega arith)
        ∙ ap (λ (l : List ℕ). get_or bs (at + 2) 0 ∷ l) (byte (at + 3) (at + 4) (omega arith) (omega arith))))
        ∙ ap (λ (l : List ℕ). l ++ drop (at + 4) bs)
        (sym (bytes_back (get_or bs at 0) (get_or bs (at + 1) 0) (get_or bs (at + 2) 0) (get_or bs (at + 3) 0)
        (b.below at) (b.below (at + 1)) (b.below (at + 2)) (b.below (at + 3))))
      where
        byte : (i j : ℕ) → j ≡ i + 1 → i < length bs → drop i bs ≡ get_or bs i 0 ∷ drop j bs
        byte i j e h = drop-cons bs i 0 h ∙ ap (λ (k : ℕ). get_or bs i 0 ∷ drop k bs) (sym (e ∙ add-one i))

-- ---- the corners

-- both parts of a stream that is not beyond the limit are within it
parts_within : (s : Stream) → beyond s ≡ false → (within s.east ≡ true) × (within s.north ≡ true)
unfolding beyond
parts_within s e = both_yes (within s.east) (within s.north) (not-false _ e)

pub corners-there : (r : List Stream) (bs : List ℕ) (at : ℕ) (rest : List ℕ) → some_of beyond r ≡ false → drop at bs ≡ corners_bytes r ++ rest →
    corners_at (length r) bs at ≡ r
unfolding some_of corners_at corners_bytes
corners-there [] bs at rest near e = refl
corners-there (s ∷ r) bs at rest near e =
    let n = both_no (beyond s) (some_of beyond r) near in
    let w = parts_within s n.0 in
    let north = word_bytes (word_of s.north) ++ (corners_bytes r ++ rest) in
    let half = after-word bs at (word_of s.east) north e in
    let east_is = ap twos (word-there bs at (word_of s.east) north e) ∙ part-back s.east w.0 in
    let north_is = ap twos (word-there bs (at + 4) (word_of s.north) (corners_bytes r ++ rest) half) ∙ part-back s.north w.1 in
    let end : at + corner_size ≡ at + 4 + 4 = omega arith in
    let next = ap (λ (k : ℕ). drop k bs) end ∙ after-word bs (at + 4) (word_of s.north) (corners_bytes r ++ rest) half in
    λ k. stream (east_is k) (north_is k) ∷ corners-there r bs (at + corner_size) rest n.1 next k

pub corners-here : (n : ℕ) (bs : List ℕ) (at : ℕ) → Bytes bs → at + corner_size * n ≤ length bs →
    drop at bs ≡ corners_bytes (corners_at n bs at) ++ drop (at + corner_size * n) bs
unfolding corners_at corners_bytes
corners-here zero bs at b h = let same : at ≡ at + corner_size * zero = omega arith in ap (λ (k : ℕ). drop k bs) same
corners-here (suc n) bs at b h =
    let middle : at + 4 + 4 ≡ at + corner_size = omega arith in
    let end : at + corner_size + corner_size * n ≡ at + corner_size * suc n = omega arith in
    let east = sym (word_back (word bs at) (word_below bs at b)) in
    let north = sym (word_back (word bs (at + 4)) (word_below bs (at + 4) b)) in
    let rest = ap (λ (k : ℕ). drop k bs) middle
    ∙ corners-here n bs (at + corner_size) b (omega arith)
    ∙ ap (λ (k : ℕ). corners_bytes (corners_at n bs (at + corner_size)) ++ drop k bs) end in
    word-here bs at b (omega arith)
    ∙ ap (λ (l : List ℕ). word_bytes (word bs at) ++ l) (word-here bs (at + 4) b (omega arith))
    ∙ (λ k. word_bytes (east k) ++ (word_bytes (north k) ++ rest k))
