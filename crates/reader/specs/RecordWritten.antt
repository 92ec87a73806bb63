-- One part of each corner written to the front of an output, place by place.
-- Assumes nothing.
use Rattle.std.specs.Prelude.{◌≡◌, refl, List, [], ◌∷◌, ◌++◌, map, ℕ, suc, ◌+◌, ◌≤◌, ◌<◌, ℤ, pos, length, get_or, take, drop, set}
use Rattle.std.proofs.Common.{sym, ◌∙◌, add-one, arith, length-append, length-drop, take_all, take-suc, drop-cons, length-take-le}
use Rattle.std.proofs.lemmas.List.{map-append, length-map, set_at}
use Rattle.std.proofs.Math.Seq.{append_snoc}
use Rattle.rules.specs.Lists.{written}
use Rattle.rules.specs.Streams.{Stream, stream, sample}

module _ (part : Stream → ℤ) (xs : List Stream) (old : List ℤ) where
  -- the parts of the first corners, before what the output held
  abbrev pub parts_so_far : ℕ → List ℤ
  parts_so_far i = map part (take i xs) ++ drop i old

  count : (i : ℕ) → i ≤ length xs → length (map part (take i xs)) ≡ i
  count i h = length-map (take i xs) part ∙ length-take-le i xs h

  pub parts-length : (i : ℕ) → i ≤ length xs → length xs ≤ length old → length (parts_so_far i) ≡ length old
  parts-length i h l = length-append (map part (take i xs)) (drop i old) ∙ omega (arith, count i h, length-drop i old)

  pub parts_more : (i : ℕ) → i < length xs → length xs ≤ length old → set (parts_so_far i) i (part (sample xs i)) ≡ parts_so_far (i + 1)
  parts_more i h l =
      let v = part (sample xs i) in
      rw (add-one, take-suc xs i (stream (pos 0) (pos 0)) h, map-append part (take i xs) (sample xs i ∷ []), drop-cons old i (pos 0) (omega arith))
      (set_at (map part (take i xs)) (get_or old i (pos 0)) (drop (suc i) old) v i (count i (omega arith))
      ∙ sym (append_snoc (map part (take i xs)) v (drop (suc i) old)))

  pub parts_all : (i : ℕ) → i ≡ length xs → parts_so_far i ≡ written (map part xs) old
  parts_all i e = rw (e, take_all (length xs) xs (omega arith), length-map xs part) refl
