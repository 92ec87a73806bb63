-- The corners of a ring put into a buffer one after the other.
-- Assumes nothing.
use Rattle.std.specs.Prelude.{◌≡◌, refl, List, [], ◌∷◌, ◌++◌, ℕ, ◌+◌, ◌≤◌, ◌<◌, pos, length, take}
use Rattle.std.proofs.Common.{sym, ap, ◌∙◌, append_assoc, add-zero, add-one, arith, take_all, length-take-le}
use Rattle.std.proofs.Math.Seq.{take-suc}
use Rattle.rules.specs.Streams.{Stream, stream, sample}
use Rattle.rules.specs.Record.{corner_size, corner_bytes, corners_bytes}
use Rattle.laws_records.specs.OneRecord.{corners_size}
use Rattle.samples.specs.Placed.{Put, placed_none, then, put-length}

corners_with : (r t : List Stream) → corners_bytes (r ++ t) ≡ corners_bytes r ++ corners_bytes t
unfolding corners_bytes
corners_with [] t = refl
corners_with (s ∷ r) t =
    ap (λ (l : List ℕ). corner_bytes s ++ l) (corners_with r t) ∙ sym (append_assoc (corner_bytes s) (corners_bytes r) (corners_bytes t))

-- the first i corners are put from a place on, and another place follows them
pub record Corners (r : List Stream) (from i place : ℕ) (old now : List ℕ) : Type 0 where
  pub inside : i ≤ length r
  pub put : Put (corners_bytes (take i r)) from old now place

pub corners_none : (r : List Stream) (from : ℕ) (old : List ℕ) → from ≤ length old → Corners r from 0 from old old
unfolding corners_bytes
corners_none r from old h = record {
  inside = omega arith;
  put = record { next_is = sym (add-zero from); room = omega arith; content = sym (placed_none from old) };
}

module _ {r : List Stream} {from i place : ℕ} {old now : List ℕ} (c : Corners r from i place old now) where
  pub corners-all : length r ≤ i → Put (corners_bytes r) from old now place
  corners-all h = rw (take_all i r h) at c.put

  module _ (here : i < length r) where
    -- there is room for one more
    pub corner_room : from + length (corners_bytes r) ≤ length old → place + corner_size ≤ length now
    corner_room room =
        omega (
          arith,
          corners_size r,
          corners_size (take i r),
          length-take-le i r c.inside,
          c.put.next_is,
          put-length c.put,
        )

    pub corners_more : {next : ℕ} {new : List ℕ} → Put (corner_bytes (sample r i)) place now new next → Corners r from (i + 1) next old new
    unfolding corners_bytes
    corners_more p =
        let one : corners_bytes (take (i + 1) r) ≡ corners_bytes (take i r) ++ corner_bytes (sample r i) =
        rw (add-one, take-suc r i (stream (pos 0) (pos 0)) here) (corners_with (take i r) (sample r i ∷ [])) in
        record { inside = omega arith; put = rw one (then c.put p) }
