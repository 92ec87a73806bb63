-- Four bytes as the library gives them, and as the rules do. Assumes nothing.
use Rattle.std.proofs.Common.{◌≡◌, refl, ap, ◌∙◌, arith, [], ◌∷◌, ℕ, ◌/◌, ◌%◌, ◌^◌, ◌<◌, ℤ, pos, negsuc, w32, to_z-of_z}
use mir.Val.{SFits, to_z, of_z}
use Rattle.std.proofs.Math.Facts.{Fits-of_z}
use Rattle.std.specs.Int.{to_be_bytes}
use Rattle.rules.specs.Record.{word_bytes, word_of}

bytes_given : (w : ℕ) → w < 2 ^ 32 → to_be_bytes w32 w ≡ word_bytes w
bytes_given w h =
    let highest : w / 256 ^ 3 % 256 ≡ w / 256 ^ 3 = omega arith in
    ap (λ (b : ℕ). b ∷ w / 256 ^ 2 % 256 ∷ w / 256 % 256 ∷ w % 256 ∷ []) highest

-- a part in two's complement
word_given : (z : ℤ) → of_z w32 z ≡ word_of z
unfolding word_of
word_given (pos n) = refl
word_given (negsuc n) = omega arith

pub part_given : (z : ℤ) → SFits w32 z → to_be_bytes w32 (of_z w32 (to_z w32 (of_z w32 z))) ≡ word_bytes (word_of z)
part_given z f =
    ap (λ (y : ℤ). to_be_bytes w32 (of_z w32 y)) (to_z-of_z f) ∙ bytes_given (of_z w32 z) (Fits-of_z f).fits ∙ ap word_bytes (word_given z)
