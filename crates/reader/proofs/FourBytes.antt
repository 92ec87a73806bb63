-- Four bytes as the library reads them, and as the rules do. Assumes nothing.
use Rattle.std.proofs.Common.{◌≡◌, refl, ap, arith, Bool, true, false, List, [], ◌∷◌, ℕ, ◌+◌, ◌-◌, ◌^◌, suc, ltb, get_or, pos, negsuc, cond, w32}
use mir.Val.{to_z, sel}
use Rattle.std.specs.Int.{from_be_bytes}
use Rattle.rules.specs.Record.{word, twos}

pub bytes_read : (bs : List ℕ) (i : ℕ) →
    from_be_bytes w32 (get_or bs i 0 ∷ get_or bs (i + 1) 0 ∷ get_or bs (i + 2) 0 ∷ get_or bs (i + 3) 0 ∷ []) ≡ word bs i
unfolding word
bytes_read bs i = omega arith

-- in two's complement
pub twos_read : (w : ℕ) → to_z w32 w ≡ twos w
unfolding twos
twos_read w = go (ltb w (2 ^ 31))
  where
    go : (b : Bool) → sel b (pos w) (negsuc (2 ^ 32 - suc w)) ≡ cond b (pos w) (negsuc (2 ^ 32 - 1 - w))
    go true = refl
    go false = ap negsuc (omega arith)
