-- A number and its four bytes, and a part and its number in two's complement: each is got back from the other.
-- Assumes nothing.
use Rattle.std.specs.Prelude.{◌≡◌, refl, Bool, true, false, [], ◌∷◌, ℕ, suc, ◌-◌, ◌/◌, ◌%◌, ◌^◌, ◌≤◌, ◌<◌, ℤ, pos, negsuc, ltb}
use Rattle.std.proofs.Common.{ap, ◌∙◌, arith, lt-ltb, le-ltb, leb-true, ltb-true, ltb-false}
use Rattle.rules.specs.Streams.{limit, within}
use Rattle.rules.specs.Record.{big_endian, twos, word_bytes, word_of}

-- ---- four bytes

pub number-back : (w : ℕ) → big_endian (w / 256 ^ 3) (w / 256 ^ 2 % 256) (w / 256 % 256) (w % 256) ≡ w
number-back w = omega arith

pub bytes_back : (a b c d : ℕ) → a < 256 → b < 256 → c < 256 → d < 256 → word_bytes (big_endian a b c d) ≡ a ∷ b ∷ c ∷ d ∷ []
bytes_back a b c d ha hb hc hd =
    let w = big_endian a b c d in
    let e : w / 256 ^ 3 ≡ a = omega arith in
    let f : w / 256 ^ 2 % 256 ≡ b = omega arith in
    let g : w / 256 % 256 ≡ c = omega arith in
    let h : w % 256 ≡ d = omega arith in
    λ k. e k ∷ f k ∷ g k ∷ h k ∷ []

-- ---- two's complement

pub twos_low : (w : ℕ) → w < 2 ^ 31 → twos w ≡ pos w
unfolding twos
twos_low w h = rw (lt-ltb w (2 ^ 31) h) refl

pub twos-high : (w : ℕ) → 2 ^ 31 ≤ w → twos w ≡ negsuc (2 ^ 32 - 1 - w)
unfolding twos
twos-high w h = rw (le-ltb w (2 ^ 31) h) refl

pub part-back : (z : ℤ) → within z ≡ true → twos (word_of z) ≡ z
unfolding word_of within
part-back (pos n) h = twos_low n (omega (arith, leb-true n limit h))
part-back (negsuc n) h =
    let small = leb-true (suc n) limit h in
    twos-high (2 ^ 32 - 1 - n) (omega arith) ∙ ap negsuc (omega arith)

pub word_back : (w : ℕ) → w < 2 ^ 32 → word_of (twos w) ≡ w
unfolding word_of
word_back w h = go (ltb w (2 ^ 31)) refl
  where
    go : (b : Bool) → ltb w (2 ^ 31) ≡ b → word_of (twos w) ≡ w
    go true e = ap word_of (twos_low w (ltb-true w (2 ^ 31) e))
    go false e = let large = ltb-false w (2 ^ 31) e in ap word_of (twos-high w large) ∙ omega arith
