-- Record. "Big-endian. Byte 0 is the version, 1. Bytes 1 to 4 are the length in bytes of the rest. Then per corner 4 bytes east and 4 bytes north, two's
-- complement, ring order. Length 0 is the empty ring." "Version 2 has one byte between the length and the corners, counted in the length: 0 going to, 1 coming
-- from." Versions and sizes are said once: by them a record is taken apart, and put together. When 16, 17 and 20 to 22 are given stands in Entries,
-- `frame_tests` and `form_tests`.
-- Assumes nothing.
use Rattle.std.specs.Prelude.{Bool, cond, ◌||◌, List, [], ◌∷◌, ◌++◌, ℕ, zero, suc, ◌+◌, ◌-◌, ◌*◌, ◌/◌, ◌%◌, ◌^◌, ℤ, pos, negsuc, ltb, eqb, length, get_or, drop}
use Rattle.rules.specs.Streams.{Stream, stream}
use Rattle.rules.specs.Use.{turn_about}

-- ---- the layout

-- "the version, 1", or 2
abbrev pub known_version : ℕ → Bool
known_version v = eqb v 1 || eqb v 2

-- the version and the length
abbrev pub head_size : ℕ
head_size = 5

-- the byte that says the sense: one in version 2, none in version 1, which "is always going-to"
abbrev pub size_of_sense : ℕ → ℕ
size_of_sense v = cond (eqb v 2) 1 0

-- "4 bytes east and 4 bytes north"
abbrev pub corner_size : ℕ
corner_size = 8

-- "0 going to, 1 coming from"
abbrev pub coming_from : ℕ → Bool
coming_from s = eqb s 1

-- "turns a coming-from ring about": of a ring as a record stores it the going-to ring meant, and of a going-to ring the one that a record stores
unfoldable pub in_sense : ℕ → List Stream → List Stream
in_sense s r = cond (coming_from s) (turn_about r) r

-- ---- taken apart

-- four bytes as a number, the first the highest
abbrev pub big_endian : ℕ → ℕ → ℕ → ℕ → ℕ
big_endian a b c d = ((a * 256 + b) * 256 + c) * 256 + d

-- the four bytes at a place
unfoldable pub word : List ℕ → ℕ → ℕ
word bs i = big_endian (get_or bs i 0) (get_or bs (i + 1) 0) (get_or bs (i + 2) 0) (get_or bs (i + 3) 0)

-- a 32-bit number in two's complement
unfoldable pub twos : ℕ → ℤ
twos w = cond (ltb w (2 ^ 31)) (pos w) (negsuc (2 ^ 32 - 1 - w))

abbrev pub version : List ℕ → ℕ
version bs = get_or bs 0 0

-- the length in bytes of the rest, as the record says it
abbrev pub said_length : List ℕ → ℕ
said_length bs = word bs 1

-- the offset of the first byte after the record, as it says
abbrev pub said_end : List ℕ → ℕ
said_end bs = head_size + said_length bs

-- the first n corners from a place on
unfoldable pub corners_at : ℕ → List ℕ → ℕ → List Stream
corners_at zero bs i = []
corners_at (suc n) bs i = stream (twos (word bs i)) (twos (word bs (i + 4))) ∷ corners_at n bs (i + corner_size)

-- the corners in bytes that have nothing else
unfoldable pub corners_in : List ℕ → List Stream
corners_in cs = corners_at (length cs / corner_size) cs 0

abbrev pub sense : List ℕ → ℕ
sense bs = cond (eqb (version bs) 2) (get_or bs head_size 0) 0

-- the bytes after the head and the sense
abbrev pub corners_part : List ℕ → List ℕ
corners_part bs = drop (head_size + size_of_sense (version bs)) bs

-- "the corners as stored"
abbrev pub stored : List ℕ → List Stream
stored bs = corners_in (corners_part bs)

-- "the going-to ring meant"
abbrev pub meant : List ℕ → List Stream
meant bs = in_sense (sense bs) (stored bs)

-- ---- put together

-- a number as four bytes, the highest first
abbrev pub word_bytes : ℕ → List ℕ
word_bytes w = w / 256 ^ 3 ∷ w / 256 ^ 2 % 256 ∷ w / 256 % 256 ∷ w % 256 ∷ []

-- a part as a 32-bit number, in two's complement
unfoldable pub word_of : ℤ → ℕ
word_of (pos n) = n
word_of (negsuc n) = 2 ^ 32 - 1 - n

-- a corner's bytes
abbrev pub corner_bytes : Stream → List ℕ
corner_bytes s = word_bytes (word_of s.east) ++ word_bytes (word_of s.north)

unfoldable pub corners_bytes : List Stream → List ℕ
corners_bytes [] = []
corners_bytes (s ∷ r) = corner_bytes s ++ corners_bytes r

abbrev pub sense_bytes : ℕ → ℕ → List ℕ
sense_bytes v s = cond (eqb v 2) (s ∷ []) []

-- what stands before a rest of so many bytes
abbrev pub head_bytes : ℕ → ℕ → List ℕ
head_bytes v rest = v ∷ word_bytes rest

-- the record of a ring in a version and a sense
unfoldable pub record_of : ℕ → ℕ → List Stream → List ℕ
record_of v s r =
    let rest = sense_bytes v s ++ corners_bytes (in_sense s r) in
    head_bytes v (length rest) ++ rest
