-- Signed numbers of 64 bits as words: a word that holds a number stands for it.
-- Assumes nothing.
use lib.IntN.{ℤ}
use mir.Syntax.{w64}
use mir.Val.{to_z, of_z}

abbrev pub word : ℤ → ℤ
word z = to_z w64 (of_z w64 z)
