-- The bytes of a version and of a sense that the code holds, and how each is read from a byte.
-- Assumes nothing.
use Rattle.std.specs.Prelude.{◌≡◌, false, ◌<◌, ℕ, Result, Ok, Err}
use Rattle.rules.specs.Record.{known_version}
use Rattle.samples.specs.declared.refusals.Reason.{Reason}
use Rattle.samples.specs.declared.refusals.Reason.TheVariants.{OtherVersion, OtherSense}
use Rattle.samples.specs.declared.forms.Version.{Version}
use Rattle.samples.specs.declared.forms.Version.TheVariants.{First, Second}
use Rattle.samples.specs.declared.forms.Sense.{Sense}
use Rattle.samples.specs.declared.forms.Sense.TheVariants.{GoingTo, ComingFrom}

abbrev pub version_byte : Version → ℕ
version_byte First = 1
version_byte Second = 2

abbrev pub sense_byte : Sense → ℕ
sense_byte GoingTo = 0
sense_byte ComingFrom = 1

-- a known version is read from its byte, and any other byte is refused as one
abbrev pub ReadsVersion : ℕ → Result Version Reason → Type 0
ReadsVersion byte (Ok v) = byte ≡ version_byte v
ReadsVersion byte (Err r) = (known_version byte ≡ false) × (r ≡ OtherVersion)

-- 0 and 1 are read, and what is above 1 is refused
abbrev pub ReadsSense : ℕ → Result Sense Reason → Type 0
ReadsSense byte (Ok s) = byte ≡ sense_byte s
ReadsSense byte (Err r) = (1 < byte) × (r ≡ OtherSense)
