-- The version and the sense that the code holds, by their bytes.
-- Assumes nothing.
use Rattle.std.specs.Prelude.{ℕ}
use Rattle.samples.specs.Forms.{version_byte, sense_byte}
use Rattle.writer.specs.declared.Form.{Form}

abbrev pub form_as : Form → ℕ × ℕ
form_as f = (version_byte f.version, sense_byte f.sense)
