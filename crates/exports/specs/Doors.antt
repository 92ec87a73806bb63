-- What the C face of the float door gives for each answer of the rules: number 0 and the values, or the refusal's number, place and float.
-- Assumes nothing.
use Rattle.std.specs.Prelude.{pos, Float, false}
use Rattle.std.specs.Float.{fin}
use Rattle.rules.specs.Door.{PartIs, whole, no, no_float}
use Rattle.rules.specs.Entries.{DoorAnswer, door_done, door_refused, door_refused_float}
use Rattle.exports.specs.declared.doors.PartTaken.{PartTaken}
use Rattle.exports.specs.declared.doors.ReadingsTaken.{ReadingsTaken}

-- 0.0, where no float is handed back
abbrev pub nothing : Float
nothing = fin false 0 (pos 0)

abbrev pub part_face : PartIs → PartTaken
part_face (whole z) = record { number = 0; value = z; back = nothing }
part_face (no number) = record { number = number; value = pos 0; back = nothing }
part_face (no_float number x) = record { number = number; value = pos 0; back = x }

abbrev pub readings_face : DoorAnswer → ReadingsTaken
readings_face (door_done count) = record { number = 0; place = 0; count = count; back = nothing }
readings_face (door_refused number place) = record { number = number; place = place; count = 0; back = nothing }
readings_face (door_refused_float number place x) = record { number = number; place = place; count = 0; back = x }
