use Rattle.std.specs.Prelude.{Result}
use Rattle.door.specs.declared.DoorRefusal.{DoorRefusal}
use Rattle.door.proofs.Answers.{Right}
use Rattle.door.proofs.first_bad.Given as goal

abbrev pub invariant-loop-place : goal.invariant-loop-place
invariant-loop-place l = (r : Result (Unit {0}) DoorRefusal) → Right l.es l.ns l.place r → Right l.es l.ns 0 r
