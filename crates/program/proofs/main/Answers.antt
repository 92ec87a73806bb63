-- What is read and what is printed fit.
use Rattle.std.specs.Prelude.{replicate}
use Rattle.std.proofs.Common.{sym, length-take-le}
use Rattle.program.specs.Prints.{answers_fit}
use Rattle.program.proofs.main.Goals as goal

pub slice_bounds-out-end : goal.slice_bounds-out-end
slice_bounds-out-end c =
    answers_fit c.read.new.text c.in-Ok.count c.answer_input-printed.result (replicate 18442 0) c.answer_input-printed.new.out c.answer_input-printed.ensures

pub slice_bounds-write_all-end-2 : goal.slice_bounds-write_all-end-2
slice_bounds-write_all-end-2 c =
    let o = c.answer_input-printed in
    sym (length-take-le o.result o.new.out (answers_fit c.read.new.text c.in-Ok.count o.result (replicate 18442 0) o.new.out o.ensures))
