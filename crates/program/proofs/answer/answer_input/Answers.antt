-- What is printed for the bytes that were read is what the rules say of all.
use Rattle.program.specs.Prints.{answers}
use Rattle.program.proofs.answer.answer_input.Goals as goal

pub returns : goal.returns
returns c =
    answers c.args.text.now c.args.count c.requires.in_bounds c.requires.count_in_bounds c.answer.result c.args.out.now c.answer.new.out
    c.answer.ensures.count c.answer.ensures.content
