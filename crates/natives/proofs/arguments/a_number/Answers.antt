-- An argument is the heap's.
use Rattle.natives.proofs.arguments.a_number.Goals as goal

pub number_of-requires : goal.number_of-requires
number_of-requires c = c.argument_or_nil-argument.ensures.known c.args.heap.now c.requires
