-- An argument is the heap's.
use Rattle.natives.proofs.arguments.a_string.Goals as goal

pub text_of-requires : goal.text_of-requires
text_of-requires c = c.argument_or_nil-argument.ensures.known c.args.heap.now c.requires
