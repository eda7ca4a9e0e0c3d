use Rattle.std.proofs.Common.{sym}
use Rattle.chunk_difference.proofs.Same.{counted}
use Rattle.chunk_difference.proofs.parts.function_count.Goals as goal

pub returns : goal.returns
returns c = sym (counted c.args.proto.now c.items.result.now c.items.ensures.view)
