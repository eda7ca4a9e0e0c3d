use Rattle.std.proofs.lemmas.Result.{on_ok_weaker}
use Rattle.global_use.proofs.Tables.{whole_function}
use Rattle.global_use.proofs.names.+names.Goals as goal

pub add_function-returns : goal.add_function-returns
add_function-returns t c =
    on_ok_weaker c.add_functions.result (λ adds. whole_function _ _ _ c.args.proto.now _ c.items.ensures.view c.in_ok-add_own.ensures adds) c.add_functions.ensures
