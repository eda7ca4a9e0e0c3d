-- The message is a text of the heap.
use Rattle.std.proofs.Common.{ap, sym, ◌∙◌}
use Rattle.lua_num.specs.Bytes.{Text}
use Rattle.lua_model.specs.Acts.{fails}
use Rattle.lua_model.specs.Datum.{text}
use Rattle.natives.proofs.refusal.failure.Goals as goal

pub returns-clause-failure : goal.returns-clause-failure
returns-clause-failure c = λ act refused.
    c.in_ok-message.ensures c.args.heap.now act refused ∙ ap (λ (t : Text). fails (text t)) (sym c.bytes.ensures) ∙ ap fails (sym c.in_ok-value.ensures.value)
