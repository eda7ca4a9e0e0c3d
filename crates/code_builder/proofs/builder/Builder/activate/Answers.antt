use Rattle.std.proofs.Common.{ap, sym, ◌∙◌}
use Rattle.code_builder.specs.Made.{maker_of}
use Rattle.code_builder.specs.Locals.{activate_one}
use Rattle.code_builder.proofs.Activated.{activate-append}
use Rattle.code_builder.proofs.builder.Builder.activate.Goals as goal

pub loop-local-preserved : goal.loop-local-preserved
loop-local-preserved c =
    c.in_ok-activate_one.ensures ∙ ap (activate_one c.in-Some.local) c.loop-local.invariant
    ∙ sym (activate-append c.loop-local.yielded c.in-Some.local (maker_of c.args.self.now))
