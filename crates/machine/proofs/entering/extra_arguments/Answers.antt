use Rattle.std.proofs.Common.{◌∙◌, ap, sym, arith, drop}
use Rattle.std.proofs.lemmas.Result.{IfOk-weaker}
use Rattle.std.proofs.lemmas.List.{take_all, length-drop, drop-map}
use Rattle.lua_heap.specs.State.{datum}
use Rattle.machine.specs.Frames.{data_of}
use Rattle.machine.proofs.MadeFrames.{extra_kept}
use Rattle.machine.proofs.entering.extra_arguments.Goals as goal

pub returns-clause-list : goal.returns-clause-list
returns-clause-list c =
    let args = c.args.args.now in
    let f = c.args.function.now in
    IfOk-weaker c.from_slice.result _ _
    (λ list is h.
    ap (data_of h) (is ∙ take_all _ (drop f.params args) (omega (arith, length-drop f.params args)))
    ∙ sym (drop-map (datum h) f.params args)
    ∙ sym (extra_kept f.vararg f.params (data_of h args) c.if-function-eq0.false))
    c.from_slice.ensures
