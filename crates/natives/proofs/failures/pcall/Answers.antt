-- What an argument refuses, the function refuses; the arguments behind the first are the heap's.
use Rattle.std.proofs.Common.{sym, ap, ◌∙◌, map}
use Rattle.std.proofs.lemmas.List.{drop-map}
use Rattle.std.proofs.lemmas.List.Elements.{All-drop}
use Rattle.std.proofs.lemmas.Result.{err_from_is_err_and}
use Rattle.lua_model.specs.Acts.{protects}
use Rattle.lua_heap.specs.State.{datum, IsOf}
use Rattle.natives.proofs.failures.pcall.Goals as goal

pub returns-in_err-f : goal.returns-in_err-f
returns-in_err-f c = λ h k.
    let p = err_from_is_err_and c.from_residual.result c.from_residual.ensures.1 in
    rw (p.1, p.2) (λ hosts e. c.in_err-f.ensures.refused h _)

pub returns : goal.returns
returns c = λ h k.
    let behind = c.in_ok-args.ensures ∙ c.rest.ensures in
    let given = c.args.args.now in (
      (λ hosts e. rw (c.in_ok-f.ensures.value h) (ap (protects (datum h c.in_ok-f.f)) (drop-map (datum h) 1 given ∙ ap (map (datum h)) (sym behind)))),
      (c.in_ok-f.ensures.known h k, rw behind (All-drop (IsOf h) 1 given k)),
    )
