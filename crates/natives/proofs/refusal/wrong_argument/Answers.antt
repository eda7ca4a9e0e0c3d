-- What was got is the kind of the argument.
use Rattle.std.proofs.Common.{◌≡◌, ◌-◌, map, slice_get, refl, ap, sym, ◌∙◌}
use Rattle.std.proofs.lemmas.Option.{slice_get-map}
use Rattle.std.specs.Option.{option_map}
use Rattle.lua_heap.specs.State.{datum}
use Rattle.natives.proofs.refusal.wrong_argument.Goals as goal

pub returns : goal.returns
returns c = λ h.
    let given = c.args.args.now in
    let place = c.args.position - 1 in
    let found : slice_get (map (datum h) given) place ≡ option_map (datum h) c.argument.result = slice_get-map (datum h) given place ∙ ap (option_map (datum h)) (sym c.argument.ensures) in
    rw (c.in_ok-text.ensures, c.bytes.ensures, c.in_ok-extend-2.ensures.ok, c.in_ok-extend.ensures.ok, c.in_ok-what.ensures, c.got.ensures h, found) refl
