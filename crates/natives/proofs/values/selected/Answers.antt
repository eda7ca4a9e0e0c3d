-- From the front, and from the back.
use Rattle.std.proofs.Common.{map, length, ◌-◌, pos, ◌<ℤ◌, ap, sym, ◌∙◌, arith}
use Rattle.std.proofs.lemmas.Int.{ints, to_z-of_z}
use Rattle.std.proofs.lemmas.List.{take_rest}
use Rattle.lua_model.specs.Acts.{results}
use Rattle.lua_heap.specs.State.{datum}
use Rattle.natives.proofs.Selected.{selected-front, selected-back}
use Rattle.natives.proofs.values.selected.Goals as goal

pub returns-then-distance-count-clause-chosen : goal.returns-then-distance-count-clause-chosen
returns-then-distance-count-clause-chosen c = λ h s.
    let others = c.args.others.now in
    let distance = c.unsigned_abs-distance in
    let fits = c.ranges.n in
    let positive : pos 0 <ℤ c.args.n = grind (arith, ints, c.if-n-gt0.true) in
    selected-front c.args.n distance.result positive (simp to_z-of_z at distance.ensures.value) others h s
    ∙ ap (λ vs. results (map (datum h) vs) s) (sym (take_rest others (distance.result - 1)))

pub returns-then-distance-count-2-clause-chosen : goal.returns-then-distance-count-2-clause-chosen
returns-then-distance-count-2-clause-chosen c = λ h s.
    let others = c.args.others.now in
    let distance = c.unsigned_abs-distance in
    let fits = c.ranges.n in
    let negative : c.args.n <ℤ pos 0 = grind (arith, ints, c.if-n-lt0.true) in
    selected-back c.args.n distance.result negative (simp to_z-of_z at distance.ensures.value) others c.if-distance-count-2.true h s
    ∙ ap (λ vs. results (map (datum h) vs) s) (sym (take_rest others (length others - distance.result)))
