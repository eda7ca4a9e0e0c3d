use Rattle.std.proofs.Common.{◌≤◌, sym, ap, ◌∙◌, length, arith}
use Rattle.lua_tree.specs.WellFormed.{last_takes_arguments}
use Rattle.well_formed.proofs.Lists.{last_takes_is}
use Rattle.well_formed.proofs.shapes.last_takes_arguments.Goals as goal

pub returns-in-Some : goal.returns-in-Some
returns-in-Some c =
    let item = c.in-Some.ensures.item in
    let some : 1 ≤ length c.items.result.now = omega (arith, item.3.0) in
    c.takes_arguments.ensures ∙ sym (ap last_takes_arguments c.items.ensures.view ∙ last_takes_is c.items.result.now c.in-Some.last.now some item.1)
