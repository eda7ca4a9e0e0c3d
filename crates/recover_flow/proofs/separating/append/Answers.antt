use Rattle.std.proofs.Common.{refl, sym, ap, ◌∙◌}
use Rattle.std.specs.Global.{Vec}
use Rattle.lua_tree.specs.Syntax.{Statements}
use Rattle.lua_tree.specs.TreeLists.{statements_of}
use Rattle.lua_tree.specs.declared.tree.Stat.{Stat}
use Rattle.recover_flow.proofs.Separated.{appended_behind}
use Rattle.recover_flow.proofs.separating.append.Goals as goal
use Rattle.recover_flow.proofs.separating.append.Goals.{then-begins_open, else-begins_open}

abbrev shown : Vec Stat → Statements
shown statements = statements_of statements.items

pub returns : goal.returns
returns c =
    let pushed = c.in_ok-push.ensures.items in
    let begins = c.begins_open.ensures in
    elim c.if-begins_open.branch [
      | then-begins_open w ↦ appended_behind _ _ _ _ _ _ (sym w.if-begins_open.true ∙ begins) (ap shown w.statements-is ∙ w.separate.ensures) pushed refl
      | else-begins_open w ↦ appended_behind _ _ _ _ _ _ (sym w.if-begins_open.false ∙ begins) (ap shown w.statements-is) pushed refl
    ]
