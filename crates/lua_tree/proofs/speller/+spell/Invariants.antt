use Rattle.std.proofs.Common.{◌≡◌, ◌++◌, drop}
use Rattle.lua_tree.specs.Spelling.{spell_statements, spell_arms, more_expressions, spell_fields}
use Rattle.lua_tree.specs.TreeLists.{statements_of, branches_of, expressions_of, fields_of}
use Rattle.lua_tree.proofs.speller.+spell.Given as goal

abbrev pub invariant-put_block-loop-statement : goal.invariant-put_block-loop-statement
invariant-put_block-loop-statement l =
    l.out ++ spell_statements (statements_of (drop l.statement-index l.statement-items)) ≡ l.initial.out ++ spell_statements (statements_of l.statement-items)

abbrev pub invariant-put_arms-loop-arm : goal.invariant-put_arms-loop-arm
invariant-put_arms-loop-arm l =
    l.out ++ spell_arms (branches_of (drop l.arm-index l.arm-items)) l.word ≡ l.initial.out ++ spell_arms (branches_of l.arm-items) l.initial.word

abbrev pub invariant-put_expressions-loop-expression : goal.invariant-put_expressions-loop-expression
invariant-put_expressions-loop-expression l =
    l.out ++ more_expressions (expressions_of (drop l.expression-index l.rest)) ≡ l.initial.out ++ more_expressions (expressions_of l.rest)

abbrev pub invariant-put_fields-loop-item : goal.invariant-put_fields-loop-item
invariant-put_fields-loop-item l =
    l.out ++ spell_fields (fields_of (drop l.item-index l.item-items)) ≡ l.initial.out ++ spell_fields (fields_of l.item-items)
