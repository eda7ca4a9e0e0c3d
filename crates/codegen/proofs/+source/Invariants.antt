-- What decreases along the calls of the compiler's functions: the size of what is compiled, and where that stays the rank of the function.
use Rattle.std.proofs.Common.{◌≡◌, ◌+◌, ◌*◌, ◌<◌, ◌≤◌, ◌++◌, length, drop, max}
use Rattle.lua_tree.specs.TreeLists.{expressions_of, statements_of, branches_of, fields_of}
use Rattle.lua_tree.specs.declared.tree.Exp.{size-Exp}
use Rattle.lua_tree.specs.declared.tree.Exps.{size-Exps}
use Rattle.lua_tree.specs.declared.tree.Args.{size-Args}
use Rattle.lua_tree.specs.declared.tree.Block.{size-Block}
use Rattle.opcode.specs.declared.op.Op.{Op}
use Rattle.scheme.specs.Lists as lists
use Rattle.scheme.specs.Statements as parts
use Rattle.scheme.specs.Scheme.{all_coded, entries, statements_made, branches_made}
use Rattle.code_builder.specs.Made.{maker_of}
use Rattle.codegen.specs.Loops.{loop_of}
use Rattle.codegen.specs.Targets.{targets_of, stored_back}
use Rattle.codegen.proofs.+source.Given as goal

abbrev pub decreases-expressions::next_reg : goal.decreases-expressions::next_reg
decreases-expressions::next_reg l = 64 * goal.size-expressions::next_reg l + 12

abbrev pub decreases-expressions::operand : goal.decreases-expressions::operand
decreases-expressions::operand l = 64 * goal.size-expressions::operand l + 14

abbrev pub decreases-expressions::rk : goal.decreases-expressions::rk
decreases-expressions::rk l = 64 * goal.size-expressions::rk l + 16

abbrev pub decreases-expressions::to_reg : goal.decreases-expressions::to_reg
decreases-expressions::to_reg l = 64 * goal.size-expressions::to_reg l + 10

abbrev pub decreases-expressions::index_value : goal.decreases-expressions::index_value
decreases-expressions::index_value l = 64 * max (size-Exp l.on.now) (size-Exp l.key.now) + 24

abbrev pub decreases-expressions::field_value : goal.decreases-expressions::field_value
decreases-expressions::field_value l = 64 * goal.size-expressions::field_value l + 24

abbrev pub decreases-expressions::call_value : goal.decreases-expressions::call_value
decreases-expressions::call_value l = 64 * goal.size-expressions::call_value l + 8

abbrev pub decreases-expressions::table_value : goal.decreases-expressions::table_value
decreases-expressions::table_value l = 64 * goal.size-expressions::table_value l + 30

abbrev pub decreases-expressions::unary_value : goal.decreases-expressions::unary_value
decreases-expressions::unary_value l = 64 * goal.size-expressions::unary_value l + 24

abbrev pub decreases-expressions::binary_value : goal.decreases-expressions::binary_value
decreases-expressions::binary_value l = 64 * max (size-Exp l.left.now) (size-Exp l.right.now) + 28

abbrev pub decreases-expressions::arithmetic : goal.decreases-expressions::arithmetic
decreases-expressions::arithmetic l = 64 * max (size-Exp l.left.now) (size-Exp l.right.now) + 24

abbrev pub decreases-expressions::concat : goal.decreases-expressions::concat
decreases-expressions::concat l = 64 * max (size-Exp l.left.now) (size-Exp l.right.now) + 24

abbrev pub decreases-expressions::spine : goal.decreases-expressions::spine
decreases-expressions::spine l = 64 * goal.size-expressions::spine l + 18

abbrev pub decreases-expressions::truth_value : goal.decreases-expressions::truth_value
decreases-expressions::truth_value l = 64 * max (size-Exp l.left.now) (size-Exp l.right.now) + 26

abbrev pub decreases-expressions::logic_value : goal.decreases-expressions::logic_value
decreases-expressions::logic_value l = 64 * max (size-Exp l.left.now) (size-Exp l.right.now) + 28

abbrev pub decreases-conditions::test : goal.decreases-conditions::test
decreases-conditions::test l = 64 * goal.size-conditions::test l + 16

abbrev pub decreases-conditions::test_value : goal.decreases-conditions::test_value
decreases-conditions::test_value l = 64 * goal.size-conditions::test_value l + 18

abbrev pub decreases-conditions::compare : goal.decreases-conditions::compare
decreases-conditions::compare l = 64 * max (size-Exp l.left.now) (size-Exp l.right.now) + 24

abbrev pub decreases-conditions::jump_if : goal.decreases-conditions::jump_if
decreases-conditions::jump_if l = 64 * goal.size-conditions::jump_if l + 20

abbrev pub decreases-conditions::jump_both : goal.decreases-conditions::jump_both
decreases-conditions::jump_both l = 64 * max (size-Exp l.left.now) (size-Exp l.right.now) + 24

abbrev pub decreases-conditions::logic_here : goal.decreases-conditions::logic_here
decreases-conditions::logic_here l = 64 * max (size-Exp l.left.now) (size-Exp l.right.now) + 26

abbrev pub decreases-conditions::decide : goal.decreases-conditions::decide
decreases-conditions::decide l = 64 * goal.size-conditions::decide l + 24

abbrev pub decreases-calls::multi : goal.decreases-calls::multi
decreases-calls::multi l = 64 * goal.size-calls::multi l + 4

abbrev pub decreases-calls::call_at : goal.decreases-calls::call_at
decreases-calls::call_at l = 64 * max (size-Exp l.on.now) (size-Args l.args.now) + 34

abbrev pub decreases-calls::method_at : goal.decreases-calls::method_at
decreases-calls::method_at l = 64 * max (size-Exp l.on.now) (size-Args l.args.now) + 34

abbrev pub decreases-calls::arguments : goal.decreases-calls::arguments
decreases-calls::arguments l = 64 * goal.size-calls::arguments l + 32

abbrev pub decreases-calls::open_list : goal.decreases-calls::open_list
decreases-calls::open_list l = 64 * goal.size-calls::open_list l + 22

abbrev pub decreases-calls::all_next : goal.decreases-calls::all_next
decreases-calls::all_next l = 64 * goal.size-calls::all_next l + 20

abbrev pub decreases-calls::all_multi : goal.decreases-calls::all_multi
decreases-calls::all_multi l = 64 * goal.size-calls::all_multi l + 20

abbrev pub decreases-calls::adjust : goal.decreases-calls::adjust
decreases-calls::adjust l = 64 * goal.size-calls::adjust l + 24

abbrev pub decreases-calls::filled : goal.decreases-calls::filled
decreases-calls::filled l = 64 * goal.size-calls::filled l + 22

abbrev pub decreases-constructors::table_at : goal.decreases-constructors::table_at
decreases-constructors::table_at l = 64 * goal.size-constructors::table_at l + 28

abbrev pub decreases-constructors::all_items : goal.decreases-constructors::all_items
decreases-constructors::all_items l = 64 * goal.size-constructors::all_items l + 26

abbrev pub decreases-constructors::open_item : goal.decreases-constructors::open_item
decreases-constructors::open_item l = 64 * goal.size-constructors::open_item l + 25

abbrev pub decreases-constructors::closed_item : goal.decreases-constructors::closed_item
decreases-constructors::closed_item l = 64 * goal.size-constructors::closed_item l + 25

abbrev pub decreases-constructors::named_item : goal.decreases-constructors::named_item
decreases-constructors::named_item l = 64 * goal.size-constructors::named_item l + 24

abbrev pub decreases-constructors::keyed_item : goal.decreases-constructors::keyed_item
decreases-constructors::keyed_item l = 64 * max (size-Exp l.key.now) (size-Exp l.value.now) + 24

abbrev pub decreases-functions::whole_function : goal.decreases-functions::whole_function
decreases-functions::whole_function l = 64 * goal.size-functions::whole_function l + 34

abbrev pub decreases-functions::inner_function : goal.decreases-functions::inner_function
decreases-functions::inner_function l = 64 * goal.size-functions::inner_function l + 36

abbrev pub decreases-functions::closure : goal.decreases-functions::closure
decreases-functions::closure l = 64 * goal.size-functions::closure l + 38

abbrev pub decreases-assignments::target : goal.decreases-assignments::target
decreases-assignments::target l = 64 * goal.size-assignments::target l + 24

abbrev pub decreases-assignments::all_targets : goal.decreases-assignments::all_targets
decreases-assignments::all_targets l = 64 * goal.size-assignments::all_targets l + 26

abbrev pub decreases-assignments::store : goal.decreases-assignments::store
decreases-assignments::store l = 64 * goal.size-assignments::store l + 26

abbrev pub decreases-assignments::each_stored : goal.decreases-assignments::each_stored
decreases-assignments::each_stored l = 64 * goal.size-assignments::each_stored l + 28

abbrev pub decreases-assignments::assign_adjusted : goal.decreases-assignments::assign_adjusted
decreases-assignments::assign_adjusted l = 64 * goal.size-assignments::assign_adjusted l + 28

abbrev pub decreases-assignments::assign_one : goal.decreases-assignments::assign_one
decreases-assignments::assign_one l = 64 * max (size-Exp l.to.now) (size-Exp l.e.now) + 30

abbrev pub decreases-assignments::assign_several : goal.decreases-assignments::assign_several
decreases-assignments::assign_several l = 64 * max (size-Exps l.targets.now) (size-Exps l.list.now) + 32

abbrev pub decreases-assignments::assign : goal.decreases-assignments::assign
decreases-assignments::assign l = 64 * max (size-Exps l.targets.now) (size-Exps l.list.now) + 34

abbrev pub decreases-assignments::assign_function : goal.decreases-assignments::assign_function
decreases-assignments::assign_function l = 64 * goal.size-assignments::assign_function l + 42

abbrev pub decreases-assignments::store_function : goal.decreases-assignments::store_function
decreases-assignments::store_function l = 64 * goal.size-assignments::store_function l + 40

abbrev pub decreases-statements::statements : goal.decreases-statements::statements
decreases-statements::statements l = 64 * goal.size-statements::statements l + 32

abbrev pub decreases-statements::block_part : goal.decreases-statements::block_part
decreases-statements::block_part l = 64 * goal.size-statements::block_part l + 34

abbrev pub decreases-statements::one_statement : goal.decreases-statements::one_statement
decreases-statements::one_statement l = 64 * goal.size-statements::one_statement l + 10

abbrev pub decreases-statements::last_block : goal.decreases-statements::last_block
decreases-statements::last_block l = 64 * goal.size-statements::last_block l + 36

abbrev pub decreases-statements::all_arms : goal.decreases-statements::all_arms
decreases-statements::all_arms l = 64 * goal.size-statements::all_arms l + 44

abbrev pub decreases-statements::one_arm : goal.decreases-statements::one_arm
decreases-statements::one_arm l = 64 * goal.size-statements::one_arm l + 42

abbrev pub decreases-statements::local : goal.decreases-statements::local
decreases-statements::local l = 64 * goal.size-statements::local l + 30

abbrev pub decreases-statements::local_function : goal.decreases-statements::local_function
decreases-statements::local_function l = 64 * goal.size-statements::local_function l + 40

abbrev pub decreases-statements::return_values : goal.decreases-statements::return_values
decreases-statements::return_values l = 64 * goal.size-statements::return_values l + 34

abbrev pub decreases-statements::return_call : goal.decreases-statements::return_call
decreases-statements::return_call l = 64 * goal.size-statements::return_call l + 22

abbrev pub decreases-statements::return_operand : goal.decreases-statements::return_operand
decreases-statements::return_operand l = 64 * goal.size-statements::return_operand l + 24

abbrev pub decreases-statements::return_list : goal.decreases-statements::return_list
decreases-statements::return_list l = 64 * goal.size-statements::return_list l + 24

abbrev pub decreases-loops::while_loop : goal.decreases-loops::while_loop
decreases-loops::while_loop l = 64 * max (size-Exp l.cond.now) (size-Block l.body.now) + 40

abbrev pub decreases-loops::repeat_loop : goal.decreases-loops::repeat_loop
decreases-loops::repeat_loop l = 64 * max (size-Block l.body.now) (size-Exp l.cond.now) + 40

abbrev pub decreases-loops::repeat_captured : goal.decreases-loops::repeat_captured
decreases-loops::repeat_captured l = 64 * goal.size-loops::repeat_captured l + 30

abbrev pub decreases-loops::one_turn : goal.decreases-loops::one_turn
decreases-loops::one_turn l = 64 * goal.size-loops::one_turn l + 36

abbrev pub decreases-loops::step_part : goal.decreases-loops::step_part
decreases-loops::step_part l = 64 * goal.size-loops::step_part l + 30

abbrev pub decreases-loops::numeric_loop : goal.decreases-loops::numeric_loop
decreases-loops::numeric_loop l = 64 * goal.size-loops::numeric_loop l + 38

abbrev pub decreases-loops::generic_loop : goal.decreases-loops::generic_loop
decreases-loops::generic_loop l = 64 * goal.size-loops::generic_loop l + 38

-- what was made of a list, and of what is left of it

abbrev pub invariant-calls::all_next-loop-e : goal.invariant-calls::all_next-loop-e
invariant-calls::all_next-loop-e l =
    lists.all_next (all_coded (expressions_of (drop l.e-index l.list))) (maker_of l.builder)
    ≡ lists.all_next (all_coded (expressions_of l.list)) (maker_of l.initial.builder)

abbrev pub invariant-calls::all_multi-loop-i : goal.invariant-calls::all_multi-loop-i
invariant-calls::all_multi-loop-i l =
    lists.all_multi Op.Call l.want (all_coded (expressions_of (drop l.i l.list))) (maker_of l.builder)
    ≡ lists.all_multi Op.Call l.want (all_coded (expressions_of l.list)) (maker_of l.initial.builder)

abbrev pub invariant-constructors::all_items-loop-i : goal.invariant-constructors::all_items-loop-i
invariant-constructors::all_items-loop-i l = record {
  few : l.pending < 50;
  made :
      lists.entries_from l.line l.t l.done l.pending (entries (fields_of (drop l.i l.items))) (maker_of l.builder)
      ≡ lists.entries_from l.line l.t 0 0 (entries (fields_of l.items)) (maker_of l.initial.builder);
}

abbrev pub invariant-assignments::all_targets-loop-e : goal.invariant-assignments::all_targets-loop-e
invariant-assignments::all_targets-loop-e l = record {
  targets :
      targets_of l.targets.items ++ (parts.all_targets (all_coded (expressions_of (drop l.e-index l.list))) (maker_of l.builder)).value
      ≡ (parts.all_targets (all_coded (expressions_of l.list)) (maker_of l.initial.builder)).value;
  made :
      (parts.all_targets (all_coded (expressions_of (drop l.e-index l.list))) (maker_of l.builder)).after
      ≡ (parts.all_targets (all_coded (expressions_of l.list)) (maker_of l.initial.builder)).after;
}

abbrev pub invariant-assignments::each_stored-loop-i : goal.invariant-assignments::each_stored-loop-i
invariant-assignments::each_stored-loop-i l = record {
  count : l.i < length l.list → length l.registers.items ≡ l.i;
  few : length l.registers.items ≤ length l.targets;
  stored :
      stored_back l.line (targets_of l.targets) l.registers.items (parts.each_stored l.line (targets_of (drop l.i l.targets)) (all_coded (expressions_of (drop l.i l.list))) (maker_of l.builder))
      ≡ parts.each_stored l.line (targets_of l.targets) (all_coded (expressions_of l.list)) (maker_of l.initial.builder);
}

abbrev pub invariant-statements::statements-loop-statement : goal.invariant-statements::statements-loop-statement
invariant-statements::statements-loop-statement l =
    statements_made (statements_of (drop l.statement-index l.statement-items)) (loop_of l.around) (maker_of l.builder)
    ≡ statements_made (statements_of l.statement-items) (loop_of l.around) (maker_of l.initial.builder)

abbrev pub invariant-statements::all_arms-loop-i : goal.invariant-statements::all_arms-loop-i
invariant-statements::all_arms-loop-i l =
    branches_made (branches_of (drop l.i l.arms)) l.line (loop_of l.around) l.end l.more (maker_of l.builder)
    ≡ branches_made (branches_of l.arms) l.line (loop_of l.around) l.end l.more (maker_of l.initial.builder)
