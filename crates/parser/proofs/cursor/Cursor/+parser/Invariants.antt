use Rattle.std.proofs.Common.{◌≡◌, ◌+◌, ◌*◌, ◌≤◌, ◌<◌, length}
use Rattle.lua_tree.specs.View.{view_exp, view_exps, view_items, view_block, view_arms}
use Rattle.lua_tree.specs.WellFormed.{depth_of_expression, depth_of_expressions, depth_of_fields, depth_of_statements, depth_of_branches}
use Rattle.lua_tree.specs.Spelled.{expression_phrase, expressions_phrase, fields_phrase, block_phrase, statement_phrase}
use Rattle.parser.specs.Program.{reads, climb, suffix, expressions_at, fields, block, if_of, targets}
use Rattle.parser.specs.Loops.{expressions_with, fields_with, block_with, targets_with, if_with}
use Rattle.parser.specs.Finds.{Outcome, Leads}
use Rattle.parser.proofs.cursor.Cursor.+parser.Given as goal

-- each call of another function leaves fewer tokens, or is of a lower rank

abbrev pub decreases-arguments : goal.decreases-arguments
decreases-arguments l = 16 * length l.self.now.rest.now + 7

abbrev pub decreases-block : goal.decreases-block
decreases-block l = 16 * length l.self.now.rest.now + 9

abbrev pub decreases-arm : goal.decreases-arm
decreases-arm l = 16 * length l.self.now.rest.now + 5

abbrev pub decreases-body : goal.decreases-body
decreases-body l = 16 * length l.self.now.rest.now + 7

abbrev pub decreases-call_of : goal.decreases-call_of
decreases-call_of l = 16 * length l.self.now.rest.now + 8

abbrev pub decreases-climb : goal.decreases-climb
decreases-climb l = 16 * length l.self.now.rest.now + 1

abbrev pub decreases-do_statement : goal.decreases-do_statement
decreases-do_statement l = 16 * length l.self.now.rest.now + 7

abbrev pub decreases-expression_statement : goal.decreases-expression_statement
decreases-expression_statement l = 16 * length l.self.now.rest.now + 7

abbrev pub decreases-expressions : goal.decreases-expressions
decreases-expressions l = 16 * length l.self.now.rest.now + 5

abbrev pub decreases-field : goal.decreases-field
decreases-field l = 16 * length l.self.now.rest.now + 7

abbrev pub decreases-fields : goal.decreases-fields
decreases-fields l = 16 * length l.self.now.rest.now + 8

abbrev pub decreases-for_statement : goal.decreases-for_statement
decreases-for_statement l = 16 * length l.self.now.rest.now + 7

abbrev pub decreases-function_statement : goal.decreases-function_statement
decreases-function_statement l = 16 * length l.self.now.rest.now + 7

abbrev pub decreases-function_value : goal.decreases-function_value
decreases-function_value l = 16 * length l.self.now.rest.now + 2

abbrev pub decreases-generic_for : goal.decreases-generic_for
decreases-generic_for l = 16 * length l.self.now.rest.now + 7

abbrev pub decreases-if_statement : goal.decreases-if_statement
decreases-if_statement l = 16 * length l.self.now.rest.now + 7

abbrev pub decreases-index_of : goal.decreases-index_of
decreases-index_of l = 16 * length l.self.now.rest.now + 8

abbrev pub decreases-keyed : goal.decreases-keyed
decreases-keyed l = 16 * length l.self.now.rest.now + 5

abbrev pub decreases-listed : goal.decreases-listed
decreases-listed l = 16 * length l.self.now.rest.now + 6

abbrev pub decreases-local_function : goal.decreases-local_function
decreases-local_function l = 16 * length l.self.now.rest.now + 7

abbrev pub decreases-local_names : goal.decreases-local_names
decreases-local_names l = 16 * length l.self.now.rest.now + 7

abbrev pub decreases-local_statement : goal.decreases-local_statement
decreases-local_statement l = 16 * length l.self.now.rest.now + 7

abbrev pub decreases-method_of : goal.decreases-method_of
decreases-method_of l = 16 * length l.self.now.rest.now + 8

abbrev pub decreases-named : goal.decreases-named
decreases-named l = 16 * length l.self.now.rest.now + 10

abbrev pub decreases-numeric_for : goal.decreases-numeric_for
decreases-numeric_for l = 16 * length l.self.now.rest.now + 7

abbrev pub decreases-paren : goal.decreases-paren
decreases-paren l = 16 * length l.self.now.rest.now + 1

abbrev pub decreases-prefix : goal.decreases-prefix
decreases-prefix l = 16 * length l.self.now.rest.now + 2

abbrev pub decreases-repeat_statement : goal.decreases-repeat_statement
decreases-repeat_statement l = 16 * length l.self.now.rest.now + 7

abbrev pub decreases-results : goal.decreases-results
decreases-results l = 16 * length l.self.now.rest.now + 6

abbrev pub decreases-return_statement : goal.decreases-return_statement
decreases-return_statement l = 16 * length l.self.now.rest.now + 7

abbrev pub decreases-simple : goal.decreases-simple
decreases-simple l = 16 * length l.self.now.rest.now + 3

abbrev pub decreases-statement : goal.decreases-statement
decreases-statement l = 16 * length l.self.now.rest.now + 8

abbrev pub decreases-step : goal.decreases-step
decreases-step l = 16 * length l.self.now.rest.now + 7

abbrev pub decreases-suffix : goal.decreases-suffix
decreases-suffix l = 16 * length l.self.now.rest.now + 9

abbrev pub decreases-table : goal.decreases-table
decreases-table l = 16 * length l.self.now.rest.now + 2

abbrev pub decreases-targets : goal.decreases-targets
decreases-targets l = 16 * length l.self.now.rest.now + 7

abbrev pub decreases-values : goal.decreases-values
decreases-values l = 16 * length l.self.now.rest.now + 7

abbrev pub decreases-while_statement : goal.decreases-while_statement
decreases-while_statement l = 16 * length l.self.now.rest.now + 7

abbrev pub decreases-whole : goal.decreases-whole
decreases-whole l = 16 * length l.self.now.rest.now + 4

-- whatever the rest answers, the whole answers

abbrev pub invariant-climb-loop-op : goal.invariant-climb-loop-op
invariant-climb-loop-op l = record {
  leads : (outcome : Outcome expression_phrase) → Leads (reads (climb l.fn.depth l.fn.limit l.fn.start (view_exp l.left.part.value))) l.self.line l.self.rest.now outcome →
      Leads (reads (climb l.fn.depth l.fn.limit l.fn.start (view_exp l.fn.first.part.value))) l.fn.self.line l.fn.self.rest.now outcome;
  height : l.left.height ≡ depth_of_expression (view_exp l.left.part.value);
  low : l.fn.depth + l.left.height ≤ 200;
  shorter : length l.self.rest.now ≤ length l.fn.self.rest.now;
}

abbrev pub decreases-climb-loop-op : goal.decreases-climb-loop-op
decreases-climb-loop-op l = length l.self.rest.now

abbrev pub invariant-suffix-loop-self : goal.invariant-suffix-loop-self
invariant-suffix-loop-self l = record {
  leads : (outcome : Outcome expression_phrase) → Leads (reads (suffix l.fn.depth l.fn.role (view_exp l.on.part.value))) l.self.line l.self.rest.now outcome →
      Leads (reads (suffix l.fn.depth l.fn.role (view_exp l.fn.first.part.value))) l.fn.self.line l.fn.self.rest.now outcome;
  height : l.on.height ≡ depth_of_expression (view_exp l.on.part.value);
  low : l.fn.depth + l.on.height ≤ 200;
  shorter : length l.self.rest.now ≤ length l.fn.self.rest.now;
}

abbrev pub decreases-suffix-loop-self : goal.decreases-suffix-loop-self
decreases-suffix-loop-self l = length l.self.rest.now

abbrev pub invariant-expressions-loop-alloc : goal.invariant-expressions-loop-alloc
invariant-expressions-loop-alloc l = record {
  leads : (outcome : Outcome expressions_phrase) → Leads (expressions_with l.fn.depth (view_exps l.list.part)) l.self.line l.self.rest.now outcome →
      Leads (reads (expressions_at l.fn.depth)) l.fn.self.line l.fn.self.rest.now outcome;
  height : l.list.height ≡ depth_of_expressions (view_exps l.list.part);
  low : l.fn.depth + l.list.height ≤ 200;
  shorter : length l.self.rest.now < length l.fn.self.rest.now;
}

abbrev pub decreases-expressions-loop-alloc : goal.decreases-expressions-loop-alloc
decreases-expressions-loop-alloc l = length l.self.rest.now

abbrev pub invariant-fields-loop-alloc : goal.invariant-fields-loop-alloc
invariant-fields-loop-alloc l = record {
  leads : (outcome : Outcome fields_phrase) → Leads (fields_with l.fn.depth (view_items l.items.part)) l.self.line l.self.rest.now outcome →
      Leads (reads (fields l.fn.depth)) l.fn.self.line l.fn.self.rest.now outcome;
  height : l.items.height ≡ depth_of_fields (view_items l.items.part);
  low : l.fn.depth + l.items.height ≤ 200;
  shorter : length l.self.rest.now ≤ length l.fn.self.rest.now;
}

abbrev pub decreases-fields-loop-alloc : goal.decreases-fields-loop-alloc
decreases-fields-loop-alloc l = length l.self.rest.now

abbrev pub invariant-block-loop-alloc : goal.invariant-block-loop-alloc
invariant-block-loop-alloc l = record {
  leads : (outcome : Outcome block_phrase) → Leads (block_with l.fn.depth (view_block l.block.part)) l.self.line l.self.rest.now outcome →
      Leads (reads (block l.fn.depth)) l.fn.self.line l.fn.self.rest.now outcome;
  height : l.block.height ≡ depth_of_statements (view_block l.block.part);
  low : l.fn.depth + l.block.height ≤ 200;
  shorter : length l.self.rest.now ≤ length l.fn.self.rest.now;
}

abbrev pub decreases-block-loop-alloc : goal.decreases-block-loop-alloc
decreases-block-loop-alloc l = length l.self.rest.now

abbrev pub invariant-targets-loop-alloc : goal.invariant-targets-loop-alloc
invariant-targets-loop-alloc l = record {
  leads : (outcome : Outcome expressions_phrase) → Leads (targets_with l.fn.depth (view_exps l.list.part) (view_exp l.next.part.value)) l.self.line l.self.rest.now outcome →
      Leads (reads (targets l.fn.depth (view_exp l.fn.first.part.value))) l.fn.self.line l.fn.self.rest.now outcome;
  height : l.list.height ≡ depth_of_expressions (view_exps l.list.part);
  next_height : l.next.height ≡ depth_of_expression (view_exp l.next.part.value);
  low : l.fn.depth + l.list.height ≤ 200;
  next_low : l.fn.depth + l.next.height ≤ 200;
  shorter : length l.self.rest.now ≤ length l.fn.self.rest.now;
}

abbrev pub decreases-targets-loop-alloc : goal.decreases-targets-loop-alloc
decreases-targets-loop-alloc l = length l.self.rest.now

abbrev pub invariant-if_statement-loop-self : goal.invariant-if_statement-loop-self
invariant-if_statement-loop-self l = record {
  leads : (outcome : Outcome statement_phrase) → Leads (if_with l.fn.depth (view_arms l.arms.part)) l.self.line l.self.rest.now outcome →
      Leads (reads (if_of l.fn.depth)) l.fn.self.line l.fn.self.rest.now outcome;
  height : l.arms.height ≡ depth_of_branches (view_arms l.arms.part);
  low : l.fn.depth + l.arms.height ≤ 200;
  inside : l.fn.depth + 1 ≤ 200;
  shorter : length l.self.rest.now < length l.fn.self.rest.now;
}

abbrev pub decreases-if_statement-loop-self : goal.decreases-if_statement-loop-self
decreases-if_statement-loop-self l = length l.self.rest.now
