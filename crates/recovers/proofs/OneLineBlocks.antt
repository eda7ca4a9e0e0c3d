-- Any block on one line stays as it is, and is as deep and has as much room as before, its function too; and it keeps the rules of form.
use Rattle.std.proofs.Common.{◌≡◌, suc, ◌+◌, ◌*◌, max, ℕ, Bool, true, false, not, ◌&&◌, Option, is_some, if◌then◌else◌, refl, ap, ap₂, ◌∙◌}
use Rattle.std.specs.Prelude.{ℤ, ◌||◌}
use Rattle.lua_tree.specs.Names.{is_name, are_names, are_some_names}
use Rattle.lua_tree.specs.OneLine.{one_line_arguments, one_line_body, one_line_branches, one_line_expression, one_line_expressions, one_line_fields, one_line_otherwise, one_line_statement, one_line_statements, one_line_step}
use Rattle.lua_tree.specs.Precedence.{is_right_associative, left_binds, level_of_op, right_binds}
use Rattle.lua_tree.specs.Syntax as syntax
use Rattle.lua_tree.specs.Syntax.{Statements, no_statements, Statement, assignment, call_statement, do_block, while_loop, repeat_loop, if_statement, numeric_for, generic_for, function_statement, local_function, local_statement, return_statement, break_statement, Branches, no_branches, branch, Otherwise, no_otherwise, otherwise, ForStep, no_step, by_step, FunctionBody, function_body, Expressions, no_expressions, Expression, nil_literal, true_literal, false_literal, vararg_expression, number_literal, text_literal, name_expression, function_expression, index_expression, field_expression, call_expression, method_call, and_expression, or_expression, binary_expression, unary_expression, constructor, parenthesized, Arguments, argument_list, text_argument, table_argument, Fields, no_fields, positional, named, keyed}
use Rattle.lua_tree.specs.WellFormed.{are_targets, depth_of_arguments, depth_of_body, depth_of_branches, depth_of_expression, depth_of_expressions, depth_of_fields, depth_of_otherwise, depth_of_statement, depth_of_statements, depth_of_step, ends_item, formed_arguments, formed_body, formed_branches, formed_expression, formed_expressions, formed_fields, formed_otherwise, formed_statement, formed_statements, formed_step, has_branches, has_expressions, is_call, is_optional_name, is_prefix, may_follow, on_its_line}
use Rattle.lua_tree.specs.declared.tree.UnaryOp.{UnaryOp}
use Rattle.proto.specs.declared.parts.Constant.{Constant}
use Rattle.scheme.specs.Shapes.{branch_count, logic_count}
use Rattle.same_flow.specs.Never.{is_other_literal, never_arms, never_further, never_is}
use Rattle.same_flow.specs.Space.{around_body, flow_space, flow_space_branches, flow_space_of, flow_space_otherwise, has_block, has_blocks, space_of_arguments, space_of_body, space_of_branches, space_of_expression, space_of_expressions, space_of_fields, space_of_otherwise, space_of_statement, space_of_statements, space_of_step}
use Rattle.reads_back.proofs.OneLineRules.{given_on_line, same_follow, same_item, same_left, same_prefix, same_right, same_some, same_targets}
use Rattle.reads_back.proofs.Tests.{both_hold, first_of_both, second_of_both}
use Rattle.reads_back.proofs.WordsSame.{same_fold, same_literal}

-- ---- it stays as it is

mutual
  pub block_again : (block : Statements) → one_line_statements (one_line_statements block) ≡ one_line_statements block
  block_again no_statements = refl
  block_again (syntax.statement line semi s rest) = cc (statement_again s, block_again rest)

  pub statement_again : (s : Statement) → one_line_statement (one_line_statement s) ≡ one_line_statement s
  statement_again (assignment targets es) = cc (expressions_again targets, expressions_again es)
  statement_again (call_statement e) = cc (expression_again e)
  statement_again (do_block block) = cc (block_again block)
  statement_again (while_loop e block) = cc (expression_again e, block_again block)
  statement_again (repeat_loop block e) = cc (block_again block, expression_again e)
  statement_again (if_statement branches last) = cc (branches_again branches, otherwise_again last)
  statement_again (numeric_for name first last by block) = cc (expression_again first, expression_again last, step_again by, block_again block)
  statement_again (generic_for names es block) = cc (expressions_again es, block_again block)
  statement_again (function_statement path method body) = cc (body_again body)
  statement_again (local_function name body) = cc (body_again body)
  statement_again (local_statement names es) = cc (expressions_again es)
  statement_again (return_statement es) = cc (expressions_again es)
  statement_again break_statement = refl

  branches_again : (branches : Branches) → one_line_branches (one_line_branches branches) ≡ one_line_branches branches
  branches_again no_branches = refl
  branches_again (branch e block rest) = cc (expression_again e, block_again block, branches_again rest)

  otherwise_again : (last : Otherwise) → one_line_otherwise (one_line_otherwise last) ≡ one_line_otherwise last
  otherwise_again no_otherwise = refl
  otherwise_again (otherwise block) = cc (block_again block)

  step_again : (by : ForStep) → one_line_step (one_line_step by) ≡ one_line_step by
  step_again no_step = refl
  step_again (by_step e) = cc (expression_again e)

  body_again : (body : FunctionBody) → one_line_body (one_line_body body) ≡ one_line_body body
  body_again (function_body params vararg block first last) = cc (block_again block)

  pub expressions_again : (es : Expressions) → one_line_expressions (one_line_expressions es) ≡ one_line_expressions es
  expressions_again no_expressions = refl
  expressions_again (syntax.expression e rest) = cc (expression_again e, expressions_again rest)

  pub expression_again : (e : Expression) → one_line_expression (one_line_expression e) ≡ one_line_expression e
  expression_again (function_expression line body) = cc (body_again body)
  expression_again (index_expression line on key) = cc (expression_again on, expression_again key)
  expression_again (field_expression line on name) = cc (expression_again on)
  expression_again (call_expression line on args on_line) = cc (expression_again on, arguments_again args)
  expression_again (method_call line on name args on_line) = cc (expression_again on, arguments_again args)
  expression_again (and_expression line left right) = cc (expression_again left, expression_again right)
  expression_again (or_expression line left right) = cc (expression_again left, expression_again right)
  expression_again (binary_expression line op left right) = cc (expression_again left, expression_again right)
  expression_again (unary_expression line op e) = cc (expression_again e)
  expression_again (constructor line fields) = cc (fields_again fields)
  expression_again (parenthesized line e) = cc (expression_again e)
  expression_again e = refl

  arguments_again : (args : Arguments) → one_line_arguments (one_line_arguments args) ≡ one_line_arguments args
  arguments_again (argument_list es) = cc (expressions_again es)
  arguments_again (text_argument text) = refl
  arguments_again (table_argument fields) = cc (fields_again fields)

  fields_again : (fields : Fields) → one_line_fields (one_line_fields fields) ≡ one_line_fields fields
  fields_again no_fields = refl
  fields_again (positional e separator rest) = cc (expression_again e, fields_again rest)
  fields_again (named name e separator rest) = cc (expression_again e, fields_again rest)
  fields_again (keyed key e separator rest) = cc (expression_again key, expression_again e, fields_again rest)

-- ---- it is as deep

mutual
  pub block_as_deep : (block : Statements) → depth_of_statements (one_line_statements block) ≡ depth_of_statements block
  block_as_deep no_statements = refl
  block_as_deep (syntax.statement line semi s rest) = cc (statement_as_deep s, block_as_deep rest)

  pub statement_as_deep : (s : Statement) → depth_of_statement (one_line_statement s) ≡ depth_of_statement s
  statement_as_deep (assignment targets es) = cc (expressions_as_deep targets, expressions_as_deep es)
  statement_as_deep (call_statement e) = expression_as_deep e
  statement_as_deep (do_block block) = block_as_deep block
  statement_as_deep (while_loop e block) = cc (expression_as_deep e, block_as_deep block)
  statement_as_deep (repeat_loop block e) = cc (block_as_deep block, expression_as_deep e)
  statement_as_deep (if_statement branches last) = cc (branches_as_deep branches, otherwise_as_deep last)
  statement_as_deep (numeric_for name first last by block) = cc (expression_as_deep first, expression_as_deep last, step_as_deep by, block_as_deep block)
  statement_as_deep (generic_for names es block) = cc (expressions_as_deep es, block_as_deep block)
  statement_as_deep (function_statement path method body) = cc (body_as_deep body)
  statement_as_deep (local_function name body) = cc (body_as_deep body)
  statement_as_deep (local_statement names es) = expressions_as_deep es
  statement_as_deep (return_statement es) = expressions_as_deep es
  statement_as_deep break_statement = refl

  branches_as_deep : (branches : Branches) → depth_of_branches (one_line_branches branches) ≡ depth_of_branches branches
  branches_as_deep no_branches = refl
  branches_as_deep (branch e block rest) = cc (expression_as_deep e, block_as_deep block, branches_as_deep rest)

  otherwise_as_deep : (last : Otherwise) → depth_of_otherwise (one_line_otherwise last) ≡ depth_of_otherwise last
  otherwise_as_deep no_otherwise = refl
  otherwise_as_deep (otherwise block) = block_as_deep block

  step_as_deep : (by : ForStep) → depth_of_step (one_line_step by) ≡ depth_of_step by
  step_as_deep no_step = refl
  step_as_deep (by_step e) = expression_as_deep e

  body_as_deep : (body : FunctionBody) → depth_of_body (one_line_body body) ≡ depth_of_body body
  body_as_deep (function_body params vararg block first last) = block_as_deep block

  pub expressions_as_deep : (es : Expressions) → depth_of_expressions (one_line_expressions es) ≡ depth_of_expressions es
  expressions_as_deep no_expressions = refl
  expressions_as_deep (syntax.expression e rest) = cc (expression_as_deep e, expressions_as_deep rest)

  pub expression_as_deep : (e : Expression) → depth_of_expression (one_line_expression e) ≡ depth_of_expression e
  expression_as_deep (function_expression line body) = cc (body_as_deep body)
  expression_as_deep (index_expression line on key) = cc (expression_as_deep on, expression_as_deep key)
  expression_as_deep (field_expression line on name) = cc (expression_as_deep on)
  expression_as_deep (call_expression line on args on_line) = cc (expression_as_deep on, arguments_as_deep args)
  expression_as_deep (method_call line on name args on_line) = cc (expression_as_deep on, arguments_as_deep args)
  expression_as_deep (and_expression line left right) = cc (expression_as_deep left, expression_as_deep right)
  expression_as_deep (or_expression line left right) = cc (expression_as_deep left, expression_as_deep right)
  expression_as_deep (binary_expression line op left right) = cc (expression_as_deep left, expression_as_deep right)
  expression_as_deep (unary_expression line op e) = cc (expression_as_deep e)
  expression_as_deep (constructor line fields) = cc (fields_as_deep fields)
  expression_as_deep (parenthesized line e) = cc (expression_as_deep e)
  expression_as_deep e = refl

  arguments_as_deep : (args : Arguments) → depth_of_arguments (one_line_arguments args) ≡ depth_of_arguments args
  arguments_as_deep (argument_list es) = expressions_as_deep es
  arguments_as_deep (text_argument text) = refl
  arguments_as_deep (table_argument fields) = fields_as_deep fields

  fields_as_deep : (fields : Fields) → depth_of_fields (one_line_fields fields) ≡ depth_of_fields fields
  fields_as_deep no_fields = refl
  fields_as_deep (positional e separator rest) = cc (expression_as_deep e, fields_as_deep rest)
  fields_as_deep (named name e separator rest) = cc (expression_as_deep e, fields_as_deep rest)
  fields_as_deep (keyed key e separator rest) = cc (expression_as_deep key, expression_as_deep e, fields_as_deep rest)

-- ---- as many further arms have conditions that never fail

same_never : (sense : Bool) (e : Expression) → never_is sense (one_line_expression e) ≡ never_is sense e
same_never true (and_expression line left right) = same_never true right
same_never false (and_expression line left right) = ap₂ (λ (one other : Bool). one && other) (same_never false left) (same_never false right)
same_never true (or_expression line left right) = ap₂ (λ (one other : Bool). one && other) (same_never true left) (same_never true right)
same_never false (or_expression line left right) = same_never false right
same_never sense (unary_expression line UnaryOp.Not e) = same_never (not sense) e
same_never sense (parenthesized line e) = same_never sense e
same_never sense e = ap (λ (k : Option Constant). is_other_literal sense k) (same_literal e)

same_arms : (branches : Branches) → never_arms (one_line_branches branches) ≡ never_arms branches
same_arms no_branches = refl
same_arms (branch e block rest) = ap₂ (λ (never : Bool) (others : ℕ). if never then suc others else others) (same_never false e) (same_arms rest)

same_further : (branches : Branches) → never_further (one_line_branches branches) ≡ never_further branches
same_further no_branches = refl
same_further (branch e block rest) = same_arms rest

-- ---- it has as much room

same_count : (e : Expression) → logic_count (one_line_expression e) ≡ logic_count e
same_count (and_expression line left right) = cc (same_count left, same_count right)
same_count (or_expression line left right) = cc (same_count left, same_count right)
same_count (unary_expression line UnaryOp.Not e) = cc (same_count e)
same_count (parenthesized line e) = same_count e
same_count e = refl

same_counts : (branches : Branches) → branch_count (one_line_branches branches) ≡ branch_count branches
same_counts no_branches = refl
same_counts (branch e block rest) = ap₂ (λ (one others : ℕ). one + others) (same_count e) (same_counts rest)

pub same_most : {one many other more : ℕ} → one ≡ many → other ≡ more → max one other ≡ max many more
same_most is also = ap₂ (λ (one other : ℕ). max one other) is also

pub one_more : {one many : ℕ} → one ≡ many → 1 + one ≡ 1 + many
one_more is = ap (λ (one : ℕ). 1 + one) is

-- with the conditions of a statement
pub counted_most : {count counts one many other more : ℕ} → count ≡ counts → one ≡ many → other ≡ more → 2 * count + max one other ≡ 2 * counts + max many more
counted_most counted is also = ap₂ (λ (count most : ℕ). 2 * count + most) counted (same_most is also)

-- with the conditions of an `if`, and its further arms whose condition never fails
pub armed_most : {count counts nevers never one many other more : ℕ} → count ≡ counts → nevers ≡ never → one ≡ many → other ≡ more → 2 * count + nevers + max one other ≡ 2 * counts + never + max many more
armed_most counted never is also = ap₂ (λ (sum most : ℕ). sum + most) (ap₂ (λ (count nevers : ℕ). 2 * count + nevers) counted never) (same_most is also)

same_block : (s : Statement) → has_block (one_line_statement s) ≡ has_block s
same_block (do_block block) = refl
same_block s = refl

same_blocks : (block : Statements) → has_blocks (one_line_statements block) ≡ has_blocks block
same_blocks no_statements = refl
same_blocks (syntax.statement line semi s rest) = ap₂ (λ (one others : Bool). one || others) (same_block s) (same_blocks rest)

-- what a function needs, by whether its statements have blocks
pub same_around : {has have : Bool} {flow flows levels many : ℕ} → has ≡ have → flow ≡ flows → levels ≡ many → (if has then flow else levels) ≡ (if have then flows else many)
same_around is flow levels = cc (is, flow, levels)

mutual
  pub block_as_roomy : (block : Statements) → space_of_statements (one_line_statements block) ≡ space_of_statements block
  block_as_roomy no_statements = refl
  block_as_roomy (syntax.statement line semi s rest) = same_most (one_more (statement_as_roomy s)) (block_as_roomy rest)

  pub statement_as_roomy : (s : Statement) → space_of_statement (one_line_statement s) ≡ space_of_statement s
  statement_as_roomy (assignment targets es) = same_most (expressions_as_roomy targets) (expressions_as_roomy es)
  statement_as_roomy (call_statement e) = expression_as_roomy e
  statement_as_roomy (do_block block) = block_as_roomy block
  statement_as_roomy (while_loop e block) = counted_most (same_count e) (expression_as_roomy e) (block_as_roomy block)
  statement_as_roomy (repeat_loop block e) = counted_most (same_count e) (block_as_roomy block) (expression_as_roomy e)
  statement_as_roomy (if_statement branches last) = counted_most (same_counts branches) (branches_as_roomy branches) (otherwise_as_roomy last)
  statement_as_roomy (numeric_for name first last by block) =
      same_most (same_most (expression_as_roomy first) (expression_as_roomy last)) (same_most (step_as_roomy by) (block_as_roomy block))
  statement_as_roomy (generic_for names es block) = same_most (expressions_as_roomy es) (block_as_roomy block)
  statement_as_roomy (function_statement path method body) = one_more (body_as_roomy body)
  statement_as_roomy (local_function name body) = one_more (body_as_roomy body)
  statement_as_roomy (local_statement names es) = expressions_as_roomy es
  statement_as_roomy (return_statement es) = expressions_as_roomy es
  statement_as_roomy break_statement = refl

  branches_as_roomy : (branches : Branches) → space_of_branches (one_line_branches branches) ≡ space_of_branches branches
  branches_as_roomy no_branches = refl
  branches_as_roomy (branch e block rest) = same_most (same_most (expression_as_roomy e) (block_as_roomy block)) (branches_as_roomy rest)

  otherwise_as_roomy : (last : Otherwise) → space_of_otherwise (one_line_otherwise last) ≡ space_of_otherwise last
  otherwise_as_roomy no_otherwise = refl
  otherwise_as_roomy (otherwise block) = block_as_roomy block

  step_as_roomy : (by : ForStep) → space_of_step (one_line_step by) ≡ space_of_step by
  step_as_roomy no_step = refl
  step_as_roomy (by_step e) = expression_as_roomy e

  -- the same in a function whose statements have blocks
  pub block_as_flow : (block : Statements) → flow_space (one_line_statements block) ≡ flow_space block
  block_as_flow no_statements = refl
  block_as_flow (syntax.statement line semi s rest) = same_most (one_more (statement_as_flow s)) (block_as_flow rest)

  statement_as_flow : (s : Statement) → flow_space_of (one_line_statement s) ≡ flow_space_of s
  statement_as_flow (assignment targets es) = same_most (expressions_as_roomy targets) (expressions_as_roomy es)
  statement_as_flow (call_statement e) = expression_as_roomy e
  statement_as_flow (do_block block) = same_most refl (block_as_flow block)
  statement_as_flow (while_loop e block) = counted_most (same_count e) (expression_as_roomy e) (block_as_flow block)
  statement_as_flow (repeat_loop block e) = counted_most (same_count e) (block_as_flow block) (expression_as_roomy e)
  statement_as_flow (if_statement branches last) = armed_most (same_counts branches) (same_further branches) (branches_as_flow branches) (otherwise_as_flow last)
  statement_as_flow (numeric_for name first last by block) =
      same_most (same_most (expression_as_roomy first) (expression_as_roomy last)) (same_most (step_as_roomy by) (block_as_flow block))
  statement_as_flow (generic_for names es block) = same_most (expressions_as_roomy es) (block_as_flow block)
  statement_as_flow (function_statement path method body) = one_more (body_as_roomy body)
  statement_as_flow (local_function name body) = one_more (body_as_roomy body)
  statement_as_flow (local_statement names es) = expressions_as_roomy es
  statement_as_flow (return_statement es) = one_more (expressions_as_roomy es)
  statement_as_flow break_statement = refl

  branches_as_flow : (branches : Branches) → flow_space_branches (one_line_branches branches) ≡ flow_space_branches branches
  branches_as_flow no_branches = refl
  branches_as_flow (branch e block rest) = same_most (same_most (expression_as_roomy e) (block_as_flow block)) (branches_as_flow rest)

  otherwise_as_flow : (last : Otherwise) → flow_space_otherwise (one_line_otherwise last) ≡ flow_space_otherwise last
  otherwise_as_flow no_otherwise = refl
  otherwise_as_flow (otherwise block) = block_as_flow block

  body_as_roomy : (body : FunctionBody) → space_of_body (one_line_body body) ≡ space_of_body body
  body_as_roomy (function_body params vararg block first last) = same_around (same_blocks block) (block_as_flow block) (block_as_roomy block)

  pub expressions_as_roomy : (es : Expressions) → space_of_expressions (one_line_expressions es) ≡ space_of_expressions es
  expressions_as_roomy no_expressions = refl
  expressions_as_roomy (syntax.expression e rest) = same_most (expression_as_roomy e) (expressions_as_roomy rest)

  pub expression_as_roomy : (e : Expression) → space_of_expression (one_line_expression e) ≡ space_of_expression e
  expression_as_roomy (function_expression line body) = one_more (body_as_roomy body)
  expression_as_roomy (index_expression line on key) = one_more (same_most (expression_as_roomy on) (expression_as_roomy key))
  expression_as_roomy (field_expression line on name) = one_more (expression_as_roomy on)
  expression_as_roomy (call_expression line on args on_line) = one_more (same_most (expression_as_roomy on) (arguments_as_roomy args))
  expression_as_roomy (method_call line on name args on_line) = one_more (same_most (expression_as_roomy on) (arguments_as_roomy args))
  expression_as_roomy (and_expression line left right) = one_more (same_most (expression_as_roomy left) (expression_as_roomy right))
  expression_as_roomy (or_expression line left right) = one_more (same_most (expression_as_roomy left) (expression_as_roomy right))
  expression_as_roomy (binary_expression line op left right) =
      let same = one_more (same_most (expression_as_roomy left) (expression_as_roomy right)) in
      ap₂ (λ (folded : Option ℤ) (depth : ℕ). if is_some folded then 4 else depth) (same_fold (binary_expression line op left right)) same
  expression_as_roomy (unary_expression line op e) = ap₂ (λ (folded : Option ℤ) (depth : ℕ). if is_some folded then 4 else 1 + depth) (same_fold (unary_expression line op e)) (expression_as_roomy e)
  expression_as_roomy (constructor line fields) = one_more (fields_as_roomy fields)
  expression_as_roomy (parenthesized line e) = ap₂ (λ (folded : Option ℤ) (depth : ℕ). if is_some folded then 4 else 1 + depth) (same_fold e) (expression_as_roomy e)
  expression_as_roomy e = refl

  arguments_as_roomy : (args : Arguments) → space_of_arguments (one_line_arguments args) ≡ space_of_arguments args
  arguments_as_roomy (argument_list es) = expressions_as_roomy es
  arguments_as_roomy (text_argument text) = refl
  arguments_as_roomy (table_argument fields) = fields_as_roomy fields

  fields_as_roomy : (fields : Fields) → space_of_fields (one_line_fields fields) ≡ space_of_fields fields
  fields_as_roomy no_fields = refl
  fields_as_roomy (positional e separator rest) = same_most (expression_as_roomy e) (fields_as_roomy rest)
  fields_as_roomy (named name e separator rest) = same_most (expression_as_roomy e) (fields_as_roomy rest)
  fields_as_roomy (keyed key e separator rest) = same_most (same_most (expression_as_roomy key) (expression_as_roomy e)) (fields_as_roomy rest)

pub block_as_around : (block : Statements) → around_body (one_line_statements block) (space_of_statements (one_line_statements block)) ≡ around_body block (space_of_statements block)
block_as_around block = same_around (same_blocks block) (block_as_flow block) (block_as_roomy block)

-- ---- it is well formed

same_call : (e : Expression) → is_call (one_line_expression e) ≡ is_call e
same_call (call_expression line on args on_line) = refl
same_call e = refl

some_branches : (branches : Branches) → has_branches (one_line_branches branches) ≡ has_branches branches
some_branches no_branches = refl
some_branches (branch e block rest) = refl

mutual
  pub block_formed : (block : Statements) → formed_statements block ≡ true → formed_statements (one_line_statements block) ≡ true
  block_formed no_statements formed = refl
  block_formed (syntax.statement line semi s rest) formed =
      let behind = second_of_both (formed_statement s) _ formed in
      both_hold _ _ (statement_formed s (first_of_both _ _ formed))
      (both_hold _ _ (same_follow s semi rest ∙ first_of_both _ _ behind) (block_formed rest (second_of_both (may_follow s semi rest) _ behind)))

  pub statement_formed : (s : Statement) → formed_statement s ≡ true → formed_statement (one_line_statement s) ≡ true
  statement_formed (assignment targets es) formed =
      let targets_on = second_of_both (has_expressions targets) _ formed in
      let formed_on = second_of_both (are_targets targets) _ targets_on in
      let values_on = second_of_both (formed_expressions targets) _ formed_on in
      both_hold _ _ (same_some targets ∙ first_of_both _ _ formed)
      (both_hold _ _ (same_targets targets ∙ first_of_both _ _ targets_on)
      (both_hold _ _ (expressions_formed targets (first_of_both _ _ formed_on))
      (both_hold _ _ (same_some es ∙ first_of_both _ _ values_on) (expressions_formed es (second_of_both (has_expressions es) _ values_on)))))
  statement_formed (call_statement e) formed = both_hold _ _ (same_call e ∙ first_of_both _ _ formed) (expression_formed e (second_of_both (is_call e) _ formed))
  statement_formed (do_block block) formed = block_formed block formed
  statement_formed (while_loop e block) formed = both_hold _ _ (expression_formed e (first_of_both _ _ formed)) (block_formed block (second_of_both (formed_expression e) _ formed))
  statement_formed (repeat_loop block e) formed = both_hold _ _ (block_formed block (first_of_both _ _ formed)) (expression_formed e (second_of_both (formed_statements block) _ formed))
  statement_formed (if_statement branches last) formed =
      let arms = second_of_both (has_branches branches) _ formed in
      both_hold _ _ (some_branches branches ∙ first_of_both _ _ formed)
      (both_hold _ _ (branches_formed branches (first_of_both _ _ arms)) (otherwise_formed last (second_of_both (formed_branches branches) _ arms)))
  statement_formed (numeric_for name first last by block) formed =
      let values = second_of_both (is_name name) _ formed in
      let behind = second_of_both (formed_expression first) _ values in
      let steps = second_of_both (formed_expression last) _ behind in
      both_hold _ _ (first_of_both _ _ formed)
      (both_hold _ _ (expression_formed first (first_of_both _ _ values))
      (both_hold _ _ (expression_formed last (first_of_both _ _ behind))
      (both_hold _ _ (step_formed by (first_of_both _ _ steps)) (block_formed block (second_of_both (formed_step by) _ steps)))))
  statement_formed (generic_for names es block) formed =
      let some = second_of_both (are_some_names names) _ formed in
      let values = second_of_both (has_expressions es) _ some in
      both_hold _ _ (first_of_both _ _ formed)
      (both_hold _ _ (same_some es ∙ first_of_both _ _ some)
      (both_hold _ _ (expressions_formed es (first_of_both _ _ values)) (block_formed block (second_of_both (formed_expressions es) _ values))))
  statement_formed (function_statement path method body) formed =
      let behind = second_of_both (are_some_names path) _ formed in
      both_hold _ _ (first_of_both _ _ formed) (both_hold _ _ (first_of_both _ _ behind) (body_formed body (second_of_both (is_optional_name method) _ behind)))
  statement_formed (local_function name body) formed = both_hold _ _ (first_of_both _ _ formed) (body_formed body (second_of_both (is_name name) _ formed))
  statement_formed (local_statement names es) formed = both_hold _ _ (first_of_both _ _ formed) (expressions_formed es (second_of_both (are_some_names names) _ formed))
  statement_formed (return_statement es) formed = expressions_formed es formed
  statement_formed break_statement formed = refl

  branches_formed : (branches : Branches) → formed_branches branches ≡ true → formed_branches (one_line_branches branches) ≡ true
  branches_formed no_branches formed = refl
  branches_formed (branch e block rest) formed =
      let behind = second_of_both (formed_expression e) _ formed in
      both_hold _ _ (expression_formed e (first_of_both _ _ formed))
      (both_hold _ _ (block_formed block (first_of_both _ _ behind)) (branches_formed rest (second_of_both (formed_statements block) _ behind)))

  otherwise_formed : (last : Otherwise) → formed_otherwise last ≡ true → formed_otherwise (one_line_otherwise last) ≡ true
  otherwise_formed no_otherwise formed = refl
  otherwise_formed (otherwise block) formed = block_formed block formed

  step_formed : (by : ForStep) → formed_step by ≡ true → formed_step (one_line_step by) ≡ true
  step_formed no_step formed = refl
  step_formed (by_step e) formed = expression_formed e formed

  body_formed : (body : FunctionBody) → formed_body body ≡ true → formed_body (one_line_body body) ≡ true
  body_formed (function_body params vararg block first last) formed = both_hold _ _ (first_of_both _ _ formed) (block_formed block (second_of_both (are_names params) _ formed))

  pub expressions_formed : (es : Expressions) → formed_expressions es ≡ true → formed_expressions (one_line_expressions es) ≡ true
  expressions_formed no_expressions formed = refl
  expressions_formed (syntax.expression e rest) formed = both_hold _ _ (expression_formed e (first_of_both _ _ formed)) (expressions_formed rest (second_of_both (formed_expression e) _ formed))

  pub expression_formed : (e : Expression) → formed_expression e ≡ true → formed_expression (one_line_expression e) ≡ true
  expression_formed (function_expression line body) formed = body_formed body formed
  expression_formed (index_expression line on key) formed =
      let parts = second_of_both (is_prefix on) _ formed in
      both_hold _ _ (same_prefix on ∙ first_of_both _ _ formed) (both_hold _ _ (expression_formed on (first_of_both _ _ parts)) (expression_formed key (second_of_both (formed_expression on) _ parts)))
  expression_formed (field_expression line on name) formed =
      let parts = second_of_both (is_prefix on) _ formed in
      both_hold _ _ (same_prefix on ∙ first_of_both _ _ formed) (both_hold _ _ (expression_formed on (first_of_both _ _ parts)) (second_of_both (formed_expression on) _ parts))
  expression_formed (call_expression line on args on_line) formed =
      let parts = second_of_both (is_prefix on) _ formed in
      let given = second_of_both (on_its_line args line on_line) _ (second_of_both (formed_expression on) _ parts) in
      both_hold _ _ (same_prefix on ∙ first_of_both _ _ formed) (both_hold _ _ (expression_formed on (first_of_both _ _ parts)) (both_hold _ _ (given_on_line args) (arguments_formed args given)))
  expression_formed (method_call line on name args on_line) formed =
      let parts = second_of_both (is_prefix on) _ formed in
      let named = second_of_both (formed_expression on) _ parts in
      let given = second_of_both (on_its_line args line on_line) _ (second_of_both (is_name name) _ named) in
      both_hold _ _ (same_prefix on ∙ first_of_both _ _ formed)
      (both_hold _ _ (expression_formed on (first_of_both _ _ parts)) (both_hold _ _ (first_of_both _ _ named) (both_hold _ _ (given_on_line args) (arguments_formed args given))))
  expression_formed (and_expression line left right) formed =
      let behind = second_of_both (left_binds 2 false left) _ formed in
      let parts = second_of_both (right_binds 2 false right) _ behind in
      both_hold _ _ (same_left 2 false left ∙ first_of_both _ _ formed)
      (both_hold _ _ (same_right 2 false right ∙ first_of_both _ _ behind)
      (both_hold _ _ (expression_formed left (first_of_both _ _ parts)) (expression_formed right (second_of_both (formed_expression left) _ parts))))
  expression_formed (or_expression line left right) formed =
      let behind = second_of_both (left_binds 1 false left) _ formed in
      let parts = second_of_both (right_binds 1 false right) _ behind in
      both_hold _ _ (same_left 1 false left ∙ first_of_both _ _ formed)
      (both_hold _ _ (same_right 1 false right ∙ first_of_both _ _ behind)
      (both_hold _ _ (expression_formed left (first_of_both _ _ parts)) (expression_formed right (second_of_both (formed_expression left) _ parts))))
  expression_formed (binary_expression line op left right) formed =
      let level = level_of_op op in
      let associative = is_right_associative op in
      let behind = second_of_both (left_binds level associative left) _ formed in
      let parts = second_of_both (right_binds level associative right) _ behind in
      both_hold _ _ (same_left level associative left ∙ first_of_both _ _ formed)
      (both_hold _ _ (same_right level associative right ∙ first_of_both _ _ behind)
      (both_hold _ _ (expression_formed left (first_of_both _ _ parts)) (expression_formed right (second_of_both (formed_expression left) _ parts))))
  expression_formed (unary_expression line op e) formed =
      both_hold _ _ (same_left 7 false e ∙ first_of_both _ _ formed) (expression_formed e (second_of_both (left_binds 7 false e) _ formed))
  expression_formed (constructor line fields) formed = fields_formed fields formed
  expression_formed (parenthesized line e) formed = expression_formed e formed
  expression_formed e formed = formed

  arguments_formed : (args : Arguments) → formed_arguments args ≡ true → formed_arguments (one_line_arguments args) ≡ true
  arguments_formed (argument_list es) formed = expressions_formed es formed
  arguments_formed (text_argument text) formed = refl
  arguments_formed (table_argument fields) formed = fields_formed fields formed

  fields_formed : (fields : Fields) → formed_fields fields ≡ true → formed_fields (one_line_fields fields) ≡ true
  fields_formed no_fields formed = refl
  fields_formed (positional e separator rest) formed =
      let parts = second_of_both (ends_item separator rest) _ formed in
      both_hold _ _ (same_item separator rest ∙ first_of_both _ _ formed)
      (both_hold _ _ (expression_formed e (first_of_both _ _ parts)) (fields_formed rest (second_of_both (formed_expression e) _ parts)))
  fields_formed (named name e separator rest) formed =
      let behind = second_of_both (ends_item separator rest) _ formed in
      let parts = second_of_both (is_name name) _ behind in
      both_hold _ _ (same_item separator rest ∙ first_of_both _ _ formed)
      (both_hold _ _ (first_of_both _ _ behind) (both_hold _ _ (expression_formed e (first_of_both _ _ parts)) (fields_formed rest (second_of_both (formed_expression e) _ parts))))
  fields_formed (keyed key e separator rest) formed =
      let behind = second_of_both (ends_item separator rest) _ formed in
      let parts = second_of_both (formed_expression key) _ behind in
      both_hold _ _ (same_item separator rest ∙ first_of_both _ _ formed)
      (both_hold _ _ (expression_formed key (first_of_both _ _ behind))
      (both_hold _ _ (expression_formed e (first_of_both _ _ parts)) (fields_formed rest (second_of_both (formed_expression e) _ parts))))
