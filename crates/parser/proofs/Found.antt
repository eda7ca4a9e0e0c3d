-- A run on what spells a well-formed source finds it.
use Rattle.std.proofs.Common.{◌≡◌, ◌&&◌, ℕ, ◌≤◌, pos, negsuc, true, false, List, [], ◌∷◌, refl, arith}
use Rattle.lua_tree.specs.Syntax.{Statements, no_statements, statement, Statement, assignment, call_statement, do_block, while_loop, repeat_loop, if_statement, numeric_for, generic_for, function_statement, local_function, local_statement, return_statement, break_statement, Branches, no_branches, branch, Otherwise, no_otherwise, otherwise, ForStep, no_step, by_step, FunctionBody, function_body, Expressions, no_expressions, expression, Expression, nil_literal, true_literal, false_literal, vararg_expression, number_literal, text_literal, name_expression, function_expression, index_expression, field_expression, call_expression, method_call, and_expression, or_expression, binary_expression, unary_expression, constructor, parenthesized, Arguments, argument_list, text_argument, table_argument, Fields, no_fields, positional, named, keyed, Source}
use Rattle.lua_tree.specs.Names.{is_name, are_names, are_some_names}
use Rattle.lua_tree.specs.WellFormed.{is_prefix, is_call, is_target, are_targets, is_optional_name, ends_item, formed_statements, formed_statement, formed_branches, formed_otherwise, formed_step, formed_body, formed_expressions, formed_expression, formed_arguments, formed_fields, is_formed, depth_of_statements}
use Rattle.lua_tree.specs.Spelled.{block_phrase, SpellsSource}
use Rattle.lua_tree.specs.declared.token.Token.{Token}
use Rattle.parser.specs.Operators.{Infix}
use Rattle.parser.specs.Program.{reads, main_chunk}
use Rattle.parser.specs.Runs.{done, Runs, gives, looks, calls}
use Rattle.parser.proofs.Small.{and_left, and_right, not_both}
use Rattle.parser.proofs.Following.{formed_parts}
use Rattle.parser.proofs.FirstTokens.{call_is_prefix, target_is_prefix, assignment_formed}
use Rattle.parser.proofs.Reading.{PrefixReads, WholeReads, ExpressionReads, ArgumentsReads, FieldsReads, BodyReads, BlockReads, StatementReads, BranchesReads, StepReads}
use Rattle.parser.proofs.FoundExpressions.{whole_ends, prefix_whole, name_prefix, paren_prefix, index_prefix, field_prefix, call_prefix, method_prefix, nil_whole, true_whole, false_whole, vararg_whole, number_whole, text_whole, function_whole, constructor_whole, unary_whole, binary_whole, and_whole, or_whole}
use Rattle.parser.proofs.FoundLists.{ExpressionsFound, more_none, more_next, expressions_next, targets_none, targets_next, list_reads, text_reads, table_reads, fields_none, positional_next, named_next, keyed_next, body_reads}
use Rattle.parser.proofs.FoundStatements.{block_none, block_next, do_reads, while_reads, repeat_reads, no_otherwise_reads, otherwise_reads, branch_reads, if_reads, no_step_reads, by_step_reads, numeric_reads, generic_reads, function_reads, local_function_reads, local_reads, return_reads, break_reads, call_reads, assignment_reads, expressions_positive}

-- what is known of an expression
pub record ExpressionFound (most : ℕ) (e : Expression) : Type 0 where
  pub prefixes : is_prefix e ≡ true → PrefixReads most e
  pub wholes : WholeReads most e
  pub ends : ExpressionReads most e

from_whole : (most : ℕ) (e : Expression) → is_prefix e ≡ false → WholeReads most e → ExpressionFound most e
from_whole most e n r = record { prefixes = λ p. absurd (not_both p n); wholes = r; ends = whole_ends most e r }

from_prefix : (most : ℕ) (e : Expression) → is_prefix e ≡ true → formed_expression e ≡ true → PrefixReads most e → ExpressionFound most e
from_prefix most e p f r =
    let w = prefix_whole most e p f r in
    record { prefixes = λ q. r; wholes = w; ends = whole_ends most e w }

mutual
  -- each well-formed phrase is read where it is spelled
  pub block_found : (most : ℕ) (b : Statements) → formed_statements b ≡ true → BlockReads most b
  block_found most no_statements f = block_none most
  block_found most (statement line semi s others) f =
      let g = and_right (formed_statement s) _ f in
      block_next most line semi s others (and_left (formed_statement s) _ f) (and_left _ (formed_statements others) g) (and_right _ (formed_statements others) g) (statement_found most s (and_left (formed_statement s) _ f)) (block_found most others (and_right _ (formed_statements others) g))

  statement_found : (most : ℕ) (s : Statement) → formed_statement s ≡ true → StatementReads most s
  statement_found most (assignment no_expressions right) f = absurd (let q : false ≡ true = f in cc)
  statement_found most (assignment (expression e es) right) f =
      let p = assignment_formed (expression e es) right f in
      let t = and_left (is_target e) (are_targets es) p.are_targets in
      let g = and_left (formed_expression e) (formed_expressions es) p.targets_formed in
      assignment_reads most e es right t g ((expression_found most e g).prefixes (target_is_prefix e t))
      ((expressions_found most es (and_right (formed_expression e) (formed_expressions es) p.targets_formed)).targets (and_right (is_target e) (are_targets es) p.are_targets))
      ((expressions_found most right p.values_formed).first p.some_values)
  statement_found most (call_statement e) f =
      let c = and_left (is_call e) (formed_expression e) f in
      let g = and_right (is_call e) (formed_expression e) f in
      call_reads most e c g ((expression_found most e g).prefixes (call_is_prefix e c))
  statement_found most (do_block b) f = do_reads most b (block_found most b f)
  statement_found most (while_loop cond b) f =
      while_reads most cond b (expression_found most cond (and_left (formed_expression cond) (formed_statements b) f)).ends (block_found most b (and_right (formed_expression cond) (formed_statements b) f))
  statement_found most (repeat_loop b cond) f =
      repeat_reads most b cond (block_found most b (and_left (formed_statements b) (formed_expression cond) f)) (expression_found most cond (and_right (formed_statements b) (formed_expression cond) f)).ends
  statement_found most (if_statement no_branches last) f = absurd (let q : false ≡ true = f in cc)
  statement_found most (if_statement (branch cond b bs) last) f =
      let g = and_left (formed_branches (branch cond b bs)) (formed_otherwise last) f in
      let h = and_right (formed_expression cond) _ g in
      if_reads most cond b bs last (expression_found most cond (and_left (formed_expression cond) _ g)).ends (block_found most b (and_left (formed_statements b) (formed_branches bs) h))
      (branches_found most bs (and_right (formed_statements b) (formed_branches bs) h) last (otherwise_found most last (and_right (formed_branches (branch cond b bs)) (formed_otherwise last) f)))
  statement_found most (numeric_for name low high by b) f =
      let g = and_right (is_name name) _ f in
      let h = and_right (formed_expression low) _ g in
      let i = and_right (formed_expression high) _ h in
      numeric_reads most name low high by b (and_left (is_name name) _ f) (expression_found most low (and_left (formed_expression low) _ g)).ends (expression_found most high (and_left (formed_expression high) _ h)).ends
      (step_found most by (and_left (formed_step by) (formed_statements b) i)) (block_found most b (and_right (formed_step by) (formed_statements b) i))
  statement_found most (generic_for [] es b) f = absurd (let q : false ≡ true = f in cc)
  statement_found most (generic_for (name ∷ names) no_expressions b) f = absurd (let q : false ≡ true = and_right (are_some_names (name ∷ names)) false f in cc)
  statement_found most (generic_for (name ∷ names) (expression e es) b) f =
      let n = and_left (are_some_names (name ∷ names)) (formed_expressions (expression e es) && formed_statements b) f in
      let g = and_right (are_some_names (name ∷ names)) (formed_expressions (expression e es) && formed_statements b) f in
      let v = and_left (formed_expressions (expression e es)) (formed_statements b) g in
      generic_reads most name names (expression e es) b (and_left (is_name name) (are_names names) n) (and_right (is_name name) (are_names names) n) (expressions_positive e es)
      (expressions_next most e es (expression_found most e (and_left (formed_expression e) (formed_expressions es) v)).ends (expressions_found most es (and_right (formed_expression e) (formed_expressions es) v)).more)
      (block_found most b (and_right (formed_expressions (expression e es)) (formed_statements b) g))
  statement_found most (function_statement [] method b) f = absurd (let q : false ≡ true = f in cc)
  statement_found most (function_statement (name ∷ names) method b) f =
      let n = and_left (are_some_names (name ∷ names)) _ f in
      let g = and_right (are_some_names (name ∷ names)) _ f in
      function_reads most name names method b (and_left (is_name name) (are_names names) n) (and_right (is_name name) (are_names names) n) (and_left (is_optional_name method) (formed_body b) g)
      (body_found most b (and_right (is_optional_name method) (formed_body b) g))
  statement_found most (local_function name b) f = local_function_reads most name b (and_left (is_name name) (formed_body b) f) (body_found most b (and_right (is_name name) (formed_body b) f))
  statement_found most (local_statement [] es) f = absurd (let q : false ≡ true = f in cc)
  statement_found most (local_statement (name ∷ names) es) f =
      let n = and_left (are_some_names (name ∷ names)) (formed_expressions es) f in
      local_reads most name names es (and_left (is_name name) (are_names names) n) (and_right (is_name name) (are_names names) n) (expressions_found most es (and_right (are_some_names (name ∷ names)) (formed_expressions es) f))
  statement_found most (return_statement es) f = return_reads most es (expressions_found most es f)
  statement_found most break_statement f = break_reads most

  branches_found : (most : ℕ) (bs : Branches) → formed_branches bs ≡ true → (last : Otherwise) → BranchesReads most no_branches last → BranchesReads most bs last
  branches_found most no_branches f last r = r
  branches_found most (branch cond b bs) f last r =
      let g = and_right (formed_expression cond) _ f in
      branch_reads most cond b bs last (expression_found most cond (and_left (formed_expression cond) _ f)).ends (block_found most b (and_left (formed_statements b) (formed_branches bs) g))
      (branches_found most bs (and_right (formed_statements b) (formed_branches bs) g) last r)

  otherwise_found : (most : ℕ) (last : Otherwise) → formed_otherwise last ≡ true → BranchesReads most no_branches last
  otherwise_found most no_otherwise f = no_otherwise_reads most
  otherwise_found most (otherwise b) f = otherwise_reads most b (block_found most b f)

  step_found : (most : ℕ) (by : ForStep) → formed_step by ≡ true → StepReads most by
  step_found most no_step f = no_step_reads most
  step_found most (by_step e) f = by_step_reads most e (expression_found most e f).ends

  body_found : (most : ℕ) (b : FunctionBody) → formed_body b ≡ true → BodyReads most b
  body_found most (function_body params vararg b first last) f = body_reads most params vararg b first last (and_left (are_names params) (formed_statements b) f) (block_found most b (and_right (are_names params) (formed_statements b) f))

  expressions_found : (most : ℕ) (es : Expressions) → formed_expressions es ≡ true → ExpressionsFound most es
  expressions_found most no_expressions f = record { first = λ h. absurd (let q : false ≡ true = h in cc); more = more_none most; targets = λ t. targets_none most }
  expressions_found most (expression e es) f =
      let one = expression_found most e (and_left (formed_expression e) (formed_expressions es) f) in
      let others = expressions_found most es (and_right (formed_expression e) (formed_expressions es) f) in
      record {
        first = λ h. expressions_next most e es one.ends others.more;
        more = more_next most e es one.ends others.more;
        targets = λ t.
            let g = and_left (is_target e) (are_targets es) t in
            targets_next most e es g (one.prefixes (target_is_prefix e g)) (others.targets (and_right (is_target e) (are_targets es) t));
      }

  expression_found : (most : ℕ) (e : Expression) → formed_expression e ≡ true → ExpressionFound most e
  expression_found most (nil_literal line) f = from_whole most (nil_literal line) refl (nil_whole most line)
  expression_found most (true_literal line) f = from_whole most (true_literal line) refl (true_whole most line)
  expression_found most (false_literal line) f = from_whole most (false_literal line) refl (false_whole most line)
  expression_found most (vararg_expression line) f = from_whole most (vararg_expression line) refl (vararg_whole most line)
  expression_found most (number_literal line (pos n)) f = from_whole most (number_literal line (pos n)) refl (number_whole most line n)
  expression_found most (number_literal line (negsuc n)) f = absurd (let q : false ≡ true = f in cc)
  expression_found most (text_literal line text) f = from_whole most (text_literal line text) refl (text_whole most line text)
  expression_found most (name_expression line name) f = from_prefix most (name_expression line name) refl f (name_prefix most line name f)
  expression_found most (function_expression line b) f = from_whole most (function_expression line b) refl (function_whole most line b (body_found most b f))
  expression_found most (index_expression line on key) f =
      let g = and_right (is_prefix on) _ f in
      from_prefix most (index_expression line on key) refl f (index_prefix most line on key ((expression_found most on (and_left (formed_expression on) (formed_expression key) g)).prefixes (and_left (is_prefix on) _ f))
      (expression_found most key (and_right (formed_expression on) (formed_expression key) g)).ends)
  expression_found most (field_expression line on name) f =
      let g = and_right (is_prefix on) _ f in
      from_prefix most (field_expression line on name) refl f (field_prefix most line on name ((expression_found most on (and_left (formed_expression on) (is_name name) g)).prefixes (and_left (is_prefix on) _ f))
      (and_right (formed_expression on) (is_name name) g))
  expression_found most (call_expression line on args on_line) f =
      let g = and_right (is_prefix on) _ f in
      let h = and_right (formed_expression on) _ g in
      from_prefix most (call_expression line on args on_line) refl f (call_prefix most line on_line on args ((expression_found most on (and_left (formed_expression on) _ g)).prefixes (and_left (is_prefix on) _ f))
      (arguments_found most args (and_right _ (formed_arguments args) h)) (and_left _ (formed_arguments args) h))
  expression_found most (method_call line on name args on_line) f =
      let g = and_right (is_prefix on) _ f in
      let h = and_right (formed_expression on) _ g in
      let i = and_right (is_name name) _ h in
      from_prefix most (method_call line on name args on_line) refl f (method_prefix most line on_line on name args ((expression_found most on (and_left (formed_expression on) _ g)).prefixes (and_left (is_prefix on) _ f))
      (and_left (is_name name) _ h) (arguments_found most args (and_right _ (formed_arguments args) i)) (and_left _ (formed_arguments args) i))
  expression_found most (and_expression line left right) f =
      let p = formed_parts Infix.And left right f in
      from_whole most (and_expression line left right) refl (and_whole most line left right p (expression_found most left p.left_formed).wholes (expression_found most right p.right_formed).wholes)
  expression_found most (or_expression line left right) f =
      let p = formed_parts Infix.Or left right f in
      from_whole most (or_expression line left right) refl (or_whole most line left right p (expression_found most left p.left_formed).wholes (expression_found most right p.right_formed).wholes)
  expression_found most (binary_expression line op left right) f =
      let p = formed_parts (Infix.Binary op) left right f in
      from_whole most (binary_expression line op left right) refl (binary_whole most line op left right p (expression_found most left p.left_formed).wholes (expression_found most right p.right_formed).wholes)
  expression_found most (unary_expression line op e) f =
      let g = and_right _ (formed_expression e) f in
      from_whole most (unary_expression line op e) refl (unary_whole most line op e (and_left _ (formed_expression e) f) g (expression_found most e g).wholes)
  expression_found most (constructor line items) f = from_whole most (constructor line items) refl (constructor_whole most line items (fields_found most items f))
  expression_found most (parenthesized line e) f = from_prefix most (parenthesized line e) refl f (paren_prefix most line e (expression_found most e f).ends)

  arguments_found : (most : ℕ) (args : Arguments) → formed_arguments args ≡ true → ArgumentsReads most args
  arguments_found most (argument_list es) f = list_reads most es (expressions_found most es f)
  arguments_found most (text_argument text) f = text_reads most text
  arguments_found most (table_argument items) f = table_reads most items (fields_found most items f)

  fields_found : (most : ℕ) (items : Fields) → formed_fields items ≡ true → FieldsReads most items
  fields_found most no_fields f = fields_none most
  fields_found most (positional e mark items) f =
      let g = and_right (ends_item mark items) _ f in
      positional_next most e mark items (and_left (ends_item mark items) _ f) (expression_found most e (and_left (formed_expression e) (formed_fields items) g)).ends (fields_found most items (and_right (formed_expression e) (formed_fields items) g))
  fields_found most (named name e mark items) f =
      let g = and_right (ends_item mark items) _ f in
      let h = and_right (is_name name) _ g in
      named_next most name e mark items (and_left (ends_item mark items) _ f) (and_left (is_name name) _ g) (expression_found most e (and_left (formed_expression e) (formed_fields items) h)).ends (fields_found most items (and_right (formed_expression e) (formed_fields items) h))
  fields_found most (keyed key e mark items) f =
      let g = and_right (ends_item mark items) _ f in
      let h = and_right (formed_expression key) _ g in
      keyed_next most key e mark items (and_left (ends_item mark items) _ f) (expression_found most key (and_left (formed_expression key) _ g)).ends (expression_found most e (and_left (formed_expression e) (formed_fields items) h)).ends
      (fields_found most items (and_right (formed_expression e) (formed_fields items) h))

-- a well-formed source within the depth is what a run on its tokens finds
pub main_found : (most : ℕ) (source : Source) (tokens : List Token) → is_formed source ≡ true → depth_of_statements source.body ≤ most → SpellsSource source tokens →
    Runs most block_phrase (reads main_chunk) 1 tokens (done source.body source.last_line [])
main_found most source tokens f h s = calls (block_found most source.body f 0 1 source.last_line tokens [] s (omega arith) refl) (looks gives)
