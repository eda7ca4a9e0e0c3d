-- Serves the laws. Where the words of a whole tree stand: the code scheme as a relation. From one spot of a function's code to another the
-- words of each part stand. That what the scheme makes stands so are the laws `scheme_stands` and, with the law asked, `names_stand`.
use Rattle.std.specs.Prelude.{ℕ, suc, ◌+◌, nat_lt, Bool, true, false, ◌||◌, ◌&&◌, List, [], ◌∷◌, length, Option, Some, None, is_some, pos}
use Rattle.lua_tree.specs.Syntax as syntax
use Rattle.lua_tree.specs.Syntax.{Source, Expressions, no_expressions, Arguments, argument_list, text_argument, table_argument, Fields, no_fields, positional, named, keyed, Statements, no_statements, Statement, assignment, call_statement, do_block, while_loop, repeat_loop, if_statement, numeric_for, generic_for, function_statement, local_function, local_statement, return_statement, break_statement, Branches, no_branches, branch, Otherwise, no_otherwise, otherwise, ForStep, no_step, by_step, FunctionBody, function_body, Expression, nil_literal, true_literal, false_literal, vararg_expression, number_literal, text_literal, name_expression, function_expression, index_expression, field_expression, call_expression, method_call, and_expression, or_expression, binary_expression, unary_expression, constructor, parenthesized}
use Rattle.lua_tree.specs.Outline.{all_params, body_part}
use Rattle.lua_tree.specs.Resolved.{resolved}
use Rattle.opcode.specs.declared.op.Op.{Op}
use Rattle.proto.specs.Chunk.{Chunk}
use Rattle.proto.specs.declared.parts.Constant.{Constant}
use Rattle.scheme.specs.Making.{Ahead}
use Rattle.scheme.specs.Lists.{pending_after}
use Rattle.scheme.specs.Scheme.{has_branch, has_otherwise, ahead_of, inner}
use Rattle.scheme.specs.declared.making.Piece.{Piece}
use Rattle.scheme.specs.declared.making.Active.{Active}
use Rattle.scheme_stands.specs.Words.{Law, Fn, Stretch, WordAt, Same, Seq, ConstantWord}
use Rattle.scheme_stands.specs.Expressions.{form_of, several, Rel, NextAt, RkAt, RkTextAt, rel_single, rel_name, rel_paren, rel_index, rel_field, rel_binary, rel_unary, rel_logic}
use Rattle.scheme_stands.specs.Placed.{IsPlaced}
use Rattle.scheme_stands.specs.Lists.{OpenListAt, rels_count, GivenRel, CallAt, MethodAt, MovedFrom, rel_call, rel_vararg, SetListIf, ItemBy, KeyedAt, is_last_item, TableAt}
use Rattle.scheme_stands.specs.Functions.{FunctionRel, rel_function, Step, FunctionAt, MadeAt}
use Rattle.scheme_stands.specs.Statements.{StaysAt, ThenAt, LoopAt, BlockAt, LocalPartAt, LocalFunctionAt, AssignAt, rel_path, rel_method, WhileAt, RepeatAt, ArmAt, NumericAt, GenericAt, BreakAt, ReturnAt}

-- ==== the whole tree

abbrev mutual
  pub StatementsAt : Fn → Option LoopAt → Statements → Step
  StatementsAt f loop no_statements = StaysAt (λ active. Same)
  StatementsAt f loop (syntax.statement line semi s rest) = ThenAt (StatementAt f loop s) (StatementsAt f loop rest)

  pub StatementAt : Fn → Option LoopAt → Statement → Step
  StatementAt f loop (assignment targets es) = StaysAt (AssignAt f (all_related f targets) (all_related f es))
  StatementAt f loop (call_statement e) = StaysAt (λ active. (related f e).multi active (length active) Op.Call (Some 0))
  StatementAt f loop (do_block block) = StaysAt (BlockAt f (StatementsAt f loop block))
  StatementAt f loop (while_loop test block) = StaysAt (WhileAt f (related f test) (λ loop. StatementsAt f loop block))
  StatementAt f loop (repeat_loop block test) = StaysAt (RepeatAt f (λ loop. StatementsAt f loop block) (related f test))
  StatementAt f loop (if_statement branches last) =
      StaysAt (λ active p q. Seq (BranchesAt f loop q.pc (has_otherwise last) branches active) (OtherwiseAt f loop last active) p q)
  StatementAt f loop (numeric_for text first last step block) =
      StaysAt (NumericAt f text (related f first) (related f last) (StepAt f step) (λ loop. StatementsAt f loop block))
  StatementAt f loop (generic_for names es block) = StaysAt (GenericAt f names (all_related f es) (λ loop. StatementsAt f loop block))
  StatementAt f loop (function_statement path method body) =
      StaysAt (AssignAt f (rel_method f (rel_path f path) method ∷ []) (rel_function f (FunctionOf body (is_some method)) ∷ []))
  StatementAt f loop (local_function text body) = LocalFunctionAt f text (FunctionOf body false)
  StatementAt f loop (local_statement names es) = LocalPartAt f names (all_related f es)
  StatementAt f loop (return_statement es) = StaysAt (ReturnAt f (all_related f es))
  StatementAt f loop break_statement = StaysAt (BreakAt f loop)

  -- `end` is the pc behind the whole statement, and `more` whether there is an `else`
  pub BranchesAt : Fn → Option LoopAt → (end : ℕ) → (more : Bool) → Branches → List Active → Stretch
  BranchesAt f loop end more no_branches active = Same
  BranchesAt f loop end more (branch test block rest) active =
      Seq (ArmAt f end (has_branch rest || more) (related f test) (StatementsAt f loop block) active) (BranchesAt f loop end more rest active)

  pub OtherwiseAt : Fn → Option LoopAt → Otherwise → List Active → Stretch
  OtherwiseAt f loop no_otherwise active = Same
  OtherwiseAt f loop (otherwise block) active = BlockAt f (StatementsAt f loop block) active

  -- the step of a numeric `for`, in `free`
  pub StepAt : Fn → ForStep → List Active → (free : ℕ) → Stretch
  StepAt f no_step active free = ConstantWord f Op.LoadK free (Constant.Number (pos 1))
  StepAt f (by_step e) active free = (related f e).to_reg active free free

  -- a method has a first parameter `self`
  pub FunctionOf : FunctionBody → (method : Bool) → Law → FunctionRel
  FunctionOf (function_body params vararg block first last) method l =
      let body = function_body params vararg block first last in
      MadeAt l (FunctionAt l (all_params method params) vararg (λ f. StatementsAt f None block)) (inner body method) (IsPlaced (body_part method body))

  pub all_related : Fn → Expressions → List Rel
  all_related f no_expressions = []
  all_related f (syntax.expression e rest) = related f e ∷ all_related f rest

  pub related : Fn → Expression → Rel
  related f (nil_literal line) = rel_single f (form_of (nil_literal 0)) (λ active free r. WordAt f (Piece.Abc Op.LoadNil r r 0))
  related f (true_literal line) = rel_single f (form_of (true_literal 0)) (λ active free r. WordAt f (Piece.Abc Op.LoadBool r 1 0))
  related f (false_literal line) = rel_single f (form_of (false_literal 0)) (λ active free r. WordAt f (Piece.Abc Op.LoadBool r 0 0))
  related f (vararg_expression line) = rel_vararg f
  related f (number_literal line n) = rel_single f (form_of (number_literal 0 n)) (λ active free r. ConstantWord f Op.LoadK r (Constant.Number n))
  related f (text_literal line text) = rel_single f (form_of (text_literal 0 text)) (λ active free r. ConstantWord f Op.LoadK r (Constant.Text text))
  related f (name_expression line text) = rel_name f text
  related f (function_expression line body) = rel_function f (FunctionOf body false)
  related f (index_expression line on key) = rel_index f (form_of (index_expression line on key)) (related f on) (related f key)
  related f (field_expression line on text) = rel_field f (related f on) text
  related f (call_expression line on args on_line) = rel_call f (form_of (call_expression line on args on_line)) (CallAt f (related f on) (given_rel f args))
  related f (method_call line on text args on_line) = rel_call f (form_of (method_call line on text args on_line)) (MethodAt f (related f on) text (given_rel f args))
  related f (and_expression line left right) = rel_logic f false (form_of (and_expression line left right)) (related f left) (related f right)
  related f (or_expression line left right) = rel_logic f true (form_of (or_expression line left right)) (related f left) (related f right)
  related f (binary_expression line op left right) = rel_binary f op (binary_expression line op left right) (related f left) (related f right)
  related f (unary_expression line op e) = rel_unary f op (unary_expression line op e) (related f e)
  related f (constructor line fields) =
      rel_single f (form_of (constructor line fields)) (λ active free r. MovedFrom f (TableAt f (λ t. ItemsAt f fields active t 0 0) free) free r)
  related f (parenthesized line e) = rel_paren f (form_of (parenthesized line e)) (related f e)

  pub given_rel : Fn → Arguments → GivenRel
  given_rel f (argument_list es) = record { part = OpenListAt f (all_related f es); count = rels_count (all_related f es) }
  given_rel f (text_argument text) = record { part = λ active free. NextAt f (ConstantWord f Op.LoadK free (Constant.Text text)) free free (free + 1); count = Some 1 }
  given_rel f (table_argument fields) = record { part = λ active free. TableAt f (λ t. ItemsAt f fields active t 0 0) free; count = Some 1 }

  -- the items of a constructor, where so many positional ones were done, and so many of these are pending, in the registers behind
  -- that of the table, t
  pub ItemsAt : Fn → Fields → List Active → (t done pending : ℕ) → Stretch
  ItemsAt f no_fields active t done pending = SetListIf (nat_lt 0 pending) f t pending done
  ItemsAt f (positional e separator rest) active t done pending =
      ItemBy (is_last_item rest && several (form_of e)) f (related f e) active t done pending (ItemsAt f rest active t (suc done) (pending_after (suc pending)))
  ItemsAt f (named text e separator rest) active t done pending = Seq (KeyedAt f (RkTextAt f text) (related f e) active t pending) (ItemsAt f rest active t done pending)
  ItemsAt f (keyed key e separator rest) active t done pending = Seq (KeyedAt f (RkAt f active (related f key)) (related f e) active t pending) (ItemsAt f rest active t done pending)

-- the chunk of a source: a function of no parameters that takes extra arguments
abbrev pub MainAt : Law → Source → Chunk → Type 0
MainAt l source chunk = (behind : Ahead) × FunctionAt l [] true (λ f. StatementsAt f None source.body) (ahead_of (resolved source)) behind chunk
