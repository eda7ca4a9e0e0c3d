-- To be believed, and this suite's own. The source that a tree of the program stands for.
use Rattle.std.specs.Prelude.{ℕ}
use Rattle.lua_tree.specs.Syntax.{Statements, no_statements, statement, Statement, assignment, call_statement, do_block, while_loop, repeat_loop, if_statement, numeric_for, generic_for, function_statement, local_function, local_statement, return_statement, break_statement, Branches, no_branches, branch, Otherwise, no_otherwise, otherwise, ForStep, no_step, by_step, FunctionBody, function_body, Expressions, no_expressions, expression, Expression, nil_literal, true_literal, false_literal, vararg_expression, number_literal, text_literal, name_expression, function_expression, index_expression, field_expression, call_expression, method_call, and_expression, or_expression, binary_expression, unary_expression, constructor, parenthesized, Arguments, argument_list, text_argument, table_argument, Fields, no_fields, positional, named, keyed, Source}
use Rattle.lua_tree.specs.declared.tree.Tree.{Tree}
use Rattle.lua_tree.specs.declared.tree.Exp.{Exp}
use Rattle.lua_tree.specs.declared.tree.Block.{Block, Block', Row_of-Stat, end_of-Stat, more_of-Stat}
use Rattle.lua_tree.specs.declared.tree.Exps.{Exps, Exps', Row_of-Exp, end_of-Exp, more_of-Exp}
use Rattle.lua_tree.specs.declared.tree.Arms.{Arms, Arms', Row_of-Arm, end_of-Arm, more_of-Arm}
use Rattle.lua_tree.specs.declared.tree.Arm.{Arm, Arm'}
use Rattle.lua_tree.specs.declared.tree.Items.{Items, Items', Row_of-Item, end_of-Item, more_of-Item}
use Rattle.lua_tree.specs.declared.tree.ItemKind.{ItemKind, Positional', Named', Keyed'}
use Rattle.lua_tree.specs.declared.tree.Separator.{Separator}
use Rattle.lua_tree.specs.declared.tree.Body.{Body, Body'}
use Rattle.lua_tree.specs.declared.tree.Args.{Args, List as ListArgs, Text as TextArgs, Table as TableArgs}
use Rattle.lua_tree.specs.declared.tree.StatKind.{StatKind, Assign, Call' as CallStat', Do, While', Repeat', If', NumFor', GenFor, Function as FunctionStat, LocalFunction, Local, Return, Break, Held-StatKind-If-1, StatKind-If-1-None', StatKind-If-1-Some', Held-StatKind-NumFor-3, StatKind-NumFor-3-None', StatKind-NumFor-3-Some'}
use Rattle.lua_tree.specs.declared.tree.ExpKind.{ExpKind, Nil, True, False, Number, Text as TextExp, Vararg, Function, Name, Index', Field', Call', Method', And', Or', Binary', Unary', Table, Paren'}

abbrev mutual
  pub view_block : Block → Statements
  view_block (Block' m row) = view_statements row

  pub view_statements : {m : _} → Row_of-Stat m → Statements
  view_statements end_of-Stat = no_statements
  view_statements (more_of-Stat l s k rest) = statement l s (view_statement k) (view_statements rest)

  pub view_statement : StatKind → Statement
  view_statement (Assign ts es) = assignment (view_exps ts) (view_exps es)
  view_statement (CallStat' l k) = call_statement (view_kind k l)
  view_statement (Do b) = do_block (view_block b)
  view_statement (While' l k b) = while_loop (view_kind k l) (view_block b)
  view_statement (Repeat' b l k) = repeat_loop (view_block b) (view_kind k l)
  view_statement (If' arms last) = if_statement (view_arms arms) (view_last last)
  view_statement (NumFor' n l k l' k' s b) = numeric_for n (view_kind k l) (view_kind k' l') (view_step s) (view_block b)
  view_statement (GenFor ns es b) = generic_for ns (view_exps es) (view_block b)
  view_statement (FunctionStat p m f) = function_statement p m (view_body f)
  view_statement (LocalFunction n f) = local_function n (view_body f)
  view_statement (Local ns es) = local_statement ns (view_exps es)
  view_statement (Return es) = return_statement (view_exps es)
  view_statement Break = break_statement

  pub view_arms : Arms → Branches
  view_arms (Arms' m row) = view_arm_row row

  pub view_arm_row : {m : _} → Row_of-Arm m → Branches
  view_arm_row end_of-Arm = no_branches
  view_arm_row (more_of-Arm a rest) = view_arm a (view_arm_row rest)

  pub view_arm : Arm → Branches → Branches
  view_arm (Arm' l k b) rest = branch (view_kind k l) (view_block b) rest

  pub view_last : Held-StatKind-If-1 → Otherwise
  view_last StatKind-If-1-None' = no_otherwise
  view_last (StatKind-If-1-Some' b) = otherwise (view_block b)

  pub view_step : Held-StatKind-NumFor-3 → ForStep
  view_step StatKind-NumFor-3-None' = no_step
  view_step (StatKind-NumFor-3-Some' l k) = by_step (view_kind k l)

  pub view_body : Body → FunctionBody
  view_body (Body' ps v b f l) = function_body ps v (view_block b) f l

  pub view_exps : Exps → Expressions
  view_exps (Exps' m row) = view_exp_row row

  pub view_exp_row : {m : _} → Row_of-Exp m → Expressions
  view_exp_row end_of-Exp = no_expressions
  view_exp_row (more_of-Exp l k rest) = expression (view_kind k l) (view_exp_row rest)

  pub view_kind : ExpKind → ℕ → Expression
  view_kind Nil line = nil_literal line
  view_kind True line = true_literal line
  view_kind False line = false_literal line
  view_kind (Number n) line = number_literal line n
  view_kind (TextExp t) line = text_literal line t
  view_kind Vararg line = vararg_expression line
  view_kind (Function f) line = function_expression line (view_body f)
  view_kind (Name n) line = name_expression line n
  view_kind (Index' p l k q l' k') line = index_expression line (view_kind k l) (view_kind k' l')
  view_kind (Field' p l k n) line = field_expression line (view_kind k l) n
  view_kind (Call' p l k a on) line = call_expression line (view_kind k l) (view_args a) on
  view_kind (Method' p l k n a on) line = method_call line (view_kind k l) n (view_args a) on
  view_kind (And' p l k q l' k') line = and_expression line (view_kind k l) (view_kind k' l')
  view_kind (Or' p l k q l' k') line = or_expression line (view_kind k l) (view_kind k' l')
  view_kind (Binary' op p l k q l' k') line = binary_expression line op (view_kind k l) (view_kind k' l')
  view_kind (Unary' op p l k) line = unary_expression line op (view_kind k l)
  view_kind (Table is) line = constructor line (view_items is)
  view_kind (Paren' p l k) line = parenthesized line (view_kind k l)

  pub view_args : Args → Arguments
  view_args (ListArgs es) = argument_list (view_exps es)
  view_args (TextArgs t) = text_argument t
  view_args (TableArgs is) = table_argument (view_items is)

  pub view_items : Items → Fields
  view_items (Items' m row) = view_item_row row

  pub view_item_row : {m : _} → Row_of-Item m → Fields
  view_item_row end_of-Item = no_fields
  view_item_row (more_of-Item k s rest) = view_item k s (view_item_row rest)

  pub view_item : ItemKind → Separator → Fields → Fields
  view_item (Positional' l k) s rest = positional (view_kind k l) s rest
  view_item (Named' n l k) s rest = named n (view_kind k l) s rest
  view_item (Keyed' l k l' k') s rest = keyed (view_kind k l) (view_kind k' l') s rest

abbrev pub view_exp : Exp → Expression
view_exp e = view_kind e.kind e.line

abbrev pub view_tree : Tree → Source
view_tree t = record { body = view_block t.body; last_line = t.last_line }
