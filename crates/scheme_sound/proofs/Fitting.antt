-- What must stand ahead for a tree: each name means a local that is active, an upvalue that is there or a global, and the upvalues of
-- each function are captured locals or upvalues. By recursion on the tree, with no maker.
use Rattle.std.proofs.Common.{◌≡◌, ◌<◌, ℕ, suc, Bool, true, false, List, [], ◌∷◌, length, cond, ◌++◌, drop}
use Rattle.std.specs.Prelude.{Some, is_some}
use Rattle.std.specs.List.{list_any}
use Rattle.lua_num.specs.Bytes.{Text}
use Rattle.lua_tree.specs.Syntax as syntax
use Rattle.lua_tree.specs.Syntax.{Expressions, no_expressions, Expression, vararg_expression, FunctionBody, function_expression, Statements, function_body, local_statement, local_function, nil_literal, true_literal, false_literal, number_literal, text_literal, name_expression, index_expression, field_expression, call_expression, method_call, and_expression, or_expression, binary_expression, unary_expression, constructor, parenthesized, if_statement, Branches, Otherwise, no_statements, Statement, assignment, call_statement, do_block, while_loop, repeat_loop, numeric_for, generic_for, function_statement, return_statement, break_statement, no_branches, branch, no_otherwise, otherwise, ForStep, no_step, by_step, Arguments, argument_list, text_argument, table_argument, Fields, no_fields, positional, named, keyed}
use Rattle.lua_tree.specs.Outline.{all_params}
use Rattle.lua_tree.specs.WellFormed.{is_target, is_call, has_expressions}
use Rattle.lua_tree.specs.Scoping.{global_use, local_use, upvalue_use, Use}
use Rattle.scheme.specs.Making.{Ahead, head_or, is_declaration}
use Rattle.scheme.specs.Functions.{without_sources}
use Rattle.scheme.specs.Statements.{generic_names, numeric_names}
use Rattle.scheme.specs.declared.making.Local.{Local}
use Rattle.scheme_sound.proofs.Ghosts.{captured_at}

-- ---- names and what functions capture

-- what a part of a tree stands in: the active locals, how many upvalues there are, and whether `...` may stand here
pub record Context : Type 0 where
  pub locals : List Local
  pub upvalues : ℕ
  pub vararg : Bool

-- what is ahead before a part of a tree, and what is ahead behind it
abbrev pub Fitting : Type 1
Fitting = Context → Ahead → Ahead → Type 0

-- the register of a declared local
abbrev pub place_of : (declaration : ℕ) → List Local → ℕ
place_of d [] = 0
place_of d (x ∷ xs) = cond (is_declaration d x) 0 (suc (place_of d xs))

-- what a name means is there
abbrev pub UseFits : Context → Use → Type 0
UseFits c (local_use d) = list_any (is_declaration d) c.locals ≡ true
UseFits c (upvalue_use slot) = slot < c.upvalues
UseFits c global_use = Unit {0}

-- what an upvalue of a function is in the function around it: a local that is captured, or an upvalue
abbrev pub CaptureFits : Context → Use → Type 0
CaptureFits c (local_use d) = (list_any (is_declaration d) c.locals ≡ true) × (captured_at c.locals (place_of d c.locals) ≡ true)
CaptureFits c (upvalue_use slot) = slot < c.upvalues
CaptureFits c global_use = ⊥

abbrev pub CapturesFit : Context → List Use → Type 0
CapturesFit c [] = Unit {0}
CapturesFit c (one ∷ uses) = CaptureFits c one × CapturesFit c uses

-- ---- parts of a tree

abbrev pub Nothing : Fitting
Nothing c a b = b ≡ a

-- the next name that is ahead means something that is there
pub record NameAt (c : Context) (a b : Ahead) : Type 0 where
  pub use_fits : UseFits c (head_or global_use a.names)
  pub passed : b ≡ record a { names = drop 1 a.names }

-- one part and another behind it
pub record Both (one two : Fitting) (c : Context) (a b : Ahead) : Type 0 where
  pub mid : Ahead
  pub first : one c a mid
  pub second : two c mid b

-- what names declare, and what is ahead of them
abbrev pub declared_ahead : List Text → Ahead → Ahead
declared_ahead [] a = a
declared_ahead (text ∷ texts) a = declared_ahead texts (record a { captures = drop 1 a.captures; declarations = suc a.declarations })

abbrev pub declared_locals : List Text → Ahead → List Local
declared_locals [] a = []
declared_locals (text ∷ texts) a = record { name = text; declaration = Some a.declarations; captured = head_or false a.captures } ∷ declared_locals texts (record a { captures = drop 1 a.captures; declarations = suc a.declarations })

abbrev pub more_locals : Context → List Local → Context
more_locals c xs = record c { locals = c.locals ++ xs }

-- ---- statements, with the locals behind them

abbrev pub FittingStep : Type 1
FittingStep = Context → List Local → Ahead → Ahead → Type 0

-- a statement that leaves the locals as they are
pub record Stays (part : Fitting) (c : Context) (after : List Local) (a b : Ahead) : Type 0 where
  pub stays : after ≡ c.locals
  pub part_fits : part c a b

pub record Then (first rest : FittingStep) (c : Context) (after : List Local) (a b : Ahead) : Type 0 where
  pub between : List Local
  pub mid : Ahead
  pub first_fits : first c between a mid
  pub rest_fits : rest (record c { locals = between }) after mid b

-- the locals of a block end with it
pub record Block (body : FittingStep) (c : Context) (a b : Ahead) : Type 0 where
  pub inner : List Local
  pub body_fits : body c inner a b

-- the condition of a `repeat` sees the locals of its block
pub record Until (body : FittingStep) (test : Fitting) (c : Context) (a b : Ahead) : Type 0 where
  pub inner : List Local
  pub mid : Ahead
  pub body_fits : body c inner a mid
  pub test_fits : test (record c { locals = inner }) mid b

-- variables are declared before the values of a loop, whose block sees hidden locals and these
pub record Looped (hidden : List Local) (names : List Text) (values : Fitting) (body : FittingStep) (c : Context) (a b : Ahead) : Type 0 where
  pub mid : Ahead
  pub inner : List Local
  pub values_fit : values c (declared_ahead names a) mid
  pub body_fits : body (more_locals c (hidden ++ declared_locals names a)) inner mid b

-- a function: its upvalues come from around it, and its own parameters and body
pub record Function (params : List Text) (vararg : Bool) (body : FittingStep) (c : Context) (a b : Ahead) : Type 0 where
  pub captures_fit : CapturesFit c (head_or [] a.sources)
  pub inner : List Local
  pub body_fits : body (record { locals = declared_locals params (without_sources a); upvalues = length (head_or [] a.sources); vararg = vararg }) inner (declared_ahead params (without_sources a)) b

-- a part of which something is known besides
pub record Checked (test : Type 0) (part : Fitting) (c : Context) (a b : Ahead) : Type 0 where
  pub checked : test
  pub part_fits : part c a b

-- ---- the tree

abbrev mutual
  pub StatementsFit : Statements → FittingStep
  StatementsFit no_statements = Stays Nothing
  StatementsFit (syntax.statement line semi s rest) = Then (StatementFits s) (StatementsFit rest)

  pub StatementFits : Statement → FittingStep
  StatementFits (assignment targets es) = Stays (Checked (has_expressions targets ≡ true) (Both (TargetsFit targets) (ExpressionsFit es)))
  StatementFits (call_statement e) = Stays (Checked (is_call e ≡ true) (ExpressionFits e))
  StatementFits (do_block block) = Stays (Block (StatementsFit block))
  StatementFits (while_loop test block) = Stays (Both (ExpressionFits test) (Block (StatementsFit block)))
  StatementFits (repeat_loop block test) = Stays (Until (StatementsFit block) (ExpressionFits test))
  StatementFits (if_statement branches last) = Stays (Both (BranchesFit branches) (OtherwiseFits last))
  StatementFits (numeric_for text first last step block) = Stays (Looped numeric_names (text ∷ []) (Both (ExpressionFits first) (Both (ExpressionFits last) (ForStepFits step))) (StatementsFit block))
  StatementFits (generic_for names es block) = Stays (Checked (0 < length names) (Looped generic_names names (ExpressionsFit es) (StatementsFit block)))
  StatementFits (function_statement [] method body) = λ c after a b. ⊥
  StatementFits (function_statement (text ∷ path) method body) = Stays (Both NameAt (BodyFits (is_some method) body))
  StatementFits (local_function text body) = λ c after a b. (after ≡ c.locals ++ declared_locals (text ∷ []) a) × BodyFits false body (more_locals c (declared_locals (text ∷ []) a)) (declared_ahead (text ∷ []) a) b
  StatementFits (local_statement names es) = λ c after a b. (0 < length names) × (after ≡ c.locals ++ declared_locals names a) × ExpressionsFit es c (declared_ahead names a) b
  StatementFits (return_statement es) = Stays (ExpressionsFit es)
  StatementFits break_statement = Stays Nothing

  pub BranchesFit : Branches → Fitting
  BranchesFit no_branches = Nothing
  BranchesFit (branch test block rest) = Both (ExpressionFits test) (Both (Block (StatementsFit block)) (BranchesFit rest))

  pub OtherwiseFits : Otherwise → Fitting
  OtherwiseFits no_otherwise = Nothing
  OtherwiseFits (otherwise block) = Block (StatementsFit block)

  pub ForStepFits : ForStep → Fitting
  ForStepFits no_step = Nothing
  ForStepFits (by_step e) = ExpressionFits e

  pub BodyFits : (method : Bool) → FunctionBody → Fitting
  BodyFits method (function_body params vararg block first last) = Function (all_params method params) vararg (StatementsFit block)

  pub TargetsFit : Expressions → Fitting
  TargetsFit no_expressions = Nothing
  TargetsFit (syntax.expression e rest) = Both (Checked (is_target e ≡ true) (ExpressionFits e)) (TargetsFit rest)

  pub ExpressionsFit : Expressions → Fitting
  ExpressionsFit no_expressions = Nothing
  ExpressionsFit (syntax.expression e rest) = Both (ExpressionFits e) (ExpressionsFit rest)

  pub ExpressionFits : Expression → Fitting
  ExpressionFits (nil_literal line) = Nothing
  ExpressionFits (true_literal line) = Nothing
  ExpressionFits (false_literal line) = Nothing
  ExpressionFits (vararg_expression line) = λ c a b. (c.vararg ≡ true) × (b ≡ a)
  ExpressionFits (number_literal line n) = Nothing
  ExpressionFits (text_literal line text) = Nothing
  ExpressionFits (name_expression line text) = NameAt
  ExpressionFits (function_expression line body) = BodyFits false body
  ExpressionFits (index_expression line on key) = Both (ExpressionFits on) (ExpressionFits key)
  ExpressionFits (field_expression line on text) = ExpressionFits on
  ExpressionFits (call_expression line on args on_line) = Both (ExpressionFits on) (ArgumentsFit args)
  ExpressionFits (method_call line on text args on_line) = Both (ExpressionFits on) (ArgumentsFit args)
  ExpressionFits (and_expression line left right) = Both (ExpressionFits left) (ExpressionFits right)
  ExpressionFits (or_expression line left right) = Both (ExpressionFits left) (ExpressionFits right)
  ExpressionFits (binary_expression line op left right) = Both (ExpressionFits left) (ExpressionFits right)
  ExpressionFits (unary_expression line op e) = ExpressionFits e
  ExpressionFits (constructor line fields) = FieldsFit fields
  ExpressionFits (parenthesized line e) = ExpressionFits e

  pub ArgumentsFit : Arguments → Fitting
  ArgumentsFit (argument_list es) = ExpressionsFit es
  ArgumentsFit (text_argument text) = Nothing
  ArgumentsFit (table_argument fields) = FieldsFit fields

  pub FieldsFit : Fields → Fitting
  FieldsFit no_fields = Nothing
  FieldsFit (positional e separator rest) = Both (ExpressionFits e) (FieldsFit rest)
  FieldsFit (named text e separator rest) = Both (ExpressionFits e) (FieldsFit rest)
  FieldsFit (keyed key e separator rest) = Both (Both (ExpressionFits key) (ExpressionFits e)) (FieldsFit rest)
