-- Serves the laws. Where the statements of a function that is being made stand among its steps (manual 2.4), by the numbers of the steps.
use Rattle.std.specs.Prelude.{◌≡◌, ◌⊎◌, ◌<◌, ◌≤◌, ◌||◌, not, ℕ, zero, suc, ◌+◌, Bool, true, false, List, [], ◌∷◌, length, slice_get, Option, None, Some, if◌then◌else◌}
use Rattle.std.specs.Bool.{beq}
use Rattle.lua_num.specs.Bytes.{Text}
use Rattle.lua_tree.specs.OneLine.{one_line_expression}
use Rattle.lua_tree.specs.Syntax as syntax
use Rattle.lua_tree.specs.Syntax.{Statements, no_statements, Statement, assignment, call_statement, do_block, while_loop, repeat_loop, if_statement, numeric_for, generic_for, function_statement, local_function, local_statement, return_statement, break_statement, Branches, no_branches, branch, Otherwise, no_otherwise, otherwise, ForStep, no_step, by_step, Expressions, no_expressions, expression, Expression, and_expression, or_expression, binary_expression, unary_expression, parenthesized}
use Rattle.lua_tree.specs.declared.tree.BinaryOp.{BinaryOp}
use Rattle.lua_tree.specs.declared.tree.UnaryOp.{UnaryOp}
use Rattle.proto.specs.declared.parts.Constant.{Constant}
use Rattle.recover_expr.specs.Drafts.{Part, statement_part, values_part, condition_part, head_part}
use Rattle.recover_expr.specs.Placing.{Steps}
use Rattle.recover_expr.specs.declared.steps.Step.{Step}
use Rattle.recover_expr.specs.declared.steps.StepKind.{StepKind}
use Rattle.scheme.specs.Expressions.{literal, is_true_constant, next_reg}
use Rattle.scheme.specs.Lists.{adjust}
use Rattle.scheme.specs.Making.{Maker, any_captured, captured_from, active_count, activate, declare, new_label, place, put, take_registers, used, jump_to}
use Rattle.scheme.specs.Scheme.{coded, all_coded, has_branch, has_otherwise, statement_made, statements_made, step_coded, branches_made}
use Rattle.scheme.specs.Statements.{Loop, arm_part, settle, step_part, numeric_names, generic_names}
use Rattle.scheme.specs.declared.making.Active.{Active}
use Rattle.scheme.specs.declared.making.Piece.{Piece}
use Rattle.opcode.specs.declared.op.Op.{Op}
use Rattle.same_flow.specs.Performed.{part_at}

-- ---- steps

-- one more than the highest register of a captured local, or 0, where so many registers are below these
abbrev pub highest_captured : (below : ℕ) → List Active → ℕ
highest_captured below [] = 0
highest_captured below (one ∷ others) = if any_captured (one ∷ others) then (if any_captured others then highest_captured (suc below) others else suc below) else 0

-- what a step tells of the locals that are active before it
pub record Tells (step : Step) (active : List Active) : Type 0 where
  pub base : step.base ≡ length active
  pub captured : step.captured ≡ highest_captured 0 active

-- a step of a kind
pub record IsStep (code : Steps) (active : List Active) (at : ℕ) (kind : StepKind) : Type 0 where
  pub step : Step
  pub there : slice_get code.steps at ≡ Some step
  pub is : step.kind ≡ kind
  pub tells : Tells step active

-- and with a part of the source
abbrev pub HasStep : Steps → List Active → (at : ℕ) → StepKind → Part → Type 0
HasStep code active at kind part = IsStep code active at kind × (part_at code at ≡ Some part)

-- some part stands there
abbrev pub HasKind : Steps → List Active → (at : ℕ) → StepKind → Type 0
HasKind code active at kind = (part : Part) × HasStep code active at kind part

abbrev pub IsJump : Steps → List Active → (at target : ℕ) → Type 0
IsJump code active at target = HasKind code active at (StepKind.Jump target)

-- the locals from a register on are closed
abbrev pub IsClose : Steps → List Active → (at register : ℕ) → Type 0
IsClose code active at register = (declared : Option ℕ) × HasKind code active at (StepKind.Close register declared)

-- ---- conditions: they go to a target where they have this truth, and else come to their end

-- `~=` is tested as `==`
abbrev pub IsNegated : (tested e : Expression) → Type 0
IsNegated (binary_expression line BinaryOp.Eq left right) e = (line ≡ 1) × (e ≡ binary_expression 1 BinaryOp.Ne left right)
IsNegated tested e = ⊥

abbrev pub IsSaid : (e : Expression) → (sense : Bool) → (tested : Expression) → (when : Bool) → Type 0
IsSaid e sense tested when = ((tested ≡ e) × (when ≡ sense)) ⊎ (IsNegated tested e × (when ≡ not sense))

abbrev pub LeafLaid : Steps → List Active → Expression → (sense : Bool) → (target from to : ℕ) → Type 0
LeafLaid code active e sense target from to =
    (when : Bool) × (levels : ℕ) × (tested : Expression) × HasStep code active from (StepKind.Test when target levels) (condition_part tested) × IsSaid e sense tested when × (to ≡ suc from)

-- a literal jumps where it has this truth, and is no step where it has the other
abbrev pub LiteralLaid : Steps → List Active → (jumps : Bool) → (target from to : ℕ) → Type 0
LiteralLaid code active true target from to = IsJump code active from target × (to ≡ suc from)
LiteralLaid code active false target from to = to ≡ from

-- it is on line 1
abbrev pub AloneLaid : Steps → List Active → Option Constant → Expression → (sense : Bool) → (target from to : ℕ) → Type 0
AloneLaid code active (Some k) e sense target from to = (one_line_expression e ≡ e) × LiteralLaid code active (beq sense (is_true_constant k)) target from to
AloneLaid code active None e sense target from to = LeafLaid code active e sense target from to

abbrev pub TestLaid : Steps → List Active → Expression → (sense : Bool) → (target from to : ℕ) → Type 0
TestLaid code active (and_expression line left right) sense target from to =
    (mid : ℕ) × (from ≤ mid) × (mid ≤ to) × TestLaid code active left false (if sense then to else target) from mid × TestLaid code active right sense target mid to
TestLaid code active (or_expression line left right) sense target from to =
    (mid : ℕ) × (from ≤ mid) × (mid ≤ to) × TestLaid code active left true (if sense then target else to) from mid × TestLaid code active right sense target mid to
TestLaid code active (unary_expression line UnaryOp.Not e) sense target from to = TestLaid code active e (not sense) target from to
TestLaid code active (parenthesized line e) sense target from to = TestLaid code active e sense target from to
TestLaid code active e sense target from to = AloneLaid code active (literal e) e sense target from to

-- ---- blocks

-- a loop around: the place behind it, and how many locals are active before it
pub record Exit : Type 0 where
  pub place : ℕ
  pub locals : ℕ

-- a jump out of the loop, behind a CLOSE where a local of it is captured
abbrev pub LeavesTo : Steps → Option Exit → Maker → (from to : ℕ) → Type 0
LeavesTo code None m from to = ⊥
LeavesTo code (Some exit) m from to =
    ((captured_from exit.locals m ≡ false) × IsJump code m.active from exit.place × (to ≡ suc from))
    ⊎ ((captured_from exit.locals m ≡ true) × IsClose code m.active from exit.locals × IsJump code m.active (suc from) exit.place × (to ≡ suc (suc from)))

-- a block whose own locals are those from the n-th on, of which one is captured or not at its end: where they end, and how far its statements go, is asked of these
abbrev pub IsBlock : Steps → List Active → (n : ℕ) → (captured : Bool) → (laid : (ends end : ℕ) → Type 0) → (from to : ℕ) → Type 0
IsBlock code active n false laid from to = laid to to
IsBlock code active n true laid from to = (end : ℕ) × (to ≡ suc end) × (from ≤ end) × IsClose code active end n × laid end end

-- ---- a function that is being made, before the block of a statement

abbrev pub label_of : Maker → ℕ
label_of m = length m.labels

-- with so many new labels
abbrev pub with_new_labels : (count : ℕ) → Maker → Maker
with_new_labels zero m = m
with_new_labels (suc count) m = with_new_labels count (new_label m).after

-- a `while` has a label for its exit, and one for its start
abbrev pub while_begun : Expression → Maker → Maker
while_begun e m = (coded e).jump_if false (label_of m) (place (suc (label_of m)) (with_new_labels 2 m))

abbrev pub repeat_begun : Maker → Maker
repeat_begun m = place (suc (label_of m)) (with_new_labels 2 m)

abbrev pub arm_begun : Expression → Maker → Maker
arm_begun e m = (coded e).jump_if false (label_of m) (with_new_labels 1 m)

abbrev pub loop_of : Maker → Option Loop
loop_of m = Some (record { exit = label_of m; before = active_count m })

-- of a `for`, whose labels are made behind its values
abbrev pub for_loop_of : (before : ℕ) → Maker → Option Loop
for_loop_of before m = Some (record { exit = suc (suc (label_of m)); before = before })

abbrev pub numeric_valued : (line : ℕ) → Text → (first last : Expression) → ForStep → Maker → Maker
numeric_valued line text first last by m = activate numeric_names (step_part line (step_coded by) (next_reg (coded last) (next_reg (coded first) (declare (text ∷ []) m).after)))

abbrev pub numeric_begun : (line : ℕ) → Text → (first last : Expression) → ForStep → Maker → Maker
numeric_begun line text first last by m =
    let valued = numeric_valued line text first last by m in
    let variables = (declare (text ∷ []) m).value in
    take_registers (length variables) (activate variables (place (label_of valued) (put line (Piece.Jump Op.ForPrep m.free (suc (label_of valued))) (with_new_labels 3 valued))))

abbrev pub generic_valued : (line : ℕ) → List Text → Expressions → Maker → Maker
generic_valued line names es m = activate generic_names (adjust line (all_coded es) 3 (declare names m).after)

abbrev pub generic_begun : (line : ℕ) → List Text → Expressions → Maker → Maker
generic_begun line names es m =
    let valued = generic_valued line names es m in
    let variables = (declare names m).value in
    take_registers (length variables) (activate variables (used (m.free + 6) (place (label_of valued) (jump_to line (suc (label_of valued)) (with_new_labels 3 valued)))))

abbrev pub head_values : (first last : Expression) → ForStep → Expressions
head_values first last no_step = expression first (expression last no_expressions)
head_values first last (by_step by) = expression first (expression last (expression by no_expressions))

-- ---- statements

-- an act
abbrev pub ActLaid : Steps → Maker → Statement → (from to : ℕ) → Type 0
ActLaid code m s from to = HasStep code m.active from StepKind.Act (statement_part s) × (to ≡ suc from)

-- a declaration of locals that end there, of which one is captured or not
abbrev pub DeclarationLaid : Steps → Maker → (ends : ℕ) → Statement → (from to : ℕ) → Type 0
DeclarationLaid code m ends s from to = HasStep code m.active from (StepKind.Declaration ends (captured_from (active_count m) (statement_made s 1 None m))) (statement_part s) × (to ≡ suc from)

-- the variables of a `for`, from the register n on, end before its foot, behind a CLOSE where one is captured
abbrev pub VariablesEnd : Steps → List Active → (n : ℕ) → (captured : Bool) → (end foot : ℕ) → Type 0
VariablesEnd code active n false end foot = foot ≡ end
VariablesEnd code active n true end foot = (foot ≡ suc end) × IsClose code active end n

-- A `for`: its head, its block up to the end of its variables, and its foot. The active locals: before it, with the hidden ones, and with the variables.
abbrev pub IsFor : Steps → (numeric : Bool) → Part → (active hidden : List Active) → (n : ℕ) → (captured : Bool) → (block : (from to : ℕ) → Type 0) → (from to : ℕ) → Type 0
IsFor code numeric part active hidden n captured block from to =
    (foot : ℕ) × (variables_end : ℕ) × HasStep code active from (StepKind.Head numeric foot to variables_end captured) part
    × (from < variables_end) × block (suc from) variables_end
    × VariablesEnd code hidden (n + 3) captured variables_end foot × HasKind code hidden foot (StepKind.Foot numeric (suc from)) × (to ≡ suc foot)

-- the end of an arm: where something stands behind it, a jump to the end of the `if`
abbrev pub ArmEnds : Steps → List Active → (more : Bool) → (last end next : ℕ) → Type 0
ArmEnds code active true last end next = IsJump code active last end × (next ≡ suc last)
ArmEnds code active false last end next = next ≡ last

abbrev pub exit_to : (to : ℕ) → Maker → Option Exit
exit_to to m = Some (record { place = to; locals = active_count m })

abbrev mutual
  -- statements, where the block's own locals end at a place
  pub BodyLaid : Steps → Option Exit → (ends : ℕ) → Statements → Option Loop → Maker → (from to : ℕ) → Type 0
  BodyLaid code exit ends no_statements loop m from to = to ≡ from
  BodyLaid code exit ends (syntax.statement line semi s rest) loop m from to =
      (line ≡ 1) × (mid : ℕ) × (from ≤ mid) × (mid ≤ to) × StatementLaid code exit ends s loop m from mid × BodyLaid code exit ends rest loop (settle (statement_made s 1 loop m)) mid to

  pub StatementLaid : Steps → Option Exit → (ends : ℕ) → Statement → Option Loop → Maker → (from to : ℕ) → Type 0
  StatementLaid code exit ends (assignment targets es) loop m from to = ActLaid code m (assignment targets es) from to
  StatementLaid code exit ends (call_statement e) loop m from to = ActLaid code m (call_statement e) from to
  StatementLaid code exit ends (function_statement path method body) loop m from to = ActLaid code m (function_statement path method body) from to
  StatementLaid code exit ends (local_function name body) loop m from to = DeclarationLaid code m ends (local_function name body) from to
  StatementLaid code exit ends (local_statement names es) loop m from to = DeclarationLaid code m ends (local_statement names es) from to
  StatementLaid code exit ends (return_statement es) loop m from to = HasStep code m.active from StepKind.Return (values_part es) × (to ≡ suc from)
  StatementLaid code exit ends break_statement loop m from to = LeavesTo code exit m from to
  StatementLaid code exit ends (do_block block) loop m from to =
      IsBlock code m.active (active_count m) (captured_from (active_count m) (statements_made block loop m)) (λ ends end. BodyLaid code exit ends block loop m from end) from to
  StatementLaid code exit ends (while_loop e block) loop m from to =
      let begun = while_begun e m in
      (start : ℕ) × (back : ℕ) × (from ≤ start) × (start ≤ back) × TestLaid code m.active e false to from start
      × IsBlock code m.active (active_count m) (captured_from (active_count m) (statements_made block (loop_of m) begun)) (λ ends end. BodyLaid code (exit_to to m) ends block (loop_of m) begun start end) start back
      × IsJump code m.active back from × (to ≡ suc back)
  StatementLaid code exit ends (repeat_loop block e) loop m from to =
      let begun = repeat_begun m in
      let inside = statements_made block (loop_of m) begun in
      (start : ℕ) × (from ≤ start)
      × (((captured_from (active_count m) inside ≡ false) × (start ≤ to) × BodyLaid code (exit_to to m) to block (loop_of m) begun from start × TestLaid code inside.active e false from start to)
      ⊎ ((captured_from (active_count m) inside ≡ true) × (tested : ℕ) × (start ≤ tested) × BodyLaid code (exit_to to m) (tested + 2) block (loop_of m) begun from start
      × TestLaid code inside.active e false (tested + 2) start tested × IsClose code inside.active tested (active_count m) × IsJump code inside.active (tested + 1) to
      × IsClose code m.active (tested + 2) (active_count m) × IsJump code m.active (tested + 3) from × (to ≡ tested + 4)))
  StatementLaid code exit ends (if_statement branches last) loop m from to =
      (else_from : ℕ) × (from ≤ else_from) × (else_from ≤ to) × BranchesLaid code exit branches (has_otherwise last) (label_of m) to loop (with_new_labels 1 m) from else_from
      × OtherwiseLaid code exit last loop (branches_made branches 1 loop (label_of m) (has_otherwise last) (with_new_labels 1 m)) else_from to
  StatementLaid code exit ends (numeric_for name first last by block) loop m from to =
      let valued = numeric_valued 1 name first last by m in
      let begun = numeric_begun 1 name first last by m in
      let loop = for_loop_of (active_count m) valued in
      IsFor code true (head_part (head_values first last by) (name ∷ [])) m.active valued.active (active_count m) (captured_from (active_count m + 3) begun)
      (λ from to'. IsBlock code begun.active (active_count begun) (captured_from (active_count begun) (statements_made block loop begun)) (λ ends end. BodyLaid code (exit_to to m) ends block loop begun from end) from to') from to
  StatementLaid code exit ends (generic_for names es block) loop m from to =
      let valued = generic_valued 1 names es m in
      let begun = generic_begun 1 names es m in
      let loop = for_loop_of (active_count m) valued in
      IsFor code false (head_part es names) m.active valued.active (active_count m) (captured_from (active_count m + 3) begun)
      (λ from to'. IsBlock code begun.active (active_count begun) (captured_from (active_count begun) (statements_made block loop begun)) (λ ends end. BodyLaid code (exit_to to m) ends block loop begun from end) from to') from to

  -- the arms of an `if` that ends at a place, which has this label; where something stands behind one, it jumps to the end
  pub BranchesLaid : Steps → Option Exit → Branches → (more : Bool) → (label end : ℕ) → Option Loop → Maker → (from to : ℕ) → Type 0
  BranchesLaid code exit no_branches more label end loop m from to = to ≡ from
  BranchesLaid code exit (branch e block rest) more label end loop m from to =
      let begun = arm_begun e m in
      (start : ℕ) × (last : ℕ) × (next : ℕ) × (from ≤ start) × (start ≤ last) × (next ≤ to) × TestLaid code m.active e false next from start
      × IsBlock code m.active (active_count m) (captured_from (active_count m) (statements_made block loop begun)) (λ ends stop. BodyLaid code exit ends block loop begun start stop) start last
      × ArmEnds code m.active (has_branch rest || more) last end next
      × BranchesLaid code exit rest more label end loop (arm_part 1 label (has_branch rest || more) (coded e) (statements_made block loop) m) next to

  pub OtherwiseLaid : Steps → Option Exit → Otherwise → Option Loop → Maker → (from to : ℕ) → Type 0
  OtherwiseLaid code exit no_otherwise loop m from to = to ≡ from
  OtherwiseLaid code exit (otherwise block) loop m from to =
      IsBlock code m.active (active_count m) (captured_from (active_count m) (statements_made block loop m)) (λ ends end. BodyLaid code exit ends block loop m from end) from to
