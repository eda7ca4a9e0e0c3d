-- A statement and a block agree with the turned ones, where the trees in them do.
use Rattle.std.proofs.Common.{◌≡◌, ℕ, Bool, true, false, List, [], ◌∷◌, ◌++◌, length, ap, ap₂, ◌∙◌}
use Rattle.std.proofs.lemmas.Bool.{and_parts}
use Rattle.std.specs.Prelude.{Option, Some, None, is_some, ◌||◌}
use Rattle.lua_num.specs.Bytes.{Text}
use Rattle.lua_tree.specs.Outline.{all_params}
use Rattle.lua_tree.specs.Scoping.{Use}
use Rattle.lua_tree.specs.Syntax as syntax
use Rattle.lua_tree.specs.Syntax.{Statements, no_statements, Statement, assignment, call_statement, do_block, while_loop, repeat_loop, if_statement, numeric_for, generic_for, function_statement, local_function, local_statement, return_statement, break_statement, Branches, no_branches, branch, Otherwise, no_otherwise, otherwise, ForStep, no_step, by_step, FunctionBody, function_body, Expressions, no_expressions, Expression}
use Rattle.lua_tree.specs.WellFormed.{has_expressions, has_branches, may_follow, is_optional_name, is_target, are_targets, is_call, formed_statements, formed_statement, formed_branches, formed_step, formed_expressions, formed_expression}
use Rattle.lua_tree.specs.Names.{is_name as is_name_text, are_names, are_some_names}
use Rattle.opcode.specs.declared.op.Op.{Op}
use Rattle.scheme.specs.Making.{nothing}
use Rattle.scheme.specs.Expressions.{is_vararg, is_multiple, Coded}
use Rattle.scheme.specs.Statements.{Loop}
use Rattle.scheme.specs.Scheme.{statements_made, statement_made, branches_made, inner, all_coded}
use Rattle.scheme_order.specs.Turned.{with_declared, with_all_declared, turned_block, turned_statement, turned_branches, turned_body}
use Rattle.scheme_order.specs.Permuted.{PathUses}
use Rattle.scheme_order.proofs.Makers.{Names, and_then, Agree, bind, ◌then◌, no_part, loosely, same_label, same_place, uses}
use Rattle.scheme_order.proofs.Trees.{has_branch_same, has_otherwise_same}
use Rattle.scheme_order.proofs.Lists.{AllSame, all_none, all_more}
use Rattle.scheme_order.proofs.Functions.{SameInner, same_function, same_coded_function}
use Rattle.scheme_order.proofs.Statements.{same_block, same_settle, same_local, same_local_function, AllTargets, targets_none, targets_more, same_assign, same_path, same_while, same_repeat, same_arm, SameStep, same_no_step, same_by_step, same_numeric, same_generic, same_break, same_return}
use Rattle.scheme_order.proofs.Claims.{none_by, one_by, both_by, BlockAgrees, StatementAgrees, BranchesAgree, OtherwiseAgrees, StepAgrees, BodyAgrees, ExpressionAgrees, AllAgree}
use Rattle.scheme_order.proofs.Values.{coded_e}

-- ---- what is assigned to

-- each may be assigned to
abbrev AreTargets : List Coded → Type 0
AreTargets [] = Unit {0}
AreTargets (c ∷ cs) = (is_target c.e ≡ true) × AreTargets cs

-- what may be assigned to, by its parts too
are_coded : (es : Expressions) → are_targets es ≡ true → AreTargets (all_coded es)
are_coded no_expressions f = tt
are_coded (syntax.expression e rest) f = let parts = and_parts (is_target e) _ f in (ap is_target (coded_e e) ∙ parts.0, are_coded rest parts.1)

-- expressions that may be assigned to, as targets
all_targets_agree : {here there : Names} {cs ds : List Coded} → AllSame here there cs ds → AreTargets cs → AllTargets here there cs ds
all_targets_agree all_none is = targets_none
all_targets_agree (all_more s ss) is = targets_more (s.target is.0) (all_targets_agree ss is.1)

-- ---- statements

-- a statement and the turned one agree, with these names
abbrev StatementOf : (own : List Text) → Statement → (line : ℕ) → Option Loop → Names → Names → Type 0
StatementOf own s line loop here there = Agree false here there (statement_made s line loop) (statement_made (turned_statement own s) line loop)

-- an assignment
pub assignment_agrees : (own : List Text) (targets es : Expressions) → AllAgree own targets → AllAgree own es → StatementAgrees own (assignment targets es)
assignment_agrees own targets es p q here there f u line loop =
    let first = and_parts (are_targets targets) _ (and_parts (has_expressions targets) _ f).1 in
    let second = and_parts (formed_expressions targets) _ first.1 in
    let formed = (and_parts (has_expressions es) _ second.1).1 in
    both_by (StatementOf own (assignment targets es) line loop) here there u (λ one more again others v w.
    same_assign line (all_targets_agree (p one again second.0 v) (are_coded targets first.0)) (q more others formed w))

-- a call
pub call_statement_agrees : (own : List Text) (e : Expression) → ExpressionAgrees false own e → StatementAgrees own (call_statement e)
call_statement_agrees own e p here there f u line loop =
    let parts = and_parts (is_call e) _ f in
    loosely ((p here there parts.1 u).multi (ap is_multiple (coded_e e) ∙ ap (λ b. b || is_vararg e) parts.0) Op.Call (Some 0))

-- a `do` block
pub do_agrees : (own : List Text) (block : Statements) → BlockAgrees own block → StatementAgrees own (do_block block)
do_agrees own block p here there f u line loop = same_block line (p here there f u loop)

-- a `while` loop
pub while_agrees : (own : List Text) (e : Expression) (block : Statements) → ExpressionAgrees true own e → BlockAgrees own block → StatementAgrees own (while_loop e block)
while_agrees own e block p q here there f u line loop =
    let formed = and_parts (formed_expression e) _ f in
    both_by (StatementOf own (while_loop e block) line loop) here there u (λ one more again others v w.
    same_while line (p one again formed.0 v).parts (record { same = q more others formed.1 w }))

-- a `repeat` loop, whose test sees the locals of its block
pub repeat_agrees : (own : List Text) (block : Statements) (e : Expression) → BlockAgrees own block → ExpressionAgrees true (with_all_declared own block) e → StatementAgrees own (repeat_loop block e)
repeat_agrees own block e p q here there f u line loop =
    let formed = and_parts (formed_statements block) _ f in
    both_by (StatementOf own (repeat_loop block e) line loop) here there u (λ one more again others v w.
    same_repeat line (record { same = p one again formed.0 v }) (q more others formed.1 w).parts)

-- an `if`
pub if_agrees : (own : List Text) (branches : Branches) (last : Otherwise) → BranchesAgree own branches → OtherwiseAgrees own last → StatementAgrees own (if_statement branches last)
if_agrees own branches last p q here there f u line loop =
    let formed = and_parts (formed_branches branches) _ (and_parts (has_branches branches) _ f).1 in
    both_by (StatementOf own (if_statement branches last) line loop) here there u (λ one more again others v w.
    bind same_label (λ end. p one again formed.0 v line loop end _ _ (has_otherwise_same own last) then q more others formed.1 w line loop then same_place end))

-- a numeric `for` loop
pub numeric_agrees : (own : List Text) (text : Text) (first last : Expression) (step : ForStep) (block : Statements) → ExpressionAgrees false own first → ExpressionAgrees false own last →
    StepAgrees own step → BlockAgrees (text ∷ own) block →
    StatementAgrees own (numeric_for text first last step block)
numeric_agrees own text first last step block p q r s here there f u line loop =
    let one_formed = and_parts (formed_expression first) _ (and_parts (is_name_text text) _ f).1 in
    let two_formed = and_parts (formed_expression last) _ one_formed.1 in
    let formed = and_parts (formed_step step) _ two_formed.1 in
    let Whole = StatementOf own (numeric_for text first last step block) line loop in
    both_by Whole here there u (λ one more again others v w.
    both_by (λ h k. Whole (and_then (uses one) h) (and_then (uses again) k)) more others w (λ two rest second behind x y.
    both_by (λ h k. Whole (and_then (uses one) (and_then (uses two) h)) (and_then (uses again) (and_then (uses second) k))) rest behind y (λ three block_names third names z b.
    same_numeric line text (p one again one_formed.0 v).value (q two second two_formed.0 x).value (r three third formed.0 z) (record { same = s block_names names formed.1 b }))))

-- a generic `for` loop
pub generic_agrees : (own : List Text) (names : List Text) (es : Expressions) (block : Statements) → AllAgree own es → BlockAgrees (names ++ own) block →
    StatementAgrees own (generic_for names es block)
generic_agrees own names es block p q here there f u line loop =
    let formed = and_parts (formed_expressions es) _ (and_parts (has_expressions es) _ (and_parts (are_some_names names) _ f).1).1 in
    both_by (StatementOf own (generic_for names es block) line loop) here there u (λ one more again others v w.
    same_generic line names (p one again formed.0 v) (record { same = q more others formed.1 w }))

-- a function statement, whose path has one name
pub function_statement_agrees : (own : List Text) (path : List Text) (method : Option Text) (body : FunctionBody) → BodyAgrees (is_some method) body →
    StatementAgrees own (function_statement path method body)
function_statement_agrees own path method body p here there f u line loop =
    let formed = (and_parts (is_optional_name method) _ (and_parts (are_some_names path) _ f).1).1 in
    both_by (StatementOf own (function_statement path method body) line loop) here there u (λ one more again others v w.
    by path one again v (p more others formed w))
  where
    by : {more others : Names} (path : List Text) (one again : List Use) → PathUses path one again →
        SameInner more others (inner body (is_some method)) (inner (turned_body (is_some method) body) (is_some method)) →
        StatementOf own (function_statement path method body) line loop (and_then (uses one) more) (and_then (uses again) others)
    by [] one again v s = absurd v
    by {more} {others} (text ∷ path) one again v s =
        one_by (λ h k. StatementOf own (function_statement (text ∷ path) method body) line loop (and_then h more) (and_then k others)) one again v (λ meant.
        same_assign line (same_path line text path method meant) (all_more (same_coded_function line body (turned_body (is_some method) body) s) all_none))

-- a local function
pub local_function_agrees : (own : List Text) (text : Text) (body : FunctionBody) → BodyAgrees false body → StatementAgrees own (local_function text body)
local_function_agrees own text body p here there f u line loop = same_local_function line text (p here there (and_parts (is_name_text text) _ f).1 u)

-- a local statement
pub local_agrees : (own : List Text) (names : List Text) (es : Expressions) → AllAgree own es → StatementAgrees own (local_statement names es)
local_agrees own names es p here there f u line loop = same_local line names (p here there (and_parts (are_some_names names) _ f).1 u)

-- a `return`
pub return_agrees : (own : List Text) (es : Expressions) → AllAgree own es → StatementAgrees own (return_statement es)
return_agrees own es p here there f u line loop = same_return line (p here there f u)

-- a `break`
pub break_agrees : (own : List Text) → StatementAgrees own break_statement
break_agrees own here there f u line loop = none_by (StatementOf own break_statement line loop) here there u (same_break line loop)

-- ---- what statements hold

-- no branches
pub no_branches_agree : (own : List Text) → BranchesAgree own no_branches
no_branches_agree own here there f u line loop end follows goes_on e = none_by (λ h k. Agree false h k nothing nothing) here there u no_part

-- a branch and those that follow
pub branch_agrees : (own : List Text) (e : Expression) (block : Statements) (rest : Branches) → ExpressionAgrees true own e → BlockAgrees own block → BranchesAgree own rest →
    BranchesAgree own (branch e block rest)
branch_agrees own e block rest p q r here there f u line loop end follows goes_on is =
    let formed = and_parts (formed_expression e) _ f in
    let behind = and_parts (formed_statements block) _ formed.1 in
    let whole = branch e block rest in
    let Whole : Names → Names → Type 0 = λ h k. Agree false h k (branches_made whole line loop end follows) (branches_made (turned_branches own whole) line loop end goes_on) in
    both_by Whole here there u (λ one more again others v w.
    both_by (λ h k. Whole (and_then (uses one) h) (and_then (uses again) k)) more others w (λ two three second third x y.
    same_arm line end (ap₂ (λ b d. b || d) (has_branch_same own rest) is) (p one again formed.0 v).parts (q two second behind.0 x loop) then r three third behind.1 y line loop end follows goes_on is))

-- no `else`
pub no_otherwise_agrees : (own : List Text) → OtherwiseAgrees own no_otherwise
no_otherwise_agrees own here there f u line loop = none_by (λ h k. Agree false h k nothing nothing) here there u no_part

-- an `else`
pub otherwise_agrees : (own : List Text) (block : Statements) → BlockAgrees own block → OtherwiseAgrees own (otherwise block)
otherwise_agrees own block p here there f u line loop = same_block line (p here there f u loop)

-- no step
pub no_step_agrees : (own : List Text) → StepAgrees own no_step
no_step_agrees own here there f u = none_by (λ h k. SameStep h k None None) here there u same_no_step

-- a step
pub step_agrees : (own : List Text) (e : Expression) → ExpressionAgrees false own e → StepAgrees own (by_step e)
step_agrees own e p here there f u = same_by_step (p here there f u).value

-- the body of a function, whose own locals are its parameters at first
pub body_agrees : (method : Bool) (params : List Text) (vararg : Bool) (block : Statements) (first last : ℕ) → BlockAgrees (all_params method params) block →
    BodyAgrees method (function_body params vararg block first last)
body_agrees method params vararg block first last p here there f u =
    let names = all_params method params in
    same_function (record { source = None; first_line = first; last_line = last; params = length names; vararg = vararg }) last names (p here there (and_parts (are_names params) _ f).1 u None)

-- no statements
pub no_statements_agree : (own : List Text) → BlockAgrees own no_statements
no_statements_agree own here there f u loop = none_by (λ h k. Agree false h k nothing nothing) here there u no_part

-- a statement and those that follow
pub statement_agrees : (own : List Text) (line : ℕ) (semi : Bool) (s : Statement) (rest : Statements) → StatementAgrees own s → BlockAgrees (with_declared own s) rest →
    BlockAgrees own (syntax.statement line semi s rest)
statement_agrees own line semi s rest p q here there f u loop =
    let formed = and_parts (formed_statement s) _ f in
    let behind = (and_parts (may_follow s semi rest) _ formed.1).1 in
    let whole = syntax.statement line semi s rest in
    both_by (λ h k. Agree false h k (statements_made whole loop) (statements_made (turned_block own whole) loop)) here there u (λ one more again others v w.
    p one again formed.0 v line loop then same_settle then q more others behind w loop)
