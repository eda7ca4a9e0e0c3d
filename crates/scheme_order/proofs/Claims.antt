-- What is claimed of each kind of tree: that it agrees with the turned one, by the names of both.
use Rattle.std.proofs.Common.{◌≡◌, ℕ, Bool, true, false, List, sym, ap, subst₂}
use Rattle.std.specs.Prelude.{Option}
use Rattle.lua_num.specs.Bytes.{Text}
use Rattle.lua_tree.specs.Scoping.{Use}
use Rattle.lua_tree.specs.Syntax.{Statements, Statement, Branches, Otherwise, ForStep, FunctionBody, Expressions, Expression, Arguments, Fields}
use Rattle.lua_tree.specs.WellFormed.{formed_statements, formed_statement, formed_branches, formed_otherwise, formed_step, formed_body, formed_expressions, formed_expression, formed_arguments, formed_fields}
use Rattle.scheme.specs.Statements.{Loop}
use Rattle.scheme.specs.Scheme.{statements_made, statement_made, branches_made, otherwise_made, step_coded, inner, all_coded, coded, given, entries}
use Rattle.scheme_order.specs.Turned.{turned_block, turned_statement, turned_branches, turned_otherwise, turned_step, turned_body, turned_expression, turned_arguments, turned_values, turned_fields}
use Rattle.scheme_order.specs.Permuted.{Uses, NoUses, OneUse, BothUse, BlockUses, StatementUses, BranchesUse, OtherwiseUses, StepUses, BodyUses, ExpressionUses, ArgumentsUse, AllUse, FieldsUse}
use Rattle.scheme_order.proofs.Makers.{Names, no_names, one_name, and_then, Agree, uses, uses_joined}
use Rattle.scheme_order.proofs.Expressions.{Same}
use Rattle.scheme_order.proofs.Lists.{AllSame, SameGiven, SameEntries}
use Rattle.scheme_order.proofs.Functions.{SameInner}
use Rattle.scheme_order.proofs.Statements.{SameStep}

-- ---- by names

-- a claim of no names, and so of a tree that has none
pub none_by : (P : Names → Names → Type 0) (here there : List Use) → NoUses here there → P no_names no_names → P (uses here) (uses there)
none_by P here there u p = subst₂ P (sym (ap uses u.0)) (sym (ap uses u.1)) p

-- a claim of one name, and so of a tree that has one
pub one_by : (P : Names → Names → Type 0) (here there : List Use) → OneUse here there → ((meant : Use) → P (one_name meant) (one_name meant)) → P (uses here) (uses there)
one_by P here there u p = subst₂ P (sym (ap uses u.1)) (sym (ap uses u.2)) (p u.0)

-- a claim of the names of two parts, and so of a tree that has these parts
pub both_by : (P : Names → Names → Type 0) {First Second : Uses} (here there : List Use) → BothUse First Second here there →
    ((one more again others : List Use) → First one again → Second more others → P (and_then (uses one) (uses more)) (and_then (uses again) (uses others))) → P (uses here) (uses there)
both_by P here there u p =
    let (one, more, again, others, first, second, left, right) = u in
    subst₂ P (sym (uses_joined one more left)) (sym (uses_joined again others right)) (p one more again others first second)

-- ---- what is claimed

-- of a block
abbrev pub BlockAgrees : (own : List Text) → Statements → Type 0
BlockAgrees own block = (here there : List Use) → formed_statements block ≡ true → BlockUses own block here there → (loop : Option Loop) →
    Agree false (uses here) (uses there) (statements_made block loop) (statements_made (turned_block own block) loop)

-- of a statement
abbrev pub StatementAgrees : (own : List Text) → Statement → Type 0
StatementAgrees own s = (here there : List Use) → formed_statement s ≡ true → StatementUses own s here there → (line : ℕ) (loop : Option Loop) →
    Agree false (uses here) (uses there) (statement_made s line loop) (statement_made (turned_statement own s) line loop)

-- of the branches of an `if`
abbrev pub BranchesAgree : (own : List Text) → Branches → Type 0
BranchesAgree own branches = (here there : List Use) → formed_branches branches ≡ true → BranchesUse own branches here there →
    (line : ℕ) (loop : Option Loop) (end : ℕ) (follows goes_on : Bool) → follows ≡ goes_on →
    Agree false (uses here) (uses there) (branches_made branches line loop end follows) (branches_made (turned_branches own branches) line loop end goes_on)

-- of its `else`
abbrev pub OtherwiseAgrees : (own : List Text) → Otherwise → Type 0
OtherwiseAgrees own last = (here there : List Use) → formed_otherwise last ≡ true → OtherwiseUses own last here there → (line : ℕ) (loop : Option Loop) →
    Agree false (uses here) (uses there) (otherwise_made last line loop) (otherwise_made (turned_otherwise own last) line loop)

-- of the step of a loop
abbrev pub StepAgrees : (own : List Text) → ForStep → Type 0
StepAgrees own step = (here there : List Use) → formed_step step ≡ true → StepUses own step here there → SameStep (uses here) (uses there) (step_coded step) (step_coded (turned_step own step))

-- of the body of a function
abbrev pub BodyAgrees : (method : Bool) → FunctionBody → Type 0
BodyAgrees method body = (here there : List Use) → formed_body body ≡ true → BodyUses method body here there →
    SameInner (uses here) (uses there) (inner body method) (inner (turned_body method body) method)

-- of an expression
abbrev pub ExpressionAgrees : (tested : Bool) → (own : List Text) → Expression → Type 0
ExpressionAgrees tested own e = (here there : List Use) → formed_expression e ≡ true → ExpressionUses tested own e here there →
    Same (uses here) (uses there) (coded e) (coded (turned_expression tested own e))

-- of the arguments of a call
abbrev pub ArgumentsAgree : (own : List Text) → Arguments → Type 0
ArgumentsAgree own args = (here there : List Use) → formed_arguments args ≡ true → ArgumentsUse own args here there → (line : ℕ) →
    SameGiven (uses here) (uses there) (given args line) (given (turned_arguments own args) line)

-- of expressions
abbrev pub AllAgree : (own : List Text) → Expressions → Type 0
AllAgree own es = (here there : List Use) → formed_expressions es ≡ true → AllUse own es here there → AllSame (uses here) (uses there) (all_coded es) (all_coded (turned_values own es))

-- of the fields of a constructor
abbrev pub FieldsAgree : (own : List Text) → Fields → Type 0
FieldsAgree own fields = (here there : List Use) → formed_fields fields ≡ true → FieldsUse own fields here there →
    SameEntries (uses here) (uses there) (entries fields) (entries (turned_fields own fields))
