-- Serves the laws. What is written of a step: it keeps the rules of form, and its step has levels enough for it, and no more than the source has room for.
use Rattle.std.specs.Prelude.{◌≡◌, ◌≤◌, ℕ, suc, true, false, slice_get, Some}
use Rattle.lua_tree.specs.Names.{are_some_names}
use Rattle.lua_tree.specs.Syntax.{Expression, binary_expression}
use Rattle.lua_tree.specs.WellFormed.{depth_of_expression, depth_of_expressions, depth_of_statement, ends_block, formed_expression, formed_expressions, formed_statement, has_expressions}
use Rattle.lua_tree.specs.declared.tree.BinaryOp.{BinaryOp}
use Rattle.recover_expr.specs.Drafts.{Part, statement_part, values_part, condition_part, head_part}
use Rattle.recover_expr.specs.Placing.{Steps}
use Rattle.recover_expr.specs.Testing.{negated_levels}
use Rattle.recover_expr.specs.declared.steps.Step.{Step}
use Rattle.recover_expr.specs.declared.steps.StepKind.{StepKind}
use Rattle.same_flow.specs.Performed.{part_at}
use Rattle.same_flow.specs.Space.{space_of_expression, space_of_expressions, space_of_statement}
use Rattle.same_flow.specs.Told.{PartFits}

-- each step has a part of its kind
abbrev pub HaveParts : Steps → Type 0
HaveParts code = (at : ℕ) (step : Step) → slice_get code.steps at ≡ Some step → (part : Part) × (part_at code at ≡ Some part) × PartFits step.kind part

-- what is tested with `==` stands on line 1, as what is built with `~=` in its place does
abbrev pub ComparedOnOne : Steps → Type 0
ComparedOnOne code = (at line : ℕ) (left right : Expression) → slice_get code.parts at ≡ Some (condition_part (binary_expression line BinaryOp.Eq left right)) → line ≡ 1

-- ---- the rules of form

-- a part that keeps the rules of form, and does not end a block but as a `return`
abbrev pub IsPartFormed : Part → Type 0
IsPartFormed (statement_part s) = (formed_statement s ≡ true) × (ends_block s ≡ false)
IsPartFormed (values_part es) = formed_expressions es ≡ true
IsPartFormed (condition_part e) = formed_expression e ≡ true
IsPartFormed (head_part es names) = (are_some_names names ≡ true) × (has_expressions es ≡ true) × (formed_expressions es ≡ true)
IsPartFormed part = Unit {0}

abbrev pub ArePartsFormed : Steps → Type 0
ArePartsFormed code = (at : ℕ) (part : Part) → part_at code at ≡ Some part → IsPartFormed part

-- ---- how deep it is

-- a step has levels enough for its part, and a test has those that its negation needs
abbrev pub IsPartDeep : (levels : ℕ) → StepKind → Part → Type 0
IsPartDeep levels (StepKind.Test when target negated) (condition_part e) = (depth_of_expression e ≤ levels) × (negated ≡ negated_levels e levels)
IsPartDeep levels kind (statement_part s) = suc (depth_of_statement s) ≤ levels
IsPartDeep levels kind (values_part es) = suc (depth_of_expressions es) ≤ levels
IsPartDeep levels kind (head_part es names) = suc (depth_of_expressions es) ≤ levels
IsPartDeep levels kind part = Unit {0}

abbrev pub ArePartsDeep : Steps → Type 0
ArePartsDeep code = (at : ℕ) (step : Step) (part : Part) → slice_get code.steps at ≡ Some step → part_at code at ≡ Some part → IsPartDeep step.levels step.kind part

-- ---- steps that need no more levels than what they have of the source takes

-- what is tested with `==` may be written with `~=`
abbrev pub NegatedInRoom : (negated : ℕ) → Expression → Type 0
NegatedInRoom negated (binary_expression line BinaryOp.Eq left right) = negated ≤ space_of_expression (binary_expression line BinaryOp.Eq left right)
NegatedInRoom negated e = Unit {0}

abbrev pub KindInRoom : (levels : ℕ) → StepKind → Part → Type 0
KindInRoom levels (StepKind.Test when target negated) (condition_part e) = (levels ≤ space_of_expression e) × NegatedInRoom negated e
KindInRoom levels kind (statement_part s) = levels ≤ suc (space_of_statement s)
KindInRoom levels kind (values_part es) = levels ≤ suc (space_of_expressions es)
KindInRoom levels kind (head_part es names) = levels ≤ suc (space_of_expressions es)
KindInRoom levels kind part = Unit {0}

abbrev pub AreInRoom : Steps → Type 0
AreInRoom code = (at : ℕ) (step : Step) (part : Part) → slice_get code.steps at ≡ Some step → part_at code at ≡ Some part → KindInRoom step.levels step.kind part
