-- Serves the laws. Functions whose statements may have blocks, and so in each function that stands in one.
use Rattle.std.specs.Prelude.{◌≡◌, ℕ, zero, suc, true, false}
use Rattle.lua_tree.specs.Syntax.{FunctionBody, function_body, Expression, binary_expression}
use Rattle.recover_expr.specs.Drafts.{Part, nothing_part, statement_part, values_part, condition_part, head_part}
use Rattle.same_flow.specs.Blocks.{StatementsHold}
use Rattle.scheme_order.specs.Ordered.{ordered_block}
use Rattle.reads_back.specs.Straight.{AllHaveCoresBy, HasCoreBy, IsStraightStatementBy}

-- what is tested: two values that are compared, or one value
abbrev pub IsFlowLeafBy : (FunctionBody → Type 0) → Expression → Type 0
IsFlowLeafBy P (binary_expression line op left right) = HasCoreBy P left × HasCoreBy P right
IsFlowLeafBy P e = HasCoreBy P e

-- the parts of statements with blocks: statements without blocks, values, and what is tested in conditions
abbrev pub IsFlowPartBy : (FunctionBody → Type 0) → Part → Type 0
IsFlowPartBy P nothing_part = Unit {0}
IsFlowPartBy P (statement_part s) = IsStraightStatementBy P s
IsFlowPartBy P (values_part es) = AllHaveCoresBy P es
IsFlowPartBy P (condition_part e) = IsFlowLeafBy P e
IsFlowPartBy P (head_part es names) = AllHaveCoresBy P es

-- a function with such a block, where no local that is compared changes places, and no more than so many stand in one another
abbrev pub IsFlowBody : (deep : ℕ) → FunctionBody → Type 0
IsFlowBody zero body = ⊥
IsFlowBody (suc deep) (function_body params vararg block first last) = StatementsHold (IsFlowPartBy (IsFlowBody deep)) false block × (ordered_block params block ≡ true)
