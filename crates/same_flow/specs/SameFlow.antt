-- Serves the laws. Statements that stand on the same steps are the same function.
use Rattle.std.specs.Prelude.{◌≡◌, ℕ, true, List, length, None, Some}
use Rattle.lua_num.specs.Bytes.{Text}
use Rattle.lua_tree.specs.Syntax.{Statements}
use Rattle.recover_expr.specs.Drafts.{Part, nothing_part, statement_part, values_part, condition_part, head_part}
use Rattle.recover_expr.specs.Placing.{Steps}
use Rattle.scheme.specs.Functions.{Heading, empty_maker, function_from, with_params}
use Rattle.scheme.specs.Making.{Ahead, Maker}
use Rattle.scheme.specs.Scheme.{statements_made}
use Rattle.scheme.specs.Shapes.{plain_statement, plain_values}
use Rattle.same_flow.specs.Laid.{BodyLaid}
use Rattle.same_flow.specs.Performed.{part_at}
use Rattle.same_flow.specs.Renaming.{IsOneStep, IsTested}

-- no part of the source that stands in a step has `and`, `or` or a comparison as a value
abbrev pub IsPlainPart : Part → Type 0
IsPlainPart nothing_part = Unit {0}
IsPlainPart (statement_part s) = IsOneStep s × (plain_statement s ≡ true)
IsPlainPart (values_part es) = plain_values es ≡ true
IsPlainPart (condition_part e) = IsTested e
IsPlainPart (head_part es names) = plain_values es ≡ true

abbrev pub HasPlainParts : Steps → Type 0
HasPlainParts code = (at : ℕ) (part : Part) → part_at code at ≡ Some part → IsPlainPart part

-- a function of which its parameters are made
abbrev pub begun_of : (params names : List Text) → Ahead → Maker
begun_of params names ahead = with_params params (empty_maker ahead names)

-- the statements of a function stand on all steps
abbrev pub AreLaid : Steps → (params names : List Text) → Ahead → Statements → Type 0
AreLaid code params names ahead block = BodyLaid code None (length code.steps) block None (begun_of params names ahead) 0 (length code.steps)

abbrev pub SameFlow : Type 0
SameFlow =
    (code : Steps) → HasPlainParts code → (params names : List Text) (ahead : Ahead) (block other : Statements) → AreLaid code params names ahead block → AreLaid code params names ahead other
    → (heading : Heading) → function_from heading 1 params (statements_made block None) names ahead ≡ function_from heading 1 params (statements_made other None) names ahead
