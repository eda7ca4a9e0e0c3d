-- Serves the law. What is known of the parts of a block on one line whose chunk is read.
use Rattle.std.specs.Prelude.{◌≡◌, ◌<◌, ◌≤◌, ◌+◌, ◌*◌, ℕ, Bool, true, false, List, Option, None, Some}
use Rattle.lua_num.specs.Bytes.{Text}
use Rattle.lua_tree.specs.OneLine.{one_line_statements}
use Rattle.lua_tree.specs.Outline.{Place, body_part, statements_part}
use Rattle.lua_tree.specs.Syntax.{FunctionBody, Statements}
use Rattle.lua_tree.specs.WellFormed.{depth_of_body, depth_of_statements, formed_statements}
use Rattle.core_expr.specs.Values.{Inner}
use Rattle.proto.specs.Chunk.{Chunk, own}
use Rattle.recover_expr.specs.Drafts.{Part, nothing_part, statement_part, values_part, condition_part, head_part}
use Rattle.recover_expr.specs.Placing.{Steps}
use Rattle.recover_expr.specs.Reading.{read_steps}
use Rattle.recover_flow.specs.Built.{built_body}
use Rattle.recover_flow.specs.Plans.{Plans, body_levels}
use Rattle.recover_flow.specs.Searching.{whole_body}
use Rattle.recover_flow.specs.Standing.{BodyStands}
use Rattle.scheme.specs.Functions.{Heading, function_from}
use Rattle.scheme.specs.Making.{Ahead}
use Rattle.scheme.specs.Scheme.{inner, statements_made}
use Rattle.scheme.specs.Shapes.{plain_statements}
use Rattle.same_flow.specs.Written.{AreInRoom, IsPartFormed}
use Rattle.same_flow.specs.Blocks.{StatementsHold}
use Rattle.same_flow.specs.SameFlow.{AreLaid, IsPlainPart}
use Rattle.same_flow.specs.SameMarks.{but_breaks}
use Rattle.same_flow.specs.Space.{around_body, has_blocks, space_of_body, space_of_expression, space_of_expressions, space_of_statement, space_of_statements}
use Rattle.reads_back.specs.ReadAs.{IsTold}
use Rattle.scheme_order.specs.Ordered.{ordered_block}
use Rattle.reads_back.proofs.FlowThere.{IsFlowPart}
use Rattle.reads_back.proofs.Marks.{SamePart}
use Rattle.reads_back.proofs.WrittenFormed.{IsFineFunction}

-- it takes less room than so much
abbrev pub IsRoomyPart : (limit : ℕ) → Part → Type 0
IsRoomyPart limit nothing_part = Unit {0}
IsRoomyPart limit (statement_part s) = space_of_statement s < limit
IsRoomyPart limit (values_part es) = space_of_expressions es < limit
IsRoomyPart limit (condition_part e) = space_of_expression e < limit
IsRoomyPart limit (head_part es names) = space_of_expressions es < limit

-- a part of a function
pub record IsJoinedPart (limit : ℕ) (part : Part) : Type 0 where
  pub plain : IsPlainPart part
  pub flow : IsFlowPart part
  pub formed : IsPartFormed part
  pub roomy : IsRoomyPart limit part

-- the block of a function with these parameters
pub record IsJoined (params : List Text) (block : Statements) : Type 0 where
  pub again : one_line_statements block ≡ block
  pub formed : formed_statements block ≡ true
  pub parts : StatementsHold (IsJoinedPart (space_of_statements block)) false block
  pub ordered : ordered_block params block ≡ true
  pub room : around_body block (space_of_statements block) ≤ 200

-- ---- what is read of a function

-- another block is like one: it keeps the rules of form and is plain, makes the same function, and declares and mentions the same but for breaks
pub record IsLike (params names : List Text) (ahead : Ahead) (block written : Statements) : Type 0 where
  pub formed : formed_statements written ≡ true
  pub shallow : depth_of_statements written ≤ 200
  pub plain : plain_statements written ≡ true
  pub makes : (heading : Heading) → function_from heading 1 params (statements_made block None) names ahead ≡ function_from heading 1 params (statements_made written None) names ahead
  pub marks : (place : Place) → but_breaks (statements_part block place).marks ≡ but_breaks (statements_part written place).marks
  pub next : (place : Place)
      → ((statements_part block place).next.declarations ≡ (statements_part written place).next.declarations) × ((statements_part block place).next.functions ≡ (statements_part written place).next.functions)

-- its words are read as steps, each body that stands in them is built as a block like this, no deeper than the body, and in the forms of fewest levels one stands there that needs no more than the room of the block
pub record IsFlowRead (short : Bool) (chunk : Chunk) (left : List (Option Inner)) (params names : List Text) (ahead : Ahead) (block : Statements) : Type 0 where
  pub told : IsTold (own chunk)
  pub steps : Steps
  pub read : read_steps chunk left short ≡ Some steps
  pub each : (plans : Plans) → BodyStands steps.steps (whole_body steps.steps) plans → body_levels steps.steps plans ≤ 200
      → (written : Statements) × (behind : List Part) × (built_body plans steps.parts ≡ Some (written, behind)) × IsLike params names ahead block written × (depth_of_statements written ≤ body_levels steps.steps plans)
  pub stands : short ≡ true → (plans : Plans) × BodyStands steps.steps (whole_body steps.steps) plans × (body_levels steps.steps plans ≤ 200) × (body_levels steps.steps plans ≤ around_body block (space_of_statements block))

-- where the statements of a block have no blocks, a plan stands on its steps that needs no more levels than it has room for
abbrev pub BlocklessStand : Type 0
BlocklessStand =
    (code : Steps) (params names : List Text) (ahead : Ahead) (block : Statements) → AreLaid code params names ahead block → has_blocks block ≡ false → formed_statements block ≡ true → AreInRoom code →
    (plans : Plans) × BodyStands code.steps (whole_body code.steps) plans × (body_levels code.steps plans ≤ space_of_statements block)

-- what is found of a function stands for this body: it is formed, plain and no deeper than its levels, makes the same function, and declares and mentions the same but for breaks
pub record IsFoundAs (short : Bool) (body : FunctionBody) (method : Bool) (names : List Text) (before : Ahead) (found : Inner) : Type 0 where
  pub fine : IsFineFunction found
  pub same : inner found.body false names before ≡ inner body method names before
  pub few : found.levels ≤ 3 * depth_of_body body + 204
  -- in the forms of fewest levels they are no more than it has room for
  pub low : short ≡ true → found.levels ≤ space_of_body body
  pub part : SamePart (body_part false found.body) (body_part method body)
