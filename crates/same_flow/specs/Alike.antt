-- Serves the laws. Functions whose steps are alike: the same kinds of steps, with parts that make the same and say the same.
use Rattle.std.specs.Prelude.{◌≡◌, ℕ, Option, List, length, slice_get, None, Some}
use Rattle.lua_num.specs.Bytes.{Text}
use Rattle.lua_tree.specs.Outline as outline
use Rattle.lua_tree.specs.Outline.{Place, both, come, declares, expression_part, expressions_part, statements_part}
use Rattle.lua_tree.specs.Syntax.{Expressions, Statements}
use Rattle.recover_expr.specs.Drafts.{Part, statement_part, values_part, condition_part, head_part}
use Rattle.recover_expr.specs.Placing.{Steps}
use Rattle.recover_expr.specs.declared.steps.Step.{Step}
use Rattle.recover_expr.specs.declared.steps.StepKind.{StepKind}
use Rattle.scheme.specs.Functions.{Heading, function_from}
use Rattle.scheme.specs.Making.{Ahead}
use Rattle.scheme.specs.Scheme.{statements_made}
use Rattle.same_flow.specs.Performed.{kind_at, kind_made, part_at}
use Rattle.same_flow.specs.SameFlow.{AreLaid, HasPlainParts}
use Rattle.same_flow.specs.SameMarks.{but_breaks}
use Rattle.same_flow.specs.Told.{before_step}

-- ---- the levels of steps do not matter

-- of one kind, but for how many levels a negated test needs
abbrev pub IsKindLike : (kind other : StepKind) → Type 0
IsKindLike (StepKind.Test when target negated) other = (levels : ℕ) × (other ≡ StepKind.Test when target levels)
IsKindLike kind other = other ≡ kind

pub record IsStepLike (step other : Step) : Type 0 where
  pub kind : IsKindLike step.kind other.kind
  pub base : other.base ≡ step.base
  pub captured : other.captured ≡ step.captured

pub record AreStepsLike (steps others : List Step) : Type 0 where
  pub count : length others ≡ length steps
  pub each : (at : ℕ) (step : Step) → slice_get steps at ≡ Some step → (other : Step) × (slice_get others at ≡ Some other) × IsStepLike step other

-- or of one kind but for that and for the step that a CLOSE names
abbrev pub IsKindLoose : (kind other : StepKind) → Type 0
IsKindLoose (StepKind.Test when target negated) other = (levels : ℕ) × (other ≡ StepKind.Test when target levels)
IsKindLoose (StepKind.Close from declared) other = (name : Option ℕ) × (other ≡ StepKind.Close from name)
IsKindLoose kind other = other ≡ kind

pub record IsStepLoose (step other : Step) : Type 0 where
  pub kind : IsKindLoose step.kind other.kind
  pub base : other.base ≡ step.base
  pub captured : other.captured ≡ step.captured

pub record AreStepsLoose (steps others : List Step) : Type 0 where
  pub count : length others ≡ length steps
  pub each : (at : ℕ) (step : Step) → slice_get steps at ≡ Some step → (other : Step) × (slice_get others at ≡ Some other) × IsStepLoose step other

-- what stands on steps stands on steps that are like them, whatever their CLOSEs name
abbrev pub LaidOnLooseSteps : Type 0
LaidOnLooseSteps =
    (code : Steps) (others : List Step) → AreStepsLoose code.steps others → (params names : List Text) (ahead : Ahead) (block : Statements) → AreLaid code params names ahead block
    → AreLaid (record code { steps = others }) params names ahead block

-- what stands on steps stands on steps that are like them
abbrev pub LaidOnLikeSteps : Type 0
LaidOnLikeSteps =
    (code : Steps) (others : List Step) → AreStepsLike code.steps others → (params names : List Text) (ahead : Ahead) (block : Statements) → AreLaid code params names ahead block
    → AreLaid (record code { steps = others }) params names ahead block

-- ---- parts that make the same and say the same

-- what they declare and mention is the same anywhere, breaks aside
pub record SaysLike (one other : outline.Part) : Type 0 where
  pub marks : (place : Place) → but_breaks (one place).marks ≡ but_breaks (other place).marks
  pub next : (place : Place) → (one place).next ≡ (other place).next

-- the head of a loop
abbrev pub heads : List Text → Expressions → outline.Part
heads names es place = both (declares 1 3 names) (both (expressions_part es) (come 3 names place.declarations)) place

-- two parts that a step of this kind may have
abbrev pub SayLike : StepKind → (one two : Part) → Type 0
SayLike StepKind.Act (statement_part s) (statement_part t) = SaysLike (outline.statement_part 1 s) (outline.statement_part 1 t)
SayLike (StepKind.Declaration end captured) (statement_part s) (statement_part t) = SaysLike (outline.statement_part 1 s) (outline.statement_part 1 t)
SayLike StepKind.Return (values_part es) (values_part others) = SaysLike (expressions_part es) (expressions_part others)
SayLike (StepKind.Test when target negated) (condition_part e) (condition_part other) = SaysLike (expression_part e) (expression_part other)
SayLike (StepKind.Head numeric foot end variables_end captured) (head_part es names) (head_part others texts) = SaysLike (heads names es) (heads texts others)
SayLike (StepKind.Jump target) one two = Unit {0}
SayLike (StepKind.Close from declared) one two = Unit {0}
SayLike (StepKind.Foot numeric target) one two = Unit {0}
SayLike kind one two = ⊥

-- the same steps, with parts that make the same where they stand, and say the same anywhere
pub record ArePartsLike (code other : Steps) (params names : List Text) (ahead : Ahead) : Type 0 where
  pub steps : other.steps ≡ code.steps
  pub count : length other.parts ≡ length code.parts
  pub make : (at : ℕ) (kind : StepKind) (one two : Part) → kind_at code.steps at ≡ Some kind → part_at code at ≡ Some one → part_at other at ≡ Some two
      → kind_made code kind one (before_step code params names ahead at) ≡ kind_made other kind two (before_step code params names ahead at)
  pub say : (at : ℕ) (kind : StepKind) (one two : Part) → kind_at code.steps at ≡ Some kind → part_at code at ≡ Some one → part_at other at ≡ Some two → SayLike kind one two

-- blocks on such steps make the same function
abbrev pub SameOnLikeParts : Type 0
SameOnLikeParts =
    (code other : Steps) (params names : List Text) (ahead : Ahead) → HasPlainParts code → HasPlainParts other → ArePartsLike code other params names ahead → (block found : Statements) → AreLaid code params names ahead block → AreLaid other params names ahead found
    → (heading : Heading) → function_from heading 1 params (statements_made block None) names ahead ≡ function_from heading 1 params (statements_made found None) names ahead

-- and declare and mention the same
abbrev pub MarksOnLikeParts : Type 0
MarksOnLikeParts =
    (code other : Steps) (params names : List Text) (ahead : Ahead) → ArePartsLike code other params names ahead → (block found : Statements) → AreLaid code params names ahead block → AreLaid other params names ahead found
    → (place : Place)
    → (but_breaks (statements_part block place).marks ≡ but_breaks (statements_part found place).marks)
    × ((statements_part block place).next.declarations ≡ (statements_part found place).next.declarations)
    × ((statements_part block place).next.functions ≡ (statements_part found place).next.functions)
