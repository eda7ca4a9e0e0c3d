-- Serves a body. What is recovered of a function, with those in it, and of a chunk; and why nothing is.
use Rattle.std.specs.Prelude.{◌≡◌, ◌⊎◌, ◌==◌, ◌≤◌, ◌<◌, ℕ, suc, not, Bool, true, false, List, [], ◌∷◌, Option, None, Some}
use Rattle.core_expr.specs.Values.{Inner}
use Rattle.lua_tree.specs.Syntax.{Statements, FunctionBody, function_body, Source}
use Rattle.lua_tree.specs.WellFormed.{WellFormed}
use Rattle.proto.specs.Chunk.{Chunk, Functions, function, no_functions, and_function, own}
use Rattle.recover_expr.specs.Drafts.{Part}
use Rattle.recover_expr.specs.Placing.{Steps}
use Rattle.recover_expr.specs.Reading.{read_steps}
use Rattle.recover_flow.specs.Built.{built_body}
use Rattle.recover_flow.specs.Debug.{LacksDebug}
use Rattle.recover_flow.specs.Held.{IsFewest, NoBody}
use Rattle.recover_flow.specs.Plans.{Plans, body_levels}
use Rattle.recover_flow.specs.Searching.{whole_body}
use Rattle.recover_flow.specs.Standing.{BodyStands}
use Rattle.recover_flow.specs.declared.function.Stop.{Stop}
use Rattle.recover_flow.specs.declared.lost.Lost.{Lost}
use Rattle.recover_flow.specs.declared.recovering.Failure.{Failure}

-- ---- a function

-- it takes further arguments
abbrev pub is_vararg : Chunk → Bool
is_vararg chunk = not ((own chunk).flags == 0)

-- with the functions in it: its words are read as steps, a body stands in these, in the forms of fewest levels one of the fewest, and it is built of their parts
pub record IsFunctionFound (chunk : Chunk) (left : List (Option Inner)) (short : Bool) (found : Inner) : Type 0 where
  pub steps : Steps
  pub plans : Plans
  pub statements : Statements
  pub behind : List Part
  pub read : read_steps chunk left short ≡ Some steps
  pub stands : BodyStands steps.steps (whole_body steps.steps) plans
  pub fits : body_levels steps.steps plans ≤ 200
  pub built : built_body plans steps.parts ≡ Some (statements, behind)
  pub body : found.body ≡ function_body steps.params (is_vararg chunk) statements 1 1
  pub levels : found.levels ≡ body_levels steps.steps plans
  pub fewest : short ≡ true → IsFewest steps.steps (whole_body steps.steps) found.levels

-- ---- why none is recovered

abbrev pub IsUnread : Chunk → List (Option Inner) → (short : Bool) → Type 0
IsUnread chunk left short = read_steps chunk left short ≡ None

-- each body that stands in its steps needs more levels than a tree may have
abbrev pub StandsNowhere : Steps → Type 0
StandsNowhere steps = NoBody steps.steps (whole_body steps.steps) 200

-- one stands there, and is not built
abbrev pub IsUnbuilt : Steps → Type 0
IsUnbuilt steps =
    (plans : Plans) × BodyStands steps.steps (whole_body steps.steps) plans × (body_levels steps.steps plans ≤ 200) × (built_body plans steps.parts ≡ None)

abbrev pub IsUnrecovered : Chunk → List (Option Inner) → (short : Bool) → Type 0
IsUnrecovered chunk left short = IsUnread chunk left short ⊎ ((steps : Steps) × (read_steps chunk left short ≡ Some steps) × (StandsNowhere steps ⊎ IsUnbuilt steps))

-- a function is not recovered only there, or where memory is wanting
abbrev pub IsRefusedOnlyWhere : Chunk → List (Option Inner) → (short : Bool) → Stop → Type 0
IsRefusedOnlyWhere chunk left short (Stop.At pc reason) = IsUnrecovered chunk left short
IsRefusedOnlyWhere chunk left short Stop.OutOfMemory = Unit {0}

-- ---- a function and those in it

-- each is found behind those in it, and they are left to it by their numbers
abbrev mutual
  pub IsFound : (short : Bool) → Chunk → Inner → Type 0
  IsFound short (function f inner) found = (left : List (Option Inner)) × AreFound short inner left × IsFunctionFound (function f inner) left short found

  pub AreFound : (short : Bool) → Functions → List (Option Inner) → Type 0
  AreFound short no_functions left = left ≡ []
  AreFound short (and_function c rest) left = (found : Inner) × (others : List (Option Inner)) × IsFound short c found × AreFound short rest others × (left ≡ Some found ∷ others)

-- a function that stands so deep in others is lost: it stands too deep, one of those in it is lost, or it is not recovered where these are found
abbrev mutual
  pub IsLost : (short : Bool) → (depth : ℕ) → Chunk → Type 0
  IsLost short depth (function f inner) =
      (200 < depth) ⊎ (IsOneLost short (suc depth) inner ⊎ ((left : List (Option Inner)) × AreFound short inner left × IsUnrecovered (function f inner) left short))

  pub IsOneLost : (short : Bool) → (depth : ℕ) → Functions → Type 0
  IsOneLost short depth no_functions = ⊥
  IsOneLost short depth (and_function c rest) = IsLost short depth c ⊎ IsOneLost short depth rest

abbrev pub IsFailedOnlyWhere : (lost : Type 0) → Failure → Type 0
IsFailedOnlyWhere lost (Failure.At path pc reason) = lost
IsFailedOnlyWhere lost Failure.OutOfMemory = Unit {0}

-- ---- a chunk

-- its function in natural forms, or in those of fewest levels where it is lost in these
abbrev pub IsMainFound : Chunk → Inner → Type 0
IsMainFound chunk found = IsFound false chunk found ⊎ (IsLost false 0 chunk × IsFound true chunk found)

-- the source with the block of a function
abbrev pub main_of : FunctionBody → Source
main_of (function_body params vararg block first last) = record { body = block; last_line = 1 }

pub record IsSourceFound (chunk : Chunk) (source : Source) : Type 0 where
  pub found : Inner
  pub function : IsMainFound chunk found
  pub is_main : source ≡ main_of found.body

-- it is lost in either forms, or the source that is found is not well formed
abbrev pub IsSourceless : Chunk → Type 0
IsSourceless chunk = (IsLost false 0 chunk × IsLost true 0 chunk) ⊎ ((source : Source) × IsSourceFound chunk source × (WellFormed source → ⊥))

-- its source is lost only there, or where it does not tell enough, or where memory is wanting
abbrev pub IsLostOnlyWhere : Chunk → Lost → Type 0
IsLostOnlyWhere chunk (Lost.NoDebug path) = LacksDebug chunk path
IsLostOnlyWhere chunk (Lost.At path pc reason) = IsSourceless chunk
IsLostOnlyWhere chunk Lost.OutOfMemory = Unit {0}
