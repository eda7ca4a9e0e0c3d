-- The targets of an assignment where a path does not count to which a function goes alone: each target is a path, or it counts.
use Rattle.std.proofs.Common.{◌≡◌, ℕ, suc, ◌+◌, ◌≤◌, ◌⊎◌, max, Bool, true, false, refl, arith, inl, inr}
use Rattle.std.specs.Prelude.{if◌then◌else◌}
use Rattle.lua_tree.specs.Syntax as syntax
use Rattle.lua_tree.specs.Syntax.{Expression, Expressions, FunctionBody, function_expression, no_expressions}
use Rattle.lua_tree.specs.WellFormed.{depth_of_body, depth_of_expression, depth_of_expressions}
use Rattle.same_flow.specs.Space.{space_of_body, space_of_expression, space_of_expressions}
use Rattle.reads_back.specs.Acted.{is_path, lean_assignment}
use Rattle.reads_back.proofs.Rooms.{lean_room_assignment}

-- a function goes alone to one path
pub record IsLean (targets es : Expressions) : Type 0 where
  pub target : Expression
  pub line : ℕ
  pub body : FunctionBody
  pub one : targets ≡ syntax.expression target no_expressions
  pub alone : es ≡ syntax.expression (function_expression line body) no_expressions
  pub path : is_path target ≡ true

-- else all its parts count
pub lean_or : (targets es : Expressions) → IsLean targets es ⊎ (max (depth_of_expressions targets) (depth_of_expressions es) ≤ lean_assignment targets es)
lean_or (syntax.expression target no_expressions) (syntax.expression (function_expression line body) no_expressions) = by (is_path target) refl
  where
    by : (path : Bool) → is_path target ≡ path → IsLean (syntax.expression target no_expressions) (syntax.expression (function_expression line body) no_expressions)
        ⊎ (max (max (depth_of_expression target) 0) (max (1 + depth_of_body body) 0) ≤ (if path then suc (depth_of_body body) else max (depth_of_expression target) (suc (depth_of_body body))))
    by true is = inl (record { target = target; line = line; body = body; one = refl; alone = refl; path = is })
    by false is = inr (omega arith)
lean_or targets es = inr (omega arith)

-- ---- each target is a path, or this is known of it

abbrev pub IsPathOr : (Known : Expression → Type 0) → Expression → Type 0
IsPathOr Known e = (is_path e ≡ true) ⊎ Known e

abbrev pub ArePathsOr : (Known : Expression → Type 0) → Expressions → Type 0
ArePathsOr Known no_expressions = Unit {0}
ArePathsOr Known (syntax.expression e es) = IsPathOr Known e × ArePathsOr Known es

abbrev pub IsLow : (most : ℕ) → Expression → Type 0
IsLow most e = depth_of_expression e ≤ most

abbrev pub HasSpace : (most : ℕ) → Expression → Type 0
HasSpace most e = space_of_expression e ≤ most

all_low : (most : ℕ) (targets : Expressions) → depth_of_expressions targets ≤ most → ArePathsOr (IsLow most) targets
all_low most no_expressions low = tt
all_low most (syntax.expression e es) low = (inr (omega (arith, low)), all_low most es (omega (arith, low)))

all_spaced : (most : ℕ) (targets : Expressions) → space_of_expressions targets ≤ most → ArePathsOr (HasSpace most) targets
all_spaced most no_expressions low = tt
all_spaced most (syntax.expression e es) low = (inr (omega (arith, low)), all_spaced most es (omega (arith, low)))

-- it is so deep at most
pub targets_low : (most : ℕ) (targets es : Expressions) → lean_assignment targets es ≤ most → ArePathsOr (IsLow most) targets
targets_low most (syntax.expression target no_expressions) (syntax.expression (function_expression line body) no_expressions) low = (by (is_path target) refl low, tt)
  where
    by : (path : Bool) → is_path target ≡ path → (if path then suc (depth_of_body body) else max (depth_of_expression target) (suc (depth_of_body body))) ≤ most → IsPathOr (IsLow most) target
    by true is low = inl is
    by false is low = inr (omega (arith, low))
targets_low most targets es low = all_low most targets (omega (arith, low))

-- or has so much room
pub targets_spaced : (most : ℕ) (targets es : Expressions) → lean_room_assignment targets es ≤ most → ArePathsOr (HasSpace most) targets
targets_spaced most (syntax.expression target no_expressions) (syntax.expression (function_expression line body) no_expressions) low = (by (is_path target) refl low, tt)
  where
    by : (path : Bool) → is_path target ≡ path → (if path then suc (space_of_body body) else max (space_of_expression target) (suc (space_of_body body))) ≤ most → IsPathOr (HasSpace most) target
    by true is low = inl is
    by false is low = inr (omega (arith, low))
targets_spaced most targets es low = all_spaced most targets (omega (arith, low))
