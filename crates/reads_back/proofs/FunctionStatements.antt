-- A function statement is the assignment of a function to its path.
use Rattle.std.proofs.Common.{◌≡◌, suc, ◌+◌, ◌≤◌, Bool, true, false, List, [], ◌∷◌, max, Option, Some, None, refl, arith}
use Rattle.std.specs.Prelude.{is_some, if◌then◌else◌}
use Rattle.lua_num.specs.Bytes.{Text}
use Rattle.lua_tree.specs.Names.{are_names, are_some_names, is_name}
use Rattle.lua_tree.specs.OneLine.{one_line_expression}
use Rattle.lua_tree.specs.Syntax as syntax
use Rattle.lua_tree.specs.Syntax.{Expression, Expressions, FunctionBody, Statement, assignment, field_expression, function_body, function_expression, function_statement, name_expression, no_expressions}
use Rattle.lua_tree.specs.WellFormed.{depth_of_body, depth_of_expression, depth_of_expressions, depth_of_statement, ends_block, formed_body, formed_expression, formed_statement, is_optional_name, is_prefix, is_target}
use Rattle.same_flow.specs.Space.{space_of_body, space_of_expression, space_of_expressions, space_of_statement}
use Rattle.reads_back.specs.Assignments.{as_assignment, fields_behind, path_target, with_method_name, with_self}
use Rattle.reads_back.specs.Acted.{is_path, lean_assignment, lean_depth}
use Rattle.reads_back.specs.Straight.{HasCoreBy, IsActBy, IsActTargetBy, IsStraightStatementBy}
use Rattle.reads_back.proofs.Rooms.{lean_room, lean_room_assignment}
use Rattle.reads_back.proofs.Tests.{both_hold, first_of_both, not_so, second_of_both}

-- ---- the path, as a target

-- a name with fields behind it, on one line
record IsChain (e : Expression) : Type 0 where
  target : is_target e ≡ true
  on_line : one_line_expression e ≡ e

name_is_chain : (text : Text) → IsChain (name_expression 1 text)
name_is_chain text = record { target = refl; on_line = refl }

field_is_chain : (on : Expression) (text : Text) → IsChain on → IsChain (field_expression 1 on text)
field_is_chain on text chain = record { target = refl; on_line = cc chain.on_line }

fields_are_chain : (on : Expression) (texts : List Text) → IsChain on → IsChain (fields_behind on texts)
fields_are_chain on [] chain = chain
fields_are_chain on (text ∷ texts) chain = fields_are_chain (field_expression 1 on text) texts (field_is_chain on text chain)

method_is_chain : (on : Expression) (method : Option Text) → IsChain on → IsChain (with_method_name on method)
method_is_chain on None chain = chain
method_is_chain on (Some text) chain = field_is_chain on text chain

path_is_chain : (name : Text) (names : List Text) (method : Option Text) → IsChain (path_target (name ∷ names) method)
path_is_chain name names method = method_is_chain _ method (fields_are_chain (name_expression 1 name) names (name_is_chain name))

-- where its names are names
record IsNamedChain (P : FunctionBody → Type 0) (e : Expression) : Type 0 where
  prefix : is_prefix e ≡ true
  formed : formed_expression e ≡ true
  path : is_path e ≡ true
  core : HasCoreBy P e
  target : IsActTargetBy P e

module _ (P : FunctionBody → Type 0) where
  name_is_named : (text : Text) → is_name text ≡ true → IsNamedChain P (name_expression 1 text)
  name_is_named text is = record { prefix = refl; formed = is; path = is; core = is; target = is }

  field_is_named : (on : Expression) (text : Text) → is_name text ≡ true → IsNamedChain P on → IsNamedChain P (field_expression 1 on text)
  field_is_named on text is named = record { prefix = refl; formed = both_hold _ _ named.prefix (both_hold _ _ named.formed is); path = both_hold _ _ named.path is; core = named.core; target = named.core }

  fields_are_named : (on : Expression) (texts : List Text) → are_names texts ≡ true → IsNamedChain P on → IsNamedChain P (fields_behind on texts)
  fields_are_named on [] are named = named
  fields_are_named on (text ∷ texts) are named = fields_are_named (field_expression 1 on text) texts (second_of_both _ _ are) (field_is_named on text (first_of_both _ _ are) named)

  method_is_named : (on : Expression) (method : Option Text) → is_optional_name method ≡ true → IsNamedChain P on → IsNamedChain P (with_method_name on method)
  method_is_named on None is named = named
  method_is_named on (Some text) is named = field_is_named on text is named

  path_is_named : (name : Text) (names : List Text) (method : Option Text) → are_some_names (name ∷ names) ≡ true → is_optional_name method ≡ true → IsNamedChain P (path_target (name ∷ names) method)
  path_is_named name names method are is = method_is_named _ method is (fields_are_named (name_expression 1 name) names (second_of_both _ _ are) (name_is_named name (first_of_both _ _ are)))

-- ---- the function

self_formed : (method : Bool) (body : FunctionBody) → formed_body body ≡ true → formed_body (with_self method body) ≡ true
self_formed true (function_body params vararg block first last) formed = formed
self_formed false body formed = formed

self_deep : (method : Bool) (body : FunctionBody) → depth_of_body (with_self method body) ≡ depth_of_body body
self_deep true (function_body params vararg block first last) = refl
self_deep false body = refl

self_room : (method : Bool) (body : FunctionBody) → space_of_body (with_self method body) ≡ space_of_body body
self_room true (function_body params vararg block first last) = refl
self_room false body = refl

-- ---- it is an act

pub statement_is_act : (P : FunctionBody → Type 0) (s : Statement) → IsStraightStatementBy P s → formed_statement s ≡ true → IsActBy P (as_assignment s)
statement_is_act P (function_statement [] method body) is formed = not_so formed
statement_is_act P (function_statement (name ∷ names) method body) is formed =
    let behind = second_of_both (are_some_names (name ∷ names)) _ formed in
    let named = path_is_named P name names method (first_of_both _ _ formed) (first_of_both _ _ behind) in
    record { some = refl; targets = (named.target, tt); given = refl; values = (is, tt) }
statement_is_act P s is formed = is

-- ---- it is well formed

pub assigned_formed : (s : Statement) → formed_statement s ≡ true → formed_statement (as_assignment s) ≡ true
assigned_formed (function_statement [] method body) formed = not_so formed
assigned_formed (function_statement (name ∷ names) method body) formed =
    let behind = second_of_both (are_some_names (name ∷ names)) _ formed in
    let named = path_is_named (λ body. Unit {0}) name names method (first_of_both _ _ formed) (first_of_both _ _ behind) in
    both_hold _ _ (both_hold _ _ (path_is_chain name names method).target refl)
    (both_hold _ _ (both_hold _ _ named.formed refl) (both_hold _ _ (self_formed (is_some method) body (second_of_both (is_optional_name method) _ behind)) refl))
assigned_formed s formed = formed

pub same_ends : (s : Statement) → ends_block (as_assignment s) ≡ ends_block s
same_ends (function_statement path method body) = refl
same_ends s = refl

-- ---- it is on one line

pub path_on_line : (path : List Text) (method : Option Text) → one_line_expression (path_target path method) ≡ path_target path method
path_on_line [] method = refl
path_on_line (name ∷ names) method = (path_is_chain name names method).on_line

-- ---- an assignment is no deeper where its path does not count

pub lean_is_less : (targets es : Expressions) → lean_assignment targets es ≤ max (depth_of_expressions targets) (depth_of_expressions es)
lean_is_less (syntax.expression target no_expressions) (syntax.expression (function_expression line body) no_expressions) = by (is_path target)
  where
    by : (path : Bool) → (if path then suc (depth_of_body body) else max (depth_of_expression target) (suc (depth_of_body body))) ≤ max (max (depth_of_expression target) 0) (max (1 + depth_of_body body) 0)
    by true = omega arith
    by false = omega arith
lean_is_less targets es = omega arith

-- so it is no deeper than the statement
pub assigned_shallow : (s : Statement) → formed_statement s ≡ true → lean_depth (as_assignment s) ≤ depth_of_statement s
assigned_shallow (function_statement [] method body) formed = not_so formed
assigned_shallow (function_statement (name ∷ names) method body) formed =
    let behind = second_of_both (are_some_names (name ∷ names)) _ formed in
    let named = path_is_named (λ body. Unit {0}) name names method (first_of_both _ _ formed) (first_of_both _ _ behind) in
    by (is_path (path_target (name ∷ names) method)) named.path
  where
    inside : FunctionBody
    inside = with_self (is_some method) body

    by : (path : Bool) → path ≡ true → (if path then suc (depth_of_body inside) else max (depth_of_expression (path_target (name ∷ names) method)) (suc (depth_of_body inside))) ≤ 1 + depth_of_body body
    by true is = omega (arith, self_deep (is_some method) body)
    by false is = not_so is
assigned_shallow (assignment targets es) formed = lean_is_less targets es
assigned_shallow s formed = omega arith

-- ---- and it has as much room

lean_room_less : (targets es : Expressions) → lean_room_assignment targets es ≤ max (space_of_expressions targets) (space_of_expressions es)
lean_room_less (syntax.expression target no_expressions) (syntax.expression (function_expression line body) no_expressions) = by (is_path target)
  where
    by : (path : Bool) → (if path then suc (space_of_body body) else max (space_of_expression target) (suc (space_of_body body))) ≤ max (max (space_of_expression target) 0) (max (1 + space_of_body body) 0)
    by true = omega arith
    by false = omega arith
lean_room_less targets es = omega arith

pub assigned_roomy : (s : Statement) → formed_statement s ≡ true → lean_room (as_assignment s) ≤ space_of_statement s
assigned_roomy (function_statement [] method body) formed = not_so formed
assigned_roomy (function_statement (name ∷ names) method body) formed =
    let behind = second_of_both (are_some_names (name ∷ names)) _ formed in
    let named = path_is_named (λ body. Unit {0}) name names method (first_of_both _ _ formed) (first_of_both _ _ behind) in
    by (is_path (path_target (name ∷ names) method)) named.path
  where
    inside : FunctionBody
    inside = with_self (is_some method) body

    by : (path : Bool) → path ≡ true → (if path then suc (space_of_body inside) else max (space_of_expression (path_target (name ∷ names) method)) (suc (space_of_body inside))) ≤ 1 + space_of_body body
    by true is = omega (arith, self_room (is_some method) body)
    by false is = not_so is
assigned_roomy (assignment targets es) formed = lean_room_less targets es
assigned_roomy s formed = omega arith
