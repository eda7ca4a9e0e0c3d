-- A function statement stands, makes and mentions what its assignment does.
use Rattle.std.proofs.Common.{◌≡◌, ℕ, Bool, true, false, List, [], ◌∷◌, Option, Some, None, refl, sym, ap, ap₂, ◌∙◌, subst}
use Rattle.std.specs.Prelude.{is_some}
use Rattle.lua_num.specs.Bytes.{Text}
use Rattle.lua_tree.specs.Outline.{Part, both, body_part, expression_part, path_part, statement_part}
use Rattle.lua_tree.specs.Syntax.{Expression, FunctionBody, Statement, field_expression, function_body, function_expression, function_statement, name_expression}
use Rattle.lua_tree.specs.WellFormed.{formed_statement}
use Rattle.scheme.specs.Expressions.{Coded, coded_field}
use Rattle.scheme.specs.Functions.{coded_function, Inner}
use Rattle.scheme.specs.Making.{Maker}
use Rattle.scheme.specs.Scheme.{coded, inner, statement_made}
use Rattle.scheme.specs.Statements.{Loop, assign_part, path_from, with_method}
use Rattle.scheme.specs.declared.making.Active.{Active}
use Rattle.scheme_stands.specs.Expressions.{Rel}
use Rattle.scheme_stands.specs.Functions.{rel_function, Step}
use Rattle.scheme_stands.specs.Relation.{FunctionOf, StatementAt, related}
use Rattle.scheme_stands.specs.Statements.{AssignAt, LoopAt, StaysAt, rel_fields, rel_method, rel_path}
use Rattle.scheme_stands.specs.Words.{Fn, Spot}
use Rattle.reads_back.specs.Assignments.{as_assignment, fields_behind, path_target, with_method_name, with_self}
use Rattle.reads_back.proofs.Marks.{SameWalk, both_walk, nothing_walk, walk_then}
use Rattle.reads_back.proofs.Paths.{assign_same, coded_fields}
use Rattle.reads_back.proofs.Tests.{not_so}

-- ---- it stands

fields_related : (g : Fn) (on : Expression) (texts : List Text) → related g (fields_behind on texts) ≡ rel_fields g (related g on) texts
fields_related g on [] = refl
fields_related g on (text ∷ texts) = fields_related g (field_expression 1 on text) texts

method_related : (g : Fn) (on : Expression) (method : Option Text) → related g (with_method_name on method) ≡ rel_method g (related g on) method
method_related g on None = refl
method_related g on (Some text) = refl

pub path_related : (g : Fn) (name : Text) (names : List Text) (method : Option Text) → related g (path_target (name ∷ names) method) ≡ rel_method g (rel_path g (name ∷ names)) method
path_related g name names method = method_related g _ method ∙ ap (λ (on : Rel). rel_method g on method) (fields_related g (name_expression 1 name) names)

-- `self` is among the parameters
pub self_related : (g : Fn) (method : Bool) (body : FunctionBody) → related g (function_expression 1 (with_self method body)) ≡ rel_function g (FunctionOf body method)
self_related g true (function_body params vararg block first last) = refl
self_related g false body = refl

statement_stands : (g : Fn) (loop : Option LoopAt) (s : Statement) → formed_statement s ≡ true → StatementAt g loop s ≡ StatementAt g loop (as_assignment s)
statement_stands g loop (function_statement [] method body) formed = absurd (not_so formed)
statement_stands g loop (function_statement (name ∷ names) method body) formed =
    sym (ap₂ (λ (target value : Rel). StaysAt (AssignAt g (target ∷ []) (value ∷ []))) (path_related g name names method) (self_related g (is_some method) body))
statement_stands g loop s formed = refl

pub assigned_stands : (g : Fn) (s : Statement) → formed_statement s ≡ true → (active behind : List Active) (from to : Spot) → StatementAt g None s active behind from to → StatementAt g None (as_assignment s) active behind from to
assigned_stands g s formed active behind from to stands = subst (λ (step : Step). step active behind from to) (statement_stands g None s formed) stands

-- ---- it is made

fields_themselves : (on : Expression) (texts : List Text) → (coded on).e ≡ on → (coded (fields_behind on texts)).e ≡ fields_behind on texts
fields_themselves on [] itself = itself
fields_themselves on (text ∷ texts) itself = fields_themselves (field_expression 1 on text) texts refl

method_coded : (on : Expression) (method : Option Text) → (coded on).e ≡ on → coded (with_method_name on method) ≡ with_method 1 (coded on) method
method_coded on None itself = refl
method_coded on (Some text) itself = ap (λ (e : Expression). coded_field 1 (field_expression 1 e text) (coded on) text) (sym itself)

path_coded : (name : Text) (names : List Text) (method : Option Text) → coded (path_target (name ∷ names) method) ≡ with_method 1 (path_from 1 (name ∷ names)) method
path_coded name names method =
    method_coded (fields_behind (name_expression 1 name) names) method (fields_themselves (name_expression 1 name) names refl)
    ∙ ap (λ (on : Coded). with_method 1 on method) (coded_fields (name_expression 1 name) names refl)

inner_self : (method : Bool) (body : FunctionBody) → inner (with_self method body) false ≡ inner body method
inner_self true (function_body params vararg block first last) = refl
inner_self false body = refl

made_same : (s : Statement) (line : ℕ) (loop : Option Loop) (m : Maker) → formed_statement s ≡ true → line ≡ 1 → statement_made (as_assignment s) line loop m ≡ statement_made s line loop m
made_same (function_statement [] method body) line loop m formed first = not_so formed
made_same (function_statement (name ∷ names) method body) line loop m formed first =
    let own = with_self (is_some method) body in
    let path = with_method 1 (path_from 1 (name ∷ names)) method in
    ap (λ (line : ℕ). statement_made (as_assignment (function_statement (name ∷ names) method body)) line loop m) first
    ∙ ap₂ (λ (target : Coded) (made : Inner). assign_part 1 (target ∷ []) (coded_function 1 own made ∷ []) m) (path_coded name names method) (inner_self (is_some method) body)
    ∙ assign_same path own body (inner body (is_some method)) m
    ∙ ap (λ (line : ℕ). statement_made (function_statement (name ∷ names) method body) line loop m) (sym first)
made_same s line loop m formed first = refl

pub assigned_makes : (s : Statement) (m : Maker) → formed_statement s ≡ true → statement_made s 1 None m ≡ statement_made (as_assignment s) 1 None m
assigned_makes s m formed = sym (made_same s 1 None m formed refl)

-- ---- it mentions the same

fields_part_same : (on : Expression) (texts : List Text) → expression_part (fields_behind on texts) ≡ expression_part on
fields_part_same on [] = refl
fields_part_same on (text ∷ texts) = fields_part_same (field_expression 1 on text) texts

method_part_same : (on : Expression) (method : Option Text) → expression_part (with_method_name on method) ≡ expression_part on
method_part_same on None = refl
method_part_same on (Some text) = refl

self_part : (method : Bool) (body : FunctionBody) → SameWalk (body_part false (with_self method body)) (body_part method body)
self_part true (function_body params vararg block first last) place = refl
self_part false body place = refl

path_mentioned : (name : Text) (names : List Text) (method : Option Text) → SameWalk (expression_part (path_target (name ∷ names) method)) (path_part 1 (name ∷ names))
path_mentioned name names method place = ap (λ (part : Part). part place) (method_part_same (fields_behind (name_expression 1 name) names) method ∙ fields_part_same (name_expression 1 name) names)

pub statement_part_same : (line : ℕ) (s : Statement) → formed_statement s ≡ true → line ≡ 1 → SameWalk (statement_part line (as_assignment s)) (statement_part line s)
statement_part_same line (function_statement [] method body) formed first place = not_so formed
statement_part_same line (function_statement (name ∷ names) method body) formed first place =
    both_walk (walk_then (nothing_walk _) (path_mentioned name names method)) (walk_then (nothing_walk _) (self_part (is_some method) body)) place
    ∙ ap (λ (line : ℕ). both (path_part line (name ∷ names)) (body_part (is_some method) body) place) (sym first)
statement_part_same line s formed first place = refl
