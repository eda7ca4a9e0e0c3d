-- A function statement is the assignment of one value to the target of its path.
use Rattle.std.proofs.Common.{◌≡◌, ◌≤◌, ℕ, suc, ◌+◌, ◌*◌, List, [], ◌∷◌, ◌++◌, length, Option, Some, None, refl, sym, ap, ◌∙◌, subst, arith, length-append}
use Rattle.std.specs.Prelude.{is_some}
use Rattle.lua_tree.specs.Syntax.{Expressions, Expression, function_statement, FunctionBody, function_body, function_expression, field_expression, name_expression}
use Rattle.lua_num.specs.Bytes.{Text}
use Rattle.scheme.specs.Expressions.{Target}
use Rattle.scheme.specs.declared.making.Active.{Active}
use Rattle.source_meaning.specs.State.{goes}
use Rattle.source_meaning.specs.Meaning.{execute, assign, goes_on_at, path_from, path_target, as_method, single}
use Rattle.scheme_stands.specs.Words.{Fn, Spot}
use Rattle.scheme_stands.specs.Expressions.{Rel, OperandBy, local_at, rel_field}
use Rattle.scheme_stands.specs.Functions.{rel_function}
use Rattle.scheme_stands.specs.Statements.{rel_fields, rel_path, rel_method, AssignAt}
use Rattle.scheme_stands.specs.Relation.{related, all_related, FunctionOf}
use Rattle.agrees.proofs.LocalsBegin.{stays_on}
use Rattle.agrees.proofs.Tasks.{Simulates, scope, StatementBy, Does}
use Rattle.agrees.proofs.Posts.{FlowPost, fail_of}
use Rattle.agrees.proofs.Accounts.{Now, Self, Goes, goes_done, goes_then, goes_weaken}
use Rattle.agrees.proofs.Sizes.{inner, inner_function, inner_list, inner_targets, inner_statement, call_cost}
use Rattle.agrees.proofs.Picture.{code_of, Act, Setup, at}
use Rattle.agrees.proofs.AssignWords.{StoredPost}
use Rattle.agrees.proofs.AssignStatement.{assign_core}

fields_is : (f : Fn) (e : Expression) (names : List Text) → rel_fields f (related f e) names ≡ related f (path_from 0 e names)
fields_is f e [] = refl
fields_is f e (name ∷ names) = fields_is f (field_expression 0 e name) names

fields_last : (f : Fn) (c : Rel) (names : List Text) (m : Text) → rel_field f (rel_fields f c names) m ≡ rel_fields f c (names ++ m ∷ [])
fields_last f c [] m = refl
fields_last f c (name ∷ names) m = fields_last f (rel_field f c name) names m

pub path_is : (f : Fn) (name : Text) (names : List Text) (method : Option Text) → rel_method f (rel_path f (name ∷ names)) method ≡ related f (path_target (name ∷ names) method)
path_is f name names None = fields_is f (name_expression 0 name) names
path_is f name names (Some m) = fields_last f (related f (name_expression 0 name)) names m ∙ fields_is f (name_expression 0 name) (names ++ m ∷ [])

pub body_is : (f : Fn) (method : Option Text) (body : FunctionBody) → rel_function f (FunctionOf body (is_some method)) ≡ related f (function_expression 0 (as_method method body))
body_is f method (function_body params vararg block first last) = refl

size_path : (e : Expression) (names : List Text) → inner (path_from 0 e names) ≡ inner e + length names * suc call_cost
size_path e [] = omega arith
size_path e (name ∷ names) = let h = size_path (field_expression 0 e name) names in omega (arith, h)

size_target : (name : Text) (names : List Text) (method : Option Text) → inner (path_target (name ∷ names) method) ≤ suc (length names) * suc call_cost
size_target name names None = let h = size_path (name_expression 0 name) names in omega (arith, h)
size_target name names (Some m) = let h = size_path (name_expression 0 name) (names ++ m ∷ []) in let l = ap (λ i. i * suc call_cost) (length-append names (m ∷ [])) in omega (arith, h, l)

size_function : (method : Option Text) (body : FunctionBody) → inner_function (as_method method body) ≡ inner_function body
size_function method (function_body params vararg block first last) = refl

size_all : (name : Text) (names : List Text) (method : Option Text) (body : FunctionBody) → inner_targets (single (path_target (name ∷ names) method)) + inner_list (single (function_expression 0 (as_method method body))) ≤ inner_statement (function_statement (name ∷ names) method body)
size_all name names method body = let a = size_target name names method in let b = size_function method body in omega (arith, a, b)

-- a path has a name
pub path_named : (z : Setup) (a : Act) (method : Option Text) (free : ℕ) (d : Target) (free1 : ℕ) (p q : Spot) → (rel_method (code_of a) (rel_path (code_of a) []) method).target a.active free d free1 p q → ⊥
path_named z a None free d free1 p q w = w
path_named z a (Some m) free d free1 p q w = by (local_at (rel_path (code_of a) []).form a.active p) w.on_at
  where
    by : (l : Option ℕ) → OperandBy l (code_of a) a.active (rel_path (code_of a) []) free w.t w.free1 p w.mid → ⊥
    by (Some r) t = t.passed
    by None t = t.value_at

-- the words of a function statement are those of the assignment
pub as_assign : (f : Fn) (name : Text) (names : List Text) (method : Option Text) (body : FunctionBody) (active : List Active) (p q : Spot) → AssignAt f (rel_method f (rel_path f (name ∷ names)) method ∷ []) (rel_function f (FunctionOf body (is_some method)) ∷ []) active p q → AssignAt f (all_related f (single (path_target (name ∷ names) method))) (all_related f (single (function_expression 0 (as_method method body)))) active p q
as_assign f name names method body active p q w =
    subst (λ c. AssignAt f (related f (path_target (name ∷ names) method) ∷ []) (c ∷ []) active p q) (body_is f method body)
    (subst (λ c. AssignAt f (c ∷ []) (rel_function f (FunctionOf body (is_some method)) ∷ []) active p q) (path_is f name names method) w)

module _ (z : Setup) (self : Self) (ih : Simulates z self) where
  pub function_goes : (name : Text) (names : List Text) (method : Option Text) (body : FunctionBody) → StatementBy z (function_statement (name ∷ names) method body) (Does z self 1 (inner_statement (function_statement (name ∷ names) method body)) (λ x s. execute (function_statement (name ∷ names) method body) (scope x) s))
  function_goes name names method body s o g x around active1 p q ok out small t =
      let ts : Expressions = single (path_target (name ∷ names) method) in
      let es : Expressions = single (function_expression 0 (as_method method body)) in
      let size = size_all name names method body in
      subst (λ l. Goes z.bound self (fail_of z x) 1 (inner_statement (function_statement (name ∷ names) method body)) o (Now (at s o g x p.pc)) (FlowPost z x around l q.pc) (execute (function_statement (name ∷ names) method body) (scope x) s)) (sym t.stays)
      (goes_weaken z.bound self (fail_of z x) (1 + 0) (inner_targets ts + inner_list es + 0) 1 (inner_statement (function_statement (name ∷ names) method body)) o (Now (at s o g x p.pc)) (FlowPost z x around x.a.active q.pc) (execute (function_statement (name ∷ names) method body) (scope x) s) (omega arith) (omega (arith, size))
      (goes_then z.bound self (fail_of z x) 1 (inner_targets ts + inner_list es) 0 0 o (Now (at s o g x p.pc)) (StoredPost z x 0 q.pc) (FlowPost z x around x.a.active q.pc) (assign ts es (scope x) s) (λ u s1. goes_on_at (scope x) s1)
      (assign_core z self ih ts es s o g x p q ok (omega (arith, size, small)) (as_assign (code_of x.a) name names method body x.a.active p q t.part_at))
      (λ u s1 o1 p1 h. goes_done z.bound self (fail_of z x) 0 0 o1 p1 (FlowPost z x around x.a.active q.pc) (goes x.a.own) s1 (stays_on z x around 0 q.pc s1 o1 p1 h))))
