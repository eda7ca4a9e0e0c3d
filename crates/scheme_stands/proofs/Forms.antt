-- The form that the relation gives an expression is the expression's.
use Rattle.std.proofs.Common.{◌≡◌, refl}
use Rattle.lua_tree.specs.Syntax.{Expression, name_expression}
use Rattle.scheme_stands.specs.Words.{Fn}
use Rattle.scheme_stands.specs.Expressions.{form_of}
use Rattle.scheme_stands.specs.Relation.{related}

pub form_is : (f : Fn) (e : Expression) → (related f e).form ≡ form_of e
form_is f (name_expression line text) = refl
form_is f e = refl
