-- A list of expressions is the last one and those before it, whose words stand before its own.
use Rattle.std.proofs.Common.{ℕ, ◌+◌, ◌<◌, ◌≤◌, List, refl, ap, subst, arith}
use Rattle.lua_tree.specs.Syntax as syntax
use Rattle.lua_tree.specs.Syntax.{Expression, Expressions, no_expressions}
use Rattle.lua_tree.specs.WellFormed.{depth_of_expression, depth_of_expressions}
use Rattle.core_expr.specs.Values.{Value, Values, no_values}
use Rattle.recover_expr.specs.Entries.{and_last_value}
use Rattle.scheme.specs.declared.making.Active.{Active}
use Rattle.scheme_stands.specs.Lists.{AllNextAt}
use Rattle.scheme_stands.specs.Relation.{all_related, related}
use Rattle.scheme_stands.specs.Words.{Fn, Spot}
use Rattle.reads_back.specs.Cores.{AllHaveCores, AreCores, HasCore, IsCore}

-- the last one and the others: what is known of these is known of all
pub record FrontAndLast (g : Fn) (active : List Active) (es : Expressions) (free : ℕ) (p mid : Spot) (front : Expressions) (last : Expression) : Type 0 where
  pub front_at : AllNextAt g (all_related g front) active free p mid
  pub cores : (before between behind : ℕ) (values : Values) (v : Value) → AreCores g active front before between values → IsCore g active last between behind v → AreCores g active es before behind (and_last_value values v)
  pub has_front : AllHaveCores front
  pub has_last : HasCore last
  pub shallow_front : depth_of_expressions front ≤ depth_of_expressions es
  pub shallow_last : depth_of_expression last ≤ depth_of_expressions es

module _ (g : Fn) (active : List Active) (e : Expression) (has : HasCore e) (free : ℕ) (p : Spot) where
  -- only one
  pub last_alone : FrontAndLast g active (syntax.expression e no_expressions) free p p no_expressions e
  last_alone = record {
    front_at = record { pc = refl; ahead = refl; functions = refl };
    cores = λ before between behind values v are is. (behind, (v, no_values, subst (λ (before : ℕ). IsCore g active e before behind v) are.0 is, (refl, refl), ap (λ values. and_last_value values v) are.1));
    has_front = tt;
    has_last = has;
    shallow_front = omega arith;
    shallow_last = omega arith;
  }

  -- one more before them
  pub last_behind : (es front : Expressions) (last : Expression) (mid q : Spot) → free < g.size → (related g e).to_reg active free free p mid → FrontAndLast g active es (free + 1) mid q front last → FrontAndLast g active (syntax.expression e es) free p q (syntax.expression e front) last
  last_behind es front last mid q room first rest = record {
    front_at = record { mid = mid; room = room; first = first; others = rest.front_at };
    cores = λ before between behind values v are is. let on = are.1 in (are.0, (on.0, and_last_value on.1 v, on.2, rest.cores are.0 between behind on.1 v on.3 is, ap (λ values. and_last_value values v) on.4));
    has_front = (has, rest.has_front);
    has_last = rest.has_last;
    shallow_front = omega (arith, rest.shallow_front);
    shallow_last = omega (arith, rest.shallow_last);
  }
