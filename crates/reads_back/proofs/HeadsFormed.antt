-- What is written of the values of the head of a loop is well formed, no deeper than its levels tell, and can stand in such a head.
use Rattle.std.proofs.Common.{◌≡◌, ℕ, suc, ◌≤◌, Bool, true, false, ◌&&◌, List, nat_lt, Option, refl, sym, ap, ◌∙◌, arith}
use Rattle.std.specs.Prelude.{◌==◌, not, if◌then◌else◌}
use Rattle.lua_tree.specs.Syntax as syntax
use Rattle.lua_tree.specs.Syntax.{Expression, Expressions, no_expressions}
use Rattle.lua_tree.specs.WellFormed.{depth_of_expressions, formed_expression, formed_expressions, has_expressions}
use Rattle.core_expr.specs.Counting.{one_more}
use Rattle.core_expr.specs.Places.{Place}
use Rattle.core_expr.specs.Values.{Inner, Values, and_value, no_values}
use Rattle.core_expr.specs.Writing.{can_write_values, word_values}
use Rattle.recover_expr.specs.Declaring.{expression_count, is_one, without_step_one}
use Rattle.recover_expr.specs.Entries.{Listed}
use Rattle.recover_expr.specs.Lists.{value_count}
use Rattle.scheme.specs.declared.making.Active.{Active}
use Rattle.scheme_stands.specs.Words.{Fn}
use Rattle.reads_back.specs.Cores.{AreCores, ends_open}
use Rattle.reads_back.proofs.HeadValues.{IsHeaded, counted_list, head_wording, headed_by}
use Rattle.reads_back.proofs.HeadsRead.{written_count}
use Rattle.reads_back.proofs.HeadsSame.{AreCounted, AreOfHead, counted_three}
use Rattle.reads_back.proofs.ListsSame.{cores_count}
use Rattle.reads_back.proofs.Tests.{both_hold, first_of_both, not_so, second_of_both}
use Rattle.reads_back.proofs.WrittenFormed.{AreFine, AreFineLeft, values_fine}

-- ---- where a step of 1 is left out

without_formed : (es : Expressions) → formed_expressions es ≡ true → formed_expressions (without_step_one es) ≡ true
without_formed no_expressions formed = refl
without_formed (syntax.expression e no_expressions) formed = left_out (is_one e)
  where
    left_out : (one : Bool) → formed_expressions (if one then no_expressions else syntax.expression e no_expressions) ≡ true
    left_out true = refl
    left_out false = formed
without_formed (syntax.expression e (syntax.expression d es)) formed = both_hold _ _ (first_of_both _ _ formed) (without_formed (syntax.expression d es) (second_of_both (formed_expression e) _ formed))

without_depth : (es : Expressions) → depth_of_expressions (without_step_one es) ≤ depth_of_expressions es
without_depth no_expressions = omega arith
without_depth (syntax.expression e no_expressions) = left_out (is_one e)
  where
    left_out : (one : Bool) → depth_of_expressions (if one then no_expressions else syntax.expression e no_expressions) ≤ depth_of_expressions (syntax.expression e no_expressions)
    left_out true = omega arith
    left_out false = omega arith
without_depth (syntax.expression e (syntax.expression d es)) = omega (arith, without_depth (syntax.expression d es))

-- ---- heads

module _ (at : Place) (numeric : Bool) (headed : Listed) (n : ℕ) (left : List (Option Inner)) (fine_left : AreFineLeft left) (can : can_write_values at left headed.values ≡ true) where
  pub head_fine : AreFine (head_wording numeric at n left headed)
  head_fine = by numeric
    where
      by : (numeric : Bool) → AreFine (head_wording numeric at n left headed)
      by true =
          let fine = values_fine at headed.values headed.all n left fine_left can in
          let words = (word_values at n left headed.values headed.all).words in
          record { formed = without_formed words fine.formed; shallow = λ few. let low = fine.shallow few in omega (arith, low, without_depth words) }
      by false = values_fine at headed.values headed.all n left fine_left can

  -- its step counts one level more
  pub head_shallow : one_more (head_wording numeric at n left headed).levels ≤ 1000 → suc (depth_of_expressions (head_wording numeric at n left headed).words) ≤ one_more (head_wording numeric at n left headed).levels
  head_shallow few = let low = head_fine.shallow (omega (arith, few)) in omega (arith, few, low)

-- ---- what is written can stand in such a head

three_counted : (es : Expressions) → expression_count es ≡ 3 → AreCounted (without_step_one es)
three_counted (syntax.expression first (syntax.expression last (syntax.expression by no_expressions))) three = left_out (is_one by)
  where
    left_out : (one : Bool) → AreCounted (syntax.expression first (syntax.expression last (if one then no_expressions else syntax.expression by no_expressions)))
    left_out true = tt
    left_out false = tt
three_counted no_expressions three = absurd (omega (arith, three))
three_counted (syntax.expression first no_expressions) three = absurd (omega (arith, three))
three_counted (syntax.expression first (syntax.expression last no_expressions)) three = absurd (omega (arith, three))
three_counted (syntax.expression first (syntax.expression last (syntax.expression by (syntax.expression more rest)))) three = absurd (omega (arith, three))

some_headed : (missing_some missing_one : Bool) (v : Values) → 1 ≤ value_count v → 1 ≤ value_count (headed_by missing_some missing_one v).values
some_headed true missing_one v some = some
some_headed false true no_values some = absurd (omega (arith, some))
some_headed false true (and_value v vs) some = omega arith
some_headed false false v some = some

some_words : (at : Place) (n : ℕ) (fs : List (Option Inner)) (vs : Values) (all : Bool) → 1 ≤ value_count vs → has_expressions (word_values at n fs vs all).words ≡ true
some_words at n fs no_values all some = absurd (omega (arith, some))
some_words at n fs (and_value v vs) all some = refl

some_cores : (g : Fn) (active : List Active) (es : Expressions) (before behind : ℕ) (vs : Values) → has_expressions es ≡ true → AreCores g active es before behind vs → 1 ≤ value_count vs
some_cores g active no_expressions before behind vs some are = not_so some
some_cores g active (syntax.expression e es) before behind vs some are = omega (arith, cores_count g active (syntax.expression e es) before behind vs are)

pub head_of_written : (g : Fn) (active : List Active) (at : Place) (n : ℕ) (left : List (Option Inner)) (numeric : Bool) (es : Expressions) (before behind : ℕ) (headed : Listed) → AreOfHead numeric es → IsHeaded g active numeric es before behind headed →
    AreOfHead numeric (head_wording numeric at n left headed).words
head_of_written g active at n left true es before behind headed counted is =
    three_counted (word_values at n left headed.values headed.all).words (written_count at n left headed.values headed.all ∙ sym (cores_count g active (counted_list es) before behind headed.values is.0) ∙ counted_three es counted)
head_of_written g active at n left false es before behind headed some (from, are, is) =
    let given = some_headed (not (ends_open es) && nat_lt (suc (value_count from)) 3) (not (ends_open es) && (suc (value_count from) == 3)) from (some_cores g active es before behind from some are) in
    let counts = ap (λ (list : Listed). value_count list.values) is in
    some_words at n left headed.values headed.all (omega (arith, given, counts))
