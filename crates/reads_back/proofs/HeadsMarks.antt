-- What is written of the values of the head of a loop mentions the same names as its expressions, in the same order.
use Rattle.std.proofs.Common.{◌≡◌, ℕ, suc, ◌≤◌, Bool, true, false, ◌&&◌, List, nat_lt, Option, refl, sym, ap, arith}
use Rattle.std.specs.Prelude.{◌==◌, not, if◌then◌else◌}
use Rattle.lua_tree.specs.OneLine.{one_line_expression, one_line_expressions}
use Rattle.lua_tree.specs.Outline.{Part, expression_part, expressions_part, nothing}
use Rattle.lua_tree.specs.Syntax as syntax
use Rattle.lua_tree.specs.Syntax.{Expression, Expressions, no_expressions, number_literal}
use Rattle.lua_tree.specs.WellFormed.{depth_of_expressions}
use Rattle.core_expr.specs.Places.{Place, place}
use Rattle.core_expr.specs.Values.{Inner, Values}
use Rattle.core_expr.specs.Writing.{can_write_values, word_values}
use Rattle.recover_expr.specs.Declaring.{is_one, without_step_one}
use Rattle.recover_expr.specs.Entries.{Listed}
use Rattle.recover_expr.specs.Lists.{value_count}
use Rattle.recover_expr.specs.Situation.{Function}
use Rattle.scheme.specs.declared.making.Active.{Active}
use Rattle.scheme_stands.specs.Words.{Fn}
use Rattle.reads_back.specs.Cores.{AllHaveCores, ends_open}
use Rattle.reads_back.proofs.DeclaredValues.{with_nil_parts}
use Rattle.reads_back.proofs.HeadValues.{IsHeaded, counted_list, head_wording, headed_by, headed_values}
use Rattle.reads_back.proofs.HeadsSame.{AreCounted, AreOfHead, counted_cores, counted_depth}
use Rattle.reads_back.proofs.Marks.{ArePartsLeft, SamePart, both_same, exact_part, nothing_behind, part_back, part_then, parts_of, same_part, values_part}
use Rattle.reads_back.proofs.MarksSame.{ArePartsMade, list_part}
use Rattle.reads_back.proofs.NameReads.{AreListed}
use Rattle.reads_back.proofs.Tests.{not_so}
use Rattle.reads_back.proofs.WordsRead.{IsFunction}

-- ---- a step of 1, and a nil

one_part : (e : Expression) → is_one e ≡ true → SamePart nothing (expression_part e)
one_part (number_literal line n) is = same_part nothing
one_part e is = not_so is

without_one_part : (es : Expressions) → SamePart (expressions_part (without_step_one es)) (expressions_part es)
without_one_part no_expressions = same_part nothing
without_one_part (syntax.expression e no_expressions) = left_out (is_one e) refl
  where
    left_out : (one : Bool) → is_one e ≡ one → SamePart (expressions_part (if one then no_expressions else syntax.expression e no_expressions)) (expressions_part (syntax.expression e no_expressions))
    left_out true is = part_then (one_part e is) (part_back (nothing_behind (expression_part e)))
    left_out false is = same_part (expressions_part (syntax.expression e no_expressions))
without_one_part (syntax.expression e (syntax.expression d es)) = both_same (same_part (expression_part e)) (without_one_part (syntax.expression d es))

counted_part : (es : Expressions) → AreCounted es → SamePart (expressions_part (one_line_expressions (counted_list es))) (expressions_part (one_line_expressions es))
counted_part (syntax.expression first (syntax.expression last no_expressions)) counted =
    both_same (same_part (expression_part (one_line_expression first))) (both_same (same_part (expression_part (one_line_expression last))) (nothing_behind nothing))
counted_part (syntax.expression first (syntax.expression last (syntax.expression by no_expressions))) counted =
    same_part (expressions_part (one_line_expressions (syntax.expression first (syntax.expression last (syntax.expression by no_expressions)))))
counted_part (syntax.expression first (syntax.expression last (syntax.expression by (syntax.expression more rest)))) counted = absurd counted
counted_part (syntax.expression first no_expressions) counted = absurd counted
counted_part no_expressions counted = absurd counted

module _ (at : Place) (of : ℕ → Part) where
  headed_by_parts : (missing_some missing_one : Bool) (from : Values) → SamePart (parts_of at of (headed_by missing_some missing_one from).values) (parts_of at of from)
  headed_by_parts true missing_one from = same_part (parts_of at of from)
  headed_by_parts false missing_one from = with_nil_parts at of missing_one from

  headed_parts : (is_open : Bool) (from : Values) (headed : Listed) → headed_values is_open from ≡ headed → SamePart (parts_of at of headed.values) (parts_of at of from)
  headed_parts is_open from headed is =
      part_then (exact_part (λ here. ap (λ (list : Listed). parts_of at of list.values here) (sym is))) (headed_by_parts (not is_open && nat_lt (suc (value_count from)) 3) (not is_open && (suc (value_count from) == 3)) from)

-- ---- heads

module _ {f : Function} {g : Fn} {active : List Active} {listed : List ℕ} (is_function : IsFunction f g) (listed_names : AreListed f g active listed) (of : ℕ → Part) (parts_made : ArePartsMade g active of) where
  abbrev at_place : Place
  at_place = place f.of listed f.short

  pub head_marks : (numeric : Bool) (es : Expressions) → AreOfHead numeric es → AllHaveCores es → depth_of_expressions es ≤ 200 → (before behind : ℕ) (headed : Listed) (n : ℕ) (left : List (Option Inner)) → ArePartsLeft of left → IsHeaded g active numeric es before behind headed →
      can_write_values at_place left headed.values ≡ true → SamePart (expressions_part (head_wording numeric at_place n left headed).words) (expressions_part (one_line_expressions es))
  head_marks true es counted has few before behind headed n left parts_left is can =
      part_then (without_one_part (word_values at_place n left headed.values headed.all).words)
      (part_then (values_part at_place of headed.values headed.all n left parts_left can)
      (part_then (list_part is_function listed_names of parts_made (counted_list es) (counted_cores es counted has) (omega (arith, few, counted_depth es counted)) before behind headed.values is.0) (counted_part es counted)))
  head_marks false es some has few before behind headed n left parts_left is can =
      part_then (values_part at_place of headed.values headed.all n left parts_left can)
      (part_then (headed_parts at_place of (ends_open es) is.0 headed is.2) (list_part is_function listed_names of parts_made es has few before behind is.0 is.1))
