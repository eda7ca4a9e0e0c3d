-- The condition of a statement stands, with its law, test by test.
use Rattle.std.proofs.Common.{◌≡◌, ◌∙◌, ap, ℕ, suc, Bool, true, false, not, List, length, sym, subst, arith}
use Rattle.lua_tree.specs.Outline as outline
use Rattle.lua_tree.specs.Outline.{Mark, Place, both, expression_part}
use Rattle.lua_tree.specs.Precedence.{left_binds, right_binds}
use Rattle.lua_tree.specs.Syntax.{Expression, nil_literal, true_literal, false_literal, vararg_expression, number_literal, text_literal, name_expression, function_expression, index_expression, field_expression, call_expression, method_call, and_expression, or_expression, binary_expression, unary_expression, constructor, parenthesized}
use Rattle.lua_tree.specs.WellFormed.{formed_expression}
use Rattle.lua_tree.specs.declared.tree.UnaryOp.{UnaryOp}
use Rattle.scheme.specs.Making.{Maker, new_label, place}
use Rattle.scheme.specs.Scheme.{coded}
use Rattle.scheme.specs.declared.making.Active.{Active}
use Rattle.scheme_stands.specs.Placed.{RulesKept}
use Rattle.scheme_stands.specs.Relation.{related}
use Rattle.scheme_stands.specs.Words.{Names, Spot, asking}
use Rattle.scheme_stands.proofs.Blocks.{Settled}
use Rattle.scheme_stands.proofs.Every.{links}
use Rattle.scheme_stands.proofs.Growth.{Final, before, calm, fn_of, later, length_end, spot, unplaced}
use Rattle.scheme_stands.proofs.Here.{Tame, tame_expression}
use Rattle.scheme_stands.proofs.Lifting.{calm_expression}
use Rattle.scheme_stands.proofs.Lifts.{Stands, stands_behind, stands_first}
use Rattle.scheme_stands.proofs.Parts.{grows}
use Rattle.scheme_stands.proofs.Scopes.{expression_moves}
use Rattle.scheme_stands.proofs.Small.{Setting}
use Rattle.scheme_stands.proofs.Walks.{and_right, and_left}
use Rattle.scheme_stands.proofs.Words.{Lifted}
use Rattle.reads_back.proofs.ExpressionsLawful.{expression_lifts}
use Rattle.reads_back.specs.Through.{TestThrough, pc_of_label}

-- behind a part that leaves the active locals as they are, and F too
pub still_settled : (m o : Maker) → Settled m → o.free ≡ m.free → o.active ≡ m.active → Settled o
still_settled m o settled free active = free ∙ settled ∙ sym (ap length active)

module _ (all : List Mark) (rules : RulesKept all) (n : Names) (z : Maker) (setting : Setting n (fn_of z)) where
  -- a part that stands at the active locals of a function that is being made, where these are the same
  pub stands_made : (part : outline.Part) (at : Place) (rest : List Mark) (active other : List Active) (p : Spot) → other ≡ active → Stands all n (fn_of z) part at rest active p → Stands all n (fn_of z) part at rest other p
  stands_made part at rest active other p same stands = subst (λ active. Stands all n (fn_of z) part at rest active p) (sym same) stands

  words_of_test : (e : Expression) (sense : Bool) (label : ℕ) (m : Maker) → Settled m → Final (length m.labels) ((coded e).jump_if sense label m) z →
      (related (fn_of z) e).jump_if m.active (length m.active) sense (pc_of_label z label) (spot m) (spot ((coded e).jump_if sense label m))
  words_of_test e sense label m settled final =
      let l = links z e in
      subst (λ free. (related (fn_of z) e).jump_if m.active free sense (pc_of_label z label) (spot m) (spot ((coded e).jump_if sense label m))) settled (l.jump_if sense label m final)

  pub test_lifted : (e : Expression) → formed_expression e ≡ true → (sense : Bool) (label : ℕ) (m : Maker) (at : Place) (rest : List Mark) → Settled m → Final (length m.labels) ((coded e).jump_if sense label m) z → Stands all n (fn_of z) (expression_part e) at rest m.active (spot m) →
      Lifted (fn_of z) ((related (asking n (fn_of z)) e).jump_if m.active (length m.active) sense (pc_of_label z label) (spot m) (spot ((coded e).jump_if sense label m))) (spot ((coded e).jump_if sense label m))
  test_lifted e formed sense label m at rest settled final stands =
      let l = expression_lifts all rules n (fn_of z) setting e formed in
      l.jump_if m.active (length m.active) sense (pc_of_label z label) at rest (spot m) (spot ((coded e).jump_if sense label m)) stands (words_of_test e sense label m settled final)

  -- the part behind a condition
  pub behind_test : (e : Expression) → formed_expression e ≡ true → (part : outline.Part) → Tame part → (sense : Bool) (label : ℕ) (m : Maker) (at : Place) (rest : List Mark) → Settled m → Final (length m.labels) ((coded e).jump_if sense label m) z →
      Stands all n (fn_of z) (both (expression_part e) part) at rest m.active (spot m) → Stands all n (fn_of z) part (expression_part e at).next rest ((coded e).jump_if sense label m).active (spot ((coded e).jump_if sense label m))
  behind_test e formed part tame sense label m at rest settled final stands =
      let o = (coded e).jump_if sense label m in
      let lifted = test_lifted e formed sense label m at _ settled final (stands_first all n (fn_of z) (expression_part e) part at rest m.active (spot m) (tame_expression e) tame stands) in
      let moves = (expression_moves all (fn_of z) e formed).jump_if m.active (length m.active) sense (pc_of_label z label) (spot m) (spot o) (words_of_test e sense label m settled final) in
      let grown = (grows calm e).jump_if sense label m in
      stands_made part (expression_part e at).next rest m.active o.active (spot o) grown.active (stands_behind all n (fn_of z) (expression_part e) part at rest m.active (spot m) (spot o) (calm_expression e) moves lifted.plain stands)

  abbrev Tests : Expression → Type 0
  Tests e =
      (sense : Bool) (label : ℕ) (m : Maker) (at : Place) (rest : List Mark) → Settled m → Final (length m.labels) ((coded e).jump_if sense label m) z → Stands all n (fn_of z) (expression_part e) at rest m.active (spot m) → TestThrough (asking n (fn_of z)) z e sense label m

  -- ---- of two conditions, each

  module _ (left right : Expression) (formed_left : formed_expression left ≡ true) (formed_right : formed_expression right ≡ true) (first : Tests left) (second : Tests right) where
    both_tests : (sense other : Bool) (label over : ℕ) (m : Maker) (at : Place) (rest : List Mark) → Settled m → Final (length m.labels) ((coded right).jump_if sense label ((coded left).jump_if other over m)) z →
        Stands all n (fn_of z) (both (expression_part left) (expression_part right)) at rest m.active (spot m) →
        TestThrough (asking n (fn_of z)) z left other over m × TestThrough (asking n (fn_of z)) z right sense label ((coded left).jump_if other over m)
    both_tests sense other label over m at rest settled final stands =
        let o = (coded left).jump_if other over m in
        let grown = (grows calm left).jump_if other over m in
        let final_left = before ((grows calm right).jump_if sense label o) final in (
          first other over m at _ settled final_left (stands_first all n (fn_of z) (expression_part left) (expression_part right) at rest m.active (spot m) (tame_expression left) (tame_expression right) stands),
          second sense label o (expression_part left at).next rest (still_settled m o settled ((grows calm left).jump_free other over m) grown.active) (later grown.more final)
              (behind_test left formed_left (expression_part right) (tame_expression right) other over m at rest settled final_left stands),
        )

    -- where the first goes over the second
    over_tests : (sense other : Bool) (label : ℕ) (m : Maker) (at : Place) (rest : List Mark) → Settled m → Final (length m.labels) (place (length m.labels) ((coded right).jump_if sense label ((coded left).jump_if other (length m.labels) (new_label m).after))) z →
        Stands all n (fn_of z) (both (expression_part left) (expression_part right)) at rest m.active (spot m) →
        TestThrough (asking n (fn_of z)) z left other (length m.labels) (new_label m).after × TestThrough (asking n (fn_of z)) z right sense label ((coded left).jump_if other (length m.labels) (new_label m).after)
    over_tests sense other label m at rest settled final stands =
        let over = length m.labels in
        let begun = (new_label m).after in
        let one : length begun.labels ≡ suc over = length_end m.labels 0 in
        both_tests sense other label over begun at rest settled (later (omega (arith, one)) (unplaced {n = (coded right).jump_if sense label ((coded left).jump_if other over begun)} over (omega arith) final)) stands

  -- ---- every condition

  alone : (e : Expression) → formed_expression e ≡ true → (sense : Bool) (label : ℕ) (m : Maker) (at : Place) (rest : List Mark) → Settled m → Final (length m.labels) ((coded e).jump_if sense label m) z → Stands all n (fn_of z) (expression_part e) at rest m.active (spot m) →
      (related (asking n (fn_of z)) e).jump_if m.active (length m.active) sense (pc_of_label z label) (spot m) (spot ((coded e).jump_if sense label m))
  alone e formed sense label m at rest settled final stands = let lifted = test_lifted e formed sense label m at rest settled final stands in lifted.is

  pub test_through : (e : Expression) → formed_expression e ≡ true → (sense : Bool) (label : ℕ) (m : Maker) (at : Place) (rest : List Mark) → Settled m → Final (length m.labels) ((coded e).jump_if sense label m) z → Stands all n (fn_of z) (expression_part e) at rest m.active (spot m) →
      TestThrough (asking n (fn_of z)) z e sense label m
  test_through (and_expression line left right) formed true label m at rest settled final stands =
      let each = and_right (right_binds 2 false right) _ (and_right (left_binds 2 false left) _ formed) in
      let a = and_left (formed_expression left) (formed_expression right) each in
      let b = and_right (formed_expression left) (formed_expression right) each in
      over_tests left right a b (test_through left a) (test_through right b) true false label m at rest settled final stands
  test_through (and_expression line left right) formed false label m at rest settled final stands =
      let each = and_right (right_binds 2 false right) _ (and_right (left_binds 2 false left) _ formed) in
      let a = and_left (formed_expression left) (formed_expression right) each in
      let b = and_right (formed_expression left) (formed_expression right) each in
      both_tests left right a b (test_through left a) (test_through right b) false false label label m at rest settled final stands
  test_through (or_expression line left right) formed true label m at rest settled final stands =
      let each = and_right (right_binds 1 false right) _ (and_right (left_binds 1 false left) _ formed) in
      let a = and_left (formed_expression left) (formed_expression right) each in
      let b = and_right (formed_expression left) (formed_expression right) each in
      both_tests left right a b (test_through left a) (test_through right b) true true label label m at rest settled final stands
  test_through (or_expression line left right) formed false label m at rest settled final stands =
      let each = and_right (right_binds 1 false right) _ (and_right (left_binds 1 false left) _ formed) in
      let a = and_left (formed_expression left) (formed_expression right) each in
      let b = and_right (formed_expression left) (formed_expression right) each in
      over_tests left right a b (test_through left a) (test_through right b) false true label m at rest settled final stands
  test_through (unary_expression line UnaryOp.Not e) formed sense label m at rest settled final stands = test_through e (and_right (left_binds 7 false e) (formed_expression e) formed) (not sense) label m at rest settled final stands
  test_through (parenthesized line e) formed sense label m at rest settled final stands = test_through e formed sense label m at rest settled final stands
  test_through (unary_expression line UnaryOp.Neg e) formed sense label m at rest settled final stands = alone (unary_expression line UnaryOp.Neg e) formed sense label m at rest settled final stands
  test_through (unary_expression line UnaryOp.Len e) formed sense label m at rest settled final stands = alone (unary_expression line UnaryOp.Len e) formed sense label m at rest settled final stands
  test_through (nil_literal line) formed sense label m at rest settled final stands = alone (nil_literal line) formed sense label m at rest settled final stands
  test_through (true_literal line) formed sense label m at rest settled final stands = alone (true_literal line) formed sense label m at rest settled final stands
  test_through (false_literal line) formed sense label m at rest settled final stands = alone (false_literal line) formed sense label m at rest settled final stands
  test_through (vararg_expression line) formed sense label m at rest settled final stands = alone (vararg_expression line) formed sense label m at rest settled final stands
  test_through (number_literal line k) formed sense label m at rest settled final stands = alone (number_literal line k) formed sense label m at rest settled final stands
  test_through (text_literal line text) formed sense label m at rest settled final stands = alone (text_literal line text) formed sense label m at rest settled final stands
  test_through (name_expression line text) formed sense label m at rest settled final stands = alone (name_expression line text) formed sense label m at rest settled final stands
  test_through (function_expression line body) formed sense label m at rest settled final stands = alone (function_expression line body) formed sense label m at rest settled final stands
  test_through (index_expression line on key) formed sense label m at rest settled final stands = alone (index_expression line on key) formed sense label m at rest settled final stands
  test_through (field_expression line on text) formed sense label m at rest settled final stands = alone (field_expression line on text) formed sense label m at rest settled final stands
  test_through (call_expression line on args on_line) formed sense label m at rest settled final stands = alone (call_expression line on args on_line) formed sense label m at rest settled final stands
  test_through (method_call line on text args on_line) formed sense label m at rest settled final stands = alone (method_call line on text args on_line) formed sense label m at rest settled final stands
  test_through (binary_expression line op left right) formed sense label m at rest settled final stands = alone (binary_expression line op left right) formed sense label m at rest settled final stands
  test_through (constructor line fields) formed sense label m at rest settled final stands = alone (constructor line fields) formed sense label m at rest settled final stands
