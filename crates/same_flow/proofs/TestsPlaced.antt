-- A condition stands on the steps that it makes, wherever they are.
use Rattle.std.proofs.Common.{◌≡◌, ℕ, Bool, true, false, not, inl, inr, List, refl, ap}
use Rattle.std.specs.Prelude.{Option, Some, None, if◌then◌else◌}
use Rattle.std.specs.Bool.{beq}
use Rattle.lua_tree.specs.OneLine.{one_line_expression}
use Rattle.lua_tree.specs.Syntax.{Expression, and_expression, or_expression, binary_expression, unary_expression, parenthesized}
use Rattle.lua_tree.specs.declared.tree.BinaryOp.{BinaryOp}
use Rattle.lua_tree.specs.declared.tree.UnaryOp.{UnaryOp}
use Rattle.proto.specs.declared.parts.Constant.{Constant}
use Rattle.recover_expr.specs.Drafts.{Part, nothing_part, condition_part}
use Rattle.recover_expr.specs.declared.steps.StepKind.{StepKind}
use Rattle.scheme.specs.Expressions.{literal, is_true_constant}
use Rattle.scheme.specs.declared.making.Active.{Active}
use Rattle.same_flow.specs.Blocks.{tested_as, AloneHolds, TestHolds}
use Rattle.same_flow.specs.Laid.{IsSaid, LiteralLaid, AloneLaid, LeafLaid, TestLaid}
use Rattle.same_flow.proofs.Laying.{Lays, laid_by, both, no_steps, one_step, jump_lays}

module _ (P : Part → Type 0) (nothing_holds : P nothing_part) (active : List Active) where
  -- a step that tests what the leaf is tested as
  tested_lays : (e : Expression) (sense when : Bool) (tested : Expression) → IsSaid e sense tested when → P (condition_part tested) →
      Lays P ℕ (λ target code from to. LeafLaid code active e sense target from to)
  tested_lays e sense when tested said h =
      laid_by (λ target from to. StepKind.Test when target 0) (λ code target from to le is. (when, 0, tested, is.0, said, is.1)) (one_step active (condition_part tested) h)

  leaf_lays : (e : Expression) (sense : Bool) → one_line_expression e ≡ e → P (condition_part (tested_as e)) → Lays P ℕ (λ target code from to. LeafLaid code active e sense target from to)
  leaf_lays (binary_expression line BinaryOp.Ne left right) sense one h =
      let on_one : line ≡ 1 = cc in
      tested_lays (binary_expression line BinaryOp.Ne left right) sense (not sense) (binary_expression line BinaryOp.Eq left right)
      (inr ((on_one, ap (λ (n : ℕ). binary_expression n BinaryOp.Ne left right) on_one), refl)) h
  leaf_lays e sense one h = tested_lays e sense sense e (inl (refl, refl)) h

  literal_lays : (jumps : Bool) → Lays P ℕ (λ target code from to. LiteralLaid code active jumps target from to)
  literal_lays true = jump_lays nothing_holds active
  literal_lays false = no_steps

  alone_lays : (o : Option Constant) (e : Expression) (sense : Bool) → one_line_expression e ≡ e → AloneHolds P o e → Lays P ℕ (λ target code from to. AloneLaid code active o e sense target from to)
  alone_lays (Some k) e sense one h = laid_by (λ target from to. target) (λ code target from to le is. (one, is)) (literal_lays (beq sense (is_true_constant k)))
  alone_lays None e sense one h = leaf_lays e sense one h

  pub test_lays : (e : Expression) (sense : Bool) → one_line_expression e ≡ e → TestHolds P e → Lays P ℕ (λ target code from to. TestLaid code active e sense target from to)
  test_lays (and_expression line left right) sense one h =
      both (λ target from mid to. if sense then to else target) (λ target from mid to. target) (test_lays left false (cc) h.0) (test_lays right sense (cc) h.1)
  test_lays (or_expression line left right) sense one h =
      both (λ target from mid to. if sense then target else to) (λ target from mid to. target) (test_lays left true (cc) h.0) (test_lays right sense (cc) h.1)
  test_lays (unary_expression line UnaryOp.Not e) sense one h = test_lays e (not sense) (cc) h
  test_lays (parenthesized line e) sense one h = test_lays e sense (cc) h
  test_lays e sense one h = alone_lays (literal e) e sense one h
