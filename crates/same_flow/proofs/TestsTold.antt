-- The steps on which a condition stands tell of its locals, and what each tests is tested as a whole.
use Rattle.std.proofs.Common.{◌≡◌, ◌≤◌, ℕ, Bool, true, false, not, inl, inr, List, refl, sym, ◌∙◌, subst}
use Rattle.std.specs.Prelude.{Option, Some, None}
use Rattle.std.specs.Bool.{beq}
use Rattle.lua_tree.specs.declared.tree.BinaryOp.{BinaryOp}
use Rattle.lua_tree.specs.declared.tree.UnaryOp.{UnaryOp}
use Rattle.lua_tree.specs.Syntax.{Expression, and_expression, or_expression, binary_expression, unary_expression, parenthesized}
use Rattle.proto.specs.declared.parts.Constant.{Constant}
use Rattle.recover_expr.specs.Drafts.{condition_part}
use Rattle.recover_expr.specs.declared.steps.StepKind.{StepKind}
use Rattle.scheme.specs.Making.{Maker}
use Rattle.scheme.specs.Expressions.{literal, is_true_constant}
use Rattle.scheme.specs.declared.making.Active.{Active}
use Rattle.same_flow.specs.Laid.{IsNegated, IsSaid, LiteralLaid, AloneLaid, TestLaid}
use Rattle.same_flow.specs.Renaming.{StatementsRename}
use Rattle.same_flow.specs.SameFlow.{HasPlainParts}
use Rattle.same_flow.specs.Told.{IsLeaf}
use Rattle.same_flow.proofs.Followed.{Run, Follows, nought, LastTo, last_weaker, followed}
use Rattle.same_flow.proofs.TestsFollowed.{test_goes}
use Rattle.same_flow.proofs.StepsTold.{Told, told_nowhere, told_both, told_to, before_active, parted, step_told, same_active, jump_told}

-- `==` is no literal
negated_leaf : (tested e : Expression) → IsNegated tested e → IsLeaf tested
negated_leaf (binary_expression line BinaryOp.Eq left right) e h = refl
negated_leaf tested e h = absurd h

said_leaf : (e : Expression) (sense : Bool) (tested : Expression) (when : Bool) → IsSaid e sense tested when → IsLeaf e → IsLeaf tested
said_leaf e sense tested when (inl h) leaf = subst IsLeaf (sym h.0) leaf
said_leaf e sense tested when (inr h) leaf = negated_leaf tested e h.0

literal_told : {run : Run} (active : List Active) (m : Maker) (ends : List ℕ) (jumps : Bool) (target from to : ℕ) → Follows run nought nought m ends from → m.active ≡ active →
    LiteralLaid run.code active jumps target from to → LastTo to ends → Told run from to
literal_told active m ends true target from to F is H l = told_to H.1 (jump_told F (subst (λ x. LastTo x ends) H.1 l) is H.0)
literal_told {run} active m ends false target from to F is H l = told_nowhere run from to H

alone_told : {run : Run} (active : List Active) (m : Maker) (ends : List ℕ) (e : Expression) (o : Option Constant) → (o ≡ None → IsLeaf e) → (sense : Bool) (target from to : ℕ) →
    Follows run nought nought m ends from → m.active ≡ active → AloneLaid run.code active o e sense target from to → LastTo to ends → Told run from to
alone_told active m ends e (Some k) leaf sense target from to F is H l = literal_told active m ends (beq sense (is_true_constant k)) target from to F is H.1 l
alone_told {run} active m ends e None leaf sense target from to F is (when, levels, tested, H, s, t) l =
    let last = subst (λ x. LastTo x ends) t l in
    told_to t (step_told run active from (StepKind.Test when target levels) (condition_part tested) H (before_active F last ∙ is) (parted F last)
    (said_leaf e sense tested when s (leaf refl)) tt tt)

module _ (run : Run) (renames : StatementsRename) (plain : HasPlainParts run.code) where
  -- an operand, and the other behind it
  both_told : (active : List Active) (m : Maker) (ends : List ℕ) (left : Expression) (sense : Bool) (target from mid to : ℕ) → Follows run nought nought m ends from → m.active ≡ active → from ≤ mid →
      mid ≤ to → LastTo to ends → TestLaid run.code active left sense target from mid → Told run from mid →
      ((n : Maker) → Follows run nought nought n ends mid → n.active ≡ active → Told run mid to) → Told run from to
  both_told active m ends left sense target from mid to F is a b l one told rest =
      let last = last_weaker mid to ends b l in
      let G = followed (test_goes run renames plain active m ends left sense 0 target from mid one last) F in
      told_both run from mid to told (rest _ G (same_active plain F G a last ∙ is))

  pub test_told : (active : List Active) (e : Expression) (sense : Bool) (target from to : ℕ) → TestLaid run.code active e sense target from to → (m : Maker) (ends : List ℕ) →
      Follows run nought nought m ends from → m.active ≡ active → LastTo to ends → Told run from to
  test_told active (and_expression line left right) sense target from to H m ends F is l =
      both_told active m ends left false _ from H.0 to F is H.1 H.2 l H.3 (test_told active left false _ from H.0 H.3 m ends F is (last_weaker H.0 to ends H.2 l))
      (λ n G same. test_told active right sense target H.0 to H.4 n ends G same l)
  test_told active (or_expression line left right) sense target from to H m ends F is l =
      both_told active m ends left true _ from H.0 to F is H.1 H.2 l H.3 (test_told active left true _ from H.0 H.3 m ends F is (last_weaker H.0 to ends H.2 l))
      (λ n G same. test_told active right sense target H.0 to H.4 n ends G same l)
  test_told active (unary_expression line UnaryOp.Not e) sense target from to H m ends F is l = test_told active e (not sense) target from to H m ends F is l
  test_told active (parenthesized line e) sense target from to H m ends F is l = test_told active e sense target from to H m ends F is l
  test_told active e sense target from to H m ends F is l = alone_told active m ends e (literal e) (λ none. none) sense target from to F is H l
