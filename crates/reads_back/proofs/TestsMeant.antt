-- The words of a leaf of a condition pass the names that the leaf mentions, and these mean what the scope finds by them.
use Rattle.std.proofs.Common.{◌≡◌, ℕ, Bool, true, false, List, ◌++◌, refl, sym, subst}
use Rattle.lua_tree.specs.Syntax.{Expression, binary_expression, parenthesized, unary_expression}
use Rattle.lua_tree.specs.declared.tree.BinaryOp.{BinaryOp}
use Rattle.lua_tree.specs.declared.tree.UnaryOp.{UnaryOp}
use Rattle.scheme.specs.Expressions.{fold, is_comparison}
use Rattle.scheme.specs.declared.making.Active.{Active}
use Rattle.scheme_stands.specs.Expressions.{BinaryAt, BinaryJump, CompareAt, LoadOr, TestAt, form_of, rel_single}
use Rattle.scheme_stands.specs.Relation.{related}
use Rattle.scheme_stands.specs.Words.{Fn}
use Rattle.reads_back.specs.Cores.{HasCore}
use Rattle.reads_back.proofs.LeavesRead.{value_tests}
use Rattle.reads_back.proofs.Mentions.{mentions_in}
use Rattle.reads_back.proofs.MentionsMeant.{Meant, meant_on, meant_then, mentions_meant, operand_meant, rk_meant, word_keeps}
use Rattle.reads_back.proofs.TestedAs.{HasTest, HasTestBy}

module _ (g : Fn) (active : List Active) (free : ℕ) (truth : Bool) (label : ℕ) where
  tested_meant : (e : Expression) → HasCore e → Meant g active (mentions_in e) (TestAt g active (related g e) free truth label)
  tested_meant e has p q at =
      meant_on (meant_on {q = at.words_at.mid} (operand_meant (mentions_in e) (related g e) (mentions_meant g active e has) free at.x at.free1 p at.mid at.operand_at) (word_keeps at.words_at.first_at)) (word_keeps at.words_at.second_at)

  compared_meant : (op : BinaryOp) (l r : Expression) → HasCore l → HasCore r → Meant g active (mentions_in l ++ mentions_in r) (CompareAt g op (related g l) (related g r) active free truth label)
  compared_meant op l r has_l has_r p q at =
      let first = rk_meant (mentions_in l) (related g l) (mentions_meant g active l has_l) free at.x at.free1 p at.mid at.left_at in
      let second = rk_meant (mentions_in r) (related g r) (mentions_meant g active r has_r) at.free1 at.y at.free2 at.mid at.last at.right_at in
      meant_on (meant_on {q = at.words_at.mid} (meant_then (mentions_in l) (mentions_in r) first second) (word_keeps at.words_at.first_at)) (word_keeps at.words_at.second_at)

  operator_meant : (compares : Bool) (line : ℕ) (op : BinaryOp) (l r : Expression) → is_comparison op ≡ compares → HasTestBy compares l r (binary_expression line op l r) → Meant g active (mentions_in (binary_expression line op l r)) ((related g (binary_expression line op l r)).jump_if active free truth label)
  operator_meant true line op l r is has p q at =
      let e = binary_expression line op l r in
      let value = rel_single g (form_of e) (LoadOr (fold e) g (BinaryAt g op (related g l) (related g r))) in
      compared_meant op l r has.0 has.1 p q (subst (λ (compares : Bool). BinaryJump compares g op (related g l) (related g r) value active free truth label p q) is at)
  operator_meant false line op l r is has p q at =
      let e = binary_expression line op l r in
      tested_meant e has.0 p q (value_tests g active free truth label p q e (subst (λ (compares : Bool). HasTestBy compares l r e) (sym is) has) has.0 has.1 at)

  pub test_meant : (e : Expression) → HasTest e → Meant g active (mentions_in e) ((related g e).jump_if active free truth label)
  test_meant (binary_expression line op l r) has p q at = operator_meant (is_comparison op) line op l r refl has p q at
  test_meant (unary_expression line UnaryOp.Not e) has p q at = absurd has
  test_meant (parenthesized line e) has p q at = absurd has
  test_meant e has p q at = tested_meant e has.0 p q (value_tests g active free truth label p q e has has.0 has.1 at)
