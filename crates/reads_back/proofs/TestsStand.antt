-- The steps on which a condition stands: each is a test or a jump that stands where that of the condition does.
use Rattle.std.proofs.Common.{◌≡◌, ◌≤◌, ℕ, suc, Bool, true, false, not, inl, inr, List, length, refl, sym, ◌∙◌, subst, arith}
use Rattle.std.proofs.lemmas.Option.{same_Some}
use Rattle.std.specs.Prelude.{Option, Some, None}
use Rattle.std.specs.Bool.{beq}
use Rattle.lua_tree.specs.declared.tree.BinaryOp.{BinaryOp}
use Rattle.lua_tree.specs.declared.tree.UnaryOp.{UnaryOp}
use Rattle.lua_tree.specs.Syntax.{Expression, nil_literal, true_literal, false_literal, number_literal, text_literal, and_expression, or_expression, binary_expression, unary_expression, parenthesized}
use Rattle.proto.specs.declared.parts.Constant.{Constant}
use Rattle.recover_expr.specs.Drafts.{condition_part}
use Rattle.recover_expr.specs.declared.steps.StepKind.{StepKind}
use Rattle.scheme.specs.Expressions.{fold, is_true_constant, literal}
use Rattle.scheme.specs.Making.{Maker, new_label, place}
use Rattle.scheme.specs.Scheme.{coded}
use Rattle.scheme.specs.declared.making.Active.{Active}
use Rattle.scheme_stands.proofs.Growth.{calm, length_end, spot}
use Rattle.scheme_stands.proofs.Parts.{grows}
use Rattle.scheme_stands.specs.Expressions.{BinaryAt, LoadOr, Rel, TestBy, UnaryAt, form_of, rel_alone}
use Rattle.scheme_stands.specs.Relation.{related}
use Rattle.scheme_stands.specs.Words.{Fn, JumpOn, Spot}
use Rattle.same_flow.specs.Laid.{AloneLaid, HasStep, IsNegated, IsSaid, LiteralLaid, TestLaid, label_of}
use Rattle.same_flow.specs.Renaming.{StatementsRename}
use Rattle.same_flow.specs.SameFlow.{HasPlainParts}
use Rattle.same_flow.proofs.Followed.{Follows, LastTo, Run, at_pc, followed, last_weaker, nought, pc_of, relabelled}
use Rattle.same_flow.proofs.StepsTold.{before, before_active}
use Rattle.same_flow.proofs.TestsFollowed.{IsLeaf, test_goes}
use Rattle.reads_back.proofs.LabelsStand.{Owned, owned_before, owned_later, owned_placed, owned_unplaced}
use Rattle.reads_back.proofs.StepsStand.{Standing, at_spot, behind_spot, jump_stands, stands_both, stands_nowhere, stands_to, step_stands}
use Rattle.reads_back.specs.Through.{Between, TestThrough, pc_of_label}

-- ---- as what an expression is tested

module _ (g : Fn) (active : List Active) (free label : ℕ) (p q : Spot) where
  -- `~=` is tested as `==`
  negated_stands : (tested e : Expression) → IsNegated tested e → (sense : Bool) → (related g e).jump_if active free sense label p q → (related g tested).jump_if active free (not sense) label p q
  negated_stands (binary_expression line BinaryOp.Eq left right) e h sense at = subst (λ x. (related g x).jump_if active free sense label p q) h.1 at
  negated_stands tested e h sense at = absurd h

  said_stands : (e : Expression) (sense : Bool) (tested : Expression) (when : Bool) → IsSaid e sense tested when → (related g e).jump_if active free sense label p q →
      (related g tested).jump_if active free when label p q
  said_stands e sense tested when (inl h) at =
      subst (λ x. (related g x).jump_if active free when label p q) (sym h.0) (subst (λ truth. (related g e).jump_if active free truth label p q) (sym h.1) at)
  said_stands e sense tested when (inr h) at = subst (λ truth. (related g tested).jump_if active free truth label p q) (sym h.1) (negated_stands tested e h.0 sense at)

  by_literal : (k : Constant) (o : Option Constant) → o ≡ Some k → (c : Rel) (truth : Bool) → TestBy o g active c free truth label p q → JumpOn g (beq truth (is_true_constant k)) label p q
  by_literal k o e c truth at = subst (λ x. TestBy x g active c free truth label p q) e at

  by_constant : (c k : Constant) → Some c ≡ Some k → (truth : Bool) → JumpOn g (beq truth (is_true_constant c)) label p q → JumpOn g (beq truth (is_true_constant k)) label p q
  by_constant c k e truth at = subst (λ x. JumpOn g (beq truth (is_true_constant x)) label p q) (same_Some c k e) at

  -- a literal jumps or does not, by its own truth
  literal_jumps : (e : Expression) → IsLeaf e → (k : Constant) → literal e ≡ Some k → (truth : Bool) → (related g e).jump_if active free truth label p q →
      JumpOn g (beq truth (is_true_constant k)) label p q
  literal_jumps (nil_literal line) leaf k is truth at = by_constant Constant.Nil k is truth at
  literal_jumps (true_literal line) leaf k is truth at = by_constant (Constant.Bool true) k is truth at
  literal_jumps (false_literal line) leaf k is truth at = by_constant (Constant.Bool false) k is truth at
  literal_jumps (number_literal line n) leaf k is truth at = by_constant (Constant.Number n) k is truth at
  literal_jumps (text_literal line text) leaf k is truth at = by_constant (Constant.Text text) k is truth at
  literal_jumps (binary_expression line BinaryOp.Eq left right) leaf k is truth at = cc
  literal_jumps (binary_expression line BinaryOp.Ne left right) leaf k is truth at = cc
  literal_jumps (binary_expression line BinaryOp.Lt left right) leaf k is truth at = cc
  literal_jumps (binary_expression line BinaryOp.Le left right) leaf k is truth at = cc
  literal_jumps (binary_expression line BinaryOp.Gt left right) leaf k is truth at = cc
  literal_jumps (binary_expression line BinaryOp.Ge left right) leaf k is truth at = cc
  literal_jumps (binary_expression line op left right) leaf k is truth at =
      let e = binary_expression line op left right in
      by_literal k (literal e) is (rel_alone g (form_of e) (LoadOr (fold e) g (BinaryAt g op (related g left) (related g right)))) truth at
  literal_jumps (unary_expression line UnaryOp.Not e) leaf k is truth at = absurd leaf
  literal_jumps (unary_expression line op e) leaf k is truth at =
      let whole = unary_expression line op e in
      by_literal k (literal whole) is (rel_alone g (form_of whole) (LoadOr (fold whole) g (UnaryAt g op (related g e)))) truth at
  literal_jumps (parenthesized line e) leaf k is truth at = absurd leaf
  literal_jumps e leaf k is truth at = cc

-- ---- single steps

module _ (g : Fn) (z : Maker) (run : Run) where
  -- a literal is a jump or nothing
  literal_stands : (active : List Active) (m : Maker) (ends : List ℕ) (jumps : Bool) (pc target from to : ℕ) (q : Spot) → Follows run nought nought m ends from →
      LiteralLaid run.code active jumps target from to → pc ≡ pc_of run target → JumpOn g jumps pc (spot m) q → Standing g run from to
  literal_stands active m ends true pc target from to q follows laid e at = stands_to laid.1 (jump_stands follows laid.0 e at)
  literal_stands active m ends false pc target from to q follows laid e at = stands_nowhere g run from to laid

  -- what is tested as a whole
  leaf_stands : (active : List Active) (m : Maker) (ends : List ℕ) (e : Expression) (sense : Bool) (label target from : ℕ) (when : Bool) (levels : ℕ) (tested : Expression) →
      Follows run nought nought m ends from → Follows run nought nought ((coded e).jump_if sense label m) ends (suc from) → LastTo (suc from) ends →
      HasStep run.code active from (StepKind.Test when target levels) (condition_part tested) → IsSaid e sense tested when → pc_of_label z label ≡ pc_of run target →
      Between ((related g e).jump_if m.active (length m.active) sense (pc_of_label z label)) m ((coded e).jump_if sense label m) → Standing g run from (suc from)
  leaf_stands active m ends e sense label target from when levels tested follows reached l laid is pc at =
      let now = before run from in
      let one = said_stands g m.active (length m.active) (pc_of_label z label) (spot m) (spot ((coded e).jump_if sense label m)) e sense tested when is at in
      let two = subst (λ x. (related g tested).jump_if m.active (length m.active) when x (spot m) (spot ((coded e).jump_if sense label m))) pc one in
      let three = subst (λ (a : List Active). (related g tested).jump_if a (length a) when (pc_of run target) (spot m) (spot ((coded e).jump_if sense label m))) (sym (before_active follows l)) two in
      let four = subst (λ x. (related g tested).jump_if now.active (length now.active) when (pc_of run target) x (spot ((coded e).jump_if sense label m))) (at_spot follows) three in
      step_stands (StepKind.Test when target levels) (condition_part tested) laid
      (subst (λ x. (related g tested).jump_if now.active (length now.active) when (pc_of run target) (spot now) x) (behind_spot laid reached) four)

  -- either of both
  alone_stands : (active : List Active) (m : Maker) (ends : List ℕ) (e : Expression) (o : Option Constant) → literal e ≡ o → IsLeaf e → (sense : Bool) (label target from to : ℕ) →
      Follows run nought nought m ends from → Follows run nought nought ((coded e).jump_if sense label m) ends to → LastTo to ends → AloneLaid run.code active o e sense target from to →
      pc_of_label z label ≡ pc_of run target → Between ((related g e).jump_if m.active (length m.active) sense (pc_of_label z label)) m ((coded e).jump_if sense label m) → Standing g run from to
  alone_stands active m ends e (Some k) is leaf sense label target from to follows reached l laid pc at =
      literal_stands active m ends (beq sense (is_true_constant k)) (pc_of_label z label) target from to (spot ((coded e).jump_if sense label m)) follows laid.1 pc
      (literal_jumps g m.active (length m.active) (pc_of_label z label) (spot m) (spot ((coded e).jump_if sense label m)) e leaf k is sense at)
  alone_stands active m ends e None is leaf sense label target from to follows reached l (when, levels, tested, laid, s, t) pc at =
      stands_to t (leaf_stands active m ends e sense label target from when levels tested follows (subst (λ x. Follows run nought nought ((coded e).jump_if sense label m) ends x) t reached)
      (subst (λ x. LastTo x ends) t l) laid s pc at)

  -- ---- conditions

  module _ (renames : StatementsRename) (plain : HasPlainParts run.code) where
    abbrev TestStands : Expression → Type 0
    TestStands e =
        (active : List Active) (sense : Bool) (label target from to : ℕ) (m : Maker) (ends : List ℕ) → Follows run nought nought m ends from → LastTo to ends → TestLaid run.code active e sense target from to →
        TestThrough g z e sense label m → pc_of_label z label ≡ pc_of run target → Owned (label_of m) ((coded e).jump_if sense label m).labels z → Standing g run from to

    -- an operand, and the other behind it
    both_stand : (left right : Expression) → TestStands left → TestStands right → (active : List Active) (other sense : Bool) (over label first second from mid to : ℕ) (m : Maker) (ends : List ℕ) →
        Follows run nought nought m ends from → LastTo to ends → mid ≤ to → TestLaid run.code active left other first from mid → TestLaid run.code active right sense second mid to →
        TestThrough g z left other over m → TestThrough g z right sense label ((coded left).jump_if other over m) →
        pc_of_label z over ≡ pc_of run first → pc_of_label z label ≡ pc_of run second → Owned (label_of m) ((coded right).jump_if sense label ((coded left).jump_if other over m)).labels z →
        Standing g run from to
    both_stand left right one two active other sense over label first second from mid to m ends follows l h left_laid right_laid left_through right_through a b owned =
        let o = (coded left).jump_if other over m in
        let grown = (grows calm left).jump_if other over m in
        let early = last_weaker mid to ends h l in
        let reached = followed (test_goes run renames plain active m ends left other over first from mid left_laid early) follows in
        stands_both g run from mid to (one active other over first from mid m ends follows early left_laid left_through a (owned_before ((grows calm right).jump_if sense label o) owned))
        (two active sense label second mid to o ends reached l right_laid right_through b (owned_later grown.more owned))

    -- the first goes over the second
    over_stand : (left right : Expression) → TestStands left → TestStands right → (active : List Active) (other sense : Bool) (label target from mid to : ℕ) (m : Maker) (ends : List ℕ) →
        Follows run nought nought m ends from → LastTo to ends → mid ≤ to → TestLaid run.code active left other to from mid → TestLaid run.code active right sense target mid to →
        TestThrough g z left other (label_of m) (new_label m).after → TestThrough g z right sense label ((coded left).jump_if other (label_of m) (new_label m).after) →
        pc_of_label z label ≡ pc_of run target → Follows run nought nought (place (label_of m) ((coded right).jump_if sense label ((coded left).jump_if other (label_of m) (new_label m).after))) ends to →
        Owned (label_of m) (place (label_of m) ((coded right).jump_if sense label ((coded left).jump_if other (label_of m) (new_label m).after))).labels z → Standing g run from to
    over_stand left right one two active other sense label target from mid to m ends follows l h left_laid right_laid left_through right_through a reached owned =
        let over = label_of m in
        let begun = (new_label m).after in
        let o = (coded left).jump_if other over begun in
        let made = (coded right).jump_if sense label o in
        let count = length_end m.labels 0 in
        let grown = (grows calm left).jump_if other over begun in
        let further = (grows calm right).jump_if sense label o in
        both_stand left right one two active other sense over label to target from mid to begun ends (relabelled _ follows) l h left_laid right_laid left_through right_through
        (owned_placed over made (omega arith) (omega (arith, count, grown.more, further.more)) owned ∙ at_pc reached) a (owned_later (omega (arith, count)) (owned_unplaced over made (omega arith) owned))

    -- all steps of a condition
    pub test_stands : (e : Expression) → TestStands e
    test_stands (and_expression line left right) active false label target from to m ends follows l (mid, a, b, one, two) through pc owned =
        both_stand left right (test_stands left) (test_stands right) active false false label label target target from mid to m ends follows l b one two through.0 through.1 pc pc owned
    test_stands (and_expression line left right) active true label target from to m ends follows l (mid, a, b, one, two) through pc owned =
        over_stand left right (test_stands left) (test_stands right) active false true label target from mid to m ends follows l b one two through.0 through.1 pc
        (followed (test_goes run renames plain active m ends (and_expression line left right) true label target from to (mid, a, b, one, two) l) follows) owned
    test_stands (or_expression line left right) active true label target from to m ends follows l (mid, a, b, one, two) through pc owned =
        both_stand left right (test_stands left) (test_stands right) active true true label label target target from mid to m ends follows l b one two through.0 through.1 pc pc owned
    test_stands (or_expression line left right) active false label target from to m ends follows l (mid, a, b, one, two) through pc owned =
        over_stand left right (test_stands left) (test_stands right) active true false label target from mid to m ends follows l b one two through.0 through.1 pc
        (followed (test_goes run renames plain active m ends (or_expression line left right) false label target from to (mid, a, b, one, two) l) follows) owned
    test_stands (unary_expression line UnaryOp.Not e) active sense label target from to m ends follows l laid through pc owned = test_stands e active (not sense) label target from to m ends follows l laid through pc owned
    test_stands (parenthesized line e) active sense label target from to m ends follows l laid through pc owned = test_stands e active sense label target from to m ends follows l laid through pc owned
    test_stands e active sense label target from to m ends follows l laid through pc owned =
        alone_stands active m ends e (literal e) refl tt sense label target from to follows (followed (test_goes run renames plain active m ends e sense label target from to laid l) follows) l laid pc through
