-- A condition follows the steps that it stands on.
use Rattle.std.proofs.Common.{◌≡◌, ℕ, suc, ◌+◌, Bool, true, false, not, cond, inl, inr, List, [], ◌∷◌, refl, sym, ap, ap₂, ◌∙◌, arith, subst}
use Rattle.std.proofs.lemmas.Option.{none-some}
use Rattle.std.specs.Prelude.{Option, Some, None, option_map, length}
use Rattle.std.specs.Bool.{beq}
use Rattle.lua_tree.specs.OneLine.{one_line_expression}
use Rattle.lua_tree.specs.declared.tree.BinaryOp.{BinaryOp}
use Rattle.lua_tree.specs.declared.tree.UnaryOp.{UnaryOp}
use Rattle.lua_tree.specs.Syntax.{Expression, nil_literal, true_literal, false_literal, vararg_expression, number_literal, text_literal, name_expression, function_expression, index_expression, field_expression, call_expression, method_call, and_expression, or_expression, binary_expression, unary_expression, constructor, parenthesized}
use Rattle.opcode.specs.declared.op.Op.{Op}
use Rattle.proto.specs.declared.parts.Constant.{Constant}
use Rattle.recover_expr.specs.Drafts.{condition_part}
use Rattle.recover_expr.specs.Placing.{Steps}
use Rattle.recover_expr.specs.declared.steps.Step.{Step}
use Rattle.recover_expr.specs.declared.steps.StepKind.{StepKind}
use Rattle.scheme.specs.Making as making
use Rattle.scheme.specs.Making.{Maker, nothing, put, new_label, place, jump_to, free_from, freeing, active_count, when}
use Rattle.scheme.specs.Expressions.{Coded, literal, is_true_constant, plain_multi, no_target, load, name_value, indexed_value, rk, rk_text, load_or, fold, binary_value, unary_value, jump_literal, test_by}
use Rattle.scheme.specs.Lists.{by_base, call_at, method_at, table_at}
use Rattle.scheme.specs.Functions.{closure}
use Rattle.scheme.specs.Scheme.{coded, given, entries, inner}
use Rattle.scheme.specs.declared.making.Piece.{Piece}
use Rattle.scheme.specs.declared.making.Active.{Active}
use Rattle.same_flow.specs.Laid.{IsStep, HasStep, IsJump, IsNegated, IsSaid, LiteralLaid, AloneLaid, TestLaid, label_of}
use Rattle.same_flow.specs.Performed.{kind_at}
use Rattle.same_flow.specs.Renaming.{StatementsRename}
use Rattle.same_flow.specs.SameFlow.{HasPlainParts}
use Rattle.same_flow.proofs.KeptActive.{active_kept, kept}
use Rattle.same_flow.proofs.Endings.{numbered, alike_put, labels_kept}
use Rattle.same_flow.proofs.Followed.{Run, Goes, OneStep, LastTo, last_weaker, append_nothing, settle_same, stays, ◌onward◌, within, made_as, ends_as, label_ends, one_step}

-- ---- what is tested as a whole

abbrev line_of : Expression → ℕ
line_of (nil_literal line) = line
line_of (true_literal line) = line
line_of (false_literal line) = line
line_of (vararg_expression line) = line
line_of (number_literal line n) = line
line_of (text_literal line text) = line
line_of (name_expression line text) = line
line_of (function_expression line body) = line
line_of (index_expression line on key) = line
line_of (field_expression line on text) = line
line_of (call_expression line on args on_line) = line
line_of (method_call line on text args on_line) = line
line_of (and_expression line left right) = line
line_of (or_expression line left right) = line
line_of (binary_expression line op left right) = line
line_of (unary_expression line op e) = line
line_of (constructor line _) = line
line_of (parenthesized line e) = line

-- F stays, and a literal is a jump or nothing
record Leaf (e : Expression) : Type 0 where
  free : (truth : Bool) (label : ℕ) (m : Maker) → ((coded e).jump_if truth label m).free ≡ m.free
  alone : (k : Constant) → literal e ≡ Some k → one_line_expression e ≡ e → (truth : Bool) (label : ℕ) (m : Maker) → (coded e).jump_if truth label m ≡ jump_literal 1 k truth label m

when_free : (b : Bool) (line label : ℕ) (m : Maker) → (when b (jump_to line label) m).free ≡ m.free
when_free true line label m = refl
when_free false line label m = refl

test_by_free : (o : Option Constant) (line : ℕ) (c : Coded) (truth : Bool) (label : ℕ) (m : Maker) → (test_by o line c truth label m).free ≡ m.free
test_by_free (Some k) line c truth label m = when_free (beq truth (is_true_constant k)) line label m
test_by_free None line c truth label m = refl

abbrev by_value : Expression → (ℕ → making.Part) → Coded
by_value e to = record { e = e; to_reg = λ r. freeing (to r); jump_if = λ truth label. nothing; spine = nothing; multi = plain_multi; target = no_target }

leaf_by : (line : ℕ) (e : Expression) (to : ℕ → making.Part) → ((truth : Bool) (label : ℕ) (m : Maker) → (coded e).jump_if truth label m ≡ test_by (literal e) line (by_value e to) truth label m) →
    (one_line_expression e ≡ e → line ≡ 1) → Leaf e
leaf_by line e to is first = record {
  free = λ truth label m. ap (λ (n : Maker). n.free) (is truth label m) ∙ test_by_free (literal e) line (by_value e to) truth label m;
  alone = λ k h o truth label m. is truth label m ∙ ap₂ (λ x l. test_by x l (by_value e to) truth label m) h (first o);
}

comparison_leaf : (line : ℕ) (op : BinaryOp) (left right : Expression) → literal (binary_expression line op left right) ≡ None →
    ((truth : Bool) (label : ℕ) (m : Maker) → ((coded (binary_expression line op left right)).jump_if truth label m).free ≡ m.free) → Leaf (binary_expression line op left right)
comparison_leaf line op left right none free = record { free = free; alone = λ k h. absurd (none-some k (sym none ∙ h)) }

binary_leaf : (line : ℕ) (op : BinaryOp) (left right : Expression) → Leaf (binary_expression line op left right)
binary_leaf line BinaryOp.Eq left right = comparison_leaf line BinaryOp.Eq left right refl (λ truth label m. refl)
binary_leaf line BinaryOp.Ne left right = comparison_leaf line BinaryOp.Ne left right refl (λ truth label m. refl)
binary_leaf line BinaryOp.Lt left right = comparison_leaf line BinaryOp.Lt left right refl (λ truth label m. refl)
binary_leaf line BinaryOp.Le left right = comparison_leaf line BinaryOp.Le left right refl (λ truth label m. refl)
binary_leaf line BinaryOp.Gt left right = comparison_leaf line BinaryOp.Gt left right refl (λ truth label m. refl)
binary_leaf line BinaryOp.Ge left right = comparison_leaf line BinaryOp.Ge left right refl (λ truth label m. refl)
binary_leaf line op left right =
    let e = binary_expression line op left right in
    leaf_by line e (load_or (fold e) line (binary_value line op (coded left) (coded right))) (λ truth label m. refl) (λ h. sym (ap line_of h))

unary_leaf : (line : ℕ) (op : UnaryOp) (e : Expression) →
    ((truth : Bool) (label : ℕ) (m : Maker) → (coded (unary_expression line op e)).jump_if truth label m ≡ test_by (literal (unary_expression line op e)) line
    (by_value (unary_expression line op e) (load_or (fold (unary_expression line op e)) line (unary_value line op (coded e)))) truth label m) → Leaf (unary_expression line op e)
unary_leaf line op e is = let it = unary_expression line op e in leaf_by line it (load_or (fold it) line (unary_value line op (coded e))) is (λ h. sym (ap line_of h))

-- `and`, `or`, `not` and parentheses are tested by what is in them
abbrev pub IsLeaf : Expression → Type 0
IsLeaf (and_expression line left right) = ⊥
IsLeaf (or_expression line left right) = ⊥
IsLeaf (unary_expression line UnaryOp.Not e) = ⊥
IsLeaf (parenthesized line e) = ⊥
IsLeaf e = Unit {0}

leaf : (e : Expression) → IsLeaf e → Leaf e
leaf (nil_literal line) is = leaf_by line (nil_literal line) (λ r. put line (Piece.Abc Op.LoadNil r r 0)) (λ truth label m. refl) (λ h. sym (ap line_of h))
leaf (true_literal line) is = leaf_by line (true_literal line) (λ r. put line (Piece.Abc Op.LoadBool r 1 0)) (λ truth label m. refl) (λ h. sym (ap line_of h))
leaf (false_literal line) is = leaf_by line (false_literal line) (λ r. put line (Piece.Abc Op.LoadBool r 0 0)) (λ truth label m. refl) (λ h. sym (ap line_of h))
leaf (vararg_expression line) is = leaf_by line (vararg_expression line) (λ r. put line (Piece.Abc Op.Vararg r 2 0)) (λ truth label m. refl) (λ h. sym (ap line_of h))
leaf (number_literal line n) is = leaf_by line (number_literal line n) (λ r. load line r (Constant.Number n)) (λ truth label m. refl) (λ h. sym (ap line_of h))
leaf (text_literal line text) is = leaf_by line (text_literal line text) (λ r. load line r (Constant.Text text)) (λ truth label m. refl) (λ h. sym (ap line_of h))
leaf (name_expression line text) is = leaf_by line (name_expression line text) (name_value line text) (λ truth label m. refl) (λ h. sym (ap line_of h))
leaf (function_expression line body) is = leaf_by line (function_expression line body) (closure line (inner body false)) (λ truth label m. refl) (λ h. sym (ap line_of h))
leaf (index_expression line on key) is = leaf_by line (index_expression line on key) (indexed_value line (coded on) (rk (coded key))) (λ truth label m. refl) (λ h. sym (ap line_of h))
leaf (field_expression line on text) is = leaf_by line (field_expression line on text) (indexed_value line (coded on) (rk_text line text)) (λ truth label m. refl) (λ h. sym (ap line_of h))
leaf (call_expression line on args on_line) is =
    leaf_by line (call_expression line on args on_line) (by_base line (call_at line (coded on) (given args line) Op.Call (Some 1))) (λ truth label m. refl) (λ h. sym (ap line_of h))
leaf (method_call line on text args on_line) is =
    leaf_by line (method_call line on text args on_line) (by_base line (method_at line (coded on) text (given args line) Op.Call (Some 1))) (λ truth label m. refl) (λ h. sym (ap line_of h))
leaf (binary_expression line op left right) is = binary_leaf line op left right
leaf (unary_expression line UnaryOp.Neg e) is = unary_leaf line UnaryOp.Neg e (λ truth label m. refl)
leaf (unary_expression line UnaryOp.Len e) is = unary_leaf line UnaryOp.Len e (λ truth label m. refl)
leaf (constructor line fields) is = leaf_by line (constructor line fields) (by_base line (table_at line (entries fields))) (λ truth label m. refl) (λ h. sym (ap line_of h))
leaf e is = absurd is

both_free : (b : Bool) (one two : making.Part) (m : Maker) → (one m).free ≡ m.free → (two m).free ≡ m.free → (cond b one two m).free ≡ m.free
both_free true one two m p q = p
both_free false one two m p q = q

-- a condition leaves F as it is
jump_free : (e : Expression) (truth : Bool) (label : ℕ) (m : Maker) → ((coded e).jump_if truth label m).free ≡ m.free
jump_free (and_expression line left right) truth label m =
    both_free (beq false truth) _ _ m (jump_free right truth label _ ∙ jump_free left truth label m) (jump_free right truth label _ ∙ jump_free left (not truth) (label_of m) (new_label m).after)
jump_free (or_expression line left right) truth label m =
    both_free (beq true truth) _ _ m (jump_free right truth label _ ∙ jump_free left truth label m) (jump_free right truth label _ ∙ jump_free left (not truth) (label_of m) (new_label m).after)
jump_free (unary_expression line UnaryOp.Not e) truth label m = jump_free e (not truth) label m
jump_free (parenthesized line e) truth label m = jump_free e truth label m
jump_free e truth label m = (leaf e tt).free truth label m

-- `~=` is tested as `==`
negated : (tested e : Expression) → IsNegated tested e → (sense : Bool) (label : ℕ) (m : Maker) → (coded e).jump_if sense label m ≡ (coded tested).jump_if (not sense) label m
negated (binary_expression line BinaryOp.Eq left right) e h sense label m =
    ap (λ x. (coded x).jump_if sense label m) h.1 ∙ ap (λ l. (coded (binary_expression l BinaryOp.Eq left right)).jump_if (not sense) label m) (sym h.0)
negated tested e h sense label m = absurd h

said : (e : Expression) (sense : Bool) (tested : Expression) (when : Bool) → IsSaid e sense tested when → (label : ℕ) (m : Maker) →
    (coded e).jump_if sense label m ≡ (coded tested).jump_if when label m
said e sense tested when (inl h) label m = ap₂ (λ x t. (coded x).jump_if t label m) (sym h.0) (sym h.1)
said e sense tested when (inr h) label m = negated tested e h.0 sense label m ∙ ap (λ t. (coded tested).jump_if t label m) (sym h.1)

-- ---- steps that bring no local into scope

pub kind_there : {code : Steps} {active : List Active} {at : ℕ} {kind : StepKind} → IsStep code active at kind → kind_at code.steps at ≡ Some kind
kind_there S = ap (option_map (λ (step : Step). step.kind)) S.there ∙ ap Some S.is

pub none_new : (n : ℕ) → n ≡ n + length {A = ℕ} []
none_new n = omega arith

pub plain_step : {run : Run} {outer : List (ℕ × ℕ)} {m made : Maker} {ends : List ℕ} {p : ℕ} → OneStep run outer m p made [] → LastTo (suc p) ends → Goes run outer m ends p made ends (suc p)
plain_step {ends = ends} S l = ends_as (append_nothing ends) (one_step S l)

pub jump_step : {run : Run} {active : List Active} (m : Maker) (ends : List ℕ) (from label target : ℕ) → IsJump run.code active from target → LastTo (suc from) ends →
    Goes run ((label, target) ∷ []) m ends from (jump_to 1 label m) ends (suc from)
jump_step {run} m ends from label target J l = plain_step (record {
  kind = StepKind.Jump target;
  part = J.0;
  kind_is = kind_there J.1.0;
  part_is = J.1.1;
  makes = λ f g o n e h. (alike_put f g 1 _ _ (ap (λ x. Piece.Jump Op.Jmp 0 x) o.0)).alike m n h ∙ ap (numbered g) (sym (settle_same (jump_to 1 target n) e));
  labels = refl;
  count = none_new (active_count m);
  new_ends = refl;
}) l

-- ---- conditions

module _ (run : Run) (renames : StatementsRename) (plain : HasPlainParts run.code) where
  leaf_step : (active : List Active) (m : Maker) (ends : List ℕ) (e : Expression) (sense : Bool) (label target from : ℕ) (when : Bool) (levels : ℕ) (tested : Expression) →
      HasStep run.code active from (StepKind.Test when target levels) (condition_part tested) → IsSaid e sense tested when → LastTo (suc from) ends →
      Goes run ((label, target) ∷ []) m ends from ((coded e).jump_if sense label m) ends (suc from)
  leaf_step active m ends e sense label target from when levels tested H is l =
      let one = renames.tests in
      let t = plain from (condition_part tested) H.1 in
      made_as (sym (said e sense tested when is label m)) (plain_step (record {
        kind = StepKind.Test when target levels;
        part = condition_part tested;
        kind_is = kind_there H.0;
        part_is = H.1;
        makes = λ f g o n free h.
            (one f [] tested t when label).same m ∙ ap₂ (λ x (k : Maker). (coded tested).jump_if when x k) o.0 h ∙ sym ((one g [] tested t when target).same n)
            ∙ ap (numbered g) (sym (settle_same ((coded tested).jump_if when target n) (jump_free tested when target n ∙ free
            ∙ ap (λ (a : List Active). length a) (sym (active_kept ((kept tested).jump_if when target) n)))));
        labels = labels_kept _ m (one (λ n. n) m.labels tested t when label);
        count = ap (λ (a : List Active). length a) (active_kept ((kept tested).jump_if when label) m) ∙ none_new (active_count m);
        new_ends = refl;
      }) l)

  literal_goes : (active : List Active) (m : Maker) (ends : List ℕ) (jumps : Bool) (label target from to : ℕ) → LiteralLaid run.code active jumps target from to → LastTo to ends →
      Goes run ((label, target) ∷ []) m ends from (when jumps (jump_to 1 label) m) ends to
  literal_goes active m ends true label target from to H l =
      subst (λ t. Goes run ((label, target) ∷ []) m ends from (jump_to 1 label m) ends t) (sym H.1) (jump_step m ends from label target H.0 (subst (λ t. LastTo t ends) H.1 l))
  literal_goes active m ends false label target from to H l = subst (λ t. Goes run ((label, target) ∷ []) m ends from m ends t) (sym H) stays

  alone_goes : (active : List Active) (m : Maker) (ends : List ℕ) (e : Expression) (o : Option Constant) → literal e ≡ o → Leaf e → (sense : Bool) (label target from to : ℕ) →
      AloneLaid run.code active o e sense target from to → LastTo to ends → Goes run ((label, target) ∷ []) m ends from ((coded e).jump_if sense label m) ends to
  alone_goes active m ends e (Some k) is L sense label target from to H l =
      made_as (sym (L.alone k is H.0 sense label m)) (literal_goes active m ends (beq sense (is_true_constant k)) label target from to H.1 l)
  alone_goes active m ends e None is L sense label target from to (when, levels, tested, H, s, t) l =
      subst (λ x. Goes run ((label, target) ∷ []) m ends from ((coded e).jump_if sense label m) ends x) (sym t)
      (leaf_step active m ends e sense label target from when levels tested H s (subst (λ x. LastTo x ends) t l))

  pub test_goes : (active : List Active) (m : Maker) (ends : List ℕ) (e : Expression) (sense : Bool) (label target from to : ℕ) → TestLaid run.code active e sense target from to → LastTo to ends →
      Goes run ((label, target) ∷ []) m ends from ((coded e).jump_if sense label m) ends to
  test_goes active m ends (and_expression line left right) false label target from to (mid, a, b, one, two) l =
      test_goes active m ends left false label target from mid one (last_weaker mid to ends b l) onward test_goes active _ ends right false label target mid to two l
  test_goes active m ends (and_expression line left right) true label target from to (mid, a, b, one, two) l =
      let over = label_of m in
      label_ends (within (λ f g o. (o.0, tt)) (test_goes active (new_label m).after ends left false over to from mid one (last_weaker mid to ends b l))
      onward within (λ f g o. (o.1.0, tt)) (test_goes active _ ends right true label target mid to two l))
  test_goes active m ends (or_expression line left right) true label target from to (mid, a, b, one, two) l =
      test_goes active m ends left true label target from mid one (last_weaker mid to ends b l) onward test_goes active _ ends right true label target mid to two l
  test_goes active m ends (or_expression line left right) false label target from to (mid, a, b, one, two) l =
      let over = label_of m in
      label_ends (within (λ f g o. (o.0, tt)) (test_goes active (new_label m).after ends left true over to from mid one (last_weaker mid to ends b l))
      onward within (λ f g o. (o.1.0, tt)) (test_goes active _ ends right false label target mid to two l))
  test_goes active m ends (unary_expression line UnaryOp.Not e) sense label target from to H l = test_goes active m ends e (not sense) label target from to H l
  test_goes active m ends (parenthesized line e) sense label target from to H l = test_goes active m ends e sense label target from to H l
  test_goes active m ends e sense label target from to H l = alone_goes active m ends e (literal e) refl (leaf e tt) sense label target from to H l
