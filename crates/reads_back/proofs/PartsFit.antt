-- What is written of a step is a part of its kind: of an act, a declaration, a test that is tested as a whole, or the head of a loop.
use Rattle.std.proofs.Common.{◌≡◌, ◌≤◌, ℕ, Bool, true, false, List, length, refl, sym, ap, ◌∙◌, subst}
use Rattle.std.specs.Prelude.{None, Option, Some, slice_get, if◌then◌else◌}
use Rattle.lua_num.specs.Bytes.{Text}
use Rattle.lua_num.specs.declared.arith.ArithOp.{ArithOp}
use Rattle.lua_tree.specs.Outline as outline
use Rattle.lua_tree.specs.Syntax as syntax
use Rattle.lua_tree.specs.Syntax.{Expression, Expressions, FunctionBody, Statement, Statements, assignment, binary_expression, call_expression, call_statement, constructor, field_expression, function_expression, function_statement, index_expression, local_function, local_statement, method_call, name_expression, no_expressions, parenthesized, return_statement, unary_expression, vararg_expression}
use Rattle.lua_tree.specs.WellFormed.{depth_of_expression}
use Rattle.lua_tree.specs.declared.tree.BinaryOp.{BinaryOp}
use Rattle.lua_tree.specs.declared.tree.UnaryOp.{UnaryOp}
use Rattle.core_expr.specs.Places.{Place, place}
use Rattle.core_expr.specs.Targets.{Comparison, is_swapped, mirrored, word_both}
use Rattle.core_expr.specs.Values.{Inner, OperandValue}
use Rattle.core_expr.specs.Writing.{function_left}
use Rattle.recover_expr.specs.Drafts.{Drafted, Part, condition_part, head_part, nothing_part, statement_part, values_part}
use Rattle.recover_expr.specs.Placing.{Steps}
use Rattle.recover_expr.specs.Situation.{Function}
use Rattle.recover_expr.specs.Testing.{TestedValue, tested_comparison}
use Rattle.recover_expr.specs.declared.steps.Step.{Step}
use Rattle.recover_expr.specs.declared.steps.StepKind.{StepKind}
use Rattle.scheme.specs.Expressions.{fold, fold_binary, is_comparison, literal, plain_literal}
use Rattle.scheme.specs.Making.{Ahead, Maker}
use Rattle.scheme.specs.declared.making.Active.{Active}
use Rattle.scheme_stands.specs.Words.{Fn}
use Rattle.same_flow.specs.Alike.{IsKindLike}
use Rattle.same_flow.specs.Performed.{part_at}
use Rattle.same_flow.specs.Told.{AreCounted, IsActPart, IsDeclarationPart, IsLeaf, PartFits}
use Rattle.reads_back.specs.Acted.{Acted, IsActed, act_statement, assigned, assigned_levels, assigned_statement, called, declared, declared_function, local_by}
use Rattle.reads_back.specs.Assignments.{as_assignment}
use Rattle.reads_back.specs.Cores.{HasCore}
use Rattle.reads_back.specs.ReadAs.{part_of}
use Rattle.reads_back.proofs.FlowRead.{PartRead, writing}
use Rattle.reads_back.proofs.FlowThere.{IsFlowFunction, StepIs, before_at, made_at, pcs}
use Rattle.reads_back.proofs.HeadValues.{head_wording}
use Rattle.reads_back.proofs.HeadsFormed.{head_of_written}
use Rattle.reads_back.proofs.HeadsSame.{AreCounted as AreNumbered, AreOfHead}
use Rattle.reads_back.proofs.PartsCases.{Cases, IsActKind, IsLoneKind, TestThere, by_cases}
use Rattle.reads_back.proofs.PartsFormed.{returned_holds}
use Rattle.reads_back.proofs.Paths.{function_as_holds, named_or_holds}
use Rattle.reads_back.proofs.PlacedReads.{ArePlaced, placed_read}
use Rattle.reads_back.proofs.Rewriting.{AreAgain, IsMadeBy, wording}
use Rattle.reads_back.proofs.TestedAs.{HasTest, HasTestBy, IsTested, IsTestedBy, IsValueTested, comparison_by, comparison_of, condition_word, is_turned, word_op}
use Rattle.reads_back.proofs.TestsLow.{no_arithmetic}
use Rattle.reads_back.proofs.ValuesTested.{IsTestedWhole, literal_none, no_fold, written_whole}
use Rattle.reads_back.proofs.WrittenSame.{rewritten_all}

-- ---- acts and declarations

local_declares : (text : Text) (found : Option Inner) → IsDeclarationPart (local_by text found)
local_declares text None = tt
local_declares text (Some found) = tt

-- an act is written as one, and a declaration as one
acts_as : (at : Place) (n : ℕ) (fs : List (Option Inner)) (g : Fn) (active : List Active) (s : Statement) (before behind : ℕ) (acted : Acted) → IsActPart s → IsActed g active s before behind acted →
    IsActPart (act_statement at n fs acted)
acts_as at n fs g active (call_statement e) before behind (called v) fits is = tt
acts_as at n fs g active (assignment targets es) before behind (assigned ts vs all last) fits is =
    named_or_holds (λ s levels. IsActPart s) at fs ts vs last (assigned_statement at n fs ts vs all last) (assigned_levels at n fs ts vs all last) tt
    (λ path found named. function_as_holds IsActPart path found.body tt (λ long takes. tt))
acts_as at n fs g active (local_statement names es) before behind acted fits is = absurd fits
acts_as at n fs g active (local_function text body) before behind acted fits is = absurd fits
acts_as at n fs g active (return_statement es) before behind acted fits is = absurd fits
acts_as at n fs g active s before behind acted fits is = absurd is

declares_as : (at : Place) (n : ℕ) (fs : List (Option Inner)) (g : Fn) (active : List Active) (s : Statement) (before behind : ℕ) (acted : Acted) → IsDeclarationPart s → IsActed g active s before behind acted →
    IsDeclarationPart (act_statement at n fs acted)
declares_as at n fs g active (local_statement names es) before behind (declared others vs all) fits is = tt
declares_as at n fs g active (local_function text body) before behind (declared others vs all) fits is = tt
declares_as at n fs g active (local_function text body) before behind (declared_function name number) fits is = local_declares name (function_left fs number)
declares_as at n fs g active (call_statement e) before behind acted fits is = absurd fits
declares_as at n fs g active (assignment targets es) before behind acted fits is = absurd fits
declares_as at n fs g active (return_statement es) before behind acted fits is = absurd fits
declares_as at n fs g active s before behind acted fits is = absurd is

-- such a statement stands in its step as it is
act_fits : (s : Statement) → IsActPart s → PartFits StepKind.Act (part_of s)
act_fits (return_statement es) fits = absurd fits
act_fits s fits = fits

declaration_fits : (end : ℕ) (captured : Bool) (s : Statement) → IsDeclarationPart s → PartFits (StepKind.Declaration end captured) (part_of s)
declaration_fits end captured (return_statement es) fits = absurd fits
declaration_fits end captured s fits = fits

written_fits : (at : Place) (n : ℕ) (fs : List (Option Inner)) (g : Fn) (active : List Active) (kind : StepKind) (s : Statement) (before behind : ℕ) (acted : Acted) → IsActKind kind →
    PartFits kind (statement_part s) → IsActed g active s before behind acted → PartFits kind (part_of (act_statement at n fs acted))
written_fits at n fs g active StepKind.Act s before behind acted act fits is = act_fits (act_statement at n fs acted) (acts_as at n fs g active s before behind acted fits is)
written_fits at n fs g active (StepKind.Declaration end captured) s before behind acted act fits is = declaration_fits end captured (act_statement at n fs acted) (declares_as at n fs g active s before behind acted fits is)
written_fits at n fs g active kind s before behind acted act fits is = absurd act

-- a function statement is an act, as its assignment is
assigned_act : (s : Statement) → IsActPart s → IsActPart (as_assignment s)
assigned_act (function_statement path method body) fits = tt
assigned_act s fits = fits

assigned_declaration : (s : Statement) → IsDeclarationPart s → IsDeclarationPart (as_assignment s)
assigned_declaration (function_statement path method body) fits = absurd fits
assigned_declaration s fits = fits

assigned_fits : (kind : StepKind) (s : Statement) → IsActKind kind → PartFits kind (statement_part s) → PartFits kind (statement_part (as_assignment s))
assigned_fits StepKind.Act s is fits = assigned_act s fits
assigned_fits (StepKind.Declaration end captured) s is fits = assigned_declaration s fits
assigned_fits kind s is fits = absurd is

-- ---- the words of a test

-- its comparison has an operator that compares
word_compares : (op : BinaryOp) → is_comparison (word_op op) ≡ true
word_compares BinaryOp.Lt = refl
word_compares BinaryOp.Le = refl
word_compares BinaryOp.Gt = refl
word_compares BinaryOp.Ge = refl
word_compares op = refl

mirror_compares : (op : BinaryOp) → is_comparison op ≡ true → is_comparison (mirrored op) ≡ true
mirror_compares BinaryOp.Lt is = refl
mirror_compares BinaryOp.Le is = refl
mirror_compares op is = is

compares_by : (turned : Bool) (op : BinaryOp) (x y : ℕ) (first second : OperandValue) → is_comparison op ≡ true → is_comparison (comparison_by turned op x y first second).op ≡ true
compares_by true op x y first second is = is
compares_by false op x y first second is = is

-- what holds of a value that is tested as a whole, and of each comparison on line 1, holds of what is written of a test
pub record HoldsOfTests (Holds : Expression → Type 0) : Type 0 where
  pub whole : (e : Expression) → IsTestedWhole e → fold e ≡ None → Holds e
  pub compared : (op : BinaryOp) (left right : Expression) → is_comparison op ≡ true → Holds (binary_expression 1 op left right)

module _ (Holds : Expression → Type 0) (holds : HoldsOfTests Holds) (lefts : ℕ → List (Option Inner)) {f : Function} {g : Fn} {active : List Active} {listed : List ℕ} {z : Maker}
    (made : IsMadeBy f g active listed z) (again : AreAgain f g lefts) (n before behind : ℕ) where
  abbrev at_place : Place
  at_place = place f.of listed f.short

  abbrev HoldsWritten : TestedValue → Type 0
  HoldsWritten tested = Holds (condition_word at_place n (lefts before) tested).words

  value_holds : (e : Expression) → HasTest e → HasCore e → literal e ≡ None → depth_of_expression e ≤ 200 → (tested : TestedValue) →
      IsValueTested g active e before behind tested → HoldsWritten tested
  value_holds e test has none few tested (v, core, is) =
      let rewritten = (rewritten_all lefts made again e has few).value before behind v core in
      subst HoldsWritten (sym is)
      (holds.whole (wording f listed z lefts before n v).words (written_whole g active at_place (lefts before) e test has none before behind v core rewritten.can n)
      (rewritten.folded n ∙ no_fold (fold e) (plain_literal e) none))

  comparison_holds : (c : Comparison) → is_comparison c.op ≡ true → HoldsWritten (tested_comparison c)
  comparison_holds c is = by (is_swapped (length listed) n c)
    where
      by : (swapped : Bool) → Holds (if swapped then word_both at_place n (lefts before) (mirrored c.op) c.right c.left else word_both at_place n (lefts before) c.op c.left c.right).words
      by true = holds.compared (mirrored c.op) _ _ (mirror_compares c.op is)
      by false = holds.compared c.op _ _ is

  operator_holds : (compares : Bool) (line : ℕ) (op : BinaryOp) (l r : Expression) → is_comparison op ≡ compares → HasTestBy compares l r (binary_expression line op l r) → depth_of_expression (binary_expression line op l r) ≤ 200 →
      (tested : TestedValue) → IsTestedBy compares g active op l r (binary_expression line op l r) before behind tested → HoldsWritten tested
  operator_holds true line op l r is has few tested (both, same) =
      subst HoldsWritten (sym same)
      (comparison_holds (comparison_of op both.x both.y both.first both.second) (compares_by (is_turned op) (word_op op) both.x both.y both.first both.second (word_compares op)))
  operator_holds false line op l r is has few tested value =
      let e = binary_expression line op l r in
      value_holds e (subst (λ (compares : Bool). HasTestBy compares l r e) (sym is) has) has.0 has.1 few tested value

  test_holds : (e : Expression) → HasTest e → depth_of_expression e ≤ 200 → (tested : TestedValue) → IsTested g active e before behind tested → HoldsWritten tested
  test_holds (binary_expression line op l r) has few tested is = operator_holds (is_comparison op) line op l r refl has few tested is
  test_holds (unary_expression line UnaryOp.Not e) has few tested is = absurd has
  test_holds (parenthesized line e) has few tested is = absurd has
  test_holds e has few tested is = value_holds e has has.0 has.1 few tested is

-- ---- they are tested as a whole

whole_leaf : (e : Expression) → IsTestedWhole e → fold e ≡ None → IsLeaf e
whole_leaf (vararg_expression line) whole none = refl
whole_leaf (name_expression line text) whole none = refl
whole_leaf (function_expression line body) whole none = refl
whole_leaf (index_expression line on key) whole none = refl
whole_leaf (field_expression line on text) whole none = refl
whole_leaf (call_expression line on args on_line) whole none = refl
whole_leaf (method_call line on text args on_line) whole none = refl
whole_leaf (binary_expression line op left right) whole none = literal_none (fold (binary_expression line op left right)) none
whole_leaf (unary_expression line UnaryOp.Neg e) whole none = literal_none (fold (unary_expression line UnaryOp.Neg e)) none
whole_leaf (unary_expression line UnaryOp.Len e) whole none = literal_none (fold (unary_expression line UnaryOp.Len e)) none
whole_leaf (constructor line items) whole none = refl
whole_leaf e whole none = absurd whole

leaves_hold : HoldsOfTests IsLeaf
leaves_hold = record {
  whole = whole_leaf;
  compared = λ op left right is. literal_none (fold (binary_expression 1 op left right)) (ap (λ (op : Option ArithOp). fold_binary op (fold left) (fold right)) (no_arithmetic op is));
}

-- ---- heads

counted_numbers : (es : Expressions) → AreNumbered es → AreCounted es
counted_numbers (syntax.expression first (syntax.expression last no_expressions)) are = tt
counted_numbers (syntax.expression first (syntax.expression last (syntax.expression by no_expressions))) are = tt
counted_numbers es are = absurd are

head_fits : (numeric : Bool) (foot end variables_end : ℕ) (captured : Bool) (es others : Expressions) (texts : List Text) → AreOfHead numeric others →
    PartFits (StepKind.Head numeric foot end variables_end captured) (head_part es texts) → PartFits (StepKind.Head numeric foot end variables_end captured) (head_part others texts)
head_fits true foot end variables_end captured es others texts are fits = (counted_numbers others are, fits.1)
head_fits false foot end variables_end captured es others texts are fits = tt

-- ---- kinds

lone_fits : (kind : StepKind) (part : Part) → IsLoneKind kind → PartFits kind part
lone_fits (StepKind.Jump target) part is = tt
lone_fits (StepKind.Close from step) part is = tt
lone_fits (StepKind.Foot numeric target) part is = tt
lone_fits kind part is = absurd is

-- how many levels a negated test needs does not matter
test_fits : (when : Bool) (target one other : ℕ) (part : Part) → PartFits (StepKind.Test when target one) part → PartFits (StepKind.Test when target other) part
test_fits when target one other (condition_part e) fits = fits
test_fits when target one other nothing_part fits = absurd fits
test_fits when target one other (statement_part s) fits = absurd fits
test_fits when target one other (values_part es) fits = absurd fits
test_fits when target one other (head_part es names) fits = absurd fits

fits_like : (kind other : StepKind) (part : Part) → IsKindLike kind other → PartFits kind part → PartFits other part
fits_like (StepKind.Test when target negated) other part like fits = subst (λ kind. PartFits kind part) (sym like.1) (test_fits when target negated like.0 part fits)
fits_like kind other part like fits = subst (λ kind. PartFits kind part) (sym like) fits

module _ {f : Function} {g : Fn} {z : Maker} {lefts : ℕ → List (Option Inner)} {parts : ℕ → outline.Part} {code : Steps} {params names : List Text} {ahead : Ahead} {block : Statements} (of : IsFlowFunction f g z lefts parts code params names ahead block) where
  -- where the part in the source is of this kind
  abbrev Fits : StepKind → Part → Drafted → Type 0
  Fits kind part draft = PartFits kind part → PartFits kind draft.part

  -- what is written of a test
  pub test_written : (Holds : Expression → Type 0) → HoldsOfTests Holds → (at target negated : ℕ) (when : Bool) (e : Expression) (behind : ℕ) (draft : Drafted) (test : TestThere of at target negated when e behind draft) →
      Holds (condition_word (writing f g lefts (before_at of at)) (length (before_at of at).constants) (lefts (length (before_at of at).functions)) test.read.tested).words
  test_written Holds holds at target negated when e behind draft test =
      let m = before_at of at in
      test_holds Holds holds lefts test.made of.left.again (length m.constants) (length m.functions) behind e test.flow.has test.flow.shallow test.read.tested test.read.is

  fit_cases : Cases of Fits
  fit_cases = record {
    acts = λ at kind s behind draft is goes_on act fits.
        let m = before_at of at in
        subst (PartFits kind) (sym act.read.part) (written_fits (writing f g lefts m) (length m.constants) (lefts (length m.functions)) g m.active kind (as_assignment s) (length m.functions) behind act.read.acted is (assigned_fits kind s is fits) act.read.is);
    returns = λ at es behind draft act fits.
        let m = before_at of at in
        subst (PartFits StepKind.Return) (sym act.read.part)
        (returned_holds (λ t. PartFits StepKind.Return (part_of t)) (writing f g lefts m) (length m.constants) (lefts (length m.functions)) g m.active es (length m.functions) behind act.read.acted act.read.is (λ others same. tt));
    tests = λ at target negated when e behind draft test fits. subst (PartFits (StepKind.Test when target negated)) (sym test.read.part) (test_written IsLeaf leaves_hold at target negated when e behind draft test);
    heads = λ at foot end variables_end captured numeric es texts behind draft head fits.
        let m = before_at of at in
        let n = length m.constants in
        let before = length m.functions in
        let headed = head.read.headed in
        let words = (head_wording numeric (writing f g lefts m) n (lefts before) headed).words in
        subst (PartFits (StepKind.Head numeric foot end variables_end captured)) (sym head.read.part)
        (head_fits numeric foot end variables_end captured es words texts (head_of_written g m.active (writing f g lefts m) n (lefts before) numeric es before behind headed head.values head.read.is) fits);
    lones = λ at kind part draft is lone fits. lone_fits kind draft.part is;
  }

  -- what is written of one step is of its kind
  part_fits : {at : ℕ} (kind : StepKind) (part : Part) → StepIs of at kind part → (draft : Drafted) → PartRead f g lefts (before_at of at) (pcs of) kind part (length (made_at of at kind part).functions) draft → PartFits kind draft.part
  part_fits kind part is draft read = by_cases of Fits fit_cases kind part is draft read is.fits

  -- and of all steps
  pub parts_fit : (other : Steps) → ArePlaced of other → (at : ℕ) (step : Step) → slice_get other.steps at ≡ Some step → (part : Part) × (part_at other at ≡ Some part) × PartFits step.kind part
  parts_fit other are at step there =
      let one = placed_read of other are at step there in
      let read = one.read in
      (one.draft.part, one.part, fits_like read.kind step.kind one.draft.part one.like (part_fits read.kind read.part read.is one.draft read.part_read))
