-- What is written of a condition stands on line 1, where it has an operator of two operands.
use Rattle.std.proofs.Common.{◌≡◌, ℕ, List, length, refl, sym, subst}
use Rattle.std.specs.Prelude.{None, Option, Some, slice_get}
use Rattle.lua_num.specs.Bytes.{Text}
use Rattle.lua_tree.specs.Outline as outline
use Rattle.lua_tree.specs.Syntax.{Expression, Statement, Statements, binary_expression, return_statement}
use Rattle.lua_tree.specs.declared.tree.BinaryOp.{BinaryOp}
use Rattle.core_expr.specs.Values.{Inner}
use Rattle.recover_expr.specs.Drafts.{Drafted, Part, condition_part}
use Rattle.recover_expr.specs.Placing.{Steps}
use Rattle.recover_expr.specs.Situation.{Function}
use Rattle.recover_expr.specs.declared.steps.StepKind.{StepKind}
use Rattle.scheme.specs.Expressions.{fold}
use Rattle.scheme.specs.Making.{Ahead, Maker}
use Rattle.scheme_stands.specs.Words.{Fn}
use Rattle.reads_back.specs.ReadAs.{part_of}
use Rattle.reads_back.proofs.FlowRead.{PartRead}
use Rattle.reads_back.proofs.FlowThere.{IsFlowFunction, StepIs, before_at, made_at, pcs}
use Rattle.reads_back.proofs.PartsCases.{Cases, by_cases}
use Rattle.reads_back.proofs.PartsFit.{HoldsOfTests, test_written}
use Rattle.reads_back.proofs.PlacedEach.{part_placed}
use Rattle.reads_back.proofs.PlacedReads.{ArePlaced}
use Rattle.reads_back.proofs.ValuesTested.{IsTestedWhole}

-- an operator of two operands stands on line 1
abbrev IsOnOne : Expression → Type 0
IsOnOne (binary_expression line op left right) = line ≡ 1
IsOnOne e = Unit {0}

abbrev IsPartOnOne : Part → Type 0
IsPartOnOne (condition_part e) = IsOnOne e
IsPartOnOne part = Unit {0}

whole_on_one : (e : Expression) → IsTestedWhole e → fold e ≡ None → IsOnOne e
whole_on_one (binary_expression line op left right) whole none = whole.0
whole_on_one e whole none = tt

tests_on_one : HoldsOfTests IsOnOne
tests_on_one = record { whole = whole_on_one; compared = λ op left right is. refl }

-- no statement is a condition
statement_on_one : (s : Statement) → IsPartOnOne (part_of s)
statement_on_one (return_statement es) = tt
statement_on_one s = tt

module _ {f : Function} {g : Fn} {z : Maker} {lefts : ℕ → List (Option Inner)} {parts : ℕ → outline.Part} {code : Steps} {params names : List Text} {ahead : Ahead} {block : Statements} (of : IsFlowFunction f g z lefts parts code params names ahead block) where
  abbrev OnOne : StepKind → Part → Drafted → Type 0
  OnOne kind part draft = IsPartOnOne draft.part

  on_one_cases : Cases of OnOne
  on_one_cases = record {
    acts = λ at kind s behind draft is goes_on act. subst IsPartOnOne (sym act.read.part) (statement_on_one _);
    returns = λ at es behind draft act. subst IsPartOnOne (sym act.read.part) (statement_on_one _);
    tests = λ at target negated when e behind draft test. subst IsPartOnOne (sym test.read.part) (test_written of IsOnOne tests_on_one at target negated when e behind draft test);
    heads = λ at foot end variables_end captured numeric es texts behind draft head. subst IsPartOnOne (sym head.read.part) tt;
    lones = λ at kind part draft is lone. subst IsPartOnOne (sym lone.part) tt;
  }

  -- what is written of one step
  part_on_one : {at : ℕ} (kind : StepKind) (part : Part) → StepIs of at kind part → (draft : Drafted) → PartRead f g lefts (before_at of at) (pcs of) kind part (length (made_at of at kind part).functions) draft → IsPartOnOne draft.part
  part_on_one kind part is draft read = by_cases of OnOne on_one_cases kind part is draft read

  -- and of all steps
  pub parts_on_one : (other : Steps) → ArePlaced of other → (at line : ℕ) (left right : Expression) → slice_get other.parts at ≡ Some (condition_part (binary_expression line BinaryOp.Eq left right)) → line ≡ 1
  parts_on_one other are at line left right there =
      let one = part_placed f are.scope params are.drafts other are.is at (condition_part (binary_expression line BinaryOp.Eq left right)) there in
      let read = are.each at one.0 one.1 in
      subst IsPartOnOne one.2 (part_on_one read.kind read.part read.is one.0 read.part_read)
