-- What is known of a draft that is read of a step, by the kind of the step: an act, a test, the head of a loop, or one with nothing written.
use Rattle.std.proofs.Common.{◌≡◌, ℕ, Bool, true, false, List, length, None, refl, sym, ap, ◌∙◌, arith, subst}
use Rattle.std.specs.Prelude.{Option}
use Rattle.lua_num.specs.Bytes.{Text}
use Rattle.lua_tree.specs.OneLine.{one_line_expressions, one_line_statement}
use Rattle.lua_tree.specs.Outline as outline
use Rattle.lua_tree.specs.Syntax.{Expression, Expressions, Statement, Statements, return_statement}
use Rattle.lua_tree.specs.WellFormed.{ends_block}
use Rattle.core_expr.specs.Values.{Inner}
use Rattle.recover_expr.specs.Drafts.{Drafted, Part, condition_part, head_part, statement_part, values_part}
use Rattle.recover_expr.specs.Placing.{Steps}
use Rattle.recover_expr.specs.Situation.{Function}
use Rattle.recover_expr.specs.declared.steps.StepKind.{StepKind}
use Rattle.scheme.specs.Making.{Ahead, Maker}
use Rattle.scheme.specs.Scheme.{coded, statement_made}
use Rattle.scheme_stands.proofs.Growth.{Final, spot}
use Rattle.scheme_stands.specs.Relation.{StatementAt}
use Rattle.scheme_stands.specs.Words.{Fn}
use Rattle.same_flow.specs.Performed.{kind_made}
use Rattle.reads_back.specs.Assignments.{as_assignment}
use Rattle.reads_back.proofs.FlowActs.{act_own, act_stands, comes, declaration_stands, final, own_listed, act_goes_on, declaration_goes_on}
use Rattle.reads_back.proofs.FlowHeads.{comes as head_comes, of_head}
use Rattle.reads_back.proofs.FlowRead.{ActPart, HeadPart, LonePart, PartRead, TestPart, as_many, final_here, upvalues_here}
use Rattle.reads_back.proofs.FlowTests.{tested_is}
use Rattle.reads_back.proofs.FlowThere.{IsFlowAct, IsFlowFunction, IsFlowHead, IsFlowTest, StepIs, before_at, made_at, made_before, pcs}
use Rattle.reads_back.proofs.FunctionStatements.{same_ends}
use Rattle.reads_back.proofs.HeadsSame.{AreOfHead, RewrittenHead, head_rewritten, mentions_of_loop}
use Rattle.reads_back.proofs.LocalsLeave.{listed_of}
use Rattle.reads_back.proofs.Mentions.{IsAhead, mentions_in}
use Rattle.reads_back.proofs.Rewriting.{IsMadeBy, OwnListed, RewrittenAct, code as code_of, mentions_of_statement}
use Rattle.reads_back.proofs.SameStatements.{assigned_makes}
use Rattle.reads_back.proofs.ActsKnown.{all_written, written}
use Rattle.reads_back.proofs.TestsMeant.{test_meant}
use Rattle.reads_back.proofs.TestsSame.{tested_expression}
use Rattle.reads_back.proofs.TestsWritten.{WritesTest, test_writes}

-- ---- kinds

-- an act or a declaration
abbrev pub IsActKind : StepKind → Type 0
IsActKind StepKind.Act = Unit {0}
IsActKind (StepKind.Declaration end captured) = Unit {0}
IsActKind kind = ⊥

-- nothing is written of it
abbrev pub IsLoneKind : StepKind → Type 0
IsLoneKind (StepKind.Jump target) = Unit {0}
IsLoneKind (StepKind.Close from declared) = Unit {0}
IsLoneKind (StepKind.Foot numeric target) = Unit {0}
IsLoneKind kind = ⊥

module _ {f : Function} {g : Fn} {z : Maker} {lefts : ℕ → List (Option Inner)} {parts : ℕ → outline.Part} {code : Steps} {params names : List Text} {ahead : Ahead} {block : Statements} (of : IsFlowFunction f g z lefts parts code params names ahead block) where
  -- ---- what is known of each

  -- an act, and what is written of it
  pub record ActThere (at : ℕ) (s : Statement) (behind : ℕ) (draft : Drafted) : Type 0 where
    pub flow : IsFlowAct s
    pub made : IsMadeBy f g (before_at of at).active (listed_of (before_at of at).active) z
    pub own : OwnListed f g (before_at of at).active s
    pub comes : IsAhead g (before_at of at).active (length (before_at of at).functions) (mentions_of_statement s) (before_at of at)
    pub final : Final (length (before_at of at).labels) (statement_made (one_line_statement s) 1 None (before_at of at)) z
    pub read : ActPart f g lefts (before_at of at) s behind draft
    pub rewritten : RewrittenAct f g (before_at of at).active (listed_of (before_at of at).active) z lefts (length (before_at of at).functions) behind s read.acted

  -- a test
  pub record TestThere (at target negated : ℕ) (when : Bool) (e : Expression) (behind : ℕ) (draft : Drafted) : Type 0 where
    pub is : StepIs of at (StepKind.Test when target negated) (condition_part e)
    pub flow : IsFlowTest e
    pub made : IsMadeBy f g (before_at of at).active (listed_of (before_at of at).active) z
    pub comes : IsAhead g (before_at of at).active (length (before_at of at).functions) (mentions_in e) (before_at of at)
    pub final : Final (length (before_at of at).labels) ((code_of (tested_expression e)).jump_if when target (before_at of at)) z
    pub read : TestPart f g lefts (before_at of at) when (pcs of target) e behind draft
    pub written : WritesTest f (listed_of (before_at of at).active) lefts (length (before_at of at).functions) behind e read.tested (length (before_at of at).constants)

  -- a head
  pub record HeadThere (at foot end variables_end : ℕ) (captured numeric : Bool) (es : Expressions) (texts : List Text) (behind : ℕ) (draft : Drafted) : Type 0 where
    pub flow : IsFlowHead es texts
    pub made : IsMadeBy f g (before_at of at).active (listed_of (before_at of at).active) z
    pub values : AreOfHead numeric es
    pub comes : IsAhead g (before_at of at).active (length (before_at of at).functions) (mentions_of_loop numeric es texts) (before_at of at)
    pub final : Final (length (before_at of at).labels) (kind_made code (StepKind.Head numeric foot end variables_end captured) (head_part (one_line_expressions es) texts) (before_at of at)) z
    pub read : HeadPart f g lefts (before_at of at) numeric es texts behind draft
    pub rewritten : RewrittenHead f g (before_at of at).active (listed_of (before_at of at).active) z lefts (length (before_at of at).functions) behind numeric es read.headed

  act_there : {at : ℕ} {kind : StepKind} {part : Part} (is : StepIs of at kind part) (s : Statement) (flow : IsFlowAct s) → made_at of at kind part ≡ statement_made s 1 None (before_at of at) →
      StatementAt g None s (before_at of at).active (made_at of at kind part).active (spot (before_at of at)) (spot (made_at of at kind part)) → OwnListed f g (before_at of at).active s → (draft : Drafted) →
      ActPart f g lefts (before_at of at) s (length (made_at of at kind part).functions) draft → ActThere at s (length (made_at of at kind part).functions) draft
  act_there {at} {kind} {part} is s flow makes stands own draft read =
      let less = is.within in
      let here = made_before of at (omega (arith, less)) in
      record {
        flow = flow;
        made = here;
        own = own;
        comes = comes of is s flow makes stands own;
        final = final of is s flow makes stands own;
        read = read;
        rewritten = written here of.left s flow.is flow.shallow own (length (before_at of at).functions) (length (made_at of at kind part).functions) read.acted read.is;
      }

  test_there : {at target negated : ℕ} {when : Bool} {e : Expression} (is : StepIs of at (StepKind.Test when target negated) (condition_part e)) (draft : Drafted) →
      TestPart f g lefts (before_at of at) when (pcs of target) e (length (made_at of at (StepKind.Test when target negated) (condition_part e)).functions) draft →
      TestThere at target negated when e (length (made_at of at (StepKind.Test when target negated) (condition_part e)).functions) draft
  test_there {at} {target} {negated} {when} {e} is draft read =
      let m = before_at of at in
      let made = made_at of at (StepKind.Test when target negated) (condition_part e) in
      let less = is.within in
      let flow = is.flow in
      let here = made_before of at (omega (arith, less)) in
      let same : (code_of (tested_expression e)).jump_if when target m ≡ made = ap (λ e. (code_of e).jump_if when target m) (tested_is e flow.tested) ∙ ap (λ e. (coded e).jump_if when target m) flow.on_line in
      record {
        is = is;
        flow = flow;
        made = here;
        comes = record { active_are = refl; upvalues_are = upvalues_here of is; made_are = refl; meant = (test_meant g m.active (length m.active) when (pcs of target) e flow.has (spot m) (spot made) is.stands).meant };
        final = subst (λ n. Final (length m.labels) n z) (sym same) (final_here of is);
        read = read;
        written = test_writes lefts here of.left.again (as_many of at) (length m.constants) (length m.functions) (length made.functions) e flow.has flow.shallow read.tested read.is;
      }

  head_there : {at foot end variables_end : ℕ} {captured : Bool} {es : Expressions} {texts : List Text} (numeric : Bool) (is : StepIs of at (StepKind.Head numeric foot end variables_end captured) (head_part es texts)) (draft : Drafted) →
      HeadPart f g lefts (before_at of at) numeric es texts (length (made_at of at (StepKind.Head numeric foot end variables_end captured) (head_part es texts)).functions) draft →
      HeadThere at foot end variables_end captured numeric es texts (length (made_at of at (StepKind.Head numeric foot end variables_end captured) (head_part es texts)).functions) draft
  head_there {at} {foot} {end} {variables_end} {captured} {es} {texts} numeric is draft read =
      let m = before_at of at in
      let kind = StepKind.Head numeric foot end variables_end captured in
      let made = made_at of at kind (head_part es texts) in
      let less = is.within in
      let flow = is.flow in
      let here = made_before of at (omega (arith, less)) in
      let values = of_head of at foot end variables_end captured es texts numeric is in
      let same : kind_made code kind (head_part (one_line_expressions es) texts) m ≡ made = ap (λ es. kind_made code kind (head_part es texts) m) flow.on_line in
      record {
        flow = flow;
        made = here;
        values = values;
        comes = head_comes of at foot end variables_end captured es texts numeric is;
        final = subst (λ n. Final (length m.labels) n z) (sym same) (final_here of is);
        read = read;
        rewritten = head_rewritten lefts here 200 numeric es (length m.functions) (length made.functions) read.headed (all_written here of.left 200 (omega arith)) flow.shallow flow.has values read.is;
      }

  -- ---- all cases

  -- what holds of each kind of draft; a function statement is read as the assignment that it stands for
  pub record Cases (Holds : StepKind → Part → Drafted → Type 0) : Type 0 where
    pub acts : (at : ℕ) (kind : StepKind) (s : Statement) (behind : ℕ) (draft : Drafted) → IsActKind kind → ends_block (as_assignment s) ≡ false → ActThere at (as_assignment s) behind draft → Holds kind (statement_part s) draft
    pub returns : (at : ℕ) (es : Expressions) (behind : ℕ) (draft : Drafted) → ActThere at (return_statement es) behind draft → Holds StepKind.Return (values_part es) draft
    pub tests : (at target negated : ℕ) (when : Bool) (e : Expression) (behind : ℕ) (draft : Drafted) → TestThere at target negated when e behind draft → Holds (StepKind.Test when target negated) (condition_part e) draft
    pub heads : (at foot end variables_end : ℕ) (captured numeric : Bool) (es : Expressions) (texts : List Text) (behind : ℕ) (draft : Drafted) → HeadThere at foot end variables_end captured numeric es texts behind draft →
        Holds (StepKind.Head numeric foot end variables_end captured) (head_part es texts) draft
    pub lones : (at : ℕ) (kind : StepKind) (part : Part) (draft : Drafted) → IsLoneKind kind → LonePart f g lefts (before_at of at) draft → Holds kind part draft

  -- holds of every draft that is read
  pub by_cases : (Holds : StepKind → Part → Drafted → Type 0) → Cases Holds → {at : ℕ} (kind : StepKind) (part : Part) → StepIs of at kind part → (draft : Drafted) →
      PartRead f g lefts (before_at of at) (pcs of) kind part (length (made_at of at kind part).functions) draft → Holds kind part draft
  by_cases Holds cases {at} StepKind.Act (statement_part s) is draft read =
      let m = before_at of at in
      let there = act_there is (as_assignment s) is.flow.act (assigned_makes s m is.flow.formed) (act_stands of is) (act_own of s is.fits m.active) draft read in
      cases.acts at StepKind.Act s (length (made_at of at StepKind.Act (statement_part s)).functions) draft tt (same_ends s ∙ act_goes_on s is.fits) there
  by_cases Holds cases {at} (StepKind.Declaration end captured) (statement_part s) is draft read =
      let there = act_there is (as_assignment s) is.flow.act (assigned_makes s (before_at of at) is.flow.formed) (declaration_stands of is) (own_listed of s is.fits is) draft read in
      cases.acts at (StepKind.Declaration end captured) s (length (made_at of at (StepKind.Declaration end captured) (statement_part s)).functions) draft tt (same_ends s ∙ declaration_goes_on s is.fits) there
  by_cases Holds cases {at} StepKind.Return (values_part es) is draft read =
      cases.returns at es (length (made_at of at StepKind.Return (values_part es)).functions) draft (act_there is (return_statement es) is.flow refl is.stands tt draft read)
  by_cases Holds cases {at} (StepKind.Test when target negated) (condition_part e) is draft read =
      cases.tests at target negated when e (length (made_at of at (StepKind.Test when target negated) (condition_part e)).functions) draft (test_there is draft read)
  by_cases Holds cases {at} (StepKind.Head true foot end variables_end captured) (head_part es texts) is draft read =
      cases.heads at foot end variables_end captured true es texts (length (made_at of at (StepKind.Head true foot end variables_end captured) (head_part es texts)).functions) draft (head_there true is draft read)
  by_cases Holds cases {at} (StepKind.Head false foot end variables_end captured) (head_part es texts) is draft read =
      cases.heads at foot end variables_end captured false es texts (length (made_at of at (StepKind.Head false foot end variables_end captured) (head_part es texts)).functions) draft (head_there false is draft read)
  by_cases Holds cases {at} (StepKind.Jump target) part is draft read = cases.lones at (StepKind.Jump target) part draft tt read
  by_cases Holds cases {at} (StepKind.Close from declared) part is draft read = cases.lones at (StepKind.Close from declared) part draft tt read
  by_cases Holds cases {at} (StepKind.Foot numeric target) part is draft read = cases.lones at (StepKind.Foot numeric target) part draft tt read
  by_cases Holds cases kind part is draft read = absurd read
