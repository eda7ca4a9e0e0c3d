-- What the steps of a function tell, where a function in the making follows them: the step that stands there has these locals, and a part that fits.
use Rattle.std.proofs.Common.{◌≡◌, ℕ, suc, Bool, true, List, sym, ap, ◌∙◌, arith, subst}
use Rattle.std.proofs.lemmas.Bool.Decides.{nat_tests}
use Rattle.std.specs.Prelude.{Option, None, Some, nat_eq, slice_get}
use Rattle.lua_num.specs.Bytes.{Text}
use Rattle.lua_tree.specs.Syntax.{Expression}
use Rattle.recover_expr.specs.Drafts.{Part}
use Rattle.recover_expr.specs.Placing.{Steps}
use Rattle.recover_expr.specs.declared.steps.Step.{Step}
use Rattle.recover_expr.specs.declared.steps.StepKind.{StepKind}
use Rattle.recover_flow.specs.Asked.{kind_at, closes_from, closes}
use Rattle.scheme.specs.Making.{Ahead, Maker, active_count, end_locals}
use Rattle.scheme.specs.Scheme.{coded}
use Rattle.scheme.specs.Statements.{settle}
use Rattle.scheme.specs.declared.making.Active.{Active}
use Rattle.same_flow.specs.Laid.{Tells, HasStep, HasKind, IsClose, TestLaid}
use Rattle.same_flow.specs.Performed.{still_active}
use Rattle.same_flow.specs.SameFlow.{HasPlainParts}
use Rattle.same_flow.specs.Told.{at_beginning, before_step, PartFits, AreTold}
use Rattle.same_flow.proofs.Endings.{numbered}
use Rattle.same_flow.proofs.Followed.{Follows, LastTo, Run, at_step, followed, nought, still}
use Rattle.same_flow.proofs.KeptActive.{active_kept, kept}
use Rattle.same_flow.proofs.RenamedStatements.{statements_rename}
use Rattle.same_flow.proofs.TestsFollowed.{test_goes}
use Rattle.built_flow.proofs.PartsTaken.{same_some, mapped}

abbrev pub run_of : Steps → (params names : List Text) → Ahead → Run
run_of code params names ahead = record { code = code; first = at_beginning code params names ahead }

-- some function in the making follows up to there, with these locals active
pub record Here (run : Run) (active : List Active) (ends : List ℕ) (p : ℕ) : Type 0 where
  pub maker : Maker
  pub follows : Follows run nought nought maker ends p
  pub same : maker.active ≡ active

-- ---- before a step

-- ---- kinds

pub record Stood (steps : List Step) (p : ℕ) (kind : StepKind) : Type 0 where
  pub step : Step
  pub there : slice_get steps p ≡ Some step
  pub is : step.kind ≡ kind

pub stood : (steps : List Step) (p : ℕ) (kind : StepKind) → kind_at steps p ≡ Some kind → Stood steps p kind
stood steps p kind e = let m = mapped (λ (step : Step). step.kind) (slice_get steps p) kind e in record { step = m.found; there = m.there; is = m.gives }

equal_numbers : (a b : ℕ) → nat_eq a b ≡ true → a ≡ b
equal_numbers a b e = grind (arith, nat_tests)

close_only : (n : ℕ) (o : Option StepKind) → closes_from n o ≡ true → (declared : Option ℕ) × (o ≡ Some (StepKind.Close n declared))
close_only n (Some (StepKind.Close from declared)) e = (declared, ap (λ k. Some (StepKind.Close k declared)) (equal_numbers from n e))
close_only n None e = cc
close_only n (Some kind) e = cc

module _ (code : Steps) (params names : List Text) (ahead : Ahead) (told : AreTold code params names ahead) where
  abbrev run : Run
  run = run_of code params names ahead

  pub same_before : (m : Maker) (ends : List ℕ) (p : ℕ) → Follows run nought nought m ends p → LastTo (suc p) ends → numbered nought m ≡ numbered nought (before_step code params names ahead p)
  same_before m ends p found_there l =
      let now = at_step run p in
      let count : still_active p now.ends ≡ active_count m = ap (still_active p) found_there.all_ends ∙ still p ends found_there.behind l found_there.gone ∙ found_there.count in
      found_there.same ∙ ap (λ n. numbered nought (settle (end_locals n now.maker))) (sym count)

  pub step_tells : (active : List Active) (ends : List ℕ) (p : ℕ) → Here run active ends p → LastTo (suc p) ends → (step : Step) → slice_get code.steps p ≡ Some step → Tells step active
  step_tells active ends p standing l step e =
      subst (λ (a : List Active). Tells step a) (sym (ap (λ (n : Maker). n.active) (same_before standing.maker ends p standing.follows l)) ∙ standing.same) (told p step e).tells

  pub has_step : (active : List Active) (ends : List ℕ) (p : ℕ) → Here run active ends p → LastTo (suc p) ends → (kind : StepKind) → kind_at code.steps p ≡ Some kind →
      (part : Part) → slice_get code.parts p ≡ Some part → HasStep code active p kind part
  has_step active ends p standing l kind e part is =
      let s = stood code.steps p kind e in
      (record { step = s.step; there = s.there; is = s.is; tells = step_tells active ends p standing l s.step s.there }, is)

  pub has_kind : (active : List Active) (ends : List ℕ) (p : ℕ) → Here run active ends p → LastTo (suc p) ends → (kind : StepKind) → kind_at code.steps p ≡ Some kind → HasKind code active p kind
  has_kind active ends p standing l kind e =
      let s = stood code.steps p kind e in
      let t = told p s.step s.there in
      (t.part, has_step active ends p standing l kind e t.part t.there)

  pub has_close : (active : List Active) (ends : List ℕ) (p : ℕ) → Here run active ends p → LastTo (suc p) ends → (n : ℕ) → closes code.steps p n ≡ true → IsClose code active p n
  has_close active ends p standing l n e =
      let c = close_only n (kind_at code.steps p) e in
      (c.0, has_kind active ends p standing l (StepKind.Close n c.0) c.1)

  pub fits_there : (p : ℕ) (kind : StepKind) → kind_at code.steps p ≡ Some kind → (part : Part) → slice_get code.parts p ≡ Some part → PartFits kind part
  fits_there p kind e part is =
      let s = stood code.steps p kind e in
      let t = told p s.step s.there in
      subst (λ k. PartFits k part) s.is (subst (λ x. PartFits s.step.kind x) (same_some t.part part (sym t.there ∙ is)) t.fits)

  module _ (plain : HasPlainParts code) where
    pub test_here : (active : List Active) (ends : List ℕ) (e : Expression) (sense : Bool) (target from to : ℕ) → Here run active ends from → TestLaid code active e sense target from to →
        LastTo to ends → Here run active ends to
    test_here active ends e sense target from to standing test_standing l = record {
      maker = (coded e).jump_if sense 0 standing.maker;
      follows = followed (test_goes run statements_rename plain active standing.maker ends e sense 0 target from to test_standing l) standing.follows;
      same = active_kept ((kept e).jump_if sense 0) standing.maker ∙ standing.same;
    }
