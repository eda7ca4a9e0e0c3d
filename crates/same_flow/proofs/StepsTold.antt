-- Where a function in the making stands before a step, the step tells of its locals: jumps, closes, and the ends of blocks.
use Rattle.std.proofs.Common.{◌≡◌, ℕ, suc, ◌≤◌, ◌<◌, Bool, true, false, List, [], ◌++◌, length, take, refl, sym, ap, ◌∙◌, arith, subst}
use Rattle.std.proofs.lemmas.Bool.Decides.{nat_tests}
use Rattle.std.proofs.lemmas.Option.{same_Some}
use Rattle.std.specs.Prelude.{Some, slice_get, nat_lt}
use Rattle.recover_expr.specs.Drafts.{Part}
use Rattle.recover_expr.specs.declared.steps.Step.{Step}
use Rattle.recover_expr.specs.declared.steps.StepKind.{StepKind}
use Rattle.scheme.specs.Making.{Maker, end_locals, active_count}
use Rattle.scheme.specs.Statements.{settle}
use Rattle.scheme.specs.declared.making.Active.{Active}
use Rattle.same_flow.specs.Laid.{Tells, HasStep, IsJump, IsClose, IsBlock}
use Rattle.same_flow.specs.Performed.{ended_to, ended_before, kind_made, still_active}
use Rattle.same_flow.specs.SameFlow.{HasPlainParts}
use Rattle.same_flow.specs.Told.{FlagTells, EndsBehind, PartFits, IsTold}
use Rattle.same_flow.proofs.Endings.{numbered}
use Rattle.same_flow.proofs.Followed.{Run, at_step, Follows, nought, EndBy, LastTo, last_weaker, still, followed, ended}
use Rattle.same_flow.proofs.RunKeeps.{Begins, keeps}
use Rattle.same_flow.proofs.BlocksFollowed.{Grows}

-- the maker that the run has before a step
abbrev pub before : Run → ℕ → Maker
before run at = (ended_before at (at_step run at)).maker

-- the first locals that are active before a step end behind it, and the others end there or have ended
pub record Parted (run : Run) (at : ℕ) : Type 0 where
  pub ends : List ℕ
  pub behind : List ℕ
  pub all_ends : (at_step run at).ends ≡ ends ++ behind
  pub lasts : LastTo (suc at) ends
  pub gone : EndBy at behind

pub parted : {run : Run} {f g : ℕ → ℕ} {m : Maker} {ends : List ℕ} {p : ℕ} → Follows run f g m ends p → LastTo (suc p) ends → Parted run p
parted {ends = ends} F l = record { ends = ends; behind = F.behind; all_ends = F.all_ends; lasts = l; gone = F.gone }

-- the locals that a step brings into scope end behind it
abbrev pub EndLater : (at : ℕ) → StepKind → Type 0
EndLater at (StepKind.Declaration end captured) = at < end
EndLater at (StepKind.Head numeric foot end variables_end captured) = (at < end) × (at < variables_end)
EndLater at kind = Unit {0}

ends_behind : (at : ℕ) (kind : StepKind) → EndLater at kind → EndsBehind at kind
ends_behind at (StepKind.Declaration end captured) later = later
ends_behind at (StepKind.Head numeric foot end variables_end captured) later = tt
ends_behind at StepKind.Act later = tt
ends_behind at StepKind.Return later = tt
ends_behind at (StepKind.Test when target levels) later = tt
ends_behind at (StepKind.Jump target) later = tt
ends_behind at (StepKind.Close register declared) later = tt
ends_behind at (StepKind.Foot numeric target) later = tt

pub record Tell (run : Run) (at : ℕ) (step : Step) : Type 0 where
  pub told : IsTold run.code (before run at) at step
  pub parted : Parted run at
  pub later : EndLater at step.kind

-- each step from one place to another tells
pub record Told (run : Run) (from to : ℕ) : Type 0 where
  pub each : (at : ℕ) (step : Step) → from ≤ at → at < to → slice_get run.code.steps at ≡ Some step → Tell run at step

pub told_nowhere : (run : Run) (from to : ℕ) → to ≡ from → Told run from to
told_nowhere run from to e = record { each = λ at step h l s. absurd (omega arith) }

pub told_both : (run : Run) (from mid to : ℕ) → Told run from mid → Told run mid to → Told run from to
told_both run from mid to one two = record { each = λ at step h l s. by at step h l s (nat_lt at mid) refl }
  where
    by : (at : ℕ) (step : Step) → from ≤ at → at < to → slice_get run.code.steps at ≡ Some step → (b : Bool) → nat_lt at mid ≡ b → Tell run at step
    by at step h l s true e = one.each at step h (grind (arith, nat_tests)) s
    by at step h l s false e = two.each at step (grind (arith, nat_tests)) l s

pub told_to : {run : Run} {from mid to : ℕ} → to ≡ mid → Told run from mid → Told run from to
told_to {run} {from} e told = subst (λ x. Told run from x) (sym e) told

-- ---- before a step

-- the locals that have ended are those that the run ends here
pub before_is : {run : Run} {f g : ℕ → ℕ} {m : Maker} {ends : List ℕ} {p : ℕ} (F : Follows run f g m ends p) → LastTo (suc p) ends →
    before run p ≡ settle (end_locals (active_count m) (at_step run p).maker)
before_is {run} {ends = ends} {p = p} F l = ap (λ n. (ended_to n (at_step run p)).maker) (ap (still_active p) F.all_ends ∙ still p ends F.behind l F.gone ∙ F.count)

pub before_same : {run : Run} {f g : ℕ → ℕ} {m : Maker} {ends : List ℕ} {p : ℕ} (F : Follows run f g m ends p) → LastTo (suc p) ends → numbered f m ≡ numbered g (before run p)
before_same {g = g} F l = F.same ∙ ap (numbered g) (sym (before_is F l))

pub before_active : {run : Run} {f g : ℕ → ℕ} {m : Maker} {ends : List ℕ} {p : ℕ} (F : Follows run f g m ends p) → LastTo (suc p) ends → (before run p).active ≡ m.active
before_active F l = sym (ap (λ (n : Maker). n.active) (before_same F l))

pub step_told : (run : Run) (active : List Active) (p : ℕ) (kind : StepKind) (part : Part) → HasStep run.code active p kind part → (before run p).active ≡ active → Parted run p →
    PartFits kind part → FlagTells kind (before run p) (kind_made run.code kind part (before run p)) → EndLater p kind → Told run p (suc p)
step_told run active p kind part H is parts fits flag later = record {
  each = λ at step h l s.
      subst (λ x. slice_get run.code.steps x ≡ Some step → Tell run x step) (omega arith)
      (λ there.
      let same : H.0.step ≡ step = same_Some H.0.step step (sym H.0.there ∙ there) in
      let k : kind ≡ step.kind = sym H.0.is ∙ ap (λ (it : Step). it.kind) same in
      record {
        told = record {
          part = part;
          there = H.1;
          fits = subst (λ it. PartFits it part) k fits;
          tells = subst (λ (it : Step). Tells it (before run p).active) same (subst (λ (a : List Active). Tells H.0.step a) (sym is) H.0.tells);
          flag = subst (λ it. FlagTells it (before run p) (kind_made run.code it part (before run p))) k flag;
          ends = subst (λ it. EndsBehind p it) k (ends_behind p kind later);
        };
        parted = parts;
        later = subst (λ it. EndLater p it) k later;
      }) s;
}

-- locals that last are the same before and behind
pub same_active : {run : Run} → HasPlainParts run.code → {m n : Maker} {ends : List ℕ} {p q : ℕ} → Follows run nought nought m ends p → Follows run nought nought n ends q → p ≤ q → LastTo q ends →
    n.active ≡ m.active
same_active {run} plain {m} {n} {ends} {p} {q} F G h l =
    let begins : Begins run plain m.active ends (at_step run p) = record {
      behind = F.behind;
      all_ends = F.all_ends;
      same = ap (λ k. take k (at_step run p).maker.active) F.count ∙ ap (λ (x : Maker). x.active) (sym F.same);
      count = sym F.count;
    } in
    ap (λ (x : Maker). x.active) G.same ∙ ap (λ k. take k (at_step run q).maker.active) (sym G.count) ∙ (keeps run plain m.active ends p q h l begins).same

-- ---- steps that bring no local into scope

pub jump_told : {run : Run} {active : List Active} {m : Maker} {ends : List ℕ} {p target : ℕ} → Follows run nought nought m ends p → LastTo (suc p) ends → m.active ≡ active →
    IsJump run.code active p target → Told run p (suc p)
jump_told {run} {active} {p = p} {target = target} F l is J = step_told run active p (StepKind.Jump target) J.0 J.1 (before_active F l ∙ is) (parted F l) tt tt tt

pub close_told : {run : Run} {active : List Active} {m : Maker} {ends : List ℕ} {p n : ℕ} → Follows run nought nought m ends p → LastTo (suc p) ends → m.active ≡ active →
    IsClose run.code active p n → Told run p (suc p)
close_told {run} {active} {p = p} {n = n} F l is C = step_told run active p (StepKind.Close n C.0) C.1.0 C.1.1 (before_active F l ∙ is) (parted F l) tt tt tt

-- ---- blocks

pub block_told : {run : Run} → HasPlainParts run.code → {outer : List (ℕ × ℕ)} {m inside : Maker} {ends : List ℕ} {from : ℕ} (active : List Active) (n : ℕ) (b : Bool) → length ends ≡ n →
    (laid : ℕ → ℕ → Type 0) (to : ℕ) → LastTo to ends → Follows run nought nought m ends from → m.active ≡ active →
    ((stop : ℕ) → stop ≤ to → laid stop stop → Grows run outer m ends stop from inside stop) → ((stop : ℕ) → stop ≤ to → laid stop stop → Told run from stop) →
    IsBlock run.code active n b laid from to → Told run from to
block_told plain active n false e laid to l F is body told B = told to (omega arith) B
block_told {run} plain {inside = inside} {ends = ends} {from = from} active n true e laid to l F is body told (stop, t, h, C, B) =
    let G = body stop (omega arith) B in
    let H = followed {outer = []} (ended n G.new e G.ends_by) (followed G.goes F) in
    let last = subst (λ x. LastTo x ends) t l in
    told_to t (told_both run from stop (suc stop) (told stop (omega arith) B)
    (close_told H last (same_active plain F H h (last_weaker stop (suc stop) ends (omega arith) last) ∙ is) C))
