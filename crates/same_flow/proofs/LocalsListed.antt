-- The locals of a function whose statements stand on steps are listed by these steps.
use Rattle.std.proofs.Common.{◌≡◌, ◌≤◌, ◌<◌, ℕ, ◌+◌, Bool, true, false, List, [], ◌++◌, length, refl, sym, ap, ap₂, ◌∙◌, arith, subst}
use Rattle.std.proofs.lemmas.Bool.Decides.{nat_tests}
use Rattle.std.proofs.lemmas.List.{length-map}
use Rattle.std.specs.Prelude.{None, nat_lt, replicate}
use Rattle.lua_num.specs.Bytes.{Text}
use Rattle.lua_tree.specs.Syntax.{Statements}
use Rattle.proto.specs.declared.parts.LocVar.{LocVar}
use Rattle.recover_expr.specs.Placing.{Steps}
use Rattle.scheme.specs.Functions.{empty_maker}
use Rattle.scheme.specs.Making.{Ahead, Maker, declare, activate, end_locals, active_count}
use Rattle.scheme.specs.Scheme.{statements_made}
use Rattle.scheme.specs.Statements.{settle}
use Rattle.scheme.specs.declared.making.Active.{Active}
use Rattle.same_flow.specs.Listed.{ListedBefore, ends_listed, before_place, entries_of, entries_from, all_entries, LocalsAreListed}
use Rattle.same_flow.specs.SameFlow.{AreLaid, HasPlainParts, begun_of}
use Rattle.same_flow.proofs.Endings.{end_twice, alike_end}
use Rattle.same_flow.proofs.FlowSame.{declared_items}
use Rattle.same_flow.proofs.Followed.{Run, at_step, pc_of, nought, EndBy, end_append, append_nothing, append_again, length_both}
use Rattle.same_flow.proofs.HeadsFollowed.{activated_count}
use Rattle.same_flow.proofs.ListedLocals.{ComesTo, all_listed_more, comes_activated, comes_ended, comes_length}
use Rattle.same_flow.proofs.ListedRun.{step_there, entries_begin, all_at, ListedTo, ended_listed, all_listed}
use Rattle.same_flow.proofs.ListedSteps.{declared_locals, declared_texts}
use Rattle.same_flow.proofs.RunKeeps.{declared_active}
use Rattle.same_flow.proofs.StatementsTold.{run, laid_tell, laid_follow}
use Rattle.same_flow.proofs.StepsTold.{Parted}

module _ (code : Steps) (plain : HasPlainParts code) (params names : List Text) (ahead : Ahead) (block : Statements) (laid : AreLaid code params names ahead block) where
  abbrev pub last : ℕ
  last = length code.steps

  abbrev pub steps : Run
  steps = run code params names ahead

  abbrev pub pcs : ℕ → ℕ
  pcs = pc_of steps

  abbrev pub parameters : List LocVar
  parameters = entries_of 0 (pcs last) params

  -- the parameters are active from the beginning, and end with the function
  begins : ComesTo pcs steps.first.maker.active steps.first.ends steps.first.maker.locals parameters
  begins =
      let empty = empty_maker ahead names in
      let declared = (declare params empty).after in
      let locals = (declare params empty).value in
      let made = activate locals declared in
      let start : ComesTo pcs declared.active [] declared.locals [] =
      subst (λ (active : List Active). ComesTo pcs active [] declared.locals []) (sym (declared_active params empty))
      (subst (λ (l : List LocVar). ComesTo pcs [] [] l []) (sym (declared_locals params empty)) (record { all = refl; listed = refl })) in
      let count : active_count made ≡ length locals = activated_count locals declared ∙ ap (λ (l : List Active). length l + length locals) (declared_active params empty) ∙ omega arith in
      subst (λ n. ComesTo pcs made.active (replicate n last) made.locals parameters) (sym count)
      (subst (λ (l : List LocVar). ComesTo pcs made.active (replicate (length locals) last) made.locals l)
      (ap₂ (λ n (texts : List Text). entries_of n (pcs last) texts) (ap (λ (l : List _). length l) (declared_items params empty)) (declared_texts params empty))
      (comes_activated pcs locals declared [] [] last start))

  pub listed_to : (at : ℕ) → at ≤ last → ListedTo steps parameters at
  listed_to = all_listed steps parameters (laid_tell code plain params names ahead block laid)
      (subst (λ (l : List LocVar). ComesTo pcs steps.first.maker.active steps.first.ends steps.first.maker.locals l) (sym (append_nothing parameters)) begins)

  -- at the last place all locals end
  pub all_end : EndBy last (at_step steps last).ends
  all_end =
      let F = laid_follow code plain params names ahead block laid in
      subst (λ (es : List ℕ). EndBy last es) (sym F.2.all_ends) (end_append last F.0 F.2.behind F.1 F.2.gone)

  pub parted_at : (at : ℕ) → at ≤ last → Parted steps at
  parted_at at h = by (nat_lt at last) refl
    where
      by : (b : Bool) → nat_lt at last ≡ b → Parted steps at
      by true e =
          let less : at < last = grind (arith, nat_tests) in
          let there = step_there code.steps at less in
          ((laid_tell code plain params names ahead block laid).each at there.0 (omega arith) less there.1).parted
      by false e =
          let same : at ≡ last = grind (arith, nat_tests) in
          subst (λ p. Parted steps p) (sym same) (record { ends = []; behind = (at_step steps last).ends; all_ends = refl; lasts = tt; gone = all_end })

  before_listed : (at : ℕ) → at ≤ last → ListedBefore code params names ahead at
  before_listed at h =
      let B = ended_listed steps parameters at (parted_at at h) (listed_to at h) in
      let now = before_place code params names ahead at in
      let list = parameters ++ entries_from code pcs 0 at in
      let all = entries_begin code pcs 0 at last h in
      record {
        count =
            sym (comes_length pcs B.comes) ∙ length_both parameters (entries_from code pcs 0 at)
            ∙ ap (λ n. n + length (entries_from code pcs 0 at)) (length-map params _);
        ends =
            ap (λ (l : List LocVar). ends_listed l now.maker.active) (ap (λ (l : List LocVar). parameters ++ l) all.1 ∙ sym (append_again parameters (entries_from code pcs 0 at) all.0))
            ∙ all_listed_more pcs list all.0 now.maker.active now.ends B.comes.listed;
      }

  -- what the tree makes has the same locals
  locals_made : (end_locals 0 (statements_made block None (begun_of params names ahead))).locals ≡ all_entries code params names ahead
  locals_made =
      let made = statements_made block None (begun_of params names ahead) in
      let F = laid_follow code plain params names ahead block laid in
      let now = at_step steps last in
      let k = active_count made in
      let L = listed_to last (omega arith) in
      ap (λ (m : Maker). m.locals) ((alike_end nought nought 0).alike made (settle (end_locals k now.maker)) F.2.same)
      ∙ ap (λ (m : Maker). m.locals) (end_twice 0 k now.maker (omega arith))
      ∙ (comes_ended pcs last 0 (all_at pcs last now.ends L.lasts all_end) L.comes).all

-- the locals of a function, by the steps on which its statements stand
pub locals_listed : LocalsAreListed
locals_listed code plain params names ahead block laid = record {
  all = locals_made code plain params names ahead block laid;
  before = before_listed code plain params names ahead block laid;
}
