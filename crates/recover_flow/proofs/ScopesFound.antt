-- A `repeat` that closes its locals and a `for` are found where each is a piece of a body, if their blocks are.
use Rattle.std.proofs.Common.{◌≡◌, ◌∙◌, ◌≤◌, ◌<◌, ◌+◌, ◌-◌, ◌*◌, ◌^◌, ◌⊎◌, inl, inr, refl, sym, ap, subst, ℕ, suc, min, Bool, true, false, List, length, slice_get, Option, Some, arith}
use Rattle.std.specs.Prelude.{◌==◌, ◌&&◌, nat_le, nat_lt, option_map, option_and_then}
use Rattle.std.proofs.lemmas.Option.{same_Some}
use Rattle.recover_expr.specs.declared.steps.Step.{Step}
use Rattle.recover_expr.specs.declared.steps.StepKind.{StepKind}
use Rattle.recover_flow.specs.Asked.{block_at, closes, closes_from, ends_captured, ends_there, goes_back, is_single, is_this, is_unit, jumps_to, kind_at, lengths_before, number_before}
use Rattle.recover_flow.specs.Conditions.{ConditionTree, condition_levels}
use Rattle.recover_flow.specs.Flow.{Around, Flow, FlowLies, FlowStatementLies, IsAt, IsClose, VariablesLie, captures_flow, declares_active, flow_levels, flow_statement_levels, for_flow, in_loop, repeat_flow}
use Rattle.recover_flow.specs.Forms.{are_alike, counted_of_kind, counted_of_step, ends_variables, exit_of, for_around, is_foot, is_framed, variables_from}
use Rattle.recover_flow.specs.Logic.{AreLevelled, Logic, LogicIsFound, LogicLies, logic_levels, operators}
use Rattle.recover_flow.specs.Loops.{closed_loop_at, closed_of_step, closed_parts, closes_twice, ends_back, loop_at}
use Rattle.recover_flow.specs.Lying.{Jumps}
use Rattle.recover_flow.specs.Plans.{Plans, PlanTree, for_plan, repeat_plan, body_levels, plan_levels}
use Rattle.recover_flow.specs.Standing.{BodyStands, InBlock, PlanStands, with_used}
use Rattle.recover_flow.specs.declared.forms.Form.{Form}
use Rattle.recover_flow.specs.declared.loops.LoopAt.{LoopAt}
use Rattle.recover_flow.specs.declared.loops.LoopKind.{LoopKind}
use Rattle.recover_flow.specs.declared.regions.BodyAt.{BodyAt}
use Rattle.recover_flow.specs.declared.regions.Exit.{Exit}
use Rattle.recover_flow.specs.declared.regions.Piece.{Piece}
use Rattle.recover_flow.proofs.BlocksFound.{BodyFound, block_found, calm_before, serves_itself, statement_base, whole_found}
use Rattle.recover_flow.proofs.FlowInside.{ClosesAreNamed, ExitBehind, behind_earlier, block_in, flow_in, jump_back, ready_declared, ready_loop}
use Rattle.recover_flow.proofs.FlowParts.{captured_in}
use Rattle.recover_flow.proofs.LoopsFound.{jumps_is, last_is, logic_units, not_single, room_short, run_back, this_before, turn_of}
use Rattle.recover_flow.proofs.PartsInside.{AllIn, NoneOwned, back_is, kind_there, no_back_before, order}
use Rattle.recover_flow.proofs.CapturedOwn.{one_between}
use Rattle.recover_flow.proofs.StepsFound.{both_true, if_true, last_none, le_is, loop_is, lt_is, no_jump_back, same_is, second_false, straight_is}

module _ (steps : List Step) (levelled : AreLevelled steps) (small : length steps < 2 ^ 32) (logic_found : LogicIsFound) (at : BodyAt) (piece : Piece) where
  pub closed_found : (logic : Logic) (body : Flow) (before between inside : Around) (ends start tested : ℕ) → FlowStatementLies steps before between ends (repeat_flow body logic) piece.from piece.to → before.captured ≤ before.count → piece.to ≤ length steps
      → piece.from ≤ start → captures_flow steps body ≡ true → start ≤ tested → FlowLies steps (in_loop piece.to before) inside (tested + 2) body piece.from start → LogicLies steps logic false (tested + 2) start tested
      → IsClose steps inside tested before.count → IsAt steps inside (tested + 1) (StepKind.Jump piece.to) → IsClose steps before (tested + 2) before.count → IsAt steps before (tested + 3) (StepKind.Jump piece.from) → piece.to ≡ tested + 4
      → ((inner : BodyAt) → piece.from ≤ inner.from → inner.to < piece.to → BodyFound steps inner) → flow_statement_levels steps (repeat_flow body logic) ≤ 200
      → (plan : PlanTree) × PlanStands steps at piece plan × (plan_levels steps plan ≤ flow_statement_levels steps (repeat_flow body logic))
  closed_found logic body before between inside ends start tested lies sound fits begins some high body_at tests close out again back next each levels =
      let base = statement_base steps (repeat_flow body logic) before between ends piece.from piece.to (omega (arith, begins, high, next)) lies in
      let step : Step = base.0 in
      let last : ℕ = tested + 3 in
      let after : piece.to ≡ suc last = omega (arith, next) in
      let loop : LoopAt = loop_at piece (LoopKind.Closed tested (tested + 2)) step in
      let exit_is : exit_of piece step ≡ record { place = piece.to; locals = before.count } = ap (λ n. record { place = piece.to; locals = n }) base.2 in
      let short = room_short steps levelled logic false (tested + 2) start tested tests (omega (arith, levels)) in
      let condition = logic_found steps levelled logic start tested (tested + 2) (inr (omega arith)) tests (omega (arith, next, fits)) short in
      let count : ℕ = tested - start in
      let turn = turn_of (lengths_before steps piece.from tested) count
      (run_back (λ place. is_unit (kind_at steps place)) tested (min 100 (tested - piece.from)) count (omega (arith, short, begins)) (omega arith) (λ n low below. logic_units steps logic false (tested + 2) start tested tests n (omega (arith, low, high)) below)) in
      let here : tested - count ≡ start = omega (arith, high) in
      let whole : BodyAt = record { from = piece.from; to = start; locals_end = tested + 2; may_capture = true; exit = Some (record { place = piece.to; locals = before.count }) } in
      let inner = whole_found steps whole body (in_loop piece.to before) inside piece.from small (each (with_used steps whole) (omega arith) (omega (arith, high, next)))
      (serves_itself steps (Some (record { place = piece.to; locals = before.count })) piece.from start (λ e is. subst (λ (x : Exit). x.place ≤ length steps) (same_Some _ e is) fits)) (omega (arith, high, next)) (ready_loop piece.to piece.from before sound) (omega arith) begins (omega (arith, high))
      (omega (arith, high, next, fits)) body_at (λ is. refl) (omega (arith, levels)) (calm_before start (captures_flow steps body) (in_loop piece.to before) (record { place = piece.to; locals = before.count }) refl (omega (arith, high, next))) in (
        repeat_plan inner.0 (Some condition.0),
        (
          last,
          loop,
          closed_parts loop start tested (tested + 2),
          loop_is steps at piece step step.kind last base.1 refl (not_single steps levelled small logic_found at piece step last base.1 (omega (arith, begins, high)) after back.1)
              (last_is steps piece.from last piece.to after (jump_back steps piece.from last back.1 (omega (arith, begins, high)))),
          inl (closing step base.1 base.2 last refl after),
          record {
            turn = turn.0;
            length = count;
            turned = turn.1;
            parted = if_true (nat_le count tested) _ _ (le_is count tested (omega arith)) ∙ ap (λ n. Some (closed_parts loop n tested (tested + 2))) here;
            tested = condition.1;
          },
          inr (subst (λ e. BodyStands steps (with_used steps (record { from = piece.from; to = start; locals_end = tested + 2; may_capture = true; exit = Some e })) inner.0) (sym exit_is) inner.1),
        ),
        repeat_low condition.0 inner.0 condition.2 inner.2,
      )
    where
      repeat_low : (condition : ConditionTree) (plans : Plans) → condition_levels steps condition ≤ logic_levels steps logic + 2 * operators logic → body_levels steps plans ≤ flow_levels steps body → plan_levels steps (repeat_plan plans (Some condition)) ≤ flow_statement_levels steps (repeat_flow body logic)
      repeat_low condition plans one two = omega (arith, one, two)

      closes_at : (place : ℕ) (count : ℕ) (declared : Option ℕ) → kind_at steps place ≡ Some (StepKind.Close before.count declared) → count ≡ before.count → closes steps place count ≡ true
      closes_at place count declared is same = ap (closes_from count) is ∙ ap (λ n. before.count == n) same ∙ same_is before.count

      closing : (step : Step) → slice_get steps piece.from ≡ Some step → step.base ≡ before.count → (last : ℕ) → last ≡ tested + 3 → piece.to ≡ suc last → closed_loop_at steps piece last ≡ Some (loop_at piece (LoopKind.Closed tested (tested + 2)) step)
      closing step there base last is after =
          let one : last - 1 ≡ tested + 2 = omega (arith, is) in
          let two : last - 2 ≡ tested + 1 = omega (arith, is) in
          let three : last - 3 ≡ tested = omega (arith, is) in
          let owner = captured_in steps body (in_loop piece.to before) inside (tested + 2) piece.from start body_at some in
          let twice : closes_twice steps piece step last ≡ true =
          both_true (nat_le (piece.from + 3) last) _ (le_is (piece.from + 3) last (omega (arith, is, begins, high)))
          (both_true (closes steps (last - 1) step.base) _ (ap (λ n. closes steps n step.base) one ∙ closes_at (tested + 2) step.base (declares_active before before.count) again.1 base)
          (both_true (closes steps (last - 3) step.base) _ (ap (λ n. closes steps n step.base) three ∙ closes_at tested step.base (declares_active inside before.count) close.1 base)
          (both_true (jumps_to steps (last - 2) piece.to) _ (ap (λ n. jumps_to steps n piece.to) two ∙ jumps_is steps (tested + 1) piece.to out.1)
          (ap (λ n. ends_captured steps n piece.from) one
          ∙ both_true (nat_le (tested + 2) (length steps)) _ (le_is (tested + 2) (length steps) (omega (arith, next, fits)))
          (one_between (λ place. ends_there (tested + 2) (kind_at steps place)) piece.from (length steps) owner.0 owner.1 (omega (arith, owner.2, high, next, fits)) (ap (ends_there (tested + 2)) owner.3 ∙ same_is (tested + 2))))))) in
          if_true (ends_back steps piece last) _ _
          (both_true (is_this (number_before piece.to) last) _ (this_before steps piece.to last after) (jumps_is steps last piece.from (subst (λ n. Jumps steps n piece.from) (sym is) back.1)))
          ∙ ap (option_and_then (closed_of_step steps piece last)) there
          ∙ ap (option_map (λ kind. loop_at piece kind step)) (if_true (closes_twice steps piece step last) _ _ twice ∙ ap (λ n. Some (LoopKind.Closed n (last - 1))) three ∙ ap (λ n. Some (LoopKind.Closed tested n)) one)

  pub for_found : ClosesAreNamed steps → (numeric : Bool) (body : Flow) (before between : Around) (ends step_number : ℕ) → FlowStatementLies steps before between ends (for_flow step_number numeric body) piece.from piece.to → before.captured ≤ before.count → piece.to ≤ length steps
      → ((inner : BodyAt) → piece.from ≤ inner.from → inner.to < piece.to → BodyFound steps inner) → flow_statement_levels steps (for_flow step_number numeric body) ≤ 200
      → (plan : PlanTree) × PlanStands steps at piece plan × (plan_levels steps plan ≤ flow_statement_levels steps (for_flow step_number numeric body))
  for_found named numeric body before between ends step_number (same, here, foot, variables_end, captured, hidden, inside, short, head, hides, declares, begins, block, variables, footed, next) sound fits each levels =
      let step : Step = head.0.step in
      let kind : step.kind ≡ StepKind.Head numeric foot piece.to variables_end captured = same_Some step.kind _ (sym (kind_there steps piece.from step head.0.there) ∙ head.1) in
      let base = head.0.base in
      let exit_is : exit_of piece step ≡ record { place = piece.to; locals = before.count } = ap (λ n. record { place = piece.to; locals = n }) base in
      let ready_hidden = ready_declared piece.from false (in_loop piece.to before) hidden piece.from (ready_loop piece.to piece.from before sound) (omega arith) hides.0 in
      let ready_inside = ready_declared piece.from captured hidden inside piece.from ready_hidden (omega arith) declares in
      let is : inside.exit ≡ Some (record { place = piece.to; locals = before.count }) = declares.exit ∙ hides.0.exit in
      let low = variables_low captured variables in
      let behind : ExitBehind inside.exit variables_end = subst (λ e. ExitBehind e variables_end) (sym is) (omega (arith, low, next)) in
      let within = block_in steps (captures_flow steps body) inside inside.exit piece.from (λ ends end. (behind : Around) × FlowLies steps inside behind ends body (suc piece.from) end) (suc piece.from) variables_end block
      (λ end below lies. let found = flow_in steps named body inside lies.0 end (suc piece.from) end piece.from ready_inside (omega arith) (behind_earlier inside.exit variables_end end below behind) lies.1 in (found.rises, found.inside)) in
      let inner = block_found steps body inside inside inside.exit piece.from (suc piece.from) variables_end small refl (λ inner from to. each inner (omega (arith, from)) (omega (arith, to, low, next)))
      (serves_itself steps inside.exit (suc piece.from) variables_end (λ e at_e. subst (λ (x : Exit). x.place ≤ length steps) (same_Some _ e (sym is ∙ at_e)) fits)) behind ready_inside (omega arith) begins (omega (arith, low, next, fits)) block (omega (arith, levels))
      (λ e at_e there. let one = ap (λ (x : Exit). x.place) (same_Some _ e (sym is ∙ at_e)) in absurd (omega (arith, one, there, low, next))) in
      let framed : is_framed piece foot piece.to variables_end ≡ true =
      both_true (nat_lt piece.from variables_end) _ (lt_is piece.from variables_end begins)
      (both_true (nat_le variables_end foot) _ (le_is variables_end foot low) (both_true (is_this (number_before piece.to) foot) _ (this_before steps piece.to foot next) (same_is piece.to))) in
      let foot_is : is_foot numeric (piece.from + 1) (kind_at steps foot) ≡ true = ap (is_foot numeric (piece.from + 1)) footed.1 ∙ both_true (are_alike numeric numeric) _ (alike numeric) (suc_same piece.from) in
      let form : Form = for_around steps piece step numeric variables_end in (
        for_plan piece.from numeric inner.0,
        (
          straight_is steps at piece step (StepKind.Head numeric foot piece.to variables_end captured) head.0.there kind (second_false (is_single piece) false refl)
              (last_none steps piece.from piece.to (λ last below back. not_back last below back within.1 low)),
          (
            form,
            ap (option_and_then (counted_of_step steps piece)) head.0.there ∙ ap (counted_of_kind steps piece step) kind
                ∙ if_true (is_framed piece foot piece.to variables_end && (is_foot numeric (piece.from + 1) (kind_at steps foot) && ends_variables steps step foot variables_end captured)) _ _
                (both_true (is_framed piece foot piece.to variables_end) _ framed (both_true (is_foot numeric (piece.from + 1) (kind_at steps foot)) _ foot_is (variables_is step base captured variables))),
            refl,
            block_moved inner.0 inside.exit (Some (exit_of piece step)) (is ∙ ap Some (sym exit_is)) inner.1,
          ),
        ),
        for_low step head.0.there inner.0 inner.2,
      )
    where
      variables_low : (captured : Bool) → VariablesLie steps hidden captured variables_end foot → variables_end ≤ foot
      variables_low true lies = omega (arith, lies.0)
      variables_low false lies = omega (arith, lies)

      alike : (numeric : Bool) → are_alike numeric numeric ≡ true
      alike true = refl
      alike false = refl

      suc_same : (n : ℕ) → (suc n == n + 1) ≡ true
      suc_same n = let same : suc n ≡ n + 1 = omega arith in ap (λ m. m == n + 1) same ∙ same_is (n + 1)

      variables_is : (step : Step) → step.base ≡ before.count → (captured : Bool) → VariablesLie steps hidden captured variables_end foot → ends_variables steps step foot variables_end captured ≡ true
      variables_is step base true lies =
          let register : variables_from step ≡ hidden.count = (let counted = hides.1 in omega (arith, base, counted, short)) in
          both_true (is_this (number_before foot) variables_end) _ (this_before steps foot variables_end lies.0)
          (ap (closes_from (variables_from step)) lies.1.1 ∙ ap (λ n. hidden.count == n) register ∙ same_is hidden.count)
      variables_is step base false lies = ap (λ n. variables_end == n) lies ∙ same_is variables_end

      block_moved : (plans : Plans) (one two : Option Exit) → one ≡ two → InBlock (λ inside. BodyStands steps inside plans) steps (block_at steps (suc piece.from) variables_end one) → InBlock (λ inside. BodyStands steps inside plans) steps (block_at steps (piece.from + 1) variables_end two)
      block_moved plans one two same found = let next : suc piece.from ≡ piece.from + 1 = omega arith in subst (λ e. InBlock (λ inside. BodyStands steps inside plans) steps (block_at steps (piece.from + 1) variables_end e)) same (subst (λ n. InBlock (λ inside. BodyStands steps inside plans) steps (block_at steps n variables_end one)) next found)

      for_low : (step : Step) → slice_get steps piece.from ≡ Some step → (plans : Plans) → body_levels steps plans ≤ flow_levels steps body → plan_levels steps (for_plan piece.from numeric plans) ≤ flow_statement_levels steps (for_flow step_number numeric body)
      for_low step there plans low = subst (λ n. plan_levels steps (for_plan piece.from numeric plans) ≤ flow_statement_levels steps (for_flow n numeric body)) (sym here) (omega (arith, low))

      not_back : (last : ℕ) → last < piece.to → goes_back steps piece.from last ≡ true → AllIn steps NoneOwned inside.exit piece.from variables_end (suc piece.from) variables_end (suc piece.from) variables_end → variables_end ≤ foot → ⊥
      not_back last below back within low = by (order piece.from last) (order last variables_end) (order last foot)
        where
          by : (piece.from < last) ⊎ (last ≤ piece.from) → (last < variables_end) ⊎ (variables_end ≤ last) → (last < foot) ⊎ (foot ≤ last) → ⊥
          by (inr first) two three =
              let at_head : last ≡ piece.from = (let least = (back_is steps piece.from last back).0 in omega (arith, first, least)) in
              no_jump_back steps piece.from last (StepKind.Head numeric foot piece.to variables_end captured) (subst (λ n. kind_at steps n ≡ Some (StepKind.Head numeric foot piece.to variables_end captured)) (sym at_head) head.1) refl back
          by (inl past) (inl inner) three = no_back_before steps NoneOwned inside.exit piece.from variables_end (suc piece.from) variables_end (suc piece.from) variables_end piece.from last within past inner (omega arith) back
          by (inl past) (inr outer) (inr footing) =
              let at_foot : last ≡ foot = omega (arith, footing, below, next) in
              no_jump_back steps piece.from last (StepKind.Foot numeric (suc piece.from)) (subst (λ n. kind_at steps n ≡ Some (StepKind.Foot numeric (suc piece.from))) (sym at_foot) footed.1) refl back
          by (inl past) (inr outer) (inl before_foot) = at_close captured variables
            where
              at_close : (captured : Bool) → VariablesLie steps hidden captured variables_end foot → ⊥
              at_close true lies =
                  let there : last ≡ variables_end = omega (arith, outer, before_foot, lies.0) in
                  no_jump_back steps piece.from last (StepKind.Close hidden.count (declares_active hidden hidden.count)) (subst (λ n. kind_at steps n ≡ Some (StepKind.Close hidden.count (declares_active hidden hidden.count))) (sym there) lies.1.1) refl back
              at_close false lies = absurd (omega (arith, outer, before_foot, lies))
