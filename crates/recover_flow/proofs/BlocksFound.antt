-- The block of a statement is found where its statements are: before its CLOSE, or whole; and the first step of statements tells how many locals are active before them.
use Rattle.std.proofs.Common.{◌≡◌, ◌∙◌, ◌≤◌, ◌<◌, ◌+◌, ◌^◌, ◌⊎◌, inl, inr, refl, sym, ap, subst, ℕ, suc, Bool, true, false, List, length, slice_get, Option, None, Some, arith}
use Rattle.std.specs.Prelude.{◌==◌, ◌||◌, nat_le, nat_lt, option_and_then, if◌then◌else◌}
use Rattle.std.proofs.lemmas.Bool.{false≢true}
use Rattle.std.proofs.lemmas.Option.{none-some, same_Some}
use Rattle.recover_expr.specs.declared.steps.Step.{Step}
use Rattle.recover_expr.specs.declared.steps.StepKind.{StepKind}
use Rattle.recover_flow.specs.Asked.{block_at, closed_before, closed_body, closes, closes_from, ends_closed, ends_there, goes_ahead, is_reached, is_this, jump_of, jumps_to, kind_at, number_before, plain_body, used}
use Rattle.recover_flow.specs.Flow.{AreTold, Around, ArmLies, BreakLies, Declares, Flow, no_flow, and_flow, FlowStatement, step_flow, return_flow, break_flow, do_flow, while_flow, repeat_flow, for_flow, if_flow, FlowArms, no_more, else_flow, elseif_flow, FlowLies, FlowStatementLies, IsAt, IsFlowBlock, IsTold, captures_flow, flow_levels, in_loop}
use Rattle.recover_flow.specs.Logic.{Logic}
use Rattle.recover_flow.specs.Lying.{Jumps, is_captured_at}
use Rattle.recover_flow.specs.Plans.{Plans, body_levels}
use Rattle.recover_flow.specs.Standing.{BodyStands, InBlock, with_used}
use Rattle.recover_flow.specs.declared.regions.BlockAt.{BlockAt}
use Rattle.recover_flow.specs.declared.regions.BodyAt.{BodyAt}
use Rattle.recover_flow.specs.declared.regions.Exit.{Exit}
use Rattle.recover_flow.proofs.FlowInside.{ExitBehind, IsReady, behind_earlier, rest_captures}
use Rattle.recover_flow.proofs.FlowMoves.{DeclaredIn, exit_kept, flat_or_declared, statement_flat}
use Rattle.recover_flow.proofs.FlowParts.{captured_in}
use Rattle.recover_flow.proofs.FlowPieces.{IsBody}
use Rattle.recover_flow.proofs.PartsInside.{order}
use Rattle.recover_flow.proofs.CapturedOwn.{one_between}
use Rattle.recover_flow.proofs.StepsFound.{both_true, if_true, le_is, lt_is, same_is}

-- no captured local of the loop around is active where the loop ends at a place
abbrev pub IsQuiet : (to : ℕ) → Around → Type 0
IsQuiet to before = (e : Exit) → before.exit ≡ Some e → e.place ≡ to → before.captured ≤ e.locals

-- nor is one of a body's own locals captured, where the loop ends no later than the body
abbrev pub IsCalm : (to : ℕ) → (captures : Bool) → Around → Type 0
IsCalm to captures before = (e : Exit) → before.exit ≡ Some e → e.place ≤ to → (before.captured ≤ e.locals) × (captures ≡ false)

-- so it is at a place of such a body
pub quiet_in : (place to : ℕ) (captures : Bool) (before : Around) → place ≤ to → IsCalm to captures before → IsQuiet place before
quiet_in place to captures before within calm e is there = (calm e is (omega (arith, there, within))).0

-- and where a statement ends, it is as where the body ends
pub quiet_part : (place to : ℕ) (before : Around) → place ≤ to → ExitBehind before.exit to → IsQuiet to before → IsQuiet place before
quiet_part place to before within behind quiet e is there = let past = subst (λ x. ExitBehind x to) is behind in quiet e is (omega (arith, there, within, past))

-- the loop goes on behind a body
pub calm_before : (to : ℕ) (captures : Bool) (before : Around) (exit : Exit) → before.exit ≡ Some exit → to < exit.place → IsCalm to captures before
calm_before to captures before exit same past e is near = let one = ap (λ (x : Exit). x.place) (same_Some exit e (sym same ∙ is)) in absurd (omega (arith, one, near, past))

module _ (steps : List Step) where
  -- ---- behind a statement

  -- none of its locals is captured where none of the body's own is
  captured_kept : (s : FlowStatement) (rest : Flow) (before between : Around) (ends from mid : ℕ) → FlowStatementLies steps before between ends s from mid → captures_flow steps (and_flow s rest) ≡ false → between.captured ≡ before.captured
  captured_kept (step_flow step) rest before between ends from mid (here, next, inl (act, same)) none = ap (λ (a : Around). a.captured) same
  captured_kept (step_flow step) rest before between ends from mid (here, next, inr (true, declaration, declares)) none =
      absurd (false≢true (sym none ∙ ap (λ n. is_captured_at (kind_at steps n) || captures_flow steps rest) here ∙ ap (λ kind. is_captured_at kind || captures_flow steps rest) declaration.1))
  captured_kept (step_flow step) rest before between ends from mid (here, next, inr (false, declaration, declares)) none = declares.highest
  captured_kept (return_flow step) rest before between ends from mid lies none = ap (λ (a : Around). a.captured) lies.0
  captured_kept break_flow rest before between ends from mid lies none = ap (λ (a : Around). a.captured) lies.0
  captured_kept (do_flow body) rest before between ends from mid lies none = ap (λ (a : Around). a.captured) lies.0
  captured_kept (while_flow logic body) rest before between ends from mid lies none = ap (λ (a : Around). a.captured) lies.0
  captured_kept (repeat_flow body logic) rest before between ends from mid lies none = ap (λ (a : Around). a.captured) lies.0
  captured_kept (for_flow step numeric body) rest before between ends from mid lies none = ap (λ (a : Around). a.captured) lies.0
  captured_kept (if_flow logic body arms) rest before between ends from mid lies none = ap (λ (a : Around). a.captured) lies.0

  pub not_captured : (captures whole : Bool) → (captures ≡ true → whole ≡ true) → whole ≡ false → captures ≡ false
  not_captured true whole owns none = absurd (false≢true (sym none ∙ owns refl))
  not_captured false whole owns none = refl

  -- what follows a statement is calm as the body is
  pub calm_behind : (s : FlowStatement) (rest : Flow) (before between : Around) (ends from mid to : ℕ) (captures : Bool) → FlowStatementLies steps before between ends s from mid → (captures_flow steps (and_flow s rest) ≡ true → captures ≡ true)
      → IsCalm to captures before → IsCalm to (captures_flow steps rest) between
  calm_behind s rest before between ends from mid to captures one owns calm e is near =
      let found = calm e (sym (exit_kept steps s before between ends from mid one) ∙ is) near in
      let none = not_captured (captures_flow steps (and_flow s rest)) captures owns found.1 in
      let same = captured_kept s rest before between ends from mid one none in
      (omega (arith, same, found.0), not_captured (captures_flow steps rest) (captures_flow steps (and_flow s rest)) (rest_captures steps s rest) none)

  -- ---- the first step

  -- a step tells how many locals are active
  abbrev pub HasBase : (count place : ℕ) → Type 0
  HasBase count place = (step : Step) × (slice_get steps place ≡ Some step) × (step.base ≡ count)

  told_base : (around : Around) (place : ℕ) → IsTold steps around place → HasBase around.count place
  told_base around place told = (told.step, told.there, told.base)

  at_place : (count here there : ℕ) → here ≡ there → HasBase count here → HasBase count there
  at_place count here there same has = subst (HasBase count) same has

  break_base : (exit : Option Exit) (around : Around) (from to : ℕ) → BreakLies steps around exit from to → HasBase around.count from
  break_base None around from to lies = absurd lies
  break_base (Some exit) around from to (inl lies) = told_base around from lies.1.0
  break_base (Some exit) around from to (inr lies) = told_base around from lies.1.0

  -- of a block, whose statements have it
  block_base : (captures : Bool) (around : Around) (count : ℕ) (lies : (ends end : ℕ) → Type 0) (from to : ℕ) → around.count ≡ count → from < to → IsFlowBlock steps around captures lies from to → ((end : ℕ) → from < end → lies end end → HasBase count from) → HasBase count from
  block_base false around count lies from to same low block each = each to low block
  block_base true around count lies from to same low (end, is, begin, close, before) each = by (order from end)
    where
      by : (from < end) ⊎ (end ≤ from) → HasBase count from
      by (inl inside) = each end inside before
      by (inr here) = let there : end ≡ from = omega (arith, here, begin) in subst (λ c. HasBase c from) same (at_place around.count end from there (told_base around end close.0))

  tested_base : (around : Around) (count from start to : ℕ) → around.count ≡ count → from ≤ start → AreTold steps around from start → (start ≡ from → HasBase count from) → HasBase count from
  tested_base around count from start to same low told rest = by (order from start)
    where
      by : (from < start) ⊎ (start ≤ from) → HasBase count from
      by (inl some) = subst (λ c. HasBase c from) same (told_base around from (told from (omega arith) some))
      by (inr none) = rest (omega (arith, none, low))

  mutual
    pub flow_base : (flow : Flow) (before behind : Around) (ends from to : ℕ) → from < to → FlowLies steps before behind ends flow from to → HasBase before.count from
    flow_base no_flow before behind ends from to some lies = absurd (omega (arith, some, lies.1))
    flow_base (and_flow s rest) before behind ends from to some (well, mid, between, starts, stops, one, others) =
        by (order from mid) (λ inside. statement_base s before between ends from mid inside one) (λ here. flow_base rest between behind ends mid to (omega (arith, here, some, starts)) others)
      where
        by : (from < mid) ⊎ (mid ≤ from) → (from < mid → HasBase before.count from) → (mid ≤ from → HasBase between.count mid) → HasBase before.count from
        by (inl inside) first rest = first inside
        by (inr empty) first rest =
            let here : mid ≡ from = omega (arith, empty, starts) in
            at_place before.count mid from here (unmoved (statement_flat steps s before between ends from mid one) here (rest empty))
          where
            unmoved : ((between ≡ before) × ((other : ℕ) → FlowStatementLies steps before before other s from mid)) ⊎ ((mid ≡ suc from) × ((step : ℕ) × (s ≡ step_flow step) × (captured : Bool) × IsAt steps before from (StepKind.Declaration ends captured) × Declares from captured before between))
                → mid ≡ from → HasBase between.count mid → HasBase before.count mid
            unmoved (inl flat) here has = subst (λ (a : Around). HasBase a.count mid) flat.0 has
            unmoved (inr declared) here has = absurd (omega (arith, declared.0, here))

    pub statement_base : (s : FlowStatement) (before behind : Around) (ends from to : ℕ) → from < to → FlowStatementLies steps before behind ends s from to → HasBase before.count from
    statement_base (step_flow step) before behind ends from to some (here, next, inl (act, same)) = told_base before from act.0
    statement_base (step_flow step) before behind ends from to some (here, next, inr (captured, declaration, declares)) = told_base before from declaration.0
    statement_base (return_flow step) before behind ends from to some (same, here, at, next) = told_base before from at.0
    statement_base break_flow before behind ends from to some (same, lies) = break_base before.exit before from to lies
    statement_base (do_flow body) before behind ends from to some (same, block) =
        block_base (captures_flow steps body) before before.count (λ ends end. (inside : Around) × FlowLies steps before inside ends body from end) from to refl some block (λ end inside lies. flow_base body before lies.0 end from end inside lies.1)
    statement_base (while_flow logic body) before behind ends from to some (same, start, back, begins, goes, tests, told, block, jump, next) =
        tested_base before before.count from start to refl begins told
        (λ here. while_base here (order start back) (λ inside. block_base (captures_flow steps body) before before.count (λ ends end. (inside : Around) × FlowLies steps (in_loop to before) inside ends body start end) start back refl inside block
        (λ end within lies. flow_base body (in_loop to before) lies.0 end start end within lies.1)))
      where
        while_base : start ≡ from → (start < back) ⊎ (back ≤ start) → (start < back → HasBase before.count start) → HasBase before.count from
        while_base here (inl inside) rec = at_place before.count start from here (rec inside)
        while_base here (inr none) rec = at_place before.count back from (omega (arith, none, goes, here)) (told_base before back jump.0)
    statement_base (repeat_flow body logic) before behind ends from to some (same, start, inside, begins, inl (none, goes, lies, tests, told)) =
        repeat_base (order from start) (λ low. flow_base body (in_loop to before) inside to from start low lies) (empty_inside body lies)
      where
        empty_inside : (body : Flow) → FlowLies steps (in_loop to before) inside to body from start → start ≡ from → inside.count ≡ before.count
        empty_inside body lies here = by (flat_or_declared steps body (in_loop to before) inside to from start lies)
          where
            by : ((inside ≡ in_loop to before) × ((other : ℕ) → FlowLies steps (in_loop to before) (in_loop to before) other body from start)) ⊎ DeclaredIn steps to from start → inside.count ≡ before.count
            by (inl flat) = ap (λ (a : Around). a.count) flat.0
            by (inr declared) = let a = declared.least in let b = declared.most in absurd (omega (arith, a, b, here))

        repeat_base : (from < start) ⊎ (start ≤ from) → (from < start → HasBase before.count from) → (start ≡ from → inside.count ≡ before.count) → HasBase before.count from
        repeat_base (inl low) rec counted = rec low
        repeat_base (inr none) rec counted =
            let here : start ≡ from = omega (arith, none, begins) in
            subst (λ c. HasBase c from) (counted here) (told_base inside from (told from (omega (arith, here)) some))
    statement_base (repeat_flow body logic) before behind ends from to some (same, start, inside, begins, inr (captured, tested, high, lies, tests, told, close, out, again, back, next)) =
        let found = captured_in steps body (in_loop to before) inside (tested + 2) from start lies captured in
        flow_base body (in_loop to before) inside (tested + 2) from start (omega (arith, found.1, found.2)) lies
    statement_base (for_flow step numeric body) before behind ends from to some (same, here, foot, variables_end, captured, hidden, inside, short, head, hides, declares, begins, block, variables, footed, next) = told_base before from head.0
    statement_base (if_flow logic body rest) before behind ends from to some (same, lies) =
        arms_base rest logic body before from to some lies
        (λ start stop inside block. block_base (captures_flow steps body) before before.count (λ ends end. (inside : Around) × FlowLies steps before inside ends body start end) start stop refl inside block (λ end within lies. flow_base body before lies.0 end start end within lies.1))

    arms_base : (rest : FlowArms) (logic : Logic) (body : Flow) (around : Around) (from to : ℕ) → from < to → ArmLies steps around logic (captures_flow steps body) (λ from ends end. (inside : Around) × FlowLies steps around inside ends body from end) rest from to
        → ((start stop : ℕ) → start < stop → IsFlowBlock steps around (captures_flow steps body) (λ ends end. (inside : Around) × FlowLies steps around inside ends body start end) start stop → HasBase around.count start) → HasBase around.count from
    arms_base no_more logic body around from to some (start, begins, goes, tests, told, block) each =
        tested_base around around.count from start to refl begins told (λ here. at_place around.count start from here (each start to (omega (arith, here, some)) block))
    arms_base (else_flow other) logic body around from to some (start, last, begins, goes, ends, tests, told, block, jump, others) each =
        tested_base around around.count from start to refl begins told (λ here. arm_base here (order start last))
      where
        arm_base : start ≡ from → (start < last) ⊎ (last ≤ start) → HasBase around.count from
        arm_base here (inl inside) = at_place around.count start from here (each start last inside block)
        arm_base here (inr none) = at_place around.count last from (omega (arith, none, goes, here)) (told_base around last jump.0)
    arms_base (elseif_flow next other rest) logic body around from to some (start, last, begins, goes, ends, tests, told, block, jump, others) each =
        tested_base around around.count from start to refl begins told (λ here. arm_base here (order start last))
      where
        arm_base : start ≡ from → (start < last) ⊎ (last ≤ start) → HasBase around.count from
        arm_base here (inl inside) = at_place around.count start from here (each start last inside block)
        arm_base here (inr none) = at_place around.count last from (omega (arith, none, goes, here)) (told_base around last jump.0)

  -- ---- bodies whose exit counts

  -- an exit stands for that of the loop around, in a part
  pub record Serves (found exit : Option Exit) (from to : ℕ) : Type 0 where
    pub used : (e : Exit) → exit ≡ Some e → (place : ℕ) → from ≤ place → place < to → Jumps steps place e.place → found ≡ Some e
    pub same : (e : Exit) → found ≡ Some e → exit ≡ Some e
    pub fits : (e : Exit) → exit ≡ Some e → e.place ≤ length steps

  pub serves_part : (found exit : Option Exit) (from from' to to' : ℕ) → from ≤ from' → to' ≤ to → Serves found exit from to → Serves found exit from' to'
  serves_part found exit from from' to to' low high serves = record { used = λ e is place least most jump. serves.used e is place (omega (arith, low, least)) (omega (arith, high, most)) jump; same = serves.same; fits = serves.fits }

  pub serves_itself : (exit : Option Exit) (from to : ℕ) → ((e : Exit) → exit ≡ Some e → e.place ≤ length steps) → Serves exit exit from to
  serves_itself exit from to fits = record { used = λ e is place least most jump. is; same = λ e is. is; fits = fits }

  -- a jump uses the exit
  pub used_is : (exit : Exit) (from to place : ℕ) → exit.place ≤ length steps → from ≤ place → place < to → place < exit.place → Jumps steps place exit.place → used steps (Some exit) from to ≡ Some exit
  used_is exit from to place fits least most ahead jump =
      let goes : jumps_to steps place exit.place ≡ true = ap (λ found. is_this (option_and_then jump_of found) exit.place) jump ∙ same_is exit.place in
      if_true (is_reached steps exit.place from to) _ _
      (both_true (nat_le exit.place (length steps)) _ (le_is exit.place (length steps) fits) (one_between (goes_ahead steps exit.place) from to place least most (both_true (nat_lt place exit.place) _ (lt_is place exit.place ahead) goes)))

  used_same : (found : Option Exit) (from to : ℕ) (e : Exit) → used steps found from to ≡ Some e → found ≡ Some e
  used_same None from to e is = is
  used_same (Some exit) from to e is = by (is_reached steps exit.place from to) is
    where
      by : (b : Bool) → (if b then Some exit else None) ≡ Some e → Some exit ≡ Some e
      by true is = is
      by false is = absurd (none-some e is)

  pub serves_used : (found exit : Option Exit) (from to : ℕ) → ExitBehind exit to → Serves found exit from to → Serves (used steps found from to) exit from to
  serves_used found exit from to behind serves =
      record {
        used = λ e is place least most jump.
            ap (λ f. used steps f from to) (serves.used e is place least most jump) ∙ used_is e from to place (serves.fits e is) least most (let far = subst (λ x. ExitBehind x to) is behind in omega (arith, far, most)) jump;
        same = λ e is. serves.same e (used_same found from to e is);
        fits = serves.fits;
      }

  -- ---- blocks

  -- what is found as a body where these statements lie
  abbrev pub BodyFound : BodyAt → Type 0
  BodyFound at =
      (flow : Flow) (before behind : Around) (ends first : ℕ) → IsBody steps at before.exit ends → Serves at.exit before.exit at.from at.to → at.to ≤ at.locals_end → IsReady first before → first ≤ at.from → at.from ≤ at.to
      → FlowLies steps before behind ends flow at.from at.to → (captures_flow steps flow ≡ true → at.may_capture ≡ true) → flow_levels steps flow ≤ 200 → IsCalm at.to (captures_flow steps flow) before → (plans : Plans) × BodyStands steps at plans × (body_levels steps plans ≤ flow_levels steps flow)

  pub is_body : (at : BodyAt) (exit : Option Exit) (ends : ℕ) → length steps < 2 ^ 32 → at.to ≤ length steps → ExitBehind exit at.to → ends ≡ at.locals_end → Serves at.exit exit at.from at.to → IsBody steps at exit ends
  is_body at exit ends small fits behind owned serves = record { small = small; fits = fits; behind = behind; owned = owned; used = serves.used; same = serves.same }

  abbrev pub BlockFound : Flow → BlockAt → Type 0
  BlockFound flow block = (plans : Plans) × InBlock (λ inner. BodyStands steps inner plans) steps block × (body_levels steps plans ≤ flow_levels steps flow)

  pub whole_found : (at : BodyAt) (flow : Flow) (before behind : Around) (first : ℕ) → length steps < 2 ^ 32 → BodyFound (with_used steps at) → Serves at.exit before.exit at.from at.to → ExitBehind before.exit at.to → IsReady first before → first ≤ at.from → at.from ≤ at.to
      → at.to ≤ at.locals_end → at.to ≤ length steps → FlowLies steps before behind at.locals_end flow at.from at.to → (captures_flow steps flow ≡ true → at.may_capture ≡ true) → flow_levels steps flow ≤ 200 → IsCalm at.to (captures_flow steps flow) before
      → (plans : Plans) × BodyStands steps (with_used steps at) plans × (body_levels steps plans ≤ flow_levels steps flow)
  whole_found at flow before behind first small found serves exit ready begins goes within fits lies may levels calm =
      let more = serves_used at.exit before.exit at.from at.to exit serves in
      found flow before behind at.locals_end first (is_body (with_used steps at) before.exit at.locals_end small fits exit refl more) more within ready begins goes lies may levels calm

  pub block_found : (flow : Flow) (around before : Around) (exit : Option Exit) (first from to : ℕ) → length steps < 2 ^ 32 → around.count ≡ before.count → ((at : BodyAt) → from ≤ at.from → at.to ≤ to → BodyFound at) → Serves exit before.exit from to → ExitBehind before.exit to → IsReady first before → first ≤ from → from ≤ to
      → to ≤ length steps → IsFlowBlock steps around (captures_flow steps flow) (λ ends end. (inside : Around) × FlowLies steps before inside ends flow from end) from to → flow_levels steps flow ≤ 200 → IsQuiet to before
      → BlockFound flow (block_at steps from to exit)
  block_found flow around before exit first from to small counted each serves behind ready begins goes fits block levels quiet = by (captures_flow steps flow) refl block
    where
      by : (captures : Bool) → captures_flow steps flow ≡ captures → IsFlowBlock steps around captures (λ ends end. (inside : Around) × FlowLies steps before inside ends flow from end) from to → BlockFound flow (block_at steps from to exit)
      by false none lies =
          let at = plain_body from to exit in
          let found = whole_found at flow before lies.0 first small (each (with_used steps at) (omega arith) (omega arith)) serves behind ready begins goes (omega arith) fits lies.1 (λ is. absurd (false≢true (sym none ∙ is))) levels (λ e is near. let past = subst (λ x. ExitBehind x to) is behind in (quiet e is (omega (arith, near, past)), none)) in
          (found.0, inr found.1, found.2)
      by true some (end, is, low, close, lies) =
          let at = closed_body from end exit in
          let found = whole_found at flow before lies.0 first small (each (with_used steps at) (omega arith) (omega (arith, is))) (serves_part exit before.exit from from to end (omega arith) (omega (arith, is)) serves) (behind_earlier before.exit to end (omega (arith, is)) behind) ready begins low (omega arith) (omega (arith, is, fits)) lies.1 (λ c. refl) levels (λ e at_e near. let past = subst (λ x. ExitBehind x to) at_e behind in absurd (omega (arith, is, near, past))) in
          let owner = captured_in steps flow before lies.0 end from end lies.1 some in
          let declared = owner.3 in
          let base = close.0.base in
          let closing : ends_closed steps from end (slice_get steps end) ≡ true =
          ap (ends_closed steps from end) close.0.there
          ∙ both_true (nat_le from end) _ (le_is from end low)
          (both_true (closes steps end close.0.step.base) _ (ap (closes_from close.0.step.base) close.1 ∙ ap (λ n. around.count == n) base ∙ same_is around.count)
          (both_true (nat_le end (length steps)) _ (le_is end (length steps) (omega (arith, is, fits)))
          (one_between (λ place. ends_there end (kind_at steps place)) from (length steps) owner.0 owner.1 (omega (arith, owner.2, is, fits)) (ap (ends_there end) declared ∙ same_is end)))) in (
            found.0,
            inl (at, ap (λ n. option_and_then (closed_before steps from exit) (number_before n)) is ∙ if_true (ends_closed steps from end (slice_get steps end)) _ _ closing, found.1),
            found.2,
          )
