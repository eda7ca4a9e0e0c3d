-- A body is cut in two at a cut: statements that are no deeper lie up to the cut and from there on, unless a statement that ends at the exit, or a `repeat` at the end of the body, lies around it.
use Rattle.std.proofs.Common.{◌≡◌, ◌∙◌, ◌≤◌, ◌<◌, ◌^◌, ◌⊎◌, inl, inr, refl, sym, ap, subst, ℕ, suc, Bool, true, false, List, length, Option, None, Some, arith}
use Rattle.std.specs.Prelude.{option_and_then}
use Rattle.std.proofs.lemmas.Bool.{false≢true}
use Rattle.std.proofs.lemmas.Option.{none-some, same_Some}
use Rattle.recover_expr.specs.declared.steps.Step.{Step}
use Rattle.recover_expr.specs.declared.steps.StepKind.{StepKind}
use Rattle.recover_flow.specs.Asked.{kind_at, target_at, target_of}
use Rattle.recover_flow.specs.Flow.{AreTold, Around, BreakLies, CapturedBehind, Declares, Flow, no_flow, and_flow, repeat_flow, if_flow, FlowArms, no_more, FlowLies, FlowStatementLies, IsAt, IsFlowBlock, captures_flow, flow_arms_levels, flow_levels, in_loop, logic_room}
use Rattle.recover_flow.specs.Logic.{AreLevelled, Logic, LogicLies, literal_logic}
use Rattle.recover_flow.specs.Lying.{Jumps}
use Rattle.recover_flow.specs.declared.regions.BodyAt.{BodyAt}
use Rattle.recover_flow.specs.declared.regions.Exit.{Exit}
use Rattle.recover_flow.proofs.CutFacts.{Before, IsCut, OwnAt, past_locals}
use Rattle.recover_flow.proofs.FlowInside.{jump_back}
use Rattle.recover_flow.proofs.FlowMoves.{DeclaredIn, all_told_moved, calm_captures, calm_flow, calm_levels, calm_lies, calm_none_last, flat_or_declared, flow_moved}
use Rattle.recover_flow.proofs.FlowParts.{ClosesAt, Found, Hard, Near, declared_before, do_flat, never_back, past_least, put_behind, put_front, stays_near, target_goes_back, target_is, widened}
use Rattle.recover_flow.proofs.LogicCut.{AnyTarget, Hits, Never, StaysBefore, any_target, cut_test, never_any, unlabelled}
use Rattle.recover_flow.proofs.LogicRest.{FlatFlow, NoneLast, cut_back, empty_flat, join_flat, lower_room, only_test, raise_flat, told_part}
use Rattle.recover_flow.proofs.PartsInside.{In, NoneOwned, kind_there, logic_in, order}

module _ (steps : List Step) where
  -- where the jumps of a condition go
  in_target : (hi low high place base target : ℕ) (kind : StepKind) → In steps NoneOwned None 0 hi low high place base kind → target_of kind ≡ Some target → target ≤ hi
  in_target hi low high place base target StepKind.Act here goes = absurd (none-some target goes)
  in_target hi low high place base target StepKind.Return here goes = absurd (none-some target goes)
  in_target hi low high place base target (StepKind.Test when to negated) here goes = let same : to ≡ target = same_Some to target goes in omega (arith, here.1, same)
  in_target hi low high place base target (StepKind.Jump to) (from, inl stays) goes = let same : to ≡ target = same_Some to target goes in omega (arith, stays, same)
  in_target hi low high place base target (StepKind.Jump to) (from, inr breaks) goes = absurd breaks
  in_target hi low high place base target (StepKind.Declaration end captured) here goes = absurd (none-some target goes)
  in_target hi low high place base target (StepKind.Close from declared) here goes = absurd (none-some target goes)
  in_target hi low high place base target (StepKind.Head numeric foot end variables_end captured) here goes = absurd (none-some target goes)
  in_target hi low high place base target (StepKind.Foot numeric to) here goes = absurd (none-some target goes)

  logic_target : (logic : Logic) (sense : Bool) (goal from to hi place target : ℕ) → LogicLies steps logic sense goal from to → goal ≤ hi → to ≤ hi → from ≤ place → place < to → target_at steps place ≡ Some target → target ≤ hi
  logic_target logic sense goal from to hi place target lies goal_low to_low begins ends there =
      let found = target_is steps place target there in
      in_target hi 0 0 place found.0.base target found.0.kind (logic_in steps NoneOwned None 0 hi 0 0 logic sense goal from to lies (omega arith) to_low (omega arith, goal_low) place found.0 begins ends found.1) found.2

  -- an `if` with one arm
  pub if_block_flat : (logic : Logic) (body : Flow) (before : Around) (from start to bound : ℕ) → from ≤ start → start ≤ to → LogicLies steps logic false to from start → AreTold steps before from start
      → IsFlowBlock steps before (captures_flow steps body) (λ ends end. (inside : Around) × FlowLies steps before inside ends body start end) start to → logic_room steps logic ≤ bound → flow_levels steps body ≤ bound → 1 ≤ bound → FlatFlow steps before from to (suc bound)
  if_block_flat logic body before from start to bound low high tests told block room levels some =
      record {
        flow = and_flow (if_flow logic body no_more) no_flow;
        lies = λ ends. (tt, to, before, omega (arith, low, high), omega arith, (refl, (start, low, high, tests, told, block)), (refl, refl));
        low = omega (arith, room, levels, some);
        none = refl;
        calm = (refl, tt);
      }

module _ (steps : List Step) (levelled : AreLevelled steps) (at : BodyAt) (small : length steps < 2 ^ 32) (fits : at.to ≤ length steps) (low cut : ℕ) (is_cut : IsCut steps at small fits low cut) (ends_in : at.to ≤ at.locals_end) where
  abbrev Sound : Around → Type 0
  Sound around = around.captured ≤ around.count

  abbrev FoundIn : (before : Around) (ends from to bound : ℕ) → Type 0
  FoundIn before ends from to bound = Found steps at small fits low cut is_cut before ends from to bound

  abbrev HardIn : (from to : ℕ) → Type 0
  HardIn from to = Hard steps at small fits low cut is_cut from to

  pub sound_behind : (step : ℕ) (captured : Bool) (before behind : Around) → Sound before → Declares step captured before behind → Sound behind
  sound_behind step captured before behind sound declares = by captured declares.highest
    where
      more : before.count < behind.count
      more = declares.more

      by : (captured : Bool) → CapturedBehind captured before behind → behind.captured ≤ behind.count
      by true highest = highest.1
      by false highest = omega (arith, sound, more, highest)

  pub told_before : (around : Around) (place : ℕ) (kind : StepKind) (is : IsAt steps around place kind) → low ≤ place → place < cut → Before steps at small fits low cut place is.0.step.base kind
  told_before around place kind is from to =
      subst (λ k. Before steps at small fits low cut place is.0.step.base k) (same_Some is.0.step.kind kind (sym (kind_there steps place is.0.step is.0.there) ∙ is.1)) (is_cut.each place is.0.step from to is.0.there)

  -- ---- statements that no cut is in

  pub break_uncut : (exit : Option Exit) (around : Around) (from to : ℕ) → Sound around → low ≤ from → from < cut → cut < to → BreakLies steps around exit from to → ⊥
  break_uncut None around from to sound begins before behind lies = absurd lies
  break_uncut (Some exit) around from to sound begins before behind (inl (straight, jump, next)) = absurd (omega (arith, before, behind, next))
  break_uncut (Some exit) around from to sound begins before behind (inr (closed, close, jump, next)) =
      let base = close.0.base in
      let held = told_before around from (StepKind.Close exit.locals (around.declared exit.locals)) close begins before (omega (arith, closed, sound, base)) in
      absurd (omega (arith, held, behind, next))

  pub back_uncut : (from last to : ℕ) → low ≤ from → from < cut → cut < to → to ≡ suc last → to ≤ at.to → from ≤ last → Jumps steps last from → ⊥
  back_uncut from last to begins before behind next within goes jump =
      let known = is_cut.back from last begins before (omega (arith, next, within)) (jump_back steps from last jump goes) in absurd (omega (arith, known, behind, next))

  -- ---- a block's own locals

  -- one before the cut ends with the whole
  pub own_local : (around : Around) (captures captured : Bool) (place end to : ℕ) → low ≤ place → place < cut → cut < to → to ≤ at.locals_end → kind_at steps place ≡ Some (StepKind.Declaration end captured) → ClosesAt steps around captures end to
      → (captures ≡ true → (later : ℕ) × (low ≤ later) × (later < end) × (kind_at steps later ≡ Some (StepKind.Declaration end true))) → (captured ≡ true → captures ≡ true)
      → (end ≡ at.locals_end) × (to ≡ end) × (captures ≡ false) × (captured ≡ false)
  own_local around captures captured place end to begins before behind within is closes owner owns = by captures closes owner owns (declared_before steps at small fits low cut is_cut place end captured begins before is)
    where
      least : end ≤ past_locals steps at small fits end captured
      least = past_least steps at small fits low cut is_cut end captured

      not_captured : (captured : Bool) → (captured ≡ true → false ≡ true) → captured ≡ false
      not_captured true owns = absurd (false≢true (owns refl))
      not_captured false owns = refl

      by : (captures : Bool) → ClosesAt steps around captures end to → (captures ≡ true → (later : ℕ) × (low ≤ later) × (later < end) × (kind_at steps later ≡ Some (StepKind.Declaration end true))) → (captured ≡ true → captures ≡ true)
          → (past_locals steps at small fits end captured ≤ cut) ⊎ OwnAt steps at small fits low place end → (end ≡ at.locals_end) × (to ≡ end) × (captures ≡ false) × (captured ≡ false)
      by false closes owner owns (inl past) = absurd (omega (arith, closes, past, least, behind))
      by false closes owner owns (inr own) = (own.0, closes, refl, not_captured captured owns)
      by true closes owner owns (inr own) = absurd (omega (arith, own.0, closes.0, within))
      by true closes owner owns (inl past) = later (owner refl)
        where
          later : (place : ℕ) × (low ≤ place) × (place < end) × (kind_at steps place ≡ Some (StepKind.Declaration end true)) → (end ≡ at.locals_end) × (to ≡ end) × (true ≡ false) × (captured ≡ false)
          later (other, other_low, other_high, other_is) = at_other (declared_before steps at small fits low cut is_cut other end true other_low (omega (arith, other_high, past, least)) other_is)
            where
              at_other : (suc end ≤ cut) ⊎ OwnAt steps at small fits low other end → (end ≡ at.locals_end) × (to ≡ end) × (true ≡ false) × (captured ≡ false)
              at_other (inl past_end) = absurd (omega (arith, past_end, closes.0, behind))
              at_other (inr own) = absurd (omega (arith, own.0, closes.0, within))

  -- ---- an `if`

  pub stays_logic : (logic : Logic) (sense : Bool) (goal from to hi start : ℕ) → low ≤ start → Near steps at small fits low cut is_cut start hi → start ≤ from → LogicLies steps logic sense goal from to → goal ≤ hi → to ≤ hi → (high : ℕ) → high ≤ to → high ≤ cut → StaysBefore steps from high cut
  stays_logic logic sense goal from to hi start begins near later lies goal_low to_low high high_low high_cut place target least most there =
      stays_near steps at small fits low cut is_cut start hi begins near place target (omega (arith, later, least)) (omega (arith, most, high_cut)) (logic_target steps logic sense goal from to hi place target lies goal_low to_low least (omega (arith, most, high_low)) there) there

  pub in_none : (logic : Logic) (body : Flow) (before : Around) (from start to ends bound : ℕ) → low ≤ from → from < cut → cut < to → Near steps at small fits low cut is_cut from to → from ≤ start → start ≤ to → LogicLies steps logic false to from start → AreTold steps before from start
      → IsFlowBlock steps before (captures_flow steps body) (λ ends end. (inside : Around) × FlowLies steps before inside ends body start end) start to → logic_room steps logic ≤ bound → flow_levels steps body ≤ bound → 1 ≤ bound
      → (start ≤ cut → FoundIn before ends start to (suc bound)) → FoundIn before ends from to (suc bound)
  in_none logic body before from start to ends bound begins before_cut behind near goes stops tests told block room levels some rec = by (order cut start)
    where
      stays : (high : ℕ) → high ≤ start → high ≤ cut → StaysBefore steps from high cut
      stays high high_low high_cut = stays_logic logic false to from start to from begins near (omega arith) tests (omega arith) stops high high_low high_cut

      by : (cut < start) ⊎ (start ≤ cut) → FoundIn before ends from to (suc bound)
      by (inl inside) =
          let r = cut_test steps levelled false logic false to from start cut (omega (arith, before_cut)) inside behind (stays cut (omega (arith, inside)) (omega arith)) tests in
          let a = lower_room steps r.first logic r.first_low in
          let b = lower_room steps r.rest logic r.rest_low in
          inl (inl (
            only_test steps r.first before from cut bound (omega (arith, before_cut)) r.first_at (told_part steps before from from start cut (omega arith) (omega (arith, inside)) told) (omega (arith, a, room)) some,
            if_block_flat steps r.rest body before cut start to bound (omega (arith, inside)) stops r.rest_at (told_part steps before from cut start start (omega (arith, before_cut)) (omega arith) told) block (omega (arith, b, room)) levels some,
          ))
      by (inr past) =
          put_front steps at small fits low cut is_cut before ends from start to (suc bound) goes past
          (only_test steps logic before from start bound goes (unlabelled steps logic false to from start cut behind (stays start (omega arith) past) tests start) told room some) (rec past)

  pub in_else : (logic : Logic) (body : Flow) (rest : FlowArms) (before : Around) (from start last to ends bound : ℕ) → low ≤ from → from < cut → cut < to → to ≤ ends → Near steps at small fits low cut is_cut from to → from ≤ start → start ≤ last → suc last ≤ to
      → LogicLies steps logic false (suc last) from start → AreTold steps before from start
      → IsFlowBlock steps before (captures_flow steps body) (λ ends end. (inside : Around) × FlowLies steps before inside ends body start end) start last → Jumps steps last to
      → logic_room steps logic ≤ bound → flow_levels steps body ≤ bound → flow_arms_levels steps rest ≤ bound → 1 ≤ bound
      → ((logic : Logic) (body : Flow) (from start : ℕ) → from ≤ start → start ≤ last → LogicLies steps logic false (suc last) from start → AreTold steps before from start
      → IsFlowBlock steps before (captures_flow steps body) (λ ends end. (inside : Around) × FlowLies steps before inside ends body start end) start last → (ends : ℕ) → FlowStatementLies steps before before ends (if_flow logic body rest) from to)
      → (start ≤ cut → cut < last → FoundIn before ends start last (suc bound)) → FoundIn before ends from to (suc bound)
  in_else logic body rest before from start last to ends bound begins before_cut behind within near goes stops stays_in tests told block jump room levels rest_levels some make rec = by (order cut start) (order last cut)
    where
      stays : (high : ℕ) → high ≤ start → high ≤ cut → StaysBefore steps from high cut
      stays high high_low high_cut = stays_logic logic false (suc last) from start to from begins near (omega arith) tests stays_in (omega (arith, stops, stays_in)) high high_low high_cut

      made : (logic : Logic) (body : Flow) (from : ℕ) → from ≤ to → ((ends : ℕ) → FlowStatementLies steps before before ends (if_flow logic body rest) from to) → logic_room steps logic ≤ bound → flow_levels steps body ≤ bound → FlatFlow steps before from to (suc bound)
      made logic body from low_from lies room levels =
          record { flow = and_flow (if_flow logic body rest) no_flow; lies = λ ends. (tt, to, before, low_from, omega arith, lies ends, (refl, refl)); low = omega (arith, room, levels, rest_levels, some); none = refl; calm = (refl, tt) }

      tail : FlatFlow steps before last to (suc bound)
      tail =
          made (literal_logic true) no_flow last (omega (arith, stays_in))
          (make (literal_logic true) no_flow last last (omega arith) (omega arith) refl (λ place least most. absurd (omega (arith, least, most))) (before, (refl, refl))) (omega (arith, some)) (omega arith)

      front : start ≤ cut → cut ≤ last → FoundIn before ends start last (suc bound) → FoundIn before ends from to (suc bound)
      front past ahead found =
          put_front steps at small fits low cut is_cut before ends from start to (suc bound) goes past
          (only_test steps logic before from start bound goes (unlabelled steps logic false (suc last) from start cut (omega (arith, ahead)) (stays start (omega arith) past) tests start) told room some)
          (put_behind steps at small fits low cut is_cut before ends start last to (suc bound) ahead (omega (arith, stays_in)) within tail found)

      by : (cut < start) ⊎ (start ≤ cut) → (last < cut) ⊎ (cut ≤ last) → FoundIn before ends from to (suc bound)
      by (inl inside) other =
          let r = cut_test steps levelled false logic false (suc last) from start cut (omega (arith, before_cut)) inside (omega (arith, inside, stops)) (stays cut (omega (arith, inside)) (omega arith)) tests in
          let a = lower_room steps r.first logic r.first_low in
          let b = lower_room steps r.rest logic r.rest_low in
          inl (inl (
            only_test steps r.first before from cut bound (omega (arith, before_cut)) r.first_at (told_part steps before from from start cut (omega arith) (omega (arith, inside)) told) (omega (arith, a, room)) some,
            made r.rest body cut (omega (arith, behind)) (make r.rest body cut start (omega (arith, inside)) stops r.rest_at (told_part steps before from cut start start (omega (arith, before_cut)) (omega arith) told) block) (omega (arith, b, room)) levels,
          ))
      by (inr past) (inl crossed) =
          let known = stays_near steps at small fits low cut is_cut from to begins near last to (omega (arith, goes, stops)) crossed (omega arith) (ap (λ found. option_and_then target_of found) jump) in
          absurd (omega (arith, known, behind))
      by (inr past) (inr ahead) = at_last (order cut last)
        where
          at_last : (cut < last) ⊎ (last ≤ cut) → FoundIn before ends from to (suc bound)
          at_last (inl inside) = front past ahead (rec past inside)
          at_last (inr here) =
              let same : last ≡ cut = omega (arith, ahead, here) in
              let whole = do_flat steps body before start last bound stops block levels some in
              front past ahead (inl (inl (subst (λ n. FlatFlow steps before start n (suc bound)) same whole, subst (λ n. FlatFlow steps before n last (suc bound)) same (empty_flat steps before last (suc bound)))))

  -- ---- an open `repeat`

  -- statements up to the cut and from there on
  pub record Halves (before behind : Around) (ends from to bound : ℕ) (captures : Bool) : Type 0 where
    pub left : Flow
    pub right : Flow
    pub between : Around
    pub after : Around
    pub left_at : FlowLies steps before between ends left from cut
    pub right_at : FlowLies steps between after ends right cut to
    pub left_low : flow_levels steps left ≤ bound
    pub right_low : flow_levels steps right ≤ bound
    pub left_owns : captures_flow steps left ≡ true → captures ≡ true
    pub right_owns : captures_flow steps right ≡ true → captures ≡ true
    pub calm : NoneLast left ⊎ (right ≡ no_flow)
    pub ended : (after ≡ behind) ⊎ (to ≡ ends)

  not_true : (a b : Bool) → (a ≡ true → b ≡ true) → b ≡ false → a ≡ false
  not_true true b more is = absurd (false≢true (sym is ∙ more refl))
  not_true false b more is = refl

  module _ (body : Flow) (logic : Logic) (before inside : Around) (from start to ends bound : ℕ) (begins : low ≤ from) (before_cut : from < cut) (behind : cut < to) (within : to ≤ ends) (ends_low : ends ≤ at.locals_end) (fits_in : to ≤ at.to)
      (near : Near steps at small fits low cut is_cut from to) (goes : from ≤ start) (stops : start ≤ to) (none : captures_flow steps body ≡ false) (lies : FlowLies steps (in_loop to before) inside to body from start)
      (tests : LogicLies steps logic false from start to) (told : AreTold steps inside start to) (room : logic_room steps logic ≤ bound) (levels : flow_levels steps body ≤ bound) (some : 1 ≤ bound)
      (hard : to ≡ at.locals_end → FoundIn before ends from to (suc bound)) where
    abbrev around : Around
    around = in_loop to before

    no_break : (a : Around) (u v : ℕ) → from ≤ u → v ≤ cut → BreakLies steps a around.exit u v → ⊥
    no_break a u v least most (inl (straight, jump, next)) =
        let known = stays_near steps at small fits low cut is_cut from to begins near u to least (omega (arith, most, next)) (omega arith) (ap (λ found. option_and_then target_of found) jump.1) in absurd (omega (arith, known, behind))
    no_break a u v least most (inr (closed, close, jump, next)) =
        let known = stays_near steps at small fits low cut is_cut from to begins near (suc u) to (omega (arith, least)) (omega (arith, most, next)) (omega arith) (ap (λ found. option_and_then target_of found) jump.1) in absurd (omega (arith, known, behind))

    moved_out : (flow : Flow) (other at_end : ℕ) → at_end ≤ cut → FlowLies steps around around other flow from at_end → FlowLies steps before before other flow from at_end
    moved_out flow other at_end high flat = flow_moved steps around.exit before.exit from cut no_break flow around around other from at_end refl (omega arith) high flat

    -- an own local before the cut ends with the whole
    own_at : (at_end : ℕ) → at_end ≤ cut → (declared : DeclaredIn steps to from at_end) → OwnAt steps at small fits low declared.place to
    own_at at_end high declared = by (declared_before steps at small fits low cut is_cut declared.place to declared.captured (omega (arith, begins, least)) (omega (arith, most, high)) declared.there)
      where
        least : from ≤ declared.place
        least = declared.least

        most : declared.place < at_end
        most = declared.most

        by : (past_locals steps at small fits to declared.captured ≤ cut) ⊎ OwnAt steps at small fits low declared.place to → OwnAt steps at small fits low declared.place to
        by (inl past) = let known = past_least steps at small fits low cut is_cut to declared.captured in absurd (omega (arith, past, known, behind))
        by (inr own) = own

    stays : (high : ℕ) → high ≤ to → high ≤ cut → StaysBefore steps start high cut
    stays high high_low high_cut = stays_logic logic false from start to to from begins near goes tests (omega (arith, goes, stops)) (omega arith) high high_low high_cut

    told_out : inside ≡ around → AreTold steps before start to
    told_out same = all_told_moved steps before.exit around start to (subst (λ a. AreTold steps a start to) same told)

    never : Never steps cut to from
    never = never_back steps at small fits low cut is_cut from to begins before_cut fits_in

    -- the cut is in its block
    cut_in_block : cut < start → Halves around inside to from start bound (captures_flow steps body) → FoundIn before ends from to (suc bound)
    cut_in_block ahead halves = by (flat_or_declared steps halves.left around halves.between to from cut halves.left_at) halves.calm
      where
        told_right : (halves.after ≡ inside) ⊎ (start ≡ to) → AreTold steps halves.after start to
        told_right (inl same) = subst (λ a. AreTold steps a start to) (sym same) told
        told_right (inr ended) = λ place least most. absurd (omega (arith, least, most, ended))

        by : ((halves.between ≡ around) × ((other : ℕ) → FlowLies steps around around other halves.left from cut)) ⊎ DeclaredIn steps to from cut → NoneLast halves.left ⊎ (halves.right ≡ no_flow) → FoundIn before ends from to (suc bound)
        by (inr declared) calm = hard (own_at cut (omega arith) declared).0
        by (inl flat) (inr none_right) =
            let ended = subst (λ flow. FlowLies steps halves.between halves.after to flow cut start) none_right halves.right_at in
            absurd (omega (arith, ended.1, ahead))
        by (inl (same, each)) (inl calm) =
            let left_low = halves.left_low in
            let right_low = halves.right_low in
            inl (inl (
              record { flow = halves.left; lies = λ other. moved_out halves.left other cut (omega arith) (each other); low = omega (arith, left_low); none = not_true (captures_flow steps halves.left) (captures_flow steps body) halves.left_owns none; calm = calm },
              record {
                flow = and_flow (repeat_flow halves.right logic) no_flow;
                lies = λ other. (
                  tt,
                  to,
                  before,
                  omega (arith, behind),
                  omega arith,
                  (
                    refl,
                    start,
                    halves.after,
                    omega (arith, ahead),
                    inl (
                      not_true (captures_flow steps halves.right) (captures_flow steps body) halves.right_owns none,
                      stops,
                      subst (λ a. FlowLies steps a halves.after to halves.right cut start) same halves.right_at,
                      never_any steps logic false from start to cut (omega (arith, ahead)) never tests cut,
                      told_right halves.ended,
                    ),
                  ),
                  (refl, refl),
                );
                low = omega (arith, right_low, room, some);
                none = refl;
                calm = (refl, tt);
              },
            ))

    -- the cut is behind its block, and its condition goes back before the cut
    cut_behind_back : start ≤ cut → Hits steps start to from → FoundIn before ends from to (suc bound)
    cut_behind_back past hit = by (flat_or_declared steps body around inside to from start lies)
      where
        by : ((inside ≡ around) × ((other : ℕ) → FlowLies steps around around other body from start)) ⊎ DeclaredIn steps to from start → FoundIn before ends from to (suc bound)
        by (inr declared) =
            let own = own_at start past declared in
            let a = declared.least in
            let b = declared.most in
            let c = hit.least in
            let d = hit.most in
            absurd (own.2 from hit.place begins a (omega (arith, b, c)) (omega (arith, d, fits_in)) (target_goes_back steps hit.place from hit.there (omega (arith, a, b, c))))
        by (inl (same, each)) =
            let r = cut_back steps levelled before start to (told_out same) logic false from start to cut past (omega arith) past behind (stays cut (omega (arith, behind)) (omega arith)) never tests in
            let a = lower_room steps r.first logic r.first_low in
            inl (inl (
              record {
                flow = and_flow (repeat_flow body r.first) no_flow;
                lies = λ other. (
                  tt,
                  cut,
                  before,
                  omega (arith, before_cut),
                  omega arith,
                  (
                    refl,
                    start,
                    in_loop cut before,
                    goes,
                    inl (
                      none,
                      past,
                      flow_moved steps around.exit (Some (record { place = cut; locals = before.count })) from cut no_break body around around cut from start refl (omega arith) past (each cut),
                      r.first_at,
                      told_part steps (in_loop cut before) start start to cut (omega arith) (omega (arith, behind)) (all_told_moved steps (Some (record { place = cut; locals = before.count })) around start to (subst (λ x. AreTold steps x start to) same told)),
                    ),
                  ),
                  (refl, refl),
                );
                low = omega (arith, a, room, levels, some);
                none = refl;
                calm = (refl, tt);
              },
              raise_flat steps before cut to (logic_room steps logic) (suc bound) (omega (arith, room)) r.rest,
            ))

    -- and it does not go back at all
    cut_behind_once : start ≤ cut → ((other : ℕ) → LogicLies steps logic false other start to) → FoundIn before ends from to (suc bound)
    cut_behind_once past any = by (flat_or_declared steps body around inside to from start lies)
      where
        by : ((inside ≡ around) × ((other : ℕ) → FlowLies steps around around other body from start)) ⊎ DeclaredIn steps to from start → FoundIn before ends from to (suc bound)
        by (inr declared) = hard (own_at start past declared).0
        by (inl (same, each)) =
            let r = cut_test steps levelled false logic false to start to cut past behind behind (stays cut (omega (arith, behind)) (omega arith)) (any to) in
            let a = lower_room steps r.first logic r.first_low in
            let b = lower_room steps r.rest logic r.rest_low in
            let more = calm_levels steps body (suc bound) (omega (arith, some)) (omega (arith, levels)) in
            inl (inl (
              join_flat steps before from start cut (suc bound) past
                  (record { flow = calm_flow steps body; lies = λ other. calm_lies steps body before before other from start (moved_out body other start past (each other)); low = more; none = calm_captures steps body ∙ none; calm = calm_none_last steps body })
                  (only_test steps r.first before start cut bound past r.first_at (told_part steps before start start to cut (omega arith) (omega (arith, behind)) (told_out same)) (omega (arith, a, room)) some),
              only_test steps r.rest before cut to bound (omega (arith, behind)) r.rest_at (told_part steps before start cut to to past (omega arith) (told_out same)) (omega (arith, b, room)) some,
            ))

    pub open_repeat : (cut < start → Halves around inside to from start bound (captures_flow steps body) ⊎ HardIn from start) → FoundIn before ends from to (suc bound)
    open_repeat rec = by (order cut start) (any_target steps logic false from start to tests)
      where
        in_block_found : cut < start → Halves around inside to from start bound (captures_flow steps body) ⊎ HardIn from start → FoundIn before ends from to (suc bound)
        in_block_found ahead (inl halves) = cut_in_block ahead halves
        in_block_found ahead (inr there) = inr (widened steps at small fits low cut is_cut from from start to (omega arith) stops there)

        by : (cut < start) ⊎ (start ≤ cut) → AnyTarget steps logic false from start to → FoundIn before ends from to (suc bound)
        by (inl ahead) any = in_block_found ahead (rec ahead)
        by (inr past) (inl hit) = cut_behind_back past hit
        by (inr past) (inr any) = cut_behind_once past any
