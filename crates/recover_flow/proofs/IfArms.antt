-- The arms of an `if` are found: the first one, the last one, and one whose condition goes to the next one, or whose steps never go to the end.
use Rattle.std.proofs.Common.{◌≡◌, ◌∙◌, ◌≤◌, ◌<◌, ◌+◌, ◌-◌, ◌*◌, ◌^◌, ◌⊎◌, inl, inr, refl, sym, ap, subst, ℕ, suc, max, Bool, true, false, List, [], ◌∷◌, length, None, Some, arith}
use Rattle.std.specs.Prelude.{◌==◌, ◌&&◌, nat_lt, option_and_then, option_to_list}
use Rattle.recover_expr.specs.declared.steps.Step.{Step}
use Rattle.recover_expr.specs.declared.steps.StepKind.{StepKind}
use Rattle.recover_flow.specs.Arms.{arm_starts, first_true, first_ways, further_ways, last_begin, last_part, or_true, tested_ways, tests_at, tests_to, true_way}
use Rattle.recover_flow.specs.Asked.{block_at, is_test, jumps_to, plain_body, used}
use Rattle.recover_flow.specs.Conditions.{ConditionTree, condition_levels, condition_of}
use Rattle.recover_flow.specs.Flow.{AreTold, Around, ArmLies, Flow, no_flow, and_flow, do_flow, if_flow, FlowArms, no_more, FlowLies, FlowStatementLies, IsAt, IsFlowBlock, IsTold, captures_flow, flow_levels, logic_room}
use Rattle.recover_flow.specs.Logic.{AreLevelled, Logic, LogicIsFound, LogicLies, literal_logic, logic_levels, operators}
use Rattle.recover_flow.specs.Lying.{Jumps}
use Rattle.recover_flow.specs.Plans.{Plans, no_plans, ArmPlans, no_arms, last_arm, and_arm, arm_levels, body_levels}
use Rattle.recover_flow.specs.Standing.{ArmsBehind, BranchesStand, IsStart, branches_used, piece_branches}
use Rattle.recover_flow.specs.declared.branches.Way.{Way}
use Rattle.recover_flow.specs.declared.regions.BodyAt.{BodyAt}
use Rattle.recover_flow.specs.declared.regions.BranchesAt.{BranchesAt}
use Rattle.recover_flow.specs.declared.regions.Piece.{Piece}
use Rattle.recover_flow.proofs.BlocksFound.{BlockFound, BodyFound, IsQuiet, Serves, block_found, is_body, quiet_part, serves_part, serves_used}
use Rattle.recover_flow.proofs.BodiesFound.{LighterFound, lighter}
use Rattle.recover_flow.proofs.FlowInside.{ClosesAreNamed, ExitBehind, IsReady, behind_earlier, statement_flow_in}
use Rattle.recover_flow.proofs.FlowPieces.{first_cut, has_pieces}
use Rattle.recover_flow.proofs.IfIdle.{block_joined, idle_flat}
use Rattle.recover_flow.proofs.IfParts.{Among, among_left, among_option, among_right, first_start, first_way, further_start, further_way, tests_found, way_behind}
use Rattle.recover_flow.proofs.IfTrue.{last_begin_is, no_jump, none_tested, test_stays}
use Rattle.recover_flow.proofs.LogicCut.{AnyTarget, Hits, Never, any_target}
use Rattle.recover_flow.proofs.LogicRest.{FlatFlow, join_flow, join_levels}
use Rattle.recover_flow.proofs.LoopsFound.{jumps_is, room_short}
use Rattle.recover_flow.proofs.PartsInside.{NoneOwned, order}
use Rattle.recover_flow.proofs.StepsFound.{both_true, if_true, lt_is, same_is}

-- where an `if` is a piece of a body
pub record IsPlaced (steps : List Step) (at : BodyAt) (piece : Piece) (before : Around) (first : ℕ) : Type 0 where
  pub later : at.from ≤ piece.from
  pub within : piece.to ≤ at.to
  pub fits : piece.to ≤ length steps
  pub serves : Serves steps at.exit before.exit at.from at.to
  pub ready : IsReady first before
  pub begins : first ≤ piece.from
  pub behind : ExitBehind before.exit piece.to
  pub quiet : IsQuiet piece.to before

abbrev pub ArmAt : List Step → Around → Logic → Flow → FlowArms → (from to : ℕ) → Type 0
ArmAt steps before logic body rest from to = ArmLies steps before logic (captures_flow steps body) (λ from ends end. (inside : Around) × FlowLies steps before inside ends body from end) rest from to

abbrev pub BlockLies : List Step → Around → Flow → (from to : ℕ) → Type 0
BlockLies steps before body from to = IsFlowBlock steps before (captures_flow steps body) (λ ends end. (inside : Around) × FlowLies steps before inside ends body from end) from to

-- the jump to the end before a block, with it
pub jumped_if : (steps : List Step) (before : Around) (other : Flow) (ends last to : ℕ) → suc last ≤ to → IsAt steps before last (StepKind.Jump to) → BlockLies steps before other (suc last) to
    → FlowStatementLies steps before before ends (if_flow (literal_logic false) other no_more) last to
jumped_if steps before other ends last to high jump block =
    (refl, (suc last, omega arith, high, (jump.1, refl), (λ n least most. let now : last ≡ n = omega (arith, least, most) in subst (IsTold steps before) now jump.0), block))

abbrev pub LiesAny : List Step → Logic → (from to : ℕ) → Type 0
LiesAny steps logic from to = (other : ℕ) → LogicLies steps logic false other from to

module _ (steps : List Step) (levelled : AreLevelled steps) (small : length steps < 2 ^ 32) (logic_found : LogicIsFound) (named : ClosesAreNamed steps) (at : BodyAt) (others_found : LighterFound steps at) (piece : Piece) (before : Around) (first : ℕ) (placed : IsPlaced steps at piece before first) where
  abbrev pub branches : Bool → BranchesAt
  branches bare = branches_used steps (piece_branches at piece bare)

  -- a block that is shorter than the piece is found
  pub arm_block : (flow : Flow) (from to : ℕ) → piece.from ≤ from → from ≤ to → to ≤ piece.to → to - from < piece.to - piece.from → BlockLies steps before flow from to
      → flow_levels steps flow ≤ 200 → BlockFound steps flow (block_at steps from to (used steps at.exit piece.from piece.to))
  arm_block flow from to low goes high short lies levels =
      let later = placed.later in
      let within = placed.within in
      let fits = placed.fits in
      let begins = placed.begins in
      block_found steps flow before before (used steps at.exit piece.from piece.to) first from to small refl (λ inner begin end. inner_found inner begin end)
      (serves_part steps (used steps at.exit piece.from piece.to) before.exit piece.from from piece.to to low high
      (serves_used steps at.exit before.exit piece.from piece.to placed.behind (serves_part steps at.exit before.exit at.from piece.from at.to piece.to later within placed.serves)))
      (behind_earlier before.exit piece.to to high placed.behind) placed.ready (omega (arith, begins, low)) goes (omega (arith, high, fits)) lies levels (quiet_part to piece.to before high placed.behind placed.quiet)
    where
      inner_found : (inner : BodyAt) → from ≤ inner.from → inner.to ≤ to → BodyFound steps inner
      inner_found inner begin end = by (order (inner.to - inner.from) (at.to - at.from))
        where
          by : (inner.to - inner.from < at.to - at.from) ⊎ (at.to - at.from ≤ inner.to - inner.from) → BodyFound steps inner
          by (inl less) = others_found inner (lighter steps inner at less)
          by (inr more) = (λ flow before behind ends first body serves ends_in ready begins goes lies may levels calm. let later = placed.later in let within = placed.within in absurd (omega (arith, later, within, begin, end, more, goes, short)))

  pub arm_condition : (logic : Logic) (from start target : ℕ) → start ≤ target → start ≤ piece.to → LogicLies steps logic false target from start → logic_room steps logic < 200
      → (condition : ConditionTree) × (condition_of steps (record { from = from; to = start; target = target }) ≡ Some condition) × (condition_levels steps condition ≤ logic_levels steps logic + 2 * operators logic)
  arm_condition logic from start target past within lies room = let fits = placed.fits in logic_found steps levelled logic from start target (inr past) lies (omega (arith, within, fits)) (room_short steps levelled logic false target from start lies room)

  -- ---- the ways of an arm

  abbrev pub way_to : (start last : ℕ) → Way
  way_to start last = record { tests_end = Some start; block_end = last; next = Some (suc last) }

  abbrev pub way_end : (start : ℕ) → Way
  way_end start = record { tests_end = Some start; block_end = piece.to; next = None }

  pub goes_before : (bare : Bool) (from start last : ℕ) → start ≤ last → Jumps steps last piece.to → (wanted : Bool) → Among (tests_at steps from piece.to wanted) (tests_to start (suc last))
      → Among (tested_ways steps (branches bare) from wanted) (way_to start last)
  goes_before bare from start last low jump wanted among =
      way_behind steps (branches bare) (tests_at steps from piece.to wanted) (tests_to start (suc last)) (way_to start last) among
      (inl (if_true (nat_lt start (suc last) && jumps_to steps (suc last - 1) piece.to) _ _ (both_true (nat_lt start (suc last)) _ (lt_is start (suc last) (omega (arith, low))) (ap (λ n. jumps_to steps n piece.to) same ∙ jumps_is steps last piece.to jump))
      ∙ ap (λ n. Some (record { tests_end = Some start; block_end = n; next = Some (suc last) })) same))
    where
      same : suc last - 1 ≡ last
      same = omega arith

  pub goes_last : (bare : Bool) (from start : ℕ) → (wanted : Bool) → Among (tests_at steps from piece.to wanted) (tests_to start piece.to)
      → Among (tested_ways steps (branches bare) from wanted) (way_end start)
  goes_last bare from start wanted among = way_behind steps (branches bare) (tests_at steps from piece.to wanted) (tests_to start piece.to) (way_end start) among (inr (if_true (piece.to == piece.to) _ _ (same_is piece.to)))

  or_kept : (bare : Bool) (from : ℕ) (ways : List Way) (way : Way) → Among ways way → Among (or_true steps (branches bare) from ways) way
  or_kept bare from [] way among = absurd among
  or_kept bare from (first ∷ ways) way among = among

  further_among : (bare : Bool) (from : ℕ) (way : Way) (wanted : Bool) → Among (tested_ways steps (branches bare) from wanted) way → Among (further_ways steps (branches bare) from) way
  further_among bare from way true among = among_right (or_true steps (branches bare) from (tested_ways steps (branches bare) from false)) (tested_ways steps (branches bare) from true) way among
  further_among bare from way false among =
      among_left (or_true steps (branches bare) from (tested_ways steps (branches bare) from false)) (tested_ways steps (branches bare) from true) way (or_kept bare from (tested_ways steps (branches bare) from false) way among)

  -- ---- further arms

  -- what begins at a place behind an arm
  abbrev pub ArmsFound : (bare : Bool) (place begin levels : ℕ) → Type 0
  ArmsFound bare place begin levels = (arms : ArmPlans) × ArmsBehind steps (branches bare) place (Some begin) arms × (arm_levels steps arms ≤ levels)

  -- an `else`
  pub else_found : (bare : Bool) (body : Flow) (place begin : ℕ) → piece.from ≤ place → place < begin → begin ≤ piece.to → (begin < piece.to → IsStart (arm_starts steps (branches bare)) begin)
      → BlockLies steps before body begin piece.to → flow_levels steps body ≤ 200
      → ArmsFound bare place begin (flow_levels steps body)
  else_found bare body place begin low past high start lies levels = by (order begin piece.to)
    where
      by : (begin < piece.to) ⊎ (piece.to ≤ begin) → ArmsFound bare place begin (flow_levels steps body)
      by (inl some) =
          let block = arm_block body begin piece.to (omega (arith, low, past)) high (omega arith) (omega (arith, low, past, some)) lies levels in
          (last_arm block.0, (begin, refl, inr ((λ same. absurd (omega (arith, same, some))), past, start some, block.1)), block.2)
      by (inr none) = (last_arm no_plans, (begin, refl, inl (omega (arith, none, high), refl)), omega arith)

  -- an arm that goes on to the end of the `if`
  end_found : (bare : Bool) (logic : Logic) (body : Flow) (place begin start : ℕ) → piece.from ≤ place → place < begin → begin < start → start ≤ piece.to
      → IsStart (arm_starts steps (branches bare)) begin → LogicLies steps logic false piece.to begin start → BlockLies steps before body start piece.to
      → Hits steps begin start piece.to ⊎ (piece.to ≡ start) → max (max 1 (logic_room steps logic)) (flow_levels steps body) < 200
      → ArmsFound bare place begin (max (max (max 1 (logic_room steps logic)) (flow_levels steps body)) 0)
  end_found bare logic body place begin start low past some high is tests block hit levels =
      let condition = arm_condition logic begin start piece.to high high tests (omega (arith, levels)) in
      let body_is = arm_block body start piece.to (omega (arith, low, past, some)) high (omega arith) (omega (arith, low, past, some, high)) block (omega (arith, levels)) in
      let listed = tests_found steps piece.to piece.to start high (omega arith) logic begin some tests hit (room_short steps levelled logic false piece.to begin start tests (omega (arith, levels))) in
      let among = further_among bare begin (way_end start) listed.0 (goes_last bare begin start listed.0 listed.1) in (
        and_arm (Some condition.0) body_is.0 no_arms,
        (begin, way_end start, refl, (λ same. absurd (omega (arith, same, some, high))), past, further_way steps (branches bare) begin (way_end start) (omega (arith, low, past)) is among, condition.1, body_is.1, refl),
        arm_low condition.0 body_is.0 condition.2 body_is.2,
      )
    where
      arm_low : (condition : ConditionTree) (plans : Plans) → condition_levels steps condition ≤ logic_levels steps logic + 2 * operators logic → body_levels steps plans ≤ flow_levels steps body
          → arm_levels steps (and_arm (Some condition) plans no_arms) ≤ max (max (max 1 (logic_room steps logic)) (flow_levels steps body)) 0
      arm_low condition plans one two = omega (arith, one, two)

  -- an arm before another one, or an `else`
  pub middle_found : (bare : Bool) (logic : Logic) (body : Flow) (place begin start last levels : ℕ) → piece.from ≤ place → place < begin → begin ≤ start → start ≤ last → suc last ≤ piece.to
      → IsStart (arm_starts steps (branches bare)) begin → LogicLies steps logic false (suc last) begin start
      → BlockLies steps before body start last → Jumps steps last piece.to → Hits steps begin start (suc last) → max (max 1 (logic_room steps logic)) (flow_levels steps body) < 200
      → ((suc last < piece.to → IsStart (arm_starts steps (branches bare)) (suc last)) → ArmsFound bare begin (suc last) levels)
      → ArmsFound bare place begin (max (max (max 1 (logic_room steps logic)) (flow_levels steps body)) levels)
  middle_found bare logic body place begin start last levels low past begins goes high is tests block jump hit room rest =
      let least = hit.least in
      let most = hit.most in
      let condition = arm_condition logic begin start (suc last) (omega (arith, goes)) (omega (arith, goes, high)) tests (omega (arith, room)) in
      let body_is = arm_block body start last (omega (arith, low, past, begins)) goes (omega (arith, high)) (omega (arith, low, past, begins, goes, high)) block (omega (arith, room)) in
      let listed = tests_found steps piece.to (suc last) start (omega (arith, goes)) high logic begin (omega (arith, least, most)) tests (inl hit) (room_short steps levelled logic false (suc last) begin start tests (omega (arith, room))) in
      let among = further_among bare begin (way_to start last) listed.0 (goes_before bare begin start last goes jump listed.0 listed.1) in
      let others = rest (λ more. further_start steps (branches bare) begin (suc last) (way_to start last) (omega (arith, low, past)) is among refl (omega (arith, begins, goes)) more) in (
        and_arm (Some condition.0) body_is.0 others.0,
        (begin, way_to start last, refl, (λ same. absurd (omega (arith, same, begins, goes, high))), past, further_way steps (branches bare) begin (way_to start last) (omega (arith, low, past)) is among, condition.1, body_is.1, others.1),
        arm_low condition.0 body_is.0 others.0 condition.2 body_is.2 others.2,
      )
    where
      arm_low : (condition : ConditionTree) (plans : Plans) (others : ArmPlans) → condition_levels steps condition ≤ logic_levels steps logic + 2 * operators logic
          → body_levels steps plans ≤ flow_levels steps body → arm_levels steps others ≤ levels
          → arm_levels steps (and_arm (Some condition) plans others) ≤ max (max (max 1 (logic_room steps logic)) (flow_levels steps body)) levels
      arm_low condition plans others one two three = omega (arith, one, two, three)

  -- an arm that goes on to the end, whose condition never goes there: an `else`
  idle_end : (bare : Bool) (logic : Logic) (body : Flow) (place begin start : ℕ) → piece.from ≤ place → place < begin → begin ≤ start → start ≤ piece.to → begin ≤ piece.to
      → (begin < piece.to → IsStart (arm_starts steps (branches bare)) begin) → LiesAny steps logic begin start → AreTold steps before begin start
      → BlockLies steps before body start piece.to → max (max (max 1 (logic_room steps logic)) (flow_levels steps body)) 0 < 200 → ArmsFound bare place begin (max (max (max 1 (logic_room steps logic)) (flow_levels steps body)) 0)
  idle_end bare logic body place begin start low past begins goes high is never told block levels =
      let flat = idle_flat steps levelled before logic begin start begins never told in
      let deep = join_levels steps flat.flow body (max (logic_room steps logic) (flow_levels steps body)) (raised flat) (omega arith) in
      let found = else_found bare (join_flow flat.flow body) place begin low past high is (block_joined steps before body begin start piece.to (logic_room steps logic) begins flat block) (omega (arith, deep, levels)) in
      (found.0, found.1, (let less = found.2 in omega (arith, less, deep)))
    where
      raised : (flat : FlatFlow steps before begin start (logic_room steps logic)) → flow_levels steps flat.flow ≤ max (logic_room steps logic) (flow_levels steps body)
      raised flat = let less = flat.low in omega (arith, less)

  -- an arm whose condition never goes to its target, where none of its steps goes to the end: one with the condition `true`
  pub true_found : (bare : Bool) (logic : Logic) (body other : Flow) (place begin start last levels : ℕ) → piece.from ≤ place → place < begin → begin ≤ start → start ≤ last → suc last ≤ piece.to
      → IsStart (arm_starts steps (branches bare)) begin → LiesAny steps logic begin start
      → AreTold steps before begin start → BlockLies steps before body start last → IsAt steps before last (StepKind.Jump piece.to) → BlockLies steps before other (suc last) piece.to
      → max (max 1 (logic_room steps logic)) (flow_levels steps body) < 200
      → Never steps begin last piece.to → ((suc last < piece.to → IsStart (arm_starts steps (branches bare)) (suc last)) → ArmsFound bare begin (suc last) levels)
      → ArmsFound bare place begin (max (max (max 1 (logic_room steps logic)) (flow_levels steps body)) levels)
  true_found bare logic body other place begin start last levels low past begins goes high is any told block jump others_at room never rest =
      let flat = idle_flat steps levelled before logic begin start begins any told in
      let deep = join_levels steps flat.flow body (max (logic_room steps logic) (flow_levels steps body)) (raised flat) (omega arith) in
      let whole = block_joined steps before body begin start last (logic_room steps logic) begins flat block in
      let body_is = arm_block (join_flow flat.flow body) begin last (omega (arith, low, past)) (omega (arith, begins, goes)) (omega (arith, high)) (omega (arith, low, past, begins, goes, high)) whole (omega (arith, deep, room)) in
      let among = true_among (join_flow flat.flow body) whole in
      let others = rest (λ more. further_start steps (branches bare) begin (suc last) true_is (omega (arith, low, past)) is among refl (omega (arith, begins, goes)) more) in (
        and_arm None body_is.0 others.0,
        (begin, true_is, refl, (λ same. absurd (omega (arith, same, begins, goes, high))), past, further_way steps (branches bare) begin true_is (omega (arith, low, past)) is among, refl, body_is.1, others.1),
        arm_low body_is.0 others.0 (let less = body_is.2 in omega (arith, less, deep)) others.2,
      )
    where
      true_is : Way
      true_is = record { tests_end = None; block_end = last; next = Some (suc last) }

      raised : (flat : FlatFlow steps before begin start (logic_room steps logic)) → flow_levels steps flat.flow ≤ max (logic_room steps logic) (flow_levels steps body)
      raised flat = let less = flat.low in omega (arith, less)

      arm_low : (plans : Plans) (others : ArmPlans) → body_levels steps plans ≤ max (logic_room steps logic) (flow_levels steps body) → arm_levels steps others ≤ levels
          → arm_levels steps (and_arm None plans others) ≤ max (max (max 1 (logic_room steps logic)) (flow_levels steps body)) levels
      arm_low plans others one two = omega (arith, one, two)

      none : (n : ℕ) → begin ≤ n → n < last → jumps_to steps n piece.to ≡ true → ⊥
      none n least most is = no_jump steps begin last piece.to never n least most is

      jumps : jumps_to steps last piece.to ≡ true
      jumps = jumps_is steps last piece.to jump.1

      behind_last : FlowLies steps before before piece.to (and_flow (if_flow (literal_logic false) other no_more) no_flow) last piece.to
      behind_last =
          (tt, piece.to, before, omega (arith, high), omega arith, jumped_if steps before other piece.to last piece.to high jump others_at, (refl, refl))

      true_among : (flow : Flow) → BlockLies steps before flow begin last → Among (further_ways steps (branches bare) begin) true_is
      true_among flow whole =
          let later = placed.later in
          let within = placed.within in
          let fits = placed.fits in
          let first_low = placed.begins in
          let begun : piece.from ≤ begin = omega (arith, low, past) in
          let body_at : BodyAt = plain_body begin piece.to (used steps at.exit piece.from piece.to) in
          let body_is = is_body steps body_at before.exit piece.to small fits placed.behind refl
          (serves_part steps (used steps at.exit piece.from piece.to) before.exit piece.from begin piece.to piece.to begun (omega arith)
          (serves_used steps at.exit before.exit piece.from piece.to placed.behind (serves_part steps at.exit before.exit at.from piece.from at.to piece.to later within placed.serves))) in
          let cut = first_cut steps named body_at (do_flow flow) (and_flow (if_flow (literal_logic false) other no_more) no_flow) before before before piece.to begin last first body_is (omega arith) placed.ready (omega (arith, first_low, begun)) (omega (arith, high)) (refl, whole) behind_last
          (record { begin = begin; far = begin; turned = 0 }) (record { begin = refl; far = refl; turned = omega arith }) in
          let more = has_pieces steps named (and_flow (if_flow (literal_logic false) other no_more) no_flow) body_at before before piece.to last first body_is (omega (arith, begins, goes)) placed.ready (omega (arith, first_low, begun, begins, goes)) (omega (arith, high)) behind_last cut.1 cut.2 in
          let inside = (statement_flow_in steps named (do_flow flow) before before piece.to begin last first placed.ready (omega (arith, first_low, begun)) (behind_earlier before.exit piece.to last (omega (arith, high)) placed.behind) (refl, whole)).inside in
          let untested : tested_ways steps (branches bare) begin false ≡ [] =
          none_tested steps piece.to begin last (λ n goes least most test there. test_stays steps NoneOwned before.exit first begin last inside n goes least most test there) (branches bare) refl (omega (arith, begins, goes)) (omega (arith, high)) (ap is_test jump.1) none in
          let part : last_part steps (branches bare) begin ≡ Some last =
          ap (option_and_then (last_begin steps piece.to None)) (cut.4 more.0 more.1) ∙ last_begin_is steps cut.0 more.0 begin last piece.to None cut.3 more.2 (omega (arith, high)) jumps none in
          let next : last + 1 ≡ suc last = omega arith in
          let way : option_and_then (true_way steps (branches bare)) (last_part steps (branches bare) begin) ≡ Some true_is =
          ap (option_and_then (true_way steps (branches bare))) part ∙ if_true (jumps_to steps last piece.to) _ _ jumps ∙ ap (λ n. Some (record { tests_end = None; block_end = last; next = Some n })) next in
          among_left (or_true steps (branches bare) begin (tested_ways steps (branches bare) begin false)) (tested_ways steps (branches bare) begin true) true_is
          (subst (λ ways. Among (or_true steps (branches bare) begin ways) true_is) (sym untested) (among_option (option_and_then (true_way steps (branches bare)) (last_part steps (branches bare) begin)) true_is way))

  -- the last one, without an `else` behind it
  pub last_found : (bare : Bool) (logic : Logic) (body : Flow) (place begin : ℕ) → piece.from ≤ place → place < begin → begin ≤ piece.to → (begin < piece.to → IsStart (arm_starts steps (branches bare)) begin)
      → ArmAt steps before logic body no_more begin piece.to → max (max (max 1 (logic_room steps logic)) (flow_levels steps body)) 0 < 200 → ArmsFound bare place begin (max (max (max 1 (logic_room steps logic)) (flow_levels steps body)) 0)
  last_found bare logic body place begin low past high is (start, begins, goes, tests, told, block) levels = by (order begin start)
    where
      by : (begin < start) ⊎ (start ≤ begin) → ArmsFound bare place begin (max (max (max 1 (logic_room steps logic)) (flow_levels steps body)) 0)
      by (inr none) =
          let here : start ≡ begin = omega (arith, none, begins) in
          let found = else_found bare body place begin low past high is (subst (λ n. BlockLies steps before body n piece.to) here block) (omega (arith, levels)) in
          (found.0, found.1, (let less = found.2 in omega (arith, less)))
      by (inl some) = at_target (any_target steps logic false piece.to begin start tests) (order start piece.to)
        where
          at_target : AnyTarget steps logic false piece.to begin start → (start < piece.to) ⊎ (piece.to ≤ start) → ArmsFound bare place begin (max (max (max 1 (logic_room steps logic)) (flow_levels steps body)) 0)
          at_target (inl hit) any = end_found bare logic body place begin start low past some goes (is (omega (arith, some, goes))) tests block (inl hit) (omega (arith, levels))
          at_target (inr never) (inr full) = end_found bare logic body place begin start low past some goes (is (omega (arith, some, goes))) tests block (inr (omega (arith, full, goes))) (omega (arith, levels))
          at_target (inr never) (inl less) = idle_end bare logic body place begin start low past begins goes high is never told block levels

  -- ---- the first arm

  abbrev pub BranchesFound : (levels : ℕ) → Type 0
  BranchesFound levels = (bare : Bool) × (arms : ArmPlans) × BranchesStand steps (branches bare) arms × (arm_levels steps arms ≤ levels)

  first_among : (way : Way) (wanted : Bool) → Among (tested_ways steps (branches wanted) piece.from wanted) way → Among (first_ways steps (branches wanted)) way
  first_among way wanted among = among_left (tested_ways steps (branches wanted) piece.from wanted) (option_to_list (first_true steps (branches wanted))) way among

  -- the only one
  pub first_end : (logic : Logic) (body : Flow) (start : ℕ) → piece.from < start → start ≤ piece.to → LogicLies steps logic false piece.to piece.from start
      → BlockLies steps before body start piece.to → Hits steps piece.from start piece.to ⊎ (piece.to ≡ start)
      → max (max 1 (logic_room steps logic)) (flow_levels steps body) < 200 → BranchesFound (max (max (max 1 (logic_room steps logic)) (flow_levels steps body)) 0)
  first_end logic body start some high tests block hit levels =
      let condition = arm_condition logic piece.from start piece.to high high tests (omega (arith, levels)) in
      let body_is = arm_block body start piece.to (omega (arith, some)) high (omega arith) (omega (arith, some, high)) block (omega (arith, levels)) in
      let listed = tests_found steps piece.to piece.to start high (omega arith) logic piece.from some tests hit (room_short steps levelled logic false piece.to piece.from start tests (omega (arith, levels))) in
      let among = first_among (way_end start) listed.0 (goes_last listed.0 piece.from start listed.0 listed.1) in
      (listed.0, and_arm (Some condition.0) body_is.0 no_arms, (way_end start, first_way steps (branches listed.0) (way_end start) among, condition.1, body_is.1, refl), arm_low condition.0 body_is.0 condition.2 body_is.2)
    where
      arm_low : (condition : ConditionTree) (plans : Plans) → condition_levels steps condition ≤ logic_levels steps logic + 2 * operators logic → body_levels steps plans ≤ flow_levels steps body
          → arm_levels steps (and_arm (Some condition) plans no_arms) ≤ max (max (max 1 (logic_room steps logic)) (flow_levels steps body)) 0
      arm_low condition plans one two = omega (arith, one, two)

  -- one before others
  pub first_middle : (logic : Logic) (body : Flow) (start last levels : ℕ) → piece.from ≤ start → start ≤ last → suc last ≤ piece.to → LogicLies steps logic false (suc last) piece.from start
      → BlockLies steps before body start last → Jumps steps last piece.to → Hits steps piece.from start (suc last)
      → max (max 1 (logic_room steps logic)) (flow_levels steps body) < 200
      → ((bare : Bool) → (suc last < piece.to → IsStart (arm_starts steps (branches bare)) (suc last)) → ArmsFound bare piece.from (suc last) levels)
      → BranchesFound (max (max (max 1 (logic_room steps logic)) (flow_levels steps body)) levels)
  first_middle logic body start last levels begins goes high tests block jump hit room rest =
      let least = hit.least in
      let most = hit.most in
      let condition = arm_condition logic piece.from start (suc last) (omega (arith, goes)) (omega (arith, goes, high)) tests (omega (arith, room)) in
      let body_is = arm_block body start last begins goes (omega (arith, high)) (omega (arith, begins, goes, high)) block (omega (arith, room)) in
      let listed = tests_found steps piece.to (suc last) start (omega (arith, goes)) high logic piece.from (omega (arith, least, most)) tests (inl hit) (room_short steps levelled logic false (suc last) piece.from start tests (omega (arith, room))) in
      let among = first_among (way_to start last) listed.0 (goes_before listed.0 piece.from start last goes jump listed.0 listed.1) in
      let others = rest listed.0 (λ more. first_start steps (branches listed.0) (way_to start last) (suc last) among refl (omega (arith, begins, goes)) more) in
      (listed.0, and_arm (Some condition.0) body_is.0 others.0, (way_to start last, first_way steps (branches listed.0) (way_to start last) among, condition.1, body_is.1, others.1), arm_low condition.0 body_is.0 others.0 condition.2 body_is.2 others.2)
    where
      arm_low : (condition : ConditionTree) (plans : Plans) (others : ArmPlans) → condition_levels steps condition ≤ logic_levels steps logic + 2 * operators logic
          → body_levels steps plans ≤ flow_levels steps body → arm_levels steps others ≤ levels
          → arm_levels steps (and_arm (Some condition) plans others) ≤ max (max (max 1 (logic_room steps logic)) (flow_levels steps body)) levels
      arm_low condition plans others one two three = omega (arith, one, two, three)

  -- one of nothing but the jump to the end
  pub first_empty : (body : Flow) (levels : ℕ) → BlockLies steps before body piece.from piece.from → Jumps steps piece.from piece.to → suc piece.from ≤ piece.to → flow_levels steps body ≤ 200
      → ((bare : Bool) → (suc piece.from < piece.to → IsStart (arm_starts steps (branches bare)) (suc piece.from)) → ArmsFound bare piece.from (suc piece.from) levels)
      → BranchesFound (max (max 1 (flow_levels steps body)) levels)
  first_empty body levels block jump some low rest =
      let body_is = arm_block body piece.from piece.from (omega arith) (omega arith) (omega (arith, some)) (omega (arith, some)) block low in
      let others = rest true (λ more. first_start steps (branches true) empty_way (suc piece.from) among refl (omega arith) more) in
      (true, and_arm None body_is.0 others.0, (empty_way, first_way steps (branches true) empty_way among, refl, body_is.1, others.1), arm_low body_is.0 others.0 body_is.2 others.2)
    where
      empty_way : Way
      empty_way = record { tests_end = None; block_end = piece.from; next = Some (suc piece.from) }

      among : Among (first_ways steps (branches true)) empty_way
      among =
          let next : piece.from + 1 ≡ suc piece.from = omega arith in
          among_right (tested_ways steps (branches true) piece.from true) (option_to_list (first_true steps (branches true))) empty_way
          (among_option (first_true steps (branches true)) empty_way
          (if_true (jumps_to steps piece.from piece.to) _ _ (jumps_is steps piece.from piece.to jump) ∙ ap (λ n. Some (record { tests_end = None; block_end = piece.from; next = Some n })) next))

      arm_low : (plans : Plans) (others : ArmPlans) → body_levels steps plans ≤ flow_levels steps body → arm_levels steps others ≤ levels
          → arm_levels steps (and_arm None plans others) ≤ max (max 1 (flow_levels steps body)) levels
      arm_low plans others one two = omega (arith, one, two)
