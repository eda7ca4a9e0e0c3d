-- The further arms of an `if` are found, those from a condition on that never fails one level deeper, in an `else`, where the loop around ends with the `if`.
use Rattle.std.proofs.Common.{◌≡◌, ◌≤◌, ◌<◌, ◌+◌, ◌-◌, ◌^◌, ◌⊎◌, inl, inr, refl, sym, ap, subst, ℕ, suc, max, Bool, true, false, List, length, Some, arith}
use Rattle.std.specs.Prelude.{◌&&◌, not, option_and_then}
use Rattle.std.specs.Bool.{beq}
use Rattle.std.proofs.lemmas.Bool.{false≢true}
use Rattle.recover_expr.specs.declared.steps.Step.{Step}
use Rattle.recover_expr.specs.declared.steps.StepKind.{StepKind}
use Rattle.recover_flow.specs.Arms.{arm_starts}
use Rattle.recover_flow.specs.Asked.{kind_at, target_of}
use Rattle.recover_flow.specs.Flow.{AreTold, Around, BreakLies, Flow, no_flow, and_flow, break_flow, do_flow, if_flow, FlowArms, no_more, else_flow, elseif_flow, FlowLies, IsAt, IsFlowBlock, captures_flow, flow_arms_levels, flow_levels, logic_room, raised}
use Rattle.recover_flow.specs.Logic.{AreLevelled, Logic, LogicIsFound, LogicLies, test_logic, literal_logic, not_logic, and_logic, or_logic, is_never}
use Rattle.recover_flow.specs.Lying.{LiteralLies}
use Rattle.recover_flow.specs.Standing.{IsStart}
use Rattle.recover_flow.specs.declared.regions.BodyAt.{BodyAt}
use Rattle.recover_flow.specs.declared.regions.Exit.{Exit}
use Rattle.recover_flow.specs.declared.regions.Piece.{Piece}
use Rattle.recover_flow.proofs.BodiesFound.{LighterFound}
use Rattle.recover_flow.proofs.FlowInside.{ClosesAreNamed, behind_earlier, statement_flow_in}
use Rattle.recover_flow.proofs.FlowMoves.{further_low}
use Rattle.recover_flow.proofs.IfArms.{ArmAt, ArmsFound, BlockLies, IsPlaced, LiesAny, branches, else_found, last_found, middle_found, true_found}
use Rattle.recover_flow.proofs.IfIdle.{block_joined, idle_flat}
use Rattle.recover_flow.proofs.IfTrue.{hit_breaks, hit_or_never}
use Rattle.recover_flow.proofs.LogicCut.{AnyTarget, Hits, Never, any_target, behind_it, in_front, test_hit}
use Rattle.recover_flow.proofs.LogicRest.{FlatFlow, ends_well, join_flow, join_levels}
use Rattle.recover_flow.proofs.PartsInside.{NoneOwned}

-- ---- conditions that may fail

-- one of two may
one_may : (a b : Bool) → (a && b) ≡ false → (a ≡ false) ⊎ (b ≡ false)
one_may true b is = inr is
one_may false b is = inl refl

module _ (steps : List Step) where
  literal_hits : (jumps : Bool) (target from to : ℕ) → not jumps ≡ false → LiteralLies steps jumps from to target → Hits steps from to target
  literal_hits true target from to may lies = record { place = from; least = omega arith; most = omega (arith, lies.1); there = ap (option_and_then target_of) lies.0 }
  literal_hits false target from to may lies = absurd (false≢true (sym may))

  -- a condition that may have a truth goes to its target with it
  pub may_hit : (logic : Logic) (sense : Bool) (target from to : ℕ) → is_never sense logic ≡ false → LogicLies steps logic sense target from to → Hits steps from to target
  may_hit (test_logic step negated) sense target from to may lies = record { place = from; least = omega arith; most = omega (arith, lies.1); there = test_hit steps negated sense target from (kind_at steps from) refl lies.2 }
  may_hit (literal_logic truth) sense target from to may lies = literal_hits (beq truth sense) target from to may lies
  may_hit (not_logic inner) sense target from to may lies = may_hit inner (not sense) target from to may lies
  may_hit (and_logic left right) true target from to may (mid, low, high, one, two) = behind_it steps from mid to target low (may_hit right true target mid to may two)
  may_hit (or_logic left right) false target from to may (mid, low, high, one, two) = behind_it steps from mid to target low (may_hit right false target mid to may two)
  may_hit (and_logic left right) false target from to may (mid, low, high, one, two) =
      by (one_may (is_never false left) (is_never false right) may) (λ m. in_front steps from mid to target high (may_hit left false target from mid m one)) (λ m. behind_it steps from mid to target low (may_hit right false target mid to m two))
    where
      by : (is_never false left ≡ false) ⊎ (is_never false right ≡ false) → (is_never false left ≡ false → Hits steps from to target) → (is_never false right ≡ false → Hits steps from to target) → Hits steps from to target
      by (inl m) at_left at_right = at_left m
      by (inr m) at_left at_right = at_right m
  may_hit (or_logic left right) true target from to may (mid, low, high, one, two) =
      by (one_may (is_never true left) (is_never true right) may) (λ m. in_front steps from mid to target high (may_hit left true target from mid m one)) (λ m. behind_it steps from mid to target low (may_hit right true target mid to m two))
    where
      by : (is_never true left ≡ false) ⊎ (is_never true right ≡ false) → (is_never true left ≡ false → Hits steps from to target) → (is_never true right ≡ false → Hits steps from to target) → Hits steps from to target
      by (inl m) at_left at_right = at_left m
      by (inr m) at_left at_right = at_right m

  module _ (levelled : AreLevelled steps) (small : length steps < 2 ^ 32) (logic_found : LogicIsFound) (named : ClosesAreNamed steps) (at : BodyAt) (others_found : LighterFound steps at) where
    module _ (piece : Piece) (before : Around) (first : ℕ) (placed : IsPlaced steps at piece before first) where
      abbrev Arms : (bare : Bool) (place begin levels : ℕ) → Type 0
      Arms bare place begin levels = ArmsFound steps levelled small logic_found named at others_found piece before first placed bare place begin levels

      abbrev StartsAt : (bare : Bool) (place : ℕ) → Type 0
      StartsAt bare place = IsStart (arm_starts steps (branches steps levelled small logic_found named at others_found piece before first placed bare)) place

      -- ---- arms in an `else`

      -- the block of an arm whose condition never fails, where the loop ends with the `if`, with a break behind it, and with what follows
      abbrev broken_flow : (body behind : Flow) → Flow
      broken_flow body behind = and_flow (do_flow body) (and_flow (do_flow (and_flow break_flow no_flow)) behind)

      broken_found : (e : Exit) → before.exit ≡ Some e → e.place ≡ piece.to → (bare : Bool) (logic : Logic) (body behind : Flow) (place begin start last levels : ℕ) → piece.from ≤ place → place < begin → begin ≤ start → start ≤ last → suc last ≤ piece.to
          → StartsAt bare begin → LiesAny steps logic begin start → AreTold steps before begin start → BlockLies steps before body start last → IsAt steps before last (StepKind.Jump piece.to) → captures_flow steps behind ≡ false
          → FlowLies steps before before piece.to behind (suc last) piece.to → flow_levels steps behind ≤ suc (max 1 levels) → max (max (max 1 (logic_room steps logic)) (flow_levels steps body)) levels < 200
          → Arms bare place begin (suc (max (max (max 1 (logic_room steps logic)) (flow_levels steps body)) levels))
      broken_found e is_exit there bare logic body behind place begin start last levels low past begins goes high is never told block jump none behind_lies behind_low room =
          let flat = idle_flat steps levelled before logic begin start begins never told in
          let deep = join_levels steps flat.flow (broken_flow body behind) bound (flat_low flat) tail_low in
          let found = else_found steps levelled small logic_found named at others_found piece before first placed bare (join_flow flat.flow (broken_flow body behind)) place begin low past (omega (arith, begins, goes, high)) (λ more. is)
          (block_joined steps before (broken_flow body behind) begin start piece.to (logic_room steps logic) begins flat tail_block) (omega (arith, deep, room)) in
          (found.0, found.1, (let less = found.2 in omega (arith, less, deep)))
        where
          bound : ℕ
          bound = suc (max (max (max 1 (logic_room steps logic)) (flow_levels steps body)) levels)

          flat_low : (flat : FlatFlow steps before begin start (logic_room steps logic)) → flow_levels steps flat.flow ≤ bound
          flat_low flat = let less = flat.low in omega (arith, less)

          tail_low : flow_levels steps (broken_flow body behind) ≤ bound
          tail_low = omega (arith, behind_low)

          leaves : BreakLies steps before before.exit last (suc last)
          leaves = subst (λ x. BreakLies steps before x last (suc last)) (sym is_exit) (inl (placed.quiet e is_exit there, subst (λ n. IsAt steps before last (StepKind.Jump n)) (sym there) jump, refl))

          tail_block : BlockLies steps before (broken_flow body behind) start piece.to
          tail_block =
              subst (λ b. IsFlowBlock steps before b (λ ends end. (inside : Around) × FlowLies steps before inside ends (broken_flow body behind) start end) start piece.to) (sym none) (
                before,
                (
                  refl,
                  last,
                  before,
                  goes,
                  omega (arith, high),
                  (refl, block),
                  (ends_well (do_flow (and_flow break_flow no_flow)) behind refl, suc last, before, omega arith, high, (refl, (before, (tt, suc last, before, omega arith, omega arith, (refl, leaves), (refl, refl)))), behind_lies),
                ),
              )

      -- an arm before another one, or an `else`
      next_found : (bare : Bool) (logic : Logic) (body other behind : Flow) (place begin start last levels : ℕ) → piece.from ≤ place → place < begin → begin ≤ start → start ≤ last → suc last ≤ piece.to → StartsAt bare begin → LogicLies steps logic false (suc last) begin start
          → AreTold steps before begin start → BlockLies steps before body start last → IsAt steps before last (StepKind.Jump piece.to) → BlockLies steps before other (suc last) piece.to → captures_flow steps behind ≡ false → FlowLies steps before before piece.to behind (suc last) piece.to
          → flow_levels steps behind ≤ suc (max 1 levels) → max (max (max 1 (logic_room steps logic)) (flow_levels steps body)) levels < 200 → ((suc last < piece.to → StartsAt bare (suc last)) → Arms bare begin (suc last) levels)
          → Arms bare place begin (raised (is_never false logic) (max (max (max 1 (logic_room steps logic)) (flow_levels steps body)) levels))
      next_found bare logic body other behind place begin start last levels low past begins goes high is tests told block jump other_block none behind_lies behind_low room rest = at_truth (is_never false logic) refl
        where
          Same : Type 0
          Same = Arms bare place begin (max (max (max 1 (logic_room steps logic)) (flow_levels steps body)) levels)

          at_hit : Hits steps begin start (suc last) → Same
          at_hit hit = middle_found steps levelled small logic_found named at others_found piece before first placed bare logic body place begin start last levels low past begins goes high is tests block jump.1 hit (omega (arith, room)) rest

          here : begin + (last - begin) ≡ last
          here = omega (arith, begins, goes)

          weaker : Same → Arms bare place begin (suc (max (max (max 1 (logic_room steps logic)) (flow_levels steps body)) levels))
          weaker found = (found.0, found.1, (let less = found.2 in omega (arith, less)))

          by : AnyTarget steps logic false (suc last) begin start → Hits steps begin (begin + (last - begin)) piece.to ⊎ Never steps begin (begin + (last - begin)) piece.to → Arms bare place begin (suc (max (max (max 1 (logic_room steps logic)) (flow_levels steps body)) levels))
          by (inl hit) any = weaker (at_hit hit)
          by (inr never) (inr none_goes) =
              weaker (true_found steps levelled small logic_found named at others_found piece before first placed bare logic body other place begin start last levels low past begins goes high is never told block jump other_block (omega (arith, room)) (subst (λ n. Never steps begin n piece.to) here none_goes) rest)
          by (inr never) (inl hit) =
              let first_low = placed.begins in
              let flat = idle_flat steps levelled before logic begin start begins never told in
              let filled = block_joined steps before body begin start last (logic_room steps logic) begins flat block in
              let inside = (statement_flow_in steps named (do_flow (join_flow flat.flow body)) before before piece.to begin last first placed.ready (omega (arith, first_low, low, past)) (behind_earlier before.exit piece.to last (omega (arith, high)) placed.behind) (refl, filled)).inside in
              let found = hit_breaks steps NoneOwned before.exit first begin last piece.to inside (omega (arith, high)) (subst (λ n. Hits steps begin n piece.to) here hit) in
              broken_found found.0 found.1 found.2 bare logic body behind place begin start last levels low past begins goes high is never told block jump none behind_lies behind_low room

          at_truth : (b : Bool) → is_never false logic ≡ b → Arms bare place begin (raised (is_never false logic) (max (max (max 1 (logic_room steps logic)) (flow_levels steps body)) levels))
          at_truth true never = subst (λ b. Arms bare place begin (raised b (max (max (max 1 (logic_room steps logic)) (flow_levels steps body)) levels))) (sym never) (by (any_target steps logic false (suc last) begin start tests) (hit_or_never steps (last - begin) begin piece.to))
          at_truth false may = subst (λ b. Arms bare place begin (raised b (max (max (max 1 (logic_room steps logic)) (flow_levels steps body)) levels))) (sym may) (at_hit (may_hit logic false (suc last) begin start may tests))

      -- what begins at a place where an arm may begin
      pub further_found : (rest : FlowArms) (bare : Bool) (logic : Logic) (body : Flow) (place begin : ℕ) → piece.from ≤ place → place < begin → begin ≤ piece.to → (begin < piece.to → StartsAt bare begin) → ArmAt steps before logic body rest begin piece.to
          → flow_arms_levels steps (elseif_flow logic body rest) < 200 → Arms bare place begin (flow_arms_levels steps (elseif_flow logic body rest))
      further_found no_more bare logic body place begin low past high is lies levels =
          let more = further_low steps logic body no_more in
          let found = last_found steps levelled small logic_found named at others_found piece before first placed bare logic body place begin low past high is lies (omega (arith, more, levels)) in
          (found.0, found.1, (let less = found.2 in omega (arith, less, more)))
      further_found (else_flow other) bare logic body place begin low past high is (start, last, begins, goes, stops, tests, told, block, jump, others) levels =
          let more = further_low steps logic body (else_flow other) in
          next_found bare logic body other (and_flow (do_flow other) no_flow) place begin start last (flow_levels steps other) low past begins goes stops (is (omega (arith, begins, goes, stops))) tests told block jump others refl
          (tt, piece.to, before, stops, omega arith, (refl, others), (refl, refl)) (omega arith) (omega (arith, more, levels))
          (λ start. else_found steps levelled small logic_found named at others_found piece before first placed bare other begin (suc last) (omega (arith, low, past)) (omega (arith, begins, goes)) stops start others (omega (arith, more, levels)))
      further_found (elseif_flow next other rest) bare logic body place begin low past high is (start, last, begins, goes, stops, tests, told, block, jump, others) levels =
          let more = further_low steps logic body (elseif_flow next other rest) in
          let one_more = further_low steps next other rest in
          next_found bare logic body (and_flow (if_flow next other rest) no_flow) (and_flow (if_flow next other rest) no_flow) place begin start last (flow_arms_levels steps (elseif_flow next other rest)) low past begins goes stops (is (omega (arith, begins, goes, stops))) tests told block jump
          (before, (tt, piece.to, before, stops, omega arith, (refl, others), (refl, refl))) refl (tt, piece.to, before, stops, omega arith, (refl, others), (refl, refl)) (omega (arith, one_more)) (omega (arith, more, levels))
          (λ is_next. further_found rest bare next other begin (suc last) (omega (arith, low, past)) (omega (arith, begins, goes)) stops is_next others (omega (arith, more, levels)))
