-- A condition that never goes to its target is as good as statements before the block behind it.
use Rattle.std.proofs.Common.{◌≡◌, ◌∙◌, ◌≤◌, ◌<◌, ◌⊎◌, inl, inr, refl, sym, subst, ℕ, suc, Bool, true, false, List, Some, arith}
use Rattle.std.specs.Prelude.{◌||◌}
use Rattle.std.proofs.lemmas.Bool.{false≢true}
use Rattle.std.proofs.lemmas.Option.{same_Some}
use Rattle.recover_expr.specs.declared.steps.Step.{Step}
use Rattle.recover_flow.specs.Asked.{kind_at, target_at}
use Rattle.recover_flow.specs.Flow.{Around, AreTold, Flow, no_flow, and_flow, step_flow, return_flow, break_flow, do_flow, while_flow, repeat_flow, for_flow, if_flow, FlowLies, IsFlowBlock, captures_flow, logic_room}
use Rattle.recover_flow.specs.Logic.{AreLevelled, Logic, LogicLies}
use Rattle.recover_flow.specs.Lying.{is_captured_at}
use Rattle.recover_flow.proofs.FlowParts.{ClosesAt, block_end, block_of}
use Rattle.recover_flow.proofs.IfParts.{logic_goes}
use Rattle.recover_flow.proofs.LogicCut.{Never, StaysBefore}
use Rattle.recover_flow.proofs.LogicRest.{FlatFlow, cut_back, empty_flat, join_flow, join_lies}
use Rattle.recover_flow.proofs.PartsInside.{order}

module _ (steps : List Step) where
  -- what is put before a flow captures nothing of it
  pub captures_joined : (one two : Flow) → captures_flow steps one ≡ false → captures_flow steps (join_flow one two) ≡ captures_flow steps two
  captures_joined no_flow two none = refl
  captures_joined (and_flow (step_flow step) rest) two none = by (is_captured_at (kind_at steps step)) none (λ h. captures_joined rest two h)
    where
      by : (b : Bool) → (b || captures_flow steps rest) ≡ false → (captures_flow steps rest ≡ false → captures_flow steps (join_flow rest two) ≡ captures_flow steps two)
          → (b || captures_flow steps (join_flow rest two)) ≡ captures_flow steps two
      by true is more = absurd (false≢true (sym is))
      by false is more = more is
  captures_joined (and_flow (return_flow step) rest) two none = captures_joined rest two none
  captures_joined (and_flow break_flow rest) two none = captures_joined rest two none
  captures_joined (and_flow (do_flow body) rest) two none = captures_joined rest two none
  captures_joined (and_flow (while_flow logic body) rest) two none = captures_joined rest two none
  captures_joined (and_flow (repeat_flow body logic) rest) two none = captures_joined rest two none
  captures_joined (and_flow (for_flow step numeric body) rest) two none = captures_joined rest two none
  captures_joined (and_flow (if_flow logic body arms) rest) two none = captures_joined rest two none

  -- statements lie from the left to the right
  flow_rises : (flow : Flow) (before behind : Around) (ends from to : ℕ) → FlowLies steps before behind ends flow from to → from ≤ to
  flow_rises no_flow before behind ends from to lies = omega (arith, lies.1)
  flow_rises (and_flow s rest) before behind ends from to (well, mid, between, starts, stops, one, others) = omega (arith, starts, stops)

  -- flat statements in front of a block
  pub block_joined : (before : Around) (body : Flow) (from start to bound : ℕ) → from ≤ start → (flat : FlatFlow steps before from start bound)
      → IsFlowBlock steps before (captures_flow steps body) (λ ends end. (inside : Around) × FlowLies steps before inside ends body start end) start to
      → IsFlowBlock steps before (captures_flow steps (join_flow flat.flow body)) (λ ends end. (inside : Around) × FlowLies steps before inside ends (join_flow flat.flow body) from end) from to
  block_joined before body from start to bound low flat block =
      let found = block_end steps before (captures_flow steps body) (λ ends end. (inside : Around) × FlowLies steps before inside ends body start end) start to block in
      let goes = flow_rises body before found.1.0 found.0 start found.0 found.1.1 in
      block_of steps before (captures_flow steps (join_flow flat.flow body)) (λ ends end. (inside : Around) × FlowLies steps before inside ends (join_flow flat.flow body) from end) from found.0 to (omega (arith, low, goes))
      (found.1.0, join_lies steps flat.flow body before before found.1.0 found.0 from start found.0 goes flat.calm (flat.lies found.0) found.1.1)
      (subst (λ b. ClosesAt steps before b found.0 to) (sym (captures_joined flat.flow body flat.none)) found.2)

  -- tests that never go to their target are flat statements
  pub idle_flat : AreLevelled steps → (before : Around) (logic : Logic) (from start : ℕ) → from ≤ start → ((other : ℕ) → LogicLies steps logic false other from start)
      → AreTold steps before from start → FlatFlow steps before from start (logic_room steps logic)
  idle_flat levelled before logic from start low any told = by (order from start)
    where
      never : Never steps from start (suc start)
      never place least most there = at_goes (logic_goes steps logic false 0 from start (any 0) place least most)
        where
          at_goes : (goes : ℕ) × (target_at steps place ≡ Some goes) × ((goes ≡ 0) ⊎ ((place < goes) × (goes ≤ start))) → ⊥
          at_goes (goes, is, where_to) = at_target (same_Some goes (suc start) (sym is ∙ there)) where_to
            where
              at_target : goes ≡ suc start → (goes ≡ 0) ⊎ ((place < goes) × (goes ≤ start)) → ⊥
              at_target same (inl zero_is) = omega (arith, same, zero_is)
              at_target same (inr ahead) = omega (arith, same, ahead.1)

      stays : StaysBefore steps from from from
      stays place target least most there = absurd (omega (arith, least, most))

      by : (from < start) ⊎ (start ≤ from) → FlatFlow steps before from start (logic_room steps logic)
      by (inl some) = (cut_back steps levelled before from start told logic false (suc start) from start from (omega arith) (omega arith) (omega arith) some stays never (any (suc start))).rest
      by (inr none) = let same : from ≡ start = omega (arith, low, none) in subst (λ n. FlatFlow steps before from n (logic_room steps logic)) same (empty_flat steps before from (logic_room steps logic))
