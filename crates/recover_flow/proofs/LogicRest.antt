-- A condition that goes back is cut behind its last jump back: what is before the cut goes back, and what is behind it stands in an `if`, no deeper than the whole.
use Rattle.std.proofs.Common.{◌≡◌, ◌∙◌, ◌≤◌, ◌<◌, ◌+◌, ◌⊎◌, inl, inr, refl, sym, ap, subst, ℕ, suc, max, Bool, true, false, List, slice_get, Option, None, Some, arith}
use Rattle.std.specs.Prelude.{◌||◌, not, option_and_then, option_map, if◌then◌else◌}
use Rattle.std.specs.Bool.{beq}
use Rattle.recover_expr.specs.declared.steps.Step.{Step}
use Rattle.recover_expr.specs.declared.steps.StepKind.{StepKind}
use Rattle.recover_flow.specs.Asked.{kind_at, target_of}
use Rattle.recover_flow.specs.Conditions.{negated_levels, test_levels}
use Rattle.recover_flow.specs.Flow.{AreTold, Around, EndsWell, Flow, no_flow, and_flow, FlowStatement, step_flow, return_flow, break_flow, do_flow, while_flow, repeat_flow, for_flow, if_flow, no_more, FlowLies, IsFlowBlock, captures_flow, flow_levels, is_break, logic_room}
use Rattle.recover_flow.specs.Logic.{AreLevelled, IsLevelled, Logic, LogicLies, test_logic, literal_logic, not_logic, and_logic, or_logic, logic_levels, operators}
use Rattle.recover_flow.specs.Lying.{LiteralLies, TestGoes, is_captured_at}
use Rattle.recover_flow.proofs.LogicCut.{IsLower, Never, StaysBefore, cut_test, levels_least, test_hit, unlabelled}
use Rattle.recover_flow.proofs.PartsInside.{order}

-- ---- the other truth

-- a condition that is true where this one is false, with as many operators
abbrev pub flipped : Logic → Logic
flipped (test_logic step negated) = test_logic step (not negated)
flipped (literal_logic truth) = literal_logic (not truth)
flipped (not_logic inner) = inner
flipped (and_logic left right) = or_logic (flipped left) (flipped right)
flipped (or_logic left right) = and_logic (flipped left) (flipped right)

module _ (steps : List Step) where
  flipped_test : (negated sense : Bool) (target : ℕ) (kind : Option StepKind) → TestGoes negated sense target kind → TestGoes (not negated) (not sense) target kind
  flipped_test negated sense target (Some (StepKind.Test when to levels)) goes = (goes.0, ap not goes.1 ∙ by when sense)
    where
      by : (when sense : Bool) → not (not (beq when sense)) ≡ not (beq when (not sense))
      by true true = refl
      by true false = refl
      by false true = refl
      by false false = refl
  flipped_test negated sense target None goes = absurd goes
  flipped_test negated sense target (Some StepKind.Act) goes = absurd goes
  flipped_test negated sense target (Some StepKind.Return) goes = absurd goes
  flipped_test negated sense target (Some (StepKind.Declaration end captured)) goes = absurd goes
  flipped_test negated sense target (Some (StepKind.Jump to)) goes = absurd goes
  flipped_test negated sense target (Some (StepKind.Close close declared)) goes = absurd goes
  flipped_test negated sense target (Some (StepKind.Head numeric foot end variables_end captured)) goes = absurd goes
  flipped_test negated sense target (Some (StepKind.Foot numeric to)) goes = absurd goes

  flipped_literal : (truth sense : Bool) (target from to : ℕ) → LiteralLies steps (beq truth sense) from to target → LiteralLies steps (beq (not truth) (not sense)) from to target
  flipped_literal true true target from to lies = lies
  flipped_literal true false target from to lies = lies
  flipped_literal false true target from to lies = lies
  flipped_literal false false target from to lies = lies

  pub flipped_lies : (logic : Logic) (sense : Bool) (target from to : ℕ) → LogicLies steps logic sense target from to → LogicLies steps (flipped logic) (not sense) target from to
  flipped_lies (test_logic step negated) sense target from to lies = (lies.0, lies.1, flipped_test negated sense target (kind_at steps from) lies.2)
  flipped_lies (literal_logic truth) sense target from to lies = flipped_literal truth sense target from to lies
  flipped_lies (not_logic inner) sense target from to lies = lies
  flipped_lies (and_logic left right) true target from to (mid, low, high, one, two) = (mid, low, high, flipped_lies left false to from mid one, flipped_lies right true target mid to two)
  flipped_lies (and_logic left right) false target from to (mid, low, high, one, two) = (mid, low, high, flipped_lies left false target from mid one, flipped_lies right false target mid to two)
  flipped_lies (or_logic left right) true target from to (mid, low, high, one, two) = (mid, low, high, flipped_lies left true target from mid one, flipped_lies right true target mid to two)
  flipped_lies (or_logic left right) false target from to (mid, low, high, one, two) = (mid, low, high, flipped_lies left true to from mid one, flipped_lies right false target mid to two)

  -- it has two levels more at most
  module _ (levelled : AreLevelled steps) where
    flipped_step : (negated : Bool) (step : Step) (kind : StepKind) → IsLevelled step.levels kind → step.kind ≡ kind → (sense : Bool) (target : ℕ) → TestGoes negated sense target (Some kind) → test_levels (not negated) (Some step) ≤ test_levels negated (Some step) + 2
    flipped_step true step (StepKind.Test when to levels) known is sense target goes = subst (λ k. step.levels ≤ negated_levels k step.levels + 2) (sym is) (omega (arith, known.1))
    flipped_step false step (StepKind.Test when to levels) known is sense target goes = subst (λ k. negated_levels k step.levels ≤ step.levels + 2) (sym is) (omega (arith, known.2))
    flipped_step negated step StepKind.Act known is sense target goes = absurd goes
    flipped_step negated step StepKind.Return known is sense target goes = absurd goes
    flipped_step negated step (StepKind.Declaration end captured) known is sense target goes = absurd goes
    flipped_step negated step (StepKind.Jump to) known is sense target goes = absurd goes
    flipped_step negated step (StepKind.Close close declared) known is sense target goes = absurd goes
    flipped_step negated step (StepKind.Head numeric foot end variables_end captured) known is sense target goes = absurd goes
    flipped_step negated step (StepKind.Foot numeric to) known is sense target goes = absurd goes

    pub flipped_low : (logic : Logic) (sense : Bool) (target from to : ℕ) → LogicLies steps logic sense target from to → (logic_levels steps (flipped logic) ≤ logic_levels steps logic + 2) × (operators (flipped logic) ≤ operators logic)
    flipped_low (test_logic step negated) sense target from to lies = (by (slice_get steps from) refl lies.2, omega arith)
      where
        by : (found : Option Step) → slice_get steps from ≡ found → TestGoes negated sense target (option_map (λ (s : Step). s.kind) found) → test_levels (not negated) (slice_get steps step) ≤ test_levels negated (slice_get steps step) + 2
        by None there goes = absurd goes
        by (Some s) there goes =
            subst (λ n. test_levels (not negated) (slice_get steps n) ≤ test_levels negated (slice_get steps n) + 2) (sym lies.0)
            (subst (λ found. test_levels (not negated) found ≤ test_levels negated found + 2) (sym there) (flipped_step negated s s.kind (levelled from s there) refl sense target goes))
    flipped_low (literal_logic truth) sense target from to lies = (omega arith, omega arith)
    flipped_low (not_logic inner) sense target from to lies = (omega arith, omega arith)
    flipped_low (and_logic left right) sense target from to (mid, low, high, one, two) =
        let a = flipped_low left false (if sense then to else target) from mid one in let b = flipped_low right sense target mid to two in (omega (arith, a.0, b.0), omega (arith, a.1, b.1))
    flipped_low (or_logic left right) sense target from to (mid, low, high, one, two) =
        let a = flipped_low left true (if sense then target else to) from mid one in let b = flipped_low right sense target mid to two in (omega (arith, a.0, b.0), omega (arith, a.1, b.1))

-- none of its statements is a `break`, which must be the last one
abbrev pub NoneLast : Flow → Type 0
NoneLast no_flow = Unit {0}
NoneLast (and_flow s rest) = (is_break s ≡ false) × NoneLast rest

abbrev pub join_flow : Flow → Flow → Flow
join_flow no_flow others = others
join_flow (and_flow s rest) others = and_flow s (join_flow rest others)

pub ends_well : (s : FlowStatement) (rest : Flow) → is_break s ≡ false → EndsWell s rest
ends_well s no_flow is = tt
ends_well s (and_flow next rest) is = is

-- no deeper, where each is
pub lower_room : (steps : List Step) (lower logic : Logic) → IsLower steps lower logic → logic_room steps lower ≤ logic_room steps logic
lower_room steps lower logic low = omega (arith, low.0, low.1)

pub join_none_last : (one two : Flow) → NoneLast one → NoneLast two → NoneLast (join_flow one two)
join_none_last no_flow two first second = second
join_none_last (and_flow s rest) two first second = (first.0, join_none_last rest two first.1 second)

module _ (steps : List Step) where
  pub join_levels : (one two : Flow) (bound : ℕ) → flow_levels steps one ≤ bound → flow_levels steps two ≤ bound → flow_levels steps (join_flow one two) ≤ bound
  join_levels no_flow two bound first second = second
  join_levels (and_flow s rest) two bound first second = let more = join_levels rest two bound (omega (arith, first)) second in omega (arith, first, more)

  pub join_lies : (one two : Flow) (before between behind : Around) (ends from mid to : ℕ) → mid ≤ to → NoneLast one → FlowLies steps before between ends one from mid → FlowLies steps between behind ends two mid to
      → FlowLies steps before behind ends (join_flow one two) from to
  join_lies no_flow two before between behind ends from mid to low none first second = subst (λ a. FlowLies steps a behind ends two from to) first.0 (subst (λ n. FlowLies steps between behind ends two n to) first.1 second)
  join_lies (and_flow s rest) two before between behind ends from mid to low none (well, stop, next, starts, stops, here, others) second =
      (ends_well s (join_flow rest two) none.0, stop, next, starts, omega (arith, stops, low), here, join_lies rest two next between behind ends stop mid to low none.1 others second)

  -- statements that declare nothing, wherever the body's own locals end
  pub record FlatFlow (before : Around) (from to bound : ℕ) : Type 0 where
    pub flow : Flow
    pub lies : (ends : ℕ) → FlowLies steps before before ends flow from to
    pub low : flow_levels steps flow ≤ bound
    pub none : captures_flow steps flow ≡ false
    pub calm : NoneLast flow

  pub empty_flat : (before : Around) (place bound : ℕ) → FlatFlow before place place bound
  empty_flat before place bound = record { flow = no_flow; lies = λ ends. (refl, refl); low = omega arith; none = refl; calm = tt }

  -- it may be counted deeper
  pub raise_flat : (before : Around) (from to bound more : ℕ) → bound ≤ more → FlatFlow before from to bound → FlatFlow before from to more
  raise_flat before from to bound more goes flat = let known = flat.low in record { flow = flat.flow; lies = flat.lies; low = omega (arith, known, goes); none = flat.none; calm = flat.calm }

  pub told_part : (around : Around) (from from' to to' : ℕ) → from ≤ from' → to' ≤ to → AreTold steps around from to → AreTold steps around from' to'
  told_part around from from' to to' lower upper told place begins ends = told place (omega (arith, lower, begins)) (omega (arith, upper, ends))

  pub join_captures : (one two : Flow) → captures_flow steps one ≡ false → captures_flow steps two ≡ false → captures_flow steps (join_flow one two) ≡ false
  join_captures no_flow two first second = second
  join_captures (and_flow (step_flow step) rest) two first second = neither (is_captured_at (kind_at steps step)) (captures_flow steps rest) first (join_captures rest two)
    where
      neither : (a b : Bool) → (a || b) ≡ false → (b ≡ false → captures_flow steps two ≡ false → captures_flow steps (join_flow rest two) ≡ false) → (a || captures_flow steps (join_flow rest two)) ≡ false
      neither true b is more = is
      neither false b is more = more is second
  join_captures (and_flow (return_flow step) rest) two first second = join_captures rest two first second
  join_captures (and_flow break_flow rest) two first second = join_captures rest two first second
  join_captures (and_flow (do_flow body) rest) two first second = join_captures rest two first second
  join_captures (and_flow (while_flow logic body) rest) two first second = join_captures rest two first second
  join_captures (and_flow (repeat_flow body logic) rest) two first second = join_captures rest two first second
  join_captures (and_flow (for_flow step numeric body) rest) two first second = join_captures rest two first second
  join_captures (and_flow (if_flow logic body arms) rest) two first second = join_captures rest two first second

  pub join_flat : (before : Around) (from mid to bound : ℕ) → mid ≤ to → FlatFlow before from mid bound → FlatFlow before mid to bound → FlatFlow before from to bound
  join_flat before from mid to bound low one two =
      record {
        flow = join_flow one.flow two.flow;
        lies = λ ends. join_lies one.flow two.flow before before before ends from mid to low one.calm (one.lies ends) (two.lies ends);
        low = join_levels one.flow two.flow bound one.low two.low;
        none = join_captures one.flow two.flow one.none two.none;
        calm = join_none_last one.flow two.flow one.calm two.calm;
      }

  -- a condition that goes to the end of a flat block behind it
  pub if_flat : (before : Around) (logic : Logic) (from start to bound : ℕ) → from ≤ start → start ≤ to → LogicLies steps logic false to from start → AreTold steps before from start → logic_room steps logic ≤ bound → 1 ≤ bound → FlatFlow before start to bound
      → FlatFlow before from to (suc bound)
  if_flat before logic from start to bound low high tests told room some block =
      let inner = block.low in
      record {
        flow = and_flow (if_flow logic block.flow no_more) no_flow;
        lies = λ ends. (tt, to, before, omega (arith, low, high), omega arith, (refl, (start, low, high, tests, told, block_at)), (refl, refl));
        low = omega (arith, room, some, inner);
        none = refl;
        calm = (refl, tt);
      }
    where
      block_at : IsFlowBlock steps before (captures_flow steps block.flow) (λ ends end. (inside : Around) × FlowLies steps before inside ends block.flow start end) start to
      block_at = subst (λ b. IsFlowBlock steps before b (λ ends end. (inside : Around) × FlowLies steps before inside ends block.flow start end) start to) (sym block.none) (before, block.lies to)

  -- a condition that never jumps out
  pub only_test : (logic : Logic) (before : Around) (from to bound : ℕ) → from ≤ to → LogicLies steps logic false to from to → AreTold steps before from to → logic_room steps logic ≤ bound → 1 ≤ bound → FlatFlow before from to (suc bound)
  only_test logic before from to bound goes tests told room some = if_flat before logic from to to bound goes (omega arith) tests told room some (empty_flat before to bound)

  -- ---- a condition behind its last jump back

  module _ (levelled : AreLevelled steps) (before : Around) (least most : ℕ) (told : AreTold steps before least most) where
    pub record Back (logic : Logic) (sense : Bool) (target from to cut : ℕ) : Type 0 where
      pub first : Logic
      pub first_at : LogicLies steps first sense target from cut
      pub first_low : IsLower steps first logic
      pub rest : FlatFlow before cut to (logic_room steps logic)

    -- what comes behind the cut, if anything does
    or_nothing : (logic : Logic) (target mid to : ℕ) → mid ≤ to → (mid < to → FlatFlow before mid to (logic_room steps logic)) → FlatFlow before mid to (logic_room steps logic)
    or_nothing logic target mid to low more = by (order mid to)
      where
        by : (mid < to) ⊎ (to ≤ mid) → FlatFlow before mid to (logic_room steps logic)
        by (inl before_end) = more before_end
        by (inr there) = let same : mid ≡ to = omega (arith, low, there) in subst (λ n. FlatFlow before mid n (logic_room steps logic)) same (empty_flat before mid (logic_room steps logic))

    literal_back : (truth sense jumps : Bool) (target from to cut : ℕ) → from ≤ cut → cut < to → Never steps cut to target → LiteralLies steps jumps from to target → Back (literal_logic truth) sense target from to cut
    literal_back truth sense true target from to cut low high never lies =
        absurd (never from (omega (arith, high, lies.1)) (omega (arith, lies.1)) (ap (λ found. option_and_then target_of found) lies.0))
    literal_back truth sense false target from to cut low high never lies = absurd (omega (arith, low, high, lies))

    pub cut_back : (logic : Logic) (sense : Bool) (target from to cut : ℕ) → least ≤ cut → to ≤ most → from ≤ cut → cut < to → StaysBefore steps from cut cut → Never steps cut to target → LogicLies steps logic sense target from to → Back logic sense target from to cut
    cut_back (test_logic step negated) sense target from to cut least_cut most_to low high stays never lies =
        absurd (never from (omega (arith, high, lies.1)) (omega (arith, lies.1)) (test_hit steps negated sense target from (kind_at steps from) refl lies.2))
    cut_back (literal_logic truth) sense target from to cut least_cut most_to low high stays never lies = literal_back truth sense (beq truth sense) target from to cut low high never lies
    cut_back (not_logic inner) sense target from to cut least_cut most_to low high stays never lies =
        let r = cut_back inner (not sense) target from to cut least_cut most_to low high stays never lies in
        let a = r.first_low in
        record { first = not_logic r.first; first_at = not_twice sense r.first r.first_at; first_low = (omega (arith, a.0), omega (arith, a.1)); rest = raise_flat before cut to (logic_room steps inner) (logic_room steps (not_logic inner)) (omega arith) r.rest }
      where
        not_twice : (sense : Bool) (first : Logic) → LogicLies steps first (not sense) target from cut → LogicLies steps (not_logic first) sense target from cut
        not_twice sense first lies = lies
    cut_back (and_logic left right) false target from to cut least_cut most_to low high stays never (mid, begins, ends, one, two) =
        by (order cut mid) (λ z. cut_back left false target from mid cut least_cut (omega (arith, ends, most_to)) low z stays (λ place t_low t_high there. never place t_low (omega (arith, t_high, ends)) there) one)
        (λ z. cut_back right false target mid to cut least_cut most_to z high (λ place t t_low t_high there. stays place t (omega (arith, begins, t_low)) t_high there) never two)
        (λ z w. (cut_back right false target mid to mid (omega (arith, least_cut, w)) most_to (omega arith) z (λ place t t_low t_high there. absurd (omega (arith, t_low, t_high))) (λ place t_low t_high there. never place (omega (arith, t_low, w)) t_high there) two).rest)
      where
        by : (cut < mid) ⊎ (mid ≤ cut) → (cut < mid → Back left false target from mid cut) → (mid ≤ cut → Back right false target mid to cut) → (mid < to → cut < mid → FlatFlow before mid to (logic_room steps right)) → Back (and_logic left right) false target from to cut
        by (inl z) early late others =
            let r = early z in
            let a = r.first_low in
            record {
              first = r.first;
              first_at = r.first_at;
              first_low = (omega (arith, a.0), omega (arith, a.1));
              rest =
                  join_flat before cut mid to (logic_room steps (and_logic left right)) ends (raise_flat before cut mid (logic_room steps left) (logic_room steps (and_logic left right)) (omega arith) r.rest)
                  (raise_flat before mid to (logic_room steps right) (logic_room steps (and_logic left right)) (omega arith) (or_nothing right target mid to ends (λ w. others w z)));
            }
        by (inr z) early late others =
            let r = late z in
            let a = r.first_low in
            record { first = and_logic left r.first; first_at = (mid, begins, z, one, r.first_at); first_low = (omega (arith, a.0), omega (arith, a.1)); rest = raise_flat before cut to (logic_room steps right) (logic_room steps (and_logic left right)) (omega arith) r.rest }
    cut_back (or_logic left right) true target from to cut least_cut most_to low high stays never (mid, begins, ends, one, two) =
        by (order cut mid) (λ z. cut_back left true target from mid cut least_cut (omega (arith, ends, most_to)) low z stays (λ place t_low t_high there. never place t_low (omega (arith, t_high, ends)) there) one)
        (λ z. cut_back right true target mid to cut least_cut most_to z high (λ place t t_low t_high there. stays place t (omega (arith, begins, t_low)) t_high there) never two)
        (λ z w. (cut_back right true target mid to mid (omega (arith, least_cut, w)) most_to (omega arith) z (λ place t t_low t_high there. absurd (omega (arith, t_low, t_high))) (λ place t_low t_high there. never place (omega (arith, t_low, w)) t_high there) two).rest)
      where
        by : (cut < mid) ⊎ (mid ≤ cut) → (cut < mid → Back left true target from mid cut) → (mid ≤ cut → Back right true target mid to cut) → (mid < to → cut < mid → FlatFlow before mid to (logic_room steps right)) → Back (or_logic left right) true target from to cut
        by (inl z) early late others =
            let r = early z in
            let a = r.first_low in
            record {
              first = r.first;
              first_at = r.first_at;
              first_low = (omega (arith, a.0), omega (arith, a.1));
              rest =
                  join_flat before cut mid to (logic_room steps (or_logic left right)) ends (raise_flat before cut mid (logic_room steps left) (logic_room steps (or_logic left right)) (omega arith) r.rest)
                  (raise_flat before mid to (logic_room steps right) (logic_room steps (or_logic left right)) (omega arith) (or_nothing right target mid to ends (λ w. others w z)));
            }
        by (inr z) early late others =
            let r = late z in
            let a = r.first_low in
            record { first = or_logic left r.first; first_at = (mid, begins, z, one, r.first_at); first_low = (omega (arith, a.0), omega (arith, a.1)); rest = raise_flat before cut to (logic_room steps right) (logic_room steps (or_logic left right)) (omega arith) r.rest }
    cut_back (and_logic left right) true target from to cut least_cut most_to low high stays never (mid, begins, ends, one, two) =
        by (order cut mid) (λ z. cut_back right true target mid to cut least_cut most_to z high (λ place t t_low t_high there. stays place t (omega (arith, begins, t_low)) t_high there) never two)
        (λ z w. (cut_back right true target mid to mid (omega (arith, least_cut, w)) most_to (omega arith) z (λ place t t_low t_high there. absurd (omega (arith, t_low, t_high))) (λ place t_low t_high there. never place (omega (arith, t_low, w)) t_high there) two).rest)
      where
        by : (cut < mid) ⊎ (mid ≤ cut) → (mid ≤ cut → Back right true target mid to cut) → (mid < to → cut < mid → FlatFlow before mid to (logic_room steps right)) → Back (and_logic left right) true target from to cut
        by (inl z) late others =
            let r = cut_test steps levelled false left false to from mid cut low z high stays one in
            let a = r.first_low in
            let b = r.rest_low in
            let least_left = levels_least steps levelled left false to from mid one in
            record {
              first = and_logic r.first (literal_logic false);
              first_at = (cut, low, omega arith, r.first_at, refl);
              first_low = (omega (arith, a.0, least_left), omega (arith, a.1));
              rest =
                  raise_flat before cut to (suc (max (max 1 (logic_room steps left)) (logic_room steps right))) (logic_room steps (and_logic left right)) (omega arith)
                  (if_flat before r.rest cut mid to (max (max 1 (logic_room steps left)) (logic_room steps right)) (omega (arith, z)) ends r.rest_at (told_part before least cut most mid least_cut (omega (arith, ends, most_to)) told) (omega (arith, b.0, b.1)) (omega arith)
                  (raise_flat before mid to (logic_room steps right) (max (max 1 (logic_room steps left)) (logic_room steps right)) (omega arith) (or_nothing right target mid to ends (λ w. others w z))));
            }
        by (inr z) late others =
            let r = late z in
            let a = r.first_low in
            record {
              first = and_logic left r.first;
              first_at = (mid, begins, z, unlabelled steps left false to from mid cut high (λ place t t_low t_high there. stays place t t_low (omega (arith, t_high, z)) there) one cut, r.first_at);
              first_low = (omega (arith, a.0), omega (arith, a.1));
              rest = raise_flat before cut to (logic_room steps right) (logic_room steps (and_logic left right)) (omega arith) r.rest;
            }
    cut_back (or_logic left right) false target from to cut least_cut most_to low high stays never (mid, begins, ends, one, two) =
        by (order cut mid) (λ z. cut_back right false target mid to cut least_cut most_to z high (λ place t t_low t_high there. stays place t (omega (arith, begins, t_low)) t_high there) never two)
        (λ z w. (cut_back right false target mid to mid (omega (arith, least_cut, w)) most_to (omega arith) z (λ place t t_low t_high there. absurd (omega (arith, t_low, t_high))) (λ place t_low t_high there. never place (omega (arith, t_low, w)) t_high there) two).rest)
      where
        by : (cut < mid) ⊎ (mid ≤ cut) → (mid ≤ cut → Back right false target mid to cut) → (mid < to → cut < mid → FlatFlow before mid to (logic_room steps right)) → Back (or_logic left right) false target from to cut
        by (inl z) late others =
            let r = cut_test steps levelled true left true to from mid cut low z high stays one in
            let a = r.first_low in
            let b = r.rest_low in
            let least_left = levels_least steps levelled left true to from mid one in
            record {
              first = or_logic r.first (literal_logic true);
              first_at = (cut, low, omega arith, r.first_at, refl);
              first_low = (omega (arith, a.0, least_left), omega (arith, a.1));
              rest =
                  raise_flat before cut to (suc (max (max 1 (logic_room steps left + 2)) (logic_room steps right))) (logic_room steps (or_logic left right)) (omega arith)
                  (if_flat before (flipped r.rest) cut mid to (max (max 1 (logic_room steps left + 2)) (logic_room steps right)) (omega (arith, z)) ends (flipped_lies steps r.rest true to cut mid r.rest_at) (told_part before least cut most mid least_cut (omega (arith, ends, most_to)) told)
                  (let flips = flipped_low steps levelled r.rest true to cut mid r.rest_at in omega (arith, b.0, b.1, flips.0, flips.1)) (omega arith)
                  (raise_flat before mid to (logic_room steps right) (max (max 1 (logic_room steps left + 2)) (logic_room steps right)) (omega arith) (or_nothing right target mid to ends (λ w. others w z))));
            }
        by (inr z) late others =
            let r = late z in
            let a = r.first_low in
            record {
              first = or_logic left r.first;
              first_at = (mid, begins, z, unlabelled steps left true to from mid cut high (λ place t t_low t_high there. stays place t t_low (omega (arith, t_high, z)) there) one cut, r.first_at);
              first_low = (omega (arith, a.0), omega (arith, a.1));
              rest = raise_flat before cut to (logic_room steps right) (logic_room steps (or_logic left right)) (omega arith) r.rest;
            }
