-- Where a condition lies as a source has it, one is found, with two levels more for each operator at most.
use Rattle.std.proofs.Common.{◌≡◌, ◌∙◌, ◌≤◌, ◌<◌, ◌+◌, ◌*◌, ◌-◌, ◌⊎◌, inl, inr, ⊎_elim, refl, sym, ap, subst, ℕ, zero, suc, Bool, true, false, not, ◌&&◌, ◌==◌, List, [], ◌∷◌, length, take, drop, slice_get, Option, None, Some, option_map, if◌then◌else◌, arith}
use Rattle.std.proofs.Math.Nat.{eq-or-lt_of_le}
use Rattle.std.proofs.lemmas.Bool.{false≢true, le-leb}
use Rattle.std.proofs.lemmas.Bool.Decides.{nat_tests}
use Rattle.std.proofs.lemmas.Option.{none-some}
use Rattle.std.specs.Bool.{beq}
use Rattle.std.specs.Prelude.{option_and_then}
use Rattle.recover_expr.specs.declared.steps.Step.{Step}
use Rattle.recover_expr.specs.declared.steps.StepKind.{StepKind}
use Rattle.recover_flow.specs.Asked.{kind_at, target_at, target_of}
use Rattle.recover_flow.specs.Conditions.{ConditionTree, literal_of, joined_with, idle_of, true_condition, false_condition, turned_to, junction_to, empty_part, parts_from, condition_parts, leaf_of, unit_to, unit_of, Finds, part_goal, part_before, joined_parts, of_parts, of_stretch, condition_within, condition_of, condition_levels}
use Rattle.recover_flow.specs.Logic.{Logic, test_logic, literal_logic, not_logic, and_logic, or_logic, LogicIsFound, LogicLies, logic_levels, operators, AreLevelled}
use Rattle.recover_flow.specs.Lying.{ConditionLies, LiteralLies, TestGoes}
use Rattle.recover_flow.specs.declared.conditions.Goal.{Goal}
use Rattle.recover_flow.specs.declared.conditions.Junction.{Junction}
use Rattle.recover_flow.specs.declared.conditions.Part.{Part}
use Rattle.recover_flow.proofs.ConditionsLie.{conditions_lie, first_of_stretch, stretch_length}
use Rattle.recover_flow.proofs.LogicLevels.{alone_fits, joins, joins_before, joins_with, leaves_fit, levels_fit, links, links_are_operators, operands_fit}
use Rattle.recover_flow.proofs.LogicParts.{Frame, step_frame, no_frame, joined_frame, FrameLies, IsCut, IsCutAt, IsOutside, IsPart, IsParted, GoesOn, SomeGoes, begin_with, cut_somewhere, early_is, goes_elsewhere, goes_on, in_order, joints, parted, same_goal}

-- ---- logic as a frame

kind_goes : (found : Option StepKind) (negated sense : Bool) (target : ℕ) → TestGoes negated sense target found → option_and_then target_of found ≡ Some target
kind_goes None negated sense target goes = absurd goes
kind_goes (Some StepKind.Act) negated sense target goes = absurd goes
kind_goes (Some StepKind.Return) negated sense target goes = absurd goes
kind_goes (Some (StepKind.Declaration end captured)) negated sense target goes = absurd goes
kind_goes (Some (StepKind.Test when to levels)) negated sense target goes = ap Some goes.0
kind_goes (Some (StepKind.Jump to)) negated sense target goes = absurd goes
kind_goes (Some (StepKind.Close from declared)) negated sense target goes = absurd goes
kind_goes (Some (StepKind.Head numeric foot end variables_end captured)) negated sense target goes = absurd goes
kind_goes (Some (StepKind.Foot numeric head)) negated sense target goes = absurd goes

abbrev Framed : List Step → (target from to most : ℕ) → Type 0
Framed steps target from to most = (frame : Frame) × FrameLies steps frame target from to × (joints frame ≤ most)

literal_framed : (steps : List Step) (jumps : Bool) (target from to : ℕ) → LiteralLies steps jumps from to target → Framed steps target from to 0
literal_framed steps true target from to lies = (step_frame, (ap (option_and_then target_of) lies.0, lies.1), omega arith)
literal_framed steps false target from to lies = (no_frame, lies, omega arith)

join_framed : (steps : List Step) (ends : Bool) (target from mid to few more : ℕ) → from ≤ mid → mid ≤ to → Framed steps (if ends then to else target) from mid few → Framed steps target mid to more → Framed steps target from to (suc (few + more))
join_framed steps ends target from mid to few more low high (left, lies, fits) (right, rest, also) = (joined_frame ends left right, (mid, low, high, lies, rest), omega (arith, fits, also))

logic_framed : (steps : List Step) (logic : Logic) (sense : Bool) (target from to : ℕ) → LogicLies steps logic sense target from to → Framed steps target from to (links logic)
logic_framed steps (test_logic step negated) sense target from to (same, one, goes) = (step_frame, (kind_goes (kind_at steps from) negated sense target goes, one), omega arith)
logic_framed steps (literal_logic truth) sense target from to lies = literal_framed steps (beq truth sense) target from to lies
logic_framed steps (not_logic inner) sense target from to lies = logic_framed steps inner (not sense) target from to lies
logic_framed steps (and_logic left right) sense target from to (mid, low, high, lies, rest) =
    join_framed steps sense target from mid to (links left) (links right) low high (logic_framed steps left false (if sense then to else target) from mid lies) (logic_framed steps right sense target mid to rest)
logic_framed steps (or_logic left right) sense target from to (mid, low, high, lies, rest) =
    join_framed steps (not sense) target from mid to (links left) (links right) low high
    (subst (λ n. Framed steps n from mid (links left)) (turned sense) (logic_framed steps left true (if sense then target else to) from mid lies)) (logic_framed steps right sense target mid to rest)
  where
    turned : (sense : Bool) → (if sense then target else to) ≡ (if not sense then to else target)
    turned true = refl
    turned false = refl

-- ---- one step

-- a condition is found that joins so often at most
abbrev Found : Option ConditionTree → (most : ℕ) → Type 0
Found found most = (condition : ConditionTree) × (found ≡ Some condition) × (joins condition ≤ most)

literal_joins : (truth : Bool) → joins (literal_of truth) ≡ 0
literal_joins true = refl
literal_joins false = refl

leaf_joins : (kind : StepKind) (place : ℕ) (sense : Bool) → joins (leaf_of kind place sense) ≡ 0
leaf_joins StepKind.Act place sense = literal_joins sense
leaf_joins StepKind.Return place sense = literal_joins sense
leaf_joins (StepKind.Declaration end captured) place sense = literal_joins sense
leaf_joins (StepKind.Test when target negated) place sense = refl
leaf_joins (StepKind.Jump target) place sense = literal_joins sense
leaf_joins (StepKind.Close from declared) place sense = literal_joins sense
leaf_joins (StepKind.Head numeric foot end variables_end captured) place sense = literal_joins sense
leaf_joins (StepKind.Foot numeric head) place sense = literal_joins sense

-- a step that goes to its end is one join
idle_joins : (inner : ConditionTree) (sense : Bool) → joins (idle_of inner sense) ≤ suc (joins inner)
idle_joins inner true = joins_before Junction.And inner false_condition refl
idle_joins inner false = joins_before Junction.Or inner true_condition refl

unit_found : (kind : StepKind) (place to target : ℕ) (goal : Goal) (most : ℕ) → (target ≡ goal.target) ⊎ ((target ≡ to) × (1 ≤ most)) → Found (unit_to kind place to goal target) most
unit_found kind place to target goal most on =
    by (target == goal.target) (target == to) (λ aside. ⊎_elim (λ aim. absurd (differs aside aim)) (λ h. (grind (arith, nat_tests, h.0), h.1)) on)
  where
    differs : (target == goal.target) ≡ false → target ≡ goal.target → ⊥
    differs aside aim = grind (arith, nat_tests)

    by : (there ends : Bool) → (there ≡ false → (ends ≡ true) × (1 ≤ most))
        → Found (if there then Some (leaf_of kind place goal.sense) else if ends then Some (idle_of (leaf_of kind place (not goal.sense)) goal.sense) else None) most
    by true ends other = (leaf_of kind place goal.sense, refl, omega (arith, leaf_joins kind place goal.sense))
    by false true other = (idle_of (leaf_of kind place (not goal.sense)) goal.sense, refl, omega (arith, idle_joins (leaf_of kind place (not goal.sense)) goal.sense, leaf_joins kind place (not goal.sense), (other refl).1))
    by false false other = absurd (false≢true (other refl).0)

module _ (steps : List Step) where
  -- one step goes to the target, or to the end where it is joined to what has no step
  one_goes : (frame : Frame) (target from to goes : ℕ) → FrameLies steps frame target from to → to ≡ suc from → target_at steps from ≡ Some goes → (goes ≡ target) ⊎ ((goes ≡ to) × (1 ≤ joints frame))
  one_goes step_frame target from to goes lies one there = inl (same_goal steps from goes target there lies.0)
  one_goes no_frame target from to goes lies one there = absurd (omega (arith, lies, one))
  one_goes (joined_frame ends left right) target from to goes (mid, low, high, lies, rest) one there =
      ⊎_elim
      (λ same. by_right (one_goes right target from to goes (subst (λ n. FrameLies steps right target n to) (sym same) rest) one there))
      (λ above.
      let last : mid ≡ to = omega (arith, above, high, one) in
      by_left (one_goes left (if ends then to else target) from to goes (subst (FrameLies steps left (if ends then to else target) from) last lies) one there))
      (eq-or-lt_of_le low)
    where
      by_right : (goes ≡ target) ⊎ ((goes ≡ to) × (1 ≤ joints right)) → (goes ≡ target) ⊎ ((goes ≡ to) × (1 ≤ suc (joints left + joints right)))
      by_right (inl aim) = inl aim
      by_right (inr (end, some)) = inr (end, omega arith)

      by_left : (goes ≡ (if ends then to else target)) ⊎ ((goes ≡ to) × (1 ≤ joints left)) → (goes ≡ target) ⊎ ((goes ≡ to) × (1 ≤ suc (joints left + joints right)))
      by_left (inl early) = ⊎_elim (λ e. inl (early ∙ e)) (λ e. inr (early ∙ e, omega arith)) (early_is ends to target)
      by_left (inr (end, some)) = inr (end, omega arith)

  step_found : (frame : Frame) (step : Step) (from to : ℕ) (goal : Goal) → slice_get steps from ≡ Some step → to ≡ suc from → FrameLies steps frame goal.target from to → Found (unit_of step from to goal) (joints frame)
  step_found frame step from to goal there one lies = by (goes_on steps frame goal.target from to lies from (omega arith) (omega (arith, one)))
    where
      by : GoesOn steps goal.target to from → Found (unit_of step from to goal) (joints frame)
      by (goes, is, on) =
          let aims : target_of step.kind ≡ Some goes = sym (ap (λ o. option_and_then target_of (option_map (λ (s : Step). s.kind) o)) there) ∙ is in
          subst (λ o. Found (option_and_then (unit_to step.kind from to goal) o) (joints frame)) (sym aims)
          (unit_found step.kind from to goes goal (joints frame) (one_goes frame goal.target from to goes lies one is))

-- ---- several steps

true_or_false : (b : Bool) → (b ≡ true) ⊎ (b ≡ false)
true_or_false true = inl refl
true_or_false false = inr refl

none_left : (mid left to : ℕ) → mid + left ≡ to → mid ≡ to → left ≡ 0
none_left mid left to sum same = omega (arith, sum, same)

module _ (steps : List Step) (finds : Finds) (from to : ℕ) (goal : Goal) (outside : IsOutside goal.target from to)
    (shorter : (frame : Frame) (target begin end : ℕ) (sense : Bool) → from ≤ begin → end ≤ to → end + from < begin + to → IsOutside target begin end → FrameLies steps frame target begin end → Found (finds begin end (record { sense = sense; target = target })) (joints frame)) where
  before_found : (part : Part) (aim : Goal) (whole : ConditionTree) (few more : ℕ) → (part.there && part.end) ≡ false → part_goal to goal part ≡ aim → Found (finds part.from part.to aim) few → joins whole ≤ more
      → Found (part_before finds to goal part whole) (suc (few + more))
  before_found part aim whole few more apart is (first, found, fits) also = (
    joined_with (junction_to aim) first whole,
    ap (λ b. if b then None else option_map (λ first. joined_with (junction_to (part_goal to goal part)) first whole) (finds part.from part.to (part_goal to goal part))) apart
        ∙ ap (λ (g : Goal). option_map (λ first. joined_with (junction_to g) first whole) (finds part.from part.to g)) is
        ∙ ap (option_map (λ first. joined_with (junction_to aim) first whole)) found,
    omega (arith, joins_with (junction_to aim) first whole, fits, also),
  )

  -- what stands before the first cut
  module _ (begin mid : ℕ) (longer : Part) (first : Frame) (low : from ≤ begin) (above : begin < mid) (below : mid < to) (is_part : IsPart steps goal.target begin to mid longer) where
    begin_outside : IsOutside goal.target begin mid
    begin_outside = ⊎_elim (λ h. inl (omega (arith, h, low))) (λ h. inr (omega (arith, h, below))) outside

    abbrev Lies : (aim : ℕ) → Type 0
    Lies aim = FrameLies steps first aim begin mid

    never_target : Lies to → (to ≡ goal.target → ⊥) → SomeGoes steps goal.target begin to mid goal.target → ⊥
    never_target lies aside (step, high, before, is) = by (goes_on steps first to begin mid lies step high before)
      where
        by : GoesOn steps to mid step → ⊥
        by (goes, there, inl end) = aside (sym end ∙ same_goal steps step goes goal.target there is)
        by (goes, there, inr (on, within)) =
            let same = same_goal steps step goes goal.target there is in
            ⊎_elim (λ h. omega (arith, same, on, h, low, high)) (λ h. omega (arith, same, within, h, below)) outside

    never_end : Lies goal.target → (to ≡ goal.target → ⊥) → SomeGoes steps goal.target begin to mid to → ⊥
    never_end lies aside (step, high, before, is) = by (goes_on steps first goal.target begin mid lies step high before)
      where
        by : GoesOn steps goal.target mid step → ⊥
        by (goes, there, inl aim) = aside (same_goal steps step to goes is there ∙ aim)
        by (goes, there, inr (on, within)) = omega (arith, same_goal steps step goes to there is, within, below)

    short : mid + from < begin + to
    short = omega (arith, low, above, below)

    found_before : Lies goal.target ⊎ Lies to → (whole : ConditionTree) (more : ℕ) → joins whole ≤ more → Found (part_before finds to goal (record longer { to = mid }) whole) (suc (joints first + more))
    found_before lies whole more fits = ⊎_elim to_end to_target (true_or_false longer.end)
      where
        begun : (aim : Goal) → Found (finds begin mid aim) (joints first) → Found (finds longer.from mid aim) (joints first)
        begun aim found = subst (λ n. Found (finds n mid aim) (joints first)) (sym is_part.begins) found

        to_target : longer.end ≡ false → Found (part_before finds to goal (record longer { to = mid }) whole) (suc (joints first + more))
        to_target stays =
            before_found (record longer { to = mid }) goal whole (joints first) more (ap (λ b. longer.there && b) stays ∙ and_false longer.there) (ap (λ b. if b then turned_to goal to else goal) stays)
            (begun goal (shorter first goal.target begin mid goal.sense low (omega (arith, below)) short begin_outside
            (⊎_elim (λ h. h) (λ h. goes_elsewhere steps first to goal.target begin mid h (is_part.stays stays)) lies))) fits
          where
            and_false : (b : Bool) → (b && false) ≡ false
            and_false true = refl
            and_false false = refl

        to_end : longer.end ≡ true → Found (part_before finds to goal (record longer { to = mid }) whole) (suc (joints first + more))
        to_end ends =
            before_found (record longer { to = mid }) (turned_to goal to) whole (joints first) more (apart longer.there longer.end (λ there. never_target ending aside (is_part.there there))) (ap (λ b. if b then turned_to goal to else goal) ends)
            (begun (turned_to goal to) (shorter first to begin mid (not goal.sense) low (omega (arith, below)) short (inr (omega (arith, below))) ending)) fits
          where
            aside : to ≡ goal.target → ⊥
            aside = (is_part.ends ends).1

            ending : Lies to
            ending = ⊎_elim (λ h. absurd (never_end h aside (is_part.ends ends).0)) (λ h. h) lies

            apart : (there end : Bool) → (there ≡ true → ⊥) → (there && end) ≡ false
            apart true end no_one = absurd (no_one refl)
            apart false end no_one = refl

  abbrev PartsFound : (count begin most : ℕ) → Type 0
  PartsFound count begin most =
      (parts : List Part) × (whole : ConditionTree) × (parts_from steps goal.target to count begin (empty_part begin) ≡ Some parts) × (joined_parts finds to goal parts ≡ Some whole) × (joins whole ≤ most)

  joined_more : (part : Part) (parts : List Part) (whole : ConditionTree) → joined_parts finds to goal parts ≡ Some whole → joined_parts finds to goal (part ∷ parts) ≡ part_before finds to goal part whole
  joined_more part [] whole is = absurd (none-some whole is)
  joined_more part (next ∷ rest) whole is = ap (option_and_then (part_before finds to goal part)) is

  of_more : (part : Part) (parts : List Part) (whole : ConditionTree) → joined_parts finds to goal parts ≡ Some whole → of_parts finds from to goal (part ∷ parts) ≡ part_before finds to goal part whole
  of_more part [] whole is = absurd (none-some whole is)
  of_more part (next ∷ rest) whole is = ap (option_and_then (part_before finds to goal part)) is

  -- what is found from a place on, behind the first cut
  rest_found : (size : ℕ) (frame : Frame) (count begin : ℕ) → to ≤ begin + size → from < begin → begin < to → begin + count ≡ to → FrameLies steps frame goal.target begin to → PartsFound count begin (joints frame)
  rest_found zero frame count begin small low some sum lies = absurd (omega (arith, small, some))
  rest_found (suc size) frame count begin small low some sum lies =
      by (begin_with steps goal.target begin to (goes_on steps frame goal.target begin to lies) count some sum)
      (λ next left mid above below all rest_lies. rest_found size next left mid (omega (arith, small, above)) (omega (arith, low, above)) below all rest_lies)
    where
      begin_out : IsOutside goal.target begin to
      begin_out = ⊎_elim (λ h. inl (omega (arith, h, low))) (λ h. inr h) outside

      by : IsCutAt steps goal.target begin to count begin (empty_part begin)
          → ((next : Frame) (left mid : ℕ) → begin < mid → mid < to → mid + left ≡ to → FrameLies steps next goal.target mid to → PartsFound left mid (joints next)) → PartsFound count begin (joints frame)
      by (mid, left, longer, above, all, is_part, first, is) others = ⊎_elim last more (eq-or-lt_of_le within)
        where
          within : mid ≤ to
          within = omega (arith, all)

          last : mid ≡ to → PartsFound count begin (joints frame)
          last same = one (shorter frame goal.target begin to goal.sense (omega (arith, low)) (omega arith) (omega (arith, low)) begin_out lies)
            where
              one : Found (finds begin to goal) (joints frame) → PartsFound count begin (joints frame)
              one (whole, found, fits) = (
                record longer { to = mid } ∷ [],
                whole,
                is ∙ ap (λ n. option_map (λ parts. record longer { to = mid } ∷ parts) (parts_from steps goal.target to n mid (empty_part mid))) (none_left mid left to all same),
                ap (λ n. finds n mid goal) is_part.begins ∙ (ap (λ n. finds begin n goal) same ∙ found),
                fits,
              )

          more : mid < to → PartsFound count begin (joints frame)
          more below = split (parted steps frame goal.target begin mid to begin_out lies above below first)
            where
              split : IsParted steps goal.target begin mid to (joints frame) → PartsFound count begin (joints frame)
              split (one, other, one_lies, other_lies, few) = join (others other left mid above below all other_lies)
                where
                  join : PartsFound left mid (joints other) → PartsFound count begin (joints frame)
                  join (parts, rest, parts_are, rest_is, fits) = all_found (found_before begin mid longer one (omega (arith, low)) above below is_part one_lies rest (joints other) fits)
                    where
                      all_found : Found (part_before finds to goal (record longer { to = mid }) rest) (suc (joints one + joints other)) → PartsFound count begin (joints frame)
                      all_found (whole, found, whole_fits) = (
                        record longer { to = mid } ∷ parts,
                        whole,
                        is ∙ ap (option_map (λ parts. record longer { to = mid } ∷ parts)) parts_are,
                        joined_more (record longer { to = mid }) parts rest rest_is ∙ found,
                        omega (arith, whole_fits, few),
                      )

  -- several steps have several parts, and the condition of these is found
  whole_found : (frame : Frame) → suc from < to → FrameLies steps frame goal.target from to → Found (option_and_then (of_parts finds from to goal) (condition_parts steps from to goal.target)) (joints frame)
  whole_found frame many lies = by (begin_with steps goal.target from to (goes_on steps frame goal.target from to lies) (to - from) (omega (arith, many)) (omega (arith, many)))
    where
      by : IsCutAt steps goal.target from to (to - from) from (empty_part from) → Found (option_and_then (of_parts finds from to goal) (condition_parts steps from to goal.target)) (joints frame)
      by (mid, left, longer, above, all, is_part, first, is) = ⊎_elim (λ same. uncut same (cut_somewhere steps frame goal.target from to lies many)) more (eq-or-lt_of_le within)
        where
          within : mid ≤ to
          within = omega (arith, all)

          uncut : mid ≡ to → (at : ℕ) × (from < at) × (at < to) × IsCut steps goal.target from to at → Found (option_and_then (of_parts finds from to goal) (condition_parts steps from to goal.target)) (joints frame)
          uncut same (at, begins, ends, cut) = absurd (first.1 at begins (omega (arith, ends, same)) cut)

          more : mid < to → Found (option_and_then (of_parts finds from to goal) (condition_parts steps from to goal.target)) (joints frame)
          more below = split (parted steps frame goal.target from mid to outside lies above below first)
            where
              split : IsParted steps goal.target from mid to (joints frame) → Found (option_and_then (of_parts finds from to goal) (condition_parts steps from to goal.target)) (joints frame)
              split (one, other, one_lies, other_lies, few) = join (rest_found to other left mid (omega arith) above below all other_lies)
                where
                  join : PartsFound left mid (joints other) → Found (option_and_then (of_parts finds from to goal) (condition_parts steps from to goal.target)) (joints frame)
                  join (parts, rest, parts_are, rest_is, fits) = all_found (found_before from mid longer one (omega arith) above below is_part one_lies rest (joints other) fits)
                    where
                      all_found : Found (part_before finds to goal (record longer { to = mid }) rest) (suc (joints one + joints other)) → Found (option_and_then (of_parts finds from to goal) (condition_parts steps from to goal.target)) (joints frame)
                      all_found (whole, found, whole_fits) = (
                        whole,
                        ap (option_and_then (of_parts finds from to goal)) (is ∙ ap (option_map (λ parts. record longer { to = mid } ∷ parts)) parts_are)
                            ∙ (of_more (record longer { to = mid }) parts rest rest_is ∙ found),
                        omega (arith, whole_fits, few),
                      )

-- ---- a region

module _ (steps : List Step) where
  abbrev FindsWithin : Finds → (depth : ℕ) → Type 0
  FindsWithin finds depth =
      (frame : Frame) (target from to : ℕ) (sense : Bool) → IsOutside target from to → to ≤ length steps → to < from + depth → FrameLies steps frame target from to → Found (finds from to (record { sense = sense; target = target })) (joints frame)

  stretch_found : (finds : Finds) (depth : ℕ) → FindsWithin finds depth → (frame : Frame) (target from to : ℕ) (sense : Bool) → IsOutside target from to → to ≤ length steps → from ≤ to → to < from + suc depth → FrameLies steps frame target from to
      → (stretch : List Step) → take (to - from) (drop from steps) ≡ stretch → Found (of_stretch finds steps from to (record { sense = sense; target = target }) stretch) (joints frame)
  stretch_found finds depth shorter frame target from to sense outside high low small lies [] are = (literal_of (not sense), refl, omega (arith, literal_joins (not sense)))
  stretch_found finds depth shorter frame target from to sense outside high low small lies (step ∷ []) are =
      let one = stretch_length steps (step ∷ []) from to low high are in
      step_found steps frame step from to (record { sense = sense; target = target }) (first_of_stretch steps from (to - from) step [] are) (omega (arith, one, low)) lies
  stretch_found finds depth shorter frame target from to sense outside high low small lies (step ∷ next ∷ rest) are =
      let many = stretch_length steps (step ∷ next ∷ rest) from to low high are in
      whole_found steps finds from to (record { sense = sense; target = target }) outside
      (λ part aim begin end truth above below short aside part_lies. shorter part aim begin end truth aside (omega (arith, below, high)) (omega (arith, short, small)) part_lies)
      frame (omega (arith, many)) lies

  within_found : (depth : ℕ) → FindsWithin (condition_within steps depth) depth
  within_found zero frame target from to sense outside high small lies = absurd (omega (arith, small, in_order steps frame target from to lies))
  within_found (suc depth) frame target from to sense outside high small lies =
      let low = in_order steps frame target from to lies in
      let found = stretch_found (condition_within steps depth) depth (within_found depth) frame target from to sense outside high low small lies (take (to - from) (drop from steps)) refl in
      (found.0, rw (le-leb from to low) (rw (le-leb to (length steps) high) found.1), found.2)

-- ---- the law

module _ (steps : List Step) (levelled : AreLevelled steps) (logic : Logic) (from to target : ℕ) (lies : LogicLies steps logic false target from to) (condition : ConditionTree)
    (also : ConditionLies steps condition false target from to) (few : joins condition ≤ links logic) where
  levels_within : condition_levels steps condition ≤ logic_levels steps logic + 2 * operators logic
  levels_within = ⊎_elim (λ none. alone none) some (eq-or-lt_of_le least)
    where
      least : 0 ≤ operators logic
      least = omega arith

      alone : 0 ≡ operators logic → condition_levels steps condition ≤ logic_levels steps logic + 2 * operators logic
      alone none = omega (arith, alone_fits steps logic condition target from to lies also (sym none) (omega (arith, none, few, links_are_operators logic)))

      some : 0 < operators logic → condition_levels steps condition ≤ logic_levels steps logic + 2 * operators logic
      some one =
          let fit = leaves_fit steps (logic_levels steps logic + 1) from to (operands_fit steps levelled logic false target from to lies one) condition false target from to also (omega arith) (omega arith) in
          let levels = levels_fit steps (logic_levels steps logic + 1) condition (omega arith) fit in
          omega (arith, levels, few, links_are_operators logic, one)

pub logic_is_found : LogicIsFound
logic_is_found steps levelled logic from to target outside lies high small = framed (logic_framed steps logic false target from to lies)
  where
    framed : Framed steps target from to (links logic) → (condition : ConditionTree) × (condition_of steps (record { from = from; to = to; target = target }) ≡ Some condition) × (condition_levels steps condition ≤ logic_levels steps logic + 2 * operators logic)
    framed (frame, frame_lies, fits) = by (within_found steps 200 frame target from to false outside high (omega (arith, small)) frame_lies)
      where
        by : Found (condition_within steps 200 from to (record { sense = false; target = target })) (joints frame)
            → (condition : ConditionTree) × (condition_of steps (record { from = from; to = to; target = target }) ≡ Some condition) × (condition_levels steps condition ≤ logic_levels steps logic + 2 * operators logic)
        by (condition, is, few) =
            (condition, is, levels_within steps levelled logic from to target lies condition (conditions_lie steps (record { from = from; to = to; target = target }) condition is).2 (omega (arith, few, fits)))
