-- A body is cut in two at a cut: each statement that is around it comes apart, but for an `if` or a `repeat` that ends at the exit, or a `repeat` at the end of the body.
use Rattle.std.proofs.Common.{◌≡◌, ◌∙◌, ◌≤◌, ◌<◌, ◌+◌, ◌^◌, ◌⊎◌, inl, inr, refl, sym, ap, subst, ℕ, zero, suc, Bool, true, false, List, length, Some, arith}
use Rattle.std.specs.Prelude.{◌||◌}
use Rattle.std.proofs.lemmas.Bool.{false≢true}
use Rattle.recover_expr.specs.declared.steps.Step.{Step}
use Rattle.recover_expr.specs.declared.steps.StepKind.{StepKind}
use Rattle.recover_flow.specs.Asked.{kind_at}
use Rattle.recover_flow.specs.Flow.{AreTold, Around, ArmLies, Declares, EndsWell, Flow, no_flow, and_flow, FlowStatement, step_flow, return_flow, break_flow, do_flow, while_flow, repeat_flow, for_flow, if_flow, FlowArms, no_more, else_flow, elseif_flow, FlowLies, FlowStatementLies, IsAt, IsFlowBlock, captures_flow, flow_arms_levels, flow_levels, flow_statement_levels, in_loop, logic_room}
use Rattle.recover_flow.specs.Logic.{AreLevelled, Logic, LogicLies}
use Rattle.recover_flow.specs.Lying.{is_captured_at}
use Rattle.recover_flow.specs.declared.regions.BodyAt.{BodyAt}
use Rattle.recover_flow.proofs.CutFacts.{IsCut}
use Rattle.recover_flow.proofs.FlowInside.{first_captures, flat_rest, rest_captures}
use Rattle.recover_flow.proofs.FlowMoves.{statement_flat}
use Rattle.recover_flow.proofs.FlowParts.{ClosesAt, Found, Hard, HitsExit, IsHard, Near, block_end, block_of, captured_in, closes_low, do_flat, near_or_hit, put_behind, put_declared, put_front, statement_flat_flow, widened}
use Rattle.recover_flow.proofs.FlowSplit.{Halves, back_uncut, break_uncut, in_else, in_none, open_repeat, own_local, sound_behind, told_before}
use Rattle.recover_flow.proofs.LogicRest.{FlatFlow, NoneLast, empty_flat, ends_well, join_captures, join_flow, join_levels, join_lies}
use Rattle.recover_flow.proofs.PartsInside.{order}

module _ (steps : List Step) (levelled : AreLevelled steps) (at : BodyAt) (small : length steps < 2 ^ 32) (fits : at.to ≤ length steps) (low cut : ℕ) (is_cut : IsCut steps at small fits low cut) (ends_in : at.to ≤ at.locals_end) where
  abbrev FoundIn : (before : Around) (ends from to bound : ℕ) → Type 0
  FoundIn before ends from to bound = Found steps at small fits low cut is_cut before ends from to bound

  abbrev HardIn : (from to : ℕ) → Type 0
  HardIn from to = Hard steps at small fits low cut is_cut from to

  abbrev HalvesIn : (before behind : Around) (ends from to bound : ℕ) (captures : Bool) → Type 0
  HalvesIn before behind ends from to bound captures = Halves steps levelled at small fits low cut is_cut ends_in before behind ends from to bound captures

  -- ---- every statement, and every body

  in_arms : (rest : FlowArms) (logic : Logic) (body : Flow) (before : Around) (from to ends bound : ℕ) → low ≤ from → from < cut → cut < to → to ≤ ends → Near steps at small fits low cut is_cut from to
      → ArmLies steps before logic (captures_flow steps body) (λ from ends end. (inside : Around) × FlowLies steps before inside ends body from end) rest from to
      → logic_room steps logic ≤ bound → flow_levels steps body ≤ bound → flow_arms_levels steps rest ≤ bound → 1 ≤ bound
      → ((start stop : ℕ) → from ≤ start → start ≤ cut → cut < stop → stop ≤ to → IsFlowBlock steps before (captures_flow steps body) (λ ends end. (inside : Around) × FlowLies steps before inside ends body start end) start stop → FoundIn before ends start stop (suc bound))
      → FoundIn before ends from to (suc bound)
  in_arms no_more logic body before from to ends bound begins before_cut behind within near (start, goes, stops, tests, told, block) room levels rest_levels some rec =
      in_none steps levelled at small fits low cut is_cut ends_in logic body before from start to ends bound begins before_cut behind near goes stops tests told block room levels some (λ past. rec start to goes past behind (omega arith) block)
  in_arms (else_flow other) logic body before from to ends bound begins before_cut behind within near (start, last, goes, stops, stays_in, tests, told, block, jump, others) room levels rest_levels some rec =
      in_else steps levelled at small fits low cut is_cut ends_in logic body (else_flow other) before from start last to ends bound begins before_cut behind within near goes stops stays_in tests told block jump.1 room levels rest_levels some
      (λ logic body from start goes stops tests told block ends. (refl, (start, last, goes, stops, stays_in, tests, told, block, jump, others)))
      (λ past ahead. rec start last goes past ahead (omega (arith, stays_in)) block)
  in_arms (elseif_flow next other rest) logic body before from to ends bound begins before_cut behind within near (start, last, goes, stops, stays_in, tests, told, block, jump, others) room levels rest_levels some rec =
      in_else steps levelled at small fits low cut is_cut ends_in logic body (elseif_flow next other rest) before from start last to ends bound begins before_cut behind within near goes stops stays_in tests told block jump.1 room levels rest_levels some
      (λ logic body from start goes stops tests told block ends. (refl, (start, last, goes, stops, stays_in, tests, told, block, jump, others)))
      (λ past ahead. rec start last goes past ahead (omega (arith, stays_in)) block)

  rest_none : (a b : Bool) → (a || b) ≡ false → b ≡ false
  rest_none true b is = absurd (false≢true (sym is))
  rest_none false b is = is

  -- a statement in front of those before the cut
  half_front : (s : FlowStatement) (rest : Flow) (before between behind : Around) (ends from mid to bound : ℕ) → EndsWell s rest → from ≤ mid → mid ≤ cut → FlowStatementLies steps before between ends s from mid → flow_statement_levels steps s ≤ bound
      → FlowLies steps between behind ends rest mid to → (captures_flow steps (and_flow s no_flow) ≡ true → captures_flow steps (and_flow s rest) ≡ true) → (captures_flow steps rest ≡ true → captures_flow steps (and_flow s rest) ≡ true)
      → cut ≤ to → HalvesIn between behind ends mid to bound (captures_flow steps rest) → HalvesIn before behind ends from to bound (captures_flow steps (and_flow s rest))
  half_front s no_flow before between behind ends from mid to bound well begins goes one levels (same, ended) first others stops halves =
      let here : mid ≡ cut = omega (arith, goes, stops, ended) in
      record {
        left = and_flow s no_flow;
        right = no_flow;
        between = behind;
        after = behind;
        left_at = (tt, mid, between, begins, goes, one, (same, sym here));
        right_at = (refl, ended ∙ here);
        left_low = omega (arith, levels);
        right_low = omega arith;
        left_owns = first;
        right_owns = λ is. absurd (false≢true is);
        calm = inr refl;
        ended = inl refl;
      }
  half_front s (and_flow next rest) before between behind ends from mid to bound well begins goes one levels lies first others stops halves =
      let low_left = halves.left_low in
      record {
        left = and_flow s halves.left;
        right = halves.right;
        between = halves.between;
        after = halves.after;
        left_at = (ends_well s halves.left well, mid, between, begins, goes, one, halves.left_at);
        right_at = halves.right_at;
        left_low = omega (arith, levels, low_left);
        right_low = halves.right_low;
        left_owns = λ is. owns is;
        right_owns = λ is. others (halves.right_owns is);
        calm = calm halves.calm;
        ended = halves.ended;
      }
    where
      calm : NoneLast halves.left ⊎ (halves.right ≡ no_flow) → NoneLast (and_flow s halves.left) ⊎ (halves.right ≡ no_flow)
      calm (inl none) = inl (well, none)
      calm (inr none) = inr none

      owns : captures_flow steps (and_flow s halves.left) ≡ true → captures_flow steps (and_flow s (and_flow next rest)) ≡ true
      owns is = either s first others is
        where
          either : (s : FlowStatement) → (captures_flow steps (and_flow s no_flow) ≡ true → captures_flow steps (and_flow s (and_flow next rest)) ≡ true) → (captures_flow steps (and_flow next rest) ≡ true → captures_flow steps (and_flow s (and_flow next rest)) ≡ true)
              → captures_flow steps (and_flow s halves.left) ≡ true → captures_flow steps (and_flow s (and_flow next rest)) ≡ true
          either (step_flow step) first others is = by (is_captured_at (kind_at steps step)) first others is
            where
              by : (b : Bool) → ((b || false) ≡ true → (b || captures_flow steps (and_flow next rest)) ≡ true) → (captures_flow steps (and_flow next rest) ≡ true → (b || captures_flow steps (and_flow next rest)) ≡ true) → (b || captures_flow steps halves.left) ≡ true
                  → (b || captures_flow steps (and_flow next rest)) ≡ true
              by true first others is = refl
              by false first others is = others (halves.left_owns is)
          either (return_flow step) first others is = others (halves.left_owns is)
          either break_flow first others is = others (halves.left_owns is)
          either (do_flow body) first others is = others (halves.left_owns is)
          either (while_flow logic body) first others is = others (halves.left_owns is)
          either (repeat_flow body logic) first others is = others (halves.left_owns is)
          either (for_flow step numeric body) first others is = others (halves.left_owns is)
          either (if_flow logic body arms) first others is = others (halves.left_owns is)

  -- parts of a statement before the rest of the body
  half_behind : (s : FlowStatement) (rest : Flow) (before behind : Around) (ends from mid to bound : ℕ) → cut ≤ mid → mid ≤ to → to ≤ ends → flow_levels steps rest ≤ bound → FlowLies steps before behind ends rest mid to
      → (captures_flow steps rest ≡ true → captures_flow steps (and_flow s rest) ≡ true) → FoundIn before ends from mid bound → HalvesIn before behind ends from to bound (captures_flow steps (and_flow s rest)) ⊎ HardIn from to
  half_behind s rest before behind ends from mid to bound begins goes within levels lies others (inr hard) = inr (widened steps at small fits low cut is_cut from from mid to (omega arith) goes hard)
  half_behind s rest before behind ends from mid to bound begins goes within levels lies others (inl (inl flats)) =
      inl (record {
        left = flats.0.flow;
        right = join_flow flats.1.flow rest;
        between = before;
        after = behind;
        left_at = flats.0.lies ends;
        right_at = join_lies steps flats.1.flow rest before before behind ends cut mid to goes flats.1.calm (flats.1.lies ends) lies;
        left_low = flats.0.low;
        right_low = join_levels steps flats.1.flow rest bound flats.1.low levels;
        left_owns = λ is. absurd (false≢true (sym flats.0.none ∙ is));
        right_owns = λ is. others (joined (captures_flow steps rest) refl is);
        calm = inl flats.0.calm;
        ended = inl refl;
      })
    where
      joined : (b : Bool) → captures_flow steps rest ≡ b → captures_flow steps (join_flow flats.1.flow rest) ≡ true → captures_flow steps rest ≡ true
      joined true known is = known
      joined false known is = absurd (false≢true (sym (join_captures steps flats.1.flow rest flats.1.none known) ∙ is))
  half_behind s rest before behind ends from mid to bound begins goes within levels lies others (inl (inr ending)) =
      let is_end = ending.is_end in
      let same : mid ≡ to = omega (arith, is_end, goes, within) in
      inl (record {
        left = ending.left;
        right = ending.right;
        between = ending.between;
        after = ending.behind;
        left_at = ending.left_at;
        right_at = subst (λ n. FlowLies steps ending.between ending.behind ends ending.right cut n) same ending.right_at;
        left_low = ending.left_low;
        right_low = ending.right_low;
        left_owns = λ is. absurd (false≢true (sym ending.left_none ∙ is));
        right_owns = λ is. absurd (false≢true (sym ending.right_none ∙ is));
        calm = inl ending.left_calm;
        ended = inr (sym same ∙ is_end);
      })

  sound_statement : (s : FlowStatement) (before between : Around) (ends from mid : ℕ) → before.captured ≤ before.count → FlowStatementLies steps before between ends s from mid → between.captured ≤ between.count
  sound_statement s before between ends from mid sound one = by (statement_flat steps s before between ends from mid one)
    where
      by : ((between ≡ before) × ((other : ℕ) → FlowStatementLies steps before before other s from mid)) ⊎ ((mid ≡ suc from) × ((step : ℕ) × (s ≡ step_flow step) × (captured : Bool) × IsAt steps before from (StepKind.Declaration ends captured) × Declares from captured before between)) → between.captured ≤ between.count
      by (inl flat) = subst (λ (a : Around). a.captured ≤ a.count) (sym flat.0) sound
      by (inr (next, (step, is, captured, declaration, declares))) = sound_behind steps levelled at small fits low cut is_cut ends_in from captured before between sound declares

  -- what is flat, or a declaration
  abbrev Flatness : FlowStatement → (before between : Around) → (own from mid : ℕ) → Type 0
  Flatness s before between own from mid =
      ((between ≡ before) × ((other : ℕ) → FlowStatementLies steps before before other s from mid)) ⊎ ((mid ≡ suc from) × ((step : ℕ) × (s ≡ step_flow step) × (captured : Bool) × IsAt steps before from (StepKind.Declaration own captured) × Declares from captured before between))

  declared_block : (step : ℕ) (captured : Bool) (rest : Flow) (around between inside : Around) (end from to ends bound : ℕ) → low ≤ from → suc from ≤ cut → cut < to → to ≤ ends → ends ≤ at.locals_end → 1 ≤ bound
      → FlowStatementLies steps around between end (step_flow step) from (suc from) → IsAt steps around from (StepKind.Declaration end captured) → FlowLies steps between inside end rest (suc from) end → ClosesAt steps around (captures_flow steps (and_flow (step_flow step) rest)) end to
      → flow_statement_levels steps (step_flow step) ≤ bound → suc from ≤ end → (ClosesAt steps between (captures_flow steps rest) end to → FoundIn between ends (suc from) to (suc bound)) → FoundIn around ends from to (suc bound)
  declared_block step captured rest around between inside end from to ends bound begins before behind within ends_low some one declaration others closes levels stops rec =
      let own = own_local steps levelled at small fits low cut is_cut ends_in around (captures_flow steps (and_flow (step_flow step) rest)) captured from end to begins (omega (arith, before)) behind (omega (arith, within, ends_low)) declaration.1 closes owner owns in
      let is_end : to ≡ ends = omega (arith, own.0, own.1, within, ends_low) in
      let same_end : end ≡ ends = omega (arith, own.1, is_end) in
      let here = one.0 in
      let kind : is_captured_at (kind_at steps step) ≡ captured = ap (λ n. is_captured_at (kind_at steps n)) here ∙ ap is_captured_at declaration.1 in
      put_declared steps at small fits low cut is_cut around between ends from to (suc bound) step captured is_end own.3 before (omega (arith, some)) (omega (arith, levels))
      (subst (λ n. FlowStatementLies steps around between n (step_flow step) from (suc from)) same_end one) (kind ∙ own.3)
      (rec (subst (λ b. ClosesAt steps between b end to) (sym (rest_none (is_captured_at (kind_at steps step)) (captures_flow steps rest) own.2)) own.1))
    where
      owner : captures_flow steps (and_flow (step_flow step) rest) ≡ true → (later : ℕ) × (low ≤ later) × (later < end) × (kind_at steps later ≡ Some (StepKind.Declaration end true))
      owner is =
          let found = captured_in steps (and_flow (step_flow step) rest) around inside end from end (ends_well (step_flow step) rest refl, suc from, between, omega arith, stops, one, others) is in
          (found.0, omega (arith, found.1, begins), found.2, found.3)

      owns : captured ≡ true → captures_flow steps (and_flow (step_flow step) rest) ≡ true
      owns is =
          ap (λ n. is_captured_at (kind_at steps n) || captures_flow steps rest) one.0 ∙ ap (λ kind. is_captured_at kind || captures_flow steps rest) declaration.1 ∙ ap (λ b. b || captures_flow steps rest) is

  block_by : (s : FlowStatement) (rest : Flow) (around inside between : Around) (end from mid to ends bound : ℕ) → around.captured ≤ around.count → low ≤ from → from ≤ cut → cut < to → to ≤ ends → ends ≤ at.locals_end → to ≤ at.to → 1 ≤ bound
      → EndsWell s rest → from ≤ mid → mid ≤ end → FlowStatementLies steps around between end s from mid → FlowLies steps between inside end rest mid end → ClosesAt steps around (captures_flow steps (and_flow s rest)) end to → flow_levels steps (and_flow s rest) ≤ bound
      → ((new : Around) → new.captured ≤ new.count → mid ≤ cut → FlowLies steps new inside end rest mid end → ClosesAt steps new (captures_flow steps rest) end to → FoundIn new ends mid to (suc bound))
      → (from < cut → cut < mid → FoundIn around ends from mid (suc bound)) → FoundIn around ends from to (suc bound)
  block_by s rest around inside between end from mid to ends bound sound begins before behind within ends_low fits_in some well starts stops one others closes levels rec item =
      by (order cut mid) (order from cut) (statement_flat steps s around between end from mid one)
    where
      end_low : end ≤ to
      end_low = closes_low steps around (captures_flow steps (and_flow s rest)) end to closes

      whole : IsFlowBlock steps around (captures_flow steps (and_flow s rest)) (λ ends end. (inside : Around) × FlowLies steps around inside ends (and_flow s rest) from end) from to
      whole = block_of steps around (captures_flow steps (and_flow s rest)) (λ ends end. (inside : Around) × FlowLies steps around inside ends (and_flow s rest) from end) from end to (omega (arith, starts, stops)) (inside, (well, mid, between, starts, stops, one, others)) closes

      closes_rest : ((other : ℕ) → FlowStatementLies steps around around other s from mid) → ClosesAt steps around (captures_flow steps rest) end to
      closes_rest flat = subst (λ b. ClosesAt steps around b end to) (flat_rest steps s rest around end from mid (flat end)) closes

      by : (cut < mid) ⊎ (mid ≤ cut) → (from < cut) ⊎ (cut ≤ from) → Flatness s around between end from mid → FoundIn around ends from to (suc bound)
      by (inr past) place (inl flat) =
          put_front steps at small fits low cut is_cut around ends from mid to (suc bound) starts past (statement_flat_flow steps s around from mid bound starts flat.1 (omega (arith, levels)))
          (rec around sound past (subst (λ a. FlowLies steps a inside end rest mid end) flat.0 others) (closes_rest flat.1))
      by (inr past) place (inr (next, (step, is, captured, declaration, declares))) =
          declared_block step captured rest around between inside end from to ends bound begins (omega (arith, next, past)) behind within ends_low some
          (subst (λ n. FlowStatementLies steps around between end (step_flow step) from n) next (subst (λ x. FlowStatementLies steps around between end x from mid) is one)) declaration
          (subst (λ n. FlowLies steps between inside end rest n end) next others) (subst (λ x. ClosesAt steps around (captures_flow steps (and_flow x rest)) end to) is closes)
          (subst (λ x. flow_statement_levels steps x ≤ bound) is (omega (arith, levels))) (omega (arith, next, stops))
          (λ closes_new. subst (λ n. FoundIn between ends n to (suc bound)) next (rec between (sound_behind steps levelled at small fits low cut is_cut ends_in from captured around between sound declares) past others closes_new))
      by (inl ahead) (inl before_cut) (inl flat) =
          put_behind steps at small fits low cut is_cut around ends from mid to (suc bound) (omega (arith, ahead)) (omega (arith, stops, end_low)) within
          (do_flat steps rest around mid to bound (omega (arith, stops, end_low))
          (block_of steps around (captures_flow steps rest) (λ ends end. (inside : Around) × FlowLies steps around inside ends rest mid end) mid end to stops (inside, subst (λ a. FlowLies steps a inside end rest mid end) flat.0 others) (closes_rest flat.1))
          (omega (arith, levels)) some)
          (item before_cut ahead)
      by (inl ahead) (inl before_cut) (inr declared) = absurd (omega (arith, declared.0, before_cut, ahead))
      by (inl ahead) (inr here) flat =
          let same : from ≡ cut = omega (arith, here, before) in
          let all = do_flat steps (and_flow s rest) around from to bound (omega (arith, starts, stops, end_low)) whole levels some in
          inl (inl (subst (λ n. FlatFlow steps around from n (suc bound)) same (empty_flat steps around from (suc bound)), subst (λ n. FlatFlow steps around n to (suc bound)) same all))

  repeat_by : (body : Flow) (logic : Logic) (before between inside : Around) (own from start to ends bound : ℕ) → low ≤ from → from < cut → cut < to → to ≤ ends → ends ≤ at.locals_end → to ≤ at.to → 1 ≤ bound
      → FlowStatementLies steps before between own (repeat_flow body logic) from to → from ≤ start → captures_flow steps body ≡ false → start ≤ to → FlowLies steps (in_loop to before) inside to body from start → LogicLies steps logic false from start to → AreTold steps inside start to
      → flow_statement_levels steps (repeat_flow body logic) ≤ suc bound → Near steps at small fits low cut is_cut from to ⊎ HitsExit steps at small fits low cut is_cut from to
      → (cut < start → HalvesIn (in_loop to before) inside to from start bound (captures_flow steps body) ⊎ HardIn from start) → FoundIn before ends from to (suc bound)
  repeat_by body logic before between inside own from start to ends bound begins before_cut behind within ends_low fits_in some whole goes none stops lies tests told levels near rec = by near
    where
      hard_at : IsHard steps at small fits low cut is_cut (repeat_flow body logic) from to → FoundIn before ends from to (suc bound)
      hard_at hard = inr (record { statement = repeat_flow body logic; before = before; behind = between; ends = own; begin = from; end = to; lies = whole; hard = hard; least = omega arith; first = before_cut; last = behind; most = omega arith })

      by : Near steps at small fits low cut is_cut from to ⊎ HitsExit steps at small fits low cut is_cut from to → FoundIn before ends from to (suc bound)
      by (inr hit) = hard_at (inl hit)
      by (inl near) =
          open_repeat steps levelled at small fits low cut is_cut ends_in body logic before inside from start to ends bound begins before_cut behind within ends_low fits_in near goes stops none lies tests told (omega (arith, levels)) (omega (arith, levels)) some (λ is. hard_at (inr is)) rec

  if_by : (logic : Logic) (body : Flow) (rest : FlowArms) (before between : Around) (own from to ends bound : ℕ) → low ≤ from → from < cut → cut < to → to ≤ ends → 1 ≤ bound → between ≡ before
      → ArmLies steps before logic (captures_flow steps body) (λ from ends end. (inside : Around) × FlowLies steps before inside ends body from end) rest from to
      → flow_statement_levels steps (if_flow logic body rest) ≤ suc bound → Near steps at small fits low cut is_cut from to ⊎ HitsExit steps at small fits low cut is_cut from to
      → ((start stop : ℕ) → from ≤ start → start ≤ cut → cut < stop → stop ≤ to → IsFlowBlock steps before (captures_flow steps body) (λ ends end. (inside : Around) × FlowLies steps before inside ends body start end) start stop → FoundIn before ends start stop (suc bound))
      → FoundIn before ends from to (suc bound)
  if_by logic body rest before between own from to ends bound begins before_cut behind within some same lies levels (inl near) rec =
      in_arms rest logic body before from to ends bound begins before_cut behind within near lies (omega (arith, levels)) (omega (arith, levels)) (omega (arith, levels)) some rec
  if_by logic body rest before between own from to ends bound begins before_cut behind within some same lies levels (inr hit) rec =
      inr (record { statement = if_flow logic body rest; before = before; behind = between; ends = own; begin = from; end = to; lies = (same, lies); hard = hit; least = omega arith; first = before_cut; last = behind; most = omega arith })

  -- a statement around the cut has a block
  two_levels : (s : FlowStatement) (before between : Around) (own from to : ℕ) → before.captured ≤ before.count → low ≤ from → from < cut → cut < to → FlowStatementLies steps before between own s from to → 2 ≤ flow_statement_levels steps s
  two_levels (step_flow step) before between own from to sound begins before_cut behind lies = absurd (omega (arith, lies.1, before_cut, behind))
  two_levels (return_flow step) before between own from to sound begins before_cut behind (same, here, is, next) = absurd (omega (arith, next, before_cut, behind))
  two_levels break_flow before between own from to sound begins before_cut behind (same, lies) = absurd (break_uncut steps levelled at small fits low cut is_cut ends_in before.exit before from to sound begins before_cut behind lies)
  two_levels (do_flow body) before between own from to sound begins before_cut behind lies = omega arith
  two_levels (while_flow logic body) before between own from to sound begins before_cut behind lies = omega arith
  two_levels (repeat_flow body logic) before between own from to sound begins before_cut behind lies = omega arith
  two_levels (for_flow step numeric body) before between own from to sound begins before_cut behind lies = omega arith
  two_levels (if_flow logic body rest) before between own from to sound begins before_cut behind lies = omega arith

  half_by : (s : FlowStatement) (rest : Flow) (before between behind : Around) (ends from mid to bound : ℕ) → before.captured ≤ before.count → low ≤ from → from ≤ cut → cut ≤ to → to ≤ ends → ends ≤ at.locals_end → to ≤ at.to → 1 ≤ bound
      → EndsWell s rest → from ≤ mid → mid ≤ to → FlowStatementLies steps before between ends s from mid → FlowLies steps between behind ends rest mid to → flow_levels steps (and_flow s rest) ≤ bound
      → (mid ≤ cut → HalvesIn between behind ends mid to bound (captures_flow steps rest) ⊎ HardIn mid to)
      → ((less : ℕ) → from < cut → cut < mid → (bound ≡ suc less) × (1 ≤ less) → FoundIn before ends from mid (suc less)) → HalvesIn before behind ends from to bound (captures_flow steps (and_flow s rest)) ⊎ HardIn from to
  half_by s rest before between behind ends from mid to bound sound begins goes stops within ends_low fits_in some well starts ends_at one others levels rec item =
      by (order cut mid) (order from cut) (statement_flat steps s before between ends from mid one)
    where
      one_first : captures_flow steps (and_flow s no_flow) ≡ true → captures_flow steps (and_flow s rest) ≡ true
      one_first is = first_captures steps s rest is

      front : mid ≤ cut → HalvesIn between behind ends mid to bound (captures_flow steps rest) ⊎ HardIn mid to → HalvesIn before behind ends from to bound (captures_flow steps (and_flow s rest)) ⊎ HardIn from to
      front past (inl halves) = inl (half_front s rest before between behind ends from mid to bound well starts past one (omega (arith, levels)) others one_first (λ is. rest_captures steps s rest is) stops halves)
      front past (inr hard) = inr (widened steps at small fits low cut is_cut mid from to to starts (omega arith) hard)

      by : (cut < mid) ⊎ (mid ≤ cut) → (from < cut) ⊎ (cut ≤ from) → Flatness s before between ends from mid → HalvesIn before behind ends from to bound (captures_flow steps (and_flow s rest)) ⊎ HardIn from to
      by (inr past) place flat = front past (rec past)
      by (inl ahead) (inr here) flat =
          let same : cut ≡ from = omega (arith, here, goes) in
          inl (record {
            left = no_flow;
            right = and_flow s rest;
            between = before;
            after = behind;
            left_at = (refl, same);
            right_at = subst (λ n. FlowLies steps before behind ends (and_flow s rest) n to) (sym same) (well, mid, between, starts, ends_at, one, others);
            left_low = omega arith;
            right_low = levels;
            left_owns = λ is. absurd (false≢true is);
            right_owns = λ is. is;
            calm = inl tt;
            ended = inl refl;
          })
      by (inl ahead) (inl before_cut) (inr declared) = absurd (omega (arith, declared.0, before_cut, ahead))
      by (inl ahead) (inl before_cut) (inl flat) = at_bound bound refl (two_levels s before between ends from mid sound begins before_cut ahead one)
        where
          at_bound : (n : ℕ) → bound ≡ n → 2 ≤ flow_statement_levels steps s → HalvesIn before behind ends from to bound (captures_flow steps (and_flow s rest)) ⊎ HardIn from to
          at_bound zero is deep = absurd (omega (arith, is, some))
          at_bound (suc less) is deep =
              half_behind s rest before behind ends from mid to bound (omega (arith, ahead)) ends_at within (omega (arith, levels)) (subst (λ a. FlowLies steps a behind ends rest mid to) flat.0 others) (λ c. rest_captures steps s rest c)
              (subst (λ n. FoundIn before ends from mid n) (sym is) (item less before_cut ahead (is, omega (arith, deep, levels, is))))

  abbrev Sound : Around → Type 0
  Sound around = around.captured ≤ around.count

  mutual
    -- a block in place
    pub in_block : (b : Flow) (around inside : Around) (end from to ends bound : ℕ) → Sound around → low ≤ from → from ≤ cut → cut < to → to ≤ ends → ends ≤ at.locals_end → to ≤ at.to → 1 ≤ bound → FlowLies steps around inside end b from end
        → ClosesAt steps around (captures_flow steps b) end to → flow_levels steps b ≤ bound → FoundIn around ends from to (suc bound)
    in_block no_flow around inside end from to ends bound sound begins before behind within ends_low fits_in some (same, ended) closes levels = absurd (omega (arith, closes, ended, before, behind))
    in_block (and_flow s rest) around inside end from to ends bound sound begins before behind within ends_low fits_in some (well, mid, between, starts, stops, one, others) closes levels =
        block_by s rest around inside between end from mid to ends bound sound begins before behind within ends_low fits_in some well starts stops one others closes levels
        (λ new new_sound past lies new_closes. in_block rest new inside end mid to ends bound new_sound (omega (arith, begins, starts)) past behind within ends_low fits_in some lies new_closes (omega (arith, levels)))
        (λ before_cut ahead. in_statement s around between end from mid ends bound sound begins before_cut ahead (omega (arith, stops, within, closes_low steps around (captures_flow steps (and_flow s rest)) end to closes)) ends_low
        (omega (arith, stops, fits_in, closes_low steps around (captures_flow steps (and_flow s rest)) end to closes)) some one (omega (arith, levels)))

    -- a statement around the cut
    pub in_statement : (s : FlowStatement) (before between : Around) (own from to ends bound : ℕ) → Sound before → low ≤ from → from < cut → cut < to → to ≤ ends → ends ≤ at.locals_end → to ≤ at.to → 1 ≤ bound → FlowStatementLies steps before between own s from to
        → flow_statement_levels steps s ≤ suc bound → FoundIn before ends from to (suc bound)
    in_statement (step_flow step) before between own from to ends bound sound begins before_cut behind within ends_low fits_in some lies levels = absurd (omega (arith, lies.1, before_cut, behind))
    in_statement (return_flow step) before between own from to ends bound sound begins before_cut behind within ends_low fits_in some (same, here, is, next) levels = absurd (omega (arith, next, before_cut, behind))
    in_statement break_flow before between own from to ends bound sound begins before_cut behind within ends_low fits_in some (same, lies) levels = absurd (break_uncut steps levelled at small fits low cut is_cut ends_in before.exit before from to sound begins before_cut behind lies)
    in_statement (do_flow body) before between own from to ends bound sound begins before_cut behind within ends_low fits_in some (same, block) levels =
        let found = block_end steps before (captures_flow steps body) (λ ends end. (inside : Around) × FlowLies steps before inside ends body from end) from to block in
        in_block body before found.1.0 found.0 from to ends bound sound begins (omega (arith, before_cut)) behind within ends_low fits_in some found.1.1 found.2 (omega (arith, levels))
    in_statement (while_flow logic body) before between own from to ends bound sound begins before_cut behind within ends_low fits_in some (same, start, back, goes, stops, tests, told, block, jump, next) levels =
        absurd (back_uncut steps levelled at small fits low cut is_cut ends_in from back to begins before_cut behind next fits_in (omega (arith, goes, stops)) jump.1)
    in_statement (repeat_flow body logic) before between own from to ends bound sound begins before_cut behind within ends_low fits_in some (same, start, inside, goes, inl (none, stops, lies, tests, told)) levels =
        repeat_by body logic before between inside own from start to ends bound begins before_cut behind within ends_low fits_in some (same, start, inside, goes, inl (none, stops, lies, tests, told)) goes none stops lies tests told levels
        (near_or_hit steps at small fits low cut is_cut from to)
        (λ ahead. halved body (in_loop to before) inside to from start bound sound begins (omega (arith, before_cut)) (omega (arith, ahead)) stops (omega (arith, within, ends_low)) (omega (arith, stops, fits_in)) some lies (omega (arith, levels)))
    in_statement (repeat_flow body logic) before between own from to ends bound sound begins before_cut behind within ends_low fits_in some (same, start, inside, goes, inr (captured, tested, high, lies, tests, told, close, out, again, back, next)) levels =
        absurd (back_uncut steps levelled at small fits low cut is_cut ends_in from (tested + 3) to begins before_cut behind (omega (arith, next)) fits_in (omega (arith, goes, high)) back.1)
    in_statement (for_flow step numeric body) before between own from to ends bound sound begins before_cut behind within ends_low fits_in some (same, here, foot, variables_end, captured, hidden, inside, short, head, hides, declares, goes, block, variables, footed, next) levels =
        let held = told_before steps levelled at small fits low cut is_cut ends_in before from (StepKind.Head numeric foot to variables_end captured) head begins before_cut in absurd (omega (arith, held, next, behind))
    in_statement (if_flow logic body rest) before between own from to ends bound sound begins before_cut behind within ends_low fits_in some (same, lies) levels =
        if_by logic body rest before between own from to ends bound begins before_cut behind within some same lies levels (near_or_hit steps at small fits low cut is_cut from to)
        (λ start stop later past ahead stops block.
        let found = block_end steps before (captures_flow steps body) (λ ends end. (inside : Around) × FlowLies steps before inside ends body start end) start stop block in
        in_block body before found.1.0 found.0 start stop ends bound sound (omega (arith, begins, later)) past ahead (omega (arith, stops, within)) ends_low (omega (arith, stops, fits_in)) some found.1.1 found.2 (omega (arith, levels)))

    -- a body is cut in two
    pub halved : (b : Flow) (before behind : Around) (ends from to bound : ℕ) → Sound before → low ≤ from → from ≤ cut → cut ≤ to → to ≤ ends → ends ≤ at.locals_end → to ≤ at.to → 1 ≤ bound → FlowLies steps before behind ends b from to → flow_levels steps b ≤ bound
        → HalvesIn before behind ends from to bound (captures_flow steps b) ⊎ HardIn from to
    halved no_flow before behind ends from to bound sound begins goes stops within ends_low fits_in some (same, ended) levels =
        let here : from ≡ cut = omega (arith, goes, stops, ended) in
        inl (record {
          left = no_flow;
          right = no_flow;
          between = before;
          after = behind;
          left_at = (refl, sym here);
          right_at = (same, ended ∙ here);
          left_low = omega arith;
          right_low = omega arith;
          left_owns = λ is. is;
          right_owns = λ is. is;
          calm = inl tt;
          ended = inl refl;
        })
    halved (and_flow s rest) before behind ends from to bound sound begins goes stops within ends_low fits_in some (well, mid, between, starts, ends_at, one, others) levels =
        half_by s rest before between behind ends from mid to bound sound begins goes stops within ends_low fits_in some well starts ends_at one others levels
        (λ past. halved rest between behind ends mid to bound (sound_statement s before between ends from mid sound one) (omega (arith, begins, starts)) past stops within ends_low fits_in some others (omega (arith, levels)))
        (λ less before_cut ahead is. in_statement s before between ends from mid ends less sound begins before_cut ahead (omega (arith, ends_at, within)) ends_low (omega (arith, ends_at, fits_in)) (omega (arith, is.1)) one (omega (arith, levels, is.0)))
