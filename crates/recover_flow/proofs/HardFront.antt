-- The statement around the end of the first piece is unwrapped: the piece is one statement with the rest behind it, or the rest of the body is one `if`, or a `repeat` is around the end.
use Rattle.std.proofs.Common.{◌≡◌, ◌∙◌, ◌≤◌, ◌<◌, ◌-◌, ◌⊎◌, inl, inr, refl, sym, ap, subst, ℕ, suc, max, Bool, true, false, List, ◌∷◌, ◌++◌, Option, None, Some, arith}
use Rattle.std.specs.Prelude.{◌||◌, is_some, option_and_then}
use Rattle.std.proofs.lemmas.Bool.{false≢true}
use Rattle.std.proofs.lemmas.Option.{same_Some}
use Rattle.recover_expr.specs.declared.steps.Step.{Step}
use Rattle.recover_expr.specs.declared.steps.StepKind.{StepKind}
use Rattle.recover_flow.specs.Asked.{goes_back, kind_at, target_at, target_of}
use Rattle.recover_flow.specs.Cutting.{pieces_from}
use Rattle.recover_flow.specs.Flow.{AreTold, Around, ArmLies, Declares, EndsWell, Flow, no_flow, and_flow, FlowStatement, step_flow, return_flow, break_flow, do_flow, while_flow, repeat_flow, for_flow, if_flow, FlowArms, no_more, else_flow, elseif_flow, FlowLies, FlowStatementLies, IsAt, IsFlowBlock, captures_flow, flow_arms_levels, flow_levels, flow_statement_levels, is_break, logic_room}
use Rattle.recover_flow.specs.Logic.{AreLevelled, Logic, LogicLies, literal_logic}
use Rattle.recover_flow.specs.Lying.{Jumps, is_captured_at}
use Rattle.recover_flow.specs.declared.cuts.Reach.{Reach}
use Rattle.recover_flow.specs.declared.regions.BodyAt.{BodyAt}
use Rattle.recover_flow.specs.declared.regions.Exit.{Exit}
use Rattle.recover_flow.specs.declared.regions.Piece.{Piece}
use Rattle.recover_flow.proofs.Boundaries.{IsFresh}
use Rattle.recover_flow.proofs.CutFacts.{IsCut, LeavesAt, leaves_jumps}
use Rattle.recover_flow.proofs.FirstStatement.{FirstAt, first_ends, first_of, join_owns}
use Rattle.recover_flow.proofs.FlowInside.{ClosesAreNamed, IsReady, behind_earlier, flat_rest, or_right, owns_of, rest_captures, statement_flow_in}
use Rattle.recover_flow.proofs.FlowMoves.{calmed, calmed_calm, calmed_levels, calmed_lies, statement_flat}
use Rattle.recover_flow.proofs.FlowParts.{ClosesAt, HitsExit, Near, block_end, block_of, captured_in, closes_low, goes_before, near_or_hit, stays_near}
use Rattle.recover_flow.proofs.FlowPieces.{IsBody, first_cut, has_pieces}
use Rattle.recover_flow.proofs.FlowSplit.{back_uncut, break_uncut, if_block_flat, own_local, stays_logic, told_before}
use Rattle.recover_flow.proofs.HardParts.{StartsTested, hit_end, logic_begins, logic_past}
use Rattle.recover_flow.proofs.LogicCut.{Hits, cut_test, unlabelled}
use Rattle.recover_flow.proofs.LogicRest.{FlatFlow, ends_well, join_flow, join_levels, join_lies, lower_room, only_test, raise_flat, told_part}
use Rattle.recover_flow.proofs.PartsInside.{back_is, kind_there, no_back_before, order}

module _ (steps : List Step) (levelled : AreLevelled steps) (named : ClosesAreNamed steps) (at : BodyAt) (ends : ℕ) (piece : Piece) (others : List Piece) (before : Around) (from first bound : ℕ) (captures : Bool) (reach : Reach) (is_body : IsBody steps at before.exit ends) (begins : at.from ≤ from)
    (ready : IsReady first before) (low_first : first ≤ from) (goes : from < piece.to) (below : piece.to ≤ at.to) (fresh : IsFresh from reach) (pieces : pieces_from steps at (at.to - from) from reach ≡ Some (piece ∷ others)) (is_cut : IsCut steps at is_body.small is_body.fits from piece.to) (ends_in : at.to ≤ at.locals_end) where
  -- what lies behind a statement of the body that declares nothing
  pub record Tail (mid : ℕ) : Type 0 where
    pub rest : Flow
    pub behind : Around
    pub rest_at : FlowLies steps before behind ends rest mid at.to
    pub rest_low : flow_levels steps rest ≤ bound
    pub stops : mid ≤ at.to
    pub owns : captures_flow steps rest ≡ true → captures ≡ true

  -- an `if` up to the end, which is the exit
  pub record LastIf : Type 0 where
    pub logic : Logic
    pub body : Flow
    pub arms : FlowArms
    pub lies : ArmLies steps before logic (captures_flow steps body) (λ from ends end. (inside : Around) × FlowLies steps before inside ends body from end) arms from at.to
    pub low : flow_statement_levels steps (if_flow logic body arms) ≤ bound
    pub tested : StartsTested steps before from logic body arms at.to lies
    pub target : is_some (target_at steps from) ≡ true
    pub none_back : (last : ℕ) → last < at.to → goes_back steps from last ≡ true → ⊥
    pub exit : Exit
    pub exit_is : at.exit ≡ Some exit
    pub exit_place : exit.place ≡ at.to
    pub hit : Hits steps from piece.to at.to
    pub around : piece.to < at.to

  -- a `repeat` around the cut
  pub record FirstRepeat : Type 0 where
    pub body : Flow
    pub logic : Logic
    pub mid : ℕ
    pub lies : (other : ℕ) → FlowStatementLies steps before before other (repeat_flow body logic) from mid
    pub low : flow_statement_levels steps (repeat_flow body logic) ≤ bound
    pub tail : Tail mid
    pub around : piece.to < mid

  abbrev pub Unwrapped : Type 0
  Unwrapped = FirstAt steps before ends from piece.to at.to bound captures ⊎ (LastIf ⊎ FirstRepeat)

  -- ---- the end of a statement is a cut

  pub first_within : (s : FlowStatement) (rest : Flow) (between behind : Around) (mid : ℕ) → from < mid → mid ≤ at.to → FlowStatementLies steps before between ends s from mid → FlowLies steps between behind ends rest mid at.to → piece.to ≤ mid
  first_within s rest between behind mid some stops one others_at =
      let head = statement_flow_in steps named s before between ends from mid first ready low_first (behind_earlier before.exit at.to mid stops is_body.behind) one in
      let cut = first_cut steps named at s rest before between behind ends from mid first is_body begins ready low_first stops one others_at reach fresh in
      let more = has_pieces steps named rest at between behind ends mid first (subst (λ e. IsBody steps at e ends) (sym head.exit) is_body) (omega (arith, begins, some)) head.ready (omega (arith, low_first, some)) stops others_at cut.1 cut.2 in
      first_ends cut.0 more.0 piece others from mid some cut.3 (same_list (cut.0 ++ more.0) (piece ∷ others) (sym (cut.4 more.0 more.1) ∙ pieces))
    where
      same_list : (a b : List Piece) → Some a ≡ Some b → a ≡ b
      same_list a b same = ap value same
        where
          value : Option (List Piece) → List Piece
          value None = a
          value (Some xs) = xs

  -- a statement that ends at the cut
  first_is : (s : FlowStatement) (rest : Flow) (between behind : Around) (mid : ℕ) → piece.to ≡ mid → EndsWell s rest → FlowStatementLies steps before between ends s from mid → FlowLies steps between behind ends rest mid at.to → flow_statement_levels steps s ≤ bound → flow_levels steps rest ≤ bound
      → (captures_flow steps (and_flow s rest) ≡ true → captures ≡ true) → Unwrapped
  first_is s rest between behind mid same well one rest_at s_low rest_low owns =
      inl (record {
        statement = s;
        rest = rest;
        between = between;
        behind = behind;
        well = well;
        statement_at = subst (λ n. FlowStatementLies steps before between ends s from n) (sym same) one;
        rest_at = subst (λ n. FlowLies steps between behind ends rest n at.to) (sym same) rest_at;
        statement_low = s_low;
        rest_low = rest_low;
        owns = owns;
      })

  -- flat statements up to the cut, and from there on
  pub flats_first : (mid : ℕ) → FlatFlow steps before from piece.to bound → FlatFlow steps before piece.to mid bound → Tail mid → FirstAt steps before ends from piece.to at.to bound captures
  flats_first mid one two tail =
      first_of steps levelled named at ends piece others one.flow (join_flow two.flow tail.rest) before before tail.behind from first bound captures reach is_body begins ready low_first goes below fresh pieces (one.lies ends)
      (join_lies steps two.flow tail.rest before before tail.behind ends piece.to mid at.to tail.stops two.calm (two.lies ends) tail.rest_at) (inl one.calm) one.low (join_levels steps two.flow tail.rest bound two.low tail.rest_low)
      (λ is. absurd (false≢true (sym one.none ∙ is))) (join_owns steps two.flow tail.rest captures (λ is. absurd (false≢true (sym two.none ∙ is))) tail.owns)

  from_flats : (mid : ℕ) → piece.to ≤ mid → FlatFlow steps before from piece.to bound → FlatFlow steps before piece.to mid bound → Tail mid → Unwrapped
  from_flats mid past one two tail = inl (flats_first mid one two tail)

  -- a statement that declares nothing, with what lies behind it
  with_front : (s : FlowStatement) (mid to : ℕ) → mid ≤ to → ((other : ℕ) → FlowStatementLies steps before before other s mid to) → flow_statement_levels steps s ≤ bound → (captures_flow steps (and_flow s no_flow) ≡ false) → is_break s ≡ false → Tail to → Tail mid
  with_front s mid to rises lies s_low none calm tail =
      let stops = tail.stops in
      let tail_low = tail.rest_low in
      record {
        rest = and_flow s tail.rest;
        behind = tail.behind;
        rest_at = (ends_well s tail.rest calm, to, before, rises, stops, lies ends, tail.rest_at);
        rest_low = omega (arith, s_low, tail_low);
        stops = omega (arith, rises, stops);
        owns = λ is. tail.owns (sym (flat_rest steps s tail.rest before 0 mid to (lies 0)) ∙ is);
      }

  -- ---- an `if`

  abbrev IfLies : (logic : Logic) (body : Flow) (rest : FlowArms) (begin to : ℕ) → Type 0
  IfLies logic body rest begin to = ArmLies steps before logic (captures_flow steps body) (λ from ends end. (inside : Around) × FlowLies steps before inside ends body from end) rest begin to

  abbrev BlockLies : (body : Flow) (start last : ℕ) → Type 0
  BlockLies body start last = IsFlowBlock steps before (captures_flow steps body) (λ ends end. (inside : Around) × FlowLies steps before inside ends body start end) start last

  abbrev NearTo : (to : ℕ) → Type 0
  NearTo to = Near steps at is_body.small is_body.fits from piece.to is_cut from to

  abbrev HitsTo : (to : ℕ) → Type 0
  HitsTo to = HitsExit steps at is_body.small is_body.fits from piece.to is_cut from to

  last_if : (logic : Logic) (body : Flow) (rest : FlowArms) (mid : ℕ) (lies : IfLies logic body rest from mid) → StartsTested steps before from logic body rest mid lies → mid ≤ at.to → piece.to < mid → HitsTo mid → flow_statement_levels steps (if_flow logic body rest) ≤ bound → is_some (target_at steps from) ≡ true
      → ((last : ℕ) → last < mid → goes_back steps from last ≡ true → ⊥) → Unwrapped
  last_if logic body rest mid lies tested stops ahead hit levels target none =
      let ended = hit_end steps at before.exit ends from piece.to from mid is_body is_cut stops hit in
      let moved = subst (λ n. (lies : IfLies logic body rest from n) × StartsTested steps before from logic body rest n lies) ended.0 (lies, tested) in
      inr (inl (record {
        logic = logic;
        body = body;
        arms = rest;
        lies = moved.0;
        low = levels;
        tested = moved.1;
        target = target;
        none_back = λ last under. none last (omega (arith, under, ended.0));
        exit = hit.exit;
        exit_is = hit.is;
        exit_place = ended.1;
        hit = record { place = hit.place; least = hit.least; most = hit.most; there = ap (option_and_then target_of) hit.jump ∙ ap Some ended.1 };
        around = omega (arith, ended.0, ahead);
      }))

  back_target : (last : ℕ) → goes_back steps from last ≡ true → (from ≤ last) × (target_at steps last ≡ Some from)
  back_target last back =
      let found = back_is steps from last back in
      (found.0, ap (λ kind. option_and_then target_of kind) (kind_there steps last found.1.0 found.1.1) ∙ found.1.2)

  none_in : (s : FlowStatement) (start mid : ℕ) → from < start → mid ≤ at.to → ((other : ℕ) → FlowStatementLies steps before before other s start mid) → (last : ℕ) → start ≤ last → last < mid → goes_back steps from last ≡ true → ⊥
  none_in s start mid past stops lies last least most back =
      let found = statement_flow_in steps named s before before ends start mid first ready (omega (arith, low_first, past)) (behind_earlier before.exit at.to mid stops is_body.behind) (lies ends) in
      no_back_before steps (owns_of steps ends s) before.exit first mid start mid start mid from last found.inside least most past back

  none_tests : (logic : Logic) (goal start : ℕ) → LogicLies steps logic false goal from start → from < goal → (last : ℕ) → last < start → goes_back steps from last ≡ true → ⊥
  none_tests logic goal start lies past last most back =
      let target = back_target last back in
      absurd (omega (arith, logic_past steps logic false goal from start from last from lies past (omega arith) target.0 most target.1))

  -- one that begins with its condition
  if_tested : (logic : Logic) (body : Flow) (rest : FlowArms) (goal start mid : ℕ) (lies : IfLies logic body rest from mid) → StartsTested steps before from logic body rest mid lies → from < start → start ≤ mid → start ≤ goal → goal ≤ mid → LogicLies steps logic false goal from start → AreTold steps before from start
      → ((other : ℕ) → FlowStatementLies steps before before other (if_flow (literal_logic true) body rest) start mid) → flow_statement_levels steps (if_flow logic body rest) ≤ bound → Tail mid → piece.to < mid → (NearTo mid → piece.to < goal) → (piece.to < start → NearTo mid → Unwrapped) → Unwrapped
  if_tested logic body rest goal start mid lies tested some goes_on ahead goal_low tests told again levels tail further past inside = by (near_or_hit steps at is_body.small is_body.fits from piece.to is_cut from mid)
    where
      stops : mid ≤ at.to
      stops = tail.stops

      none : (last : ℕ) → last < mid → goes_back steps from last ≡ true → ⊥
      none last under back = at_last (order last start)
        where
          at_last : (last < start) ⊎ (start ≤ last) → ⊥
          at_last (inl within) = none_tests logic goal start tests (omega (arith, some, ahead)) last within back
          at_last (inr behind) = none_in (if_flow (literal_logic true) body rest) start mid some stops again last behind under back

      only : LogicLies steps logic false start from start → (other : ℕ) → FlowStatementLies steps before before other (if_flow logic no_flow no_more) from start
      only tests other = (refl, (start, omega (arith, some), omega arith, tests, told, (before, (refl, refl))))

      by : NearTo mid ⊎ HitsTo mid → Unwrapped
      by (inr hit) = last_if logic body rest mid lies tested stops further hit levels (logic_begins steps logic false goal from start tests some) none
      by (inl near) = at_cut (order piece.to start)
        where
          at_cut : (piece.to < start) ⊎ (start ≤ piece.to) → Unwrapped
          at_cut (inl within) = inside within near
          at_cut (inr behind) =
              let stays = stays_logic steps levelled at is_body.small is_body.fits from piece.to is_cut ends_in logic false goal from start mid from (omega arith) near (omega arith) tests goal_low goes_on start (omega arith) behind in
              let alone = only (unlabelled steps logic false goal from start piece.to (past near) stays tests start) in
              let next = with_front (if_flow (literal_logic true) body rest) start mid goes_on again (omega (arith, levels)) refl refl tail in
              let seam = first_within (if_flow logic no_flow no_more) next.rest before next.behind start some next.stops (alone ends) next.rest_at in
              first_is (if_flow logic no_flow no_more) next.rest before next.behind start (omega (arith, seam, behind)) (ends_well (if_flow logic no_flow no_more) next.rest refl) (alone ends) next.rest_at (omega (arith, levels)) next.rest_low next.owns

  -- of one arm
  if_single : (logic : Logic) (body : Flow) (mid : ℕ) → IfLies logic body no_more from mid → flow_statement_levels steps (if_flow logic body no_more) ≤ bound → Tail mid → piece.to < mid → (BlockLies body from mid → Unwrapped) → Unwrapped
  if_single logic body mid (start, goes_to, stops, tests, told, block) levels tail ahead rec = by (order from start)
    where
      less : ℕ
      less = max (max 1 (logic_room steps logic)) (flow_levels steps body)

      inside : piece.to < start → NearTo mid → Unwrapped
      inside within near =
          let stays = stays_logic steps levelled at is_body.small is_body.fits from piece.to is_cut ends_in logic false mid from start mid from (omega arith) near (omega arith) tests (omega arith) stops piece.to (omega (arith, within)) (omega arith) in
          let r = cut_test steps levelled false logic false mid from start piece.to (omega (arith, goes)) within ahead stays tests in
          let a = lower_room steps r.first logic r.first_low in
          let b = lower_room steps r.rest logic r.rest_low in
          from_flats mid (omega (arith, ahead))
          (raise_flat steps before from piece.to (suc less) bound (omega (arith, levels))
          (only_test steps r.first before from piece.to less (omega (arith, goes)) r.first_at
          (told_part steps before from from start piece.to (omega arith) (omega (arith, within)) told) (omega (arith, a)) (omega arith)))
          (raise_flat steps before piece.to mid (suc less) bound (omega (arith, levels))
          (if_block_flat steps r.rest body before piece.to start mid less (omega (arith, within)) stops r.rest_at (told_part steps before from piece.to start start (omega (arith, goes)) (omega arith) told) block
          (omega (arith, b)) (omega arith) (omega arith))) tail

      by : (from < start) ⊎ (start ≤ from) → Unwrapped
      by (inl some) =
          if_tested logic body no_more mid start mid (start, goes_to, stops, tests, told, block) some some stops stops (omega arith) tests told (λ other. (refl, (start, omega arith, stops, refl, (λ place least most. absurd (omega (arith, least, most))), block))) levels tail ahead (λ near. ahead) inside
      by (inr none) = let same : start ≡ from = omega (arith, none, goes_to) in rec (subst (λ n. BlockLies body n mid) same block)

  -- of more arms
  if_arms : (logic : Logic) (body : Flow) (rest : FlowArms) (start last mid : ℕ) (lies : IfLies logic body rest from mid) → ((from < start) ⊎ (last ≡ from) → StartsTested steps before from logic body rest mid lies) → from ≤ start → start ≤ last → suc last ≤ mid → LogicLies steps logic false (suc last) from start → AreTold steps before from start
      → BlockLies body start last → Jumps steps last mid → (others : FlowStatement) → ((other : ℕ) → FlowStatementLies steps before before other others (suc last) mid)
      → ((logic : Logic) (body : Flow) (from start : ℕ) → from ≤ start → start ≤ last → LogicLies steps logic false (suc last) from start → AreTold steps before from start → BlockLies body start last → (other : ℕ) → FlowStatementLies steps before before other (if_flow logic body rest) from mid)
      → flow_statement_levels steps (if_flow logic body rest) ≤ bound → Tail mid → piece.to < mid → (BlockLies body from last → Tail last → piece.to < last → Unwrapped) → Unwrapped
  if_arms logic body rest start last mid lies tested goes_to stops stays_in tests told block jump behind behind_lies make levels tail ahead rec = by (order from start) (order from last)
    where
      less : ℕ
      less = max (max (max 1 (logic_room steps logic)) (flow_levels steps body)) (flow_arms_levels steps rest)

      within_at : mid ≤ at.to
      within_at = tail.stops

      not_past : NearTo mid → piece.to < suc last
      not_past near = at_last (order last piece.to)
        where
          at_last : (last < piece.to) ⊎ (piece.to ≤ last) → piece.to < suc last
          at_last (inl crossed) =
              let known = stays_near steps at is_body.small is_body.fits from piece.to is_cut from mid (omega arith) near last mid (omega (arith, goes_to, stops)) crossed (omega arith) (ap (λ found. option_and_then target_of found) jump) in
              absurd (omega (arith, known, ahead))
          at_last (inr here) = omega (arith, here)

      inside : piece.to < start → NearTo mid → Unwrapped
      inside within near =
          let stays = stays_logic steps levelled at is_body.small is_body.fits from piece.to is_cut ends_in logic false (suc last) from start mid from (omega arith) near (omega arith) tests stays_in (omega (arith, stops, stays_in)) piece.to (omega (arith, within)) (omega arith) in
          let r = cut_test steps levelled false logic false (suc last) from start piece.to (omega (arith, goes)) within (omega (arith, within, stops)) stays tests in
          let a = lower_room steps r.first logic r.first_low in
          let b = lower_room steps r.rest logic r.rest_low in
          let again = make r.rest body piece.to start (omega (arith, within)) stops r.rest_at (told_part steps before from piece.to start start (omega (arith, goes)) (omega arith) told) block in
          from_flats mid (omega (arith, ahead))
          (raise_flat steps before from piece.to (suc less) bound (omega (arith, levels))
          (only_test steps r.first before from piece.to less (omega (arith, goes)) r.first_at
          (told_part steps before from from start piece.to (omega arith) (omega (arith, within)) told) (omega (arith, a)) (omega arith)))
          (record { flow = and_flow (if_flow r.rest body rest) no_flow; lies = λ other. (tt, mid, before, omega (arith, ahead), omega arith, again other, (refl, refl)); low = omega (arith, b, levels); none = refl; calm = (refl, tt) }) tail

      by : (from < start) ⊎ (start ≤ from) → (from < last) ⊎ (last ≤ from) → Unwrapped
      by (inl some) place =
          if_tested logic body rest (suc last) start mid lies (tested (inl some)) some (omega (arith, stops, stays_in)) (omega (arith, stops)) stays_in tests told
          (make (literal_logic true) body start start (omega arith) stops refl (λ place least most. absurd (omega (arith, least, most))) block) levels tail ahead not_past inside
      by (inr none) (inl some) =
          let same : start ≡ from = omega (arith, none, goes_to) in
          let here : BlockLies body from last = subst (λ n. BlockLies body n last) same block in
          let next = with_front (if_flow (literal_logic true) no_flow rest) last mid (omega (arith, stays_in)) (make (literal_logic true) no_flow last last (omega arith) (omega arith) refl (λ place least most. absurd (omega (arith, least, most))) (before, (refl, refl))) (omega (arith, levels)) refl refl tail in
          let seam = first_within (do_flow body) next.rest before next.behind last some next.stops (refl, here) next.rest_at in
          at_cut here next seam (order piece.to last)
        where
          at_cut : BlockLies body from last → Tail last → piece.to ≤ last → (piece.to < last) ⊎ (last ≤ piece.to) → Unwrapped
          at_cut here next seam (inl within) = rec here next within
          at_cut here next seam (inr ended) = first_is (do_flow body) next.rest before next.behind last (omega (arith, seam, ended)) (ends_well (do_flow body) next.rest refl) (refl, here) next.rest_at (omega (arith, levels)) next.rest_low next.owns
      by (inr none) (inr empty) =
          let same : last ≡ from = omega (arith, empty, goes_to, stops) in
          let here : Jumps steps from mid = subst (λ n. Jumps steps n mid) same jump in
          last_if logic body rest mid lies (tested (inr same)) within_at ahead (hits here (goes_before steps at is_body.small is_body.fits from piece.to is_cut from mid (omega arith) goes (ap (λ found. option_and_then target_of found) here))) levels
          (ap (λ found. is_some (option_and_then target_of found)) here) (none_back same here)
        where
          hits : Jumps steps from mid → (mid ≤ piece.to) ⊎ LeavesAt steps at is_body.small is_body.fits from mid → HitsTo mid
          hits here (inl stays) = absurd (omega (arith, stays, ahead))
          hits here (inr (exit, is, place, out)) = record { exit = exit; is = is; near = omega (arith, place); place = from; least = omega arith; most = goes; jump = leaves_jumps steps at is_body.small is_body.fits from exit out }

          none_back : last ≡ from → Jumps steps from mid → (place : ℕ) → place < mid → goes_back steps from place ≡ true → ⊥
          none_back same here place under back = at_place (order from place)
            where
              at_place : (from < place) ⊎ (place ≤ from) → ⊥
              at_place (inl later) = none_in behind (suc last) mid (omega (arith, same)) within_at behind_lies place (omega (arith, same, later)) under back
              at_place (inr earlier) =
                  let target = back_target place back in
                  let one : place ≡ from = omega (arith, earlier, target.0) in
                  let two : Some mid ≡ Some from = sym (ap (λ found. option_and_then target_of found) here) ∙ subst (λ n. target_at steps n ≡ Some from) one target.1 in
                  let three : mid ≡ from = same_Some mid from two in
                  omega (arith, three, under, earlier, one)

  -- ---- every statement

  -- statements before the rest of a block
  block_by : (s : FlowStatement) (b : Flow) (inside between : Around) (end m mid : ℕ) → EndsWell s b → from ≤ m → m ≤ end → FlowStatementLies steps before between end s from m → FlowLies steps between inside end b m end → ClosesAt steps before (captures_flow steps (and_flow s b)) end mid
      → suc (max 1 (flow_levels steps (and_flow s b))) ≤ bound → Tail mid → piece.to < mid → (FlowLies steps before inside end b from end → ClosesAt steps before (captures_flow steps b) end mid → Unwrapped)
      → (((other : ℕ) → FlowStatementLies steps before before other s from m) → Tail m → piece.to < m → Unwrapped) → Unwrapped
  block_by s b inside between end m mid well starts stops one others_at closes levels tail ahead empty unwrap_first = by (order from m) (statement_flat steps s before between end from m one)
    where
      end_low : end ≤ mid
      end_low = closes_low steps before (captures_flow steps (and_flow s b)) end mid closes

      mid_low : mid ≤ at.to
      mid_low = tail.stops

      flat_closes : ((other : ℕ) → FlowStatementLies steps before before other s from m) → ClosesAt steps before (captures_flow steps b) end mid
      flat_closes flat = subst (λ c. ClosesAt steps before c end mid) (flat_rest steps s b before end from m (flat end)) closes

      by : (from < m) ⊎ (m ≤ from) → ((between ≡ before) × ((other : ℕ) → FlowStatementLies steps before before other s from m))
          ⊎ ((m ≡ suc from) × ((step : ℕ) × (s ≡ step_flow step) × (captured : Bool) × IsAt steps before from (StepKind.Declaration end captured) × Declares from captured before between)) → Unwrapped
      by (inr none) (inr declared) = absurd (omega (arith, declared.0, none))
      by (inr none) (inl flat) =
          let same : m ≡ from = omega (arith, none, starts) in
          empty (subst (λ n. FlowLies steps before inside end b n end) same (subst (λ a. FlowLies steps a inside end b m end) flat.0 others_at)) (flat_closes flat.1)
      by (inl some) (inl flat) =
          let block = block_of steps before (captures_flow steps b) (λ ends end. (inside : Around) × FlowLies steps before inside ends b m end) m end mid stops (inside, subst (λ a. FlowLies steps a inside end b m end) flat.0 others_at) (flat_closes flat.1) in
          let next = with_front (do_flow b) m mid (omega (arith, stops, end_low)) (λ other. (refl, block)) (omega (arith, levels)) refl refl tail in
          let seam = first_within s next.rest before next.behind m some next.stops (flat.1 ends) next.rest_at in
          at_cut next seam (order piece.to m)
        where
          at_cut : Tail m → piece.to ≤ m → (piece.to < m) ⊎ (m ≤ piece.to) → Unwrapped
          at_cut next seam (inl within) = unwrap_first flat.1 next within
          at_cut next seam (inr ended) =
              let deep = calmed_levels steps s in
              let calm = calmed_lies steps s before before ends from m starts (flat.1 ends) in
              first_is (calmed steps s) next.rest before next.behind m (omega (arith, seam, ended)) (ends_well (calmed steps s) next.rest (calmed_calm steps s)) calm next.rest_at (omega (arith, deep, levels)) next.rest_low
              (λ is. next.owns (sym (flat_rest steps (calmed steps s) next.rest before ends from m calm) ∙ is))
      by (inl some) (inr (next, (step, is_step, captured, declaration, declares))) =
          let here : step ≡ from = (subst (λ x. FlowStatementLies steps before between end x from m) is_step one).0 in
          let kind : is_captured_at (kind_at steps step) ≡ captured = ap (λ n. is_captured_at (kind_at steps n)) here ∙ ap is_captured_at declaration.1 in
          let whole : captures_flow steps (and_flow s b) ≡ (captured || captures_flow steps b) = ap (λ x. captures_flow steps (and_flow x b)) is_step ∙ ap (λ c. c || captures_flow steps b) kind in
          let own = own_local steps levelled at is_body.small is_body.fits from piece.to is_cut ends_in before (captures_flow steps (and_flow s b)) captured from end mid (omega arith) goes ahead (omega (arith, mid_low, ends_in)) declaration.1 closes
          (λ c. captured_in steps (and_flow s b) before inside end from end (well, m, between, starts, stops, one, others_at) c) (λ c. whole ∙ ap (λ x. x || captures_flow steps b) c) in
          let none : captures_flow steps b ≡ false = not_right (captures_flow steps (and_flow s b)) (captures_flow steps b) (λ c. whole ∙ or_right captured (captures_flow steps b) c) own.2 in
          let owned = is_body.owned in
          let all : mid ≡ at.to = omega (arith, own.0, own.1, mid_low, ends_in) in
          let block = block_of steps between (captures_flow steps b) (λ ends end. (inside : Around) × FlowLies steps between inside ends b m end) m end mid stops (inside, others_at) (subst (λ c. ClosesAt steps between c end mid) (sym none) own.1) in
          let mine = subst (λ n. FlowStatementLies steps before between n s from m) (own.0 ∙ sym owned) one in
          let rest_at : FlowLies steps between between ends (and_flow (do_flow b) no_flow) m at.to = (tt, mid, between, omega (arith, stops, end_low), mid_low, (refl, block), (refl, sym all)) in
          let seam = first_within s (and_flow (do_flow b) no_flow) between between m some (omega (arith, stops, end_low, mid_low)) mine rest_at in
          first_is s (and_flow (do_flow b) no_flow) between between m (omega (arith, seam, next, goes)) (ends_well s (and_flow (do_flow b) no_flow) (ap is_break is_step)) mine rest_at (omega (arith, levels)) (omega (arith, levels))
          (λ is. absurd (false≢true (sym (ap (λ x. captures_flow steps (and_flow x (and_flow (do_flow b) no_flow))) is_step ∙ ap (λ c. c || false) (kind ∙ own.3)) ∙ is)))
        where
          not_right : (a b : Bool) → (b ≡ true → a ≡ true) → a ≡ false → b ≡ false
          not_right a true more is = absurd (false≢true (sym is ∙ more refl))
          not_right a false more is = refl

  mutual
    -- a statement around the cut
    pub unwrap : (s : FlowStatement) (mid : ℕ) → ((other : ℕ) → FlowStatementLies steps before before other s from mid) → flow_statement_levels steps s ≤ bound → Tail mid → piece.to < mid → Unwrapped
    unwrap (step_flow step) mid lies levels tail ahead = absurd (omega (arith, (lies 0).1, goes, ahead))
    unwrap (return_flow step) mid lies levels tail ahead = absurd (omega (arith, (lies 0).3, goes, ahead))
    unwrap break_flow mid lies levels tail ahead = absurd (break_uncut steps levelled at is_body.small is_body.fits from piece.to is_cut ends_in before.exit before from mid ready.captured (omega arith) goes ahead (lies 0).1)
    unwrap (do_flow inner) mid lies levels tail ahead =
        let found = block_end steps before (captures_flow steps inner) (λ ends end. (inside : Around) × FlowLies steps before inside ends inner from end) from mid (lies 0).1 in
        unwrap_block inner found.1.0 found.0 mid found.1.1 found.2 levels tail ahead
    unwrap (while_flow logic inner) mid lies levels tail ahead = by (lies 0)
      where
        by : FlowStatementLies steps before before 0 (while_flow logic inner) from mid → Unwrapped
        by (same, start, back, to_start, stops, tests, told, block, jump, next) =
            let within = tail.stops in absurd (back_uncut steps levelled at is_body.small is_body.fits from piece.to is_cut ends_in from back mid (omega arith) goes ahead next within (omega (arith, to_start, stops)) jump.1)
    unwrap (repeat_flow inner logic) mid lies levels tail ahead = inr (inr (record { body = inner; logic = logic; mid = mid; lies = lies; low = levels; tail = tail; around = ahead }))
    unwrap (for_flow step numeric inner) mid lies levels tail ahead = by (lies 0)
      where
        by : FlowStatementLies steps before before 0 (for_flow step numeric inner) from mid → Unwrapped
        by (same, here, foot, variables_end, captured, hidden, inside, short, head, hides, declares, to_end, block, variables, footed, next) =
            let held = told_before steps levelled at is_body.small is_body.fits from piece.to is_cut ends_in before from (StepKind.Head numeric foot mid variables_end captured) head (omega arith) goes in absurd (omega (arith, held, next, ahead))
    unwrap (if_flow logic inner no_more) mid lies levels tail ahead =
        if_single logic inner mid (lies 0).1 levels tail ahead
        (λ block.
        let found = block_end steps before (captures_flow steps inner) (λ ends end. (inside : Around) × FlowLies steps before inside ends inner from end) from mid block in
        unwrap_block inner found.1.0 found.0 mid found.1.1 found.2 (omega (arith, levels)) tail ahead)
    unwrap (if_flow logic inner (else_flow other)) mid lies levels tail ahead =
        by (lies 0).1
        (λ last block next past.
        let found = block_end steps before (captures_flow steps inner) (λ ends end. (inside : Around) × FlowLies steps before inside ends inner from end) from last block in
        unwrap_block inner found.1.0 found.0 last found.1.1 found.2 (omega (arith, levels)) next past)
      where
        by : IfLies logic inner (else_flow other) from mid → ((last : ℕ) → BlockLies inner from last → Tail last → piece.to < last → Unwrapped) → Unwrapped
        by (start, last, to_start, stops, stays_in, tests, told, block, jump, after) rec =
            if_arms logic inner (else_flow other) start last mid (start, last, to_start, stops, stays_in, tests, told, block, jump, after) (λ tested. tested) to_start stops stays_in tests told block jump.1 (do_flow other) (λ ends. (refl, after))
            (λ logic inner from start to_start stops tests told block ends. (refl, (start, last, to_start, stops, stays_in, tests, told, block, jump, after))) levels tail ahead (rec last)
    unwrap (if_flow logic inner (elseif_flow next other rest)) mid lies levels tail ahead =
        by (lies 0).1
        (λ last block next past.
        let found = block_end steps before (captures_flow steps inner) (λ ends end. (inside : Around) × FlowLies steps before inside ends inner from end) from last block in
        unwrap_block inner found.1.0 found.0 last found.1.1 found.2 (omega (arith, levels)) next past)
      where
        by : IfLies logic inner (elseif_flow next other rest) from mid → ((last : ℕ) → BlockLies inner from last → Tail last → piece.to < last → Unwrapped) → Unwrapped
        by (start, last, to_start, stops, stays_in, tests, told, block, jump, after) rec =
            if_arms logic inner (elseif_flow next other rest) start last mid (start, last, to_start, stops, stays_in, tests, told, block, jump, after) (λ tested. tested) to_start stops stays_in tests told block jump.1 (if_flow next other rest) (λ ends. (refl, after))
            (λ logic inner from start to_start stops tests told block ends. (refl, (start, last, to_start, stops, stays_in, tests, told, block, jump, after))) levels tail ahead (rec last)

    -- a block around it, in place
    unwrap_block : (b : Flow) (inside : Around) (end mid : ℕ) → FlowLies steps before inside end b from end → ClosesAt steps before (captures_flow steps b) end mid → suc (max 1 (flow_levels steps b)) ≤ bound → Tail mid → piece.to < mid → Unwrapped
    unwrap_block no_flow inside end mid (same, ended) closes levels tail ahead = absurd (omega (arith, closes, ended, goes, ahead))
    unwrap_block (and_flow s b) inside end mid (well, m, between, starts, stops, one, others_at) closes levels tail ahead =
        block_by s b inside between end m mid well starts stops one others_at closes levels tail ahead
        (λ lies closes. unwrap_block b inside end mid lies closes (omega (arith, levels)) tail ahead)
        (λ flat next past. unwrap s m flat (omega (arith, levels)) next past)

  -- statements up to the end of the body
  pub unwrapped : (flow : Flow) (behind : Around) → FlowLies steps before behind ends flow from at.to → flow_levels steps flow ≤ bound → (captures_flow steps flow ≡ true → captures ≡ true) → Unwrapped
  unwrapped no_flow behind lies levels owns = absurd (omega (arith, lies.1, goes, below))
  unwrapped (and_flow s rest) behind (well, mid, between, starts, stops, one, others_at) levels owns =
      by (order from mid) (statement_flat steps s before between ends from mid one) (λ lies. unwrapped rest behind lies (omega (arith, levels)) (λ is. owns (rest_captures steps s rest is)))
    where
      by : (from < mid) ⊎ (mid ≤ from) → ((between ≡ before) × ((other : ℕ) → FlowStatementLies steps before before other s from mid))
          ⊎ ((mid ≡ suc from) × ((step : ℕ) × (s ≡ step_flow step) × (captured : Bool) × IsAt steps before from (StepKind.Declaration ends captured) × Declares from captured before between)) → (FlowLies steps before behind ends rest from at.to → Unwrapped) → Unwrapped
      by (inr none) (inr declared) rec = absurd (omega (arith, declared.0, none))
      by (inr none) (inl flat) rec =
          let same : mid ≡ from = omega (arith, none, starts) in
          rec (subst (λ n. FlowLies steps before behind ends rest n at.to) same (subst (λ a. FlowLies steps a behind ends rest mid at.to) flat.0 others_at))
      by (inl some) flat rec = at_cut (first_within s rest between behind mid some stops one others_at) (order piece.to mid) flat
        where
          at_cut : piece.to ≤ mid → (piece.to < mid) ⊎ (mid ≤ piece.to) → ((between ≡ before) × ((other : ℕ) → FlowStatementLies steps before before other s from mid))
              ⊎ ((mid ≡ suc from) × ((step : ℕ) × (s ≡ step_flow step) × (captured : Bool) × IsAt steps before from (StepKind.Declaration ends captured) × Declares from captured before between)) → Unwrapped
          at_cut seam (inr ended) flat = first_is s rest between behind mid (omega (arith, seam, ended)) well one others_at (omega (arith, levels)) (omega (arith, levels)) owns
          at_cut seam (inl within) (inr declared) = absurd (omega (arith, declared.0, within, goes))
          at_cut seam (inl within) (inl flat) =
              unwrap s mid flat.1 (omega (arith, levels))
              (record { rest = rest; behind = behind; rest_at = subst (λ a. FlowLies steps a behind ends rest mid at.to) flat.0 others_at; rest_low = omega (arith, levels); stops = stops; owns = λ is. owns (rest_captures steps s rest is) }) within
