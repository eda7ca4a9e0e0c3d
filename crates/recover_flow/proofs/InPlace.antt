-- A statement at the beginning of a piece stands in the place of a block that it fills.
use Rattle.std.proofs.Common.{◌≡◌, ◌∙◌, ◌≤◌, ◌<◌, ◌^◌, ◌⊎◌, inl, inr, refl, sym, ap, subst, ℕ, suc, Bool, true, false, List, length, arith}
use Rattle.std.specs.Prelude.{◌||◌}
use Rattle.recover_expr.specs.declared.steps.Step.{Step}
use Rattle.recover_expr.specs.declared.steps.StepKind.{StepKind}
use Rattle.recover_flow.specs.Asked.{kind_at}
use Rattle.recover_flow.specs.Flow.{Around, BreakLies, Declares, Flow, and_flow, FlowStatement, step_flow, return_flow, break_flow, do_flow, while_flow, repeat_flow, for_flow, if_flow, FlowLies, FlowStatementLies, IsAt, IsFlowBlock, captures_flow, flow_levels, flow_statement_levels, is_break}
use Rattle.recover_flow.specs.Forms.{is_enclosed}
use Rattle.recover_flow.specs.Logic.{AreLevelled, LogicIsFound}
use Rattle.recover_flow.specs.Lying.{AreOrdered, is_captured_at}
use Rattle.recover_flow.specs.Plans.{end_plan, step_levels}
use Rattle.recover_flow.specs.declared.plan.End.{End}
use Rattle.recover_flow.specs.declared.regions.BodyAt.{BodyAt}
use Rattle.recover_flow.specs.declared.regions.Piece.{Piece}
use Rattle.recover_flow.proofs.BodiesFound.{IsPiece, LighterFound, PieceFound}
use Rattle.recover_flow.proofs.DoFound.{declared_found, first_within}
use Rattle.recover_flow.proofs.FlowInside.{ClosesAreNamed, behind_earlier, flat_rest, or_right}
use Rattle.recover_flow.proofs.FlowMoves.{statement_flat}
use Rattle.recover_flow.proofs.FlowParts.{ClosesAt, block_of, captured_in, closes_low}
use Rattle.recover_flow.proofs.LogicRest.{ends_well}
use Rattle.recover_flow.proofs.PiecesFound.{break_piece, break_uses}
use Rattle.recover_flow.proofs.StepsFound.{ending_low}

module _ (steps : List Step) (levelled : AreLevelled steps) (small : length steps < 2 ^ 32) (logic_found : LogicIsFound) (named : ClosesAreNamed steps) (ordered : AreOrdered steps) (at : BodyAt) (others_found : LighterFound steps at) where
  -- the first statement of a block in the place of the `do` around it
  pub in_place : (piece : Piece) (whole : FlowStatement) (s : FlowStatement) (before between : Around) (ends first bound : ℕ) → (is : IsPiece steps at piece whole before between ends first bound) → (captures_flow steps is.rest ≡ true → at.may_capture ≡ true) → between ≡ before → ((other : ℕ) → FlowStatementLies steps before before other s piece.from piece.to) → flow_statement_levels steps s < bound
      → ((is_break s ≡ false) → IsPiece steps at piece s before before ends first bound → PieceFound steps at bound piece) → PieceFound steps at bound piece
  in_place piece whole s before between ends first bound is may same lies low rec = by s lies low rec
    where
      last_break : (lies : BreakLies steps before before.exit piece.from piece.to) → 1 < bound → PieceFound steps at bound piece
      last_break lies low =
          let more = ending_low steps at piece End.Break 1 in
          let within = is.within in (
            end_plan End.Break (is_enclosed at piece),
            break_piece steps levelled small logic_found named at others_found before.exit piece before (break_uses steps levelled small logic_found named at others_found before.exit piece before is.body.used is.later within lies) (behind_earlier before.exit at.to piece.to within is.body.behind) lies,
            omega (arith, more, low),
          )

      piece_of : (s : FlowStatement) → is_break s ≡ false → ((other : ℕ) → FlowStatementLies steps before before other s piece.from piece.to) → flow_statement_levels steps s < bound → IsPiece steps at piece s before before ends first bound
      piece_of s calm lies low =
          record {
            body = is.body;
            serves = is.serves;
            ready = is.ready;
            begins = is.begins;
            later = is.later;
            some = is.some;
            within = is.within;
            ends_in = is.ends_in;
            quiet = is.quiet;
            lies = lies ends;
            low = omega (arith, low);
            bounded = is.bounded;
            rest = is.rest;
            behind = is.behind;
            well = ends_well s is.rest calm;
            rest_lies = subst (λ a. FlowLies steps a is.behind ends is.rest piece.to at.to) same is.rest_lies;
            may = λ c. may (sym (flat_rest steps s is.rest before ends piece.from piece.to (lies ends)) ∙ c);
            others = is.others;
            reach = is.reach;
            fresh = is.fresh;
            pieces = is.pieces;
          }

      by : (s : FlowStatement) → ((other : ℕ) → FlowStatementLies steps before before other s piece.from piece.to) → flow_statement_levels steps s < bound → ((is_break s ≡ false) → IsPiece steps at piece s before before ends first bound → PieceFound steps at bound piece) → PieceFound steps at bound piece
      by break_flow lies low rec = last_break (lies 0).1 (omega (arith, low))
      by (step_flow step) lies low rec = rec refl (piece_of (step_flow step) refl lies low)
      by (return_flow step) lies low rec = rec refl (piece_of (return_flow step) refl lies low)
      by (do_flow body) lies low rec = rec refl (piece_of (do_flow body) refl lies low)
      by (while_flow logic body) lies low rec = rec refl (piece_of (while_flow logic body) refl lies low)
      by (repeat_flow body logic) lies low rec = rec refl (piece_of (repeat_flow body logic) refl lies low)
      by (for_flow step numeric body) lies low rec = rec refl (piece_of (for_flow step numeric body) refl lies low)
      by (if_flow logic body rest) lies low rec = rec refl (piece_of (if_flow logic body rest) refl lies low)

  -- a block whose first statement has steps
  do_first : (piece : Piece) (body : Flow) (s : FlowStatement) (rest : Flow) (before between inner inside : Around) (ends first bound mid end : ℕ) → IsPiece steps at piece (do_flow body) before between ends first bound → between ≡ before → piece.from < mid → mid ≤ end
      → FlowStatementLies steps before inner end s piece.from mid → FlowLies steps inner inside end rest mid end → ClosesAt steps before (captures_flow steps (and_flow s rest)) end piece.to → flow_levels steps (and_flow s rest) < bound
      → ((is_break s ≡ false) → IsPiece steps at piece s before before ends first bound → PieceFound steps at bound piece) → PieceFound steps at bound piece
  do_first piece body s rest before between inner inside ends first bound mid end is same some stops one lies closes low rec = by (statement_flat steps s before inner end piece.from mid one)
    where
      within : piece.to ≤ at.to
      within = is.within

      end_low : end ≤ piece.to
      end_low = closes_low steps before (captures_flow steps (and_flow s rest)) end piece.to closes

      by : ((inner ≡ before) × ((other : ℕ) → FlowStatementLies steps before before other s piece.from mid))
          ⊎ ((mid ≡ suc piece.from) × ((step : ℕ) × (s ≡ step_flow step) × (captured : Bool) × IsAt steps before piece.from (StepKind.Declaration end captured) × Declares piece.from captured before inner)) → PieceFound steps at bound piece
      by (inl flat) =
          let rest_block : IsFlowBlock steps before (captures_flow steps rest) (λ ends end. (inside : Around) × FlowLies steps before inside ends rest mid end) mid piece.to =
          block_of steps before (captures_flow steps rest) (λ ends end. (inside : Around) × FlowLies steps before inside ends rest mid end) mid end piece.to stops (inside, subst (λ a. FlowLies steps a inside end rest mid end) flat.0 lies)
          (subst (λ b. ClosesAt steps before b end piece.to) (flat_rest steps s rest before end piece.from mid (flat.1 end)) closes) in
          let past = first_within steps small named ordered at others_found piece is.others s (and_flow (do_flow rest) is.rest) before before is.behind ends mid first is.reach is.body is.later is.ready is.begins some (omega (arith, stops, end_low, within)) is.fresh is.pieces (flat.1 ends)
          (ends_well (do_flow rest) is.rest refl, piece.to, before, omega (arith, stops, end_low), within, (refl, rest_block), subst (λ a. FlowLies steps a is.behind ends is.rest piece.to at.to) same is.rest_lies) in
          let here : mid ≡ piece.to = omega (arith, past, stops, end_low) in
          in_place piece (do_flow body) s before between ends first bound is is.may same (λ other. subst (λ n. FlowStatementLies steps before before other s piece.from n) here (flat.1 other)) (omega (arith, low)) rec
      by (inr (next, (step, is_step, captured, declaration, declares))) =
          let first_at = subst (λ n. FlowStatementLies steps before inner end (step_flow step) piece.from n) next (subst (λ x. FlowStatementLies steps before inner end x piece.from mid) is_step one) in
          let here : step_levels steps step ≡ step_levels steps piece.from = ap (step_levels steps) first_at.0 in
          let levels = subst (λ x. flow_levels steps (and_flow x rest) < bound) is_step low in
          let lies_next = subst (λ n. FlowLies steps inner inside end rest n end) next lies in
          let stops_next : suc piece.from ≤ end = omega (arith, next, stops) in
          let kind : is_captured_at (kind_at steps step) ≡ captured = ap (λ n. is_captured_at (kind_at steps n)) first_at.0 ∙ ap is_captured_at declaration.1 in
          declared_found steps small named ordered at others_found piece body before between ends first bound is step rest inner inside end captured (captures_flow steps (and_flow (step_flow step) rest)) first_at declaration declares stops_next lies_next
          (subst (λ x. ClosesAt steps before (captures_flow steps (and_flow x rest)) end piece.to) is_step closes) (λ c. ap (λ b. b || captures_flow steps rest) (kind ∙ c)) (λ c. or_right (is_captured_at (kind_at steps step)) (captures_flow steps rest) c)
          (λ c. captured_in steps (and_flow (step_flow step) rest) before inside end piece.from end (ends_well (step_flow step) rest refl, suc piece.from, inner, omega arith, stops_next, first_at, lies_next) c) (omega (arith, levels, here))

  -- and one whose first statement has none
  pub do_by : (s : FlowStatement) (rest : Flow) (piece : Piece) (body : Flow) (before between inside inner : Around) (ends first bound end mid : ℕ) → IsPiece steps at piece (do_flow body) before between ends first bound → between ≡ before → piece.from ≤ mid → mid ≤ end
      → FlowStatementLies steps before inner end s piece.from mid → FlowLies steps inner inside end rest mid end → ClosesAt steps before (captures_flow steps (and_flow s rest)) end piece.to → flow_levels steps (and_flow s rest) < bound → (piece.from < mid) ⊎ (mid ≤ piece.from)
      → ((is_break s ≡ false) → IsPiece steps at piece s before before ends first bound → PieceFound steps at bound piece) → (FlowLies steps before inside end rest piece.from end → ClosesAt steps before (captures_flow steps rest) end piece.to → PieceFound steps at bound piece) → PieceFound steps at bound piece
  do_by s rest piece body before between inside inner ends first bound end mid is same starts stops one others closes low (inl some) rec empty = do_first piece body s rest before between inner inside ends first bound mid end is same some stops one others closes low rec
  do_by s rest piece body before between inside inner ends first bound end mid is same starts stops one others closes low (inr none) rec empty = by (statement_flat steps s before inner end piece.from mid one)
    where
      here : mid ≡ piece.from
      here = omega (arith, none, starts)

      by : ((inner ≡ before) × ((other : ℕ) → FlowStatementLies steps before before other s piece.from mid))
          ⊎ ((mid ≡ suc piece.from) × ((step : ℕ) × (s ≡ step_flow step) × (captured : Bool) × IsAt steps before piece.from (StepKind.Declaration end captured) × Declares piece.from captured before inner)) → PieceFound steps at bound piece
      by (inl flat) =
          empty (subst (λ n. FlowLies steps before inside end rest n end) here (subst (λ a. FlowLies steps a inside end rest mid end) flat.0 others)) (subst (λ b. ClosesAt steps before b end piece.to) (flat_rest steps s rest before end piece.from mid (flat.1 end)) closes)
      by (inr declared) = absurd (omega (arith, declared.0, here))
