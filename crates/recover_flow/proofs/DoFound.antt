-- A `do` that is a piece of a body is found: with its locals where it begins with some, and else as its first statement in place.
use Rattle.std.proofs.Common.{◌≡◌, ◌∙◌, ◌≤◌, ◌<◌, ◌+◌, ◌-◌, ◌^◌, ◌⊎◌, inl, inr, refl, sym, ap, subst, ℕ, zero, suc, max, Bool, true, false, List, ◌∷◌, ◌++◌, length, Some, arith}
use Rattle.std.specs.Prelude.{◌==◌, ◌&&◌, nat_le, option_map, option_and_then}
use Rattle.std.proofs.lemmas.Bool.{false≢true}
use Rattle.std.proofs.lemmas.Option.{same_Some}
use Rattle.recover_expr.specs.declared.steps.Step.{Step}
use Rattle.recover_expr.specs.declared.steps.StepKind.{StepKind}
use Rattle.recover_flow.specs.Asked.{any_between, closed_body, closes, closes_from, ends_captured, ends_there, goes_back, is_single, is_this, kind_at, number_before}
use Rattle.recover_flow.specs.Cutting.{locals_reach, pieces_from}
use Rattle.recover_flow.specs.Flow.{Around, CapturedBehind, Declares, Flow, FlowStatement, step_flow, do_flow, FlowLies, FlowStatementLies, IsAt, captures_flow, declares_active, flow_levels}
use Rattle.recover_flow.specs.Forms.{do_form, ends_scope, is_own, scope_end_of, scope_of_step}
use Rattle.recover_flow.specs.Lying.{AreOrdered, EndsBehind, is_captured_at}
use Rattle.recover_flow.specs.Plans.{Plans, do_plan, step_plan, body_levels, plan_levels, step_levels}
use Rattle.recover_flow.specs.Standing.{with_used}
use Rattle.recover_flow.specs.declared.cuts.Reach.{Reach}
use Rattle.recover_flow.specs.declared.regions.BodyAt.{BodyAt}
use Rattle.recover_flow.specs.declared.regions.Piece.{Piece}
use Rattle.recover_flow.proofs.BlocksFound.{IsCalm, Serves, not_captured, serves_part, whole_found}
use Rattle.recover_flow.proofs.BodiesFound.{IsPiece, LighterFound, PieceFound, lighter}
use Rattle.recover_flow.proofs.Boundaries.{IsFresh}
use Rattle.recover_flow.proofs.FirstStatement.{first_ends}
use Rattle.recover_flow.proofs.FlowInside.{ClosesAreNamed, ExitBehind, IsReady, behind_earlier, flow_in, ready_declared, statement_flow_in}
use Rattle.recover_flow.proofs.FlowParts.{ClosesAt, closes_low}
use Rattle.recover_flow.proofs.FlowPieces.{IsBody, first_cut, has_pieces, none_between}
use Rattle.recover_flow.proofs.FormsLie.{same_numbers}
use Rattle.recover_flow.proofs.PartsInside.{AllIn, In, Owned, back_is, kind_there, no_back_before, order, step_there}
use Rattle.recover_flow.proofs.CapturedOwn.{ending_kind, one_between}
use Rattle.recover_flow.proofs.StepsFound.{both_true, if_false, if_true, last_none, le_is, no_jump_back, same_is, step_found, straight_is}

module _ (steps : List Step) (small : length steps < 2 ^ 32) (named : ClosesAreNamed steps) (ordered : AreOrdered steps) (at : BodyAt) (others_found : LighterFound steps at) where
  -- a statement at the beginning of a piece goes on to its end
  pub first_within : (piece : Piece) (others : List Piece) (s : FlowStatement) (rest : Flow) (before between behind : Around) (ends mid first : ℕ) (reach : Reach) → IsBody steps at before.exit ends → at.from ≤ piece.from → IsReady first before → first ≤ piece.from
      → piece.from < mid → mid ≤ at.to → IsFresh piece.from reach → pieces_from steps at (at.to - piece.from) piece.from reach ≡ Some (piece ∷ others) → FlowStatementLies steps before between ends s piece.from mid
      → FlowLies steps between behind ends rest mid at.to → piece.to ≤ mid
  first_within piece others s rest before between behind ends mid first reach body later ready begins some within fresh pieces one lies =
      let head = statement_flow_in steps named s before between ends piece.from mid first ready begins (behind_earlier before.exit at.to mid within body.behind) one in
      let cut = first_cut steps named at s rest before between behind ends piece.from mid first body later ready begins within one lies reach fresh in
      let more = has_pieces steps named rest at between behind ends mid first (subst (λ e. IsBody steps at e ends) (sym head.exit) body) (omega (arith, later, some)) head.ready (omega (arith, begins, some)) within lies cut.1 cut.2 in
      first_ends cut.0 more.0 piece others piece.from mid some cut.3 (same_Some (cut.0 ++ more.0) (piece ∷ others) (sym (cut.4 more.0 more.1) ∙ pieces))

  -- ---- a `do` that begins with locals

  module _ (piece : Piece) (body : Flow) (before between : Around) (ends first bound : ℕ) (is : IsPiece steps at piece (do_flow body) before between ends first bound) (step : ℕ) (rest : Flow) (inner inside : Around) (end : ℕ) (captured : Bool) (captures : Bool)
      (first_at : FlowStatementLies steps before inner end (step_flow step) piece.from (suc piece.from)) (declaration : IsAt steps before piece.from (StepKind.Declaration end captured)) (declares : Declares piece.from captured before inner)
      (stops : suc piece.from ≤ end) (lies : FlowLies steps inner inside end rest (suc piece.from) end) (closes : ClosesAt steps before captures end piece.to) (own : captured ≡ true → captures ≡ true) (rest_own : captures_flow steps rest ≡ true → captures ≡ true)
      (owner : captures ≡ true → (place : ℕ) × (piece.from ≤ place) × (place < end) × (kind_at steps place ≡ Some (StepKind.Declaration end true))) (low : max (max 1 (step_levels steps piece.from)) (flow_levels steps rest) < bound) where
    end_low : end ≤ piece.to
    end_low = closes_low steps before captures end piece.to closes

    kind : declaration.0.step.kind ≡ StepKind.Declaration end captured
    kind = same_Some declaration.0.step.kind (StepKind.Declaration end captured) (sym (kind_there steps piece.from declaration.0.step declaration.0.there) ∙ declaration.1)

    ready : IsReady first inner
    ready = ready_declared piece.from captured before inner first is.ready is.begins declares

    exit_behind : ExitBehind inner.exit end
    exit_behind = let within = is.within in subst (λ e. ExitBehind e end) (sym declares.exit) (behind_earlier before.exit at.to end (omega (arith, end_low, within)) is.body.behind)

    inside_rest : AllIn steps (Owned end (captures_flow steps rest)) inner.exit first end (suc piece.from) end (suc piece.from) end
    inside_rest = let begins = is.begins in (flow_in steps named rest inner inside end (suc piece.from) end first ready (omega (arith, begins)) exit_behind lies).inside

    not_back : (last : ℕ) → last < piece.to → goes_back steps piece.from last ≡ true → ⊥
    not_back last below back = by (order piece.from last) (order last end) captures closes
      where
        by : (piece.from < last) ⊎ (last ≤ piece.from) → (last < end) ⊎ (end ≤ last) → (captures : Bool) → ClosesAt steps before captures end piece.to → ⊥
        by (inr here) two captures closes =
            let same : last ≡ piece.from = (let least = (back_is steps piece.from last back).0 in omega (arith, here, least)) in
            no_jump_back steps piece.from last (StepKind.Declaration end captured) (subst (λ n. kind_at steps n ≡ Some (StepKind.Declaration end captured)) (sym same) declaration.1) refl back
        by (inl past) (inl within) captures closes = no_back_before steps (Owned end (captures_flow steps rest)) inner.exit first end (suc piece.from) end (suc piece.from) end piece.from last inside_rest past within (omega arith) back
        by (inl past) (inr behind) false closes = absurd (omega (arith, behind, below, closes))
        by (inl past) (inr behind) true closes =
            let same : last ≡ end = omega (arith, behind, below, closes.0) in
            no_jump_back steps piece.from last (StepKind.Close before.count (declares_active before before.count)) (subst (λ n. kind_at steps n ≡ Some (StepKind.Close before.count (declares_active before before.count))) (sym same) closes.1.1) refl back

    -- a captured local that ends there is one of the block's own
    no_other : captures ≡ false → (n : ℕ) → piece.from ≤ n → n < length steps → ends_there end (kind_at steps n) ≡ true → ⊥
    no_other none n begin within there = by (order n end) (order piece.from n) (ending_kind end (kind_at steps n) there)
      where
        not_own : captured ≡ true → ⊥
        not_own c = absurd (false≢true (sym none ∙ own c))

        by : (n < end) ⊎ (end ≤ n) → (piece.from < n) ⊎ (n ≤ piece.from) → kind_at steps n ≡ Some (StepKind.Declaration end true) → ⊥
        by (inr past) two at_n = let far = subst (EndsBehind n) at_n (ordered n) in absurd (omega (arith, far, past))
        by (inl below) (inr here) at_n =
            let same : n ≡ piece.from = omega (arith, here, begin) in
            let one : StepKind.Declaration end captured ≡ StepKind.Declaration end true = same_Some (StepKind.Declaration end captured) (StepKind.Declaration end true) (sym declaration.1 ∙ subst (λ m. kind_at steps m ≡ Some (StepKind.Declaration end true)) same at_n) in
            not_own (ap (λ k. is_captured_at (Some k)) one)
        by (inl below) (inl past) at_n =
            let found = step_there steps n (StepKind.Declaration end true) at_n in
            known (subst (λ k. In steps (Owned end (captures_flow steps rest)) inner.exit first end (suc piece.from) end n found.0.base k) found.2 (inside_rest n found.0 past below found.1))
          where
            known : (locals_reach end true ≤ end) ⊎ Owned end (captures_flow steps rest) true end → ⊥
            known (inl reach) = let within_all = is.within in let fits = is.body.fits in absurd (omega (arith, reach, end_low, within_all, fits, small))
            known (inr owned) = absurd (false≢true (sym none ∙ rest_own (owned.1 refl)))

    scope_is : scope_end_of steps piece declaration.0.step (StepKind.Declaration end captured) ≡ Some end
    scope_is = if_true (nat_le end piece.to && ends_scope steps piece declaration.0.step end) _ _ (both_true (nat_le end piece.to) _ (le_is end piece.to end_low) (by captures refl closes))
      where
        by : (b : Bool) → captures ≡ b → ClosesAt steps before b end piece.to → ends_scope steps piece declaration.0.step end ≡ true
        by true some closes =
            let place = owner some in
            let within = is.within in
            let fits = is.body.fits in
            let seen : ends_captured steps end piece.from ≡ true =
            both_true (nat_le end (length steps)) _ (le_is end (length steps) (omega (arith, end_low, within, fits)))
            (one_between (λ place. ends_there end (kind_at steps place)) piece.from (length steps) place.0 place.1 (omega (arith, place.2, end_low, within, fits)) (ap (ends_there end) place.3 ∙ same_is end)) in
            let base = declaration.0.base in
            if_true (ends_captured steps end piece.from) _ _ seen
            ∙ both_true (is_this (number_before piece.to) end) _ (ap (λ n. is_this (number_before n) end) closes.0 ∙ same_is end)
            (ap (closes_from declaration.0.step.base) closes.1.1 ∙ ap (λ n. before.count == n) base ∙ same_is before.count)
        by false none closes =
            let seen : ends_captured steps end piece.from ≡ false = unseen (nat_le end (length steps)) (none_between (λ place. ends_there end (kind_at steps place)) piece.from (length steps) (no_other none)) in
            if_false (ends_captured steps end piece.from) _ _ seen ∙ (ap (λ n. n == end) closes ∙ same_is end)
          where
            unseen : (b : Bool) → any_between (λ place. ends_there end (kind_at steps place)) piece.from (length steps) ≡ false → (b && any_between (λ place. ends_there end (kind_at steps place)) piece.from (length steps)) ≡ false
            unseen true is = is
            unseen false is = refl

    -- no captured local is active where the loop around ends with the block
    calm_inside : IsCalm end (captures_flow steps rest) inner
    calm_inside e there near = by captures refl closes captured refl declares.highest
      where
        same : before.exit ≡ Some e
        same = sym declares.exit ∙ there

        far : at.to ≤ e.place
        far = subst (λ x. ExitBehind x at.to) same is.body.behind

        by : (b : Bool) → captures ≡ b → ClosesAt steps before b end piece.to → (c : Bool) → captured ≡ c → CapturedBehind c before inner → (inner.captured ≤ e.locals) × (captures_flow steps rest ≡ false)
        by true some closes c is_c highest = let within = is.within in absurd (omega (arith, near, far, within, closes.0))
        by false none closes true is_c highest = absurd (false≢true (sym none ∙ own is_c))
        by false none closes false is_c highest =
            let within = is.within in
            let low = is.quiet e same (omega (arith, near, far, within, closes)) in
            (omega (arith, low, highest), not_captured steps (captures_flow steps rest) captures rest_own none)

    scoped : (is_single piece && is_own at (StepKind.Declaration end captured)) ≡ false → PieceFound steps at bound piece
    scoped alone =
        let whole : BodyAt = closed_body (piece.from + 1) end at.exit in
        let later = is.later in
        let within = is.within in
        let some = is.some in
        let begins = is.begins in
        let fits = is.body.fits in
        let bounded = is.bounded in
        let next : suc piece.from ≡ piece.from + 1 = omega arith in
        let found = whole_found steps whole rest inner inside first small (others_found (with_used steps whole) (lighter steps (with_used steps whole) at (omega (arith, later, within, end_low, stops))))
        (subst (λ e. Serves steps at.exit e (piece.from + 1) end) (sym declares.exit) (serves_part steps at.exit before.exit at.from (piece.from + 1) at.to end (omega (arith, later)) (omega (arith, end_low, within)) is.serves)) exit_behind ready (omega (arith, begins)) (omega (arith, stops)) (omega arith)
        (omega (arith, end_low, within, fits)) (subst (λ n. FlowLies steps inner inside end rest n end) next lies) (λ c. refl) (omega (arith, low, bounded)) calm_inside in (
          do_plan piece.from found.0,
          (
            straight_is steps at piece declaration.0.step (StepKind.Declaration end captured) declaration.0.there kind alone (last_none steps piece.from piece.to not_back),
            (
              do_form at.exit piece declaration.0.step end,
              ap (option_and_then (scope_of_step steps at.exit piece)) declaration.0.there ∙ ap (option_map (do_form at.exit piece declaration.0.step)) (ap (scope_end_of steps piece declaration.0.step) kind ∙ scope_is),
              refl,
              inr found.1,
            ),
          ),
          do_low found.0 found.2,
        )
      where
        do_low : (plans : Plans) → body_levels steps plans ≤ flow_levels steps rest → max 1 (plan_levels steps (do_plan piece.from plans)) ≤ bound
        do_low plans inner_low = omega (arith, inner_low, low)

    -- or a declaration of the body's own, alone
    single_own : is_single piece ≡ true → (end == at.locals_end) ≡ true → PieceFound steps at bound piece
    single_own single owned =
        let to = to_single piece.to single in
        let is_end = same_numbers end at.locals_end owned in
        let found = step_found steps at piece before inner end step is_end (subst (λ n. FlowStatementLies steps before inner end (step_flow step) piece.from n) (sym to) first_at) (λ c. captured_alone c captures closes own to) in
        (step_plan piece.from, found.0, omega (arith, low))
      where
        to_single : (to : ℕ) → is_this (number_before to) piece.from ≡ true → to ≡ suc piece.from
        to_single zero single = absurd (false≢true single)
        to_single (suc n) single = let same = same_numbers n piece.from single in omega (arith, same)

        captured_alone : kind_at steps piece.from ≡ Some (StepKind.Declaration end true) → (captures : Bool) → ClosesAt steps before captures end piece.to → (captured ≡ true → captures ≡ true) → piece.to ≡ suc piece.from → at.may_capture ≡ true
        captured_alone c true closes own to = absurd (omega (arith, closes.0, to, stops))
        captured_alone c false closes own to =
            absurd (false≢true (own (ap (λ k. is_captured_at (Some k)) (same_Some (StepKind.Declaration end captured) (StepKind.Declaration end true) (sym declaration.1 ∙ c)))))

    pub declared_found : PieceFound steps at bound piece
    declared_found = by (is_single piece) refl (end == at.locals_end) refl
      where
        by : (single : Bool) → is_single piece ≡ single → (owned : Bool) → (end == at.locals_end) ≡ owned → PieceFound steps at bound piece
        by true single true owned = single_own single owned
        by true single false owned = scoped (ap (λ b. b && (end == at.locals_end)) single ∙ owned)
        by false single owned is_owned = scoped (ap (λ b. b && (end == at.locals_end)) single)
