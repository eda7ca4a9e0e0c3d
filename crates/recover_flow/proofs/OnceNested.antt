-- The block of a `do`, or of an `if` without tests, at the beginning of a loop that runs once: what follows a statement of it, in a statement of its own.
use Rattle.std.proofs.Common.{◌≡◌, ◌∙◌, ◌≤◌, ◌<◌, ◌⊎◌, inl, inr, refl, sym, subst, ℕ, suc, Bool, true, false, List, Some, arith}
use Rattle.recover_expr.specs.declared.steps.Step.{Step}
use Rattle.recover_expr.specs.declared.steps.StepKind.{StepKind}
use Rattle.recover_flow.specs.Asked.{goes_back, kind_at}
use Rattle.recover_flow.specs.Flow.{AreTold, Around, ArmLies, Declares, Flow, and_flow, FlowStatement, step_flow, do_flow, if_flow, repeat_flow, FlowArms, no_more, else_flow, elseif_flow, FlowLies, FlowStatementLies, IsAt, IsFlowBlock, captures_flow, declares_active, in_loop, is_break}
use Rattle.recover_flow.specs.Logic.{AreLevelled, Logic, LogicLies, literal_logic}
use Rattle.recover_flow.specs.declared.regions.BodyAt.{BodyAt}
use Rattle.recover_flow.specs.declared.regions.Piece.{Piece}
use Rattle.recover_flow.proofs.BodiesFound.{IsPiece, PieceFound}
use Rattle.recover_flow.proofs.FlowInside.{ClosesAreNamed, ExitBehind, IsReady, flat_rest, ready_declared}
use Rattle.recover_flow.proofs.FlowMoves.{statement_flat}
use Rattle.recover_flow.proofs.FlowParts.{ClosesAt, block_end, block_of, captured_in, closes_low}
use Rattle.recover_flow.proofs.LogicRest.{ends_well}
use Rattle.recover_flow.proofs.OnceOpened.{jump_opens, locals_open, ready, rest_not_back}
use Rattle.recover_flow.proofs.OnceTangled.{flow_not_back, statement_not_back}
use Rattle.recover_flow.proofs.OnceWithin.{IsTangled}
use Rattle.recover_flow.proofs.PartsInside.{order}
use Rattle.recover_flow.proofs.StepsFound.{jump_ahead, no_jump_back}

-- a statement that declares nothing
pub record Wrapped (steps : List Step) (around : Around) (from to : ℕ) : Type 0 where
  pub statement : FlowStatement
  pub lies : (other : ℕ) → FlowStatementLies steps around around other statement from to
  pub calm : is_break statement ≡ false
  pub none : (rest : Flow) → captures_flow steps (and_flow statement rest) ≡ captures_flow steps rest

module _ (steps : List Step) (levelled : AreLevelled steps) (named : ClosesAreNamed steps) (at : BodyAt) (piece : Piece) (body : Flow) (logic : Logic) (before between : Around) (ends first bound : ℕ) (is : IsPiece steps at piece (repeat_flow body logic) before between ends first bound) (inside : Around) (start : ℕ) (goes : start ≤ piece.to)
    (tests : (target : ℕ) → LogicLies steps logic false target start piece.to) (told : AreTold steps inside start piece.to) (tangled : IsTangled steps at piece before) where
  abbrev pub around : Around
  around = in_loop piece.to before

  is_ready : IsReady piece.from around
  is_ready = ready steps levelled named at piece body logic before between ends first bound is inside start goes tests told tangled

  -- a block at the beginning
  pub record Block (captures : Bool) (flow : Flow) (mid : ℕ) : Type 0 where
    pub end : ℕ
    pub inner : Around
    pub lies : FlowLies steps around inner end flow piece.from end
    pub within : end ≤ mid
    pub wrap : (rest : Flow) (place : ℕ) → place ≤ end → FlowLies steps around inner end rest place end → captures_flow steps rest ≡ captures → Wrapped steps around place mid
    pub after : (last : ℕ) → end ≤ last → last < mid → goes_back steps piece.from last ≡ true → ⊥
    pub empty : end ≡ piece.from → PieceFound steps at bound piece

  -- its CLOSE goes nowhere
  close_not_back : (captures : Bool) (end to last : ℕ) → ClosesAt steps around captures end to → end ≤ last → last < to → goes_back steps piece.from last ≡ true → ⊥
  close_not_back false end to last closes low high back = absurd (omega (arith, closes, low, high))
  close_not_back true end to last closes low high back =
      let same : last ≡ end = omega (arith, low, high, closes.0) in
      no_jump_back steps piece.from last (StepKind.Close around.count (declares_active around around.count)) (subst (λ n. kind_at steps n ≡ Some (StepKind.Close around.count (declares_active around around.count))) (sym same) closes.1.1) refl back

  -- where it is empty nothing is closed
  empty_end : (captures : Bool) (flow : Flow) (inner : Around) (end to : ℕ) → captures_flow steps flow ≡ captures → ClosesAt steps around captures end to → FlowLies steps around inner end flow piece.from end → end ≡ piece.from → to ≡ piece.from
  empty_end false flow inner end to none closes lies here = omega (arith, closes, here)
  empty_end true flow inner end to some closes lies here = let found = captured_in steps flow around inner end piece.from end lies some in absurd (omega (arith, found.1, found.2, here))

  pub do_block : (flow : Flow) (mid : ℕ) → piece.from < mid → IsFlowBlock steps around (captures_flow steps flow) (λ ends end. (inside : Around) × FlowLies steps around inside ends flow piece.from end) piece.from mid → Block (captures_flow steps flow) flow mid
  do_block flow mid some block =
      let found = block_end steps around (captures_flow steps flow) (λ ends end. (inside : Around) × FlowLies steps around inside ends flow piece.from end) piece.from mid block in
      let closes = found.2 in
      record {
        end = found.0;
        inner = found.1.0;
        lies = found.1.1;
        within = closes_low steps around (captures_flow steps flow) found.0 mid closes;
        wrap = λ rest place low lies same. record {
          statement = do_flow rest;
          lies = λ other. (refl, block_of steps around (captures_flow steps rest) (λ ends end. (inside : Around) × FlowLies steps around inside ends rest place end) place found.0 mid low (found.1.0, lies) (subst (λ b. ClosesAt steps around b found.0 mid) (sym same) closes));
          calm = refl;
          none = λ more. refl;
        };
        after = λ last low high back. close_not_back (captures_flow steps flow) found.0 mid last closes low high back;
        empty = λ here. (let ended = empty_end (captures_flow steps flow) flow found.1.0 found.0 mid refl closes found.1.1 here in absurd (omega (arith, ended, some)));
      }

  -- of an arm with others behind it
  arm_block : (flow : Flow) (arms : FlowArms) (rest : Flow) (last mid : ℕ) → piece.from ≤ last → suc last ≤ mid → mid ≤ start → IsFlowBlock steps around (captures_flow steps flow) (λ ends end. (inside : Around) × FlowLies steps around inside ends flow piece.from end) piece.from last → IsAt steps around last (StepKind.Jump mid)
      → (others : Wrapped steps around (suc last) mid)
      → ((more : Flow) (place : ℕ) → place ≤ last → IsFlowBlock steps around (captures_flow steps more) (λ ends end. (inside : Around) × FlowLies steps around inside ends more place end) place last
      → ArmLies steps around (literal_logic true) (captures_flow steps more) (λ from ends end. (inside : Around) × FlowLies steps around inside ends more from end) arms place mid)
      → FlowLies steps around inside piece.to rest mid start → captures_flow steps rest ≡ false → Block (captures_flow steps flow) flow mid
  arm_block flow arms rest last mid low ends_at stops block jump others build rest_lies rest_none =
      let found = block_end steps around (captures_flow steps flow) (λ ends end. (inside : Around) × FlowLies steps around inside ends flow piece.from end) piece.from last block in
      let closes = found.2 in
      let below = closes_low steps around (captures_flow steps flow) found.0 last closes in
      record {
        end = found.0;
        inner = found.1.0;
        lies = found.1.1;
        within = omega (arith, below, ends_at);
        wrap = λ more place low lies same. record {
          statement = if_flow (literal_logic true) more arms;
          lies = λ other. (refl, build more place (omega (arith, low, below)) (block_of steps around (captures_flow steps more) (λ ends end. (inside : Around) × FlowLies steps around inside ends more place end) place found.0 last low (found.1.0, lies) (subst (λ b. ClosesAt steps around b found.0 last) (sym same) closes)));
          calm = refl;
          none = λ more. refl;
        };
        after = λ place low high back. after place low high back closes (order place last);
        empty = λ here. (let ended = empty_end (captures_flow steps flow) flow found.1.0 found.0 last refl closes found.1.1 here in opens ended);
      }
    where
      others_not_back : (place : ℕ) → suc last ≤ place → place < mid → goes_back steps piece.from place ≡ true → ⊥
      others_not_back place behind high back =
          statement_not_back steps named others.statement around around 0 (suc last) mid piece.from piece.from place is_ready (omega (arith, low)) (omega (arith, stops, goes)) (others.lies 0) (omega (arith, low)) behind high back

      after : {end : ℕ} (place : ℕ) → end ≤ place → place < mid → goes_back steps piece.from place ≡ true → ClosesAt steps around (captures_flow steps flow) end last → (place < last) ⊎ (last ≤ place) → ⊥
      after {end} place least high back closes (inl within) = close_not_back (captures_flow steps flow) end last place closes least within back
      after place least high back closes (inr past) = by (order last place)
        where
          by : (last < place) ⊎ (place ≤ last) → ⊥
          by (inl behind) = others_not_back place behind high back
          by (inr here) =
              let same : place ≡ last = omega (arith, here, past) in
              jump_ahead steps piece.from place mid (subst (λ n. kind_at steps n ≡ Some (StepKind.Jump mid)) (sym same) jump.1) high back

      opens : last ≡ piece.from → PieceFound steps at bound piece
      opens ended =
          jump_opens steps levelled named at piece body logic before between ends first bound is inside start goes tests told tangled mid around (subst (λ n. IsAt steps around n (StepKind.Jump mid)) ended jump) (omega (arith, low, ends_at))
          (λ place least high back. by place least high back (order place mid))
        where
          by : (place : ℕ) → suc piece.from ≤ place → place < piece.to → goes_back steps piece.from place ≡ true → (place < mid) ⊎ (mid ≤ place) → ⊥
          by place least high back (inl within) = others_not_back place (omega (arith, least, ended)) within back
          by place least high back (inr past) = rest_not_back steps levelled named at piece body logic before between ends first bound is inside start goes tests told tangled rest mid (omega (arith, low, ends_at)) stops rest_lies rest_none place past high back

  pub if_block : (arms : FlowArms) (flow rest : Flow) (mid : ℕ) → piece.from < mid → mid ≤ start → ArmLies steps around (literal_logic true) (captures_flow steps flow) (λ from ends end. (inside : Around) × FlowLies steps around inside ends flow from end) arms piece.from mid
      → FlowLies steps around inside piece.to rest mid start → captures_flow steps rest ≡ false → Block (captures_flow steps flow) flow mid
  if_block no_more flow rest mid some stops (from, low, high, same, told_there, block) rest_lies rest_none =
      let found = do_block flow mid some (subst (λ n. IsFlowBlock steps around (captures_flow steps flow) (λ ends end. (inside : Around) × FlowLies steps around inside ends flow n end) n mid) same block) in
      found
  if_block (else_flow other) flow rest mid some stops (from, last, low, high, ended, same, told_there, block, jump, others) rest_lies rest_none =
      arm_block flow (else_flow other) rest last mid (omega (arith, low, high)) ended stops (subst (λ n. IsFlowBlock steps around (captures_flow steps flow) (λ ends end. (inside : Around) × FlowLies steps around inside ends flow n end) n last) same block) jump
      (record { statement = do_flow other; lies = λ any. (refl, others); calm = refl; none = λ more. refl })
      (λ more place within block. (place, last, omega arith, within, ended, refl, (λ n begins stops. absurd (omega (arith, begins, stops))), block, jump, others)) rest_lies rest_none
  if_block (elseif_flow next other arms) flow rest mid some stops (from, last, low, high, ended, same, told_there, block, jump, others) rest_lies rest_none =
      arm_block flow (elseif_flow next other arms) rest last mid (omega (arith, low, high)) ended stops (subst (λ n. IsFlowBlock steps around (captures_flow steps flow) (λ ends end. (inside : Around) × FlowLies steps around inside ends flow n end) n last) same block) jump
      (record { statement = if_flow next other arms; lies = λ any. (refl, others); calm = refl; none = λ more. refl })
      (λ more place within block. (place, last, omega arith, within, ended, refl, (λ n begins stops. absurd (omega (arith, begins, stops))), block, jump, others)) rest_lies rest_none

  -- its first statement, before what follows
  pub nested_by : (captures : Bool) (s : FlowStatement) (others rest : Flow) (mid : ℕ) → (block : Block captures (and_flow s others) mid) → captures_flow steps (and_flow s others) ≡ captures → mid ≤ start → FlowLies steps around inside piece.to rest mid start → captures_flow steps rest ≡ false
      → ((more : Flow) (place : ℕ) → piece.from < place → place ≤ start → ((other : ℕ) → FlowStatementLies steps around around other s piece.from place) → FlowLies steps around inside piece.to more place start → captures_flow steps more ≡ false → PieceFound steps at bound piece)
      → (Block captures others mid → captures_flow steps others ≡ captures → PieceFound steps at bound piece) → PieceFound steps at bound piece
  nested_by captures s others rest mid block owns stops rest_lies rest_none rec rec_rest = by block.lies
    where
      by : FlowLies steps around block.inner block.end (and_flow s others) piece.from block.end → PieceFound steps at bound piece
      by (well, place, behind_it, starts, ended, one, more) = at_place (order piece.from place) (statement_flat steps s around behind_it block.end piece.from place one)
        where
          below : block.end ≤ mid
          below = block.within

          at_place : (piece.from < place) ⊎ (place ≤ piece.from)
              → ((behind_it ≡ around) × ((other : ℕ) → FlowStatementLies steps around around other s piece.from place)) ⊎ ((place ≡ suc piece.from) × ((step : ℕ) × (s ≡ step_flow step) × (captured : Bool) × IsAt steps around piece.from (StepKind.Declaration block.end captured) × Declares piece.from captured around behind_it)) → PieceFound steps at bound piece
          at_place (inr none) (inl flat) =
              let here : place ≡ piece.from = omega (arith, none, starts) in
              rec_rest (record {
                end = block.end;
                inner = block.inner;
                lies = subst (λ n. FlowLies steps around block.inner block.end others n block.end) here (subst (λ a. FlowLies steps a block.inner block.end others place block.end) flat.0 more);
                within = block.within;
                wrap = block.wrap;
                after = block.after;
                empty = block.empty;
              }) (sym (flat_rest steps s others around 0 piece.from place (flat.1 0)) ∙ owns)
          at_place (inr none) (inr declared) = absurd (omega (arith, declared.0, none))
          at_place (inl some) (inl flat) =
              let wrapped = block.wrap others place ended (subst (λ a. FlowLies steps a block.inner block.end others place block.end) flat.0 more) (sym (flat_rest steps s others around 0 piece.from place (flat.1 0)) ∙ owns) in
              rec (and_flow wrapped.statement rest) place some (omega (arith, ended, below, stops)) flat.1
              (ends_well wrapped.statement rest wrapped.calm, mid, around, omega (arith, ended, below), stops, wrapped.lies piece.to, rest_lies) (wrapped.none rest ∙ rest_none)
          at_place (inl some) (inr (next, (step, is_step, captured, declaration, declares))) =
              locals_open steps levelled named at piece body logic before between ends first bound is inside start goes tests told tangled around block.end captured declaration (λ last low high back. behind last low high back (order last block.end) (order last mid))
            where
              behind : (last : ℕ) → suc piece.from ≤ last → last < piece.to → goes_back steps piece.from last ≡ true → (last < block.end) ⊎ (block.end ≤ last) → (last < mid) ⊎ (mid ≤ last) → ⊥
              behind last low high back (inl early) two =
                  flow_not_back steps named others behind_it block.inner block.end place block.end piece.from piece.from last (ready_declared piece.from captured around behind_it piece.from is_ready (omega arith) declares) (omega (arith, some))
                  (subst (λ e. ExitBehind e block.end) (sym declares.exit) (omega (arith, below, stops, goes))) more some (omega (arith, next, low)) early back
              behind last low high back (inr late) (inl within) = block.after last late within back
              behind last low high back (inr late) (inr past) = rest_not_back steps levelled named at piece body logic before between ends first bound is inside start goes tests told tangled rest mid (omega (arith, some, ended, below)) stops rest_lies rest_none last past high back
