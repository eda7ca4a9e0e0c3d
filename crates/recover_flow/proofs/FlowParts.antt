-- A statement around a cut, in two parts which stand in its place: what the steps before the cut do, what follows, and how parts are put together.
use Rattle.std.proofs.Common.{◌≡◌, ◌∙◌, ◌≤◌, ◌<◌, ◌^◌, ◌⊎◌, inl, inr, refl, sym, ap, subst, ℕ, zero, suc, Bool, true, false, List, length, slice_get, Option, None, Some, arith}
use Rattle.std.specs.Prelude.{◌==◌, ◌&&◌, ◌||◌, nat_le, option_map, option_and_then}
use Rattle.std.proofs.lemmas.Bool.{false≢true}
use Rattle.std.proofs.lemmas.Bool.Decides.{nat_tests}
use Rattle.std.proofs.lemmas.Option.{none-some, same_Some}
use Rattle.recover_expr.specs.declared.steps.Step.{Step}
use Rattle.recover_expr.specs.declared.steps.StepKind.{StepKind}
use Rattle.recover_flow.specs.Asked.{goes_back, is_this, jump_of, jumps_to, kind_at, target_at, target_of}
use Rattle.recover_flow.specs.Flow.{Around, Flow, no_flow, and_flow, FlowStatement, step_flow, return_flow, break_flow, do_flow, while_flow, repeat_flow, for_flow, if_flow, FlowLies, FlowStatementLies, IsClose, IsFlowBlock, captures_flow, flow_levels, flow_statement_levels}
use Rattle.recover_flow.specs.Lying.{Jumps, is_captured_at}
use Rattle.recover_flow.specs.declared.regions.BodyAt.{BodyAt}
use Rattle.recover_flow.specs.declared.regions.Exit.{Exit}
use Rattle.recover_flow.proofs.CutFacts.{Before, IsCut, LeavesAt, OwnAt, leaves_jumps, past_locals}
use Rattle.recover_flow.proofs.FlowMoves.{calmed, calmed_calm, calmed_levels, calmed_lies, step_levels_least}
use Rattle.recover_flow.proofs.LogicCut.{Never}
use Rattle.recover_flow.proofs.LogicRest.{FlatFlow, NoneLast, ends_well, join_captures, join_flat, join_flow, join_levels, join_lies, join_none_last}
use Rattle.recover_flow.proofs.PartsInside.{order, step_there}
use Rattle.recover_flow.proofs.PlacesFit.{jump_there}

-- one of a part's numbers passes a test, or none does
pub some_or_none : (holds : ℕ → Bool) (from to : ℕ) → ((n : ℕ) × (from ≤ n) × (n < to) × (holds n ≡ true)) ⊎ ((n : ℕ) → from ≤ n → n < to → holds n ≡ true → ⊥)
some_or_none holds from zero = inr (λ n low high passes. absurd (omega (arith, high)))
some_or_none holds from (suc to) = by (some_or_none holds from to) (holds to) refl (order to from)
  where
    by : ((n : ℕ) × (from ≤ n) × (n < to) × (holds n ≡ true)) ⊎ ((n : ℕ) → from ≤ n → n < to → holds n ≡ true → ⊥) → (b : Bool) → holds to ≡ b → (to < from) ⊎ (from ≤ to)
        → ((n : ℕ) × (from ≤ n) × (n < suc to) × (holds n ≡ true)) ⊎ ((n : ℕ) → from ≤ n → n < suc to → holds n ≡ true → ⊥)
    by (inl found) b is place = inl (found.0, found.1, omega (arith, found.2), found.3)
    by (inr none) true is (inr within) = inl (to, within, omega arith, is)
    by (inr none) b is (inl past) = inr (λ n low high passes. absurd (omega (arith, low, high, past)))
    by (inr none) false is (inr within) = inr (λ n low high passes. at_n n low high passes (order n to))
      where
        at_n : (n : ℕ) → from ≤ n → n < suc to → holds n ≡ true → (n < to) ⊎ (to ≤ n) → ⊥
        at_n n low high passes (inl before) = none n low before passes
        at_n n low high passes (inr here) = let same : n ≡ to = omega (arith, high, here) in absurd (false≢true (sym is ∙ ap holds (sym same) ∙ passes))

module _ (steps : List Step) where
  pub target_is : (place target : ℕ) → target_at steps place ≡ Some target → (step : Step) × (slice_get steps place ≡ Some step) × (target_of step.kind ≡ Some target)
  target_is place target is = by (slice_get steps place) refl is
    where
      by : (found : Option Step) → slice_get steps place ≡ found → option_and_then target_of (option_map (λ (step : Step). step.kind) found) ≡ Some target → (step : Step) × (slice_get steps place ≡ Some step) × (target_of step.kind ≡ Some target)
      by None there goes = absurd (none-some target goes)
      by (Some step) there goes = (step, there, goes)

  pub target_goes_back : (place target : ℕ) → target_at steps place ≡ Some target → target ≤ place → goes_back steps target place ≡ true
  target_goes_back place target there low =
      let far : nat_le target place ≡ true = grind (arith, nat_tests) in
      let same : (target == target) ≡ true = grind (arith, nat_tests) in
      ap (λ b. b && is_this (target_at steps place) target) far ∙ ap (λ found. is_this found target) there ∙ same

  -- what stands at the end of a block: its CLOSE, where it captures some of its own locals
  abbrev pub ClosesAt : Around → (captures : Bool) → (end to : ℕ) → Type 0
  ClosesAt around false end to = to ≡ end
  ClosesAt around true end to = (to ≡ suc end) × IsClose steps around end around.count

  pub closes_low : (around : Around) (captures : Bool) (end to : ℕ) → ClosesAt around captures end to → end ≤ to
  closes_low around false end to closes = omega (arith, closes)
  closes_low around true end to closes = omega (arith, closes.0)

  pub block_of : (around : Around) (captures : Bool) (lies : (ends end : ℕ) → Type 0) (from end to : ℕ) → from ≤ end → lies end end → ClosesAt around captures end to → IsFlowBlock steps around captures lies from to
  block_of around false lies from end to low here closes = subst (λ n. lies n n) (sym closes) here
  block_of around true lies from end to low here closes = (end, closes.0, low, closes.1, here)

  pub block_end : (around : Around) (captures : Bool) (lies : (ends end : ℕ) → Type 0) (from to : ℕ) → IsFlowBlock steps around captures lies from to → (end : ℕ) × lies end end × ClosesAt around captures end to
  block_end around false lies from to block = (to, block, refl)
  block_end around true lies from to (end, is, low, close, here) = (end, here, (is, close))

  -- a `do` around a block
  pub do_flat : (flow : Flow) (around : Around) (from to bound : ℕ) → from ≤ to → IsFlowBlock steps around (captures_flow steps flow) (λ ends end. (inside : Around) × FlowLies steps around inside ends flow from end) from to → flow_levels steps flow ≤ bound → 1 ≤ bound
      → FlatFlow steps around from to (suc bound)
  do_flat flow around from to bound low block levels some =
      record { flow = and_flow (do_flow flow) no_flow; lies = λ ends. (tt, to, around, low, omega arith, (refl, block), (refl, refl)); low = omega (arith, levels, some); none = refl; calm = (refl, tt) }

  pub flat_captures : (s : FlowStatement) (before : Around) (ends from to : ℕ) → FlowStatementLies steps before before ends s from to → captures_flow steps (and_flow (calmed steps s) no_flow) ≡ false
  flat_captures (step_flow step) before ends from to (here, next, inl (act, same)) = ap (λ n. is_captured_at (kind_at steps n) || false) here ∙ ap (λ kind. is_captured_at kind || false) act.1
  flat_captures (step_flow step) before ends from to (here, next, inr (captured, declaration, declares)) = let more = declares.more in absurd (omega (arith, more))
  flat_captures (return_flow step) before ends from to lies = refl
  flat_captures break_flow before ends from to lies = refl
  flat_captures (do_flow body) before ends from to lies = refl
  flat_captures (while_flow logic body) before ends from to lies = refl
  flat_captures (repeat_flow body logic) before ends from to lies = refl
  flat_captures (for_flow step numeric body) before ends from to lies = refl
  flat_captures (if_flow logic body rest) before ends from to lies = refl

  -- a statement that declares nothing
  pub statement_flat_flow : (s : FlowStatement) (before : Around) (from to bound : ℕ) → from ≤ to → ((ends : ℕ) → FlowStatementLies steps before before ends s from to) → flow_statement_levels steps s ≤ bound → FlatFlow steps before from to (suc bound)
  statement_flat_flow s before from to bound low lies levels =
      let more = calmed_levels steps s in
      let some = step_levels_least steps s in
      record {
        flow = and_flow (calmed steps s) no_flow;
        lies = λ ends. (tt, to, before, low, omega arith, calmed_lies steps s before before ends from to low (lies ends), (refl, refl));
        low = omega (arith, more, some, levels);
        none = flat_captures s before 0 from to (lies 0);
        calm = (calmed_calm steps s, tt);
      }

  -- one of a block's own locals is captured
  pub captured_in : (flow : Flow) (before behind : Around) (ends from to : ℕ) → FlowLies steps before behind ends flow from to → captures_flow steps flow ≡ true → (place : ℕ) × (from ≤ place) × (place < to) × (kind_at steps place ≡ Some (StepKind.Declaration ends true))
  captured_in no_flow before behind ends from to lies is = absurd (false≢true is)
  captured_in (and_flow (step_flow step) rest) before behind ends from to (well, mid, between, starts, stops, (here, next, inl (act, same)), others) is =
      let not_here : is_captured_at (kind_at steps step) ≡ false = ap (λ n. is_captured_at (kind_at steps n)) here ∙ ap is_captured_at act.1 in
      let found = captured_in rest between behind ends mid to others (sym (ap (λ b. b || captures_flow steps rest) not_here) ∙ is) in
      (found.0, omega (arith, found.1, starts), found.2, found.3)
  captured_in (and_flow (step_flow step) rest) before behind ends from to (well, mid, between, starts, stops, (here, next, inr (true, declaration, declares)), others) is = (from, omega arith, omega (arith, next, stops), declaration.1)
  captured_in (and_flow (step_flow step) rest) before behind ends from to (well, mid, between, starts, stops, (here, next, inr (false, declaration, declares)), others) is =
      let not_here : is_captured_at (kind_at steps step) ≡ false = ap (λ n. is_captured_at (kind_at steps n)) here ∙ ap is_captured_at declaration.1 in
      let found = captured_in rest between behind ends mid to others (sym (ap (λ b. b || captures_flow steps rest) not_here) ∙ is) in
      (found.0, omega (arith, found.1, starts), found.2, found.3)
  captured_in (and_flow (return_flow step) rest) before behind ends from to (well, mid, between, starts, stops, one, others) is = let found = captured_in rest between behind ends mid to others is in (found.0, omega (arith, found.1, starts), found.2, found.3)
  captured_in (and_flow break_flow rest) before behind ends from to (well, mid, between, starts, stops, one, others) is = let found = captured_in rest between behind ends mid to others is in (found.0, omega (arith, found.1, starts), found.2, found.3)
  captured_in (and_flow (do_flow body) rest) before behind ends from to (well, mid, between, starts, stops, one, others) is = let found = captured_in rest between behind ends mid to others is in (found.0, omega (arith, found.1, starts), found.2, found.3)
  captured_in (and_flow (while_flow logic body) rest) before behind ends from to (well, mid, between, starts, stops, one, others) is = let found = captured_in rest between behind ends mid to others is in (found.0, omega (arith, found.1, starts), found.2, found.3)
  captured_in (and_flow (repeat_flow body logic) rest) before behind ends from to (well, mid, between, starts, stops, one, others) is = let found = captured_in rest between behind ends mid to others is in (found.0, omega (arith, found.1, starts), found.2, found.3)
  captured_in (and_flow (for_flow step numeric body) rest) before behind ends from to (well, mid, between, starts, stops, one, others) is = let found = captured_in rest between behind ends mid to others is in (found.0, omega (arith, found.1, starts), found.2, found.3)
  captured_in (and_flow (if_flow logic body arms) rest) before behind ends from to (well, mid, between, starts, stops, one, others) is = let found = captured_in rest between behind ends mid to others is in (found.0, omega (arith, found.1, starts), found.2, found.3)

module _ (steps : List Step) (at : BodyAt) (small : length steps < 2 ^ 32) (fits : at.to ≤ length steps) (low cut : ℕ) (is_cut : IsCut steps at small fits low cut) where
  -- ---- the steps before the cut

  kind_before : (place target : ℕ) (base : ℕ) (kind : StepKind) → Before steps at small fits low cut place base kind → target_of kind ≡ Some target → (target ≤ cut) ⊎ LeavesAt steps at small fits place target
  kind_before place target base StepKind.Act here goes = absurd (none-some target goes)
  kind_before place target base StepKind.Return here goes = absurd (none-some target goes)
  kind_before place target base (StepKind.Test when to negated) here goes = let same : to ≡ target = same_Some to target goes in inl (omega (arith, here, same))
  kind_before place target base (StepKind.Jump to) here goes = subst (λ n. (n ≤ cut) ⊎ LeavesAt steps at small fits place n) (same_Some to target goes) here
  kind_before place target base (StepKind.Declaration end captured) here goes = absurd (none-some target goes)
  kind_before place target base (StepKind.Close from declared) here goes = absurd (none-some target goes)
  kind_before place target base (StepKind.Head numeric foot end variables_end captured) here goes = absurd (none-some target goes)
  kind_before place target base (StepKind.Foot numeric to) here goes = absurd (none-some target goes)

  pub goes_before : (place target : ℕ) → low ≤ place → place < cut → target_at steps place ≡ Some target → (target ≤ cut) ⊎ LeavesAt steps at small fits place target
  goes_before place target from to there = let found = target_is steps place target there in kind_before place target found.0.base found.0.kind (is_cut.each place found.0 from to found.1) found.2

  -- before the cut no jump goes to the exit, where that is a place up to here
  abbrev pub Near : (from to : ℕ) → Type 0
  Near from to = (place : ℕ) (exit : Exit) → from ≤ place → place < cut → at.exit ≡ Some exit → exit.place ≤ to → Jumps steps place exit.place → ⊥

  -- or one does
  pub record HitsExit (from to : ℕ) : Type 0 where
    pub exit : Exit
    pub is : at.exit ≡ Some exit
    pub near : exit.place ≤ to
    pub place : ℕ
    pub least : from ≤ place
    pub most : place < cut
    pub jump : Jumps steps place exit.place

  pub near_or_hit : (from to : ℕ) → Near from to ⊎ HitsExit from to
  near_or_hit from to = by at.exit refl
    where
      by : (exit : Option Exit) → at.exit ≡ exit → Near from to ⊎ HitsExit from to
      by None is = inl (λ place e begins ends same near jump. absurd (none-some e (sym is ∙ same)))
      by (Some e) is = at_place (order to e.place) (some_or_none (λ n. jumps_to steps n e.place) from cut)
        where
          at_place : (to < e.place) ⊎ (e.place ≤ to) → ((n : ℕ) × (from ≤ n) × (n < cut) × (jumps_to steps n e.place ≡ true)) ⊎ ((n : ℕ) → from ≤ n → n < cut → jumps_to steps n e.place ≡ true → ⊥) → Near from to ⊎ HitsExit from to
          at_place (inl far) found = inl (λ place other begins ends same near jump. let one = ap (λ (x : Exit). x.place) (same_Some e other (sym is ∙ same)) in absurd (omega (arith, far, near, one)))
          at_place (inr close) (inl found) = inr (record { exit = e; is = is; near = close; place = found.0; least = found.1; most = found.2; jump = jump_there steps found.0 e.place found.3 })
          at_place (inr close) (inr none) = inl (λ place other begins ends same near jump.
              let one : other ≡ e = same_Some other e (sym same ∙ is) in
              let eq : (e.place == e.place) ≡ true = grind (arith, nat_tests) in
              none place begins ends (ap (λ found. is_this (option_and_then jump_of found) e.place) (jump ∙ ap (λ (x : Exit). Some (StepKind.Jump x.place)) one) ∙ eq))

  pub stays_near : (from to : ℕ) → low ≤ from → Near from to → (place target : ℕ) → from ≤ place → place < cut → target ≤ to → target_at steps place ≡ Some target → target ≤ cut
  stays_near from to begins near place target least most within there = by (goes_before place target (omega (arith, begins, least)) most there)
    where
      by : (target ≤ cut) ⊎ LeavesAt steps at small fits place target → target ≤ cut
      by (inl stays) = stays
      by (inr (exit, is, same, out)) = absurd (near place exit least most is (omega (arith, same, within)) (leaves_jumps steps at small fits place exit out))

  -- behind the cut nothing goes back to a place before it
  pub never_back : (from to : ℕ) → low ≤ from → from < cut → to ≤ at.to → Never steps cut to from
  never_back from to begins before within place least most there = let known = is_cut.back from place begins before (omega (arith, most, within)) (target_goes_back steps place from there (omega (arith, least, before))) in absurd (omega (arith, known, least))

  -- a declaration before the cut
  pub declared_before : (place end : ℕ) (captured : Bool) → low ≤ place → place < cut → kind_at steps place ≡ Some (StepKind.Declaration end captured) → (past_locals steps at small fits end captured ≤ cut) ⊎ OwnAt steps at small fits low place end
  declared_before place end captured from to is =
      let found = step_there steps place (StepKind.Declaration end captured) is in
      subst (λ kind. Before steps at small fits low cut place found.0.base kind) found.2 (is_cut.each place found.0 from to found.1)

  pub past_least : (end : ℕ) (captured : Bool) → end ≤ past_locals steps at small fits end captured
  past_least end true = omega arith
  past_least end false = omega arith

  -- ---- parts

  -- locals of the statement become the body's own, with whose end it ends
  pub record Ending (before : Around) (ends from to bound : ℕ) : Type 0 where
    pub is_end : to ≡ ends
    pub left : Flow
    pub right : Flow
    pub between : Around
    pub behind : Around
    pub left_at : FlowLies steps before between ends left from cut
    pub right_at : FlowLies steps between behind ends right cut to
    pub left_low : flow_levels steps left ≤ bound
    pub right_low : flow_levels steps right ≤ bound
    pub left_none : captures_flow steps left ≡ false
    pub right_none : captures_flow steps right ≡ false
    pub left_calm : NoneLast left
    pub right_calm : NoneLast right

  abbrev pub Parts : (before : Around) (ends from to bound : ℕ) → Type 0
  Parts before ends from to bound = (FlatFlow steps before from cut bound × FlatFlow steps before cut to bound) ⊎ Ending before ends from to bound

  -- an `if` that ends at the exit and has a jump there before the cut, or such a `repeat`, or one that ends where the body's own locals do
  abbrev pub IsHard : FlowStatement → (from to : ℕ) → Type 0
  IsHard (if_flow logic body rest) from to = HitsExit from to
  IsHard (repeat_flow body logic) from to = HitsExit from to ⊎ (to ≡ at.locals_end)
  IsHard s from to = ⊥

  pub record Hard (from to : ℕ) : Type 0 where
    pub statement : FlowStatement
    pub before : Around
    pub behind : Around
    pub ends : ℕ
    pub begin : ℕ
    pub end : ℕ
    pub lies : FlowStatementLies steps before behind ends statement begin end
    pub hard : IsHard statement begin end
    pub least : from ≤ begin
    pub first : begin < cut
    pub last : cut < end
    pub most : end ≤ to

  pub widened : (from from' to to' : ℕ) → from' ≤ from → to ≤ to' → Hard from to → Hard from' to'
  widened from from' to to' lower upper hard =
      let a = hard.least in
      let b = hard.most in
      record { statement = hard.statement; before = hard.before; behind = hard.behind; ends = hard.ends; begin = hard.begin; end = hard.end; lies = hard.lies; hard = hard.hard; least = omega (arith, a, lower); first = hard.first; last = hard.last; most = omega (arith, b, upper) }

  abbrev pub Found : (before : Around) (ends from to bound : ℕ) → Type 0
  Found before ends from to bound = Parts before ends from to bound ⊎ Hard from to

  pub put_front : (before : Around) (ends from mid to bound : ℕ) → from ≤ mid → mid ≤ cut → FlatFlow steps before from mid bound → Found before ends mid to bound → Found before ends from to bound
  put_front before ends from mid to bound begins goes first (inr hard) = inr (widened mid from to to begins (omega arith) hard)
  put_front before ends from mid to bound begins goes first (inl (inl flats)) = inl (inl (join_flat steps before from mid cut bound goes first flats.0, flats.1))
  put_front before ends from mid to bound begins goes first (inl (inr ending)) =
      inl (inr (record {
        is_end = ending.is_end;
        left = join_flow first.flow ending.left;
        right = ending.right;
        between = ending.between;
        behind = ending.behind;
        left_at = join_lies steps first.flow ending.left before before ending.between ends from mid cut goes first.calm (first.lies ends) ending.left_at;
        right_at = ending.right_at;
        left_low = join_levels steps first.flow ending.left bound first.low ending.left_low;
        right_low = ending.right_low;
        left_none = join_captures steps first.flow ending.left first.none ending.left_none;
        right_none = ending.right_none;
        left_calm = join_none_last first.flow ending.left first.calm ending.left_calm;
        right_calm = ending.right_calm;
      }))

  pub put_behind : (before : Around) (ends from mid to bound : ℕ) → cut ≤ mid → mid ≤ to → to ≤ ends → FlatFlow steps before mid to bound → Found before ends from mid bound → Found before ends from to bound
  put_behind before ends from mid to bound begins goes within last (inr hard) = inr (widened from from mid to (omega arith) goes hard)
  put_behind before ends from mid to bound begins goes within last (inl (inl flats)) = inl (inl (flats.0, join_flat steps before cut mid to bound goes flats.1 last))
  put_behind before ends from mid to bound begins goes within last (inl (inr ending)) =
      let is = ending.is_end in
      let same : mid ≡ to = omega (arith, is, goes, within) in
      subst (λ n. Found before ends from n bound) same (inl (inr ending))

  -- a declaration of the body's own in front
  pub put_declared : (before between : Around) (ends from to bound step : ℕ) (captured : Bool) → to ≡ ends → captured ≡ false → suc from ≤ cut → 1 ≤ bound → flow_statement_levels steps (step_flow step) ≤ bound
      → FlowStatementLies steps before between ends (step_flow step) from (suc from) → is_captured_at (kind_at steps step) ≡ false → Found between ends (suc from) to bound → Found before ends from to bound
  put_declared before between ends from to bound step captured is none goes some levels lies not_captured (inr hard) = inr (widened (suc from) from to to (omega arith) (omega arith) hard)
  put_declared before between ends from to bound step captured is none goes some levels lies not_captured (inl (inl flats)) =
      let one = flats.0.low in
      inl (inr (record {
        is_end = is;
        left = and_flow (step_flow step) flats.0.flow;
        right = flats.1.flow;
        between = between;
        behind = between;
        left_at = (ends_well (step_flow step) flats.0.flow refl, suc from, between, omega arith, goes, lies, flats.0.lies ends);
        right_at = flats.1.lies ends;
        left_low = omega (arith, one, levels);
        right_low = flats.1.low;
        left_none = ap (λ b. b || captures_flow steps flats.0.flow) not_captured ∙ flats.0.none;
        right_none = flats.1.none;
        left_calm = (refl, flats.0.calm);
        right_calm = flats.1.calm;
      }))
  put_declared before between ends from to bound step captured is none goes some levels lies not_captured (inl (inr ending)) =
      let one = ending.left_low in
      inl (inr (record {
        is_end = is;
        left = and_flow (step_flow step) ending.left;
        right = ending.right;
        between = ending.between;
        behind = ending.behind;
        left_at = (ends_well (step_flow step) ending.left refl, suc from, between, omega arith, goes, lies, ending.left_at);
        right_at = ending.right_at;
        left_low = omega (arith, one, levels);
        right_low = ending.right_low;
        left_none = ap (λ b. b || captures_flow steps ending.left) not_captured ∙ ending.left_none;
        right_none = ending.right_none;
        left_calm = (refl, ending.left_calm);
        right_calm = ending.right_calm;
      }))
