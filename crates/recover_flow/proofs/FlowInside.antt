-- The steps of statements with blocks name only places of the statement, the exit of the loop around, and the end of the body's own locals.
use Rattle.std.proofs.Common.{◌≡◌, ◌∙◌, ◌≤◌, ◌<◌, ◌+◌, ◌⊎◌, inl, inr, refl, sym, ap, subst, ℕ, suc, Bool, true, false, List, slice_get, Option, None, Some, arith}
use Rattle.std.specs.Prelude.{◌==◌, ◌&&◌, ◌||◌, nat_le, option_and_then}
use Rattle.std.proofs.lemmas.Bool.{false≢true}
use Rattle.std.proofs.lemmas.Bool.Decides.{nat_tests}
use Rattle.std.proofs.lemmas.Option.{same_Some}
use Rattle.recover_expr.specs.declared.steps.Step.{Step}
use Rattle.recover_expr.specs.declared.steps.StepKind.{StepKind}
use Rattle.recover_flow.specs.Asked.{closes, closes_before, closes_from, goes_back, is_this, jump_of, kind_at, leaves, leaves_with, target_at, target_of}
use Rattle.recover_flow.specs.Cutting.{locals_reach}
use Rattle.recover_flow.specs.Flow.{Around, BreakLies, CapturedBehind, Declares, Flow, no_flow, and_flow, FlowStatement, step_flow, return_flow, break_flow, do_flow, while_flow, repeat_flow, for_flow, if_flow, FlowArms, no_more, else_flow, elseif_flow, FlowLies, FlowStatementLies, ArmLies, IsAt, IsClose, IsFlowBlock, IsTold, VariablesLie, captures_flow, declares_active, in_loop, StepLies}
use Rattle.recover_flow.specs.Logic.{Logic, LogicLies}
use Rattle.recover_flow.specs.Lying.{Jumps, is_captured_at}
use Rattle.recover_flow.specs.declared.regions.Exit.{Exit}
use Rattle.recover_flow.proofs.PartsInside.{AllIn, ExitWithin, Free, HeadTo, In, NamedFrom, NoneOwned, Owned, Owns, Turns, all_loosened, back_is, both, higher, joined, jump_in, kept, kind_there, logic_in, moved, nothing_in, one_in, order}

-- The CLOSE of a break, and that of a `repeat` before its jump out, names a local that is declared before it, and in each loop around it.
abbrev pub ClosesAreNamed : List Step → Type 0
ClosesAreNamed steps =
    (place : ℕ) (step : Step) (from declaration : ℕ) → slice_get steps place ≡ Some step → step.kind ≡ StepKind.Close from (Some declaration) → from < step.base
    → (declaration < place) × ((first last : ℕ) → Turns steps first last → first ≤ place → place ≤ last → first ≤ declaration)

-- the locals of the loop around are declared from a place on
abbrev pub KnownIn : (first : ℕ) → Around → Option Exit → Type 0
KnownIn first around None = Unit {0}
KnownIn first around (Some exit) = (register : ℕ) → exit.locals ≤ register → register < around.count → NamedFrom first (around.declared register)

-- they are active
abbrev pub LocalsWithin : Option Exit → (count : ℕ) → Type 0
LocalsWithin None count = Unit {0}
LocalsWithin (Some exit) count = exit.locals ≤ count

pub record IsReady (first : ℕ) (around : Around) : Type 0 where
  pub captured : around.captured ≤ around.count
  pub locals : LocalsWithin around.exit around.count
  pub known : KnownIn first around around.exit

abbrev pub ExitBehind : Option Exit → (to : ℕ) → Type 0
ExitBehind None to = Unit {0}
ExitBehind (Some exit) to = to ≤ exit.place

pub behind_earlier : (exit : Option Exit) (to mid : ℕ) → mid ≤ to → ExitBehind exit to → ExitBehind exit mid
behind_earlier None to mid low behind = tt
behind_earlier (Some exit) to mid low behind = omega (arith, low, behind)

-- ---- what is around

pub captured_below : (captured : Bool) (before behind : Around) → before.captured ≤ before.count → before.count < behind.count → CapturedBehind captured before behind → behind.captured ≤ behind.count
captured_below true before behind low more highest = highest.1
captured_below false before behind low more highest = omega (arith, low, more, highest)

pub ready_declared : (step : ℕ) (captured : Bool) (before behind : Around) (first : ℕ) → IsReady first before → first ≤ step → Declares step captured before behind → IsReady first behind
ready_declared step captured before behind first ready low declares =
    record {
      captured = captured_below captured before behind ready.captured declares.more declares.highest;
      locals = subst (λ exit. LocalsWithin exit behind.count) (sym declares.exit) (more_locals before.exit ready.locals);
      known = subst (λ exit. KnownIn first behind exit) (sym declares.exit) (by before.exit ready.known);
    }
  where
    more_locals : (exit : Option Exit) → LocalsWithin exit before.count → LocalsWithin exit behind.count
    more_locals None within = tt
    more_locals (Some exit) within = let more = declares.more in omega (arith, within, more)

    by : (exit : Option Exit) → KnownIn first before exit → KnownIn first behind exit
    by None known = tt
    by (Some exit) known = λ register from within. at_register register (known register from) within (order register before.count)
      where
        at_register : (register : ℕ) → (register < before.count → NamedFrom first (before.declared register)) → register < behind.count → (register < before.count) ⊎ (before.count ≤ register) → NamedFrom first (behind.declared register)
        at_register register known within (inl old) = subst (NamedFrom first) (sym (declares.same register old)) (known old)
        at_register register known within (inr new) = subst (NamedFrom first) (sym (declares.new register new within)) low

pub ready_loop : (to first : ℕ) (around : Around) → around.captured ≤ around.count → IsReady first (in_loop to around)
ready_loop to first around captured = record { captured = captured; locals = omega arith; known = λ register from within. absurd (omega (arith, from, within)) }

-- ---- captured locals of a body

pub first_captures : (steps : List Step) (s : FlowStatement) (rest : Flow) → captures_flow steps (and_flow s no_flow) ≡ true → captures_flow steps (and_flow s rest) ≡ true
first_captures steps (step_flow step) rest is = by (is_captured_at (kind_at steps step)) is
  where
    by : (b : Bool) → (b || false) ≡ true → (b || captures_flow steps rest) ≡ true
    by true is = refl
    by false is = absurd (false≢true is)
first_captures steps (return_flow step) rest is = absurd (false≢true is)
first_captures steps break_flow rest is = absurd (false≢true is)
first_captures steps (do_flow body) rest is = absurd (false≢true is)
first_captures steps (while_flow logic body) rest is = absurd (false≢true is)
first_captures steps (repeat_flow body logic) rest is = absurd (false≢true is)
first_captures steps (for_flow step numeric body) rest is = absurd (false≢true is)
first_captures steps (if_flow logic body arms) rest is = absurd (false≢true is)

pub rest_captures : (steps : List Step) (s : FlowStatement) (rest : Flow) → captures_flow steps rest ≡ true → captures_flow steps (and_flow s rest) ≡ true
rest_captures steps (step_flow step) rest is = by (is_captured_at (kind_at steps step))
  where
    by : (b : Bool) → (b || captures_flow steps rest) ≡ true
    by true = refl
    by false = is
rest_captures steps (return_flow step) rest is = is
rest_captures steps break_flow rest is = is
rest_captures steps (do_flow body) rest is = is
rest_captures steps (while_flow logic body) rest is = is
rest_captures steps (repeat_flow body logic) rest is = is
rest_captures steps (for_flow step numeric body) rest is = is
rest_captures steps (if_flow logic body arms) rest is = is

-- a statement that declares nothing has none of them
pub flat_rest : (steps : List Step) (s : FlowStatement) (rest : Flow) (before : Around) (ends from to : ℕ) → FlowStatementLies steps before before ends s from to → captures_flow steps (and_flow s rest) ≡ captures_flow steps rest
flat_rest steps (step_flow step) rest before ends from to (here, next, inl (act, same)) = ap (λ n. is_captured_at (kind_at steps n) || captures_flow steps rest) here ∙ ap (λ kind. is_captured_at kind || captures_flow steps rest) act.1
flat_rest steps (step_flow step) rest before ends from to (here, next, inr (captured, declaration, declares)) = let more = declares.more in absurd (omega (arith, more))
flat_rest steps (return_flow step) rest before ends from to lies = refl
flat_rest steps break_flow rest before ends from to lies = refl
flat_rest steps (do_flow body) rest before ends from to lies = refl
flat_rest steps (while_flow logic body) rest before ends from to lies = refl
flat_rest steps (repeat_flow body logic) rest before ends from to lies = refl
flat_rest steps (for_flow step numeric body) rest before ends from to lies = refl
flat_rest steps (if_flow logic body arms) rest before ends from to lies = refl

pub or_right : (a b : Bool) → b ≡ true → (a || b) ≡ true
or_right true b is = refl
or_right false b is = is

pub variables_low : (steps : List Step) (hidden : Around) (captured : Bool) (end foot : ℕ) → VariablesLie steps hidden captured end foot → end ≤ foot
variables_low steps hidden true end foot lies = omega (arith, lies.0)
variables_low steps hidden false end foot lies = omega (arith, lies)

module _ (steps : List Step) where
  -- what is shown of a flow or a statement
  pub record FlowIn (first : ℕ) (before behind : Around) (owns : Owns) (from to : ℕ) : Type 0 where
    pub rises : from ≤ to
    pub ready : IsReady first behind
    pub exit : behind.exit ≡ before.exit
    pub more : before.count ≤ behind.count
    pub inside : AllIn steps owns before.exit first to from to from to

  abbrev pub captures_one : FlowStatement → Bool
  captures_one s = captures_flow steps (and_flow s no_flow)

  -- which of the body's own locals a statement declares
  abbrev pub owns_of : (ends : ℕ) → FlowStatement → Owns
  owns_of ends (step_flow step) = Owned ends (captures_one (step_flow step))
  owns_of ends s = NoneOwned

  pub owns_one : (ends : ℕ) (s : FlowStatement) (captured : Bool) (end : ℕ) → owns_of ends s captured end → Owned ends (captures_one s) captured end
  owns_one ends (step_flow step) captured end owned = owned
  owns_one ends (return_flow step) captured end owned = absurd owned
  owns_one ends break_flow captured end owned = absurd owned
  owns_one ends (do_flow body) captured end owned = absurd owned
  owns_one ends (while_flow logic body) captured end owned = absurd owned
  owns_one ends (repeat_flow body logic) captured end owned = absurd owned
  owns_one ends (for_flow step numeric body) captured end owned = absurd owned
  owns_one ends (if_flow logic body rest) captured end owned = absurd owned

  -- ---- steps

  told_kind : (around : Around) (place : ℕ) (kind : StepKind) (is : IsAt steps around place kind) → is.0.step.kind ≡ kind
  told_kind around place kind is = same_Some is.0.step.kind kind (sym (kind_there steps place is.0.step is.0.there) ∙ is.1)

  pub told_base : (around : Around) (place : ℕ) (told : IsTold steps around place) (step : Step) → slice_get steps place ≡ Some step → step.base ≡ around.count
  told_base around place told step there = ap (λ (s : Step). s.base) (same_Some step told.step (sym there ∙ told.there)) ∙ told.base

  -- the CLOSE of a block's own locals
  pub close_in : (exit : Option Exit) (first hi low high : ℕ) (around : Around) (place end : ℕ) → IsClose steps around place around.count → end ≡ suc place → AllIn steps NoneOwned exit first hi low high place end
  close_in exit first hi low high around place end close is =
      subst (λ n. AllIn steps NoneOwned exit first hi low high place n) (sym is)
      (one_in steps NoneOwned exit first hi low high place (StepKind.Close around.count (declares_active around around.count)) close.1
      (λ step there closes. let same = told_base around place close.0 step there in absurd (omega (arith, same, closes))))

  pub jump_to : (exit : Option Exit) (first hi low high target place end : ℕ) → Jumps steps place target → (low ≤ target) × (target ≤ hi) → end ≡ suc place → AllIn steps NoneOwned exit first hi low high place end
  jump_to exit first hi low high target place end jumps within is =
      subst (λ n. AllIn steps NoneOwned exit first hi low high place n) (sym is) (jump_in steps NoneOwned exit first hi low high target place jumps within)

  pub jump_back : (first last : ℕ) → Jumps steps last first → first ≤ last → goes_back steps first last ≡ true
  jump_back first last jumps low =
      let far : nat_le first last ≡ true = grind (arith, nat_tests) in
      let same : (first == first) ≡ true = grind (arith, nat_tests) in
      ap (λ b. b && is_this (target_at steps last) first) far ∙ ap (λ found. is_this (option_and_then target_of found) first) jumps ∙ same

  -- ---- blocks

  reach_owned : (captures captured : Bool) (ends end hi : ℕ) → (captures ≡ true → ends + 1 ≤ hi) → ends ≤ hi → Owned ends captures captured end → locals_reach end captured ≤ hi
  reach_owned captures true ends end hi closed low owned = let more = closed (owned.1 refl) in omega (arith, more, owned.0)
  reach_owned captures false ends end hi closed low owned = omega (arith, low, owned.0)

  -- a block, if its statements are
  pub block_in : (captures : Bool) (around : Around) (exit : Option Exit) (first : ℕ) (lies : (ends end : ℕ) → Type 0) (from to : ℕ) → IsFlowBlock steps around captures lies from to
      → ((end : ℕ) → end ≤ to → lies end end → (from ≤ end) × AllIn steps (Owned end captures) exit first end from end from end)
      → (from ≤ to) × AllIn steps NoneOwned exit first to from to from to
  block_in false around exit first lies from to block each =
      let whole = each to (omega arith) block in (
        whole.0,
        λ place step low high there.
            moved steps (Owned to false) NoneOwned exit first to to from from to to place step.base step.kind (omega arith) (omega arith) (omega arith)
            (λ captured end owned. inl (reach_owned false captured to end to (λ is. absurd (false≢true is)) (omega arith) owned)) (λ free. free) (whole.1 place step low high there),
      )
  block_in true around exit first lies from to (end, is, low, close, before) each =
      let whole = each end (omega (arith, is)) before in (
        omega (arith, is, whole.0),
        joined steps NoneOwned exit first to from end to whole.0 (omega (arith, is))
            (λ place step low high there.
            moved steps (Owned end true) NoneOwned exit first end to from from end end place step.base step.kind (omega arith) (omega (arith, is)) (omega arith)
            (λ captured at owned. inl (reach_owned true captured end at to (λ b. omega (arith, is)) (omega (arith, is)) owned)) (λ free. free) (whole.1 place step low high there))
            (close_in exit first to end to around end to close is),
      )

  -- a loop's block, in the loop
  pub block_kept : (exit : Option Exit) (first from to low high : ℕ) → ExitWithin steps exit high → low ≤ from → to ≤ high → low ≤ first → AllIn steps NoneOwned exit first to from to from to → AllIn steps NoneOwned None 0 high low high from to
  block_kept exit first from to low high goes lower upper begins all place step begin end there =
      kept steps NoneOwned exit first to high from low to high place step.base step.kind lower upper upper begins goes (λ captured at owned. absurd owned) (all place step begin end there)

  loop_in : (exit : Option Exit) (first from to : ℕ) → AllIn steps NoneOwned None 0 to from to from to → AllIn steps NoneOwned exit first to from to from to
  loop_in exit first from to all = all_loosened steps NoneOwned exit first to from to from to all

  -- ---- breaks

  leaves_at : (exit : Exit) (around : Around) (place : ℕ) → (is : IsAt steps around place (StepKind.Jump exit.place)) → ((around.captured ≤ exit.locals) ⊎ (closes_before steps place exit.locals ≡ true)) → leaves steps place exit ≡ true
  leaves_at exit around place is straight =
      let same : (exit.place == exit.place) ≡ true = grind (arith, nat_tests) in
      ap (leaves_with steps place exit) is.0.there
      ∙ ap (λ kind. is_this (jump_of kind) exit.place && (nat_le is.0.step.captured exit.locals || closes_before steps place exit.locals)) (told_kind around place (StepKind.Jump exit.place) is)
      ∙ ap (λ b. b && (nat_le is.0.step.captured exit.locals || closes_before steps place exit.locals)) same ∙ by straight
    where
      by : (around.captured ≤ exit.locals) ⊎ (closes_before steps place exit.locals ≡ true) → (nat_le is.0.step.captured exit.locals || closes_before steps place exit.locals) ≡ true
      by (inl low) =
          let here = is.0.captured in
          let passes : nat_le is.0.step.captured exit.locals ≡ true = grind (arith, nat_tests) in
          ap (λ b. b || closes_before steps place exit.locals) passes
      by (inr closed) = or_true (nat_le is.0.step.captured exit.locals) (closes_before steps place exit.locals) closed
        where
          or_true : (a b : Bool) → b ≡ true → (a || b) ≡ true
          or_true true b is = refl
          or_true false b is = is

  not_head : (place : ℕ) (kind : StepKind) (foot : ℕ) → kind_at steps place ≡ Some kind → (HeadTo foot (Some kind) → ⊥) → HeadTo foot (kind_at steps place) → ⊥
  not_head place kind foot is none head = none (subst (HeadTo foot) is head)

  -- no loop has a break's jump inside, which is the last step of its statement
  free_jump : (low place target : ℕ) → Jumps steps place target → suc place ≤ target → ((first : ℕ) → low ≤ first → first < place → HeadTo place (kind_at steps first) → ⊥) → Free steps low (suc place) place
  free_jump low place target jumps ahead others first last from here above ends turns = by turns
    where
      same : last ≡ place
      same = omega (arith, above, ends)

      by : Turns steps first last → ⊥
      by (inl back) =
          let found = back_is steps first last back in
          let at : kind_at steps last ≡ Some (StepKind.Jump target) = subst (λ n. kind_at steps n ≡ Some (StepKind.Jump target)) (sym same) jumps in
          let kind : found.1.0.kind ≡ StepKind.Jump target = same_Some found.1.0.kind (StepKind.Jump target) (sym (kind_there steps last found.1.0 found.1.1) ∙ at) in
          let goes : target ≡ first = same_Some target first (sym (ap target_of kind) ∙ found.1.2) in
          absurd (omega (arith, goes, ahead, here))
      by (inr head) = at_first (order first place)
        where
          at_first : (first < place) ⊎ (place ≤ first) → ⊥
          at_first (inl before) = others first from before (subst (λ n. HeadTo n (kind_at steps first)) same head.1)
          at_first (inr behind) =
              let this : first ≡ place = omega (arith, behind, here) in
              not_head place (StepKind.Jump target) last jumps (λ none. none) (subst (λ n. HeadTo last (kind_at steps n)) this head.1)

  jump_out : (exit : Exit) (first low place to : ℕ) (around : Around) → IsAt steps around place (StepKind.Jump exit.place) → to ≡ suc place → to ≤ exit.place → low ≤ place → leaves steps place exit ≡ true
      → ((f : ℕ) → low ≤ f → f < place → HeadTo place (kind_at steps f) → ⊥) → AllIn steps NoneOwned (Some exit) first to low to place to
  jump_out exit first low place to around is ends ahead from out others =
      subst (λ n. AllIn steps NoneOwned (Some exit) first n low n place n) (sym ends)
      (one_in steps NoneOwned (Some exit) first (suc place) low (suc place) place (StepKind.Jump exit.place) is.1
      (λ step there. (omega (arith, ahead, ends, from), inr (refl, out, free_jump low place exit.place is.1 (omega (arith, ahead, ends)) others))))

  break_in : (exit : Option Exit) (first from to : ℕ) (around : Around) → around.captured ≤ around.count → KnownIn first around exit → ExitBehind exit to → BreakLies steps around exit from to → (from ≤ to) × AllIn steps NoneOwned exit first to from to from to
  break_in None first from to around low known behind lies = absurd lies
  break_in (Some exit) first from to around low known behind (inl (straight, jump, ends)) =
      (omega (arith, ends), jump_out exit first from from to around jump ends behind (omega arith) (leaves_at exit around from jump (inl straight)) (λ f begins before head. absurd (omega (arith, begins, before))))
  break_in (Some exit) first from to around low known behind (inr (closed, close, jump, ends)) = (
    omega (arith, ends),
    both steps NoneOwned (Some exit) first to from to from (suc from) to
        (one_in steps NoneOwned (Some exit) first to from to from (StepKind.Close exit.locals (around.declared exit.locals)) close.1
        (λ step there closes. (omega (arith, ends), inr (refl, known exit.locals (omega arith) (omega (arith, closed, low)), next))))
        (jump_out exit first from (suc from) to around jump ends behind (omega arith) (leaves_at exit around (suc from) jump (inr closing))
        (λ f begins before head. let here : f ≡ from = omega (arith, begins, before) in not_head from (StepKind.Close exit.locals (around.declared exit.locals)) (suc from) close.1 (λ none. none) (subst (λ n. HeadTo (suc from) (kind_at steps n)) here head))),
  )
    where
      next : Jumps steps (from + 1) exit.place
      next = let same : suc from ≡ from + 1 = omega arith in subst (λ n. Jumps steps n exit.place) same jump.1

      closing : closes_before steps (suc from) exit.locals ≡ true
      closing = let same : (exit.locals == exit.locals) ≡ true = grind (arith, nat_tests) in ap (closes_from exit.locals) close.1 ∙ same

  -- ---- statements

  module _ (named : ClosesAreNamed steps) where
    -- what a flow does in a context
    abbrev FlowInside : Flow → Type 0
    FlowInside flow = (before behind : Around) (ends from to first : ℕ) → IsReady first before → first ≤ from → ExitBehind before.exit to → FlowLies steps before behind ends flow from to → FlowIn first before behind (Owned ends (captures_flow steps flow)) from to

    -- a block's statements
    shut_in : (flow : Flow) (around before : Around) (first from to : ℕ) → IsReady first before → first ≤ from → ExitBehind before.exit to → FlowInside flow
        → IsFlowBlock steps around (captures_flow steps flow) (λ ends end. (inside : Around) × FlowLies steps before inside ends flow from end) from to → (from ≤ to) × AllIn steps NoneOwned before.exit first to from to from to
    shut_in flow around before first from to ready low exit each block =
        block_in (captures_flow steps flow) around before.exit first (λ ends end. (inside : Around) × FlowLies steps before inside ends flow from end) from to block
        (λ end within lies. let found = each before lies.0 end from end first ready low (behind_earlier before.exit to end within exit) lies.1 in (found.rises, found.inside))

    step_in : (before behind : Around) (ends step from to first : ℕ) → IsReady first before → first ≤ from → StepLies steps before behind ends step from to → FlowIn first before behind (Owned ends (captures_one (step_flow step))) from to
    step_in before behind ends step from to first ready low (here, next, inl (act, same)) =
        record {
          rises = omega (arith, next);
          ready = subst (IsReady first) (sym same) ready;
          exit = ap (λ (a : Around). a.exit) same;
          more = let counted = ap (λ (a : Around). a.count) same in omega (arith, counted);
          inside =
              subst (λ n. AllIn steps (Owned ends (captures_one (step_flow step))) before.exit first n from n from n) (sym next)
              (one_in steps (Owned ends (captures_one (step_flow step))) before.exit first (suc from) from (suc from) from StepKind.Act act.1 (λ step there. tt));
        }
    step_in before behind ends step from to first ready low (here, next, inr (captured, declaration, declares)) =
        record {
          rises = omega (arith, next);
          ready = ready_declared from captured before behind first ready low declares;
          exit = declares.exit;
          more = let more = declares.more in omega (arith, more);
          inside =
              subst (λ n. AllIn steps (Owned ends (captures_one (step_flow step))) before.exit first n from n from n) (sym next)
              (one_in steps (Owned ends (captures_one (step_flow step))) before.exit first (suc from) from (suc from) from (StepKind.Declaration ends captured) declaration.1 (λ step there. inr (refl, owned)));
        }
      where
        owned : captured ≡ true → captures_one (step_flow step) ≡ true
        owned is =
            ap (λ n. is_captured_at (kind_at steps n) || false) here ∙ ap (λ kind. is_captured_at kind || false) declaration.1 ∙ ap (λ b. b || false) is

    -- a statement behind which what is around is as before it
    same_behind : (before behind : Around) (ends : ℕ) (from to first : ℕ) → IsReady first before → behind ≡ before → (from ≤ to) × AllIn steps NoneOwned before.exit first to from to from to → FlowIn first before behind NoneOwned from to
    same_behind before behind ends from to first ready same found =
        record {
          rises = found.0;
          ready = subst (IsReady first) (sym same) ready;
          exit = ap (λ (a : Around). a.exit) same;
          more = let counted = ap (λ (a : Around). a.count) same in omega (arith, counted);
          inside = found.1;
        }

    -- an arm, its jump to the end, and what stands behind it
    arm_in : (exit : Option Exit) (first : ℕ) (logic : Logic) (from start last to : ℕ) → from ≤ start → start ≤ last → suc last ≤ to → LogicLies steps logic false (suc last) from start → Jumps steps last to
        → AllIn steps NoneOwned exit first last start last start last → AllIn steps NoneOwned exit first to (suc last) to (suc last) to → AllIn steps NoneOwned exit first to from to from to
    arm_in exit first logic from start last to low high ends tests jump block rest =
        joined steps NoneOwned exit first to from start to low (omega (arith, high, ends)) (logic_in steps NoneOwned exit first to from start logic false (suc last) from start tests (omega arith) (omega (arith, high, ends)) (omega (arith, low, high), ends))
        (joined steps NoneOwned exit first to start last to high (omega (arith, ends)) (higher steps exit first last to start last start last (omega (arith, ends)) block)
        (joined steps NoneOwned exit first to last (suc last) to (omega arith) ends (jump_in steps NoneOwned exit first to last (suc last) to last jump (omega (arith, ends), omega arith)) rest))

    -- a `for`'s block, with the variables
    for_in : (before hidden inside : Around) (from to foot variables_end : ℕ) (numeric captured : Bool) (end : ℕ) → IsAt steps before from (StepKind.Head numeric foot end variables_end captured) → VariablesLie steps hidden captured variables_end foot
        → IsAt steps hidden foot (StepKind.Foot numeric (suc from)) → to ≡ suc foot → (suc from ≤ variables_end) → AllIn steps NoneOwned None 0 to from to (suc from) variables_end → (from ≤ to) × AllIn steps NoneOwned None 0 to from to from to
    for_in before hidden inside from to foot variables_end numeric captured end head variables footed ends low block = (
      omega (arith, low, ends, variables_before captured variables),
      both steps NoneOwned None 0 to from to from (suc from) to
          (one_in steps NoneOwned None 0 to from to from (StepKind.Head numeric foot end variables_end captured) head.1 (λ step there. (omega (arith, low, variables_before captured variables), omega (arith, ends))))
          (both steps NoneOwned None 0 to from to (suc from) variables_end to block
          (both steps NoneOwned None 0 to from to variables_end foot to (variables_in captured variables)
          (subst (λ n. AllIn steps NoneOwned None 0 to from to foot n) (sym ends)
          (one_in steps NoneOwned None 0 to from to foot (StepKind.Foot numeric (suc from)) footed.1
          (λ step there. (omega (arith, low, variables_before captured variables), from, refl, omega arith, subst (HeadTo foot) (sym head.1) refl)))))),
    )
      where
        variables_before : (captured : Bool) → VariablesLie steps hidden captured variables_end foot → variables_end ≤ foot
        variables_before true lies = omega (arith, lies.0)
        variables_before false lies = omega (arith, lies)

        variables_in : (captured : Bool) → VariablesLie steps hidden captured variables_end foot → AllIn steps NoneOwned None 0 to from to variables_end foot
        variables_in true lies = close_in None 0 to from to hidden variables_end foot lies.1 lies.0
        variables_in false lies = subst (λ n. AllIn steps NoneOwned None 0 to from to variables_end n) (sym lies) (nothing_in steps NoneOwned None 0 to from to variables_end)

    -- a `repeat` that closes its locals
    closed_in : (flow : Flow) (before inside : Around) (logic : Logic) (from start tested to : ℕ) → from ≤ start → start ≤ tested → FlowIn from (in_loop to before) inside (Owned (tested + 2) (captures_flow steps flow)) from start
        → LogicLies steps logic false (tested + 2) start tested → IsClose steps inside tested before.count → Jumps steps (tested + 1) to → IsClose steps before (tested + 2) before.count → Jumps steps (tested + 3) from → to ≡ tested + 4
        → AllIn steps NoneOwned None 0 to from to from to
    closed_in flow before inside logic from start tested to low high body tests close out again back ends =
        both steps NoneOwned None 0 to from to from start to
        (λ place step begins stops there.
        kept steps (Owned (tested + 2) (captures_flow steps flow)) (Some (record { place = to; locals = before.count })) from start to from from start to place step.base step.kind (omega arith) (omega (arith, high, ends)) (omega (arith, high, ends)) (omega arith) (omega arith)
        (λ captured end owned. reach_owned (captures_flow steps flow) captured (tested + 2) end to (λ is. omega (arith, ends)) (omega (arith, ends)) owned) (body.inside place step begins stops there))
        (both steps NoneOwned None 0 to from to start tested to
        (logic_in steps NoneOwned None 0 to from to logic false (tested + 2) start tested tests low (omega (arith, ends)) (omega (arith, low, high), omega (arith, ends)))
        (both steps NoneOwned None 0 to from to tested (suc tested) to
        (one_in steps NoneOwned None 0 to from to tested (StepKind.Close before.count (declares_active inside before.count)) close.1 (λ step there closes. (omega (arith, ends), inl (names (declares_active inside before.count) refl step there closes))))
        (both steps NoneOwned None 0 to from to (suc tested) (tested + 2) to
        (subst (λ n. AllIn steps NoneOwned None 0 to from to n (tested + 2)) next (jump_to None 0 to from to to (tested + 1) (tested + 2) out (omega (arith, low, high, ends), omega arith) (omega arith)))
        (both steps NoneOwned None 0 to from to (tested + 2) (tested + 3) to (close_in None 0 to from to before (tested + 2) (tested + 3) again (omega arith))
        (jump_to None 0 to from to from (tested + 3) to back (omega arith, omega (arith, low, high, ends)) (omega (arith, ends)))))))
      where
        next : tested + 1 ≡ suc tested
        next = omega arith

        names : (declared : Option ℕ) → declares_active inside before.count ≡ declared → (step : Step) → slice_get steps tested ≡ Some step → before.count < step.base → NamedFrom from declared
        names None is step there closes = tt
        names (Some declaration) is step there closes =
            let kind : step.kind ≡ StepKind.Close before.count (Some declaration) = same_Some step.kind (StepKind.Close before.count (Some declaration)) (sym (kind_there steps tested step there) ∙ close.1 ∙ ap (λ d. Some (StepKind.Close before.count d)) is) in
            (named tested step before.count declaration there kind closes).1 from (tested + 3) (inl (jump_back from (tested + 3) back (omega (arith, low, high)))) (omega (arith, low, high)) (omega arith)

    mutual
      pub flow_in : (flow : Flow) (before behind : Around) (ends from to first : ℕ) → IsReady first before → first ≤ from → ExitBehind before.exit to → FlowLies steps before behind ends flow from to
          → FlowIn first before behind (Owned ends (captures_flow steps flow)) from to
      flow_in no_flow before behind ends from to first ready low exit (same, ended) =
          record {
            rises = omega (arith, ended);
            ready = subst (IsReady first) (sym same) ready;
            exit = ap (λ (a : Around). a.exit) same;
            more = let counted = ap (λ (a : Around). a.count) same in omega (arith, counted);
            inside = subst (λ n. AllIn steps (Owned ends false) before.exit first n from n from n) (sym ended) (nothing_in steps (Owned ends false) before.exit first from from from from);
          }
      flow_in (and_flow s rest) before behind ends from to first ready low exit (well, mid, between, begins, goes, one, others) =
          let head = statement_flow_in s before between ends from mid first ready low (behind_earlier before.exit to mid goes exit) one in
          let same = head.exit in
          let tail = flow_in rest between behind ends mid to first head.ready (omega (arith, low, begins)) (subst (λ e. ExitBehind e to) (sym same) exit) others in
          record {
            rises = omega (arith, begins, goes);
            ready = tail.ready;
            exit = tail.exit ∙ same;
            more = let a = head.more in let b = tail.more in omega (arith, a, b);
            inside =
                joined steps (Owned ends (captures_flow steps (and_flow s rest))) before.exit first to from mid to begins goes
                (λ place step start stop there.
                moved steps (owns_of ends s) (Owned ends (captures_flow steps (and_flow s rest))) before.exit first mid to from from mid mid place step.base step.kind (omega arith) goes (omega arith)
                (λ captured end owned. let mine = owns_one ends s captured end owned in inr (mine.0, λ is. first_captures steps s rest (mine.1 is))) (λ free. free) (head.inside place step start stop there))
                (λ place step start stop there.
                subst (λ e. In steps (Owned ends (captures_flow steps (and_flow s rest))) e first to mid to place step.base step.kind) same
                (moved steps (Owned ends (captures_flow steps rest)) (Owned ends (captures_flow steps (and_flow s rest))) between.exit first to to mid mid to to place step.base step.kind (omega arith) (omega arith) (omega arith)
                (λ captured end owned. inr (owned.0, λ is. rest_captures steps s rest (owned.1 is))) (λ free. free) (tail.inside place step start stop there)));
          }

      pub statement_flow_in : (s : FlowStatement) (before behind : Around) (ends from to first : ℕ) → IsReady first before → first ≤ from → ExitBehind before.exit to → FlowStatementLies steps before behind ends s from to
          → FlowIn first before behind (owns_of ends s) from to
      statement_flow_in (step_flow step) before behind ends from to first ready low exit lies = step_in before behind ends step from to first ready low lies
      statement_flow_in (return_flow step) before behind ends from to first ready low exit (same, here, at, next) =
          same_behind before behind ends from to first ready same
          (omega (arith, next), subst (λ n. AllIn steps NoneOwned before.exit first n from n from n) (sym next) (one_in steps NoneOwned before.exit first (suc from) from (suc from) from StepKind.Return at.1 (λ step there. tt)))
      statement_flow_in break_flow before behind ends from to first ready low exit (same, lies) = same_behind before behind ends from to first ready same (break_in before.exit first from to before ready.captured ready.known exit lies)
      statement_flow_in (do_flow body) before behind ends from to first ready low exit (same, block) =
          same_behind before behind ends from to first ready same (shut_in body before before first from to ready low exit (flow_in body) block)
      statement_flow_in (while_flow logic body) before behind ends from to first ready low exit (same, start, back, begins, goes, tests, told, block, jump, next) =
          let inner = shut_in body before (in_loop to before) from start back (ready_loop to from before ready.captured) begins (omega (arith, next)) (flow_in body) block in
          same_behind before behind ends from to first ready same (
            omega (arith, begins, goes, next),
            loop_in before.exit first from to
                (both steps NoneOwned None 0 to from to from start to
                (logic_in steps NoneOwned None 0 to from to logic false to from start tests (omega arith) (omega (arith, goes, next)) (omega (arith, begins, goes, next), omega arith))
                (both steps NoneOwned None 0 to from to start back to
                (block_kept (Some (record { place = to; locals = before.count })) from start back from to (omega arith) begins (omega (arith, next)) (omega arith) inner.1)
                (jump_to None 0 to from to from back to jump.1 (omega arith, omega (arith, begins, goes, next)) next))),
          )
      statement_flow_in (repeat_flow body logic) before behind ends from to first ready low exit (same, start, inside, begins, inl (none, goes, lies, tests, told)) =
          let inner = flow_in body (in_loop to before) inside to from start from (ready_loop to from before ready.captured) (omega arith) goes lies in
          same_behind before behind ends from to first ready same (
            omega (arith, begins, goes),
            loop_in before.exit first from to
                (both steps NoneOwned None 0 to from to from start to
                (λ place step begun stops there.
                kept steps (Owned to (captures_flow steps body)) (Some (record { place = to; locals = before.count })) from start to from from start to place step.base step.kind (omega arith) goes goes (omega arith) (omega arith)
                (λ captured end owned. reach_owned (captures_flow steps body) captured to end to (λ is. absurd (false≢true (sym none ∙ is))) (omega arith) owned) (inner.inside place step begun stops there))
                (logic_in steps NoneOwned None 0 to from to logic false from start to tests begins (omega arith) (omega arith, omega (arith, begins, goes)))),
          )
      statement_flow_in (repeat_flow body logic) before behind ends from to first ready low exit (same, start, inside, begins, inr (some, tested, high, lies, tests, told, close, out, again, back, next)) =
          let inner = flow_in body (in_loop to before) inside (tested + 2) from start from (ready_loop to from before ready.captured) (omega arith) (omega (arith, high, next)) lies in
          same_behind before behind ends from to first ready same
          (omega (arith, begins, high, next), loop_in before.exit first from to (closed_in body before inside logic from start tested to begins high inner tests close out.1 again back.1 next))
      statement_flow_in (for_flow step numeric body) before behind ends from to first ready low exit (same, here, foot, variables_end, captured, hidden, inside, small, head, hides, declares, begins, block, variables, footed, next) =
          let ready_hidden = ready_declared from false (in_loop to before) hidden from (ready_loop to from before ready.captured) (omega arith) hides.0 in
          let ready_inside = ready_declared from captured hidden inside from ready_hidden (omega arith) declares in
          let is : inside.exit ≡ Some (record { place = to; locals = before.count }) = declares.exit ∙ hides.0.exit in
          let before_foot = variables_low steps hidden captured variables_end foot variables in
          let inner = shut_in body inside inside from (suc from) variables_end ready_inside (omega arith) (subst (λ e. ExitBehind e variables_end) (sym is) (omega (arith, before_foot, next))) (flow_in body) block in
          let whole = for_in before hidden inside from to foot variables_end numeric captured to head variables footed next begins
          (block_kept inside.exit from (suc from) variables_end from to (subst (λ e. ExitWithin steps e to) (sym is) (omega arith)) (omega arith) (omega (arith, before_foot, next)) (omega arith) inner.1) in
          same_behind before behind ends from to first ready same (whole.0, loop_in before.exit first from to whole.1)
      statement_flow_in (if_flow logic body rest) before behind ends from to first ready low exit (same, lies) =
          same_behind before behind ends from to first ready same
          (arms_in rest logic body before from to first ready low exit lies
          (λ start stop below within block. shut_in body before before first start stop ready (omega (arith, low, below)) (behind_earlier before.exit to stop within exit) (flow_in body) block))

      arms_in : (rest : FlowArms) (logic : Logic) (block : Flow) (around : Around) (from to first : ℕ) → IsReady first around → first ≤ from → ExitBehind around.exit to
          → ArmLies steps around logic (captures_flow steps block) (λ from ends end. (inside : Around) × FlowLies steps around inside ends block from end) rest from to
          → ((start stop : ℕ) → from ≤ start → stop ≤ to → IsFlowBlock steps around (captures_flow steps block) (λ ends end. (inside : Around) × FlowLies steps around inside ends block start end) start stop → (start ≤ stop) × AllIn steps NoneOwned around.exit first stop start stop start stop)
          → (from ≤ to) × AllIn steps NoneOwned around.exit first to from to from to
      arms_in no_more logic first_block around from to first ready low exit (start, begins, goes, tests, told, block) each = (
        omega (arith, begins, goes),
        joined steps NoneOwned around.exit first to from start to begins goes (logic_in steps NoneOwned around.exit first to from start logic false to from start tests (omega arith) goes (omega (arith, begins, goes), omega arith))
            (each start to begins (omega arith) block).1,
      )
      arms_in (else_flow body) logic first_block around from to first ready low exit (start, last, begins, goes, ends, tests, told, block, jump, other) each = (
        omega (arith, begins, goes, ends),
        arm_in around.exit first logic from start last to begins goes ends tests jump.1 (each start last begins (omega (arith, ends)) block).1
            (shut_in body around around first (suc last) to ready (omega (arith, low, begins, goes)) exit (flow_in body) other).1,
      )
      arms_in (elseif_flow next body rest) logic first_block around from to first ready low exit (start, last, begins, goes, ends, tests, told, block, jump, others) each = (
        omega (arith, begins, goes, ends),
        arm_in around.exit first logic from start last to begins goes ends tests jump.1 (each start last begins (omega (arith, ends)) block).1
            (arms_in rest next body around (suc last) to first ready (omega (arith, low, begins, goes)) exit others
            (λ start stop below within block. shut_in body around around first start stop ready (omega (arith, low, begins, goes, below)) (behind_earlier around.exit to stop within exit) (flow_in body) block)).1,
      )
