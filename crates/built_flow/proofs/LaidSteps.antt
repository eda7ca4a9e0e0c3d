-- Acts, declarations, returns and breaks that stand on steps lie there.
use Rattle.std.proofs.Common.{◌≡◌, ◌≤◌, ◌<◌, ℕ, zero, suc, ◌+◌, Bool, true, false, inl, inr, List, [], ◌∷◌, ◌++◌, length, drop, refl, sym, ap, ◌∙◌, arith, subst}
use Rattle.same_flow.specs.Written.{AreInRoom}
use Rattle.same_flow.specs.Declaring.{ClosesTell, declaring}
use Rattle.same_flow.proofs.FlowSame.{declared_count}
use Rattle.std.proofs.Math.Seq.{drop-append_seam}
use Rattle.std.proofs.lemmas.Bool.Decides.{nat_tests}
use Rattle.std.proofs.lemmas.List.{take_all}
use Rattle.std.proofs.lemmas.Option.{slice_get_within}
use Rattle.std.specs.Prelude.{Option, None, Some, nat_lt, slice_get, if◌then◌else◌}
use Rattle.lua_num.specs.Bytes.{Text}
use Rattle.lua_tree.specs.Names.{are_some_names}
use Rattle.lua_tree.specs.Syntax.{Statement, assignment, call_statement, function_statement, local_function, local_statement, return_statement, break_statement, FunctionBody, Expressions}
use Rattle.lua_tree.specs.WellFormed.{ends_block}
use Rattle.recover_expr.specs.Drafts.{Part, statement_part, values_part}
use Rattle.recover_expr.specs.Placing.{Steps}
use Rattle.recover_expr.specs.declared.steps.StepKind.{StepKind}
use Rattle.recover_flow.specs.Flow as flowing
use Rattle.recover_flow.specs.Flow.{FlowStatement, step_flow, return_flow, break_flow, Around, IsAt, CapturedBehind, Declares, BreakLies, FlowStatementLies, declares_active, is_break, flow_statement_levels}
use Rattle.recover_flow.specs.Lying.{is_captured_at}
use Rattle.recover_flow.specs.Plans.{levels_at, step_levels}
use Rattle.recover_flow.specs.declared.regions.Exit as region
use Rattle.scheme.specs.Making.{Ahead, Maker, active_count, any_captured, captured_from, declare, activate, take_registers}
use Rattle.scheme.specs.Lists.{adjust}
use Rattle.scheme.specs.Scheme.{all_coded, inner, statement_made}
use Rattle.scheme.specs.Statements.{Loop, settle}
use Rattle.scheme.specs.declared.making.Active.{Active}
use Rattle.same_flow.specs.Laid.{Exit, HasStep, LeavesTo, ActLaid, DeclarationLaid, StatementLaid, highest_captured}
use Rattle.same_flow.specs.SameFlow.{HasPlainParts}
use Rattle.same_flow.specs.Space.{space_of_statement, flow_space_of}
use Rattle.same_flow.specs.Told.{IsActPart, IsDeclarationPart}
use Rattle.same_flow.proofs.BlocksFollowed.{Matches}
use Rattle.same_flow.proofs.Followed.{Run, Follows, nought, LastTo, last_weaker, followed}
use Rattle.same_flow.proofs.HeadsFollowed.{activated_count}
use Rattle.same_flow.proofs.KeptActive.{active_kept, adjust_kept, all_kept, closure_kept}
use Rattle.same_flow.proofs.RenamedStatements.{statements_rename}
use Rattle.same_flow.proofs.RunKeeps.{declared_active, one_step_extends}
use Rattle.same_flow.proofs.StatementsTold.{statement_grows}
use Rattle.same_flow.proofs.TestsFollowed.{kind_there}
use Rattle.built_flow.proofs.BlocksBuilt.{as_laid}
use Rattle.built_flow.proofs.CapturesKept.{kept_front, quiet, none_captured, highest_most, highest_stays, highest_low, highest_high}
use Rattle.built_flow.proofs.LaidDeclaring.{declared_stays, declared_new}
use Rattle.built_flow.proofs.LaidFlow.{Knows, StatementFound, statement_captures, knows_behind, close_found}
use Rattle.built_flow.proofs.LaidTests.{Counts, kind_told, in_room}
use Rattle.built_flow.proofs.StepsTold.{run_of}

-- ---- levels

-- the levels of a step that stands
pub levels_there : (code : Steps) (active : List Active) (at : ℕ) (kind : StepKind) (part : Part) (standing : HasStep code active at kind part) → step_levels code.steps at ≡ standing.0.step.levels
levels_there code active at kind part standing = ap levels_at standing.0.there

-- what has no blocks takes the same room anywhere, but for a `return`
act_space : (s : Statement) → IsActPart s → space_of_statement s ≡ flow_space_of s
act_space (assignment targets es) act = refl
act_space (call_statement e) act = refl
act_space (function_statement path method body) act = refl
act_space s act = absurd act

declaration_space : (s : Statement) → IsDeclarationPart s → space_of_statement s ≡ flow_space_of s
declaration_space (local_function name body) is = refl
declaration_space (local_statement names es) is = refl
declaration_space s is = absurd is

-- ---- locals that come into scope

-- the highest captured local, behind others that come into scope
pub captured_behind : (flag : Bool) (before behind : Around) (old all rest : List Active) → all ≡ old ++ rest → Counts before old → Counts behind all → any_captured (drop (length old) all) ≡ flag →
    CapturedBehind flag before behind
captured_behind true before behind old all rest e counts others h =
    let a = highest_high (length old) all h in
    let b = highest_most 0 all in
    let c = counts.count in
    let d = others.count in
    let f = others.captured in
    (omega arith, omega arith)
captured_behind false before behind old all rest e counts others h =
    let none : any_captured rest ≡ false = ap any_captured (sym (ap (drop (length old)) e ∙ drop-append_seam old rest)) ∙ h in
    others.captured ∙ ap (highest_captured 0) e ∙ highest_stays 0 old rest none ∙ sym counts.captured

-- those from the count of the others on are declared by a step
abbrev pub declared_at : Around → (step register : ℕ) → Option ℕ
declared_at around step register = if nat_lt register around.count then around.declared register else Some step

pub declared_low : (around : Around) (step register : ℕ) → register < around.count → declared_at around step register ≡ around.declared register
declared_low around step register less = by (nat_lt register around.count) refl
  where
    by : (b : Bool) → nat_lt register around.count ≡ b → (if b then around.declared register else Some step) ≡ around.declared register
    by true e = refl
    by false e = absurd (grind (arith, nat_tests))

pub declared_high : (around : Around) (step register : ℕ) → around.count ≤ register → declared_at around step register ≡ Some step
declared_high around step register less = by (nat_lt register around.count) refl
  where
    by : (b : Bool) → nat_lt register around.count ≡ b → (if b then around.declared register else Some step) ≡ Some step
    by true e = absurd (grind (arith, nat_tests))
    by false e = refl

-- ---- names

pub some_names : (names : List Text) → are_some_names names ≡ true → 1 ≤ length names
some_names [] e = cc
some_names (name ∷ names) e = let n = length names in omega arith

act_quiet : (s : Statement) → IsActPart s → IsDeclarationPart s → ⊥
act_quiet (local_function name body) a d = a
act_quiet (local_statement names es) a d = a
act_quiet s a d = d

module _ (code : Steps) (params names : List Text) (ahead : Ahead) (plain : HasPlainParts code) (closes : ClosesTell code params names ahead) where
  abbrev run : Run
  run = run_of code params names ahead

  -- the list of declarations is long enough
  list_long : (around : Around) (active : List Active) (p : ℕ) → Knows code params names ahead around active p → around.count ≤ length (declaring code params names ahead p)
  list_long around active p knows = by around.count refl
    where
      by : (n : ℕ) → around.count ≡ n → n ≤ length (declaring code params names ahead p)
      by zero e = omega arith
      by (suc n) e = let a = slice_get_within (declaring code params names ahead p) n (around.declared n) (knows.declared n (omega arith)) in omega arith

  -- behind a step that brings locals into scope
  pub declared_behind : (around : Around) (m n : Maker) (ends others : List ℕ) (from register : ℕ) → Follows run nought nought m ends from → Knows code params names ahead around m.active from → LastTo (suc from) ends →
      Follows run nought nought n others (suc from) → register < active_count n → slice_get (declaring code params names ahead (suc from)) register ≡ Some (declared_at around from register)
  declared_behind around m n ends others from register follows knows l behind less = by (nat_lt register around.count) refl
    where
      by : (b : Bool) → nat_lt register around.count ≡ b → slice_get (declaring code params names ahead (suc from)) register ≡ Some (if b then around.declared register else Some from)
      by true e =
          let low : register < around.count = grind (arith, nat_tests) in
          let count = knows.counts.count in
          declared_stays code params names ahead plain m ends from (suc from) register (around.declared register) follows (omega arith) l (omega arith) (knows.declared register low)
      by false e =
          let high : around.count ≤ register = grind (arith, nat_tests) in
          let count = knows.counts.count in
          let long = list_long around m.active from knows in
          declared_new code params names ahead plain m n ends others from register follows l behind (omega arith) (omega arith) less

  -- ---- statements that declare no locals

  pub quiet_found : (s : Statement) → (IsDeclarationPart s → ⊥) → (around : Around) (exit : Option Exit) (stop : ℕ) (loop : Option Loop) (m : Maker) (ends : List ℕ) (from to : ℕ) → Follows run nought nought m ends from →
      Matches loop exit → Knows code params names ahead around m.active from → LastTo stop ends → to ≤ stop → from ≤ to → StatementLaid code exit stop s loop m from to →
      (found : FlowStatement) → FlowStatementLies code.steps around around stop found from to → statement_captures code.steps found ≡ false →
      (AreInRoom code → flow_statement_levels code.steps found ≤ suc (flow_space_of s)) → (is_break found ≡ true → ends_block s ≡ true) →
      StatementFound code params names ahead around stop s loop m from to
  quiet_found s undeclared around exit stop loop m ends from to follows matches knows l h order standing found lies none levels last =
      let growth = statement_grows run statements_rename plain s exit stop loop m ends from to follows matches l h order standing in
      let made = statement_made s 1 loop m in
      let until = last_weaker to stop ends h l in
      let few = quiet s undeclared loop m in
      let front = kept_front run plain m (settle made) ends growth.new from to follows (followed growth.goes follows) order until in
      let same : made.active ≡ m.active = sym (take_all (active_count m) made.active few) ∙ front in
      record {
        found = found;
        behind = around;
        lies = lies;
        knows = knows_behind code params names ahead plain closes around m ends from to made.active follows knows same order until;
        exit = refl;
        captures = none ∙ sym (none_captured (active_count m) made few);
        levels = levels;
        last = last;
      }

  pub act_found : (s : Statement) → IsActPart s → (around : Around) (exit : Option Exit) (stop : ℕ) (loop : Option Loop) (m : Maker) (ends : List ℕ) (from to : ℕ) → Follows run nought nought m ends from →
      Matches loop exit → Knows code params names ahead around m.active from → LastTo stop ends → to ≤ stop → from ≤ to → StatementLaid code exit stop s loop m from to → ActLaid code m s from to →
      StatementFound code params names ahead around stop s loop m from to
  act_found s act around exit stop loop m ends from to follows matches knows l h order standing (there, t) =
      quiet_found s (act_quiet s act) around exit stop loop m ends from to follows matches knows l h order standing (step_flow from)
      (refl, t, inl (kind_told code around m.active from StepKind.Act knows.counts there.0, refl)) (ap is_captured_at (kind_there there.0))
      (λ room.
      let a = in_room code m.active from StepKind.Act (statement_part s) there room in
      let b = levels_there code m.active from StepKind.Act (statement_part s) there in
      let c = act_space s act in
      omega arith) (λ e. cc)

  pub return_found : (es : Expressions) (around : Around) (exit : Option Exit) (stop : ℕ) (loop : Option Loop) (m : Maker) (ends : List ℕ) (from to : ℕ) → Follows run nought nought m ends from →
      Matches loop exit → Knows code params names ahead around m.active from → LastTo stop ends → to ≤ stop → from ≤ to → StatementLaid code exit stop (return_statement es) loop m from to →
      StatementFound code params names ahead around stop (return_statement es) loop m from to
  return_found es around exit stop loop m ends from to follows matches knows l h order standing =
      quiet_found (return_statement es) (λ d. d) around exit stop loop m ends from to follows matches knows l h order standing (return_flow from)
      (refl, refl, kind_told code around m.active from StepKind.Return knows.counts standing.0.0, standing.1) refl
      (λ room.
      let a = in_room code m.active from StepKind.Return (values_part es) standing.0 room in
      let b = levels_there code m.active from StepKind.Return (values_part es) standing.0 in
      omega arith) (λ e. refl)

  -- ---- breaks

  -- the local that is closed first is active
  close_active : (around : Around) (active : List Active) (at register : ℕ) → Counts around active → register < around.captured → flowing.IsClose code.steps around at register →
      IsAt code.steps around at (StepKind.Close register (around.declared register))
  close_active around active at register counts less close =
      let a = highest_most 0 active in
      let b = counts.count in
      let c = counts.captured in
      subst (λ d. IsAt code.steps around at (StepKind.Close register d)) (by (nat_lt register around.count) refl (omega arith)) close
    where
      by : (b : Bool) → nat_lt register around.count ≡ b → register < around.count → (if b then around.declared register else None) ≡ around.declared register
      by true e h = refl
      by false e h = absurd (grind (arith, nat_tests))

  leaves_there : (around : Around) (exit : Option region.Exit) (m : Maker) (ends : List ℕ) (from to : ℕ) → Follows run nought nought m ends from → Knows code params names ahead around m.active from → LastTo to ends →
      LeavesTo code (as_laid exit) m from to → BreakLies code.steps around exit from to
  leaves_there around None m ends from to follows knows l standing = absurd standing
  leaves_there around (Some exit) m ends from to follows knows l (inl (none, jump, t)) =
      let low = highest_low exit.locals m.active none in
      let same = knows.counts.captured in
      inl (omega arith, kind_told code around m.active from (StepKind.Jump exit.place) knows.counts jump.1.0, t)
  leaves_there around (Some exit) m ends from to follows knows l (inr (some, close, jump, t)) =
      let high = highest_high exit.locals m.active some in
      let same = knows.counts.captured in
      let less : exit.locals < around.captured = omega arith in
      let last = subst (λ x. LastTo x ends) t l in
      let first = last_weaker (suc from) (suc (suc from)) ends (omega arith) last in
      let closed = close_found code params names ahead plain closes around m ends from exit.locals m.active follows knows first knows.counts close in
      inr (less, close_active around m.active from exit.locals knows.counts less closed, kind_told code around m.active (suc from) (StepKind.Jump exit.place) knows.counts jump.1.0, t)

  pub break_found : (around : Around) (exit : Option Exit) (stop : ℕ) (loop : Option Loop) (m : Maker) (ends : List ℕ) (from to : ℕ) → Follows run nought nought m ends from → Matches loop exit →
      exit ≡ as_laid around.exit → Knows code params names ahead around m.active from → LastTo stop ends → to ≤ stop → from ≤ to → LeavesTo code exit m from to →
      StatementFound code params names ahead around stop break_statement loop m from to
  break_found around exit stop loop m ends from to follows matches same knows l h order standing =
      quiet_found break_statement (λ d. d) around exit stop loop m ends from to follows matches knows l h order standing break_flow
      (refl, leaves_there around around.exit m ends from to follows knows (last_weaker to stop ends h l) (subst (λ e. LeavesTo code e m from to) same standing)) refl
      (λ room. omega arith) (λ e. refl)

  -- ---- declarations

  declares_there : (flag : Bool) (around behind : Around) (step : ℕ) → around.count < behind.count → CapturedBehind flag around behind → ((register : ℕ) → behind.declared register ≡ declared_at around step register) →
      behind.exit ≡ around.exit → Declares step flag around behind
  declares_there flag around behind step more highest declared exit = record {
    more = more;
    highest = highest;
    same = λ register less. declared register ∙ declared_low around step register less;
    new = λ register low less. declared register ∙ declared_high around step register low;
    exit = exit;
  }

  declaration_found : (s : Statement) → IsDeclarationPart s → (around : Around) (exit : Option Exit) (stop : ℕ) (loop : Option Loop) (m : Maker) (ends : List ℕ) (from to : ℕ) → Follows run nought nought m ends from →
      Matches loop exit → Knows code params names ahead around m.active from → LastTo stop ends → to ≤ stop → from ≤ to → StatementLaid code exit stop s loop m from to → DeclarationLaid code m stop s from to →
      statement_made s 1 loop m ≡ statement_made s 1 None m → active_count m < active_count (statement_made s 1 loop m) → StatementFound code params names ahead around stop s loop m from to
  declaration_found s is around exit stop loop m ends from to follows matches knows l h order standing (there, t) anyhow more =
      let made = statement_made s 1 loop m in
      let flag = captured_from (active_count m) (statement_made s 1 None m) in
      let growth = statement_grows run statements_rename plain s exit stop loop m ends from to follows matches l h order standing in
      let last = subst (λ x. LastTo x ends) t (last_weaker to stop ends h l) in
      let behind_there = subst (λ x. Follows run nought nought (settle made) (ends ++ growth.new) x) t (followed growth.goes follows) in
      let one = (plain from (statement_part s) there.1).0 in
      let extends = one_step_extends s one 1 loop m in
      let behind : Around = record { count = active_count made; captured = highest_captured 0 made.active; declared = declared_at around from; exit = around.exit } in
      let counts : Counts behind made.active = record { count = refl; captured = refl } in
      let count = knows.counts.count in
      let same : captured_from (active_count m) made ≡ flag = ap (captured_from (active_count m)) anyhow in
      let highest = captured_behind flag around behind m.active made.active extends.0 extends.1 knows.counts counts same in
      record {
        found = step_flow from;
        behind = behind;
        lies = (
          refl,
          t,
          inr (
            flag,
            kind_told code around m.active from (StepKind.Declaration stop flag) knows.counts there.0,
            declares_there flag around behind from (omega arith) highest (λ register. refl) refl,
          ),
        );
        knows = record {
          counts = counts;
          declared = λ register less. subst (λ x. slice_get (declaring code params names ahead x) register ≡ Some (declared_at around from register)) (sym t)
              (declared_behind around m (settle made) ends (ends ++ growth.new) from register follows knows last behind_there less);
        };
        exit = refl;
        captures = ap is_captured_at (kind_there there.0) ∙ sym same;
        levels = λ room.
            let a = in_room code m.active from (StepKind.Declaration stop flag) (statement_part s) there room in
            let b = levels_there code m.active from (StepKind.Declaration stop flag) (statement_part s) there in
            let c = declaration_space s is in
            omega arith;
        last = λ e. cc;
      }

  pub local_found : (names' : List Text) (es : Expressions) → are_some_names names' ≡ true → (around : Around) (exit : Option Exit) (stop : ℕ) (loop : Option Loop) (m : Maker) (ends : List ℕ) (from to : ℕ) →
      Follows run nought nought m ends from → Matches loop exit → Knows code params names ahead around m.active from → LastTo stop ends → to ≤ stop → from ≤ to →
      StatementLaid code exit stop (local_statement names' es) loop m from to → StatementFound code params names ahead around stop (local_statement names' es) loop m from to
  local_found names' es some around exit stop loop m ends from to follows matches knows l h order standing =
      let declared = (declare names' m).after in
      let locals = (declare names' m).value in
      let valued = adjust 1 (all_coded es) (length names') declared in
      let a = activated_count locals valued in
      let b : active_count valued ≡ active_count m = ap (λ (x : List Active). length x) (active_kept (adjust_kept 1 (all_coded es) (all_kept es) (length names')) declared ∙ declared_active names' m) in
      let c = declared_count names' m in
      let d = some_names names' some in
      declaration_found (local_statement names' es) tt around exit stop loop m ends from to follows matches knows l h order standing standing refl (omega arith)

  pub local_function_found : (name : Text) (body : FunctionBody) (around : Around) (exit : Option Exit) (stop : ℕ) (loop : Option Loop) (m : Maker) (ends : List ℕ) (from to : ℕ) →
      Follows run nought nought m ends from → Matches loop exit → Knows code params names ahead around m.active from → LastTo stop ends → to ≤ stop → from ≤ to →
      StatementLaid code exit stop (local_function name body) loop m from to → StatementFound code params names ahead around stop (local_function name body) loop m from to
  local_function_found name body around exit stop loop m ends from to follows matches knows l h order standing =
      let locals = (declare (name ∷ []) m).value in
      let taken = take_registers 1 (declare (name ∷ []) m).after in
      let a : active_count (statement_made (local_function name body) 1 loop m) ≡ active_count (activate locals taken) =
      ap (λ (x : List Active). length x) (active_kept (closure_kept 1 (inner body false) m.free) (activate locals taken)) in
      let b : active_count (activate locals taken) ≡ active_count m + 1 = activated_count locals taken in
      declaration_found (local_function name body) tt around exit stop loop m ends from to follows matches knows l h order standing standing refl (omega arith)
