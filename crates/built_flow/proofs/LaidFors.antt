-- Loops `for` that stand on steps lie there.
use Rattle.std.proofs.Common.{◌≡◌, ◌≤◌, ◌<◌, ℕ, suc, ◌+◌, ◌-◌, Bool, true, false, List, [], ◌∷◌, ◌++◌, length, take, drop, refl, sym, ap, ap₂, ◌∙◌, arith, subst}
use Rattle.same_flow.specs.Declaring.{ClosesTell}
use Rattle.same_flow.proofs.FlowSame.{declared_count}
use Rattle.std.proofs.Math.Seq.{take-append_seam}
use Rattle.std.proofs.lemmas.Bool.{or_parts}
use Rattle.std.specs.List.{list_any}
use Rattle.std.specs.Prelude.{◌^◌, ◌||◌, Option, replicate}
use Rattle.lua_num.specs.Bytes.{Text}
use Rattle.lua_tree.specs.Names.{are_some_names}
use Rattle.lua_tree.specs.Syntax.{Statements, Statement, numeric_for, generic_for, Expressions, no_expressions, expression, Expression, ForStep, no_step, by_step}
use Rattle.lua_tree.specs.WellFormed.{has_expressions}
use Rattle.opcode.specs.declared.op.Op.{Op}
use Rattle.recover_expr.specs.Drafts.{head_part}
use Rattle.recover_expr.specs.Placing.{Steps}
use Rattle.recover_expr.specs.declared.steps.StepKind.{StepKind}
use Rattle.recover_flow.specs.Flow as flowing
use Rattle.recover_flow.specs.Flow.{for_flow, Around, in_loop, Declares, IsHiddenBehind, VariablesLie}
use Rattle.scheme.specs.Expressions.{next_reg}
use Rattle.scheme.specs.Lists.{adjust}
use Rattle.scheme.specs.Making.{Ahead, Maker, active_count, any_captured, captured_from, declare, activate, end_locals, free_from, put, place, jump_to, used}
use Rattle.scheme.specs.Scheme.{coded, all_coded, step_coded, statements_made}
use Rattle.scheme.specs.Statements.{Loop, block_part, step_part, numeric_names, generic_names}
use Rattle.scheme.specs.declared.making.Active.{Active}
use Rattle.scheme.specs.declared.making.Local.{Local}
use Rattle.scheme.specs.declared.making.Piece.{Piece}
use Rattle.same_flow.specs.Laid.{Exit, HasStep, HasKind, IsBlock, BodyLaid, StatementLaid, VariablesEnd, highest_captured, label_of, with_new_labels, numeric_valued, numeric_begun, generic_valued, generic_begun, for_loop_of, exit_to, head_values}
use Rattle.same_flow.specs.SameFlow.{HasPlainParts}
use Rattle.same_flow.specs.Space.{flow_space, flow_space_of, space_of_expressions}
use Rattle.same_flow.specs.Told.{IsDeclarationPart}
use Rattle.same_flow.proofs.BlocksFollowed.{Matches, replicate_ends}
use Rattle.same_flow.proofs.Followed.{Run, Follows, nought, LastTo, last_weaker, append_nothing, append_again, ended_follows}
use Rattle.same_flow.proofs.ForsFollowed.{for_ends, hidden_to, at_begun}
use Rattle.same_flow.proofs.ForStatements.{for_last}
use Rattle.same_flow.proofs.ForsTold.{hidden_count, hidden_lasts, numeric_hidden, generic_hidden, numeric_variables, generic_variables, step_kept}
use Rattle.same_flow.proofs.HeadsFollowed.{Head, activated_count, numeric_head_goes, generic_head_goes}
use Rattle.same_flow.proofs.KeptActive.{active_kept, kept, all_kept, next_kept, adjust_kept}
use Rattle.same_flow.proofs.RenamedStatements.{statements_rename}
use Rattle.same_flow.proofs.RunKeeps.{declared_active}
use Rattle.same_flow.proofs.StatementsTold.{block_follows}
use Rattle.same_flow.proofs.StepsTold.{same_active}
use Rattle.built_flow.specs.BuiltLaid.{FewLocals}
use Rattle.built_flow.proofs.CapturesKept.{highest_stays}
use Rattle.built_flow.proofs.LaidDeclaring.{declared_stays}
use Rattle.built_flow.proofs.LaidFlow.{Knows, StatementFound, BodyFinds, close_found, block_found}
use Rattle.built_flow.proofs.LaidLoops.{loop_exit}
use Rattle.built_flow.proofs.LaidSteps.{levels_there, captured_behind, declared_at, declared_low, declared_high, declared_behind, some_names, quiet_found}
use Rattle.built_flow.proofs.LaidTests.{Counts, kind_told, in_room, some_room}
use Rattle.built_flow.proofs.StepsTold.{run_of}

-- ---- hidden locals

-- others behind these, of which none is captured
pub record Uncaptured (before after : List Active) : Type 0 where
  pub rest : List Active
  pub whole : after ≡ before ++ rest
  pub none : any_captured rest ≡ false

activated_uncaptured : (locals : List Local) (m : Maker) → list_any (λ (local : Local). local.captured) locals ≡ false → Uncaptured m.active (activate locals m).active
activated_uncaptured [] m h = record { rest = []; whole = sym (append_nothing m.active); none = refl }
activated_uncaptured (local ∷ locals) m h =
    let one : Active = record { local = local; listed = length m.locals } in
    let parts = or_parts local.captured (list_any (λ (local : Local). local.captured) locals) h in
    let others = activated_uncaptured locals _ parts.1 in
    record {
      rest = one ∷ others.rest;
      whole = others.whole ∙ append_again m.active (one ∷ []) others.rest;
      none = ap₂ (λ a b. a || b) parts.0 others.none;
    }

numeric_uncaptured : (name : Text) (first last : Expression) (by : ForStep) (m : Maker) → Uncaptured m.active (numeric_valued 1 name first last by m).active
numeric_uncaptured name first last by m =
    let declared = (declare (name ∷ []) m).after in
    let one = next_reg (coded first) declared in
    let two = next_reg (coded last) one in
    let three = step_part 1 (step_coded by) two in
    let same : three.active ≡ m.active = step_kept by two ∙ active_kept (next_kept (kept last)) one ∙ active_kept (next_kept (kept first)) declared in
    subst (λ (a : List Active). Uncaptured a (numeric_valued 1 name first last by m).active) same (activated_uncaptured numeric_names three refl)

generic_uncaptured : (names : List Text) (es : Expressions) (m : Maker) → Uncaptured m.active (generic_valued 1 names es m).active
generic_uncaptured names es m =
    let declared = (declare names m).after in
    let three = adjust 1 (all_coded es) 3 declared in
    let same : three.active ≡ m.active = active_kept (adjust_kept 1 (all_coded es) (all_kept es) 3) declared ∙ declared_active names m in
    subst (λ (a : List Active). Uncaptured a (generic_valued 1 names es m).active) same (activated_uncaptured generic_names three refl)

-- the values of a loop over numbers are in it
values_fit : (name : Text) (first last : Expression) (by : ForStep) (block : Statements) → space_of_expressions (head_values first last by) ≤ flow_space_of (numeric_for name first last by block)
values_fit name first last no_step block = omega arith
values_fit name first last (by_step e) block = omega arith

-- and take a level at least, as those of a loop over values do
some_values : (es : Expressions) → has_expressions es ≡ true → 1 ≤ space_of_expressions es
some_values no_expressions some = cc
some_values (expression e rest) some = let a = some_room e in omega arith

some_bounds : (first last : Expression) (by : ForStep) → 1 ≤ space_of_expressions (head_values first last by)
some_bounds first last no_step = some_values (head_values first last no_step) refl
some_bounds first last (by_step e) = some_values (head_values first last (by_step e)) refl

less_than : (a b : ℕ) → 0 < b → a ≤ b - 1 → a < b
less_than a b some h = omega arith

module _ (code : Steps) (params names : List Text) (ahead : Ahead) (plain : HasPlainParts code) (closes : ClosesTell code params names ahead) (few : FewLocals code) where
  abbrev run : Run
  run = run_of code params names ahead

  -- the variables end, behind a CLOSE where one is captured
  variables_lie : (hidden : Around) (m : Maker) (ends : List ℕ) (n : ℕ) (flag : Bool) (end foot : ℕ) (active : List Active) → Follows run nought nought m ends end → Knows code params names ahead hidden m.active end →
      LastTo foot ends → Counts hidden active → n ≡ hidden.count → VariablesEnd code active n flag end foot → VariablesLie code.steps hidden flag end foot
  variables_lie hidden m ends n false end foot active follows knows l counts number standing = standing
  variables_lie hidden m ends n true end foot active follows knows l counts number standing =
      let t = standing.0 in
      let last = subst (λ x. LastTo x ends) t l in
      (t, subst (λ k. flowing.IsClose code.steps hidden end k) number (close_found code params names ahead plain closes hidden m ends end n active follows knows last counts standing.1))

  for_found : (s : Statement) → (IsDeclarationPart s → ⊥) → (numeric : Bool) (values : Expressions) (variable_names : List Text) (block : Statements) → BodyFinds code params names ahead plain closes block →
      space_of_expressions values ≤ flow_space_of s → flow_space block ≤ flow_space_of s → 1 ≤ space_of_expressions values →
      (around : Around) (exit : Option Exit) (stop : ℕ) (loop : Option Loop) (m : Maker) (ends : List ℕ) (from to : ℕ) → Follows run nought nought m ends from → Matches loop exit →
      Knows code params names ahead around m.active from → LastTo stop ends → to ≤ stop → from ≤ to → StatementLaid code exit stop s loop m from to →
      (valued begun : Maker) (label foot variables_end : ℕ) → Head run m from label foot to variables_end begun → Uncaptured m.active valued.active → active_count valued ≡ active_count m + 3 →
      ((others : List Active) × (begun.active ≡ valued.active ++ others)) → active_count valued < active_count begun →
      HasStep code m.active from (StepKind.Head numeric foot to variables_end (captured_from (active_count m + 3) begun)) (head_part values variable_names) → from < variables_end →
      IsBlock code begun.active (active_count begun) (captured_from (active_count begun) (statements_made block (for_loop_of (active_count m) valued) begun))
      (λ ends end. BodyLaid code (exit_to to m) ends block (for_loop_of (active_count m) valued) begun (suc from) end) (suc from) variables_end →
      VariablesEnd code valued.active (active_count m + 3) (captured_from (active_count m + 3) begun) variables_end foot → HasKind code valued.active foot (StepKind.Foot numeric (suc from)) → to ≡ suc foot →
      StatementFound code params names ahead around stop s loop m from to
  for_found s undeclared numeric values variable_names block finds values_room block_room one_value around exit stop loop m ends from to follows matches knows l h order whole
      valued begun label foot variables_end head uncaptured number others more there less body variables foots t =
      let n = active_count m in
      let flag = captured_from (n + 3) begun in
      let last = last_weaker to stop ends h l in
      let lasting = for_last run valued.active (n + 3) flag from variables_end foot to ends variables less t last in
      let all = for_ends ends to head.variables variables_end in
      let all_last = lasting.1 head.variables in
      let start = at_begun head lasting.0 nought nought refl follows in
      let declared = declared_at around from in
      let out : Around = in_loop to around in
      let hidden : Around = record { count = active_count valued; captured = around.captured; declared = declared; exit = out.exit } in
      let inside : Around = record { count = active_count begun; captured = highest_captured 0 begun.active; declared = declared; exit = out.exit } in
      let count = knows.counts.count in
      let hidden_counts : Counts hidden valued.active = record {
        count = refl;
        captured = knows.counts.captured ∙ sym (ap (highest_captured 0) uncaptured.whole ∙ highest_stays 0 m.active uncaptured.rest uncaptured.none);
      } in
      let inside_counts : Counts inside begun.active = record { count = refl; captured = refl } in
      let known : Knows code params names ahead inside begun.active (suc from) = record {
        counts = inside_counts;
        declared = λ register less. declared_behind code params names ahead plain closes around m begun ends all from register follows knows lasting.0 start less;
      } in
      let it = block_found code params names ahead plain closes block finds inside inside (exit_to to m) (for_loop_of n valued) begun all (active_count begun) begun.active (suc from) variables_end start refl
      (loop_exit code params names ahead plain closes to around m from knows) known known inside_counts start.count all_last body in
      let hidden_behind : IsHiddenBehind from out hidden = (
        record {
          more = omega arith;
          highest = refl;
          same = λ register less. declared_low around from register less;
          new = λ register low less. declared_high around from register low;
          exit = refl;
        },
        omega arith,
      ) in
      let same_flag : any_captured (drop (length valued.active) begun.active) ≡ flag = ap (λ k. captured_from k begun) number in
      let variables_behind : Declares from flag hidden inside = record {
        more = more;
        highest = captured_behind flag hidden inside valued.active begun.active others.0 others.1 hidden_counts inside_counts same_flag;
        same = λ register less. refl;
        new = λ register low less. declared_high around from register (omega arith);
        exit = refl;
      } in
      let inner = block_follows run statements_rename plain block (exit_to to m) (for_loop_of n valued) begun all (active_count begun) begun.active (suc from) variables_end start start.count refl all_last body in
      let variables_ends = replicate head.variables variables_end in
      let inner_made = block_part 1 (statements_made block (for_loop_of n valued)) begun in
      let ended_there : Follows run nought nought (free_from (n + 3) (end_locals (n + 3) inner_made)) (hidden_to ends to) variables_end = ended_follows (n + 3) variables_ends (hidden_count ends to n follows.count) (replicate_ends head.variables variables_end) nought nought
      (subst (λ (es : List ℕ). Follows run nought nought inner_made es variables_end) (sym (append_again ends (replicate 3 to) variables_ends)) inner) in
      let through : suc from ≤ variables_end = omega (arith, less) in
      let same : take (n + 3) inner_made.active ≡ valued.active =
      ap₂ (λ x (a : List Active). take x a) (sym number) (same_active plain start inner through all_last ∙ others.1) ∙ take-append_seam valued.active others.0 in
      let known_hidden : Knows code params names ahead hidden (take (n + 3) inner_made.active) variables_end = record {
        counts = subst (λ (a : List Active). Counts hidden a) (sym same) hidden_counts;
        declared = λ register low.
            let below : register < active_count begun = omega (arith, low, more) in
            declared_stays code params names ahead plain begun all (suc from) variables_end register (declared register) start through all_last below (known.declared register below);
      } in
      let before_end : foot ≤ to = omega (arith, t) in
      let variables_there = variables_lie hidden _ (hidden_to ends to) (n + 3) flag variables_end foot valued.active ended_there known_hidden (hidden_lasts ends foot to before_end last) hidden_counts (sym number) variables in
      let few_there : around.count + 3 < 2 ^ 32 =
      less_than (around.count + 3) (2 ^ 32) (omega arith) (subst (λ k. k + 3 ≤ 2 ^ 32 - 1) (there.0.tells.base ∙ sym count) (few from there.0.step there.0.there)) in
      let head_kind = StepKind.Head numeric foot to variables_end flag in
      quiet_found code params names ahead plain closes s undeclared around exit stop loop m ends from to follows matches knows l h order whole (for_flow from numeric it.found) (
        refl,
        refl,
        foot,
        variables_end,
        flag,
        hidden,
        inside,
        few_there,
        kind_told code around m.active from head_kind knows.counts there.0,
        hidden_behind,
        variables_behind,
        less,
        it.lies,
        variables_there,
        kind_told code hidden valued.active foot (StepKind.Foot numeric (suc from)) hidden_counts foots.1.0,
        t,
      ) refl
      (λ room.
      let a = in_room code m.active from head_kind (head_part values variable_names) there room in
      let b = levels_there code m.active from head_kind (head_part values variable_names) there in
      let c = it.levels room in
      omega arith) (λ e. cc)

  pub numeric_found : (name : Text) (first final : Expression) (by : ForStep) (block : Statements) → BodyFinds code params names ahead plain closes block → (around : Around) (exit : Option Exit) (stop : ℕ)
      (loop : Option Loop) (m : Maker) (ends : List ℕ) (from to : ℕ) → Follows run nought nought m ends from → Matches loop exit → Knows code params names ahead around m.active from → LastTo stop ends → to ≤ stop →
      from ≤ to → StatementLaid code exit stop (numeric_for name first final by block) loop m from to → StatementFound code params names ahead around stop (numeric_for name first final by block) loop m from to
  numeric_found name first final by block finds around exit stop loop m ends from to follows matches knows l h order (foot, variables_end, there, less, body, variables, foots, t) =
      let valued = numeric_valued 1 name first final by m in
      let begun = numeric_begun 1 name first final by m in
      let head = numeric_head_goes statements_rename run plain name first final by m from foot to variables_end _ there in
      let one = (declare (name ∷ []) m).value in
      let more : active_count begun ≡ active_count valued + 1 =
      activated_count one (place (label_of valued) (put 1 (Piece.Jump Op.ForPrep m.free (suc (label_of valued))) (with_new_labels 3 valued))) in
      for_found (numeric_for name first final by block) (λ d. d) true (head_values first final by) (name ∷ []) block finds (values_fit name first final by block) (omega arith) (some_bounds first final by)
      around exit stop loop m ends from to follows matches knows l h order (foot, variables_end, there, less, body, variables, foots, t) valued begun (label_of valued) foot variables_end head
      (numeric_uncaptured name first final by m) (numeric_hidden name first final by m) (numeric_variables name first final by m) (omega arith) there less body variables foots t

  pub generic_found : (texts : List Text) (es : Expressions) (block : Statements) → are_some_names texts ≡ true → has_expressions es ≡ true → BodyFinds code params names ahead plain closes block → (around : Around) (exit : Option Exit) (stop : ℕ)
      (loop : Option Loop) (m : Maker) (ends : List ℕ) (from to : ℕ) → Follows run nought nought m ends from → Matches loop exit → Knows code params names ahead around m.active from → LastTo stop ends → to ≤ stop →
      from ≤ to → StatementLaid code exit stop (generic_for texts es block) loop m from to → StatementFound code params names ahead around stop (generic_for texts es block) loop m from to
  generic_found texts es block some some_es finds around exit stop loop m ends from to follows matches knows l h order (foot, variables_end, there, less, body, variables, foots, t) =
      let valued = generic_valued 1 texts es m in
      let begun = generic_begun 1 texts es m in
      let head = generic_head_goes statements_rename run plain texts es m from foot to variables_end _ there in
      let locals = (declare texts m).value in
      let grown : active_count begun ≡ active_count valued + length locals =
      activated_count locals (used (m.free + 6) (place (label_of valued) (jump_to 1 (suc (label_of valued)) (with_new_labels 3 valued)))) in
      let same = declared_count texts m in
      let enough = some_names texts some in
      for_found (generic_for texts es block) (λ d. d) false es texts block finds (omega arith) (omega arith) (some_values es some_es)
      around exit stop loop m ends from to follows matches knows l h order (foot, variables_end, there, less, body, variables, foots, t) valued begun (label_of valued) foot variables_end head
      (generic_uncaptured texts es m) (generic_hidden texts es m) (generic_variables texts es m) (omega arith) there less body variables foots t
