-- What is known of a function in the making beside its statements that lie on steps: what is around, closes, and the ends of blocks.
use Rattle.std.proofs.Common.{◌≡◌, ◌≤◌, ◌<◌, ℕ, suc, Bool, true, false, List, [], length, refl, sym, ap, ◌∙◌, arith, subst}
use Rattle.std.proofs.lemmas.Bool.Decides.{nat_tests}
use Rattle.std.specs.Prelude.{Option, None, Some, nat_lt, slice_get, if◌then◌else◌}
use Rattle.lua_num.specs.Bytes.{Text}
use Rattle.lua_tree.specs.Syntax.{Statements, no_statements, Statement}
use Rattle.lua_tree.specs.WellFormed.{ends_block}
use Rattle.recover_expr.specs.Placing.{Steps}
use Rattle.recover_expr.specs.declared.steps.Step.{Step}
use Rattle.recover_expr.specs.declared.steps.StepKind.{StepKind}
use Rattle.recover_flow.specs.Asked.{kind_at}
use Rattle.recover_flow.specs.Flow as flowing
use Rattle.recover_flow.specs.Flow.{Flow, no_flow, FlowStatement, step_flow, Around, IsAt, IsFlowBlock, FlowLies, FlowStatementLies, captures_flow, declares_active, is_break, flow_levels, flow_statement_levels}
use Rattle.recover_flow.specs.Lying.{is_captured_at}
use Rattle.scheme.specs.Making.{Ahead, Maker, active_count, captured_from, end_locals, free_from}
use Rattle.scheme.specs.Scheme.{statement_made, statements_made}
use Rattle.scheme.specs.Statements.{Loop}
use Rattle.scheme.specs.declared.making.Active.{Active}
use Rattle.same_flow.specs.Written.{AreInRoom}
use Rattle.same_flow.specs.Declaring.{ClosesTell, declaring, declaring_before}
use Rattle.same_flow.specs.Laid as laid
use Rattle.same_flow.specs.Laid.{Exit, IsBlock, BodyLaid}
use Rattle.same_flow.specs.SameFlow.{HasPlainParts}
use Rattle.same_flow.specs.Space.{flow_space, flow_space_of}
use Rattle.same_flow.proofs.BlocksFollowed.{Matches}
use Rattle.same_flow.proofs.Followed.{Run, Follows, nought, LastTo, last_weaker, followed, ended}
use Rattle.same_flow.proofs.RenamedStatements.{statements_rename}
use Rattle.same_flow.proofs.StatementsFollowed.{body_goes}
use Rattle.same_flow.proofs.StepsTold.{same_active}
use Rattle.same_flow.proofs.TestsFollowed.{kind_there}
use Rattle.built_flow.proofs.BlocksBuilt.{as_laid}
use Rattle.built_flow.proofs.LaidDeclaring.{declared_stays, declared_before, none_before}
use Rattle.built_flow.proofs.LaidTests.{Counts, kind_told}
use Rattle.built_flow.proofs.StepsTold.{run_of}

-- ---- what is known

-- what is around before a step, where these locals are active
pub record Knows (code : Steps) (params names : List Text) (ahead : Ahead) (around : Around) (active : List Active) (p : ℕ) : Type 0 where
  pub counts : Counts around active
  pub declared : (register : ℕ) → register < around.count → slice_get (declaring code params names ahead p) register ≡ Some (around.declared register)

-- a statement declares a captured local of the block around it
abbrev pub statement_captures : List Step → FlowStatement → Bool
statement_captures steps (step_flow step) = is_captured_at (kind_at steps step)
statement_captures steps s = false

-- a statement that stands on steps lies there
pub record StatementFound (code : Steps) (params names : List Text) (ahead : Ahead) (around : Around) (stop : ℕ) (s : Statement) (loop : Option Loop) (m : Maker) (from to : ℕ) : Type 0 where
  pub found : FlowStatement
  pub behind : Around
  pub lies : FlowStatementLies code.steps around behind stop found from to
  pub knows : Knows code params names ahead behind (statement_made s 1 loop m).active to
  pub exit : behind.exit ≡ around.exit
  pub captures : statement_captures code.steps found ≡ captured_from (active_count m) (statement_made s 1 loop m)
  pub levels : AreInRoom code → flow_statement_levels code.steps found ≤ suc (flow_space_of s)
  pub last : is_break found ≡ true → ends_block s ≡ true

-- and so do all of a block
pub record BodyFound (code : Steps) (params names : List Text) (ahead : Ahead) (around : Around) (stop : ℕ) (block : Statements) (loop : Option Loop) (m : Maker) (from to : ℕ) : Type 0 where
  pub found : Flow
  pub behind : Around
  pub lies : FlowLies code.steps around behind stop found from to
  pub knows : Knows code params names ahead behind (statements_made block loop m).active to
  pub captures : captures_flow code.steps found ≡ captured_from (active_count m) (statements_made block loop m)
  pub levels : AreInRoom code → flow_levels code.steps found ≤ flow_space block
  pub none : block ≡ no_statements → found ≡ no_flow

-- and the whole block
pub record BlockFound (code : Steps) (outside around : Around) (block : Statements) (from to : ℕ) : Type 0 where
  pub found : Flow
  pub lies : IsFlowBlock code.steps outside (captures_flow code.steps found) (λ ends end. (inside : Around) × FlowLies code.steps around inside ends found from end) from to
  pub levels : AreInRoom code → flow_levels code.steps found ≤ flow_space block

module _ (code : Steps) (params names : List Text) (ahead : Ahead) (plain : HasPlainParts code) (closes : ClosesTell code params names ahead) where
  abbrev run : Run
  run = run_of code params names ahead

  -- what is found of a block wherever it stands
  abbrev pub BodyFinds : Statements → Type 0
  BodyFinds block =
      (around : Around) (exit : Option Exit) (stop : ℕ) (loop : Option Loop) (m : Maker) (ends : List ℕ) (from to : ℕ) → Follows run nought nought m ends from → Matches loop exit → exit ≡ as_laid around.exit →
      Knows code params names ahead around m.active from → LastTo stop ends → to ≤ stop → BodyLaid code exit stop block loop m from to → BodyFound code params names ahead around stop block loop m from to

  -- behind what leaves the active locals as they are
  pub knows_behind : (around : Around) (m : Maker) (ends : List ℕ) (p q : ℕ) (active : List Active) → Follows run nought nought m ends p → Knows code params names ahead around m.active p → active ≡ m.active → p ≤ q →
      LastTo q ends → Knows code params names ahead around active q
  knows_behind around m ends p q active follows knows same h l = record {
    counts = subst (λ (a : List Active). Counts around a) (sym same) knows.counts;
    declared = λ register less.
        let count = knows.counts.count in
        declared_stays code params names ahead plain m ends p q register (around.declared register) follows h l (omega arith) (knows.declared register less);
  }

  -- which step declares the local that is in a register before a step
  active_declared : (around : Around) (m : Maker) (ends : List ℕ) (p register : ℕ) → Follows run nought nought m ends p → Knows code params names ahead around m.active p → LastTo (suc p) ends →
      declaring_before code params names ahead p register ≡ declares_active around register
  active_declared around m ends p register follows knows l = by (nat_lt register around.count) refl
    where
      by : (b : Bool) → nat_lt register around.count ≡ b → declaring_before code params names ahead p register ≡ (if b then around.declared register else None)
      by true e =
          let less : register < around.count = grind (arith, nat_tests) in
          let count = knows.counts.count in
          declared_before code params names ahead plain m ends p register (around.declared register) follows l (omega arith) (knows.declared register less)
      by false e =
          let less : around.count ≤ register = grind (arith, nat_tests) in
          let count = knows.counts.count in
          none_before code params names ahead plain m ends p register follows l (omega arith)

  -- a CLOSE names the declaration of the first local that it closes
  pub close_found : (around : Around) (m : Maker) (ends : List ℕ) (p register : ℕ) (active : List Active) → Follows run nought nought m ends p → Knows code params names ahead around m.active p → LastTo (suc p) ends →
      Counts around active → laid.IsClose code active p register → flowing.IsClose code.steps around p register
  close_found around m ends p register active follows knows l counts close =
      let declared = close.0 in
      let standing = close.1.1.0 in
      subst (λ d. IsAt code.steps around p (StepKind.Close register d))
      (closes p register declared (kind_there standing) ∙ active_declared around m ends p register follows knows l)
      (kind_told code around active p (StepKind.Close register declared) counts standing)

  -- ---- blocks

  -- the own locals of a block have ended where it ends
  block_behind : (block : Statements) (exit : Option Exit) (loop : Option Loop) (m : Maker) (ends : List ℕ) (n from end : ℕ) → Follows run nought nought m ends from → Matches loop exit → length ends ≡ n →
      LastTo end ends → BodyLaid code exit end block loop m from end → Follows run nought nought (free_from n (end_locals n (statements_made block loop m))) ends end
  block_behind block exit loop m ends n from end follows matches count l body =
      let growth = body_goes run statements_rename plain block exit end loop m ends from end follows matches l (omega arith) body in
      followed {outer = []} (ended n growth.new count growth.ends_by) (followed growth.goes follows)

  pub block_found : (block : Statements) → BodyFinds block → (outside around : Around) (exit : Option Exit) (loop : Option Loop) (m : Maker) (ends : List ℕ) (n : ℕ) (active : List Active) (from to : ℕ) →
      Follows run nought nought m ends from → Matches loop exit → exit ≡ as_laid around.exit → Knows code params names ahead outside m.active from → Knows code params names ahead around m.active from →
      Counts outside active → length ends ≡ n → LastTo to ends →
      IsBlock code active n (captured_from n (statements_made block loop m)) (λ stop end. BodyLaid code exit stop block loop m from end) from to → BlockFound code outside around block from to
  block_found block finds outside around exit loop m ends n active from to follows matches same knows inner counts number l standing = by (captured_from n (statements_made block loop m)) refl standing
    where
      flag : captured_from (active_count m) (statements_made block loop m) ≡ captured_from n (statements_made block loop m)
      flag = ap (λ k. captured_from k (statements_made block loop m)) (sym follows.count ∙ number)

      by : (b : Bool) → captured_from n (statements_made block loop m) ≡ b → IsBlock code active n b (λ stop end. BodyLaid code exit stop block loop m from end) from to → BlockFound code outside around block from to
      by false e body =
          let it = finds around exit to loop m ends from to follows matches same inner l (omega arith) body in
          record {
            found = it.found;
            lies = subst (λ b. IsFlowBlock code.steps outside b (λ ends end. (inside : Around) × FlowLies code.steps around inside ends it.found from end) from to) (sym (it.captures ∙ flag ∙ e)) (it.behind, it.lies);
            levels = it.levels;
          }
      by true e (end, t, h, close, body) =
          let until = subst (λ x. LastTo x ends) t l in
          let last = last_weaker end (suc end) ends (omega arith) until in
          let it = finds around exit end loop m ends from end follows matches same inner last (omega arith) body in
          let behind = block_behind block exit loop m ends n from end follows matches number last body in
          let known = knows_behind outside m ends from end _ follows knows (same_active plain follows behind h last) h last in
          let number_there : n ≡ outside.count = sym number ∙ follows.count ∙ sym knows.counts.count in
          let closed = close_found outside _ ends end n active behind known until counts close in
          record {
            found = it.found;
            lies = subst (λ b. IsFlowBlock code.steps outside b (λ ends end. (inside : Around) × FlowLies code.steps around inside ends it.found from end) from to) (sym (it.captures ∙ flag ∙ e))
                (end, t, h, subst (λ k. flowing.IsClose code.steps outside end k) number_there closed, (it.behind, it.lies));
            levels = it.levels;
          }
