-- Serves a body. The steps that words make, as plain data.
use Rattle.std.specs.Prelude.{ℕ, List, Option}
use Rattle.lua_num.specs.Bytes.{Text}
use Rattle.lua_tree.specs.Syntax.{Statement, Expressions, Expression}
use Rattle.lua_tree.specs.View.{view_statement, view_exps, view_exp}
use Rattle.core_expr.specs.Values.{Value, view_core}
use Rattle.recover_expr.specs.Situation.{Situation}
use Rattle.recover_expr.specs.declared.draft.Draft.{Draft}
use Rattle.recover_expr.specs.declared.draft.DraftKind.{DraftKind}
use Rattle.recover_expr.specs.declared.steps.StepPart.{StepPart}
use Rattle.recover_expr.specs.declared.words.Read.{Read}

-- what stands of the source in a step
pub data Part : Type 0 where
  nothing_part : Part
  statement_part : Statement → Part
  values_part : Expressions → Part
  condition_part : Expression → Part
  -- the values and the variables of a loop
  head_part : Expressions → List Text → Part

abbrev pub view_part : StepPart → Part
view_part StepPart.Nothing = nothing_part
view_part (StepPart.Statement s) = statement_part (view_statement s)
view_part (StepPart.Values es) = values_part (view_exps es)
view_part (StepPart.Condition e) = condition_part (view_exp e)
view_part (StepPart.Head es names) = head_part (view_exps es) names

-- a step from one pc up to another; how many locals are active before it, and which is innermost; how many levels it needs
pub record Drafted : Type 0 where
  pub kind : DraftKind
  pub pc : ℕ
  pub next : ℕ
  pub base : ℕ
  pub innermost : Option ℕ
  pub levels : ℕ
  pub part : Part

abbrev pub view_draft : Draft → Drafted
view_draft d = record { kind = d.kind; pc = d.pc; next = d.next; base = d.base; innermost = d.innermost; levels = d.levels; part = view_part d.part }

-- the step that is read, which goes up to a pc
abbrev pub drafted : DraftKind → (next levels : ℕ) → Part → Situation → Drafted
drafted kind next levels part s = record { kind = kind; pc = s.pc; next = next; base = s.base; innermost = s.inside; levels = levels; part = part }

-- What a word does in its step: it makes a value for its register A, or it changes what stands in the registers, and the next word is at a pc; or it ends the step.
pub data Did : Type 0 where
  makes : Value → (next : ℕ) → Did
  goes : (next : ℕ) → Did
  ends : Drafted → Did

abbrev pub view_read : Read → Did
view_read (Read.Value core next) = makes (view_core core) next
view_read (Read.Next next) = goes next
view_read (Read.Step draft) = ends (view_draft draft)
