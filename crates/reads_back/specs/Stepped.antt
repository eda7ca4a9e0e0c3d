-- Serves the laws. Where each step of a function stands among its words, with the law of its names.
use Rattle.std.specs.Prelude.{◌≡◌, ◌-◌, ℕ, suc, true, false, List, length, slice_get, None, Some}
use Rattle.lua_num.specs.Bytes.{Text}
use Rattle.lua_tree.specs.Syntax as syntax
use Rattle.lua_tree.specs.Syntax.{Expressions, no_expressions, no_step, by_step, return_statement}
use Rattle.opcode.specs.declared.op.Op.{Op}
use Rattle.recover_expr.specs.Drafts.{Part, statement_part, values_part, condition_part, head_part}
use Rattle.recover_expr.specs.Placing.{Steps}
use Rattle.recover_expr.specs.declared.steps.Step.{Step}
use Rattle.recover_expr.specs.declared.steps.StepKind.{StepKind}
use Rattle.scheme.specs.Making.{Ahead, Maker, declare}
use Rattle.scheme.specs.declared.making.Active.{Active}
use Rattle.scheme.specs.declared.making.Piece.{Piece}
use Rattle.scheme_stands.proofs.Growth.{spot}
use Rattle.scheme_stands.specs.Lists.{AdjustAt}
use Rattle.scheme_stands.specs.Relation.{StatementAt, StepAt, related, all_related}
use Rattle.scheme_stands.specs.Words.{Fn, Seq, Stretch, WordAt}
use Rattle.same_flow.specs.Listed.{pc_of_step}
use Rattle.same_flow.specs.Performed.{kind_made, names_in, part_at}
use Rattle.same_flow.specs.Told.{before_step}

-- the values of a loop over numbers, and the step that is 1 where none is said
abbrev pub CountedAt : Fn → Expressions → List Active → (free : ℕ) → Stretch
CountedAt g (syntax.expression first (syntax.expression last no_expressions)) active free =
    Seq ((related g first).to_reg active free free) (Seq ((related g last).to_reg active (suc free) (suc free)) (StepAt g no_step active (suc (suc free))))
CountedAt g (syntax.expression first (syntax.expression last (syntax.expression by rest))) active free =
    Seq ((related g first).to_reg active free free) (Seq ((related g last).to_reg active (suc free) (suc free)) (StepAt g (by_step by) active (suc (suc free))))
CountedAt g values active free = λ p q. ⊥

-- a step of this kind with this part, before which and behind which the function is so far made; its jumps go to the pcs of steps
abbrev pub KindAt : Fn → Steps → (pcs : ℕ → ℕ) → StepKind → Part → (before behind : Maker) → Stretch
KindAt g code pcs StepKind.Act (statement_part s) before behind = StatementAt g None s before.active behind.active
KindAt g code pcs (StepKind.Declaration end captured) (statement_part s) before behind = StatementAt g None s before.active behind.active
KindAt g code pcs StepKind.Return (values_part es) before behind = StatementAt g None (return_statement es) before.active behind.active
KindAt g code pcs (StepKind.Test when target negated) (condition_part e) before behind = (related g e).jump_if before.active (length before.active) when (pcs target)
KindAt g code pcs (StepKind.Jump target) part before behind = WordAt g (Piece.Jump Op.Jmp 0 (pcs target))
KindAt g code pcs (StepKind.Close from declared) part before behind = WordAt g (Piece.Abc Op.Close from 0 0)
KindAt g code pcs (StepKind.Head true foot end variables_end captured) (head_part values names) before behind = Seq (CountedAt g values before.active before.free) (WordAt g (Piece.Jump Op.ForPrep before.free (pcs foot)))
KindAt g code pcs (StepKind.Head false foot end variables_end captured) (head_part values names) before behind =
    Seq (AdjustAt g (all_related g values) 3 before.active before.free) (WordAt g (Piece.Jump Op.Jmp 0 (pcs foot)))
KindAt g code pcs (StepKind.Foot true target) part before behind = WordAt g (Piece.Jump Op.ForLoop (length before.active - 3) (pcs target))
KindAt g code pcs (StepKind.Foot false target) part before behind =
    Seq (WordAt g (Piece.Abc Op.TForLoop (length before.active - 3) 0 (names_in (part_at code (target - 1))))) (WordAt g (Piece.Jump Op.Jmp 0 (pcs target)))
KindAt g code pcs kind part before behind = λ p q. ⊥

-- the variables of a loop are declared before its values are made
abbrev pub begun_by : StepKind → Part → Maker → Maker
begun_by (StepKind.Head numeric foot end variables_end captured) (head_part values names) m = (declare names m).after
begun_by kind part m = m

-- a step stands between what is made before it and what is made with it
abbrev pub StepStands : Fn → Steps → (params names : List Text) → Ahead → (at : ℕ) → Type 0
StepStands g code params names ahead at =
    (step : Step) (part : Part) → slice_get code.steps at ≡ Some step → part_at code at ≡ Some part
    → let before = before_step code params names ahead at in
    let behind = kind_made code step.kind part before in
    KindAt g code (pc_of_step code params names ahead) step.kind part before behind (spot (begun_by step.kind part before)) (spot behind)
