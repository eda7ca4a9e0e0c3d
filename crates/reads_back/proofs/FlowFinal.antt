-- What the steps of a function make is final in one whose labels are the pcs of steps, as what its statements make is final in the whole function.
use Rattle.std.proofs.Common.{◌≡◌, ◌<◌, ◌≤◌, ℕ, zero, suc, ◌+◌, max, Bool, true, false, get_or, List, [], ◌∷◌, ◌++◌, length, map, refl, sym, ap, ap₂, ◌∙◌, arith}
use Rattle.std.specs.Prelude.{None, Option, Some}
use Rattle.lua_num.specs.Bytes.{Text}
use Rattle.lua_tree.specs.Syntax.{Expressions, Statements, expression, no_expressions, return_statement}
use Rattle.opcode.specs.declared.op.Op.{Op}
use Rattle.recover_expr.specs.Drafts.{Part, condition_part, head_part, nothing_part, statement_part, values_part}
use Rattle.recover_expr.specs.Placing.{Steps}
use Rattle.recover_expr.specs.declared.steps.StepKind.{StepKind}
use Rattle.scheme.specs.Expressions.{next_reg}
use Rattle.scheme.specs.Functions.{empty_maker, reach_from, whole_function}
use Rattle.scheme.specs.Lists.{adjust}
use Rattle.scheme.specs.Making.{Ahead, Maker, activate, active_count, declare, end_locals, jump_to, put, used}
use Rattle.scheme.specs.Scheme.{all_coded, coded, statement_made, statements_made}
use Rattle.scheme.specs.Shapes.{plain_values, plainness}
use Rattle.scheme.specs.Statements.{generic_names, numeric_names, settle}
use Rattle.scheme.specs.declared.making.Item.{Item}
use Rattle.scheme.specs.declared.making.Piece.{Piece}
use Rattle.scheme_stands.proofs.Growth.{Final}
use Rattle.same_flow.specs.Listed.{pc_of_step}
use Rattle.same_flow.specs.Performed.{Performance, behind_step, counted_values, ended_before, head_made, kind_at, kind_made, part_at, part_made, performed_to}
use Rattle.same_flow.specs.Renaming.{renamed_item, renamed_piece}
use Rattle.same_flow.specs.SameFlow.{AreLaid, HasPlainParts, IsPlainPart, begun_of}
use Rattle.same_flow.specs.Told.{at_beginning}
use Rattle.same_flow.proofs.Endings.{labels_kept, numbered}
use Rattle.same_flow.proofs.FlowSame.{direct_reach, place_of, reach_same, steps_made}
use Rattle.same_flow.proofs.HeadsFollowed.{activated_labels, declared_labels}
use Rattle.same_flow.proofs.RenamedStatements.{statements_rename}
use Rattle.reads_back.proofs.ParametersRead.{begins_with}
use Rattle.reads_back.proofs.Tests.{first_of_both, second_of_both}

-- ---- steps make no labels

part_labels : (part : Part) → IsPlainPart part → (m : Maker) → (part_made part m).labels ≡ m.labels
part_labels (statement_part s) is m = labels_kept (statement_made s 1 None) m (statements_rename.statements (λ n. n) m.labels s 1 None is.0 is.1)
part_labels (values_part es) is m = labels_kept (statement_made (return_statement es) 1 None) m (statements_rename.statements (λ n. n) m.labels (return_statement es) 1 None tt is)
part_labels nothing_part is m = refl
part_labels (condition_part e) is m = refl
part_labels (head_part values names) is m = refl

counted_labels : (es : Expressions) → plain_values es ≡ true → (m : Maker) → (counted_values es m).labels ≡ m.labels
counted_labels (expression first (expression last no_expressions)) plain m =
    let rest = second_of_both (plainness first).value _ plain in
    labels_kept (next_reg (coded last)) _ (statements_rename.values (λ n. n) _ last (first_of_both (plainness last).value _ rest))
    ∙ labels_kept (next_reg (coded first)) m (statements_rename.values (λ n. n) m.labels first (first_of_both (plainness first).value _ plain))
counted_labels (expression first (expression last (expression by others))) plain m =
    let rest = second_of_both (plainness first).value _ plain in
    let more = second_of_both (plainness last).value _ rest in
    labels_kept (next_reg (coded by)) _ (statements_rename.values (λ n. n) _ by (first_of_both (plainness by).value _ more))
    ∙ labels_kept (next_reg (coded last)) _ (statements_rename.values (λ n. n) _ last (first_of_both (plainness last).value _ rest))
    ∙ labels_kept (next_reg (coded first)) m (statements_rename.values (λ n. n) m.labels first (first_of_both (plainness first).value _ plain))
counted_labels no_expressions plain m = refl
counted_labels (expression first no_expressions) plain m = refl

head_labels : (numeric : Bool) (foot : ℕ) (part : Part) → IsPlainPart part → (m : Maker) → (head_made numeric foot part m).labels ≡ m.labels
head_labels true foot (head_part values names) plain m =
    let declared = (declare names m).after in
    let valued = counted_values values declared in
    activated_labels (declare names m).value (put 1 (Piece.Jump Op.ForPrep declared.free foot) (activate numeric_names valued))
    ∙ activated_labels numeric_names valued ∙ counted_labels values plain declared ∙ declared_labels names m
head_labels false foot (head_part values names) plain m =
    let declared = (declare names m).after in
    let valued = adjust 1 (all_coded values) 3 declared in
    activated_labels (declare names m).value (used (declared.free + 6) (jump_to 1 foot (activate generic_names valued)))
    ∙ activated_labels generic_names valued ∙ labels_kept (adjust 1 (all_coded values) 3) declared (statements_rename.adjusted (λ n. n) declared.labels 1 values 3 plain) ∙ declared_labels names m
head_labels true foot nothing_part plain m = refl
head_labels false foot nothing_part plain m = refl
head_labels true foot (statement_part s) plain m = refl
head_labels false foot (statement_part s) plain m = refl
head_labels true foot (values_part es) plain m = refl
head_labels false foot (values_part es) plain m = refl
head_labels true foot (condition_part e) plain m = refl
head_labels false foot (condition_part e) plain m = refl

kind_labels : (code : Steps) (kind : StepKind) (part : Part) → IsPlainPart part → (m : Maker) → (kind_made code kind part m).labels ≡ m.labels
kind_labels code StepKind.Act part plain m = part_labels part plain m
kind_labels code StepKind.Return part plain m = part_labels part plain m
kind_labels code (StepKind.Declaration end captured) part plain m = part_labels part plain m
kind_labels code (StepKind.Test when target levels) (condition_part e) plain m = labels_kept ((coded e).jump_if when target) m (statements_rename.tests (λ n. n) m.labels e plain when target)
kind_labels code (StepKind.Test when target levels) nothing_part plain m = refl
kind_labels code (StepKind.Test when target levels) (statement_part s) plain m = refl
kind_labels code (StepKind.Test when target levels) (values_part es) plain m = refl
kind_labels code (StepKind.Test when target levels) (head_part values names) plain m = refl
kind_labels code (StepKind.Jump target) part plain m = refl
kind_labels code (StepKind.Close from declared) part plain m = refl
kind_labels code (StepKind.Head numeric foot end variables_end captured) part plain m = head_labels numeric foot part plain m
kind_labels code (StepKind.Foot true target) part plain m = refl
kind_labels code (StepKind.Foot false target) part plain m = refl

behind_labels : (code : Steps) (kind : Option StepKind) (part : Option Part) (now : Performance) → ((it : Part) → part ≡ Some it → IsPlainPart it) → (behind_step code kind part now).maker.labels ≡ now.maker.labels
behind_labels code (Some kind) (Some part) now plain = kind_labels code kind part (plain part refl) now.maker
behind_labels code None part now plain = refl
behind_labels code (Some kind) None now plain = refl

-- ---- the pcs of steps as labels

-- so many, from one on
abbrev places_from : (pcs : ℕ → ℕ) → (first count : ℕ) → List ℕ
places_from pcs first zero = []
places_from pcs first (suc count) = pcs first ∷ places_from pcs (suc first) count

place_there : (pcs : ℕ → ℕ) (first count i : ℕ) → i < count → get_or (places_from pcs first count) i 0 ≡ pcs (first + i)
place_there pcs first zero i within = absurd (omega (arith, within))
place_there pcs first (suc count) zero within = ap pcs (let same : first ≡ first + 0 = omega arith in same)
place_there pcs first (suc count) (suc i) within = place_there pcs (suc first) count i (omega (arith, within)) ∙ ap pcs (let same : suc first + i ≡ first + suc i = omega arith in same)

abbrev target_of : Piece → ℕ
target_of (Piece.Jump op a label) = label
target_of piece = 0

-- the highest label of these words
abbrev highest_label : List Item → ℕ
highest_label [] = 0
highest_label (item ∷ items) = max (target_of item.piece) (highest_label items)

piece_placed : (pcs : ℕ → ℕ) (count : ℕ) (piece : Piece) → target_of piece < count → renamed_piece (place_of (places_from pcs 0 count)) piece ≡ renamed_piece pcs piece
piece_placed pcs count (Piece.Jump op a label) within = ap (Piece.Jump op a) (place_there pcs 0 count label within ∙ ap pcs (let same : 0 + label ≡ label = omega arith in same))
piece_placed pcs count (Piece.Abc op a b c) within = refl
piece_placed pcs count (Piece.Abx op a bx) within = refl
piece_placed pcs count (Piece.Bare n) within = refl

items_placed : (pcs : ℕ → ℕ) (count : ℕ) (items : List Item) → highest_label items < count → map (renamed_item (place_of (places_from pcs 0 count))) items ≡ map (renamed_item pcs) items
items_placed pcs count [] within = refl
items_placed pcs count (item ∷ items) within =
    ap₂ (λ (piece : Piece) (rest : List Item). record { line = item.line; piece = piece } ∷ rest) (piece_placed pcs count item.piece (omega (arith, within))) (items_placed pcs count items (omega (arith, within)))

reach_first : (labels : List ℕ) (pc : ℕ) (items more : List Item) → reach_from labels pc items ≤ reach_from labels pc (items ++ more)
reach_first labels pc [] more = omega arith
reach_first labels pc (item ∷ items) more = let rest = reach_first labels (suc pc) items more in omega (arith, rest)

-- ---- a function

module _ (code : Steps) (plain : HasPlainParts code) (params names : List Text) (ahead : Ahead) where
  abbrev steps_maker : Maker
  steps_maker = (performed_to code (at_beginning code params names ahead) (length code.steps)).maker

  -- what the steps make, with the pcs of steps for labels
  abbrev pub placed_maker : Maker
  placed_maker = record steps_maker { labels = places_from (pc_of_step code params names ahead) 0 (suc (highest_label steps_maker.items)) }

  no_labels : (at : ℕ) → (performed_to code (at_beginning code params names ahead) at).maker.labels ≡ []
  no_labels zero = (begins_with params names ahead).labels
  no_labels (suc at) =
      let now = performed_to code (at_beginning code params names ahead) at in
      behind_labels code (kind_at code.steps at) (part_at code at) (ended_before at now) (plain at) ∙ no_labels at

  module _ (block : Statements) (laid : AreLaid code params names ahead block) where
    abbrev tree_maker : Maker
    tree_maker = statements_made block None (begun_of params names ahead)

    abbrev whole : Maker
    whole = whole_function 1 params (statements_made block None) (empty_maker ahead names)

    same_made : numbered (place_of tree_maker.labels) tree_maker ≡ numbered (pc_of_step code params names ahead) (settle (end_locals (active_count tree_maker) steps_maker))
    same_made = steps_made code params names ahead statements_rename plain block laid

    pub same_constants : whole.constants ≡ placed_maker.constants
    same_constants = ap (λ (m : Maker). m.constants) same_made

    pub same_upvalues : whole.upvalue_names ≡ placed_maker.upvalue_names
    same_upvalues = ap (λ (m : Maker). m.upvalue_names) same_made

    pub same_functions : whole.functions ≡ placed_maker.functions
    same_functions = ap (λ (m : Maker). m.functions) same_made

    pub same_high : whole.high ≡ placed_maker.high
    same_high = ap (λ (m : Maker). m.high) same_made

    same_reach : reach_from placed_maker.labels 0 placed_maker.items ≡ reach_from tree_maker.labels 0 tree_maker.items
    same_reach =
        let pcs = pc_of_step code params names ahead in
        reach_same placed_maker.labels 0 steps_maker.items
        ∙ ap (direct_reach 0) (items_placed pcs (suc (highest_label steps_maker.items)) steps_maker.items (omega arith) ∙ sym (ap (λ (m : Maker). m.items) same_made))
        ∙ sym (reach_same tree_maker.labels 0 tree_maker.items)

    -- it is final there where what the statements make is final in the whole function
    pub steps_final : Final 0 tree_maker whole → Final 0 steps_maker placed_maker
    steps_final final =
        let near = final.near in
        let first = reach_first tree_maker.labels 0 tree_maker.items (record { line = 1; piece = Piece.Abc Op.Return 0 1 0 } ∷ []) in
        record {
          items = λ i x is. is;
          constants = λ i x is. is;
          functions = λ i x is. is;
          labels = λ i from within. absurd (omega (arith, within, ap (λ (labels : List ℕ). length labels) (no_labels (length code.steps))));
          high = omega arith;
          fine = sym (ap (λ (m : Maker). m.misfits) same_made) ∙ final.fine;
          upvalues = refl;
          near = omega (arith, same_reach, near, first);
        }
