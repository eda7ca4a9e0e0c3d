-- How the words of each step begin: what the first one reads is in registers of active locals.
use Rattle.std.proofs.Common.{◌≡◌, ◌<◌, ◌≤◌, inl, inr, ℕ, suc, ◌+◌, ◌-◌, Bool, true, false, not, ◌&&◌, ◌||◌, nat_le, nat_lt, List, length, None, Some, refl, sym, ap, ◌∙◌, arith, subst}
use Rattle.std.proofs.lemmas.Option.{same_Some}
use Rattle.std.specs.Prelude.{◌==◌, option_map}
use Rattle.lua_num.specs.Bytes.{Text}
use Rattle.lua_tree.specs.Syntax as syntax
use Rattle.lua_tree.specs.Syntax.{Expression, Expressions, no_expressions, Statement, Statements, assignment, call_statement, local_function, local_statement, return_statement, binary_expression, unary_expression, parenthesized}
use Rattle.lua_tree.specs.WellFormed.{has_expressions}
use Rattle.lua_tree.specs.declared.tree.BinaryOp.{BinaryOp}
use Rattle.lua_tree.specs.declared.tree.UnaryOp.{UnaryOp}
use Rattle.opcode.specs.Word.{truth_field}
use Rattle.opcode.specs.declared.op.Op.{Op}
use Rattle.opcode.specs.declared.word.Instr.{Instr}
use Rattle.recover_expr.specs.Effects.{is_from, makes_value, reads_as}
use Rattle.recover_expr.specs.Items.{stores_alone_as}
use Rattle.recover_expr.specs.Drafts.{Part, condition_part, head_part, statement_part, values_part}
use Rattle.recover_expr.specs.Placing.{Steps}
use Rattle.recover_expr.specs.Situation.{Function}
use Rattle.recover_expr.specs.declared.steps.Step.{Step}
use Rattle.recover_expr.specs.declared.steps.StepKind.{StepKind}
use Rattle.scheme.specs.Expressions.{comparison_word, count_field, fold, is_comparison}
use Rattle.scheme.specs.Making.{Ahead, Maker, declare}
use Rattle.scheme.specs.declared.making.Active.{Active}
use Rattle.scheme.specs.declared.making.Item.{Item}
use Rattle.scheme.specs.declared.making.Piece.{Piece}
use Rattle.scheme_stands.proofs.Growth.{spot}
use Rattle.scheme_stands.proofs.Lines.{declare_items}
use Rattle.scheme_stands.specs.Expressions.{BinaryAt, BinaryJump, CompareAt, LoadOr, TestAt, form_of, rel_single}
use Rattle.scheme_stands.specs.Lists.{AdjustAt, rels_count, rels_open}
use Rattle.scheme_stands.specs.Relation.{StatementAt, all_related, related}
use Rattle.scheme_stands.specs.Statements.{ListReturnAt, ReturnAt, ReturnBy}
use Rattle.scheme_stands.specs.Words.{Fn, Seq, Spot, WordAt, instr_by}
use Rattle.same_flow.specs.Told.{AreCounted}
use Rattle.same_flow.proofs.ListedRun.{step_there}
use Rattle.same_flow.proofs.StatementsTold.{laid_are_told}
use Rattle.reads_back.specs.Acted.{IsAct}
use Rattle.reads_back.specs.Assignments.{as_assignment}
use Rattle.reads_back.specs.Cores.{AllHaveCores, HasCore}
use Rattle.reads_back.specs.Stepped.{CountedAt}
use Rattle.reads_back.proofs.FeetHeld.{HasHidden, feet_held}
use Rattle.reads_back.proofs.FlowRead.{last_is}
use Rattle.reads_back.proofs.FlowThere.{IsFlowBy, StepIs, before_at, made_at, made_before, pcs}
use Rattle.reads_back.proofs.LeavesRead.{value_tests}
use Rattle.reads_back.proofs.LocalsLeave.{listed_of}
use Rattle.reads_back.proofs.LowStores.{Adjusted, NoneOrOpens, Opens, Plain, Whole, adjusted, assignment_opens, begun, first_opens, plain, whole, word_opens, word_whole}
use Rattle.reads_back.proofs.LowValues.{as_list, closure_alone, low_list, low_value, operand_row, rest_first, rk_row}
use Rattle.reads_back.proofs.LowWords.{Begun, First, IsLow, ReadsBelow, below_later, first_reads, first_then, low_lasts, operands_low, row_then, row_up, row_word, word_below}
use Rattle.reads_back.proofs.NameReads.{AreListed}
use Rattle.reads_back.proofs.SameStatements.{assigned_stands}
use Rattle.reads_back.proofs.TestedAs.{HasTest, HasTestBy}
use Rattle.reads_back.proofs.Tests.{and_not, not_below}
use Rattle.reads_back.proofs.TestsEnd.{jump_is_read}
use Rattle.reads_back.proofs.WordsBegin.{instr_is}
use Rattle.reads_back.proofs.WordsRead.{IsFunction, abc_is_read}

module _ {f : Function} {g : Fn} {active : List Active} {listed : List ℕ} (is_function : IsFunction f g) (all : AreListed f g active listed) where
  abbrev count : ℕ
  count = length active

  -- ---- words

  -- a word that makes no value and is no store
  word_plain : {code : Op} {a b c : ℕ} {p q : Spot} → WordAt g (Piece.Abc code a b c) p q → makes_value code ≡ false → ((base : ℕ) → stores_alone_as code (instr_by p.pc (Piece.Abc code a b c)) base ≡ false) →
      reads_as code (instr_by p.pc (Piece.Abc code a b c)) count ≡ false → Plain f count p.pc
  word_plain {code} {a} {b} {c} {p} word makes stores reads =
      record { instr = instr_by p.pc (Piece.Abc code a b c); there = instr_is is_function word (abc_is_read is_function word); reads = reads; makes = makes; stores = stores }

  -- a jump reads no register
  jump_below : {low label : ℕ} {p q : Spot} → WordAt g (Piece.Jump Op.Jmp 0 label) p q → ReadsBelow f low p.pc
  jump_below {low} word = word_below low is_function word (jump_is_read is_function word) refl

  jump_whole : {label : ℕ} {p q : Spot} → WordAt g (Piece.Jump Op.Jmp 0 label) p q → Whole f count count p.pc q.pc
  jump_whole word = word_whole count count is_function word (jump_is_read is_function word) refl (λ makes. absurd cc) refl

  -- ---- returns

  list_returns : (es : Expressions) → AllHaveCores es → has_expressions es ≡ true → (p q : Spot) → ListReturnAt g (all_related g es) active p q → Opens f count count p.pc q.pc
  list_returns no_expressions has some p q at = absurd cc
  list_returns (syntax.expression e es) has some p q at =
      let cs = all_related g (syntax.expression e es) in
      let is_open = rels_open cs in
      let word = at.second_at in
      let field = count_field 1 (rels_count cs) in
      let reads : (not (field == 1) && nat_le (suc count) count) ≡ false = ap (λ reads. not (field == 1) && reads) (not_below count (suc count) (omega arith)) ∙ and_not (not (field == 1)) in
      begun (first_then (low_list is_function all (syntax.expression e es) has is_open Op.Call None count p at.mid (omega arith) (inl refl) (as_list is_function all is_open cs count p at.mid at.first_at)) (word_below (suc count) is_function word (abc_is_read is_function word) reads))

  one_returns : (e : Expression) → HasCore e → (call dots : Bool) (p q : Spot) → ReturnBy call dots g (related g e) active p q → Opens f count count p.pc q.pc
  one_returns e has true dots p q at =
      let word = at.second_at in
      begun (first_then (rest_first ((low_value is_function all e has).multi count Op.TailCall None p at.mid (omega arith) (inr refl) at.first_at)) (word_below (suc count) is_function word (abc_is_read is_function word) (not_below count (suc count) (omega arith))))
  one_returns e has false true p q at = list_returns (syntax.expression e no_expressions) (has, tt) refl p q at
  one_returns e has false false p q at =
      let word = at.words_at in
      let read = abc_is_read is_function word in
      let row = operand_row is_function all e (low_value is_function all e has) count count at.x at.free1 p at.mid (omega arith) (omega arith) at.operand_at in
      word_opens (row_word row (omega arith) (λ n more below. word_below n is_function word read (not_below at.x n below))) (λ known. whole (word_whole count count is_function word read (not_below at.x count known.1) (λ makes. absurd cc) refl))

  return_opens : (es : Expressions) → AllHaveCores es → (p q : Spot) → ReturnAt g (all_related g es) active p q → Opens f count count p.pc q.pc
  return_opens no_expressions has p q at = whole (word_whole count count is_function at (abc_is_read is_function at) refl (λ makes. absurd cc) refl)
  return_opens (syntax.expression e no_expressions) has p q at = one_returns e has.0 (related g e).form.call (related g e).form.dots p q at
  return_opens (syntax.expression e (syntax.expression d es)) has p q at = list_returns (syntax.expression e (syntax.expression d es)) has refl p q at

  -- ---- statements

  declared_opens : (es : Expressions) (pc first last : ℕ) → first ≡ pc → Adjusted es f count count first last → NoneOrOpens f count count pc last
  declared_opens no_expressions pc first last same (inl none) = inl (sym same ∙ none)
  declared_opens no_expressions pc first last same (inr one) = inr (first_opens (omega arith) (subst (λ pc. First f count count count pc last) same one))
  declared_opens (syntax.expression e es) pc first last same one = inr (first_opens (omega arith) (subst (λ pc. First f count count count pc last) same one))

  pub statement_opens : (s : Statement) → IsAct s → (after : List Active) (p q : Spot) → StatementAt g None s active after p q → NoneOrOpens f count count p.pc q.pc
  statement_opens (call_statement e) is after p q at = inr (first_opens (omega arith) (rest_first ((low_value is_function all e is.1).multi count Op.Call (Some 0) p q (omega arith) (inl refl) at.part_at)))
  statement_opens (assignment targets es) is after p q at = assignment_opens is_function all targets es is p q at.part_at
  statement_opens (local_statement names es) is after p q at =
      let cs = all_related g es in
      declared_opens es p.pc at.mid.pc q.pc at.same (adjusted is_function all es is.1 (nat_lt (length cs) (length names)) (length names) count at.mid q (omega arith) at.values_at)
  statement_opens (local_function text body) is after p q at =
      inr (subst (λ pc. Opens f count count pc q.pc) at.same (first_opens (omega arith) (inl (closure_alone is_function all body after (count + 1) count at.mid q at.closure_at))))
  statement_opens (return_statement es) is after p q at = inr (return_opens es is p q at.part_at)
  statement_opens s is after p q at = absurd is

  -- ---- tests

  in_order : (code : Op) → makes_value code ≡ false → ((i : Instr) (base : ℕ) → stores_alone_as code i base ≡ false) → ((n : ℕ) (i : Instr) → reads_as code i n ≡ (is_from i.b n || is_from i.c n)) → (a x y : ℕ) (p q : Spot) → WordAt g (Piece.Abc code a x y) p q →
      ((n : ℕ) → IsLow n x → IsLow n y → ReadsBelow f n p.pc) × (IsLow count x → IsLow count y → Plain f count p.pc)
  in_order code makes stores reads a x y p q word =
      let i = instr_by p.pc (Piece.Abc code a x y) in
      let low = λ (n : ℕ) (first : IsLow n x) (second : IsLow n y). reads n i ∙ operands_low n x y first second in
      (λ n first second. word_below n is_function word (abc_is_read is_function word) (low n first second), λ first second. word_plain word makes (λ base. stores i base) (low count first second))

  module _ (truth : Bool) (label : ℕ) (p q : Spot) where
    tested_opens : (e : Expression) → HasCore e → TestAt g active (related g e) count truth label p q → Opens f count count p.pc q.pc
    tested_opens e has at =
        let word = at.words_at.first_at in
        let read = abc_is_read is_function word in
        let row = operand_row is_function all e (low_value is_function all e has) count count at.x at.free1 p at.mid (omega arith) (omega arith) at.operand_at in
        word_opens (row_word row (omega arith) (λ n more below. word_below n is_function word read (not_below at.x n below))) (λ known. plain (word_plain word refl (λ base. refl) (not_below at.x count known.1)))

    -- the word of a comparison reads both operands, in one order or the other
    compared_word : (op : BinaryOp) (x y : ℕ) (mid last : Spot) → WordAt g (comparison_word op truth x y) mid last →
        ((n : ℕ) → IsLow n x → IsLow n y → ReadsBelow f n mid.pc) × (IsLow count x → IsLow count y → Plain f count mid.pc)
    compared_word BinaryOp.Ne x y mid last word = in_order Op.Eq refl (λ i base. refl) (λ n i. refl) (truth_field (not truth)) x y mid last word
    compared_word BinaryOp.Lt x y mid last word = in_order Op.Lt refl (λ i base. refl) (λ n i. refl) (truth_field truth) x y mid last word
    compared_word BinaryOp.Le x y mid last word = in_order Op.Le refl (λ i base. refl) (λ n i. refl) (truth_field truth) x y mid last word
    compared_word BinaryOp.Gt x y mid last word = let turned = in_order Op.Lt refl (λ i base. refl) (λ n i. refl) (truth_field truth) y x mid last word in (λ n first second. turned.0 n second first, λ first second. turned.1 second first)
    compared_word BinaryOp.Ge x y mid last word = let turned = in_order Op.Le refl (λ i base. refl) (λ n i. refl) (truth_field truth) y x mid last word in (λ n first second. turned.0 n second first, λ first second. turned.1 second first)
    compared_word op x y mid last word = in_order Op.Eq refl (λ i base. refl) (λ n i. refl) (truth_field truth) x y mid last word

    compared_opens : (op : BinaryOp) (left right : Expression) → HasCore left → HasCore right → CompareAt g op (related g left) (related g right) active count truth label p q → Opens f count count p.pc q.pc
    compared_opens op left right has_left has_right at =
        let one = rk_row is_function all left (low_value is_function all left has_left) count count at.x at.free1 p at.mid (omega arith) (omega arith) at.left_at in
        let more = row_up one in
        let two = rk_row is_function all right (low_value is_function all right has_right) count at.free1 at.y at.free2 at.mid at.last (omega arith) (omega (arith, more)) at.right_at in
        let word = compared_word op at.x at.y at.last at.words_at.mid at.words_at.first_at in
        word_opens (row_word (row_then (low_lasts at.x) (low_lasts at.y) (omega arith) one two) (omega arith) (λ n more low. word.0 n low.0 low.1)) (λ known. plain (word.1 known.1.0 known.1.1))

    operator_opens : (compares : Bool) (line : ℕ) (op : BinaryOp) (l r : Expression) → is_comparison op ≡ compares → HasTestBy compares l r (binary_expression line op l r) → (related g (binary_expression line op l r)).jump_if active count truth label p q → Opens f count count p.pc q.pc
    operator_opens true line op l r is has at =
        let e = binary_expression line op l r in
        let value = rel_single g (form_of e) (LoadOr (fold e) g (BinaryAt g op (related g l) (related g r))) in
        compared_opens op l r has.0 has.1 (subst (λ (compares : Bool). BinaryJump compares g op (related g l) (related g r) value active count truth label p q) is at)
    operator_opens false line op l r is has at =
        let e = binary_expression line op l r in
        tested_opens e has.0 (value_tests g active count truth label p q e (subst (λ (compares : Bool). HasTestBy compares l r e) (sym is) has) has.0 has.1 at)

    pub test_opens : (e : Expression) → HasTest e → (related g e).jump_if active count truth label p q → Opens f count count p.pc q.pc
    test_opens (binary_expression line op l r) has at = operator_opens (is_comparison op) line op l r refl has at
    test_opens (unary_expression line UnaryOp.Not e) has at = absurd has
    test_opens (parenthesized line e) has at = absurd has
    test_opens e has at = tested_opens e has.0 (value_tests g active count truth label p q e has has.0 has.1 at)

  -- ---- heads and feet

  two_values : (first last : Expression) → HasCore first → HasCore last → (p mid behind : Spot) → (related g first).to_reg active count count p mid → (related g last).to_reg active (suc count) (suc count) mid behind → Begun f count count p.pc
  two_values first last has_first has_last p mid behind one two =
      let second = (low_value is_function all last has_last).value (suc count) (suc count) mid behind (omega arith) two in
      first_then ((low_value is_function all first has_first).value count count p mid (omega arith) one) (below_later count (suc count) (omega arith) (first_reads second))

  pub counted_begun : (es : Expressions) → AreCounted es → AllHaveCores es → (p q : Spot) → CountedAt g es active count p q → Begun f count count p.pc
  counted_begun (syntax.expression first (syntax.expression last no_expressions)) counted has p q at = two_values first last has.0 has.1.0 p at.mid at.second_at.mid at.first_at at.second_at.first_at
  counted_begun (syntax.expression first (syntax.expression last (syntax.expression by no_expressions))) counted has p q at = two_values first last has.0 has.1.0 p at.mid at.second_at.mid at.first_at at.second_at.first_at
  counted_begun es counted has p q at = absurd counted

  pub generic_begun : (es : Expressions) → has_expressions es ≡ true → AllHaveCores es → (label : ℕ) (p q : Spot) → Seq (AdjustAt g (all_related g es) 3 active count) (WordAt g (Piece.Jump Op.Jmp 0 label)) p q → Begun f count count p.pc
  generic_begun no_expressions some has label p q at = absurd cc
  generic_begun (syntax.expression e es) some has label p q at =
      let cs = all_related g (syntax.expression e es) in
      first_then (adjusted is_function all (syntax.expression e es) has (nat_lt (length cs) 3) 3 count p at.mid (omega arith) at.first_at) (jump_below at.second_at)

  numeric_foot : (label : ℕ) (p q : Spot) → 3 ≤ count → WordAt g (Piece.Jump Op.ForLoop (count - 3) label) p q → Opens f count count p.pc q.pc
  numeric_foot label p q three word = whole (word_whole count count is_function word (jump_is_read is_function word) (not_below (count - 3) count (omega (arith, three))) (λ makes. absurd cc) refl)

  generic_foot : (names label : ℕ) (p q : Spot) → 3 ≤ count → Seq (WordAt g (Piece.Abc Op.TForLoop (count - 3) 0 names)) (WordAt g (Piece.Jump Op.Jmp 0 label)) p q → Opens f count count p.pc q.pc
  generic_foot names label p q three at = plain (word_plain at.first_at refl (λ base. refl) (not_below (count - 3) count (omega (arith, three))))

  close_opens : (register : ℕ) (p q : Spot) → WordAt g (Piece.Abc Op.Close register 0 0) p q → Opens f count count p.pc q.pc
  close_opens register p q word = whole (word_whole count count is_function word (abc_is_read is_function word) refl (λ makes. absurd cc) refl)

-- ---- the steps of a function

module _ {Left : Type 0} {f : Function} {g : Fn} {z : Maker} {code : Steps} {params names : List Text} {ahead : Ahead} {block : Statements} (of : IsFlowBy Left f g z code params names ahead block) where
  -- so many locals are active before a step
  abbrev pub active_at : ℕ → ℕ
  active_at at = length (before_at of at).active

  -- those of a loop before its foot
  foot_room : {at target : ℕ} {numeric : Bool} {part : Part} → StepIs of at (StepKind.Foot numeric target) part → 3 ≤ active_at at
  foot_room {at} {target} {numeric} is =
      let less = is.within in
      let step = step_there code.steps at less in
      let told = laid_are_told code of.plain params names ahead block of.laid at step.0 step.1 in
      let same : step.0.kind ≡ StepKind.Foot numeric target = same_Some step.0.kind (StepKind.Foot numeric target) (sym (ap (option_map (λ (it : Step). it.kind)) step.1) ∙ is.there) in
      subst (λ n. 3 ≤ n) told.tells.base (subst (λ kind. HasHidden kind step.0.base) same (feet_held code params names ahead block of.laid at step.0 step.1))

  module _ {at : ℕ} where
    abbrev here : at < length code.steps → AreListed f g (before_at of at).active (listed_of (before_at of at).active)
    here less = (made_before of at (omega (arith, less))).all

    kind_opens : (kind : StepKind) (part : Part) → StepIs of at kind part → NoneOrOpens f (active_at at) (active_at at) (pcs of at) (length (made_at of at kind part).items)
    kind_opens StepKind.Act (statement_part s) is =
        let m = before_at of at in
        let made = made_at of at StepKind.Act (statement_part s) in
        statement_opens of.made.is_function (here is.within) (as_assignment s) is.flow.act.is made.active (spot m) (spot made) (assigned_stands g s is.flow.formed m.active made.active (spot m) (spot made) is.stands)
    kind_opens (StepKind.Declaration end captured) (statement_part s) is =
        let m = before_at of at in
        let made = made_at of at (StepKind.Declaration end captured) (statement_part s) in
        statement_opens of.made.is_function (here is.within) (as_assignment s) is.flow.act.is made.active (spot m) (spot made) (assigned_stands g s is.flow.formed m.active made.active (spot m) (spot made) is.stands)
    kind_opens StepKind.Return (values_part es) is =
        let m = before_at of at in
        let made = made_at of at StepKind.Return (values_part es) in
        statement_opens of.made.is_function (here is.within) (return_statement es) is.flow.is made.active (spot m) (spot made) is.stands
    kind_opens (StepKind.Test when target negated) (condition_part e) is =
        inr (test_opens of.made.is_function (here is.within) when (pcs of target) (spot (before_at of at)) (spot (made_at of at (StepKind.Test when target negated) (condition_part e))) e is.flow.has is.stands)
    kind_opens (StepKind.Jump target) part is = inr (whole (jump_whole of.made.is_function (here is.within) is.stands))
    kind_opens (StepKind.Close from declared) part is = inr (close_opens of.made.is_function (here is.within) from (spot (before_at of at)) (spot (made_at of at (StepKind.Close from declared) part)) is.stands)
    kind_opens (StepKind.Head true foot end variables_end captured) (head_part es texts) is =
        let declared = (declare texts (before_at of at)).after in
        let made = made_at of at (StepKind.Head true foot end variables_end captured) (head_part es texts) in
        let first = counted_begun of.made.is_function (here is.within) es is.fits.0 is.flow.has (spot declared) is.stands.mid is.stands.first_at in
        inr (begun (subst (Begun f (active_at at) (active_at at)) (ap (λ (items : List Item). length items) (declare_items texts (before_at of at))) first))
    kind_opens (StepKind.Head false foot end variables_end captured) (head_part es texts) is =
        let declared = (declare texts (before_at of at)).after in
        let made = made_at of at (StepKind.Head false foot end variables_end captured) (head_part es texts) in
        let first = generic_begun of.made.is_function (here is.within) es is.flow.some is.flow.has (pcs of foot) (spot declared) (spot made) is.stands in
        inr (begun (subst (Begun f (active_at at) (active_at at)) (ap (λ (items : List Item). length items) (declare_items texts (before_at of at))) first))
    kind_opens (StepKind.Foot true target) part is = inr (numeric_foot of.made.is_function (here is.within) (pcs of target) (spot (before_at of at)) (spot (made_at of at (StepKind.Foot true target) part)) (foot_room is) is.stands)
    kind_opens (StepKind.Foot false target) part is =
        inr (generic_foot of.made.is_function (here is.within) _ (pcs of target) (spot (before_at of at)) (spot (made_at of at (StepKind.Foot false target) part)) (foot_room is) is.stands)
    kind_opens kind part is = absurd is.fits

  pub step_opens : {at : ℕ} {kind : StepKind} {part : Part} → StepIs of at kind part → NoneOrOpens f (active_at at) (active_at at) (pcs of at) (pcs of (suc at))
  step_opens {at} {kind} {part} is = subst (NoneOrOpens f (active_at at) (active_at at) (pcs of at)) (sym (last_is of is)) (kind_opens kind part is)
