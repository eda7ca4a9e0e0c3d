-- Each function that is made on the steps of a function is made in the part of one of them, with few levels and little room.
use Rattle.std.proofs.Common.{◌≡◌, ◌<◌, ◌≤◌, ◌⊎◌, inl, inr, ℕ, zero, suc, Bool, true, false, List, length, None, Some, ap, arith}
use Rattle.std.proofs.lemmas.Bool.{cases_lt}
use Rattle.lua_num.specs.Bytes.{Text}
use Rattle.lua_tree.specs.Syntax as syntax
use Rattle.lua_tree.specs.Syntax.{Expression, Expressions, Statement, Statements, binary_expression, no_expressions, parenthesized, return_statement, unary_expression}
use Rattle.lua_tree.specs.WellFormed.{depth_of_expression, depth_of_expressions}
use Rattle.lua_tree.specs.declared.tree.BinaryOp.{BinaryOp}
use Rattle.lua_tree.specs.declared.tree.UnaryOp.{UnaryOp}
use Rattle.proto.specs.Chunk.{Chunk}
use Rattle.recover_expr.specs.Drafts.{Part, condition_part, head_part, nothing_part, statement_part, values_part}
use Rattle.recover_expr.specs.Placing.{Steps}
use Rattle.recover_expr.specs.Situation.{Function}
use Rattle.recover_expr.specs.declared.steps.StepKind.{StepKind}
use Rattle.scheme.specs.Expressions.{is_comparison}
use Rattle.scheme.specs.Making.{Ahead, Maker, declare}
use Rattle.scheme_stands.proofs.Growth.{spot}
use Rattle.scheme_stands.proofs.Lines.{declare_functions}
use Rattle.scheme_stands.specs.Relation.{StatementAt}
use Rattle.scheme_stands.specs.Words.{Fn}
use Rattle.same_flow.specs.Performed.{Performance, part_at, performed_to}
use Rattle.same_flow.specs.Space.{space_of_expression, space_of_expressions, space_of_statement}
use Rattle.same_flow.specs.Told.{at_beginning}
use Rattle.reads_back.specs.Acted.{lean_depth}
use Rattle.reads_back.specs.Assignments.{as_assignment}
use Rattle.reads_back.specs.Coming.{Coming}
use Rattle.reads_back.specs.Cores.{AllHaveCores}
use Rattle.reads_back.proofs.EachMade.{AreLowMentions, IsMadeAt, both_low, low_in, low_in_all, made_lower, mentioned_made, statement_made_at}
use Rattle.reads_back.proofs.FlowActs.{act_own, act_stands, declaration_stands, own_listed}
use Rattle.reads_back.proofs.FlowHeads.{counted_meant, counted_of}
use Rattle.reads_back.proofs.FlowThere.{IsFlowAct, IsFlowBy, StepIs, before_at, made_at, made_before, now_at, pcs, step_is}
use Rattle.reads_back.proofs.FunctionStatements.{assigned_roomy}
use Rattle.reads_back.proofs.HeadsSame.{AreCounted, mentions_of_head}
use Rattle.reads_back.proofs.Mentions.{Mention, coming, mentions_in}
use Rattle.reads_back.proofs.MentionsMeant.{IsMeant, adjust_meant, each_meant, meant_on, word_keeps}
use Rattle.reads_back.proofs.ParametersRead.{begins_with}
use Rattle.reads_back.proofs.Rewriting.{OwnListed}
use Rattle.reads_back.proofs.Rooms.{lean_room, left_room}
use Rattle.reads_back.proofs.StatementsMeant.{statement_meant}
use Rattle.reads_back.proofs.TestedAs.{HasTest, HasTestBy}
use Rattle.reads_back.proofs.TestsMeant.{test_meant}

-- ---- parts with room

abbrev pub HasRoomyPart : (roomy : ℕ) → Part → Type 0
HasRoomyPart roomy nothing_part = Unit {0}
HasRoomyPart roomy (statement_part s) = space_of_statement s < roomy
HasRoomyPart roomy (values_part es) = space_of_expressions es < roomy
HasRoomyPart roomy (condition_part e) = space_of_expression e < roomy
HasRoomyPart roomy (head_part es names) = space_of_expressions es < roomy

-- ---- the levels of what a test and a head mention

tested_low : (compares : Bool) (line : ℕ) (op : BinaryOp) (l r : Expression) → HasTestBy compares l r (binary_expression line op l r) →
    AreLowMentions (depth_of_expression (binary_expression line op l r)) (space_of_expression (binary_expression line op l r)) (mentions_in (binary_expression line op l r))
tested_low true line op l r has =
    both_low (depth_of_expression l) (depth_of_expression r) _ (space_of_expression l) (space_of_expression r) _ (mentions_in l) (mentions_in r) (omega arith) (left_room line op l r) (low_in l has.0) (low_in r has.1)
tested_low false line op l r has = low_in (binary_expression line op l r) has.0

test_low : (e : Expression) → HasTest e → AreLowMentions (depth_of_expression e) (space_of_expression e) (mentions_in e)
test_low (binary_expression line op l r) has = tested_low (is_comparison op) line op l r has
test_low (unary_expression line UnaryOp.Not e) has = absurd has
test_low (parenthesized line e) has = absurd has
test_low e has = low_in e has.0

-- a step that is not said mentions nothing
counted_low : (es : Expressions) → AreCounted es → AllHaveCores es → AreLowMentions (depth_of_expressions es) (space_of_expressions es) (mentions_of_head true es)
counted_low (syntax.expression first (syntax.expression last no_expressions)) counted has = low_in_all (syntax.expression first (syntax.expression last no_expressions)) has
counted_low (syntax.expression first (syntax.expression last (syntax.expression by no_expressions))) counted has = low_in_all (syntax.expression first (syntax.expression last (syntax.expression by no_expressions))) has
counted_low es counted has = absurd counted

module _ (limit : ℕ) {Left : Type 0} {f : Function} {g : Fn} {z : Maker} {code : Steps} {params names : List Text} {ahead : Ahead} {block : Statements} (of : IsFlowBy Left f g z code params names ahead block) where
  -- ---- in one step

  module _ {at : ℕ} {kind : StepKind} {part : Part} (is : StepIs of at kind part) where
    abbrev m : Maker
    m = before_at of at

    abbrev made : Maker
    made = made_at of at kind part

    -- of what is mentioned
    mentions_made : (high roomy : ℕ) (mentions : List Mention) → IsMeant g m.active mentions (spot m) (spot made) → AreLowMentions high roomy mentions → high ≤ 200 → roomy ≤ limit →
        (number : ℕ) → length m.functions ≤ number → number < length made.functions → IsMadeAt f g 200 limit number
    mentions_made high roomy mentions meant low shallow room number from below =
        let less = is.within in
        let all = (made_before of at (omega (arith, less))).all in
        made_lower high 200 roomy limit number shallow room (mentioned_made g m.active all high roomy mentions (coming m) meant.meant low number from (omega (arith, below, ap (λ (c : Coming). c.functions) meant.behind)))

    -- of an act
    act_made : (s : Statement) → IsFlowAct s → OwnListed f g m.active s → StatementAt g None s m.active made.active (spot m) (spot made) → lean_room s < limit →
        (number : ℕ) → length m.functions ≤ number → number < length made.functions → IsMadeAt f g 200 limit number
    act_made s flow own stands room number from below =
        let less = is.within in
        let all = (made_before of at (omega (arith, less))).all in
        let meant = statement_meant g s flow.is m.active made.active (spot m) (spot made) stands in
        let one = statement_made_at g m.active all s flow.is own (coming m) meant.meant number from (omega (arith, below, ap (λ (c : Coming). c.functions) meant.behind)) in
        made_lower (lean_depth s) 200 (lean_room s) limit number (omega (arith, flow.shallow)) (omega (arith, room)) one

  -- of the head of a loop, whose variables are declared before its values are made
  module _ {at foot end variables_end : ℕ} {captured : Bool} {es : Expressions} {texts : List Text} where
    head_meant : (numeric : Bool) (is : StepIs of at (StepKind.Head numeric foot end variables_end captured) (head_part es texts)) →
        IsMeant g (before_at of at).active (mentions_of_head numeric es) (spot (declare texts (before_at of at)).after) (spot (made_at of at (StepKind.Head numeric foot end variables_end captured) (head_part es texts)))
    head_meant true is =
        let m = before_at of at in
        meant_on (counted_meant g m.active m.free es (counted_of es is.fits.0) is.flow.has (spot (declare texts m).after) is.stands.mid is.stands.first_at) (word_keeps is.stands.second_at)
    head_meant false is =
        let m = before_at of at in
        meant_on (adjust_meant es 3 (each_meant g m.active es is.flow.has) m.free (spot (declare texts m).after) is.stands.mid is.stands.first_at) (word_keeps is.stands.second_at)

    head_low : (numeric : Bool) → StepIs of at (StepKind.Head numeric foot end variables_end captured) (head_part es texts) → AreLowMentions (depth_of_expressions es) (space_of_expressions es) (mentions_of_head numeric es)
    head_low true is = counted_low es (counted_of es is.fits.0) is.flow.has
    head_low false is = low_in_all es is.flow.has

    head_made : (numeric : Bool) → StepIs of at (StepKind.Head numeric foot end variables_end captured) (head_part es texts) → space_of_expressions es < limit →
        (number : ℕ) → length (before_at of at).functions ≤ number → number < length (made_at of at (StepKind.Head numeric foot end variables_end captured) (head_part es texts)).functions → IsMadeAt f g 200 limit number
    head_made numeric is room number from below =
        let less = is.within in
        let m = before_at of at in
        let declared = (declare texts m).after in
        let high = depth_of_expressions es in
        let little = space_of_expressions es in
        let mentions = mentions_of_head numeric es in
        let all = (made_before of at (omega (arith, less))).all in
        let meant = head_meant numeric is in
        let same = ap (λ (functions : List Chunk). length functions) (declare_functions texts m) in
        made_lower high 200 little limit number is.flow.shallow (omega (arith, room))
        (mentioned_made g m.active all high little mentions (coming declared) meant.meant (head_low numeric is) number (omega (arith, from, same)) (omega (arith, below, ap (λ (c : Coming). c.functions) meant.behind)))

  step_made : {at : ℕ} (kind : StepKind) (part : Part) → StepIs of at kind part → HasRoomyPart limit part → (number : ℕ) → length (before_at of at).functions ≤ number → number < length (made_at of at kind part).functions → IsMadeAt f g 200 limit number
  step_made {at} StepKind.Act (statement_part s) is room =
      act_made is (as_assignment s) is.flow.act (act_own of s is.fits (before_at of at).active) (act_stands of is) (omega (arith, room, assigned_roomy s is.flow.formed))
  step_made (StepKind.Declaration end captured) (statement_part s) is room =
      act_made is (as_assignment s) is.flow.act (own_listed of s is.fits is) (declaration_stands of is) (omega (arith, room, assigned_roomy s is.flow.formed))
  step_made StepKind.Return (values_part es) is room = act_made is (return_statement es) is.flow tt is.stands room
  step_made {at} (StepKind.Test when target negated) (condition_part e) is room =
      let m = before_at of at in
      let made = made_at of at (StepKind.Test when target negated) (condition_part e) in
      mentions_made is (depth_of_expression e) (space_of_expression e) (mentions_in e) (test_meant g m.active (length m.active) when (pcs of target) e is.flow.has (spot m) (spot made) is.stands) (test_low e is.flow.has) is.flow.shallow (omega (arith, room))
  step_made (StepKind.Jump target) part is room = λ number from below. absurd (omega (arith, from, below))
  step_made (StepKind.Close first declared) part is room = λ number from below. absurd (omega (arith, from, below))
  step_made (StepKind.Head true foot end variables_end captured) (head_part es texts) is room = head_made true is room
  step_made (StepKind.Head false foot end variables_end captured) (head_part es texts) is room = head_made false is room
  step_made (StepKind.Foot true target) part is room = λ number from below. absurd (omega (arith, from, below))
  step_made (StepKind.Foot false target) part is room = λ number from below. absurd (omega (arith, from, below))
  step_made kind part is room = absurd is.fits

  -- ---- in all steps

  module _ (roomy : (at : ℕ) (part : Part) → part_at code at ≡ Some part → HasRoomyPart limit part) where
    made_to : (at : ℕ) → at ≤ length code.steps → (number : ℕ) → number < length (now_at of at).maker.functions → IsMadeAt f g 200 limit number
    made_to zero most number below = absurd (omega (arith, below, ap (λ (functions : List Chunk). length functions) (begins_with params names ahead).functions))
    made_to (suc at) most number below =
        let step = step_is of at (omega (arith, most)) in
        let is = step.2 in
        let count = ap (λ (now : Performance). length now.maker.functions) is.makes in
        by (cases_lt number (length (before_at of at).functions)) (λ before. made_to at (omega (arith, most)) number before)
        (λ from. step_made step.0 step.1 is (roomy at step.1 is.part_there) number from (omega (arith, below, count)))
      where
        by : (number < length (before_at of at).functions) ⊎ (length (before_at of at).functions ≤ number) → (number < length (before_at of at).functions → IsMadeAt f g 200 limit number) → (length (before_at of at).functions ≤ number → IsMadeAt f g 200 limit number) → IsMadeAt f g 200 limit number
        by (inl before) earlier here = earlier before
        by (inr from) earlier here = here from

  pub flow_made : ((at : ℕ) (part : Part) → part_at code at ≡ Some part → HasRoomyPart limit part) → (number : ℕ) → number < length (performed_to code (at_beginning code params names ahead) (length code.steps)).maker.functions → IsMadeAt f g 200 limit number
  flow_made roomy number below = made_to roomy (length code.steps) (omega arith) number below
