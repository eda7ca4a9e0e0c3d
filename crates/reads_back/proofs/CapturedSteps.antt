-- The words of a step capture what its marks do.
use Rattle.std.proofs.Common.{◌≡◌, ℕ, zero, suc, Bool, true, false, is_some, List, [], ◌∷◌, ◌++◌, length, Some, None, refl, sym, ap, ap₂, ◌∙◌, subst, arith}
use Rattle.std.proofs.lemmas.Option.{slice_get_within}
use Rattle.std.specs.Prelude.{◌||◌, ◌+◌, ◌-◌, Option, slice_get}
use Rattle.lua_num.specs.Bytes.{Text}
use Rattle.lua_tree.specs.Names.{are_some_names, is_name}
use Rattle.lua_tree.specs.Outline as outline
use Rattle.lua_tree.specs.Outline.{Mark, Place, body_part, both, come, declares, expression_part, expressions_part, hidden_local, local_name, mentions, nothing, path_part, reaching, with_locals}
use Rattle.lua_tree.specs.Scoping.{is_captured}
use Rattle.lua_tree.specs.Syntax as syntax
use Rattle.lua_tree.specs.Syntax.{Expression, Expressions, FunctionBody, Statement, assignment, call_statement, function_statement, local_function, local_statement, no_expressions, return_statement}
use Rattle.lua_tree.specs.WellFormed.{are_targets, formed_body, formed_expression, formed_expressions, formed_statement, has_expressions, is_call}
use Rattle.opcode.specs.declared.op.Op.{Op}
use Rattle.recover_expr.specs.Drafts.{Part, condition_part, head_part, statement_part, values_part}
use Rattle.recover_expr.specs.Placing.{Steps}
use Rattle.recover_expr.specs.Situation.{Function}
use Rattle.recover_expr.specs.declared.steps.StepKind.{StepKind}
use Rattle.scheme.specs.Making.{Maker, declare}
use Rattle.scheme.specs.declared.making.Active.{Active}
use Rattle.scheme.specs.declared.making.Local.{Local}
use Rattle.scheme_stands.specs.Expressions.{Rel, rel_field, rel_name, several}
use Rattle.scheme_stands.specs.Functions.{Declared, rel_function}
use Rattle.scheme_stands.specs.Relation.{FunctionOf, StatementAt, all_related, related}
use Rattle.scheme_stands.specs.Statements.{LocalFunctionAt, ReturnAt, ReturnBy, rel_fields, rel_method, rel_path}
use Rattle.scheme_stands.specs.Words.{Fn, Spot}
use Rattle.scheme_stands.proofs.Counting.{declares_closed}
use Rattle.scheme_stands.proofs.Entering.{behind_name}
use Rattle.scheme_stands.proofs.Growth.{spot}
use Rattle.scheme_stands.proofs.Here.{tame_come, tame_declares}
use Rattle.scheme_stands.proofs.Lines.{declare_items, declared}
use Rattle.scheme_stands.proofs.Scopes.{called}
use Rattle.scheme_stands.proofs.Walks.{and_left, and_right, declared_moves}
use Rattle.same_flow.specs.Told.{AreCounted, IsActPart, IsDeclarationPart, PartFits}
use Rattle.reads_back.specs.Stepped.{CountedAt, KindAt, begun_by}
use Rattle.reads_back.proofs.CapturedExpressions.{RelCatches, field_all, name_all, operand_caught}
use Rattle.reads_back.proofs.CapturedLeaves.{function_caught}
use Rattle.reads_back.proofs.CapturedLists.{AllCaught, ExpressionCaught, adjust_caught, alone_caught, assign_caught, assign_one, open_caught}
use Rattle.reads_back.proofs.CapturedStretches.{Catches, Catching, Fine, Onward, abc_still, abx_still, caught_none, caught_on, caught_then, fine_here, fine_second, jump_still, like_both, like_none, Shown, shown_both, shown_none, same_spans, still_then, fine_first_by}
use Rattle.reads_back.proofs.CapturedTrees.{all_caught, expression_caught}
use Rattle.reads_back.proofs.CapturedWords.{Spans, captured_between, spans_between, spans_none, spans_then}
use Rattle.reads_back.proofs.CapturesLike.{CapturesLike}
use Rattle.reads_back.proofs.FormedSteps.{IsFormed}
use Rattle.reads_back.proofs.MarksCaptured.{captured_both}
use Rattle.reads_back.proofs.PartsUsed.{get_front}
use Rattle.reads_back.proofs.StatementsMeant.{own_active}
use Rattle.reads_back.proofs.StepsKnown.{part_said}

-- ---- declarations

hidden_silent : (d line k n : ℕ) → is_captured d (reaching (hidden_local line) k n) ≡ false
hidden_silent d line k zero = refl
hidden_silent d line k (suc n) = hidden_silent d line (suc k) n

names_silent : (d line k n : ℕ) → is_captured d (reaching (local_name line) k n) ≡ false
names_silent d line k zero = refl
names_silent d line k (suc n) = names_silent d line (suc k) n

-- names that are declared capture nothing
pub declares_silent : (d line hidden : ℕ) (names : List Text) (place : Place) → is_captured d (declares line hidden names place).marks ≡ false
declares_silent d line hidden names place =
    let a = reaching (hidden_local line) place.active hidden in
    let b = reaching (local_name line) (place.active + hidden) (length names) in
    captured_both d a b ∙ ap₂ (λ first second. first || second) (hidden_silent d line place.active hidden) (names_silent d line (place.active + hidden) (length names))

-- ---- what is known of a step

-- its words capture what its marks do, where these come next at a place
pub record StepCatches (f : Function) (all : Onward) (place : Place) (active : List Active) (part : outline.Part) (p q : Spot) : Type 0 where
  pub registers : List ℕ
  pub spans : Spans f p.pc q.pc registers
  pub like : (rest : List Mark) → all.Comes part place rest p → CapturesLike (part place).marks active registers
  pub shown : Shown active registers

module _ {f : Function} {all : Onward} {place : Place} {active : List Active} where
  step_catches : {part : outline.Part} {p q : Spot} → Catches f all place active part p q → StepCatches f all place active part p q
  step_catches one = record { registers = one.registers; spans = one.spans; like = λ rest here. one.like place rest (fine_here here); shown = one.shown }

  declares_caught : (line hidden : ℕ) (names : List Text) (locals : List Local) (p q : Spot) → q.pc ≡ p.pc → Declared names p.ahead locals q.ahead → Catches f all place active (declares line hidden names) p q
  declares_caught line hidden names locals p q same declared = record {
    registers = [];
    spans = same_spans same;
    tame = tame_declares line hidden names;
    closed = declares_closed line hidden names;
    moves = declared_moves all.marks line hidden names locals p q declared;
    like = λ inside rest fine register declaration one there is. sym (declares_silent declaration line hidden names inside);
    shown = shown_none active;
  }

  -- names are declared, values are made, and the names come into scope
  declared_values : (line hidden : ℕ) (names : List Text) (locals : List Local) (es : Expressions) (p mid q : Spot) → mid.pc ≡ p.pc → Declared names p.ahead locals mid.ahead → Catches f all place active (expressions_part es) mid q →
      StepCatches f all place active (λ place. both (declares line hidden names) (both (expressions_part es) (come hidden names place.declarations)) place) p q
  unfolding declares_caught
  declared_values line hidden names locals es p mid q same declared values =
      let a = declares line hidden names in
      let c = come hidden names place.declarations in
      let b = both (expressions_part es) c in
      let first = declares_caught line hidden names locals p mid same declared in
      let x = a place in
      let y = expressions_part es x.next in
      let z = c y.next in
      record {
        registers = first.registers ++ (values.registers ++ []);
        spans = spans_then first.spans (spans_then values.spans spans_none);
        like = λ rest here.
            let whole : Fine all place (both a b) p place rest = fine_here (all.other (λ place. both (declares line hidden names) (both (expressions_part es) (come hidden names place.declarations)) place) (both a b) place rest p refl here) in
            let tame_c = tame_come hidden names place.declarations in
            let second = fine_second a b place rest first.tame (first.closed place) first.moves whole in
            like_both active x.marks (y.marks ++ z.marks) first.registers (values.registers ++ []) (λ register declaration one there is. sym (declares_silent declaration line hidden names place))
            (like_both active y.marks z.marks values.registers [] (values.like x.next (z.marks ++ rest) (fine_first_by (expressions_part es) c x.next rest (omega arith) values.tame tame_c second)) (like_none active));
        shown = shown_both active first.registers (values.registers ++ []) first.shown (shown_both active values.registers [] values.shown (shown_none active));
      }

module _ {f : Function} {g : Fn} {all : Onward} {place : Place} {active : List Active} (of : Catching f g all place active) where
  -- ---- the path of a function statement

  fields_all : (line : ℕ) (name : Text) (on : Rel) (texts : List Text) → RelCatches f all place active (mentions line name) true on → RelCatches f all place active (mentions line name) true (rel_fields g on texts)
  fields_all line name on [] uses = uses
  fields_all line name on (text ∷ texts) uses = fields_all line name (rel_field g on text) texts (field_all of (mentions line name) on text uses.value)

  path_all : (line : ℕ) (path : List Text) → are_some_names path ≡ true → RelCatches f all place active (path_part line path) true (rel_path g path)
  path_all line [] are = cc
  path_all line (text ∷ texts) are = fields_all line text (rel_name g text) texts (name_all of line text)

  method_all : (line : ℕ) (path : List Text) (method : Option Text) → are_some_names path ≡ true → RelCatches f all place active (path_part line path) true (rel_method g (rel_path g path) method)
  method_all line path None are = path_all line path are
  method_all line path (Some text) are = field_all of (path_part line path) (rel_path g path) text (path_all line path are).value

  -- ---- returns

  several_call : (call dots : Bool) → call ≡ true → (call || dots) ≡ true
  several_call true dots is = refl
  several_call false dots is = cc

  return_by : (call dots : Bool) (e : Expression) → ExpressionCaught of e → (call ≡ true → several (related g e).form ≡ true) → (p q : Spot) → ReturnBy call dots g (related g e) active p q → Catches f all place active (expressions_part (syntax.expression e no_expressions)) p q
  return_by true dots e one is p q at = alone_caught of e p q (caught_on (one.multi (is refl) (length active) Op.TailCall None refl p at.mid at.first_at) (abc_still of.is_function refl at.second_at))
  return_by false true e one is p q at = caught_on (open_caught of (syntax.expression e no_expressions) (one, tt) (length active) p at.mid at.first_at) (abc_still of.is_function refl at.second_at)
  return_by false false e one is p q at = alone_caught of e p q (caught_on (operand_caught of (expression_part e) (related g e) one.value (length active) at.x at.free1 p at.mid at.operand_at) (abc_still of.is_function refl at.words_at))

  return_caught : (es : Expressions) → AllCaught of es → (p q : Spot) → ReturnAt g (all_related g es) active p q → Catches f all place active (expressions_part es) p q
  return_caught no_expressions each p q at = caught_none (abc_still of.is_function refl at)
  return_caught (syntax.expression e no_expressions) each p q at = return_by (related g e).form.call (related g e).form.dots e each.0 (several_call (related g e).form.call (related g e).form.dots) p q at
  return_caught (syntax.expression e (syntax.expression d es)) each p q at = caught_on (open_caught of (syntax.expression e (syntax.expression d es)) each (length active) p at.mid at.first_at) (abc_still of.is_function refl at.second_at)

  -- ---- statements

  -- one that stands in a step, and is no local function
  abbrev IsPlainStep : Statement → Type 0
  IsPlainStep (assignment targets es) = Unit {0}
  IsPlainStep (call_statement e) = Unit {0}
  IsPlainStep (function_statement path method body) = Unit {0}
  IsPlainStep (local_statement names es) = Unit {0}
  IsPlainStep (return_statement es) = Unit {0}
  IsPlainStep s = ⊥

  statement_caught : (line : ℕ) (s : Statement) → IsPlainStep s → formed_statement s ≡ true → (after : List Active) (p q : Spot) → StatementAt g None s active after p q → StepCatches f all place active (outline.statement_part line s) p q
  statement_caught line (assignment targets es) is h after p q at =
      let a = and_right (has_expressions targets) _ h in
      let b = and_right (are_targets targets) _ a in
      let c = and_right (formed_expressions targets) _ b in
      step_catches (assign_caught of targets es (all_caught of targets (and_left (formed_expressions targets) _ b)) (all_caught of es (and_right (has_expressions es) _ c)) (and_left (are_targets targets) _ a) p q at.part_at)
  statement_caught line (call_statement e) is h after p q at =
      let one = expression_caught of e (and_right (is_call e) (formed_expression e) h) in
      step_catches (one.multi (called all.marks g e (and_left (is_call e) (formed_expression e) h)) (length active) Op.Call (Some 0) refl p q at.part_at)
  statement_caught line (function_statement path method body) is h after p q at =
      let formed = and_right _ (formed_body body) (and_right (are_some_names path) _ h) in
      let made = FunctionOf body (is_some method) in
      step_catches (assign_one of (path_part line path) (body_part (is_some method) body) (rel_method g (rel_path g path) method) (rel_function g made) (method_all line path method (and_left (are_some_names path) _ h))
      (record { named = λ is p q at. cc; bare = λ p q at. at; quiet = λ k is p q at. cc; to_reg = function_caught of body (is_some method) formed }) p q at.part_at)
  statement_caught line (local_statement names es) is h after p q at =
      declared_values line 0 names at.locals es p at.mid q at.same at.declared (adjust_caught of es (length names) (all_caught of es (and_right (are_some_names names) (formed_expressions es) h)) (length active) at.mid q at.values_at)
  statement_caught line (return_statement es) is h after p q at = step_catches (return_caught es (all_caught of es h) p q at.part_at)
  statement_caught line s is h after p q at = absurd is

  -- ---- heads of loops

  counted_caught : (values : Expressions) → AreCounted values → formed_expressions values ≡ true → (free : ℕ) (p q : Spot) → CountedAt g values active free p q → Catches f all place active (expressions_part values) p q
  counted_caught (syntax.expression first (syntax.expression last no_expressions)) fits formed free p q at =
      let a = expression_caught of first (and_left _ _ formed) in
      let b = expression_caught of last (and_left _ _ (and_right _ _ formed)) in
      let more = at.second_at in
      caught_then (expression_part first) (expressions_part (syntax.expression last no_expressions)) (a.value.to_reg free free p at.mid at.first_at)
      (caught_then (expression_part last) nothing (b.value.to_reg (suc free) (suc free) at.mid more.mid more.first_at) (caught_none (abx_still of.is_function refl more.second_at.word)))
  counted_caught (syntax.expression first (syntax.expression last (syntax.expression by no_expressions))) fits formed free p q at =
      let a = expression_caught of first (and_left _ _ formed) in
      let b = expression_caught of last (and_left _ _ (and_right _ _ formed)) in
      let c = expression_caught of by (and_left _ _ (and_right _ _ (and_right _ _ formed))) in
      let more = at.second_at in
      caught_then (expression_part first) (expressions_part (syntax.expression last (syntax.expression by no_expressions))) (a.value.to_reg free free p at.mid at.first_at)
      (caught_then (expression_part last) (expressions_part (syntax.expression by no_expressions)) (b.value.to_reg (suc free) (suc free) at.mid more.mid more.first_at)
      (alone_caught of by more.mid q (c.value.to_reg (suc (suc free)) (suc (suc free)) more.mid q more.second_at)))
  counted_caught values fits formed free p q at = absurd fits

-- ---- a local function, which is active in itself

-- of the locals before it
own_like : (active after : List Active) (marks : List Mark) (registers : List ℕ) (local : Active) → after ≡ active ++ local ∷ [] → CapturesLike marks after registers → CapturesLike marks active registers
own_like active after marks registers local is like register declaration one there known =
    like register declaration one (ap (λ (active : List Active). slice_get active register) is ∙ get_front active (local ∷ []) register (slice_get_within active register one there) ∙ there) known

own_shown : (active after : List Active) (registers : List ℕ) (local : Active) → after ≡ active ++ local ∷ [] → Shown after registers → Shown active registers
own_shown active after registers local is shown register one there hidden =
    shown register one (ap (λ (active : List Active). slice_get active register) is ∙ get_front active (local ∷ []) register (slice_get_within active register one there) ∙ there) hidden

module _ {f : Function} {g : Fn} {all : Onward} {place : Place} {active after : List Active} (text : Text) (of : Catching f g all (behind_name 1 text place) after) where
  own_caught : (body : FunctionBody) → formed_body body ≡ true → (p q : Spot) → LocalFunctionAt g text (FunctionOf body false) active after p q → StepCatches f all place active (outline.statement_part 1 (local_function text body)) p q
  own_caught body formed p q at =
      let own = own_active body at in
      let one = function_caught of body false formed (length active + 1) (length active) at.mid q at.closure_at in
      let declaring = declares 1 0 (text ∷ []) place in
      let inside = body_part false body (behind_name 1 text place) in
      record {
        registers = [] ++ one.registers;
        spans = spans_then (same_spans at.same) one.spans;
        like = λ rest here.
            like_both active declaring.marks inside.marks [] one.registers (λ register declaration x there is. sym (declares_silent declaration 1 0 (text ∷ []) place))
            (own_like active after inside.marks one.registers own.local own.is_after
            (one.like (behind_name 1 text place) rest (fine_here (all.own text body place rest at.locals p at.mid at.declared here))));
        shown = own_shown active after one.registers own.local own.is_after one.shown;
      }

  -- with its own local among those that are active
  pub own_captured : (body : FunctionBody) (formed : formed_body body ≡ true) (p q : Spot) (at : LocalFunctionAt g text (FunctionOf body false) active after p q) (rest : List Mark) → all.Comes (outline.statement_part 1 (local_function text body)) place rest p →
      CapturesLike (outline.statement_part 1 (local_function text body) place).marks after (captured_between f (q.pc - p.pc) p.pc)
  own_captured body formed p q at rest here =
      let one = function_caught of body false formed (length active + 1) (length active) at.mid q at.closure_at in
      let declaring = declares 1 0 (text ∷ []) place in
      let inside = body_part false body (behind_name 1 text place) in
      let spans : Spans f p.pc q.pc ([] ++ one.registers) = spans_then (same_spans at.same) one.spans in
      subst (λ (registers : List ℕ). CapturesLike (declaring.marks ++ inside.marks) after registers) (sym (spans_between spans))
      (like_both after declaring.marks inside.marks [] one.registers (λ register declaration x there is. sym (declares_silent declaration 1 0 (text ∷ []) place))
      (one.like (behind_name 1 text place) rest (fine_here (all.own text body place rest at.locals p at.mid at.declared here))))

-- ---- any step

-- at its place this is known, and of a local function so much in the scope of its name
pub record KindCatching (f : Function) (g : Fn) (all : Onward) (place : Place) (kind : StepKind) (part : Part) (active after : List Active) : Type 0 where
  pub here : Catching f g all place active
  pub own : (end : ℕ) (captured : Bool) (text : Text) (body : FunctionBody) → kind ≡ StepKind.Declaration end captured → part ≡ statement_part (local_function text body) → Catching f g all (behind_name 1 text place) after

module _ {f : Function} {g : Fn} {all : Onward} {place : Place} where
  pub kind_caught : (code : Steps) (pcs : ℕ → ℕ) (kind : StepKind) (part : Part) (before behind : Maker) (q : Spot) → PartFits kind part → IsFormed kind part → KindCatching f g all place kind part before.active behind.active →
      KindAt g code pcs kind part before behind (spot (begun_by kind part before)) q → StepCatches f all place before.active (part_said kind part) (spot before) q
  kind_caught code pcs StepKind.Act (statement_part s) before behind q fits formed of at = act s fits formed at
    where
      act : (s : Statement) → IsActPart s → formed_statement s ≡ true → StatementAt g None s before.active behind.active (spot before) q → StepCatches f all place before.active (outline.statement_part 1 s) (spot before) q
      act (assignment targets es) fits formed at = statement_caught of.here 1 (assignment targets es) tt formed behind.active (spot before) q at
      act (call_statement e) fits formed at = statement_caught of.here 1 (call_statement e) tt formed behind.active (spot before) q at
      act (function_statement path method body) fits formed at = statement_caught of.here 1 (function_statement path method body) tt formed behind.active (spot before) q at
      act s fits formed at = absurd fits
  kind_caught code pcs (StepKind.Declaration end captured) (statement_part s) before behind q fits formed of at = declares_some s fits formed (λ text body. of.own end captured text body refl) at
    where
      declares_some : (s : Statement) → IsDeclarationPart s → formed_statement s ≡ true → ((text : Text) (body : FunctionBody) → statement_part s ≡ statement_part (local_function text body) → Catching f g all (behind_name 1 text place) behind.active) →
          StatementAt g None s before.active behind.active (spot before) q → StepCatches f all place before.active (outline.statement_part 1 s) (spot before) q
      declares_some (local_function text body) fits formed own at = own_caught text (own text body refl) body (and_right (is_name text) (formed_body body) formed) (spot before) q at
      declares_some (local_statement names es) fits formed own at = statement_caught of.here 1 (local_statement names es) tt formed behind.active (spot before) q at
      declares_some s fits formed own at = absurd fits
  kind_caught code pcs StepKind.Return (values_part es) before behind q fits formed of at = returned (statement_caught of.here 1 (return_statement es) tt formed behind.active (spot before) q at)
    where
      returned : StepCatches f all place before.active (outline.statement_part 1 (return_statement es)) (spot before) q → StepCatches f all place before.active (expressions_part es) (spot before) q
      returned one = one
  kind_caught code pcs (StepKind.Test when target negated) (condition_part e) before behind q fits formed of at = step_catches ((expression_caught of.here e formed).jump_if (length before.active) when (pcs target) (spot before) q at)
  kind_caught code pcs (StepKind.Head true foot end variables_end captured) (head_part values names) before behind q fits formed of at =
      declared_values 1 3 names (declare names before).value values (spot before) (spot (declare names before).after) q (ap length (declare_items names before)) (declared names before)
      (caught_on (counted_caught of.here values fits.0 formed before.free (spot (declare names before).after) at.mid at.first_at) (jump_still of.here.is_function refl at.second_at))
  kind_caught code pcs (StepKind.Head false foot end variables_end captured) (head_part values names) before behind q fits formed of at =
      declared_values 1 3 names (declare names before).value values (spot before) (spot (declare names before).after) q (ap length (declare_items names before)) (declared names before)
      (caught_on (adjust_caught of.here values 3 (all_caught of.here values formed) before.free (spot (declare names before).after) at.mid at.first_at) (jump_still of.here.is_function refl at.second_at))
  kind_caught code pcs (StepKind.Jump target) part before behind q fits formed of at = step_catches (caught_none (jump_still of.here.is_function refl at))
  kind_caught code pcs (StepKind.Close from step) part before behind q fits formed of at = step_catches (caught_none (abc_still of.here.is_function refl at))
  kind_caught code pcs (StepKind.Foot true target) part before behind q fits formed of at = step_catches (caught_none (jump_still of.here.is_function refl at))
  kind_caught code pcs (StepKind.Foot false target) part before behind q fits formed of at =
      step_catches (caught_none (still_then {m = at.mid} (abc_still of.here.is_function refl at.first_at) (jump_still of.here.is_function refl at.second_at)))
  kind_caught code pcs kind part before behind q fits formed of at = absurd fits
