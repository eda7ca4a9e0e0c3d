-- Behind a call, an assignment or a function statement nothing wants what was in its lowest register.
use Rattle.std.proofs.Common.{◌≡◌, ◌<◌, ◌≤◌, inl, inr, ℕ, suc, ◌+◌, ◌-◌, Bool, true, false, not, ◌&&◌, nat_lt, List, ◌++◌, length, take, Option, None, Some, refl, sym, ap, ap₂, ◌∙◌, arith, subst, le-leb}
use Rattle.std.proofs.lemmas.Bool.{le-ltb}
use Rattle.std.proofs.lemmas.Bool.Decides.{nat_tests}
use Rattle.std.proofs.lemmas.List.{length-map, length-take-le}
use Rattle.std.proofs.lemmas.Option.{slice_get-map}
use Rattle.std.specs.Prelude.{option_and_then, option_map, slice_get}
use Rattle.lua_num.specs.Bytes.{Text}
use Rattle.lua_tree.specs.Syntax as syntax
use Rattle.lua_tree.specs.Syntax.{Expressions, Statement, Statements, local_function, local_statement, no_expressions}
use Rattle.opcode.specs.declared.op.Op.{Op}
use Rattle.proto.specs.declared.parts.LocVar.{LocVar}
use Rattle.recover_expr.specs.Drafts.{Part, head_part, statement_part}
use Rattle.recover_expr.specs.Effects.{reads_from}
use Rattle.recover_expr.specs.Items.{all_stay, is_so}
use Rattle.recover_expr.specs.Locals.{Scope, end_of, innermost_end, is_over}
use Rattle.recover_expr.specs.Placing.{Steps}
use Rattle.recover_expr.specs.Situation.{Function, instr_at}
use Rattle.recover_expr.specs.declared.steps.StepKind.{StepKind}
use Rattle.scheme.specs.Making.{Ahead, Maker, declare}
use Rattle.scheme.specs.declared.making.Active.{Active}
use Rattle.scheme.specs.declared.making.Item.{Item}
use Rattle.scheme.specs.declared.making.Piece.{Piece}
use Rattle.scheme_stands.proofs.Growth.{spot}
use Rattle.scheme_stands.proofs.Lines.{declare_items}
use Rattle.scheme_stands.specs.Relation.{StatementAt, all_related}
use Rattle.scheme_stands.specs.Words.{Fn, Spot, instr_by}
use Rattle.same_flow.specs.Listed.{all_entries, before_place}
use Rattle.same_flow.specs.Performed.{Performance, still_active}
use Rattle.same_flow.specs.Told.{IsDeclarationPart}
use Rattle.same_flow.proofs.Followed.{append_nothing, length_both, still}
use Rattle.same_flow.proofs.LocalsListed.{locals_listed, parted_at}
use Rattle.reads_back.specs.Acted.{IsAct}
use Rattle.reads_back.specs.Assignments.{as_assignment}
use Rattle.reads_back.specs.Placed.{listed_before}
use Rattle.reads_back.proofs.Comes.{IsOver, wants_lowest}
use Rattle.reads_back.proofs.FlowStarts.{count_new, listed_next, none_here, own_entries}
use Rattle.reads_back.proofs.FlowThere.{IsFlowBy, StepIs, before_at, made_at, now_at, pcs, step_is}
use Rattle.reads_back.proofs.LocalsLeave.{end_there, gone_there, listed_of, taken_few}
use Rattle.reads_back.proofs.LowStores.{Adjusted, NoneOrOpens, Opens, adjusted, opens_reads}
use Rattle.reads_back.proofs.LowUnwanted.{IsBehind, Unwanted, alone_unwanted, begun_unwanted, ended_unwanted, first_unwanted, lowest_unwanted, opens_unwanted, word_unwanted}
use Rattle.reads_back.proofs.LowValues.{closure_alone}
use Rattle.reads_back.proofs.LowWords.{ReadsBelow, below_later}
use Rattle.reads_back.proofs.NameReads.{AreListed}
use Rattle.reads_back.proofs.PlacedCaptures.{element_right, element_there}
use Rattle.reads_back.proofs.StepsGrow.{pcs_grow}
use Rattle.reads_back.proofs.StepsLater.{listed_here, none_starts, statement_at, step_later}
use Rattle.reads_back.proofs.StepsLow.{counted_begun, generic_begun, step_opens}
use Rattle.reads_back.proofs.Tests.{and_not}
use Rattle.reads_back.proofs.WordsRead.{IsFunction}

module _ {f : Function} {g : Fn} {active : List Active} {listed : List ℕ} (is_function : IsFunction f g) (all : AreListed f g active listed) where
  -- the first value of a declaration comes to the free register
  values_unwanted : (es : Expressions) (p mid q : Spot) → mid.pc ≡ p.pc → p.pc < q.pc → Adjusted es f (length active) (length active) mid.pc q.pc → Unwanted f (length active) p.pc
  values_unwanted no_expressions p mid q same later (inl none) = absurd (omega (arith, same, later, none))
  values_unwanted no_expressions p mid q same later (inr first) = subst (Unwanted f (length active)) same (first_unwanted first)
  values_unwanted (syntax.expression e es) p mid q same later first = subst (Unwanted f (length active)) same (first_unwanted first)

  declared_unwanted : (s : Statement) → IsDeclarationPart s → IsAct (as_assignment s) → (after : List Active) (p q : Spot) → p.pc < q.pc → StatementAt g None (as_assignment s) active after p q → Unwanted f (length active) p.pc
  declared_unwanted (local_statement names es) fits is after p q later at =
      values_unwanted es p at.mid q at.same later (adjusted is_function all es is.1 (nat_lt (length (all_related g es)) (length names)) (length names) (length active) at.mid q (omega arith) at.values_at)
  declared_unwanted (local_function text body) fits is after p q later at =
      subst (Unwanted f (length active)) at.same (alone_unwanted (closure_alone is_function all body after (length active + 1) (length active) at.mid q at.closure_at))
  declared_unwanted s fits is after p q later at = absurd fits

module _ {Left : Type 0} {f : Function} {g : Fn} {z : Maker} {code : Steps} {params names : List Text} {ahead : Ahead} {block : Statements} (of : IsFlowBy Left f g z code params names ahead block) where
  -- so many locals are active before a step
  abbrev base_at : ℕ → ℕ
  base_at at = length (before_at of at).active

  -- ---- the first words

  opens_at : {at : ℕ} {kind : StepKind} {part : Part} → StepIs of at kind part → Opens f (base_at at) (base_at at) (pcs of at) (pcs of (suc at))
  opens_at {at} {kind} {part} is = by (step_opens of is)
    where
      by : NoneOrOpens f (base_at at) (base_at at) (pcs of at) (pcs of (suc at)) → Opens f (base_at at) (base_at at) (pcs of at) (pcs of (suc at))
      by (inl none) = let later = step_later of kind part is in absurd (omega (arith, none, later))
      by (inr opens) = opens

  -- they read locals that are active
  reads_below : (at : ℕ) → at < length code.steps → ReadsBelow f (base_at at) (pcs of at)
  reads_below at less = let step = step_is of at less in opens_reads (opens_at step.2)

  behind_below : (base at : ℕ) → at ≤ length code.steps → base_at at ≤ base → IsBehind f base (pcs of at)
  behind_below base at most few = by (nat_lt at (length code.steps)) refl
    where
      by : (b : Bool) → nat_lt at (length code.steps) ≡ b → IsBehind f base (pcs of at)
      by true test =
          let below = below_later (base_at at) base few (reads_below at (grind (arith, nat_tests))) in
          ap (λ reads. nat_lt (pcs of at) f.last && reads) below.none ∙ and_not (nat_lt (pcs of at) f.last)
      by false test =
          let same : at ≡ length code.steps = grind (arith, nat_tests) in
          let last : f.last ≡ pcs of at = of.last ∙ ap (pcs of) (sym same) in
          ap (λ before. before && is_so (λ i. reads_from i base) (instr_at f (pcs of at))) (le-ltb (pcs of at) f.last (omega (arith, last)))

  -- a step that declares nothing leaves no more locals
  fewer_behind : {at : ℕ} {kind : StepKind} {part : Part} (is : StepIs of at kind part) → length (own_entries of at kind part is) ≡ 0 → base_at (suc at) ≤ base_at at
  fewer_behind {at} {kind} {part} is none =
      let count = count_new of at kind part is in
      let same = ap (λ (now : Performance). length now.maker.active) is.makes in
      let few = taken_few (still_active (suc at) (now_at of (suc at)).ends) (now_at of (suc at)).maker.active in
      omega (arith, none, count, same, few)

  lone_unwanted : {at : ℕ} {kind : StepKind} {part : Part} (is : StepIs of at kind part) → length (own_entries of at kind part is) ≡ 0 → Unwanted f (base_at at) (pcs of at)
  lone_unwanted {at} is none = let less = is.within in opens_unwanted (opens_at is) (behind_below (base_at at) (suc at) (omega (arith, less)) (fewer_behind is none))

  -- of a step of any kind
  step_unwanted : {at : ℕ} (kind : StepKind) (part : Part) → StepIs of at kind part → Unwanted f (base_at at) (pcs of at)
  step_unwanted {at} (StepKind.Declaration end captured) (statement_part s) is =
      let m = before_at of at in
      let made = made_at of at (StepKind.Declaration end captured) (statement_part s) in
      let later = step_later of (StepKind.Declaration end captured) (statement_part s) is in
      let same = ap (λ (now : Performance). length now.maker.items) is.makes in
      declared_unwanted of.made.is_function (listed_here of is) s is.fits is.flow.act.is made.active (spot m) (spot made) (omega (arith, later, same)) (statement_at of is is.stands)
  step_unwanted {at} (StepKind.Head true foot end variables_end captured) (head_part es texts) is =
      let declared = (declare texts (before_at of at)).after in
      let first = counted_begun of.made.is_function (listed_here of is) es is.fits.0 is.flow.has (spot declared) is.stands.mid is.stands.first_at in
      subst (Unwanted f (base_at at)) (ap (λ (items : List Item). length items) (declare_items texts (before_at of at))) (begun_unwanted first)
  step_unwanted {at} (StepKind.Head false foot end variables_end captured) (head_part es texts) is =
      let declared = (declare texts (before_at of at)).after in
      let made = made_at of at (StepKind.Head false foot end variables_end captured) (head_part es texts) in
      let first = generic_begun of.made.is_function (listed_here of is) es is.flow.some is.flow.has (pcs of foot) (spot declared) (spot made) is.stands in
      subst (Unwanted f (base_at at)) (ap (λ (items : List Item). length items) (declare_items texts (before_at of at))) (begun_unwanted first)
  step_unwanted StepKind.Act part is = lone_unwanted is refl
  step_unwanted StepKind.Return part is = lone_unwanted is refl
  step_unwanted (StepKind.Test when target negated) part is = lone_unwanted is refl
  step_unwanted (StepKind.Jump target) part is = lone_unwanted is refl
  step_unwanted (StepKind.Close from declared) part is = lone_unwanted is refl
  step_unwanted (StepKind.Foot numeric target) part is = lone_unwanted is refl
  step_unwanted kind part is = absurd is.fits

  -- ---- behind an act

  module _ (at : ℕ) (part : Part) (is : StepIs of at StepKind.Act part) where
    abbrev before : Performance
    before = before_place code params names ahead at

    most : suc at ≤ length code.steps
    most = let less = is.within in omega (arith, less)

    same_count : length (now_at of (suc at)).maker.active ≡ base_at at
    same_count =
        let count = count_new of at StepKind.Act part is in
        let same = ap (λ (now : Performance). length now.maker.active) is.makes in
        omega (arith, count, same)

    -- where some locals end, the innermost one does
    some_end : (scope : Scope) → scope.active ≡ listed_of (before_at of at).active → base_at (suc at) < base_at at → all_stay f scope (pcs of (suc at)) ≡ false
    some_end scope active fewer =
        let all = all_entries code params names ahead in
        let actives = (before_at of at).active in
        let less = is.within in
        let known = ((locals_listed code of.plain params names ahead block of.laid).before at (omega (arith, less))).ends in
        let as_many : length (listed_of actives) ≡ base_at at = length-map actives (λ (one : Active). one.listed) in
        let place = length (listed_of actives) - 1 in
        let one = element_there actives place (omega (arith, as_many, fewer)) in
        let ended = end_there (pcs of) all actives before.ends known place one.0 one.1 in
        let parts = parted_at code of.plain params names ahead block of.laid (suc at) most in
        let ends_now : (now_at of (suc at)).ends ≡ before.ends = ap (λ (now : Performance). now.ends) is.makes ∙ append_nothing before.ends in
        let both : before.ends ≡ parts.ends ++ parts.behind = sym ends_now ∙ parts.all_ends in
        let left : still_active (suc at) (now_at of (suc at)).ends ≡ length parts.ends = ap (still_active (suc at)) parts.all_ends ∙ still (suc at) parts.ends parts.behind parts.lasts parts.gone in
        let count_ends : length before.ends ≡ base_at at = sym (length-map before.ends (λ end. Some (pcs of end))) ∙ ap (λ (l : List (Option ℕ)). length l) (sym known) ∙ length-map actives _ in
        let sum : length before.ends ≡ length parts.ends + length parts.behind = ap (λ (l : List ℕ). length l) both ∙ length_both parts.ends parts.behind in
        let kept : base_at (suc at) ≡ length parts.ends =
        ap (λ n. length (take n (now_at of (suc at)).maker.active)) left ∙ length-take-le (length parts.ends) (now_at of (suc at)).maker.active (omega (arith, sum, count_ends, same_count)) in
        let there : slice_get parts.behind (place - length parts.ends) ≡ Some ended.0 =
        sym (element_right parts.ends parts.behind (place - length parts.ends) place (omega (arith, as_many, kept, fewer))) ∙ ap (λ (ends : List ℕ). slice_get ends place) (sym both) ∙ ended.1 in
        let gone = gone_there (suc at) parts.behind (place - length parts.ends) ended.0 parts.gone there in
        let innermost : innermost_end f.of.locals scope ≡ Some (pcs of ended.0) =
        ap₂ (λ (entries : List LocVar) (active : List ℕ). option_and_then (end_of entries) (slice_get active (length active - 1))) of.listed active
        ∙ ap (option_and_then (end_of all)) (slice_get-map (λ (one : Active). one.listed) actives place ∙ ap (option_map (λ (one : Active). one.listed)) one.1)
        ∙ ended.2 in
        ap (λ (end : Option ℕ). not (is_over (pcs of (suc at)) end)) innermost ∙ ap not (le-leb (pcs of ended.0) (pcs of (suc at)) (pcs_grow code params names ahead ended.0 (suc at) gone))

    -- where none ends, the same register is free
    none_ends : base_at (suc at) ≡ base_at at → Unwanted f (base_at at) (pcs of (suc at))
    none_ends same = by (nat_lt (suc at) (length code.steps)) refl
      where
        by : (b : Bool) → nat_lt (suc at) (length code.steps) ≡ b → Unwanted f (base_at at) (pcs of (suc at))
        by true test =
            let step = step_is of (suc at) (grind (arith, nat_tests)) in
            subst (λ base. Unwanted f base (pcs of (suc at))) same (step_unwanted step.0 step.1 step.2)
        by false test =
            let less = is.within in
            let here : length code.steps ≡ suc at = grind (arith, nat_tests, less) in
            let last : f.last ≡ pcs of (suc at) = of.last ∙ ap (pcs of) here in
            subst (Unwanted f (base_at at)) last (word_unwanted f (base_at at) f.last (instr_by f.last (Piece.Abc Op.Return 0 1 0)) of.returns refl refl refl)

  pub act_over : (at : ℕ) (part : Part) → StepIs of at StepKind.Act part → (scope : Scope) → length scope.declared ≡ listed_before code params names ahead at → scope.active ≡ listed_of (before_at of at).active →
      IsOver f scope (length (before_at of at).active) (pcs of (suc at))
  act_over at part is scope declared active =
      let few = fewer_behind is refl in
      let next = listed_next of at StepKind.Act part is in
      record {
        starts = none_here of (suc at) (pcs of (suc at)) (most at part is) (none_starts of (suc at) (most at part is)) scope (omega (arith, declared, next));
        unwanted = by few (nat_lt (base_at (suc at)) (base_at at)) refl;
      }
    where
      by : base_at (suc at) ≤ base_at at → (b : Bool) → nat_lt (base_at (suc at)) (base_at at) ≡ b → is_so (wants_lowest f scope (base_at at) (pcs of (suc at))) (instr_at f (pcs of (suc at))) ≡ false
      by few true test = ended_unwanted f (base_at at) (pcs of (suc at)) scope (some_end at part is scope active (grind (arith, nat_tests)))
      by few false test = lowest_unwanted scope (none_ends at part is (grind (arith, nat_tests, few)))
