-- The drafts of all steps of a function are placed as steps that are like those on which its statements stand.
use Rattle.std.proofs.Common.{◌≡◌, ◌<◌, ◌≤◌, ℕ, zero, suc, ◌+◌, ◌-◌, Bool, true, false, List, [], ◌∷◌, ◌++◌, length, map, append-nil, append_assoc, refl, sym, ap, ap₂, ◌∙◌, arith, subst}
use Rattle.std.proofs.lemmas.Option.{same_Some, slice_get_within}
use Rattle.std.specs.Prelude.{Option, Some, option_and_then, option_map, slice_get}
use Rattle.lua_num.specs.Bytes.{Text}
use Rattle.lua_tree.specs.Syntax.{Expressions, Statements}
use Rattle.proto.specs.declared.parts.LocVar.{LocVar}
use Rattle.recover_expr.specs.Declaring.{hidden_count}
use Rattle.recover_expr.specs.Drafts.{Drafted, Part, head_part}
use Rattle.recover_expr.specs.Locals as locals
use Rattle.recover_expr.specs.Locals.{Scope, highest_captured, up_to}
use Rattle.recover_expr.specs.Placing.{Numbers, Steps, and_step, declaration_placed, head_ends, head_placed, kind_placed, number_at, numbers_of, shared_end, step_of_kind, steps_placed}
use Rattle.recover_expr.specs.Situation.{Function}
use Rattle.recover_expr.specs.declared.draft.DraftKind.{DraftKind}
use Rattle.recover_expr.specs.declared.steps.Step.{Step}
use Rattle.recover_expr.specs.declared.steps.StepKind.{StepKind}
use Rattle.scheme.specs.Making.{Ahead, Maker, active_count, captured_from}
use Rattle.scheme.specs.declared.making.Active.{Active}
use Rattle.same_flow.specs.Alike.{IsKindLike, IsStepLike}
use Rattle.same_flow.specs.Laid as laid
use Rattle.same_flow.specs.Listed.{all_entries, before_place, entries_by, entries_from, entries_of, entries_where, hidden_texts, names_declared, pc_of_step}
use Rattle.same_flow.specs.Performed.{Performance, kind_at, kind_made, part_at, performed_to, still_active}
use Rattle.same_flow.specs.SameFlow.{AreLaid, HasPlainParts}
use Rattle.same_flow.specs.Told.{FlagTells, PartFits, at_beginning}
use Rattle.same_flow.proofs.Followed.{append_again, length_both}
use Rattle.same_flow.proofs.ListedRun.{entries_last}
use Rattle.same_flow.proofs.LocalsListed.{locals_listed}
use Rattle.same_flow.proofs.StatementsTold.{laid_are_told}
use Rattle.reads_back.specs.Placed.{AreDeclared, ArePlacedLike, HaveRegisters, HaveWords, IsDeclared, IsDraftAt, IsDraftKind, active_behind, innermost_of, listed_before, listed_by_step}
use Rattle.reads_back.proofs.PlacedCaptures.{captured_known, highest_known, known_taken}
use Rattle.reads_back.proofs.PlacedEnds.{length_entries, row_shared, stands_in}
use Rattle.reads_back.proofs.PlacedInside.{GoesInside, laid_inside}
use Rattle.reads_back.proofs.PlacedLocals.{count_before, kind_adds, rises_before, step_makes}
use Rattle.reads_back.proofs.PlacedNumbers.{number_of_step, words_rise}

-- ---- one kind

-- a head has the values and the variables of its loop
head_fits : (numeric : Bool) (foot end variables_end : ℕ) (captured : Bool) (part : Part) → PartFits (StepKind.Head numeric foot end variables_end captured) part →
    (values : Expressions) × (names : List Text) × (part ≡ head_part values names)
head_fits true foot end variables_end captured (head_part values names) fits = (values, names, refl)
head_fits false foot end variables_end captured (head_part values names) fits = (values, names, refl)
head_fits true foot end variables_end captured part fits = absurd fits
head_fits false foot end variables_end captured part fits = absurd fits

pub three_hidden : (numeric : Bool) → length (hidden_texts numeric) ≡ 3
three_hidden true = refl
three_hidden false = refl

module _ (f : Function) (scope : Scope) (numbers : Numbers) (pcs : ℕ → ℕ) (last : ℕ) (found : (at : ℕ) → at ≤ last → number_at numbers (pcs at) ≡ Some at) where
  -- it is placed as one that is like it
  record KindPlaced (kind : StepKind) (draft : DraftKind) : Type 0 where
    placed_kind : StepKind
    is : kind_placed f scope numbers draft ≡ Some placed_kind
    like : IsKindLike kind placed_kind

  -- what the reader knows in the end of the captures of the locals that the step declares
  abbrev FlagsKnown : (first count : ℕ) → (before behind : Maker) → Type 0
  FlagsKnown first count before behind = (k some : ℕ) → k + some ≡ count → locals.any_captured (first + k) some scope ≡ captured_from (active_count before + k) behind

  declaration_like : (at end : ℕ) (captured : Bool) (texts : List Text) (front rest : List LocVar) (first count : ℕ) (before behind : Maker) →
      f.of.locals ≡ front ++ (entries_of (pcs (suc at)) (pcs end) texts ++ rest) → length front ≡ first → length texts ≡ count → 0 < count → end ≤ last → FlagsKnown first count before behind →
      captured ≡ captured_from (active_count before) behind → kind_placed f scope numbers (DraftKind.Declaration first count) ≡ Some (StepKind.Declaration end captured)
  declaration_like at end captured texts front rest first count before behind all here as_many some inside flags told =
      let shared : shared_end f.of.locals numbers first count ≡ Some end =
      ap (λ (entries : List LocVar). shared_end entries numbers first count) all
      ∙ ap₂ (λ a b. shared_end (front ++ (entries_of (pcs (suc at)) (pcs end) texts ++ rest)) numbers a b) (sym here) (sym as_many)
      ∙ row_shared numbers (pcs (suc at)) (pcs end) end front texts rest (omega (arith, some, as_many)) (found end inside) in
      let flag : locals.any_captured first count scope ≡ captured =
      ap (λ n. locals.any_captured n count scope) (let same : first ≡ first + 0 = omega arith in same) ∙ flags 0 count (omega arith)
      ∙ ap (λ n. captured_from n behind) (let same : active_count before + 0 ≡ active_count before = omega arith in same) ∙ sym told in
      ap (option_map (declaration_placed scope first count)) shared ∙ ap (λ b. Some (StepKind.Declaration end b)) flag

  head_like : (at : ℕ) (numeric : Bool) (foot end variables_end : ℕ) (captured : Bool) (texts : List Text) (front rest : List LocVar) (first variables : ℕ) (before behind : Maker) →
      f.of.locals ≡ front ++ ((entries_of (pcs (suc at) - 1) (pcs end) (hidden_texts numeric) ++ entries_of (pcs (suc at)) (pcs variables_end) texts) ++ rest) → length front ≡ first →
      length texts ≡ variables → 0 < variables → (foot ≤ last) × (end ≤ last) × (variables_end ≤ last) → FlagsKnown first (3 + variables) before behind →
      captured ≡ captured_from (active_count before + 3) behind →
      kind_placed f scope numbers (DraftKind.Head numeric (pcs foot) first variables) ≡ Some (StepKind.Head numeric foot end variables_end captured)
  head_like at numeric foot end variables_end captured texts front rest first variables before behind all here as_many some (foot_inside, end_inside, variables_inside) flags told =
      let hidden = entries_of (pcs (suc at) - 1) (pcs end) (hidden_texts numeric) in
      let others = entries_of (pcs (suc at)) (pcs variables_end) texts in
      let three : length hidden ≡ 3 = length_entries (pcs (suc at) - 1) (pcs end) (hidden_texts numeric) ∙ three_hidden numeric in
      let one : f.of.locals ≡ front ++ (hidden ++ (others ++ rest)) = all ∙ ap (λ (entries : List LocVar). front ++ entries) (append_again hidden others rest) in
      let two : f.of.locals ≡ (front ++ hidden) ++ (others ++ rest) = one ∙ sym (append_again front hidden (others ++ rest)) in
      let there : length (front ++ hidden) ≡ first + hidden_count = omega (arith, length_both front hidden, three, here) in
      let hidden_shared : shared_end f.of.locals numbers first hidden_count ≡ Some end =
      ap (λ (entries : List LocVar). shared_end entries numbers first hidden_count) one
      ∙ ap₂ (λ a b. shared_end (front ++ (hidden ++ (others ++ rest))) numbers a b) (sym here) (sym (three_hidden numeric))
      ∙ row_shared numbers (pcs (suc at) - 1) (pcs end) end front (hidden_texts numeric) (others ++ rest) (omega (arith, three_hidden numeric)) (found end end_inside) in
      let others_shared : shared_end f.of.locals numbers (first + hidden_count) variables ≡ Some variables_end =
      ap (λ (entries : List LocVar). shared_end entries numbers (first + hidden_count) variables) two
      ∙ ap₂ (λ a b. shared_end ((front ++ hidden) ++ (others ++ rest)) numbers a b) (sym there) (sym as_many)
      ∙ row_shared numbers (pcs (suc at)) (pcs variables_end) variables_end (front ++ hidden) texts rest (omega (arith, some, as_many)) (found variables_end variables_inside) in
      ap (option_and_then (head_placed f scope numbers numeric first variables)) (found foot foot_inside)
      ∙ ap (option_and_then (head_ends f scope numbers numeric first variables foot)) hidden_shared
      ∙ ap (option_map (λ variables_end. StepKind.Head numeric foot end variables_end (locals.any_captured (first + hidden_count) variables scope))) others_shared
      ∙ ap (λ b. Some (StepKind.Head numeric foot end variables_end b)) (flags 3 variables refl ∙ sym told)

  kind_like : (at : ℕ) (kind : StepKind) (part : Part) (draft : DraftKind) (front rest : List LocVar) (first count : ℕ) (before behind : Maker) → PartFits kind part →
      f.of.locals ≡ front ++ (entries_by pcs at kind part ++ rest) → length front ≡ first → length (entries_by pcs at kind part) ≡ count → GoesInside last kind →
      IsDraftKind pcs first count kind draft → FlagsKnown first count before behind → FlagTells kind before behind → KindPlaced kind draft
  kind_like at StepKind.Act part draft front rest first count before behind fits all here as_many inside is flags told =
      record { placed_kind = StepKind.Act; is = ap (kind_placed f scope numbers) is; like = refl }
  kind_like at StepKind.Return part draft front rest first count before behind fits all here as_many inside is flags told =
      record { placed_kind = StepKind.Return; is = ap (kind_placed f scope numbers) is; like = refl }
  kind_like at (StepKind.Declaration end captured) part draft front rest first count before behind fits all here as_many inside is flags told =
      let texts = names_declared part in
      record {
        placed_kind = StepKind.Declaration end captured;
        is =
            ap (kind_placed f scope numbers) is.0
            ∙ declaration_like at end captured texts front rest first count before behind all here (sym (length_entries (pcs (suc at)) (pcs end) texts) ∙ as_many) is.1 inside flags told;
        like = refl;
      }
  kind_like at (StepKind.Test when target negated) part draft front rest first count before behind fits all here as_many inside is flags told =
      record {
        placed_kind = StepKind.Test when target is.0;
        is = ap (kind_placed f scope numbers) is.1 ∙ ap (option_map (λ to. StepKind.Test when to is.0)) (found target inside);
        like = (is.0, refl);
      }
  kind_like at (StepKind.Jump target) part draft front rest first count before behind fits all here as_many inside is flags told =
      record { placed_kind = StepKind.Jump target; is = ap (kind_placed f scope numbers) is ∙ ap (option_map (λ to. StepKind.Jump to)) (found target inside); like = refl }
  kind_like at (StepKind.Close from declared) part draft front rest first count before behind fits all here as_many inside is flags told =
      record { placed_kind = StepKind.Close from declared; is = ap (kind_placed f scope numbers) is; like = refl }
  kind_like at (StepKind.Head numeric foot end variables_end captured) part draft front rest first count before behind fits all here as_many inside is flags told =
      let kind = StepKind.Head numeric foot end variables_end captured in
      let head = head_fits numeric foot end variables_end captured part fits in
      let texts = head.1 in
      let hidden = entries_of (pcs (suc at) - 1) (pcs end) (hidden_texts numeric) in
      let others = entries_of (pcs (suc at)) (pcs variables_end) texts in
      let entries : entries_by pcs at kind part ≡ hidden ++ others = ap (entries_by pcs at kind) head.2 in
      let whole = is.2 in
      let counted : length texts ≡ is.0 =
      omega (
        arith,
        whole,
        as_many,
        ap (λ (list : List LocVar). length list) entries,
        length_both hidden others,
        length_entries (pcs (suc at) - 1) (pcs end) (hidden_texts numeric),
        three_hidden numeric,
        length_entries (pcs (suc at)) (pcs variables_end) texts,
      ) in
      record {
        placed_kind = kind;
        is =
            ap (kind_placed f scope numbers) is.1
            ∙ head_like at numeric foot end variables_end captured texts front rest first is.0 before behind (all ∙ ap (λ (list : List LocVar). front ++ (list ++ rest)) entries) here counted is.3 inside
            (subst (λ n. FlagsKnown first n before behind) whole flags) told;
        like = refl;
      }
  kind_like at (StepKind.Foot numeric target) part draft front rest first count before behind fits all here as_many inside is flags told =
      record { placed_kind = StepKind.Foot numeric target; is = ap (kind_placed f scope numbers) is ∙ ap (option_map (λ to. StepKind.Foot numeric to)) (found target inside); like = refl }

  -- ---- steps in a row

  -- behind steps that are placed, those of these drafts, each as is asked of its place
  record RowPlaced (Is : ℕ → Step → Type 0) (highest : List ℕ) (at : ℕ) (sofar : Steps) (drafts : List Drafted) : Type 0 where
    steps : List Step
    placed : steps_placed f scope numbers highest drafts sofar ≡ Some (record sofar { steps = sofar.steps ++ steps; parts = sofar.parts ++ map (λ (draft : Drafted). draft.part) drafts })
    as_many : length steps ≡ length drafts
    each : (i : ℕ) → i < length drafts → (step : Step) × (slice_get steps i ≡ Some step) × Is (at + i) step
    levels : map (λ (step : Step). step.levels) steps ≡ map (λ (draft : Drafted). draft.levels) drafts

  abbrev StepPlaced : (Is : ℕ → Step → Type 0) → (highest : List ℕ) → (at : ℕ) → Drafted → Type 0
  StepPlaced Is highest at draft = (kind : StepKind) × (kind_placed f scope numbers draft.kind ≡ Some kind) × Is at (step_of_kind kind (up_to highest draft.innermost) draft)

  row_placed : (Is : ℕ → Step → Type 0) (highest : List ℕ) (at : ℕ) (sofar : Steps) (drafts : List Drafted) →
      ((i : ℕ) (draft : Drafted) → slice_get drafts i ≡ Some draft → StepPlaced Is highest (at + i) draft) → RowPlaced Is highest at sofar drafts
  row_placed Is highest at sofar [] all = record {
    steps = [];
    placed = ap₂ (λ (steps : List Step) (parts : List Part). Some (record sofar { steps = steps; parts = parts })) (sym (append-nil sofar.steps)) (sym (append-nil sofar.parts));
    as_many = refl;
    each = λ i less. absurd (omega (arith, less));
    levels = refl;
  }
  row_placed Is highest at sofar (draft ∷ drafts) all =
      let one = all 0 draft refl in
      let step : Step = step_of_kind one.0 (up_to highest draft.innermost) draft in
      let later : (i : ℕ) → at + suc i ≡ suc at + i = λ i. omega arith in
      let others : RowPlaced Is highest (suc at) (and_step draft step sofar) drafts =
      row_placed Is highest (suc at) (and_step draft step sofar) drafts (λ i it is. subst (λ n. StepPlaced Is highest n it) (later i) (all (suc i) it is)) in
      let each : (i : ℕ) → i < suc (length drafts) → (it : Step) × (slice_get (step ∷ others.steps) i ≡ Some it) × Is (at + i) it =
      row_each at step others.steps (length drafts) Is one.2 others.each in
      record {
        steps = step ∷ others.steps;
        placed =
            ap (option_and_then (λ kind. steps_placed f scope numbers highest drafts (and_step draft (step_of_kind kind (up_to highest draft.innermost) draft) sofar))) one.1
            ∙ others.placed
            ∙ ap₂ (λ (steps : List Step) (parts : List Part). Some (record sofar { steps = steps; parts = parts })) (append_assoc sofar.steps (step ∷ []) others.steps)
            (append_assoc sofar.parts (draft.part ∷ []) (map (λ (it : Drafted). it.part) drafts));
        as_many = ap suc others.as_many;
        each = each;
        levels = ap (λ (levels : List ℕ). draft.levels ∷ levels) others.levels;
      }
    where
      row_each : (at : ℕ) (step : Step) (steps : List Step) (count : ℕ) (Is : ℕ → Step → Type 0) → Is (at + 0) step →
          ((i : ℕ) → i < count → (it : Step) × (slice_get steps i ≡ Some it) × Is (suc at + i) it) → (i : ℕ) → i < suc count → (it : Step) × (slice_get (step ∷ steps) i ≡ Some it) × Is (at + i) it
      row_each at step steps count Is here behind zero less = (step, refl, here)
      row_each at step steps count Is here behind (suc i) less =
          let it = behind i (omega (arith, less)) in
          (it.0, it.1, subst (λ n. Is n it.0) (let same : suc at + i ≡ at + suc i = omega arith in same) it.2)

-- ---- a function

module _ (code : Steps) (plain : HasPlainParts code) (params names : List Text) (ahead : Ahead) (block : Statements) (stands : AreLaid code params names ahead block)
    (words : HaveWords code params names ahead) (registers : HaveRegisters code params names ahead) (f : Function) (entries : f.of.locals ≡ all_entries code params names ahead)
    (ends : f.last ≡ pc_of_step code params names ahead (length code.steps)) (count : length f.of.code ≡ suc f.last) (scope : Scope) (known : AreDeclared code params names ahead scope.declared)
    (drafts : List Drafted) (as_many : length drafts ≡ length code.steps) (are : (at : ℕ) (draft : Drafted) → slice_get drafts at ≡ Some draft → IsDraftAt code params names ahead at draft) where
  abbrev pcs : ℕ → ℕ
  pcs = pc_of_step code params names ahead

  abbrev before_at : ℕ → Maker
  before_at at = (before_place code params names ahead at).maker

  found : (at : ℕ) → at ≤ length code.steps → number_at (numbers_of f drafts) (pcs at) ≡ Some at
  found at most =
      number_of_step pcs f drafts (λ one other less within. words_rise pcs (length code.steps) words one other less (omega (arith, within, as_many)))
      (λ i draft is. (are i draft is).pc ∙ ap pcs (let same : i ≡ 0 + i = omega arith in same)) (ends ∙ ap pcs (sym as_many)) count at (omega (arith, most, as_many))

  -- the highest captured register before a step
  highest_before : (at : ℕ) → at < length code.steps → up_to (highest_captured scope) (innermost_of (before_at at).active) ≡ laid.highest_captured 0 (before_at at).active
  highest_before at less =
      let n = still_active at (performed_to code (at_beginning code params names ahead) at).ends in
      let active = active_behind code params names ahead at in
      highest_known scope.declared (before_at at).active (length (before_at at).locals) (rises_before code plain params names ahead at)
      (known_taken n scope.declared active (λ register one there. known at register one (omega (arith, less)) there)) (registers at less)

  -- a step adds as many locals as it lists, and the reader knows of their captures
  flags_known : (at : ℕ) (step : Step) (part : Part) → slice_get code.steps at ≡ Some step → part_at code at ≡ Some part →
      FlagsKnown f scope (numbers_of f drafts) pcs (length code.steps) found (listed_before code params names ahead at) (listed_by_step code params names ahead at) (before_at at)
      (kind_made code step.kind part (before_at at))
  flags_known at step part there is k some e =
      let less = slice_get_within code.steps at step there in
      let listed = locals_listed code plain params names ahead block stands in
      let behind = kind_made code step.kind part (before_at at) in
      let adds = kind_adds code step.kind part (plain at part is) (before_at at) in
      let makes = step_makes code plain params names ahead at step part there is in
      let one = (listed.before at (omega (arith, less))).count in
      let two = (listed.before (suc at) (omega (arith, less))).count in
      let same = count_before code plain params names ahead (suc at) ∙ ap (λ (now : Performance). length now.maker.locals) makes in
      let more = adds.count in
      let new : length adds.new ≡ listed_by_step code params names ahead at =
      omega (
        arith,
        one,
        two,
        same,
        more,
        ap (λ (list : List LocVar). length list) (entries_last code pcs 0 at at (omega arith)),
        length_both (entries_from code pcs 0 at) (entries_where pcs at (kind_at code.steps at) (part_at code at)),
      ) in
      let declared : (register : ℕ) (it : Active) → slice_get behind.active register ≡ Some it → IsDeclared scope.declared behind.active register it =
      subst (λ (active : List Active). (register : ℕ) (it : Active) → slice_get active register ≡ Some it → IsDeclared scope.declared active register it) (ap (λ (now : Performance). now.maker.active) makes)
      (λ register it here. known (suc at) register it (omega (arith, less)) here) in
      ap (λ n. locals.any_captured (n + k) some scope) (sym one) ∙ captured_known scope (before_at at) behind adds declared k some (e ∙ sym new)

  abbrev IsLike : ℕ → Step → Type 0
  IsLike at other = (step : Step) → slice_get code.steps at ≡ Some step → IsStepLike step other

  draft_placed : (at : ℕ) (draft : Drafted) → slice_get drafts at ≡ Some draft → StepPlaced f scope (numbers_of f drafts) pcs (length code.steps) found IsLike (highest_captured scope) at draft
  draft_placed at draft is =
      let D = are at draft is in
      let step = D.step in
      let less = slice_get_within code.steps at step D.there in
      let T = laid_are_told code plain params names ahead block stands at step D.there in
      let place = stands_in code params names ahead at less in
      let here : entries_where pcs at (kind_at code.steps at) (part_at code at) ≡ entries_by pcs at step.kind T.part =
      ap₂ (λ (kind : Option StepKind) (part : Option Part). entries_where pcs at kind part) (ap (option_map (λ (it : Step). it.kind)) D.there) T.there in
      let K = kind_like f scope (numbers_of f drafts) pcs (length code.steps) found at step.kind T.part draft.kind place.front place.rest (listed_before code params names ahead at)
      (listed_by_step code params names ahead at) (before_at at) (kind_made code step.kind T.part (before_at at)) T.fits
      (entries ∙ place.all ∙ ap (λ (list : List LocVar). place.front ++ (list ++ place.rest)) here) place.first (ap (λ (list : List LocVar). length list) (sym here))
      (laid_inside code params names ahead block stands at step D.there) D.kind (flags_known at step T.part D.there T.there) T.flag in
      let highest = ap (up_to (highest_captured scope)) D.innermost ∙ highest_before at less ∙ sym T.tells.captured in (
        K.placed_kind,
        K.is,
        λ it there.
            subst (λ (it : Step). IsStepLike it (step_of_kind K.placed_kind (up_to (highest_captured scope) draft.innermost) draft)) (same_Some step it (sym D.there ∙ there))
            (record { kind = K.like; base = D.base ∙ sym T.tells.base; captured = highest }),
      )

  drafts_placed : ArePlacedLike code params f scope drafts
  drafts_placed =
      let all = row_placed f scope (numbers_of f drafts) pcs (length code.steps) found IsLike (highest_captured scope) 0 (record { params = params; steps = []; parts = [] }) drafts
      (λ i draft is. subst (λ n. StepPlaced f scope (numbers_of f drafts) pcs (length code.steps) found IsLike (highest_captured scope) n draft) (let same : i ≡ 0 + i = omega arith in same) (draft_placed i draft is)) in
      record {
        steps = all.steps;
        is = all.placed;
        like = record {
          count = all.as_many ∙ as_many;
          each = λ at step there.
              let one = all.each at (omega (arith, as_many, slice_get_within code.steps at step there)) in
              (one.0, one.1, subst (λ n. IsLike n one.0) (let same : 0 + at ≡ at = omega arith in same) one.2 step there);
        };
        levels = all.levels;
      }

-- the drafts of all steps are placed
pub all_placed : (code : Steps) → HasPlainParts code → (params names : List Text) (ahead : Ahead) (block : Statements) → AreLaid code params names ahead block → HaveWords code params names ahead →
    HaveRegisters code params names ahead → (f : Function) → f.of.locals ≡ all_entries code params names ahead → f.last ≡ pc_of_step code params names ahead (length code.steps) →
    length f.of.code ≡ suc f.last → (scope : Scope) → length scope.declared ≡ length f.of.locals → AreDeclared code params names ahead scope.declared →
    (drafts : List Drafted) → length drafts ≡ length code.steps → ((at : ℕ) (draft : Drafted) → slice_get drafts at ≡ Some draft → IsDraftAt code params names ahead at draft) →
    ArePlacedLike code params f scope drafts
all_placed code plain params names ahead block stands words registers f entries ends count scope declared known drafts as_many are =
    drafts_placed code plain params names ahead block stands words registers f entries ends count scope known drafts as_many are
