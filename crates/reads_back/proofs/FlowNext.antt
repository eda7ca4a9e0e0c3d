-- Each step of a function is read as a draft that is its own, and behind it as much is known as before.
use Rattle.std.proofs.Common.{◌≡◌, ◌<◌, ◌≤◌, ℕ, zero, suc, ◌-◌, ◌^◌, Bool, true, false, nat_lt, List, ◌++◌, length, length-append, take, refl, sym, ap, ap₂, ◌∙◌, arith, subst, lt-ltb, if◌then◌else◌}
use Rattle.std.proofs.lemmas.Bool.Decides.{nat_tests}
use Rattle.std.proofs.lemmas.List.{length-replicate, length-take-le, map-append}
use Rattle.std.proofs.lemmas.Option.{same_Some}
use Rattle.std.specs.Prelude.{◌==◌, None, Option, Some, option_map, replicate, slice_get}
use Rattle.lua_num.specs.Bytes.{Text}
use Rattle.lua_tree.specs.Outline as outline
use Rattle.lua_tree.specs.Syntax.{Statements}
use Rattle.proto.specs.declared.parts.LocVar.{LocVar}
use Rattle.core_expr.specs.Values.{Inner}
use Rattle.recover_expr.specs.Drafts.{Drafted, Part}
use Rattle.recover_expr.specs.Locals.{Scope, leave}
use Rattle.recover_expr.specs.Placing.{Steps}
use Rattle.recover_expr.specs.Reading.{left_at, read_step, step_at, words_from}
use Rattle.recover_expr.specs.Situation.{Function, Situation, begun}
use Rattle.recover_expr.specs.declared.locals.Declared.{Declared}
use Rattle.recover_expr.specs.declared.steps.Step.{Step}
use Rattle.recover_expr.specs.declared.steps.StepKind.{StepKind}
use Rattle.scheme.specs.Making.{Ahead, Maker, active_count}
use Rattle.scheme.specs.declared.making.Active.{Active}
use Rattle.scheme_stands.specs.Words.{Fn}
use Rattle.same_flow.specs.Declaring.{declaring}
use Rattle.same_flow.specs.Listed.{entries_by, entries_where}
use Rattle.same_flow.specs.Performed.{Performance, still_active}
use Rattle.same_flow.proofs.ListedRun.{step_there}
use Rattle.same_flow.proofs.LocalsListed.{locals_listed}
use Rattle.reads_back.specs.Placed.{IsDraftAt, IsDraftKind, listed_before}
use Rattle.reads_back.proofs.ActsRead.{numbers_from}
use Rattle.reads_back.proofs.FlowKnown.{AllKnown, innermost_listed, known_like, known_more, times_known, times_length, times_more, turn_numbers}
use Rattle.reads_back.proofs.FlowRead.{KindRead, PartRead, within_last}
use Rattle.reads_back.proofs.FlowStarts.{count_new, listed_next, none_here}
use Rattle.reads_back.proofs.FlowSteps.{IsThere, have_words, kind_step_read, kind_told, known_before, later_at, there_begins}
use Rattle.reads_back.proofs.FlowThere.{IsFlowFunction, StepIs, before_at, few_before, made_at, now_at, pcs, step_is}
use Rattle.reads_back.proofs.LikeScopes.{LikeScope, as_many_like, step_scope}
use Rattle.reads_back.proofs.LocalsLeave.{listed_of, locals_leave, taken_few}
use Rattle.reads_back.proofs.PlacedLocals.{Adds, InTurn, kind_adds}
use Rattle.reads_back.proofs.ScopesGrow.{entered_times}

module _ {f : Function} {g : Fn} {z : Maker} {lefts : ℕ → List (Option Inner)} {parts : ℕ → outline.Part} {code : Steps} {params names : List Text} {ahead : Ahead} {block : Statements} (of : IsFlowFunction f g z lefts parts code params names ahead block) where
  -- each active local has a step that declares it, or none
  declaring_count : (at : ℕ) → at ≤ length code.steps → length (declaring code params names ahead at) ≡ length (now_at of at).maker.active
  declaring_count zero most = length-replicate {A = Option ℕ} (length (now_at of 0).maker.active) None
  declaring_count (suc at) most =
      let before = declaring_count at (omega (arith, most)) in
      let step = step_is of at (omega (arith, most)) in
      let left = active_count (before_at of at) in
      let new = count_new of at step.0 step.1 step.2 in
      let same = ap (λ (now : Performance). length now.maker.active) step.2.makes in
      let fewer = taken_few (still_active at (now_at of at).ends) (now_at of at).maker.active in
      let first = length-take-le left (declaring code params names ahead at) (omega (arith, before, fewer)) in
      let more = active_count (now_at of (suc at)).maker - left in
      omega (arith, length-append (take left (declaring code params names ahead at)) (replicate more (Some at)), first, length-replicate {A = Option ℕ} more (Some at), new, same)

  -- ---- behind a step

  module _ {at : ℕ} {kind : StepKind} {part : Part} (is : StepIs of at kind part) {now : Situation} (there : IsThere of at now) (read : KindRead of at kind part (begun at (pcs of at) now)) where
    abbrev m : Maker
    m = before_at of at

    abbrev own : List LocVar
    own = entries_by (pcs of) at kind part

    adds : Adds m (made_at of at kind part)
    adds = kind_adds code kind part (of.plain at part is.part_there) m

    count_adds : length adds.new ≡ length own
    count_adds = let count = count_new of at kind part is in let both = ap (λ (active : List Active). length active) adds.active in omega (arith, count, both, length-append m.active adds.new)

    -- they are listed behind the others
    turn : InTurn (listed_before code params names ahead at) adds.new
    turn = let less = is.within in subst (λ n. InTurn n adds.new) ((locals_listed code of.plain params names ahead block of.laid).before at (omega (arith, less))).count adds.listed

    abbrev words : ℕ
    words = suc (f.last - pcs of at)

    reads_words : words_from f words (pcs of at) (begun at (pcs of at) now) ≡ Some (read.draft, read.behind)
    reads_words = let within = within_last of is in let later = read.later in read.reads words (omega (arith, within, later))

    -- what it does to the scope
    abbrev grown : Scope
    grown = entered_times (length own) (Some at) now.scope

    like : LikeScope grown read.behind.scope
    like =
        let does = step_scope f words (pcs of at) (begun at (pcs of at) now) read.draft read.behind reads_words in
        let more = read.declares.declared_more in
        let count : does.0 ≡ length own = omega (arith, as_many_like does.1, times_length does.0 (Some at) now.scope, more) in
        subst (λ n. LikeScope (entered_times n (Some at) now.scope) read.behind.scope) count does.1

    made_active : (now_at of (suc at)).maker.active ≡ m.active ++ adds.new
    made_active = ap (λ (now : Performance). now.maker.active) is.makes ∙ adds.active

    active_behind : read.behind.scope.active ≡ listed_of (now_at of (suc at)).maker.active
    active_behind =
        read.declares.active_more
        ∙ ap₂ (λ (active : List ℕ) first. active ++ numbers_from first (length own)) there.active there.declared
        ∙ ap (λ count. listed_of m.active ++ numbers_from (listed_before code params names ahead at) count) (sym count_adds)
        ∙ ap (λ (numbers : List ℕ). listed_of m.active ++ numbers) (sym (turn_numbers (listed_before code params names ahead at) adds.new turn))
        ∙ sym (map-append (λ (one : Active). one.listed) m.active adds.new)
        ∙ ap listed_of (sym made_active)

    known_behind : (p : ℕ) → p ≤ suc at → AllKnown read.behind.scope.declared (now_at of p).maker.active (declaring code params names ahead p)
    known_behind p most = by (nat_lt at p) refl
      where
        earlier : p ≤ at → AllKnown read.behind.scope.declared (now_at of p).maker.active (declaring code params names ahead p)
        earlier before =
            let more = times_more (length own) (Some at) now.scope in
            known_like grown.declared read.behind.scope.declared (now_at of p).maker.active (declaring code params names ahead p) like.declared
            (subst (λ (declared : List Declared). AllKnown declared (now_at of p).maker.active (declaring code params names ahead p)) (sym more.1)
            (known_more now.scope.declared more.0 (now_at of p).maker.active (declaring code params names ahead p) (there.known p before)))

        last : AllKnown read.behind.scope.declared (now_at of (suc at)).maker.active (declaring code params names ahead (suc at))
        last =
            let less = is.within in
            let left = active_count m in
            let steps = take left (declaring code params names ahead at) in
            let fewer = taken_few (still_active at (now_at of at).ends) (now_at of at).maker.active in
            let count = length-take-le left (declaring code params names ahead at) (omega (arith, declaring_count at (omega (arith, less)), fewer)) in
            let one = times_known adds.new m.active steps (Some at) now.scope there.active (subst (λ n. InTurn n adds.new) (sym there.declared) turn) count (known_before of there) in
            let new : length adds.new ≡ active_count (now_at of (suc at)).maker - left = omega (arith, ap (λ (active : List Active). length active) made_active, length-append m.active adds.new) in
            let grown_is : (entered_times (length adds.new) (Some at) now.scope).declared ≡ grown.declared = ap (λ n. (entered_times n (Some at) now.scope).declared) count_adds in
            known_like grown.declared read.behind.scope.declared (now_at of (suc at)).maker.active (declaring code params names ahead (suc at)) like.declared
            (subst (λ n. AllKnown grown.declared (now_at of (suc at)).maker.active (steps ++ replicate n (Some at))) new
            (subst (λ (active : List Active). AllKnown grown.declared active (steps ++ replicate (length adds.new) (Some at))) (sym made_active)
            (subst (λ (declared : List Declared). AllKnown declared (m.active ++ adds.new) (steps ++ replicate (length adds.new) (Some at))) grown_is one)))

        by : (b : Bool) → nat_lt at p ≡ b → AllKnown read.behind.scope.declared (now_at of p).maker.active (declaring code params names ahead p)
        by true test =
            let same : suc at ≡ p = grind (arith, nat_tests) in
            subst (λ p. AllKnown read.behind.scope.declared (now_at of p).maker.active (declaring code params names ahead p)) same last
        by false test = earlier (grind (arith, nat_tests))

    -- as much is known behind it
    there_next : IsThere of (suc at) (left_at f (pcs of (suc at)) read.behind)
    there_next =
        let less = is.within in
        let more = read.declares.declared_more in
        let made = ap (λ (now : Performance). now.maker) is.makes in
        record {
          declared = omega (arith, more, there.declared, listed_next of at kind part is);
          active =
              ap (λ (entries : List LocVar). (leave entries (pcs of (suc at)) read.behind.scope).active) of.listed
              ∙ locals_leave code of.plain params names ahead block of.laid (suc at) (omega (arith, less)) (have_words of (suc at)) read.behind.scope active_behind;
          left = read.left ∙ ap (λ (m : Maker). lefts (length m.functions)) (sym made);
          seen = read.seen ∙ ap (λ (m : Maker). length m.constants) (sym made);
          known = known_behind;
        }

    -- its draft is that of the step
    pub draft_is : IsDraftAt code params names ahead at read.draft
    draft_is =
        let less = is.within in
        let step = step_there code.steps at less in
        let same : kind ≡ step.0.kind = same_Some kind step.0.kind (sym is.there ∙ ap (option_map (λ (it : Step). it.kind)) step.1) in
        let does = step_scope f words (pcs of at) (begun at (pcs of at) now) read.draft read.behind reads_words in
        let count = ap₂ (λ (kind : Option StepKind) (part : Option Part). length (entries_where (pcs of) at kind part)) is.there is.part_there in
        record {
          step = step.0;
          there = step.1;
          kind =
              subst (λ kind. IsDraftKind (pcs of) (listed_before code params names ahead at) (length (entries_where (pcs of) at (option_map (λ (it : Step). it.kind) (slice_get code.steps at)) (slice_get code.parts at))) kind read.draft.kind) same
              (subst (λ n. IsDraftKind (pcs of) (listed_before code params names ahead at) n kind read.draft.kind) (sym count)
              (subst (λ kind. IsDraftKind (pcs of) (listed_before code params names ahead at) (length own) kind read.draft.kind) (kind_told of kind is.there there) read.kind_is));
          pc = does.4;
          base = does.2 ∙ (there_begins of at there).base;
          innermost = does.3 ∙ ap (λ (active : List ℕ). slice_get active (length active - 1)) there.active ∙ innermost_listed m.active;
        }

    -- it is read at its pc
    step_reads : step_at f at (pcs of at) now ≡ Some (read.draft, read.behind)
    step_reads =
        let less = is.within in
        let begins = there_begins of at there in
        let base = begins.base in
        let few = few_before of at (omega (arith, less)) in
        let step = begun at (pcs of at) now in
        ap (λ small. if small then read_step f step else None) (lt-ltb (length now.scope.active) (2 ^ 32) (omega (arith, few, base)))
        ∙ ap (λ n. if n == 0 then words_from f words (pcs of at) step else None) (none_here of at (pcs of at) (omega (arith, less)) (later_at of at (omega (arith, less))) now.scope there.declared)
        ∙ reads_words

  -- ---- one step

  -- a draft that is read of a step, and its part
  pub record DraftRead (at : ℕ) (draft : Drafted) : Type 0 where
    pub kind : StepKind
    pub part : Part
    pub is : StepIs of at kind part
    pub draft_is : IsDraftAt code params names ahead at draft
    pub part_read : PartRead f g lefts (before_at of at) (pcs of) kind part (length (made_at of at kind part).functions) draft

  pub record StepRead (at : ℕ) (now : Situation) : Type 0 where
    pub draft : Drafted
    pub behind : Situation
    pub reads : step_at f at (pcs of at) now ≡ Some (draft, behind)
    pub read : DraftRead at draft
    pub next : draft.next ≡ pcs of (suc at)
    pub later : pcs of at < pcs of (suc at)
    pub there : IsThere of (suc at) (left_at f (pcs of (suc at)) behind)

  pub step_read : (at : ℕ) → at < length code.steps → (now : Situation) → IsThere of at now → StepRead at now
  step_read at less now there =
      let step = step_is of at less in
      let read = kind_step_read of step.0 step.1 step.2 (begun at (pcs of at) now) (there_begins of at there) (later_at of (suc at) (omega (arith, less))) in
      record {
        draft = read.draft;
        behind = read.behind;
        reads = step_reads step.2 there read;
        read = record { kind = step.0; part = step.1; is = step.2; draft_is = draft_is step.2 there read; part_read = read.part_read };
        next = read.next;
        later = read.later;
        there = there_next step.2 there read;
      }
