-- All words of a function are read as drafts, one for each of its steps.
use Rattle.std.proofs.Common.{◌≡◌, ◌<◌, ◌≤◌, ℕ, zero, suc, ◌+◌, List, [], ◌∷◌, ◌++◌, append-nil, append_assoc, length, length-append, refl, sym, ap, ap₂, ◌∙◌, arith, subst, le-leb, if◌then◌else◌}
use Rattle.std.proofs.lemmas.Option.{none-some, same_Some}
use Rattle.std.specs.Prelude.{Option, Some, option_and_then, slice_get}
use Rattle.lua_num.specs.Bytes.{Text}
use Rattle.lua_tree.specs.Outline as outline
use Rattle.lua_tree.specs.Syntax.{Statements}
use Rattle.proto.specs.declared.parts.LocVar.{LocVar}
use Rattle.core_expr.specs.Values.{Inner}
use Rattle.recover_expr.specs.Drafts.{Drafted}
use Rattle.recover_expr.specs.Placing.{Steps}
use Rattle.recover_expr.specs.Reading.{ReadSoFar, and_draft, drafts_from, left_at, step_at}
use Rattle.recover_expr.specs.Situation.{Function, Situation}
use Rattle.recover_expr.specs.declared.locals.Declared.{Declared}
use Rattle.scheme.specs.Making.{Ahead, Maker}
use Rattle.scheme.specs.declared.making.Active.{Active}
use Rattle.scheme_stands.specs.Words.{Fn}
use Rattle.same_flow.specs.Listed.{entries_from, entries_of}
use Rattle.same_flow.proofs.Followed.{length_both}
use Rattle.reads_back.specs.Placed.{AreDeclared, active_behind}
use Rattle.reads_back.proofs.FlowNext.{DraftRead, StepRead, step_read}
use Rattle.reads_back.proofs.FlowSteps.{IsThere}
use Rattle.reads_back.proofs.FlowThere.{IsFlowFunction, pcs}
use Rattle.reads_back.proofs.ParametersRead.{begins_with}
use Rattle.reads_back.proofs.PlacedEnds.{length_entries}
use Rattle.reads_back.proofs.StepsGrow.{pcs_grow}
use Rattle.reads_back.proofs.Tests.{not_below}

module _ {f : Function} {g : Fn} {z : Maker} {lefts : ℕ → List (Option Inner)} {parts : ℕ → outline.Part} {code : Steps} {params names : List Text} {ahead : Ahead} {block : Statements} (of : IsFlowFunction f g z lefts parts code params names ahead block) where
  -- the steps from one on are read behind these drafts
  record StepsRead (at : ℕ) (drafts : List Drafted) (now : Situation) : Type 0 where
    more : List Drafted
    behind : Situation
    reads : (count : ℕ) → f.last ≤ count + pcs of at → drafts_from f count (drafts, pcs of at, now) ≡ Some (drafts ++ more, f.last, behind)
    as_many : at + length more ≡ length code.steps
    each : (i : ℕ) (draft : Drafted) → slice_get more i ≡ Some draft → DraftRead of (at + i) draft
    there : IsThere of (length code.steps) behind

  no_steps : (at : ℕ) (drafts : List Drafted) (now : Situation) → at ≡ length code.steps → IsThere of at now → StepsRead at drafts now
  no_steps at drafts now is there = record {
    more = [];
    behind = now;
    reads = reads;
    as_many = omega (arith, is);
    each = λ i draft none. absurd (none-some draft none);
    there = subst (λ at. IsThere of at now) is there;
  }
    where
      over : pcs of at ≡ f.last
      over = ap (pcs of) is ∙ sym of.last

      same : ◌≡◌ {A = Option ReadSoFar} (Some (drafts, pcs of at, now)) (Some (drafts ++ [], f.last, now))
      same = ap₂ (λ (drafts : List Drafted) (pc : ℕ). Some (drafts, pc, now)) (sym (append-nil drafts)) over

      reads : (count : ℕ) → f.last ≤ count + pcs of at → drafts_from f count (drafts, pcs of at, now) ≡ Some (drafts ++ [], f.last, now)
      reads zero few = same
      reads (suc count) few =
          ap (λ over. if over then Some (drafts, pcs of at, now) else option_and_then (λ step. drafts_from f count (and_draft f drafts step)) (step_at f (length drafts) (pcs of at) now)) (le-leb f.last (pcs of at) (omega (arith, over))) ∙ same

  steps_read : (count at : ℕ) → length code.steps ≡ count + at → (drafts : List Drafted) → length drafts ≡ at → (now : Situation) → IsThere of at now → StepsRead at drafts now
  steps_read zero at is drafts number now there = no_steps at drafts now (omega (arith, is)) there
  steps_read (suc left) at is drafts number now there =
      let less : at < length code.steps = omega (arith, is) in
      let one = step_read of at less now there in
      let longer : length (drafts ++ one.draft ∷ []) ≡ suc at = omega (arith, number, length-append drafts (one.draft ∷ [])) in
      let rest = steps_read left (suc at) (omega (arith, is)) (drafts ++ one.draft ∷ []) longer (left_at f (pcs of (suc at)) one.behind) one.there in
      let later = one.later in
      let within : pcs of (suc at) ≤ f.last = omega (arith, of.last, pcs_grow code params names ahead (suc at) (length code.steps) (omega (arith, less))) in
      let count_is = rest.as_many in
      record {
        more = one.draft ∷ rest.more;
        behind = rest.behind;
        reads = reads one rest within;
        as_many = omega (arith, count_is);
        each = each one.draft rest.more one.read rest.each;
        there = rest.there;
      }
    where
      each : (draft : Drafted) (more : List Drafted) → DraftRead of at draft → ((i : ℕ) (other : Drafted) → slice_get more i ≡ Some other → DraftRead of (suc at + i) other) → (i : ℕ) (other : Drafted) → slice_get (draft ∷ more) i ≡ Some other → DraftRead of (at + i) other
      each draft more first others zero other is = subst (λ n. DraftRead of n other) (let same : at ≡ at + 0 = omega arith in same) (subst (DraftRead of at) (same_Some draft other is) first)
      each draft more first others (suc i) other is = subst (λ n. DraftRead of n other) (let same : suc at + i ≡ at + suc i = omega arith in same) (others i other is)

      reads : (one : StepRead of at now) (rest : StepsRead (suc at) (drafts ++ one.draft ∷ []) (left_at f (pcs of (suc at)) one.behind)) → pcs of (suc at) ≤ f.last → (count : ℕ) → f.last ≤ count + pcs of at →
          drafts_from f count (drafts, pcs of at, now) ≡ Some (drafts ++ one.draft ∷ rest.more, f.last, rest.behind)
      reads one rest within zero few = let later = one.later in absurd (omega (arith, few, later, within))
      reads one rest within (suc count) few =
          let later = one.later in
          let go_on = λ (step : Drafted × Situation). drafts_from f count (and_draft f drafts step) in
          ap (λ over. if over then Some (drafts, pcs of at, now) else option_and_then go_on (step_at f (length drafts) (pcs of at) now)) (not_below (pcs of at) f.last (omega (arith, later, within)))
          ∙ ap (λ number. option_and_then go_on (step_at f number (pcs of at) now)) number
          ∙ ap (option_and_then go_on) one.reads
          ∙ ap (λ pc. drafts_from f count (drafts ++ one.draft ∷ [], pc, left_at f pc one.behind)) one.next
          ∙ rest.reads count (omega (arith, few, later))
          ∙ ap (λ (drafts : List Drafted). Some (drafts, f.last, rest.behind)) (append_assoc drafts (one.draft ∷ []) rest.more)

  -- ---- all steps

  -- all words of the function are read, one draft for each step, where so much is known behind its parameters
  pub record FlowRead (now : Situation) : Type 0 where
    pub drafts : List Drafted
    pub behind : Situation
    pub reads : (count : ℕ) → f.last ≤ count → drafts_from f count ([], 0, now) ≡ Some (drafts, f.last, behind)
    pub as_many : length drafts ≡ length code.steps
    pub each : (at : ℕ) (draft : Drafted) → slice_get drafts at ≡ Some draft → DraftRead of at draft
    pub there : IsThere of (length code.steps) behind
    -- all listed locals are declared
    pub all_declared : length behind.scope.declared ≡ length f.of.locals

  -- no words stand before the first step
  pub first_pc : pcs of 0 ≡ 0
  first_pc = ap length (begins_with params names ahead).items

  pub flow_read : (now : Situation) → IsThere of 0 now → FlowRead now
  flow_read now there =
      let all = steps_read (length code.steps) 0 (omega arith) [] refl now there in
      let count = all.as_many in
      let declared = all.there.declared in
      let last = length code.steps in
      let listed = ap (λ (entries : List LocVar). length entries) of.listed ∙ length_both (entries_of 0 (pcs of last) params) (entries_from code (pcs of) 0 last) in
      record {
        drafts = all.more;
        behind = all.behind;
        reads = λ count few. ap (λ pc. drafts_from f count ([], pc, now)) (sym first_pc) ∙ all.reads count (omega (arith, few));
        as_many = omega (arith, count);
        each = λ at draft is. subst (λ n. DraftRead of n draft) (let same : 0 + at ≡ at = omega arith in same) (all.each at draft is);
        there = all.there;
        all_declared = omega (arith, declared, listed, length_entries 0 (pcs of last) params);
      }

  -- ---- what is known in the end

  -- where the reader knows which locals are captured, the active ones are declared as they are
  pub declared_in_end : (behind : Situation) → IsThere of (length code.steps) behind →
      ((at register : ℕ) (one : Active) (is : Declared) → at ≤ length code.steps → slice_get (active_behind code params names ahead at) register ≡ Some one → slice_get behind.scope.declared one.listed ≡ Some is → is.captured ≡ one.local.captured) →
      AreDeclared code params names ahead behind.scope.declared
  declared_in_end behind there captured at register one most is =
      let known = there.known at most register one is in
      record { is = known.is; there = known.there; in_register = known.in_register; outer = known.outer; captured = captured at register one known.is most is known.there }
