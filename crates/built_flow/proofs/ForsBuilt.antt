-- What is built of the plan of a `for` stands on its steps, where this is so of its body.
use Rattle.std.proofs.Common.{◌≡◌, ℕ, suc, ◌+◌, ◌-◌, ◌≤◌, ◌<◌, Bool, true, false, List, [], ◌∷◌, ◌++◌, length, take, drop, refl, sym, ap, ap₂, ◌∙◌, arith, subst}
use Rattle.std.proofs.Math.Seq.{take-append_seam}
use Rattle.std.specs.Prelude.{◌^◌, min, Some, option_map, option_and_then, slice_get, replicate}
use Rattle.lua_num.specs.Bytes.{Text}
use Rattle.lua_tree.specs.Syntax.{Statements, no_statements, Statement, numeric_for, generic_for, Expressions, no_expressions, expression, Expression, ForStep, no_step, by_step}
use Rattle.opcode.specs.declared.op.Op.{Op}
use Rattle.recover_expr.specs.Drafts.{Part, head_part}
use Rattle.recover_expr.specs.Placing.{Steps}
use Rattle.recover_expr.specs.declared.steps.Step.{Step}
use Rattle.recover_expr.specs.declared.steps.StepKind.{StepKind}
use Rattle.recover_flow.specs.Asked.{kind_at, closes}
use Rattle.recover_flow.specs.Built.{built_from, built_plan, numeric_of, counted_of}
use Rattle.recover_flow.specs.Lying as lying
use Rattle.recover_flow.specs.Lying.{BodyLies, PlanLies, captures_own}
use Rattle.recover_flow.specs.Parts.{take_head}
use Rattle.recover_flow.specs.Plans.{Plans, for_plan}
use Rattle.scheme.specs.Expressions.{next_reg}
use Rattle.scheme.specs.Lists.{adjust}
use Rattle.scheme.specs.Making.{Ahead, Maker, active_count, any_captured, captured_from, declare, put, place, jump_to, used}
use Rattle.scheme.specs.Scheme.{coded, all_coded, step_coded, statements_made}
use Rattle.scheme.specs.Statements.{block_part, step_part, numeric_names, generic_names}
use Rattle.scheme.specs.declared.making.Active.{Active}
use Rattle.scheme.specs.declared.making.Piece.{Piece}
use Rattle.same_flow.specs.Written.{ComparedOnOne}
use Rattle.same_flow.specs.Laid.{HasStep, HasKind, IsBlock, BodyLaid, VariablesEnd, label_of, with_new_labels, numeric_valued, numeric_begun, generic_valued, generic_begun, for_loop_of, exit_to, head_values}
use Rattle.same_flow.specs.Performed.{kind_made}
use Rattle.same_flow.specs.SameFlow.{HasPlainParts}
use Rattle.same_flow.specs.Told.{before_step, FlagTells, AreCounted, AreTold}
use Rattle.same_flow.proofs.BlocksFollowed.{replicate_ends, replicate_lasts}
use Rattle.same_flow.proofs.Followed.{Run, Follows, nought, LastTo, last_weaker, last_both, length_both, append_again}
use Rattle.same_flow.proofs.ForsFollowed.{for_ends, hidden_to, at_begun}
use Rattle.same_flow.proofs.HeadsFollowed.{Head, activated_count, numeric_head_goes, generic_head_goes}
use Rattle.same_flow.proofs.KeptActive.{active_kept, adjust_kept, all_kept, kept, next_kept}
use Rattle.same_flow.proofs.RenamedStatements.{statements_rename}
use Rattle.same_flow.proofs.RunKeeps.{declared_active, activated}
use Rattle.built_flow.specs.BuiltLaid.{FewLocals}
use Rattle.built_flow.proofs.BlocksBuilt.{as_laid, Block, Stands}
use Rattle.built_flow.proofs.CapturesKept.{quiet}
use Rattle.built_flow.proofs.LoopsBuilt.{BodyBuilds, whole_block, no_local}
use Rattle.built_flow.proofs.PartsTaken.{AreOf, same_some, mapped, chained, head_taken}
use Rattle.built_flow.proofs.RepeatsBuilt.{locals_end, behind_close}
use Rattle.built_flow.proofs.StatementsBuilt.{begins_here}
use Rattle.built_flow.proofs.StepsTold.{run_of, Here, same_before, step_tells, stood, has_step, has_kind, has_close, fits_there}

-- ---- what is built of a head

record Counted (values : Expressions) (names : List Text) (block : Statements) (made : Statement) : Type 0 where
  name : Text
  first : Expression
  last : Expression
  by : ForStep
  values_are : values ≡ head_values first last by
  names_are : names ≡ name ∷ []
  is : numeric_for name first last by block ≡ made

counted : (values : Expressions) (names : List Text) (block : Statements) (made : Statement) → AreCounted values → length names ≡ 1 → numeric_of names values block ≡ Some made →
    Counted values names block made
counted values [] block made a l e = absurd (omega arith)
counted values (name ∷ next ∷ names) block made a l e = absurd (let n = length names in let d : suc (suc (length names)) ≡ 1 = l in omega arith)
counted (expression first (expression last no_expressions)) (name ∷ []) block made a l e =
    record { name = name; first = first; last = last; by = no_step; values_are = refl; names_are = refl; is = same_some (numeric_for name first last no_step block) made e }
counted (expression first (expression last (expression by no_expressions))) (name ∷ []) block made a l e =
    record { name = name; first = first; last = last; by = by_step by; values_are = refl; names_are = refl; is = same_some (numeric_for name first last (by_step by) block) made e }
counted values (name ∷ []) block made a l e = absurd a

-- ---- the locals of a head

ends_before : (code : Steps) (head : Step) (captured : Bool) (end foot : ℕ) → lying.VariablesEnd code.steps head captured end foot → end ≤ foot
ends_before code head true end foot (closing_there, t) = omega arith
ends_before code head false end foot t = omega arith

low : (a b : ℕ) → a ≤ b → min a b ≡ a
low a b h = omega arith

step_active : (by : ForStep) (m : Maker) → (step_part 1 (step_coded by) m).active ≡ m.active
step_active no_step m = refl
step_active (by_step e) m = active_kept (next_kept (kept e)) m

numeric_count : (name : Text) (first last : Expression) (by : ForStep) (m : Maker) → active_count (numeric_valued 1 name first last by m) ≡ active_count m + 3
numeric_count name first last by m =
    let declared = (declare (name ∷ []) m).after in
    let two = next_reg (coded last) (next_reg (coded first) declared) in
    let same = ap (λ (a : List Active). length a) (step_active by two ∙ active_kept (next_kept (kept last)) (next_reg (coded first) declared) ∙ active_kept (next_kept (kept first)) declared ∙ declared_active (name ∷ []) m) in
    activated_count numeric_names (step_part 1 (step_coded by) two) ∙ ap (λ n. n + 3) same

generic_count : (names : List Text) (es : Expressions) (m : Maker) → active_count (generic_valued 1 names es m) ≡ active_count m + 3
generic_count names es m =
    let declared = (declare names m).after in
    let same = ap (λ (a : List Active). length a) (active_kept (adjust_kept 1 (all_coded es) (all_kept es) 3) declared ∙ declared_active names m) in
    activated_count generic_names (adjust 1 (all_coded es) 3 declared) ∙ ap (λ n. n + 3) same

front_of : (n : ℕ) (before after : List Active) → ((rest : List Active) × (after ≡ before ++ rest)) → length before ≡ n → take n after ≡ before
front_of n before after (rest, e) c = ap₂ (λ k (a : List Active). take k a) (sym c) e ∙ take-append_seam before rest

module _ (code : Steps) (params names : List Text) (ahead : Ahead) (told : AreTold code params names ahead) (plain : HasPlainParts code) (one : ComparedOnOne code) (few : FewLocals code) where
  abbrev run : Run
  run = run_of code params names ahead

  -- the head tells whether a variable is captured
  head_flag : (around_block : Block run) (numeric : Bool) (foot to variables_end label : ℕ) (captured : Bool) (part : Part) (begun : Maker) → LastTo (suc around_block.from) around_block.ends →
      kind_at code.steps around_block.from ≡ Some (StepKind.Head numeric foot to variables_end captured) → slice_get code.parts around_block.from ≡ Some part → Head run around_block.maker around_block.from label foot to variables_end begun →
      captured ≡ captured_from (active_count around_block.maker + 3) begun
  head_flag around_block numeric foot to variables_end label captured part begun l k is standing =
      let kind = StepKind.Head numeric foot to variables_end captured in
      let before = before_step code params names ahead around_block.from in
      let s = stood code.steps around_block.from kind k in
      let t = told around_block.from s.step s.there in
      let same = same_before code params names ahead told around_block.maker around_block.ends around_block.from around_block.follows l in
      let flag = subst (λ x. FlagTells kind before (kind_made code kind x before)) (same_some t.part part (sym t.there ∙ is)) (subst (λ x. FlagTells x before (kind_made code x t.part before)) s.is t.flag) in
      let kinds = same_some standing.step.kind kind (sym standing.step.kind_is ∙ k) in
      let parts = same_some standing.step.part part (sym standing.step.part_is ∙ is) in
      let makes = standing.step.makes nought nought (refl, tt) before refl same in
      let made : begun.active ≡ (kind_made code kind part before).active = ap (λ (n : Maker). n.active) makes ∙ ap₂ (λ x y. (kind_made code x y before).active) kinds parts in
      flag ∙ ap (λ (m : Maker). captured_from (active_count m + 3) (kind_made code kind part before)) (sym same) ∙ ap (λ (a : List Active). any_captured (drop (active_count around_block.maker + 3) a)) (sym made)

  -- what stands of a `for` behind its head
  record ForStands (around_block : Block run) (numeric : Bool) (foot to variables_end : ℕ) (captured : Bool) (hidden : List Active) (valued begun : Maker) (block : Statements) (parts : List Part) : Type 0 where
    block_laid : IsBlock code begun.active (active_count begun) (captured_from (active_count begun) (statements_made block (for_loop_of (active_count around_block.maker) valued) begun))
        (λ ends end. BodyLaid code (exit_to to around_block.maker) ends block (for_loop_of (active_count around_block.maker) valued) begun (suc around_block.from) end) (suc around_block.from) variables_end
    variables : VariablesEnd code hidden (active_count around_block.maker + 3) captured variables_end foot
    foots : HasKind code hidden foot (StepKind.Foot numeric (suc around_block.from))
    left : AreOf code.parts parts

  -- a CLOSE of the variables, where one is captured
  variables_end_there : (around_block : Block run) (head : Step) (hidden : List Active) (ends : List ℕ) (n : ℕ) (captured : Bool) (end foot : ℕ) → head.base + 3 ≡ n → head.base + 3 ≤ 2 ^ 32 - 1 →
      Here run hidden ends end → LastTo foot ends → lying.VariablesEnd code.steps head captured end foot → VariablesEnd code hidden n captured end foot × Here run hidden ends foot
  variables_end_there around_block head hidden ends n false end foot b h standing l V = (V, subst (λ p. Here run hidden ends p) (sym V) standing)
  variables_end_there around_block head hidden ends n true end foot b h standing l (closing_there, t) =
      let until = subst (λ p. LastTo p ends) t l in
      let close = has_close code params names ahead told hidden ends end standing until n (subst (λ k. closes code.steps end k ≡ true) (low (head.base + 3) (2 ^ 32 - 1) h ∙ b) closing_there) in
      ((t, close), subst (λ p. Here run hidden ends p) (sym t) (behind_close code params names ahead told plain one hidden ends end n standing close until))

  for_here : (around_block : Block run) (numeric : Bool) (foot to variables_end label : ℕ) (captured : Bool) (head : Step) (valued begun : Maker) (body : Plans) (parts : List Part) →
      BodyBuilds code params names ahead told plain body → AreOf code.parts parts → to ≤ around_block.stop → slice_get code.steps around_block.from ≡ Some head → around_block.from < variables_end →
      Head run around_block.maker around_block.from label foot to variables_end begun → ((rest : List Active) × (begun.active ≡ valued.active ++ rest)) → active_count valued ≡ active_count around_block.maker + 3 →
      lying.IsBlock code.steps (captures_own code.steps body) (λ ends end. BodyLies code.steps (lying.exit_to to head) ends body (suc around_block.from) end) (suc around_block.from) variables_end →
      lying.VariablesEnd code.steps head captured variables_end foot → kind_at code.steps foot ≡ Some (StepKind.Foot numeric (suc around_block.from)) → to ≡ suc foot →
      (made : Statements × List Part) → built_from no_statements body parts ≡ Some made → ForStands around_block numeric foot to variables_end captured valued.active valued begun made.0 made.1
  for_here around_block numeric foot to variables_end label captured head valued begun body parts builds of h there less standing extends count lies_there V kind_there t made e =
      let n = around_block.maker in
      let last = last_weaker to around_block.stop around_block.ends h around_block.lasts in
      let order = ends_before code head captured variables_end foot V in
      let until = last_weaker (suc around_block.from) to around_block.ends (omega arith) last in
      let tells = step_tells code params names ahead told n.active around_block.ends around_block.from (begins_here code params names ahead told plain around_block) until head there in
      let in_head : variables_end ≤ to = omega arith in
      let own_block : Block run = record {
        exit = lying.exit_to to head;
        stop = variables_end;
        loop = for_loop_of (active_count n) valued;
        maker = begun;
        ends = for_ends around_block.ends to standing.variables variables_end;
        from = suc around_block.from;
        follows = at_begun standing until nought nought refl around_block.follows;
        matches = sym tells.base;
        lasts = last_both variables_end around_block.ends (replicate 3 to ++ replicate standing.variables variables_end) (last_weaker variables_end to around_block.ends in_head last)
            (last_both variables_end (replicate 3 to) (replicate standing.variables variables_end) (in_head, (in_head, (in_head, tt))) (replicate_lasts standing.variables variables_end));
      } in
      let whole_standing = whole_block code params names ahead told plain body builds own_block parts of lies_there made e in
      let hidden = hidden_to around_block.ends to in
      let closing_there : Here run begun.active (hidden ++ replicate standing.variables variables_end) variables_end = record {
        maker = block_part 1 (statements_made made.0 own_block.loop) begun;
        follows = subst (λ (es : List ℕ). Follows run nought nought (block_part 1 (statements_made made.0 own_block.loop) begun) es variables_end)
            (sym (append_again around_block.ends (replicate 3 to) (replicate standing.variables variables_end))) whole_standing.behind;
        same = whole_standing.kept;
      } in
      let counts : length hidden ≡ active_count n + 3 = length_both around_block.ends (replicate 3 to) ∙ ap (λ k. k + 3) around_block.follows.count in
      let done_there = locals_end code params names ahead told plain one begun.active hidden (replicate standing.variables variables_end) (active_count n + 3) variables_end counts (replicate_ends standing.variables variables_end) closing_there in
      let same_there = subst (λ (a : List Active). Here run a hidden variables_end) (front_of (active_count n + 3) valued.active begun.active extends count) done_there in
      let all = last_both to around_block.ends (replicate 3 to) last (omega arith, (omega arith, (omega arith, tt))) in
      let walked = variables_end_there around_block head valued.active hidden (active_count n + 3) captured variables_end foot (ap (λ k. k + 3) tells.base) (few around_block.from head there) same_there (last_weaker foot to hidden (omega arith) all) V in
      let exit : as_laid (lying.exit_to to head) ≡ exit_to to n = ap (λ k. Some (record { place = to; locals = k })) tells.base in
      record {
        block_laid = subst (λ y. IsBlock code begun.active (active_count begun) (captured_from (active_count begun) (statements_made made.0 own_block.loop begun))
            (λ ends end. BodyLaid code y ends made.0 own_block.loop begun (suc around_block.from) end) (suc around_block.from) variables_end) exit whole_standing.is;
        variables = walked.0;
        foots = has_kind code params names ahead told valued.active hidden foot walked.1 (subst (λ p. LastTo p hidden) t all) (StepKind.Foot numeric (suc around_block.from)) kind_there;
        left = whole_standing.left;
      }

  pub for_stands : (around_block : Block run) (step : ℕ) (numeric : Bool) (to : ℕ) (body : Plans) (parts : List Part) → BodyBuilds code params names ahead told plain body → AreOf code.parts parts → to ≤ around_block.stop →
      PlanLies code.steps around_block.exit around_block.stop (for_plan step numeric body) around_block.from to → (made : Statement × List Part) → built_plan (for_plan step numeric body) parts ≡ Some made →
      Stands code params names ahead told plain around_block made.0 to false made.1
  for_stands around_block step true to body parts builds of h (at, (head, foot, variables_end, captured, there, is, less, lies_there, V, kind_there, t)) made e =
      let n = around_block.maker in
      let kind = StepKind.Head true foot to variables_end captured in
      let k : kind_at code.steps around_block.from ≡ Some kind = ap (option_map (λ (s : Step). s.kind)) there ∙ ap Some is in
      let c = chained (λ (taken : (Expressions × List Text) × List Part). option_and_then (λ (block : Statements × List Part). option_map (λ (s : Statement). (s, block.1)) (counted_of true taken.0.1 taken.0.0 block.0))
      (built_from no_statements body taken.1)) (take_head step parts) made e in
      let values = c.found.0.0 in
      let texts = c.found.0.1 in
      let x = head_taken code.parts parts step of c.found c.there in
      let found = subst (λ p. slice_get code.parts p ≡ Some (head_part values texts)) at x.is in
      let fits = fits_there code params names ahead told around_block.from kind k (head_part values texts) found in
      let d = chained (λ (block : Statements × List Part). option_map (λ (s : Statement). (s, block.1)) (counted_of true texts values block.0)) (built_from no_statements body c.found.1) made c.gives in
      let m = mapped (λ (s : Statement). (s, d.found.1)) (counted_of true texts values d.found.0) made d.gives in
      let q = counted values texts d.found.0 m.found fits.0 fits.1 m.there in
      let part = head_part (head_values q.first q.last q.by) (q.name ∷ []) in
      let part_is : slice_get code.parts around_block.from ≡ Some part = found ∙ ap₂ (λ vs ts. Some (head_part vs ts)) q.values_are q.names_are in
      let order = ends_before code head captured variables_end foot V in
      let until = last_weaker (suc around_block.from) around_block.stop around_block.ends (omega arith) around_block.lasts in
      let has = has_step code params names ahead told n.active around_block.ends around_block.from (begins_here code params names ahead told plain around_block) until kind k part part_is in
      let standing = numeric_head_goes statements_rename run plain q.name q.first q.last q.by n around_block.from foot to variables_end captured has in
      let valued = numeric_valued 1 q.name q.first q.last q.by n in
      let begun = numeric_begun 1 q.name q.first q.last q.by n in
      let ready = place (label_of valued) (put 1 (Piece.Jump Op.ForPrep n.free (suc (label_of valued))) (with_new_labels 3 valued)) in
      let more = activated (declare (q.name ∷ []) n).value ready in
      let found_there = for_here around_block true foot to variables_end (label_of valued) captured head valued begun body c.found.1 builds x.left h there less standing (more.0, more.1) (numeric_count q.name q.first q.last q.by n) lies_there V kind_there t d.found d.there in
      let flag = head_flag around_block true foot to variables_end (label_of valued) captured part begun until k part_is standing in
      let s = numeric_for q.name q.first q.last q.by d.found.0 in
      subst (λ (pair : Statement × List Part). Stands code params names ahead told plain around_block pair.0 to false pair.1) (ap (λ (kind : Statement). (kind, d.found.1)) q.is ∙ m.gives) (record {
        laid = (
          foot,
          variables_end,
          subst (λ b. HasStep code n.active around_block.from (StepKind.Head true foot to variables_end b) part) flag has,
          less,
          found_there.block_laid,
          subst (λ b. VariablesEnd code valued.active (active_count n + 3) b variables_end foot) flag found_there.variables,
          found_there.foots,
          t,
        );
        captures = no_local code params names ahead told plain around_block s (quiet s (λ d. d) around_block.loop n);
        left = found_there.left;
      })
  for_stands around_block step false to body parts builds of h (at, (head, foot, variables_end, captured, there, is, less, lies_there, V, kind_there, t)) made e =
      let n = around_block.maker in
      let kind = StepKind.Head false foot to variables_end captured in
      let k : kind_at code.steps around_block.from ≡ Some kind = ap (option_map (λ (s : Step). s.kind)) there ∙ ap Some is in
      let c = chained (λ (taken : (Expressions × List Text) × List Part). option_and_then (λ (block : Statements × List Part). option_map (λ (s : Statement). (s, block.1)) (counted_of false taken.0.1 taken.0.0 block.0))
      (built_from no_statements body taken.1)) (take_head step parts) made e in
      let values = c.found.0.0 in
      let texts = c.found.0.1 in
      let x = head_taken code.parts parts step of c.found c.there in
      let part = head_part values texts in
      let part_is = subst (λ p. slice_get code.parts p ≡ Some part) at x.is in
      let d = chained (λ (block : Statements × List Part). option_map (λ (s : Statement). (s, block.1)) (counted_of false texts values block.0)) (built_from no_statements body c.found.1) made c.gives in
      let s = generic_for texts values d.found.0 in
      let order = ends_before code head captured variables_end foot V in
      let until = last_weaker (suc around_block.from) around_block.stop around_block.ends (omega arith) around_block.lasts in
      let has = has_step code params names ahead told n.active around_block.ends around_block.from (begins_here code params names ahead told plain around_block) until kind k part part_is in
      let standing = generic_head_goes statements_rename run plain texts values n around_block.from foot to variables_end captured has in
      let valued = generic_valued 1 texts values n in
      let begun = generic_begun 1 texts values n in
      let ready = used (n.free + 6) (place (label_of valued) (jump_to 1 (suc (label_of valued)) (with_new_labels 3 valued))) in
      let more = activated (declare texts n).value ready in
      let found_there = for_here around_block false foot to variables_end (label_of valued) captured head valued begun body c.found.1 builds x.left h there less standing (more.0, more.1) (generic_count texts values n) lies_there V kind_there t d.found d.there in
      let flag = head_flag around_block false foot to variables_end (label_of valued) captured part begun until k part_is standing in
      subst (λ (pair : Statement × List Part). Stands code params names ahead told plain around_block pair.0 to false pair.1) (same_some (s, d.found.1) made d.gives) (record {
        laid = (
          foot,
          variables_end,
          subst (λ b. HasStep code n.active around_block.from (StepKind.Head false foot to variables_end b) part) flag has,
          less,
          found_there.block_laid,
          subst (λ b. VariablesEnd code valued.active (active_count n + 3) b variables_end foot) flag found_there.variables,
          found_there.foots,
          t,
        );
        captures = no_local code params names ahead told plain around_block s (quiet s (λ d. d) around_block.loop n);
        left = found_there.left;
      })
