-- What the steps of a `for` and of a `repeat` say is what stands in it, where this is so of its block.
use Rattle.std.proofs.Common.{◌≡◌, ◌≤◌, ◌<◌, ℕ, suc, ◌+◌, Bool, true, false, ◌⊎◌, inl, inr, List, [], ◌∷◌, ◌++◌, refl, sym, ap, ◌∙◌, arith}
use Rattle.std.proofs.lemmas.List.{append-nil, append_assoc}
use Rattle.lua_num.specs.Bytes.{Text}
use Rattle.lua_tree.specs.Syntax.{Statements, Expressions, Expression, ForStep, no_step, by_step, numeric_for}
use Rattle.lua_tree.specs.Outline as outline
use Rattle.lua_tree.specs.Outline.{Place, Mark, Walk, both, within, in_loop, with_locals, declares, statements_part, statement_part, step_part, expressions_part, expression_part}
use Rattle.recover_expr.specs.Drafts.{head_part}
use Rattle.recover_expr.specs.Placing.{Steps}
use Rattle.recover_expr.specs.declared.steps.StepKind.{StepKind}
use Rattle.scheme.specs.declared.making.Active.{Active}
use Rattle.same_flow.specs.Laid.{IsJump, IsClose, TestLaid, IsFor, head_values}
use Rattle.same_flow.specs.SameMarks.{but_breaks}
use Rattle.same_flow.proofs.Walks.{Entry, loopless, state_of, passed, ended_in, ended, heads, Goes, ◌then◌, goes_to_equal, goes_by_equal}
use Rattle.same_flow.proofs.Steady.{◌and_then◌, calm_declares, calm_expressions, steady_heads}
use Rattle.same_flow.proofs.Kept.{Live, live_less, leaves, left_with, Walked, Kept, Quiet, quiet_nowhere, quiet_both, then_quiet, jumps, closes, feet, entry_at, steps_until, quiet_variables, variables_before}
use Rattle.same_flow.proofs.Tests.{test_kept}

-- what stands in a `for`, with the values in one list
abbrev pub for_part : List Text → Expressions → outline.Part → outline.Part
for_part names es block place =
    both (declares 1 3 names) (both (expressions_part es) (within (λ inside. in_loop (with_locals 3 names place.declarations inside)) block)) place

abbrev pub inside_for : List Text → Expressions → Place → Place
inside_for names es place = in_loop (heads names es place).next

head_then : (one two three : List Mark) → (one ++ (two ++ [])) ++ three ≡ one ++ (two ++ three)
head_then one two three = append_assoc one (two ++ []) three ∙ ap (λ (marks : List Mark). one ++ (marks ++ three)) (append-nil two)

pub for_kept : (code : Steps) (numeric : Bool) (names : List Text) (es : Expressions) (block : outline.Part) (active hidden : List Active) (n : ℕ) (captured : Bool) (laid : (from to : ℕ) → Type 0) (from to ends : ℕ) →
    IsFor code numeric (head_part es names) active hidden n captured laid from to → to ≤ ends → (place : Place) (before : List Entry) → Live ends before →
    ((end : ℕ) (inner : List Entry) → laid (suc from) end → Live end inner → let inside = inside_for names es place in Goes code (suc from) end (state_of inside inner) (block inside).marks (state_of (passed inside (block inside).next) inner)) →
    Kept code from to before place (for_part names es block place)
for_kept code numeric names es block active hidden n captured laid from to ends h le place before live body =
    let foot : ℕ = h.0 in
    let end : ℕ = h.1 in
    let early : end ≤ foot = variables_before code hidden (n + 3) captured end foot h.5 in
    let less : from < ends = let l = h.3 in let e = h.7 in omega (arith, early, l, e, le) in
    let entry : Entry = entry_at place end in
    let inner : List Entry = entry ∷ before in
    let inside : Place = inside_for names es place in
    let behind : Place = (block inside).next in
    let values = calm_declares 1 3 names and_then calm_expressions es in
    let first = declares 1 3 names place in
    let second = expressions_part es first.next in
    let head = steps_until from ends end (StepKind.Head numeric foot to end captured) (head_part es names) (λ state. refl) (steady_heads names es) h.2 less place before live in
    let block_goes = body end inner h.4 (omega arith) in
    let back =
    leaves end entry (loopless (passed inside behind)) before (omega arith)
    ∙ ap (λ (p : Place). ended_in end (loopless (passed p behind)) before) ((steady_heads names es).returns place)
    ∙ sym (ap (λ (p : Place). ended_in end (loopless (passed p behind)) before) (values.stays place)) in
    let quiet = quiet_both (quiet_variables code hidden (n + 3) captured end foot h.5) (feet numeric (suc from) to h.7 h.6) in
    record {
      goes = goes_by_equal (ap but_breaks (head_then first.marks second.marks (block inside).marks)) (then_quiet (goes_to_equal back (head then block_goes)) quiet);
      stays = ap (λ (p : Place). passed p behind) (values.stays place);
    }

values_same : (first last : Expression) (step : ForStep) (place : Place) →
    expressions_part (head_values first last step) place ≡ both (expression_part first) (both (expression_part last) (step_part step)) place
values_same first last no_step place = refl
values_same first last (by_step e) place =
    let one = expression_part first place in
    let two = expression_part last one.next in
    let three = expression_part e two.next in
    ap (λ (marks : List Mark). record { marks = one.marks ++ (two.marks ++ marks); next = three.next }) (append-nil three.marks)

pub numeric_same : (name : Text) (first last : Expression) (step : ForStep) (block : Statements) (place : Place) →
    for_part (name ∷ []) (head_values first last step) (statements_part block) place ≡ statement_part 1 (numeric_for name first last step block) place
numeric_same name first last step block place =
    let one = declares 1 3 (name ∷ []) place in
    ap (λ (walk : Walk).
    let inside = statements_part block (in_loop (with_locals 3 (name ∷ []) place.declarations walk.next)) in
    record { marks = one.marks ++ (walk.marks ++ inside.marks); next = passed walk.next inside.next })
    (values_same first last step one.next)

-- ---- repeat

-- behind the condition the locals of the block have left
repeat_tested : {code : Steps} {from start tested to ends : ℕ} {place : Place} {before : List Entry} (block : outline.Part) (e : Expression) (w : Walked code from start ends (in_loop place) before (block (in_loop place))) →
    Kept code start tested w.after (block (in_loop place)).next (expression_part e (block (in_loop place)).next) → Quiet code tested to → ends ≤ to →
    Kept code from to before place (within in_loop (both block (expression_part e)) place)
repeat_tested {to = to} {place = place} {before = before} block e w k q le =
    let next = (block (in_loop place)).next in
    let behind = (expression_part e next).next in
    record {
      goes = goes_to_equal (ap (λ (p : Place). ended to (state_of p w.after)) k.stays ∙ left_with w.ended to le behind) (then_quiet (w.goes then k.goes) q);
      stays = refl;
    }

-- where the steps of a `repeat` stand: no local of its block is captured, or one is
abbrev pub RepeatLaid : Steps → Expression → (before inside : List Active) → (n : ℕ) → (captured : Bool) → (laid : (ends start : ℕ) → Type 0) → (from start to : ℕ) → Type 0
RepeatLaid code e before inside n captured laid from start to =
    ((captured ≡ false) × (start ≤ to) × laid to start × TestLaid code inside e false from start to)
    ⊎ ((captured ≡ true) × (tested : ℕ) × (start ≤ tested) × laid (tested + 2) start
    × TestLaid code inside e false (tested + 2) start tested × IsClose code inside tested n × IsJump code inside (tested + 1) to
    × IsClose code before (tested + 2) n × IsJump code before (tested + 3) from × (to ≡ tested + 4))

pub repeat_kept : (code : Steps) (e : Expression) (active inside : List Active) (n : ℕ) (captured : Bool) (laid : (ends start : ℕ) → Type 0) (from start to ends : ℕ) → RepeatLaid code e active inside n captured laid from start to →
    to ≤ ends → (place : Place) (before : List Entry) → Live ends before → (block : outline.Part) →
    ((stop : ℕ) → laid stop start → start ≤ stop → Live stop before → Walked code from start stop (in_loop place) before (block (in_loop place))) →
    Kept code from to before place (within in_loop (both block (expression_part e)) place)
repeat_kept code e active inside n captured laid from start to ends (inl h) le place before live block body =
    let w = body to h.2 h.1 (live_less to ends before le live) in
    let next = (block (in_loop place)).next in
    repeat_tested block e w (test_kept e code inside false from start to to h.3 (omega arith) next w.after w.ended.live) (quiet_nowhere code to to refl) (omega arith)
repeat_kept code e active inside n captured laid from start to ends (inr h) le place before live block body =
    let tested : ℕ = h.1 in
    let whole : to ≡ tested + 4 = h.9 in
    let w = body (tested + 2) h.3 (let l = h.2 in omega (arith, l)) (live_less (tested + 2) ends before (omega (arith, whole, le)) live) in
    let next = (block (in_loop place)).next in
    let test = test_kept e code inside false (tested + 2) start tested (tested + 2) h.4 (omega arith) next w.after w.ended.live in
    let first = quiet_both (closes n (tested + 1) (omega arith) h.5) (jumps to (tested + 2) (omega arith) h.6) in
    let second = quiet_both (closes n (tested + 3) (omega arith) h.7) (jumps from to (omega (arith, whole)) h.8) in
    repeat_tested block e w test (quiet_both first second) (omega (arith, whole))
