use Rattle.std.proofs.Common.{◌≡◌, ◌∙◌, ap, sym, map, List, ◌∷◌, [], ◌++◌, ◌-◌, ◌+◌, length, arith, Option, None}
use Rattle.std.proofs.lemmas.List.{length-map}
use Rattle.recover_expr.specs.Drafts.{Drafted, view_draft}
use Rattle.recover_expr.specs.Locals.{Scope, view_locals}
use Rattle.recover_expr.specs.Reading.{ReadSoFar, drafts_from, step_at}
use Rattle.recover_expr.specs.Situation.{view_function, view_state}
use Rattle.recover_expr.proofs.Listed.{refused_with}
use Rattle.recover_expr.proofs.Turns.{draft_turn, draft_stops, drafts_over}
use Rattle.recover_expr.proofs.reading.read_drafts.Goals as goal

-- what the first steps are read from is what is left behind those locals that are over there
pub returns-then-pc-function-clause-drafts : goal.returns-then-pc-function-clause-drafts
returns-then-pc-function-clause-drafts c =
    let f = view_function c.args.function.now in
    let s = view_state c.args.state.now in
    let begun = ap (λ (scope : Scope). drafts_from f f.last ([], 0, record s { scope = scope })) c.leave.ensures in
    (c.loop.pc, sym begun ∙ sym c.loop.invariant ∙ drafts_over f (f.last - c.loop.counter) c.loop.pc (map view_draft c.loop.drafts.items) (view_state c.loop.state) c.if-pc-function.true)

pub returns-in_err-draft-clause-refused : goal.returns-in_err-draft-clause-refused
returns-in_err-draft-clause-refused c =
    let f = view_function c.args.function.now in
    let s = view_state c.args.state.now in
    let begun = ap (λ (scope : Scope). drafts_from f f.last ([], 0, record s { scope = scope })) c.leave.ensures in
    let drafts : List Drafted = map view_draft c.loop.drafts.items in
    let number : c.len.result ≡ length drafts = omega (arith, c.len.ensures, length-map c.loop.drafts.items view_draft) in
    refused_with {holds = step_at f c.len.result c.loop.pc (view_state c.loop.state) ≡ None} c.from_residual.result c.in_err-draft.field-0.0 c.from_residual.ensures.1
    (λ none. sym begun ∙ draft_stops f c.loop.counter c.loop.pc c.len.result drafts (view_state c.loop.state) c.loop-test.true c.if-pc-function.false number none c.loop.invariant)
    c.in_err-draft.ensures.refused

pub loop-preserved : goal.loop-preserved
loop-preserved c =
    let f = view_function c.args.function.now in
    let behind = view_state c.step_at.new.state in
    let drafts : List Drafted = map view_draft c.loop.drafts.items in
    let number : c.len.result ≡ length drafts = omega (arith, c.len.ensures, length-map c.loop.drafts.items view_draft) in
    let rest : List Drafted → Scope → Option ReadSoFar = λ those scope. drafts_from f (f.last - (c.loop.counter + 1)) (those, c.in_ok-draft.draft.next, record behind { scope = scope }) in
    ap (λ those. rest those (view_locals c.leave-in-loop.new.self)) c.in_ok-push_draft.ensures
    ∙ ap (λ scope. rest (drafts ++ view_draft c.in_ok-draft.draft ∷ []) scope) c.leave-in-loop.ensures
    ∙ draft_turn f c.loop.counter c.loop.pc c.len.result drafts (view_state c.loop.state) behind (view_draft c.in_ok-draft.draft) c.loop-test.true c.if-pc-function.false number c.in_ok-draft.ensures.draft c.loop.invariant
