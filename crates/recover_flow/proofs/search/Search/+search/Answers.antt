-- What each part of the search answers, by the calls in it.
use Rattle.std.proofs.Common.{◌≡◌, ◌∙◌, sym, ap, subst, arith, max, map, ◌++◌, ◌∷◌, [], append-nil, length, get_or, slice_get, Option, None, Some, option_map}
use Rattle.std.specs.Global.{Vec}
use Rattle.std.specs.Prelude.{option_to_list}
use Rattle.std.proofs.lemmas.List.{length-append, map-append}
use Rattle.std.proofs.lemmas.Option.{slice_get-get_or}
use Rattle.recover_flow.specs.Arms.{arm_starts, view_start}
use Rattle.recover_flow.specs.Asked.{block_at, length_at}
use Rattle.recover_flow.specs.Cutting.{pieces_of}
use Rattle.recover_flow.specs.Searching.{Answers, AreRests, BlockAnswer, BodyAnswer, BranchesAnswer, IsStartOf, LastIfAnswer, LoopAnswer, PlanAnswer, RestAnswer, SoFar, StatementsAnswer, TestAnswer, rest_at, steps_of, store_of}
use Rattle.recover_flow.specs.Standing.{with_used}
use Rattle.recover_flow.specs.declared.plan.Found.{Found}
use Rattle.recover_flow.specs.declared.plan.Planned.{Planned}
use Rattle.recover_flow.specs.declared.regions.Exit.{Exit}
use Rattle.recover_flow.specs.declared.tables.Lengths.{Lengths}
use Rattle.recover_flow.proofs.Answered.{arm_answer, arm_no_block, block_answer, closed_given, for_answer, if_given, if_ok_as, ifs_tried, is_none, jumps_answer, jumps_once, last_answer, last_arm_answer, last_if_answer, last_if_given, last_in_vain, locals_answer, loop_in_vain, loops_answer, no_items, not_zero, piece_there, rest_first, rest_in_way, rest_last, rests_now, scope_answer, settled_answer, sofar_next, statements_answer, stopped, stuck_now, turn_behind, turns_tried, way_answer, way_at, way_behind, way_none, ways_tried, while_given}
use Rattle.recover_flow.proofs.Bodies.{body_failed, branches_failed, empty_found}
use Rattle.recover_flow.proofs.Chained.{answers_behind, answers_same, keeps_both, keeps_same, ready_behind, same_steps}
use Rattle.recover_flow.proofs.Growing.{sofar_grows}
use Rattle.recover_flow.proofs.Resting.{are_rests, branches_answer, none_yet, nothing_done, popped, rests_noted, rests_of_grow, start_is}
use Rattle.recover_flow.proofs.search.Search.+search.Goals.{tested_loop-then-is_some-via-then-is_some, tested_loop-then-is_some-via-else-is_some+then-turn-most}
use Rattle.recover_flow.proofs.search.Search.+search.Goals as goal

pub body-returns-in-Failed : goal.body-returns-in-Failed
body-returns-in-Failed t c =
    let search = c.args.self.now in
    let at = record c.args.at { exit = c.used.result } in
    subst (λ (exit : Option Exit). Answers search search (BodyAnswer (record c.args.at { exit = exit }) c.args.levels None)) c.used.ensures
    (answers_same search (BodyAnswer at c.args.levels None) c.requires.ready (body_failed (steps_of search) search.memory at c.args.levels c.requires.ready.right (sym c.recall_body.ensures ∙ c.in-Failed.is)))

pub branches-returns-in-Failed : goal.branches-returns-in-Failed
branches-returns-in-Failed t c =
    let search = c.args.self.now in
    let at = record c.args.at { exit = c.used.result } in
    subst (λ (exit : Option Exit). Answers search search (BranchesAnswer (record c.args.at { exit = exit }) c.args.levels None)) c.used.ensures
    (answers_same search (BranchesAnswer at c.args.levels None) c.requires.ready (branches_failed (steps_of search) search.memory at c.args.levels c.requires.ready.right (sym c.recall_branches.ensures ∙ c.in-Failed.is)))

pub body-returns-then-at : goal.body-returns-then-at
body-returns-then-at t c =
    let steps = steps_of c.args.self.now in
    answers_same c.args.self.now _ c.requires.ready (empty_found steps c.args.self.now.memory (with_used steps c.args.at) c.args.levels c.if-at.true c.requires.ready.right)

pub block-returns : goal.block-returns
block-returns t c =
    if_ok_as c.body-3.result _ _ c.body-3.ensures
    (λ found. block_answer c.args.self.now c.body-2.new.self c.body-3.new.self c.args.at c.in-Some.closed c.args.levels c.in_ok-found.found found c.in-Some.is (is_none c.in_ok-found.found (sym c.is_some.ensures ∙ c.if-is_some.false)) c.in_ok-found.ensures)

pub statement-returns-in-Settled : goal.statement-returns-in-Settled
statement-returns-in-Settled t c =
    let search = c.args.self.now in
    answers_same search (PlanAnswer c.args.at c.args.piece c.args.levels c.fitting.result) c.requires.ready
    (subst (λ one. PlanAnswer c.args.at c.args.piece c.args.levels one (steps_of search) (store_of search)) (sym c.fitting.ensures)
    (settled_answer (steps_of search) (store_of search) c.args.at c.args.piece c.args.levels c.in-Settled.planned (sym c.choice_of.ensures ∙ c.in-Settled.is)))

pub for_of-returns : goal.for_of-returns
for_of-returns t c =
    if_ok_as c.filled.result _ _ c.filled.ensures
    (λ planned. for_answer c.args.self.now c.filled.new.self c.args.at c.args.piece c.args.levels c.counted-form.result planned c.requires.choice c.counted-form.ensures)

pub locals-returns-then-is_some : goal.locals-returns-then-is_some
locals-returns-then-is_some t c =
    scope_answer c.args.self.now c.filled.new.self c.args.at c.args.piece c.args.levels c.scope-form.result c.in_ok-planned.planned c.requires.choice c.scope-form.ensures (sym c.is_some.ensures ∙ c.if-is_some.true) c.in_ok-planned.ensures

pub locals-returns : goal.locals-returns
locals-returns t c =
    if_ok_as c.filled-2.result _ _ c.filled-2.ensures
    (λ planned. locals_answer c.args.self.now c.filled.new.self c.filled-2.new.self c.args.at c.args.piece c.args.levels c.scope-form.result c.once-form.result c.in_ok-planned.planned planned c.requires.choice c.scope-form.ensures c.once-form.ensures
    (sym c.is_some.ensures ∙ c.if-is_some.false) c.in_ok-planned.ensures)

pub jumps-returns-then-is_some : goal.jumps-returns-then-is_some
jumps-returns-then-is_some t c =
    if_given c.args.self.now c.if_of.new.self c.args.at c.args.piece _ c.args.levels c.in_ok-planned.planned c.requires.choice (sym c.is_some.ensures ∙ c.if-is_some.true) c.in_ok-planned.ensures

pub jumps-returns-then-is_some-2 : goal.jumps-returns-then-is_some-2
jumps-returns-then-is_some-2 t c =
    jumps_once c.args.self.now c.if_of.new.self c.filled.new.self c.args.at c.args.piece c.args.levels c.once-form.result c.in_ok-planned-2.planned c.requires.choice c.in_ok-planned.ensures.keeps c.once-form.ensures (sym c.is_some-2.ensures ∙ c.if-is_some-2.true) c.in_ok-planned-2.ensures

pub jumps-returns : goal.jumps-returns
jumps-returns t c =
    if_ok_as c.if_of-2.result _ _ c.if_of-2.ensures
    (λ planned. jumps_answer c.args.self.now c.if_of.new.self c.filled.new.self c.if_of-2.new.self c.args.at c.args.piece c.args.levels c.once-form.result c.in_ok-planned.planned c.in_ok-planned-2.planned planned c.requires.choice
    (sym c.is_some.ensures ∙ c.if-is_some.false) c.in_ok-planned.ensures c.once-form.ensures (sym c.is_some-2.ensures ∙ c.if-is_some-2.false) c.in_ok-planned-2.ensures)

pub loop_of-returns-then-is_some : goal.loop_of-returns-then-is_some
loop_of-returns-then-is_some t c =
    closed_given c.args.self.now c.tested_loop.new.self c.args.at c.args.piece c.args.last c.args.levels c.closed_loop-closed.result c.in_ok-planned.planned c.requires.choice c.closed_loop-closed.ensures (sym c.is_some.ensures ∙ c.if-is_some.true) c.in_ok-planned.ensures

pub loop_of-returns-then-is_some-2 : goal.loop_of-returns-then-is_some-2
loop_of-returns-then-is_some-2 t c =
    while_given c.args.self.now c.tested_loop.new.self c.tested_loop-2.new.self c.args.at c.args.piece c.args.last c.args.levels c.while_loop-tested_first.result c.in_ok-planned-2.planned c.requires.choice c.in_ok-planned.ensures.keeps c.while_loop-tested_first.ensures
    (sym c.is_some-2.ensures ∙ c.if-is_some-2.true) c.in_ok-planned-2.ensures

pub loop_of-returns : goal.loop_of-returns
loop_of-returns t c =
    if_ok_as c.tested_loop-3.result _ _ c.tested_loop-3.ensures
    (λ planned. loops_answer c.args.self.now c.tested_loop.new.self c.tested_loop-2.new.self c.tested_loop-3.new.self c.args.at c.args.piece c.args.last c.args.levels c.closed_loop-closed.result c.while_loop-tested_first.result c.open_loop-open.result
    c.in_ok-planned.planned c.in_ok-planned-2.planned planned c.requires.choice c.closed_loop-closed.ensures (sym c.is_some.ensures ∙ c.if-is_some.false) c.in_ok-planned.ensures c.while_loop-tested_first.ensures
    (sym c.is_some-2.ensures ∙ c.if-is_some-2.false) c.in_ok-planned-2.ensures c.open_loop-open.ensures)

pub tested_loop-returns-then-is_some : goal.tested_loop-returns-then-is_some
tested_loop-returns-then-is_some t c =
    elim c.then-is_some.branch [
      | tested_loop-then-is_some-via-then-is_some w ↦
          subst (λ loop. Answers c.args.self.now c.filled.new.self (LoopAnswer loop c.args.levels c.in_ok-planned.planned)) (sym c.in-Some.is)
          (turn_behind c.args.self.now c.loop-form.self c.loop_form.new.self c.filled.new.self c.in-Some.at c.args.levels c.loop-form.turn c.at.result c.in_ok-form.form c.in_ok-planned.planned c.loop-form.invariant.0
          (c.at.ensures ∙ ap (λ lengths. length_at lengths c.loop-form.turn) c.lengths-lengths.ensures) (sym c.is_some.ensures ∙ w.if-is_some.true) c.in_ok-form.ensures c.in_ok-planned.ensures)
      | tested_loop-then-is_some-via-else-is_some+then-turn-most w ↦
          subst (λ loop. Answers c.args.self.now c.filled.new.self (LoopAnswer loop c.args.levels c.in_ok-planned.planned)) (sym c.in-Some.is)
          (loop_in_vain c.args.self.now c.loop-form.self c.loop_form.new.self c.filled.new.self c.in-Some.at c.args.levels c.loop-form.turn c.at.result c.in_ok-form.form c.in_ok-planned.planned c.loop-form.invariant.0
          (c.at.ensures ∙ ap (λ lengths. length_at lengths c.loop-form.turn) c.lengths-lengths.ensures) (sym c.is_some.ensures ∙ w.if-is_some.false) c.in_ok-form.ensures c.in_ok-planned.ensures c.loop-form.invariant.2
          (omega (arith, w.if-turn-most.true, c.max-most.ensures, ap (λ (lengths : Lengths). max lengths.tests lengths.jumps) c.lengths-lengths.ensures)))
    ]

pub tested_loop-loop-form-preserved : goal.tested_loop-loop-form-preserved
tested_loop-loop-form-preserved t c = (
  keeps_both c.args.self.now c.loop-form.self c.filled.new.self c.loop-form.invariant.0 (keeps_both c.loop-form.self c.loop_form.new.self c.filled.new.self c.in_ok-form.ensures.keeps c.in_ok-planned.ensures.keeps),
  omega (arith, c.if-turn-most.false),
  turns_tried c.args.self.now c.loop-form.self c.loop_form.new.self c.filled.new.self c.in-Some.at c.args.levels c.loop-form.turn c.at.result c.in_ok-form.form c.in_ok-planned.planned c.loop-form.invariant.0
      (c.at.ensures ∙ ap (λ lengths. length_at lengths c.loop-form.turn) c.lengths-lengths.ensures) (sym c.is_some.ensures ∙ c.if-is_some.false) c.in_ok-form.ensures c.in_ok-planned.ensures c.loop-form.invariant.2,
)

pub last_if-returns-then-is_some : goal.last_if-returns-then-is_some
last_if-returns-then-is_some t c =
    last_if_given c.args.self.now c.if_at.new.self c.args.at c.args.piece c.args.levels c.in_ok-planned.planned (sym c.begins_branches.ensures ∙ c.if-not-begins_branches.false) (sym c.is_some.ensures ∙ c.if-is_some.true) c.in_ok-planned.ensures

pub last_if-returns : goal.last_if-returns
last_if-returns t c =
    if_ok_as c.if_at-2.result _ _ c.if_at-2.ensures
    (λ planned. last_if_answer c.args.self.now c.if_at.new.self c.if_at-2.new.self c.args.at c.args.piece c.args.levels c.in_ok-planned.planned planned (sym c.begins_branches.ensures ∙ c.if-not-begins_branches.false) (sym c.is_some.ensures ∙ c.if-is_some.false) c.in_ok-planned.ensures)

pub next_statement-returns : goal.next_statement-returns
next_statement-returns t c =
    stopped c.args.self.now c.statement.new.self c.stops_at.new.self c.args.at c.args.piece c.args.levels c.args.piece.from c.in_ok-planned.planned (sym c.is_some.ensures ∙ c.if-is_some.false) c.in_ok-planned.ensures c.stops_at.ensures

pub last_branches-returns-in-Some : goal.last_branches-returns-in-Some
last_branches-returns-in-Some t c =
    let inv = c.loop-statements.invariant in
    let piece = get_or c.args.pieces.now c.loop-statements.number (record { from = 0; to = 0 }) in
    let pieces = c.args.pieces.now in
    let there = piece_there pieces c.loop-statements.number c.requires.stuck.piece (length c.args.statements.items) (omega (arith, inv.2, ap (λ (list : Vec Planned). length list.items) inv.1)) c.requires.stuck.next in
    subst (λ list. Answers c.args.self.now c.last_if.new.self (StatementsAnswer c.args.at c.args.levels (Some list))) (sym (c.in_ok-push.ensures.items ∙ ap (λ list. list ++ c.in-Some.last ∷ []) c.truncate.ensures.items))
    (last_answer c.args.self.now c.loop-statements.self c.last_if.new.self c.args.at c.args.levels c.loop-statements.number pieces c.loop-statements.statements.items piece c.in-Some.last c.requires.some c.requires.apart c.requires.pieces inv.2 inv.0 inv.3 (there (record { from = 0; to = 0 }))
    (subst (λ one. Answers c.loop-statements.self c.last_if.new.self (LastIfAnswer c.args.at piece c.args.levels one)) c.in-Some.is c.in_ok-last.ensures))

pub last_branches-returns-then-number-eq0 : goal.last_branches-returns-then-number-eq0
last_branches-returns-then-number-eq0 t c =
    let inv = c.loop-statements.invariant in
    let piece = get_or c.args.pieces.now c.loop-statements.number (record { from = 0; to = 0 }) in
    let same = ap (λ (list : Vec Planned). list.items) inv.1 in
    last_in_vain c.args.self.now c.loop-statements.self c.last_if.new.self c.args.at c.args.levels c.loop-statements.number c.args.pieces.now c.args.statements.items piece c.requires.apart c.requires.pieces c.requires.stuck inv.0 (omega (arith, c.if-number-eq0.true))
    (λ n piece past within there. inv.4 n piece past (omega (arith, within, ap length same)) there)
    (piece_there c.args.pieces.now c.loop-statements.number c.requires.stuck.piece (length c.args.statements.items) (omega (arith, inv.2, ap length same)) c.requires.stuck.next (record { from = 0; to = 0 }))
    (subst (λ one. Answers c.loop-statements.self c.last_if.new.self (LastIfAnswer c.args.at piece c.args.levels one)) c.in_default.is c.in_ok-last.ensures)

pub last_branches-loop-statements-preserved : goal.last_branches-loop-statements-preserved
last_branches-loop-statements-preserved t c =
    let inv = c.loop-statements.invariant in
    let piece = get_or c.args.pieces.now c.loop-statements.number (record { from = 0; to = 0 }) in
    let same = ap (λ (list : Vec Planned). list.items) inv.1 in (
      keeps_both c.args.self.now c.loop-statements.self c.last_if.new.self inv.0 c.in_ok-last.ensures.keeps,
      inv.1,
      omega (arith, inv.2),
      sofar_grows (steps_of c.args.self.now) c.in_ok-last.ensures.keeps.grows c.args.at c.args.levels c.args.pieces.now c.loop-statements.statements.items inv.3,
      ifs_tried c.args.self.now c.loop-statements.self c.last_if.new.self c.args.at c.args.levels c.loop-statements.number (length c.loop-statements.statements.items) c.args.pieces.now piece inv.0 (omega (arith, c.if-number-eq0.false)) inv.4
          (piece_there c.args.pieces.now c.loop-statements.number c.requires.stuck.piece (length c.args.statements.items) (omega (arith, inv.2, ap length same)) c.requires.stuck.next (record { from = 0; to = 0 }))
          (subst (λ one. Answers c.loop-statements.self c.last_if.new.self (LastIfAnswer c.args.at piece c.args.levels one)) c.in_default.is c.in_ok-last.ensures),
    )

pub statements-last_branches-requires : goal.statements-last_branches-requires
statements-last_branches-requires t c =
    let before = c.args.self.now in
    let now = c.loop-piece.self in
    let after = c.next_statement.new.self in
    let piece = get_or c.deref-piece-items.result.now c.loop-piece.piece-index (record { from = 0; to = 0 }) in
    let inv = c.loop-piece.invariant in
    let keeps = keeps_both before now after inv.0 c.in_ok-statement.ensures.keeps in
    let same = same_steps before after keeps in
    let pieces = c.in-Some.pieces.items in
    let are : pieces_of (steps_of before) c.args.at ≡ Some pieces = sym c.in_ok-pieces.ensures ∙ ap (option_map (λ list. list.items)) c.in-Some.is in (
      omega arith,
      (
        ready_behind before after c.requires.ready keeps,
        (
          c.requires.apart,
          (
            c.requires.some,
            (
              ap (λ s. pieces_of s c.args.at) same ∙ are ∙ ap (λ list. Some list) (sym c.deref.ensures.value),
              stuck_now before now after c.args.at c.args.levels c.deref.result.now c.loop-piece.statements.items c.loop-piece.piece-index piece inv.0 (subst (λ list. SoFar (steps_of before) (store_of now) c.args.at c.args.levels list c.loop-piece.statements.items) (c.deref-piece-items.ensures.value ∙ sym c.deref.ensures.value) inv.1) inv.2
                  (subst (λ one. Answers now after (PlanAnswer c.args.at piece c.args.levels one)) c.in_default-2.is c.in_ok-statement.ensures)
                  (ap (λ list. slice_get list c.loop-piece.piece-index) (c.deref.ensures.value ∙ sym c.deref-piece-items.ensures.value) ∙ slice_get-get_or c.deref-piece-items.result.now c.loop-piece.piece-index (record { from = 0; to = 0 }) (omega (arith, c.loop-piece-test.true))),
            ),
          ),
        ),
      ),
    )

pub statements-returns-in_default-2 : goal.statements-returns-in_default-2
statements-returns-in_default-2 t c =
    let before = c.args.self.now in
    let after = c.next_statement.new.self in
    let keeps = keeps_both before c.loop-piece.self after c.loop-piece.invariant.0 c.in_ok-statement.ensures.keeps in
    if_ok_as c.last_branches.result _ _ c.last_branches.ensures (λ found. answers_behind before after c.last_branches.new.self (StatementsAnswer c.args.at c.args.levels (option_map (λ list. list.items) found)) keeps)

pub statements-loop-piece-preserved : goal.statements-loop-piece-preserved
statements-loop-piece-preserved t c =
    let before = c.args.self.now in
    let now = c.loop-piece.self in
    let after = c.next_statement.new.self in
    let piece = get_or c.deref-piece-items.result.now c.loop-piece.piece-index (record { from = 0; to = 0 }) in
    let inv = c.loop-piece.invariant in (
      keeps_both before now after inv.0 c.in_ok-statement.ensures.keeps,
      subst (λ list. SoFar (steps_of before) (store_of after) c.args.at c.args.levels c.deref-piece-items.result.now list) (sym c.in_ok-push.ensures.items)
          (sofar_next before now after c.args.at c.args.levels c.deref-piece-items.result.now c.loop-piece.statements.items c.loop-piece.piece-index piece c.in-Some-2.statement inv.0 inv.1 inv.2 (slice_get-get_or c.deref-piece-items.result.now c.loop-piece.piece-index (record { from = 0; to = 0 }) (omega (arith, c.loop-piece-test.true)))
          (subst (λ one. Answers now after (PlanAnswer c.args.at piece c.args.levels one)) c.in-Some-2.is c.in_ok-statement.ensures)),
      omega (arith, ap length c.in_ok-push.ensures.items, length-append c.loop-piece.statements.items (c.in-Some-2.statement ∷ []), inv.2),
    )

pub statements-returns : goal.statements-returns
statements-returns t c =
    let before = c.args.self.now in
    let inv = c.loop-piece.invariant in
    let pieces = c.in-Some.pieces.items in
    let are : pieces_of (steps_of before) c.args.at ≡ Some pieces = sym c.in_ok-pieces.ensures ∙ ap (option_map (λ list. list.items)) c.in-Some.is in
    statements_answer before c.loop-piece.self c.args.at c.args.levels pieces c.loop-piece.statements.items c.requires.some c.requires.apart are (omega (arith, inv.2, c.loop-piece-test.false, c.loop-piece.auto.piece-index-end, c.deref-piece-items.ensures.len, ap length c.deref-piece-items.ensures.value)) (λ none. not_zero _ (sym c.is_empty.ensures ∙ c.if-is_empty.false) (omega (arith, none))) inv.0
    (subst (λ list. SoFar (steps_of before) (store_of c.loop-piece.self) c.args.at c.args.levels list c.loop-piece.statements.items) c.deref-piece-items.ensures.value inv.1)

pub arms-rest-requires : goal.arms-rest-requires
arms-rest-requires t c =
    let now = c.loop-start.self in
    let steps = steps_of c.args.self.now in
    let keeps = c.loop-start.invariant.0 in
    let same = same_steps c.args.self.now now keeps in
    let done = c.loop-start.invariant.1.0 in
    let are = popped (map view_start c.pop.new.self.items) (map view_start c.loop-start.starts.items) (view_start c.in-Some.start) done (arm_starts steps c.args.at)
    (ap (map view_start) (c.pop.ensures.items ∙ ap (λ one. c.pop.new.self.items ++ option_to_list one) c.in-Some.is) ∙ map-append view_start c.pop.new.self.items (c.in-Some.start ∷ [])) c.loop-start.invariant.1.1 in (
      omega arith,
      (
        ready_behind c.args.self.now now c.requires.ready keeps,
        (
          c.requires.some,
          (
            subst (λ s. IsStartOf s c.args.at c.in-Some.start.place c.in-Some.start.ways.items) (sym same) (start_is steps c.args.at (map view_start c.pop.new.self.items) (view_start c.in-Some.start) done are),
            subst (λ s. AreRests s (store_of now) c.args.at c.args.levels c.in-Some.start.place (rest_at c.loop-start.rests)) (sym same)
                (are_rests steps (store_of now) c.args.at c.args.levels (map view_start c.pop.new.self.items) (view_start c.in-Some.start) done (rest_at c.loop-start.rests) are c.loop-start.invariant.1.2),
          ),
        ),
      ),
    )

pub arms-loop-start-init : goal.arms-loop-start-init
arms-loop-start-init t c = (
  keeps_same c.args.self.now c.requires.ready,
  (
    [],
    append-nil (map view_start c.in_ok-starts.starts.items) ∙ c.in_ok-starts.ensures,
    nothing_done (steps_of c.args.self.now) (store_of c.args.self.now) c.args.at c.args.levels (rest_at c.new-rests.result) (none_yet c.new-rests.result c.new-rests.ensures.empty),
  ),
)

pub arms-loop-start-preserved : goal.arms-loop-start-preserved
arms-loop-start-preserved t c =
    let before = c.args.self.now in
    let now = c.loop-start.self in
    let after = c.rest.new.self in
    let steps = steps_of before in
    let inv = c.loop-start.invariant in
    let same = same_steps before now inv.0 in
    let done = inv.1.0 in
    let answers = c.in_ok-found.ensures in
    let are = popped (map view_start c.pop.new.self.items) (map view_start c.loop-start.starts.items) (view_start c.in-Some.start) done (arm_starts steps c.args.at)
    (ap (map view_start) (c.pop.ensures.items ∙ ap (λ one. c.pop.new.self.items ++ option_to_list one) c.in-Some.is) ∙ map-append view_start c.pop.new.self.items (c.in-Some.start ∷ [])) inv.1.1 in (
      keeps_both before now after inv.0 answers.keeps,
      (
        view_start c.in-Some.start ∷ done,
        are,
        rests_noted steps (store_of after) c.args.at c.args.levels (map view_start c.pop.new.self.items) (view_start c.in-Some.start) done (rest_at c.loop-start.rests) (rest_at c.note.new.rests) c.in_ok-found.found are
            (rests_of_grow steps answers.keeps.grows c.args.at c.args.levels done (rest_at c.loop-start.rests) inv.1.2)
            (subst (λ s. RestAnswer c.args.at c.in-Some.start.place c.args.levels c.in_ok-found.found s (store_of after)) same answers.gives) c.in_ok-note.ensures,
      ),
    )

pub arms-returns : goal.arms-returns
arms-returns t c =
    let before = c.args.self.now in
    let now = c.loop-start.self in
    let inv = c.loop-start.invariant in
    record {
      keeps = inv.0;
      gives = subst (λ found. BranchesAnswer c.args.at c.args.levels found (steps_of before) (store_of now)) (sym (c.copied.ensures ∙ c.get.ensures.value))
          (branches_answer (steps_of before) (store_of now) c.args.at c.args.levels inv.1.0 (rest_at c.loop-start.rests)
          (sym (ap (λ list. map view_start list ++ inv.1.0) (no_items c.loop-start.starts.items (omega (arith, c.in_default.ensures.cases.0)))) ∙ inv.1.1) inv.1.2);
    }

pub way-returns-in_default : goal.way-returns-in_default
way-returns-in_default t c =
    way_none c.args.self.now c.args.at c.args.start.now.place c.args.levels c.args.way (rest_at c.args.rests.now) c.requires.ready c.requires.within c.requires.rests (sym c.in_default.is ∙ c.rest_behind.ensures)

pub way-arm-requires : goal.way-arm-requires
way-arm-requires t c =
    let answer = way_behind c.args.self.now c.args.at c.args.start.now.place c.args.levels c.args.way (rest_at c.args.rests.now) c.in-Some.behind c.requires.ready c.requires.within c.requires.rests (sym c.in-Some.is ∙ c.rest_behind.ensures) in
    (omega arith, (c.requires.ready, (c.requires.some, (c.requires.way, (answer.1, answer.0)))))

pub way-returns : goal.way-returns
way-returns t c =
    if_ok_as c.arm.result _ _ c.arm.ensures (λ found. way_answer c.args.self.now c.arm.new.self c.args.at c.args.start.now.place c.args.levels c.args.way found)

pub rest-way-requires : goal.rest-way-requires
rest-way-requires t c =
    let before = c.args.self.now in
    let now = c.loop-way.self in
    let keeps = c.loop-way.invariant.0 in
    let way = get_or c.deref-way-items.result.now c.loop-way.way-index (record { tests_end = None; block_end = 0; next = None }) in
    let there = subst (λ list. slice_get list c.loop-way.way-index ≡ Some way) c.deref-way-items.ensures.value (slice_get-get_or c.deref-way-items.result.now c.loop-way.way-index (record { tests_end = None; block_end = 0; next = None }) (omega (arith, c.loop-way-test.true))) in (
      omega arith,
      (
        ready_behind before now c.requires.ready keeps,
        (
          c.requires.some,
          (
            c.requires.start.within,
            (
              way_at before now c.args.at c.args.start.now.place c.args.start.now.ways.items c.loop-way.way-index way keeps c.requires.start there,
              rests_now before now c.args.at c.args.levels c.args.start.now.place (rest_at c.args.rests.now) keeps c.requires.rests,
            ),
          ),
        ),
      ),
    )

pub rest-loop-way-preserved : goal.rest-loop-way-preserved
rest-loop-way-preserved t c =
    let before = c.args.self.now in
    let now = c.loop-way.self in
    let keeps = c.loop-way.invariant.0 in
    let way = get_or c.deref-way-items.result.now c.loop-way.way-index (record { tests_end = None; block_end = 0; next = None }) in
    let there = subst (λ list. slice_get list c.loop-way.way-index ≡ Some way) c.deref-way-items.ensures.value (slice_get-get_or c.deref-way-items.result.now c.loop-way.way-index (record { tests_end = None; block_end = 0; next = None }) (omega (arith, c.loop-way-test.true))) in (
      keeps_both before now c.way.new.self keeps c.in_ok-found.ensures.keeps,
      ways_tried before now c.way.new.self c.args.at c.args.start.now.place c.args.levels c.args.start.now.ways.items c.loop-way.way-index way c.in_ok-found.found keeps c.loop-way.invariant.1 there (is_none c.in_ok-found.found (sym c.is_some.ensures ∙ c.if-is_some.false)) c.in_ok-found.ensures,
    )

pub rest-returns-then-is_some : goal.rest-returns-then-is_some
rest-returns-then-is_some t c =
    let way = get_or c.deref-way-items.result.now c.loop-way.way-index (record { tests_end = None; block_end = 0; next = None }) in
    rest_in_way c.args.self.now c.loop-way.self c.way.new.self c.args.at c.args.start.now.place c.args.levels way c.in_ok-found.found c.loop-way.invariant.0 (sym c.is_some.ensures ∙ c.if-is_some.true) c.in_ok-found.ensures

pub rest-returns-then-start-at : goal.rest-returns-then-start-at
rest-returns-then-start-at t c =
    rest_first c.args.self.now c.loop-way.self c.args.at c.args.start.now.place c.args.levels c.args.start.now.ways.items c.loop-way.way-index c.loop-way.invariant.0 c.requires.start c.loop-way.invariant.1 (omega (arith, c.loop-way-test.false, c.deref-way-items.ensures.len, ap length c.deref-way-items.ensures.value)) c.if-start-at.true

pub rest-returns : goal.rest-returns
rest-returns t c =
    if_ok_as c.last.result _ _ c.last.ensures
    (λ found. rest_last c.args.self.now c.loop-way.self c.last.new.self c.args.at c.args.start.now.place c.args.levels c.args.start.now.ways.items c.loop-way.way-index found c.loop-way.invariant.0 c.requires.start c.loop-way.invariant.1 (omega (arith, c.loop-way-test.false, c.deref-way-items.ensures.len, ap length c.deref-way-items.ensures.value)))

pub arm-returns-in_default-2 : goal.arm-returns-in_default-2
arm-returns-in_default-2 t c =
    arm_no_block c.args.self.now c.way_test.new.self c.block.new.self c.args.at c.args.place c.args.way c.args.levels c.in_ok-test.ensures.keeps
    (subst (λ one. Answers c.way_test.new.self c.block.new.self (BlockAnswer one c.args.levels None)) (c.block-block.ensures ∙ ap (λ begin. block_at (steps_of c.way_test.new.self) begin c.args.way.block_end c.args.at.exit) c.unwrap_or-begin.ensures)
    (subst (λ found. Answers c.way_test.new.self c.block.new.self (BlockAnswer c.block-block.result c.args.levels found)) c.in_default-2.is c.in_ok-body.ensures))

pub arm-returns : goal.arm-returns
arm-returns t c =
    arm_answer c.args.self.now c.way_test.new.self c.block.new.self c.keep_rest.new.self c.args.at c.args.place c.args.way c.args.levels c.args.behind c.in-Some.test c.in-Some-2.body c.in_ok-keep_rest.field-0 c.requires.way c.requires.behind c.requires.fits
    (subst (λ one. Answers c.args.self.now c.way_test.new.self (TestAnswer c.args.place c.args.way c.args.levels one)) c.in-Some.is c.in_ok-test.ensures)
    (subst (λ one. Answers c.way_test.new.self c.block.new.self (BlockAnswer one c.args.levels (Some c.in-Some-2.body))) (c.block-block.ensures ∙ ap (λ begin. block_at (steps_of c.way_test.new.self) begin c.args.way.block_end c.args.at.exit) c.unwrap_or-begin.ensures)
    (subst (λ found. Answers c.way_test.new.self c.block.new.self (BlockAnswer c.block-block.result c.args.levels found)) c.in-Some-2.is c.in_ok-body.ensures))
    (c.in_ok-keep_rest.ensures.found ∙ ap (λ n. record { number = length (store_of c.block.new.self).rests; levels = n }) (c.max-needed.ensures ∙ ap (λ n. max n c.args.behind.levels) c.max.ensures))
    (c.in_ok-keep_rest.ensures.kept (steps_of c.block.new.self) (ready_behind c.way_test.new.self c.block.new.self (ready_behind c.args.self.now c.way_test.new.self c.requires.ready c.in_ok-test.ensures.keeps) c.in_ok-body.ensures.keeps).right)

pub last-returns : goal.last-returns
last-returns t c =
    last_arm_answer c.args.self.now c.block.new.self c.keep_rest.new.self c.args.at c.args.place c.args.levels c.in-Some.body c.in_ok-keep_rest.field-0 c.requires.apart c.requires.start
    (subst (λ one. Answers c.args.self.now c.block.new.self (BlockAnswer one c.args.levels (Some c.in-Some.body))) c.block-block.ensures
    (subst (λ found. Answers c.args.self.now c.block.new.self (BlockAnswer c.block-block.result c.args.levels found)) c.in-Some.is c.in_ok-body.ensures))
    (ap (λ (one : Found). one.levels) c.in_ok-keep_rest.ensures.found) (c.in_ok-keep_rest.ensures.kept (steps_of c.block.new.self) (ready_behind c.args.self.now c.block.new.self c.requires.ready c.in_ok-body.ensures.keeps).right)
