use Rattle.std.proofs.Common.{◌≡◌, ◌∙◌, List, [], ◌∷◌, ◌++◌, length, reverse, ap, arith}
use Rattle.std.proofs.lemmas.List.{length-append, reverse-append}
use Rattle.lua_heap.specs.State.{HeapState}
use Rattle.machine.specs.declared.frame.Frame.{Frame}
use Rattle.machine.proofs.SeenStates.{landing_left, safe_left}
use Rattle.machine.proofs.SeenCells.{left_is}
use Rattle.machine.proofs.leaving.leave.Goals as goal

-- the last one is the first from behind
last_is : (all rest : List Frame) (frame : Frame) → all ≡ rest ++ frame ∷ [] → reverse all ≡ frame ∷ reverse rest
last_is all rest frame is = ap reverse is ∙ reverse-append rest (frame ∷ [])

pub returns-clause-left : goal.returns-clause-left
returns-clause-left c chunk a fs safe x rest below_is =
    let old = c.args.running.now in
    let did = c.pop_frame.ensures in
    let frame = c.in-Some.frame in
    let left = c.pop.new.self in
    left_is chunk a fs old c.pop_frame.new.heap c.pop_frame.new.self frame left x rest safe did.keeps did.heap did.frames (last_is old.below.items left.items frame c.in-Some.ensures.items) did.cells below_is

pub returns-clause-safe : goal.returns-clause-safe
returns-clause-safe c fs safe =
    let old = c.args.running.now in
    let did = c.pop_frame.ensures in
    let frame = c.in-Some.frame in
    let left = c.pop.new.self in
    safe_left fs old c.pop_frame.new.heap c.pop_frame.new.self frame left safe did.frames (last_is old.below.items left.items frame c.in-Some.ensures.items) did.shares did.keeps (ap (λ (h : HeapState). h.closures) did.heap)

pub returns-clause-waiting : goal.returns-clause-waiting
returns-clause-waiting c fs safe =
    let old = c.args.running.now in
    let did = c.pop_frame.ensures in
    let frame = c.in-Some.frame in
    let left = c.pop.new.self in
    landing_left fs old c.pop_frame.new.heap c.pop_frame.new.self frame left safe did.frames (last_is old.below.items left.items frame c.in-Some.ensures.items)

pub returns-clause-fewer : goal.returns-clause-fewer
returns-clause-fewer c =
    let items = ap length c.in-Some.ensures.items ∙ length-append c.pop.new.self.items (c.in-Some.frame ∷ []) in
    omega (arith, items)
