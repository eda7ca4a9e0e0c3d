use Rattle.std.proofs.Common.{◌≡◌, ◌-◌, suc, ap, subst, arith}
use Rattle.lua_heap.specs.Grown.{Grown}
use Rattle.meta_ops.specs.declared.act.Act.{Act}
use Rattle.meta_ops.specs.Acts.{act_of, IsActOf}
use Rattle.machine.specs.Frames.{showing}
use Rattle.machine.specs.declared.did.Did.{Did}
use Rattle.machine.specs.declared.did.Landing.{Landing}
use Rattle.machine.proofs.Joins.{joining_next, stops, joined_all, answered}
use Rattle.machine.proofs.words.joining.join.Goals as goal

pub loop-left-preserved : goal.loop-left-preserved
loop-left-preserved c =
    let old = c.args.heap.now in
    let now = c.loop-left.heap in
    let new = c.concat2.new.heap in
    let values = c.args.registers.now in
    let n = c.loop-left.left - 1 in
    let act = c.in_ok-joined.field-0 in
    let is_left : c.loop-left.left ≡ suc n = omega (arith, c.loop-left-test.true) in
    let grown : Grown now new = record { only_texts = c.concat2.ensures.only_texts; keeps = c.concat2.ensures.keeps } in
    joining_next old now new values c.args.a c.args.first c.args.count c.loop-left.left n c.args.value c.loop-left.value c.register.result act c.loop-left.invariant is_left (λ m. c.register.ensures.value now) grown c.in_ok-joined.ensures.act c.in-Value.joined c.in-Value.is c.in_ok-joined.ensures.known

pub returns-in-Call-clause-does : goal.returns-in-Call-clause-does
returns-in-Call-clause-does c f pc =
    let old = c.args.heap.now in
    let now = c.loop-left.heap in
    let new = c.concat2.new.heap in
    let values = c.args.registers.now in
    let n = c.loop-left.left - 1 in
    let act = c.in_ok-joined.field-0 in
    let is_left : c.loop-left.left ≡ suc n = omega (arith, c.loop-left-test.true) in
    let grown : Grown now new = record { only_texts = c.concat2.ensures.only_texts; keeps = c.concat2.ensures.keeps } in
    stops old now new values c.args.a c.args.first c.args.count c.loop-left.left n c.args.value c.loop-left.value c.register.result act c.loop-left.invariant is_left (λ m. c.register.ensures.value now) grown c.in_ok-joined.ensures.act (Did.Calls (Landing.Pairs c.args.a c.args.first n) c.in-Call.handler c.in-Call.args) f pc
    (λ m. ap (λ (b : Act). answered old now new values c.args.a c.args.first c.args.count c.loop-left.left n c.args.value c.loop-left.value c.register.result act c.loop-left.invariant is_left (λ m. c.register.ensures.value now) grown c.in_ok-joined.ensures.act (showing m new values) (act_of new b)) c.in-Call.is)
    (subst (λ (b : Act). IsActOf new b) c.in-Call.is c.in_ok-joined.ensures.known)
    (c.requires.a, omega (arith, c.requires.there, is_left, c.loop-left.invariant.fewer), omega (arith, c.requires.room, is_left, c.loop-left.invariant.fewer))

pub returns-in-Fail-clause-does : goal.returns-in-Fail-clause-does
returns-in-Fail-clause-does c f pc =
    let old = c.args.heap.now in
    let now = c.loop-left.heap in
    let new = c.concat2.new.heap in
    let values = c.args.registers.now in
    let n = c.loop-left.left - 1 in
    let act = c.in_ok-joined.field-0 in
    let is_left : c.loop-left.left ≡ suc n = omega (arith, c.loop-left-test.true) in
    let grown : Grown now new = record { only_texts = c.concat2.ensures.only_texts; keeps = c.concat2.ensures.keeps } in
    stops old now new values c.args.a c.args.first c.args.count c.loop-left.left n c.args.value c.loop-left.value c.register.result act c.loop-left.invariant is_left (λ m. c.register.ensures.value now) grown c.in_ok-joined.ensures.act (Did.Fails c.in-Fail.failure) f pc
    (λ m. ap (λ (b : Act). answered old now new values c.args.a c.args.first c.args.count c.loop-left.left n c.args.value c.loop-left.value c.register.result act c.loop-left.invariant is_left (λ m. c.register.ensures.value now) grown c.in_ok-joined.ensures.act (showing m new values) (act_of new b)) c.in-Fail.is)
    (subst (λ (b : Act). IsActOf new b) c.in-Fail.is c.in_ok-joined.ensures.known)
    tt

pub returns-clause-does : goal.returns-clause-does
returns-clause-does c f pc =
    joined_all c.args.heap.now c.loop-left.heap c.args.registers.now c.args.a c.args.first c.args.count c.loop-left.left c.args.value c.loop-left.value f pc c.loop-left.invariant (omega (arith, c.loop-left-test.false)) c.requires.a
