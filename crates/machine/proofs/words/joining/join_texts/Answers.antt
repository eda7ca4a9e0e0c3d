use Rattle.std.proofs.Common.{◌∙◌, ◌≡◌, ℕ, List, IfSome, ap, subst}
use Rattle.std.specs.Prelude.{Option}
use Rattle.lua_model.specs.Datum.{text}
use Rattle.lua_heap.specs.State.{datum}
use Rattle.rules.specs.State.{State}
use Rattle.rules.specs.Calls.{join}
use Rattle.machine.specs.Frames.{showing}
use Rattle.machine.proofs.Joins.{joining_start, texts_joined}
use Rattle.machine.proofs.words.joining.join_texts.Goals as goal

pub returns-then-left-count : goal.returns-then-left-count
returns-then-left-count c = λ a. joining_start c.args.heap.now c.args.registers.now a c.args.first c.args.count c.args.value c.requires.known c.requires.value

pub returns-in-None : goal.returns-in-None
returns-in-None c = λ a. joining_start c.args.heap.now c.args.registers.now a c.args.first c.args.count c.args.value c.requires.known c.requires.value

pub returns-in_ok-joined-in-Some : goal.returns-in_ok-joined-in-Some
returns-in_ok-joined-in-Some c = λ a.
    let old = c.args.heap.now in
    let values = c.args.registers.now in
    let left = c.texts_begin-left.result in
    let first = c.args.first in
    let count = c.args.count in
    let start = c.args.value in
    let Leaves : Option (List ℕ) → Type 0 = λ o. IfSome o (λ whole. (m : State) (a : ℕ) → join (showing m old values) a first count (datum old start) ≡ join (showing m old values) a first left (text whole)) in
    texts_joined old c.text_value.new.heap values a first count left start c.in_ok-joined-in-Some.joined c.in-Some.text c.requires.known c.text_value.ensures.grown c.in_ok-joined-in-Some.ensures.known c.texts_begin-left.ensures.bound
    (c.in_ok-joined-in-Some.ensures.value ∙ ap text c.bytes.ensures)
    (λ m. subst Leaves c.in-Some.is c.in_ok-text.ensures m a)
