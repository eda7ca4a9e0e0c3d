use Rattle.std.proofs.Common.{List, ap, ◌∙◌}
use Rattle.std.proofs.lemmas.Result.{on_ok_weaker}
use Rattle.lua_num.specs.Bytes.{Text}
use Rattle.string_pool.specs.Texts.{with_text}
use Rattle.lua_heap.specs.State.{HeapState}
use Rattle.lua_heap.proofs.Growth.{KeepsTexts, on_both, texts_as_they_were}
use Rattle.lua_heap.proofs.Interned.{with_text_keeps, texts_over, values_kept, texts_sound}
use Rattle.lua_heap.proofs.heap.Heap.intern.Goals as goal

pub invariant_of-self : goal.invariant_of-self
invariant_of-self c =
    let h = c.self.inside in
    let keeps = on_both (KeepsTexts h.texts) c.intern.result c.intern.new.self (with_text h.texts c.args.bytes.now) h.texts c.intern.ensures.texts c.intern.ensures.err (with_text_keeps h.texts c.args.bytes.now) (texts_as_they_were h.texts) in
    texts_sound h c.args.self.now c.self.view_is c.self.invariant c.intern.new.self keeps c.intern.ensures.differ

pub returns-clause-state : goal.returns-clause-state
returns-clause-state c =
    let h = c.self.inside in
    let s = c.args.self.now in
    let keeps = on_both (KeepsTexts h.texts) c.intern.result c.intern.new.self (with_text h.texts c.args.bytes.now) h.texts c.intern.ensures.texts c.intern.ensures.err (with_text_keeps h.texts c.args.bytes.now) (texts_as_they_were h.texts) in
    let with_texts : List Text → HeapState = λ texts. record s { texts = texts } in
    on_ok_weaker c.intern.result (λ e. texts_over h s c.self.view_is c.self.invariant c.intern.new.self keeps ∙ ap with_texts (e ∙ ap (λ u. with_text u.texts c.args.bytes.now) c.self.view_is)) c.intern.ensures.texts

pub returns-clause-keeps : goal.returns-clause-keeps
returns-clause-keeps c =
    let h = c.self.inside in
    let keeps = on_both (KeepsTexts h.texts) c.intern.result c.intern.new.self (with_text h.texts c.args.bytes.now) h.texts c.intern.ensures.texts c.intern.ensures.err (with_text_keeps h.texts c.args.bytes.now) (texts_as_they_were h.texts) in
    values_kept h c.args.self.now c.self.view_is c.self.invariant c.intern.new.self keeps
