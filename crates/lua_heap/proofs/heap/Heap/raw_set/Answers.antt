use Rattle.std.proofs.Common.{List, ap, sym, ◌∙◌}
use Rattle.std.proofs.lemmas.Result.{on_ok_weaker}
use Rattle.lua_model.specs.Datum.{Datum}
use Rattle.lua_model.specs.Store.{Table, with_pair}
use Rattle.lua_table.specs.Entries.{Entries, with_entry}
use Rattle.lua_heap.specs.State.{datum, ArePairsOf, has_key}
use Rattle.lua_heap.specs.Inside.{table_in}
use Rattle.lua_heap.proofs.Entries.{write_means, place_means, write_known}
use Rattle.lua_heap.proofs.Alike.{nil_datum}
use Rattle.lua_heap.proofs.Entities.{stands, written, written_sound}
use Rattle.lua_heap.proofs.Growth.{on_both}
use Rattle.lua_heap.proofs.heap.Heap.raw_set.Goals as goal

pub invariant_of-self : goal.invariant_of-self
invariant_of-self c =
    let s = c.args.self.now in
    let e = c.index_mut.result.now in
    let at = stands c.self.inside s c.self.view_is c.self.invariant c.args.id.index c.requires.table e c.index_mut.ensures.value in
    let pairs = on_both (ArePairsOf s) c.set.result c.set.new.self (with_entry e.table c.args.key c.args.value) e.table c.set.ensures.pairs c.set.ensures.refused (write_known s e.table c.args.key c.args.value at.pairs c.requires.key c.requires.value) at.pairs in
    written_sound c.self.inside s c.self.view_is c.self.invariant c.args.id.index (record e { table = c.set.new.self }) pairs at.meta

pub returns-clause-state : goal.returns-clause-state
returns-clause-state c =
    let s = c.args.self.now in
    let e = c.index_mut.result.now in
    let at = stands c.self.inside s c.self.view_is c.self.invariant c.args.id.index c.requires.table e c.index_mut.ensures.value in
    let write : Table → Table = λ t. record t { pairs = with_pair t.pairs (datum s c.args.key) (datum s c.args.value) } in
    let over : Entries → Table = λ ps. table_in s.texts (record e { table = ps }) in
    let with_pairs : List (Datum × Datum) → Table = λ ps. record (table_in s.texts e) { pairs = ps } in
    let means = sym (ap with_pairs (write_means s at.differ c.args.key c.requires.key e.table at.pairs c.args.value)) ∙ sym (ap write at.table) in
    on_ok_weaker c.set.result (λ p. written c.self.inside s c.self.view_is c.self.invariant c.args.id.index (record e { table = c.set.new.self }) _ (ap over p ∙ means)) c.set.ensures.pairs

pub returns-clause-memory : goal.returns-clause-memory
returns-clause-memory c =
    let s = c.args.self.now in
    let e = c.index_mut.result.now in
    let at = stands c.self.inside s c.self.view_is c.self.invariant c.args.id.index c.requires.table e c.index_mut.ensures.value in
    λ r.
    let none = c.set.ensures.memory r in (
      ap (λ t. has_key t.pairs (datum s c.args.key)) at.table ∙ place_means s at.differ c.args.key c.requires.key e.table at.pairs ∙ none.0,
      nil_datum s.texts c.args.value ∙ none.1,
    )
