use Rattle.std.proofs.Common.{◌≡◌, Result, Err, false, true, sym, ◌∙◌, true≢false}
use Rattle.lua_table.specs.declared.fault.SetFault.{SetFault}
use Rattle.lua_table.specs.declared.fault.SetFault.TheVariants.{NilKey, OutOfMemory}
use Rattle.lua_heap.proofs.Alike.{nil_datum}
use Rattle.lua_heap.proofs.Names.{place_means, written, written_sound}
use Rattle.lua_heap.proofs.heap.Heap.set_global.Goals as goal

-- what fails under a key that is not nil fails for memory
of_memory : {A P : Type 0} (r : Result A SetFault) (f : SetFault) → r ≡ Err f → (r ≡ Err NilKey → false ≡ true) → (r ≡ Err OutOfMemory → P) → P
of_memory r NilKey e g h = absurd (true≢false (sym (g e)))
of_memory r OutOfMemory e g h = h e

pub returns-in_default-clause-memory : goal.returns-in_default-clause-memory
returns-in_default-clause-memory c =
    let s = c.args.self.now in
    let none = of_memory c.set.result c.in_default.field-0 c.in_default.is c.set.ensures.nil_key.0 c.set.ensures.memory in (
      place_means c.self.inside s c.self.view_is c.self.invariant c.args.name c.requires.name ∙ none.0,
      nil_datum s.texts c.args.value ∙ none.1,
    )

pub invariant_of-self-2 : goal.invariant_of-self-2
invariant_of-self-2 c = written_sound c.self.inside c.args.self.now c.self.view_is c.self.invariant c.args.name c.requires.name c.set.new.self c.args.value c.requires.value c.in-Ok.ensures.pairs

pub returns-clause-state : goal.returns-clause-state
returns-clause-state c = written c.self.inside c.args.self.now c.self.view_is c.self.invariant c.args.name c.requires.name c.set.new.self c.args.value c.in-Ok.ensures.pairs
