-- To be believed. What the operators answer in the program, as what the definitions answer.
use Rattle.std.specs.Prelude.{[], ◌∷◌, codes, map}
use Rattle.lua_model.specs.Acts as model
use Rattle.lua_model.specs.Datum.{Datum}
use Rattle.lua_model.specs.Operators.{index_fault}
use Rattle.lua_heap.specs.State.{HeapState, datum, IsOf, AreOf}
use Rattle.meta_ops.specs.declared.act.Then.{Then}
use Rattle.meta_ops.specs.declared.act.Act.{Act}
use Rattle.meta_ops.specs.declared.act.Callee.{Callee}
use Rattle.meta_ops.specs.declared.indexing.Found.{Found}

abbrev pub use_of : Then → model.Use
use_of Then.Take = model.take
use_of Then.Truth = model.truth
use_of Then.Negate = model.negated
use_of Then.Discard = model.discard

-- an answer, where its values are those of this heap
abbrev pub act_of : HeapState → Act → model.Act
act_of h (Act.Value v) = model.value (datum h v)
act_of h (Act.Call handler args then) = model.call (datum h handler) (map (datum h) args) (use_of then)
act_of h (Act.Fail v) = model.failure (datum h v)

abbrev pub callee_of : HeapState → Callee → model.Callee
callee_of h (Callee.Plain f) = model.plain (datum h f)
callee_of h (Callee.Through handler) = model.through (datum h handler)
callee_of h (Callee.Fail v) = model.no_function (datum h v)

-- the values of an answer are the heap's
abbrev pub IsActOf : HeapState → Act → Type 0
IsActOf h (Act.Value v) = IsOf h v
IsActOf h (Act.Call handler args then) = IsOf h handler × AreOf h args
IsActOf h (Act.Fail v) = IsOf h v

abbrev pub IsCalleeOf : HeapState → Callee → Type 0
IsCalleeOf h (Callee.Plain f) = IsOf h f
IsCalleeOf h (Callee.Through handler) = IsOf h handler
IsCalleeOf h (Callee.Fail v) = IsOf h v

-- what was found for a key is what a read of it answers
abbrev pub found_of : HeapState → Datum → Found → model.Act
found_of h k (Found.Value v) = model.value (datum h v)
found_of h k (Found.Handler handler table) = model.call (datum h handler) (datum h table ∷ k ∷ []) model.take
found_of h k (Found.NoTable v) = model.failure (index_fault (datum h v))
found_of h k Found.NoEnd = model.fail_text (codes "loop in gettable")

abbrev pub IsFoundOf : HeapState → Found → Type 0
IsFoundOf h (Found.Value v) = IsOf h v
IsFoundOf h (Found.Handler handler table) = IsOf h handler × IsOf h table
IsFoundOf h (Found.NoTable v) = IsOf h v
IsFoundOf h Found.NoEnd = Unit {0}
