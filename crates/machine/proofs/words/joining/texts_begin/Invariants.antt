use Rattle.std.proofs.Common.{◌≡◌, ◌+◌, ◌<◌, ◌≤◌, ℕ}
use Rattle.std.specs.Prelude.{is_some, true}
use Rattle.lua_heap.specs.State.{HeapState}
use Rattle.machine.specs.Joining.{text_at}
use Rattle.machine.proofs.words.joining.texts_begin.Given as goal

abbrev pub invariant-loop-left : goal.invariant-loop-left
invariant-loop-left l = (l.left ≤ l.count) × ((h : HeapState) (place : ℕ) → l.left ≤ place → place < l.count → is_some (text_at h l.registers (l.first + place)) ≡ true)

abbrev pub decreases-loop-left : goal.decreases-loop-left
decreases-loop-left l = l.left
