-- To be believed. A stack and a heap that share cells: the open cells of the one are the cells of the other that stand for places, each once (manual 2.6).
use Rattle.std.specs.Prelude.{◌≡◌, ℕ, ◌<◌, List, Some, slice_get}
use Rattle.lua_heap.specs.State.{HeapState, in_stack, AreOf}
use Rattle.upvalue.specs.declared.shared.OpenCell.{OpenCell}
use Rattle.upvalue.specs.State.{StackState, in_a_row, size, cells_of}

-- from the lowest place to the highest, each once
abbrev pub AreInOrder : List OpenCell → Type 0
AreInOrder shared = (i j : ℕ) (a b : OpenCell) → i < j → slice_get shared i ≡ Some a → slice_get shared j ≡ Some b → a.place < b.place

pub record Shares (stack : StackState) (h : HeapState) : Type 0 where
  -- the values of the registers are the heap's
  pub known : AreOf h (in_a_row stack.frames)
  -- each open cell is one of the heap that stands for its place, which is a register's
  pub stands : (i : ℕ) (o : OpenCell) → slice_get stack.shared i ≡ Some o → slice_get h.cells o.cell.index ≡ Some (in_stack o.place)
  pub there : (i : ℕ) (o : OpenCell) → slice_get stack.shared i ≡ Some o → o.place < size stack.frames
  -- and each of those is open
  pub all : (number place : ℕ) → slice_get h.cells number ≡ Some (in_stack place) → (i : ℕ) × (slice_get stack.shared i ≡ Some (record { place = place; cell = record { index = number } }))
  pub in_order : AreInOrder stack.shared

-- where it shared cells with a heap a stack still does, and they are the same ones
abbrev pub KeepsShares : (old new : StackState) → Type 0
KeepsShares old new = (h : HeapState) → Shares old h → Shares new h × (cells_of new.frames h ≡ cells_of old.frames h)
