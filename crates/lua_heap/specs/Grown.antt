-- Serves what works over a heap: of it only texts changed, and its values stayed.
use Rattle.lua_heap.specs.State.{HeapState, Keeps, OnlyTexts}

pub record Grown (old new : HeapState) : Type 0 where
  pub only_texts : OnlyTexts old new
  pub keeps : Keeps old new
