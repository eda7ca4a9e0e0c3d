-- Serves the bodies: what of a function is looked at before the functions in it.
use Rattle.std.specs.Prelude.{List, [], ◌∷◌, ◌++◌}
use Rattle.proto.specs.Chunk.{Chunk, function, function_count}
use Rattle.chunk_io.specs.declared.layout.Layout.{Layout}
use Rattle.chunk_io.specs.Items.{Item, int, instruction, front_items, constant_items, counted, debug_items}

-- the words, the constants, and how many functions there are
abbrev pub code_items : Layout → Chunk → List Item
code_items l (function f inner) =
    counted l (λ word. instruction l word ∷ []) f.code ++ (counted l (constant_items l) f.constants ++ int l (function_count inner) ∷ [])

-- a function's items but for its nesting and the functions in it
abbrev pub own_items : Layout → Chunk → List Item
own_items l (function f inner) = front_items l f ++ (code_items l (function f inner) ++ debug_items l f)
