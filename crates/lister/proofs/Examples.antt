-- The listings of two small chunks, computed.
use Rattle.std.proofs.Common.{◌≡◌, [], ◌∷◌, ◌++◌, None, Some, refl, codes, pos, negsuc, true, false}
use Rattle.proto.specs.Chunk.{Chunk, function, no_functions, and_function}
use Rattle.proto.specs.declared.parts.Constant.{Constant}
use Rattle.lua_num.specs.Bytes.{Text}
use Rattle.std.specs.Fmt.{digits as radix_digits}
use Rattle.lister.specs.Listing.{listing}

printed : listing (function (record { source = Some (codes "@a.lua"); line_defined = 0; last_line = 0; upvalues = 0; params = 0; flags = 2; registers = 2; code = 5 ∷ 16449 ∷ 16793628 ∷ 8388638 ∷ []; constants = Constant.Text (codes "print") ∷ Constant.Number (pos 3) ∷ []; lines = 1 ∷ 1 ∷ 1 ∷ 1 ∷ []; locals = []; upvalue_names = [] }) no_functions) ≡ codes "function main\nsource \"@a.lua\"\ndefined 0 0\nshape 0 0 2 2\ncode 4\n0 [1] GETGLOBAL 0 k0 ; \"print\"\n1 [1] LOADK 1 k1 ; 3\n2 [1] CALL 0 2 1\n3 [1] RETURN 0 1 0\nconstants 2\n0 \"print\"\n1 3\nfunctions 0\nlines 4: 1 1 1 1\nlocals 0\nnames 0\n"
unfolding radix_digits
printed = refl

-- ---- functions in functions, and what is rarely seen

-- `a"b\c` and the bytes 10, 0 and 200
rare_text : Text
rare_text = 97 ∷ 34 ∷ 98 ∷ 92 ∷ 99 ∷ 10 ∷ 0 ∷ 200 ∷ []

innermost : Chunk
innermost =
    function (record { source = None; line_defined = 2; last_line = 2; upvalues = 0; params = 0; flags = 0; registers = 0; code = []; constants = Constant.Nil ∷ Constant.Bool true ∷ Constant.Bool false ∷ []; lines = []; locals = []; upvalue_names = [] }) no_functions

inner : Chunk
inner =
    function (record { source = Some (codes "@b"); line_defined = 1; last_line = 2; upvalues = 1; params = 1; flags = 0; registers = 2; code = 8388638 ∷ []; constants = []; lines = 2 ∷ []; locals = []; upvalue_names = codes "u" ∷ [] }) (and_function innermost no_functions)

-- LOADK 0 k0, LOADK 1 k9, ADD 2 k0 k1, SETLIST 1 2 0 and its block number 30, JMP -6, a word of opcode 38, CLOSURE 0 f0, RETURN 0 1 0
outer : Chunk
outer =
    function (record { source = None; line_defined = 0; last_line = 0; upvalues = 0; params = 0; flags = 2; registers = 3; code = 1 ∷ 147521 ∷ 2151694476 ∷ 16777314 ∷ 30 ∷ 2147368982 ∷ 38 ∷ 36 ∷ 8388638 ∷ []; constants = Constant.Text rare_text ∷ Constant.Number (negsuc 6) ∷ []; lines = 1 ∷ 1 ∷ 2 ∷ 3 ∷ []; locals = record { name = codes "x"; start = 1; end = 9 } ∷ []; upvalue_names = [] }) (and_function inner no_functions)

outer_text : Text
outer_text = codes "function main\nsource none\ndefined 0 0\nshape 0 0 2 3\ncode 9\n0 [1] LOADK 0 k0 ; \"a\\\"b\\\\c\\n\\000\\200\"\n1 [1] LOADK 1 k9 ; ?\n2 [2] ADD 2 k0 k1 ; \"a\\\"b\\\\c\\n\\000\\200\" -7\n3 [3] SETLIST 1 2 0\n4 [-] WORD 30\n5 [-] JMP 0 -6 ; to 0\n6 [-] WORD 38\n7 [-] CLOSURE 0 f0\n8 [-] RETURN 0 1 0\nconstants 2\n0 \"a\\\"b\\\\c\\n\\000\\200\"\n1 -7\nfunctions 1\nlines 4: 1 1 2 3\nlocals 1\n0 \"x\" 1 9\nnames 0\n"

inner_text : Text
inner_text = codes "function 0\nsource \"@b\"\ndefined 1 2\nshape 1 1 0 2\ncode 1\n0 [2] RETURN 0 1 0\nconstants 0\nfunctions 1\nlines 1: 2\nlocals 0\nnames 1\n0 \"u\"\n"

innermost_text : Text
innermost_text = codes "function 0.0\nsource none\ndefined 2 2\nshape 0 0 0 0\ncode 0\nconstants 3\n0 nil\n1 true\n2 false\nfunctions 0\nlines 0:\nlocals 0\nnames 0\n"

nested : listing outer ≡ outer_text ++ inner_text ++ innermost_text
unfolding radix_digits rare_text innermost inner outer outer_text inner_text innermost_text
nested = refl
