-- A function, with the functions in it.
use Rattle.std.proofs.Common.{◌≡◌, ℕ, zero, suc, ◌+◌, List, [], ◌∷◌, ◌++◌, length, Option, None, Err, refl, ap, arith}
use Rattle.std.specs.List.{flat_map}
use Rattle.lua_num.specs.Bytes.{Text}
use Rattle.proto.specs.declared.parts.Constant.{Constant}
use Rattle.proto.specs.declared.parts.LocVar.{LocVar}
use Rattle.proto.specs.Chunk.{Chunk, function, Functions, no_functions, and_function, function_count, functions_of}
use Rattle.chunk_io.specs.declared.layout.Layout.{Layout}
use Rattle.chunk_io.specs.declared.front.Front.{Front}
use Rattle.chunk_io.specs.declared.miss.Miss.{Miss}
use Rattle.chunk_io.specs.Items.{Item, begin, int, instruction, shape, source_items, string_items, local_items, constant_items, counted, function_items, each_items}
use Rattle.chunk_io.specs.Reading.{Read, then_at, as_at, counted_at, number_at, constant_at, front_at, debug_at, chunk_at, own_of}
use Rattle.chunk_io.proofs.Phrases.{Reads, reads_item}
use Rattle.chunk_io.proofs.Joined.{reads_then}
use Rattle.chunk_io.proofs.Begins.{begun, reads_begun, reads_too_deep}
use Rattle.chunk_io.proofs.Renamed.{reads_as}
use Rattle.chunk_io.proofs.SingleBytes.{byte_item}
use Rattle.chunk_io.proofs.NumberItems.{int_item, instruction_item}
use Rattle.chunk_io.proofs.Parts.{reads_string, reads_source, reads_local, reads_counted}
use Rattle.chunk_io.proofs.Constants.{reads_constant}

abbrev front_part : Layout → Front → List Item
front_part l f = source_items l f.source ++ (int l f.line_defined ∷ int l f.last_line ∷ shape f.upvalues ∷ shape f.params ∷ shape f.vararg ∷ shape f.registers ∷ [])

reads_front : (l : Layout) → Reads (front_at l) (front_part l) (λ f. Unit {0})
unfolding front_at
reads_front l =
    let i = reads_item (int_item l) in
    let b = reads_item byte_item in
    reads_as (λ (p : Option Text × (ℕ × (ℕ × (ℕ × (ℕ × (ℕ × ℕ)))))). record { source = p.0; line_defined = p.1.0; last_line = p.1.1.0; upvalues = p.1.1.1.0; params = p.1.1.1.1.0; vararg = p.1.1.1.1.1.0; registers = p.1.1.1.1.1.1 })
    (front_part l) (λ f. Unit {0})
    (reads_then (reads_source l) (λ source is. reads_then i (λ line is. reads_then i (λ last is. reads_then b (λ upvalues is. reads_then b (λ params is. reads_then b (λ flags is. b)))))))
    (λ p is. (refl, tt))
    (λ f is. ((f.source, (f.line_defined, (f.last_line, (f.upvalues, (f.params, (f.vararg, f.registers)))))), refl, (tt, (tt, (tt, (tt, (tt, (tt, tt))))))))

abbrev Debug : Type 0
Debug = List ℕ × (List LocVar × List Text)

abbrev debug_part : Layout → Debug → List Item
debug_part l d = counted l (λ line. int l line ∷ []) d.0 ++ (counted l (local_items l) d.1.0 ++ counted l (string_items l) d.1.1)

reads_debug : (l : Layout) → Reads (debug_at l) (debug_part l) (λ d. Unit {0} × (Unit {0} × Unit {0}))
unfolding debug_at
reads_debug l = reads_then (reads_counted l (reads_item (int_item l))) (λ lines is. reads_then (reads_counted l (reads_local l)) (λ locals is. reads_counted l (reads_string l)))

-- ---- a function

abbrev Parts : Type 0
Parts = Front × (List ℕ × (List Constant × (List Chunk × Debug)))

abbrev chunk_of : Parts → Chunk
chunk_of p = function (own_of p.0 p.1.0 p.1.1.0 p.1.1.1.1) (functions_of p.1.1.1.0)

abbrev PartsAre : Parts → Type 0
PartsAre p = Unit {0} × (Unit {0} × (Unit {0} × (Unit {0} × (Unit {0} × (Unit {0} × Unit {0})))))

abbrev parts_items : Layout → (nesting : ℕ) → Parts → List Item
parts_items l nesting p =
    front_part l p.0 ++ (counted l (λ word. instruction l word ∷ []) p.1.0 ++ (counted l (constant_items l) p.1.1.0 ++ (counted l (function_items l (suc nesting)) p.1.1.1.0 ++ debug_part l p.1.1.1.1)))

counts : (cs : List Chunk) → function_count (functions_of cs) ≡ length cs
counts [] = refl
counts (c ∷ cs) = ap suc (counts cs)

each_listed : (l : Layout) (nesting : ℕ) (cs : List Chunk) → each_items l nesting (functions_of cs) ≡ flat_map (function_items l nesting) cs
each_listed l nesting [] = refl
each_listed l nesting (c ∷ cs) = ap (λ (i : List Item). function_items l nesting c ++ i) (each_listed l nesting cs)

list_of : Functions → List Chunk
list_of no_functions = []
list_of (and_function c rest) = c ∷ list_of rest

listed : (fs : Functions) → functions_of (list_of fs) ≡ fs
unfolding list_of
listed no_functions = refl
listed (and_function c rest) = ap (and_function c) (listed rest)

in_parts : (l : Layout) (nesting : ℕ) (p : Parts) → function_items l nesting (chunk_of p) ≡ begin nesting ∷ parts_items l nesting p
in_parts l nesting p = rw (counts p.1.1.1.0, each_listed l (suc nesting) p.1.1.1.0) refl

named : (c : Chunk) → (p : Parts) × (chunk_of p ≡ c) × PartsAre p
named (function f inner) = (
  (record { source = f.source; line_defined = f.line_defined; last_line = f.last_line; upvalues = f.upvalues; params = f.params; vararg = f.flags; registers = f.registers }, (f.code, (f.constants, (list_of inner, (f.lines, (f.locals, f.upvalue_names)))))),
  ap (function f) (listed inner),
  (tt, (tt, (tt, (tt, (tt, (tt, tt)))))),
)

empty_chunk : Chunk
empty_chunk = function (record { source = None; line_defined = 0; last_line = 0; upvalues = 0; params = 0; flags = 0; registers = 0; code = []; constants = []; lines = []; locals = []; upvalue_names = [] }) no_functions

reads_parts : (l : Layout) (room nesting : ℕ) → Reads (chunk_at l room) (function_items l (suc nesting)) (λ c. Unit {0})
    → Reads (then_at (front_at l) (λ front. then_at (counted_at l (number_at l 4)) (λ code. then_at (counted_at l (constant_at l)) (λ constants. then_at (counted_at l (chunk_at l room)) (λ inner. debug_at l))))) (parts_items l nesting) PartsAre
reads_parts l room nesting inner =
    reads_then (reads_front l) (λ front is. reads_then (reads_counted l (reads_item (instruction_item l))) (λ code is. reads_then (reads_counted l (reads_constant l)) (λ constants is. reads_then (reads_counted l inner) (λ cs is. reads_debug l))))

as_chunk : (l : Layout) (nesting : ℕ) (read : Read Parts) → Reads read (begun (parts_items l nesting) PartsAre nesting) PartsAre → Reads (as_at (λ p. chunk_of p) read) (function_items l nesting) (λ c. Unit {0})
as_chunk l nesting read p = reads_as (λ (p : Parts). chunk_of p) (function_items l nesting) (λ c. Unit {0}) p (λ p is. (in_parts l nesting p, tt)) (λ c is. named c)

pub reads_function : (l : Layout) (room nesting : ℕ) → room + nesting ≡ 201 → Reads (chunk_at l room) (function_items l nesting) (λ c. Unit {0})
unfolding chunk_at
reads_function l zero nesting deep =
    let some = named empty_chunk in
    as_chunk l nesting (λ bytes. Err Miss.TooDeep) (reads_too_deep (parts_items l nesting) PartsAre nesting (omega arith) some.0 some.2)
reads_function l (suc room) nesting deep =
    as_chunk l nesting _ (reads_begun nesting (omega arith) (reads_parts l room nesting (reads_function l room (suc nesting) (omega arith))))
