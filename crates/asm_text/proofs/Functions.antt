-- A function, with the functions in it.
use Rattle.std.proofs.Common.{◌≡◌, ℕ, zero, suc, ◌+◌, false, List, [], ◌∷◌, ◌++◌, length, Option, None, Err, refl, sym, ap, ◌∙◌, arith, codes}
use Rattle.std.specs.List.{flat_map}
use Rattle.lua_num.specs.Bytes.{Text}
use Rattle.proto.specs.declared.parts.Constant.{Constant}
use Rattle.proto.specs.declared.parts.LocVar.{LocVar}
use Rattle.proto.specs.Chunk.{Own, Chunk, function, Functions, no_functions, and_function, function_count, functions_of}
use Rattle.asm_text.specs.declared.front.Front.{Front}
use Rattle.asm_text.specs.declared.miss.Miss.{Miss}
use Rattle.asm_text.specs.Lines.{Place, begin, name, source, defined, shape, count, lines, words_from, constants_from, locals_from, names_from, own_places, function_places, each_places}
use Rattle.asm_text.specs.Reading.{Read, then_at, as_at, many_at, counted_at, next_word, next_number, code_at, constants_at, locals_at, names_at, front_at, debug_at, own_of, own_at, no_state, chunk_at}
use Rattle.asm_text.proofs.Phrases.{Reads, reads_line}
use Rattle.asm_text.proofs.Joined.{reads_then}
use Rattle.asm_text.proofs.Begins.{begun, reads_begun, reads_too_deep}
use Rattle.asm_text.proofs.Renamed.{InRow, reads_as, reads_many}
use Rattle.asm_text.proofs.LineForms.{parses_name, parses_source, parses_defined, parses_shape, parses_count, parses_lines, parses_constant, parses_local, parses_upvalue, parses_word}

-- ---- a function's own lines

abbrev front_part : Front → List Place
front_part f = name ∷ source f.source ∷ defined f.line_defined f.last_line ∷ shape f.upvalues f.params f.vararg f.registers ∷ []

abbrev FrontParts : Type 0
FrontParts = Unit {0} × (Option Text × ((ℕ × ℕ) × (ℕ × (ℕ × (ℕ × ℕ)))))

abbrev front_of : FrontParts → Front
front_of p = record { source = p.1.0; line_defined = p.1.1.0.0; last_line = p.1.1.0.1; upvalues = p.1.1.1.0; params = p.1.1.1.1.0; vararg = p.1.1.1.1.1.0; registers = p.1.1.1.1.1.1 }

reads_front : Reads front_at front_part (λ f. Unit {0})
unfolding front_at
reads_front =
    reads_as (λ (p : FrontParts). front_of p) front_part (λ f. Unit {0})
    (reads_then (reads_line parses_name) (λ u is. reads_then (reads_line parses_source) (λ s is. reads_then (reads_line parses_defined) (λ d is. reads_line parses_shape))))
    (λ p is. (refl, tt))
    (λ f is. ((tt, (f.source, ((f.line_defined, f.last_line), (f.upvalues, (f.params, (f.vararg, f.registers)))))), refl, (tt, (tt, (tt, tt)))))

reads_counted : {S A : Type 0} {one : S → Read A} {place : S → A → List Place} (what : Text) (next : S → A → S) (places : S → List A → List Place) → InRow next place places → ((s : S) → Reads (one s) (place s) (λ x. Unit {0})) → (s : S)
    → Reads (counted_at what one next s) (λ xs. count what (length xs) ∷ places s xs) (λ xs. Unit {0})
reads_counted {S} {A} what next places row p s =
    reads_as (λ (q : ℕ × List A). q.1) (λ xs. count what (length xs) ∷ places s xs) (λ xs. Unit {0}) (reads_then (reads_line (parses_count what)) (λ n is. reads_many next places row p n s))
    (λ q is. (ap (λ n. count what n ∷ places s q.1) is.1, tt)) (λ xs is. ((length xs, xs), refl, (tt, refl)))

abbrev code_part : List ℕ → List Place
code_part ws = count (codes "code") (length ws) ∷ words_from false 0 ws

reads_code : Reads code_at code_part (λ ws. Unit {0})
unfolding code_at
reads_code = reads_counted (codes "code") next_word (λ s ws. words_from s.0 s.1 ws) (record { none = λ s. refl; more = λ s w ws. refl }) (λ s. reads_line (parses_word s.0 s.1)) (false, 0)

abbrev constants_part : List Constant → List Place
constants_part cs = count (codes "constants") (length cs) ∷ constants_from 0 cs

reads_constants : Reads constants_at constants_part (λ cs. Unit {0})
unfolding constants_at
reads_constants = reads_counted (codes "constants") next_number constants_from (record { none = λ n. refl; more = λ n c cs. refl }) (λ n. reads_line (parses_constant n)) 0

abbrev locals_part : List LocVar → List Place
locals_part vs = count (codes "locals") (length vs) ∷ locals_from 0 vs

reads_locals : Reads locals_at locals_part (λ vs. Unit {0})
unfolding locals_at
reads_locals = reads_counted (codes "locals") next_number locals_from (record { none = λ n. refl; more = λ n v vs. refl }) (λ n. reads_line (parses_local n)) 0

abbrev names_part : List Text → List Place
names_part ts = count (codes "names") (length ts) ∷ names_from 0 ts

reads_names : Reads names_at names_part (λ ts. Unit {0})
unfolding names_at
reads_names = reads_counted (codes "names") next_number names_from (record { none = λ n. refl; more = λ n t ts. refl }) (λ n. reads_line (parses_upvalue n)) 0

abbrev Debug : Type 0
Debug = List ℕ × (List LocVar × List Text)

abbrev debug_part : Debug → List Place
debug_part d = lines d.0 ∷ (locals_part d.1.0 ++ names_part d.1.1)

reads_debug : Reads debug_at debug_part (λ d. Unit {0} × (Unit {0} × Unit {0}))
unfolding debug_at
reads_debug = reads_then (reads_line parses_lines) (λ ls is. reads_then reads_locals (λ vs is. reads_names))

abbrev OwnParts : Type 0
OwnParts = Front × (List ℕ × (List Constant × (ℕ × Debug)))

abbrev OwnCount : Type 0
OwnCount = Own × ℕ

abbrev own_count : OwnParts → OwnCount
own_count p = (own_of p.0 p.1.0 p.1.1.0 p.1.1.1.1, p.1.1.1.0)

reads_own : Reads own_at (λ (p : OwnCount). own_places p.0 p.1) (λ p. Unit {0})
unfolding own_at
reads_own =
    reads_as (λ (p : OwnParts). own_count p) (λ (p : OwnCount). own_places p.0 p.1) (λ p. Unit {0})
    (reads_then reads_front (λ f is. reads_then reads_code (λ ws is. reads_then reads_constants (λ cs is. reads_then (reads_line (parses_count (codes "functions"))) (λ n is. reads_debug)))))
    (λ p is. (refl, tt))
    (λ p is.
    let f = p.0 in
    ((record { source = f.source; line_defined = f.line_defined; last_line = f.last_line; upvalues = f.upvalues; params = f.params; vararg = f.flags; registers = f.registers }, (f.code, (f.constants, (p.1, (f.lines, (f.locals, f.upvalue_names)))))), refl, (tt, (tt, (tt, (tt, (tt, (tt, tt))))))))

-- ---- the functions in it

abbrev Parts : Type 0
Parts = OwnCount × List Chunk

abbrev chunk_of : Parts → Chunk
chunk_of p = function p.0.0 (functions_of p.1)

abbrev PartsAre : Parts → Type 0
PartsAre p = Unit {0} × (length p.1 ≡ p.0.1)

abbrev parts_places : (nesting : ℕ) → Parts → List Place
parts_places nesting p = own_places p.0.0 p.0.1 ++ flat_map (function_places (suc nesting)) p.1

pub counts : (cs : List Chunk) → function_count (functions_of cs) ≡ length cs
counts [] = refl
counts (c ∷ cs) = ap suc (counts cs)

each_listed : (nesting : ℕ) (cs : List Chunk) → each_places nesting (functions_of cs) ≡ flat_map (function_places nesting) cs
each_listed nesting [] = refl
each_listed nesting (c ∷ cs) = ap (λ (i : List Place). function_places nesting c ++ i) (each_listed nesting cs)

list_of : Functions → List Chunk
list_of no_functions = []
list_of (and_function c rest) = c ∷ list_of rest

listed : (fs : Functions) → functions_of (list_of fs) ≡ fs
unfolding list_of
listed no_functions = refl
listed (and_function c rest) = ap (and_function c) (listed rest)

in_parts : (nesting : ℕ) (p : Parts) → length p.1 ≡ p.0.1 → function_places nesting (chunk_of p) ≡ begin nesting ∷ parts_places nesting p
in_parts nesting p is =
    ap (λ n. begin nesting ∷ (own_places p.0.0 n ++ each_places (suc nesting) (functions_of p.1))) (counts p.1 ∙ is)
    ∙ ap (λ (i : List Place). begin nesting ∷ (own_places p.0.0 p.0.1 ++ i)) (each_listed (suc nesting) p.1)

named : (c : Chunk) → (p : Parts) × (chunk_of p ≡ c) × PartsAre p
named (function f inner) = (
  ((f, function_count inner), list_of inner),
  ap (function f) (listed inner),
  (tt, sym (counts (list_of inner)) ∙ ap function_count (listed inner)),
)

empty_chunk : Chunk
empty_chunk = function (record { source = None; line_defined = 0; last_line = 0; upvalues = 0; params = 0; flags = 0; registers = 0; code = []; constants = []; lines = []; locals = []; upvalue_names = [] }) no_functions

abbrev chunks_row : (nesting : ℕ) → Unit {0} → List Chunk → List Place
chunks_row nesting u cs = flat_map (function_places nesting) cs

reads_parts : (room nesting : ℕ) → Reads (chunk_at room) (function_places (suc nesting)) (λ c. Unit {0})
    → Reads (then_at own_at (λ own. many_at (λ u. chunk_at room) no_state tt own.1)) (parts_places nesting) PartsAre
reads_parts room nesting inner =
    reads_then reads_own (λ own is. reads_many no_state (chunks_row (suc nesting)) (record { none = λ u. refl; more = λ u c cs. refl }) (λ u. inner) own.1 tt)

as_chunk : (nesting : ℕ) (read : Read Parts) → Reads read (begun (parts_places nesting) PartsAre nesting) PartsAre → Reads (as_at (λ p. chunk_of p) read) (function_places nesting) (λ c. Unit {0})
as_chunk nesting read p = reads_as (λ (p : Parts). chunk_of p) (function_places nesting) (λ c. Unit {0}) p (λ p is. (in_parts nesting p is.1, tt)) (λ c is. named c)

pub reads_function : (room nesting : ℕ) → room + nesting ≡ 201 → Reads (chunk_at room) (function_places nesting) (λ c. Unit {0})
unfolding chunk_at
reads_function zero nesting deep =
    let some = named empty_chunk in
    as_chunk nesting (λ bytes. Err (Miss.TooDeep (length bytes))) (reads_too_deep (parts_places nesting) PartsAre nesting (omega arith) some.0 some.2)
reads_function (suc room) nesting deep =
    as_chunk nesting _ (reads_begun nesting (omega arith) (reads_parts room nesting (reads_function room (suc nesting) (omega arith))))
