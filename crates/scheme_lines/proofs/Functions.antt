-- Closures and functions: of a function that makes the same but for lines, the chunk and the misfits are the same but for lines.
use Rattle.std.proofs.Common.{◌≡◌, ℕ, suc, max, Bool, true, false, cond, List, [], ◌∷◌, ◌++◌, length, map, refl, sym, ap, ap₂, ◌∙◌}
use Rattle.std.specs.Prelude.{nat_lt}
use Rattle.std.proofs.lemmas.List.{length-map, map-append}
use Rattle.lua_num.specs.Bytes.{Text}
use Rattle.lua_tree.specs.Scoping.{Use}
use Rattle.lua_tree.specs.Syntax.{FunctionBody, function_expression}
use Rattle.opcode.specs.declared.op.Op.{Op}
use Rattle.proto.specs.Chunk.{Chunk, Functions, functions_of, and_function, function, each_of}
use Rattle.scheme.specs.Making.{Misfit, too_many_registers, too_many_constants, jump_too_far, too_many_functions, Ahead, Maker, Part, put, where_is}
use Rattle.scheme.specs.Functions.{word_at, words_from, lines_of, reach_at, reach_from, Heading, register_count, vararg_flags, chunk_of, unless_within, misfits_of, empty_maker, with_params, whole_function, Finished, finished, function_from, source_names, further_word, further_words, Inner, next_sources, without_sources, with_function, closure, coded_function}
use Rattle.scheme.specs.declared.making.Piece.{Piece}
use Rattle.scheme.specs.declared.making.Item.{Item}
use Rattle.scheme_lines.specs.Bare.{bare_body}
use Rattle.scheme_lines.proofs.Makers.{one_line_item, one_line_own, one_line_chunk, one_line_misfit, one_line, SamePart, bind, ◌then◌, no_part, same_put, same_take, same_declare, same_activate, same_end}
use Rattle.scheme_lines.proofs.Expressions.{Same, same_single}

-- ---- what is read off a maker

words_same : (labels : List ℕ) (pc : ℕ) (items : List Item) → words_from labels pc items ≡ words_from labels pc (map one_line_item items)
words_same labels pc [] = refl
words_same labels pc (item ∷ items) = ap (λ words. word_at labels pc item.piece ∷ words) (words_same labels (suc pc) items)

reach_same : (labels : List ℕ) (pc : ℕ) (items : List Item) → reach_from labels pc items ≡ reach_from labels pc (map one_line_item items)
reach_same labels pc [] = refl
reach_same labels pc (item ∷ items) = ap (max (reach_at labels pc item.piece)) (reach_same labels (suc pc) items)

lines_same : (items : List Item) → map (λ (line : ℕ). 1) (lines_of items) ≡ lines_of (map one_line_item items)
lines_same [] = refl
lines_same (item ∷ items) = ap (λ lines. 1 ∷ lines) (lines_same items)

functions_same : (cs : List Chunk) → each_of one_line_own (functions_of cs) ≡ functions_of (map one_line_chunk cs)
functions_same [] = refl
functions_same (c ∷ cs) = ap (and_function (one_line_chunk c)) (functions_same cs)

abbrev pub one_line_heading : Heading → Heading
one_line_heading heading = record heading { first_line = 1; last_line = 1 }

-- a chunk on line 1, by its words, their lines and the functions in it
abbrev chunk_by : Heading → Maker → (words lines : List ℕ) → Functions → Chunk
chunk_by heading m words lines inner = function (record {
  source = heading.source;
  line_defined = 1;
  last_line = 1;
  upvalues = length m.upvalue_names;
  params = heading.params;
  flags = vararg_flags heading.vararg;
  registers = register_count m;
  code = words;
  constants = m.constants;
  lines = lines;
  locals = m.locals;
  upvalue_names = m.upvalue_names;
}) inner

pub chunk_same : (heading : Heading) (m : Maker) → one_line_chunk (chunk_of heading m) ≡ chunk_of (one_line_heading heading) (one_line m)
chunk_same heading m =
    ap₂ (λ words lines. chunk_by heading m words lines (each_of one_line_own (functions_of m.functions))) (words_same m.labels 0 m.items) (lines_same m.items)
    ∙ ap (chunk_by heading m (words_from m.labels 0 (map one_line_item m.items)) (lines_of (map one_line_item m.items))) (functions_same m.functions)

-- ---- misfits

unless_same : (limit reached : ℕ) (misfit : Misfit) → map one_line_misfit (unless_within limit reached misfit) ≡ unless_within limit reached (one_line_misfit misfit)
unless_same limit reached misfit = by (nat_lt limit reached)
  where
    by : (b : Bool) → map one_line_misfit (cond b (misfit ∷ []) []) ≡ cond b (one_line_misfit misfit ∷ []) []
    by true = refl
    by false = refl

pub append_same : (xs ys : List Misfit) {other more : List Misfit} → map one_line_misfit xs ≡ other → map one_line_misfit ys ≡ more → map one_line_misfit (xs ++ ys) ≡ other ++ more
append_same xs ys e f = map-append one_line_misfit xs ys ∙ ap₂ (λ l k. l ++ k) e f

-- the limits that a function does not keep, by the numbers that it reaches
abbrev misfits_by : (line registers constants reach functions : ℕ) → List Misfit
misfits_by line registers constants reach functions =
    unless_within 250 registers (too_many_registers line registers)
    ++ unless_within 262144 constants (too_many_constants line constants)
    ++ unless_within 131071 reach (jump_too_far line reach)
    ++ unless_within 262144 functions (too_many_functions line functions)

pub misfits_told : (line : ℕ) (m : Maker) → map one_line_misfit (misfits_of line m) ≡ misfits_of 1 m
misfits_told line m =
    let reach = reach_from m.labels 0 m.items in
    let registers = unless_same 250 (register_count m) (too_many_registers line (register_count m)) in
    let constants = unless_same 262144 (length m.constants) (too_many_constants line (length m.constants)) in
    append_same _ _ (append_same _ _ (append_same _ _ registers constants) (unless_same 131071 reach (jump_too_far line reach)))
    (unless_same 262144 (length m.functions) (too_many_functions line (length m.functions)))

pub misfits_same : (line : ℕ) (m : Maker) → map one_line_misfit (misfits_of line m) ≡ misfits_of 1 (one_line m)
misfits_same line m = misfits_told line m ∙ ap₂ (misfits_by 1 (register_count m) (length m.constants)) (reach_same m.labels 0 m.items) (sym (length-map m.functions one_line_chunk))

abbrev pub one_line_finished : Finished → Finished
one_line_finished made = record { chunk = one_line_chunk made.chunk; ahead = made.ahead; misfits = map one_line_misfit made.misfits }

finished_same : (heading : Heading) (m : Maker) → one_line_finished (finished heading m) ≡ finished (one_line_heading heading) (one_line m)
finished_same heading m =
    let line = heading.first_line in
    ap₂ (λ (c : Chunk) (l : List Misfit). record { chunk = c; ahead = m.ahead; misfits = l }) (chunk_same heading m) (append_same m.misfits (misfits_of line m) refl (misfits_same line m))

-- ---- whole functions

same_params : (params : List Text) → SamePart (with_params params) (with_params params)
same_params params = bind (same_declare params) (λ locals. same_activate locals then same_take (length params))

pub same_whole : {part other : Part} (end_line : ℕ) (params : List Text) → SamePart part other → SamePart (whole_function end_line params part) (whole_function 1 params other)
same_whole end_line params p = same_params params then p then same_end 0 then same_put end_line (Piece.Abc Op.Return 0 1 0)

pub record SameInner (inner other : Inner) : Type 0 where
  pub same : (names : List Text) (ahead : Ahead) → one_line_finished (inner names ahead) ≡ other names ahead

pub same_function : {part other : Part} (heading : Heading) (end_line : ℕ) (params : List Text) → SamePart part other →
    SameInner (function_from heading end_line params part) (function_from (one_line_heading heading) 1 params other)
same_function {part} {other} heading end_line params p = record {
  same = λ names ahead.
      finished_same heading (whole_function end_line params part (empty_maker ahead names))
      ∙ ap (finished (one_line_heading heading)) ((same_whole end_line params p).same (empty_maker ahead names));
}

-- ---- closures

same_further : (line : ℕ) (uses : List Use) → SamePart (further_words line uses) (further_words 1 uses)
same_further line [] = no_part
same_further line (use' ∷ uses) = record { same = λ m. (same_put line (further_word (where_is use' m.active)) then same_further line uses).same m }

with_same : (made : Finished) (m : Maker) → one_line (with_function made m) ≡ with_function (one_line_finished made) (one_line m)
with_same made m =
    ap₂ (λ (inner : List Chunk) (misfits : List Misfit). record (one_line m) { functions = inner; ahead = made.ahead; misfits = misfits })
    (map-append one_line_chunk m.functions (made.chunk ∷ [])) (map-append one_line_misfit m.misfits made.misfits)

pub same_closure : {inner other : Inner} (line : ℕ) → SameInner inner other → (r : ℕ) → SamePart (closure line inner r) (closure 1 other r)
same_closure {inner} {other} line s r = record {
  same = λ m.
      let uses = next_sources m in
      let names = source_names m uses in
      let behind = without_sources m.ahead in
      let word = Piece.Abx Op.Closure r (length m.functions) in
      (same_put line word then same_further line uses).same (with_function (inner names behind) m)
      ∙ ap (λ (n : Maker). further_words 1 uses (put 1 word n)) (with_same (inner names behind) m)
      ∙ ap₂ (λ (made : Finished) (count : ℕ). further_words 1 uses (put 1 (Piece.Abx Op.Closure r count) (with_function made (one_line m))))
      (s.same names behind) (sym (length-map m.functions one_line_chunk));
}

pub same_coded_function : {inner other : Inner} (line : ℕ) (body : FunctionBody) → SameInner inner other → Same (coded_function line body inner) (coded_function 1 (bare_body body) other)
same_coded_function {inner} {other} line body s =
    same_single line (function_expression line body) (function_expression 1 (bare_body body)) (closure line inner) (closure 1 other) refl (same_closure line s)
