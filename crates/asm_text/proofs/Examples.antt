-- A small listing, and the faults of texts near it, computed.
use Rattle.std.proofs.Common.{◌≡◌, [], ◌∷◌, ◌++◌, Ok, Err, Some, refl, codes, pos, arith}
use Rattle.std.specs.Fmt.{digits as radix_digits}
use Rattle.lua_num.specs.Bytes.{Text}
use Rattle.proto.specs.declared.parts.Constant.{Constant}
use Rattle.proto.specs.Chunk.{Chunk, function, no_functions}
use Rattle.lister.specs.Listing.{listing}
use Rattle.asm_text.specs.declared.fault.ListFault.{ListFault}
use Rattle.asm_text.specs.declared.miss.Miss.{Miss}
use Rattle.asm_text.specs.Faults.{Assembles, IsFault}
use Rattle.asm_text.specs.Reading.{all_of, cut_at, after, digits_from, number_at, spaced_at, spaced_many, signed_at, scan_at, quoted_at, whole_quoted_at, whole_number_at, constant_at, op_among, op_at, field_at, fields_at, instr_at, plain_word_at, shown_word_at, bare_at, word_at, name_at, source_at, defined_at, four_at, shape_at, count_at, counted_lines, lines_at, local_at, many_at, one_line_at, code_at, constants_at, locals_at, names_at, front_at, debug_at, own_at, chunk_at, line_ends, differing_line}
use Rattle.asm_text.proofs.Whole.{missed}
use Rattle.asm_text.proofs.OneAnswer.{compared_same, compared_other}

-- LOADK 0 k0, RETURN 0 1
seven : Chunk
seven =
    function (record { source = Some (codes "@a"); line_defined = 0; last_line = 0; upvalues = 0; params = 0; flags = 2; registers = 2; code = 1 ∷ 8388638 ∷ []; constants = Constant.Number (pos 7) ∷ []; lines = 1 ∷ 1 ∷ []; locals = []; upvalue_names = [] }) no_functions

-- the lines 1 to 4, those of code, and the lines from 8 on with what stands behind the last
with_code : (code ending : Text) → Text
with_code code ending =
    codes "function main\nsource \"@a\"\ndefined 0 0\nshape 0 0 2 2\n" ++ (code ++ (codes "constants 1\n0 7\nfunctions 0\nlines 2: 1 1\nlocals 0\nnames 0" ++ ending))

right_code : Text
right_code = codes "code 2\n0 [1] LOADK 0 k0 ; 7\n1 [1] RETURN 0 1 0\n"

right : Text
right = with_code right_code (10 ∷ [])

-- a third word is due in line 8, and is not there
one_word_more : Text
one_word_more = with_code (codes "code 3\n0 [1] LOADK 0 k0 ; 7\n1 [1] RETURN 0 1 0\n") (10 ∷ [])

-- LOADK has a constant there, and no function
loads_function : Text
loads_function = with_code (codes "code 2\n0 [1] LOADK 0 f0 ; 7\n1 [1] RETURN 0 1 0\n") (10 ∷ [])

-- A line by itself may have any comment; the whole listing tells which.
other_comment : Text
other_comment = with_code (codes "code 2\n0 [1] LOADK 0 k0 ; 8\n1 [1] RETURN 0 1 0\n") (10 ∷ [])

-- with no end of the last line, and with an empty line behind it
unended : Text
unended = with_code right_code []

one_line_more : Text
one_line_more = with_code right_code (10 ∷ 10 ∷ [])

-- what reading gives, with how many bytes are left where it stops
record Readings : Type 0 where
  right_gives : all_of right ≡ Ok seven
  comment_gives : all_of other_comment ≡ Ok seven
  word_missed : all_of one_word_more ≡ Err (Miss.BadLine 58)
  constant_missed : all_of loads_function ≡ Err (Miss.BadLine 98)
  end_missed : all_of unended ≡ Err (Miss.BadLine 7)
  line_behind : all_of one_line_more ≡ Err (Miss.BadLine 1)
  nothing_there : all_of [] ≡ Err (Miss.BadLine 0)

readings : Readings
unfolding all_of cut_at after digits_from number_at spaced_at spaced_many signed_at scan_at quoted_at whole_quoted_at whole_number_at constant_at op_among op_at field_at fields_at instr_at plain_word_at shown_word_at bare_at word_at name_at source_at defined_at four_at shape_at count_at counted_lines lines_at local_at many_at one_line_at code_at constants_at locals_at names_at front_at debug_at own_at chunk_at radix_digits seven with_code right_code right one_word_more loads_function other_comment unended one_line_more
readings = record { right_gives = refl; comment_gives = refl; word_missed = refl; constant_missed = refl; end_missed = refl; line_behind = refl; nothing_there = refl }

right_assembles : Assembles right seven
unfolding radix_digits seven with_code right_code right
right_assembles = compared_same right seven (listing seven) (listing seven) (omega arith) readings.right_gives refl refl refl

other_comment_differs : IsFault other_comment (ListFault.Differs 6)
unfolding differing_line radix_digits seven with_code other_comment
other_comment_differs = compared_other other_comment seven (listing seven) (listing seven) 6 (omega arith) readings.comment_gives refl refl refl refl

third_word_missed : IsFault one_word_more (ListFault.BadLine 8)
unfolding line_ends with_code one_word_more
third_word_missed = missed one_word_more (Miss.BadLine 58) readings.word_missed

function_refused : IsFault loads_function (ListFault.BadLine 6)
unfolding line_ends with_code loads_function
function_refused = missed loads_function (Miss.BadLine 98) readings.constant_missed

last_line_ends : IsFault unended (ListFault.BadLine 13)
unfolding line_ends with_code right_code unended
last_line_ends = missed unended (Miss.BadLine 7) readings.end_missed

nothing_follows : IsFault one_line_more (ListFault.BadLine 14)
unfolding line_ends with_code right_code one_line_more
nothing_follows = missed one_line_more (Miss.BadLine 1) readings.line_behind

empty_misses : IsFault [] (ListFault.BadLine 1)
unfolding line_ends
empty_misses = missed [] (Miss.BadLine 0) readings.nothing_there
