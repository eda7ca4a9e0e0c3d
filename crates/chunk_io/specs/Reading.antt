-- Serves the bodies. Reading from the left, part by part, with the first item that is missed. A place is how many bytes are left there.
use Rattle.std.specs.Prelude.{◌≡◌, ℕ, zero, suc, ◌-◌, ◌==◌, nat_lt, Bool, true, false, List, [], ◌∷◌, length, take, drop, Result, Ok, Err, Option, Some, None, ℤ, refl, if◌then◌else◌}
use Rattle.std.specs.Int.{w64, cast_signed}
use Rattle.byteorder.specs.Endian.{little_number, big_number}
use Rattle.lua_num.specs.Bytes.{Text}
use Rattle.proto.specs.declared.parts.Constant.{Constant}
use Rattle.proto.specs.declared.parts.LocVar.{LocVar}
use Rattle.proto.specs.Chunk.{Own, Chunk, function, functions_of}
use Rattle.chunk_io.specs.declared.layout.Layout.{Layout}
use Rattle.chunk_io.specs.declared.front.Front.{Front}
use Rattle.chunk_io.specs.declared.fault.ChunkFault.{ChunkFault}
use Rattle.chunk_io.specs.declared.fault.ChunkFault.TheVariants as faults
use Rattle.chunk_io.specs.declared.miss.Miss.{Miss}
use Rattle.chunk_io.specs.declared.miss.ReadError.{ReadError}
use Rattle.chunk_io.specs.declared.miss.ReadError.TheVariants as errors

abbrev pub Read : Type 0 → Type 0
Read A = List ℕ → Result (A × List ℕ) Miss

infixl 10 ◌>>=◌
abbrev pub ◌>>=◌ : {A B : Type 0} → Result A Miss → (A → Result B Miss) → Result B Miss
(Ok x) >>= f = f x
(Err e) >>= f = Err e

-- What a function returned, seen by view, is what reading gives, unless memory ran out.
abbrev pub Fails : {Y : Type 0} → ReadError → Result Y Miss → Type 0
Fails errors.Memory read = Unit {0}
Fails (errors.Miss miss) read = read ≡ Err miss

abbrev pub Gives : {X Y : Type 0} → (X → Y) → Result X ReadError → Result Y Miss → Type 0
Gives view (Ok x) read = read ≡ Ok (view x)
Gives view (Err e) read = Fails e read

-- one part and then another, which may go by the first
abbrev pub then_at : {A B : Type 0} → Read A → (A → Read B) → Read (A × B)
then_at first second bytes = first bytes >>= λ x. second x.0 x.1 >>= λ y. Ok ((x.0, y.0), y.1)

-- a part, as another value
abbrev pub as_at : {A B : Type 0} → (A → B) → Read A → Read B
as_at f read bytes = read bytes >>= λ x. Ok (f x.0, x.1)

-- as many parts as a count says
unfoldable pub many_at : {A : Type 0} → Read A → ℕ → Read (List A)
many_at one zero bytes = Ok ([], bytes)
many_at one (suc n) bytes = one bytes >>= λ x. many_at one n x.1 >>= λ xs. Ok (x.0 ∷ xs.0, xs.1)

-- ---- items

unfoldable pub byte_at : Read ℕ
byte_at [] = Err Miss.Truncated
byte_at (byte ∷ rest) = Ok (byte, rest)

unfoldable pub number_at : Layout → (n : ℕ) → Read ℕ
number_at l n bytes =
    if nat_lt (length bytes) n then Err Miss.Truncated else Ok ((if l.little then little_number n bytes else big_number n bytes), drop n bytes)

unfoldable pub int_at : Layout → Read ℕ
int_at l bytes = number_at l 4 bytes >>= λ n. if nat_lt n.0 2147483648 then Ok n else Err (Miss.BadCount (length bytes))

unfoldable pub size_at : Layout → Read ℕ
size_at l bytes = if l.size == 8 then number_at l 8 bytes else number_at l 4 bytes

unfoldable pub some_size_at : Layout → Read ℕ
some_size_at l bytes = size_at l bytes >>= λ n. if n.0 == 0 then Err (Miss.BadString (length bytes)) else Ok n

unfoldable pub bytes_at : ℕ → Read Text
bytes_at n bytes = if nat_lt (length bytes) n then Err Miss.Truncated else Ok (take n bytes, drop n bytes)

unfoldable pub ending_at : Read (Unit {0})
ending_at [] = Err Miss.Truncated
ending_at (zero ∷ rest) = Ok (tt, rest)
ending_at (suc b ∷ rest) = Err (Miss.BadString (suc (length rest)))

unfoldable pub flag_at : Read Bool
flag_at [] = Err Miss.Truncated
flag_at (zero ∷ rest) = Ok (false, rest)
flag_at (suc zero ∷ rest) = Ok (true, rest)
flag_at (suc (suc b) ∷ rest) = Err (Miss.BadTag (suc (length rest)))

-- ---- strings, constants, locals

-- a text, and the 0 behind it
unfoldable pub ended_at : ℕ → Read Text
ended_at n = as_at (λ p. p.0) (then_at (bytes_at n) (λ t. ending_at))

unfoldable pub text_at : Layout → Read Text
text_at l = as_at (λ p. p.1) (then_at (some_size_at l) (λ n. ended_at (n - 1)))

-- the source of a function, which may be none
unfoldable pub rest_of_source_at : (size : ℕ) → Read (Option Text)
rest_of_source_at zero bytes = Ok (None, bytes)
rest_of_source_at (suc n) bytes = as_at (λ t. Some t) (ended_at n) bytes

unfoldable pub source_at : Layout → Read (Option Text)
source_at l = as_at (λ p. p.1) (then_at (size_at l) rest_of_source_at)

unfoldable pub whole_at : Layout → Read ℤ
whole_at l = as_at (λ n. cast_signed w64 n) (number_at l 8)

unfoldable pub constant_at : Layout → Read Constant
constant_at l [] = Err Miss.Truncated
constant_at l (zero ∷ rest) = Ok (Constant.Nil, rest)
constant_at l (suc zero ∷ rest) = as_at (λ b. Constant.Bool b) flag_at rest
constant_at l (suc (suc zero) ∷ rest) = Err (Miss.BadTag (suc (length rest)))
constant_at l (suc (suc (suc zero)) ∷ rest) = as_at (λ n. Constant.Number n) (whole_at l) rest
constant_at l (suc (suc (suc (suc zero))) ∷ rest) = as_at (λ t. Constant.Text t) (text_at l) rest
constant_at l (suc (suc (suc (suc (suc b)))) ∷ rest) = Err (Miss.BadTag (suc (length rest)))

unfoldable pub local_at : Layout → Read LocVar
local_at l = as_at (λ p. record { name = p.0; start = p.1.0; end = p.1.1 }) (then_at (text_at l) (λ name. then_at (int_at l) (λ start. int_at l)))

-- how many, and then each
unfoldable pub counted_at : {A : Type 0} → Layout → Read A → Read (List A)
counted_at l one = as_at (λ p. p.1) (then_at (int_at l) (many_at one))

-- ---- functions

-- what stands in front of a function's code
unfoldable pub front_at : Layout → Read Front
front_at l =
    as_at (λ p. record { source = p.0; line_defined = p.1.0; last_line = p.1.1.0; upvalues = p.1.1.1.0; params = p.1.1.1.1.0; vararg = p.1.1.1.1.1.0; registers = p.1.1.1.1.1.1 })
    (then_at (source_at l) (λ source. then_at (int_at l) (λ line. then_at (int_at l) (λ last. then_at byte_at (λ upvalues. then_at byte_at (λ params. then_at byte_at (λ flags. byte_at)))))))

-- the lines, the locals and the names of upvalues
unfoldable pub debug_at : Layout → Read (List ℕ × (List LocVar × List Text))
debug_at l = then_at (counted_at l (int_at l)) (λ lines. then_at (counted_at l (local_at l)) (λ locals. counted_at l (text_at l)))

abbrev pub own_of : Front → List ℕ → List Constant → List ℕ × (List LocVar × List Text) → Own
own_of f code constants debug = record { source = f.source; line_defined = f.line_defined; last_line = f.last_line; upvalues = f.upvalues; params = f.params; flags = f.vararg; registers = f.registers; code = code; constants = constants; lines = debug.0; locals = debug.1.0; upvalue_names = debug.1.1 }

-- a function, with room for so many nestings, its own among them
unfoldable pub chunk_at : Layout → (room : ℕ) → Read Chunk
chunk_at l zero bytes = Err Miss.TooDeep
chunk_at l (suc room) bytes =
    as_at (λ p. function (own_of p.0 p.1.0 p.1.1.0 p.1.1.1.1) (functions_of p.1.1.1.0))
    (then_at (front_at l) (λ front. then_at (counted_at l (number_at l 4)) (λ code. then_at (counted_at l (constant_at l)) (λ constants. then_at (counted_at l (chunk_at l room)) (λ inner. debug_at l)))))
    bytes

-- ---- the header, and the whole

unfoldable pub sign_at : ℕ → Read (Unit {0})
sign_at b [] = Err Miss.Truncated
sign_at b (byte ∷ rest) = if byte == b then Ok (tt, rest) else Err (Miss.Header (suc (length rest)))

unfoldable pub signs_at : List ℕ → Read (Unit {0})
signs_at [] bytes = Ok (tt, bytes)
signs_at (b ∷ bs) bytes = as_at (λ p. tt) (then_at (sign_at b) (λ u. signs_at bs)) bytes

unfoldable pub order_at : Read Bool
order_at [] = Err Miss.Truncated
order_at (zero ∷ rest) = Ok (false, rest)
order_at (suc zero ∷ rest) = Ok (true, rest)
order_at (suc (suc b) ∷ rest) = Err (Miss.Header (suc (length rest)))

-- whether a size has 8 bytes, and not 4
unfoldable pub width_at : Read Bool
width_at [] = Err Miss.Truncated
width_at (byte ∷ rest) = if byte == 8 then Ok (true, rest) else (if byte == 4 then Ok (false, rest) else Err (Miss.Header (suc (length rest))))

unfoldable pub integral_at : Read (Unit {0})
integral_at [] = Err Miss.Truncated
integral_at (zero ∷ rest) = Err Miss.Integral
integral_at (suc zero ∷ rest) = Ok (tt, rest)
integral_at (suc (suc b) ∷ rest) = Err (Miss.Header (suc (length rest)))

abbrev pub layout_of : (little wide : Bool) → Layout
layout_of little true = record { little = little; size = 8; is_size = refl }
layout_of little false = record { little = little; size = 4; is_size = refl }

unfoldable pub header_at : Read Layout
header_at =
    as_at (λ p. layout_of p.1.0 p.1.1.1.0)
    (then_at (signs_at (27 ∷ 76 ∷ 117 ∷ 97 ∷ 81 ∷ 0 ∷ [])) (λ u. then_at order_at (λ little. then_at (sign_at 4) (λ u. then_at width_at (λ wide. then_at (signs_at (4 ∷ 8 ∷ [])) (λ u. integral_at))))))

unfoldable pub all_of : List ℕ → Result (Layout × Chunk) Miss
all_of bytes = then_at header_at (λ l. chunk_at l 200) bytes >>= λ x. if length x.1 == 0 then Ok x.0 else Err (Miss.Trailing (length x.1))

-- the fault that a miss is, in an input of so many bytes
abbrev pub fault_of : Miss → (length : ℕ) → ChunkFault
fault_of (Miss.Header left) n = faults.Header (n - left)
fault_of Miss.Integral n = faults.Integral
fault_of Miss.Truncated n = faults.Truncated n
fault_of (Miss.BadTag left) n = faults.BadTag (n - left)
fault_of (Miss.BadString left) n = faults.BadString (n - left)
fault_of (Miss.BadCount left) n = faults.BadCount (n - left)
fault_of Miss.TooDeep n = faults.TooDeep
fault_of (Miss.Trailing left) n = faults.Trailing (n - left)
