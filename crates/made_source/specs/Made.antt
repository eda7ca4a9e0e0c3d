-- To be believed. The source that the suite makes to try itself on, and what it tells of that source's chunk; both are this suite's own.
use Rattle.std.specs.Prelude.{ℕ, zero, suc, ◌+◌, [], ◌∷◌, ◌++◌, length, codes}
use Rattle.std.specs.Fmt.{decimal}
use Rattle.lua_num.specs.Bytes.{Text}
use Rattle.proto.specs.Chunk.{Chunk, function, Functions, no_functions, and_function}

-- a line with its end
abbrev pub line : Text → Text
line text = text ++ 10 ∷ []

-- a piece of a line, with a number behind it
abbrev pub piece : Text → (number : ℕ) → Text
piece text number = text ++ decimal number

-- the line that makes the function of a number
abbrev pub function_line : (number : ℕ) → Text
function_line number =
    piece (codes "t[") number ++ (piece (codes "] = function(x) if x < ") number ++ (piece (codes " then s = s + x else s = s - ") number ++ line (codes " end return s end")))

-- those of the functions from 1 on
abbrev pub function_lines : (count : ℕ) → Text
function_lines zero = []
function_lines (suc count) = function_lines count ++ function_line (suc count)

-- the line that calls each of them once
abbrev pub calling_line : (count : ℕ) → Text
calling_line count = piece (codes "for i = 1, ") count ++ (piece (codes " do t[i](") count ++ line (codes " + 1 - i) end"))

-- the source with so many functions
abbrev pub made : (count : ℕ) → Text
made count = line (codes "local t, s = {}, 0") ++ (function_lines count ++ (calling_line count ++ line (codes "print(s)")))

-- how many functions there are in a chunk, with itself, and how many words they have
abbrev mutual
  pub functions_in : Chunk → ℕ
  functions_in (function f inner) = suc (functions_among inner)

  pub functions_among : Functions → ℕ
  functions_among no_functions = 0
  functions_among (and_function c rest) = functions_in c + functions_among rest

abbrev mutual
  pub words_in : Chunk → ℕ
  words_in (function f inner) = length f.code + words_among inner

  pub words_among : Functions → ℕ
  words_among no_functions = 0
  words_among (and_function c rest) = words_in c + words_among rest

-- the account of a source and its chunk that was given a source again
abbrev pub account : (source : Text) → Chunk → Text
account source chunk =
    line (codes "source " ++ decimal (length source))
    ++ (line (codes "functions " ++ decimal (functions_in chunk))
    ++ (line (codes "words " ++ decimal (words_in chunk)) ++ line (codes "decompiled")))
