-- A chunk that has a spelling has short lists.
use Rattle.std.proofs.Common.{ℕ, suc, ◌<◌, ◌^◌, List, [], ◌∷◌, ◌++◌, arith, length}
use Rattle.std.specs.List.{AllByRecursion}
use Rattle.proto.specs.Chunk.{Chunk, function, Functions, no_functions, and_function, function_count}
use Rattle.proto.specs.Short.{IsShort, AreShort}
use Rattle.chunk_io.specs.declared.layout.Layout.{Layout}
use Rattle.chunk_io.specs.Items.{Item, int, instruction, end, Allowed, header, constant_items, counted, front_items, debug_items, function_items, each_items, string_items, local_items}
use Rattle.chunk_io.specs.Laws.{FittingIsShort}
use Rattle.chunk_io.proofs.Joined.{all_first, all_second}

count_first : {A : Type 0} (l : Layout) (items : A → List Item) (xs : List A) (rest : List Item) → AllByRecursion Allowed (counted l items xs ++ rest) → length xs < 2 ^ 32
count_first l items xs rest fit = let small : length xs < 2 ^ 31 = fit.0 in omega arith

count_last : {A : Type 0} (l : Layout) (items : A → List Item) (xs : List A) → AllByRecursion Allowed (counted l items xs) → length xs < 2 ^ 32
count_last l items xs fit = let small : length xs < 2 ^ 31 = fit.0 in omega arith

mutual
  whole_short : (l : Layout) (nesting : ℕ) (c : Chunk) → AllByRecursion Allowed (function_items l nesting c) → IsShort c
  whole_short l nesting (function f inner) fit =
      let words = counted l (λ word. instruction l word ∷ []) f.code in
      let constants = counted l (constant_items l) f.constants in
      let lines = counted l (λ line. int l line ∷ []) f.lines in
      let locals = counted l (local_items l) f.locals in
      let names = counted l (string_items l) f.upvalue_names in
      let behind = each_items l (suc nesting) inner ++ debug_items l f in
      let one = all_second (front_items l f) (words ++ (constants ++ (int l (function_count inner) ∷ behind))) fit.1 in
      let two = all_second words (constants ++ (int l (function_count inner) ∷ behind)) one in
      let three = all_second constants (int l (function_count inner) ∷ behind) two in
      let four = all_second (each_items l (suc nesting) inner) (debug_items l f) three.1 in
      let five = all_second lines (locals ++ names) four in
      let few : function_count inner < 2 ^ 31 = three.0 in (
        record {
          code = count_first l (λ word. instruction l word ∷ []) f.code (constants ++ (int l (function_count inner) ∷ behind)) one;
          constants = count_first l (constant_items l) f.constants (int l (function_count inner) ∷ behind) two;
          lines = count_first l (λ line. int l line ∷ []) f.lines (locals ++ names) four;
          locals = count_first l (local_items l) f.locals names five;
          upvalue_names = count_last l (string_items l) f.upvalue_names (all_second locals names five);
        },
        omega arith,
        all_short l (suc nesting) inner (all_first (each_items l (suc nesting) inner) (debug_items l f) three.1),
      )

  all_short : (l : Layout) (nesting : ℕ) (inner : Functions) → AllByRecursion Allowed (each_items l nesting inner) → AreShort inner
  all_short l nesting no_functions fit = tt
  all_short l nesting (and_function c rest) fit =
      (whole_short l nesting c (all_first (function_items l nesting c) (each_items l nesting rest) fit), all_short l nesting rest (all_second (function_items l nesting c) (each_items l nesting rest) fit))

pub fits_short : FittingIsShort
fits_short l c fit = whole_short l 1 c (all_first (function_items l 1 c) (end ∷ []) (all_second (header l) (function_items l 1 c ++ end ∷ []) fit))
