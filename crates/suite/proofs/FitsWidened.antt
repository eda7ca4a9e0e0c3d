-- A chunk that fits a layout fits one with sizes of 8 bytes.
use Rattle.std.proofs.Common.{ℕ, suc, ◌^◌, ◌<◌, Bool, true, false, cond, eqb, List, [], ◌∷◌, length, Option, None, Some, arith}
use Rattle.std.specs.List.{flat_map}
use Rattle.lua_num.specs.Bytes.{Text}
use Rattle.proto.specs.declared.parts.Constant.{Constant}
use Rattle.proto.specs.declared.parts.LocVar.{LocVar}
use Rattle.proto.specs.Chunk.{Own, Chunk, function, Functions, no_functions, and_function, function_count}
use Rattle.chunk_io.specs.declared.layout.Layout.{Layout}
use Rattle.chunk_io.specs.Items.{Item, begin, int, instruction, tag, any_size, some_size, end, size_limit, le8, header, string_items, source_items, constant_items, local_items, counted, front_items, debug_items, function_items, each_items, items, Fits}
use Rattle.suite.proofs.FitsStripped.{Keeps, same, both, one}

wide : (l : Layout) (n : ℕ) → n < size_limit l → n < size_limit le8
wide l n small = go (eqb l.size 8) small
  where
    go : (is_wide : Bool) → n < cond is_wide (2 ^ 64) (2 ^ 32) → n < 2 ^ 64
    go true lt = lt
    go false lt = omega (arith, lt)

string : (l : Layout) (t : Text) → Keeps (string_items l t) (string_items le8 t)
string l t = one (some_size l (suc (length t))) (some_size le8 (suc (length t))) (wide l (suc (length t))) (record { allow = λ fit. fit })

source : (l : Layout) (s : Option Text) → Keeps (source_items l s) (source_items le8 s)
source l None = one (any_size l 0) (any_size le8 0) (wide l 0) (record { allow = λ fit. fit })
source l (Some t) = one (any_size l (suc (length t))) (any_size le8 (suc (length t))) (wide l (suc (length t))) (record { allow = λ fit. fit })

constant : (l : Layout) (c : Constant) → Keeps (constant_items l c) (constant_items le8 c)
constant l Constant.Nil = record { allow = λ fit. fit }
constant l (Constant.Bool b) = record { allow = λ fit. fit }
constant l (Constant.Number z) = record { allow = λ fit. fit }
constant l (Constant.Text t) = one (tag 4) (tag 4) (λ fit. fit) (string l t)

local : (l : Layout) (v : LocVar) → Keeps (local_items l v) (local_items le8 v)
local l v = both (string l v.name) (record { allow = λ fit. fit })

-- each of a list, and how many there are
each : {A : Type 0} (f g : A → List Item) → ((x : A) → Keeps (f x) (g x)) → (xs : List A) → Keeps (flat_map f xs) (flat_map g xs)
each f g keeps [] = same []
each f g keeps (x ∷ xs) = both (keeps x) (each f g keeps xs)

count : {A : Type 0} (l : Layout) (f g : A → List Item) → ((x : A) → Keeps (f x) (g x)) → (xs : List A) → Keeps (counted l f xs) (counted le8 g xs)
count l f g keeps xs = one (int l (length xs)) (int le8 (length xs)) (λ fit. fit) (each f g keeps xs)

front : (l : Layout) (f : Own) → Keeps (front_items l f) (front_items le8 f)
front l f = both (source l f.source) (record { allow = λ fit. fit })

debug : (l : Layout) (f : Own) → Keeps (debug_items l f) (debug_items le8 f)
debug l f =
    both (count l (λ line. int l line ∷ []) (λ line. int le8 line ∷ []) (λ line. record { allow = λ fit. fit }) f.lines)
    (both (count l (local_items l) (local_items le8) (local l) f.locals) (count l (string_items l) (string_items le8) (string l) f.upvalue_names))

mutual
  whole : (l : Layout) (nesting : ℕ) (c : Chunk) → Keeps (function_items l nesting c) (function_items le8 nesting c)
  whole l nesting (function f inner) =
      one (begin nesting) (begin nesting) (λ le. le)
      (both (front l f)
      (both (count l (λ word. instruction l word ∷ []) (λ word. instruction le8 word ∷ []) (λ word. record { allow = λ fit. fit }) f.code)
      (both (count l (constant_items l) (constant_items le8) (constant l) f.constants)
      (one (int l (function_count inner)) (int le8 (function_count inner)) (λ lt. lt)
      (both (all l (suc nesting) inner) (debug l f))))))

  all : (l : Layout) (nesting : ℕ) (inner : Functions) → Keeps (each_items l nesting inner) (each_items le8 nesting inner)
  all l nesting no_functions = same []
  all l nesting (and_function c rest) = both (whole l nesting c) (all l nesting rest)

pub fits_widest : (l : Layout) (c : Chunk) → Fits l c → Fits le8 c
fits_widest l c fit = go.allow fit
  where
    go : Keeps (items l c) (items le8 c)
    go = both {xs = header l} {ys = header le8} (record { allow = λ h. (tt, (tt, (tt, (tt, (tt, (tt, (tt, (tt, (tt, (tt, (tt, (tt, tt)))))))))))) }) (both (whole l 1 c) (same (end ∷ [])))
