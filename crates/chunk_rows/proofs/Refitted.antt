-- A chunk of few bytes fits each layout, and so it does when it is stripped.
use Rattle.std.proofs.Common.{◌≡◌, ℕ, suc, ◌+◌, ◌^◌, ◌<◌, Bool, true, false, cond, eqb, List, [], ◌∷◌, ◌++◌, length, Option, None, Some, refl, sym, ap, subst, ◌∙◌, arith}
use Rattle.std.specs.List.{flat_map, AllByRecursion}
use Rattle.std.proofs.lemmas.List.{length-append}
use Rattle.lua_num.specs.Bytes.{Text}
use Rattle.proto.specs.declared.parts.Constant.{Constant}
use Rattle.proto.specs.declared.parts.LocVar.{LocVar}
use Rattle.proto.specs.Chunk.{Own, Chunk, function, Functions, no_functions, and_function, function_count, each, each_of, stripped, strip}
use Rattle.chunk_io.specs.declared.layout.Layout.{Layout}
use Rattle.chunk_io.specs.Items.{Item, begin, int, instruction, tag, flag, number, end, bytes_of, size_bytes, Allowed, size_limit, header, string_items, source_items, constant_items, local_items, counted, shape_items, front_items, debug_items, function_items, each_items, items, spelling, Fits, Spelled}
use Rattle.chunk_io.proofs.Spelled.{spelling-append}
use Rattle.chunk_io.proofs.Joined.{all_both, all_first, all_second}

-- where the first items are allowed and have few bytes, the others are allowed
record Refits (xs ys : List Item) : Type 0 where
  allow : AllByRecursion Allowed xs → length (spelling xs) < 2 ^ 32 → AllByRecursion Allowed ys

both : {xs ys vs ws : List Item} → Refits xs ys → Refits vs ws → Refits (xs ++ vs) (ys ++ ws)
both {xs = xs} {ys = ys} {vs = vs} {ws = ws} a b = record {
  allow = λ fit few.
      let long : length (spelling (xs ++ vs)) ≡ length (spelling xs) + length (spelling vs) = ap (λ (s : List ℕ). length s) (spelling-append xs vs) ∙ length-append (spelling xs) (spelling vs) in
      all_both ys ws (a.allow (all_first xs vs fit) (omega arith)) (b.allow (all_second xs vs fit) (omega arith));
}

one : {xs ys : List Item} (x y : Item) → (Allowed x → Allowed y) → Refits xs ys → Refits (x ∷ xs) (y ∷ ys)
one {xs = xs} x y first a = record {
  allow = λ fit few.
      let long : length (spelling (x ∷ xs)) ≡ length (bytes_of x) + length (spelling xs) = length-append (bytes_of x) (spelling xs) in
      (first fit.0, a.allow fit.1 (omega arith));
}

same : (xs : List Item) → Refits xs xs
same xs = record { allow = λ fit few. fit }

-- ---- strings

below_limit : (wide : Bool) (n : ℕ) → n < 2 ^ 32 → n < cond wide (2 ^ 64) (2 ^ 32)
below_limit true n lt = omega arith
below_limit false n lt = lt

small : (m : Layout) (n : ℕ) → n < 2 ^ 32 → n < size_limit m
small m n lt = below_limit (eqb m.size 8) n lt

-- a size, a text and its ending
long_text : (size : List ℕ) (t : Text) → length (size ++ (t ++ 0 ∷ [])) ≡ length size + (length t + 1)
long_text size t = length-append size (t ++ 0 ∷ []) ∙ ap (λ n. length size + n) (length-append t (0 ∷ []))

string : (l m : Layout) (t : Text) → Refits (string_items l t) (string_items m t)
string l m t = record {
  allow = λ fit few.
      let long = long_text (size_bytes l (suc (length t))) t in
      (small m (suc (length t)) (omega arith), (tt, (tt, tt)));
}

source : (l m : Layout) (s : Option Text) → Refits (source_items l s) (source_items m s)
source l m None = record { allow = λ fit few. (small m 0 (omega arith), tt) }
source l m (Some t) = record {
  allow = λ fit few.
      let long = long_text (size_bytes l (suc (length t))) t in
      (small m (suc (length t)) (omega arith), (tt, (tt, tt)));
}

-- ---- constants and locals, and what has a count in front

constant : (l m : Layout) (c : Constant) → Refits (constant_items l c) (constant_items m c)
constant l m Constant.Nil = same (tag 0 ∷ [])
constant l m (Constant.Bool b) = same (tag 1 ∷ flag b ∷ [])
constant l m (Constant.Number n) = one (tag 3) (tag 3) (λ u. u) (one (number l n) (number m n) (λ fits. fits) (same []))
constant l m (Constant.Text t) = one (tag 4) (tag 4) (λ u. u) (string l m t)

whole : (l m : Layout) (n : ℕ) {xs ys : List Item} → Refits xs ys → Refits (int l n ∷ xs) (int m n ∷ ys)
whole l m n a = one (int l n) (int m n) (λ lt. lt) a

local : (l m : Layout) (v : LocVar) → Refits (local_items l v) (local_items m v)
local l m v = both (string l m v.name) (whole l m v.start (whole l m v.end (same [])))

all : {A : Type 0} (xs_of ys_of : A → List Item) → ((a : A) → Refits (xs_of a) (ys_of a)) → (vs : List A) → Refits (flat_map xs_of vs) (flat_map ys_of vs)
all xs_of ys_of next [] = same []
all xs_of ys_of next (a ∷ vs) = both (next a) (all xs_of ys_of next vs)

many : {A : Type 0} (l m : Layout) (xs_of ys_of : A → List Item) → ((a : A) → Refits (xs_of a) (ys_of a)) → (vs : List A) → Refits (counted l xs_of vs) (counted m ys_of vs)
many l m xs_of ys_of next vs = whole l m (length vs) (all xs_of ys_of next vs)

-- ---- functions

-- What a change makes of a function's own part fits the other layout, and leaves its code and its constants.
record Changes (l m : Layout) (change : Own → Own) : Type 0 where
  front : (f : Own) → Refits (front_items l f) (front_items m (change f))
  code : (f : Own) → (change f).code ≡ f.code
  constants : (f : Own) → (change f).constants ≡ f.constants
  debug : (f : Own) → Refits (debug_items l f) (debug_items m (change f))

words : (l m : Layout) (code others : List ℕ) → others ≡ code → Refits (counted l (λ word. instruction l word ∷ []) code) (counted m (λ word. instruction m word ∷ []) others)
words l m code others e = subst (λ o. Refits (counted l (λ word. instruction l word ∷ []) code) (counted m (λ word. instruction m word ∷ []) o)) (sym e) (many l m (λ word. instruction l word ∷ []) (λ word. instruction m word ∷ []) (λ word. one (instruction l word) (instruction m word) (λ lt. lt) (same [])) code)

pool : (l m : Layout) (constants others : List Constant) → others ≡ constants → Refits (counted l (constant_items l) constants) (counted m (constant_items m) others)
pool l m constants others e = subst (λ o. Refits (counted l (constant_items l) constants) (counted m (constant_items m) o)) (sym e) (many l m (constant_items l) (constant_items m) (constant l m) constants)

as_many : (change : Own → Own) (inner : Functions) → function_count (each_of change inner) ≡ function_count inner
as_many change no_functions = refl
as_many change (and_function c rest) = ap suc (as_many change rest)

count : (l m : Layout) (n k : ℕ) → k ≡ n → {xs ys : List Item} → Refits xs ys → Refits (int l n ∷ xs) (int m k ∷ ys)
count l m n k e a = one (int l n) (int m k) (λ lt. omega arith) a

mutual
  changed : (l m : Layout) (change : Own → Own) → Changes l m change → (nesting : ℕ) (c : Chunk) → Refits (function_items l nesting c) (function_items m nesting (each change c))
  changed l m change p nesting (function f inner) =
      one (begin nesting) (begin nesting) (λ le. le)
      (both (p.front f)
      (both (words l m f.code (change f).code (p.code f))
      (both (pool l m f.constants (change f).constants (p.constants f))
      (count l m (function_count inner) (function_count (each_of change inner)) (as_many change inner)
      (both (all_changed l m change p (suc nesting) inner) (p.debug f))))))

  all_changed : (l m : Layout) (change : Own → Own) → Changes l m change → (nesting : ℕ) (inner : Functions) → Refits (each_items l nesting inner) (each_items m nesting (each_of change inner))
  all_changed l m change p nesting no_functions = same []
  all_changed l m change p nesting (and_function c rest) = both (changed l m change p nesting c) (all_changed l m change p nesting rest)

-- ---- chunks

front : (l m : Layout) (f : Own) → Refits (front_items l f) (front_items m f)
front l m f = both (source l m f.source) (whole l m f.line_defined (whole l m f.last_line (same (shape_items f))))

debug : (l m : Layout) (f : Own) → Refits (debug_items l f) (debug_items m f)
debug l m f =
    both (many l m (λ line. int l line ∷ []) (λ line. int m line ∷ []) (λ line. whole l m line (same [])) f.lines)
    (both (many l m (local_items l) (local_items m) (local l m) f.locals) (many l m (string_items l) (string_items m) (string l m) f.upvalue_names))

as_it_is : (l m : Layout) → Changes l m (λ f. f)
as_it_is l m = record { front = front l m; code = λ f. refl; constants = λ f. refl; debug = debug l m }

stripped_front : (l m : Layout) (f : Own) → Refits (front_items l f) (front_items m (stripped f))
stripped_front l m f = both {xs = source_items l f.source} {ys = source_items m None} (record { allow = λ fit few. (small m 0 (omega arith), tt) }) (whole l m f.line_defined (whole l m f.last_line (same (shape_items f))))

stripped_debug : (l m : Layout) (f : Own) → Refits (debug_items l f) (debug_items m (stripped f))
stripped_debug l m f = record { allow = λ fit few. (omega arith, (omega arith, (omega arith, tt))) }

as_stripped : (l m : Layout) → Changes l m stripped
as_stripped l m = record { front = stripped_front l m; code = λ f. refl; constants = λ f. refl; debug = stripped_debug l m }

items_of : (l m : Layout) (c d : Chunk) → Refits (function_items l 1 c) (function_items m 1 d) → Refits (items l c) (items m d)
items_of l m c d a = both {xs = header l} {ys = header m} (record { allow = λ fit few. (tt, (tt, (tt, (tt, (tt, (tt, (tt, (tt, (tt, (tt, (tt, (tt, tt)))))))))))) }) (both a (same (end ∷ [])))

mutual
  unchanged : (c : Chunk) → each (λ f. f) c ≡ c
  unchanged (function f inner) = ap (function f) (all_unchanged inner)

  all_unchanged : (inner : Functions) → each_of (λ f. f) inner ≡ inner
  all_unchanged no_functions = refl
  all_unchanged (and_function c rest) = λ i. and_function (unchanged c i) (all_unchanged rest i)

fits : (bytes : List ℕ) (l m : Layout) (c d : Chunk) → Spelled bytes l c → length bytes < 2 ^ 32 → Refits (function_items l 1 c) (function_items m 1 d) → Fits m d
fits bytes l m c d s few a = (items_of l m c d a).allow s.fits (subst (λ b. length b < 2 ^ 32) s.is few)

pub fits_again : (bytes : List ℕ) (l m : Layout) (c : Chunk) → Spelled bytes l c → length bytes < 2 ^ 32 → Fits m c
fits_again bytes l m c s few = subst (Fits m) (unchanged c) (fits bytes l m c (each (λ f. f) c) s few (changed l m (λ f. f) (as_it_is l m) 1 c))

pub fits_stripped : (bytes : List ℕ) (l m : Layout) (c : Chunk) → Spelled bytes l c → length bytes < 2 ^ 32 → Fits m (strip c)
fits_stripped bytes l m c s few = fits bytes l m c (strip c) s few (changed l m stripped (as_stripped l m) 1 c)
