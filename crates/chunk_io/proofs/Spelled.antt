-- The spelling of a function, part by part.
use Rattle.std.proofs.Common.{◌≡◌, ℕ, suc, List, [], ◌∷◌, ◌++◌, length, refl, ap, ◌∙◌, append_assoc}
use Rattle.std.specs.Int.{w32}
use Rattle.std.proofs.lemmas.List.Concat.{flat_map-append}
use Rattle.proto.specs.Chunk.{Own, Chunk, Functions, function, function_count, functions_of}
use Rattle.chunk_io.specs.declared.layout.Layout.{Layout}
use Rattle.chunk_io.specs.Items.{Item, int, instruction, bytes_of, spelling, number_bytes, front_items, counted, constant_items, debug_items, function_items, each_items}

pub spelling-append : (xs ys : List Item) → spelling (xs ++ ys) ≡ spelling xs ++ spelling ys
spelling-append xs ys = flat_map-append bytes_of xs ys

pub function_spelled : (l : Layout) (nesting : ℕ) (f : Own) (inner : Functions) → spelling (function_items l nesting (function f inner)) ≡ spelling (front_items l f) ++ (spelling (counted l (λ word. instruction l word ∷ []) f.code) ++ (spelling (counted l (constant_items l) f.constants) ++ (number_bytes l w32 (function_count inner) ++ (spelling (each_items l (suc nesting) inner) ++ spelling (debug_items l f)))))
function_spelled l nesting f inner = rw (spelling-append (front_items l f) (counted l (λ word. instruction l word ∷ []) f.code ++ (counted l (constant_items l) f.constants ++ (int l (function_count inner) ∷ (each_items l (suc nesting) inner ++ debug_items l f)))), spelling-append (counted l (λ word. instruction l word ∷ []) f.code) (counted l (constant_items l) f.constants ++ (int l (function_count inner) ∷ (each_items l (suc nesting) inner ++ debug_items l f))), spelling-append (counted l (constant_items l) f.constants) (int l (function_count inner) ∷ (each_items l (suc nesting) inner ++ debug_items l f)), spelling-append (each_items l (suc nesting) inner) (debug_items l f)) refl

pub functions_counted : (cs : List Chunk) → function_count (functions_of cs) ≡ length cs
functions_counted [] = refl
functions_counted (c ∷ cs) = ap suc (functions_counted cs)

-- a function that was written part by part
pub function_written : (l : Layout) (nesting : ℕ) (c : Chunk) (f : Own) (inner : Functions) (o0 o1 o2 o3 o4 o5 o6 : List ℕ) → c ≡ function f inner
    → o1 ≡ o0 ++ spelling (front_items l f)
    → o2 ≡ o1 ++ spelling (counted l (λ word. instruction l word ∷ []) f.code)
    → o3 ≡ o2 ++ spelling (counted l (constant_items l) f.constants)
    → o4 ≡ o3 ++ number_bytes l w32 (function_count inner)
    → o5 ≡ o4 ++ spelling (each_items l (suc nesting) inner)
    → o6 ≡ o5 ++ spelling (debug_items l f)
    → o6 ≡ o0 ++ spelling (function_items l nesting c)
function_written l nesting c f inner o0 o1 o2 o3 o4 o5 o6 is e1 e2 e3 e4 e5 e6 =
    let whole = ap (λ d. spelling (function_items l nesting d)) is ∙ function_spelled l nesting f inner in
    rw (e6, e5, e4, e3, e2, e1, whole) (six o0 (spelling (front_items l f)) (spelling (counted l (λ word. instruction l word ∷ []) f.code)) (spelling (counted l (constant_items l) f.constants)) (number_bytes l w32 (function_count inner)) (spelling (each_items l (suc nesting) inner)) (spelling (debug_items l f)))
  where
    six : (a b c d e f g : List ℕ) → (((((a ++ b) ++ c) ++ d) ++ e) ++ f) ++ g ≡ a ++ (b ++ (c ++ (d ++ (e ++ (f ++ g)))))
    six a b c d e f g = simp append_assoc
