-- A chunk that fits a layout fits it when it is stripped.
use Rattle.std.proofs.Common.{◌≡◌, ℕ, suc, ◌^◌, ◌<◌, Bool, true, false, cond, eqb, List, [], ◌∷◌, ◌++◌, None, refl, ap, subst, sym, arith}
use Rattle.std.specs.List.{AllByRecursion}
use Rattle.proto.specs.Chunk.{Own, Chunk, function, Functions, no_functions, and_function, function_count, each, each_of, stripped, strip}
use Rattle.chunk_io.specs.declared.layout.Layout.{Layout}
use Rattle.chunk_io.specs.Items.{Item, begin, int, instruction, end, Allowed, size_limit, header, source_items, constant_items, counted, shape_items, front_items, debug_items, function_items, each_items, items, Fits}
use Rattle.chunk_io.proofs.Joined.{all_both, all_first, all_second}
use Rattle.suite.specs.Jobs.{stripped_if}

-- where the first items are allowed, the others are
pub record Keeps (xs ys : List Item) : Type 0 where
  pub allow : AllByRecursion Allowed xs → AllByRecursion Allowed ys

pub same : (xs : List Item) → Keeps xs xs
same xs = record { allow = λ fit. fit }

pub both : {xs ys vs ws : List Item} → Keeps xs ys → Keeps vs ws → Keeps (xs ++ vs) (ys ++ ws)
both {xs = xs} {ys = ys} {vs = vs} {ws = ws} a b = record { allow = λ fit. all_both ys ws (a.allow (all_first xs vs fit)) (b.allow (all_second xs vs fit)) }

pub one : {xs ys : List Item} (x y : Item) → (Allowed x → Allowed y) → Keeps xs ys → Keeps (x ∷ xs) (y ∷ ys)
one x y first a = record { allow = λ fit. (first fit.0, a.allow fit.1) }

some_size : (l : Layout) → 0 < size_limit l
some_size l = go (eqb l.size 8)
  where
    go : (wide : Bool) → 0 < cond wide (2 ^ 64) (2 ^ 32)
    go true = omega arith
    go false = omega arith

front : (l : Layout) (f : Own) → Keeps (front_items l f) (front_items l (stripped f))
front l f = both {xs = source_items l f.source} {ys = source_items l None} (record { allow = λ fit. (some_size l, tt) }) (same (int l f.line_defined ∷ int l f.last_line ∷ shape_items f))

debug : (l : Layout) (f : Own) → Keeps (debug_items l f) (debug_items l (stripped f))
debug l f = record { allow = λ fit. (omega arith, (omega arith, (omega arith, tt))) }

as_many : (inner : Functions) → function_count (each_of stripped inner) ≡ function_count inner
as_many no_functions = refl
as_many (and_function c rest) = ap suc (as_many rest)

mutual
  whole : (l : Layout) (nesting : ℕ) (c : Chunk) → Keeps (function_items l nesting c) (function_items l nesting (each stripped c))
  whole l nesting (function f inner) =
      one (begin nesting) (begin nesting) (λ le. le)
      (both (front l f)
      (both (same (counted l (λ word. instruction l word ∷ []) f.code))
      (both (same (counted l (constant_items l) f.constants))
      (one (int l (function_count inner)) (int l (function_count (each_of stripped inner))) (λ lt. subst (λ n. n < 2 ^ 31) (sym (as_many inner)) lt)
      (both (all l (suc nesting) inner) (debug l f))))))

  all : (l : Layout) (nesting : ℕ) (inner : Functions) → Keeps (each_items l nesting inner) (each_items l nesting (each_of stripped inner))
  all l nesting no_functions = same []
  all l nesting (and_function c rest) = both (whole l nesting c) (all l nesting rest)

pub fits_stripped : (l : Layout) (c : Chunk) → Fits l c → Fits l (strip c)
fits_stripped l c fit = go.allow fit
  where
    go : Keeps (items l c) (items l (strip c))
    go = both (same (header l)) (both (whole l 1 c) (same (end ∷ [])))

pub fits_if : (strips : Bool) (l : Layout) (c : Chunk) → Fits l c → Fits l (stripped_if strips c)
fits_if true l c fit = fits_stripped l c fit
fits_if false l c fit = fit
