-- The parts of chunks with short lists have short lists; how many functions there are, which falls on the way down.
use Rattle.std.proofs.Common.{◌≡◌, ℕ, zero, suc, ◌+◌, ◌<◌, ◌^◌, List, [], ◌∷◌, length, map, get_or, refl, ap, subst, sym, arith}
use Rattle.proto.specs.Chunk.{Chunk, function, Functions, no_functions, and_function, own, functions, functions_of, function_count}
use Rattle.proto.specs.Short.{IsShort, AreShort}
use Rattle.proto.specs.View.{view_proto}
use Rattle.proto.specs.declared.proto.Proto.{Proto}

pub code_short : (c : Chunk) → IsShort c → length (own c).code < 2 ^ 32
code_short (function f inner) short = short.0.code

pub inner_short : (c : Chunk) → IsShort c → AreShort (functions c)
inner_short (function f inner) short = short.2

inner_few : (c : Chunk) → IsShort c → function_count (functions c) < 2 ^ 32
inner_few (function f inner) short = short.1

count_of : (protos : List Proto) → function_count (functions_of (map view_proto protos)) ≡ length protos
count_of [] = refl
count_of (p ∷ protos) = ap suc (count_of protos)

pub functions_few : (c : Chunk) (protos : List Proto) → functions c ≡ functions_of (map view_proto protos) → IsShort c → length protos < 2 ^ 32
functions_few c protos e short = let few = inner_few c short in let same = ap function_count e in let all = count_of protos in omega (arith, few, same, all)

pub functions_short : (c : Chunk) (protos : List Proto) → functions c ≡ functions_of (map view_proto protos) → IsShort c → AreShort (functions_of (map view_proto protos))
functions_short c protos e short = subst AreShort e (inner_short c short)

pub each_short : (protos : List Proto) (k : ℕ) (x : Proto) → k < length protos → x ≡ get_or protos k x → AreShort (functions_of (map view_proto protos)) → IsShort (view_proto x)
each_short [] k x low at short = absurd (omega (arith, low))
each_short (p ∷ protos) zero x low at short = subst (λ q. IsShort (view_proto q)) (sym at) short.0
each_short (p ∷ protos) (suc k) x low at short = each_short protos k x (omega (arith, low)) at short.1

abbrev mutual
  pub chunk_size : Chunk → ℕ
  chunk_size (function f inner) = suc (functions_size inner)

  pub functions_size : Functions → ℕ
  functions_size no_functions = 0
  functions_size (and_function c rest) = suc (chunk_size c + functions_size rest)

inner_smaller : (c : Chunk) → functions_size (functions c) < chunk_size c
inner_smaller (function f inner) = omega arith

pub functions_smaller : (c : Chunk) (protos : List Proto) → functions c ≡ functions_of (map view_proto protos) → functions_size (functions_of (map view_proto protos)) < chunk_size c
functions_smaller c protos e = subst (λ fs. functions_size fs < chunk_size c) e (inner_smaller c)

pub each_smaller : (protos : List Proto) (k : ℕ) (x : Proto) → k < length protos → x ≡ get_or protos k x → chunk_size (view_proto x) < functions_size (functions_of (map view_proto protos))
each_smaller [] k x low at = absurd (omega (arith, low))
each_smaller (p ∷ protos) zero x low at = let same = ap (λ q. chunk_size (view_proto q)) at in omega (arith, same)
each_smaller (p ∷ protos) (suc k) x low at = let less = each_smaller protos k x (omega (arith, low)) at in omega (arith, less)
