-- Where a failure is: in a function, or in one among those in it; and what is lost then. The parts of chunks with short lists have short lists.
use Rattle.std.proofs.Common.{◌≡◌, Bool, ℕ, zero, suc, ◌+◌, ◌<◌, ◌^◌, add-one, List, [], ◌∷◌, length, map, get_or, Option, Some, inl, inr, refl, ap, subst, sym, arith}
use Rattle.std.proofs.lemmas.Option.{same_Some}
use Rattle.core_expr.specs.Values.{Inner}
use Rattle.proto.specs.Chunk.{Chunk, Functions, function, no_functions, and_function, own, functions, functions_of, function_at, function_count}
use Rattle.proto.specs.Short.{HasShortLists, IsShort, AreShort}
use Rattle.proto.specs.View.{view_proto}
use Rattle.proto.specs.declared.proto.Proto.{Proto}
use Rattle.recover_expr.specs.declared.fault.Reason.{Reason}
use Rattle.recover_expr.specs.Reasons.{HasReason}
use Rattle.recover_flow.specs.Lost.{here, down, HasReasonAt}
use Rattle.recover_flow.specs.Recovering.{AreFound, IsFailedOnlyWhere, IsLost, IsOneLost, IsUnrecovered}
use Rattle.recover_flow.specs.Stops.{FailsBy, FailsAmong, IsAmong}
use Rattle.recover_flow.specs.declared.recovering.Failure.{Failure}

pub own_short : (c : Chunk) → IsShort c → HasShortLists (own c)
own_short (function f inner) short = short.0

inner_short : (c : Chunk) → IsShort c → AreShort (functions c)
inner_short (function f inner) short = short.2

inner_few : (c : Chunk) → IsShort c → function_count (functions c) < 2 ^ 32
inner_few (function f inner) short = short.1

count_of : (protos : List Proto) → function_count (functions_of (map view_proto protos)) ≡ length protos
count_of [] = refl
count_of (p ∷ protos) = ap suc (count_of protos)

pub functions_few : (c : Chunk) (protos : List Proto) → functions c ≡ functions_of (map view_proto protos) → IsShort c → length protos < 2 ^ 32
functions_few c protos e short = let few = inner_few c short in let same = ap function_count e in let all = count_of protos in omega (arith, few, same, all)

pub functions_short : (c : Chunk) (protos : List Proto) → functions c ≡ functions_of (map view_proto protos) → IsShort c → AreShort (functions_of (map view_proto protos))
functions_short c protos e short = subst AreShort e (inner_short c short)

pub each_short : (protos : List Proto) (k : ℕ) (x : Proto) → k < length protos → x ≡ get_or protos k x → AreShort (functions_of (map view_proto protos)) → IsShort (view_proto x)
each_short [] k x low at short = absurd (omega (arith, low))
each_short (p ∷ protos) zero x low at short = subst (λ q. IsShort (view_proto q)) (sym at) short.0
each_short (p ∷ protos) (suc k) x low at short = each_short protos k x (omega (arith, low)) at short.1

-- the function of a number, in a list
pub stands_at : (protos : List Proto) (k : ℕ) (x : Proto) → k < length protos → x ≡ get_or protos k x → function_at (functions_of (map view_proto protos)) k ≡ Some (view_proto x)
stands_at [] k x low at = absurd (omega (arith, low))
stands_at (p ∷ protos) zero x low at = ap (λ q. Some (view_proto q)) (sym at)
stands_at (p ∷ protos) (suc k) x low at = stands_at protos k x (omega (arith, low)) at

-- what is wrong with a word of a function itself
pub fails_here : (c : Chunk) (path : List ℕ) (pc : ℕ) (reason : Reason) → path ≡ [] → HasReason (own c) pc reason → HasReasonAt c path pc reason
fails_here c path pc reason empty has = subst (λ p. HasReasonAt c p pc reason) (sym empty) (record { inside = c; leads = here; has = has })

reason_below : (c : Chunk) (path : List ℕ) (pc : ℕ) (reason : Reason) → IsAmong (functions c) path (λ d rest. HasReasonAt d rest pc reason) → HasReasonAt c path pc reason
reason_below c path pc reason among = subst (λ p. HasReasonAt c p pc reason) (sym among.path_is) (record { inside = among.fact.inside; leads = down among.at among.fact.leads; has = among.fact.has })

-- and of one among the functions in it
pub fails_below : (c : Chunk) (protos : List Proto) (failure : Failure) → functions c ≡ functions_of (map view_proto protos) → FailsAmong (functions_of (map view_proto protos)) failure → FailsBy c failure
fails_below c protos (Failure.At path pc reason) e among = reason_below c path pc reason (subst (λ fs. FailsAmong fs (Failure.At path pc reason)) (sym e) among)
fails_below c protos Failure.OutOfMemory e among = tt

-- ---- what is lost

-- what a failure shows, another shows that comes of it
pub failed_so : {lost more : Type 0} (failure result : Failure) → (failure ≡ Failure.OutOfMemory → result ≡ Failure.OutOfMemory) → (lost → more) → IsFailedOnlyWhere lost failure → IsFailedOnlyWhere more result
failed_so (Failure.At path pc reason) (Failure.At path' pc' reason') memory so is = so is
failed_so (Failure.At path pc reason) Failure.OutOfMemory memory so is = tt
failed_so Failure.OutOfMemory Failure.OutOfMemory memory so is = tt
failed_so Failure.OutOfMemory (Failure.At path pc reason) memory so is = let same = memory refl in cc

-- one among functions is lost
pub one_lost : (short : Bool) (depth : ℕ) (inner : Functions) (number : ℕ) (c : Chunk) → function_at inner number ≡ Some c → IsLost short depth c → IsOneLost short depth inner
one_lost short depth no_functions number c at lost = cc
one_lost short depth (and_function d rest) zero c at lost = inl (subst (IsLost short depth) (sym (same_Some d c at)) lost)
one_lost short depth (and_function d rest) (suc number) c at lost = inr (one_lost short depth rest number c at lost)

pub lost_deep : (short : Bool) (depth : ℕ) (c : Chunk) → 200 < depth → IsLost short depth c
lost_deep short depth (function f within) deep = inl deep

-- one of those in a function is lost
pub lost_below : (short : Bool) (depth : ℕ) (c : Chunk) (inner : Functions) → functions c ≡ inner → IsOneLost short (depth + 1) inner → IsLost short depth c
lost_below short depth (function f within) inner same lost =
    inr (inl (subst (IsOneLost short (suc depth)) (sym same) (subst (λ n. IsOneLost short n inner) (add-one depth) lost)))

-- those are found, and it is not recovered
pub lost_here : (short : Bool) (depth : ℕ) (c : Chunk) (inner : Functions) (left : List (Option Inner)) → functions c ≡ inner → AreFound short inner left → IsUnrecovered c left short → IsLost short depth c
lost_here short depth (function f within) inner left same are unrecovered = inr (inr (left, subst (λ those. AreFound short those left) (sym same) are, unrecovered))
