-- Functions that are asked one by one whether they tell, up to the first that does not.
use Rattle.std.proofs.Common.{◌≡◌, ℕ, suc, ◌+◌, List, [], ◌∷◌, ◌++◌, Bool, true, false, sym, ap, ◌∙◌, subst, arith}
use Rattle.std.specs.Prelude.{map, Result, Ok, Err, IfOk}
use Rattle.std.specs.declared.alloc.AllocError.{AllocError}
use Rattle.std.proofs.lemmas.List.{append-nil}
use Rattle.proto.specs.Chunk.{Chunk, function, functions_of, own, functions}
use Rattle.proto.specs.View.{view_proto, view_protos}
use Rattle.proto.specs.declared.proto.Proto.{Proto, out-Proto}
use Rattle.proto.proofs.Views.{view_proto_fields}
use Rattle.recover_flow.specs.Debug.{Tells, AllTell, EachTells, FirstUntold, FirstUntoldIn}
use Rattle.recover_flow.specs.Untold.{IsFoundBelow, IsFoundIn}

-- what is known of a list behind so many functions, when this rest of it is left to ask
pub record AreSoFar (all rest : List Proto) (number : ℕ) : Type 0 where
  pub enough : EachTells (functions_of (map view_proto rest)) → EachTells (functions_of (map view_proto all))
  pub found : (n : ℕ) (path : List ℕ) → FirstUntoldIn (functions_of (map view_proto rest)) n path → FirstUntoldIn (functions_of (map view_proto all)) (number + n) path

from_zero : (all : List Proto) (n : ℕ) (path : List ℕ) → FirstUntoldIn (functions_of (map view_proto all)) n path → FirstUntoldIn (functions_of (map view_proto all)) (0 + n) path
from_zero all n path d =
    let e : n ≡ 0 + n = omega arith in
    subst (λ m. FirstUntoldIn (functions_of (map view_proto all)) m path) e d

pub so_far_start : (all rest : List Proto) → rest ≡ all → AreSoFar all rest 0
so_far_start all rest e = rw e (record { enough = λ s. s; found = λ n path d. from_zero all n path d })

next : (all rest : List Proto) (number : ℕ) (p : Proto) → AreSoFar all (p ∷ rest) number → AllTell (view_proto p) → AreSoFar all rest (number + 1)
next all rest number p a tells =
    record {
      enough = λ s. a.enough (tells, s);
      found = λ n path d.
          let e : number + 1 + n ≡ number + suc n = omega arith in
          rw e (a.found (suc n) path (tells, d));
    }

pub so_far_next : (all now rest : List Proto) (number : ℕ) (p : Proto) → AreSoFar all now number → now ≡ p ∷ rest → AllTell (view_proto p) → AreSoFar all rest (number + 1)
so_far_next all now rest number p a e tells = next all rest number p (rw e at a) tells

pub found_here : (all now rest : List Proto) (number : ℕ) (p : Proto) → AreSoFar all now number → now ≡ p ∷ rest → (path : List ℕ) → FirstUntold (view_proto p) path → FirstUntoldIn (functions_of (map view_proto all)) number path
found_here all now rest number p a h path d =
    let known : AreSoFar all (p ∷ rest) number = rw h at a in
    let e : number + 0 ≡ number = omega arith in
    subst (λ m. FirstUntoldIn (functions_of (map view_proto all)) m path) e (known.found 0 path d)

pub so_far_end : (all rest : List Proto) (number : ℕ) → AreSoFar all rest number → rest ≡ [] → EachTells (functions_of (map view_proto all))
so_far_end all rest number a e =
    let known : AreSoFar all [] number = rw e at a in known.enough tt

-- ---- a function and those in it

below : (c : Chunk) → Tells (own c) → (before after : List ℕ) (found : Bool) → IsFoundIn (functions c) before after found → IsFoundBelow c before after found
below (function f inner) t before after false f' = ((t, f'.0), f'.1)
below (function f inner) t before after true (n, path, e, d) = (n ∷ path, e, (t, d))

functions_are : (p : Proto) (ps : List Proto) → view_protos (out-Proto p).functions ≡ functions_of (map view_proto ps) → functions (view_proto p) ≡ functions_of (map view_proto ps)
functions_are p ps v = ap functions (view_proto_fields p) ∙ v

pub found_below : (p : Proto) (ps : List Proto) → view_protos (out-Proto p).functions ≡ functions_of (map view_proto ps) → Tells (own (view_proto p)) → (before after : List ℕ) (found : Result Bool AllocError) → IfOk found (IsFoundIn (functions_of (map view_proto ps)) before after) → IfOk found (IsFoundBelow (view_proto p) before after)
found_below p ps v t before after (Err e) f = f
found_below p ps v t before after (Ok found) f = below (view_proto p) t before after found (rw (functions_are p ps v) f)

first : (c : Chunk) → (Tells (own c) → ⊥) → FirstUntold c []
first (function f inner) t = t

pub found_first : (p : Proto) (path : List ℕ) → (Tells (own (view_proto p)) → ⊥) → (below : List ℕ) × (path ≡ path ++ below) × FirstUntold (view_proto p) below
found_first p path t = ([], sym (append-nil path), first (view_proto p) t)
