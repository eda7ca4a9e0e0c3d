-- The listed locals: names one behind the other, and why one is not declared.
use Rattle.std.proofs.Common.{◌≡◌, refl, sym, ap, subst, ◌∙◌, ℕ, suc, ◌+◌, ◌-◌, ◌<◌, List, ◌∷◌, [], ◌++◌, Option, Some, None, Result, Ok, Err, append_assoc, arith}
use Rattle.std.specs.Prelude.{IfErr, option_map, option_and_then}
use Rattle.std.specs.Result.{IsErrAnd}
use Rattle.lua_num.specs.Bytes.{Text}
use Rattle.proto.specs.declared.parts.LocVar.{LocVar}
use Rattle.recover_expr.specs.declared.fault.Fault.{Fault}
use Rattle.recover_expr.specs.Locals.{IsFaultOnlyWhere, Scope, name_of, before_names, names_from, declare_next, declare}

also_where : {holds others : Type 0} (fault : Fault) → (holds → others) → IsFaultOnlyWhere holds fault → IsFaultOnlyWhere others fault
also_where (Fault.At pc reason) more here = more here
also_where Fault.OutOfMemory more here = tt

-- what is refused with what a call hands on
pub refused_with : {holds others T : Type 0} (result : Result T Fault) (fault : Fault) → IsErrAnd result (λ other. other ≡ fault) → (holds → others) → IsFaultOnlyWhere holds fault → IfErr result (IsFaultOnlyWhere others)
refused_with (Ok made) fault is more here = tt
refused_with {holds} {others} {T} (Err other) fault is more here =
    let P : Fault → Type 0 = λ f. IsFaultOnlyWhere others f in
    subst P (sym is) (also_where fault more here)

joined : (names : List Text) (name : Text) (rest : Option (List Text)) →
    option_map (λ those. names ++ those) (before_names (Some name) rest) ≡ option_map (λ those. (names ++ name ∷ []) ++ those) rest
joined names name None = refl
joined names name (Some rest) = ap Some (sym (append_assoc names (name ∷ []) rest))

-- one name more
pub names_turn : (locals : List LocVar) (names : List Text) (name : Text) (entry end : ℕ) → entry < end → Some name ≡ name_of locals entry → {whole : Option (List Text)} →
    option_map (λ rest. names ++ rest) (names_from locals entry (end - entry)) ≡ whole → option_map (λ rest. (names ++ name ∷ []) ++ rest) (names_from locals (entry + 1) (end - (entry + 1))) ≡ whole
names_turn locals names name entry end below named {whole} left =
    let next : entry + 1 ≡ suc entry = omega arith in
    let more : end - entry ≡ suc (end - suc entry) = omega arith in
    rw next
    (sym (joined names name (names_from locals (suc entry) (end - suc entry))) ∙
    ap (λ n. option_map (λ those. names ++ those) (before_names n (names_from locals (suc entry) (end - suc entry)))) named ∙
    ap (λ n. option_map (λ those. names ++ those) (names_from locals entry n)) (sym more) ∙ left)

-- ---- declarations

pub declare_turn : (locals : List LocVar) (count counter pc : ℕ) (step : Option ℕ) (before next : Scope) → counter < count → Some next ≡ declare_next locals pc step before → {whole : Option Scope} →
    declare locals (count - counter) pc step before ≡ whole → declare locals (count - (counter + 1)) pc step next ≡ whole
declare_turn locals count counter pc step before next below is left =
    let fewer : count - counter ≡ suc (count - (counter + 1)) = omega arith in
    ap (option_and_then (declare locals (count - (counter + 1)) pc step)) is ∙ ap (λ n. declare locals n pc step before) (sym fewer) ∙ left
