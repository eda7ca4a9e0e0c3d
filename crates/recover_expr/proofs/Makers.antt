-- The functions in a function, what closures capture, and the items of constructors.
use Rattle.std.proofs.Common.{◌≡◌, refl, sym, ap, ◌∙◌, ℕ, zero, suc, ◌+◌, ◌-◌, ◌<◌, Bool, ◌||◌, List, [], ◌∷◌, map, Option, Some, None, Bor, arith}
use Rattle.std.specs.Option.{option_copied}
use Rattle.std.specs.Prelude.{option_map, option_and_then, slice_get}
use Rattle.std.specs.Slice.{IsItemAt}
use Rattle.proto.proofs.Views.{view_proto_fields}
use Rattle.proto.specs.Chunk.{own, functions, functions_of, function_at}
use Rattle.proto.specs.View.{view_proto, view_protos}
use Rattle.proto.specs.declared.proto.Proto.{Proto, out-Proto}
use Rattle.core_expr.proofs.OwnParts.{own_is, got}
use Rattle.core_expr.specs.Values.{Value, no_items, and_positional}
use Rattle.recover_expr.specs.Closures.{capture_by, captures}
use Rattle.recover_expr.specs.Constructors.{hold_from}
use Rattle.recover_expr.specs.Entries.{Entries, hold, with_items}
use Rattle.recover_expr.specs.Situation.{Function, Situation}
use Rattle.recover_expr.specs.declared.function.Word.{Word}

-- ---- the functions in a function

function_there : (protos : List Proto) (n : ℕ) → function_at (functions_of (map view_proto protos)) n ≡ option_map view_proto (slice_get protos n)
function_there [] n = refl
function_there (p ∷ protos) zero = refl
function_there (p ∷ protos) (suc n) = function_there protos n

upvalues_are : (found : Option Proto) → option_map (λ p. (out-Proto p).upvalues) found ≡ option_map (λ inner. (own inner).upvalues) (option_map view_proto found)
upvalues_are None = refl
upvalues_are (Some p) = ap (λ f. Some f.upvalues) (sym (own_is p))

-- how many upvalues the function of a number has
pub upvalues_there : (p : Proto) (protos : List Proto) (n : ℕ) (found : Option (Bor Proto)) → view_protos (out-Proto p).functions ≡ functions_of (map view_proto protos) → IsItemAt protos n found →
    option_map (λ inner. (out-Proto inner).upvalues) (option_copied found) ≡ option_map (λ inner. (own inner).upvalues) (function_at (functions (view_proto p)) n)
upvalues_there p protos n found view is =
    ap (option_map (λ (inner : Proto). (out-Proto inner).upvalues)) (got protos n found is)
    ∙ upvalues_are (slice_get protos n)
    ∙ ap (option_map (λ inner. (own inner).upvalues)) (sym (function_there protos n) ∙ ap (λ fs. function_at fs n) (sym (ap functions (view_proto_fields p) ∙ view)))

-- ---- the further words of a closure

pub captures_turn : (f : Function) (w : Word) (next pc : ℕ) (itself captured : Bool) (before after : Situation) → pc < next → Some (captured, after) ≡ capture_by f w pc before → {whole : Option (Bool × Situation)} →
    captures f w (next - pc) pc itself before ≡ whole → captures f w (next - (pc + 1)) (pc + 1) (captured || itself) after ≡ whole
captures_turn f w next pc itself captured before after below is left =
    let fewer : next - pc ≡ suc (next - (pc + 1)) = omega arith in
    let behind : pc + 1 ≡ suc pc = omega arith in
    ap (λ n. captures f w (next - (pc + 1)) n (captured || itself) after) behind
    ∙ ap (option_and_then (λ (p : Bool × Situation). captures f w (next - (pc + 1)) (suc pc) (p.0 || itself) p.1)) is
    ∙ ap (λ n. captures f w n pc itself before) (sym fewer) ∙ left

-- ---- items of a constructor

pub hold_turn : (place end at : ℕ) (before held after : Entries) (v : Value) → at < end → ◌≡◌ {A = Option (Value × Entries)} (Some (v, held)) (hold at before) → Some after ≡ with_items place (and_positional v no_items) held → {whole : Option Entries} →
    hold_from place (end - at) at before ≡ whole → hold_from place (end - (at + 1)) (at + 1) after ≡ whole
hold_turn place end at before held after v below is with_is left =
    let fewer : end - at ≡ suc (end - (at + 1)) = omega arith in
    let behind : at + 1 ≡ suc at = omega arith in
    ap (λ n. hold_from place (end - (at + 1)) n after) behind
    ∙ ap (option_and_then (hold_from place (end - (at + 1)) (suc at))) (with_is ∙ ap (option_and_then (λ (p : Value × Entries). with_items place (and_positional p.0 no_items) p.1)) is)
    ∙ ap (λ n. hold_from place n at before) (sym fewer) ∙ left
