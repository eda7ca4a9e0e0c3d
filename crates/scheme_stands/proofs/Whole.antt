-- A function that is made of statements which stand, and that keeps its limits, stands as the relation says.
use Rattle.std.proofs.Common.{◌≡◌, ◌≤◌, ℕ, suc, Bool, true, false, cond, List, [], ◌∷◌, ◌++◌, length, refl, sym, ap, ◌∙◌, subst, arith}
use Rattle.std.specs.Prelude.{None, nat_lt}
use Rattle.std.proofs.lemmas.Bool.{ltb-false}
use Rattle.lua_num.specs.Bytes.{Text}
use Rattle.opcode.specs.declared.op.Op.{Op}
use Rattle.proto.specs.Chunk.{Chunk, functions_of, function_count}
use Rattle.scheme.specs.Making.{Misfit, too_many_registers, too_many_constants, jump_too_far, too_many_functions, Ahead, Maker, Part, declare, activate, end_locals}
use Rattle.scheme.specs.Functions.{Heading, function_from, whole_function, with_params, empty_maker, misfits_of, unless_within, register_count, reach_from, words_from}
use Rattle.scheme.specs.declared.making.Piece.{Piece}
use Rattle.scheme.specs.declared.making.Item.{Item}
use Rattle.scheme_stands.specs.Words.{Fn, Names}
use Rattle.scheme_stands.specs.Functions.{Step, Limits, FunctionAt, Declared, Activated, MadeAt}
use Rattle.scheme_stands.proofs.Growth.{calm, on_put, on_take, Final, final_self, later, before, before_put, spot, fn_of, put_at, front_empty, back_empty}
use Rattle.scheme_stands.proofs.Functions.{Made}
use Rattle.scheme_stands.proofs.Lines.{grows_declare, grows_activate, declare_active, declare_items, declare_functions, declare_free, declare_length, declared, activated, activate_spot, activate_free, activate_length}
use Rattle.scheme_stands.proofs.Blocks.{Settled, GrowsWell, StandsWell, before_end, end_any}

-- a limit that is no misfit is kept
kept_by : (b : Bool) (misfit : Misfit) → cond b (misfit ∷ []) [] ≡ [] → b ≡ false
kept_by true misfit e = cc
kept_by false misfit e = refl

kept : (limit reached : ℕ) (misfit : Misfit) → unless_within limit reached misfit ≡ [] → reached ≤ limit
kept limit reached misfit e = ltb-false limit reached (kept_by (nat_lt limit reached) misfit e)

counted : (cs : List Chunk) → function_count (functions_of cs) ≡ length cs
counted [] = refl
counted (c ∷ cs) = ap suc (counted cs)

pub words_length : (labels : List ℕ) (pc : ℕ) (items : List Item) → length (words_from labels pc items) ≡ length items
words_length labels pc [] = refl
words_length labels pc (item ∷ items) = ap suc (words_length labels (suc pc) items)

-- the limits that a function without misfits keeps
pub record Kept (z : Maker) : Type 0 where
  pub limits : Limits (fn_of z)
  pub near : reach_from z.labels 0 z.items ≤ 131071

pub limits_kept : (line : ℕ) (z : Maker) → misfits_of line z ≡ [] → Kept z
limits_kept line z e =
    let reach = reach_from z.labels 0 z.items in
    let a = unless_within 250 (register_count z) (too_many_registers line (register_count z)) in
    let b = unless_within 262144 (length z.constants) (too_many_constants line (length z.constants)) in
    let c = unless_within 131071 reach (jump_too_far line reach) in
    let d = unless_within 262144 (length z.functions) (too_many_functions line (length z.functions)) in
    let abc = front_empty (a ++ b ++ c) d e in
    let ab = front_empty (a ++ b) c abc in
    record {
      limits = record {
        two = omega arith;
        registers = kept 250 (register_count z) _ (front_empty a b ab);
        constants = kept 262144 (length z.constants) _ (back_empty a b ab);
        functions = omega (arith, counted z.functions, kept 262144 (length z.functions) _ (back_empty (a ++ b ++ c) d e));
      };
      near = kept 131071 reach _ (back_empty (a ++ b) c abc);
    }

module _ (heading : Heading) (end_line : ℕ) (params : List Text) (statements : Part) (body : Fn → Step) (g : GrowsWell statements) (l : (z : Maker) → StandsWell z statements (body (fn_of z))) (count : heading.params ≡ length params) where
  abbrev pub begun : (names : List Text) → Ahead → Maker
  begun names ahead = with_params params (empty_maker ahead names)

  abbrev pub whole : (names : List Text) → Ahead → Maker
  whole names ahead = whole_function end_line params statements (empty_maker ahead names)

  pub begun_settled : (names : List Text) (ahead : Ahead) → Settled (begun names ahead)
  begun_settled names ahead =
      let m = empty_maker ahead names in
      let d = declare params m in
      let a = activate_length d.value d.after in
      let b = activate_free d.value d.after in
      omega (arith, a, b, declare_free params m, declare_length params m, ap length (declare_active params m))

  pub whole_stands : (names : List Text) (ahead : Ahead) → (function_from heading end_line params statements names ahead).misfits ≡ [] →
      FunctionAt None params heading.vararg body ahead (function_from heading end_line params statements names ahead).ahead (function_from heading end_line params statements names ahead).chunk
  whole_stands names ahead none =
      let m = empty_maker ahead names in
      let d = declare params m in
      let m1 = activate d.value d.after in
      let m2 = begun names ahead in
      let m3 = statements m2 in
      let m4 = end_locals 0 m3 in
      let word = Piece.Abc Op.Return 0 1 0 in
      let z = whole names ahead in
      let s = begun_settled names ahead in
      let k = limits_kept heading.first_line z (back_empty z.misfits (misfits_of heading.first_line z) none) in
      let f : Final 0 z z = final_self z (front_empty z.misfits (misfits_of heading.first_line z) none) k.near in
      let f4 = before_put end_line word m4 f in
      let f3 = before_end 0 m3 f4 in
      let f2 = before (g m2 s) f3 in
      let high = f2.high in
      let p = activate_spot d.value d.after in
      record {
        param_count = count;
        flags = refl;
        limits = k.limits;
        locals = d.value;
        active = m1.active;
        inner = m3.active;
        first = spot m2;
        mid = spot m3;
        last = spot z;
        begins = ap (λ x. x.pc) p ∙ ap length (declare_items params m);
        none_made = ap (λ x. x.functions) p ∙ ap length (declare_functions params m);
        declared = subst (λ x. Declared params ahead d.value x.ahead) (sym p) (declared params m);
        activated = subst (λ a. Activated d.value a m1.active) (declare_active params m) (activated d.value d.after);
        room = omega (arith, high, s);
        body_at = l z m2 s (later (omega arith) f3);
        end = put_at end_line word m4 f;
        ends = sym (words_length z.labels 0 z.items);
        all_made = sym (counted z.functions);
        goes_on = refl;
      }

  -- it begins where the parameters are active
  pub begins_there : (names : List Text) (ahead : Ahead) (none : (function_from heading end_line params statements names ahead).misfits ≡ []) →
      ((whole_stands names ahead none).first ≡ spot (begun names ahead)) × ((whole_stands names ahead none).active ≡ (begun names ahead).active)
  unfolding whole_stands
  begins_there names ahead none = (refl, refl)

  -- behind the statements
  pub statements_final : (names : List Text) (ahead : Ahead) → (function_from heading end_line params statements names ahead).misfits ≡ [] → Final 0 (statements (begun names ahead)) (whole names ahead)
  statements_final names ahead none =
      let m3 = statements (begun names ahead) in
      let z = whole names ahead in
      let k = limits_kept heading.first_line z (back_empty z.misfits (misfits_of heading.first_line z) none) in
      before_end 0 m3 (before_put end_line (Piece.Abc Op.Return 0 1 0) (end_locals 0 m3) (final_self z (front_empty z.misfits (misfits_of heading.first_line z) none) k.near))

  upvalues_kept : (names : List Text) (ahead : Ahead) → (whole names ahead).upvalue_names ≡ names
  upvalues_kept names ahead =
      let m = empty_maker ahead names in
      let d = declare params m in
      let m2 = begun names ahead in
      let g1 = grows_declare calm params m in
      let g2 = on_take (length params) (grows_activate d.value d.after) in
      let g3 = g m2 (begun_settled names ahead) in
      let g4 = on_put end_line (Piece.Abc Op.Return 0 1 0) (end_any 0 (statements m2)) in
      g4.upvalues ∙ g3.upvalues ∙ g2.upvalues ∙ g1.upvalues

  placed_at : (IsPlaced : Names → Ahead → Type 0) (names : List Text) (ahead : Ahead) → (function_from heading end_line params statements names ahead).misfits ≡ [] →
      MadeAt None (FunctionAt None params heading.vararg body) (function_from heading end_line params statements) IsPlaced ahead (function_from heading end_line params statements names ahead).ahead (function_from heading end_line params statements names ahead).chunk
  placed_at IsPlaced names ahead none =
      let made = function_from heading end_line params statements in
      record {
        at = whole_stands names ahead none;
        is = ap (λ (names : List Text). made names ahead) (upvalues_kept names ahead) ∙ ap (λ misfits. record { chunk = (made names ahead).chunk; ahead = (made names ahead).ahead; misfits = misfits }) none;
        placed = tt;
      }

  pub function_made : (IsPlaced : Names → Ahead → Type 0) → Made (function_from heading end_line params statements) (MadeAt None (FunctionAt None params heading.vararg body) (function_from heading end_line params statements) IsPlaced)
  function_made IsPlaced = record { made_at = placed_at IsPlaced; upvalues = λ names ahead. ap length (upvalues_kept names ahead); named = upvalues_kept }
