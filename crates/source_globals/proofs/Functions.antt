-- A whole function uses what its statements mention.
use Rattle.std.proofs.Common.{◌≡◌, ◌≤◌, ℕ, zero, suc, ◌+◌, Bool, true, false, cond, List, [], ◌∷◌, ◌++◌, length, refl, sym, ap, ◌∙◌, subst, arith}
use Rattle.std.specs.Prelude.{nat_lt}
use Rattle.std.proofs.lemmas.Bool.{ltb-false}
use Rattle.lua_num.specs.Bytes.{Text}
use Rattle.opcode.specs.declared.op.Op.{Op}
use Rattle.proto.specs.Chunk.{functions_of}
use Rattle.scheme.specs.Making.{Misfit, too_many_registers, too_many_constants, jump_too_far, too_many_functions, Ahead, Maker, Part, declare, activate, end_locals, take_registers}
use Rattle.scheme.specs.Functions.{Heading, function_from, whole_function, with_params, empty_maker, misfits_of, unless_within, register_count, reach_from}
use Rattle.scheme_stands.proofs.Growth.{calm, loose, front_empty, back_empty}
use Rattle.scheme_stands.proofs.Lines.{grows_declare, grows_activate, activate_free, activate_length, declare_free, declare_active, declare_length}
use Rattle.scheme_stands.proofs.Blocks.{Settled, GrowsWell}
use Rattle.source_globals.specs.Named.{Role}
use Rattle.source_globals.proofs.Owed.{Mention}
use Rattle.source_globals.proofs.Pieces.{does}
use Rattle.source_globals.proofs.Tally.{End, Last, Fine, Told, back_loose, untake, still, both, on_abc}
use Rattle.source_globals.proofs.Closures.{InnerSpeaks}
use Rattle.source_globals.proofs.Statements.{PartSpeaks, declared_told, activated_told, ended_told}
use Rattle.source_globals.proofs.Encoding.{words_use}

kept_by : (b : Bool) (misfit : Misfit) → cond b (misfit ∷ []) [] ≡ [] → b ≡ false
kept_by true misfit e = cc
kept_by false misfit e = refl

low_high : (line : ℕ) (m : Maker) → misfits_of line m ≡ [] → m.high ≤ 250
low_high line m e =
    let reach = reach_from m.labels 0 m.items in
    let a = unless_within 250 (register_count m) (too_many_registers line (register_count m)) in
    let b = unless_within 262144 (length m.constants) (too_many_constants line (length m.constants)) in
    let c = unless_within 131071 reach (jump_too_far line reach) in
    let d = unless_within 262144 (length m.functions) (too_many_functions line (length m.functions)) in
    let first = front_empty a b (front_empty (a ++ b) c (front_empty (a ++ b ++ c) d e)) in
    let most = ltb-false 250 (register_count m) (kept_by (nat_lt 250 (register_count m)) _ first) in
    omega (arith, most)

module _ (heading : Heading) (end_line : ℕ) (params : List Text) (statements : Part) (ms : List Mention) (g : GrowsWell statements) (t : (z : End) → PartSpeaks z ms statements) where
  abbrev whole : (names : List Text) → Ahead → Maker
  whole names ahead = whole_function end_line params statements (empty_maker ahead names)

  begun_settled : (names : List Text) (ahead : Ahead) → Settled (with_params params (empty_maker ahead names))
  begun_settled names ahead =
      let m = empty_maker ahead names in
      let d = declare params m in
      let a = activate_length d.value d.after in
      let b = activate_free d.value d.after in
      omega (arith, a, b, declare_free params m, declare_length params m, ap length (declare_active params m))

  abbrev end_of : Role → Text → (names : List Text) → Ahead → End
  end_of role name names ahead = record { role = role; name = name; constants = (whole names ahead).constants; functions = (whole names ahead).functions }

  last_whole : (role : Role) (name : Text) (names : List Text) (ahead : Ahead) → (function_from heading end_line params statements names ahead).misfits ≡ [] → Last (end_of role name names ahead) (whole names ahead)
  last_whole role name names ahead none =
      let m = whole names ahead in
      record {
        constants_kept = λ i x e. e;
        functions_kept = λ i x e. e;
        low = low_high heading.first_line m (back_empty m.misfits (misfits_of heading.first_line m) none);
        none = front_empty m.misfits (misfits_of heading.first_line m) none;
      }

  whole_told : (z : End) (names : List Text) (ahead : Ahead) → Last z (whole names ahead) → Told z ms (empty_maker ahead names) (whole names ahead)
  whole_told z names ahead l =
      let m0 = empty_maker ahead names in
      let d = declare params m0 in
      let m1 = with_params params m0 in
      let s1 = begun_settled names ahead in
      let l1 = back_loose z m1 (statements m1) (g m1 s1) l in
      let high = l1.low in
      let f0 : Fine z m0 = record { read = tt; even = refl; room = omega arith } in
      let a = activate_free d.value d.after in
      let k = ap length (declare_active params m0) in
      let one = activated_told z d.value d.after (omega (arith, high, a, declare_free params m0, declare_length params m0, k)) (declared_told z params m0 f0) in
      let two = both z one (t z m1 s1 l one.went.fine) in
      on_abc z end_line Op.Return 0 1 0 refl (ended_told z 0 two)

  pub function_speaks : (z : End) → InnerSpeaks z ms (function_from heading end_line params statements)
  function_speaks z = record {
    uses_are = λ names ahead none.
        let e = end_of z.role z.name names ahead in
        let m = whole names ahead in
        let told = whole_told e names ahead (last_whole z.role z.name names ahead none) in
        let words = words_use z.role z.name m.constants (functions_of m.functions) m.labels 0 0 m.items told.went.fine.read in
        let total = told.went.total in
        omega (arith, words, total);
    passes = λ names ahead none. let told = whole_told (end_of z.role z.name names ahead) names ahead (last_whole z.role z.name names ahead none) in told.names_passed;
    upvalues = λ names ahead.
        let m0 = empty_maker ahead names in
        let d = declare params m0 in
        let a = grows_declare calm params m0 in
        let b = grows_activate d.value d.after in
        let c = g (with_params params m0) (begun_settled names ahead) in
        ap length (c.upvalues ∙ b.upvalues ∙ a.upvalues);
  }
