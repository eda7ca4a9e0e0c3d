-- Loops: each adds the uses of its mentions, if its parts do.
use Rattle.std.proofs.Common.{◌≡◌, ◌≤◌, ℕ, zero, suc, ◌+◌, Bool, true, false, cond, List, [], ◌∷◌, ◌++◌, length, take, refl, sym, ap, ◌∙◌, subst, arith}
use Rattle.std.specs.Prelude.{Option, Some, None, pos}
use Rattle.lua_num.specs.Bytes.{Text}
use Rattle.lua_tree.specs.Scoping.{Use}
use Rattle.opcode.specs.declared.op.Op.{Op}
use Rattle.proto.specs.declared.parts.Constant.{Constant}
use Rattle.scheme.specs.Making.{Maker, Part, put, place, new_label, take_registers, used, declare, activate, captured_from, end_locals}
use Rattle.scheme.specs.Expressions.{Coded, next_reg, load}
use Rattle.scheme.specs.Lists.{adjust}
use Rattle.scheme.specs.Statements.{Loop, block_part, end_block, while_part, repeat_plain, repeat_captured, repeat_part, turn, step_part, numeric_names, generic_names, numeric_part, generic_part}
use Rattle.scheme.specs.declared.making.Piece.{Piece}
use Rattle.scheme.specs.declared.making.Local.{Local}
use Rattle.scheme_stands.proofs.Growth.{calm, Grown}
use Rattle.scheme_stands.proofs.Parts.{Grows, grows_next}
use Rattle.scheme_stands.proofs.Lines.{grows_adjust, declare_active, declare_free, activate_free, activate_length, adjust_free}
use Rattle.scheme_stands.proofs.Blocks.{Settled, settled_on, GrowsWell, block_grows}
use Rattle.scheme_stands.proofs.Fors.{turn_grows, StepGrows}
use Rattle.source_globals.proofs.Owed.{Mention}
use Rattle.source_globals.proofs.Tally.{End, Last, Fine, Told, back, untake, still, both, quiet, on_abc, on_jump}
use Rattle.source_globals.proofs.Values.{Speaks, next_told, load_told}
use Rattle.source_globals.proofs.Calls.{joined, AllSpeak, all_grow}
use Rattle.source_globals.proofs.Adjusting.{adjust_told, adjust_low}
use Rattle.source_globals.proofs.Statements.{PartSpeaks, declared_told, declared_fine, activated_told, activated_last, ended_told, end_block_told, end_block_last, block_told}

-- the test of a `repeat`
abbrev until : Bool → (line start exit n : ℕ) → Coded → Part
until b line first exit n test = cond b (repeat_captured line first exit n test) (repeat_plain first n test)

-- the step of a numeric loop
pub record StepSpeaks (z : End) (ms : List Mention) (line : ℕ) (step : Option Coded) : Type 0 where
  pub grows : StepGrows line step
  pub told : (m : Maker) → Last z (step_part line step m) → Fine z m → Told z ms m (step_part line step m)

module _ (z : End) where
  module _ {ms ns : List Mention} (line : ℕ) (test : Coded) (body : Option Loop → Part) (s : Speaks z ms test) (h : (loop : Option Loop) → GrowsWell (body loop)) (t : (loop : Option Loop) → PartSpeaks z ns (body loop)) where
    pub while_told : PartSpeaks z (ms ++ ns) (while_part line test body)
    while_told m settled l f =
        let exit = length m.labels in
        let ma = (new_label m).after in
        let first = length ma.labels in
        let mc = place first (new_label ma).after in
        let md = test.jump_if false exit mc in
        let loop : Option Loop = Some (record { exit = exit; before = length m.active }) in
        let inside = body loop in
        let sd : Settled md = settled_on {m = mc} settled (s.grows.jump_free false exit mc) (s.grows.jump_if false exit mc) in
        let lb = back z md (block_part line inside md) (block_grows line inside md (h loop md sd)) l in
        let one = s.jump_if false exit mc lb f in
        on_jump z line Op.Jmp 0 first refl (both z one (block_told z line inside (t loop) md sd l one.went.fine))

    until_last : (b : Bool) (first exit n : ℕ) (m : Maker) → Last z (until b line first exit n test m) → Last z m
    until_last true first exit n m l = back z (new_label m).after _ (s.grows.jump_if false (length m.labels) (new_label m).after) l
    until_last false first exit n m l = back z m _ (s.grows.jump_if false first m) l

    until_told : (b : Bool) (first exit n : ℕ) (m : Maker) → Last z (until b line first exit n test m) → Fine z m → Told z ms m (until b line first exit n test m)
    until_told true first exit n m l f =
        let tested = s.jump_if false (length m.labels) (new_label m).after l f in
        let left = on_jump z line Op.Jmp 0 exit refl (on_abc z line Op.Close n 0 0 refl tested) in
        on_jump z line Op.Jmp 0 first refl (on_abc z line Op.Close n 0 0 refl (ended_told z n left))
    until_told false first exit n m l f = ended_told z n (s.jump_if false first m l f)

    pub repeat_told : PartSpeaks z (ns ++ ms) (repeat_part line body test)
    repeat_told m settled l f =
        let exit = length m.labels in
        let n = length m.active in
        let ma = (new_label m).after in
        let first = length ma.labels in
        let mc = place first (new_label ma).after in
        let loop : Option Loop = Some (record { exit = exit; before = n }) in
        let md = body loop mc in
        let b = captured_from n md in
        let one = t loop mc settled (until_last b first exit n md l) f in
        both z one (until_told b first exit n md l one.went.fine)

  -- ---- both `for`s

  pub no_step_told : (line : ℕ) (m : Maker) → Last z (step_part line None m) → Fine z m → Told z [] m (step_part line None m)
  no_step_told line m l f = load_told z line m.free (Constant.Number (pos 1)) m f

  module _ {ns : List Mention} (line : ℕ) (vs : List Local) (block : Part) (h : GrowsWell block) (t : PartSpeaks z ns block) where
    turn_told : (base : ℕ) (m : Maker) → Settled m → Last z (turn line base vs block m) → Fine z m → Told z ns m (turn line base vs block m)
    turn_told base m settled l f =
        let m1 = activate vs m in
        let m2 = take_registers (length vs) m1 in
        let m3 = block_part line block m2 in
        let as_long = activate_length vs m in
        let free = activate_free vs m in
        let s2 : Settled m2 = omega (arith, as_long, free, settled) in
        let l3 = end_block_last z line (base + 3) m3 l in
        let l2 = back z m2 m3 (block_grows line block m2 (h m2 s2)) l3 in
        let high = l2.low in
        let one = activated_told z vs m (omega (arith, high, free, settled)) (still z f) in
        end_block_told z line (base + 3) m3 (both z one (block_told z line block t m2 s2 l3 one.went.fine))

  pub numeric_told : {ms ns os ps : List Mention} (line : ℕ) (text : Text) (first last : Coded) (step : Option Coded) (body : Option Loop → Part) →
      Speaks z ms first → Speaks z ns last → StepSpeaks z os line step → ((loop : Option Loop) → GrowsWell (body loop)) → ((loop : Option Loop) → PartSpeaks z ps (body loop)) →
      PartSpeaks z ((ms ++ (ns ++ os)) ++ ps) (numeric_part line text first last step body)
  numeric_told line text first last step body s t w h p m settled l f =
      let vs = (declare (text ∷ []) m).value in
      let m1 = (declare (text ∷ []) m).after in
      let m2 = next_reg first m1 in
      let m3 = next_reg last m2 in
      let m4 = step_part line step m3 in
      let m5 = activate numeric_names m4 in
      let begin = length m5.labels in
      let ma = (new_label m5).after in
      let end = length ma.labels in
      let mb = (new_label ma).after in
      let exit = length mb.labels in
      let mc = (new_label mb).after in
      let m7 = place begin (put line (Piece.Jump Op.ForPrep m.free end) mc) in
      let loop : Option Loop = Some (record { exit = exit; before = length m.active }) in
      let g2 = grows_next first s.grows m1 in
      let g3 = grows_next last t.grows m2 in
      let g4 = w.grows.grown m3 in
      let a2 = ap length g2.active in
      let a3 = ap length g3.active in
      let a4 = ap length g4.active in
      let a5 = activate_length numeric_names m4 in
      let b2 = s.grows.to_free m1.free m1 in
      let b3 = t.grows.to_free m2.free m2 in
      let b4 = w.grows.free m3 in
      let b5 = activate_free numeric_names m4 in
      let e : length m7.active ≡ m.free + 3 = omega (arith, a2, a3, a4, a5, settled) in
      let s7 : Settled m7 = omega (arith, a2, a3, a4, a5, b2, b3, b4, b5, settled) in
      let l7 : Last z m7 = back z m7 _ (turn_grows line vs (body loop) (h loop) m.free m7 e s7) l in
      let l4 = activated_last z numeric_names m4 l7 in
      let l3 = back z m3 m4 g4 l4 in
      let l2 = back z m2 m3 g3 l3 in
      let high = w.grows.high m3 in
      let low = l4.low in
      let one = next_told z first s.value m1 l2 f in
      let two = next_told z last t.value m2 l3 one.went.fine in
      let three = w.told m3 l4 two.went.fine in
      let values = activated_told z numeric_names m4 (omega (arith, a2, a3, a4, b2, b3, high, low, settled)) (both z one (both z two three)) in
      let prepared = on_jump z line Op.ForPrep m.free end refl values in
      let turned = both z prepared (turn_told line vs (body loop) (h loop) (p loop) m.free m7 s7 l prepared.went.fine) in
      ended_told z (length m.active) (on_jump z line Op.ForLoop m.free begin refl turned)

  pub generic_told : {ps : List Mention} (line : ℕ) (names : List Text) (mss : List (List Mention)) (values : List Coded) (body : Option Loop → Part) →
      AllSpeak z mss values → ((loop : Option Loop) → GrowsWell (body loop)) → ((loop : Option Loop) → PartSpeaks z ps (body loop)) →
      PartSpeaks z (joined mss ++ ps) (generic_part line names values body)
  generic_told line names mss values body s h p m settled l f =
      let vs = (declare names m).value in
      let m1 = (declare names m).after in
      let m2 = adjust line values 3 m1 in
      let m3 = activate generic_names m2 in
      let begin = length m3.labels in
      let ma = (new_label m3).after in
      let end = length ma.labels in
      let mb = (new_label ma).after in
      let exit = length mb.labels in
      let mc = (new_label mb).after in
      let m6 = place begin (put line (Piece.Jump Op.Jmp 0 end) mc) in
      let m7 = used (m1.free + 6) m6 in
      let loop : Option Loop = Some (record { exit = exit; before = length m1.active }) in
      let g2 = grows_adjust calm line values (all_grow z mss values s) 3 m1 in
      let a1 = ap length (declare_active names m) in
      let a2 = ap length g2.active in
      let a3 = activate_length generic_names m2 in
      let b1 = declare_free names m in
      let b2 = adjust_free line values (all_grow z mss values s) 3 m1 in
      let b3 = activate_free generic_names m2 in
      let e : length m7.active ≡ m1.free + 3 = omega (arith, a1, a2, a3, b1, settled) in
      let s7 : Settled m7 = omega (arith, a1, a2, a3, b1, b2, b3, settled) in
      let l7 : Last z m7 = back z m7 _ (turn_grows line vs (body loop) (h loop) m1.free m7 e s7) l in
      let l3 : Last z m3 = untake z m6 _ l7 in
      let l2 = activated_last z generic_names m2 l3 in
      let low = adjust_low z line mss values s 3 (omega arith) m1 l2 in
      let one = both z (declared_told z names m f) (adjust_told z line mss values s 3 m1 l2 (declared_fine z names m f)) in
      let three = activated_told z generic_names m2 (omega (arith, a1, a2, b1, low, settled)) one in
      let begun = on_jump z line Op.Jmp 0 end refl three in
      let turned = both z begun (turn_told line vs (body loop) (h loop) (p loop) m1.free m7 s7 l begun.went.fine) in
      ended_told z (length m1.active) (on_jump z line Op.Jmp 0 begin refl (on_abc z line Op.TForLoop m1.free 0 (length names) refl turned))
