-- Targets of assignments: their names are passed before their words stand, so they owe uses that the stores add.
use Rattle.std.proofs.Common.{◌≡◌, ◌≤◌, ◌<◌, ℕ, zero, suc, ◌+◌, Bool, true, false, cond, List, [], ◌∷◌, ◌++◌, length, refl, sym, ap, ◌∙◌, subst, arith, drop}
use Rattle.std.specs.Prelude.{Option, Some, None, ◌==◌, ◌&&◌, slice_get}
use Rattle.std.specs.Str.{bytes_eq}
use Rattle.lua_num.specs.Bytes.{Text}
use Rattle.lua_tree.specs.Scoping.{Use, local_use, upvalue_use, global_use}
use Rattle.lua_tree.specs.Syntax.{Expression, field_expression}
use Rattle.opcode.specs.declared.op.Op.{Op}
use Rattle.proto.specs.Chunk.{Chunk}
use Rattle.proto.specs.declared.parts.Constant.{Constant}
use Rattle.scheme.specs.Making.{Maker, Asks, Where, in_register, in_upvalue, in_globals, head_or, where_is, constant, pass_name, answer, active_count, take_registers, put}
use Rattle.scheme.specs.Expressions.{Coded, Target, name_target, part_target, operand, rk, rk_text, is_local, coded_name, coded_index, coded_field, indexed_target}
use Rattle.scheme.specs.Statements.{all_targets, renamed, with_copy, copied, copies, clashes, is_among}
use Rattle.scheme.specs.declared.making.Piece.{Piece}
use Rattle.scheme.specs.declared.making.Item.{Item}
use Rattle.scheme.specs.declared.making.Active.{Active}
use Rattle.scheme_stands.proofs.Growth.{calm, Grown, start, on_part, on_put, on_take}
use Rattle.scheme_stands.proofs.Parts.{Grows, AllGrow, asks_cond, grows_rk, grows_rk_text}
use Rattle.source_globals.specs.Named.{Role, gets_it, sets_it, is_role}
use Rattle.source_globals.proofs.Owed.{Mention, is_global, owed, passed, owed_both, passed_both, one_if, mine, not_mine}
use Rattle.source_globals.proofs.Tally.{End, Last, Fine, FineBy, Told, ToldBy, WentBy, back, untake, still, both, quiet, on_abc, tally}
use Rattle.source_globals.proofs.Values.{Speaks, operand_told, rk_told, rk_text_told, among_low}
use Rattle.source_globals.proofs.Calls.{joined}

-- the use that storing to what a name means is
abbrev pub where_use : End → Text → Where → ℕ
where_use z text (in_register r) = 0
where_use z text (in_upvalue slot) = 0
where_use z text in_globals = one_if (is_role z.role sets_it && bytes_eq z.name text)

abbrev pub target_use : End → Target → ℕ
target_use z (name_target text w) = where_use z text w
target_use z (part_target on key on_local key_local) = 0

abbrev pub targets_use : End → List Target → ℕ
targets_use z [] = 0
targets_use z (target ∷ targets) = target_use z target + targets_use z targets

-- a local that is a target is in a register
abbrev pub IsLow : Target → Type 0
IsLow (name_target text (in_register r)) = r ≤ 250
IsLow target = Unit {0}

abbrev pub AreLow : List Target → Type 0
AreLow [] = Unit {0}
AreLow (target ∷ targets) = IsLow target × AreLow targets

-- mentions are passed, and so many of their uses are still owed
pub record OwesBy (z : End) (n : ℕ) (ms : List Mention) (items : List Item) (functions : List Chunk) (names : List Use) (items' : List Item) (functions' : List Chunk) (names' : List Use) (active : List Active) : Type 0 where
  pub fine : FineBy z items' active
  pub total : tally z items' functions' + n ≡ tally z items functions + owed z.role z.name ms names
  pub names_passed : names' ≡ passed ms names

abbrev pub Owes : End → ℕ → List Mention → Maker → Maker → Type 0
Owes z k ms m n = OwesBy z k ms m.items m.functions m.ahead.names n.items n.functions n.ahead.names n.active

-- an expression as a target
pub record TargetSpeaks (z : End) (ms : List Mention) (c : Coded) : Type 0 where
  pub grows : Grows calm c
  pub target : (m : Maker) → Last z (c.target m).after → Fine z m → Owes z (target_use z (c.target m).value) ms m (c.target m).after
  pub low : (m : Maker) → Fine z m → IsLow (c.target m).value

abbrev pub TargetsSpeak : End → List (List Mention) → List Coded → Type 0
TargetsSpeak z [] [] = Unit {0}
TargetsSpeak z [] (c ∷ cs) = ⊥
TargetsSpeak z (ms ∷ rest) [] = ⊥
TargetsSpeak z (ms ∷ rest) (c ∷ cs) = TargetSpeaks z ms c × TargetsSpeak z rest cs

module _ (z : End) where
  owes_both : {k j : ℕ} {ms ns : List Mention} {i1 i2 i3 : List Item} {f1 f2 f3 : List Chunk} {n1 n2 n3 : List Use} {a2 a3 : List Active} →
      OwesBy z k ms i1 f1 n1 i2 f2 n2 a2 → OwesBy z j ns i2 f2 n2 i3 f3 n3 a3 → OwesBy z (k + j) (ms ++ ns) i1 f1 n1 i3 f3 n3 a3
  owes_both {k} {j} {ms} {ns} {i1} {i2} {i3} {f1} {f2} {f3} {n1} t u =
      let two = owed_both z.role z.name ms ns n1 in
      let second = ap (owed z.role z.name ns) t.names_passed in
      let one_total = t.total in
      let two_total = u.total in
      record { fine = u.fine; total = omega (arith, two, second, one_total, two_total); names_passed = u.names_passed ∙ ap (passed ns) t.names_passed ∙ sym (passed_both ms ns n1) }

  pub targets_grow : (mss : List (List Mention)) (cs : List Coded) → TargetsSpeak z mss cs → AllGrow calm cs
  targets_grow [] [] s = tt
  targets_grow [] (c ∷ cs) s = absurd s
  targets_grow (ms ∷ rest) [] s = tt
  targets_grow (ms ∷ rest) (c ∷ cs) s = (s.0.grows, targets_grow rest cs s.1)

  rest_grows : (cs : List Coded) → AllGrow calm cs → (m : Maker) → Grown calm m (all_targets cs m).after
  rest_grows [] g m = start m
  rest_grows (c ∷ cs) g m = on_part (rest_grows cs g.1 (c.target m).after) (g.0.target m)

  pub all_targets_owe : (mss : List (List Mention)) (cs : List Coded) → TargetsSpeak z mss cs → (m : Maker) → Last z (all_targets cs m).after → Fine z m →
      Owes z (targets_use z (all_targets cs m).value) (joined mss) m (all_targets cs m).after
  all_targets_owe [] [] s m l f = record { fine = f; total = omega arith; names_passed = refl }
  all_targets_owe [] (c ∷ cs) s m l f = absurd s
  all_targets_owe (ms ∷ rest) [] s m l f = absurd s
  all_targets_owe (ms ∷ rest) (c ∷ cs) s m l f =
      let m1 = (c.target m).after in
      let one = s.0.target m (back z m1 _ (rest_grows cs (targets_grow rest cs s.1) m1) l) f in
      owes_both one (all_targets_owe rest cs s.1 m1 l one.fine)

  pub all_targets_low : (mss : List (List Mention)) (cs : List Coded) → TargetsSpeak z mss cs → (m : Maker) → Last z (all_targets cs m).after → Fine z m → AreLow (all_targets cs m).value
  all_targets_low [] [] s m l f = tt
  all_targets_low [] (c ∷ cs) s m l f = absurd s
  all_targets_low (ms ∷ rest) [] s m l f = absurd s
  all_targets_low (ms ∷ rest) (c ∷ cs) s m l f =
      let m1 = (c.target m).after in
      let one = s.0.target m (back z m1 _ (rest_grows cs (targets_grow rest cs s.1) m1) l) f in
      (s.0.low m f, all_targets_low rest cs s.1 m1 l one.fine)

  pub all_targets_length : (cs : List Coded) (m : Maker) → length (all_targets cs m).value ≡ length cs
  all_targets_length [] m = refl
  all_targets_length (c ∷ cs) m = ap suc (all_targets_length cs (c.target m).after)

  -- ---- kinds of targets

  name_owes : (text : Text) (m : Maker) (means : Use) → head_or global_use m.ahead.names ≡ means → Fine z m → Owes z (where_use z text (where_is means m.active)) ((sets_it, text) ∷ []) m (pass_name m)
  name_owes text m (local_use declaration) e f = let none = not_mine z.role z.name (sets_it, text) (head_or global_use m.ahead.names) (ap is_global e) in record { fine = f; total = omega (arith, none); names_passed = refl }
  name_owes text m (upvalue_use slot) e f = let none = not_mine z.role z.name (sets_it, text) (head_or global_use m.ahead.names) (ap is_global e) in record { fine = f; total = omega (arith, none); names_passed = refl }
  name_owes text m global_use e f = let own = mine z.role z.name (sets_it, text) (head_or global_use m.ahead.names) (ap is_global e) in record { fine = f; total = omega (arith, own); names_passed = refl }

  name_low : (text : Text) (m : Maker) (means : Use) → Fine z m → IsLow (name_target text (where_is means m.active))
  name_low text m (local_use declaration) f = let l = among_low declaration m.active in let room = f.room in omega (arith, l, room)
  name_low text m (upvalue_use slot) f = tt
  name_low text m global_use f = tt

  pub name_target_speaks : (line : ℕ) (text : Text) → Grows calm (coded_name line text) → TargetSpeaks z ((sets_it, text) ∷ []) (coded_name line text)
  name_target_speaks line text g = record {
    grows = g;
    target = λ m l f. name_owes text m (head_or global_use m.ahead.names) refl f;
    low = λ m f. name_low text m (head_or global_use m.ahead.names) f;
  }

  pub owes_none : {ms : List Mention} {i1 i2 : List Item} {f1 f2 : List Chunk} {n1 n2 : List Use} {a2 : List Active} → ToldBy z ms i1 f1 n1 i2 f2 n2 a2 → OwesBy z 0 ms i1 f1 n1 i2 f2 n2 a2
  owes_none t = let total = t.went.total in record { fine = t.went.fine; total = omega (arith, total); names_passed = t.names_passed }

  pub index_target_speaks : {ms ns : List Mention} (line : ℕ) (e : Expression) (on key : Coded) → Grows calm (coded_index line e on key) → Speaks z ms on → Speaks z ns key → TargetSpeaks z (ms ++ ns) (coded_index line e on key)
  index_target_speaks line e on key g s t = record {
    grows = g;
    target = λ m l f.
        let m1 = (operand on m).after in
        let one = operand_told z on s.value m (back z m1 _ (grows_rk key t.grows m1) l) f in
        owes_none (both z one (rk_told z key t.value m1 l one.went.fine));
    low = λ m f. tt;
  }

  pub field_target_speaks : {ms : List Mention} (line : ℕ) (e : Expression) (on : Coded) (text : Text) → Grows calm (coded_field line e on text) → Speaks z ms on → TargetSpeaks z ms (coded_field line e on text)
  field_target_speaks line e on text g s = record {
    grows = g;
    target = λ m l f.
        let m1 = (operand on m).after in
        let one = operand_told z on s.value m (back z m1 _ (grows_rk_text line text m1) l) f in
        let key = rk_text_told z line text m1 one.went.fine in
        owes_none (quiet z one key);
    low = λ m f. tt;
  }

  -- ---- copies

  renamed_use : (x copy : ℕ) (t : Target) (b : Bool) → target_use z (cond b (renamed x copy t) t) ≡ target_use z t
  renamed_use x copy t false = refl
  renamed_use x copy (name_target text w) true = refl
  renamed_use x copy (part_target on key on_local key_local) true = refl

  copy_use : (x copy : ℕ) (ts : List Target) → targets_use z (with_copy x copy ts) ≡ targets_use z ts
  copy_use x copy [] = refl
  copy_use x copy (t ∷ ts) = let h = copy_use x copy ts in let one = renamed_use x copy t (is_among x ts) in omega (arith, h, one)

  renamed_low : (x copy : ℕ) (t : Target) (b : Bool) → IsLow t → IsLow (cond b (renamed x copy t) t)
  renamed_low x copy t false l = l
  renamed_low x copy (name_target text w) true l = l
  renamed_low x copy (part_target on key on_local key_local) true l = tt

  copy_low : (x copy : ℕ) (ts : List Target) → AreLow ts → AreLow (with_copy x copy ts)
  copy_low x copy [] l = tt
  copy_low x copy (t ∷ ts) l = (renamed_low x copy t (is_among x ts) l.0, copy_low x copy ts l.1)

  copy_length : (x copy : ℕ) (ts : List Target) → length (with_copy x copy ts) ≡ length ts
  copy_length x copy [] = refl
  copy_length x copy (t ∷ ts) = ap suc (copy_length x copy ts)

  -- what copies leave as it was
  pub record Copied (ts : List Target) (m : Maker) (got : List Target) (n : Maker) : Type 0 where
    pub told : Told z [] m n
    pub same_use : targets_use z got ≡ targets_use z ts
    pub low : AreLow ts → AreLow got
    pub same_length : length got ≡ length ts

  copied_by : (b : Bool) (line x : ℕ) (ts : List Target) (m : Maker) → Fine z m → let c = cond b (copied line x ts) (answer ts) m in Copied ts m c.value c.after
  copied_by true line x ts m f = record { told = on_abc z line Op.Move m.free x 0 refl (still z f); same_use = copy_use x m.free ts; low = copy_low x m.free ts; same_length = copy_length x m.free ts }
  copied_by false line x ts m f = record { told = still z f; same_use = refl; low = λ l. l; same_length = refl }

  pub copies_told : (line count : ℕ) (ts : List Target) (m : Maker) → Fine z m → Copied ts m (copies line count ts m).value (copies line count ts m).after
  copies_told line zero ts m f = record { told = still z f; same_use = refl; low = λ l. l; same_length = refl }
  copies_told line (suc x) ts m f =
      let before = copies line x ts m in
      let a = copies_told line x ts m f in
      let b = copied_by (clashes x ts) line x before.value before.after a.told.went.fine in
      record { told = both z a.told b.told; same_use = b.same_use ∙ a.same_use; low = λ l. b.low (a.low l); same_length = b.same_length ∙ a.same_length }

copy_grows : (b : Bool) (line x : ℕ) (targets : List Target) (m : Maker) → Grown calm m (cond b (copied line x targets) (answer targets) m).after
copy_grows b line x targets m = asks_cond b (copied line x targets) (answer targets) m (on_put _ _ (on_take 1 (start m))) (start m)

pub copies_grow : (line x : ℕ) (targets : List Target) (m : Maker) → Grown calm m (copies line x targets m).after
copies_grow line zero targets m = start m
copies_grow line (suc x) targets m = let b = copies line x targets m in on_part (copy_grows (clashes x targets) line x b.value b.after) (copies_grow line x targets m)
