-- Assignments: the stores add what the targets owe.
use Rattle.std.proofs.Common.{◌≡◌, ◌≤◌, ◌<◌, ℕ, zero, suc, ◌+◌, Bool, true, false, cond, List, [], ◌∷◌, ◌++◌, length, refl, sym, ap, ◌∙◌, subst, arith}
use Rattle.std.specs.Prelude.{Option, Some, None, ◌==◌, ◌&&◌, slice_get}
use Rattle.std.proofs.lemmas.Bool.{eqb-true}
use Rattle.std.specs.Str.{bytes_eq}
use Rattle.lua_num.specs.Bytes.{Text}
use Rattle.lua_tree.specs.Scoping.{Use}
use Rattle.opcode.specs.declared.op.Op.{Op}
use Rattle.proto.specs.Chunk.{Chunk}
use Rattle.proto.specs.declared.parts.Constant.{Constant}
use Rattle.scheme.specs.Making.{Maker, Where, in_register, in_upvalue, in_globals, constant, active_count}
use Rattle.scheme.specs.Expressions.{Coded, Target, name_target, part_target, next_reg, operand, rk}
use Rattle.scheme.specs.Lists.{adjust}
use Rattle.scheme.specs.Statements.{set_where, store_register, store_operand, store, all_targets, copies, each_stored, stored_from, assign_adjusted, assign_part}
use Rattle.scheme.specs.declared.making.Piece.{Piece}
use Rattle.scheme.specs.declared.making.Item.{Item}
use Rattle.scheme.specs.declared.making.Active.{Active}
use Rattle.scheme_stands.proofs.Growth.{calm, Grown, start, on_part, on_put, on_constant, constant_stands}
use Rattle.scheme_stands.proofs.Parts.{Grows, AllGrow, grows_cond, grows_operand, grows_rk, grows_next}
use Rattle.scheme_stands.proofs.Lines.{grows_adjust}
use Rattle.global_use.specs.Uses.{is_name}
use Rattle.source_globals.specs.Named.{Role, gets_it, sets_it, is_role}
use Rattle.source_globals.proofs.Owed.{Mention, owed, passed, owed_both, passed_both, one_if}
use Rattle.source_globals.proofs.Tally.{End, Last, Fine, FineBy, Told, ToldBy, WentBy, back, untake, still, both, behind, on_abc, tally, abc_went, word_went}
use Rattle.source_globals.proofs.Values.{Value, Speaks, next_told, next_low, operand_told, operand_low, rk_told}
use Rattle.source_globals.proofs.Calls.{joined, AllSpeak, all_grow}
use Rattle.source_globals.proofs.Adjusting.{adjust_told, adjust_low}
use Rattle.source_globals.proofs.Targets.{where_use, target_use, targets_use, IsLow, AreLow, OwesBy, Owes, TargetSpeaks, TargetsSpeak, targets_grow, all_targets_owe, all_targets_low, all_targets_length, Copied, copies_told, copies_grow}

-- ---- what stores keep

grows_set : (line r : ℕ) (text : Text) (w : Where) (m : Maker) → Grown calm m (set_where line r text w m)
grows_set line r text (in_register x) m = on_put _ _ (start m)
grows_set line r text (in_upvalue slot) m = on_put _ _ (start m)
grows_set line r text in_globals m = on_put _ _ (on_constant (Constant.Text text) (start m))

grows_store_register : (line : ℕ) (target : Target) (r : ℕ) (m : Maker) → Grown calm m (store_register line target r m)
grows_store_register line (name_target text w) r m = grows_set line r text w m
grows_store_register line (part_target on key on_local key_local) r m = on_put _ _ (start m)

grows_store_operand : (line : ℕ) (text : Text) (w : Where) (c : Coded) → Grows calm c → (m : Maker) → Grown calm m (store_operand line text w c m)
grows_store_operand line text w c g m = on_part (grows_set line (operand c m).value text w (operand c m).after) (grows_operand c g m)

grows_store : (line : ℕ) (target : Target) (c : Coded) → Grows calm c → (m : Maker) → Grown calm m (store line target c m)
grows_store line (name_target text (in_register x)) c g m = g.to_reg x m
grows_store line (name_target text (in_upvalue slot)) c g m = grows_store_operand line text (in_upvalue slot) c g m
grows_store line (name_target text in_globals) c g m = grows_store_operand line text in_globals c g m
grows_store line (part_target on key on_local key_local) c g m = on_put _ _ (grows_rk c g m)

grows_each : (line : ℕ) (targets : List Target) (cs : List Coded) → AllGrow calm cs → (m : Maker) → Grown calm m (each_stored line targets cs m)
grows_each line [] cs g m = start m
grows_each line (t ∷ []) [] g m = start m
grows_each line (t ∷ []) (c ∷ cs) g m = grows_store line t c g.0 m
grows_each line (t ∷ o ∷ ts) [] g m = start m
grows_each line (t ∷ o ∷ ts) (c ∷ cs) g m = on_part (grows_store_register line t m.free (each_stored line (o ∷ ts) cs (next_reg c m))) (on_part (grows_each line (o ∷ ts) cs g.1 (next_reg c m)) (grows_next c g.0 m))

grows_stored_from : (line r : ℕ) (targets : List Target) (m : Maker) → Grown calm m (stored_from line r targets m)
grows_stored_from line r [] m = start m
grows_stored_from line r (t ∷ ts) m = on_part (grows_store_register line t r (stored_from line (suc r) ts m)) (grows_stored_from line (suc r) ts m)

stores_grow : (b : Bool) (line : ℕ) (places : List Target) (values : List Coded) → AllGrow calm values → (m : Maker) → Grown calm m (cond b (each_stored line places values) (assign_adjusted line places values) m)
stores_grow b line places values h m =
    grows_cond b (each_stored line places values) (assign_adjusted line places values) m (grows_each line places values h m)
    (on_part (grows_stored_from line m.free places _) (grows_adjust calm line values h (length places) m))

-- ---- what they add

-- mentions are passed, and so many uses that were owed are added too
pub record PaysBy (z : End) (n : ℕ) (ms : List Mention) (items : List Item) (functions : List Chunk) (names : List Use) (items' : List Item) (functions' : List Chunk) (names' : List Use) (active : List Active) : Type 0 where
  pub fine : FineBy z items' active
  pub total : tally z items' functions' ≡ tally z items functions + owed z.role z.name ms names + n
  pub names_passed : names' ≡ passed ms names

abbrev pub Pays : End → ℕ → List Mention → Maker → Maker → Type 0
Pays z k ms m n = PaysBy z k ms m.items m.functions m.ahead.names n.items n.functions n.ahead.names n.active

module _ (z : End) where
  pays_told : {ms : List Mention} {i1 i2 : List Item} {f1 f2 : List Chunk} {n1 n2 : List Use} {a2 : List Active} → ToldBy z ms i1 f1 n1 i2 f2 n2 a2 → PaysBy z 0 ms i1 f1 n1 i2 f2 n2 a2
  pays_told t = let total = t.went.total in record { fine = t.went.fine; total = omega (arith, total); names_passed = t.names_passed }

  set_word : (line : ℕ) (text : Text) (r : ℕ) → r ≤ 250 → (m : Maker) → Last z (set_where line r text in_globals m) → Fine z m → WentBy z (where_use z text in_globals) m.items m.functions (set_where line r text in_globals m).items m.functions m.active
  set_word line text r low m l f =
      let number = (constant (Constant.Text text) m).value in
      let is : slice_get z.constants number ≡ Some (Constant.Text text) = l.constants_kept _ _ (constant_stands (Constant.Text text) m.constants) in
      let w = word_went z {functions = m.functions} line (Piece.Abx Op.SetGlobal r number) (omega (arith, low)) refl f in
      let used = ap (λ k. one_if (is_role z.role sets_it && is_name z.name k)) is in
      let total = w.total in
      record { fine = w.fine; total = omega (arith, total, used) }

  set_pays : (line : ℕ) (text : Text) (w : Where) (r : ℕ) → r ≤ 250 → (m : Maker) → Last z (set_where line r text w m) → Fine z m → Pays z (where_use z text w) [] m (set_where line r text w m)
  set_pays line text (in_register x) r low m l f = pays_told (on_abc z line Op.Move x r 0 refl (still z f))
  set_pays line text (in_upvalue slot) r low m l f = pays_told (on_abc z line Op.SetUpval r slot 0 refl (still z f))
  set_pays line text in_globals r low m l f = let w = set_word line text r low m l f in let total = w.total in record { fine = w.fine; total = omega (arith, total); names_passed = refl }

  store_register_pays : (line : ℕ) (t : Target) (r : ℕ) → r ≤ 250 → (m : Maker) → Last z (store_register line t r m) → Fine z m → Pays z (target_use z t) [] m (store_register line t r m)
  store_register_pays line (name_target text w) r low m l f = set_pays line text w r low m l f
  store_register_pays line (part_target on key on_local key_local) r low m l f = pays_told (on_abc z line Op.SetTable on key r refl (still z f))

  -- the words of values, then those of stores
  pays_then : {k j : ℕ} {ms : List Mention} {i1 i2 i3 : List Item} {f1 f2 f3 : List Chunk} {n1 n2 n3 : List Use} {a2 a3 : List Active} →
      PaysBy z k ms i1 f1 n1 i2 f2 n2 a2 → PaysBy z j [] i2 f2 n2 i3 f3 n3 a3 → PaysBy z (j + k) ms i1 f1 n1 i3 f3 n3 a3
  pays_then p q = let one_total = p.total in let two_total = q.total in record { fine = q.fine; total = omega (arith, one_total, two_total); names_passed = q.names_passed ∙ p.names_passed }

  told_then : {k : ℕ} {ms ns : List Mention} {i1 i2 i3 : List Item} {f1 f2 f3 : List Chunk} {n1 n2 n3 : List Use} {a2 a3 : List Active} →
      ToldBy z ms i1 f1 n1 i2 f2 n2 a2 → PaysBy z k ns i2 f2 n2 i3 f3 n3 a3 → PaysBy z k (ms ++ ns) i1 f1 n1 i3 f3 n3 a3
  told_then {k} {ms} {ns} {i1} {i2} {i3} {f1} {f2} {f3} {n1} t q =
      let two = owed_both z.role z.name ms ns n1 in
      let second = ap (owed z.role z.name ns) t.names_passed in
      let one_total = t.went.total in
      let two_total = q.total in
      record { fine = q.fine; total = omega (arith, two, second, one_total, two_total); names_passed = q.names_passed ∙ ap (passed ns) t.names_passed ∙ sym (passed_both ms ns n1) }

  store_operand_pays : {ms : List Mention} (line : ℕ) (text : Text) (w : Where) (c : Coded) → Speaks z ms c → (m : Maker) → Last z (store_operand line text w c m) → Fine z m → Pays z (where_use z text w) ms m (store_operand line text w c m)
  store_operand_pays line text w c s m l f =
      let x = operand c m in
      let l1 = back z x.after _ (grows_set line x.value text w x.after) l in
      let one = operand_told z c s.value m l1 f in
      let two = set_pays line text w x.value (operand_low z c s.value m l1 f) x.after l one.went.fine in
      let sum = pays_then (pays_told one) two in
      let total = sum.total in
      record { fine = sum.fine; total = omega (arith, total); names_passed = sum.names_passed }

  store_pays : {ms : List Mention} (line : ℕ) (t : Target) (c : Coded) → IsLow t → Speaks z ms c → (m : Maker) → Last z (store line t c m) → Fine z m → Pays z (target_use z t) ms m (store line t c m)
  store_pays line (name_target text (in_register x)) c low s m l f = pays_told (s.value.to_reg x low m l f)
  store_pays line (name_target text (in_upvalue slot)) c low s m l f = store_operand_pays line text (in_upvalue slot) c s m l f
  store_pays line (name_target text in_globals) c low s m l f = store_operand_pays line text in_globals c s m l f
  store_pays line (part_target on key on_local key_local) c low s m l f = pays_told (on_abc z line Op.SetTable on key _ refl (rk_told z c s.value m l f))

  each_pays : (line : ℕ) (ts : List Target) (mss : List (List Mention)) (cs : List Coded) → AreLow ts → AllSpeak z mss cs → length cs ≡ length ts → (m : Maker) → Last z (each_stored line ts cs m) → Fine z m →
      Pays z (targets_use z ts) (joined mss) m (each_stored line ts cs m)
  each_pays line [] [] [] low s e m l f = pays_told (still z f)
  each_pays line [] (ms ∷ rest) [] low s e m l f = absurd s
  each_pays line [] mss (c ∷ cs) low s e m l f = cc
  each_pays line (t ∷ ts) mss [] low s e m l f = cc
  each_pays line (t ∷ ts) [] (c ∷ cs) low s e m l f = absurd s
  each_pays line (t ∷ []) (ms ∷ []) (c ∷ []) low s e m l f =
      let p = store_pays line t c low.0 s.0 m l f in
      let more = owed_both z.role z.name ms [] m.ahead.names in
      let total = p.total in
      record { fine = p.fine; total = omega (arith, total, more); names_passed = p.names_passed ∙ sym (passed_both ms [] m.ahead.names) }
  each_pays line (t ∷ []) (ms ∷ ns ∷ rest) (c ∷ []) low s e m l f = absurd s.1
  each_pays line (t ∷ []) (ms ∷ rest) (c ∷ d ∷ cs) low s e m l f = absurd (omega (arith, e))
  each_pays line (t ∷ o ∷ ts) (ms ∷ rest) (c ∷ cs) low s e m l f =
      let m1 = next_reg c m in
      let m2 = each_stored line (o ∷ ts) cs m1 in
      let l2 = back z m2 _ (grows_store_register line t m.free m2) l in
      let l1 = back z m1 m2 (grows_each line (o ∷ ts) cs (all_grow z rest cs s.1) m1) l2 in
      let first = next_low z c s.0.value m l1 in
      let one = next_told z c s.0.value m l1 f in
      let others = each_pays line (o ∷ ts) rest cs low.1 s.1 (omega (arith, e)) m1 l2 one.went.fine in
      pays_then (told_then one others) (store_register_pays line t m.free (omega (arith, first)) m2 l others.fine)

  stored_pays : (line r : ℕ) (ts : List Target) → r + length ts ≤ 251 → (m : Maker) → Last z (stored_from line r ts m) → Fine z m → Pays z (targets_use z ts) [] m (stored_from line r ts m)
  stored_pays line r [] low m l f = pays_told (still z f)
  stored_pays line r (t ∷ ts) low m l f =
      let m1 = stored_from line (suc r) ts m in
      let others = stored_pays line (suc r) ts (omega (arith, low)) m (back z m1 _ (grows_store_register line t r m1) l) f in
      pays_then others (store_register_pays line t r (omega (arith, low)) m1 l others.fine)

  stores_pay : (b : Bool) (line : ℕ) (ts : List Target) (mss : List (List Mention)) (cs : List Coded) → AreLow ts → AllSpeak z mss cs → (length cs == length ts) ≡ b → 1 ≤ length ts → (m : Maker) →
      Last z (cond b (each_stored line ts cs) (assign_adjusted line ts cs) m) → Fine z m → Pays z (targets_use z ts) (joined mss) m (cond b (each_stored line ts cs) (assign_adjusted line ts cs) m)
  stores_pay true line ts mss cs low s e k m l f = each_pays line ts mss cs low s (eqb-true (length cs) (length ts) e) m l f
  stores_pay false line ts mss cs low s e k m l f =
      let m1 = adjust line cs (length ts) m in
      let l1 = back z m1 _ (grows_stored_from line m.free ts m1) l in
      let room = adjust_low z line mss cs s (length ts) k m l1 in
      let one = adjust_told z line mss cs s (length ts) m l1 f in
      let sum = pays_then (pays_told one) (stored_pays line m.free ts (omega (arith, room)) m1 l one.went.fine) in
      let total = sum.total in
      record { fine = sum.fine; total = omega (arith, total); names_passed = sum.names_passed }

  pub assign_told : (line : ℕ) (mss : List (List Mention)) (ts : List Coded) (nss : List (List Mention)) (cs : List Coded) → TargetsSpeak z mss ts → AllSpeak z nss cs → 1 ≤ length ts → (m : Maker) → Last z (assign_part line ts cs m) → Fine z m →
      Told z (joined mss ++ joined nss) m (assign_part line ts cs m)
  assign_told line mss ts nss cs s t k m l f =
      let parts = all_targets ts m in
      let m1 = parts.after in
      let count = active_count m1 in
      let places = copies line count parts.value m1 in
      let m2 = places.after in
      let l2 : Last z m2 = back z m2 _ (stores_grow (length cs == length ts) line places.value cs (all_grow z nss cs t) m2) l in
      let copied = copies_told z line count parts.value m1 in
      let grown = copies_grow line count parts.value m1 in
      let l1 : Last z m1 = back z m1 m2 grown l2 in
      let one = all_targets_owe z mss ts s m l1 f in
      let two = copied one.fine in
      let long : length places.value ≡ length ts = two.same_length ∙ all_targets_length z ts m in
      let low = two.low (all_targets_low z mss ts s m l1 f) in
      let l3 = subst (λ n. Last z (cond (length cs == n) (each_stored line places.value cs) (assign_adjusted line places.value cs) m2)) (sym long) l in
      let three = stores_pay (length cs == length places.value) line places.value nss cs low t refl (omega (arith, long, k)) m2 l3 two.told.went.fine in
      let three = subst (λ n. Pays z (targets_use z places.value) (joined nss) m2 (cond (length cs == n) (each_stored line places.value cs) (assign_adjusted line places.value cs) m2)) long three in
      let ms = joined mss in
      let ns = joined nss in
      let split = owed_both z.role z.name ms ns m.ahead.names in
      let there : m2.ahead.names ≡ passed ms m.ahead.names = two.told.names_passed ∙ one.names_passed in
      let second = ap (owed z.role z.name ns) there in
      let owed_use = two.same_use in
      let a = one.total in
      let b = two.told.went.total in
      let c = three.total in
      record {
        went = record { fine = three.fine; total = omega (arith, split, second, owed_use, a, b, c) };
        names_passed = three.names_passed ∙ ap (passed ns) there ∙ sym (passed_both ms ns m.ahead.names);
      }
