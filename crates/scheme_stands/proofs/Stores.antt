-- Assignments keep what is made, and stand as the relation says.
use Rattle.std.proofs.Common.{◌≡◌, ℕ, zero, suc, ◌+◌, Bool, true, false, cond, List, [], ◌∷◌, length, refl, ◌∙◌, subst, arith}
use Rattle.std.specs.Prelude.{Option, Some, None, ◌==◌}
use Rattle.lua_num.specs.Bytes.{Text}
use Rattle.lua_tree.specs.Syntax.{field_expression}
use Rattle.opcode.specs.declared.op.Op.{Op}
use Rattle.proto.specs.declared.parts.Constant.{Constant}
use Rattle.scheme.specs.Making.{Maker, take_registers, constant, Where, in_register, in_upvalue, in_globals, answer, active_count}
use Rattle.scheme.specs.Expressions.{Coded, Target, name_target, part_target, next_reg, operand, rk, coded_name, coded_field}
use Rattle.scheme.specs.Lists.{adjust}
use Rattle.scheme.specs.Statements.{set_where, store_register, store_operand, store, all_targets, clashes, copied, copies, each_stored, stored_from, assign_adjusted, assign_part, with_fields, path_from, with_method}
use Rattle.scheme.specs.declared.making.Piece.{Piece}
use Rattle.scheme_stands.specs.Expressions.{Rel, rel_name, rel_field}
use Rattle.scheme_stands.specs.Statements.{SetAt, StoreRegisterAt, StoreAt, EachStoredAt, StoredFromAt, TargetsAt, CopyBy, CopiesAt, StoresBy, AssignAt, rel_fields, rel_path, rel_method}
use Rattle.scheme_stands.proofs.Large.{constant_first}
use Rattle.scheme_stands.proofs.Growth.{calm, Grown, start, on_part, on_put, on_take, on_constant, Final, before, later, spot, fn_of, put_at, before_put, constant_at, room_at}
use Rattle.scheme_stands.proofs.Parts.{Grows, AllGrow, asks_cond, grows_cond, grows_operand, grows_rk, grows_next, grows_name, grows_field}
use Rattle.scheme_stands.proofs.Links.{Links, AllLinks, all_grow, lengths_same, one_at, rk_at, next_at, links_name, links_field}
use Rattle.scheme_stands.proofs.Lines.{grows_adjust, adjust_at}

grows_targets : (cs : List Coded) → AllGrow calm cs → (m : Maker) → Grown calm m (all_targets cs m).after
grows_targets [] g m = start m
grows_targets (c ∷ cs) g m = on_part (grows_targets cs g.1 (c.target m).after) (g.0.target m)

copy_grows : (b : Bool) (line x : ℕ) (targets : List Target) (m : Maker) → Grown calm m (cond b (copied line x targets) (answer targets) m).after
copy_grows b line x targets m = asks_cond b (copied line x targets) (answer targets) m (on_put _ _ (on_take 1 (start m))) (start m)

grows_copies : (line x : ℕ) (targets : List Target) (m : Maker) → Grown calm m (copies line x targets m).after
grows_copies line zero targets m = start m
grows_copies line (suc x) targets m = let b = copies line x targets m in on_part (copy_grows (clashes x targets) line x b.value b.after) (grows_copies line x targets m)

grows_set : (line r : ℕ) (text : Text) (w : Where) (m : Maker) → Grown calm m (set_where line r text w m)
grows_set line r text (in_register x) m = on_put _ _ (start m)
grows_set line r text (in_upvalue slot) m = on_put _ _ (start m)
grows_set line r text in_globals m = on_put _ _ (on_constant (Constant.Text text) (start m))

grows_store_register : (line : ℕ) (target : Target) (r : ℕ) (m : Maker) → Grown calm m (store_register line target r m)
grows_store_register line (name_target text w) r m = grows_set line r text w m
grows_store_register line (part_target on key on_local key_local) r m = on_put _ _ (start m)

grows_store_operand : (line : ℕ) (text : Text) (w : Where) (c : Coded) → Grows calm c → (m : Maker) → Grown calm m (store_operand line text w c m)
grows_store_operand line text w c g m = on_part (grows_set line (operand c m).value text w (operand c m).after) (grows_operand c g m)

grows_store : (line : ℕ) (target : Target) (c : Coded) → Grows calm c → (m : Maker) → Grown calm m (store line target c m)
grows_store line (name_target text (in_register x)) c g m = g.to_reg x m
grows_store line (name_target text (in_upvalue slot)) c g m = grows_store_operand line text (in_upvalue slot) c g m
grows_store line (name_target text in_globals) c g m = grows_store_operand line text in_globals c g m
grows_store line (part_target on key on_local key_local) c g m = on_put _ _ (grows_rk c g m)

grows_each : (line : ℕ) (targets : List Target) (cs : List Coded) → AllGrow calm cs → (m : Maker) → Grown calm m (each_stored line targets cs m)
grows_each line [] cs g m = start m
grows_each line (t ∷ []) [] g m = start m
grows_each line (t ∷ []) (c ∷ cs) g m = grows_store line t c g.0 m
grows_each line (t ∷ o ∷ ts) [] g m = start m
grows_each line (t ∷ o ∷ ts) (c ∷ cs) g m = on_part (grows_store_register line t m.free (each_stored line (o ∷ ts) cs (next_reg c m))) (on_part (grows_each line (o ∷ ts) cs g.1 (next_reg c m)) (grows_next c g.0 m))

grows_stored_from : (line r : ℕ) (targets : List Target) (m : Maker) → Grown calm m (stored_from line r targets m)
grows_stored_from line r [] m = start m
grows_stored_from line r (t ∷ ts) m = on_part (grows_store_register line t r (stored_from line (suc r) ts m)) (grows_stored_from line (suc r) ts m)

stores_grow : (b : Bool) (line : ℕ) (places : List Target) (values : List Coded) → AllGrow calm values → (m : Maker) → Grown calm m (cond b (each_stored line places values) (assign_adjusted line places values) m)
stores_grow b line places values h m =
    grows_cond b (each_stored line places values) (assign_adjusted line places values) m (grows_each line places values h m)
    (on_part (grows_stored_from line m.free places _) (grows_adjust calm line values h (length places) m))

pub grows_assign : (line : ℕ) (targets values : List Coded) → AllGrow calm targets → AllGrow calm values → (m : Maker) → Grown calm m (assign_part line targets values m)
grows_assign line targets values g h m =
    let parts = all_targets targets m in
    let places = copies line (active_count parts.after) parts.value parts.after in
    on_part (stores_grow (length values == length targets) line places.value values h places.after)
    (on_part (grows_copies line (active_count parts.after) parts.value parts.after) (grows_targets targets g m))

grows_fields : (line : ℕ) (on : Coded) (texts : List Text) → Grows calm on → Grows calm (with_fields line on texts)
grows_fields line on [] g = g
grows_fields line on (text ∷ texts) g = grows_fields line (coded_field line (field_expression line on.e text) on text) texts (grows_field line (field_expression line on.e text) on text refl g)

grows_path : (line : ℕ) (path : List Text) → Grows calm (path_from line path)
grows_path line [] = grows_name line []
grows_path line (text ∷ texts) = grows_fields line (coded_name line text) texts (grows_name line text)

pub grows_method : (line : ℕ) (path : List Text) (method : Option Text) → Grows calm (with_method line (path_from line path) method)
grows_method line path None = grows_path line path
grows_method line path (Some text) = grows_field line (field_expression line (path_from line path).e text) (path_from line path) text refl (grows_path line path)

-- ---- what stands

module _ (z : Maker) where
  set_at : (line r : ℕ) (text : Text) (w : Where) (m : Maker) {k : ℕ} → Final k (set_where line r text w m) z → SetAt (fn_of z) text w r (spot m) (spot (set_where line r text w m))
  set_at line r text (in_register x) m f = put_at line _ m f
  set_at line r text (in_upvalue slot) m f = put_at line _ m f
  set_at line r text in_globals m f =
      let k = constant (Constant.Text text) m in
      record { number = k.value; is = constant_at (Constant.Text text) m (before_put line (Piece.Abx Op.SetGlobal r k.value) k.after f); first = constant_first (Constant.Text text) m (before_put line (Piece.Abx Op.SetGlobal r k.value) k.after f); word = put_at line (Piece.Abx Op.SetGlobal r k.value) k.after f }

  store_register_at : (line : ℕ) (target : Target) (r : ℕ) (m : Maker) {k : ℕ} → Final k (store_register line target r m) z → StoreRegisterAt (fn_of z) target r (spot m) (spot (store_register line target r m))
  store_register_at line (name_target text w) r m f = set_at line r text w m f
  store_register_at line (part_target on key on_local key_local) r m f = put_at line _ m f

  store_at : (line : ℕ) (target : Target) (c : Coded) (e : Rel) → Grows calm c → Links z c e → (m : Maker) → Final (length m.labels) (store line target c m) z → StoreAt (fn_of z) target e m.active m.free (spot m) (spot (store line target c m))
  store_at line (name_target text (in_register x)) c e g l m f = let t = l.to in t.to_reg x m f
  store_at line (name_target text (in_upvalue slot)) c e g l m f =
      let r = (operand c m).value in
      let m1 = (operand c m).after in
      one_at z c e l.to m (SetAt (fn_of z) text (in_upvalue slot)) (spot (store line (name_target text (in_upvalue slot)) c m)) (before (grows_set line r text (in_upvalue slot) m1) f) (set_at line r text (in_upvalue slot) m1 f)
  store_at line (name_target text in_globals) c e g l m f =
      let r = (operand c m).value in
      let m1 = (operand c m).after in
      one_at z c e l.to m (SetAt (fn_of z) text in_globals) (spot (store line (name_target text in_globals) c m)) (before (grows_set line r text in_globals m1) f) (set_at line r text in_globals m1 f)
  store_at line (part_target on key on_local key_local) c e g l m f =
      let v = rk c m in
      let word = Piece.Abc Op.SetTable on key v.value in
      record { x = v.value; free1 = v.after.free; mid = spot v.after; operand_at = rk_at z c e g l.to m (before_put line word v.after f); words_at = put_at line word v.after f }

  each_at : (line : ℕ) (targets : List Target) (cs : List Coded) (es : List Rel) → AllLinks z cs es → (m : Maker) → Final (length m.labels) (each_stored line targets cs m) z → EachStoredAt (fn_of z) targets es m.active m.free (spot m) (spot (each_stored line targets cs m))
  each_at line [] cs es l m f = record { pc = refl; ahead = refl; functions = refl }
  each_at line (t ∷ []) [] [] l m f = record { pc = refl; ahead = refl; functions = refl }
  each_at line (t ∷ []) [] (e ∷ es) l m f = absurd l
  each_at line (t ∷ []) (c ∷ cs) [] l m f = absurd l
  each_at line (t ∷ []) (c ∷ cs) (e ∷ es) l m f = store_at line t c e l.1 l.0 m f
  each_at line (t ∷ o ∷ ts) [] [] l m f = record { pc = refl; ahead = refl; functions = refl }
  each_at line (t ∷ o ∷ ts) [] (e ∷ es) l m f = absurd l
  each_at line (t ∷ o ∷ ts) (c ∷ cs) [] l m f = absurd l
  each_at line (t ∷ o ∷ ts) (c ∷ cs) (e ∷ es) l m f =
      let m1 = next_reg c m in
      let m2 = each_stored line (o ∷ ts) cs m1 in
      let m3 = store_register line t m.free m2 in
      let g1 = grows_next c l.1 m in
      let g2 = grows_each line (o ∷ ts) cs (all_grow z cs es l.2) m1 in
      let f2 = before (grows_store_register line t m.free m2) f in
      let n = next_at z c e (l.0).to m (before g2 f2) in
      record {
        mid = spot m1;
        room = n.room;
        first = n.value_at;
        others = record {
          mid = spot m2;
          first_at = subst (λ a. EachStoredAt (fn_of z) (o ∷ ts) es a (m.free + 1) (spot m1) (spot m2)) g1.active
              (subst (λ x. EachStoredAt (fn_of z) (o ∷ ts) es m1.active x (spot m1) (spot m2)) n.at_free (each_at line (o ∷ ts) cs es l.2 m1 (later g1.more f2)));
          second_at = store_register_at line t m.free m2 f;
        };
      }

  stored_from_at : (line r : ℕ) (targets : List Target) (m : Maker) {k : ℕ} → Final k (stored_from line r targets m) z → StoredFromAt (fn_of z) r targets (spot m) (spot (stored_from line r targets m))
  stored_from_at line r [] m f = record { pc = refl; ahead = refl; functions = refl }
  stored_from_at line r (t ∷ ts) m f =
      let m1 = stored_from line (suc r) ts m in
      record { mid = spot m1; first_at = stored_from_at line (suc r) ts m (before (grows_store_register line t r m1) f); second_at = store_register_at line t r m1 f }

  targets_at : (cs : List Coded) (es : List Rel) → AllLinks z cs es → (m : Maker) → Final (length m.labels) (all_targets cs m).after z → TargetsAt es m.active (all_targets cs m).value m.free (all_targets cs m).after.free (spot m) (spot (all_targets cs m).after)
  targets_at [] [] l m f = record { is = refl; at_free = refl; same = record { pc = refl; ahead = refl; functions = refl } }
  targets_at [] (e ∷ es) l m f = absurd l
  targets_at (c ∷ cs) [] l m f = absurd l
  targets_at (c ∷ cs) (e ∷ es) l m f =
      let t = c.target m in
      let m1 = t.after in
      let ts = all_targets cs m1 in
      let g1 = (l.1).target m in
      let h = l.0 in
      record {
        target = t.value;
        others = ts.value;
        free1 = m1.free;
        mid = spot m1;
        is = refl;
        target_at = h.target m (before (grows_targets cs (all_grow z cs es l.2) m1) f);
        others_at = subst (λ a. TargetsAt es a ts.value m1.free ts.after.free (spot m1) (spot ts.after)) g1.active (targets_at cs es l.2 m1 (later g1.more f));
      }

  copy_at : (b : Bool) (line x : ℕ) (targets : List Target) (m : Maker) {k : ℕ} → Final k (cond b (copied line x targets) (answer targets) m).after z →
      CopyBy b (fn_of z) x targets (cond b (copied line x targets) (answer targets) m).value m.free (cond b (copied line x targets) (answer targets) m).after.free (spot m) (spot (cond b (copied line x targets) (answer targets) m).after)
  copy_at true line x targets m f =
      let m1 = take_registers 1 m in
      let word = Piece.Abc Op.Move m.free x 0 in
      let w = put_at line word m1 f in
      record { room = room_at m (before_put line word m1 f); is = refl; at_free = refl; word = record { has = w.has; near = w.near; reads = tt; next = w.next; ahead = w.ahead; functions = w.functions } }
  copy_at false line x targets m f = record { is = refl; at_free = refl; same = record { pc = refl; ahead = refl; functions = refl } }

  copies_at : (line count : ℕ) (targets : List Target) (m : Maker) {k : ℕ} → Final k (copies line count targets m).after z →
      CopiesAt (fn_of z) count targets (copies line count targets m).value m.free (copies line count targets m).after.free (spot m) (spot (copies line count targets m).after)
  copies_at line zero targets m f = record { is = refl; at_free = refl; same = record { pc = refl; ahead = refl; functions = refl } }
  copies_at line (suc x) targets m f =
      let b = copies line x targets m in
      let c = clashes x targets in
      record {
        between = b.value;
        free1 = b.after.free;
        mid = spot b.after;
        earlier_at = copies_at line x targets m (before (copy_grows c line x b.value b.after) f);
        later_at = copy_at c line x b.value b.after f;
      }

  stores_at : (b : Bool) (line : ℕ) (places : List Target) (cs : List Coded) (es : List Rel) → AllLinks z cs es → (m : Maker) → Final (length m.labels) (cond b (each_stored line places cs) (assign_adjusted line places cs) m) z →
      StoresBy b (fn_of z) places es m.active m.free (spot m) (spot (cond b (each_stored line places cs) (assign_adjusted line places cs) m))
  stores_at true line places cs es l m f = each_at line places cs es l m f
  stores_at false line places cs es l m f =
      let m1 = adjust line cs (length places) m in
      record { mid = spot m1; first_at = adjust_at z line cs es l (length places) m (before (grows_stored_from line m.free places m1) f); second_at = stored_from_at line m.free places m1 f }

  pub assign_at : (line : ℕ) (ts : List Coded) (ds : List Rel) (cs : List Coded) (es : List Rel) → AllLinks z ts ds → AllLinks z cs es → (m : Maker) → m.free ≡ length m.active → Final (length m.labels) (assign_part line ts cs m) z →
      AssignAt (fn_of z) ds es m.active (spot m) (spot (assign_part line ts cs m))
  assign_at line ts ds cs es k l m s f =
      let parts = all_targets ts m in
      let m1 = parts.after in
      let count = active_count m1 in
      let places = copies line count parts.value m1 in
      let m2 = places.after in
      let b = length cs == length ts in
      let m3 = assign_part line ts cs m in
      let g1 = grows_targets ts (all_grow z ts ds k) m in
      let g2 = grows_copies line count parts.value m1 in
      let f2 = before (stores_grow b line places.value cs (all_grow z cs es l) m2) f in
      let f1 = before g2 f2 in
      record {
        parts = parts.value;
        places = places.value;
        free1 = m1.free;
        free2 = m2.free;
        mid = spot m1;
        last = spot m2;
        targets_at = subst (λ n. TargetsAt ds m.active parts.value n m1.free (spot m) (spot m1)) s (targets_at ts ds k m f1);
        copies_at = subst (λ a. CopiesAt (fn_of z) (length a) parts.value places.value m1.free m2.free (spot m1) (spot m2)) g1.active (copies_at line count parts.value m1 f2);
        stores_at = subst (λ a. StoresBy (length es == length ds) (fn_of z) places.value es a m2.free (spot m2) (spot m3)) (g2.active ∙ g1.active)
            (subst (λ n. StoresBy (n == length ds) (fn_of z) places.value es m2.active m2.free (spot m2) (spot m3)) (lengths_same z cs es l)
            (subst (λ n. StoresBy (length cs == n) (fn_of z) places.value es m2.active m2.free (spot m2) (spot m3)) (lengths_same z ts ds k)
            (stores_at b line places.value cs es l m2 (later (omega (arith, g1.more, g2.more)) f))));
      }

  -- ---- the path of a function statement

  links_fields : (line : ℕ) (on : Coded) (d : Rel) (texts : List Text) → Grows calm on → Links z on d → Links z (with_fields line on texts) (rel_fields (fn_of z) d texts)
  links_fields line on d [] g l = l
  links_fields line on d (text ∷ texts) g l =
      let x = field_expression line on.e text in
      links_fields line (coded_field line x on text) (rel_field (fn_of z) d text) texts (grows_field line x on text refl g) (links_field z line x on d text refl g l.to)

  links_path : (line : ℕ) (path : List Text) → Links z (path_from line path) (rel_path (fn_of z) path)
  links_path line [] = links_name z line []
  links_path line (text ∷ texts) = links_fields line (coded_name line text) (rel_name (fn_of z) text) texts (grows_name line text) (links_name z line text)

  pub links_method : (line : ℕ) (path : List Text) (method : Option Text) → Links z (with_method line (path_from line path) method) (rel_method (fn_of z) (rel_path (fn_of z) path) method)
  links_method line path None = links_path line path
  links_method line path (Some text) = let l = links_path line path in links_field z line (field_expression line (path_from line path).e text) (path_from line path) (rel_path (fn_of z) path) text refl (grows_path line path) l.to
