-- Statements with no block in them: they keep what is made, and stand as the relation says.
use Rattle.std.proofs.Common.{◌≡◌, ◌<◌, ℕ, suc, ◌+◌, ◌-◌, Bool, true, false, cond, List, [], ◌∷◌, ◌++◌, length, drop, refl, sym, ap, ◌∙◌, subst, true≢false, arith, length-append}
use Rattle.std.specs.Prelude.{Some, None, nat_lt, if◌then◌else◌}
use Rattle.std.proofs.lemmas.Bool.{ltb-true}
use Rattle.lua_num.specs.Bytes.{Text}
use Rattle.lua_tree.specs.WellFormed.{is_call}
use Rattle.opcode.specs.declared.op.Op.{Op}
use Rattle.scheme.specs.Making.{starts_here, Maker, put, free_from, take_registers, declare, activate}
use Rattle.scheme.specs.Expressions.{Coded, operand, is_vararg, count_field, next_reg}
use Rattle.scheme.specs.Lists.{open_list, list_count, all_next, all_multi, ends_open, nils, filled, adjust}
use Rattle.scheme.specs.Functions.{Inner, closure}
use Rattle.scheme.specs.Statements.{local_function_part, return_part, return_list, return_call, return_operand, local_part}
use Rattle.scheme.specs.declared.making.Piece.{Piece}
use Rattle.scheme.specs.declared.making.Local.{Local}
use Rattle.scheme.specs.declared.making.Active.{Active}
use Rattle.scheme_stands.specs.Words.{Law, WordAt}
use Rattle.scheme_stands.specs.Expressions.{OneAt, OperandAt, Rel}
use Rattle.scheme_stands.specs.Lists.{NilsAt, FilledAt, AdjustBy, AdjustAt, OpenListAt, rels_open, rels_count}
use Rattle.scheme_stands.specs.Functions.{FunctionRel, ClosureAt, Declared, Activated}
use Rattle.scheme_stands.specs.Statements.{LocalFunctionAt, ListReturnAt, ReturnBy, ReturnAt, LocalPartAt}
use Rattle.scheme_stands.proofs.Growth.{room_at, kept_end, Mode, calm, loose, Grown, start, on_part, on_put, on_take, on_free, Final, before, later, spot, fn_of, put_at, before_put, before_take, before_free}
use Rattle.scheme_stands.proofs.Parts.{grows_closure, Grows, AllGrow, grows_cond, grows_operand, grows_open, grows_all, grows_multi}
use Rattle.scheme_stands.proofs.Functions.{Made, closure_at}
use Rattle.scheme_stands.proofs.Links.{Links, AllLinks, all_grow, count_same, open_list_at, all_next_at, all_multi_at, opens_same, lengths_same, one_at}

-- ---- return

grows_return_by : (call several : Bool) (line : ℕ) (c : Coded) → Grows calm c → (m : Maker) → Grown calm m ((if call then return_call line c else (if several then return_list line (c ∷ []) else return_operand line c)) m)
grows_return_by true several line c g m = on_put _ _ (g.multi Op.TailCall None m)
grows_return_by false true line c g m = on_put _ _ (grows_open (c ∷ []) (g, tt) m)
grows_return_by false false line c g m = on_put _ _ (grows_operand c g m)

pub grows_return : (line : ℕ) (cs : List Coded) → AllGrow calm cs → (m : Maker) → Grown calm m (return_part line cs m)
grows_return line [] g m = on_put _ _ (start m)
grows_return line (c ∷ []) g m = grows_return_by (is_call c.e) (is_vararg c.e) line c g.0 m
grows_return line (c ∷ d ∷ cs) g m = on_put _ _ (grows_open (c ∷ d ∷ cs) g m)

-- ---- declarations

pub grows_declare : (v : Mode) (texts : List Text) (m : Maker) → Grown v m (declare texts m).after
grows_declare v [] m = start m
grows_declare v (text ∷ texts) m =
    let n : Maker = record m { ahead = record (m.ahead) { captures = drop 1 m.ahead.captures; declarations = suc m.ahead.declarations } } in
    let s : Grown v m n = let k : Grown v m m = start m in record { items = k.items; constants = k.constants; functions = k.functions; labels = k.labels; more = k.more; high = k.high; fine = k.fine; upvalues = k.upvalues; active = k.active } in
    on_part (grows_declare v texts n) s

pub grows_activate : (locals : List Local) (m : Maker) → Grown loose m (activate locals m)
grows_activate [] m = start m
grows_activate (one ∷ locals) m =
    let more : Active = record { local = one; listed = length m.locals } in
    let n : Maker = record m { active = m.active ++ more ∷ []; locals = m.locals ++ record { name = one.name; start = length m.items; end = length m.items } ∷ [] } in
    let s : Grown loose m n = record { items = λ i x e. e; constants = λ i x e. e; functions = λ i x e. e; labels = λ i l. refl; more = omega arith; high = omega arith; fine = λ e. e; upvalues = refl; active = kept_end m.active (more ∷ []) } in
    on_part (grows_activate locals n) s

grows_filled : (v : Mode) (line : ℕ) (cs : List Coded) → AllGrow v cs → (missing : ℕ) (m : Maker) → Grown v m (filled line cs missing m)
grows_filled v line cs g missing m = grows_cond (ends_open cs) (all_multi Op.Call (Some (missing + 1)) cs) (λ m. nils line missing (all_next cs m)) m (grows_multi Op.Call (Some (missing + 1)) cs g m) (on_put _ _ (on_take missing (grows_all cs g m)))

pub grows_adjust : (v : Mode) (line : ℕ) (cs : List Coded) → AllGrow v cs → (n : ℕ) (m : Maker) → Grown v m (adjust line cs n m)
grows_adjust v line cs g n m = grows_cond (nat_lt (length cs) n) (filled line cs (n - length cs)) (λ k. free_from (m.free + n) (all_next cs k)) m (grows_filled v line cs g (n - length cs) m) (on_free (m.free + n) (grows_all cs g m))

pub grows_local : (line : ℕ) (names : List Text) (cs : List Coded) → AllGrow loose cs → (m : Maker) → Grown loose m (local_part line names cs m)
grows_local line names cs g m = on_part (grows_activate (declare names m).value _) (on_part (grows_adjust loose line cs g (length names) _) (grows_declare loose names m))

starts_step : {v : Mode} (listed : ℕ) (m : Maker) → Grown v m (starts_here listed m)
starts_step listed m = let k = start m in record { items = k.items; constants = k.constants; functions = k.functions; labels = k.labels; more = k.more; high = k.high; fine = k.fine; upvalues = k.upvalues; active = k.active }

pub grows_local_function : (line : ℕ) (text : Text) (made : Inner) (m : Maker) → Grown loose m (local_function_part line text made m)
grows_local_function line text made m =
    let d = declare (text ∷ []) m in
    let m2 = take_registers 1 d.after in
    on_part (starts_step (length d.after.locals) _) (on_part (grows_closure line made d.after.free _) (on_part (grows_activate d.value m2) (on_take 1 (grows_declare loose (text ∷ []) m))))

pub declare_active : (texts : List Text) (m : Maker) → (declare texts m).after.active ≡ m.active
declare_active [] m = refl
declare_active (text ∷ texts) m = declare_active texts _

pub declare_items : (texts : List Text) (m : Maker) → (declare texts m).after.items ≡ m.items
declare_items [] m = refl
declare_items (text ∷ texts) m = declare_items texts _

pub declare_functions : (texts : List Text) (m : Maker) → (declare texts m).after.functions ≡ m.functions
declare_functions [] m = refl
declare_functions (text ∷ texts) m = declare_functions texts _

pub declare_free : (texts : List Text) (m : Maker) → (declare texts m).after.free ≡ m.free
declare_free [] m = refl
declare_free (text ∷ texts) m = declare_free texts _

pub declared : (texts : List Text) (m : Maker) → Declared texts m.ahead (declare texts m).value (declare texts m).after.ahead
declared [] m = (refl, refl)
declared (text ∷ texts) m =
    let n : Maker = record m { ahead = record (m.ahead) { captures = drop 1 m.ahead.captures; declarations = suc m.ahead.declarations } } in
    ((declare texts n).value, refl, declared texts n)

pub activated : (locals : List Local) (m : Maker) → Activated locals m.active (activate locals m).active
activated [] m = refl
activated (one ∷ locals) m =
    let more : Active = record { local = one; listed = length m.locals } in
    let n : Maker = record m { active = m.active ++ more ∷ []; locals = m.locals ++ record { name = one.name; start = length m.items; end = length m.items } ∷ [] } in
    (more, refl, activated locals n)

pub activate_spot : (locals : List Local) (m : Maker) → spot (activate locals m) ≡ spot m
activate_spot [] m = refl
activate_spot (one ∷ locals) m = activate_spot locals _

pub all_next_free : (cs : List Coded) → AllGrow calm cs → (m : Maker) → (all_next cs m).free ≡ m.free + length cs
all_next_free [] g m = omega arith
all_next_free (c ∷ cs) g m = let h = all_next_free cs g.1 (next_reg c m) in let k = g.0.to_free m.free m in omega (arith, h, k)

pub activate_free : (locals : List Local) (m : Maker) → (activate locals m).free ≡ m.free
activate_free [] m = refl
activate_free (one ∷ locals) m = activate_free locals _

pub activate_length : (locals : List Local) (m : Maker) → length (activate locals m).active ≡ length m.active + length locals
activate_length [] m = omega arith
activate_length (one ∷ locals) m =
    let more : Active = record { local = one; listed = length m.locals } in
    let h = activate_length locals (record m { active = m.active ++ more ∷ []; locals = m.locals ++ record { name = one.name; start = length m.items; end = length m.items } ∷ [] }) in
    omega (arith, h, length-append m.active (more ∷ []))

pub declare_length : (texts : List Text) (m : Maker) → length (declare texts m).value ≡ length texts
declare_length [] m = refl
declare_length (text ∷ texts) m = ap suc (declare_length texts _)

-- a list whose last value gives k values
multi_free : (op : Op) (k : ℕ) (cs : List Coded) → AllGrow calm cs → ends_open cs ≡ true → (m : Maker) → suc (all_multi op (Some k) cs m).free ≡ m.free + length cs + k
multi_free op k [] g o m = absurd (true≢false (sym o))
multi_free op k (c ∷ []) g o m = let h = g.0.multi_free o op k m in omega (arith, h)
multi_free op k (c ∷ d ∷ cs) g o m =
    let h = multi_free op k (d ∷ cs) g.1 o (next_reg c m) in
    let f = g.0.to_free m.free m in
    omega (arith, h, f)

filled_free : (b : Bool) (line : ℕ) (cs : List Coded) → AllGrow calm cs → ends_open cs ≡ b → (missing : ℕ) (m : Maker) →
    (cond b (all_multi Op.Call (Some (missing + 1)) cs) (λ m. nils line missing (all_next cs m)) m).free ≡ m.free + length cs + missing
filled_free true line cs g o missing m = let h = multi_free Op.Call (missing + 1) cs g o m in omega (arith, h)
filled_free false line cs g o missing m = ap (λ n. n + missing) (all_next_free cs g m)

adjust_by_free : (b : Bool) (line : ℕ) (cs : List Coded) → AllGrow calm cs → (n : ℕ) → nat_lt (length cs) n ≡ b → (m : Maker) →
    (cond b (filled line cs (n - length cs)) (λ k. free_from (m.free + n) (all_next cs k)) m).free ≡ m.free + n
adjust_by_free true line cs g n l m =
    let h = filled_free (ends_open cs) line cs g refl (n - length cs) m in
    let less = ltb-true (length cs) n l in
    omega (arith, h, less)
adjust_by_free false line cs g n l m = refl

pub adjust_free : (line : ℕ) (cs : List Coded) → AllGrow calm cs → (n : ℕ) (m : Maker) → (adjust line cs n m).free ≡ m.free + n
adjust_free line cs g n m = adjust_by_free (nat_lt (length cs) n) line cs g n refl m

module _ (z : Maker) where
  return_list_at : (line : ℕ) (cs : List Coded) (es : List Rel) → AllLinks z cs es → (m : Maker) → m.free ≡ length m.active → Final (length m.labels) (return_list line cs m) z → ListReturnAt (fn_of z) es m.active (spot m) (spot (return_list line cs m))
  return_list_at line cs es l m s f =
      let m1 = open_list cs m in
      let word = Piece.Abc Op.Return m.free (count_field 1 (list_count cs)) 0 in
      record {
        mid = spot m1;
        first_at = subst (λ n. OpenListAt (fn_of z) es m.active n (spot m) (spot m1)) s (open_list_at z cs es l m (before_put line word m1 f));
        second_at = subst (λ n. WordAt (fn_of z) (Piece.Abc Op.Return n (count_field 1 (rels_count es)) 0) (spot m1) (spot (return_list line cs m))) s
            (subst (λ c. WordAt (fn_of z) (Piece.Abc Op.Return m.free (count_field 1 c) 0) (spot m1) (spot (return_list line cs m))) (count_same z cs es l) (put_at line word m1 f));
      }

  return_by_at : (call several : Bool) (line : ℕ) (c : Coded) (e : Rel) → Links z c e → Grows calm c → (m : Maker) → m.free ≡ length m.active →
      Final (length m.labels) ((if call then return_call line c else (if several then return_list line (c ∷ []) else return_operand line c)) m) z →
      ReturnBy call several (fn_of z) e m.active (spot m) (spot ((if call then return_call line c else (if several then return_list line (c ∷ []) else return_operand line c)) m))
  return_by_at true several line c e l g m s f =
      let m1 = c.multi Op.TailCall None m in
      let word = Piece.Abc Op.Return m.free 0 0 in
      record {
        mid = spot m1;
        first_at = subst (λ n. e.multi m.active n Op.TailCall None (spot m) (spot m1)) s (l.multi Op.TailCall None m (before_put line word m1 f));
        second_at = subst (λ n. WordAt (fn_of z) (Piece.Abc Op.Return n 0 0) (spot m1) (spot (put line word m1))) s (put_at line word m1 f);
      }
  return_by_at false true line c e l g m s f = return_list_at line (c ∷ []) (e ∷ []) (l, g, tt) m s f
  return_by_at false false line c e l g m s f =
      let m1 = (operand c m).after in
      let word = Piece.Abc Op.Return (operand c m).value 2 0 in
      subst (λ n. OneAt (OperandAt (fn_of z) m.active e) n (λ x. WordAt (fn_of z) (Piece.Abc Op.Return x 2 0)) (spot m) (spot (put line word m1))) s
      (one_at z c e l.to m _ _ (before_put line word m1 f) (put_at line word m1 f))

  pub return_at : (line : ℕ) (cs : List Coded) (es : List Rel) → AllLinks z cs es → (m : Maker) → m.free ≡ length m.active → Final (length m.labels) (return_part line cs m) z → ReturnAt (fn_of z) es m.active (spot m) (spot (return_part line cs m))
  return_at line [] [] l m s f = put_at line _ m f
  return_at line [] (e ∷ es) l m s f = absurd l
  return_at line (c ∷ cs) [] l m s f = absurd l
  return_at line (c ∷ []) (e ∷ []) l m s f =
      let a = l.0 in
      subst (λ x. ReturnBy x.call x.dots (fn_of z) e m.active (spot m) (spot (return_part line (c ∷ []) m))) a.to.is_form (return_by_at (is_call c.e) (is_vararg c.e) line c e l.0 l.1 m s f)
  return_at line (c ∷ []) (e ∷ d ∷ es) l m s f = absurd l.2
  return_at line (c ∷ b ∷ cs) (e ∷ []) l m s f = absurd l.2
  return_at line (c ∷ b ∷ cs) (e ∷ d ∷ es) l m s f = return_list_at line (c ∷ b ∷ cs) (e ∷ d ∷ es) l m s f

  -- ---- so many values

  nils_at : (line n : ℕ) (m : Maker) {k : ℕ} → Final k (nils line n m) z → NilsAt (fn_of z) m.free n (spot m) (spot (nils line n m))
  nils_at line n m f =
      let word = Piece.Abc Op.LoadNil m.free (m.free + n - 1) 0 in
      let h = before_put line word (take_registers n m) f in
      let high = h.high in
      record { room = omega (arith, high); word = put_at line word (take_registers n m) f }

  filled_by_at : (b : Bool) (line : ℕ) (cs : List Coded) (es : List Rel) → AllLinks z cs es → (missing : ℕ) (m : Maker) →
      Final (length m.labels) (cond b (all_multi Op.Call (Some (missing + 1)) cs) (λ m. nils line missing (all_next cs m)) m) z →
      FilledAt b (fn_of z) es missing m.active m.free (spot m) (spot (cond b (all_multi Op.Call (Some (missing + 1)) cs) (λ m. nils line missing (all_next cs m)) m))
  filled_by_at true line cs es l missing m f = all_multi_at z Op.Call (Some (missing + 1)) cs es l m f
  filled_by_at false line cs es l missing m f =
      let m1 = all_next cs m in
      let n = nils line missing m1 in
      let word = Piece.Abc Op.LoadNil m1.free (m1.free + missing - 1) 0 in
      let g = all_grow z cs es l in
      let f1 = before_take missing m1 (before_put line word (take_registers missing m1) f) in
      record {
        mid = spot m1;
        first_at = all_next_at z cs es l m f1;
        second_at = subst (λ k. NilsAt (fn_of z) (m.free + k) missing (spot m1) (spot n)) (lengths_same z cs es l)
            (subst (λ x. NilsAt (fn_of z) x missing (spot m1) (spot n)) (all_next_free cs g m) (nils_at line missing m1 f));
      }

  adjust_by_at : (b : Bool) (line : ℕ) (cs : List Coded) (es : List Rel) → AllLinks z cs es → (n : ℕ) (m : Maker) →
      Final (length m.labels) (cond b (filled line cs (n - length cs)) (λ k. free_from (m.free + n) (all_next cs k)) m) z →
      AdjustBy b (fn_of z) es n m.active m.free (spot m) (spot (cond b (filled line cs (n - length cs)) (λ k. free_from (m.free + n) (all_next cs k)) m))
  adjust_by_at true line cs es l n m f =
      subst (λ k. FilledAt (rels_open es) (fn_of z) es (n - k) m.active m.free (spot m) (spot (filled line cs (n - length cs) m))) (lengths_same z cs es l)
      (subst (λ b. FilledAt b (fn_of z) es (n - length cs) m.active m.free (spot m) (spot (filled line cs (n - length cs) m))) (opens_same z cs es l)
      (filled_by_at (ends_open cs) line cs es l (n - length cs) m f))
  adjust_by_at false line cs es l n m f = all_next_at z cs es l m (before_free (m.free + n) (all_next cs m) f)

  pub adjust_at : (line : ℕ) (cs : List Coded) (es : List Rel) → AllLinks z cs es → (n : ℕ) (m : Maker) → Final (length m.labels) (adjust line cs n m) z → AdjustAt (fn_of z) es n m.active m.free (spot m) (spot (adjust line cs n m))
  adjust_at line cs es l n m f =
      subst (λ k. AdjustBy (nat_lt k n) (fn_of z) es n m.active m.free (spot m) (spot (adjust line cs n m))) (lengths_same z cs es l) (adjust_by_at (nat_lt (length cs) n) line cs es l n m f)

  pub local_at : (line : ℕ) (names : List Text) (cs : List Coded) (es : List Rel) → AllLinks z cs es → (m : Maker) → m.free ≡ length m.active → Final (length m.labels) (local_part line names cs m) z →
      LocalPartAt (fn_of z) names es m.active (local_part line names cs m).active (spot m) (spot (local_part line names cs m))
  local_at line names cs es l m s f =
      let d = declare names m in
      let m1 = d.after in
      let n = length names in
      let m2 = adjust line cs n m1 in
      let g0 = grows_declare calm names m in
      let g1 = grows_adjust calm line cs (all_grow z cs es l) n m1 in
      let f2 = before (grows_activate d.value m2) f in
      record {
        locals = d.value;
        mid = spot m1;
        same = ap length (declare_items names m);
        as_many = ap length (declare_functions names m);
        declared = declared names m;
        values_at = subst (λ q. AdjustAt (fn_of z) es n m.active (length m.active) (spot m1) q) (sym (activate_spot d.value m2))
            (subst (λ x. AdjustAt (fn_of z) es n m.active x (spot m1) (spot m2)) (declare_free names m ∙ s)
            (subst (λ a. AdjustAt (fn_of z) es n a m1.free (spot m1) (spot m2)) (declare_active names m) (adjust_at line cs es l n m1 (later g0.more f2))));
        activated = subst (λ a. Activated d.value a (activate d.value m2).active) (g1.active ∙ declare_active names m) (activated d.value m2);
      }

  -- ---- local functions

  pub local_function_at : (line : ℕ) (text : Text) (made : Inner) (rel : Law → FunctionRel) → Made made (rel None) → (m : Maker) → m.free ≡ length m.active → Final (length m.labels) (local_function_part line text made m) z →
      LocalFunctionAt (fn_of z) text rel m.active (local_function_part line text made m).active (spot m) (spot (local_function_part line text made m))
  local_function_at line text made rel h m s f =
      let d = declare (text ∷ []) m in
      let m1 = d.after in
      let m2 = take_registers 1 m1 in
      let m3 = activate d.value m2 in
      let m4 = closure line made m1.free m3 in
      let g4 : Grown calm m3 m4 = grows_closure line made m1.free m3 in
      let f4 = before (starts_step {v = calm} (length m1.locals) m4) f in
      let f3 = before g4 f4 in
      let f2 = before (grows_activate d.value m2) f3 in
      let c = closure_at z line made rel h (length m.active + 1) m1.free m3 f4 in
      record {
        locals = d.value;
        mid = spot m1;
        same = refl;
        as_many = refl;
        declared = declared (text ∷ []) m;
        activated = subst (λ a. Activated d.value m.active a) (sym g4.active) (activated d.value m2);
        room = subst (λ n. n < (fn_of z).size) s (room_at m1 f2);
        closure_at = subst (λ x. ClosureAt (fn_of z) rel m4.active (length m.active + 1) (length m.active) x (spot m4)) (activate_spot d.value m2)
            (subst (λ r. ClosureAt (fn_of z) rel m4.active (length m.active + 1) r (spot m3) (spot m4)) s
            (subst (λ a. ClosureAt (fn_of z) rel a (length m.active + 1) m1.free (spot m3) (spot m4)) (sym g4.active) c));
      }
