-- Lists of expressions, calls, `...` and constructors: each adds the uses of its mentions, if its parts do.
use Rattle.std.proofs.Common.{◌≡◌, ◌≤◌, ◌<◌, ℕ, zero, suc, ◌+◌, ◌-◌, ◌/◌, Bool, true, false, cond, not, List, [], ◌∷◌, ◌++◌, length, refl, sym, ap, ◌∙◌, subst, arith, true≢false}
use Rattle.std.specs.Prelude.{Option, Some, None, ◌==◌, ◌&&◌, nat_lt, nat_le}
use Rattle.std.proofs.lemmas.Bool.{leb-true, eqb-true}
use Rattle.lua_num.specs.Bytes.{Text}
use Rattle.lua_tree.specs.Syntax.{Expression, vararg_expression, constructor, Fields}
use Rattle.opcode.specs.declared.op.Op.{Op}
use Rattle.proto.specs.Chunk.{functions_of}
use Rattle.proto.specs.declared.parts.Constant.{Constant}
use Rattle.scheme.specs.Making.{◌>>◌, Maker, Part, Asks, pass_name, put, take_registers, free_from, freeing, when}
use Rattle.scheme.specs.Expressions.{Coded, Want, count_field, next_reg, operand, local_register, is_multiple, literal, rk, rk_text, single}
use Rattle.scheme.specs.Lists.{all_next, ends_open, all_multi, open_list, Given, results_at, call_at, method_at, moved, by_base, coded_call, vararg_at, coded_vararg, Entry, positional_entry, named_entry, keyed_entry, is_last, small_block, large_block, set_list, open_entry, keyed_item, pending_after, full_end, entries_from, table_at, coded_table}
use Rattle.scheme.specs.declared.making.Piece.{Piece}
use Rattle.scheme.specs.declared.making.Item.{Item}
use Rattle.scheme.specs.declared.making.Active.{Active}
use Rattle.scheme_stands.proofs.Growth.{calm, Grown}
use Rattle.scheme_stands.proofs.Parts.{Grows, AllGrow, EntriesGrow, alone, grows_next, grows_rk, grows_rk_text, grows_operand, grows_single, grows_all, grows_multi, grows_call, grows_vararg, grows_by_base, grows_set_list, grows_entries, grows_table_at, grows_when}
use Rattle.source_globals.proofs.Owed.{Mention}
use Rattle.source_globals.proofs.Pieces.{is_plain, pending, AreRead, items_use, pending_both, use_both, read_both}
use Rattle.source_globals.proofs.Tally.{End, Last, LastBy, Fine, FineBy, Told, ToldBy, WentBy, back, untake, still, both, behind, abc_went, word_went, on_abc}
use Rattle.source_globals.proofs.Values.{Value, Speaks, next_told, next_low, operand_told, rk_told, rk_text_told, test_told}
use Rattle.source_globals.proofs.Forms.{single_told}

-- the mentions of each, one behind another
abbrev pub joined : List (List Mention) → List Mention
joined [] = []
joined (ms ∷ rest) = ms ++ joined rest

abbrev pub AllSpeak : End → List (List Mention) → List Coded → Type 0
AllSpeak z [] [] = Unit {0}
AllSpeak z [] (c ∷ cs) = ⊥
AllSpeak z (ms ∷ rest) [] = ⊥
AllSpeak z (ms ∷ rest) (c ∷ cs) = Speaks z ms c × AllSpeak z rest cs

module _ (z : End) where
  -- ---- lists

  pub all_grow : (mss : List (List Mention)) (cs : List Coded) → AllSpeak z mss cs → AllGrow calm cs
  all_grow [] [] s = tt
  all_grow [] (c ∷ cs) s = absurd s
  all_grow (ms ∷ rest) [] s = tt
  all_grow (ms ∷ rest) (c ∷ cs) s = (s.0.grows, all_grow rest cs s.1)

  pub all_next_told : (mss : List (List Mention)) (cs : List Coded) → AllSpeak z mss cs → (m : Maker) → Last z (all_next cs m) → Fine z m → Told z (joined mss) m (all_next cs m)
  all_next_told [] [] s m l f = still z f
  all_next_told [] (c ∷ cs) s m l f = absurd s
  all_next_told (ms ∷ rest) [] s m l f = absurd s
  all_next_told (ms ∷ rest) (c ∷ cs) s m l f =
      let m1 = next_reg c m in
      let one = next_told z c s.0.value m (back z m1 _ (grows_all cs (all_grow rest cs s.1) m1) l) f in
      both z one (all_next_told rest cs s.1 m1 l one.went.fine)

  -- the last one gives several values by a call's word
  pub all_multi_told : (want : Want) (mss : List (List Mention)) (cs : List Coded) → AllSpeak z mss cs → ends_open cs ≡ true → (m : Maker) → Last z (all_multi Op.Call want cs m) → Fine z m → Told z (joined mss) m (all_multi Op.Call want cs m)
  all_multi_told want [] [] s o m l f = still z f
  all_multi_told want [] (c ∷ cs) s o m l f = absurd s
  all_multi_told want (ms ∷ rest) [] s o m l f = absurd s
  all_multi_told want (ms ∷ []) (c ∷ []) s o m l f = let t = s.0.multi o want m l f in both z t (still z t.went.fine)
  all_multi_told want (ms ∷ ns ∷ rest) (c ∷ []) s o m l f = absurd s.1
  all_multi_told want (ms ∷ []) (c ∷ d ∷ cs) s o m l f = absurd s.1
  all_multi_told want (ms ∷ ns ∷ rest) (c ∷ d ∷ cs) s o m l f =
      let m1 = next_reg c m in
      let one = next_told z c s.0.value m (back z m1 _ (grows_multi Op.Call want (d ∷ cs) (all_grow (ns ∷ rest) (d ∷ cs) s.1) m1) l) f in
      both z one (all_multi_told want (ns ∷ rest) (d ∷ cs) s.1 o m1 l one.went.fine)

  open_by_told : (b : Bool) (mss : List (List Mention)) (cs : List Coded) → AllSpeak z mss cs → ends_open cs ≡ b → (m : Maker) → Last z (cond b (all_multi Op.Call None cs) (all_next cs) m) → Fine z m → Told z (joined mss) m (cond b (all_multi Op.Call None cs) (all_next cs) m)
  open_by_told true mss cs s o m l f = all_multi_told None mss cs s o m l f
  open_by_told false mss cs s o m l f = all_next_told mss cs s m l f

  pub open_told : (mss : List (List Mention)) (cs : List Coded) → AllSpeak z mss cs → (m : Maker) → Last z (open_list cs m) → Fine z m → Told z (joined mss) m (open_list cs m)
  open_told mss cs s m l f = open_by_told (ends_open cs) mss cs s refl m l f

  -- ---- calls

  pub results_told : {ms : List Mention} {i1 : List Item} {f1 : _} {n1 : _} (base : ℕ) (want : Want) (n : Maker) → ToldBy z ms i1 f1 n1 n.items n.functions n.ahead.names n.active →
      ToldBy z ms i1 f1 n1 (results_at base want n).items (results_at base want n).functions (results_at base want n).ahead.names (results_at base want n).active
  results_told base None n t = t
  results_told base (Some k) n t = t

  pub results_last : (base : ℕ) (want : Want) (n : Maker) → Last z (results_at base want n) → Last z n
  results_last base None n l = untake z n _ l
  results_last base (Some k) n l = untake z n _ l

  -- what is given to a call
  pub record GivenSpeaks (ms : List Mention) (given : Given) : Type 0 where
    pub part_grows : (m : Maker) → Grown calm m (given.part m)
    pub told : (m : Maker) → Last z (given.part m) → Fine z m → Told z ms m (given.part m)

  pub call_at_told : {ms ns : List Mention} (line : ℕ) (on : Coded) (given : Given) → Speaks z ms on → GivenSpeaks ns given → (op : Op) → is_plain op ≡ true → (want : Want) (m : Maker) →
      Last z (call_at line on given op want m) → Fine z m → Told z (ms ++ ns) m (call_at line on given op want m)
  call_at_told line on given s g op e want m l f =
      let m1 = next_reg on m in
      let m2 = given.part m1 in
      let m3 = put line (Piece.Abc op m.free (count_field 1 given.count) (count_field 1 want)) m2 in
      let l2 = results_last m.free want m3 l in
      let one = next_told z on s.value m (back z m1 m2 (g.part_grows m1) l2) f in
      results_told m.free want m3 (on_abc z line op _ _ _ e (both z one (g.told m1 l2 one.went.fine)))

  pub method_at_told : {ms ns : List Mention} (line : ℕ) (on : Coded) (text : Text) (given : Given) → Speaks z ms on → GivenSpeaks ns given → (op : Op) → is_plain op ≡ true → (want : Want) (m : Maker) →
      Last z (method_at line on text given op want m) → Fine z m → Told z (ms ++ ns) m (method_at line on text given op want m)
  method_at_told line on text given s g op e want m l f =
      let x = operand on m in
      let m1 = take_registers 2 (free_from m.free x.after) in
      let y = rk_text line text m1 in
      let m2 = free_from (m.free + 2) (put line (Piece.Abc Op.Self_ m.free x.value y.value) y.after) in
      let m3 = given.part m2 in
      let m4 = put line (Piece.Abc op m.free (count_field 2 given.count) (count_field 1 want)) m3 in
      let l3 = results_last m.free want m4 l in
      let l2 = back z m2 m3 (g.part_grows m2) l3 in
      let l1 = back z m1 y.after (grows_rk_text line text m1) l2 in
      let one = operand_told z on s.value m (untake z x.after _ l1) f in
      let key = rk_text_told z line text m1 one.went.fine in
      let self = on_abc z line Op.Self_ m.free x.value y.value refl key in
      let argued = both z self (g.told m2 l3 self.went.fine) in
      results_told m.free want m4 (on_abc z line op _ _ _ e (both z one argued))

  moved_told : {ms : List Mention} {i1 : List Item} {f1 : _} {n1 : _} (b : Bool) (line base r : ℕ) (n : Maker) → ToldBy z ms i1 f1 n1 n.items n.functions n.ahead.names n.active →
      let after = when b (put line (Piece.Abc Op.Move r base 0)) n in ToldBy z ms i1 f1 n1 after.items after.functions after.ahead.names after.active
  moved_told true line base r n t = on_abc z line Op.Move r base 0 refl t
  moved_told false line base r n t = t

  unmoved : (b : Bool) (line base r : ℕ) (n : Maker) → Last z (when b (put line (Piece.Abc Op.Move r base 0)) n) → Last z n
  unmoved true line base r n l = l
  unmoved false line base r n l = l

  pub by_base_told : {ms : List Mention} (line : ℕ) (at_base : Part) → ((m : Maker) → Last z (at_base m) → Fine z m → Told z ms m (at_base m)) →
      (r : ℕ) → r ≤ 250 → (m : Maker) → Last z (by_base line at_base r m) → Fine z m → Told z ms m (by_base line at_base r m)
  by_base_told line at_base h r low m l f =
      let b = not (m.free == r) in
      moved_told b line m.free r (at_base m) (h m (unmoved b line m.free r (at_base m) l) f)

  pub call_told : {ms : List Mention} (line : ℕ) (e : Expression) (at : Op → Want → Part) → Grows calm (coded_call line e at) → literal e ≡ None →
      ((r : ℕ) (m : Maker) → local_register e m ≡ Some r → Fine z m → Told z ms m (pass_name m)) →
      ((op : Op) → is_plain op ≡ true → (want : Want) (m : Maker) → Last z (at op want m) → Fine z m → Told z ms m (at op want m)) →
      ((n : ℕ) (m : Maker) → Last z (at Op.Call (Some n) m) → m.free + n ≤ 250) →
      Speaks z ms (coded_call line e at)
  call_told {ms} line e at g none bare told low =
      let to = by_base line (at Op.Call (Some 1)) in
      let v : Value z ms (alone e to) = record {
        to_grows = g.to_reg;
        to_free = λ r m. refl;
        to_reg = by_base_told line (at Op.Call (Some 1)) (told Op.Call refl (Some 1));
        bare = bare;
        silent = λ k h. no_literal k (sym none ∙ h);
      } in
      record {
        grows = g;
        value = record { to_grows = v.to_grows; to_free = λ r m. refl; to_reg = v.to_reg; bare = bare; silent = v.silent };
        jump_if = λ truth label m l f. test_told z line (alone e to) v truth label m l f;
        spine = λ m l f. next_told z (alone e to) v m l f;
        multi = λ o want m l f. told Op.Call refl want m l f;
        multi_low = λ o n m l. low n m l;
        tail = λ o want m l f. told Op.TailCall refl want m l f;
      }
    where
      no_literal : (k : Constant) → ◌≡◌ {A = Option Constant} None (Some k) → ms ≡ []
      no_literal k h = cc

  vararg_at_told : (line : ℕ) (op : Op) → is_plain op ≡ true → (want : Want) (m : Maker) → Fine z m → Told z [] m (vararg_at line op want m)
  vararg_at_told line op e want m f = results_told m.free want (put line (Piece.Abc Op.Vararg m.free (count_field 1 want) 0) m) (on_abc z line Op.Vararg m.free (count_field 1 want) 0 refl (still z f))

  pub vararg_told : (line : ℕ) → Speaks z [] (coded_vararg line)
  vararg_told line =
      let to = λ (r : ℕ). put line (Piece.Abc Op.Vararg r 2 0) in
      let e = vararg_expression line in
      let g = grows_vararg {v = calm} line in
      let v : Value z [] (alone e to) = record { to_grows = g.to_reg; to_free = λ r m. refl; to_reg = λ r low m l f. on_abc z line Op.Vararg r 2 0 refl (still z f); bare = λ r m e f. cc; silent = λ k h. refl } in
      record {
        grows = g;
        value = record { to_grows = v.to_grows; to_free = λ r m. refl; to_reg = v.to_reg; bare = v.bare; silent = v.silent };
        jump_if = λ truth label m l f. test_told z line (alone e to) v truth label m l f;
        spine = λ m l f. next_told z (alone e to) v m l f;
        multi = λ o want m l f. vararg_at_told line Op.Call refl want m f;
        multi_low = λ o n m l. let high = l.low in omega (arith, high);
        tail = λ o want m l f. vararg_at_told line Op.TailCall refl want m f;
      }
