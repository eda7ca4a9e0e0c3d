-- Statements without loops: each adds the uses of its mentions, if its parts do.
use Rattle.std.proofs.Common.{◌≡◌, ◌≤◌, ℕ, zero, suc, ◌+◌, Bool, true, false, cond, List, [], ◌∷◌, ◌++◌, length, take, refl, sym, ap, ◌∙◌, subst, arith}
use Rattle.std.specs.Prelude.{Option, Some, None, ◌||◌, if◌then◌else◌}
use Rattle.lua_num.specs.Bytes.{Text}
use Rattle.lua_tree.specs.Scoping.{Use}
use Rattle.lua_tree.specs.WellFormed.{is_call}
use Rattle.opcode.specs.declared.op.Op.{Op}
use Rattle.proto.specs.Chunk.{Chunk, functions_of}
use Rattle.scheme.specs.Making.{Maker, Part, put, new_label, jump_to, declare, activate, starts_here, take_registers, captured_from, end_locals, when}
use Rattle.scheme.specs.Expressions.{Coded, count_field, operand, is_vararg, is_multiple}
use Rattle.scheme.specs.Lists.{open_list, list_count, adjust}
use Rattle.scheme.specs.Functions.{Inner, closure}
use Rattle.scheme.specs.Statements.{Loop, close_from, end_block, block_part, arm_part, break_part, return_operand, return_call, return_list, return_part, local_part, local_function_part}
use Rattle.scheme.specs.declared.making.Piece.{Piece}
use Rattle.scheme.specs.declared.making.Item.{Item}
use Rattle.scheme.specs.declared.making.Local.{Local}
use Rattle.scheme.specs.declared.making.Active.{Active}
use Rattle.scheme_stands.proofs.Growth.{Kept, calm, loose, Grown, start, on_part, on_new}
use Rattle.scheme_stands.proofs.Parts.{Grows, AllGrow, grows_closure}
use Rattle.scheme_stands.proofs.Lines.{grows_adjust, grows_activate, grows_declare, declare_active, declare_items, declare_free, declare_length, activate_free, activate_length, adjust_free}
use Rattle.scheme_stands.proofs.Blocks.{Settled, settled_on, GrowsWell, block_grows}
use Rattle.global_use.specs.Uses.{uses_of}
use Rattle.source_globals.proofs.Owed.{Mention}
use Rattle.source_globals.proofs.Pieces.{AreRead, pending, items_use, does}
use Rattle.source_globals.proofs.Tally.{End, Last, LastBy, Fine, FineBy, Told, ToldBy, WentBy, back, untake, still, both, quiet, behind, on_abc, on_jump}
use Rattle.source_globals.proofs.Values.{Speaks, operand_told}
use Rattle.source_globals.proofs.Calls.{joined, AllSpeak, all_grow, open_told}
use Rattle.source_globals.proofs.Closures.{InnerSpeaks, closure_told}
use Rattle.source_globals.proofs.Adjusting.{adjust_told, adjust_low}

-- a statement where F is the number of active locals
abbrev pub PartSpeaks : End → List Mention → Part → Type 0
PartSpeaks z ms part = (m : Maker) → Settled m → Last z (part m) → Fine z m → Told z ms m (part m)

take_low : {A : Type 0} (n : ℕ) (xs : List A) → length (take n xs) ≤ length xs
take_low zero xs = omega arith
take_low (suc n) [] = omega arith
take_low (suc n) (x ∷ xs) = let l = take_low n xs in omega (arith, l)

declare_same : (texts : List Text) (m : Maker) →
    ((declare texts m).after.functions ≡ m.functions) × ((declare texts m).after.ahead.names ≡ m.ahead.names) × ((declare texts m).after.constants ≡ m.constants) × ((declare texts m).after.high ≡ m.high) × ((declare texts m).after.misfits ≡ m.misfits)
declare_same [] m = (refl, refl, refl, refl, refl)
declare_same (text ∷ texts) m = declare_same texts _

activate_same : (locals : List Local) (m : Maker) →
    ((activate locals m).items ≡ m.items) × ((activate locals m).functions ≡ m.functions) × ((activate locals m).ahead.names ≡ m.ahead.names) × ((activate locals m).constants ≡ m.constants) × ((activate locals m).high ≡ m.high) × ((activate locals m).misfits ≡ m.misfits)
activate_same [] m = (refl, refl, refl, refl, refl, refl)
activate_same (one ∷ locals) m = activate_same locals _

module _ (z : End) where
  -- behind a step with the same words, functions and names
  pub restart : {ms : List Mention} {i : List Item} {f : List Chunk} {n : List Use} {i1 i2 : List Item} {f1 f2 : List Chunk} {n1 n2 : List Use} {a2 : List Active} →
      i1 ≡ i → f1 ≡ f → n1 ≡ n → ToldBy z ms i1 f1 n1 i2 f2 n2 a2 → ToldBy z ms i f n i2 f2 n2 a2
  restart {ms} {i} {f} {n} {i1} {i2} {f1} {f2} {n1} {n2} {a2} a b c t =
      subst (λ n. ToldBy z ms i f n i2 f2 n2 a2) c (subst (λ f. ToldBy z ms i f n1 i2 f2 n2 a2) b (subst (λ i. ToldBy z ms i f1 n1 i2 f2 n2 a2) a t))

  -- ---- declarations

  pub declared_told : (texts : List Text) (m : Maker) → Fine z m → Told z [] m (declare texts m).after
  declared_told texts m f =
      let s = declare_same texts m in
      restart (declare_items texts m) s.0 s.1 (still z (record {
        read = subst (λ i. AreRead (functions_of z.functions) 0 i) (sym (declare_items texts m)) f.read;
        even = ap (pending (functions_of z.functions) 0) (declare_items texts m) ∙ f.even;
        room = subst (λ a. length a ≤ 250) (sym (declare_active texts m)) f.room;
      }))

  pub declared_fine : (texts : List Text) (m : Maker) → Fine z m → Fine z (declare texts m).after
  declared_fine texts m f = (declared_told texts m f).went.fine

  -- locals become active, for which there is room
  pub activated_told : {ms : List Mention} {i1 : List Item} {f1 : List Chunk} {n1 : List Use} (locals : List Local) (m : Maker) → length m.active + length locals ≤ 250 →
      ToldBy z ms i1 f1 n1 m.items m.functions m.ahead.names m.active → let n = activate locals m in ToldBy z ms i1 f1 n1 n.items n.functions n.ahead.names n.active
  activated_told locals m low t =
      let s = activate_same locals m in
      let f = t.went.fine in
      let as_long = activate_length locals m in
      let total = t.went.total in
      let same = ap (λ i. items_use z.role z.name z.constants (functions_of z.functions) 0 i) s.0 in
      let functions = ap (λ f. uses_of (does z.role) z.name (functions_of f)) s.1 in
      record {
        went = record {
          fine = record {
            read = subst (λ i. AreRead (functions_of z.functions) 0 i) (sym s.0) f.read;
            even = ap (pending (functions_of z.functions) 0) s.0 ∙ f.even;
            room = omega (arith, as_long, low);
          };
          total = omega (arith, total, same, functions);
        };
        names_passed = s.2 ∙ t.names_passed;
      }

  pub activated_last : (locals : List Local) (m : Maker) → Last z (activate locals m) → Last z m
  activated_last locals m l =
      let s = activate_same locals m in
      record {
        constants_kept = subst (λ c. Kept c z.constants) s.3 l.constants_kept;
        functions_kept = subst (λ c. Kept c z.functions) s.1 l.functions_kept;
        low = let low = l.low in omega (arith, low, s.4);
        none = sym s.5 ∙ l.none;
      }

  pub local_told : (line : ℕ) (names : List Text) (mss : List (List Mention)) (cs : List Coded) → AllSpeak z mss cs → PartSpeaks z (joined mss) (local_part line names cs)
  local_told line names mss cs s m settled l f =
      let d = declare names m in
      let n = length names in
      let m2 = adjust line cs n d.after in
      let l2 = activated_last d.value m2 l in
      let one = both z (declared_told names m f) (adjust_told z line mss cs s n d.after l2 (declared_fine names m f)) in
      activated_told d.value m2 (room names n refl l2 one.went.fine) one
    where
      room : (names : List Text) (n : ℕ) → length names ≡ n → let d = declare names m in let m2 = adjust line cs n d.after in Last z m2 → Fine z m2 → length m2.active + length d.value ≤ 250
      room [] n e l f = let r = f.room in omega (arith, r)
      room (name ∷ names) n e l f =
          let d = declare (name ∷ names) m in
          let low = adjust_low z line mss cs s n (omega (arith, e)) d.after l in
          let g = grows_adjust calm line cs (all_grow z mss cs s) n d.after in
          let a = ap length g.active in
          let b = ap length (declare_active (name ∷ names) m) in
          let c = declare_free (name ∷ names) m in
          let k = declare_length (name ∷ names) m in
          omega (arith, low, a, b, c, k, settled, e)

  pub local_function_told : {ms : List Mention} (line : ℕ) (text : Text) (inner : Inner) → InnerSpeaks z ms inner → PartSpeaks z ms (local_function_part line text inner)
  local_function_told line text inner s m settled l f =
      let d = declare (text ∷ []) m in
      let m2 = take_registers 1 d.after in
      let m3 = activate d.value m2 in
      let l3 = back z m3 (closure line inner d.after.free m3) (grows_closure line inner d.after.free m3) l in
      let l2 = activated_last d.value m2 l3 in
      let high = l2.low in
      let one = activated_told d.value m2 (omega (arith, high, settled)) (declared_told (text ∷ []) m f) in
      both z one (closure_told z line inner s d.after.free (omega (arith, high)) m3 l one.went.fine)

  -- ---- blocks

  pub closed_told : {ms : List Mention} {i1 : List Item} {f1 : List Chunk} {n1 : List Use} (b : Bool) (line r : ℕ) (m : Maker) → ToldBy z ms i1 f1 n1 m.items m.functions m.ahead.names m.active →
      let n = when b (close_from line r) m in ToldBy z ms i1 f1 n1 n.items n.functions n.ahead.names n.active
  closed_told true line r m t = on_abc z line Op.Close r 0 0 refl t
  closed_told false line r m t = t

  pub unclosed : (b : Bool) (line r : ℕ) (m : Maker) → Last z (when b (close_from line r) m) → Last z m
  unclosed true line r m l = l
  unclosed false line r m l = l

  pub ended_told : {ms : List Mention} {i1 i2 : List Item} {f1 f2 : List Chunk} {n1 n2 : List Use} {a2 : List Active} (n : ℕ) → ToldBy z ms i1 f1 n1 i2 f2 n2 a2 → ToldBy z ms i1 f1 n1 i2 f2 n2 (take n a2)
  ended_told {a2 = a2} n t =
      let f = t.went.fine in
      record { went = record { fine = record { read = f.read; even = f.even; room = let room = f.room in let low = take_low n a2 in omega (arith, room, low) }; total = t.went.total }; names_passed = t.names_passed }

  pub end_block_told : {ms : List Mention} {i1 : List Item} {f1 : List Chunk} {n1 : List Use} (line n : ℕ) (m : Maker) → ToldBy z ms i1 f1 n1 m.items m.functions m.ahead.names m.active →
      let o = end_block line n m in ToldBy z ms i1 f1 n1 o.items o.functions o.ahead.names o.active
  end_block_told line n m t = closed_told (captured_from n m) line n (end_locals n m) (ended_told n t)

  pub end_block_last : (line n : ℕ) (m : Maker) → Last z (end_block line n m) → Last z m
  end_block_last line n m l = unclosed (captured_from n m) line n (end_locals n m) l

  pub block_told : {ms : List Mention} (line : ℕ) (body : Part) → PartSpeaks z ms body → PartSpeaks z ms (block_part line body)
  block_told line body s m settled l f =
      let n = length m.active in
      end_block_told line n (body m) (s m settled (end_block_last line n (body m) l) f)

  -- ---- branches

  jumped_told : {ms : List Mention} {i1 : List Item} {f1 : List Chunk} {n1 : List Use} (b : Bool) (line label : ℕ) (m : Maker) → ToldBy z ms i1 f1 n1 m.items m.functions m.ahead.names m.active →
      let n = when b (jump_to line label) m in ToldBy z ms i1 f1 n1 n.items n.functions n.ahead.names n.active
  jumped_told true line label m t = on_jump z line Op.Jmp 0 label refl t
  jumped_told false line label m t = t

  unjumped : (b : Bool) (line label : ℕ) (m : Maker) → Last z (when b (jump_to line label) m) → Last z m
  unjumped true line label m l = l
  unjumped false line label m l = l

  pub arm_told : {ms ns : List Mention} (line end : ℕ) (more : Bool) (test : Coded) (body : Part) → Speaks z ms test → GrowsWell body → PartSpeaks z ns body → PartSpeaks z (ms ++ ns) (arm_part line end more test body)
  arm_told line end more test body s h t m settled l f =
      let next = length m.labels in
      let ma = (new_label m).after in
      let mb = test.jump_if false next ma in
      let mc = block_part line body mb in
      let gb : Grown calm m mb = on_part (s.grows.jump_if false next ma) (on_new (start m)) in
      let sb = settled_on settled (s.grows.jump_free false next ma) gb in
      let lc = unjumped more line end mc l in
      let lb = back z mb mc (block_grows line body mb (h mb sb)) lc in
      let one = s.jump_if false next ma lb f in
      jumped_told more line end mc (both z one (block_told line body t mb sb lc one.went.fine))

  pub break_told : (line : ℕ) (loop : Option Loop) (m : Maker) → Fine z m → Told z [] m (break_part line loop m)
  break_told line None m f = still z f
  break_told line (Some loop) m f = on_jump z line Op.Jmp 0 loop.exit refl (closed_told (captured_from loop.before m) line loop.before m (still z f))

  -- ---- return

  return_list_told : (line : ℕ) (mss : List (List Mention)) (cs : List Coded) → AllSpeak z mss cs → (m : Maker) → Last z (return_list line cs m) → Fine z m → Told z (joined mss) m (return_list line cs m)
  return_list_told line mss cs s m l f = on_abc z line Op.Return _ _ 0 refl (open_told z mss cs s m l f)

  return_by_told : {ms : List Mention} (call several : Bool) (line : ℕ) (c : Coded) → is_call c.e ≡ call → Speaks z ms c → (m : Maker) →
      let part = if call then return_call line c else (if several then return_list line (c ∷ []) else return_operand line c) in Last z (part m) → Fine z m → Told z (joined (ms ∷ [])) m (part m)
  return_by_told true several line c e s m l f =
      let t = on_abc z line Op.Return m.free 0 0 refl (s.tail (multiple e) None m l f) in
      both z t (still z t.went.fine)
    where
      multiple : is_call c.e ≡ true → is_multiple c.e ≡ true
      multiple e = ap (λ b. b || is_vararg c.e) e
  return_by_told {ms} false true line c e s m l f = return_list_told line (ms ∷ []) (c ∷ []) (s, tt) m l f
  return_by_told false false line c e s m l f =
      let t = on_abc z line Op.Return (operand c m).value 2 0 refl (operand_told z c s.value m l f) in
      both z t (still z t.went.fine)

  pub return_told : (line : ℕ) (mss : List (List Mention)) (cs : List Coded) → AllSpeak z mss cs → (m : Maker) → Last z (return_part line cs m) → Fine z m → Told z (joined mss) m (return_part line cs m)
  return_told line [] [] s m l f = on_abc z line Op.Return 0 1 0 refl (still z f)
  return_told line (ms ∷ rest) [] s m l f = absurd s
  return_told line [] (c ∷ cs) s m l f = absurd s
  return_told line (ms ∷ []) (c ∷ []) s m l f = return_by_told (is_call c.e) (is_vararg c.e) line c refl s.0 m l f
  return_told line (ms ∷ ns ∷ rest) (c ∷ []) s m l f = absurd s.1
  return_told line (ms ∷ rest) (c ∷ d ∷ cs) s m l f = return_list_told line (ms ∷ rest) (c ∷ d ∷ cs) s m l f
