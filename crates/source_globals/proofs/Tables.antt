-- Constructors: they add the uses of the mentions of their items, if these do.
use Rattle.std.proofs.Common.{◌≡◌, ◌≤◌, ◌<◌, ℕ, zero, suc, ◌+◌, ◌-◌, ◌/◌, Bool, true, false, cond, not, List, [], ◌∷◌, ◌++◌, length, refl, sym, ap, ◌∙◌, subst, arith, true≢false}
use Rattle.std.specs.Prelude.{Option, Some, None, ◌==◌, ◌&&◌, nat_lt, nat_le}
use Rattle.std.proofs.lemmas.Bool.{leb-true, eqb-true}
use Rattle.lua_num.specs.Bytes.{Text}
use Rattle.lua_tree.specs.Syntax.{Expression, vararg_expression, constructor, Fields}
use Rattle.opcode.specs.declared.op.Op.{Op}
use Rattle.proto.specs.Chunk.{functions_of}
use Rattle.proto.specs.declared.parts.Constant.{Constant}
use Rattle.scheme.specs.Making.{◌>>◌, Maker, Part, Asks, pass_name, put, take_registers, free_from, freeing, when}
use Rattle.scheme.specs.Expressions.{Coded, Want, count_field, next_reg, operand, local_register, is_multiple, literal, rk, rk_text, single}
use Rattle.scheme.specs.Lists.{all_next, ends_open, all_multi, open_list, Given, results_at, call_at, method_at, moved, by_base, coded_call, vararg_at, coded_vararg, Entry, positional_entry, named_entry, keyed_entry, is_last, small_block, large_block, set_list, open_entry, keyed_item, pending_after, full_end, entries_from, table_at, coded_table, size_hint, positional_count, other_count}
use Rattle.scheme.specs.declared.making.Piece.{Piece}
use Rattle.scheme.specs.declared.making.Item.{Item}
use Rattle.scheme.specs.declared.making.Active.{Active}
use Rattle.scheme_stands.proofs.Growth.{calm, Grown}
use Rattle.scheme_stands.proofs.Parts.{Grows, AllGrow, EntriesGrow, alone, grows_next, grows_rk, grows_rk_text, grows_operand, grows_single, grows_all, grows_multi, grows_call, grows_vararg, grows_by_base, grows_set_list, grows_entries, grows_table_at, grows_when}
use Rattle.source_globals.proofs.Owed.{Mention, one_if}
use Rattle.source_globals.proofs.Pieces.{is_plain, pending, AreRead, items_use, pending_both, use_both, read_both}
use Rattle.source_globals.proofs.Tally.{End, Last, LastBy, Fine, FineBy, Told, ToldBy, WentBy, back, untake, still, both, behind, abc_went, word_went, on_abc}
use Rattle.source_globals.proofs.Values.{Value, Speaks, next_told, next_low, operand_told, rk_told, rk_text_told, test_told}
use Rattle.source_globals.proofs.Forms.{single_told}
use Rattle.source_globals.proofs.Calls.{joined, by_base_told}

not_none : (k : ℕ) → one_if (suc k == 0) ≡ 0
not_none k = by (suc k == 0) refl
  where
    by : (b : Bool) → (suc k == 0) ≡ b → one_if b ≡ 0
    by true e = let none = eqb-true (suc k) 0 e in absurd (omega (arith, none))
    by false e = refl

module _ (z : End) where
  abbrev pub EntriesSpeak : List (List Mention) → List Entry → Type 0
  EntriesSpeak [] [] = Unit {0}
  EntriesSpeak [] (entry ∷ entries) = ⊥
  EntriesSpeak (ms ∷ rest) [] = ⊥
  EntriesSpeak (ms ∷ rest) (positional_entry c ∷ entries) = Speaks z ms c × EntriesSpeak rest entries
  EntriesSpeak (ms ∷ rest) (named_entry text c ∷ entries) = Speaks z ms c × EntriesSpeak rest entries
  EntriesSpeak (ms ∷ rest) (keyed_entry key c ∷ entries) =
      ((one : List Mention) × (two : List Mention) × (ms ≡ one ++ two) × Speaks z one key × Speaks z two c) × EntriesSpeak rest entries

  pub entries_grow : (mss : List (List Mention)) (entries : List Entry) → EntriesSpeak mss entries → EntriesGrow calm entries
  entries_grow [] [] s = tt
  entries_grow [] (entry ∷ entries) s = absurd s
  entries_grow (ms ∷ rest) [] s = tt
  entries_grow (ms ∷ rest) (positional_entry c ∷ entries) s = (s.0.grows, entries_grow rest entries s.1)
  entries_grow (ms ∷ rest) (named_entry text c ∷ entries) s = (s.0.grows, entries_grow rest entries s.1)
  entries_grow (ms ∷ rest) (keyed_entry key c ∷ entries) ((one, two, e, k, v), others) = ((k.grows, v.grows), entries_grow rest entries others)

  -- a SETLIST whose number is its own word
  large_went : (line t n block : ℕ) → t ≤ 250 → (m : Maker) → Fine z m → WentBy z 0 m.items m.functions (large_block line t n block m).items m.functions m.active
  large_went line t n block low m f =
      let first : Item = record { line = line; piece = Piece.Abc Op.SetList t n 0 } in
      let second : Item = record { line = line; piece = Piece.Bare block } in
      let fs = functions_of z.functions in
      let xs = m.items in
      let ys = xs ++ first ∷ [] in
      let p1 : pending fs 0 ys ≡ 1 = pending_both fs 0 xs (first ∷ []) ∙ ap (λ n. pending fs n (first ∷ [])) f.even in
      let u1 = use_both z.role z.name z.constants fs 0 xs (first ∷ []) in
      let a1 : items_use z.role z.name z.constants fs (pending fs 0 xs) (first ∷ []) ≡ 0 = ap (λ n. items_use z.role z.name z.constants fs n (first ∷ [])) f.even in
      let u2 = use_both z.role z.name z.constants fs 0 ys (second ∷ []) in
      let a2 : items_use z.role z.name z.constants fs (pending fs 0 ys) (second ∷ []) ≡ 0 = ap (λ n. items_use z.role z.name z.constants fs n (second ∷ [])) p1 in
      record {
        fine = record {
          read = read_both fs 0 ys (second ∷ []) (read_both fs 0 xs (first ∷ []) f.read (subst (λ n. AreRead fs n (first ∷ [])) (sym f.even) ((omega (arith, low), omega arith), tt)))
              (subst (λ n. AreRead fs n (second ∷ [])) (sym p1) tt);
          even = pending_both fs 0 ys (second ∷ []) ∙ ap (λ n. pending fs n (second ∷ [])) p1;
          room = f.room;
        };
        total = omega (arith, u1, a1, u2, a2);
      }

  small_went : (line t n k : ℕ) → t ≤ 250 → suc k ≤ 511 → (m : Maker) → Fine z m → WentBy z 0 m.items m.functions (small_block line t n (suc k) m).items m.functions m.active
  small_went line t n k low most m f = word_went z line (Piece.Abc Op.SetList t n (suc k)) (omega (arith, low), omega (arith, most)) (not_none k) f

  set_by_told : {ms : List Mention} {i1 : List Item} {f1 : _} {n1 : _} (b : Bool) (line t n block : ℕ) → nat_le (suc block) 511 ≡ b → t ≤ 250 → (m : Maker) → ToldBy z ms i1 f1 n1 m.items m.functions m.ahead.names m.active →
      let after = cond b (small_block line t n (suc block)) (large_block line t n (suc block)) m in ToldBy z ms i1 f1 n1 after.items after.functions after.ahead.names after.active
  set_by_told true line t n block e low m told = behind z told (small_went line t n block low (leb-true (suc block) 511 e) m told.went.fine)
  set_by_told false line t n block e low m told = behind z told (large_went line t n (suc block) low m told.went.fine)

  set_any_told : {ms : List Mention} {i1 : List Item} {f1 : _} {n1 : _} (line t n block k : ℕ) → block ≡ suc k → t ≤ 250 → (m : Maker) → ToldBy z ms i1 f1 n1 m.items m.functions m.ahead.names m.active →
      let after = cond (nat_le block 511) (small_block line t n block) (large_block line t n block) m in ToldBy z ms i1 f1 n1 after.items after.functions after.ahead.names after.active
  set_any_told {ms} {i1} {f1} {n1} line t n block k e low m told =
      subst (λ block. let after = cond (nat_le block 511) (small_block line t n block) (large_block line t n block) m in ToldBy z ms i1 f1 n1 after.items after.functions after.ahead.names after.active) (sym e)
      (set_by_told (nat_le (suc k) 511) line t n k refl low m told)

  pub set_list_told : {ms : List Mention} {i1 : List Item} {f1 : _} {n1 : _} (line t n done : ℕ) → t ≤ 250 → (m : Maker) → ToldBy z ms i1 f1 n1 m.items m.functions m.ahead.names m.active →
      let after = set_list line t n done m in ToldBy z ms i1 f1 n1 after.items after.functions after.ahead.names after.active
  set_list_told line t n done low m told = set_any_told line t n ((done - 1) / 50 + 1) ((done - 1) / 50) (omega arith) low m told

  when_set_told : {ms : List Mention} {i1 : List Item} {f1 : _} {n1 : _} (b : Bool) (line t n done : ℕ) → t ≤ 250 → (m : Maker) → ToldBy z ms i1 f1 n1 m.items m.functions m.ahead.names m.active →
      let after = when b (set_list line t n done) m in ToldBy z ms i1 f1 n1 after.items after.functions after.ahead.names after.active
  when_set_told true line t n done low m told = set_list_told line t n done low m told
  when_set_told false line t n done low m told = told

  keyed_told : {ms ns : List Mention} (line t : ℕ) (key : Asks ℕ) (c : Coded) → ((m : Maker) → Last z (key m).after → Fine z m → Told z ms m (key m).after) → Speaks z ns c →
      (m : Maker) → Last z (keyed_item line t key c m) → Fine z m → Told z (ms ++ ns) m (keyed_item line t key c m)
  keyed_told line t key c told s m l f =
      let m1 = (key m).after in
      let one = told m (back z m1 _ (grows_rk c s.grows m1) l) f in
      on_abc z line Op.SetTable t _ _ refl (both z one (rk_told z c s.value m1 l one.went.fine))

  -- what follows a positional item
  positional_told : (b : Bool) (line t done pending : ℕ) → t ≤ 250 → (ms : List Mention) (rest : List (List Mention)) (c : Coded) (entries : List Entry) → is_last entries && is_multiple c.e ≡ b →
      Speaks z ms c → EntriesSpeak rest entries →
      ((n : Maker) → Last z (entries_from line t (suc done) (pending_after (suc pending)) entries n) → Fine z n → Told z (joined rest) n (entries_from line t (suc done) (pending_after (suc pending)) entries n)) →
      (m : Maker) → let part = cond b (open_entry line t done c) (next_reg c >> full_end line t (suc done) (suc pending) >> entries_from line t (suc done) (pending_after (suc pending)) entries) in
      Last z (part m) → Fine z m → Told z (ms ++ joined rest) m (part m)
  positional_told true line t done pending low ms [] c [] e s others next m l f =
      let m1 = c.multi Op.Call None m in
      let told = set_list_told line t 0 (suc done) low m1 (s.multi e None m (back z m1 _ (grows_set_list line t 0 (suc done) m1) l) f) in
      both z told (still z told.went.fine)
  positional_told true line t done pending low ms (ns ∷ rest) c [] e s others next m l f = absurd others
  positional_told true line t done pending low ms rest c (entry ∷ entries) e s others next m l f = cc
  positional_told false line t done pending low ms rest c entries e s others next m l f =
      let m1 = next_reg c m in
      let m2 = full_end line t (suc done) (suc pending) m1 in
      let l2 = back z m2 _ (grows_entries line t (suc done) (pending_after (suc pending)) entries (entries_grow rest entries others) m2) l in
      let l1 = back z m1 m2 (grows_when (suc pending == 50) (set_list line t 50 (suc done)) m1 (grows_set_list line t 50 (suc done) m1)) l2 in
      let one = when_set_told (suc pending == 50) line t 50 (suc done) low m1 (next_told z c s.value m l1 f) in
      both z one (next m2 l one.went.fine)

  pub entries_told : (line t done pending : ℕ) → t ≤ 250 → (mss : List (List Mention)) (entries : List Entry) → EntriesSpeak mss entries →
      (m : Maker) → Last z (entries_from line t done pending entries m) → Fine z m → Told z (joined mss) m (entries_from line t done pending entries m)
  entries_told line t done pending low [] [] s m l f = when_set_told (nat_lt 0 pending) line t pending done low m (still z f)
  entries_told line t done pending low [] (entry ∷ entries) s m l f = absurd s
  entries_told line t done pending low (ms ∷ rest) [] s m l f = absurd s
  entries_told line t done pending low (ms ∷ rest) (positional_entry c ∷ entries) s m l f =
      positional_told (is_last entries && is_multiple c.e) line t done pending low ms rest c entries refl s.0 s.1
      (λ n. entries_told line t (suc done) (pending_after (suc pending)) low rest entries s.1 n) m l f
  entries_told line t done pending low (ms ∷ rest) (named_entry text c ∷ entries) s m l f =
      let m1 = freeing (keyed_item line t (rk_text line text) c) m in
      let l1 = back z m1 _ (grows_entries line t done pending entries (entries_grow rest entries s.1) m1) l in
      let one = keyed_told {ms = []} line t (rk_text line text) c (λ m l f. rk_text_told z line text m f) s.0 m l1 f in
      both z one (entries_told line t done pending low rest entries s.1 m1 l one.went.fine)
  entries_told line t done pending low (ms ∷ rest) (keyed_entry key c ∷ entries) ((one, two, e, k, v), others) m l f =
      let m1 = freeing (keyed_item line t (rk key) c) m in
      let l1 = back z m1 _ (grows_entries line t done pending entries (entries_grow rest entries others) m1) l in
      let first = subst (λ ms. Told z ms m m1) (sym e) (keyed_told line t (rk key) c (rk_told z key k.value) v m l1 f) in
      both z first (entries_told line t done pending low rest entries others m1 l first.went.fine)

  pub table_at_told : (line : ℕ) (mss : List (List Mention)) (entries : List Entry) → EntriesSpeak mss entries → (m : Maker) → Last z (table_at line entries m) → Fine z m → Told z (joined mss) m (table_at line entries m)
  table_at_told line mss entries s m l f =
      let b = Piece.Abc Op.NewTable m.free (size_hint (positional_count entries)) (size_hint (other_count entries)) in
      let m1 = take_registers 1 (put line b m) in
      let l1 : Last z m1 = back z m1 _ (grows_entries line m.free 0 0 entries (entries_grow mss entries s) m1) l in
      let high = l1.low in
      let one = on_abc z line Op.NewTable m.free _ _ refl (still z f) in
      both z one (entries_told line m.free 0 0 (omega (arith, high)) mss entries s m1 l one.went.fine)

  pub table_told : (line : ℕ) (fields : Fields) (mss : List (List Mention)) (entries : List Entry) → EntriesSpeak mss entries → Speaks z (joined mss) (coded_table line fields entries)
  table_told line fields mss entries s =
      single_told z line (constructor line fields) (by_base line (table_at line entries)) refl (grows_by_base line (table_at line entries) (grows_table_at line entries (entries_grow mss entries s)))
      (by_base_told z line (table_at line entries) (table_at_told line mss entries s)) (λ r m e f. cc) (λ k e. cc)
