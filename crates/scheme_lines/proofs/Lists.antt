-- Lists of expressions, calls and constructors: they make the same but for lines, where the expressions in them do.
use Rattle.std.proofs.Common.{◌≡◌, ℕ, suc, ◌+◌, ◌-◌, cond, not, List, [], ◌∷◌, length, refl, ap, ap₂, ◌∙◌}
use Rattle.std.specs.Prelude.{Some, None, nat_lt, nat_le, ◌==◌, ◌&&◌, ◌/◌}
use Rattle.lua_num.specs.Bytes.{Text}
use Rattle.lua_tree.specs.Syntax.{Expression, vararg_expression, constructor, Fields}
use Rattle.opcode.specs.declared.op.Op.{Op}
use Rattle.scheme.specs.Making.{Part, Asks, ◌>>◌, put, free_from}
use Rattle.scheme.specs.Expressions.{Want, count_field, Coded, is_multiple, rk_text}
use Rattle.scheme.specs.Lists.{all_next, ends_open, all_multi, open_list, list_count, Given, given_list, given_one, results_at, call_at, method_at, moved, by_base, coded_call, vararg_at, coded_vararg, Entry, positional_entry, named_entry, keyed_entry, is_last, positional_count, other_count, size_hint, set_list, open_entry, keyed_item, full_end, pending_after, entries_from, table_at, coded_table, nils, filled, adjust}
use Rattle.scheme.specs.declared.making.Piece.{Piece}
use Rattle.scheme_lines.specs.Bare.{bare_expression, bare_fields}
use Rattle.scheme_lines.proofs.Makers.{one_line, SamePart, SameAsks, bind, ◌then◌, no_part, either, asks_for_equal, chosen, if_so, same_free, same_put, put_equal, same_take, same_free_from, same_freeing}
use Rattle.scheme_lines.proofs.Expressions.{Same, AllSame, same_multiple, same_next, same_operand, same_rk, same_rk_text, same_single, SameMulti, with_multi}

-- ---- lists

same_all_next : (cs ds : List Coded) → AllSame cs ds → SamePart (all_next cs) (all_next ds)
same_all_next [] [] s = no_part
same_all_next (c ∷ cs) (d ∷ ds) s = same_next s.0 then same_all_next cs ds s.1
same_all_next cs ds s = absurd s

same_ends_open : (cs ds : List Coded) → AllSame cs ds → ends_open cs ≡ ends_open ds
same_ends_open [] [] s = refl
same_ends_open (c ∷ []) (d ∷ []) s = same_multiple s.0
same_ends_open (c ∷ e ∷ cs) (d ∷ f ∷ ds) s = same_ends_open (e ∷ cs) (f ∷ ds) s.1
same_ends_open (c ∷ []) (d ∷ f ∷ ds) s = absurd s.1
same_ends_open (c ∷ e ∷ cs) (d ∷ []) s = absurd s.1
same_ends_open cs ds s = absurd s

same_all_multi : (op : Op) (want : Want) (cs ds : List Coded) → AllSame cs ds → SamePart (all_multi op want cs) (all_multi op want ds)
same_all_multi op want [] [] s = no_part
same_all_multi op want (c ∷ []) (d ∷ []) s = s.0.multi op want
same_all_multi op want (c ∷ e ∷ cs) (d ∷ f ∷ ds) s = same_next s.0 then same_all_multi op want (e ∷ cs) (f ∷ ds) s.1
same_all_multi op want (c ∷ []) (d ∷ f ∷ ds) s = absurd s.1
same_all_multi op want (c ∷ e ∷ cs) (d ∷ []) s = absurd s.1
same_all_multi op want cs ds s = absurd s

pub same_length : (cs ds : List Coded) → AllSame cs ds → length cs ≡ length ds
same_length [] [] s = refl
same_length (c ∷ cs) (d ∷ ds) s = ap suc (same_length cs ds s.1)
same_length cs ds s = absurd s

pub same_open : (cs ds : List Coded) → AllSame cs ds → SamePart (open_list cs) (open_list ds)
same_open cs ds s = chosen (same_ends_open cs ds s) (same_all_multi Op.Call None cs ds s) (same_all_next cs ds s)

pub same_count : (cs ds : List Coded) → AllSame cs ds → list_count cs ≡ list_count ds
same_count cs ds s = ap₂ (λ t n. cond t None (Some n)) (same_ends_open cs ds s) (same_length cs ds s)

-- ---- calls

pub record SameGiven (given other : Given) : Type 0 where
  pub part : SamePart given.part other.part
  pub count : given.count ≡ other.count

pub same_given_list : (cs ds : List Coded) → AllSame cs ds → SameGiven (given_list cs) (given_list ds)
same_given_list cs ds s = record { part = same_open cs ds s; count = same_count cs ds s }

pub same_given_one : {part other : Part} → SamePart part other → SameGiven (given_one part) (given_one other)
same_given_one p = record { part = p; count = refl }

same_results : (base : ℕ) (want : Want) → SamePart (results_at base want) (results_at base want)
same_results base None = record { same = λ m. refl }
same_results base (Some n) = record { same = λ m. refl }

pub same_call_at : {on table : Coded} {given other : Given} (line : ℕ) → Same on table → SameGiven given other → (op : Op) (want : Want) →
    SamePart (call_at line on given op want) (call_at 1 table other op want)
same_call_at line s g op want =
    bind same_free (λ base. same_next s then g.part then put_equal line (ap (λ count. Piece.Abc op base (count_field 1 count) (count_field 1 want)) g.count) then same_results base want)

pub same_method_at : {on table : Coded} {given other : Given} (line : ℕ) (text : Text) → Same on table → SameGiven given other → (op : Op) (want : Want) →
    SamePart (method_at line on text given op want) (method_at 1 table text other op want)
same_method_at line text s g op want =
    bind same_free (λ base.
    bind (same_operand s) (λ x. same_free_from base then same_take 2 then
    bind (same_rk_text line text) (λ y.
    same_put line (Piece.Abc Op.Self_ base x y) then same_free_from (base + 2) then g.part
    then put_equal line (ap (λ count. Piece.Abc op base (count_field 2 count) (count_field 1 want)) g.count) then same_results base want)))

same_moved : (line base r : ℕ) → SamePart (moved line base r) (moved 1 base r)
same_moved line base r = if_so (not (base == r)) (same_put line (Piece.Abc Op.Move r base 0))

same_by_base : {part other : Part} (line : ℕ) → SamePart part other → (r : ℕ) → SamePart (by_base line part r) (by_base 1 other r)
same_by_base line p r = bind same_free (λ base. p then same_moved line base r)

pub same_call : (line : ℕ) (e f : Expression) (at other : Op → Want → Part) → bare_expression e ≡ f → SameMulti at other → Same (coded_call line e at) (coded_call 1 f other)
same_call line e f at other is s =
    with_multi at other (same_single line e f (by_base line (at Op.Call (Some 1))) (by_base 1 (other Op.Call (Some 1))) is (same_by_base line (s Op.Call (Some 1)))) s

same_vararg_at : (line : ℕ) (op : Op) (want : Want) → SamePart (vararg_at line op want) (vararg_at 1 op want)
same_vararg_at line op want = bind same_free (λ base. same_put line (Piece.Abc Op.Vararg base (count_field 1 want) 0) then same_results base want)

pub same_vararg : (line : ℕ) → Same (coded_vararg line) (coded_vararg 1)
same_vararg line =
    with_multi (vararg_at line) (vararg_at 1)
    (same_single line (vararg_expression line) (vararg_expression 1) (λ r. put line (Piece.Abc Op.Vararg r 2 0)) (λ r. put 1 (Piece.Abc Op.Vararg r 2 0)) refl
    (λ r. same_put line (Piece.Abc Op.Vararg r 2 0)))
    (same_vararg_at line)

-- ---- constructors

abbrev pub SameEntries : List Entry → List Entry → Type 0
SameEntries [] [] = Unit {0}
SameEntries (positional_entry c ∷ entries) (positional_entry d ∷ others) = Same c d × SameEntries entries others
SameEntries (named_entry text c ∷ entries) (named_entry other d ∷ others) = ((text ≡ other) × Same c d) × SameEntries entries others
SameEntries (keyed_entry key c ∷ entries) (keyed_entry other d ∷ others) = (Same key other × Same c d) × SameEntries entries others
SameEntries entries others = ⊥

same_last : (entries others : List Entry) → SameEntries entries others → is_last entries ≡ is_last others
same_last [] [] s = refl
same_last (positional_entry c ∷ entries) (positional_entry d ∷ others) s = refl
same_last (named_entry text c ∷ entries) (named_entry other d ∷ others) s = refl
same_last (keyed_entry key c ∷ entries) (keyed_entry other d ∷ others) s = refl
same_last entries others s = absurd s

-- whether an item is an open last one
same_open_last : {c d : Coded} (entries others : List Entry) → SameEntries entries others → Same c d → (is_last entries && is_multiple c.e) ≡ (is_last others && is_multiple d.e)
same_open_last entries others s t = ap₂ (λ b d. b && d) (same_last entries others s) (same_multiple t)

same_positional : (entries others : List Entry) → SameEntries entries others → positional_count entries ≡ positional_count others
same_positional [] [] s = refl
same_positional (positional_entry c ∷ entries) (positional_entry d ∷ others) s =
    ap₂ (λ b n. cond b 0 (suc n)) (same_open_last entries others s.1 s.0) (same_positional entries others s.1)
same_positional (named_entry text c ∷ entries) (named_entry other d ∷ others) s = same_positional entries others s.1
same_positional (keyed_entry key c ∷ entries) (keyed_entry other d ∷ others) s = same_positional entries others s.1
same_positional entries others s = absurd s

same_other : (entries others : List Entry) → SameEntries entries others → other_count entries ≡ other_count others
same_other [] [] s = refl
same_other (positional_entry c ∷ entries) (positional_entry d ∷ others) s = same_other entries others s.1
same_other (named_entry text c ∷ entries) (named_entry other d ∷ others) s = ap suc (same_other entries others s.1)
same_other (keyed_entry key c ∷ entries) (keyed_entry other d ∷ others) s = ap suc (same_other entries others s.1)
same_other entries others s = absurd s

same_set_list : (line t n done : ℕ) → SamePart (set_list line t n done) (set_list 1 t n done)
same_set_list line t n done =
    let block = (done - 1) / 50 + 1 in
    either (nat_le block 511) (same_put line (Piece.Abc Op.SetList t n block)) (same_put line (Piece.Abc Op.SetList t n 0) then same_put line (Piece.Bare block)) then same_free_from (t + 1)

same_open_entry : {c d : Coded} (line t done : ℕ) → Same c d → SamePart (open_entry line t done c) (open_entry 1 t done d)
same_open_entry line t done s = s.multi Op.Call None then same_set_list line t 0 (suc done)

same_keyed : {c d : Coded} {key other : Asks ℕ} (line t : ℕ) → SameAsks key other → Same c d → SamePart (keyed_item line t key c) (keyed_item 1 t other d)
same_keyed line t k s = bind k (λ x. bind (same_rk s) (λ v. same_put line (Piece.Abc Op.SetTable t x v)))

same_full : (line t done pending : ℕ) → SamePart (full_end line t done pending) (full_end 1 t done pending)
same_full line t done pending = if_so (pending == 50) (same_set_list line t 50 done)

same_entries : (line t done pending : ℕ) (entries others : List Entry) → SameEntries entries others → SamePart (entries_from line t done pending entries) (entries_from 1 t done pending others)
same_entries line t done pending [] [] s = if_so (nat_lt 0 pending) (same_set_list line t pending done)
same_entries line t done pending (positional_entry c ∷ entries) (positional_entry d ∷ others) s =
    chosen (same_open_last entries others s.1 s.0)
    (same_open_entry line t done s.0)
    (same_next s.0 then same_full line t (suc done) (suc pending) then same_entries line t (suc done) (pending_after (suc pending)) entries others s.1)
same_entries line t done pending (named_entry text c ∷ entries) (named_entry other d ∷ others) s =
    same_freeing (same_keyed line t (asks_for_equal (rk_text 1) s.0.0 (same_rk_text line text)) s.0.1) then same_entries line t done pending entries others s.1
same_entries line t done pending (keyed_entry key c ∷ entries) (keyed_entry other d ∷ others) s =
    same_freeing (same_keyed line t (same_rk s.0.0) s.0.1) then same_entries line t done pending entries others s.1
same_entries line t done pending entries others s = absurd s

pub same_table_at : (line : ℕ) (entries others : List Entry) → SameEntries entries others → SamePart (table_at line entries) (table_at 1 others)
same_table_at line entries others s =
    bind same_free (λ t.
    put_equal line (ap₂ (λ n k. Piece.Abc Op.NewTable t (size_hint n) (size_hint k)) (same_positional entries others s) (same_other entries others s)) then same_take 1
    then same_entries line t 0 0 entries others s then same_free_from (t + 1))

pub same_table : (line : ℕ) (fields : Fields) (entries others : List Entry) → SameEntries entries others → Same (coded_table line fields entries) (coded_table 1 (bare_fields fields) others)
same_table line fields entries others s =
    same_single line (constructor line fields) (constructor 1 (bare_fields fields)) (by_base line (table_at line entries)) (by_base 1 (table_at 1 others)) refl
    (same_by_base line (same_table_at line entries others s))

-- ---- so many values

same_nils : (line n : ℕ) → SamePart (nils line n) (nils 1 n)
same_nils line n = bind same_free (λ first. same_take n then same_put line (Piece.Abc Op.LoadNil first (first + n - 1) 0))

same_filled : (line : ℕ) (cs ds : List Coded) → AllSame cs ds → (missing : ℕ) → SamePart (filled line cs missing) (filled 1 ds missing)
same_filled line cs ds s missing = chosen (same_ends_open cs ds s) (same_all_multi Op.Call (Some (missing + 1)) cs ds s) (same_all_next cs ds s then same_nils line missing)

pub same_adjust : (line : ℕ) (cs ds : List Coded) → AllSame cs ds → (n : ℕ) → SamePart (adjust line cs n) (adjust 1 ds n)
same_adjust line cs ds s n = record {
  same = λ m.
      (either (nat_lt (length cs) n) (same_filled line cs ds s (n - length cs)) (same_all_next cs ds s then same_free_from (m.free + n))).same m
      ∙ ap (λ k. cond (nat_lt k n) (filled 1 ds (n - k)) (all_next ds >> free_from (m.free + n)) (one_line m)) (same_length cs ds s);
}
