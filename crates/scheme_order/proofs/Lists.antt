-- Lists of expressions, calls and constructors: they agree, where the expressions in them do.
use Rattle.std.proofs.Common.{◌≡◌, ℕ, suc, ◌+◌, ◌-◌, Bool, true, false, cond, not, List, [], ◌∷◌, length, refl, ap, ap₂, subst}
use Rattle.std.specs.Prelude.{Some, None, nat_lt, nat_le, ◌==◌, ◌||◌, ◌&&◌, ◌/◌}
use Rattle.lua_num.specs.Bytes.{Text}
use Rattle.lua_tree.specs.Syntax.{Expression, vararg_expression, constructor, Fields}
use Rattle.lua_tree.specs.WellFormed.{is_target}
use Rattle.opcode.specs.declared.op.Op.{Op}
use Rattle.scheme.specs.Making.{Part, Asks, ◌>>◌, put, free_from}
use Rattle.scheme.specs.Expressions.{Want, count_field, Coded, is_multiple}
use Rattle.scheme.specs.Lists.{all_next, ends_open, all_multi, open_list, list_count, Given, given_list, given_one, results_at, call_at, method_at, moved, by_base, coded_call, vararg_at, coded_vararg, Entry, positional_entry, named_entry, keyed_entry, is_last, positional_count, other_count, size_hint, set_list, open_entry, keyed_item, full_end, pending_after, entries_from, table_at, coded_table, nils, filled, adjust}
use Rattle.scheme.specs.declared.making.Piece.{Piece}
use Rattle.scheme_order.proofs.Makers.{Names, no_names, and_then, Agree, AgreeAsks, bind, ◌then◌, no_part, loosely, either, chosen, if_so, same_free, same_put, put_equal, same_take, same_used, same_free_from, same_freeing}
use Rattle.scheme_order.proofs.Trees.{SameLook, look_plain}
use Rattle.scheme_order.proofs.Expressions.{SameValue, Same, same_only, same_next, same_operand, same_rk, same_rk_text, same_single}

-- each expression of a list, and of another, with the names of both
pub data AllSame : Names → Names → List Coded → List Coded → Type 0 where
  all_none : AllSame no_names no_names [] []
  all_more : {here there more again : Names} {c d : Coded} {cs ds : List Coded} → Same here there c d → AllSame more again cs ds → AllSame (and_then here more) (and_then there again) (c ∷ cs) (d ∷ ds)

-- ---- lists

-- whether an expression gives several values
same_multiple : {here there : Names} {c d : Coded} → Same here there c d → is_multiple c.e ≡ is_multiple d.e
same_multiple s = ap₂ (λ b d. b || d) s.value.look.calls s.value.look.varargs

-- each NextReg
same_all_next : {k : Bool} {here there : Names} {cs ds : List Coded} → AllSame here there cs ds → Agree k here there (all_next cs) (all_next ds)
same_all_next all_none = no_part
same_all_next (all_more s ss) = same_next s.value then same_all_next ss

-- whether the last one is open
same_ends_open : {here there : Names} {cs ds : List Coded} → AllSame here there cs ds → ends_open cs ≡ ends_open ds
same_ends_open all_none = refl
same_ends_open (all_more s all_none) = same_multiple s
same_ends_open (all_more s (all_more t ss)) = same_ends_open (all_more t ss)

-- the last one gives several values
same_all_multi : {k : Bool} {here there : Names} {cs ds : List Coded} (op : Op) (want : Want) → AllSame here there cs ds → ends_open cs ≡ true →
    Agree k here there (all_multi op want cs) (all_multi op want ds)
same_all_multi op want all_none is = no_part
same_all_multi op want (all_more s all_none) is = loosely (s.multi is op want)
same_all_multi op want (all_more s (all_more t ss)) is = same_next s.value then same_all_multi op want (all_more t ss) is

-- how many they are
pub same_length : {here there : Names} {cs ds : List Coded} → AllSame here there cs ds → length cs ≡ length ds
same_length all_none = refl
same_length (all_more s ss) = ap suc (same_length ss)

-- a last multiple one is open
pub same_open : {k : Bool} {here there : Names} {cs ds : List Coded} → AllSame here there cs ds → Agree k here there (open_list cs) (open_list ds)
same_open ss = chosen (same_ends_open ss) (same_all_multi Op.Call None ss) (same_all_next ss)

-- how many values these are
pub same_count : {here there : Names} {cs ds : List Coded} → AllSame here there cs ds → list_count cs ≡ list_count ds
same_count ss = ap₂ (λ t n. cond t None (Some n)) (same_ends_open ss) (same_length ss)

-- ---- calls

-- the arguments of two calls
pub record SameGiven (here there : Names) (given other : Given) : Type 0 where
  pub part : Agree true here there given.part other.part
  pub count : given.count ≡ other.count

-- a list of arguments
pub same_given_list : {here there : Names} {cs ds : List Coded} → AllSame here there cs ds → SameGiven here there (given_list cs) (given_list ds)
same_given_list ss = record { part = same_open ss; count = same_count ss }

-- one argument
pub same_given_one : {here there : Names} {part other : Part} → Agree true here there part other → SameGiven here there (given_one part) (given_one other)
same_given_one p = record { part = p; count = refl }

-- so many results
same_results : {k : Bool} (base : ℕ) (want : Want) → Agree k no_names no_names (results_at base want) (results_at base want)
same_results base None = same_free_from base then same_used (suc base)
same_results base (Some n) = same_free_from base then same_take n

-- what gives several values agrees
abbrev pub SameMulti : (here there : Names) → (multi other : Op → Want → Part) → Type 0
SameMulti here there multi other = (op : Op) (want : Want) → Agree true here there (multi op want) (other op want)

-- a call
pub same_call_at : {here there more again : Names} {on table : Coded} {given other : Given} (line : ℕ) → SameValue here there on table → SameGiven more again given other →
    SameMulti (and_then here more) (and_then there again) (call_at line on given) (call_at line table other)
same_call_at line s g op want =
    bind same_free (λ base. same_next s then g.part then put_equal line (ap (λ count. Piece.Abc op base (count_field 1 count) (count_field 1 want)) g.count) then same_results base want)

-- a call of a method
pub same_method_at : {here there more again : Names} {on table : Coded} {given other : Given} (line : ℕ) (text : Text) → SameValue here there on table → SameGiven more again given other →
    SameMulti (and_then here more) (and_then there again) (method_at line on text given) (method_at line table text other)
same_method_at line text s g op want =
    bind same_free (λ base.
    bind (same_operand s) (λ x. same_free_from base then same_take 2 then
    bind (same_rk_text line text) (λ y.
    same_put line (Piece.Abc Op.Self_ base x y) then same_free_from (base + 2) then g.part
    then put_equal line (ap (λ count. Piece.Abc op base (count_field 2 count) (count_field 1 want)) g.count) then same_results base want)))

-- a value is moved to its register
same_moved : {k : Bool} (line base r : ℕ) → Agree k no_names no_names (moved line base r) (moved line base r)
same_moved line base r = if_so (not (base == r)) (same_put line (Piece.Abc Op.Move r base 0))

-- a value that comes in the next free register
same_by_base : {here there : Names} {part other : Part} (line : ℕ) → Agree true here there part other → (r : ℕ) → Agree true here there (by_base line part r) (by_base line other r)
same_by_base line p r = bind same_free (λ base. p then same_moved line base r)

-- a call, as an expression
pub same_call : {here there : Names} (line : ℕ) (e f : Expression) (at other : Op → Want → Part) → SameLook here there e f → is_target e ≡ false → SameMulti here there at other →
    Same here there (coded_call line e at) (coded_call line f other)
same_call line e f at other look no_target s =
    let v = same_single line e f (by_base line (at Op.Call (Some 1))) (by_base line (other Op.Call (Some 1))) look (same_by_base line (s Op.Call (Some 1))) in
    record { parts = record { value = record { look = look; to_reg = v.value.to_reg }; jump_if = v.jump_if; spine = v.spine }; multi = λ is. s; target = λ is. cc }

-- `...` as several values
same_vararg_at : (line : ℕ) → SameMulti no_names no_names (vararg_at line) (vararg_at line)
same_vararg_at line op want = bind same_free (λ base. same_put line (Piece.Abc Op.Vararg base (count_field 1 want) 0) then same_results base want)

-- `...`
pub same_vararg : (line : ℕ) → Same no_names no_names (coded_vararg line) (coded_vararg line)
same_vararg line =
    let value = λ (r : ℕ). put line (Piece.Abc Op.Vararg r 2 0) in
    let v = same_single line (vararg_expression line) (vararg_expression line) value value (look_plain refl refl refl refl refl refl refl) (λ r. same_put line (Piece.Abc Op.Vararg r 2 0)) in
    record { parts = record { value = record { look = v.value.look; to_reg = v.value.to_reg }; jump_if = v.jump_if; spine = v.spine }; multi = λ is. same_vararg_at line; target = λ is. cc }

-- ---- constructors

-- each entry of a constructor, and of another, with the names of both
pub data SameEntries : Names → Names → List Entry → List Entry → Type 0 where
  entries_none : SameEntries no_names no_names [] []
  entries_positional : {here there more again : Names} {c d : Coded} {entries others : List Entry} → Same here there c d → SameEntries more again entries others →
      SameEntries (and_then here more) (and_then there again) (positional_entry c ∷ entries) (positional_entry d ∷ others)
  entries_named : {here there more again : Names} {c d : Coded} {entries others : List Entry} → (text : Text) → Same here there c d → SameEntries more again entries others →
      SameEntries (and_then here more) (and_then there again) (named_entry text c ∷ entries) (named_entry text d ∷ others)
  entries_keyed : {here there between beside more again : Names} {key other c d : Coded} {entries others : List Entry} →
      Same here there key other → Same between beside c d → SameEntries more again entries others →
      SameEntries (and_then here (and_then between more)) (and_then there (and_then beside again)) (keyed_entry key c ∷ entries) (keyed_entry other d ∷ others)

-- whether no more entries follow
same_last : {here there : Names} {entries others : List Entry} → SameEntries here there entries others → is_last entries ≡ is_last others
same_last entries_none = refl
same_last (entries_positional s ss) = refl
same_last (entries_named text s ss) = refl
same_last (entries_keyed k s ss) = refl

-- how many positional entries there are
same_positional : {here there : Names} {entries others : List Entry} → SameEntries here there entries others → positional_count entries ≡ positional_count others
same_positional entries_none = refl
same_positional (entries_positional s ss) = ap₂ (λ b n. cond b 0 (suc n)) (ap₂ (λ b d. b && d) (same_last ss) (same_multiple s)) (same_positional ss)
same_positional (entries_named text s ss) = same_positional ss
same_positional (entries_keyed k s ss) = same_positional ss

-- how many others
same_other : {here there : Names} {entries others : List Entry} → SameEntries here there entries others → other_count entries ≡ other_count others
same_other entries_none = refl
same_other (entries_positional s ss) = same_other ss
same_other (entries_named text s ss) = ap suc (same_other ss)
same_other (entries_keyed k s ss) = ap suc (same_other ss)

-- pending items go into the table
same_set_list : {k : Bool} (line t n done : ℕ) → Agree k no_names no_names (set_list line t n done) (set_list line t n done)
same_set_list line t n done =
    let block = (done - 1) / 50 + 1 in
    either (nat_le block 511) (same_put line (Piece.Abc Op.SetList t n block)) (same_put line (Piece.Abc Op.SetList t n 0) then same_put line (Piece.Bare block)) then same_free_from (t + 1)

-- a last entry that is open
same_open_entry : {here there : Names} {c d : Coded} (line t done : ℕ) → Same here there c d → is_multiple c.e ≡ true → Agree true here there (open_entry line t done c) (open_entry line t done d)
same_open_entry line t done s is = s.multi is Op.Call None then same_set_list line t 0 (suc done)

-- an entry with a key
same_keyed : {here there more again : Names} {c d : Coded} {key other : Asks ℕ} (line t : ℕ) → AgreeAsks true here there key other → SameValue more again c d →
    Agree true (and_then here more) (and_then there again) (keyed_item line t key c) (keyed_item line t other d)
same_keyed line t k s = bind k (λ x. bind (same_rk s) (λ v. same_put line (Piece.Abc Op.SetTable t x v)))

-- items go into the table where fifty are pending
same_full : {k : Bool} (line t done pending : ℕ) → Agree k no_names no_names (full_end line t done pending) (full_end line t done pending)
same_full line t done pending = if_so (pending == 50) (same_set_list line t 50 done)

-- the entries from one on
same_entries : {here there : Names} {entries others : List Entry} (line t done pending : ℕ) → SameEntries here there entries others →
    Agree true here there (entries_from line t done pending entries) (entries_from line t done pending others)
same_entries line t done pending entries_none = if_so (nat_lt 0 pending) (same_set_list line t pending done)
same_entries line t done pending (entries_positional s entries_none) =
    chosen (same_multiple s) (same_open_entry line t done s)
    (same_next s.value then same_full line t (suc done) (suc pending) then same_entries line t (suc done) (pending_after (suc pending)) entries_none)
same_entries line t done pending (entries_positional s ss) =
    same_next s.value then same_full line t (suc done) (suc pending) then same_entries line t (suc done) (pending_after (suc pending)) ss
same_entries line t done pending (entries_named text s ss) = same_freeing (same_keyed line t (same_rk_text line text) s.value) then same_entries line t done pending ss
same_entries line t done pending (entries_keyed k s ss) = same_freeing (same_keyed line t (same_rk k.value) s.value) then same_entries line t done pending ss

-- a table
pub same_table_at : {here there : Names} {entries others : List Entry} (line : ℕ) → SameEntries here there entries others → Agree true here there (table_at line entries) (table_at line others)
same_table_at line ss =
    bind same_free (λ t.
    put_equal line (ap₂ (λ n k. Piece.Abc Op.NewTable t (size_hint n) (size_hint k)) (same_positional ss) (same_other ss)) then same_take 1
    then same_entries line t 0 0 ss then same_free_from (t + 1))

-- a constructor
pub same_table : {here there : Names} {entries others : List Entry} (line : ℕ) (fields more : Fields) → SameEntries here there entries others →
    Same here there (coded_table line fields entries) (coded_table line more others)
same_table {entries = entries} {others} line fields more ss =
    same_only
    (same_single line (constructor line fields) (constructor line more) (by_base line (table_at line entries)) (by_base line (table_at line others)) (look_plain refl refl refl refl refl refl refl)
    (same_by_base line (same_table_at line ss))) refl refl

-- ---- so many values

-- missing values are nil
same_nils : {k : Bool} (line n : ℕ) → Agree k no_names no_names (nils line n) (nils line n)
same_nils line n = bind same_free (λ first. same_take n then same_put line (Piece.Abc Op.LoadNil first (first + n - 1) 0))

-- there are fewer expressions than values
same_filled : {k : Bool} {here there : Names} {cs ds : List Coded} (line : ℕ) → AllSame here there cs ds → (missing : ℕ) → Agree k here there (filled line cs missing) (filled line ds missing)
same_filled line ss missing = chosen (same_ends_open ss) (same_all_multi Op.Call (Some (missing + 1)) ss) (same_all_next ss then same_nils line missing)

-- so many values, by the number of the expressions
abbrev adjust_by : (line count : ℕ) → List Coded → ℕ → Part
adjust_by line count cs n m = cond (nat_lt count n) (filled line cs (n - count)) (all_next cs >> free_from (m.free + n)) m

-- so many values
pub same_adjust : {k : Bool} {here there : Names} {cs ds : List Coded} (line : ℕ) → AllSame here there cs ds → (n : ℕ) → Agree k here there (adjust line cs n) (adjust line ds n)
same_adjust {k} {here} {there} {cs} {ds} line ss n =
    subst (λ count. Agree k here there (adjust line cs n) (adjust_by line count ds n)) (same_length ss)
    (bind same_free (λ free. either (nat_lt (length cs) n) (same_filled line ss (n - length cs)) (same_all_next ss then same_free_from (free + n))))
