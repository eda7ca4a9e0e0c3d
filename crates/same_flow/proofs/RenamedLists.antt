-- Lists of expressions, calls, constructors and closures: they make behind other labels what they make, where the expressions in them do.
use Rattle.std.proofs.Common.{ℕ, suc, ◌+◌, ◌-◌, not, List, [], ◌∷◌, length, refl}
use Rattle.std.specs.Prelude.{Some, None, nat_lt, nat_le, ◌==◌, ◌&&◌, ◌/◌}
use Rattle.lua_num.specs.Bytes.{Text}
use Rattle.lua_tree.specs.Scoping.{Use}
use Rattle.lua_tree.specs.Syntax.{Expression, vararg_expression, constructor, Fields, FunctionBody, function_expression}
use Rattle.opcode.specs.declared.op.Op.{Op}
use Rattle.scheme.specs.Making.{Part, Asks, put, where_is, Where, in_register, in_upvalue, in_globals}
use Rattle.scheme.specs.Expressions.{Want, count_field, Coded, is_multiple}
use Rattle.scheme.specs.Lists.{all_next, ends_open, all_multi, open_list, Given, results_at, call_at, method_at, by_base, coded_call, vararg_at, coded_vararg, Entry, positional_entry, named_entry, keyed_entry, is_last, positional_count, other_count, size_hint, set_list, open_entry, keyed_item, full_end, pending_after, entries_from, table_at, coded_table, nils, filled, adjust}
use Rattle.scheme.specs.Functions.{source_names, further_word, further_words, Inner, next_sources, without_sources, with_function, closure, coded_function}
use Rattle.scheme.specs.declared.making.Piece.{Piece}
use Rattle.same_flow.proofs.RenamedMakers.{SamePart, SameAsks, bind, ◌then◌, no_part, either, if_so, same_free, Stays, same_put, same_abc, same_abx, same_take, same_free_from, same_freeing}
use Rattle.same_flow.proofs.RenamedExpressions.{Same, same_next, same_operand, same_rk, same_rk_text, same_single, SameMulti, with_multi}

-- ---- lists

abbrev pub AllSame : List Coded → Type 0
AllSame [] = Unit {0}
AllSame (c ∷ cs) = Same c × AllSame cs

same_all_next : (cs : List Coded) → AllSame cs → SamePart (all_next cs)
same_all_next [] s = no_part
same_all_next (c ∷ cs) s = same_next s.0 then same_all_next cs s.1

same_all_multi : (op : Op) (want : Want) (cs : List Coded) → AllSame cs → SamePart (all_multi op want cs)
same_all_multi op want [] s = no_part
same_all_multi op want (c ∷ []) s = s.0.multi op want
same_all_multi op want (c ∷ d ∷ cs) s = same_next s.0 then same_all_multi op want (d ∷ cs) s.1

pub same_open : (cs : List Coded) → AllSame cs → SamePart (open_list cs)
same_open cs s = either (ends_open cs) (same_all_multi Op.Call None cs s) (same_all_next cs s)

-- ---- calls

same_results : (base : ℕ) (want : Want) → SamePart (results_at base want)
same_results base None = record { same = λ numbers labels m. refl }
same_results base (Some n) = record { same = λ numbers labels m. refl }

pub same_call_at : {on : Coded} (line : ℕ) (given : Given) → Same on → SamePart given.part → SameMulti (call_at line on given)
same_call_at line given s p op want =
    bind same_free (λ base. same_next s then p then same_abc line op base (count_field 1 given.count) (count_field 1 want) then same_results base want)

pub same_method_at : {on : Coded} (line : ℕ) (text : Text) (given : Given) → Same on → SamePart given.part → SameMulti (method_at line on text given)
same_method_at line text given s p op want =
    bind same_free (λ base.
    bind (same_operand s) (λ x. same_free_from base then same_take 2 then
    bind (same_rk_text line text) (λ y.
    same_abc line Op.Self_ base x y then same_free_from (base + 2) then p then same_abc line op base (count_field 2 given.count) (count_field 1 want) then same_results base want)))

same_by_base : {part : Part} (line : ℕ) → SamePart part → (r : ℕ) → SamePart (by_base line part r)
same_by_base line p r = bind same_free (λ base. p then if_so (not (base == r)) (same_abc line Op.Move r base 0))

pub same_call : (line : ℕ) (e : Expression) (at : Op → Want → Part) → SameMulti at → Same (coded_call line e at)
same_call line e at s = with_multi at (same_single line e (by_base line (at Op.Call (Some 1))) (same_by_base line (s Op.Call (Some 1)))) s

pub same_vararg : (line : ℕ) → Same (coded_vararg line)
same_vararg line =
    with_multi (vararg_at line)
    (same_single line (vararg_expression line) (λ r. put line (Piece.Abc Op.Vararg r 2 0)) (λ r. same_abc line Op.Vararg r 2 0))
    (λ op want. bind same_free (λ base. same_abc line Op.Vararg base (count_field 1 want) 0 then same_results base want))

-- ---- constructors

abbrev pub SameEntries : List Entry → Type 0
SameEntries [] = Unit {0}
SameEntries (positional_entry c ∷ entries) = Same c × SameEntries entries
SameEntries (named_entry text c ∷ entries) = Same c × SameEntries entries
SameEntries (keyed_entry key c ∷ entries) = (Same key × Same c) × SameEntries entries

same_set_list : (line t n done : ℕ) → SamePart (set_list line t n done)
same_set_list line t n done =
    let block = (done - 1) / 50 + 1 in
    either (nat_le block 511) (same_abc line Op.SetList t n block) (same_abc line Op.SetList t n 0 then same_put line (Piece.Bare block) (λ numbers. refl)) then same_free_from (t + 1)

same_open_entry : {c : Coded} (line t done : ℕ) → Same c → SamePart (open_entry line t done c)
same_open_entry line t done s = s.multi Op.Call None then same_set_list line t 0 (suc done)

same_keyed : {c : Coded} {key : Asks ℕ} (line t : ℕ) → SameAsks key → Same c → SamePart (keyed_item line t key c)
same_keyed line t k s = bind k (λ x. bind (same_rk s) (λ v. same_abc line Op.SetTable t x v))

same_full : (line t done pending : ℕ) → SamePart (full_end line t done pending)
same_full line t done pending = if_so (pending == 50) (same_set_list line t 50 done)

same_entries : (line t done pending : ℕ) (entries : List Entry) → SameEntries entries → SamePart (entries_from line t done pending entries)
same_entries line t done pending [] s = if_so (nat_lt 0 pending) (same_set_list line t pending done)
same_entries line t done pending (positional_entry c ∷ entries) s =
    either (is_last entries && is_multiple c.e)
    (same_open_entry line t done s.0)
    (same_next s.0 then same_full line t (suc done) (suc pending) then same_entries line t (suc done) (pending_after (suc pending)) entries s.1)
same_entries line t done pending (named_entry text c ∷ entries) s = same_freeing (same_keyed line t (same_rk_text line text) s.0) then same_entries line t done pending entries s.1
same_entries line t done pending (keyed_entry key c ∷ entries) s = same_freeing (same_keyed line t (same_rk s.0.0) s.0.1) then same_entries line t done pending entries s.1

pub same_table_at : (line : ℕ) (entries : List Entry) → SameEntries entries → SamePart (table_at line entries)
same_table_at line entries s =
    bind same_free (λ t.
    same_abc line Op.NewTable t (size_hint (positional_count entries)) (size_hint (other_count entries)) then same_take 1 then same_entries line t 0 0 entries s then same_free_from (t + 1))

pub same_table : (line : ℕ) (fields : Fields) (entries : List Entry) → SameEntries entries → Same (coded_table line fields entries)
same_table line fields entries s = same_single line (constructor line fields) (by_base line (table_at line entries)) (same_by_base line (same_table_at line entries s))

-- ---- so many values

same_nils : (line n : ℕ) → SamePart (nils line n)
same_nils line n = bind same_free (λ first. same_take n then same_abc line Op.LoadNil first (first + n - 1) 0)

same_filled : (line : ℕ) (cs : List Coded) → AllSame cs → (missing : ℕ) → SamePart (filled line cs missing)
same_filled line cs s missing = either (ends_open cs) (same_all_multi Op.Call (Some (missing + 1)) cs s) (same_all_next cs s then same_nils line missing)

pub same_adjust : (line : ℕ) (cs : List Coded) → AllSame cs → (n : ℕ) → SamePart (adjust line cs n)
same_adjust line cs s n = record {
  same = λ numbers labels m. (either (nat_lt (length cs) n) (same_filled line cs s (n - length cs)) (same_all_next cs s then same_free_from (m.free + n))).same numbers labels m;
}

-- ---- closures

further_stays : (w : Where) → Stays (further_word w)
further_stays (in_register r) numbers = refl
further_stays (in_upvalue slot) numbers = refl
further_stays in_globals numbers = refl

same_further : (line : ℕ) (uses : List Use) → SamePart (further_words line uses)
same_further line [] = no_part
same_further line (use' ∷ uses) = record {
  same = λ numbers labels m.
      let w = where_is use' m.active in
      (same_put line (further_word w) (further_stays w) then same_further line uses).same numbers labels m;
}

-- a function is made of the names of its upvalues and of what is ahead alone, whatever the labels around it
pub same_closure : (line : ℕ) (inner : Inner) (r : ℕ) → SamePart (closure line inner r)
same_closure line inner r = record {
  same = λ numbers labels m.
      let uses = next_sources m in
      let made = inner (source_names m uses) (without_sources m.ahead) in
      (same_abx line Op.Closure r (length m.functions) then same_further line uses).same numbers labels (with_function made m);
}

pub same_coded_function : (line : ℕ) (body : FunctionBody) (inner : Inner) → Same (coded_function line body inner)
same_coded_function line body inner = same_single line (function_expression line body) (closure line inner) (same_closure line inner)
