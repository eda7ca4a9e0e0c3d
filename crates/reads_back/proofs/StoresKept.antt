-- Lists of values and assignments capture no locals.
use Rattle.std.proofs.Common.{◌≡◌, refl, if◌then◌else◌, ℕ, zero, suc, ◌&&◌, Bool, true, false, nat_le, nat_lt, List, [], ◌∷◌, ◌++◌, length, Option, Some, None, reverse}
use Rattle.std.specs.Prelude.{◌==◌}
use Rattle.lua_num.specs.Bytes.{Text}
use Rattle.lua_tree.specs.Syntax.{FunctionBody, function_statement}
use Rattle.core_expr.specs.Held.{wordings_with}
use Rattle.core_expr.specs.Targets.{TargetValue}
use Rattle.core_expr.specs.Values.{Value, Values, value_operand}
use Rattle.core_expr.specs.Writing.{Wordings}
use Rattle.recover_expr.specs.Assigning.{function_as, last_name, names_before_last, takes_self, without_self, as_statement, assigned, no_targets, assigned_from, assignment_from, assignment_of, further_store, further_stores, held, held_at, held_operand, named_function, target_of, targets, targets_of, targets_written, value_assignment}
use Rattle.recover_expr.specs.Drafts.{statement_part}
use Rattle.recover_expr.specs.Entries.{Entries, place_in, singles_of}
use Rattle.recover_expr.specs.Lists.{Straight, adjusted, adjusted_list, all_of, assigned_values, before_last, ends_with_nil, first_place, leading, list_and_straight, split_last, stored_to, stored_values, straight_operand, straight_value, straight_written, value_count}
use Rattle.recover_expr.specs.Situation.{Function, Situation, local_in, see, word_at}
use Rattle.recover_expr.specs.Stores.{Assigning, StoredValue, are_all, from_register, operand_stored, register_stored, store_of, straight}
use Rattle.recover_expr.specs.declared.function.Word.{Word}
use Rattle.recover_expr.specs.declared.stores.Place.{Place}
use Rattle.recover_expr.specs.declared.stores.Store.{Store}
use Rattle.reads_back.proofs.EachSome.{Each, each_if, each_map, each_next, each_of, each_some, each_then, each_there, each_where}
use Rattle.reads_back.proofs.OwnEntries.{part_none, take_from_none}
use Rattle.reads_back.proofs.ScopesRead.{EndsKept, Keeps, body_kept, ends_kept, ends_then, is_local_function, keeps_entries, keeps_same, kept_then, list_kept, operand_kept, sees_kept, target_kept, value_kept}

-- ---- lists

pub adjusted_kept : (f : Function) (places : ℕ) (may_be_none : Bool) (taken : ℕ) (entries : Entries) (s : Situation) → Each (λ p. Keeps s p.2) (adjusted f places may_be_none taken entries s)
adjusted_kept f places may_be_none taken entries s = each_next (adjusted_list places may_be_none entries) (λ list. list_kept f taken list s)

straight_kept : (f : Function) (taken : ℕ) (last : Straight) (s : Situation) → Each (λ p. Keeps s p.2) (straight_written f taken last s)
straight_kept f taken (straight_value v) s = value_kept f taken v s
straight_kept f taken (straight_operand o) s = operand_kept f taken o s

and_last_kept : (f : Function) (taken : ℕ) (values : Values) (last : Straight) (s : Situation) → Each (λ p. Keeps s p.2) (list_and_straight f taken values last s)
and_last_kept f taken values last s = each_then (list_kept f taken (all_of values) s) (λ list kept. each_map _ (straight_kept f list.1 last list.2) (λ one more. kept_then kept more))

stored_kept : (f : Function) (place : Option Place) (count taken : ℕ) (values : Values) (s : Situation) → Each (λ p. Keeps s p.2) (stored_to f place count taken values s)
stored_kept f (Some (Place.Index on key)) count taken values s = each_next (split_last values) (λ p. and_last_kept f taken p.0 (straight_operand (value_operand p.1)) s)
stored_kept f (Some (Place.Local r)) count taken values s =
    each_if (nat_lt 1 count && ends_with_nil values) (list_kept f taken (record { values = before_last (split_last values); all = false }) s) (list_kept f taken (all_of values) s)
stored_kept f place count taken values s = list_kept f taken (all_of values) s

stored_values_kept : (f : Function) (stores : List Store) (taken : ℕ) (entries : Entries) (s : Situation) → Each (λ p. Keeps s p.2) (stored_values f stores taken entries s)
stored_values_kept f stores taken entries s =
    each_if (nat_lt (leading entries) (length entries)) (adjusted_kept f (length stores) false taken entries s)
    (each_next (singles_of entries) (λ values. each_if (value_count values == length stores) (stored_kept f (first_place stores) (length stores) taken values s) (list_kept f taken (all_of values) s)))

assigned_values_kept : (f : Function) (stores : List Store) (taken : ℕ) (entries : Entries) (last : Option Straight) (s : Situation) → Each (λ p. Keeps s p.2) (assigned_values f stores taken entries last s)
assigned_values_kept f stores taken entries None s = stored_values_kept f stores taken entries s
assigned_values_kept f stores taken entries (Some last) s = each_next (singles_of entries) (λ values. and_last_kept f taken values last s)

-- ---- targets

pub held_kept : (f : Function) (register low : ℕ) (s : Situation) → Each (λ p. Keeps s p.1) (held f register low s)
held_kept f register low s = by (place_in s.base register)
  where
    by : (place : Option ℕ) → Each (λ p. Keeps s p.1) (held_at f s register low place)
    by None = each_map _ each_there (λ v is. keeps_same s)
    by (Some place) = each_where (nat_lt place low) (each_map _ (part_none place s.entries) (λ p less. keeps_entries s p.1 less))

held_operand_kept : (f : Function) (operand low : ℕ) (s : Situation) → Each (λ p. Keeps s p.1) (held_operand f operand low s)
held_operand_kept f operand low s = each_if (nat_le 256 operand) (each_map _ each_there (λ k is. keeps_same s)) (each_map _ (held_kept f operand low s) (λ p kept. kept))

pub target_of_kept : (f : Function) (low : ℕ) (place : Place) (s : Situation) → Each (λ p. Keeps s p.1) (target_of f low place s)
target_of_kept f low (Place.Local r) s = each_some (keeps_same s)
target_of_kept f low (Place.Upvalue u) s = each_some (keeps_same s)
target_of_kept f low (Place.Global k) s = each_some (keeps_same s)
target_of_kept f low (Place.Index on key) s = each_then (held_kept f on low s) (λ p kept. each_map _ (held_operand_kept f key low p.1) (λ q more. kept_then kept more))

targets_of_kept : (f : Function) (low : ℕ) (stores : List Store) (sofar : List TargetValue) (s : Situation) → Each (λ p. Keeps s p.1) (targets_of f low stores sofar s)
targets_of_kept f low [] sofar s = each_some (keeps_same s)
targets_of_kept f low (store ∷ stores) sofar s =
    each_then (target_of_kept f low store.place s) (λ p kept. each_of (targets_of_kept f low stores (sofar ++ p.0 ∷ []) p.1) (λ q more. kept_then kept more))

targets_written_kept : (f : Function) (targets : List TargetValue) (sofar : Wordings × ℕ × Situation) → Each (λ p. Keeps sofar.2 p.2) (targets_written f targets sofar)
targets_written_kept f [] sofar = each_some (keeps_same sofar.2)
targets_written_kept f (t ∷ ts) sofar =
    each_then (target_kept f sofar.1 t sofar.2) (λ w kept. each_of (targets_written_kept f ts (wordings_with sofar.0 w.0, w.1, w.2)) (λ q more. kept_then kept more))

-- ---- the statement of stores

function_plain : (path : List Text) (body : FunctionBody) → is_local_function (statement_part (function_as path body)) ≡ false
function_plain path body = by (nat_lt 1 (length path) && takes_self body)
  where
    by : (method : Bool) → is_local_function (statement_part (if method then function_statement (names_before_last path) (last_name path) (without_self body) else function_statement path None body)) ≡ false
    by true = refl
    by false = refl

statement_kept : (f : Function) (stores : List Store) (last : Option Straight) (next : ℕ) (targets : List TargetValue) (entries : Entries) (s : Situation) (named : Option (List Text × ℕ)) →
    Each (EndsKept s) (as_statement f stores last next targets entries s named)
statement_kept f stores last next targets entries s (Some named) = each_map _ (body_kept named.1 s) (λ p kept. ends_kept kept tt (function_plain named.0 p.0.body))
statement_kept f stores last next targets entries s None =
    each_then (targets_written_kept f targets (no_targets, s.taken, s)) (λ written kept. each_map _ (assigned_values_kept f stores written.1 entries last written.2) (λ values more. ends_kept (kept_then kept more) tt refl))

assigned_kept : (f : Function) (a : Assigning) (last : Option Straight) (next : ℕ) (s : Situation) → Each (EndsKept s) (assigned f a last next s)
assigned_kept f a last next s =
    each_then (targets_of_kept f a.low (reverse a.stores) [] s) (λ targets kept.
    each_then (take_from_none a.low targets.1.entries) (λ values less.
    each_next (named_function f (record targets.1 { entries = values.1 }) targets.0 values.0 last) (λ named.
    each_of (statement_kept f a.stores last next targets.0 values.0 (record targets.1 { entries = values.1 }) named) (λ q ended. ends_then (kept_then kept (keeps_entries targets.1 values.1 less)) ended))))

-- ---- further stores

further_kept : (f : Function) (a : Assigning) (pc : ℕ) (s : Situation) → Each (λ p. Keeps s p.2) (further_store f a pc s)
further_kept f a pc s = each_where (nat_lt pc f.last) (each_next (word_at f pc) (λ w.
    each_next (store_of f w (see w.instr s)) (λ store. each_map _ each_there (λ more is. sees_kept w.instr s))))

further_stores_kept : (f : Function) (count : ℕ) (p : Assigning × ℕ × Situation) → Each (λ q. Keeps p.2 q.2) (further_stores f count p)
further_stores_kept f zero p = each_some (keeps_same p.2)
further_stores_kept f (suc count) p =
    each_if (are_all p.0) (each_some (keeps_same p.2)) (each_then (further_kept f p.0 p.1 p.2) (λ q kept. each_of (further_stores_kept f count q) (λ r more. kept_then kept more)))

assigned_from_kept : (f : Function) (last : Option Straight) (next : ℕ) (s : Situation) (a : Assigning) → Each (EndsKept s) (assigned_from f last next s a)
assigned_from_kept f last next s a =
    each_then (further_stores_kept f (length s.entries) (a, next, s)) (λ p kept. each_of (assigned_kept f p.0 last p.1 p.2) (λ q ended. ends_then kept ended))

assignment_of_kept : (f : Function) (w : Word) (s : Situation) (first : Store) (stored : StoredValue) → Each (EndsKept s) (assignment_of f w s first stored)
assignment_of_kept f w s first (operand_stored o) = each_next (straight s.base (length s.entries) first) (λ a. assigned_from_kept f (Some (straight_operand o)) w.next s a)
assignment_of_kept f w s first (register_stored place) = each_next (from_register s.base (length s.entries) first place) (λ a. assigned_from_kept f None w.next s a)

-- an assignment whose first store is a word
pub assignment_kept : (f : Function) (w : Word) (s : Situation) → Each (EndsKept s) (assignment_from f w s)
assignment_kept f w s = each_next (store_of f w s) (λ p. assignment_of_kept f w s p.0 p.1)

-- an assignment whose first store is that of a value that goes straight into a local
pub value_assignment_kept : (f : Function) (w : Word) (v : Value) (next : ℕ) (s : Situation) → Each (EndsKept s) (value_assignment f w v next s)
value_assignment_kept f w v next s = each_next (local_in f s w.instr.a) (λ there.
    each_next (straight s.base (length s.entries) (record { pc = w.pc; place = Place.Local w.instr.a })) (λ a. assigned_from_kept f (Some (straight_value v)) next s a))
