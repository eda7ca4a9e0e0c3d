-- No assignment is read where the lowest register, or the value that goes straight to the last target, holds a function that captures its own register.
use Rattle.std.proofs.Common.{◌≡◌, ℕ, zero, suc, ◌+◌, ◌<◌, ◌≤◌, true, false, nat_le, nat_lt, [], ◌∷◌, length, replicate, Option, Some, None, refl, sym, ap, ◌∙◌, subst, arith, inl, inr, ◌⊎◌, option_and_then, reverse}
use Rattle.std.proofs.lemmas.Bool.Decides.{nat_tests}
use Rattle.std.proofs.lemmas.List.{length-replicate}
use Rattle.std.specs.Prelude.{drop, slice_get}
use Rattle.core_expr.specs.Values.{Value}
use Rattle.recover_expr.specs.Assigning.{assigned, assigned_from, assignment_from, assignment_of, further_store, further_stores, stored_function, value_assignment}
use Rattle.recover_expr.specs.Drafts.{Drafted}
use Rattle.recover_expr.specs.Entries.{Entries}
use Rattle.recover_expr.specs.Lists.{Straight, straight_operand, straight_value}
use Rattle.recover_expr.specs.Situation.{Function, Situation, local_in, see, word_at}
use Rattle.recover_expr.specs.Stores.{Assigning, StoredValue, add_further, are_all, from_register, none_used, operand_stored, register_stored, store_of, straight}
use Rattle.recover_expr.specs.declared.function.Word.{Word}
use Rattle.recover_expr.specs.declared.stores.Place.{Place}
use Rattle.recover_expr.specs.declared.stores.Store.{Store}
use Rattle.reads_back.proofs.EachSome.{Each, each_if, each_map, each_next, each_of, each_some, each_tested, each_then, each_there, each_where}
use Rattle.reads_back.proofs.ListsRefused.{last_own}
use Rattle.reads_back.proofs.OwnFirst.{first_own, own_in}
use Rattle.reads_back.proofs.OwnValues.{holds_own}
use Rattle.reads_back.proofs.OwnWords.{sees_entries}
use Rattle.reads_back.proofs.PartsUsed.{none_unused}
use Rattle.reads_back.proofs.StoredTargets.{unused}
use Rattle.reads_back.proofs.StoresRefused.{assigned_first, none_unnamed, statement_refused, straight_none, targets_empty}
use Rattle.reads_back.proofs.Tests.{not_so}
use Rattle.reads_back.proofs.UsedPlaces.{Accounts, add_counts, all_counted, further_counts}

-- ---- where entries stand

none_counts : (base count : ℕ) → 0 < count → Accounts base (none_used count)
none_counts base count some = record { left = sym (none_unused count); some = omega (arith, some, length-replicate count false); first = λ set. by count set }
  where
    by : (count : ℕ) {A : Type 0} → slice_get (replicate count false) 0 ≡ Some true → A
    by zero set = absurd cc
    by (suc count) set = absurd cc

counted_refused : (f : Function) (last : Option Straight) (next : ℕ) (s : Situation) (a : Assigning) → first_own s.entries ≡ true → Accounts s.base a → unused a.used ≤ length s.entries → (last ≡ None) ⊎ (2 ≤ length a.stores + a.low) → Each (λ p. ⊥) (assigned_from f last next s a)
counted_refused f last next s a own accounts few many =
    each_then (all_counted f (length s.entries) (a, next, s) accounts few) (λ q all.
    assigned_first f q.0 last q.1 q.2 (ap first_own all.same ∙ own) (subst (λ (base : ℕ). Accounts base q.0) (sym all.at) all.accounts) all.none (subst (λ (total : ℕ). (last ≡ None) ⊎ (2 ≤ total)) (sym all.many) many))

some_there : (entries : Entries) → first_own entries ≡ true → 0 < length entries
some_there [] own = not_so own
some_there (entry ∷ entries) own = omega arith

straight_counts : (f : Function) (next : ℕ) (s : Situation) (first : Store) (last : Straight) → first_own s.entries ≡ true → Each (λ a. Each (λ (p : Drafted × Situation). ⊥) (assigned_from f (Some last) next s a)) (straight s.base (length s.entries) first)
straight_counts f next s first last own =
    let count = length s.entries in
    let some = some_there s.entries own in
    each_of (add_counts s.base first (none_used count) (none_counts s.base count some)) (λ a added.
    let fewer = added.fewer in
    let many = added.many in
    let nothing : length (none_used count).stores ≡ 0 = refl in
    let low : (none_used count).low ≡ count = refl in
    let none : unused (none_used count).used ≡ count = none_unused count in
    counted_refused f (Some last) next s a own added.accounts (omega (arith, fewer, none)) (inr (omega (arith, many, nothing, low, some))))

register_counts : (f : Function) (next : ℕ) (s : Situation) (first : Store) (place : ℕ) → first_own s.entries ≡ true → Each (λ a. Each (λ (p : Drafted × Situation). ⊥) (assigned_from f None next s a)) (from_register s.base (length s.entries) first place)
register_counts f next s first place own =
    each_tested (nat_lt place (length s.entries)) (λ holds.
    let within : place < length s.entries = grind (arith, nat_tests) in
    let some : 0 < place + 1 = omega arith in
    let none : unused (none_used (place + 1)).used ≡ place + 1 = none_unused (place + 1) in
    each_of (further_counts s.base first (register_stored place) (none_used (place + 1)) (none_counts s.base (place + 1) some)) (λ a further.
    let fewer = further.fewer in
    counted_refused f None next s a own further.accounts (omega (arith, fewer, none, within)) (inl refl)))

-- ---- where none stands

further_same : (f : Function) (a : Assigning) (pc : ℕ) (s : Situation) → Each (λ q. q.2.entries ≡ s.entries) (further_store f a pc s)
further_same f a pc s = each_where (nat_lt pc f.last) (each_next (word_at f pc) (λ w. each_next (store_of f w (see w.instr s)) (λ store. each_map _ (each_there {o = add_further (see w.instr s).base store.0 store.1 a}) (λ b there. sees_entries w.instr s))))

all_same : (f : Function) (count : ℕ) (p : Assigning × ℕ × Situation) → Each (λ q. q.2.entries ≡ p.2.entries) (further_stores f count p)
all_same f zero p = each_some refl
all_same f (suc count) p = each_if (are_all p.0) (each_some refl) (each_then (further_same f p.0 p.1 p.2) (λ q same. each_of (all_same f count q) (λ r more. more ∙ same)))

none_left : (low : ℕ) (entries : Entries) → entries ≡ [] → drop low entries ≡ []
none_left zero entries is = is
none_left (suc low) entries is = ap (drop (suc low)) is

assigned_empty : (f : Function) (a : Assigning) (last : Option Straight) (next : ℕ) (s : Situation) → s.entries ≡ [] → last_own last ≡ true → Each (λ p. ⊥) (assigned f a last next s)
assigned_empty f a last next s empty own =
    each_then (targets_empty f a.low (reverse a.stores) [] s empty) (λ targets is.
    each_then {Holds = λ (values : Entries × Entries). values.0 ≡ []} (each_where (nat_le a.low (length targets.1.entries)) (each_some (none_left a.low targets.1.entries is))) (λ values none.
    let t = record targets.1 { entries = values.1 } in
    each_then (none_unnamed f t targets.0 (stored_function last values.0) (ap (stored_function last) none ∙ straight_none last own)) (λ named unnamed.
    statement_refused f a.stores last next targets.0 values.0 t named unnamed (inr (ap (own_in (last_own last)) none ∙ own)))))

empty_refused : (f : Function) (last : Option Straight) (next : ℕ) (s : Situation) (a : Assigning) → s.entries ≡ [] → last_own last ≡ true → Each (λ p. ⊥) (assigned_from f last next s a)
empty_refused f last next s a empty own = each_then (all_same f (length s.entries) (a, next, s)) (λ q same. assigned_empty f q.0 last q.1 q.2 (same ∙ empty) own)

-- ---- assignments

pub assignment_refused : (f : Function) (w : Word) (s : Situation) → first_own s.entries ≡ true → Each (λ p. ⊥) (assignment_from f w s)
assignment_refused f w s own = each_next (store_of f w s) (λ p. by p.0 p.1)
  where
    by : (first : Store) (stored : StoredValue) → Each (λ p. ⊥) (assignment_of f w s first stored)
    by first (operand_stored o) = each_then (straight_counts f w.next s first (straight_operand o) own) (λ a refused. refused)
    by first (register_stored place) = each_then (register_counts f w.next s first place own) (λ a refused. refused)

pub value_assignment_refused : (f : Function) (w : Word) (v : Value) (next : ℕ) (s : Situation) → own_in (holds_own v) s.entries ≡ true → Each (λ p. ⊥) (value_assignment f w v next s)
value_assignment_refused f w v next s own = each_next (local_in f s w.instr.a) (λ there. by s.entries refl own)
  where
    first : Store
    first = record { pc = w.pc; place = Place.Local w.instr.a }

    by : (entries : Entries) → s.entries ≡ entries → own_in (holds_own v) entries ≡ true → Each (λ p. ⊥) (option_and_then (assigned_from f (Some (straight_value v)) next s) (straight s.base (length s.entries) first))
    by [] is own = each_next (straight s.base (length s.entries) first) (λ a. empty_refused f (Some (straight_value v)) next s a is own)
    by (entry ∷ entries) is own = each_then (straight_counts f next s first (straight_value v) (ap first_own is ∙ own)) (λ a refused. refused)
