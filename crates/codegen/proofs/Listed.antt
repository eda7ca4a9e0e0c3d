-- Lists of values, and assignments of them, by their lengths.
use Rattle.std.proofs.Common.{◌≡◌, ℕ, zero, suc, ◌+◌, ◌-◌, ◌≤◌, ◌<◌, Bool, false, cond, List, [], ◌∷◌, ◌++◌, length, drop, get_or, refl, sym, ap, ◌∙◌, arith, length-drop, Option, Some, None}
use Rattle.std.specs.Prelude.{nat_lt}
use Rattle.std.proofs.lemmas.Bool.{le-ltb, lt-ltb}
use Rattle.lua_tree.specs.Syntax.{Expression}
use Rattle.lua_tree.specs.View.{view_exp}
use Rattle.lua_tree.specs.TreeLists.{expressions_of}
use Rattle.lua_tree.specs.declared.tree.Exp.{Exp}
use Rattle.scheme.specs.Making.{Maker, free_from, new_label, jump_to, place}
use Rattle.scheme.specs.Expressions as expressions
use Rattle.scheme.specs.Expressions.{Coded, next_reg, decide, local_register, logic_here}
use Rattle.scheme.specs.Lists.{all_next, filled, adjust, ends_open, list_count}
use Rattle.scheme.specs.Statements.{each_stored, store, store_register}
use Rattle.scheme.specs.Scheme.{coded, all_coded}
use Rattle.code_builder.specs.declared.names.Place.{Place}
use Rattle.codegen.specs.declared.stores.Target.{Target}
use Rattle.codegen.specs.Targets.{target_of, targets_of, stored_back}
use Rattle.codegen.proofs.Parts.{coded_e}
use Rattle.codegen.proofs.Steps.{from_place, at_end, coded-length}
use Rattle.codegen.proofs.Assigned.{stored_back-more}

-- ---- as many values as are wanted

abbrev by_length : (line n : ℕ) → List Coded → Maker → ℕ → Maker
by_length line n cs m len = cond (nat_lt len n) (filled line cs (n - len)) (λ x. free_from (m.free + n) (all_next cs x)) m

pub adjust-filled : (line n : ℕ) (list : List Exp) (m : Maker) → length list < n → filled line (all_coded (expressions_of list)) (n - length list) m ≡ adjust line (all_coded (expressions_of list)) n m
adjust-filled line n list m h =
    sym (ap (by_length line n (all_coded (expressions_of list)) m) (coded-length list)
    ∙ ap (λ b. cond b (filled line (all_coded (expressions_of list)) (n - length list)) (λ x. free_from (m.free + n) (all_next (all_coded (expressions_of list)) x)) m) (lt-ltb (length list) n h))

pub adjust-all : (line n : ℕ) (list : List Exp) (m : Maker) → n ≤ length list → free_from (m.free + n) (all_next (all_coded (expressions_of list)) m) ≡ adjust line (all_coded (expressions_of list)) n m
adjust-all line n list m h =
    sym (ap (by_length line n (all_coded (expressions_of list)) m) (coded-length list)
    ∙ ap (λ b. cond b (filled line (all_coded (expressions_of list)) (n - length list)) (λ x. free_from (m.free + n) (all_next (all_coded (expressions_of list)) x)) m) (le-ltb (length list) n h))

pub list_count-closed : (list : List Exp) (x : ℕ) → false ≡ ends_open (all_coded (expressions_of list)) → x ≡ length list → Some x ≡ list_count (all_coded (expressions_of list))
list_count-closed list x closed same =
    ap Some (same ∙ sym (coded-length list)) ∙ ap (λ b. cond b None (Some (length (all_coded (expressions_of list))))) closed

-- ---- `and` and `or`

abbrev pub logic_by : (line : ℕ) → (truth : Bool) → (left right : Coded) → ℕ → Option ℕ → Maker → Maker
logic_by line truth left right r x m =
    let decided = decide line truth left r x m in
    let label = new_label decided in
    place label.value (right.to_reg r (jump_to line label.value label.after))

pub logic_here-by : (line : ℕ) (truth : Bool) (left : Expression) (right : Coded) (r : ℕ) (m : Maker) → logic_by line truth (coded left) right r (local_register left m) m ≡ logic_here line truth (coded left) right r m
logic_here-by line truth left right r m = ap (λ e. logic_by line truth (coded left) right r (local_register e m) m) (sym (coded_e left))

-- ---- as many values as targets

-- what stands where there is no target
abbrev pub no_target : Target
no_target = Target.Name (record { ref_ptr = (0, 0); now = [] }) (Place.Register 0)

target_at : (targets : List Target) (i : ℕ) (d : Target) → target_of (get_or targets i d) ≡ get_or (targets_of targets) i (target_of d)
target_at [] zero d = refl
target_at [] (suc i) d = refl
target_at (t ∷ targets) zero d = refl
target_at (t ∷ targets) (suc i) d = target_at targets i d

pub targets_length : (targets : List Target) → length (targets_of targets) ≡ length targets
targets_length [] = refl
targets_length (t ∷ targets) = ap suc (targets_length targets)

each_followed : (line : ℕ) (target : expressions.Target) (targets : List Target) (c : Coded) (cs : List Coded) (m : Maker) → 1 ≤ length targets →
    each_stored line (target ∷ targets_of targets) (c ∷ cs) m ≡ store_register line target m.free (each_stored line (targets_of targets) cs (next_reg c m))
each_followed line target [] c cs m h = absurd (omega (arith, h))
each_followed line target (other ∷ targets) c cs m h = refl

pub each_stored-next : (line i : ℕ) (targets : List Target) (list : List Exp) (e d : Exp) (dt : Target) (rs : List ℕ) (r : ℕ) (m : Maker) →
    length rs ≡ i → i + 1 < length list → length targets ≡ length list → e ≡ get_or list i d → r ≡ m.free →
    stored_back line (targets_of targets) (rs ++ r ∷ []) (each_stored line (targets_of (drop (i + 1) targets)) (all_coded (expressions_of (drop (i + 1) list))) (next_reg (coded (view_exp e)) m))
    ≡ stored_back line (targets_of targets) rs (each_stored line (targets_of (drop i targets)) (all_coded (expressions_of (drop i list))) m)
each_stored-next line i targets list e d dt rs r m count more lengths same free =
    let t = get_or targets i dt in
    let rest : Maker = each_stored line (targets_of (drop (i + 1) targets)) (all_coded (expressions_of (drop (i + 1) list))) (next_reg (coded (view_exp e)) m) in
    let here = ap (λ n. target_of (get_or targets n dt)) (sym count) ∙ target_at targets (length rs) dt in
    stored_back-more line (targets_of targets) rs r (target_of t) (target_of dt) rest (omega (arith, targets_length targets, count, more, lengths)) here
    ∙ ap (λ x. stored_back line (targets_of targets) rs (store_register line (target_of t) x rest)) free
    ∙ ap (stored_back line (targets_of targets) rs)
    (sym (each_followed line (target_of t) (drop (i + 1) targets) (coded (view_exp e)) (all_coded (expressions_of (drop (i + 1) list))) m (omega (arith, length-drop (i + 1) targets, more, lengths)))
    ∙ sym (ap (λ xs. each_stored line (targets_of xs) (coded (view_exp e) ∷ all_coded (expressions_of (drop (i + 1) list))) m) (from_place targets i t dt (omega (arith, more, lengths)) refl))
    ∙ sym (ap (λ xs. each_stored line (targets_of (drop i targets)) (all_coded (expressions_of xs)) m) (from_place list i e d (omega (arith, more)) same)))

pub each_stored-end : (line i : ℕ) (targets : List Target) (list : List Exp) (e d : Exp) (t dt : Target) (m n : Maker) →
    i + 1 ≡ length list → length targets ≡ length list → e ≡ get_or list i d → t ≡ get_or targets i dt → n ≡ store line (target_of t) (coded (view_exp e)) m →
    each_stored line (targets_of (drop (i + 1) targets)) (all_coded (expressions_of (drop (i + 1) list))) n
    ≡ each_stored line (targets_of (drop i targets)) (all_coded (expressions_of (drop i list))) m
each_stored-end line i targets list e d t dt m n last lengths same same_target stored =
    let none = at_end targets i (last ∙ sym lengths) in
    let none_left = at_end list i last in
    ap (λ xs. each_stored line (targets_of xs) (all_coded (expressions_of (drop (i + 1) list))) n) none
    ∙ ap (λ xs. each_stored line [] (all_coded (expressions_of xs)) n) none_left
    ∙ stored
    ∙ sym (ap (λ xs. each_stored line (targets_of xs) (coded (view_exp e) ∷ []) m) (from_place targets i t dt (omega (arith, last, lengths)) same_target ∙ ap (λ xs. t ∷ xs) none))
    ∙ sym (ap (λ xs. each_stored line (targets_of (drop i targets)) (all_coded (expressions_of xs)) m) (from_place list i e d (omega (arith, last)) same ∙ ap (λ xs. e ∷ xs) none_left))
