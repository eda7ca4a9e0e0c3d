-- No assignment stores a function that captures its own register, or has it in a target.
use Rattle.std.proofs.Common.{◌≡◌, ℕ, zero, suc, ◌+◌, ◌-◌, ◌<◌, ◌≤◌, ◌&&◌, Bool, true, false, nat_le, nat_lt, List, [], ◌∷◌, ◌++◌, length, length-append, reverse, Option, Some, None, refl, sym, ap, ◌∙◌, subst, arith, inl, inr, ◌⊎◌, option_map, if◌then◌else◌}
use Rattle.std.proofs.Math.Bool.{or_comm}
use Rattle.std.proofs.lemmas.Bool.Decides.{nat_tests}
use Rattle.std.proofs.lemmas.List.{length-reverse, reverse-append}
use Rattle.std.proofs.lemmas.List.Folds.{list_any-append}
use Rattle.std.specs.List.{list_any}
use Rattle.std.specs.Prelude.{◌||◌, drop, slice_get, slice_set}
use Rattle.lua_num.specs.Bytes.{Text}
use Rattle.core_expr.specs.Held.{wordings_with}
use Rattle.core_expr.specs.Targets.{TargetValue, can_have_path, can_write_target, index_target}
use Rattle.core_expr.specs.Values.{OperandValue, Value, constant_operand, function_value, local_value, value_operand}
use Rattle.core_expr.specs.Writing.{Wording, Wordings}
use Rattle.recover_expr.specs.Assigning.{as_statement, assigned, function_number, held, held_at, held_operand, named_as, no_targets, stored_function, target_of, targets_of, targets_written, with_number, with_values}
use Rattle.recover_expr.specs.Drafts.{Drafted}
use Rattle.recover_expr.specs.Entries.{EntryValue, Entries, held_entry, is_temporary, maker_entry, part, part_at, place_in, single_of, value_entry}
use Rattle.recover_expr.specs.Lists.{Straight, straight_operand, straight_value}
use Rattle.recover_expr.specs.Situation.{Function, Situation, constant_in, local_in, place_in_step}
use Rattle.recover_expr.specs.Stores.{Assigning}
use Rattle.recover_expr.specs.Writing.{target_written}
use Rattle.recover_expr.specs.declared.stores.Place.{Place}
use Rattle.recover_expr.specs.declared.stores.Store.{Store}
use Rattle.reads_back.proofs.EachSome.{Each, each_both, each_if, each_map, each_next, each_none, each_of, each_refused, each_some, each_then, each_there, each_where}
use Rattle.reads_back.proofs.ListsRefused.{assigned_refused, last_own}
use Rattle.reads_back.proofs.OwnFirst.{first_own, own_in, own_still}
use Rattle.reads_back.proofs.OwnValues.{holds_own, operand_own, path_unsaid, target_not_written, target_own}
use Rattle.reads_back.proofs.StoredTargets.{unused}
use Rattle.reads_back.proofs.StoresKept.{held_kept, target_of_kept}
use Rattle.reads_back.proofs.Tests.{and_not, not_so, or_first, or_second}
use Rattle.reads_back.proofs.UsedPlaces.{Accounts, is_lowest, part_lowest, place_lowest, stores_lowest}

-- ---- targets

-- it is taken into a part of a target, or stays in the lowest entry, where that is no part
abbrev TakenOr : (taken : Bool) → Entries → (lowest : Bool) → Type 0
TakenOr taken entries lowest = (taken ≡ true) ⊎ ((first_own entries ≡ true) × (lowest ≡ false))

part_own : (place : ℕ) (entries : Entries) → first_own entries ≡ true → Each (λ p. TakenOr (holds_own p.0) p.1 (is_lowest (Some place))) (part place entries)
part_own place [] own = not_so own
part_own zero (value_entry (local_value r) ∷ entries) own = not_so own
part_own zero (value_entry v ∷ entries) own = each_some (inl own)
part_own zero (maker_entry items all ∷ entries) own = not_so own
part_own zero (entry ∷ entries) own = each_none
part_own (suc place) (entry ∷ entries) own = by (slice_get entries place)
  where
    by : (there : Option EntryValue) → Each (λ p. TakenOr (holds_own p.0) p.1 false) (part_at (suc place) (entry ∷ entries) there)
    by None = each_none
    by (Some (value_entry (local_value r))) = each_some (inr (own, refl))
    by (Some other) = each_map (λ v. (v, slice_set (entry ∷ entries) (suc place) held_entry)) (each_there {o = single_of other}) (λ v is. inr (own, refl))

held_own : (f : Function) (register low : ℕ) (s : Situation) → first_own s.entries ≡ true → Each (λ p. TakenOr (holds_own p.0) p.1.entries (part_lowest s.base register)) (held f register low s)
held_own f register low s own = by (place_in s.base register)
  where
    with_part : (temporary lowest : Bool) (taken : Bool) (entries : Entries) → TakenOr taken entries lowest → TakenOr taken entries (temporary && lowest)
    with_part temporary lowest taken entries (inl is) = inl is
    with_part temporary lowest taken entries (inr is) = inr (is.0, ap (λ lowest. temporary && lowest) is.1 ∙ and_not temporary)

    by : (place : Option ℕ) → Each (λ p. TakenOr (holds_own p.0) p.1.entries (is_temporary s.base register && is_lowest place)) (held_at f s register low place)
    by None = each_map _ (each_there {o = local_in f s register}) (λ v is. inr (own, and_not (is_temporary s.base register)))
    by (Some place) = each_where (nat_lt place low) (each_map _ (part_own place s.entries own) (λ p is. with_part (is_temporary s.base register) (is_lowest (Some place)) (holds_own p.0) p.1 is))

held_operand_own : (f : Function) (operand low : ℕ) (s : Situation) → first_own s.entries ≡ true → Each (λ p. TakenOr (operand_own p.0) p.1.entries (part_lowest s.base operand)) (held_operand f operand low s)
held_operand_own f operand low s own = by (nat_le 256 operand) refl
  where
    no_part : nat_le 256 operand ≡ true → part_lowest s.base operand ≡ false
    no_part is =
        let far : nat_lt operand 256 ≡ false = grind (arith, nat_tests) in
        ap (λ near. (nat_le s.base operand && near) && is_lowest (place_in s.base operand)) far ∙ ap (λ temporary. temporary && is_lowest (place_in s.base operand)) (and_not (nat_le s.base operand))

    by : (constant : Bool) → nat_le 256 operand ≡ constant → Each (λ (p : OperandValue × Situation). TakenOr (operand_own p.0) p.1.entries (part_lowest s.base operand)) (if constant then option_map (λ k. (constant_operand k, s)) (constant_in f (operand - 256)) else option_map (λ (p : Value × Situation). (value_operand p.0, p.1)) (held f operand low s))
    by true is = each_map _ (each_there {o = constant_in f (operand - 256)}) (λ k there. inr (own, no_part is))
    by false is = each_map _ (held_own f operand low s own) (λ p is. is)

target_taken : (f : Function) (low : ℕ) (place : Place) (s : Situation) → first_own s.entries ≡ true → Each (λ p. TakenOr (target_own p.0) p.1.entries (place_lowest s.base place)) (target_of f low place s)
target_taken f low (Place.Local r) s own = each_some (inr (own, refl))
target_taken f low (Place.Upvalue u) s own = each_some (inr (own, refl))
target_taken f low (Place.Global k) s own = each_some (inr (own, refl))
target_taken f low (Place.Index on key) s own = each_then (each_both (held_own f on low s own) (held_kept f on low s)) (λ p is. behind p is.1.base is.0)
  where
    both : (first second : Bool) → first ≡ false → second ≡ false → (first || second) ≡ false
    both first second one other = ap (λ first. first || second) one ∙ other

    last : (p : Value × Situation) (q : OperandValue × Situation) → part_lowest s.base on ≡ false → TakenOr (operand_own q.0) q.1.entries (part_lowest s.base key) → TakenOr (holds_own p.0 || operand_own q.0) q.1.entries (part_lowest s.base on || part_lowest s.base key)
    last p q apart (inl is) = inl (or_second (holds_own p.0) (operand_own q.0) is)
    last p q apart (inr is) = inr (is.0, both (part_lowest s.base on) (part_lowest s.base key) apart is.1)

    behind : (p : Value × Situation) → p.1.base ≡ s.base → TakenOr (holds_own p.0) p.1.entries (part_lowest s.base on) →
        Each (λ (q : TargetValue × Situation). TakenOr (target_own q.0) q.1.entries (part_lowest s.base on || part_lowest s.base key)) (option_map (λ (q : OperandValue × Situation). (index_target p.0 q.0, q.1)) (held_operand f key low p.1))
    behind p base (inl is) = each_map _ (each_there {o = held_operand f key low p.1}) (λ q there. inl (or_first (holds_own p.0) (operand_own q.0) is))
    behind p base (inr is) = each_map _ (held_operand_own f key low p.1 is.0) (λ q taken. last p q is.1 (subst (λ (base : ℕ). TakenOr (operand_own q.0) q.1.entries (part_lowest base key)) base taken))

abbrev targets_own : List TargetValue → Bool
targets_own targets = list_any target_own targets

targets_still : (f : Function) (low : ℕ) (stores : List Store) (sofar : List TargetValue) (s : Situation) → targets_own sofar ≡ true → Each (λ q. targets_own q.0 ≡ true) (targets_of f low stores sofar s)
targets_still f low [] sofar s own = each_some own
targets_still f low (store ∷ stores) sofar s own =
    each_next (target_of f low store.place s) (λ p. targets_still f low stores (sofar ++ p.0 ∷ []) p.1 (list_any-append target_own sofar (p.0 ∷ []) ∙ or_first (targets_own sofar) (target_own p.0 || false) own))

targets_taken : (f : Function) (low : ℕ) (stores : List Store) (sofar : List TargetValue) (s : Situation) → first_own s.entries ≡ true → Each (λ q. TakenOr (targets_own q.0) q.1.entries (stores_lowest s.base stores)) (targets_of f low stores sofar s)
targets_taken f low [] sofar s own = each_some (inr (own, refl))
targets_taken f low (store ∷ stores) sofar s own = each_then (each_both (target_taken f low store.place s own) (target_of_kept f low store.place s)) (λ p is.
    behind p is.1.base (targets_still f low stores (sofar ++ p.0 ∷ []) p.1) (targets_taken f low stores (sofar ++ p.0 ∷ []) p.1) is.0)
  where
    Rest : (TargetValue × Situation) → (List TargetValue × Situation → Type 0) → Type 0
    Rest p Holds = Each Holds (targets_of f low stores (sofar ++ p.0 ∷ []) p.1)

    last : (p : TargetValue × Situation) (q : List TargetValue × Situation) → p.1.base ≡ s.base → place_lowest s.base store.place ≡ false → TakenOr (targets_own q.0) q.1.entries (stores_lowest p.1.base stores) → TakenOr (targets_own q.0) q.1.entries (place_lowest s.base store.place || stores_lowest s.base stores)
    last p q base apart (inl is) = inl is
    last p q base apart (inr is) = inr (is.0, ap (λ first. first || stores_lowest s.base stores) apart ∙ ap (λ (base : ℕ). stores_lowest base stores) (sym base) ∙ is.1)

    behind : (p : TargetValue × Situation) → p.1.base ≡ s.base → (targets_own (sofar ++ p.0 ∷ []) ≡ true → Rest p (λ q. targets_own q.0 ≡ true)) → (first_own p.1.entries ≡ true → Rest p (λ q. TakenOr (targets_own q.0) q.1.entries (stores_lowest p.1.base stores))) →
        TakenOr (target_own p.0) p.1.entries (place_lowest s.base store.place) → Rest p (λ q. TakenOr (targets_own q.0) q.1.entries (place_lowest s.base store.place || stores_lowest s.base stores))
    behind p base still taken (inl is) = each_of (still (list_any-append target_own sofar (p.0 ∷ []) ∙ or_second (targets_own sofar) (target_own p.0 || false) (or_first (target_own p.0) false is))) (λ q own. inl own)
    behind p base still taken (inr is) = each_of (taken is.0) (λ q more. last p q base is.1 more)

targets_counted : (f : Function) (low : ℕ) (stores : List Store) (sofar : List TargetValue) (s : Situation) → Each (λ q. length q.0 ≡ length sofar + length stores) (targets_of f low stores sofar s)
targets_counted f low [] sofar s = let same : length sofar ≡ length sofar + 0 = omega arith in each_some same
targets_counted f low (store ∷ stores) sofar s = each_next (target_of f low store.place s) (λ p.
    let one_more : length (sofar ++ p.0 ∷ []) ≡ length sofar + 1 = length-append sofar (p.0 ∷ []) in
    each_of (targets_counted f low stores (sofar ++ p.0 ∷ []) p.1) (λ q is. let is' : length q.0 ≡ length (sofar ++ p.0 ∷ []) + length stores = is in omega (arith, is', one_more)))

-- where there are no entries, none is taken
held_empty : (f : Function) (register low : ℕ) (s : Situation) → s.entries ≡ [] → Each (λ p. p.1.entries ≡ []) (held f register low s)
held_empty f register low s empty = by (place_in s.base register)
  where
    by : (place : Option ℕ) → Each (λ p. p.1.entries ≡ []) (held_at f s register low place)
    by None = each_map _ (each_there {o = local_in f s register}) (λ v is. empty)
    by (Some place) = each_where (nat_lt place low) (each_map {Holds = λ (p : Value × Entries). p.1 ≡ []} _ (subst (λ (entries : Entries). Each (λ (p : Value × Entries). p.1 ≡ []) (part place entries)) (sym empty) each_none) (λ p is. is))

target_empty : (f : Function) (low : ℕ) (place : Place) (s : Situation) → s.entries ≡ [] → Each (λ p. p.1.entries ≡ []) (target_of f low place s)
target_empty f low (Place.Local r) s empty = each_some empty
target_empty f low (Place.Upvalue u) s empty = each_some empty
target_empty f low (Place.Global k) s empty = each_some empty
target_empty f low (Place.Index on key) s empty = each_then (held_empty f on low s empty) (λ p is.
    each_map _ (each_if (nat_le 256 key) (each_map _ (each_there {o = constant_in f (key - 256)}) (λ k there. is)) (each_map _ (held_empty f key low p.1 is) (λ q more. more))) (λ q more. more))

pub targets_empty : (f : Function) (low : ℕ) (stores : List Store) (sofar : List TargetValue) (s : Situation) → s.entries ≡ [] → Each (λ q. q.1.entries ≡ []) (targets_of f low stores sofar s)
targets_empty f low [] sofar s empty = each_some empty
targets_empty f low (store ∷ stores) sofar s empty = each_then (target_empty f low store.place s empty) (λ p is. targets_empty f low stores (sofar ++ p.0 ∷ []) p.1 is)

-- ---- the statement

function_none : (v : Value) → holds_own v ≡ true → function_number v ≡ None
function_none (function_value number true) own = refl
function_none (function_value number false) own = not_so own
function_none v own = refl

stored_none : (entries : Entries) → first_own entries ≡ true → stored_function None entries ≡ None
stored_none [] own = not_so own
stored_none (value_entry v ∷ []) own = function_none v own
stored_none (value_entry v ∷ other ∷ entries) own = refl
stored_none (entry ∷ entries) own = refl

pub straight_none : (last : Option Straight) → last_own last ≡ true → stored_function last [] ≡ None
straight_none None own = not_so own
straight_none (Some (straight_value v)) own = function_none v own
straight_none (Some (straight_operand o)) own = refl

-- no function statement says it
several_unnamed : (f : Function) (s : Situation) (targets : List TargetValue) (number : Option ℕ) → 2 ≤ length targets → Each (λ (named : Option (List Text × ℕ)). named ≡ None) (named_as f s targets number)
several_unnamed f s [] number many = absurd (omega (arith, many))
several_unnamed f s (t ∷ []) number many = absurd (omega (arith, many))
several_unnamed f s (t ∷ u ∷ targets) None many = each_some refl
several_unnamed f s (t ∷ u ∷ targets) (Some number) many = each_some refl

pub none_unnamed : (f : Function) (s : Situation) (targets : List TargetValue) (number : Option ℕ) → number ≡ None → Each (λ (named : Option (List Text × ℕ)). named ≡ None) (named_as f s targets number)
none_unnamed f s targets number is = subst (λ (number : Option ℕ). Each (λ (named : Option (List Text × ℕ)). named ≡ None) (named_as f s targets number)) (sym is) (by targets)
  where
    by : (targets : List TargetValue) → Each (λ (named : Option (List Text × ℕ)). named ≡ None) (named_as f s targets None)
    by [] = each_some refl
    by (t ∷ []) = each_some refl
    by (t ∷ u ∷ targets) = each_some refl

own_unnamed : (f : Function) (s : Situation) (targets : List TargetValue) (number : Option ℕ) → targets_own targets ≡ true → Each (λ (named : Option (List Text × ℕ)). named ≡ None) (named_as f s targets number)
own_unnamed f s [] number own = not_so own
own_unnamed f s (t ∷ []) None own = each_some refl
own_unnamed f s (t ∷ []) (Some number) own =
    let at = place_in_step f s in
    each_map _ (each_where {Holds = λ (path : Option (List Text)). path ≡ None} (can_have_path at t) (each_some (path_unsaid at t (sym (or_comm (target_own t) false) ∙ own)))) (λ path is. ap (with_number number) is)
own_unnamed f s (t ∷ u ∷ targets) None own = each_some refl
own_unnamed f s (t ∷ u ∷ targets) (Some number) own = each_some refl

targets_refused : (f : Function) (targets : List TargetValue) (sofar : Wordings × ℕ × Situation) → targets_own targets ≡ true → Each (λ p. ⊥) (targets_written f targets sofar)
targets_refused f [] sofar own = not_so own
targets_refused f (t ∷ targets) sofar own = by (λ w more. targets_refused f targets (wordings_with sofar.0 w.0, w.1, w.2) more) (target_own t) refl own
  where
    by : ((w : Wording × ℕ × Situation) → targets_own targets ≡ true → Each (λ p. ⊥) (targets_written f targets (wordings_with sofar.0 w.0, w.1, w.2))) → (first : Bool) → target_own t ≡ first → (first || targets_own targets) ≡ true → Each (λ p. ⊥) (targets_written f (t ∷ targets) sofar)
    by rest true is own = each_then {Holds = λ (w : Wording × ℕ × Situation). ⊥} (each_refused (can_write_target (place_in_step f sofar.2) sofar.2.left t) _ (target_not_written (place_in_step f sofar.2) sofar.2.left t is)) (λ w never. absurd never)
    by rest false is own = each_next (target_written f sofar.1 t sofar.2) (λ w. rest w own)

-- it is in a target, or in the lowest register that is stored, or goes straight to the last target
pub statement_refused : (f : Function) (stores : List Store) (last : Option Straight) (next : ℕ) (targets : List TargetValue) (entries : Entries) (s : Situation) (named : Option (List Text × ℕ)) → named ≡ None →
    (targets_own targets ≡ true) ⊎ (own_in (last_own last) entries ≡ true) → Each (λ p. ⊥) (as_statement f stores last next targets entries s named)
statement_refused f stores last next targets entries s named none own = subst (λ (named : Option (List Text × ℕ)). Each (λ p. ⊥) (as_statement f stores last next targets entries s named)) (sym none) (by own)
  where
    by : (targets_own targets ≡ true) ⊎ (own_in (last_own last) entries ≡ true) → Each (λ p. ⊥) (as_statement f stores last next targets entries s None)
    by (inl own) = each_then (targets_refused f targets (no_targets, s.taken, s) own) (λ written never. absurd never)
    by (inr own) = each_next (targets_written f targets (no_targets, s.taken, s)) (λ written. each_map _ (assigned_refused f stores written.1 entries last written.2 own) (λ p never. never))

reverse_lowest : (base : ℕ) (stores : List Store) → stores_lowest base (reverse stores) ≡ stores_lowest base stores
reverse_lowest base [] = refl
reverse_lowest base (store ∷ stores) =
    let lowest = λ (store : Store). place_lowest base store.place in
    let first = place_lowest base store.place in
    ap (stores_lowest base) (reverse-append (store ∷ []) stores)
    ∙ list_any-append lowest (reverse stores) (store ∷ [])
    ∙ or_comm (stores_lowest base (reverse stores)) (first || false)
    ∙ ap (λ first. first || stores_lowest base (reverse stores)) (or_comm first false)
    ∙ ap (λ rest. first || rest) (reverse_lowest base stores)

used_lowest : (used : List Bool) → unused used ≡ 0 → 0 < length used → slice_get used 0 ≡ Some true
used_lowest [] none some = absurd (omega (arith, some))
used_lowest (true ∷ used) none some = refl
used_lowest (false ∷ used) none some = absurd (omega (arith, none))

zero_lowest : (low : ℕ) → is_lowest (Some low) ≡ true → low ≡ 0
zero_lowest zero is = refl
zero_lowest (suc low) is = not_so is

pub assigned_first : (f : Function) (a : Assigning) (last : Option Straight) (next : ℕ) (s : Situation) → first_own s.entries ≡ true → Accounts s.base a → a.left ≡ 0 → (last ≡ None) ⊎ (2 ≤ length a.stores + a.low) → Each (λ p. ⊥) (assigned f a last next s)
assigned_first f a last next s own accounts none many =
    let lowest = accounts.first (used_lowest a.used (sym accounts.left ∙ none) accounts.some) in
    each_then (each_both (targets_taken f a.low (reverse a.stores) [] s own) (targets_counted f a.low (reverse a.stores) [] s)) (λ targets is.
    each_then {Holds = λ (values : Entries × Entries). values.0 ≡ drop a.low targets.1.entries} (each_where (nat_le a.low (length targets.1.entries)) (each_some refl)) (λ values there. by targets values there lowest is.1 is.0))
  where
    Refused : (List TargetValue × Situation) → (Entries × Entries) → Type 0
    Refused targets values = Each (λ (p : Drafted × Situation). ⊥) (with_values f a.stores last next targets.0 targets.1 values)

    stored : (targets : List TargetValue × Situation) (values : Entries × Entries) → 2 ≤ length targets.0 ⊎ (last ≡ None) → first_own values.0 ≡ true → Refused targets values
    stored targets values (inl several) own =
        let t = record targets.1 { entries = values.1 } in
        each_then (several_unnamed f t targets.0 (stored_function last values.0) several) (λ named none. statement_refused f a.stores last next targets.0 values.0 t named none (inr (own_still false (last_own last) values.0 not_so own)))
    stored targets values (inr alone) own =
        let t = record targets.1 { entries = values.1 } in
        each_then (none_unnamed f t targets.0 (stored_function last values.0) (ap (λ (last : Option Straight). stored_function last values.0) alone ∙ stored_none values.0 own)) (λ named none. statement_refused f a.stores last next targets.0 values.0 t named none (inr (own_still false (last_own last) values.0 not_so own)))

    several : (targets : List TargetValue × Situation) → length targets.0 ≡ 0 + length (reverse a.stores) → a.low ≡ 0 → (last ≡ None) ⊎ (2 ≤ length a.stores + a.low) → (2 ≤ length targets.0) ⊎ (last ≡ None)
    several targets counted low (inl alone) = inr alone
    several targets counted low (inr many) = inl (omega (arith, counted, low, many, length-reverse a.stores))

    by : (targets : List TargetValue × Situation) (values : Entries × Entries) → values.0 ≡ drop a.low targets.1.entries → (is_lowest (Some a.low) || stores_lowest s.base a.stores) ≡ true → length targets.0 ≡ 0 + length (reverse a.stores) →
        TakenOr (targets_own targets.0) targets.1.entries (stores_lowest s.base (reverse a.stores)) → Refused targets values
    by targets values there lowest counted (inl own) =
        let t = record targets.1 { entries = values.1 } in
        each_then (own_unnamed f t targets.0 (stored_function last values.0) own) (λ named none. statement_refused f a.stores last next targets.0 values.0 t named none (inl own))
    by targets values there lowest counted (inr is) =
        let none : stores_lowest s.base a.stores ≡ false = sym (reverse_lowest s.base a.stores) ∙ is.1 in
        let low : a.low ≡ 0 = zero_lowest a.low (or_comm false (is_lowest (Some a.low)) ∙ ap (λ rest. is_lowest (Some a.low) || rest) (sym none) ∙ lowest) in
        let all : values.0 ≡ targets.1.entries = there ∙ ap (λ low. drop low targets.1.entries) low in
        stored targets values (several targets counted low many) (ap first_own all ∙ is.0)
