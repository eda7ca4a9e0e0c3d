-- Turns of the loops over names in scope, upvalues and functions around.
use Rattle.std.proofs.Common.{◌≡◌, ◌==◌, ◌⊎◌, inl, inr, ℕ, zero, suc, ◌+◌, ◌<◌, ◌≤◌, Bool, true, false, List, [], ◌∷◌, ◌++◌, length, get_or, take, drop, reverse, Option, Some, None, Result, Ok, Err, IfErr, if◌then◌else◌, refl, sym, ap, ◌∙◌, subst, arith}
use Rattle.std.proofs.lemmas.List.{take_more, take_all, reverse-append}
use Rattle.std.proofs.Math.ListN.{take-append-drop}
use Rattle.std.proofs.lemmas.Bool.Decides.{nat_tests}
use Rattle.std.specs.Str.{bytes_eq}
use Rattle.std.specs.Result.{IsErrAnd}
use Rattle.lua_num.specs.Bytes.{Text}
use Rattle.lua_tree.specs.Outline.{Binding}
use Rattle.scopes.specs.Standing.{binding_of_option, lookup}
use Rattle.scopes.specs.Capturing.{slot_from, Full, Passes, Reached, Stuck, OnlyFunctions}
use Rattle.scopes.specs.declared.fault.ScopeFault.{ScopeFault}
use Rattle.scopes.specs.declared.resolver.Local.{Local}
use Rattle.scopes.specs.declared.resolver.Resolver.{Resolver}
use Rattle.scopes.specs.declared.uses.Binding.{Binding as Bound}
use Rattle.scopes.specs.declared.uses.Captures.{Captures}
use Rattle.scopes.specs.declared.uses.Source.{Source}
use Rattle.scopes.proofs.MentionSteps.{lookup_found, lookup_passed}

-- a fault that a call hands on
pub fault_on : {A : Type 0} (Q : ScopeFault → Type 0) (result : Result A ScopeFault) (fault : ScopeFault) → IsErrAnd result (λ other. other ≡ fault) → Q fault → IfErr result Q
fault_on Q (Ok a) fault e q = tt
fault_on Q (Err other) fault e q = subst Q (sym e) q

-- the slot of a declaration
slot_at : (d n i : ℕ) (numbers : List ℕ) (x : ℕ) → i < length numbers → x ≡ get_or numbers i x → slot_from d n (drop i numbers) ≡ (if d == x then Some n else slot_from d (suc n) (drop (suc i) numbers))
slot_at d n i [] x low is = absurd (omega arith)
slot_at d n zero (y ∷ numbers) x low is = ap (λ z. if d == z then Some n else slot_from d (suc n) numbers) (sym is)
slot_at d n (suc i) (y ∷ numbers) x low is = slot_at d n i numbers x (omega arith) is

pub slot_passed : (d i : ℕ) (numbers : List ℕ) (x : ℕ) → i < length numbers → x ≡ get_or numbers i x → (x ≡ d → ⊥) → slot_from d i (drop i numbers) ≡ slot_from d 0 numbers →
    slot_from d (i + 1) (drop (i + 1) numbers) ≡ slot_from d 0 numbers
slot_passed d i numbers x low is differ so_far =
    let one : suc i ≡ i + 1 = omega arith in
    let test : (d == x) ≡ false = grind (arith, nat_tests) in
    subst (λ k. slot_from d k (drop k numbers) ≡ slot_from d 0 numbers) one
    (sym (slot_at d i i numbers x low is ∙ ap (λ t. if t then Some i else slot_from d (suc i) (drop (suc i) numbers)) test) ∙ so_far)

pub slot_hit : (d i : ℕ) (numbers : List ℕ) (x : ℕ) → i < length numbers → x ≡ get_or numbers i x → x ≡ d → slot_from d i (drop i numbers) ≡ slot_from d 0 numbers → Some i ≡ slot_from d 0 numbers
slot_hit d i numbers x low is same so_far =
    let test : (d == x) ≡ true = grind (arith, nat_tests) in
    sym (slot_at d i i numbers x low is ∙ ap (λ t. if t then Some i else slot_from d (suc i) (drop (suc i) numbers)) test) ∙ so_far

drop_all : (i : ℕ) (numbers : List ℕ) → length numbers ≤ i → drop i numbers ≡ []
drop_all zero [] low = refl
drop_all (suc i) [] low = refl
drop_all zero (x ∷ numbers) low = absurd (omega arith)
drop_all (suc i) (x ∷ numbers) low = drop_all i numbers (omega arith)

pub slot_none : (d i : ℕ) (numbers : List ℕ) → length numbers ≤ i → slot_from d i (drop i numbers) ≡ slot_from d 0 numbers → None ≡ slot_from d 0 numbers
slot_none d i numbers past so_far = ap (slot_from d i) (sym (drop_all i numbers past)) ∙ so_far

-- what a name means by the names so far
pub find_hit : (items locals : List Local) (i : ℕ) (d : Local) (name : Text) (found : Option Bound) (result : Bool) → items ≡ locals → i < length items → result ≡ bytes_eq (get_or items i d).name.now name → result ≡ true →
    found ≡ Some (get_or items i d).binding → binding_of_option found ≡ lookup (take (i + 1) locals) name
find_hit items locals i d name found result same low tested hit is =
    ap binding_of_option is ∙ lookup_found (take i items) (get_or items i d) name (sym tested ∙ hit) ∙
    ap (λ x. lookup x name) (sym (take_more items i d low)) ∙ ap (λ (x : List Local). lookup (take (i + 1) x) name) same

pub find_passed : (items locals : List Local) (i : ℕ) (d : Local) (name : Text) (before found : Option Bound) (result : Bool) → items ≡ locals → i < length items → result ≡ bytes_eq (get_or items i d).name.now name → result ≡ false →
    found ≡ before → binding_of_option before ≡ lookup (take i locals) name → binding_of_option found ≡ lookup (take (i + 1) locals) name
find_passed items locals i d name before found result same low tested missed is so_far =
    ap binding_of_option is ∙ so_far ∙ ap (λ (x : List Local). lookup (take i x) name) (sym same) ∙ lookup_passed (take i items) (get_or items i d) name (sym tested ∙ missed) ∙
    ap (λ x. lookup x name) (sym (take_more items i d low)) ∙ ap (λ (x : List Local). lookup (take (i + 1) x) name) same

pub find_end : (locals : List Local) (i : ℕ) (name : Text) (found : Option Binding) → length locals ≤ i → found ≡ lookup (take i locals) name → found ≡ lookup locals name
find_end locals i name found past so_far = so_far ∙ ap (λ (x : List Local). lookup x name) (take_all i locals past)

-- the functions around, one by one from the outermost
reverse_more : (stack : List ℕ) (i function : ℕ) → i < length stack → function ≡ get_or stack i function → reverse (take (i + 1) stack) ≡ function ∷ reverse (take i stack)
reverse_more stack i function low is =
    ap reverse (take_more stack i function low) ∙ reverse-append (take i stack) (get_or stack i function ∷ []) ∙ ap (λ x. x ∷ reverse (take i stack)) (sym is)

pub only_both : (old between new : Resolver) → OnlyFunctions old between → OnlyFunctions between new → OnlyFunctions old new
only_both old between new one other = record {
  locals = other.locals ∙ one.locals;
  stack = other.stack ∙ one.stack;
  here = other.here ∙ one.here;
  names = other.names ∙ one.names;
  captured = other.captured ∙ one.captured;
}

pub in_stack : (i : ℕ) (old new : Resolver) → OnlyFunctions old new → i < length old.stack.items → i < length new.stack.items
in_stack i old new only low = subst (λ x. i < length x.items) (sym only.stack) low

pub reach_on : (b : Bound) (i function : ℕ) (old between : Resolver) (new : List Captures) (from source : Source) → OnlyFunctions old between → i < length between.stack.items → function ≡ get_or between.stack.items i function →
    Reached b (reverse (take i old.stack.items)) old.functions.items between.functions.items from → Passes b function between.functions.items new from source →
    Reached b (reverse (take (i + 1) old.stack.items)) old.functions.items new source
reach_on b i function old between new from source only low is reached passes =
    let same : between.stack.items ≡ old.stack.items = ap (λ x. x.items) only.stack in
    subst (λ x. Reached b x old.functions.items new source)
    (sym (reverse_more old.stack.items i function (subst (λ (x : List ℕ). i < length x) same low) (subst (λ (x : List ℕ). function ≡ get_or x i function) same is)))
    (between.functions.items, from, reached, passes)

pub reach_end : (b : Bound) (i : ℕ) (stack : List ℕ) (old new : List Captures) (source : Source) → length stack ≤ i → Reached b (reverse (take i stack)) old new source → Reached b (reverse stack) old new source
reach_end b i stack old new source past reached = subst (λ (x : List ℕ). Reached b (reverse x) old new source) (take_all i stack past) reached

-- a function on the way that is full
stuck_more : (b : Bound) (line : ℕ) (front around : List ℕ) (functions : List Captures) (fault : ScopeFault) → Stuck b line around functions fault → Stuck b line (front ++ around) functions fault
stuck_more b line [] around functions fault stuck = stuck
stuck_more b line (f ∷ front) around functions fault stuck = inl (stuck_more b line front around functions fault stuck)

stuck_at : (b : Bound) (line i function : ℕ) (stack : List ℕ) (old between : List Captures) (from : Source) (fault : ScopeFault) → i < length stack → function ≡ get_or stack i function →
    Reached b (reverse (take i stack)) old between from → b.home < function → Full b.declaration function between line fault → Stuck b line (reverse stack) old fault
stuck_at b line i function stack old between from fault low is reached less full =
    subst (λ (x : List ℕ). Stuck b line x old fault)
    (ap (λ (x : List ℕ). reverse (drop (i + 1) stack) ++ x) (sym (reverse_more stack i function low is)) ∙ sym (reverse-append (take (i + 1) stack) (drop (i + 1) stack)) ∙ ap reverse (take-append-drop (i + 1) stack))
    (stuck_more b line (reverse (drop (i + 1) stack)) (function ∷ reverse (take i stack)) old fault (inr (between, from, reached, less, full)))

pub stuck_on : (b : Bound) (line i function : ℕ) (old between : Resolver) (from : Source) (fault : ScopeFault) → OnlyFunctions old between → i < length between.stack.items → function ≡ get_or between.stack.items i function →
    Reached b (reverse (take i old.stack.items)) old.functions.items between.functions.items from → b.home < function →
    (fault ≡ ScopeFault.OutOfMemory) ⊎ Full b.declaration function between.functions.items line fault →
    (fault ≡ ScopeFault.OutOfMemory) ⊎ Stuck b line (reverse old.stack.items) old.functions.items fault
stuck_on b line i function old between from fault only low is reached less (inl memory) = inl memory
stuck_on b line i function old between from fault only low is reached less (inr full) =
    let same : between.stack.items ≡ old.stack.items = ap (λ x. x.items) only.stack in
    inr (stuck_at b line i function old.stack.items old.functions.items between.functions.items from fault (subst (λ (x : List ℕ). i < length x) same low) (subst (λ (x : List ℕ). function ≡ get_or x i function) same is) reached less full)
