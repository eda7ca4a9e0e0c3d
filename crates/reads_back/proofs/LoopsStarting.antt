-- Where the list of locals has the hidden ones of a loop next, and behind them its variables, the locals of a loop start.
use Rattle.std.proofs.Common.{◌≡◌, ℕ, zero, suc, ◌+◌, ◌^◌, ◌<◌, ◌≤◌, Bool, true, false, List, [], ◌∷◌, ◌++◌, append-nil, drop, length, length-append, Option, Some, None, refl, sym, ap, ap₂, ◌∙◌, subst, arith, le-leb, lt-ltb, eq-eqb, if◌then◌else◌}
use Rattle.std.proofs.lemmas.Bool.{ne_eqb}
use Rattle.std.proofs.lemmas.Option.{same_Some}
use Rattle.std.specs.List.{AllByRecursion, prefix_len}
use Rattle.std.specs.Prelude.{◌==◌, ◌-◌, codes, map, option_map, take, option_and_then, slice_get}
use Rattle.lua_num.specs.Bytes.{Text}
use Rattle.lua_tree.specs.Names.{are_names, is_name}
use Rattle.proto.specs.declared.parts.LocVar.{LocVar}
use Rattle.core_expr.specs.Places.{name_of_local}
use Rattle.recover_expr.specs.Declaring.{head_of}
use Rattle.recover_expr.specs.Locals.{Scope, before_names, declare, declare_next, end_of, ends_within, entered, innermost_end, is_hidden_local, names_from, nests}
use Rattle.recover_expr.specs.Situation.{Function}
use Rattle.reads_back.proofs.ActsRead.{Declares, numbers_from}
use Rattle.reads_back.proofs.DeclarationsRead.{StartHere}
use Rattle.reads_back.proofs.HeadsRead.{LoopStarts, head_op}
use Rattle.reads_back.proofs.StartingLocals.{more_declared, one_declared, shown_name}
use Rattle.reads_back.proofs.TakenEntries.{at_place}
use Rattle.reads_back.proofs.Tests.{both_hold, first_of_both, second_of_both}

-- ---- what the list has next

abbrev hidden_local : (name : Text) → (start end : ℕ) → LocVar
hidden_local name start end = record { name = name; start = start; end = end }

-- the hidden locals of a loop, which end together
abbrev pub hidden_locals : (numeric : Bool) → (start end : ℕ) → List LocVar
hidden_locals true start end = hidden_local (codes "(for index)") start end ∷ hidden_local (codes "(for limit)") start end ∷ hidden_local (codes "(for step)") start end ∷ []
hidden_locals false start end = hidden_local (codes "(for generator)") start end ∷ hidden_local (codes "(for state)") start end ∷ hidden_local (codes "(for control)") start end ∷ []

-- variables with these names
abbrev pub variable_locals : List Text → (start end : ℕ) → List LocVar
variable_locals names start end = map (λ (name : Text). record { name = name; start = start; end = end }) names

-- The list has the hidden locals of a loop next, which start at a pc, and then its variables, which start behind the word there and end no later; the local around ends no earlier, and there are numbers for all registers.
pub record LoopListed (f : Function) (numeric : Bool) (scope : Scope) (names : List Text) (pc : ℕ) : Type 0 where
  pub end : ℕ
  pub variables_end : ℕ
  pub others : List LocVar
  pub next : drop (length scope.declared) f.of.locals ≡ hidden_locals numeric pc end ++ (variable_locals names (suc pc) variables_end ++ others)
  pub behind : prefix_len (λ (entry : LocVar). entry.start == suc pc) others ≡ 0
  pub good : are_names names ≡ true
  pub some : 0 < length names
  pub before : suc pc ≤ variables_end
  pub last : variables_end ≤ end
  pub within : ends_within (innermost_end f.of.locals scope) end ≡ true
  pub few : length scope.active + (3 + length names) ≤ 2 ^ 32

one_there : (xs : List LocVar) (n : ℕ) (y : LocVar) (ys : List LocVar) → drop n xs ≡ y ∷ ys → (slice_get xs n ≡ Some y) × (drop (suc n) xs ≡ ys)
one_there [] zero y ys is = cc
one_there [] (suc n) y ys is = cc
one_there (x ∷ xs) zero y ys is = (cc, cc)
one_there (x ∷ xs) (suc n) y ys is = one_there xs n y ys is

-- ---- they are declared

-- what is known behind locals that are declared and end together
pub record Declared (locals : List LocVar) (count pc end : ℕ) (others : List LocVar) (step : Option ℕ) (scope : Scope) : Type 0 where
  pub behind : Scope
  pub does : declare locals count pc step scope ≡ Some behind
  pub declares : Declares count scope behind
  pub ends : 0 < count → innermost_end locals behind ≡ Some end
  pub next : drop (length behind.declared) locals ≡ others

pub are_declared : (locals : List LocVar) (pc end : ℕ) (entries others : List LocVar) (step : Option ℕ) (scope : Scope) → drop (length scope.declared) locals ≡ entries ++ others → AllByRecursion (λ (entry : LocVar). (entry.start ≡ pc) × (entry.end ≡ end)) entries → pc ≤ end →
    ends_within (innermost_end locals scope) end ≡ true → length scope.active + length entries ≤ 2 ^ 32 → Declared locals (length entries) pc end others step scope
are_declared locals pc end [] others step scope next all before within few = record {
  behind = scope;
  does = refl;
  declares = record { declared_more = omega arith; active_more = sym (append-nil scope.active) };
  ends = λ some. absurd (omega (arith, some));
  next = next;
}
are_declared locals pc end (entry ∷ entries) others step scope next all before within few =
    let found = one_there locals (length scope.declared) entry (entries ++ others) next in
    let more = entered step scope in
    let one = one_declared step scope in
    let longer : length more.declared ≡ suc (length scope.declared) = omega (arith, one.declared_more) in
    let follows : drop (length more.declared) locals ≡ entries ++ others = ap (λ (n : ℕ). drop n locals) longer ∙ found.1 in
    let last : length more.active ≡ suc (length scope.active) = omega (arith, length-append scope.active (length scope.declared ∷ [])) in
    let place : length more.active - 1 ≡ length scope.active = omega (arith, last) in
    let innermost : innermost_end locals more ≡ Some end =
    ap (λ (n : ℕ). option_and_then (end_of locals) (slice_get more.active n)) place
    ∙ ap (option_and_then (end_of locals)) (at_place scope.active (length scope.declared) [])
    ∙ ap (λ (found : Option LocVar). option_map (λ (local : LocVar). local.end) found) found.0
    ∙ ap Some all.0.1 in
    let within_one : ends_within (innermost_end locals more) end ≡ true = ap (λ (outer : Option ℕ). ends_within outer end) innermost ∙ le-leb end end (omega arith) in
    let rest = are_declared locals pc end entries others step more follows all.1 before within_one (omega (arith, few, last)) in
    let fits : nests locals pc scope (slice_get locals (length scope.declared)) ≡ true =
    ap (nests locals pc scope) found.0
    ∙ both_hold _ _ (eq-eqb entry.start pc all.0.0) (both_hold _ _ (le-leb pc entry.end (omega (arith, before, all.0.1))) (ap (ends_within (innermost_end locals scope)) all.0.1 ∙ within)) in
    let does : declare_next locals pc step scope ≡ Some more = ap (λ fits. if fits then Some more else None) (both_hold _ _ fits (lt-ltb (length scope.active) (2 ^ 32) (omega (arith, few)))) in
    record {
      behind = rest.behind;
      does = ap (option_and_then (declare locals (length entries) pc step)) does ∙ rest.does;
      declares = more_declared (length entries) scope more rest.behind one rest.declares;
      ends = λ some. ends_by entries rest innermost;
      next = rest.next;
    }
  where
    ends_by : (entries : List LocVar) (rest : Declared locals (length entries) pc end others step (entered step scope)) → innermost_end locals (entered step scope) ≡ Some end → innermost_end locals rest.behind ≡ Some end
    ends_by [] rest innermost = ap (innermost_end locals) (sym (same_Some _ _ rest.does)) ∙ innermost
    ends_by (entry ∷ entries) rest innermost = rest.ends (omega arith)

-- ---- their names

pub names_there : (locals : List LocVar) (start end : ℕ) (names : List Text) (others : List LocVar) (first : ℕ) → drop first locals ≡ variable_locals names start end ++ others → are_names names ≡ true → names_from locals first (length names) ≡ Some names
names_there locals start end [] others first next good = refl
names_there locals start end (name ∷ names) others first next good =
    let found = one_there locals first (record { name = name; start = start; end = end }) (variable_locals names start end ++ others) next in
    ap₂ before_names (ap name_of_local found.0 ∙ ap (λ good. if good then Some name else None) (first_of_both (is_name name) (are_names names) good)) (names_there locals start end names others (suc first) found.1 (second_of_both (is_name name) (are_names names) good))

pub all_there : (start end : ℕ) (names : List Text) → AllByRecursion (λ (entry : LocVar). (entry.start ≡ start) × (entry.end ≡ end)) (variable_locals names start end)
all_there start end [] = tt
all_there start end (name ∷ names) = ((refl, refl), all_there start end names)

count_there : (start end : ℕ) (names : List Text) → length (variable_locals names start end) ≡ length names
count_there start end [] = refl
count_there start end (name ∷ names) = ap suc (count_there start end names)

-- these start there, and no others
pub starts_there : (start end : ℕ) (names : List Text) (others : List LocVar) → prefix_len (λ (entry : LocVar). entry.start == start) others ≡ 0 → prefix_len (λ (entry : LocVar). entry.start == start) (variable_locals names start end ++ others) ≡ length names
starts_there start end [] others none = none
starts_there start end (name ∷ names) others none =
    let rest = prefix_len (λ (entry : LocVar). entry.start == start) (variable_locals names start end ++ others) in
    ap (λ here. if here then 1 + rest else 0) (eq-eqb start start refl) ∙ omega (arith, starts_there start end names others none)

-- ---- they start

hidden_starts : (numeric : Bool) (pc end : ℕ) (others : List LocVar) → prefix_len (λ (entry : LocVar). entry.start == pc) others ≡ 0 → prefix_len (λ (entry : LocVar). entry.start == pc) (hidden_locals numeric pc end ++ others) ≡ 3
hidden_starts true pc end others none =
    let same : (pc == pc) ≡ true = eq-eqb pc pc refl in
    ap₂ (λ (here : Bool) (n : ℕ). if here then 1 + (if here then 1 + (if here then 1 + n else 0) else 0) else 0) same none
hidden_starts false pc end others none =
    let same : (pc == pc) ≡ true = eq-eqb pc pc refl in
    ap₂ (λ (here : Bool) (n : ℕ). if here then 1 + (if here then 1 + (if here then 1 + n else 0) else 0) else 0) same none

hidden_named : (numeric : Bool) (pc end : ℕ) (others : List LocVar) → head_of (head_op numeric) (take 3 (hidden_locals numeric pc end ++ others)) ≡ Some numeric
hidden_named true pc end others = refl
hidden_named false pc end others = refl

hidden_together : (numeric : Bool) (pc end : ℕ) → AllByRecursion (λ (entry : LocVar). (entry.start ≡ pc) × (entry.end ≡ end)) (hidden_locals numeric pc end)
hidden_together true pc end = ((refl, refl), ((refl, refl), ((refl, refl), tt)))
hidden_together false pc end = ((refl, refl), ((refl, refl), ((refl, refl), tt)))

hidden_first : (numeric : Bool) (pc end : ℕ) (locals : List LocVar) (n : ℕ) (others : List LocVar) → drop n locals ≡ hidden_locals numeric pc end ++ others → is_hidden_local (slice_get locals n) ≡ true
hidden_first true pc end locals n others next = let found = one_there locals n (hidden_local (codes "(for index)") pc end) _ next in ap is_hidden_local found.0
hidden_first false pc end locals n others next = let found = one_there locals n (hidden_local (codes "(for generator)") pc end) _ next in ap is_hidden_local found.0

three_hidden : (numeric : Bool) (pc end : ℕ) → length (hidden_locals numeric pc end) ≡ 3
three_hidden true pc end = refl
three_hidden false pc end = refl

-- none of the variables starts with the hidden locals
variables_later : (pc end : ℕ) (names : List Text) (others : List LocVar) → 0 < length names → prefix_len (λ (entry : LocVar). entry.start == pc) (variable_locals names (suc pc) end ++ others) ≡ 0
variables_later pc end [] others some = absurd (omega (arith, some))
variables_later pc end (name ∷ names) others some =
    let other : (suc pc == pc) ≡ false = ne_eqb (suc pc) pc (λ same. omega (arith, same)) in
    ap (λ here. if here then 1 + prefix_len (λ (entry : LocVar). entry.start == pc) (variable_locals names (suc pc) end ++ others) else 0) other

variable_shown : (locals : List LocVar) (n start end : ℕ) (names : List Text) (others : List LocVar) → 0 < length names → are_names names ≡ true → drop n locals ≡ variable_locals names start end ++ others → is_hidden_local (slice_get locals n) ≡ false
variable_shown locals n start end [] others some good next = absurd (omega (arith, some))
variable_shown locals n start end (name ∷ names) others some good next =
    let found = one_there locals n (record { name = name; start = start; end = end }) (variable_locals names start end ++ others) next in
    ap is_hidden_local found.0 ∙ shown_name name (first_of_both (is_name name) (are_names names) good)

-- locals with these names, which the list has next and which end together, start at a pc
pub row_starts : {f : Function} {names : List Text} {pc : ℕ} (scope : Scope) (end : ℕ) (others : List LocVar) → drop (length scope.declared) f.of.locals ≡ variable_locals names pc end ++ others → prefix_len (λ (entry : LocVar). entry.start == pc) others ≡ 0 → are_names names ≡ true → 0 < length names → pc ≤ end →
    ends_within (innermost_end f.of.locals scope) end ≡ true → length scope.active + length names ≤ 2 ^ 32 → StartHere f scope names pc
row_starts {f} {names} {pc} scope end others next behind good some before within few =
    let variables = variable_locals names pc end in
    record {
      some = some;
      starts = ap (prefix_len (λ (entry : LocVar). entry.start == pc)) next ∙ starts_there pc end names others behind;
      named = names_there f.of.locals pc end names others (length scope.declared) next good;
      shown = variable_shown f.of.locals (length scope.declared) pc end names others some good next;
      declares = λ step.
          let counts = count_there pc end names in
          let declared = are_declared f.of.locals pc end variables others step scope next (all_there pc end names) before within (omega (arith, few, counts)) in (
            declared.behind,
            ap (λ (count : ℕ). declare f.of.locals count pc step scope) (sym counts) ∙ declared.does,
            subst (λ (count : ℕ). Declares count scope declared.behind) counts declared.declares,
          );
    }

module _ {f : Function} {numeric : Bool} {scope : Scope} {names : List Text} {pc : ℕ} (has : LoopListed f numeric scope names pc) where
  abbrev variables : List LocVar
  variables = variable_locals names (suc pc) has.variables_end

  variables_start : (behind : Scope) → drop (length behind.declared) f.of.locals ≡ variables ++ has.others → ends_within (innermost_end f.of.locals behind) has.variables_end ≡ true → length behind.active + length names ≤ 2 ^ 32 → StartHere f behind names (suc pc)
  variables_start behind next within few = row_starts behind has.variables_end has.others next has.behind has.good has.some has.before within few

  -- so they are declared with the head
  pub loop_starts : LoopStarts f numeric scope names pc
  loop_starts =
      let locals = f.of.locals in
      let three = three_hidden numeric pc has.end in
      record {
        starts = ap (prefix_len (λ (entry : LocVar). entry.start == pc)) has.next ∙ hidden_starts numeric pc has.end (variables ++ has.others) (variables_later pc has.variables_end names has.others has.some);
        hidden = hidden_first numeric pc has.end locals (length scope.declared) (variables ++ has.others) has.next;
        called = ap (λ (entries : List LocVar). head_of (head_op numeric) (take 3 entries)) has.next ∙ hidden_named numeric pc has.end (variables ++ has.others);
        declares = λ step.
            let declared = are_declared locals pc has.end (hidden_locals numeric pc has.end) (variables ++ has.others) step scope has.next (hidden_together numeric pc has.end) (omega (arith, has.before, has.last)) has.within (omega (arith, has.few, three)) in
            let declares = subst (λ (count : ℕ). Declares count scope declared.behind) three declared.declares in
            let inner : ends_within (innermost_end locals declared.behind) has.variables_end ≡ true = ap (λ (outer : Option ℕ). ends_within outer has.variables_end) (declared.ends (omega (arith, three))) ∙ le-leb has.variables_end has.end has.last in
            let active = ap length declares.active_more ∙ length-append scope.active (numbers_from (length scope.declared) 3) in
            (declared.behind, ap (λ (count : ℕ). declare locals count pc step scope) (sym three) ∙ declared.does, declares, variables_start declared.behind declared.next inner (omega (arith, active, has.few)));
      }
