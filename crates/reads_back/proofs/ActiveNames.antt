-- Each active local has an entry with its name in the list of all locals; a name that the source declares is one that a source can write.
use Rattle.std.proofs.Common.{◌≡◌, ℕ, zero, suc, ◌+◌, ◌-◌, Bool, true, false, List, [], ◌∷◌, ◌++◌, length, map, take, append_assoc, is_some, refl, sym, ap, ap₂, ◌∙◌, subst}
use Rattle.std.proofs.lemmas.List.{append_cancel_left, map-append}
use Rattle.std.proofs.lemmas.Option.{none-some, same_Some}
use Rattle.std.specs.Prelude.{Some, slice_get}
use Rattle.lua_num.specs.Bytes.{Text}
use Rattle.lua_tree.specs.Names.{are_names, is_name}
use Rattle.lua_tree.specs.Syntax.{Statement, assignment, call_statement, function_statement, local_function, local_statement}
use Rattle.opcode.specs.declared.op.Op.{Op}
use Rattle.proto.specs.declared.parts.LocVar.{LocVar}
use Rattle.recover_expr.specs.Drafts.{Part, condition_part, head_part, statement_part, values_part}
use Rattle.recover_expr.specs.Placing.{Steps}
use Rattle.recover_expr.specs.declared.steps.StepKind.{StepKind}
use Rattle.scheme.specs.Functions.{closure, empty_maker}
use Rattle.scheme.specs.Lists.{adjust}
use Rattle.scheme.specs.Making as making
use Rattle.scheme.specs.Making.{Ahead, Maker, activate, declare, jump_to, put, take_registers, used}
use Rattle.scheme.specs.Scheme.{all_coded, inner}
use Rattle.scheme.specs.Statements.{generic_names, numeric_names}
use Rattle.scheme.specs.declared.making.Active.{Active}
use Rattle.scheme.specs.declared.making.Local.{Local}
use Rattle.scheme.specs.declared.making.Piece.{Piece}
use Rattle.scheme_stands.proofs.Growth.{kept_end}
use Rattle.same_flow.specs.Listed.{entries_by, entries_of, names_declared, texts_of}
use Rattle.same_flow.specs.Performed.{counted_values, kind_made}
use Rattle.same_flow.specs.SameFlow.{begun_of}
use Rattle.same_flow.specs.Told.{PartFits}
use Rattle.same_flow.proofs.Followed.{append_again, append_nothing}
use Rattle.same_flow.proofs.KeptActive.{Keeps, active_kept, adjust_kept, all_kept, assignment_kept, closure_kept, function_statement_kept, kept, return_kept}
use Rattle.same_flow.proofs.ListedSteps.{declared_texts}
use Rattle.same_flow.proofs.RunKeeps.{counted_kept, declared_active}
use Rattle.reads_back.proofs.PlacedCaptures.{element_taken}
use Rattle.reads_back.proofs.PlacedLocals.{Adds, InTurn, adds_activated, adds_both, adds_declared}
use Rattle.reads_back.proofs.TakenEntries.{at_place}
use Rattle.reads_back.proofs.Tests.{first_of_both, second_of_both}

-- ---- names of entries

abbrev pub texts_in : List LocVar → List Text
texts_in entries = map (λ (entry : LocVar). entry.name) entries

abbrev names_of : List Active → List Text
names_of active = map (λ (one : Active). one.local.name) active

pub texts_of_entries : (start end : ℕ) (texts : List Text) → texts_in (entries_of start end texts) ≡ texts
texts_of_entries start end [] = refl
texts_of_entries start end (text ∷ texts) = ap (λ (texts : List Text). text ∷ texts) (texts_of_entries start end texts)

-- a name that the source declares is one that it can write
abbrev pub IsGood : Local → Type 0
IsGood local = is_some local.declaration ≡ true → is_name local.name ≡ true

-- a hidden local is declared by no name
hidden_only : false ≡ true → ⊥
hidden_only is = cc

abbrev AreGood : List Active → Type 0
AreGood [] = Unit {0}
AreGood (one ∷ others) = IsGood one.local × AreGood others

abbrev AllGood : List Local → Type 0
AllGood [] = Unit {0}
AllGood (local ∷ locals) = IsGood local × AllGood locals

-- each of these has its name at its place of the list
abbrev pub NamedIn : List Text → List Active → Type 0
NamedIn texts active = (register : ℕ) (one : Active) → slice_get active register ≡ Some one → (slice_get texts one.listed ≡ Some one.local.name) × IsGood one.local

pub named_taken : (n : ℕ) (texts : List Text) (active : List Active) → NamedIn texts active → NamedIn texts (take n active)
named_taken n texts active named register one there = named register one (element_taken n active register one there)

pub named_longer : (texts more : List Text) (active : List Active) → NamedIn texts active → NamedIn (texts ++ more) active
named_longer texts more active named register one there = let found = named register one there in (kept_end texts more one.listed one.local.name found.0, found.1)

pub named_both : (texts : List Text) (xs ys : List Active) → NamedIn texts xs → NamedIn texts ys → NamedIn texts (xs ++ ys)
named_both texts [] ys first second register one there = second register one there
named_both texts (x ∷ xs) ys first second zero one there = first 0 one there
named_both texts (x ∷ xs) ys first second (suc register) one there = named_both texts xs ys (λ register. first (suc register)) second register one there

named_new : (texts : List Text) (new : List Active) → InTurn (length texts) new → AreGood new → NamedIn (texts ++ names_of new) new
named_new texts [] turn good register one there = absurd (none-some one there)
named_new texts (x ∷ new) turn good zero one there =
    let rest = names_of new in
    subst (λ (one : Active). (slice_get (texts ++ x.local.name ∷ rest) one.listed ≡ Some one.local.name) × IsGood one.local) (same_Some x one there)
    (ap (slice_get (texts ++ x.local.name ∷ rest)) turn.0 ∙ at_place texts x.local.name rest, good.0)
named_new texts (x ∷ new) turn good (suc register) one there =
    let name = x.local.name in
    let longer : suc (length texts) ≡ length (texts ++ name ∷ []) = sym (ends_longer texts name) in
    subst (λ (all : List Text). (slice_get all one.listed ≡ Some one.local.name) × IsGood one.local) (append_assoc texts (name ∷ []) (names_of new))
    (named_new (texts ++ name ∷ []) new (subst (λ n. InTurn n new) longer turn.1) good.1 register one there)
  where
    ends_longer : (texts : List Text) (text : Text) → length (texts ++ text ∷ []) ≡ suc (length texts)
    ends_longer [] text = refl
    ends_longer (first ∷ texts) text = ap suc (ends_longer texts text)

-- ---- locals with these names become active

pub record Brings (names : List Text) (m n : Maker) : Type 0 where
  pub new : List Active
  pub active : n.active ≡ m.active ++ new
  pub texts : names_of new ≡ names
  pub good : AreGood new

pub named_behind : (texts names : List Text) (m n : Maker) → Brings names m n → (adds : Adds m n) → length texts ≡ length m.locals → NamedIn texts m.active → NamedIn (texts ++ names) n.active
named_behind texts names m n brings adds count named =
    let same : adds.new ≡ brings.new = append_cancel_left m.active adds.new brings.new (sym adds.active ∙ brings.active) in
    let turn : InTurn (length texts) brings.new = subst (λ n. InTurn n brings.new) (sym count) (subst (InTurn (length m.locals)) same adds.listed) in
    subst (NamedIn (texts ++ names)) (sym brings.active)
    (named_both (texts ++ names) m.active brings.new (named_longer texts names m.active named)
    (subst (λ (names : List Text). NamedIn (texts ++ names) brings.new) brings.texts (named_new texts brings.new turn brings.good)))

brings_none : (m n : Maker) → n.active ≡ m.active → Brings [] m n
brings_none m n same = record { new = []; active = same ∙ sym (append_nothing m.active); texts = refl; good = tt }

brings_kept : {part : making.Part} → Keeps part → (m : Maker) → Brings [] m (part m)
brings_kept {part} keeps m = brings_none m (part m) (active_kept keeps m)

-- behind a part that leaves the active locals as they are
brings_behind : {names : List Text} {m valued n : Maker} → valued.active ≡ m.active → Brings names valued n → Brings names m n
brings_behind same brings = record { new = brings.new; active = brings.active ∙ ap (λ (active : List Active). active ++ brings.new) same; texts = brings.texts; good = brings.good }

good_both : (xs ys : List Active) → AreGood xs → AreGood ys → AreGood (xs ++ ys)
good_both [] ys first second = second
good_both (x ∷ xs) ys first second = (first.0, good_both xs ys first.1 second)

brings_both : {names others : List Text} {m middle n : Maker} → Brings names m middle → Brings others middle n → Brings (names ++ others) m n
brings_both {m = m} one other = record {
  new = one.new ++ other.new;
  active = other.active ∙ ap (λ (active : List Active). active ++ other.new) one.active ∙ append_again m.active one.new other.new;
  texts = map-append (λ (one : Active). one.local.name) one.new other.new ∙ ap₂ (λ (a b : List Text). a ++ b) one.texts other.texts;
  good = good_both one.new other.new one.good other.good;
}

brings_activated : (locals : List Local) (m : Maker) → AllGood locals → Brings (texts_of locals) m (activate locals m)
brings_activated [] m good = brings_none m m refl
brings_activated (local ∷ locals) m good =
    let x : Active = record { local = local; listed = length m.locals } in
    let next : Maker = record m { active = m.active ++ x ∷ []; locals = m.locals ++ record { name = local.name; start = length m.items; end = length m.items } ∷ [] } in
    let one : Brings (local.name ∷ []) m next = record { new = x ∷ []; active = refl; texts = refl; good = (good.0, tt) } in
    brings_both one (brings_activated locals next good.1)

declared_good : (texts : List Text) (m : Maker) → are_names texts ≡ true → AllGood (declare texts m).value
declared_good [] m good = tt
declared_good (text ∷ texts) m good = ((λ some. first_of_both (is_name text) (are_names texts) good), declared_good texts _ (second_of_both (is_name text) (are_names texts) good))

brings_declared : (texts : List Text) (m valued : Maker) → are_names texts ≡ true → valued.active ≡ m.active → Brings texts m (activate (declare texts m).value valued)
brings_declared texts m valued good same =
    subst (λ (names : List Text). Brings names m (activate (declare texts m).value valued)) (declared_texts texts m) (brings_behind same (brings_activated (declare texts m).value valued (declared_good texts m good)))

-- ---- by a step

-- the names that a part declares can be written
abbrev pub HasGoodNames : Part → Type 0
HasGoodNames (statement_part s) = are_names (names_declared (statement_part s)) ≡ true
HasGoodNames (head_part values names) = are_names names ≡ true
HasGoodNames part = Unit {0}

-- three hidden locals, and the variables
brings_head : (hidden : List Local) (names : List Text) (m valued next : Maker) → AllGood hidden → are_names names ≡ true → valued.active ≡ m.active → next.active ≡ (activate hidden valued).active →
    Brings (texts_of hidden ++ names) m (take_registers (length (declare names m).value) (activate (declare names m).value next))
brings_head hidden names m valued next all good same behind =
    let one : Brings (texts_of hidden) m (activate hidden valued) = brings_behind same (brings_activated hidden valued all) in
    let variables = (declare names m).value in
    let other : Brings names (activate hidden valued) (activate variables next) =
    subst (λ (names : List Text). Brings names (activate hidden valued) (activate variables next)) (declared_texts names m) (brings_behind behind (brings_activated variables next (declared_good names m good))) in
    let both = brings_both one other in
    record { new = both.new; active = both.active; texts = both.texts; good = both.good }

module _ (pcs : ℕ → ℕ) (code : Steps) (at : ℕ) where
  abbrev StepBrings : StepKind → Part → Type 0
  StepBrings kind part = HasGoodNames part → (m : Maker) → Brings (texts_in (entries_by pcs at kind part)) m (kind_made code kind part m)

  brings_entries : (start end : ℕ) (texts : List Text) (m n : Maker) → Brings texts m n → Brings (texts_in (entries_of start end texts)) m n
  brings_entries start end texts m n brings = subst (λ (names : List Text). Brings names m n) (sym (texts_of_entries start end texts)) brings

  act_brings : (s : Statement) → PartFits StepKind.Act (statement_part s) → StepBrings StepKind.Act (statement_part s)
  act_brings (assignment targets es) fits good m = brings_kept (assignment_kept 1 targets es) m
  act_brings (call_statement e) fits good m = brings_kept ((kept e).multi Op.Call (Some 0)) m
  act_brings (function_statement path method body) fits good m = brings_kept (function_statement_kept 1 path method body) m
  act_brings s fits good m = absurd fits

  declaration_brings : (s : Statement) (end : ℕ) (captured : Bool) → PartFits (StepKind.Declaration end captured) (statement_part s) → StepBrings (StepKind.Declaration end captured) (statement_part s)
  declaration_brings (local_statement names es) end captured fits good m =
      let declared = (declare names m).after in
      let valued = adjust 1 (all_coded es) (length names) declared in
      brings_entries (pcs (suc at)) (pcs end) names m _ (brings_declared names m valued good (active_kept (adjust_kept 1 (all_coded es) (all_kept es) (length names)) declared ∙ declared_active names m))
  declaration_brings (local_function text body) end captured fits good m =
      let locals = (declare (text ∷ []) m).value in
      let taken = take_registers 1 (declare (text ∷ []) m).after in
      let first = activate locals taken in
      let closed = closure 1 (inner body false) m.free first in
      let one = brings_declared (text ∷ []) m taken good (declared_active (text ∷ []) m) in
      let active : closed.active ≡ m.active ++ one.new = active_kept (closure_kept 1 (inner body false) m.free) first ∙ one.active in
      brings_entries (pcs (suc at)) (pcs end) (text ∷ []) m _ (record { new = one.new; active = active; texts = one.texts; good = one.good })
  declaration_brings s end captured fits good m = absurd fits

  brings_loop : (hidden : List Local) (end variables_end : ℕ) (names : List Text) (m n : Maker) → Brings (texts_of hidden ++ names) m n →
      Brings (texts_in (entries_of (pcs (suc at) - 1) (pcs end) (texts_of hidden) ++ entries_of (pcs (suc at)) (pcs variables_end) names)) m n
  brings_loop hidden end variables_end names m n brings =
      let first = entries_of (pcs (suc at) - 1) (pcs end) (texts_of hidden) in
      let others = entries_of (pcs (suc at)) (pcs variables_end) names in
      subst (λ (names : List Text). Brings names m n)
      (sym (map-append (λ (entry : LocVar). entry.name) first others ∙ ap₂ (λ (a b : List Text). a ++ b) (texts_of_entries (pcs (suc at) - 1) (pcs end) (texts_of hidden)) (texts_of_entries (pcs (suc at)) (pcs variables_end) names))) brings

  head_brings : (numeric : Bool) (foot end variables_end : ℕ) (captured : Bool) (part : Part) → PartFits (StepKind.Head numeric foot end variables_end captured) part → StepBrings (StepKind.Head numeric foot end variables_end captured) part
  head_brings true foot end variables_end captured (head_part values names) fits good m =
      let declared = (declare names m).after in
      let valued = counted_values values declared in
      brings_loop numeric_names end variables_end names m _
      (brings_head numeric_names names m valued (put 1 (Piece.Jump Op.ForPrep declared.free foot) (activate numeric_names valued)) ((λ some. absurd (hidden_only some)), ((λ some. absurd (hidden_only some)), ((λ some. absurd (hidden_only some)), tt))) good (counted_kept values declared ∙ declared_active names m) refl)
  head_brings false foot end variables_end captured (head_part values names) fits good m =
      let declared = (declare names m).after in
      let valued = adjust 1 (all_coded values) 3 declared in
      brings_loop generic_names end variables_end names m _
      (brings_head generic_names names m valued (used (declared.free + 6) (jump_to 1 foot (activate generic_names valued))) ((λ some. absurd (hidden_only some)), ((λ some. absurd (hidden_only some)), ((λ some. absurd (hidden_only some)), tt))) good
      (active_kept (adjust_kept 1 (all_coded values) (all_kept values) 3) declared ∙ declared_active names m) refl)
  head_brings true foot end variables_end captured part fits good m = absurd fits
  head_brings false foot end variables_end captured part fits good m = absurd fits

  pub kind_brings : (kind : StepKind) (part : Part) → PartFits kind part → StepBrings kind part
  kind_brings StepKind.Act (statement_part s) fits good m = act_brings s fits good m
  kind_brings (StepKind.Declaration end captured) (statement_part s) fits good m = declaration_brings s end captured fits good m
  kind_brings StepKind.Return (values_part es) fits good m = brings_kept (return_kept 1 (all_coded es) (all_kept es)) m
  kind_brings (StepKind.Test when target levels) (condition_part e) fits good m = brings_kept ((kept e).jump_if when target) m
  kind_brings (StepKind.Head numeric foot end variables_end captured) part fits good m = head_brings numeric foot end variables_end captured part fits good m
  kind_brings (StepKind.Jump target) part fits good m = brings_none m _ refl
  kind_brings (StepKind.Close from declared) part fits good m = brings_none m _ refl
  kind_brings (StepKind.Foot true target) part fits good m = brings_none m _ refl
  kind_brings (StepKind.Foot false target) part fits good m = brings_none m _ refl
  kind_brings kind part fits good m = absurd fits

-- ---- the parameters

-- they are the first in the list
pub params_named : (params names : List Text) (ahead : Ahead) → are_names params ≡ true → NamedIn params (begun_of params names ahead).active
params_named params names ahead good =
    let empty = empty_maker ahead names in
    let declared = declare params empty in
    let made = activate declared.value declared.after in
    let brings = brings_declared params empty declared.after good (declared_active params empty) in
    named_behind [] params empty made brings (adds_both (adds_declared params empty) (adds_activated declared.value declared.after)) refl (λ register one there. absurd (none-some one there))
