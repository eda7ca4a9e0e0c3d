-- Serves the laws. The listed locals of a function, by the steps that bring them into scope and those where they end.
use Rattle.std.specs.Prelude.{◌≡◌, ◌≤◌, ◌+◌, ◌-◌, ℕ, zero, suc, Bool, true, false, List, [], ◌∷◌, ◌++◌, length, map, Option, None, Some, option_map, slice_get}
use Rattle.lua_num.specs.Bytes.{Text}
use Rattle.lua_tree.specs.Syntax.{Statements, local_function, local_statement}
use Rattle.proto.specs.declared.parts.LocVar.{LocVar}
use Rattle.recover_expr.specs.Drafts.{Part, statement_part, head_part}
use Rattle.recover_expr.specs.Placing.{Steps}
use Rattle.recover_expr.specs.declared.steps.StepKind.{StepKind}
use Rattle.scheme.specs.Making.{Ahead, end_locals}
use Rattle.scheme.specs.Scheme.{statements_made}
use Rattle.scheme.specs.Statements.{numeric_names, generic_names}
use Rattle.scheme.specs.declared.making.Active.{Active}
use Rattle.scheme.specs.declared.making.Local.{Local}
use Rattle.same_flow.specs.Performed.{Performance, ended_before, kind_at, part_at, performed_to}
use Rattle.same_flow.specs.SameFlow.{AreLaid, HasPlainParts, begun_of}
use Rattle.same_flow.specs.Told.{at_beginning}

-- so many steps are performed, and the locals that end there have ended
abbrev pub before_place : Steps → (params names : List Text) → Ahead → (at : ℕ) → Performance
before_place code params names ahead at = ended_before at (performed_to code (at_beginning code params names ahead) at)

-- how many words stand before a step
abbrev pub pc_of_step : Steps → (params names : List Text) → Ahead → (at : ℕ) → ℕ
pc_of_step code params names ahead at = length (performed_to code (at_beginning code params names ahead) at).maker.items

-- ---- the locals of a step, where steps stand at these pcs

abbrev pub entries_of : (start end : ℕ) → List Text → List LocVar
entries_of start end texts = map (λ text. record { name = text; start = start; end = end }) texts

abbrev pub names_declared : Part → List Text
names_declared (statement_part (local_statement names es)) = names
names_declared (statement_part (local_function name body)) = name ∷ []
names_declared part = []

abbrev pub texts_of : List Local → List Text
texts_of locals = map (λ (local : Local). local.name) locals

-- the hidden locals of a loop
abbrev pub hidden_texts : (numeric : Bool) → List Text
hidden_texts true = texts_of numeric_names
hidden_texts false = texts_of generic_names

-- they start behind a declaration; of a head, the hidden ones before its last word, and the variables behind it
abbrev pub entries_by : (pcs : ℕ → ℕ) → (at : ℕ) → StepKind → Part → List LocVar
entries_by pcs at (StepKind.Declaration end captured) part = entries_of (pcs (suc at)) (pcs end) (names_declared part)
entries_by pcs at (StepKind.Head numeric foot end variables_end captured) (head_part values names) =
    entries_of (pcs (suc at) - 1) (pcs end) (hidden_texts numeric) ++ entries_of (pcs (suc at)) (pcs variables_end) names
entries_by pcs at kind part = []

abbrev pub entries_where : (pcs : ℕ → ℕ) → (at : ℕ) → Option StepKind → Option Part → List LocVar
entries_where pcs at (Some kind) (Some part) = entries_by pcs at kind part
entries_where pcs at kind part = []

-- of so many steps from one on
abbrev pub entries_from : Steps → (pcs : ℕ → ℕ) → (at count : ℕ) → List LocVar
entries_from code pcs at zero = []
entries_from code pcs at (suc count) = entries_where pcs at (kind_at code.steps at) (part_at code at) ++ entries_from code pcs (suc at) count

-- of a function: its parameters end with it
abbrev pub all_entries : Steps → (params names : List Text) → Ahead → List LocVar
all_entries code params names ahead = let pcs = pc_of_step code params names ahead in entries_of 0 (pcs (length code.steps)) params ++ entries_from code pcs 0 (length code.steps)

-- ---- the law

-- where the active locals end, by the list
abbrev pub ends_listed : List LocVar → List Active → List (Option ℕ)
ends_listed entries active = map (λ (one : Active). option_map (λ (entry : LocVar). entry.end) (slice_get entries one.listed)) active

-- before a step, those of the steps before are listed, and the active ones end where the list says
pub record ListedBefore (code : Steps) (params names : List Text) (ahead : Ahead) (at : ℕ) : Type 0 where
  pub count : length (before_place code params names ahead at).maker.locals ≡ length params + length (entries_from code (pc_of_step code params names ahead) 0 at)
  pub ends : ends_listed (all_entries code params names ahead) (before_place code params names ahead at).maker.active ≡ map (λ end. Some (pc_of_step code params names ahead end)) (before_place code params names ahead at).ends

-- the locals of a function whose statements stand on steps
pub record LocalsListed (code : Steps) (params names : List Text) (ahead : Ahead) (block : Statements) : Type 0 where
  pub all : (end_locals 0 (statements_made block None (begun_of params names ahead))).locals ≡ all_entries code params names ahead
  pub before : (at : ℕ) → at ≤ length code.steps → ListedBefore code params names ahead at

abbrev pub LocalsAreListed : Type 0
LocalsAreListed = (code : Steps) → HasPlainParts code → (params names : List Text) (ahead : Ahead) (block : Statements) → AreLaid code params names ahead block → LocalsListed code params names ahead block
