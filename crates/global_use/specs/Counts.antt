-- Serves a body: counts that stand beside the constants of a function, and a table of the counts of names.
use Rattle.std.specs.Prelude.{◌≡◌, ℕ, zero, suc, ◌+◌, ◌≤◌, Bool, List, [], ◌∷◌, Option, None, Some, IfSome, unwrap_or, if◌then◌else◌}
use Rattle.std.specs.BTreeMap.{BTreeMap, get_by, IsOrdered}
use Rattle.std.specs.Borrow.{Bor}
use Rattle.std.specs.Cmp.Lexicographic.{slice_cmp}
use Rattle.std.specs.Option.{option_map_or}
use Rattle.std.specs.Ordering.{nat_cmp}
use Rattle.std.specs.Str.{bytes_eq}
use Rattle.lua_num.specs.Bytes.{Text}
use Rattle.opcode.specs.declared.op.Op.{Op}
use Rattle.opcode.specs.declared.word.Instr.{Instr}
use Rattle.opcode.specs.Reading.{instr_of}
use Rattle.proto.specs.declared.parts.Constant.{Constant}
use Rattle.proto.specs.Chunk.{Chunk, own, Functions}
use Rattle.rules.specs.Places.{belonging, further_words}
use Rattle.global_use.specs.declared.counting.Counts.{Counts}
use Rattle.global_use.specs.Uses.{is_get, is_set, is_name, uses_in}

-- which of the two counts
pub data Kind : Type 0 where
  getting setting : Kind

abbrev pub does : Kind → Op → Bool
does getting = is_get
does setting = is_set

abbrev pub count_of : Kind → Counts → ℕ
count_of getting c = c.gets
count_of setting c = c.sets

abbrev pub counts_sum : Counts → Counts → Counts
counts_sum a b = record { gets = a.gets + b.gets; sets = a.sets + b.sets }

abbrev pub no_counts : Counts
no_counts = record { gets = 0; sets = 0 }

-- one word with this opcode
abbrev pub counts_of : Op → Counts
counts_of op = record { gets = if is_get op then 1 else 0; sets = if is_set op then 1 else 0 }

-- counts with more at one place
abbrev pub with_more : List Counts → ℕ → Counts → List Counts
with_more [] k more = []
with_more (c ∷ counts) zero more = counts_sum c more ∷ counts
with_more (c ∷ counts) (suc k) more = c ∷ with_more counts k more

abbrev pub with_instr : List Counts → Option Instr → List Counts
with_instr counts None = counts
with_instr counts (Some i) = with_more counts i.bx (counts_of i.op)

-- behind a word of which it is given how many further words were left to come, which counts where none was
abbrev pub with_word : List Counts → (left : ℕ) → (word : ℕ) → List Counts
with_word counts zero word = with_instr counts (instr_of word)
with_word counts (suc n) word = counts

-- how many are left to come behind it
abbrev pub left_behind : Functions → (left : ℕ) → (word : ℕ) → ℕ
left_behind inner zero word = belonging inner (instr_of word)
left_behind inner (suc n) word = n

-- the sum of the counts that stand beside a name
abbrev pub named_sum : Kind → Text → List Constant → List Counts → ℕ
named_sum kind name [] counts = 0
named_sum kind name (c ∷ constants) [] = 0
named_sum kind name (c ∷ constants) (n ∷ counts) = (if is_name name (Some c) then count_of kind n else 0) + named_sum kind name constants counts

-- the counts of a function's words stand beside its constants
abbrev pub AreCounted : Chunk → List Counts → Type 0
AreCounted f counts = (kind : Kind) (name : Text) → named_sum kind name (own f).constants counts ≡ uses_in (does kind) (own f).constants name (further_words f) (own f).code

-- ---- tables of names

abbrev pub Names : Type 0
Names = BTreeMap (Bor (List ℕ)) Counts

abbrev pub counts_at : Names → Text → Option Counts
counts_at names name = get_by (λ k. slice_cmp nat_cmp name k.now) names

abbrev pub told : Kind → Names → Text → ℕ
told kind names name = option_map_or (count_of kind) (counts_at names name) 0

-- the counts of one name are more by these, and the others are as they were
abbrev pub HasMore : Names → Names → Text → Counts → Type 0
HasMore old new name more = (q : Text) → counts_at new q ≡ (if bytes_eq name q then Some (counts_sum (unwrap_or (counts_at old name) no_counts) more) else counts_at old q)

-- each name of a table is got or set
abbrev pub AllUsed : Names → Type 0
AllUsed names = (name : Text) → IfSome (counts_at names name) (λ c. 1 ≤ c.gets + c.sets)

-- the names stand in the order of their bytes
abbrev pub IsInOrder : Names → Type 0
IsInOrder names = IsOrdered (λ x y. slice_cmp nat_cmp x.now y.now) names

-- a table tells so much more, but for a rest
pub record Tells (old new : Names) (whole rest : Kind → Text → ℕ) : Type 0 where
  pub more : (kind : Kind) (name : Text) → told kind new name + rest kind name ≡ told kind old name + whole kind name
  pub used : AllUsed old → AllUsed new

abbrev pub nothing : Kind → Text → ℕ
nothing kind name = 0

abbrev pub Adds : Names → Names → (Kind → Text → ℕ) → Type 0
Adds old new whole = Tells old new whole nothing
