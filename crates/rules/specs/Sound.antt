-- To be believed, and this suite's own. Sound chunks, and where one that is not is rejected.
use Rattle.std.specs.Prelude.{◌≡◌, ◌⊎◌, ℕ, zero, suc, ◌<◌, Bool, true, false, List, [], ◌∷◌}
use Rattle.proto.specs.Chunk.{Chunk, function, Functions, no_functions, and_function}
use Rattle.rules.specs.declared.rule.Rule.{Rule}
use Rattle.rules.specs.Notes.{Notes, Consistent}
use Rattle.rules.specs.Breaks.{breaks}

-- consistent notes under which a function breaks no rule
pub record Noted (f : Chunk) (main : Bool) (notes : Notes) : Type 0 where
  pub consistent : Consistent f notes
  pub keeps : (pc : ℕ) (rule : Rule) → breaks f main notes pc rule ≡ false

abbrev pub HasNotes : Chunk → Bool → Type 0
HasNotes f main = (notes : Notes) × Noted f main notes

-- every function has such notes
abbrev mutual
  pub IsSound : Chunk → Bool → Type 0
  IsSound (function f inner) main = HasNotes (function f inner) main × AreSound inner

  pub AreSound : Functions → Type 0
  AreSound no_functions = Unit {0}
  AreSound (and_function c rest) = IsSound c false × AreSound rest

abbrev pub Sound : Chunk → Type 0
Sound chunk = IsSound chunk true

abbrev pub rule_number : Rule → ℕ
rule_number Rule.BadWord = 1
rule_number Rule.Register = 2
rule_number Rule.Constant = 3
rule_number Rule.Function = 4
rule_number Rule.Upvalue = 5
rule_number Rule.JumpTarget = 6
rule_number Rule.NameConstant = 7
rule_number Rule.OpenResults = 8
rule_number Rule.LoopNumbers = 9
rule_number Rule.LoopCaptured = 10
rule_number Rule.FurtherWord = 11
rule_number Rule.NoJump = 12
rule_number Rule.Shape = 13
rule_number Rule.FallsOff = 14

-- places in one function go by pc, and at one pc by the rule's number
abbrev pub IsEarlier : ℕ → Rule → ℕ → Rule → Type 0
IsEarlier pc rule later other = (pc < later) ⊎ ((pc ≡ later) × (rule_number rule < rule_number other))

pub record RejectedAt (f : Chunk) (main : Bool) (pc : ℕ) (rule : Rule) : Type 0 where
  -- every consistent set of notes breaks the rule there
  pub always : (notes : Notes) → Consistent f notes → breaks f main notes pc rule ≡ true
  -- and some consistent set breaks nothing at an earlier place
  pub notes : Notes
  pub consistent : Consistent f notes
  pub first : (p : ℕ) (r : Rule) → IsEarlier p r pc rule → breaks f main notes p r ≡ false

-- A chunk is rejected at the first place, where functions go in the order of a listing: a function before those that
-- stand in it. A path has the numbers of the functions from main down.
abbrev mutual
  pub IsRejected : Chunk → Bool → List ℕ → ℕ → Rule → Type 0
  IsRejected (function f inner) main [] pc rule = RejectedAt (function f inner) main pc rule
  IsRejected (function f inner) main (n ∷ path) pc rule = HasNotes (function f inner) main × AreRejected inner n path pc rule

  pub AreRejected : Functions → ℕ → List ℕ → ℕ → Rule → Type 0
  AreRejected no_functions n path pc rule = ⊥
  AreRejected (and_function c rest) zero path pc rule = IsRejected c false path pc rule
  AreRejected (and_function c rest) (suc n) path pc rule = IsSound c false × AreRejected rest n path pc rule

abbrev pub Rejected : Chunk → List ℕ → ℕ → Rule → Type 0
Rejected chunk path pc rule = IsRejected chunk true path pc rule
