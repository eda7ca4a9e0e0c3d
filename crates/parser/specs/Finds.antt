-- Serves the bodies. What the parser's functions answer, by the programs.
use Rattle.std.specs.Prelude.{◌≡◌, ◌≤◌, ◌<◌, ℕ, Bool, true, false, List, [], ◌∷◌, Some}
use Rattle.lua_tree.specs.Syntax.{Expression, Statements}
use Rattle.lua_num.specs.Bytes.{Text}
use Rattle.lua_tree.specs.Spelled.{Phrase, Meant, Parameters}
use Rattle.lua_tree.specs.declared.token.Token.{Token}
use Rattle.lua_tree.specs.declared.token.TokenKind.{TokenKind}
use Rattle.parser.specs.declared.cursor.Halt.{Halt}
use Rattle.parser.specs.declared.functions.Parameters.{Parameters as MadeParameters}
use Rattle.parser.specs.Program.{Goal, Program, call, want, whole, block, reads}
use Rattle.parser.specs.Loops.{names_with}
use Rattle.parser.specs.Runs.{unexpected, too_deep, End, done, fault, Runs, kind_of}

-- the next token, in a depth that is allowed, is taken
pub record Takes (depth : ℕ) (tokens : List Token) (line : ℕ) (rest : List Token) : Type 0 where
  pub token : Token
  pub first : tokens ≡ token ∷ rest
  pub on : line ≡ token.line
  pub low : depth ≤ 200

-- there is no next token, or its depth is too great
abbrev pub IsNoNext : ℕ → List Token → Halt → Type 0
IsNoNext depth [] halt = halt ≡ Halt.Unexpected
IsNoNext depth (token ∷ tokens) halt = (halt ≡ Halt.TooDeep) × (200 < depth)

pub record TakesNot (depth : ℕ) (tokens rest : List Token) (halt : Halt) : Type 0 where
  pub left : rest ≡ tokens
  pub why : IsNoNext depth tokens halt

-- whether the next token is of this kind
pub record Tests (kind : TokenKind) (tokens : List Token) (answer : Bool) : Type 0 where
  pub yes : answer ≡ true → kind_of tokens ≡ Some kind
  pub no : answer ≡ false → kind_of tokens ≡ Some kind → ⊥

-- the next token, which is of this kind, is taken
pub record Wants (kind : TokenKind) (tokens : List Token) (line : ℕ) (rest : List Token) : Type 0 where
  pub token : Token
  pub first : tokens ≡ token ∷ rest
  pub is : token.kind ≡ kind
  pub on : line ≡ token.line

-- nothing is taken, since the next token is not of this kind
pub record Leaves (kind : TokenKind) (before : ℕ) (tokens : List Token) (line : ℕ) (rest : List Token) : Type 0 where
  pub left : rest ≡ tokens
  pub on : line ≡ before
  pub not : kind_of tokens ≡ Some kind → ⊥

-- the next token is taken where it is of this kind
pub record Accepts (kind : TokenKind) (before : ℕ) (tokens : List Token) (line : ℕ) (rest : List Token) (answer : Bool) : Type 0 where
  pub yes : answer ≡ true → Wants kind tokens line rest
  pub no : answer ≡ false → Leaves kind before tokens line rest

-- the next token is not of this kind
pub record WantsNot (kind : TokenKind) (tokens rest : List Token) (halt : Halt) : Type 0 where
  pub left : rest ≡ tokens
  pub why : halt ≡ Halt.Unexpected
  pub not : kind_of tokens ≡ Some kind → ⊥

-- an answer, the line of the last token and the tokens left, or a fault at the first of these, or want of memory
pub data Outcome (answer : Phrase) : Type 0 where
  found : Meant answer → ℕ → List Token → Outcome answer
  halted : Halt → List Token → Outcome answer

-- the end of a run that an outcome stands for
abbrev pub Means : {answer : Phrase} → Outcome answer → End answer → Type 0
Means (found meant last rest) end = end ≡ done meant last rest
Means (halted Halt.Unexpected rest) end = end ≡ fault unexpected rest
Means (halted Halt.TooDeep rest) end = end ≡ fault too_deep rest
Means (halted Halt.OutOfMemory rest) end = ⊥

-- a program runs to the end that an outcome stands for
pub record Leads {answer : Phrase} (program : Program answer) (before : ℕ) (tokens : List Token) (outcome : Outcome answer) : Type 0 where
  pub run : (end : End answer) → Means outcome end → Runs 200 answer program before tokens end

-- what reads a goal answers this
pub record Finds {answer : Phrase} (goal : Goal answer) (before : ℕ) (tokens : List Token) (meant : Meant answer) (last : ℕ) (rest : List Token) : Type 0 where
  pub leads : Leads (reads goal) before tokens (found meant last rest)

-- or has this fault
pub record Refuses {answer : Phrase} (goal : Goal answer) (before : ℕ) (tokens rest : List Token) (halt : Halt) : Type 0 where
  pub leads : Leads (reads goal) before tokens (halted halt rest)

-- a condition, `then` and a block are read, whatever is to follow them
abbrev pub arm_before : {answer : Phrase} → ℕ → (Expression → Statements → Program answer) → Program answer
arm_before depth then = call (whole depth 0) (λ cond. want TokenKind.Then (call (block depth) (λ inside. then cond inside)))

pub record FindsArm (depth before : ℕ) (tokens : List Token) (cond : Expression) (inside : Statements) (last : ℕ) (rest : List Token) : Type 0 where
  pub leads : (answer : Phrase) (then : Expression → Statements → Program answer) (outcome : Outcome answer) → Leads (then cond inside) last rest outcome → Leads (arm_before depth then) before tokens outcome

pub record RefusesArm (depth before : ℕ) (tokens rest : List Token) (halt : Halt) : Type 0 where
  pub leads : (answer : Phrase) (then : Expression → Statements → Program answer) → Leads (arm_before depth then) before tokens (halted halt rest)

-- names with a mark between them, behind the first
pub record FindsNames (mark : TokenKind) (first : Text) (before : ℕ) (tokens : List Token) (names : List Text) (last : ℕ) (rest : List Token) : Type 0 where
  pub leads : Leads (names_with mark (first ∷ [])) before tokens (found names last rest)

pub record RefusesNames (mark : TokenKind) (first : Text) (before : ℕ) (tokens rest : List Token) (halt : Halt) : Type 0 where
  pub leads : Leads (names_with mark (first ∷ [])) before tokens (halted halt rest)

-- the parameters of the program
abbrev pub parameters_of : MadeParameters → Parameters
parameters_of made = record { names = made.names; vararg = made.vararg }
