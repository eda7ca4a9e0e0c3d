-- Serves the bodies. How a program runs, within a depth.
use Rattle.std.specs.Prelude.{◌≡◌, ℕ, ◌<◌, ◌≤◌, List, [], ◌∷◌, Option, Some, None}
use Rattle.lua_tree.specs.Spelled.{Phrase, Meant}
use Rattle.lua_tree.specs.declared.token.Token.{Token}
use Rattle.lua_tree.specs.declared.token.TokenKind.{TokenKind}
use Rattle.parser.specs.Program.{Goal, Program, give, stop, look, skip, want, choose, call, reads}

-- why there is no tree
pub data Why : Type 0 where
  unexpected too_deep : Why

-- what the next token is, and its line
abbrev pub kind_of : List Token → Option TokenKind
kind_of [] = None
kind_of (token ∷ tokens) = Some token.kind

abbrev pub line_of : List Token → ℕ
line_of [] = 0
line_of (token ∷ tokens) = token.line

-- an end: an answer, the line of the last token and the tokens left, or a fault at the first of these
pub data End (answer : Phrase) : Type 0 where
  done : Meant answer → ℕ → List Token → End answer
  fault : Why → List Token → End answer

pub data Runs (most : ℕ) : (answer : Phrase) → Program answer → ℕ → List Token → End answer → Type 0 where
  gives : {answer : Phrase} {meant : Meant answer} {before : ℕ} {tokens : List Token} → Runs most answer (give meant) before tokens (done meant before tokens)
  stops : {answer : Phrase} {before : ℕ} {tokens : List Token} → Runs most answer stop before tokens (fault unexpected tokens)
  looks : {answer : Phrase} {then : ℕ → Option TokenKind → ℕ → Program answer} {before : ℕ} {tokens : List Token} {end : End answer} →
      Runs most answer (then before (kind_of tokens) (line_of tokens)) before tokens end → Runs most answer (look then) before tokens end
  skips : {answer : Phrase} {depth : ℕ} {then : Program answer} {before : ℕ} {token : Token} {tokens : List Token} {end : End answer} →
      depth ≤ most → Runs most answer then token.line tokens end → Runs most answer (skip depth then) before (token ∷ tokens) end
  deep : {answer : Phrase} {depth : ℕ} {then : Program answer} {before : ℕ} {token : Token} {tokens : List Token} →
      most < depth → Runs most answer (skip depth then) before (token ∷ tokens) (fault too_deep (token ∷ tokens))
  ends : {answer : Phrase} {depth : ℕ} {then : Program answer} {before : ℕ} → Runs most answer (skip depth then) before [] (fault unexpected [])
  wants : {answer : Phrase} {kind : TokenKind} {then : Program answer} {before : ℕ} {token : Token} {tokens : List Token} {end : End answer} →
      token.kind ≡ kind → Runs most answer then token.line tokens end → Runs most answer (want kind then) before (token ∷ tokens) end
  misses : {answer : Phrase} {kind : TokenKind} {then : Program answer} {before : ℕ} {tokens : List Token} →
      (kind_of tokens ≡ Some kind → ⊥) → Runs most answer (want kind then) before tokens (fault unexpected tokens)
  chooses : {answer : Phrase} {kind : TokenKind} {yes no : Program answer} {before : ℕ} {tokens : List Token} {end : End answer} →
      kind_of tokens ≡ Some kind → Runs most answer yes before tokens end → Runs most answer (choose kind yes no) before tokens end
  passes : {answer : Phrase} {kind : TokenKind} {yes no : Program answer} {before : ℕ} {tokens : List Token} {end : End answer} →
      (kind_of tokens ≡ Some kind → ⊥) → Runs most answer no before tokens end → Runs most answer (choose kind yes no) before tokens end
  calls : {answer inner : Phrase} {goal : Goal inner} {then : Meant inner → Program answer} {before last : ℕ} {tokens rest : List Token} {meant : Meant inner} {end : End answer} →
      Runs most inner (reads goal) before tokens (done meant last rest) → Runs most answer (then meant) last rest end → Runs most answer (call goal then) before tokens end
  fails : {answer inner : Phrase} {goal : Goal inner} {then : Meant inner → Program answer} {before : ℕ} {tokens rest : List Token} {why : Why} →
      Runs most inner (reads goal) before tokens (fault why rest) → Runs most answer (call goal then) before tokens (fault why rest)
