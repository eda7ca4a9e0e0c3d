-- Serves the bodies. What the code reads of marks.
use Rattle.std.specs.Prelude.{ℕ, ◌<◌, List, [], ◌∷◌, codes}
use Rattle.lua_tree.specs.declared.token.TokenKind.{TokenKind}
use Rattle.lua_tree.specs.Tokens.{IsMark, IsMarkPlace, IsToken}
use Rattle.lexer.specs.Fronts.{IsFront}

-- wherever these bytes stand as a mark, they are this token
abbrev pub IsMarkKind : List ℕ → TokenKind → Type 0
IsMarkKind mark kind = (at : ℕ) (after : List ℕ) → IsMark mark at mark after → IsToken kind at mark after

-- the marks of two bytes
abbrev pub double_marks : List (List ℕ)
double_marks = codes "==" ∷ codes "~=" ∷ codes "<=" ∷ codes ">=" ∷ codes ".." ∷ []

-- the marks of one byte
abbrev pub single_marks : List (List ℕ)
single_marks =
    codes "+" ∷ codes "-" ∷ codes "*" ∷ codes "/" ∷ codes "%" ∷ codes "^" ∷ codes "#" ∷ codes "<" ∷ codes ">" ∷ codes "=" ∷ codes "(" ∷ codes ")" ∷ codes "{" ∷ codes "}" ∷ codes "[" ∷ codes "]" ∷ codes ";" ∷ codes ":" ∷ codes "," ∷ codes "." ∷ []

-- the longest mark at the front of a text: it is this token where it may stand
pub record MarkFront (kind : TokenKind) (n : ℕ) (text : List ℕ) : Type 0 where
  pub front : List ℕ
  pub after : List ℕ
  pub is_front : IsFront n text front after
  pub some : 0 < n
  pub mark : (at : ℕ) → IsMarkPlace at front after → IsToken kind at front after
