-- Serves the laws. A function in the making whose labels have other numbers: what is made without labels is the same.
use Rattle.std.specs.Prelude.{◌≡◌, ℕ, true, List, map, Option}
use Rattle.lua_tree.specs.Syntax.{Statement, assignment, call_statement, function_statement, local_function, local_statement, return_statement, Expression, Expressions, binary_expression}
use Rattle.scheme.specs.Expressions.{next_reg}
use Rattle.scheme.specs.Lists.{adjust}
use Rattle.scheme.specs.Making.{Maker, Part}
use Rattle.scheme.specs.Scheme.{coded, all_coded, statement_made}
use Rattle.scheme.specs.Shapes.{plainness, plain_statement, plain_values}
use Rattle.scheme.specs.Statements.{Loop}
use Rattle.scheme.specs.declared.making.Item.{Item}
use Rattle.scheme.specs.declared.making.Piece.{Piece}

abbrev pub renamed_piece : (numbers : ℕ → ℕ) → Piece → Piece
renamed_piece numbers (Piece.Jump op a label) = Piece.Jump op a (numbers label)
renamed_piece numbers piece = piece

abbrev pub renamed_item : (numbers : ℕ → ℕ) → Item → Item
renamed_item numbers item = record { line = item.line; piece = renamed_piece numbers item.piece }

-- each label has another number, and these are the places of labels
abbrev pub with_labels : (numbers : ℕ → ℕ) → (labels : List ℕ) → Maker → Maker
with_labels numbers labels m = record m { items = map (renamed_item numbers) m.items; labels = labels }

-- the second makes behind other labels what the first makes
pub record Renames (numbers : ℕ → ℕ) (labels : List ℕ) (part other : Part) : Type 0 where
  pub same : (m : Maker) → with_labels numbers labels (part m) ≡ other (with_labels numbers labels m)

-- statements that are one step each
abbrev pub IsOneStep : Statement → Type 0
IsOneStep (assignment targets es) = Unit {0}
IsOneStep (call_statement e) = Unit {0}
IsOneStep (function_statement path method body) = Unit {0}
IsOneStep (local_function name body) = Unit {0}
IsOneStep (local_statement names es) = Unit {0}
IsOneStep (return_statement es) = Unit {0}
IsOneStep s = ⊥

-- an expression that is tested as a whole: a comparison, or what is plain as a value
abbrev pub IsTested : Expression → Type 0
IsTested (binary_expression line op left right) = (plainness (binary_expression line op left right)).condition ≡ true
IsTested e = (plainness e).value ≡ true

pub record StatementsRename : Type 0 where
  pub statements : (numbers : ℕ → ℕ) (labels : List ℕ) (s : Statement) (line : ℕ) (loop : Option Loop) → IsOneStep s → plain_statement s ≡ true → Renames numbers labels (statement_made s line loop) (statement_made s line loop)
  pub tests : (numbers : ℕ → ℕ) (labels : List ℕ) (e : Expression) → IsTested e → (truth : _) (label : ℕ) → Renames numbers labels ((coded e).jump_if truth label) ((coded e).jump_if truth (numbers label))
  pub values : (numbers : ℕ → ℕ) (labels : List ℕ) (e : Expression) → (plainness e).value ≡ true → Renames numbers labels (next_reg (coded e)) (next_reg (coded e))
  pub adjusted : (numbers : ℕ → ℕ) (labels : List ℕ) (line : ℕ) (es : Expressions) (count : ℕ) → plain_values es ≡ true → Renames numbers labels (adjust line (all_coded es) count) (adjust line (all_coded es) count)
