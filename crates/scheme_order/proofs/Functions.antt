-- Closures and functions: of functions that agree, the chunks and the misfits are the same.
use Rattle.std.proofs.Common.{◌≡◌, ℕ, true, false, List, [], ◌∷◌, length, refl, ap, ◌∙◌}
use Rattle.lua_num.specs.Bytes.{Text}
use Rattle.lua_tree.specs.Scoping.{Use}
use Rattle.lua_tree.specs.Syntax.{FunctionBody, function_expression}
use Rattle.opcode.specs.declared.op.Op.{Op}
use Rattle.scheme.specs.Making.{Ahead, Maker, Part, put, where_is}
use Rattle.scheme.specs.Functions.{Heading, empty_maker, with_params, whole_function, Finished, finished, function_from, source_names, further_word, further_words, Inner, next_sources, without_sources, with_function, closure, coded_function}
use Rattle.scheme.specs.declared.making.Piece.{Piece}
use Rattle.scheme_order.proofs.Makers.{Names, no_names, Agree, bind, ◌then◌, no_part, same_read, same_put, same_take, same_declare, same_activate, same_end}
use Rattle.scheme_order.proofs.Trees.{look_plain}
use Rattle.scheme_order.proofs.Expressions.{Same, same_single, same_only}

-- ---- whole functions

-- the parameters of a function
same_params : (params : List Text) → Agree false no_names no_names (with_params params) (with_params params)
same_params params = bind (same_declare params) (λ locals. same_activate locals then same_take (length params))

-- the words of a function
same_whole : {here there : Names} {part other : Part} (end_line : ℕ) (params : List Text) → Agree false here there part other →
    Agree false here there (whole_function end_line params part) (whole_function end_line params other)
same_whole end_line params p = same_params params then p then same_end 0 then same_put end_line (Piece.Abc Op.Return 0 1 0)

-- what is ahead, with these names
abbrev pub names_ahead : List Use → Ahead → Ahead
names_ahead names ahead = record ahead { names = names }

-- a function, with these names ahead behind it
abbrev pub finished_with : List Use → Finished → Finished
finished_with names made = record made { ahead = names_ahead names made.ahead }

-- functions in others that agree
pub record SameInner (here there : Names) (inner other : Inner) : Type 0 where
  pub made : Inner
  pub first : (texts : List Text) (ahead : Ahead) (rest : List Use) → inner texts (names_ahead (here rest) ahead) ≡ finished_with rest (made texts ahead)
  pub second : (texts : List Text) (ahead : Ahead) (rest : List Use) → other texts (names_ahead (there rest) ahead) ≡ finished_with rest (made texts ahead)

-- of parts that agree, the functions do
pub same_function : {here there : Names} {part other : Part} (heading : Heading) (end_line : ℕ) (params : List Text) → Agree false here there part other →
    SameInner here there (function_from heading end_line params part) (function_from heading end_line params other)
same_function heading end_line params p =
    let whole = same_whole end_line params p in
    record {
      made = λ texts ahead. finished heading (whole.made (empty_maker ahead texts));
      first = λ texts ahead rest. ap (finished heading) (whole.first (empty_maker ahead texts) rest);
      second = λ texts ahead rest. ap (finished heading) (whole.second (empty_maker ahead texts) rest);
    }

-- ---- closures

-- the further words of a closure
same_further : (line : ℕ) (uses : List Use) → Agree true no_names no_names (further_words line uses) (further_words line uses)
same_further line [] = no_part
same_further line (meant ∷ uses) = bind (same_read (λ m. further_word (where_is meant m.active)) (λ m rest. refl)) (λ word. same_put line word then same_further line uses)

-- the words behind a function that is made, and a closure of it
abbrev behind : (line r : ℕ) → Maker → Part
behind line r m n = further_words line (next_sources m) (put line (Piece.Abx Op.Closure r (length m.functions)) n)

-- a closure of a function that is made
abbrev closure_of : (line r : ℕ) → Maker → Finished → Maker
closure_of line r m made = behind line r m (with_function made m)

-- the words of a closure
same_behind : (line r : ℕ) (m : Maker) → Agree true no_names no_names (behind line r m) (behind line r m)
same_behind line r m = same_put line (Piece.Abx Op.Closure r (length m.functions)) then same_further line (next_sources m)

-- a closure
pub same_closure : {here there : Names} {inner other : Inner} (line : ℕ) → SameInner here there inner other → (r : ℕ) → Agree true here there (closure line inner r) (closure line other r)
same_closure line s r = record {
  made = λ m. (same_behind line r m).made (with_function (made m) m);
  first = λ m rest. ap (closure_of line r m) (s.first (texts m) (without_sources m.ahead) rest) ∙ (same_behind line r m).first (with_function (made m) m) rest;
  second = λ m rest. ap (closure_of line r m) (s.second (texts m) (without_sources m.ahead) rest) ∙ (same_behind line r m).second (with_function (made m) m) rest;
  active = λ e m. (same_behind line r m).active refl (with_function (made m) m);
}
  where
    texts : Maker → List Text
    texts m = source_names m (next_sources m)

    made : Maker → Finished
    made m = s.made (texts m) (without_sources m.ahead)

-- a function, as an expression
pub same_coded_function : {here there : Names} {inner other : Inner} (line : ℕ) (body more : FunctionBody) → SameInner here there inner other →
    Same here there (coded_function line body inner) (coded_function line more other)
same_coded_function {inner = inner} {other} line body more s =
    same_only
    (same_single line (function_expression line body) (function_expression line more) (closure line inner) (closure line other) (look_plain refl refl refl refl refl refl refl) (same_closure line s))
    refl refl
