-- Closures: a function adds its own uses, and what it passes; its CLOSURE and the words that belong to it use nothing.
use Rattle.std.proofs.Common.{◌≡◌, ◌≤◌, ◌<◌, ℕ, zero, suc, ◌+◌, List, [], ◌∷◌, ◌++◌, length, refl, sym, ap, ◌∙◌, subst, arith}
use Rattle.std.specs.Prelude.{Option, Some, None, slice_get}
use lib.ListN.{length-map}
use Rattle.lua_num.specs.Bytes.{Text}
use Rattle.lua_tree.specs.Scoping.{Use}
use Rattle.lua_tree.specs.Syntax.{FunctionBody, function_expression}
use Rattle.opcode.specs.declared.op.Op.{Op}
use Rattle.proto.specs.Chunk.{Chunk, own, functions_of, function_at}
use Rattle.rules.specs.Places.{upvalue_count}
use Rattle.scheme.specs.Making.{Ahead, Maker, pass_name, put, where_is, Where, in_register, in_upvalue, in_globals}
use Rattle.scheme.specs.Functions.{Inner, Finished, closure, further_word, further_words, next_sources, source_name, source_names, without_sources, with_function, coded_function}
use Rattle.scheme.specs.declared.making.Piece.{Piece}
use Rattle.scheme.specs.declared.making.Item.{Item}
use Rattle.scheme.specs.declared.making.Active.{Active}
use Rattle.scheme_stands.proofs.Growth.{calm, Grown, at_end, back_empty, function_stands}
use Rattle.scheme_stands.proofs.Parts.{grows_further, grows_closure}
use Rattle.global_use.specs.Uses.{uses, uses_of}
use Rattle.source_globals.specs.Named.{Role}
use Rattle.source_globals.proofs.Owed.{Mention, owed, passed}
use Rattle.source_globals.proofs.Pieces.{does, pending, items_use, AreRead, pending_both, use_both, read_both}
use Rattle.source_globals.proofs.Tally.{End, Last, LastBy, Fine, FineBy, Told, ToldBy, WentBy, back, tally}
use Rattle.source_globals.proofs.Values.{Speaks}
use Rattle.source_globals.proofs.Forms.{single_told}

-- one function more
uses_end : (role : Role) (name : Text) (cs : List Chunk) (c : Chunk) → uses_of (does role) name (functions_of (cs ++ c ∷ [])) ≡ uses_of (does role) name (functions_of cs) + uses (does role) name c
uses_end role name [] c = omega arith
uses_end role name (d ∷ cs) c = ap (λ n. uses (does role) name d + n) (uses_end role name cs c) ∙ omega arith

-- what is said of a function by its name: it uses what it mentions
pub record InnerSpeaks (z : End) (ms : List Mention) (inner : Inner) : Type 0 where
  pub uses_are : (names : List Text) (ahead : Ahead) → (inner names ahead).misfits ≡ [] → uses (does z.role) z.name (inner names ahead).chunk ≡ owed z.role z.name ms ahead.names
  pub passes : (names : List Text) (ahead : Ahead) → (inner names ahead).misfits ≡ [] → (inner names ahead).ahead.names ≡ passed ms ahead.names
  pub upvalues : (names : List Text) (ahead : Ahead) → (own (inner names ahead).chunk).upvalues ≡ length names

-- a row of words that belong to one before, of which so many are to come
further_pending : (z : End) (line : ℕ) (uses : List Use) (m : Maker) → pending (functions_of z.functions) 0 m.items ≡ length uses → pending (functions_of z.functions) 0 (further_words line uses m).items ≡ 0
further_pending z line [] m e = e
further_pending z line (one ∷ uses) m e =
    let fs = functions_of z.functions in
    let item : Item = record { line = line; piece = further_word (where_is one m.active) } in
    further_pending z line uses (put line (further_word (where_is one m.active)) m)
    (pending_both fs 0 m.items (item ∷ []) ∙ ap (λ n. pending fs n (item ∷ [])) e)

further_read : (z : End) (line : ℕ) (uses : List Use) (m : Maker) → pending (functions_of z.functions) 0 m.items ≡ length uses → AreRead (functions_of z.functions) 0 m.items → AreRead (functions_of z.functions) 0 (further_words line uses m).items
further_read z line [] m e r = r
further_read z line (one ∷ uses) m e r =
    let fs = functions_of z.functions in
    let item : Item = record { line = line; piece = further_word (where_is one m.active) } in
    further_read z line uses (put line (further_word (where_is one m.active)) m)
    (pending_both fs 0 m.items (item ∷ []) ∙ ap (λ n. pending fs n (item ∷ [])) e)
    (read_both fs 0 m.items (item ∷ []) r (subst (λ n. AreRead fs n (item ∷ [])) (sym e) tt))

further_use : (z : End) (line : ℕ) (uses : List Use) (m : Maker) → pending (functions_of z.functions) 0 m.items ≡ length uses →
    items_use z.role z.name z.constants (functions_of z.functions) 0 (further_words line uses m).items ≡ items_use z.role z.name z.constants (functions_of z.functions) 0 m.items
further_use z line [] m e = refl
further_use z line (one ∷ uses) m e =
    let fs = functions_of z.functions in
    let item : Item = record { line = line; piece = further_word (where_is one m.active) } in
    let h = further_use z line uses (put line (further_word (where_is one m.active)) m) (pending_both fs 0 m.items (item ∷ []) ∙ ap (λ n. pending fs n (item ∷ [])) e) in
    let sum = use_both z.role z.name z.constants fs 0 m.items (item ∷ []) in
    let none : items_use z.role z.name z.constants fs (pending fs 0 m.items) (item ∷ []) ≡ 0 = ap (λ n. items_use z.role z.name z.constants fs n (item ∷ [])) e in
    omega (arith, h, sum, none)

further_same : (line : ℕ) (uses : List Use) (m : Maker) → ((further_words line uses m).active ≡ m.active) × ((further_words line uses m).functions ≡ m.functions) × ((further_words line uses m).ahead ≡ m.ahead)
further_same line [] m = (refl, refl, refl)
further_same line (one ∷ uses) m = further_same line uses (put line (further_word (where_is one m.active)) m)

module _ (z : End) where
  pub closure_told : {ms : List Mention} (line : ℕ) (inner : Inner) → InnerSpeaks z ms inner → (r : ℕ) → r ≤ 250 → (m : Maker) → Last z (closure line inner r m) → Fine z m → Told z ms m (closure line inner r m)
  closure_told {ms} line inner s r low m l f =
      let us = next_sources m in
      let names = source_names m us in
      let made = inner names (without_sources m.ahead) in
      let m1 = with_function made m in
      let number = length m.functions in
      let item : Item = record { line = line; piece = Piece.Abx Op.Closure r number } in
      let m2 = put line (Piece.Abx Op.Closure r number) m1 in
      let m3 = further_words line us m2 in
      let l2 = back z m2 m3 (grows_further line us m2) l in
      let fs = functions_of z.functions in
      let there = function_stands z.functions number made.chunk (l2.functions_kept _ _ (at_end m.functions made.chunk)) in
      let more : upvalue_count (function_at fs number) ≡ length us = ap upvalue_count there ∙ s.upvalues names (without_sources m.ahead) ∙ length-map us (source_name m) in
      let pends : pending fs 0 m2.items ≡ length us = pending_both fs 0 m.items (item ∷ []) ∙ ap (λ n. pending fs n (item ∷ [])) f.even ∙ more in
      let read2 : AreRead fs 0 m2.items = read_both fs 0 m.items (item ∷ []) f.read (subst (λ n. AreRead fs n (item ∷ [])) (sym f.even) (omega (arith, low), tt)) in
      let same = further_same line us m2 in
      let sum = use_both z.role z.name z.constants fs 0 m.items (item ∷ []) in
      let none : items_use z.role z.name z.constants fs (pending fs 0 m.items) (item ∷ []) ≡ 0 = ap (λ n. items_use z.role z.name z.constants fs n (item ∷ [])) f.even in
      let words = further_use z line us m2 pends in
      let functions = ap (λ cs. uses_of (does z.role) z.name (functions_of cs)) same.1 in
      let one = uses_end z.role z.name m.functions made.chunk in
      let kept = back_empty m.misfits made.misfits l2.none in
      let its = s.uses_are names (without_sources m.ahead) kept in
      record {
        went = record {
          fine = record {
            read = further_read z line us m2 pends read2;
            even = further_pending z line us m2 pends;
            room = let room = f.room in let as_long = ap length same.0 in omega (arith, room, as_long);
          };
          total = omega (arith, sum, none, words, functions, one, its);
        };
        names_passed = ap (λ a. a.names) same.2 ∙ s.passes names (without_sources m.ahead) kept;
      }

  pub function_told : {ms : List Mention} (line : ℕ) (body : FunctionBody) (inner : Inner) → InnerSpeaks z ms inner → Speaks z ms (coded_function line body inner)
  function_told line body inner s =
      single_told z line (function_expression line body) (closure line inner) refl (grows_closure line inner) (closure_told line inner s) (λ r m e f. cc) (λ k e. cc)
