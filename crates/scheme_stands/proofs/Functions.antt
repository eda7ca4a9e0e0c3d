-- Closures stand as the relation says, if the functions in them do.
use Rattle.std.proofs.Common.{◌≡◌, ℕ, List, [], ◌∷◌, length, refl, ◌∙◌, subst, map, ap, sym, get_or}
use lib.ListN.{length-map}
use Rattle.lua_num.specs.Bytes.{Text}
use Rattle.lua_tree.specs.Scoping.{Use, local_use, upvalue_use, global_use}
use Rattle.lua_tree.specs.Syntax.{FunctionBody, function_expression}
use Rattle.opcode.specs.declared.op.Op.{Op}
use Rattle.proto.specs.Chunk.{own}
use Rattle.scheme.specs.Making.{Ahead, Maker, put, Where, in_register, in_upvalue, in_globals, where_is}
use Rattle.scheme.specs.Functions.{Inner, closure, further_words, further_word, source_name, source_names, next_sources, without_sources, with_function, coded_function, name_of}
use Rattle.scheme.specs.declared.making.Piece.{Piece}
use Rattle.scheme.specs.declared.making.Active.{Active}
use Rattle.std.specs.Prelude.{None}
use Rattle.scheme_stands.specs.Words.{Law, WordAt, Spot}
use Rattle.scheme_stands.specs.Functions.{FunctionRel, FurtherAt, ClosureAt, rel_function, FurtherWordAt, captured_name}
use Rattle.scheme_stands.proofs.Growth.{at_end, length_end, calm, Final, before, spot, fn_of, resolved, put_at, before_put, function_stands, made_fine}
use Rattle.scheme_stands.proofs.Parts.{grows_further}
use Rattle.scheme_stands.proofs.Links.{Links, single_at}

-- a function that keeps its limits stands as its relation says, with upvalues of these names
pub record Made (inner : Inner) (rel : FunctionRel) : Type 0 where
  pub made_at : (names : List Text) (ahead : Ahead) → (inner names ahead).misfits ≡ [] → rel ahead (inner names ahead).ahead (inner names ahead).chunk
  pub upvalues : (names : List Text) (ahead : Ahead) → (own (inner names ahead).chunk).upvalues ≡ length names
  pub named : (names : List Text) (ahead : Ahead) → (own (inner names ahead).chunk).upvalue_names ≡ names

module _ (z : Maker) where
  further_is : (labels : List ℕ) (w : Where) → resolved labels (further_word w) ≡ further_word w
  further_is labels (in_register r) = refl
  further_is labels (in_upvalue slot) = refl
  further_is labels in_globals = refl

  no_word : (w : Piece) (p q : Spot) → WordAt (fn_of z) w p q → FurtherWordAt (fn_of z) w p q
  no_word w p q t = record { has = t.has; reads = tt; next = t.next; ahead = t.ahead; functions = t.functions }

  further_at : (line : ℕ) (uses : List Use) (active : List Active) (m : Maker) {k : ℕ} → m.active ≡ active → Final k (further_words line uses m) z → FurtherAt (fn_of z) active uses (spot m) (spot (further_words line uses m))
  further_at line [] active m e f = record { pc = refl; ahead = refl; functions = refl }
  further_at line (one ∷ uses) active m e f =
      let word = further_word (where_is one m.active) in
      let m1 = put line word m in
      record {
        mid = spot m1;
        first_at = subst (λ a. FurtherWordAt (fn_of z) (further_word (where_is one a)) (spot m) (spot m1)) e
            (no_word (further_word (where_is one m.active)) (spot m) (spot m1)
            (subst (λ w. WordAt (fn_of z) w (spot m) (spot m1)) (further_is z.labels (where_is one m.active)) (put_at line word m (before (grows_further {v = calm} line uses m1) f))));
        second_at = further_at line uses active m1 e f;
      }

  names_are : (m : Maker) (uses : List Use) → source_names m uses ≡ map (captured_name m.active m.upvalue_names) uses
  names_are m [] = refl
  names_are m (local_use declaration ∷ uses) = ap (λ names. name_of declaration m.active ∷ names) (names_are m uses)
  names_are m (upvalue_use slot ∷ uses) = ap (λ names. get_or m.upvalue_names slot [] ∷ names) (names_are m uses)
  names_are m (global_use ∷ uses) = ap (λ names. [] ∷ names) (names_are m uses)

  pub closure_at : (line : ℕ) (inner : Inner) (rel : Law → FunctionRel) → Made inner (rel None) → (free r : ℕ) (m : Maker) {k : ℕ} → Final k (closure line inner r m) z → ClosureAt (fn_of z) rel m.active free r (spot m) (spot (closure line inner r m))
  closure_at line inner rel h free r m f =
      let names = source_names m (next_sources m) in
      let done = inner names (without_sources m.ahead) in
      let m1 = with_function done m in
      let word = Piece.Abx Op.Closure r (length m.functions) in
      let m2 = put line word m1 in
      let f2 = before (grows_further {v = calm} line (next_sources m) m2) f in
      let f1 = before_put line word m1 f2 in
      let w = put_at line word m1 f2 in
      record {
        chunk = done.chunk;
        begun = record { pc = length m2.items; ahead = m.ahead; functions = length m.functions };
        mid = spot m2;
        is = function_stands z.functions (length m.functions) done.chunk (f2.functions _ _ (at_end m.functions done.chunk));
        names = [];
        captured = tt;
        made_at = h.made_at names (without_sources m.ahead) (made_fine done m f1);
        upvalues = h.upvalues names (without_sources m.ahead) ∙ length-map (next_sources m) (source_name m);
        named = h.named names (without_sources m.ahead) ∙ names_are m (next_sources m) ∙ ap (λ around. map (captured_name m.active around) (next_sources m)) (sym f2.upvalues);
        word = record { has = w.has; near = w.near; reads = tt; next = w.next; ahead = refl; functions = refl };
        next = refl;
        one_more = length_end m.functions done.chunk;
        further = further_at line (next_sources m) m.active m2 refl f;
      }

  pub links_function : (line : ℕ) (body : FunctionBody) (inner : Inner) (rel : Law → FunctionRel) → Made inner (rel None) → Links z (coded_function line body inner) (rel_function (fn_of z) rel)
  links_function line body inner rel h =
      let s = single_at z line (function_expression line body) _ (closure line inner) (ClosureAt (fn_of z) rel) refl (λ r m f. closure_at line inner rel h m.free r m f) in
      record { to = record { is_form = refl; bare = λ active p q a. a; to_free = λ r m. refl; to_reg = s.to.to_reg }; jump_if = s.jump_if; spine = s.spine; multi = s.multi; target = λ m f. tt }
