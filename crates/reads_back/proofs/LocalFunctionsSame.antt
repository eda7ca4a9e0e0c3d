-- What is written of a local function makes the same code as the statement: a local function, where it captures itself, and else a local to which the function goes.
use Rattle.std.proofs.Common.{◌≡◌, ℕ, suc, ◌+◌, ◌<◌, ◌≤◌, max, map, Bool, true, false, cond, List, [], ◌∷◌, ◌++◌, append-nil, append_assoc, length, length-append, Option, Some, None, is_some, refl, sym, ap, ap₂, ◌∙◌, subst, subst₂, arith, ◌⊎◌, inl, inr, true≢false}
use Rattle.std.proofs.Math.Seq.{get_or-append_seam, set-append_seam}
use Rattle.std.proofs.lemmas.Bool.{cases_lt}
use Rattle.std.proofs.lemmas.Option.{same_Some, slice_get_within}
use Rattle.std.proofs.lemmas.Slice.Eq.{bytes_eq-Decides}
use Rattle.std.specs.Prelude.{set, slice_set, ◌&&◌}
use Rattle.std.specs.Str.{bytes_eq}
use Rattle.lua_num.specs.Bytes.{Text}
use Rattle.lua_tree.specs.OneLine.{one_line_statement}
use Rattle.lua_tree.specs.Scoping.{Use, global_use, local_use, upvalue_use}
use Rattle.lua_tree.specs.Syntax.{FunctionBody, function_expression, local_function}
use Rattle.lua_tree.specs.WellFormed.{depth_of_body}
use Rattle.opcode.specs.declared.op.Op.{Op}
use Rattle.proto.specs.Chunk.{Chunk, function_at, own}
use Rattle.proto.specs.declared.parts.LocVar.{LocVar}
use Rattle.core_expr.specs.Counting.{one_more}
use Rattle.core_expr.specs.Values.{function_value, no_values, and_value, Inner}
use Rattle.core_expr.specs.Writing.{function_left, function_word}
use Rattle.recover_expr.specs.Situation.{Function}
use Rattle.scheme.specs.Functions.{Finished, further_word, further_words, name_of, source_names, without_sources, with_function}
use Rattle.scheme.specs.Making.{Ahead, Maker, Where, head_or, in_globals, in_register, is_declaration, put, register_among, where_is, activate, declare, take_registers, starts_here, free_from}
use Rattle.scheme.specs.Scheme.{coded, inner, statement_made}
use Rattle.scheme.specs.Statements.{local_function_part, local_part}
use Rattle.scheme.specs.declared.making.Active.{Active}
use Rattle.scheme.specs.declared.making.Item.{Item}
use Rattle.scheme.specs.declared.making.Local.{Local}
use Rattle.scheme.specs.declared.making.Piece.{Piece}
use Rattle.scheme_stands.specs.Functions.{captured_name}
use Rattle.scheme_stands.specs.Words.{Captured, CapturedBy, Fn, IsCaptured, Law, Means, Names, is_among}
use Rattle.reads_back.specs.Acted.{Acted, IsAct, IsActed, declared, declared_function, levels_by, local_by}
use Rattle.reads_back.specs.Coming.{Coming, IsOwnNext, behind_locals, captured_names, declared_local, inside_local}
use Rattle.reads_back.specs.Cores.{IsPlainBody}
use Rattle.reads_back.proofs.ListedLocals.{own_named}
use Rattle.reads_back.proofs.Mentions.{captured_same, IsAhead, coming, own_mention}
use Rattle.reads_back.proofs.OperatorsSame.{few_more}
use Rattle.reads_back.proofs.PassedMentions.{sources_named}
use Rattle.reads_back.proofs.Rewriting.{AreAgain, IsAgain, IsMadeBy, OwnListed, RewrittenAct}
use Rattle.reads_back.proofs.Tests.{neither}

-- ---- what is captured besides the last local

-- here, or behind at places and with names that are the same
abbrev IsBefore : (here : Bool) → (name : Text) → (place place' : ℕ) → (found found' : Text) → Type 0
IsBefore here name place place' found found' = (cond here 0 (suc place) ≡ cond here 0 (suc place')) × (cond here name found ≡ cond here name found')

-- a declaration before it is found without it
found_before : (declaration : ℕ) (active : List Active) (x : Active) → register_among declaration (active ++ x ∷ []) < length active →
    (register_among declaration (active ++ x ∷ []) ≡ register_among declaration active) × (name_of declaration (active ++ x ∷ []) ≡ name_of declaration active)
found_before declaration [] x below = absurd (omega (arith, below))
found_before declaration (one ∷ others) x below = by (is_declaration declaration one.local) below (found_before declaration others x)
  where
    place : ℕ
    place = register_among declaration (others ++ x ∷ [])

    by : (here : Bool) → cond here 0 (suc place) < suc (length others) → (place < length others → (place ≡ register_among declaration others) × (name_of declaration (others ++ x ∷ []) ≡ name_of declaration others)) →
        IsBefore here one.local.name place (register_among declaration others) (name_of declaration (others ++ x ∷ [])) (name_of declaration others)
    by true below further = (refl, refl)
    by false below further = let rest = further (omega (arith, below)) in (ap suc rest.0, rest.1)

-- its own has its name
found_last : (declaration : ℕ) (active : List Active) (x : Active) → register_among declaration (active ++ x ∷ []) ≡ length active → name_of declaration (active ++ x ∷ []) ≡ x.local.name
found_last declaration [] x last = by (is_declaration declaration x.local) last
  where
    by : (here : Bool) → ◌≡◌ {A = ℕ} (cond here 0 1) 0 → cond here x.local.name [] ≡ x.local.name
    by true last = refl
    by false last = cc
found_last declaration (one ∷ others) x last = by (is_declaration declaration one.local) last (found_last declaration others x)
  where
    place : ℕ
    place = register_among declaration (others ++ x ∷ [])

    by : (here : Bool) → cond here 0 (suc place) ≡ suc (length others) → (place ≡ length others → name_of declaration (others ++ x ∷ []) ≡ x.local.name) → cond here one.local.name (name_of declaration (others ++ x ∷ [])) ≡ x.local.name
    by true last further = cc
    by false last further = further (omega (arith, last))

-- what does not capture it has the same place and name without it
abbrev IsBeside : List Active → Active → (upvalue_names : List Text) → Use → Type 0
IsBeside active x names one = (where_is one (active ++ x ∷ []) ≡ where_is one active) × (captured_name (active ++ x ∷ []) names one ≡ captured_name active names one)

abbrev AreBeside : List Active → Active → (upvalue_names : List Text) → List Use → Type 0
AreBeside active x names [] = Unit {0}
AreBeside active x names (one ∷ uses) = IsBeside active x names one × AreBeside active x names uses

use_beside : (n : Names) (active : List Active) (x : Active) (names : List Text) (text : Text) (one : Use) → IsCaptured n (active ++ x ∷ []) text (where_is one (active ++ x ∷ [])) → bytes_eq x.local.name (captured_name (active ++ x ∷ []) names one) ≡ false → IsBeside active x names one
use_beside n active x names text (local_use declaration) captured other = by (cases_lt r (length active))
  where
    r : ℕ
    r = register_among declaration (active ++ x ∷ [])

    by : (r < length active) ⊎ (length active ≤ r) → IsBeside active x names (local_use declaration)
    by (inl below) = let found = found_before declaration active x below in (ap in_register found.0, found.1)
    by (inr above) =
        let found = own_named text (active ++ x ∷ []) r captured.0 in
        let within = slice_get_within (active ++ x ∷ []) r found.local found.there in
        let last = found_last declaration active x (omega (arith, above, within, length-append active (x ∷ []))) in
        absurd (true≢false (sym ((bytes_eq-Decides x.local.name (name_of declaration (active ++ x ∷ []))).1 (sym last)) ∙ other))
use_beside n active x names text (upvalue_use slot) captured other = (refl, refl)
use_beside n active x names text global_use captured other = (refl, refl)

uses_beside : (n : Names) (active : List Active) (x : Active) (names texts : List Text) (uses : List Use) → CapturedBy n (active ++ x ∷ []) texts uses → is_among x.local.name (map (captured_name (active ++ x ∷ []) names) uses) ≡ false → AreBeside active x names uses
uses_beside n active x names texts [] captured others = tt
uses_beside n active x names [] (one ∷ uses) captured others = absurd captured
uses_beside n active x names (text ∷ texts) (one ∷ uses) captured others =
    let none = neither (bytes_eq x.local.name (captured_name (active ++ x ∷ []) names one)) _ others in
    (use_beside n active x names text one captured.0 none.0, uses_beside n active x names texts uses captured.1 none.1)

names_beside : (active : List Active) (x : Active) (names : List Text) (uses : List Use) → AreBeside active x names uses → map (captured_name active names) uses ≡ map (captured_name (active ++ x ∷ []) names) uses
names_beside active x names [] are = refl
names_beside active x names (one ∷ uses) are = ap₂ (λ (name : Text) (rest : List Text). name ∷ rest) (sym are.0.1) (names_beside active x names uses are.1)

-- ---- the words of a closure

abbrev words_of : List Active → List Use → List Item
words_of active [] = []
words_of active (one ∷ uses) = record { line = 1; piece = further_word (where_is one active) } ∷ words_of active uses

words_are : (uses : List Use) (m : Maker) → further_words 1 uses m ≡ record m { items = m.items ++ words_of m.active uses }
words_are [] m = ap (λ items. record m { items = items }) (sym (append-nil m.items))
words_are (one ∷ uses) m =
    let word : Item = record { line = 1; piece = further_word (where_is one m.active) } in
    words_are uses (put 1 word.piece m) ∙ ap (λ items. record m { items = items }) (append_assoc m.items (word ∷ []) (words_of m.active uses))

words_beside : (active : List Active) (x : Active) (names : List Text) (uses : List Use) → AreBeside active x names uses → words_of active uses ≡ words_of (active ++ x ∷ []) uses
words_beside active x names [] are = refl
words_beside active x names (one ∷ uses) are =
    ap₂ (λ (place : Where) (rest : List Item). record { line = 1; piece = further_word place } ∷ rest) (sym are.0.0) (words_beside active x names uses are.1)

-- the words do not hang on where the local is listed
place_as_listed : (declaration : ℕ) (active : List Active) (x y : Active) → x.local ≡ y.local → register_among declaration (active ++ x ∷ []) ≡ register_among declaration (active ++ y ∷ [])
place_as_listed declaration [] x y same = ap (λ (local : Local). cond (is_declaration declaration local) 0 1) same
place_as_listed declaration (one ∷ others) x y same = ap (λ r. cond (is_declaration declaration one.local) 0 (suc r)) (place_as_listed declaration others x y same)

words_as_listed : (active : List Active) (x y : Active) → x.local ≡ y.local → (uses : List Use) → words_of (active ++ x ∷ []) uses ≡ words_of (active ++ y ∷ []) uses
words_as_listed active x y same [] = refl
words_as_listed active x y same (local_use declaration ∷ uses) =
    ap₂ (λ (r : ℕ) (rest : List Item). record { line = 1; piece = further_word (in_register r) } ∷ rest) (place_as_listed declaration active x y same) (words_as_listed active x y same uses)
words_as_listed active x y same (upvalue_use slot ∷ uses) = ap (λ rest. record { line = 1; piece = further_word (where_is (upvalue_use slot) active) } ∷ rest) (words_as_listed active x y same uses)
words_as_listed active x y same (global_use ∷ uses) = ap (λ rest. record { line = 1; piece = further_word in_globals } ∷ rest) (words_as_listed active x y same uses)

-- ---- what is made

-- the local of this name that comes next
abbrev next_local : Text → Maker → Active
next_local text m = record { local = declared_local text m.ahead; listed = length m.locals }

-- the uses of the next function
abbrev next_uses : Maker → List Use
next_uses m = head_or [] m.ahead.sources

-- a function in its register, with these further words, that is a local
abbrev with_local : Text → Maker → Finished → List Item → Maker
with_local text m made words =
    let items = (m.items ++ record { line = 1; piece = Piece.Abx Op.Closure m.free (length m.functions) } ∷ []) ++ words in
    record m {
      items = items;
      functions = m.functions ++ made.chunk ∷ [];
      free = m.free + 1;
      high = max m.high (m.free + 1);
      active = m.active ++ next_local text m ∷ [];
      locals = m.locals ++ record { name = text; start = length items; end = length items } ∷ [];
      ahead = made.ahead;
      misfits = m.misfits ++ made.misfits;
    }

-- the source ahead of the function
abbrev behind_name : Text → Maker → Ahead
behind_name text m = without_sources (behind_locals (text ∷ []) m.ahead)

function_made : (text : Text) (body : FunctionBody) (m : Maker) →
    local_function_part 1 text (inner body false) m ≡ with_local text m (inner body false (map (captured_name (m.active ++ next_local text m ∷ []) m.upvalue_names) (next_uses m)) (behind_name text m)) (words_of (m.active ++ next_local text m ∷ []) (next_uses m))
function_made text body m =
    let uses = next_uses m in
    let active = m.active ++ next_local text m ∷ [] in
    let entry : LocVar = record { name = text; start = length m.items; end = length m.items } in
    let inside : Maker = activate (declared_local text m.ahead ∷ []) (take_registers 1 (declare (text ∷ []) m).after) in
    let made : Finished = inner body false (source_names inside uses) (behind_name text m) in
    let words = words_of active uses in
    let begun : Maker = put 1 (Piece.Abx Op.Closure m.free (length m.functions)) (with_function made inside) in
    let count = length (begun.items ++ words) in
    ap (starts_here (length m.locals)) (words_are uses begun)
    ∙ ap (λ (name : Text). record (with_local text m made words) { locals = set (m.locals ++ entry ∷ []) (length m.locals) (record { name = name; start = count; end = count }) }) (ap (λ (entry : LocVar). entry.name) (get_or-append_seam m.locals entry [] (record { name = []; start = 0; end = 0 })))
    ∙ ap (λ locals. record (with_local text m made words) { locals = locals }) (set-append_seam m.locals entry [] (record { name = text; start = count; end = count }))
    ∙ ap (λ names. with_local text m (inner body false names (behind_name text m)) words) (sources_named inside uses)

local_made : (text : Text) (body : FunctionBody) (m : Maker) →
    local_part 1 (text ∷ []) (coded (function_expression 1 body) ∷ []) m ≡ with_local text m (inner body false (map (captured_name m.active m.upvalue_names) (next_uses m)) (behind_name text m)) (words_of m.active (next_uses m))
local_made text body m =
    let uses = next_uses m in
    let named : Maker = (declare (text ∷ []) m).after in
    let made : Finished = inner body false (source_names named uses) (behind_name text m) in
    let words = words_of m.active uses in
    let begun : Maker = put 1 (Piece.Abx Op.Closure m.free (length m.functions)) (with_function made named) in
    ap (λ (n : Maker). activate (declared_local text m.ahead ∷ []) (free_from (m.free + 1) (take_registers 1 (free_from m.free n)))) (words_are uses begun)
    ∙ ap (λ names. with_local text m (inner body false names (behind_name text m)) words) (sources_named named uses)

-- ---- the function that is left

module _ {f : Function} {g : Fn} {active : List Active} {listed : List ℕ} {z : Maker} {lefts : ℕ → List (Option Inner)} (made : IsMadeBy f g active listed z) (again : AreAgain f g lefts) where
  -- names mean what the scope finds
  law_asked : (n : Names) × (g.law ≡ Some n)
  law_asked = by g.law refl
    where
      by : (law : Law) → g.law ≡ law → (n : Names) × (g.law ≡ Some n)
      by None is =
          let any = λ (w : Where). subst (λ (law : Law). Means law active [] w) (sym is) tt in
          let same : in_globals ≡ in_register 0 = made.certain [] in_globals (in_register 0) (any in_globals) (any (in_register 0)) in
          cc
      by (Some n) is = (n, is)

  module _ (text : Text) (body : FunctionBody) (plain : IsPlainBody body) (low : depth_of_body body ≤ 199) (own_listed : OwnListed f g active (local_function text body)) (before : ℕ) where
    abbrev IsFound : (c : Coming) → IsOwnNext g active text body c → Type 0
    IsFound c mine = (found : Inner) × (function_left (lefts before) before ≡ Some found) × IsAgain f.short g (active ++ mine.local ∷ []) body false (inside_local text c) found

    found_at : (c : Coming) (mine : IsOwnNext g active text body c) → c.functions ≡ before → IsFound c mine
    found_at c mine as_many =
        let there = own_listed mine.local c.ahead mine.is_local in
        subst (λ before. (found : Inner) × (function_left (lefts before) before ≡ Some found) × IsAgain f.short g (active ++ mine.local ∷ []) body false (inside_local text c) found) as_many
        (again.next (active ++ mine.local ∷ []) there.0 there.1 body false (inside_local text c) plain low mine.next)

    others_left : (c : Coming) → IsOwnNext g active text body c → c.functions ≡ before → slice_set (lefts before) before None ≡ lefts (suc before)
    others_left c mine as_many = subst (λ before. slice_set (lefts before) before None ≡ lefts (suc before)) as_many (again.others (active ++ mine.local ∷ []) body false (inside_local text c) plain mine.next)

    -- the statement takes no constant
    none_taken : (m : Maker) → length (statement_made (one_line_statement (local_function text body)) 1 None m).constants ≡ length m.constants
    none_taken m = ap (λ body. length (local_function_part 1 text (inner body false) m).constants) plain.on_line ∙ ap (λ (n : Maker). length n.constants) (function_made text body m)

    module _ (m : Maker) (ahead : IsAhead g active before (own_mention text body ∷ []) m) where
      abbrev mine : IsOwnNext g active text body (coming m)
      mine = ahead.meant.0

      found : IsFound (coming m) mine
      found = found_at (coming m) mine ahead.made_are

      abbrev around : List Active
      around = m.active ++ next_local text m ∷ []

      abbrev names : List Text
      names = map (captured_name around m.upvalue_names) (next_uses m)

      names_are : names ≡ captured_names (active ++ mine.local ∷ []) g.upvalue_names (inside_local text (coming m)).ahead
      names_are =
          ap₂ (λ (active : List Active) (names : List Text). map (captured_name (active ++ next_local text m ∷ []) names) (next_uses m)) ahead.active_are ahead.upvalues_are
          ∙ captured_same active (next_local text m) mine.local (sym mine.is_local) g.upvalue_names (inside_local text (coming m)).ahead

      -- the function that is left, with the words that come next
      left_made : with_local text m (inner found.0.body false names (behind_name text m)) (words_of around (next_uses m)) ≡ statement_made (one_line_statement (local_function text body)) 1 None m
      left_made =
          ap (λ names. with_local text m (inner found.0.body false names (behind_name text m)) (words_of around (next_uses m))) names_are
          ∙ ap (λ made. with_local text m made (words_of around (next_uses m))) found.2.same
          ∙ ap (λ names. with_local text m (inner body false names (behind_name text m)) (words_of around (next_uses m))) (sym names_are)
          ∙ sym (function_made text body m)
          ∙ ap (λ body. local_function_part 1 text (inner body false) m) (sym plain.on_line)

      itself_made : statement_made (local_by text (function_left (lefts before) before)) 1 None m ≡ statement_made (one_line_statement (local_function text body)) 1 None m
      itself_made = ap (λ left. statement_made (local_by text left) 1 None m) found.1 ∙ function_made text found.0.body m ∙ left_made

      module _ (other : is_among text (own mine.next.chunk).upvalue_names ≡ false) where
        beside : AreBeside active mine.local g.upvalue_names (next_uses m)
        beside =
            let law = law_asked in
            let named : mine.local.local.name ≡ text = ap (λ (local : Local). local.name) mine.is_local in
            uses_beside law.0 active mine.local g.upvalue_names mine.next.names (next_uses m)
            (subst (λ (law : Law). Captured law (active ++ mine.local ∷ []) mine.next.names (next_uses m)) law.1 mine.next.captured)
            (ap (λ name. is_among name (map (captured_name (active ++ mine.local ∷ []) g.upvalue_names) (next_uses m))) named ∙ sym (ap (is_among text) mine.next.named) ∙ other)

        same_names : map (captured_name m.active m.upvalue_names) (next_uses m) ≡ names
        same_names =
            ap₂ (λ (active : List Active) (names : List Text). map (captured_name active names) (next_uses m)) ahead.active_are ahead.upvalues_are
            ∙ names_beside active mine.local g.upvalue_names (next_uses m) beside
            ∙ sym names_are

        same_words : words_of m.active (next_uses m) ≡ words_of around (next_uses m)
        same_words =
            ap (λ active. words_of active (next_uses m)) ahead.active_are
            ∙ words_beside active mine.local g.upvalue_names (next_uses m) beside
            ∙ words_as_listed active mine.local (next_local text m) mine.is_local (next_uses m)
            ∙ ap (λ active. words_of (active ++ next_local text m ∷ []) (next_uses m)) (sym ahead.active_are)

        beside_made : local_part 1 (text ∷ []) (coded (function_word (function_left (lefts before) before)).words ∷ []) m ≡ statement_made (one_line_statement (local_function text body)) 1 None m
        beside_made =
            ap (λ left. local_part 1 (text ∷ []) (coded (function_word left).words ∷ []) m) found.1
            ∙ local_made text found.0.body m
            ∙ ap₂ (λ (names : List Text) (words : List Item). with_local text m (inner found.0.body false names (behind_name text m)) words) same_names same_words
            ∙ left_made

    -- the next function is one, whatever comes next
    same_chunk : (c d : Coming) (mine : IsOwnNext g active text body c) (other : IsOwnNext g active text body d) → c.functions ≡ before → d.functions ≡ before → mine.next.chunk ≡ other.next.chunk
    same_chunk c d mine other as_many also =
        same_Some mine.next.chunk other.next.chunk (sym mine.next.is ∙ ap (function_at g.functions) (as_many ∙ sym also) ∙ other.next.is)

    module _ (c : Coming) (mine : IsOwnNext g active text body c) (as_many : c.functions ≡ before) where
      abbrev IsRewritten : Acted → Type 0
      IsRewritten acted = RewrittenAct f g active listed z lefts before (suc before) (local_function text body) acted

      itself_rewritten : IsRewritten (declared_function text before)
      itself_rewritten = record {
        can = ap is_some (found_at c mine as_many).1;
        leaves = others_left c mine as_many;
        makes = refl;
        few = λ n.
            let found = found_at c mine as_many in
            let one = few_more found.0.levels in
            let two = few_more (one_more found.0.levels) in
            omega (arith, ap (λ left. levels_by left 1) found.1, one, two, found.2.few);
        low = λ short formed m ahead final.
            let found = found_at c mine as_many in
            let one = few_more found.0.levels in
            let two = few_more (one_more found.0.levels) in
            omega (arith, ap (λ left. levels_by left 1) found.1, one, two, found.2.low short);
        made = λ m ahead final. itself_made m ahead;
        taken = λ m ahead final. none_taken m;
      }

      -- where it does not capture itself, as it is the same function that comes next
      beside_rewritten : is_among text (own mine.next.chunk).upvalue_names ≡ false → IsRewritten (declared (text ∷ []) (and_value (function_value before false) no_values) true)
      beside_rewritten other = record {
        can = ap (λ left. is_some left && true) (found_at c mine as_many).1;
        leaves = others_left c mine as_many;
        makes = refl;
        few = λ n.
            let found = found_at c mine as_many in
            let one = few_more found.0.levels in
            let two = few_more (max (one_more found.0.levels) 0) in
            omega (arith, ap (λ left. one_more (max (function_word left).levels 0)) found.1, one, two, found.2.few);
        low = λ short formed m ahead final.
            let found = found_at c mine as_many in
            let one = few_more found.0.levels in
            let two = few_more (max (one_more found.0.levels) 0) in
            omega (arith, ap (λ left. one_more (max (function_word left).levels 0)) found.1, one, two, found.2.low short);
        made = λ m ahead final.
            let next : IsOwnNext g active text body (coming m) = ahead.meant.0 in
            beside_made m ahead (ap (λ (chunk : Chunk). is_among text (own chunk).upvalue_names) (same_chunk (coming m) c next mine ahead.made_are as_many) ∙ other);
        taken = λ m ahead final. none_taken m;
      }

  -- every local function
  pub local_function_rewritten : (text : Text) (body : FunctionBody) → OwnListed f g active (local_function text body) → IsAct (local_function text body) → depth_of_body body ≤ 199 → (before behind : ℕ) (acted : Acted) → IsActed g active (local_function text body) before behind acted →
      RewrittenAct f g active listed z lefts before behind (local_function text body) acted
  local_function_rewritten text body own_listed is low before behind (declared_function name number) (counts, c, as_many, mine, acts) =
      subst (λ behind. RewrittenAct f g active listed z lefts before behind (local_function text body) (declared_function name number)) (sym counts)
      (subst₂ (λ name number. RewrittenAct f g active listed z lefts before (suc before) (local_function text body) (declared_function name number)) (sym acts.1) (sym acts.2) (itself_rewritten text body is.1 low own_listed before c mine as_many))
  local_function_rewritten text body own_listed is low before behind (declared texts vs all) (counts, c, as_many, mine, acts) =
      subst (λ behind. RewrittenAct f g active listed z lefts before behind (local_function text body) (declared texts vs all)) (sym counts)
      (subst₂ (λ texts vs. RewrittenAct f g active listed z lefts before (suc before) (local_function text body) (declared texts vs all)) (sym acts.1) (sym acts.2)
      (subst (λ all. RewrittenAct f g active listed z lefts before (suc before) (local_function text body) (declared (text ∷ []) (and_value (function_value before false) no_values) all)) (sym acts.3)
      (beside_rewritten text body is.1 low own_listed before c mine as_many acts.0)))
  local_function_rewritten text body own_listed is low before behind acted acts = absurd acts
