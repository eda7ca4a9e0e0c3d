-- The words of a `local function` statement are read as one step, which declares its name with the function: one that captures itself is told apart.
use Rattle.std.proofs.Common.{◌≡◌, ℕ, suc, ◌<◌, Bool, true, false, ◌&&◌, List, [], ◌∷◌, ◌++◌, length, map, Option, Some, None, is_some, refl, sym, ap, ◌∙◌, subst, arith, eq-eqb, if◌then◌else◌, subst₂}
use Rattle.std.proofs.lemmas.Option.{slice_get_past}
use Rattle.std.specs.Prelude.{◌==◌, option_and_then, option_map, slice_get}
use Rattle.std.specs.Str.{bytes_eq}
use Rattle.lua_num.specs.Bytes.{Text}
use Rattle.lua_tree.specs.Scoping.{Use}
use Rattle.lua_tree.specs.Syntax.{FunctionBody, local_function}
use Rattle.opcode.specs.declared.op.Op.{Op}
use Rattle.opcode.specs.declared.word.Instr.{Instr}
use Rattle.proto.specs.Chunk.{function_at, own}
use Rattle.core_expr.specs.Values.{Inner, function_value, no_values, and_value}
use Rattle.core_expr.specs.Writing.{function_left, function_there}
use Rattle.recover_expr.specs.Closures.{capture_as}
use Rattle.recover_expr.specs.Declaring.{declared_by, local_function_of, locals_declared, statement_made}
use Rattle.recover_expr.specs.Drafts.{Drafted, drafted}
use Rattle.recover_expr.specs.Entries.{Entries, value_entry}
use Rattle.recover_expr.specs.Locals.{Scope, capture, capture_entry, declare, names_from}
use Rattle.recover_expr.specs.Situation.{Function, Situation, body_at}
use Rattle.recover_expr.specs.declared.draft.DraftKind.{DraftKind}
use Rattle.recover_expr.specs.declared.function.Word.{Word}
use Rattle.scheme.specs.Functions.{further_word, without_sources}
use Rattle.scheme.specs.Making.{Ahead, Where, head_or, in_register, where_is}
use Rattle.scheme.specs.declared.making.Active.{Active}
use Rattle.scheme.specs.declared.making.Local.{Local}
use Rattle.scheme.specs.declared.making.Piece.{Piece}
use Rattle.scheme_stands.specs.Functions.{Activated, FurtherAt, FurtherWordAt, captured_name}
use Rattle.scheme_stands.specs.Relation.{FunctionOf, StatementAt}
use Rattle.scheme_stands.specs.Statements.{LocalFunctionAt}
use Rattle.scheme_stands.specs.Words.{Captured, CapturedBy, Fn, IsCaptured, Law, Spot, is_among, law_inside}
use Rattle.reads_back.specs.Acted.{Acted, IsActed, declared, declared_function, levels_by, local_by}
use Rattle.reads_back.specs.Coming.{IsOwnNext, coming_at, declared_local, inside_local}
use Rattle.reads_back.specs.ReadAs.{part_of}
use Rattle.reads_back.proofs.ActsRead.{ActRead, CanAct, Declares, act_draft, after_act, can_now}
use Rattle.reads_back.proofs.BehindWords.{HasLocals, SameLocals, same_locals}
use Rattle.reads_back.proofs.ClosureReads.{CapturesAll, CapturesOne, captures_none, captures_one, captures_then, closure_later, closure_read, as_many}
use Rattle.reads_back.proofs.DeclarationsRead.{StartHere, act_declares, declared_behind, declaring_turn, named_behind, starting_turn}
use Rattle.reads_back.proofs.NameReads.{AreListed}
use Rattle.reads_back.proofs.OwnLocals.{captured_before, captured_last, named_as, own_names_inside}
use Rattle.reads_back.proofs.Reaches.{Reaches, here, word}
use Rattle.reads_back.proofs.ValueWords.{makes_turn, next_free}
use Rattle.reads_back.proofs.WordsRead.{IsFunction, IsQuiet, further_is_there, word_of}

-- ---- what is captured in a function that is local itself

module _ {f : Function} {g : Fn} {active : List Active} {listed : List ℕ} (is_function : IsFunction f g) (all : AreListed f g active listed) (each : length listed ≡ length active) (text : Text) (ahead : Ahead) (x : Active) (is : x.local ≡ declared_local text ahead)
    (w : Word) (goes : w.instr.a ≡ length active) where
  -- the locals that are active in it
  abbrev inside : List Active
  inside = active ++ x ∷ []

  -- its own register is that to which the closure goes
  itself_captured : (from : Where) (p q : Spot) (s : Situation) → HasLocals active listed s → s.entries ≡ [] → from ≡ in_register (length active) → FurtherWordAt g (further_word from) p q → CapturesOne f w p.pc true s
  itself_captured from p q s locals empty there at =
      let r = length active in
      let moves = subst (λ (from : Where). FurtherWordAt g (further_word from) p q) there at in
      let free : is_some (slice_get s.scope.active r) ≡ false = ap is_some (ap (λ (entries : List ℕ). slice_get entries r) locals.places ∙ slice_get_past listed r (omega (arith, each))) in
      let goes_there : ℕ → ℕ → ℕ → Option (Bool × Situation) = λ a base count. if (r == a) && ((r == base) && (count == 0)) then Some (true, s) else None in
      record {
        scope = s.scope;
        same = same_locals s.scope;
        does =
            ap (option_and_then (λ (further : Instr). capture_as further.op w further.b s)) (further_is_there is_function moves)
            ∙ ap (λ is_local. if is_local then Some (false, record s { scope = capture r s.scope }) else goes_there w.instr.a s.base (length s.entries)) free
            ∙ ap (λ a. goes_there a s.base (length s.entries)) goes
            ∙ ap (λ base. goes_there r base (length s.entries)) locals.base
            ∙ ap (λ (entries : Entries). goes_there r r (length entries)) empty
            ∙ ap (λ same. if same && (same && true) then Some (true, s) else None) (eq-eqb r r refl);
      }

  own_one : (from : Where) (name : Text) (p q : Spot) (s : Situation) → HasLocals active listed s → s.entries ≡ [] → IsCaptured is_function.names inside name from → FurtherWordAt g (further_word from) p q → CapturesOne f w p.pc (bytes_eq text name) s
  own_one from name p q s locals empty captured at = by (bytes_eq text name) refl
    where
      by : (itself : Bool) → bytes_eq text name ≡ itself → CapturesOne f w p.pc itself s
      by true known = itself_captured from p q s locals empty (captured_last is_function.names active x name from (named_as text ahead x is name ∙ known) captured) at
      by false known = captures_one is_function all from name w p q s locals.places (captured_before is_function.names active x name from (named_as text ahead x is name ∙ known) captured) at

  -- it captures itself where its name is among those that it captures
  own_all : (uses : List Use) (names : List Text) (p q : Spot) (s : Situation) → HasLocals active listed s → s.entries ≡ [] → CapturedBy is_function.names inside names uses → FurtherAt g inside uses p q → CapturesAll f w (length uses) p.pc (is_among text names) s
  own_all [] [] p q s locals empty captured at = captures_none f w p.pc s
  own_all [] (name ∷ names) p q s locals empty captured at = absurd captured
  own_all (one ∷ uses) [] p q s locals empty captured at = absurd captured
  own_all (one ∷ uses) (name ∷ names) p q s locals empty captured at =
      let first = own_one (where_is one inside) name p at.mid s locals empty captured.0 at.first_at in
      captures_then first at.first_at.next (own_all uses names at.mid q (record s { scope = first.scope }) (record { base = locals.base; places = first.same.active ∙ locals.places }) empty captured.1 at.second_at)

-- ---- the act

abbrev acted_by : Text → (number : ℕ) → (itself : Bool) → Acted
acted_by text number true = declared_function text number
acted_by text number false = declared (text ∷ []) (and_value (function_value number false) no_values) true

module _ {g : Fn} {active : List Active} (text : Text) (body : FunctionBody) (after : List Active) (p q : Spot) (at : LocalFunctionAt g text (FunctionOf body false) active after p q) where
  -- its local is active behind the others
  its_local : (x : Active) × (x.local ≡ declared_local text p.ahead) × (after ≡ active ++ x ∷ [])
  its_local = subst (λ locals. Activated locals active after) (at.declared.1 ∙ ap (λ (others : List Local). declared_local text p.ahead ∷ others) at.declared.2.0) at.activated

  inside_is : at.mid.ahead ≡ (inside_local text (coming_at p)).ahead
  inside_is = at.declared.2.1

  own_made : IsOwnNext g active text body (coming_at p)
  own_made =
      let closure = at.closure_at in
      record {
        local = its_local.0;
        is_local = its_local.1;
        next = record {
          chunk = closure.chunk;
          is = subst (λ (n : ℕ). function_at g.functions n ≡ Some closure.chunk) at.as_many closure.is;
          names = closure.names;
          captured = subst₂ (λ (after : List Active) (ahead : Ahead). Captured g.law after closure.names (head_or [] ahead.sources)) its_local.2 inside_is closure.captured;
          named = subst₂ (λ (after : List Active) (ahead : Ahead). (own closure.chunk).upvalue_names ≡ map (captured_name after g.upvalue_names) (head_or [] ahead.sources)) its_local.2 inside_is closure.named;
          behind = closure.mid.ahead;
          made_at = subst₂ (λ (after : List Active) (ahead : Ahead). FunctionOf body false (law_inside g.law after closure.names) (without_sources ahead) closure.mid.ahead closure.chunk) its_local.2 inside_is closure.made_at;
        };
      }

  abbrev captures_own : Bool
  captures_own = is_among text (own at.closure_at.chunk).upvalue_names

  acts_by : q.functions ≡ suc p.functions → (itself : Bool) → captures_own ≡ itself → IsActed g active (local_function text body) p.functions q.functions (acted_by text p.functions itself)
  unfolding own_made
  acts_by made true is = (made, coming_at p, refl, own_made, (is, refl, refl))
  acts_by made false is = (made, coming_at p, refl, own_made, (is, refl, refl, refl))

  -- the names of what it captures are those that its upvalues have
  names_are : {f : Function} {listed : List ℕ} (is_function : IsFunction f g) → AreListed f g active listed → f.of.upvalue_names ≡ g.upvalue_names → (own at.closure_at.chunk).upvalue_names ≡ at.closure_at.names
  names_are is_function all same =
      let uses = head_or [] at.mid.ahead.sources in
      let captured : CapturedBy is_function.names (active ++ its_local.0 ∷ []) at.closure_at.names uses = subst₂ (λ (law : Law) (after : List Active). Captured law after at.closure_at.names uses) is_function.law its_local.2 at.closure_at.captured in
      at.closure_at.named
      ∙ ap (λ (after : List Active). map (captured_name after g.upvalue_names) uses) its_local.2
      ∙ own_names_inside is_function.names is_function.law all same its_local.0 at.closure_at.names uses captured

-- ---- the word of the closure

-- behind it the function is in the next free register
record FunctionComes (f : Function) (number : ℕ) (itself : Bool) (s : Situation) (first last : ℕ) : Type 0 where
  scope : Scope
  same : SameLocals s.scope scope
  reaches : Reaches f first s last (record s { scope = scope; entries = value_entry (function_value number itself) ∷ [] })

module _ {f : Function} {g : Fn} {active : List Active} {listed : List ℕ} (is_function : IsFunction f g) (all : AreListed f g active listed) (each : length listed ≡ length active) (same : f.of.upvalue_names ≡ g.upvalue_names) (text : Text) (body : FunctionBody) (after : List Active) (p q : Spot) (at : LocalFunctionAt g text (FunctionOf body false) active after p q) (s : Situation)
    (locals : HasLocals active listed s) (empty : s.entries ≡ []) (quiet : IsQuiet f s.scope p.pc q.pc) where
  abbrev own_function : Bool
  own_function = captures_own text body after p q at

  abbrev closure_word : Word
  closure_word = word_of at.mid.pc (Piece.Abx Op.Closure (length active) at.mid.functions)

  own_marks : CapturesAll f closure_word (length (head_or [] at.mid.ahead.sources)) at.closure_at.mid.pc own_function s
  own_marks =
      let x = its_local text body after p q at in
      let uses = head_or [] at.mid.ahead.sources in
      let names = at.closure_at.names in
      let captured : CapturedBy is_function.names (active ++ x.0 ∷ []) names uses = subst₂ (λ (law : Law) (after : List Active). Captured law after names uses) is_function.law x.2 at.closure_at.captured in
      let further = subst (λ (after : List Active). FurtherAt g after uses at.closure_at.mid q) x.2 at.closure_at.further in
      subst (λ itself. CapturesAll f closure_word (length uses) at.closure_at.mid.pc itself s) (ap (is_among text) (sym (names_are text body after p q at is_function all same)))
      (own_all is_function all each text p.ahead x.0 x.1 closure_word refl uses names at.closure_at.mid q s locals empty captured further)

  quiet_there : IsQuiet f s.scope at.mid.pc q.pc
  quiet_there = subst (λ (pc : ℕ). IsQuiet f s.scope pc q.pc) (sym at.same) quiet

  function_comes : (q.functions ≡ suc p.functions) × FunctionComes f p.functions own_function s p.pc q.pc
  function_comes =
      let marks = own_marks in
      let read = closure_read is_function at.mid q s quiet_there at.closure_at own_function marks in
      let t = record s { scope = marks.scope } in
      let next : length active ≡ next_free t = omega (arith, locals.base, ap length empty) in
      let turn = read.turn ∙ makes_turn f closure_word (function_value at.mid.functions own_function) q.pc s t read.makes next in
      let later = closure_later at.mid q at.closure_at in
      let come : (number pc : ℕ) → at.mid.functions ≡ number → at.mid.pc ≡ pc → Reaches f pc s q.pc (record s { scope = marks.scope; entries = s.entries ++ value_entry (function_value number own_function) ∷ [] }) = λ number pc as_many at_pc.
      subst₂ (λ (number pc : ℕ). Reaches f pc s q.pc (record s { scope = marks.scope; entries = s.entries ++ value_entry (function_value number own_function) ∷ [] })) as_many at_pc (word later turn here) in (
        read.functions ∙ ap suc at.as_many,
        record {
          scope = marks.scope;
          same = marks.same;
          reaches = subst (λ (entries : Entries). Reaches f p.pc s q.pc (record s { scope = marks.scope; entries = entries ++ value_entry (function_value p.functions own_function) ∷ [] })) empty (come p.functions p.pc at.as_many at.same);
        },
      )

-- ---- its local starts

-- a function that is left is taken
taken_found : (fs : List (Option Inner)) (number : ℕ) → is_some (function_left fs number) ≡ true → (found : Inner) × (slice_get fs number ≡ Some (Some found))
taken_found fs number is = by (slice_get fs number) refl is
  where
    by : (there : Option (Option Inner)) → slice_get fs number ≡ there → is_some (function_there there) ≡ true → (found : Inner) × (slice_get fs number ≡ Some (Some found))
    by None there is = cc
    by (Some None) there is = cc
    by (Some (Some found)) there is = (found, there)

-- one that captures itself is declared as a local function, and its local is captured
module _ (f : Function) (text : Text) (pc number : ℕ) (s : Situation) where
  abbrev with_own : Situation
  with_own = record s { entries = value_entry (function_value number true) ∷ [] }

  abbrev behind_own : Scope → Situation
  behind_own scope = record (after_act (declared_function text number) with_own) { scope = capture_entry (length s.scope.declared) scope }

  own_declared : (found : Inner) (scope : Scope) → slice_get s.left number ≡ Some (Some found) → names_from f.of.locals (length s.scope.declared) 1 ≡ Some (text ∷ []) → declare f.of.locals 1 pc (Some s.step) s.scope ≡ Some scope →
      locals_declared f pc 1 with_own ≡ Some (act_draft f pc (declared_function text number) with_own, behind_own scope)
  own_declared found scope there named declares =
      let first = length s.scope.declared in
      let declares_it = option_and_then (declared_by f pc 1 first true) in
      let draft : Option Inner → Drafted = λ left. drafted (DraftKind.Declaration first 1) pc (levels_by left 1) (part_of (local_by text left)) with_own in
      ap (λ names. declares_it (option_and_then (statement_made f 1 with_own true) names)) named
      ∙ ap (λ left. declares_it (option_map (local_function_of text) (body_at number with_own left))) there
      ∙ ap (option_map (λ (scope : Scope). (draft (Some found), behind_own scope))) declares
      ∙ ap (λ left. Some (draft left, behind_own scope)) (sym (ap function_there there))

captured_declares : {count : ℕ} {before behind : Scope} (entry : ℕ) → Declares count before behind → Declares count before (capture_entry entry behind)
captured_declares {behind = behind} entry declares = record { declared_more = as_many entry behind.declared (slice_get behind.declared entry) ∙ declares.declared_more; active_more = declares.active_more }

module _ {f : Function} {g : Fn} {active : List Active} {listed : List ℕ} {lefts : ℕ → List (Option Inner)} (text : Text) (body : FunctionBody) (can : CanAct f g active listed lefts (local_function text body)) {made_before made_behind first last : ℕ} (s : Situation) (locals : HasLocals active listed s)
    (left_is : s.left ≡ lefts made_before) (start : StartHere f s.scope (text ∷ []) last) (later : first < last) where
  function_step : (itself : Bool) → IsActed g active (local_function text body) made_before made_behind (acted_by text made_before itself) → FunctionComes f made_before itself s first last → ActRead f g active (local_function text body) made_before made_behind s first last
  function_step true acts comes =
      let acted = declared_function text made_before in
      let begun = record s { scope = comes.scope } in
      let behind = declared_behind (Some s.step) comes.same start in
      let found = taken_found s.left made_before (can_now can made_behind acted left_is acts) in
      let step = own_declared f text last made_before begun found.0 behind.0 found.1 (named_behind comes.scope comes.same start) behind.1 in
      let turn = starting_turn (with_own f text last made_before begun) _ comes.same start (omega arith) step in
      act_declares s acted acts comes.scope (value_entry (function_value made_before true) ∷ []) s.seen comes.same comes.reaches (behind_own f text last made_before begun behind.0) turn (captured_declares (length comes.scope.declared) behind.2) refl refl later
  function_step false acts comes =
      let acted = acted_by text made_before false in
      let values = and_value (function_value made_before false) no_values in
      let entries = value_entry (function_value made_before false) ∷ [] in
      let begun = record s { scope = comes.scope; entries = entries } in
      let behind = declared_behind (Some s.step) comes.same start in
      let turn = declaring_turn f (text ∷ []) last begun values true behind.0 refl (can_now can made_behind acted left_is acts) comes.same start (omega arith) refl behind.1 in
      act_declares s acted acts comes.scope entries s.seen comes.same comes.reaches (record (after_act acted begun) { scope = behind.0; entries = [] }) turn behind.2 refl refl later

-- ---- `local function` statements

module _ {f : Function} {g : Fn} {active : List Active} {listed : List ℕ} (is_function : IsFunction f g) (all : AreListed f g active listed) where
  -- each active local is listed, and the upvalues have the names by which the words were laid down
  pub local_function_read : {lefts : ℕ → List (Option Inner)} → length listed ≡ length active → f.of.upvalue_names ≡ g.upvalue_names → (text : Text) (body : FunctionBody) → CanAct f g active listed lefts (local_function text body) → (after : List Active) (p q : Spot) →
      StatementAt g None (local_function text body) active after p q → (now : Situation) → HasLocals active listed now → now.left ≡ lefts p.functions → now.entries ≡ [] → now.taken ≡ now.seen → IsQuiet f now.scope p.pc q.pc → StartHere f now.scope (text ∷ []) q.pc →
      ActRead f g active (local_function text body) p.functions q.functions now p.pc q.pc
  local_function_read each same text body can after p q at now locals left_is empty taken quiet start =
      let comes = function_comes is_function all each same text body after p q at now locals empty quiet in
      let later : p.pc < q.pc = omega (arith, closure_later at.mid q at.closure_at, at.same) in
      let itself = captures_own text body after p q at in
      function_step text body can now locals left_is start later itself (acts_by text body after p q at comes.0 itself refl) comes.1
