-- What words capture in a stretch of the code scheme is what its marks capture.
use Rattle.std.proofs.Common.{◌≡◌, ℕ, suc, ◌≤◌, Bool, true, false, List, [], ◌∷◌, ◌++◌, Option, Some, None, refl, sym, ap, ap₂, ◌∙◌, subst, arith}
use Rattle.std.proofs.lemmas.Bool.{eq-eqb, eqb-true}
use Rattle.std.proofs.lemmas.List.Folds.{list_any-append}
use Rattle.std.specs.List.{list_any}
use Rattle.std.specs.Prelude.{◌==◌, ◌||◌, ◌&&◌, not, option_and_then, slice_get}
use Rattle.lua_num.specs.Bytes.{Text}
use Rattle.lua_tree.specs.Outline as outline
use Rattle.lua_tree.specs.Outline.{Binding, Mark, Place, body_part, both, declares, innermost, mention, mentions, nothing, local_name, hidden_local, dots, leave, opened}
use Rattle.lua_tree.specs.Scoping.{is_captured}
use Rattle.lua_tree.specs.Syntax.{FunctionBody, local_function}
use Rattle.opcode.specs.Reading.{instr_of}
use Rattle.opcode.specs.declared.op.Op.{Op}
use Rattle.opcode.specs.declared.word.Instr.{Instr}
use Rattle.recover_expr.specs.Situation.{Function, instr_at}
use Rattle.scheme.specs.Making.{head_or}
use Rattle.scheme.specs.declared.making.Active.{Active}
use Rattle.scheme.specs.declared.making.Local.{Local}
use Rattle.scheme.specs.declared.making.Piece.{Piece}
use Rattle.scheme_stands.specs.Functions.{ClosureAt, Declared}
use Rattle.scheme_stands.specs.Places.{Closed, Here, Moves}
use Rattle.scheme_stands.specs.Relation.{FunctionOf}
use Rattle.scheme_stands.specs.Words.{Fn, IsRead, Same, Spot, WordAt, instr_by}
use Rattle.scheme_stands.proofs.Counting.{closed_row, closed_still}
use Rattle.scheme_stands.proofs.Entering.{behind_name}
use Rattle.scheme_stands.proofs.Here.{Tame, here_as, here_at, here_behind, here_local_function, tame_both, tame_nothing, TameBy, here_first_by}
use Rattle.scheme_stands.proofs.Moving.{ahead_of, behind, chain, still_as}
use Rattle.reads_back.proofs.CapturedMarks.{is_local_use}
use Rattle.reads_back.proofs.CapturedWords.{Spans, skips_as, spans_none, spans_on, spans_then, word_spans}
use Rattle.reads_back.proofs.CapturesLike.{CapturesLike}
use Rattle.reads_back.proofs.MarksCaptured.{captured_both}
use Rattle.reads_back.proofs.ScopesCaptured.{registers_as}
use Rattle.reads_back.proofs.ScopesRead.{has_register}
use Rattle.reads_back.proofs.TestsEnd.{jump_is_read}
use Rattle.reads_back.proofs.WordsRead.{IsFunction, abc_is_read, abx_is_read, instr_there}

-- ---- words that capture nothing

-- they have no further words either
abbrev pub is_quiet : Op → Bool
is_quiet Op.Closure = false
is_quiet Op.SetList = false
is_quiet op = true

-- and no mark is passed
pub record Still (f : Function) (p q : Spot) : Type 0 where
  pub spans : Spans f p.pc q.pc []
  pub ahead : q.ahead ≡ p.ahead

quiet_skips : (op : Op) → is_quiet op ≡ true → (f : Function) (i : Instr) → skips_as op f i ≡ 0
quiet_skips Op.Closure is f i = absurd cc
quiet_skips Op.SetList is f i = absurd cc
quiet_skips op is f i = refl

quiet_registers : (op : Op) → is_quiet op ≡ true → (f : Function) (i : Instr) (pc : ℕ) → registers_as op f (record { pc = pc; next = suc pc; instr = i }) ≡ []
quiet_registers Op.Closure is f i pc = absurd cc
quiet_registers op is f i pc = refl

pub same_spans : {f : Function} {pc next : ℕ} → next ≡ pc → Spans f pc next []
same_spans {f} {pc} is = subst (λ next. Spans f pc next []) (sym is) spans_none

module _ {f : Function} where
  pub still_here : {p : Spot} → Still f p p
  still_here = record { spans = spans_none; ahead = refl }

  pub still_same : {p q : Spot} → Same p q → Still f p q
  still_same same = record { spans = same_spans same.pc; ahead = same.ahead }

  pub still_then : {p m q : Spot} → Still f p m → Still f m q → Still f p q
  still_then one more = record { spans = spans_on one.spans more.spans; ahead = more.ahead ∙ one.ahead }

  module _ {g : Fn} (is_function : IsFunction f g) where
    pub piece_there : {w : Piece} {p q : Spot} → WordAt g w p q → IsRead p.pc w → instr_at f p.pc ≡ Some (instr_by p.pc w)
    piece_there {w} {p} at read = ap (λ code. option_and_then instr_of (slice_get code p.pc)) is_function.code ∙ instr_there g.code p.pc w at.has read

    read_still : {w : Piece} {p q : Spot} → WordAt g w p q → IsRead p.pc w → is_quiet (instr_by p.pc w).op ≡ true → Still f p q
    read_still {w} {p} {q} at read quiet =
        let i = instr_by p.pc w in
        let none = quiet_skips i.op quiet f i in
        record {
          spans = subst (λ (registers : List ℕ). Spans f p.pc q.pc registers) (quiet_registers i.op quiet f i p.pc) (word_spans f p.pc q.pc i (piece_there at read) (omega (arith, at.next, none)));
          ahead = at.ahead;
        }

    pub abc_still : {op : Op} {a b c : ℕ} {p q : Spot} → is_quiet op ≡ true → WordAt g (Piece.Abc op a b c) p q → Still f p q
    abc_still quiet at = read_still at (abc_is_read is_function at) quiet

    pub abx_still : {op : Op} {a bx : ℕ} {p q : Spot} → is_quiet op ≡ true → WordAt g (Piece.Abx op a bx) p q → Still f p q
    abx_still quiet at = read_still at (abx_is_read is_function at) quiet

    pub jump_still : {op : Op} {a label : ℕ} {p q : Spot} → is_quiet op ≡ true → WordAt g (Piece.Jump op a label) p q → Still f p q
    jump_still quiet at = read_still at (jump_is_read is_function at) quiet

-- ---- what marks capture

pub like_none : (active : List Active) → CapturesLike [] active []
like_none active register declaration one there declared = refl

-- registers of active locals that have declarations: of no hidden one
abbrev pub Shown : List Active → (registers : List ℕ) → Type 0
Shown active registers = (register : ℕ) (one : Active) → slice_get active register ≡ Some one → one.local.declaration ≡ None → has_register register registers ≡ false

pub shown_none : (active : List Active) → Shown active []
shown_none active register one there hidden = refl

pub shown_both : (active : List Active) (first second : List ℕ) → Shown active first → Shown active second → Shown active (first ++ second)
shown_both active first second one more register x there hidden =
    list_any-append (λ (n : ℕ). n == register) first second ∙ ap₂ (λ here rest. here || rest) (one register x there hidden) (more register x there hidden)

pub like_both : (active : List Active) (marks others : List Mark) (first second : List ℕ) → CapturesLike marks active first → CapturesLike others active second → CapturesLike (marks ++ others) active (first ++ second)
like_both active marks others first second one more register declaration x there declared =
    list_any-append (λ (n : ℕ). n == register) first second
    ∙ ap₂ (λ here rest. here || rest) (one register declaration x there declared) (more register declaration x there declared)
    ∙ sym (captured_both declaration marks others)

-- ---- what is known of locals and functions

-- active locals have declarations of their own
abbrev pub Distinct : List Active → Type 0
Distinct active = (i j : ℕ) (x y : Active) (declaration : ℕ) → slice_get active i ≡ Some x → slice_get active j ≡ Some y → x.local.declaration ≡ Some declaration → y.local.declaration ≡ Some declaration → i ≡ j

-- what is known where a part comes next at a place, by all marks of the source: so it is with its parts, and behind them
pub record Onward : Type 1 where
  pub marks : List Mark
  pub Comes : outline.Part → Place → List Mark → Spot → Type 0
  pub first : (bound : ℕ) (a b : outline.Part) (place : Place) (rest : List Mark) (p : Spot) → bound ≤ place.declarations → Tame a → TameBy bound b → Comes (both a b) place rest p → Comes a place ((b (a place).next).marks ++ rest) p
  pub second : (a b : outline.Part) (place : Place) (rest : List Mark) (p m : Spot) → Tame a → Closed a place → Moves marks a p m → Comes (both a b) place rest p → Comes b (a place).next rest m
  -- at another spot with the same ahead
  pub again : (part : outline.Part) (place : Place) (rest : List Mark) (p q : Spot) → q.ahead ≡ p.ahead → Comes part place rest p → Comes part place rest q
  -- the same part, written otherwise
  pub other : (part same : outline.Part) (place : Place) (rest : List Mark) (p : Spot) → part place ≡ same place → Comes part place rest p → Comes same place rest p
  -- the body of a local function, behind the declaration of its name
  pub own : (text : Text) (body : FunctionBody) (place : Place) (rest : List Mark) (locals : List Local) (p m : Spot) → Declared (text ∷ []) p.ahead locals m.ahead → Comes (outline.statement_part 1 (local_function text body)) place rest p → Comes (body_part false body) (behind_name 1 text place) rest m

-- all that is known of a part at its place
abbrev pub by_place : List Mark → Onward
by_place marks = record {
  marks = marks;
  Comes = Here marks;
  first = λ bound a b place rest p. here_first_by marks a b place rest p;
  second = λ a b place rest p m. here_behind marks a b place rest p m;
  again = λ part place rest p q. here_at marks part place rest p q;
  other = λ part same place rest p. here_as marks part same place rest p;
  own = λ text body place rest locals p m. here_local_function marks 1 text body place rest locals p m;
}

-- a part that comes next at a place of the same function with the same names in scope
pub record Fine (all : Onward) (base : Place) (part : outline.Part) (p : Spot) (place : Place) (rest : List Mark) : Type 0 where
  pub scope : place.scope ≡ base.scope
  pub around : place.around ≡ base.around
  pub active : place.active ≡ base.active
  pub later : base.declarations ≤ place.declarations
  pub here : all.Comes part place rest p

-- where a name is mentioned in the running function, no declaration of an active local is captured
abbrev Unmentioned : Onward → Place → List Active → Type 0
Unmentioned all base active =
    (line : ℕ) (text : Text) (p : Spot) (place : Place) (rest : List Mark) → Fine all base (mentions line text) p place rest →
    (register declaration : ℕ) (one : Active) → slice_get active register ≡ Some one → one.local.declaration ≡ Some declaration → is_captured declaration (mentions line text place).marks ≡ false

-- the upvalues of a function that are locals around it are those that its marks capture
abbrev Opened : Fn → Onward → Place → List Active → Type 0
Opened g all base active =
    (body : FunctionBody) (method : Bool) (free r : ℕ) (p q : Spot) (place : Place) (rest : List Mark) → ClosureAt g (FunctionOf body method) active free r p q → Fine all base (body_part method body) p place rest →
    (register declaration : ℕ) (one : Active) → slice_get active register ≡ Some one → one.local.declaration ≡ Some declaration
    → list_any (is_local_use declaration) (head_or [] p.ahead.sources) ≡ is_captured declaration (body_part method body place).marks

-- all of this at a place
pub record Catching (f : Function) (g : Fn) (all : Onward) (base : Place) (active : List Active) : Type 0 where
  pub is_function : IsFunction f g
  pub distinct : Distinct active
  pub unmentioned : Unmentioned all base active
  pub opened : Opened g all base active

-- ---- a part of the source and its words

-- its words pass its marks and capture what these do, wherever they come next
pub record Catches (f : Function) (all : Onward) (base : Place) (active : List Active) (part : outline.Part) (p q : Spot) : Type 0 where
  pub registers : List ℕ
  pub spans : Spans f p.pc q.pc registers
  pub tame : Tame part
  pub closed : (place : Place) → Closed part place
  pub moves : Moves all.marks part p q
  pub like : (place : Place) (rest : List Mark) → Fine all base part p place rest → CapturesLike (part place).marks active registers
  pub shown : Shown active registers

-- of two parts the first comes next, and behind its words the second
pub fine_first_by : {all : Onward} {base : Place} {p : Spot} {bound : ℕ} (a b : outline.Part) (place : Place) (rest : List Mark) → bound ≤ place.declarations → Tame a → TameBy bound b → Fine all base (both a b) p place rest → Fine all base a p place ((b (a place).next).marks ++ rest)
fine_first_by {all} {p = p} {bound} a b place rest below tame_a tame_b fine = record { scope = fine.scope; around = fine.around; active = fine.active; later = fine.later; here = all.first bound a b place rest p below tame_a tame_b fine.here }

fine_first : {all : Onward} {base : Place} {p : Spot} (a b : outline.Part) (place : Place) (rest : List Mark) → Tame a → Tame b → Fine all base (both a b) p place rest → Fine all base a p place ((b (a place).next).marks ++ rest)
fine_first a b place rest tame_a tame_b fine = fine_first_by a b place rest (omega arith) tame_a tame_b fine

pub fine_second : {all : Onward} {base : Place} {p m : Spot} (a b : outline.Part) (place : Place) (rest : List Mark) → Tame a → Closed a place → Moves all.marks a p m → Fine all base (both a b) p place rest → Fine all base b m (a place).next rest
fine_second {all} {p = p} {m} a b place rest tame_a closed moves fine =
    let grown = closed.counted.declarations in
    let later = fine.later in
    record {
      scope = closed.scope ∙ fine.scope;
      around = closed.counted.around ∙ fine.around;
      active = closed.active ∙ fine.active;
      later = omega (arith, grown, later);
      here = all.second a b place rest p m tame_a closed moves fine.here;
    }

-- at another spot with the same ahead
fine_at : {all : Onward} {base : Place} {part : outline.Part} {p q : Spot} {place : Place} {rest : List Mark} → q.ahead ≡ p.ahead → Fine all base part p place rest → Fine all base part q place rest
fine_at {all} {part = part} {p} {q} {place} {rest} same fine = record { scope = fine.scope; around = fine.around; active = fine.active; later = fine.later; here = all.again part place rest p q same fine.here }

module _ {f : Function} {all : Onward} {base : Place} {active : List Active} where
  -- words of a part that has no marks
  pub caught_still : {part : outline.Part} {p q : Spot} → Tame part → ((place : Place) → Closed part place) → ((place : Place) → part place ≡ nothing place) → Still f p q → Catches f all base active part p q
  caught_still {part} {p} {q} tame closed none still = record {
    registers = [];
    spans = still.spans;
    tame = tame;
    closed = closed;
    moves = still_as all.marks part none p q still.ahead;
    like = λ place rest fine. subst (λ (walk : outline.Walk). CapturesLike walk.marks active []) (sym (none place)) (like_none active);
    shown = shown_none active;
  }

  pub caught_none : {p q : Spot} → Still f p q → Catches f all base active nothing p q
  caught_none still = caught_still tame_nothing closed_still (λ place. refl) still

  pub caught_then : {p m q : Spot} (a b : outline.Part) → Catches f all base active a p m → Catches f all base active b m q → Catches f all base active (both a b) p q
  caught_then {p} {m} {q} a b one more = record {
    registers = one.registers ++ more.registers;
    spans = spans_then one.spans more.spans;
    tame = tame_both a b one.tame more.tame;
    closed = λ place. closed_row a b place (one.closed place) (more.closed (a place).next);
    moves = chain all.marks a b p m q one.moves more.moves;
    like = λ place rest fine.
        let x = a place in
        let y = b x.next in
        like_both active x.marks y.marks one.registers more.registers (one.like place (y.marks ++ rest) (fine_first a b place rest one.tame more.tame fine))
        (more.like x.next rest (fine_second a b place rest one.tame (one.closed place) one.moves fine));
    shown = shown_both active one.registers more.registers one.shown more.shown;
  }

  pub caught_on : {part : outline.Part} {p m q : Spot} → Catches f all base active part p m → Still f m q → Catches f all base active part p q
  caught_on {part} {p} {m} {q} one still = record {
    registers = one.registers;
    spans = spans_on one.spans still.spans;
    tame = one.tame;
    closed = one.closed;
    moves = behind all.marks part p m q one.moves still.ahead;
    like = one.like;
    shown = one.shown;
  }

  pub caught_from : {part : outline.Part} {p m q : Spot} → Still f p m → Catches f all base active part m q → Catches f all base active part p q
  caught_from {part} {p} {m} {q} still one = record {
    registers = one.registers;
    spans = spans_then still.spans one.spans;
    tame = one.tame;
    closed = one.closed;
    moves = ahead_of all.marks part p m q still.ahead one.moves;
    like = λ place rest fine. one.like place rest (fine_at still.ahead fine);
    shown = one.shown;
  }

-- no declaration of an active local is that of another function in scope
abbrev OwnHomes : Place → List Active → Type 0
OwnHomes base active =
    (text : Text) (binding : Binding) (register : ℕ) (one : Active) → base.scope text ≡ Some binding → slice_get active register ≡ Some one → one.local.declaration ≡ Some binding.declaration → binding.home ≡ innermost base.around

pub unmentioned_at : (all : Onward) (base : Place) (active : List Active) → OwnHomes base active → Unmentioned all base active
unmentioned_at all base active homes line text p place rest fine register declaration one there declared = by (place.scope text) refl
  where
    by_number : (binding : Binding) → place.scope text ≡ Some binding → (same : Bool) → (binding.declaration == declaration) ≡ same → ((same && not (binding.home == innermost place.around)) || false) ≡ false
    by_number binding means true is =
        let number : one.local.declaration ≡ Some binding.declaration = declared ∙ ap (λ (n : ℕ). Some n) (sym (eqb-true binding.declaration declaration is)) in
        let home : binding.home ≡ innermost place.around = homes text binding register one (ap (λ (scope : outline.Scope). scope text) (sym fine.scope) ∙ means) there number ∙ ap innermost (sym fine.around) in
        ap (λ own. not own || false) (eq-eqb binding.home (innermost place.around) home)
    by_number binding means false is = refl

    by : (means : Option Binding) → place.scope text ≡ means → is_captured declaration (mention line text means place.around ∷ []) ≡ false
    by None is = refl
    by (Some binding) is = ap (λ same. (same && not (binding.home == innermost place.around)) || false) refl ∙ by_number binding is (binding.declaration == declaration) refl

-- a part comes next at a place itself
pub fine_here : {all : Onward} {part : outline.Part} {p : Spot} {place : Place} {rest : List Mark} → all.Comes part place rest p → Fine all place part p place rest
fine_here here = record { scope = refl; around = refl; active = refl; later = omega arith; here = here }
