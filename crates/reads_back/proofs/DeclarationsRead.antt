-- The words of a `local` statement are read as one step, which declares its names with the values that are written.
use Rattle.std.proofs.Common.{◌≡◌, ℕ, zero, suc, ◌^◌, ◌+◌, ◌<◌, ◌≤◌, nat_lt, nat_le, Bool, true, false, ◌&&◌, List, [], ◌∷◌, ◌++◌, length, length-append, drop, Option, Some, None, refl, sym, ap, ap₂, ◌∙◌, subst, arith, lt-ltb, inl, inr, subst₂}
use Rattle.std.proofs.lemmas.Bool.{le-ltb}
use Rattle.std.proofs.lemmas.Option.{same_Some}
use Rattle.std.specs.List.{prefix_len}
use Rattle.std.specs.Prelude.{◌==◌, option_and_then, option_map, slice_get, if◌then◌else◌}
use Rattle.lua_num.specs.Bytes.{Text}
use Rattle.lua_tree.specs.Syntax.{Expressions, local_statement, Statement}
use Rattle.lua_tree.specs.WellFormed.{depth_of_expressions}
use Rattle.proto.specs.declared.parts.LocVar.{LocVar}
use Rattle.core_expr.specs.Counting.{left_by_values, taken_behind_values}
use Rattle.core_expr.specs.Places.{place}
use Rattle.core_expr.specs.Values.{Values, Inner}
use Rattle.core_expr.specs.Writing.{Wordings, can_write_values, word_values}
use Rattle.recover_expr.specs.Declaring.{captures_itself, declaration, declared_by, local_made, local_of, locals_declared, loop_head, statement_made, without_nil as without_last}
use Rattle.recover_expr.specs.Drafts.{Drafted}
use Rattle.recover_expr.specs.Entries.{Entries}
use Rattle.recover_expr.specs.Lists.{adjusted, adjusted_list}
use Rattle.recover_expr.specs.Locals.{Scope, declare, entered, is_hidden, names_from, nests, starting}
use Rattle.recover_expr.specs.Reading.{as_over, over, turn_at, turn_of}
use Rattle.recover_expr.specs.Situation.{Function, Situation, place_in_step, word_at}
use Rattle.recover_expr.specs.Writing.{list_written}
use Rattle.scheme.specs.declared.making.Active.{Active}
use Rattle.scheme_stands.specs.Relation.{all_related}
use Rattle.scheme_stands.specs.Statements.{LocalPartAt}
use Rattle.scheme_stands.specs.Words.{Fn, Spot}
use Rattle.reads_back.specs.Acted.{Acted, declared, IsActed, act_levels, act_statement, can_act, left_by_act, taken_behind_act}
use Rattle.reads_back.specs.Cores.{AllHaveCores}
use Rattle.reads_back.specs.ReadAs.{part_of}
use Rattle.reads_back.proofs.ActsRead.{ActRead, CanAct, Declares, act_draft, after_act, kind_of_act, can_now, locals_of}
use Rattle.reads_back.proofs.AdjustedEntries.{written_not_own}
use Rattle.reads_back.proofs.BehindWords.{HasLocals, SameLocals}
use Rattle.reads_back.proofs.Comes.{IsWanted}
use Rattle.reads_back.proofs.DeclaredComes.{DeclaredComes, declared_comes, declared_on}
use Rattle.reads_back.proofs.NameReads.{AreListed}
use Rattle.reads_back.proofs.Reaches.{Reaches, step_ends}
use Rattle.reads_back.proofs.TakenEntries.{behind_taken}
use Rattle.reads_back.proofs.ValueWords.{next_free}
use Rattle.reads_back.proofs.WordsRead.{IsFunction, IsQuiet}

-- ---- where locals start

-- so many locals with these names start at a pc, one behind the other, which end no earlier and within those that are active
pub record StartHere (f : Function) (scope : Scope) (names : List Text) (pc : ℕ) : Type 0 where
  pub some : 0 < length names
  pub starts : starting f.of.locals pc scope ≡ length names
  pub named : names_from f.of.locals (length scope.declared) (length names) ≡ Some names
  pub shown : is_hidden f.of.locals (length scope.declared) ≡ false
  pub declares : (step : Option ℕ) → (behind : Scope) × (declare f.of.locals (length names) pc step scope ≡ Some behind) × Declares (length names) scope behind

entered_same : (step : Option ℕ) (before other : Scope) → SameLocals before other → SameLocals (entered step before) (entered step other)
entered_same step before other same = record {
  declared = length-append other.declared _ ∙ ap (λ (n : ℕ). n + 1) same.declared ∙ sym (length-append before.declared _);
  active = ap₂ (λ (active : List ℕ) (n : ℕ). active ++ n ∷ []) same.active same.declared;
}

-- where the same locals are declared and active the same are declared next
abbrev DeclaresSame : List LocVar → (count pc : ℕ) → Option ℕ → (other behind : Scope) → Type 0
DeclaresSame locals count pc step other behind = (scope : Scope) × (declare locals count pc step other ≡ Some scope) × SameLocals behind scope

pub declares_same : (locals : List LocVar) (count pc : ℕ) (step : Option ℕ) (before other behind : Scope) → SameLocals before other → declare locals count pc step before ≡ Some behind →
    DeclaresSame locals count pc step other behind
declares_same locals zero pc step before other behind same is = (other, refl, subst (λ (behind : Scope). SameLocals behind other) (same_Some before behind is) same)
declares_same locals (suc count) pc step before other behind same is =
    let rest : declare locals count pc step (entered step before) ≡ Some behind → DeclaresSame locals count pc step (entered step other) behind =
    λ is. declares_same locals count pc step (entered step before) (entered step other) behind (entered_same step before other same) is in
    subst (λ (one : Bool). (scope : Scope) × (next other one ≡ Some scope) × SameLocals behind scope) (sym tested) (on rest (fits (length before.declared) before.active) is)
  where
    fits : (n : ℕ) (active : List ℕ) → Bool
    fits n active = nests locals pc (record { declared = []; active = active }) (slice_get locals n) && nat_lt (length active) (2 ^ 32)

    next : Scope → Bool → Option Scope
    next scope one = option_and_then (declare locals count pc step) (if one then Some (entered step scope) else None)

    tested : fits (length other.declared) other.active ≡ fits (length before.declared) before.active
    tested = ap₂ fits same.declared same.active

    on : (declare locals count pc step (entered step before) ≡ Some behind → DeclaresSame locals count pc step (entered step other) behind) → (one : Bool) → next before one ≡ Some behind →
        (scope : Scope) × (next other one ≡ Some scope) × SameLocals behind scope
    on rest true is = rest is
    on rest false is = cc

pub declared_behind : {f : Function} {before other : Scope} {names : List Text} {pc : ℕ} (step : Option ℕ) → SameLocals before other → StartHere f before names pc →
    (scope : Scope) × (declare f.of.locals (length names) pc step other ≡ Some scope) × Declares (length names) before scope
declared_behind {f} {before} {other} {names} {pc} step same start =
    let one = start.declares step in
    let more = declares_same f.of.locals (length names) pc step before other one.0 same one.1 in
    let behind = more.2 in
    (more.0, more.1, record { declared_more = behind.declared ∙ one.2.declared_more; active_more = behind.active ∙ one.2.active_more })

-- the turn before the word at a pc, where locals start: the step that declares them
pub starting_turn : {f : Function} {before : Scope} {names : List Text} {pc : ℕ} (s : Situation) (step : Drafted × Situation) → SameLocals before s.scope → StartHere f before names pc → length names ≤ length s.entries →
    locals_declared f pc (length names) s ≡ Some step → turn_at f pc s ≡ Some (over step.0, step.1)
starting_turn {f} {before} {names} {pc} s step same start enough does =
    let count = length names in
    let rest = if nat_le f.last pc then None else option_and_then (turn_of f s) (word_at f pc) in
    let on = λ (some : Bool). if some then option_map as_over (declaration f pc count s) else rest in
    let starts = λ (n : ℕ). prefix_len (λ (local : LocVar). local.start == pc) (drop n f.of.locals) in
    let declares_some = λ (n : ℕ). if nat_lt 0 n then option_map as_over (declaration f pc n s) else rest in
    let shows = λ (hidden few : Bool). if hidden then loop_head f pc count s else (if few then None else locals_declared f pc count s) in
    ap declares_some (ap starts same.declared ∙ start.starts)
    ∙ ap on (lt-ltb 0 count start.some)
    ∙ ap₂ (λ (hidden few : Bool). option_map as_over (shows hidden few)) (ap (is_hidden f.of.locals) same.declared ∙ start.shown) (le-ltb (length s.entries) count enough)
    ∙ ap (option_map as_over) does

pub named_behind : {f : Function} {before : Scope} {names : List Text} {pc : ℕ} (other : Scope) → SameLocals before other → StartHere f before names pc → names_from f.of.locals (length other.declared) (length names) ≡ Some names
named_behind {f} {names = names} other same start = ap (λ (n : ℕ). names_from f.of.locals n (length names)) same.declared ∙ start.named

-- ---- the step

module _ (f : Function) (names : List Text) (pc : ℕ) (s : Situation) (values : Values) (all : Bool) (scope : Scope) where
  abbrev count : ℕ
  count = length names

  abbrev first : ℕ
  first = length s.scope.declared

  abbrev emptied : Situation
  emptied = record s { entries = [] }

  abbrev wrote : Wordings × ℕ × Situation
  wrote = (word_values (place_in_step f s) s.taken s.left values all, taken_behind_values values s.taken, record s { entries = []; left = left_by_values values s.left })

  module _ (listed : adjusted_list count true (without_last count s.entries) ≡ Some (record { values = values; all = all })) (can : can_write_values (place_in_step f s) s.left values ≡ true) where
    values_written : adjusted f count true s.taken (without_last count s.entries) emptied ≡ Some wrote
    values_written = ap (option_and_then (λ list. list_written f s.taken list emptied)) listed ∙ ap (λ can. if can then Some wrote else None) can

    is_made : statement_made f count s false names ≡ Some (local_of names wrote)
    is_made = ap (option_and_then (local_made f names count s)) (behind_taken [] s.entries 0 refl) ∙ ap (option_map (local_of names)) values_written

    abbrev step : Drafted × Situation
    step = (act_draft f pc (declared names values all) s, record (after_act (declared names values all) emptied) { scope = scope })

    are_declared : names_from f.of.locals first count ≡ Some names → captures_itself s.entries ≡ false → declare f.of.locals count pc (Some s.step) s.scope ≡ Some scope →
        locals_declared f pc count s ≡ Some step
    are_declared named plain declares =
        ap (λ itself. option_and_then (declared_by f pc count first itself) (option_and_then (statement_made f count s itself) (names_from f.of.locals first count))) plain
        ∙ ap (λ names. option_and_then (declared_by f pc count first false) (option_and_then (statement_made f count s false) names)) named
        ∙ ap (option_and_then (declared_by f pc count first false)) is_made
        ∙ ap (option_map (λ (scope : Scope). (act_draft f pc (declared names values all) s, record (after_act (declared names values all) emptied) { scope = scope }))) declares

    -- the turn before the word at the pc, where these locals start
    pub declaring_turn : {before : Scope} → SameLocals before s.scope → StartHere f before names pc → count ≤ length s.entries → captures_itself s.entries ≡ false →
        declare f.of.locals count pc (Some s.step) s.scope ≡ Some scope → turn_at f pc s ≡ Some (over step.0, step.1)
    declaring_turn same start enough plain declares = starting_turn s step same start enough (are_declared (named_behind s.scope same start) plain declares)

-- words are read, and then locals start, with which the step is over
pub act_declares : {f : Function} {g : Fn} {active : List Active} {statement : Statement} {made_before made_behind first last : ℕ} (s : Situation) (acted : Acted) → IsActed g active statement made_before made_behind acted → (scope : Scope) (entries : Entries) (seen : ℕ) → SameLocals s.scope scope →
    Reaches f first s last (record s { scope = scope; entries = entries; seen = seen }) → (behind : Situation) → turn_at f last (record s { scope = scope; entries = entries; seen = seen }) ≡ Some (over (act_draft f last acted (record s { scope = scope; entries = entries; seen = seen })), behind) →
    Declares (locals_of acted) s.scope behind.scope → behind.left ≡ left_by_act acted s.left → behind.seen ≡ taken_behind_act acted s.seen → first < last → ActRead f g active statement made_before made_behind s first last
act_declares {f} {last = last} s acted acts scope entries seen same reaches behind turn declares left taken later =
    let begun = record s { scope = scope; entries = entries; seen = seen } in
    record {
      acted = acted;
      is = acts;
      draft = act_draft f last acted begun;
      behind = behind;
      reads = λ count few. step_ends (act_draft f last acted begun) count reaches turn few;
      kind = ap (λ first. kind_of_act first acted) same.declared;
      pc = refl;
      next = refl;
      part = ap (λ (listed : List ℕ). part_of (act_statement (place f.of listed f.short) s.taken s.left acted)) same.active;
      levels = ap (λ (listed : List ℕ). act_levels (place f.of listed f.short) s.taken s.left acted) same.active;
      declares = declares;
      left = left;
      seen = taken;
      later = later;
    }

-- the values come, and then the locals start
module _ {f : Function} {g : Fn} {active : List Active} {listed : List ℕ} {lefts : ℕ → List (Option Inner)} (names : List Text) (es : Expressions) (can : CanAct f g active listed lefts (local_statement names es)) {made_before made_behind first last : ℕ} (s : Situation)
    (locals : HasLocals active listed s) (left_is : s.left ≡ lefts made_before) (start : StartHere f s.scope names last) (come : DeclaredComes f g active es made_before made_behind s (length names) first last) where
  abbrev acted : Acted
  acted = declared names come.values come.all

  abbrev begun : Situation
  begun = record s { scope = come.scope; entries = come.entries; seen = come.seen }

  acts : IsActed g active (local_statement names es) made_before made_behind acted
  acts = (refl, come.from, come.are, come.written)

  can_be_written : can_act (place_in_step f begun) s.left acted ≡ true
  can_be_written = subst (λ (listed : List ℕ). can_act (place f.of listed f.short) s.left acted ≡ true) (sym (come.same.active ∙ locals.places)) (can_now can made_behind acted left_is acts)

  local_step : s.entries ≡ [] → first < last → ActRead f g active (local_statement names es) made_before made_behind s first last
  local_step empty later =
      let reaches : Reaches f first s last begun = subst (λ (entries : Entries). Reaches f first s last (record begun { entries = entries ++ come.entries })) empty come.reaches in
      let plain = come.plain (written_not_own (place_in_step f begun) s.left come.values can_be_written) in
      let behind = declared_behind (Some s.step) come.same start in
      let turn = declaring_turn f names last begun come.values come.all behind.0 come.listed can_be_written come.same start come.enough plain behind.1 in
      act_declares s acted acts come.scope come.entries come.seen come.same reaches (record (after_act acted begun) { scope = behind.0; entries = [] }) turn behind.2 refl (sym come.taken) later

-- ---- `local` statements

module _ {f : Function} {g : Fn} {active : List Active} {listed : List ℕ} (is_function : IsFunction f g) (all : AreListed f g active listed) where
  pub local_read : {lefts : ℕ → List (Option Inner)} (names : List Text) (es : Expressions) → AllHaveCores es → depth_of_expressions es ≤ 199 → CanAct f g active listed lefts (local_statement names es) →
      (after : List Active) (p q : Spot) (s : Situation) → HasLocals active listed s → s.left ≡ lefts p.functions → s.entries ≡ [] → s.taken ≡ s.seen → IsQuiet f s.scope p.pc q.pc →
      StartHere f s.scope names q.pc → LocalPartAt g names (all_related g es) active after p q → ActRead f g active (local_statement names es) p.functions q.functions s p.pc q.pc
  local_read {lefts} names es has few can after p q s locals left_is empty taken quiet start at =
      let shallow : depth_of_expressions es ≤ 200 = omega (arith, few) in
      let next : length active ≡ next_free s = omega (arith, locals.base, ap length empty) in
      let quiet_there = subst (λ (pc : ℕ). IsQuiet f s.scope pc q.pc) (sym at.same) quiet in
      let wanted : IsWanted f s q.pc = inr (inl (omega (arith, start.starts, start.some))) in
      let come = declared_comes is_function all es has shallow (length names) at.mid q s locals next quiet_there wanted at.values_at in
      let on = declared_on is_function all es has shallow (length names) at.mid q at.values_at in
      subst₂ (λ (made pc : ℕ). ActRead f g active (local_statement names es) made q.functions s pc q.pc) at.as_many at.same (local_step names es can s locals (left_is ∙ ap lefts (sym at.as_many)) start come empty (on.1 start.some))
