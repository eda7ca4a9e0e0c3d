-- Where a function begins, its parameters are read, and so much is known before its first step; then all of it is read.
use Rattle.std.proofs.Common.{◌≡◌, ◌≤◌, ℕ, suc, ◌-◌, Bool, true, List, [], ◌++◌, length, refl, sym, ap, ap₂, ◌∙◌, arith, subst, eq-eqb, le-leb, if◌then◌else◌}
use Rattle.std.proofs.lemmas.Option.{none-some}
use Rattle.std.specs.List.{prefix_len}
use Rattle.std.specs.Prelude.{◌==◌, None, Option, Some, option_and_then, option_map, replicate}
use Rattle.lua_num.specs.Bytes.{Text}
use Rattle.lua_tree.specs.Outline as outline
use Rattle.lua_tree.specs.Syntax.{Statements}
use Rattle.proto.specs.declared.parts.LocVar.{LocVar}
use Rattle.core_expr.specs.Values.{Inner}
use Rattle.recover_expr.specs.Locals as scopes
use Rattle.recover_expr.specs.Locals.{Scope, all_end, names_from, starting}
use Rattle.recover_expr.specs.Placing.{Steps, placed}
use Rattle.recover_expr.specs.Reading.{function_steps, left_at, read_params, steps_of, with_params}
use Rattle.recover_expr.specs.Situation.{Function, Situation, at_first}
use Rattle.scheme.specs.Functions.{empty_maker}
use Rattle.scheme.specs.Making.{Ahead, Maker, declare}
use Rattle.scheme.specs.declared.making.Active.{Active}
use Rattle.scheme_stands.specs.Words.{Fn}
use Rattle.same_flow.specs.Declaring.{declaring}
use Rattle.same_flow.specs.Listed.{entries_from, entries_of}
use Rattle.same_flow.specs.SameFlow.{begun_of}
use Rattle.reads_back.proofs.ActsRead.{numbers_from}
use Rattle.reads_back.proofs.FlowDrafts.{FlowRead, first_pc, flow_read}
use Rattle.reads_back.proofs.FlowKnown.{AllKnown, times_known, turn_numbers}
use Rattle.reads_back.proofs.FlowStarts.{from_at, none_begin}
use Rattle.reads_back.proofs.FlowSteps.{IsThere, have_words, later_at}
use Rattle.reads_back.proofs.FlowThere.{IsFlowFunction, few_now, now_at, pcs}
use Rattle.reads_back.proofs.LocalsLeave.{listed_of, locals_leave}
use Rattle.reads_back.proofs.LoopsStarting.{Declared, all_there, are_declared, names_there, starts_there}
use Rattle.reads_back.proofs.ParametersRead.{begins_with}
use Rattle.reads_back.proofs.PlacedEnds.{all_end_there, length_entries}
use Rattle.reads_back.proofs.PlacedLocals.{InTurn, adds_activated, adds_both, adds_declared}
use Rattle.reads_back.proofs.ScopesGrow.{declare_enters, entered_times}
use Rattle.reads_back.proofs.StartingLocals.{StartFrom}

module _ {f : Function} {g : Fn} {z : Maker} {lefts : ℕ → List (Option Inner)} {parts : ℕ → outline.Part} {code : Steps} {params names : List Text} {ahead : Ahead} {block : Statements} (of : IsFlowFunction f g z lefts parts code params names ahead block) (takes : f.of.params ≡ length params) where
  abbrev last : ℕ
  last = length code.steps

  abbrev end : ℕ
  end = pcs of last

  abbrev parameters : List LocVar
  parameters = entries_of 0 end params

  -- they are the first that are listed
  all : f.of.locals ≡ parameters ++ from_at of 0
  all = of.listed ∙ ap (λ count. parameters ++ entries_from code (pcs of) 0 count) (let same : last ≡ last - 0 = omega arith in same)

  count : length parameters ≡ length params
  count = length_entries 0 end params

  begun : length (begun_of params names ahead).active ≡ length params
  begun = (begins_with params names ahead).as_many

  few : length params ≤ 250
  few = omega (arith, few_now of 0 (omega arith), begun)

  -- the others start behind them
  others_later : prefix_len (λ (entry : LocVar). entry.start == 0) (from_at of 0) ≡ 0
  others_later = let later = later_at of 0 (omega arith) in none_begin 0 (from_at of 0) (subst (λ pc. StartFrom (suc pc) (from_at of 0)) (first_pc of) later)

  abbrev empty : Scope
  empty = record { declared = []; active = [] }

  pub declared_first : Declared f.of.locals (length parameters) 0 end (from_at of 0) None empty
  declared_first = are_declared f.of.locals 0 end parameters (from_at of 0) None empty all (all_there 0 end params) (omega arith) refl (omega (arith, count, few))

  -- behind them
  abbrev params_scope : Scope
  params_scope = declared_first.behind

  abbrev pub params_behind : Situation
  params_behind = record (at_first (lefts 0)) { scope = params_scope }

  params_are_read : read_params f (at_first (lefts 0)) ≡ Some (params, params_behind)
  params_are_read =
      let many = length params in
      let s : Situation = at_first (lefts 0) in
      let named : Scope → List Text → List Text × Situation = λ scope names. (names, record s { scope = scope }) in
      let with_scope = λ (locals : List LocVar) (count : ℕ) (scope : Scope). if all_end locals count f.last then option_map (named scope) (names_from locals 0 count) else None in
      let starts = λ (count : ℕ). if starting f.of.locals 0 s.scope == count then option_and_then (with_scope f.of.locals count) (scopes.declare f.of.locals count 0 None s.scope) else None in
      let first : starting f.of.locals 0 s.scope ≡ many = ap (prefix_len (λ (entry : LocVar). entry.start == 0)) all ∙ starts_there 0 end params (from_at of 0) others_later in
      let does : scopes.declare f.of.locals many 0 None s.scope ≡ Some params_scope = ap (λ n. scopes.declare f.of.locals n 0 None s.scope) (sym count) ∙ declared_first.does in
      let ends : all_end f.of.locals many f.last ≡ true = ap₂ (λ (entries : List LocVar) end. all_end entries many end) all of.last ∙ all_end_there 0 end params (from_at of 0) in
      ap starts takes
      ∙ ap (λ (same : Bool). if same then option_and_then (with_scope f.of.locals many) (scopes.declare f.of.locals many 0 None s.scope) else None) (eq-eqb (starting f.of.locals 0 s.scope) many first)
      ∙ ap (option_and_then (with_scope f.of.locals many)) does
      ∙ ap (λ (all : Bool). if all then option_map (named params_scope) (names_from f.of.locals 0 many) else None) ends
      ∙ ap (option_map (named params_scope)) (names_there f.of.locals 0 end params (from_at of 0) 0 all of.good)

  -- ---- what is known behind them

  first_active : (new : List Active) × ((begun_of params names ahead).active ≡ new) × InTurn 0 new
  first_active =
      let empty = empty_maker ahead names in
      let declared = declare params empty in
      let adds = adds_both (adds_declared params empty) (adds_activated declared.value declared.after) in
      (adds.new, adds.active, adds.listed)

  -- before the first step
  pub there_first : IsThere of 0 (left_at f 0 params_behind)
  there_first =
      let begins = begins_with params names ahead in
      let new = first_active in
      let many : length new.0 ≡ length parameters = omega (arith, count, begun, ap (λ (active : List Active). length active) new.1) in
      let active : params_scope.active ≡ listed_of (now_at of 0).maker.active =
      declared_first.declares.active_more ∙ ap (numbers_from 0) (sym many) ∙ sym (turn_numbers 0 new.0 new.2) ∙ ap listed_of (sym new.1) in
      let more = declared_first.declares.declared_more in
      let entered : params_scope ≡ entered_times (length new.0) None empty = (declare_enters f.of.locals (length parameters) 0 None empty).at params_scope declared_first.does ∙ ap (λ n. entered_times n None empty) (sym many) in
      let known : AllKnown params_scope.declared (now_at of 0).maker.active (declaring code params names ahead 0) =
      subst (λ (scope : Scope). AllKnown scope.declared (now_at of 0).maker.active (declaring code params names ahead 0)) (sym entered)
      (subst (λ (active : List Active). AllKnown (entered_times (length new.0) None empty).declared active (replicate (length active) None)) (sym new.1)
      (times_known new.0 [] [] None empty refl new.2 refl (λ register one none. absurd (none-some one none)))) in
      record {
        declared = omega (arith, more, count);
        active =
            ap₂ (λ (entries : List LocVar) pc. (scopes.leave entries pc params_scope).active) of.listed (sym (first_pc of))
            ∙ locals_leave code of.plain params names ahead block of.laid 0 (omega arith) (have_words of 0) params_scope active;
        left = ap (λ (functions : List _). lefts (length functions)) (sym begins.functions);
        seen = sym (ap (λ (constants : List _). length constants) begins.constants);
        known = λ p most. let none : 0 ≡ p = omega (arith, most) in subst (λ p. AllKnown params_scope.declared (now_at of p).maker.active (declaring code params names ahead p)) none known;
      }

  -- ---- the whole function

  pub function_read : FlowRead of (left_at f 0 params_behind)
  function_read = flow_read of (left_at f 0 params_behind) there_first

  -- its steps are the drafts, placed by what is known in the end
  pub function_steps_are : function_steps (lefts 0) f ≡ placed f function_read.behind.scope params function_read.drafts
  function_steps_are =
      let read = function_read in
      ap (option_and_then (with_params f)) params_are_read
      ∙ ap (option_and_then (steps_of f params)) (read.reads f.last (omega arith))
      ∙ ap (λ all. if all then placed f read.behind.scope params read.drafts else None) (le-leb (length f.of.locals) (length read.behind.scope.declared) (omega (arith, read.all_declared)))
