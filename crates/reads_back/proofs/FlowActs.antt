-- The words of an act, of a declaration of locals and of a return are read as one step, with what is written of it.
use Rattle.std.proofs.Common.{◌≡◌, ◌<◌, ℕ, zero, suc, Bool, true, List, [], ◌∷◌, ◌++◌, length, length-append, None, refl, sym, ap, ap₂, ◌∙◌, arith, subst, false}
use Rattle.std.proofs.lemmas.Option.{none-some, same_Some, slice_get-map}
use Rattle.std.specs.Prelude.{Option, Some, option_map, slice_get}
use Rattle.lua_num.specs.Bytes.{Text}
use Rattle.lua_tree.specs.Names.{are_some_names}
use Rattle.lua_tree.specs.OneLine.{one_line_statement}
use Rattle.lua_tree.specs.Outline as outline
use Rattle.lua_tree.specs.Syntax.{Expressions, FunctionBody, Statement, Statements, assignment, call_statement, function_statement, local_function, local_statement, return_statement}
use Rattle.proto.specs.declared.parts.LocVar.{LocVar}
use Rattle.core_expr.specs.Places.{place}
use Rattle.core_expr.specs.Values.{Inner}
use Rattle.recover_expr.specs.Drafts.{Part, statement_part, values_part}
use Rattle.recover_expr.specs.Placing.{Steps}
use Rattle.recover_expr.specs.Situation.{Function, Situation}
use Rattle.recover_expr.specs.declared.draft.DraftKind.{DraftKind}
use Rattle.recover_expr.specs.declared.steps.StepKind.{StepKind}
use Rattle.scheme.specs.Making.{Ahead, Maker}
use Rattle.scheme.specs.Scheme.{statement_made}
use Rattle.scheme.specs.declared.making.Active.{Active}
use Rattle.scheme_stands.proofs.Growth.{Final, spot}
use Rattle.scheme_stands.specs.Relation.{StatementAt}
use Rattle.scheme_stands.specs.Words.{Fn}
use Rattle.same_flow.specs.Listed.{all_entries, entries_by, entries_where, names_declared}
use Rattle.same_flow.specs.Told.{IsActPart, IsDeclarationPart}
use Rattle.reads_back.specs.Acted.{Acted, IsAct, IsActed, act_levels, act_statement, assigned, called, declared, declared_function, left_by_act, returned, taken_behind_act}
use Rattle.reads_back.specs.Assignments.{as_assignment}
use Rattle.reads_back.specs.Coming.{declared_local}
use Rattle.reads_back.specs.Placed.{listed_before, IsDraftKind}
use Rattle.reads_back.specs.ReadAs.{part_of}
use Rattle.lua_tree.specs.WellFormed.{ends_block}
use Rattle.reads_back.proofs.ActiveNames.{IsGood, NamedIn, named_both, texts_in}
use Rattle.reads_back.proofs.ActsRead.{ActRead, Declares, kind_of_act, locals_of}
use Rattle.reads_back.proofs.Comes.{IsOver}
use Rattle.reads_back.proofs.DeclarationsRead.{StartHere}
use Rattle.reads_back.proofs.FlowRead.{ActPart, Begins, KindRead, as_many, final_here, has_locals, last_is, upvalues_here, within_last, PartRead, kind_in}
use Rattle.reads_back.proofs.FlowStarts.{declaration_starts, few_behind, from_at, quiet_to, row_from}
use Rattle.reads_back.proofs.FlowThere.{IsFlowAct, IsFlowBy, IsFlowFunction, StepIs, are_listed, before_at, made_at, made_before, named_before, pcs}
use Rattle.reads_back.proofs.LocalsLeave.{listed_of}
use Rattle.reads_back.proofs.Mentions.{IsAhead}
use Rattle.reads_back.proofs.OwnLocals.{listed_same}
use Rattle.reads_back.proofs.PlacedEnds.{length_entries, stands_in}
use Rattle.reads_back.proofs.Rewriting.{IsMadeBy, OwnListed, RewrittenAct, mentions_of_statement}
use Rattle.reads_back.proofs.SameStatements.{assigned_makes, assigned_stands}
use Rattle.reads_back.proofs.SomeNames.{some_names}
use Rattle.reads_back.proofs.StartingLocals.{StartFrom, start_later}
use Rattle.reads_back.proofs.StepsOver.{act_over}
use Rattle.reads_back.proofs.StatementsMeant.{statement_meant}
use Rattle.reads_back.proofs.ActsKnown.{EndsAt, StartsWith, act_read, written}
use Rattle.reads_back.proofs.TakenEntries.{at_place}
use Rattle.reads_back.proofs.Tests.{both_hold, not_so}
use Rattle.reads_back.proofs.WordsRead.{IsQuiet}

only_named : (texts : List Text) (y : Active) → slice_get texts y.listed ≡ Some y.local.name → IsGood y.local → NamedIn texts (y ∷ [])
only_named texts y there good zero one found = subst (λ (one : Active). (slice_get texts one.listed ≡ Some one.local.name) × IsGood one.local) (same_Some y one found) (there, good)
only_named texts y there good (suc register) one found = absurd (none-some one found)

-- ---- what an act is as a step

module _ (g : Fn) (active : List Active) (first before behind : ℕ) where
  act_is : (s : Statement) → IsActPart s → (acted : Acted) → IsActed g active (as_assignment s) before behind acted → (kind_of_act first acted ≡ DraftKind.Act) × (locals_of acted ≡ 0)
  act_is (call_statement e) fits (called v) acts = (refl, refl)
  act_is (assignment targets es) fits (assigned ts vs all last) acts = (refl, refl)
  act_is (function_statement path method body) fits (assigned ts vs all last) acts = (refl, refl)
  act_is (local_statement names es) fits acted acts = absurd fits
  act_is (local_function text body) fits acted acts = absurd fits
  act_is (return_statement es) fits acted acts = absurd fits
  act_is s fits acted acts = absurd acts

  declaration_is : (s : Statement) → IsDeclarationPart s → (acted : Acted) → IsActed g active (as_assignment s) before behind acted →
      (kind_of_act first acted ≡ DraftKind.Declaration first (length (names_declared (statement_part s)))) × (locals_of acted ≡ length (names_declared (statement_part s)))
  declaration_is (local_statement names es) fits (declared others vs all) acts = (ap (λ (names : List Text). DraftKind.Declaration first (length names)) acts.0, ap length acts.0)
  declaration_is (local_function text body) fits (declared names vs all) acts = let are = acts.4.1 in (ap (λ (names : List Text). DraftKind.Declaration first (length names)) are, ap length are)
  declaration_is (local_function text body) fits (declared_function name number) acts = (refl, refl)
  declaration_is (call_statement e) fits acted acts = absurd fits
  declaration_is (assignment targets es) fits acted acts = absurd fits
  declaration_is (function_statement path method body) fits acted acts = absurd fits
  declaration_is (return_statement es) fits acted acts = absurd fits
  declaration_is s fits acted acts = absurd acts

  return_is : (es : Expressions) (acted : Acted) → IsActed g active (return_statement es) before behind acted → (kind_of_act first acted ≡ DraftKind.Return) × (locals_of acted ≡ 0)
  return_is es (returned vs all) acts = (refl, refl)
  return_is es acted acts = absurd acts

-- ---- a function statement stands and makes what its assignment does

module _ {Left : Type 0} {f : Function} {g : Fn} {z : Maker} {code : Steps} {params names : List Text} {ahead : Ahead} {block : Statements} (of : IsFlowBy Left f g z code params names ahead block) where
  pub act_stands : {at : ℕ} {s : Statement} → StepIs of at StepKind.Act (statement_part s) →
      StatementAt g None (as_assignment s) (before_at of at).active (made_at of at StepKind.Act (statement_part s)).active (spot (before_at of at)) (spot (made_at of at StepKind.Act (statement_part s)))
  act_stands {at} {s} is = let m = before_at of at in let made = made_at of at StepKind.Act (statement_part s) in assigned_stands g s is.flow.formed m.active made.active (spot m) (spot made) is.stands

  pub declaration_stands : {at end : ℕ} {captured : Bool} {s : Statement} → StepIs of at (StepKind.Declaration end captured) (statement_part s) →
      StatementAt g None (as_assignment s) (before_at of at).active (made_at of at (StepKind.Declaration end captured) (statement_part s)).active (spot (before_at of at)) (spot (made_at of at (StepKind.Declaration end captured) (statement_part s)))
  declaration_stands {at} {end} {captured} {s} is =
      let m = before_at of at in
      let made = made_at of at (StepKind.Declaration end captured) (statement_part s) in
      assigned_stands g s is.flow.formed m.active made.active (spot m) (spot made) is.stands

  -- ---- the locals of an act

  -- an act has no local of its own
  pub act_own : (s : Statement) → IsActPart s → (active : List Active) → OwnListed f g active (as_assignment s)
  act_own (call_statement e) fits active = tt
  act_own (assignment targets es) fits active = tt
  act_own (function_statement path method body) fits active = tt
  act_own s fits active = absurd fits

  -- the local of a local function is listed behind the others
  own_local_listed : {at end : ℕ} {captured : Bool} (text : Text) (body : FunctionBody) → StepIs of at (StepKind.Declaration end captured) (statement_part (local_function text body)) → OwnListed f g (before_at of at).active (local_function text body)
  own_local_listed {at} {end} {captured} text body is x next same_local =
      let kind = StepKind.Declaration end captured in
      let part = statement_part (local_function text body) in
      let less = is.within in
      let active = (before_at of at).active in
      let y : Active = record { local = declared_local text next; listed = listed_before code params names ahead at } in
      let entry : LocVar = record { name = text; start = pcs of (suc at); end = pcs of end } in
      let place_of = stands_in code params names ahead at less in
      let all : all_entries code params names ahead ≡ place_of.front ++ (entry ∷ place_of.rest) =
      place_of.all ∙ ap₂ (λ (kind : Option StepKind) (part : Option Part). place_of.front ++ (entries_where (pcs of) at kind part ++ place_of.rest)) is.there is.part_there in
      let there : slice_get (texts_in (all_entries code params names ahead)) y.listed ≡ Some text =
      slice_get-map (λ (entry : LocVar). entry.name) (all_entries code params names ahead) y.listed
      ∙ ap (option_map (λ (entry : LocVar). entry.name)) (ap₂ (λ (entries : List LocVar) n. slice_get entries n) all (sym place_of.first) ∙ at_place place_of.front entry place_of.rest) in
      let own : NamedIn (texts_in (all_entries code params names ahead)) (y ∷ []) = only_named (texts_in (all_entries code params names ahead)) y there (λ some. is.flow.act.is.0) in
      let named = named_both (texts_in (all_entries code params names ahead)) active (y ∷ []) (named_before of at (omega (arith, less))) own in
      let few = few_behind of at kind part is in
      let known = are_listed of (active ++ y ∷ []) named (omega (arith, few, length-append active (y ∷ []))) in
      (listed_of (active ++ y ∷ []), listed_same g active y x (sym same_local) known)

  -- the local of a local function is listed
  pub own_listed : {at end : ℕ} {captured : Bool} (s : Statement) → IsDeclarationPart s → StepIs of at (StepKind.Declaration end captured) (statement_part s) → OwnListed f g (before_at of at).active (as_assignment s)
  own_listed (local_statement names es) fits is = tt
  own_listed (local_function text body) fits is = own_local_listed text body is
  own_listed s fits is = absurd fits

module _ {f : Function} {g : Fn} {z : Maker} {lefts : ℕ → List (Option Inner)} {parts : ℕ → outline.Part} {code : Steps} {params names : List Text} {ahead : Ahead} {block : Statements} (of : IsFlowFunction f g z lefts parts code params names ahead block) where
  -- ---- the words of an act

  -- what is known where its words are read
  module _ {at : ℕ} {kind : StepKind} {part : Part} (is : StepIs of at kind part) (s : Statement) (flow : IsFlowAct s) (makes : made_at of at kind part ≡ statement_made s 1 None (before_at of at))
      (stands : StatementAt g None s (before_at of at).active (made_at of at kind part).active (spot (before_at of at)) (spot (made_at of at kind part))) (own : OwnListed f g (before_at of at).active s) where
    abbrev m : Maker
    m = before_at of at

    abbrev made : Maker
    made = made_at of at kind part

    pub here : IsMadeBy f g m.active (listed_of m.active) z
    here = let less = is.within in made_before of at (omega (arith, less))

    pub comes : IsAhead g m.active (length m.functions) (mentions_of_statement s) m
    comes = record { active_are = refl; upvalues_are = upvalues_here of is; made_are = refl; meant = (statement_meant g s flow.is m.active made.active (spot m) (spot made) stands).meant }

    pub same_made : made ≡ statement_made (one_line_statement s) 1 None m
    same_made = makes ∙ ap (λ s. statement_made s 1 None m) (sym flow.on_line)

    pub final : Final (length m.labels) (statement_made (one_line_statement s) 1 None m) z
    final = subst (λ n. Final (length m.labels) n z) same_made (final_here of is)

    module _ (now : Situation) (begins : Begins of at now) (rest : StartFrom (suc (pcs of (suc at))) (from_at of (suc at))) (own_from : StartFrom (pcs of (suc at)) (entries_by (pcs of) at kind part)) (starts : StartsWith f s now (length made.items)) (ends : EndsAt f s now (length made.items)) where
      act : ActRead f g m.active s (length m.functions) (length made.functions) now (length m.items) (length made.items)
      act =
          let last = last_is of is in
          let start = start_later (pcs of (suc at)) (suc (pcs of (suc at))) (from_at of (suc at)) (omega arith) rest in
          let quiet = subst (λ pc. IsQuiet f now.scope (length m.items) pc) last (quiet_to of at kind part is (pcs of at) (pcs of (suc at)) now.scope begins.declared begins.active (omega arith) own_from start (within_last of is)) in
          act_read here of.left s flow.is flow.shallow own (as_many of at) made.active (spot m) (spot made) stands now (has_locals of begins) begins.left begins.entries begins.taken quiet starts ends

      rewritten : RewrittenAct f g m.active (listed_of m.active) z lefts (length m.functions) (length made.functions) s act.acted
      rewritten = written here of.left s flow.is flow.shallow own (length m.functions) (length made.functions) act.acted act.is

      -- as a step of its kind
      module _ (count : length (entries_by (pcs of) at kind part) ≡ locals_of act.acted) where
        act_declares : Declares (length (entries_by (pcs of) at kind part)) now.scope act.behind.scope
        act_declares = subst (λ n. Declares n now.scope act.behind.scope) (sym count) act.declares

        act_part : ActPart f g lefts m s (length made.functions) act.draft
        act_part = record {
          acted = act.acted;
          is = act.is;
          part =
              act.part
              ∙ ap₂ (λ (listed : List ℕ) (left : List (Option Inner)). part_of (act_statement (place f.of listed f.short) now.taken left act.acted)) begins.active begins.left
              ∙ ap (λ taken. part_of (act_statement (place f.of (listed_of m.active) f.short) taken (lefts (length m.functions)) act.acted)) (begins.taken ∙ begins.seen);
          levels =
              act.levels
              ∙ ap₂ (λ (listed : List ℕ) (left : List (Option Inner)). act_levels (place f.of listed f.short) now.taken left act.acted) begins.active begins.left
              ∙ ap (λ taken. act_levels (place f.of (listed_of m.active) f.short) taken (lefts (length m.functions)) act.acted) (begins.taken ∙ begins.seen);
        }

        act_left : act.behind.left ≡ lefts (length made.functions)
        act_left = act.left ∙ ap (left_by_act act.acted) begins.left ∙ rewritten.leaves

        act_seen : act.behind.seen ≡ length made.constants
        act_seen = act.seen ∙ ap (taken_behind_act act.acted) begins.seen ∙ sym (ap (λ (n : Maker). length n.constants) same_made ∙ rewritten.taken m comes final)

        act_later : pcs of at < pcs of (suc at)
        act_later = let later = act.later in omega (arith, later, last_is of is)

        -- so the step is read
        act_step : IsDraftKind (pcs of) (listed_before code params names ahead at) (length (entries_by (pcs of) at kind part)) (kind_in now.scope kind) act.draft.kind → StartFrom (suc (pcs of at)) (entries_by (pcs of) at kind part) →
            PartRead f g lefts m (pcs of) kind part (length made.functions) act.draft → KindRead of at kind part now
        act_step kind_is own_later part_read = record {
          draft = act.draft;
          behind = act.behind;
          reads = λ n few. act.reads n (omega (arith, few, last_is of is));
          kind_is = kind_is;
          next = act.next ∙ sym (last_is of is);
          declares = act_declares;
          left = act_left;
          seen = act_seen;
          later = act_later;
          own_later = own_later;
          part_read = part_read;
        }

  -- ---- acts and returns

  pub act_step_read : {at : ℕ} {s : Statement} → StepIs of at StepKind.Act (statement_part s) → (now : Situation) → Begins of at now → StartFrom (suc (pcs of (suc at))) (from_at of (suc at)) → KindRead of at StepKind.Act (statement_part s) now
  act_step_read {at} {s} is now begins rest =
      let m = before_at of at in
      let made = made_at of at StepKind.Act (statement_part s) in
      let other = as_assignment s in
      let flow = is.flow.act in
      let makes = assigned_makes s m is.flow.formed in
      let stands = act_stands of is in
      let none = act_own of s is.fits m.active in
      let over = subst (λ (base : ℕ). IsOver f now.scope base (pcs of (suc at))) (sym begins.base) (act_over of at (statement_part s) is now.scope begins.declared begins.active) in
      let ends = over_ends other now (length made.items) (subst (IsOver f now.scope now.base) (last_is of is) over) in
      let read = act is other flow makes stands none now begins rest tt (act_starts s is.fits now (length made.items)) ends in
      let counts = act_is g m.active (length now.scope.declared) (length m.functions) (length made.functions) s is.fits read.acted read.is in
      let count : 0 ≡ locals_of read.acted = sym counts.1 in
      act_step is other flow makes stands none now begins rest tt _ ends count (read.kind ∙ counts.0) tt (act_part is other flow makes stands none now begins rest tt _ ends count)
    where
      act_starts : (s : Statement) → IsActPart s → (now : Situation) (last : ℕ) → StartsWith f (as_assignment s) now last
      act_starts (call_statement e) fits now last = tt
      act_starts (assignment targets es) fits now last = tt
      act_starts (function_statement path method body) fits now last = tt
      act_starts s fits now last = absurd fits

      over_ends : (s : Statement) (now : Situation) (last : ℕ) → IsOver f now.scope now.base last → EndsAt f s now last
      over_ends (assignment targets es) now last over = over
      over_ends s now last over = tt

  pub return_step_read : {at : ℕ} {es : Expressions} → StepIs of at StepKind.Return (values_part es) → (now : Situation) → Begins of at now → StartFrom (suc (pcs of (suc at))) (from_at of (suc at)) → KindRead of at StepKind.Return (values_part es) now
  return_step_read {at} {es} is now begins rest =
      let s = return_statement es in
      let read = act is s is.flow refl is.stands tt now begins rest tt tt tt in
      let counts = return_is g (before_at of at).active (length now.scope.declared) (length (before_at of at).functions) (length (made_at of at StepKind.Return (values_part es)).functions) es read.acted read.is in
      let count : 0 ≡ locals_of read.acted = sym counts.1 in
      act_step is s is.flow refl is.stands tt now begins rest tt tt tt count (read.kind ∙ counts.0) tt (act_part is s is.flow refl is.stands tt now begins rest tt tt tt count)

  -- ---- declarations

  some_declared : (s : Statement) → IsDeclarationPart s → IsAct (as_assignment s) → are_some_names (names_declared (statement_part s)) ≡ true
  some_declared (local_statement names es) fits is = is.0
  some_declared (local_function text body) fits is = both_hold _ _ is.0 refl
  some_declared s fits is = absurd fits

  declared_starts : {at end : ℕ} {captured : Bool} (s : Statement) (fits : IsDeclarationPart s) (is : StepIs of at (StepKind.Declaration end captured) (statement_part s)) (now : Situation) → Begins of at now → StartFrom (suc (pcs of (suc at))) (from_at of (suc at)) →
      StartsWith f (as_assignment s) now (length (made_at of at (StepKind.Declaration end captured) (statement_part s)).items)
  declared_starts {at} {end} {captured} (local_statement names es) fits is now begins rest =
      subst (StartHere f now.scope names) (last_is of is) (declaration_starts of at end captured (statement_part (local_statement names es)) is is.flow.act.is.0 rest now.scope begins.declared begins.active)
  declared_starts {at} {end} {captured} (local_function text body) fits is now begins rest =
      subst (StartHere f now.scope (text ∷ [])) (last_is of is) (declaration_starts of at end captured (statement_part (local_function text body)) is (both_hold _ _ is.flow.act.is.0 refl) rest now.scope begins.declared begins.active)
  declared_starts s fits is now begins rest = absurd fits

  declared_ends : (s : Statement) → IsDeclarationPart s → (now : Situation) (last : ℕ) → EndsAt f (as_assignment s) now last
  declared_ends (local_statement names es) fits now last = tt
  declared_ends (local_function text body) fits now last = tt
  declared_ends s fits now last = absurd fits

  pub declaration_step_read : {at end : ℕ} {captured : Bool} {s : Statement} → StepIs of at (StepKind.Declaration end captured) (statement_part s) → (now : Situation) → Begins of at now → StartFrom (suc (pcs of (suc at))) (from_at of (suc at)) →
      KindRead of at (StepKind.Declaration end captured) (statement_part s) now
  declaration_step_read {at} {end} {captured} {s} is now begins rest =
      let kind = StepKind.Declaration end captured in
      let texts = names_declared (statement_part s) in
      let m = before_at of at in
      let made = made_at of at kind (statement_part s) in
      let other = as_assignment s in
      let flow = is.flow.act in
      let makes = assigned_makes s m is.flow.formed in
      let stands = declaration_stands of is in
      let own = own_listed of s is.fits is in
      let from = row_from (pcs of (suc at)) (pcs of (suc at)) (pcs of end) texts (omega arith) in
      let starts = declared_starts s is.fits is now begins rest in
      let ends = declared_ends s is.fits now (length made.items) in
      let read = act is other flow makes stands own now begins rest from starts ends in
      let counts = declaration_is g m.active (length now.scope.declared) (length m.functions) (length made.functions) s is.fits read.acted read.is in
      let listed = length_entries (pcs of (suc at)) (pcs of end) texts in
      let count : length (entries_by (pcs of) at kind (statement_part s)) ≡ locals_of read.acted = listed ∙ sym counts.1 in
      let some = some_names texts (some_declared s is.fits flow.is) in
      let later = act_later is other flow makes stands own now begins rest from starts ends count in
      act_step is other flow makes stands own now begins rest from starts ends count (read.kind ∙ counts.0 ∙ ap₂ DraftKind.Declaration begins.declared (sym listed), omega (arith, some, listed)) (row_from (suc (pcs of at)) (pcs of (suc at)) (pcs of end) texts (omega (arith, later))) (act_part is other flow makes stands own now begins rest from starts ends count)

-- ---- what ends no block

pub act_goes_on : (s : Statement) → IsActPart s → ends_block s ≡ false
act_goes_on (call_statement e) fits = refl
act_goes_on (assignment targets es) fits = refl
act_goes_on (function_statement path method body) fits = refl
act_goes_on s fits = absurd fits

pub declaration_goes_on : (s : Statement) → IsDeclarationPart s → ends_block s ≡ false
declaration_goes_on (local_statement names es) fits = refl
declaration_goes_on (local_function text body) fits = refl
declaration_goes_on s fits = absurd fits

-- it stands in its step as it is
pub part_stays : (s : Statement) → ends_block s ≡ false → part_of s ≡ statement_part s
part_stays (return_statement es) goes_on = not_so (sym goes_on)
part_stays s goes_on = refl
