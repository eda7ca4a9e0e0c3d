-- The words of an assignment are read as one step, which is that assignment.
use Rattle.std.proofs.Common.{add-one, ◌≡◌, ◌≢◌, ◌⊎◌, ℕ, zero, suc, ◌+◌, ◌<◌, ◌≤◌, ◌&&◌, max, Bool, true, false, List, [], ◌∷◌, ◌++◌, length, length-append, Option, Some, None, refl, sym, ap, ap₂, ◌∙◌, subst, arith, eq-eqb, inl, inr}
use Rattle.std.proofs.lemmas.Bool.{eqb-true, le-ltb, ne_eqb}
use Rattle.std.specs.Prelude.{◌==◌, not, option_map, if◌then◌else◌, replicate}
use Rattle.lua_tree.specs.Syntax as syntax
use Rattle.lua_tree.specs.Syntax.{Expressions, no_expressions, assignment}
use Rattle.lua_tree.specs.WellFormed.{depth_of_expressions, has_expressions}
use Rattle.core_expr.specs.Counting.{taken_behind_values}
use Rattle.core_expr.specs.Places.{place}
use Rattle.core_expr.specs.Targets.{TargetValue}
use Rattle.core_expr.specs.Values.{OperandValue, Values, Inner, and_value, no_values}
use Rattle.recover_expr.specs.Assigning.{assigned_from, stored_function}
use Rattle.recover_expr.specs.Entries.{Entries, and_last_value, value_entry}
use Rattle.recover_expr.specs.Lists.{value_count}
use Rattle.recover_expr.specs.Reading.{as_over}
use Rattle.recover_expr.specs.Situation.{Function, Situation, place_in_step}
use Rattle.scheme.specs.Expressions.{Target}
use Rattle.scheme.specs.declared.making.Active.{Active}
use Rattle.scheme_stands.specs.Lists.{AdjustAt}
use Rattle.scheme_stands.specs.Relation.{all_related}
use Rattle.scheme_stands.specs.Statements.{AssignAt, StoresBy}
use Rattle.scheme_stands.specs.Words.{Fn, Spot}
use Rattle.reads_back.specs.Acted.{Acted, AreTargets, AreValues, AreWithOperand, Assigned, Assigns, EndWithOperand, IsActed, all_named_behind, assigned, is_part, last_target, some_missing, taken_behind_act, taken_behind_last, taken_behind_targets, values_assigned, function_in}
use Rattle.reads_back.specs.Cores.{AreCores, ends_open}
use Rattle.reads_back.proofs.ActsRead.{ActRead, CanAct, can_now}
use Rattle.reads_back.proofs.AdjustedComes.{some_related}
use Rattle.reads_back.proofs.AdjustedEntries.{count_last}
use Rattle.reads_back.proofs.AdjustedWords.{adjust_begins, adjust_fits, adjust_forward, next_fit}
use Rattle.reads_back.proofs.AssignedComes.{AssignedComes, assigned_come}
use Rattle.reads_back.proofs.AssignmentsRead.{turn_acts}
use Rattle.reads_back.proofs.BehindWords.{HasLocals, behind_words, quiet_same, same_then, locals_then}
use Rattle.reads_back.proofs.Comes.{IsOver, IsWanted}
use Rattle.reads_back.proofs.CopiesCome.{copies_lead}
use Rattle.reads_back.proofs.EachStored.{AllStored, EachAt, all_said, all_stored, destinations_of, each_at}
use Rattle.reads_back.proofs.FirstStores.{Follows, ValueStands, first_no_item, follows_words, over_same}
use Rattle.reads_back.proofs.GlobalTargets.{HaveGlobals, each_globals, stored_globals}
use Rattle.reads_back.proofs.GivenLists.{AllCome}
use Rattle.reads_back.proofs.LastStored.{Begun, GoesTo, LastStored, last_stored, store_reads}
use Rattle.reads_back.proofs.NameReads.{AreListed}
use Rattle.reads_back.proofs.PartsUsed.{all_there_length}
use Rattle.reads_back.proofs.Reaches.{Reaches, reaches_on, reaches_then}
use Rattle.reads_back.proofs.Said.{can_say}
use Rattle.reads_back.proofs.SeveralValues.{wanted_come}
use Rattle.reads_back.proofs.StoredTargets.{AreThere, Destination, IsThere, StoreWordsAt, first_stored, parts_used, seen_with, seen_with_all, target_to, targets_to, used_by_all}
use Rattle.reads_back.proofs.StoresRead.{IsInStep}
use Rattle.reads_back.proofs.Taking.{operand_taken_later, values_taken_later}
use Rattle.reads_back.proofs.TargetsCome.{AreSaid, ReadsTargets, TargetsCome, targets_come, targets_lead}
use Rattle.reads_back.proofs.TargetsStand.{copies_stand, targets_count}
use Rattle.reads_back.proofs.TargetsStored.{count_words, register_turn, store_keeps, targets_end, there_last, words_keep}
use Rattle.reads_back.proofs.TargetsWanted.{store_next, first_reads, is_below, last_wants, copies_fit, targets_fit, fronts, last_read, front_on, last_on, others_on, each_forward, each_wants}
use Rattle.reads_back.proofs.Tests.{and_not, not_so}
use Rattle.reads_back.proofs.ValueWords.{next_free}
use Rattle.reads_back.proofs.WordsBegin.{begins_wants, reads_want}
use Rattle.reads_back.proofs.WordsRead.{IsFunction, IsQuiet, quiet_before, quiet_from}

-- ---- several targets, the last one by itself

count_targets : (ds : List Destination) (d : Destination) → length (targets_to (ds ++ d ∷ [])) ≡ suc (length ds)
count_targets [] d = refl
count_targets (b ∷ ds) d = ap suc (count_targets ds d)

ends_as : (ds : List Destination) (d : Destination) → last_target (targets_to (ds ++ d ∷ [])) ≡ Some (target_to d)
ends_as [] d = refl
ends_as (b ∷ []) d = refl
ends_as (b ∷ c ∷ ds) d = ends_as (c ∷ ds) d

no_length : {A : Type 0} (xs : List A) → length xs ≡ 0 → xs ≡ []
no_length [] none = refl
no_length (x ∷ xs) none = absurd (omega (arith, none))

seen_with_last : (ds : List Destination) (d : Destination) (n : ℕ) → seen_with_all (ds ++ d ∷ []) n ≡ seen_with_all ds (seen_with d n)
seen_with_last [] d n = refl
seen_with_last (b ∷ ds) d n = ap (seen_with b) (seen_with_last ds d n)

all_counted : (g : Fn) (places : List Target) (ds : List Destination) → AreSaid g places ds → length places ≡ length ds
all_counted g [] [] said = refl
all_counted g (place ∷ places) (d ∷ ds) said = ap suc (all_counted g places ds said.1)
all_counted g [] (d ∷ ds) said = absurd said
all_counted g (place ∷ places) [] said = absurd said

-- what was taken before counts the same behind
last_taken_later : (last : Option OperandValue) (n m : ℕ) → taken_behind_last last (max n m) ≡ max (taken_behind_last last n) m
last_taken_later None n m = refl
last_taken_later (Some o) n m = operand_taken_later o n m

-- ---- which values are written, and that several are no function alone

as_many : (count : ℕ) (target : Option TargetValue) (is_open : Bool) (values : Values) → value_count values ≡ count → values_assigned count target is_open values ≡ record { values = values; all = true; last = None }
as_many count target is_open values same =
    let missing = some_missing (suc (value_count values) == count) target values in
    ap (λ fewer. if not is_open && fewer then missing else record { values = values; all = true; last = None }) (le-ltb (value_count values) count (omega (arith, same)))
    ∙ ap (λ fewer. if fewer then missing else record { values = values; all = true; last = None }) (and_not (not is_open))

several_plain : (entries : Entries) → 1 < length entries → stored_function None entries ≡ None
several_plain [] several = absurd (omega (arith, several))
several_plain (entry ∷ []) several = absurd (omega (arith, several))
several_plain (value_entry v ∷ other ∷ entries) several = refl
several_plain (entry ∷ other ∷ entries) several = refl

-- as many entries as targets or values, which are not as many
several_there : (targets values entries : ℕ) → 0 < targets → 0 < values → values ≢ targets → targets ≤ entries → values ≤ entries → 1 < entries
several_there (suc zero) (suc zero) entries some given other enough each = absurd (other refl)
several_there zero values entries some given other enough each = absurd (omega (arith, some))
several_there targets zero entries some given other enough each = absurd (omega (arith, given))
several_there (suc (suc targets)) values entries some given other enough each = omega (arith, enough)
several_there targets (suc (suc values)) entries some given other enough each = omega (arith, each)

some_values : (g : Fn) (active : List Active) (es : Expressions) (before behind : ℕ) (vs : Values) → AreCores g active es before behind vs → has_expressions es ≡ true → 0 < value_count vs
some_values g active no_expressions before behind vs are given = not_so given
some_values g active (syntax.expression e es) before behind vs (mid, (first, rest, is_first, are_rest, is)) given = omega (arith, ap value_count is)

several_in : (vs : Values) → 1 < value_count vs → function_in vs None ≡ None
several_in no_values several = absurd (omega (arith, several))
several_in (and_value v no_values) several = absurd (omega (arith, several))
several_in (and_value v (and_value w vs)) several = refl

-- several values for one target are written
several_written : (count : ℕ) (target : Option TargetValue) (is_open : Bool) (values : Values) (to : Assigned) → count ≡ 1 → 1 < value_count values → values_assigned count target is_open values ≡ to → function_in to.values to.last ≡ None
several_written count target is_open values to one several is =
    let missing = some_missing (suc (value_count values) == count) target values in
    let written : Bool → Assigned = λ fewer. if fewer then missing else record { values = values; all = true; last = None } in
    let all : values_assigned count target is_open values ≡ record { values = values; all = true; last = None } =
    ap (λ fewer. written (not is_open && fewer)) (le-ltb (value_count values) count (omega (arith, one, several))) ∙ ap written (and_not (not is_open)) in
    ap (λ (to : Assigned). function_in to.values to.last) (sym is ∙ all) ∙ several_in values several

-- ---- behind the targets

module _ {f : Function} {g : Fn} {active : List Active} {listed : List ℕ} {lefts : ℕ → List (Option Inner)} (is_function : IsFunction f g) (all : AreListed f g active listed) (targets es : Expressions) (assigns : Assigns targets es) (few : depth_of_expressions es ≤ 199)
    (can : CanAct f g active listed lefts (assignment targets es)) (places : List Target) (s : Situation) (locals : HasLocals active listed s) (empty : s.entries ≡ []) (free : ℕ) (low : free ≤ 250) (p last q : Spot) (left_is : s.left ≡ lefts p.functions) (quiet : IsQuiet f s.scope p.pc q.pc) (over : IsOver f s.scope s.base q.pc)
    (come : TargetsCome f g active listed targets p.functions last.functions places s free p.pc last.pc) where
  abbrev there : Situation
  there = record s { scope = come.scope; entries = come.parts; seen = come.seen }

  locals_there : HasLocals active listed there
  locals_there = locals_then come.same locals

  reached : Reaches f p.pc s last.pc there
  reached = subst (λ (entries : Entries). Reaches f p.pc s last.pc (record s { scope = come.scope; entries = entries ++ come.parts; seen = come.seen })) empty come.reaches

  quiet_there : IsQuiet f there.scope last.pc q.pc
  quiet_there = quiet_same come.same (quiet_from last.pc (reaches_on come.reaches) quiet)

  next : free ≡ next_free there
  next = omega (arith, come.counts, locals.base)

  module _ (ds : List Destination) (d : Destination) (is : come.ds ≡ ds ++ d ∷ []) where
    stand : AreThere f (length active) listed come.parts (ds ++ d ∷ []) come.behind
    stand = subst (λ (ds : List Destination). AreThere f (length active) listed come.parts ds come.behind) is come.there

    last_stands : (mid : Entries) × AreThere f (length active) listed come.parts ds mid × IsThere f (length active) listed mid d come.behind
    last_stands = there_last f (length active) listed ds d come.parts come.behind stand

    mid_length : length last_stands.0 ≡ length come.parts
    mid_length = all_there_length f (length active) listed come.parts last_stands.0 ds last_stands.1

    -- behind the first store
    follows : (others : ℕ) (mid : Spot) → length ds ≡ others → free + length ds ≤ 250 → StoreWordsAt g free ds mid q → Follows f there others d mid.pc
    follows others mid counts fit at =
        subst (λ (others : ℕ). Follows f there others d mid.pc) counts
        (follows_words is_function (length active) listed (length active) refl there ds d free mid q come.parts last_stands.0 locals.base last_stands.1 (omega (arith, come.counts)) fit at
        (subst (λ (base : ℕ). IsOver f there.scope base q.pc) locals.base (over_same s there come.same over)) (λ none. come.lowest d (is ∙ ap (λ (ds : List Destination). ds ++ d ∷ []) (no_length ds none))))

    taken : (to : Assigned) → taken_behind_act (assigned (targets_to (ds ++ d ∷ [])) to.values to.all to.last) s.seen ≡ seen_with_all ds (seen_with d (taken_behind_last to.last (taken_behind_values to.values come.seen)))
    taken to =
        let ts = targets_to come.ds in
        let behind : List TargetValue → ℕ = λ ts. all_named_behind ts (taken_behind_last to.last (taken_behind_values to.values (taken_behind_targets ts s.seen))) in
        let n = taken_behind_last to.last (taken_behind_values to.values come.seen) in
        ap (λ (ds : List Destination). behind (targets_to ds)) (sym is)
        ∙ ap (λ n. all_named_behind ts (taken_behind_last to.last (taken_behind_values to.values n))) come.taken
        ∙ ap (λ n. all_named_behind ts (taken_behind_last to.last n)) (values_taken_later to.values come.seen come.keys)
        ∙ ap (all_named_behind ts) (last_taken_later to.last (taken_behind_values to.values come.seen) come.keys)
        ∙ sym (come.named n)
        ∙ ap (λ (ds : List Destination). seen_with_all ds n) is
        ∙ seen_with_last ds d n

    -- the other stores, and the end
    targets_act : (to : Assigned) (mid : Spot) → AreWithOperand g active (targets_to (ds ++ d ∷ [])) es last.functions mid.functions to ⊎ AreValues g active (targets_to (ds ++ d ∷ [])) es last.functions mid.functions to →
        StoreWordsAt g free ds mid q → mid.pc ≤ q.pc → free + length ds ≤ 250 → Begun f (length active) there (length ds) d to last.pc mid.pc → ActRead f g active (assignment targets es) p.functions q.functions s p.pc q.pc
    targets_act to mid values at on fit begun =
        let acted : Acted = assigned (targets_to (ds ++ d ∷ [])) to.values to.all to.last in
        let acts : IsActed g active (assignment targets es) p.functions mid.functions acted = (last.functions, subst (λ (ds : List Destination). AreTargets g active targets p.functions last.functions (targets_to ds)) is come.are, values) in
        let u = record there { scope = begun.scope; entries = come.parts ++ begun.values; seen = seen_with d (taken_behind_last to.last (taken_behind_values to.values come.seen)) } in
        let step : IsInStep f (length active) listed u = record { base = locals.base; places = begun.same.active ∙ locals_there.places } in
        let can_there : can_say (place_in_step f u) s.left acted ≡ true = subst (λ (listed : List ℕ). can_say (place f.of listed f.short) s.left acted ≡ true) (sym step.places) (can_now can mid.functions acted left_is acts) in
        let used = subst (λ (ds : List Destination). used_by_all (length active) ds (replicate (length come.parts) false) ≡ replicate (length come.parts) true) is come.used in
        let ends = targets_end is_function ds d begun.pc begun.straight begun.used to come.parts begun.values come.behind mid q u step refl stand used begun.enough (omega (arith, fit, come.counts))
        (subst (λ (free : ℕ). StoreWordsAt g free ds mid q) come.counts at) quiet.within begun.writes (λ none. begun.function (ap length none)) can_there in
        subst (λ (made : ℕ). ActRead f g active (assignment targets es) p.functions made s p.pc q.pc) (sym (words_keep g free ds mid q at))
        (turn_acts acted begun.scope (seen_with_all ds u.seen) come.behind refl acts (same_then come.same begun.same) (taken to) (reaches_then reached begun.reaches) (omega (arith, begun.later, on)) (begun.turn ∙ ap (option_map as_over) ends))

  -- as many values as targets
  module _ (at : EachAt g active come.ds es free last q) where
    abbrev first_above : ℕ
    first_above = free + length (all_related g at.front)

    abbrev stands : (mid : Entries) × AreThere f (length active) listed come.parts at.vs mid × IsThere f (length active) listed mid at.to come.behind
    stands = last_stands at.vs at.to at.is

    above_low : first_above ≤ 250
    above_low = next_fit g active is_function.few at.front free last at.mid low at.parts.front_at

    to_stored : at.mid.pc ≤ at.stored.pc
    to_stored = omega (arith, last_on is_function all es few come.ds free last q at)

    to_end : at.stored.pc ≤ q.pc
    to_end = others_on is_function all es few come.ds free last q at

    -- the first store of the others reads a register
    front_wanted : length (all_related g at.front) ≡ 1 → IsWanted f there at.mid.pc
    front_wanted only =
        let reads = first_reads is_function there.base at.vs (omega (arith, at.counts, only)) free at.stored q (omega (arith, next)) (omega (arith, above_low, at.counts)) at.others_at in
        let below = is_below f (length active) listed stands.0 come.behind at.place at.to at.fits stands.2 in
        let from = front_on is_function all es few come.ds free last q at in
        let stays = λ (pc : ℕ) (above : at.mid.pc ≤ pc) (most : pc ≤ at.stored.pc). quiet_there.stays pc (omega (arith, from, above)) (omega (arith, most, reads.1)) in
        last_wants is_function all at.last at.parts.has_last (omega (arith, few, at.parts.shallow_last)) there locals_there at.stored (omega (arith, reads.1, quiet.within)) reads.0
        first_above (λ none. omega (arith, next, only, none)) at.mid stays at.place below at.last_at

    front_come : AllCome f (AreCores g active at.front last.functions at.mid.functions) 200 there (length (all_related g at.front)) last.pc at.mid.pc
    front_come =
        wanted_come f g active listed 200 at.front (fronts is_function all es few come.ds free last q at) free last at.mid there locals_there next (quiet_before at.mid.pc (omega (arith, to_stored, to_end)) quiet_there) front_wanted at.parts.front_at

    abbrev ts : List TargetValue
    ts = targets_to (at.vs ++ at.to ∷ [])

    last_goes : LastStored f g active at.last at.mid.functions at.stored.functions at.to there (length (all_related g at.front)) front_come.values last.pc at.stored.pc
    last_goes =
        last_stored is_function all at.place at.to at.said at.fits at.last (last_read is_function all es few come.ds free last q at) there stands.0 come.behind first_above at.mid at.stored locals_there stands.2 (mid_length at.vs at.to at.is)
        (follows at.vs at.to at.is (length (all_related g at.front)) at.stored (sym at.counts) (omega (arith, above_low, at.counts)) at.others_at) front_come
        (omega (arith, come.counts)) above_low (quiet_from at.mid.pc (front_on is_function all es few come.ds free last q at) (quiet_before at.stored.pc to_end quiet_there)) at.last_at

    values_are : (vs : Values) (to : Assigned) → AreCores g active at.front last.functions at.mid.functions vs → value_count vs ≡ length at.vs → GoesTo g active at.last at.to vs at.mid.functions at.stored.functions to →
        AreWithOperand g active ts es last.functions at.stored.functions to ⊎ AreValues g active ts es last.functions at.stored.functions to
    values_are vs to are counts (inl goes) =
        let values = and_last_value vs goes.1 in
        let count : value_count values ≡ length ts = omega (arith, count_last vs goes.1, counts, count_targets at.vs at.to) in
        inr (values, at.parts.cores last.functions at.mid.functions at.stored.functions vs goes.1 are goes.2, ap (λ part. part && (value_count values == length ts)) (ap is_part (ends_as at.vs at.to) ∙ goes.0), as_many (length ts) (last_target ts) (ends_open es) values count ∙ sym goes.3)
    values_are vs to are counts (inr goes) =
        inl (
          ap is_part (ends_as at.vs at.to) ∙ goes.0,
          ap (λ (to : Assigned). suc (value_count to.values)) goes.3 ∙ ap suc counts ∙ sym (count_targets at.vs at.to),
          goes.1,
          subst (λ (to : Assigned). EndWithOperand g active es goes.1 last.functions at.stored.functions to.values) (sym goes.3) (at.operand last.functions at.mid.functions at.stored.functions vs goes.1 are goes.2),
          ap (λ (to : Assigned). to.all) goes.3,
          ap (λ (to : Assigned). to.last) goes.3,
        )

    each_acts : ActRead f g active (assignment targets es) p.functions q.functions s p.pc q.pc
    each_acts =
        let front = front_come in
        let one = last_goes in
        let begun = subst (λ (n : ℕ). Begun f (length active) there n at.to one.to last.pc at.stored.pc) at.counts one.begun in
        targets_act at.vs at.to at.is one.to at.stored (values_are front.values one.to front.are (front.counts ∙ at.counts) one.goes) at.others_at to_end (omega (arith, above_low, at.counts)) begun

  -- fewer values or more
  module _ (mid : Spot) (stores : AllStored g come.ds free mid q) (adjust : AdjustAt g (all_related g es) (suc (length stores.front)) active free last mid) (other : length (all_related g es) ≢ suc (length stores.front)) where
    abbrev others : ℕ
    others = length stores.front

    all_low : free + suc others ≤ 250
    all_low = adjust_fits g active is_function.few es (suc others) free last mid low adjust

    values_on : last.pc ≤ mid.pc
    values_on = adjust_forward is_function all es assigns.values (omega (arith, few)) assigns.given (suc others) free last mid adjust

    store_on : stores.mid.pc ≡ suc mid.pc
    store_on = store_next is_function stores.last (free + others) mid stores.mid stores.first_at

    stores_on : stores.mid.pc ≤ q.pc
    stores_on = omega (arith, count_words g free stores.front stores.mid q stores.others_at)

    values_come : AssignedComes f g active es last.functions mid.functions there stores.last (suc others) last.pc mid.pc
    values_come =
        let stay = quiet_there.stays mid.pc values_on (omega (arith, store_on, stores_on)) in
        let wanted = reads_want f mid.pc there stay (store_reads there.base stores.last (free + others) mid stores.mid is_function (omega (arith, next)) (omega (arith, all_low)) stores.first_at) in
        assigned_come is_function all es assigns.values assigns.given (omega (arith, few)) stores.last (suc others) free last mid there other locals_there next (quiet_before mid.pc (omega (arith, store_on, stores_on)) quiet_there) wanted adjust

    first_begins : (values : AssignedComes f g active es last.functions mid.functions there stores.last (suc others) last.pc mid.pc) → Begun f (length active) there others stores.last values.to last.pc stores.mid.pc
    first_begins values =
        let d = stores.last in
        let stand = last_stands stores.front d stores.is in
        let size = mid_length stores.front d stores.is in
        let u = behind_words values.scope values.seen values.entries there in
        let step : IsInStep f (length active) listed u = record { base = locals.base; places = values.same.active ∙ locals_there.places } in
        let value : ValueStands u.base (length come.parts + others) (free + others) u.entries = inr (omega (arith, come.counts, locals.base), omega (arith, all_low)) in
        let none = first_no_item step there d others mid.pc stores.mid.pc (free + others) stand.0 come.behind values.entries stand.2 size refl values.same refl store_on
        (follows stores.front d stores.is others stores.mid refl (omega (arith, all_low)) stores.others_at) value in
        let within : length stand.0 + others < length (come.parts ++ values.entries) = omega (arith, size, values.enough, length-append come.parts values.entries) in
        record {
          pc = mid.pc;
          before = u;
          reaches = values.reaches;
          later = omega (arith, store_on);
          scope = values.scope;
          same = values.same;
          values = values.entries;
          straight = None;
          used = true ∷ [];
          turn =
              register_turn is_function d others (free + others) q.pc stand.0 come.behind mid stores.mid u step stand.2 none within (omega (arith, come.counts, size)) (omega (arith, all_low))
              (quiet_same values.same (quiet_from mid.pc values_on quiet_there)) stores_on stores.first_at
              ∙ ap₂ (λ (n seen : ℕ). option_map as_over (assigned_from f None stores.mid.pc (record u { seen = seen_with d seen }) (first_stored mid.pc d (parts_used (length active) n d) others (true ∷ [])))) size (sym values.taken);
          enough = omega (arith, values.enough);
          writes = values.writes;
          function = λ none.
              several_plain values.entries (several_there (suc others) (length (all_related g es)) (length values.entries) (omega arith) (some_related g es assigns.given) other values.enough values.each)
              ∙ sym (several_written (suc others) (Some (target_to d)) (ends_open es) values.from values.to (ap suc none) (omega (arith, values.other, none, some_values g active es last.functions mid.functions values.from values.are assigns.given)) values.written);
        }

    adjusted_acts : ActRead f g active (assignment targets es) p.functions q.functions s p.pc q.pc
    adjusted_acts =
        let values = values_come in
        let ts = targets_to (stores.front ++ stores.last ∷ []) in
        let count = count_targets stores.front stores.last in
        let fewer : (is_part (last_target ts) && (value_count values.from == length ts)) ≡ false =
        ap (λ same. is_part (last_target ts) && same) (ne_eqb (value_count values.from) (length ts) (λ same. values.other (same ∙ count))) ∙ and_not (is_part (last_target ts)) in
        let written = ap₂ (λ (n : ℕ) (target : Option TargetValue). values_assigned n target (ends_open es) values.from) count (ends_as stores.front stores.last) ∙ values.written in
        let are = subst (λ (made : ℕ). AreCores g active es last.functions made values.from) (sym (store_keeps stores.last (free + others) mid stores.mid stores.first_at)) values.are in
        targets_act stores.front stores.last stores.is values.to stores.mid (inr (values.from, are, fewer, written)) stores.others_at stores_on (omega (arith, all_low)) (first_begins values)

-- ---- all words

module _ {f : Function} {g : Fn} {active : List Active} {listed : List ℕ} (is_function : IsFunction f g) (all : AreListed f g active listed) (targets es : Expressions) (assigns : Assigns targets es) (reads : ReadsTargets f g active listed targets)
    (few : depth_of_expressions es ≤ 199) where
  some_targets : 0 < length (all_related g targets)
  some_targets = some_related g targets assigns.some

  module _ (p q : Spot) (at : AssignAt g (all_related g targets) (all_related g es) active p q) where
    counts : length at.places ≡ length (all_related g targets)
    counts = (copies_stand g (length active) at.parts at.places at.free1 at.free2 at.mid at.last at.copies_at).0 ∙ targets_count g active targets at.parts (length active) at.free1 p at.mid at.targets_at

    some_places : 0 < length at.places
    some_places = omega (arith, counts, some_targets)

    low : at.free2 ≤ 250
    low = copies_fit g is_function.few (length active) at.parts at.places at.free1 at.free2 at.mid at.last (targets_fit is_function all targets assigns.targets reads at.parts (length active) at.free1 p at.mid at.targets_at all.few) at.copies_at

    values_forward : (as_many : Bool) → (length (all_related g es) == length (all_related g targets)) ≡ as_many → StoresBy as_many g at.places (all_related g es) active at.free2 at.last q → at.last.pc < q.pc
    values_forward true same stores = each_forward is_function all at.places es assigns.values few some_places (eqb-true _ _ same ∙ sym counts) at.free2 at.last q stores
    values_forward false other stores =
        let words = all_stored g at.places (destinations_of g at.places) (all_said g at.places) some_places at.free2 stores.mid q stores.second_at in
        omega (
          arith,
          adjust_forward is_function all es assigns.values (omega (arith, few)) assigns.given (length at.places) at.free2 at.last stores.mid stores.first_at,
          store_next is_function words.last (at.free2 + length words.front) stores.mid words.mid words.first_at,
          count_words g at.free2 words.front words.mid q words.others_at,
        )

    on : at.last.pc < q.pc
    on = values_forward (length (all_related g es) == length (all_related g targets)) refl at.stores_at

    are_globals : (as_many : Bool) → (length (all_related g es) == length (all_related g targets)) ≡ as_many → StoresBy as_many g at.places (all_related g es) active at.free2 at.last q → HaveGlobals g at.places
    are_globals true same stores = each_globals g at.places (all_related g es) active at.free2 at.last q (eqb-true _ _ same ∙ sym counts) stores
    are_globals false other stores = stored_globals g at.free2 at.places stores.mid q stores.second_at

    module _ (s : Situation) (locals : HasLocals active listed s) (quiet : IsQuiet f s.scope p.pc q.pc) where
      to_last : p.pc ≤ at.last.pc
      to_last =
          let to_mid = targets_lead is_function all targets assigns.targets reads at.parts (length active) at.free1 p at.mid at.targets_at in
          let on = copies_lead is_function (length active) at.parts at.places at.free1 at.free2 at.mid at.last at.copies_at in
          omega (arith, to_mid.forward, on.forward)

      -- the lowest register is wanted behind the targets
      are_wanted : (as_many : Bool) → (length (all_related g es) == length (all_related g targets)) ≡ as_many → StoresBy as_many g at.places (all_related g es) active at.free2 at.last q → at.free2 ≡ suc (length active) → IsWanted f s at.last.pc
      are_wanted true same stores more =
          each_wants is_function all targets es assigns.targets reads assigns.values few some_targets (eqb-true _ _ same) s locals at.parts at.places at.free1 at.free2 p at.mid at.last q counts at.targets_at at.copies_at more (quiet_from at.last.pc to_last quiet) stores
      are_wanted false other stores more =
          let words = all_stored g at.places (destinations_of g at.places) (all_said g at.places) some_places at.free2 stores.mid q stores.second_at in
          let within : stores.mid.pc ≤ f.last = omega (arith, store_next is_function words.last (at.free2 + length words.front) stores.mid words.mid words.first_at, count_words g at.free2 words.front words.mid q words.others_at, quiet.within) in
          begins_wants s (quiet.stays at.last.pc to_last on) (adjust_begins is_function all es assigns.values (omega (arith, few)) assigns.given (length at.places) at.free2 at.last stores.mid within stores.first_at) (λ none. omega (arith, more, locals.base))

      come : s.entries ≡ [] → TargetsCome f g active listed targets p.functions at.last.functions at.places s at.free2 p.pc at.last.pc
      come empty =
          targets_come is_function all targets assigns.targets reads at.parts at.places at.free1 at.free2 p at.mid at.last s locals empty (quiet_before at.last.pc (omega (arith, on)) quiet) (quiet.stays at.last.pc to_last on, are_wanted _ refl at.stores_at) (are_globals _ refl at.stores_at) at.targets_at at.copies_at

      module _ {lefts : ℕ → List (Option Inner)} (can : CanAct f g active listed lefts (assignment targets es)) (left_is : s.left ≡ lefts p.functions) (empty : s.entries ≡ []) (over : IsOver f s.scope s.base q.pc) where
        by_count : (as_many : Bool) → (length (all_related g es) == length (all_related g targets)) ≡ as_many → StoresBy as_many g at.places (all_related g es) active at.free2 at.last q → ActRead f g active (assignment targets es) p.functions q.functions s p.pc q.pc
        by_count true same stores =
            let targets_there = come empty in
            let each = each_at g active at.places targets_there.ds es targets_there.said targets_there.fit assigns.values some_places (eqb-true _ _ same ∙ sym counts) at.free2 at.last q stores in
            each_acts is_function all targets es assigns few can at.places s locals empty at.free2 low p at.last q left_is quiet over targets_there each
        by_count false other stores =
            let targets_there = come empty in
            let words = all_stored g at.places targets_there.ds targets_there.said some_places at.free2 stores.mid q stores.second_at in
            let count : length at.places ≡ suc (length words.front) = all_counted g at.places targets_there.ds targets_there.said ∙ ap length words.is ∙ length-append words.front (words.last ∷ []) ∙ add-one (length words.front) in
            adjusted_acts is_function all targets es assigns few can at.places s locals empty at.free2 low p at.last q left_is quiet over targets_there stores.mid words
            (subst (λ (count : ℕ). AdjustAt g (all_related g es) count active at.free2 at.last stores.mid) count stores.first_at)
            (λ same. not_so (sym other ∙ eq-eqb _ _ (same ∙ sym count ∙ counts)))

  pub assignment_read : {lefts : ℕ → List (Option Inner)} → CanAct f g active listed lefts (assignment targets es) → (p q : Spot) (s : Situation) → HasLocals active listed s → s.left ≡ lefts p.functions → s.entries ≡ [] → s.taken ≡ s.seen → IsQuiet f s.scope p.pc q.pc → IsOver f s.scope s.base q.pc →
      AssignAt g (all_related g targets) (all_related g es) active p q → ActRead f g active (assignment targets es) p.functions q.functions s p.pc q.pc
  assignment_read can p q s locals left_is empty taken quiet over at = by_count p q at s locals quiet can left_is empty over _ refl at.stores_at
