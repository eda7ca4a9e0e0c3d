-- Where the words of a step are read no local starts but its own, which start behind its words, or where the head of a loop has its last word.
use Rattle.std.proofs.Common.{leb-true, ◌≡◌, ◌≤◌, ℕ, zero, suc, ◌+◌, ◌-◌, Bool, true, false, List, [], ◌∷◌, ◌++◌, drop, length, refl, sym, ap, ap₂, ◌∙◌, arith, subst, le-leb, if◌then◌else◌, ◌<◌}
use Rattle.std.proofs.Math.Seq.{drop-append_seam}
use Rattle.std.proofs.lemmas.Bool.{ne_eqb}
use Rattle.std.proofs.lemmas.List.{length-map}
use Rattle.std.proofs.lemmas.Option.{slice_get-map}
use Rattle.std.specs.List.{prefix_len}
use Rattle.std.specs.Prelude.{◌==◌, not, None, Option, Some, option_and_then, option_map, replicate, slice_get}
use Rattle.lua_num.specs.Bytes.{Text}
use Rattle.lua_tree.specs.Names.{are_some_names}
use Rattle.lua_tree.specs.Syntax.{Expressions, Statements}
use Rattle.proto.specs.declared.parts.LocVar.{LocVar}
use Rattle.recover_expr.specs.Drafts.{Part, head_part}
use Rattle.recover_expr.specs.Locals.{Scope, end_of, ends_within, innermost_end, starting, is_over}
use Rattle.recover_expr.specs.Placing.{Steps}
use Rattle.recover_expr.specs.Situation.{Function}
use Rattle.recover_expr.specs.declared.steps.StepKind.{StepKind}
use Rattle.scheme.specs.Making.{Ahead, Maker, active_count}
use Rattle.scheme.specs.declared.making.Active.{Active}
use Rattle.scheme_stands.specs.Words.{Fn}
use Rattle.same_flow.specs.Listed.{all_entries, before_place, entries_by, entries_from, entries_of, entries_where, hidden_texts, names_declared}
use Rattle.same_flow.specs.Performed.{Performance, ends_of, kind_at, part_at}
use Rattle.same_flow.proofs.Followed.{EndBy, LastTo, append_again, length_both}
use Rattle.same_flow.proofs.LocalsListed.{all_end, locals_listed, parted_at}
use Rattle.same_flow.proofs.LocalsListed as listed
use Rattle.same_flow.proofs.StatementsTold.{run}
use Rattle.reads_back.specs.Placed.{listed_before}
use Rattle.reads_back.proofs.DeclarationsRead.{StartHere}
use Rattle.reads_back.proofs.EndsFall.{Falling, before_ends, ends_fall, last_of_all}
use Rattle.reads_back.proofs.FlowThere.{IsFlowBy, StepIs, before_at, few_now, made_at, pcs}
use Rattle.reads_back.proofs.HeadsRead.{LoopStarts}
use Rattle.reads_back.proofs.LocalsLeave.{end_there, last_there, listed_of}
use Rattle.reads_back.proofs.LoopsStarting.{hidden_locals, loop_starts, row_starts, variable_locals}
use Rattle.reads_back.proofs.PlacedEnds.{length_entries}
use Rattle.reads_back.proofs.PlacedFlow.{three_hidden}
use Rattle.reads_back.proofs.PlacedLocals.{count_before, kind_adds}
use Rattle.reads_back.proofs.SomeNames.{good_names, some_names}
use Rattle.reads_back.proofs.StartingLocals.{StartFrom, start_both, start_later}
use Rattle.reads_back.proofs.StepsGrow.{pcs_grow}
use Rattle.reads_back.proofs.Tests.{not_below}
use Rattle.reads_back.proofs.WordsRead.{IsQuiet}

-- what ends no earlier than at a pc is not over before it
stays_before : (outer : Option ℕ) (end pc : ℕ) → ends_within outer end ≡ true → pc < end → not (is_over pc outer) ≡ true
stays_before None end pc within before = refl
stays_before (Some outer) end pc within before = let later : end ≤ outer = leb-true end outer within in ap not (not_below pc outer (omega (arith, later, before)))

-- ---- entries that start later

pub none_begin : (pc : ℕ) (entries : List LocVar) → StartFrom (suc pc) entries → prefix_len (λ (entry : LocVar). entry.start == pc) entries ≡ 0
none_begin pc [] all = refl
none_begin pc (entry ∷ entries) all =
    let here = all.0 in
    ap (λ here. if here then 1 + prefix_len (λ (entry : LocVar). entry.start == pc) entries else 0) (ne_eqb entry.start pc (λ same. omega (arith, here, same)))

pub row_from : (pc start end : ℕ) (texts : List Text) → pc ≤ start → StartFrom pc (entries_of start end texts)
row_from pc start end [] before = tt
row_from pc start end (text ∷ texts) before = (before, row_from pc start end texts before)

entries_both : (code : Steps) (pcs : ℕ → ℕ) (count more at : ℕ) → entries_from code pcs at (count + more) ≡ entries_from code pcs at count ++ entries_from code pcs (at + count) more
entries_both code pcs zero more at = ap₂ (entries_from code pcs) (let same : at ≡ at + 0 = omega arith in same) (let same : 0 + more ≡ more = omega arith in same)
entries_both code pcs (suc count) more at =
    let first = entries_where pcs at (kind_at code.steps at) (part_at code at) in
    ap (entries_from code pcs at) (let same : suc count + more ≡ suc (count + more) = omega arith in same)
    ∙ ap (λ (rest : List LocVar). first ++ rest) (entries_both code pcs count more (suc at) ∙ ap (λ n. entries_from code pcs (suc at) count ++ entries_from code pcs n more) (let same : suc at + count ≡ at + suc count = omega arith in same))
    ∙ sym (append_again first (entries_from code pcs (suc at) count) (entries_from code pcs (at + suc count) more))

module _ {Left : Type 0} {f : Function} {g : Fn} {z : Maker} {code : Steps} {params names : List Text} {ahead : Ahead} {block : Statements} (of : IsFlowBy Left f g z code params names ahead block) where
  -- the entries of the steps from one on
  abbrev pub from_at : ℕ → List LocVar
  from_at at = entries_from code (pcs of) at (length code.steps - at)

  -- these are listed next
  next_entries : (at : ℕ) → at ≤ length code.steps → drop (listed_before code params names ahead at) f.of.locals ≡ from_at at
  next_entries at most =
      let last = length code.steps in
      let parameters = entries_of 0 (pcs of last) params in
      let before = entries_from code (pcs of) 0 at in
      let count : last ≡ at + (last - at) = omega (arith, most) in
      let all : f.of.locals ≡ (parameters ++ before) ++ from_at at =
      of.listed ∙ ap (λ (entries : List LocVar). parameters ++ entries) (ap (entries_from code (pcs of) 0) count ∙ entries_both code (pcs of) at (last - at) 0 ∙ ap (λ n. before ++ entries_from code (pcs of) n (last - at)) (let same : 0 + at ≡ at = omega arith in same))
      ∙ sym (append_again parameters before (from_at at)) in
      let front : listed_before code params names ahead at ≡ length (parameters ++ before) = sym (length_both parameters before ∙ ap (λ n. n + length before) (length_entries 0 (pcs of last) params)) in
      ap₂ (λ n (entries : List LocVar). drop n entries) front all ∙ drop-append_seam (parameters ++ before) (from_at at)

  -- where they start later none starts at a pc
  pub none_here : (at pc : ℕ) → at ≤ length code.steps → StartFrom (suc pc) (from_at at) → (scope : Scope) → length scope.declared ≡ listed_before code params names ahead at → starting f.of.locals pc scope ≡ 0
  none_here at pc most later scope declared =
      ap (prefix_len (λ (entry : LocVar). entry.start == pc)) (ap (λ n. drop n f.of.locals) declared ∙ next_entries at most) ∙ none_begin pc (from_at at) later

  module _ (at : ℕ) (kind : StepKind) (part : Part) (is : StepIs of at kind part) where
    abbrev pub own_entries : List LocVar
    own_entries = entries_by (pcs of) at kind part

    pub from_next : from_at at ≡ own_entries ++ from_at (suc at)
    from_next =
        let less = is.within in
        ap (entries_from code (pcs of) at) (let same : length code.steps - at ≡ suc (length code.steps - suc at) = omega (arith, less) in same)
        ∙ ap₂ (λ (kind : Option StepKind) (part : Option Part). entries_where (pcs of) at kind part ++ from_at (suc at)) is.there is.part_there

    -- they are behind those that are declared
    next_are : (scope : Scope) → length scope.declared ≡ listed_before code params names ahead at → drop (length scope.declared) f.of.locals ≡ own_entries ++ from_at (suc at)
    next_are scope declared = let less = is.within in ap (λ n. drop n f.of.locals) declared ∙ next_entries at (omega (arith, less)) ∙ from_next

    -- they are listed before the next step
    pub listed_next : listed_before code params names ahead (suc at) ≡ listed_before code params names ahead at + length own_entries
    listed_next =
        let where_is : length (entries_where (pcs of) at (kind_at code.steps at) (part_at code at)) ≡ length own_entries = ap₂ (λ (kind : Option StepKind) (part : Option Part). length (entries_where (pcs of) at kind part)) is.there is.part_there in
        omega (
          arith,
          where_is,
          ap (λ (list : List LocVar). length list) (entries_both code (pcs of) at 1 0 ∙ ap (λ n. entries_from code (pcs of) 0 at ++ entries_from code (pcs of) n 1) (let zero_more : 0 + at ≡ at = omega arith in zero_more)),
          length_both (entries_from code (pcs of) 0 at) (entries_from code (pcs of) at 1),
          length_both (entries_where (pcs of) at (kind_at code.steps at) (part_at code at)) [],
          ap (λ n. length (entries_from code (pcs of) 0 n)) (let one_more : at + 1 ≡ suc at = omega arith in one_more),
        )

    -- as many locals become active as are listed
    pub count_new : active_count (made_at of at kind part) ≡ active_count (before_at of at) + length own_entries
    count_new =
        let less = is.within in
        let m = before_at of at in
        let adds = kind_adds code kind part (of.plain at part is.part_there) m in
        let listed = locals_listed code of.plain params names ahead block of.laid in
        let one = (listed.before at (omega (arith, less))).count in
        let two = (listed.before (suc at) (omega (arith, less))).count in
        let same = count_before code of.plain params names ahead (suc at) ∙ ap (λ (now : Performance). length now.maker.locals) is.makes in
        let more = adds.count in
        let both = ap (λ (active : List Active). length active) adds.active ∙ length_both m.active adds.new in
        let next = listed_next in
        omega (arith, one, two, same, more, both, next)

    -- so few are active behind the step
    pub few_behind : active_count (before_at of at) + length own_entries ≤ 250
    few_behind =
        let less = is.within in
        let few = few_now of (suc at) (omega (arith, less)) in
        let count = count_new in
        let same = ap (λ (now : Performance). length now.maker.active) is.makes in
        omega (arith, few, count, same)

    -- ---- what ends where

    -- the ends of the locals behind the step fall
    falls_behind : Falling ((before_place code params names ahead at).ends ++ ends_of kind (length own_entries))
    falls_behind =
        let less = is.within in
        let most : suc at ≤ length code.steps = omega (arith, less) in
        let known = listed.listed_to code of.plain params names ahead block of.laid (suc at) most in
        let count = count_new in
        let new : active_count (made_at of at kind part) - active_count (before_at of at) ≡ length own_entries = omega (arith, count) in
        subst Falling (ap (λ (now : Performance). now.ends) is.makes ∙ ap (λ n. (before_place code params names ahead at).ends ++ ends_of kind n) new)
        (ends_fall (run code params names ahead) (length code.steps) (parted_at code of.plain params names ahead block of.laid) (all_end code of.plain params names ahead block of.laid) (suc at) most known.lasts)

    -- the innermost local that is active before the step ends no earlier than all of them
    within_all : (end : ℕ) (scope : Scope) → scope.active ≡ listed_of (before_at of at).active → LastTo end (before_place code params names ahead at).ends → ends_within (innermost_end f.of.locals scope) (pcs of end) ≡ true
    within_all end scope active lasts =
        let all = all_entries code params names ahead in
        let before = (before_at of at).active in
        let place = length (listed_of before) - 1 in
        ap₂ (λ (entries : List LocVar) (active : List ℕ). ends_within (option_and_then (end_of entries) (slice_get active (length active - 1))) (pcs of end)) of.listed active
        ∙ ap (λ (found : Option ℕ). ends_within (option_and_then (end_of all) found) (pcs of end)) (slice_get-map (λ (one : Active). one.listed) before place)
        ∙ by (slice_get before place) refl
      where
        by : (found : Option Active) → slice_get (before_at of at).active (length (listed_of (before_at of at).active) - 1) ≡ found →
            ends_within (option_and_then (end_of (all_entries code params names ahead)) (option_map (λ (one : Active). one.listed) found)) (pcs of end) ≡ true
        by None none = refl
        by (Some one) is_there =
            let less = is.within in
            let known = ((locals_listed code of.plain params names ahead block of.laid).before at (omega (arith, less))).ends in
            let ended = end_there (pcs of) (all_entries code params names ahead) (before_at of at).active (before_place code params names ahead at).ends known (length (listed_of (before_at of at).active) - 1) one is_there in
            let no_later = last_there end (before_place code params names ahead at).ends (length (listed_of (before_at of at).active) - 1) ended.0 lasts ended.1 in
            ap (λ (outer : Option ℕ). ends_within outer (pcs of end)) ended.2 ∙ le-leb (pcs of end) (pcs of ended.0) (pcs_grow code params names ahead end ended.0 no_later)

    -- those that are active before the step end behind it
    lasts_behind : LastTo (suc at) (before_place code params names ahead at).ends
    lasts_behind =
        let less = is.within in
        let parted = parted_at code of.plain params names ahead block of.laid at (omega (arith, less)) in
        subst (LastTo (suc at)) (sym (before_ends (run code params names ahead) at parted)) parted.lasts

    -- no local starts or is over between two pcs, behind which the own ones start and the later ones
    pub quiet_to : (first last : ℕ) (scope : Scope) → length scope.declared ≡ listed_before code params names ahead at → scope.active ≡ listed_of (before_at of at).active → last ≤ pcs of (suc at) →
        StartFrom last own_entries → StartFrom last (from_at (suc at)) → last ≤ f.last → IsQuiet f scope first last
    quiet_to first last scope declared active before own later within = record {
      none = λ pc from below.
          ap (prefix_len (λ (entry : LocVar). entry.start == pc)) (next_are scope declared)
          ∙ none_begin pc (own_entries ++ from_at (suc at)) (start_later (suc pc) last (own_entries ++ from_at (suc at)) (omega (arith, below)) (start_both last own_entries (from_at (suc at)) own later));
      stays = λ pc from below. stays_before (innermost_end f.of.locals scope) (pcs of (suc at)) pc (within_all (suc at) scope active lasts_behind) (omega (arith, below, before));
      within = within;
    }

-- ---- a declaration

entries_hidden : (numeric : Bool) (pc end : ℕ) → entries_of pc end (hidden_texts numeric) ≡ hidden_locals numeric pc end
entries_hidden true pc end = refl
entries_hidden false pc end = refl

-- the first of these ends lies behind all others
first_end : (ends others : List ℕ) (end : ℕ) → Falling (ends ++ end ∷ others) → EndBy end others
first_end [] others end falls = falls.0
first_end (one ∷ ends) others end falls = first_end ends others end falls.1

module _ {Left : Type 0} {f : Function} {g : Fn} {z : Maker} {code : Steps} {params names : List Text} {ahead : Ahead} {block : Statements} (of : IsFlowBy Left f g z code params names ahead block) where
  -- its locals start behind its words
  pub declaration_starts : (at end : ℕ) (captured : Bool) (part : Part) → StepIs of at (StepKind.Declaration end captured) part → are_some_names (names_declared part) ≡ true → StartFrom (suc (pcs of (suc at))) (from_at of (suc at)) →
      (scope : Scope) → length scope.declared ≡ listed_before code params names ahead at → scope.active ≡ listed_of (before_at of at).active → StartHere f scope (names_declared part) (pcs of (suc at))
  declaration_starts at end captured part is good rest scope declared active =
      let kind = StepKind.Declaration end captured in
      let texts = names_declared part in
      let ends = (before_place code params names ahead at).ends in
      let count : length (own_entries of at kind part is) ≡ length texts = length_entries (pcs of (suc at)) (pcs of end) texts in
      let some = some_names texts good in
      let next : length (own_entries of at kind part is) ≡ suc (length texts - 1) = omega (arith, count, some) in
      let lasts = last_of_all ends end (replicate (length texts - 1) end) (subst (λ n. Falling (ends ++ replicate n end)) next (falls_behind of at kind part is)) in
      let few = few_behind of at kind part is in
      let as_many = ap (λ (l : List ℕ). length l) active ∙ length-map (before_at of at).active _ in
      let later = is.later in
      row_starts scope (pcs of end) (from_at of (suc at)) (next_are of at kind part is scope declared) (none_begin (pcs of (suc at)) (from_at of (suc at)) rest) (good_names texts good) some
      (pcs_grow code params names ahead (suc at) end (omega (arith, later))) (within_all of at kind part is end scope active lasts) (omega (arith, few, as_many, count))

  -- ---- a head

  module _ (at : ℕ) (numeric : Bool) (foot end variables_end : ℕ) (captured : Bool) (values : Expressions) (texts : List Text) (is : StepIs of at (StepKind.Head numeric foot end variables_end captured) (head_part values texts)) (good : are_some_names texts ≡ true) (pc : ℕ) (last_is : pcs of (suc at) ≡ suc pc) where
    abbrev kind : StepKind
    kind = StepKind.Head numeric foot end variables_end captured

    -- the place of its last word
    place_is : pcs of (suc at) - 1 ≡ pc
    place_is = omega (arith, last_is)

    head_entries : own_entries of at kind (head_part values texts) is ≡ hidden_locals numeric pc (pcs of end) ++ variable_locals texts (suc pc) (pcs of variables_end)
    head_entries =
        ap₂ (λ (first others : List LocVar). first ++ others) (ap (λ start. entries_of start (pcs of end) (hidden_texts numeric)) place_is ∙ entries_hidden numeric pc (pcs of end))
        (ap (λ start. entries_of start (pcs of variables_end) texts) last_is)

    pub head_count : length (own_entries of at kind (head_part values texts) is) ≡ 3 + length texts
    head_count =
        length_both (entries_of (pcs of (suc at) - 1) (pcs of end) (hidden_texts numeric)) (entries_of (pcs of (suc at)) (pcs of variables_end) texts)
        ∙ ap₂ (λ a b. a + b) (length_entries (pcs of (suc at) - 1) (pcs of end) (hidden_texts numeric) ∙ three_hidden numeric) (length_entries (pcs of (suc at)) (pcs of variables_end) texts)

    -- its own locals start with its last word and behind it
    pub head_from : StartFrom pc (own_entries of at kind (head_part values texts) is)
    head_from =
        start_both pc (entries_of (pcs of (suc at) - 1) (pcs of end) (hidden_texts numeric)) (entries_of (pcs of (suc at)) (pcs of variables_end) texts)
        (row_from pc (pcs of (suc at) - 1) (pcs of end) (hidden_texts numeric) (omega (arith, last_is))) (row_from pc (pcs of (suc at)) (pcs of variables_end) texts (omega (arith, last_is)))

    pub head_starts : StartFrom (suc (pcs of (suc at))) (from_at of (suc at)) → (scope : Scope) → length scope.declared ≡ listed_before code params names ahead at → scope.active ≡ listed_of (before_at of at).active → LoopStarts f numeric scope texts pc
    head_starts rest scope declared active =
        let part = head_part values texts in
        let ends = (before_place code params names ahead at).ends in
        let some = some_names texts good in
        let count = head_count in
        let next : length (own_entries of at kind part is) - 3 ≡ suc (length texts - 1) = omega (arith, count, some) in
        let falls : Falling (ends ++ (end ∷ end ∷ end ∷ variables_end ∷ replicate (length texts - 1) variables_end)) =
        subst (λ n. Falling (ends ++ (end ∷ end ∷ end ∷ replicate n variables_end))) next (falls_behind of at kind part is) in
        let inner = (first_end ends (end ∷ end ∷ variables_end ∷ replicate (length texts - 1) variables_end) end falls).1.1.0 in
        let later = is.later in
        let behind_later = later.1 in
        let few = few_behind of at kind part is in
        let as_many = ap (λ (l : List ℕ). length l) active ∙ length-map (before_at of at).active _ in
        let variables = variable_locals texts (suc pc) (pcs of variables_end) in
        let grown = pcs_grow code params names ahead (suc at) variables_end (omega (arith, behind_later)) in
        loop_starts (record {
          end = pcs of end;
          variables_end = pcs of variables_end;
          others = from_at of (suc at);
          next =
              next_are of at kind part is scope declared
              ∙ ap (λ (own : List LocVar). own ++ from_at of (suc at)) head_entries
              ∙ append_again (hidden_locals numeric pc (pcs of end)) variables (from_at of (suc at));
          behind = none_begin (suc pc) (from_at of (suc at)) (subst (λ n. StartFrom (suc n) (from_at of (suc at))) last_is rest);
          good = good_names texts good;
          some = some;
          before = omega (arith, grown, last_is);
          last = pcs_grow code params names ahead variables_end end inner;
          within = within_all of at kind part is end scope active (last_of_all ends end (end ∷ end ∷ variables_end ∷ replicate (length texts - 1) variables_end) falls);
          few = omega (arith, few, as_many, count);
        })
