-- Where a step begins, those locals are left that are active before it: the others have ended, the innermost first.
use Rattle.std.proofs.Common.{◌≡◌, ◌<◌, ◌≤◌, ℕ, zero, suc, ◌-◌, Bool, true, false, nat_le, nat_lt, List, [], ◌∷◌, ◌++◌, length, map, take, refl, sym, ap, ◌∙◌, arith, subst, le-leb, if◌then◌else◌}
use Rattle.std.proofs.lemmas.Bool.Decides.{nat_tests}
use Rattle.std.proofs.lemmas.List.{length-map, take-map}
use Rattle.std.proofs.lemmas.Option.{none-some, same_Some, slice_get-map}
use Rattle.std.specs.Prelude.{None, Option, Some, option_and_then, option_map, slice_get}
use Rattle.lua_num.specs.Bytes.{Text}
use Rattle.lua_tree.specs.Syntax.{Statements}
use Rattle.proto.specs.declared.parts.LocVar.{LocVar}
use Rattle.recover_expr.specs.Locals.{Scope, end_of, is_over, leave, left_of}
use Rattle.recover_expr.specs.Placing.{Steps}
use Rattle.scheme.specs.Making.{Ahead}
use Rattle.scheme.specs.declared.making.Active.{Active}
use Rattle.scheme_stands.proofs.Growth.{kept_end}
use Rattle.same_flow.specs.Listed.{all_entries, before_place, ends_listed, entries_from, entries_of, pc_of_step}
use Rattle.same_flow.specs.Performed.{Performance, performed_to, still_active}
use Rattle.same_flow.specs.SameFlow.{AreLaid, HasPlainParts}
use Rattle.same_flow.specs.Told.{at_beginning}
use Rattle.same_flow.proofs.Followed.{EndBy, LastTo, append_again, length_both, still}
use Rattle.same_flow.proofs.ListedLocals.{all_listed_more}
use Rattle.same_flow.proofs.ListedRun.{entries_begin}
use Rattle.same_flow.proofs.LocalsListed.{all_end, listed_to, parted_at}
use Rattle.reads_back.proofs.PlacedCaptures.{element_left, element_right, element_there}
use Rattle.reads_back.proofs.StepsGrow.{pcs_grow}
use Rattle.reads_back.proofs.Tests.{not_below}

-- the entries of active locals
abbrev pub listed_of : List Active → List ℕ
listed_of active = map (λ (one : Active). one.listed) active

pub taken_few : {A : Type 0} (n : ℕ) (xs : List A) → length (take n xs) ≤ length xs
taken_few zero xs = omega arith
taken_few (suc n) [] = omega arith
taken_few (suc n) (x ∷ xs) = let rest = taken_few n xs in omega (arith, rest)

pub last_there : (p : ℕ) (ends : List ℕ) (place end : ℕ) → LastTo p ends → slice_get ends place ≡ Some end → p ≤ end
last_there p [] place end lasts there = absurd (none-some end there)
last_there p (one ∷ ends) zero end lasts there = let here = lasts.0 in omega (arith, here, same_Some one end there)
last_there p (one ∷ ends) (suc place) end lasts there = last_there p ends place end lasts.1 there

pub gone_there : (p : ℕ) (ends : List ℕ) (place end : ℕ) → EndBy p ends → slice_get ends place ≡ Some end → end ≤ p
gone_there p [] place end gone there = absurd (none-some end there)
gone_there p (one ∷ ends) zero end gone there = let here = gone.0 in omega (arith, here, same_Some one end there)
gone_there p (one ∷ ends) (suc place) end gone there = gone_there p ends place end gone.1 there

module _ (pcs : ℕ → ℕ) (locals : List LocVar) (active : List Active) (ends : List ℕ) (listed : ends_listed locals active ≡ map (λ end. Some (pcs end)) ends) where
  -- where an active local ends
  pub end_there : (place : ℕ) (one : Active) → slice_get active place ≡ Some one → (end : ℕ) × (slice_get ends place ≡ Some end) × (end_of locals one.listed ≡ Some (pcs end))
  end_there place one there =
      let of : Active → Option ℕ = λ one. option_map (λ (entry : LocVar). entry.end) (slice_get locals one.listed) in
      by (slice_get ends place) refl (sym (slice_get-map (λ end. Some (pcs end)) ends place) ∙ ap (λ all. slice_get all place) (sym listed) ∙ slice_get-map of active place ∙ ap (option_map of) there)
    where
      by : (found : Option ℕ) → slice_get ends place ≡ found → option_map (λ end. Some (pcs end)) found ≡ Some (end_of locals one.listed) → (end : ℕ) × (slice_get ends place ≡ Some end) × (end_of locals one.listed ≡ Some (pcs end))
      by None is same = absurd (none-some (end_of locals one.listed) same)
      by (Some end) is same = (end, is, sym (same_Some (Some (pcs end)) (end_of locals one.listed) same))

  module _ (pc : ℕ) (first behind : List ℕ) (both : ends ≡ first ++ behind) (later : (place end : ℕ) → slice_get first place ≡ Some end → pc < pcs end) (over : (place end : ℕ) → slice_get behind place ≡ Some end → pcs end ≤ pc) where
    abbrev places : List ℕ
    places = listed_of active

    left_to : (n : ℕ) → length first ≤ n → n ≤ length active → left_of locals pc places n ≡ take (length first) places
    left_to zero few most = let same : 0 ≡ length first = omega (arith, few) in ap (λ n. take n places) same
    left_to (suc n) few most = by (λ enough. left_to n enough (omega (arith, most))) (nat_le (length first) n) refl
      where
        one : (one : Active) × (slice_get active n ≡ Some one)
        one = element_there active n (omega (arith, most))

        ended : (end : ℕ) × (slice_get ends n ≡ Some end) × (end_of locals one.0.listed ≡ Some (pcs end))
        ended = end_there n one.0 one.1

        found : option_and_then (end_of locals) (slice_get places n) ≡ Some (pcs ended.0)
        found = ap (option_and_then (end_of locals)) (slice_get-map (λ (one : Active). one.listed) active n ∙ ap (option_map (λ (one : Active). one.listed)) one.1) ∙ ended.2

        here : (is : Bool) → nat_le (pcs ended.0) pc ≡ is → left_of locals pc places (suc n) ≡ (if is then left_of locals pc places n else take (suc n) places)
        here is test =
            ap (λ (found : Option ℕ). if is_over pc found then left_of locals pc places n else take (suc n) places) found ∙ ap (λ (is : Bool). if is then left_of locals pc places n else take (suc n) places) test

        by : (length first ≤ n → left_of locals pc places n ≡ take (length first) places) → (b : Bool) → nat_le (length first) n ≡ b → left_of locals pc places (suc n) ≡ take (length first) places
        by again true test =
            let enough : length first ≤ n = grind (arith, nat_tests) in
            let there : slice_get behind (n - length first) ≡ Some ended.0 = sym (element_right first behind (n - length first) n (omega (arith, enough))) ∙ ap (λ all. slice_get all n) (sym both) ∙ ended.1 in
            here true (le-leb (pcs ended.0) pc (over (n - length first) ended.0 there)) ∙ again enough
        by again false test =
            let same : length first ≡ suc n = grind (arith, nat_tests) in
            let there : slice_get first n ≡ Some ended.0 = sym (element_left first behind n (omega (arith, same))) ∙ ap (λ all. slice_get all n) (sym both) ∙ ended.1 in
            here false (not_below pc (pcs ended.0) (later n ended.0 there)) ∙ ap (λ n. take n places) (sym same)

    leaves : (scope : Scope) → scope.active ≡ places → length first ≤ length active → (leave locals pc scope).active ≡ listed_of (take (length first) active)
    leaves scope same few =
        ap (λ (active : List ℕ). left_of locals pc active (length active)) same
        ∙ ap (left_of locals pc places) (length-map active (λ (one : Active). one.listed))
        ∙ left_to (length active) few (omega arith)
        ∙ take-map (λ (one : Active). one.listed) (length first) active

-- ---- along the steps of a function

module _ (code : Steps) (plain : HasPlainParts code) (params names : List Text) (ahead : Ahead) (block : Statements) (laid : AreLaid code params names ahead block) where
  abbrev pcs_of : ℕ → ℕ
  pcs_of = pc_of_step code params names ahead

  abbrev now_at : ℕ → Performance
  now_at at = performed_to code (at_beginning code params names ahead) at

  -- in the list of all locals the active ones end where their steps say
  ends_at : (at : ℕ) → at ≤ length code.steps → ends_listed (all_entries code params names ahead) (now_at at).maker.active ≡ map (λ end. Some (pcs_of end)) (now_at at).ends
  ends_at at most =
      let last = length code.steps in
      let parameters = entries_of 0 (pcs_of last) params in
      let list = parameters ++ entries_from code pcs_of 0 at in
      let all = entries_begin code pcs_of 0 at last most in
      let known = listed_to code plain params names ahead block laid at most in
      ap (λ (entries : List LocVar). ends_listed entries (now_at at).maker.active) (ap (λ (entries : List LocVar). parameters ++ entries) all.1 ∙ sym (append_again parameters (entries_from code pcs_of 0 at) all.0))
      ∙ all_listed_more pcs_of list all.0 (now_at at).maker.active (now_at at).ends known.comes.listed

  pub locals_leave : (at : ℕ) → at ≤ length code.steps → (at < length code.steps → pcs_of at < pcs_of (suc at)) → (scope : Scope) → scope.active ≡ listed_of (now_at at).maker.active →
      (leave (all_entries code params names ahead) (pcs_of at) scope).active ≡ listed_of (before_place code params names ahead at).maker.active
  locals_leave at most word scope same =
      let now = now_at at in
      let parted = parted_at code plain params names ahead block laid at most in
      let listed = ends_at at most in
      let count : still_active at now.ends ≡ length parted.ends = ap (still_active at) parted.all_ends ∙ still at parted.ends parted.behind parted.lasts parted.gone in
      let all = ap length parted.all_ends in
      let as_many : length now.maker.active ≡ length now.ends = sym (length-map now.maker.active _) ∙ ap (λ (l : List (Option ℕ)). length l) listed ∙ length-map now.ends _ in
      leaves pcs_of (all_entries code params names ahead) now.maker.active now.ends listed (pcs_of at) parted.ends parted.behind parted.all_ends
      (λ place end there. is_later end (last_there (suc at) parted.ends place end parted.lasts there) (nat_lt at (length code.steps)) refl
      (λ same. gone_there (length code.steps) now.ends place end (subst (λ at. EndBy (length code.steps) (now_at at).ends) (sym same) (all_end code plain params names ahead block laid)) (ap (λ all. slice_get all place) parted.all_ends ∙ kept_end parted.ends parted.behind place end there)))
      (λ place end there. pcs_grow code params names ahead end at (gone_there at parted.behind place end parted.gone there))
      scope same (omega (arith, as_many, all, length_both parted.ends parted.behind))
      ∙ ap (λ n. listed_of (take n now.maker.active)) (sym count)
    where
      is_later : (end : ℕ) → suc at ≤ end → (b : Bool) → nat_lt at (length code.steps) ≡ b → (at ≡ length code.steps → end ≤ length code.steps) → pcs_of at < pcs_of end
      is_later end behind true test last =
          let less : at < length code.steps = grind (arith, nat_tests) in
          let one = word less in
          let more = pcs_grow code params names ahead (suc at) end behind in
          omega (arith, one, more)
      is_later end behind false test last =
          let same : at ≡ length code.steps = grind (arith, nat_tests) in
          let most = last same in
          absurd (omega (arith, same, most, behind))
