-- A list of locals of which some are active: what it comes to when those end at known places.
use Rattle.std.proofs.Common.{◌≡◌, ◌<◌, ℕ, zero, suc, List, [], ◌∷◌, ◌++◌, length, map, take, drop, refl, sym, ap, ap₂, ◌∙◌, arith, subst}
use Rattle.std.proofs.lemmas.List.{length-map, map-append, take-map}
use Rattle.std.specs.Prelude.{Option, Some, None, option_map, replicate, slice_get}
use Rattle.proto.specs.declared.parts.LocVar.{LocVar}
use Rattle.scheme.specs.Making.{Maker, head_or, activate, end_one, end_all}
use Rattle.scheme.specs.declared.making.Local.{Local}
use Rattle.scheme.specs.declared.making.Active.{Active}
use Rattle.same_flow.specs.Listed.{entries_of, texts_of, ends_listed}
use Rattle.same_flow.proofs.Endings.{swap_all}
use Rattle.same_flow.proofs.Followed.{append_nothing, append_again}

-- the active locals end at the pcs of these places
abbrev pub with_ends : (pcs : ℕ → ℕ) → List Active → (ends : List ℕ) → List LocVar → List LocVar
with_ends pcs [] ends entries = entries
with_ends pcs (one ∷ others) [] entries = entries
with_ends pcs (one ∷ others) (end ∷ ends) entries = end_one (pcs end) one.listed (with_ends pcs others ends entries)

-- then the list comes to this one, where each active one has its end
pub record ComesTo (pcs : ℕ → ℕ) (active : List Active) (ends : List ℕ) (entries list : List LocVar) : Type 0 where
  pub all : with_ends pcs active ends entries ≡ list
  pub listed : ends_listed list active ≡ map (λ end. Some (pcs end)) ends

-- ---- one entry

end_one_more : (here i : ℕ) (xs ys : List LocVar) → i < length xs → end_one here i (xs ++ ys) ≡ end_one here i xs ++ ys
end_one_more here i [] ys h = absurd (omega (arith, h))
end_one_more here zero (x ∷ xs) ys h = refl
end_one_more here (suc i) (x ∷ xs) ys h = ap (λ (l : List LocVar). x ∷ l) (end_one_more here i xs ys (omega (arith, h)))

end_last : (here : ℕ) (xs : List LocVar) (x : LocVar) → end_one here (length xs) (xs ++ x ∷ []) ≡ xs ++ record { name = x.name; start = x.start; end = here } ∷ []
end_last here [] x = refl
end_last here (y ∷ xs) x = ap (λ (l : List LocVar). y ∷ l) (end_last here xs x)

pub end_one_length : (here i : ℕ) (entries : List LocVar) → length (end_one here i entries) ≡ length entries
end_one_length here i [] = refl
end_one_length here zero (x ∷ xs) = refl
end_one_length here (suc i) (x ∷ xs) = ap suc (end_one_length here i xs)

-- where the entry of a number ends
abbrev end_listed : List LocVar → ℕ → Option ℕ
end_listed entries i = option_map (λ (entry : LocVar). entry.end) (slice_get entries i)

listed_within : (entries : List LocVar) (i end : ℕ) → end_listed entries i ≡ Some end → i < length entries
listed_within [] i end h = cc
listed_within (x ∷ xs) zero end h = omega arith
listed_within (x ∷ xs) (suc i) end h = let less = listed_within xs i end h in omega (arith, less)

listed_more : (entries more : List LocVar) (i end : ℕ) → end_listed entries i ≡ Some end → end_listed (entries ++ more) i ≡ Some end
listed_more [] more i end h = cc
listed_more (x ∷ xs) more zero end h = h
listed_more (x ∷ xs) more (suc i) end h = listed_more xs more i end h

listed_last : (entries : List LocVar) (x : LocVar) → end_listed (entries ++ x ∷ []) (length entries) ≡ Some x.end
listed_last [] x = refl
listed_last (y ∷ xs) x = listed_last xs x

-- ---- all active locals

abbrev AllWithin : (count : ℕ) → List Active → Type 0
AllWithin count [] = Unit {0}
AllWithin count (one ∷ others) = (one.listed < count) × AllWithin count others

module _ (pcs : ℕ → ℕ) where
  abbrev pub AreListed : List LocVar → List Active → List ℕ → Type 0
  AreListed list active ends = ends_listed list active ≡ map (λ end. Some (pcs end)) ends

  first_listed : (list : List LocVar) (one : Active) (others : List Active) (end : ℕ) (ends : List ℕ) → AreListed list (one ∷ others) (end ∷ ends) → end_listed list one.listed ≡ Some (pcs end)
  first_listed list one others end ends h = ap (λ (l : List (Option ℕ)). head_or None l) h

  others_listed : (list : List LocVar) (one : Active) (others : List Active) (end : ℕ) (ends : List ℕ) → AreListed list (one ∷ others) (end ∷ ends) → AreListed list others ends
  others_listed list one others end ends h = ap (λ (l : List (Option ℕ)). drop 1 l) h

  all_within : (list : List LocVar) (active : List Active) (ends : List ℕ) → AreListed list active ends → AllWithin (length list) active
  all_within list [] ends h = tt
  all_within list (one ∷ others) [] h = cc
  all_within list (one ∷ others) (end ∷ ends) h =
      (listed_within list one.listed (pcs end) (first_listed list one others end ends h), all_within list others ends (others_listed list one others end ends h))

  pub all_listed_more : (list more : List LocVar) (active : List Active) (ends : List ℕ) → AreListed list active ends → AreListed (list ++ more) active ends
  all_listed_more list more [] ends h = h
  all_listed_more list more (one ∷ others) [] h = cc
  all_listed_more list more (one ∷ others) (end ∷ ends) h =
      ap₂ (λ (x : Option ℕ) (l : List (Option ℕ)). x ∷ l) (listed_more list more one.listed (pcs end) (first_listed list one others end ends h))
      (all_listed_more list more others ends (others_listed list one others end ends h))

  pub same_count : (list : List LocVar) (active : List Active) (ends : List ℕ) → AreListed list active ends → length active ≡ length ends
  same_count list active ends h = sym (length-map active _) ∙ ap (λ (l : List (Option ℕ)). length l) h ∙ length-map ends _

  pub with_ends_length : (active : List Active) (ends : List ℕ) (entries : List LocVar) → length (with_ends pcs active ends entries) ≡ length entries
  with_ends_length [] ends entries = refl
  with_ends_length (one ∷ others) [] entries = refl
  with_ends_length (one ∷ others) (end ∷ ends) entries = end_one_length (pcs end) one.listed (with_ends pcs others ends entries) ∙ with_ends_length others ends entries

  with_ends_both : (xs ys : List Active) (es fs : List ℕ) (entries : List LocVar) → length xs ≡ length es →
      with_ends pcs (xs ++ ys) (es ++ fs) entries ≡ with_ends pcs xs es (with_ends pcs ys fs entries)
  with_ends_both [] ys [] fs entries h = refl
  with_ends_both [] ys (e ∷ es) fs entries h = absurd (omega (arith, h))
  with_ends_both (x ∷ xs) ys [] fs entries h = absurd (omega (arith, h))
  with_ends_both (x ∷ xs) ys (e ∷ es) fs entries h = ap (end_one (pcs e) x.listed) (with_ends_both xs ys es fs entries (omega (arith, h)))

  with_ends_more : (active : List Active) (ends : List ℕ) (entries more : List LocVar) → AllWithin (length entries) active →
      with_ends pcs active ends (entries ++ more) ≡ with_ends pcs active ends entries ++ more
  with_ends_more [] ends entries more h = refl
  with_ends_more (one ∷ others) [] entries more h = refl
  with_ends_more (one ∷ others) (end ∷ ends) entries more h =
      let less = h.0 in
      let same = with_ends_length others ends entries in
      ap (end_one (pcs end) one.listed) (with_ends_more others ends entries more h.1)
      ∙ end_one_more (pcs end) one.listed (with_ends pcs others ends entries) more (omega (arith, less, same))

  pub comes_length : {active : List Active} {ends : List ℕ} {entries list : List LocVar} → ComesTo pcs active ends entries list → length list ≡ length entries
  comes_length {active} {ends} {entries} c = ap (λ (l : List LocVar). length l) (sym c.all) ∙ with_ends_length active ends entries

  -- ---- locals that become active

  -- one more, of any end until it ends
  pub comes_one_more : {active : List Active} {ends : List ℕ} {entries list : List LocVar} (local : Local) (start until end : ℕ) → ComesTo pcs active ends entries list →
      ComesTo pcs (active ++ record { local = local; listed = length entries } ∷ []) (ends ++ end ∷ []) (entries ++ record { name = local.name; start = start; end = until } ∷ [])
      (list ++ record { name = local.name; start = start; end = pcs end } ∷ [])
  comes_one_more {active} {ends} {entries} {list} local start until end c =
      let one : Active = record { local = local; listed = length entries } in
      let entry : LocVar = record { name = local.name; start = start; end = until } in
      let later : LocVar = record { name = local.name; start = start; end = pcs end } in
      let within = all_within list active ends c.listed in
      record {
        all =
            with_ends_both active (one ∷ []) ends (end ∷ []) (entries ++ entry ∷ []) (same_count list active ends c.listed)
            ∙ ap (with_ends pcs active ends) (end_last (pcs end) entries entry)
            ∙ with_ends_more active ends entries (later ∷ []) (subst (λ n. AllWithin n active) (comes_length c) within)
            ∙ ap (λ (l : List LocVar). l ++ later ∷ []) c.all;
        listed =
            map-append _ active (one ∷ [])
            ∙ ap₂ (λ (l m : List (Option ℕ)). l ++ m) (all_listed_more list (later ∷ []) active ends c.listed)
            (ap (λ (x : Option ℕ). x ∷ []) (ap (λ n. end_listed (list ++ later ∷ []) n) (sym (comes_length c)) ∙ listed_last list later))
            ∙ sym (map-append _ ends (end ∷ []));
      }

  pub comes_activated : (locals : List Local) (m : Maker) (ends : List ℕ) (list : List LocVar) (end : ℕ) → ComesTo pcs m.active ends m.locals list →
      ComesTo pcs (activate locals m).active (ends ++ replicate (length locals) end) (activate locals m).locals (list ++ entries_of (length m.items) (pcs end) (texts_of locals))
  comes_activated [] m ends list end c =
      record {
        all = ap (λ (es : List ℕ). with_ends pcs m.active es m.locals) (append_nothing ends) ∙ c.all ∙ sym (append_nothing list);
        listed = ap (λ (l : List LocVar). ends_listed l m.active) (append_nothing list) ∙ c.listed ∙ ap (λ (es : List ℕ). map (λ end. Some (pcs end)) es) (sym (append_nothing ends));
      }
  comes_activated (local ∷ locals) m ends list end c =
      let here = length m.items in
      let next : Maker = record m { active = m.active ++ record { local = local; listed = length m.locals } ∷ []; locals = m.locals ++ record { name = local.name; start = here; end = here } ∷ [] } in
      let later : LocVar = record { name = local.name; start = here; end = pcs end } in
      subst (λ (es : List ℕ). ComesTo pcs (activate locals next).active es (activate locals next).locals (list ++ entries_of here (pcs end) (texts_of (local ∷ locals))))
      (append_again ends (end ∷ []) (replicate (length locals) end))
      (subst (λ (l : List LocVar). ComesTo pcs (activate locals next).active ((ends ++ end ∷ []) ++ replicate (length locals) end) (activate locals next).locals l)
      (append_again list (later ∷ []) (entries_of here (pcs end) (texts_of locals)))
      (comes_activated locals next (ends ++ end ∷ []) (list ++ later ∷ []) end (comes_one_more local here here end c)))

  -- ---- locals that end

  abbrev pub AllAt : (place : ℕ) → List ℕ → Type 0
  AllAt place [] = Unit {0}
  AllAt place (end ∷ ends) = (end ≡ place) × AllAt place ends

  pub ended_here : (place : ℕ) (active : List Active) (ends : List ℕ) (entries : List LocVar) → length active ≡ length ends → AllAt place ends →
      end_all (pcs place) active entries ≡ with_ends pcs active ends entries
  ended_here place [] ends entries e h = refl
  ended_here place (one ∷ others) [] entries e h = absurd (omega (arith, e))
  ended_here place (one ∷ others) (end ∷ ends) entries e h =
      swap_all (pcs place) one.listed others entries
      ∙ ap₂ (λ here (l : List LocVar). end_one here one.listed l) (ap pcs (sym h.0)) (ended_here place others ends entries (omega (arith, e)) h.1)

  ended_behind : (place n : ℕ) (active : List Active) (ends : List ℕ) (entries : List LocVar) → length active ≡ length ends → AllAt place (drop n ends) →
      with_ends pcs (take n active) (take n ends) (end_all (pcs place) (drop n active) entries) ≡ with_ends pcs active ends entries
  ended_behind place zero active ends entries e h = ended_here place active ends entries e h
  ended_behind place (suc n) [] ends entries e h = refl
  ended_behind place (suc n) (one ∷ others) [] entries e h = absurd (omega (arith, e))
  ended_behind place (suc n) (one ∷ others) (end ∷ ends) entries e h = ap (end_one (pcs end) one.listed) (ended_behind place n others ends entries (omega (arith, e)) h)

  -- those from one on have ended
  pub comes_ended : (place n : ℕ) {active : List Active} {ends : List ℕ} {entries list : List LocVar} → AllAt place (drop n ends) → ComesTo pcs active ends entries list →
      ComesTo pcs (take n active) (take n ends) (end_all (pcs place) (drop n active) entries) list
  comes_ended place n {active} {ends} {entries} {list} h c =
      record {
        all = ended_behind place n active ends entries (same_count list active ends c.listed) h ∙ c.all;
        listed = sym (take-map _ n active) ∙ ap (λ (l : List (Option ℕ)). take n l) c.listed ∙ take-map _ n ends;
      }
