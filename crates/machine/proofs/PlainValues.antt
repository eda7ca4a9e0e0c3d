-- Plain values that become values of a heap, one after another.
use Rattle.std.proofs.Common.{◌≡◌, ℕ, ◌+◌, ◌<◌, List, [], ◌∷◌, ◌++◌, length, map, take, get_or, refl, sym, ap, subst, ◌∙◌}
use Rattle.std.proofs.lemmas.List.{map-append, take_more}
use Rattle.std.proofs.lemmas.List.Elements.{All-nil, All-push}
use Rattle.lua_model.specs.declared.Value.{Value}
use Rattle.lua_model.specs.declared.plain.Plain.{Plain}
use Rattle.lua_model.specs.Store.{as_datum}
use Rattle.lua_heap.specs.State.{HeapState, datum, IsOf, AreOf, Keeps}
use Rattle.lua_heap.proofs.Callers.{data_are_kept, values_are_kept}
use Rattle.machine.specs.Frames.{data_of}

-- values of a heap that are these plain ones
pub record ArePlain (h : HeapState) (plain : List Plain) (values : List Value) : Type 0 where
  pub same : map as_datum plain ≡ data_of h values
  pub known : AreOf h values

pub none_plain : (h : HeapState) → ArePlain h [] []
none_plain h = record { same = refl; known = All-nil (IsOf h) }

pub plain_more : (s t : HeapState) (plain : List Plain) (k : ℕ) (item : Plain) (values pushed : List Value) (v : Value) → k < length plain → item ≡ get_or plain k item → Keeps s t → ArePlain s (take k plain) values → as_datum item ≡ datum t v → IsOf t v → pushed ≡ values ++ v ∷ [] → ArePlain t (take (k + 1) plain) pushed
plain_more s t plain k item values pushed v low at keeps so is known push =
    let kept = data_are_kept s t keeps values so.known in
    record {
      same =
          ap (map as_datum) (take_more plain k item low ∙ ap (λ q. take k plain ++ q ∷ []) (sym at))
          ∙ map-append as_datum (take k plain) (item ∷ [])
          ∙ (λ i. (so.same ∙ sym kept) i ++ is i ∷ [])
          ∙ sym (map-append (datum t) values (v ∷ []))
          ∙ ap (data_of t) (sym push);
      known = subst (λ (vs : List Value). AreOf t vs) (sym push) (All-push (IsOf t) values v (values_are_kept s t keeps values so.known) known);
    }
