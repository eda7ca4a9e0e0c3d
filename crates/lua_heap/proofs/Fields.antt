-- No table has an entry under a text that is no text of the heap.
use Rattle.std.proofs.Common.{◌≡◌, ℕ, zero, suc, ◌<◌, false, List, [], ◌∷◌, length, get_or, if◌then◌else◌, refl, ap, ◌∙◌, arith}
use Rattle.std.specs.List.{list_any}
use Rattle.std.specs.Str.{bytes_eq}
use Rattle.std.proofs.lemmas.Bool.{or_parts}
use Rattle.std.proofs.lemmas.List.Elements.{All-head, All-tail}
use Rattle.lua_num.specs.Bytes.{Text}
use Rattle.lua_model.specs.declared.Value.{Value}
use Rattle.lua_model.specs.declared.Value.TheVariants.{Nil, Bool as Boolean, Number, Text as TextValue, Table as TableValue, Closure as ClosureValue, Native, Host as HostValue}
use Rattle.lua_model.specs.Datum.{text, nil, raw_equal}
use Rattle.lua_model.specs.Store.{pair_value}
use Rattle.lua_table.specs.Entries.{Entries}
use Rattle.lua_heap.specs.State.{HeapState, datum, IsOf, ArePairsOf, pairs_of}

none_at : (n : Text) (texts : List Text) (i : ℕ) → i < length texts → list_any (bytes_eq n) texts ≡ false → bytes_eq n (get_or texts i []) ≡ false
none_at n [] i l e = absurd (omega (arith, l))
none_at n (t ∷ texts) zero l e = (or_parts (bytes_eq n t) (list_any (bytes_eq n) texts) e).0
none_at n (t ∷ texts) (suc i) l e = none_at n texts i (omega (arith, l)) (or_parts (bytes_eq n t) (list_any (bytes_eq n) texts) e).1

other_key : (s : HeapState) (n : Text) → list_any (bytes_eq n) s.texts ≡ false → (k : Value) → IsOf s k → raw_equal (text n) (datum s k) ≡ false
other_key s n e Nil h = refl
other_key s n e (Boolean b) h = refl
other_key s n e (Number x) h = refl
other_key s n e (TextValue t) h = none_at n s.texts t.index h e
other_key s n e (TableValue t) h = refl
other_key s n e (ClosureValue x) h = refl
other_key s n e (Native x) h = refl
other_key s n e (HostValue x) h = refl

pub no_field : (s : HeapState) (n : Text) → list_any (bytes_eq n) s.texts ≡ false → (ps : Entries) → ArePairsOf s ps → pair_value (pairs_of s ps) (text n) ≡ nil
no_field s n e [] h = refl
no_field s n e (p ∷ ps) h =
    let P : Value × Value → Type 0 = λ q. IsOf s q.0 × IsOf s q.1 in
    ap (λ b. if b then datum s p.1 else pair_value (pairs_of s ps) (text n)) (other_key s n e p.0 (All-head P p ps h).0) ∙ no_field s n e ps (All-tail P p ps h)
