-- Strings, sources, constants, locals; parts with a count in front.
use Rattle.std.proofs.Common.{◌≡◌, ℕ, zero, suc, ◌-◌, List, [], ◌∷◌, length, Option, Some, None, refl, sym, ap, arith}
use Rattle.std.specs.List.{flat_map}
use Rattle.lua_num.specs.Bytes.{Text}
use Rattle.chunk_io.specs.declared.layout.Layout.{Layout}
use Rattle.chunk_io.specs.Items.{Item, int, any_size, some_size, text, ending, string_items, source_items, local_items, counted}
use Rattle.chunk_io.specs.Reading.{Read, ended_at, text_at, rest_of_source_at, source_at, local_at, counted_at}
use Rattle.chunk_io.proofs.Phrases.{Reads, reads_item}
use Rattle.chunk_io.proofs.Joined.{reads_then}
use Rattle.chunk_io.proofs.Renamed.{reads_as, reads_nothing, reads_many}
use Rattle.chunk_io.proofs.SingleBytes.{ending_item}
use Rattle.chunk_io.proofs.NumberItems.{int_item, any_size_item, some_size_item, text_item}

abbrev ended_items : Text → List Item
ended_items t = text t ∷ ending ∷ []

pub reads_ended : (n : ℕ) → Reads (ended_at n) ended_items (λ t. length t ≡ n)
unfolding ended_at
reads_ended n =
    reads_as (λ (p : Text × Unit {0}). p.0) ended_items (λ t. length t ≡ n) (reads_then (reads_item (text_item n)) (λ t is. reads_item ending_item)) (λ p is. (refl, is.0)) (λ t is. ((t, tt), refl, (is, tt)))

pub reads_string : (l : Layout) → Reads (text_at l) (string_items l) (λ t. Unit {0})
unfolding text_at
reads_string l =
    reads_as (λ (p : ℕ × Text). p.1) (string_items l) (λ t. Unit {0}) (reads_then (reads_item (some_size_item l)) (λ n is. reads_ended (n - 1)))
    (λ p is.
    let size : suc (length p.1) ≡ p.0 = omega (arith, is.0, is.1) in
    (ap (λ n. some_size l n ∷ ended_items p.1) size, tt))
    (λ t is. ((suc (length t), t), refl, (omega arith, omega arith)))

-- ---- a source

abbrev rest_of_source_items : Option Text → List Item
rest_of_source_items None = []
rest_of_source_items (Some t) = ended_items t

abbrev source_size : Option Text → ℕ
source_size None = 0
source_size (Some t) = suc (length t)

source_parts : (l : Layout) (n : ℕ) (source : Option Text) → source_size source ≡ n → source_items l source ≡ any_size l n ∷ rest_of_source_items source
source_parts l n None e = ap (λ n. any_size l n ∷ []) e
source_parts l n (Some t) e = ap (λ n. any_size l n ∷ ended_items t) e

none_source : (source : Option Text) → source_size source ≡ 0 → None ≡ source
none_source None e = refl
none_source (Some t) e = absurd (omega arith)

some_source : (n : ℕ) (source : Option Text) → source_size source ≡ suc n → (t : Text) × (Some t ≡ source) × (length t ≡ n)
some_source n None e = absurd (omega arith)
some_source n (Some t) e = (t, refl, omega arith)

reads_rest_of_source : (n : ℕ) → Reads (rest_of_source_at n) rest_of_source_items (λ source. source_size source ≡ n)
unfolding rest_of_source_at
reads_rest_of_source zero =
    reads_as (λ (o : Option Text). o) rest_of_source_items (λ source. source_size source ≡ 0) (reads_nothing {V = Option Text} rest_of_source_items None refl) (λ o is. (refl, ap source_size (sym is))) (λ o is. (None, none_source o is, refl))
reads_rest_of_source (suc n) =
    reads_as (λ (t : Text). Some t) rest_of_source_items (λ source. source_size source ≡ suc n) (reads_ended n) (λ t is. (refl, ap suc is)) (some_source n)

pub reads_source : (l : Layout) → Reads (source_at l) (source_items l) (λ source. Unit {0})
unfolding source_at
reads_source l =
    reads_as (λ (p : ℕ × Option Text). p.1) (source_items l) (λ source. Unit {0}) (reads_then (reads_item (any_size_item l)) (λ n is. reads_rest_of_source n))
    (λ p is. (source_parts l p.0 p.1 is.1, tt)) (λ source is. ((source_size source, source), refl, (tt, refl)))

-- ---- a local

pub reads_local : (l : Layout) → Reads (local_at l) (local_items l) (λ v. Unit {0})
unfolding local_at
reads_local l =
    reads_as (λ (p : Text × (ℕ × ℕ)). record { name = p.0; start = p.1.0; end = p.1.1 }) (local_items l) (λ v. Unit {0})
    (reads_then (reads_string l) (λ t is. reads_then (reads_item (int_item l)) (λ start is. reads_item (int_item l))))
    (λ p is. (refl, tt)) (λ v is. ((v.name, (v.start, v.end)), refl, (tt, (tt, tt))))

-- ---- how many, and then each

pub reads_counted : {A : Type 0} {one : Read A} {items : A → List Item} (l : Layout) → Reads one items (λ x. Unit {0}) → Reads (counted_at l one) (counted l items) (λ xs. Unit {0})
unfolding counted_at
reads_counted {A} {items = items} l p =
    reads_as (λ (q : ℕ × List A). q.1) (counted l items) (λ xs. Unit {0}) (reads_then (reads_item (int_item l)) (λ n is. reads_many p n))
    (λ q is. (ap (λ n. int l n ∷ flat_map items q.1) is.1, tt)) (λ xs is. ((length xs, xs), refl, (tt, refl)))
