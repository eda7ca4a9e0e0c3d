-- A read or a write that tries one value after another comes to what the definition gives with so many tries.
use Rattle.std.proofs.Common.{◌≡◌, ℕ, suc, ◌+◌, ◌-◌, ◌<◌, refl, ap, sym, subst, ◌∙◌, ControlFlow, Break, Continue, codes, arith}
use Rattle.lua_model.specs.declared.Value.{Value}
use Rattle.lua_model.specs.Datum.{Datum, text}
use Rattle.lua_model.specs.Store.{Store}
use Rattle.lua_model.specs.Acts as model
use Rattle.lua_model.specs.Acts.{fail_text}
use Rattle.lua_model.specs.Operators.{index_within, set_index_within}
use Rattle.lua_heap.specs.State.{HeapState, datum, IsOf, own_store, Keeps, OnlyTexts}
use Rattle.lua_heap.proofs.Callers.{keeps_itself, keeps_both}
use Rattle.meta_ops.specs.Acts.{act_of, found_of, IsFoundOf}
use Rattle.meta_ops.specs.declared.act.Act.{Act}
use Rattle.meta_ops.specs.declared.indexing.Found.{Found}
use Rattle.lua_heap.specs.Grown.{Grown}
use Rattle.meta_ops.specs.Steps.{IsRead, IsWritten, IsReading, IsWriting}

-- ---- one heap after another

pub texts_both : (s t u : HeapState) → OnlyTexts s t → OnlyTexts t u → OnlyTexts s u
texts_both s t u a b = let f : HeapState → HeapState = λ h. record h { texts = u.texts } in b ∙ ap f a

pub grown_itself : (s : HeapState) → Grown s s
grown_itself s = record { only_texts = refl; keeps = keeps_itself s }

pub grown_both : (s t u : HeapState) → Grown s t → Grown t u → Grown s u
grown_both s t u a b = record { only_texts = texts_both s t u a.only_texts b.only_texts; keeps = keeps_both s t u a.keeps b.keeps }

pub same_store : (s t : HeapState) → OnlyTexts s t → own_store t ≡ own_store s
same_store s t a = ap own_store a

-- ---- reads

pub reading_start : (h : HeapState) (on key : Value) (limit : ℕ) → IsOf h on → IsReading h on key on limit 0
reading_start h on key limit known = record {
  known = known;
  left = λ more e. ap (λ n. index_within n (own_store h) (datum h on) (datum h key)) (omega arith);
}

read_is : (h : HeapState) (at key : Value) (r tried : ControlFlow Found Value) → r ≡ tried → IsRead h at key r → IsRead h at key tried
read_is h at key r tried is read = let P : ControlFlow Found Value → Type 0 = λ x. IsRead h at key x in subst P is read

pub reading_next : {h : HeapState} {on key at v : Value} {limit tried : ℕ} → IsReading h on key at limit tried → (r : ControlFlow Found Value) → r ≡ Continue v → IsRead h at key r → IsReading h on key v limit (tried + 1)
reading_next {h} {on} {key} {at} {v} {limit} {tried} reading r is read =
    let next = read_is h at key r (Continue v) is read in
    record {
      known = next.1;
      left = λ more e.
          let f : suc more + tried ≡ limit = omega arith in
          reading.left (suc more) f ∙ next.0 more;
    }

pub reading_done : {h : HeapState} {on key at : Value} {limit tried : ℕ} (found : Found) → IsReading h on key at limit tried → tried < limit → (r : ControlFlow Found Value) → r ≡ Break found → IsRead h at key r → (found_of h (datum h key) found ≡ index_within limit (own_store h) (datum h on) (datum h key)) × IsFoundOf h found
reading_done {h} {on} {key} {at} {limit} {tried} found reading below r is read =
    let done = read_is h at key r (Break found) is read in
    let more = limit - (tried + 1) in
    let f : suc more + tried ≡ limit = omega arith in
    (done.0 more ∙ sym (reading.left (suc more) f), done.1)

pub reading_over : {h : HeapState} {on key at : Value} {limit tried : ℕ} → IsReading h on key at limit tried → tried ≡ limit → index_within limit (own_store h) (datum h on) (datum h key) ≡ fail_text (codes "loop in gettable")
reading_over {h} {on} {key} {at} {limit} {tried} reading e = reading.left 0 (omega arith)

-- ---- writes

written_is : (s t : HeapState) (at key value : Value) (r step : ControlFlow Act Value) → r ≡ step → IsWritten s t at key value r → IsWritten s t at key value step
written_is s t at key value r step is written =
    let P : ControlFlow Act Value → Type 0 = λ x. IsWritten s t at key value x in subst P is written

write_from : (s t : Store) (k l v w : Datum) → t ≡ s → l ≡ k → w ≡ v → (n m : ℕ) (x y : Datum) → set_index_within n t x l w ≡ set_index_within m t y l w → set_index_within n s x k v ≡ set_index_within m s y k v
write_from s t k l v w e f g n m x y h =
    let P : Store → Type 0 = λ z. set_index_within n z x l w ≡ set_index_within m z y l w in
    let Q : Datum → Type 0 = λ z. set_index_within n s x z w ≡ set_index_within m s y z w in
    let R : Datum → Type 0 = λ z. set_index_within n s x k z ≡ set_index_within m s y k z in
    subst R g (subst Q f (subst P e h))

outcome_from : (s t : Store) (k l v w : Datum) → t ≡ s → l ≡ k → w ≡ v → (n : ℕ) (x : Datum) (a : model.Act × Store) → a ≡ set_index_within n t x l w → a ≡ set_index_within n s x k v
outcome_from s t k l v w e f g n x a h =
    let P : Store → Type 0 = λ z. a ≡ set_index_within n z x l w in
    let Q : Datum → Type 0 = λ z. a ≡ set_index_within n s x z w in
    let R : Datum → Type 0 = λ z. a ≡ set_index_within n s x k z in
    subst R g (subst Q f (subst P e h))

pub writing_next : {first s t : HeapState} {on key value at v : Value} {limit tried : ℕ} → IsWriting first s on key value at limit tried → IsOf first key → IsOf first value → Keeps s t → (r : ControlFlow Act Value) → r ≡ Continue v → IsWritten s t at key value r → IsWriting first t on key value v limit (tried + 1)
writing_next {first} {s} {t} {on} {key} {value} {at} {v} {limit} {tried} writing k x keeps r is written =
    let step = written_is s t at key value r (Continue v) is written in
    record {
      grown = grown_both first s t writing.grown (record { only_texts = step.2; keeps = keeps });
      known = step.1;
      left = λ more e.
          let f : suc more + tried ≡ limit = omega arith in
          writing.left (suc more) f
          ∙ write_from (own_store first) (own_store s) (datum first key) (datum s key) (datum first value) (datum s value) (same_store first s writing.grown.only_texts) (writing.grown.keeps key k).1 (writing.grown.keeps value x).1 (suc more) more (datum s at) (datum t v) (step.0 more);
    }

pub writing_done : {first s : HeapState} {on key value at : Value} {limit tried : ℕ} (t : HeapState) (act : Act) → IsWriting first s on key value at limit tried → IsOf first key → IsOf first value → tried < limit → (r : ControlFlow Act Value) → r ≡ Break act → IsWritten s t at key value r → (act_of t act, own_store t) ≡ set_index_within limit (own_store first) (datum first on) (datum first key) (datum first value)
writing_done {first} {s} {on} {key} {value} {at} {limit} {tried} t act writing k x below r is written =
    let step = written_is s t at key value r (Break act) is written in
    let more = limit - (tried + 1) in
    let f : suc more + tried ≡ limit = omega arith in
    outcome_from (own_store first) (own_store s) (datum first key) (datum s key) (datum first value) (datum s value) (same_store first s writing.grown.only_texts) (writing.grown.keeps key k).1 (writing.grown.keeps value x).1 (suc more) (datum s at) (act_of t act, own_store t) (step.0 more)
    ∙ sym (writing.left (suc more) f)

pub writing_over : {first s : HeapState} {on key value at : Value} {limit tried : ℕ} (t : HeapState) (v : Datum) → IsWriting first s on key value at limit tried → tried ≡ limit → Grown s t → v ≡ text (codes "loop in settable") → (model.failure v, own_store t) ≡ set_index_within limit (own_store first) (datum first on) (datum first key) (datum first value)
writing_over {first} {s} {on} {key} {value} {at} {limit} {tried} t v writing e g is =
    let same : own_store t ≡ own_store first = same_store s t g.only_texts ∙ same_store first s writing.grown.only_texts in
    let none : 0 + tried ≡ limit = omega arith in
    let left : set_index_within limit (own_store first) (datum first on) (datum first key) (datum first value) ≡ (fail_text (codes "loop in settable"), own_store first) = writing.left 0 none in
    let pair : (model.failure v, own_store t) ≡ (fail_text (codes "loop in settable"), own_store first) = λ i. (model.failure (is i), same i) in
    pair ∙ sym left
