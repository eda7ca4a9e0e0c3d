-- CONCAT: values in registers are joined to a running value, one after another.
use Rattle.std.proofs.Common.{◌≡◌, ℕ, suc, ◌+◌, ◌<◌, ◌≤◌, List, [], ◌++◌, length, Some, refl, sym, ap, subst, ◌⊎◌, inl, inr, ◌∙◌, arith, length-set, append_assoc}
use Rattle.std.specs.Prelude.{Option, true, is_some, option_and_then, slice_get, slice_set}
use Rattle.std.proofs.lemmas.Bool.{cases_lt}
use Rattle.std.proofs.lemmas.List.Elements.{All-set}
use Rattle.lua_model.specs.declared.Value.{Value}
use Rattle.lua_num.specs.Bytes.{Text}
use Rattle.lua_model.specs.Datum.{Datum, text, first_of, to_text}
use Rattle.lua_model.specs.Acts as model
use Rattle.lua_model.specs.Operators.{join as join_two, join_on}
use Rattle.lua_heap.specs.State.{HeapState, datum, IsOf, AreOf, own_store}
use Rattle.lua_heap.specs.Grown.{Grown}
use Rattle.lua_heap.proofs.Callers.{values_are_kept}
use Rattle.meta_ops.proofs.Tries.{grown_itself, grown_both}
use Rattle.meta_ops.specs.declared.act.Act.{Act}
use Rattle.meta_ops.specs.Acts.{act_of, IsActOf}
use Rattle.rules.specs.State.{State, Effect, register, pairs}
use Rattle.rules.specs.Calls.{answer, join}
use Rattle.machine.specs.declared.function.Function.{Function}
use Rattle.machine.specs.declared.did.Did.{Did}
use Rattle.machine.specs.Frames.{data_of, showing, effect_of}
use Rattle.machine.specs.Words.{IsDidOf, IsAwaited, Does}
use Rattle.machine.specs.Joining.{IsJoining, text_at}
use Rattle.machine.proofs.Beside.{join_beside}
use Rattle.machine.proofs.Showing.{one_need, shown_alike, set_is, only_store_by}

pub joining_start : (h : HeapState) (values : List Value) (a first count : ℕ) (v : Value) → AreOf h values → IsOf h v → IsJoining h h values a first count count v v
joining_start h values a first count v known v_known = record {
  grown = grown_itself h;
  known = known;
  value_known = v_known;
  fewer = omega arith;
  leaves = λ m. refl;
}

module _ (first_heap now new : HeapState) (values : List Value) (a first count left n : ℕ) (start value x : Value) (act : Act) (joining : IsJoining first_heap now values a first count left start value) (is_left : left ≡ suc n) (at : (m : State) → register (showing m now values) (first + n) ≡ Some (datum now x)) (grown : Grown now new) (acts : act_of new act ≡ join_two (own_store now) (datum now x) (datum now value)) where
  abbrev pub answered : State → model.Act → Effect
  answered s act = answer (pairs a first n) (λ m1 vs. join m1 a first n (first_of vs)) (λ m1 w. join m1 a first n w) s act

  known_now : AreOf now values
  known_now = values_are_kept first_heap now joining.grown.keeps values joining.known

  -- one pair is joined
  pub one_pair : (m : State) → join (showing m first_heap values) a first count (datum first_heap start) ≡ answered (showing m new values) (act_of new act)
  one_pair m =
      let s = showing m now values in
      joining.leaves m
      ∙ ap (λ k. join s a first k (datum now value)) is_left
      ∙ one_need (register s (first + n)) (datum now x) (λ x. answered s (join_two s.store x (datum now value))) (at m)
      ∙ ap (answered s) (join_beside now m.store.hosts (datum now x) (datum now value) ∙ sym acts)
      ∙ ap (λ t. answered t (act_of new act)) (sym (shown_alike m now new values grown.only_texts grown.keeps known_now))

  pub joining_next : (w : Value) → act ≡ Act.Value w → IsActOf new act → IsJoining first_heap new values a first count n start w
  joining_next w is act_known = record {
    grown = grown_both first_heap now new joining.grown grown;
    known = joining.known;
    value_known = subst (IsActOf new) is act_known;
    fewer = omega (arith, joining.fewer, is_left);
    leaves = λ m. one_pair m ∙ ap (λ (b : Act). answered (showing m new values) (act_of new b)) is;
  }

  -- where a handler is asked, or the pair is not joined
  pub stops : (did : Did) (f : Function) (pc : ℕ) → ((m : State) → answered (showing m new values) (act_of new act) ≡ effect_of new did (showing m new values)) → IsDidOf new did → IsAwaited f values pc did → Does (λ m. join m a first count (datum first_heap start)) first_heap new f values values pc did
  stops did f pc is did_known awaited =
      let all = grown_both first_heap now new joining.grown grown in
      record {
        is = λ m runs. one_pair m ∙ is m;
        known = did_known;
        awaited = awaited;
        registers = values_are_kept first_heap new all.keeps values joining.known;
        length_is = refl;
        keeps = all.keeps;
        only_store = only_store_by first_heap new all.only_texts;
      }

pub joined_all : (first_heap now : HeapState) (values : List Value) (a first count left : ℕ) (start value : Value) (f : Function) (pc : ℕ) → IsJoining first_heap now values a first count left start value → left ≡ 0 → a < length values → Does (λ m. join m a first count (datum first_heap start)) first_heap now f values (slice_set values a value) pc Did.Next
joined_all first_heap now values a first count left start value f pc joining none within = record {
  is = λ m runs.
      let s = showing m now values in
      joining.leaves m
      ∙ ap (λ k. join s a first k (datum now value)) none
      ∙ set_is m now values a value within;
  known = tt;
  awaited = tt;
  registers = All-set (IsOf now) values a value joining.value_known (values_are_kept first_heap now joining.grown.keeps values joining.known);
  length_is = length-set values a value;
  keeps = joining.grown.keeps;
  only_store = only_store_by first_heap now joining.grown.only_texts;
}

-- ---- texts in a row

-- one register more whose value is taken as a text
pub one_more_text : (h : HeapState) (values : List Value) (first count left n : ℕ) (x : Value) → left ≡ suc n → slice_get (data_of h values) (first + n) ≡ Some (datum h x) → is_some (to_text (datum h x)) ≡ true → ((place : ℕ) → left ≤ place → place < count → is_some (text_at h values (first + place)) ≡ true) → (place : ℕ) → n ≤ place → place < count → is_some (text_at h values (first + place)) ≡ true
one_more_text h values first count left n x is_left at is rest place low high = go (cases_lt n place)
  where
    go : (n < place) ⊎ (place ≤ n) → is_some (text_at h values (first + place)) ≡ true
    go (inl below) = rest place (omega (arith, below, is_left)) high
    go (inr same) = let e : n ≡ place = omega (arith, same, low) in subst (λ k. is_some (text_at h values (first + k)) ≡ true) e (ap (λ (o : Option Datum). is_some (option_and_then to_text o)) at ∙ is)

abbrev going_on : ℕ → ℕ → ℕ → State → model.Act → Effect
going_on a first k s act = answer (pairs a first k) (λ m1 vs. join m1 a first k (first_of vs)) (λ m1 w. join m1 a first k w) s act

module _ (h : HeapState) (values : List Value) (first left : ℕ) where
  -- what is joined in front of a text, or of a value that is taken as one, is joined to the whole
  pub record AreBefore (k : ℕ) (whole : Text) : Type 0 where
    pub of_text : (m : State) (a : ℕ) (y : Text) → join (showing m h values) a first k (text y) ≡ join (showing m h values) a first left (text (whole ++ y))
    pub of_value : left < k → (m : State) (a : ℕ) (v : Datum) (y : Text) → to_text v ≡ Some y → join (showing m h values) a first k v ≡ join (showing m h values) a first left (text (whole ++ y))

  pub none_before : AreBefore left []
  none_before = record {
    of_text = λ m a y. refl;
    of_value = λ low m a v y e. absurd (omega (arith, low));
  }

  one_text : (k : ℕ) (x : Value) (t : Text) → ((m : State) → register (showing m h values) (first + k) ≡ Some (datum h x)) → to_text (datum h x) ≡ Some t → (m : State) (a : ℕ) (v : Datum) (y : Text) → to_text v ≡ Some y → join (showing m h values) a first (suc k) v ≡ join (showing m h values) a first k (text (t ++ y))
  one_text k x t at is m a v y e =
      let s = showing m h values in
      one_need (register s (first + k)) (datum h x) (λ d. going_on a first k s (join_two s.store d v)) (at m)
      ∙ ap (λ (o : Option Text). going_on a first k s (join_on s.store (datum h x) v o (to_text v))) is
      ∙ ap (λ (o : Option Text). going_on a first k s (join_on s.store (datum h x) v (Some t) o)) e

  pub one_before : (k : ℕ) (whole : Text) (x : Value) (t : Text) → ((m : State) → register (showing m h values) (first + k) ≡ Some (datum h x)) → to_text (datum h x) ≡ Some t → AreBefore k whole → AreBefore (suc k) (whole ++ t)
  one_before k whole x t at is before = record {
    of_text = λ m a y. both m a (text y) y refl;
    of_value = λ low m a v y e. both m a v y e;
  }
    where
      both : (m : State) (a : ℕ) (v : Datum) (y : Text) → to_text v ≡ Some y → join (showing m h values) a first (suc k) v ≡ join (showing m h values) a first left (text ((whole ++ t) ++ y))
      both m a v y e =
          one_text k x t at is m a v y e
          ∙ before.of_text m a (t ++ y)
          ∙ ap (λ (z : Text). join (showing m h values) a first left (text z)) (sym (append_assoc whole t y))

-- where they are one text of a later heap, they are joined
pub texts_joined : (old new : HeapState) (values : List Value) (a first count left : ℕ) (start value : Value) (whole : Text) → AreOf old values → Grown old new → IsOf new value → left ≤ count → datum new value ≡ text whole → ((m : State) → join (showing m old values) a first count (datum old start) ≡ join (showing m old values) a first left (text whole)) → IsJoining old new values a first count left start value
texts_joined old new values a first count left start value whole known grown value_known fewer is leaves = record {
  grown = grown;
  known = known;
  value_known = value_known;
  fewer = fewer;
  leaves = λ m. leaves m
      ∙ ap (λ s. join s a first left (text whole)) (sym (shown_alike m old new values grown.only_texts grown.keeps known))
      ∙ ap (λ d. join (showing m new values) a first left d) (sym is);
}
