-- States that show registers and a heap: what their registers and constants are, and what a value in a register makes of them.
use Rattle.std.proofs.Common.{◌≡◌, ℕ, ◌<◌, List, [], length, get_or, Option, Some, None, refl, sym, ap, ◌∙◌, length-set}
use Rattle.std.specs.Prelude.{ℤ, slice_get, slice_set, option_map, option_and_then}
use Rattle.opcode.specs.Reading.{instr_of}
use Rattle.std.proofs.lemmas.Option.{slice_get-map, slice_get-get_or}
use Rattle.std.proofs.lemmas.List.{map-set}
use Rattle.std.proofs.lemmas.List.Elements.{All-set}
use Rattle.proto.specs.Chunk.{own}
use Rattle.lua_model.specs.declared.Value.{Value}
use Rattle.lua_model.specs.declared.TextId.{TextId}
use Rattle.lua_model.specs.declared.Value.TheVariants.{Nil, Bool as Boolean, Number, Text as TextValue, Table as TableValue, Closure as ClosureValue, Native, Host as HostValue}
use Rattle.lua_model.specs.Datum.{Datum}
use Rattle.lua_model.specs.Store.{Store, Host}
use Rattle.lua_model.specs.Acts as model
use Rattle.lua_heap.specs.State.{HeapState, datum, IsOf, AreOf, Keeps, OnlyTexts, store_of, own_store}
use Rattle.lua_heap.proofs.Callers.{keeps_itself, data_are_kept, values_are_kept}
use Rattle.meta_ops.specs.declared.act.Act.{Act}
use Rattle.meta_ops.specs.Acts.{act_of, IsActOf}
use Rattle.rules.specs.Places.{jmp_of}
use Rattle.rules.specs.Calls.{next_jmp}
use Rattle.rules.specs.Step.{give, give_test}
use Rattle.rules.specs.State.{State, Effect, Goes, need, value_of, name_of, global_name, constant, register, set, with_registers}
use Rattle.machine.specs.declared.function.Function.{Function}
use Rattle.machine.specs.declared.did.Did.{Did}
use Rattle.machine.specs.Frames.{showing, effect_of}
use Rattle.machine.specs.Words.{Runs, IsTest, text_of, text_at, IsDidOf, IsAwaited, OnlyStore, Does}

pub constant_is : (m : State) (h : HeapState) (f : Function) (pc k : ℕ) (v : Value) → Runs m h f pc → slice_get f.constants.items k ≡ Some v → constant m k ≡ Some (datum h v)
constant_is m h f pc k v runs at =
    sym (slice_get-map value_of (own m.top.function).constants k)
    ∙ ap (λ ds. slice_get ds k) runs.constants
    ∙ slice_get-map (datum h) f.constants.items k
    ∙ ap (option_map (datum h)) at

-- a register that is there
pub there : (m : State) (h : HeapState) (values : List Value) (r : ℕ) → r < length values → (d : Datum) × (register (showing m h values) r ≡ Some d)
there m h values r within = (
  _,
  slice_get-map (datum h) values r ∙ ap (option_map (datum h)) (slice_get-get_or values r Nil within),
)

-- a value to a register
pub set_is : (m : State) (h : HeapState) (values : List Value) (a : ℕ) (v : Value) → a < length values → set (showing m h values) a (datum h v) ≡ Goes (showing m h (slice_set values a v))
set_is m h values a v within =
    let shown = showing m h values in
    let next : Datum → Effect = λ old. Goes (with_registers shown (slice_set shown.top.registers a (datum h v))) in
    ap (λ (o : Option Datum). need o next) (there m h values a within).1
    ∙ ap (λ ds. Goes (with_registers shown ds)) (sym (map-set (datum h) values a v))

-- a word that puts a value into a register and changes no heap
pub set_does : (effect : State → Effect) (h : HeapState) (f : Function) (values : List Value) (pc a : ℕ) (v : Value) → AreOf h values → IsOf h v → a < length values → ((m : State) → Runs m h f pc → effect (showing m h values) ≡ set (showing m h values) a (datum h v)) → Does effect h h f values (slice_set values a v) pc Did.Next
set_does effect h f values pc a v known is_of within is = record {
  is = λ m runs. is m runs ∙ set_is m h values a v within;
  known = tt;
  awaited = tt;
  registers = All-set (IsOf h) values a v is_of known;
  length_is = length-set values a v;
  keeps = keeps_itself h;
  only_store = refl;
}

-- ---- needs that are met

pub one_need : (o : Option Datum) (x : Datum) (next : Datum → Effect) → o ≡ Some x → need o next ≡ next x
one_need o x next e i = need (e i) next

pub two_needs : (o p : Option Datum) (x y : Datum) (next : Datum → Datum → Effect) → o ≡ Some x → p ≡ Some y → need o (λ x. need p (λ y. next x y)) ≡ next x y
two_needs o p x y next e f i = need (e i) (λ x. need (f i) (λ y. next x y))

-- ---- a heap of which only texts changed

pub shown_alike : (m : State) (old new : HeapState) (values : List Value) → OnlyTexts old new → Keeps old new → AreOf old values → showing m new values ≡ showing m old values
shown_alike m old new values only keeps known i =
    record m { top = record m.top { registers = data_are_kept old new keeps values known i }; store = store_of (only i) m.store.hosts }

pub only_store_by : (old new : HeapState) → OnlyTexts old new → OnlyStore old new
only_store_by old new only = only ∙ (λ i. record old { texts = new.texts; tables = same_tables i; globals = same_globals i })
  where
    same_tables : old.tables ≡ new.tables
    same_tables = sym (ap (λ (h : HeapState). h.tables) only)

    same_globals : old.globals ≡ new.globals
    same_globals = sym (ap (λ (h : HeapState). h.globals) only)

-- a word whose operator's answer goes to a register
pub give_does : (effect : State → Effect) (old new : HeapState) (f : Function) (before behind : List Value) (pc a : ℕ) (act : Act) (did : Did) (answer : Store → model.Act) → AreOf old before → OnlyTexts old new → Keeps old new → act_of new act ≡ answer (own_store old) → IsActOf new act → ((hosts : List Host) → answer (store_of old hosts) ≡ answer (own_store old)) → ((m : State) → Runs m old f pc → effect (showing m old before) ≡ give (showing m old before) a (answer (store_of old m.store.hosts))) → ((h : HeapState) (m : State) → give (showing m h before) a (act_of h act) ≡ effect_of h did (showing m h behind)) → ((h : HeapState) → IsActOf h act → IsDidOf h did) → ((h : HeapState) → IsActOf h act → AreOf h before → AreOf h behind) → length behind ≡ length before → IsAwaited f behind pc did → Does effect old new f before behind pc did
give_does effect old new f before behind pc a act did answer known only keeps acts act_known beside is gives did_known registers length_is awaited = record {
  is = λ m runs.
      is m runs
      ∙ ap (give (showing m old before) a) (beside m.store.hosts ∙ sym acts)
      ∙ ap (λ s. give s a (act_of new act)) (sym (shown_alike m old new before only keeps known))
      ∙ gives new m;
  known = did_known new act_known;
  awaited = awaited;
  registers = registers new act_known (values_are_kept old new keeps before known);
  length_is = length_is;
  keeps = keeps;
  only_store = only_store_by old new only;
}

-- ---- the function that runs

-- registers and a store do not change which function runs
pub shown_runs : (m : State) (h : HeapState) (f : Function) (values : List Value) (pc : ℕ) → Runs m h f pc → Runs (showing m h values) h f pc
shown_runs m h f values pc runs = record { pc_is = runs.pc_is; code = runs.code; constants = runs.constants }

-- nor does a heap that keeps its constants
pub runs_on : (old new : HeapState) (f : Function) → Keeps old new → AreOf old f.constants.items → (m : State) (pc : ℕ) → Runs m old f pc → Runs m new f pc
runs_on old new f keeps known m pc runs = record { pc_is = runs.pc_is; code = runs.code; constants = runs.constants ∙ sym (data_are_kept old new keeps f.constants.items known) }

-- ---- words that change nothing but the pc

pub same_does : (effect : State → Effect) (h : HeapState) (f : Function) (values : List Value) (pc : ℕ) (did : Did) → AreOf h values → IsDidOf h did → IsAwaited f values pc did → ((m : State) → Runs m h f pc → effect (showing m h values) ≡ effect_of h did (showing m h values)) → Does effect h h f values values pc did
same_does effect h f values pc did known did_known awaited is = record {
  is = is;
  known = did_known;
  awaited = awaited;
  registers = known;
  length_is = refl;
  keeps = keeps_itself h;
  only_store = refl;
}

-- a test whose operator's answer is given to it
pub test_does : (effect : State → Effect) (old new : HeapState) (f : Function) (values : List Value) (pc a : ℕ) (act : Act) (did : Did) (answer : Store → model.Act) → AreOf old values → OnlyTexts old new → Keeps old new → act_of new act ≡ answer (own_store old) → IsActOf new act → ((hosts : List Host) → answer (store_of old hosts) ≡ answer (own_store old)) → ((m : State) → Runs m old f pc → effect (showing m old values) ≡ give_test (showing m old values) a (answer (store_of old m.store.hosts))) → ((m : State) (pc : ℕ) → Runs m old f pc → Runs m new f pc) → ((h : HeapState) (m : State) → Runs m h f pc → give_test m a (act_of h act) ≡ effect_of h did m) → ((h : HeapState) → IsActOf h act → IsDidOf h did) → IsAwaited f values pc did → Does effect old new f values values pc did
test_does effect old new f values pc a act did answer known only keeps acts act_known beside is kept gives did_known awaited = record {
  is = λ m runs.
      is m runs
      ∙ ap (give_test (showing m old values) a) (beside m.store.hosts ∙ sym acts)
      ∙ ap (λ s. give_test s a (act_of new act)) (sym (shown_alike m old new values only keeps known))
      ∙ gives new (showing m new values) (shown_runs m new f values pc (kept m pc runs));
  known = did_known new act_known;
  awaited = awaited;
  registers = values_are_kept old new keeps values known;
  length_is = refl;
  keeps = keeps;
  only_store = only_store_by old new only;
}

-- ---- tests

-- the JMP behind a test
pub jmp_is : (m : State) (h : HeapState) (f : Function) (pc : ℕ) (test : IsTest f pc) → Runs m h f pc → next_jmp m ≡ Some test.s
jmp_is m h f pc test runs = (λ i. jmp_of (option_and_then instr_of (slice_get (runs.code i) (runs.pc_is i)))) ∙ test.jmp

pub jmp_need : (m : State) (h : HeapState) (f : Function) (pc : ℕ) (test : IsTest f pc) → Runs m h f pc → (next : ℤ → Effect) → need (next_jmp m) next ≡ next test.s
jmp_need m h f pc test runs next = ap (λ o. need o next) (jmp_is m h f pc test runs)

pub three_needs : (o p q : Option Datum) (x y z : Datum) (next : Datum → Datum → Datum → Effect) → o ≡ Some x → p ≡ Some y → q ≡ Some z → need o (λ x. need p (λ y. need q (λ z. next x y z))) ≡ next x y z
three_needs o p q x y z next e f g i = need (e i) (λ x. need (f i) (λ y. need (g i) (λ z. next x y z)))

-- the same effect, from other registers
pub does_from : (effect next : State → Effect) (old new : HeapState) (f : Function) (before between behind : List Value) (pc : ℕ) (did : Did) → length between ≡ length before → ((m : State) → Runs m old f pc → effect (showing m old before) ≡ next (showing m old between)) → Does next old new f between behind pc did → Does effect old new f before behind pc did
does_from effect next old new f before between behind pc did same leads does = record {
  is = λ m runs. leads m runs ∙ does.is m runs;
  known = does.known;
  awaited = does.awaited;
  registers = does.registers;
  length_is = does.length_is ∙ same;
  keeps = does.keeps;
  only_store = does.only_store;
}

-- ---- names of globals

name_of_value : (h : HeapState) (v : Value) → name_of (datum h v) ≡ option_map (λ t. get_or h.texts t.index []) (text_of v)
name_of_value h Nil = refl
name_of_value h (Boolean b) = refl
name_of_value h (Number n) = refl
name_of_value h (TextValue t) = refl
name_of_value h (TableValue t) = refl
name_of_value h (ClosureValue c) = refl
name_of_value h (Native n) = refl
name_of_value h (HostValue k) = refl

name_in : (h : HeapState) (o : Option Value) → option_and_then name_of (option_map (datum h) o) ≡ option_map (λ t. get_or h.texts t.index []) (option_and_then text_of o)
name_in h None = refl
name_in h (Some v) = name_of_value h v

pub name_need : (m : State) (h : HeapState) (f : Function) (pc k : ℕ) (t : TextId) → Runs m h f pc → text_at f k ≡ Some t → (next : List ℕ → Effect) → need (global_name m k) next ≡ next (get_or h.texts t.index [])
name_need m h f pc k t runs at next = ap (λ o. need o next) name
  where
    name : global_name m k ≡ Some (get_or h.texts t.index [])
    name =
        ap (option_and_then name_of) (sym (slice_get-map value_of (own m.top.function).constants k) ∙ ap (λ ds. slice_get ds k) runs.constants ∙ slice_get-map (datum h) f.constants.items k)
        ∙ name_in h (slice_get f.constants.items k)
        ∙ ap (option_map (λ (t : TextId). get_or h.texts t.index [])) at
