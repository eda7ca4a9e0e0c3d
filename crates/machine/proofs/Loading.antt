-- Functions of a chunk that are loaded one after another: what was loaded stays so, and each number leads to its function.
use Rattle.std.proofs.Common.{◌≡◌, ◌⊎◌, inl, inr, ℕ, zero, suc, ◌+◌, ◌-◌, ◌<◌, ◌^◌, List, [], ◌∷◌, ◌++◌, length, length-append, append_assoc, map, take, get_or, None, Some, refl, sym, ap, subst, ◌∙◌, arith}
use Rattle.std.specs.Prelude.{Option, slice_get, option_map, option_and_then}
use Rattle.std.proofs.lemmas.List.{append-nil, map-append, take_more}
use Rattle.std.proofs.lemmas.List.Elements.{All-nil, All-push}
use Rattle.std.proofs.lemmas.Option.{slice_get-map}
use Rattle.proto.specs.declared.parts.Constant.{Constant}
use Rattle.proto.specs.Chunk.{Chunk, Functions, function, no_functions, and_function, functions, functions_of, function_at, own}
use Rattle.proto.specs.declared.proto.Proto.{Proto, out-Proto}
use Rattle.proto.specs.View.{view_proto, view_protos}
use Rattle.proto.proofs.Views.{own_fields, view_proto_fields}
use Rattle.lua_model.specs.declared.Value.{Value}
use Rattle.lua_heap.specs.State.{HeapState, datum, IsOf, AreOf, Keeps}
use Rattle.lua_heap.proofs.Callers.{keeps_itself, data_are_kept, values_are_kept}
use Rattle.rules.specs.State.{value_of}
use Rattle.rules.proofs.Lists.{get_front, get_last, none_some, some_one}
use Rattle.machine.specs.declared.function.Function.{Function}
use Rattle.machine.specs.Frames.{data_of}
use Rattle.machine.specs.Decoded.{decoded_of}
use Rattle.machine.specs.Loaded.{IsLoadedAs, AreLoaded, all_functions, all_in}
use Rattle.machine.specs.Loading.{list_of, LeadTo, AreSoFar, Loads, LoadsAll}

-- ---- the functions of a chunk

-- the last is the main function
pub main_is : (c : Chunk) → slice_get (all_functions c) (length (all_functions c) - 1) ≡ Some c
main_is (function f inner) =
    let c = function f inner in
    let before = all_in inner in
    let place : length (before ++ c ∷ []) - 1 ≡ length before = omega (arith, length-append before (c ∷ [])) in
    ap (slice_get (before ++ c ∷ [])) place ∙ get_last before c

all_in-push : (cs : List Chunk) (c : Chunk) → all_in (functions_of (cs ++ c ∷ [])) ≡ all_in (functions_of cs) ++ all_functions c
all_in-push [] c = append-nil (all_functions c)
all_in-push (d ∷ cs) c = ap (λ more. all_functions d ++ more) (all_in-push cs c) ∙ sym (append_assoc (all_functions d) (all_in (functions_of cs)) (all_functions c))

list_of_is : (cs : List Chunk) → list_of (functions_of cs) ≡ cs
list_of_is [] = refl
list_of_is (c ∷ cs) = ap (λ more. c ∷ more) (list_of_is cs)

list_of_at : (inner : Functions) (n : ℕ) → slice_get (list_of inner) n ≡ function_at inner n
list_of_at no_functions n = refl
list_of_at (and_function c rest) zero = refl
list_of_at (and_function c rest) (suc n) = list_of_at rest n

-- ---- numbers that lead to functions

abbrev flat : {A : Type 0} → Option (Option A) → Option A
flat None = None
flat (Some o) = o

and_then_flat : {A B : Type 0} (f : A → Option B) (o : Option A) → option_and_then f o ≡ flat (option_map f o)
and_then_flat f None = refl
and_then_flat f (Some x) = refl

flat_some : {A : Type 0} (o : Option A) → flat (option_map (λ x. Some x) o) ≡ o
flat_some None = refl
flat_some (Some x) = refl

lead_at : (all : List Chunk) (numbers : List ℕ) (inner : Functions) → LeadTo all numbers inner → (n : ℕ) → option_and_then (slice_get all) (slice_get numbers n) ≡ function_at inner n
lead_at all numbers inner lead n =
    and_then_flat (slice_get all) (slice_get numbers n)
    ∙ ap flat (sym (slice_get-map (slice_get all) numbers n) ∙ ap (λ (os : List (Option Chunk)). slice_get os n) lead ∙ slice_get-map (λ c. Some c) (list_of inner) n)
    ∙ flat_some (slice_get (list_of inner) n)
    ∙ list_of_at inner n

-- more functions change nothing
lead_front : (all more : List Chunk) (numbers : List ℕ) (cs : List Chunk) → map (slice_get all) numbers ≡ map (λ c. Some c) cs → map (slice_get (all ++ more)) numbers ≡ map (λ c. Some c) cs
lead_front all more [] cs e = e
lead_front all more (n ∷ numbers) [] e = cc
lead_front all more (n ∷ numbers) (c ∷ cs) e =
    let first : slice_get all n ≡ Some c = cc in
    let rest : map (slice_get all) numbers ≡ map (λ c. Some c) cs = cc in
    let there = get_front all more n c first in
    let others = lead_front all more numbers cs rest in
    λ i. there i ∷ others i

lead_more : (all more : List Chunk) (numbers : List ℕ) (inner : Functions) → LeadTo all numbers inner → LeadTo (all ++ more) numbers inner
lead_more all more numbers inner lead = lead_front all more numbers (list_of inner) lead

lead_push : (all : List Chunk) (numbers : List ℕ) (cs : List Chunk) (number : ℕ) (c : Chunk) → LeadTo all numbers (functions_of cs) → slice_get all number ≡ Some c → LeadTo all (numbers ++ number ∷ []) (functions_of (cs ++ c ∷ []))
lead_push all numbers cs number c lead there =
    map-append (slice_get all) numbers (number ∷ [])
    ∙ (λ i. lead i ++ there i ∷ [])
    ∙ ap (λ ds. map (λ d. Some d) ds ++ Some c ∷ []) (list_of_is cs)
    ∙ sym (map-append (λ d. Some d) cs (c ∷ []))
    ∙ ap (map (λ d. Some d)) (sym (list_of_is (cs ++ c ∷ [])))

-- ---- functions that are loaded

-- in a heap that has grown, behind more functions
still_loaded : (s t : HeapState) (all more : List Chunk) (c : Chunk) (f : Function) → Keeps s t → LeadTo more f.inner.items (functions c) → IsLoadedAs s all c f → IsLoadedAs t more c f
still_loaded s t all more c f keeps lead is = record {
  code = is.code;
  room = is.room;
  words = is.words;
  constants = is.constants ∙ sym (data_are_kept s t keeps f.constants.items is.known);
  known = values_are_kept s t keeps f.constants.items is.known;
  inner = lead_at more f.inner.items (functions c) lead;
  upvalues = is.upvalues;
  params = is.params;
  vararg = is.vararg;
  registers = is.registers;
}

none_so_far : (s : HeapState) → AreSoFar s [] []
none_so_far s = record {
  loaded = record { count = refl; each = λ n c f at there. none_some c at };
  lead = λ n c f at there. none_some c at;
}

so_far_kept : (s t : HeapState) (all : List Chunk) (fs : List Function) → Keeps s t → AreSoFar s all fs → AreSoFar t all fs
so_far_kept s t all fs keeps so = record {
  loaded = record {
    count = so.loaded.count;
    each = λ n c f at there. still_loaded s t all all c f keeps (so.lead n c f at there) (so.loaded.each n c f at there);
  };
  lead = so.lead;
}

pushed_both : {A B : Type 0} (xs : List A) (ys : List B) (x a : A) (y b : B) (n : ℕ) → length ys ≡ length xs → slice_get (xs ++ x ∷ []) n ≡ Some a → slice_get (ys ++ y ∷ []) n ≡ Some b → ((slice_get xs n ≡ Some a) × (slice_get ys n ≡ Some b)) ⊎ ((x ≡ a) × (y ≡ b))
pushed_both [] [] x a y b zero same e f = inr (some_one x a e, some_one y b f)
pushed_both [] [] x a y b (suc n) same e f = inl (e, f)
pushed_both [] (q ∷ ys) x a y b n same e f = absurd (omega arith)
pushed_both (p ∷ xs) [] x a y b n same e f = absurd (omega arith)
pushed_both (p ∷ xs) (q ∷ ys) x a y b zero same e f = inl (e, f)
pushed_both (p ∷ xs) (q ∷ ys) x a y b (suc n) same e f = pushed_both xs ys x a y b n (omega arith) e f

so_far_push : (h : HeapState) (all : List Chunk) (fs : List Function) (c : Chunk) (f : Function) → AreSoFar h all fs → LeadTo all f.inner.items (functions c) → IsLoadedAs h all c f → AreSoFar h (all ++ c ∷ []) (fs ++ f ∷ [])
so_far_push h all fs c f so lead is = record {
  loaded = record {
    count = length-append fs (f ∷ []) ∙ ap (λ n. n + 1) so.loaded.count ∙ sym (length-append all (c ∷ []));
    each = λ n d g at there. still_loaded h h all (all ++ c ∷ []) d g (keeps_itself h) (both n d g at there).0 (both n d g at there).1;
  };
  lead = λ n d g at there. (both n d g at there).0;
}
  where
    both : (n : ℕ) (d : Chunk) (g : Function) → slice_get (all ++ c ∷ []) n ≡ Some d → slice_get (fs ++ f ∷ []) n ≡ Some g → LeadTo (all ++ c ∷ []) g.inner.items (functions d) × IsLoadedAs h all d g
    both n d g at there = elim (pushed_both all fs c d f g n so.loaded.count at there) [
      | inl p ↦ (lead_more all (c ∷ []) g.inner.items (functions d) (so.lead n d g p.0 p.1), so.loaded.each n d g p.0 p.1)
      | inr p ↦
          let P : Chunk → Function → Type 0 = λ e k. LeadTo (all ++ c ∷ []) k.inner.items (functions e) × IsLoadedAs h all e k in
          subst (λ e. P e g) p.0 (subst (λ k. P c k) p.1 (lead_more all (c ∷ []) f.inner.items (functions c) lead, is))
    ]

-- ---- one function

pub inner_are : (p : Proto) (inner : Functions) → view_protos (out-Proto p).functions ≡ inner → inner ≡ functions (view_proto p)
inner_are p inner is = sym is ∙ sym (ap functions (view_proto_fields p))

pub made_is : (h : HeapState) (all : List Chunk) (p : Proto) (f : Function) → f.code.items ≡ (out-Proto p).code → length f.code.items < 2 ^ 32 → f.words.items ≡ map decoded_of f.code.items → map value_of (out-Proto p).constants ≡ data_of h f.constants.items → AreOf h f.constants.items → LeadTo all f.inner.items (functions (view_proto p)) → f.upvalues ≡ (out-Proto p).upvalues → f.params ≡ (out-Proto p).params → f.vararg ≡ (out-Proto p).vararg → f.registers ≡ (out-Proto p).registers → IsLoadedAs h all (view_proto p) f
made_is h all p f code room words constants known lead upvalues params vararg registers =
    let same : own_fields p ≡ own (view_proto p) = sym (ap own (view_proto_fields p)) in
    record {
      code = code ∙ ap (λ o. o.code) same;
      room = room;
      words = words;
      constants = ap (λ o. map value_of o.constants) (sym same) ∙ constants;
      known = known;
      inner = lead_at all f.inner.items (functions (view_proto p)) lead;
      upvalues = upvalues ∙ ap (λ o. o.upvalues) same;
      params = params ∙ ap (λ o. o.params) same;
      vararg = vararg ∙ ap (λ o. o.flags) same;
      registers = registers ∙ ap (λ o. o.registers) same;
    }

all_functions_are : (c : Chunk) → all_functions c ≡ all_in (functions c) ++ c ∷ []
all_functions_are (function f inner) = refl

pub loads_one : (s t u : HeapState) (before between behind : List Function) (c : Chunk) (numbers : List ℕ) (f : Function) → LoadsAll s t before between (functions c) numbers → Keeps t u → f.inner.items ≡ numbers → ((all : List Chunk) → LeadTo all numbers (functions c) → IsLoadedAs u all c f) → behind ≡ between ++ f ∷ [] → Loads s u before behind c (length between)
loads_one s t u before between behind c numbers f inner keeps same is pushed = record {
  loaded = λ all so.
      let front = all ++ all_in (functions c) in
      let lead = inner.lead all so in
      let own_lead : LeadTo front f.inner.items (functions c) = subst (λ (ns : List ℕ). LeadTo front ns (functions c)) (sym same) lead in
      let done = so_far_push u front between c f (so_far_kept t u front between keeps (inner.loaded all so)) own_lead (is front lead) in
      subst (λ (cs : List Chunk). AreSoFar u cs behind) (together all) (subst (λ (fs : List Function). AreSoFar u (front ++ c ∷ []) fs) (sym pushed) done);
  lead = λ all so.
      let front = all ++ all_in (functions c) in
      (λ i. slice_get (sym (together all) i) ((inner.loaded all so).loaded.count i)) ∙ get_last front c;
}
  where
    together : (all : List Chunk) → (all ++ all_in (functions c)) ++ c ∷ [] ≡ all ++ all_functions c
    together all = append_assoc all (all_in (functions c)) (c ∷ []) ∙ ap (λ cs. all ++ cs) (sym (all_functions_are c))

pub loaded_all : (s t : HeapState) (c : Chunk) (fs : List Function) (number : ℕ) → Loads s t [] fs c number → AreLoaded t (all_functions c) fs
loaded_all s t c fs number loads = (loads.loaded [] (none_so_far s)).loaded

-- ---- one function after another

pub loads_none : (s : HeapState) (fs : List Function) → LoadsAll s s fs fs no_functions []
loads_none s fs = record {
  loaded = λ all so. subst (λ (cs : List Chunk). AreSoFar s cs fs) (sym (append-nil all)) so;
  lead = λ all so. refl;
}

pub loads_next : (s t u : HeapState) (before between behind : List Function) (cs : List Chunk) (c : Chunk) (numbers : List ℕ) (number : ℕ) → LoadsAll s t before between (functions_of cs) numbers → Loads t u between behind c number → LoadsAll s u before behind (functions_of (cs ++ c ∷ [])) (numbers ++ number ∷ [])
loads_next s t u before between behind cs c numbers number first next = record {
  loaded = λ all so.
      let front = all ++ all_in (functions_of cs) in
      subst (λ (ds : List Chunk). AreSoFar u ds behind) (together all) (next.loaded front (first.loaded all so));
  lead = λ all so.
      let front = all ++ all_in (functions_of cs) in
      let whole = front ++ all_functions c in
      let there : slice_get whole number ≡ Some c = next.lead front (first.loaded all so) in
      let lead : LeadTo whole numbers (functions_of cs) = lead_more front (all_functions c) numbers (functions_of cs) (first.lead all so) in
      subst (λ (ds : List Chunk). LeadTo ds (numbers ++ number ∷ []) (functions_of (cs ++ c ∷ []))) (together all) (lead_push whole numbers cs number c lead there);
}
  where
    together : (all : List Chunk) → (all ++ all_in (functions_of cs)) ++ all_functions c ≡ all ++ all_in (functions_of (cs ++ c ∷ []))
    together all = append_assoc all (all_in (functions_of cs)) (all_functions c) ∙ ap (λ ds. all ++ ds) (sym (all_in-push cs c))

-- the functions before the next place
abbrev pub first_of : List Proto → ℕ → Functions
first_of protos n = functions_of (map view_proto (take n protos))

pub loads_more : (s t u : HeapState) (before between behind : List Function) (protos : List Proto) (k : ℕ) (p : Proto) (numbers pushed : List ℕ) (number : ℕ) → k < length protos → p ≡ get_or protos k p → LoadsAll s t before between (first_of protos k) numbers → Loads t u between behind (view_proto p) number → pushed ≡ numbers ++ number ∷ [] → LoadsAll s u before behind (first_of protos (k + 1)) pushed
loads_more s t u before between behind protos k p numbers pushed number low at first next push =
    let cs = map view_proto (take k protos) in
    let more : map view_proto (take (k + 1) protos) ≡ cs ++ view_proto p ∷ [] =
    ap (map view_proto) (take_more protos k p low ∙ ap (λ q. take k protos ++ q ∷ []) (sym at)) ∙ map-append view_proto (take k protos) (p ∷ [])
    in
    let done = loads_next s t u before between behind cs (view_proto p) numbers number first next in
    let P : List Chunk → List ℕ → Type 0 = λ ds ns. LoadsAll s u before behind (functions_of ds) ns in
    subst (λ ds. P ds pushed) (sym more) (subst (λ ns. P (cs ++ view_proto p ∷ []) ns) (sym push) done)

-- ---- constants

-- values of a heap that are these constants
pub record AreConstants (h : HeapState) (constants : List Constant) (values : List Value) : Type 0 where
  pub same : map value_of constants ≡ data_of h values
  pub known : AreOf h values

pub no_constants : (h : HeapState) → AreConstants h [] []
no_constants h = record { same = refl; known = All-nil (IsOf h) }

pub constants_more : (s t : HeapState) (constants : List Constant) (k : ℕ) (constant : Constant) (values pushed : List Value) (v : Value) → k < length constants → constant ≡ get_or constants k constant → Keeps s t → AreConstants s (take k constants) values → value_of constant ≡ datum t v → IsOf t v → pushed ≡ values ++ v ∷ [] → AreConstants t (take (k + 1) constants) pushed
constants_more s t constants k constant values pushed v low at keeps so is known push =
    let kept = data_are_kept s t keeps values so.known in
    record {
      same =
          ap (map value_of) (take_more constants k constant low ∙ ap (λ q. take k constants ++ q ∷ []) (sym at))
          ∙ map-append value_of (take k constants) (constant ∷ [])
          ∙ (λ i. (so.same ∙ sym kept) i ++ is i ∷ [])
          ∙ sym (map-append (datum t) values (v ∷ []))
          ∙ ap (data_of t) (sym push);
      known = subst (λ (vs : List Value). AreOf t vs) (sym push) (All-push (IsOf t) values v (values_are_kept s t keeps values so.known) known);
    }
