-- What a function that is called comes to, as what its answer comes to in the rules.
use Rattle.std.proofs.Common.{◌≡◌, refl, sym, ap, subst, ◌∙◌, ℕ, ◌<◌, Bool, true, false, codes, List, [], ◌∷◌, ◌++◌, length, map, get_or, Option, Some, None}
use Rattle.std.specs.Prelude.{option_map, slice_get, if◌then◌else◌}
use Rattle.std.proofs.lemmas.List.{append-nil}
use Rattle.std.proofs.lemmas.List.Elements.{All-nil, All-push}
use Rattle.std.proofs.lemmas.Option.{slice_get-map, slice_get-get_or}
use Rattle.lua_num.specs.Bytes.{Text}
use Rattle.proto.specs.Chunk.{Chunk}
use Rattle.lua_model.specs.declared.ClosureId.{ClosureId}
use Rattle.lua_model.specs.declared.Value.{Value}
use Rattle.lua_model.specs.declared.plain.Plain.{Plain}
use Rattle.lua_model.specs.declared.plain.Reply.{Reply as HostReply}
use Rattle.lua_model.specs.Acts as model
use Rattle.lua_model.specs.Datum.{Datum, boolean, text}
use Rattle.lua_model.specs.Store.{Store, Host, Event, Reply, replies_values, replies_failure, printed, asked, closed as closed_event, as_datum}
use Rattle.lua_model.specs.Builtins.{native, host_at, call_host, fails_with, plain_values, live_host, with_closed, one_result}
use Rattle.lua_heap.specs.State.{HeapState, datum, IsOf, AreOf, Keeps, OnlyTexts, OnlyTables, no_closure, store_of}
use Rattle.lua_heap.specs.Grown.{Grown}
use Rattle.lua_heap.proofs.Callers.{keeps_itself}
use Rattle.host.specs.Hosts.{HostState, HostSetState, NamesDiffer, is_live_at, names_of, number_of, called, closed}
use Rattle.natives.specs.declared.native_act.NativeAct.{NativeAct}
use Rattle.natives.specs.declared.hosts.HostAct.{HostAct}
use Rattle.natives.specs.Answers.{Answers, closing}
use Rattle.natives.specs.HostAnswers.{HostAnswers}
use Rattle.rules.specs.State.{State, Effect}
use Rattle.rules.specs.Calls.{given, failed_in, heard, answered, entered, apply}
use Rattle.machine.specs.declared.calling.Applied.{Applied}
use Rattle.machine.specs.Frames.{data_of}
use Rattle.machine.specs.Seen.{closure_seen}
use Rattle.machine.specs.Outside.{around, hosts_of, logged, replies_in, AreNamed, Happened}
use Rattle.machine.specs.Called.{Enters, Lands, beside, applied_as, IsAppliedOf, NothingHappened, Applies, Closes}
use Rattle.machine.proofs.HostsBeside.{names_are, host_is, hosts_called, names_called, names_closed, hosts_closed, hosts_closed_again, no_live, found_live}

-- ---- nothing happened

pub nothing : (pieces : List Text) (set : HostSetState) → Happened [] pieces pieces set set
nothing pieces set = record { pieces = sym (append-nil pieces); log = sym (append-nil set.log); names = refl; closes = refl }

-- what goes on from a state with no more events
none_more : (on : State → Effect) (m : State) (h : HeapState) (set : HostSetState) (events : List Event) (left : List Reply) → on (beside m h (around set events left)) ≡ on (beside m h (around set (events ++ []) left))
none_more on m h set events left i = on (beside m h (around set (sym (append-nil events) i) left))

-- where only texts of the heap changed, its store is the same
same_store : (old new : HeapState) (hosts : List Host) → OnlyTexts old new → store_of old hosts ≡ store_of new hosts
same_store old new hosts only = ap (λ h. store_of h hosts) (sym only)

tables_too : (old new : HeapState) → OnlyTexts old new → OnlyTables old new
tables_too old new only = only ∙ (λ i. record old { texts = new.texts; tables = same_tables i })
  where
    same_tables : old.tables ≡ new.tables
    same_tables = sym (ap (λ (h : HeapState). h.tables) only)

-- ---- a Lua function

enters_itself : (h : HeapState) (id : ClosureId) (args : List Value) (pieces : List Text) (set : HostSetState) → id.index < length h.closures → Applies (Value.Closure id) args h h pieces pieces set set (Applied.Enters id)
enters_itself h id args pieces set within = record {
  es = [];
  happened = nothing pieces set;
  is = λ c enters lands p again m events left closures.
      let there = ap (λ fs. slice_get fs id.index) closures ∙ slice_get-map (closure_seen c) h.closures id.index ∙ ap (option_map (closure_seen c)) (slice_get-get_or h.closures id.index no_closure within) in
      ap (λ f. entered enters lands p (beside m h (around set events left)) f (data_of h args)) there
      ∙ none_more (λ s. enters p s (closure_seen c (get_or h.closures id.index no_closure)) (data_of h args)) m h set events left;
  protects = tt;
  known = within;
  only_tables = refl;
  keeps = keeps_itself h;
}

pub enters_applies : (h : HeapState) (f : Value) (id : ClosureId) (args : List Value) (pieces : List Text) (set : HostSetState) → f ≡ Value.Closure id → IsOf h f → Applies f args h h pieces pieces set set (Applied.Enters id)
enters_applies h f id args pieces set is known =
    subst (λ (g : Value). Applies g args h h pieces pieces set set (Applied.Enters id)) (sym is) (enters_itself h id args pieces set (subst (IsOf h) is known))

-- a function that is called is this one
pub applies_as : (f g : Value) (args : List Value) (old new : HeapState) (pieces_before pieces_behind : List Text) (set behind : HostSetState) (applied : Applied) → f ≡ g → Applies g args old new pieces_before pieces_behind set behind applied → Applies f args old new pieces_before pieces_behind set behind applied
applies_as f g args old new pieces_before pieces_behind set behind applied is applies =
    subst (λ (h : Value). Applies h args old new pieces_before pieces_behind set behind applied) (sym is) applies

-- ---- a built-in function

pub results_apply : (old new : HeapState) (n : ℕ) (args : List Value) (pieces : List Text) (set : HostSetState) (vs : List Value) → AreNamed old set → Answers (native n) old new args (NativeAct.Values vs) → AreOf new vs → OnlyTables old new → Keeps old new → Applies (Value.Native n) args old new pieces pieces set set (Applied.Results vs)
results_apply old new n args pieces set vs named answers known only keeps = record {
  es = [];
  happened = nothing pieces set;
  is = λ c enters lands p again m events left closures.
      ap (answered enters lands p again (beside m old (around set events left))) (answers (hosts_of set) (names_are old set named))
      ∙ none_more (λ s. given enters lands p s (data_of new vs)) m new set events left;
  protects = tt;
  known = known;
  only_tables = only;
  keeps = keeps;
}

pub print_applies : (old new : HeapState) (n : ℕ) (args : List Value) (before behind : List Text) (set : HostSetState) (piece : Text) (vs : List Value) → AreNamed old set → Answers (native n) old new args (NativeAct.Print piece) → behind ≡ before ++ piece ∷ [] → vs ≡ [] → OnlyTexts old new → Keeps old new → Applies (Value.Native n) args old new before behind set set (Applied.Results vs)
print_applies old new n args before behind set piece vs named answers pushed none only keeps = record {
  es = printed piece ∷ [];
  happened = record { pieces = pushed; log = sym (append-nil set.log); names = refl; closes = refl };
  is = λ c enters lands p again m events left closures.
      let hosts = hosts_of set in
      ap (answered enters lands p again (beside m old (around set events left))) (answers hosts (names_are old set named))
      ∙ (λ i. given enters lands p (record (beside m old (around set (events ++ printed piece ∷ []) left)) { store = same_store old new hosts only i }) (data_of new (sym none i)));
  protects = tt;
  known = subst (λ (xs : List Value). AreOf new xs) (sym none) (All-nil (IsOf new));
  only_tables = tables_too old new only;
  keeps = keeps;
}

pub protects_applies : (old new : HeapState) (n : ℕ) (args : List Value) (pieces : List Text) (set : HostSetState) (f : Value) (xs : List Value) → AreNamed old set → Answers (native n) old new args (NativeAct.Protect f xs) → IsOf new f × AreOf new xs → OnlyTexts old new → Keeps old new → Applies (Value.Native n) args old new pieces pieces set set (Applied.Protects f xs)
protects_applies old new n args pieces set f xs named answers known only keeps = record {
  es = [];
  happened = nothing pieces set;
  is = λ c enters lands p again m events left closures.
      ap (answered enters lands p again (beside m old (around set events left))) (answers (hosts_of set) (names_are old set named));
  protects = (refl, only, refl);
  known = known;
  only_tables = tables_too old new only;
  keeps = keeps;
}

pub closes_applies : (old new : HeapState) (n : ℕ) (args : List Value) (pieces : List Text) (set behind : HostSetState) (name asked_for : Text) (was_live : Bool) (vs : List Value) → AreNamed old set → Answers (native n) old new args (NativeAct.CloseHost asked_for) → Closes name set behind was_live → name ≡ asked_for → vs ≡ Value.Bool was_live ∷ [] → OnlyTables old new → Keeps old new → Applies (Value.Native n) args old new pieces pieces set behind (Applied.Results vs)
closes_applies old new n args pieces set behind name asked_for was_live vs named answers closes same one only keeps = record {
  es = closes.es;
  happened = closes.happened pieces;
  is = λ c enters lands p again m events left closures.
      ap (answered enters lands p again (beside m old (around set events (replies_in closes.es ++ left)))) (answers (hosts_of set) (names_are old set named))
      ∙ ap (λ t. answered enters lands p again (beside m old (around set events (replies_in closes.es ++ left))) (closing t (store_of new (hosts_of set)))) (sym same)
      ∙ closes.is enters lands p again m old new events left
      ∙ ap (λ vs. given enters lands p (beside m new (around behind (events ++ closes.es) left)) (data_of new vs)) (sym one);
  protects = tt;
  known = subst (λ (xs : List Value). AreOf new xs) (sym one) (All-push (IsOf new) [] (Value.Bool was_live) (All-nil (IsOf new)) tt);
  only_tables = only;
  keeps = keeps;
}

-- ---- a failure of a built-in function, or of a host that is not asked

fails_applies : (f : Value) (act : Store → model.NativeAct) (old new : HeapState) (args : List Value) (pieces : List Text) (set : HostSetState) (v : Value) → ((enters : Enters) (lands : Lands) (p : ℕ) (again : Datum → List Datum → Effect) (m : State) → apply enters lands p again m (datum old f) (data_of old args) ≡ answered enters lands p again m (act m.store)) → act (store_of old (hosts_of set)) ≡ model.fails (datum new v) → IsOf new v → OnlyTexts old new → Keeps old new → Applies f args old new pieces pieces set set (Applied.Fails v)
fails_applies f act old new args pieces set v is fails known only keeps = record {
  es = [];
  happened = nothing pieces set;
  is = λ c enters lands p again m events left closures.
      let on : State → Effect = λ s. applied_as c new enters lands p again args (Applied.Fails v) s in
      is enters lands p again (beside m old (around set events left))
      ∙ ap (answered enters lands p again (beside m old (around set events left))) fails
      ∙ (λ i. on (record (beside m old (around set events left)) { store = same_store old new (hosts_of set) only i }))
      ∙ none_more on m new set events left;
  protects = tt;
  known = known;
  only_tables = tables_too old new only;
  keeps = keeps;
}

pub native_fails : (old new : HeapState) (n : ℕ) (args : List Value) (pieces : List Text) (set : HostSetState) (v : Value) → AreNamed old set → Answers (native n) old new args (NativeAct.Fail v) → IsOf new v → OnlyTexts old new → Keeps old new → Applies (Value.Native n) args old new pieces pieces set set (Applied.Fails v)
native_fails old new n args pieces set v named answers known only keeps =
    fails_applies (Value.Native n) (native n (data_of old args)) old new args pieces set v (λ enters lands p again m. refl) (answers (hosts_of set) (names_are old set named)) known only keeps

-- ---- a closing

-- what the closing of a host answers, where the live host of the name is this
abbrev closing_of : Option ℕ → Store → model.NativeAct
closing_of live s = elim live [ None ↦ one_result (boolean false) s | Some k ↦ model.closes k (with_closed s k) ]

pub closes_none : (name : Text) (set : HostSetState) → number_of name set.hosts ≡ None → Closes name set set false
closes_none name set none = record {
  es = [];
  happened = λ pieces. nothing pieces set;
  is = λ enters lands p again m old new events left.
      ap (λ live. answered enters lands p again (beside m old (around set events left)) (closing_of live (store_of new (hosts_of set)))) (no_live set name none)
      ∙ none_more (λ s. given enters lands p s (boolean false ∷ [])) m new set events left;
}

-- a live host, or one that was closed before
closes_as : (name : Text) (set : HostSetState) (k : ℕ) (was_live : Bool) → is_live_at set.hosts k ≡ was_live → live_host (hosts_of set) 0 name ≡ (if was_live then Some k else None) → Closes name set (closed set k) was_live
closes_as name set k true was live = record {
  es = closed_event k ∷ [];
  happened = λ pieces. record { pieces = sym (append-nil pieces); log = sym (append-nil set.log); names = names_closed set k; closes = hosts_closed set k };
  is = λ enters lands p again m old new events left.
      ap (λ live. answered enters lands p again (beside m old (around set events left)) (closing_of live (store_of new (hosts_of set)))) live
      ∙ (λ i. given enters lands p (record (beside m new (around set (events ++ closed_event k ∷ []) left)) { store = store_of new (sym (hosts_closed set k) i) }) (boolean true ∷ []));
}
closes_as name set k false was live = record {
  es = [];
  happened = λ pieces. record { pieces = sym (append-nil pieces); log = sym (append-nil set.log); names = names_closed set k; closes = hosts_closed_again set k was };
  is = λ enters lands p again m old new events left.
      ap (λ live. answered enters lands p again (beside m old (around set events left)) (closing_of live (store_of new (hosts_of set)))) live
      ∙ (λ i. given enters lands p (record (beside m new (around set (sym (append-nil events) i) left)) { store = store_of new (sym (hosts_closed_again set k was) i) }) (boolean false ∷ []));
}

pub closes_one : (name : Text) (set behind : HostSetState) (k : ℕ) (was_live : Bool) → NamesDiffer (names_of set.hosts) → number_of name set.hosts ≡ Some k → was_live ≡ is_live_at set.hosts k → behind ≡ closed set k → Closes name set behind was_live
closes_one name set behind k was_live differ found was is =
    let live = found_live set name k differ found ∙ ap (λ b. if b then Some k else None) (sym was) in
    subst (λ (now : HostSetState). Closes name set now was_live) (sym is) (closes_as name set k was_live (sym was) live)

-- ---- a host

pub host_is_live : (h : HeapState) (set : HostSetState) (k : ℕ) (live : Bool) → is_live_at set.hosts k ≡ live → (host_at (store_of h (hosts_of set)) k).live ≡ live
host_is_live h set k live is = ap (λ (host : Host). host.live) (host_is set.hosts k) ∙ is

pub host_fails : (old new : HeapState) (k : ℕ) (live : Bool) (args : List Value) (pieces : List Text) (set : HostSetState) (v : Value) → AreNamed old set → live ≡ is_live_at set.hosts k → HostAnswers old new k live args (HostAct.Fail v) → IsOf new v → OnlyTexts old new → Keeps old new → Applies (Value.Host k) args old new pieces pieces set set (Applied.Fails v)
host_fails old new k live args pieces set v named is answers known only keeps =
    fails_applies (Value.Host k) (call_host k (data_of old args)) old new args pieces set v (λ enters lands p again m. refl) (answers (hosts_of set) (names_are old set named) (host_is_live old set k live (sym is))) known only keeps

-- what happened where a host was asked
pub asked_once : (pieces : List Text) (set behind : HostSetState) (k : ℕ) (args : List Plain) (reply : Reply) → behind ≡ called set k args (logged reply) → Happened (asked k args reply ∷ []) pieces pieces set behind
asked_once pieces set behind k args reply is = record {
  pieces = sym (append-nil pieces);
  log = ap (λ (s : HostSetState). s.log) is;
  names = ap (λ (s : HostSetState). names_of s.hosts) is ∙ names_called set k args (logged reply);
  closes = ap hosts_of is ∙ hosts_called set k args (logged reply);
}

-- a host is asked, and its reply comes to this
module _ (old new : HeapState) (k : ℕ) (plain : List Plain) (args : List Value) (pieces : List Text) (set behind : HostSetState) (reply : Reply) where
  asked_applies : (applied : Applied) → AreNamed old set → is_live_at set.hosts k ≡ true → HostAnswers old new k true args (HostAct.Ask plain) → behind ≡ called set k plain (logged reply) → ((c : Chunk) (enters : Enters) (lands : Lands) (p : ℕ) (again : Datum → List Datum → Effect) (m : State) → heard enters lands p m reply ≡ applied_as c new enters lands p again args applied m) → NothingHappened (asked k plain reply ∷ []) old new set behind applied → IsAppliedOf new applied → Grown old new → Applies (Value.Host k) args old new pieces pieces set behind applied
  asked_applies applied named live answers is comes protects known grown = record {
    es = asked k plain reply ∷ [];
    happened = asked_once pieces set behind k plain reply is;
    is = λ c enters lands p again m events left closures.
        let hosts : hosts_of set ≡ hosts_of behind = sym (ap hosts_of is ∙ hosts_called set k plain (logged reply)) in
        let outside = (around behind (events ++ asked k plain reply ∷ []) left).outside in
        ap (answered enters lands p again (beside m old (around set events (reply ∷ left)))) (answers (hosts_of set) (names_are old set named) (host_is_live old set k true live))
        ∙ (λ i. heard enters lands p (record m { store = store_of (sym grown.only_texts i) (hosts i); outside = outside }) reply)
        ∙ comes c enters lands p again (beside m new (around behind (events ++ asked k plain reply ∷ []) left));
    protects = protects;
    known = known;
    only_tables = tables_too old new grown.only_texts;
    keeps = grown.keeps;
  }

pub reply_results : (old new : HeapState) (k : ℕ) (plain : List Plain) (args : List Value) (pieces : List Text) (set behind : HostSetState) (last : HostReply) (given_values : List Plain) (vs : List Value) → AreNamed old set → is_live_at set.hosts k ≡ true → HostAnswers old new k true args (HostAct.Ask plain) → behind ≡ called set k plain last → last ≡ HostReply.Values given_values → map as_datum given_values ≡ data_of new vs → AreOf new vs → Grown old new → Applies (Value.Host k) args old new pieces pieces set behind (Applied.Results vs)
reply_results old new k plain args pieces set behind last given_values vs named live answers is reply same known grown =
    asked_applies old new k plain args pieces set behind (replies_values given_values) (Applied.Results vs) named live answers (is ∙ ap (called set k plain) reply) (λ c enters lands p again m. ap (given enters lands p m) same) tt known grown

pub reply_fails : (old new : HeapState) (k : ℕ) (plain : List Plain) (args : List Value) (pieces : List Text) (set behind : HostSetState) (last : HostReply) (t : Text) (v : Value) → AreNamed old set → is_live_at set.hosts k ≡ true → HostAnswers old new k true args (HostAct.Ask plain) → behind ≡ called set k plain last → last ≡ HostReply.Fail t → datum new v ≡ text t → IsOf new v → Grown old new → Applies (Value.Host k) args old new pieces pieces set behind (Applied.Fails v)
reply_fails old new k plain args pieces set behind last t v named live answers is reply same known grown =
    asked_applies old new k plain args pieces set behind (replies_failure t) (Applied.Fails v) named live answers (is ∙ ap (called set k plain) reply) (λ c enters lands p again m. ap (failed_in lands p m) (sym same)) tt known grown

-- only a live host is asked
asked_is_live : (old new : HeapState) (k : ℕ) (live : Bool) (args : List Value) (set : HostSetState) (plain : List Plain) → AreNamed old set → is_live_at set.hosts k ≡ live → HostAnswers old new k live args (HostAct.Ask plain) → live ≡ true
asked_is_live old new k true args set plain named is answers = refl
asked_is_live old new k false args set plain named is answers =
    let s = store_of old (hosts_of set) in
    let live = host_is_live old set k false is in
    let closed_one : call_host k (data_of old args) s ≡ fails_with (codes "host is closed") =
    ap (λ b. if b then plain_values 1 (host_at s k).name (data_of old args) (model.asks k) else fails_with (codes "host is closed")) live in
    let open_one : call_host k (data_of old args) s ≡ model.asks k plain = answers (hosts_of set) (names_are old set named) live in
    cc

pub asked_live : (old new : HeapState) (k : ℕ) (live : Bool) (args : List Value) (hosts : List HostState) (act : HostAct) (plain : List Plain) → old.host_names ≡ names_of hosts → live ≡ is_live_at hosts k → HostAnswers old new k live args act → act ≡ HostAct.Ask plain → live ≡ true
asked_live old new k live args hosts act plain named is answers asks =
    asked_is_live old new k live args (record { hosts = hosts; log = [] }) plain named (sym is) (subst (HostAnswers old new k live args) asks answers)

pub asked_answers : (old new : HeapState) (k : ℕ) (live : Bool) (args : List Value) (act : HostAct) (plain : List Plain) → HostAnswers old new k live args act → act ≡ HostAct.Ask plain → live ≡ true → HostAnswers old new k true args (HostAct.Ask plain)
asked_answers old new k live args act plain answers asks is =
    subst (λ (b : Bool). HostAnswers old new k b args (HostAct.Ask plain)) is (subst (HostAnswers old new k live args) asks answers)
