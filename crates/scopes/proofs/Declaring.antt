-- Parts that begin with declarations.
use Rattle.std.proofs.Common.{◌≡◌, subst, ℕ, ◌+◌, ◌<◌, ◌≤◌, List, length, Result, Ok, Err, ◌⊎◌}
use Rattle.lua_num.specs.Bytes.{Text}
use Rattle.lua_tree.specs.Outline.{Place, Part, both, within, with_locals, come, in_loop, declares}
use Rattle.scopes.specs.declared.fault.ScopeFault.{ScopeFault}
use Rattle.scopes.specs.declared.resolver.Resolver.{Resolver}
use Rattle.scopes.specs.Standing.{Sound, Goes, Declared, Brought}
use Rattle.scopes.proofs.Goings.{goes_both, goes_first, goes_numbered}
use Rattle.scopes.proofs.Entrances.{goes_declared, goes_many, goes_come}

-- declarations that are too many
pub declares_too_many : {a c : Resolver} (line hidden : ℕ) (names : List Text) (rest : ℕ → Part) (count : ℕ) (fault : ScopeFault) → count ≡ length names →
    (fault ≡ ScopeFault.OutOfMemory) ⊎ ((fault ≡ ScopeFault.TooManyLocals line 201) × (200 < a.here.active + hidden + count)) →
    Goes (λ (place : Place). both (declares line hidden names) (rest place.declarations) place) a c (Err fault)
declares_too_many {a} {c} line hidden names rest count fault counted many =
    goes_numbered (λ n. both (declares line hidden names) (rest n)) (goes_first (rest (length a.captured.items)) (goes_many {old = a} {c = c} line hidden names count fault counted many))

-- a part behind declarations
pub declares_before : {a b c : Resolver} {result : Result (Unit {0}) ScopeFault} (line hidden : ℕ) (names : List Text) (rest : ℕ → Part) (count : ℕ) → count ≡ length names → Declared a b count → a.here.active + hidden + count ≤ 200 → Sound b →
    Goes (rest (length a.captured.items)) b c result → Goes (λ (place : Place). both (declares line hidden names) (rest place.declarations) place) a c result
declares_before {a} {b} {c} {result} line hidden names rest count counted declared few sound g =
    goes_numbered (λ n. both (declares line hidden names) (rest n)) (goes_both (goes_declared line hidden names count counted declared few) sound g)

-- the values of a `for`, and its block
pub goes_for : {a b c d : Resolver} {result : Result (Unit {0}) ScopeFault} (line : ℕ) (names brought : List Text) (values body : Part) (count first : ℕ) → count ≡ length names → Declared a b count → a.here.active + 3 + count ≤ 200 → Sound b →
    first ≡ length a.captured.items → brought ≡ names → Goes values b c (Ok tt) → Sound c → Goes (within (λ inside. in_loop (with_locals 3 brought first inside)) body) c d result →
    Goes (λ (place : Place). both (declares line 3 names) (both values (within (λ inside. in_loop (with_locals 3 names place.declarations inside)) body)) place) a d result
goes_for {a} {b} {c} {d} {result} line names brought values body count first counted declared few sound_b e f g sound_c h =
    declares_before line 3 names (λ n. both values (within (λ inside. in_loop (with_locals 3 names n inside)) body)) count counted declared few sound_b
    (goes_both g sound_c
    (subst (λ (n : ℕ). Goes (within (λ inside. in_loop (with_locals 3 names n inside)) body) c d result) e
    (subst (λ (texts : List Text). Goes (within (λ inside. in_loop (with_locals 3 texts first inside)) body) c d result) f h)))

pub goes_for_values : {a b c : Resolver} {fault : ScopeFault} (line : ℕ) (names : List Text) (values body : Part) (count : ℕ) → count ≡ length names → Declared a b count → a.here.active + 3 + count ≤ 200 → Sound b →
    Goes values b c (Err fault) → Goes (λ (place : Place). both (declares line 3 names) (both values (within (λ inside. in_loop (with_locals 3 names place.declarations inside)) body)) place) a c (Err fault)
goes_for_values {a} {b} {c} {fault} line names values body count counted declared few sound g =
    declares_before line 3 names (λ n. both values (within (λ inside. in_loop (with_locals 3 names n inside)) body)) count counted declared few sound
    (goes_first (within (λ inside. in_loop (with_locals 3 names (length a.captured.items) inside)) body) g)

-- names that are in scope in what follows
pub goes_named : {a b c d : Resolver} {result : Result (Unit {0}) ScopeFault} (line : ℕ) (names brought : List Text) (body : Part) (count first : ℕ) → count ≡ length names → Declared a b count → a.here.active + 0 + count ≤ 200 → Sound b →
    first ≡ length a.captured.items → brought ≡ names → Brought b c brought first → Sound c → Goes body c d result →
    Goes (λ (place : Place). both (declares line 0 names) (both (come 0 names place.declarations) body) place) a d result
goes_named {a} {b} {c} {d} {result} line names brought body count first counted declared few sound_b e f bring sound_c h =
    declares_before line 0 names (λ n. both (come 0 names n) body) count counted declared few sound_b
    (goes_both (goes_come names (length a.captured.items) (subst (λ (n : ℕ). Brought b c names n) e (subst (λ (texts : List Text). Brought b c texts first) f bring))) sound_c h)

-- names that are in scope behind their values
pub goes_local : {a b c d : Resolver} (line : ℕ) (names brought : List Text) (values : Part) (count first : ℕ) → count ≡ length names → Declared a b count → a.here.active + 0 + count ≤ 200 → Sound b →
    first ≡ length a.captured.items → brought ≡ names → Goes values b c (Ok tt) → Sound c → Brought c d brought first →
    Goes (λ (place : Place). both (declares line 0 names) (both values (come 0 names place.declarations)) place) a d (Ok tt)
goes_local {a} {b} {c} {d} line names brought values count first counted declared few sound_b e f g sound_c bring =
    declares_before line 0 names (λ n. both values (come 0 names n)) count counted declared few sound_b
    (goes_both g sound_c (goes_come names (length a.captured.items) (subst (λ (n : ℕ). Brought c d names n) e (subst (λ (texts : List Text). Brought c d texts first) f bring))))

pub goes_local_values : {a b c : Resolver} {fault : ScopeFault} (line : ℕ) (names : List Text) (values : Part) (count : ℕ) → count ≡ length names → Declared a b count → a.here.active + 0 + count ≤ 200 → Sound b →
    Goes values b c (Err fault) → Goes (λ (place : Place). both (declares line 0 names) (both values (come 0 names place.declarations)) place) a c (Err fault)
goes_local_values {a} {b} {c} {fault} line names values count counted declared few sound g =
    declares_before line 0 names (λ n. both values (come 0 names n)) count counted declared few sound (goes_first (come 0 names (length a.captured.items)) g)
