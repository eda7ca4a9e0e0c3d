-- Lists of parts whose items are allowed.
use Rattle.std.proofs.Common.{ℕ, suc, ◌<◌, ◌≤◌, ◌^◌, Bool, true, false, List, [], ◌∷◌, ◌++◌, length, refl, Fits, arith}
use Rattle.std.specs.Bool.{Decides, MatchBool}
use Rattle.std.specs.Int.{w32}
use Rattle.std.specs.List.{flat_map, AllByRecursion, AllWithin, HoldsAt, slice_index_or}
use Rattle.std.proofs.lemmas.Bool.{false≢true}
use Rattle.std.proofs.lemmas.Bool.Decides.{Decides-like}
use Rattle.std.proofs.lemmas.List.Elements.{recursion_from_All, All-from_recursion, All-from_all_within}
use Rattle.proto.specs.Chunk.{Own, Chunk, own, function, functions, Functions, function_count}
use Rattle.chunk_io.specs.declared.layout.Layout.{Layout}
use Rattle.chunk_io.specs.Items.{Item, int, instruction, Allowed, Fits as ChunkFits, header, end, string_items, constant_items, local_items, counted, front_items, debug_items, function_items, each_items}
use Rattle.chunk_io.specs.Fitting.{code_items, own_items}
use Rattle.chunk_io.proofs.Joined.{all_both, all_first, all_second}

-- the items of a part are allowed
abbrev pub Allows : {A : Type 0} → (A → List Item) → A → Type 0
Allows items part = AllByRecursion Allowed (items part)

all_joined : {A : Type 0} (items : A → List Item) (parts : List A) → AllByRecursion (Allows items) parts → AllByRecursion Allowed (flat_map items parts)
all_joined items [] h = tt
all_joined items (part ∷ parts) h = all_both (items part) _ h.0 (all_joined items parts h.1)

all_apart : {A : Type 0} (items : A → List Item) (parts : List A) → AllByRecursion Allowed (flat_map items parts) → AllByRecursion (Allows items) parts
all_apart items [] h = tt
all_apart items (part ∷ parts) h = (all_first (items part) _ h, all_apart items parts (all_second (items part) _ h))

-- a walk over a list, which found them all allowed or one that is not
pub list_decided : {A : Type 0} (items : A → List Item) (parts : List A) (r : Bool)
    → MatchBool r (AllWithin (Allows items) parts 0 (length parts)) ((k : ℕ) × (k < length parts) × HoldsAt (λ part. ¬ Allows items part) parts k)
    → Decides r (AllByRecursion Allowed (flat_map items parts))
list_decided items parts true h = (λ t. all_joined items parts (recursion_from_All (Allows items) parts (All-from_all_within (Allows items) parts h)), λ all. refl)
list_decided items [] false h = (λ t. absurd (false≢true t), λ all. absurd (omega (arith, h.1)))
list_decided items (part ∷ parts) false h = (λ t. absurd (false≢true t), λ all. absurd (h.2 part (All-from_recursion (Allows items) (part ∷ parts) (all_apart items (part ∷ parts) all) h.0 part h.1)))

pub words_allowed : (l : Layout) (words : List ℕ) → ((i : ℕ) → Fits w32 (slice_index_or words i 0)) → AllByRecursion Allowed (flat_map (λ word. instruction l word ∷ []) words)
words_allowed l [] h = tt
words_allowed l (word ∷ words) h = (omega (arith, h 0), words_allowed l words (λ i. h (suc i)))

-- ---- a function: a test of all parts of a whole decides the whole

-- all items of a part are allowed
abbrev pub All : List Item → Type 0
All items = AllByRecursion Allowed items

pub debug_decided : (l : Layout) (f : Own) (r : Bool)
    → Decides r ((All (counted l (λ line. int l line ∷ []) f.lines) × All (counted l (local_items l) f.locals)) × All (counted l (string_items l) f.upvalue_names))
    → Decides r (All (debug_items l f))
debug_decided l f r h =
    let lines = counted l (λ (line : ℕ). int l line ∷ []) f.lines in
    let locals = counted l (local_items l) f.locals in
    let names = counted l (string_items l) f.upvalue_names in
    Decides-like r
    (λ p. all_both lines (locals ++ names) p.0.0 (all_both locals names p.0.1 p.1))
    (λ p. let q = all_second lines (locals ++ names) p in ((all_first lines (locals ++ names) p, all_first locals names q), all_second locals names q))
    h

pub code_decided : (l : Layout) (f : Own) (inner : Functions) (r : Bool)
    → Decides r ((All (counted l (λ word. instruction l word ∷ []) f.code) × All (counted l (constant_items l) f.constants)) × (function_count inner < 2 ^ 31))
    → Decides r (All (code_items l (function f inner)))
code_decided l f inner r h =
    let words = counted l (λ (word : ℕ). instruction l word ∷ []) f.code in
    let constants = counted l (constant_items l) f.constants in
    let count = int l (function_count inner) ∷ [] in
    Decides-like r
    (λ p. all_both words (constants ++ count) p.0.0 (all_both constants count p.0.1 (p.1, tt)))
    (λ p. let q = all_second words (constants ++ count) p in ((all_first words (constants ++ count) p, all_first constants count q), (all_second constants count q).0))
    h

pub own_decided : (l : Layout) (c : Chunk) (r : Bool)
    → Decides r ((All (front_items l (own c)) × All (code_items l c)) × All (debug_items l (own c)))
    → Decides r (All (own_items l c))
own_decided l (function f inner) r h =
    let front = front_items l f in
    let code = code_items l (function f inner) in
    let debug = debug_items l f in
    Decides-like r
    (λ p. all_both front (code ++ debug) p.0.0 (all_both code debug p.0.1 p.1))
    (λ p. let q = all_second front (code ++ debug) p in ((all_first front (code ++ debug) p, all_first code debug q), all_second code debug q))
    h

-- the functions stand between the count of them and what is behind them
functions_between : (words constants : List Item) (count : Item) (each debug : List Item)
    → All ((words ++ (constants ++ count ∷ [])) ++ debug) → All each → All (words ++ (constants ++ (count ∷ (each ++ debug))))
functions_between words constants count each debug h inner =
    let code = all_first (words ++ (constants ++ count ∷ [])) debug h in
    let last = all_second words (constants ++ count ∷ []) code in
    let one = all_second constants (count ∷ []) last in
    let behind = all_both each debug inner (all_second (words ++ (constants ++ count ∷ [])) debug h) in
    all_both words (constants ++ (count ∷ (each ++ debug))) (all_first words (constants ++ count ∷ []) code) (all_both constants (count ∷ (each ++ debug)) (all_first constants (count ∷ []) last) (one.0, behind))

functions_apart : (words constants : List Item) (count : Item) (each debug : List Item)
    → All (words ++ (constants ++ (count ∷ (each ++ debug)))) → All ((words ++ (constants ++ count ∷ [])) ++ debug) × All each
functions_apart words constants count each debug h =
    let q = all_second words (constants ++ (count ∷ (each ++ debug))) h in
    let s = all_second constants (count ∷ (each ++ debug)) q in
    let code = all_both words (constants ++ count ∷ []) (all_first words (constants ++ (count ∷ (each ++ debug))) h) (all_both constants (count ∷ []) (all_first constants (count ∷ (each ++ debug)) q) (s.0, tt)) in
    (all_both (words ++ (constants ++ count ∷ [])) debug code (all_second each debug s.1), all_first each debug s.1)

pub function_decided : (l : Layout) (nesting : ℕ) (c : Chunk) (r : Bool)
    → Decides r (((nesting ≤ 200) × All (own_items l c)) × All (each_items l (suc nesting) (functions c)))
    → Decides r (All (function_items l nesting c))
function_decided l nesting (function f inner) r h =
    let front = front_items l f in
    let words = counted l (λ (word : ℕ). instruction l word ∷ []) f.code in
    let constants = counted l (constant_items l) f.constants in
    let count = int l (function_count inner) in
    let each = each_items l (suc nesting) inner in
    let debug = debug_items l f in
    let own = (words ++ (constants ++ count ∷ [])) ++ debug in
    let whole = words ++ (constants ++ (count ∷ (each ++ debug))) in
    Decides-like r
    (λ p. (p.0.0, all_both front whole (all_first front own p.0.1) (functions_between words constants count each debug (all_second front own p.0.1) p.1)))
    (λ p. let q = functions_apart words constants count each debug (all_second front whole p.1) in ((p.0, all_both front own (all_first front whole p.1) q.0), q.1))
    h

-- the main function, between the header and the end
pub main_decided : (l : Layout) (c : Chunk) (r : Bool) → Decides r (All (function_items l 1 c)) → Decides r (ChunkFits l c)
main_decided l c r h =
    let main = function_items l 1 c in
    Decides-like r
    (λ p. all_both (header l) (main ++ end ∷ []) (tt, (tt, (tt, (tt, (tt, (tt, (tt, (tt, (tt, (tt, (tt, (tt, tt)))))))))))) (all_both main (end ∷ []) p (tt, tt)))
    (λ p. all_first main (end ∷ []) (all_second (header l) (main ++ end ∷ []) p))
    h
