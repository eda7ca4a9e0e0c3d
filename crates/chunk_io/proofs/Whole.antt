-- All the bytes: they are a chunk, or have a fault, just as reading says.
use Rattle.std.proofs.Common.{◌≡◌, ℕ, suc, ◌+◌, cond, eqb, List, [], ◌∷◌, ◌++◌, length, Result, Ok, Err, refl, sym, ap, subst, ◌∙◌, append_assoc, arith}
use Rattle.std.specs.List.{AllByRecursion}
use Rattle.std.proofs.lemmas.Bool.{ne_eqb}
use Rattle.std.proofs.lemmas.Grind.{flat_map-append}
use Rattle.std.proofs.lemmas.List.{append-nil, length-append}
use Rattle.proto.specs.Chunk.{Chunk}
use Rattle.chunk_io.specs.declared.layout.Layout.{Layout}
use Rattle.chunk_io.specs.declared.fault.ChunkFault.{ChunkFault}
use Rattle.chunk_io.specs.declared.miss.Miss.{Miss}
use Rattle.chunk_io.specs.Items.{Item, end, bytes_of, Allowed, header, function_items, items, spelling, Spelled}
use Rattle.chunk_io.specs.Faults.{Misses, IsFault}
use Rattle.chunk_io.specs.Reading.{◌>>=◌, then_at, header_at, chunk_at, all_of, fault_of}
use Rattle.chunk_io.proofs.Numbers.{IsBytes}
use Rattle.chunk_io.proofs.Phrases.{MissesLeft, Taken, MissIn, Sees, Reads, single_split}
use Rattle.chunk_io.proofs.Joined.{Side, in_first, in_second, side, all_both, all_first, reads_then}
use Rattle.chunk_io.proofs.Headers.{reads_header}
use Rattle.chunk_io.proofs.Functions.{reads_function}
use Rattle.chunk_io.proofs.Offsets.{to_offset, from_offset}

abbrev Whole : Type 0
Whole = Layout × Chunk

-- all but the end
abbrev before_end : Whole → List Item
before_end p = header p.0 ++ function_items p.0 1 p.1

abbrev NoCondition : Whole → Type 0
NoCondition p = Unit {0} × Unit {0}

reads_before_end : Reads (then_at header_at (λ l. chunk_at l 200)) before_end NoCondition
reads_before_end = reads_then reads_header (λ l is. reads_function l 200 1 refl)

to_end : (p : Whole) → items p.0 p.1 ≡ before_end p ++ end ∷ []
to_end p = sym (append_assoc (header p.0) (function_items p.0 1 p.1) (end ∷ []))

no_bytes : (p : Whole) → spelling (items p.0 p.1) ≡ spelling (before_end p) ++ []
no_bytes p = ap spelling (to_end p) ∙ flat_map-append bytes_of (before_end p) (end ∷ [])

abbrev all_items : Whole → List Item
all_items p = items p.0 p.1

abbrev SeesAll : List ℕ → Result Whole Miss → Type 0
SeesAll bytes (Ok p) = Spelled bytes p.0 p.1
SeesAll bytes (Err m) = MissIn all_items NoCondition bytes m

ended : (bytes : List ℕ) (p : Whole) (rest : List ℕ) → Taken before_end NoCondition bytes (p, rest) → SeesAll bytes (cond (eqb (length rest) 0) (Ok p) (Err (Miss.Trailing (length rest))))
ended bytes p [] s = record { fits = subst (AllByRecursion Allowed) (sym (to_end p)) (all_both (before_end p) (end ∷ []) s.allowed (tt, tt)); is = s.here ∙ sym (no_bytes p) }
ended bytes p (b ∷ rest) s =
    rw (ne_eqb (suc (length rest)) 0 (λ e. omega (arith, e)))
    (record { value = p; is = (tt, tt); before = before_end p; due = end; after = []; in_order = to_end p; given = s.allowed; left = b ∷ rest; here = s.here; miss = refl })

seen : (bytes : List ℕ) (r : Result (Whole × List ℕ) Miss) → Sees before_end NoCondition bytes r → SeesAll bytes (r >>= λ x. cond (eqb (length x.1) 0) (Ok x.0) (Err (Miss.Trailing (length x.1))))
seen bytes (Ok x) s = ended bytes x.0 x.1 s
seen bytes (Err m) s = record {
  value = s.value;
  is = s.is;
  before = s.before;
  due = s.due;
  after = s.after ++ end ∷ [];
  in_order = to_end s.value ∙ ap (λ i. i ++ end ∷ []) s.in_order ∙ append_assoc s.before (s.due ∷ s.after) (end ∷ []);
  given = s.given;
  left = s.left;
  here = s.here;
  miss = s.miss;
}

all_sees : (bytes : List ℕ) → IsBytes bytes → SeesAll bytes (all_of bytes)
unfolding all_of
all_sees bytes fits = seen bytes (then_at header_at (λ l. chunk_at l 200) bytes) (reads_before_end.sees bytes fits)

-- ---- the other way

end_missed : (bytes : List ℕ) (p : Whole) (left : List ℕ) (m : Miss) → then_at header_at (λ l. chunk_at l 200) bytes ≡ Ok (p, left) → MissesLeft end left m → all_of bytes ≡ Err m
unfolding all_of
end_missed bytes p left Miss.Truncated e h = absurd (omega arith)
end_missed bytes p (b ∷ left) (Miss.Trailing n) e h = rw (e, ne_eqb (suc (length left)) 0 (λ e. omega (arith, e)), h)
end_missed bytes p left m e h = absurd h

taken_before_end : (bytes : List ℕ) (p : Whole) (rest : List ℕ) → bytes ≡ spelling (before_end p) ++ rest → AllByRecursion Allowed (before_end p) → then_at header_at (λ l. chunk_at l 200) bytes ≡ Ok (p, rest)
taken_before_end bytes p rest here allowed = reads_before_end.gives bytes (Ok (p, rest)) (record { here = here; allowed = allowed; is = (tt, tt) })

given_side : (bytes : List ℕ) (m : Miss) (s : MissIn all_items NoCondition bytes m) → Side (before_end s.value) (end ∷ []) s.before s.due s.after → all_of bytes ≡ Err m
unfolding all_of
given_side bytes m s (in_first behind h) =
    let e : then_at header_at (λ l. chunk_at l 200) bytes ≡ Err m = reads_before_end.gives bytes (Err m) (record { value = s.value; is = s.is; before = s.before; due = s.due; after = behind; in_order = h; given = s.given; left = s.left; here = s.here; miss = s.miss }) in
    rw e
given_side bytes m s (in_second between h g) =
    let at = single_split end between s.due s.after g in
    let all : s.before ≡ before_end s.value = h ∙ ap (λ i. before_end s.value ++ i) at.0 ∙ append-nil (before_end s.value) in
    let read = taken_before_end bytes s.value s.left (s.here ∙ ap (λ i. spelling i ++ s.left) all) (subst (AllByRecursion Allowed) all s.given) in
    end_missed bytes s.value s.left m read (subst (λ i. MissesLeft i s.left m) (sym at.1) s.miss)

all_gives : (bytes : List ℕ) (r : Result Whole Miss) → SeesAll bytes r → all_of bytes ≡ r
unfolding all_of
all_gives bytes (Ok p) s =
    let read = taken_before_end bytes p [] (s.is ∙ no_bytes p) (all_first (before_end p) (end ∷ []) (subst (AllByRecursion Allowed) (to_end p) s.fits)) in
    rw read refl
all_gives bytes (Err m) s = given_side bytes m s (side (before_end s.value) (end ∷ []) s.before s.due s.after (sym (to_end s.value) ∙ s.in_order))

-- ---- the laws

pub found : (bytes : List ℕ) (l : Layout) (c : Chunk) → IsBytes bytes → all_of bytes ≡ Ok (l, c) → Spelled bytes l c
found bytes l c fits e = subst (SeesAll bytes) e (all_sees bytes fits)

pub again : (bytes : List ℕ) (l : Layout) (c : Chunk) → Spelled bytes l c → all_of bytes ≡ Ok (l, c)
again bytes l c s = all_gives bytes (Ok (l, c)) s

pub missed : (bytes : List ℕ) (m : Miss) → IsBytes bytes → all_of bytes ≡ Err m → IsFault bytes (fault_of m (length bytes))
missed bytes m fits e =
    let s : MissIn all_items NoCondition bytes m = subst (SeesAll bytes) e (all_sees bytes fits) in
    let long : length bytes ≡ length (spelling s.before) + length s.left = ap (λ (b : List ℕ). length b) s.here ∙ length-append (spelling s.before) s.left in
    record {
      layout = s.value.0;
      chunk = s.value.1;
      before = s.before;
      due = s.due;
      after = s.after;
      in_order = s.in_order;
      given = s.given;
      left = s.left;
      here = s.here;
      missed = subst (λ n. Misses s.due (length (spelling s.before)) s.left (fault_of m n)) (sym long) (to_offset s.due (length (spelling s.before)) s.left m s.miss);
    }

pub missed_again : (bytes : List ℕ) (fault : ChunkFault) → IsFault bytes fault → (m : Miss) × (all_of bytes ≡ Err m) × (fault_of m (length bytes) ≡ fault)
missed_again bytes fault f =
    let at = from_offset f.due (length (spelling f.before)) f.left fault f.missed in
    let long : length bytes ≡ length (spelling f.before) + length f.left = ap (λ (b : List ℕ). length b) f.here ∙ length-append (spelling f.before) f.left in
    let s : MissIn all_items NoCondition bytes at.0 = record { value = (f.layout, f.chunk); is = (tt, tt); before = f.before; due = f.due; after = f.after; in_order = f.in_order; given = f.given; left = f.left; here = f.here; miss = at.1 } in
    (at.0, all_gives bytes (Err at.0) s, ap (fault_of at.0) long ∙ at.2)
