-- Bytes are one chunk or have one fault: what reading gives is one.
use Rattle.std.proofs.Common.{◌≡◌, ◌⊎◌, inl, inr, ℕ, List, ◌++◌, length, take, drop, Result, Ok, Err, refl, sym, ap, subst, ◌∙◌}
use Rattle.std.proofs.lemmas.List.{take_at, take-append-drop}
use Rattle.proto.specs.Chunk.{Chunk}
use Rattle.chunk_io.specs.declared.layout.Layout.{Layout}
use Rattle.chunk_io.specs.declared.fault.ChunkFault.{ChunkFault}
use Rattle.chunk_io.specs.declared.miss.Miss.{Miss}
use Rattle.chunk_io.specs.Items.{header, spelling, IsChunkOf, HasLayout}
use Rattle.chunk_io.specs.Faults.{IsFault, StopsBy}
use Rattle.chunk_io.specs.Laws.{LayoutsAreOne, ChunksAreOne, FaultsAreOne, NeverBoth, ChunkOrFault}
use Rattle.chunk_io.specs.declared.miss.ReadError.{ReadError}
use Rattle.chunk_io.specs.declared.miss.ReadError.TheVariants as errors
use Rattle.chunk_io.specs.Reading.{Fails, header_at, all_of, fault_of}
use Rattle.chunk_io.proofs.Numbers.{IsBytes}
use Rattle.chunk_io.proofs.Phrases.{Taken, Sees}
use Rattle.chunk_io.proofs.Headers.{reads_header}
use Rattle.chunk_io.proofs.Whole.{found, again, missed, missed_again}

abbrev Read : Type 0
Read = Result (Layout × Chunk) Miss

abbrev read_chunk : Layout × Chunk → Read
read_chunk x = Ok x

abbrev read_miss : Miss → Read
read_miss m = Err m

one_read : (x y : Layout × Chunk) → read_chunk x ≡ read_chunk y → x ≡ y
one_read x y e = cc

one_miss : (m n : Miss) → read_miss m ≡ read_miss n → m ≡ n
one_miss m n e = cc

no_two : {A : Type 0} (x : Layout × Chunk) (m : Miss) → read_chunk x ≡ read_miss m → A
no_two x m e = absurd cc

pub layouts_one : LayoutsAreOne
layouts_one bytes l m c d s t = ap (λ (x : Layout × Chunk). x.0) (one_read (l, c) (m, d) (sym (again bytes l c s) ∙ again bytes m d t))

pub chunks_one : ChunksAreOne
chunks_one bytes c d s t =
    ap (λ (x : Layout × Chunk). x.1) (one_read (s.0, c) (t.0, d) (sym (again bytes s.0 c s.1) ∙ again bytes t.0 d t.1))

pub faults_one : FaultsAreOne
faults_one bytes f g s t =
    let p = missed_again bytes f s in
    let q = missed_again bytes g t in
    sym p.2 ∙ ap (λ m. fault_of m (length bytes)) (one_miss p.0 q.0 (sym p.1 ∙ q.1)) ∙ q.2

pub never_two : NeverBoth
never_two bytes c f s t = let q = missed_again bytes f t in no_two (s.0, c) q.0 (sym (again bytes s.0 c s.1) ∙ q.1)

either : (bytes : List ℕ) → IsBytes bytes → (r : Read) → all_of bytes ≡ r → ((c : Chunk) × IsChunkOf bytes c) ⊎ ((f : ChunkFault) × IsFault bytes f)
either bytes fits (Ok x) e = inl (x.1, (x.0, found bytes x.0 x.1 fits e))
either bytes fits (Err m) e = inr (fault_of m (length bytes), missed bytes m fits e)

pub one_or_other : ChunkOrFault
one_or_other bytes fits = either bytes fits (all_of bytes) refl

-- a fault that is read is none for want of memory
pub stops_by : (bytes : List ℕ) (m : Miss) → IsBytes bytes → all_of bytes ≡ Err m → StopsBy bytes (fault_of m (length bytes))
stops_by bytes (Miss.Header left) fits e = missed bytes (Miss.Header left) fits e
stops_by bytes Miss.Integral fits e = missed bytes Miss.Integral fits e
stops_by bytes Miss.Truncated fits e = missed bytes Miss.Truncated fits e
stops_by bytes (Miss.BadTag left) fits e = missed bytes (Miss.BadTag left) fits e
stops_by bytes (Miss.BadString left) fits e = missed bytes (Miss.BadString left) fits e
stops_by bytes (Miss.BadCount left) fits e = missed bytes (Miss.BadCount left) fits e
stops_by bytes Miss.TooDeep fits e = missed bytes Miss.TooDeep fits e
stops_by bytes (Miss.Trailing left) fits e = missed bytes (Miss.Trailing left) fits e

-- what was read, against what the bytes are
pub read_again : (bytes : List ℕ) (l : Layout) (c d : Chunk) → all_of bytes ≡ Ok (l, c) → IsChunkOf bytes d → c ≡ d
read_again bytes l c d e s = ap (λ (x : Layout × Chunk). x.1) (one_read (l, c) (s.0, d) (sym e ∙ again bytes s.0 d s.1))

pub read_no_fault : {A : Type 0} (bytes : List ℕ) (l : Layout) (c : Chunk) (f : ChunkFault) → all_of bytes ≡ Ok (l, c) → IsFault bytes f → A
read_no_fault bytes l c f e s = let q = missed_again bytes f s in no_two (l, c) q.0 (sym e ∙ q.1)

pub missed_no_chunk : {A : Type 0} (bytes : List ℕ) (m : Miss) (d : Chunk) → all_of bytes ≡ Err m → IsChunkOf bytes d → A
missed_no_chunk bytes m d e s = no_two (s.0, d) m (sym (again bytes s.0 d s.1) ∙ e)

pub missed_one : (bytes : List ℕ) (m : Miss) (f : ChunkFault) → all_of bytes ≡ Err m → IsFault bytes f → fault_of m (length bytes) ≡ f
missed_one bytes m f e s =
    let q = missed_again bytes f s in
    ap (λ n. fault_of n (length bytes)) (one_miss m q.0 (sym e ∙ q.1)) ∙ q.2

-- ---- the header alone

abbrev header_bytes : Layout → List ℕ
header_bytes l = spelling (header l)

twelve : (l : Layout) → length (header_bytes l) ≡ 12
twelve l = refl

pub has_header : (bytes : List ℕ) (l : Layout) (rest : List ℕ) → IsBytes bytes → header_at bytes ≡ Ok (l, rest) → HasLayout bytes l
has_header bytes l rest fits e =
    let s : Taken header (λ m. Unit {0}) bytes (l, rest) = subst (λ r. Sees header (λ m. Unit {0}) bytes r) e (reads_header.sees bytes fits) in
    ap (take 12) s.here ∙ take_at (header_bytes l) rest 12 (twelve l)

pub header_read : (bytes : List ℕ) (l : Layout) → HasLayout bytes l → header_at bytes ≡ Ok (l, drop 12 bytes)
header_read bytes l has =
    reads_header.gives bytes (Ok (l, drop 12 bytes)) (record { here = sym (take-append-drop 12 bytes) ∙ ap (λ (front : List ℕ). front ++ drop 12 bytes) has; allowed = (tt, (tt, (tt, (tt, (tt, (tt, (tt, (tt, (tt, (tt, (tt, (tt, tt)))))))))))); is = tt })

abbrev Headed : Type 0
Headed = Result (Layout × List ℕ) Miss

abbrev headed : Layout × List ℕ → Headed
headed x = Ok x

one_headed : (x y : Layout × List ℕ) → headed x ≡ headed y → x ≡ y
one_headed x y e = cc

pub same_header : (bytes : List ℕ) (l m : Layout) (rest : List ℕ) → header_at bytes ≡ Ok (l, rest) → HasLayout bytes m → l ≡ m
same_header bytes l m rest e has = ap (λ (x : Layout × List ℕ). x.0) (one_headed (l, rest) (m, drop 12 bytes) (sym e ∙ header_read bytes m has))

pub header_not_missed : {A : Type 0} (bytes : List ℕ) (e : ReadError) (m : Layout) → Fails e (header_at bytes) → (e ≡ errors.Memory → ⊥) → HasLayout bytes m → A
header_not_missed bytes errors.Memory m fails no_memory has = absurd (no_memory refl)
header_not_missed bytes (errors.Miss miss) m fails no_memory has =
    let both : headed (m, drop 12 bytes) ≡ Err miss = sym (header_read bytes m has) ∙ fails in absurd cc
