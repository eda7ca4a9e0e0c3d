-- A text is the listing of one chunk, or has one fault: what reading gives is one.
use Rattle.std.proofs.Common.{◌≡◌, ◌≢◌, ◌⊎◌, inl, inr, ℕ, ◌<◌, Bool, true, false, length, Result, Ok, Err, refl, sym, ap, subst, ◌∙◌}
use Rattle.std.specs.Str.{bytes_eq}
use Rattle.asm_text.proofs.Names.{same_bytes, bytes_same}
use Rattle.lua_num.specs.Bytes.{Text}
use Rattle.proto.specs.Chunk.{Chunk}
use Rattle.lister.specs.Listing.{listing}
use Rattle.asm_text.specs.declared.fault.ListFault.{ListFault}
use Rattle.asm_text.specs.declared.miss.Miss.{Miss}
use Rattle.asm_text.specs.Faults.{IsFault, StopsBy, IsDifferent, IsCutOff, Assembles}
use Rattle.asm_text.specs.Laws.{ChunksAreOne, FaultsAreOne, NeverBoth, ListingOrFault}
use Rattle.asm_text.specs.Reading.{all_of, fault_of, differing_line}
use Rattle.asm_text.proofs.Whole.{found, again, missed, missed_again}
use Rattle.asm_text.proofs.Shown.{listing_shown}
use Rattle.asm_text.proofs.Differing.{is_different, number_of, really_differs}
use Rattle.asm_text.proofs.Fitted.{spelled_allowed, lines_allowed_in, lines_spelled}

abbrev Read : Type 0
Read = Result Chunk Miss

abbrev read_chunk : Chunk → Read
read_chunk c = Ok c

abbrev read_miss : Miss → Read
read_miss m = Err m

one_read : (c d : Chunk) → read_chunk c ≡ read_chunk d → c ≡ d
one_read c d e = cc

one_miss : (m n : Miss) → read_miss m ≡ read_miss n → m ≡ n
one_miss m n e = cc

no_two : {A : Type 0} (c : Chunk) (m : Miss) → read_chunk c ≡ read_miss m → A
no_two c m e = absurd cc

-- what is the listing of a chunk is read as that chunk
assembled_read : (text : Text) (c : Chunk) → Assembles text c → all_of text ≡ Ok c
assembled_read text c a =
    let t = listing_shown c (spelled_allowed a.bytes c a.are_bytes a.spelled) in
    again text c (record { given = t.texts; here = a.listed_as ∙ t.is; shown = t.shows })

different_read : (text : Text) (number : ℕ) (d : IsDifferent text number) → all_of text ≡ Ok d.chunk
different_read text number d = again text d.chunk (record { given = d.given; here = d.whole; shown = d.shown })

-- a fault is of a line that is missed, or of one that differs
data Cause (text : Text) (f : ListFault) : Type 0 where
  missing : (m : Miss) → all_of text ≡ Err m → fault_of text m ≡ f → Cause text f
  different : (number : ℕ) → f ≡ ListFault.Differs number → IsDifferent text number → Cause text f

cut_cause : (text : Text) (f : ListFault) → IsCutOff text f → Cause text f
cut_cause text f s = let q = missed_again text f s in missing q.0 q.1 q.2

cause : (text : Text) (f : ListFault) → IsFault text f → Cause text f
cause text (ListFault.Differs n) s = different n refl s
cause text (ListFault.BadLine n) s = cut_cause text (ListFault.BadLine n) s
cause text (ListFault.TooDeep n) s = cut_cause text (ListFault.TooDeep n) s
cause text ListFault.OutOfMemory s = cut_cause text ListFault.OutOfMemory s

pub chunks_one : ChunksAreOne
chunks_one text c d s t = one_read c d (sym (assembled_read text c s) ∙ assembled_read text d t)

one_cause : (text : Text) (f g : ListFault) → Cause text f → Cause text g → f ≡ g
one_cause text f g (missing m e h) (missing n k l) = sym h ∙ ap (fault_of text) (one_miss m n (sym e ∙ k)) ∙ l
one_cause text f g (missing m e h) (different n k d) = no_two d.chunk m (sym (different_read text n d) ∙ e)
one_cause text f g (different n k d) (missing m e h) = no_two d.chunk m (sym (different_read text n d) ∙ e)
one_cause text f g (different n k d) (different o l b) =
    let same : d.chunk ≡ b.chunk = one_read d.chunk b.chunk (sym (different_read text n d) ∙ different_read text o b) in
    let number : n ≡ o = number_of text n d ∙ ap (λ c. differing_line text (listing c)) same ∙ sym (number_of text o b) in
    k ∙ ap (λ n. ListFault.Differs n) number ∙ sym l

pub faults_one : FaultsAreOne
faults_one text f g s t = one_cause text f g (cause text f s) (cause text g t)

-- what is read as a chunk, and is its listing, has no fault
never_cause : (text : Text) (c : Chunk) (f : ListFault) → all_of text ≡ Ok c → text ≡ listing c → Cause text f → ⊥
never_cause text c f e is (missing m k h) = no_two c m (sym e ∙ k)
never_cause text c f e is (different n k d) =
    let same : c ≡ d.chunk = one_read c d.chunk (sym e ∙ different_read text n d) in
    really_differs text n d (is ∙ ap listing same)

pub read_no_fault : (text : Text) (c : Chunk) (f : ListFault) → all_of text ≡ Ok c → text ≡ listing c → IsFault text f → ⊥
read_no_fault text c f e is s = never_cause text c f e is (cause text f s)

pub read_again : (text : Text) (c d : Chunk) → all_of text ≡ Ok c → Assembles text d → d ≡ c
read_again text c d e a = one_read d c (sym (assembled_read text d a) ∙ e)

pub never_two : NeverBoth
never_two text c f a s = read_no_fault text c f (assembled_read text c a) a.listed_as s

-- ---- what the code answers

pub assembled : (text : Text) (c : Chunk) → length text < 18446744073709551616 → all_of text ≡ Ok c → text ≡ listing c → Assembles text c
assembled text c small e is =
    let s = lines_spelled text c small (found text c e) in
    record { listed_as = is; bytes = s.0; are_bytes = s.1; spelled = s.2 }

pub differs : (text : Text) (c : Chunk) → length text < 18446744073709551616 → all_of text ≡ Ok c → text ≢ listing c → IsDifferent text (differing_line text (listing c))
differs text c small e ne =
    let lines = found text c e in
    is_different text c lines (listing_shown c (lines_allowed_in text c small lines)) ne

pub stops : (text : Text) (m : Miss) → all_of text ≡ Err m → StopsBy text (fault_of text m)
stops text (Miss.BadLine left) e = missed text (Miss.BadLine left) e
stops text (Miss.TooDeep left) e = missed text (Miss.TooDeep left) e

-- ---- the listing of the chunk and the text, byte by byte

pub compared_same : (text : Text) (c : Chunk) (t shown : Text) → length text < 18446744073709551616 → all_of text ≡ Ok c → t ≡ listing c → shown ≡ t → true ≡ bytes_eq shown text → Assembles text c
compared_same text c t shown small e is same q = assembled text c small e (sym (same_bytes shown text (sym q)) ∙ same ∙ is)

false_no_true : false ≡ true → ⊥
false_no_true e = cc

pub compared_other : (text : Text) (c : Chunk) (t shown : Text) (number : ℕ) → length text < 18446744073709551616 → all_of text ≡ Ok c → t ≡ listing c → shown ≡ t → false ≡ bytes_eq shown text → number ≡ differing_line text shown → IsDifferent text number
compared_other text c t shown number small e is same q line =
    let other : text ≢ listing c = λ f. false_no_true (q ∙ ap (λ x. bytes_eq x text) (same ∙ is ∙ sym f) ∙ bytes_same text) in
    subst (IsDifferent text) (sym (line ∙ ap (differing_line text) (same ∙ is))) (differs text c small e other)

-- ---- one or the other

abbrev ListingOr : Text → Type 0
ListingOr text = ((c : Chunk) × Assembles text c) ⊎ ((f : ListFault) × IsFault text f)

-- the text has its forms, and is the listing of the chunk or not
where_read : (text : Text) (c : Chunk) (same : Bool) → length text < 18446744073709551616 → all_of text ≡ Ok c → same ≡ bytes_eq (listing c) text → ListingOr text
where_read text c true small e q = inl (c, compared_same text c (listing c) (listing c) small e refl refl q)
where_read text c false small e q =
    let number = differing_line text (listing c) in
    inr (ListFault.Differs number, compared_other text c (listing c) (listing c) number small e refl refl q refl)

where_missed : (text : Text) (m : Miss) → all_of text ≡ Err m → ListingOr text
where_missed text (Miss.BadLine left) e = let m = Miss.BadLine left in inr (fault_of text m, missed text m e)
where_missed text (Miss.TooDeep left) e = let m = Miss.TooDeep left in inr (fault_of text m, missed text m e)

either : (text : Text) (r : Read) → length text < 18446744073709551616 → all_of text ≡ r → ListingOr text
either text (Ok c) small e = where_read text c (bytes_eq (listing c) text) small e refl
either text (Err m) small e = where_missed text m e

pub one_or_other : ListingOrFault
one_or_other text small = either text (all_of text) small refl
