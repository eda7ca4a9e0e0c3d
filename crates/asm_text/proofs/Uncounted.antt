-- Why the law `listing_or_fault` asks that 64 bits count the text: the listing of a chunk has no fault, but where 64 bits do not count a name in the chunk no bytes spell it.
use Rattle.std.proofs.Common.{◌≡◌, ℕ, suc, ◌<◌, ◌≤◌, Bool, true, false, cond, List, [], length, Ok, Some, eqb, refl, subst, arith}
use Rattle.std.specs.List.{AllByRecursion}
use Rattle.lua_num.specs.Bytes.{Text}
use Rattle.proto.specs.Chunk.{Chunk, function, no_functions}
use Rattle.lister.specs.Listing.{listing}
use Rattle.chunk_io.specs.Items.{IsChunkOf, size_limit}
use Rattle.asm_text.specs.declared.fault.ListFault.{ListFault}
use Rattle.asm_text.specs.Lines.{listed, Allowed, AreBytes}
use Rattle.asm_text.specs.Faults.{IsFault, Assembles}
use Rattle.asm_text.specs.Reading.{all_of}
use Rattle.asm_text.proofs.Whole.{again}
use Rattle.asm_text.proofs.Shown.{listing_shown}
use Rattle.asm_text.proofs.OneAnswer.{read_again, read_no_fault}

-- a chunk with nothing but its source
empty_of : Text → Chunk
empty_of source =
    function (record { source = Some source; line_defined = 0; last_line = 0; upvalues = 0; params = 0; flags = 0; registers = 0; code = []; constants = []; lines = []; locals = []; upvalue_names = [] }) no_functions

empty_allowed : (source : Text) → AreBytes source → AllByRecursion Allowed (listed (empty_of source))
unfolding empty_of
empty_allowed source are =
    let few : 0 < 2147483648 = omega arith in
    let byte : 0 < 256 = omega arith in
    (omega arith, (tt, (are, ((few, few), ((byte, byte, byte, byte), (few, (few, (few, ((few, tt), (few, (few, tt)))))))))))

empty_read : (source : Text) → AreBytes source → all_of (listing (empty_of source)) ≡ Ok (empty_of source)
empty_read source are =
    let t = listing_shown (empty_of source) (empty_allowed source are) in
    again (listing (empty_of source)) (empty_of source) (record { given = t.texts; here = t.is; shown = t.shows })

sizes_below : (wide : Bool) → cond wide 18446744073709551616 4294967296 ≤ 18446744073709551616
sizes_below true = omega arith
sizes_below false = omega arith

empty_counted : (bytes : List ℕ) (source : Text) → IsChunkOf bytes (empty_of source) → suc (length source) < 18446744073709551616
unfolding empty_of
empty_counted bytes source (l, s) =
    let size : suc (length source) < size_limit l = s.fits.1.1.1.1.1.1.1.1.1.1.1.1.1.0 in
    omega (arith, sizes_below (eqb l.size 8), size)

-- With a source of 2^64 - 1 bytes, each of which stands for itself, this is a text of 2^64 + 106 bytes.
neither : (source : Text) → AreBytes source → 18446744073709551616 ≤ suc (length source) → ((c : Chunk) → Assembles (listing (empty_of source)) c → ⊥) × ((f : ListFault) → IsFault (listing (empty_of source)) f → ⊥)
neither source are long =
    let read = empty_read source are in (
      λ c a.
          let spelled : IsChunkOf a.bytes (empty_of source) = subst (λ d. IsChunkOf a.bytes d) (read_again (listing (empty_of source)) (empty_of source) c read a) a.spelled in
          omega (arith, empty_counted a.bytes source spelled, long),
      λ f s. read_no_fault (listing (empty_of source)) (empty_of source) f read refl s,
    )
