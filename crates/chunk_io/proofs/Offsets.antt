-- What is missed, by the bytes that are left there and by the offset.
use Rattle.std.proofs.Common.{◌≡◌, ℕ, zero, suc, ◌+◌, List, ◌∷◌, length, refl, ap, arith}
use Rattle.chunk_io.specs.declared.fault.ChunkFault.{ChunkFault}
use Rattle.chunk_io.specs.declared.fault.ChunkFault.TheVariants as faults
use Rattle.chunk_io.specs.declared.miss.Miss.{Miss}
use Rattle.chunk_io.specs.Items.{Item, sign, order, width, integral, begin, int, tag, flag, some_size, ending, end}
use Rattle.chunk_io.specs.Faults.{Misses}
use Rattle.chunk_io.specs.Reading.{fault_of}
use Rattle.chunk_io.proofs.Phrases.{MissesLeft}

pub to_offset : (item : Item) (offset : ℕ) (left : List ℕ) (m : Miss) → MissesLeft item left m → Misses item offset left (fault_of m (offset + length left))
to_offset item offset left Miss.Truncated h = (refl, h)
to_offset (sign b) offset (byte ∷ left) (Miss.Header n) h = (omega (arith, h.0), h.1)
to_offset (order b) offset (byte ∷ left) (Miss.Header n) h = (omega (arith, h.0), h.1)
to_offset (width w) offset (byte ∷ left) (Miss.Header n) h = (omega (arith, h.0), h.1, h.2)
to_offset integral offset (byte ∷ left) (Miss.Header n) h = (omega (arith, h.0), h.1)
to_offset integral offset (zero ∷ left) Miss.Integral h = tt
to_offset (begin nesting) offset left Miss.TooDeep h = h
to_offset (int l x) offset left (Miss.BadCount n) h = (omega (arith, h.0), h.1)
to_offset (tag t) offset (byte ∷ left) (Miss.BadTag n) h = (omega (arith, h.0), h.1)
to_offset (flag b) offset (byte ∷ left) (Miss.BadTag n) h = (omega (arith, h.0), h.1)
to_offset (some_size l x) offset left (Miss.BadString n) h = (omega (arith, h.0), h.1)
to_offset ending offset (byte ∷ left) (Miss.BadString n) h = (omega (arith, h.0), h.1)
to_offset end offset (byte ∷ left) (Miss.Trailing n) h = omega (arith, h)
to_offset item offset left m h = absurd h

abbrev pub Left : Item → (offset : ℕ) → List ℕ → ChunkFault → Type 0
Left item offset left fault = (m : Miss) × MissesLeft item left m × (fault_of m (offset + length left) ≡ fault)

pub from_offset : (item : Item) (offset : ℕ) (left : List ℕ) (fault : ChunkFault) → Misses item offset left fault → Left item offset left fault
from_offset item offset left (faults.Truncated at) h = (Miss.Truncated, h.1, rw h.0 refl)
from_offset (sign b) offset (byte ∷ left) (faults.Header at) h = (Miss.Header (suc (length left)), (refl, h.1), ap faults.Header (omega (arith, h.0)))
from_offset (order b) offset (byte ∷ left) (faults.Header at) h = (Miss.Header (suc (length left)), (refl, h.1), ap faults.Header (omega (arith, h.0)))
from_offset (width w) offset (byte ∷ left) (faults.Header at) h = (Miss.Header (suc (length left)), (refl, h.1, h.2), ap faults.Header (omega (arith, h.0)))
from_offset integral offset (byte ∷ left) (faults.Header at) h = (Miss.Header (suc (length left)), (refl, h.1), ap faults.Header (omega (arith, h.0)))
from_offset integral offset (zero ∷ left) faults.Integral h = (Miss.Integral, tt, refl)
from_offset (begin nesting) offset left faults.TooDeep h = (Miss.TooDeep, h, refl)
from_offset (int l x) offset left (faults.BadCount at) h = (Miss.BadCount (length left), (refl, h.1), ap faults.BadCount (omega (arith, h.0)))
from_offset (tag t) offset (byte ∷ left) (faults.BadTag at) h = (Miss.BadTag (suc (length left)), (refl, h.1), ap faults.BadTag (omega (arith, h.0)))
from_offset (flag b) offset (byte ∷ left) (faults.BadTag at) h = (Miss.BadTag (suc (length left)), (refl, h.1), ap faults.BadTag (omega (arith, h.0)))
from_offset (some_size l x) offset left (faults.BadString at) h = (Miss.BadString (length left), (refl, h.1), ap faults.BadString (omega (arith, h.0)))
from_offset ending offset (byte ∷ left) (faults.BadString at) h = (Miss.BadString (suc (length left)), (refl, h.1), ap faults.BadString (omega (arith, h.0)))
from_offset end offset (byte ∷ left) (faults.Trailing at) h = (Miss.Trailing (suc (length left)), refl, ap faults.Trailing (omega (arith, h)))
from_offset item offset left fault h = absurd h
