-- To be believed. Why bytes are no chunk: the first item, from the left, that they do not give.
use Rattle.std.specs.Prelude.{◌≡◌, ◌≢◌, ◌<◌, ◌≤◌, ◌^◌, ◌+◌, ◌==◌, ◌||◌, ℕ, zero, Bool, false, List, ◌∷◌, ◌++◌, length, take}
use Rattle.std.specs.List.{AllByRecursion}
use Rattle.proto.specs.Chunk.{Chunk}
use Rattle.chunk_io.specs.declared.layout.Layout.{Layout}
use Rattle.chunk_io.specs.declared.fault.ChunkFault.{ChunkFault}
use Rattle.chunk_io.specs.declared.fault.ChunkFault.TheVariants.{Header, Integral, Truncated, BadTag, BadString, BadCount, TooDeep, Trailing, OutOfMemory}
use Rattle.chunk_io.specs.Items.{Item, sign, order, width, integral, begin, int, tag, flag, some_size, ending, end, bytes_of, Allowed, items, spelling}

abbrev pub is_tag : ℕ → Bool
is_tag byte = (byte == 0) || (byte == 1) || (byte == 3) || (byte == 4)

-- The bytes that are left at an offset do not give the item, for this reason. Bytes are wanted past the end, and the offset is the
-- input's length; or the bytes that are there are no item of the kind, and the offset is that of the first.
abbrev pub Misses : Item → (offset : ℕ) → (left : List ℕ) → ChunkFault → Type 0
Misses item offset left (Truncated at) = (at ≡ offset + length left) × (length left < length (bytes_of item))
Misses (sign b) offset (byte ∷ left) (Header at) = (at ≡ offset) × (byte ≢ b)
Misses (order b) offset (byte ∷ left) (Header at) = (at ≡ offset) × (1 < byte)
Misses (width n) offset (byte ∷ left) (Header at) = (at ≡ offset) × (byte ≢ 4) × (byte ≢ 8)
Misses integral offset (byte ∷ left) (Header at) = (at ≡ offset) × (1 < byte)
Misses integral offset (zero ∷ left) Integral = Unit {0}
Misses (begin nesting) offset left TooDeep = 200 < nesting
Misses (int l n) offset left (BadCount at) = (at ≡ offset) × ((m : ℕ) × (2 ^ 31 ≤ m) × (m < 2 ^ 32) × (take 4 left ≡ bytes_of (int l m)))
Misses (tag t) offset (byte ∷ left) (BadTag at) = (at ≡ offset) × (is_tag byte ≡ false)
Misses (flag b) offset (byte ∷ left) (BadTag at) = (at ≡ offset) × (1 < byte)
Misses (some_size l n) offset left (BadString at) = (at ≡ offset) × (take (length (bytes_of (some_size l 0))) left ≡ bytes_of (some_size l 0))
Misses ending offset (byte ∷ left) (BadString at) = (at ≡ offset) × (0 < byte)
Misses end offset (byte ∷ left) (Trailing at) = at ≡ offset
Misses item offset left fault = ⊥

-- The bytes go as some chunk does, up to an item that they do not give. No limit binds that chunk behind this place.
pub record IsFault (bytes : List ℕ) (fault : ChunkFault) : Type 0 where
  pub layout : Layout
  pub chunk : Chunk
  pub before : List Item
  pub due : Item
  pub after : List Item
  pub in_order : items layout chunk ≡ before ++ due ∷ after
  pub given : AllByRecursion Allowed before
  pub left : List ℕ
  pub here : bytes ≡ spelling before ++ left
  pub missed : Misses due (length (spelling before)) left fault

-- a fault that is answered is one of the bytes; want of memory says nothing
abbrev pub StopsBy : List ℕ → ChunkFault → Type 0
StopsBy bytes OutOfMemory = Unit {0}
StopsBy bytes fault = IsFault bytes fault
