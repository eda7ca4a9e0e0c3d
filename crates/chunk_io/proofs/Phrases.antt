-- Phrases: what a reader reads goes by the items that its values stand for. Each law is kept when phrases are put together.
use Rattle.std.proofs.Common.{◌≡◌, ◌≢◌, ℕ, zero, suc, ◌^◌, ◌<◌, ◌≤◌, false, List, [], ◌∷◌, ◌++◌, length, take, Result, Ok, Err, refl, sym, ap, subst, ◌∙◌}
use Rattle.std.specs.List.{AllByRecursion}
use Rattle.std.proofs.lemmas.List.{append-nil}
use Rattle.chunk_io.specs.declared.miss.Miss.{Miss}
use Rattle.chunk_io.specs.Items.{Item, sign, order, width, integral, begin, int, tag, flag, some_size, ending, end, bytes_of, Allowed, spelling}
use Rattle.chunk_io.specs.Faults.{is_tag}
use Rattle.chunk_io.specs.Reading.{Read}
use Rattle.chunk_io.proofs.Numbers.{IsBytes}

-- As `Misses`, with how many bytes are left in place of an offset.
abbrev pub MissesLeft : Item → (left : List ℕ) → Miss → Type 0
MissesLeft item left Miss.Truncated = length left < length (bytes_of item)
MissesLeft (sign b) (byte ∷ left) (Miss.Header n) = (n ≡ suc (length left)) × (byte ≢ b)
MissesLeft (order b) (byte ∷ left) (Miss.Header n) = (n ≡ suc (length left)) × (1 < byte)
MissesLeft (width w) (byte ∷ left) (Miss.Header n) = (n ≡ suc (length left)) × (byte ≢ 4) × (byte ≢ 8)
MissesLeft integral (byte ∷ left) (Miss.Header n) = (n ≡ suc (length left)) × (1 < byte)
MissesLeft integral (zero ∷ left) Miss.Integral = Unit {0}
MissesLeft (begin nesting) left Miss.TooDeep = 200 < nesting
MissesLeft (int l x) left (Miss.BadCount n) = (n ≡ length left) × ((m : ℕ) × (2 ^ 31 ≤ m) × (m < 2 ^ 32) × (take 4 left ≡ bytes_of (int l m)))
MissesLeft (tag t) (byte ∷ left) (Miss.BadTag n) = (n ≡ suc (length left)) × (is_tag byte ≡ false)
MissesLeft (flag b) (byte ∷ left) (Miss.BadTag n) = (n ≡ suc (length left)) × (1 < byte)
MissesLeft (some_size l x) left (Miss.BadString n) = (n ≡ length left) × (take (length (bytes_of (some_size l 0))) left ≡ bytes_of (some_size l 0))
MissesLeft ending (byte ∷ left) (Miss.BadString n) = (n ≡ suc (length left)) × (0 < byte)
MissesLeft end (byte ∷ left) (Miss.Trailing n) = n ≡ suc (length left)
MissesLeft item left miss = ⊥

-- The bytes begin with a value of the phrase.
pub record Taken {V : Type 0} (items : V → List Item) (Is : V → Type 0) (bytes : List ℕ) (x : V × List ℕ) : Type 0 where
  pub here : bytes ≡ spelling (items x.0) ++ x.1
  pub allowed : AllByRecursion Allowed (items x.0)
  pub is : Is x.0

-- The bytes go as some value of the phrase does, up to an item that they do not give.
pub record MissIn {V : Type 0} (items : V → List Item) (Is : V → Type 0) (bytes : List ℕ) (m : Miss) : Type 0 where
  pub value : V
  pub is : Is value
  pub before : List Item
  pub due : Item
  pub after : List Item
  pub in_order : items value ≡ before ++ due ∷ after
  pub given : AllByRecursion Allowed before
  pub left : List ℕ
  pub here : bytes ≡ spelling before ++ left
  pub miss : MissesLeft due left m

-- what the answer means
abbrev pub Sees : {V : Type 0} → (V → List Item) → (V → Type 0) → List ℕ → Result (V × List ℕ) Miss → Type 0
Sees items Is bytes (Ok x) = Taken items Is bytes x
Sees items Is bytes (Err m) = MissIn items Is bytes m

-- The reader's answer is the only one that can mean what it means.
pub record Reads {V : Type 0} (read : Read V) (items : V → List Item) (Is : V → Type 0) : Type 0 where
  -- any value, behind a missed item
  pub some : V
  pub some_is : Is some
  pub sees : (bytes : List ℕ) → IsBytes bytes → Sees items Is bytes (read bytes)
  pub gives : (bytes : List ℕ) (r : Result (V × List ℕ) Miss) → Sees items Is bytes r → read bytes ≡ r

-- ---- one item

abbrev pub SeesItem : {V : Type 0} → (V → Item) → (V → Type 0) → (some : V) → List ℕ → Result (V × List ℕ) Miss → Type 0
SeesItem item Is some bytes (Ok x) = (bytes ≡ bytes_of (item x.0) ++ x.1) × Allowed (item x.0) × Is x.0
SeesItem item Is some bytes (Err m) = MissesLeft (item some) bytes m

pub record ReadsItem {V : Type 0} (read : Read V) (item : V → Item) (Is : V → Type 0) : Type 0 where
  pub some : V
  pub some_is : Is some
  pub sees : (bytes : List ℕ) → IsBytes bytes → SeesItem item Is some bytes (read bytes)
  pub takes : (x : V × List ℕ) → Is x.0 → Allowed (item x.0) → read (bytes_of (item x.0) ++ x.1) ≡ Ok x
  pub misses : (x : V) (bytes : List ℕ) (m : Miss) → Is x → MissesLeft (item x) bytes m → read bytes ≡ Err m

pub single_split : (x : Item) (before : List Item) (due : Item) (after : List Item) → x ∷ [] ≡ before ++ due ∷ after → (before ≡ []) × (x ≡ due)
single_split x [] due after e = (refl, cc)
single_split x (b ∷ []) due after e = absurd cc
single_split x (b ∷ (c ∷ before)) due after e = absurd cc

item_sees : {V : Type 0} (item : V → Item) (Is : V → Type 0) (some : V) → Is some → (bytes : List ℕ) (r : Result (V × List ℕ) Miss) → SeesItem item Is some bytes r → Sees (λ x. item x ∷ []) Is bytes r
item_sees item Is some is bytes (Ok x) s = record { here = s.0 ∙ ap (λ b. b ++ x.1) (sym (append-nil (bytes_of (item x.0)))); allowed = (s.1, tt); is = s.2 }
item_sees item Is some is bytes (Err m) s = record { value = some; is = is; before = []; due = item some; after = []; in_order = refl; given = tt; left = bytes; here = refl; miss = s }

item_gives : {V : Type 0} {read : Read V} {item : V → Item} {Is : V → Type 0} (p : ReadsItem read item Is) (bytes : List ℕ) (r : Result (V × List ℕ) Miss) → Sees (λ x. item x ∷ []) Is bytes r → read bytes ≡ r
item_gives {read = read} {item = item} p bytes (Ok x) s = ap read (s.here ∙ ap (λ b. b ++ x.1) (append-nil (bytes_of (item x.0)))) ∙ p.takes x s.is s.allowed.0
item_gives {read = read} {item = item} p bytes (Err m) s =
    let at = single_split (item s.value) s.before s.due s.after s.in_order in
    let whole : bytes ≡ s.left = s.here ∙ ap (λ b. spelling b ++ s.left) at.0 in
    ap read whole ∙ p.misses s.value s.left m s.is (subst (λ i. MissesLeft i s.left m) (sym at.1) s.miss)

pub reads_item : {V : Type 0} {read : Read V} {item : V → Item} {Is : V → Type 0} → ReadsItem read item Is → Reads read (λ x. item x ∷ []) Is
reads_item {read = read} {item = item} {Is = Is} p = record {
  some = p.some;
  some_is = p.some_is;
  sees = λ bytes fits. item_sees item Is p.some p.some_is bytes (read bytes) (p.sees bytes fits);
  gives = item_gives p;
}
