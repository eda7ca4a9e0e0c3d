-- Two functions are the same but for lines exactly where their parts and the functions in them are, and then they differ nowhere.
use Rattle.std.proofs.Common.{◌≡◌, ℕ, zero, suc, List, [], ◌∷◌, length, Option, refl, sym, ap, ◌∙◌, inl, inr}
use Rattle.std.specs.Prelude.{map, slice_get, Some, None, Result, Ok, Err, IfOk}
use Rattle.std.specs.declared.alloc.AllocError.{AllocError}
use Rattle.proto.specs.Chunk.{Own, Chunk, function, Functions, no_functions, and_function, functions_of, own, functions, function_count, each_of, no_lines, SameButLines}
use Rattle.proto.specs.Same.{SameShape}
use Rattle.proto.specs.View.{view_proto, view_protos}
use Rattle.proto.specs.declared.proto.Proto.{Proto, out-Proto}
use Rattle.proto.proofs.Views.{view_proto_fields}
use Rattle.proto.proofs.Own.{no_lines-same, no_lines-debug}
use Rattle.chunk_difference.specs.declared.difference.Part.{Part}
use Rattle.chunk_difference.specs.declared.lists.Unlike.{Unlike}
use Rattle.chunk_difference.specs.Finding.{IsFoundAmong, IsFoundBelow}
use Rattle.chunk_difference.specs.Difference.{DifferFirst, SamePart, PartDiffers, SameParts, all_parts, DifferAt, DifferAmong, source_bytes}

-- ---- counts of functions

count_of_all : (protos : List Proto) → function_count (functions_of (map view_proto protos)) ≡ length protos
count_of_all [] = refl
count_of_all (p ∷ protos) = ap (λ n. suc n) (count_of_all protos)

pub counted : (p : Proto) (protos : List Proto) → view_protos (out-Proto p).functions ≡ functions_of (map view_proto protos) → function_count (functions (view_proto p)) ≡ length protos
counted p protos view = ap (λ c. function_count (functions c)) (view_proto_fields p) ∙ ap function_count view ∙ count_of_all protos

count_without_lines : (fs : Functions) → function_count (each_of no_lines fs) ≡ function_count fs
count_without_lines no_functions = refl
count_without_lines (and_function c rest) = ap (λ n. suc n) (count_without_lines rest)

-- ---- the parts and the whole

shapes : (f g : Own) → f.upvalues ∷ f.params ∷ f.flags ∷ f.registers ∷ [] ≡ g.upvalues ∷ g.params ∷ g.flags ∷ g.registers ∷ [] → SameShape f g
shapes f g e = (cc e, cc e, cc e, cc e)

pub same_whole : (c d : Chunk) → SameParts all_parts c d → each_of no_lines (functions c) ≡ each_of no_lines (functions d) → SameButLines c d
same_whole (function f inner) (function g others) (shape, (code, (constants, (locals, (names, (lines, (source, counted))))))) e =
    let f_like_g : no_lines f ≡ no_lines g = no_lines-same f g (shapes f g shape) (code, constants) (source, lines, locals, names) in
    λ i. function (f_like_g i) (e i)

own_of_same : (c d : Chunk) → SameButLines c d → no_lines (own c) ≡ no_lines (own d)
own_of_same (function f inner) (function g others) e = ap own e

pub functions_of_same : (c d : Chunk) → SameButLines c d → each_of no_lines (functions c) ≡ each_of no_lines (functions d)
functions_of_same (function f inner) (function g others) e = ap functions e

-- equal counts of functions
counts : (c d : Chunk) → SameButLines c d → function_count (functions c) ≡ function_count (functions d)
counts c d e = sym (count_without_lines (functions c)) ∙ ap function_count (functions_of_same c d e) ∙ count_without_lines (functions d)

shape_of_same : (f g : Own) → no_lines f ≡ no_lines g → f.upvalues ∷ f.params ∷ f.flags ∷ f.registers ∷ [] ≡ g.upvalues ∷ g.params ∷ g.flags ∷ g.registers ∷ []
shape_of_same f g e = λ i. (e i).upvalues ∷ (e i).params ∷ (e i).flags ∷ (e i).registers ∷ []

pub parts_of_same : (c d : Chunk) → SameButLines c d → SameParts all_parts c d
parts_of_same c d e =
    let f = own c in
    let g = own d in
    let same = own_of_same c d e in
    let told = no_lines-debug f g same in
    (shape_of_same f g same, (ap (λ h. h.code) same, (ap (λ h. h.constants) same, (told.2, (told.3, (told.1, (told.0, (ap (λ n. n ∷ []) (counts c d e), tt {0}))))))))

-- ---- what is the same differs nowhere

never_first : {A : Type 0} (xs ys : List A) (at : ℕ) → xs ≡ ys → DifferFirst xs ys at → ⊥
never_first xs ys at e d = d.there (ap (λ zs. slice_get zs at) e)

never_part : (part : Part) (c d : Chunk) (at : ℕ) (one other : Option ℕ) → SamePart part c d → PartDiffers part c d at one other → ⊥
never_part Part.Shape c d at one other e p = never_first _ _ at e p.first
never_part Part.Code c d at one other e p = never_first _ _ at e p.first
never_part Part.Constants c d at one other e p = never_first _ _ at e p.first
never_part Part.Locals c d at one other e p = never_first _ _ at e p.first
never_part Part.Names c d at one other e p = never_first _ _ at e p.first
never_part Part.LineCount c d at one other e p = never_first _ _ at (ap (λ n. n ∷ []) e) p.first
never_part Part.Source c d at one other e (inl p) = never_first _ _ at (ap source_bytes e) p.first
never_part Part.Source c d at one other e (inr p) = p.unlike e
never_part Part.Functions c d at one other e p = never_first _ _ at e p.first

part_of_all : (part : Part) (c d : Chunk) → SameParts all_parts c d → SamePart part c d
part_of_all Part.Shape c d s = s.0
part_of_all Part.Code c d s = s.1.0
part_of_all Part.Constants c d s = s.1.1.0
part_of_all Part.Locals c d s = s.1.1.1.0
part_of_all Part.Names c d s = s.1.1.1.1.0
part_of_all Part.LineCount c d s = s.1.1.1.1.1.0
part_of_all Part.Source c d s = s.1.1.1.1.1.1.0
part_of_all Part.Functions c d s = s.1.1.1.1.1.1.1.0

mutual
  pub never_differ : (c d : Chunk) (path : List ℕ) (part : Part) (at : ℕ) (one other : Option ℕ) → SameButLines c d → DifferAt c d path part at one other → ⊥
  never_differ c d [] part at one other e p = never_part part c d at one other (part_of_all part c d (parts_of_same c d e)) p.there
  never_differ (function f inner) (function g others) (n ∷ path) part at one other e p = never_among inner others n path part at one other (functions_of_same (function f inner) (function g others) e) p.1

  never_among : (cs ds : Functions) (n : ℕ) (path : List ℕ) (part : Part) (at : ℕ) (one other : Option ℕ) → each_of no_lines cs ≡ each_of no_lines ds → DifferAmong cs ds n path part at one other → ⊥
  never_among (and_function c rest) (and_function d others) zero path part at one other e p = never_differ c d path part at one other (cc e) p
  never_among (and_function c rest) (and_function d others) (suc n) path part at one other e p = never_among rest others n path part at one other (cc e) p.1
  never_among no_functions ds n path part at one other e p = p
  never_among (and_function c rest) no_functions n path part at one other e p = p

-- ---- what is found below

lengths : (p q : Proto) (ps qs : List Proto) → view_protos (out-Proto p).functions ≡ functions_of (map view_proto ps) → view_protos (out-Proto q).functions ≡ functions_of (map view_proto qs) → SameParts all_parts (view_proto p) (view_proto q) → length ps ≡ length qs
lengths p q ps qs v w s =
    let e = part_of_all Part.Functions (view_proto p) (view_proto q) s in
    let counts : function_count (functions (view_proto p)) ≡ function_count (functions (view_proto q)) = cc e in
    sym (counted p ps v) ∙ counts ∙ counted q qs w

functions_are : (p : Proto) (ps : List Proto) → view_protos (out-Proto p).functions ≡ functions_of (map view_proto ps) → functions (view_proto p) ≡ functions_of (map view_proto ps)
functions_are p ps v = ap functions (view_proto_fields p) ∙ v

among_below : (c d : Chunk) → SameParts all_parts c d → (before after : List ℕ) (found : Option (Part × Unlike)) → IsFoundAmong (functions c) (functions d) before after found → IsFoundBelow c d before after found
among_below c d s before after None f = (same_whole c d s f.0, f.1)
among_below (function f inner) (function g others) s before after (Some (part, unlike)) (n, below, path, differ) = (n ∷ below, path, (s, differ))

pub found_below : (p q : Proto) (ps qs : List Proto) → view_protos (out-Proto p).functions ≡ functions_of (map view_proto ps) → view_protos (out-Proto q).functions ≡ functions_of (map view_proto qs) → SameParts all_parts (view_proto p) (view_proto q) → (before after : List ℕ) (found : Result (Option (Part × Unlike)) AllocError) → (length ps ≡ length qs → IfOk found (IsFoundAmong (functions_of (map view_proto ps)) (functions_of (map view_proto qs)) before after)) → IfOk found (IsFoundBelow (view_proto p) (view_proto q) before after)
found_below p q ps qs v w s before after (Err e) f = f (lengths p q ps qs v w s)
found_below p q ps qs v w s before after (Ok found) f =
    among_below (view_proto p) (view_proto q) s before after found (rw (functions_are p ps v, functions_are q qs w) (f (lengths p q ps qs v w s)))
