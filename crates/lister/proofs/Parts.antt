-- The parts of a function's listing make the whole, and what they are made of.
use Rattle.std.proofs.Common.{◌≡◌, ◌∙◌, ℕ, suc, Bool, false, List, [], ◌∷◌, ◌++◌, length, map, refl, ap, codes, append_assoc}
use Rattle.lua_num.specs.Bytes.{Text}
use Rattle.proto.specs.Chunk.{Own, own, functions, functions_of, function_count}
use Rattle.proto.specs.View.{view_proto, view_protos}
use Rattle.proto.specs.declared.parts.Constant.{Constant}
use Rattle.proto.specs.declared.parts.LocVar.{LocVar}
use Rattle.proto.specs.declared.proto.Proto.{Proto, out-Proto}
use Rattle.proto.proofs.Views.{view_proto_fields, own_fields}
use Rattle.lister.specs.Listing.{counted_line, numbered, constant_text, local_text, quoted, code_line, code_lines, own_listing, is_block_next, shown}
use Rattle.lister.specs.Parts.{with_lists, shape_of, name_line, source_line, numbers_line, count_line, code_part, lines_line, list_part}

-- code lines are made of the lines and the constants alone
code_lines-with_lists : (f : Own) (raw : Bool) (pc : ℕ) (words : List ℕ) → code_lines (with_lists f.lines f.constants) raw pc words ≡ code_lines f raw pc words
code_lines-with_lists f raw pc [] = refl
code_lines-with_lists f raw pc (word ∷ words) =
    ap (λ t. code_line f raw pc word ++ t) (code_lines-with_lists f (is_block_next (shown raw word)) (suc pc) words)

function_count-functions_of : (protos : List Proto) → function_count (functions_of (map view_proto protos)) ≡ length protos
function_count-functions_of [] = refl
function_count-functions_of (p ∷ protos) = ap suc (function_count-functions_of protos)

code_part-append : (f : Own) (rest : Text) → code_part f.code f.lines f.constants ++ rest ≡ counted_line (codes "code") (length f.code) ++ (code_lines f false 0 f.code ++ rest)
unfolding code_part
code_part-append f rest =
    append_assoc (counted_line (codes "code") (length f.code)) (code_lines (with_lists f.lines f.constants) false 0 f.code) rest
    ∙ ap (λ t. counted_line (codes "code") (length f.code) ++ (t ++ rest)) (code_lines-with_lists f false 0 f.code)

list_part-append : {A : Type 0} (text : A → Text) (what : Text) (items : List A) (rest : Text) → list_part text what items ++ rest ≡ counted_line what (length items) ++ (numbered text 0 items ++ rest)
unfolding list_part
list_part-append text what items rest = append_assoc (counted_line what (length items)) (numbered text 0 items) rest

list_part-lem : {A : Type 0} (text : A → Text) (what : Text) (items : List A) → list_part text what items ≡ counted_line what (length items) ++ numbered text 0 items
unfolding list_part
list_part-lem text what items = refl

own_listing-parts : (name : Text) (f : Own) (functions : ℕ) → own_listing name f functions ≡ name_line name ++ (source_line f.source ++ (numbers_line (codes "defined") (f.line_defined ∷ f.last_line ∷ []) ++ (numbers_line (codes "shape") (shape_of f) ++ (code_part f.code f.lines f.constants ++ (list_part constant_text (codes "constants") f.constants ++ (count_line (codes "functions") functions ++ (lines_line f.lines ++ (list_part local_text (codes "locals") f.locals ++ list_part quoted (codes "names") f.upvalue_names))))))))
unfolding name_line source_line numbers_line count_line lines_line
own_listing-parts name f functions =
    rw (code_part-append f, list_part-append constant_text, list_part-append local_text, list_part-lem quoted)

-- what a function has beside the functions in it is listed part by part, each behind the parts before it
pub with_own_listing : (before name : Text) (p : Proto) (protos : List Proto) {code lines shape : List ℕ} {constants : List Constant} {locals : List LocVar} {names : List Text} →
    shape ≡ shape_of (own (view_proto p)) → code ≡ (out-Proto p).code → constants ≡ (out-Proto p).constants → lines ≡ (out-Proto p).lines → locals ≡ (out-Proto p).locals → names ≡ (out-Proto p).upvalue_names →
    view_protos (out-Proto p).functions ≡ functions_of (map view_proto protos) →
    before ++ own_listing name (own (view_proto p)) (function_count (functions (view_proto p)))
    ≡ before ++ name_line name ++ source_line (out-Proto p).source ++ numbers_line (codes "defined") ((out-Proto p).line_defined ∷ (out-Proto p).last_line ∷ []) ++ numbers_line (codes "shape") shape
    ++ code_part code lines constants ++ list_part constant_text (codes "constants") constants ++ count_line (codes "functions") (length protos)
    ++ lines_line lines ++ list_part local_text (codes "locals") locals ++ list_part quoted (codes "names") names
with_own_listing before name p protos shape code constants lines locals names view =
    ap (λ c. before ++ own_listing name (own c) (function_count (functions c))) (view_proto_fields p)
    ∙ ap (λ n. before ++ own_listing name (own_fields p) n) (ap function_count view ∙ function_count-functions_of protos)
    ∙ ap (λ t. before ++ t) (own_listing-parts name (own_fields p) (length protos))
    ∙ rw (shape, code, constants, lines, locals, names, view_proto_fields p) (simp (← append_assoc))

-- a text behind one that is equal to another
pub behind : {before other after : Text} (text : Text) → before ≡ other → after ≡ before ++ text → after ≡ other ++ text
behind text same is = is ∙ ap (λ t. t ++ text) same
