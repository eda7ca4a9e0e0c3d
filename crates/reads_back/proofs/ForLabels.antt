-- The labels of a `for` stand where its head, its foot and its end are made.
use Rattle.std.proofs.Common.{◌≡◌, ℕ, suc, ◌+◌, List, [], ◌∷◌, ◌++◌, length, get_or, ap, ◌∙◌, subst, arith}
use Rattle.std.proofs.lemmas.List.{get_or-set_other, get_or-set_same}
use Rattle.std.proofs.Math.Seq.{get_or-append_seam}
use Rattle.std.specs.Prelude.{Option}
use Rattle.lua_tree.specs.Syntax.{Statements}
use Rattle.scheme.specs.Making.{Maker, active_count, place}
use Rattle.scheme.specs.Scheme.{statements_made}
use Rattle.scheme.specs.Statements.{Loop, block_part, end_block}
use Rattle.scheme_stands.proofs.Blocks.{Settled, block_grows}
use Rattle.scheme_stands.proofs.Growth.{length_set}
use Rattle.scheme_stands.proofs.Statements.{grow_statements}
use Rattle.same_flow.specs.Laid.{label_of}
use Rattle.same_flow.proofs.Followed.{Run}
use Rattle.same_flow.proofs.ForsFollowed.{three_more}
use Rattle.same_flow.proofs.HeadsFollowed.{Head}
use Rattle.reads_back.proofs.LabelsStand.{Owned, ends_keep, owned_ends, owned_later, owned_placed, owned_unplaced, owned_unplaced_below}
use Rattle.reads_back.specs.Through.{pc_of_label}

-- behind the block of a loop, where its variables have ended
abbrev pub turned_to : (base : ℕ) → Statements → Option Loop → (begun : Maker) → Maker
turned_to base block inner begun = end_block 1 (base + 3) (block_part 1 (statements_made block inner) begun)

pub record ForLabels (z : Maker) (label : ℕ) (begun ended left : Maker) (block : Statements) (inner : Option Loop) : Type 0 where
  pub begin : pc_of_label z label ≡ length begun.items
  pub end : pc_of_label z (suc label) ≡ length ended.items
  pub exit : pc_of_label z (suc (suc label)) ≡ length left.items
  pub body : Owned (label_of begun) (statements_made block inner begun).labels z

-- its foot makes no label
pub for_labels : (z : Maker) {run : Run} {m begun : Maker} {from label foot to variables_end : ℕ} (head : Head run m from label foot to variables_end begun) (base : ℕ) (block : Statements) (inner : Option Loop)
    (left : Maker) → left.labels ≡ (place (suc label) (turned_to base block inner begun)).labels → Settled begun → Owned (label_of m) (place (suc (suc label)) left).labels z →
    ForLabels z label begun (turned_to base block inner begun) left block inner
for_labels z {run} {m} {begun} {from} {label} head base block inner left kept settled owned =
    let inside = statements_made block inner begun in
    let turned = block_part 1 (statements_made block inner) begun in
    let ended = turned_to base block inner begun in
    let e = head.same_label in
    let same = ends_keep 1 (base + 3) turned in
    let grown = block_grows 1 (statements_made block inner) begun (grow_statements block inner begun settled) in
    let count : label_of begun ≡ suc (suc (suc (label_of m))) = ap (λ (ls : List ℕ). length ls) head.labels ∙ three_more m.labels (length begun.items) in
    let here : length ended.labels ≡ length turned.labels = ap (λ (ls : List ℕ). length ls) same in
    let set_here = length_set ended.labels (suc label) (length ended.items) in
    let all : length left.labels ≡ length ended.labels = ap (λ (ls : List ℕ). length ls) kept ∙ set_here in
    let set_left = length_set left.labels (suc (suc label)) (length left.items) in
    let of_first = owned.stand label (omega arith) (omega (arith, count, here, all, set_left, grown.more)) in
    let of_second = owned.stand (suc label) (omega arith) (omega (arith, count, here, all, set_left, grown.more)) in
    let behind = owned_unplaced (suc (suc label)) left (omega arith) owned in
    let before_foot = owned_unplaced_below (suc label) ended (omega arith) (subst (λ (ls : List ℕ). Owned (suc (suc (suc label))) ls z) kept behind) in
    record {
      begin =
          of_first ∙ get_or-set_other left.labels (suc (suc label)) label (length left.items) 0 (λ n. omega (arith, n)) ∙ ap (λ (ls : List ℕ). get_or ls label 0) kept
          ∙ get_or-set_other ended.labels (suc label) label (length ended.items) 0 (λ n. omega (arith, n)) ∙ ap (λ (ls : List ℕ). get_or ls label 0) same
          ∙ grown.labels label (omega (arith, count, e)) ∙ ap (λ (ls : List ℕ). get_or ls label 0) head.labels
          ∙ ap (λ i. get_or (m.labels ++ length begun.items ∷ 0 ∷ 0 ∷ []) i 0) e ∙ get_or-append_seam m.labels (length begun.items) (0 ∷ 0 ∷ []) 0;
      end =
          of_second ∙ get_or-set_other left.labels (suc (suc label)) (suc label) (length left.items) 0 (λ n. omega (arith, n)) ∙ ap (λ (ls : List ℕ). get_or ls (suc label) 0) kept
          ∙ get_or-set_same ended.labels (suc label) (length ended.items) 0 (omega (arith, count, here, grown.more));
      exit = owned_placed (suc (suc label)) left (omega arith) (omega (arith, count, here, all, grown.more)) owned;
      body = owned_later (omega (arith, count)) (owned_ends 1 (active_count begun) inside (owned_ends 1 (base + 3) turned before_foot));
    }
