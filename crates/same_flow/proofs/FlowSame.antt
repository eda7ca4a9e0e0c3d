-- Statements that stand on the same steps are the same function.
use Rattle.std.proofs.Common.{◌≡◌, ℕ, suc, List, [], ◌∷◌, ◌++◌, length, map, get_or, refl, sym, ap, ap₂, ◌∙◌, arith, subst}
use Rattle.std.proofs.Math.Seq.{get_or-append_seam}
use Rattle.std.specs.Prelude.{None, max, replicate, unsigned_abs}
use Rattle.lua_num.specs.Bytes.{Text}
use Rattle.lua_tree.specs.Syntax.{Statements}
use Rattle.opcode.specs.declared.op.Op.{Op}
use Rattle.opcode.specs.Word.{abc, abx, asbx}
use Rattle.proto.specs.Chunk.{function, functions_of}
use Rattle.recover_expr.specs.Placing.{Steps}
use Rattle.scheme.specs.Making.{too_many_registers, too_many_constants, jump_too_far, too_many_functions, Ahead, Maker, put, declare, free_from, end_locals, active_count}
use Rattle.scheme.specs.Functions.{distance, word_at, words_from, lines_of, reach_at, reach_from, Heading, register_count, vararg_flags, unless_within, Finished, finished, function_from, empty_maker}
use Rattle.scheme.specs.Scheme.{statements_made}
use Rattle.scheme.specs.Statements.{settle}
use Rattle.scheme.specs.declared.making.Piece.{Piece}
use Rattle.scheme.specs.declared.making.Item.{Item}
use Rattle.same_flow.specs.Laid.{label_of}
use Rattle.same_flow.specs.Renaming.{renamed_piece, renamed_item, StatementsRename}
use Rattle.same_flow.specs.SameFlow.{HasPlainParts, begun_of, AreLaid, SameFlow}
use Rattle.same_flow.proofs.Endings.{end_twice, end_none, numbered, alike_put, alike_end}
use Rattle.same_flow.proofs.Followed.{Run, at_step, pc_of, Follows, nought, Tied, append_nothing, append_again, length_both, settle_same}
use Rattle.same_flow.proofs.BlocksFollowed.{replicated, replicate_lasts}
use Rattle.same_flow.proofs.HeadsFollowed.{activated_count, activated_free, activated_items, declared_free}
use Rattle.same_flow.proofs.RunKeeps.{declared_active}
use Rattle.same_flow.proofs.StatementsFollowed.{body_goes}

-- ---- words by the places that they jump to

abbrev direct_word : (pc : ℕ) → Piece → ℕ
direct_word pc (Piece.Abc op a b c) = abc op a b c
direct_word pc (Piece.Abx op a bx) = abx op a bx
direct_word pc (Piece.Jump op a target) = asbx op a (distance pc target)
direct_word pc (Piece.Bare n) = n

abbrev direct_words : (pc : ℕ) → List Item → List ℕ
direct_words pc [] = []
direct_words pc (item ∷ items) = direct_word pc item.piece ∷ direct_words (suc pc) items

abbrev pub direct_reach_at : (pc : ℕ) → Piece → ℕ
direct_reach_at pc (Piece.Jump op a target) = unsigned_abs (distance pc target)
direct_reach_at pc piece = 0

abbrev pub direct_reach : (pc : ℕ) → List Item → ℕ
direct_reach pc [] = 0
direct_reach pc (item ∷ items) = max (direct_reach_at pc item.piece) (direct_reach (suc pc) items)

-- the place of a label
abbrev pub place_of : List ℕ → ℕ → ℕ
place_of labels label = get_or labels label 0

word_same : (labels : List ℕ) (pc : ℕ) (piece : Piece) → word_at labels pc piece ≡ direct_word pc (renamed_piece (place_of labels) piece)
word_same labels pc (Piece.Abc op a b c) = refl
word_same labels pc (Piece.Abx op a bx) = refl
word_same labels pc (Piece.Jump op a label) = refl
word_same labels pc (Piece.Bare n) = refl

words_same : (labels : List ℕ) (pc : ℕ) (items : List Item) → words_from labels pc items ≡ direct_words pc (map (renamed_item (place_of labels)) items)
words_same labels pc [] = refl
words_same labels pc (item ∷ items) = ap₂ (λ (w : ℕ) (ws : List ℕ). w ∷ ws) (word_same labels pc item.piece) (words_same labels (suc pc) items)

reach_at_same : (labels : List ℕ) (pc : ℕ) (piece : Piece) → reach_at labels pc piece ≡ direct_reach_at pc (renamed_piece (place_of labels) piece)
reach_at_same labels pc (Piece.Abc op a b c) = refl
reach_at_same labels pc (Piece.Abx op a bx) = refl
reach_at_same labels pc (Piece.Jump op a label) = refl
reach_at_same labels pc (Piece.Bare n) = refl

pub reach_same : (labels : List ℕ) (pc : ℕ) (items : List Item) → reach_from labels pc items ≡ direct_reach pc (map (renamed_item (place_of labels)) items)
reach_same labels pc [] = refl
reach_same labels pc (item ∷ items) = ap₂ max (reach_at_same labels pc item.piece) (reach_same labels (suc pc) items)

lines_same : (f : ℕ → ℕ) (items : List Item) → lines_of items ≡ lines_of (map (renamed_item f) items)
lines_same f [] = refl
lines_same f (item ∷ items) = ap (λ (ls : List ℕ). item.line ∷ ls) (lines_same f items)

-- a function of these words
abbrev finished_by : Heading → Maker → (words lines : List ℕ) → (reach : ℕ) → Finished
finished_by heading m words lines reach =
    let line = heading.first_line in
    record {
      chunk = function (record {
        source = heading.source;
        line_defined = heading.first_line;
        last_line = heading.last_line;
        upvalues = length m.upvalue_names;
        params = heading.params;
        flags = vararg_flags heading.vararg;
        registers = register_count m;
        code = words;
        constants = m.constants;
        lines = lines;
        locals = m.locals;
        upvalue_names = m.upvalue_names;
      }) (functions_of m.functions);
      ahead = m.ahead;
      misfits = m.misfits ++ (unless_within 250 (register_count m) (too_many_registers line (register_count m))
          ++ unless_within 262144 (length m.constants) (too_many_constants line (length m.constants))
          ++ unless_within 131071 reach (jump_too_far line reach)
          ++ unless_within 262144 (length m.functions) (too_many_functions line (length m.functions)));
    }

abbrev pub direct_finished : Heading → Maker → Finished
direct_finished heading m = finished_by heading m (direct_words 0 m.items) (lines_of m.items) (direct_reach 0 m.items)

finished_direct : (heading : Heading) (m : Maker) → finished heading m ≡ direct_finished heading (numbered (place_of m.labels) m)
finished_direct heading m =
    ap₂ (λ (words lines : List ℕ). finished_by heading m words lines (reach_from m.labels 0 m.items)) (words_same m.labels 0 m.items) (lines_same (place_of m.labels) m.items)
    ∙ ap (finished_by heading m (direct_words 0 (map (renamed_item (place_of m.labels)) m.items)) (lines_of (map (renamed_item (place_of m.labels)) m.items))) (reach_same m.labels 0 m.items)

-- ---- labels that stand where they are to stand

there : (f : ℕ → ℕ) (before xs : List ℕ) → Tied (place_of (before ++ map f xs)) f (length before) xs
there f before [] = tt
there f before (x ∷ xs) =
    let more = before ++ f x ∷ [] in
    let n = length before in
    let next : length more ≡ suc n = length_both before (f x ∷ []) ∙ (let e : length (f x ∷ []) ≡ 1 = refl in omega arith) in (
      get_or-append_seam before (f x) (map f xs) 0,
      subst (λ l. Tied (place_of (before ++ f x ∷ map f xs)) f l xs) next (subst (λ (ls : List ℕ). Tied (place_of ls) f (length more) xs) (append_again before (f x ∷ []) (map f xs)) (there f more xs)),
    )

-- ---- the beginning

pub declared_items : (texts : List Text) (m : Maker) → (declare texts m).after.items ≡ m.items
declared_items [] m = refl
declared_items (text ∷ texts) m = declared_items texts _

pub declared_count : (texts : List Text) (m : Maker) → length (declare texts m).value ≡ length texts
declared_count [] m = refl
declared_count (text ∷ texts) m = ap suc (declared_count texts _)

pub no_items : (params names : List Text) (ahead : Ahead) → (begun_of params names ahead).items ≡ []
no_items params names ahead = activated_items (declare params (empty_maker ahead names)).value (declare params (empty_maker ahead names)).after ∙ declared_items params (empty_maker ahead names)

pub begun_settled : (params names : List Text) (ahead : Ahead) → (begun_of params names ahead).free ≡ active_count (begun_of params names ahead)
begun_settled params names ahead =
    let empty = empty_maker ahead names in
    let declared = declare params empty in
    let a = activated_free declared.value declared.after in
    let b = declared_free params empty in
    let c = activated_count declared.value declared.after in
    let d : active_count declared.after ≡ 0 = ap (λ (l : List _). length l) (declared_active params empty) in
    let e = declared_count params empty in
    let n = length params in
    let z : empty.free ≡ 0 = refl in
    omega arith

module _ (code : Steps) (params names : List Text) (ahead : Ahead) where
  abbrev begun : Maker
  begun = begun_of params names ahead

  abbrev last : ℕ
  last = length code.steps

  abbrev ends : List ℕ
  ends = replicate (active_count begun) last

  abbrev pub run : Run
  run = record { code = code; first = record { maker = begun; ends = ends } }

  starts : (f g : ℕ → ℕ) → Follows run f g begun ends 0
  starts f g = record {
    behind = [];
    all_ends = sym (append_nothing ends);
    count = replicated (active_count begun) last;
    gone = tt;
    same =
        ap (λ (items : List Item). record begun { items = items; labels = [] }) (ap (map (renamed_item f)) (no_items params names ahead) ∙ sym (ap (map (renamed_item g)) (no_items params names ahead)))
        ∙ ap (numbered g) (sym (ap settle (end_none begun) ∙ settle_same begun (begun_settled params names ahead)));
  }

  -- all is made, and the last word
  abbrev pub closed : Maker → Maker
  closed m = put 1 (Piece.Abc Op.Return 0 1 0) (end_locals 0 m)

  -- what the tree makes is what the steps make, with the pcs of labels for their names
  pub steps_made : StatementsRename → HasPlainParts code → (block : Statements) → AreLaid code params names ahead block →
      let made = statements_made block None begun in numbered (place_of made.labels) made ≡ numbered (pc_of run) (settle (end_locals (active_count made) (at_step run last).maker))
  steps_made renames plain block laid =
      let made = statements_made block None begun in
      let G = body_goes run renames plain block None last None begun ends 0 last (starts nought nought) tt (replicate_lasts (active_count begun) last) (omega arith) laid in
      let pcs = pc_of run in
      let tied = subst (λ (ls : List ℕ). Tied (place_of ls) pcs (label_of begun) G.goes.numbers) (sym (G.goes.labels (starts nought nought))) (there pcs begun.labels G.goes.numbers) in
      (G.goes.follows (place_of made.labels) pcs tt tied (starts (place_of made.labels) pcs)).same

  module _ (renames : StatementsRename) (plain : HasPlainParts code) (heading : Heading) where
    -- what the steps make in a row
    pub function_of_steps : (block : Statements) → AreLaid code params names ahead block →
        function_from heading 1 params (statements_made block None) names ahead ≡ direct_finished heading (numbered (pc_of run) (closed (free_from 0 (at_step run last).maker)))
    function_of_steps block laid =
        let made = statements_made block None begun in
        let pcs = pc_of run in
        let now = (at_step run last).maker in
        let f = place_of made.labels in
        finished_direct heading (closed made)
        ∙ ap (direct_finished heading) ((alike_put f pcs 1 (Piece.Abc Op.Return 0 1 0) (Piece.Abc Op.Return 0 1 0) refl).alike (end_locals 0 made)
        (end_locals 0 (settle (end_locals (active_count made) now))) ((alike_end f pcs 0).alike made (settle (end_locals (active_count made) now)) (steps_made renames plain block laid)))
        ∙ ap (λ (m : Maker). direct_finished heading (numbered pcs (put 1 (Piece.Abc Op.Return 0 1 0) (free_from 0 m)))) (end_twice 0 (active_count made) now (omega arith))

pub same_flow : StatementsRename → SameFlow
same_flow renames code plain params names ahead block other laid also heading =
    function_of_steps code params names ahead renames plain heading block laid ∙ sym (function_of_steps code params names ahead renames plain heading other also)
