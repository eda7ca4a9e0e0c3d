-- Functions on the same steps, with parts that make the same and say the same: they are made the same, and declare and mention the same.
use Rattle.std.proofs.Common.{◌≡◌, ℕ, zero, suc, ◌-◌, List, [], ◌∷◌, length, Option, None, Some, map, refl, sym, ap, ap₂, ◌∙◌, arith}
use Rattle.std.specs.Prelude.{slice_get, ◌++◌}
use Rattle.std.proofs.lemmas.Option.{none-some, slice_get_within}
use Rattle.lua_num.specs.Bytes.{Text}
use Rattle.lua_tree.specs.Outline as outline
use Rattle.lua_tree.specs.Outline.{Mark, Place, Walk, statements_part}
use Rattle.recover_expr.specs.Drafts.{Part, statement_part, values_part, condition_part, head_part}
use Rattle.recover_expr.specs.Placing.{Steps}
use Rattle.recover_expr.specs.declared.steps.Step.{Step}
use Rattle.recover_expr.specs.declared.steps.StepKind.{StepKind}
use Rattle.scheme.specs.Making.{Ahead, Maker, active_count, free_from}
use Rattle.scheme.specs.declared.making.Item.{Item}
use Rattle.scheme.specs.declared.making.Piece.{Piece}
use Rattle.scheme.specs.Statements.{settle}
use Rattle.same_flow.specs.Alike.{ArePartsLike, MarksOnLikeParts, SameOnLikeParts, SayLike, SaysLike, heads}
use Rattle.same_flow.specs.Performed.{Performance, behind_step, ended_before, ends_of, kind_at, part_at, performed_to}
use Rattle.same_flow.specs.Renaming.{StatementsRename, renamed_item, renamed_piece}
use Rattle.same_flow.specs.SameMarks.{but_breaks}
use Rattle.same_flow.specs.Told.{at_beginning}
use Rattle.same_flow.proofs.Endings.{numbered}
use Rattle.same_flow.proofs.Followed.{at_step, pc_of}
use Rattle.same_flow.proofs.FlowSame.{closed, direct_finished, function_of_steps, run as steps_of}
use Rattle.same_flow.proofs.MarksSame.{whole_walk}
use Rattle.same_flow.proofs.Walks.{Entry, Goes, Said, State, ended, one_way, run, said_at, says, says_at}

-- ---- lists of one length

pub none_in_both : {A B : Type 0} (xs : List A) (ys : List B) (at : ℕ) (y : B) → length ys ≡ length xs → slice_get xs at ≡ None → slice_get ys at ≡ Some y → ⊥
none_in_both [] ys at y same none there = let a = slice_get_within ys at y there in omega (arith, a, same)
none_in_both (x ∷ xs) [] at y same none there = none-some y there
none_in_both (x ∷ xs) (one ∷ ys) zero y same none there = none-some x (sym none)
none_in_both (x ∷ xs) (one ∷ ys) (suc at) y same none there = none_in_both xs ys at y (omega (arith, same)) none there

-- ---- what is said

walk_same : (one other : outline.Part) → SaysLike one other → (state : State) → ◌≡◌ {A = Said}
    (record { marks = but_breaks (one state.place).marks; after = record { place = (one state.place).next; entries = state.entries } })
    (record { marks = but_breaks (other state.place).marks; after = record { place = (other state.place).next; entries = state.entries } })
walk_same one other like state = ap₂ (λ (marks : List Mark) (next : Place). record { marks = marks; after = record { place = next; entries = state.entries } }) (like.marks state.place) (like.next state.place)

walk_until_same : (end : ℕ) (one other : outline.Part) → SaysLike one other → (state : State) → (let entry : Entry = record { scope = state.place.scope; active = state.place.active; end = end } in ◌≡◌ {A = Said}
    (record { marks = but_breaks (one state.place).marks; after = record { place = (one state.place).next; entries = entry ∷ state.entries } })
    (record { marks = but_breaks (other state.place).marks; after = record { place = (other state.place).next; entries = entry ∷ state.entries } }))
walk_until_same end one other like state =
    let entry : Entry = record { scope = state.place.scope; active = state.place.active; end = end } in
    ap₂ (λ (marks : List Mark) (next : Place). record { marks = marks; after = record { place = next; entries = entry ∷ state.entries } }) (like.marks state.place) (like.next state.place)

says_same : (kind : StepKind) (one two : Part) → SayLike kind one two → (state : State) → says kind one state ≡ says kind two state
says_same StepKind.Act (statement_part s) (statement_part t) like state = walk_same (outline.statement_part 1 s) (outline.statement_part 1 t) like state
says_same (StepKind.Declaration end captured) (statement_part s) (statement_part t) like state = walk_until_same end (outline.statement_part 1 s) (outline.statement_part 1 t) like state
says_same StepKind.Return (values_part es) (values_part others) like state = walk_same (outline.expressions_part es) (outline.expressions_part others) like state
says_same (StepKind.Test when target negated) (condition_part e) (condition_part other) like state = walk_same (outline.expression_part e) (outline.expression_part other) like state
says_same (StepKind.Head numeric foot end variables_end captured) (head_part es names) (head_part others texts) like state = walk_until_same variables_end (heads names es) (heads texts others) like state
says_same (StepKind.Jump target) one two like state = refl
says_same (StepKind.Close from declared) one two like state = refl
says_same (StepKind.Foot numeric target) one two like state = refl
says_same kind one two like state = absurd like

module _ (code other : Steps) (params names : List Text) (ahead : Ahead) (like : ArePartsLike code other params names ahead) where
  kinds_same : (at : ℕ) → kind_at other.steps at ≡ kind_at code.steps at
  kinds_same at = ap (λ (steps : List _). kind_at steps at) like.steps

  -- something of both steps is the same, if it is where both have a part
  both_steps : {A : Type 0} (at : ℕ) (f g : Option StepKind → Option Part → A) → ((kind : StepKind) (one two : Part) → kind_at code.steps at ≡ Some kind → part_at code at ≡ Some one → part_at other at ≡ Some two → f (Some kind) (Some one) ≡ g (Some kind) (Some two))
      → ((part other : Option Part) → f None part ≡ g None other) → ((kind : StepKind) → f (Some kind) None ≡ g (Some kind) None) → f (kind_at code.steps at) (part_at code at) ≡ g (kind_at other.steps at) (part_at other at)
  both_steps at f g some none_kind none_part = by (kind_at code.steps at) refl (part_at code at) refl (part_at other at) refl ∙ ap (λ kind. g kind (part_at other at)) (sym (kinds_same at))
    where
      by : (kind : Option StepKind) → kind_at code.steps at ≡ kind → (one : Option Part) → part_at code at ≡ one → (two : Option Part) → part_at other at ≡ two → f kind one ≡ g kind two
      by None is one one_is two two_is = none_kind one two
      by (Some kind) is None one_is None two_is = none_part kind
      by (Some kind) is None one_is (Some two) two_is = absurd (none_in_both code.parts other.parts at two like.count one_is two_is)
      by (Some kind) is (Some one) one_is None two_is = absurd (none_in_both other.parts code.parts at one (sym like.count) two_is one_is)
      by (Some kind) is (Some one) one_is (Some two) two_is = some kind one two is one_is two_is

  said_same : (at : ℕ) (state : State) → said_at code at state ≡ said_at other at state
  said_same at state =
      both_steps at (λ kind part. says_at kind part state) (λ kind part. says_at kind part state) (λ kind one two is one_is two_is. says_same kind one two (like.say at kind one two is one_is two_is) state)
      (λ part other. refl) (λ kind. refl)

  runs_same : (at count : ℕ) (state : State) → run code at count state ≡ run other at count state
  runs_same at zero state = refl
  runs_same at (suc count) state =
      let now = said_at other at (ended at state) in
      ap (λ (now : Said). let rest = run code (suc at) count now.after in record { marks = now.marks ++ rest.marks; after = rest.after }) (said_same at (ended at state))
      ∙ ap (λ (rest : Said). record { marks = now.marks ++ rest.marks; after = rest.after }) (runs_same (suc at) count now.after)

  -- ---- what is made

  first_same : at_beginning code params names ahead ≡ at_beginning other params names ahead
  first_same = ap (λ (steps : List _). at_beginning (record code { steps = steps }) params names ahead) (sym like.steps)

  pub performed_same : (at : ℕ) → performed_to code (at_beginning code params names ahead) at ≡ performed_to other (at_beginning other params names ahead) at
  performed_same zero = first_same
  performed_same (suc at) =
      let before = ended_before at (performed_to code (at_beginning code params names ahead) at) in
      both_steps at (λ kind part. behind_step code kind part before) (λ kind part. behind_step other kind part before)
      (λ kind one two is one_is two_is.
      ap (λ (after : Maker). record { maker = settle after; ends = before.ends ++ ends_of kind (active_count after - active_count before.maker) }) (like.make at kind one two is one_is two_is))
      (λ part other. refl) (λ kind. refl)
      ∙ ap (λ (now : Performance). behind_step other (kind_at other.steps at) (part_at other at) (ended_before at now)) (performed_same at)

  pcs_same : (at : ℕ) → pc_of (steps_of code params names ahead) at ≡ pc_of (steps_of other params names ahead) at
  pcs_same at = ap (λ (now : Performance). length now.maker.items) (performed_same at)

-- labels of the same numbers
renamed_same : (f g : ℕ → ℕ) → ((n : ℕ) → f n ≡ g n) → (piece : Piece) → renamed_piece f piece ≡ renamed_piece g piece
renamed_same f g same (Piece.Jump op a label) = ap (Piece.Jump op a) (same label)
renamed_same f g same (Piece.Abc op a b c) = refl
renamed_same f g same (Piece.Abx op a bx) = refl
renamed_same f g same (Piece.Bare n) = refl

items_same : (f g : ℕ → ℕ) → ((n : ℕ) → f n ≡ g n) → (items : List Item) → map (renamed_item f) items ≡ map (renamed_item g) items
items_same f g same [] = refl
items_same f g same (item ∷ items) = ap₂ (λ (piece : Piece) (others : List Item). record { line = item.line; piece = piece } ∷ others) (renamed_same f g same item.piece) (items_same f g same items)

numbered_same : (f g : ℕ → ℕ) → ((n : ℕ) → f n ≡ g n) → (m : Maker) → numbered f m ≡ numbered g m
numbered_same f g same m = ap (λ (items : List Item). record m { items = items; labels = [] }) (items_same f g same m.items)

-- ---- the laws

pub same_on_like_parts : StatementsRename → SameOnLikeParts
same_on_like_parts renames code other params names ahead plain others_plain like block found laid found_laid heading =
    let one = steps_of code params names ahead in
    let two = steps_of other params names ahead in
    let counts : length code.steps ≡ length other.steps = ap (λ (steps : List Step). length steps) (sym like.steps) in
    function_of_steps code params names ahead renames plain heading block laid
    ∙ ap (direct_finished heading) (numbered_same (pc_of one) (pc_of two) (pcs_same code other params names ahead like) (closed code params names ahead (free_from 0 (at_step one (length code.steps)).maker)))
    ∙ ap (λ (now : Performance). direct_finished heading (numbered (pc_of two) (closed other params names ahead (free_from 0 now.maker))))
    (performed_same code other params names ahead like (length code.steps) ∙ ap (at_step two) counts)
    ∙ sym (function_of_steps other params names ahead renames others_plain heading found found_laid)

pub marks_on_like_parts : MarksOnLikeParts
marks_on_like_parts code other params names ahead like block found laid found_laid place =
    let counts : length code.steps ≡ length other.steps = ap (λ (steps : List Step). length steps) (sym like.steps) in
    let goes = whole_walk code params names ahead block laid place in
    let also = whole_walk other params names ahead found found_laid place in
    let same = one_way (other_steps goes counts) also in
    (same.0, ap (λ (state : State). state.place.declarations) same.1, ap (λ (state : State). state.place.functions) same.1)
  where
    other_steps : {before after : State} {marks : List Mark} → Goes code 0 (length code.steps) before marks after → length code.steps ≡ length other.steps → Goes other 0 (length other.steps) before marks after
    other_steps {before} {after} {marks} goes counts = record {
      count = goes.count;
      reaches = goes.reaches ∙ counts;
      says = sym (runs_same code other params names ahead like 0 goes.count before) ∙ goes.says ∙ ap (λ to. record { marks = but_breaks marks; after = ended to after }) counts;
    }
