-- Serves the laws. Where the parts of a statement with blocks stand, each from the words that are made before it to those that are made with it.
use Rattle.std.specs.Prelude.{not, ◌||◌, ◌+◌, ℕ, suc, Bool, true, false, length, get_or, [], ◌∷◌, Option, option_map}
use Rattle.lua_tree.specs.Syntax as syntax
use Rattle.lua_tree.specs.Syntax.{Statements, no_statements, Statement, do_block, while_loop, repeat_loop, if_statement, numeric_for, generic_for, Branches, no_branches, branch, Otherwise, no_otherwise, otherwise, ForStep, Expressions, Expression, and_expression, or_expression, unary_expression, parenthesized}
use Rattle.lua_tree.specs.declared.tree.UnaryOp.{UnaryOp}
use Rattle.opcode.specs.declared.op.Op.{Op}
use Rattle.scheme.specs.Expressions.{next_reg}
use Rattle.scheme.specs.Making.{Maker, captured_from, active_count, declare, end_locals, jump_to, place, put}
use Rattle.scheme.specs.Scheme.{coded, all_coded, has_branch, has_otherwise, statement_made, statements_made, branches_made, step_coded}
use Rattle.scheme.specs.Statements.{Loop, arm_part, block_part, close_from, end_block, settle, step_part}
use Rattle.scheme.specs.Lists.{adjust}
use Rattle.scheme.specs.declared.making.Piece.{Piece}
use Rattle.scheme_stands.proofs.Growth.{spot}
use Rattle.scheme_stands.specs.Lists.{AdjustAt}
use Rattle.scheme_stands.specs.Relation.{StatementAt, StepAt, related, all_related}
use Rattle.scheme_stands.specs.Statements.{CloseAt, LoopAt}
use Rattle.scheme_stands.specs.Words.{Fn, Stretch, WordAt}
use Rattle.same_flow.specs.Laid.{arm_begun, for_loop_of, generic_begun, generic_valued, label_of, loop_of, numeric_begun, numeric_valued, repeat_begun, while_begun, with_new_labels}

-- where a label stands in the function that is made in the end
abbrev pub pc_of_label : Maker → (label : ℕ) → ℕ
pc_of_label z label = get_or z.labels label 0

abbrev pub loop_at : Maker → Option Loop → Option LoopAt
loop_at z loop = option_map (λ (loop : Loop). record { exit = pc_of_label z loop.exit; before = loop.before }) loop

-- a part stands from the words before it to those with it
abbrev pub Between : Stretch → (m made : Maker) → Type 0
Between stretch m made = stretch (spot m) (spot made)

-- ---- conditions, by their tests

-- the one where it holds, and the other where it does not
abbrev pub Where : Bool → (one other : Type 0) → Type 0
Where true one other = one
Where false one other = other

abbrev pub TestThrough : Fn → (z : Maker) → Expression → (sense : Bool) → (label : ℕ) → Maker → Type 0
TestThrough g z (and_expression line left right) sense label m =
    Where sense
    (TestThrough g z left false (label_of m) (with_new_labels 1 m) × TestThrough g z right sense label ((coded left).jump_if false (label_of m) (with_new_labels 1 m)))
    (TestThrough g z left false label m × TestThrough g z right sense label ((coded left).jump_if false label m))
TestThrough g z (or_expression line left right) sense label m =
    Where sense
    (TestThrough g z left true label m × TestThrough g z right sense label ((coded left).jump_if true label m))
    (TestThrough g z left true (label_of m) (with_new_labels 1 m) × TestThrough g z right sense label ((coded left).jump_if true (label_of m) (with_new_labels 1 m)))
TestThrough g z (unary_expression line UnaryOp.Not e) sense label m = TestThrough g z e (not sense) label m
TestThrough g z (parenthesized line e) sense label m = TestThrough g z e sense label m
TestThrough g z e sense label m = Between ((related g e).jump_if m.active (length m.active) sense (pc_of_label z label)) m ((coded e).jump_if sense label m)

-- ---- words

-- the CLOSE at the end of a block, whose locals are those from the n-th on, where one of them is captured
abbrev pub EndsThrough : Fn → (line n : ℕ) → Maker → Type 0
EndsThrough g line n m = Between (CloseAt (captured_from n m) g n) m (end_block line n m)

abbrev pub WordThrough : Fn → (z : Maker) → Op → (a label : ℕ) → (line : ℕ) → Maker → Type 0
WordThrough g z op a label line m = Between (WordAt g (Piece.Jump op a (pc_of_label z label))) m (put line (Piece.Jump op a label) m)

abbrev pub JumpThrough : Fn → (z : Maker) → (more : Bool) → (line label : ℕ) → Maker → Type 0
JumpThrough g z true line label m = WordThrough g z Op.Jmp 0 label line m
JumpThrough g z false line label m = Unit {0}

-- the test sees the locals of the body; `again` is the label of the second CLOSE, if there is one
abbrev pub UntilThrough : Fn → (z : Maker) → (captured : Bool) → Expression → (line start exit n : ℕ) → Maker → Type 0
UntilThrough g z false e line start exit n m = TestThrough g z e false start m
UntilThrough g z true e line start exit n m =
    let again = label_of m in
    let tested = (coded e).jump_if false again (with_new_labels 1 m) in
    let closed = close_from line n tested in
    let left = jump_to line exit closed in
    let behind = end_locals n (place again left) in
    TestThrough g z e false again (with_new_labels 1 m) × Between (WordAt g (Piece.Abc Op.Close n 0 0)) tested closed × WordThrough g z Op.Jmp 0 exit line closed
    × Between (WordAt g (Piece.Abc Op.Close n 0 0)) behind (close_from line n behind) × WordThrough g z Op.Jmp 0 start line (close_from line n behind)

-- ---- a `for`

-- a turn: its block, whose end may close its own locals, and the end of its variables
abbrev pub turn_made : (line : ℕ) → Statements → Option Loop → Maker → Maker
turn_made line block loop begun = block_part line (statements_made block loop) begun

abbrev pub NumericHead : Fn → (line : ℕ) → (first last : Expression) → ForStep → (declared : Maker) → Type 0
NumericHead g line first last by m =
    let first_made = next_reg (coded first) m in
    let last_made = next_reg (coded last) first_made in
    Between ((related g first).to_reg m.active m.free m.free) m first_made × Between ((related g last).to_reg m.active first_made.free first_made.free) first_made last_made
    × Between (StepAt g by m.active last_made.free) last_made (step_part line (step_coded by) last_made)

-- ---- statements

abbrev mutual
  pub BodyThrough : Fn → (z : Maker) → Option Loop → Statements → Maker → Type 0
  BodyThrough g z loop no_statements m = Unit {0}
  BodyThrough g z loop (syntax.statement line semi s rest) m = StatementThrough g z line loop s m × BodyThrough g z loop rest (settle (statement_made s line loop m))

  pub StatementThrough : Fn → (z : Maker) → (line : ℕ) → Option Loop → Statement → Maker → Type 0
  StatementThrough g z line loop (do_block block) m = BodyThrough g z loop block m × EndsThrough g line (active_count m) (statements_made block loop m)
  StatementThrough g z line loop (while_loop e block) m =
      let begun = while_begun e m in
      let made = block_part line (statements_made block (loop_of m)) begun in
      TestThrough g z e false (label_of m) (place (suc (label_of m)) (with_new_labels 2 m)) × BodyThrough g z (loop_of m) block begun
      × EndsThrough g line (active_count m) (statements_made block (loop_of m) begun) × WordThrough g z Op.Jmp 0 (suc (label_of m)) line made
  StatementThrough g z line loop (repeat_loop block e) m =
      let inside = statements_made block (loop_of m) (repeat_begun m) in
      BodyThrough g z (loop_of m) block (repeat_begun m) × UntilThrough g z (captured_from (active_count m) inside) e line (suc (label_of m)) (label_of m) (active_count m) inside
  StatementThrough g z line loop (if_statement branches last) m =
      BranchesThrough g z line loop (label_of m) (has_otherwise last) branches (with_new_labels 1 m)
      × OtherwiseThrough g z line loop last (branches_made branches line loop (label_of m) (has_otherwise last) (with_new_labels 1 m))
  StatementThrough g z line loop (numeric_for name first last by block) m =
      let valued = numeric_valued line name first last by m in
      let begun = numeric_begun line name first last by m in
      let inner = for_loop_of (active_count m) valued in
      let turned = turn_made line block inner begun in
      NumericHead g line first last by (declare (name ∷ []) m).after × WordThrough g z Op.ForPrep m.free (suc (label_of valued)) line (with_new_labels 3 valued)
      × BodyThrough g z inner block begun × EndsThrough g line (active_count begun) (statements_made block inner begun) × EndsThrough g line (m.free + 3) turned
      × WordThrough g z Op.ForLoop m.free (label_of valued) line (place (suc (label_of valued)) (end_block line (m.free + 3) turned))
  StatementThrough g z line loop (generic_for names es block) m =
      let declared = (declare names m).after in
      let valued = generic_valued line names es m in
      let begun = generic_begun line names es m in
      let inner = for_loop_of (active_count m) valued in
      let turned = turn_made line block inner begun in
      let foot = place (suc (label_of valued)) (end_block line (m.free + 3) turned) in
      Between (AdjustAt g (all_related g es) 3 declared.active declared.free) declared (adjust line (all_coded es) 3 declared) × WordThrough g z Op.Jmp 0 (suc (label_of valued)) line (with_new_labels 3 valued)
      × BodyThrough g z inner block begun × EndsThrough g line (active_count begun) (statements_made block inner begun) × EndsThrough g line (m.free + 3) turned
      × Between (WordAt g (Piece.Abc Op.TForLoop m.free 0 (length names))) foot (put line (Piece.Abc Op.TForLoop m.free 0 (length names)) foot)
      × WordThrough g z Op.Jmp 0 (label_of valued) line (put line (Piece.Abc Op.TForLoop m.free 0 (length names)) foot)
  StatementThrough g z line loop s m = let made = statement_made s line loop m in StatementAt g (loop_at z loop) s m.active made.active (spot m) (spot made)

  pub BranchesThrough : Fn → (z : Maker) → (line : ℕ) → Option Loop → (end : ℕ) → (more : Bool) → Branches → Maker → Type 0
  BranchesThrough g z line loop end more no_branches m = Unit {0}
  BranchesThrough g z line loop end more (branch e block rest) m =
      let begun = arm_begun e m in
      let made = block_part line (statements_made block loop) begun in
      TestThrough g z e false (label_of m) (with_new_labels 1 m) × BodyThrough g z loop block begun × EndsThrough g line (active_count m) (statements_made block loop begun)
      × JumpThrough g z (has_branch rest || more) line end made × BranchesThrough g z line loop end more rest (arm_part line end (has_branch rest || more) (coded e) (statements_made block loop) m)

  pub OtherwiseThrough : Fn → (z : Maker) → (line : ℕ) → Option Loop → Otherwise → Maker → Type 0
  OtherwiseThrough g z line loop no_otherwise m = Unit {0}
  OtherwiseThrough g z line loop (otherwise block) m = BodyThrough g z loop block m × EndsThrough g line (active_count m) (statements_made block loop m)
