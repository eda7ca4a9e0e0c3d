-- A local function: the name is in scope in the function itself, and the register gets its value only then.
use Rattle.std.proofs.Common.{◌≡◌, ℕ, ◌+◌, true, false, List, [], ◌∷◌, ◌++◌, length, Some, None, refl, sym, ap, ◌∙◌, subst, arith}
use Rattle.std.specs.Prelude.{is_some, slice_get, slice_set}
use Rattle.lua_tree.specs.Syntax.{local_function, FunctionBody, function_body}
use Rattle.lua_num.specs.Bytes.{Text}
use Rattle.scheme.specs.declared.making.Active.{Active}
use Rattle.lua_model.specs.Datum.{Datum, nil, closure}
use Rattle.source_meaning.specs.State.{State as SourceState, Place as Scope, goes, new_cell, with_cell, new_closure, with_own}
use Rattle.source_meaning.specs.Programs.{done}
use Rattle.source_meaning.specs.Meaning.{execute}
use Rattle.rules.specs.Run.{Going}
use Rattle.scheme_stands.specs.Functions.{ClosureAt, Activated}
use Rattle.scheme_stands.specs.Relation.{FunctionOf}
use Rattle.agrees.proofs.Tasks.{StatementBy, Does, scope}
use Rattle.agrees.proofs.Posts.{FlowPost, fail_of}
use Rattle.agrees.proofs.Lists.{get_last}
use Rattle.agrees.proofs.Accounts.{Now, Self, Goes, goes_done, goes_is, goes_from, goes_word}
use Rattle.agrees.proofs.Sizes.{inner_statement}
use Rattle.agrees.proofs.Picture.{code_of, Setup, of_cell, Act, Site, registers, pic, at, Ok}
use Rattle.agrees.proofs.PictureApart.{add_local}
use Rattle.agrees.proofs.LocalsBegin.{put, declares}
use Rattle.agrees.proofs.CellsOfLocals.{writes_local, ok_local}
use Rattle.agrees.proofs.ValueClosures.{closure_word}

set_last : (xs : List Datum) (y w : Datum) → slice_set (xs ++ y ∷ []) (length xs) w ≡ xs ++ w ∷ []
set_last [] y w = refl
set_last (x ∷ xs) y w = ap (λ l. x ∷ l) (set_last xs y w)

-- what the register held before does not matter
same_end : (name : Text) (body : FunctionBody) (x : Site) (s : SourceState) (v w : Datum) → with_cell (new_closure (with_own (scope x) ((name, length s.cells) ∷ x.a.own)) body (new_cell s v)) (length s.cells) w ≡ with_cell (new_closure (with_own (scope x) ((name, length s.cells) ∷ x.a.own)) body (new_cell s nil)) (length s.cells) w
same_end name (function_body params vararg block first last) x s v w =
    ap (λ cs. record (new_closure (with_own (scope x) ((name, length s.cells) ∷ x.a.own)) (function_body params vararg block first last) s) { cells = cs }) (set_last s.cells v w ∙ sym (set_last s.cells nil w))

cells_kept : (c : Scope) (body : FunctionBody) (s : SourceState) → (new_closure c body s).cells ≡ s.cells
cells_kept c (function_body params vararg block first last) s = refl

module _ (z : Setup) (self : Self) where
  pub local_function_goes : (name : Text) (body : FunctionBody) → StatementBy z (local_function name body) (Does z self 1 (inner_statement (local_function name body)) (λ x s. execute (local_function name body) (scope x) s))
  local_function_goes name body s o g x around active1 p q ok out small t = begins x.high refl
    where
      begins : (high : List Datum) → x.high ≡ high → Goes z.bound self (fail_of z x) 1 (inner_statement (local_function name body)) o (Now (at s o g x p.pc)) (FlowPost z x around active1 q.pc) (execute (local_function name body) (scope x) s)
      begins [] e = absurd (let r = ok.acts.1 in let m = ok.acts.0.as_many in let l = t.room in let n = ap length e in omega (arith, r, m, l, n))
      begins (v ∷ rest) e =
          let a1 = subst (λ l. Activated l x.a.active active1) t.declared.1 t.activated in
          let a2 = subst (λ l. Activated l (x.a.active ++ a1.0 ∷ []) active1) t.declared.2.0 a1.2 in
          let one : Active = a1.0 in
          let named : (one.local.name ≡ name) × (is_some one.local.declaration ≡ true) = (ap (λ l. l.name) a1.1, ap (λ l. is_some l.declaration) a1.1) in
          let n : ℕ = length s.cells in
          let s1 : SourceState = new_cell s v in
          let d = declares z s g x.a x.below name one v rest named (subst (λ h. Ok z s g (put x.a x.below h)) e ok) in
          let act1 : Act = add_local x.a name n one in
          let x1 : Site = put act1 x.below rest in
          let r : ℕ = length x.a.active in
          let many : length x.a.active ≡ length x.a.slots = ok.acts.0.as_many in
          let cw = subst (λ l. ClosureAt (code_of x.a) (FunctionOf body false) l (length x.a.active + 1) (length x.a.active) t.mid q) a2 t.closure_at in
          let c = closure_word z self body s1 o _ x1 (length x.a.active + 1) r t.mid q d.0 (omega arith) t.room cw in
          let s2 : SourceState = new_closure (scope x1) body s1 in
          let w : Datum = closure (length s.closures) in
          let slot : slice_get act1.slots r ≡ Some (of_cell n) = get_last x.a.slots (of_cell n) r many in
          let s3 : SourceState = with_cell s2 n w in
          let regs = cells_kept (scope x1) body s1 in
          let begin_at : at s o g x p.pc ≡ at s1 o _ x1 t.mid.pc =
          ap (λ pc. at s o g x pc) (sym t.same) ∙ ap (λ h. at s o g (put x.a x.below h) t.mid.pc) e ∙ d.1 o t.mid.pc None in
          let end_at : pic s2 o c.0 x1 q.pc (slice_set (registers s1.cells act1 rest) r w) None ≡ at s3 o c.0 x1 q.pc =
          ap (λ cs. pic s2 o c.0 x1 q.pc (slice_set (registers cs act1 rest) r w) None) (sym regs) ∙ writes_local z s2 c.0 x1 r n w c.2 slot o q.pc None in
          goes_from z.bound self (fail_of z x) 1 (inner_statement (local_function name body)) o _ (Now (at s1 o _ x1 t.mid.pc)) (FlowPost z x around active1 q.pc) _ (ap Now begin_at)
          (goes_word z.bound self (fail_of z x) 0 (inner_statement (local_function name body)) o _ (at s3 o c.0 x1 q.pc) (FlowPost z x around active1 q.pc) _ (c.1 ∙ ap Going end_at)
          (goes_is z.bound self (fail_of z x) 0 (inner_statement (local_function name body)) o (Now (at s3 o c.0 x1 q.pc)) (FlowPost z x around active1 q.pc) _ (done (goes ((name, n) ∷ x.a.own)) s3) (ap (λ u. done (goes ((name, n) ∷ x.a.own)) u) (sym (same_end name body x s v w)))
          (goes_done z.bound self (fail_of z x) 0 (inner_statement (local_function name body)) o _ (FlowPost z x around active1 q.pc) (goes ((name, n) ∷ x.a.own)) s3
          (record {
            a = act1;
            g = c.0;
            high = rest;
            grown = record { active = one ∷ []; slots = of_cell n ∷ []; env = (name, n) ∷ x.a.own; is = refl };
            names = refl;
            actives = sym a2;
            is = refl;
            ok = ok_local z s2 c.0 x1 r n w c.2 slot;
          }))))
