-- Where tokens are no tree, by the run over them.
use Rattle.std.proofs.Common.{◌≡◌, true, ℕ, zero, suc, ◌+◌, ◌-◌, ◌<◌, ◌≤◌, max, List, [], ◌∷◌, ◌++◌, length, take, drop, ◌⊎◌, inl, inr, Result, Ok, Err, IfOk, IfErr, IsOkAnd, refl, sym, ◌∙◌, ap, subst, arith, append_assoc, length-append}
use Rattle.std.proofs.lemmas.List.{take-append-drop}
use Rattle.std.proofs.Math.Seq.{take-append_seam, take-append-add}
use Rattle.std.proofs.Math.Nat.{le-max_left, le-max_right}
use Rattle.lua_tree.specs.Syntax.{Source, Statements}
use Rattle.lua_tree.specs.WellFormed.{WellFormed, is_formed, depth_of_statements}
use Rattle.lua_tree.specs.Spelled.{Phrase, block_phrase, SpellsSource}
use Rattle.lua_tree.specs.Trees.{IsTreeOf}
use Rattle.lua_tree.specs.View.{view_tree}
use Rattle.lua_tree.specs.declared.token.Token.{Token}
use Rattle.lua_tree.specs.declared.tree.Tree.{Tree}
use Rattle.parser.specs.Program.{Program, reads, main_chunk}
use Rattle.parser.specs.Runs.{Why, unexpected, too_deep, End, done, fault, Runs, gives, stops, looks, skips, deep, ends, wants, misses, chooses, passes, calls, fails}
use Rattle.parser.specs.Finds.{Finds, Refuses}
use Rattle.parser.specs.Laws.{TreesAreOne, FaultsAreOne, NeverBoth}
use Rattle.parser.specs.Places.{BeginsTree, IsFormed, StopsAt, IsUnexpectedAt, IsTooDeepAt, IsFaultOf, StopsBy}
use Rattle.parser.specs.declared.cursor.Halt.{Halt}
use Rattle.parser.specs.declared.fault.SyntaxFault.{SyntaxFault}
use Rattle.parser.proofs.Ends.{one_end, local, raise}
use Rattle.parser.proofs.Found.{main_found}
use Rattle.parser.proofs.Sound.{main_sound}
use Rattle.parser.proofs.Viable.{CanEnd, main_viable, main_deeper}

abbrev Main : ℕ → List Token → End block_phrase → Type 0
Main most tokens end = Runs most block_phrase (reads main_chunk) 1 tokens end

-- what is read of all tokens is their tree
pub found_tree : {tokens rest : List Token} {meant : Statements} {last : ℕ} → Finds main_chunk 1 tokens meant last rest → IsTreeOf tokens (record { body = meant; last_line = last })
found_tree f = let s = main_sound (f.leads.run _ refl) in record { well_formed = record { formed = s.formed; shallow = s.shallow }; spelled = s.spelled }

-- tokens that can be completed begin a tree
begins_formed : {most : ℕ} {front : List Token} → CanEnd most front → BeginsTree IsFormed front
begins_formed c = let s = main_sound c.run in record { source = record { body = c.meant; last_line = c.last }; others = c.new; kind = s.formed; spelled = s.spelled }

begins_well_formed : {front : List Token} → CanEnd 200 front → BeginsTree WellFormed front
begins_well_formed c =
    let s = main_sound c.run in
    record { source = record { body = c.meant; last_line = c.last }; others = c.new; kind = record { formed = s.formed; shallow = s.shallow }; spelled = s.spelled }

-- where a run has a fault, no tree of this kind is spelled
abbrev Excludes : Why → (Source → Type 0) → Type 0
Excludes why Kind = (tokens rest : List Token) (source : Source) → Main 200 tokens (fault why rest) → Kind source → SpellsSource source tokens → ⊥

no_run : {most : ℕ} {why : Why} (tokens rest : List Token) (source : Source) → Main most tokens (fault why rest) → is_formed source ≡ true → depth_of_statements source.body ≤ most → SpellsSource source tokens → ⊥
no_run {most} {why} tokens rest source a f d s =
    let e : fault why rest ≡ done source.body source.last_line [] = one_end a (main_found most source tokens f d s) in
    cc

no_well_formed : (why : Why) → Excludes why WellFormed
no_well_formed why tokens rest source a w s = no_run tokens rest source a w.formed w.shallow s

no_formed : Excludes unexpected IsFormed
no_formed tokens rest source a f s =
    let d = depth_of_statements source.body in
    no_run tokens rest source (raise {more = max 200 d} (le-max_left 200 d) tt a) f (le-max_right 200 d) s

-- tokens before a place, and with the next one
take_front : (front rest tokens : List Token) (at : ℕ) → tokens ≡ front ++ rest → length tokens ≡ at + length rest → take at tokens ≡ front
take_front front rest tokens at c l =
    let total : length (front ++ rest) ≡ length front + length rest = length-append front rest in
    let all : length (front ++ rest) ≡ at + length rest = sym (ap length c) ∙ l in
    let long : at ≡ length front = omega arith in
    rw (c, long) (take-append_seam front rest)

take_next : (front rest tokens : List Token) (token : Token) (at : ℕ) → tokens ≡ front ++ token ∷ rest → length tokens ≡ at + length (token ∷ rest) → take (at + 1) tokens ≡ front ++ token ∷ []
take_next front rest tokens token at c l =
    let total : length (front ++ token ∷ rest) ≡ length front + length (token ∷ rest) = length-append front (token ∷ rest) in
    let all : length (front ++ token ∷ rest) ≡ at + length (token ∷ rest) = sym (ap length c) ∙ l in
    let long : at ≡ length front = omega arith in
    rw (c, long) (take-append-add front (token ∷ rest) 1)

-- with the token of a fault, whatever follows, no such tree begins
no_more : {why : Why} {Kind : Source → Type 0} (tokens rest : List Token) (at : ℕ) →
    Excludes why Kind → Main 200 tokens (fault why rest) → length tokens ≡ at + length rest → at < length tokens → BeginsTree Kind (take (at + 1) tokens) → ⊥
no_more tokens [] at x a l i b = absurd (omega arith)
no_more {Kind} tokens (token ∷ rest) at x a l i b =
    let c = local a in
    let n : take (at + 1) tokens ≡ c.front ++ token ∷ [] = take_next c.front rest tokens token at c.cut l in
    let d : BeginsTree Kind (c.front ++ token ∷ []) = subst (BeginsTree Kind) n b in
    let all : c.front ++ token ∷ [] ++ d.others ≡ c.front ++ (token ∷ d.others) = append_assoc c.front (token ∷ []) d.others in
    x (c.front ++ token ∷ d.others) (token ∷ d.others) d.source (c.again (token ∷ d.others) (record { kind = refl; line = refl })) d.kind (subst (λ t. SpellsSource d.source t) all d.spelled)

stops_at : {why : Why} (tokens rest : List Token) (at : ℕ) → Main 200 tokens (fault why rest) → length tokens ≡ at + length rest → StopsAt tokens at
stops_at {why} tokens rest at a l =
    let v = main_viable a in
    record {
      within = omega arith;
      before = subst (BeginsTree WellFormed) (sym (take_front v.0 rest tokens at v.1 l)) (begins_well_formed v.2);
      no_more = λ i b. no_more tokens rest at (no_well_formed why) a l i b;
      no_tree = λ source t. no_well_formed why tokens rest source a t.well_formed t.spelled;
    }

-- a fault of depth stands at a token
abbrev IsAtEnd : {answer : Phrase} → End answer → Type 0
IsAtEnd (fault too_deep []) = Unit {0}
IsAtEnd end = ⊥

never_at_end : {most : ℕ} {answer : Phrase} {program : Program answer} {before : ℕ} {tokens : List Token} {end : End answer} → Runs most answer program before tokens end → IsAtEnd end → ⊥
never_at_end (looks a) e = never_at_end a e
never_at_end (skips h a) e = never_at_end a e
never_at_end (wants h a) e = never_at_end a e
never_at_end (chooses h a) e = never_at_end a e
never_at_end (passes h a) e = never_at_end a e
never_at_end (calls a b) e = never_at_end b e
never_at_end (fails {rest = []} {why = too_deep} a) e = never_at_end a tt
never_at_end gives e = e
never_at_end stops e = e
never_at_end (deep h) e = e
never_at_end ends e = e
never_at_end (misses h) e = e
never_at_end (fails {rest} {why = unexpected} a) e = e
never_at_end (fails {rest = token ∷ rest} {why = too_deep} a) e = e

deep_at : (tokens rest : List Token) (at : ℕ) → Main 200 tokens (fault too_deep rest) → length tokens ≡ at + length rest → IsTooDeepAt tokens at
deep_at tokens [] at a l = absurd (never_at_end a tt)
deep_at tokens (token ∷ rest) at a l =
    let d = main_deeper a in
    record {
      stops = stops_at tokens (token ∷ rest) at a l;
      within = omega arith;
      deeper = subst (BeginsTree IsFormed) (sym (take_next d.0 rest tokens token at d.1 l)) (begins_formed d.3);
    }

left_length : {why : Why} {tokens rest : List Token} → Main 200 tokens (fault why rest) → length rest ≤ length tokens
left_length {tokens} {rest} a =
    let c = local a in
    let total : length (c.front ++ rest) ≡ length c.front + length rest = length-append c.front rest in
    rw c.cut (omega arith)

-- what a halt says of the tokens, whose place is told by those that are left
pub unexpected_left : (tokens rest : List Token) → Refuses main_chunk 1 tokens rest Halt.Unexpected → length rest ≤ length tokens
unexpected_left tokens rest r = left_length (r.leads.run (fault unexpected rest) refl)

pub deep_left : (tokens rest : List Token) → Refuses main_chunk 1 tokens rest Halt.TooDeep → length rest ≤ length tokens
deep_left tokens rest r = left_length (r.leads.run (fault too_deep rest) refl)

pub refused_unexpected : (tokens rest : List Token) → Refuses main_chunk 1 tokens rest Halt.Unexpected → IsUnexpectedAt tokens (length tokens - length rest)
refused_unexpected tokens rest r =
    let a : Main 200 tokens (fault unexpected rest) = r.leads.run _ refl in
    let fits : length rest ≤ length tokens = left_length a in
    let at = length tokens - length rest in
    let l : length tokens ≡ at + length rest = omega arith in
    record {
      stops = stops_at tokens rest at a l;
      no_deeper = λ i b. no_more tokens rest at no_formed a l i b;
      no_deep_tree = λ source f s. no_formed tokens rest source a f s;
    }

pub refused_deep : (tokens rest : List Token) → Refuses main_chunk 1 tokens rest Halt.TooDeep → IsTooDeepAt tokens (length tokens - length rest)
refused_deep tokens rest r =
    let a : Main 200 tokens (fault too_deep rest) = r.leads.run _ refl in
    let fits : length rest ≤ length tokens = left_length a in
    deep_at tokens rest (length tokens - length rest) a (omega arith)

-- the first of two places would go on
take_less : (n m : ℕ) (tokens : List Token) → n ≤ m → take n (take m tokens) ≡ take n tokens
take_less zero m tokens h = refl
take_less (suc n) zero tokens h = absurd (omega arith)
take_less (suc n) (suc m) [] h = refl
take_less (suc n) (suc m) (token ∷ tokens) h = ap (λ l. token ∷ l) (take_less n m tokens (omega arith))

begins_less : {Kind : Source → Type 0} (n : ℕ) (front : List Token) → BeginsTree Kind front → BeginsTree Kind (take n front)
begins_less n front b =
    let all : take n front ++ (drop n front ++ b.others) ≡ front ++ b.others = sym (append_assoc (take n front) (drop n front) b.others) ∙ ap (λ l. l ++ b.others) (take-append-drop n front) in
    record { source = b.source; others = drop n front ++ b.others; kind = b.kind; spelled = subst (λ t. SpellsSource b.source t) (sym all) b.spelled }

not_before : (tokens : List Token) (a b : ℕ) → StopsAt tokens a → StopsAt tokens b → a < b → ⊥
not_before tokens a b s t h =
    let w : b ≤ length tokens = t.within in
    s.no_more (omega arith) (subst (BeginsTree WellFormed) (take_less (a + 1) b tokens (omega arith)) (begins_less (a + 1) (take b tokens) t.before))

not_apart : (a b : ℕ) → (a < b → ⊥) → (b < a → ⊥) → a ≡ b
not_apart a b h i = grind arith

one_place : (tokens : List Token) (a b : ℕ) → StopsAt tokens a → StopsAt tokens b → a ≡ b
one_place tokens a b s t = not_apart a b (not_before tokens a b s t) (not_before tokens b a t s)

never_deep : (tokens : List Token) (a b : ℕ) → IsUnexpectedAt tokens a → IsTooDeepAt tokens b → ⊥
never_deep tokens a b x y =
    let e : b ≡ a = one_place tokens b a y.stops x.stops in
    x.no_deeper (subst (λ n. n < length tokens) e y.within) (subst (λ n. BeginsTree IsFormed (take (n + 1) tokens)) e y.deeper)

pub one_fault : FaultsAreOne
one_fault tokens (SyntaxFault.Unexpected a) (SyntaxFault.Unexpected b) x y = ap SyntaxFault.Unexpected (one_place tokens a b x.stops y.stops)
one_fault tokens (SyntaxFault.Unexpected a) (SyntaxFault.TooDeep b) x y = absurd (never_deep tokens a b x y)
one_fault tokens (SyntaxFault.TooDeep a) (SyntaxFault.Unexpected b) x y = absurd (never_deep tokens b a y x)
one_fault tokens (SyntaxFault.TooDeep a) (SyntaxFault.TooDeep b) x y = ap SyntaxFault.TooDeep (one_place tokens a b x.stops y.stops)
one_fault tokens SyntaxFault.OutOfMemory other x y = absurd x
one_fault tokens one SyntaxFault.OutOfMemory x y = absurd y

pub tree_or_fault : NeverBoth
tree_or_fault tokens source (SyntaxFault.Unexpected a) t x = x.stops.no_tree source t
tree_or_fault tokens source (SyntaxFault.TooDeep a) t x = x.stops.no_tree source t
tree_or_fault tokens source SyntaxFault.OutOfMemory t x = x

-- one answer is left
pub tree_left : TreesAreOne → NeverBoth → (tokens : List Token) (result : Result Tree SyntaxFault) → IfOk result (λ tree. IsTreeOf tokens (view_tree tree)) → IfErr result (StopsBy tokens) →
    (source : Source) → IsTreeOf tokens source → IsOkAnd result (λ tree. view_tree tree ≡ source) ⊎ (result ≡ Err SyntaxFault.OutOfMemory)
tree_left one both tokens (Ok tree) found stopped source t = inl (one tokens (view_tree tree) source found t)
tree_left one both tokens (Err (SyntaxFault.Unexpected at)) found stopped source t = absurd (both tokens source (SyntaxFault.Unexpected at) t stopped)
tree_left one both tokens (Err (SyntaxFault.TooDeep at)) found stopped source t = absurd (both tokens source (SyntaxFault.TooDeep at) t stopped)
tree_left one both tokens (Err SyntaxFault.OutOfMemory) found stopped source t = inr refl

pub fault_left : FaultsAreOne → NeverBoth → (tokens : List Token) (result : Result Tree SyntaxFault) → IfOk result (λ tree. IsTreeOf tokens (view_tree tree)) → IfErr result (StopsBy tokens) →
    (other : SyntaxFault) → IsFaultOf tokens other → (result ≡ Err other) ⊎ (result ≡ Err SyntaxFault.OutOfMemory)
fault_left one both tokens (Ok tree) found stopped other f = absurd (both tokens (view_tree tree) other found f)
fault_left one both tokens (Err (SyntaxFault.Unexpected at)) found stopped other f = inl (ap Err (one tokens (SyntaxFault.Unexpected at) other stopped f))
fault_left one both tokens (Err (SyntaxFault.TooDeep at)) found stopped other f = inl (ap Err (one tokens (SyntaxFault.TooDeep at) other stopped f))
fault_left one both tokens (Err SyntaxFault.OutOfMemory) found stopped other f = inr refl
