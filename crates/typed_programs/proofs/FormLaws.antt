-- Forms are built where their parts are.
use Rattle.std.proofs.Common.{◌≡◌, ℕ, zero, suc, ◌<◌, ◌≤◌, List, [], ◌∷◌, length, map, refl, sym, ap, subst, arith, Bor}
use Rattle.std.specs.List.{All}
use Rattle.fut_scalar.specs.declared.place.BindId.{BindId}
use Rattle.fut_scalar.specs.declared.place.Place.{Place}
use Rattle.fut_flat.specs.declared.act.Act.{Act}
use Rattle.fut_flat.specs.declared.exp.Exp.{Exp}
use Rattle.fut_flat.specs.declared.exp.Form.TheVariants as form
use Rattle.fut_flat.specs.declared.exp.Let.{Let as LetTree}
use Rattle.fut_flat.specs.declared.exp.Loop.{Loop as LoopTree}
use Rattle.fut_flat.specs.declared.exp.LoopForm.{LoopForm}
use Rattle.fut_flat.specs.declared.exp.LoopForm.TheVariants as turns
use Rattle.fut_flat.specs.declared.pat.Pat.{Pat}
use Rattle.fut_flat.specs.declared.prim.Ref.{Ref}
use Rattle.fut_flat.specs.declared.prim.Ref.TheVariants as ref
use Rattle.fut_flat.specs.declared.program.Definition.{Definition}
use Rattle.fut_flat.specs.Erased.{FlatTerm, Row, operation_of, pattern_of, patterns, terms, lets, term_of}
use Rattle.fut_flat.proofs.ErasedForms.{row_of, turns_of, row_is, loop_is, term_use, term_strict, term_lambda, term_apply, term_lets, term_if, term_loop, turns_counted, turns_over, turns_while}
use Rattle.fut_typing.specs.Program.{defined}
use Rattle.type_soundness.specs.Meant.{how_many, Has_parameter, Operation_meant, Use_meant}
use Rattle.type_soundness.specs.Formed.{Formed, All_formed, Definitions_formed}
use Rattle.typed_programs.specs.Trees.{any, Term_built, Turns_built, Act_built, Exp_built, Let_built, Loop_built, Loop_turns_built, Definition_built}

-- the first of a list, and the others
abbrev pub first_of : {X : Type 0} (P : X → Type 0) (x : X) (xs : List X) → All P (x ∷ xs) → P x
first_of P x xs h = h 0 x (omega arith)

abbrev pub others : {X : Type 0} (P : X → Type 0) (x : X) (xs : List X) → All P (x ∷ xs) → All P xs
others P x xs h = λ k d lt. h (suc k) d (omega arith)

pub all_more : {X : Type 0} (P : X → Type 0) (x : X) (xs : List X) → P x → All P xs → All P (x ∷ xs)
all_more P x xs h hs zero d lt = h
all_more P x xs h hs (suc k) d lt = hs k d (omega arith)

parts_built : (es : List Exp) → All Exp_built es → All_formed any (terms (map term_of es))
unfolding terms Exp_built
parts_built [] h = tt
parts_built (e ∷ es) h = (first_of Exp_built e es h, parts_built es (others Exp_built e es h))

-- as many parts as there are
as_many : (es : List Exp) → how_many (terms (map term_of es)) ≡ length es
unfolding terms
as_many [] = refl
as_many (e ∷ es) = ap suc (as_many es)

row_built : (ls : List LetTree) (body : FlatTerm) → All Let_built ls → Term_built body → Term_built (lets (map row_of ls) body)
unfolding lets Let_built Exp_built
row_built [] body h b = b
row_built (l ∷ ls) body h b =
    let r = row_built ls body (others Let_built l ls h) b in
    let x = first_of Let_built l ls h in
    subst (λ (row : Row). Formed any row.1 × Formed any (lets (map row_of ls) body)) (sym (row_is l)) (x, r)

has_parameter : (ps : List Pat) → 0 < length ps → Has_parameter (patterns (map pattern_of ps))
unfolding patterns
has_parameter [] lt = absurd (let z : 0 < 0 = lt in omega arith)
has_parameter (p ∷ ps) lt = tt

as_term : (e : Exp) (t : FlatTerm) → term_of e ≡ t → Term_built t → Exp_built e
unfolding Exp_built
as_term e t is h = subst Term_built (sym is) h

pub built_use : (e : Exp) (r : Ref) (k : ℕ) → e.form ≡ form.Use r k → Exp_built e
built_use e r k is = as_term e _ (term_use e r k is) (any_use r)
  where
    any_use : (r : Ref) → Use_meant any r
    any_use (ref.Bound b) = tt
    any_use (ref.Prim p) = tt
    any_use (ref.Scalar s) = tt

pub built_strict : (e : Exp) (a : Act) (mark : Place) (es : Bor (List Exp)) → e.form ≡ form.Strict a mark es → Act_built a (length es.now) → All Exp_built es.now → Exp_built e
unfolding Act_built
built_strict e a mark es is o h = as_term e _ (term_strict e a mark es is) (subst (Operation_meant (operation_of a)) (sym (as_many es.now)) o, parts_built es.now h)

pub built_lambda : (e : Exp) (ps : Bor (List Pat)) (b : Bor Exp) → e.form ≡ form.Lambda ps b → 0 < length ps.now → Exp_built b.now → Exp_built e
unfolding Exp_built
built_lambda e ps b is lt h = as_term e _ (term_lambda e ps b is) (has_parameter ps.now lt, h)

pub built_apply : (e : Exp) (f x : Bor Exp) → e.form ≡ form.Apply f x → Exp_built f.now → Exp_built x.now → Exp_built e
unfolding Exp_built
built_apply e f x is h k = as_term e _ (term_apply e f x is) (h, k)

pub built_lets : (e : Exp) (ls : Bor (List LetTree)) (b : Bor Exp) → e.form ≡ form.Lets ls b → All Let_built ls.now → Exp_built b.now → Exp_built e
unfolding Exp_built
built_lets e ls b is h k = as_term e _ (term_lets e ls b is) (row_built ls.now (term_of b.now) h k)

pub built_if : (e : Exp) (c a b : Bor Exp) → e.form ≡ form.If c a b → Exp_built c.now → Exp_built a.now → Exp_built b.now → Exp_built e
unfolding Exp_built
built_if e c a b is h k l = as_term e _ (term_if e c a b is) (h, k, l)

pub built_loop : (e : Exp) (l : Bor LoopTree) → e.form ≡ form.Loop l → Loop_built l.now → Exp_built e
unfolding Loop_built
built_loop e l is h = as_term e _ (term_loop e l is) h

pub loop_built : (l : LoopTree) → Exp_built l.first → Loop_turns_built l.form → Exp_built l.body → Loop_built l
unfolding Loop_built Loop_turns_built Exp_built
loop_built l h k b = subst Term_built (sym (loop_is l)) (h, k, b)

pub built_counted : (t : LoopForm) (i : BindId) (n : Exp) → t ≡ turns.For i n → Exp_built n → Loop_turns_built t
unfolding Loop_turns_built Exp_built
built_counted t i n is h = subst (λ (s : LoopForm). Turns_built (turns_of s)) (sym is) (subst Turns_built (sym (turns_counted i n)) h)

pub built_over : (t : LoopForm) (p : Pat) (x : Exp) → t ≡ turns.ForIn p x → Exp_built x → Loop_turns_built t
unfolding Loop_turns_built Exp_built
built_over t p x is h = subst (λ (s : LoopForm). Turns_built (turns_of s)) (sym is) (subst Turns_built (sym (turns_over p x)) h)

pub built_while : (t : LoopForm) (c : Exp) → t ≡ turns.While c → Exp_built c → Loop_turns_built t
unfolding Loop_turns_built Exp_built
built_while t c is h = subst (λ (s : LoopForm). Turns_built (turns_of s)) (sym is) (subst Turns_built (sym (turns_while c)) h)

-- ---- and only there

parts_were : (es : List Exp) → All_formed any (terms (map term_of es)) → All Exp_built es
unfolding terms Exp_built
parts_were [] m = λ k d lt. absurd (omega arith)
parts_were (e ∷ es) m = all_more Exp_built e es m.0 (parts_were es m.1)

row_was : (ls : List LetTree) (body : FlatTerm) → Term_built (lets (map row_of ls) body) → All Let_built ls × Term_built body
unfolding lets Let_built Exp_built
row_was [] body h = ((λ k d lt. absurd (omega arith)), h)
row_was (l ∷ ls) body h =
    let x = subst (λ (row : Row). Formed any row.1 × Formed any (lets (map row_of ls) body)) (row_is l) h in
    let r = row_was ls body x.1 in
    (all_more Let_built l ls x.0 r.0, r.1)

had_parameter : (ps : List Pat) → Has_parameter (patterns (map pattern_of ps)) → 0 < length ps
unfolding patterns
had_parameter [] h = absurd h
had_parameter (p ∷ ps) h = omega arith

pub none_more : {n : ℕ} → n ≤ 0 → 0 < n → ⊥
none_more le lt = omega arith

was_term : (e : Exp) (t : FlatTerm) → term_of e ≡ t → Exp_built e → Term_built t
unfolding Exp_built
was_term e t is h = subst Term_built is h

pub was_strict : (e : Exp) (a : Act) (mark : Place) (es : Bor (List Exp)) → e.form ≡ form.Strict a mark es → Exp_built e → Act_built a (length es.now) × All Exp_built es.now
unfolding Act_built
was_strict e a mark es is h = let x = was_term e _ (term_strict e a mark es is) h in (subst (Operation_meant (operation_of a)) (as_many es.now) x.0, parts_were es.now x.1)

pub was_lambda : (e : Exp) (ps : Bor (List Pat)) (b : Bor Exp) → e.form ≡ form.Lambda ps b → Exp_built e → (0 < length ps.now) × Exp_built b.now
unfolding Exp_built
was_lambda e ps b is h = let x = was_term e _ (term_lambda e ps b is) h in (had_parameter ps.now x.0, x.1)

pub was_apply : (e : Exp) (f x : Bor Exp) → e.form ≡ form.Apply f x → Exp_built e → Exp_built f.now × Exp_built x.now
unfolding Exp_built
was_apply e f x is h = was_term e _ (term_apply e f x is) h

pub was_lets : (e : Exp) (ls : Bor (List LetTree)) (b : Bor Exp) → e.form ≡ form.Lets ls b → Exp_built e → All Let_built ls.now × Exp_built b.now
unfolding Exp_built
was_lets e ls b is h = row_was ls.now (term_of b.now) (was_term e _ (term_lets e ls b is) h)

pub was_if : (e : Exp) (c a b : Bor Exp) → e.form ≡ form.If c a b → Exp_built e → Exp_built c.now × Exp_built a.now × Exp_built b.now
unfolding Exp_built
was_if e c a b is h = was_term e _ (term_if e c a b is) h

pub was_loop : (e : Exp) (l : Bor LoopTree) → e.form ≡ form.Loop l → Exp_built e → Loop_built l.now
unfolding Loop_built
was_loop e l is h = was_term e _ (term_loop e l is) h

pub loop_was : (l : LoopTree) → Loop_built l → Exp_built l.first × Loop_turns_built l.form × Exp_built l.body
unfolding Loop_built Loop_turns_built Exp_built
loop_was l h = let x = subst Term_built (loop_is l) h in (x.0, x.1, x.2)

pub was_counted : (t : LoopForm) (i : BindId) (n : Exp) → t ≡ turns.For i n → Loop_turns_built t → Exp_built n
unfolding Loop_turns_built Exp_built
was_counted t i n is h = subst Turns_built (turns_counted i n) (subst (λ (s : LoopForm). Turns_built (turns_of s)) is h)

pub was_over : (t : LoopForm) (p : Pat) (x : Exp) → t ≡ turns.ForIn p x → Loop_turns_built t → Exp_built x
unfolding Loop_turns_built Exp_built
was_over t p x is h = subst Turns_built (turns_over p x) (subst (λ (s : LoopForm). Turns_built (turns_of s)) is h)

pub was_while : (t : LoopForm) (c : Exp) → t ≡ turns.While c → Loop_turns_built t → Exp_built c
unfolding Loop_turns_built Exp_built
was_while t c is h = subst Turns_built (turns_while c) (subst (λ (s : LoopForm). Turns_built (turns_of s)) is h)

-- ---- programs

pub definitions_formed : (ds : List Definition) → All Definition_built ds → Definitions_formed (map defined ds)
unfolding Definition_built Exp_built
definitions_formed [] h = tt
definitions_formed (d ∷ ds) h = (first_of Definition_built d ds h, definitions_formed ds (others Definition_built d ds h))

pub definitions_were : (ds : List Definition) → Definitions_formed (map defined ds) → All Definition_built ds
unfolding Definition_built Exp_built
definitions_were [] m = λ k d lt. absurd (omega arith)
definitions_were (d ∷ ds) m = all_more Definition_built d ds m.0 (definitions_were ds m.1)
