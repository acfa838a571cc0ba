-- What trees bind, one level at a time.
use Rattle.std.proofs.Common.{◌≡◌, ℕ, ◌+◌, List, [], ◌∷◌, ◌++◌, map, replicate, None, refl, sym, ◌∙◌, ap, append_assoc, Bor}
use Rattle.std.specs.List.{flat_map}
use Rattle.std.proofs.lemmas.List.{replicate-append-replicate}
use Rattle.fut_scalar.specs.declared.place.BindId.{BindId}
use Rattle.fut_scalar.specs.declared.place.Place.{Place}
use Rattle.fut_ast.specs.Sorts.{Text}
use Rattle.fut_flat.specs.declared.act.Act.{Act}
use Rattle.fut_flat.specs.declared.exp.Exp.{Exp}
use Rattle.fut_flat.specs.declared.exp.Form.TheVariants as form
use Rattle.fut_flat.specs.declared.exp.Let.{Let as LetTree}
use Rattle.fut_flat.specs.declared.exp.Loop.{Loop as LoopTree}
use Rattle.fut_flat.specs.declared.exp.LoopForm.{LoopForm}
use Rattle.fut_flat.specs.declared.exp.LoopForm.TheVariants as turns
use Rattle.fut_flat.specs.declared.pat.Pat.{Pat}
use Rattle.fut_flat.specs.declared.pat.PatField.{PatField, fold_out-PatField}
use Rattle.fut_flat.specs.declared.pat.PatForm.TheVariants as pat
use Rattle.fut_flat.specs.declared.ty.TypeExp.{TypeExp}
use Rattle.fut_flat.specs.declared.prim.Ref.{Ref}
use Rattle.fut_flat.specs.Numbers.{own_numbers}
use Rattle.fut_flat.specs.Terms.{Let}
use Rattle.fut_flat.specs.Erased.{FlatPattern, FlatTerm, Row, parameters, operation_of, patterns, pattern_of, pattern_form, terms, lets, term_of}
use Rattle.fut_flat.proofs.ErasedPatterns.{pattern_field, pattern_bound, pattern_wild, pattern_tuple, pattern_record, pattern_typed}
use Rattle.fut_flat.proofs.ErasedForms.{row_of, loop_of, turns_of, term_use, term_strict, term_lambda, term_apply, term_lets, term_if, term_loop, row_is, loop_is, turns_counted, turns_over, turns_while}
use Rattle.fut_flat.specs.declared.program.Definition.{Definition}
use Rattle.fut_typing.specs.Program.{defined}
use Rattle.sizing_tables.specs.Bound.{named, unnamed, pattern_names, all_pattern_names, names_of, all_names, turn_names, bind_numbers, size_numbers, sizes_of, all_sizes, turn_sizes, program_names, program_sizes}
use Rattle.sizing_tables.proofs.Lists.{append_none}
use Rattle.sizing_tables.specs.Trees.{tree_names, field_names, exp_names, exp_sizes, let_names, let_sizes, definition_names, definition_sizes}

-- ---- patterns

patterns_are : (ps : List Pat) → flat_map tree_names ps ≡ all_pattern_names (patterns (map pattern_of ps))
unfolding tree_names pattern_names patterns
patterns_are [] = refl
patterns_are (p ∷ ps) = ap (λ l. pattern_names (pattern_of p) ++ l) (patterns_are ps)

field_is : (f : PatField) → pattern_field f ≡ (f.name.now, pattern_of f.pat)
unfolding pattern_field pattern_of
field_is f = fold_out-PatField FlatPattern FlatPattern (Text × FlatPattern) pattern_form (λ p. p.form) (λ f. (f.name.now, f.pat)) f

fields_are : (fs : List PatField) → flat_map field_names fs ≡ all_pattern_names (patterns (map (λ (f : Text × FlatPattern). f.1) (map pattern_field fs)))
unfolding field_names tree_names pattern_names patterns
fields_are [] = refl
fields_are (f ∷ fs) = ap (λ l. pattern_names (pattern_of f.pat) ++ l) (fields_are fs)
    ∙ ap (λ (g : Text × FlatPattern). pattern_names g.1 ++ all_pattern_names (patterns (map (λ (f : Text × FlatPattern). f.1) (map pattern_field fs)))) (sym (field_is f))

pub names_bound : (p : Pat) (b : BindId) → p.form ≡ pat.Bound b → named b ≡ tree_names p
unfolding tree_names pattern_names
names_bound p b is = sym (ap pattern_names (pattern_bound p b is))

pub names_wild : (p : Pat) → p.form ≡ pat.Wild → unnamed ≡ tree_names p
unfolding tree_names pattern_names
names_wild p is = sym (ap pattern_names (pattern_wild p is))

pub names_tuple : (p : Pat) (ps : Bor (List Pat)) → p.form ≡ pat.Tuple ps → unnamed ++ flat_map tree_names ps.now ≡ tree_names p
unfolding tree_names pattern_names
names_tuple p ps is = ap (λ l. unnamed ++ l) (patterns_are ps.now) ∙ sym (ap pattern_names (pattern_tuple p ps is))

pub names_record : (p : Pat) (fs : Bor (List PatField)) → p.form ≡ pat.Record fs → unnamed ++ flat_map field_names fs.now ≡ tree_names p
unfolding tree_names pattern_names
names_record p fs is = ap (λ l. unnamed ++ l) (fields_are fs.now) ∙ sym (ap pattern_names (pattern_record p fs is))

pub names_typed : (p : Pat) (q : Bor Pat) (t : Bor TypeExp) → p.form ≡ pat.Typed q t → tree_names q.now ≡ tree_names p
unfolding tree_names pattern_names
names_typed p q t is = sym (ap pattern_names (pattern_typed p q t is))

-- ---- expressions: the names, and the sizes

exps_names : (es : List Exp) → flat_map exp_names es ≡ all_names (terms (map term_of es))
unfolding exp_names names_of terms
exps_names [] = refl
exps_names (e ∷ es) = ap (λ l. names_of (term_of e) ++ l) (exps_names es)

exps_sizes : (es : List Exp) → flat_map exp_sizes es ≡ all_sizes (terms (map term_of es))
unfolding exp_sizes sizes_of terms
exps_sizes [] = refl
exps_sizes (e ∷ es) = ap (λ l. sizes_of (term_of e) ++ l) (exps_sizes es)

pub names_use : (e : Exp) (r : Ref) (k : ℕ) → e.form ≡ form.Use r k → (unnamed ++ replicate k None) ++ replicate k None ≡ exp_names e
unfolding exp_names names_of
names_use e r k is = append_assoc unnamed (replicate k None) (replicate k None) ∙ ap (λ l. unnamed ++ l) (replicate-append-replicate k k None) ∙ replicate-append-replicate 1 (k + k) None ∙ sym (ap names_of (term_use e r k is))

pub sizes_use : (e : Exp) (r : Ref) (k : ℕ) → e.form ≡ form.Use r k → ([] ++ []) ++ [] ≡ exp_sizes e
unfolding exp_sizes sizes_of
sizes_use e r k is = sym (ap sizes_of (term_use e r k is))

pub names_strict : (e : Exp) (a : Act) (mark : Place) (es : Bor (List Exp)) (count : ℕ) → count ≡ own_numbers (operation_of a) → e.form ≡ form.Strict a mark es → replicate count None ++ flat_map exp_names es.now ≡ exp_names e
unfolding exp_names names_of
names_strict e a mark es count own is = (λ i. replicate (own i) None ++ exps_names es.now i) ∙ sym (ap names_of (term_strict e a mark es is))

pub sizes_strict : (e : Exp) (a : Act) (mark : Place) (es : Bor (List Exp)) → e.form ≡ form.Strict a mark es → [] ++ flat_map exp_sizes es.now ≡ exp_sizes e
unfolding exp_sizes sizes_of
sizes_strict e a mark es is = exps_sizes es.now ∙ sym (ap sizes_of (term_strict e a mark es is))

pub names_lambda : (e : Exp) (ps : Bor (List Pat)) (b : Bor Exp) → e.form ≡ form.Lambda ps b → (unnamed ++ flat_map tree_names ps.now) ++ exp_names b.now ≡ exp_names e
unfolding exp_names names_of
names_lambda e ps b is = ap (λ l. (unnamed ++ l) ++ names_of (term_of b.now)) (patterns_are ps.now) ∙ sym (ap names_of (term_lambda e ps b is))

pub sizes_lambda : (e : Exp) (ps : Bor (List Pat)) (b : Bor Exp) → e.form ≡ form.Lambda ps b → ([] ++ []) ++ exp_sizes b.now ≡ exp_sizes e
unfolding exp_sizes sizes_of
sizes_lambda e ps b is = sym (ap sizes_of (term_lambda e ps b is))

pub names_apply : (e : Exp) (f x : Bor Exp) → e.form ≡ form.Apply f x → (unnamed ++ exp_names f.now) ++ exp_names x.now ≡ exp_names e
unfolding exp_names names_of
names_apply e f x is = sym (ap names_of (term_apply e f x is))

pub sizes_apply : (e : Exp) (f x : Bor Exp) → e.form ≡ form.Apply f x → ([] ++ exp_sizes f.now) ++ exp_sizes x.now ≡ exp_sizes e
unfolding exp_sizes sizes_of
sizes_apply e f x is = sym (ap sizes_of (term_apply e f x is))

pub names_if : (e : Exp) (c a b : Bor Exp) → e.form ≡ form.If c a b → ((unnamed ++ exp_names c.now) ++ exp_names a.now) ++ exp_names b.now ≡ exp_names e
unfolding exp_names names_of
names_if e c a b is = sym (ap names_of (term_if e c a b is))

pub sizes_if : (e : Exp) (c a b : Bor Exp) → e.form ≡ form.If c a b → (([] ++ exp_sizes c.now) ++ exp_sizes a.now) ++ exp_sizes b.now ≡ exp_sizes e
unfolding exp_sizes sizes_of
sizes_if e c a b is = sym (ap sizes_of (term_if e c a b is))

-- ---- rows of lets

row_names : (l : LetTree) (rest : FlatTerm) → names_of (Let (row_of l).0 (row_of l).1 rest) ≡ let_names l ++ names_of rest
unfolding names_of let_names tree_names exp_names
row_names l rest = ap (λ (r : Row). names_of (Let r.0 r.1 rest)) (row_is l)

rows_names : (ls : List LetTree) (body : FlatTerm) → flat_map let_names ls ++ names_of body ≡ names_of (lets (map row_of ls) body)
unfolding lets
rows_names [] body = refl
rows_names (l ∷ ls) body = append_assoc (let_names l) (flat_map let_names ls) (names_of body) ∙ ap (λ x. let_names l ++ x) (rows_names ls body) ∙ sym (row_names l (lets (map row_of ls) body))

row_sizes : (l : LetTree) (rest : FlatTerm) → sizes_of (Let (row_of l).0 (row_of l).1 rest) ≡ let_sizes l ++ sizes_of rest
unfolding sizes_of let_sizes exp_sizes
row_sizes l rest = ap (λ (r : Row). sizes_of (Let r.0 r.1 rest)) (row_is l)

rows_sizes : (ls : List LetTree) (body : FlatTerm) → flat_map let_sizes ls ++ sizes_of body ≡ sizes_of (lets (map row_of ls) body)
unfolding lets
rows_sizes [] body = refl
rows_sizes (l ∷ ls) body = append_assoc (let_sizes l) (flat_map let_sizes ls) (sizes_of body) ∙ ap (λ x. let_sizes l ++ x) (rows_sizes ls body) ∙ sym (row_sizes l (lets (map row_of ls) body))

pub names_lets : (e : Exp) (ls : Bor (List LetTree)) (b : Bor Exp) → e.form ≡ form.Lets ls b → flat_map let_names ls.now ++ exp_names b.now ≡ exp_names e
unfolding exp_names
names_lets e ls b is = rows_names ls.now (term_of b.now) ∙ sym (ap names_of (term_lets e ls b is))

pub sizes_lets : (e : Exp) (ls : Bor (List LetTree)) (b : Bor Exp) → e.form ≡ form.Lets ls b → flat_map let_sizes ls.now ++ exp_sizes b.now ≡ exp_sizes e
unfolding exp_sizes
sizes_lets e ls b is = rows_sizes ls.now (term_of b.now) ∙ sym (ap sizes_of (term_lets e ls b is))

-- one let: its node, its sizes, its heads, its pattern, its value
pub let_names_are : (l : LetTree) → (((unnamed ++ []) ++ []) ++ tree_names l.pat) ++ exp_names l.value ≡ let_names l
unfolding let_names
let_names_are l = refl

pub let_sizes_are : (l : LetTree) → ((([] ++ bind_numbers l.sizes.now) ++ size_numbers (parameters l.heads.now)) ++ []) ++ exp_sizes l.value ≡ let_sizes l
unfolding let_sizes
let_sizes_are l = ap (λ x. x ++ exp_sizes l.value) (append_none (bind_numbers l.sizes.now ++ size_numbers (parameters l.heads.now)))

-- ---- loops

pub names_loop : (e : Exp) (l : Bor LoopTree) → e.form ≡ form.Loop l → names_of (loop_of l.now) ≡ exp_names e
unfolding exp_names
names_loop e l is = sym (ap names_of (term_loop e l is))

pub sizes_loop : (e : Exp) (l : Bor LoopTree) → e.form ≡ form.Loop l → sizes_of (loop_of l.now) ≡ exp_sizes e
unfolding exp_sizes
sizes_loop e l is = sym (ap sizes_of (term_loop e l is))

pub names_loop_parts : (l : LoopTree) → ((((unnamed ++ []) ++ tree_names l.pat) ++ exp_names l.first) ++ turn_names (turns_of l.form)) ++ exp_names l.body ≡ names_of (loop_of l)
unfolding exp_names tree_names names_of
names_loop_parts l = sym (ap names_of (loop_is l))

pub sizes_loop_parts : (l : LoopTree) → (((([] ++ bind_numbers l.sizes.now) ++ []) ++ exp_sizes l.first) ++ turn_sizes (turns_of l.form)) ++ exp_sizes l.body ≡ sizes_of (loop_of l)
unfolding exp_sizes sizes_of
sizes_loop_parts l = ap (λ x. ((x ++ sizes_of (term_of l.first)) ++ turn_sizes (turns_of l.form)) ++ sizes_of (term_of l.body)) (append_none (bind_numbers l.sizes.now)) ∙ sym (ap sizes_of (loop_is l))

pub names_counted : (t : LoopForm) (i : BindId) (n : Exp) → t ≡ turns.For i n → named i ++ exp_names n ≡ turn_names (turns_of t)
unfolding exp_names names_of
names_counted t i n is = sym (ap (λ x. turn_names (turns_of x)) is ∙ ap turn_names (turns_counted i n))

pub sizes_counted : (t : LoopForm) (i : BindId) (n : Exp) → t ≡ turns.For i n → [] ++ exp_sizes n ≡ turn_sizes (turns_of t)
unfolding exp_sizes sizes_of
sizes_counted t i n is = sym (ap (λ x. turn_sizes (turns_of x)) is ∙ ap turn_sizes (turns_counted i n))

pub names_over : (t : LoopForm) (p : Pat) (e : Exp) → t ≡ turns.ForIn p e → tree_names p ++ exp_names e ≡ turn_names (turns_of t)
unfolding exp_names tree_names names_of
names_over t p e is = sym (ap (λ x. turn_names (turns_of x)) is ∙ ap turn_names (turns_over p e))

pub sizes_over : (t : LoopForm) (p : Pat) (e : Exp) → t ≡ turns.ForIn p e → [] ++ exp_sizes e ≡ turn_sizes (turns_of t)
unfolding exp_sizes sizes_of
sizes_over t p e is = sym (ap (λ x. turn_sizes (turns_of x)) is ∙ ap turn_sizes (turns_over p e))

pub names_while : (t : LoopForm) (c : Exp) → t ≡ turns.While c → exp_names c ≡ turn_names (turns_of t)
unfolding exp_names names_of
names_while t c is = sym (ap (λ x. turn_names (turns_of x)) is ∙ ap turn_names (turns_while c))

pub sizes_while : (t : LoopForm) (c : Exp) → t ≡ turns.While c → exp_sizes c ≡ turn_sizes (turns_of t)
unfolding exp_sizes sizes_of
sizes_while t c is = sym (ap (λ x. turn_sizes (turns_of x)) is ∙ ap turn_sizes (turns_while c))

-- ---- definitions

pub definition_names_are : (d : Definition) → (named d.bind ++ []) ++ exp_names d.value.now ≡ definition_names d
unfolding definition_names
definition_names_are d = refl

pub definition_sizes_are : (d : Definition) → ([] ++ size_numbers (parameters d.heads.now)) ++ exp_sizes d.value.now ≡ definition_sizes d
unfolding definition_sizes
definition_sizes_are d = refl

pub definitions_names : (ds : List Definition) → flat_map definition_names ds ≡ program_names (map defined ds)
unfolding definition_names exp_names program_names pattern_names
definitions_names [] = refl
definitions_names (d ∷ ds) = ap (λ l. (named d.bind ++ names_of (term_of d.value.now)) ++ l) (definitions_names ds)

pub definitions_sizes : (ds : List Definition) → flat_map definition_sizes ds ≡ program_sizes (map defined ds)
unfolding definition_sizes exp_sizes program_sizes
definitions_sizes [] = refl
definitions_sizes (d ∷ ds) = ap (λ l. (size_numbers (parameters d.heads.now) ++ sizes_of (term_of d.value.now)) ++ l) (definitions_sizes ds)
