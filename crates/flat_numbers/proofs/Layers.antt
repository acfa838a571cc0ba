-- The homes of trees, one level at a time.
use Rattle.std.proofs.Common.{◌≡◌, ℕ, ◌+◌, Bool, true, false, ◌&&◌, List, [], ◌∷◌, ◌++◌, map, replicate, refl, sym, ◌∙◌, ap, append_assoc, Bor}
use Rattle.std.specs.List.{flat_map}
use Rattle.std.proofs.lemmas.List.{replicate-append-replicate}
use Rattle.fut_scalar.specs.declared.place.BindId.{BindId}
use Rattle.fut_scalar.specs.declared.place.Place.{Place}
use Rattle.fut_ast.specs.Sorts.{Text}
use Rattle.fut_flat.specs.declared.act.Act.{Act}
use Rattle.fut_flat.specs.declared.exp.Exp.{Exp}
use Rattle.fut_flat.specs.declared.exp.Form.TheVariants as form
use Rattle.fut_flat.specs.declared.exp.Let.{Let as LetTree}
use Rattle.fut_flat.specs.declared.exp.Loop.{Loop as LoopTree}
use Rattle.fut_flat.specs.declared.exp.LoopForm.{LoopForm}
use Rattle.fut_flat.specs.declared.exp.LoopForm.TheVariants as turns
use Rattle.fut_flat.specs.declared.pat.Pat.{Pat}
use Rattle.fut_flat.specs.declared.program.Definition.{Definition}
use Rattle.fut_flat.specs.declared.pat.PatField.{PatField, fold_out-PatField}
use Rattle.fut_flat.specs.declared.pat.PatForm.TheVariants as pat
use Rattle.fut_flat.specs.declared.ty.TypeExp.{TypeExp}
use Rattle.fut_flat.specs.declared.prim.Ref.{Ref}
use Rattle.fut_flat.specs.Numbers.{pattern_numbers, all_pattern_numbers, own_numbers}
use Rattle.fut_flat.specs.Terms.{Let}
use Rattle.fut_flat.specs.Erased.{FlatPattern, FlatTerm, Row, parameters, operation_of, patterns, pattern_of, pattern_form, terms, lets, term_of}
use Rattle.fut_flat.proofs.ErasedPatterns.{pattern_field, pattern_bound, pattern_wild, pattern_tuple, pattern_record, pattern_typed}
use Rattle.fut_flat.proofs.ErasedForms.{row_of, loop_of, turns_of, term_use, term_strict, term_lambda, term_apply, term_lets, term_if, term_loop, row_is, loop_is, turns_counted, turns_over, turns_while}
use Rattle.fut_typing.specs.Free.{differs, has_types}
use Rattle.fut_typing.specs.Homes.{depth_if, home_in, written_if}
use Rattle.flat_numbers.specs.declared.home_noting.Noting.{Noting}
use Rattle.flat_numbers.specs.Noted.{Noted}
use Rattle.flat_numbers.proofs.Lists.{then, told_as}
use Rattle.flat_numbers.specs.Listed.{one, homes_of, all_homes, turn_homes}
use Rattle.flat_numbers.specs.Trees.{pattern_homes, field_homes, exp_homes, written_in, let_homes, definition_homes}

-- patterns
patterns_homes : (home : ℕ) (ps : List Pat) → flat_map (pattern_homes home) ps ≡ replicate (all_pattern_numbers (patterns (map pattern_of ps))) home
unfolding pattern_homes patterns
patterns_homes home [] = refl
patterns_homes home (p ∷ ps) = ap (λ l. replicate (pattern_numbers (pattern_of p)) home ++ l) (patterns_homes home ps) ∙ replicate-append-replicate (pattern_numbers (pattern_of p)) (all_pattern_numbers (patterns (map pattern_of ps))) home

field_is : (f : PatField) → pattern_field f ≡ (f.name.now, pattern_of f.pat)
unfolding pattern_field pattern_of
field_is f = fold_out-PatField FlatPattern FlatPattern (Text × FlatPattern) pattern_form (λ p. p.form) (λ f. (f.name.now, f.pat)) f

fields_homes : (home : ℕ) (fs : List PatField) → flat_map (field_homes home) fs ≡ replicate (all_pattern_numbers (patterns (map (λ (f : Text × FlatPattern). f.1) (map pattern_field fs)))) home
unfolding field_homes pattern_homes patterns
fields_homes home [] = refl
fields_homes home (f ∷ fs) = ap (λ l. replicate (pattern_numbers (pattern_of f.pat)) home ++ l) (fields_homes home fs)
    ∙ replicate-append-replicate (pattern_numbers (pattern_of f.pat)) (all_pattern_numbers (patterns (map (λ (f : Text × FlatPattern). f.1) (map pattern_field fs)))) home
    ∙ ap (λ (g : Text × FlatPattern). replicate (pattern_numbers g.1 + all_pattern_numbers (patterns (map (λ (f : Text × FlatPattern). f.1) (map pattern_field fs)))) home) (sym (field_is f))

-- one home, and so many more
one_more : (n d : ℕ) → one d ++ replicate n d ≡ replicate (1 + n) d
one_more n d = replicate-append-replicate 1 n d

pub homes_bound : (d : ℕ) (p : Pat) (b : BindId) → p.form ≡ pat.Bound b → one d ≡ pattern_homes d p
unfolding pattern_homes
homes_bound d p b is = sym (ap (λ (q : FlatPattern). replicate (pattern_numbers q) d) (pattern_bound p b is))

pub homes_wild : (d : ℕ) (p : Pat) → p.form ≡ pat.Wild → one d ≡ pattern_homes d p
unfolding pattern_homes
homes_wild d p is = sym (ap (λ (q : FlatPattern). replicate (pattern_numbers q) d) (pattern_wild p is))

pub homes_tuple : (d : ℕ) (p : Pat) (ps : Bor (List Pat)) → p.form ≡ pat.Tuple ps → one d ++ flat_map (pattern_homes d) ps.now ≡ pattern_homes d p
unfolding pattern_homes
homes_tuple d p ps is = ap (λ l. one d ++ l) (patterns_homes d ps.now) ∙ one_more (all_pattern_numbers (patterns (map pattern_of ps.now))) d ∙ sym (ap (λ (q : FlatPattern). replicate (pattern_numbers q) d) (pattern_tuple p ps is))

pub homes_record : (d : ℕ) (p : Pat) (fs : Bor (List PatField)) → p.form ≡ pat.Record fs → one d ++ flat_map (field_homes d) fs.now ≡ pattern_homes d p
unfolding pattern_homes
homes_record d p fs is = ap (λ l. one d ++ l) (fields_homes d fs.now) ∙ one_more (all_pattern_numbers (patterns (map (λ (f : Text × FlatPattern). f.1) (map pattern_field fs.now)))) d
    ∙ sym (ap (λ (q : FlatPattern). replicate (pattern_numbers q) d) (pattern_record p fs is))

pub homes_typed : (d : ℕ) (p : Pat) (q : Bor Pat) (t : Bor TypeExp) → p.form ≡ pat.Typed q t → pattern_homes d q.now ≡ pattern_homes d p
unfolding pattern_homes
homes_typed d p q t is = sym (ap (λ (r : FlatPattern). replicate (pattern_numbers r) d) (pattern_typed p q t is))

-- expressions
exps_homes : (d w : ℕ) (es : List Exp) → flat_map (exp_homes d w) es ≡ all_homes d w (terms (map term_of es))
unfolding exp_homes homes_of terms
exps_homes d w [] = refl
exps_homes d w (e ∷ es) = ap (λ l. homes_of d w (term_of e) ++ l) (exps_homes d w es)

pub homes_use : (d w : ℕ) (e : Exp) (r : Ref) (k : ℕ) → e.form ≡ form.Use r k → (one d ++ replicate k d) ++ replicate k d ≡ exp_homes d w e
unfolding exp_homes homes_of
homes_use d w e r k is = append_assoc (one d) (replicate k d) (replicate k d) ∙ ap (λ l. one d ++ l) (replicate-append-replicate k k d) ∙ one_more (k + k) d ∙ sym (ap (homes_of d w) (term_use e r k is))

pub homes_strict : (d w : ℕ) (e : Exp) (a : Act) (mark : Place) (es : Bor (List Exp)) (count home : ℕ) → count ≡ own_numbers (operation_of a) → home ≡ home_in (differs (operation_of a)) d w → e.form ≡ form.Strict a mark es
    → replicate count home ++ flat_map (exp_homes d w) es.now ≡ exp_homes d w e
unfolding exp_homes homes_of
homes_strict d w e a mark es count home own at is = (λ i. replicate (own i) (at i) ++ exps_homes d w es.now i) ∙ sym (ap (homes_of d w) (term_strict e a mark es is))

pub homes_lambda : (d w : ℕ) (e : Exp) (ps : Bor (List Pat)) (b : Bor Exp) → e.form ≡ form.Lambda ps b → (one d ++ flat_map (pattern_homes d) ps.now) ++ exp_homes d w b.now ≡ exp_homes d w e
unfolding exp_homes homes_of
homes_lambda d w e ps b is = ap (λ l. (one d ++ l) ++ homes_of d w (term_of b.now)) (patterns_homes d ps.now) ∙ sym (ap (homes_of d w) (term_lambda e ps b is))

pub homes_apply : (d w : ℕ) (e : Exp) (f x : Bor Exp) → e.form ≡ form.Apply f x → (one d ++ exp_homes d w f.now) ++ exp_homes d w x.now ≡ exp_homes d w e
unfolding exp_homes homes_of
homes_apply d w e f x is = sym (ap (homes_of d w) (term_apply e f x is))

pub homes_if : (d w : ℕ) (e : Exp) (c a b : Bor Exp) → e.form ≡ form.If c a b → ((one d ++ exp_homes d w c.now) ++ exp_homes d w a.now) ++ exp_homes d w b.now ≡ exp_homes d w e
unfolding exp_homes homes_of
homes_if d w e c a b is = sym (ap (homes_of d w) (term_if e c a b is))

row_homes : (d w : ℕ) (l : LetTree) (rest : FlatTerm) → homes_of d w (Let (row_of l).0 (row_of l).1 rest) ≡ let_homes d w l ++ homes_of d w rest
unfolding homes_of let_homes pattern_homes exp_homes
row_homes d w l rest = ap (λ (r : Row). homes_of d w (Let r.0 r.1 rest)) (row_is l)

rows_homes : (d w : ℕ) (ls : List LetTree) (body : FlatTerm) → flat_map (let_homes d w) ls ++ homes_of d w body ≡ homes_of d w (lets (map row_of ls) body)
unfolding lets
rows_homes d w [] body = refl
rows_homes d w (l ∷ ls) body = append_assoc (let_homes d w l) (flat_map (let_homes d w) ls) (homes_of d w body) ∙ ap (λ x. let_homes d w l ++ x) (rows_homes d w ls body) ∙ sym (row_homes d w l (lets (map row_of ls) body))

pub homes_lets : (d w : ℕ) (e : Exp) (ls : Bor (List LetTree)) (b : Bor Exp) → e.form ≡ form.Lets ls b → flat_map (let_homes d w) ls.now ++ exp_homes d w b.now ≡ exp_homes d w e
unfolding exp_homes
homes_lets d w e ls b is = rows_homes d w ls.now (term_of b.now) ∙ sym (ap (homes_of d w) (term_lets e ls b is))

pub homes_loop : (d w : ℕ) (e : Exp) (l : Bor LoopTree) → e.form ≡ form.Loop l → homes_of d w (loop_of l.now) ≡ exp_homes d w e
unfolding exp_homes
homes_loop d w e l is = sym (ap (homes_of d w) (term_loop e l is))

pub homes_loop_parts : (d w : ℕ) (l : LoopTree) → (((one d ++ pattern_homes d l.pat) ++ exp_homes d w l.first) ++ turn_homes d w (turns_of l.form)) ++ exp_homes d w l.body ≡ homes_of d w (loop_of l)
unfolding exp_homes pattern_homes homes_of
homes_loop_parts d w l = sym (ap (homes_of d w) (loop_is l))

pub homes_counted : (d w : ℕ) (t : LoopForm) (i : BindId) (n : Exp) → t ≡ turns.For i n → one d ++ exp_homes d w n ≡ turn_homes d w (turns_of t)
unfolding exp_homes homes_of
homes_counted d w t i n is = sym (ap (λ x. turn_homes d w (turns_of x)) is ∙ ap (turn_homes d w) (turns_counted i n))

pub homes_over : (d w : ℕ) (t : LoopForm) (p : Pat) (e : Exp) → t ≡ turns.ForIn p e → pattern_homes d p ++ exp_homes d w e ≡ turn_homes d w (turns_of t)
unfolding exp_homes pattern_homes homes_of
homes_over d w t p e is = sym (ap (λ x. turn_homes d w (turns_of x)) is ∙ ap (turn_homes d w) (turns_over p e))

pub homes_while : (d w : ℕ) (t : LoopForm) (c : Exp) → t ≡ turns.While c → exp_homes d w c ≡ turn_homes d w (turns_of t)
unfolding exp_homes homes_of
homes_while d w t c is = sym (ap (λ x. turn_homes d w (turns_of x)) is ∙ ap (turn_homes d w) (turns_while c))

-- the innermost definition, by the depth of the value
innermost : (f g : Bool) (d w deep : ℕ) → deep ≡ depth_if f d → written_if (f && g) deep w ≡ written_if (f && g) (1 + d) w
innermost true true d w deep e = e
innermost true false d w deep e = refl
innermost false g d w deep e = refl

pub let_noted : {s m k t : Noting} (d w : ℕ) (l : LetTree) (deep within : ℕ) → deep ≡ depth_if l.is_function d → within ≡ written_in l deep w → Noted s m (one d) → Noted m k (pattern_homes deep l.pat) → Noted k t (exp_homes deep within l.value)
    → Noted s t (let_homes d w l)
unfolding let_homes
let_noted d w l deep within is wis e f g = told_as
    (λ i. (one d ++ pattern_homes (is i) l.pat) ++ exp_homes (is i) ((wis ∙ innermost l.is_function (has_types (parameters l.heads.now)) d w deep is) i) l.value) (then (then e f) g)

pub definition_is : (d : Definition) (w : ℕ) → w ≡ written_if (has_types (parameters d.heads.now)) 1 0 → one 1 ++ exp_homes 1 w d.value.now ≡ definition_homes d
unfolding definition_homes
definition_is d w is = ap (λ v. one 1 ++ exp_homes 1 v d.value.now) is
