-- The term of a held expression, one level at a time.
use Rattle.std.proofs.Common.{◌≡◌, ◌++◌, List, [], ◌∷◌, map, None, Some, true, false, refl, sym, ◌∙◌, ap, subst}
use Rattle.std.proofs.lemmas.List.{map-append}
use Rattle.fut_scalar.specs.declared.place.Place.{Place}
use Rattle.fut_ast.specs.Sorts.{SourceExp}
use Rattle.fut_ast.specs.declared.exp.Ix.TheVariants as ix
use Rattle.fut_tree.specs.declared.exp.Exp.TheInside.{Inside}
use Rattle.fut_tree.specs.declared.exp.Form.{Form}
use Rattle.fut_tree.specs.declared.exp.Form.TheVariants as held_form
use Rattle.fut_tree.specs.declared.exp.ExpField.{ExpField}
use Rattle.fut_tree.specs.declared.exp.Ix.{Ix}
use Rattle.fut_tree.specs.declared.exp.Ix.TheVariants as held_ix
use Rattle.fut_tree.specs.Names.{names, all, maybe}
use Rattle.fut_tree.specs.Exps.{exp_fields, binds_of, loop_of, ix_of, ixs_of, exp_of}
use Rattle.fut_tree.proofs.Layers.{layer_of, out_form}
use Rattle.fut_flat.specs.Terms.{nameless, Integer, Truth, Tuple_of, Record_of, Array_of, Index, Project, Update, Replace, Ascribe, Coerce, Assert, Range, Use, Strict, Lambda, Let, If, Loop, no_term, term_and}
use Rattle.fut_flat.specs.Sources.{applied_to, Placed, SourceTerm, labels, spelled, source_type, patterns, source_pattern, terms, terms_then, one, two, three, declared, joined, negated, names_before, asked, lets, placed, source_term}
use Rattle.fut_flat.proofs.SourceForms.{layer, exp_fields as placed_fields, row_of, turns_of, asked_of, placed_is, index_is, index_layer}
use Rattle.elab_exps.specs.Lists.{all_exps, exps_of, part_of}
use Rattle.elab_exps.specs.Parts.{source_of}

abbrev pub held_layer : Form → Place → Place → SourceTerm
held_layer (held_form.Path p) at mark = Use (spelled (names p.now) at) at (names_before (names p.now))
held_layer (held_form.Int n t) at mark = Strict (Integer n t) mark no_term
held_layer (held_form.Bool b) at mark = Strict (Truth b) mark no_term
held_layer held_form.Unit at mark = Strict Tuple_of mark no_term
held_layer (held_form.Tuple es) at mark = Strict Tuple_of mark (terms (map placed (all es.now)))
held_layer (held_form.Record fs) at mark = Strict (Record_of (map (λ (f : ExpField). f.name.now) fs.now)) mark (terms (map placed (map (λ (f : ExpField). f.exp.now) fs.now)))
held_layer (held_form.Array es) at mark = Strict Array_of mark (terms (map placed (all es.now)))
held_layer (held_form.Apply f e) at mark = applied_to (placed f.now) (placed e.now)
held_layer (held_form.Binary op a b) at mark = joined op mark (source_of a.now) (source_of b.now)
held_layer (held_form.Unary op a) at mark = Strict (negated op) mark (one (source_of a.now))
held_layer (held_form.Lambda ps t e) at mark = Lambda (patterns (map source_pattern (all ps.now))) (declared (maybe t) (placed e.now))
held_layer (held_form.Lets bs e) at mark = lets (map row_of (binds_of bs.now)) (source_of e.now)
held_layer (held_form.If c a b) at mark = If (source_of c.now) (source_of a.now) (source_of b.now)
held_layer (held_form.Loop sizes p e over body) at mark = Loop mark (labels at (names sizes.now)) (source_pattern p.now) (source_of e.now) (turns_of (loop_of over.now) at) (source_of body.now)
held_layer (held_form.Index e ixs) at mark = Strict (Index (map part_of ixs.now)) mark (terms (map placed (e.now ∷ all_exps ixs.now)))
held_layer (held_form.Field e x) at mark = Strict (Project x.now) mark (one (source_of e.now))
held_layer (held_form.Update a es e) at mark = Strict Update mark (terms (map placed (a.now ∷ all es.now ++ e.now ∷ [])))
held_layer (held_form.Replace r x e) at mark = Strict (Replace x.now) mark (two (source_of r.now) (source_of e.now))
held_layer (held_form.Ascribe e t) at mark = Strict (Ascribe (source_type t.now)) mark (one (source_of e.now))
held_layer (held_form.Coerce e t) at mark = Strict (Coerce (source_type t.now)) mark (one (source_of e.now))
held_layer (held_form.Assert c e) at mark = Let nameless (Strict Assert mark (one (source_of c.now))) (source_of e.now)
held_layer (held_form.Range e None end g) at mark = Strict (Range false end) mark (two (source_of e.now) (source_of g.now))
held_layer (held_form.Range e (Some f) end g) at mark = Strict (Range true end) mark (three (source_of e.now) (source_of f.now) (source_of g.now))

-- ---- lists of other parts

field_names : (fs : List ExpField) → map (λ f. f.0) (placed_fields (exp_fields fs)) ≡ map (λ (f : ExpField). f.name.now) fs
field_names [] = refl
field_names (f ∷ fs) = ap (λ l. f.name.now ∷ l) (field_names fs)

field_parts : (fs : List ExpField) → map (λ f. f.1) (placed_fields (exp_fields fs)) ≡ map placed (map (λ (f : ExpField). f.exp.now) fs)
field_parts [] = refl
field_parts (f ∷ fs) = ap (λ l. placed f.exp.now ∷ l) (field_parts fs)

asked_is : (i : Ix) → asked_of (ix_of i) ≡ (part_of i, map placed (exps_of i))
asked_is (held_ix.At e) = index_is (ix.At e.now) ∙ ap index_layer (ix.outs-At e.now)
asked_is (held_ix.Slice None None) = index_is (ix.Slice None None) ∙ ap index_layer (ix.outs-Slice None None)
asked_is (held_ix.Slice None (Some f)) = index_is (ix.Slice None (Some f.now)) ∙ ap index_layer (ix.outs-Slice None (Some f.now))
asked_is (held_ix.Slice (Some e) None) = index_is (ix.Slice (Some e.now) None) ∙ ap index_layer (ix.outs-Slice (Some e.now) None)
asked_is (held_ix.Slice (Some e) (Some f)) = index_is (ix.Slice (Some e.now) (Some f.now)) ∙ ap index_layer (ix.outs-Slice (Some e.now) (Some f.now))
asked_is held_ix.Backwards = index_is ix.Backwards ∙ ap index_layer ix.outs-Backwards

index_kinds : (is : List Ix) → map (λ i. i.0) (map asked_of (ixs_of is)) ≡ map part_of is
index_kinds [] = refl
index_kinds (i ∷ is) = λ j. (asked_is i j).0 ∷ index_kinds is j

index_parts : (is : List Ix) → asked (map asked_of (ixs_of is)) ≡ map placed (all_exps is)
unfolding asked
index_parts [] = refl
index_parts (i ∷ is) = (λ j. (asked_is i j).1 ++ index_parts is j) ∙ sym (map-append placed (exps_of i) (all_exps is))

update_parts : (es : List SourceExp) (e : SourceExp) → terms_then (map placed es) (source_term e) ≡ terms (map placed (es ++ e ∷ []))
unfolding terms terms_then
update_parts [] e = refl
update_parts (x ∷ es) e = ap (term_and (source_term x)) (update_parts es e)

levels : (f : Form) (at mark : Place) → layer (layer_of f) at mark ≡ held_layer f at mark
unfolding source_of terms
levels (held_form.Path p) at mark = refl
levels (held_form.Int n t) at mark = refl
levels (held_form.Bool b) at mark = refl
levels held_form.Unit at mark = refl
levels (held_form.Tuple es) at mark = refl
levels (held_form.Record fs) at mark = λ i. Strict (Record_of (field_names fs.now i)) mark (terms (field_parts fs.now i))
levels (held_form.Array es) at mark = refl
levels (held_form.Apply f e) at mark = refl
levels (held_form.Binary op a b) at mark = refl
levels (held_form.Unary op a) at mark = refl
levels (held_form.Lambda ps t e) at mark = refl
levels (held_form.Lets bs e) at mark = refl
levels (held_form.If c a b) at mark = refl
levels (held_form.Loop sizes p e over body) at mark = refl
levels (held_form.Index e ixs) at mark = λ i. Strict (Index (index_kinds ixs.now i)) mark (term_and (source_term e.now) (terms (index_parts ixs.now i)))
levels (held_form.Field e x) at mark = refl
levels (held_form.Update a es e) at mark = ap (λ ts. Strict Update mark (term_and (source_term a.now) ts)) (update_parts (all es.now) e.now)
levels (held_form.Replace r x e) at mark = refl
levels (held_form.Ascribe e t) at mark = refl
levels (held_form.Coerce e t) at mark = refl
levels (held_form.Assert c e) at mark = refl
levels (held_form.Range e None end g) at mark = refl
levels (held_form.Range e (Some f) end g) at mark = refl

pub exp_held : (e : Inside) → source_of (exp_of e) ≡ held_layer e.form e.place e.mark
unfolding source_of
exp_held e = ap (λ (p : Placed). p.term) (placed_is (exp_of e)) ∙ ap (λ l. layer l e.place e.mark) (out_form e.form) ∙ levels e.form e.place e.mark

pub place_held : (e : Inside) → (placed (exp_of e)).place ≡ e.place
place_held e = ap (λ (p : Placed). p.place) (placed_is (exp_of e))

pub place_at : (e : Inside) (v : SourceExp) → exp_of e ≡ v → (placed v).place ≡ e.place
place_at e v stands = subst (λ w. (placed w).place ≡ e.place) stands (place_held e)
