-- The parts of a held pattern are smaller than it.
use Rattle.std.specs.Prelude.{◌+◌, ◌≤◌, List, [], ◌∷◌}
use Rattle.std.proofs.Common.{arith}
use Prim.Native.Nat.{max}
use denote.Param.Weighed.{most}
use Rattle.fut_ast.specs.Sorts.{Text, Path, SourcePat}
use Rattle.fut_ast.specs.declared.pat.PatForm.TheViews.{size-PatForm, size_roll-Pat, sized-Tuple, sized-Record, sized-Ascribe, weight-PatForm-Tuple-0, weight-PatForm-Record-0}
use Rattle.fut_tree.specs.declared.held.Held.{Held}
use Rattle.fut_tree.specs.declared.pat.Pat.TheInside.{Inside}
use Rattle.fut_tree.specs.declared.pat.Pat.TheDeep.{deep-PatForm, deep-PatField, deep-Pat}
use Rattle.fut_tree.specs.declared.pat.PatForm.{PatForm}
use Rattle.fut_tree.specs.declared.pat.PatForm.TheVariants as held_form
use Rattle.fut_tree.specs.declared.pat.PatField.{PatField}
use Rattle.fut_tree.specs.Names.{all}
use Rattle.fut_tree.specs.Pats.{pat_fields, pat_form_of, pat_of, pat_size}

pub pats_fall : (xs : List (Held SourcePat)) → most (λ (x : Held SourcePat). max (pat_size x.at.now + 1) 0) xs ≤ weight-PatForm-Tuple-0 (all xs) + 1
pats_fall [] = omega arith
pats_fall (x ∷ xs) = omega (arith, pats_fall xs)

pub pat_fields_fall : (xs : List PatField) → most deep-PatField xs ≤ weight-PatForm-Record-0 (pat_fields xs) + 1
pat_fields_fall [] = omega arith
pat_fields_fall (x ∷ xs) = omega (arith, pat_fields_fall xs)

pub pat_form_falls : (f : PatForm) → deep-PatForm f ≤ size-PatForm (pat_form_of f)
pat_form_falls (held_form.Var x) = omega arith
pat_form_falls held_form.Wild = omega arith
pat_form_falls held_form.Unit = omega arith
pat_form_falls (held_form.Tuple ps) = omega (arith, sized-Tuple (all ps.now), pats_fall ps.now)
pat_form_falls (held_form.Record fs) = omega (arith, sized-Record (pat_fields fs.now), pat_fields_fall fs.now)
pat_form_falls (held_form.Ascribe p t) = omega (arith, sized-Ascribe p.now t.now)

pub pat_falls : (p : Inside) → deep-Pat p ≤ pat_size (pat_of p)
pat_falls p = omega (arith, pat_form_falls p.form, size_roll-Pat (record { place = p.place; form = pat_form_of p.form }))
