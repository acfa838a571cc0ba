-- A list of parts is smaller than the pattern that holds it, as walks measure both.
use Rattle.std.proofs.Common.{◌≡◌, ℕ, ◌+◌, ◌*◌, ◌≤◌, ◌<◌, List, [], ◌∷◌, subst, arith}
use Rattle.std.specs.Borrow.{Bor}
use denote.Param.Weighed.{most}
use Rattle.fut_ast.specs.Sorts.{SourcePat}
use Rattle.fut_tree.specs.declared.held.Held.{Held}
use Rattle.fut_tree.specs.declared.pat.Pat.TheInside.{Inside}
use Rattle.fut_tree.specs.declared.pat.Pat.TheShapes.{weighed-PatForm-Tuple-0-at-2}
use Rattle.fut_tree.specs.declared.pat.Pat.TheDeep.{deep-PatForm, deep-PatField, size-Pat, size-PatField}
use Rattle.fut_tree.specs.declared.pat.PatForm.{PatForm}
use Rattle.fut_tree.specs.declared.pat.PatForm.TheVariants as held_form
use Rattle.fut_tree.specs.declared.pat.PatField.{PatField}
use Rattle.fut_tree.specs.Pats.{pat_of, pat_size}
use Rattle.fut_tree.specs.PatsFall.{pat_falls}

abbrev pub pats_size : List (Held SourcePat) → ℕ
pats_size = most (λ x. weighed-PatForm-Tuple-0-at-2.weight _ size-Pat x)

pats_thrice : (xs : List (Held SourcePat)) → pats_size xs ≤ 3 * most (λ x. weighed-PatForm-Tuple-0-at-2.weight SourcePat (λ y. pat_size y + 1) x) xs
pats_thrice [] = omega arith
pats_thrice (x ∷ xs) = omega (arith, pats_thrice xs)

fields_thrice : (xs : List PatField) → most size-PatField xs ≤ 3 * most deep-PatField xs + 1
fields_thrice [] = omega arith
fields_thrice (x ∷ xs) = omega (arith, fields_thrice xs)

module _ (p : Inside) (v : SourcePat) (stands : pat_of p ≡ v) where
  under : (f : PatForm) → p.form ≡ f → deep-PatForm f ≤ pat_size v
  under f is = subst (λ g. deep-PatForm g ≤ pat_size v) is (subst (λ w. deep-PatForm p.form ≤ pat_size w) stands (omega (arith, pat_falls p)))

  pub tuple_parts : (ps : Bor (List (Held SourcePat))) → p.form ≡ held_form.Tuple ps → 2 * pats_size ps.now + 1 < 2 * size-Pat v
  tuple_parts ps is = omega (arith, under (held_form.Tuple ps) is, pats_thrice ps.now)

  pub record_parts : (fs : Bor (List PatField)) → p.form ≡ held_form.Record fs → 2 * most size-PatField fs.now + 1 < 2 * size-Pat v
  record_parts fs is = omega (arith, under (held_form.Record fs) is, fields_thrice fs.now)
