-- What the known values that code holds by reference stand for.
use Rattle.std.specs.Prelude.{List, [], ◌∷◌, map, Option, option_map}
use Rattle.fut_ast.specs.Sorts.{Text}
use Rattle.fut_flat.specs.Erased.{patterns, pattern_of, term_of, texts}
use Rattle.fut_meaning.specs.Knowns.{Known, Data, Known_tuple, Known_record, Known_function, Known_primitive, Knowns, known_none, known_and, Known_fields, known_no_field, known_field, Scope, empty, branch}
use Rattle.unfold_measure.specs.declared.known.Known.{Known as Held_known, fold-Known}
use Rattle.unfold_measure.specs.declared.known.KnownForm.{KnownForm-F}
use Rattle.unfold_measure.specs.declared.known.Closure.{Closure, fold-Closure}
use Rattle.unfold_measure.specs.declared.known.Scope.{Scope as Held_scope, Scope-F, fold-Scope}

unfoldable pub knowns : List Known → Knowns
knowns [] = known_none
knowns (s ∷ ss) = known_and s (knowns ss)

-- the parts of a record with their names; a part without a name has the empty one
unfoldable pub named : List Text → List Known → Known_fields
named [] [] = known_no_field
named [] (s ∷ ss) = known_field [] s (named [] ss)
named (f ∷ fs) [] = known_no_field
named (f ∷ fs) (s ∷ ss) = known_field f s (named fs ss)

unfoldable pub known_form : KnownForm-F Known Scope Known Known → Known
known_form KnownForm-F.Data = Data
known_form (KnownForm-F.Tuple ss) = Known_tuple (knowns ss.now)
known_form (KnownForm-F.Record fs ss) = Known_record (named (texts fs.now) ss.now)
known_form (KnownForm-F.Function c) = c.now
known_form (KnownForm-F.Primitive p ss) = Known_primitive p (knowns ss.now)

unfoldable pub scope_form : Scope-F Known Scope Known Known → Scope
scope_form Scope-F.Empty = empty
scope_form (Scope-F.Bind b s even odd) = branch b s even.now odd.now

unfoldable pub known_of : Held_known → Known
known_of = fold-Known Known Scope Known Known known_form scope_form (λ c. Known_function (patterns (map pattern_of c.params.now)) (term_of c.body.now) c.scope.now) (λ s. s.form.now)

unfoldable pub closure_of : Closure → Known
closure_of = fold-Closure Known Scope Known Known known_form scope_form (λ c. Known_function (patterns (map pattern_of c.params.now)) (term_of c.body.now) c.scope.now) (λ s. s.form.now)

unfoldable pub scope_of : Held_scope → Scope
scope_of = fold-Scope Known Scope Known Known known_form scope_form (λ c. Known_function (patterns (map pattern_of c.params.now)) (term_of c.body.now) c.scope.now) (λ s. s.form.now)

abbrev pub maybe_known : Option Held_known → Option Known
maybe_known = option_map known_of
