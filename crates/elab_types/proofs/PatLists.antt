-- Lists in patterns are resolved part by part.
use Rattle.std.proofs.Common.{◌≡◌, List, [], ◌∷◌, map, refl, ◌∙◌, ap, Result, Ok, Err}
use Rattle.fut_scalar.specs.declared.place.BindId.{BindId}
use Rattle.fut_ast.specs.Sorts.{Text, SourcePat}
use Rattle.fut_tree.specs.declared.held.Held.{Held}
use Rattle.fut_tree.specs.declared.pat.PatField.{PatField}
use Rattle.fut_tree.specs.Names.{all}
use Rattle.fut_tree.specs.Pats.{pat_fields}
use Rattle.fut_flat.specs.declared.prim.Ref.{Ref}
use Rattle.fut_flat.specs.Terms.{Patterns, pattern_and}
use Rattle.fut_flat.specs.Erased.{FlatPattern, patterns}
use Rattle.fut_flat.specs.Sources as source
use Rattle.fut_flat.specs.Sources.{source_pattern}
use Rattle.fut_flat.proofs.SourceForms.{pattern_fields as source_fields}
use Rattle.elab_scopes.specs.Names.{Refusal}
use Rattle.elab_scopes.specs.Scopes.{Scope}
use Rattle.elab_scopes.specs.Resolve.{Naming, after, name_pattern, name_patterns}
use Rattle.elab_scopes.specs.Walks.{each}
use Rattle.elab_types.specs.Elements.{pattern_part, field_pattern}
use Rattle.elab_types.proofs.TypeLists.{one_more}

abbrev pub Carried : Type 0 → Type 0
Carried A = Result (A × Naming) Refusal

pub patterns_each : (hs : List (Held SourcePat)) (sc : Scope) (made : Naming) → name_patterns (source.patterns (map source_pattern (all hs))) sc made ≡ after (each pattern_part hs sc made) (λ ys m. Ok (patterns ys, m))
unfolding name_patterns each patterns source.patterns after pattern_part field_pattern
patterns_each [] sc made = refl
patterns_each (h ∷ hs) sc made = one_more patterns pattern_and (λ y ys. refl) (pattern_part h sc made) (name_patterns (source.patterns (map source_pattern (all hs))) sc) (each pattern_part hs sc) (patterns_each hs sc)

-- fields, with their names
abbrev pub named_patterns : List (Text × FlatPattern) → List Text × Patterns Ref BindId
named_patterns fs = (map (λ f. f.0) fs, patterns (map (λ f. f.1) fs))

abbrev pub pats_with_names : {A : Type 0} → List Text → Carried A → Carried (List Text × A)
pats_with_names xs r = after r (λ a m. Ok ((xs, a), m))

pub pat_fields_each : (fs : List PatField) (sc : Scope) (made : Naming) → pats_with_names (map (λ f. f.0) (source_fields (pat_fields fs))) (name_patterns (source.patterns (map (λ f. f.1) (source_fields (pat_fields fs)))) sc made) ≡ after (each field_pattern fs sc made) (λ ys m. Ok (named_patterns ys, m))
unfolding name_patterns each patterns source.patterns after pattern_part field_pattern
pat_fields_each [] sc made = refl
pat_fields_each (f ∷ fs) sc made = at_first (name_pattern (source_pattern f.pat.now) sc made) (λ m. pat_fields_each fs sc m)
  where
    at_rest : (t : FlatPattern) (m : Naming) (r : Carried (Patterns Ref BindId)) (q : Carried (List (Text × FlatPattern))) → pats_with_names (map (λ f. f.0) (source_fields (pat_fields fs))) r ≡ after q (λ ys m. Ok (named_patterns ys, m))
        → pats_with_names (f.name.now ∷ map (λ f. f.0) (source_fields (pat_fields fs))) (after r (λ ts m. Ok (pattern_and t ts, m))) ≡ after (after q (λ ys m. Ok ((f.name.now, t) ∷ ys, m))) (λ ys m. Ok (named_patterns ys, m))
    at_rest t m r q same = pats_with_names_is r ∙ ap (λ z. after z (λ p m. Ok ((f.name.now ∷ p.0, pattern_and t p.1), m))) same ∙ named_is q
      where
        pats_with_names_is : (r : Carried (Patterns Ref BindId)) → pats_with_names (f.name.now ∷ map (λ f. f.0) (source_fields (pat_fields fs))) (after r (λ ts m. Ok (pattern_and t ts, m))) ≡ after (pats_with_names (map (λ f. f.0) (source_fields (pat_fields fs))) r) (λ p m. Ok ((f.name.now ∷ p.0, pattern_and t p.1), m))
        pats_with_names_is (Ok (ts, m)) = refl
        pats_with_names_is (Err e) = refl

        named_is : (q : Carried (List (Text × FlatPattern))) → after (after q (λ ys m. Ok (named_patterns ys, m))) (λ p m. Ok ((f.name.now ∷ p.0, pattern_and t p.1), m)) ≡ after (after q (λ ys m. Ok ((f.name.now, t) ∷ ys, m))) (λ ys m. Ok (named_patterns ys, m))
        named_is (Ok (ys, m)) = refl
        named_is (Err e) = refl

    at_first : (r : Carried FlatPattern) → ((m : Naming) → pats_with_names (map (λ f. f.0) (source_fields (pat_fields fs))) (name_patterns (source.patterns (map (λ f. f.1) (source_fields (pat_fields fs)))) sc m) ≡ after (each field_pattern fs sc m) (λ ys m. Ok (named_patterns ys, m))) → pats_with_names (f.name.now ∷ map (λ f. f.0) (source_fields (pat_fields fs))) (after r (λ t m. after (name_patterns (source.patterns (map (λ f. f.1) (source_fields (pat_fields fs)))) sc m) (λ ts m. Ok (pattern_and t ts, m)))) ≡ after (after (after r (λ t m. Ok ((f.name.now, t), m))) (λ y m. after (each field_pattern fs sc m) (λ ys m. Ok (y ∷ ys, m)))) (λ ys m. Ok (named_patterns ys, m))
    at_first (Err e) ih = refl
    at_first (Ok (t, m)) ih = at_rest t m (name_patterns (source.patterns (map (λ f. f.1) (source_fields (pat_fields fs)))) sc m) (each field_pattern fs sc m) (ih m)
