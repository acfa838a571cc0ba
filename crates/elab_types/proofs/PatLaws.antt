-- Each form of patterns.
use Rattle.std.proofs.Common.{◌≡◌, List, [], ◌∷◌, ◌++◌, map, false, sym, ◌∙◌, ap, subst, Result, Ok, Err}
use Rattle.std.specs.Borrow.{Bor}
use Rattle.fut_scalar.specs.declared.place.BindId.{BindId}
use Rattle.fut_scalar.specs.declared.place.Place.{Place}
use Rattle.fut_ast.specs.Sorts.{Text, SourcePat}
use Rattle.fut_ast.specs.declared.node.Label.{Label}
use Rattle.fut_tree.specs.declared.held.Held.{Held}
use Rattle.fut_tree.specs.declared.pat.PatField.{PatField}
use Rattle.fut_tree.specs.Names.{all}
use Rattle.fut_tree.specs.declared.pat.Pat.TheInside.{Inside}
use Rattle.fut_tree.specs.declared.pat.PatForm.{PatForm}
use Rattle.fut_tree.specs.Pats.{pat_fields, pat_of}
use Rattle.fut_flat.specs.declared.pat.Pat.{Pat as Flat}
use Rattle.fut_flat.specs.declared.pat.PatField.{PatField as FlatField}
use Rattle.fut_flat.specs.declared.pat.PatForm.TheVariants as flat_form
use Rattle.fut_flat.specs.declared.ty.TypeExp.{TypeExp as FlatTy}
use Rattle.fut_flat.specs.Terms.{Patterns, no_pattern, Bound_pattern, Wild_pattern, Tuple_pattern, Record_pattern, Typed_pattern}
use Rattle.fut_flat.specs.Erased.{FlatPattern, pattern_of, patterns, type_of}
use Rattle.fut_flat.specs.Sources as source
use Rattle.fut_flat.specs.Sources.{Spelled, SourcePattern, WrittenType, label, source_pattern}
use Rattle.fut_flat.proofs.ErasedPatterns.{pattern_field, pattern_wild}
use Rattle.fut_flat.proofs.SourceForms.{pattern_fields as source_fields, pattern_layer}
use Rattle.elab_scopes.specs.declared.refusal.Stop.{Stop}
use Rattle.elab_scopes.specs.declared.table.Names.{Names}
use Rattle.elab_scopes.specs.declared.table.Entry.{Entry as HeldEntry}
use Rattle.elab_scopes.specs.Names.{Twice}
use Rattle.elab_scopes.specs.Scopes.{Scope, a_value}
use Rattle.elab_scopes.specs.Resolve.{Naming, after, beside, has, with_text, whole, resolve_type, name_pattern, name_patterns, resolve_pattern}
use Rattle.elab_scopes.specs.Table.{scope_of, bound_of, made_of, entries_of}
use Rattle.elab_scopes.specs.Answers.{Went, Bound_by, naming_of, went, refused, no_memory}
use Rattle.elab_scopes.specs.Walks.{each}
use Rattle.elab_scopes.proofs.Walking.{after_assoc}
use Rattle.elab_nodes.specs.Built.{Built1, built1, stops1, no_memory1, Built2}
use Rattle.elab_nodes.proofs.Steps.{at_once, by_same, of_one, of_two}
use Rattle.elab_types.specs.Numbering.{Numbers, numbers, no_number, Named, named, bound_before, no_name}
use Rattle.elab_types.specs.Elements.{pattern_part, field_pattern, pattern_with}
use Rattle.elab_types.specs.Bindings.{bound_pattern_of}
use Rattle.elab_types.proofs.HeldPats.{layer_of, pattern_held}
use Rattle.elab_types.proofs.FlatParts.{pattern_field_is}
use Rattle.elab_types.proofs.PatLists.{patterns_each, pat_fields_each, named_patterns}

-- ---- names

pub name_new : (x : Text) (at : Place) (s t u : Names) (b : BindId) → has (bound_of s) x ≡ false → Numbers x s t (Ok b) → bound_of u ≡ bound_of t ++ a_value x b ∷ [] → scope_of u ≡ scope_of t → made_of u ≡ made_of t → Named x at s u (Ok b)
name_new x at s t u b new (numbers is more same held) bs sc mk = named new is (mk ∙ more) (sc ∙ same) (bs ∙ ap (λ l. l ++ a_value x b ∷ []) held)

pub name_stops : (x : Text) (at : Place) (s t u : Names) (e : Stop) → Numbers x s t (Err e) → Named x at s u (Err e)
name_stops x at s t u _ no_number = no_name

pub ruleset naming_rules = (name_new, name_stops, bound_before, no_name)

-- ---- forms

pub bound_went : (x : Text) (at : Place) (s t : Names) (n : Result BindId Stop) (c : Result Flat Stop) → Named x at s t n → Built1 (λ b p. pattern_of p ≡ Bound_pattern b) n c → Bound_by pattern_of (name_pattern (Bound_pattern (label x at))) s t c
unfolding name_pattern naming_of
bound_went x at s t _ _ (named new is more same bs) (built1 eq) = went (rw new (λ i. Ok (Bound_pattern (sym is i), record { bound = bound_of s ++ a_value x (sym is i) ∷ []; made = with_text (made_of s) x })) ∙ (λ i. Ok (sym eq i, record { bound = sym bs i; made = sym more i }))) same
bound_went x at s t _ _ (named new is more same bs) no_memory1 = no_memory
bound_went x at s t _ _ (bound_before before eq) stops1 = refused (rw before (ap (λ z. Err (Twice z at)) (sym eq)))
bound_went x at s t _ _ (bound_before before eq) no_memory1 = no_memory
bound_went x at s t _ _ no_name stops1 = no_memory
bound_went x at s t _ _ no_name no_memory1 = no_memory

pub wild_went : (s : Names) (p : Flat) → p.form ≡ flat_form.Wild → Bound_by pattern_of (name_pattern Wild_pattern) s s (Ok p)
unfolding name_pattern
wild_went s p is = at_once (pattern_wild p is)

pub unit_went : (s : Names) (b : Bor (List Flat)) (c : Result Flat Stop) → b.now ≡ [] → Built1 (λ ps p. pattern_of p ≡ Tuple_pattern (patterns (map pattern_of ps.now))) (Ok b) c → Bound_by pattern_of (name_pattern (Tuple_pattern no_pattern)) s s c
unfolding name_pattern name_patterns after patterns
unit_went s b c none made = of_one {va = λ (ps : Bor (List Flat)). patterns (map pattern_of ps.now)} Tuple_pattern (at_once (ap (λ ps. patterns (map pattern_of ps)) none)) made

pub tuple_went : (hs : List (Held SourcePat)) (s t : Names) (a : Result (Bor (List Flat)) Stop) (c : Result Flat Stop)
    → Bound_by (λ (ps : Bor (List Flat)). map pattern_of ps.now) (each pattern_part hs) s t a → Built1 (λ ps p. pattern_of p ≡ Tuple_pattern (patterns (map pattern_of ps.now))) a c
    → Bound_by pattern_of (name_pattern (Tuple_pattern (source.patterns (map source_pattern (all hs))))) s t c
unfolding name_pattern after
tuple_went hs s t _ _ a c = by_same same (of_one (λ ps. Tuple_pattern (patterns ps)) a c)
  where
    same : (sc : Scope) (m : Naming) → after (name_patterns (source.patterns (map source_pattern (all hs))) sc m) (λ ps s. Ok (Tuple_pattern ps, s)) ≡ after (each pattern_part hs sc m) (λ ps m. Ok (Tuple_pattern (patterns ps), m))
    same sc m = ap (λ r. after r (λ ps m. Ok (Tuple_pattern ps, m))) (patterns_each hs sc m) ∙ after_assoc (each pattern_part hs sc m) (λ ys m. Ok (patterns ys, m)) (λ ps m. Ok (Tuple_pattern ps, m))

pub record_went : (fs : List PatField) (s t : Names) (a : Result (Bor (List FlatField)) Stop) (c : Result Flat Stop)
    → Bound_by (λ (fs : Bor (List FlatField)). map pattern_field fs.now) (each field_pattern fs) s t a
    → Built1 (λ fs p. pattern_of p ≡ Record_pattern (map (λ (f : Text × FlatPattern). f.0) (map pattern_field fs.now)) (patterns (map (λ (f : Text × FlatPattern). f.1) (map pattern_field fs.now)))) a c
    → Bound_by pattern_of (name_pattern (Record_pattern (map (λ f. f.0) (source_fields (pat_fields fs))) (source.patterns (map (λ f. f.1) (source_fields (pat_fields fs)))))) s t c
unfolding name_pattern after
record_went fs s t _ _ a c = by_same same (of_one (λ (ys : List (Text × FlatPattern)). Record_pattern (map (λ f. f.0) ys) (patterns (map (λ f. f.1) ys))) a c)
  where
    names : List Text
    names = map (λ f. f.0) (source_fields (pat_fields fs))

    parts : Patterns Spelled Label
    parts = source.patterns (map (λ f. f.1) (source_fields (pat_fields fs)))

    same : (sc : Scope) (m : Naming) → after (name_patterns parts sc m) (λ ps m. Ok (Record_pattern names ps, m)) ≡ after (each field_pattern fs sc m) (λ ys m. Ok (Record_pattern (map (λ f. f.0) ys) (patterns (map (λ f. f.1) ys)), m))
    same sc m =
        sym (after_assoc (name_patterns parts sc m) (λ ps m. Ok ((names, ps), m)) (λ p m. Ok (Record_pattern p.0 p.1, m)))
        ∙ ap (λ r. after r (λ p m. Ok (Record_pattern p.0 p.1, m))) (pat_fields_each fs sc m)
        ∙ after_assoc (each field_pattern fs sc m) (λ ys m. Ok (named_patterns ys, m)) (λ p m. Ok (Record_pattern p.0 p.1, m))

-- a type beside a pattern binds none of its names
aside : (y : WrittenType) (s t : Names) (b : Result (Bor FlatTy) Stop) → Went (λ (t : Bor FlatTy). type_of t.now) (resolve_type y) s t b → bound_of t ≡ bound_of s → Bound_by (λ (t : Bor FlatTy). type_of t.now) (λ sc m. beside m.bound (resolve_type y sc m.made)) s t b
unfolding naming_of
aside y s t _ (went {x = b} g same) bs = went (ap (beside (bound_of s)) g ∙ λ i. Ok (type_of b.now, record { bound = sym bs i; made = made_of t })) same
aside y s t _ (refused g) bs = refused (ap (beside (bound_of s)) g)
aside y s t _ no_memory bs = no_memory

pub typed_went : (q : SourcePattern) (y : WrittenType) (s t u : Names) (a : Result Flat Stop) (b : Result (Bor FlatTy) Stop) (c : Result Flat Stop)
    → Bound_by pattern_of (name_pattern q) s t a → Went (λ (t : Bor FlatTy). type_of t.now) (resolve_type y) t u b → bound_of u ≡ bound_of t
    → Built2 (λ q t p. pattern_of p ≡ Typed_pattern (pattern_of q) (type_of t.now)) a b c → Bound_by pattern_of (name_pattern (Typed_pattern q y)) s u c
unfolding name_pattern
typed_went q y s t u _ b _ p w bs c = of_two Typed_pattern p (aside y t u b w bs) c

-- a pattern goes as its form does
pub pattern_went : {s t : Names} {c : Result Flat Stop} (p : Inside) (v : SourcePat) (f : PatForm) → pat_of p ≡ v → p.form ≡ f → Bound_by pattern_of (name_pattern (pattern_layer (layer_of f) p.place)) s t c → Bound_by pattern_of (name_pattern (source_pattern v)) s t c
pattern_went {s = s} {t = t} {c = c} p v f stands is w =
    subst (λ x. Bound_by pattern_of (name_pattern (source_pattern x)) s t c) stands (subst (λ x. Bound_by pattern_of (name_pattern x) s t c) (sym (pattern_held p)) (subst (λ g. Bound_by pattern_of (name_pattern (pattern_layer (layer_of g) p.place)) s t c) (sym is) w))

-- ---- lists

pub part_went : (h : Held SourcePat) (s t : Names) (r : Result Flat Stop) → Bound_by pattern_of (name_pattern (source_pattern h.at.now)) s t r → Bound_by pattern_of (pattern_part h) s t r
unfolding pattern_part
part_went h s t r w = w

pub field_went : (f : PatField) (s t : Names) (r : Result Flat Stop) → Bound_by pattern_of (name_pattern (source_pattern f.pat.now)) s t r → Bound_by (λ p. pattern_field (pattern_with f.name p)) (field_pattern f) s t r
unfolding after field_pattern
field_went f s t _ (went {x = a} g same) = went (ap (λ r. after r (λ p m. Ok ((f.name.now, p), m))) g ∙ λ i. Ok (sym (pattern_field_is (record { name = f.name; pat = a })) i, naming_of t)) same
field_went f s t _ (refused g) = refused (ap (λ r. after r (λ p m. Ok ((f.name.now, p), m))) g)
field_went f s t _ no_memory = no_memory

-- ---- whole patterns

pub whole_made : (q : SourcePattern) (s t u : Names) (p : Flat) (es : Bor (List HeldEntry)) → bound_of t ≡ [] → scope_of t ≡ scope_of s → made_of t ≡ made_of s
    → Bound_by pattern_of (name_pattern q) t u (Ok p) → entries_of es.now ≡ bound_of u → Went bound_pattern_of (resolve_pattern q) s u (Ok (record { pat = p; names = es }))
unfolding resolve_pattern naming_of
whole_made q s t u p es none sc mk (went g same) is = went (ap whole ((λ i. name_pattern q (sym sc i) (record { bound = sym none i; made = sym mk i })) ∙ g) ∙ λ i. Ok ((pattern_of p, sym is i), made_of u)) (same ∙ sc)

pub whole_stops : (q : SourcePattern) (s t u : Names) (e : Stop) → bound_of t ≡ [] → scope_of t ≡ scope_of s → made_of t ≡ made_of s
    → Bound_by pattern_of (name_pattern q) t u (Err e) → Went bound_pattern_of (resolve_pattern q) s u (Err e)
unfolding resolve_pattern naming_of
whole_stops q s t u _ none sc mk (refused g) = refused (ap whole ((λ i. name_pattern q (sym sc i) (record { bound = sym none i; made = sym mk i })) ∙ g))
whole_stops q s t u _ none sc mk no_memory = no_memory

pub ruleset whole_rules = (whole_made, whole_stops, no_memory)
