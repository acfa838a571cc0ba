-- The stars of parameters and of functions, form by form.
use Rattle.std.proofs.Common.{◌≡◌, ℕ, ◌+◌, ◌<◌, ◌≤◌, List, [], ◌∷◌, ◌++◌, map, length, get_or, drop, Bool, false, refl, sym, ap, ◌∙◌, arith}
use Rattle.std.specs.Borrow.{Bor}
use Rattle.fut_ast.specs.Sorts.{Text}
use Rattle.fut_scalar.specs.declared.place.BindId.{BindId}
use Rattle.fut_flat.specs.declared.pat.Pat.{Pat}
use Rattle.fut_flat.specs.declared.pat.PatField.{PatField}
use Rattle.fut_flat.specs.declared.pat.PatForm.TheVariants as form
use Rattle.fut_flat.specs.declared.prim.Ref.{Ref}
use Rattle.fut_flat.specs.declared.ty.TypeExp.{TypeExp}
use Rattle.fut_flat.specs.Terms.{Bound_pattern, Wild_pattern, Tuple_pattern, Record_pattern, Typed_pattern, Patterns, no_pattern, pattern_and}
use Rattle.fut_flat.specs.Erased.{FlatPattern, FlatType, pattern_of, patterns, type_of as written_type}
use Rattle.fut_flat.specs.Numbers.{pattern_numbers}
use Rattle.fut_flat.proofs.ErasedPatterns.{pattern_bound, pattern_wild, pattern_tuple, pattern_typed}
use Rattle.fut_types.specs.declared.Head.{Head}
use Rattle.fut_types.specs.Types.{Ty, Var, Made, Tys, Sub, Kinds}
use Rattle.fut_types.specs.Shapes.{place}
use Rattle.fut_typing.specs.Names.{Names}
use Rattle.flat_numbers.specs.Fields.{field_patterns}
use Rattle.fut_aliases.specs.Aliases.{Naming, Set}
use Rattle.fut_aliases.specs.Values.{Value, with_stars}
use Rattle.fut_aliases.specs.Looking.{function_stars, parameter_value, result_stars}
use Rattle.fut_aliases.specs.Patterns.{pattern_stars, tuple_stars, record_stars}
use Rattle.fut_aliases.specs.Stars.{Stars, Leaf, Arrow, Row, StarRow, star_and, spread, with_star, written_stars}
use Rattle.fut_aliases.specs.Stars.{row_of as row_in}
use Rattle.alias_values.specs.declared.trees.StarTree.{StarTree}
use Rattle.alias_values.specs.declared.trees.StarTree.TheVariants as star
use Rattle.alias_values.specs.Trees.{row, row_of, stars_of}
use Rattle.alias_values.proofs.Forms.{star_leaf, star_arrow, star_row}
use Rattle.alias_values.proofs.Rows.{drop_past, stars_at, row_before, row_before_more, row_before_none}
use Rattle.alias_patterns.specs.Fields.{field_names}
use Rattle.alias_patterns.specs.Placing.{arrows_before, placed, record_placed}
use Rattle.alias_patterns.proofs.Fields.{patterns_at, patterns_end, record_pattern}

module _ (N : Names) (types : Sub) where
  -- ---- the fields of a record's pattern

  placed_law : (fs : List PatField) (q : ℕ) (h : Head) (ts : Tys) → placed N h (field_names fs) (tuple_stars N types (field_patterns fs) q) (row_in (spread false (Made h ts))) ≡ row_in (record_stars N types (field_names fs) (field_patterns fs) q (Made h ts))
  unfolding tuple_stars record_stars patterns
  placed_law [] q h ts = refl
  placed_law (f ∷ fs) q h ts = ap (with_star (place N.shapes (N.label f.name.now) h) (pattern_stars N types (pattern_of f.pat) q)) (placed_law fs (q + pattern_numbers (pattern_of f.pat)) h ts)

  record_law : (fs : List PatField) (q : ℕ) (t : Ty) → record_placed N (field_names fs) (tuple_stars N types (field_patterns fs) q) t ≡ record_stars N types (field_names fs) (field_patterns fs) q t
  unfolding tuple_stars record_stars patterns
  record_law [] q t = refl
  record_law (f ∷ fs) q (Var v) = refl
  record_law (f ∷ fs) q (Made h ts) = ap (λ z. Row (with_star (place N.shapes (N.label f.name.now) h) (pattern_stars N types (pattern_of f.pat) q) z)) (placed_law fs (q + pattern_numbers (pattern_of f.pat)) h ts)

  -- ---- patterns

  bound_stars : (b : BindId) (q : ℕ) → spread false (types q) ≡ pattern_stars N types (Bound_pattern b) q
  unfolding pattern_stars
  bound_stars b q = refl

  wild_stars : (q : ℕ) → spread false (types q) ≡ pattern_stars N types Wild_pattern q
  unfolding pattern_stars
  wild_stars q = refl

  tuple_stars_are : (ps : Patterns Ref BindId) (q : ℕ) → Row (tuple_stars N types ps (1 + q)) ≡ pattern_stars N types (Tuple_pattern ps) q
  unfolding pattern_stars tuple_stars
  tuple_stars_are ps q = refl

  record_stars_are : (fs : List Text) (ps : Patterns Ref BindId) (q : ℕ) → record_stars N types fs ps (1 + q) (types q) ≡ pattern_stars N types (Record_pattern fs ps) q
  unfolding pattern_stars record_stars
  record_stars_are fs ps q = refl

  typed_stars : (p : FlatPattern) (e : FlatType) (q : ℕ) → written_stars N false e (types q) ≡ pattern_stars N types (Typed_pattern p e) q
  unfolding pattern_stars
  typed_stars p e q = refl

  module _ (p : Pat) (q : ℕ) (u : Stars) where
    same_stars : (o : FlatPattern) → pattern_of p ≡ o → u ≡ pattern_stars N types o q → u ≡ pattern_stars N types (pattern_of p) q
    same_stars o e h = h ∙ sym (ap (λ z. pattern_stars N types z q) e)

    pub stars_bound : (b : BindId) → p.form ≡ form.Bound b → u ≡ spread false (types q) → u ≡ pattern_stars N types (pattern_of p) q
    stars_bound b is e = same_stars _ (pattern_bound p b is) (e ∙ bound_stars b q)

    pub stars_wild : p.form ≡ form.Wild → u ≡ spread false (types q) → u ≡ pattern_stars N types (pattern_of p) q
    stars_wild is e = same_stars _ (pattern_wild p is) (e ∙ wild_stars q)

    pub stars_tuple : (ps : Bor (List Pat)) (first : ℕ) (row : StarRow) → p.form ≡ form.Tuple ps → first ≡ q + 1 → row ≡ tuple_stars N types (patterns (map pattern_of ps.now)) first → u ≡ Row row → u ≡ pattern_stars N types (pattern_of p) q
    stars_tuple ps first row is one r e =
        let o : first ≡ 1 + q = omega (arith, one) in
        same_stars _ (pattern_tuple p ps is) (e ∙ ap Row (r ∙ ap (tuple_stars N types (patterns (map pattern_of ps.now))) o) ∙ tuple_stars_are (patterns (map pattern_of ps.now)) q)

    pub stars_record : (fs : Bor (List PatField)) (first : ℕ) (row : StarRow) (t : Ty) → p.form ≡ form.Record fs → first ≡ q + 1 → row ≡ tuple_stars N types (field_patterns fs.now) first → t ≡ types q → u ≡ record_placed N (field_names fs.now) row t → u ≡ pattern_stars N types (pattern_of p) q
    stars_record fs first row t is one r i e =
        let o : first ≡ 1 + q = omega (arith, one) in
        same_stars _ (record_pattern p fs is) (e ∙ ap (λ z. record_placed N (field_names fs.now) z t) (r ∙ ap (tuple_stars N types (field_patterns fs.now)) o) ∙ ap (record_placed N (field_names fs.now) (tuple_stars N types (field_patterns fs.now) (1 + q))) i
        ∙ record_law fs.now (1 + q) (types q) ∙ record_stars_are (field_names fs.now) (field_patterns fs.now) q)

    pub stars_typed : (o : Bor Pat) (e : Bor TypeExp) → p.form ≡ form.Typed o e → u ≡ written_stars N false (written_type e.now) (types q) → u ≡ pattern_stars N types (pattern_of p) q
    stars_typed o e is h = same_stars _ (pattern_typed p o e is) (h ∙ typed_stars (pattern_of o.now) (written_type e.now) q)

  -- ---- one after another

  module _ {X : Type 0} (f : X → FlatPattern) (xs : List X) (q : ℕ) where
    abbrev pub Stars_made : ℕ → ℕ → List StarTree → Type 0
    Stars_made i at made = tuple_stars N types (patterns (map f xs)) q ≡ row_before made (tuple_stars N types (patterns (map f (drop i xs))) at)

    module _ (i at : ℕ) (made : List StarTree) (h : Stars_made i at made) where
      pub stars_more : (d : X) (u : StarTree) (longer : List StarTree) (next : ℕ) → i < length xs → stars_of u ≡ pattern_stars N types (f (get_or xs i d)) at → longer ≡ made ++ u ∷ [] → next ≡ at + pattern_numbers (f (get_or xs i d)) → Stars_made (i + 1) next longer
      unfolding tuple_stars
      stars_more d u longer next l e p n =
          h ∙ ap (row_before made) (ap (λ z. tuple_stars N types z at) (patterns_at f xs i d l) ∙ ap (λ z. star_and z (tuple_stars N types (patterns (map f (drop (i + 1) xs))) (at + pattern_numbers (f (get_or xs i d))))) (sym e)
          ∙ ap (λ z. star_and (stars_of u) (tuple_stars N types (patterns (map f (drop (i + 1) xs))) z)) (sym n))
          ∙ sym (row_before_more made u (tuple_stars N types (patterns (map f (drop (i + 1) xs))) next)) ∙ ap (λ z. row_before z (tuple_stars N types (patterns (map f (drop (i + 1) xs))) next)) (sym p)

      pub stars_end : (all : List StarTree) → length xs ≤ i → all ≡ made → row_of all ≡ tuple_stars N types (patterns (map f xs)) q
      unfolding tuple_stars
      stars_end all l a = ap row_of a ∙ sym (h ∙ ap (λ z. row_before made (tuple_stars N types z at)) (patterns_end f xs i l) ∙ row_before_none made)

-- ---- functions

arrows_law : (naming : Naming) (N : Names) (K : Kinds) (types : Sub) (ps : Patterns Ref BindId) (q : ℕ) (r : Stars) → arrows_before (tuple_stars N types ps q) r ≡ function_stars naming N K types ps q r
unfolding tuple_stars
arrows_law naming N K types no_pattern q r = refl
arrows_law naming N K types (pattern_and p ps) q r = ap (Arrow false (pattern_stars N types p q)) (arrows_law naming N K types ps (q + pattern_numbers p) r)

pub function_made : (naming : Naming) (N : Names) (K : Kinds) (types : Sub) (ps : Patterns Ref BindId) (q : ℕ) (row : StarRow) (r u : Stars) → row ≡ tuple_stars N types ps q → u ≡ arrows_before row r → u ≡ function_stars naming N K types ps q r
function_made naming N K types ps q row r u e h = h ∙ ap (λ z. arrows_before z r) e ∙ arrows_law naming N K types ps q r

module _ (us : List StarTree) (r : Stars) where
  abbrev pub Arrows_from : ℕ → StarTree → Type 0
  Arrows_from i made = stars_of made ≡ arrows_before (row_of (drop i us)) r

  pub arrows_none : (i : ℕ) (made : StarTree) → length us ≤ i → stars_of made ≡ r → Arrows_from i made
  unfolding row_of row
  arrows_none i made l e = e ∙ sym (ap (λ z. arrows_before (row_of z) r) (drop_past us i l))

  pub arrows_more : (i j : ℕ) (made next u : StarTree) → i ≡ j + 1 → i ≤ length us → Arrows_from i made → u ≡ get_or us j u → stars_of next ≡ Arrow false (stars_of u) (stars_of made) → Arrows_from j next
  arrows_more i j made next u ij l h x e =
      e ∙ ap (λ z. Arrow false (stars_of z) (stars_of made)) x ∙ ap (Arrow false (stars_of (get_or us j u))) (h ∙ ap (λ z. arrows_before (row_of (drop z us)) r) ij) ∙ sym (ap (λ z. arrows_before z r) (stars_at us j u (omega (arith, ij, l))))

pub value_made : (naming : Naming) (N : Names) (K : Kinds) (types : Sub) (p : FlatPattern) (q : ℕ) (s : Set) (u : Stars) (t : Ty) (v : Value) → s ≡ [] → u ≡ pattern_stars N types p q → t ≡ types q → v ≡ with_stars K s u t → v ≡ parameter_value naming N K types p q
value_made naming N K types p q s u t v n w i e = e ∙ ap (λ z. with_stars K z u t) n ∙ ap (λ z. with_stars K [] z t) w ∙ ap (with_stars K [] (pattern_stars N types p q)) i

-- ---- results

some_at : {X : Type 0} (xs : List X) (i : ℕ) → i < length xs → X
some_at [] i l = absurd (omega (arith, l))
some_at (x ∷ xs) i l = x

module _ (ps : List Pat) (u : Stars) where
  abbrev pub Result_from : ℕ → StarTree → Type 0
  Result_from i rest = result_stars (patterns (map pattern_of ps)) u ≡ result_stars (patterns (map pattern_of (drop i ps))) (stars_of rest)

  module _ (i : ℕ) (rest : StarTree) (h : Result_from i rest) where
    pub result_end : length ps ≤ i → stars_of rest ≡ result_stars (patterns (map pattern_of ps)) u
    result_end l = sym (h ∙ ap (λ z. result_stars z (stars_of rest)) (patterns_end pattern_of ps i l))

    result_at : (p : Pat) (v : Stars) → i < length ps → stars_of rest ≡ v → result_stars (patterns (map pattern_of ps)) u ≡ result_stars (pattern_and (pattern_of (get_or ps i p)) (patterns (map pattern_of (drop (i + 1) ps)))) v
    result_at p v l e = h ∙ ap (λ z. result_stars z (stars_of rest)) (patterns_at pattern_of ps i p l) ∙ ap (result_stars (pattern_and (pattern_of (get_or ps i p)) (patterns (map pattern_of (drop (i + 1) ps))))) e

    pub result_more : (b : Bool) (from to : Bor StarTree) → i < length ps → rest ≡ star.Arrow b from to → Result_from (i + 1) to.now
    result_more b from to l e = result_at (some_at ps i l) _ l (ap stars_of e ∙ star_arrow b from to)

    pub result_leaf : (b : Bool) (none : Stars) → i < length ps → rest ≡ star.Leaf b → none ≡ Leaf false → none ≡ result_stars (patterns (map pattern_of ps)) u
    result_leaf b none l e n = n ∙ sym (result_at (some_at ps i l) _ l (ap stars_of e ∙ star_leaf b))

    pub result_row : (us : Bor (List StarTree)) (none : Stars) → i < length ps → rest ≡ star.Row us → none ≡ Leaf false → none ≡ result_stars (patterns (map pattern_of ps)) u
    result_row us none l e n = n ∙ sym (result_at (some_at ps i l) _ l (ap stars_of e ∙ star_row us))
