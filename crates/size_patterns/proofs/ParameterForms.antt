-- The sized types of parameters, form by form.
use Rattle.std.proofs.Common.{◌≡◌, ℕ, ◌+◌, ◌<◌, ◌≤◌, List, [], ◌∷◌, ◌++◌, map, length, get_or, drop, false, Some, None, refl, sym, ap, ◌∙◌, arith}
use Rattle.std.specs.Borrow.{Bor}
use Rattle.fut_scalar.specs.declared.place.BindId.{BindId}
use Rattle.fut_flat.specs.declared.pat.Pat.{Pat}
use Rattle.fut_flat.specs.declared.pat.PatField.{PatField}
use Rattle.fut_flat.specs.declared.pat.PatForm.TheVariants as form
use Rattle.fut_flat.specs.declared.prim.Ref.{Ref}
use Rattle.fut_flat.specs.declared.ty.TypeExp.{TypeExp}
use Rattle.fut_flat.specs.Terms.{Tuple_pattern, Patterns, no_pattern, pattern_and}
use Rattle.fut_flat.specs.Erased.{FlatPattern, pattern_of, patterns, type_of}
use Rattle.fut_flat.proofs.ErasedPatterns.{pattern_bound, pattern_wild, pattern_tuple, pattern_typed}
use Rattle.fut_types.specs.Types.{Sub}
use Rattle.fut_typing.specs.Names.{Names}
use Rattle.sized_types.specs.Sizes.{Size, Hole, Open, Level, Built, Fun, Sizes, no_size, size_and}
use Rattle.fut_sizes.specs.Sizing.{in_pattern, in_patterns}
use Rattle.fut_sizes.specs.WrittenSizes.{parameter_size, same_dim}
use Rattle.size_arena.specs.declared.trees.SizeTree.{SizeTree}
use Rattle.size_arena.specs.Trees.{size_of, sizes_of}
use Rattle.size_arena.proofs.Parts.{before, before_more, before_none, parts_at, parts_end}
use Rattle.size_patterns.specs.declared.rows.Row.{Row}
use Rattle.size_patterns.specs.Rows.{is_row, Is_row, a_row, no_row}
use Rattle.size_patterns.proofs.PatternForms.{patterns_at, patterns_end, record_pattern}

module _ (N : Names) (types : Sub) where
  -- one that has no sizes in it keeps those that it comes with
  tuple_kept : (ps : Patterns Ref BindId) (t : Size) → is_row t ≡ false → in_pattern N types (Tuple_pattern ps) t ≡ t
  tuple_kept ps (Hole v) e = refl
  tuple_kept ps (Open n v u) e = refl
  tuple_kept ps (Level d t) e = refl
  tuple_kept ps (Built h ts) e = cc
  tuple_kept ps (Fun k p r) e = refl

  module _ (p : Pat) (t made : Size) where
    abbrev pub Enters_as : Type 0
    Enters_as = made ≡ in_pattern N types (pattern_of p) t

    by_form : (o : FlatPattern) → pattern_of p ≡ o → made ≡ in_pattern N types o t → Enters_as
    by_form o e h = h ∙ sym (ap (λ z. in_pattern N types z t) e)

    pub name_enters : (b : BindId) → p.form ≡ form.Bound b → made ≡ t → Enters_as
    name_enters b is e = by_form _ (pattern_bound p b is) e

    pub none_enters : p.form ≡ form.Wild → made ≡ t → Enters_as
    none_enters is e = by_form _ (pattern_wild p is) e

    pub record_enters : (fs : Bor (List PatField)) → p.form ≡ form.Record fs → made ≡ t → Enters_as
    record_enters fs is e = by_form _ (record_pattern p fs is) e

    pub no_parts_enter : (ps : Bor (List Pat)) → p.form ≡ form.Tuple ps → Is_row t None → made ≡ t → Enters_as
    no_parts_enter ps is (no_row e) h = by_form _ (pattern_tuple p ps is) (h ∙ sym (tuple_kept (patterns (map pattern_of ps.now)) t e))

    pub parts_enter : (ps : Bor (List Pat)) (row : Row) (ts : Sizes) → p.form ≡ form.Tuple ps → Is_row t (Some row) → ts ≡ in_patterns N types (patterns (map pattern_of ps.now)) (sizes_of row.parts.now) → made ≡ Built row.head ts → Enters_as
    parts_enter ps row ts is (a_row e) h m = by_form _ (pattern_tuple p ps is) (m ∙ ap (Built row.head) h ∙ sym (ap (in_pattern N types (Tuple_pattern (patterns (map pattern_of ps.now)))) e))

    pub typed_enters : (q : Bor Pat) (e : Bor TypeExp) (same : Size) → p.form ≡ form.Typed q e → same ≡ parameter_size N same_dim (type_of e.now) t → made ≡ in_pattern N types (pattern_of q.now) same → Enters_as
    typed_enters q e same is w h = by_form _ (pattern_typed p q e is) (h ∙ ap (in_pattern N types (pattern_of q.now)) w)

  -- ---- the parts of a tuple

  no_patterns : (us : Sizes) → in_patterns N types no_pattern us ≡ us
  no_patterns no_size = refl
  no_patterns (size_and u us) = refl

  no_sizes : (qs : Patterns Ref BindId) → in_patterns N types qs no_size ≡ no_size
  no_sizes no_pattern = refl
  no_sizes (pattern_and q qs) = refl

  module _ (ps : List Pat) (ts : List SizeTree) where
    abbrev pub Parts_entered : ℕ → List SizeTree → Type 0
    Parts_entered i made = in_patterns N types (patterns (map pattern_of ps)) (sizes_of ts) ≡ before made (in_patterns N types (patterns (map pattern_of (drop i ps))) (sizes_of (drop i ts)))

    module _ (i : ℕ) (made : List SizeTree) (h : Parts_entered i made) where
      put_behind : (part : SizeTree) (more : List SizeTree) (u : Size) (us : Sizes) → size_of part ≡ u → more ≡ made ++ part ∷ [] → before made (size_and u us) ≡ before more us
      put_behind part more u us e b = ap (λ z. before made (size_and z us)) (sym e) ∙ sym (before_more made part us) ∙ ap (λ z. before z us) (sym b)

      pub one_entered : (p : Pat) (t part : SizeTree) (more : List SizeTree) → i < length ps → i < length ts → t ≡ get_or ts i t → size_of part ≡ in_pattern N types (pattern_of (get_or ps i p)) (size_of t) → more ≡ made ++ part ∷ [] → Parts_entered (i + 1) more
      one_entered p t part more l m here e b =
          h ∙ ap (before made) (ap (λ z. in_patterns N types z (sizes_of (drop i ts))) (patterns_at pattern_of ps i p l) ∙ ap (in_patterns N types (pattern_and (pattern_of (get_or ps i p)) (patterns (map pattern_of (drop (i + 1) ps))))) (parts_at ts i t m))
          ∙ put_behind part more _ (in_patterns N types (patterns (map pattern_of (drop (i + 1) ps))) (sizes_of (drop (i + 1) ts))) (e ∙ ap (λ z. in_pattern N types (pattern_of (get_or ps i p)) (size_of z)) here) b

      pub one_kept : (t part : SizeTree) (more : List SizeTree) → length ps ≤ i → i < length ts → part ≡ get_or ts i t → more ≡ made ++ part ∷ [] → Parts_entered (i + 1) more
      one_kept t part more l m e b =
          h ∙ ap (before made) (ap (λ z. in_patterns N types z (sizes_of (drop i ts))) (patterns_end pattern_of ps i l) ∙ no_patterns (sizes_of (drop i ts)) ∙ parts_at ts i t m)
          ∙ put_behind part more (size_of (get_or ts i t)) (sizes_of (drop (i + 1) ts)) (ap size_of e) b
          ∙ ap (before more) (sym (ap (λ z. in_patterns N types z (sizes_of (drop (i + 1) ts))) (patterns_end pattern_of ps (i + 1) (omega (arith, l))) ∙ no_patterns (sizes_of (drop (i + 1) ts))))

      pub all_entered : length ts ≤ i → sizes_of made ≡ in_patterns N types (patterns (map pattern_of ps)) (sizes_of ts)
      all_entered m = sym (h ∙ ap (before made) (ap (in_patterns N types (patterns (map pattern_of (drop i ps)))) (parts_end ts i m) ∙ no_sizes (patterns (map pattern_of (drop i ps)))) ∙ before_none made)
