-- Rows of stars, by the places of their parts.
use Rattle.std.proofs.Common.{◌≡◌, ◌≢◌, ℕ, zero, suc, ◌+◌, ◌<◌, ◌≤◌, ◌^◌, List, [], ◌∷◌, ◌++◌, length, get_or, slice_set, drop, Bool, false, Option, Some, None, refl, sym, ap, ◌∙◌, arith, subst}
use Rattle.std.specs.Borrow.{Bor}
use Rattle.fut_flat.specs.declared.pat.PatField.{PatField}
use Rattle.fut_types.specs.declared.Head.{Head}
use Rattle.fut_types.specs.Shapes.{Tells_position, part_at, place}
use Rattle.fut_types.specs.Types.{Var, Made}
use Rattle.fut_typing.specs.Names.{Names}
use Rattle.fut_aliases.specs.Stars.{Stars, Row, StarRow, star_and, spread, all_spread, with_star}
use Rattle.fut_aliases.specs.Stars.{row_of as row_in}
use Rattle.alias_values.specs.declared.trees.StarTree.{StarTree}
use Rattle.alias_values.specs.declared.trees.StarTree.TheVariants as star
use Rattle.alias_values.specs.declared.trees.TypeTree.{TypeTree}
use Rattle.alias_values.specs.declared.trees.TypeTree.TheVariants as type
use Rattle.alias_values.specs.Trees.{row, row_of, stars_of, tys, type_of, types_of}
use Rattle.alias_values.proofs.Forms.{star_leaf, star_arrow, star_row, type_var, type_made}
use Rattle.alias_values.proofs.Rows.{drop_past, stars_at, types_at, types_end, row_before, row_before_more, row_before_none}
use Rattle.alias_patterns.specs.Fields.{field_names}
use Rattle.alias_patterns.specs.Placing.{placed, record_placed}
use Rattle.alias_patterns.proofs.Fields.{names_at}

-- ---- one star over the types of a row

module _ (b : Bool) (ts : List TypeTree) where
  abbrev pub Spread_made : ℕ → List StarTree → Type 0
  Spread_made i made = all_spread b (types_of ts) ≡ row_before made (all_spread b (types_of (drop i ts)))

  pub spread_more : (i : ℕ) (made longer : List StarTree) (t : TypeTree) (u : StarTree) → Spread_made i made → i < length ts → stars_of u ≡ spread b (type_of (get_or ts i t)) → longer ≡ made ++ u ∷ [] → Spread_made (i + 1) longer
  unfolding spread all_spread
  spread_more i made longer t u h l e p =
      h ∙ ap (row_before made) (ap (all_spread b) (types_at ts i t l) ∙ ap (λ z. star_and z (all_spread b (types_of (drop (i + 1) ts)))) (sym e))
      ∙ sym (row_before_more made u (all_spread b (types_of (drop (i + 1) ts)))) ∙ ap (λ z. row_before z (all_spread b (types_of (drop (i + 1) ts)))) (sym p)

  pub spread_end : (i : ℕ) (made : List StarTree) → Spread_made i made → length ts ≤ i → row_of made ≡ all_spread b (types_of ts)
  unfolding all_spread
  spread_end i made h l = sym (h ∙ ap (λ z. row_before made (all_spread b z)) (types_end ts i l) ∙ row_before_none made)

-- ---- the parts of stars

module _ (u : StarTree) (all : List StarTree) where
  pub leaf_row : (b : Bool) → u ≡ star.Leaf b → all ≡ [] → row_of all ≡ row_in (stars_of u)
  unfolding row_of row
  leaf_row b e n = ap row_of n ∙ sym (ap row_in (ap stars_of e ∙ star_leaf b))

  pub arrow_row : (b : Bool) (p r : Bor StarTree) → u ≡ star.Arrow b p r → all ≡ [] → row_of all ≡ row_in (stars_of u)
  unfolding row_of row
  arrow_row b p r e n = ap row_of n ∙ sym (ap row_in (ap stars_of e ∙ star_arrow b p r))

  pub row_row : (us : Bor (List StarTree)) → u ≡ star.Row us → all ≡ us.now → row_of all ≡ row_in (stars_of u)
  row_row us e n = ap row_of n ∙ sym (ap row_in (ap stars_of e ∙ star_row us))

-- ---- stars at a place

put_here : (us : List StarTree) (i : ℕ) (u : StarTree) → i < length us → row_of (slice_set us i u) ≡ with_star (Some i) (stars_of u) (row_of us)
unfolding row_of row
put_here [] i u l = absurd (omega (arith, l))
put_here (x ∷ us) zero u l = refl
put_here (x ∷ us) (suc i) u l = ap (star_and (stars_of x)) (put_here us i u (omega (arith, l)))

put_past : (us : List StarTree) (i : ℕ) (w : Stars) → length us ≤ i → row_of us ≡ with_star (Some i) w (row_of us)
unfolding row_of row
put_past [] i w l = refl
put_past (x ∷ us) zero w l = absurd (omega (arith, l))
put_past (x ∷ us) (suc i) w l = ap (star_and (stars_of x)) (put_past us i w (omega (arith, l)))

module _ (us : List StarTree) (u : StarTree) (o p : Option ℕ) (t : Tells_position o p) where
  pub star_put : (i : ℕ) → o ≡ Some i → i < length us → row_of (slice_set us i u) ≡ with_star p (stars_of u) (row_of us)
  star_put i s l = let e : p ≡ Some i = subst (λ z. Tells_position z p) s t in put_here us i u l ∙ sym (ap (λ z. with_star z (stars_of u) (row_of us)) e)

  pub star_past : (i : ℕ) → o ≡ Some i → length us ≤ i → row_of us ≡ with_star p (stars_of u) (row_of us)
  star_past i s l = let e : p ≡ Some i = subst (λ z. Tells_position z p) s t in put_past us i (stars_of u) l ∙ sym (ap (λ z. with_star z (stars_of u) (row_of us)) e)

  pub star_nowhere : o ≡ None → length us < 2 ^ 32 → row_of us ≡ with_star p (stars_of u) (row_of us)
  star_nowhere s l = by_place p (subst (λ z. Tells_position z p) s t)
    where
      by_place : (p : Option ℕ) → Tells_position None p → row_of us ≡ with_star p (stars_of u) (row_of us)
      by_place None t = refl
      by_place (Some i) t = let h : 2 ^ 32 ≤ i = t i refl in put_past us i (stars_of u) (omega (arith, h, l))

-- ---- types at a place

type_here : (ts : List TypeTree) (i : ℕ) (d : TypeTree) → i < length ts → Some (type_of (get_or ts i d)) ≡ part_at (Some i) (types_of ts)
unfolding types_of tys part_at
type_here [] i d l = absurd (omega (arith, l))
type_here (t ∷ ts) zero d l = refl
type_here (t ∷ ts) (suc i) d l = type_here ts i d (omega (arith, l))

type_past : (ts : List TypeTree) (i : ℕ) → length ts ≤ i → None ≡ part_at (Some i) (types_of ts)
unfolding types_of tys part_at
type_past [] i l = refl
type_past (t ∷ ts) zero l = absurd (omega (arith, l))
type_past (t ∷ ts) (suc i) l = type_past ts i (omega (arith, l))

module _ (ts : List TypeTree) (o p : Option ℕ) (t : Tells_position o p) where
  pub type_found : (i : ℕ) (d : TypeTree) → o ≡ Some i → i < length ts → d ≡ get_or ts i d → Some (type_of d) ≡ part_at p (types_of ts)
  type_found i d s l x = let e : p ≡ Some i = subst (λ z. Tells_position z p) s t in ap (λ z. Some (type_of z)) x ∙ type_here ts i d l ∙ sym (ap (λ z. part_at z (types_of ts)) e)

  pub type_short : (i : ℕ) → o ≡ Some i → length ts ≤ i → None ≡ part_at p (types_of ts)
  type_short i s l = let e : p ≡ Some i = subst (λ z. Tells_position z p) s t in type_past ts i l ∙ sym (ap (λ z. part_at z (types_of ts)) e)

  pub type_nowhere : o ≡ None → length ts < 2 ^ 32 → None ≡ part_at p (types_of ts)
  unfolding part_at
  type_nowhere s l = by_place p (subst (λ z. Tells_position z p) s t)
    where
      by_place : (p : Option ℕ) → Tells_position None p → None ≡ part_at p (types_of ts)
      by_place None t = refl
      by_place (Some i) t = let h : 2 ^ 32 ≤ i = t i refl in type_past ts i (omega (arith, h, l))

-- ---- the stars of fields

module _ (N : Names) (h : Head) (fs : List PatField) (us old : List StarTree) where
  abbrev pub Placed_from : ℕ → List StarTree → Type 0
  Placed_from i row = row_of row ≡ placed N h (field_names (drop i fs)) (row_of (drop i us)) (row_of old)

  pub placed_none : (i : ℕ) → length fs ≤ i → Placed_from i old
  placed_none i l = sym (ap (λ z. placed N h (field_names z) (row_of (drop i us)) (row_of old)) (drop_past fs i l))

  pub placed_more : (i j : ℕ) (row next : List StarTree) (f : PatField) (u : StarTree) → i ≡ j + 1 → Placed_from i row → i ≤ length fs → i ≤ length us → u ≡ get_or us j u
      → row_of next ≡ with_star (place N.shapes (N.label (get_or fs j f).name.now) h) (stars_of u) (row_of row) → Placed_from j next
  placed_more i j row next f u ij h0 l k x e =
      e ∙ ap (λ z. with_star (place N.shapes (N.label (get_or fs j f).name.now) h) (stars_of z) (row_of row)) x ∙ ap (with_star (place N.shapes (N.label (get_or fs j f).name.now) h) (stars_of (get_or us j u))) (h0 ∙ ap (λ z. placed N h (field_names (drop z fs)) (row_of (drop z us)) (row_of old)) ij)
      ∙ sym (ap (λ z. placed N h z (row_of (drop j us)) (row_of old)) (names_at (λ (f : PatField). f.name.now) fs j f (omega (arith, ij, l)))
      ∙ ap (λ z. placed N h ((get_or fs j f).name.now ∷ field_names (drop (j + 1) fs)) z (row_of old)) (stars_at us j u (omega (arith, ij, k))))

module _ (N : Names) (us : StarRow) (ty : TypeTree) (u : Stars) where
  pub record_none : (fs : List PatField) → length fs ≡ 0 → u ≡ spread false (type_of ty) → u ≡ record_placed N (field_names fs) us (type_of ty)
  record_none [] l e = e
  record_none (f ∷ fs) l e = absurd (omega (arith, l))

  pub record_var : (fs : List PatField) (v : ℕ) → ty ≡ type.Var v → u ≡ spread false (type_of ty) → u ≡ record_placed N (field_names fs) us (type_of ty)
  record_var [] v i e = e
  record_var (f ∷ fs) v i e =
      let t : type_of ty ≡ Var v = ap type_of i ∙ type_var v in
      e ∙ ap (spread false) t ∙ sym (ap (record_placed N (field_names (f ∷ fs)) us) t)

module _ (N : Names) (us : StarRow) (ty : TypeTree) (plain : Stars) (base : StarRow) where
  pub record_made : (fs : List PatField) (h : Head) (ts : Bor (List TypeTree)) (made : Stars) (row : StarRow) → length fs ≢ 0 → ty ≡ type.Made h ts → plain ≡ spread false (type_of ty) → base ≡ row_in plain → row ≡ placed N h (field_names fs) us base → made ≡ Row row
      → made ≡ record_placed N (field_names fs) us (type_of ty)
  record_made [] h ts made row n i e b r m = absurd (n refl)
  record_made (f ∷ fs) h ts made row n i e b r m =
      let t : type_of ty ≡ Made h (types_of ts.now) = ap type_of i ∙ type_made h ts in
      m ∙ ap Row (r ∙ ap (placed N h (field_names (f ∷ fs)) us) (b ∙ ap row_in (e ∙ ap (spread false) t))) ∙ sym (ap (record_placed N (field_names (f ∷ fs)) us) t)
