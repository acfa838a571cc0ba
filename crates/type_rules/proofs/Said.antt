-- What the demands of ranges, indices and updates say.
use Rattle.std.proofs.Common.{◌≡◌, ◌≤◌, refl, sym, ◌∙◌, ap, subst, arith, [], ◌∷◌}
use Rattle.fut_flat.specs.declared.act.Part.TheVariants as part
use Rattle.fut_types.specs.declared.Kind.{Kind}
use Rattle.fut_types.specs.declared.Kind.TheVariants as kind
use Rattle.fut_types.specs.Types.{Ty, none, more, Kinds, HasKind, level}
use Rattle.fut_types.proofs.TyLaws.{level_most}
use Rattle.fut_typing.specs.Names.{count}
use Rattle.fut_typing.specs.Primitives.{array_ty, i64_ty}
use Rattle.fut_typing.specs.Scopes.{IsArray}
use Rattle.fut_typing.specs.Rules.{All_are, bounds}

-- an integer may stand in each place
places_integer : (places : Kind) (K : Kinds) (t : Ty) → HasKind K kind.Integer t → HasKind K places t
places_integer places K t h = let z : level places ≤ 4 = level_most places in omega arith

module _ (places : Kind) (K : Kinds) where
  pub range_to : (t x z : Ty) → (t ≡ array_ty x) × (HasKind K kind.Integer x × ((z ≡ x) × Unit {0})) → (element : Ty) × IsArray places K t element × HasKind K kind.Integer element × All_are element (more x (more z none))
  range_to t x z h = (x, (h.0, places_integer places K x h.1.0), h.1.0, (refl, (h.1.1.0, tt)))

  pub range_from : (t x z : Ty) → (element : Ty) × IsArray places K t element × HasKind K kind.Integer element × All_are element (more x (more z none)) → (t ≡ array_ty x) × (HasKind K kind.Integer x × ((z ≡ x) × Unit {0}))
  range_from t x z h = (h.1.0 ∙ ap array_ty (sym h.3.0), (subst (HasKind K kind.Integer) (sym h.3.0) h.2, (h.3.1.0 ∙ sym h.3.0, tt)))

  pub range_by_to : (t x y z : Ty) → (t ≡ array_ty x) × (HasKind K kind.Integer x × ((y ≡ x) × ((z ≡ x) × Unit {0}))) → (element : Ty) × IsArray places K t element × HasKind K kind.Integer element × All_are element (more x (more y (more z none)))
  range_by_to t x y z h = (x, (h.0, places_integer places K x h.1.0), h.1.0, (refl, (h.1.1.0, (h.1.1.1.0, tt))))

  pub range_by_from : (t x y z : Ty) → (element : Ty) × IsArray places K t element × HasKind K kind.Integer element × All_are element (more x (more y (more z none))) → (t ≡ array_ty x) × (HasKind K kind.Integer x × ((y ≡ x) × ((z ≡ x) × Unit {0})))
  range_by_from t x y z h = (h.1.0 ∙ ap array_ty (sym h.3.0), (subst (HasKind K kind.Integer) (sym h.3.0) h.2, (h.3.1.0 ∙ sym h.3.0, (h.3.1.1.0 ∙ sym h.3.0, tt))))

  pub element_to : (t x i : Ty) → (i ≡ i64_ty) × ((x ≡ array_ty t) × (HasKind K places t × Unit {0})) → All_are i64_ty (more i none) × (count (more i none) ≡ bounds (part.At ∷ [])) × ((element : Ty) × (u : Ty) × IsArray places K x element × (u ≡ element) × (t ≡ u))
  element_to t x i h = ((h.0, tt), refl, (t, t, (h.1.0, h.1.1.0), refl, refl))

  pub element_from : (t x i : Ty) → All_are i64_ty (more i none) × (count (more i none) ≡ bounds (part.At ∷ [])) × ((element : Ty) × (u : Ty) × IsArray places K x element × (u ≡ element) × (t ≡ u)) → (i ≡ i64_ty) × ((x ≡ array_ty t) × (HasKind K places t × Unit {0}))
  element_from t x i h = let e = h.2.4 ∙ h.2.3 in (h.0.0, (h.2.2.0 ∙ ap array_ty (sym e), (subst (HasKind K places) (sym e) h.2.2.1, tt)))

  pub update_to : (t x i v : Ty) → (t ≡ x) × ((i ≡ i64_ty) × ((x ≡ array_ty v) × (HasKind K places v × Unit {0}))) → (t ≡ x) × ((i ≡ i64_ty) × ((element : Ty) × IsArray places K x element × (v ≡ element)))
  update_to t x i v h = (h.0, (h.1.0, (v, (h.1.1.0, h.1.1.1.0), refl)))

  pub update_from : (t x i v : Ty) → (t ≡ x) × ((i ≡ i64_ty) × ((element : Ty) × IsArray places K x element × (v ≡ element))) → (t ≡ x) × ((i ≡ i64_ty) × ((x ≡ array_ty v) × (HasKind K places v × Unit {0})))
  update_from t x i v h = let e = h.1.1.2 in (h.0, (h.1.0, (h.1.1.1.0 ∙ ap array_ty (sym e), (subst (HasKind K places) (sym e) h.1.1.1.1, tt))))
