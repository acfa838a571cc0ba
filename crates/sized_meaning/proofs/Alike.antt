-- Sized types of one form, whose sizes are worth the same, have the same values.
use Rattle.std.proofs.Common.{Bool}
use Rattle.fut_scalar.specs.declared.place.Place.{Place}
use Rattle.std.proofs.Common.{◌≡◌, ℕ, suc, sym, ◌∙◌}
use Rattle.fut_types.specs.declared.Head.{Head}
use Rattle.fut_typing.specs.Names.{Names}
use Rattle.fut_value.specs.Data.{Shape, Shapes, Named_shapes, Datum, Datums, Named_datums}
use Rattle.fut_meaning.specs.Flats.{FlatValue}
use Rattle.fut_meaning.specs.Found.{Sizing}
use Rattle.fut_meaning.specs.Outcomes.{Rel}
use Rattle.sized_types.specs.Sizes.{Dim, Variable, Size, Hole, Level, Built, Sizes, no_size, size_and}
use Rattle.sized_meaning.specs.Worth.{Worth, no_frames, number}
use Rattle.sized_meaning.specs.Shapes.{Meant, Has_shape, Have_shapes, Have_named, Has_datum, Have_data, Named_data}
use Rattle.sized_meaning.specs.Fits.{FlatValues, FlatFields, Fits, All_fit, Named_fit}
use Rattle.sized_meaning.proofs.Ways.{Ways, same_ways, on_array_shape_as, first_shape_as, shape_of_head_as, on_array_datum_as, first_datum_as, every_datum_as, datum_of_head_as, data_as, of_head_as, first_value_as}

-- under these two worths
mutual
  pub data Alike (m m' : Worth) : Size → Size → Type 0 where
    alike_hole : {v : Variable} → Alike m m' (Hole v) (Hole v)
    alike_level : {d e : Dim} {t u : Size} → number m no_frames d ≡ number m' no_frames e → Alike m m' t u → Alike m m' (Level d t) (Level e u)
    alike_built : {h : Head} {ts us : Sizes} → All_alike m m' ts us → Alike m m' (Built h ts) (Built h us)

  pub data All_alike (m m' : Worth) : Sizes → Sizes → Type 0 where
    alike_none : All_alike m m' no_size no_size
    alike_more : {t u : Size} {ts us : Sizes} → Alike m m' t u → All_alike m m' ts us → All_alike m m' (size_and t ts) (size_and u us)

module _ (N : Names) (τ : Meant) (m m' : Worth) where
  mutual
    unfolding Has_shape Have_shapes Have_named

    pub alike_shape : {t u : Size} → Alike m m' t u → (h : Shape) → Ways (Has_shape N τ m no_frames t h) (Has_shape N τ m' no_frames u h)
    alike_shape alike_hole h = same_ways
    alike_shape (alike_level e q) h = on_array_shape_as _ _ (λ n row. let b = alike_shape q row in ((λ x. (x.0 ∙ e, b.0 x.1)), (λ x. (x.0 ∙ sym e, b.1 x.1)))) h
    alike_shape (alike_built {h} {ts} {us} q) x = shape_of_head_as h _ _ _ _ (λ hs. all_alike_shape q hs) (λ n hs. named_alike_shape q n 0 hs) x

    all_alike_shape : {ts us : Sizes} → All_alike m m' ts us → (hs : Shapes) → Ways (Have_shapes N τ m no_frames ts hs) (Have_shapes N τ m' no_frames us hs)
    all_alike_shape alike_none hs = same_ways
    all_alike_shape (alike_more q qs) hs = first_shape_as _ _ _ _ (λ h. alike_shape q h) (λ hs. all_alike_shape qs hs) hs

    named_alike_shape : {ts us : Sizes} → All_alike m m' ts us → (n i : ℕ) (hs : Named_shapes) → Ways (Have_named N τ m no_frames n i ts hs) (Have_named N τ m' no_frames n i us hs)
    named_alike_shape alike_none n i hs = same_ways
    named_alike_shape (alike_more q qs) n i hs = let b = named_alike_shape qs n (suc i) hs in
        ((λ x. ((λ f p. let c = x.0 f p in (c.0, c.1, (alike_shape q c.0).0 c.2)), b.0 x.1)), (λ x. ((λ f p. let c = x.0 f p in (c.0, c.1, (alike_shape q c.0).1 c.2)), b.1 x.1)))

  mutual
    unfolding Has_datum Have_data Named_data

    pub alike_datum : {t u : Size} → Alike m m' t u → (x : Datum) → Ways (Has_datum N τ m no_frames t x) (Has_datum N τ m' no_frames u x)
    alike_datum alike_hole x = same_ways
    alike_datum (alike_level e q) x = on_array_datum_as _ _ (λ row ds. let b = alike_shape q row in let c = every_datum_as _ _ (λ y. alike_datum q y) ds in ((λ z. (z.0 ∙ e, b.0 z.1, c.0 z.2)), (λ z. (z.0 ∙ sym e, b.1 z.1, c.1 z.2)))) x
    alike_datum (alike_built {h} {ts} {us} q) x = datum_of_head_as h _ _ _ _ (λ ds. all_alike_data q ds) (λ n fs. named_alike_data q n 0 fs) x

    all_alike_data : {ts us : Sizes} → All_alike m m' ts us → (ds : Datums) → Ways (Have_data N τ m no_frames ts ds) (Have_data N τ m' no_frames us ds)
    all_alike_data alike_none ds = same_ways
    all_alike_data (alike_more q qs) ds = first_datum_as _ _ _ _ (λ x. alike_datum q x) (λ ds. all_alike_data qs ds) ds

    named_alike_data : {ts us : Sizes} → All_alike m m' ts us → (n i : ℕ) (fs : Named_datums) → Ways (Named_data N τ m no_frames n i ts fs) (Named_data N τ m' no_frames n i us fs)
    named_alike_data alike_none n i fs = same_ways
    named_alike_data (alike_more q qs) n i fs = let b = named_alike_data qs n (suc i) fs in
        ((λ x. ((λ f p. let c = x.0 f p in (c.0, c.1, (alike_datum q c.0).0 c.2)), b.0 x.1)), (λ x. ((λ f p. let c = x.0 f p in (c.0, c.1, (alike_datum q c.0).1 c.2)), b.1 x.1)))

  module _ (Z : Sizing) (is_there : Place → Bool) (calls : FlatValue → FlatValue → Rel FlatValue) where
    mutual
      unfolding Fits All_fit Named_fit

      pub alike_fits : {t u : Size} → Alike m m' t u → (v : FlatValue) → Ways (Fits N τ Z is_there calls m no_frames t v) (Fits N τ Z is_there calls m' no_frames u v)
      alike_fits (alike_hole {v}) w = data_as _ _ (λ x. alike_datum (alike_hole {v = v}) x) w
      alike_fits (alike_level e q) v = data_as _ _ (λ x. alike_datum (alike_level e q) x) v
      alike_fits (alike_built {h} {ts} {us} q) v = of_head_as h _ _ _ _ (λ vs. all_alike_fit q vs) (λ n fs. named_alike_fit q n 0 fs) v

      all_alike_fit : {ts us : Sizes} → All_alike m m' ts us → (vs : FlatValues) → Ways (All_fit N τ Z is_there calls m no_frames ts vs) (All_fit N τ Z is_there calls m' no_frames us vs)
      all_alike_fit alike_none vs = same_ways
      all_alike_fit (alike_more q qs) vs = first_value_as _ _ _ _ (λ v. alike_fits q v) (λ vs. all_alike_fit qs vs) vs

      named_alike_fit : {ts us : Sizes} → All_alike m m' ts us → (n i : ℕ) (fs : FlatFields) → Ways (Named_fit N τ Z is_there calls m no_frames n i ts fs) (Named_fit N τ Z is_there calls m' no_frames n i us fs)
      named_alike_fit alike_none n i fs = same_ways
      named_alike_fit (alike_more q qs) n i fs = let b = named_alike_fit qs n (suc i) fs in
          ((λ x. ((λ f p. let c = x.0 f p in (c.0, c.1, (alike_fits q c.0).0 c.2)), b.0 x.1)), (λ x. ((λ f p. let c = x.0 f p in (c.0, c.1, (alike_fits q c.0).1 c.2)), b.1 x.1)))
