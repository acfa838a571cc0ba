-- The primitives on arrays with a function: each gives data of the type of its result.
use Rattle.std.proofs.Common.{◌≡◌, ◌∙◌, Bool, true, false, ◌++◌, ℕ, zero, suc, refl, arith, List, [], ◌∷◌, length}
use Rattle.fut_scalar.specs.declared.place.Place.{Place}
use Rattle.fut_scalar.specs.declared.scalar.IntType.TheVariants as int
use Rattle.fut_flat.specs.declared.prim.Primitive.{Primitive}
use Rattle.fut_flat.specs.declared.prim.Primitive.TheVariants as prim
use Rattle.fut_types.specs.declared.Kind.TheVariants as kind
use Rattle.fut_types.specs.Types.{Ty, Tys, none, more, Kinds, HasKind, fun_ty}
use Rattle.fut_typing.specs.Names.{Names, AreNames}
use Rattle.fut_typing.specs.Primitives.{array_ty, bool_ty, i64_ty, pair_ty}
use Rattle.fut_meaning.specs.Found.{Told}
use Rattle.fut_meaning.specs.Outcomes.{Out, Val, and_then}
use Rattle.fut_value.specs.Data.{Shape, Datum, Array_datum, datums}
use Rattle.fut_meaning.specs.Datums.{as_value}
use Rattle.fut_meaning.specs.Arrays.{Rows, array, Counted, fresh, shared}
use Rattle.fut_meaning.specs.Jobs.{Job, Apply_each, Reduce_each, Choose_each, in_place_of, truths, alone, part_at, sifted, prefixes_on, places, numbers_from, job}
use Rattle.fut_meaning.specs.Claims.{HasOut}
use Rattle.fut_meaning.specs.Flats.{FlatTops, FlatMode}
use Rattle.fut_meaning.proofs.Safe.{Every}
use Rattle.type_soundness.specs.Fits.{Fits}
use Rattle.type_soundness.proofs.Binding.{has_then}
use Rattle.type_soundness.proofs.Making.{every_as, Of_counted, has_fresh, Row, Rows_fit, of_rows, row_data, array_made, number_fits}
use Rattle.type_soundness.proofs.Application.{Application, Applies, Jobs_fit}
use Rattle.type_soundness.proofs.Jobs.{Gives_data, on_rows_fits, on_exact_fits, sized_fits, apply_fits, alone_data, rows_applied, mapped_fits, truths_fit, reduce_fits, choose_fits, places_data, places_many, written_fits, in_place_fits}
use Rattle.type_soundness.proofs.DataPrimitives.{tupled_fits}

module _ (N : Names) (are : AreNames N) (T : Told) (M : FlatMode) (budget : ℕ) (total : Bool) (K : Kinds) (tops : FlatTops) where
  abbrev D : Ty → Datum → Type 0
  D t d = Fits N T M budget total t tops (as_value d)

  abbrev On_data : Tys → Ty → Application total → Type 0
  On_data ts u f = Applies N are T M budget total K tops ts u f

  abbrev Gives : Application total → Ty → Job → Type 0
  Gives f u j = Gives_data N are T M budget total K tops f u j

  abbrev Rows_are : Ty → Rows → Type 0
  Rows_are t r = Rows_fit N are T M budget total tops K t r

  abbrev A_row : Ty → Shape → Datum → Type 0
  A_row t row d = Row N are T M budget total tops K t row d

  abbrev Jobs : Primitive → Place → Tys → Ty → Type 1
  Jobs p at ts u = Jobs_fit N are T M budget total K tops p at ts u

  data_of : (t : Ty) (r : Rows) → Rows_are t r → Every (D t) r.1
  data_of t r e = row_data N are T M budget total tops K t r.0 r.1 e

  -- ---- on each row
  pub map_fits : (a b : Ty) → HasKind K kind.Data b → (at : Place) → Jobs prim.Map at (more (fun_ty a b) (more (array_ty a) none)) (array_ty b)
  unfolding job
  map_fits a b k at told f g h = mapped_fits N are T M budget total K tops a none b told f at h.0 [] k (g (more a none) b refl refl k) h.1 tt

  pub map2_fits : (a b c : Ty) → HasKind K kind.Data c → (at : Place) → Jobs prim.Map2 at (more (fun_ty a (fun_ty b c)) (more (array_ty a) (more (array_ty b) none))) (array_ty c)
  unfolding job
  map2_fits a b c k at told f g h = mapped_fits N are T M budget total K tops a (more b none) c told f at h.0 (h.2.0 ∷ []) k (g (more a (more b none)) c refl refl k) h.1 (h.2.1, tt)

  pub map3_fits : (a b c d : Ty) → HasKind K kind.Data d → (at : Place) → Jobs prim.Map3 at (more (fun_ty a (fun_ty b (fun_ty c d))) (more (array_ty a) (more (array_ty b) (more (array_ty c) none)))) (array_ty d)
  unfolding job
  map3_fits a b c d k at told f g h = mapped_fits N are T M budget total K tops a (more b (more c none)) d told f at h.0 (h.2.0 ∷ h.2.2.0 ∷ []) k (g (more a (more b (more c none))) d refl refl k) h.1 (h.2.1, (h.2.2.1, tt))

  pub map4_fits : (a b c d e : Ty) → HasKind K kind.Data e → (at : Place) → Jobs prim.Map4 at (more (fun_ty a (fun_ty b (fun_ty c (fun_ty d e)))) (more (array_ty a) (more (array_ty b) (more (array_ty c) (more (array_ty d) none))))) (array_ty e)
  unfolding job
  map4_fits a b c d e k at told f g h = mapped_fits N are T M budget total K tops a (more b (more c (more d none))) e told f at h.0 (h.2.0 ∷ h.2.2.0 ∷ h.2.2.2.0 ∷ []) k (g (more a (more b (more c (more d none)))) e refl refl k) h.1 (h.2.1, (h.2.2.1, (h.2.2.2.1, tt)))

  pub map5_fits : (a b c d e i : Ty) → HasKind K kind.Data i → (at : Place) → Jobs prim.Map5 at (more (fun_ty a (fun_ty b (fun_ty c (fun_ty d (fun_ty e i))))) (more (array_ty a) (more (array_ty b) (more (array_ty c) (more (array_ty d) (more (array_ty e) none)))))) (array_ty i)
  unfolding job
  map5_fits a b c d e i k at told f g h = mapped_fits N are T M budget total K tops a (more b (more c (more d (more e none)))) i told f at h.0 (h.2.0 ∷ h.2.2.0 ∷ h.2.2.2.0 ∷ h.2.2.2.2.0 ∷ []) k (g (more a (more b (more c (more d (more e none))))) i refl refl k) h.1 (h.2.1, (h.2.2.1, (h.2.2.2.1, (h.2.2.2.2.1, tt))))

  numbers_data : (n i : ℕ) → Every (D i64_ty) (numbers_from n i)
  numbers_data zero i = tt
  numbers_data (suc n) i = (number_fits N are T M budget total tops K int.I64 i, numbers_data n (suc i))

  pub tabulate_fits : (t : Ty) → HasKind K kind.Data t → (at : Place) → Jobs prim.Tabulate at (more i64_ty (more (fun_ty i64_ty t) none)) (array_ty t)
  unfolding job
  tabulate_fits t k at told f g h = on_exact_fits N are T M budget total K tops f (array_ty t) h.0 _ h.1 (λ z. sized_fits N are T M budget total K tops f (array_ty t) at z _ (λ n.
      apply_fits N are T M budget total K tops f t (array_ty t) (alone (numbers_from n 0)) _ (rows_applied N are T M budget total K tops (more i64_ty none) t f (g (more i64_ty none) t refl refl k) (alone (numbers_from n 0)) (alone_data N are T M budget total K tops i64_ty (numbers_from n 0) (numbers_data n 0)))
      (λ es q l. has_then (D (array_ty t)) (Of_counted (D (array_ty t))) (array false at told es) _ (array_made N are T M budget total tops K t k at told es q) (λ e p. p))))

  -- ---- tests
  sifted_rows : (P : Datum → Type 0) (b : Bool) (ds : List Datum) (bs : List Bool) → Every P ds → Every P (sifted b ds bs)
  sifted_rows P b [] bs e = tt
  sifted_rows P true (d ∷ ds) [] e = tt
  sifted_rows P false (d ∷ ds) [] e = tt
  sifted_rows P true (d ∷ ds) (true ∷ bs) e = (e.0, sifted_rows P true ds bs e.1)
  sifted_rows P true (d ∷ ds) (false ∷ bs) e = sifted_rows P true ds bs e.1
  sifted_rows P false (d ∷ ds) (true ∷ bs) e = sifted_rows P false ds bs e.1
  sifted_rows P false (d ∷ ds) (false ∷ bs) e = (e.0, sifted_rows P false ds bs e.1)

  sifted_array : (t : Ty) (b : Bool) (r : Rows) (bs : List Bool) → Rows_are t r → D (array_ty t) (Array_datum r.0 (datums (sifted b r.1 bs)))
  sifted_array t b r bs e = of_rows N are T M budget total tops K t r.0 (sifted b r.1 bs) (sifted_rows (A_row t r.0) b r.1 bs e)

  tested : (t u : Ty) (f : Application total) (g : List Bool → Out Counted) (r : Rows) → On_data (more t none) bool_ty f → Rows_are t r → ((bs : List Bool) → HasOut (Of_counted (D u)) (g bs)) → Gives f u (Apply_each (alone r.1) (truths g))
  tested t u f g r h e go = apply_fits N are T M budget total K tops f bool_ty u (alone r.1) _ (rows_applied N are T M budget total K tops (more t none) bool_ty f h (alone r.1) (alone_data N are T M budget total K tops t r.1 (data_of t r e)))
      (λ es q l. truths_fit N are T M budget total K tops u es g q go)

  pub filter_fits : (t : Ty) → HasKind K kind.Data bool_ty → (at : Place) → Jobs prim.Filter at (more (fun_ty t bool_ty) (more (array_ty t) none)) (array_ty t)
  unfolding job
  filter_fits t k at told f g h = on_rows_fits N are T M budget total K tops f (array_ty t) t h.0 _ h.1 (λ r e. tested t (array_ty t) f _ r (g (more t none) bool_ty refl refl k) e (λ bs. sifted_array t true r bs e))

  pub partition_fits : (t : Ty) → HasKind K kind.Data bool_ty → (at : Place) → Jobs prim.Partition at (more (fun_ty t bool_ty) (more (array_ty t) none)) (pair_ty (array_ty t) (array_ty t))
  unfolding job
  partition_fits t k at told f g h = on_rows_fits N are T M budget total K tops f (pair_ty (array_ty t) (array_ty t)) t h.0 _ h.1 (λ r e. tested t (pair_ty (array_ty t) (array_ty t)) f _ r (g (more t none) bool_ty refl refl k) e (λ bs.
      tupled_fits N are T M budget total K tops (more (array_ty t) (more (array_ty t) none)) (Array_datum r.0 (datums (sifted true r.1 bs)) ∷ Array_datum r.0 (datums (sifted false r.1 bs)) ∷ []) (omega arith) (sifted_array t true r bs e, (sifted_array t false r bs e, tt))))

  -- ---- reductions and writes
  the_first : (t : Ty) (es : List Datum) → Every (D t) es → length es ≡ 1 → HasOut (Of_counted (D t)) (and_then (part_at 0 es) fresh)
  the_first t [] e l = absurd (omega (arith, l))
  the_first t (d ∷ es) e l = e.0

  reduced : (t : Ty) (any : Bool) (f : Application total) (ne : Datum) (r : Rows) → On_data (more t (more t none)) t f → D t ne → Rows_are t r → Gives f t (Reduce_each any ne (r.1 ∷ []) (λ ds. and_then (part_at 0 ds) fresh))
  reduced t any f ne r g n e = reduce_fits N are T M budget total K tops t t any f ne (r.1 ∷ []) _ g n (data_of t r e, tt) (the_first t)

  pub reduce_used : (t : Ty) → HasKind K kind.Data t → (at : Place) → Jobs prim.Reduce at (more (fun_ty t (fun_ty t t)) (more t (more (array_ty t) none))) t
  unfolding job
  reduce_used t k at told f g h = on_rows_fits N are T M budget total K tops f t t h.2.0 _ h.2.1 (λ r e. reduced t false f h.0 r (g (more t (more t none)) t refl refl k) h.1 e)

  pub reduce_comm_used : (t : Ty) → HasKind K kind.Data t → (at : Place) → Jobs prim.ReduceComm at (more (fun_ty t (fun_ty t t)) (more t (more (array_ty t) none))) t
  unfolding job
  reduce_comm_used t k at told f g h = on_rows_fits N are T M budget total K tops f t t h.2.0 _ h.2.1 (λ r e. reduced t true f h.0 r (g (more t (more t none)) t refl refl k) h.1 e)

  one_more : (P : Datum → Type 0) (xs : List Datum) (d : Datum) → Every P xs → P d → Every P (xs ++ d ∷ [])
  one_more P [] d e p = (p, tt)
  one_more P (x ∷ xs) d e p = (e.0, one_more P xs d e.1 p)

  prefixes_are : (P : Datum → Type 0) (done ds : List Datum) → Every P done → Every P ds → Every (Every P) (prefixes_on done ds)
  prefixes_are P done [] e h = tt
  prefixes_are P done (d ∷ ds) e h = (one_more P done d e h.0, prefixes_are P (done ++ d ∷ []) ds (one_more P done d e h.0) h.1)

  pub scan_used : (t : Ty) → HasKind K kind.Data t → (at : Place) → Jobs prim.Scan at (more (fun_ty t (fun_ty t t)) (more t (more (array_ty t) none))) (array_ty t)
  unfolding job
  scan_used t k at told f g h = on_rows_fits N are T M budget total K tops f (array_ty t) t h.2.0 _ h.2.1 (λ r e.
      reduce_fits N are T M budget total K tops t (array_ty t) false f h.0 (prefixes_on [] r.1) _ (g (more t (more t none)) t refl refl k) h.1 (prefixes_are (D t) [] r.1 tt (data_of t r e))
      (λ es q l. has_fresh (D (array_ty t)) _ (array_made N are T M budget total tops K t k at r.0 es q)))

  pub scatter_used : (t : Ty) → HasKind K kind.Data t → (at : Place) → Jobs prim.Scatter at (more (array_ty t) (more (array_ty i64_ty) (more (array_ty t) none))) (array_ty t)
  unfolding job
  scatter_used t k at told f g h = on_rows_fits N are T M budget total K tops f (array_ty t) t h.0 _ h.1 (λ r e.
      written_fits N are T M budget total K tops f (array_ty t) t k at r h.2.0 h.2.2.0 (λ ws. Val (Choose_each ws r.1 (λ ds. shared (Array_datum r.0 (datums ds))))) e h.2.1 h.2.2.1 (λ ws q.
      choose_fits N are T M budget total K tops (A_row t r.0) (array_ty t) f ws r.1 (λ ds. shared (Array_datum r.0 (datums ds))) q e (λ es p l. of_rows N are T M budget total tops K t r.0 es p)))

  pub histogram_used : (t : Ty) → HasKind K kind.Data t → (at : Place) → Jobs prim.ReduceByIndex at (more (array_ty t) (more (fun_ty t (fun_ty t t)) (more t (more (array_ty i64_ty) (more (array_ty t) none))))) (array_ty t)
  unfolding job
  histogram_used t k at told f g h = on_rows_fits N are T M budget total K tops f (array_ty t) t h.0 _ h.1 (λ r e.
      written_fits N are T M budget total K tops f (array_ty t) t k at r h.2.2.0 h.2.2.2.0 (λ ws. Val (Reduce_each true h.2.0 (places (λ v vs. v ∷ vs) 0 r.1 ws) (in_place_of false at r.0))) e h.2.2.1 h.2.2.2.1 (λ ws q.
      reduce_fits N are T M budget total K tops t (array_ty t) true f h.2.0 (places (λ v vs. v ∷ vs) 0 r.1 ws) _ (g (more t (more t none)) t refl refl k) h.2.1
      (places_data N are T M budget total K tops (D t) 0 r.1 ws (data_of t r e) (every_as (λ w. A_row t r.0 w.1) (λ w. D t w.1) ws (λ w p. p.0) q))
      (λ es p l. in_place_fits N are T M budget total K tops t k at r es e p (l ∙ places_many N are T M budget total K tops 0 r.1 ws))))
