-- A program whose one definition is `iota` gives an array of five rows for 5.
use Rattle.fut_scalar.specs.declared.report.Report.{Report}
use Rattle.fut_scalar.specs.declared.report.FailKind.TheVariants as kind
use Rattle.fut_meaning.specs.Outcomes.{Fail}
use Rattle.std.proofs.Common.{ℕ}
use Rattle.sized_meaning.specs.There.{Term_there}
use Rattle.sized_meaning.specs.There.{There}
use Rattle.std.proofs.Common.{◌≡◌, [], ◌∷◌, true, false, None, refl, ap, ◌∙◌, arith, inl}
use Rattle.fut_scalar.specs.declared.place.Place.{Place}
use Rattle.fut_scalar.specs.declared.scalar.IntType.TheVariants as int
use Rattle.fut_scalar.specs.declared.scalar.Scalar.TheVariants as scalar
use Rattle.fut_scalar.specs.declared.scalar.ScalarType.TheVariants as sort
use Rattle.fut_scalar.specs.declared.place.BindId.{BindId}
use Rattle.fut_flat.specs.declared.prim.Primitive.TheVariants as prim
use Rattle.fut_flat.specs.declared.prim.Ref.TheVariants as ref
use Rattle.fut_flat.specs.Terms.{Use}
use Rattle.fut_types.specs.Types.{Sub}
use Rattle.fut_typing.specs.Names.{Names, AreNames}
use Rattle.fut_value.specs.Data.{Shape, Scalar_shape, Tuple_shape, Record_shape, Array_shape, Unmet_shape, Scalar_datum}
use Rattle.fut_meaning.specs.Datums.{datum_of}
use Rattle.fut_meaning.specs.Flats.{FlatValue, Named_term, Flat_means}
use Rattle.fut_meaning.specs.Meaning.{plain}
use Rattle.fut_meaning.specs.Telling.{value_shape}
use Rattle.fut_meaning.specs.Values.{Scalar_value}
use Rattle.sized_types.specs.Sizes.{Bound, Variable, Size, Hole, Level, Fun, erased}
use Rattle.fut_sizes.specs.Primitives.{prim_size, sized_type}
use Rattle.fut_sizes.specs.ProgramRules.{Program_sized}
use Rattle.fut_sizes.specs.Rules.{Filled_use, filled, all_filled, Each_hole, Each_holes}
use Rattle.fut_sizes.specs.Scopes.{i64_size}
use Rattle.fut_sizes.specs.Suiting.{Each, Each_all, Data, All_data, suits_same}
use Rattle.sized_meaning.specs.Worth.{Worth, no_frames, push}
use Rattle.sized_meaning.specs.Shapes.{exactly, Has_shape, Has_datum}
use Rattle.sized_meaning.specs.Finding.{One_shape_each, Well_formed}
use Rattle.sized_meaning.specs.Fits.{Gives, word}
use Rattle.sized_meaning.specs.Law.{Sound, World, told}
use Rattle.sized_meaning.specs.Programs.{as_defined, Plain_definitions, Data_arguments, Result_shaped, Gives_data}
use Rattle.sized_meaning.proofs.Ways.{gives_as}
use Rattle.sized_meaning.proofs.Given.{programs_give_their_shapes, sized_programs_report_no_other_sizes}

here : Place
here = record { file = 0; line = 1; column = 1 }

abbrev main : BindId
main = record { 0 = 7 }

-- 0 is the name, 1 the use of the primitive
abbrev definition : Named_term
definition = (record { 0 = 7 }, Use (ref.Prim prim.Iota) here 0)

abbrev counts : Size
counts = Fun 0 i64_size (Level (Bound 0 0) i64_size)

abbrev types : Sub
types n = erased (Fun 0 i64_size (Level (Bound 0 0) i64_size))

abbrev world : World
world = record { integer_at = λ n. int.I64; sizing = record { size_at = λ n. Fun 0 i64_size (Level (Bound 0 0) i64_size); home = λ b. 0; fields = λ n. []; is_size = λ b. false; used = λ n. None }; tops = []; tight = false; budget = 0; is_there = λ at. false }

abbrev five : FlatValue
five = Scalar_value (scalar.Int int.I64 5)

counts_formed : Well_formed (λ n. []) (Fun 0 i64_size (Level (Bound 0 0) i64_size))
unfolding Well_formed
counts_formed = ((tt, tt), (tt, tt))

module _ (N : Names) (named : AreNames N) (τ : Variable → Shape) (one : One_shape_each τ) where
  sound : Sound N types world.sizing
  sound = record { names = named; fields = λ n. tt; formed = λ n. counts_formed; typed = λ n. refl }

  used : Filled_use (λ v. true) (prim_size prim.Iota) (Fun 0 i64_size (Level (Bound 0 0) i64_size))
  unfolding Data Each filled all_filled prim_size sized_type
  used = record { types = λ v. Hole v; data_types = λ v. tt; closed = λ v. tt; others = λ v e. refl; used = inl suits_same }

  sized : Program_sized N types world.sizing.size_at world.sizing.home (as_defined definition ∷ [])
  unfolding Each Each_all
  sized = (used, record { type = refl; bound = λ c e. (omega arith, omega arith); away = (tt, (omega arith, tt)) }, tt)

  simple : Plain_definitions N types world (definition ∷ []) 0
  unfolding Each_hole Each_holes
  simple = ((tt, tt), tt, tt)

  arguments : (m : Worth) → Data_arguments N (exactly τ) m no_frames (Fun 0 i64_size (Level (Bound 0 0) i64_size)) (five ∷ [])
  unfolding word Data All_data datum_of Has_datum
  arguments m = ((λ i. 5), refl, tt, record { datum = Scalar_datum (scalar.Int int.I64 5); is_datum = refl; fits = refl }, λ F' e. tt)

  gives_data : Gives_data (Fun 0 i64_size (Level (Bound 0 0) i64_size)) (five ∷ [])
  unfolding Data All_data
  gives_data = tt

  five_rows : (m : Worth) (h : Shape) → Result_shaped N (exactly τ) m no_frames (Fun 0 i64_size (Level (Bound 0 0) i64_size)) (five ∷ []) (arguments m) h → h ≡ Array_shape 5 (Scalar_shape (sort.Int int.I64))
  unfolding arguments Has_shape push
  five_rows m (Array_shape n row) x = ap (λ k. Array_shape k row) ((x.2).0 ∙ x.1 0 (omega arith)) ∙ ap (Array_shape 5) (x.2).1
  five_rows m (Scalar_shape s) x = absurd x.2
  five_rows m (Tuple_shape hs) x = absurd x.2
  five_rows m (Record_shape hs) x = absurd x.2
  five_rows m Unmet_shape x = absurd x.2

  iota_gives_five_rows : Gives (There (λ at. false)) (λ w. value_shape w ≡ Array_shape 5 (Scalar_shape (sort.Int int.I64))) (Flat_means (told world) (plain false) 0 (definition ∷ []) main (five ∷ []))
  unfolding Term_there
  iota_gives_five_rows = gives_as _ (λ w. value_shape w ≡ Array_shape 5 (Scalar_shape (sort.Int int.I64))) _ (programs_give_their_shapes N types τ world (definition ∷ []) main (five ∷ []) sound one sized simple (tt, tt) (λ tops m are. arguments m) gives_data) (λ w x. five_rows x.1 (value_shape w) x.3)

  -- nor does it report a size: no `:>` and no `unflatten` stands in it
  iota_reports_no_size : (r : Report) (words : ℕ) → Flat_means (told world) (plain false) 0 (definition ∷ []) main (five ∷ []) (Fail r) words → r.kind ≡ kind.Size → ⊥
  unfolding Term_there
  iota_reports_no_size r words x e = let z : false ≡ true = sized_programs_report_no_other_sizes N types τ world (definition ∷ []) main (five ∷ []) sound one sized simple (tt, tt) (λ tops m are. arguments m) r words x e in cc
