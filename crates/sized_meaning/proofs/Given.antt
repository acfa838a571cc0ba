-- Programs on arguments that are data: the shapes of what they give, and where they report sizes.
use Rattle.fut_meaning.specs.Outcomes.{Fail}
use Rattle.std.proofs.Common.{List, [], ◌∷◌}
use Rattle.fut_typing.specs.Names.{Names}
use Rattle.fut_meaning.specs.Flats.{FlatValue}
use Rattle.fut_meaning.specs.Telling.{value_shape}
use Rattle.sized_types.specs.Sizes.{Size, Hole, Open, Level, Built, Fun}
use Rattle.sized_meaning.specs.Worth.{Worth, Frames, no_frames}
use Rattle.sized_meaning.specs.Worth.{push}
use Rattle.sized_meaning.specs.Shapes.{Meant, exactly}
use Rattle.sized_meaning.specs.Law.{World, calls}
use Rattle.sized_meaning.specs.Programs.{at_tops, Arguments_fit, Result_fits, Data_arguments, Result_shaped, Gives_data, ProgramsGiveTheirShapes, SizedProgramsReportNoOtherSizes}
use Rattle.sized_meaning.proofs.Ways.{gives_as}
use Rattle.sized_meaning.proofs.Datas.{datum_fits}
use Rattle.sized_meaning.proofs.Entered.{value_shaped}
use Rattle.sized_meaning.proofs.Programs.{programs_have_their_sizes}

module _ (N : Names) (τ : Meant) (W : World) (m : Worth) where
  data_fit : (φ : Frames) (t : Size) (vs : List FlatValue) → Data_arguments N τ m φ t vs → Arguments_fit N τ W m φ t vs
  data_fit φ t [] a = tt
  data_fit φ (Fun k p r) (v ∷ vs) a = (a.0, a.1, datum_fits N τ W.sizing W.is_there (calls W) m (push a.0 φ) p a.2 v (a.3).datum (a.3).is_datum (a.3).fits, λ F' e. data_fit (push F' φ) r vs (a.4 F' e))
  data_fit φ (Hole b) (v ∷ vs) a = absurd a
  data_fit φ (Open n b u) (v ∷ vs) a = absurd a
  data_fit φ (Level d t) (v ∷ vs) a = absurd a
  data_fit φ (Built h ts) (v ∷ vs) a = absurd a

  result_shaped : (φ : Frames) (t : Size) (vs : List FlatValue) (a : Data_arguments N τ m φ t vs) (w : FlatValue) → Gives_data t vs → Result_fits N τ W m φ t vs (data_fit φ t vs a) w → Result_shaped N τ m φ t vs a (value_shape w)
  unfolding data_fit
  result_shaped φ t [] a w d x = value_shaped N τ W.sizing W.is_there (calls W) m φ t d w x
  result_shaped φ (Fun k p r) (v ∷ vs) a w d x = (x.0, x.1, result_shaped (push x.0 φ) r vs (a.4 x.0 x.1) w d x.2)
  result_shaped φ (Hole b) (v ∷ vs) a w d x = absurd d
  result_shaped φ (Open n b u) (v ∷ vs) a w d x = absurd d
  result_shaped φ (Level e t) (v ∷ vs) a w d x = absurd d
  result_shaped φ (Built h ts) (v ∷ vs) a w d x = absurd d

pub programs_give_their_shapes : ProgramsGiveTheirShapes
programs_give_their_shapes N types τ W ds entry arguments S one sized simple there fit gives_data =
    gives_as _ _ _ (programs_have_their_sizes N types τ W ds entry arguments S one sized simple there (λ tops m are. data_fit N (exactly τ) (at_tops W tops) m no_frames (W.sizing.size_at (W.sizing.home entry.0)) arguments (fit tops m are)))
    (λ w x. (x.0, x.1, x.2, result_shaped N (exactly τ) (at_tops W x.0) x.1 no_frames (W.sizing.size_at (W.sizing.home entry.0)) arguments (fit x.0 x.1 x.2) w gives_data x.3))

pub sized_programs_report_no_other_sizes : SizedProgramsReportNoOtherSizes
sized_programs_report_no_other_sizes N types τ W ds entry arguments S one sized simple there fit r words x =
    programs_have_their_sizes N types τ W ds entry arguments S one sized simple there (λ tops m are. data_fit N (exactly τ) (at_tops W tops) m no_frames (W.sizing.size_at (W.sizing.home entry.0)) arguments (fit tops m are)) (Fail r) words x
