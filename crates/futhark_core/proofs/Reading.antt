-- What a text reads as is of the types that are asked for.
use Rattle.std.proofs.Common.{◌≡◌, ℕ, List, [], ◌∷◌, map, refl, ap, ◌∙◌}
use Rattle.std.specs.Prelude.{Result, Ok, Err}
use Rattle.fut_scalar.specs.declared.sizes.ArgType.{ArgType}
use Rattle.fut_scalar.specs.declared.sizes.DataType.{DataType}
use Rattle.fut_value.specs.Values.{datum_of, datum_with}
use Rattle.fut_value.specs.declared.value.Value.{Value}
use Rattle.value_text.specs.Arguments.{Reads, in_agreement, values_on}
use Rattle.value_text.specs.Gives.{HaveTypes}
use Rattle.value_text.specs.declared.reading.TextErr.{TextErr}
use Rattle.value_text.specs.Arrays.{and_then}
use Rattle.value_text.specs.Sizes.{Known, values_for}
use Rattle.value_text.proofs.Formed.{are_read}
use Rattle.entry_sizes.specs.Wanted.{Are_wanted}
use Rattle.unfolded_runs.specs.Results.{Are_arguments}

-- values that were wanted for parameters of these types are arguments of them
pub are_arguments : (types : List DataType) (wanted : List ArgType) (values : List Value) → Are_wanted types wanted → HaveTypes wanted values → Are_arguments types (map datum_of values)
are_arguments [] [] [] w h = tt
are_arguments [] [] (v ∷ vs) w h = absurd h
are_arguments [] (a ∷ more) vs w h = absurd w
are_arguments (t ∷ ts) [] vs w h = absurd w
are_arguments (t ∷ ts) (a ∷ more) [] w h = absurd h
are_arguments (t ∷ ts) (a ∷ more) (v ∷ vs) w h =
    (record { sizes = v.shape.sizes; words = v.words; rank = h.1 ∙ w.0.1; is = ap (λ e. datum_with e v.shape.sizes v.words) (h.0 ∙ w.0.0) }, are_arguments ts more vs w.1 h.2)

module _ (wanted : List ArgType) (bytes : List ℕ) (values : List Value) where
  same_values : (vs : List Value) (r : Result (List Value) TextErr) → r ≡ Ok vs → r ≡ Ok values → vs ≡ values
  same_values vs r e f = cc

  agreed : (vs : List Value) (r : Result Known TextErr) → in_agreement wanted vs r ≡ Ok values → vs ≡ values
  agreed vs (Ok known) e = same_values vs _ refl e
  agreed vs (Err err) e = absurd cc

  read_on : (r : Result (List Value) TextErr) → values_on wanted 1 0 bytes ≡ r → and_then r (λ vs. in_agreement wanted vs (values_for 1 wanted vs [])) ≡ Ok values → values_on wanted 1 0 bytes ≡ Ok values
  read_on (Ok vs) is e = is ∙ ap Ok (agreed vs (values_for 1 wanted vs []) e)
  read_on (Err err) is e = absurd cc

pub types_of_reading : (types : List DataType) (wanted : List ArgType) → Are_wanted types wanted → (bytes : List ℕ) (values : List Value) → Reads wanted bytes values → Are_arguments types (map datum_of values)
types_of_reading types wanted are bytes values reads = are_arguments types wanted values are (are_read wanted 1 0 bytes values (read_on wanted bytes values (values_on wanted 1 0 bytes) refl reads)).typed
