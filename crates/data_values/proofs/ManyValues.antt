-- Values and data, one behind another.
use Rattle.std.proofs.Common.{◌≡◌, ℕ, ◌+◌, ◌<◌, ◌≤◌, List, [], ◌∷◌, ◌++◌, map, length, drop, get_or, All, append_assoc, sym, ap, ◌∙◌, subst, arith}
use Rattle.std.proofs.lemmas.List.{append-nil, drop_more, map-append}
use Rattle.std.proofs.lemmas.List.Elements.{All-append, All-cons, All-nil}
use Rattle.fut_scalar.specs.declared.sizes.DataType.{DataType}
use Rattle.fut_value.specs.Data.{Datum}
use Rattle.fut_value.specs.Values.{IsWellFormed, datum_of}
use Rattle.fut_value.specs.declared.value.Value.{Value}
use Rattle.array_data.specs.declared.data.Data.{Data}
use Rattle.array_data.specs.Held.{held, held_all}
use Rattle.data_values.specs.Met.{each_met, met}

pub none_held : (all : List Data) → all ≡ [] → held_all all ≡ []
unfolding held_all
none_held all e = ap (map held) e

pub one_more_held : (all all' : List Data) (d : Data) (values : List Value) (v : Value) → all' ≡ all ++ d ∷ [] → held d ≡ datum_of v → held_all all ≡ map datum_of values → held_all all' ≡ map datum_of (values ++ v ∷ [])
unfolding held_all
one_more_held all all' d values v b is e = ap (map held) b ∙ map-append held all (d ∷ []) ∙ ap (λ z. z ++ held d ∷ []) e ∙ ap (λ z. map datum_of values ++ z ∷ []) is ∙ sym (map-append datum_of values (v ∷ []))

-- no component is left
pub none_met : (types : List DataType) (rest : List Data) (values : List Value) (all : List Datum) → length rest < 1 → map datum_of values ++ each_met types (held_all rest) ≡ all → map datum_of values ≡ all
unfolding held_all
none_met types (d ∷ ds) values all l e = absurd (omega (arith, l))
none_met [] [] values all l e = sym (append-nil (map datum_of values)) ∙ e
none_met (t ∷ ts) [] values all l e = sym (append-nil (map datum_of values)) ∙ e

pub one_more_met : (types : List DataType) (i : ℕ) (t : DataType) (rest others : List Data) (whole : Data) (values values' : List Value) (v : Value) (all : List Datum) → i < length types → 1 ≤ length rest → whole ≡ get_or rest 0 whole → others ≡ drop 1 rest → datum_of v ≡ met (get_or types i t).elem (get_or types i t).rank (held whole) → values' ≡ values ++ v ∷ [] → map datum_of values ++ each_met (drop i types) (held_all rest) ≡ all → map datum_of values' ++ each_met (drop (i + 1) types) (held_all others) ≡ all
unfolding held_all
one_more_met types i t [] others whole values values' v all l m first behind is b e = absurd (omega (arith, m))
one_more_met types i t (d ∷ ds) others whole values values' v all l m first behind is b e =
    let later = each_met (drop (i + 1) types) (map held ds) in
    ap (λ z. map datum_of values' ++ each_met (drop (i + 1) types) (map held z)) behind ∙ ap (λ z. map datum_of z ++ later) b ∙ ap (λ z. z ++ later) (map-append datum_of values (v ∷ [])) ∙ append_assoc (map datum_of values) (datum_of v ∷ []) later ∙ ap (λ z. map datum_of values ++ z ∷ later) (is ∙ ap (λ z. met (get_or types i t).elem (get_or types i t).rank (held z)) first) ∙ ap (λ z. map datum_of values ++ each_met z (map held (d ∷ ds))) (sym (drop_more types i t l)) ∙ e

pub one_more_formed : (values values' : List Value) (v : Value) → values' ≡ values ++ v ∷ [] → All IsWellFormed values → IsWellFormed v → All IsWellFormed values'
one_more_formed values values' v b fs f = subst (All IsWellFormed) (sym b) (All-append IsWellFormed values (v ∷ []) fs (All-cons IsWellFormed v [] f (All-nil IsWellFormed)))
