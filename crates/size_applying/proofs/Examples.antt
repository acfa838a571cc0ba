-- Applications and compositions, computed.
use Rattle.std.proofs.Common.{◌≡◌, ℕ, Bool, true, false, [], ◌∷◌, Option, Some, None, Ok, Err, refl}
use Rattle.fut_scalar.specs.declared.place.BindId.{BindId}
use Rattle.fut_scalar.specs.declared.place.Place.{Place}
use Rattle.fut_flat.specs.declared.prim.Ref.{Ref}
use Rattle.fut_flat.specs.declared.prim.Ref.TheVariants as ref
use Rattle.fut_flat.specs.Terms.{Bound_pattern, no_pattern, pattern_and, Binding, Use, Lambda, Apply, Let}
use Rattle.fut_flat.specs.Erased.{FlatTerm}
use Rattle.fut_types.specs.declared.Head.{Head}
use Rattle.sized_types.specs.Sizes.{Const, At, Bound, Size, Level, Built, Fun, no_size, is_free, replaced}
use Rattle.fut_sizes.specs.Agreeing.{Answer, Mismatch}
use Rattle.fut_sizes.specs.Applications.{Argument, Early, Met, all_matched, applied, data_met, functions_met}
use Rattle.fut_sizes.specs.Compositions.{composition}
use Rattle.fut_sizes.specs.Levels.{levels_within}
use Rattle.fut_sizes.specs.Matching.{inside, meet, none_opened, nothing_found, read}
use Rattle.fut_sizes.specs.Steps.{State, Done}

-- ---- a function of two arrays of one size, which gives one of that size

module _ (h : Head) (s : State) where
  abbrev array : ℕ → Size
  array c = Level (At (Const c)) (Built h no_size)

  abbrev both : Size
  both = Fun 1 (Level (Bound 0 0) (Built h no_size)) (Fun 0 (Level (Bound 1 0) (Built h no_size)) (Level (Bound 1 0) (Built h no_size)))

  abbrev given : ℕ → ℕ → Argument
  given n c = Early n None false (array c)

  abbrev size_given : Answer (Done Met) → Option Size
  size_given (Ok d) = Some d.result.size
  size_given (Err e) = None

  -- the first array's size is that of the result
  two_arrays : size_given (applied 7 false (given 11 3 ∷ given 12 3 ∷ []) [] none_opened true both [] nothing_found s) ≡ Some (array 3)
  unfolding applied all_matched data_met functions_met inside is_free levels_within meet read replaced
  two_arrays = refl

  -- another size is refused where it stands
  two_sizes : applied 7 false (given 11 3 ∷ given 12 4 ∷ []) [] none_opened true both [] nothing_found s ≡ Err (Mismatch 12 (At (Const 3)) (At (Const 4)))
  unfolding applied all_matched data_met functions_met inside is_free levels_within meet read replaced
  two_sizes = refl

  -- with one array it asks for another of that size
  one_array : size_given (applied 7 false (given 11 3 ∷ []) [] none_opened true both [] nothing_found s) ≡ Some (Fun 0 (array 3) (array 3))
  unfolding applied all_matched data_met functions_met inside is_free levels_within meet read replaced
  one_array = refl

-- ---- compositions: f is 1, g is 2, x is 3

abbrev place : ℕ → Place
place n = record { file = 0; line = 1; column = n }

abbrev bind : ℕ → BindId
bind b = record { 0 = b }

abbrev name : ℕ → ℕ → FlatTerm
name b n = Use (ref.Bound (bind b)) (place n) 0

abbrev named : ℕ → Binding Ref BindId
named b = record { sizes = []; parameters = []; is_function = false; pattern = Bound_pattern (bind b) }

-- let f = .. let g = .. in \x -> this
abbrev composed : FlatTerm → Option Bool
composed e = composition (named 1) (Let (named 2) (name 9 1) (Lambda (pattern_and (Bound_pattern (bind 3)) no_pattern) e))

left_first : composed (Apply (name 2 5) (Apply (name 1 5) (name 3 5))) ≡ Some true
left_first = refl

right_first : composed (Apply (name 1 5) (Apply (name 2 5) (name 3 5))) ≡ Some false
right_first = refl

-- a text that spells it has other places
spelled : composed (Apply (name 2 5) (Apply (name 1 7) (name 3 9))) ≡ None
spelled = refl
