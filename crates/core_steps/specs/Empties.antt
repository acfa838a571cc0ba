-- What the calls that make arrays of no rows answer, whatever names stand.
use Rattle.std.specs.Prelude.{◌≡◌, ℕ, suc, List, [], ◌∷◌, ◌++◌, length, Result, Ok, Err, false}
use Rattle.fut_scalar.specs.declared.place.Place.{Place}
use Rattle.fut_meaning.specs.Accessors.{count_of}
use Rattle.fut_meaning.specs.Outcomes.{Out, Val, and_then}
use Rattle.fut_meaning.specs.Sames.{All_same}
use Rattle.core_arrays.specs.Arenas.{Array}
use Rattle.core_ir.specs.declared.block.Atom.{Atom}
use Rattle.core_ir.specs.Arrays.{exact_in, told_sizes}
use Rattle.core_ir.specs.Bundles.{Many}
use Rattle.core_ir.specs.Meaning.{Env, value_of, values_of, collected}
use Rattle.core_ir.specs.Typed.{Sort, Sorts, Integer, Integers, Told, Bundled, Atom_is, Atoms_are, Groups_are}
use Rattle.core_code.specs.Registers.{State, Shows, Stands}
use Rattle.core_code.specs.Answers.{Answer}
use Rattle.core_code.specs.declared.stop.Stop.{Stop}
use Rattle.core_code.specs.declared.stop.Stop.TheVariants.{Memory}
use Rattle.core_steps.specs.Gluing.{Made, GluedTold}

-- the size that an operand tells, and those of several
abbrev pub size_told : Env → Atom → Out ℕ
size_told env u = and_then (value_of env u) (λ c. and_then (exact_in c) (λ z. Val (count_of z)))

abbrev pub told_of : Env → List Atom → Out (List ℕ)
told_of env us = and_then (values_of env us) told_sizes

pub data SizeTold (o : Out ℕ) : Result ℕ Stop → Type 0 where
  told_size : {n : ℕ} → o ≡ Val n → SizeTold o (Ok n)
  no_size : SizeTold o (Err Memory)

unfoldable pub Size_read : List ℕ → Atom → Result ℕ Stop → Type 0
Size_read t u r = (G : Sorts) (env : Env) (n : ℕ) (rs : List Array) (s : Sort) → Stands G env n rs t → Integer s → Atom_is G u s → SizeTold (size_told env u) r

-- so many sizes behind others
pub data SizesPut (o : Out (List ℕ)) (many : ℕ) (ds ds' : List ℕ) : Answer → Type 0 where
  sizes_put : (es : List ℕ) → o ≡ Val es → length es ≡ many → ds' ≡ ds ++ es → SizesPut o many ds ds' (Ok tt)
  no_sizes_put : SizesPut o many ds ds' (Err Memory)

unfoldable pub Sizes_put : List ℕ → List Atom → List ℕ → List ℕ → Answer → Type 0
Sizes_put t us ds ds' r = (G : Sorts) (env : Env) (n : ℕ) (rs : List Array) (ss : List Sort) → Stands G env n rs t → Atoms_are G us ss → Integers ss → SizesPut (told_of env us) (length ss) ds ds' r

-- an array of no rows, of these sizes
pub data EmptyPushed (o : Out (List ℕ)) (s : Sort) (S S' : State) : Answer → Type 0 where
  empty_pushed : (ds : List ℕ) (w : ℕ) → o ≡ Val ds → Shows S'.arena.arrays (s.0, suc s.1) (Many (0 ∷ ds) []) w → S'.stack ≡ S.stack ++ w ∷ [] → Made S.arena S'.arena 0 → EmptyPushed o s S S' (Ok tt)
  no_empty : EmptyPushed o s S S' (Err Memory)

unfoldable pub Empty_pushed : List Atom → State → State → Answer → Type 0
Empty_pushed us S S' r = (G : Sorts) (env : Env) (n : ℕ) (ss : List Sort) (s : Sort) → Stands G env n S.arena.arrays S.words → Atoms_are G us ss → Told ss s → EmptyPushed (told_of env us) s S S' r

-- the bundle of no rows
unfoldable pub None_told : List (List Atom) → Place → State → State → Answer → Type 0
None_told uss at S S' r =
    (G : Sorts) (env : Env) (n : ℕ) (sss : List (List Sort)) (row out : List Sort) → Stands G env n S.arena.arrays S.words → Groups_are G uss sss → All_same Told sss row → Bundled row out → GluedTold (collected false at env uss []) out S.stack S S' r
