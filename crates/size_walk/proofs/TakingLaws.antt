-- An application takes its arguments, one after another.
use Rattle.std.proofs.Common.{◌≡◌, ℕ, zero, suc, ◌+◌, ◌<◌, Bool, true, false, List, [], ◌∷◌, drop, length, Result, Ok, refl, sym, subst, arith, add-one}
use Rattle.fut_scalar.specs.declared.memory.NoMemory.{NoMemory}
use Rattle.fut_types.specs.Types.{Sub}
use Rattle.fut_typing.specs.Names.{Names}
use Rattle.fut_sizes.specs.Applications.{Met}
use Rattle.fut_sizes.specs.Steps.{Step}
use Rattle.size_arena.specs.declared.agreeing.SizeErr.{SizeErr}
use Rattle.size_program.specs.declared.tables.Tables.{Tables}
use Rattle.size_program.specs.Answers.{Steps}
use Rattle.size_slots.specs.declared.slots.Found.{Found}
use Rattle.size_applying.specs.declared.arguments.Argument as arguments
use Rattle.size_applying.specs.declared.arguments.Wanting as wantings
use Rattle.size_applying.specs.declared.going.Application.{Application}
use Rattle.size_applying.specs.Going.{Is_met}
use Rattle.fut_sizes.specs.Matching as matching
use Rattle.size_applying.proofs.FunctionLaws.{Functions_left}
use Rattle.size_applying.proofs.WayLaws.{Matching, Taking, Taking_again, Under_way, way_again, way_over}
use Rattle.size_walk.specs.Ways.{Taken}

module _ (N : Names) (types : Sub) (n : ℕ) (regular : Bool) (whole : Step Met) (f g : Tables) (a : Application) (before : Found) (m : ℕ) (x : arguments.Argument) (left rest : List arguments.Argument) (split : left ≡ x ∷ rest) (at : m ≡ n + length rest) (way : Under_way N types n regular whole f g a before left)
    (b : Application) (after : Found) (k : Result Bool NoMemory) (no : k ≡ Ok false) (taking : Taking N types n regular m x a before b after k) (met : Found) (h : Tables) (all : Matching N types n regular b.wantings after g met h (Ok tt)) where
  -- with what is read, it is behind the argument, or over
  pub taken_again : (new : Application) (last : Found) (z : Bool) → Taking_again N types n regular m x b met new last (Ok z) → Taken N types n regular whole f rest new last h (Ok z)
  taken_again new last true again = way_again N types n regular whole f g a before m x left rest split at way b after k no taking met h (Ok tt) all refl new last (Ok true) again refl
  taken_again new last false again = way_over N types n regular whole f g a before m x left rest split at way b after k no taking met h (Ok tt) all refl new last (Ok false) again refl

-- what is matched is what the application wants
pub as_wanted : (N : Names) (types : Sub) (n : ℕ) (regular : Bool) (xs ys : List wantings.Wanting) (before after : Found) (g h : Tables) (r : Result (Unit {0}) SizeErr) → xs ≡ ys → Matching N types n regular xs before g after h r → Matching N types n regular ys before g after h r
as_wanted N types n regular xs ys before after g h r same m = subst (λ z. Matching N types n regular z before g after h r) same m

-- so many are behind a place
pub left_behind : {A : Type 0} (xs : List A) (i left : ℕ) → i < length xs → left + i ≡ length xs → (less : ℕ) → left ≡ suc less → less ≡ length (drop (suc i) xs)
left_behind [] i left l all less one = absurd (omega (arith, l))
left_behind (x ∷ xs) zero left l all less one = omega (arith, all, one)
left_behind (x ∷ xs) (suc i) left l all less one = left_behind xs i left (omega (arith, l)) (omega (arith, all)) less one

pub next_functions : (N : Names) (types : Sub) (regular : Bool) (whole : Step matching.Found) (f g : Tables) (table : Found) (cs : List wantings.Wanting) (i : ℕ) → Functions_left N types regular whole f g table (drop (suc i) cs) → Functions_left N types regular whole f g table (drop (i + 1) cs)
next_functions N types regular whole f g table cs i so_far = subst (λ j. Functions_left N types regular whole f g table (drop j cs)) (sym (add-one i)) so_far

pub next_way : (N : Names) (types : Sub) (n : ℕ) (regular : Bool) (whole : Step Met) (f g : Tables) (a : Application) (table : Found) (xs : List arguments.Argument) (i : ℕ) → Under_way N types n regular whole f g a table (drop (suc i) xs) → Under_way N types n regular whole f g a table (drop (i + 1) xs)
next_way N types n regular whole f g a table xs i so_far = subst (λ j. Under_way N types n regular whole f g a table (drop j xs)) (sym (add-one i)) so_far

-- what a turn of the loop leads to
pub taken_on : (N : Names) (types : Sub) (n : ℕ) (regular : Bool) (whole : Step Met) (f : Tables) (rest : List arguments.Argument) (a : Application) (table : Found) (g : Tables) (z : Bool) → z ≡ true → Taken N types n regular whole f rest a table g (Ok z) → Under_way N types n regular whole f g a table rest
taken_on N types n regular whole f rest a table g true is taken = taken
taken_on N types n regular whole f rest a table g false is taken = cc

pub taken_over : (N : Names) (types : Sub) (n : ℕ) (regular : Bool) (whole : Step Met) (f : Tables) (rest : List arguments.Argument) (a : Application) (table : Found) (g : Tables) (z : Bool) → z ≡ false → Taken N types n regular whole f rest a table g (Ok z) → Steps (Is_met table) whole f g (Ok a)
taken_over N types n regular whole f rest a table g true is taken = cc
taken_over N types n regular whole f rest a table g false is taken = taken
