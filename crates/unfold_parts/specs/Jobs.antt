-- What the calls for primitives on arrays answer.
use Rattle.std.specs.Prelude.{◌≡◌, ℕ, suc, ◌++◌, List, [], ◌∷◌, map, length, Result, Ok, Err, Option, Some}
use Rattle.std.specs.Borrow.{Bor}
use Rattle.fut_scalar.specs.declared.place.Place.{Place}
use Rattle.fut_flat.specs.declared.prim.Primitive.{Primitive}
use Rattle.fut_meaning.specs.Datums.{takes}
use Rattle.fut_meaning.specs.Operations.{parameters_of}
use Rattle.fut_blocks.specs.declared.block.Atom.{Atom}
use Rattle.fut_blocks.specs.Rows.{Row}
use Rattle.fut_blocks.specs.Plain.{Job as Job_action, lets}
use Rattle.unfold.specs.Held.{known_of}
use Rattle.unfold.specs.Knowns.{Known}
use Rattle.unfold.specs.Stuck.{No_arguments, the_function}
use Rattle.unfold.specs.Unfolding.{Bindings, Packs, Packs_all, data_known, step, named}
use Rattle.unfold.specs.declared.known.Known.{Known as Held_known}
use Rattle.unfold_parts.specs.Answers.{Answered, Are_named}
use Rattle.unfold_parts.specs.Refused.{Refused, Not_packed}
use Rattle.fut_meaning.specs.Found.{Sizing}
use Rattle.told_rows.specs.Tables.{Told_by}
use Rattle.unfold.specs.Telling.{function_row}
use Rattle.unfold_parts.specs.Told.{Held_sizes}
use Rattle.unfold_parts.specs.declared.jobs.Job.{Job}
use Rattle.unfold_parts.specs.declared.refusal.Refusal.{Refusal}

-- of arguments those that are data
pub data Data_to (ks : List ℕ) (ss : List Known) : Result (Bor (List Held_known)) Refusal → Type 0 where
  data_to : {us : Bor (List Held_known)} → data_known ks ss ≡ Some (map known_of us.now) → Data_to ks ss (Ok us)
  no_data_to : {r : Refusal} → Refused ((us : List Known) → data_known ks ss ≡ Some us → ⊥) r → Data_to ks ss (Err r)

-- what the function of a primitive with these data gives
abbrev pub Function_row : Held_sizes → Primitive → Known → List Atom → Row → Type 0
Function_row S p f us row = (Z : Option Sizing) → Told_by S Z → row ≡ function_row Z p f us

-- the data of a primitive as components, its function, and names for the arguments of that
pub record Begins (p : Primitive) (ss : List Known) (n : ℕ) (bs : Bindings) (j : Job) (next : ℕ) : Type 0 where
  pub arguments : List Known
  pub are_data : data_known (parameters_of p) ss ≡ Some arguments
  pub packed : ℕ
  pub packs : Packs_all arguments n bs j.atoms.now packed
  pub named : Are_named (takes (parameters_of p)) packed j.params.now (map known_of j.arguments.now) next
  pub function : known_of j.function ≡ the_function p ss

abbrev pub Begun_to : Primitive → List Known → ℕ → Bindings → Bindings → ℕ → Result Job Refusal → Type 0
Begun_to p ss n = Answered (Begins p ss n) (No_arguments p ss)

-- the steps behind the first ones give the result of the function, and those that pack it stand behind them
pub data Ended_to (S : Held_sizes) (mark : ℕ) (p : Primitive) (at : Place) (f : Known) (ws : List Atom) (xs : List ℕ) (r : Known) (n : ℕ) (before after : Bindings) (next : ℕ) : Result Held_known Refusal → Type 0 where
  ended_to : {row : Row} {s : Held_known} {m : ℕ} {ds : Bindings} {w : Atom} → Function_row S p f ws row → Packs r n ds w m → ((outside inside : Bindings) → length outside ≡ mark → before ≡ outside ++ inside → after ≡ outside ++ step (m ∷ []) (Job_action row p at ws xs (lets (inside ++ ds) (w ∷ [])))) → known_of s ≡ named m → next ≡ suc m → Ended_to S mark p at f ws xs r n before after next (Ok s)
  not_ended : {x : Refusal} → Refused (Not_packed r) x → Ended_to S mark p at f ws xs r n before after next (Err x)
