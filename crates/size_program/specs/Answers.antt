-- What a step of sizing gives, and what the tables hold behind it.
use Rattle.std.specs.Prelude.{◌≡◌, Result, Ok, Err}
use Rattle.fut_typing.specs.Names.{Names}
use Rattle.fut_sizes.specs.Agreeing.{Answer}
use Rattle.fut_sizes.specs.Scopes.{Scope}
use Rattle.fut_sizes.specs.Steps.{State, Done, Step}
use Rattle.alias_parts.specs.Known.{Knows}
use Rattle.size_arena.specs.declared.agreeing.Refusal.{Refusal}
use Rattle.size_arena.specs.declared.agreeing.SizeErr.{SizeErr}
use Rattle.size_arena.specs.declared.agreeing.SizeErr.TheVariants as size_err
use Rattle.size_arena.specs.Answers.{refusal_of}
use Rattle.size_program.specs.declared.maps.NumberMap.{NumberMap}
use Rattle.size_program.specs.declared.program.Program.{Program}
use Rattle.size_program.specs.declared.tables.Tables.{Tables}
use Rattle.size_program.specs.Tables.{In_scope, Stands}

-- ---- an answer of the definition, which keeps no state: code's result stands in a relation to it, or it is the refusal, or
-- memory ran out

pub data Answers {A B : Type 0} (related : B → A → Type 0) (a : Answer A) : Result B SizeErr → Type 0 where
  answers : {x : B} {y : A} → a ≡ Ok y → related x y → Answers related a (Ok x)
  refuses : {e : Refusal} → a ≡ Err (refusal_of e) → Answers related a (Err (size_err.Refused e))
  no_memory : Answers related a (Err size_err.Memory)

-- ---- one of a step, where the tables stand for the state behind it

pub data Runs {A B : Type 0} (related : B → A → Type 0) (a : Answer (Done A)) (new : Tables) : Result B SizeErr → Type 0 where
  runs : {x : B} {y : A} (s : State) → a ≡ Ok (record { result = y; state = s }) → related x y → Stands new s → Runs related a new (Ok x)
  refused : {e : Refusal} → a ≡ Err (refusal_of e) → Runs related a new (Err (size_err.Refused e))
  no_memory_left : Runs related a new (Err size_err.Memory)

-- a step, from tables that stand for a state
pub record Steps {A B : Type 0} (related : B → A → Type 0) (step : Step A) (old new : Tables) (r : Result B SizeErr) : Type 0 where
  pub steps : (s : State) → Stands old s → Runs related (step s) new r

-- a step in a scope, whatever numbers names and records have
abbrev pub Going : Type 0 → Type 0
Going A = Names → Scope → Step A

pub record Takes {A B : Type 0} (related : Names → B → A → Type 0) (program : Program) (names : NumberMap) (go : Going A) (old new : Tables) (r : Result B SizeErr) : Type 0 where
  pub takes : (N : Names) (scope : Scope) → Knows program.names N → In_scope names scope → Steps (related N) (go N scope) old new r
