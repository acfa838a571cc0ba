-- Steps in a scope, one after another.
use Rattle.std.proofs.Common.{◌≡◌, Result, Ok, Err, refl}
use Rattle.fut_typing.specs.Names.{Names}
use Rattle.fut_sizes.specs.Agreeing.{Answer, then_do}
use Rattle.fut_sizes.specs.Scopes.{Scope}
use Rattle.fut_sizes.specs.Steps.{State, Done, Step, and_then}
use Rattle.alias_parts.specs.Known.{Knows}
use Rattle.size_arena.specs.declared.agreeing.SizeErr.{SizeErr}
use Rattle.size_arena.specs.declared.agreeing.SizeErr.TheVariants as size_err
use Rattle.size_program.specs.declared.maps.NumberMap.{NumberMap}
use Rattle.size_program.specs.declared.program.Program.{Program}
use Rattle.size_program.specs.declared.tables.Tables.{Tables}
use Rattle.size_program.specs.Tables.{In_scope}
use Rattle.size_program.specs.Answers.{Answers, no_memory, Steps, Going, Takes}
use Rattle.size_program.proofs.StepLaws.{regrouped, steps_then, steps_stop, same_step, out_of_memory}

-- what follows does the same
pub then_same : {A B : Type 0} (m : Step A) (f g : A → Step B) → ((a : A) (s : State) → f a s ≡ g a s) → (s : State) → and_then m f s ≡ and_then m g s
then_same {A = A} m f g h s = by_answer (m s)
  where
    by_answer : (a : Answer (Done A)) → then_do a (λ d. f d.result d.state) ≡ then_do a (λ d. g d.result d.state)
    by_answer (Ok d) = h d.result d.state
    by_answer (Err e) = refl

module _ {A B : Type 0} (R : Names → B → A → Type 0) (p : Program) (names : NumberMap) where
  -- another step that does the same
  pub same_takes : (m n : Going A) (f g : Tables) (r : Result B SizeErr) → ((N : Names) (scope : Scope) (s : State) → m N scope s ≡ n N scope s) → Takes R p names m f g r → Takes R p names n f g r
  same_takes m n f g r h first = record { takes = λ N scope knows within. same_step (R N) (m N scope) (n N scope) f g r (h N scope) (first.takes N scope knows within) }

  pub memory : (m : Going A) (f g : Tables) → Takes R p names m f g (Err size_err.Memory)
  memory m f g = record { takes = λ N scope knows within. out_of_memory (R N) (m N scope) f g }

-- one in a scope, then what follows
module _ {A B C D : Type 0} (R : Names → B → A → Type 0) (Q : Names → D → C → Type 0) (p : Program) (names : NumberMap) (m : Going A) (next : Names → Scope → A → Step C) (f g h : Tables) where
  pub takes_then : (k : Result B SizeErr) (x : B) (r : Result D SizeErr) → k ≡ Ok x → Takes R p names m f g k
      → ((N : Names) (scope : Scope) → Knows p.names N → In_scope names scope → (y : A) → R N x y → Steps (Q N) (next N scope y) g h r) → Takes Q p names (λ N scope. and_then (m N scope) (next N scope)) f h r
  takes_then k x r is first rest = record { takes = λ N scope knows within. steps_then (R N) (Q N) (m N scope) (next N scope) f g h k x r is (first.takes N scope knows within) (rest N scope knows within) }

  pub takes_stop : (k : Result B SizeErr) (x : SizeErr) → k ≡ Err x → Takes R p names m f g k → Takes Q p names (λ N scope. and_then (m N scope) (next N scope)) f h (Err x)
  takes_stop k x is first = record { takes = λ N scope knows within. steps_stop (R N) (Q N) (m N scope) (next N scope) f g h k x is (first.takes N scope knows within) }

pub answer_memory : {A B : Type 0} (R : B → A → Type 0) (a : Answer A) → Answers R a (Err size_err.Memory)
answer_memory R a = no_memory

pub ruleset memories = (memory, answer_memory, out_of_memory)
