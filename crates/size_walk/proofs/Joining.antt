-- The last step of several.
use Rattle.std.proofs.Common.{◌≡◌, Result, Ok, Err, refl, subst}
use Rattle.fut_sizes.specs.Agreeing.{Answer}
use Rattle.fut_sizes.specs.Steps.{Done, Step, give, and_then}
use Rattle.size_arena.specs.declared.agreeing.SizeErr.{SizeErr}
use Rattle.size_arena.specs.declared.agreeing.SizeErr.TheVariants as size_err
use Rattle.size_program.specs.declared.tables.Tables.{Tables}
use Rattle.size_program.specs.Answers.{Runs, runs, refused, no_memory_left, Steps}
use Rattle.size_program.proofs.StepLaws.{err_in, given, steps_then, weaker}

module _ {A B D : Type 0} (R : B → A → Type 0) (Q : D → A → Type 0) (step : Step A) (f g : Tables) where
  -- code has something else of what it gives
  pub retold : (x : B) (y : D) → ((a : A) → R x a → Q y a) → Steps R step f g (Ok x) → Steps Q step f g (Ok y)
  retold x y h first = weaker R Q step f g (Ok x) x y refl h first

  -- its refusal is that of all
  pub halted : (x : SizeErr) (h : Tables) → Steps R step f g (Err x) → Steps Q step f h (Err x)
  halted x h first = record { steps = λ s stands. by_first (first.steps s stands) refl }
    where
      other : (y : SizeErr) → err_in B SizeErr y ≡ Err x → err_in D SizeErr y ≡ Err x
      other y e = cc

      by_first : {a : Answer (Done A)} {k : Result B SizeErr} → Runs R a g k → k ≡ Err x → Runs Q a h (Err x)
      by_first (runs s p r there) is = cc
      by_first {a = a} (refused {e = y} p) is = subst (λ z. Runs Q a h z) (other (size_err.Refused y) is) (refused p)
      by_first {a = a} no_memory_left is = subst (λ z. Runs Q a h z) (other size_err.Memory is) no_memory_left

-- what a step gives, in another form
module _ {A B C D : Type 0} (R : B → A → Type 0) (Q : D → C → Type 0) (step : Step A) (form : A → C) (f g : Tables) where
  pub reformed : (x : B) (y : D) → ((a : A) → R x a → Q y (form a)) → Steps R step f g (Ok x) → Steps Q (and_then step (λ a. give (form a))) f g (Ok y)
  reformed x y h first = steps_then R Q step (λ a. give (form a)) f g g (Ok x) x (Ok y) refl first (λ a r. given Q y (form a) g (h a r))
