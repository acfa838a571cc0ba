-- Walks that end for want of memory, and the walk of a loop by its parts.
use Rattle.std.proofs.Common.{◌≡◌, ℕ, Err, sym, subst}
use Rattle.std.specs.Prelude.{Result}
use Rattle.fut_flat.specs.declared.exp.Loop.{Loop as LoopTree}
use Rattle.fut_flat.specs.Erased.{FlatTerm, pattern_of, term_of}
use Rattle.fut_flat.specs.Terms.{Loop}
use Rattle.fut_flat.proofs.ErasedForms.{loop_of, loop_is, turns_of}
use Rattle.fut_meaning.specs.Knowns.{Known, Scope}
use Rattle.unfold_measure.specs.declared.stop.Stop.{Stop}
use Rattle.unfold_measure.specs.declared.stop.Stop.TheVariants.{Memory}
use Rattle.unfold_measure.specs.declared.walked.Walked.{Walked}
use Rattle.unfold_measure.specs.Answers.{no_memory, no_memory_left, Walked_to, stopped, Ran_to, run_stopped}

module _ {tops : Scope} {level spent : ℕ} (r : Stop) (q : r ≡ Memory) where
  pub walk_memory : {sc : Scope} {e : FlatTerm} → Walked_to tops sc level spent e (Err r)
  walk_memory {sc} {e} = subst (λ z. Walked_to tops sc level spent e (Err z)) (sym q) (stopped no_memory)

  pub ran_memory : {h s : Known} → Ran_to tops level spent h s (Err r)
  ran_memory {h} {s} = subst (λ z. Ran_to tops level spent h s (Err z)) (sym q) (run_stopped no_memory_left)

pub loop_as : {tops sc : Scope} {level spent : ℕ} (l : LoopTree) (r : Result Walked Stop) → Walked_to tops sc level spent (Loop l.mark l.sizes.now (pattern_of l.pat) (term_of l.first) (turns_of l.form) (term_of l.body)) r → Walked_to tops sc level spent (loop_of l) r
loop_as {tops} {sc} {level} {spent} l r h = subst (λ z. Walked_to tops sc level spent z r) (sym (loop_is l)) h
