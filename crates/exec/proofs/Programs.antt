-- A run as a whole.
use Rattle.std.proofs.Common.{◌≡◌, ℕ, List, [], true, false, Ok, Err, refl, sym, subst, arith}
use Rattle.core_arrays.specs.Arenas.{Array}
use Rattle.core_ir.specs.declared.block.Core.{Core}
use Rattle.core_ir.specs.Meaning.{under}
use Rattle.core_ir.specs.Plain.{body_of}
use Rattle.core_ir.specs.Programs.{Core_means}
use Rattle.core_ir.specs.Typed.{with_vars}
use Rattle.core_code.specs.Registers.{State, state, Stands}
use Rattle.core_code.specs.Answers.{Answer, IfDone, done, Taken, taken, Takes, Runs, no_memory}
use Rattle.core_code.specs.Runs.{body_runs, Body_runs}
use Rattle.exec.specs.Whole.{Core_runs}
use Rattle.core_code.specs.declared.stop.Stop.{Stop}
use Rattle.core_code.specs.declared.stop.Stop.TheVariants.{Memory}
use Rattle.core_code.proofs.Frames.{runs_on}
use Rattle.exec.proofs.Steps.{named_leads}

nothing_stands : (rs : List Array) (t : List ℕ) → Stands [] [] 0 rs t
nothing_stands rs t = record { each = λ x s e. cc }

module _ (budget : ℕ) (core : Core) (S : State) where
  pub core_memory : (S' : State) (e : Stop) → e ≡ Memory → Core_runs budget core S S' (Err e)
  unfolding Core_runs
  core_memory S' e q w cs sh = subst (λ z. Runs (Core_means true false budget core cs) w.results 0 (state S.arena S.words []) S' (Err z)) (sym q) no_memory

  pub core_done : (t1 s1 : List ℕ) (S' : State) (r : Answer) → Takes core.params.now 0 S.words t1 S.stack s1 (Ok tt) → Body_runs budget (body_of core.body) (state S.arena t1 s1) S' r → Core_runs budget core S S' r
  unfolding Core_runs Takes Body_runs Core_means
  core_done t1 s1 S' r h k w cs sh =
      let c = h [] [] 0 w.rising.first S.arena.arrays [] S.stack cs (nothing_stands S.arena.arrays S.words) w.rising.parameters refl refl sh in by_names c.0 c.1
    where
      by_names : Taken [] [] 0 w.rising.first core.params.now cs S.arena.arrays S.words t1 (Ok tt) → IfDone (s1 ≡ []) (Ok tt) → Runs (under core.params.now cs [] (body_runs budget (body_of core.body))) w.results 0 (state S.arena S.words []) S' r
      by_names (taken {e} p st x) (done d) =
          runs_on (under core.params.now cs [] (body_runs budget (body_of core.body))) (body_runs budget (body_of core.body) e) w.results 0 w.rising.first (state S.arena S.words []) (state S.arena t1 s1) S' 0 r (omega arith)
          (record { words = λ y l. x y l; arrays = λ i a q. q; handed = omega arith }) d
          (named_leads core.params.now cs [] e (body_runs budget (body_of core.body)) p)
          (k (with_vars core.params.now []) e w.results w.rising.first core.names st w.typed w.rising.numbered)

pub ruleset programs = (core_memory, core_done)
