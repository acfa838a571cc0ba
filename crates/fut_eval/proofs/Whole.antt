-- A whole run.
use Rattle.std.proofs.Common.{◌≡◌, ℕ, List, [], ◌∷◌, length, Ok, Err, sym, subst, arith, true}
use Rattle.fut_scalar.specs.declared.report.Report.{Report}
use Rattle.fut_blocks.specs.declared.block.Program.{Program}
use Rattle.fut_blocks.specs.Plain.{body_of}
use Rattle.fut_blocks.specs.Meaning.{under, body_means, Component}
use Rattle.fut_blocks.specs.Programs.{Program_means, NeverWrong, Rising}
use Rattle.fut_eval.specs.declared.program.EvalErr.TheVariants as eval
use Rattle.array_data.specs.declared.stop.Stop.{Stop}
use Rattle.array_data.specs.declared.stop.Stop.TheVariants.{Failed, Stuck}
use Rattle.fut_eval.specs.Answers.{Answer, Fit, Stands, Runs, ran, failed, gone, Bound, is_bound, unbound, Stored, no_memory, no_memory_bound}
use Rattle.fut_meaning.specs.Outcomes.{Val}
use Rattle.array_data.specs.declared.data.Data.{Data}
use Rattle.array_data.specs.Held.{held_all}
use Rattle.fut_eval.proofs.Holding.{held_length}
use Rattle.fut_eval.specs.Evaluates.{Evaluates, came_to, failed as has_failed, no_memory as has_no_memory}
use Rattle.fut_eval.specs.Runs.{Body_runs, Program_runs}
use Rattle.fut_eval.proofs.Steps.{body_rises, named_leads, named_wrong}
use Rattle.fut_eval.proofs.Storing.{stored_bound}
use Rattle.fut_eval.proofs.Tells.{runs_in, runs_less, runs_after}

nothing_stands : (t : List Component) → Stands [] 0 t
nothing_stands t = record { each = λ x v e. cc }

module _ (budget : ℕ) (p : Program) (args t t1 s : List Component) where
  pub store_stop : (e : Stop) → Stored p.params.now args t t1 (Err e) → Program_runs budget p args t t1 s s (Err e)
  unfolding Program_runs Program_means
  store_stop e h first u nb l f = by_names (stored_bound p.params.now args [] 0 first t t1 (Err e) h (nothing_stands t) u (let z = body_rises (body_of p.body) first p.names nb in omega arith) f)
    where
      by_names : {e : Stop} → Bound [] 0 first p.params.now args t t1 (Err e) → Runs (under p.params.now args [] (body_means true budget (body_of p.body))) 0 t t1 s s (Err e)
      by_names no_memory_bound = no_memory
      by_names (unbound y) = gone 0 (named_wrong p.params.now args [] (body_means true budget (body_of p.body)) y)

  pub run_done : (t2 s2 : List Component) (r : Answer) → Stored p.params.now args t t1 (Ok tt) → Body_runs budget (body_of p.body) t1 t2 s s2 r → Program_runs budget p args t t2 s s2 r
  unfolding Program_runs Program_means Body_runs
  run_done t2 s2 r h k first u nb l f = by_names (stored_bound p.params.now args [] 0 first t t1 (Ok tt) h (nothing_stands t) u (let z = body_rises (body_of p.body) first p.names nb in omega arith) f)
    where
      by_names : Bound [] 0 first p.params.now args t t1 (Ok tt) → Runs (under p.params.now args [] (body_means true budget (body_of p.body))) 0 t t2 s s2 r
      by_names (is_bound e y w x) =
          runs_in 0 t t2 s s2 (under p.params.now args [] (body_means true budget (body_of p.body))) (body_means true budget (body_of p.body) e) r (named_leads p.params.now args [] e (body_means true budget (body_of p.body)) y)
          (runs_after (body_means true budget (body_of p.body) e) 0 t t1 t2 s s2 r x (runs_less (body_means true budget (body_of p.body) e) 0 first t1 t2 s s2 r (omega arith) (k e first p.names w nb (let z = x.long in omega arith))))
      by_names (unbound y) = gone 0 (named_wrong p.params.now args [] (body_means true budget (body_of p.body)) y)

pub ruleset whole_run = (store_stop, run_done)

-- ---- the public answer

all_fit : (vs : List Component) → Fit vs
all_fit [] = tt
all_fit (v ∷ vs) = (tt, all_fit vs)

module _ (budget : ℕ) (p : Program) (args : List Component) (t t' s : List Data) (m : length t ≡ p.names) (e : s ≡ []) (rising : Rising p) (never : NeverWrong true budget p args) where
  run_is : (s' : List Component) (r : Answer) → Program_runs budget p args (held_all t) (held_all t') (held_all s) s' r → Runs (Program_means true budget p args) 0 (held_all t) (held_all t') [] s' r
  unfolding Program_runs held_all
  run_is s' r h = subst (λ z. Runs (Program_means true budget p args) 0 (held_all t) (held_all t') (held_all z) s' r) e (h rising.first rising.parameters rising.numbered (omega (arith, m, held_length t)) (all_fit args))

  pub eval_ok : (s' : List Data) → Program_runs budget p args (held_all t) (held_all t') (held_all s) (held_all s') (Ok tt) → Evaluates budget p args (Ok s')
  eval_ok s' h = by_run (run_is (held_all s') (Ok tt) h)
    where
      by_run : Runs (Program_means true budget p args) 0 (held_all t) (held_all t') [] (held_all s') (Ok tt) → Evaluates budget p args (Ok s')
      by_run (ran vs f q v x y) = came_to f (subst (λ z. Program_means true budget p args (Val z) f) (sym q) y)
      by_run (gone f y) = absurd (never f y)

  pub eval_failed : (s' : List Data) (r : Report) → Program_runs budget p args (held_all t) (held_all t') (held_all s) (held_all s') (Err (Failed r)) → Evaluates budget p args (Err (eval.Failed r))
  eval_failed s' r h = by_run (run_is (held_all s') (Err (Failed r)) h)
    where
      by_run : Runs (Program_means true budget p args) 0 (held_all t) (held_all t') [] (held_all s') (Err (Failed r)) → Evaluates budget p args (Err (eval.Failed r))
      by_run (failed f y) = has_failed f y
      by_run (gone f y) = absurd (never f y)

  pub eval_stuck : (s' : List Data) → Program_runs budget p args (held_all t) (held_all t') (held_all s) (held_all s') (Err Stuck) → ⊥
  eval_stuck s' h = by_run (run_is (held_all s') (Err Stuck) h)
    where
      by_run : Runs (Program_means true budget p args) 0 (held_all t) (held_all t') [] (held_all s') (Err Stuck) → ⊥
      by_run (gone f y) = never f y

pub eval_memory : (budget : ℕ) (p : Program) (args : List Component) → Evaluates budget p args (Err eval.Memory)
eval_memory budget p args = has_no_memory

pub ruleset evaluations = (eval_ok, eval_failed, eval_stuck, eval_memory)
