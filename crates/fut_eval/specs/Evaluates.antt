-- The answer of a run.
use Rattle.std.specs.Prelude.{ℕ, List, Result, Ok, Err, true}
use Rattle.fut_scalar.specs.declared.report.Report.{Report}
use Rattle.fut_meaning.specs.Outcomes.{Val, Fail}
use Rattle.fut_blocks.specs.declared.block.Program.{Program}
use Rattle.fut_blocks.specs.Meaning.{Component}
use Rattle.fut_blocks.specs.Programs.{Program_means}
use Rattle.array_data.specs.declared.data.Data.{Data}
use Rattle.fut_eval.specs.declared.program.EvalErr.{EvalErr}
use Rattle.fut_eval.specs.declared.program.EvalErr.TheVariants.{Failed, Memory}
use Rattle.array_data.specs.Held.{held_all}

-- results or a report, as the meaning allows it; want of memory is free
pub data Evaluates (budget : ℕ) (p : Program) (args : List Component) : Result (List Data) EvalErr → Type 0 where
  came_to : {vs : List Data} (f : ℕ) → Program_means true budget p args (Val (held_all vs)) f → Evaluates budget p args (Ok vs)
  failed : {r : Report} (f : ℕ) → Program_means true budget p args (Fail r) f → Evaluates budget p args (Err (Failed r))
  no_memory : Evaluates budget p args (Err Memory)
