-- A run as a whole.
use Rattle.std.specs.Prelude.{ℕ, [], map, true, false}
use Rattle.core_ir.specs.declared.block.Core.{Core}
use Rattle.core_ir.specs.Bundles.{Row}
use Rattle.core_ir.specs.Programs.{Core_means, WellFormed}
use Rattle.core_ir.specs.Typed.{sort_of}
use Rattle.core_code.specs.Registers.{State, AllShow, state}
use Rattle.core_code.specs.Answers.{Answer, Runs}

-- for a well-formed Core, and words on the stack that stand for its arguments
unfoldable pub Core_runs : ℕ → Core → State → State → Answer → Type 0
Core_runs budget core S S' r =
    (w : WellFormed core) (cs : Row) → AllShow S.arena.arrays (map sort_of core.params.now) cs S.stack
    → Runs (Core_means true false budget core cs) w.results 0 (state S.arena S.words []) S' r
