-- The texts that are still to come.
use Rattle.std.proofs.Common.{◌≡◌, ◌+◌, ◌*◌, ◌++◌, drop}
use Rattle.fut_tree.specs.Names.{all, names}
use Rattle.fut_tree.specs.Mods.{decs_of}
use Rattle.file_imports.specs.Texts.{decs_texts, modules_texts}
use Rattle.file_imports.proofs.+modules.Given as goal

abbrev pub invariant-put_decs-loop-dec : goal.invariant-put_decs-loop-dec
invariant-put_decs-loop-dec l = names l.behind.items ++ decs_texts (decs_of (drop l.dec-index l.decs)) ≡ names l.fn.behind.items ++ decs_texts (decs_of l.fn.decs)

abbrev pub invariant-put_modules-loop-module : goal.invariant-put_modules-loop-module
invariant-put_modules-loop-module l = names l.behind.items ++ modules_texts (all (drop l.module-index l.modules)) ≡ names l.fn.behind.items ++ modules_texts (all l.fn.modules)

abbrev pub decreases-put_module : goal.decreases-put_module
decreases-put_module l = 4 * l.depth

abbrev pub decreases-put_modules : goal.decreases-put_modules
decreases-put_modules l = 4 * l.depth + 1

abbrev pub decreases-put_dec : goal.decreases-put_dec
decreases-put_dec l = 4 * l.depth + 1

abbrev pub decreases-put_decs : goal.decreases-put_decs
decreases-put_decs l = 4 * l.depth + 2
