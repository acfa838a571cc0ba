-- What is left of the levels, and of each row.
use Rattle.std.proofs.Common.{◌+◌, ◌*◌, drop}
use Rattle.fut_tree.specs.Names.{all}
use Rattle.elab_scopes.specs.Declarations.{walks}
use Rattle.elab_scopes.specs.Held.{module_ref_of}
use Rattle.module_state.specs.Standing.{block_of, here_of, meeting_of, specified_of}
use Rattle.module_state.specs.Written.{files_of}
use Rattle.module_members.proofs.Loops.{So_far}
use Rattle.module_walk.proofs.ModLaws.{arguments_left}
use Rattle.module_walk.proofs.SigLaws.{specs_left}
use Rattle.module_walk.proofs.DecLaws.{decs_left}
use Rattle.module_walk.proofs.walk.+walk.Given as goal

abbrev pub decreases-module_of : goal.decreases-module_of
decreases-module_of l = 16 * l.depth + 0

abbrev pub decreases-met : goal.decreases-met
decreases-met l = 16 * l.depth + 0

abbrev pub decreases-applied : goal.decreases-applied
decreases-applied l = 16 * l.depth + 0

abbrev pub decreases-file_of : goal.decreases-file_of
decreases-file_of l = 16 * l.depth + 0

abbrev pub decreases-module_met : goal.decreases-module_met
decreases-module_met l = 16 * l.depth + 1

abbrev pub decreases-sealed_module : goal.decreases-sealed_module
decreases-sealed_module l = 16 * l.depth + 2

abbrev pub decreases-sealed_by : goal.decreases-sealed_by
decreases-sealed_by l = 16 * l.depth + 2

abbrev pub decreases-looked_at : goal.decreases-looked_at
decreases-looked_at l = 16 * l.depth + 1

abbrev pub decreases-sealed_body : goal.decreases-sealed_body
decreases-sealed_body l = 16 * l.depth + 3

abbrev pub decreases-lambda_body : goal.decreases-lambda_body
decreases-lambda_body l = 16 * l.depth + 4

abbrev pub decreases-counted : goal.decreases-counted
decreases-counted l = 16 * l.depth + 1

abbrev pub decreases-argument_applied : goal.decreases-argument_applied
decreases-argument_applied l = 16 * l.depth + 2

abbrev pub decreases-applied_to : goal.decreases-applied_to
decreases-applied_to l = 16 * l.depth + 3

abbrev pub decreases-application : goal.decreases-application
decreases-application l = 16 * l.depth + 4

abbrev pub decreases-given_by : goal.decreases-given_by
decreases-given_by l = 16 * l.depth + 4

abbrev pub decreases-argument_met : goal.decreases-argument_met
decreases-argument_met l = 16 * l.depth + 5

abbrev pub decreases-signature_met : goal.decreases-signature_met
decreases-signature_met l = 16 * l.depth + 1

abbrev pub decreases-module_spec : goal.decreases-module_spec
decreases-module_spec l = 16 * l.depth + 2

abbrev pub decreases-one_spec : goal.decreases-one_spec
decreases-one_spec l = 16 * l.depth + 3

abbrev pub decreases-each_spec : goal.decreases-each_spec
decreases-each_spec l = 16 * l.depth + 4

abbrev pub decreases-specs_met : goal.decreases-specs_met
decreases-specs_met l = 16 * l.depth + 5

abbrev pub decreases-given_met : goal.decreases-given_met
decreases-given_met l = 16 * l.depth + 1

abbrev pub decreases-refined_met : goal.decreases-refined_met
decreases-refined_met l = 16 * l.depth + 2

abbrev pub decreases-with_met : goal.decreases-with_met
decreases-with_met l = 16 * l.depth + 3

abbrev pub decreases-arrow_made : goal.decreases-arrow_made
decreases-arrow_made l = 16 * l.depth + 2

abbrev pub decreases-function_met : goal.decreases-function_met
decreases-function_met l = 16 * l.depth + 3

abbrev pub decreases-function_of_met : goal.decreases-function_of_met
decreases-function_of_met l = 16 * l.depth + 4

abbrev pub decreases-arrow_met : goal.decreases-arrow_met
decreases-arrow_met l = 16 * l.depth + 5

abbrev pub decreases-arrow : goal.decreases-arrow
decreases-arrow l = 16 * l.depth + 6

abbrev pub decreases-imported : goal.decreases-imported
decreases-imported l = 16 * l.depth + 1

abbrev pub decreases-import_dec : goal.decreases-import_dec
decreases-import_dec l = 16 * l.depth + 2

abbrev pub decreases-open_dec : goal.decreases-open_dec
decreases-open_dec l = 16 * l.depth + 1

abbrev pub decreases-signature_dec : goal.decreases-signature_dec
decreases-signature_dec l = 16 * l.depth + 1

abbrev pub decreases-module_dec : goal.decreases-module_dec
decreases-module_dec l = 16 * l.depth + 4

abbrev pub decreases-one_dec : goal.decreases-one_dec
decreases-one_dec l = 16 * l.depth + 5

abbrev pub decreases-each_dec : goal.decreases-each_dec
decreases-each_dec l = 16 * l.depth + 6

abbrev pub decreases-module_of_block : goal.decreases-module_of_block
decreases-module_of_block l = 16 * l.depth + 7

abbrev pub decreases-file_declared : goal.decreases-file_declared
decreases-file_declared l = 16 * l.depth + 8

abbrev pub decreases-met_by_form : goal.decreases-met_by_form
decreases-met_by_form l = 16 * l.depth + 7

abbrev pub decreases-form_of : goal.decreases-form_of
decreases-form_of l = 16 * l.depth + 8

abbrev pub decreases-lambda : goal.decreases-lambda
decreases-lambda l = 16 * l.depth + 5

abbrev pub invariant-applied_to-loop-argument : goal.invariant-applied_to-loop-argument
invariant-applied_to-loop-argument l = So_far (arguments_left (files_of l.fn.sources.files.now) (walks (files_of l.fn.sources.files.now) l.fn.depth) (here_of l.fn.here) l.fn.function l.fn.given (module_ref_of l.fn.made)) (arguments_left (files_of l.fn.sources.files.now) (walks (files_of l.fn.sources.files.now) l.fn.depth) (here_of l.fn.here) l.fn.function (drop l.argument-index l.fn.given) (module_ref_of l.module)) l.fn.state l.state

abbrev pub invariant-each_spec-loop-spec : goal.invariant-each_spec-loop-spec
invariant-each_spec-loop-spec l = So_far (specs_left (files_of l.fn.sources.files.now) (walks (files_of l.fn.sources.files.now) l.fn.depth) (here_of l.fn.here) (meeting_of l.fn.meeting) l.fn.specs (specified_of l.fn.start)) (specs_left (files_of l.fn.sources.files.now) (walks (files_of l.fn.sources.files.now) l.fn.depth) (here_of l.fn.here) (meeting_of l.fn.meeting) (drop l.spec-index l.fn.specs) (specified_of l.before)) l.fn.state l.state

abbrev pub invariant-each_dec-loop-dec : goal.invariant-each_dec-loop-dec
invariant-each_dec-loop-dec l = So_far (decs_left (files_of l.fn.sources.files.now) (walks (files_of l.fn.sources.files.now) l.fn.depth) (here_of l.fn.here) l.fn.is_top l.fn.decs (block_of l.fn.start)) (decs_left (files_of l.fn.sources.files.now) (walks (files_of l.fn.sources.files.now) l.fn.depth) (here_of l.fn.here) l.fn.is_top (drop l.dec-index l.fn.decs) (block_of l.block)) l.fn.state l.state
