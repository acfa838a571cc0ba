use Rattle.std.proofs.Common.{drop, ap, ◌∙◌, arith}
use Rattle.std.proofs.lemmas.Slice.{between_to_end}
use Rattle.unfold_parts.specs.Answers.{not_blocked}
use Rattle.unfold_parts.proofs.Stepping.{blocked_is}
use Rattle.unfold_parts.proofs.steps.Unfolding.block.Goals as goal

pub returns-in-Ok-clause-block : goal.returns-in-Ok-clause-block
returns-in-Ok-clause-block c = blocked_is _ _ _ _ _ _ (c.in-Ok.ensures ∙ between_to_end c.deref.result.now c.args.mark _ (omega (arith, c.deref.ensures.len)) ∙ ap (drop c.args.mark) c.deref.ensures.value) c.truncate.ensures.items c.kept.ensures.ok c.kept.ensures.err

pub returns-in-Err-clause-block : goal.returns-in-Err-clause-block
returns-in-Err-clause-block c = not_blocked
