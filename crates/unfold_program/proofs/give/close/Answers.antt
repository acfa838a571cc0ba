use Rattle.std.proofs.Common.{refl, sym, ◌∙◌}
use Rattle.unfold_parts.specs.Refused.{no_memory}
use Rattle.unfold_program.specs.Answers.{not_closed}
use Rattle.unfold_program.proofs.Growing.{close_ok, close_other, close_err, close_component}
use Rattle.unfold_program.proofs.give.close.Goals as goal

pub returns-then-is_component : goal.returns-then-is_component
returns-then-is_component c = close_component _ _ _ _ _ _ (sym c.is_component.ensures ∙ c.if-is_component.true) c.close_packed.ensures

pub returns-in-Ok-block : goal.returns-in-Ok-block
returns-in-Ok-block c = close_ok _ _ _ _ _ _ _ _ c.in-Ok.ensures c.in-Ok-block.ensures.block c.in-Ok-block.ensures.next refl refl

pub returns-in-Err-Lost : goal.returns-in-Err-Lost
returns-in-Err-Lost c = close_other _ _ _ _ _ refl (sym c.is_component.ensures ∙ c.if-is_component.false)

pub returns-in-Err-Memory : goal.returns-in-Err-Memory
returns-in-Err-Memory c = not_closed no_memory

pub returns-then-results-gt-MOST_GIVEN : goal.returns-then-results-gt-MOST_GIVEN
returns-then-results-gt-MOST_GIVEN c = close_other _ _ _ _ _ refl (sym c.is_component.ensures ∙ c.if-is_component.false)

pub returns-in-Err : goal.returns-in-Err
returns-in-Err c = close_err _ _ _ _ _ _ _ _ _ c.in-Err.ensures.block
