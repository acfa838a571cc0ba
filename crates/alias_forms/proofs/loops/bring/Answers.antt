use Rattle.std.proofs.Common.{refl, ap, ◌∙◌}
use Rattle.fut_flat.proofs.ErasedForms.{turns_counted, turns_of, turns_over, turns_while}
use Rattle.alias_forms.proofs.loops.bring.Goals as goal

pub returns-in-For : goal.returns-in-For
returns-in-For c = λ N k. rw (c.in-Some.is, ap turns_of c.in-For.is ∙ turns_counted _ _) c.with_value.ensures

pub returns-in-ForIn : goal.returns-in-ForIn
returns-in-ForIn c = λ N k. rw (c.in-Some.is, ap turns_of c.in-ForIn.is ∙ turns_over _ _) (c.bound.ensures N k)

pub returns-in-While : goal.returns-in-While
returns-in-While c = λ N k. rw (c.in-Some.is, ap turns_of c.in-While.is ∙ turns_while _) refl
