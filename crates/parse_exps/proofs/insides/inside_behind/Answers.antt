-- By the operator of a section that stands next.
use Rattle.std.proofs.Common.{sym, ◌∙◌}
use Rattle.fut_grammar.specs.Phrases.{far_at, phrases, read_at}
use Rattle.fut_grammar.proofs.Bools.{or_left}
use Rattle.fut_ast.specs.Behind.{begins_big, begins_operand}
use Rattle.parse_exps.proofs.InsideLaws.{inside_whole_as}
use Rattle.parse_types.proofs.ReadLaws.{low_as}
use Rattle.parse_exps.proofs.insides.inside_behind.Goals as goal

pub returns-in-None : goal.returns-in-None
unfolding far_at
returns-in-None g c =
    record { exact = λ start begun. rw (sym c.fitting_section.ensures ∙ c.in-None.is, inside_whole_as (phrases (read_at c.args.inner)) _ start _ (or_left (begins_operand start) (begins_big start) begun)) (c.whole_inside.ensures.exact _ (c.whole_typed.ensures.exact _ c.all_behind.ensures.exact)); low = c.whole_inside.ensures.low _ (c.whole_typed.ensures.low _ c.all_behind.ensures.low) }

pub returns-in-Some : goal.returns-in-Some
returns-in-Some g c =
    record { exact = λ start begun. rw (sym c.fitting_section.ensures ∙ c.in-Some.is) (c.inside_section.ensures.exact c.args.inner start begun); low = low_as c.inside_section.result c.inside_section.ensures.same c.requires.room.1 }
