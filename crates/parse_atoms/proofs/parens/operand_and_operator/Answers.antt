-- The operator behind the operand.
use Rattle.std.proofs.Common.{◌≡◌, ◌+◌, suc, max, refl, arith}
use Rattle.fut_grammar.specs.Phrases.{section_end}
use Rattle.parse_types.proofs.ReadLaws.{fails_as}
use Rattle.parse_atoms.proofs.parens.operand_and_operator.Goals as goal

pub returns-in-Ok : goal.returns-in-Ok
unfolding section_end
returns-in-Ok c =
    let one : suc (max 0 c.args.first_height) ≡ c.args.first_height + 1 = omega arith in
    record { exact = λ inner. rw (c.in-Ok.ensures, one) (c.made_before.ensures.exact _ c.section_of_left.ensures); low = c.made_before.ensures.low }

pub returns-in-Err : goal.returns-in-Err
unfolding section_end
returns-in-Err c = record { exact = λ inner. fails_as c.in-Err.stop c.in-Err.ensures (λ f read. rw read refl); low = tt }
