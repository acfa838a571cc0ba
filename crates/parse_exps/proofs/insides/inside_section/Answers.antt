-- Nothing that binds tighter goes on with the operand.
use Rattle.std.proofs.Common.{ℕ, sym, ap, ◌∙◌, refl}
use Rattle.fut_ast.specs.Behind.{behind_chain}
use Rattle.fut_ast.specs.Operators.{fits}
use Rattle.fut_grammar.specs.Phrases.{bounded, ended, far_at, inside_operand}
use Rattle.parse_exps.proofs.insides.inside_section.Goals as goal

pub returns-then-not-takes_left-clause-exact : goal.returns-then-not-takes_left-clause-exact
unfolding inside_operand
returns-then-not-takes_left-clause-exact c =
    let takes = ap (fits c.args.first.tree.ended) (sym c.tighter_than-least.ensures) ∙ sym c.takes_left.ensures ∙ c.if-not-takes_left.true in
    λ inner start begun. rw (takes, c.refused.ensures, c.past_operator.ensures, c.rest_of.ensures) refl

pub returns-then-goes_on_chain-clause-exact : goal.returns-then-goes_on_chain-clause-exact
unfolding inside_operand bounded far_at ended
returns-then-goes_on_chain-clause-exact c =
    let takes = ap (fits c.args.first.tree.ended) (sym c.tighter_than-least.ensures) ∙ sym c.takes_left.ensures ∙ c.if-not-takes_left.false in
    let goes = ap (λ (k : ℕ). behind_chain k c.args.first.tree.ended c.args.first.rest.now) (sym c.tighter_than-least.ensures) ∙ sym c.goes_on_chain.ensures ∙ c.if-goes_on_chain.true in
    λ inner start begun. rw (takes, begun, goes, c.refused-then-goes_on_chain.ensures) refl

pub returns-clause-exact : goal.returns-clause-exact
unfolding inside_operand bounded far_at ended
returns-clause-exact c =
    let takes = ap (fits c.args.first.tree.ended) (sym c.tighter_than-least.ensures) ∙ sym c.takes_left.ensures ∙ c.if-not-takes_left.false in
    let goes = ap (λ (k : ℕ). behind_chain k c.args.first.tree.ended c.args.first.rest.now) (sym c.tighter_than-least.ensures) ∙ sym c.goes_on_chain.ensures ∙ c.if-goes_on_chain.false in
    λ inner start begun. rw (takes, begun, goes) refl
