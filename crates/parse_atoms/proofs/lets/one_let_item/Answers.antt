-- By the tokens that stand next.
use Rattle.std.proofs.Common.{sym, ◌∙◌, refl}
use Rattle.fut_grammar.specs.Phrases.{read_at}
use Rattle.parse_atoms.proofs.LetLaws.{let_item_as}
use Rattle.parse_atoms.proofs.lets.one_let_item.Goals as goal

pub returns-then-not-begins_let : goal.returns-then-not-begins_let
returns-then-not-begins_let g c = record { exact = rw (let_item_as (read_at c.args.inner) c.args.tokens.now, sym c.begins_let.ensures ∙ c.if-not-begins_let.true, c.refused.ensures) refl; low = tt }

pub let_update-requires : goal.let_update-requires
let_update-requires g c = λ k. ((refl, tt), (sym c.begins_update.ensures ∙ c.if-begins_update.true, (c.requires.law, c.requires.room)))

pub returns-then-begins_update : goal.returns-then-begins_update
returns-then-begins_update g c = record { exact = rw (let_item_as (read_at c.args.inner) c.args.tokens.now, sym c.begins_let.ensures ∙ c.if-not-begins_let.false, sym c.begins_update.ensures ∙ c.if-begins_update.true) c.let_update.ensures.exact; low = c.let_update.ensures.low }

pub let_function-requires : goal.let_function-requires
let_function-requires g c = λ k. ((refl, tt), (sym c.begins_function.ensures ∙ c.if-begins_function.true, (c.requires.law, c.requires.room)))

pub returns-then-begins_function : goal.returns-then-begins_function
returns-then-begins_function g c = record { exact = rw (let_item_as (read_at c.args.inner) c.args.tokens.now, sym c.begins_let.ensures ∙ c.if-not-begins_let.false, sym c.begins_function.ensures ∙ c.if-begins_function.true, sym c.begins_update.ensures ∙ c.if-begins_update.false) c.let_function.ensures.exact; low = c.let_function.ensures.low }

pub let_pattern-requires : goal.let_pattern-requires
let_pattern-requires g c = λ k. ((refl, tt), (sym c.begins_update.ensures ∙ c.if-begins_update.false, (sym c.begins_function.ensures ∙ c.if-begins_function.false, (c.requires.law, c.requires.room))))

pub returns-else-begins_function : goal.returns-else-begins_function
returns-else-begins_function g c = record { exact = rw (let_item_as (read_at c.args.inner) c.args.tokens.now, sym c.begins_let.ensures ∙ c.if-not-begins_let.false, sym c.begins_function.ensures ∙ c.if-begins_function.false, sym c.begins_update.ensures ∙ c.if-begins_update.false) c.let_pattern.ensures.exact; low = c.let_pattern.ensures.low }
