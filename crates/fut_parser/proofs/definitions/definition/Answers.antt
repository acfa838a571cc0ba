-- The parts of the production, one after the other.
use Rattle.std.proofs.Common.{sym, ap, refl, arith}
use Rattle.fut_ast.specs.declared.node.Spot.{Spot}
use Rattle.fut_grammar.specs.Phrases.{items}
use Rattle.fut_grammar.specs.Reading.{has_at, parts_at, sub_at}
use Rattle.parse_module_types.proofs.Stops.{part_stopped, stopped, taken}
use Rattle.fut_parser.proofs.definitions.definition.Goals as goal

pub returns-in-Err : goal.returns-in-Err
unfolding parts_at has_at
returns-in-Err c = record { exact = rw (taken c.args.word c.args.tokens.now c.requires.first, sym c.rest_of-behind.ensures) (part_stopped c.in-Err.stop _ _ _ c.in-Err.ensures); low = tt }

pub returns-in-Err-take_word : goal.returns-in-Err-take_word
unfolding parts_at has_at
returns-in-Err-take_word c = record { exact = rw (taken c.args.word c.args.tokens.now c.requires.first, sym c.rest_of-behind.ensures, c.in-Ok.ensures) (part_stopped c.in-Err-take_word.stop _ _ _ c.in-Err-take_word.ensures); low = tt }

pub returns-in-Err-heads_inside : goal.returns-in-Err-heads_inside
unfolding parts_at has_at
returns-in-Err-heads_inside c = record { exact = rw (taken c.args.word c.args.tokens.now c.requires.first, sym c.rest_of-behind.ensures, c.in-Ok.ensures, c.in-Ok-take_word.ensures) (stopped c.in-Err-heads_inside.stop _ _ c.in-Err-heads_inside.ensures.exact); low = tt }

pub returns-in-Err-patterns_inside : goal.returns-in-Err-patterns_inside
unfolding parts_at has_at
returns-in-Err-patterns_inside c = record { exact = rw (taken c.args.word c.args.tokens.now c.requires.first, sym c.rest_of-behind.ensures, c.in-Ok.ensures, c.in-Ok-take_word.ensures, c.in-Ok-heads_inside.ensures.exact) (stopped c.in-Err-patterns_inside.stop _ _ c.in-Err-patterns_inside.ensures.exact); low = tt }

pub returns-in-Err-maybe_type_inside : goal.returns-in-Err-maybe_type_inside
unfolding parts_at has_at
returns-in-Err-maybe_type_inside c = record { exact = rw (taken c.args.word c.args.tokens.now c.requires.first, sym c.rest_of-behind.ensures, c.in-Ok.ensures, c.in-Ok-take_word.ensures, c.in-Ok-heads_inside.ensures.exact, c.in-Ok-patterns_inside.ensures.exact) (stopped c.in-Err-maybe_type_inside.stop _ _ c.in-Err-maybe_type_inside.ensures.exact); low = tt }

pub returns-in-Err-take : goal.returns-in-Err-take
unfolding parts_at has_at
returns-in-Err-take c = record { exact = rw (taken c.args.word c.args.tokens.now c.requires.first, sym c.rest_of-behind.ensures, c.in-Ok.ensures, c.in-Ok-take_word.ensures, c.in-Ok-heads_inside.ensures.exact, c.in-Ok-patterns_inside.ensures.exact, c.in-Ok-maybe_type_inside.ensures.exact) (part_stopped c.in-Err-take.stop _ _ _ c.in-Err-take.ensures); low = tt }

pub returns-in-Err-whole_expression : goal.returns-in-Err-whole_expression
unfolding parts_at has_at sub_at items
returns-in-Err-whole_expression c = record { exact = rw (taken c.args.word c.args.tokens.now c.requires.first, sym c.rest_of-behind.ensures, c.in-Ok.ensures, c.in-Ok-take_word.ensures, c.in-Ok-heads_inside.ensures.exact, c.in-Ok-patterns_inside.ensures.exact, c.in-Ok-maybe_type_inside.ensures.exact, c.in-Ok-take.ensures) (part_stopped c.in-Err-whole_expression.stop _ _ _ c.in-Err-whole_expression.ensures.exact); low = tt }

pub returns : goal.returns
unfolding parts_at has_at sub_at items
returns c =
    let name_at = ap (λ (s : Spot). s.place) (sym c.next_spot.ensures) in
    record { exact = rw (taken c.args.word c.args.tokens.now c.requires.first, sym c.rest_of-behind.ensures, c.in-Ok.ensures, c.in-Ok-take_word.ensures, c.in-Ok-heads_inside.ensures.exact, c.in-Ok-patterns_inside.ensures.exact, c.in-Ok-maybe_type_inside.ensures.exact, c.in-Ok-take.ensures, c.in-Ok-whole_expression.ensures.exact, sym c.greater.ensures, name_at) refl; low = omega (arith, c.greater.ensures, c.in-Ok-maybe_type_inside.ensures.low, c.in-Ok-whole_expression.ensures.low) }
