-- Either sort of type behind the equals signs.
use Rattle.std.proofs.Common.{Bool, sym, subst}
use Rattle.fut_ast.specs.Sorts.{With_item}
use Rattle.fut_grammar.specs.Reading.{Gives, several_at}
use Rattle.fut_grammar.specs.Phrases.{phrases, read_at}
use Rattle.parse_module_types.specs.MtypeFound.{withs_found}
use Rattle.parse_module_types.proofs.types.withs.Goals as goal

pub returns-then-arrows-clause-exact : goal.returns-then-arrows-clause-exact
returns-then-arrows-clause-exact c =
    let P : Bool → Type 0 = λ b. Gives withs_found c.several.result (several_at (phrases (read_at c.args.inner)) (With_item b) c.args.first_height c.args.tokens.now) in
    subst P (sym c.if-arrows.true) c.several.ensures.exact

pub returns-else-arrows-clause-exact : goal.returns-else-arrows-clause-exact
returns-else-arrows-clause-exact c =
    let P : Bool → Type 0 = λ b. Gives withs_found c.several-else-arrows.result (several_at (phrases (read_at c.args.inner)) (With_item b) c.args.first_height c.args.tokens.now) in
    subst P (sym c.if-arrows.false) c.several-else-arrows.ensures.exact
