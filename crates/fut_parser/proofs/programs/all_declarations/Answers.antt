-- Declarations are nodes, so that both readers read the same.
use Rattle.std.proofs.Common.{List, length, subst}
use Rattle.fut_ast.specs.Sorts.{Tree, Dec_item}
use Rattle.fut_grammar.specs.Reading.{Read, Gives}
use Rattle.fut_parser.specs.Private.ModFound.{decs_found}
use Rattle.fut_parser.proofs.Answering.{same_declarations}
use Rattle.fut_parser.proofs.programs.all_declarations.Goals as goal

pub returns-clause-exact : goal.returns-clause-exact
returns-clause-exact c = subst (λ (r : Read (List (Tree Dec_item))). Gives decs_found c.many.result r) (same_declarations 201 (length c.args.tokens.now) c.args.tokens.now) c.many.ensures.exact
