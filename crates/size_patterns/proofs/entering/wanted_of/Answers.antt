use Rattle.fut_flat.specs.Erased.{pattern_of}
use Rattle.size_arena.specs.Trees.{size_of}
use Rattle.size_patterns.proofs.EnterForms.{given_wanted, rest_wanted}
use Rattle.size_patterns.proofs.entering.wanted_of.Goals as goal

pub returns : goal.returns
returns c = λ N types k. record {
  given = given_wanted (pattern_of c.args.pattern.now) c.args.node c.args.arrow c.value_name.result c.value_name.ensures (size_of c.in_ok-given.given.now) c.in_ok-given.ensures;
  size = c.in_ok-size.ensures N types k;
  rest = rest_wanted (pattern_of c.args.pattern.now) c.args.node c.args.arrow c.value_name.result c.value_name.ensures (size_of c.in_ok-rest.rest.now) c.in_ok-rest.ensures;
}
