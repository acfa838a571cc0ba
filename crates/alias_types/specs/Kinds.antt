-- The kinds of type variables by their numbers.
use Rattle.std.specs.Prelude.{List, get_or}
use Rattle.fut_types.specs.declared.Kind.{Kind}
use Rattle.fut_types.specs.declared.Kind.TheVariants as kind
use Rattle.fut_types.specs.Types.{Kinds}

-- one of which nothing is known may stand for all types
abbrev pub kinds_of : List Kind → Kinds
kinds_of ks v = get_or ks v kind.Any
