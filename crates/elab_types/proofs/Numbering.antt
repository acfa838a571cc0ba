-- Names that are numbered and come in scope.
use Rattle.elab_types.specs.Numbering.{numbers as numbers_it, no_number, comes, comes_not, comes_stopped}

pub ruleset numbers = (numbers_it, no_number, comes, comes_not, comes_stopped)
