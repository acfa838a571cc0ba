-- What search finds by itself.
use Rattle.uniqueness.specs.Answers.{no_memory}

pub ruleset nothing = (no_memory)
