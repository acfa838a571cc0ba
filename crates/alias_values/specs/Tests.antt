-- What an alias is asked.
use Rattle.std.specs.Prelude.{Bool, ◌||◌}
use Rattle.fut_aliases.specs.declared.aliases.Alias.{Alias}
use Rattle.fut_aliases.specs.Aliases.{is_in, is_outside}
use Rattle.alias_values.specs.declared.sets.Test.{Test}
use Rattle.alias_values.specs.declared.sets.Test.TheVariants as test

abbrev pub test_of : Test → Alias → Bool
test_of (test.In s) a = is_in a s.now
test_of (test.Outside from) a = is_outside from a
test_of (test.InOrOutside s from) a = is_in a s.now || is_outside from a
