-- How large a type may be when it is written out.
use Rattle.std.specs.Prelude.{◌≤◌}
use Rattle.unique_programs.specs.declared.sizes.Size.{Size}

pub record Is_within (size : Size) : Type 0 where
  pub parts : size.parts ≤ 67108864
  pub depth : size.depth ≤ 4096
