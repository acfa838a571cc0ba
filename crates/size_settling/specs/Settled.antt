-- Variables that nothing has filled.
use Rattle.sized_types.specs.Sizes.{Size, Open}
use Rattle.fut_sizes.specs.Applications.{own_type}
use Rattle.fut_sizes.specs.Matching.{Found}

-- what a variable stands for, and what that makes of the tables: sizes of its own where it is still open
abbrev pub settled_by : Size → Found → Found
settled_by (Open n v u) σ = own_type n v u σ
settled_by t σ = σ
