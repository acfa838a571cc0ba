-- Two sized types that are of different forms, or have neither levels nor parts.
use Rattle.std.proofs.Common.{Bool, true, false}
use Rattle.sized_types.specs.Sizes.{Size, Level, Built, Fun}

abbrev pub unlike : Size → Size → Bool
unlike (Level d t) (Level e u) = false
unlike (Built h ts) (Built g us) = false
unlike (Fun k p r) (Fun l q s) = false
unlike t u = true
