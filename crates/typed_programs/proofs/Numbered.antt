-- What is told of each numbering that goes on from a table holds of one.
use Rattle.fut_typing.specs.Names.{Names}
use Rattle.type_infer.specs.Inferring.{Told_by}
use Rattle.type_scopes.specs.declared.Inference.{Inference}
use Rattle.typed_programs.specs.Mistyped.{Some_numbering}

pub numbered : (P : Names → Type 0) (i : Inference) → Told_by P i → Some_numbering P
numbered P i told = (told.some.0, told.some.1.names, told.holds told.some.0 told.some.1)
