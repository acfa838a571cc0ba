-- Fields by name.
use Rattle.std.specs.Prelude.{List, [], ◌∷◌, cond}
use Rattle.std.specs.Str.{bytes_eq}
use Rattle.fut_ast.specs.Sorts.{Text}

-- the parts with another one for each of this name; a part without a name has the empty one
abbrev pub put_named : {T : Type 0} → Text → T → List Text → List T → List T
put_named name t [] [] = []
put_named name t [] (u ∷ us) = cond (bytes_eq [] name) t u ∷ put_named name t [] us
put_named name t (f ∷ fs) [] = []
put_named name t (f ∷ fs) (u ∷ us) = cond (bytes_eq f name) t u ∷ put_named name t fs us
