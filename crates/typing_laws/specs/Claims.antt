-- Generalisation is exact whatever parameters are written: the uses of a definition, and those of a local function, are exactly
-- the instances of its principal type, with types chosen for its parameters; and those of a function are exactly the instances
-- of the type that another name for it has in a principal typing.
use Rattle.std.specs.Prelude.{◌≡◌, ◌↔◌, ℕ, ◌<◌, List, [], ◌∷◌, ◌++◌}
use Rattle.std.specs.List.{All}
use mathlib.Core.Logic.{◌⊎◌}
use Rattle.fut_scalar.specs.declared.place.BindId.{BindId}
use Rattle.fut_scalar.specs.declared.place.Place.{Place}
use Rattle.fut_flat.specs.declared.prim.Ref.TheVariants as ref
use Rattle.fut_flat.specs.Terms.{Bound_pattern, Parameter, Use}
use Rattle.fut_types.specs.declared.Kind.{Kind}
use Rattle.fut_types.specs.Shapes.{Shapes, HasPart}
use Rattle.fut_types.specs.Types.{Ty, Sub, Kinds, HasKind}
use Rattle.fut_typing.specs.Names.{Names, AreNames}
use Rattle.fut_typing.specs.Generalised.{Suits, Scheme, Reused}
use Rattle.fut_typing.specs.Program.{Defined, program_numbers, Program_typed}
use Rattle.fut_typing.specs.Answers.{Open, Principal}
use Rattle.fut_typing.specs.Exact.{Way, scheme_behind, local_behind, Fixed, Instance}
use Rattle.fut_typing.specs.Declared.{Is_parameter, Declares, Parameter_in}
use Rattle.typing_laws.specs.Parameters.{replaced}
use Rattle.typing_laws.specs.Ways.{Ends_at, and_body, Renamed_let, Function_let, Declares_beside}

-- a part that is left open is there, where types stand for variables and for parameters
abbrev pub Chosen_met : Shapes → Kind → List (Parameter BindId) → Sub → Sub → Open → Type 0
Chosen_met S places ps choice by o = HasPart S o.label (by o.variable) (replaced places ps choice by o.part)

-- t is the definition's type in the principal typing, with types of their kinds for its variables and at the same time for
-- the parameters of the definition; so read, all that is fixed has the types a
pub record Chosen_instance (S : Shapes) (count : ℕ) (T : Kinds → Sub → Type 0) (p : Principal S count T) (places : Kind) (s : Scheme) (K : Kinds) (a : Sub) (t : Ty) : Type 0 where
  pub by : Sub
  pub kinds : (v : ℕ) → HasKind K (p.kinds v) (by v)
  pub choice : Sub
  pub suits : Suits places K choice s.parameters
  pub met : All (Chosen_met S places s.parameters choice by) p.opens
  pub fixed : (n : ℕ) → n < count → Fixed s n → replaced places s.parameters choice by (p.types n) ≡ a n
  pub is : t ≡ replaced places s.parameters choice by (p.types s.first)

-- no other definition of the program, and no local one, has one of the definition's parameters
abbrev pub Alone : List Defined → Defined → List Defined → Type 0
Alone before d after = (n : ℕ) → Is_parameter d.parameters n → (Parameter_in before n ⊎ (Declares d.value n ⊎ Parameter_in after n)) → ⊥

-- Generalisation is exact for a definition with written type parameters.
abbrev pub WrittenIsExact : Type 0
WrittenIsExact =
    (N : Names) → AreNames N → (places : Kind) (before after : List Defined) (d : Defined) → Alone before d after
    → (p : Principal N.shapes (program_numbers (before ++ d ∷ after)) (Program_typed N places (before ++ d ∷ after)))
    → (K : Kinds) (a : Sub) → Program_typed N places (before ++ d ∷ after) K a
    → (t : Ty) → Reused places (scheme_behind N places before d) (scheme_behind N places before d).first K a t
    ↔ Chosen_instance N.shapes (program_numbers (before ++ d ∷ after)) (Program_typed N places (before ++ d ∷ after)) p places (scheme_behind N places before d) K a t

-- another name x for what is called y: a definition without parameters whose value is a use of y
abbrev pub renamed : BindId → BindId → Place → ℕ → Defined
renamed x y at k = record { name = Bound_pattern x; parameters = []; value = Use (ref.Bound y) at k }

-- whatever parameters the definition has
abbrev pub UsesAreExact : Type 0
UsesAreExact =
    (N : Names) (places : Kind) (before after : List Defined) (d : Defined) (x y : BindId) (at : Place) (k : ℕ) → d.name ≡ Bound_pattern y
    → (p : Principal N.shapes (program_numbers ((before ++ d ∷ []) ++ renamed x y at k ∷ after)) (Program_typed N places ((before ++ d ∷ []) ++ renamed x y at k ∷ after)))
    → (K : Kinds) (a : Sub) → Program_typed N places ((before ++ d ∷ []) ++ renamed x y at k ∷ after) K a
    → (t : Ty) → Reused places (scheme_behind N places before d) (scheme_behind N places before d).first K a t
    ↔ Instance N.shapes (program_numbers ((before ++ d ∷ []) ++ renamed x y at k ∷ after)) (Program_typed N places ((before ++ d ∷ []) ++ renamed x y at k ∷ after)) p (scheme_behind N places (before ++ d ∷ []) (renamed x y at k)) K a t

-- and so of a local function
abbrev pub LocalUsesAreExact : Type 0
LocalUsesAreExact =
    (N : Names) (places : Kind) (before after : List Defined) (d : Defined) (w : Way) → Ends_at Renamed_let d.value w
    → (p : Principal N.shapes (program_numbers (before ++ d ∷ after)) (Program_typed N places (before ++ d ∷ after))) (K : Kinds) (a : Sub) → Program_typed N places (before ++ d ∷ after) K a
    → (t : Ty) → Reused places (local_behind N places before d w) (local_behind N places before d w).first K a t
    ↔ Instance N.shapes (program_numbers (before ++ d ∷ after)) (Program_typed N places (before ++ d ∷ after)) p (local_behind N places before d (and_body w)) K a t

-- nothing in the program has one of these parameters but the local function to which the way in the definition leads: no other
-- definition, not the one around it, and no other local one
abbrev pub Alone_within : List Defined → Defined → List Defined → Way → List (Parameter BindId) → Type 0
Alone_within before d after w ps = (n : ℕ) → Is_parameter ps n → (Parameter_in before n ⊎ (Is_parameter d.parameters n ⊎ (Declares_beside d.value w n ⊎ Parameter_in after n))) → ⊥

-- Generalisation is exact for a local function, whatever parameters it has.
abbrev pub LocalWrittenIsExact : Type 0
LocalWrittenIsExact =
    (N : Names) → AreNames N → (places : Kind) (before after : List Defined) (d : Defined) (w : Way) (ps : List (Parameter BindId)) → Ends_at (Function_let ps) d.value w → Alone_within before d after w ps
    → (p : Principal N.shapes (program_numbers (before ++ d ∷ after)) (Program_typed N places (before ++ d ∷ after))) (K : Kinds) (a : Sub) → Program_typed N places (before ++ d ∷ after) K a
    → (t : Ty) → Reused places (local_behind N places before d w) (local_behind N places before d w).first K a t
    ↔ Chosen_instance N.shapes (program_numbers (before ++ d ∷ after)) (Program_typed N places (before ++ d ∷ after)) p places (local_behind N places before d w) K a t
