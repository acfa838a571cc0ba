-- Values by their components, in step with types: a scalar shares nothing, an array is one component whatever its elements are,
-- and so is a function, which shares with what its body names from outside and with the arguments that it was given.
use Rattle.std.specs.Prelude.{ℕ, zero, suc, ◌+◌, Bool, true, false, nat_le, cond, List, [], ◌∷◌, ◌++◌, Option, Some, None}
use Rattle.fut_ast.specs.Sorts.{Text}
use Rattle.fut_scalar.specs.declared.place.BindId.{BindId}
use Rattle.fut_types.specs.declared.Head.{Head}
use Rattle.fut_types.specs.declared.Head.TheVariants as head
use Rattle.fut_types.specs.Types.{Ty, Var, Made, Tys, none, more, Kinds, level}
use Rattle.fut_types.specs.Shapes.{place}
use Rattle.fut_typing.specs.Names.{Names}
use Rattle.fut_aliases.specs.Aliases.{Set, Naming, union}
use Rattle.fut_aliases.specs.declared.aliases.Alias.TheVariants.{Part}
use Rattle.fut_aliases.specs.Stars.{Stars, Leaf, Arrow, Row, StarRow, no_star, star_and, no_stars, spread}

mutual
  pub data Value : Type 0 where
    Scalar : Value
    -- an array, or what a type variable stands for
    Array : Set → Value
    -- the stars of its type
    Function : Set → Stars → Value
    Parts : Head → Values → Value

  pub data Values : Type 0 where
    no_value : Values
    value_and : Value → Values → Values

-- ---- a value of a type whose components all have one set

-- of kinds from Equal on are types without arrays
abbrev pub of_kind : ℕ → Set → Value
of_kind k s = cond (nat_le 2 k) Scalar (Array s)

unfoldable mutual
  pub of_type : Kinds → Set → Ty → Value
  of_type K s (Var v) = of_kind (level (K v)) s
  of_type K s (Made (head.Scalar k) ts) = Scalar
  of_type K s (Made head.Tuple ts) = Parts head.Tuple (of_types K s ts)
  of_type K s (Made (head.Record n) ts) = Parts (head.Record n) (of_types K s ts)
  of_type K s (Made head.Fun ts) = Function s (spread false (Made head.Fun ts))
  of_type K s (Made (head.Rigid n k) ts) = of_kind (level k) s
  of_type K s t = Array s

  pub of_types : Kinds → Set → Tys → Values
  of_types K s none = no_value
  of_types K s (more t ts) = value_and (of_type K s t) (of_types K s ts)

-- a component with a star has the empty set
abbrev pub unless : Bool → Set → Set
unless true s = []
unless false s = s

unfoldable mutual
  pub with_stars : Kinds → Set → Stars → Ty → Value
  with_stars K s (Leaf b) t = of_type K (unless b s) t
  with_stars K s (Arrow b p r) t = Function (unless b s) (Arrow b p r)
  with_stars K s (Row us) (Made h ts) = Parts h (all_with_stars K s us ts)
  with_stars K s (Row us) (Var v) = of_type K s (Var v)

  pub all_with_stars : Kinds → Set → StarRow → Tys → Values
  all_with_stars K s (star_and u us) (more t ts) = value_and (with_stars K s u t) (all_with_stars K s us ts)
  all_with_stars K s us ts = no_value

-- a value of a type variable where the variable stands for a type
unfoldable mutual
  pub at_type : Kinds → Ty → Value → Value
  at_type K t (Array s) = of_type K s t
  at_type K (Made h ts) (Parts g vs) = Parts g (all_at_type K ts vs)
  at_type K t v = v

  pub all_at_type : Kinds → Tys → Values → Values
  all_at_type K (more t ts) (value_and v vs) = value_and (at_type K t v) (all_at_type K ts vs)
  all_at_type K ts vs = vs

-- ---- components

-- the sets of the components, from left to right
unfoldable mutual
  pub components : Value → List Set
  components Scalar = []
  components (Array s) = s ∷ []
  components (Function s u) = s ∷ []
  components (Parts h vs) = all_components vs

  pub all_components : Values → List Set
  all_components no_value = []
  all_components (value_and v vs) = components v ++ all_components vs

abbrev pub all_of : List Set → Set
all_of [] = []
all_of (s ∷ ss) = union s (all_of ss)

-- all that a value may share memory with
abbrev pub aliases : Value → Set
aliases v = all_of (components v)

abbrev pub count : List Set → ℕ
count [] = 0
count (s ∷ ss) = suc (count ss)

abbrev pub how_many : Value → ℕ
how_many v = count (components v)

-- the value with other sets at its components from the i-th on
abbrev pub nth : List Set → ℕ → Set
nth [] i = []
nth (s ∷ ss) zero = s
nth (s ∷ ss) (suc i) = nth ss i

unfoldable mutual
  pub with_sets : (ℕ → Set → Set) → ℕ → Value → Value
  with_sets set i Scalar = Scalar
  with_sets set i (Array s) = Array (set i s)
  with_sets set i (Function s u) = Function (set i s) u
  with_sets set i (Parts h vs) = Parts h (all_with_sets set i vs)

  pub all_with_sets : (ℕ → Set → Set) → ℕ → Values → Values
  all_with_sets set i no_value = no_value
  all_with_sets set i (value_and v vs) = value_and (with_sets set i v) (all_with_sets set (i + how_many v) vs)

abbrev pub having : List Set → Value → Value
having ss v = with_sets (λ i s. nth ss i) 0 v

-- what either of two gives
abbrev pub united : List Set → List Set → List Set
united (s ∷ ss) (t ∷ ts) = union s t ∷ united ss ts
united ss ts = ss

abbrev pub unite : Value → Value → Value
unite v w = having (united (components v) (components w)) v

-- the components that a name has: each array of the name stands in its own set, and where the name is a parameter each function
module _ (naming : Naming) where
  unfoldable mutual
    pub named : Bool → ℕ → BindId → ℕ → Value → Value
    named parameter n b i Scalar = Scalar
    named parameter n b i (Array s) = Array (naming (Part n i b) s)
    named parameter n b i (Function s u) = Function (cond parameter (naming (Part n i b) s) s) u
    named parameter n b i (Parts h vs) = Parts h (all_named parameter n b i vs)

    pub all_named : Bool → ℕ → BindId → ℕ → Values → Values
    all_named parameter n b i no_value = no_value
    all_named parameter n b i (value_and v vs) = value_and (named parameter n b i v) (all_named parameter n b (i + how_many v) vs)

-- ---- stars and components

-- a component, and whether it has a star
pub record Component : Type 0 where
  pub starred : Bool
  pub set : Set

abbrev pub all_starred : Bool → List Set → List Component
all_starred b [] = []
all_starred b (s ∷ ss) = record { starred = b; set = s } ∷ all_starred b ss

unfoldable mutual
  pub starring : Stars → Value → List Component
  starring (Leaf b) v = all_starred b (components v)
  starring (Arrow b p r) v = all_starred b (components v)
  starring (Row us) (Parts h vs) = all_starring us vs
  starring (Row us) v = all_starred false (components v)

  pub all_starring : StarRow → Values → List Component
  all_starring (star_and u us) (value_and v vs) = starring u v ++ all_starring us vs
  all_starring us vs = []

abbrev pub those_with : Bool → List Component → Set
those_with b [] = []
those_with true (c ∷ cs) = cond c.starred (union c.set (those_with true cs)) (those_with true cs)
those_with false (c ∷ cs) = cond c.starred (those_with false cs) (union c.set (those_with false cs))

-- what a parameter with these stars consumes of an argument, and what it leaves
abbrev pub taken : Stars → Value → Set
taken u v = those_with true (starring u v)

abbrev pub left : Stars → Value → Set
left u v = those_with false (starring u v)

-- the stars of the functions in a value
unfoldable mutual
  pub functions : Value → Stars
  functions Scalar = no_stars
  functions (Array s) = no_stars
  functions (Function s u) = u
  functions (Parts h vs) = Row (all_functions vs)

  pub all_functions : Values → StarRow
  all_functions no_value = no_star
  all_functions (value_and v vs) = star_and (functions v) (all_functions vs)

-- the value with the stars of a written type
unfoldable mutual
  pub ascribed : Stars → Value → Value
  ascribed (Arrow b p r) (Function s u) = Function s (Arrow b p r)
  ascribed (Row us) (Parts h vs) = Parts h (all_ascribed us vs)
  ascribed u v = v

  pub all_ascribed : StarRow → Values → Values
  all_ascribed (star_and u us) (value_and v vs) = value_and (ascribed u v) (all_ascribed us vs)
  all_ascribed us vs = vs

-- ---- parts of tuples and records

abbrev pub part : Option ℕ → Values → Value
part None vs = Scalar
part (Some i) no_value = Scalar
part (Some zero) (value_and v vs) = v
part (Some (suc i)) (value_and v vs) = part (Some i) vs

abbrev pub with_part : Option ℕ → Value → Values → Values
with_part None w vs = vs
with_part (Some i) w no_value = no_value
with_part (Some zero) w (value_and v vs) = value_and w vs
with_part (Some (suc i)) w (value_and v vs) = value_and v (with_part (Some i) w vs)

-- a part of a value that is no tuple and no record shares with what the value does
unfoldable pub part_named : Names → Text → Value → Value
part_named N f (Parts h vs) = part (place N.shapes (N.label f) h) vs
part_named N f v = v

unfoldable pub with_part_named : Names → Text → Value → Value → Value
with_part_named N f w (Parts h vs) = Parts h (with_part (place N.shapes (N.label f) h) w vs)
with_part_named N f w v = v
