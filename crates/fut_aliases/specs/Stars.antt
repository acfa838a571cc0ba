-- Stars: which components of a parameter are consumed, and which of a result are fresh (Futhark Language Reference, "In-place
-- Updates"). They stand in written types and in the table of primitives; types themselves have none.
use Rattle.std.specs.Prelude.{ℕ, zero, suc, Bool, true, false, ◌||◌, ◌&&◌, not, List, ◌∷◌, Option, Some, None}
use Rattle.fut_ast.specs.Sorts.{Text}
use Rattle.fut_scalar.specs.declared.place.BindId.{BindId}
use Rattle.fut_flat.specs.declared.prim.Primitive.{Primitive}
use Rattle.fut_flat.specs.declared.prim.Ref.{Ref}
use Rattle.fut_flat.specs.Terms.{Unique_type, Arrow_type, Tuple_type, Record_type, Type_terms, type_and}
use Rattle.fut_flat.specs.Erased.{FlatType}
use Rattle.fut_primitives.specs.Written.{Written, Variable, Scalar, Own, From, Array, Unique, Pair, Triple, Named, Function}
use Rattle.fut_primitives.specs.Table.{written}
use Rattle.fut_types.specs.declared.Head.{Head}
use Rattle.fut_types.specs.declared.Head.TheVariants as head
use Rattle.fut_types.specs.Types.{Ty, Made, Tys, none, more}
use Rattle.fut_types.specs.Shapes.{place, part_at}
use Rattle.fut_typing.specs.Names.{Names}

-- in step with a type; a leaf speaks of all components below it
mutual
  pub data Stars : Type 0 where
    Leaf : Bool → Stars
    -- a function: whether it has a star itself, its parameter, its result
    Arrow : Bool → Stars → Stars → Stars
    Row : StarRow → Stars

  pub data StarRow : Type 0 where
    no_star : StarRow
    star_and : Stars → StarRow → StarRow

abbrev pub no_stars : Stars
no_stars = Leaf false

-- ---- those of a type

-- one star, or none, over a whole type
unfoldable mutual
  pub spread : Bool → Ty → Stars
  spread b (Made head.Fun (more p (more r none))) = Arrow b (spread false p) (spread false r)
  spread b (Made head.Tuple ts) = Row (all_spread b ts)
  spread b (Made (head.Record n) ts) = Row (all_spread b ts)
  spread b t = Leaf b

  pub all_spread : Bool → Tys → StarRow
  all_spread b none = no_star
  all_spread b (more t ts) = star_and (spread b t) (all_spread b ts)

abbrev pub spread_or : Bool → Option Ty → Stars
spread_or b (Some t) = spread b t
spread_or b None = Leaf b

-- a row with the stars at one place changed
abbrev pub with_star : Option ℕ → Stars → StarRow → StarRow
with_star None u us = us
with_star (Some i) u no_star = no_star
with_star (Some zero) u (star_and v us) = star_and u us
with_star (Some (suc i)) u (star_and v us) = star_and v (with_star (Some i) u us)

abbrev pub star_at : Option ℕ → StarRow → Stars
star_at None us = no_stars
star_at (Some i) no_star = no_stars
star_at (Some zero) (star_and u us) = u
star_at (Some (suc i)) (star_and u us) = star_at (Some i) us

abbrev pub of_part : Option Ty → (Ty → Stars) → Stars
of_part (Some t) stars = stars t
of_part None stars = no_stars

abbrev pub row_of : Stars → StarRow
row_of (Row us) = us
row_of u = no_star

-- ---- those of a written type; `starred` says whether a star stands before the whole

module _ (N : Names) where
  unfoldable mutual
    pub written_stars : Bool → FlatType → Ty → Stars
    written_stars starred (Unique_type e) t = written_stars true e t
    written_stars starred (Arrow_type b p r) (Made head.Fun (more t (more u none))) = Arrow starred (written_stars false p t) (written_stars false r u)
    written_stars starred (Tuple_type es) (Made head.Tuple ts) = Row (tuple_stars starred es ts)
    written_stars starred (Record_type fs es) (Made (head.Record n) ts) = Row (record_stars starred fs es (head.Record n) ts (all_spread starred ts))
    written_stars starred e t = spread starred t

    pub tuple_stars : Bool → Type_terms Ref BindId → Tys → StarRow
    tuple_stars starred (type_and e es) (more t ts) = star_and (written_stars starred e t) (tuple_stars starred es ts)
    tuple_stars starred es ts = no_star

    -- fields stand in any order
    pub record_stars : Bool → List Text → Type_terms Ref BindId → Head → Tys → StarRow → StarRow
    record_stars starred (f ∷ fs) (type_and e es) h ts row =
        record_stars starred fs es h ts (with_star (place N.shapes (N.label f) h) (of_part (part_at (place N.shapes (N.label f) h) ts) (λ t. written_stars starred e t)) row)
    record_stars starred fs es h ts row = row

-- ---- those of a primitive, off the table

abbrev pub table_stars : Bool → Written → Stars
table_stars starred (Variable x) = Leaf starred
table_stars starred (Scalar s) = Leaf starred
table_stars starred Own = Leaf starred
table_stars starred From = Leaf starred
table_stars starred (Array n t) = Leaf starred
table_stars starred (Unique t) = table_stars true t
table_stars starred (Pair t u) = Row (star_and (table_stars starred t) (star_and (table_stars starred u) no_star))
table_stars starred (Triple t u v) = Row (star_and (table_stars starred t) (star_and (table_stars starred u) (star_and (table_stars starred v) no_star)))
table_stars starred (Named n t) = table_stars starred t
table_stars starred (Function t u) = Arrow starred (table_stars false t) (table_stars false u)

abbrev pub primitive_stars : Primitive → Stars
primitive_stars p = table_stars false (written p)

-- how many arguments a function takes before it is called
abbrev pub arrows : Stars → ℕ
arrows (Arrow b p r) = suc (arrows r)
arrows u = 0

-- ---- a star where the other has none

unfoldable mutual
  -- outside of functions
  pub has_star : Stars → Bool
  has_star (Leaf b) = b
  has_star (Arrow b p r) = b
  has_star (Row us) = some_has_star us

  pub some_has_star : StarRow → Bool
  some_has_star no_star = false
  some_has_star (star_and u us) = has_star u || some_has_star us

unfoldable mutual
  pub lacks_star : Stars → Bool
  lacks_star (Leaf b) = not b
  lacks_star (Arrow b p r) = not b
  lacks_star (Row us) = some_lacks_star us

  pub some_lacks_star : StarRow → Bool
  some_lacks_star no_star = false
  some_lacks_star (star_and u us) = lacks_star u || some_lacks_star us

-- some component has a star in the second alone
unfoldable mutual
  pub adds_star : Stars → Stars → Bool
  adds_star (Leaf b) u = not b && has_star u
  adds_star w (Leaf b) = lacks_star w && b
  adds_star (Arrow b p r) u = not b && has_star u
  adds_star (Row ws) (Row us) = some_adds_star ws us
  adds_star (Row ws) (Arrow b p r) = some_lacks_star ws && b

  pub some_adds_star : StarRow → StarRow → Bool
  some_adds_star (star_and w ws) (star_and u us) = adds_star w u || some_adds_star ws us
  some_adds_star ws us = false

-- a parameter of some function in it has a star
unfoldable mutual
  pub consumes : Stars → Bool
  consumes (Leaf b) = false
  consumes (Arrow b p r) = has_star p || consumes r
  consumes (Row us) = some_consumes us

  pub some_consumes : StarRow → Bool
  some_consumes no_star = false
  some_consumes (star_and u us) = consumes u || some_consumes us

-- A function of the second may not stand where the first is wanted: it consumes more, or gives less that is fresh. Where it takes
-- functions itself, it is the other way round.
unfoldable mutual
  pub consumes_more : Stars → Stars → Bool
  consumes_more (Arrow b p r) (Arrow c q s) = adds_star p q || consumed_more p q || consumes_more r s
  consumes_more (Row ws) (Row us) = some_consumes_more ws us
  consumes_more w u = consumes u

  pub consumed_more : Stars → Stars → Bool
  consumed_more (Arrow b p r) (Arrow c q s) = adds_star q p || consumes_more p q || consumed_more r s
  consumed_more (Row ws) (Row us) = some_consumed_more ws us
  consumed_more w u = consumes w

  pub some_consumes_more : StarRow → StarRow → Bool
  some_consumes_more (star_and w ws) (star_and u us) = consumes_more w u || some_consumes_more ws us
  some_consumes_more ws us = false

  pub some_consumed_more : StarRow → StarRow → Bool
  some_consumed_more (star_and w ws) (star_and u us) = consumed_more w u || some_consumed_more ws us
  some_consumed_more ws us = false

unfoldable mutual
  pub gives_less : Stars → Stars → Bool
  gives_less (Arrow b p r) (Arrow c q s) = adds_star s r || given_less p q || gives_less r s
  gives_less (Row ws) (Row us) = some_gives_less ws us
  gives_less w u = false

  pub given_less : Stars → Stars → Bool
  given_less (Arrow b p r) (Arrow c q s) = adds_star r s || gives_less p q || given_less r s
  given_less (Row ws) (Row us) = some_given_less ws us
  given_less w u = false

  pub some_gives_less : StarRow → StarRow → Bool
  some_gives_less (star_and w ws) (star_and u us) = gives_less w u || some_gives_less ws us
  some_gives_less ws us = false

  pub some_given_less : StarRow → StarRow → Bool
  some_given_less (star_and w ws) (star_and u us) = given_less w u || some_given_less ws us
  some_given_less ws us = false

-- ---- what is declared in two ways: a star in either

unfoldable mutual
  pub either : Stars → Stars → Stars
  either (Leaf true) u = Leaf true
  either (Leaf false) u = u
  either (Arrow b p r) (Arrow c q s) = Arrow (b || c) p (either r s)
  either (Row us) (Row vs) = Row (all_either us vs)
  either u v = u

  pub all_either : StarRow → StarRow → StarRow
  all_either (star_and u us) (star_and v vs) = star_and (either u v) (all_either us vs)
  all_either us vs = us
