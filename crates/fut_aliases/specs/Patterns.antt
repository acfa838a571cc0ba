-- What names stand for, and what patterns bind.
use Rattle.std.specs.Prelude.{ℕ, ◌+◌, Bool, true, false, cond, nat_eq, List, [], ◌∷◌, Option, Some, None}
use Rattle.fut_ast.specs.Sorts.{Text}
use Rattle.fut_scalar.specs.declared.place.BindId.{BindId}
use Rattle.fut_flat.specs.declared.prim.Ref.{Ref}
use Rattle.fut_flat.specs.Terms.{Bound_pattern, Wild_pattern, Tuple_pattern, Record_pattern, Typed_pattern, Patterns, no_pattern, pattern_and}
use Rattle.fut_flat.specs.Numbers.{pattern_numbers}
use Rattle.fut_flat.specs.Erased.{FlatPattern}
use Rattle.fut_types.specs.declared.Head.{Head}
use Rattle.fut_types.specs.Types.{Ty, Made, Sub}
use Rattle.fut_types.specs.Shapes.{place}
use Rattle.fut_typing.specs.Names.{Names}
use Rattle.fut_aliases.specs.Aliases.{Set, Naming, union}
use Rattle.fut_aliases.specs.Stars.{Stars, Row, StarRow, no_star, star_and, spread, star_at, with_star, row_of, written_stars}
use Rattle.fut_aliases.specs.Values.{Value, Parts, Values, value_and, named, left, ascribed, part_named}

abbrev pub Scope : Type 0
Scope = ℕ → Option Value

abbrev pub nothing : Scope
nothing b = None

abbrev pub with_value : ℕ → Value → Scope → Scope
with_value b v scope = λ c. cond (nat_eq c b) (Some v) (scope c)

module _ (N : Names) (types : Sub) where
  -- ---- the stars of a parameter, whose pattern begins at q

  unfoldable mutual
    pub pattern_stars : FlatPattern → ℕ → Stars
    pattern_stars (Typed_pattern p e) q = written_stars N false e (types q)
    pattern_stars (Tuple_pattern ps) q = Row (tuple_stars ps (1 + q))
    pattern_stars (Record_pattern fs ps) q = record_stars fs ps (1 + q) (types q)
    pattern_stars p q = spread false (types q)

    pub tuple_stars : Patterns Ref BindId → ℕ → StarRow
    tuple_stars no_pattern q = no_star
    tuple_stars (pattern_and p ps) q = star_and (pattern_stars p q) (tuple_stars ps (q + pattern_numbers p))

    pub record_stars : List Text → Patterns Ref BindId → ℕ → Ty → Stars
    record_stars (f ∷ fs) (pattern_and p ps) q (Made h ts) = Row (with_star (place N.shapes (N.label f) h) (pattern_stars p q) (row_of (record_stars fs ps (q + pattern_numbers p) (Made h ts))))
    record_stars fs ps q t = spread false t

module _ (naming : Naming) (N : Names) (types : Sub) where
  -- ---- what a pattern that begins at q binds; a parameter's functions stand in their own sets too

  unfoldable mutual
    pub bound : Bool → FlatPattern → ℕ → Value → Scope → Scope
    bound parameter (Bound_pattern b) q v scope = with_value b.0 (named naming parameter q b 0 v) scope
    bound parameter Wild_pattern q v scope = scope
    bound parameter (Tuple_pattern ps) q (Parts h vs) scope = all_bound parameter ps (1 + q) vs scope
    bound parameter (Record_pattern fs ps) q v scope = fields_bound parameter fs ps (1 + q) v scope
    bound parameter (Typed_pattern p e) q v scope = bound parameter p q (ascribed (written_stars N false e (types q)) v) scope
    bound parameter p q v scope = scope

    pub all_bound : Bool → Patterns Ref BindId → ℕ → Values → Scope → Scope
    all_bound parameter (pattern_and p ps) q (value_and v vs) scope = all_bound parameter ps (q + pattern_numbers p) vs (bound parameter p q v scope)
    all_bound parameter ps q vs scope = scope

    pub fields_bound : Bool → List Text → Patterns Ref BindId → ℕ → Value → Scope → Scope
    fields_bound parameter (f ∷ fs) (pattern_and p ps) q v scope = fields_bound parameter fs ps (q + pattern_numbers p) v (bound parameter p q (part_named N f v) scope)
    fields_bound parameter fs ps q v scope = scope

  -- ---- the components of a parameter that have no star

  unfoldable mutual
    pub kept : FlatPattern → ℕ → Stars → Value → Set
    kept (Bound_pattern b) q u v = left u (named naming true q b 0 v)
    kept (Tuple_pattern ps) q (Row us) (Parts h vs) = all_kept ps (1 + q) us vs
    kept (Record_pattern fs ps) q (Row us) (Parts h vs) = fields_kept fs ps (1 + q) h us vs
    kept (Typed_pattern p e) q u v = kept p q u v
    kept p q u v = []

    pub all_kept : Patterns Ref BindId → ℕ → StarRow → Values → Set
    all_kept (pattern_and p ps) q (star_and u us) (value_and v vs) = union (kept p q u v) (all_kept ps (q + pattern_numbers p) us vs)
    all_kept ps q us vs = []

    pub fields_kept : List Text → Patterns Ref BindId → ℕ → Head → StarRow → Values → Set
    fields_kept (f ∷ fs) (pattern_and p ps) q h us vs = union (kept p q (star_at (place N.shapes (N.label f) h) us) (part_named N f (Parts h vs))) (fields_kept fs ps (q + pattern_numbers p) h us vs)
    fields_kept fs ps q h us vs = []
