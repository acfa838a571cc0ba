-- The value of a term as a size.
use Rattle.std.specs.Prelude.{Option, Some, None, cond}
use Rattle.fut_flat.specs.declared.prim.Ref.TheVariants as ref
use Rattle.fut_flat.specs.Erased.{FlatTerm}
use Rattle.fut_flat.specs.Terms.{Integer, Use, Strict, no_term}
use Rattle.sized_types.specs.Sizes.{Free, Const, Name}
use Rattle.fut_sizes.specs.Agreeing.{fits_i64}
use Rattle.size_arena.specs.declared.dims.Free as frees
use Rattle.size_arena.specs.Trees.{free_of}

-- one that may be there
abbrev pub free_held : Option frees.Free → Option Free
free_held None = None
free_held (Some d) = Some (free_of d)

-- the name or the constant that a term is
abbrev pub plain_value : FlatTerm → Option Free
plain_value (Use (ref.Bound b) at k) = Some (Name b.0)
plain_value (Strict (Integer c t) mark no_term) = Some (Const c)
plain_value e = None

-- a constant is no size where no i64 holds it
abbrev pub fitting : Free → Option Free
fitting (Const c) = cond (fits_i64 c) (Some (Const c)) None
fitting d = Some d
