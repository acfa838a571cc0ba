-- Which arguments, parts and wishes of the definition code's are.
use Rattle.std.specs.Prelude.{◌≡◌, ℕ, Bool, cond, List, [], ◌∷◌, map, Option, Some, None, Ok}
use Rattle.std.specs.Borrow.{Bor}
use Rattle.fut_flat.specs.declared.exp.Exp.{Exp}
use Rattle.fut_flat.specs.Erased.{term_of}
use Rattle.fut_types.specs.Types.{Sub}
use Rattle.fut_typing.specs.Names.{Names}
use Rattle.sized_types.specs.Sizes.{Free, Size}
use Rattle.fut_sizes.specs.Agreeing.{Answer}
use Rattle.fut_sizes.specs.Applications.{Argument, Early, Late, Later, Met, Part, Applied, Waiting, Want, Wanting, is_function}
use Rattle.fut_sizes.specs.Matching.{Found, data_way, function_way, made_at, meet, none_opened, in_opened, read}
use Rattle.fut_sizes.specs.Scopes.{Scope}
use Rattle.fut_sizes.specs.Sizing.{sized}
use Rattle.fut_sizes.specs.Steps.{State, Step, give, ask, and_then}
use Rattle.size_arena.specs.declared.dims.Free as frees
use Rattle.size_arena.specs.declared.trees.SizeTree.{SizeTree}
use Rattle.size_arena.specs.Frames.{opened_of}
use Rattle.size_arena.specs.Trees.{free_of, size_of}
use Rattle.size_program.specs.declared.maps.NumberMap.{NumberMap}
use Rattle.size_program.specs.Tables.{In_scope}
use Rattle.size_applying.specs.declared.arguments.Argument as arguments
use Rattle.size_applying.specs.declared.arguments.Argument.TheVariants as argument
use Rattle.size_applying.specs.declared.arguments.Later as laters
use Rattle.size_applying.specs.declared.arguments.Part as parts
use Rattle.size_applying.specs.declared.arguments.Part.TheVariants as part
use Rattle.size_applying.specs.declared.arguments.Want as wants
use Rattle.size_applying.specs.declared.arguments.Wanting as wantings

-- two lists whose items stand in a relation, place by place
pub data Each {A B : Type 0} (R : A → B → Type 0) : List A → List B → Type 0 where
  none_each : Each R [] []
  one_each : {x : A} {y : B} {xs : List A} {ys : List B} → R x y → Each R xs ys → Each R (x ∷ xs) (y ∷ ys)

abbrev pub value_of : Option frees.Free → Option Free
value_of None = None
value_of (Some d) = Some (free_of d)

-- as a size, what an argument is worth that is sized already
abbrev pub early_value : arguments.Argument → Option frees.Free
early_value (argument.Early n value named t) = value
early_value (argument.Late e n names) = None

-- ---- lambdas that wait

-- what is sized late at a node: in a scope that its map stands for, the definition gives it for this expression
pub record Waits (N : Names) (types : Sub) (e : Exp) (n : ℕ) (names : NumberMap) (bs : List ℕ) (f : Option Want → Found → Step Met) : Type 0 where
  pub scope : Scope
  pub in_scope : In_scope names scope
  pub sized_so : (s : State) → sized N types (term_of e) bs n scope s ≡ Ok (record { result = Waiting f; state = s })

-- ---- arguments and parts

pub data Is_argument (N : Names) (types : Sub) : arguments.Argument → Argument → Type 0 where
  is_early : {n : ℕ} {value : Option frees.Free} {named : Bool} {t : Bor SizeTree} → Is_argument N types (argument.Early n value named t) (Early n (value_of value) named (size_of t.now))
  is_late : {e : Bor Exp} {n : ℕ} {names : Bor NumberMap} {f : Option Want → Found → Step Met} → Waits N types e.now n names.now [] f → Is_argument N types (argument.Late e n names) (Late n f)

abbrev pub Are_arguments : Names → Sub → List arguments.Argument → List Argument → Type 0
Are_arguments N types = Each (Is_argument N types)

pub data Is_part (N : Names) (types : Sub) : parts.Part → Part → Type 0 where
  is_applied : {t : Bor SizeTree} {regular : Bool} {xs : Bor (List arguments.Argument)} {given : List Argument} → Are_arguments N types xs.now given → Is_part N types (part.Applied t regular xs) (Applied (size_of t.now) regular given)
  is_waiting : {e : Bor Exp} {n : ℕ} {names : Bor NumberMap} {bs : Bor (List ℕ)} {f : Option Want → Found → Step Met} → Waits N types e.now n names.now bs.now f → Is_part N types (part.Waiting e n names bs) (Waiting f)

-- ---- what is wanted

abbrev pub want_is : wants.Want → Want
want_is w = record { node = w.node; is_regular = w.is_regular; size = size_of w.size.now }

pub record Wants (N : Names) (types : Sub) (c : wantings.Wanting) (w : Wanting) : Type 0 where
  pub node : c.node ≡ w.node
  pub argument : Is_argument N types c.argument w.argument
  pub opened : opened_of c.frames.now ≡ w.opened
  pub wanted : size_of c.wanted.now ≡ w.wanted

abbrev pub All_want : Names → Sub → List wantings.Wanting → List Wanting → Type 0
All_want N types = Each (Wants N types)

-- the sized type of a node, in the frames of the function types around it
abbrev pub later_size : laters.Later → Size
later_size l = in_opened (opened_of l.frames.now) (size_of l.size.now)

abbrev pub later_of : laters.Later → Later
later_of l = record { node = l.node; size = later_size l }

abbrev pub laters_of : List laters.Later → List Later
laters_of = map later_of

-- ---- one argument is matched

-- one that is no function
abbrev pub datum_met : Wanting → Found → Answer Found
datum_met w σ = one w.argument
  where
    one : Argument → Answer Found
    one (Early at value named t) = cond (is_function t) (Ok σ) (meet w.node data_way at w.opened w.wanted none_opened t (made_at w.node σ))
    one (Late at f) = Ok σ

-- one that is a function and sized already
abbrev pub function_met : Bool → Wanting → Found → Answer Found
function_met regular w σ = one w.argument
  where
    one : Argument → Answer Found
    one (Early at value named t) = cond (is_function t) (meet w.node (function_way regular) at w.opened w.wanted none_opened t (made_at w.node σ)) (Ok σ)
    one (Late at f) = Ok σ

-- what is wanted of a lambda
abbrev pub wish : Bool → Wanting → Found → Want
wish regular w σ = record { node = w.node; is_regular = regular; size = read σ (in_opened w.opened w.wanted) }

-- one that is a function, also a lambda, which is sized now
abbrev pub function_taken : Bool → Wanting → Found → Step Found
function_taken regular w σ = one w.argument
  where
    one : Argument → Step Found
    one (Early at value named t) = ask (function_met regular w σ)
    one (Late at f) = and_then (f (Some (wish regular w σ)) (made_at w.node σ)) (λ m. give m.found)
