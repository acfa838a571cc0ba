-- Applications. A call consumes the arguments of its parameters with a star, after all arguments were evaluated; what it gives
-- without a star may share memory with every argument that it did not consume, and with what the function shares with.
use Rattle.std.specs.Prelude.{ℕ, suc, Bool, true, false, ◌||◌, cond, nat_le, List, [], ◌∷◌, ◌++◌, Option, Some, None}
use Rattle.fut_scalar.specs.declared.place.BindId.{BindId}
use Rattle.fut_types.specs.declared.Head.TheVariants as head
use Rattle.fut_types.specs.Types.{Ty, Made, none, more, Kinds}
use Rattle.fut_aliases.specs.Aliases.{Set, is_in, with_alias, union, those, shared, is_outside}
use Rattle.fut_aliases.specs.declared.aliases.Alias.TheVariants.{Own}
use Rattle.fut_aliases.specs.Stars.{Stars, Arrow, no_stars, consumes_more, gives_less}
use Rattle.fut_aliases.specs.Values.{Value, Function, with_stars, aliases, Component, starring, taken, left, functions}
use Rattle.fut_aliases.specs.Steps.{Losses, behind, Step, give, and_then, losses_now, consume, demand, or_else, some_alias, lost}
use Rattle.fut_aliases.specs.declared.refusals.Broken.TheVariants.{Consumed, NotConsumable, Captured, ResultAliases}
use Rattle.fut_aliases.specs.declared.refusals.Broken.{Broken}
use Rattle.fut_aliases.specs.declared.refusals.Named.TheVariants.{ByAlias, ByName}
use Rattle.fut_aliases.specs.declared.refusals.Named.{Named}
use Rattle.fut_aliases.specs.declared.refusals.Spot.TheVariants.{First}
use Rattle.fut_aliases.specs.declared.refusals.Spot.{Spot}
use Rattle.fut_aliases.specs.Patterns.{Scope}

-- where a term stands
pub record Here : Type 0 where
  pub scope : Scope
  -- parameters without a star
  pub fixed : Set
  -- the nodes where the innermost loop or definition begins, and the innermost function
  pub loop_from : ℕ
  pub function_from : ℕ
  -- whether rules are asked for, or only where values flow
  pub asked : Bool

-- a part that was evaluated, whose value waits for the other parts
pub record Held : Type 0 where
  pub node : ℕ
  -- what it is called if it is a function, and the first name in it
  pub called : Named
  pub first_name : Named
  pub value : Value
  -- how much was consumed then
  pub losses : ℕ

-- a term that may be the head of an application, with the arguments so far
pub record Part : Type 0 where
  pub head : Held
  -- a name, or a path of fields from one, that is still to be used
  pub name : Option BindId
  pub type : Ty
  pub arguments : List Held

abbrev pub no_name : Option BindId
no_name = None

-- ---- what may not be consumed

abbrev pub not_consumable : Here → Spot → Set → Option Broken
not_consumable h p s = some_alias (λ n. NotConsumable n p) (those (λ a. is_in a h.fixed || is_outside h.loop_from a) s)

abbrev pub captured : Here → Spot → Set → Option Broken
captured h p s = some_alias (λ n. Captured n p) (those (is_outside h.function_from) s)

-- ---- a function may stand where others are wanted only if it consumes no more and gives nothing less fresh

abbrev pub when : Bool → Broken → Option Broken
when true b = Some b
when false b = None

abbrev pub too_hungry : Stars → Held → Option Broken
too_hungry u a = when (consumes_more u (functions a.value)) (NotConsumable a.called (First a.node))

abbrev pub too_shared : Stars → Held → Option Broken
too_shared u a = when (gives_less u (functions a.value)) (ResultAliases a.first_name (First a.node))

-- ---- no part may share memory with what a later part consumed

abbrev pub held_loss : Losses → Held → Option Broken
held_loss ls a = lost (behind a.losses ls) ByAlias (First a.node) (aliases a.value)

abbrev pub first_broken : {A : Type 0} → (A → Option Broken) → List A → Option Broken
first_broken rule [] = None
first_broken rule (a ∷ more_of) = or_else (rule a) (first_broken rule more_of)

abbrev pub settled : Here → List Held → Step (Unit {0})
settled h parts = and_then losses_now (λ ls. demand h.asked (first_broken (held_loss ls) parts))

-- ---- arguments and their parameters

pub record Given : Type 0 where
  pub argument : Held
  pub stars : Stars

abbrev pub given : List Held → Stars → List Given
given [] u = []
given (a ∷ more_of) (Arrow b p r) = record { argument = a; stars = p } ∷ given more_of r
given (a ∷ more_of) u = record { argument = a; stars = no_stars } ∷ given more_of u

abbrev pub stars_behind : List Held → Stars → Stars
stars_behind [] u = u
stars_behind (a ∷ more_of) (Arrow b p r) = stars_behind more_of r
stars_behind (a ∷ more_of) u = u

abbrev pub type_behind : List Held → Ty → Ty
type_behind [] t = t
type_behind (a ∷ more_of) (Made head.Fun (more p (more r none))) = type_behind more_of r
type_behind (a ∷ more_of) t = t

-- ---- no component that is consumed may share memory with another, or with the function

pub record Side : Type 0 where
  pub node : ℕ
  pub component : Component

abbrev pub sides : ℕ → List Component → List Side
sides n [] = []
sides n (c ∷ cs) = record { node = n; component = c } ∷ sides n cs

abbrev pub given_sides : List Given → List Side
given_sides [] = []
given_sides (g ∷ gs) = sides g.argument.node (starring g.stars g.argument.value) ++ given_sides gs

abbrev pub clash : Side → Side → Option Broken
clash c d = some_alias (λ n. Consumed n (First c.node) (First d.node)) (shared c.component.set d.component.set)

abbrev pub clashes_of : Side → List Side → Option Broken
clashes_of c others = cond c.component.starred (first_broken (clash c) others) None

abbrev pub clashes : List Side → List Side → Option Broken
clashes before [] = None
clashes before (c ∷ cs) = or_else (clashes_of c (before ++ cs)) (clashes (before ++ c ∷ []) cs)

abbrev pub consume_given : List Given → Step (Unit {0})
consume_given [] = give tt
consume_given (g ∷ gs) = and_then (consume (First g.argument.node) (taken g.stars g.argument.value)) (λ z. consume_given gs)

-- ---- what is left of the arguments

abbrev pub left_by : List Given → Set
left_by [] = []
left_by (g ∷ gs) = union (left g.stars g.argument.value) (left_by gs)

abbrev pub given_to : List Held → Set
given_to [] = []
given_to (a ∷ more_of) = union (aliases a.value) (given_to more_of)

abbrev pub unstarred : List Component → ℕ
unstarred [] = 0
unstarred (c ∷ cs) = cond c.starred (unstarred cs) (suc (unstarred cs))

-- the components of a result without a star share a name of the call's own
abbrev pub with_own : ℕ → Bool → Set → Set
with_own n true s = with_alias (Own n) s
with_own n false s = s

abbrev pub call_value : Kinds → ℕ → Set → Stars → Ty → Value
call_value K n s u t = with_stars K (with_own n (nat_le 2 (unstarred (starring u (with_stars K s u t)))) s) u t

abbrev pub stars_of : Value → Stars
stars_of (Function s u) = u
stars_of v = no_stars

abbrev pub starred_argument : Named → Given → Option Broken
starred_argument f g = some_alias_or f (starring g.stars g.argument.value)
  where
    some_alias_or : Named → List Component → Option Broken
    some_alias_or n [] = None
    some_alias_or n (c ∷ cs) = cond c.starred (Some (NotConsumable n (First g.argument.node))) (some_alias_or n cs)

module _ (K : Kinds) (h : Here) where
  -- a name is used where something is done with it; that is the answer's name
  abbrev pub use_name : Part → Step (Unit {0})
  use_name p = use_of p.name
    where
      use_of : Option BindId → Step (Unit {0})
      use_of None = give tt
      use_of (Some b) = and_then losses_now (λ ls. demand h.asked (lost ls (λ a. ByName b) (First p.head.node) (aliases p.head.value)))

  -- fewer arguments than parameters: those so far are kept
  abbrev pub partial : Held → List Held → Step Value
  partial f arguments =
      and_then (demand h.asked (or_else (first_broken (λ g. too_hungry g.stars g.argument) (given arguments (stars_of f.value))) (first_broken (starred_argument f.called) (given arguments (stars_of f.value))))) (λ z.
      and_then (settled h (f ∷ arguments)) (λ y.
      and_then (demand h.asked (first_broken (λ g. too_shared g.stars g.argument) (given arguments (stars_of f.value)))) (λ x.
      give (Function (union (aliases f.value) (given_to arguments)) (stars_behind arguments (stars_of f.value))))))

  -- a call at a node, whose result has a type
  abbrev pub call : ℕ → Held → List Given → Stars → Ty → Step Value
  call n f gs r t =
      and_then (demand h.asked (first_broken (λ g. or_else (too_hungry g.stars g.argument) (not_consumable h (First g.argument.node) (taken g.stars g.argument.value))) gs)) (λ z.
      and_then (demand h.asked (first_broken (λ g. captured h (First g.argument.node) (taken g.stars g.argument.value)) gs)) (λ y.
      and_then (settled h (f ∷ arguments_of gs)) (λ x.
      and_then (demand h.asked (clashes [] (sides f.node (starring no_stars f.value) ++ given_sides gs))) (λ w.
      and_then (demand h.asked (first_broken (λ g. too_shared g.stars g.argument) gs)) (λ v.
      and_then (consume_given gs) (λ u.
      give (call_value K n (union (aliases f.value) (left_by gs)) r t)))))))
    where
      arguments_of : List Given → List Held
      arguments_of [] = []
      arguments_of (g ∷ more_of) = g.argument ∷ arguments_of more_of

  abbrev pub apply_as : ℕ → Part → Stars → Step Value
  apply_as n p (Arrow b q r) = partial p.head p.arguments
  apply_as n p u = call n p.head (given p.arguments (stars_of p.head.value)) u (type_behind p.arguments p.type)

  -- a term at a node by itself
  abbrev pub finished : ℕ → Part → Step Value
  finished n p = finish p.arguments
    where
      finish : List Held → Step Value
      finish [] = and_then (use_name p) (λ z. give p.head.value)
      finish (a ∷ more_of) = apply_as n p (stars_behind p.arguments (stars_of p.head.value))
