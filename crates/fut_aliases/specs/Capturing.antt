-- The names of a term: what a function captures, and how a refusal calls a function.
use Rattle.std.specs.Prelude.{[], Option, Some, None}
use Rattle.fut_ast.specs.Sorts.{Text}
use Rattle.fut_scalar.specs.declared.place.BindId.{BindId}
use Rattle.fut_flat.specs.declared.prim.Ref.{Ref}
use Rattle.fut_flat.specs.declared.prim.Ref.TheVariants as ref
use Rattle.fut_flat.specs.Terms.{Operation, Project, Use, Strict, Lambda, Apply, Let, If, Loop, Terms, no_term, term_and, Counted, Over, While}
use Rattle.fut_flat.specs.Erased.{FlatTerm, FlatTurns}
use Rattle.fut_typing.specs.Names.{Names}
use Rattle.fut_aliases.specs.Aliases.{Set, union}
use Rattle.fut_aliases.specs.Values.{Value, aliases, part_named}
use Rattle.fut_aliases.specs.declared.refusals.Named.TheVariants.{ByName, ByPrimitive, AFunction}
use Rattle.fut_aliases.specs.declared.refusals.Named.{Named}
use Rattle.fut_aliases.specs.Patterns.{Scope}

-- ---- what a term names from outside: a path of fields is that component alone

pub data Capture : Type 0 where
  Path : Value → Capture
  Names_of : Set → Capture

abbrev pub captures : Capture → Set
captures (Path v) = aliases v
captures (Names_of s) = s

abbrev pub capture_of : Option Value → Capture
capture_of (Some v) = Path v
capture_of None = Names_of []

abbrev pub field_capture : Names → Text → Capture → Capture
field_capture N f (Path v) = Path (part_named N f v)
field_capture N f (Names_of s) = Names_of s

abbrev pub one_field : Names → Operation Ref BindId → Capture → Capture
one_field N (Project f) c = field_capture N f c
one_field N o c = Names_of (captures c)

module _ (N : Names) (scope : Scope) where
  unfoldable mutual
    pub capture : FlatTerm → Capture
    capture (Use (ref.Bound b) at k) = capture_of (scope b.0)
    capture (Use r at k) = Names_of []
    capture (Strict o mark (term_and t no_term)) = one_field N o (capture t)
    capture (Strict o mark ts) = Names_of (all_captured ts)
    capture (Lambda ps e) = Names_of (captures (capture e))
    capture (Apply f e) = Names_of (union (captures (capture f)) (captures (capture e)))
    capture (Let b v e) = Names_of (union (captures (capture v)) (captures (capture e)))
    capture (If c t e) = Names_of (union (captures (capture c)) (union (captures (capture t)) (captures (capture e))))
    capture (Loop mark sizes p first turns body) = Names_of (union (captures (capture first)) (union (turns_captured turns) (captures (capture body))))

    pub all_captured : Terms Ref BindId → Set
    all_captured no_term = []
    all_captured (term_and t ts) = union (captures (capture t)) (all_captured ts)

    pub turns_captured : FlatTurns → Set
    turns_captured (Counted i m) = captures (capture m)
    turns_captured (Over p e) = captures (capture e)
    turns_captured (While c) = captures (capture c)

-- ---- how a function is called: by its name if it is one

abbrev pub ref_name : Ref → Option Named
ref_name (ref.Bound b) = Some (ByName b)
ref_name (ref.Prim p) = Some (ByPrimitive p)
ref_name (ref.Scalar s) = None

abbrev pub or_function : Option Named → Named
or_function (Some n) = n
or_function None = AFunction

abbrev pub called : FlatTerm → Named
called (Use r at k) = or_function (ref_name r)
called e = AFunction

-- the first name that stands in it
abbrev pub or_name : Option Named → Option Named → Option Named
or_name (Some n) m = Some n
or_name None m = m

unfoldable mutual
  pub some_name : FlatTerm → Option Named
  some_name (Use r at k) = ref_name r
  some_name (Strict o mark ts) = name_in ts
  some_name (Lambda ps e) = some_name e
  some_name (Apply f e) = or_name (some_name f) (some_name e)
  some_name (Let b v e) = or_name (some_name v) (some_name e)
  some_name (If c t e) = or_name (some_name c) (or_name (some_name t) (some_name e))
  some_name (Loop mark sizes p first turns body) = or_name (some_name first) (or_name (turns_name turns) (some_name body))

  pub name_in : Terms Ref BindId → Option Named
  name_in no_term = None
  name_in (term_and t ts) = or_name (some_name t) (name_in ts)

  pub turns_name : FlatTurns → Option Named
  turns_name (Counted i m) = some_name m
  turns_name (Over p e) = some_name e
  turns_name (While c) = some_name c

abbrev pub first_name : FlatTerm → Named
first_name e = or_function (some_name e)
