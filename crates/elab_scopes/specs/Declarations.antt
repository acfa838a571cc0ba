-- The declarations of files: modules are environments, and a parametric module is a function from modules to modules whose
-- body is declared anew at each application (Futhark Language Reference, "Module System").
use Rattle.std.specs.Prelude.{ℕ, zero, suc, length, ◌++◌, nat_eq, nat_lt, cond, codes, Bool, true, false, List, [], ◌∷◌, map, Option, Some, None, Result, Ok, Err}
use Rattle.std.specs.Str.{bytes_eq}
use Rattle.fut_scalar.specs.declared.place.Place.{Place}
use Rattle.fut_scalar.specs.declared.scalar.ScalarType.{ScalarType}
use Rattle.fut_scalar.specs.declared.scalar.ScalarType.TheVariants as scalar
use Rattle.fut_ast.specs.Sorts.{Text, Path, SourceType}
use Rattle.fut_ast.specs.Nodes.{blanks}
use Rattle.fut_ast.specs.ModRows.{mod_at}
use Rattle.fut_ast.specs.declared.node.Label.{Label}
use Rattle.fut_ast.specs.declared.pat.Head.{Head}
use Rattle.fut_ast.specs.declared.module.Dec.{Dec, out-Dec}
use Rattle.fut_ast.specs.declared.module.DecForm.{DecForm, DecForm-F, out-DecForm}
use Rattle.fut_ast.specs.declared.module.ModExp.{ModExp, out-ModExp}
use Rattle.fut_ast.specs.declared.module.ModForm.{ModForm, ModForm-F, out-ModForm}
use Rattle.fut_ast.specs.declared.module.ModForm.TheVariants as form
use Rattle.fut_ast.specs.declared.module.ModType.{ModType, out-ModType}
use Rattle.fut_ast.specs.declared.module.ModTypeForm.{ModTypeForm, ModTypeForm-F, out-ModTypeForm}
use Rattle.fut_ast.specs.declared.module.Param.{Param}
use Rattle.fut_ast.specs.declared.module.Spec.{Spec, out-Spec}
use Rattle.fut_ast.specs.declared.module.SpecForm.{SpecForm, SpecForm-F, out-SpecForm}
use Rattle.fut_ast.specs.declared.module.With.{With}
use Rattle.fut_flat.specs.declared.prim.Primitive.{Primitive}
use Rattle.fut_flat.specs.declared.prim.Primitive.TheVariants as prim
use Rattle.fut_flat.specs.declared.prim.Ref.{Ref}
use Rattle.fut_flat.specs.declared.prim.Ref.TheVariants as ref
use Rattle.fut_flat.specs.Terms.{Type_use, no_arg, Declared, Ascribe, Use, Strict, Terms, no_term, term_and}
use Rattle.fut_flat.specs.Sources.{Spelled, spelled, SourceTerm, WrittenType, source_type}
use Rattle.fut_primitives.specs.Table.{name, scalar_name}
use Rattle.fut_primitives.specs.Names.{integer_members}
use Rattle.fut_primitives.specs.declared.names.TheConstants.{SCALAR_TYPES}
use Rattle.elab_scopes.specs.Names.{Refusal, Unbound, Twice, NoMember, SealMissing, TooManyApplications, TooFar}
use Rattle.elab_scopes.specs.Scopes.{Module_ref, made_module, scalar_module, Member, value_member, type_member, module_member, signature_member, Contents, members, parametric, value_among, type_among, module_among, signature_among, contents_at, members_of, value_in_module, type_in_module, module_in_module, or_deeper, type_inside, a_world, Scope, module_at, signature_at}
use Rattle.elab_scopes.specs.Resolve.{Numbered, after}
use Rattle.elab_scopes.specs.Programs.{DecLayer, FlatDefinition, define, definition_term, is_entry_named}
use Rattle.elab_scopes.specs.Imports.{Source_file, item, imported_file}

-- ---- what was declared so far

-- a definition, with what it sees and what is written
pub record Instance : Type 0 where
  pub scope : Scope
  pub heads : List Head
  pub value : SourceTerm
  pub flat : FlatDefinition

-- what an application of a parametric module gives: the body declared anew, as a module of its module type; what another
-- parametric module gives, which then meets a module type, with types hidden or shown; or nothing but its names
pub data Giving : Type 0 where
  the_body : Option ModType → ModExp → Giving
  of_another : ℕ → Bool → ModType → Giving
  names_alone : Giving

-- a parametric module: its file, its parameter with its module type, what all its parts see, what an application gives, and the
-- module that it gives where names alone are looked at
pub record Functor : Type 0 where
  pub file : ℕ
  pub parameter : Text
  pub bound : ModType
  pub names : List Member
  pub gives : Giving
  pub bare : Module_ref

-- a module type, and what it sees
pub record Signature : Type 0 where
  pub tree : ModType
  pub names : List Member

-- the text of each number; modules, parametric modules and module types by their numbers; the definitions; how often
-- parametric modules were applied; the names that each file starts with; and the modules of the files that were declared
pub record State : Type 0 where
  pub made : List Text
  pub modules : List Contents
  pub functors : List Functor
  pub signatures : List Signature
  pub instances : List Instance
  pub applications : ℕ
  pub start : List Member
  pub loaded : List (ℕ × Module_ref)

abbrev pub Step : Type 0 → Type 0
Step A = State → Result (A × State) Refusal

-- where a part stands: its file, whether it counts or its names alone are looked at, and the names that it sees
pub record Here : Type 0 where
  pub file : ℕ
  pub live : Bool
  pub names : List Member

abbrev pub seeing : List Member → Here → Here
seeing ms h = record { file = h.file; live = h.live; names = ms }

abbrev pub also_seeing : Member → Here → Here
also_seeing m h = seeing (m ∷ h.names) h

abbrev pub bare : Here → Here
bare h = record { file = h.file; live = false; names = h.names }

abbrev pub with_module : Contents → State → State
with_module c s = record { made = s.made; modules = s.modules ++ c ∷ []; functors = s.functors; signatures = s.signatures; instances = s.instances; applications = s.applications; start = s.start; loaded = s.loaded }

-- a module, which has the next number
abbrev pub new_module : Contents → Step Module_ref
new_module c s = Ok (made_module (length s.modules), with_module c s)

abbrev pub with_functor : Functor → State → State
with_functor f s = record { made = s.made; modules = s.modules; functors = s.functors ++ f ∷ []; signatures = s.signatures; instances = s.instances; applications = s.applications; start = s.start; loaded = s.loaded }

abbrev pub new_functor : Functor → Step Contents
new_functor f s = Ok (parametric (length s.functors), with_functor f s)

abbrev pub with_signature : Signature → State → State
with_signature g s = record { made = s.made; modules = s.modules; functors = s.functors; signatures = s.signatures ++ g ∷ []; instances = s.instances; applications = s.applications; start = s.start; loaded = s.loaded }

abbrev pub once_more : State → State
once_more s = record { made = s.made; modules = s.modules; functors = s.functors; signatures = s.signatures; instances = s.instances; applications = suc s.applications; start = s.start; loaded = s.loaded }

abbrev pub with_instance : List Text → Instance → State → State
with_instance made i s = record { made = made; modules = s.modules; functors = s.functors; signatures = s.signatures; instances = s.instances ++ i ∷ []; applications = s.applications; start = s.start; loaded = s.loaded }

abbrev pub starting_with : List Member → State → State
starting_with ms s = record { made = s.made; modules = s.modules; functors = s.functors; signatures = s.signatures; instances = s.instances; applications = s.applications; start = ms; loaded = s.loaded }

abbrev pub with_loaded : ℕ → Module_ref → State → State
with_loaded k m s = record { made = s.made; modules = s.modules; functors = s.functors; signatures = s.signatures; instances = s.instances; applications = s.applications; start = s.start; loaded = (k, m) ∷ s.loaded }

-- what stands for a value or a type where names alone are looked at; and for a type that a module type leaves open there
abbrev pub no_value : Ref
no_value = ref.Prim prim.Copy

abbrev pub no_type : Ref
no_type = ref.Scalar scalar.Bool

abbrev pub open_type : Ref
open_type = ref.Prim prim.Copy

abbrev pub scope_at : Here → State → Scope
scope_at h s = a_world (record { names = h.names; modules = s.modules }) ∷ []

unfoldable pub defined : Ref → Here → Scope → List Head → SourceTerm → State → Numbered FlatDefinition → Result (Ref × State) Refusal
defined other h sc heads value s (Err e) = Err e
defined other h sc heads value s (Ok (d, made)) = cond h.live (Ok (ref.Bound d.bind, with_instance made (record { scope = sc; heads = heads; value = value; flat = d }) s)) (Ok (other, s))

-- a definition: it counts where its part does
unfoldable pub declare : Ref → Here → Bool → Text → List Head → SourceTerm → Step Ref
declare other h is_entry x heads value s = defined other h (scope_at h s) heads value s (define h.file is_entry x heads value (scope_at h s) s.made)

-- ---- types are definitions too, whose values are never asked for

abbrev pub type_term : Place → WrittenType → SourceTerm
type_term at t = Strict (Declared t) at no_term

-- Names that no text can spell: the member of the module that meets a module type, and a type that is given for one.
abbrev pub inner_name : Text
inner_name = blanks 4

abbrev pub given_name : Text
given_name = blanks 5

abbrev pub named_type : Text → Place → WrittenType
named_type x at = Type_use (spelled (x ∷ []) at) no_arg

abbrev pub one : SourceTerm → Terms Spelled Label
one t = term_and t no_term

-- the value of a module as a member of a written type
abbrev pub sealed_term : Place → SourceType → SourceTerm
sealed_term at t = Strict (Declared (source_type t)) at (one (Use (spelled (inner_name ∷ []) at) at 0))

-- a new type that hides the module's
abbrev pub hiding_term : Place → SourceTerm
hiding_term at = type_term at (named_type inner_name at)

-- the module's type, which has to be this one
abbrev pub same_term : Place → WrittenType → SourceTerm
same_term at t = Strict (Ascribe (named_type inner_name at)) at (one (type_term at t))

-- ---- the parts of modules, one level at a time

-- a type that another gives for one which a module type leaves open (`with`): its path, and what it is
pub record Given_type : Type 0 where
  pub path : Path
  pub type : Ref

-- what meets a module type: a module whose types are hidden where the module type has no others for them; one whose types are
-- shown, as an argument's, both with types that are given; or nothing, where names alone are looked at
pub data Meeting : Type 0 where
  hidden : Module_ref → List Given_type → Meeting
  shown : Module_ref → List Given_type → Meeting
  nothing : Meeting

-- What a module expression gives; what a module type makes of what it meets; what the parametric module of a number gives for
-- an argument; and the module of a file.
pub record Walks : Type 0 where
  pub module_of : Here → ModExp → Step Module_ref
  pub met : Here → Meeting → ModType → Step Contents
  pub applied : Here → ℕ → Module_ref → Step Module_ref
  pub file_of : ℕ → Step Module_ref

abbrev pub from : {A : Type 0} → Result A Refusal → Step A
from (Ok a) s = Ok (a, s)
from (Err e) s = Err e

abbrev pub as_value : Text → Step Ref → Step (List Member)
as_value x r s = after (r s) (λ r s. Ok (value_member x r ∷ [], s))

abbrev pub as_type : Text → Step Ref → Step (List Member)
as_type x r s = after (r s) (λ r s. Ok (type_member x r ∷ [], s))

abbrev pub as_module : Text → Step Module_ref → Step (List Member)
as_module x r s = after (r s) (λ m s. Ok (module_member x m ∷ [], s))

abbrev pub as_members : Step (List Member) → Step Contents
as_members ms s = after (ms s) (λ ms s. Ok (members ms, s))

-- the members of the module of a scalar type: the conversions to it, and what an integer type has besides
abbrev pub conversion : ScalarType → ScalarType → Member
conversion to from = value_member (scalar_name from) (ref.Prim (prim.Convert to from))

abbrev pub primitive_member : Primitive → Member
primitive_member p = value_member (name p) (ref.Prim p)

abbrev pub other_members : ScalarType → List Primitive
other_members (scalar.Int t) = integer_members t
other_members scalar.Bool = []

unfoldable pub scalar_members : ScalarType → List Member
scalar_members t = map (conversion t) SCALAR_TYPES ++ map primitive_member (other_members t)

abbrev pub contents_of : State → Module_ref → Contents
contents_of s (made_module k) = contents_at s.modules k
contents_of s (scalar_module t) = members (scalar_members t)

-- how a module or a module type is called
abbrev pub joined : Text → Path → Text
joined x [] = x
joined x (y ∷ ys) = x ++ 46 ∷ joined y ys

abbrev pub ModLayer : Type 0
ModLayer = ModForm-F DecForm ModForm Dec ModExp

abbrev pub called : ModLayer → Text
called (ModForm-F.Path (x ∷ xs)) = joined x xs
called l = codes "module"

abbrev pub SigLayer : Type 0
SigLayer = ModTypeForm-F ModTypeForm SpecForm ModType Spec

abbrev pub type_called : SigLayer → Text
type_called (ModTypeForm-F.Path (x ∷ xs)) = joined x xs
type_called l = codes "module type"

abbrev pub in_body : Here → Text → Module_ref → List Member → Here
in_body h x m ns = seeing (module_member x m ∷ ns) h

-- the parts of a parametric module stand where it was declared
abbrev pub within : Here → Functor → Module_ref → Here
within h f p = record { file = f.file; live = h.live; names = module_member f.parameter p ∷ f.names }

-- the number of what is a parametric module
abbrev pub function_in : Contents → Option ℕ
function_in (members ms) = None
function_in (parametric k) = Some k

-- ---- module types

-- the types and modules among members, which later members of a module type see
abbrev pub seen_later : List Member → List Member
seen_later [] = []
seen_later (value_member x r ∷ ms) = seen_later ms
seen_later (type_member x r ∷ ms) = type_member x r ∷ seen_later ms
seen_later (module_member x m ∷ ms) = module_member x m ∷ seen_later ms
seen_later (signature_member x k ∷ ms) = seen_later ms

-- the member of the module that is met, or it lacks one
unfoldable pub member_of_met : {A B : Type 0} → Label → Option A → (A → Step B) → Step B
member_of_met x None k s = Err (SealMissing x.name x.place)
member_of_met x (Some a) k s = k a s

-- what is given for the type of this name, and for those of the module of this name
abbrev pub given_at : Path → Text → Ref → Option Ref → Option Ref
given_at (y ∷ []) x r others = cond (bytes_eq y x) (Some r) others
given_at ys x r others = others

unfoldable pub given_for : List Given_type → Text → Option Ref
given_for [] x = None
given_for (g ∷ gs) x = given_at g.path x g.type (given_for gs x)

abbrev pub given_below : Path → Text → Ref → List Given_type → List Given_type
given_below (y ∷ z ∷ ys) x r others = cond (bytes_eq y x) (record { path = z ∷ ys; type = r } ∷ others) others
given_below ys x r others = others

unfoldable pub given_within : List Given_type → Text → List Given_type
given_within [] x = []
given_within (g ∷ gs) x = given_below g.path x g.type (given_within gs x)

abbrev pub value_met : Here → Label → List Head → SourceType → Ref → Step (List Member)
value_met h x heads t r = as_value x.name (declare no_value (also_seeing (value_member inner_name r) h) false x.name heads (sealed_term x.place t))

-- the module's type is to be the one that is written, or given
abbrev pub same_type : Here → Label → WrittenType → Ref → Step (List Member)
same_type h x t r = as_type x.name (declare no_type (also_seeing (type_member inner_name r) h) false x.name [] (same_term x.place t))

abbrev pub given_type : Here → Label → Ref → Ref → Step (List Member)
given_type h x g r = same_type (also_seeing (type_member given_name g) h) x (named_type given_name x.place) r

-- a type that the module type leaves open: new outside, or the module's own
abbrev pub hidden_type : Here → Label → Option Ref → Ref → Step (List Member)
hidden_type h x (Some g) r = given_type h x g r
hidden_type h x None r = as_type x.name (declare no_type (also_seeing (type_member inner_name r) h) false x.name [] (hiding_term x.place))

abbrev pub shown_type : Here → Label → Option Ref → Ref → Step (List Member)
shown_type h x (Some g) r s = given_type h x g r s
shown_type h x None r s = Ok (type_member x.name r ∷ [], s)

abbrev pub SpecLayer : Type 0
SpecLayer = SpecForm-F ModTypeForm SpecForm ModType Spec

abbrev pub value_spec : Here → Meeting → Label → List Head → SourceType → Step (List Member)
value_spec h nothing x heads t s = as_value x.name (declare no_value h false x.name heads (type_term x.place (source_type t))) s
value_spec h (hidden m gs) x heads t s = member_of_met x (value_in_module s.modules m x.name) (value_met h x heads t) s
value_spec h (shown m gs) x heads t s = member_of_met x (value_in_module s.modules m x.name) (value_met h x heads t) s

abbrev pub type_spec : Here → Meeting → Label → Option SourceType → Step (List Member)
type_spec h nothing x None s = Ok (type_member x.name open_type ∷ [], s)
type_spec h nothing x (Some t) s = as_type x.name (declare no_type h false x.name [] (type_term x.place (source_type t))) s
type_spec h (hidden m gs) x None s = member_of_met x (type_in_module s.modules m x.name) (hidden_type h x (given_for gs x.name)) s
type_spec h (hidden m gs) x (Some t) s = member_of_met x (type_in_module s.modules m x.name) (same_type h x (source_type t)) s
type_spec h (shown m gs) x None s = member_of_met x (type_in_module s.modules m x.name) (shown_type h x (given_for gs x.name)) s
type_spec h (shown m gs) x (Some t) s = member_of_met x (type_in_module s.modules m x.name) (same_type h x (source_type t)) s

-- the types that are given by `with`, as definitions
abbrev pub last_name : Path → Text
last_name [] = []
last_name (x ∷ []) = x
last_name (x ∷ y ∷ ys) = last_name (y ∷ ys)

abbrev pub with_type : Here → With → Step Ref
with_type h w = declare no_type h false (last_name w.path) [] (type_term w.place (source_type w.ty))

unfoldable pub with_types : Here → List With → List Given_type → Step (List Given_type)
with_types h [] gs s = Ok (gs, s)
with_types h (w ∷ ws) gs s = after (with_type h w s) (λ r s. with_types h ws (record { path = w.path; type = r } ∷ gs) s)

-- a type is given for one that the module type leaves open, and for that once
abbrev pub open_or : Place → Path → Result Ref Refusal → Result Ref Refusal
open_or at p (Err e) = Err e
open_or at p (Ok (ref.Prim q)) = Ok no_type
open_or at p (Ok (ref.Bound b)) = Err (NoMember (last_name p) at)
open_or at p (Ok (ref.Scalar t)) = Err (NoMember (last_name p) at)

abbrev pub left_open : List Contents → Place → Module_ref → Path → Result Ref Refusal
left_open cs at m [] = Err (Unbound [] at)
left_open cs at m (x ∷ xs) = open_or at (x ∷ xs) (type_inside cs at m x xs)

abbrev pub with_member : Member → Module_ref → Step Module_ref
with_member a m s = new_module (members (a ∷ members_of (contents_of s m))) s

-- a module with another type at this path
unfoldable pub with_type_at : Module_ref → Text → Path → Ref → Step Module_ref
with_type_at m x [] r s = with_member (type_member x r) m s
with_type_at m x (y ∷ ys) r s = or_deeper (module_in_module s.modules m x) (λ n. after (with_type_at n y ys r s) (λ n s. with_member (module_member x n) m s)) (Ok (m, s))

abbrev pub given_in : Module_ref → Path → Ref → Step Module_ref
given_in m [] r s = Ok (m, s)
given_in m (x ∷ xs) r s = with_type_at m x xs r s

-- what is behind a module type, where names alone are looked at
unfoldable pub refined : Here → Module_ref → List With → Step Module_ref
refined h m [] s = Ok (m, s)
refined h m (w ∷ ws) s =
    after (from (left_open s.modules w.place m w.path) s) (λ r s.
    after (with_type h w s) (λ r s.
    after (given_in m w.path r s) (λ m s.
    refined h m ws s)))

-- what is included has members
abbrev pub included : Place → Text → Contents → Step (List Member)
included at x (members ms) s = Ok (ms, s)
included at x (parametric k) s = Err (Unbound x at)

-- ---- declarations

-- the names in scope, those that the module exports, and those that it declared itself, the newest first
pub record Block : Type 0 where
  pub names : List Member
  pub exported : List Member
  pub own : List Member

abbrev pub no_names : List Member → Block
no_names ns = record { names = ns; exported = []; own = [] }

-- what a declaration brings; it is exported unless the declaration is local
abbrev pub brought : Bool → List Member → List Member → Block → Block
brought is_local ms own b = record { names = ms ++ b.names; exported = cond is_local b.exported (ms ++ b.exported); own = cond is_local b.own (own ++ b.own) }

-- a name may be declared once in a module in each space
unfoldable pub once : {A : Type 0} → Bool → Label → Option A → Step Block → Step Block
once true x o k s = k s
once false x None k s = k s
once false x (Some a) k s = Err (Twice x.name x.place)

abbrev pub declares : Bool → Block → Step (List Member) → Step Block
declares is_local b ms s = after (ms s) (λ ms s. Ok (brought is_local ms ms b, s))

-- the parameters of a module one after the other, the last with the module type of the body
abbrev pub curried : Place → Param → List Param → Option ModType → ModExp → ModExp
curried at p [] t m = mod_at at (form.Lambda p.label p.bound t m)
curried at p (q ∷ ps) t m = mod_at at (form.Lambda p.label p.bound None (curried at q ps t m))

-- the members of a module come in scope; a parametric module has none
abbrev pub opened : Bool → Place → Text → Contents → Block → Step Block
opened is_local at x (members ms) b s = Ok (brought is_local ms [] b, s)
opened is_local at x (parametric k) b s = Err (Unbound x at)

-- a run may begin at what stands directly in its file
abbrev pub may_begin : Bool → Bool → Text → Bool
may_begin is_top is_entry x = cond is_top (is_entry_named is_entry x) false

abbrev pub loaded_at : List (ℕ × Module_ref) → ℕ → Option Module_ref
loaded_at [] k = None
loaded_at (l ∷ ls) k = cond (nat_eq l.0 k) (Some l.1) (loaded_at ls k)

abbrev pub decs_of : Option Source_file → List Dec
decs_of None = []
decs_of (Some f) = f.program.decs

module _ (files : List Source_file) (R : Walks) where
  -- a module with what a module type makes of what it meets
  abbrev pub module_met : Here → Meeting → ModType → Step Module_ref
  module_met h meeting t s = after (R.met h meeting t s) new_module

  abbrev pub module_spec : Here → Meeting → Label → ModType → Step (List Member)
  module_spec h nothing x t s = as_module x.name (module_met h nothing t) s
  module_spec h (hidden m gs) x t s = member_of_met x (module_in_module s.modules m x.name) (λ n. as_module x.name (module_met h (hidden n (given_within gs x.name)) t)) s
  module_spec h (shown m gs) x t s = member_of_met x (module_in_module s.modules m x.name) (λ n. as_module x.name (module_met h (shown n (given_within gs x.name)) t)) s

  abbrev pub spec_with : Here → Meeting → SpecLayer → Step (List Member)
  spec_with h meeting (SpecForm-F.Value x heads t) s = value_spec h meeting x heads t s
  spec_with h meeting (SpecForm-F.TypeName x t) s = type_spec h meeting x t s
  spec_with h meeting (SpecForm-F.Module x t) s = module_spec h meeting x t s
  spec_with h meeting (SpecForm-F.Include t) s = after (R.met h meeting t s) (included (out-ModType t).place (type_called (out-ModTypeForm (out-ModType t).form)))

  -- members one after the other
  unfoldable pub specs_with : Here → Meeting → List Spec → List Member → Step (List Member)
  specs_with h meeting [] out s = Ok (out, s)
  specs_with h meeting (sp ∷ ss) out s = after (spec_with h meeting (out-SpecForm (out-Spec sp).form) s) (λ ms s. specs_with (seeing (seen_later ms ++ h.names) h) meeting ss (ms ++ out) s)

  abbrev pub signature_met : Here → Meeting → Option Signature → Step Contents
  signature_met h meeting None s = Err TooFar
  signature_met h meeting (Some g) s = R.met (seeing g.names h) meeting g.tree s

  -- the module type is looked at, then each type that is given, in order of text; then the module type meets what it is to meet
  abbrev pub refined_met : Here → Meeting → ModType → List With → Module_ref → Step Contents
  refined_met h nothing t ws m s = Ok (contents_of s m, s)
  refined_met h (hidden n gs) t ws m s = after (with_types h ws gs s) (λ gs. R.met h (hidden n gs) t)
  refined_met h (shown n gs) t ws m s = after (with_types h ws gs s) (λ gs. R.met h (shown n gs) t)

  -- A parametric module meets `(x: t) -> u`: its argument is to meet t, and what it gives for that meets u. This is looked at once
  -- for a parameter that has no more than t says.
  abbrev pub function_met : Here → Bool → Label → ModType → ModType → Module_ref → ℕ → Step Contents
  function_met h hides x t u p k s =
      after (R.applied (bare h) k p s) (λ r s.
      after (module_met (in_body (bare h) x.name p h.names) (hidden r []) u s) (λ m.
      new_functor (record { file = h.file; parameter = x.name; bound = t; names = h.names; gives = of_another k hides u; bare = m })))

  abbrev pub arrow_met : Here → Meeting → Label → ModType → ModType → Module_ref → Step Contents
  arrow_met h nothing x t u p s = after (module_met (in_body (bare h) x.name p h.names) nothing u s) (λ m. new_functor (record { file = h.file; parameter = x.name; bound = t; names = h.names; gives = names_alone; bare = m }))
  arrow_met h (hidden n gs) x t u p s = member_of_met x (function_in (contents_of s n)) (function_met h true x t u p) s
  arrow_met h (shown n gs) x t u p s = member_of_met x (function_in (contents_of s n)) (function_met h false x t u p) s

  abbrev pub sig_with : Here → Meeting → Place → SigLayer → Step Contents
  sig_with h meeting at (ModTypeForm-F.Path p) s = after (from (signature_at (record { names = h.names; modules = s.modules }) at p) s) (λ k s. signature_met h meeting (item s.signatures k) s)
  sig_with h meeting at (ModTypeForm-F.Specs ss) s = as_members (specs_with h meeting ss []) s
  sig_with h meeting at (ModTypeForm-F.With t ws) s = after (module_met (bare h) nothing t s) (λ m s. after (refined (bare h) m ws s) (refined_met h meeting t ws))
  sig_with h meeting at (ModTypeForm-F.Arrow x t u) s = after (module_met (bare h) nothing t s) (arrow_met h meeting x t u)

  -- ---- module expressions

  -- the module type of a body or a declaration is looked at where it stands
  abbrev pub looked_at : Here → Option ModType → Step Contents
  looked_at h None s = Ok (members [], s)
  looked_at h (Some t) s = R.met (bare h) nothing t s

  abbrev pub sealed_by : Here → Option ModType → Module_ref → Step Module_ref
  sealed_by h None m s = Ok (m, s)
  sealed_by h (Some t) m s = module_met h (hidden m []) t s

  -- the names of a parametric module's body are looked at where it stands, with a parameter that has no contents
  abbrev pub lambda_with : Here → Label → ModType → Option ModType → ModExp → Step Contents
  lambda_with h x t u body s =
      after (module_met (bare h) nothing t s) (λ p s.
      after (looked_at (in_body h x.name p h.names) u s) (λ c s.
      after (R.module_of (in_body (bare h) x.name p h.names) body s) (λ m s.
      after (sealed_by (in_body (bare h) x.name p h.names) u m s) (λ m.
      new_functor (record { file = h.file; parameter = x.name; bound = t; names = h.names; gives = the_body u body; bare = m })))))

  -- the body is declared anew, with the argument's members that the parameter has
  abbrev pub given_by : Here → Functor → Giving → Module_ref → Step Module_ref
  given_by h f (the_body t body) p s = after (R.module_of (within h f p) body s) (sealed_by (within h f p) t)
  given_by h f (of_another k true t) p s = after (R.applied h k p s) (λ m. module_met (within h f p) (hidden m []) t)
  given_by h f (of_another k false t) p s = after (R.applied h k p s) (λ m. module_met (within h f p) (shown m []) t)
  given_by h f names_alone p s = Ok (f.bare, s)

  -- where names alone are looked at, the argument has the members, and the body was looked at before
  abbrev pub result_of : Bool → Here → Functor → Module_ref → Step Module_ref
  result_of true h f p s = given_by h f f.gives p s
  result_of false h f p s = Ok (f.bare, s)

  abbrev pub applied_with : Here → Option Functor → Module_ref → Step Module_ref
  applied_with h None m s = Err TooFar
  applied_with h (Some f) m s = after (module_met (seeing f.names h) (shown m []) f.bound s) (result_of h.live h f)

  abbrev pub counted : Bool → Here → Place → ℕ → Module_ref → Step Module_ref
  counted true h at k m s = cond (nat_lt s.applications 1024) (R.applied h k m (once_more s)) (Err (TooManyApplications at))
  counted false h at k m s = R.applied h k m s

  abbrev pub applied_once : Here → Place → Text → Place → Option ℕ → ModExp → Step Module_ref
  applied_once h name_at x at None a s = Err (Unbound x name_at)
  applied_once h name_at x at (Some k) a s = after (R.module_of h a s) (counted h.live h at k)

  -- arguments one after the other
  unfoldable pub applied_to : Here → Place → Text → List ModExp → Module_ref → Step Module_ref
  applied_to h at x [] m s = Ok (m, s)
  applied_to h at x (a ∷ more) m s = after (applied_once h at x (out-ModExp a).place (function_in (contents_of s m)) a s) (λ m s. applied_to h at x more m s)

  -- the module of the file that a text names
  abbrev pub import_of : Place → Text → Option ℕ → Step Module_ref
  import_of at x None s = Err (Unbound x at)
  import_of at x (Some k) s = R.file_of k s

  -- ---- declarations

  abbrev pub module_with : Here → Place → List Param → Option ModType → ModExp → Step Module_ref
  module_with h at [] t m s = after (looked_at h t s) (λ c s. after (R.module_of h m s) (sealed_by h t))
  module_with h at (p ∷ ps) t m s = R.module_of h (curried at p ps t m) s

  abbrev pub signature_with : Here → Text → ModType → Step (List Member)
  signature_with h x t s = after (R.met (bare h) nothing t s) (λ c s. Ok (signature_member x (length s.signatures) ∷ [], with_signature (record { tree = t; names = h.names }) s))

  abbrev pub dec_with : Here → Bool → Bool → Place → DecLayer → Block → Step Block
  dec_with h is_top is_local at (DecForm-F.Def is_entry x heads ps t e) b s =
      once is_local x (value_among b.own x.name) (declares is_local b (as_value x.name (declare no_value h (may_begin is_top is_entry x.name) x.name heads (definition_term ps t e)))) s
  dec_with h is_top is_local at (DecForm-F.TypeName x heads t) b s =
      once is_local x (type_among b.own x.name) (declares is_local b (as_type x.name (declare no_type h false x.name heads (type_term x.place (source_type t))))) s
  dec_with h is_top is_local at (DecForm-F.Module x ps t m) b s =
      once is_local x (module_among b.own x.name) (declares is_local b (as_module x.name (module_with h at ps t m))) s
  dec_with h is_top is_local at (DecForm-F.ModType x t) b s =
      once is_local x (signature_among b.own x.name) (declares is_local b (signature_with h x.name t)) s
  dec_with h is_top is_local at (DecForm-F.Open m) b s =
      after (R.module_of h m s) (λ n s. opened is_local (out-ModExp m).place (called (out-ModForm (out-ModExp m).form)) (contents_of s n) b s)
  dec_with h is_top is_local at (DecForm-F.«DecForm::Import» x) b s =
      after (import_of at x (imported_file files h.file x) s) (λ n s. opened true at x (contents_of s n) b s)

  unfoldable pub decs_with : Here → Bool → List Dec → Block → Step Block
  decs_with h is_top [] b s = Ok (b, s)
  decs_with h is_top (d ∷ ds) b s =
      after (dec_with (seeing b.names h) is_top (out-Dec d).local (out-Dec d).place (out-DecForm (out-Dec d).form) b s) (λ b s. decs_with h is_top ds b s)

  -- the module of what declarations export
  abbrev pub block_of : Here → Bool → List Dec → Step Module_ref
  block_of h is_top ds s = after (decs_with h is_top ds (no_names h.names) s) (λ b. new_module (members b.exported))

  abbrev pub mod_with : Here → Place → ModLayer → Step Module_ref
  mod_with h at (ModForm-F.Path []) s = Err (Unbound [] at)
  mod_with h at (ModForm-F.Path (x ∷ xs)) s = from (module_at (record { names = h.names; modules = s.modules }) at x xs) s
  mod_with h at (ModForm-F.Decs ds) s = block_of h false ds s
  mod_with h at (ModForm-F.Apply f given) s = after (R.module_of h f s) (λ m s. applied_to h (out-ModExp f).place (called (out-ModForm (out-ModExp f).form)) given m s)
  mod_with h at (ModForm-F.«ModForm::Import» x) s = import_of at x (imported_file files h.file x) s
  mod_with h at (ModForm-F.Lambda x t u body) s = after (lambda_with h x t u body s) new_module
  mod_with h at (ModForm-F.Seal m t) s = after (R.module_of h m s) (λ m. module_met h (hidden m []) t)

  -- ---- files: each is declared where it is first imported, and then known by its module

  abbrev pub file_declared : ℕ → Step Module_ref
  file_declared k s = after (block_of (record { file = k; live = true; names = s.start }) true (decs_of (item files k)) s) (λ m s. Ok (m, with_loaded k m s))

  abbrev pub file_known : ℕ → Option Module_ref → Step Module_ref
  file_known k (Some m) s = Ok (m, s)
  file_known k None s = file_declared k s

  abbrev pub file_with : ℕ → Step Module_ref
  file_with k s = file_known k (loaded_at s.loaded k) s

-- ---- all levels

abbrev pub no_walks : Walks
no_walks = record { module_of = λ h m s. Err TooFar; met = λ h meeting t s. Err TooFar; applied = λ h k m s. Err TooFar; file_of = λ k s. Err TooFar }

abbrev pub next_walks : List Source_file → Walks → Walks
next_walks files R = record {
  module_of = λ h m s. mod_with files R h (out-ModExp m).place (out-ModForm (out-ModExp m).form) s;
  met = λ h meeting t s. sig_with files R h meeting (out-ModType t).place (out-ModTypeForm (out-ModType t).form) s;
  applied = λ h k m s. applied_with files R h (item s.functors k) m s;
  file_of = λ k s. file_with files R k s;
}

-- modules up to this depth in one another
unfoldable pub walks : List Source_file → ℕ → Walks
walks files zero = no_walks
walks files (suc depth) = next_walks files (walks files depth)

abbrev pub at_first : State
at_first = record { made = []; modules = []; functors = []; signatures = []; instances = []; applications = 0; start = []; loaded = [] }

abbrev pub started : State → Module_ref → State
started s m = starting_with (members_of (contents_of s m)) s

-- What files declare, or the first refusal, where modules are looked at up to this depth. File 0 is the prelude, whose members
-- each file starts with; file 1 is run, and the others are declared where they are imported.
unfoldable pub declared_by : ℕ → List Source_file → Result (Module_ref × State) Refusal
declared_by depth files = after ((walks files depth).file_of 0 at_first) (λ m s. (walks files depth).file_of 1 (started s m))
