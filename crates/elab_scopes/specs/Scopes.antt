-- Scopes, and what a path of names stands for in one.
use Rattle.std.specs.Prelude.{ℕ, zero, suc, cond, Bool, List, [], ◌∷◌, Option, Some, None, Result, Ok, Err}
use Rattle.std.specs.Str.{bytes_eq}
use Rattle.fut_scalar.specs.declared.place.BindId.{BindId}
use Rattle.fut_scalar.specs.declared.place.Place.{Place}
use Rattle.fut_scalar.specs.declared.scalar.ScalarType.{ScalarType}
use Rattle.fut_scalar.specs.declared.scalar.ScalarType.TheVariants as scalar
use Rattle.fut_ast.specs.Sorts.{Text, Path}
use Rattle.fut_flat.specs.declared.prim.Primitive.{Primitive}
use Rattle.fut_flat.specs.declared.prim.Ref.{Ref}
use Rattle.fut_flat.specs.declared.prim.Ref.TheVariants as ref
use Rattle.fut_flat.specs.Sources.{Spelled}
use Rattle.fut_primitives.specs.Names.{primitive_of, scalar_of, member_of}
use Rattle.elab_scopes.specs.Names.{Refusal, Unbound, NoMember}

-- ---- what stands outside of a definition

-- Modules have numbers, as values and types have. The scalar types are modules too.
pub data Module_ref : Type 0 where
  made_module : ℕ → Module_ref
  scalar_module : ScalarType → Module_ref

-- a member of a module, or a name that a file sees, in one of four spaces
pub data Member : Type 0 where
  value_member : Text → Ref → Member
  type_member : Text → Ref → Member
  module_member : Text → Module_ref → Member
  signature_member : Text → ℕ → Member

-- a module has members, the newest first, or is parametric: a function from modules to modules, which has a number too
pub data Contents : Type 0 where
  members : List Member → Contents
  parametric : ℕ → Contents

-- the names that are in scope, the newest first, and the modules by their numbers
pub record World : Type 0 where
  pub names : List Member
  pub modules : List Contents

abbrev pub newer : {A : Type 0} → Bool → A → Option A → Option A
newer t a older = cond t (Some a) older

unfoldable pub value_among : List Member → Text → Option Ref
value_among [] x = None
value_among (value_member y r ∷ ms) x = newer (bytes_eq y x) r (value_among ms x)
value_among (type_member y r ∷ ms) x = value_among ms x
value_among (module_member y m ∷ ms) x = value_among ms x
value_among (signature_member y k ∷ ms) x = value_among ms x

unfoldable pub type_among : List Member → Text → Option Ref
type_among [] x = None
type_among (value_member y r ∷ ms) x = type_among ms x
type_among (type_member y r ∷ ms) x = newer (bytes_eq y x) r (type_among ms x)
type_among (module_member y m ∷ ms) x = type_among ms x
type_among (signature_member y k ∷ ms) x = type_among ms x

unfoldable pub module_among : List Member → Text → Option Module_ref
module_among [] x = None
module_among (value_member y r ∷ ms) x = module_among ms x
module_among (type_member y r ∷ ms) x = module_among ms x
module_among (module_member y m ∷ ms) x = newer (bytes_eq y x) m (module_among ms x)
module_among (signature_member y k ∷ ms) x = module_among ms x

unfoldable pub signature_among : List Member → Text → Option ℕ
signature_among [] x = None
signature_among (value_member y r ∷ ms) x = signature_among ms x
signature_among (type_member y r ∷ ms) x = signature_among ms x
signature_among (module_member y m ∷ ms) x = signature_among ms x
signature_among (signature_member y k ∷ ms) x = newer (bytes_eq y x) k (signature_among ms x)

-- the members of a module; those of a scalar type are primitives
unfoldable pub contents_at : List Contents → ℕ → Contents
contents_at [] k = members []
contents_at (c ∷ cs) zero = c
contents_at (c ∷ cs) (suc k) = contents_at cs k

abbrev pub members_of : Contents → List Member
members_of (members ms) = ms
members_of (parametric k) = []

abbrev pub primitive_ref : Option Primitive → Option Ref
primitive_ref None = None
primitive_ref (Some p) = Some (ref.Prim p)

unfoldable pub value_in_module : List Contents → Module_ref → Text → Option Ref
value_in_module cs (made_module k) x = value_among (members_of (contents_at cs k)) x
value_in_module cs (scalar_module t) x = primitive_ref (member_of t x)

abbrev pub type_in_module : List Contents → Module_ref → Text → Option Ref
type_in_module cs (made_module k) x = type_among (members_of (contents_at cs k)) x
type_in_module cs (scalar_module t) x = None

abbrev pub module_in_module : List Contents → Module_ref → Text → Option Module_ref
module_in_module cs (made_module k) x = module_among (members_of (contents_at cs k)) x
module_in_module cs (scalar_module t) x = None

abbrev pub signature_in_module : List Contents → Module_ref → Text → Option ℕ
signature_in_module cs (made_module k) x = signature_among (members_of (contents_at cs k)) x
signature_in_module cs (scalar_module t) x = None

-- a name that the files do not bind may be that of a scalar type
abbrev pub or_scalar : Option Module_ref → Option ScalarType → Option Module_ref
or_scalar (Some m) t = Some m
or_scalar None None = None
or_scalar None (Some t) = Some (scalar_module t)

abbrev pub module_named : World → Text → Option Module_ref
module_named w x = or_scalar (module_among w.names x) (scalar_of x)

-- ---- scopes

-- a name of the space of values or of that of types, and its number; or all that stands outside
pub data Entry : Type 0 where
  a_value : Text → BindId → Entry
  a_type : Text → BindId → Entry
  a_world : World → Entry

-- The newest name stands first. Below all are the primitives and the scalar types, which are modules too.
abbrev pub Scope : Type 0
Scope = List Entry

abbrev pub newer_value : Entry → Text → Option BindId → Option BindId
newer_value (a_value y b) x older = cond (bytes_eq y x) (Some b) older
newer_value (a_type y b) x older = older
newer_value (a_world w) x older = older

abbrev pub newer_type : Entry → Text → Option BindId → Option BindId
newer_type (a_value y b) x older = older
newer_type (a_type y b) x older = cond (bytes_eq y x) (Some b) older
newer_type (a_world w) x older = older

-- the newest local name counts
unfoldable pub value_in : Scope → Text → Option BindId
value_in [] x = None
value_in (e ∷ sc) x = newer_value e x (value_in sc x)

unfoldable pub type_in : Scope → Text → Option BindId
type_in [] x = None
type_in (e ∷ sc) x = newer_type e x (type_in sc x)

abbrev pub no_world : World
no_world = record { names = []; modules = [] }

abbrev pub newer_world : Entry → World → World
newer_world (a_value y b) older = older
newer_world (a_type y b) older = older
newer_world (a_world w) older = w

unfoldable pub world_of : Scope → World
world_of [] = no_world
world_of (e ∷ sc) = newer_world e (world_of sc)

-- names, the first one bound first, come in scope
unfoldable pub enter : List Entry → Scope → Scope
enter [] sc = sc
enter (e ∷ es) sc = enter es (e ∷ sc)

-- ---- values

-- what a path names, how many of its names are modules, and the fields that are left
pub record Found : Type 0 where
  pub names : Ref
  pub modules : ℕ
  pub fields : Path

abbrev pub found : Ref → ℕ → Path → Result Found Refusal
found r k fs = Ok (record { names = r; modules = k; fields = fs })

abbrev pub member_or : Place → ℕ → Text → Path → Option Ref → Result Found Refusal
member_or at k y fs (Some r) = found r k fs
member_or at k y fs None = Err (NoMember y at)

abbrev pub or_deeper : {A : Type 0} → Option Module_ref → (Module_ref → A) → A → A
or_deeper None k other = other
or_deeper (Some n) k other = k n

-- A member of a module by a path, `k` modules having been named: modules are named as far as the path goes.
unfoldable pub inside : List Contents → Place → ℕ → Module_ref → Text → Path → Result Found Refusal
inside cs at k m y [] = member_or at k y [] (value_in_module cs m y)
inside cs at k m y (z ∷ fs) = or_deeper (module_in_module cs m y) (λ n. inside cs at (suc k) n z fs) (member_or at k y (z ∷ fs) (value_in_module cs m y))

-- a name that is no value may be a module, whose member is named next
abbrev pub by_module : List Contents → Place → Text → Path → Option Module_ref → Result Found Refusal
by_module cs at x [] m = Err (Unbound x at)
by_module cs at x (y ∷ fs) None = Err (Unbound x at)
by_module cs at x (y ∷ fs) (Some m) = inside cs at 1 m y fs

abbrev pub by_primitive : World → Place → Text → Path → Option Primitive → Result Found Refusal
by_primitive w at x rest (Some p) = found (ref.Prim p) 0 rest
by_primitive w at x rest None = by_module w.modules at x rest (module_named w x)

abbrev pub by_member : World → Place → Text → Path → Option Ref → Result Found Refusal
by_member w at x rest (Some r) = found r 0 rest
by_member w at x rest None = by_primitive w at x rest (primitive_of x)

abbrev pub by_value : World → Place → Text → Path → Option BindId → Result Found Refusal
by_value w at x rest (Some b) = found (ref.Bound b) 0 rest
by_value w at x rest None = by_member w at x rest (value_among w.names x)

-- A first name that is a value is that value, and the rest are fields; else modules are named as far as the path goes.
abbrev pub value_at : Scope → Place → Path → Result Found Refusal
value_at sc at [] = Err (Unbound [] at)
value_at sc at (x ∷ rest) = by_value (world_of sc) at x rest (value_in sc x)

unfoldable pub value_of : Scope → Spelled → Result Found Refusal
value_of sc p = value_at sc p.place p.path

-- A size is a value. One that goes on with fields is no size: it stands as a type, which typing refuses at any place.
abbrev pub size_found : Result Found Refusal → Result Ref Refusal
size_found (Err e) = Err e
size_found (Ok f) = Ok (size_named f.names f.fields)
  where
    size_named : Ref → Path → Ref
    size_named r [] = r
    size_named r (x ∷ fs) = ref.Scalar scalar.Bool

unfoldable pub size_of : Scope → Spelled → Result Ref Refusal
size_of sc p = size_found (value_of sc p)

-- ---- modules

abbrev pub module_or : {A : Type 0} → Refusal → Option A → Result A Refusal
module_or e None = Err e
module_or e (Some a) = Ok a

abbrev pub and_then : {A B : Type 0} → Result A Refusal → (A → Result B Refusal) → Result B Refusal
and_then (Ok a) k = k a
and_then (Err e) k = Err e

unfoldable pub module_inside : List Contents → Place → Module_ref → Path → Result Module_ref Refusal
module_inside cs at m [] = Ok m
module_inside cs at m (y ∷ fs) = and_then (module_or (NoMember y at) (module_in_module cs m y)) (λ n. module_inside cs at n fs)

-- the module that a first name and the rest of a path name
unfoldable pub module_at : World → Place → Text → Path → Result Module_ref Refusal
module_at w at x rest = and_then (module_or (Unbound x at) (module_named w x)) (λ m. module_inside w.modules at m rest)

-- ---- types

abbrev pub scalar_or : Place → Text → Option ScalarType → Result Ref Refusal
scalar_or at x (Some t) = Ok (ref.Scalar t)
scalar_or at x None = Err (Unbound x at)

abbrev pub member_type_or : Place → Text → Option Ref → Result Ref Refusal
member_type_or at x (Some r) = Ok r
member_type_or at x None = scalar_or at x (scalar_of x)

abbrev pub type_or : World → Place → Text → Option BindId → Result Ref Refusal
type_or w at x (Some b) = Ok (ref.Bound b)
type_or w at x None = member_type_or at x (type_among w.names x)

-- a type of a module inside of another: all names but the last are modules
unfoldable pub type_inside : List Contents → Place → Module_ref → Text → Path → Result Ref Refusal
type_inside cs at m y [] = module_or (NoMember y at) (type_in_module cs m y)
type_inside cs at m y (z ∷ fs) = and_then (module_or (NoMember y at) (module_in_module cs m y)) (λ n. type_inside cs at n z fs)

abbrev pub by_module_type : World → Place → Text → Text → Path → Option Module_ref → Result Ref Refusal
by_module_type w at x y rest None = Err (Unbound x at)
by_module_type w at x y rest (Some m) = type_inside w.modules at m y rest

abbrev pub type_at : Scope → Place → Path → Result Ref Refusal
type_at sc at [] = Err (Unbound [] at)
type_at sc at (x ∷ []) = type_or (world_of sc) at x (type_in sc x)
type_at sc at (x ∷ y ∷ rest) = by_module_type (world_of sc) at x y rest (module_named (world_of sc) x)

unfoldable pub type_of : Scope → Spelled → Result Ref Refusal
type_of sc p = type_at sc p.place p.path

-- ---- module types

unfoldable pub signature_inside : List Contents → Place → Module_ref → Text → Path → Result ℕ Refusal
signature_inside cs at m y [] = module_or (NoMember y at) (signature_in_module cs m y)
signature_inside cs at m y (z ∷ fs) = and_then (module_or (NoMember y at) (module_in_module cs m y)) (λ n. signature_inside cs at n z fs)

abbrev pub by_module_signature : World → Place → Text → Text → Path → Option Module_ref → Result ℕ Refusal
by_module_signature w at x y rest None = Err (Unbound x at)
by_module_signature w at x y rest (Some m) = signature_inside w.modules at m y rest

unfoldable pub signature_at : World → Place → Path → Result ℕ Refusal
signature_at w at [] = Err (Unbound [] at)
signature_at w at (x ∷ []) = module_or (Unbound x at) (signature_among w.names x)
signature_at w at (x ∷ y ∷ rest) = by_module_signature w at x y rest (module_named w x)
