-- What a path names in a scope, by the local names over what stands outside of them.
use Rattle.std.proofs.Common.{◌≡◌, ℕ, zero, suc, ◌+◌, ◌<◌, ◌++◌, List, [], ◌∷◌, Bool, true, false, cond, Option, Some, None, Result, Ok, Err, refl, sym, ap, ◌∙◌, subst, arith, length}
use Rattle.std.specs.Str.{bytes_eq}
use Rattle.fut_scalar.specs.declared.place.BindId.{BindId}
use Rattle.fut_scalar.specs.declared.place.Place.{Place}
use Rattle.fut_ast.specs.Sorts.{Text, Path}
use Rattle.fut_flat.specs.declared.prim.Primitive.{Primitive}
use Rattle.fut_flat.specs.declared.prim.Ref.{Ref}
use Rattle.fut_flat.specs.declared.prim.Ref.TheVariants as ref
use Rattle.fut_flat.specs.Erased.{FlatTerm}
use Rattle.fut_flat.specs.Numbers.{numbers}
use Rattle.fut_flat.specs.Sources.{names_before}
use Rattle.fut_flat.specs.Terms.{Project, Use, Strict, no_term, term_and}
use Rattle.fut_primitives.specs.Names.{primitive_of, member_of}
use Rattle.elab_scopes.specs.Names.{Refusal}
use Rattle.elab_scopes.specs.Scopes.{Module_ref, made_module, scalar_module, Member, value_member, type_member, module_member, signature_member, Contents, members, parametric, World, newer, value_among, contents_at, members_of, primitive_ref, value_in_module, module_in_module, module_named, Entry, a_value, a_type, a_world, Scope, value_in, world_of, enter, Found, found, member_or, or_deeper, inside, by_module, by_primitive, by_member, by_value, value_at}
use Rattle.elab_scopes.specs.Resolve.{use_found}
use Rattle.elab_scopes.specs.Resolve as resolve
use Rattle.fut_meaning.specs.Sources.{Named, Names_number, Names_primitive, Names_nothing, Outside}
use Rattle.fut_meaning.specs.Resolved.{Locals, path_in, projected, flat_use, Sees_below}
use Rattle.elab_laws.specs.Sourced.{named_of, some_place, outside_of}

-- ---- where a path stands does not matter

member_same : (at at' : Place) (k : ℕ) (y : Text) (fs : Path) (o : Option Ref) → named_of (member_or at k y fs o) ≡ named_of (member_or at' k y fs o)
member_same at at' k y fs (Some r) = refl
member_same at at' k y fs None = refl

either_deeper : {A B : Type 0} (f : A → B) (o : Option Module_ref) (g h : Module_ref → A) (a b : A) → ((n : Module_ref) → f (g n) ≡ f (h n)) → f a ≡ f b → f (or_deeper o g a) ≡ f (or_deeper o h b)
either_deeper f None g h a b e i = i
either_deeper f (Some n) g h a b e i = e n

inside_same : (cs : List Contents) (at at' : Place) (k : ℕ) (m : Module_ref) (y : Text) (fs : Path) → named_of (inside cs at k m y fs) ≡ named_of (inside cs at' k m y fs)
unfolding inside
inside_same cs at at' k m y [] = member_same at at' k y [] (value_in_module cs m y)
inside_same cs at at' k m y (z ∷ fs) = either_deeper named_of (module_in_module cs m y) _ _ _ _ (λ n. inside_same cs at at' (suc k) n z fs) (member_same at at' k y (z ∷ fs) (value_in_module cs m y))

module_same : (cs : List Contents) (at at' : Place) (x : Text) (rest : Path) (o : Option Module_ref) → named_of (by_module cs at x rest o) ≡ named_of (by_module cs at' x rest o)
module_same cs at at' x [] o = refl
module_same cs at at' x (y ∷ fs) None = refl
module_same cs at at' x (y ∷ fs) (Some m) = inside_same cs at at' 1 m y fs

primitive_same : (w : World) (at at' : Place) (x : Text) (rest : Path) (o : Option Primitive) → named_of (by_primitive w at x rest o) ≡ named_of (by_primitive w at' x rest o)
primitive_same w at at' x rest (Some p) = refl
primitive_same w at at' x rest None = module_same w.modules at at' x rest (module_named w x)

outer_same : (w : World) (at at' : Place) (x : Text) (rest : Path) (o : Option Ref) → named_of (by_member w at x rest o) ≡ named_of (by_member w at' x rest o)
outer_same w at at' x rest (Some r) = refl
outer_same w at at' x rest None = primitive_same w at at' x rest (primitive_of x)

value_same : (w : World) (at at' : Place) (x : Text) (rest : Path) (o : Option BindId) → named_of (by_value w at x rest o) ≡ named_of (by_value w at' x rest o)
value_same w at at' x rest (Some b) = refl
value_same w at at' x rest None = outer_same w at at' x rest (value_among w.names x)

-- ---- the numbers of values that stand outside are such as a condition asks

abbrev pub Such : Type 1
Such = ℕ → Type 0

abbrev pub Ref_under : Such → Ref → Type 0
Ref_under S (ref.Bound b) = S b.0
Ref_under S (ref.Prim p) = Unit {0}
Ref_under S (ref.Scalar s) = ⊥

abbrev pub Under : Such → List Member → Type 0
Under S [] = Unit {0}
Under S (value_member x r ∷ ms) = Ref_under S r × Under S ms
Under S (type_member x r ∷ ms) = Under S ms
Under S (module_member x m ∷ ms) = Under S ms
Under S (signature_member x k ∷ ms) = Under S ms

abbrev pub Contents_under : Such → Contents → Type 0
Contents_under S (members ms) = Under S ms
Contents_under S (parametric k) = Unit {0}

abbrev pub All_under : Such → List Contents → Type 0
All_under S [] = Unit {0}
All_under S (c ∷ cs) = Contents_under S c × All_under S cs

pub record World_under (S : Such) (w : World) : Type 0 where
  pub names : Under S w.names
  pub modules : All_under S w.modules

-- one condition behind another
pub ref_up : (S T : Such) (r : Ref) → ((k : ℕ) → S k → T k) → Ref_under S r → Ref_under T r
ref_up S T (ref.Bound b) up u = up b.0 u
ref_up S T (ref.Prim p) up u = tt
ref_up S T (ref.Scalar s) up u = u

pub under_up : (S T : Such) (ms : List Member) → ((k : ℕ) → S k → T k) → Under S ms → Under T ms
under_up S T [] up u = tt
under_up S T (value_member x r ∷ ms) up u = (ref_up S T r up u.0, under_up S T ms up u.1)
under_up S T (type_member x r ∷ ms) up u = under_up S T ms up u
under_up S T (module_member x k ∷ ms) up u = under_up S T ms up u
under_up S T (signature_member x k ∷ ms) up u = under_up S T ms up u

pub contents_up : (S T : Such) (c : Contents) → ((k : ℕ) → S k → T k) → Contents_under S c → Contents_under T c
contents_up S T (members ms) up u = under_up S T ms up u
contents_up S T (parametric k) up u = tt

pub all_up : (S T : Such) (cs : List Contents) → ((k : ℕ) → S k → T k) → All_under S cs → All_under T cs
all_up S T [] up u = tt
all_up S T (c ∷ cs) up u = (contents_up S T c up u.0, all_up S T cs up u.1)

pub world_up : {S T : Such} {w : World} → ((k : ℕ) → S k → T k) → World_under S w → World_under T w
world_up {S} {T} {w} up u = record { names = under_up S T w.names up u.names; modules = all_up S T w.modules up u.modules }

abbrev pub any_number : Such
any_number k = Unit {0}

abbrev pub Option_under : Such → Option Ref → Type 0
Option_under S None = Unit {0}
Option_under S (Some r) = Ref_under S r

newer_under : (S : Such) (t : Bool) (r : Ref) (o : Option Ref) → Ref_under S r → Option_under S o → Option_under S (newer t r o)
newer_under S true r o b i = b
newer_under S false r o b i = i

pub among_under : (S : Such) (ms : List Member) (x : Text) → Under S ms → Option_under S (value_among ms x)
unfolding value_among
among_under S [] x u = tt
among_under S (value_member y r ∷ ms) x u = newer_under S (bytes_eq y x) r (value_among ms x) u.0 (among_under S ms x u.1)
among_under S (type_member y r ∷ ms) x u = among_under S ms x u
among_under S (module_member y m ∷ ms) x u = among_under S ms x u
among_under S (signature_member y k ∷ ms) x u = among_under S ms x u

pub members_under : (S : Such) (c : Contents) → Contents_under S c → Under S (members_of c)
members_under S (members ms) u = u
members_under S (parametric k) u = tt

pub contents_under : (S : Such) (cs : List Contents) (k : ℕ) → All_under S cs → Under S (members_of (contents_at cs k))
unfolding contents_at
contents_under S [] k u = tt
contents_under S (c ∷ cs) zero u = members_under S c u.0
contents_under S (c ∷ cs) (suc k) u = contents_under S cs k u.1

pub in_module_under : (S : Such) (cs : List Contents) (m : Module_ref) (x : Text) → All_under S cs → Option_under S (value_in_module cs m x)
unfolding value_in_module
in_module_under S cs (made_module k) x u = among_under S (members_of (contents_at cs k)) x (contents_under S cs k u)
in_module_under S cs (scalar_module t) x u = prim_under (member_of t x)
  where
    prim_under : (o : Option Primitive) → Option_under S (primitive_ref o)
    prim_under None = tt
    prim_under (Some p) = tt

-- ---- what is found of a path

-- it is a value of this kind, and has as many names before its last as the path
pub data Finds (B : BindId → Type 0) (p : Path) : Result Found Refusal → Type 0 where
  finds_bound : (b : BindId) (k : ℕ) (fs : Path) → B b → k + length fs ≡ names_before p → Finds B p (found (ref.Bound b) k fs)
  finds_primitive : (q : Primitive) (k : ℕ) (fs : Path) → k + length fs ≡ names_before p → Finds B p (found (ref.Prim q) k fs)
  finds_none : (e : Refusal) → Finds B p (Err e)

before_is : (x : Text) (rest : Path) → length rest ≡ names_before (x ∷ rest)
before_is x [] = refl
before_is x (y ∷ ys) = ap suc (before_is y ys)

finds_ref : (S : Such) (p : Path) (r : Ref) (k : ℕ) (fs : Path) → Ref_under S r → k + length fs ≡ names_before p → Finds (λ b. S b.0) p (found r k fs)
finds_ref S p (ref.Bound b) k fs u h = finds_bound b k fs u h
finds_ref S p (ref.Prim q) k fs u h = finds_primitive q k fs h
finds_ref S p (ref.Scalar s) k fs u h = absurd u

finds_member : (S : Such) (p : Path) (at : Place) (k : ℕ) (y : Text) (fs : Path) (o : Option Ref) → Option_under S o → k + length fs ≡ names_before p → Finds (λ b. S b.0) p (member_or at k y fs o)
finds_member S p at k y fs None u h = finds_none _
finds_member S p at k y fs (Some r) u h = finds_ref S p r k fs u h

finds_deeper : {B : BindId → Type 0} {p : Path} (o : Option Module_ref) (k : Module_ref → Result Found Refusal) (r : Result Found Refusal) → ((n : Module_ref) → Finds B p (k n)) → Finds B p r → Finds B p (or_deeper o k r)
finds_deeper None k r f g = g
finds_deeper (Some n) k r f g = f n

finds_inside : (S : Such) (p : Path) (cs : List Contents) (at : Place) (k : ℕ) (m : Module_ref) (y : Text) (fs : Path) → All_under S cs → k + length fs ≡ names_before p → Finds (λ b. S b.0) p (inside cs at k m y fs)
unfolding inside
finds_inside S p cs at k m y [] u h = finds_member S p at k y [] (value_in_module cs m y) (in_module_under S cs m y u) h
finds_inside S p cs at k m y (z ∷ fs) u h = finds_deeper (module_in_module cs m y) _ _ (λ l. finds_inside S p cs at (suc k) l z fs u (omega (arith, h))) (finds_member S p at k y (z ∷ fs) (value_in_module cs m y) (in_module_under S cs m y u) h)

finds_module : (S : Such) (cs : List Contents) (at : Place) (x : Text) (rest : Path) (o : Option Module_ref) → All_under S cs → Finds (λ b. S b.0) (x ∷ rest) (by_module cs at x rest o)
finds_module S cs at x [] o u = finds_none _
finds_module S cs at x (y ∷ fs) None u = finds_none _
finds_module S cs at x (y ∷ fs) (Some m) u = finds_inside S (x ∷ y ∷ fs) cs at 1 m y fs u (omega (arith, before_is y fs))

finds_by_primitive : (S : Such) (w : World) (at : Place) (x : Text) (rest : Path) (o : Option Primitive) → World_under S w → Finds (λ b. S b.0) (x ∷ rest) (by_primitive w at x rest o)
finds_by_primitive S w at x rest (Some p) u = finds_primitive p 0 rest (omega (arith, before_is x rest))
finds_by_primitive S w at x rest None u = finds_module S w.modules at x rest (module_named w x) u.modules

pub finds_outside : (S : Such) (w : World) (at : Place) (x : Text) (rest : Path) (o : Option Ref) → Option_under S o → World_under S w → Finds (λ b. S b.0) (x ∷ rest) (by_member w at x rest o)
finds_outside S w at x rest (Some r) b u = finds_ref S (x ∷ rest) r 0 rest b (omega (arith, before_is x rest))
finds_outside S w at x rest None b u = finds_by_primitive S w at x rest (primitive_of x) u

-- local names are of any number
any_bound : {B : BindId → Type 0} {p : Path} {r : Result Found Refusal} → Finds B p r → Finds (λ b. Unit {0}) p r
any_bound (finds_bound b k fs u h) = finds_bound b k fs tt h
any_bound (finds_primitive q k fs h) = finds_primitive q k fs h
any_bound (finds_none e) = finds_none e

finds_value : (S : Such) (w : World) (at : Place) (x : Text) (rest : Path) (o : Option BindId) → World_under S w → Finds (λ b. Unit {0}) (x ∷ rest) (by_value w at x rest o)
finds_value S w at x rest (Some b) u = finds_bound b 0 rest tt (omega (arith, before_is x rest))
finds_value S w at x rest None u = any_bound (finds_outside S w at x rest (value_among w.names x) (among_under S w.names x u.names) u)

finds : (S : Such) (sc : Scope) (at : Place) (p : Path) → World_under S (world_of sc) → Finds (λ b. Unit {0}) p (value_at sc at p)
finds S sc at [] u = finds_none _
finds S sc at (x ∷ rest) u = finds_value S (world_of sc) at x rest (value_in sc x) u

-- ---- the reading of a scope

-- what a path names in the scope, it names by the locals; and no name of a scalar type stands for a value outside
pub record Reads (sc : Scope) (ls : Locals) (outside : Outside) : Type 0 where
  pub reads : (at : Place) (p : Path) → named_of (value_at sc at p) ≡ path_in ls outside p
  pub under : World_under any_number (world_of sc)

pub reads_outside : (sc : Scope) → World_under any_number (world_of sc) → Reads sc [] (outside_of sc)
reads_outside sc u = record { reads = reads; under = u }
  where
    reads : (at : Place) (p : Path) → named_of (value_at sc at p) ≡ path_in [] (outside_of sc) p
    reads at [] = refl
    reads at (x ∷ rest) = value_same (world_of sc) at some_place x rest (value_in sc x)

newer_local : (w : World) (at : Place) (x : Text) (rest : Path) (t : Bool) (b : BindId) (o : Option BindId) (named : Named) → named_of (by_value w at x rest o) ≡ named → named_of (by_value w at x rest (cond t (Some b) o)) ≡ cond t (Names_number b.0 rest) named
newer_local w at x rest true b o named e = refl
newer_local w at x rest false b o named e = e

pub reads_value : {sc : Scope} {ls : Locals} {outside : Outside} (x : Text) (b : BindId) → Reads sc ls outside → Reads (a_value x b ∷ sc) ((x, b.0) ∷ ls) outside
unfolding value_in world_of
reads_value {sc} {ls} {outside} x b r = record { reads = reads; under = r.under }
  where
    reads : (at : Place) (p : Path) → named_of (value_at (a_value x b ∷ sc) at p) ≡ path_in ((x, b.0) ∷ ls) outside p
    reads at [] = refl
    reads at (y ∷ rest) = newer_local (world_of sc) at y rest (bytes_eq x y) b (value_in sc y) _ (r.reads at (y ∷ rest))

pub reads_type : {sc : Scope} {ls : Locals} {outside : Outside} (x : Text) (b : BindId) → Reads sc ls outside → Reads (a_type x b ∷ sc) ls outside
unfolding value_in world_of
reads_type {sc} {ls} {outside} x b r = record { reads = reads; under = r.under }
  where
    reads : (at : Place) (p : Path) → named_of (value_at (a_type x b ∷ sc) at p) ≡ path_in ls outside p
    reads at [] = r.reads at []
    reads at (y ∷ rest) = r.reads at (y ∷ rest)

-- the locals behind entries
unfoldable pub entered : List Entry → Locals → Locals
entered [] ls = ls
entered (a_value x b ∷ es) ls = entered es ((x, b.0) ∷ ls)
entered (a_type x b ∷ es) ls = entered es ls
entered (a_world w ∷ es) ls = entered es ls

-- local names alone
abbrev pub No_world : List Entry → Type 0
No_world [] = Unit {0}
No_world (a_value x b ∷ es) = No_world es
No_world (a_type x b ∷ es) = No_world es
No_world (a_world w ∷ es) = ⊥

pub reads_entered : (es : List Entry) → No_world es → {sc : Scope} {ls : Locals} {outside : Outside} → Reads sc ls outside → Reads (enter es sc) (entered es ls) outside
unfolding entered enter
reads_entered [] n r = r
reads_entered (a_value x b ∷ es) n r = reads_entered es n (reads_value x b r)
reads_entered (a_type x b ∷ es) n r = reads_entered es n (reads_type x b r)
reads_entered (a_world w ∷ es) n r = absurd n

pub entered-append : (es : List Entry) (x : Text) (b : BindId) (ls : Locals) → entered (es ++ a_value x b ∷ []) ls ≡ (x, b.0) ∷ entered es ls
unfolding entered
entered-append [] x b ls = refl
entered-append (a_value y c ∷ es) x b ls = entered-append es x b ((y, c.0) ∷ ls)
entered-append (a_type y c ∷ es) x b ls = entered-append es x b ls
entered-append (a_world w ∷ es) x b ls = entered-append es x b ls

-- ---- uses

projected_is : (at : Place) (fs : Path) (e : FlatTerm) → projected at e fs ≡ resolve.projected at e fs
unfolding resolve.projected
projected_is at [] e = refl
projected_is at (f ∷ fs) e = projected_is at fs (Strict (Project f) at (term_and e no_term))

projected_numbers : (at : Place) (fs : Path) (e : FlatTerm) → numbers (projected at e fs) ≡ numbers e + (length fs + length fs)
projected_numbers at [] e = omega arith
projected_numbers at (f ∷ fs) e = omega (arith, projected_numbers at fs (Strict (Project f) at (term_and e no_term)))

pub record Is_use (at : Place) (named : Named) (k : ℕ) (made made' : List Text) (t : FlatTerm) : Type 0 where
  pub modules : ℕ
  pub is : flat_use at modules named ≡ Some t
  pub many : numbers t ≡ 1 + (k + k)
  pub same : made ≡ made'

ok_term : {A S E : Type 0} {a b : A} {s t : S} → ◌≡◌ {A = Result (A × S) E} (Ok (a, s)) (Ok (b, t)) → a ≡ b
ok_term {A} {S} {E} {a} {b} {s} {t} h = let z : ◌≡◌ {A = A × S} (a, s) (b, t) = cc in ap (λ q. q.0) z

ok_state : {A S E : Type 0} {a b : A} {s t : S} → ◌≡◌ {A = Result (A × S) E} (Ok (a, s)) (Ok (b, t)) → s ≡ t
ok_state {A} {S} {E} {a} {b} {s} {t} h = let z : ◌≡◌ {A = A × S} (a, s) (b, t) = cc in ap (λ q. q.1) z

use_of : (B : BindId → Type 0) (at : Place) (p : Path) (made made' : List Text) (t : FlatTerm) (r : Result Found Refusal) → Finds B p r → use_found at made r ≡ Ok (t, made') → Is_use at (named_of r) (names_before p) made made' t
use_of B at p made made' t _ (finds_bound b k fs u h) e =
    let i : projected at (Use (ref.Bound b) at k) fs ≡ t = projected_is at fs (Use (ref.Bound b) at k) ∙ ok_term e in
    record { modules = k; is = ap Some i; many = ap numbers (sym i) ∙ projected_numbers at fs (Use (ref.Bound b) at k) ∙ omega (arith, h); same = ok_state e }
use_of B at p made made' t _ (finds_primitive q k fs h) e =
    let i : projected at (Use (ref.Prim q) at k) fs ≡ t = projected_is at fs (Use (ref.Prim q) at k) ∙ ok_term e in
    record { modules = k; is = ap Some i; many = ap numbers (sym i) ∙ projected_numbers at fs (Use (ref.Prim q) at k) ∙ omega (arith, h); same = ok_state e }
use_of B at p made made' t _ (finds_none x) e = absurd (let z : Err x ≡ Ok (t, made') = e in cc)

pub use_is : (n : Such) (sc : Scope) (place at : Place) (p : Path) (made made' : List Text) (t : FlatTerm) → World_under n (world_of sc) → use_found at made (value_at sc place p) ≡ Ok (t, made') → Is_use at (named_of (value_at sc place p)) (names_before p) made made' t
use_is n sc place at p made made' t u e = use_of _ at p made made' t (value_at sc place p) (finds n sc place p u) e

-- ---- the numbers that a definition sees

number_below : (n : ℕ) (p rest : Path) (k : ℕ) (r : Result Found Refusal) → Finds (λ b. b.0 < n) p r → named_of r ≡ Names_number k rest → k < n
number_below n p rest k _ (finds_bound b j fs u h) e = let i : b.0 ≡ k = cc in subst (λ z. z < n) i u
number_below n p rest k _ (finds_primitive q j fs h) e = absurd (let z : Names_primitive q fs ≡ Names_number k rest = e in cc)
number_below n p rest k _ (finds_none x) e = absurd (let z : Names_nothing ≡ Names_number k rest = e in cc)

-- a value of the scope that is none of the world's
finds_below : (n : ℕ) (w : World) (at : Place) (x : Text) (rest : Path) (o : Option BindId) → ((b : BindId) → o ≡ Some b → b.0 < n) → World_under (λ k. k < n) w → Finds (λ b. b.0 < n) (x ∷ rest) (by_value w at x rest o)
finds_below n w at x rest (Some b) f u = finds_bound b 0 rest (f b refl) (omega (arith, before_is x rest))
finds_below n w at x rest None f u = finds_outside (λ k. k < n) w at x rest (value_among w.names x) (among_under (λ k. k < n) w.names x u.names) u

pub sees_below : (n : ℕ) (sc : Scope) → ((x : Text) (b : BindId) → value_in sc x ≡ Some b → b.0 < n) → World_under (λ k. k < n) (world_of sc) → Sees_below n (outside_of sc)
sees_below n sc locals u = record { below = below }
  where
    below : (p rest : Path) (k : ℕ) → outside_of sc p ≡ Names_number k rest → k < n
    below [] rest k e = absurd (let z : Names_nothing ≡ Names_number k rest = e in cc)
    below (x ∷ more) rest k e = number_below n (x ∷ more) rest k _ (finds_below n (world_of sc) some_place x more (value_in sc x) (locals x) u) e
