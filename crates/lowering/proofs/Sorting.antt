-- Sorts of what is known of names, and of runs of steps.
use Rattle.std.proofs.Common.{◌≡◌, ℕ, suc, ◌≤◌, ◌++◌, List, [], ◌∷◌, Bool, true, false, cond, nat_eq, Option, Some, length, map, refl, sym, ap, ◌∙◌, subst, arith}
use Rattle.std.specs.Str.{bytes_eq}
use Rattle.fut_scalar.specs.declared.scalar.ScalarType.{ScalarType}
use Rattle.fut_ast.specs.Sorts.{Text}
use Rattle.std.specs.Prelude.{decimal}
use Rattle.fut_value.specs.Data.{Shape, Scalar_shape, Tuple_shape, Record_shape, Shapes, no_shape, shape_and, Named_shapes, no_named_shape, named_shape_and}
use Rattle.fut_meaning.specs.Knowns.{with_some}
use Rattle.fut_meaning.specs.Sames.{All_same, all_none, all_more}
use Rattle.fut_blocks.specs.declared.block.Atom.{Atom as Source_atom}
use Rattle.fut_blocks.specs.Meaning.{look, bound}
use Rattle.core_ir.specs.declared.block.Var.{Var}
use Rattle.core_ir.specs.declared.block.Atom.{Atom}
use Rattle.core_ir.specs.declared.block.Atom.TheVariants as atom
use Rattle.core_ir.specs.Meaning.{number}
use Rattle.core_ir.specs.Numbered.{Rise}
use Rattle.core_ir.specs.Plain.{Action, lets}
use Rattle.core_ir.specs.Typed.{Sort, sort_of, Sorts, scalar_sort, Atom_is, Atoms_are, Groups_are, with_vars, Act_gives, Body_gives, let_gives}
use Rattle.lowering.specs.Knowns.{Known, known, Scope, width, knowns, parts_of, shapes, fields_of, sorts, sorts_of_all, sorts_of_named, all_sorts, names, New, Lowers, name_lowers, constant_lowers, Operand, operand, Operands, no_operand, operand_and}
use Rattle.lowering.specs.Arrays.{Each_operand, no_more, and_more}
use Rattle.lowering.specs.Lowering.{Bindings}
use Rattle.lowering.specs.Records.{part_from, field, some_fields, named_shapes, replaced_type, all_atoms, replaced_atoms}
use Rattle.lowering.proofs.Records.{given}
use Rattle.lowering.proofs.Stands.{Below, Extends, extends_same, extends_on, extends_one, look_new, both_on, parted, some_is, none_some, upward_grows}
use Rattle.lowering.proofs.Types.{sorts_same, sorts_many}

-- ---- atoms of their sorts

pub record Sorted (G : Sorts) (n : ℕ) (u : Atom) (s : Sort) : Type 0 where
  pub is : Atom_is G u s
  pub below : Below n u

abbrev pub All_sorted : Sorts → ℕ → List Atom → List Sort → Type 0
All_sorted G n = All_same (Sorted G n)

pub atoms_are : {G : Sorts} {n : ℕ} {us : List Atom} {ss : List Sort} → All_sorted G n us ss → Atoms_are G us ss
atoms_are all_none = all_none
atoms_are (all_more a k) = all_more a.is (atoms_are k)

abbrev pub Known_sorted : Sorts → ℕ → Known → Type 0
Known_sorted G n k = All_sorted G n k.atoms (sorts k.type)

pub data All_known (G : Sorts) (n : ℕ) : List Known → Type 0 where
  no_known : All_known G n []
  known_and : {k : Known} {ks : List Known} → Known_sorted G n k → All_known G n ks → All_known G n (k ∷ ks)

pub data Scoped (G : Sorts) (n : ℕ) : Scope → Type 0 where
  no_name : Scoped G n []
  name_and : {x : ℕ} {k : Known} {sc : Scope} → Known_sorted G n k → Scoped G n sc → Scoped G n ((x, k) ∷ sc)

module _ {G H : Sorts} {n m : ℕ} (x : Extends n G H) (le : n ≤ m) where
  pub sorted_on : (u : Atom) {s : Sort} → Sorted G n u s → Sorted H m u s
  sorted_on (atom.Var y) a = record { is = (x.keeps y.number a.below ∙ a.is.0, a.is.1); below = omega (arith, a.below, le) }
  sorted_on (atom.Constant c) a = record { is = a.is; below = tt }

  pub all_on : {us : List Atom} {ss : List Sort} → All_sorted G n us ss → All_sorted H m us ss
  all_on all_none = all_none
  all_on (all_more {x = u} a k) = all_more (sorted_on u a) (all_on k)

  pub scoped_on : {sc : Scope} → Scoped G n sc → Scoped H m sc
  scoped_on no_name = no_name
  scoped_on (name_and k s) = name_and (all_on k) (scoped_on s)

-- of several types, one behind the other
pub knowns_sorted : {G : Sorts} {n : ℕ} (hs : List Shape) {us : List Atom} → All_sorted G n us (all_sorts hs) → All_known G n (knowns hs us)
knowns_sorted [] a = no_known
knowns_sorted (h ∷ hs) a = let p = parted (width h) (sorts h) (all_sorts hs) (sorts_many h) a in known_and p.own (knowns_sorted hs p.rest)

-- ---- operands

pub by_name : {G : Sorts} {n : ℕ} {h : Shape} {us : List Atom} (b : Bool) (k : Known) (found : Option Known) → Known_sorted G n k → cond b (Some k) found ≡ Some (known h us) → (found ≡ Some (known h us) → All_sorted G n us (sorts h)) → All_sorted G n us (sorts h)
by_name {G} {n} true k found a q l = subst (λ z. All_sorted G n z.atoms (sorts z.type)) (some_is q) a
by_name false k found a q l = l q

pub name_sorted : {G : Sorts} {n : ℕ} {h : Shape} {us : List Atom} (x : ℕ) {sc : Scope} → Scoped G n sc → look sc x ≡ Some (known h us) → All_sorted G n us (sorts h)
name_sorted x no_name q = absurd (none_some q)
name_sorted x (name_and {x = y} {k = k} {sc = sc} a s) q = by_name (nat_eq y x) k (look sc x) a q (λ z. name_sorted x s z)

pub lowers_sorted : {G : Sorts} {n : ℕ} {u : Source_atom} {h : Shape} {us : List Atom} {sc : Scope} → Scoped G n sc → Lowers sc u h us → All_sorted G n us (sorts h)
unfolding sorts
lowers_sorted s (name_lowers {x = x} q) = name_sorted x s q
lowers_sorted s constant_lowers = all_more (record { is = refl; below = tt }) all_none

pub operand_sorted : {G : Sorts} {n : ℕ} {u : Source_atom} {h : Shape} {us : List Atom} {sc : Scope} → Scoped G n sc → Operand sc u h us → All_sorted G n us (sorts h)
operand_sorted {G} {n} {us = us} s (operand l o) = subst (λ z. All_sorted G n us z) (sym (sorts_same o)) (lowers_sorted s l)

pub operands_sorted : {G : Sorts} {n : ℕ} {sc : Scope} {us : List Source_atom} {hs : List Shape} {ws : List Atom} → Scoped G n sc → Operands sc us hs ws → All_sorted G n ws (all_sorts hs)
operands_sorted s no_operand = all_none
operands_sorted s (operand_and o os) = both_on (operand_sorted s o) (operands_sorted s os)

pub scalar_sorted : {G : Sorts} {n : ℕ} {u : Source_atom} {t : ScalarType} {w : Atom} {sc : Scope} → Scoped G n sc → Operand sc u (Scalar_shape t) (w ∷ []) → Atom_is G w (scalar_sort t)
unfolding sorts
scalar_sorted s o = one_of (operand_sorted s o)
  where
    one_of : {G : Sorts} {n : ℕ} {w : Atom} {s : Sort} → All_sorted G n (w ∷ []) (s ∷ []) → Atom_is G w s
    one_of (all_more a all_none) = a.is

-- ---- new variables

pub record Extended (G : Sorts) (n : ℕ) (xs : List Var) (m : ℕ) : Type 0 where
  pub extends : Extends n G (with_vars xs G)
  pub sorted : All_sorted (with_vars xs G) m (names xs) (map sort_of xs)

pub variables_sorted : (n : ℕ) (xs : List Var) (m : ℕ) (G : Sorts) → Rise n xs m → Extended G n xs m
variables_sorted n [] m G u = record { extends = extends_same n G; sorted = all_none }
variables_sorted n (x ∷ xs) m G u =
    let r = variables_sorted (suc x.number) xs m ((x.number, sort_of x) ∷ G) u.1 in
    record {
      extends = extends_on (omega (arith, u.0)) (extends_one n x.number (sort_of x) G u.0) r.extends;
      sorted = all_more (sorted_on r.extends (upward_grows (suc x.number) (map number xs) m u.1) (atom.Var x) (record { is = (look_new x.number (sort_of x) G, refl); below = omega arith })) r.sorted;
    }

pub record Made (G : Sorts) (n : ℕ) (xs : List Var) (hs : List Shape) (m : ℕ) : Type 0 where
  pub extends : Extends n G (with_vars xs G)
  pub known : All_known (with_vars xs G) m (knowns hs (names xs))

pub new_sorted : {G : Sorts} {n m : ℕ} {xs : List Var} {hs : List Shape} → New n xs hs m → Made G n xs hs m
new_sorted {G} {n} {m} {xs} {hs} w =
    let r = variables_sorted n xs m G w.rise in
    record { extends = r.extends; known = knowns_sorted hs (subst (λ z. All_sorted (with_vars xs G) m (names xs) z) w.sorted r.sorted) }

pub names_scoped : {G : Sorts} {n : ℕ} (xs : List ℕ) {ks : List Known} {sc inner : Scope} → All_known G n ks → Scoped G n sc → bound xs ks sc ≡ Some inner → Scoped G n inner
names_scoped {G} {n} [] no_known s q = subst (λ z. Scoped G n z) (some_is q) s
names_scoped [] (known_and k a) s q = absurd (none_some q)
names_scoped (x ∷ xs) no_known s q = absurd (none_some q)
names_scoped (x ∷ xs) (known_and k a) s q = names_scoped xs a (name_and k s) q

-- ---- tuples and records

pub tuple_sorts : (hs : List Shape) → sorts (Tuple_shape (shapes hs)) ≡ all_sorts hs
unfolding sorts sorts_of_all
tuple_sorts [] = refl
tuple_sorts (h ∷ hs) = ap (λ z. sorts h ++ z) (tuple_sorts hs)

pub parts_sorts : (hs : Shapes) → sorts (Tuple_shape hs) ≡ all_sorts (parts_of hs)
unfolding sorts sorts_of_all
parts_sorts no_shape = refl
parts_sorts (shape_and h hs) = ap (λ z. sorts h ++ z) (parts_sorts hs)

pub record_sorts : (fs : List Text) (hs : List Shape) → length fs ≡ length hs → sorts (Record_shape (named_shapes fs hs)) ≡ all_sorts hs
unfolding sorts sorts_of_named
record_sorts [] [] e = refl
record_sorts [] (h ∷ hs) e = absurd (omega (arith, e))
record_sorts (f ∷ fs) [] e = absurd (omega (arith, e))
record_sorts (f ∷ fs) (h ∷ hs) e = ap (λ z. sorts h ++ z) (record_sorts fs hs (omega (arith, e)))

pub fields_sorts : (hs : Named_shapes) → sorts (Record_shape hs) ≡ all_sorts (fields_of hs)
unfolding sorts sorts_of_named
fields_sorts no_named_shape = refl
fields_sorts (named_shape_and f h hs) = ap (λ z. sorts h ++ z) (fields_sorts hs)

pub chosen_sorted : {G : Sorts} {n : ℕ} (b : Bool) (s : Known) {k : Known} (found : Option Known) → Known_sorted G n s → cond b (Some s) found ≡ Some k → (found ≡ Some k → Known_sorted G n k) → Known_sorted G n k
chosen_sorted {G} {n} true s found a q l = subst (λ z. Known_sorted G n z) (some_is q) a
chosen_sorted false s found a q l = l q

pub part_sorted : {G : Sorts} {n : ℕ} {k : Known} (p : ℕ) (f : Text) {ks : List Known} → All_known G n ks → part_from p f ks ≡ Some k → Known_sorted G n k
part_sorted p f no_known q = absurd (none_some q)
part_sorted p f (known_and {k = s} {ks = ks} a r) q = chosen_sorted (bytes_eq (decimal p) f) s (part_from (suc p) f ks) a q (λ z. part_sorted (suc p) f r z)

pub field_sorted : {G : Sorts} {n : ℕ} {k : Known} (f : Text) (hs : Named_shapes) {ks : List Known} → All_known G n ks → field f hs ks ≡ Some k → Known_sorted G n k
field_sorted f no_named_shape a q = absurd (none_some q)
field_sorted f (named_shape_and g h hs) no_known q = absurd (none_some q)
field_sorted f (named_shape_and g h hs) (known_and {k = s} {ks = ks} a r) q = chosen_sorted (bytes_eq g f) s (field f hs ks) a q (λ z. field_sorted f hs r z)

pub fields_sorted : {G : Sorts} {n : ℕ} (fs : List Text) (hs : Named_shapes) {ss ks : List Known} → All_known G n ks → some_fields fs hs ks ≡ Some ss → All_known G n ss
fields_sorted {G} {n} [] hs a q = subst (λ z. All_known G n z) (some_is q) no_known
fields_sorted {G} {n} (f ∷ fs) hs {ks = ks} a q =
    let g = given (field f hs ks) (λ k. with_some (some_fields fs hs ks) (λ rest. Some (k ∷ rest))) _ q in
    let r = given (some_fields fs hs ks) (λ rest. Some (g.value ∷ rest)) _ g.gives in
    subst (λ z. All_known G n z) (some_is r.gives) (known_and (field_sorted f hs a g.is) (fields_sorted fs hs a r.is))

-- the fields of a type, each of its own
pub data Field_sorts (G : Sorts) (n : ℕ) : Named_shapes → List Known → Type 0 where
  no_field_sorts : Field_sorts G n no_named_shape []
  field_sorts : {f : Text} {h : Shape} {hs : Named_shapes} {k : Known} {ks : List Known} → All_sorted G n k.atoms (sorts h) → Field_sorts G n hs ks → Field_sorts G n (named_shape_and f h hs) (k ∷ ks)

pub own_sorts : {G : Sorts} {n : ℕ} (hs : Named_shapes) {us : List Atom} → All_sorted G n us (sorts_of_named hs) → Field_sorts G n hs (knowns (fields_of hs) us)
unfolding sorts_of_named
own_sorts no_named_shape a = no_field_sorts
own_sorts (named_shape_and f h hs) a = let p = parted (width h) (sorts h) (sorts_of_named hs) (sorts_many h) a in field_sorts p.own (own_sorts hs p.rest)

pub all_fields : {G : Sorts} {n : ℕ} {hs : Named_shapes} {ks : List Known} → Field_sorts G n hs ks → All_sorted G n (all_atoms ks) (sorts_of_named hs)
unfolding sorts_of_named
all_fields no_field_sorts = all_none
all_fields (field_sorts a r) = both_on a (all_fields r)

pub replaced_by : {G : Sorts} {n : ℕ} (f : Text) (b : Bool) (h k : Shape) (hs ks : Named_shapes) {us ws vs rest : List Atom} → All_sorted G n us (sorts h) → All_sorted G n ws (sorts k) → All_sorted G n vs (sorts_of_named hs) → All_sorted G n rest (sorts_of_named ks) → All_sorted G n (cond b (us ++ vs) (ws ++ rest)) (sorts_of_named (cond b (named_shape_and f h hs) (named_shape_and f k ks)))
unfolding sorts_of_named
replaced_by f true h k hs ks a c r s = both_on a r
replaced_by f false h k hs ks a c r s = both_on c s

pub replaced_sorted : {G : Sorts} {n : ℕ} (f : Text) (h : Shape) {us : List Atom} {hs : Named_shapes} {ks : List Known} → All_sorted G n us (sorts h) → Field_sorts G n hs ks → All_sorted G n (replaced_atoms f us hs ks) (sorts_of_named (replaced_type f h hs))
unfolding sorts_of_named
replaced_sorted f h a no_field_sorts = all_none
replaced_sorted f h a (field_sorts {f = g} {h = k} {hs = hs} b r) = replaced_by g (bytes_eq g f) h k hs (replaced_type f h hs) a b (all_fields r) (replaced_sorted f h a r)

-- ---- arrays

pub each_groups : {G : Sorts} {n : ℕ} {sc : Scope} {h : Shape} {us : List Source_atom} {wss : List (List Atom)} → Scoped G n sc → Each_operand sc h us wss → Groups_are G wss (map (λ u. sorts h) us)
each_groups s no_more = all_none
each_groups s (and_more p ps) = all_more (atoms_are (operand_sorted s p)) (each_groups s ps)

pub two_groups : {G : Sorts} {n : ℕ} {us ws : List Atom} {ss ts : List Sort} → All_sorted G n us ss → All_sorted G n ws ts → Groups_are G (us ∷ ws ∷ []) (ss ∷ ts ∷ [])
two_groups a b = all_more (atoms_are a) (all_more (atoms_are b) all_none)

pub three_groups : {G : Sorts} {n : ℕ} {us ws vs : List Atom} {ss ts rs : List Sort} → All_sorted G n us ss → All_sorted G n ws ts → All_sorted G n vs rs → Groups_are G (us ∷ ws ∷ vs ∷ []) (ss ∷ ts ∷ rs ∷ [])
three_groups a b c = all_more (atoms_are a) (all_more (atoms_are b) (all_more (atoms_are c) all_none))

-- ---- steps

-- steps in order, and the sorts behind them
pub data Run_gives : Sorts → Bindings → Sorts → Type 0 where
  no_step_gives : {G : Sorts} → Run_gives G [] G
  step_gives : {G H : Sorts} {xs : List Var} {a : Action} {bs : Bindings} → Act_gives G a (map sort_of xs) → Run_gives (with_vars xs G) bs H → Run_gives G ((xs, a) ∷ bs) H

pub lets_give : (cs : Bindings) (us : List Atom) {G H : Sorts} {bs : Bindings} {ss : List Sort} → Run_gives G bs H → Body_gives H (lets cs us) ss → Body_gives G (lets (bs ++ cs) us) ss
unfolding lets
lets_give cs us no_step_gives b = b
lets_give cs us (step_gives a r) b = let_gives a (lets_give cs us r b)

pub record Runs (G : Sorts) (n : ℕ) (bs : Bindings) (ks : List Known) (m : ℕ) : Type 0 where
  pub behind : Sorts
  pub gives : Run_gives G bs behind
  pub extends : Extends n G behind
  pub known : All_known behind m ks

pub no_run : {G : Sorts} {n : ℕ} {ks : List Known} → All_known G n ks → Runs G n [] ks n
no_run {G} {n} a = record { behind = G; gives = no_step_gives; extends = extends_same n G; known = a }
