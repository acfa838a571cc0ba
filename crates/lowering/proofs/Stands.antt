-- When what is known of a name stands for its data, under the components of the variables that were bound so far.
use Rattle.std.proofs.Common.{◌≡◌, ℕ, zero, suc, ◌+◌, ◌<◌, ◌≤◌, List, [], ◌∷◌, ◌++◌, Bool, true, false, cond, nat_eq, Option, Some, None, map, take, drop, length, refl, ap, ◌∙◌, sym, subst, arith, eq-eqb}
use Rattle.std.specs.Prelude.{flat_map}
use Rattle.std.proofs.lemmas.Bool.{ne_eqb}
use Rattle.std.proofs.lemmas.List.{length-append, length-map}
use Rattle.fut_value.specs.Data.{Shape, Scalar_shape, Datum, Scalar_datum, shape_of}
use Rattle.fut_meaning.specs.Accessors.{or_wrong}
use Rattle.fut_meaning.specs.Outcomes.{Out, Val, and_then}
use Rattle.fut_meaning.specs.Sames.{All_same, all_none, all_more}
use Rattle.fut_blocks.specs.declared.block.Atom.{Atom as Source_atom}
use Rattle.fut_arithmetic.specs.Types.{type_of}
use Rattle.fut_blocks.specs.Meaning.{Names, look, bound, fitted}
use Rattle.fut_blocks.specs.Meaning as source
use Rattle.fut_blocks.specs.Numbered.{Upward}
use Rattle.core_ir.specs.declared.block.Var.{Var}
use Rattle.core_ir.specs.declared.block.Atom.{Atom}
use Rattle.core_ir.specs.declared.block.Atom.TheVariants as atom
use Rattle.core_ir.specs.Bundles.{Component, Row, sizes}
use Rattle.core_ir.specs.Meaning.{Env, number, value_of, values_of}
use Rattle.core_ir.specs.Numbered.{Rise}
use Rattle.core_ir.specs.Typed.{sort_of}
use Rattle.core_ir.proofs.NeverWrong.{fitted_type}
use Rattle.core_values.specs.Components.{components, One_type, scalars, a_scalar}
use Rattle.core_values.proofs.Good.{components_are_sized}
use Rattle.core_values.proofs.Same.{leaves_many}
use Rattle.lowering.specs.Knowns.{Known, known, Scope, width, knowns, names, New, Lowers, name_lowers, constant_lowers, Operand, operand, Operands, no_operand, operand_and, sorts, all_sorts}
use Rattle.lowering.specs.Programs.{Is_data, Are_data}
use Rattle.lowering.proofs.Types.{one_then, sorts_many}

abbrev pub Below : ℕ → Atom → Type 0
Below n (atom.Var x) = x.number < n
Below n (atom.Constant c) = Unit {0}

-- an atom, whose variable is below n, has this component
pub record Has (e : Env) (n : ℕ) (u : Atom) (c : Component) : Type 0 where
  pub value : value_of e u ≡ Val c
  pub below : Below n u

abbrev pub Have : Env → ℕ → List Atom → Row → Type 0
Have e n = All_same (Has e n)

pub record Stands (e : Env) (n : ℕ) (k : Known) (d : Datum) : Type 0 where
  pub have : Have e n k.atoms (components d)
  pub is_data : Is_data k.type d

abbrev pub All_stand : Env → ℕ → List Known → List Datum → Type 0
All_stand e n = All_same (Stands e n)

pub data Holds (e : Env) (n : ℕ) : Scope → Names Datum → Type 0 where
  no_name : Holds e n [] []
  name_and : {x : ℕ} {k : Known} {d : Datum} {sc : Scope} {env : Names Datum} → Stands e n k d → Holds e n sc env → Holds e n ((x, k) ∷ sc) ((x, d) ∷ env)

-- ---- more variables

-- the variables below n keep what they stand for
pub record Extends {A : Type 0} (n : ℕ) (d e : Names A) : Type 0 where
  pub keeps : (z : ℕ) → z < n → look e z ≡ look d z

pub extends_same : {A : Type 0} (n : ℕ) (d : Names A) → Extends n d d
extends_same n d = record { keeps = λ z lt. refl }

pub extends_on : {A : Type 0} {n m : ℕ} {d e e' : Names A} → n ≤ m → Extends n d e → Extends m e e' → Extends n d e'
extends_on le x y = record { keeps = λ z lt. y.keeps z (omega (arith, lt, le)) ∙ x.keeps z lt }

pub extends_one : {A : Type 0} (n x : ℕ) (c : A) (d : Names A) → n ≤ x → Extends n d ((x, c) ∷ d)
extends_one n x c d le = record { keeps = λ z lt. ap (λ b. cond b (Some c) (look d z)) (ne_eqb x z (λ e. omega (arith, e, lt, le))) }

pub look_new : {A : Type 0} (x : ℕ) (c : A) (d : Names A) → look ((x, c) ∷ d) x ≡ Some c
look_new x c d = ap (λ b. cond b (Some c) (look d x)) (eq-eqb x x refl)

pub has_new : (x : Var) (c : Component) (d : Env) → Has ((x.number, c) ∷ d) (suc x.number) (atom.Var x) c
has_new x c d = record { value = ap or_wrong (look_new x.number c d); below = omega arith }

module _ {d e : Env} {n m : ℕ} (x : Extends n d e) (le : n ≤ m) where
  pub has_on : (u : Atom) {c : Component} → Has d n u c → Has e m u c
  has_on (atom.Var y) h = record { value = ap or_wrong (x.keeps y.number h.below) ∙ h.value; below = omega (arith, h.below, le) }
  has_on (atom.Constant c) h = record { value = h.value; below = tt }

  pub have_on : {us : List Atom} {cs : Row} → Have d n us cs → Have e m us cs
  have_on all_none = all_none
  have_on (all_more {x = u} h k) = all_more (has_on u h) (have_on k)

  pub stands_on : {k : Known} {v : Datum} → Stands d n k v → Stands e m k v
  stands_on s = record { have = have_on s.have; is_data = s.is_data }

  pub all_on : {ks : List Known} {vs : List Datum} → All_stand d n ks vs → All_stand e m ks vs
  all_on all_none = all_none
  all_on (all_more s a) = all_more (stands_on s) (all_on a)

  pub holds_on : {sc : Scope} {env : Names Datum} → Holds d n sc env → Holds e m sc env
  holds_on no_name = no_name
  holds_on (name_and s h) = name_and (stands_on s) (holds_on h)

-- ---- lists that are related one by one

pub both_on : {A B : Type 0} {r : A → B → Type 0} {xs ys : List A} {zs ws : List B} → All_same r xs zs → All_same r ys ws → All_same r (xs ++ ys) (zs ++ ws)
both_on all_none k = k
both_on (all_more h a) k = all_more h (both_on a k)

-- those behind the first ones, and those
pub record Parted {A B : Type 0} (r : A → B → Type 0) (n : ℕ) (xs : List A) (zs ws : List B) : Type 0 where
  pub own : All_same r (take n xs) zs
  pub rest : All_same r (drop n xs) ws

pub parted : {A B : Type 0} {r : A → B → Type 0} (n : ℕ) {xs : List A} (zs ws : List B) → length zs ≡ n → All_same r xs (zs ++ ws) → Parted r n xs zs ws
parted zero [] ws e a = record { own = all_none; rest = a }
parted zero (z ∷ zs) ws e a = absurd (omega (arith, e))
parted (suc n) [] ws e a = absurd (omega (arith, e))
parted (suc n) (z ∷ zs) ws e (all_more h a) = let p = parted n zs ws (omega (arith, e)) a in record { own = all_more h p.own; rest = p.rest }

pub values_are : {e : Env} {n : ℕ} {us : List Atom} {cs : Row} → Have e n us cs → values_of e us ≡ Val cs
values_are all_none = refl
values_are {e} (all_more {x = u} {x' = c} {xs = us} k a) = ap (λ z. and_then z (λ v. and_then (values_of e us) (λ vs. Val (v ∷ vs)))) k.value ∙ ap (λ z. and_then z (λ vs. Val (c ∷ vs))) (values_are a)

-- ---- data by its components

-- as many components as its type has
pub components_many : {h : Shape} {d : Datum} → Is_data h d → length (components d) ≡ width h
components_many {h} {d} i = sym (length-map (components d) sizes) ∙ ap length (components_are_sized d i.regular) ∙ sym (leaves_many i.typed)

-- what is known of data, one after the other
pub knowns_stand : {e : Env} {n : ℕ} (hs : List Shape) {us : List Atom} {ds : List Datum} → Are_data hs ds → Have e n us (flat_map components ds) → All_stand e n (knowns hs us) ds
knowns_stand [] all_none a = all_none
knowns_stand (h ∷ hs) (all_more {x' = d} {xs' = ds} i k) a =
    let p = parted (width h) (components d) (flat_map components ds) (components_many i) a in
    all_more (record { have = p.own; is_data = i }) (knowns_stand hs k p.rest)

-- ---- operands

pub some_is : {A : Type 0} {a b : A} → Some a ≡ Some b → a ≡ b
some_is e = cc

pub none_some : {A : Type 0} {a : A} → None ≡ Some a → ⊥
none_some {a = a} q = absurd (let z : None ≡ Some a = q in cc)

pub record Found (e : Env) (n : ℕ) (h : Shape) (us : List Atom) (o : Out Datum) : Type 0 where
  pub datum : Datum
  pub is : o ≡ Val datum
  pub have : Have e n us (components datum)
  pub is_data : Is_data h datum

pub record All_found (e : Env) (n : ℕ) (hs : List Shape) (us : List Atom) (o : Out (List Datum)) : Type 0 where
  pub list : List Datum
  pub is : o ≡ Val list
  pub have : Have e n us (flat_map components list)
  pub are_data : Are_data hs list

module _ {e : Env} {n : ℕ} where
  by_name : (b : Bool) {h : Shape} {us : List Atom} (k : Known) (d : Datum) (found : Option Known) (o : Option Datum) → Stands e n k d → cond b (Some k) found ≡ Some (known h us) → (found ≡ Some (known h us) → Found e n h us (or_wrong o)) → Found e n h us (or_wrong (cond b (Some d) o))
  by_name true k d found o s q l = record { datum = d; is = refl; have = subst (λ z. Have e n z (components d)) (ap (λ z. z.atoms) (some_is q)) s.have; is_data = subst (λ z. Is_data z d) (ap (λ z. z.type) (some_is q)) s.is_data }
  by_name false k d found o s q l = l q

  name_found : (x : ℕ) {h : Shape} {us : List Atom} {sc : Scope} {env : Names Datum} → Holds e n sc env → look sc x ≡ Some (known h us) → Found e n h us (or_wrong (look env x))
  name_found x no_name q = absurd (none_some q)
  name_found x (name_and {x = y} {k = k} {d = d} {sc = sc} {env = env} s h) q = by_name (nat_eq y x) k d (look sc x) (look env x) s q (λ z. name_found x h z)

  pub lowers_found : {u : Source_atom} {h : Shape} {us : List Atom} {sc : Scope} {env : Names Datum} → Holds e n sc env → Lowers sc u h us → Found e n h us (source.value_of env u)
  unfolding components shape_of
  lowers_found h (name_lowers {x = x} q) = name_found x h q
  lowers_found h (constant_lowers {s = s}) = record {
    datum = Scalar_datum (fitted s);
    is = refl;
    have = all_more (record { value = refl; below = tt }) all_none;
    is_data = record { regular = a_scalar; typed = subst (λ t. One_type (Scalar_shape (type_of s)) (Scalar_shape t)) (sym (fitted_type s)) scalars };
  }

  pub operand_found : {u : Source_atom} {h : Shape} {us : List Atom} {sc : Scope} {env : Names Datum} → Holds e n sc env → Operand sc u h us → Found e n h us (source.value_of env u)
  operand_found h (operand l o) =
      let f = lowers_found h l in
      record { datum = f.datum; is = f.is; have = f.have; is_data = record { regular = f.is_data.regular; typed = one_then o f.is_data.typed } }

  pub operands_found : {sc : Scope} {env : Names Datum} {us : List Source_atom} {hs : List Shape} {ws : List Atom} → Holds e n sc env → Operands sc us hs ws → All_found e n hs ws (source.values_of env us)
  operands_found h no_operand = record { list = []; is = refl; have = all_none; are_data = all_none }
  operands_found {env = env} h (operand_and {us = us} o os) =
      let f = operand_found h o in
      let g = operands_found h os in
      record {
        list = f.datum ∷ g.list;
        is = ap (λ z. and_then z (λ v. and_then (source.values_of env us) (λ vs. Val (v ∷ vs)))) f.is ∙ ap (λ z. and_then z (λ vs. Val (f.datum ∷ vs))) g.is;
        have = both_on f.have g.have;
        are_data = all_more f.is_data g.are_data;
      }

-- ---- new names

pub record Bound (e : Env) (n : ℕ) (sc : Scope) (o : Option (Names Datum)) : Type 0 where
  pub env : Names Datum
  pub is : o ≡ Some env
  pub holds : Holds e n sc env

-- names of blocks for data that is known
pub names_hold : {e : Env} {n : ℕ} (xs : List ℕ) {ks : List Known} {ds : List Datum} {sc inner : Scope} {env : Names Datum} → All_stand e n ks ds → Holds e n sc env → bound xs ks sc ≡ Some inner → Bound e n inner (bound xs ds env)
names_hold {e} {n} [] {env = env} all_none h q = record { env = env; is = refl; holds = subst (λ z. Holds e n z env) (some_is q) h }
names_hold [] (all_more s a) h q = absurd (none_some q)
names_hold (x ∷ xs) all_none h q = absurd (none_some q)
names_hold (x ∷ xs) (all_more s a) h q = names_hold xs a (name_and s h) q

pub record Binds (d : Env) (n : ℕ) (xs : List Var) (cs : Row) (m : ℕ) (o : Option Env) : Type 0 where
  pub env : Env
  pub is : o ≡ Some env
  pub extends : Extends n d env
  pub have : Have env m (names xs) cs

pub upward_grows : (n : ℕ) (xs : List ℕ) (m : ℕ) → Upward n xs m → n ≤ m
upward_grows n [] m u = u
upward_grows n (x ∷ xs) m u = let v = upward_grows (suc x) xs m u.1 in omega (arith, u.0, v)

pub new_grows : {n m : ℕ} {xs : List Var} {hs : List Shape} → New n xs hs m → n ≤ m
new_grows {n} {m} {xs} w = upward_grows n (map number xs) m w.rise

upward_from : (n k : ℕ) (xs : List ℕ) (m : ℕ) → n ≤ k → Upward k xs m → Upward n xs m
upward_from n k [] m le u = omega (arith, le, u)
upward_from n k (x ∷ xs) m le u = (omega (arith, le, u.0), u.1)

-- from an earlier one on
pub new_from : {n k m : ℕ} {xs : List Var} {hs : List Shape} → n ≤ k → New k xs hs m → New n xs hs m
new_from {n} {k} {m} {xs} le w = record { rise = upward_from n k (map number xs) m le w.rise; sorted = w.sorted }

-- variables for components
pub variables_bind : (n : ℕ) (xs : List Var) (m : ℕ) (cs : Row) (d : Env) → Rise n xs m → length xs ≡ length cs → Binds d n xs cs m (bound (map number xs) cs d)
variables_bind n [] m [] d u e = record { env = d; is = refl; extends = extends_same n d; have = all_none }
variables_bind n [] m (c ∷ cs) d u e = absurd (omega (arith, e))
variables_bind n (x ∷ xs) m [] d u e = absurd (omega (arith, e))
variables_bind n (x ∷ xs) m (c ∷ cs) d u e =
    let r = variables_bind (suc x.number) xs m cs ((x.number, c) ∷ d) u.1 (omega (arith, e)) in
    record {
      env = r.env;
      is = r.is;
      extends = extends_on (omega (arith, u.0)) (extends_one n x.number c d u.0) r.extends;
      have = all_more (has_on r.extends (upward_grows (suc x.number) (map number xs) m u.1) (atom.Var x) (has_new x c d)) r.have;
    }

all_sorts_many : (hs : List Shape) {ds : List Datum} → Are_data hs ds → length (all_sorts hs) ≡ length (flat_map components ds)
all_sorts_many [] all_none = refl
all_sorts_many (h ∷ hs) (all_more {x' = d} {xs' = ds} i a) =
    length-append (sorts h) (all_sorts hs) ∙ ap (λ z. z + length (all_sorts hs)) (sorts_many h ∙ sym (components_many i)) ∙ ap (λ z. length (components d) + z) (all_sorts_many hs a) ∙ sym (length-append (components d) (flat_map components ds))

-- new variables for the components of data
pub new_bind : {n m : ℕ} {xs : List Var} {hs : List Shape} {ds : List Datum} (d : Env) → New n xs hs m → Are_data hs ds → Binds d n xs (flat_map components ds) m (bound (map number xs) (flat_map components ds) d)
new_bind {n} {m} {xs} {hs} {ds} d w a = variables_bind n xs m (flat_map components ds) d w.rise (sym (length-map xs sort_of) ∙ ap length w.sorted ∙ all_sorts_many hs a)
