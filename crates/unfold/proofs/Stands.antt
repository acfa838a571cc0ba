-- When what is known of a value stands for it, under the values of the names that were bound so far.
use Rattle.std.proofs.Common.{◌≡◌, ℕ, suc, ◌<◌, ◌≤◌, List, ◌∷◌, Bool, true, false, cond, nat_eq, Option, Some, None, refl, ap, ◌∙◌, sym, subst, arith, eq-eqb}
use Rattle.std.proofs.lemmas.Bool.{ne_eqb, eqb-true, eqb-false}
use Rattle.fut_scalar.specs.declared.place.BindId.{BindId}
use Rattle.fut_scalar.specs.declared.place.Place.{Place}
use Rattle.fut_ast.specs.Sorts.{Text}
use Rattle.fut_flat.specs.declared.prim.Primitive.{Primitive}
use Rattle.fut_flat.specs.declared.prim.Ref.{Ref}
use Rattle.fut_flat.specs.Erased.{FlatTerm}
use Rattle.fut_flat.specs.Terms.{Patterns}
use Rattle.fut_meaning.specs.Found.{Sizing}
use Rattle.fut_meaning.specs.Outcomes.{Out, Val}
use Rattle.fut_meaning.specs.Values.{Scalar_value, Tuple_value, Record_value, Closure, Primitive_value, Values, no_value, value_and, Fields, no_field, field_and, base, bind, entered}
use Rattle.fut_scalar.specs.declared.scalar.Scalar.{Scalar}
use Rattle.fut_meaning.specs.Datums.{as_value}
use Rattle.fut_meaning.specs.Accessors.{or_wrong}
use Rattle.fut_meaning.specs.Flats.{FlatValue, FlatEnv, FlatTops, flat_look}
use Rattle.fut_meaning.specs.Programs.{top}
use Rattle.fut_meaning.specs.Sames.{All_same, all_none, all_more}
use Rattle.fut_blocks.specs.declared.block.Atom.{Atom}
use Rattle.fut_blocks.specs.declared.block.Atom.TheVariants as atom
use Rattle.fut_blocks.specs.Meaning.{Component, Names, look, value_of}
use Rattle.unfold.specs.Telling.{enter}
use Rattle.unfold.specs.Knowns.{local, local_by, Known, Scalar_known, Tuple_known, Record_known, Function_known, Primitive_known, Knowns, no_known, known_and, Known_fields, no_known_field, known_field_and, Scope, nothing_seen, name_and, Tops, find}
use Rattle.unfold.proofs.Locals.{found_here, found_on, no_local}

abbrev pub FlatValues : Type 0
FlatValues = Values Ref BindId (Unit {0})

abbrev pub FlatFields : Type 0
FlatFields = Fields Ref BindId (Unit {0})

abbrev pub scalar_value : Scalar → FlatValue
scalar_value c = Scalar_value c

abbrev pub Below : ℕ → Atom → Type 0
Below n (atom.Name x) = x < n
Below n (atom.Constant c) = Unit {0}

-- an atom, whose name is below n, has this component
pub record Has (d : Names Component) (n : ℕ) (u : Atom) (c : Component) : Type 0 where
  pub value : value_of d u ≡ Val c
  pub below : Below n u

mutual
  pub data Stands (sizes : Option Sizing) (d : Names Component) (n : ℕ) : Known → FlatValue → Type 0 where
    s_scalar : {u : Atom} {c : Component} {v : FlatValue} → v ≡ as_value c → Has d n u c → Stands sizes d n (Scalar_known u) v
    s_tuple : {ss : Knowns} {vs : FlatValues} → All_stand sizes d n ss vs → Stands sizes d n (Tuple_known ss) (Tuple_value vs)
    s_record : {fs : Known_fields} {gs : FlatFields} → Fields_stand sizes d n fs gs → Stands sizes d n (Record_known fs) (Record_value gs)
    s_function : {ps : Patterns Ref BindId} {e : FlatTerm} {lo : ℕ} {sc : Scope} {env : FlatEnv} → Holds sizes d n sc env → Stands sizes d n (Function_known ps e lo sc) (Closure ps e lo env)
    s_primitive : {p : Primitive} {at : Place} {ss : Knowns} {vs : FlatValues} → All_stand sizes d n ss vs → Stands sizes d n (Primitive_known p at ss) (Primitive_value p at vs)

  pub data All_stand (sizes : Option Sizing) (d : Names Component) (n : ℕ) : Knowns → FlatValues → Type 0 where
    s_none : All_stand sizes d n no_known no_value
    s_more : {s : Known} {ss : Knowns} {v : FlatValue} {vs : FlatValues} → Stands sizes d n s v → All_stand sizes d n ss vs → All_stand sizes d n (known_and s ss) (value_and v vs)

  pub data Fields_stand (sizes : Option Sizing) (d : Names Component) (n : ℕ) : Known_fields → FlatFields → Type 0 where
    s_no_field : Fields_stand sizes d n no_known_field no_field
    s_field : {f : Text} {s : Known} {fs : Known_fields} {v : FlatValue} {gs : FlatFields} → Stands sizes d n s v → Fields_stand sizes d n fs gs → Fields_stand sizes d n (known_field_and f s fs) (field_and f v gs)

  pub data Holds (sizes : Option Sizing) (d : Names Component) (n : ℕ) : Scope → FlatEnv → Type 0 where
    h_base : {u : Unit {0}} → Holds sizes d n nothing_seen (base u)
    h_bind : {b : BindId} {s : Known} {sc : Scope} {v : FlatValue} {env : FlatEnv} → Stands sizes d n s v → Holds sizes d n sc env → Holds sizes d n (name_and b s sc) (bind b v env)
    -- what was entered is no name, and is remembered where there is a sizing
    h_entered : {q : ℕ} {s : Known} {sc : Scope} {v : FlatValue} {env : FlatEnv} → Stands sizes d n s v → Holds sizes d n sc env → Holds sizes d n (enter sizes q s sc) (entered q v env)

-- definitions that were evaluated, by the same numbers
pub record Top_stands (sizes : Option Sizing) (d : Names Component) (n : ℕ) (s : ℕ × Known) (v : ℕ × FlatValue) : Type 0 where
  pub number : s.0 ≡ v.0
  pub stands : Stands sizes d n s.1 v.1

abbrev pub Tops_stand : Option Sizing → Names Component → ℕ → Tops → FlatTops → Type 0
Tops_stand sizes d n = All_same (Top_stands sizes d n)

-- ---- more names

-- the names below n keep their components
pub record Extends (n : ℕ) (d e : Names Component) : Type 0 where
  pub keeps : (z : ℕ) → z < n → look e z ≡ look d z

pub extends_same : (n : ℕ) (d : Names Component) → Extends n d d
extends_same n d = record { keeps = λ z lt. refl }

pub extends_on : {n m : ℕ} {d e e' : Names Component} → n ≤ m → Extends n d e → Extends m e e' → Extends n d e'
extends_on le x y = record { keeps = λ z lt. y.keeps z (omega (arith, lt, le)) ∙ x.keeps z lt }

pub extends_one : (n x : ℕ) (c : Component) (d : Names Component) → n ≤ x → Extends n d ((x, c) ∷ d)
extends_one n x c d le = record { keeps = λ z lt. ap (λ b. cond b (Some c) (look d z)) (ne_eqb x z (λ e. omega (arith, e, lt, le))) }

pub look_new : (x : ℕ) (c : Component) (d : Names Component) → look ((x, c) ∷ d) x ≡ Some c
look_new x c d = ap (λ b. cond b (Some c) (look d x)) (eq-eqb x x refl)

pub has_new : (x : ℕ) (c : Component) (d : Names Component) → Has ((x, c) ∷ d) (suc x) (atom.Name x) c
has_new x c d = record { value = ap or_wrong (look_new x c d); below = omega arith }

module _ {d e : Names Component} {n m : ℕ} (x : Extends n d e) (le : n ≤ m) where
  pub has_on : (u : Atom) {c : Component} → Has d n u c → Has e m u c
  has_on (atom.Name y) h = record { value = ap or_wrong (x.keeps y h.below) ∙ h.value; below = omega (arith, h.below, le) }
  has_on (atom.Constant c) h = record { value = h.value; below = tt }

  mutual
    pub stands_on : {sizes : Option Sizing} {s : Known} {v : FlatValue} → Stands sizes d n s v → Stands sizes e m s v
    stands_on (s_scalar {u} e h) = s_scalar e (has_on u h)
    stands_on (s_tuple h) = s_tuple (all_on h)
    stands_on (s_record h) = s_record (fields_on h)
    stands_on (s_function h) = s_function (holds_on h)
    stands_on (s_primitive h) = s_primitive (all_on h)

    pub all_on : {sizes : Option Sizing} {ss : Knowns} {vs : FlatValues} → All_stand sizes d n ss vs → All_stand sizes e m ss vs
    all_on s_none = s_none
    all_on (s_more h k) = s_more (stands_on h) (all_on k)

    pub fields_on : {sizes : Option Sizing} {fs : Known_fields} {gs : FlatFields} → Fields_stand sizes d n fs gs → Fields_stand sizes e m fs gs
    fields_on s_no_field = s_no_field
    fields_on (s_field h k) = s_field (stands_on h) (fields_on k)

    pub holds_on : {sizes : Option Sizing} {sc : Scope} {env : FlatEnv} → Holds sizes d n sc env → Holds sizes e m sc env
    holds_on h_base = h_base
    holds_on (h_bind h k) = h_bind (stands_on h) (holds_on k)
    holds_on (h_entered h k) = h_entered (stands_on h) (holds_on k)

  pub tops_on : {sizes : Option Sizing} {tops : Tops} {tops' : FlatTops} → Tops_stand sizes d n tops tops' → Tops_stand sizes e m tops tops'
  tops_on all_none = all_none
  tops_on (all_more h k) = all_more (record { number = h.number; stands = stands_on h.stands }) (tops_on k)

  pub list_on : {sizes : Option Sizing} {ss : List Known} {vs : List FlatValue} → All_same (Stands sizes d n) ss vs → All_same (Stands sizes e m) ss vs
  list_on all_none = all_none
  list_on (all_more h k) = all_more (stands_on h) (list_on k)

  pub atoms_on : {us : List Atom} {cs : List Component} → All_same (Has d n) us cs → All_same (Has e m) us cs
  atoms_on all_none = all_none
  atoms_on (all_more {x = u} h k) = all_more (has_on u h) (atoms_on k)

-- ---- names that are found

pub some_inj : {A : Type 0} {a b : A} → Some a ≡ Some b → a ≡ b
some_inj h = cc

-- a value that is known stands for one that is found
pub record Finds {A : Type 0} (r : A → FlatValue → Type 0) (s : A) (o : Out FlatValue) : Type 0 where
  pub value : FlatValue
  pub is : o ≡ Val value
  pub stands : r s value

-- what was entered is no name
entered_find : (sizes : Option Sizing) (tops : Tops) (q : ℕ) (u : Known) (sc : Scope) (k : ℕ) → find tops (enter sizes q u sc) k ≡ find tops sc k
unfolding find local local_by
entered_find None tops q u sc k = refl
entered_find (Some Z) tops q u sc k = refl

module _ (d : Names Component) (n : ℕ) where
  by_name : {sizes : Option Sizing} (b b' : Bool) → b ≡ b' → (s t : Known) (v : FlatValue) (found : Option Known) (o : Out FlatValue) → Stands sizes d n t v → cond b (Some t) found ≡ Some s → (found ≡ Some s → Finds (Stands sizes d n) s o) → Finds (Stands sizes d n) s (cond b' (Val v) o)
  by_name {sizes = sizes} true true e s t v found o h q k = record { value = v; is = refl; stands = subst (λ z. Stands sizes d n z v) (some_inj q) h }
  by_name false false e s t v found o h q k = k q
  by_name true false e s t v found o h q k = absurd (let z : true ≡ false = e in cc)
  by_name false true e s t v found o h q k = absurd (let z : false ≡ true = e in cc)

  found_by : (tops : Tops) (b : BindId) (u : Known) (sc : Scope) (k : ℕ) (c : Bool) → nat_eq b.0 k ≡ c → find tops (name_and b u sc) k ≡ cond c (Some u) (find tops sc k)
  found_by tops b u sc k true e = found_here tops b u sc k (eqb-true b.0 k e)
  found_by tops b u sc k false e = found_on tops b u sc k (eqb-false b.0 k e)

  pub top_found : {sizes : Option Sizing} (k : ℕ) (s : Known) {tops : Tops} {tops' : FlatTops} → Tops_stand sizes d n tops tops' → look tops k ≡ Some s → Finds (Stands sizes d n) s (top tops' k)
  top_found k s all_none q = absurd (let z : None ≡ Some s = q in cc)
  top_found k s (all_more {x = a} {x' = b} h t) q = by_name (nat_eq a.0 k) (nat_eq b.0 k) (ap (λ z. nat_eq z k) h.number) s a.1 b.1 _ _ h.stands q (λ e. top_found k s t e)

  pub name_found : {sizes : Option Sizing} (k : ℕ) (s : Known) {tops : Tops} {tops' : FlatTops} {sc : Scope} {env : FlatEnv} → Tops_stand sizes d n tops tops' → Holds sizes d n sc env → find tops sc k ≡ Some s → Finds (Stands sizes d n) s (flat_look tops' env k)
  unfolding flat_look
  name_found {sizes = sizes} k s {tops = tops} t (h_entered {q = q'} {s = u} {sc = sc} h hs) q = name_found k s t hs (sym (entered_find sizes tops q' u sc k) ∙ q)
  name_found k s {tops = tops} t h_base q = top_found k s t (sym (no_local tops k) ∙ q)
  name_found k s {tops = tops} t (h_bind {b} {s = u} {sc = sc} {v = v} h hs) q =
      by_name (nat_eq b.0 k) (nat_eq b.0 k) refl s u v (find tops sc k) _ h (sym (found_by tops b u sc k (nat_eq b.0 k) refl) ∙ q) (λ e. name_found k s t hs e)
