-- What is known of the values of a type where a program is unfolded (a logical relation over worlds that grow). A function is
-- known so that its application has a way on for what is known of each value of its parameter's type, its steps are typed, and
-- what is then known is known of a value of its result's; and so it stays where more is known. Data, in which no function is,
-- may be one component of its type; and of a variable, a rigid and an abstract type it is known as nothing else.
use Rattle.std.specs.Prelude.{◌≡◌, ◌≢◌, ℕ, ◌<◌, List, [], ◌∷◌, Bool, true, false, Option, Some, length}
use Rattle.std.specs.List.{Contains}
use Rattle.fut_meaning.specs.Found.{Told}
use Rattle.fut_ast.specs.Sorts.{Text}
use Rattle.fut_types.specs.declared.Head.TheVariants as head
use Rattle.fut_types.specs.Types.{Ty, Var, Made, Tys, none, more, Sub, Kinds}
use Rattle.fut_typing.specs.Names.{Names, count}
use Rattle.fut_typing.specs.Primitives.{i64_ty}
use Rattle.fut_typing.specs.Scopes.{Scope}
use Rattle.fut_meaning.specs.Values.{Tuple_value, no_value, no_field, field_and}
use Rattle.fut_blocks.specs.declared.block.Atom.{Atom}
use Rattle.fut_blocks.specs.Meaning.{look}
use Rattle.fut_blocks.specs.Plain.{Action}
use Rattle.fut_meaning.specs.Uses.{is_size_in}
use Rattle.type_soundness.specs.Fits.{widest, FlatFields, Are_keys}
use Rattle.unfold.specs.Knowns.{Known, Scalar_known, Tuple_known, Record_known, Knowns, no_known, known_and, Known_fields, no_known_field, known_field_and, Scope as Seen, Tops, find}
use Rattle.unfold.specs.Stuck.{is_function, Stuck_run}
use Rattle.unfold.specs.Unfolding.{Bindings, Applies}
use Rattle.unfold_laws.specs.Entered.{All_in_known, All_entered}
use Rattle.unfold_laws.specs.Typed.{Types, Stands, of_constants, with_atoms, with_each, Names_typed, any_types}

-- ---- worlds

-- atoms of these types, or names of what an act gives
pub data Entry : Type 0 where
  Given : List Atom → Tys → Entry
  Bound : List ℕ → Action → Entry

-- what the atoms stand for, the newest first
abbrev pub Context : Type 0
Context = List Entry

-- behind these steps
abbrev pub behind : Context → Bindings → Context
behind C [] = C
behind C (b ∷ bs) = behind (Bound b.0 b.1 ∷ C) bs

-- what is known where a term is unfolded: the definitions, and what the atoms stand for
abbrev pub World : Type 0
World = Tops × Context

-- each atom has here the types that it has there
abbrev pub Keeps : Types → Types → Type 0
Keeps G H = (u : Atom) (t : Ty) → G u t → H u t

abbrev pub Keeps_tops : Tops → Tops → Type 0
Keeps_tops tops tops' = (k : ℕ) (s : Known) → look tops k ≡ Some s → look tops' k ≡ Some s

module _ (N : Names) (K : Kinds) where
  abbrev pub types_of : Context → Types
  types_of [] = of_constants
  types_of (Given us ts ∷ C) = with_atoms us ts (types_of C)
  types_of (Bound xs a ∷ C) = with_each xs (Names_typed N K any_types a (types_of C)) (types_of C)

  -- each step has some types
  abbrev pub Steps_typed : Context → Bindings → Type 0
  Steps_typed C [] = Unit {0}
  Steps_typed C (b ∷ bs) = ((ss : Tys) × Names_typed N K any_types b.1 (types_of C) ss × (length b.0 ≡ count ss)) × Steps_typed (Bound b.0 b.1 ∷ C) bs

  -- all that is known is known there too
  abbrev pub Learns : World → World → Type 0
  Learns world world' = Keeps_tops world.0 world'.0 × Keeps (types_of world.1) (types_of world'.1)

  -- the steps are typed, and Q holds behind them
  abbrev pub Comes : World → Bindings → (World → Type 0) → Type 0
  Comes world bs Q = Steps_typed world.1 bs × Q (world.0, behind world.1 bs)

  -- the application has a way on, its steps are typed, and all that it comes to is of Q
  abbrev pub Runs_well : Told → World → Known → Known → (World → Known → Type 0) → Type 0
  Runs_well T world h s Q = (Stuck_run T world.0 h s → ⊥) × ((n n' : ℕ) (bs : Bindings) (s' : Known) → Applies T world.0 h s n bs s' n' → Comes world bs (λ there. Q there s'))

-- ---- what is known

abbrev pub On_component : (Atom → Type 0) → Known → Type 0
On_component D (Scalar_known u) = D u
On_component D s = ⊥

-- D where it is one component
abbrev pub On_tuple : (Atom → Type 0) → (Knowns → Type 0) → Known → Type 0
On_tuple D P (Tuple_known ss) = P ss
On_tuple D P (Scalar_known u) = D u
On_tuple D P s = ⊥

abbrev pub On_record : (Atom → Type 0) → (Known_fields → Type 0) → Known → Type 0
On_record D P (Record_known fs) = P fs
On_record D P (Scalar_known u) = D u
On_record D P s = ⊥

abbrev pub No_known : Knowns → Type 0
No_known no_known = Unit {0}
No_known (known_and s ss) = ⊥

abbrev pub First_known : (Known → Type 0) → (Knowns → Type 0) → Knowns → Type 0
First_known P Q no_known = ⊥
First_known P Q (known_and s ss) = P s × Q ss

abbrev pub Each_field : (Text → Known → Type 0) → Known_fields → Type 0
Each_field P no_known_field = Unit {0}
Each_field P (known_field_and g s fs) = P g s × Each_field P fs

-- the names of fields, as a record that has them
abbrev pub keys : Known_fields → FlatFields
keys no_known_field = no_field
keys (known_field_and f s fs) = field_and f (Tuple_value no_value) (keys fs)

-- no function is inside of values of this type
unfoldable mutual
  pub Is_data : Names → Ty → Type 0
  Is_data N (Var n) = Unit {0}
  Is_data N (Made (head.Scalar x) ts) = Unit {0}
  Is_data N (Made head.Array ts) = All_data N ts
  Is_data N (Made head.Tuple ts) = All_data N ts
  Is_data N (Made (head.Record n) ts) = (f : Text) → Contains (N.shapes.fields n) (N.label f) → Part_data N (N.shapes.fields n) ts (N.label f)
  Is_data N (Made head.Fun ts) = ⊥
  Is_data N (Made (head.Rigid n k) ts) = Unit {0}
  Is_data N (Made (head.Abstract n d) ts) = Unit {0}

  pub All_data : Names → Tys → Type 0
  All_data N none = Unit {0}
  All_data N (more t ts) = Is_data N t × All_data N ts

  -- nor of the part that a label names
  pub Part_data : Names → List ℕ → Tys → ℕ → Type 0
  Part_data N [] ts g = Unit {0}
  Part_data N (l ∷ ls) none g = Unit {0}
  Part_data N (l ∷ ls) (more t ts) g = (l ≡ g → Is_data N t) × (l ≢ g → Part_data N ls ts g)

-- no function is inside of a record of these parts
abbrev pub Record_data : Names → ℕ → Tys → Type 0
Record_data N n ts = (f : Text) → Contains (N.shapes.fields n) (N.label f) → Part_data N (N.shapes.fields n) ts (N.label f)

module _ (N : Names) (T : Told) (K : Kinds) where
  abbrev pub Has : World → Ty → Atom → Type 0
  Has world t u = types_of N K world.1 u t

  -- what is known of the values of a type in a world
  unfoldable mutual
    pub Fits : Ty → World → Known → Type 0
    Fits (Var n) world s = On_component (Has world (Var n)) s
    Fits (Made (head.Scalar x) ts) world s = On_component (Has world (Made (head.Scalar x) ts)) s
    Fits (Made head.Array ts) world s = All_data N ts × On_component (Has world (Made head.Array ts)) s
    Fits (Made head.Tuple ts) world s = On_tuple (λ u. All_data N ts × Has world (Made head.Tuple ts) u) (λ ss. (count ts < widest) × All_fit ts world ss) s
    Fits (Made (head.Record n) ts) world s =
        On_record (λ u. Record_data N n ts × Has world (Made (head.Record n) ts) u) (λ fs. Are_keys N (N.shapes.fields n) (keys fs) × (count ts ≡ length (N.shapes.fields n)) × Each_field (λ g u. Keyed (N.shapes.fields n) ts world (N.label g) u) fs) s
    Fits (Made head.Fun none) world s = ⊥
    Fits (Made head.Fun (more t none)) world s = ⊥
    Fits (Made head.Fun (more t (more u none))) world h = (is_function h ≡ true) × All_in_known (Stands (types_of N K world.1)) h × ((world' : World) → Learns N K world world' → (s : Known) → Fits t world' s → Runs_well N K T world' h s (Fits u))
    Fits (Made head.Fun (more t (more u (more w ts)))) world s = ⊥
    Fits (Made (head.Rigid n k) ts) world s = On_component (Has world (Made (head.Rigid n k) ts)) s
    Fits (Made (head.Abstract n d) ts) world s = On_component (Has world (Made (head.Abstract n d) ts)) s

    pub All_fit : Tys → World → Knowns → Type 0
    All_fit none world ss = No_known ss
    All_fit (more t ts) world ss = First_known (Fits t world) (All_fit ts world) ss

    -- this is known of the part that a label names
    pub Keyed : List ℕ → Tys → World → ℕ → Known → Type 0
    Keyed [] ts world g s = ⊥
    Keyed (l ∷ ls) none world g s = ⊥
    Keyed (l ∷ ls) (more t ts) world g s = (l ≡ g → Fits t world s) × (l ≢ g → Keyed ls ts world g s)

-- a size is used at the type i64; another name is known, and by this type
abbrev pub Name_fits : Names → Told → Kinds → World → Ty → Option Known → Bool → Type 0
Name_fits N T K world t o true = t ≡ i64_ty
Name_fits N T K world t o false = (s : Known) × (o ≡ Some s) × Fits N T K t world s

-- Of what was entered each atom stands for data, and so it is with each name of P, at each type at which it may be used: a local
-- one, or else a definition.
abbrev pub Names_fit : Names → Told → World → (ℕ → Type 0) → Scope → Kinds → Sub → Seen → Type 0
Names_fit N T world P scope K a sc = All_entered (Stands (types_of N K world.1)) sc × ((b : ℕ) → P b → (t : Ty) → scope.uses b K a t → Name_fits N T K world t (find world.0 sc b) (is_size_in T.sizes b))
