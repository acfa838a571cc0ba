-- What is known of the values of a type where a program is walked through. Of data nothing is known, and a variable, a rigid
-- and an abstract type stand for data: nothing else of them is ever made. A function is known so that its walk is never lost
-- for what is known of its parameter's type, and what is known of its results is of its result's type; and so it stays where
-- more definitions are known, none of which has the number of a size.
use Rattle.std.specs.Prelude.{◌≡◌, ◌≢◌, ℕ, ◌<◌, List, [], ◌∷◌, Bool, true, false, Option, Some, None}
use Rattle.fut_ast.specs.Sorts.{Text}
use Rattle.fut_flat.specs.Erased.{FlatTerm}
use Rattle.fut_types.specs.declared.Head.TheVariants as head
use Rattle.fut_types.specs.Types.{Ty, Var, Made, Tys, none, more, Sub, Kinds}
use Rattle.fut_types.specs.Shapes.{HasPart}
use Rattle.fut_typing.specs.Names.{Names, count}
use Rattle.fut_typing.specs.Primitives.{i64_ty}
use Rattle.fut_typing.specs.Scopes.{Scope}
use Rattle.fut_meaning.specs.Knowns.{Known, Data, Known_tuple, Known_record, Known_function, Known_primitive, Knowns, known_none, known_and, Known_fields, known_no_field, known_field, Scope as Seen, find, or_else, all_data, fields_data, known_field_of}
use Rattle.fut_meaning.specs.Walk.{Runs}
use Rattle.fut_meaning.specs.Comes.{Inside_run, Comes, is_function, Stuck_run, Lost}
use Rattle.type_soundness.specs.Fits.{widest}

-- nothing is known of the numbers of sizes
abbrev pub Clear : (ℕ → Bool) → Seen → Type 0
Clear S tops = (k : ℕ) → S k ≡ true → find tops k ≡ None

-- the definitions that are known are among these, with the same values, and no size is
abbrev pub Learns : (ℕ → Bool) → Seen → Seen → Type 0
Learns S tops tops' = ((k : ℕ) (s : Known) → find tops k ≡ Some s → find tops' k ≡ Some s) × Clear S tops'

-- from a term the walk comes to none where it is lost
abbrev pub Never_lost : Seen → Seen → FlatTerm → Type 0
Never_lost tops sc t = (n k : ℕ) (sc' : Seen) (e : FlatTerm) → Comes tops sc t n k sc' e → Lost tops sc' e → ⊥

-- the application of what is known has a way on, is never lost, and all that it gives is of Q
abbrev pub Runs_well : Seen → Known → Known → (Known → Type 0) → Type 0
Runs_well tops h s Q = (Stuck_run tops h s → ⊥) × ((n : ℕ) (sc : Seen) (t : FlatTerm) → Inside_run tops h s n sc t → Never_lost tops sc t) × ((s' : Known) (m d : ℕ) → Runs tops h s s' m d → Q s')

-- a tuple, or a record, is data or holds a function
abbrev pub On_known_tuple : Type 0 → (Knowns → Type 0) → Known → Type 0
On_known_tuple D P Data = D
On_known_tuple D P (Known_tuple ss) = (all_data ss ≡ false) × P ss
On_known_tuple D P (Known_record fs) = ⊥
On_known_tuple D P (Known_function ps e sc) = ⊥
On_known_tuple D P (Known_primitive p ss) = ⊥

abbrev pub On_known_record : Type 0 → (Known_fields → Type 0) → Known → Type 0
On_known_record D P Data = D
On_known_record D P (Known_tuple ss) = ⊥
On_known_record D P (Known_record fs) = (fields_data fs ≡ false) × P fs
On_known_record D P (Known_function ps e sc) = ⊥
On_known_record D P (Known_primitive p ss) = ⊥

abbrev pub No_known : Knowns → Type 0
No_known known_none = Unit {0}
No_known (known_and s ss) = ⊥

abbrev pub First_known : (Known → Type 0) → (Knowns → Type 0) → Knowns → Type 0
First_known P Q known_none = ⊥
First_known P Q (known_and s ss) = P s × Q ss

abbrev pub Each_field : (Text → Known → Type 0) → Known_fields → Type 0
Each_field P known_no_field = Unit {0}
Each_field P (known_field g s fs) = P g s × Each_field P fs

-- each part of the record has a field
abbrev pub Has_parts : Names → ℕ → Tys → Known_fields → Type 0
Has_parts N n ts fs = (g : Text) (u : Ty) → HasPart N.shapes (N.label g) (Made (head.Record n) ts) u → known_field_of g fs ≡ None → ⊥

module _ (N : Names) (S : ℕ → Bool) where
  -- what is known of the values of a type, where this is known of the definitions
  unfoldable mutual
    pub Knows : Ty → Seen → Known → Type 0
    Knows (Var n) tops s = s ≡ Data
    Knows (Made (head.Scalar x) ts) tops s = s ≡ Data
    Knows (Made head.Array ts) tops s = s ≡ Data
    Knows (Made head.Tuple ts) tops s = On_known_tuple (All_data ts tops) (λ ss. (count ts < widest) × All_know ts tops ss) s
    Knows (Made (head.Record n) ts) tops s = On_known_record (Parts_data (N.shapes.fields n) ts tops) (λ fs. Each_field (λ g u. Keyed (N.shapes.fields n) ts tops (N.label g) u) fs × Has_parts N n ts fs) s
    Knows (Made head.Fun none) tops s = ⊥
    Knows (Made head.Fun (more t none)) tops s = ⊥
    Knows (Made head.Fun (more t (more u none))) tops h = (is_function h ≡ true) × ((tops' : Seen) → Learns S tops tops' → (s : Known) → Knows t tops' s → Runs_well tops' h s (Knows u tops'))
    Knows (Made head.Fun (more t (more u (more w ts)))) tops s = ⊥
    Knows (Made (head.Rigid n k) ts) tops s = s ≡ Data
    Knows (Made (head.Abstract n d) ts) tops s = s ≡ Data

    pub All_know : Tys → Seen → Knowns → Type 0
    All_know none tops ss = No_known ss
    All_know (more t ts) tops ss = First_known (Knows t tops) (All_know ts tops) ss

    pub All_data : Tys → Seen → Type 0
    All_data none tops = Unit {0}
    All_data (more t ts) tops = Knows t tops Data × All_data ts tops

    -- the parts that have labels are data
    pub Parts_data : List ℕ → Tys → Seen → Type 0
    Parts_data [] ts tops = Unit {0}
    Parts_data (l ∷ ls) none tops = Unit {0}
    Parts_data (l ∷ ls) (more t ts) tops = Knows t tops Data × Parts_data ls ts tops

    -- this is known of the part that a label names
    pub Keyed : List ℕ → Tys → Seen → ℕ → Known → Type 0
    Keyed [] ts tops g s = ⊥
    Keyed (l ∷ ls) none tops g s = ⊥
    Keyed (l ∷ ls) (more t ts) tops g s = (l ≡ g → Knows t tops s) × (l ≢ g → Keyed ls ts tops g s)

-- a size has the type i64; of another name something is known, that is known by this type
abbrev pub Name_known : Names → (ℕ → Bool) → Seen → Ty → Option Known → Bool → Type 0
Name_known N S tops t o true = t ≡ i64_ty
Name_known N S tops t o false = (s : Known) × (o ≡ Some s) × Knows N S t tops s

-- Nothing binds the numbers of sizes. Each name of P is known, at each type at which it may be used: a local one, or else a
-- definition.
pub record Names_known (N : Names) (S : ℕ → Bool) (tops : Seen) (P : ℕ → Type 0) (scope : Scope) (K : Kinds) (a : Sub) (sc : Seen) : Type 0 where
  pub definitions_clear : Clear S tops
  pub locals_clear : Clear S sc
  pub known : (b : ℕ) → P b → (t : Ty) → scope.uses b K a t → Name_known N S tops t (or_else (find sc b) (find tops b)) (S b)
