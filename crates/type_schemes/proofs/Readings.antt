-- Readings and the types that are chosen for a definition's type parameters.
use Rattle.std.proofs.Common.{◌≡◌, ◌≢◌, ℕ, suc, ◌≤◌, ◌<◌, Bool, List, [], ◌∷◌, length, refl, sym, ◌∙◌, ap, subst, arith}
use Rattle.std.specs.List.{Contains}
use mathlib.Core.Logic.{◌⊎◌, inl, inr}
use native.Mathlib.Decide.{ℕ_discrete}
use Rattle.fut_scalar.specs.declared.place.BindId.{BindId}
use Rattle.fut_flat.specs.Terms.{Parameter, Size_parameter, Type_parameter}
use Rattle.fut_types.specs.declared.Kind.{Kind}
use Rattle.fut_types.specs.declared.Head.TheVariants as head
use Rattle.fut_types.specs.Types.{Ty, Made, none, Sub, Kinds, HasKind, level, rank}
use Rattle.fut_typing.specs.Scopes.{Scope, with_uses, with_type, this_type}
use Rattle.fut_typing.specs.Primitives.{i64_ty}
use Rattle.fut_typing.specs.Patterns.{with_parameters}
use Rattle.fut_typing.specs.Generalised.{parameter_kind, own_types, Suits}
use Rattle.type_graph.specs.Graph.{Reading, Tables}
use Rattle.type_schemes.proofs.Regrown.{same_or}
use Rattle.type_schemes.specs.Uses.{type_numbers, One_each, types_read, IsOne}

-- what holds of each type parameter and its kind
abbrev pub Each_type : Kind → (ℕ → Kind → Type 0) → List (Parameter BindId) → Type 0
Each_type places P [] = Unit {0}
Each_type places P (Size_parameter b ∷ ps) = Each_type places P ps
Each_type places P (Type_parameter b lifted ∷ ps) = P b.0 (parameter_kind places lifted) × Each_type places P ps

pub type_map : (places : Kind) (P Q : ℕ → Kind → Type 0) → ((n : ℕ) (k : Kind) → P n k → Q n k) → (ps : List (Parameter BindId)) → Each_type places P ps → Each_type places Q ps
type_map places P Q f [] h = tt
type_map places P Q f (Size_parameter b ∷ ps) h = type_map places P Q f ps h
type_map places P Q f (Type_parameter b lifted ∷ ps) h = (f b.0 (parameter_kind places lifted) h.0, type_map places P Q f ps h.1)

type_both : (places : Kind) (P Q R : ℕ → Kind → Type 0) → ((n : ℕ) (k : Kind) → P n k → Q n k → R n k) → (ps : List (Parameter BindId)) → Each_type places P ps → Each_type places Q ps → Each_type places R ps
type_both places P Q R f [] p q = tt
type_both places P Q R f (Size_parameter b ∷ ps) p q = type_both places P Q R f ps p q
type_both places P Q R f (Type_parameter b lifted ∷ ps) p q = (f b.0 (parameter_kind places lifted) p.0 q.0, type_both places P Q R f ps p.1 q.1)

type_all : (places : Kind) (P : ℕ → Kind → Type 0) → ((n : ℕ) (k : Kind) → P n k) → (ps : List (Parameter BindId)) → Each_type places P ps
type_all places P f [] = tt
type_all places P f (Size_parameter b ∷ ps) = type_all places P f ps
type_all places P f (Type_parameter b lifted ∷ ps) = (f b.0 (parameter_kind places lifted), type_all places P f ps)

contains_head : (x : ℕ) (xs : List ℕ) → Contains (x ∷ xs) x
contains_head x xs = (0, omega arith, refl)

contains_tail : (x n : ℕ) (xs : List ℕ) → Contains xs n → Contains (x ∷ xs) n
contains_tail x n xs c = (suc c.0, (let lt : c.0 < length xs = c.1 in omega arith), c.2)

type_in : (places : Kind) (ps : List (Parameter BindId)) → Each_type places (λ n k. Contains (type_numbers ps) n) ps
type_in places [] = tt
type_in places (Size_parameter b ∷ ps) = type_in places ps
type_in places (Type_parameter b lifted ∷ ps) = (contains_head b.0 (type_numbers ps), type_map places (λ n k. Contains (type_numbers ps) n) (λ n k. Contains (b.0 ∷ type_numbers ps) n) (λ n k c. contains_tail b.0 n (type_numbers ps) c) ps (type_in places ps))

suits_each : (places : Kind) (K : Kinds) (c : Sub) (ps : List (Parameter BindId)) → Suits places K c ps → Each_type places (λ n k. HasKind K k (c n)) ps
suits_each places K c [] s = tt
suits_each places K c (Size_parameter b ∷ ps) s = suits_each places K c ps s
suits_each places K c (Type_parameter b lifted ∷ ps) s = (s.0, suits_each places K c ps s.1)

each_suits : (places : Kind) (K : Kinds) (c : Sub) (ps : List (Parameter BindId)) → Each_type places (λ n k. HasKind K k (c n)) ps → Suits places K c ps
each_suits places K c [] s = tt
each_suits places K c (Size_parameter b ∷ ps) s = each_suits places K c ps s
each_suits places K c (Type_parameter b lifted ∷ ps) s = (s.0, each_suits places K c ps s.1)

-- a reading gives each parameter the type that it reads
read_here : (places : Kind) (r : Reading) (b : BindId) (lifted : Bool) (ps : List (Parameter BindId)) → types_read places r (Type_parameter b lifted ∷ ps) b.0 ≡ r b.0 (parameter_kind places lifted)
read_here places r b lifted ps = elim (ℕ_discrete b.0 b.0) as (λ d. (elim d as (λ d. Ty) [ yes e ↦ r b.0 (parameter_kind places lifted) | no ne ↦ types_read places r ps b.0 ]) ≡ r b.0 (parameter_kind places lifted)) [ yes e ↦ refl | no ne ↦ absurd (ne refl) ]

read_there : (places : Kind) (r : Reading) (b : BindId) (lifted : Bool) (ps : List (Parameter BindId)) (n : ℕ) → n ≢ b.0 → types_read places r (Type_parameter b lifted ∷ ps) n ≡ types_read places r ps n
read_there places r b lifted ps n ne = elim (ℕ_discrete n b.0) as (λ d. (elim d as (λ d. Ty) [ yes e ↦ r n (parameter_kind places lifted) | no ne ↦ types_read places r ps n ]) ≡ types_read places r ps n) [ yes e ↦ absurd (ne e) | no ne' ↦ refl ]

pub each_read : (places : Kind) (r : Reading) (ps : List (Parameter BindId)) → One_each ps → Each_type places (λ n k. types_read places r ps n ≡ r n k) ps
each_read places r [] o = tt
each_read places r (Size_parameter b ∷ ps) o = each_read places r ps o
each_read places r (Type_parameter b lifted ∷ ps) o = (
  read_here places r b lifted ps,
  type_both places (λ n k. Contains (type_numbers ps) n) (λ n k. types_read places r ps n ≡ r n k) (λ n k. types_read places r (Type_parameter b lifted ∷ ps) n ≡ r n k)
      (λ n k c e. read_there places r b lifted ps n (λ z. o.0 (subst (Contains (type_numbers ps)) z c)) ∙ e) ps (type_in places ps) (each_read places r ps o.1),
)

pub suits_read : (places : Kind) (K : Kinds) (r : Reading) (ps : List (Parameter BindId)) → One_each ps → ((n : ℕ) (k : Kind) → Contains (type_numbers ps) n → level k ≤ rank K (r n k)) → Suits places K (types_read places r ps) ps
suits_read places K r ps o rd = each_suits places K (types_read places r ps) ps (type_both places (λ n k. Contains (type_numbers ps) n) (λ n k. types_read places r ps n ≡ r n k) (λ n k. HasKind K k (types_read places r ps n)) (λ n k c e. subst (λ t. level k ≤ rank K t) (sym e) (rd n k c)) ps (type_in places ps) (each_read places r ps o))

-- the reading in which the parameters stand for types that are chosen
if_both : {P Q : Type 0} → P ⊎ (P → ⊥) → Q ⊎ (Q → ⊥) → Ty → Ty → Ty
if_both (inl p) (inl q) t u = t
if_both (inl p) (inr q) t u = u
if_both (inr p) q t u = u

pub choose : Kind → Sub → Reading → List (Parameter BindId) → Reading
choose places c r [] n k = r n k
choose places c r (Size_parameter b ∷ ps) n k = choose places c r ps n k
choose places c r (Type_parameter b lifted ∷ ps) n k = if_both (same_or n b.0) (same_or (level k) (level (parameter_kind places lifted))) (c n) (choose places c r ps n k)

pub choose_else : (places : Kind) (c : Sub) (r : Reading) (ps : List (Parameter BindId)) (n : ℕ) (k : Kind) → (Contains (type_numbers ps) n → ⊥) → choose places c r ps n k ≡ r n k
unfolding choose if_both
choose_else places c r [] n k never = refl
choose_else places c r (Size_parameter b ∷ ps) n k never = choose_else places c r ps n k never
choose_else places c r (Type_parameter b lifted ∷ ps) n k never = go (same_or n b.0) (same_or (level k) (level (parameter_kind places lifted))) ∙ choose_else places c r ps n k (λ x. never (contains_tail b.0 n (type_numbers ps) x))
  where
    go : (x : (n ≡ b.0) ⊎ (n ≢ b.0)) (y : (level k ≡ level (parameter_kind places lifted)) ⊎ (level k ≢ level (parameter_kind places lifted))) → if_both x y (c n) (choose places c r ps n k) ≡ choose places c r ps n k
    go (inl e) y = absurd (never (subst (Contains (b.0 ∷ type_numbers ps)) (sym e) (contains_head b.0 (type_numbers ps))))
    go (inr ne) y = refl

pub choose_kind : (places : Kind) (K : Kinds) (c : Sub) (r : Reading) (ps : List (Parameter BindId)) → Suits places K c ps → (n : ℕ) (k : Kind) → level k ≤ rank K (r n k) → level k ≤ rank K (choose places c r ps n k)
unfolding choose if_both
choose_kind places K c r [] s n k rd = rd
choose_kind places K c r (Size_parameter b ∷ ps) s n k rd = choose_kind places K c r ps s n k rd
choose_kind places K c r (Type_parameter b lifted ∷ ps) s n k rd = go (same_or n b.0) (same_or (level k) (level (parameter_kind places lifted))) (choose_kind places K c r ps s.1 n k rd)
  where
    go : (x : (n ≡ b.0) ⊎ (n ≢ b.0)) (y : (level k ≡ level (parameter_kind places lifted)) ⊎ (level k ≢ level (parameter_kind places lifted))) → level k ≤ rank K (choose places c r ps n k) → level k ≤ rank K (if_both x y (c n) (choose places c r ps n k))
    go (inl e) (inl z) h = let q : level (parameter_kind places lifted) ≤ rank K (c n) = subst (λ m. level (parameter_kind places lifted) ≤ rank K (c m)) (sym e) s.0 in omega arith
    go (inl e) (inr z) h = h
    go (inr ne) y h = h

pub choose_is : (places : Kind) (c : Sub) (r : Reading) (ps : List (Parameter BindId)) → Each_type places (λ n k. choose places c r ps n k ≡ c n) ps
unfolding choose if_both
choose_is places c r [] = tt
choose_is places c r (Size_parameter b ∷ ps) = choose_is places c r ps
choose_is places c r (Type_parameter b lifted ∷ ps) = (
  here (same_or b.0 b.0) (same_or (level (parameter_kind places lifted)) (level (parameter_kind places lifted))),
  type_map places (λ n k. choose places c r ps n k ≡ c n) (λ n k. choose places c r (Type_parameter b lifted ∷ ps) n k ≡ c n) (λ n k e. there n k e (same_or n b.0) (same_or (level k) (level (parameter_kind places lifted)))) ps (choose_is places c r ps),
)
  where
    here : (x : (b.0 ≡ b.0) ⊎ (b.0 ≢ b.0)) (y : (level (parameter_kind places lifted) ≡ level (parameter_kind places lifted)) ⊎ (level (parameter_kind places lifted) ≢ level (parameter_kind places lifted))) → if_both x y (c b.0) (choose places c r ps b.0 (parameter_kind places lifted)) ≡ c b.0
    here (inl e) (inl z) = refl
    here (inl e) (inr z) = absurd (z refl)
    here (inr ne) y = absurd (ne refl)

    there : (n : ℕ) (k : Kind) → choose places c r ps n k ≡ c n → (x : (n ≡ b.0) ⊎ (n ≢ b.0)) (y : (level k ≡ level (parameter_kind places lifted)) ⊎ (level k ≢ level (parameter_kind places lifted))) → if_both x y (c n) (choose places c r ps n k) ≡ c n
    there n k e (inl z) (inl w) = refl
    there n k e (inl z) (inr w) = e
    there n k e (inr z) w = e

pub types_chosen : (places : Kind) (c : Sub) (r : Reading) (ps : List (Parameter BindId)) → One_each ps → Each_type places (λ n k. types_read places (choose places c r ps) ps n ≡ c n) ps
types_chosen places c r ps o = type_both places (λ n k. types_read places (choose places c r ps) ps n ≡ choose places c r ps n k) (λ n k. choose places c r ps n k ≡ c n) (λ n k. types_read places (choose places c r ps) ps n ≡ c n) (λ n k e f. e ∙ f) ps (each_read places (choose places c r ps) ps o) (choose_is places c r ps)

-- only the types of the parameters matter
pub params_same : (places : Kind) (c c' : Sub) (ps : List (Parameter BindId)) (scope : Scope) → Each_type places (λ n k. c n ≡ c' n) ps → with_parameters ps c scope ≡ with_parameters ps c' scope
params_same places c c' [] scope h = refl
params_same places c c' (Size_parameter b ∷ ps) scope h = params_same places c c' ps (with_uses b.0 (this_type i64_ty) scope) h
params_same places c c' (Type_parameter b lifted ∷ ps) scope h = ap (λ t. with_parameters ps c (with_type b.0 t scope)) h.0 ∙ params_same places c c' ps (with_type b.0 (c' b.0) scope) h.1

pub type_refl : (places : Kind) (c : Sub) (ps : List (Parameter BindId)) → Each_type places (λ n k. c n ≡ c n) ps
type_refl places c ps = type_all places (λ n k. c n ≡ c n) (λ n k. refl) ps

pub one_of : (places : Kind) (P : ℕ → Kind → Type 0) (ps : List (Parameter BindId)) → Each_type places P ps → (n : ℕ) (k : Kind) → IsOne places ps n k → P n k
one_of places P [] h n k o = absurd o
one_of places P (Size_parameter b ∷ ps) h n k o = one_of places P ps h n k o
one_of places P (Type_parameter b lifted ∷ ps) h n k (inl o) = subst (λ m. P m k) (sym o.0) (subst (P b.0) (sym o.1) h.0)
one_of places P (Type_parameter b lifted ∷ ps) h n k (inr o) = one_of places P ps h.1 n k o

pub suits_all : (places : Kind) (K : Kinds) (c : Sub) (ps : List (Parameter BindId)) → ((n : ℕ) (k : Kind) → HasKind K k (c n)) → Suits places K c ps
suits_all places K c ps h = each_suits places K c ps (type_all places (λ n k. HasKind K k (c n)) h ps)

-- where the parameters stand for themselves
abbrev itself : Reading
itself n k = Made (head.Rigid n k) none

own_read : (places : Kind) (ps : List (Parameter BindId)) (n : ℕ) → own_types places ps n ≡ types_read places itself ps n
own_read places [] n = refl
own_read places (Size_parameter b ∷ ps) n = own_read places ps n
own_read places (Type_parameter b lifted ∷ ps) n = elim (ℕ_discrete n b.0) as (λ d. (elim d as (λ d. Ty) [ yes e ↦ Made (head.Rigid n (parameter_kind places lifted)) none | no ne ↦ own_types places ps n ]) ≡ (elim d as (λ d. Ty) [ yes e ↦ Made (head.Rigid n (parameter_kind places lifted)) none | no ne ↦ types_read places itself ps n ])) [ yes e ↦ refl | no ne ↦ own_read places ps n ]

pub types_own : (places : Kind) (T : Tables) (ps : List (Parameter BindId)) → One_each ps → ((n : ℕ) (k : Kind) → Contains (type_numbers ps) n → T.rigid n k ≡ Made (head.Rigid n k) none) → Each_type places (λ n k. types_read places T.rigid ps n ≡ own_types places ps n) ps
types_own places T ps o p = type_both places (λ n k. types_read places T.rigid ps n ≡ Made (head.Rigid n k) none) (λ n k. types_read places itself ps n ≡ Made (head.Rigid n k) none) (λ n k. types_read places T.rigid ps n ≡ own_types places ps n) (λ n k x y. x ∙ sym (own_read places ps n ∙ y)) ps
    (type_both places (λ n k. Contains (type_numbers ps) n) (λ n k. types_read places T.rigid ps n ≡ T.rigid n k) (λ n k. types_read places T.rigid ps n ≡ Made (head.Rigid n k) none) (λ n k c x. x ∙ p n k c) ps (type_in places ps) (each_read places T.rigid ps o))
    (each_read places itself ps o)
