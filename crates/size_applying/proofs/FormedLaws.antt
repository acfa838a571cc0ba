-- Variables that are settled stay so, and are not settled again.
use Rattle.std.proofs.Common.{◌≡◌, ℕ, ◌+◌, true, cond, refl, ap, ◌∙◌, nat_eq, arith}
use Rattle.std.specs.Prelude.{◌&&◌}
use Rattle.fut_types.specs.declared.Head.TheVariants as head
use Rattle.fut_types.specs.Types.{Ty, Var, Made, Tys, none, more}
use Rattle.sized_types.specs.Sizes.{Free, Dim, At, Slot, Variable, Inferred, Written, Size, Hole, Open, Level, Built, Fun, Sizes, no_size, size_and, is_variable, replaced, renamed}
use Rattle.fut_sizes.specs.Agreeing.{of_type}
use Rattle.fut_sizes.specs.Applications.{own_type, still_open, all_settled, parts_settled}
use Rattle.fut_sizes.specs.Matching.{Found, filled, found_size, is_open}
use Rattle.size_slots.proofs.TakeLaws.{is_form}
use Rattle.size_applying.specs.Sharing.{Formed, All_formed}

-- ---- the sizes of a type's own are no variable

renamed_form : (ρ : Free → Free) (t : Size) → is_form t ≡ true → is_form (renamed ρ t) ≡ true
unfolding replaced
renamed_form ρ (Hole v) so = refl
renamed_form ρ (Open n v u) so = cc
renamed_form ρ (Level d t) so = refl
renamed_form ρ (Built h ts) so = refl
renamed_form ρ (Fun k p r) so = refl

function_form : (dims : ℕ → Dim) (i : ℕ) (ts : Tys) → is_form (of_type dims i (Made head.Fun ts)) ≡ true
unfolding of_type
function_form dims i none = refl
function_form dims i (more p none) = refl
function_form dims i (more p (more r none)) = refl
function_form dims i (more p (more r (more q ts))) = refl

type_form : (dims : ℕ → Dim) (i : ℕ) (t : Ty) → is_form (of_type dims i t) ≡ true
unfolding of_type
type_form dims i (Var v) = refl
type_form dims i (Made (head.Scalar s) ts) = refl
type_form dims i (Made head.Array ts) = refl
type_form dims i (Made head.Tuple ts) = refl
type_form dims i (Made (head.Record r) ts) = refl
type_form dims i (Made head.Fun ts) = function_form dims i ts
type_form dims i (Made (head.Rigid b k) ts) = refl
type_form dims i (Made (head.Abstract a b) ts) = refl

-- ---- what a variable takes is taken for it

same_number : (n : ℕ) → nat_eq n n ≡ true
same_number n = grind arith

same_variable : (v : Variable) → is_variable v v ≡ true
same_variable (Inferred v) = same_number v
same_variable (Written b k) = same_number b

same_open : (n : ℕ) (v : Variable) → is_open n v n v ≡ true
same_open n v = ap (λ z. z && is_variable v v) (same_number n) ∙ same_variable v

module _ (n : ℕ) (v : Variable) (s : Size) (form : is_form s ≡ true) where
  filled_form : (t : Size) → is_form t ≡ true → is_form (filled n v s t) ≡ true
  unfolding filled
  filled_form (Hole w) so = refl
  filled_form (Open m w u) so = cc
  filled_form (Level d t) so = refl
  filled_form (Built h ts) so = refl
  filled_form (Fun k p r) so = refl

  filled_here : (u : Ty) → is_form (filled n v s (Open n v u)) ≡ true
  unfolding filled
  filled_here u = ap (λ z. is_form (cond z s (Open n v u))) (same_open n v) ∙ form

-- ---- settling a variable

module _ (n : ℕ) (v : Variable) (u : Ty) (σ : Found) where
  abbrev own_size : Size
  own_size = renamed (found_size σ) (of_type (λ i. At (Slot (σ.next + i))) 0 u)

  own_form : is_form own_size ≡ true
  own_form = renamed_form (found_size σ) (of_type (λ i. At (Slot (σ.next + i))) 0 u) (type_form (λ i. At (Slot (σ.next + i))) 0 u)

  mutual
    unfolding Formed All_formed

    own_keeps : (t : Size) → Formed σ t → Formed (own_type n v u σ) t
    own_keeps (Hole w) h = tt
    own_keeps (Open m w x) h = filled_form n v own_size own_form (σ.type m w x) h
    own_keeps (Level d t) h = own_keeps t h
    own_keeps (Built g ts) h = all_own_keep ts h
    own_keeps (Fun k p r) h = (own_keeps p h.0, own_keeps r h.1)

    all_own_keep : (ts : Sizes) → All_formed σ ts → All_formed (own_type n v u σ) ts
    all_own_keep no_size h = tt
    all_own_keep (size_and t ts) h = (own_keeps t h.0, all_own_keep ts h.1)

module _ (n : ℕ) (v : Variable) (σ : Found) where
  open_keeps : (s t : Size) → Formed σ t → Formed (still_open n v s σ) t
  open_keeps (Hole w) t h = h
  open_keeps (Open m w x) t h = own_keeps m w x σ t h
  open_keeps (Level d s) t h = h
  open_keeps (Built g ss) t h = h
  open_keeps (Fun k p r) t h = h

  open_formed : (u : Ty) (s : Size) → σ.type n v u ≡ s → is_form ((still_open n v s σ).type n v u) ≡ true
  open_formed u (Hole w) e = ap is_form e
  open_formed u (Open m w x) e = ap (λ z. is_form (filled m w (own_size m w x σ) z)) e ∙ filled_here m w (own_size m w x σ) (own_form m w x σ) x
  open_formed u (Level d s) e = ap is_form e
  open_formed u (Built g ss) e = ap is_form e
  open_formed u (Fun k p r) e = ap is_form e

  form_stays : (s : Size) → is_form s ≡ true → still_open n v s σ ≡ σ
  form_stays (Hole w) so = refl
  form_stays (Open m w x) so = cc
  form_stays (Level d s) so = refl
  form_stays (Built g ss) so = refl
  form_stays (Fun k p r) so = refl

-- ---- settling all of them

mutual
  unfolding all_settled parts_settled

  settled_keeps : (s : Size) (σ : Found) (t : Size) → Formed σ t → Formed (all_settled s σ) t
  settled_keeps (Hole v) σ t h = h
  settled_keeps (Open n v u) σ t h = open_keeps n v σ (σ.type n v u) t h
  settled_keeps (Level d s) σ t h = settled_keeps s σ t h
  settled_keeps (Built g ss) σ t h = parts_keep ss σ t h
  settled_keeps (Fun k p r) σ t h = settled_keeps r (all_settled p σ) t (settled_keeps p σ t h)

  parts_keep : (ss : Sizes) (σ : Found) (t : Size) → Formed σ t → Formed (parts_settled ss σ) t
  parts_keep no_size σ t h = h
  parts_keep (size_and s ss) σ t h = parts_keep ss (all_settled s σ) t (settled_keeps s σ t h)

mutual
  unfolding all_settled parts_settled Formed All_formed

  pub settled_formed : (t : Size) (σ : Found) → Formed (all_settled t σ) t
  settled_formed (Hole v) σ = tt
  settled_formed (Open n v u) σ = open_formed n v σ u (σ.type n v u) refl
  settled_formed (Level d t) σ = settled_formed t σ
  settled_formed (Built g ts) σ = parts_formed ts σ
  settled_formed (Fun k p r) σ = (settled_keeps r (all_settled p σ) p (settled_formed p σ), settled_formed r (all_settled p σ))

  parts_formed : (ts : Sizes) (σ : Found) → All_formed (parts_settled ts σ) ts
  parts_formed no_size σ = tt
  parts_formed (size_and t ts) σ = (parts_keep ts (all_settled t σ) t (settled_formed t σ), parts_formed ts (all_settled t σ))

mutual
  unfolding all_settled parts_settled Formed All_formed

  pub formed_settled : (t : Size) (σ : Found) → Formed σ t → all_settled t σ ≡ σ
  formed_settled (Hole v) σ h = refl
  formed_settled (Open n v u) σ h = form_stays n v σ (σ.type n v u) h
  formed_settled (Level d t) σ h = formed_settled t σ h
  formed_settled (Built g ts) σ h = formed_parts ts σ h
  formed_settled (Fun k p r) σ h = ap (all_settled r) (formed_settled p σ h.0) ∙ formed_settled r σ h.1

  formed_parts : (ts : Sizes) (σ : Found) → All_formed σ ts → parts_settled ts σ ≡ σ
  formed_parts no_size σ h = refl
  formed_parts (size_and t ts) σ h = ap (parts_settled ts) (formed_settled t σ h.0) ∙ formed_parts ts σ h.1
