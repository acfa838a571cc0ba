-- Types without arrays: their sized types have no sizes, so that each is one sized type.
use Rattle.std.proofs.Common.{◌≡◌, ℕ, ◌+◌, List, Bool, false, ◌||◌, Ok, refl, ap, ◌∙◌, arith}
use Rattle.fut_types.specs.declared.Head.TheVariants as head
use Rattle.fut_types.specs.Types.{Ty, Var, Made, Tys, none, more}
use Rattle.sized_types.specs.Sizes.{Free, Dim, Variable, Inferred, Written, Size, Hole, Open, Level, Built, Fun, Sizes, no_size, size_and, erased, all_erased, replaced, all_replaced}
use Rattle.fut_sizes.specs.Agreeing.{then_do, type_levels, of_type, of_types}
use Rattle.fut_sizes.specs.Applications.{all_settled, parts_settled}
use Rattle.fut_sizes.specs.Functions.{collected, all_collected}
use Rattle.fut_sizes.specs.Levels.{levels_within, all_levels_within}
use Rattle.fut_sizes.specs.Matching.{Found, Way, filled, all_filled, read, all_read, Opened, compared, all_compared, meet, all_meet}
use Rattle.fut_sizes.specs.Rules.{Each_hole, Each_holes}
use Rattle.fut_sizes.specs.Sizing.{is_open, some_open}
use Rattle.fut_sizes.specs.Suiting.{Each, Each_all, Data, All_data}
use Rattle.sizes_meet_rules.specs.Known.{Formed, All_formed}
use Rattle.sizes_meet_rules.specs.Plain.{Flat_type, Flat_types}

-- the sized type of a type without arrays
unfoldable mutual
  pub flat : Ty → Size
  flat (Var v) = Hole (Inferred v)
  flat (Made h ts) = Built h (flats ts)

  pub flats : Tys → Sizes
  flats none = no_size
  flats (more t ts) = size_and (flat t) (flats ts)

mutual
  unfolding flat flats replaced all_replaced

  pub flat_replaced : (g : ℕ → Dim → Dim) (j : ℕ) (u : Ty) → replaced g j (flat u) ≡ flat u
  flat_replaced g j (Var v) = refl
  flat_replaced g j (Made h ts) = ap (Built h) (flats_replaced g j ts)

  flats_replaced : (g : ℕ → Dim → Dim) (j : ℕ) (us : Tys) → all_replaced g j (flats us) ≡ flats us
  flats_replaced g j none = refl
  flats_replaced g j (more u us) = ap (λ x. size_and x (all_replaced g j (flats us))) (flat_replaced g j u) ∙ ap (size_and (flat u)) (flats_replaced g j us)

mutual
  unfolding flat flats read all_read

  pub flat_read : (σ : Found) (u : Ty) → read σ (flat u) ≡ flat u
  flat_read σ (Var v) = refl
  flat_read σ (Made h ts) = ap (Built h) (flats_read σ ts)

  flats_read : (σ : Found) (us : Tys) → all_read σ (flats us) ≡ flats us
  flats_read σ none = refl
  flats_read σ (more u us) = ap (λ x. size_and x (all_read σ (flats us))) (flat_read σ u) ∙ ap (size_and (flat u)) (flats_read σ us)

mutual
  unfolding flat flats filled all_filled

  pub flat_filled : (n : ℕ) (v : Variable) (w : Size) (u : Ty) → filled n v w (flat u) ≡ flat u
  flat_filled n v w (Var x) = refl
  flat_filled n v w (Made h ts) = ap (Built h) (flats_filled n v w ts)

  flats_filled : (n : ℕ) (v : Variable) (w : Size) (us : Tys) → all_filled n v w (flats us) ≡ flats us
  flats_filled n v w none = refl
  flats_filled n v w (more u us) = ap (λ x. size_and x (all_filled n v w (flats us))) (flat_filled n v w u) ∙ ap (size_and (flat u)) (flats_filled n v w us)

mutual
  unfolding flat flats all_settled parts_settled

  pub flat_settled : (u : Ty) (σ : Found) → all_settled (flat u) σ ≡ σ
  flat_settled (Var x) σ = refl
  flat_settled (Made h ts) σ = flats_settled ts σ

  flats_settled : (us : Tys) (σ : Found) → parts_settled (flats us) σ ≡ σ
  flats_settled none σ = refl
  flats_settled (more u us) σ = ap (parts_settled (flats us)) (flat_settled u σ) ∙ flats_settled us σ

mutual
  unfolding flat flats levels_within all_levels_within

  pub flat_levels : (u : Ty) → levels_within (flat u) ≡ 0
  flat_levels (Var x) = refl
  flat_levels (Made h ts) = flats_levels ts

  flats_levels : (us : Tys) → all_levels_within (flats us) ≡ 0
  flats_levels none = refl
  flats_levels (more u us) = let a = flat_levels u in let b = flats_levels us in omega (arith, a, b)

mutual
  unfolding flat flats Data All_data

  pub flat_data : (u : Ty) → Data (flat u)
  flat_data (Var x) = tt
  flat_data (Made h ts) = flats_data ts

  flats_data : (us : Tys) → All_data (flats us)
  flats_data none = tt
  flats_data (more u us) = (flat_data u, flats_data us)

mutual
  unfolding flat flats Each Each_all

  pub flat_each : (P : ℕ → Dim → Type 0) (j : ℕ) (u : Ty) → Each P j (flat u)
  flat_each P j (Var x) = tt
  flat_each P j (Made h ts) = flats_each P j ts

  flats_each : (P : ℕ → Dim → Type 0) (j : ℕ) (us : Tys) → Each_all P j (flats us)
  flats_each P j none = tt
  flats_each P j (more u us) = (flat_each P j u, flats_each P j us)

mutual
  unfolding flat flats erased all_erased

  pub flat_erased : (u : Ty) → erased (flat u) ≡ u
  flat_erased (Var x) = refl
  flat_erased (Made h ts) = ap (Made h) (flats_erased ts)

  flats_erased : (us : Tys) → all_erased (flats us) ≡ us
  flats_erased none = refl
  flats_erased (more u us) = ap (λ x. more x (all_erased (flats us))) (flat_erased u) ∙ ap (more u) (flats_erased us)

mutual
  unfolding flat flats Flat_type Flat_types Each_hole Each_holes

  pub flat_holes : (P : Variable → Type 0) (u : Ty) → Flat_type u → Each_hole P (flat u)
  flat_holes P (Var x) f = absurd f
  flat_holes P (Made h ts) f = flats_holes P ts f.1

  flats_holes : (P : Variable → Type 0) (us : Tys) → Flat_types us → Each_holes P (flats us)
  flats_holes P none f = tt
  flats_holes P (more u us) f = (flat_holes P u f.0, flats_holes P us f.1)

mutual
  unfolding flat flats Flat_type Flat_types Formed All_formed

  pub flat_formed : (u : Ty) → Flat_type u → Formed (flat u)
  flat_formed (Var x) f = absurd f
  flat_formed (Made h ts) f = (f.0, flats_formed ts f.1)

  flats_formed : (us : Tys) → Flat_types us → All_formed (flats us)
  flats_formed none f = tt
  flats_formed (more u us) f = (flat_formed u f.0, flats_formed us f.1)

-- it is the only one
mutual
  unfolding flat flats Flat_type Flat_types Formed All_formed erased all_erased

  pub flat_is : (t : Size) → Formed t → Flat_type (erased t) → t ≡ flat (erased t)
  flat_is (Hole (Inferred v)) f k = refl
  flat_is (Hole (Written b c)) f k = absurd k.0
  flat_is (Open n v u) f k = absurd f
  flat_is (Level d t) f k = absurd k.0
  flat_is (Built h ts) f k = ap (Built h) (flats_are ts f.1 k.1)
  flat_is (Fun l p r) f k = absurd k.0

  flats_are : (ts : Sizes) → All_formed ts → Flat_types (all_erased ts) → ts ≡ flats (all_erased ts)
  flats_are no_size f k = refl
  flats_are (size_and t ts) f k = ap (λ x. size_and x ts) (flat_is t f.0 k.0) ∙ ap (size_and (flat (erased t))) (flats_are ts f.1 k.1)

-- it agrees with itself
mutual
  unfolding flat flats meet all_meet

  pub flat_met : (lo at : ℕ) (w : Way) (φ ψ : Opened) (u : Ty) (σ : Found) → meet lo w at φ (flat u) ψ (flat u) σ ≡ Ok σ
  flat_met lo at w φ ψ (Var x) σ = refl
  flat_met lo at w φ ψ (Made h ts) σ = flats_met lo at w φ ψ ts σ

  flats_met : (lo at : ℕ) (w : Way) (φ ψ : Opened) (us : Tys) (σ : Found) → all_meet lo w at φ (flats us) ψ (flats us) σ ≡ Ok σ
  flats_met lo at w φ ψ none σ = refl
  flats_met lo at w φ ψ (more u us) σ = ap (λ x. then_do x (λ found. all_meet lo w at φ (flats us) ψ (flats us) found)) (flat_met lo at w φ ψ u σ) ∙ flats_met lo at w φ ψ us σ

mutual
  unfolding flat flats compared all_compared

  pub flat_compared : (w : Way) (at : ℕ) (u : Ty) (σ : Found) → compared w at (flat u) (flat u) σ ≡ Ok σ
  flat_compared w at (Var x) σ = refl
  flat_compared w at (Made h ts) σ = flats_compared w at ts σ

  flats_compared : (w : Way) (at : ℕ) (us : Tys) (σ : Found) → all_compared w at (flats us) (flats us) σ ≡ Ok σ
  flats_compared w at none σ = refl
  flats_compared w at (more u us) σ = ap (λ x. then_do x (λ found. all_compared w at (flats us) (flats us) found)) (flat_compared w at u σ) ∙ flats_compared w at us σ

-- it is what the type has by itself
mutual
  unfolding flat flats Flat_type Flat_types of_type of_types

  pub flat_of_type : (dims : ℕ → Dim) (i : ℕ) (u : Ty) → Flat_type u → of_type dims i u ≡ flat u
  flat_of_type dims i (Var x) f = absurd f
  flat_of_type dims i (Made (head.Scalar s) ts) f = ap (Built (head.Scalar s)) (flats_of_types dims i ts f.1)
  flat_of_type dims i (Made head.Array ts) f = absurd f.0
  flat_of_type dims i (Made head.Tuple ts) f = ap (Built head.Tuple) (flats_of_types dims i ts f.1)
  flat_of_type dims i (Made (head.Record n) ts) f = ap (Built (head.Record n)) (flats_of_types dims i ts f.1)
  flat_of_type dims i (Made head.Fun ts) f = absurd f.0
  flat_of_type dims i (Made (head.Rigid n k) ts) f = absurd f.0
  flat_of_type dims i (Made (head.Abstract n d) ts) f = ap (Built (head.Abstract n d)) (flats_of_types dims i ts f.1)

  flats_of_types : (dims : ℕ → Dim) (i : ℕ) (us : Tys) → Flat_types us → of_types dims i us ≡ flats us
  flats_of_types dims i none f = refl
  flats_of_types dims i (more u us) f = ap (λ x. size_and x (of_types dims (type_levels u + i) us)) (flat_of_type dims i u f.0) ∙ ap (size_and (flat u)) (flats_of_types dims (type_levels u + i) us f.1)

-- nothing in it is open
mutual
  unfolding flat flats is_open some_open

  pub flat_closed : (u : Ty) → is_open (flat u) ≡ false
  flat_closed (Var x) = refl
  flat_closed (Made h ts) = flats_closed ts

  flats_closed : (us : Tys) → some_open (flats us) ≡ false
  flats_closed none = refl
  flats_closed (more u us) = ap (λ b. b || some_open (flats us)) (flat_closed u) ∙ flats_closed us

-- no size stands in it
mutual
  unfolding flat flats collected all_collected

  pub flat_collected : (q : Free → Bool) (u : Ty) (ds : List Free) → collected q (flat u) ds ≡ ds
  flat_collected q (Var x) ds = refl
  flat_collected q (Made h ts) ds = flats_collected q ts ds

  flats_collected : (q : Free → Bool) (us : Tys) (ds : List Free) → all_collected q (flats us) ds ≡ ds
  flats_collected q none ds = refl
  flats_collected q (more u us) ds = ap (all_collected q (flats us)) (flat_collected q u ds) ∙ flats_collected q us ds
