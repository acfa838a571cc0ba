-- What the lists of demands say.
use Rattle.std.proofs.Common.{◌≡◌, ℕ, zero, suc, ◌+◌, ◌≤◌, List, [], ◌∷◌, ◌++◌, length, refl, sym, ◌∙◌, ap, subst, arith}
use Rattle.fut_flat.specs.declared.act.Part.{Part}
use Rattle.fut_flat.specs.declared.act.Part.TheVariants as part
use Rattle.fut_types.specs.declared.Kind.{Kind}
use Rattle.fut_types.specs.Types.{Ty, Tys, none, more, Sub, Kinds, HasKind, fun_ty}
use Rattle.fut_types.specs.Shapes.{Shapes}
use Rattle.fut_typing.specs.Names.{Names}
use Rattle.fut_typing.specs.Primitives.{array_ty, i64_ty}
use Rattle.fut_typing.specs.Scopes.{IsArray}
use Rattle.fut_typing.specs.Patterns.{arrows}
use Rattle.fut_typing.specs.Rules.{All_are, left_of, Indexed, Updated}
use Rattle.type_graph.specs.Claims.{types_of}
use Rattle.type_rules.specs.declared.demand.Demand.{Demand}
use Rattle.type_rules.specs.Demands.{Met, All_met}
use Rattle.type_rules.specs.Lists.{all_same, all_sizes, left_demand, index_demands, update_demands, function_demands}

module _ (S : Shapes) (K : Kinds) (b : Sub) where
  pub met_cons : (d : Demand) (ds : List Demand) → Met S K b d → All_met S K b ds → All_met S K b (d ∷ ds)
  unfolding All_met
  met_cons d ds m ms = (m, ms)

  pub met_first : (d : Demand) (ds : List Demand) → All_met S K b (d ∷ ds) → Met S K b d
  unfolding All_met
  met_first d ds m = m.0

  pub met_rest : (d : Demand) (ds : List Demand) → All_met S K b (d ∷ ds) → All_met S K b ds
  unfolding All_met
  met_rest d ds m = m.1

  pub met_append : (xs ys : List Demand) → All_met S K b xs → All_met S K b ys → All_met S K b (xs ++ ys)
  unfolding All_met
  met_append [] ys m n = n
  met_append (x ∷ xs) ys m n = (m.0, met_append xs ys m.1 n)

  pub met_left : (xs ys : List Demand) → All_met S K b (xs ++ ys) → All_met S K b xs
  unfolding All_met
  met_left [] ys m = tt
  met_left (x ∷ xs) ys m = (m.0, met_left xs ys m.1)

  pub met_right : (xs ys : List Demand) → All_met S K b (xs ++ ys) → All_met S K b ys
  unfolding All_met
  met_right [] ys m = m
  met_right (x ∷ xs) ys m = met_right xs ys m.1

  pub same_to : (e : ℕ) (ps : List ℕ) → All_met S K b (all_same e ps) → All_are (b e) (types_of b ps)
  unfolding All_met Met all_same types_of
  same_to e [] m = tt
  same_to e (p ∷ ps) m = (m.0, same_to e ps m.1)

  pub same_from : (e : ℕ) (ps : List ℕ) → All_are (b e) (types_of b ps) → All_met S K b (all_same e ps)
  unfolding All_met Met all_same types_of
  same_from e [] m = tt
  same_from e (p ∷ ps) m = (m.0, same_from e ps m.1)

  pub sizes_to : (ps : List ℕ) → All_met S K b (all_sizes ps) → All_are i64_ty (types_of b ps)
  unfolding All_met Met all_sizes types_of
  sizes_to [] m = tt
  sizes_to (p ∷ ps) m = (m.0, sizes_to ps m.1)

  pub sizes_from : (ps : List ℕ) → All_are i64_ty (types_of b ps) → All_met S K b (all_sizes ps)
  unfolding All_met Met all_sizes types_of
  sizes_from [] m = tt
  sizes_from (p ∷ ps) m = (m.0, sizes_from ps m.1)

  left_to : (p : Part) (t u : ℕ) → Met S K b (left_demand p t u) → b t ≡ left_of p (b u)
  unfolding Met
  left_to part.At t u m = m
  left_to (part.Slice from to) t u m = m
  left_to part.Backwards t u m = m

  left_from : (p : Part) (t u : ℕ) → b t ≡ left_of p (b u) → Met S K b (left_demand p t u)
  unfolding Met
  left_from part.At t u m = m
  left_from (part.Slice from to) t u m = m
  left_from part.Backwards t u m = m

  module _ (N : Names) (places : Kind) where
    pub index_to : (ps : List Part) (x t : ℕ) → All_met S K b (index_demands places ps x t) → Indexed N places K ps (b x) (b t)
    unfolding All_met Met index_demands
    index_to [] x t m = m.0
    index_to (p ∷ ps) x t m = (b (x + 1), b (t + 1), (m.0, m.1.0), index_to ps (x + 1) (t + 1) m.1.1.1, left_to p t (t + 1) m.1.1.0)

    pub update_to : (vs : List ℕ) (x : ℕ) → 1 ≤ length vs → All_met S K b (update_demands places vs x) → Updated N places K (b x) (types_of b vs)
    unfolding All_met Met update_demands types_of
    update_to [] x some m = absurd (omega arith)
    update_to (v ∷ []) x some m = m.0
    update_to (i ∷ v ∷ vs) x some m = (m.0, (b (x + 1), (m.1.0, m.1.1.0), update_to (v ∷ vs) (x + 1) (omega arith) m.1.1.1))

  pub function_to : (ps : List ℕ) (body x : ℕ) → All_met S K b (function_demands ps body x) → b x ≡ arrows (types_of b ps) (b body)
  unfolding All_met Met function_demands types_of
  function_to [] body x m = m.0
  function_to (p ∷ ps) body x m = m.0 ∙ ap (fun_ty (b p)) (function_to ps body (x + 1) m.1)

-- the type of what is left of a function behind k parameters
abbrev pub function_left : Tys → Ty → Sub
function_left us t zero = arrows us t
function_left none t (suc k) = t
function_left (more u us) t (suc k) = function_left us t k

pub function_met : (S : Shapes) (K : Kinds) (b : Sub) (ps : List ℕ) (body x : ℕ) → ((k : ℕ) → k ≤ length ps → b (x + k) ≡ function_left (types_of b ps) (b body) k) → All_met S K b (function_demands ps body x)
unfolding All_met Met function_demands types_of
function_met S K b [] body x h = (ap b (let z : x ≡ x + 0 = omega arith in z) ∙ h 0 (omega arith), tt)
function_met S K b (p ∷ ps) body x h = (
  ap b (let z : x ≡ x + 0 = omega arith in z) ∙ h 0 (omega arith) ∙ ap (fun_ty (b p)) (sym (h 1 (omega arith))),
  function_met S K b ps body (x + 1) (λ k le. ap b (let z : x + 1 + k ≡ x + suc k = omega arith in z) ∙ h (suc k) (omega arith)),
)

-- rows of types
abbrev pub before : Ty → Sub → Sub
before t f zero = t
before t f (suc k) = f k

module _ (N : Names) (places : Kind) (K : Kinds) where
  -- f has an array, its elements, .. and g what is left
  abbrev pub Chain : List Part → Sub → Sub → Type 0
  Chain [] f g = g 0 ≡ f 0
  Chain (p ∷ ps) f g = IsArray places K (f 0) (f 1) × (g 0 ≡ left_of p (g 1)) × Chain ps (λ k. f (suc k)) (λ k. g (suc k))

  pub index_chain : (ps : List Part) (x t : Ty) → Indexed N places K ps x t → (f : Sub) × (g : Sub) × (f 0 ≡ x) × (g 0 ≡ t) × Chain ps f g
  index_chain [] x t i = ((λ k. x), (λ k. t), refl, refl, i)
  index_chain (p ∷ ps) x t i = let r = index_chain ps i.0 i.1 i.3 in
      (before x r.0, before t r.1, refl, refl, (subst (IsArray places K x) (sym r.2) i.2, i.4 ∙ ap (left_of p) (sym r.3), r.4))

  pub chain_met : (S : Shapes) (b : Sub) (ps : List Part) (f g : Sub) (x t : ℕ) → ((k : ℕ) → k ≤ length ps → b (x + k) ≡ f k) → ((k : ℕ) → k ≤ length ps → b (t + k) ≡ g k) → Chain ps f g → All_met S K b (index_demands places ps x t)
  unfolding All_met Met index_demands
  chain_met S b [] f g x t xs ts h = (at_first t g ts ∙ h ∙ sym (at_first x f xs), tt)
    where
      at_first : (y : ℕ) (e : Sub) → ((k : ℕ) → k ≤ 0 → b (y + k) ≡ e k) → b y ≡ e 0
      at_first y e ys = ap b (let z : y ≡ y + 0 = omega arith in z) ∙ ys 0 (omega arith)
  chain_met S b (p ∷ ps) f g x t xs ts h =
      let x0 : b x ≡ f 0 = ap b (let z : x ≡ x + 0 = omega arith in z) ∙ xs 0 (omega arith) in
      let x1 : b (x + 1) ≡ f 1 = xs 1 (omega arith) in
      let t0 : b t ≡ g 0 = ap b (let z : t ≡ t + 0 = omega arith in z) ∙ ts 0 (omega arith) in
      let t1 : b (t + 1) ≡ g 1 = ts 1 (omega arith) in (
        x0 ∙ h.0.0 ∙ ap array_ty (sym x1),
        (
          subst (HasKind K places) (sym x1) h.0.1,
          (
            left_from S K b p t (t + 1) (t0 ∙ h.1 ∙ ap (left_of p) (sym t1)),
            chain_met S b ps (λ k. f (suc k)) (λ k. g (suc k)) (x + 1) (t + 1)
                (λ k le. ap b (let z : x + 1 + k ≡ x + suc k = omega arith in z) ∙ xs (suc k) (omega arith))
                (λ k le. ap b (let z : t + 1 + k ≡ t + suc k = omega arith in z) ∙ ts (suc k) (omega arith)) h.2,
          ),
        ),
      )

  -- f has an array, its elements, ..
  abbrev pub Steps : List ℕ → Sub → Sub → Type 0
  Steps [] a f = ⊥
  Steps (v ∷ []) a f = a v ≡ f 0
  Steps (i ∷ v ∷ vs) a f = (a i ≡ i64_ty) × IsArray places K (f 0) (f 1) × Steps (v ∷ vs) a (λ k. f (suc k))

  pub update_steps : (a : Sub) (vs : List ℕ) (x : Ty) → Updated N places K x (types_of a vs) → (f : Sub) × (f 0 ≡ x) × Steps vs a f
  unfolding types_of
  update_steps a [] x u = absurd u
  update_steps a (v ∷ []) x u = ((λ k. x), refl, u)
  update_steps a (i ∷ v ∷ vs) x u = let r = update_steps a (v ∷ vs) u.1.0 u.1.2 in (before x r.0, refl, (u.0, subst (IsArray places K x) (sym r.1) u.1.1, r.2))

  pub steps_met : (S : Shapes) (b : Sub) (vs : List ℕ) (f : Sub) (x : ℕ) → ((k : ℕ) → k ≤ length vs → b (x + k) ≡ f k) → Steps vs b f → All_met S K b (update_demands places vs x)
  unfolding All_met Met update_demands
  steps_met S b [] f x xs h = absurd h
  steps_met S b (v ∷ []) f x xs h = (h ∙ sym (xs 0 (omega arith)) ∙ ap b (let z : x + 0 ≡ x = omega arith in z), tt)
  steps_met S b (i ∷ v ∷ vs) f x xs h =
      let x0 : b x ≡ f 0 = ap b (let z : x ≡ x + 0 = omega arith in z) ∙ xs 0 (omega arith) in
      let x1 : b (x + 1) ≡ f 1 = xs 1 (omega arith) in (
        h.0,
        (
          x0 ∙ h.1.0 ∙ ap array_ty (sym x1),
          (
            subst (HasKind K places) (sym x1) h.1.1,
            steps_met S b (v ∷ vs) (λ k. f (suc k)) (x + 1) (λ k le. ap b (let z : x + 1 + k ≡ x + suc k = omega arith in z) ∙ xs (suc k) (omega arith)) h.2,
          ),
        ),
      )
