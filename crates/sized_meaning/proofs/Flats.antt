-- What functions tell that give no arrays in the end: of whatever shapes their arguments are told to be.
use Rattle.std.proofs.Common.{◌≡◌, ℕ, suc, ◌+◌, List, [], ◌∷◌, sym, subst}
use Rattle.fut_flat.specs.declared.prim.Ref.{Ref}
use Rattle.fut_scalar.specs.declared.place.BindId.{BindId}
use Rattle.fut_flat.specs.Numbers.{pattern_numbers}
use Rattle.fut_flat.specs.Terms.{Patterns, no_pattern, pattern_and}
use Rattle.fut_types.specs.Types.{Sub}
use Rattle.fut_typing.specs.Names.{Names}
use Rattle.fut_value.specs.Data.{Shape}
use Rattle.fut_meaning.specs.Found.{Found, told_shape, result_shape, number as found_number, shape_found, pushed, typed_by, with_data}
use Rattle.fut_meaning.specs.Telling.{closure_tells, nodes_from}
use Rattle.sized_types.specs.Sizes.{Free, Dim, Variable, Size, Hole, Open, Level, Built, Fun, Sizes, no_size, size_and, replaced, given, opened, renaming}
use Rattle.fut_sizes.specs.Agreeing.{leave}
use Rattle.fut_sizes.specs.Rules.{Each_hole, Each_holes, Takes}
use Rattle.fut_sizes.specs.Scoping.{Context, with_positions, with_pattern}
use Rattle.fut_sizes.specs.Suiting.{Each, Each_all, Data, All_data}
use Rattle.sized_meaning.specs.Worth.{Worth, Frames, push, number}
use Rattle.sized_meaning.specs.Shapes.{Meant, Has_shape}
use Rattle.sized_meaning.specs.Finding.{Well_formed}
use Rattle.sized_meaning.specs.Fits.{Flat, All_flat, Flat_result, Told_right}
use Rattle.sized_meaning.specs.Law.{Sound, World}
use Rattle.sized_meaning.proofs.Ways.{Ways}
use Rattle.sized_meaning.proofs.Reading.{same, same_size, shape_replaced, flat_result_replaced}
use Rattle.sized_meaning.proofs.Finding.{told_right, data_formed}

-- no size and no type variable stands there
module _ (ok : ℕ → Dim → Type 0) where
  mutual
    unfolding Flat All_flat Each Each_all

    pub flat_each : (t : Size) (j : ℕ) → Flat t → Each ok j t
    flat_each (Hole v) j h = absurd h
    flat_each (Open n v u) j h = absurd h
    flat_each (Level d t) j h = absurd h
    flat_each (Built k ts) j h = all_flat_each ts j h
    flat_each (Fun k p r) j h = absurd h

    all_flat_each : (ts : Sizes) (j : ℕ) → All_flat ts → Each_all ok j ts
    all_flat_each no_size j h = tt
    all_flat_each (size_and t ts) j h = (flat_each t j h.0, all_flat_each ts j h.1)

module _ (ok : Variable → Type 0) where
  mutual
    unfolding Flat All_flat Each_hole Each_holes

    flat_holes : (t : Size) → Flat t → Each_hole ok t
    flat_holes (Hole v) h = absurd h
    flat_holes (Open n v u) h = absurd h
    flat_holes (Level d t) h = absurd h
    flat_holes (Built k ts) h = all_flat_holes ts h
    flat_holes (Fun k p r) h = absurd h

    all_flat_holes : (ts : Sizes) → All_flat ts → Each_holes ok ts
    all_flat_holes no_size h = tt
    all_flat_holes (size_and t ts) h = (flat_holes t h.0, all_flat_holes ts h.1)

mutual
  unfolding Flat All_flat Data All_data

  pub flat_data : (t : Size) → Flat t → Data t
  flat_data (Hole v) h = absurd h
  flat_data (Open n v u) h = absurd h
  flat_data (Level d t) h = absurd h
  flat_data (Built k ts) h = all_flat_data ts h
  flat_data (Fun k p r) h = absurd h

  all_flat_data : (ts : Sizes) → All_flat ts → All_data ts
  all_flat_data no_size h = tt
  all_flat_data (size_and t ts) h = (flat_data t h.0, all_flat_data ts h.1)

module _ (N : Names) (types : Sub) (τ : Meant) (W : World) (S : Sound N types W.sizing) where
  -- for arguments of any shapes
  unfoldable pub Always_told : Worth → Frames → Size → (List Shape → Shape) → Type 0
  Always_told m φ (Hole v) tell = Has_shape N τ m φ (Hole v) (tell [])
  Always_told m φ (Open n v u) tell = Has_shape N τ m φ (Open n v u) (tell [])
  Always_told m φ (Level d t) tell = Has_shape N τ m φ (Level d t) (tell [])
  Always_told m φ (Built h ts) tell = Has_shape N τ m φ (Built h ts) (tell [])
  Always_told m φ (Fun k p r) tell = (h : Shape) → Always_told m φ r (λ hs. tell (h ∷ hs))

  abbrev No_dim : ℕ → Dim → Type 0
  No_dim j d = ⊥

  flat_shape : (g : ℕ → Dim → Dim) (m m' : Worth) (φ φ' : Frames) (t : Size) (j : ℕ) → Flat t → (h : Shape) → Ways (Has_shape N τ m φ (replaced g j t) h) (Has_shape N τ m' φ' t h)
  flat_shape g m m' φ φ' t j f h = shape_replaced N τ m m' g No_dim (λ j φ φ'. Unit {0}) (λ j φ φ' d q e. absurd e) t j φ φ' (flat_each No_dim t j f) tt h

  always_replaced : (g : ℕ → Dim → Dim) (m m' : Worth) (φ φ' : Frames) (t : Size) (j : ℕ) (tell : List Shape → Shape) → Flat_result t → Ways (Always_told m φ (replaced g j t) tell) (Always_told m' φ' t tell)
  unfolding Always_told Flat_result replaced
  always_replaced g m m' φ φ' (Hole v) j tell f = flat_shape g m m' φ φ' (Hole v) j f (tell [])
  always_replaced g m m' φ φ' (Open n v u) j tell f = flat_shape g m m' φ φ' (Open n v u) j f (tell [])
  always_replaced g m m' φ φ' (Level d t) j tell f = flat_shape g m m' φ φ' (Level d t) j f (tell [])
  always_replaced g m m' φ φ' (Built k ts) j tell f = flat_shape g m m' φ φ' (Built k ts) j f (tell [])
  always_replaced g m m' φ φ' (Fun k p r) j tell f = (
    (λ x h. (always_replaced g m m' φ φ' r (suc j) (λ hs. tell (h ∷ hs)) f).0 (x h)),
    (λ x h. (always_replaced g m m' φ φ' r (suc j) (λ hs. tell (h ∷ hs)) f).1 (x h)),
  )

  pub always_opened : (m m' : Worth) (φ φ' : Frames) (δ : ℕ → Free) (t : Size) (tell : List Shape → Shape) → Flat_result t → Always_told m φ (opened δ t) tell → Always_told m' φ' t tell
  always_opened m m' φ φ' δ t tell f x = (always_replaced (given δ) m m' φ φ' t 1 tell f).0 x

  flat_anywhere : (m : Worth) (φ ψ : Frames) (t : Size) → Flat t → (h : Shape) → Has_shape N τ m φ t h → Has_shape N τ m ψ t h
  flat_anywhere m φ ψ t f h x = (flat_shape same m m φ ψ t 0 f h).0 (subst (λ u. Has_shape N τ m φ u h) (sym (same_size t 0)) x)

  flat_told : (m : Worth) (φ : Frames) (t : Size) (sizes : Dim → ℕ) (shapes : Variable → Shape) → Flat t → Well_formed W.sizing.fields t → Has_shape N τ m φ t (told_shape W.sizing.fields sizes shapes t)
  flat_told m φ t sizes shapes f w = told_right N W.sizing.fields S.fields τ m φ S.names sizes shapes t (data_formed W.sizing.fields t (flat_data t f) w) (flat_each (λ j d. sizes d ≡ number m φ d) t 0 f) (flat_holes (λ v. (τ v).shape (shapes v)) t f)

  pub always_right : (m : Worth) (φ ψ : Frames) (t : Size) (tell : List Shape → Shape) → Flat_result t → Always_told m φ t tell → Told_right N τ m ψ t tell
  unfolding Always_told Told_right Flat_result Flat
  always_right m φ ψ (Hole v) tell f x = absurd f
  always_right m φ ψ (Open n v u) tell f x = absurd f
  always_right m φ ψ (Level d t) tell f x = absurd f
  always_right m φ ψ (Built k ts) tell f x = flat_anywhere m φ ψ (Built k ts) f (tell []) x
  always_right m φ ψ (Fun k p r) tell f x = λ F h hp. always_right m φ (push F ψ) r (λ hs. tell (h ∷ hs)) f (x h)

  -- what is told by a sized type
  result_always : (m : Worth) (φ : Frames) (t : Size) (sizes : Dim → ℕ) (shapes : Variable → Shape) → Flat_result t → Well_formed W.sizing.fields t → Always_told m φ t (λ hs. result_shape W.sizing.fields sizes shapes t hs)
  unfolding Always_told Flat_result Well_formed result_shape
  result_always m φ (Hole v) sizes shapes f w = flat_told m φ (Hole v) sizes shapes f w
  result_always m φ (Open n v u) sizes shapes f w = flat_told m φ (Open n v u) sizes shapes f w
  result_always m φ (Level d t) sizes shapes f w = flat_told m φ (Level d t) sizes shapes f w
  result_always m φ (Built k ts) sizes shapes f w = flat_told m φ (Built k ts) sizes shapes f w
  result_always m φ (Fun k p r) sizes shapes f w = λ h. result_always m φ r (pushed W.sizing.fields p h sizes) (typed_by W.sizing.fields p h shapes) f w.1

  of_function : (k : ℕ) (p r : Size) → Flat_result (Fun k p r) → Flat_result r
  unfolding Flat_result
  of_function k p r f = f

  -- a function of parameters tells what its body gives
  pub closure_always : (body : Context → Type 0) (parts : List ℕ) (ps : Patterns Ref BindId) (lo q at hi : ℕ) (u : Size) (G : Context) (V : Found) (m : Worth) (φ : Frames) → Takes N types W.sizing.size_at W.sizing.home body parts ps lo q at hi u G → Flat_result u
      → Always_told m φ u (λ hs. closure_tells W.sizing (nodes_from ps q) at hs V)
  unfolding Always_told closure_tells
  closure_always body parts no_pattern lo q at hi u G V m φ h f =
      subst (λ t. Always_told m φ t (λ hs. result_shape W.sizing.fields (found_number V) (shape_found V) (W.sizing.size_at at) hs)) (sym h.1)
      ((always_replaced (renaming (leave lo parts)) m m φ φ (W.sizing.size_at at) 0 (λ hs. result_shape W.sizing.fields (found_number V) (shape_found V) (W.sizing.size_at at) hs) flat_body).1
      (result_always m φ (W.sizing.size_at at) (found_number V) (shape_found V) flat_body (S.formed at)))
    where
      flat_body : Flat_result (W.sizing.size_at at)
      flat_body = (flat_result_replaced (renaming (leave lo parts)) (W.sizing.size_at at) 0).1 (subst Flat_result h.1 f)
  closure_always body parts (pattern_and p ps) lo q at hi u G V m φ h f =
      subst (λ t. Always_told m φ t (λ hs. closure_tells W.sizing (q ∷ nodes_from ps (q + pattern_numbers p)) at hs V)) (sym (h.0).function)
      (λ x. (always_replaced (given (h.0).inside) m m φ φ (h.0).to 1 (λ hs. closure_tells W.sizing (nodes_from ps (q + pattern_numbers p)) at hs (with_data W.sizing.fields (W.sizing.size_at q) x V)) flat_to).0
      (closure_always body parts ps lo (q + pattern_numbers p) at hi (opened (h.0).inside (h.0).to) (with_pattern W.sizing.size_at p q (with_positions (h.0).position G)) (with_data W.sizing.fields (W.sizing.size_at q) x V) m φ h.3 ((flat_result_replaced (given (h.0).inside) (h.0).to 1).0 flat_to)))
    where
      flat_to : Flat_result (h.0).to
      flat_to = of_function (h.0).chosen (h.0).from (h.0).to (subst Flat_result (h.0).function f)
