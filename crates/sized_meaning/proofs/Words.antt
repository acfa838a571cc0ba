-- What the parts of an operation are worth, where they are names or literals.
use Rattle.std.specs.Prelude.{pos}
use Rattle.std.proofs.Common.{◌≡◌, ◌⊎◌, ℕ, ◌+◌, List, [], ◌∷◌, Bool, true, false, cond, Some, refl, sym, ap, ◌∙◌, subst, inl, inr, eqb-true, ◌^◌, lt-ltb}
use Rattle.fut_scalar.specs.declared.place.BindId.{BindId}
use Rattle.fut_scalar.specs.declared.scalar.IntType.{IntType}
use Rattle.fut_scalar.specs.declared.scalar.IntType.TheVariants.{I64}
use Rattle.fut_scalar.specs.declared.scalar.ScalarType.TheVariants as sort
use Rattle.fut_flat.specs.declared.prim.Ref.{Ref}
use Rattle.fut_flat.specs.declared.prim.Ref.TheVariants as ref
use Rattle.fut_flat.specs.Numbers.{numbers}
use Rattle.fut_flat.specs.Terms.{Integer, Use, Strict, Terms, no_term, term_and}
use Rattle.fut_flat.specs.Erased.{FlatTerm}
use Rattle.fut_types.specs.declared.Head.{Head}
use Rattle.fut_types.specs.declared.Head.TheVariants as head
use Rattle.fut_types.specs.Types.{Sub}
use Rattle.fut_typing.specs.Names.{Names}
use Rattle.fut_meaning.specs.Flats.{FlatValue, FlatEnv, flat_look, flat_names}
use Rattle.fut_meaning.specs.Found.{is_number}
use Rattle.fut_meaning.specs.Meaning.{plain}
use Rattle.fut_meaning.specs.Operators.{integer}
use Rattle.fut_meaning.specs.Outcomes.{Val}
use Rattle.fut_meaning.specs.Taken.{size_value}
use Rattle.fut_meaning.specs.Values.{Scalar_value, Evaluate}
use Rattle.fut_meaning.proofs.Ever.{open_up}
use Rattle.sized_types.specs.Sizes.{Free, Const, Name, Unknown, Variable, Size, Hole, Open, Level, Built, Fun, Sizes, no_size, size_and}
use Rattle.fut_sizes.specs.Operations.{value_of}
use Rattle.fut_sizes.specs.Scopes.{i64_size}
use Rattle.fut_sizes.specs.Scoping.{Context}
use Rattle.fut_sizes.specs.Suiting.{Suits, suits_same, suits_parts, suits_function, Never_at}
use Rattle.fut_sizes.specs.Rules.{Each_hole, Each_holes, filled, all_filled, For_each_choice, Filled_use, Sized, All_sized}
use Rattle.sized_meaning.specs.Worth.{Worth, free, no_frames}
use Rattle.sized_meaning.specs.Shapes.{Meant}
use Rattle.sized_meaning.specs.Finding.{One_kind_each}
use Rattle.sized_meaning.specs.Fits.{word, Is_scalar, Fits}
use Rattle.sized_meaning.specs.Law.{Sound, One_type, Literal, Size_number, World, told, means, calls, Beyond as Out_beyond, Env_fits}
use Rattle.sized_meaning.proofs.Outcomes.{is_exactly}
use Rattle.sized_meaning.proofs.Reading.{each_hole_as}
use Rattle.sized_meaning.proofs.Applications.{literal_type, literal_value, literal_word}

-- types without general type variables stay as they are
mutual
  unfolding Each_hole Each_holes filled all_filled

  pub nothing_filled : (types : Variable → Size) (t : Size) → Each_hole (λ a. types a ≡ Hole a) t → filled types t ≡ t
  nothing_filled types (Hole a) e = e
  nothing_filled types (Open n a u) e = absurd e
  nothing_filled types (Level d t) e = ap (Level d) (nothing_filled types t e)
  nothing_filled types (Built h ts) e = ap (Built h) (all_nothing_filled types ts e)
  nothing_filled types (Fun k p r) e = rw (nothing_filled types p e.0, nothing_filled types r e.1) refl

  all_nothing_filled : (types : Variable → Size) (ts : Sizes) → Each_holes (λ a. types a ≡ Hole a) ts → all_filled types ts ≡ ts
  all_nothing_filled types no_size e = refl
  all_nothing_filled types (size_and t ts) e = rw (nothing_filled types t e.0, all_nothing_filled types ts e.1) refl

head_number : (h : Head) (ts us : Sizes) → is_number (Built h us) ≡ true → is_number (Built h ts) ≡ true
head_number (head.Scalar (sort.Int i)) ts us e = refl
head_number h ts us e = absurd (let z : false ≡ true = e in cc)

-- only a number suits one
suits_number : {t u : Size} → Suits t u → is_number u ≡ true → is_number t ≡ true
suits_number suits_same e = e
suits_number (suits_parts {h} {ts} {us} q) e = head_number h ts us e
suits_number (suits_function n m δ ρ i a p r) e = absurd (let z : false ≡ true = e in cc)

number_filled : (is_general : Variable → Bool) (t u : Size) → One_type is_general t → Filled_use is_general t u → is_number u ≡ true → is_number t ≡ true
number_filled is_general t u one_type U e = by_use (subst (λ x. Suits x u ⊎ ((C : For_each_choice x u) × Never_at C.n t)) (nothing_filled U.types t (each_hole_as (λ a. is_general a ≡ false) (λ a. U.types a ≡ Hole a) (λ a e. U.others a e) t one_type)) U.used)
  where
    by_use : Suits t u ⊎ ((C : For_each_choice t u) × Never_at C.n t) → is_number t ≡ true
    by_use (inl q) = suits_number q e
    by_use (inr (C, away)) = absurd (let z : false ≡ true = sym (ap is_number C.wanted) ∙ e in cc)

module _ (N : Names) (types : Sub) (τ : Meant) (W : World) (S : Sound N types W.sizing) (one : One_kind_each τ) where
  abbrev s : ℕ → Size
  s n = W.sizing.size_at n

  abbrev Of : Worth → Size → FlatValue → Type 0
  Of m t v = Fits N τ W.sizing W.is_there (calls W) m no_frames t v

  abbrev Beyond : ℕ → ℕ → Free → Type 0
  Beyond lo hi d = Out_beyond N types τ W lo hi d

  -- what a name or a literal gives
  abbrev pub Part_value : FlatEnv → FlatTerm → ℕ → FlatValue → Type 0
  Part_value env (Use (ref.Bound b) mark k) at v = W.sizing.is_size b.0 ≡ false → flat_look W.tops env b.0 ≡ Val v
  Part_value env (Strict (Integer c t) mark no_term) at v = v ≡ Scalar_value (integer (literal_type N types τ W S one t at) (pos c))
  Part_value env e at v = Unit {0}

  abbrev pub Part_values : FlatEnv → Terms Ref BindId → ℕ → List FlatValue → Type 0
  Part_values env (term_and e es) at (v ∷ vs) = Part_value env e at v × Part_values env es (at + numbers e) vs
  Part_values env es at vs = Unit {0}

  pub part_value : (e : FlatTerm) (at : ℕ) (env : FlatEnv) (v : FlatValue) (f : ℕ) → means W (Evaluate env at e) (Val v) f → Part_value env e at v
  unfolding flat_names
  part_value (Use (ref.Bound b) mark k) at env v f r = λ u. subst (λ c. cond c (Val (size_value W.sizing env b.0)) (flat_look W.tops env b.0) ≡ Val v) u
      (is_exactly 0 (cond (W.sizing.is_size b.0) (Val (size_value W.sizing env b.0)) (flat_look W.tops env b.0)) (Val v) f (open_up ((flat_names (told W)).lang W.tops) (plain W.tight) W.budget (Evaluate env at (Use (ref.Bound b) mark k)) (Val v) f r))
  part_value (Strict (Integer c t) mark no_term) at env v f r = literal_value N types τ W S one c t mark at env (Val v) f r
  part_value e at env v f r = tt

  -- what it is worth
  abbrev pub Part_word : Worth → FlatTerm → ℕ → FlatValue → Type 0
  Part_word m (Use (ref.Bound b) mark k) at v = W.sizing.is_size b.0 ≡ false → s at ≡ i64_size → word v ≡ m (Name b.0)
  Part_word m (Strict (Integer c t) mark no_term) at v = v ≡ Scalar_value (integer (literal_type N types τ W S one t at) (pos c))
  Part_word m e at v = Unit {0}

  abbrev pub Part_words : Worth → Terms Ref BindId → ℕ → List FlatValue → Type 0
  Part_words m (term_and e es) at (v ∷ vs) = Part_word m e at v × Part_words m es (at + numbers e) vs
  Part_words m es at vs = Unit {0}

  module _ (lo hi : ℕ) (G : Context) (env : FlatEnv) (m now : Worth) (E : Env_fits N types τ W lo hi m G env) (old : (d : Free) → Beyond lo hi d → now d ≡ m d) where
    name_word : (b at : ℕ) (v : FlatValue) → ((t : Size) × (G.sizes b ≡ Some t) × Suits t (s at)) ⊎ ((t : Size) × (G.schemes b ≡ Some t) × Filled_use (G.general b) t (s at)) → flat_look W.tops env b ≡ Val v → s at ≡ i64_size → word v ≡ now (Name b)
    name_word b at v (inl q) l e = (E.values b q.0 q.1 v l).1 ∙ sym (old (Name b) (E.away b q.0 q.1).1)
    name_word b at v (inr q) l e =
        let g = E.general_worth b q.0 q.1 (number_filled (G.general b) q.0 (s at) (E.general b q.0 q.1).0 q.2 (ap is_number e)) in
        g.1 v l ∙ sym (old (Name b) g.0)

    part_word : (e : FlatTerm) (at : ℕ) (v : FlatValue) → Sized N types W.sizing.size_at W.sizing.home e at G → Part_value env e at v → Part_word now e at v
    part_word (Use (ref.Bound b) mark k) at v h p = λ u e. name_word b.0 at v h (p u) e
    part_word (Strict (Integer c t) mark no_term) at v h p = p
    part_word e at v h p = tt

    pub part_words : (ts : Terms Ref BindId) (at end : ℕ) (vs : List FlatValue) → All_sized N types W.sizing.size_at W.sizing.home ts at end G → Part_values env ts at vs → Part_words now ts at vs
    part_words no_term at end vs h p = tt
    part_words (term_and e es) at end [] h p = tt
    part_words (term_and e es) at end (v ∷ vs) h p = (part_word e at v h.0 p.0, part_words es (at + numbers e) end vs h.2 p.1)

  -- ---- of an i64

  typed_literal : (i : IntType) (c : ℕ) (v : FlatValue) → v ≡ Scalar_value (integer i (pos c)) → Is_scalar (sort.Int I64) v → i ≡ I64
  typed_literal i c v e h = let z : sort.Int i ≡ sort.Int I64 = subst (Is_scalar (sort.Int I64)) e h in cc

  pub is_i64 : (m : Worth) (at : ℕ) (v : FlatValue) → s at ≡ i64_size → Of m (s at) v → Is_scalar (sort.Int I64) v
  unfolding Fits
  is_i64 m at v e h = subst (λ t. Of m t v) e h

  pub literal_is : (m : Worth) (c : ℕ) (e : FlatTerm) (at : ℕ) (v : FlatValue) → Literal N types W c e at → Part_word m e at v → Of m (s at) v → v ≡ Scalar_value (integer I64 (pos c))
  literal_is m c (Strict (Integer d t) mark no_term) at v p w h =
      w ∙ ap (λ i. Scalar_value (integer i (pos d))) (typed_literal (literal_type N types τ W S one t at) d v w (is_i64 m at v p.1 h)) ∙ ap (λ n. Scalar_value (integer I64 (pos n))) (sym (eqb-true c d p.0))
  literal_is m c e at v p w h = absurd (let z : false ≡ true = p.0 in cc)

  pub number_is : (m : Worth) (n i : ℕ) (e : FlatTerm) (at : ℕ) (v : FlatValue) → Size_number N types W e at → Part_word m e at v → Of m (s at) v → Is_scalar (sort.Int I64) v × (word v ≡ free m (value_of n i e))
  number_is m n i (Use (ref.Bound b) mark k) at v p w h = (is_i64 m at v p.0 h, w p.1 p.0)
  number_is m n i (Strict (Integer c t) mark no_term) at v p w h =
      let z = is_i64 m at v p.0 h in (
        z,
        literal_word N types τ W S one c (literal_type N types τ W S one t at) v w (typed_literal (literal_type N types τ W S one t at) c v w z) p.1
            ∙ ap (λ b. free m (cond b (Const c) (Unknown n i))) (sym (lt-ltb c (2 ^ 63) p.1)),
      )
  number_is m n i e at v p w h = absurd p
