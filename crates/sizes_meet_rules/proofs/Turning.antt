-- A loop is sized until a turn keeps all that is kept: each other turn drops a level more, and levels are few.
use Rattle.std.proofs.Common.{◌≡◌, ◌⊎◌, ℕ, zero, suc, ◌+◌, ◌<◌, ◌≤◌, List, [], ◌∷◌, ◌++◌, Bool, true, false, ◌||◌, cond, Ok, refl, sym, ap, ◌∙◌, subst, arith, inl, inr, eq-eqb}
use Rattle.fut_types.specs.Types.{Sub, Made, none, more}
use Rattle.fut_types.specs.declared.Head.TheVariants as head
use Rattle.fut_typing.specs.Names.{Names}
use Rattle.sized_types.specs.Sizes.{Free, Unknown, Dim, At, Variable, Size, Hole, Open, Level, Built, Fun, Sizes, no_size, size_and, erased, all_erased, is_dim, levels, all_levels}
use Rattle.fut_sizes.specs.Agreeing.{is_among}
use Rattle.fut_sizes.specs.Rules.{Each_hole, Each_holes}
use Rattle.fut_sizes.specs.Sizing.{lacking, all_lacking, differing, all_differing, another, turns_from}
use Rattle.fut_sizes.specs.Steps.{State, Done, Step, at_node}
use Rattle.fut_sizes.specs.Suiting.{Each, Each_all, Scoped, Data, All_data}
use Rattle.sizes_meet_rules.specs.Known.{Formed, All_formed}
use Rattle.sizes_meet_rules.proofs.Meeting.{then_ok, same_ok, at_itself, order}
use Rattle.sizes_meet_rules.proofs.Taking.{among_first, among_later}

-- ---- how many numbers from one on are not among those dropped

abbrev one_unless : Bool → ℕ
one_unless true = 0
one_unless false = 1

abbrev pub missing : List ℕ → ℕ → ℕ → ℕ
missing ds i zero = 0
missing ds i (suc k) = one_unless (is_among ds i) + missing ds (suc i) k

one_most : (b : Bool) → one_unless b ≤ 1
one_most true = omega arith
one_most false = omega arith

pub missing_most : (ds : List ℕ) (i k : ℕ) → missing ds i k ≤ k
missing_most ds i zero = omega arith
missing_most ds i (suc k) = let a = one_most (is_among ds i) in let b = missing_most ds (suc i) k in omega (arith, a, b)

one_no_more : (ds es : List ℕ) (i : ℕ) → one_unless (is_among (ds ++ es) i) ≤ one_unless (is_among ds i)
one_no_more ds es i = by_first (is_among ds i) refl
  where
    by_first : (b : Bool) → is_among ds i ≡ b → one_unless (is_among (ds ++ es) i) ≤ one_unless (is_among ds i)
    by_first true e = subst (λ c. one_unless c ≤ one_unless (is_among ds i)) (sym (among_first ds es i e)) (omega arith)
    by_first false e = subst (λ c. one_unless (is_among (ds ++ es) i) ≤ one_unless c) (sym e) (one_most (is_among (ds ++ es) i))

missing_no_more : (ds es : List ℕ) (i k : ℕ) → missing (ds ++ es) i k ≤ missing ds i k
missing_no_more ds es i zero = omega arith
missing_no_more ds es i (suc k) = let a = one_no_more ds es i in let b = missing_no_more ds es (suc i) k in omega (arith, a, b)

missing_less : (ds es : List ℕ) (i k j : ℕ) → i ≤ j → j < i + k → is_among ds j ≡ false → is_among es j ≡ true → missing (ds ++ es) i k < missing ds i k
missing_less ds es i zero j l m e f = absurd (omega (arith, l, m))
missing_less ds es i (suc k) j l m e f = by_place (order i j) (λ z. missing_less ds es (suc i) k j z (omega (arith, m)) e f)
  where
    by_place : (i < j) ⊎ (j ≤ i) → (suc i ≤ j → missing (ds ++ es) (suc i) k < missing ds (suc i) k) → one_unless (is_among (ds ++ es) i) + missing (ds ++ es) (suc i) k < one_unless (is_among ds i) + missing ds (suc i) k
    by_place (inl z) go = let a = one_no_more ds es i in let b = go (omega (arith, z)) in omega (arith, a, b)
    by_place (inr z) go =
        let same : j ≡ i = omega (arith, z, l) in
        let a : one_unless (is_among (ds ++ es) i) ≡ 0 = ap one_unless (among_later ds es i (ap (is_among es) (sym same) ∙ f)) in
        let b : one_unless (is_among ds i) ≡ 1 = ap one_unless (ap (is_among ds) (sym same) ∙ e) in
        let c = missing_no_more ds es (suc i) k in omega (arith, a, b, c)

-- the first of these is a level from one on, of so many, that is kept so far
abbrev Low : List ℕ → ℕ → ℕ → List ℕ → Type 0
Low ds i k [] = Unit {0}
Low ds i k (j ∷ js) = (i ≤ j) × (j < i + k) × (is_among ds j ≡ false)

low_joined : (ds : List ℕ) (i k l : ℕ) (xs ys : List ℕ) → Low ds i k xs → Low ds (k + i) l ys → Low ds i (k + l) (xs ++ ys)
low_joined ds i k l [] [] a b = tt
low_joined ds i k l [] (y ∷ ys) a (b, c, d) = (omega (arith, b), omega (arith, c), d)
low_joined ds i k l (x ∷ xs) ys (a, c, d) b = (a, omega (arith, c), d)

neither : (a b : Bool) → a || b ≡ false → a ≡ false
neither true b e = e
neither false b e = refl

module _ (N : Names) (types : Sub) (n : ℕ) where
  -- ---- what is dropped keeps the form of data

  mutual
    unfolding lacking all_lacking erased all_erased

    pub erased_lacking : (ds : List ℕ) (t : Size) (i : ℕ) → erased (lacking N types n ds i t) ≡ erased t
    erased_lacking ds (Hole v) i = refl
    erased_lacking ds (Open m v u) i = refl
    erased_lacking ds (Level d t) i = ap (λ x. Made head.Array (more x none)) (erased_lacking ds t (suc i))
    erased_lacking ds (Built h ts) i = ap (Made h) (all_erased_lacking ds ts i)
    erased_lacking ds (Fun k p r) i = refl

    all_erased_lacking : (ds : List ℕ) (ts : Sizes) (i : ℕ) → all_erased (all_lacking N types n ds i ts) ≡ all_erased ts
    all_erased_lacking ds no_size i = refl
    all_erased_lacking ds (size_and t ts) i = ap (λ x. more x (all_erased (all_lacking N types n ds (levels t + i) ts))) (erased_lacking ds t i) ∙ ap (more (erased t)) (all_erased_lacking ds ts (levels t + i))

  mutual
    unfolding lacking all_lacking Formed All_formed

    pub formed_lacking : (ds : List ℕ) (t : Size) (i : ℕ) → Formed t → Formed (lacking N types n ds i t)
    formed_lacking ds (Hole v) i h = h
    formed_lacking ds (Open m v u) i h = h
    formed_lacking ds (Level d t) i h = formed_lacking ds t (suc i) h
    formed_lacking ds (Built k ts) i h = (h.0, all_formed_lacking ds ts i h.1)
    formed_lacking ds (Fun k p r) i h = h

    all_formed_lacking : (ds : List ℕ) (ts : Sizes) (i : ℕ) → All_formed ts → All_formed (all_lacking N types n ds i ts)
    all_formed_lacking ds no_size i h = h
    all_formed_lacking ds (size_and t ts) i h = (formed_lacking ds t i h.0, all_formed_lacking ds ts (levels t + i) h.1)

  mutual
    unfolding lacking all_lacking Data All_data

    pub data_lacking : (ds : List ℕ) (t : Size) (i : ℕ) → Data t → Data (lacking N types n ds i t)
    data_lacking ds (Hole v) i h = h
    data_lacking ds (Open m v u) i h = h
    data_lacking ds (Level d t) i h = data_lacking ds t (suc i) h
    data_lacking ds (Built k ts) i h = all_data_lacking ds ts i h
    data_lacking ds (Fun k p r) i h = h

    all_data_lacking : (ds : List ℕ) (ts : Sizes) (i : ℕ) → All_data ts → All_data (all_lacking N types n ds i ts)
    all_data_lacking ds no_size i h = h
    all_data_lacking ds (size_and t ts) i h = (data_lacking ds t i h.0, all_data_lacking ds ts (levels t + i) h.1)

  module _ (ok : Variable → Type 0) where
    mutual
      unfolding lacking all_lacking Each_hole Each_holes

      pub variables_lacking : (ds : List ℕ) (t : Size) (i : ℕ) → Each_hole ok t → Each_hole ok (lacking N types n ds i t)
      variables_lacking ds (Hole v) i h = h
      variables_lacking ds (Open m v u) i h = h
      variables_lacking ds (Level d t) i h = variables_lacking ds t (suc i) h
      variables_lacking ds (Built k ts) i h = all_variables_lacking ds ts i h
      variables_lacking ds (Fun k p r) i h = h

      all_variables_lacking : (ds : List ℕ) (ts : Sizes) (i : ℕ) → Each_holes ok ts → Each_holes ok (all_lacking N types n ds i ts)
      all_variables_lacking ds no_size i h = h
      all_variables_lacking ds (size_and t ts) i h = (variables_lacking ds t i h.0, all_variables_lacking ds ts (levels t + i) h.1)

  module _ (In : Free → Type 0) (met : (i : ℕ) → In (Unknown n i)) where
    one_lacking : (j i : ℕ) (d : Dim) (b : Bool) → Scoped In j d → Scoped In j (cond b (At (Unknown n i)) d)
    one_lacking j i d true h = met i
    one_lacking j i d false h = h

    mutual
      unfolding lacking all_lacking Each Each_all

      pub sizes_lacking : (ds : List ℕ) (t : Size) (j i : ℕ) → Each (Scoped In) j t → Each (Scoped In) j (lacking N types n ds i t)
      sizes_lacking ds (Hole v) j i h = h
      sizes_lacking ds (Open m v u) j i h = h
      sizes_lacking ds (Level d t) j i h = (one_lacking j i d (is_among ds i) h.0, sizes_lacking ds t j (suc i) h.1)
      sizes_lacking ds (Built k ts) j i h = all_sizes_lacking ds ts j i h
      sizes_lacking ds (Fun k p r) j i h = h

      all_sizes_lacking : (ds : List ℕ) (ts : Sizes) (j i : ℕ) → Each_all (Scoped In) j ts → Each_all (Scoped In) j (all_lacking N types n ds i ts)
      all_sizes_lacking ds no_size j i h = h
      all_sizes_lacking ds (size_and t ts) j i h = (sizes_lacking ds t j i h.0, all_sizes_lacking ds ts j (levels t + i) h.1)

  mutual
    unfolding lacking all_lacking levels all_levels

    levels_lacking : (ds : List ℕ) (t : Size) (i : ℕ) → levels (lacking N types n ds i t) ≡ levels t
    levels_lacking ds (Hole v) i = refl
    levels_lacking ds (Open m v u) i = refl
    levels_lacking ds (Level d t) i = ap (λ x. 1 + x) (levels_lacking ds t (suc i))
    levels_lacking ds (Built h ts) i = all_levels_lacking ds ts i
    levels_lacking ds (Fun k p r) i = refl

    all_levels_lacking : (ds : List ℕ) (ts : Sizes) (i : ℕ) → all_levels (all_lacking N types n ds i ts) ≡ all_levels ts
    all_levels_lacking ds no_size i = refl
    all_levels_lacking ds (size_and t ts) i = ap (λ x. x + all_levels (all_lacking N types n ds (levels t + i) ts)) (levels_lacking ds t i) ∙ ap (λ x. levels t + x) (all_levels_lacking ds ts (levels t + i))

  -- ---- the levels in which a turn differs

  level_low : (ds : List ℕ) (i k : ℕ) (a b : Bool) (rest : List ℕ) → is_among ds i ≡ a → Low ds (suc i) k rest → Low ds i (1 + k) (cond (a || b) rest (i ∷ rest))
  level_low ds i k true b [] e h = tt
  level_low ds i k true b (j ∷ js) e (x, y, z) = (omega (arith, x), omega (arith, y), z)
  level_low ds i k false true [] e h = tt
  level_low ds i k false true (j ∷ js) e (x, y, z) = (omega (arith, x), omega (arith, y), z)
  level_low ds i k false false rest e h = (omega arith, omega arith, e)

  mutual
    unfolding differing all_differing levels all_levels

    differing_low : (ds : List ℕ) (t u : Size) (i : ℕ) → Low ds i (levels t) (differing N types ds i t u)
    differing_low ds (Level d t) (Level e u) i = level_low ds i (levels t) (is_among ds i) (is_dim d e) (differing N types ds (suc i) t u) refl (differing_low ds t u (suc i))
    differing_low ds (Built h ts) (Built g us) i = all_differing_low ds ts us i
    differing_low ds t u i = tt

    all_differing_low : (ds : List ℕ) (ts us : Sizes) (i : ℕ) → Low ds i (all_levels ts) (all_differing N types ds i ts us)
    all_differing_low ds (size_and t ts) (size_and u us) i = low_joined ds i (levels t) (all_levels ts) (differing N types ds i t u) (all_differing N types ds (levels t + i) ts us) (differing_low ds t u i) (all_differing_low ds ts us (levels t + i))
    all_differing_low ds ts us i = tt

  -- ---- turns

  module _ (t : Size) (turn : Size → Step Size) (Inv : State → Type 0)
      (goes_on : (ds : List ℕ) (s : State) (r : Done Size) → Inv s → turn (lacking N types n ds 0 t) s ≡ Ok r → Inv r.state × (r.state.dropped n ≡ s.dropped n))
      (drops : (s : State) (ls : List ℕ) → Inv s → Inv (record { nodes = s.nodes; dropped = at_node n ls s.dropped })) where
    -- the last turn keeps all that is kept
    pub record Turned (d : Done Size) : Type 0 where
      pub ds : List ℕ
      pub before : State
      pub inv : Inv before
      pub last : Done Size
      pub ran : turn (lacking N types n ds 0 t) before ≡ Ok last
      pub kept : differing N types ds 0 (lacking N types n ds 0 t) last.result ≡ []
      pub gives : d ≡ record { result = lacking N types n ds 0 t; state = last.state }

    abbrev lost : List ℕ → ℕ
    lost ds = missing ds 0 (levels t)

    -- a level more is dropped
    loses : (ds : List ℕ) (u : Size) (j : ℕ) (js : List ℕ) → differing N types ds 0 (lacking N types n ds 0 t) u ≡ j ∷ js → lost (ds ++ j ∷ js) < lost ds
    loses ds u j js e =
        let low : Low ds 0 (levels t) (j ∷ js) = subst (λ k. Low ds 0 k (j ∷ js)) (levels_lacking ds t 0) (subst (Low ds 0 (levels (lacking N types n ds 0 t))) e (differing_low ds (lacking N types n ds 0 t) u 0)) in
        missing_less ds (j ∷ js) 0 (levels t) j low.0 low.1 low.2 (ap (λ b. cond b true (is_among js j)) (eq-eqb j j refl))

    abbrev after_drop : State → List ℕ → State
    after_drop s ls = record { nodes = s.nodes; dropped = at_node n (s.dropped n ++ ls) s.dropped }

    by_levels : (left : ℕ) (st : State) (x d : Done Size) → turn (lacking N types n (st.dropped n) 0 t) st ≡ Ok x → Inv st → Inv x.state → x.state.dropped n ≡ st.dropped n → lost (st.dropped n) ≤ left
        → ((st' : State) → suc (lost (st'.dropped n)) ≤ left → Inv st' → turns_from N types left n t turn st' ≡ Ok d → Turned d)
        → (ls : List ℕ) → differing N types (st.dropped n) 0 (lacking N types n (st.dropped n) 0 t) x.result ≡ ls → another N types n ls (lacking N types n (st.dropped n) 0 t) (turns_from N types left n t turn) x.state ≡ Ok d → Turned d
    by_levels left st x d ran i i' same low again [] e q = record { ds = st.dropped n; before = st; inv = i; last = x; ran = ran; kept = e; gives = sym (same_ok q) }
    by_levels left st x d ran i i' same low again (j ∷ js) e q =
        let l = loses (st.dropped n) x.result j js e in
        let now : at_node n (x.state.dropped n ++ j ∷ js) x.state.dropped n ≡ st.dropped n ++ j ∷ js = at_itself n (x.state.dropped n ++ j ∷ js) x.state.dropped ∙ ap (λ (ds : List ℕ). ds ++ j ∷ js) same in
        again (after_drop x.state (j ∷ js)) (subst (λ ds. suc (lost ds) ≤ left) (sym now) (omega (arith, l, low))) (drops x.state (x.state.dropped n ++ j ∷ js) i') q

    pub turned : (left : ℕ) (st : State) (d : Done Size) → lost (st.dropped n) ≤ left → Inv st → turns_from N types (suc left) n t turn st ≡ Ok d → Turned d
    unfolding turns_from
    turned zero st d low inv q =
        let x1 = then_ok (turn (lacking N types n (st.dropped n) 0 t) st) q in
        let w = goes_on (st.dropped n) st x1.first inv x1.done in
        by_levels zero st x1.first d x1.done inv w.0 w.1 low (λ st' l i z. absurd (omega (arith, l))) (differing N types (st.dropped n) 0 (lacking N types n (st.dropped n) 0 t) x1.first.result) refl x1.rest
    turned (suc left) st d low inv q =
        let x1 = then_ok (turn (lacking N types n (st.dropped n) 0 t) st) q in
        let w = goes_on (st.dropped n) st x1.first inv x1.done in
        by_levels (suc left) st x1.first d x1.done inv w.0 w.1 low (λ st' l i z. turned left st' d (omega (arith, l)) i z) (differing N types (st.dropped n) 0 (lacking N types n (st.dropped n) 0 t) x1.first.result) refl x1.rest
