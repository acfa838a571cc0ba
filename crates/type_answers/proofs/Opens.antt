-- Lists of what is left open.
use Rattle.std.proofs.Common.{◌≡◌, ◌≢◌, ℕ, zero, suc, ◌<◌, List, [], ◌∷◌, refl, sym, subst, arith}
use Rattle.std.specs.List.{All, AllPairs}
use Rattle.std.proofs.lemmas.List.Kept.{AllPairs-cons}
use native.Mathlib.Decide.{ℕ_discrete}
use Rattle.fut_types.specs.Types.{Sub, applied}
use Rattle.fut_types.specs.Shapes.{Shapes, HasPart}
use Rattle.fut_typing.specs.Answers.{Open, Met}
use Rattle.type_graph.specs.declared.Form.{Form}
use Rattle.type_graph.specs.declared.Form.TheVariants as form
use Rattle.type_graph.specs.declared.Node.{Node}
use Rattle.type_graph.specs.declared.Entry.{Entry}
use Rattle.type_graph.specs.Graph.{node_at, Tables, Each, chained, All_named, Lacks, Distinct, Once}
use Rattle.type_answers.specs.Settled.{chain_opens, form_opens, opens_below}

pub all_each : {X : Type 0} (P : X → Type 0) (xs : List X) → Each P xs → All P xs
all_each P [] h k d lt = absurd (omega arith)
all_each P (x ∷ xs) h zero d lt = h.0
all_each P (x ∷ xs) h (suc k) d lt = all_each P xs h.1 k d (omega arith)

pub each_all : {X : Type 0} (P : X → Type 0) (xs : List X) → All P xs → Each P xs
each_all P [] h = tt
each_all P (x ∷ xs) h = (h 0 x (omega arith), each_all P xs (λ k d lt. h (suc k) d (omega arith)))

-- no two of one variable under one label
abbrev pub Differ : Open → Open → Type 0
Differ o p = o.variable ≡ p.variable → o.label ≢ p.label

abbrev Below : ℕ → Open → Type 0
Below v o = o.variable < v

module _ (entry : ℕ → Entry) (s : Sub) (v : ℕ) where
  chain_below : (e n : ℕ) (rest : List Open) → Each (Below v) rest → Each (Below (suc v)) (chain_opens entry s v e n rest)
  unfolding chain_opens
  chain_below e zero rest h = wider rest h
    where
      wider : (os : List Open) → Each (Below v) os → Each (Below (suc v)) os
      wider [] h = tt
      wider (o ∷ os) h = ((let p : o.variable < v = h.0 in omega arith), wider os h.1)
  chain_below e (suc n) rest h = (omega arith, chain_below (entry e).next n rest h)

  chain_apart : (x : Open) (e n : ℕ) (rest : List Open) → x.variable ≡ v → Lacks entry x.label e n → Each (Below v) rest → Each (Differ x) (chain_opens entry s v e n rest)
  unfolding chain_opens Lacks
  chain_apart x e zero rest is l h = go rest h
    where
      go : (os : List Open) → Each (Below v) os → Each (Differ x) os
      go [] h = tt
      go (o ∷ os) h = ((λ e. let p : o.variable < v = h.0 in absurd (omega arith)), go os h.1)
  chain_apart x e (suc n) rest is l h = ((λ e q. l.0 (sym q)), chain_apart x (entry e).next n rest is l.1 h)

  chain_pairs : (e n : ℕ) (rest : List Open) → Distinct entry e n → Each (Below v) rest → AllPairs Differ rest → AllPairs Differ (chain_opens entry s v e n rest)
  unfolding chain_opens Distinct
  chain_pairs e zero rest d h p = p
  chain_pairs e (suc n) rest d h p = AllPairs-cons Differ _ _ (all_each _ _ (chain_apart (record { variable = v; label = (entry e).label; part = s (entry e).child }) (entry e).next n rest refl d.0 h)) (chain_pairs (entry e).next n rest d.1 h p)

  -- parts of a type, as what is open is given types
  pub chain_met : (S : Shapes) (by b : Sub) (N e n : ℕ) (rest : List Open) → ((c : ℕ) → c < N → b c ≡ applied by (s c)) → by v ≡ b v → Each (λ c. c < N) (chained entry e n) → All_named S entry b (b v) e n → Each (Met S by) rest → Each (Met S by) (chain_opens entry s v e n rest)
  unfolding chain_opens chained All_named
  chain_met S by b N e zero rest q is inn h r = r
  chain_met S by b N e (suc n) rest q is inn h r = (
    subst (λ t. HasPart S (entry e).label t (applied by (s (entry e).child))) (sym is) (subst (HasPart S (entry e).label (b v)) (q (entry e).child inn.0) h.0),
    chain_met S by b N (entry e).next n rest q is inn.1 h.1 r,
  )

  pub chain_named : (S : Shapes) (by b : Sub) (N e n : ℕ) (rest : List Open) → ((c : ℕ) → c < N → b c ≡ applied by (s c)) → by v ≡ b v → Each (λ c. c < N) (chained entry e n) → Each (Met S by) (chain_opens entry s v e n rest) → All_named S entry b (b v) e n
  unfolding chain_opens chained All_named
  chain_named S by b N e zero rest q is inn h = tt
  chain_named S by b N e (suc n) rest q is inn h = (
    subst (λ t. HasPart S (entry e).label t (b (entry e).child)) is (subst (HasPart S (entry e).label (by v)) (sym (q (entry e).child inn.0)) h.0),
    chain_named S by b N (entry e).next n rest q is inn.1 h.1,
  )

  pub chain_rest : (P : Open → Type 0) (e n : ℕ) (rest : List Open) → Each P (chain_opens entry s v e n rest) → Each P rest
  unfolding chain_opens
  chain_rest P e zero rest h = h
  chain_rest P e (suc n) rest h = chain_rest P (entry e).next n rest h.1

module _ (T : Tables) (nodes : List Node) (s : Sub) where
  form_below : (i : ℕ) (f : Form) (rest : List Open) → Each (Below i) rest → Each (Below (suc i)) (form_opens T s i f rest)
  unfolding chain_opens
  form_below i form.Free rest h = chain_below T.entry s i 0 0 rest h
  form_below i (form.Link j) rest h = chain_below T.entry s i 0 0 rest h
  form_below i (form.Made g x n) rest h = chain_below T.entry s i 0 0 rest h
  form_below i (form.Open e n) rest h = chain_below T.entry s i e n rest h

  below : (m : ℕ) → Each (Below m) (opens_below T nodes s m)
  unfolding opens_below
  below zero = tt
  below (suc i) = form_below i (node_at nodes i).form (opens_below T nodes s i) (below i)

  form_pairs : (i : ℕ) (f : Form) (rest : List Open) → Once T f → Each (Below i) rest → AllPairs Differ rest → AllPairs Differ (form_opens T s i f rest)
  form_pairs i form.Free rest o h p = p
  form_pairs i (form.Link j) rest o h p = p
  form_pairs i (form.Made g x n) rest o h p = p
  form_pairs i (form.Open e n) rest o h p = chain_pairs T.entry s i e n rest o h p

  pub pairs_below : (m : ℕ) → ((i : ℕ) → i < m → Once T (node_at nodes i).form) → AllPairs Differ (opens_below T nodes s m)
  unfolding opens_below
  pairs_below zero once = λ i j d lt ltj. absurd (omega arith)
  pairs_below (suc i) once = form_pairs i (node_at nodes i).form (opens_below T nodes s i) (once i (omega arith)) (below i) (pairs_below i (λ j lt. once j (omega arith)))

  form_rest : (P : Open → Type 0) (i : ℕ) (f : Form) (rest : List Open) → Each P (form_opens T s i f rest) → Each P rest
  form_rest P i form.Free rest h = h
  form_rest P i (form.Link j) rest h = h
  form_rest P i (form.Made g x n) rest h = h
  form_rest P i (form.Open e n) rest h = chain_rest T.entry s i P e n rest h

  -- those of one node
  pub opens_at : (P : Open → Type 0) (m i : ℕ) → i < m → Each P (opens_below T nodes s m) → (rest : List Open) × Each P (form_opens T s i (node_at nodes i).form rest)
  unfolding opens_below
  opens_at P zero i lt h = absurd (omega arith)
  opens_at P (suc m) i lt h = elim (ℕ_discrete i m) as (λ d. (rest : List Open) × Each P (form_opens T s i (node_at nodes i).form rest)) [
    | yes e ↦ (opens_below T nodes s m, subst (λ j. Each P (form_opens T s j (node_at nodes j).form (opens_below T nodes s m))) (sym e) h)
    | no ne ↦ opens_at P m i (grind (arith, ne)) (form_rest P m (node_at nodes m).form (opens_below T nodes s m) h)
  ]

  pub opens_each : (P : Open → Type 0) (m : ℕ) → ((i : ℕ) (rest : List Open) → i < m → Each P rest → Each P (form_opens T s i (node_at nodes i).form rest)) → Each P (opens_below T nodes s m)
  unfolding opens_below
  opens_each P zero f = tt
  opens_each P (suc i) f = f i (opens_below T nodes s i) (omega arith) (opens_each P i (λ j rest lt. f j rest (omega arith)))
