-- A fold from the left is the value of a tree, and where the operator fails so does a tree; and what each prefix comes to.
use Rattle.std.proofs.Common.{◌≡◌, ℕ, zero, suc, ◌+◌, ◌≤◌, List, [], ◌∷◌, ◌++◌, length, drop, take, slice_get, Some, Ok, Err, Bool, true, false, refl, sym, ap, ◌∙◌, subst, arith, add-one, append_assoc}
use Rattle.std.proofs.lemmas.List.{length-append, append-nil, take_all}
use Rattle.fut_scalar.specs.declared.report.Report.{Report}
use Rattle.fut_meaning.specs.Jobs.{Applied, In_order, order_kept, two_of, reduces, all_of, prefixes_on}
use Rattle.fut_meaning.specs.Outcomes.{Out, Val, Fail, Wrong, Rel, exact, gives, Then, goes_on, stops, sticks, both, stops_left, stops_right, sticks_left, sticks_right, Tree, element, neutral, node, elements, neutrals, tree_gives, IsTight, bracket}
use Rattle.fut_value.specs.Data.{Datum}
use Rattle.fut_blocks.specs.Meaning.{Component, Names}
use Rattle.fut_blocks.specs.Numbered.{Upward, Body_numbered}
use Rattle.fut_blocks.specs.Plain.{Body}
use Rattle.array_data.specs.declared.data.Data.{Data}
use Rattle.array_data.specs.declared.stop.Stop.{Stop}
use Rattle.array_data.specs.declared.stop.Stop.TheVariants.{Memory}
use Rattle.array_data.specs.Held.{held, rows_in}
use Rattle.array_data.specs.Answers.{Added, added, not_added, Copied, copied, not_copied, Counts, counts, Row_is, row_is, no_memory_row}
use Rattle.array_data.proofs.RowsRead.{take_row, drop_row}
use Rattle.array_data.proofs.Forms.{drop_past}
use Rattle.array_primitives.proofs.Writing.{cut_at, taken_long}
use Rattle.fut_eval.specs.Answers.{Stands, Kept}
use Rattle.fut_eval.specs.Primitives.{Gives, gave, gave_failure, gave_memory, gave_wrong, applies, next_of, Next_runs, reduction, Fold_runs, Scan_runs}
use Rattle.fut_eval.proofs.Tells.{Leads, leads_trans, kept_same, kept_trans, stands_kept}

-- ---- trees

-- over the elements that are left, with one neutral leaf
abbrev rest_tree : List Datum → Tree Datum
rest_tree [] = neutral
rest_tree (d ∷ ds) = node (element d) (rest_tree ds)

rest_elements : (ds : List Datum) → elements (rest_tree ds) ≡ ds
rest_elements [] = refl
rest_elements (d ∷ ds) = ap (λ z. d ∷ z) (rest_elements ds)

rest_neutrals : (ds : List Datum) → neutrals (rest_tree ds) ≡ 1
rest_neutrals [] = refl
rest_neutrals (d ∷ ds) = omega (arith, rest_neutrals ds)

-- some elements are folded
pub record Folded (f : Applied) (ne : Datum) (ds : List Datum) (acc : Datum) : Type 0 where
  pub tree : Tree Datum
  pub over : elements tree ≡ ds
  pub few : neutrals tree ≤ length ds + 1
  pub count : ℕ
  pub gives : tree_gives (two_of f) ne tree (Val acc) count

some_order : (any : Bool) (ds : List Datum) → In_order any ds ds
some_order false ds = refl
some_order true ds = order_kept

module _ (f : Applied) (ne : Datum) where
  folded_none : Folded f ne [] ne
  folded_none = record { tree = neutral; over = refl; few = omega arith; count = 0; gives = exact }

  pub folded_first : (x : Datum) → Folded f ne (x ∷ []) x
  folded_first x = record { tree = element x; over = refl; few = omega arith; count = 0; gives = exact }

  pub folded_more : (ds : List Datum) (acc x v : Datum) (n : ℕ) → Folded f ne ds acc → f (acc ∷ x ∷ []) (Val v) n → Folded f ne (ds ++ x ∷ []) v
  folded_more ds acc x v n h y = record {
    tree = node h.tree (element x);
    over = ap (λ z. z ++ x ∷ []) h.over;
    few = omega (arith, h.few, length-append ds (x ∷ []));
    count = h.count + 0 + n;
    gives = both h.gives exact y;
  }

  -- one step more
  folded_next : (i : ℕ) (ds : List Datum) (acc x v : Datum) (n : ℕ) → length ds ≡ i → Folded f ne ds acc → next_of i f acc x (Val v) n → Folded f ne (ds ++ x ∷ []) v
  folded_next zero [] acc x _ _ e h exact = folded_first x
  folded_next zero (d ∷ ds) acc x v n e h y = absurd (omega arith)
  folded_next (suc i) ds acc x v n e h y = folded_more ds acc x v n h y

  -- what a tree over all elements comes to, the reduction does
  reduced : (any : Bool) (ds : List Datum) (t : Tree Datum) (o : Out Datum) (n : ℕ) → elements t ≡ ds → IsTight true t → tree_gives (two_of f) ne t o n → reduction any f ne ds o n
  reduced any ds t o n e i y = reduces tt (some_order any ds) (bracket t e i y)

  pub fold_value : (any : Bool) (ds : List Datum) (acc : Datum) (h : Folded f ne ds acc) → reduction any f ne ds (Val acc) h.count
  fold_value any ds acc h = reduced any ds h.tree (Val acc) h.count h.over (omega (arith, h.few, ap length h.over)) h.gives

  -- where the operator goes wrong, or fails, on what is folded and one more element
  module _ (any : Bool) (ds : List Datum) (acc x : Datum) (rest : List Datum) (h : Folded f ne ds acc) where
    whole : Tree Datum
    whole = node (node h.tree (element x)) (rest_tree rest)

    over_all : elements whole ≡ (ds ++ x ∷ []) ++ rest
    unfolding whole
    over_all = ap (λ z. (z ++ x ∷ []) ++ elements (rest_tree rest)) h.over ∙ ap (λ z. (ds ++ x ∷ []) ++ z) (rest_elements rest)

    few_all : IsTight true whole
    unfolding whole
    few_all = omega (arith, h.few, ap length h.over, rest_neutrals rest, length-append (elements h.tree ++ x ∷ []) (elements (rest_tree rest)), length-append (elements h.tree) (x ∷ []))

    pub next_fails : (i : ℕ) (r : Report) (n : ℕ) → next_of i f acc x (Fail r) n → (m : ℕ) × reduction any f ne ((ds ++ x ∷ []) ++ rest) (Fail r) m
    unfolding whole
    next_fails zero r n y = elim y [ ]
    next_fails (suc i) r n y = (h.count + 0 + n, reduced any ((ds ++ x ∷ []) ++ rest) whole (Fail r) (h.count + 0 + n) over_all few_all (stops_left (both h.gives exact y)))

    pub next_wrong : (i : ℕ) (n : ℕ) → next_of i f acc x Wrong n → (m : ℕ) × reduction any f ne ((ds ++ x ∷ []) ++ rest) Wrong m
    unfolding whole
    next_wrong zero n y = elim y [ ]
    next_wrong (suc i) n y = (h.count + 0 + n, reduced any ((ds ++ x ∷ []) ++ rest) whole Wrong (h.count + 0 + n) over_all few_all (sticks_left (both h.gives exact y)))

  -- and on a list that ends there
  module _ (ds : List Datum) (acc x : Datum) (h : Folded f ne ds acc) where
    last_fails : (i : ℕ) (r : Report) (n : ℕ) → next_of i f acc x (Fail r) n → (m : ℕ) × reduction false f ne (ds ++ x ∷ []) (Fail r) m
    last_fails i r n y = let z = next_fails false ds acc x [] h i r n y in (z.0, subst (λ w. reduction false f ne w (Fail r) z.0) (append-nil (ds ++ x ∷ [])) z.1)

    last_wrong : (i : ℕ) (n : ℕ) → next_of i f acc x Wrong n → (m : ℕ) × reduction false f ne (ds ++ x ∷ []) Wrong m
    last_wrong i n y = let z = next_wrong false ds acc x [] h i n y in (z.0, subst (λ w. reduction false f ne w Wrong z.0) (append-nil (ds ++ x ∷ [])) z.1)

-- ---- the fold

pub data Folding (f : Applied) (ne : Datum) (all done : List Datum) (acc : Datum) (n : ℕ) (t0 t s0 s : List Component) : Type 0 where
  folding : s ≡ s0 → Kept n t0 t → Folded f ne done acc → Folding f ne all done acc n t0 t s0 s
  fold_gone : ((any : Bool) → (m : ℕ) × reduction any f ne all Wrong m) → Folding f ne all done acc n t0 t s0 s

unfoldable pub Fold_goes : ℕ → Body → List ℕ → (ne d : Datum) → ℕ → Datum → (t0 t s0 s : List Component) → Type 0
Fold_goes budget b xs ne d i acc t0 t s0 s =
    (env : Names Component) (n mid last : ℕ) → Stands env n t0 → Upward n xs mid → Body_numbered mid b last → last ≤ length t0
    → Folding (applies budget b xs env) ne (rows_in d) (take i (rows_in d)) acc n t0 t s0 s

module _ (budget : ℕ) (b : Body) (xs : List ℕ) (d : Datum) where
  pub fold_memory : (ne : Datum) (t t' s s' : List Component) → Fold_runs budget b xs ne d t t' s s' (Err Memory)
  unfolding Fold_runs
  fold_memory ne t t' s s' any env n mid last st u nb l = gave_memory

  pub fold_start : (ne c : Data) (t s : List Component) → Copied ne (Ok c) → Fold_goes budget b xs (held ne) d 0 (held c) t t s s
  unfolding Fold_goes
  fold_start ne c t s (copied q) env n mid last st u nb l = folding refl (kept_same n t) (subst (λ z. Folded (applies budget b xs env) (held ne) [] z) (sym q) (folded_none (applies budget b xs env) (held ne)))

  pub fold_no_copy : (ne : Data) (t s : List Component) (e : Stop) → Copied ne (Err e) → Fold_runs budget b xs (held ne) d t t s s (Err e)
  fold_no_copy ne t s _ not_copied = fold_memory (held ne) t t s s

  module _ (ne : Datum) (i : ℕ) (acc : Datum) (t0 t s0 s : List Component) (h : Fold_goes budget b xs ne d i acc t0 t s0 s) where
    pub fold_no_row : (e : Stop) → Row_is d i (Err e) → Fold_runs budget b xs ne d t0 t s0 s (Err e)
    fold_no_row _ no_memory_row = fold_memory ne t0 t s0 s

    module _ (x : Datum) (t1 s1 : List Component) (g : Row_is d i (Ok x)) where
      pub fold_stop : (e : Stop) → Next_runs budget b xs i acc x t t1 s s1 (Err e) → Fold_runs budget b xs ne d t0 t1 s0 s1 (Err e)
      unfolding Fold_goes Next_runs Fold_runs
      fold_stop e a any env n mid last st u nb l = by_get g
        where
          F : Applied
          F = applies budget b xs env

          by_next : {e : Stop} → slice_get (rows_in d) i ≡ Some x → Folded F ne (take i (rows_in d)) acc → Gives (next_of i F acc x) n t t1 s s1 (Err e) → Gives (reduction any F ne (rows_in d)) n t0 t1 s0 s1 (Err e)
          by_next k w (gave_failure {r} c y) = let z = next_fails F ne any (take i (rows_in d)) acc x (drop (suc i) (rows_in d)) w i r c y in gave_failure z.0 (subst (λ v. reduction any F ne v (Fail r) z.0) (sym (cut_at (rows_in d) i x k)) z.1)
          by_next k w gave_memory = gave_memory
          by_next k w (gave_wrong c y) = let z = next_wrong F ne any (take i (rows_in d)) acc x (drop (suc i) (rows_in d)) w i c y in gave_wrong z.0 (subst (λ v. reduction any F ne v Wrong z.0) (sym (cut_at (rows_in d) i x k)) z.1)

          by_folding : slice_get (rows_in d) i ≡ Some x → Folding F ne (rows_in d) (take i (rows_in d)) acc n t0 t s0 s → Gives (reduction any F ne (rows_in d)) n t0 t1 s0 s1 (Err e)
          by_folding k (folding q w v) = by_next k v (a env n mid last (stands_kept env n t0 t st w) u nb (let z = w.long in omega arith))
          by_folding k (fold_gone y) = let z = y any in gave_wrong z.0 z.1

          by_get : Row_is d i (Ok x) → Gives (reduction any F ne (rows_in d)) n t0 t1 s0 s1 (Err e)
          by_get (row_is k) = by_folding k (h env n mid last st u nb l)

      pub fold_more : (v : Datum) → Next_runs budget b xs i acc x t t1 s s1 (Ok v) → Fold_goes budget b xs ne d (i + 1) v t0 t1 s0 s1
      unfolding Fold_goes Next_runs
      fold_more v a env n mid last st u nb l = subst (λ z. Folding (applies budget b xs env) ne (rows_in d) (take z (rows_in d)) v n t0 t1 s0 s1) (sym (add-one i)) (by_get g)
        where
          F : Applied
          F = applies budget b xs env

          by_next : slice_get (rows_in d) i ≡ Some x → s ≡ s0 → Kept n t0 t → Folded F ne (take i (rows_in d)) acc → Gives (next_of i F acc x) n t t1 s s1 (Ok v) → Folding F ne (rows_in d) (take (suc i) (rows_in d)) v n t0 t1 s0 s1
          by_next k q w f (gave c y kr qr) = folding (qr ∙ q) (kept_trans n t0 t t1 w kr) (subst (λ z. Folded F ne z v) (sym (take_row (rows_in d) i x k)) (folded_next F ne i (take i (rows_in d)) acc x v c (taken_long (rows_in d) i x k) f y))
          by_next k q w f (gave_wrong c y) = fold_gone (λ any. let z = next_wrong F ne any (take i (rows_in d)) acc x (drop (suc i) (rows_in d)) f i c y in (z.0, subst (λ v. reduction any F ne v Wrong z.0) (sym (cut_at (rows_in d) i x k)) z.1))

          by_folding : slice_get (rows_in d) i ≡ Some x → Folding F ne (rows_in d) (take i (rows_in d)) acc n t0 t s0 s → Folding F ne (rows_in d) (take (suc i) (rows_in d)) v n t0 t1 s0 s1
          by_folding k (folding q w f) = by_next k q w f (a env n mid last (stands_kept env n t0 t st w) u nb (let z = w.long in omega arith))
          by_folding k (fold_gone y) = fold_gone y

          by_get : Row_is d i (Ok x) → Folding F ne (rows_in d) (take (suc i) (rows_in d)) v n t0 t1 s0 s1
          by_get (row_is k) = by_folding k (h env n mid last st u nb l)

    pub fold_end : (n : ℕ) → Counts d (Ok n) → n ≤ i → Fold_runs budget b xs ne d t0 t s0 s (Ok acc)
    unfolding Fold_goes Fold_runs
    fold_end n (counts p q) m any env k mid last st u nb l = by_folding (h env k mid last st u nb l)
      where
        F : Applied
        F = applies budget b xs env

        by_folding : Folding F ne (rows_in d) (take i (rows_in d)) acc k t0 t s0 s → Gives (reduction any F ne (rows_in d)) k t0 t s0 s (Ok acc)
        by_folding (folding e w f) = let g : Folded F ne (rows_in d) acc = subst (λ z. Folded F ne z acc) (take_all i (rows_in d) (omega arith)) f in gave g.count (fold_value F ne any (rows_in d) acc g) w e
        by_folding (fold_gone y) = let z = y any in gave_wrong z.0 z.1

pub ruleset folds = (fold_memory, fold_start, fold_no_copy, fold_no_row, fold_stop, fold_more, fold_end)

-- ---- what each prefix comes to

abbrev prefix_values : Applied → Datum → List (List Datum) → Rel (List Datum)
prefix_values f ne ps = all_of (reduction false f ne) ps

-- what is left, where these values are there
abbrev values_left : Applied → Datum → List (List Datum) → List Datum → Rel (List Datum)
values_left f ne ps es = Then (prefix_values f ne ps) (λ ys. gives 0 (es ++ ys))

module _ (f : Applied) (ne : Datum) (p : List Datum) (ps : List (List Datum)) (es : List Datum) where
  prefix_fails : (r : Report) (n : ℕ) → reduction false f ne p (Fail r) n → values_left f ne (p ∷ ps) es (Fail r) n
  prefix_fails r n h = stops (stops_left h)

  prefix_wrong : (n : ℕ) → reduction false f ne p Wrong n → values_left f ne (p ∷ ps) es Wrong n
  prefix_wrong n h = sticks (sticks_left h)

  prefix_more : (d : Datum) (n : ℕ) → reduction false f ne p (Val d) n → Leads (values_left f ne (p ∷ ps) es) (values_left f ne ps (es ++ d ∷ []))
  prefix_more d n h o g x = by_left o g x
    where
      by_end : (a : List Datum) (o : Out (List Datum)) (c e : ℕ) → prefix_values f ne ps (Val a) c → gives 0 ((es ++ d ∷ []) ++ a) o e → (k : ℕ) × values_left f ne (p ∷ ps) es o k
      by_end a _ c _ q exact = (n + c + 0 + 0, subst (λ z. values_left f ne (p ∷ ps) es (Val z) (n + c + 0 + 0)) (sym (append_assoc es (d ∷ []) a)) (goes_on (both h q exact) exact))

      by_left : (o : Out (List Datum)) (g : ℕ) → values_left f ne ps (es ++ d ∷ []) o g → (k : ℕ) × values_left f ne (p ∷ ps) es o k
      by_left o _ (goes_on {a} {f = c} {g = e} q y) = by_end a o c e q y
      by_left _ _ (stops {f = c} q) = (c, stops (stops_right q))
      by_left _ _ (sticks {f = c} q) = (c, sticks (sticks_right q))

all_values_left : (f : Applied) (ne : Datum) (ps : List (List Datum)) → Leads (prefix_values f ne ps) (values_left f ne ps [])
all_values_left F ne ps o g x = by_left o g x
  where
    by_end : (a : List Datum) (o : Out (List Datum)) (c e : ℕ) → prefix_values F ne ps (Val a) c → gives 0 ([] ++ a) o e → (k : ℕ) × prefix_values F ne ps o k
    by_end a _ c _ q exact = (c, q)

    by_left : (o : Out (List Datum)) (g : ℕ) → values_left F ne ps [] o g → (k : ℕ) × prefix_values F ne ps o k
    by_left o _ (goes_on {a} {f = c} {g = e} q y) = by_end a o c e q y
    by_left _ _ (stops {f = c} q) = (c, q)
    by_left _ _ (sticks {f = c} q) = (c, q)

no_values_left : (f : Applied) (ne : Datum) (es : List Datum) → values_left f ne [] es (Val es) 0
no_values_left f ne es = subst (λ z. values_left f ne [] es (Val z) 0) (append-nil es) (goes_on exact exact)

pub data Scanning (f : Applied) (ne : Datum) (all done left : List Datum) (acc : Datum) (es : List Datum) (n : ℕ) (t0 t s0 s : List Component) : Type 0 where
  scanning : s ≡ s0 → Kept n t0 t → Folded f ne done acc → Leads (prefix_values f ne (prefixes_on [] all)) (values_left f ne (prefixes_on done left) es) → Scanning f ne all done left acc es n t0 t s0 s
  scan_gone : (m : ℕ) → prefix_values f ne (prefixes_on [] all) Wrong m → Scanning f ne all done left acc es n t0 t s0 s

unfoldable pub Scan_goes : ℕ → Body → List ℕ → (ne d : Datum) → ℕ → Datum → List Datum → (t0 t s0 s : List Component) → Type 0
Scan_goes budget b xs ne d i acc es t0 t s0 s =
    (env : Names Component) (n mid last : ℕ) → Stands env n t0 → Upward n xs mid → Body_numbered mid b last → last ≤ length t0
    → Scanning (applies budget b xs env) ne (rows_in d) (take i (rows_in d)) (drop i (rows_in d)) acc es n t0 t s0 s

module _ (budget : ℕ) (b : Body) (xs : List ℕ) (d : Datum) where
  pub scan_memory : (ne : Datum) (t t' s s' : List Component) → Scan_runs budget b xs ne d t t' s s' (Err Memory)
  unfolding Scan_runs
  scan_memory ne t t' s s' env n mid last st u nb l = gave_memory

  pub scan_start : (ne c : Data) (es : List Datum) (t s : List Component) → Copied ne (Ok c) → es ≡ [] → Scan_goes budget b xs (held ne) d 0 (held c) es t t s s
  unfolding Scan_goes
  scan_start ne c es t s (copied q) e env n mid last st u nb l =
      scanning refl (kept_same n t) (subst (λ z. Folded (applies budget b xs env) (held ne) [] z) (sym q) (folded_none (applies budget b xs env) (held ne)))
      (subst (λ z. Leads (prefix_values (applies budget b xs env) (held ne) (prefixes_on [] (rows_in d))) (values_left (applies budget b xs env) (held ne) (prefixes_on [] (rows_in d)) z)) (sym e) (all_values_left (applies budget b xs env) (held ne) (prefixes_on [] (rows_in d))))

  pub scan_no_copy : (c : Data) (ne : Datum) (t0 t s0 s : List Component) (e : Stop) → Copied c (Err e) → Scan_runs budget b xs ne d t0 t s0 s (Err e)
  scan_no_copy c ne t0 t s0 s _ not_copied = scan_memory ne t0 t s0 s

  pub scan_full : (v : Datum) (es es' : List Datum) (ne : Datum) (t0 t s0 s : List Component) (e : Stop) → Added v es es' (Err e) → Scan_runs budget b xs ne d t0 t s0 s (Err e)
  scan_full v es es' ne t0 t s0 s _ not_added = scan_memory ne t0 t s0 s

  module _ (ne : Datum) (i : ℕ) (acc : Datum) (es : List Datum) (t0 t s0 s : List Component) (h : Scan_goes budget b xs ne d i acc es t0 t s0 s) where
    pub scan_no_row : (e : Stop) → Row_is d i (Err e) → Scan_runs budget b xs ne d t0 t s0 s (Err e)
    scan_no_row _ no_memory_row = scan_memory ne t0 t s0 s

    module _ (x : Datum) (t1 s1 : List Component) (g : Row_is d i (Ok x)) where
      pub scan_stop : (e : Stop) → Next_runs budget b xs i acc x t t1 s s1 (Err e) → Scan_runs budget b xs ne d t0 t1 s0 s1 (Err e)
      unfolding Scan_goes Next_runs Scan_runs
      scan_stop e a env n mid last st u nb l = by_get g
        where
          F : Applied
          F = applies budget b xs env

          W : Rel (List Datum)
          W = prefix_values F ne (prefixes_on [] (rows_in d))

          by_next : {e : Stop} → Leads W (values_left F ne ((take i (rows_in d) ++ x ∷ []) ∷ prefixes_on (take i (rows_in d) ++ x ∷ []) (drop (suc i) (rows_in d))) es) → Folded F ne (take i (rows_in d)) acc → Gives (next_of i F acc x) n t t1 s s1 (Err e) → Gives W n t0 t1 s0 s1 (Err e)
          by_next k w (gave_failure {r} c y) =
              let z = last_fails F ne (take i (rows_in d)) acc x w i r c y in
              let q = k (Fail r) z.0 (prefix_fails F ne (take i (rows_in d) ++ x ∷ []) (prefixes_on (take i (rows_in d) ++ x ∷ []) (drop (suc i) (rows_in d))) es r z.0 z.1) in
              gave_failure q.0 q.1
          by_next k w gave_memory = gave_memory
          by_next k w (gave_wrong c y) =
              let z = last_wrong F ne (take i (rows_in d)) acc x w i c y in
              let q = k Wrong z.0 (prefix_wrong F ne (take i (rows_in d) ++ x ∷ []) (prefixes_on (take i (rows_in d) ++ x ∷ []) (drop (suc i) (rows_in d))) es z.0 z.1) in
              gave_wrong q.0 q.1

          by_scanning : slice_get (rows_in d) i ≡ Some x → Scanning F ne (rows_in d) (take i (rows_in d)) (drop i (rows_in d)) acc es n t0 t s0 s → Gives W n t0 t1 s0 s1 (Err e)
          by_scanning k (scanning q w f v) = by_next (subst (λ z. Leads W (values_left F ne (prefixes_on (take i (rows_in d)) z) es)) (drop_row (rows_in d) i x k) v) f (a env n mid last (stands_kept env n t0 t st w) u nb (let z = w.long in omega arith))
          by_scanning k (scan_gone m y) = gave_wrong m y

          by_get : Row_is d i (Ok x) → Gives W n t0 t1 s0 s1 (Err e)
          by_get (row_is k) = by_scanning k (h env n mid last st u nb l)

      pub scan_more : (v c : Data) (es' : List Datum) → Next_runs budget b xs i acc x t t1 s s1 (Ok (held v)) → Copied v (Ok c) → Added (held c) es es' (Ok tt) → Scan_goes budget b xs ne d (i + 1) (held v) es' t0 t1 s0 s1
      unfolding Scan_goes Next_runs
      scan_more v c es' a (copied j) (added m) env n mid last st u nb l = subst (λ z. Scanning (applies budget b xs env) ne (rows_in d) (take z (rows_in d)) (drop z (rows_in d)) (held v) es' n t0 t1 s0 s1) (sym (add-one i)) (by_get g)
        where
          F : Applied
          F = applies budget b xs env

          W : Rel (List Datum)
          W = prefix_values F ne (prefixes_on [] (rows_in d))

          now_there : es' ≡ es ++ held v ∷ []
          now_there = m ∙ ap (λ z. es ++ z ∷ []) j

          after : slice_get (rows_in d) i ≡ Some x → Folded F ne (take i (rows_in d) ++ x ∷ []) (held v) → s1 ≡ s0 → Kept n t0 t1 → Leads W (values_left F ne (prefixes_on (take i (rows_in d) ++ x ∷ []) (drop (suc i) (rows_in d))) es') → Scanning F ne (rows_in d) (take (suc i) (rows_in d)) (drop (suc i) (rows_in d)) (held v) es' n t0 t1 s0 s1
          after k f q w y = scanning q w (subst (λ z. Folded F ne z (held v)) (sym (take_row (rows_in d) i x k)) f) (subst (λ z. Leads W (values_left F ne (prefixes_on z (drop (suc i) (rows_in d))) es')) (sym (take_row (rows_in d) i x k)) y)

          by_next : slice_get (rows_in d) i ≡ Some x → s ≡ s0 → Kept n t0 t → Folded F ne (take i (rows_in d)) acc → Leads W (values_left F ne ((take i (rows_in d) ++ x ∷ []) ∷ prefixes_on (take i (rows_in d) ++ x ∷ []) (drop (suc i) (rows_in d))) es) → Gives (next_of i F acc x) n t t1 s s1 (Ok (held v)) → Scanning F ne (rows_in d) (take (suc i) (rows_in d)) (drop (suc i) (rows_in d)) (held v) es' n t0 t1 s0 s1
          by_next k q w f y (gave o z kr qr) =
              let f' = folded_next F ne i (take i (rows_in d)) acc x (held v) o (taken_long (rows_in d) i x k) f z in
              after k f' (qr ∙ q) (kept_trans n t0 t t1 w kr)
              (subst (λ z. Leads W (values_left F ne (prefixes_on (take i (rows_in d) ++ x ∷ []) (drop (suc i) (rows_in d))) z)) (sym now_there)
              (leads_trans W (values_left F ne ((take i (rows_in d) ++ x ∷ []) ∷ prefixes_on (take i (rows_in d) ++ x ∷ []) (drop (suc i) (rows_in d))) es) (values_left F ne (prefixes_on (take i (rows_in d) ++ x ∷ []) (drop (suc i) (rows_in d))) (es ++ held v ∷ [])) y
              (prefix_more F ne (take i (rows_in d) ++ x ∷ []) (prefixes_on (take i (rows_in d) ++ x ∷ []) (drop (suc i) (rows_in d))) es (held v) f'.count (fold_value F ne false (take i (rows_in d) ++ x ∷ []) (held v) f'))))
          by_next k q w f y (gave_wrong o z) =
              let r = last_wrong F ne (take i (rows_in d)) acc x f i o z in
              let q = y Wrong r.0 (prefix_wrong F ne (take i (rows_in d) ++ x ∷ []) (prefixes_on (take i (rows_in d) ++ x ∷ []) (drop (suc i) (rows_in d))) es r.0 r.1) in
              scan_gone q.0 q.1

          by_scanning : slice_get (rows_in d) i ≡ Some x → Scanning F ne (rows_in d) (take i (rows_in d)) (drop i (rows_in d)) acc es n t0 t s0 s → Scanning F ne (rows_in d) (take (suc i) (rows_in d)) (drop (suc i) (rows_in d)) (held v) es' n t0 t1 s0 s1
          by_scanning k (scanning q w f y) = by_next k q w f (subst (λ z. Leads W (values_left F ne (prefixes_on (take i (rows_in d)) z) es)) (drop_row (rows_in d) i x k) y) (a env n mid last (stands_kept env n t0 t st w) u nb (let z = w.long in omega arith))
          by_scanning k (scan_gone o y) = scan_gone o y

          by_get : Row_is d i (Ok x) → Scanning F ne (rows_in d) (take (suc i) (rows_in d)) (drop (suc i) (rows_in d)) (held v) es' n t0 t1 s0 s1
          by_get (row_is k) = by_scanning k (h env n mid last st u nb l)

    pub scan_end : (n : ℕ) → Counts d (Ok n) → n ≤ i → Scan_runs budget b xs ne d t0 t s0 s (Ok es)
    unfolding Scan_goes Scan_runs
    scan_end n (counts p q) m env k mid last st u nb l = by_scanning (h env k mid last st u nb l)
      where
        F : Applied
        F = applies budget b xs env

        by_scanning : Scanning F ne (rows_in d) (take i (rows_in d)) (drop i (rows_in d)) acc es k t0 t s0 s → Gives (prefix_values F ne (prefixes_on [] (rows_in d))) k t0 t s0 s (Ok es)
        by_scanning (scanning e w f y) =
            let z = subst (λ z. Leads (prefix_values F ne (prefixes_on [] (rows_in d))) (values_left F ne (prefixes_on (take i (rows_in d)) z) es)) (drop_past (rows_in d) i (omega arith)) y (Val es) 0 (no_values_left F ne es) in
            gave z.0 z.1 w e
        by_scanning (scan_gone o y) = gave_wrong o y

pub ruleset scans = (scan_memory, scan_start, scan_no_copy, scan_full, scan_no_row, scan_stop, scan_more, scan_end)
