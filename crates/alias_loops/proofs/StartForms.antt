-- Where components begin, form by form.
use Rattle.std.proofs.Common.{◌≡◌, ◌≢◌, ℕ, zero, suc, ◌+◌, ◌<◌, ◌≤◌, List, [], ◌∷◌, ◌++◌, map, length, get_or, drop, min, Ok, Err, refl, sym, ap, ◌∙◌, subst, add-one, arith, append_assoc}
use Rattle.std.specs.Prelude.{Result, IfOk}
use Rattle.std.specs.Borrow.{Bor}
use Rattle.fut_ast.specs.Sorts.{Text}
use Rattle.fut_scalar.specs.declared.memory.NoMemory.{NoMemory}
use Rattle.fut_scalar.specs.declared.place.BindId.{BindId}
use Rattle.fut_scalar.specs.declared.place.Place.{Place}
use Rattle.fut_flat.specs.declared.act.Act.{Act}
use Rattle.fut_flat.specs.declared.exp.Exp.{Exp}
use Rattle.fut_flat.specs.declared.exp.Form.TheVariants as form
use Rattle.fut_flat.specs.declared.exp.Let.{Let as LetTree}
use Rattle.fut_flat.specs.declared.exp.Loop.{Loop as LoopTree}
use Rattle.fut_flat.specs.declared.pat.Pat.{Pat}
use Rattle.fut_flat.specs.declared.prim.Ref.{Ref}
use Rattle.fut_flat.specs.Erased.{lets, operation_of, term_of, terms, texts}
use Rattle.fut_flat.specs.Numbers.{numbers}
use Rattle.fut_flat.specs.Terms.{Record_of, Strict, Terms, Tuple_of}
use Rattle.fut_flat.proofs.ErasedForms.{loop_is, row_of, term_apply, term_if, term_lambda, term_lets, term_loop, term_strict, term_use}
use Rattle.fut_types.specs.declared.Head.{Head}
use Rattle.fut_types.specs.declared.Head.TheVariants as head
use Rattle.fut_typing.specs.Names.{Names}
use Rattle.fut_aliases.specs.Aliases.{Set}
use Rattle.fut_aliases.specs.Loops.{all_starts, each_at, fields_start, in_order, starts}
use Rattle.fut_aliases.specs.Values.{Value, Parts, Values, components, count, part_named}
use Rattle.alias_values.specs.declared.trees.ValueTree.{ValueTree}
use Rattle.alias_values.specs.Trees.{value_of, values, values_of}
use Rattle.alias_values.proofs.Rows.{one_more, values_at}
use Rattle.alias_loops.specs.declared.labels.Labelled.{Labelled}
use Rattle.alias_loops.specs.declared.written.Written.{Written}
use Rattle.alias_loops.specs.declared.written.Written.TheVariants as written
use Rattle.alias_loops.specs.Labels.{labelled_of}
use Rattle.alias_loops.specs.Written.{IsWritten}
use Rattle.alias_loops.proofs.Dropping.{made_all, one_made, some_left}

-- an answer that is also this
pub also : {A : Type 0} {P Q : A → Type 0} (r : Result A NoMemory) → ((x : A) → P x → Q x) → IfOk r P → IfOk r Q
also (Ok x) f h = f x h
also (Err e) f h = tt

-- ---- all at one node

abbrev pub repeated : ℕ → ℕ → List ℕ
repeated n zero = []
repeated n (suc k) = n ∷ repeated n k

pub repeated_more : (n i : ℕ) (made longer : List ℕ) → made ≡ repeated n i → longer ≡ made ++ n ∷ [] → longer ≡ repeated n (i + 1)
repeated_more n i made longer h e = e ∙ ap (λ z. z ++ n ∷ []) h ∙ one_behind i ∙ ap (repeated n) (sym (add-one i))
  where
    one_behind : (k : ℕ) → repeated n k ++ n ∷ [] ≡ repeated n (suc k)
    one_behind zero = refl
    one_behind (suc k) = ap (λ z. n ∷ z) (one_behind k)

pub repeated_all : (n i k : ℕ) (ss : List Set) (made all : List ℕ) → made ≡ repeated n i → k ≡ 0 + count ss → i ≤ k → k ≤ i → all ≡ made → all ≡ each_at n ss
repeated_all n i k ss made all h e l m a = let o : i ≡ count ss = omega (arith, e, l, m) in a ∙ h ∙ ap (repeated n) o ∙ each_of ss
  where
    each_of : (ss : List Set) → repeated n (count ss) ≡ each_at n ss
    each_of [] = refl
    each_of (s ∷ ss) = ap (λ z. n ∷ z) (each_of ss)

-- ---- parts of a tuple

module _ (N : Names) (es : List Exp) (vs : List ValueTree) (node : ℕ) where
  abbrev tuple_left : ℕ → ℕ → List ℕ
  tuple_left i next = all_starts N (terms (map term_of (drop i es))) next (values_of (drop i vs))

  abbrev pub Tupling : ℕ → ℕ → List ℕ → Type 0
  Tupling i next made = all_starts N (terms (map term_of es)) node (values_of vs) ≡ made ++ all_starts N (terms (map term_of (drop i es))) next (values_of (drop i vs))

  pub tuple_more : (i next later : ℕ) (d : Exp) (v : ValueTree) (made longer nodes : List ℕ) → i < length es → i < length vs → Tupling i next made → nodes ≡ starts N (term_of (get_or es i d)) next (value_of (get_or vs i v)) → longer ≡ made ++ nodes → later ≡ next + numbers (term_of (get_or es i d)) → Tupling (i + 1) later longer
  unfolding all_starts terms
  tuple_more i next later d v made longer nodes l m h e g k =
      h ∙ ap (λ z. made ++ z) (ap (λ z. all_starts N (terms (map term_of z)) next (values_of (drop i vs))) (one_more es i d l) ∙ ap (all_starts N (terms (map term_of (get_or es i d ∷ drop (i + 1) es))) next) (values_at vs i v m)
      ∙ ap (λ z. z ++ tuple_left (i + 1) (next + numbers (term_of (get_or es i d)))) (sym e) ∙ ap (λ z. nodes ++ tuple_left (i + 1) z) (sym k))
      ∙ sym (append_assoc made nodes (tuple_left (i + 1) later)) ∙ ap (λ z. z ++ tuple_left (i + 1) later) (sym g)

  nothing_behind : (xs : List ℕ) → xs ++ [] ≡ xs
  nothing_behind [] = refl
  nothing_behind (x ∷ xs) = ap (λ z. x ∷ z) (nothing_behind xs)

  pub tuple_end : (n i next : ℕ) (made all : List ℕ) → n ≡ min (length es) (length vs) → i ≤ n → n ≤ i → all ≡ made → Tupling i next made → all ≡ all_starts N (terms (map term_of es)) node (values_of vs)
  unfolding all_starts terms values_of values
  tuple_end n i next made all e l m a h = let o : i ≡ n = omega (arith, l, m) in a ∙ sym (h ∙ ap (λ z. made ++ z) (ap (λ k. tuple_left k next) o ∙ by_lists (drop n es) (drop n vs) refl refl) ∙ nothing_behind made)
    where
      by_lists : (a : List Exp) (b : List ValueTree) → a ≡ drop n es → b ≡ drop n vs → all_starts N (terms (map term_of a)) next (values_of b) ≡ []
      by_lists [] b p q = refl
      by_lists (x ∷ a) [] p q = refl
      by_lists (x ∷ a) (y ∷ b) p q = absurd (omega (arith, e, some_left es a n x p, some_left vs b n y q))

-- ---- parts of a record

module _ (N : Names) (fs : List (Bor Text)) (es : List Exp) (node : ℕ) (v : Value) where
  abbrev fields_left : ℕ → ℕ → List (ℕ × List ℕ)
  fields_left i next = fields_start N (texts (drop i fs)) (terms (map term_of (drop i es))) next v

  abbrev pub Fielding : ℕ → ℕ → List Labelled → Type 0
  Fielding i next made = fields_start N (texts fs) (terms (map term_of es)) node v ≡ labelled_of made ++ fields_start N (texts (drop i fs)) (terms (map term_of (drop i es))) next v

  pub field_more : (i next later label : ℕ) (f : Bor Text) (d : Exp) (w : Value) (made longer : List Labelled) (x : Labelled) → i < length fs → i < length es → Fielding i next made
      → N.label (get_or fs i f).now ≡ label → w ≡ part_named N (get_or fs i f).now v → x.label ≡ label → x.nodes.now ≡ starts N (term_of (get_or es i d)) next w → longer ≡ made ++ x ∷ [] → later ≡ next + numbers (term_of (get_or es i d)) → Fielding (i + 1) later longer
  unfolding fields_start terms
  field_more i next later label f d w made longer x l m h n p y e g k =
      h ∙ ap (λ z. labelled_of made ++ z) (ap (λ z. fields_start N (texts z) (terms (map term_of (drop i es))) next v) (one_more fs i f l) ∙ ap (λ z. fields_start N (texts (get_or fs i f ∷ drop (i + 1) fs)) (terms (map term_of z)) next v) (one_more es i d m)
      ∙ ap (λ z. (N.label (get_or fs i f).now, starts N (term_of (get_or es i d)) next (part_named N (get_or fs i f).now v)) ∷ fields_left (i + 1) z) (sym k))
      ∙ one_made (λ (z : Labelled). (z.label, z.nodes.now)) made longer x (N.label (get_or fs i f).now, starts N (term_of (get_or es i d)) next (part_named N (get_or fs i f).now v)) (fields_left (i + 1) later) g
      (ap (λ z. (z, x.nodes.now)) (y ∙ sym n) ∙ ap (λ z. (N.label (get_or fs i f).now, z)) (e ∙ ap (starts N (term_of (get_or es i d)) next) p))

  pub field_end : (n i next : ℕ) (made : List Labelled) → n ≡ min (length es) (length fs) → i ≤ n → n ≤ i → Fielding i next made → labelled_of made ≡ fields_start N (texts fs) (terms (map term_of es)) node v
  unfolding fields_start terms
  field_end n i next made e l m h = let o : i ≡ n = omega (arith, l, m) in sym (h ∙ made_all (λ (z : Labelled). (z.label, z.nodes.now)) made (fields_left i next) (ap (λ k. fields_left k next) o ∙ by_lists (drop n fs) (drop n es) refl refl))
    where
      by_lists : (a : List (Bor Text)) (b : List Exp) → a ≡ drop n fs → b ≡ drop n es → fields_start N (texts a) (terms (map term_of b)) next v ≡ []
      by_lists [] b p q = refl
      by_lists (x ∷ a) [] p q = refl
      by_lists (x ∷ a) (y ∷ b) p q = absurd (omega (arith, e, some_left fs a n x p, some_left es b n y q))

-- ---- operations

module _ (N : Names) (a : Act) (mark : Place) (ts : Terms Ref BindId) (node : ℕ) (v : Value) (w : Written) where
  pub as_tuple : (vs : Bor (List ValueTree)) (first : ℕ) (nodes : List ℕ) → IsWritten a v w → w ≡ written.Tuple vs → first ≡ node + 1 → nodes ≡ all_starts N ts first (values_of vs.now) → nodes ≡ starts N (Strict (operation_of a) mark ts) node v
  unfolding starts
  as_tuple vs first nodes i e f h = by_parts (subst (IsWritten a v) e i)
    where
      by_parts : (k : Head) × (operation_of a ≡ Tuple_of) × (v ≡ Parts k (values_of vs.now)) → nodes ≡ starts N (Strict (operation_of a) mark ts) node v
      by_parts (k, o, p) = let q : first ≡ 1 + node = omega (arith, f) in
          h ∙ ap (λ z. all_starts N ts z (values_of vs.now)) q ∙ sym (ap (λ z. starts N (Strict z mark ts) node v) o ∙ ap (λ z. starts N (Strict Tuple_of mark ts) node z) p)

  pub as_record : (fs : Bor (List (Bor Text))) (n first : ℕ) (labels nodes : List ℕ) (rows : List Labelled) → IsWritten a v w → w ≡ written.Record fs n → first ≡ node + 1 → labels ≡ N.shapes.fields n → labelled_of rows ≡ fields_start N (texts fs.now) ts first v → nodes ≡ in_order labels (labelled_of rows)
      → nodes ≡ starts N (Strict (operation_of a) mark ts) node v
  unfolding starts
  as_record fs n first labels nodes rows i e f l r h = by_parts (subst (IsWritten a v) e i)
    where
      by_parts : (vs : Values) × (operation_of a ≡ Record_of (texts fs.now)) × (v ≡ Parts (head.Record n) vs) → nodes ≡ starts N (Strict (operation_of a) mark ts) node v
      by_parts (vs, o, p) = let q : first ≡ 1 + node = omega (arith, f) in
          h ∙ ap (λ z. in_order z (labelled_of rows)) l ∙ ap (in_order (N.shapes.fields n)) (r ∙ ap (λ z. fields_start N (texts fs.now) ts z v) q ∙ ap (fields_start N (texts fs.now) ts (1 + node)) p)
          ∙ sym (ap (λ z. starts N (Strict z mark ts) node v) o ∙ ap (λ z. starts N (Strict (Record_of (texts fs.now)) mark ts) node z) p)

  pub as_other : (nodes : List ℕ) → IsWritten a v w → w ≡ written.Other → nodes ≡ each_at node (components v) → nodes ≡ starts N (Strict (operation_of a) mark ts) node v
  as_other nodes i e h = h ∙ sym (subst (IsWritten a v) e i N mark ts node)

-- ---- terms

module _ (N : Names) (e : Exp) (node : ℕ) (v : Value) (nodes : List ℕ) where
  pub form_strict : (a : Act) (mark : Place) (es : Bor (List Exp)) → e.form ≡ form.Strict a mark es → nodes ≡ starts N (Strict (operation_of a) mark (terms (map term_of es.now))) node v → nodes ≡ starts N (term_of e) node v
  form_strict a mark es is h = h ∙ sym (ap (λ z. starts N z node v) (term_strict e a mark es is))

  pub form_no_let : (ls : Bor (List LetTree)) (b : Bor Exp) → e.form ≡ form.Lets ls b → length ls.now ≡ 0 → nodes ≡ starts N (term_of b.now) node v → nodes ≡ starts N (term_of e) node v
  unfolding lets
  form_no_let ls b is l h = h ∙ sym (ap (λ z. starts N z node v) (term_lets e ls b is) ∙ by_list ls.now l)
    where
      by_list : (xs : List LetTree) → length xs ≡ 0 → starts N (lets (map row_of xs) (term_of b.now)) node v ≡ starts N (term_of b.now) node v
      by_list [] l = refl
      by_list (x ∷ xs) l = absurd (omega (arith, l))

  module _ (each : nodes ≡ each_at node (components v)) where
    pub form_lets : (ls : Bor (List LetTree)) (b : Bor Exp) → e.form ≡ form.Lets ls b → length ls.now ≢ 0 → nodes ≡ starts N (term_of e) node v
    unfolding lets starts
    form_lets ls b is l = each ∙ sym (ap (λ z. starts N z node v) (term_lets e ls b is) ∙ by_list ls.now l)
      where
        by_list : (xs : List LetTree) → length xs ≢ 0 → starts N (lets (map row_of xs) (term_of b.now)) node v ≡ each_at node (components v)
        by_list [] l = absurd (l refl)
        by_list (x ∷ xs) l = refl

    pub form_use : (r : Ref) (k : ℕ) → e.form ≡ form.Use r k → nodes ≡ starts N (term_of e) node v
    unfolding starts
    form_use r k is = each ∙ sym (ap (λ z. starts N z node v) (term_use e r k is))

    pub form_lambda : (ps : Bor (List Pat)) (b : Bor Exp) → e.form ≡ form.Lambda ps b → nodes ≡ starts N (term_of e) node v
    unfolding starts
    form_lambda ps b is = each ∙ sym (ap (λ z. starts N z node v) (term_lambda e ps b is))

    pub form_apply : (f x : Bor Exp) → e.form ≡ form.Apply f x → nodes ≡ starts N (term_of e) node v
    unfolding starts
    form_apply f x is = each ∙ sym (ap (λ z. starts N z node v) (term_apply e f x is))

    pub form_if : (c a b : Bor Exp) → e.form ≡ form.If c a b → nodes ≡ starts N (term_of e) node v
    unfolding starts
    form_if c a b is = each ∙ sym (ap (λ z. starts N z node v) (term_if e c a b is))

    pub form_loop : (l : Bor LoopTree) → e.form ≡ form.Loop l → nodes ≡ starts N (term_of e) node v
    unfolding starts
    form_loop l is = each ∙ sym (ap (λ z. starts N z node v) (term_loop e l is ∙ loop_is l.now))
