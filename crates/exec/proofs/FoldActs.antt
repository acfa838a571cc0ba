-- Loops over rows and reductions, by what the turns for their rows do.
use Rattle.std.proofs.Common.{◌≡◌, ℕ, ◌+◌, ◌≤◌, List, [], ◌∷◌, ◌++◌, length, map, true, false, Bor, Ok, Err, refl, sym, ap, ◌∙◌, subst, arith, append_assoc}
use Rattle.std.proofs.lemmas.List.{append-nil}
use Rattle.fut_scalar.specs.declared.place.Place.{Place}
use Rattle.fut_scalar.specs.declared.report.Report.{Report}
use Rattle.fut_meaning.specs.Outcomes.{Out, Val, Fail, Wrong, and_then, Rel, exact, gives, the, Then, goes_on, stops, sticks, both, stops_left, sticks_left, turns, Tree, element, neutral, node, elements, neutrals, tree_gives, Bracket, bracket}
use Rattle.core_ir.specs.declared.block.Var.{Var}
use Rattle.core_ir.specs.declared.block.Atom.{Atom}
use Rattle.core_ir.specs.declared.block.Rows.{Rows}
use Rattle.core_ir.specs.declared.block.Block.{Block}
use Rattle.core_ir.specs.declared.block.Operator.{Operator, out-Operator}
use Rattle.core_ir.specs.declared.block.Op.{Op}
use Rattle.core_ir.specs.declared.block.Op.TheVariants as op
use Rattle.core_ir.specs.Bundles.{Row, rows_of, array_words}
use Rattle.core_ir.specs.Meaning.{Env, Results, values_of, row_turns, reduced, Reduction, reduction, act_means, function_means}
use Rattle.core_ir.specs.Numbered.{Act_numbered, Function_numbered}
use Rattle.core_ir.specs.Plain.{For_in, Reduce, Of_two, Body, Bundle, bundle_form, action_of, body_of}
use Rattle.core_ir.specs.Typed.{sort_of, with_vars, Rows_are, Operator_is, operator_is, for_in_gives, reduce_gives, Body_gives}
use Rattle.core_ir.proofs.Layers.{action_of-ForIn, action_of-Reduce, function_of-parts}
use Rattle.core_code.specs.Registers.{State, state, AllShow}
use Rattle.core_code.specs.Answers.{Answer, ReadAll, read_all, Reads_all, Runs, failed, no_memory}
use Rattle.core_code.specs.Runs.{body_runs, Act_runs}
use Rattle.core_code.specs.declared.stop.Stop.{Stop}
use Rattle.core_code.proofs.Frames.{the_is, Leads, leads_trans, leads_val, runs_in}
use Rattle.core_steps.specs.Rows.{BundleTold, bundle_told, bundle_failed, no_bundle, Bundle_counted}
use Rattle.exec.specs.Folds.{row_turn, Fold_runs}

-- ---- turns in order are a tree

module _ {A : Type 0} (R : A → A → Rel A) (ne : A) where
  abbrev on_left : Tree A → List A → Tree A
  on_left t [] = t
  on_left t (x ∷ xs) = on_left (node t (element x)) xs

  left_elements : (t : Tree A) (xs : List A) → elements (on_left t xs) ≡ elements t ++ xs
  left_elements t [] = sym (append-nil (elements t))
  left_elements t (x ∷ xs) = left_elements (node t (element x)) xs ∙ append_assoc (elements t) (x ∷ []) xs

  left_neutrals : (t : Tree A) (xs : List A) → neutrals (on_left t xs) ≡ neutrals t
  left_neutrals t [] = refl
  left_neutrals t (x ∷ xs) = let e : neutrals t + 0 ≡ neutrals t = omega arith in left_neutrals (node t (element x)) xs ∙ e

  left_fails : (t : Tree A) (xs : List A) (r : Report) (f : ℕ) → tree_gives R ne t (Fail r) f → tree_gives R ne (on_left t xs) (Fail r) f
  left_fails t [] r f h = h
  left_fails t (x ∷ xs) r f h = left_fails (node t (element x)) xs r f (stops_left h)

  left_sticks : (t : Tree A) (xs : List A) (f : ℕ) → tree_gives R ne t Wrong f → tree_gives R ne (on_left t xs) Wrong f
  left_sticks t [] f h = h
  left_sticks t (x ∷ xs) f h = left_sticks (node t (element x)) xs f (sticks_left h)

  left_gives : (xs : List A) (t : Tree A) (a : A) (e : ℕ) → tree_gives R ne t (Val a) e → (o : Out A) (f : ℕ) → turns (λ x c. R c x) xs a o f → (g : ℕ) × tree_gives R ne (on_left t xs) o g × (e + f ≤ g)
  left_gives [] t a e h _ _ exact = (e, h, omega arith)
  left_gives (x ∷ xs) t a e h _ _ (goes_on {a = c} {o = o} {f = f} {g = g} y k) =
      let z = left_gives xs (node t (element x)) c (e + 0 + f) (both h exact y) o g k in (z.0, z.1, omega (arith, z.2))
  left_gives (x ∷ xs) t a e h _ _ (stops {r = r} {f = f} y) = (e + 0 + f, left_fails (node t (element x)) xs r (e + 0 + f) (both h exact y), omega arith)
  left_gives (x ∷ xs) t a e h _ _ (sticks {f = f} y) = (e + 0 + f, left_sticks (node t (element x)) xs (e + 0 + f) (both h exact y), omega arith)

  pub turns_bracket : (xs : List A) (o : Out A) (f : ℕ) → turns (λ x c. R c x) xs ne o f → (g : ℕ) × Bracket true R ne xs o g × (f ≤ g)
  turns_bracket xs o f h =
      let z = left_gives xs neutral ne 0 exact o f h in
      (z.0, bracket (on_left neutral xs) (left_elements neutral xs) (omega (arith, left_neutrals neutral xs)) z.1, omega (arith, z.2))

reduction_leads : (R : Row → Row → Results) (ne : Row) (rows : List Row) → Leads 0 (Then (Reduction true false R ne rows) (λ row. gives (array_words row) row)) (turns (λ x c. R c x) rows ne)
reduction_leads R ne rows o f h = let z = turns_bracket R ne rows o f h in by_outcome o z.0 z.1 z.2
  where
    by_outcome : (o : Out Row) (g : ℕ) → Bracket true R ne rows o g → f ≤ g → (h : ℕ) × Then (Reduction true false R ne rows) (λ row. gives (array_words row) row) o h × (0 + f ≤ h)
    by_outcome (Val row) g b l = (g + array_words row, goes_on (reduction refl b) exact, omega (arith, l))
    by_outcome (Fail r) g b l = (g, stops (reduction refl b), omega (arith, l))
    by_outcome Wrong g b l = (g, sticks (reduction refl b), omega (arith, l))

-- ---- the rows of a bundle, and what is done with them

bundle_leads : (env : Env) (r : Bundle) (at : Place) (k : List Row → Results) (cs : Row) (rows : List Row) → values_of env r.arrays ≡ Val cs → rows_of false at r.width cs ≡ Val rows → Leads 0 (Then (the (and_then (values_of env r.arrays) (rows_of false at r.width))) k) (k rows)
bundle_leads env r at k cs rows v q = leads_val (and_then (values_of env r.arrays) (rows_of false at r.width)) k rows (ap (λ z. and_then z (rows_of false at r.width)) v ∙ q)

module _ (budget : ℕ) (at : Place) (us : List Atom) (r : Bundle) (S S' : State) (s1 : List ℕ) (mark : ℕ) (p : mark ≡ length S.stack) (h : Reads_all S.words us S.stack s1 (Ok tt)) where
  module _ (xs ys : List Var) (b : Body) where
    pub for_in_failed : (e : Stop) → Bundle_counted S.words S.arena.arrays r at (Err e) → Act_runs budget (For_in at xs us ys r b) S S' (Err e)
    unfolding Reads_all Bundle_counted Act_runs act_means Act_numbered
    for_in_failed e k G env _ n last st (for_in_gives a x gb) nb = by_first (h G env n S.arena.arrays (map sort_of xs) st a) (k G env n (map sort_of ys) st x)
      where
        by_first : {e : Stop} → ReadAll (values_of env us) S.arena.arrays (map sort_of xs) S.stack s1 (Ok tt) → BundleTold env r at (Err e) → Runs (Then (the (values_of env us)) (row_turns false at (body_runs budget b) xs ys env r)) (map sort_of xs) n S S' (Err e)
        by_first (read_all {cs} q sh w) (bundle_failed {s} ds v y) =
            let z = leads_val (values_of env us) (row_turns false at (body_runs budget b) xs ys env r) cs q (Fail s) 0 (stops (the_is (and_then (values_of env r.arrays) (rows_of false at r.width)) (Fail s) (ap (λ z. and_then z (rows_of false at r.width)) v ∙ y))) in
            failed z.0 z.1
        by_first (read_all q sh w) no_bundle = no_memory

    pub for_in_done : (count : ℕ) (a : Answer) → Bundle_counted S.words S.arena.arrays r at (Ok count) → Fold_runs budget b xs ys r count mark (state S.arena S.words s1) S' a → Act_runs budget (For_in at xs us ys r b) S S' a
    unfolding Reads_all Bundle_counted Fold_runs Act_runs act_means Act_numbered
    for_in_done count a k x G env _ n last st (for_in_gives ga rs gb) (mid, u, middle, w, nb) = by_first count refl (h G env n S.arena.arrays (map sort_of xs) st ga) (k G env n (map sort_of ys) st rs)
      where
        by_first : (c : ℕ) → c ≡ count → ReadAll (values_of env us) S.arena.arrays (map sort_of xs) S.stack s1 (Ok tt) → BundleTold env r at (Ok c) → Runs (Then (the (values_of env us)) (row_turns false at (body_runs budget b) xs ys env r)) (map sort_of xs) n S S' a
        by_first _ e (read_all {cs} {ws} q sh w1) (bundle_told ds rows v y) =
            runs_in (Then (the (values_of env us)) (row_turns false at (body_runs budget b) xs ys env r)) (turns (row_turn budget b xs ys env) rows cs) (map sort_of xs) n S S' a
            (leads_trans 0 0 (Then (the (values_of env us)) (row_turns false at (body_runs budget b) xs ys env r)) (row_turns false at (body_runs budget b) xs ys env r cs) (turns (row_turn budget b xs ys env) rows cs)
            (leads_val (values_of env us) (row_turns false at (body_runs budget b) xs ys env r) cs q)
            (bundle_leads env r at (λ rs. turns (row_turn budget b xs ys env) rs cs) ds rows v y))
            (x G env n S.stack cs rows
            (record { mid = mid; middle = middle; last = last; stands = st; rises = u; row_rises = w; bundle = rs; arrays = ds; values = v; at = at; read = y; typed = gb; numbered = nb })
            (record { ws = ws; stack = w1; long = sym p; shown = sh }) e)

    abbrev operator : Env → Row → Row → Results
    operator env = function_means true false budget (Of_two xs ys b) env

    pub reduce_failed : (e : Stop) → Bundle_counted S.words S.arena.arrays r at (Err e) → Act_runs budget (Reduce at us r (Of_two xs ys b)) S S' (Err e)
    unfolding Reads_all Bundle_counted Act_runs act_means Act_numbered
    reduce_failed e k G env ss n last st (reduce_gives a x go) nb = by_first (h G env n S.arena.arrays ss st a) (k G env n ss st x)
      where
        by_first : {e : Stop} → ReadAll (values_of env us) S.arena.arrays ss S.stack s1 (Ok tt) → BundleTold env r at (Err e) → Runs (reduced true false at us r env (operator env)) ss n S S' (Err e)
        by_first (read_all {cs} q sh w) (bundle_failed {s} ds v y) =
            failed 0 (goes_on (the_is (values_of env us) (Val cs) q) (goes_on (the_is (values_of env r.arrays) (Val ds) v) (stops (the_is (rows_of false at r.width ds) (Fail s) y))))
        by_first (read_all q sh w) no_bundle = no_memory

    pub reduce_done : (count : ℕ) (a : Answer) → Bundle_counted S.words S.arena.arrays r at (Ok count) → Fold_runs budget b xs ys r count mark (state S.arena S.words s1) S' a → Act_runs budget (Reduce at us r (Of_two xs ys b)) S S' a
    unfolding Reads_all Bundle_counted Fold_runs Act_runs act_means function_means Act_numbered Function_numbered
    reduce_done count a k x G env ss n last st (reduce_gives ga rs go) (mid, u, middle, w, nb) = by_operator go
      where
        by_row : List Row → Row → Results
        by_row rows ne = Then (Reduction true false (operator env) ne rows) (λ row. gives (array_words row) row)

        by_bundle : Row → Row → Results
        by_bundle ne bs = Then (the (rows_of false at r.width bs)) (λ rows. by_row rows ne)

        by_neutral : Row → Results
        by_neutral ne = Then (the (values_of env r.arrays)) (by_bundle ne)

        leads : (cs ds : Row) (rows : List Row) → values_of env us ≡ Val cs → values_of env r.arrays ≡ Val ds → rows_of false at r.width ds ≡ Val rows → Leads 0 (reduced true false at us r env (operator env)) (turns (row_turn budget b xs ys env) rows cs)
        leads cs ds rows q v y =
            leads_trans 0 0 (reduced true false at us r env (operator env)) (by_neutral cs) (turns (row_turn budget b xs ys env) rows cs) (leads_val (values_of env us) by_neutral cs q)
            (leads_trans 0 0 (by_neutral cs) (by_bundle cs ds) (turns (row_turn budget b xs ys env) rows cs) (leads_val (values_of env r.arrays) (by_bundle cs) ds v)
            (leads_trans 0 0 (by_bundle cs ds) (by_row rows cs) (turns (row_turn budget b xs ys env) rows cs) (leads_val (rows_of false at r.width ds) (λ rows. by_row rows cs) rows y)
            (reduction_leads (operator env) cs rows)))

        by_first : map sort_of xs ≡ ss → map sort_of ys ≡ ss → Body_gives (with_vars ys (with_vars xs G)) b ss → (c : ℕ) → c ≡ count → ReadAll (values_of env us) S.arena.arrays ss S.stack s1 (Ok tt) → BundleTold env r at (Ok c) → Runs (reduced true false at us r env (operator env)) ss n S S' a
        by_first ex ey gb _ e (read_all {cs} {ws} q sh w1) (bundle_told ds rows v y) =
            subst (λ z. Runs (reduced true false at us r env (operator env)) z n S S' a) ex
            (runs_in (reduced true false at us r env (operator env)) (turns (row_turn budget b xs ys env) rows cs) (map sort_of xs) n S S' a (leads cs ds rows q v y)
            (x G env n S.stack cs rows
            (record { mid = mid; middle = middle; last = last; stands = st; rises = u; row_rises = w; bundle = subst (Rows_are G r) (sym ey) rs; arrays = ds; values = v; at = at; read = y; typed = subst (Body_gives (with_vars ys (with_vars xs G)) b) (sym ex) gb; numbered = nb })
            (record { ws = ws; stack = w1; long = sym p; shown = subst (λ z. AllShow S.arena.arrays z cs ws) (sym ex) sh }) e))

        by_operator : Operator_is G (Of_two xs ys b) ss → Runs (reduced true false at us r env (operator env)) ss n S S' a
        by_operator (operator_is ex ey gb) = by_first ex ey gb count refl (h G env n S.arena.arrays ss st ga) (k G env n ss st rs)

-- ---- the same of operations as they lie in Core

module _ (budget : ℕ) (o : Op) (at : Place) (us : Bor (List Atom)) (r : Rows) (S S' : State) (a : Answer) where
  pub op_for_in : (xs ys : Bor (List Var)) (b : Bor Block) → o ≡ op.ForIn xs us ys r b → Act_runs budget (For_in at xs.now us.now ys.now (bundle_form r) (body_of b.now)) S S' a → Act_runs budget (action_of o at) S S' a
  op_for_in xs ys b e h = subst (λ z. Act_runs budget z S S' a) (sym (ap (λ z. action_of z at) e ∙ action_of-ForIn xs us ys r b at)) h

  pub op_reduce : (f : Operator) → o ≡ op.Reduce us r f → Act_runs budget (Reduce at us.now (bundle_form r) (Of_two (out-Operator f).left.now (out-Operator f).right.now (body_of (out-Operator f).body.now))) S S' a → Act_runs budget (action_of o at) S S' a
  op_reduce f e h = subst (λ z. Act_runs budget z S S' a) (sym (ap (λ z. action_of z at) e ∙ action_of-Reduce us r f at ∙ ap (Reduce at us.now (bundle_form r)) (function_of-parts f))) h
