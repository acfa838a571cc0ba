-- Tests of rows.
use Rattle.std.proofs.Common.{◌≡◌, ℕ, suc, ◌+◌, ◌<◌, ◌≤◌, List, [], ◌∷◌, ◌++◌, length, map, drop, slice_get, Bool, not, Some, Bor, Ok, Err, true, false, refl, sym, ap, ◌∙◌, subst, arith, add-one, append_assoc}
use Rattle.std.specs.Prelude.{◌==◌}
use Rattle.std.proofs.lemmas.List.{append-nil, length-append, length-map, map-append}
use Rattle.fut_scalar.specs.declared.place.Place.{Place}
use Rattle.fut_meaning.specs.Accessors.{or_wrong}
use Rattle.fut_meaning.specs.Outcomes.{Out, Val, Fail, Wrong, and_then, Rel, exact, gives, the, Then, goes_on, stops, each_of}
use Rattle.fut_meaning.specs.Sames.{All_same, all_none, all_more}
use Rattle.fut_blocks.specs.Numbered.{Upward}
use Rattle.core_arrays.specs.Arenas.{Array}
use Rattle.core_ir.specs.declared.block.Var.{Var}
use Rattle.core_ir.specs.declared.block.Atom.{Atom}
use Rattle.core_ir.specs.declared.block.Atom.TheVariants as atom
use Rattle.core_ir.specs.declared.block.Rows.{Rows}
use Rattle.core_ir.specs.declared.block.Block.{Block}
use Rattle.core_ir.specs.declared.block.Op.{Op}
use Rattle.core_ir.specs.declared.block.Op.TheVariants as op
use Rattle.core_ir.specs.Bundles.{Component, Row, size_of, of_width, across, rows_of, array_words}
use Rattle.core_ir.specs.Meaning.{Env, Results, number, value_of, values_of, holds, test_turn, tested, kept, act_means}
use Rattle.core_ir.specs.Numbered.{Act_numbered, Body_numbered}
use Rattle.core_ir.specs.Plain.{Filter, Of_rows, Body, Bundle, bundle_form, action_of, body_of}
use Rattle.core_ir.specs.Typed.{Sort, Sorts, sort_of, truth_sort, with_vars, lifted, Bundled, Atom_is, Atoms_are, Rows_are, Source_gives, rows_give, one_bundle, Body_gives, filter_gives}
use Rattle.core_ir.proofs.Layers.{action_of-Filter}
use Rattle.core_code.specs.Registers.{State, Shows, AllShow, none_shown, shown_and, Stands, Kept}
use Rattle.core_code.specs.Answers.{Answer, Runs, ran, failed, no_memory}
use Rattle.core_code.specs.Runs.{body_runs, Act_runs}
use Rattle.core_code.specs.declared.stop.Stop.{Stop}
use Rattle.core_code.specs.declared.stop.Stop.TheVariants.{Memory}
use Rattle.core_code.proofs.Frames.{the_is, Leads, leads_trans, kept_same, kept_trans, stands_kept}
use Rattle.core_code.proofs.Reading.{truth_shown}
use Rattle.core_steps.specs.Choosing.{all_chosen, places_of, truths, Long, PassingTold, passing_told, no_passing, Passing_told}
use Rattle.core_steps.specs.Rows.{BundleTold, bundle_told, bundle_failed, no_bundle, Bundle_counted, Bundle_pushed}
use Rattle.core_steps.proofs.Bundling.{Rows_read, rows_read, long_all, long_width, across_many, deep}
use Rattle.core_steps.proofs.Operands.{First_value, first_value}
use Rattle.core_steps.proofs.Places.{kept_is, chosen_words, places_few}
use Rattle.core_steps.proofs.Sourcing.{together_one, push_rows}
use Rattle.exec.specs.Folds.{Under_runs}
use Rattle.exec.specs.Maps.{Mapping, applied, Element_runs}
use Rattle.exec.specs.Tests.{TestsRan, tests_ran, tests_failed, no_memory_tests, Tests_run}
use Rattle.exec.proofs.Folds.{Row_there, row_there, none_left}
use Rattle.exec.proofs.Maps.{element_memory, element_done, then_all, one_result, leads_nil, mapping_on}

-- ---- one row

pub row_element : (budget : ℕ) (b : Body) (xs : List Var) (r : Bundle) (i mark : ℕ) (S S1 S' : State) (a : Answer) → mark ≡ length S.stack → S1.words ≡ S.words → Bundle_pushed r i S S1 (Ok tt) → Under_runs budget b xs mark S1 S' a → Element_runs budget b xs (Of_rows (r ∷ [])) i S S' a
row_element budget b xs r i mark S S1 S' a p w h u = element_done budget b xs (Of_rows (r ∷ [])) i S mark S1 S' a p w (push_rows r i S S1 (Ok tt) h) u

pub ruleset row_elements = (element_memory)

-- ---- all rows

pub data Tests_so (whole : Rel (List Bool)) (rest : Rel (List Bool)) (j n : ℕ) (S0 S : State) : Type 0 where
  tests_so : (ws : List ℕ) (c : ℕ) → S.stack ≡ S0.stack ++ ws → length ws ≡ j → Kept n S0 S c → Leads c whole (then_all (truths ws) rest) → Tests_so whole rest j n S0 S

unfoldable pub Tests_go : ℕ → Body → List Var → Bundle → ℕ → ℕ → State → State → Type 0
Tests_go budget b xs r count j S0 S =
    (G : Sorts) (env : Env) (n : ℕ) (rows : List Row) → Mapping G env xs (Of_rows (r ∷ [])) b (truth_sort ∷ []) n rows S0 → length rows ≡ count → Tests_so (each_of (test_turn (body_runs budget b) xs env) rows) (each_of (test_turn (body_runs budget b) xs env) (drop j rows)) j n S0 S

-- what one run of a test says
pub data Test_said (m : Rel Bool) (n : ℕ) (S S' : State) : Type 0 where
  test_said : (w f : ℕ) → S'.stack ≡ S.stack ++ w ∷ [] → Kept n S S' f → m (Val (not (w == 0))) f → Test_said m n S S'

test_of : (budget : ℕ) (b : Body) (xs : List Var) (env : Env) (row : Row) (n : ℕ) (S S' : State) → Runs (applied budget b xs env row) (truth_sort ∷ []) n S S' (Ok tt) → Test_said (test_turn (body_runs budget b) xs env row) n S S'
test_of budget b xs env row n S S' (ran cs ws f q sh k y) = by_shown cs ws q sh y
  where
    by_shown : (cs : Row) (ws : List ℕ) → S'.stack ≡ S.stack ++ ws → AllShow S'.arena.arrays (truth_sort ∷ []) cs ws → applied budget b xs env row (Val cs) f → Test_said (test_turn (body_runs budget b) xs env row) n S S'
    by_shown _ _ q (shown_and {c = c} {w = w} x none_shown) y =
        test_said w (f + 0) q (record { words = k.words; arrays = k.arrays; handed = omega (arith, k.handed) }) (goes_on y (the_is (holds (c ∷ [])) (Val (not (w == 0))) (truth_shown S'.arena.arrays c w (not (w == 0)) x refl)))

module _ (budget : ℕ) (b : Body) (xs : List Var) (r : Bundle) (count : ℕ) where
  abbrev all : Env → List Row → Rel (List Bool)
  all env rows = each_of (test_turn (body_runs budget b) xs env) rows

  pub tests_start : (S : State) → Tests_go budget b xs r count 0 S S
  unfolding Tests_go
  tests_start S G env n rows on m = tests_so [] 0 (sym (append-nil S.stack)) refl (kept_same n S) (leads_nil (all env rows))

  module _ (j : ℕ) (S0 S : State) (h : Tests_go budget b xs r count j S0 S) where
    module _ (S1 : State) (l : j < count) where
      pub tests_stop : (e : Stop) → Element_runs budget b xs (Of_rows (r ∷ [])) j S S1 (Err e) → Tests_run budget b xs r count S0 S1 (Err e)
      unfolding Tests_go Element_runs Tests_run
      tests_stop e k G env n rows on m = by_row (row_there rows j (omega (arith, l, m))) (h G env n rows on m)
        where
          by_run : {e : Stop} (row : Row) (ts : List Bool) (c : ℕ) → Leads c (all env rows) (then_all ts (all env (row ∷ drop (suc j) rows))) → Runs (applied budget b xs env row) (truth_sort ∷ []) n S S1 (Err e) → TestsRan (all env rows) count n S0 S1 (Err e)
          by_run row ts c g (failed {r} f y) = let z = g (Fail r) f (stops (stops (stops y))) in tests_failed z.0 z.1
          by_run row ts c g no_memory = no_memory_tests

          by_row : Row_there rows j → Tests_so (all env rows) (all env (drop j rows)) j n S0 S → TestsRan (all env rows) count n S0 S1 (Err e)
          by_row t (tests_so ws c p q k' g) =
              by_run t.row (truths ws) c (subst (λ z. Leads c (all env rows) (then_all (truths ws) (all env z))) t.left g)
              (k G env n (truth_sort ∷ []) rows t.row (mapping_on G env xs (Of_rows (r ∷ [])) b (truth_sort ∷ []) n rows S0 S c k' on) t.there)

      pub tests_more : Element_runs budget b xs (Of_rows (r ∷ [])) j S S1 (Ok tt) → Tests_go budget b xs r count (j + 1) S0 S1
      unfolding Tests_go Element_runs
      tests_more k G env n rows on m =
          subst (λ z. Tests_so (all env rows) (all env (drop z rows)) z n S0 S1) (sym (add-one j)) (by_row (row_there rows j (omega (arith, l, m))) (h G env n rows on m))
        where
          by_said : (row : Row) (ws : List ℕ) (c : ℕ) → S.stack ≡ S0.stack ++ ws → length ws ≡ j → Kept n S0 S c → Leads c (all env rows) (then_all (truths ws) (all env (row ∷ drop (suc j) rows))) → Test_said (test_turn (body_runs budget b) xs env row) n S S1 → Tests_so (all env rows) (all env (drop (suc j) rows)) (suc j) n S0 S1
          by_said row ws c p q k' g (test_said w f z v y) =
              let t : Bool = not (w == 0) in
              let more : truths (ws ++ w ∷ []) ≡ truths ws ++ t ∷ [] = map-append (λ w. not (w == 0)) ws (w ∷ []) in
              tests_so (ws ++ w ∷ []) (c + f) (z ∙ ap (λ s. s ++ w ∷ []) p ∙ append_assoc S0.stack ws (w ∷ [])) (omega (arith, q, length-append ws (w ∷ []))) (kept_trans n S0 S S1 c f k' v)
              (subst (λ y. Leads (c + f) (all env rows) (then_all y (all env (drop (suc j) rows)))) (sym more)
              (leads_trans c f (all env rows) (then_all (truths ws) (all env (row ∷ drop (suc j) rows))) (then_all (truths ws ++ t ∷ []) (all env (drop (suc j) rows))) g
              (one_result (truths ws) t f (test_turn (body_runs budget b) xs env row) (all env (drop (suc j) rows)) y)))

          by_row : Row_there rows j → Tests_so (all env rows) (all env (drop j rows)) j n S0 S → Tests_so (all env rows) (all env (drop (suc j) rows)) (suc j) n S0 S1
          by_row t (tests_so ws c p q k' g) =
              by_said t.row ws c p q k' (subst (λ z. Leads c (all env rows) (then_all (truths ws) (all env z))) t.left g)
              (test_of budget b xs env t.row n S S1 (k G env n (truth_sort ∷ []) rows t.row (mapping_on G env xs (Of_rows (r ∷ [])) b (truth_sort ∷ []) n rows S0 S c k' on) t.there))

    pub tests_end : j ≡ count → Tests_run budget b xs r count S0 S (Ok tt)
    unfolding Tests_go Tests_run
    tests_end l G env n rows on m = by_so (h G env n rows on m)
      where
        by_so : Tests_so (all env rows) (all env (drop j rows)) j n S0 S → TestsRan (all env rows) count n S0 S (Ok tt)
        by_so (tests_so ws c p q k' g) =
            let z = subst (λ z. Leads c (all env rows) (then_all (truths ws) (all env z))) (none_left rows j (omega (arith, l, m))) g (Val (truths ws ++ [])) 0 (goes_on exact exact) in
            tests_ran ws z.0 p (q ∙ l) (record { words = k'.words; arrays = k'.arrays; handed = omega (arith, k'.handed, z.2) }) (subst (λ y. all env rows (Val y) z.0) (append-nil (truths ws)) z.1)

pub ruleset tests = (tests_start, tests_stop, tests_more, tests_end)

-- ---- the arrays of those that pass

-- arrays that operands name are there
shown_there : (G : Sorts) (env : Env) (n : ℕ) (rs : List Array) (t : List ℕ) (us : List Atom) (ss : List Sort) (cs : Row) → Stands G env n rs t → Atoms_are G us (lifted ss) → values_of env us ≡ Val cs → (ws : List ℕ) × AllShow rs (lifted ss) cs ws
shown_there G env n rs t us [] cs st a v = by_none us a v
  where
    by_none : (us : List Atom) → Atoms_are G us [] → values_of env us ≡ Val cs → (ws : List ℕ) × AllShow rs [] cs ws
    by_none _ all_none v = let z : cs ≡ [] = let y : Val [] ≡ Val cs = v in cc in ([], subst (λ z. AllShow rs [] z []) (sym z) none_shown)
shown_there G env n rs t us (s ∷ ss) cs st a v = by_more us a v (λ us cs a v. shown_there G env n rs t us ss cs st a v)
  where
    one_there : (u : Atom) (c : Component) → Atom_is G u (s.0, suc s.1) → value_of env u ≡ Val c → (w : ℕ) × Shows rs (s.0, suc s.1) c w
    one_there (atom.Var x) c h e =
        let p = st.each x.number (s.0, suc s.1) h.0 in
        let same : p.value ≡ c = let z : Val p.value ≡ Val c = sym (ap or_wrong p.named) ∙ e in cc in
        (p.word, subst (λ z. Shows rs (s.0, suc s.1) z p.word) same p.shows)
    one_there (atom.Constant k) c h e = let z : 0 ≡ suc s.1 = ap (λ (z : Sort). z.1) h in absurd (omega (arith, z))

    by_more : (us : List Atom) → Atoms_are G us ((s.0, suc s.1) ∷ lifted ss) → values_of env us ≡ Val cs → ((us : List Atom) (cs : Row) → Atoms_are G us (lifted ss) → values_of env us ≡ Val cs → (ws : List ℕ) × AllShow rs (lifted ss) cs ws) → (ws : List ℕ) × AllShow rs (lifted (s ∷ ss)) cs ws
    by_more _ (all_more {x = u} {xs = us} x a) v there =
        let f = first_value env u us cs v in
        let w = one_there u f.first x f.value in
        let k = there us f.rest a f.others in
        (w.0 ∷ k.0, subst (λ z. AllShow rs (lifted (s ∷ ss)) z (w.0 ∷ k.0)) (sym f.whole) (shown_and w.1 k.1))

none_is_no_size : (at : Place) (m : ℕ) (cs : Row) → size_of false at cs ≡ Val m → length cs ≡ 0 → ⊥
none_is_no_size at m [] e q = let y : Wrong ≡ Val m = e in cc
none_is_no_size at m (c ∷ cs) e q = absurd (omega (arith, q))

module _ (budget : ℕ) (at : Place) (r : Bundle) (xs : List Var) (b : Body) (S : State) where
  abbrev filtered : Env → Results
  filtered env = tested false at r env (test_turn (body_runs budget b) xs env) (kept false at true)

  pub filter_failed : (S' : State) (e : Stop) → Bundle_counted S.words S.arena.arrays r at (Err e) → Act_runs budget (Filter at r xs b) S S' (Err e)
  unfolding Bundle_counted Act_runs act_means Act_numbered
  filter_failed S' e h G env _ n last st (filter_gives x gb) nb = by_bundle x.sorts (h G env n (map sort_of xs) st x)
    where
      by_bundle : {e : Stop} (out : List Sort) → BundleTold env r at (Err e) → Runs (filtered env) out n S S' (Err e)
      by_bundle out (bundle_failed {s} ds v y) = failed 0 (goes_on (the_is (values_of env r.arrays) (Val ds) v) (stops (the_is (rows_of false at r.width ds) (Fail s) y)))
      by_bundle out no_bundle = no_memory

  module _ (count : ℕ) (h : Bundle_counted S.words S.arena.arrays r at (Ok count)) where
    -- what the tests are run under
    mapping : (G : Sorts) (env : Env) (n mid last : ℕ) (cs : Row) (rows : List Row) → Stands G env n S.arena.arrays S.words → Upward n (map number xs) mid → Rows_are G r (map sort_of xs) → Body_gives (with_vars xs G) b (truth_sort ∷ []) → Body_numbered mid b last → values_of env r.arrays ≡ Val cs → rows_of false at r.width cs ≡ Val rows
        → Mapping G env xs (Of_rows (r ∷ [])) b (truth_sort ∷ []) n rows S
    mapping G env n mid last cs rows st u x gb nb v y = record {
      mid = mid;
      last = last;
      stands = st;
      rises = u;
      gives = rows_give (all_more x.are all_none) (one_bundle x.bundled x.wide);
      at = at;
      read = together_one at env r ∙ ap (λ z. and_then z (rows_of false at r.width)) v ∙ y;
      typed = gb;
      numbered = nb;
    }

    pub filter_stopped : (S' : State) (e : Stop) → Tests_run budget b xs r count S S' (Err e) → Act_runs budget (Filter at r xs b) S S' (Err e)
    unfolding Bundle_counted Tests_run Act_runs act_means Act_numbered
    filter_stopped S' e k G env _ n last st (filter_gives x gb) (mid, u, nb) = by_bundle x.sorts count refl (h G env n (map sort_of xs) st x)
      where
        by_tests : {e : Stop} (out : List Sort) (cs : Row) (rows : List Row) → values_of env r.arrays ≡ Val cs → rows_of false at r.width cs ≡ Val rows → TestsRan (each_of (test_turn (body_runs budget b) xs env) rows) count n S S' (Err e) → Runs (filtered env) out n S S' (Err e)
        by_tests out cs rows v y (tests_failed {r = s} f z) =
            failed (0 + (0 + f)) (goes_on (the_is (values_of env r.arrays) (Val cs) v) (goes_on (the_is (rows_of false at r.width cs) (Val rows) y) (stops z)))
        by_tests out cs rows v y no_memory_tests = no_memory

        by_bundle : (out : List Sort) (c : ℕ) → c ≡ count → BundleTold env r at (Ok c) → Runs (filtered env) out n S S' (Err e)
        by_bundle out _ q (bundle_told cs rows v y) = by_tests out cs rows v y (k G env n rows (mapping G env n mid last cs rows st u x gb nb v y) q)

    pub filter_done : (mark : ℕ) (S1 S2 : State) (a : Answer) → mark ≡ length S.stack → Tests_run budget b xs r count S S1 (Ok tt) → Passing_told r.arrays mark S1 S2 a → S2.words ≡ S1.words → Act_runs budget (Filter at r xs b) S S2 a
    unfolding Bundle_counted Tests_run Passing_told Act_runs act_means Act_numbered
    filter_done mark S1 S2 a p k g w G env _ n last st (filter_gives x gb) (mid, u, nb) =
        by_bundle (deep (map sort_of xs) x.sorts x.bundled) count refl (h G env n (map sort_of xs) st x)
      where
        by_passing : {a : Answer} (ss : List Sort) (cs : Row) (rows : List Row) (vs ws : List ℕ) (m f : ℕ) → x.sorts ≡ lifted ss → values_of env r.arrays ≡ Val cs → rows_of false at r.width cs ≡ Val rows → size_of false at cs ≡ Val m → AllShow S.arena.arrays (lifted ss) cs vs → length ws ≡ m → Kept n S S1 f
            → each_of (test_turn (body_runs budget b) xs env) rows (Val (truths ws)) f → PassingTold (places_of true 0 (truths ws)) cs ss S.stack S1 S2 a → Runs (filtered env) x.sorts n S S2 a
        by_passing ss cs rows vs ws m f so v y e sh l kp z (passing_told us th q gr) =
            let many : length (truths ws) ≡ m = length-map ws (λ w. not (w == 0)) ∙ l in
            let long : Long m cs = long_all at m cs e in
            let is : List ℕ = places_of true 0 (truths ws) in
            let few = places_few true 0 (truths ws) in
            let less = chosen_words S.arena.arrays ss m cs vs is sh long (omega (arith, few, many)) in
            let some : length cs ≡ 0 → ⊥ = none_is_no_size at m cs e in
            let all : kept false at true cs (truths ws) ≡ Val (all_chosen is cs) = kept_is at true S.arena.arrays ss m cs vs (truths ws) sh some long e (across_many m cs long) many in
            ran (all_chosen is cs) us (0 + (0 + (f + (0 + array_words cs)))) q (subst (λ z. AllShow S2.arena.arrays z (all_chosen is cs) us) (sym so) th)
            (record { words = λ x l. ap (λ t. slice_get t x) w ∙ kp.words x l; arrays = λ i c d. gr.arrays i c (kp.arrays i c d); handed = omega (arith, kp.handed, gr.handed, less) })
            (goes_on (the_is (values_of env r.arrays) (Val cs) v) (goes_on (the_is (rows_of false at r.width cs) (Val rows) y) (goes_on z (goes_on (the_is (kept false at true cs (truths ws)) (Val (all_chosen is cs)) all) exact))))
        by_passing ss cs rows vs ws m f so v y e sh l kp z no_passing = no_memory

        by_tests : (ss : List Sort) (cs : Row) (rows : List Row) → x.sorts ≡ lifted ss → values_of env r.arrays ≡ Val cs → rows_of false at r.width cs ≡ Val rows → length rows ≡ count → TestsRan (each_of (test_turn (body_runs budget b) xs env) rows) count n S S1 (Ok tt) → Runs (filtered env) x.sorts n S S2 a
        by_tests ss cs rows so v y c (tests_ran ws f q l kp z) =
            let d = rows_read at r.width cs rows y in
            let are : Atoms_are G r.arrays (lifted ss) = subst (Atoms_are G r.arrays) so x.are in
            let sh = shown_there G env n S.arena.arrays S.words r.arrays ss cs st are v in
            let many : length ws ≡ d.many = l ∙ sym c ∙ ap length d.are ∙ across_many d.many (of_width r.width cs) (long_width d.many r.width cs (long_all at d.many cs d.size)) in
            by_passing ss cs rows sh.0 ws d.many f so v y d.size sh.1 many kp z
            (g G env n d.many ss cs S.stack ws (stands_kept G env n S S1 f st kp) are v (long_all at d.many cs d.size) q (sym p) many)

        by_bundle : (ss : List Sort) × (x.sorts ≡ lifted ss) → (c : ℕ) → c ≡ count → BundleTold env r at (Ok c) → Runs (filtered env) x.sorts n S S2 a
        by_bundle ss _ q (bundle_told cs rows v y) = by_tests ss.0 cs rows ss.1 v y q (k G env n rows (mapping G env n mid last cs rows st u x gb nb v y) q)

pub op_filter : (budget : ℕ) (o : Op) (at : Place) (r : Rows) (xs : Bor (List Var)) (b : Bor Block) (S S' : State) (a : Answer) → o ≡ op.Filter r xs b → Act_runs budget (Filter at (bundle_form r) xs.now (body_of b.now)) S S' a → Act_runs budget (action_of o at) S S' a
op_filter budget o at r xs b S S' a e h = subst (λ z. Act_runs budget z S S' a) (sym (ap (λ z. action_of z at) e ∙ action_of-Filter r xs b at)) h
