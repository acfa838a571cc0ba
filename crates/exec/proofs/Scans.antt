-- Reductions of all prefixes.
use Rattle.std.proofs.Common.{◌≡◌, ℕ, zero, suc, ◌+◌, ◌-◌, ◌<◌, ◌≤◌, List, [], ◌∷◌, ◌++◌, length, map, take, drop, slice_get, Some, Bor, Ok, Err, true, false, refl, sym, ap, ◌∙◌, subst, arith, add-one, append_assoc}
use Rattle.std.proofs.Math.Seq.{drop-append_seam}
use Rattle.std.proofs.lemmas.List.{append-nil, length-append, length-map}
use Rattle.fut_scalar.specs.declared.place.Place.{Place}
use Rattle.fut_scalar.specs.declared.report.Report.{Report}
use Rattle.fut_meaning.specs.Jobs.{all_of}
use Rattle.fut_meaning.specs.Outcomes.{Out, Val, Fail, Wrong, Rel, exact, gives, the, Then, goes_on, stops, sticks, both, stops_left, stops_right, turns}
use Rattle.core_ir.specs.declared.block.Var.{Var}
use Rattle.core_ir.specs.declared.block.Atom.{Atom}
use Rattle.core_ir.specs.declared.block.Block.{Block, out-Block}
use Rattle.core_ir.specs.declared.block.Rows.{Rows}
use Rattle.core_ir.specs.declared.block.Operator.{Operator, out-Operator}
use Rattle.core_ir.specs.declared.block.Op.{Op}
use Rattle.core_ir.specs.declared.block.Op.TheVariants as op
use Rattle.core_ir.specs.Bundles.{Row, rows_of, row_sizes, glued, array_words}
use Rattle.core_ir.specs.Lists.{prefixes_on}
use Rattle.core_ir.specs.Meaning.{Env, Results, values_of, scanned, Reduction, reduction, act_means, function_means}
use Rattle.core_ir.specs.Numbered.{Act_numbered, Function_numbered}
use Rattle.core_ir.specs.Plain.{Scan, Of_two, Action, Body, Bundle, bundle_form, action_of, body_of}
use Rattle.core_ir.specs.Typed.{Sort, Sorts, sort_of, with_vars, Bundled, Atoms_are, Rows_are, Operator_is, operator_is, scan_gives, Body_gives}
use Rattle.core_ir.proofs.Layers.{action_of-Scan, function_of-parts}
use Rattle.core_code.specs.Registers.{State, state, AllShow, Stands, Kept}
use Rattle.core_code.specs.Answers.{Answer, ReadAll, read_all, Reads_all, Runs, ran, failed, no_memory}
use Rattle.core_code.specs.Runs.{act_runs, Act_runs, Lies, with_stack}
use Rattle.core_code.specs.declared.stop.Stop.{Stop}
use Rattle.core_code.specs.declared.stop.Stop.TheVariants.{Memory}
use Rattle.core_code.proofs.Frames.{the_is, kept_same, all_show_on}
use Rattle.core_steps.specs.Choosing.{No_rows_told}
use Rattle.core_steps.specs.Gluing.{sorts_at, RowsShow, no_rows_shown, row_shown_and, GluedTold, glued_told, glue_failed, no_glue, Glued_told}
use Rattle.core_steps.specs.Rows.{BundleTold, bundle_told, bundle_failed, no_bundle, Bundle_counted}
use Rattle.core_steps.proofs.Bundling.{rows_read, long_all}
use Rattle.core_steps.proofs.Literals.{rows_append}
use Rattle.core_steps.proofs.Operands.{values_there}
use Rattle.core_steps.proofs.Sizing.{shown_many}
use Rattle.exec.specs.Folds.{Folding, row_turn, Row_turn_runs}
use Rattle.exec.specs.Maps.{EachRan, each_ran, each_failed, no_memory_each}
use Rattle.exec.specs.Scans.{reductions, Reduced_so, Prefixes_run}
use Rattle.exec.proofs.FoldActs.{turns_bracket}
use Rattle.exec.proofs.Folds.{Row_there, row_there, none_left, folding_on}
use Rattle.exec.proofs.Maps.{rows_on, body_sorts}

-- ---- one turn more

module _ {A B : Type 0} (g : A → B → Rel B) where
  last_turn : (x : A) (b : B) (o : Out B) (f : ℕ) → g x b o f → (h : ℕ) × turns g (x ∷ []) b o h × (f ≤ h)
  last_turn x b (Val c) f k = (f + 0, goes_on k exact, omega arith)
  last_turn x b (Fail r) f k = (f, stops k, omega arith)
  last_turn x b Wrong f k = (f, sticks k, omega arith)

  pub turns_more : (xs : List A) (x : A) (b c : B) (e : ℕ) (o : Out B) (f : ℕ) → turns g xs b (Val c) e → g x c o f → (h : ℕ) × turns g (xs ++ x ∷ []) b o h × (f ≤ h)
  turns_more [] x b _ _ o f exact k = last_turn x b o f k
  turns_more (y ∷ xs) x b c _ o f (goes_on {a = d} {f = e1} {g = e2} p q) k = let z = turns_more xs x d c e2 o f q k in (e1 + z.0, goes_on p z.1, omega (arith, z.2))

-- ---- all prefixes

module _ (budget : ℕ) (b : Body) (xs ys : List Var) (env : Env) (ne : Row) where
  abbrev one : List Row → Results
  one some = Reduction true false (function_means true false budget (Of_two xs ys b) env) ne some

  pub reduces : (some : List Row) (o : Out Row) (f : ℕ) → turns (row_turn budget b xs ys env) some ne o f → (g : ℕ) × one some o g × (f ≤ g)
  unfolding function_means
  reduces some o f h = let z = turns_bracket (function_means true false budget (Of_two xs ys b) env) ne some o f h in (z.0, reduction refl z.1, z.2)

-- the results so far, and what the rest comes to
pub record Prefixes_so (budget : ℕ) (b : Body) (xs ys : List Var) (env : Env) (ne : Row) (rows : List Row) (j n : ℕ) (S0 S : State) : Type 0 where
  pub outs : List Row
  pub ws : List ℕ
  pub stack : S.stack ≡ S0.stack ++ ws
  pub shown : RowsShow S.arena.arrays (map sort_of xs) outs ws
  pub many : suc (length outs) ≡ j
  pub few : length outs ≤ length (drop 1 rows)
  pub last : Reduced_so budget b xs ys env ne (take j rows) S
  pub count : ℕ
  pub kept : Kept n S0 S count
  pub gives : (os : List Row) (f : ℕ) → reductions budget b xs ys env ne (take j rows) (drop j rows) (Val os) f → (g : ℕ) × reductions budget b xs ys env ne (take 1 rows) (drop 1 rows) (Val (outs ++ os)) g × (count + f ≤ g)
  pub fails : (r : Report) (f : ℕ) → reductions budget b xs ys env ne (take j rows) (drop j rows) (Fail r) f → (g : ℕ) × reductions budget b xs ys env ne (take 1 rows) (drop 1 rows) (Fail r) g

unfoldable pub Prefixes_go : ℕ → Body → List Var → List Var → Bundle → ℕ → ℕ → State → State → Type 0
Prefixes_go budget b xs ys r count j S0 S =
    (G : Sorts) (env : Env) (n : ℕ) (ne : Row) (rows : List Row) → Folding G env xs ys r b n rows S0 → length rows ≡ count → Reduced_so budget b xs ys env ne (take 1 rows) S0 → Prefixes_so budget b xs ys env ne rows j n S0 S

take_next : (rows : List Row) (j : ℕ) (row : Row) → slice_get rows j ≡ Some row → take (suc j) rows ≡ take j rows ++ row ∷ []
take_next [] j row e = cc
take_next (x ∷ rows) zero row e = let q : x ≡ row = cc in ap (λ z. z ∷ []) q
take_next (x ∷ rows) (suc j) row e = ap (λ z. x ∷ z) (take_next rows j row e)

one_behind : (rows : List Row) (n : ℕ) → suc n < length rows → suc n ≤ length (drop 1 rows)
one_behind [] n l = absurd (omega (arith, l))
one_behind (x ∷ rows) n l = omega (arith, l)

module _ (budget : ℕ) (b : Body) (xs ys : List Var) (r : Bundle) (count : ℕ) where
  pub prefixes_start : (S : State) → Prefixes_go budget b xs ys r count 1 S S
  unfolding Prefixes_go
  prefixes_start S G env n ne rows on m so =
      record { outs = []; ws = []; stack = sym (append-nil S.stack); shown = no_rows_shown; many = refl; few = omega arith; last = so; count = 0; kept = kept_same n S; gives = λ os f h. (f, h, omega arith); fails = λ r f h. (f, h) }

  module _ (j : ℕ) (S0 S : State) (h : Prefixes_go budget b xs ys r count j S0 S) where
    -- a turn on what the rows so far come to, of which the words are repeated
    module _ (width mark : ℕ) (s1 : List ℕ) (S1 : State) (l : j < count) (w : width ≡ length xs) (q : s1 ≡ S.stack ++ drop (length S.stack - width) S.stack) (p : mark ≡ length S.stack) where
      lies : (row : Row) (below ws : List ℕ) → S.stack ≡ below ++ ws → AllShow S.arena.arrays (map sort_of xs) row ws → Lies xs mark S.stack row (state S.arena S.words s1)
      lies row below ws e sh =
          let many : length ws ≡ width = (shown_many S.arena.arrays (map sort_of xs) row ws sh).1 ∙ length-map xs sort_of ∙ sym w in
          let front : length S.stack - width ≡ length below = let z : length S.stack ≡ length below + length ws = ap length e ∙ length-append below ws in omega (arith, z, many) in
          record { ws = ws; stack = q ∙ ap (λ z. S.stack ++ z) (ap (λ z. drop z S.stack) front ∙ ap (drop (length below)) e ∙ drop-append_seam below ws); long = sym p; shown = sh }

      pub prefixes_stop : (e : Stop) → Row_turn_runs budget b xs ys r j mark (state S.arena S.words s1) S1 (Err e) → Prefixes_run budget b xs ys r count S0 S1 (Err e)
      unfolding Prefixes_go Row_turn_runs Prefixes_run
      prefixes_stop e k G env n ne rows on m so = by_so (row_there rows j (omega (arith, l, m))) (h G env n ne rows on m so)
        where
          by_run : {e : Stop} (row : Row) → slice_get rows j ≡ Some row → drop j rows ≡ row ∷ drop (suc j) rows → (v : Prefixes_so budget b xs ys env ne rows j n S0 S) → Runs (row_turn budget b xs ys env row v.last.row) (map sort_of xs) n (with_stack (state S.arena S.words s1) S.stack) S1 (Err e) → EachRan (reductions budget b xs ys env ne (take 1 rows) (drop 1 rows)) (map sort_of xs) (length (drop 1 rows)) n S0 S1 (Err e)
          by_run row t d v (failed {r = s} f y) =
              let z = turns_more (row_turn budget b xs ys env) (take j rows) row ne v.last.row v.last.count (Fail s) f v.last.given y in
              let u = reduces budget b xs ys env ne (take j rows ++ row ∷ []) (Fail s) z.0 z.1 in
              let all = v.fails s u.0 (subst (λ z. reductions budget b xs ys env ne (take j rows) z (Fail s) u.0) (sym d) (stops_left u.1)) in
              each_failed all.0 all.1
          by_run row t d v no_memory = no_memory_each

          by_so : Row_there rows j → Prefixes_so budget b xs ys env ne rows j n S0 S → EachRan (reductions budget b xs ys env ne (take 1 rows) (drop 1 rows)) (map sort_of xs) (length (drop 1 rows)) n S0 S1 (Err e)
          by_so t v =
              by_run t.row t.there t.left v
              (k G env n S.stack v.last.row rows t.row (folding_on G env xs ys r b n rows S0 (state S.arena S.words s1) v.count (record { words = v.kept.words; arrays = v.kept.arrays; handed = v.kept.handed }) on) (lies v.last.row v.last.below v.last.ws v.last.stack v.last.shown) t.there)

      pub prefixes_more : Row_turn_runs budget b xs ys r j mark (state S.arena S.words s1) S1 (Ok tt) → Prefixes_go budget b xs ys r count (j + 1) S0 S1
      unfolding Prefixes_go Row_turn_runs
      prefixes_more k G env n ne rows on m so = subst (λ z. Prefixes_so budget b xs ys env ne rows z n S0 S1) (sym (add-one j)) (by_so (row_there rows j (omega (arith, l, m))) (h G env n ne rows on m so))
        where
          by_run : (row : Row) → slice_get rows j ≡ Some row → drop j rows ≡ row ∷ drop (suc j) rows → (v : Prefixes_so budget b xs ys env ne rows j n S0 S) → Runs (row_turn budget b xs ys env row v.last.row) (map sort_of xs) n (with_stack (state S.arena S.words s1) S.stack) S1 (Ok tt) → Prefixes_so budget b xs ys env ne rows (suc j) n S0 S1
          by_run row t d v (ran cs ws f x sh kp y) =
              let some : List Row = take j rows ++ row ∷ [] in
              let next : take (suc j) rows ≡ some = take_next rows j row t in
              let z = turns_more (row_turn budget b xs ys env) (take j rows) row ne v.last.row v.last.count (Val cs) f v.last.given y in
              let u = reduces budget b xs ys env ne some (Val cs) z.0 z.1 in
              let rest : List Row = drop (suc j) rows in
              record {
                outs = v.outs ++ cs ∷ [];
                ws = v.ws ++ ws;
                stack = x ∙ ap (λ s. s ++ ws) v.stack ∙ append_assoc S0.stack v.ws ws;
                shown = rows_append S1.arena.arrays (map sort_of xs) v.outs v.ws cs ws (rows_on S.arena.arrays S1.arena.arrays (map sort_of xs) v.outs v.ws kp.arrays v.shown) sh;
                many = let a : length (v.outs ++ cs ∷ []) ≡ length v.outs + 1 = length-append v.outs (cs ∷ []) in omega (arith, a, v.many);
                few = let a : length (v.outs ++ cs ∷ []) ≡ length v.outs + 1 = length-append v.outs (cs ∷ []) in let b = one_behind rows (length v.outs) (omega (arith, v.many, l, m)) in omega (arith, a, b);
                last = record { row = cs; count = z.0; given = subst (λ y. turns (row_turn budget b xs ys env) y ne (Val cs) z.0) (sym next) z.1; below = S.stack; ws = ws; stack = x; shown = sh };
                count = v.count + f;
                kept = record { words = λ i a. kp.words i a ∙ v.kept.words i a; arrays = λ i a e. kp.arrays i a (v.kept.arrays i a e); handed = omega (arith, kp.handed, v.kept.handed) };
                gives = λ os g e.
                    let a : reductions budget b xs ys env ne some rest (Val os) g = subst (λ z. reductions budget b xs ys env ne z rest (Val os) g) next e in
                    let c = v.gives (cs ∷ os) (u.0 + g + 0) (subst (λ z. reductions budget b xs ys env ne (take j rows) z (Val (cs ∷ os)) (u.0 + g + 0)) (sym d) (both u.1 a exact)) in
                    (c.0, subst (λ z. reductions budget b xs ys env ne (take 1 rows) (drop 1 rows) (Val z) c.0) (sym (append_assoc v.outs (cs ∷ []) os)) c.1, omega (arith, c.2, u.2, z.2));
                fails = λ s g e.
                    let a : reductions budget b xs ys env ne some rest (Fail s) g = subst (λ z. reductions budget b xs ys env ne z rest (Fail s) g) next e in
                    v.fails s g (subst (λ z. reductions budget b xs ys env ne (take j rows) z (Fail s) g) (sym d) (stops_right a));
              }

          by_so : Row_there rows j → Prefixes_so budget b xs ys env ne rows j n S0 S → Prefixes_so budget b xs ys env ne rows (suc j) n S0 S1
          by_so t v =
              by_run t.row t.there t.left v
              (k G env n S.stack v.last.row rows t.row (folding_on G env xs ys r b n rows S0 (state S.arena S.words s1) v.count (record { words = v.kept.words; arrays = v.kept.arrays; handed = v.kept.handed }) on) (lies v.last.row v.last.below v.last.ws v.last.stack v.last.shown) t.there)

    pub prefixes_end : count ≤ j → Prefixes_run budget b xs ys r count S0 S (Ok tt)
    unfolding Prefixes_go Prefixes_run
    prefixes_end l G env n ne rows on m so =
        let v = h G env n ne rows on m so in
        let none : drop j rows ≡ [] = none_left rows j (omega (arith, l, m)) in
        let z = v.gives [] 0 (subst (λ y. reductions budget b xs ys env ne (take j rows) y (Val []) 0) (sym none) exact) in
        each_ran v.outs v.ws z.0 v.stack v.shown (drop_one rows v.outs (omega (arith, v.many, l, m)) v.few) (record { words = v.kept.words; arrays = v.kept.arrays; handed = omega (arith, v.kept.handed, z.2) }) (subst (λ y. reductions budget b xs ys env ne (take 1 rows) (drop 1 rows) (Val y) z.0) (append-nil v.outs) z.1)
      where
        drop_one : (rows outs : List Row) → length rows ≤ suc (length outs) → length outs ≤ length (drop 1 rows) → length outs ≡ length (drop 1 rows)
        drop_one [] outs e f = omega (arith, f)
        drop_one (x ∷ rows) outs e f = omega (arith, e, f)

    pub prefixes_memory : (S1 : State) (e : Stop) → e ≡ Memory → Prefixes_run budget b xs ys r count S0 S1 (Err e)
    unfolding Prefixes_run
    prefixes_memory S1 e q G env n ne rows on m so = subst (λ z. EachRan (reductions budget b xs ys env ne (take 1 rows) (drop 1 rows)) (map sort_of xs) (length (drop 1 rows)) n S0 S1 (Err z)) (sym q) no_memory_each

pub ruleset prefixes = (prefixes_start, prefixes_end, prefixes_memory)

-- ---- as a step

module _ (budget : ℕ) (at : Place) (us : List Atom) (r : Bundle) (xs ys : List Var) (b : Block) (S : State) where
  abbrev operator : Env → Row → Row → Results
  operator env = function_means true false budget (Of_two xs ys (body_of b)) env

  abbrev scans : Env → Results
  scans env = scanned true false at us r env (operator env)

  abbrev step : Action
  step = Scan at us r (Of_two xs ys (body_of b))

  pub scan_memory : (S' : State) (e : Stop) → e ≡ Memory → Act_runs budget step S S' (Err e)
  unfolding Act_runs
  scan_memory S' e q G env ss n last st g na = subst (λ z. Runs (act_runs budget step env) ss n S S' (Err z)) (sym q) no_memory

  pub scan_failed : (S' : State) (e : Stop) → Bundle_counted S.words S.arena.arrays r at (Err e) → Act_runs budget step S S' (Err e)
  unfolding Bundle_counted Act_runs act_means Act_numbered
  scan_failed S' e k G env _ n last st (scan_gives {row = row} a x go) nb = by_bundle x.sorts (values_there G env n S.arena.arrays S.words us row st a) (k G env n row st x)
    where
      by_bundle : {e : Stop} (out : List Sort) → (cs : Row) × (values_of env us ≡ Val cs) → BundleTold env r at (Err e) → Runs (scans env) out n S S' (Err e)
      by_bundle out v (bundle_failed {s} ds w y) =
          failed 0 (goes_on (the_is (values_of env us) (Val v.0) v.1) (goes_on (the_is (values_of env r.arrays) (Val ds) w) (stops (the_is (rows_of false at r.width ds) (Fail s) y))))
      by_bundle out v no_bundle = no_memory

  module _ (count : ℕ) (h : Bundle_counted S.words S.arena.arrays r at (Ok count)) where
    pub scan_none : (S' : State) (a : Answer) → count ≡ 0 → No_rows_told r at S S' a → S'.words ≡ S.words → Act_runs budget step S S' a
    unfolding Bundle_counted No_rows_told Act_runs act_means Act_numbered
    scan_none S' a z g w G env _ n last st (scan_gives {row = row} ga x go) nb = by_bundle (values_there G env n S.arena.arrays S.words us row st ga) count refl (h G env n row st x)
      where
        by_glue : {a : Answer} (cs ds : Row) → values_of env us ≡ Val cs → values_of env r.arrays ≡ Val ds → rows_of false at r.width ds ≡ Val [] → GluedTold (glued false at (row_sizes r.width ds) []) x.sorts S.stack S S' a → Runs (scans env) x.sorts n S S' a
        by_glue cs ds v u y (glued_told os ws e sh q m) =
            ran os ws (0 + (0 + (0 + (0 + (0 + array_words os))))) q sh (record { words = λ i l. ap (λ t. slice_get t i) w; arrays = m.arrays; handed = omega (arith, m.handed) })
            (goes_on (the_is (values_of env us) (Val cs) v) (goes_on (the_is (values_of env r.arrays) (Val ds) u) (goes_on (the_is (rows_of false at r.width ds) (Val []) y)
            (goes_on exact (goes_on (the_is (glued false at (row_sizes r.width ds) []) (Val os) e) exact)))))
        by_glue cs ds v u y (glue_failed {r = s} e) =
            failed (0 + (0 + (0 + (0 + 0)))) (goes_on (the_is (values_of env us) (Val cs) v) (goes_on (the_is (values_of env r.arrays) (Val ds) u) (goes_on (the_is (rows_of false at r.width ds) (Val []) y)
            (goes_on exact (stops (the_is (glued false at (row_sizes r.width ds) []) (Fail s) e))))))
        by_glue cs ds v u y no_glue = no_memory

        by_bundle : (cs : Row) × (values_of env us ≡ Val cs) → (c : ℕ) → c ≡ count → BundleTold env r at (Ok c) → Runs (scans env) x.sorts n S S' a
        by_bundle v _ q (bundle_told ds [] u y) =
            let d = rows_read at r.width ds [] y in by_glue v.0 ds v.1 u y (g G env n d.many row ds st x u (long_all at d.many ds d.size))
        by_bundle v _ q (bundle_told ds (o ∷ rows) u y) = absurd (omega (arith, q, z))

    module _ (s1 : List ℕ) (mark : ℕ) (p : mark ≡ length S.stack) (i : Reads_all S.words us S.stack s1 (Ok tt)) (some : count ≡ 0 → ⊥) where
      -- what is run under
      record Under (G : Sorts) (env : Env) (n : ℕ) (row : List Sort) : Type 0 where
        cs : Row
        ws : List ℕ
        neutral : values_of env us ≡ Val cs
        ds : Row
        first : Row
        rows : List Row
        values : values_of env r.arrays ≡ Val ds
        read : rows_of false at r.width ds ≡ Val (first ∷ rows)
        many : length (first ∷ rows) ≡ count
        left : map sort_of xs ≡ row
        gives : Body_gives (with_vars ys (with_vars xs G)) (body_of b) row
        folding : Folding G env xs ys r (body_of b) n (first ∷ rows) (state S.arena S.words s1)
        lies : Lies xs mark S.stack cs (state S.arena S.words s1)

      under_of : (G : Sorts) (env : Env) (n last : ℕ) (row : List Sort) → Stands G env n S.arena.arrays S.words → Atoms_are G us row → Rows_are G r row → Operator_is G (Of_two xs ys (body_of b)) row → Function_numbered n (Of_two xs ys (body_of b)) last → Under G env n row
      unfolding Bundle_counted Reads_all Function_numbered
      under_of G env n last row st ga x (operator_is ex ey gb) (mid, u, middle, w, nb) = by_all (i G env n S.arena.arrays row st ga) count refl (h G env n row st x)
        where
          by_all : ReadAll (values_of env us) S.arena.arrays row S.stack s1 (Ok tt) → (c : ℕ) → c ≡ count → BundleTold env r at (Ok c) → Under G env n row
          by_all rd _ e (bundle_told ds [] v y) = absurd (some (sym e))
          by_all (read_all {cs} {ws} q sh w1) _ e (bundle_told ds (o ∷ rows) v y) = record {
            cs = cs;
            ws = ws;
            neutral = q;
            ds = ds;
            first = o;
            rows = rows;
            values = v;
            read = y;
            many = e;
            left = ex;
            gives = gb;
            folding = record { mid = mid; middle = middle; last = last; stands = st; rises = u; row_rises = w; bundle = subst (Rows_are G r) (sym ey) x; arrays = ds; values = v; at = at; read = y; typed = subst (Body_gives (with_vars ys (with_vars xs G)) (body_of b)) (sym ex) gb; numbered = nb };
            lies = record { ws = ws; stack = w1; long = sym p; shown = subst (λ z. AllShow S.arena.arrays z cs ws) (sym ex) sh };
          }

      abbrev turned : Env → Row → Row → Results
      turned env ne row = row_turn budget (body_of b) xs ys env row ne

      -- the whole, where a prefix fails
      prefix_fails : (env : Env) (cs ds first : Row) (rows : List Row) (s : Report) (f : ℕ) → values_of env us ≡ Val cs → values_of env r.arrays ≡ Val ds → rows_of false at r.width ds ≡ Val (first ∷ rows) → all_of (one budget (body_of b) xs ys env cs) (prefixes_on [] (first ∷ rows)) (Fail s) f → scans env (Fail s) (0 + (0 + (0 + f)))
      prefix_fails env cs ds first rows s f v u y h = goes_on (the_is (values_of env us) (Val cs) v) (goes_on (the_is (values_of env r.arrays) (Val ds) u) (goes_on (the_is (rows_of false at r.width ds) (Val (first ∷ rows)) y) (stops h)))

      pub scan_first : (S1 : State) (e : Stop) → Row_turn_runs budget (body_of b) xs ys r 0 mark (state S.arena S.words s1) S1 (Err e) → Act_runs budget step S S1 (Err e)
      unfolding Row_turn_runs Act_runs act_means Act_numbered
      scan_first S1 e k G env _ n last st (scan_gives {row = row} ga x go) nb = by_under (under_of G env n last row st ga x go nb)
        where
          by_run : {e : Stop} (v : Under G env n row) → Runs (turned env v.cs v.first) (map sort_of xs) n (with_stack (state S.arena S.words s1) S.stack) S1 (Err e) → Runs (scans env) x.sorts n S S1 (Err e)
          by_run v (failed {r = s} f y) =
              let u = reduces budget (body_of b) xs ys env v.cs (v.first ∷ []) (Fail s) f (stops y) in
              failed (0 + (0 + (0 + u.0))) (prefix_fails env v.cs v.ds v.first v.rows s u.0 v.neutral v.values v.read (stops_left u.1))
          by_run v no_memory = no_memory

          by_under : Under G env n row → Runs (scans env) x.sorts n S S1 (Err e)
          by_under v = by_run v (k G env n S.stack v.cs (v.first ∷ v.rows) v.first v.folding v.lies refl)

      module _ (S1 : State) (k : Row_turn_runs budget (body_of b) xs ys r 0 mark (state S.arena S.words s1) S1 (Ok tt)) where
        -- the first turn
        record First (G : Sorts) (env : Env) (n : ℕ) (v : Under G env n (map sort_of xs)) : Type 0 where
          out : Row
          ws : List ℕ
          taken : ℕ
          stack : S1.stack ≡ S.stack ++ ws
          shown : AllShow S1.arena.arrays (map sort_of xs) out ws
          kept : Kept n S S1 taken
          given : turned env v.cs v.first (Val out) taken

        first_of : (G : Sorts) (env : Env) (n : ℕ) (v : Under G env n (map sort_of xs)) → First G env n v
        unfolding Row_turn_runs
        first_of G env n v = by_run (k G env n S.stack v.cs (v.first ∷ v.rows) v.first v.folding v.lies refl)
          where
            by_run : Runs (turned env v.cs v.first) (map sort_of xs) n (with_stack (state S.arena S.words s1) S.stack) S1 (Ok tt) → First G env n v
            by_run (ran cs ws f q sh kp y) = record { out = cs; ws = ws; taken = f; stack = q; shown = sh; kept = record { words = kp.words; arrays = kp.arrays; handed = kp.handed }; given = y }

        reduced_so : (G : Sorts) (env : Env) (n : ℕ) (v : Under G env n (map sort_of xs)) → First G env n v → Reduced_so budget (body_of b) xs ys env v.cs (v.first ∷ []) S1
        reduced_so G env n v t = record { row = t.out; count = t.taken + 0; given = goes_on t.given exact; below = S.stack; ws = t.ws; stack = t.stack; shown = t.shown }

        folded : (G : Sorts) (env : Env) (n : ℕ) (v : Under G env n (map sort_of xs)) → First G env n v → Folding G env xs ys r (body_of b) n (v.first ∷ v.rows) S1
        folded G env n v t = folding_on G env xs ys r (body_of b) n (v.first ∷ v.rows) (state S.arena S.words s1) S1 t.taken (record { words = t.kept.words; arrays = t.kept.arrays; handed = t.kept.handed }) v.folding

        pub scan_stopped : (S2 : State) (e : Stop) → Prefixes_run budget (body_of b) xs ys r count S1 S2 (Err e) → Act_runs budget step S S2 (Err e)
        unfolding Prefixes_run Act_runs act_means Act_numbered
        scan_stopped S2 e m G env _ n last st (scan_gives {row = row} ga x go) nb = by_operator go
          where
            by_each : {e : Stop} (out : List Sort) (v : Under G env n (map sort_of xs)) → First G env n v → EachRan (reductions budget (body_of b) xs ys env v.cs (v.first ∷ []) v.rows) (map sort_of xs) (length v.rows) n S1 S2 (Err e) → Runs (scans env) out n S S2 (Err e)
            by_each out v t (each_failed {r = s} f y) =
                failed (0 + (0 + (0 + f))) (prefix_fails env v.cs v.ds v.first v.rows s f v.neutral v.values v.read (stops_right y))
            by_each out v t no_memory_each = no_memory

            by_under : (out : List Sort) (v : Under G env n (map sort_of xs)) → Runs (scans env) out n S S2 (Err e)
            by_under out v = let t = first_of G env n v in by_each out v t (m G env n v.cs (v.first ∷ v.rows) (folded G env n v t) v.many (reduced_so G env n v t))

            by_operator : Operator_is G (Of_two xs ys (body_of b)) row → Runs (scans env) x.sorts n S S2 (Err e)
            by_operator (operator_is ex ey gb) = by_under x.sorts (subst (Under G env n) (sym ex) (under_of G env n last row st ga x (operator_is ex ey gb) nb))

        pub scan_done : (S2 S3 : State) (a : Answer) (us' : List Atom) → Prefixes_run budget (body_of b) xs ys r count S1 S2 (Ok tt) → us' ≡ (out-Block b).results.now → Glued_told us' count mark at S2 S3 a → S3.words ≡ S2.words → Act_runs budget step S S3 a
        unfolding Prefixes_run Glued_told Act_runs act_means Act_numbered
        scan_done S2 S3 a us' m ue g w G env _ n last st (scan_gives {row = row} ga x go) nb = by_operator go
          where
            by_glue : {a : Answer} (v : Under G env n (map sort_of xs)) (t : First G env n v) (outs : List Row) (f : ℕ) → Kept n S1 S2 f → reductions budget (body_of b) xs ys env v.cs (v.first ∷ []) v.rows (Val outs) f
                → GluedTold (glued false at (row_sizes r.width v.ds) (t.out ∷ outs)) x.sorts S.stack S2 S3 a → Runs (scans env) x.sorts n S S3 a
            by_glue v t outs f kp y (glued_told cs ws e sh q gr) =
                let u = reduces budget (body_of b) xs ys env v.cs (v.first ∷ []) (Val t.out) (t.taken + 0) (goes_on t.given exact) in
                ran cs ws (0 + (0 + (0 + ((u.0 + f + 0) + (0 + array_words cs))))) q sh
                (record { words = λ i l. ap (λ t. slice_get t i) w ∙ kp.words i l ∙ t.kept.words i l; arrays = λ i c d. gr.arrays i c (kp.arrays i c (t.kept.arrays i c d)); handed = omega (arith, t.kept.handed, kp.handed, gr.handed, u.2) })
                (goes_on (the_is (values_of env us) (Val v.cs) v.neutral) (goes_on (the_is (values_of env r.arrays) (Val v.ds) v.values) (goes_on (the_is (rows_of false at r.width v.ds) (Val (v.first ∷ v.rows)) v.read)
                (goes_on (both u.1 y exact) (goes_on (the_is (glued false at (row_sizes r.width v.ds) (t.out ∷ outs)) (Val cs) e) exact)))))
            by_glue v t outs f kp y (glue_failed {r = s} e) =
                let u = reduces budget (body_of b) xs ys env v.cs (v.first ∷ []) (Val t.out) (t.taken + 0) (goes_on t.given exact) in
                failed (0 + (0 + (0 + ((u.0 + f + 0) + 0))))
                (goes_on (the_is (values_of env us) (Val v.cs) v.neutral) (goes_on (the_is (values_of env r.arrays) (Val v.ds) v.values) (goes_on (the_is (rows_of false at r.width v.ds) (Val (v.first ∷ v.rows)) v.read)
                (goes_on (both u.1 y exact) (stops (the_is (glued false at (row_sizes r.width v.ds) (t.out ∷ outs)) (Fail s) e))))))
            by_glue v t outs f kp y no_glue = no_memory

            by_each : (v : Under G env n (map sort_of xs)) (t : First G env n v) → sorts_at us' ≡ map sort_of xs → Bundled (map sort_of xs) x.sorts → EachRan (reductions budget (body_of b) xs ys env v.cs (v.first ∷ []) v.rows) (map sort_of xs) (length v.rows) n S1 S2 (Ok tt) → Runs (scans env) x.sorts n S S3 a
            by_each v t so bd (each_ran outs ws f q sh l kp y) =
                let all : RowsShow S2.arena.arrays (map sort_of xs) (t.out ∷ outs) (t.ws ++ ws) = row_shown_and (all_show_on S1.arena.arrays S2.arena.arrays (map sort_of xs) t.out t.ws kp.arrays t.shown) sh in
                by_glue v t outs f kp y
                (g t.out outs S.stack (t.ws ++ ws) (row_sizes r.width v.ds) x.sorts (q ∙ ap (λ z. z ++ ws) t.stack ∙ append_assoc S.stack t.ws ws) (sym p) (subst (λ z. RowsShow S2.arena.arrays z (t.out ∷ outs) (t.ws ++ ws)) (sym so) all) (let z : length (t.out ∷ outs) ≡ length (v.first ∷ v.rows) = ap suc l in z ∙ v.many) (subst (λ z. Bundled z x.sorts) (sym so) bd))

            by_under : (v : Under G env n (map sort_of xs)) → sorts_at us' ≡ map sort_of xs → Bundled (map sort_of xs) x.sorts → Runs (scans env) x.sorts n S S3 a
            by_under v so bd = let t = first_of G env n v in by_each v t so bd (m G env n v.cs (v.first ∷ v.rows) (folded G env n v t) v.many (reduced_so G env n v t))

            by_operator : Operator_is G (Of_two xs ys (body_of b)) row → Runs (scans env) x.sorts n S S3 a
            by_operator (operator_is ex ey gb) =
                by_under (subst (Under G env n) (sym ex) (under_of G env n last row st ga x (operator_is ex ey gb) nb)) (ap sorts_at ue ∙ body_sorts (with_vars ys (with_vars xs G)) b row gb ∙ sym ex) (subst (λ z. Bundled z x.sorts) (sym ex) x.bundled)

-- the same of an operation as it lies in Core
pub op_scan : (budget : ℕ) (o : Op) (at : Place) (us : Bor (List Atom)) (r : Rows) (f : Operator) (S S' : State) (a : Answer) → o ≡ op.Scan us r f → Act_runs budget (Scan at us.now (bundle_form r) (Of_two (out-Operator f).left.now (out-Operator f).right.now (body_of (out-Operator f).body.now))) S S' a → Act_runs budget (action_of o at) S S' a
op_scan budget o at us r f S S' a e h = subst (λ z. Act_runs budget z S S' a) (sym (ap (λ z. action_of z at) e ∙ action_of-Scan us r f at ∙ ap (Scan at us.now (bundle_form r)) (function_of-parts f))) h

pub ruleset scan_rules = (scan_memory)
