-- Functions that are applied to rows.
use Rattle.std.proofs.Common.{◌≡◌, ℕ, suc, ◌+◌, ◌<◌, List, [], ◌∷◌, ◌++◌, length, map, drop, slice_get, Some, Ok, Err, refl, sym, ap, ◌∙◌, subst, arith, add-one, append_assoc}
use Rattle.std.proofs.lemmas.List.{append-nil, length-append}
use Rattle.fut_meaning.specs.Outcomes.{Val, Fail, Rel, exact, gives, Then, goes_on, stops, sticks, each_of}
use Rattle.core_arrays.specs.Arenas.{Array}
use Rattle.core_ir.specs.declared.block.Var.{Var}
use Rattle.core_ir.specs.declared.block.Atom.{Atom}
use Rattle.core_ir.specs.declared.block.Block.{Block, out-Block}
use Rattle.core_ir.specs.Bundles.{Row}
use Rattle.core_ir.specs.Meaning.{Env, Results}
use Rattle.core_ir.specs.Plain.{Action, Body, Source, lets, binding_of, body_of}
use Rattle.core_ir.specs.Typed.{Sort, Sorts, sort_of, with_vars, Body_gives, give_gives, let_gives}
use Rattle.core_ir.proofs.Layers.{body_of-parts}
use Rattle.core_code.specs.Registers.{State, AllShow, Kept}
use Rattle.core_code.specs.Answers.{Answer, Runs, ran, failed, no_memory}
use Rattle.core_code.specs.Runs.{with_stack}
use Rattle.core_code.specs.declared.stop.Stop.{Stop}
use Rattle.core_code.specs.declared.stop.Stop.TheVariants.{Memory}
use Rattle.core_code.proofs.Frames.{Leads, leads_same, leads_trans, runs_on, kept_same, kept_trans, stands_kept, stands_on, all_show_on}
use Rattle.core_steps.proofs.Literals.{results_sorts, rows_append}
use Rattle.core_steps.specs.Gluing.{sorts_at, RowsShow, no_rows_shown, row_shown_and}
use Rattle.core_steps.specs.Rows.{RowPushed, row_pushed}
use Rattle.core_steps.specs.Sources.{Source_pushed}
use Rattle.exec.specs.Folds.{Under_runs}
use Rattle.exec.specs.Maps.{Mapping, applied, Element_runs, EachRan, each_ran, each_failed, no_memory_each, Each_runs}
use Rattle.exec.proofs.Folds.{Row_there, row_there, none_left, get_within}

-- ---- one row

some_same : {A : Type 0} (o : _) (a b : A) → o ≡ Some a → o ≡ Some b → a ≡ b
some_same o a b e f = let h : Some a ≡ Some b = sym e ∙ f in cc

module _ (budget : ℕ) (b : Body) (xs : List Var) (source : Source) (i : ℕ) (S : State) where
  pub element_memory : (S' : State) (e : Stop) → e ≡ Memory → Element_runs budget b xs source i S S' (Err e)
  unfolding Element_runs
  element_memory S' e q G env n ss rows row on f = subst (λ z. Runs (applied budget b xs env row) ss n S S' (Err z)) (sym q) no_memory

  pub element_done : (mark : ℕ) (S1 S' : State) (a : Answer) → mark ≡ length S.stack → S1.words ≡ S.words → Source_pushed source i S S1 (Ok tt) → Under_runs budget b xs mark S1 S' a → Element_runs budget b xs source i S S' a
  unfolding Source_pushed Under_runs Element_runs
  element_done mark S1 S' a p w h u G env n ss rows row on f =
      by_push (h G env n (map sort_of xs) rows on.at on.stands on.gives on.read (get_within rows i row f))
    where
      by_push : RowPushed (λ ds. slice_get rows i ≡ Some ds) (map sort_of xs) S S1 (Ok tt) → Runs (applied budget b xs env row) ss n S S' a
      by_push (row_pushed ds ws y sh z g) =
          let same : ds ≡ row = some_same (slice_get rows i) ds row y f in
          let inner = u G env n on.mid on.last S.stack ds ss
          (stands_on G env n n S.arena.arrays S1.arena.arrays S.words S1.words (omega arith) (λ x l. ap (λ t. slice_get t x) w) g.arrays on.stands) on.rises on.typed on.numbered
          (record { ws = ws; stack = z; long = sym p; shown = sh }) in
          subst (λ v. Runs (applied budget b xs env v) ss n S S' a) same
          (runs_on (applied budget b xs env ds) (applied budget b xs env ds) ss n n S (with_stack S1 S.stack) S' 0 a (omega arith)
          (record { words = λ x l. ap (λ t. slice_get t x) w; arrays = g.arrays; handed = omega (arith, g.handed) }) refl (leads_same (applied budget b xs env ds)) inner)

pub ruleset elements = (element_memory)

-- ---- all rows

-- the rows so far before those of the rest
abbrev pub then_all : {A : Type 0} → List A → Rel (List A) → Rel (List A)
then_all outs m = Then m (λ ys. gives 0 (outs ++ ys))

pub one_result : {A : Type 0} (outs : List A) (y : A) (f : ℕ) (m : Rel A) (rest : Rel (List A)) → m (Val y) f → Leads f (then_all outs (Then m (λ y. Then rest (λ ys. gives 0 (y ∷ ys))))) (then_all (outs ++ y ∷ []) rest)
one_result outs y f m rest h _ _ (goes_on {a = ys} {f = g} k exact) =
    (f + (g + 0) + 0, subst (λ z. then_all outs (Then m (λ y. Then rest (λ ys. gives 0 (y ∷ ys)))) (Val z) (f + (g + 0) + 0)) (sym (append_assoc outs (y ∷ []) ys)) (goes_on (goes_on h (goes_on k exact)) exact), omega arith)
one_result outs y f m rest h _ _ (stops {r = r} {f = g} k) = (f + g, stops (goes_on h (stops k)), omega arith)
one_result outs y f m rest h _ _ (sticks {f = g} k) = (f + g, sticks (goes_on h (sticks k)), omega arith)

-- all rows so far, and what is left to do
pub data Each_so (whole : Rel (List Row)) (rest : Rel (List Row)) (ss : List Sort) (j n : ℕ) (S0 S : State) : Type 0 where
  each_so : (outs : List Row) (ws : List ℕ) (c : ℕ) → S.stack ≡ S0.stack ++ ws → RowsShow S.arena.arrays ss outs ws → length outs ≡ j → Kept n S0 S c → Leads c whole (then_all outs rest) → Each_so whole rest ss j n S0 S

unfoldable pub Each_goes : ℕ → Body → List Var → Source → ℕ → ℕ → State → State → Type 0
Each_goes budget b xs source count j S0 S =
    (G : Sorts) (env : Env) (n : ℕ) (ss : List Sort) (rows : List Row) → Mapping G env xs source b ss n rows S0 → length rows ≡ count → Each_so (each_of (applied budget b xs env) rows) (each_of (applied budget b xs env) (drop j rows)) ss j n S0 S

pub mapping_on : (G : Sorts) (env : Env) (xs : List Var) (source : Source) (b : Body) (ss : List Sort) (n : ℕ) (rows : List Row) (S0 S : State) (c : ℕ) → Kept n S0 S c → Mapping G env xs source b ss n rows S0 → Mapping G env xs source b ss n rows S
mapping_on G env xs source b ss n rows S0 S c k on =
    record { mid = on.mid; last = on.last; stands = stands_kept G env n S0 S c on.stands k; rises = on.rises; gives = on.gives; at = on.at; read = on.read; typed = on.typed; numbered = on.numbered }

pub rows_on : (rs rs' : List Array) (ss : List Sort) (rows : List Row) (ws : List ℕ) → ((i : ℕ) (a : Array) → slice_get rs i ≡ Some a → slice_get rs' i ≡ Some a) → RowsShow rs ss rows ws → RowsShow rs' ss rows ws
rows_on rs rs' ss _ _ g no_rows_shown = no_rows_shown
rows_on rs rs' ss _ _ g (row_shown_and {row = row} {rows = rows} {ws = ws} {vs = vs} x sh) = row_shown_and (all_show_on rs rs' ss row ws g x) (rows_on rs rs' ss rows vs g sh)

pub leads_nil : {A : Type 0} (m : Rel (List A)) → Leads 0 m (then_all [] m)
leads_nil m _ _ (goes_on {f = f} k exact) = (f, k, omega arith)
leads_nil m _ _ (stops {f = f} k) = (f, k, omega arith)
leads_nil m _ _ (sticks {f = f} k) = (f, k, omega arith)

module _ (budget : ℕ) (b : Body) (xs : List Var) (source : Source) (count : ℕ) where
  abbrev all : Env → List Row → Rel (List Row)
  all env rows = each_of (applied budget b xs env) rows

  pub each_start : (S : State) → Each_goes budget b xs source count 0 S S
  unfolding Each_goes
  each_start S G env n ss rows on m = each_so [] [] 0 (sym (append-nil S.stack)) no_rows_shown refl (kept_same n S) (leads_nil (all env rows))

  module _ (j : ℕ) (S0 S : State) (h : Each_goes budget b xs source count j S0 S) where
    module _ (S1 : State) (l : j < count) where
      pub each_stop : (e : Stop) → Element_runs budget b xs source j S S1 (Err e) → Each_runs budget b xs source count S0 S1 (Err e)
      unfolding Each_goes Element_runs Each_runs
      each_stop e k G env n ss rows on m = by_row (row_there rows j (omega (arith, l, m))) (h G env n ss rows on m)
        where
          by_run : {e : Stop} (row : Row) (outs : List Row) (c : ℕ) → Leads c (all env rows) (then_all outs (all env (row ∷ drop (suc j) rows))) → Runs (applied budget b xs env row) ss n S S1 (Err e) → EachRan (all env rows) ss count n S0 S1 (Err e)
          by_run row outs c g (failed {r} f y) = let z = g (Fail r) f (stops (stops y)) in each_failed z.0 z.1
          by_run row outs c g no_memory = no_memory_each

          by_row : Row_there rows j → Each_so (all env rows) (all env (drop j rows)) ss j n S0 S → EachRan (all env rows) ss count n S0 S1 (Err e)
          by_row t (each_so outs ws c p sh q k' g) =
              by_run t.row outs c (subst (λ z. Leads c (all env rows) (then_all outs (all env z))) t.left g) (k G env n ss rows t.row (mapping_on G env xs source b ss n rows S0 S c k' on) t.there)

      pub each_more : Element_runs budget b xs source j S S1 (Ok tt) → Each_goes budget b xs source count (j + 1) S0 S1
      unfolding Each_goes Element_runs
      each_more k G env n ss rows on m =
          subst (λ z. Each_so (all env rows) (all env (drop z rows)) ss z n S0 S1) (sym (add-one j)) (by_row (row_there rows j (omega (arith, l, m))) (h G env n ss rows on m))
        where
          by_run : (row : Row) (outs : List Row) (ws : List ℕ) (c : ℕ) → S.stack ≡ S0.stack ++ ws → RowsShow S.arena.arrays ss outs ws → length outs ≡ j → Kept n S0 S c → Leads c (all env rows) (then_all outs (all env (row ∷ drop (suc j) rows))) → Runs (applied budget b xs env row) ss n S S1 (Ok tt) → Each_so (all env rows) (all env (drop (suc j) rows)) ss (suc j) n S0 S1
          by_run row outs ws c p sh q k' g (ran cs vs f z x w y) =
              each_so (outs ++ cs ∷ []) (ws ++ vs) (c + f) (z ∙ ap (λ s. s ++ vs) p ∙ append_assoc S0.stack ws vs)
              (rows_append S1.arena.arrays ss outs ws cs vs (rows_on S.arena.arrays S1.arena.arrays ss outs ws w.arrays sh) x)
              (omega (arith, q, length-append outs (cs ∷ []))) (kept_trans n S0 S S1 c f k' w)
              (leads_trans c f (all env rows) (then_all outs (all env (row ∷ drop (suc j) rows))) (then_all (outs ++ cs ∷ []) (all env (drop (suc j) rows))) g
              (one_result outs cs f (applied budget b xs env row) (all env (drop (suc j) rows)) y))

          by_row : Row_there rows j → Each_so (all env rows) (all env (drop j rows)) ss j n S0 S → Each_so (all env rows) (all env (drop (suc j) rows)) ss (suc j) n S0 S1
          by_row t (each_so outs ws c p sh q k' g) =
              by_run t.row outs ws c p sh q k' (subst (λ z. Leads c (all env rows) (then_all outs (all env z))) t.left g) (k G env n ss rows t.row (mapping_on G env xs source b ss n rows S0 S c k' on) t.there)

    pub each_end : j ≡ count → Each_runs budget b xs source count S0 S (Ok tt)
    unfolding Each_goes Each_runs
    each_end l G env n ss rows on m = by_so (h G env n ss rows on m)
      where
        by_so : Each_so (all env rows) (all env (drop j rows)) ss j n S0 S → EachRan (all env rows) ss count n S0 S (Ok tt)
        by_so (each_so outs ws c p sh q k' g) =
            let z = subst (λ z. Leads c (all env rows) (then_all outs (all env z))) (none_left rows j (omega (arith, l, m))) g (Val (outs ++ [])) 0 (goes_on exact exact) in
            each_ran outs ws z.0 p sh (q ∙ l) (record { words = k'.words; arrays = k'.arrays; handed = omega (arith, k'.handed, z.2) }) (subst (λ y. all env rows (Val y) z.0) (append-nil outs) z.1)

pub ruleset maps = (each_start, each_stop, each_more, each_end)

-- ---- the sorts of a block's results

lets_sorts : (G : Sorts) (steps : List (List Var × Action)) (us : List Atom) (ss : List Sort) → Body_gives G (lets steps us) ss → sorts_at us ≡ ss
unfolding lets
lets_sorts G [] us ss (give_gives a) = results_sorts G us ss a
lets_sorts G (s ∷ steps) us ss (let_gives x y) = lets_sorts (with_vars s.0 G) steps us ss y

pub body_sorts : (G : Sorts) (b : Block) (ss : List Sort) → Body_gives G (body_of b) ss → sorts_at (out-Block b).results.now ≡ ss
body_sorts G b ss g = lets_sorts G (map binding_of (out-Block b).steps.now) (out-Block b).results.now ss (subst (λ z. Body_gives G z ss) (body_of-parts b) g)
