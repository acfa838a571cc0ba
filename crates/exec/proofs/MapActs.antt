-- Maps, by what the function does for each row and what is made of its results.
use Rattle.std.proofs.Common.{◌≡◌, ℕ, ◌+◌, List, [], ◌∷◌, ◌++◌, length, map, slice_get, Bor, Ok, Err, false, refl, sym, ap, ◌∙◌, subst, arith}
use Rattle.std.specs.Prelude.{ℤ}
use Rattle.fut_scalar.specs.Integers.{integer_of}
use Rattle.fut_scalar.specs.declared.place.Place.{Place}
use Rattle.fut_scalar.specs.declared.scalar.Scalar.{Scalar}
use Rattle.fut_scalar.specs.declared.scalar.Scalar.TheVariants as scalar
use Rattle.fut_scalar.specs.declared.scalar.ScalarType.TheVariants as sort
use Rattle.fut_scalar.specs.declared.scalar.IntType.{IntType}
use Rattle.fut_arithmetic.specs.Types.{type_of}
use Rattle.fut_meaning.specs.Accessors.{count_of, or_wrong}
use Rattle.fut_meaning.specs.Arrays.{each_out}
use Rattle.fut_meaning.specs.Outcomes.{Val, Fail, and_then, exact, the, Then, goes_on, stops, each_of}
use Rattle.fut_meaning.specs.Sames.{All_same, all_none, all_more}
use Rattle.fut_blocks.specs.Meaning.{fitted}
use Rattle.core_arrays.specs.Arenas.{Array}
use Rattle.core_ir.specs.declared.block.Var.{Var}
use Rattle.core_ir.specs.declared.block.Atom.{Atom}
use Rattle.core_ir.specs.declared.block.Atom.TheVariants as atom
use Rattle.core_ir.specs.declared.block.Block.{Block, out-Block}
use Rattle.core_ir.specs.declared.block.Over.{Over}
use Rattle.core_ir.specs.declared.block.Op.{Op}
use Rattle.core_ir.specs.declared.block.Op.TheVariants as op
use Rattle.core_ir.specs.Arrays.{exact_in, all_told}
use Rattle.core_ir.specs.Bundles.{Component, One, Row, glued, array_words}
use Rattle.core_ir.specs.Meaning.{Env, Results, value_of, values_of, groups_of, source_rows, counted, collected, act_means}
use Rattle.core_ir.specs.Numbered.{Act_numbered}
use Rattle.core_ir.specs.Plain.{Map, Source, group, source_form, action_of, body_of}
use Rattle.core_ir.specs.Typed.{Sort, Sorts, sort_of, with_vars, Bundled, Told, Integer, integer, Integers, integer_and, Atom_is, Atoms_are, Groups_are, Body_gives, map_gives}
use Rattle.core_ir.proofs.Layers.{action_of-Map}
use Rattle.core_code.specs.Registers.{State, ShowsScalar, Named, Stands, Kept}
use Rattle.core_code.specs.Answers.{Answer, Runs, ran, failed, no_memory}
use Rattle.core_code.specs.Runs.{Act_runs}
use Rattle.core_code.specs.declared.stop.Stop.{Stop}
use Rattle.core_code.proofs.Frames.{the_is}
use Rattle.core_steps.specs.Empties.{None_told}
use Rattle.core_steps.specs.Gluing.{sorts_at, RowsShow, GluedTold, glued_told, glue_failed, no_glue, Glued_told}
use Rattle.core_steps.specs.Sources.{SourceTold, source_told, source_failed, no_source, Source_counted}
use Rattle.exec.specs.Maps.{applied, EachRan, each_ran, each_failed, no_memory_each, Each_runs}
use Rattle.exec.proofs.Maps.{body_sorts}

-- ---- the sizes that are told

pub record Exact_values (env : Env) (us : List Atom) : Type 0 where
  pub components : Row
  pub integers : List ℤ
  pub values : values_of env us ≡ Val components
  pub exact : each_out exact_in components ≡ Val integers

exact_scalar : (s : Scalar) (t : IntType) → type_of s ≡ sort.Int t → (z : ℤ) × (exact_in (One s) ≡ Val z)
exact_scalar (scalar.Int t m) u e = (integer_of t m, refl)
exact_scalar (scalar.Bool b) u e = cc

fitted_type : (c : Scalar) → type_of (fitted c) ≡ type_of c
fitted_type (scalar.Int t n) = refl
fitted_type (scalar.Bool b) = refl

exact_values : (G : Sorts) (env : Env) (n : ℕ) (rs : List Array) (t : List ℕ) (us : List Atom) (ss : List Sort) → Stands G env n rs t → Atoms_are G us ss → Integers ss → Exact_values env us
exact_values G env n rs t _ _ st all_none i = record { components = []; integers = []; values = refl; exact = refl }
exact_values G env n rs t _ _ st (all_more {x = u} {x' = s} {xs = us} {xs' = ss} h a) (integer_and i is) =
    let k = exact_values G env n rs t us ss st a is in
    let v = by_atom u s h i in
    record {
      components = v.0 ∷ k.components;
      integers = v.1 ∷ k.integers;
      values = ap (λ z. and_then z (λ c. and_then (values_of env us) (λ ds. Val (c ∷ ds)))) v.2.0 ∙ ap (λ z. and_then z (λ ds. Val (v.0 ∷ ds))) k.values;
      exact = ap (λ z. and_then z (λ y. and_then (each_out exact_in k.components) (λ ys. Val (y ∷ ys)))) v.2.1 ∙ ap (λ z. and_then z (λ ys. Val (v.1 ∷ ys))) k.exact;
    }
  where
    by_scalar : (c : Component) (w : ℕ) (t : IntType) → ShowsScalar (sort.Int t) c w → (z : ℤ) × (exact_in c ≡ Val z)
    by_scalar c w t x = let y = exact_scalar x.scalar t x.typed.0 in (y.0, ap exact_in x.is ∙ y.1)

    by_atom : (u : Atom) (s : Sort) → Atom_is G u s → Integer s → (c : Component) × (z : ℤ) × ((value_of env u ≡ Val c) × (exact_in c ≡ Val z))
    by_atom (atom.Var x) _ h (integer {t = ty}) = let p : Named env n rs t x.number (sort.Int ty, 0) = st.each x.number (sort.Int ty, 0) h.0 in let y = by_scalar p.value p.word ty p.shows in (p.value, y.0, (ap or_wrong p.named, y.1))
    by_atom (atom.Constant c) _ h (integer {t = ty}) = let y = exact_scalar (fitted c) ty (fitted_type c ∙ ap (λ (z : Sort). z.0) h) in (One (fitted c), y.0, (refl, y.1))

pub record Told_there (env : Env) (uss : List (List Atom)) : Type 0 where
  pub groups : List Row
  pub sizes : List (List ℕ)
  pub values : groups_of env uss ≡ Val groups
  pub told : all_told groups ≡ Val sizes

pub told_there : (G : Sorts) (env : Env) (n : ℕ) (rs : List Array) (t : List ℕ) (uss : List (List Atom)) (sss : List (List Sort)) (row : List Sort) → Stands G env n rs t → Groups_are G uss sss → All_same Told sss row → Told_there env uss
told_there G env n rs t _ _ row st all_none i = record { groups = []; sizes = []; values = refl; told = refl }
told_there G env n rs t _ _ _ st (all_more {x = us} {x' = ss} {xs = uss} {xs' = sss} a g) (all_more {xs' = row} i is) =
    let v = exact_values G env n rs t us ss st a i.are in
    let k = told_there G env n rs t uss sss row st g is in
    record {
      groups = v.components ∷ k.groups;
      sizes = map count_of v.integers ∷ k.sizes;
      values = ap (λ z. and_then z (λ cs. and_then (groups_of env uss) (λ css. Val (cs ∷ css)))) v.values ∙ ap (λ z. and_then z (λ css. Val (v.components ∷ css))) k.values;
      told = ap (λ z. and_then (and_then z (λ zs. Val (map count_of zs))) (λ y. and_then (all_told k.groups) (λ ys. Val (y ∷ ys)))) v.exact ∙ ap (λ z. and_then z (λ ys. Val (map count_of v.integers ∷ ys))) k.told;
    }

collected_is : (at : Place) (env : Env) (uss : List (List Atom)) (rows : List Row) (k : Told_there env uss) → collected false at env uss rows ≡ glued false at k.sizes rows
collected_is at env uss rows k =
    ap (λ z. and_then z (λ css. and_then (all_told css) (λ ds. glued false at ds rows))) k.values ∙ ap (λ z. and_then z (λ ds. glued false at ds rows)) k.told

-- ---- maps

module _ (budget : ℕ) (at : Place) (source : Source) (told : List (List Atom)) (xs : List Var) (b : Block) (S : State) where
  abbrev after : Env → List Row → Results
  after env rs = Then (each_of (applied budget (body_of b) xs env) rs) (λ rows. counted (collected false at env told rows))

  abbrev mapped : Env → Results
  mapped env = Then (the (source_rows false at env source)) (after env)

  pub map_failed : (S' : State) (e : Stop) → Source_counted S.words S.arena.arrays source at (Err e) → Act_runs budget (Map at source told xs (body_of b)) S S' (Err e)
  unfolding Source_counted Act_runs act_means Act_numbered
  map_failed S' e h G env _ n last st (map_gives {out = out} gs gb gt ga bd) nb = by_source out (h G env n (map sort_of xs) st gs)
    where
      by_source : {e : Stop} (out : List Sort) → SourceTold (source_rows false at env source) (Err e) → Runs (mapped env) out n S S' (Err e)
      by_source out (source_failed {r} y) = failed 0 (stops (the_is (source_rows false at env source) (Fail r) y))
      by_source out no_source = no_memory

  module _ (count : ℕ) (h : Source_counted S.words S.arena.arrays source at (Ok count)) where
    pub map_stopped : (S' : State) (e : Stop) → Each_runs budget (body_of b) xs source count S S' (Err e) → Act_runs budget (Map at source told xs (body_of b)) S S' (Err e)
    unfolding Source_counted Each_runs Act_runs act_means Act_numbered
    map_stopped S' e k G env _ n last st (map_gives {row = row} {out = out} gs gb gt ga bd) (mid, u, nb) = by_source out row gb count refl (h G env n (map sort_of xs) st gs)
      where
        by_each : {e : Stop} (out ss : List Sort) (rows : List Row) → source_rows false at env source ≡ Val rows → EachRan (each_of (applied budget (body_of b) xs env) rows) ss count n S S' (Err e) → Runs (mapped env) out n S S' (Err e)
        by_each out ss rows y (each_failed {r} f z) = failed (0 + f) (goes_on (the_is (source_rows false at env source) (Val rows) y) (stops z))
        by_each out ss rows y no_memory_each = no_memory

        by_source : (out ss : List Sort) → Body_gives (with_vars xs G) (body_of b) ss → (c : ℕ) → c ≡ count → SourceTold (source_rows false at env source) (Ok c) → Runs (mapped env) out n S S' (Err e)
        by_source out ss gb _ q (source_told rows y) =
            by_each out ss rows y (k G env n ss rows (record { mid = mid; last = last; stands = st; rises = u; gives = gs; at = at; read = y; typed = gb; numbered = nb }) q)

    pub map_done : (mark : ℕ) (S1 S2 : State) (a : Answer) → (count ≡ 0 → ⊥) → mark ≡ length S.stack → Each_runs budget (body_of b) xs source count S S1 (Ok tt) → Glued_told (out-Block b).results.now count mark at S1 S2 a → S2.words ≡ S1.words → Act_runs budget (Map at source told xs (body_of b)) S S2 a
    unfolding Source_counted Each_runs Glued_told Act_runs act_means Act_numbered
    map_done mark S1 S2 a ne p k g w G env _ n last st (map_gives {sizes = sizes} {row = row} {out = out} gs gb gt ga bd) (mid, u, nb) =
        by_source out row gb bd (told_there G env n S.arena.arrays S.words told sizes row st gt ga) count refl (h G env n (map sort_of xs) st gs)
      where
        us : List Atom
        us = (out-Block b).results.now

        by_glue : {a : Answer} (out : List Sort) (rows outs : List Row) (f : ℕ) → source_rows false at env source ≡ Val rows → Kept n S S1 f → each_of (applied budget (body_of b) xs env) rows (Val outs) f → GluedTold (collected false at env told outs) out S.stack S1 S2 a → Runs (mapped env) out n S S2 a
        by_glue out rows outs f y v z (glued_told cs ws e sh q m) =
            ran cs ws (0 + (f + (0 + array_words cs))) q sh
            (record { words = λ x l. ap (λ t. slice_get t x) w ∙ v.words x l; arrays = λ i c d. m.arrays i c (v.arrays i c d); handed = omega (arith, v.handed, m.handed) })
            (goes_on (the_is (source_rows false at env source) (Val rows) y) (goes_on z (goes_on (the_is (collected false at env told outs) (Val cs) e) exact)))
        by_glue out rows outs f y v z (glue_failed {r} e) =
            failed (0 + (f + 0)) (goes_on (the_is (source_rows false at env source) (Val rows) y) (goes_on z (stops (the_is (collected false at env told outs) (Fail r) e))))
        by_glue out rows outs f y v z no_glue = no_memory

        by_outs : (out ss : List Sort) → sorts_at us ≡ ss → Bundled ss out → Told_there env told → (rows outs : List Row) (ws : List ℕ) (f : ℕ) → source_rows false at env source ≡ Val rows → S1.stack ≡ S.stack ++ ws → RowsShow S1.arena.arrays ss outs ws → length outs ≡ count → Kept n S S1 f → each_of (applied budget (body_of b) xs env) rows (Val outs) f → Runs (mapped env) out n S S2 a
        by_outs out ss e bd td rows [] ws f y q sh m v z = absurd (ne (sym m))
        by_outs out ss e bd td rows (o ∷ outs) ws f y q sh m v z =
            by_glue out rows (o ∷ outs) f y v z
            (subst (λ x. GluedTold x out S.stack S1 S2 a) (sym (collected_is at env told (o ∷ outs) td))
            (g o outs S.stack ws td.sizes out q (sym p) (subst (λ x. RowsShow S1.arena.arrays x (o ∷ outs) ws) (sym e) sh) m (subst (λ x. Bundled x out) (sym e) bd)))

        by_each : (out ss : List Sort) → sorts_at us ≡ ss → Bundled ss out → Told_there env told → (rows : List Row) → source_rows false at env source ≡ Val rows → EachRan (each_of (applied budget (body_of b) xs env) rows) ss count n S S1 (Ok tt) → Runs (mapped env) out n S S2 a
        by_each out ss e bd td rows y (each_ran outs ws f q sh m v z) = by_outs out ss e bd td rows outs ws f y q sh m v z

        by_source : (out ss : List Sort) → Body_gives (with_vars xs G) (body_of b) ss → Bundled ss out → Told_there env told → (c : ℕ) → c ≡ count → SourceTold (source_rows false at env source) (Ok c) → Runs (mapped env) out n S S2 a
        by_source out ss gb bd td _ q (source_told rows y) =
            by_each out ss (body_sorts (with_vars xs G) b ss gb) bd td rows y (k G env n ss rows (record { mid = mid; last = last; stands = st; rises = u; gives = gs; at = at; read = y; typed = gb; numbered = nb }) q)

    pub map_glued : (mark : ℕ) (S1 S2 : State) (a : Answer) → (count ≡ 0 → ⊥) → mark ≡ length S.stack → Each_runs budget (body_of b) xs source count S S1 (Ok tt) → (us : List Atom) → us ≡ (out-Block b).results.now → Glued_told us count mark at S1 S2 a → S2.words ≡ S1.words → Act_runs budget (Map at source told xs (body_of b)) S S2 a
    map_glued mark S1 S2 a ne p k us q g w = map_done mark S1 S2 a ne p k (subst (λ z. Glued_told z count mark at S1 S2 a) q g) w

    pub map_none : (S2 : State) (a : Answer) → count ≡ 0 → None_told told at S S2 a → S2.words ≡ S.words → Act_runs budget (Map at source told xs (body_of b)) S S2 a
    unfolding Source_counted None_told Act_runs act_means Act_numbered
    map_none S2 a z g w G env _ n last st (map_gives {sizes = sizes} {row = row} {out = out} gs gb gt ga bd) nb = by_source out count refl (g G env n sizes row out st gt ga bd) (h G env n (map sort_of xs) st gs)
      where
        by_glue : {a : Answer} (out : List Sort) → source_rows false at env source ≡ Val [] → GluedTold (collected false at env told []) out S.stack S S2 a → Runs (mapped env) out n S S2 a
        by_glue out y (glued_told cs ws e sh q m) =
            ran cs ws (0 + (0 + (0 + array_words cs))) q sh (record { words = λ x l. ap (λ t. slice_get t x) w; arrays = m.arrays; handed = omega (arith, m.handed) })
            (goes_on (the_is (source_rows false at env source) (Val []) y) (goes_on exact (goes_on (the_is (collected false at env told []) (Val cs) e) exact)))
        by_glue out y (glue_failed {r} e) = failed (0 + (0 + 0)) (goes_on (the_is (source_rows false at env source) (Val []) y) (goes_on exact (stops (the_is (collected false at env told []) (Fail r) e))))
        by_glue out y no_glue = no_memory

        by_source : (out : List Sort) (c : ℕ) → c ≡ count → GluedTold (collected false at env told []) out S.stack S S2 a → SourceTold (source_rows false at env source) (Ok c) → Runs (mapped env) out n S S2 a
        by_source out _ q g (source_told [] y) = by_glue out y g
        by_source out _ q g (source_told (r ∷ rows) y) = absurd (omega (arith, q, z))

-- the same of an operation as it lies in Core
pub op_map : (budget : ℕ) (o : Op) (at : Place) (s : Over) (told : Bor (List (Bor (List Atom)))) (xs : Bor (List Var)) (b : Bor Block) (S S' : State) (a : Answer) → o ≡ op.Map s told xs b → Act_runs budget (Map at (source_form s) (map group told.now) xs.now (body_of b.now)) S S' a → Act_runs budget (action_of o at) S S' a
op_map budget o at s told xs b S S' a e h = subst (λ z. Act_runs budget z S S' a) (sym (ap (λ z. action_of z at) e ∙ action_of-Map s told xs b at)) h
