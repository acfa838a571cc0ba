-- Where what does not fit is Wrong, a Core has the outcomes that it had, or goes wrong.
use Rattle.std.proofs.Common.{◌≡◌, ◌⊎◌, inl, inr, ℕ, ◌*◌, List, [], ◌∷◌, ◌++◌, map, length, replicate, Bool, true, false, ℤ, pos, negsuc, nat_eq}
use Rattle.fut_scalar.specs.declared.place.Place.{Place}
use Rattle.fut_scalar.specs.declared.report.FailKind.TheVariants as kind
use Rattle.fut_scalar.specs.declared.scalar.Scalar.TheVariants as scalar
use Rattle.fut_meaning.specs.Arrays.{fitting, each_out, checked, Cut, Cut_at, Cut_slice, Cut_backwards, picks}
use Rattle.fut_meaning.specs.Jobs.{places}
use Rattle.fut_meaning.specs.Meaning.{counts}
use Rattle.fut_meaning.specs.Operations.{report}
use Rattle.fut_meaning.specs.Outcomes.{Out, Wrong, Rel, bracket, tree_gives}
use Rattle.fut_meaning.proofs.Fitting.{Goes_wrong, Fitted, Fitted_out, fits, misfits, fitted_same, fitted_the, fitted_then, fitted_first, fitted_choose, fitted_each_of, fitted_turns, fitted_while, fitted_all_of, fitted_tree}
use Rattle.fut_meaning.proofs.FittingJobs.{out_then, out_first}
use Rattle.core_ir.specs.declared.block.Atom.{Atom}
use Rattle.core_ir.specs.declared.block.Var.{Var}
use Rattle.core_ir.specs.declared.block.Core.{Core}
use Rattle.core_ir.specs.Lists.{parts, around, joined, crossed, prefixes_on}
use Rattle.core_ir.specs.Bundles.{One, Row, all_sizes, all_same_sizes, all_have, as_long, size_of, rows_in, rows_of, row_sizes, stacked, glued, within_weight, sizes_or}
use Rattle.core_ir.specs.Arrays.{exact_in, sized, rows_together, sizes_together, inner_rows, stacked_twice, cuts, cut, first_sizes, first_size, updated, agree, written, all_told, done, array_sizes, inner_sizes}
use Rattle.core_ir.specs.Plain.{Bundle, Deed, Index, Transpose, Own, Literal, Empty, Iota, Range, Replicate, Concat, Rotate, Copy, Zip, Flatten, Unflatten, Update, Source, Of_rows, Of_numbers, Action, Operate, Do, Map, Filter, Partition, Reduce, Scan, Scatter, Hist, If, For, For_in, While, Function, Of_two, Body, Give, Let, body_of}
use Rattle.core_ir.specs.Meaning.{Env, Results, Reduction, reduction, groups_of, values_of, source_rows, collected, kept, parted, tested, test_turn, reduced, scanned, scattered, combined, act_means, function_means, body_means}
use Rattle.core_ir.specs.Programs.{Core_means}
use Rattle.core_ir.specs.Claims.{FittedAddsNothing, FittedLosesNothing}
use Rattle.core_ir.proofs.Tight.{loose_core}

out_fitting : {A : Type 0} (b : Bool) (at : Place) {o o' : Out A} → Fitted_out o o' → Fitted_out (fitting false b at o) (fitting true b at o')
out_fitting true at h = h
out_fitting false at h = misfits

out_each : {A B : Type 0} (g l : A → Out B) → ((a : A) → Fitted_out (g a) (l a)) → (xs : List A) → Fitted_out (each_out g xs) (each_out l xs)
out_each g l h [] = fits
out_each g l h (x ∷ xs) = out_first _ _ (h x) (λ y. out_first _ _ (out_each g l h xs) (λ ys. fits))

-- ---- rows

long_fits : (at : Place) (n : ℕ) (cs : Row) → Fitted_out (as_long false at n cs) (as_long true at n cs)
long_fits at n [] = fits
long_fits at n (c ∷ cs) = out_then (rows_in c) _ _ (λ m. out_fitting (nat_eq m n) at (long_fits at n cs))

size_fits : (at : Place) (cs : Row) → Fitted_out (size_of false at cs) (size_of true at cs)
size_fits at [] = fits
size_fits at (c ∷ cs) = out_then (rows_in c) _ _ (λ n. long_fits at n cs)

rows_fit : (at : Place) (w : ℕ) (bs : Row) → Fitted_out (rows_of false at w bs) (rows_of true at w bs)
unfolding rows_of
rows_fit at w bs = out_first _ _ (size_fits at bs) (λ n. fits)

stacked_fits : (at : Place) (ds : List (List ℕ)) (rows : List Row) → Fitted_out (stacked false at ds rows) (stacked true at ds rows)
unfolding stacked
stacked_fits at ds rows = out_fitting (all_have ds rows) at fits

glued_fits : (at : Place) (ds : List (List ℕ)) (rows : List Row) → Fitted_out (glued false at ds rows) (glued true at ds rows)
unfolding glued
glued_fits at ds rows = out_first _ _ (stacked_fits at (sizes_or ds rows) rows) (λ bs. fits)

together_fit : (at : Place) (ws : List ℕ) (bss : List Row) → Fitted_out (rows_together false at ws bss) (rows_together true at ws bss)
together_fit at [] bss = fits
together_fit at (w ∷ []) [] = fits
together_fit at (w ∷ []) (bs ∷ []) = rows_fit at w bs
together_fit at (w ∷ []) (bs ∷ cs ∷ bss) = out_first _ _ (rows_fit at w bs) (λ rs. fits)
together_fit at (w ∷ v ∷ ws) [] = fits
together_fit at (w ∷ v ∷ ws) (bs ∷ bss) = out_first _ _ (rows_fit at w bs) (λ rs. out_first _ _ (together_fit at (v ∷ ws) bss) (λ ss. out_fitting (nat_eq (length rs) (length ss)) at fits))

inner_fit : (at : Place) (rs : List Row) → Fitted_out (inner_rows false at rs) (inner_rows true at rs)
inner_fit at rs = out_each _ _ (rows_fit at 1) rs

twice_fits : (at : Place) (m : ℕ) (ds : List (List ℕ)) (rss : List (List Row)) → Fitted_out (stacked_twice false at m ds rss) (stacked_twice true at m ds rss)
twice_fits at m ds rss = out_first _ _ (out_each _ _ (stacked_fits at ds) rss) (λ rs. glued_fits at _ rs)

out_sized : {A : Type 0} (at : Place) (z : ℤ) (k l : ℕ → Out A) → ((n : ℕ) → Fitted_out (k n) (l n)) → Fitted_out (sized at z k) (sized at z l)
out_sized at (pos n) k l h = h n
out_sized at (negsuc n) k l h = fits

out_checked : {A : Type 0} (b : Bool) (at : Place) {o o' : Out A} → Fitted_out o o' → Fitted_out (checked b kind.Size at o) (checked b kind.Size at o')
out_checked true at h = h
out_checked false at h = fits

cut_fits : (at : Place) (w : ℕ) (cs : List Cut) (bs : Row) → Fitted_out (cut false at w cs bs) (cut true at w cs bs)
unfolding cut
cut_fits at w [] bs = fits
cut_fits at w (Cut_at i ∷ cs) bs = out_first _ _ (rows_fit at _ bs) (λ rs. out_then _ _ _ (cut_fits at w cs))
cut_fits at w (Cut_slice i j ∷ cs) bs = out_first _ _ (rows_fit at 1 bs) (λ rs. out_first _ _ (out_each _ _ (cut_fits at w cs) _) (λ rows. stacked_fits at _ rows))
cut_fits at w (Cut_backwards ∷ cs) bs = out_first _ _ (rows_fit at 1 bs) (λ rs. out_first _ _ (out_each _ _ (cut_fits at w cs) _) (λ rows. stacked_fits at _ rows))

updated_fits : (at : Place) (zs : List ℤ) (v bs : Row) → Fitted_out (updated false at zs v bs) (updated true at zs v bs)
unfolding updated
updated_fits at [] v bs = out_fitting (all_same_sizes (all_sizes v) (all_sizes bs)) at fits
updated_fits at (z ∷ zs) v bs = out_first _ _ (rows_fit at _ bs) (λ rs. out_then _ _ _ (λ r. out_first _ _ (updated_fits at zs v r) (λ r'. stacked_fits at _ _)))

written_fits : (at : Place) (w : ℕ) (bs : Row) (c : Rattle.core_ir.specs.Bundles.Component) (vs : Row) → Fitted_out (written false at w bs c vs) (written true at w bs c vs)
written_fits at w bs c vs = out_first _ _ (rows_fit at w bs) (λ rs. out_then _ _ _ (λ zs. out_first _ _ (rows_fit at w vs) (λ ss. out_fitting (nat_eq (length zs) (length ss)) at (out_fitting (agree rs ss (row_sizes w bs) (row_sizes w vs)) at fits))))

-- ---- steps without a block

done_fits : (d : Deed) (at : Place) (css : List Row) → Fitted_out (done false d at css) (done true d at css)
unfolding done
done_fits (Index w ps) at [] = fits
done_fits (Index w ps) at (bs ∷ []) = fits
done_fits (Index w ps) at (bs ∷ is ∷ []) = out_then (each_out exact_in is) _ _ (λ zs. out_then (picks ps zs) _ _ (λ qs. out_then (cuts at qs (first_sizes bs)) _ _ (λ cs. out_first (within_weight at) (within_weight at) (cut_fits at w cs bs) (λ rs. fits))))
done_fits (Index w ps) at (bs ∷ is ∷ c ∷ css) = fits
done_fits Transpose at [] = fits
done_fits Transpose at (bs ∷ []) = out_first _ _ (rows_fit at 1 bs) (λ rs. out_first _ _ (inner_fit at rs) (λ rss. twice_fits at (length rs) (inner_sizes bs) (crossed (first_size (array_sizes bs)) rss)))
done_fits Transpose at (bs ∷ c ∷ css) = fits
done_fits Own at [] = fits
done_fits Own at (bs ∷ []) = fits
done_fits Own at (bs ∷ c ∷ css) = fits
done_fits Literal at css = glued_fits at [] css
done_fits Empty at css = out_then (all_told css) _ _ (λ ds. glued_fits at ds [])
done_fits Iota at [] = fits
done_fits Iota at ([] ∷ css) = fits
done_fits Iota at ((c ∷ []) ∷ []) = fits
done_fits Iota at ((c ∷ []) ∷ bs ∷ css) = fits
done_fits Iota at ((c ∷ d ∷ cs) ∷ css) = fits
done_fits (Range stepped e) at [] = fits
done_fits (Range stepped e) at (bs ∷ []) = fits
done_fits (Range stepped e) at (bs ∷ c ∷ css) = fits
done_fits Replicate at [] = fits
done_fits Replicate at ([] ∷ css) = fits
done_fits Replicate at ((c ∷ []) ∷ []) = fits
done_fits Replicate at ((c ∷ []) ∷ row ∷ []) = out_then (exact_in c) _ _ (λ z. out_sized at z _ _ (λ n. glued_fits at (all_sizes row) (replicate n row)))
done_fits Replicate at ((c ∷ []) ∷ row ∷ d ∷ css) = fits
done_fits Replicate at ((c ∷ d ∷ cs) ∷ css) = fits
done_fits Concat at [] = fits
done_fits Concat at (bs ∷ []) = fits
done_fits Concat at (bs ∷ cs ∷ []) = out_first _ _ (rows_fit at 1 bs) (λ rs. out_first _ _ (rows_fit at 1 cs) (λ ss. glued_fits at (array_sizes bs) (rs ++ ss)))
done_fits Concat at (bs ∷ cs ∷ c ∷ css) = fits
done_fits Rotate at [] = fits
done_fits Rotate at ([] ∷ css) = fits
done_fits Rotate at ((c ∷ []) ∷ []) = fits
done_fits Rotate at ((c ∷ []) ∷ bs ∷ []) = out_then (exact_in c) _ _ (λ z. out_first _ _ (rows_fit at 1 bs) (λ rs. glued_fits at (array_sizes bs) (around z rs)))
done_fits Rotate at ((c ∷ []) ∷ bs ∷ d ∷ css) = fits
done_fits Rotate at ((c ∷ d ∷ cs) ∷ css) = fits
done_fits Copy at [] = fits
done_fits Copy at (bs ∷ []) = fits
done_fits Copy at (bs ∷ c ∷ css) = fits
done_fits (Zip ws) at bss = out_first _ _ (together_fit at ws bss) (λ rs. glued_fits at (sizes_together ws bss) rs)
done_fits Flatten at [] = fits
done_fits Flatten at (bs ∷ []) = out_first _ _ (rows_fit at 1 bs) (λ rs. out_first _ _ (inner_fit at rs) (λ rss. glued_fits at (inner_sizes bs) (joined rss)))
done_fits Flatten at (bs ∷ c ∷ css) = fits
done_fits Unflatten at [] = fits
done_fits Unflatten at ([] ∷ css) = fits
done_fits Unflatten at ((c ∷ []) ∷ css) = fits
done_fits Unflatten at ((c ∷ d ∷ []) ∷ []) = fits
done_fits Unflatten at ((c ∷ d ∷ []) ∷ bs ∷ []) = out_then (exact_in c) _ _ (λ z. out_then (exact_in d) _ _ (λ w. out_first _ _ (rows_fit at 1 bs) (λ rs. out_sized at z _ _ (λ n. out_sized at w _ _ (λ m. out_checked (nat_eq (n * m) (length rs)) at (twice_fits at m (array_sizes bs) (parts n m rs)))))))
done_fits Unflatten at ((c ∷ d ∷ []) ∷ bs ∷ cs ∷ css) = fits
done_fits Unflatten at ((c ∷ d ∷ e ∷ cs) ∷ css) = fits
done_fits Update at [] = fits
done_fits Update at (bs ∷ []) = fits
done_fits Update at (bs ∷ is ∷ []) = fits
done_fits Update at (bs ∷ is ∷ v ∷ []) = out_then (each_out exact_in is) _ _ (λ zs. updated_fits at zs v bs)
done_fits Update at (bs ∷ is ∷ v ∷ c ∷ css) = fits

kept_fits : (at : Place) (b : Bool) (bs : Row) (ts : List Bool) → Fitted_out (kept false at b bs ts) (kept true at b bs ts)
kept_fits at b bs ts = out_first _ _ (rows_fit at 1 bs) (λ rs. stacked_fits at _ _)

parted_fits : (at : Place) (bs : Row) (ts : List Bool) → Fitted_out (parted false at bs ts) (parted true at bs ts)
parted_fits at bs ts = out_first _ _ (kept_fits at true bs ts) (λ cs. out_first _ _ (kept_fits at false bs ts) (λ ds. fits))

source_fits : (at : Place) (env : Env) (source : Source) → Fitted_out (source_rows false at env source) (source_rows true at env source)
source_fits at env (Of_rows rs) = out_then (groups_of env (map (λ r. r.arrays) rs)) _ _ (λ css. together_fit at (map (λ r. r.width) rs) css)
source_fits at env (Of_numbers u) = fits

collected_fits : (at : Place) (env : Env) (told : List (List Atom)) (rows : List Row) → Fitted_out (collected false at env told rows) (collected true at env told rows)
collected_fits at env told rows = out_then (groups_of env told) _ _ (λ css. out_then (all_told css) _ _ (λ ds. glued_fits at ds rows))

fitted_tested : (at : Place) (r : Bundle) (env : Env) (test test' : Row → Rel Bool) (result result' : Row → List Bool → Out Row) → ((row : Row) → Fitted (test row) (test' row)) → ((bs : Row) (ts : List Bool) → Fitted_out (result bs ts) (result' bs ts)) → Fitted (tested false at r env test result) (tested true at r env test' result')
fitted_tested at r env test test' result result' h k =
    fitted_then _ _ _ _ (fitted_same _) (λ bs. fitted_first (rows_fit at r.width bs) _ _ (λ rs. fitted_then _ _ _ _ (fitted_each_of test test' h rs) (λ ts. fitted_first (k bs ts) _ _ (λ cs. fitted_same _))))

fitted_turn : (xs : List Var) (env : Env) (test test' : Env → Results) → ((e : Env) → Fitted (test e) (test' e)) → (cs : Row) → Fitted (test_turn test xs env cs) (test_turn test' xs env cs)
fitted_turn xs env test test' h cs = fitted_then _ _ _ _ (fitted_then _ _ _ _ (fitted_same _) h) (λ ds. fitted_same _)

-- ---- reductions

module _ (tight : Bool) (op op' : Row → Row → Results) (h : (p q : Row) → Fitted (op p q) (op' p q)) where
  module _ (any : Bool) (ne : Row) (rows : List Row) where
    reduction_kept : (o : Out Row) (n : ℕ) → Reduction tight any op' ne rows o n → Reduction tight any op ne rows o n ⊎ (o ≡ Wrong)
    reduction_kept _ _ (reduction order (bracket {o} {f = n} t e c x)) = on ((fitted_tree op op' ne h t).kept o n x)
      where
        on : tree_gives op ne t o n ⊎ (o ≡ Wrong) → Reduction tight any op ne rows o n ⊎ (o ≡ Wrong)
        on (inl x) = inl (reduction order (bracket t e c x))
        on (inr w) = inr w

    reduction_lost : (o : Out Row) (n : ℕ) → Reduction tight any op ne rows o n → Reduction tight any op' ne rows o n ⊎ Goes_wrong (Reduction tight any op' ne rows)
    reduction_lost _ _ (reduction order (bracket {o} {f = n} t e c x)) = on ((fitted_tree op op' ne h t).lost o n x)
      where
        on : tree_gives op' ne t o n ⊎ Goes_wrong (tree_gives op' ne t) → Reduction tight any op' ne rows o n ⊎ Goes_wrong (Reduction tight any op' ne rows)
        on (inl x) = inl (reduction order (bracket t e c x))
        on (inr w) = inr (w.0, reduction order (bracket t e c w.1))

    fitted_reduction : Fitted (Reduction tight any op ne rows) (Reduction tight any op' ne rows)
    fitted_reduction = record { kept = reduction_kept; lost = reduction_lost }

  module _ (at : Place) (us : List Atom) (r : Bundle) (env : Env) where
    fitted_reduced : Fitted (reduced tight false at us r env op) (reduced tight true at us r env op')
    fitted_reduced =
        fitted_then _ _ _ _ (fitted_same _) (λ ne. fitted_then _ _ _ _ (fitted_same _) (λ bs. fitted_first (rows_fit at r.width bs) _ _ (λ rs.
        fitted_then _ _ _ _ (fitted_reduction false ne rs) (λ row. fitted_same _))))

    fitted_scanned : Fitted (scanned tight false at us r env op) (scanned tight true at us r env op')
    fitted_scanned =
        fitted_then _ _ _ _ (fitted_same _) (λ ne. fitted_then _ _ _ _ (fitted_same _) (λ bs. fitted_first (rows_fit at r.width bs) _ _ (λ rs.
        fitted_then _ _ _ _ (fitted_all_of _ _ (fitted_reduction false ne) (prefixes_on [] rs)) (λ rows. fitted_first (glued_fits at _ rows) _ _ (λ cs. fitted_same _)))))

    fitted_combined : (zs : List Atom) (i : Atom) → Fitted (combined tight false at us zs i r env op) (combined tight true at us zs i r env op')
    fitted_combined zs i =
        fitted_then _ _ _ _ (fitted_same _) (λ bs. fitted_then _ _ _ _ (fitted_same _) (λ ne. fitted_then _ _ _ _ (fitted_same _) (λ c. fitted_then _ _ _ _ (fitted_same _) (λ vs. fitted_first (written_fits at r.width bs c vs) _ _ (λ w.
        fitted_then _ _ _ _ (fitted_all_of _ _ (fitted_reduction true ne) (places (λ v vs. v ∷ vs) 0 w.0 w.1)) (λ rows. fitted_the (stacked_fits at _ rows)))))))

fitted_scattered : (at : Place) (us : List Atom) (i : Atom) (ws : List Atom) (env : Env) → Fitted (scattered false at us i ws env) (scattered true at us i ws env)
fitted_scattered at us i ws env =
    fitted_then _ _ _ _ (fitted_same _) (λ bs. fitted_then _ _ _ _ (fitted_same _) (λ c. fitted_then _ _ _ _ (fitted_same _) (λ vs. fitted_first (written_fits at 1 bs c vs) _ _ (λ w.
    fitted_then _ _ _ _ (fitted_same _) (λ rows. fitted_the (stacked_fits at _ rows))))))

-- ---- blocks

module _ (tight : Bool) (budget : ℕ) where
  mutual
    unfolding act_means function_means body_means

    act_fits : (a : Action) (env : Env) → Fitted (act_means tight false budget a env) (act_means tight true budget a env)
    act_fits (Operate o at) env = fitted_same _
    act_fits (Do d at uss) env = fitted_first (out_then (groups_of env uss) _ _ (λ css. done_fits d at css)) _ _ (λ cs. fitted_same _)
    act_fits (Map at source told xs b) env =
        fitted_first (source_fits at env source) _ _ (λ rs. fitted_then _ _ _ _ (fitted_each_of _ _ (λ row. fitted_then _ _ _ _ (fitted_same _) (λ e. body_fits b e)) rs) (λ rows. fitted_first (collected_fits at env told rows) _ _ (λ cs. fitted_same _)))
    act_fits (Filter at r xs b) env = fitted_tested at r env _ _ _ _ (fitted_turn xs env _ _ (λ e. body_fits b e)) (kept_fits at true)
    act_fits (Partition at r xs b) env = fitted_tested at r env _ _ _ _ (fitted_turn xs env _ _ (λ e. body_fits b e)) (parted_fits at)
    act_fits (Reduce at us r f) env = fitted_reduced tight _ _ (function_fits f env) at us r env
    act_fits (Scan at us r f) env = fitted_scanned tight _ _ (function_fits f env) at us r env
    act_fits (Scatter at us i ws) env = fitted_scattered at us i ws env
    act_fits (Hist at us zs i r f) env = fitted_combined tight _ _ (function_fits f env) at us r env zs i
    act_fits (If c a b) env = fitted_then _ _ _ _ (fitted_same _) (λ t. fitted_choose t _ _ _ _ (body_fits a env) (body_fits b env))
    act_fits (For xs us i n b) env =
        fitted_then _ _ _ _ (fitted_same _) (λ cs. fitted_then _ _ _ _ (fitted_same _) (λ k. fitted_turns _ _ (λ j ds. fitted_then _ _ _ _ (fitted_same _) (λ e. body_fits b ((i.number, One (scalar.Int k.0 j)) ∷ e))) (counts k.1 0) cs))
    act_fits (For_in at xs us ys r b) env =
        fitted_then _ _ _ _ (fitted_same _) (λ cs. fitted_first (out_then (values_of env r.arrays) _ _ (λ bs. rows_fit at r.width bs)) _ _ (λ rs. fitted_turns _ _ (λ row ds. fitted_then _ _ _ _ (fitted_same _) (λ e. fitted_then _ _ _ _ (fitted_same _) (λ e'. body_fits b e'))) rs cs))
    act_fits (While at xs us t b) env =
        fitted_then _ _ _ _ (fitted_same _) (λ cs. fitted_while budget (report kind.Turns at) _ _ _ _ (fitted_turn xs env _ _ (λ e. body_fits t e)) (λ ds. fitted_then _ _ _ _ (fitted_same _) (λ e. body_fits b e)) cs)

    function_fits : (f : Function) (env : Env) (p q : Row) → Fitted (function_means tight false budget f env p q) (function_means tight true budget f env p q)
    function_fits (Of_two xs ys b) env p q = fitted_then _ _ _ _ (fitted_same _) (λ e. fitted_then _ _ _ _ (fitted_same _) (λ e'. body_fits b e'))

    body_fits : (b : Body) (env : Env) → Fitted (body_means tight false budget b env) (body_means tight true budget b env)
    body_fits (Give us) env = fitted_same _
    body_fits (Let xs a b) env = fitted_then _ _ _ _ (fitted_then _ _ _ _ (act_fits a env) (λ cs. fitted_same _)) (λ e. body_fits b e)

  core_fits : (core : Core) (cs : Row) → Fitted (Core_means tight false budget core cs) (Core_means tight true budget core cs)
  unfolding Core_means
  core_fits core cs = fitted_then _ _ _ _ (fitted_same _) (λ e. body_fits (body_of core.body) e)

pub fitted_adds_nothing : FittedAddsNothing
fitted_adds_nothing tight budget core cs o f x = (core_fits tight budget core cs).kept o f x

-- with any trees
any_wrong : (tight : Bool) (budget : ℕ) (core : Core) (cs : Row) (f : ℕ) → Core_means tight true budget core cs Wrong f → Core_means false true budget core cs Wrong f
any_wrong true budget core cs f x = loose_core true budget core cs Wrong f x
any_wrong false budget core cs f x = x

pub fitted_loses_nothing : FittedLosesNothing
fitted_loses_nothing tight budget core cs never o f x = on ((core_fits tight budget core cs).lost o f x)
  where
    on : Core_means tight true budget core cs o f ⊎ Goes_wrong (Core_means tight true budget core cs) → Core_means tight true budget core cs o f
    on (inl y) = y
    on (inr w) = absurd (never w.0 (any_wrong tight budget core cs w.0 w.1))
