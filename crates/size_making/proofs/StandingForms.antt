-- The sizes that stand in a sized type, form by form.
use Rattle.std.proofs.Common.{◌≡◌, ℕ, ◌+◌, ◌<◌, ◌≤◌, List, [], ◌∷◌, ◌++◌, length, get_or, drop, Bool, true, false, cond, refl, sym, ap, ◌∙◌}
use Rattle.std.specs.Prelude.{◌&&◌, ◌||◌, not}
use Rattle.fut_types.specs.declared.Head.{Head}
use Rattle.fut_types.specs.Types.{Ty}
use Rattle.sized_types.specs.Sizes.{Free, Dim, At, Variable, Size, Hole, Open, Level, Built, Fun, Sizes, is_free}
use Rattle.fut_sizes.specs.Functions.{stands_among, with_free, collected, all_collected}
use Rattle.size_arena.specs.declared.dims.Free as frees
use Rattle.size_arena.specs.declared.trees.SizeTree.{SizeTree}
use Rattle.size_arena.specs.Trees.{free_of, size_of, sizes_of}
use Rattle.size_arena.proofs.Forms.{forms}
use Rattle.size_arena.proofs.Parts.{parts_at, parts_end}
use Rattle.size_making.specs.Placing.{frees_of}
use Rattle.size_making.proofs.PlacingForms.{frees_at, frees_end}

module _ (es : List frees.Free) (i : ℕ) (d : Free) where
  pub among_more : (e : frees.Free) → i < length es → false ≡ is_free (free_of (get_or es i e)) d → stands_among (frees_of es) d ≡ stands_among (frees_of (drop i es)) d → stands_among (frees_of es) d ≡ stands_among (frees_of (drop (i + 1) es)) d
  among_more e l h o = o ∙ ap (λ z. stands_among z d) (frees_at es i e l) ∙ ap (λ z. z || stands_among (frees_of (drop (i + 1) es)) d) (sym h)

  pub among_here : (e : frees.Free) → i < length es → true ≡ is_free (free_of (get_or es i e)) d → stands_among (frees_of es) d ≡ stands_among (frees_of (drop i es)) d → true ≡ stands_among (frees_of es) d
  among_here e l h o = sym (o ∙ ap (λ z. stands_among z d) (frees_at es i e l) ∙ ap (λ z. z || stands_among (frees_of (drop (i + 1) es)) d) (sym h))

  pub among_end : length es ≤ i → stands_among (frees_of es) d ≡ stands_among (frees_of (drop i es)) d → false ≡ stands_among (frees_of es) d
  among_end l o = sym (o ∙ ap (λ z. stands_among z d) (frees_end es i l))

pub ruleset among = (among_more, among_here, among_end)

pub frees_more : (ds : List frees.Free) (d : frees.Free) → frees_of (ds ++ d ∷ []) ≡ frees_of ds ++ free_of d ∷ []
frees_more [] d = refl
frees_more (e ∷ ds) d = ap (λ z. free_of e ∷ z) (frees_more ds d)

module _ (q : Free → Bool) where
  pub free_other : (d : Free) (ds : List Free) → false ≡ q d → ds ≡ with_free q (At d) ds
  free_other d ds h = ap (λ z. cond (z && not (stands_among ds d)) (ds ++ d ∷ []) ds) h

  pub free_again : (d : Free) (ds : List Free) → true ≡ q d → true ≡ stands_among ds d → ds ≡ with_free q (At d) ds
  free_again d ds h e = ap (λ z. cond (true && not z) (ds ++ d ∷ []) ds) e ∙ ap (λ z. cond (z && not (stands_among ds d)) (ds ++ d ∷ []) ds) h

  pub free_new : (d : frees.Free) (ds es : List frees.Free) → true ≡ q (free_of d) → false ≡ stands_among (frees_of ds) (free_of d) → es ≡ ds ++ d ∷ [] → frees_of es ≡ with_free q (At (free_of d)) (frees_of ds)
  free_new d ds es h e a =
      ap frees_of a ∙ frees_more ds d ∙ ap (λ z. cond (true && not z) (frees_of ds ++ free_of d ∷ []) (frees_of ds)) e
      ∙ ap (λ z. cond (z && not (stands_among (frees_of ds) (free_of d))) (frees_of ds ++ free_of d ∷ []) (frees_of ds)) h

  pub collect_hole : (v : Variable) (ds : List Free) → ds ≡ collected q (Hole v) ds
  unfolding collected
  collect_hole v ds = refl

  pub collect_open : (n : ℕ) (v : Variable) (u : Ty) (ds : List Free) → ds ≡ collected q (Open n v u) ds
  unfolding collected
  collect_open n v u ds = refl

  pub collect_level : (d : Dim) (t : Size) (ds es fs : List Free) → es ≡ with_free q d ds → fs ≡ collected q t es → fs ≡ collected q (Level d t) ds
  unfolding collected
  collect_level d t ds es fs a b = b ∙ ap (collected q t) a

  pub collect_built : (h : Head) (ts : Sizes) (ds es : List Free) → es ≡ all_collected q ts ds → es ≡ collected q (Built h ts) ds
  unfolding collected all_collected
  collect_built h ts ds es a = a

  pub collect_fun : (k : ℕ) (p r : Size) (ds es fs : List Free) → es ≡ collected q p ds → fs ≡ collected q r es → fs ≡ collected q (Fun k p r) ds
  unfolding collected
  collect_fun k p r ds es fs a b = b ∙ ap (collected q r) a

  module _ (ts : List SizeTree) (i : ℕ) (ds es : List Free) (o : all_collected q (sizes_of ts) ds ≡ all_collected q (sizes_of (drop i ts)) es) where
    pub collects_more : (t : SizeTree) (fs : List Free) → i < length ts → fs ≡ collected q (size_of (get_or ts i t)) es → all_collected q (sizes_of ts) ds ≡ all_collected q (sizes_of (drop (i + 1) ts)) fs
    unfolding collected all_collected
    collects_more t fs l e = o ∙ ap (λ z. all_collected q z es) (parts_at ts i t l) ∙ ap (all_collected q (sizes_of (drop (i + 1) ts))) (sym e)

    pub collects_end : length ts ≤ i → es ≡ all_collected q (sizes_of ts) ds
    unfolding all_collected
    collects_end l = sym (o ∙ ap (λ z. all_collected q z es) (parts_end ts i l))

pub ruleset one_more = (free_other, free_again, free_new)

pub ruleset collects = (forms, collect_hole, collect_open, collect_level, collect_built, collect_fun)

pub ruleset all_collect = (collects_more, collects_end)
