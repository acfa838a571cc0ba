-- What indices and slices leave, form by form.
use Rattle.std.proofs.Common.{◌≡◌, ℕ, suc, ◌+◌, ◌<◌, ◌≤◌, List, [], ◌∷◌, length, get_or, drop, map, Option, Some, None, Bool, true, false, Ok, refl, sym, ap, ◌∙◌, arith}
use Rattle.std.specs.Borrow.{Bor}
use Rattle.fut_scalar.specs.declared.place.BindId.{BindId}
use Rattle.fut_flat.specs.declared.act.Part.{Part}
use Rattle.fut_flat.specs.declared.act.Part.TheVariants as part
use Rattle.fut_flat.specs.declared.exp.Exp.{Exp}
use Rattle.fut_flat.specs.declared.prim.Ref.{Ref}
use Rattle.fut_flat.specs.Terms.{Index, Terms, no_term, term_and}
use Rattle.fut_flat.specs.Erased.{term_of, terms}
use Rattle.fut_types.specs.Types.{Sub}
use Rattle.fut_types.specs.declared.Head.{Head}
use Rattle.fut_typing.specs.Names.{Names}
use Rattle.sized_types.specs.Sizes.{Free, Unknown, Dim, At, Size, Hole, Open, Level, Built, Fun}
use Rattle.fut_sizes.specs.Operations.{indexed, is_literal, operation, slice_size, value_of}
use Rattle.size_arena.specs.declared.dims.Dim as dims
use Rattle.size_arena.specs.declared.dims.Variable as variables
use Rattle.size_arena.specs.declared.trees.SizeTree.{SizeTree}
use Rattle.size_arena.specs.declared.trees.SizeTree.TheVariants as form
use Rattle.size_arena.specs.declared.types.TypeTree.{TypeTree}
use Rattle.size_arena.specs.Trees.{dim_of, size_of, sizes, sizes_of}
use Rattle.size_arena.proofs.Forms.{size_hole, size_open, size_level, size_built, size_fun}
use Rattle.size_written.specs.Answers.{dim_held}
use Rattle.size_operations.specs.Indexing.{level_left, sliced, taken_by}

abbrev es_of : List Exp → Terms Ref BindId
es_of es = terms (map term_of es)

-- ---- slices

module _ (n i : ℕ) (s : Dim) where
  pub between_few : (es : List Exp) → length es < 2 → At (Unknown n i) ≡ sliced n i true true (es_of es) s
  unfolding terms
  between_few [] l = refl
  between_few (x ∷ []) l = refl
  between_few (x ∷ y ∷ es) l = absurd (omega (arith, l))

  pub between_known : (es : List Exp) (e : Exp) (b : Bool) (f : Free) → 2 ≤ length es → b ≡ is_literal 0 (term_of (get_or es 0 e)) → f ≡ slice_size n i b (term_of (get_or es 1 e)) → At f ≡ sliced n i true true (es_of es) s
  unfolding terms
  between_known [] e b f l h is = absurd (omega (arith, l))
  between_known (x ∷ []) e b f l h is = absurd (omega (arith, l))
  between_known (x ∷ y ∷ es) e b f l h is = ap At (is ∙ ap (λ z. slice_size n i z (term_of y)) h)

  pub up_to_none : (es : List Exp) → length es ≡ 0 → At (Unknown n i) ≡ sliced n i false true (es_of es) s
  unfolding terms
  up_to_none [] l = refl
  up_to_none (x ∷ es) l = absurd (omega (arith, l))

  pub up_to_known : (es : List Exp) (e : Exp) (f : Free) → (length es ≡ 0 → ⊥) → f ≡ value_of n i (term_of (get_or es 0 e)) → At f ≡ sliced n i false true (es_of es) s
  unfolding terms
  up_to_known [] e f l is = elim (l refl) [ ]
  up_to_known (x ∷ es) e f l is = ap At is

pub ruleset between_forms = (between_few, between_known)

pub ruleset up_to_forms = (up_to_none, up_to_known)

module _ (n i : ℕ) (es : Terms Ref BindId) (from to : Bool) where
  pub slice_both : (f : Free) (s : Dim) → from ≡ true → to ≡ true → ((d : Dim) → At f ≡ sliced n i true true es d) → At f ≡ sliced n i from to es s
  slice_both f s a b h = h s ∙ ap (λ z. sliced n i z true es s) (sym a) ∙ ap (λ z. sliced n i from z es s) (sym b)

  pub slice_from : (s : Dim) → from ≡ true → to ≡ false → At (Unknown n i) ≡ sliced n i from to es s
  slice_from s a b = at_start es ∙ ap (λ z. sliced n i z false es s) (sym a) ∙ ap (λ z. sliced n i from z es s) (sym b)
    where
      at_start : (fs : Terms Ref BindId) → At (Unknown n i) ≡ sliced n i true false fs s
      at_start no_term = refl
      at_start (term_and e fs) = refl

  pub slice_to : (f : Free) (s : Dim) → from ≡ false → to ≡ true → ((d : Dim) → At f ≡ sliced n i false true es d) → At f ≡ sliced n i from to es s
  slice_to f s a b h = h s ∙ ap (λ z. sliced n i z true es s) (sym a) ∙ ap (λ z. sliced n i from z es s) (sym b)

  pub slice_whole : (s : Dim) → from ≡ false → to ≡ false → s ≡ sliced n i from to es s
  slice_whole s a b = ap (λ z. sliced n i z false es s) (sym a) ∙ ap (λ z. sliced n i from z es s) (sym b)

pub ruleset slices = (slice_both, slice_from, slice_to, slice_whole)

-- ---- parts of an index, the first before the others

some_same : (d e : Dim) → Some d ≡ Some e → d ≡ e
some_same d e q = cc

module _ (n i : ℕ) (p : Part) (ps : List Part) (d : Dim) (t : Size) where
  few : (q : Part) (es : List Exp) → length es < taken_by q → indexed n i (q ∷ ps) (es_of es) (Level d t) ≡ Level d t
  unfolding indexed terms
  few part.At [] l = refl
  few part.At (x ∷ es) l = absurd (omega (arith, l))
  few part.Backwards es l = absurd (omega (arith, l))
  few (part.Slice false false) es l = absurd (omega (arith, l))
  few (part.Slice false true) [] l = refl
  few (part.Slice false true) (x ∷ es) l = absurd (omega (arith, l))
  few (part.Slice true false) [] l = refl
  few (part.Slice true false) (x ∷ es) l = absurd (omega (arith, l))
  few (part.Slice true true) [] l = refl
  few (part.Slice true true) (x ∷ []) l = refl
  few (part.Slice true true) (x ∷ y ∷ es) l = absurd (omega (arith, l))

  gone : (q : Part) (es : List Exp) → taken_by q ≤ length es → None ≡ level_left n i q (es_of es) d → indexed n i (q ∷ ps) (es_of es) (Level d t) ≡ indexed n i ps (es_of (drop (taken_by q) es)) t
  unfolding indexed terms
  gone part.At [] l h = absurd (omega (arith, l))
  gone part.At (x ∷ es) l h = refl
  gone part.Backwards es l h = cc
  gone (part.Slice from to) es l h = cc

  left : (q : Part) (es : List Exp) (e : Dim) → taken_by q ≤ length es → Some e ≡ level_left n i q (es_of es) d → indexed n i (q ∷ ps) (es_of es) (Level d t) ≡ Level e (indexed n (suc i) ps (es_of (drop (taken_by q) es)) t)
  unfolding indexed terms
  left part.At es e l h = cc
  left part.Backwards es e l h = ap (λ z. Level z (indexed n (suc i) ps (es_of es) t)) (sym (some_same e _ h))
  left (part.Slice false false) es e l h = ap (λ z. Level z (indexed n (suc i) ps (es_of es) t)) (sym (some_same e _ h))
  left (part.Slice false true) [] e l h = absurd (omega (arith, l))
  left (part.Slice false true) (x ∷ es) e l h = ap (λ z. Level z (indexed n (suc i) ps (es_of es) t)) (sym (some_same e _ h))
  left (part.Slice true false) [] e l h = absurd (omega (arith, l))
  left (part.Slice true false) (x ∷ es) e l h = ap (λ z. Level z (indexed n (suc i) ps (es_of es) t)) (sym (some_same e _ h))
  left (part.Slice true true) [] e l h = absurd (omega (arith, l))
  left (part.Slice true true) (x ∷ []) e l h = absurd (omega (arith, l))
  left (part.Slice true true) (x ∷ y ∷ es) e l h = ap (λ z. Level z (indexed n (suc i) ps (es_of es) t)) (sym (some_same e _ h))

abbrev pub has_level : Size → Bool
has_level (Level d t) = true
has_level t = false

module _ (t : SizeTree) where
  pub hole_level : (v : variables.Variable) → t ≡ form.Hole v → has_level (size_of t) ≡ false
  hole_level v is = ap (λ z. has_level (size_of z)) is ∙ ap has_level (size_hole v)

  pub open_level : (n : ℕ) (v : variables.Variable) (u : Bor TypeTree) → t ≡ form.Open n v u → has_level (size_of t) ≡ false
  open_level n v u is = ap (λ z. has_level (size_of z)) is ∙ ap has_level (size_open n v u)

  pub built_level : (height : ℕ) (h : Head) (ts : Bor (List SizeTree)) → t ≡ form.Built height h ts → has_level (size_of t) ≡ false
  built_level height h ts is = ap (λ z. has_level (size_of z)) is ∙ ap has_level (size_built height h ts)

  pub fun_level : (height k : ℕ) (p r : Bor SizeTree) → t ≡ form.Fun height k p r → has_level (size_of t) ≡ false
  fun_level height k p r is = ap (λ z. has_level (size_of z)) is ∙ ap has_level (size_fun height k p r)

-- what has no level stays as it is
module _ (n i : ℕ) where
  pub no_level : (ps : List Part) (es : Terms Ref BindId) (t : Size) → has_level t ≡ false → t ≡ indexed n i ps es t
  unfolding indexed
  no_level [] es t q = refl
  no_level (part.At ∷ ps) no_term t q = refl
  no_level (part.Slice false true ∷ ps) no_term t q = refl
  no_level (part.Slice true false ∷ ps) no_term t q = refl
  no_level (part.Slice true true ∷ ps) no_term t q = refl
  no_level (part.Slice true true ∷ ps) (term_and e no_term) t q = refl
  no_level (part.At ∷ ps) (term_and e es) (Hole v) q = refl
  no_level (part.At ∷ ps) (term_and e es) (Open m v u) q = refl
  no_level (part.At ∷ ps) (term_and e es) (Level d t) q = cc
  no_level (part.At ∷ ps) (term_and e es) (Built h ts) q = refl
  no_level (part.At ∷ ps) (term_and e es) (Fun k p r) q = refl
  no_level (part.Backwards ∷ ps) es (Hole v) q = refl
  no_level (part.Backwards ∷ ps) es (Open m v u) q = refl
  no_level (part.Backwards ∷ ps) es (Level d t) q = cc
  no_level (part.Backwards ∷ ps) es (Built h ts) q = refl
  no_level (part.Backwards ∷ ps) es (Fun k p r) q = refl
  no_level (part.Slice false false ∷ ps) es (Hole v) q = refl
  no_level (part.Slice false false ∷ ps) es (Open m v u) q = refl
  no_level (part.Slice false false ∷ ps) es (Level d t) q = cc
  no_level (part.Slice false false ∷ ps) es (Built h ts) q = refl
  no_level (part.Slice false false ∷ ps) es (Fun k p r) q = refl
  no_level (part.Slice false true ∷ ps) (term_and e es) (Hole v) q = refl
  no_level (part.Slice false true ∷ ps) (term_and e es) (Open m v u) q = refl
  no_level (part.Slice false true ∷ ps) (term_and e es) (Level d t) q = cc
  no_level (part.Slice false true ∷ ps) (term_and e es) (Built h ts) q = refl
  no_level (part.Slice false true ∷ ps) (term_and e es) (Fun k p r) q = refl
  no_level (part.Slice true false ∷ ps) (term_and e es) (Hole v) q = refl
  no_level (part.Slice true false ∷ ps) (term_and e es) (Open m v u) q = refl
  no_level (part.Slice true false ∷ ps) (term_and e es) (Level d t) q = cc
  no_level (part.Slice true false ∷ ps) (term_and e es) (Built h ts) q = refl
  no_level (part.Slice true false ∷ ps) (term_and e es) (Fun k p r) q = refl
  no_level (part.Slice true true ∷ ps) (term_and e (term_and f es)) (Hole v) q = refl
  no_level (part.Slice true true ∷ ps) (term_and e (term_and f es)) (Open m v u) q = refl
  no_level (part.Slice true true ∷ ps) (term_and e (term_and f es)) (Level d t) q = cc
  no_level (part.Slice true true ∷ ps) (term_and e (term_and f es)) (Built h ts) q = refl
  no_level (part.Slice true true ∷ ps) (term_and e (term_and f es)) (Fun k p r) q = refl

  pub nothing_asked : (ps : List Part) (es : Terms Ref BindId) (t : Size) → length ps ≡ 0 → t ≡ indexed n i ps es t
  unfolding indexed
  nothing_asked [] es t q = refl
  nothing_asked (p ∷ ps) es t q = absurd (omega (arith, q))

  module _ (ps : List Part) (q : Part) (es : List Exp) (t : SizeTree) (height : ℕ) (d : dims.Dim) (row : Bor SizeTree) (is : t ≡ form.Level height d row) (some : length ps ≡ 0 → ⊥) where
    abbrev asked : Part
    asked = get_or ps 0 q

    level_is : indexed n i ps (es_of es) (size_of t) ≡ indexed n i (asked ∷ drop 1 ps) (es_of es) (Level (dim_of d) (size_of row.now))
    level_is = ap (λ z. indexed n i ps (es_of es) (size_of z)) is ∙ ap (λ z. indexed n i ps (es_of es) z) (size_level height d row) ∙ ap (λ z. indexed n i z (es_of es) (Level (dim_of d) (size_of row.now))) (by_parts ps some)
      where
        by_parts : (xs : List Part) → (length xs ≡ 0 → ⊥) → xs ≡ get_or xs 0 q ∷ drop 1 xs
        by_parts [] l = elim (l refl) [ ]
        by_parts (x ∷ xs) l = refl

    module _ (taken : ℕ) (count : taken ≡ taken_by asked) where
      pub few_operands : length es < taken → size_of t ≡ indexed n i ps (es_of es) (size_of t)
      few_operands l = ap size_of is ∙ size_level height d row ∙ sym (few n i q (drop 1 ps) (dim_of d) (size_of row.now) asked es (omega (arith, l, count))) ∙ sym level_is

      module _ (enough : taken ≤ length es) (r : Option dims.Dim) (h : dim_held r ≡ level_left n i asked (es_of es) (dim_of d)) where
        pub level_gone : r ≡ None → indexed n i ps (es_of es) (size_of t) ≡ indexed n i (drop 1 ps) (es_of (drop taken es)) (size_of row.now)
        level_gone k = level_is ∙ gone n i q (drop 1 ps) (dim_of d) (size_of row.now) asked es (omega (arith, enough, count)) (ap dim_held (sym k) ∙ h) ∙ ap (λ z. indexed n i (drop 1 ps) (es_of (drop z es)) (size_of row.now)) (sym count)

        pub level_stays : (e : dims.Dim) (next : ℕ) (inner : Size) → r ≡ Some e → next ≡ i + 1 → inner ≡ indexed n next (drop 1 ps) (es_of (drop taken es)) (size_of row.now) → indexed n i ps (es_of es) (size_of t) ≡ Level (dim_of e) inner
        level_stays e next inner k step g =
            level_is ∙ left n i q (drop 1 ps) (dim_of d) (size_of row.now) asked es (dim_of e) (omega (arith, enough, count)) (ap dim_held (sym k) ∙ h)
            ∙ ap (Level (dim_of e)) (ap (λ z. indexed n (suc i) (drop 1 ps) (es_of (drop z es)) (size_of row.now)) (sym count) ∙ ap (λ z. indexed n z (drop 1 ps) (es_of (drop taken es)) (size_of row.now)) (sym next_is) ∙ sym g)
          where
            next_is : next ≡ suc i
            next_is = omega (arith, step)

pub index_is : (N : Names) (types : Sub) (n at : ℕ) (qs : List Part) (es : List Exp) (ss : List SizeTree) (d : SizeTree) → (length es ≡ 0 → ⊥) → (length ss ≡ 0 → ⊥) → operation N types (Index qs) n at (es_of es) (sizes_of ss) ≡ Ok (indexed n 0 qs (es_of (drop 1 es)) (size_of (get_or ss 0 d)))
unfolding terms sizes_of sizes operation
index_is N types n at qs [] ss d l k = elim (l refl) [ ]
index_is N types n at qs (e ∷ es) [] d l k = elim (k refl) [ ]
index_is N types n at qs (e ∷ es) (s ∷ ss) d l k = refl
