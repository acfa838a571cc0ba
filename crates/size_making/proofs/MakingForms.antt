-- The sized type that a type has by itself, form by form.
use Rattle.std.proofs.Common.{◌≡◌, ℕ, suc, ◌+◌, ◌<◌, ◌≤◌, List, [], ◌∷◌, ◌++◌, length, get_or, drop, Result, Ok, Err, refl, sym, ap, ◌∙◌, add-one, arith}
use Rattle.std.proofs.Math.Seq.{drop-cons}
use Rattle.std.specs.Prelude.{IfOk}
use Rattle.std.specs.Borrow.{Bor}
use Rattle.fut_scalar.specs.declared.memory.NoMemory.{NoMemory}
use Rattle.fut_types.specs.declared.Head.{Head}
use Rattle.fut_types.specs.declared.Head.TheVariants as head
use Rattle.fut_types.specs.declared.Kind.{Kind}
use Rattle.fut_types.specs.Types.{Ty, Var, Made, Tys, none, more}
use Rattle.sized_types.specs.Sizes.{Dim, Inferred, Written, Hole, Level, Built, Fun, size_and}
use Rattle.fut_sizes.specs.Agreeing.{type_levels, all_type_levels, in_frame, element_of, of_type, of_types}
use Rattle.size_arena.specs.declared.trees.SizeTree.{SizeTree}
use Rattle.size_arena.specs.declared.types.TypeTree.{TypeTree}
use Rattle.size_arena.specs.declared.types.TypeTree.TheVariants as type
use Rattle.size_arena.specs.Trees.{tys, type_of, tys_of, size_of, sizes_of}
use Rattle.size_arena.proofs.Forms.{type_var, type_made}
use Rattle.size_arena.proofs.Parts.{drop_past, parts_at, before, before_more, before_none}

-- ---- types in a row

pub tys_none : tys_of [] ≡ none
unfolding tys_of tys
tys_none = refl

tys_and : (t : TypeTree) (ts : List TypeTree) → tys_of (t ∷ ts) ≡ more (type_of t) (tys_of ts)
unfolding tys_of tys
tys_and t ts = refl

module _ (ts : List TypeTree) (i : ℕ) where
  pub tys_at : (t : TypeTree) → i < length ts → tys_of (drop i ts) ≡ more (type_of (get_or ts i t)) (tys_of (drop (i + 1) ts))
  tys_at t l = ap tys_of (drop-cons ts i t l) ∙ tys_and (get_or ts i t) (drop (suc i) ts) ∙ ap (λ j. more (type_of (get_or ts i t)) (tys_of (drop j ts))) (sym (add-one i))

  pub tys_end : length ts ≤ i → tys_of (drop i ts) ≡ none
  tys_end l = ap tys_of (drop_past ts i l) ∙ tys_none

pub tys_two : (ts : List TypeTree) (t u : TypeTree) → length ts ≡ 2 → tys_of ts ≡ more (type_of (get_or ts 0 t)) (more (type_of (get_or ts 1 u)) none)
tys_two ts t u l = tys_at ts 0 t (omega (arith, l)) ∙ ap (more (type_of (get_or ts 0 t))) (tys_at ts 1 u (omega (arith, l)) ∙ ap (more (type_of (get_or ts 1 u))) (tys_end ts 2 (omega (arith, l))))

abbrev first_ty : Tys → Ty
first_ty none = Var 0
first_ty (more t ts) = t

first_same : (ts : List TypeTree) (t u : TypeTree) → 0 < length ts → type_of (get_or ts 0 t) ≡ type_of (get_or ts 0 u)
first_same ts t u l = ap first_ty (sym (tys_at ts 0 t l) ∙ tys_at ts 0 u l)

-- ---- levels

plain_levels : (h : Head) (ts : Tys) → (h ≡ head.Array → ⊥) → (h ≡ head.Fun → ⊥) → type_levels (Made h ts) ≡ all_type_levels ts
unfolding type_levels all_type_levels
plain_levels (head.Scalar s) ts a f = refl
plain_levels head.Array ts a f = elim (a refl) [ ]
plain_levels head.Tuple ts a f = refl
plain_levels (head.Record n) ts a f = refl
plain_levels head.Fun ts a f = elim (f refl) [ ]
plain_levels (head.Rigid n k) ts a f = refl
plain_levels (head.Abstract n b) ts a f = refl

abbrev Counted : Type 0
Counted = Result ℕ NoMemory

module _ (t : TypeTree) (f : ℕ) where
  pub past_var : (v : ℕ) → t ≡ type.Var v → f ≡ f + type_levels (type_of t)
  unfolding type_levels
  past_var v is = rw (is, type_var) (omega arith)

  module _ (height : ℕ) (h : Head) (ts : Bor (List TypeTree)) (is : t ≡ type.Made height h ts) where
    made : type_of t ≡ Made h (tys_of ts.now)
    made = ap type_of is ∙ type_made height h ts

    pub past_array : (g : ℕ) (o : Counted) → h ≡ head.Array → g ≡ f + 1 → IfOk o (λ next. next ≡ g + all_type_levels (tys_of ts.now)) → IfOk o (λ next. next ≡ f + type_levels (type_of t))
    unfolding type_levels all_type_levels
    past_array g (Ok n) a e p = let k : type_levels (type_of t) ≡ suc (all_type_levels (tys_of ts.now)) = ap type_levels (made ∙ ap (λ z. Made z (tys_of ts.now)) a) in omega (arith, e, p, k)
    past_array g (Err x) a e p = tt

    pub past_function : h ≡ head.Fun → f ≡ f + type_levels (type_of t)
    unfolding type_levels
    past_function a = let k : type_levels (type_of t) ≡ 0 = ap type_levels (made ∙ ap (λ z. Made z (tys_of ts.now)) a) in omega (arith, k)

    pub past_plain : (o : Counted) → (h ≡ head.Array → ⊥) → (h ≡ head.Fun → ⊥) → IfOk o (λ next. next ≡ f + all_type_levels (tys_of ts.now)) → IfOk o (λ next. next ≡ f + type_levels (type_of t))
    past_plain (Ok n) a b p = p ∙ ap (λ z. f + z) (sym (ap type_levels made ∙ plain_levels h (tys_of ts.now) a b))
    past_plain (Err x) a b p = tt

module _ (ts : List TypeTree) (i f n : ℕ) where
  pub past_more : (t : TypeTree) (m : ℕ) → i < length ts → n + all_type_levels (tys_of (drop i ts)) ≡ f → m ≡ n + type_levels (type_of (get_or ts i t)) → m + all_type_levels (tys_of (drop (i + 1) ts)) ≡ f
  unfolding type_levels all_type_levels
  past_more t m l h e = let k : all_type_levels (tys_of (drop i ts)) ≡ type_levels (type_of (get_or ts i t)) + all_type_levels (tys_of (drop (i + 1) ts)) = ap all_type_levels (tys_at ts i t l) in omega (arith, h, e, k)

  pub past_end : length ts ≤ i → n + all_type_levels (tys_of (drop i ts)) ≡ f → n ≡ f
  unfolding type_levels all_type_levels
  past_end l h = let k : all_type_levels (tys_of (drop i ts)) ≡ 0 = ap all_type_levels (tys_end ts i l) in omega (arith, h, k)

-- ---- sized types

plain_size : (dims : ℕ → Dim) (i : ℕ) (h : Head) (ts : Tys) → ((b : ℕ) (k : Kind) → h ≡ head.Rigid b k → ⊥) → (h ≡ head.Array → ⊥) → (h ≡ head.Fun → ⊥) → of_type dims i (Made h ts) ≡ Built h (of_types dims i ts)
unfolding of_type of_types
plain_size dims i (head.Scalar s) ts r a f = refl
plain_size dims i head.Array ts r a f = elim (a refl) [ ]
plain_size dims i head.Tuple ts r a f = refl
plain_size dims i (head.Record n) ts r a f = refl
plain_size dims i head.Fun ts r a f = elim (f refl) [ ]
plain_size dims i (head.Rigid n k) ts r a f = elim (r n k refl) [ ]
plain_size dims i (head.Abstract n b) ts r a f = refl

function_size : (dims : ℕ → Dim) (i : ℕ) (p r : Ty) → of_type dims i (Made head.Fun (more p (more r none))) ≡ Fun (type_levels p) (of_type (in_frame 0) 0 p) (of_type (in_frame (suc (type_levels p))) 0 r)
unfolding of_type
function_size dims i p r = refl

abbrev Tree_made : Type 0
Tree_made = Result (Bor SizeTree) NoMemory

module _ (dims : ℕ → Dim) (f : ℕ) (t : TypeTree) where
  pub sized_var : (v : ℕ) (o : Tree_made) → t ≡ type.Var v → IfOk o (λ made. size_of made.now ≡ Hole (Inferred v)) → IfOk o (λ made. size_of made.now ≡ of_type dims f (type_of t))
  unfolding of_type
  sized_var v (Ok m) is e = e ∙ sym (ap (of_type dims f) (ap type_of is ∙ type_var v))
  sized_var v (Err x) is e = tt

  module _ (height : ℕ) (h : Head) (ts : Bor (List TypeTree)) (is : t ≡ type.Made height h ts) where
    of_made : type_of t ≡ Made h (tys_of ts.now)
    of_made = ap type_of is ∙ type_made height h ts

    pub sized_rigid : (b : ℕ) (k : Kind) (o : Tree_made) → h ≡ head.Rigid b k → IfOk o (λ made. size_of made.now ≡ Hole (Written b k)) → IfOk o (λ made. size_of made.now ≡ of_type dims f (type_of t))
    unfolding of_type
    sized_rigid b k (Ok m) r e = e ∙ sym (ap (of_type dims f) (of_made ∙ ap (λ z. Made z (tys_of ts.now)) r))
    sized_rigid b k (Err x) r e = tt

    pub sized_array : (g : ℕ) (d : Dim) (us : Bor (List SizeTree)) (o : Tree_made) → h ≡ head.Array → g ≡ f + 1 → d ≡ dims f → sizes_of us.now ≡ of_types dims g (tys_of ts.now) → IfOk o (λ made. size_of made.now ≡ Level d (element_of (sizes_of us.now))) → IfOk o (λ made. size_of made.now ≡ of_type dims f (type_of t))
    unfolding of_type of_types
    sized_array g d us (Ok m) a e p q k =
        k ∙ ap (λ z. Level z (element_of (sizes_of us.now))) p ∙ ap (λ z. Level (dims f) (element_of z)) (q ∙ ap (λ z. of_types dims z (tys_of ts.now)) (e ∙ add-one f))
        ∙ sym (ap (of_type dims f) (of_made ∙ ap (λ z. Made z (tys_of ts.now)) a))
    sized_array g d us (Err x) a e p q k = tt

    pub sized_plain : (us : Bor (List SizeTree)) (o : Tree_made) → ((b : ℕ) (k : Kind) → h ≡ head.Rigid b k → ⊥) → (h ≡ head.Array → ⊥) → (h ≡ head.Fun → ⊥) → sizes_of us.now ≡ of_types dims f (tys_of ts.now) → IfOk o (λ made. size_of made.now ≡ Built h (sizes_of us.now)) → IfOk o (λ made. size_of made.now ≡ of_type dims f (type_of t))
    sized_plain us (Ok m) r a b q e = e ∙ ap (Built h) q ∙ sym (ap (of_type dims f) of_made ∙ plain_size dims f h (tys_of ts.now) r a b)
    sized_plain us (Err x) r a b q e = tt

    pub sized_function : (o p q : TypeTree) (k m : ℕ) (from to : Bor SizeTree) (r : Tree_made) → h ≡ head.Fun → length ts.now ≡ 2 → k ≡ 0 + type_levels (type_of (get_or ts.now 0 o)) → m ≡ k + 1
        → size_of from.now ≡ of_type (in_frame 0) 0 (type_of (get_or ts.now 0 p)) → size_of to.now ≡ of_type (in_frame m) 0 (type_of (get_or ts.now 1 q)) → IfOk r (λ made. size_of made.now ≡ Fun k (size_of from.now) (size_of to.now)) → IfOk r (λ made. size_of made.now ≡ of_type dims f (type_of t))
    sized_function o p q k m from to (Err x) a l c n u y e = tt
    sized_function o p q k m from to (Ok z) a l c n x y e =
        let is : k ≡ type_levels (type_of (get_or ts.now 0 p)) = omega (arith, c) ∙ ap type_levels (first_same ts.now o p (omega (arith, l))) in
        e ∙ ap (λ z. Fun k z (size_of to.now)) x ∙ ap (Fun k (of_type (in_frame 0) 0 (type_of (get_or ts.now 0 p)))) (y ∙ ap (λ z. of_type (in_frame z) 0 (type_of (get_or ts.now 1 q))) (n ∙ add-one k ∙ ap suc is))
        ∙ ap (λ z. Fun z (of_type (in_frame 0) 0 (type_of (get_or ts.now 0 p))) (of_type (in_frame (suc (type_levels (type_of (get_or ts.now 0 p))))) 0 (type_of (get_or ts.now 1 q)))) is
        ∙ sym (ap (of_type dims f) (of_made ∙ ap (λ z. Made z (tys_of ts.now)) a ∙ ap (Made head.Fun) (tys_two ts.now p q l)) ∙ function_size dims f (type_of (get_or ts.now 0 p)) (type_of (get_or ts.now 1 q)))

module _ (dims : ℕ → Dim) (f : ℕ) (ts : List TypeTree) (i j : ℕ) (made : List SizeTree) (h : of_types dims f (tys_of ts) ≡ before made (of_types dims j (tys_of (drop i ts)))) where
  pub sized_more : (t : TypeTree) (part : SizeTree) (k : ℕ) (next : List SizeTree) → i < length ts → size_of part ≡ of_type dims j (type_of (get_or ts i t)) → k ≡ j + type_levels (type_of (get_or ts i t)) → next ≡ made ++ part ∷ []
      → of_types dims f (tys_of ts) ≡ before next (of_types dims k (tys_of (drop (i + 1) ts)))
  unfolding of_type of_types
  sized_more t part k next l e a b =
      h ∙ ap (before made) (ap (of_types dims j) (tys_at ts i t l) ∙ ap (λ z. size_and z (of_types dims (type_levels (type_of (get_or ts i t)) + j) (tys_of (drop (i + 1) ts)))) (sym e)
      ∙ ap (λ z. size_and (size_of part) (of_types dims z (tys_of (drop (i + 1) ts)))) (swapped (type_levels (type_of (get_or ts i t))) j k a))
      ∙ sym (before_more made part (of_types dims k (tys_of (drop (i + 1) ts))))
      ∙ ap (λ z. before z (of_types dims k (tys_of (drop (i + 1) ts)))) (sym b)
    where
      swapped : (x j k : ℕ) → k ≡ j + x → x + j ≡ k
      swapped x j k a = omega (arith, a)

  pub sized_end : length ts ≤ i → sizes_of made ≡ of_types dims f (tys_of ts)
  unfolding of_types
  sized_end l = sym (h ∙ ap (before made) (ap (of_types dims j) (tys_end ts i l)) ∙ before_none made)

-- an array of the first part
pub array_made : (ts : List SizeTree) (t : SizeTree) (d : Dim) (r : Tree_made) → (length ts ≡ 0 → ⊥) → IfOk r (λ made. size_of made.now ≡ Level d (size_of (get_or ts 0 t))) → IfOk r (λ made. size_of made.now ≡ Level d (element_of (sizes_of ts)))
array_made ts t d (Ok z) l e = e ∙ ap (Level d) (sym (ap element_of (parts_at ts 0 t (grind (arith, l)))))
array_made ts t d (Err x) l e = tt

pub ruleset all_made = (sized_more, sized_end)
