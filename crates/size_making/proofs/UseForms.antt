-- A use of a general name, form by form.
use Rattle.std.proofs.Common.{◌≡◌, ℕ, zero, suc, ◌+◌, ◌<◌, ◌≤◌, List, [], ◌∷◌, ◌++◌, length, get_or, drop, true, false, cond, Option, Some, None, Result, Ok, Err, nat_eq, refl, sym, ap, ◌∙◌, arith, ne_eqb}
use Rattle.std.proofs.lemmas.Bool.{eqb-true}
use Rattle.std.specs.Prelude.{IfOk}
use Rattle.std.specs.Borrow.{Bor}
use Rattle.fut_scalar.specs.declared.memory.NoMemory.{NoMemory}
use Rattle.fut_types.specs.declared.Head.{Head}
use Rattle.fut_types.specs.declared.Head.TheVariants as head
use Rattle.fut_types.specs.declared.Kind.{Kind}
use Rattle.fut_types.specs.Types.{Ty, Var, Made, Tys, none, more}
use Rattle.sized_types.specs.Sizes.{Dim, Variable, is_variable, variable_ty, erased, Size, Hole, Open, Level, Built, Fun, Sizes, no_size, size_and}
use Rattle.fut_sizes.specs.Scopes.{or_else, or_variable, type_of as type_where, type_in, instance, instances}
use Rattle.size_arena.specs.declared.dims.Variable as variables
use Rattle.size_arena.specs.declared.trees.SizeTree.{SizeTree}
use Rattle.size_arena.specs.declared.trees.SizeTree.TheVariants as form
use Rattle.size_arena.specs.declared.types.TypeTree.{TypeTree}
use Rattle.size_arena.specs.declared.types.TypeTree.TheVariants as type
use Rattle.size_arena.specs.Trees.{variable_of, type_of, tys, tys_of, size_of, sizes_of}
use Rattle.size_making.specs.Uses.{element_in, is_function_of, chooses}
use Rattle.size_arena.proofs.Forms.{forms, size_hole, type_var, type_made}
use Rattle.size_arena.proofs.Parts.{parts_at, parts_end, before, before_more, before_none}
use Rattle.size_making.proofs.MakingForms.{tys_none, tys_at, tys_end, tys_two}

-- ---- the forms of types

some_more : (ts : List TypeTree) (h : Head) → 1 < length ts → None ≡ element_in h (tys_of ts)
some_more ts h l = sym (ap (element_in h) (tys_at ts 0 (type.Var 0) (omega (arith, l)) ∙ ap (more (type_of (get_or ts 0 (type.Var 0)))) (tys_at ts 1 (type.Var 0) l)) ∙ two h)
  where
    two : (g : Head) → element_in g (more (type_of (get_or ts 0 (type.Var 0))) (more (type_of (get_or ts 1 (type.Var 0))) (tys_of (drop (1 + 1) ts)))) ≡ None
    two (head.Scalar s) = refl
    two head.Array = refl
    two head.Tuple = refl
    two (head.Record n) = refl
    two head.Fun = refl
    two (head.Rigid n k) = refl
    two (head.Abstract n b) = refl

no_parts : (ts : List TypeTree) (h : Head) → length ts ≡ 0 → None ≡ element_in h (tys_of ts)
no_parts ts h l = sym (ap (element_in h) (tys_end ts 0 (omega (arith, l))) ∙ zero_of h)
  where
    zero_of : (g : Head) → element_in g none ≡ None
    zero_of (head.Scalar s) = refl
    zero_of head.Array = refl
    zero_of head.Tuple = refl
    zero_of (head.Record n) = refl
    zero_of head.Fun = refl
    zero_of (head.Rigid n k) = refl
    zero_of (head.Abstract n b) = refl

pub element_one : (ts : List TypeTree) (t : TypeTree) → length ts ≡ 1 → Some (type_of (get_or ts 0 t)) ≡ element_in head.Array (tys_of ts)
element_one ts t l = sym (ap (element_in head.Array) (tys_at ts 0 t (omega (arith, l)) ∙ ap (more (type_of (get_or ts 0 t))) (tys_end ts 1 (omega (arith, l)))))

pub element_other : (ts : List TypeTree) → (length ts ≡ 1 → ⊥) → None ≡ element_in head.Array (tys_of ts)
element_other ts h = by_length (length ts) refl
  where
    by_length : (n : ℕ) → length ts ≡ n → None ≡ element_in head.Array (tys_of ts)
    by_length zero e = no_parts ts head.Array e
    by_length (suc n) e = some_more ts head.Array (grind (arith, h, e))

pub element_none : (h : Head) (ts : Tys) → (h ≡ head.Array → ⊥) → None ≡ element_in h ts
element_none (head.Scalar s) ts a = refl
element_none head.Array ts a = elim (a refl) [ ]
element_none head.Tuple ts a = refl
element_none (head.Record n) ts a = refl
element_none head.Fun ts a = refl
element_none (head.Rigid n k) ts a = refl
element_none (head.Abstract n b) ts a = refl

pub ruleset elements = (element_one, element_other, element_none)

-- ---- functions

fun_count : (ts : List TypeTree) → nat_eq (length ts) 2 ≡ is_function_of head.Fun (tys_of ts)
unfolding tys_of tys
fun_count [] = refl
fun_count (t ∷ []) = refl
fun_count (t ∷ u ∷ []) = refl
fun_count (t ∷ u ∷ v ∷ ws) = ne_eqb (length (t ∷ u ∷ v ∷ ws)) 2 (λ e. absurd (omega (arith, e)))

pub fun_two : (ts : List TypeTree) → nat_eq (length ts) 2 ≡ is_function_of head.Fun (tys_of ts)
fun_two ts = fun_count ts

pub two_parts : (ts : List TypeTree) → nat_eq (length ts) 2 ≡ true → length ts ≡ 2
two_parts ts h = eqb-true (length ts) 2 h

pub fun_none : (h : Head) (ts : Tys) → (h ≡ head.Fun → ⊥) → false ≡ is_function_of h ts
fun_none (head.Scalar s) ts a = refl
fun_none head.Array ts a = refl
fun_none head.Tuple ts a = refl
fun_none (head.Record n) ts a = refl
fun_none head.Fun ts a = elim (a refl) [ ]
fun_none (head.Rigid n k) ts a = refl
fun_none (head.Abstract n b) ts a = refl

pub not_two : (n : ℕ) → false ≡ true → n ≡ 2
not_two n h = cc

pub ruleset functions = (fun_two, two_parts, fun_none, not_two)

-- ---- the type that stands where a variable stands

module _ (v : Variable) where
  pub there_same : (w : Variable) (u : Ty) → true ≡ is_variable v w → Some u ≡ type_where v (Hole w) u
  unfolding type_where
  there_same w u h = ap (λ z. cond z (Some u) None) h

  pub there_other : (w : Variable) (u : Ty) → false ≡ is_variable v w → None ≡ type_where v (Hole w) u
  unfolding type_where
  there_other w u h = ap (λ z. cond z (Some u) None) h

  pub there_open : (n : ℕ) (w : Variable) (x u : Ty) → None ≡ type_where v (Open n w x) u
  unfolding type_where
  there_open n w x u = refl

  pub there_level_var : (d : Dim) (t : Size) (a : ℕ) → None ≡ type_where v (Level d t) (Var a)
  unfolding type_where
  there_level_var d t a = refl

  pub there_level_out : (d : Dim) (t : Size) (h : Head) (ts : Tys) → None ≡ element_in h ts → None ≡ type_where v (Level d t) (Made h ts)
  unfolding type_where
  there_level_out d t (head.Scalar s) ts e = refl
  there_level_out d t head.Array none e = refl
  there_level_out d t head.Array (more u none) e = cc
  there_level_out d t head.Array (more u (more x us)) e = refl
  there_level_out d t head.Tuple ts e = refl
  there_level_out d t (head.Record n) ts e = refl
  there_level_out d t head.Fun ts e = refl
  there_level_out d t (head.Rigid n k) ts e = refl
  there_level_out d t (head.Abstract n b) ts e = refl

  pub there_level_in : (d : Dim) (t : Size) (h : Head) (ts : Tys) (u : Ty) (r : Option Ty) → Some u ≡ element_in h ts → r ≡ type_where v t u → r ≡ type_where v (Level d t) (Made h ts)
  unfolding type_where
  there_level_in d t (head.Scalar s) ts u r e f = cc
  there_level_in d t head.Array none u r e f = cc
  there_level_in d t head.Array (more x none) u r e f = f ∙ ap (λ z. type_where v t (or_first z)) e
    where
      or_first : Option Ty → Ty
      or_first (Some y) = y
      or_first None = x
  there_level_in d t head.Array (more x (more y us)) u r e f = cc
  there_level_in d t head.Tuple ts u r e f = cc
  there_level_in d t (head.Record n) ts u r e f = cc
  there_level_in d t head.Fun ts u r e f = cc
  there_level_in d t (head.Rigid n k) ts u r e f = cc
  there_level_in d t (head.Abstract n b) ts u r e f = cc

  pub there_built_var : (h : Head) (ts : Sizes) (a : ℕ) → None ≡ type_where v (Built h ts) (Var a)
  unfolding type_where
  there_built_var h ts a = refl

  pub there_built : (h g : Head) (ts : Sizes) (us : Tys) (r : Option Ty) → r ≡ type_in v ts us → r ≡ type_where v (Built h ts) (Made g us)
  unfolding type_where type_in
  there_built h g ts us r e = e

  pub there_fun_var : (k : ℕ) (p r : Size) (a : ℕ) → None ≡ type_where v (Fun k p r) (Var a)
  unfolding type_where
  there_fun_var k p r a = refl

  pub there_fun_out : (k : ℕ) (p r : Size) (h : Head) (ts : Tys) → false ≡ is_function_of h ts → None ≡ type_where v (Fun k p r) (Made h ts)
  unfolding type_where
  there_fun_out k p r (head.Scalar s) ts e = refl
  there_fun_out k p r head.Array ts e = refl
  there_fun_out k p r head.Tuple ts e = refl
  there_fun_out k p r (head.Record n) ts e = refl
  there_fun_out k p r head.Fun none e = refl
  there_fun_out k p r head.Fun (more t none) e = refl
  there_fun_out k p r head.Fun (more t (more u none)) e = cc
  there_fun_out k p r head.Fun (more t (more u (more x ts))) e = refl
  there_fun_out k p r (head.Rigid n l) ts e = refl
  there_fun_out k p r (head.Abstract n b) ts e = refl

  is_fun : (h : Head) (t u : Ty) → true ≡ is_function_of h (more t (more u none)) → h ≡ head.Fun
  is_fun (head.Scalar s) t u e = cc
  is_fun head.Array t u e = cc
  is_fun head.Tuple t u e = cc
  is_fun (head.Record n) t u e = cc
  is_fun head.Fun t u e = refl
  is_fun (head.Rigid n k) t u e = cc
  is_fun (head.Abstract n b) t u e = cc

  module _ (k : ℕ) (p r : Size) (h : Head) (ts : List TypeTree) (t : TypeTree) (two : length ts ≡ 2) (e : true ≡ is_function_of h (tys_of ts)) where
    of_two : (u : TypeTree) → type_where v (Fun k p r) (Made h (tys_of ts)) ≡ or_else (type_where v p (type_of (get_or ts 0 t))) (type_where v r (type_of (get_or ts 1 u)))
    unfolding type_where
    of_two u =
        ap (λ z. type_where v (Fun k p r) (Made h z)) (tys_two ts t u two)
        ∙ ap (λ z. type_where v (Fun k p r) (Made z (more (type_of (get_or ts 0 t)) (more (type_of (get_or ts 1 u)) none)))) (is_fun h (type_of (get_or ts 0 t)) (type_of (get_or ts 1 u)) (e ∙ ap (is_function_of h) (tys_two ts t u two)))

    pub there_fun_first : (x : Ty) → Some x ≡ type_where v p (type_of (get_or ts 0 t)) → Some x ≡ type_where v (Fun k p r) (Made h (tys_of ts))
    there_fun_first x f = sym (of_two t ∙ ap (λ z. or_else z (type_where v r (type_of (get_or ts 1 t)))) (sym f))

    pub there_fun_second : (u : TypeTree) (o : Option Ty) → None ≡ type_where v p (type_of (get_or ts 0 t)) → o ≡ type_where v r (type_of (get_or ts 1 u)) → o ≡ type_where v (Fun k p r) (Made h (tys_of ts))
    there_fun_second u o f g = g ∙ sym (of_two u ∙ ap (λ z. or_else z (type_where v r (type_of (get_or ts 1 u)))) (sym f))

  module _ (ts : List SizeTree) (us : List TypeTree) (i : ℕ) (t : SizeTree) (u : TypeTree) (o : type_in v (sizes_of ts) (tys_of us) ≡ type_in v (sizes_of (drop i ts)) (tys_of (drop i us))) where
    here : i < length ts → i < length us → type_in v (sizes_of ts) (tys_of us) ≡ or_else (type_where v (size_of (get_or ts i t)) (type_of (get_or us i u))) (type_in v (sizes_of (drop (i + 1) ts)) (tys_of (drop (i + 1) us)))
    unfolding type_where type_in
    here l k = o ∙ ap (λ z. type_in v z (tys_of (drop i us))) (parts_at ts i t l) ∙ ap (type_in v (size_and (size_of (get_or ts i t)) (sizes_of (drop (i + 1) ts)))) (tys_at us i u k)

    pub in_more : i < length ts → i < length us → None ≡ type_where v (size_of (get_or ts i t)) (type_of (get_or us i u)) → type_in v (sizes_of ts) (tys_of us) ≡ type_in v (sizes_of (drop (i + 1) ts)) (tys_of (drop (i + 1) us))
    in_more l k e = here l k ∙ ap (λ z. or_else z (type_in v (sizes_of (drop (i + 1) ts)) (tys_of (drop (i + 1) us)))) (sym e)

    pub in_here : (x : Ty) → i < length ts → i < length us → Some x ≡ type_where v (size_of (get_or ts i t)) (type_of (get_or us i u)) → Some x ≡ type_in v (sizes_of ts) (tys_of us)
    in_here x l k e = sym (here l k ∙ ap (λ z. or_else z (type_in v (sizes_of (drop (i + 1) ts)) (tys_of (drop (i + 1) us)))) (sym e))

  module _ (ts : List SizeTree) (us : List TypeTree) (i : ℕ) (o : type_in v (sizes_of ts) (tys_of us) ≡ type_in v (sizes_of (drop i ts)) (tys_of (drop i us))) where
    no_type : (ts : Sizes) → type_in v ts none ≡ None
    unfolding type_in
    no_type no_size = refl
    no_type (size_and t ts) = refl

    pub in_end : length ts ≤ i → None ≡ type_in v (sizes_of ts) (tys_of us)
    unfolding type_in
    in_end l = sym (o ∙ ap (λ z. type_in v z (tys_of (drop i us))) (parts_end ts i l))

    pub in_stop : length us ≤ i → None ≡ type_in v (sizes_of ts) (tys_of us)
    in_stop l = sym (o ∙ ap (type_in v (sizes_of (drop i ts))) (tys_end us i l) ∙ no_type (sizes_of (drop i ts)))

pub ruleset stands = (forms, type_var, type_made, there_same, there_other, there_open, there_level_var, there_level_out, there_level_in, there_built_var, there_built, there_fun_var, there_fun_out, there_fun_first, there_fun_second)

pub ruleset all_stand = (in_more, in_here, in_end, in_stop)

-- ---- a variable by itself

pub alone_written : (b : ℕ) (k : Kind) (t : TypeTree) (ts : Bor (List TypeTree)) → t ≡ type.Made 0 (head.Rigid b k) ts → ts.now ≡ [] → type_of t ≡ Made (head.Rigid b k) none
alone_written b k t ts is e = ap type_of is ∙ type_made 0 (head.Rigid b k) ts ∙ ap (λ z. Made (head.Rigid b k) (tys_of z)) e ∙ ap (Made (head.Rigid b k)) tys_none

pub alone_inferred : (v : ℕ) (t : TypeTree) → t ≡ type.Var v → type_of t ≡ Var v
alone_inferred v t is = ap type_of is ∙ type_var v

pub ruleset by_itself = (alone_written, alone_inferred)

-- ---- instances

alone_is : (v : Variable) → erased (Hole v) ≡ variable_ty v
unfolding erased
alone_is v = refl

module _ (n : ℕ) (t : Size) (u : Ty) where
  pub instance_alone : (v : Variable) (x : Ty) (w : Size) → None ≡ type_where v t u → x ≡ variable_ty v → w ≡ Open n v x → w ≡ instance n (chooses t u) (Hole v)
  unfolding instance
  instance_alone v x w e f h = h ∙ ap (Open n v) (f ∙ sym (alone_is v)) ∙ ap (λ z. Open n v (or_variable v z)) e

-- what the use's type has there
pub instance_found : (r : Result (Bor SizeTree) NoMemory) (tree : SizeTree) (v : variables.Variable) (t : Size) (u x : Ty) (n : ℕ) → tree ≡ form.Hole v → Some x ≡ type_where (variable_of v) t u
    → IfOk r (λ made. size_of made.now ≡ Open n (variable_of v) x) → IfOk r (λ made. size_of made.now ≡ instance n (chooses t u) (size_of tree))
unfolding instance
instance_found (Ok made) tree v t u x n is e h = h ∙ ap (λ z. Open n (variable_of v) (or_variable (variable_of v) z)) e ∙ sym (ap (instance n (chooses t u)) (ap size_of is ∙ size_hole v))
instance_found (Err y) tree v t u x n is e h = tt

module _ (n : ℕ) (f : Variable → Ty) where
  pub instance_open : (m : ℕ) (v : Variable) (u : Ty) → Open m v u ≡ instance n f (Open m v u)
  unfolding instance
  instance_open m v u = refl

  pub instance_level : (d : Dim) (t u w : Size) → u ≡ instance n f t → w ≡ Level d u → w ≡ instance n f (Level d t)
  unfolding instance
  instance_level d t u w b c = c ∙ ap (Level d) b

  pub instance_built : (h : Head) (ts us : Sizes) (w : Size) → us ≡ instances n f ts → w ≡ Built h us → w ≡ instance n f (Built h ts)
  unfolding instance instances
  instance_built h ts us w a b = b ∙ ap (Built h) a

  pub instance_fun : (k : ℕ) (p r q t w : Size) → q ≡ instance n f p → t ≡ instance n f r → w ≡ Fun k q t → w ≡ instance n f (Fun k p r)
  unfolding instance
  instance_fun k p r q t w a b c = rw (c, b, a) refl

  module _ (ts : List SizeTree) (i : ℕ) (made : List SizeTree) (h : instances n f (sizes_of ts) ≡ before made (instances n f (sizes_of (drop i ts)))) where
    pub instances_more : (t part : SizeTree) (next : List SizeTree) → i < length ts → size_of part ≡ instance n f (size_of (get_or ts i t)) → next ≡ made ++ part ∷ []
        → instances n f (sizes_of ts) ≡ before next (instances n f (sizes_of (drop (i + 1) ts)))
    unfolding instance instances
    instances_more t part next l e b =
        h ∙ ap (before made) (ap (instances n f) (parts_at ts i t l) ∙ ap (λ z. size_and z (instances n f (sizes_of (drop (i + 1) ts)))) (sym e))
        ∙ sym (before_more made part (instances n f (sizes_of (drop (i + 1) ts))))
        ∙ ap (λ z. before z (instances n f (sizes_of (drop (i + 1) ts)))) (sym b)

    pub instances_end : length ts ≤ i → sizes_of made ≡ instances n f (sizes_of ts)
    unfolding instances
    instances_end l = sym (h ∙ ap (before made) (ap (instances n f) (parts_end ts i l)) ∙ before_none made)

pub ruleset instances_of = (forms, instance_alone, instance_open, instance_level, instance_built, instance_fun)

pub ruleset all_instances = (instances_more, instances_end)
