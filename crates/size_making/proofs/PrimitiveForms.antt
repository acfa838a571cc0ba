-- The sized types of the table, form by form.
use Rattle.std.proofs.Common.{◌≡◌, ℕ, suc, ◌+◌, ◌<◌, ◌≤◌, List, [], ◌∷◌, ◌++◌, length, get_or, drop, Bool, true, false, cond, Option, Some, None, Result, Ok, Err, refl, sym, ap, ◌∙◌, arith, add-one}
use Rattle.std.proofs.Math.Seq.{drop-cons}
use Rattle.std.specs.Prelude.{IfOk}
use Rattle.std.specs.Borrow.{Bor}
use Rattle.fut_scalar.specs.declared.memory.NoMemory.{NoMemory}
use Rattle.fut_scalar.specs.declared.scalar.ScalarType.{ScalarType}
use Rattle.fut_flat.specs.declared.prim.Primitive.{Primitive}
use Rattle.fut_primitives.specs.declared.written.Letter.{Letter}
use Rattle.fut_primitives.specs.declared.written.Size as letters
use Rattle.fut_primitives.specs.declared.written.Size.TheVariants as size
use Rattle.fut_primitives.specs.Written.{Written, Variable, Scalar, Own, From, Array, Unique, Pair, Triple, Named, Function, number}
use Rattle.fut_primitives.specs.Table.{written, own_of, from_of}
use Rattle.fut_types.specs.declared.Head.TheVariants as head
use Rattle.sized_types.specs.Sizes.{Dim, Bound, Inferred, Size, Hole, Level, Built, Fun, Sizes, no_size, levels}
use Rattle.fut_sizes.specs.Primitives.{Frames, scalar_size, pair_size, triple_size, is_letter, next, place, letter_from, letter, is_bound, chosen, argument, sized_type, prim_size}
use Rattle.size_arena.specs.declared.trees.SizeTree.{SizeTree}
use Rattle.size_arena.specs.Trees.{size_of}
use Rattle.size_arena.proofs.Parts.{drop_past, parts_none, parts_and}
use Rattle.size_making.specs.declared.primitives.Letters.{Letters, fold-roll-Letters}
use Rattle.size_making.specs.declared.primitives.Letters.TheOpen as layer
use Rattle.size_making.specs.declared.primitives.Letters.TheVariants as form
use Rattle.size_making.specs.Letters.{letters_form, letters_of}

-- ---- frames

pub letters_outside : letters_of form.Outside ≡ []
unfolding letters_of letters_form
letters_outside = ap letters_of (sym form.rolls-Outside) ∙ fold-roll-Letters _ letters_form layer.Outside

pub letters_inside : (f : Bor (List letters.Size)) (φ : Bor Letters) → letters_of (form.Inside f φ) ≡ f.now ∷ letters_of φ.now
unfolding letters_of letters_form
letters_inside f φ = ap letters_of (sym (form.rolls-Inside f φ)) ∙ fold-roll-Letters _ letters_form (layer.Inside f φ)

pub ruleset frames = (letters_outside, letters_inside)

-- ---- the place of a size

-- so many places behind
abbrev pub behind : ℕ → Option ℕ → Option ℕ
behind i (Some j) = Some (i + j)
behind i None = None

module _ (n : letters.Size) (ms : List letters.Size) (i : ℕ) where
  behind_next : (o : Option ℕ) → behind i (next o) ≡ behind (i + 1) o
  behind_next (Some j) = ap Some (omega arith)
  behind_next None = refl

  pub place_more : (m : letters.Size) → i < length ms → false ≡ is_letter n (get_or ms i m) → place n ms ≡ behind i (place n (drop i ms)) → place n ms ≡ behind (i + 1) (place n (drop (i + 1) ms))
  place_more m l h e = e ∙ ap (λ z. behind i (place n z)) (drop-cons ms i m l) ∙ ap (λ z. behind i (cond z (Some 0) (next (place n (drop (suc i) ms))))) (sym h) ∙ behind_next (place n (drop (suc i) ms)) ∙ ap (λ j. behind (i + 1) (place n (drop j ms))) (sym (add-one i))

  pub place_here : (m : letters.Size) → i < length ms → true ≡ is_letter n (get_or ms i m) → place n ms ≡ behind i (place n (drop i ms)) → Some i ≡ place n ms
  place_here m l h e = sym (e ∙ ap (λ z. behind i (place n z)) (drop-cons ms i m l) ∙ ap (λ z. behind i (cond z (Some 0) (next (place n (drop (suc i) ms))))) (sym h) ∙ ap Some (omega arith))

  pub place_end : length ms ≤ i → place n ms ≡ behind i (place n (drop i ms)) → None ≡ place n ms
  place_end l e = sym (e ∙ ap (λ z. behind i (place n z)) (drop_past ms i l))

pub place_begins : (n : letters.Size) (ms : List letters.Size) → place n ms ≡ behind 0 (place n ms)
place_begins n ms = begins (place n ms)
  where
    begins : (o : Option ℕ) → o ≡ behind 0 o
    begins (Some j) = ap Some (omega arith)
    begins None = refl

pub ruleset places = (place_more, place_here, place_end, place_begins)

-- ---- the size of a level

module _ (f : List letters.Size) (φ : Frames) (n : letters.Size) where
  pub named_here : (j i : ℕ) → Some i ≡ place n f → Bound j i ≡ letter_from j (f ∷ φ) n
  named_here j i e = ap (λ z. bound_or_deeper z) e
    where
      bound_or_deeper : Option ℕ → Dim
      bound_or_deeper (Some i) = Bound j i
      bound_or_deeper None = letter_from (suc j) φ n

  pub named_outer : (j k : ℕ) (d : Dim) → None ≡ place n f → k ≡ j + 1 → d ≡ letter_from k φ n → d ≡ letter_from j (f ∷ φ) n
  named_outer j k d e a h = h ∙ ap (λ z. letter_from z φ n) (a ∙ add-one j) ∙ ap bound_or_deeper e
    where
      bound_or_deeper : Option ℕ → Dim
      bound_or_deeper (Some i) = Bound j i
      bound_or_deeper None = letter_from (suc j) φ n

  pub bound_here : (i : ℕ) → Some i ≡ place n f → true ≡ is_bound (f ∷ φ) n
  bound_here i e = rw (sym e) refl

  pub bound_outer : (b : Bool) → None ≡ place n f → b ≡ is_bound φ n → b ≡ is_bound (f ∷ φ) n
  bound_outer b e h = h ∙ rw (sym e) refl

pub letter_other : (φ : Frames) (i : ℕ) (n : letters.Size) → (n ≡ size.Unknown → ⊥) → letter_from 0 φ n ≡ letter φ i n
letter_other φ i size.N h = refl
letter_other φ i size.M h = refl
letter_other φ i size.K h = refl
letter_other φ i size.Unknown h = elim (h refl) [ ]

pub ruleset named = (frames, named_here, named_outer)

pub ruleset bounds = (frames, bound_here, bound_outer)

pub ruleset letter_forms = (letter_other)

-- ---- what a parameter chooses

module _ (φ : Frames) where
  pub choice_new : (n : letters.Size) (t : Written) (one rest ms : List letters.Size) → false ≡ is_bound φ n → one ≡ n ∷ [] → rest ≡ chosen (one ∷ φ) t → ms ≡ one ++ rest → ms ≡ chosen φ (Array n t)
  choice_new n t one rest ms b o r e = e ∙ ap (λ z. z ++ rest) o ∙ ap (λ z. n ∷ z) (r ∙ ap (λ z. chosen (z ∷ φ) t) o) ∙ rw (sym b) refl

  pub choice_old : (n : letters.Size) (t : Written) (one rest : List letters.Size) → true ≡ is_bound φ n → one ≡ n ∷ [] → rest ≡ chosen (one ∷ φ) t → rest ≡ chosen φ (Array n t)
  choice_old n t one rest b o r = r ∙ ap (λ z. chosen (z ∷ φ) t) o ∙ rw (sym b) refl

  pub choice_pair : (t u : Written) (a b c : List letters.Size) → a ≡ chosen φ t → b ≡ chosen (a ∷ φ) u → c ≡ a ++ b → c ≡ chosen φ (Pair t u)
  choice_pair t u a b c p q r = rw (r, q, p) refl

  pub choice_triple : (t u v : Written) (a b d c x y : List letters.Size) → a ≡ chosen φ t → b ≡ chosen (a ∷ φ) u → d ≡ chosen φ u → c ≡ chosen (a ∷ d ∷ φ) v → x ≡ b ++ c → y ≡ a ++ x → y ≡ chosen φ (Triple t u v)
  choice_triple t u v a b d c x y p q r s e f = rw (f, e, s, r, q, p) refl

pub ruleset choices = (choice_new, choice_old, choice_pair, choice_triple)

pub no_argument : (ms : List letters.Size) → ms ++ [] ≡ ms
no_argument [] = refl
no_argument (m ∷ ms) = ap (λ z. m ∷ z) (no_argument ms)

pub ruleset arguments = (no_argument)

-- ---- scalars and tuples

pub scalar_made : (s : ScalarType) (w : Size) (ts : Sizes) → ts ≡ no_size → w ≡ Built (head.Scalar s) ts → w ≡ scalar_size s
scalar_made s w ts e h = h ∙ ap (Built (head.Scalar s)) e

pub ruleset scalars = (scalar_made)

pub ruleset tuples = (parts_none, parts_and)

-- ---- types

module _ (own from : ScalarType) (φ : Frames) (i : ℕ) where
  pub type_variable : (x : Letter) (w : Size) → w ≡ Hole (Inferred (number x)) → w ≡ sized_type own from φ i (Variable x)
  unfolding sized_type
  type_variable x w e = e

  pub type_scalar : (s : ScalarType) (w : Size) → w ≡ scalar_size s → w ≡ sized_type own from φ i (Scalar s)
  unfolding sized_type
  type_scalar s w e = e

  pub type_own : (w : Size) → w ≡ scalar_size own → w ≡ sized_type own from φ i Own
  unfolding sized_type
  type_own w e = e

  pub type_from : (w : Size) → w ≡ scalar_size from → w ≡ sized_type own from φ i From
  unfolding sized_type
  type_from w e = e

  pub type_array : (n : letters.Size) (t : Written) (d : Dim) (j : ℕ) (u w : Size) → d ≡ letter φ i n → j ≡ i + 1 → u ≡ sized_type own from φ j t → w ≡ Level d u → w ≡ sized_type own from φ i (Array n t)
  unfolding sized_type
  type_array n t d j u w a b c e = e ∙ ap (λ z. Level z u) a ∙ ap (Level (letter φ i n)) (c ∙ ap (λ z. sized_type own from φ z t) (b ∙ add-one i))

  pub type_unique : (t : Written) (w : Size) → w ≡ sized_type own from φ i t → w ≡ sized_type own from φ i (Unique t)
  unfolding sized_type
  type_unique t w e = e

  pub type_named : (n : letters.Size) (t : Written) (w : Size) → w ≡ sized_type own from φ i t → w ≡ sized_type own from φ i (Named n t)
  unfolding sized_type
  type_named n t w e = e

  pub type_pair : (t u : Written) (a b w : Size) (j : ℕ) → a ≡ sized_type own from φ i t → j ≡ i + levels a → b ≡ sized_type own from φ j u → w ≡ pair_size a b → w ≡ sized_type own from φ i (Pair t u)
  unfolding sized_type
  type_pair t u a b w j p q r e =
      e ∙ ap (pair_size a) (r ∙ ap (λ z. sized_type own from φ z u) (q ∙ swapped i (levels a)) ∙ ap (λ z. sized_type own from φ (levels z + i) u) p) ∙ ap (λ z. pair_size z (sized_type own from φ (levels (sized_type own from φ i t) + i) u)) p
    where
      swapped : (x y : ℕ) → x + y ≡ y + x
      swapped x y = omega arith

  pub type_triple : (t u v : Written) (a b c w : Size) → a ≡ sized_type own from φ i t → b ≡ sized_type own from φ i u → c ≡ sized_type own from φ i v → w ≡ triple_size a b c → w ≡ sized_type own from φ i (Triple t u v)
  unfolding sized_type
  type_triple t u v a b c w p q r e = rw (e, r, q, p) refl

  pub type_function : (t u : Written) (a b : List letters.Size) (p r w : Size) (j k : ℕ) → a ≡ chosen φ t → k ≡ length a → p ≡ sized_type own from (a ∷ φ) 0 t → b ≡ a ++ argument t → j ≡ k + 1 → r ≡ sized_type own from (b ∷ φ) j u → w ≡ Fun k p r
      → w ≡ sized_type own from φ i (Function t u)
  unfolding sized_type
  type_function t u a b p r w j k c l e d m f g = rw (g, f, m, d, e, l, add-one, c) refl

pub ruleset types = (type_variable, type_scalar, type_own, type_from, type_array, type_unique, type_named, type_pair, type_triple, type_function)

-- inside of no function type
pub whole_size : (r : Result (Bor SizeTree) NoMemory) (l : Letters) (t : Written) (s q : ScalarType) (p : Primitive) → l ≡ form.Outside → t ≡ written p → s ≡ own_of p → q ≡ from_of p
    → IfOk r (λ made. size_of made.now ≡ sized_type s q (letters_of l) 0 t) → IfOk r (λ made. size_of made.now ≡ prim_size p)
unfolding prim_size
whole_size (Ok made) l t s q p a b c d e =
    e ∙ ap (λ z. sized_type s q z 0 t) (ap letters_of a ∙ letters_outside) ∙ ap (sized_type s q [] 0) b ∙ ap (λ z. sized_type z q [] 0 (written p)) c ∙ ap (λ z. sized_type (own_of p) z [] 0 (written p)) d
whole_size (Err x) l t s q p a b c d e = tt
