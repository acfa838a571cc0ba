-- Where a row of lets comes to a composition.
use Rattle.std.proofs.Common.{◌≡◌, ℕ, zero, suc, ◌+◌, ◌<◌, ◌≤◌, List, [], ◌∷◌, ◌++◌, length, get_or, drop, take, map, Bool, Option, Some, None, refl, sym, ap, ◌∙◌, subst, add-one}
use Rattle.std.proofs.Math.Seq.{drop-cons, take-suc}
use Rattle.fut_flat.specs.declared.exp.Let.{Let as LetTree}
use Rattle.fut_flat.specs.Terms.{Let}
use Rattle.fut_flat.specs.Erased.{FlatTerm, Row, lets}
use Rattle.fut_flat.proofs.ErasedForms.{row_of}
use Rattle.fut_sizes.specs.Compositions.{composition}
use Rattle.size_arena.proofs.Parts.{drop_past}
use Rattle.size_applying.specs.Composed.{Composed, composes, composes_not}
use Rattle.size_applying.specs.declared.compositions.Composition.{Composition}
use Rattle.size_forms.specs.Compositions.{composition_at}
use Rattle.size_forms.specs.Lets.{Plain, no_let, plain_let}

-- nothing composes
pub composed_none : {said : Option Bool} {e : FlatTerm} {r : Option Composition} → Composed said e r → r ≡ None → said ≡ None
composed_none (composes h q) is = cc
composed_none (composes_not h) is = h

-- something composes
pub composed_some : {said : Option Bool} {e : FlatTerm} {r : Option Composition} (c : Composition) → Composed said e r → r ≡ Some c → said ≡ None → ⊥
composed_some c (composes h q) is none = cc
composed_some c (composes_not h) is none = cc

-- one plain let more before what stands behind a row
pub plain_more : (ls : List Row) (l : Row) (e : FlatTerm) → Plain ls (Let l.0 l.1 e) → composition l.0 e ≡ None → Plain (ls ++ l ∷ []) e
unfolding lets
plain_more [] l e p none = plain_let none no_let
plain_more (m ∷ ls) l e (plain_let first rest) none = plain_let (ap (composition m.0) (more ls) ∙ first) (plain_more ls l e rest none)
  where
    more : (ks : List Row) → lets (ks ++ l ∷ []) e ≡ lets ks (Let l.0 l.1 e)
    more [] = refl
    more (k ∷ ks) = ap (λ z. Let k.0 k.1 z) (more ks)

lets_joined : (ls ms : List Row) (e : FlatTerm) → lets (ls ++ ms) e ≡ lets ls (lets ms e)
unfolding lets
lets_joined [] ms e = refl
lets_joined (l ∷ ls) ms e = ap (λ z. Let l.0 l.1 z) (lets_joined ls ms e)

parted : (ls : List LetTree) (i : ℕ) → map row_of ls ≡ map row_of (take i ls) ++ map row_of (drop i ls)
parted [] zero = refl
parted [] (suc i) = refl
parted (l ∷ ls) zero = refl
parted (l ∷ ls) (suc i) = ap (λ z. row_of l ∷ z) (parted ls i)

mapped_more : (ls : List LetTree) (l : LetTree) → map row_of (ls ++ l ∷ []) ≡ map row_of ls ++ row_of l ∷ []
mapped_more [] l = refl
mapped_more (k ∷ ls) l = ap (λ z. row_of k ∷ z) (mapped_more ls l)

module _ (ls : List LetTree) (e : FlatTerm) where
  -- the first i lets compose nothing
  abbrev pub Plain_to : ℕ → Type 0
  Plain_to i = Plain (map row_of (take i ls)) (lets (map row_of (drop i ls)) e)

  pub none_split : Plain_to 0
  none_split = no_let

  pub rest_at : (i : ℕ) (l : LetTree) → i < length ls → lets (map row_of (drop i ls)) e ≡ Let (row_of (get_or ls i l)).0 (row_of (get_or ls i l)).1 (lets (map row_of (drop (suc i) ls)) e)
  unfolding lets
  rest_at i l q = ap (λ z. lets (map row_of z) e) (drop-cons ls i l q)

  pub one_split : (i : ℕ) (l : LetTree) → Plain_to i → i < length ls → composition (row_of (get_or ls i l)).0 (lets (map row_of (drop (i + 1) ls)) e) ≡ None → Plain_to (i + 1)
  one_split i l so_far q none = rw (add-one i) (subst (λ z. Plain z (lets (map row_of (drop (suc i) ls)) e)) (sym (ap (map row_of) (take-suc ls i l q) ∙ mapped_more (take i ls) (get_or ls i l)))
      (plain_more (map row_of (take i ls)) (row_of (get_or ls i l)) (lets (map row_of (drop (suc i) ls)) e) (subst (λ z. Plain (map row_of (take i ls)) z) (rest_at i l q) so_far) (ap (λ z. composition (row_of (get_or ls i l)).0 (lets (map row_of (drop z ls)) e)) (sym (add-one i)) ∙ none)))

  pub one_more_split : (i : ℕ) (l : LetTree) (rest : List LetTree) → Plain_to i → i < length ls → rest ≡ drop (i + 1) ls → composition (row_of (get_or ls i l)).0 (lets (map row_of rest) e) ≡ None → Plain_to (i + 1)
  one_more_split i l rest so_far q is none = one_split i l so_far q (subst (λ z. composition (row_of (get_or ls i l)).0 (lets (map row_of z) e) ≡ None) is none)

  -- a composition begins there
  pub here_composes : (i : ℕ) (l : LetTree) (rest : List LetTree) → i < length ls → rest ≡ drop (i + 1) ls → (composition (row_of (get_or ls i l)).0 (lets (map row_of rest) e) ≡ None → ⊥) → composition_at (lets (map row_of (drop i ls)) e) ≡ None → ⊥
  here_composes i l rest q is some none = some (ap (λ z. composition (row_of (get_or ls i l)).0 (lets (map row_of z) e)) (is ∙ ap (λ z. drop z ls) (add-one i)) ∙ sym (ap composition_at (rest_at i l q)) ∙ none)

-- some lets, then the others
pub lets_split : (ls : List LetTree) (i : ℕ) (e : FlatTerm) → lets (map row_of ls) e ≡ lets (map row_of (take i ls)) (lets (map row_of (drop i ls)) e)
lets_split ls i e = ap (λ z. lets z e) (parted ls i) ∙ lets_joined (map row_of (take i ls)) (map row_of (drop i ls)) e

-- none is left
pub lets_past : (ls : List LetTree) (i : ℕ) (e : FlatTerm) → length ls ≤ i → lets (map row_of (drop i ls)) e ≡ e
unfolding lets
lets_past ls i e q = ap (λ z. lets (map row_of z) e) (drop_past ls i q)
