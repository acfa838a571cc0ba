-- Types that are given for those of a module type.
use Rattle.std.proofs.Common.{◌≡◌, ℕ, ◌+◌, ◌<◌, ◌≤◌, ◌-◌, zero, suc, List, [], ◌∷◌, ◌++◌, map, length, drop, slice_index_or, Bool, true, false, cond, Option, Some, None, refl, sym, ap, ◌∙◌, arith}
use Rattle.std.proofs.Math.ListN.{drop_of_length-le}
use Rattle.std.proofs.lemmas.List.{append_assoc, append-nil}
use Rattle.std.specs.Str.{bytes_eq}
use Rattle.fut_ast.specs.Sorts.{Text, Path}
use Rattle.fut_flat.specs.declared.prim.Ref.{Ref}
use Rattle.fut_tree.specs.Names.{names}
use Rattle.elab_scopes.specs.Declarations.{Given_type, given_at, given_below, given_for, given_within}
use Rattle.module_state.specs.declared.state.Given.{Given}
use Rattle.module_state.specs.Standing.{given_of}
use Rattle.module_members.specs.Steps.{below, deeper, is_here, maybe_one}
use Rattle.module_members.proofs.Loops.{from_index}

given_is : (p : Path) (x : Text) (r : Ref) (o : Option Ref) → given_at p x r o ≡ cond (is_here p x) (Some r) o
given_is [] x r o = refl
given_is (y ∷ []) x r o = refl
given_is (y ∷ z ∷ ys) x r o = refl

one_given : (g : Given) (gs : List Given) (x : Text) → given_for (map given_of (g ∷ gs)) x ≡ cond (is_here (names g.path.now) x) (Some g.ty) (given_for (map given_of gs) x)
unfolding given_for
one_given g gs x = given_is (names g.path.now) x g.ty (given_for (map given_of gs) x)

module _ (gs : List Given) (i : ℕ) (d : Given) (x : Text) (lt : i < length gs) (so : given_for (map given_of gs) x ≡ given_for (map given_of (drop i gs)) x) where
  here : given_for (map given_of gs) x ≡ cond (is_here (names (slice_index_or gs i d).path.now) x) (Some (slice_index_or gs i d).ty) (given_for (map given_of (drop (i + 1) gs)) x)
  here = so ∙ ap (λ l. given_for (map given_of l) x) (from_index gs i d lt) ∙ one_given (slice_index_or gs i d) (drop (i + 1) gs) x

  pub not_here : is_here (names (slice_index_or gs i d).path.now) x ≡ false → given_for (map given_of gs) x ≡ given_for (map given_of (drop (i + 1) gs)) x
  not_here e = here ∙ ap (λ t. cond t (Some (slice_index_or gs i d).ty) (given_for (map given_of (drop (i + 1) gs)) x)) e

  pub is_given : is_here (names (slice_index_or gs i d).path.now) x ≡ true → Some (slice_index_or gs i d).ty ≡ given_for (map given_of gs) x
  is_given e = sym (here ∙ ap (λ t. cond t (Some (slice_index_or gs i d).ty) (given_for (map given_of (drop (i + 1) gs)) x)) e)

pub none_given : (gs : List Given) (i : ℕ) (x : Text) → length gs ≤ i → given_for (map given_of gs) x ≡ given_for (map given_of (drop i gs)) x → None ≡ given_for (map given_of gs) x
unfolding given_for
none_given gs i x le so = sym (so ∙ ap (λ l. given_for (map given_of l) x) (drop_of_length-le gs le))

-- ---- what is given within a module

choose : (t : Bool) (r : Given_type) (others : List Given_type) → maybe_one (cond t (Some r) None) ++ others ≡ cond t (r ∷ others) others
choose true r others = refl
choose false r others = refl

below_is : (p : Path) (x : Text) (r : Ref) (others : List Given_type) → maybe_one (deeper p x r) ++ others ≡ given_below p x r others
below_is [] x r others = refl
below_is (y ∷ []) x r others = refl
below_is (y ∷ z ∷ ys) x r others = choose (bytes_eq y x) (record { path = z ∷ ys; type = r }) others

one_within : (g : Given) (gs : List Given) (x : Text) → given_within (map given_of (g ∷ gs)) x ≡ maybe_one (below (given_of g) x) ++ given_within (map given_of gs) x
unfolding given_within
one_within g gs x = sym (below_is (names g.path.now) x g.ty (given_within (map given_of gs) x))

pub put_within : (gs : List Given) (i : ℕ) (d : Given) (x : Text) (before after all : List Given_type) → i < length gs → all ≡ before ++ given_within (map given_of (drop i gs)) x → after ≡ before ++ maybe_one (below (given_of (slice_index_or gs i d)) x) → all ≡ after ++ given_within (map given_of (drop (i + 1) gs)) x
put_within gs i d x before after all lt so e = so ∙ ap (λ l. before ++ given_within (map given_of l) x) (from_index gs i d lt) ∙ ap (λ l. before ++ l) (one_within (slice_index_or gs i d) (drop (i + 1) gs) x)
    ∙ sym (append_assoc before (maybe_one (below (given_of (slice_index_or gs i d)) x)) (given_within (map given_of (drop (i + 1) gs)) x)) ∙ ap (λ l. l ++ given_within (map given_of (drop (i + 1) gs)) x) (sym e)

pub end_within : (gs : List Given) (i : ℕ) (x : Text) (before all : List Given_type) → length gs ≤ i → all ≡ before ++ given_within (map given_of (drop i gs)) x → before ≡ all
unfolding given_within
end_within gs i x before all le so = sym (so ∙ ap (λ l. before ++ given_within (map given_of l) x) (drop_of_length-le gs le) ∙ append-nil before)
