-- The sizes of ranges, form by form.
use Rattle.std.proofs.Common.{◌≡◌, ℕ, ◌+◌, List, [], ◌∷◌, length, get_or, map, Bool, true, false, refl, sym, ap, ◌∙◌, arith, add-one}
use Rattle.fut_ast.specs.declared.node.End.TheVariants as end
use Rattle.fut_scalar.specs.declared.place.BindId.{BindId}
use Rattle.fut_flat.specs.declared.exp.Exp.{Exp}
use Rattle.fut_flat.specs.declared.prim.Ref.{Ref}
use Rattle.fut_flat.specs.Terms.{Terms, no_term, term_and}
use Rattle.fut_flat.specs.Erased.{FlatTerm, term_of, terms}
use Rattle.sized_types.specs.Sizes.{Free, Unknown}
use Rattle.fut_sizes.specs.Operations.{both, is_literal, range_of, range_size, value_of}
use Rattle.size_operations.specs.Ranges.{counted, stepping}

pub known_size : (n : ℕ) (e : FlatTerm) (b : Bool) (d : Free) → b ≡ true → d ≡ value_of n 0 e → d ≡ range_size n b e
known_size n e b d h is = is ∙ ap (λ z. range_size n z e) (sym h)

pub unknown_size : (n : ℕ) (e : FlatTerm) (b : Bool) → b ≡ false → Unknown n 0 ≡ range_size n b e
unknown_size n e b h = ap (λ z. range_size n z e) (sym h)

pub ruleset sizes = (known_size, unknown_size)

pub other_two : (i64 : Bool) (n : ℕ) (es : List Exp) → (length es ≡ 2 → ⊥) → Unknown n 0 ≡ counted i64 n (terms (map term_of es))
unfolding terms
other_two i64 n [] q = refl
other_two i64 n (x ∷ []) q = refl
other_two i64 n (x ∷ y ∷ []) q = elim (q refl) [ ]
other_two i64 n (x ∷ y ∷ z ∷ es) q = refl

module _ (i64 : Bool) (n : ℕ) where
  pub two_parts : (es : List Exp) (e : Exp) (a b : Bool) (d : Free) → length es ≡ 2 → a ≡ is_literal 0 (term_of (get_or es 0 e)) → b ≡ both i64 a → d ≡ range_size n b (term_of (get_or es 1 e)) → d ≡ counted i64 n (terms (map term_of es))
  unfolding terms
  two_parts [] e a b d l h g is = absurd (omega (arith, l))
  two_parts (x ∷ []) e a b d l h g is = absurd (omega (arith, l))
  two_parts (x ∷ y ∷ []) e a b d l h g is = is ∙ ap (λ z. range_size n z (term_of y)) (g ∙ ap (both i64) h)
  two_parts (x ∷ y ∷ z ∷ es) e a b d l h g is = absurd (omega (arith, l))

pub other_three : (i64 : Bool) (n c : ℕ) (es : List Exp) → (length es ≡ 3 → ⊥) → Unknown n 0 ≡ stepping i64 n c (terms (map term_of es))
unfolding terms
other_three i64 n c [] q = refl
other_three i64 n c (x ∷ []) q = refl
other_three i64 n c (x ∷ y ∷ []) q = refl
other_three i64 n c (x ∷ y ∷ z ∷ []) q = elim (q refl) [ ]
other_three i64 n c (x ∷ y ∷ z ∷ w ∷ es) q = refl

module _ (i64 : Bool) (n c k : ℕ) (next : k ≡ c + 1) where
  pub three_parts : (es : List Exp) (e : Exp) (a b : Bool) (d : Free) → length es ≡ 3 → a ≡ is_literal c (term_of (get_or es 0 e)) → b ≡ is_literal k (term_of (get_or es 1 e)) → d ≡ range_size n (both i64 (both a b)) (term_of (get_or es 2 e)) → d ≡ stepping i64 n c (terms (map term_of es))
  unfolding terms
  three_parts [] e a b d l h g is = absurd (omega (arith, l))
  three_parts (x ∷ []) e a b d l h g is = absurd (omega (arith, l))
  three_parts (x ∷ y ∷ []) e a b d l h g is = absurd (omega (arith, l))
  three_parts (x ∷ y ∷ z ∷ []) e a b d l h g is = is ∙ ap (λ w. range_size n w (term_of z)) (ap (λ w. both i64 (both w b)) h ∙ ap (λ w. both i64 (both (is_literal c (term_of x)) w)) (g ∙ ap (λ j. is_literal j (term_of y)) (next ∙ add-one c)))
  three_parts (x ∷ y ∷ z ∷ w ∷ es) e a b d l h g is = absurd (omega (arith, l))

pub range_above : (i64 s : Bool) (n : ℕ) (es : Terms Ref BindId) → Unknown n 0 ≡ range_of i64 n s end.Above es
range_above i64 true n es = refl
range_above i64 false n es = refl

pub range_through : (i64 : Bool) (n : ℕ) (es : Terms Ref BindId) → Unknown n 0 ≡ range_of i64 n false end.Through es
range_through i64 n es = refl

pub range_counted : (i64 : Bool) (n : ℕ) (es : Terms Ref BindId) → counted i64 n es ≡ range_of i64 n false end.Below es
range_counted i64 n no_term = refl
range_counted i64 n (term_and x no_term) = refl
range_counted i64 n (term_and x (term_and z no_term)) = refl
range_counted i64 n (term_and x (term_and y (term_and z es))) = refl

pub range_below : (i64 : Bool) (n : ℕ) (es : Terms Ref BindId) → stepping i64 n 0 es ≡ range_of i64 n true end.Below es
range_below i64 n no_term = refl
range_below i64 n (term_and x no_term) = refl
range_below i64 n (term_and x (term_and y no_term)) = refl
range_below i64 n (term_and x (term_and y (term_and z no_term))) = refl
range_below i64 n (term_and x (term_and y (term_and z (term_and w es)))) = refl

pub range_steps : (i64 : Bool) (n : ℕ) (es : Terms Ref BindId) → stepping i64 n 1 es ≡ range_of i64 n true end.Through es
range_steps i64 n no_term = refl
range_steps i64 n (term_and x no_term) = refl
range_steps i64 n (term_and x (term_and y no_term)) = refl
range_steps i64 n (term_and x (term_and y (term_and z no_term))) = refl
range_steps i64 n (term_and x (term_and y (term_and z (term_and w es)))) = refl

pub ruleset counts = (other_two, two_parts)

pub ruleset steps = (other_three, three_parts)

pub ruleset ranges = (range_above, range_through, range_counted, range_below, range_steps)
