-- What operations give.
use Rattle.std.proofs.Common.{◌≡◌, ℕ, ◌<◌, Bool, true, false, List, [], ◌∷◌, length, get_or, drop, Result, Ok, Err, refl, sym, ap, ◌∙◌, arith, subst}
use Rattle.std.specs.Prelude.{◌==◌}
use Rattle.std.specs.Borrow.{Bor}
use Rattle.fut_ast.specs.Sorts.{Text}
use Rattle.fut_scalar.specs.declared.place.Place.{Place}
use Rattle.fut_flat.specs.declared.act.Act.{Act}
use Rattle.fut_flat.specs.declared.act.Act.TheVariants as act
use Rattle.fut_flat.specs.Erased.{FlatType, operation_of}
use Rattle.fut_flat.specs.Terms.{Ascribe, Coerce, Declared, Replace, Update}
use Rattle.fut_types.specs.Types.{Kinds, Sub}
use Rattle.fut_typing.specs.Names.{Names}
use Rattle.fut_aliases.specs.Calls as definition
use Rattle.fut_aliases.specs.Calls.{Here}
use Rattle.fut_aliases.specs.Operations.{ascribe, of_parts, operation, update, without_part}
use Rattle.fut_aliases.specs.Stars.{Stars, written_stars}
use Rattle.fut_aliases.specs.Steps.{Losses, Step}
use Rattle.fut_aliases.specs.Values.{Value, of_type, with_part_named}
use Rattle.alias_values.specs.declared.trees.ValueTree.{ValueTree}
use Rattle.alias_values.specs.Trees.{value_of}
use Rattle.uniqueness.specs.Answers.{Stepped, stepped, refused, no_memory}
use Rattle.uniqueness.specs.declared.held.Held.{Held}
use Rattle.uniqueness.specs.declared.held.Stop.{Stop}
use Rattle.uniqueness.specs.Held.{held_of, helds_of}
use Rattle.alias_applications.specs.Shown.{shown_value}
use Rattle.alias_applications.proofs.StepForms.{reworded}
use Rattle.alias_operations.specs.Operating.{is_fresh}

pub not_empty : (xs : List Held) (t : Bool) → t ≡ (length xs == 0) → t ≡ false → 0 < length xs
not_empty [] t e f = cc
not_empty (x ∷ xs) t e f = omega arith

module _ (N : Names) (K : Kinds) (types : Sub) (h : Here) where
  -- an operation that is settled by its parts, and its value in other words
  pub settled_as : (o : Step Value) (parts : List definition.Held) (v w : Value) (ls : Losses) (r : Result (Bor ValueTree) Stop) → v ≡ w → Stepped shown_value (of_parts N K types h parts v) ls ls r → o ≡ of_parts N K types h parts w → Stepped shown_value o ls ls r
  settled_as o parts v w ls r e s q = subst (λ z. Stepped shown_value z ls ls r) (ap (of_parts N K types h parts) e ∙ sym q) s

  pub fresh_is : (a : Act) (n : ℕ) (mark : Place) (parts : List definition.Held) → is_fresh a ≡ true → operation N K types h (operation_of a) n mark parts ≡ of_parts N K types h parts (of_type K [] (types n))
  fresh_is (act.Int m t) n mark parts e = refl
  fresh_is (act.Truth b) n mark parts e = refl
  fresh_is act.Array n mark parts e = refl
  fresh_is (act.Binary op) n mark parts e = refl
  fresh_is act.Negate n mark parts e = refl
  fresh_is act.Complement n mark parts e = refl
  fresh_is act.Assert n mark parts e = refl
  fresh_is (act.Range by end) n mark parts e = refl
  fresh_is act.Tuple n mark parts e = cc
  fresh_is (act.Record fs) n mark parts e = cc
  fresh_is (act.Index ps) n mark parts e = cc
  fresh_is (act.Project f) n mark parts e = cc
  fresh_is act.Update n mark parts e = cc
  fresh_is (act.Replace f) n mark parts e = cc
  fresh_is (act.Ascribe t) n mark parts e = cc
  fresh_is (act.Coerce t) n mark parts e = cc
  fresh_is (act.Declared t) n mark parts e = cc

  pub update_is : (n : ℕ) (mark : Place) (xs : List Held) (d : Held) → 0 < length xs → operation N K types h Update n mark (helds_of xs) ≡ update h mark (held_of (get_or xs 0 d)) (helds_of (drop 1 xs)) (of_type K [] (types n))
  update_is n mark [] d l = absurd (omega (arith, l))
  update_is n mark (x ∷ xs) d l = refl

  pub replace_is : (f : Text) (n : ℕ) (mark : Place) (xs : List Held) (d e : Held) → length xs ≡ 2 → operation N K types h (Replace f) n mark (helds_of xs)
      ≡ of_parts N K types h (without_part N f (held_of (get_or xs 0 d)) ∷ held_of (get_or xs 1 e) ∷ []) (with_part_named N f (value_of (get_or xs 1 e).value.now) (value_of (get_or xs 0 d).value.now))
  replace_is f n mark [] d e l = absurd (omega (arith, l))
  replace_is f n mark (x ∷ []) d e l = absurd (omega (arith, l))
  replace_is f n mark (x ∷ y ∷ []) d e l = refl
  replace_is f n mark (x ∷ y ∷ z ∷ xs) d e l = absurd (omega (arith, l))

  pub ascribe_is : (t : FlatType) (n : ℕ) (mark : Place) (xs : List Held) (d : Held) → length xs ≡ 1 → operation N K types h (Ascribe t) n mark (helds_of xs) ≡ ascribe h (written_stars N false t (types n)) (held_of (get_or xs 0 d))
  ascribe_is t n mark [] d l = absurd (omega (arith, l))
  ascribe_is t n mark (x ∷ []) d l = refl
  ascribe_is t n mark (x ∷ y ∷ xs) d l = absurd (omega (arith, l))

  -- the three written types are one
  pub coerce_is : (t : FlatType) (n : ℕ) (mark : Place) (parts : List definition.Held) → operation N K types h (Coerce t) n mark parts ≡ operation N K types h (Ascribe t) n mark parts
  coerce_is t n mark [] = refl
  coerce_is t n mark (a ∷ []) = refl
  coerce_is t n mark (a ∷ b ∷ more_of) = refl

  pub declared_is : (t : FlatType) (n : ℕ) (mark : Place) (parts : List definition.Held) → operation N K types h (Declared t) n mark parts ≡ operation N K types h (Ascribe t) n mark parts
  declared_is t n mark [] = refl
  declared_is t n mark (a ∷ []) = refl
  declared_is t n mark (a ∷ b ∷ more_of) = refl

-- a step that is shown as what is made beside it
shown_as : (m : Step Value) (v : Value) (old new : Losses) (b : Bor ValueTree) → Stepped (λ (u : Unit {0}). v) m old new (Ok tt) → value_of b.now ≡ v → Stepped shown_value m old new (Ok b)
shown_as m v old new b (stepped q g) e = stepped (q ∙ ap (λ z. Ok (record { result = z; losses = new })) (sym e)) g

shown_stop : (m : Step Value) (v : Value) (old new : Losses) (s : Stop) → Stepped (λ (u : Unit {0}). v) m old new (Err s) → Stepped shown_value m old new (Err s)
shown_stop m v old new s (refused q) = refused q
shown_stop m v old new s no_memory = no_memory

module _ (N : Names) (K : Kinds) (types : Sub) (h : Here) (n : ℕ) (mark : Place) (xs rest : List Held) (d : Held) (some : 0 < length xs) (behind : rest ≡ drop 1 xs) (old new : Losses) where
  abbrev anew : Value
  anew = of_type K [] (types n)

  abbrev updating : Step Value
  updating = update h mark (held_of (get_or xs 0 d)) (helds_of rest) anew

  this_is : operation N K types h Update n mark (helds_of xs) old ≡ updating old
  this_is = ap (λ (z : Step Value). z old) (update_is N K types h n mark xs d some ∙ ap (λ z. update h mark (held_of (get_or xs 0 d)) (helds_of z) anew) (sym behind))

  pub updated_stop : (s : Stop) → Stepped (λ (u : Unit {0}). anew) updating old new (Err s) → Stepped shown_value (operation N K types h Update n mark (helds_of xs)) old new (Err s)
  updated_stop s t = reworded shown_value updating _ old new (Err s) this_is (shown_stop updating anew old new s t)

  pub updated_done : (b : Bor ValueTree) → value_of b.now ≡ anew → Stepped (λ (u : Unit {0}). anew) updating old new (Ok tt) → Stepped shown_value (operation N K types h Update n mark (helds_of xs)) old new (Ok b)
  updated_done b e t = reworded shown_value updating _ old new (Ok b) this_is (shown_as updating anew old new b t e)

-- a record with another part
module _ (N : Names) (K : Kinds) (types : Sub) (h : Here) (f : Text) (n : ℕ) (mark : Place) (xs : List Held) (d e : Held) (two : length xs ≡ 2) (ls : Losses) where
  pub replaced : (a : Held) (v : Value) (r : Result (Bor ValueTree) Stop) → held_of a ≡ without_part N f (held_of (get_or xs 0 d)) → v ≡ with_part_named N f (value_of (get_or xs 1 e).value.now) (value_of (get_or xs 0 d).value.now)
      → Stepped shown_value (of_parts N K types h (held_of a ∷ held_of (get_or xs 1 e) ∷ []) v) ls ls r → Stepped shown_value (operation N K types h (Replace f) n mark (helds_of xs)) ls ls r
  replaced a v r i j t = settled_as N K types h _ (held_of a ∷ held_of (get_or xs 1 e) ∷ []) v (with_part_named N f (value_of (get_or xs 1 e).value.now) (value_of (get_or xs 0 d).value.now)) ls r j t
      (replace_is N K types h f n mark xs d e two ∙ ap (λ z. of_parts N K types h (z ∷ held_of (get_or xs 1 e) ∷ []) (with_part_named N f (value_of (get_or xs 1 e).value.now) (value_of (get_or xs 0 d).value.now))) (sym i))

-- a value at a written type
module _ (N : Names) (K : Kinds) (types : Sub) (h : Here) (t : FlatType) (n : ℕ) (mark : Place) (xs : List Held) (d : Held) (one : length xs ≡ 1) (ls : Losses) where
  pub ascribed_as : (u : Stars) (r : Result (Bor ValueTree) Stop) → u ≡ written_stars N false t (types n) → Stepped shown_value (ascribe h u (held_of (get_or xs 0 d))) ls ls r → Stepped shown_value (operation N K types h (Ascribe t) n mark (helds_of xs)) ls ls r
  ascribed_as u r e s = reworded shown_value (ascribe h u (held_of (get_or xs 0 d))) _ ls ls r (ap (λ (z : Step Value). z ls) (ascribe_is N K types h t n mark xs d one ∙ ap (λ z. ascribe h z (held_of (get_or xs 0 d))) (sym e))) s
