-- The walk, form by form: what the definition does, at the numbers that the walk has.
use Rattle.std.proofs.Common.{◌≡◌, ℕ, ◌+◌, true, false, Option, Some, None, refl, sym, ap, ◌∙◌, arith}
use Rattle.fut_scalar.specs.declared.place.BindId.{BindId}
use Rattle.fut_scalar.specs.declared.place.Place.{Place}
use Rattle.fut_ast.specs.Sorts.{Text}
use Rattle.fut_flat.specs.declared.act.Act.{Act}
use Rattle.fut_flat.specs.declared.act.Act.TheVariants as act
use Rattle.fut_flat.specs.declared.prim.Ref.{Ref}
use Rattle.fut_flat.specs.Erased.{FlatTerm, FlatType, operation_of}
use Rattle.fut_flat.specs.Numbers.{numbers, own_numbers}
use Rattle.fut_flat.specs.Terms.{Apply, Declared, If, Lambda, Patterns, Project, Strict, Use, Terms, no_term, term_and}
use Rattle.fut_types.specs.Types.{Kinds, Sub}
use Rattle.fut_typing.specs.Names.{Names}
use Rattle.fut_aliases.specs.Aliases.{Naming}
use Rattle.fut_aliases.specs.Calls as definition
use Rattle.fut_aliases.specs.Calls.{Here}
use Rattle.fut_aliases.specs.Looking.{all_looked, body_node, body_stars, body_wanted, bound_name, by_itself, function_stars, give_back, held, in_body, looked, or_plain, part_of, projected, ready, use_value, wanted_parameter, wanted_part, whole, with_argument, capture_fits}
use Rattle.fut_aliases.specs.Capturing.{capture, captures}
use Rattle.fut_aliases.specs.Operations.{ascribe, operation}
use Rattle.fut_aliases.specs.Stars.{Stars, written_stars}
use Rattle.fut_aliases.specs.Steps.{Step, and_then, apart, either_of, give}
use Rattle.fut_aliases.specs.Values.{Function, unite}
use Rattle.alias_forms.specs.Plain.{is_plain}

module _ (naming : Naming) (N : Names) (K : Kinds) (types : Sub) where
  -- the value of a term by itself
  abbrev pub alone : FlatTerm → ℕ → Here → Option Stars → Step definition.Held
  alone e n h w = by_itself naming N K types e n h (looked naming N K types e n h w)

  -- ---- a name

  pub use_is : (r : Ref) (place : Place) (k lo : ℕ) (h : Here) (w : Option Stars) → looked naming N K types (Use r place k) lo h w ≡ and_then (held (Use r place k) lo (use_value naming N K types lo h.scope r)) (λ a. give (part_of a (bound_name r) (types lo)))
  unfolding looked
  use_is r place k lo h w = refl

  -- ---- operations

  pub plain_is : (a : Act) (mark : Place) (ts : Terms Ref BindId) (lo first : ℕ) (h : Here) (w : Option Stars) → is_plain a ≡ true → first ≡ lo + own_numbers (operation_of a)
      → looked naming N K types (Strict (operation_of a) mark ts) lo h w ≡ and_then (all_looked naming N K types ts first h (wanted_part naming N K types (operation_of a) lo w) 0) (λ parts. and_then (operation N K types h (operation_of a) lo mark parts) (λ v. whole naming N K types (Strict (operation_of a) mark ts) lo v))
  unfolding looked
  plain_is a mark ts lo first h w e f = by_act a e ∙ ap (λ n. and_then (all_looked naming N K types ts n h (wanted_part naming N K types (operation_of a) lo w) 0) (λ parts. and_then (operation N K types h (operation_of a) lo mark parts) (λ v. whole naming N K types (Strict (operation_of a) mark ts) lo v))) (sym f)
    where
      by_act : (a : Act) → is_plain a ≡ true → looked naming N K types (Strict (operation_of a) mark ts) lo h w ≡ and_then (all_looked naming N K types ts (lo + own_numbers (operation_of a)) h (wanted_part naming N K types (operation_of a) lo w) 0) (λ parts. and_then (operation N K types h (operation_of a) lo mark parts) (λ v. whole naming N K types (Strict (operation_of a) mark ts) lo v))
      by_act (act.Int n t) e = refl
      by_act (act.Truth b) e = refl
      by_act act.Tuple e = refl
      by_act (act.Record fs) e = refl
      by_act act.Array e = refl
      by_act (act.Binary op) e = refl
      by_act act.Negate e = refl
      by_act act.Complement e = refl
      by_act (act.Index ps) e = refl
      by_act (act.Project f) e = cc
      by_act act.Update e = refl
      by_act (act.Replace f) e = refl
      by_act (act.Ascribe t) e = refl
      by_act (act.Coerce t) e = refl
      by_act (act.Declared t) e = cc
      by_act act.Assert e = refl
      by_act (act.Range by end) e = refl

  pub field_is : (f : Text) (mark : Place) (t : FlatTerm) (lo first : ℕ) (h : Here) (w : Option Stars) → first ≡ lo + 2
      → looked naming N K types (Strict (Project f) mark (term_and t no_term)) lo h w ≡ and_then (looked naming N K types t first h None) (λ p. projected naming N K types h (Strict (Project f) mark (term_and t no_term)) f lo p)
  unfolding looked
  field_is f mark t lo first h w e = ap (λ n. and_then (looked naming N K types t n h None) (λ p. projected naming N K types h (Strict (Project f) mark (term_and t no_term)) f lo p)) two
    where
      two : 2 + lo ≡ first
      two = omega (arith, e)

  pub declared_is : (d : FlatType) (mark : Place) (t : FlatTerm) (lo first : ℕ) (h : Here) (w : Option Stars) → first ≡ lo + 1
      → looked naming N K types (Strict (Declared d) mark (term_and t no_term)) lo h w ≡ and_then (alone t first h (Some (or_plain w (written_stars N false d (types lo))))) (λ a. and_then (ascribe h (or_plain w (written_stars N false d (types lo))) a) (λ v. whole naming N K types t lo v))
  unfolding looked
  declared_is d mark t lo first h w e = ap (λ n. and_then (alone t n h (Some (or_plain w (written_stars N false d (types lo))))) (λ a. and_then (ascribe h (or_plain w (written_stars N false d (types lo))) a) (λ v. whole naming N K types t lo v))) one
    where
      one : 1 + lo ≡ first
      one = omega (arith, e)

  -- ---- branches

  pub if_is : (c t e : FlatTerm) (lo first second third : ℕ) (h : Here) (w : Option Stars) → first ≡ lo + 1 → second ≡ first + numbers c → third ≡ second + numbers t
      → looked naming N K types (If c t e) lo h w ≡ and_then (alone c first h None) (λ z. and_then (either_of (λ (a b : definition.Held). unite a.value b.value) (alone t second h None) (alone e third h None)) (λ v. whole naming N K types (If c t e) lo v))
  unfolding looked
  if_is c t e lo first second third h w p q r =
      ap (λ n. and_then (alone c n h None) (λ z. and_then (either_of (λ (a b : definition.Held). unite a.value b.value) (alone t (n + numbers c) h None) (alone e (n + numbers c + numbers t) h None)) (λ v. whole naming N K types (If c t e) lo v))) one
      ∙ ap (λ n. and_then (alone c first h None) (λ z. and_then (either_of (λ (a b : definition.Held). unite a.value b.value) (alone t n h None) (alone e (n + numbers t) h None)) (λ v. whole naming N K types (If c t e) lo v))) (sym q)
      ∙ ap (λ n. and_then (alone c first h None) (λ z. and_then (either_of (λ (a b : definition.Held). unite a.value b.value) (alone t second h None) (alone e n h None)) (λ v. whole naming N K types (If c t e) lo v))) (sym r)
    where
      one : 1 + lo ≡ first
      one = omega (arith, p)

  -- ---- applications

  pub apply_is : (f e : FlatTerm) (lo first second : ℕ) (h : Here) (w : Option Stars) → first ≡ lo + 1 → second ≡ first + numbers f
      → looked naming N K types (Apply f e) lo h w ≡ and_then (looked naming N K types f first h None) (λ p. and_then (ready naming N K types h f first p) (λ q. and_then (alone e second h (wanted_parameter q)) (λ a. give (with_argument naming N K types q a))))
  unfolding looked
  apply_is f e lo first second h w p q =
      ap (λ n. and_then (looked naming N K types f n h None) (λ p. and_then (ready naming N K types h f n p) (λ q. and_then (alone e (n + numbers f) h (wanted_parameter q)) (λ a. give (with_argument naming N K types q a))))) one
      ∙ ap (λ n. and_then (looked naming N K types f first h None) (λ p. and_then (ready naming N K types h f first p) (λ q. and_then (alone e n h (wanted_parameter q)) (λ a. give (with_argument naming N K types q a))))) (sym q)
    where
      one : 1 + lo ≡ first
      one = omega (arith, p)

  -- ---- functions

  pub lambda_is : (ps : Patterns Ref BindId) (e : FlatTerm) (lo : ℕ) (h : Here) (w : Option Stars)
      → looked naming N K types (Lambda ps e) lo h w ≡ and_then (apart (and_then (alone e (body_node naming N K types ps lo) (in_body naming N K types ps lo h) (body_wanted naming N K types ps e lo w)) (λ a. give_back naming N K types (in_body naming N K types ps lo h) (body_stars naming N K types ps e lo w) a))) (λ z. and_then (capture_fits naming N K types h lo (captures (capture N h.scope e))) (λ y. whole naming N K types (Lambda ps e) lo (Function (captures (capture N h.scope e)) (function_stars naming N K types ps (1 + lo) (body_stars naming N K types ps e lo w)))))
  unfolding looked
  lambda_is ps e lo h w = refl
