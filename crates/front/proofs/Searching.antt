-- A row is searched from its beginning.
use Rattle.std.proofs.Common.{◌≡◌, ◌≤◌, ◌<◌, ℕ, ◌+◌, Bool, true, false, length, slice_index_or, sym, ◌∙◌, ap, subst, arith}
use Rattle.std.proofs.lemmas.Bool.{cases_lt}
use Rattle.std.proofs.lemmas.Option.{get_or_from_slice_get, slice_get-get_or, slice_get_within}
use Rattle.std.specs.Prelude.{Some, slice_get}
use mathlib.Core.Logic.{inl, inr}
use Rattle.fut_ast.specs.Sorts.{Text}
use Rattle.fut_flat.specs.declared.program.Definition.{Definition}
use Rattle.fut_flat.specs.declared.program.Flat.{Flat}
use Rattle.front.specs.EntryNameEntries.{Begins_at, Begins_nowhere, begins}

-- a run may begin at none of the first
abbrev pub Begins_later : Flat → Text → ℕ → Type 0
Begins_later flat name many = (i : ℕ) (d : Definition) → i < many → slice_get flat.definitions.now i ≡ Some d → begins flat name d ≡ false

module _ (flat : Flat) (name : Text) (at : ℕ) where
  pub found : (d : Definition) (b : Bool) → at < length flat.definitions.now → b ≡ begins flat name (slice_index_or flat.definitions.now at d) → b ≡ true → Begins_later flat name at → Begins_at flat name at
  found d b lt is holds before = record { definition = slice_index_or flat.definitions.now at d; is = slice_get-get_or flat.definitions.now at d lt; begins = sym is ∙ holds; first = before }

  here : (d e : Definition) (i : ℕ) → i ≡ at → begins flat name (slice_index_or flat.definitions.now at e) ≡ false → slice_get flat.definitions.now i ≡ Some d → begins flat name d ≡ false
  here d e i same fails is = ap (begins flat name) (sym (get_or_from_slice_get flat.definitions.now at d e (subst (λ k. slice_get flat.definitions.now k ≡ Some d) same is))) ∙ fails

  pub passed : (e : Definition) (b : Bool) → b ≡ begins flat name (slice_index_or flat.definitions.now at e) → b ≡ false → Begins_later flat name at → Begins_later flat name (at + 1)
  passed e b is fails before = λ i d lt there. elim (cases_lt i at) as (λ x. begins flat name d ≡ false) [
    | inl below ↦ before i d below there
    | inr above ↦ let same : i ≡ at = omega arith in here d e i same (sym is ∙ fails) there
  ]

  pub ended : length flat.definitions.now ≤ at → Begins_later flat name at → Begins_nowhere flat name
  ended all before = λ i d there. let within = slice_get_within flat.definitions.now i d there in before i d (omega arith) there

-- there is one at most
not_both : (flat : Flat) (name : Text) (at other : ℕ) → Begins_at flat name at → Begins_at flat name other → at < other → ⊥
not_both flat name at other a b lt = let z : true ≡ false = sym a.begins ∙ b.first at a.definition lt a.is in cc

pub one_place : (flat : Flat) (name : Text) (at other : ℕ) → Begins_at flat name at → Begins_at flat name other → at ≡ other
one_place flat name at other a b = elim (cases_lt at other) as (λ x. at ≡ other) [
  | inl below ↦ absurd (not_both flat name at other a b below)
  | inr above ↦ elim (cases_lt other at) as (λ x. at ≡ other) [ inl below ↦ absurd (not_both flat name other at b a below) | inr same ↦ omega (arith, above, same) ]
]
