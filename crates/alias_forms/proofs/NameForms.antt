-- Names where they stand, and what is bound.
use Rattle.std.proofs.Common.{◌≡◌, ℕ, suc, ◌+◌, List, [], ◌∷◌, length, Option, None, false, Result, Ok, Err, refl, sym, ap, ◌∙◌, subst, arith}
use Rattle.fut_flat.specs.declared.prim.Ref.{Ref}
use Rattle.fut_flat.specs.Erased.{FlatPattern, FlatTerm, Row, lets}
use Rattle.fut_flat.specs.Terms.{Binding, Use}
use Rattle.fut_scalar.specs.declared.place.BindId.{BindId}
use Rattle.fut_scalar.specs.declared.place.Place.{Place}
use Rattle.fut_types.specs.Types.{Kinds, Sub, Ty}
use Rattle.fut_typing.specs.Names.{Names}
use Rattle.fut_aliases.specs.Aliases.{Naming}
use Rattle.fut_aliases.specs.declared.refusals.Named.{Named}
use Rattle.fut_aliases.specs.declared.refusals.Named.TheVariants.{AFunction}
use Rattle.fut_aliases.specs.Calls as definition
use Rattle.fut_aliases.specs.Capturing.{called, or_function, or_name, ref_name, some_name}
use Rattle.fut_aliases.specs.Looking.{behind_let, bound_name, held, let_fits, looked, use_value}
use Rattle.fut_aliases.specs.Looking.{part_of as part_of_held}
use Rattle.fut_aliases.specs.Patterns.{Scope, bound}
use Rattle.fut_aliases.specs.Stars.{Stars}
use Rattle.fut_aliases.specs.Steps.{Losses, Step, and_then, give}
use Rattle.fut_aliases.specs.Values.{Value}
use Rattle.alias_applications.specs.Shown.{NamedAs}
use Rattle.alias_scopes.specs.Scopes.{scope_of}
use Rattle.alias_scopes.specs.declared.trees.ScopeTree.{ScopeTree}
use Rattle.alias_values.specs.Trees.{type_of}
use Rattle.std.specs.Borrow.{Bor}
use Rattle.uniqueness.specs.Answers.{Stepped}
use Rattle.uniqueness.specs.declared.held.Here.{Here}
use Rattle.uniqueness.specs.declared.held.Stop.{Stop}
use Rattle.uniqueness.specs.Held.{held_of, here_of}
use Rattle.alias_forms.specs.declared.seen.Seen.{Seen}
use Rattle.alias_forms.specs.Rows.{row_name}
use Rattle.alias_forms.specs.Seen.{Names_in, part_seen}
use Rattle.alias_forms.proofs.Binding.{bind_ok, bind_stop, given, reworded}
use Rattle.alias_forms.proofs.RowForms.{row_names}
use Rattle.alias_forms.proofs.SeenForms.{part_is}
use Rattle.alias_forms.proofs.WalkForms.{use_is}

-- ---- a name

pub use_named : {r : Ref} {place : Place} {k : ℕ} {f : Named} {name : Option Named} → name ≡ ref_name r → f ≡ or_function name → Names_in (Use r place k) f name
unfolding some_name
use_named {name = name} n e = record { called_so = e ∙ ap or_function n; first_so = n }

pub use_told : {r : Ref} {place : Place} {k n : ℕ} {f : Named} {name : Option Named} → name ≡ ref_name r → f ≡ or_function name → NamedAs (Use r place k) (record { node = n; called = f; first_name = f })
unfolding some_name
use_told n e = record { called_so = e ∙ ap or_function n; first_so = e ∙ ap or_function n }

module _ (naming : Naming) (N : Names) (K : Kinds) (types : Sub) where
  pub use_done : (r : Ref) (place : Place) (k lo : ℕ) (h : definition.Here) (w : Option Stars) {ls : Losses} {s : Seen} {v : Value} → v ≡ use_value naming N K types lo h.scope r → Stepped held_of (held (Use r place k) lo v) ls ls (Ok s.part.head) → s.part.name ≡ bound_name r → type_of s.part.ty.now ≡ types lo → s.part.arguments.now ≡ [] → Stepped part_seen (looked naming N K types (Use r place k) lo h w) ls ls (Ok s)
  use_done r place k lo h w {ls = ls} {s = s} e st m t l = reworded (use_is naming N K types r place k lo h w) (bind_ok (λ x. give (part_of_held x (bound_name r) (types lo))) (subst (λ z. Stepped held_of (held (Use r place k) lo z) ls ls (Ok s.part.head)) e st) (given (part_is s.part refl m t l)))

  -- ---- a let

  module _ (h : Here) (p : FlatPattern) (at first : ℕ) (a : definition.Held) (ls : Losses) (f : first ≡ at + 1) where
    at_first : first ≡ 1 + at
    at_first = omega (arith, f)

    module _ (b : Binding Ref BindId) (scope : Scope) (is : b.pattern ≡ p) where
      abbrev bind_step : Step definition.Here
      bind_step = and_then (let_fits naming N K types (here_of scope h) b.pattern (1 + at) a) (λ z. give (behind_let naming N K types b at a (here_of scope h)))

      abbrev shown_scope : Bor ScopeTree → definition.Here
      shown_scope made = here_of (scope_of made.now) h

      fits_at : (r : Result (Unit {0}) Stop) → Stepped (λ (u : Unit {0}). tt) (let_fits naming N K types (here_of scope h) p first a) ls ls r → Stepped (λ (u : Unit {0}). tt) (let_fits naming N K types (here_of scope h) b.pattern (1 + at) a) ls ls r
      fits_at r x = subst (λ q. Stepped (λ (u : Unit {0}). tt) (let_fits naming N K types (here_of scope h) q (1 + at) a) ls ls r) (sym is) (subst (λ n. Stepped (λ (u : Unit {0}). tt) (let_fits naming N K types (here_of scope h) p n a) ls ls r) at_first x)

      pub bind_stops : {s : Stop} → Stepped (λ (u : Unit {0}). tt) (let_fits naming N K types (here_of scope h) p first a) ls ls (Err s) → Stepped shown_scope bind_step ls ls (Err s)
      bind_stops {s = s} x = bind_stop _ (fits_at (Err s) x)

      pub bind_done : {made : Bor ScopeTree} → Stepped (λ (u : Unit {0}). tt) (let_fits naming N K types (here_of scope h) p first a) ls ls (Ok tt) → scope_of made.now ≡ bound naming N types false p first a.value scope → Stepped shown_scope bind_step ls ls (Ok made)
      bind_done x e = bind_ok _ (fits_at (Ok tt) x) (given (ap (λ z. here_of z h) (e ∙ ap (λ n. bound naming N types false p n a.value scope) at_first ∙ ap (λ q. bound naming N types false q (1 + at) a.value scope) (sym is))))

-- ---- the place of a row of lets

pub called_lets : (ls : List Row) (e : FlatTerm) (f : Named) → f ≡ called e → 1 ≡ suc (length ls) → f ≡ called (lets ls e)
unfolding lets
called_lets [] e f n c = n
called_lets (l ∷ ls) e f n c = absurd (omega (arith, c))

pub called_more : (ls : List Row) (e : FlatTerm) (count : ℕ) → count ≡ suc (length ls) → (count ≡ 1 → ⊥) → AFunction ≡ called (lets ls e)
unfolding lets
called_more [] e count c n = absurd (n c)
called_more (l ∷ ls) e count c n = refl

pub ruleset row_calls = (called_lets, called_more)

pub lets_told : (ls : List Row) (e : FlatTerm) {g later : Named} {n : ℕ} {name row both : Option Named} → row ≡ row_name ls → name ≡ some_name e → both ≡ or_name row name → g ≡ or_function both → later ≡ called (lets ls e) → NamedAs (lets ls e) (record { node = n; called = later; first_name = g })
lets_told ls e {name = name} {row = row} r n b g c = record { called_so = c; first_so = g ∙ ap or_function (b ∙ ap (λ z. or_name z name) r ∙ ap (or_name (row_name ls)) n ∙ sym (row_names ls e)) }

pub lets_end : (ls : List Row) (e : FlatTerm) (n : ℕ) (v : Value) (t : Ty) {s : Seen} {old : Losses} → Stepped held_of (held (lets ls e) n v) old old (Ok s.part.head) → s.part.name ≡ None → type_of s.part.ty.now ≡ t → s.part.arguments.now ≡ [] → Stepped part_seen (and_then (held (lets ls e) n v) (λ a. give (part_of_held a None t))) old old (Ok s)
lets_end ls e n v t {s = s} x m y l = bind_ok (λ a. give (part_of_held a None t)) x (given (part_is s.part refl m y l))
