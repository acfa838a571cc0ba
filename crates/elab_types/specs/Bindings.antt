-- What patterns, size names and heads bind.
use Rattle.std.specs.Prelude.{◌≡◌, ◌++◌, Bool, List, [], ◌∷◌, map, Result, Ok, Err}
use Rattle.std.specs.Borrow.{Bor}
use Rattle.fut_ast.specs.Sorts.{Text, SourcePat}
use Rattle.fut_ast.specs.declared.node.Label.{Label}
use Rattle.fut_ast.specs.declared.pat.Head.{Head as PlainHead}
use Rattle.fut_scalar.specs.declared.place.BindId.{BindId}
use Rattle.fut_tree.specs.declared.pat.Head.{Head}
use Rattle.fut_tree.specs.declared.held.Held.{Held}
use Rattle.fut_tree.specs.Names.{all, names}
use Rattle.fut_tree.specs.Pats.{head_form_of, heads_of}
use Rattle.fut_flat.specs.declared.pat.Pat.{Pat}
use Rattle.fut_flat.specs.declared.pat.Head.{Head as FlatHead}
use Rattle.fut_flat.specs.declared.prim.Ref.{Ref}
use Rattle.fut_flat.specs.Terms.{Parameter, Patterns, pattern_and}
use Rattle.fut_flat.specs.Erased.{FlatPattern, parameter_form, parameters, pattern_of, patterns}
use Rattle.fut_flat.specs.Sources.{head_form, source_parameters, labels, source_pattern, patterns as source_patterns}
use Rattle.elab_scopes.specs.Scopes.{Entry, Scope, enter}
use Rattle.elab_scopes.specs.declared.refusal.Stop.{Stop}
use Rattle.elab_scopes.specs.declared.refusal.Stop.TheVariants as stop
use Rattle.elab_scopes.specs.declared.table.Entry.{Entry as HeldEntry}
use Rattle.elab_scopes.specs.Resolve.{Bound, Numbered, next, with_text, number_sizes, number_heads, head_text, head_with, head_entry, after, resolve_parameters}
use Rattle.elab_scopes.specs.declared.table.Names.{Names}
use Rattle.elab_scopes.specs.Table.{entries_of, scope_of, made_of}
use Rattle.elab_types.specs.declared.pats.Bound.{Bound as HeldBound}
use Rattle.elab_types.specs.declared.binds.Sizes.{Sizes}
use Rattle.elab_types.specs.declared.binds.Heads.{Heads}

abbrev pub bound_pattern_of : HeldBound → Bound FlatPattern
bound_pattern_of b = (pattern_of b.pat, entries_of b.names.now)

-- ---- size names

abbrev pub bound_sizes_of : Sizes → Bound (List BindId)
bound_sizes_of s = (s.binds.now, entries_of s.names.now)

-- their numbers do not depend on their places
unfoldable pub sizes_numbered : List Text → Scope → List Text → Numbered (Bound (List BindId))
sizes_numbered xs sc made = Ok (number_sizes (labels (record { file = 0; line = 0; column = 0 }) xs) made)

-- ---- heads

abbrev pub bound_heads_of : Heads → Bound (List (Parameter BindId))
bound_heads_of h = (parameters h.heads.now, entries_of h.names.now)

unfoldable pub heads_numbered : List PlainHead → Scope → List Text → Numbered (Bound (List (Parameter BindId)))
heads_numbered hs sc made = Ok (number_heads (source_parameters hs) made)

-- a head as the source has it
abbrev pub source_head : Head → Parameter Label
source_head h = head_form h.place (head_form_of h.form)

-- a head that is numbered, whose name is put behind those that come in scope
pub data Numbers_head (h : Head) (s t : Names) (es more : List HeldEntry) : Result FlatHead Stop → Type 0 where
  numbers_head : {x : FlatHead} → parameter_form x.form ≡ head_with (next (made_of s)) (source_head h) → entries_of more ≡ entries_of es ++ head_entry (next (made_of s)) (source_head h) ∷ []
      → made_of t ≡ with_text (made_of s) (head_text (source_head h)) → scope_of t ≡ scope_of s → Numbers_head h s t es more (Ok x)
  no_head : Numbers_head h s t es more (Err stop.Memory)

-- ---- lists of names

-- how a name comes in scope
abbrev pub entry_with : Bor Text → BindId → Bool → HeldEntry
entry_with x b t = record { name = x; bind = b; is_type = t }

abbrev pub number_texts : List (Bor Text) → List Text → Bound (List BindId) × List Text
number_texts xs made = number_sizes (labels (record { file = 0; line = 0; column = 0 }) (names xs)) made

abbrev pub number_held : List Head → List Text → Bound (List (Parameter BindId)) × List Text
number_held hs made = number_heads (source_parameters (heads_of hs)) made

-- what is numbered, before the rest
abbrev pub before : {A : Type 0} → List A → List Entry → Bound (List A) × List Text → Bound (List A) × List Text
before xs es s = ((xs ++ s.0.0, es ++ s.0.1), s.1)

-- so far these are numbered, with the names as they are now, and the rest is to be numbered
pub data Numbering {X A : Type 0} (number : List X → List Text → Bound (List A) × List Text) (xs : List X) (s : Names) (rest : List X) (done : List A) (es : List Entry) (t : Names) : Type 0 where
  numbering : number xs (made_of s) ≡ before done es (number rest (made_of t)) → scope_of t ≡ scope_of s → Numbering number xs s rest done es t

-- ---- parameters

abbrev pub parameters_of : List Pat → Patterns Ref BindId
parameters_of ps = patterns (map pattern_of ps)

-- patterns before others
abbrev pub onto : List FlatPattern → Patterns Ref BindId → Patterns Ref BindId
onto [] qs = qs
onto (p ∷ ps) qs = pattern_and p (onto ps qs)

-- so far these parameters are done, and the rest is to be done
pub data Doing_parameters (hs : List (Held SourcePat)) (s : Names) (rest : List (Held SourcePat)) (done : List Pat) (t : Names) : Type 0 where
  doing_parameters : resolve_parameters (source_patterns (map source_pattern (all hs))) (scope_of s) (made_of s)
      ≡ after (resolve_parameters (source_patterns (map source_pattern (all rest))) (scope_of t) (made_of t)) (λ r made. Ok ((onto (map pattern_of done) r.0, r.1), made)) → Doing_parameters hs s rest done t

-- names that come in scope: these are left, with the names as they are now
pub data Bringing (es : List HeldEntry) (s : Names) (rest : List HeldEntry) (t : Names) : Type 0 where
  bringing : enter (entries_of rest) (scope_of t) ≡ enter (entries_of es) (scope_of s) → made_of t ≡ made_of s → Bringing es s rest t

pub data Brings (es : List HeldEntry) (s t : Names) : Result (Unit {0}) Stop → Type 0 where
  brings : {u : Unit {0}} → scope_of t ≡ enter (entries_of es) (scope_of s) → made_of t ≡ made_of s → Brings es s t (Ok u)
  brings_not : Brings es s t (Err stop.Memory)

-- a pattern whose names come in scope, if it is there
pub data Brought : Result HeldBound Stop → Names → Names → Result Pat Stop → Type 0 where
  brought : {b : HeldBound} {p : Pat} {s t : Names} → scope_of t ≡ enter (entries_of b.names.now) (scope_of s) → made_of t ≡ made_of s → p ≡ b.pat → Brought (Ok b) s t (Ok p)
  none_brought : {e : Stop} {s t : Names} → Brought (Err e) s t (Err e)
  not_brought : {r : Result HeldBound Stop} {s t : Names} → Brought r s t (Err stop.Memory)
