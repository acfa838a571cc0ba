-- The parts of an expression that are resolved one after another, of which some bring names for those behind them.
use Rattle.std.specs.Prelude.{◌≡◌, ◌++◌, ℕ, zero, suc, length, List, [], ◌∷◌, map, Option, None, Ok}
use Rattle.fut_ast.specs.Sorts.{Text, SourceExp}
use Rattle.fut_ast.specs.declared.pat.Head.{Head as PlainHead}
use Rattle.fut_scalar.specs.declared.place.BindId.{BindId}
use Rattle.fut_tree.specs.declared.held.Held.{Held}
use Rattle.fut_tree.specs.declared.exp.Bind.{Bind}
use Rattle.fut_tree.specs.declared.exp.LoopForm.{LoopForm}
use Rattle.fut_tree.specs.declared.exp.LoopForm.TheVariants as held_loop
use Rattle.fut_tree.specs.Names.{names}
use Rattle.fut_tree.specs.Pats.{heads_of}
use Rattle.fut_flat.specs.Terms.{Parameter, Counted, Over, While}
use Rattle.fut_flat.specs.Erased.{FlatPattern, FlatTerm, FlatTurns, Row}
use Rattle.fut_flat.specs.Sources.{Spelled, SourcePattern, SourceTerm, source_pattern, source_term}
use Rattle.fut_flat.specs.declared.exp.Let.{Let as LetTree}
use Rattle.fut_flat.proofs.ErasedForms.{row_of}
use Rattle.elab_scopes.specs.declared.table.Names.{Names}
use Rattle.elab_scopes.specs.Table.{scope_of, made_of}
use Rattle.elab_scopes.specs.Scopes.{Scope, a_value, enter}
use Rattle.elab_scopes.specs.Resolve.{Bound, Numbered, after, led_by, next, with_text, resolve, resolve_pattern, section_name}
use Rattle.elab_types.specs.Bindings.{sizes_numbered, heads_numbered}

unfoldable pub source_of : SourceExp → SourceTerm
source_of e = source_term e

unfoldable pub exp_part : Held SourceExp → Scope → List Text → Numbered FlatTerm
exp_part h sc made = resolve (source_of h.at.now) sc made

-- Size names, and the pattern that sees them. Neither is in scope behind them.
abbrev pub Headed : Type 0
Headed = Bound (List BindId) × Bound FlatPattern

unfoldable pub sized_pattern : List Text → SourcePattern → Scope → List Text → Numbered Headed
sized_pattern xs p sc made = after (sizes_numbered xs sc made) (λ s made. after (resolve_pattern p (enter s.1 sc) made) (λ p made. Ok ((s, p), made)))

-- what both bring
unfoldable pub behind : Headed → Scope → Scope
behind h sc = enter h.1.1 (enter h.0.1 sc)

-- size and type parameters, and the value that sees them
unfoldable pub headed_value : List PlainHead → SourceTerm → Scope → List Text → Numbered (List (Parameter BindId) × FlatTerm)
headed_value hs v sc made = after (heads_numbered hs sc made) (λ h made. after (resolve v (enter h.1 sc) made) (λ v made. Ok ((h.0, v), made)))

-- one let
unfoldable pub row_part : Bind → Scope → List Text → Numbered (Row × Scope)
row_part b sc made =
    after (sized_pattern (names b.sizes.now) (source_pattern b.pat.now) sc made) (λ h made.
    after (headed_value (heads_of b.heads.now) (source_of b.value.now) sc made) (λ v made.
    Ok (((record { sizes = h.0.0; parameters = v.0; is_function = b.is_function; pattern = h.1.0 }, v.1), behind h sc), made)))

-- the name that stands before a let, by how many lets are between it and the body: before the last one that of a section
abbrev pub name_before : ℕ → SourceTerm → Option Spelled
name_before zero e = section_name e
name_before (suc n) e = None

-- lets before a body, each of which sees what those before it bind
unfoldable pub each_row : SourceTerm → List Bind → Scope → List Text → Numbered (List Row × Scope)
each_row e [] sc made = Ok (([], sc), made)
each_row e (b ∷ bs) sc made =
    after (led_by (name_before (length bs) e) sc (row_part b sc made)) (λ r made. after (each_row e bs r.1 made) (λ rs made. Ok ((r.0 ∷ rs.0, rs.1), made)))

-- so far these rows are done, with the names as they are now, and the rest is to be done
pub data Doing_rows (e : SourceTerm) (bs : List Bind) (s : Names) (rest : List Bind) (done : List LetTree) (t : Names) : Type 0 where
  doing_rows : each_row e bs (scope_of s) (made_of s) ≡ after (each_row e rest (scope_of t) (made_of t)) (λ rs made. Ok ((map row_of done ++ rs.0, rs.1), made)) → Doing_rows e bs s rest done t

-- which turns a loop takes, and the scope of its body
unfoldable pub counted_part : Text → SourceTerm → Headed → Scope → List Text → Numbered (FlatTurns × Scope)
counted_part x n h sc made = after (resolve n sc (with_text made x)) (λ n more. Ok ((Counted (next made) n, a_value x (next made) ∷ behind h sc), more))

-- a pattern that sees what the loop's own binds
unfoldable pub inside_pattern : SourcePattern → Headed → Scope → List Text → Numbered (Bound FlatPattern)
inside_pattern p h sc made = resolve_pattern p (behind h sc) made

unfoldable pub over_part : SourcePattern → SourceTerm → Headed → Scope → List Text → Numbered (FlatTurns × Scope)
over_part p e h sc made = after (inside_pattern p h sc made) (λ p made. after (resolve e sc made) (λ e made. Ok ((Over p.0 e, enter p.1 (behind h sc)), made)))

unfoldable pub while_part : SourceTerm → Headed → Scope → List Text → Numbered (FlatTurns × Scope)
while_part c h sc made = after (resolve c (behind h sc) made) (λ c made. Ok ((While c, behind h sc), made))

abbrev pub turns_part : LoopForm → Headed → Scope → List Text → Numbered (FlatTurns × Scope)
turns_part (held_loop.For x n) = counted_part x.now (source_of n.now)
turns_part (held_loop.ForIn p e) = over_part (source_pattern p.now) (source_of e.now)
turns_part (held_loop.While c) = while_part (source_of c.now)
