-- Where a run may begin is told alike by a program in the arena and by what it is resolved to.
use Rattle.std.proofs.Common.{◌≡◌, ℕ, ◌==◌, ◌&&◌, false, List, map, refl, sym, ◌∙◌, ap}
use Rattle.std.proofs.lemmas.Option.{slice_get-map}
use Rattle.std.specs.Borrow.{Bor}
use Rattle.std.specs.Prelude.{Option, Some, None, option_map, slice_get}
use Rattle.fut_ast.specs.Sorts.{Text}
use Rattle.fut_flat.specs.declared.program.Definition.{Definition}
use Rattle.fut_flat.specs.declared.program.Flat.{Flat}
use Rattle.elab_scopes.specs.Programs.{FlatDefinition}
use Rattle.module_elab.specs.Elaborated.{definition_of, program_of as flat_of}
use Rattle.front.specs.EntryNameEntries.{Begins_at, Begins_nowhere, begins, is_text as is_text_of}
use Rattle.front.specs.Acceptance.{named_file}
use Rattle.front.specs.Entries.{HasEntry, HasNoEntry, is_entry, is_text}

-- ---- texts

read_text : (o : Option (Bor Text)) (name : Text) → is_text (option_map (λ (x : Bor Text). x.now) o) name ≡ is_text_of o name
read_text (Some x) name = refl
read_text None name = refl

abbrev held : Bor Text → Text
held x = x.now

same_text : (xs : List (Bor Text)) (i : ℕ) (name : Text) → is_text (slice_get (map held xs) i) name ≡ is_text_of (slice_get xs i) name
same_text xs i name = ap (λ o. is_text o name) (slice_get-map held xs i) ∙ read_text (slice_get xs i) name

abbrev some_in : FlatDefinition → Option FlatDefinition → FlatDefinition
some_in other (Some d) = d
some_in other None = other

some_same : {d e : FlatDefinition} → ◌≡◌ {A = Option FlatDefinition} (Some d) (Some e) → d ≡ e
some_same {d} e = ap (some_in d) e

module _ (flat : Flat) (name : Text) where
  same_entry : (d : Definition) → is_entry (flat_of flat) name (definition_of d) ≡ begins flat name d
  same_entry d = ap (λ b. d.is_entry && (d.file == named_file && b)) (same_text flat.names.now d.bind.0 name)

  same_definition : (at : ℕ) → slice_get (flat_of flat).definitions at ≡ option_map definition_of (slice_get flat.definitions.now at)
  same_definition at = slice_get-map definition_of flat.definitions.now at

  pub has_entry : (at : ℕ) → Begins_at flat name at → HasEntry (flat_of flat) name at
  has_entry at b = record {
    definition = definition_of b.definition;
    is = same_definition at ∙ ap (option_map definition_of) b.is;
    entry = same_entry b.definition ∙ b.begins;
  }

  nowhere : (at : ℕ) (o : Option Definition) (d : FlatDefinition) → Begins_nowhere flat name → slice_get flat.definitions.now at ≡ o → option_map definition_of o ≡ Some d → is_entry (flat_of flat) name d ≡ false
  nowhere at None d none is e = absurd cc
  nowhere at (Some x) d none is e = ap (is_entry (flat_of flat) name) (sym (some_same e)) ∙ same_entry x ∙ none at x is

  pub has_no_entry : Begins_nowhere flat name → HasNoEntry (flat_of flat) name
  has_no_entry none = λ at d is. nowhere at (slice_get flat.definitions.now at) d none refl (sym (same_definition at) ∙ is)
