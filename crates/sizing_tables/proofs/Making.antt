-- What the tables tell.
use Rattle.std.proofs.Common.{◌≡◌, ℕ, List, [], ◌∷◌, ◌++◌, false, map, flat_map, get_or, slice_get, Option, Some, Result, Ok, Err, IfOk, refl, sym, ap, ◌∙◌, subst, Bor}
use Rattle.fut_scalar.specs.declared.memory.NoMemory.{NoMemory}
use Rattle.fut_ast.specs.Sorts.{Text}
use Rattle.fut_flat.specs.declared.program.Definition.{Definition}
use Rattle.fut_flat.specs.declared.program.Flat.{Flat}
use Rattle.fut_flat.specs.Erased.{texts}
use Rattle.fut_meaning.specs.Found.{Sizing}
use Rattle.fut_types.specs.declared.shapes.ShapeTable.{ShapeTable}
use Rattle.fut_types.specs.Shapes.{fields_of}
use Rattle.fut_typing.specs.Names.{Names as Numbering, AreNames}
use Rattle.fut_typing.specs.Program.{defined, program_of}
use Rattle.size_arena.specs.declared.trees.SizeTree.{SizeTree}
use Rattle.told_rows.specs.Tables.{Tells, node_at}
use Rattle.told_rows.specs.declared.tables.Sizes.{Sizes}
use Rattle.type_rules.specs.Fields.{Numbered}
use Rattle.type_rules.specs.Labels.{Labelled}
use Rattle.type_rules.specs.declared.labels.Labels.{Labels}
use Rattle.sizing_tables.specs.Bound.{is_among, program_names, program_sizes}
use Rattle.sizing_tables.specs.Noted.{Noted, Noted_of, full, noted}
use Rattle.sizing_tables.specs.Records.{Are_fields}
use Rattle.sizing_tables.specs.Told.{Is_sizing_of}
use Rattle.sizing_tables.specs.Trees.{definition_names, definition_sizes}
use Rattle.sizing_tables.specs.declared.noting.Names.{Names}
use Rattle.sizing_tables.specs.declared.noting.Noting.{Noting}
use Rattle.sizing_tables.proofs.Layers.{definitions_names, definitions_sizes}

-- ---- what is noted of a whole program

module _ (ds : List Definition) where
  pub names_are : (s t : Noting) (r : Result Names NoMemory) → s.names ≡ [] → Noted s t (flat_map definition_names ds) (flat_map definition_sizes ds) → IfOk r (Noted_of t) → IfOk r (λ bound. bound.names ≡ program_names (map defined ds))
  names_are s t (Ok all) none (noted p e f) is = is.names ∙ e ∙ ap (λ l. l ++ flat_map definition_names ds) none ∙ definitions_names ds
  names_are s t (Ok all) none (full p) is = absurd (let k = is.kept in cc)
  names_are s t (Err e) none n is = tt

  pub sizes_are : (s t : Noting) (r : Result Names NoMemory) → s.sizes ≡ [] → Noted s t (flat_map definition_names ds) (flat_map definition_sizes ds) → IfOk r (Noted_of t) → IfOk r (λ bound. bound.sizes ≡ program_sizes (map defined ds))
  sizes_are s t (Ok all) none (noted p e f) is = is.sizes ∙ f ∙ ap (λ l. l ++ flat_map definition_sizes ds) none ∙ definitions_sizes ds
  sizes_are s t (Ok all) none (full p) is = absurd (let k = is.kept in cc)
  sizes_are s t (Err e) none n is = tt

-- ---- names with the numbers of labels are those of the record

module _ (N : Numbering) (names : AreNames N) where
  one_text : (xs ys : List Text) → map N.label xs ≡ map N.label ys → xs ≡ ys
  one_text [] [] e = refl
  one_text [] (y ∷ ys) e = absurd (let z : ◌≡◌ {A = List ℕ} [] (N.label y ∷ map N.label ys) = e in cc)
  one_text (x ∷ xs) [] e = absurd (let z : ◌≡◌ {A = List ℕ} (N.label x ∷ map N.label xs) [] = e in cc)
  one_text (x ∷ xs) (y ∷ ys) e =
      let z : N.label x ∷ map N.label xs ≡ N.label y ∷ map N.label ys = e in
      let h : N.label x ≡ N.label y = cc in
      let t : map N.label xs ≡ map N.label ys = cc in
      (λ i. names.one_label x y h i ∷ one_text xs ys t i)

  module _ (labels : Labels) (table : ShapeTable) (known : Labelled labels table N) where
    labels_are : (ts : List Text) (ls : List ℕ) → Numbered labels ts ls → map N.label ts ≡ ls
    unfolding Numbered
    labels_are [] [] h = refl
    labels_are [] (l ∷ ls) h = absurd h
    labels_are (t ∷ ts) [] h = absurd h
    labels_are (t ∷ ts) (l ∷ ls) h = (λ i. known.label t l h.0 i ∷ labels_are ts ls h.1 i)

    -- ---- what the tables tell of a sizing

    pub tells : (flat : Flat) (nodes : List (Option (Bor SizeTree))) (Z : Sizing) (s : Sizes) → Is_sizing_of flat N (node_at nodes) Z
        → s.nodes.now ≡ nodes → s.names.now ≡ program_names (program_of flat) → Are_fields labels table s.fields.now → ((k : ℕ) → get_or s.are_sizes.now k false ≡ is_among k (program_sizes (program_of flat)))
        → Tells s Z
    tells flat nodes Z s is at named fields marks = record {
      nodes = λ n. is.nodes n ∙ ap (λ l. node_at l n) (sym at);
      names = λ q o g. is.homes q o (subst (λ l. slice_get l q ≡ Some o) named g);
      fields = λ n fs g. let f = fields.named n fs g in one_text (Z.fields n) (texts fs.now) (is.fields n ∙ known.shapes.fields n f.0 ∙ sym (labels_are (texts fs.now) (fields_of table n) f.1));
      sizes = λ k. is.are_sizes k ∙ sym (marks k);
    }
