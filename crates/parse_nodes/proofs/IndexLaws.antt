-- The names of the parts of an index, part by part.
use Rattle.std.proofs.Common.{◌≡◌, ◌++◌, List, [], ◌∷◌, sym, ◌∙◌, ap, map}
use Rattle.std.proofs.lemmas.List.{append_assoc, append-nil, map-append}
use Rattle.fut_ast.specs.Nodes.{flat}
use Rattle.fut_tree.specs.declared.exp.Bind.{Bind}
use Rattle.fut_tree.specs.Exps.{bind_of, binds_of}
use Rattle.parse_nodes.specs.declared.index_nodes.NamedPart.{NamedPart}
use Rattle.parse_nodes.specs.Parts.{named_all}

names_more : (parts : List NamedPart) (part : NamedPart) → flat (map (λ i. i.0) (named_all (parts ++ part ∷ []))) ≡ flat (map (λ i. i.0) (named_all parts)) ++ binds_of part.binds.now
names_more [] part = append-nil (binds_of part.binds.now)
names_more (i ∷ parts) part = ap (λ bs. binds_of i.binds.now ++ bs) (names_more parts part) ∙ sym (append_assoc (binds_of i.binds.now) (flat (map (λ i. i.0) (named_all parts))) (binds_of part.binds.now))

-- one more part
pub row_more : (row : List Bind) (parts : List NamedPart) (part : NamedPart) → binds_of row ≡ flat (map (λ i. i.0) (named_all parts)) → binds_of (row ++ part.binds.now) ≡ flat (map (λ i. i.0) (named_all (parts ++ part ∷ [])))
row_more row parts part so_far = map-append bind_of row part.binds.now ∙ ap (λ bs. bs ++ binds_of part.binds.now) so_far ∙ sym (names_more parts part)
