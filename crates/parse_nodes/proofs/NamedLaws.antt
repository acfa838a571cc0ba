-- A part of an index by whether its expressions are there.
use Rattle.std.proofs.Common.{◌≡◌, ◌++◌, Option, Some, None, refl, sym, ap, ◌∙◌}
use Rattle.fut_ast.specs.declared.exp.Ix.TheVariants as ix
use Rattle.fut_ast.specs.declared.node.Spot.{Spot}
use Rattle.fut_ast.specs.Sorts.{SourceExp}
use Rattle.fut_tree.specs.Names.{maybe}
use Rattle.parse_nodes.specs.declared.index_nodes.Upto.{Upto}
use Rattle.parse_nodes.specs.declared.index_nodes.WrittenPart.{WrittenPart}
use Rattle.parse_nodes.specs.Parts.{lets_named, plain_from, section_from, section_part, upto_of, uses_named, written_of}

alone_from : (at : Spot) (first : Option SourceExp) → section_from at first None ≡ (lets_named at first, plain_from (uses_named at first) None)
alone_from at None = refl
alone_from at (Some e) = refl

slice_from : (at colon : Spot) (first end : Option SourceExp) → section_from at first (Some (colon, end)) ≡ (lets_named at first ++ lets_named colon end, ix.Slice (uses_named at first) (uses_named colon end))
slice_from at colon None None = refl
slice_from at colon None (Some f) = refl
slice_from at colon (Some e) None = refl
slice_from at colon (Some e) (Some f) = refl

-- without a colon
pub alone : (part : WrittenPart) (first : Option SourceExp) → part.upto ≡ None → first ≡ uses_named part.at (maybe part.first) → section_part (written_of part) ≡ (lets_named part.at (maybe part.first), plain_from first None)
alone part first none is =
    ap (λ u. section_from part.at (maybe part.first) (upto_of u)) none ∙ alone_from part.at (maybe part.first) ∙ ap (λ u. (lets_named part.at (maybe part.first), plain_from u None)) (sym is)

-- and with one
pub slice : (part : WrittenPart) (upto : Upto) (first end : Option SourceExp) → part.upto ≡ Some upto → first ≡ uses_named part.at (maybe part.first) → end ≡ uses_named upto.colon (maybe upto.end) → section_part (written_of part) ≡ (lets_named part.at (maybe part.first) ++ lets_named upto.colon (maybe upto.end), ix.Slice first end)
slice part upto first end some is same =
    ap (λ u. section_from part.at (maybe part.first) (upto_of u)) some ∙ slice_from part.at upto.colon (maybe part.first) (maybe upto.end) ∙ ap (λ u. (lets_named part.at (maybe part.first) ++ lets_named upto.colon (maybe upto.end), ix.Slice u (uses_named upto.colon (maybe upto.end)))) (sym is) ∙ ap (λ u. (lets_named part.at (maybe part.first) ++ lets_named upto.colon (maybe upto.end), ix.Slice first u)) (sym same)
