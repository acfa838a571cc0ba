-- The parts of an index, as they are held.
use Rattle.std.specs.Prelude.{List, [], ◌∷◌, Option, Some, None, map}
use Rattle.fut_ast.specs.declared.exp.Bind.{Bind}
use Rattle.fut_ast.specs.declared.exp.Ix.{Ix}
use Rattle.fut_ast.specs.declared.exp.Ix.TheVariants as ix
use Rattle.fut_ast.specs.declared.node.Spot.{Spot}
use Rattle.fut_ast.specs.Nodes.{index_of, let_named, named_index_of, named_slice_of, use_named}
use Rattle.fut_ast.specs.Sorts.{Text, Path, SourceExp}
use Rattle.fut_tree.specs.Names.{maybe}
use Rattle.fut_tree.specs.Exps.{binds_of, ix_of}
use Rattle.parse_nodes.specs.declared.index_nodes.NamedPart.{NamedPart}
use Rattle.parse_nodes.specs.declared.index_nodes.Upto.{Upto}
use Rattle.parse_nodes.specs.declared.index_nodes.WrittenPart.{WrittenPart}

-- what stands behind the first expression of a part
abbrev pub upto_of : Option Upto → Option (Spot × Option SourceExp)
upto_of None = None
upto_of (Some u) = Some (u.colon, maybe u.end)

-- a part as it is written: where it stands, its first expression, and what stands behind that; "::-1" has neither
abbrev pub Written : Type 0
Written = Spot × Option SourceExp × Option (Spot × Option SourceExp)

abbrev pub written_of : WrittenPart → Written
written_of p = (p.at, maybe p.first, upto_of p.upto)

-- the part that is written so
abbrev pub plain_end_of : Option (Spot × Option SourceExp) → Ix
plain_end_of None = ix.Backwards
plain_end_of (Some upto) = ix.Slice None upto.1

abbrev pub plain_from : Option SourceExp → Option (Spot × Option SourceExp) → Ix
plain_from None upto = plain_end_of upto
plain_from (Some e) upto = index_of e upto

abbrev pub plain_part : Written → Ix
plain_part w = plain_from w.1 w.2

-- the use of an expression's name and its binding, where there is an expression
abbrev pub uses_named : Spot → Option SourceExp → Option SourceExp
uses_named at None = None
uses_named at (Some e) = Some (use_named at e)

abbrev pub lets_named : Spot → Option SourceExp → List Bind
lets_named at None = []
lets_named at (Some e) = let_named at e ∷ []

-- a part in a section, with the names of its expressions
abbrev pub section_end_of : Option (Spot × Option SourceExp) → List Bind × Ix
section_end_of None = ([], ix.Backwards)
section_end_of (Some upto) = named_slice_of upto.0 upto.1

abbrev pub section_from : Spot → Option SourceExp → Option (Spot × Option SourceExp) → List Bind × Ix
section_from at None upto = section_end_of upto
section_from at (Some e) upto = named_index_of at e upto

abbrev pub section_part : Written → List Bind × Ix
section_part w = section_from w.0 w.1 w.2

-- the names of a part's expressions, and the part
abbrev pub named_of : NamedPart → List Bind × Ix
named_of p = (binds_of p.binds.now, ix_of p.part)

abbrev pub named_all : List NamedPart → List (List Bind × Ix)
named_all = map named_of
