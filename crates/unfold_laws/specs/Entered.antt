-- All atoms of what a known value tells of sizes: of data those that it is made of, of a function those of what was entered where
-- it stands.
use Rattle.fut_blocks.specs.declared.block.Atom.{Atom}
use Rattle.unfold.specs.Knowns.{Known, Scalar_known, Tuple_known, Record_known, Function_known, Primitive_known, Knowns, no_known, known_and, Known_fields, no_known_field, known_field_and, Scope, seeing, Entered, no_entry, entry}
use Rattle.unfold_laws.specs.Standing.{All_in_row}

module _ (P : Atom → Type 0) where
  abbrev mutual
    pub All_in_known : Known → Type 0
    All_in_known (Scalar_known u) = P u
    All_in_known (Tuple_known ss) = All_in_knowns ss
    All_in_known (Record_known fs) = All_in_known_fields fs
    All_in_known (Function_known ps e lo sc) = All_entered sc
    All_in_known (Primitive_known p at ss) = All_in_knowns ss

    pub All_in_knowns : Knowns → Type 0
    All_in_knowns no_known = Unit {0}
    All_in_knowns (known_and s ss) = All_in_known s × All_in_knowns ss

    pub All_in_known_fields : Known_fields → Type 0
    All_in_known_fields no_known_field = Unit {0}
    All_in_known_fields (known_field_and f s fs) = All_in_known s × All_in_known_fields fs

    -- names do not matter
    pub All_entered : Scope → Type 0
    All_entered (seeing names entered) = All_entries entered

    pub All_entries : Entered → Type 0
    All_entries no_entry = Unit {0}
    All_entries (entry q s r es) = All_in_known s × All_in_row P r × All_entries es
