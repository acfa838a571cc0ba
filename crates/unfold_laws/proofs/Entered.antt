-- What holds of all atoms of known values: it may be weakened, it holds of the parts that are found, and names do not matter.
use Rattle.std.proofs.Common.{◌++◌, [], ◌∷◌}
use Rattle.fut_scalar.specs.declared.place.BindId.{BindId}
use Rattle.fut_blocks.specs.declared.block.Atom.{Atom}
use Rattle.unfold.specs.Knowns.{Known, Scalar_known, Tuple_known, Record_known, Function_known, Primitive_known, Knowns, no_known, known_and, Known_fields, no_known_field, known_field_and, Scope, seeing, entered_in, Entered, no_entry, entry, listed, knowns, name_and}
use Rattle.unfold_laws.specs.Entered.{All_in_known, All_in_knowns, All_in_known_fields, All_entered, All_entries}
use Rattle.unfold_laws.proofs.Standing.{row_as}

module _ (P Q : Atom → Type 0) (go : (u : Atom) → P u → Q u) where
  mutual
    pub known_as : (s : Known) → All_in_known P s → All_in_known Q s
    known_as (Scalar_known u) h = go u h
    known_as (Tuple_known ss) h = knowns_as ss h
    known_as (Record_known fs) h = known_fields_as fs h
    known_as (Function_known ps e lo sc) h = entered_as sc h
    known_as (Primitive_known p at ss) h = knowns_as ss h

    pub knowns_as : (ss : Knowns) → All_in_knowns P ss → All_in_knowns Q ss
    knowns_as no_known h = tt
    knowns_as (known_and s ss) h = (known_as s h.0, knowns_as ss h.1)

    known_fields_as : (fs : Known_fields) → All_in_known_fields P fs → All_in_known_fields Q fs
    known_fields_as no_known_field h = tt
    known_fields_as (known_field_and f s fs) h = (known_as s h.0, known_fields_as fs h.1)

    pub entered_as : (sc : Scope) → All_entered P sc → All_entered Q sc
    entered_as (seeing names entered) h = entries_as entered h

    entries_as : (es : Entered) → All_entries P es → All_entries Q es
    entries_as no_entry h = tt
    entries_as (entry q s r es) h = (known_as s h.0, row_as P Q go r h.1, entries_as es h.2)

module _ (P : Atom → Type 0) where
  pub entries_in : (sc : Scope) → All_entered P sc → All_entries P (entered_in sc)
  entries_in (seeing names entered) h = h

  -- a name that is bound enters nothing
  pub named_entered : (b : BindId) (s : Known) (sc : Scope) → All_entered P sc → All_entered P (name_and b s sc)
  unfolding name_and
  named_entered b s sc h = entries_in sc h

  pub one_more : (ss : Knowns) (s : Known) → All_in_knowns P ss → All_in_known P s → All_in_knowns P (knowns (listed ss ++ s ∷ []))
  one_more no_known s h k = (k, tt)
  one_more (known_and r ss) s h k = (h.0, one_more ss s h.1 k)
