-- Terms that are formed and in which names of sizes are told from the others, both said at once. Where no name of a size is
-- bound, no number is that of a size.
use Rattle.std.proofs.Common.{ℕ, Bool, refl, List, [], ◌∷◌, None}
use Rattle.fut_scalar.specs.declared.place.BindId.{BindId}
use Rattle.fut_flat.specs.declared.prim.Ref.{Ref}
use Rattle.fut_flat.specs.Erased.{FlatTerm, FlatPattern, FlatTurns}
use Rattle.fut_flat.specs.Terms.{Bound_pattern, Wild_pattern, Tuple_pattern, Record_pattern, Typed_pattern, Patterns, no_pattern, pattern_and, Parameter, Size_parameter, Type_parameter, Use, Strict, Lambda, Apply, Let, If, Loop, Terms, no_term, term_and, Counted, Over, While}
use Rattle.fut_typing.specs.Program.{Defined}
use Rattle.fut_meaning.specs.Uses.{is_size_in}
use Rattle.type_soundness.specs.Meant.{how_many, Operation_meant, Has_parameter, No_sizes, Use_meant, Meant, All_meant, Turns_meant}
use Rattle.type_soundness.specs.Formed.{Formed, All_formed, Turns_formed, Definitions_formed, Are_sizes, Heads_sized, Pattern_apart, Patterns_apart, Turns_apart, Let_apart, Loop_apart, Apart, All_apart, In_turns_apart, Definitions_apart}
use Rattle.type_soundness.specs.Programs.{Definitions_meant}

module _ (S : ℕ → Bool) where
  module _ (P : ℕ → Type 0) where
    abbrev mutual
      pub Sized : FlatTerm → Type 0
      Sized (Use r at k) = Use_meant P r
      Sized (Strict o mark ts) = Operation_meant o (how_many ts) × All_sized ts
      Sized (Lambda ps e) = (Has_parameter ps × Patterns_apart S ps) × Sized e
      Sized (Apply f e) = Sized f × Sized e
      Sized (Let b v e) = Let_apart S b × Sized v × Sized e
      Sized (If c t e) = Sized c × Sized t × Sized e
      Sized (Loop mark sizes p first turns body) = Loop_apart S sizes p turns × Sized first × Turns_sized turns × Sized body

      pub All_sized : Terms Ref BindId → Type 0
      All_sized no_term = Unit {0}
      All_sized (term_and t ts) = Sized t × All_sized ts

      pub Turns_sized : FlatTurns → Type 0
      Turns_sized (Counted i n) = Sized n
      Turns_sized (Over p e) = Sized e
      Turns_sized (While c) = Sized c

    mutual
      sized : (t : FlatTerm) → Formed P t → Apart S t → Sized t
      sized (Use r at k) f s = f
      sized (Strict o mark ts) f s = (f.0, all_sized ts f.1 s)
      sized (Lambda ps e) f s = ((f.0, s.0), sized e f.1 s.1)
      sized (Apply g e) f s = (sized g f.0 s.0, sized e f.1 s.1)
      sized (Let b v e) f s = (s.0, sized v f.0 s.1, sized e f.1 s.2)
      sized (If c t e) f s = (sized c f.0 s.0, sized t f.1 s.1, sized e f.2 s.2)
      sized (Loop mark sizes p first turns body) f s = (s.0, sized first f.0 s.1, turn_sized turns f.1 s.2, sized body f.2 s.3)

      all_sized : (ts : Terms Ref BindId) → All_formed P ts → All_apart S ts → All_sized ts
      all_sized no_term f s = tt
      all_sized (term_and t ts) f s = (sized t f.0 s.0, all_sized ts f.1 s.1)

      turn_sized : (t : FlatTurns) → Turns_formed P t → In_turns_apart S t → Turns_sized t
      turn_sized (Counted i n) f s = sized n f s
      turn_sized (Over p e) f s = sized e f s
      turn_sized (While c) f s = sized c f s

  abbrev pub Definitions_sized : List Defined → Type 0
  Definitions_sized [] = Unit {0}
  Definitions_sized (d ∷ ds) = (Heads_sized S d.parameters × Pattern_apart S d.name) × Sized (λ k. Unit {0}) d.value × Definitions_sized ds

  pub definitions_sized : (ds : List Defined) → Definitions_formed ds → Definitions_apart S ds → Definitions_sized ds
  definitions_sized [] f s = tt
  definitions_sized (d ∷ ds) f s = (s.0, sized (λ k. Unit {0}) d.value f.0 s.1, definitions_sized ds f.1 s.2)

-- ---- where no name of a size is bound
abbrev pub no_size : ℕ → Bool
no_size = is_size_in None

no_sizes : (bs : List BindId) (ps : List (Parameter BindId)) → No_sizes bs ps → Are_sizes no_size bs × Heads_sized no_size ps
no_sizes [] [] h = (tt, tt)
no_sizes [] (Size_parameter b ∷ ps) h = absurd h
no_sizes [] (Type_parameter b lifted ∷ ps) h = no_sizes [] ps h
no_sizes (b ∷ bs) ps h = absurd h

mutual
  pattern_apart : (p : FlatPattern) → Pattern_apart no_size p
  pattern_apart (Bound_pattern b) = refl
  pattern_apart Wild_pattern = tt
  pattern_apart (Tuple_pattern ps) = patterns_apart ps
  pattern_apart (Record_pattern fs ps) = patterns_apart ps
  pattern_apart (Typed_pattern p t) = pattern_apart p

  patterns_apart : (ps : Patterns Ref BindId) → Patterns_apart no_size ps
  patterns_apart no_pattern = tt
  patterns_apart (pattern_and p ps) = (pattern_apart p, patterns_apart ps)

turns_apart : (t : FlatTurns) → Turns_apart no_size t
turns_apart (Counted i n) = refl
turns_apart (Over p e) = pattern_apart p
turns_apart (While c) = tt

module _ (P : ℕ → Type 0) where
  mutual
    meant_formed : (t : FlatTerm) → Meant P t → Formed P t
    meant_formed (Use r at k) m = m
    meant_formed (Strict o mark ts) m = (m.0, all_meant_formed ts m.1)
    meant_formed (Lambda ps e) m = (m.0, meant_formed e m.1)
    meant_formed (Apply f e) m = (meant_formed f m.0, meant_formed e m.1)
    meant_formed (Let b v e) m = (meant_formed v m.1, meant_formed e m.2)
    meant_formed (If c t e) m = (meant_formed c m.0, meant_formed t m.1, meant_formed e m.2)
    meant_formed (Loop mark sizes p first turns body) m = (meant_formed first m.1, turn_meant_formed turns m.2, meant_formed body m.3)

    all_meant_formed : (ts : Terms Ref BindId) → All_meant P ts → All_formed P ts
    all_meant_formed no_term m = tt
    all_meant_formed (term_and t ts) m = (meant_formed t m.0, all_meant_formed ts m.1)

    turn_meant_formed : (t : FlatTurns) → Turns_meant P t → Turns_formed P t
    turn_meant_formed (Counted i n) m = meant_formed n m
    turn_meant_formed (Over p e) m = meant_formed e m
    turn_meant_formed (While c) m = meant_formed c m

  mutual
    meant_apart : (t : FlatTerm) → Meant P t → Apart no_size t
    meant_apart (Use r at k) m = tt
    meant_apart (Strict o mark ts) m = all_meant_apart ts m.1
    meant_apart (Lambda ps e) m = (patterns_apart ps, meant_apart e m.1)
    meant_apart (Apply f e) m = (meant_apart f m.0, meant_apart e m.1)
    meant_apart (Let b v e) m = let s = no_sizes b.sizes b.parameters m.0 in ((s.0, s.1, pattern_apart b.pattern), meant_apart v m.1, meant_apart e m.2)
    meant_apart (If c t e) m = (meant_apart c m.0, meant_apart t m.1, meant_apart e m.2)
    meant_apart (Loop mark sizes p first turns body) m = (((no_sizes sizes [] m.0).0, pattern_apart p, turns_apart turns), meant_apart first m.1, turn_meant_apart turns m.2, meant_apart body m.3)

    all_meant_apart : (ts : Terms Ref BindId) → All_meant P ts → All_apart no_size ts
    all_meant_apart no_term m = tt
    all_meant_apart (term_and t ts) m = (meant_apart t m.0, all_meant_apart ts m.1)

    turn_meant_apart : (t : FlatTurns) → Turns_meant P t → In_turns_apart no_size t
    turn_meant_apart (Counted i n) m = meant_apart n m
    turn_meant_apart (Over p e) m = meant_apart e m
    turn_meant_apart (While c) m = meant_apart c m

pub definitions_meant_formed : (ds : List Defined) → Definitions_meant ds → Definitions_formed ds
definitions_meant_formed [] m = tt
definitions_meant_formed (d ∷ ds) m = (meant_formed (λ k. Unit {0}) d.value m.1, definitions_meant_formed ds m.2)

pub definitions_meant_apart : (ds : List Defined) → Definitions_meant ds → Definitions_apart no_size ds
definitions_meant_apart [] m = tt
definitions_meant_apart (d ∷ ds) m = (((no_sizes [] d.parameters m.0).1, pattern_apart d.name), meant_apart (λ k. Unit {0}) d.value m.1, definitions_meant_apart ds m.2)
