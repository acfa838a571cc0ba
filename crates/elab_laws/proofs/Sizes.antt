-- Where there is no sizing, it is right about terms that bind no size.
use Rattle.std.proofs.Common.{◌≡◌, ℕ, ◌+◌, List, [], ◌∷◌, None, true, false, refl, sym, subst}
use Rattle.fut_scalar.specs.declared.place.BindId.{BindId}
use Rattle.fut_flat.specs.declared.prim.Ref.{Ref}
use Rattle.fut_flat.specs.declared.prim.Ref.TheVariants as ref
use Rattle.fut_flat.specs.Erased.{FlatTerm, FlatTurns}
use Rattle.fut_flat.specs.Numbers.{pattern_numbers, all_pattern_numbers, own_numbers, numbers, turn_numbers}
use Rattle.fut_flat.specs.Terms.{Parameter, Size_parameter, Type_parameter, Use, Strict, Lambda, Apply, Let, If, Loop, Terms, no_term, term_and, Counted, Over, While}
use Rattle.fut_meaning.specs.Uses.{All_sizes, Parameter_sizes, Sizes_told, All_sizes_told, Turns_told}
use Rattle.elab_scopes.specs.Programs.{FlatDefinition}
use Rattle.elab_laws.specs.Sourced.{No_sizes}
use Rattle.elab_laws.specs.Sizeless.{Sizeless, All_sizeless, Turns_sizeless, Definitions_sizeless}
use Rattle.elab_laws.specs.Sized.{Sizes_are_told}

no_sizes : (bs : List BindId) → bs ≡ [] → All_sizes None bs
no_sizes bs e = subst (All_sizes None) (sym e) tt

no_parameters : (hs : List (Parameter BindId)) → No_sizes hs → Parameter_sizes None hs
no_parameters [] n = tt
no_parameters (Size_parameter x ∷ hs) n = absurd n
no_parameters (Type_parameter x lifted ∷ hs) n = no_parameters hs n

mutual
  term_sizeless : (lo : ℕ) (t : FlatTerm) → Sizeless t → Sizes_told None lo t
  term_sizeless lo (Use (ref.Bound b) at k) s = (refl, λ e. absurd (let z : false ≡ true = e in cc))
  term_sizeless lo (Use (ref.Prim p) at k) s = refl
  term_sizeless lo (Use (ref.Scalar t) at k) s = refl
  term_sizeless lo (Strict o mark ts) s = terms_sizeless (lo + own_numbers o) ts s
  term_sizeless lo (Lambda ps e) s = term_sizeless (1 + lo + all_pattern_numbers ps) e s
  term_sizeless lo (Apply f e) s = (term_sizeless (1 + lo) f s.0, term_sizeless (1 + lo + numbers f) e s.1)
  term_sizeless lo (Let b v e) s = (no_sizes b.sizes s.0, no_parameters b.parameters s.1, term_sizeless (1 + lo + pattern_numbers b.pattern) v s.2, term_sizeless (1 + lo + pattern_numbers b.pattern + numbers v) e s.3)
  term_sizeless lo (If c a b) s = (term_sizeless (1 + lo) c s.0, term_sizeless (1 + lo + numbers c) a s.1, term_sizeless (1 + lo + numbers c + numbers a) b s.2)
  term_sizeless lo (Loop mark sizes p first turns body) s = (
    no_sizes sizes s.0,
    term_sizeless (1 + lo + pattern_numbers p) first s.1,
    turns_sizeless (1 + lo + pattern_numbers p + numbers first) turns s.2,
    term_sizeless (1 + lo + pattern_numbers p + numbers first + turn_numbers turns) body s.3,
  )

  terms_sizeless : (lo : ℕ) (ts : Terms Ref BindId) → All_sizeless ts → All_sizes_told None lo ts
  terms_sizeless lo no_term s = tt
  terms_sizeless lo (term_and t ts) s = (term_sizeless lo t s.0, terms_sizeless (lo + numbers t) ts s.1)

  turns_sizeless : (lo : ℕ) (ts : FlatTurns) → Turns_sizeless ts → Turns_told None lo ts
  turns_sizeless lo (Counted i n) s = term_sizeless (1 + lo) n s
  turns_sizeless lo (Over p e) s = term_sizeless (lo + pattern_numbers p) e s
  turns_sizeless lo (While c) s = term_sizeless lo c s

pub sizeless_told : (lo : ℕ) (ds : List FlatDefinition) → Definitions_sizeless ds → Sizes_are_told None lo ds
sizeless_told lo [] s = tt
sizeless_told lo (d ∷ ds) s = (no_parameters d.parameters s.0, term_sizeless (1 + lo) d.value s.1, sizeless_told (lo + (1 + numbers d.value)) ds s.2)
