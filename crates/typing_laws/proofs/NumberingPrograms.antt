-- What is said of the typings of a program under one numbering is said of them under each.
use Rattle.std.proofs.Common.{◌≡◌, ◌↔◌, ℕ, ◌+◌, ◌≤◌, ◌<◌, refl, ◌∙◌, ap, arith, List, [], ◌∷◌}
use Rattle.std.specs.List.{AllByRecursion, Contains}
use Rattle.std.proofs.lemmas.List.Elements.{recursion_from_All}
use mathlib.Core.Logic.{◌⊎◌, inl, inr}
use Rattle.fut_types.specs.declared.Kind.{Kind}
use Rattle.fut_types.specs.declared.Kind.TheVariants as kind
use Rattle.fut_types.specs.Types.{Kinds, applied}
use Rattle.fut_typing.specs.Names.{Names, AreNames}
use Rattle.fut_typing.specs.Program.{Defined, program_numbers, Program_typed}
use Rattle.fut_typing.specs.Answers.{Open, Met, Principal, Stands, IsWanted, default, Typable, Untyped, Ambiguous}
use Rattle.typing_laws.specs.Alike.{Alike}
use Rattle.typing_laws.specs.NumberingClaims.{Hangs_on_no_numbering, TypableIsOne, PrincipalIsOne, TypingIsOne, NoTypeIsOne, FunctionPlaceIsOne, AmbiguousIsOne}
use Rattle.typing_laws.proofs.Moved.{moved}
use Rattle.typing_laws.proofs.Typings.{program_moves}
use Rattle.typing_laws.proofs.Exchange.{width}
use Rattle.typing_laws.proofs.Back.{to, to_faithful, to_applied, to_stands, to_alike, to_default}
use Rattle.typing_laws.proofs.Principal.{widest_type, widest_part, type_width, Spelled, other_opens, others_have, other_principal, open_spelled, none_open}

pub typable_is_one : TypableIsOne
typable_is_one places M N m n ds t = (t.0, (λ i. moved (to M N m n 0) (t.1 i)), program_moves M N (to M N m n 0) (to_faithful M N m n 0) places ds t.0 t.1 t.2)

untyped_is_one : (places : Kind) → Hangs_on_no_numbering (λ N ds. Untyped N ds places)
untyped_is_one places M N m n ds lacks K a t = let w = typable_is_one places N M n m ds (K, a, t) in lacks w.0 w.1 w.2

pub no_type_is_one : NoTypeIsOne
no_type_is_one M N m n ds h = (untyped_is_one kind.Data M N m n ds h.0, untyped_is_one kind.Any M N m n ds h.1)

pub function_place_is_one : FunctionPlaceIsOne
function_place_is_one M N m n ds h = (untyped_is_one kind.Data M N m n ds h.0, typable_is_one kind.Any M N m n ds h.1)

module _ (M N : Names) (m : AreNames M) (n : AreNames N) (places : Kind) (ds : List Defined) (p : Principal M.shapes (program_numbers ds) (Program_typed M places ds)) where
  -- no record in it has more parts
  abbrev wide : ℕ
  wide = widest_type p.types (program_numbers ds) + widest_part p.opens

  abbrev Named_opens : Type 0
  Named_opens = AllByRecursion (Spelled M N m n wide) p.opens

  principal_of : Named_opens → Principal N.shapes (program_numbers ds) (Program_typed N places ds)
  principal_of = other_principal M N m n wide places ds p (omega arith) (omega arith)

  named_opens : Typable M ds places → Named_opens
  named_opens t = let w = p.instance t.0 t.1 t.2 in open_spelled M N m n wide w.0 p.opens (recursion_from_All (Met M.shapes w.0) p.opens w.2)

  same_stands : (v w : ℕ) → v < program_numbers ds → Stands w (moved (to M N m n wide) (p.types v)) ↔ Stands w (p.types v)
  same_stands v w lt = let z : width (p.types v) ≤ widest_type p.types (program_numbers ds) = type_width p.types (program_numbers ds) v lt in to_stands M N m n wide (p.types v) w (omega arith)

  same_kinds : (h : Named_opens) (v : ℕ) → (principal_of h).kinds v ≡ p.kinds v
  unfolding principal_of
  same_kinds h v = refl

  alike_types : (h : Named_opens) (v : ℕ) → Alike (p.types v) ((principal_of h).types v)
  unfolding principal_of
  alike_types h v = to_alike M N m n wide (p.types v)

  -- defaults in it are what the types with defaults become
  same_default : (K : Kinds) (v : ℕ) → v < program_numbers ds → moved (to M N m n wide) (applied (default K) (p.types v)) ≡ applied (default K) (moved (to M N m n wide) (p.types v))
  same_default K v lt =
      let z : width (p.types v) ≤ widest_type p.types (program_numbers ds) = type_width p.types (program_numbers ds) v lt in
      to_applied M N m n wide (default K) (p.types v) (omega arith) ∙ (λ i. applied (λ x. to_default M N m n wide K x i) (moved (to M N m n wide) (p.types v)))

pub principal_is_one : PrincipalIsOne
principal_is_one places M N m n ds t p = let h = named_opens M N m n places ds p t in (principal_of M N m n places ds p h, same_kinds M N m n places ds p h, alike_types M N m n places ds p h)

pub typing_is_one : TypingIsOne
unfolding principal_of
typing_is_one M N m n ds types t =
    let p : Principal M.shapes (program_numbers ds) (Program_typed M kind.Data ds) = t.principal in
    let spelled : Named_opens M N m n kind.Data ds p = closed_named p t.closed in
    let b : ℕ = wide M N m n kind.Data ds p in (
      λ v. moved (to M N m n b) (types v),
      record {
        principal = principal_of M N m n kind.Data ds p spelled;
        closed = none_open M N m n b p.opens spelled t.closed;
        settled = λ i v lt stands wanted. t.settled i v lt ((same_stands M N m n kind.Data ds p i v lt).0 stands) wanted;
        is = λ v lt. ap (moved (to M N m n b)) (t.is v lt) ∙ same_default M N m n kind.Data ds p p.kinds v lt;
      },
      λ v. to_alike M N m n b (types v),
    )
  where
    closed_named : (p : Principal M.shapes (program_numbers ds) (Program_typed M kind.Data ds)) → p.opens ≡ [] → Named_opens M N m n kind.Data ds p
    closed_named p e = none_named p.opens e
      where
        none_named : (os : List Open) → os ≡ [] → AllByRecursion (Spelled M N m n (wide M N m n kind.Data ds p)) os
        none_named [] e = tt
        none_named (o ∷ os) e = absurd cc

pub ambiguous_is_one : AmbiguousIsOne
unfolding principal_of
ambiguous_is_one M N m n ds h =
    let a : Ambiguous M ds = h in
    let p : Principal M.shapes (program_numbers ds) (Program_typed M kind.Data ds) = a.principal in
    let spelled : Named_opens M N m n kind.Data ds p = named_opens M N m n kind.Data ds p a.typable in record {
      typable = typable_is_one kind.Data M N m n ds a.typable;
      principal = principal_of M N m n kind.Data ds p spelled;
      number = a.number;
      variable = a.variable;
      within = a.within;
      stands = (same_stands M N m n kind.Data ds p a.number a.variable a.within).1 a.stands;
      left = elim a.left as (λ d. IsWanted (p.kinds a.variable) ⊎ ((o : Open) × Contains (other_opens M N m n (wide M N m n kind.Data ds p) p.opens spelled) o × (o.variable ≡ a.variable))) [
        | inl wanted ↦ inl wanted
        | inr o ↦ (let r = others_have M N m n (wide M N m n kind.Data ds p) p.opens spelled o.1.0 o.0 o.1.1 o.1.2 in inr (r.0, r.1, r.2 ∙ o.2))
      ];
    }
