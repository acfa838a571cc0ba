-- What is asked of how records become others so that what is said of types under one numbering is said of the other types under
-- the other.
use Rattle.std.proofs.Common.{◌≡◌, ℕ, zero, suc, ◌≤◌, min, refl, sym, ◌∙◌, ap, arith, List, [], ◌∷◌, length, Option, Some, None}
use Rattle.std.proofs.lemmas.Option.{none-some, same_Some}
use Rattle.fut_ast.specs.Sorts.{Text}
use Rattle.fut_types.specs.declared.Head.{Head}
use Rattle.fut_types.specs.declared.Head.TheVariants as head
use Rattle.fut_types.specs.Types.{Ty, Var, Made, Tys, none, more, Kinds, rank, least}
use Rattle.fut_types.specs.Shapes.{place_from, place, part_at, part_named, HasPart}
use Rattle.fut_typing.specs.Names.{Names, AreNames, count, Parts_named}
use Rattle.typing_laws.proofs.Moved.{Turn, Faithful}
unfoldable use Rattle.typing_laws.proofs.Moved.{moved, all_moved}
use Rattle.typing_laws.proofs.Arranged.{part_under, count_moved}

-- a record with as many parts as names becomes such a one
pub record Whole (M N : Names) (turn : Turn) (r : ℕ) (ts : Tys) : Type 0 where
  pub number : ℕ
  pub parts : Tys
  pub made : turn r ts ≡ Made (head.Record number) parts
  pub fields : length (N.shapes.fields number) ≡ length (M.shapes.fields r)
  pub all : count parts ≡ count ts

-- a record becomes a type of at least its kinds, which has its parts
pub record Fitting (M N : Names) (turn : Turn) : Type 0 where
  pub rises : (K : Kinds) (r : ℕ) (ts : Tys) (k : ℕ) → k ≤ min 2 (least K ts) → k ≤ rank K (turn r ts)
  pub part : (r : ℕ) (ts : Tys) (s : Text) (u : Ty) → part_under (M.shapes.fields r) (M.label s) ts ≡ Some u → HasPart N.shapes (N.label s) (turn r ts) u
  pub whole : (r : ℕ) (ts : Tys) → count ts ≡ length (M.shapes.fields r) → Whole M N turn r ts

module _ (M N : Names) (m : AreNames M) (n : AreNames N) (turn : Turn) (fitting : Fitting M N turn) where
  -- ---- kinds
  mutual
    unfolding rank moved

    moved_rank : (K : Kinds) (t : Ty) → rank K t ≤ rank K (moved turn t)
    moved_rank K (Var v) = omega arith
    moved_rank K (Made (head.Record r) ts) = let z : least K ts ≤ least K (all_moved turn ts) = all_moved_rank K ts in fitting.rises K r (all_moved turn ts) (min 2 (least K ts)) (omega arith)
    moved_rank K (Made (head.Scalar s) ts) = let z : least K ts ≤ least K (all_moved turn ts) = all_moved_rank K ts in omega arith
    moved_rank K (Made head.Array ts) = let z : least K ts ≤ least K (all_moved turn ts) = all_moved_rank K ts in omega arith
    moved_rank K (Made head.Tuple ts) = let z : least K ts ≤ least K (all_moved turn ts) = all_moved_rank K ts in omega arith
    moved_rank K (Made head.Fun ts) = let z : least K ts ≤ least K (all_moved turn ts) = all_moved_rank K ts in omega arith
    moved_rank K (Made (head.Rigid r k) ts) = let z : least K ts ≤ least K (all_moved turn ts) = all_moved_rank K ts in omega arith
    moved_rank K (Made (head.Abstract r d) ts) = let z : least K ts ≤ least K (all_moved turn ts) = all_moved_rank K ts in omega arith

    all_moved_rank : (K : Kinds) (ts : Tys) → least K ts ≤ least K (all_moved turn ts)
    all_moved_rank K none = omega arith
    all_moved_rank K (more t ts) = let p : rank K t ≤ rank K (moved turn t) = moved_rank K t in let q : least K ts ≤ least K (all_moved turn ts) = all_moved_rank K ts in omega arith

  -- ---- parts
  part_moved : (ts : Tys) (o : Option ℕ) (u : Ty) → part_at o ts ≡ Some u → part_at o (all_moved turn ts) ≡ Some (moved turn u)
  unfolding part_at moved
  part_moved ts None u e = absurd (none-some u e)
  part_moved none (Some i) u e = absurd (none-some u e)
  part_moved (more t ts) (Some zero) u e = ap (λ v. Some (moved turn v)) (same_Some t u e)
  part_moved (more t ts) (Some (suc i)) u e = part_moved ts (Some i) u e

  no_part : (ts : Tys) (u : Ty) → part_at None ts ≡ Some u → ⊥
  unfolding part_at
  no_part ts u e = none-some u e

  -- the same name is that of the same part of a tuple
  position_same : (s : Text) (ts : Tys) (u : Ty) → part_at (M.shapes.position (M.label s)) ts ≡ Some u → part_at (N.shapes.position (N.label s)) ts ≡ Some u
  position_same s ts u e = known (M.shapes.position (M.label s)) refl e
    where
      known : (o : Option ℕ) → M.shapes.position (M.label s) ≡ o → part_at o ts ≡ Some u → part_at (N.shapes.position (N.label s)) ts ≡ Some u
      known None is h = absurd (no_part ts u h)
      known (Some i) is h = ap (λ o. part_at o ts) ((n.position s i).1 ((m.position s i).0 is)) ∙ h

  head_part : (s : Text) (h : Head) (ts : Tys) (u : Ty) → part_at (place M.shapes (M.label s) h) ts ≡ Some u → HasPart N.shapes (N.label s) (moved turn (Made h ts)) (moved turn u)
  unfolding place part_named moved
  head_part s (head.Record r) ts u e = fitting.part r (all_moved turn ts) s (moved turn u) (part_moved ts (place_from 0 (M.label s) (M.shapes.fields r)) u e)
  head_part s head.Tuple ts u e = position_same s (all_moved turn ts) (moved turn u) (part_moved ts (M.shapes.position (M.label s)) u e)
  head_part s (head.Scalar x) ts u e = absurd (no_part ts u e)
  head_part s head.Array ts u e = absurd (no_part ts u e)
  head_part s head.Fun ts u e = absurd (no_part ts u e)
  head_part s (head.Rigid r k) ts u e = absurd (no_part ts u e)
  head_part s (head.Abstract r d) ts u e = absurd (no_part ts u e)

  has_part : (s : Text) (t u : Ty) → HasPart M.shapes (M.label s) t u → HasPart N.shapes (N.label s) (moved turn t) (moved turn u)
  unfolding part_named
  has_part s (Var v) u e = absurd (none-some u e)
  has_part s (Made h ts) u e = head_part s h ts u e

  all_named : (fs : List Text) (t : Ty) (us : Tys) → Parts_named M fs t us → Parts_named N fs (moved turn t) (all_moved turn us)
  unfolding moved
  all_named [] t none h = h
  all_named [] t (more u us) h = h
  all_named (f ∷ fs) t none h = h
  all_named (f ∷ fs) t (more u us) h = (has_part f t u h.0, all_named fs t us h.1)

  pub fitting_faithful : Faithful M N turn
  unfolding moved
  fitting_faithful = record {
    kind = λ K k t h. let z : rank K t ≤ rank K (moved turn t) = moved_rank K t in omega arith;
    part = has_part;
    row = λ fs t us is.
        (let many : count (all_moved turn is.parts) ≡ count is.parts = count_moved turn is.parts in
        let w : Whole M N turn is.number (all_moved turn is.parts) = fitting.whole is.number (all_moved turn is.parts) (many ∙ is.all ∙ sym is.fields) in record {
          once = is.once;
          number = w.number;
          parts = w.parts;
          made = ap (moved turn) is.made ∙ w.made;
          fields = w.fields ∙ is.fields;
          all = w.all ∙ many ∙ is.all;
          named = all_named fs t us is.named;
        });
  }
