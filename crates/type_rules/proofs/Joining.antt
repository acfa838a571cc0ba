-- The rule of a record by its names, from that by its number.
use Rattle.std.proofs.Common.{◌≡◌, ◌↔◌, ℕ, zero, suc, ◌+◌, List, [], ◌∷◌, length, map, slice_index_or, refl, sym, ◌∙◌, ap, subst, arith}
use Rattle.std.specs.Borrow.{Bor}
use Rattle.std.specs.List.{Contains}
use Rattle.fut_ast.specs.Sorts.{Text}
use Rattle.fut_flat.specs.Erased.{texts}
use Rattle.fut_types.specs.declared.shapes.ShapeTable.{ShapeTable}
use Rattle.fut_types.specs.Types.{Ty, Tys, none, more, Sub}
use Rattle.fut_types.specs.Shapes.{Shapes, Tells, fields_of}
use Rattle.fut_typing.specs.Names.{Names, AreNames, Once, count, Parts_named, IsRecord}
use Rattle.type_graph.specs.Claims.{types_of}
use Rattle.type_rules.specs.Records.{Has_parts}
use Rattle.type_rules.specs.Fields.{Row_is}
use Rattle.type_rules.proofs.Asking.{count_types}
use Rattle.type_rules.proofs.Growing.{long_texts}
use Rattle.type_rules.proofs.Naming.{labels_apart, long_map, record_to, record_from}
use Rattle.type_rules.proofs.Ordering.{apart_once}

map_at : (f : Text → ℕ) (fs : List Text) (i : ℕ) (d : Text) → slice_index_or (map f fs) i (f d) ≡ f (slice_index_or fs i d)
map_at f [] i d = refl
map_at f (x ∷ fs) zero d = refl
map_at f (x ∷ fs) (suc i) d = map_at f fs i d

once_back : (f : Text → ℕ) (fs : List Text) → Once (map f fs) → Once fs
once_back f fs o i j d lt l = λ e. o i j (f d) lt (let m : length (map f fs) ≡ length fs = long_map f fs in omega arith) (map_at f fs i d ∙ ap f e ∙ sym (map_at f fs j d))

pub twice_never : (N : Names) → AreNames N → (fs : List Text) (row rs : List ℕ) → (Once rs → ⊥) → rs ≡ row → row ≡ map N.label fs → (t : Ty) (us : Tys) → IsRecord N fs t us → ⊥
twice_never N are fs row rs never is e t us r = never (subst Once (sym (is ∙ e)) (apart_once (map N.label fs) (labels_apart N are fs r.once)))

named_long : (N : Names) (fs : List Text) (t : Ty) (us : Tys) → Parts_named N fs t us → count us ≡ length fs
named_long N [] t none h = refl
named_long N [] t (more u us) h = absurd h
named_long N (f ∷ fs) t none h = absurd h
named_long N (f ∷ fs) t (more u us) h = ap (λ n. 1 + n) (named_long N fs t us h.1) ∙ (let e : 1 + length fs ≡ suc (length fs) = omega arith in e)

pub other_count : (N : Names) (names : List (Bor Text)) (a : Sub) (parts : List ℕ) (t : Ty) → (length names ≡ length parts → ⊥) → IsRecord N (texts names) t (types_of a parts) → ⊥
other_count N names a parts t ne r = ne (sym (long_texts names) ∙ sym (named_long N (texts names) t (types_of a parts) r.named) ∙ count_types a parts)

module _ (N : Names) (are : AreNames N) (table : ShapeTable) (tells : Tells table N.shapes) (S : Shapes) (same : S ≡ N.shapes) (fs : List Text) (row as1 as2 : List ℕ) (number : ℕ) (is1 : as1 ≡ row) (is2 : as2 ≡ row) (named : row ≡ map N.label fs) (r : Row_is table as1 number) (t : Ty) (us : Tys) where
  fields_are : N.shapes.fields number ≡ fields_of table number
  fields_are = tells.fields number r.within

  once : Once fs
  once = once_back N.label fs (subst Once (is1 ∙ named) r.once)

  all : (l : ℕ) → Contains (N.shapes.fields number) l ↔ Contains (map N.label fs) l
  all l = subst (λ xs. Contains xs l ↔ Contains (map N.label fs) l) (sym fields_are) (subst (λ ys. Contains (fields_of table number) l ↔ Contains ys l) (is1 ∙ named) (r.same l))

  long : length (N.shapes.fields number) ≡ length fs
  long = ap length fields_are ∙ r.long ∙ ap length (is1 ∙ named) ∙ long_map N.label fs

  pub fields_to : Has_parts S number as2 t us → IsRecord N fs t us
  fields_to h = record_to N are fs once number all long t us (subst (λ X. Has_parts X number (map N.label fs) t us) same (subst (λ xs. Has_parts S number xs t us) (is2 ∙ named) h))

  pub fields_from : IsRecord N fs t us → Has_parts S number as2 t us
  fields_from h = subst (λ xs. Has_parts S number xs t us) (sym (is2 ∙ named)) (subst (λ X. Has_parts X number (map N.label fs) t us) (sym same) (record_from N are fs once number all long t us h))
