-- What is to be shown of each term, in terms of what is known of the names in scope.
use Rattle.std.proofs.Common.{◌≡◌, ℕ, ◌+◌, ◌≤◌, [], Ok, ◌∙◌, arith}
use Rattle.fut_scalar.specs.declared.place.BindId.{BindId}
use Rattle.fut_flat.specs.declared.prim.Ref.{Ref}
use Rattle.fut_flat.specs.Numbers.{own_numbers, numbers}
use Rattle.fut_flat.specs.declared.prim.Ref.TheVariants as ref
use Rattle.fut_flat.specs.Terms.{Size_term, Size_use, Array_type, Unique_type, Tuple_type, Record_type, Type_terms, no_type, type_and, Operation, Binary, Project, Use, Strict, Lambda, Apply, Let, If, Loop}
use Rattle.fut_flat.specs.Erased.{FlatTerm, FlatPattern, FlatType}
use Rattle.fut_types.specs.declared.Kind.{Kind}
use Rattle.fut_types.specs.Types.{Ty, Tys, none, more, Sub, Kinds}
use Rattle.fut_typing.specs.Names.{Names}
use Rattle.fut_typing.specs.Primitives.{i64_ty}
use Rattle.fut_typing.specs.Scopes.{Scope as TypeScope, IsSize, Denotes, All_denote}
use Rattle.fut_typing.specs.Typing.{Typed}
use Rattle.sized_types.specs.Sizes.{Free, Name, Variable, Size}
use Rattle.fut_sizes.specs.Applications.{Part}
use Rattle.fut_sizes.specs.Matching.{nothing_found, counted}
use Rattle.fut_sizes.specs.Scopes.{Scope, Taken, taken, bound_by}
use Rattle.fut_sizes.specs.Sizing.{finished, sized}
use Rattle.fut_sizes.specs.Steps.{State, Done}
use Rattle.sizes_meet_rules.specs.Known.{Known_names, Elsewhere}
use Rattle.sizes_meet_rules.specs.Plain.{Plain_term}
use Rattle.sizes_meet_rules.proofs.Operating.{Size_written, Sizes_written, All_sizes_written, number_is}
use Rattle.sizes_meet_rules.proofs.Naming.{number_name}
use Rattle.sizes_meet_rules.proofs.Meeting.{then_ok, Meets, Waits_wide, Part_meets, finished_meets}

pub own_some : (o : Operation Ref BindId) → 1 ≤ own_numbers o
own_some (Binary op) = omega arith
own_some (Project f) = omega arith
own_some o = omega arith

pub numbers_some : (e : FlatTerm) → 1 ≤ numbers e
numbers_some (Use r at k) = omega arith
numbers_some (Strict o mark ts) = let l = own_some o in omega (arith, l)
numbers_some (Lambda ps e) = omega arith
numbers_some (Apply f e) = omega arith
numbers_some (Let b v e) = omega arith
numbers_some (If c a b) = omega arith
numbers_some (Loop mark sizes p first turns body) = omega arith

-- what a pattern that names no sizes takes
pub bound_ran : (N : Names) (at : ℕ) (p : FlatPattern) (t : Size) (scope : Scope) (k : Taken) → bound_by N [] at p t scope ≡ Ok k → taken N [] at p t (record { scope = scope; found = counted 0 nothing_found }) ≡ Ok k
unfolding bound_by
bound_ran N at p t scope k e =
    let x1 = then_ok (taken N [] at p t (record { scope = scope; found = counted 0 nothing_found })) e in x1.done ∙ x1.rest

module _ (N : Names) (types : Sub) (home : ℕ → ℕ) (K : Kinds) (places : Kind) where
  abbrev pub Law_of : FlatTerm → Type 1
  Law_of e = (In : Free → Type 0) (Vars : Variable → Type 0) (scope : Scope) (T : TypeScope) (lo : ℕ) (st : State) (d : Done Part) → Plain_term types home K places N e lo → Typed N places e lo T K types → Known_names In Vars home scope K types T
      → Elsewhere N types home lo (lo + numbers e) In → sized N types e [] lo scope st ≡ Ok d → Part_meets N types home In Vars scope e lo (lo + numbers e) st d.result d.state

  -- of a lambda that takes the parameters which are wanted of it
  abbrev pub Wide_law : FlatTerm → Type 1
  Wide_law e = (In : Free → Type 0) (Vars : Variable → Type 0) (scope : Scope) (T : TypeScope) (lo : ℕ) (st : State) (d : Done Part) → Plain_term types home K places N e lo → Typed N places e lo T K types → Known_names In Vars home scope K types T
      → Elsewhere N types home lo (lo + numbers e) In → sized N types e [] lo scope st ≡ Ok d → Waits_wide N types home In Vars scope e lo (lo + numbers e) st d.result d.state

  -- by itself
  pub alone : (e : FlatTerm) → Law_of e → (In : Free → Type 0) (Vars : Variable → Type 0) (scope : Scope) (T : TypeScope) (lo : ℕ) (st : State) (d : Done Part) (u : Done Size) → Plain_term types home K places N e lo → Typed N places e lo T K types → Known_names In Vars home scope K types T
      → Elsewhere N types home lo (lo + numbers e) In → sized N types e [] lo scope st ≡ Ok d → finished N types lo d.result d.state ≡ Ok u → Meets N types home In Vars scope e lo (lo + numbers e) st u.result u.state
  alone e law In Vars scope T lo st d u p t k E q f = finished_meets N types home In Vars scope e lo (lo + numbers e) st d.result d.state u (let l = numbers_some e in omega (arith, l)) E (law In Vars scope T lo st d p t k E q) f

-- written sizes are names of numbers in scope
module _ (N : Names) (types : Sub) (home : ℕ → ℕ) (K : Kinds) (places : Kind) (In In' : Free → Type 0) (Vars : Variable → Type 0) (wider : (d : Free) → In d → In' d) where
  size_written : (x : Size_term Ref BindId) (scope : Scope) (T : TypeScope) → Known_names In Vars home scope K types T → IsSize T K types x → Size_written In' x
  size_written (Size_use (ref.Bound b)) scope T known d = let w = known b.0 i64_ty d in wider (Name b.0) (w.number (number_is w.size w.says.formed (number_name In Vars types home scope b.0 w)))
  size_written x scope T known d = tt

  mutual
    pub sizes_written : (x : FlatType) (scope : Scope) (T : TypeScope) (u : Ty) → Known_names In Vars home scope K types T → Denotes N places K types x T u → Sizes_written In' x
    sizes_written (Array_type s x) scope T u known d = (size_written s scope T known d.0, sizes_written x scope T d.1.0 known d.1.1)
    sizes_written (Unique_type x) scope T u known d = sizes_written x scope T u known d
    sizes_written (Tuple_type xs) scope T u known d = all_sizes_written xs scope T d.0 known d.1
    sizes_written (Record_type fs xs) scope T u known d = all_sizes_written xs scope T d.0 known d.1
    sizes_written x scope T u known d = tt

    all_sizes_written : (xs : Type_terms Ref BindId) (scope : Scope) (T : TypeScope) (us : Tys) → Known_names In Vars home scope K types T → All_denote N places K types xs T us → All_sizes_written In' xs
    all_sizes_written no_type scope T us known d = tt
    all_sizes_written (type_and x xs) scope T none known d = absurd d
    all_sizes_written (type_and x xs) scope T (more u us) known d = (sizes_written x scope T u known d.0, all_sizes_written xs scope T us known d.1)
