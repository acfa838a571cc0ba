-- Members of modules by paths, one name after the other.
use Rattle.std.proofs.Common.{◌≡◌, ℕ, zero, suc, ◌+◌, ◌-◌, ◌<◌, ◌≤◌, List, [], ◌∷◌, length, drop, take, drop_of_length-le, get_or, slice_index_or, arith, Option, Some, None, Result, Err, refl, sym, ap, ◌∙◌}
use Rattle.std.specs.Borrow.{Bor}
use Rattle.std.proofs.lemmas.List.{drop_more, length-drop, take_all}
use Rattle.fut_scalar.specs.declared.place.Place.{Place}
use Rattle.fut_flat.specs.declared.prim.Ref.{Ref}
use Rattle.fut_ast.specs.Sorts.{Text, Path}
use Rattle.fut_tree.specs.Names.{names}
use Rattle.elab_scopes.specs.Names.{Refusal, NoMember}
use Rattle.elab_scopes.specs.Scopes.{Contents, Found, Module_ref, found, inside, member_or, module_in_module, or_deeper, value_in_module}
use Rattle.elab_scopes.specs.Answers.{modules_before}

-- ---- a member

pub member_there : (at : Place) (k : ℕ) (y : Text) (fs : Path) (r : Ref) (o : Option Ref) → o ≡ Some r → found r k fs ≡ member_or at k y fs o
member_there at k y fs r o is = ap (member_or at k y fs) (sym is)

pub member_missing : (at : Place) (k : ℕ) (y : Text) (fs : Path) (o : Option Ref) → o ≡ None → Err (NoMember y at) ≡ member_or at k y fs o
member_missing at k y fs o is = ap (member_or at k y fs) (sym is)

pub ruleset members = (member_there, member_missing)

-- ---- the loop over the names of a path

same_at : {A : Type 0} (xs : List A) (i : ℕ) (d : A) → get_or xs i d ≡ slice_index_or xs i d
same_at [] i d = refl
same_at (x ∷ xs) zero d = refl
same_at (x ∷ xs) (suc i) d = same_at xs i d

from_index : {A : Type 0} (xs : List A) (i : ℕ) (d : A) → i < length xs → drop i xs ≡ slice_index_or xs i d ∷ drop (i + 1) xs
from_index xs i d lt = drop_more xs i d lt ∙ ap (λ y. y ∷ drop (i + 1) xs) (same_at xs i d)

-- so many modules were named where the fields from an index on are left
pub named_before : (ps : List (Bor Text)) (i : ℕ) → i ≤ length ps → modules_before (length ps + 2) (drop i ps) ≡ i + 1
named_before ps i le = ap (λ n. (length ps + 2) - (n + 1)) (length-drop i ps) ∙ omega (arith, le)

module _ (cs : List Contents) (at : Place) (start : Result Found Refusal) (m : Module_ref) (y : Text) (ps : List (Bor Text)) (i : ℕ) where
  pub inside_goes : (n : Module_ref) (d : Bor Text) → start ≡ inside cs at (i + 1) m y (names (drop i ps)) → i < length ps → Some n ≡ module_in_module cs m y → start ≡ inside cs at (i + 1 + 1) n (slice_index_or ps i d).now (names (drop (i + 1) ps))
  unfolding inside
  inside_goes n d e lt is = e ∙ ap (λ l. inside cs at (i + 1) m y (names l)) (from_index ps i d lt)
      ∙ ap (λ o. or_deeper o (λ n. inside cs at (suc (i + 1)) n (slice_index_or ps i d).now (names (drop (i + 1) ps))) (member_or at (i + 1) y (names (slice_index_or ps i d ∷ drop (i + 1) ps)) (value_in_module cs m y))) (sym is)
      ∙ ap (λ k. inside cs at k n (slice_index_or ps i d).now (names (drop (i + 1) ps))) (omega arith)

  pub inside_stops : (d : Bor Text) (q : Result Found Refusal) → start ≡ inside cs at (i + 1) m y (names (drop i ps)) → i < length ps → None ≡ module_in_module cs m y → q ≡ member_or at (modules_before (length ps + 2) (take (length ps - i) (drop i ps))) y (names (take (length ps - i) (drop i ps))) (value_in_module cs m y) → q ≡ start
  unfolding inside
  inside_stops d q e lt is found = found ∙ ap (λ l. member_or at (modules_before (length ps + 2) l) y (names l) (value_in_module cs m y)) (take_all (length ps - i) (drop i ps) (omega (arith, length-drop i ps))) ∙ ap (λ k. member_or at k y (names (drop i ps)) (value_in_module cs m y)) (named_before ps i (omega (arith, lt)))
      ∙ ap (λ l. member_or at (i + 1) y (names l) (value_in_module cs m y)) (from_index ps i d lt)
      ∙ ap (λ o. or_deeper o (λ n. inside cs at (suc (i + 1)) n (slice_index_or ps i d).now (names (drop (i + 1) ps))) (member_or at (i + 1) y (names (slice_index_or ps i d ∷ drop (i + 1) ps)) (value_in_module cs m y))) is
      ∙ ap (λ l. inside cs at (i + 1) m y (names l)) (sym (from_index ps i d lt)) ∙ sym e

  pub inside_ends : (q : Result Found Refusal) → start ≡ inside cs at (i + 1) m y (names (drop i ps)) → i ≡ length ps → q ≡ member_or at (modules_before (length ps + 2) []) y [] (value_in_module cs m y) → q ≡ start
  unfolding inside
  inside_ends q e is found = found ∙ ap (λ k. member_or at k y [] (value_in_module cs m y)) (omega (arith, is)) ∙ ap (λ l. inside cs at (i + 1) m y (names l)) (sym (drop_of_length-le ps (omega (arith, is)))) ∙ sym e

pub ruleset walking = (inside_goes, inside_stops, inside_ends)

pub member_at : (at : Place) (k : ℕ) (y : Text) (fs : Path) (o p : Option Ref) {q : Result Found Refusal} → q ≡ member_or at k y fs o → o ≡ p → q ≡ member_or at k y fs p
member_at at k y fs o p e is = e ∙ ap (member_or at k y fs) is
