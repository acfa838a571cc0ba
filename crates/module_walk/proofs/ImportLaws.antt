-- Files by their paths.
use Rattle.std.proofs.Common.{◌≡◌, ℕ, zero, suc, ◌+◌, ◌<◌, ◌≤◌, List, [], ◌∷◌, map, length, drop, slice_index_or, Bool, true, false, cond, Option, Some, None, Result, IfOk, refl, sym, ap, ◌∙◌, subst, arith}
use Rattle.std.proofs.Math.ListN.{drop_of_length-le}
use Rattle.std.specs.Str.{bytes_eq}
use Rattle.fut_ast.specs.Sorts.{Text}
use Rattle.elab_scopes.specs.Imports.{Source_file, file_number, imported_file, imported_path, item, one_later, path_of}
use Rattle.module_state.specs.declared.written.SourceFile.{SourceFile}
use Rattle.module_state.specs.Written.{files_of}
use Rattle.module_members.proofs.Loops.{from_index}

pub path_there : (fs : List SourceFile) (k : ℕ) (e : SourceFile) → k < length fs → (slice_index_or fs k e).path.now ≡ path_of (item (files_of fs) k)
unfolding item
path_there [] k e lt = absurd (omega (arith, lt))
path_there (f ∷ fs) zero e lt = refl
path_there (f ∷ fs) (suc k) e lt = path_there fs k e (omega (arith, lt))

pub path_past : (fs : List SourceFile) (k : ℕ) → length fs ≤ k → [] ≡ path_of (item (files_of fs) k)
unfolding item
path_past [] k le = refl
path_past (f ∷ fs) zero le = absurd (omega (arith, le))
path_past (f ∷ fs) (suc k) le = path_past fs k (omega (arith, le))

pub ruleset paths = (path_there, path_past)

-- a number so many files later
abbrev pub later : ℕ → Option ℕ → Option ℕ
later n None = None
later n (Some k) = Some (n + k)

later_one : (n : ℕ) (o : Option ℕ) → later n (one_later o) ≡ later (n + 1) o
later_one n None = refl
later_one n (Some k) = ap Some (omega arith)

module _ (fs : List SourceFile) (x : Text) where
  pub search_starts : (o : Option ℕ) → later 0 o ≡ o
  search_starts None = refl
  search_starts (Some k) = ap Some (omega arith)

  one_file : (i : ℕ) (e : SourceFile) → i < length fs → file_number (files_of (drop i fs)) x ≡ cond (bytes_eq (slice_index_or fs i e).path.now x) (Some 0) (one_later (file_number (files_of (drop (i + 1) fs)) x))
  unfolding file_number
  one_file i e lt = ap (λ l. file_number (files_of l) x) (from_index fs i e lt)

  pub other_file : (i : ℕ) (e : SourceFile) → i < length fs → bytes_eq (slice_index_or fs i e).path.now x ≡ false → file_number (files_of fs) x ≡ later i (file_number (files_of (drop i fs)) x) → file_number (files_of fs) x ≡ later (i + 1) (file_number (files_of (drop (i + 1) fs)) x)
  other_file i e lt differs so = so ∙ ap (later i) (one_file i e lt ∙ ap (λ t. cond t (Some 0) (one_later (file_number (files_of (drop (i + 1) fs)) x))) differs) ∙ later_one i (file_number (files_of (drop (i + 1) fs)) x)

  pub found_file : (i : ℕ) (e : SourceFile) → i < length fs → bytes_eq (slice_index_or fs i e).path.now x ≡ true → file_number (files_of fs) x ≡ later i (file_number (files_of (drop i fs)) x) → Some i ≡ file_number (files_of fs) x
  found_file i e lt same so = sym (so ∙ ap (later i) (one_file i e lt ∙ ap (λ t. cond t (Some 0) (one_later (file_number (files_of (drop (i + 1) fs)) x))) same) ∙ ap Some (omega arith))

  pub no_file : (i : ℕ) → length fs ≤ i → file_number (files_of fs) x ≡ later i (file_number (files_of (drop i fs)) x) → None ≡ file_number (files_of fs) x
  unfolding file_number
  no_file i le so = sym (so ∙ ap (λ l. later i (file_number (files_of l) x)) (drop_of_length-le fs le))

pub ruleset searches = (search_starts, other_file, found_file, no_file)

pub names_file : (fs : List Source_file) (k : ℕ) (x p q : Text) {E : Type 0} (r : Result (Option ℕ) E) → p ≡ path_of (item fs k) → q ≡ imported_path p x → IfOk r (λ found. found ≡ file_number fs q) → IfOk r (λ found. found ≡ imported_file fs k x)
unfolding imported_file
names_file fs k x p q r there is w = subst (λ z. IfOk r (λ found. found ≡ file_number fs z)) (is ∙ ap (λ y. imported_path y x) there) w
