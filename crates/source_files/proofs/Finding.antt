-- Whether a file is among others, and the next path at which none is.
use Rattle.std.proofs.Common.{◌≡◌, ℕ, zero, suc, ◌+◌, ◌<◌, ◌≤◌, drop, length, get_or, slice_index_or, true, false, cond, List, [], ◌∷◌, ◌++◌, reverse, Option, Some, None, is_some, refl, sym, ap, ◌∙◌, subst, arith}
use Rattle.std.specs.Borrow.{Bor}
use Rattle.std.specs.Str.{bytes_eq}
use Rattle.std.proofs.lemmas.List.{drop_more, map-append, reverse-append}
use Rattle.std.proofs.Math.ListN.{drop_of_length-le}
use Rattle.fut_ast.specs.Sorts.{Text}
use Rattle.fut_tree.specs.Names.{names}
use Rattle.elab_scopes.specs.Imports.{Source_file, file_number, item, one_later, path_of}
use Rattle.module_state.specs.Written.{file_of, files_of}
use Rattle.module_state.specs.declared.written.SourceFile.{SourceFile}
use Rattle.source_files.specs.Reading.{Is_left, Reading, is_known}

same_at : {A : Type 0} (xs : List A) (i : ℕ) (d : A) → get_or xs i d ≡ slice_index_or xs i d
same_at [] i d = refl
same_at (x ∷ xs) zero d = refl
same_at (x ∷ xs) (suc i) d = same_at xs i d

pub from_index : {A : Type 0} (xs : List A) (i : ℕ) (d : A) → i < length xs → drop i xs ≡ slice_index_or xs i d ∷ drop (i + 1) xs
from_index xs i d lt = drop_more xs i d lt ∙ ap (λ y. y ∷ drop (i + 1) xs) (same_at xs i d)

-- ---- a file by its number

pub file_there : (fs : List SourceFile) (k : ℕ) (d : SourceFile) → k < length fs → item (files_of fs) k ≡ Some (file_of (slice_index_or fs k d))
unfolding item
file_there [] k d lt = absurd (omega (arith, lt))
file_there (f ∷ fs) zero d lt = refl
file_there (f ∷ fs) (suc k) d lt = file_there fs k d (omega (arith, lt))

pub path_there : (fs : List SourceFile) (k : ℕ) (d : SourceFile) → k < length fs → (slice_index_or fs k d).path.now ≡ path_of (item (files_of fs) k)
path_there fs k d lt = sym (ap path_of (file_there fs k d lt))

pub path_past : (fs : List SourceFile) (k : ℕ) → length fs ≤ k → [] ≡ path_of (item (files_of fs) k)
unfolding item
path_past [] k le = refl
path_past (f ∷ fs) zero le = absurd (omega (arith, le))
path_past (f ∷ fs) (suc k) le = path_past fs k (omega (arith, le))

pub ruleset paths = (path_there, path_past)

-- ---- a number by its path

-- a number so many files later
abbrev pub later : ℕ → Option ℕ → Option ℕ
later n None = None
later n (Some k) = Some (n + k)

later_one : (n : ℕ) (o : Option ℕ) → later n (one_later o) ≡ later (n + 1) o
later_one n None = refl
later_one n (Some k) = ap Some (omega arith)

module _ (fs : List SourceFile) (x : Text) where
  pub search_starts : (o : Option ℕ) → later 0 o ≡ o
  search_starts None = refl
  search_starts (Some k) = ap Some (omega arith)

  one_file : (i : ℕ) (d : SourceFile) → i < length fs → file_number (files_of (drop i fs)) x ≡ cond (bytes_eq (slice_index_or fs i d).path.now x) (Some 0) (one_later (file_number (files_of (drop (i + 1) fs)) x))
  unfolding file_number
  one_file i d lt = ap (λ l. file_number (files_of l) x) (from_index fs i d lt)

  pub other_file : (i : ℕ) (d : SourceFile) → i < length fs → bytes_eq (slice_index_or fs i d).path.now x ≡ false → file_number (files_of fs) x ≡ later i (file_number (files_of (drop i fs)) x) → file_number (files_of fs) x ≡ later (i + 1) (file_number (files_of (drop (i + 1) fs)) x)
  other_file i d lt differs so = so ∙ ap (later i) (one_file i d lt ∙ ap (λ t. cond t (Some 0) (one_later (file_number (files_of (drop (i + 1) fs)) x))) differs) ∙ later_one i (file_number (files_of (drop (i + 1) fs)) x)

  pub found_file : (i : ℕ) (d : SourceFile) → i < length fs → bytes_eq (slice_index_or fs i d).path.now x ≡ true → file_number (files_of fs) x ≡ later i (file_number (files_of (drop i fs)) x) → Some i ≡ file_number (files_of fs) x
  found_file i d lt same so = sym (so ∙ ap (later i) (one_file i d lt ∙ ap (λ t. cond t (Some 0) (one_later (file_number (files_of (drop (i + 1) fs)) x))) same) ∙ ap Some (omega arith))

  pub no_file : (i : ℕ) → length fs ≤ i → file_number (files_of fs) x ≡ later i (file_number (files_of (drop i fs)) x) → None ≡ file_number (files_of fs) x
  unfolding file_number
  no_file i le so = sym (so ∙ ap (λ l. later i (file_number (files_of l) x)) (drop_of_length-le fs le))

pub known_number : (o : Option ℕ) → is_some o ≡ true → (k : ℕ) × (o ≡ Some k)
known_number None e = absurd (let z : false ≡ true = e in cc)
known_number (Some k) e = (k, refl)

no_number : (o : Option ℕ) → is_some o ≡ false → o ≡ None
no_number None e = refl
no_number (Some k) e = absurd (let z : true ≡ false = e in cc)

pub newest_more : (xs : List (Bor Text)) (x : Bor Text) → reverse (names (xs ++ x ∷ [])) ≡ x.now ∷ reverse (names xs)
newest_more xs x = ap reverse (map-append (λ (t : Bor Text). t.now) xs (x ∷ [])) ∙ reverse-append (names xs) (x.now ∷ [])

-- the last path is taken
taken : (file : Text) (fs : List Source_file) (old new : List (Bor Text)) (p : Bor Text) → old ≡ new ++ p ∷ [] → Reading file fs (reverse (names old)) → Reading file fs (p.now ∷ reverse (names new))
taken file fs old new p e = subst (Reading file fs) (ap (λ l. reverse (names l)) e ∙ newest_more new p)

pub skips : (file : Text) (fs : List Source_file) (old new : List (Bor Text)) (p : Bor Text) → old ≡ new ++ p ∷ [] → is_some (file_number fs p.now) ≡ true → Reading file fs (reverse (names old)) → Reading file fs (reverse (names new))
skips file fs old new p e known r = is_known (taken file fs old new p e r) (known_number (file_number fs p.now) known).1

pub is_next : (file : Text) (fs : List Source_file) (old new : List (Bor Text)) (p : Bor Text) → old ≡ new ++ p ∷ [] → is_some (file_number fs p.now) ≡ false → Reading file fs (reverse (names old)) → Is_left file fs (reverse (names new)) (Some p.now)
is_next file fs old new p e unknown r = (taken file fs old new p e r, no_number (file_number fs p.now) unknown)

pub none_left : (file : Text) (fs : List Source_file) (old : List (Bor Text)) (others : List Text) → old ≡ [] → Reading file fs (reverse (names old)) → Is_left file fs others None
none_left file fs old others e = subst (λ l. Reading file fs (reverse (names l))) e
