-- The rows of numbers, one file after the other.
use Rattle.std.proofs.Common.{◌≡◌, ℕ, zero, suc, ◌+◌, ◌<◌, ◌≤◌, List, [], ◌∷◌, ◌++◌, length, flat_map, slice_index_or, Option, Some, None, Result, IfOk, OnOk, Bool, true, false, cond, refl, sym, ap, subst, ◌∙◌, arith}
use Rattle.std.specs.Borrow.{Bor}
use Rattle.std.specs.Str.{bytes_eq}
use Rattle.std.proofs.lemmas.Bool.{cases_lt}
use Rattle.std.proofs.lemmas.List.{append_assoc, append-nil, length-append, length-map}
use Rattle.std.proofs.lemmas.Result.{on_ok_weaker}
use mathlib.Core.Logic.{◌⊎◌, inl, inr}
use Rattle.fut_ast.specs.Sorts.{Text}
use Rattle.fut_tree.specs.Names.{names}
use Rattle.elab_scopes.specs.Imports.{Source_file, file_number, imported_file, imported_path, item, one_later, path_of}
use Rattle.elab_scopes.specs.Declarations.{decs_of}
use Rattle.file_order.specs.Order.{Among, and_known, first, imported_texts, imports_of, later, numbers_of}
use Rattle.file_imports.specs.Texts.{decs_texts}
use Rattle.import_cycles.specs.Graphs.{Are_imports, Rows, Within, row_at}
use Rattle.module_state.specs.Written.{file_of, files_of}
use Rattle.module_state.specs.declared.written.SourceFile.{SourceFile}
use Rattle.source_files.proofs.Finding.{file_there}
use Rattle.source_files.proofs.Putting.{texts_are}

-- ---- one import

pub named_number : (fs : List SourceFile) (k : ℕ) (x p q : Text) {E : Type 0} (r : Result (Option ℕ) E) → p ≡ path_of (item (files_of fs) k) → q ≡ imported_path p x → IfOk r (λ number. number ≡ file_number (files_of fs) q) → IfOk r (λ number. number ≡ imported_file (files_of fs) k x)
unfolding imported_file
named_number fs k x p q r there is w = subst (λ z. IfOk r (λ number. number ≡ file_number (files_of fs) z)) (is ∙ ap (λ y. imported_path y x) there) w

pub none_put : (old : List ℕ) (o : Option ℕ) → None ≡ o → old ≡ old ++ and_known o []
none_put old o e = sym (ap (λ k. old ++ and_known k []) (sym e) ∙ append-nil old)

pub one_put : {E : Type 0} (r : Result (Unit {0}) E) (old new : List ℕ) (k : ℕ) (o : Option ℕ) → Some k ≡ o → OnOk r (new ≡ old ++ k ∷ []) → OnOk r (new ≡ old ++ and_known o [])
one_put r old new k o e = on_ok_weaker r (λ h. h ∙ ap (λ z. old ++ and_known z []) e)

-- ---- the imports of a file

known_more : (o : Option ℕ) (ks : List ℕ) → and_known o [] ++ ks ≡ and_known o ks
known_more None ks = refl
known_more (Some k) ks = refl

pub number_put : (fs : List Source_file) (k : ℕ) (row more whole : List ℕ) (x : Text) (xs : List Text) → more ≡ row ++ and_known (imported_file fs k x) [] → row ++ numbers_of fs k (x ∷ xs) ≡ whole → more ++ numbers_of fs k xs ≡ whole
unfolding numbers_of
number_put fs k row more whole x xs e so = ap (λ l. l ++ numbers_of fs k xs) e ∙ append_assoc row (and_known (imported_file fs k x) []) (numbers_of fs k xs) ∙ ap (λ l. row ++ l) (known_more (imported_file fs k x) (numbers_of fs k xs)) ∙ so

pub row_done : (fs : List Source_file) (k : ℕ) (row whole : List ℕ) → row ++ numbers_of fs k (names []) ≡ whole → row ≡ whole
unfolding numbers_of
row_done fs k row whole e = sym (append-nil row) ∙ e

pub row_is : (fs : List SourceFile) (k : ℕ) (d : SourceFile) (ts : List (Bor Text)) (old row out : List ℕ) → k < length fs → names ts ≡ decs_texts (slice_index_or fs k d).program.now.decs → old ≡ [] → row ≡ old ++ numbers_of (files_of fs) k (names ts) → out ≡ row → out ≡ imports_of (files_of fs) k
unfolding imports_of
row_is fs k d ts old row out lt is none e o =
    o ∙ e ∙ ap (λ l. l ++ numbers_of (files_of fs) k (names ts)) none ∙ ap (numbers_of (files_of fs) k) (is ∙ texts_are (slice_index_or fs k d).program.now.decs ∙ sym (ap (λ f. flat_map imported_texts (decs_of f)) (file_there fs k d lt)))

-- ---- all rows

-- the rows of so many files
pub record Rows_to (fs : List Source_file) (rs : Rows) (n : ℕ) : Type 0 where
  pub size : length rs ≡ n
  pub within : n ≤ length fs
  pub same : (k : ℕ) → k < n → row_at rs k ≡ imports_of fs k

pub no_rows : (fs : List Source_file) (rs : Rows) → rs ≡ [] → Rows_to fs rs 0
no_rows fs rs e = record { size = ap length e; within = omega arith; same = λ k lt. absurd (omega (arith, lt)) }

row_before : (rs : Rows) (r : Bor (List ℕ)) (k : ℕ) → k < length rs → row_at (rs ++ r ∷ []) k ≡ row_at rs k
unfolding row_at
row_before [] r k lt = absurd (omega (arith, lt))
row_before (x ∷ rs) r zero lt = refl
row_before (x ∷ rs) r (suc k) lt = row_before rs r k (omega (arith, lt))

row_last : (rs : Rows) (r : Bor (List ℕ)) (k : ℕ) → k ≡ length rs → row_at (rs ++ r ∷ []) k ≡ r.now
unfolding row_at
row_last [] r zero e = refl
row_last [] r (suc k) e = absurd (omega (arith, e))
row_last (x ∷ rs) r zero e = absurd (omega (arith, e))
row_last (x ∷ rs) r (suc k) e = row_last rs r k (omega (arith, e))

row_behind : (rs : Rows) (k : ℕ) → length rs ≤ k → row_at rs k ≡ []
unfolding row_at
row_behind [] k le = refl
row_behind (x ∷ rs) zero le = absurd (omega (arith, le))
row_behind (x ∷ rs) (suc k) le = row_behind rs k (omega (arith, le))

pub one_row : (fs : List SourceFile) (rs more : Rows) (n m : ℕ) (r : Bor (List ℕ)) → more ≡ rs ++ r ∷ [] → m ≡ n + 1 → n < length fs → r.now ≡ imports_of (files_of fs) n → Rows_to (files_of fs) rs n → Rows_to (files_of fs) more m
one_row fs rs more n m r e next lt is so = record {
  size = ap length e ∙ length-append rs (r ∷ []) ∙ omega (arith, so.size, next);
  within = omega (arith, lt, next, length-map fs file_of);
  same = λ k b. ap (λ l. row_at l k) e ∙ by_order k (cases_lt k n) b;
}
  where
    last : (k : ℕ) → n ≤ k → k < m → k ≡ n
    last k ge b = omega (arith, ge, b, next)

    by_order : (k : ℕ) → (k < n) ⊎ (n ≤ k) → k < m → row_at (rs ++ r ∷ []) k ≡ imports_of (files_of fs) k
    by_order k (inl b) lt = row_before rs r k (omega (arith, b, so.size)) ∙ so.same k b
    by_order k (inr ge) b = row_last rs r k (last k ge b ∙ sym so.size) ∙ is ∙ ap (imports_of (files_of fs)) (sym (last k ge b))

no_item : (fs : List Source_file) (k : ℕ) → length fs ≤ k → item fs k ≡ None
unfolding item
no_item [] k le = refl
no_item (f ∷ fs) zero le = absurd (omega (arith, le))
no_item (f ∷ fs) (suc k) le = no_item fs k (omega (arith, le))

no_imports : (fs : List Source_file) (k : ℕ) → length fs ≤ k → imports_of fs k ≡ []
unfolding imports_of numbers_of
no_imports fs k le = ap (λ f. numbers_of fs k (flat_map imported_texts (decs_of f))) (no_item fs k le)

-- each number that a row has is that of a file
number_within : (fs : List Source_file) (p : Text) (j : ℕ) → file_number fs p ≡ Some j → j < length fs
unfolding file_number
number_within [] p j e = absurd (let z : ◌≡◌ {A = Option ℕ} None (Some j) = e in cc)
number_within (f ∷ fs) p j e = at_test (bytes_eq f.path p) (λ i e. number_within fs p i e) e
  where
    same : (x y : ℕ) → ◌≡◌ {A = Option ℕ} (Some x) (Some y) → x ≡ y
    same x y e = cc

    behind : (o : Option ℕ) → ((i : ℕ) → o ≡ Some i → i < length fs) → one_later o ≡ Some j → j < suc (length fs)
    behind None lt e = absurd (let z : ◌≡◌ {A = Option ℕ} None (Some j) = e in cc)
    behind (Some i) lt e = omega (arith, lt i refl, same (suc i) j e)

    at_test : (t : Bool) → ((i : ℕ) → file_number fs p ≡ Some i → i < length fs) → cond t (Some 0) (one_later (file_number fs p)) ≡ Some j → j < suc (length fs)
    at_test true lt e = omega (arith, same 0 j e)
    at_test false lt e = behind (file_number fs p) lt e

numbers_within : (fs : List Source_file) (k : ℕ) (xs : List Text) (j : ℕ) → Among j (numbers_of fs k xs) → j < length fs
unfolding numbers_of imported_file
numbers_within fs k [] j a = elim a [ ]
numbers_within fs k (x ∷ xs) j a = at_number (imported_file fs k x) (λ i e. number_within fs (imported_path (path_of (item fs k)) x) i e) (λ b. numbers_within fs k xs j b) a
  where
    at_number : (o : Option ℕ) → ((i : ℕ) → o ≡ Some i → i < length fs) → (Among j (numbers_of fs k xs) → j < length fs) → Among j (and_known o (numbers_of fs k xs)) → j < length fs
    at_number None lt rest a = rest a
    at_number (Some i) lt rest first = lt i refl
    at_number (Some i) lt rest (later b) = rest b

imports_within : (fs : List Source_file) (k j : ℕ) → Among j (imports_of fs k) → j < length fs
unfolding imports_of
imports_within fs k j a = numbers_within fs k (flat_map imported_texts (decs_of (item fs k))) j a

module _ (fs : List SourceFile) (rs out : Rows) (n : ℕ) (o : out ≡ rs) (past : length fs ≤ n) (so : Rows_to (files_of fs) rs n) where
  long : length rs ≡ length (files_of fs)
  long = omega (arith, past, so.size, so.within, length-map fs file_of)

  are : (k : ℕ) → row_at rs k ≡ imports_of (files_of fs) k
  are k = by_order (cases_lt k n)
    where
      by_order : (k < n) ⊎ (n ≤ k) → row_at rs k ≡ imports_of (files_of fs) k
      by_order (inl b) = so.same k b
      by_order (inr ge) = row_behind rs k (omega (arith, ge, so.size)) ∙ sym (no_imports (files_of fs) k (omega (arith, ge, past, length-map fs file_of)))

  pub rows_are : Are_imports (files_of fs) out
  rows_are k = ap (λ l. row_at l k) o ∙ are k

  pub rows_within : Within out
  rows_within = subst Within (sym o) (λ k j a. subst (λ l. j < l) (sym long) (imports_within (files_of fs) k j (subst (Among j) (are k) a)))

  pub rows_length : length out ≡ length fs
  rows_length = ap length o ∙ long ∙ length-map fs file_of

pub ruleset rows_so_far = (no_rows, one_row, rows_are, rows_within, rows_length)
