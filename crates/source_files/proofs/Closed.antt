-- What holds of the files that are read.
use Rattle.std.proofs.Common.{◌≡◌, ℕ, zero, suc, Bool, true, false, cond, List, [], ◌∷◌, ◌++◌, length, map, flat_map, Option, Some, None, is_some, refl, sym, ap, ◌∙◌, subst}
use Rattle.std.specs.Str.{bytes_eq}
use Rattle.std.proofs.lemmas.Slice.Eq.{bytes_eq-Decides}
use mathlib.Core.Logic.{◌⊎◌, inl, inr}
use Rattle.fut_ast.specs.Sorts.{Text}
use Rattle.elab_scopes.specs.Imports.{Source_file, file_number, imported_file, imported_path, item, one_later, path_of}
use Rattle.file_order.specs.Order.{imported_texts}
use Rattle.source_files.specs.Reading.{Reading, at_first, imported_paths, is_known, is_read}
use Rattle.source_files.specs.Claims.{ImportsAreFiles, NamedIsFirst, PathsStandOnce}

none_some : {A B : Type 0} {x : A} → ◌≡◌ {A = Option A} None (Some x) → B
none_some e = absurd (let z : false ≡ true = ap is_some e in cc)

some_once : {A : Type 0} {o : Option A} {x y : A} → o ≡ Some x → o ≡ Some y → x ≡ y
some_once {A} {o} {x} {y} e f = let z : ◌≡◌ {A = Option A} (Some x) (Some y) = sym e ∙ f in cc

-- ---- the numbers of files

-- a file keeps its number where others are put behind it
kept : (fs gs : List Source_file) (p : Text) (k : ℕ) → file_number fs p ≡ Some k → file_number (fs ++ gs) p ≡ Some k
unfolding file_number
kept [] gs p k e = none_some e
kept (f ∷ fs) gs p k e = at_test (bytes_eq f.path p) (λ j i. kept fs gs p j i) e
  where
    later : (o q : Option ℕ) (k : ℕ) → ((j : ℕ) → o ≡ Some j → q ≡ Some j) → one_later o ≡ Some k → one_later q ≡ Some k
    later None q k i e = none_some e
    later (Some j) q k i e = ap one_later (i j refl) ∙ e

    at_test : (t : Bool) → ((j : ℕ) → file_number fs p ≡ Some j → file_number (fs ++ gs) p ≡ Some j) → cond t (Some 0) (one_later (file_number fs p)) ≡ Some k → cond t (Some 0) (one_later (file_number (fs ++ gs) p)) ≡ Some k
    at_test true still e = e
    at_test false still e = later (file_number fs p) (file_number (fs ++ gs) p) k still e

itself : (p : Text) → bytes_eq p p ≡ true
itself p = (bytes_eq-Decides p p).1 refl

-- a file whose path is new has the number behind all
put_behind : (fs : List Source_file) (f : Source_file) → file_number fs f.path ≡ None → file_number (fs ++ f ∷ []) f.path ≡ Some (length fs)
unfolding file_number
put_behind [] f e = ap (λ t. cond t (Some 0) None) (itself f.path)
put_behind (g ∷ fs) f e = at_test (bytes_eq g.path f.path) (λ n. put_behind fs f n) e
  where
    not_later : (o : Option ℕ) → one_later o ≡ None → o ≡ None
    not_later None e = refl
    not_later (Some k) e = none_some (sym e)

    at_test : (t : Bool) → (file_number fs f.path ≡ None → file_number (fs ++ f ∷ []) f.path ≡ Some (length fs)) → cond t (Some 0) (one_later (file_number fs f.path)) ≡ None → cond t (Some 0) (one_later (file_number (fs ++ f ∷ []) f.path)) ≡ Some (suc (length fs))
    at_test true last e = none_some (sym e)
    at_test false last e = ap one_later (last (not_later (file_number fs f.path) e))

-- a file of a longer list is one of the old ones, or the new one
old_or_new : (fs : List Source_file) (g f : Source_file) (k : ℕ) → item (fs ++ g ∷ []) k ≡ Some f → (item fs k ≡ Some f) ⊎ ((f ≡ g) × (k ≡ length fs))
unfolding item
old_or_new [] g f zero e = inr (sym (some_once refl e), refl)
old_or_new [] g f (suc k) e = none_some e
old_or_new (h ∷ fs) g f zero e = inl e
old_or_new (h ∷ fs) g f (suc k) e = behind (old_or_new fs g f k e)
  where
    behind : (item fs k ≡ Some f) ⊎ ((f ≡ g) × (k ≡ length fs)) → (item fs k ≡ Some f) ⊎ ((f ≡ g) × (suc k ≡ suc (length fs)))
    behind (inl i) = inl i
    behind (inr (i, j)) = inr (i, ap suc j)

-- ---- the first file

first_or_none : (file : Text) {fs : List Source_file} {ps : List Text} → Reading file fs ps → ((fs ≡ []) × (ps ≡ file ∷ [])) ⊎ (file_number fs file ≡ Some 0)
unfolding file_number
first_or_none file at_first = inl (refl, refl)
first_or_none file (is_known {fs = fs} {p = p} {ps = ps} {k = k} r e) = by (first_or_none file r)
  where
    by : ((fs ≡ []) × (p ∷ ps ≡ file ∷ [])) ⊎ (file_number fs file ≡ Some 0) → ((fs ≡ []) × (ps ≡ file ∷ [])) ⊎ (file_number fs file ≡ Some 0)
    by (inl (none, l)) = none_some (ap (λ l. file_number l p) (sym none) ∙ e)
    by (inr i) = inr i
first_or_none file (is_read {fs = fs} {ps = ps} f r n) = by (first_or_none file r)
  where
    head : List Text → Text
    head [] = []
    head (x ∷ xs) = x

    by : ((fs ≡ []) × (f.path ∷ ps ≡ file ∷ [])) ⊎ (file_number fs file ≡ Some 0) → ((fs ++ f ∷ [] ≡ []) × (imported_paths f ++ ps ≡ file ∷ [])) ⊎ (file_number (fs ++ f ∷ []) file ≡ Some 0)
    by (inl (none, l)) = inr (subst (λ p. file_number (fs ++ f ∷ []) p ≡ Some 0) (ap head l) (put_behind fs f n ∙ ap (λ l. Some (length l)) none))
    by (inr i) = inr (kept fs (f ∷ []) file 0 i)

pub named_is_first : NamedIsFirst
named_is_first file fs r = by (first_or_none file r)
  where
    by : ((fs ≡ []) × ([] ≡ file ∷ [])) ⊎ (file_number fs file ≡ Some 0) → file_number fs file ≡ Some 0
    by (inl (none, l)) = absurd (let z : ◌≡◌ {A = List Text} [] (file ∷ []) = l in cc)
    by (inr i) = i

-- ---- each path once

once : (file : Text) {fs : List Source_file} {ps : List Text} → Reading file fs ps → (k : ℕ) (f : Source_file) → item fs k ≡ Some f → file_number fs f.path ≡ Some k
unfolding item
once file at_first k f i = none_some i
once file (is_known r e) k f i = once file r k f i
once file (is_read {fs = fs} g r n) k f i = by (λ old. once file r k f old) (old_or_new fs g f k i)
  where
    by : (item fs k ≡ Some f → file_number fs f.path ≡ Some k) → (item fs k ≡ Some f) ⊎ ((f ≡ g) × (k ≡ length fs)) → file_number (fs ++ g ∷ []) f.path ≡ Some k
    by before (inl old) = kept fs (g ∷ []) f.path k (before old)
    by before (inr (same, last)) = ap (λ h. file_number (fs ++ g ∷ []) h.path) same ∙ put_behind fs g n ∙ ap Some (sym last)

pub paths_stand_once : PathsStandOnce
paths_stand_once file fs k f r i = once file r k f i

-- ---- what is imported

abbrev Listed : Text → List Text → Type 0
Listed p ps = (j : ℕ) × (item ps j ≡ Some p)

left_of : (p : Text) (ps qs : List Text) (j : ℕ) → item ps j ≡ Some p → Listed p (ps ++ qs)
unfolding item
left_of p [] qs j i = none_some i
left_of p (x ∷ ps) qs zero i = (zero, i)
left_of p (x ∷ ps) qs (suc j) i = behind (left_of p ps qs j i)
  where
    behind : Listed p (ps ++ qs) → Listed p (x ∷ (ps ++ qs))
    behind (n, e) = (suc n, e)

right_of : (p : Text) (ps qs : List Text) → Listed p qs → Listed p (ps ++ qs)
unfolding item
right_of p [] qs l = l
right_of p (x ∷ ps) qs l = behind (right_of p ps qs l)
  where
    behind : Listed p (ps ++ qs) → Listed p (x ∷ (ps ++ qs))
    behind (n, e) = (suc n, e)

-- the first of a list, or one behind it
first_or_later : (p x : Text) (ps : List Text) → Listed p (x ∷ ps) → (x ≡ p) ⊎ Listed p ps
unfolding item
first_or_later p x ps (zero, i) = inl (some_once refl i)
first_or_later p x ps (suc n, i) = inr (n, i)

abbrev Numbered : List Source_file → Text → Type 0
Numbered fs p = (k : ℕ) × (file_number fs p ≡ Some k)

-- what a file that was read imports is read, or still to be looked at
read_or_listed : (file : Text) {fs : List Source_file} {ps : List Text} → Reading file fs ps → (k : ℕ) (f : Source_file) (p : Text) → item fs k ≡ Some f → Listed p (imported_paths f) → Numbered fs p ⊎ Listed p ps
unfolding item
read_or_listed file at_first k f p i l = none_some i
read_or_listed file (is_known {fs = fs} {p = q} {ps = ps} {k = n} r e) k f p i l = by (read_or_listed file r k f p i l)
  where
    here : (q ≡ p) ⊎ Listed p ps → Numbered fs p ⊎ Listed p ps
    here (inl same) = inl (n, subst (λ x. file_number fs x ≡ Some n) same e)
    here (inr later) = inr later

    by : Numbered fs p ⊎ Listed p (q ∷ ps) → Numbered fs p ⊎ Listed p ps
    by (inl known) = inl known
    by (inr listed) = here (first_or_later p q ps listed)
read_or_listed file (is_read {fs = fs} {ps = ps} g r n) k f p i l = by_file (λ old. read_or_listed file r k f p old l) (old_or_new fs g f k i)
  where
    here : (g.path ≡ p) ⊎ Listed p ps → Numbered (fs ++ g ∷ []) p ⊎ Listed p (imported_paths g ++ ps)
    here (inl same) = inl (length fs, subst (λ x. file_number (fs ++ g ∷ []) x ≡ Some (length fs)) same (put_behind fs g n))
    here (inr later) = inr (right_of p (imported_paths g) ps later)

    by : Numbered fs p ⊎ Listed p (g.path ∷ ps) → Numbered (fs ++ g ∷ []) p ⊎ Listed p (imported_paths g ++ ps)
    by (inl (j, known)) = inl (j, kept fs (g ∷ []) p j known)
    by (inr listed) = here (first_or_later p g.path ps listed)

    by_file : (item fs k ≡ Some f → Numbered fs p ⊎ Listed p (g.path ∷ ps)) → (item fs k ≡ Some f) ⊎ ((f ≡ g) × (k ≡ length fs)) → Numbered (fs ++ g ∷ []) p ⊎ Listed p (imported_paths g ++ ps)
    by_file before (inl old) = by (before old)
    by_file before (inr (same, last)) = new (subst (λ h. Listed p (imported_paths h)) same l)
      where
        new : Listed p (imported_paths g) → Numbered (fs ++ g ∷ []) p ⊎ Listed p (imported_paths g ++ ps)
        new (j, e) = inr (left_of p (imported_paths g) ps j e)

mapped : (h : Text → Text) (xs : List Text) (j : ℕ) (x : Text) → item xs j ≡ Some x → item (map h xs) j ≡ Some (h x)
unfolding item
mapped h [] j x i = none_some i
mapped h (y ∷ xs) zero x i = ap (λ z. Some (h z)) (some_once refl i)
mapped h (y ∷ xs) (suc j) x i = mapped h xs j x i

-- it is so behind a prelude too
behind_prelude : (prelude : Source_file) (fs : List Source_file) (p : Text) (k : ℕ) → file_number fs p ≡ Some k → is_some (file_number (prelude ∷ fs) p) ≡ true
unfolding file_number
behind_prelude prelude fs p k e = at_test (bytes_eq prelude.path p)
  where
    at_test : (t : Bool) → is_some (cond t (Some 0) (one_later (file_number fs p))) ≡ true
    at_test true = refl
    at_test false = ap (λ o. is_some (one_later o)) e

pub imports_are_files : ImportsAreFiles
unfolding imported_file item
imports_are_files prelude file fs k j f x r i e =
    let p = imported_path f.path x in
    ap (λ o. is_some (file_number (prelude ∷ fs) (imported_path (path_of o) x))) i ∙ by p (read_or_listed file r k f p i (j, mapped (imported_path f.path) (flat_map imported_texts f.program.decs) j x e))
  where
    by : (p : Text) → Numbered fs p ⊎ Listed p [] → is_some (file_number (prelude ∷ fs) p) ≡ true
    by p (inl (n, known)) = behind_prelude prelude fs p n known
    by p (inr (n, none)) = none_some none
