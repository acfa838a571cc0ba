-- What is read so far, one file after the other.
use Rattle.std.proofs.Common.{◌≡◌, ℕ, suc, ◌+◌, ◌≤◌, ◌<◌, List, [], ◌∷◌, ◌++◌, length, Some, None, refl, sym, ap, ◌∙◌, subst, arith}
use Rattle.std.proofs.lemmas.List.{length-append, length-map}
use mathlib.Core.Logic.{◌⊎◌, inl, inr}
use Rattle.fut_ast.specs.Sorts.{Text}
use Rattle.fut_io.specs.Outside.{LoaderSeen}
use Rattle.elab_scopes.specs.Imports.{Source_file, file_number}
use Rattle.module_state.specs.Written.{file_of, files_of}
use Rattle.module_state.specs.declared.written.SourceFile.{SourceFile}
use Rattle.source_files.specs.Files.{Are_files, Are_read, Ends_reading, Goes_on, Is_file, Is_one_too_many, Is_unread, Is_unread_at, Stops, no_more, one_more}
use Rattle.source_files.specs.Reading.{Is_left, Reading, at_first, is_read}
use Rattle.source_files.specs.declared.reading.Unread.{Unread}
use Rattle.source_files.specs.declared.reading.Unread.TheVariants as unread

files_more : (seen : LoaderSeen) (n m : ℕ) (fs : List Source_file) (f : Source_file) → Are_files seen n fs → m ≡ n + length fs → Is_file seen m f → Are_files seen n (fs ++ f ∷ [])
files_more seen n m [] f no_more e i = one_more (subst (λ k. Is_file seen k f) (omega (arith, e)) i) no_more
files_more seen n m (g ∷ fs) f (one_more j js) e i = one_more j (files_more seen (suc n) m fs f js (omega (arith, e)) i)

-- a file more is there
pub one_longer : (seen : LoaderSeen) (number k : ℕ) (path : Text) (fs more : List SourceFile) (left left' : List Text) → Goes_on seen number path (files_of fs) (files_of more) left left' → length fs ≡ k → length more ≡ k + 1
one_longer seen number k path fs more left left' g e =
    let all : length (files_of more) ≡ length (files_of fs) + 1 = ap length g.behind ∙ length-append (files_of fs) (g.file ∷ []) in
    omega (arith, all, e, length-map fs file_of, length-map more file_of)

-- these files are read, and these paths are still to be looked at
pub record So_far (file : Text) (old now : LoaderSeen) (fs : List SourceFile) (left : List Text) : Type 0 where
  pub reading : Reading file (files_of fs) left
  pub files : Are_files old 1 (files_of fs)
  pub same : now ≡ old

pub none_yet : (file : Text) (seen : LoaderSeen) (fs : List SourceFile) (left : List Text) → fs ≡ [] → left ≡ file ∷ [] → So_far file seen seen fs left
none_yet file seen fs left none first = record {
  reading = subst (λ l. Reading file (files_of fs) l) (sym first) (subst (λ l. Reading file (files_of l) (file ∷ [])) (sym none) at_first);
  files = subst (λ l. Are_files seen 1 (files_of l)) (sym none) no_more;
  same = refl;
}

-- memory ran out
pub without_memory : (file : Text) (old new : LoaderSeen) (path : Text) (why : Unread) → why ≡ unread.Memory → new ≡ old → Ends_reading file old new path why
without_memory file old new path why e same = subst (λ (w : Unread). Ends_reading file old new path w) (sym e) same

pub unread_without : (old : LoaderSeen) (number : ℕ) (path told : Text) (why : Unread) → why ≡ unread.Memory → Is_unread_at old old number path told why
unread_without old number path told why e = subst (λ (w : Unread). Is_unread_at old old number path told w) (sym e) refl

-- a refusal that tells its path
pub told_path : (old new : LoaderSeen) (number : ℕ) (path told : Text) (why : Unread) → told ≡ path → Is_unread old new number path why → Is_unread_at old new number path told why
told_path old new number path told unread.Load e u = (e, u)
told_path old new number path told unread.TooLong e u = (e, u)
told_path old new number path told (unread.Lex err) e u = (e, u)
told_path old new number path told (unread.Parse err) e u = (e, u)
told_path old new number path told (unread.NotBuilt at) e u = (e, u)
told_path old new number path told unread.TooMany e u = (e, u)
told_path old new number path told unread.Memory e u = u

-- reading ends with these files
pub done_same : (file : Text) (old now : LoaderSeen) (fs : List SourceFile) (left : List Text) → So_far file old now fs left → now ≡ old
done_same file old now fs left s = s.same

module _ (file : Text) (old now : LoaderSeen) (fs : List SourceFile) (left : List Text) (s : So_far file old now fs left) (left' : List Text) where
  -- all is read
  pub all_read : ((f : Text) → Reading f (files_of fs) left → Is_left f (files_of fs) left' None) → length fs ≤ 256 → (all : List SourceFile) → all ≡ fs → Are_read old file (files_of all)
  all_read n few all e = subst (λ l. Are_read old file (files_of l)) (sym e) (record { read = n file s.reading; files = s.files; few = omega (arith, few, length-map fs file_of) })

  module _ (path : Text) (n : (f : Text) → Reading f (files_of fs) left → Is_left f (files_of fs) left' (Some path)) where
    -- one more file is read
    pub one_read : (new : LoaderSeen) (number : ℕ) (more : List SourceFile) (left'' : List Text) → number ≡ length fs + 1 → Goes_on now number path (files_of fs) (files_of more) left' left'' → new ≡ now → So_far file old new more left''
    one_read new number more left'' num g is = record {
      reading = subst (λ l. Reading file l left'') (sym g.behind) (subst (λ l. Reading file (files_of fs ++ g.file ∷ []) l) (sym g.before) (is_read g.file (subst (λ p. Reading file (files_of fs) (p ∷ left')) (sym g.at_path) (n file s.reading).0) (subst (λ p. file_number (files_of fs) p ≡ None) (sym g.at_path) (n file s.reading).1)));
      files = subst (Are_files old 1) (sym g.behind) (files_more old 1 number (files_of fs) g.file s.files (omega (arith, num, length-map fs file_of)) (subst (λ t. Is_file t number g.file) s.same g.is));
      same = is ∙ s.same;
    }

    -- the next one is not read
    stops : (new : LoaderSeen) (number : ℕ) (told : Text) (why : Unread) → (length fs < 256) ⊎ (why ≡ unread.TooMany) → number ≡ length fs + 1 → (told ≡ path) × Is_unread now new number path why → Stops file old new told why
    stops new number told why few num u = record {
      before = files_of fs;
      files = s.files;
      few = as_files few;
      next = record { others = left'; reading = subst (λ p. Reading file (files_of fs) (p ∷ left')) (sym u.0) (n file s.reading).0; unknown = subst (λ p. file_number (files_of fs) p ≡ None) (sym u.0) (n file s.reading).1 };
      unread = subst (λ k. Is_unread old new k told why) (omega (arith, num, length-map fs file_of)) (subst (λ p. Is_unread old new number p why) (sym u.0) (subst (λ t. Is_unread t new number path why) s.same u.1));
    }
      where
        as_files : (length fs < 256) ⊎ (why ≡ unread.TooMany) → (length (files_of fs) < 256) ⊎ (why ≡ unread.TooMany)
        as_files (inl lt) = inl (omega (arith, lt, length-map fs file_of))
        as_files (inr e) = inr e

    pub not_read : (new : LoaderSeen) (number : ℕ) (told : Text) (why : Unread) → length fs < 256 → number ≡ length fs + 1 → Is_unread_at now new number path told why → Ends_reading file old new told why
    not_read new number told unread.Load few num u = stops new number told unread.Load (inl few) num u
    not_read new number told unread.TooLong few num u = stops new number told unread.TooLong (inl few) num u
    not_read new number told (unread.Lex err) few num u = stops new number told (unread.Lex err) (inl few) num u
    not_read new number told (unread.Parse err) few num u = stops new number told (unread.Parse err) (inl few) num u
    not_read new number told (unread.NotBuilt at) few num u = stops new number told (unread.NotBuilt at) (inl few) num u
    not_read new number told unread.TooMany few num u = stops new number told unread.TooMany (inl few) num u
    not_read new number told unread.Memory few num u = u ∙ s.same

    -- there are too many
    pub one_too_many : (told : Text) (why : Unread) → length fs ≡ 256 → Is_one_too_many path told why → Ends_reading file old now told why
    one_too_many told unread.TooMany full e = stops now 257 told unread.TooMany (inr refl) (omega (arith, full)) (e, (refl, refl))
    one_too_many told unread.Memory full e = s.same
    one_too_many told unread.Load full e = absurd e
    one_too_many told unread.TooLong full e = absurd e
    one_too_many told (unread.Lex err) full e = absurd e
    one_too_many told (unread.Parse err) full e = absurd e
    one_too_many told (unread.NotBuilt at) full e = absurd e

pub ruleset reads = (none_yet, without_memory, done_same, all_read, one_read, not_read, one_too_many)
