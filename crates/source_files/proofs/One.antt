-- The told files of a loader determine which files are read, and where reading ends.
use Rattle.std.proofs.Common.{◌≡◌, ◌<◌, ◌≤◌, ℕ, suc, ◌+◌, List, [], ◌∷◌, ◌++◌, length, Option, Some, None, IfSome, refl, sym, ap, ◌∙◌, subst, arith}
use Rattle.std.specs.Prelude.{IsSomeAnd}
use Rattle.std.proofs.lemmas.List.{length-append}
use mathlib.Core.Logic.{◌⊎◌, inl, inr}
use Rattle.fut_token.specs.declared.token.Token.{Token}
use Rattle.fut_ast.specs.Grammar.{Derives}
use Rattle.fut_ast.specs.Sorts.{Text}
use Rattle.fut_ast.specs.declared.module.Program.{Program}
use Rattle.fut_io.specs.Outside.{Loaded, LoaderSeen, LoadOver, file_at}
use Rattle.fut_lexer.specs.Lexing.{HasTokens, RefusesText}
use Rattle.fut_lexer.specs.declared.lexer.LexErr.{LexErr}
use Rattle.fut_lexer.specs.declared.lexer.LexErr.TheVariants as lex
use Rattle.fut_lexer.proofs.Readings.{one_reading}
use Rattle.fut_parser.specs.declared.programs.ParseErr.{ParseErr}
use Rattle.fut_parser.specs.declared.programs.ParseErr.TheVariants as parse
use Rattle.elab_scopes.specs.Imports.{Source_file, file_number}
use Rattle.source_files.specs.Claims.{Is_outside, ReadOnce, ReadOrStopped}
use Rattle.source_files.specs.Files.{Are_files, Are_read, Has_text, Is_file, Is_unbuilt, Is_unread, Spells, Stops, Unspelled, no_more, one_more}
use Rattle.source_files.specs.Reading.{Is_next, Reading, at_first, imported_paths, is_known, is_read}
use Rattle.source_files.specs.declared.reading.Unread.{Unread}
use Rattle.source_files.specs.declared.reading.Unread.TheVariants as unread

some_same : {A : Type 0} {o : Option A} {x y : A} → o ≡ Some x → o ≡ Some y → x ≡ y
some_same {A} {o} {x} {y} e f = let z : ◌≡◌ {A = Option A} (Some x) (Some y) = sym e ∙ f in cc

none_or_some : {A B : Type 0} {o : Option A} {x : A} → o ≡ None → o ≡ Some x → B
none_or_some {A} {B} {o} {x} e f = absurd (let z : ◌≡◌ {A = Option A} None (Some x) = sym e ∙ f in cc)

-- where reading ends there are 256 files before it at most
pub few_before : (old new : LoaderSeen) (path : Text) (before : List Source_file) (why : Unread) → (length before < 256) ⊎ (why ≡ unread.TooMany) → Is_unread old new (suc (length before)) path why → length before ≤ 256
few_before old new path before why (inl lt) u = omega (arith, lt)
few_before old new path before why (inr e) u = full (subst (λ (w : Unread). Is_unread old new (suc (length before)) path w) e u)
  where
    full : (suc (length before) ≡ 257) × (new ≡ old) → length before ≤ 256
    full v = let n = v.0 in omega (arith, n)

-- ---- one file at a path

pub told_text : (old new : LoaderSeen) (told : List (Text × Text)) (path text : Text) → old.files ≡ Some told → Loaded old new path text → file_at told path ≡ Some text
told_text old new told path text e l = subst (λ o. IfSome o (λ (all : List (Text × Text)). file_at all path ≡ Some text)) e l.file

file_is : (f g : Source_file) → f.path ≡ g.path → f.program ≡ g.program → f ≡ g
file_is f g p q = ap (λ (x : Text). record { path = x; program = f.program }) p ∙ ap (λ (x : Program). record { path = g.path; program = x }) q

module _ (seen : LoaderSeen) (told : List (Text × Text)) (is : seen.files ≡ Some told) where
  -- a text that is loaded from where a file is has the tokens of the file
  same_tokens : (new : LoaderSeen) (n : ℕ) (path text : Text) (f : Source_file) → f.path ≡ path → (i : Is_file seen n f) → Loaded seen new path text → HasTokens n text i.tokens
  same_tokens new n path text f at i l =
      subst (λ t. HasTokens n t i.tokens) (some_same (ap (file_at told) (sym at) ∙ told_text seen seen told f.path i.text is i.loaded) (told_text seen new told path text is l)) i.lexed

  pub one_file : (n : ℕ) (f g : Source_file) → f.path ≡ g.path → Is_file seen n f → Is_file seen n g → f ≡ g
  one_file n f g at i j = file_is f g at (j.spelled.only f.program i.spelled.height (subst (λ ts. Derives ts f.program i.spelled.height) tokens i.spelled.derives))
    where
      tokens : i.tokens ≡ j.tokens
      tokens = one_reading.one_list n j.text i.tokens j.tokens (same_tokens seen n g.path j.text f at i j.loaded) j.lexed

  -- ---- from what is read so far to what is read later

  -- this file may be read next, at this path
  pub record May_be (fs : List Source_file) (p : Text) (f : Source_file) : Type 0 where
    pub path : f.path ≡ p
    pub unknown : file_number fs p ≡ None
    pub few : length fs < 256
    pub file : Is_file seen (suc (length fs)) f

  data Onward : List Source_file → List Text → List Source_file → List Text → Type 0 where
    here : {fs : List Source_file} {ps : List Text} → Onward fs ps fs ps
    skips : {fs gs : List Source_file} {p : Text} {ps qs : List Text} {k : ℕ} → file_number fs p ≡ Some k → Onward fs ps gs qs → Onward fs (p ∷ ps) gs qs
    takes : {fs gs : List Source_file} {p : Text} {ps qs : List Text} (f : Source_file) → May_be fs p f → Onward (fs ++ f ∷ []) (imported_paths f ++ ps) gs qs → Onward fs (p ∷ ps) gs qs

  then_skips : {fs gs : List Source_file} {p : Text} {ps qs : List Text} {k : ℕ} → Onward fs ps gs (p ∷ qs) → file_number gs p ≡ Some k → Onward fs ps gs qs
  then_skips here e = skips e here
  then_skips (skips d o) e = skips d (then_skips o e)
  then_skips (takes f m o) e = takes f m (then_skips o e)

  then_takes : {fs gs : List Source_file} {p : Text} {ps qs : List Text} → Onward fs ps gs (p ∷ qs) → (f : Source_file) → May_be gs p f → Onward fs ps (gs ++ f ∷ []) (imported_paths f ++ qs)
  then_takes here f n = takes f n here
  then_takes (skips d o) f n = skips d (then_takes o f n)
  then_takes (takes g m o) f n = takes g m (then_takes o f n)

  before_last : (n : ℕ) (fs : List Source_file) (f : Source_file) → Are_files seen n (fs ++ f ∷ []) → Are_files seen n fs × Is_file seen (n + length fs) f
  before_last n [] f (one_more i no_more) = (no_more, subst (λ k. Is_file seen k f) (omega arith) i)
  before_last n (g ∷ fs) f (one_more i is) = let rest = before_last (suc n) fs f is in (one_more i rest.0, subst (λ k. Is_file seen k f) (omega arith) rest.1)

  onward : (file : Text) {fs : List Source_file} {ps : List Text} → Reading file fs ps → Are_files seen 1 fs → length fs ≤ 256 → Onward [] (file ∷ []) fs ps
  onward file at_first are few = here
  onward file (is_known r e) are few = then_skips (onward file r are few) e
  onward file (is_read {fs = fs} {ps = ps} f r n) are few =
      let parts = before_last 1 fs f are in
      let long = length-append fs (f ∷ []) in
      then_takes (onward file r parts.0 (omega (arith, few, long))) f (record { path = refl; unknown = n; few = omega (arith, few, long); file = subst (λ k. Is_file seen k f) (omega arith) parts.1 })

  -- of two that begin alike one leads to the other
  compared : {start fs gs : List Source_file} {bs ps qs : List Text} → Onward start bs fs ps → Onward start bs gs qs → Onward fs ps gs qs ⊎ Onward gs qs fs ps
  compared here o = inl o
  compared (skips e o) here = inr (skips e o)
  compared (skips e o) (skips d m) = compared o m
  compared (skips e o) (takes g n m) = none_or_some n.unknown e
  compared (takes f n o) here = inr (takes f n o)
  compared (takes f n o) (skips e m) = none_or_some n.unknown e
  compared {start = start} {gs = gs} {qs = qs} (takes {ps = rest} f n o) (takes g k m) =
      compared o (subst (λ h. Onward (start ++ h ∷ []) (imported_paths h ++ rest) gs qs) (sym (one_file (suc (length start)) f g (n.path ∙ sym k.path) n.file k.file)) m)

  -- ---- ends

  abbrev pub No_more : List Source_file → Text → Type 0
  No_more fs p = (f : Source_file) → May_be fs p f → ⊥

  end_is : {fs gs : List Source_file} {qs : List Text} → Onward fs [] gs qs → (fs ≡ gs) × (qs ≡ [])
  end_is here = (refl, refl)

  stop_is : {fs gs : List Source_file} {p : Text} {ps qs : List Text} → file_number fs p ≡ None → No_more fs p → Onward fs (p ∷ ps) gs qs → (fs ≡ gs) × (qs ≡ p ∷ ps)
  stop_is unknown none here = (refl, refl)
  stop_is unknown none (skips e o) = none_or_some unknown e
  stop_is unknown none (takes f m o) = absurd (none f m)

  nothing_left : {A : Type 0} (p : Text) (ps : List Text) → [] ≡ p ∷ ps → A
  nothing_left p ps e = absurd (let z : ◌≡◌ {A = List Text} [] (p ∷ ps) = e in cc)

  pub all_alike : (file : Text) (fs gs : List Source_file) → Are_read seen file fs → Are_read seen file gs → fs ≡ gs
  all_alike file fs gs a b = by (compared (onward file a.read a.files a.few) (onward file b.read b.files b.few))
    where
      by : Onward fs [] gs [] ⊎ Onward gs [] fs [] → fs ≡ gs
      by (inl o) = (end_is o).0
      by (inr o) = sym (end_is o).0

  pub no_stop : (file : Text) (fs before : List Source_file) (path : Text) → Are_read seen file fs → Are_files seen 1 before → length before ≤ 256 → Is_next file before path → No_more before path → ⊥
  no_stop file fs before path a are few next none = by (compared (onward file a.read a.files a.few) (onward file next.reading are few))
    where
      by : Onward fs [] before (path ∷ next.others) ⊎ Onward before (path ∷ next.others) fs [] → ⊥
      by (inl o) = nothing_left path next.others (sym (end_is o).1)
      by (inr o) = nothing_left path next.others (stop_is next.unknown none o).1

  -- two stops are one
  pub one_stop : (file : Text) (before others : List Source_file) (path other : Text) → Are_files seen 1 before → length before ≤ 256 → Is_next file before path → No_more before path
      → Are_files seen 1 others → length others ≤ 256 → Is_next file others other → No_more others other → (before ≡ others) × (path ≡ other)
  one_stop file before others path other a f n none b g m nothing = by (compared (onward file n.reading a f) (onward file m.reading b g))
    where
      same_first : (p q : Text) (ps qs : List Text) → p ∷ ps ≡ q ∷ qs → p ≡ q
      same_first p q ps qs e = cc

      by : Onward before (path ∷ n.others) others (other ∷ m.others) ⊎ Onward others (other ∷ m.others) before (path ∷ n.others) → (before ≡ others) × (path ≡ other)
      by (inl o) = let e = stop_is n.unknown none o in (e.0, sym (same_first other path m.others n.others e.1))
      by (inr o) = let e = stop_is m.unknown nothing o in (sym e.0, same_first path other n.others m.others e.1)

  -- ---- why reading ends

  module _ (new : LoaderSeen) (fs : List Source_file) (path : Text) where
    not_long : LoadOver seen new path → No_more fs path
    not_long over f m = too_long (file_at told path) (subst (λ o. IfSome o (λ (all : List (Text × Text)). IsSomeAnd (file_at all path) (λ text. 4194304 < length text))) is over.long) (ap (file_at told) (sym m.path) ∙ told_text seen seen told f.path m.file.text is m.file.loaded)
      where
        too_long : (o : Option Text) → IsSomeAnd o (λ text. 4194304 < length text) → o ≡ Some m.file.text → ⊥
        too_long (Some text) long e = let short = m.file.loaded.short in let same = ap length (some_same refl e) in omega (arith, long, short, same)
        too_long None long e = none_or_some refl e

    not_refused : (err : LexErr) → Has_text seen new path (λ text. RefusesText (suc (length fs)) text err) → No_more fs path
    not_refused err h f m = one_reading.not_both (suc (length fs)) h.text m.file.tokens err (same_tokens new (suc (length fs)) path h.text f m.path m.file h.loaded) h.holds

    these_tokens : (P : List Token → Type 0) → Has_text seen new path (λ text. (tokens : List Token) × HasTokens (suc (length fs)) text tokens × P tokens) → (f : Source_file) → (m : May_be fs path f) → P m.file.tokens
    these_tokens P h f m = subst P (one_reading.one_list (suc (length fs)) h.text h.holds.0 m.file.tokens h.holds.1 (same_tokens new (suc (length fs)) path h.text f m.path m.file h.loaded)) h.holds.2

    spelled : (tokens : List Token) (program : Program) (err : ParseErr) → Spells tokens program → Unspelled (suc (length fs)) tokens err → ⊥
    spelled tokens program (parse.Syntax place) s u = u.none program s.height s.derives
    spelled tokens program (parse.LeftOut place what) s u = u.none program s.height s.derives
    spelled tokens program (parse.TooDeep place) s u = let deep = u.deep program s.height s.derives in let low = s.nested in omega (arith, deep, low)
    spelled tokens program parse.Memory s u = u

    pub ends_here : (why : Unread) → Is_unread seen new (suc (length fs)) path why → Is_outside why ⊎ No_more fs path
    ends_here unread.Load u = inl (inl refl)
    ends_here unread.TooLong u = inr (not_long u)
    ends_here (unread.Lex lex.Memory) u = absurd u
    ends_here (unread.Lex (lex.NotUtf8 at)) u = inr (not_refused (lex.NotUtf8 at) u)
    ends_here (unread.Lex (lex.BadToken at)) u = inr (not_refused (lex.BadToken at) u)
    ends_here (unread.Lex (lex.Float at)) u = inr (not_refused (lex.Float at) u)
    ends_here (unread.Parse err) u = inr (λ f m. spelled m.file.tokens f.program err m.file.spelled (these_tokens (λ ts. Unspelled (suc (length fs)) ts err) u f m))
    ends_here (unread.NotBuilt at) u = inr (λ f m. let b = these_tokens (λ ts. Is_unbuilt ts at) u f m in none_or_some m.file.built b.unbuilt)
    ends_here unread.TooMany u = inr (λ f m. let full = u.0 in let few = m.few in omega (arith, full, few))
    ends_here unread.Memory u = inl (inr refl)

  pub none_stops : (file : Text) (fs : List Source_file) → Are_read seen file fs → (new : LoaderSeen) (path : Text) (why : Unread) → Stops file seen new path why → Is_outside why
  none_stops file fs a new path why s = by (ends_here new s.before path why s.unread)
    where
      by : Is_outside why ⊎ No_more s.before path → Is_outside why
      by (inl out) = out
      by (inr none) = absurd (no_stop file fs s.before path a s.files (few_before seen new path s.before why s.few s.unread) s.next none)

pub read_once : ReadOnce
read_once seen told is file fs others a b = all_alike seen told is file fs others a b

pub read_or_stopped : ReadOrStopped
read_or_stopped seen told is file fs a new path why s = none_stops seen told is file fs a new path why s
