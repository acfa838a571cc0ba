-- The stages that read the files of a program come to one end.
use Rattle.std.proofs.Common.{◌≡◌, ◌≤◌, ◌<◌, ℕ, zero, suc, ◌+◌, List, [], ◌∷◌, length, Result, Ok, Err, Option, None, Some, IfSome, refl, sym, ap, subst, ◌∙◌, arith, inl, inr, ◌⊎◌}
use Rattle.std.specs.Prelude.{IsSomeAnd}
use Rattle.std.specs.List.{range_with_len}
use Rattle.fut_ast.specs.Sorts.{Text}
use Rattle.fut_ast.specs.Grammar.{Derives}
use Rattle.fut_ast.specs.declared.module.Program.{Program}
use Rattle.fut_scalar.specs.declared.place.Place.{Place}
use Rattle.fut_token.specs.declared.token.Token.{Token}
use Rattle.fut_io.specs.Outside.{Loaded, LoaderSeen, file_at}
use Rattle.fut_lexer.specs.Lexing.{HasTokens, RefusesText}
use Rattle.fut_lexer.specs.declared.lexer.LexErr.{LexErr}
use Rattle.fut_lexer.specs.declared.lexer.LexErr.TheVariants as lex
use Rattle.fut_lexer.proofs.Readings.{one_reading}
use Rattle.fut_parser.specs.declared.programs.ParseErr.{ParseErr}
use Rattle.fut_parser.specs.declared.programs.ParseErr.TheVariants as parse
use Rattle.elab_scopes.specs.Imports.{Source_file}
use Rattle.file_order.specs.Order.{First_cycle}
use Rattle.file_order.proofs.Order.{one_first_cycle}
use Rattle.source_files.specs.Files.{Are_files, Are_read, Has_text, Is_file, Is_unread, Spells, Stops, Unspelled, no_more, one_more}
use Rattle.source_files.specs.Claims.{Is_outside}
use Rattle.source_files.specs.declared.reading.Unread.{Unread}
use Rattle.source_files.specs.declared.reading.Unread.TheVariants as unread
use Rattle.source_files.proofs.One.{May_be, No_more, few_before, no_stop, none_stops, one_stop, read_once, told_text, ends_here}
use Rattle.unbuilt_tokens.specs.Unbuilt.{first_unbuilt}
use Rattle.front.specs.Acceptance.{Acyclic, IsPrelude, path_of_file, prelude_of}
use Rattle.front.proofs.Answering.{prelude_once, within}
use Rattle.futhark_status.specs.declared.status.LimitKind.TheVariants as limit
use Rattle.futhark_status.specs.declared.status.Why.TheVariants as why
use Rattle.futhark_status.specs.declared.status.Status.{Status}
use Rattle.futhark_status.specs.declared.status.Status.TheVariants.{Limit}
use Rattle.futhark_core.specs.Row.{status_for}
use Rattle.futhark_core.specs.Comes.{FilesRead, Is_program, ParserRefusal, Reading_refused, Stage, Text_refused, Tokens_refused, Uncycled, no_program, no_tokens, told_by, unbuilt}
use Rattle.futhark_core.proofs.Settling.{EndsAs, Holds, Settles, some_same}

-- ---- what is told of files hangs on the files alone

moved_files : (told : List (List ℕ × List ℕ)) (seen other : LoaderSeen) → seen.files ≡ Some told → other.files ≡ Some told → (n : ℕ) (fs : List Source_file) → Are_files seen n fs → Are_files other n fs
moved_files told seen other is so n [] no_more = no_more
moved_files told seen other is so n (f ∷ fs) (one_more i rest) = one_more (record {
  text = i.text;
  loaded = record { file = subst (λ o. IfSome o (λ (all : List (List ℕ × List ℕ)). file_at all f.path ≡ Some i.text)) (sym so) (told_text seen seen told f.path i.text is i.loaded); short = i.loaded.short; same = refl };
  tokens = i.tokens;
  lexed = i.lexed;
  spelled = i.spelled;
  built = i.built;
}) (moved_files told seen other is so (suc n) fs rest)

pub moved : (told : List (List ℕ × List ℕ)) (seen : LoaderSeen) → seen.files ≡ Some told → (file : Text) (fs : List Source_file) → Are_read seen file fs → Are_read (told_by told) file fs
moved told seen is file fs a = record { read = a.read; files = moved_files told seen (told_by told) is refl 1 fs a.files; few = a.few }

back : (told : List (List ℕ × List ℕ)) (seen : LoaderSeen) → seen.files ≡ Some told → (file : Text) (fs : List Source_file) → Are_read (told_by told) file fs → Are_read seen file fs
back told seen is file fs a = record { read = a.read; files = moved_files told (told_by told) seen refl is 1 fs a.files; few = a.few }

module _ (files : List (List ℕ × List ℕ)) (seen : LoaderSeen) (is : seen.files ≡ Some files) where
  module _ (fs : List Source_file) (path text : List ℕ) (at : file_at files path ≡ Some text) (f : Source_file) (m : May_be seen files is fs path f) where
    same_text : text ≡ m.file.text
    same_text = some_same text m.file.text (sym at ∙ ap (file_at files) (sym m.path) ∙ told_text seen seen files f.path m.file.text is m.file.loaded)

    same_tokens : (tokens : List Token) → HasTokens (suc (length fs)) text tokens → tokens ≡ m.file.tokens
    same_tokens tokens has = one_reading.one_list (suc (length fs)) m.file.text tokens m.file.tokens (subst (λ t. HasTokens (suc (length fs)) t tokens) same_text has) m.file.lexed

    no_tokens_here : (status : Status) → Tokens_refused (suc (length fs)) path text status → ⊥
    no_tokens_here status (no_tokens err r e) = one_reading.not_both (suc (length fs)) m.file.text m.file.tokens err m.file.lexed (subst (λ t. RefusesText (suc (length fs)) t err) same_text r)
    no_tokens_here status (no_program tokens has none e) = none (subst Is_program (sym (same_tokens tokens has)) (f.program, m.file.spelled.height, m.file.spelled.nested, m.file.spelled.derives))
    no_tokens_here status (unbuilt tokens place has program first e) = let built = ap first_unbuilt (same_tokens tokens has) ∙ m.file.built in absurd (let z : ◌≡◌ {A = Option Place} (Some place) None = sym first ∙ built in cc)

    no_such : (status : Status) → Text_refused (suc (length fs)) path text status → ⊥
    no_such status (inl r) = let short = m.file.loaded.short in let same = ap length same_text in let long = r.0 in omega (arith, long, short, same)
    no_such status (inr r) = no_tokens_here status r.1

  -- where reading ends no file may be read
  none_more : (fs : List Source_file) (path : List ℕ) (status : Status) → Reading_refused files (suc (length fs)) path status → No_more seen files is fs path
  none_more fs path status (inl r) f m = let few = m.few in let full = r.0 in omega (arith, few, full)
  none_more fs path status (inr r) f m = no_such fs path r.1 r.2 f m status r.3

-- ---- all files are read

module _ (files : List (List ℕ × List ℕ)) (file : List ℕ) where
  abbrev seen : LoaderSeen
  seen = told_by files

  pub read_ok : (fs : List Source_file) → Are_read (told_by files) file fs → Settles (FilesRead (Some files) file) (Ok fs)
  read_ok fs read (Ok other) p = ap Ok (read_once seen files refl file other fs p read)
  read_ok fs read (Err status) p = absurd (no_stop seen files refl file fs p.0 p.1 read p.2 p.3 p.4 (none_more files seen refl p.0 p.1 status p.5))

-- ---- reading ends

-- a status agrees with this reason
abbrev pub Ends_so : Unread → List ℕ → Status → Type 0
Ends_so unread.Load path status = Unit {0}
Ends_so unread.TooLong path status = status ≡ Limit limit.FileBytes
Ends_so (unread.Lex err) path status = status ≡ status_for (why.Lex err) path
Ends_so (unread.Parse err) path status = ParserRefusal path status
Ends_so (unread.NotBuilt at) path status = status ≡ status_for (why.NotBuilt at) path
Ends_so unread.TooMany path status = status ≡ Limit limit.Files
Ends_so unread.Memory path status = Unit {0}

module _ (files : List (List ℕ × List ℕ)) (old new : LoaderSeen) (is : old.files ≡ Some files) (number : ℕ) (path : List ℕ) where
  text_told : (text : List ℕ) → Loaded old new path text → file_at files path ≡ Some text
  text_told text l = told_text old new files path text is l

  module _ (status : Status) (text : List ℕ) (at : file_at files path ≡ Some text) where
    short : (body : List ℕ) → Loaded old new path body → text ≡ body
    short body l = some_same text body (sym at ∙ text_told body l)

    these : (body : List ℕ) → Loaded old new path body → (tokens others : List Token) → HasTokens number text tokens → HasTokens number body others → tokens ≡ others
    these body l tokens others has had = one_reading.one_list number body tokens others (subst (λ t. HasTokens number t tokens) (short body l) has) had

    none_spelled : (err : ParseErr) (tokens : List Token) → Unspelled number tokens err → Is_program tokens → ⊥
    none_spelled (parse.Syntax place) tokens u p = u.none p.0 p.1 p.3
    none_spelled (parse.LeftOut place what) tokens u p = u.none p.0 p.1 p.3
    none_spelled (parse.TooDeep place) tokens u p = let deep = u.deep p.0 p.1 p.3 in let low = p.2 in omega (arith, deep, low)
    none_spelled parse.Memory tokens u p = u

    long_ends : IfSome old.files (λ all. IsSomeAnd (file_at all path) (λ t. 4194304 < length t)) → 4194304 < length text
    long_ends over = by (file_at files path) (subst (λ o. IfSome o (λ (all : List (List ℕ × List ℕ)). IsSomeAnd (file_at all path) (λ t. 4194304 < length t))) is over) at
      where
        by : (o : Option (List ℕ)) → IsSomeAnd o (λ t. 4194304 < length t) → o ≡ Some text → 4194304 < length text
        by (Some t) long e = subst (λ x. 4194304 < length x) (some_same t text e) long
        by None long e = absurd (let z : ◌≡◌ {A = Option (List ℕ)} None (Some text) = e in cc)

    spelled_program : (tokens : List Token) (program : Program) → Spells tokens program → Is_program tokens
    spelled_program tokens program s = (program, s.height, s.nested, s.derives)

    too_short : (body : List ℕ) → Loaded old new path body → 4194304 < length text → ⊥
    too_short body l long = let same = ap length (short body l) in let few = l.short in omega (arith, long, few, same)

    -- a text that is refused as it has no tokens
    lexed_ends : (err : LexErr) → Has_text old new path (λ t. RefusesText number t err) → Text_refused number path text status → status ≡ status_for (why.Lex err) path
    lexed_ends err h (inl r) = absurd (too_short h.text h.loaded r.0)
    lexed_ends err h (inr r) = by r.1
      where
        here : RefusesText number text err
        here = subst (λ t. RefusesText number t err) (sym (short h.text h.loaded)) h.holds

        by : Tokens_refused number path text status → status ≡ status_for (why.Lex err) path
        by (no_tokens other r e) = e ∙ ap (λ (x : LexErr). status_for (why.Lex x) path) (one_reading.one_refusal number text other err r here)
        by (no_program tokens has none e) = absurd (one_reading.not_both number text tokens err has here)
        by (unbuilt tokens place has program first e) = absurd (one_reading.not_both number text tokens err has here)

    -- one with tokens
    module _ (body : List ℕ) (l : Loaded old new path body) (tokens : List Token) (has : HasTokens number body tokens) where
      same : (others : List Token) → HasTokens number text others → others ≡ tokens
      same others h = these body l others tokens h has

      not_refused : (err : LexErr) → RefusesText number text err → ⊥
      not_refused err r = one_reading.not_both number text tokens err (subst (λ t. HasTokens number t tokens) (sym (short body l)) has) r

      parsed_ends : (err : ParseErr) → Unspelled number tokens err → Text_refused number path text status → ParserRefusal path status
      parsed_ends err u (inl r) = absurd (too_short body l r.0)
      parsed_ends err u (inr r) = by r.1
        where
          by : Tokens_refused number path text status → ParserRefusal path status
          by (no_tokens other r e) = absurd (not_refused other r)
          by (no_program others h none e) = e
          by (unbuilt others place h program first e) = absurd (none_spelled err tokens u (subst Is_program (same others h) program))

      unbuilt_ends : (at : Place) → Is_program tokens → first_unbuilt tokens ≡ Some at → Text_refused number path text status → status ≡ status_for (why.NotBuilt at) path
      unbuilt_ends at p first (inl r) = absurd (too_short body l r.0)
      unbuilt_ends at p first (inr r) = by r.1
        where
          by : Tokens_refused number path text status → status ≡ status_for (why.NotBuilt at) path
          by (no_tokens other r e) = absurd (not_refused other r)
          by (no_program others h none e) = absurd (none (subst Is_program (sym (same others h)) p))
          by (unbuilt others place h program found e) = e ∙ ap (λ (x : Place). status_for (why.NotBuilt x) path) (some_same place at (sym found ∙ ap first_unbuilt (same others h) ∙ first))

    by_text : (reason : Unread) → Is_unread old new number path reason → number ≤ 256 → Text_refused number path text status → Ends_so reason path status
    by_text unread.Load u few r = tt
    by_text unread.TooLong u few (inl r) = r.1
    by_text unread.TooLong u few (inr r) = let long = long_ends u.long in let low = r.0 in absurd (omega (arith, long, low))
    by_text (unread.Lex lex.Memory) u few r = absurd u
    by_text (unread.Lex (lex.NotUtf8 place)) u few r = lexed_ends (lex.NotUtf8 place) u r
    by_text (unread.Lex (lex.BadToken place)) u few r = lexed_ends (lex.BadToken place) u r
    by_text (unread.Lex (lex.Float place)) u few r = lexed_ends (lex.Float place) u r
    by_text (unread.Parse err) u few r = parsed_ends u.text u.loaded u.holds.0 u.holds.1 err u.holds.2 r
    by_text (unread.NotBuilt place) u few r = unbuilt_ends u.text u.loaded u.holds.0 u.holds.1 place (spelled_program u.holds.0 u.holds.2.program u.holds.2.spelled) u.holds.2.unbuilt r
    by_text unread.TooMany u few r = let full = u.0 in absurd (omega (arith, full, few))
    by_text unread.Memory u few r = tt

-- where reading ends for a reason that files tell, the stage ends with a status that agrees with it
module _ (files : List (List ℕ × List ℕ)) (old new : LoaderSeen) (is : old.files ≡ Some files) (file path : List ℕ) (reason : Unread) (s : Stops file old new path reason) (inside : Is_outside reason → ⊥) where
  no_more_here : No_more old files is s.before path
  no_more_here = by (ends_here old files is new s.before path reason s.unread)
    where
      by : Is_outside reason ⊎ No_more old files is s.before path → No_more old files is s.before path
      by (inl out) = absurd (inside out)
      by (inr none) = none

  agree : (status : Status) → Reading_refused files (suc (length s.before)) path status → Ends_so reason path status
  agree status (inl r) = by s.few
    where
      by : (length s.before < 256) ⊎ (reason ≡ unread.TooMany) → Ends_so reason path status
      by (inl few) = let full = r.0 in absurd (omega (arith, few, full))
      by (inr e) = subst (λ (w : Unread). Ends_so w path status) (sym e) r.1
  agree status (inr r) = by_text files old new is (suc (length s.before)) path status r.1 r.2 reason s.unread r.0 r.3

  pub read_stops : Holds (FilesRead (Some files) file) (EndsAs (Ends_so reason path))
  read_stops (Ok fs) p = absurd (inside (none_stops old files is file fs (back files old is file fs p) new path reason s))
  read_stops (Err status) p =
      let one = one_stop old files is file s.before p.0 path p.1 s.files (few_before old new path s.before reason s.few s.unread) s.next no_more_here (moved_files files (told_by files) old refl is 1 p.0 p.2) p.3 p.4 (none_more files old is p.0 p.1 status p.5) in
      agree status (subst (λ q. Reading_refused files (suc (length s.before)) q status) (sym one.1) (subst (λ b. Reading_refused files (suc (length b)) p.1 status) (sym one.0) p.5))

-- ---- cycles

module _ (sources : List Source_file) (prelude : Program) (is : IsPrelude prelude) where
  here : (other : Program) → IsPrelude other → prelude_of other ∷ sources ≡ prelude_of prelude ∷ sources
  here other also = ap (λ p. prelude_of p ∷ sources) (prelude_once other prelude also is)

  cycle_or_none : (number : ℕ) → First_cycle (prelude_of prelude ∷ sources) number (range_with_len 1 (length sources)) → Acyclic (prelude_of prelude ∷ sources) → ⊥
  cycle_or_none number cycle none = let w = within (prelude_of prelude ∷ sources) number 1 (length sources) cycle in none number w.0 (omega (arith, w.1)) w.2

  pub uncycled_ok : Acyclic (prelude_of prelude ∷ sources) → Settles (Uncycled sources) (Ok sources)
  uncycled_ok none (Ok same) p = ap Ok p.3
  uncycled_ok none (Err status) p = absurd (cycle_or_none p.2 (subst (λ l. First_cycle l p.2 (range_with_len 1 (length sources))) (here p.0 p.1) p.3) none)

  pub uncycled_err : (number : ℕ) → First_cycle (prelude_of prelude ∷ sources) number (range_with_len 1 (length sources)) → Settles (Uncycled sources) (Err (status_for why.ImportCycle (path_of_file sources number)))
  uncycled_err number cycle (Ok same) p = absurd (cycle_or_none number cycle (subst Acyclic (here p.0 p.1) p.2))
  uncycled_err number cycle (Err status) p =
      ap Err (p.4 ∙ ap (λ k. status_for why.ImportCycle (path_of_file sources k)) (one_first_cycle (prelude_of prelude ∷ sources) (range_with_len 1 (length sources)) p.2 number (subst (λ l. First_cycle l p.2 (range_with_len 1 (length sources))) (here p.0 p.1) p.3) cycle))
