-- Paths put before others, the last one first, and a file put behind others.
use Rattle.std.proofs.Common.{◌≡◌, ℕ, ◌+◌, ◌≤◌, List, [], ◌∷◌, ◌++◌, map, flat_map, length, drop, reverse, slice_index_or, Result, Ok, Err, OnOk, refl, sym, ap, ◌∙◌, arith}
use Rattle.std.specs.Borrow.{Bor}
use Rattle.std.proofs.lemmas.List.{map-append}
use Rattle.std.proofs.lemmas.Result.{on_ok_weaker}
use Rattle.std.proofs.Math.ListN.{drop_of_length-le}
use Rattle.fut_ast.specs.Sorts.{Text}
use Rattle.fut_ast.specs.declared.module.Dec.{Dec}
use Rattle.fut_tree.specs.Names.{names}
use Rattle.elab_scopes.specs.Imports.{Source_file, imported_path}
use Rattle.file_order.specs.Order.{imported_texts}
use Rattle.file_imports.specs.Texts.{decs_texts}
use Rattle.module_state.specs.Written.{file_of, files_of}
use Rattle.module_state.specs.declared.written.SourceFile.{SourceFile}
use Rattle.source_files.specs.Reading.{imported_paths}
use Rattle.source_files.proofs.Finding.{from_index, newest_more}

-- ---- paths

pub put_first : {E : Type 0} (r : Result (Unit {0}) E) (old new : List (Bor Text)) (p : Bor Text) (t : Text) → p.now ≡ t → OnOk r (new ≡ old ++ p ∷ []) → OnOk r (reverse (names new) ≡ t ∷ reverse (names old))
put_first r old new p t is = on_ok_weaker r (λ e. ap (λ l. reverse (names l)) e ∙ newest_more old p ∙ ap (λ x. x ∷ reverse (names old)) is)

pub all_left : (from : Text) (ts : List (Bor Text)) (old : List Text) → old ≡ map (imported_path from) (names (drop (length ts) ts)) ++ old
all_left from ts old = ap (λ l. map (imported_path from) (names l) ++ old) (sym (drop_of_length-le ts (omega arith)))

pub one_put : (from : Text) (ts : List (Bor Text)) (left less : ℕ) (d : Bor Text) (all more old : List Text) → less + 1 ≡ left → left ≤ length ts → all ≡ map (imported_path from) (names (drop left ts)) ++ old → more ≡ imported_path from (slice_index_or ts less d).now ∷ all
    → more ≡ map (imported_path from) (names (drop less ts)) ++ old
one_put from ts left less d all more old one le e is = is ∙ ap (λ l. imported_path from (slice_index_or ts less d).now ∷ l) (e ∙ ap (λ n. map (imported_path from) (names (drop n ts)) ++ old) (sym one))
    ∙ ap (λ l. map (imported_path from) (names l) ++ old) (sym (from_index ts less d (omega (arith, one, le))))

pub ruleset puts = (all_left, one_put)

pub texts_are : (ds : List Dec) → decs_texts ds ≡ flat_map imported_texts ds
texts_are [] = refl
texts_are (d ∷ ds) = ap (λ l. imported_texts d ++ l) (texts_are ds)

pub put_all : {E : Type 0} (r : Result (Unit {0}) E) (f : Source_file) (ts : List (Bor Text)) (old new : List Text) → names ts ≡ decs_texts f.program.decs → OnOk r (new ≡ map (imported_path f.path) (names ts) ++ old) → OnOk r (new ≡ imported_paths f ++ old)
put_all r f ts old new is = on_ok_weaker r (λ e. e ∙ ap (λ l. map (imported_path f.path) l ++ old) (is ∙ texts_are f.program.decs))

-- ---- files

pub file_put : {E : Type 0} (r : Result (Unit {0}) E) (old new : List SourceFile) (f : SourceFile) → new ≡ old ++ f ∷ [] → OnOk r (files_of new ≡ files_of old ++ file_of f ∷ [])
file_put (Ok x) old new f e = ap files_of e ∙ map-append file_of old (f ∷ [])
file_put (Err e) old new f is = tt
