-- Names that are sizes.
use Rattle.std.proofs.Common.{◌≡◌, ℕ, ◌+◌, ◌<◌, ◌≤◌, List, [], ◌∷◌, map, length, get_or, drop, Bool, true, false, Result, Ok, Err, refl, sym, ap, ◌∙◌, subst}
use Rattle.std.specs.Prelude.{IfOk}
use Rattle.std.specs.Borrow.{Bor}
use Rattle.fut_scalar.specs.declared.memory.NoMemory.{NoMemory}
use Rattle.fut_scalar.specs.declared.place.BindId.{BindId}
use Rattle.fut_scalar.specs.declared.place.Place.{Place}
use Rattle.fut_flat.specs.declared.act.Act.{Act}
use Rattle.fut_flat.specs.declared.exp.Exp.{Exp}
use Rattle.fut_flat.specs.declared.exp.Form.TheVariants as form
use Rattle.fut_flat.specs.declared.exp.Let.{Let as LetTree}
use Rattle.fut_flat.specs.declared.exp.Loop.{Loop as LoopTree}
use Rattle.fut_flat.specs.declared.pat.Pat.{Pat}
use Rattle.fut_flat.specs.declared.prim.Ref.{Ref}
use Rattle.fut_flat.specs.Terms.{Use, Strict, Lambda, Apply, Let, If, Loop}
use Rattle.fut_flat.specs.Erased.{FlatTerm, lets, term_of}
use Rattle.fut_flat.proofs.ErasedForms.{loop_is, row_of, term_apply, term_if, term_lambda, term_lets, term_loop, term_strict, term_use}
use Rattle.fut_sizes.specs.Scopes.{Scope, i64_size, with_name, with_size_names}
use Rattle.fut_sizes.specs.Sizing.{bind_ids, has_parameters, none_left, with_head}
use Rattle.fut_scalar.specs.declared.scalar.IntType.TheVariants as int
use Rattle.fut_scalar.specs.declared.scalar.ScalarType.TheVariants as scalar
use Rattle.fut_types.specs.declared.Head.TheVariants as heads_of
use Rattle.fut_types.specs.Types.{Sub}
use Rattle.sized_types.specs.Sizes.{Size, Built}
use Rattle.fut_typing.specs.Names.{Names}
use Rattle.size_arena.specs.declared.agreeing.Refusal.TheVariants as refusal
use Rattle.size_arena.specs.declared.agreeing.SizeErr.{SizeErr}
use Rattle.size_arena.specs.declared.agreeing.SizeErr.TheVariants as size_err
use Rattle.size_arena.specs.Trees.{sizes_of}
use Rattle.size_arena.proofs.Parts.{drop_past, parts_none}
use Rattle.size_program.specs.declared.maps.NumberMap.{NumberMap}
use Rattle.size_program.specs.Answers.{Answers, answers, refuses}
use Rattle.size_program.specs.Tables.{In_scope}
use Rattle.size_patterns.specs.Heads.{Done, with_numbers}
use Rattle.size_patterns.proofs.Chains.{Reaches, reach_start}
use Rattle.size_patterns.proofs.PatternForms.{one_more}

pub one_size : (t : Size) → t ≡ Built (heads_of.Scalar (scalar.Int int.I64)) (sizes_of []) → t ≡ i64_size
one_size t e = e ∙ ap (Built (heads_of.Scalar (scalar.Int int.I64))) parts_none

pub ruleset sizes = (one_size)

-- ---- one name after another

-- the first i are known
abbrev pub Numbers_known : NumberMap → List ℕ → ℕ → NumberMap → Type 0
Numbers_known before bs i now = (scope : Scope) → In_scope before scope → Reaches (In_scope now) (with_numbers bs scope) (with_numbers (drop i bs))

pub none_known : (before : NumberMap) (bs : List ℕ) → Numbers_known before bs 0 before
none_known before bs scope h = reach_start (In_scope before) (with_numbers bs) scope h

module _ (before : NumberMap) (bs : List ℕ) (i : ℕ) (now : NumberMap) (h : Numbers_known before bs i now) where
  pub one_known : (next : NumberMap) → i < length bs → ((scope : Scope) → In_scope now scope → In_scope next (with_name (get_or bs i 0) i64_size scope)) → Numbers_known before bs (i + 1) next
  one_known next l one scope known = let r = h scope known in record {
    now = with_name (get_or bs i 0) i64_size r.now;
    here = one r.now r.here;
    same = r.same ∙ ap (λ z. with_numbers z r.now) (one_more bs i 0 l);
  }

  pub all_known : (scope : Scope) → length bs ≤ i → In_scope before scope → In_scope now (with_numbers bs scope)
  all_known scope l known = let r = h scope known in subst (In_scope now) (sym (r.same ∙ ap (λ z. with_numbers z r.now) (drop_past bs i l))) r.here

-- ---- the same by other names

head_same : (N : Names) (types : Sub) (bs : List ℕ) (scope : Scope) → with_numbers bs scope ≡ with_head N types bs scope
head_same N types [] scope = refl
head_same N types (b ∷ bs) scope = head_same N types bs (with_name b i64_size scope)

sizes_same : (bs : List BindId) (scope : Scope) → with_numbers (bind_ids bs) scope ≡ with_size_names bs scope
sizes_same [] scope = refl
sizes_same (b ∷ bs) scope = sizes_same bs (with_name b.0 i64_size scope)

abbrev pub Made : Type 0
Made = Result (Bor NumberMap) NoMemory

pub head_known : (before : NumberMap) (bs : List ℕ) (r : Made) → ((scope : Scope) → In_scope before scope → IfOk r (λ made. In_scope made.now (with_numbers bs scope)))
    → (N : Names) (types : Sub) (scope : Scope) → In_scope before scope → IfOk r (λ made. In_scope made.now (with_head N types bs scope))
head_known before bs r h N types scope known = subst (λ z. IfOk r (λ made. In_scope made.now z)) (head_same N types bs scope) (h scope known)

pub ruleset heads = (head_known)

pub sizes_known : (before : NumberMap) (bs : List BindId) (numbers : List ℕ) (r : Made) → numbers ≡ bind_ids bs → ((scope : Scope) → In_scope before scope → IfOk r (λ made. In_scope made.now (with_numbers numbers scope)))
    → (scope : Scope) → In_scope before scope → IfOk r (λ made. In_scope made.now (with_size_names bs scope))
sizes_known before bs numbers r e h scope known = subst (λ z. IfOk r (λ made. In_scope made.now z)) (ap (λ z. with_numbers z scope) e ∙ sizes_same bs scope) (h scope known)

-- ---- the size names of a head have parameters

abbrev is_lambda : FlatTerm → Bool
is_lambda (Lambda ps e) = true
is_lambda e = false

module _ (N : Names) (types : Sub) (bs : List ℕ) (n : ℕ) where
  pub no_name_left : length bs ≡ 0 → Answers Done (none_left N types n bs) (Ok tt)
  no_name_left = by_names bs
    where
      by_names : (bs : List ℕ) → length bs ≡ 0 → Answers Done (none_left N types n bs) (Ok tt)
      by_names [] e = answers refl refl
      by_names (b ∷ bs) e = cc

  pub name_left : (length bs ≡ 0 → ⊥) → Answers Done (none_left N types n bs) (Err (size_err.Refused (refusal.Escapes n)))
  name_left = by_names bs
    where
      by_names : (bs : List ℕ) → (length bs ≡ 0 → ⊥) → Answers Done (none_left N types n bs) (Err (size_err.Refused (refusal.Escapes n)))
      by_names [] ne = elim (ne refl) [ ]
      by_names (b ∷ bs) ne = refuses refl

  otherwise : (t : FlatTerm) → is_lambda t ≡ false → none_left N types n bs ≡ has_parameters N types bs t n
  otherwise (Use r at k) e = refl
  otherwise (Strict o mark ts) e = refl
  otherwise (Lambda ps b) e = cc
  otherwise (Apply f a) e = refl
  otherwise (Let b v c) e = refl
  otherwise (If c a b) e = refl
  otherwise (Loop mark sizes p first turns body) e = refl

  module _ (e : Exp) where
    abbrev pub Has_so : Result (Unit {0}) SizeErr → Type 0
    Has_so r = Answers Done (has_parameters N types bs (term_of e) n) r

    pub lambda_has : (ps : Bor (List Pat)) (b : Bor Exp) → e.form ≡ form.Lambda ps b → Has_so (Ok tt)
    lambda_has ps b is = subst (λ z. Answers Done (has_parameters N types bs z n) (Ok tt)) (sym (term_lambda e ps b is)) (answers refl refl)

    module _ (r : Result (Unit {0}) SizeErr) where
      other_has : (t : FlatTerm) → term_of e ≡ t → is_lambda t ≡ false → Answers Done (none_left N types n bs) r → Has_so r
      other_has t is so h = subst (λ z. Answers Done z r) (otherwise t so ∙ ap (λ z. has_parameters N types bs z n) (sym is)) h

      pub empty_row_has : (ls : Bor (List LetTree)) (b : Bor Exp) → e.form ≡ form.Lets ls b → length ls.now ≡ 0 → Answers Done (has_parameters N types bs (term_of b.now) n) r → Has_so r
      unfolding lets
      empty_row_has ls b is none h = subst (λ z. Answers Done (has_parameters N types bs z n) r) (sym (term_lets e ls b is ∙ by_row ls.now none)) h
        where
          by_row : (ls : List LetTree) → length ls ≡ 0 → lets (map row_of ls) (term_of b.now) ≡ term_of b.now
          by_row [] none = refl
          by_row (l ∷ ls) none = cc

      pub row_has : (ls : Bor (List LetTree)) (b : Bor Exp) → e.form ≡ form.Lets ls b → (length ls.now ≡ 0 → ⊥) → Answers Done (none_left N types n bs) r → Has_so r
      unfolding lets
      row_has ls b is some h = other_has _ (term_lets e ls b is) (by_row ls.now some) h
        where
          by_row : (ls : List LetTree) → (length ls ≡ 0 → ⊥) → is_lambda (lets (map row_of ls) (term_of b.now)) ≡ false
          by_row [] ne = elim (ne refl) [ ]
          by_row (l ∷ ls) ne = refl

      pub use_has : (u : Ref) (k : ℕ) → e.form ≡ form.Use u k → Answers Done (none_left N types n bs) r → Has_so r
      use_has u k is h = other_has _ (term_use e u k is) refl h

      pub strict_has : (a : Act) (mark : Place) (es : Bor (List Exp)) → e.form ≡ form.Strict a mark es → Answers Done (none_left N types n bs) r → Has_so r
      strict_has a mark es is h = other_has _ (term_strict e a mark es is) refl h

      pub apply_has : (f a : Bor Exp) → e.form ≡ form.Apply f a → Answers Done (none_left N types n bs) r → Has_so r
      apply_has f a is h = other_has _ (term_apply e f a is) refl h

      pub if_has : (c a b : Bor Exp) → e.form ≡ form.If c a b → Answers Done (none_left N types n bs) r → Has_so r
      if_has c a b is h = other_has _ (term_if e c a b is) refl h

      pub loop_has : (l : Bor LoopTree) → e.form ≡ form.Loop l → Answers Done (none_left N types n bs) r → Has_so r
      loop_has l is h = other_has _ (term_loop e l is ∙ loop_is l.now) refl h

pub ruleset lefts = (no_name_left, name_left)

pub ruleset has = (lambda_has, empty_row_has, row_has, use_has, strict_has, apply_has, if_has, loop_has)
