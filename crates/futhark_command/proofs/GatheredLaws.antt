-- Words one after another, as they are gathered.
use Rattle.std.proofs.Common.{◌≡◌, ℕ, ◌+◌, zero, suc, Bool, true, false, cond, List, [], ◌∷◌, ◌++◌, drop, refl, sym, ap, ◌∙◌, append_assoc, append-nil}
use Rattle.std.specs.Prelude.{Option, Some, None, IfSome, slice_get}
use Rattle.std.specs.Str.{IsUtf8, is_utf8}
use Rattle.std.proofs.lemmas.List.{drop_more}
use Rattle.std.proofs.lemmas.Option.{get_or_from_slice_get, slice_get_within}
use Rattle.std.proofs.lemmas.Str.{IsUtf8-from_is_utf8, is_utf8-from_IsUtf8}
use Rattle.futhark_command.specs.Call.{bad_word}

abbrev pub WordList : Type 0
WordList = List (List ℕ)

-- what is told begins with what was gathered
abbrev pub Gathered : Option WordList → WordList → ℕ → Type 0
Gathered told names index = IfSome told (λ all. all ≡ names ++ drop index all)

-- no word so far is bad, so that the first bad one stands behind them
abbrev pub TextsUpTo : WordList → ℕ → Type 0
TextsUpTo names index = (rest : WordList) → bad_word 1 (names ++ rest) ≡ bad_word (index + 1) rest

none_left : (all : WordList) (index : ℕ) → slice_get all index ≡ None → drop index all ≡ []
none_left [] zero e = refl
none_left [] (suc index) e = refl
none_left (w ∷ all) zero e = absurd cc
none_left (w ∷ all) (suc index) e = none_left all index e

next_left : (all : WordList) (index : ℕ) (word : List ℕ) → slice_get all index ≡ Some word → drop index all ≡ word ∷ drop (index + 1) all
next_left all index word e =
    drop_more all index word (slice_get_within all index word e)
    ∙ ap (λ (x : List ℕ). x ∷ drop (index + 1) all) (get_or_from_slice_get all index word word e)

pub all_gathered : (told : Option WordList) (names : WordList) (index : ℕ) → Gathered told names index → IfSome told (λ all. slice_get all index ≡ None) → IfSome told (λ all. all ≡ names)
all_gathered None names index so_far none = tt
all_gathered (Some all) names index so_far none = so_far ∙ ap (λ (rest : WordList). names ++ rest) (none_left all index none) ∙ append-nil names

pub no_bad : (names : WordList) (index : ℕ) → TextsUpTo names index → bad_word 1 names ≡ None
no_bad names index texts = ap (bad_word 1) (sym (append-nil names)) ∙ texts []

pub one_more : (told : Option WordList) (names : WordList) (index : ℕ) (word : List ℕ) → Gathered told names index → IfSome told (λ all. slice_get all index ≡ Some word) →
    Gathered told (names ++ word ∷ []) (index + 1)
one_more None names index word so_far next = tt
one_more (Some all) names index word so_far next =
    so_far ∙ ap (λ (rest : WordList). names ++ rest) (next_left all index word next) ∙ sym (append_assoc names (word ∷ []) (drop (index + 1) all))

pub one_text : (names : WordList) (index : ℕ) (word : List ℕ) → TextsUpTo names index → IsUtf8 word → TextsUpTo (names ++ word ∷ []) (index + 1)
one_text names index word texts good rest =
    ap (bad_word 1) (append_assoc names (word ∷ []) rest) ∙ texts (word ∷ rest)
    ∙ ap (λ (b : Bool). cond b (bad_word (index + 1 + 1) rest) (Some (index + 1))) (is_utf8-from_IsUtf8 word good)

no_text : (word : List ℕ) (b : Bool) → is_utf8 word ≡ b → (IsUtf8 word → ⊥) → b ≡ false
no_text word true e bad = absurd (bad (IsUtf8-from_is_utf8 word e))
no_text word false e bad = refl

pub first_bad : (told : Option WordList) (names : WordList) (index : ℕ) (word : List ℕ) → Gathered told names index → TextsUpTo names index →
    IfSome told (λ all. slice_get all index ≡ Some word) → (IsUtf8 word → ⊥) → IfSome told (λ all. bad_word 1 all ≡ Some (index + 1))
first_bad None names index word so_far texts next bad = tt
first_bad (Some all) names index word so_far texts next bad =
    ap (bad_word 1) (so_far ∙ ap (λ (rest : WordList). names ++ rest) (next_left all index word next)) ∙ texts (word ∷ drop (index + 1) all)
    ∙ ap (λ (b : Bool). cond b (bad_word (index + 1 + 1) (drop (index + 1) all)) (Some (index + 1))) (no_text word (is_utf8 word) refl bad)
