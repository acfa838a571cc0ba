-- What is found when names come in scope and go out of it.
use Rattle.std.proofs.Common.{◌≡◌, ℕ, ◌-◌, ◌≤◌, ◌<◌, Bool, true, false, not, cond, List, [], ◌∷◌, ◌++◌, length, map, reverse, take, Option, None, Some, refl, sym, ◌∙◌, ap, arith}
use Rattle.std.specs.Str.{bytes_eq}
use Rattle.std.proofs.lemmas.Slice.Eq.{bytes_eq-Decides}
use Rattle.std.proofs.lemmas.List.{map-append, reverse-append, take_at, take_all, take-take, length-take, length_push}
use Rattle.fut_ast.specs.Sorts.{Text}
use Rattle.fut_scalar.specs.declared.place.BindId.{BindId}
use Rattle.elab_scopes.specs.declared.newest.Newest.{Newest}
use Rattle.elab_scopes.specs.declared.scope.Layer.{Layer}
use Rattle.elab_scopes.specs.declared.table.Entry.{Entry as HeldEntry}
use Rattle.elab_scopes.specs.Scopes.{Scope, a_value, a_type, value_in, type_in}
use Rattle.elab_scopes.specs.Table.{entry_of, entries_of}
use Rattle.elab_scopes.specs.Hiding.{newest, Sets, Keeps, in_space, scope_in, Hides, Ties}

-- ---- one more name

space_more : (b : Bool) (x : Text) (n : BindId) (sc : Scope) (y : Text) → in_space (cond b (a_type x n) (a_value x n) ∷ sc) b y ≡ cond (bytes_eq x y) (Some n) (in_space sc b y)
unfolding value_in type_in
space_more true x n sc y = refl
space_more false x n sc y = refl

space_other : (b : Bool) (x : Text) (n : BindId) (sc : Scope) (y : Text) → in_space (cond b (a_type x n) (a_value x n) ∷ sc) (not b) y ≡ in_space sc (not b) y
unfolding value_in type_in
space_other true x n sc y = refl
space_other false x n sc y = refl

both : (P : Bool → Type 0) (p : Bool) → P p → P (not p) → (b : Bool) → P b
both P true h k true = h
both P true h k false = k
both P false h k true = k
both P false h k false = h

last_first : (ls : List Layer) (l : Layer) → reverse (ls ++ l ∷ []) ≡ l ∷ reverse ls
last_first ls l = reverse-append ls (l ∷ [])

-- what is found, with the newest layer first
Finds : List Layer → Newest → Type 0
Finds ls t = (is_type : Bool) (y : Text) → newest t is_type y ≡ in_space (scope_in ls) is_type y

finds_more : (ls : List Layer) (l : Layer) (s t : Newest) → Finds ls s → Sets s l.entry.is_type l.entry.name.now (Some l.entry.bind) t → Finds (l ∷ ls) t
unfolding Finds Sets
finds_more ls l s t finds (here, there) = both (λ p. (y : Text) → newest t p y ≡ in_space (scope_in (l ∷ ls)) p y) l.entry.is_type
    (λ y. here y ∙ ap (cond (bytes_eq l.entry.name.now y) (Some l.entry.bind)) (finds l.entry.is_type y) ∙ sym (space_more l.entry.is_type l.entry.name.now l.entry.bind (scope_in ls) y))
    (λ y. there y ∙ finds (not l.entry.is_type) y ∙ sym (space_other l.entry.is_type l.entry.name.now l.entry.bind (scope_in ls) y))

-- where a text has the number that the name hid, it is found as before
hidden_found : (x y : Text) (n : BindId) (old : Text → Option BindId) (h : Option BindId) → h ≡ old x → cond (bytes_eq x y) h (cond (bytes_eq x y) (Some n) (old y)) ≡ old y
hidden_found x y n old h is = at_test (bytes_eq x y) refl
  where
    at_test : (t : Bool) → bytes_eq x y ≡ t → cond t h (cond t (Some n) (old y)) ≡ old y
    at_test true e = is ∙ ap old ((bytes_eq-Decides x y).0 e)
    at_test false e = refl

finds_less : (ls : List Layer) (l : Layer) (s t : Newest) → l.hides ≡ in_space (scope_in ls) l.entry.is_type l.entry.name.now → Finds (l ∷ ls) s → Sets s l.entry.is_type l.entry.name.now l.hides t → Finds ls t
unfolding Finds Sets
finds_less ls l s t hid finds (here, there) = both (λ p. (y : Text) → newest t p y ≡ in_space (scope_in ls) p y) l.entry.is_type
    (λ y. here y
    ∙ ap (cond (bytes_eq l.entry.name.now y) l.hides) (finds l.entry.is_type y ∙ space_more l.entry.is_type l.entry.name.now l.entry.bind (scope_in ls) y)
    ∙ hidden_found l.entry.name.now y l.entry.bind (in_space (scope_in ls) l.entry.is_type) l.hides hid)
    (λ y. there y ∙ finds (not l.entry.is_type) y ∙ space_other l.entry.is_type l.entry.name.now l.entry.bind (scope_in ls) y)

-- ---- a table

pub tied_new : (t : Newest) → ((is_type : Bool) (x : Text) → newest t is_type x ≡ None) → Ties [] t
unfolding Ties Hides value_in type_in
tied_new t none = (tt, nothing)
  where
    nothing : (is_type : Bool) (y : Text) → newest t is_type y ≡ in_space [] is_type y
    nothing true y = none true y
    nothing false y = none false y

pub tied_more : (ls : List Layer) (e : HeldEntry) (h : Option BindId) (s t : Newest) → Ties ls s → h ≡ newest s e.is_type e.name.now → Sets s e.is_type e.name.now (Some e.bind) t → Ties (ls ++ record { entry = e; hides = h } ∷ []) t
unfolding Ties Hides Finds
tied_more ls e h s t (hides, finds) is sets = rw (last_first ls (record { entry = e; hides = h }))
    ((is ∙ finds e.is_type e.name.now, hides), finds_more (reverse ls) (record { entry = e; hides = h }) s t finds sets)

pub tied_kept : (ls ms : List Layer) (s t : Newest) → Ties ls s → ms ≡ ls → Keeps s t → Ties ms t
unfolding Ties Keeps
tied_kept ls ms s t (hides, finds) is keeps = rw is (hides, λ p y. keeps p y ∙ finds p y)

pub tied_less : (ls ms : List Layer) (l : Layer) (s t : Newest) → Ties ms s → ms ≡ ls ++ l ∷ [] → Sets s l.entry.is_type l.entry.name.now l.hides t → Ties ls t
unfolding Ties Hides Finds
tied_less ls ms l s t tied is sets = at (rw (ap reverse is ∙ last_first ls l) at tied)
  where
    at : (Hides (l ∷ reverse ls) × Finds (l ∷ reverse ls) s) → Ties ls t
    at (hides, finds) = (hides.1, finds_less (reverse ls) l s t hides.0 finds sets)

-- the text of a layer has a number
pub has_number : (ls ms : List Layer) (l : Layer) (s : Newest) → Ties ms s → ms ≡ ls ++ l ∷ [] → newest s l.entry.is_type l.entry.name.now ≡ None → ⊥
unfolding Ties
has_number ls ms l s (hides, finds) is none =
    let y : None ≡ Some l.entry.bind =
    sym none ∙ finds l.entry.is_type l.entry.name.now ∙ ap (λ r. in_space (scope_in r) l.entry.is_type l.entry.name.now) (ap reverse is ∙ last_first ls l)
    ∙ space_more l.entry.is_type l.entry.name.now l.entry.bind (scope_in (reverse ls)) l.entry.name.now
    ∙ ap (λ t. cond t (Some l.entry.bind) (in_space (scope_in (reverse ls)) l.entry.is_type l.entry.name.now)) ((bytes_eq-Decides l.entry.name.now l.entry.name.now).1 refl) in
    cc

pub found_tied : (ls : List Layer) (t : Newest) (is_type : Bool) (x : Text) → Ties ls t → newest t is_type x ≡ in_space (reverse (entries_of (map (λ (l : Layer). l.entry) ls))) is_type x
unfolding Ties
found_tied ls t p x (hides, finds) = finds p x ∙ ap (λ sc. in_space sc p x) (shown ls)
  where
    shown : (ls : List Layer) → scope_in (reverse ls) ≡ reverse (entries_of (map (λ (l : Layer). l.entry) ls))
    shown [] = refl
    shown (l ∷ ls) =
        ap scope_in (reverse-append (l ∷ []) ls) ∙ map-append (λ (l : Layer). entry_of l.entry) (reverse ls) (l ∷ []) ∙ ap (λ r. r ++ entry_of l.entry ∷ []) (shown ls)
        ∙ sym (reverse-append (entry_of l.entry ∷ []) (entries_of (map (λ (l : Layer). l.entry) ls)))

-- ---- the entries of layers

abbrev pub shown_entries : List Layer → List HeldEntry
shown_entries = map (λ (l : Layer). l.entry)

pub entry_pushed : (ls : List Layer) (l : Layer) → shown_entries (ls ++ l ∷ []) ≡ shown_entries ls ++ l.entry ∷ []
entry_pushed ls l = map-append (λ (l : Layer). l.entry) ls (l ∷ [])

pub taken_back : (ls : List Layer) (l : Layer) → take (length ls) (ls ++ l ∷ []) ≡ ls
taken_back ls l = take_at ls (l ∷ []) (length ls) refl

pub forgot : (ls ms : List Layer) (l : Layer) → ms ≡ ls ++ l ∷ [] → shown_entries ls ≡ take (length (shown_entries ms) - 1) (shown_entries ms)
forgot ls ms l is = sym (rw (is, entry_pushed ls l) (take_at (shown_entries ls) (l.entry ∷ []) (length (shown_entries ls ++ l.entry ∷ []) - 1) (sized (shown_entries ls) l.entry)))
  where
    sized : (es : List HeldEntry) (e : HeldEntry) → length es ≡ length (es ++ e ∷ []) - 1
    sized es e = omega (arith, length_push es e)

pub none_forgot : (ls ms : List Layer) → ms ≡ [] → ls ≡ [] → shown_entries ls ≡ take (length (shown_entries ms) - 1) (shown_entries ms)
none_forgot ls ms m l = rw (m, l) refl

-- names that are taken out one by one
pub one_less : (h : ℕ) (es fs gs : List HeldEntry) → take h fs ≡ take h es → h < length fs → gs ≡ take (length fs - 1) fs → take h gs ≡ take h es
one_less h es fs gs same more is = ap (take h) is ∙ take-take h (length fs - 1) fs (omega (arith, more)) ∙ same

pub all_left : (h : ℕ) (es fs : List HeldEntry) → take h fs ≡ take h es → length fs ≤ h → fs ≡ take h es
all_left h es fs same less = sym (take_all h fs less) ∙ same

pub shorter : (es fs : List HeldEntry) (h : ℕ) → h < length es → fs ≡ take (length es - 1) es → length fs < length es
shorter es fs h more is = rw is (omega (arith, length-take (length es - 1) es, more))

pub ruleset leaving = (one_less, all_left, shorter)

pub ruleset hidings = (tied_new, tied_more, tied_kept, tied_less, found_tied, entry_pushed, taken_back, forgot, none_forgot)
