-- The names of a table, the newest first, and what stands below them.
use Rattle.std.proofs.Common.{◌≡◌, ℕ, zero, suc, ◌+◌, ◌-◌, ◌<◌, ◌≤◌, ◌++◌, List, [], ◌∷◌, Bool, true, false, is_some, length, map, reverse, take, drop, Option, None, Some, cond, refl, sym, ◌∙◌, ap, arith, Bor}
use Rattle.std.specs.Str.{bytes_eq}
use Rattle.std.proofs.Math.Seq.{drop-append_seam}
use Rattle.std.proofs.lemmas.List.{drop_all, length-append, length-reverse, length-map, length-drop, map-append, reverse-append, take-append-drop, take-map}
use Rattle.fut_ast.specs.Sorts.{Text}
use Rattle.fut_scalar.specs.declared.place.BindId.{BindId}
use Rattle.elab_scopes.specs.declared.table.Entry.{Entry as HeldEntry}
use Rattle.elab_scopes.specs.declared.table.Names.{Names}
use Rattle.elab_scopes.specs.Modules.{modules_of, names_seen}
use Rattle.elab_scopes.specs.Scopes.{Contents, Entry, Member, World, a_value, a_type, a_world, Scope, newer_type, newer_value, newer_world, type_in, value_in, world_of}
use Rattle.elab_scopes.specs.Resolve.{has}
use Rattle.elab_scopes.specs.Table.{bottom, entry_of, entries_of, outside, scope_of}

pub scope_push : (es : List HeldEntry) (e : HeldEntry) → reverse (entries_of (es ++ e ∷ [])) ≡ entry_of e ∷ reverse (entries_of es)
scope_push es e = ap reverse (map-append entry_of es (e ∷ [])) ∙ reverse-append (entries_of es) (entry_of e ∷ [])

reverse_take : (h : ℕ) (xs : List Entry) → reverse (take h xs) ≡ drop (length (reverse xs) - h) (reverse xs)
reverse_take h xs = sym (
    ap (λ n. drop (n - h) (reverse xs)) (length-reverse xs)
    ∙ ap (λ l. drop (length xs - h) (reverse l)) (sym (take-append-drop h xs))
    ∙ ap (drop (length xs - h)) (reverse-append (take h xs) (drop h xs))
    ∙ ap (λ n. drop n (reverse (drop h xs) ++ reverse (take h xs))) (sym (length-reverse (drop h xs) ∙ length-drop h xs))
    ∙ drop-append_seam (reverse (drop h xs)) (reverse (take h xs)))

abbrev Seen : Type 0
Seen = Option (Bor (List Member))

pub entered : (es : List HeldEntry) (e : HeldEntry) (b : Scope) → reverse (entries_of (es ++ e ∷ [])) ++ b ≡ entry_of e ∷ reverse (entries_of es) ++ b
entered es e b = ap (λ sc. sc ++ b) (scope_push es e)

-- what is dropped above a list that stays
above : {A : Type 0} (k h : ℕ) (xs ys : List A) → length ys ≤ h → k ≡ length xs + length ys - h → drop k (xs ++ ys) ≡ drop (length xs - (h - length ys)) xs ++ ys
above {A = A} k h xs ys le is = ap (λ n. drop n (xs ++ ys)) (is ∙ omega (arith, le)) ∙ within (length xs - (h - length ys)) xs (omega arith)
  where
    within : (n : ℕ) (xs : List A) → n ≤ length xs → drop n (xs ++ ys) ≡ drop n xs ++ ys
    within zero xs le = refl
    within (suc n) [] le = absurd (omega (arith, le))
    within (suc n) (x ∷ xs) le = within n xs (omega (arith, le))

pub left_below : (h k : ℕ) (es : List HeldEntry) (o : Seen) (cs : List Contents) → k ≡ length (bottom o cs) → k ≤ h → reverse (entries_of (take (h - k) es)) ++ bottom o cs ≡ outside h (reverse (entries_of es) ++ bottom o cs)
unfolding outside
left_below h k es o cs is le =
    ap (λ sc. sc ++ bottom o cs) (ap reverse (sym (take-map entry_of (h - k) es)) ∙ reverse_take (h - k) (entries_of es) ∙ ap (λ n. drop (length (reverse (entries_of es)) - (h - n)) (reverse (entries_of es))) is)
    ∙ sym (above (length (reverse (entries_of es) ++ bottom o cs) - h) h (reverse (entries_of es)) (bottom o cs) (omega (arith, is, le)) (ap (λ n. n - h) (length-append (reverse (entries_of es)) (bottom o cs))))

pub left_all : (h k : ℕ) (es : List HeldEntry) (o : Seen) (cs ds : List Contents) → k ≡ length (bottom o cs) → h < k → reverse (entries_of (take (h - k) es)) ++ bottom None ds ≡ outside h (reverse (entries_of es) ++ bottom o cs)
unfolding outside
left_all h k es None cs ds is lt = absurd (omega (arith, is, lt))
left_all h k es (Some ms) cs ds is lt =
    (let none : h - k ≡ 0 = omega (arith, is, lt) in ap (λ n. reverse (entries_of (take n es)) ++ []) none)
    ∙ sym (drop_all (length (reverse (entries_of es) ++ bottom (Some ms) cs) - h) (reverse (entries_of es) ++ bottom (Some ms) cs) (omega (arith, is, lt)))

pub height_is : (k : ℕ) (es : List HeldEntry) (b : Scope) → k ≡ length b → length es + k ≡ length (reverse (entries_of es) ++ b)
height_is k es b is = (λ i. sym (length-reverse (entries_of es) ∙ length-map es entry_of) i + is i) ∙ sym (length-append (reverse (entries_of es)) b)

-- ---- what stands below

pub no_bottom : (o : Seen) (cs : List Contents) → o ≡ None → 0 ≡ length (bottom o cs)
no_bottom o cs is = ap (λ o. length (bottom o cs)) (sym is)

pub some_bottom : (o : Seen) (cs : List Contents) (ms : Bor (List Member)) → o ≡ Some ms → 1 ≡ length (bottom o cs)
some_bottom o cs ms is = ap (λ o. length (bottom o cs)) (sym is)

pub value_above : (sc : Scope) (o : Seen) (cs : List Contents) (x : Text) → value_in sc x ≡ value_in (sc ++ bottom o cs) x
unfolding value_in
value_above [] None cs x = refl
value_above [] (Some ms) cs x = refl
value_above (e ∷ sc) o cs x = ap (newer_value e x) (value_above sc o cs x)

pub type_above : (sc : Scope) (o : Seen) (cs : List Contents) (x : Text) → type_in sc x ≡ type_in (sc ++ bottom o cs) x
unfolding type_in
type_above [] None cs x = refl
type_above [] (Some ms) cs x = refl
type_above (e ∷ sc) o cs x = ap (newer_type e x) (type_above sc o cs x)

local_world : (t : Bool) (e : HeldEntry) (w : World) → newer_world (cond t (a_type e.name.now e.bind) (a_value e.name.now e.bind)) w ≡ w
local_world true e w = refl
local_world false e w = refl

world_under : (es : List HeldEntry) (b : Scope) → world_of (reverse (entries_of es) ++ b) ≡ world_of b
unfolding world_of
world_under es b = ap (λ sc. world_of (sc ++ b)) (shown_reversed es) ∙ under (reverse es)
  where
    shown_reversed : (es : List HeldEntry) → reverse (entries_of es) ≡ entries_of (reverse es)
    shown_reversed [] = refl
    shown_reversed (e ∷ es) = reverse-append (entry_of e ∷ []) (entries_of es) ∙ ap (λ r. r ++ entry_of e ∷ []) (shown_reversed es) ∙ sym (map-append entry_of (reverse es) (e ∷ [])) ∙ ap entries_of (sym (reverse-append (e ∷ []) es))

    under : (es : List HeldEntry) → world_of (entries_of es ++ b) ≡ world_of b
    under [] = refl
    under (e ∷ es) = local_world e.is_type e _ ∙ under es

pub names_below : (n : Names) → names_seen n.outside ≡ (world_of (scope_of n)).names
unfolding scope_of world_of
names_below n = names_of n.outside ∙ ap (λ w. w.names) (sym (world_under n.scope (bottom n.outside (modules_of n.modules))))
  where
    names_of : (o : Seen) → names_seen o ≡ (world_of (bottom o (modules_of n.modules))).names
    names_of None = refl
    names_of (Some ms) = refl

pub modules_below : (n : Names) (ms : Bor (List Member)) → n.outside ≡ Some ms → modules_of n.modules ≡ (world_of (scope_of n)).modules
unfolding scope_of world_of
modules_below n ms is = ap (λ o. (world_of (bottom o (modules_of n.modules))).modules) (sym is) ∙ ap (λ w. w.modules) (sym (world_under n.scope (bottom n.outside (modules_of n.modules))))

pub no_modules_below : (n : Names) → n.outside ≡ None → [] ≡ (world_of (scope_of n)).modules
unfolding scope_of world_of
no_modules_below n is = ap (λ o. (world_of (bottom o (modules_of n.modules))).modules) (sym is) ∙ ap (λ w. w.modules) (sym (world_under n.scope (bottom n.outside (modules_of n.modules))))

-- a name's text, for the names that are values
abbrev names_value : Entry → Text → Bool
names_value (a_value y b) x = bytes_eq y x
names_value (a_type y b) x = false
names_value (a_world w) x = false

some_newer : (t n : Bool) (b : BindId) (o p : Option BindId) → is_some o ≡ cond n true (is_some p) → is_some (cond t (Some b) o) ≡ cond n true (is_some (cond t (Some b) p))
some_newer true true b o p h = refl
some_newer true false b o p h = refl
some_newer false n b o p h = h

some_last : (sc : Scope) (e : Entry) (x : Text) → is_some (value_in (sc ++ e ∷ []) x) ≡ cond (names_value e x) true (is_some (value_in sc x))
unfolding value_in
some_last [] (a_value y b) x = at_test (bytes_eq y x)
  where
    at_test : (t : Bool) → is_some (cond t (Some b) None) ≡ cond t true false
    at_test true = refl
    at_test false = refl
some_last [] (a_type y b) x = refl
some_last [] (a_world w) x = refl
some_last (a_value z c ∷ sc) e x = some_newer (bytes_eq z x) (names_value e x) c (value_in (sc ++ e ∷ []) x) (value_in sc x) (some_last sc e x)
some_last (a_type z c ∷ sc) e x = some_last sc e x
some_last (a_world w ∷ sc) e x = some_last sc e x

has_step : (e : Entry) (es : List Entry) (x : Text) → has (e ∷ es) x ≡ cond (names_value e x) true (has es x)
has_step (a_value y b) es x = refl
has_step (a_type y b) es x = refl
has_step (a_world w) es x = refl

-- a pattern's names that are values are those that a search finds
pub has_found : (es : List Entry) (x : Text) → is_some (value_in (reverse es) x) ≡ has es x
unfolding value_in
has_found [] x = refl
has_found (e ∷ es) x =
    ap (λ r. is_some (value_in r x)) (reverse-append (e ∷ []) es) ∙ some_last (reverse es) e x ∙ ap (cond (names_value e x) true) (has_found es x)
    ∙ sym (has_step e es x)

pub ruleset tables = (entered, left_below, left_all, height_is, has_found)

pub made_left : (n : ℕ) (xs : List (Bor Text)) → map (λ (x : Bor Text). x.now) (take n xs) ≡ take n (map (λ (x : Bor Text). x.now) xs)
made_left n xs = sym (take-map (λ (x : Bor Text). x.now) n xs)

pub ruleset bottoms = (no_bottom, some_bottom, value_above, type_above, names_below, modules_below, no_modules_below)
