-- Tidy paths, one segment after the other.
use Rattle.std.proofs.Common.{◌≡◌, Bool, true, false, codes, List, [], ◌∷◌, ◌++◌, cond, reverse, Option, Some, None, refl, ap, sym, ◌∙◌, Result, OnOk}
use Rattle.std.specs.Str.{bytes_eq}
use Rattle.std.specs.Option.{option_to_list}
use Rattle.std.specs.Borrow.{Bor}
use Rattle.std.proofs.lemmas.List.{append-nil, map-append, reverse-append}
use Rattle.std.proofs.lemmas.Result.{on_ok_weaker}
use Rattle.fut_ast.specs.Sorts.{Text}
use Rattle.fut_tree.specs.Names.{names}
use Rattle.elab_scopes.specs.Imports.{tidied, upwards}
use Rattle.file_paths.specs.Segments.{is_fixed, newest, with_segment}

pub newest_more : (xs : List (Bor Text)) (x : Bor Text) → newest (xs ++ x ∷ []) ≡ x.now ∷ newest xs
newest_more xs x = ap reverse (map-append (λ (t : Bor Text). t.now) xs (x ∷ [])) ∙ reverse-append (names xs) (x.now ∷ [])

through : {A B : Type 0} (f : A → B) (b : Bool) (x y : A) → f (cond b x y) ≡ cond b (f x) (f y)
through f true x y = refl
through f false x y = refl

pub tidied_more : (x : Text) (before xs : List Text) → tidied before (x ∷ xs) ≡ tidied (with_segment x before) xs
unfolding tidied with_segment
tidied_more x before xs =
    let at = λ (b : List Text). tidied b xs in
    sym (through at (bytes_eq x (codes ".")) before (cond (bytes_eq x (codes "..")) (upwards before) (x ∷ before))
    ∙ ap (cond (bytes_eq x (codes ".")) (at before)) (through at (bytes_eq x (codes "..")) (upwards before) (x ∷ before)))

-- `.` changes nothing
pub a_dot : (x : Text) (before : List Text) → bytes_eq x (codes ".") ≡ true → before ≡ with_segment x before
unfolding with_segment
a_dot x before e = sym (ap (λ b. cond b before (cond (bytes_eq x (codes "..")) (upwards before) (x ∷ before))) e)

pub a_name : (x : Text) (before : List Text) → bytes_eq x (codes ".") ≡ false → bytes_eq x (codes "..") ≡ false → x ∷ before ≡ with_segment x before
unfolding with_segment
a_name x before d dd = sym (ap (λ b. cond b before (cond (bytes_eq x (codes "..")) (upwards before) (x ∷ before))) d ∙ ap (λ b. cond b (upwards before) (x ∷ before)) dd)

pub two_dots : (x : Text) (before : List Text) → bytes_eq x (codes ".") ≡ false → bytes_eq x (codes "..") ≡ true → upwards before ≡ with_segment x before
unfolding with_segment
two_dots x before d dd = sym (ap (λ b. cond b before (cond (bytes_eq x (codes "..")) (upwards before) (x ∷ before))) d ∙ ap (λ b. cond b (upwards before) (x ∷ before)) dd)

-- `..` behind nothing, behind a segment that stays, and behind one that goes
pub up_taken : (x : Text) (before : List Text) → is_fixed x ≡ false → before ≡ upwards (x ∷ before)
up_taken x before e = sym (ap (λ b. cond b (codes ".." ∷ x ∷ before) before) e)

pub up_fixed : (x : Text) (before : List Text) → is_fixed x ≡ true → codes ".." ∷ x ∷ before ≡ upwards (x ∷ before)
up_fixed x before e = sym (ap (λ b. cond b (codes ".." ∷ x ∷ before) before) e)

-- the segment that leaves stood first
pub newest_left : (xs ys : List (Bor Text)) (r : Option (Bor Text)) (y : Bor Text) → r ≡ Some y → xs ≡ ys ++ option_to_list r → newest xs ≡ y.now ∷ newest ys
newest_left xs ys r y e p = ap newest (p ∙ ap (λ o. ys ++ option_to_list o) e) ∙ newest_more ys y

pub none_left : (xs ys : List (Bor Text)) (r : Option (Bor Text)) → r ≡ None → xs ≡ ys ++ option_to_list r → newest xs ≡ newest ys
none_left xs ys r e p = ap newest (p ∙ ap (λ o. ys ++ option_to_list o) e ∙ append-nil ys)

-- behind `..`, and behind a name
pub behind_up : {E : Type 0} (r : Result (Unit {0}) E) (x : Text) (old new : List (Bor Text)) → bytes_eq x (codes ".") ≡ false → bytes_eq x (codes "..") ≡ true
    → OnOk r (newest new ≡ upwards (newest old)) → OnOk r (newest new ≡ with_segment x (newest old))
behind_up r x old new d dd = on_ok_weaker r (λ e. e ∙ two_dots x (newest old) d dd)

pub behind_name : {E : Type 0} (r : Result (Unit {0}) E) (x : Bor Text) (old new : List (Bor Text)) → bytes_eq x.now (codes ".") ≡ false → bytes_eq x.now (codes "..") ≡ false
    → OnOk r (new ≡ old ++ x ∷ []) → OnOk r (newest new ≡ with_segment x.now (newest old))
behind_name r x old new d dd = on_ok_weaker r (λ e. ap newest e ∙ newest_more old x ∙ a_name x.now (newest old) d dd)
