-- Segments of paths, by the parts of a text.
use Rattle.std.proofs.Common.{◌≡◌, ℕ, List, [], ◌∷◌, ◌++◌, cond, refl, ap, sym, ◌∙◌, eqb, length, take, ◌-◌, suc, arith, Result, OnOk}
use Rattle.std.specs.List.{slice_split, onto_first}
use Rattle.std.specs.Borrow.{Bor}
use Rattle.std.proofs.lemmas.List.{length-map, take-map}
use Rattle.std.proofs.lemmas.Result.{on_ok_weaker}
use Rattle.fut_ast.specs.Sorts.{Text}
use Rattle.fut_tree.specs.Names.{names}
use Rattle.elab_scopes.specs.Imports.{folder, segments, before_slash}

put_first : (b : ℕ) (xs : List (List ℕ)) → onto_first b xs ≡ before_slash b xs
put_first b [] = refl
put_first b (x ∷ xs) = refl

pub splitting : (bs : List ℕ) → slice_split (λ b. eqb b 47) bs ≡ segments bs
unfolding segments
splitting [] = refl
splitting (b ∷ bs) = ap (λ t. cond (eqb b 47) ([] ∷ t) (onto_first b t)) (splitting bs) ∙ ap (cond (eqb b 47) ([] ∷ segments bs)) (put_first b (segments bs))

folder_is : (xs : List Text) → take (length xs - 1) xs ≡ folder xs
folder_is [] = refl
folder_is (x ∷ []) = refl
folder_is (x ∷ y ∷ ys) = let n : length (x ∷ y ∷ ys) - 1 ≡ suc (length (y ∷ ys) - 1) = omega arith in ap (λ k. take k (x ∷ y ∷ ys)) n ∙ ap (λ l. x ∷ l) (folder_is (y ∷ ys))

-- what is left where the last segment leaves
pub folder_left : (bs : List ℕ) (xs ys : List (Bor Text)) (n : ℕ) → n ≡ length xs → names xs ≡ segments bs → ys ≡ take (n - 1) xs → names ys ≡ folder (segments bs)
folder_left bs xs ys n k e p =
    let now = λ (t : Bor Text). t.now in
    ap names (p ∙ ap (λ m. take (m - 1) xs) k) ∙ sym (take-map now (length xs - 1) xs) ∙ ap (λ m. take (m - 1) (names xs)) (sym (length-map xs now)) ∙ folder_is (names xs) ∙ ap folder e

-- the folder, with the segments of a path behind it
pub in_folder : {E : Type 0} (r : Result (Unit {0}) E) (from path : List ℕ) (xs ys zs : List (Bor Text)) (n : ℕ) → n ≡ length xs → names xs ≡ segments from → ys ≡ take (n - 1) xs
    → OnOk r (names zs ≡ names ys ++ segments path) → OnOk r (names zs ≡ folder (segments from) ++ segments path)
in_folder r from path xs ys zs n k e p = on_ok_weaker r (λ q. q ∙ ap (λ l. l ++ segments path) (folder_left from xs ys n k e p))
