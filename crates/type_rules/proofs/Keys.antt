-- Rows of numbers as keys: what a new entry leaves at other rows.
use Rattle.std.proofs.Common.{◌≡◌, ℕ, Bool, true, false, cond, List, Option, refl, sym, ap, subst, ◌∙◌}
use Rattle.std.specs.Str.{bytes_eq}
use Rattle.std.specs.HashMap as hash
use Rattle.std.specs.HashMap.{HashMap}
use Rattle.std.specs.Map.{lookup, IsKeyTest, AreApart, KeepsOthers}
use Rattle.std.specs.declared.vec.Vec.{Vec}
use Rattle.std.proofs.lemmas.Cmp.{nat_list_eq_equiv}
use Rattle.std.proofs.lemmas.Slice.Eq.{bytes_eq-Decides}
use Rattle.type_rules.specs.Labels.{row_in}

apart : (bs cs ks : List ℕ) → bytes_eq bs cs ≡ false → bytes_eq bs ks ≡ true → bytes_eq cs ks ≡ false
apart bs cs ks n y = nat_list_eq_equiv.symm cs ks ∙ sym (nat_list_eq_equiv.congr bs ks cs y) ∙ n

module _ {K : Type 0} (eq : K → K → Bool) (test : K → Bool) where
  others : {X : Type 0} (old new : List (K × X)) → KeepsOthers eq test old new → (other : K → Bool) → IsKeyTest eq other → AreApart test other → lookup other new ≡ lookup other old
  unfolding KeepsOthers
  others old new h = h

pub row_after : {Y S : Type 0} (bs : List ℕ) (m n : HashMap (Vec ℕ Y) ℕ S) (w : Option ℕ) → hash.UpdatesBy (λ x y. bytes_eq x.items y.items) (λ k. bytes_eq bs k.items) m n w
    → (cs : List ℕ) → row_in n cs ≡ cond (bytes_eq bs cs) w (row_in m cs)
unfolding row_in
row_after {Y} {S} bs m n w h cs = go (bytes_eq bs cs) refl
  where
    go : (b : Bool) → bytes_eq bs cs ≡ b → row_in n cs ≡ cond (bytes_eq bs cs) w (row_in m cs)
    go true e = subst (λ l. row_in n l ≡ w) ((bytes_eq-Decides bs cs).0 e) h.1 ∙ ap (λ b. cond b w (row_in m cs)) (sym e)
    go false e = others _ _ _ _ h.3 _ (λ x y. nat_list_eq_equiv.congr cs x.items y.items) (λ k. apart bs cs k.items e) ∙ ap (λ b. cond b w (row_in m cs)) (sym e)

pub row_found : {Y S : Type 0} (m : HashMap (Vec ℕ Y) ℕ S) (ls : List ℕ) (r : Option ℕ) → hash.get_by (λ k. bytes_eq ls k.items) m ≡ r → row_in m ls ≡ r
unfolding row_in
row_found {Y} {S} m ls r h = h
