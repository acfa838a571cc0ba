-- Lists of expressions that the arena holds.
use Rattle.std.proofs.Common.{◌≡◌, ℕ, ◌+◌, ◌<◌, ◌≤◌, ◌++◌, List, [], ◌∷◌, length, take, drop, get_or, sym, ap, ◌∙◌, append_assoc, append-nil, Result}
use Rattle.std.proofs.Math.ListN.{drop_of_length-le}
use Rattle.std.proofs.lemmas.List.{drop_more, map-append, map_more, take_all}
use Rattle.std.specs.Borrow.{Bor}
use Rattle.fut_ast.specs.Sorts.{SourceExp}
use Rattle.fut_tree.specs.declared.exp.Ix.{Ix}
use Rattle.fut_tree.specs.declared.held.Held.{Held}
use Rattle.fut_tree.specs.Names.{all}
use Rattle.elab_scopes.specs.declared.refusal.Stop.{Stop}
use Rattle.elab_nodes.specs.Built.{Built0, built0, no_memory0}
use Rattle.elab_exps.specs.Lists.{all_exps, exps_of}

pub listed : {hs : List (Held SourceExp)} {es : List SourceExp} {r : Result (Bor (List (Held SourceExp))) Stop} → all hs ≡ es → Built0 (λ (l : Bor (List (Held SourceExp))). l.now ≡ hs) r → Built0 (λ (l : Bor (List (Held SourceExp))). all l.now ≡ es) r
listed same (built0 is) = built0 (ap all is ∙ same)
listed same no_memory0 = no_memory0

-- ---- the expressions of an index

pub index_next : (xs : List Ix) (i : ℕ) (d : Ix) (done more whole : List SourceExp) → i < length xs → done ++ all_exps (drop i xs) ≡ whole → more ≡ done ++ exps_of (get_or xs i d) → more ++ all_exps (drop (i + 1) xs) ≡ whole
index_next xs i d done more whole k is so =
    ap (λ l. l ++ all_exps (drop (i + 1) xs)) so ∙ append_assoc done (exps_of (get_or xs i d)) (all_exps (drop (i + 1) xs)) ∙ ap (λ l. done ++ all_exps l) (sym (drop_more xs i d k)) ∙ is

pub index_end : (xs : List Ix) (i : ℕ) (done whole : List SourceExp) → length xs ≤ i → done ++ all_exps (drop i xs) ≡ whole → done ≡ whole
index_end xs i done whole k is = sym (append-nil done) ∙ ap (λ l. done ++ all_exps l) (sym (drop_of_length-le xs k)) ∙ is

-- ---- those of an update

pub update_next : (xs : List (Held SourceExp)) (i : ℕ) (d : Held SourceExp) (a : SourceExp) (done more : List (Held SourceExp)) → i < length xs → all done ≡ a ∷ all (take i xs) → more ≡ done ++ get_or xs i d ∷ [] → all more ≡ a ∷ all (take (i + 1) xs)
update_next xs i d a done more k is so =
    ap all so ∙ map-append (λ (h : Held SourceExp). h.at.now) done (get_or xs i d ∷ []) ∙ ap (λ l. l ++ (get_or xs i d).at.now ∷ []) is ∙ ap (λ l. a ∷ l) (sym (map_more (λ (h : Held SourceExp). h.at.now) xs i d k))

pub update_end : (xs : List (Held SourceExp)) (i : ℕ) (h : Held SourceExp) (a : SourceExp) (done more : List (Held SourceExp)) → length xs ≤ i → all done ≡ a ∷ all (take i xs) → more ≡ done ++ h ∷ [] → all more ≡ a ∷ all xs ++ h.at.now ∷ []
update_end xs i h a done more k is so = ap all so ∙ map-append (λ (h : Held SourceExp). h.at.now) done (h ∷ []) ∙ ap (λ l. l ++ h.at.now ∷ []) (is ∙ ap (λ l. a ∷ all l) (take_all i xs k))
