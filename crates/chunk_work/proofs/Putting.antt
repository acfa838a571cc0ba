-- More chunks whose pairs are put.
use Rattle.std.proofs.Common.{◌≡◌, ℕ, ◌<◌, List, [], ◌∷◌, ◌++◌, refl, sym, ap, ◌∙◌, subst, append_assoc, append-nil}
use Rattle.chunk_work.specs.declared.outcome.Done.{Done}
use Rattle.chunk_work.specs.Runs.{Accounts}
use Rattle.chunk_work.proofs.Chunks.{accounts_both}
use Rattle.phase_model.specs.declared.Pair.{Pair}
use Rattle.chunk_work.specs.Puts.{EachPut, PutOf}

module _ {O K : Type 0} (ran : ℕ → O → Type 0) (keeps : O → K → Type 0) (pairs_of : O → List Pair) (chunks : ℕ) where
  pub put_both : (xs ys : List (Done K)) (ps qs : List Pair) → EachPut ran keeps pairs_of chunks xs ps → EachPut ran keeps pairs_of chunks ys qs → EachPut ran keeps pairs_of chunks (xs ++ ys) (ps ++ qs)
  put_both [] ys ps qs h k = subst (λ l. EachPut ran keeps pairs_of chunks ys (l ++ qs)) (sym h) k
  put_both (x ∷ xs) ys ps qs h k = (h.0, h.1 ++ qs, ap (λ l. l ++ qs) h.2 ∙ append_assoc h.0 h.1 qs, h.3, h.4, put_both xs ys h.1 qs h.5 k)

  pub put_more : (xs : List (Done K)) (ps now qs : List Pair) (d : Done K) → now ≡ ps ++ qs → d.chunk < chunks → PutOf ran keeps pairs_of d.chunk d.outcome qs → EachPut ran keeps pairs_of chunks xs ps → EachPut ran keeps pairs_of chunks (xs ++ d ∷ []) now
  put_more xs ps now qs d e lt p h = subst (EachPut ran keeps pairs_of chunks (xs ++ d ∷ [])) (sym e) (put_both xs (d ∷ []) ps qs h (qs, [], sym (append-nil qs), lt, p, refl))

  pub both_put : (xs ys zs : List (Done K)) (ps qs rs : List Pair) (ns ms ls : List ℕ) → zs ≡ xs ++ ys → rs ≡ ps ++ qs → ls ≡ ns ++ ms
      → EachPut ran keeps pairs_of chunks xs ps × Accounts chunks xs ns → EachPut ran keeps pairs_of chunks ys qs × Accounts chunks ys ms → EachPut ran keeps pairs_of chunks zs rs × Accounts chunks zs ls
  both_put xs ys zs ps qs rs ns ms ls e f i h k = rw (e, f, i) (put_both xs ys ps qs h.0 k.0, accounts_both chunks xs ys ns ms h.1 k.1)
