-- Each word after pairs were done, whatever their order was.
use Rattle.std.proofs.Common.{◌≡◌, ◌≢◌, ◌⊎◌, ℕ, ◌<◌, ◌≤◌, nat_eq, nat_le, ◌&&◌, ◌||◌, Bool, true, false, true≢false, min, List, [], ◌∷◌, ◌++◌, length, fold, slice_index, slice_set, MatchBool, sym, refl, ap, ◌∙◌, inl, inr, ⊎_elim, arith, if◌then◌else◌}
use Rattle.std.specs.List.{list_any}
use Rattle.std.proofs.lemmas.List.{get_or-set_same, get_or-set_other, length-set}
use Rattle.std.proofs.lemmas.List.Sorted.{list_any-IsPermutation, IsPermutation-sym}
use Rattle.phase_model.specs.declared.Pair.{Pair}
use Rattle.phase_model.specs.Kept.{DoneOnce, stores, done}
use Rattle.phase_model.specs.Laws.{names, gives, words_at, OldOrStored, LeastClaimed, EachCombined}
use Rattle.phase_model.specs.Machine.{Kind, puts, claims, combines, op_of, EachWord, WordsFollow}
use Rattle.phase_model.proofs.Permutes.{flat_map_permutes}
use Rattle.phase_model.proofs.Orders.{done_length}

eq_true : (a b : ℕ) → nat_eq a b ≡ true → a ≡ b
eq_true a b e = grind arith

eq_same : (a : ℕ) → nat_eq a a ≡ true
eq_same a = grind arith

or_true : (a : Bool) → (a || true) ≡ true
or_true true = refl
or_true false = refl

module _ (op : ℕ → ℕ → ℕ) (i : ℕ) where
  -- what a pair makes of the word at i
  abbrev pub at_word : ℕ → Pair → ℕ
  at_word w p = if nat_eq p.place i then op w p.word else w

  done_at : (words : List ℕ) (p : Pair) → i < length words → slice_index (done op words p) i ≡ at_word (slice_index words i) p
  done_at words p lt = go (nat_eq p.place i) refl
    where
      go : (a : Bool) → nat_eq p.place i ≡ a → slice_index (done op words p) i ≡ (if a then op (slice_index words i) p.word else slice_index words i)
      go true e =
          let same : p.place ≡ i = eq_true p.place i e in
          ap (λ k. slice_index (slice_set words k (op (slice_index words k) p.word)) i) same ∙ get_or-set_same words i (op (slice_index words i) p.word) 0 lt
      go false e =
          let apart : i ≢ p.place = λ q. true≢false (sym (ap (λ k. nat_eq p.place k) q ∙ eq_same p.place) ∙ e) in
          get_or-set_other words p.place i (op (slice_index words p.place) p.word) 0 apart

  -- the word at i sees its own pairs alone
  pub fold_at : (ps : List Pair) (words : List ℕ) → i < length words → slice_index (fold (done op) words ps) i ≡ fold at_word (slice_index words i) ps
  fold_at [] words lt = refl
  fold_at (p ∷ ps) words lt =
      let long = length-set words p.place (op (slice_index words p.place) p.word) in
      fold_at ps (done op words p) (omega arith) ∙ ap (λ w. fold at_word w ps) (done_at words p lt)

module _ (i : ℕ) where
  abbrev F : ℕ → List Pair → ℕ
  F w ps = fold (at_word stores i) w ps

  stored : (ps : List Pair) (w : ℕ) → MatchBool (list_any (names i) ps) (list_any (gives i (F w ps)) ps ≡ true) (F w ps ≡ w)
  stored [] w = refl
  stored (p ∷ ps) w = go (stored ps w) (stored ps p.word) (nat_eq p.place i) (list_any (names i) ps) refl
    where
      go : MatchBool (list_any (names i) ps) (list_any (gives i (F w ps)) ps ≡ true) (F w ps ≡ w) → MatchBool (list_any (names i) ps) (list_any (gives i (F p.word ps)) ps ≡ true) (F p.word ps ≡ p.word)
          → (a b : Bool) → list_any (names i) ps ≡ b
          → MatchBool (a || list_any (names i) ps) (((a && nat_eq p.word (F (if a then p.word else w) ps)) || list_any (gives i (F (if a then p.word else w) ps)) ps) ≡ true) (F (if a then p.word else w) ps ≡ w)
      go before now false b e = before
      go before now true true e =
          let later : list_any (gives i (F p.word ps)) ps ≡ true = rw e at now in
          ap (λ x. nat_eq p.word (F p.word ps) || x) later ∙ or_true (nat_eq p.word (F p.word ps))
      go before now true false e =
          let same : F p.word ps ≡ p.word = rw e at now in
          ap (λ x. nat_eq p.word x || list_any (gives i (F p.word ps)) ps) same ∙ ap (λ x. x || list_any (gives i (F p.word ps)) ps) (eq_same p.word)

  abbrev G : ℕ → List Pair → ℕ
  G w ps = fold (at_word min i) w ps

  abbrev Least : ℕ → ℕ → List Pair → Type 0
  Least w r ps = (r ≤ w) × ((x : ℕ) → list_any (gives i x) ps ≡ true → r ≤ x) × ((r ≡ w) ⊎ (list_any (gives i r) ps ≡ true))

  least : (ps : List Pair) (w : ℕ) → Least w (G w ps) ps
  least [] w = (omega arith, (λ x e. absurd (true≢false (sym e))), inl refl)
  least (p ∷ ps) w = go (least ps w) (least ps (min w p.word)) (nat_eq p.place i)
    where
      go : Least w (G w ps) ps → Least (min w p.word) (G (min w p.word) ps) ps → (a : Bool)
          → (G (if a then min w p.word else w) ps ≤ w)
          × ((x : ℕ) → ((a && nat_eq p.word x) || list_any (gives i x) ps) ≡ true → G (if a then min w p.word else w) ps ≤ x)
          × ((G (if a then min w p.word else w) ps ≡ w) ⊎ (((a && nat_eq p.word (G (if a then min w p.word else w) ps)) || list_any (gives i (G (if a then min w p.word else w) ps)) ps) ≡ true))
      go before now false = before
      go before now true =
          let r : ℕ = G (min w p.word) ps in
          let le : r ≤ min w p.word = now.0 in (
            omega arith,
            (λ x e. here x (nat_eq p.word x) refl e),
            ⊎_elim (λ same. which same) (λ later. inr (ap (λ y. nat_eq p.word r || y) later ∙ or_true (nat_eq p.word r))) now.2,
          )
        where
          here : (x : ℕ) (b : Bool) → nat_eq p.word x ≡ b → (b || list_any (gives i x) ps) ≡ true → G (min w p.word) ps ≤ x
          here x true f e = let same = eq_true p.word x f in let le : G (min w p.word) ps ≤ min w p.word = now.0 in omega arith
          here x false f e = now.1 x e

          which : G (min w p.word) ps ≡ min w p.word → (G (min w p.word) ps ≡ w) ⊎ ((nat_eq p.word (G (min w p.word) ps) || list_any (gives i (G (min w p.word) ps)) ps) ≡ true)
          which same = by (nat_le w p.word) refl
            where
              by : (b : Bool) → nat_le w p.word ≡ b → (G (min w p.word) ps ≡ w) ⊎ ((nat_eq p.word (G (min w p.word) ps) || list_any (gives i (G (min w p.word) ps)) ps) ≡ true)
              by true f = let le : w ≤ p.word = grind arith in inl (omega arith)
              by false f =
                  let lt : p.word < w = grind arith in
                  let is : G (min w p.word) ps ≡ p.word = omega arith in
                  inr (ap (λ y. nat_eq p.word y || list_any (gives i (G (min w p.word) ps)) ps) is ∙ ap (λ y. y || list_any (gives i (G (min w p.word) ps)) ps) (eq_same p.word))

-- The laws of the words

match_along : (a b : Bool) (P Q R S : Type 0) → a ≡ b → (P → R) → (Q → S) → MatchBool a P Q → MatchBool b R S
match_along a true P Q R S e f g h = f (rw e at h)
match_along a false P Q R S e f g h = g (rw e at h)

pub stored_law : (old words : List ℕ) (pairs : List Pair) → DoneOnce stores old words pairs → OldOrStored old words pairs
stored_law old words pairs h i lt =
    let is : slice_index words i ≡ F i (slice_index old i) h.order = ap (λ l. slice_index l i) h.words_are ∙ fold_at stores i h.order old lt in
    let back = IsPermutation-sym _ _ h.each_once in
    match_along (list_any (names i) h.order) (list_any (names i) pairs) (list_any (gives i (F i (slice_index old i) h.order)) h.order ≡ true) (F i (slice_index old i) h.order ≡ slice_index old i) _ _
    (list_any-IsPermutation (names i) h.order pairs back)
    (λ e. ap (λ w. list_any (gives i w) pairs) is ∙ sym (list_any-IsPermutation (gives i (F i (slice_index old i) h.order)) h.order pairs back) ∙ e)
    (λ e. is ∙ e)
    (stored i h.order (slice_index old i))

pub least_law : (old words : List ℕ) (pairs : List Pair) → DoneOnce min old words pairs → LeastClaimed old words pairs
least_law old words pairs h i lt =
    let r : ℕ = G i (slice_index old i) h.order in
    let is : slice_index words i ≡ r = ap (λ l. slice_index l i) h.words_are ∙ fold_at min i h.order old lt in
    let back = IsPermutation-sym _ _ h.each_once in
    let l = least i h.order (slice_index old i) in
    let le : r ≤ slice_index old i = l.0 in (
      omega arith,
      (λ p e. let q : r ≤ p.word = l.1 p.word (list_any-IsPermutation (gives i p.word) h.order pairs back ∙ e) in omega arith),
      ⊎_elim (λ e. inl (is ∙ e)) (λ e. inr (ap (λ w. list_any (gives i w) pairs) is ∙ sym (list_any-IsPermutation (gives i r) h.order pairs back) ∙ e)) l.2,
    )

module _ (op : ℕ → ℕ → ℕ) (i : ℕ) where
  at_words : (w : ℕ) (ps : List Pair) → fold (at_word op i) w ps ≡ fold op w (words_at i ps)
  at_words w [] = refl
  at_words w (p ∷ ps) = go (λ v. at_words v ps) (nat_eq p.place i)
    where
      go : ((v : ℕ) → fold (at_word op i) v ps ≡ fold op v (words_at i ps)) → (b : Bool) → fold (at_word op i) (if b then op w p.word else w) ps ≡ fold op w ((if b then p.word ∷ [] else []) ++ words_at i ps)
      go more true = more (op w p.word)
      go more false = more w

pub combined_law : (op : ℕ → ℕ → ℕ) (old words : List ℕ) (pairs : List Pair) → DoneOnce op old words pairs → EachCombined op old words pairs
combined_law op old words pairs h i lt = (
  words_at i h.order,
  flat_map_permutes (λ p. if names i p then p.word ∷ [] else []) pairs h.order h.each_once,
  ap (λ l. slice_index l i) h.words_are ∙ fold_at op i h.order old lt ∙ at_words op i (slice_index old i) h.order,
)

pub words_follow : (kind : Kind) → WordsFollow kind
words_follow kind old words pairs h = (done_length (op_of kind) old words pairs h, each kind h)
  where
    each : (k : Kind) → DoneOnce (op_of k) old words pairs → EachWord k old words pairs
    each puts d = stored_law old words pairs d
    each claims d = least_law old words pairs d
    each (combines f) d = combined_law f old words pairs d
