-- Reading in turns, as a loop does.
use Rattle.std.proofs.Common.{◌≡◌, ℕ, zero, suc, ◌-◌, ◌+◌, ◌≤◌, ◌<◌, max, Bool, true, false, List, [], ◌∷◌, ◌++◌, length, Result, Ok, Err, refl, sym, ap, ◌∙◌, append_assoc, arith}
use Rattle.std.proofs.lemmas.List.{append-nil}
use Rattle.fut_token.specs.declared.token.Fixed.TheVariants as fixed
use Rattle.fut_token.specs.declared.token.Token.{Token}
use Rattle.fut_ast.specs.Tokens.{tail, starts}
use Rattle.fut_ast.specs.Sorts.{Sort, Tree, Text, Path}
use Rattle.fut_ast.specs.declared.node.Spot.{Spot}
use Rattle.fut_ast.specs.declared.node.What.TheVariants as what
use Rattle.fut_ast.specs.Parts.{without}
use Rattle.fut_ast.specs.Rows.{Suffix}
use Rattle.fut_ast.specs.Behind.{begins, goes_on}
use Rattle.fut_grammar.specs.declared.fault.Fault.{Fault}
use Rattle.fut_grammar.specs.declared.fault.Stop.{Stop}
use Rattle.fut_grammar.specs.declared.fault.Stop.TheVariants as stop
use Rattle.fut_grammar.specs.declared.fault.Fault.TheVariants.{TooDeep}
use Rattle.fut_grammar.specs.Reading.{◌>>=◌, Read, Fails, refuse, look_at, word_at, names_at, commas_at, many_at, suffix_at}
use Rattle.fut_grammar.specs.Phrases.{again_at}

-- what was read before stands in front of what is still read
abbrev pub names_front : Path → Result (Path × List Token) Fault → Result (Path × List Token) Fault
names_front front read = read >>= λ x. Ok (front ++ x.0, x.1)

abbrev pub with_front : {A : Type 0} → List A → Read (List A) → Read (List A)
with_front front read = read >>= λ x. Ok (front ++ x.0, x.1, x.2)

names_regroup : (xs : Path) (x : Text) (read : Result (Path × List Token) Fault) → names_front xs (read >>= λ ys. Ok (x ∷ ys.0, ys.1)) ≡ names_front (xs ++ x ∷ []) read
names_regroup xs x (Ok y) = let e : xs ++ (x ∷ y.0) ≡ (xs ++ x ∷ []) ++ y.0 = sym (append_assoc xs (x ∷ []) y.0) in rw e refl
names_regroup xs x (Err f) = refl

module _ (xs : Path) (n i : ℕ) (ts : List Token) (total : Result (Path × List Token) Fault) (so_far : names_front xs (names_at (n - i) ts) ≡ total) where
  pub names_go_on : (x : Text) (us : List Token) → i < n → word_at ts ≡ Ok (x, us) → look_at (without what.LocalOpen) us ≡ Ok tt → starts fixed.Dot us ≡ true → names_front (xs ++ x ∷ []) (names_at (n - (i + 1)) (tail us)) ≡ total
  unfolding names_at
  names_go_on x us lt s l c =
      let j : n - i ≡ suc (n - (i + 1)) = omega arith in
      let one : names_front xs (names_at (suc (n - (i + 1))) ts) ≡ names_front (xs ++ x ∷ []) (names_at (n - (i + 1)) (tail us)) = rw (s, l, c) (names_regroup xs x (names_at (n - (i + 1)) (tail us))) in
      sym one ∙ ap (λ (m : ℕ). names_front xs (names_at m ts)) (sym j) ∙ so_far

  pub names_end_here : (x : Text) (us : List Token) → i < n → word_at ts ≡ Ok (x, us) → starts fixed.Dot us ≡ false → total ≡ Ok (xs ++ x ∷ [], us)
  unfolding names_at
  names_end_here x us lt s c =
      let j : n - i ≡ suc (n - (i + 1)) = omega arith in
      let one : names_front xs (names_at (suc (n - (i + 1))) ts) ≡ Ok (xs ++ x ∷ [], us) = rw (s, c) refl in
      sym so_far ∙ ap (λ (m : ℕ). names_front xs (names_at m ts)) j ∙ one

  -- a module is opened behind the name
  pub names_open : (x : Text) (us : List Token) (e : Stop) → i < n → word_at ts ≡ Ok (x, us) → Fails e (look_at (without what.LocalOpen) us) → Fails e total
  unfolding names_at
  names_open x us stop.Memory lt s l = tt
  names_open x us (stop.Fault f) lt s l =
      let j : n - i ≡ suc (n - (i + 1)) = omega arith in
      let one : names_front xs (names_at (suc (n - (i + 1))) ts) ≡ Err f = rw (s, l) refl in
      sym so_far ∙ ap (λ (m : ℕ). names_front xs (names_at m ts)) j ∙ one

  pub names_fail : (e : Stop) → i < n → Fails e (word_at ts) → Fails e total
  unfolding names_at
  names_fail stop.Memory lt s = tt
  names_fail (stop.Fault f) lt s =
      let j : n - i ≡ suc (n - (i + 1)) = omega arith in
      let one : names_front xs (names_at (suc (n - (i + 1))) ts) ≡ Err f = rw s refl in
      sym so_far ∙ ap (λ (m : ℕ). names_front xs (names_at m ts)) j ∙ one

  pub names_spent : n ≤ i → total ≡ Err (refuse ts)
  unfolding names_at
  names_spent le =
      let j : n - i ≡ 0 = omega arith in
      let one : names_front xs (names_at 0 ts) ≡ Err (refuse ts) = refl in
      sym so_far ∙ ap (λ (m : ℕ). names_front xs (names_at m ts)) j ∙ one

-- ---- commas and phrases in turns

module _ (read : (n : Sort) → List Token → Read (Tree n)) (n : Sort) where
  pub regroup : (xs : List (Tree n)) (x : Tree n) (r : Read (List (Tree n))) → with_front xs (r >>= λ ys. Ok (x ∷ ys.0, ys.1, ys.2)) ≡ with_front (xs ++ x ∷ []) r
  regroup xs x (Ok y) = let e : xs ++ (x ∷ y.0) ≡ (xs ++ x ∷ []) ++ y.0 = sym (append_assoc xs (x ∷ []) y.0) in rw e refl
  regroup xs x (Err f) = refl

  module _ (xs : List (Tree n)) (g k i : ℕ) (ts : List Token) (total : Read (List (Tree n))) (so_far : with_front xs (commas_at read (k - i) n g ts) ≡ total) where
    pub commas_go_on : (x : Tree n) (h : ℕ) (us : List Token) → i < k → read n ts ≡ Ok (x, h, us) → starts fixed.Comma us ≡ true → with_front (xs ++ x ∷ []) (commas_at read (k - (i + 1)) n (max g h) (tail us)) ≡ total
    unfolding commas_at
    commas_go_on x h us lt s c =
        let j : k - i ≡ suc (k - (i + 1)) = omega arith in
        let one : with_front xs (commas_at read (suc (k - (i + 1))) n g ts) ≡ with_front (xs ++ x ∷ []) (commas_at read (k - (i + 1)) n (max g h) (tail us)) = rw (s, c) (regroup xs x (commas_at read (k - (i + 1)) n (max g h) (tail us))) in
        sym one ∙ ap (λ (m : ℕ). with_front xs (commas_at read m n g ts)) (sym j) ∙ so_far

    pub commas_end_here : (x : Tree n) (h : ℕ) (us : List Token) → i < k → read n ts ≡ Ok (x, h, us) → starts fixed.Comma us ≡ false → total ≡ Ok (xs ++ x ∷ [], max g h, us)
    unfolding commas_at
    commas_end_here x h us lt s c =
        let j : k - i ≡ suc (k - (i + 1)) = omega arith in
        let one : with_front xs (commas_at read (suc (k - (i + 1))) n g ts) ≡ Ok (xs ++ x ∷ [], max g h, us) = rw (s, c) refl in
        sym so_far ∙ ap (λ (m : ℕ). with_front xs (commas_at read m n g ts)) j ∙ one

    pub commas_fail : (e : Stop) → i < k → Fails e (read n ts) → Fails e total
    unfolding commas_at
    commas_fail stop.Memory lt s = tt
    commas_fail (stop.Fault f) lt s =
        let j : k - i ≡ suc (k - (i + 1)) = omega arith in
        let one : with_front xs (commas_at read (suc (k - (i + 1))) n g ts) ≡ Err f = rw s refl in
        sym so_far ∙ ap (λ (m : ℕ). with_front xs (commas_at read m n g ts)) j ∙ one

    pub commas_spent : k ≤ i → total ≡ Err (refuse ts)
    unfolding commas_at
    commas_spent le =
        let j : k - i ≡ 0 = omega arith in
        let one : with_front xs (commas_at read 0 n g ts) ≡ Err (refuse ts) = refl in
        sym so_far ∙ ap (λ (m : ℕ). with_front xs (commas_at read m n g ts)) j ∙ one

  module _ (xs : List (Tree n)) (g k i : ℕ) (ts : List Token) (total : Read (List (Tree n))) (so_far : with_front xs (many_at read (k - i) n g ts) ≡ total) where
    pub many_go_on : (x : Tree n) (h : ℕ) (us : List Token) → i < k → begins n ts ≡ true → read n ts ≡ Ok (x, h, us) → with_front (xs ++ x ∷ []) (many_at read (k - (i + 1)) n (max g h) us) ≡ total
    unfolding many_at
    many_go_on x h us lt b s =
        let j : k - i ≡ suc (k - (i + 1)) = omega arith in
        let one : with_front xs (many_at read (suc (k - (i + 1))) n g ts) ≡ with_front (xs ++ x ∷ []) (many_at read (k - (i + 1)) n (max g h) us) = rw (b, s) (regroup xs x (many_at read (k - (i + 1)) n (max g h) us)) in
        sym one ∙ ap (λ (m : ℕ). with_front xs (many_at read m n g ts)) (sym j) ∙ so_far

    pub many_end_here : begins n ts ≡ false → total ≡ Ok (xs, g, ts)
    unfolding many_at
    many_end_here b = sym so_far ∙ go (k - i)
      where
        go : (m : ℕ) → with_front xs (many_at read m n g ts) ≡ Ok (xs, g, ts)
        go zero = let e = append-nil xs in rw (b, e) refl
        go (suc m) = let e = append-nil xs in rw (b, e) refl

    pub many_fail : (e : Stop) → i < k → begins n ts ≡ true → Fails e (read n ts) → Fails e total
    unfolding many_at
    many_fail stop.Memory lt b s = tt
    many_fail (stop.Fault f) lt b s =
        let j : k - i ≡ suc (k - (i + 1)) = omega arith in
        let one : with_front xs (many_at read (suc (k - (i + 1))) n g ts) ≡ Err f = rw (b, s) refl in
        sym so_far ∙ ap (λ (m : ℕ). with_front xs (many_at read m n g ts)) j ∙ one

    pub many_spent : k ≤ i → begins n ts ≡ true → total ≡ Err (refuse ts)
    unfolding many_at
    many_spent le b =
        let j : k - i ≡ 0 = omega arith in
        let one : with_front xs (many_at read 0 n g ts) ≡ Err (refuse ts) = rw b refl in
        sym so_far ∙ ap (λ (m : ℕ). with_front xs (many_at read m n g ts)) j ∙ one

-- ---- suffixes in turns

module _ (read : (n : Sort) → List Token → Read (Tree n)) (limit : ℕ) (n : Sort) (test : List Token → Bool) (choose : List Token → Suffix n n) (from : Spot) (k : ℕ) (a : Tree n) (h : ℕ) (ts : List Token) (total : Read (Tree n)) (so_far : again_at read limit test choose from k a h ts ≡ total) where
  pub again_ends : test ts ≡ false → total ≡ Ok (a, h, ts)
  unfolding again_at
  again_ends e = sym so_far ∙ go k
    where
      go : (m : ℕ) → again_at read limit test choose from m a h ts ≡ Ok (a, h, ts)
      go zero = rw e refl
      go (suc m) = rw e refl

  pub again_spent : test ts ≡ true → k ≡ 0 → goes_on (choose ts) a ts ≡ false → total ≡ Err (TooDeep (length ts))
  unfolding again_at
  again_spent e z q =
      let s : again_at read limit test choose from k a h ts ≡ Err (TooDeep (length ts)) = rw z (rw (e, q) refl) in
      sym so_far ∙ s

  pub again_turns : (y : Tree n × ℕ × List Token) → test ts ≡ true → 0 < k → suffix_at read (choose ts) limit from a h ts ≡ Ok y → again_at read limit test choose from (k - 1) y.0 y.1 y.2 ≡ total
  unfolding again_at
  again_turns y e lt s =
      let m : k ≡ suc (k - 1) = omega arith in
      let one : again_at read limit test choose from (suc (k - 1)) a h ts ≡ again_at read limit test choose from (k - 1) y.0 y.1 y.2 = rw (e, s) refl in
      sym one ∙ ap (λ (j : ℕ). again_at read limit test choose from j a h ts) (sym m) ∙ so_far

  pub again_fails : (e : Stop) → test ts ≡ true → 0 < k → Fails e (suffix_at read (choose ts) limit from a h ts) → Fails e total
  unfolding again_at
  again_fails stop.Memory e lt s = tt
  again_fails (stop.Fault f) e lt s =
      let m : k ≡ suc (k - 1) = omega arith in
      let one : again_at read limit test choose from (suc (k - 1)) a h ts ≡ Err f = rw (e, s) refl in
      sym so_far ∙ ap (λ (j : ℕ). again_at read limit test choose from j a h ts) m ∙ one
