-- Reading in turns, as a loop does: operators, suffixes of several kinds, and phrases that two readers agree on.
use Rattle.std.proofs.Common.{◌≡◌, ℕ, zero, suc, ◌-◌, ◌+◌, ◌≤◌, ◌<◌, max, Bool, true, false, cond, List, [], ◌∷◌, ◌++◌, length, Some, None, Ok, Err, if◌then◌else◌, refl, sym, ap, subst, ◌∙◌, arith}
use Rattle.fut_token.specs.declared.token.Fixed.{Fixed}
use Rattle.fut_token.specs.declared.token.Fixed.TheVariants as fixed
use Rattle.fut_token.specs.declared.token.Token.{Token}
use Rattle.fut_ast.specs.Tokens.{tail, starts}
use Rattle.fut_ast.specs.Sorts.{Sort, Tree, SourceExp, Ending, Let_item, Atom, Updated, Typed}
use Rattle.fut_ast.specs.declared.node.Spot.{Spot}
use Rattle.fut_ast.specs.Rows.{Suffix}
use Rattle.fut_ast.specs.Behind.{begins, goes_on, behind_app, behind_range, behind_updated}
use Rattle.fut_grammar.specs.declared.fault.Fault.TheVariants.{TooDeep}
use Rattle.fut_grammar.specs.declared.fault.Stop.{Stop}
use Rattle.fut_grammar.specs.declared.fault.Stop.TheVariants as stop
use Rattle.fut_grammar.specs.Reading.{◌>>=◌, Read, Fails, refuse, expect, many_at, several_at, commas_at}
use Rattle.fut_grammar.proofs.Loops.{with_front, regroup}
use Rattle.fut_grammar.specs.Phrases.{again_at, operators_at, operation_at, operand_too_deep, row_of_lets, operator_between, atom_suffix, with_suffix, typed_suffix}

-- ---- operators in turns

module _ (read : (n : Sort) → List Token → Read (Tree n)) (limit : ℕ) (section_ends : Bool) (least : ℕ) (from : Spot) (k : ℕ) (a : Ending) (h : ℕ) (ts : List Token) (total : Read Ending) (so_far : operators_at read limit section_ends least from k a h ts ≡ total) where
  pub operators_end : operator_between section_ends a.1 least ts ≡ None → total ≡ Ok (a, h, ts)
  unfolding operators_at
  operators_end e = sym so_far ∙ go k
    where
      go : (m : ℕ) → operators_at read limit section_ends least from m a h ts ≡ Ok (a, h, ts)
      go zero = rw e refl
      go (suc m) = rw e refl

  -- the turns are spent: one more operator would make the tree too high
  pub operators_spent : (o : Fixed) → operator_between section_ends a.1 least ts ≡ Some o → k ≡ 0 → total ≡ cond {A = Read Ending} (behind_app ts) (Err (refuse ts)) (operand_too_deep read limit o ts)
  unfolding operators_at
  operators_spent o e z = sym so_far ∙ (rw z (rw e refl))

  pub operators_turn : (o : Fixed) (y : Ending × ℕ × List Token) → operator_between section_ends a.1 least ts ≡ Some o → 0 < k → operation_at read limit least o from a h ts ≡ Ok y → operators_at read limit section_ends least from (k - 1) y.0 y.1 y.2 ≡ total
  unfolding operators_at
  operators_turn o y e lt s =
      let m : k ≡ suc (k - 1) = omega arith in
      let one : operators_at read limit section_ends least from (suc (k - 1)) a h ts ≡ operators_at read limit section_ends least from (k - 1) y.0 y.1 y.2 = rw (e, s) refl in
      sym one ∙ ap (λ (j : ℕ). operators_at read limit section_ends least from j a h ts) (sym m) ∙ so_far

  pub operators_fail : (o : Fixed) (e : Stop) → operator_between section_ends a.1 least ts ≡ Some o → 0 < k → Fails e (operation_at read limit least o from a h ts) → Fails e total
  unfolding operators_at
  operators_fail o stop.Memory e lt s = tt
  operators_fail o (stop.Fault x) e lt s =
      let m : k ≡ suc (k - 1) = omega arith in
      let one : operators_at read limit section_ends least from (suc (k - 1)) a h ts ≡ Err x = rw (e, s) refl in
      sym so_far ∙ ap (λ (j : ℕ). operators_at read limit section_ends least from j a h ts) m ∙ one

-- ---- the same phrases, read by two that agree on them

module _ (read other : (n : Sort) → List Token → Read (Tree n)) (n : Sort) (same : (ts : List Token) → read n ts ≡ other n ts) where
  pub many_same : (k g : ℕ) (ts : List Token) → many_at read k n g ts ≡ many_at other k n g ts
  unfolding many_at
  many_same zero g ts = refl
  many_same (suc k) g ts = rw (same ts) (go (begins n ts) (other n ts) (λ h us. many_same k h us))
    where
      go : (b : Bool) (r : Read (Tree n)) → ((h : ℕ) (us : List Token) → many_at read k n h us ≡ many_at other k n h us) → cond {A = Read (List (Tree n))} b (r >>= λ p. many_at read k n (max g p.1) p.2 >>= λ ps. Ok (p.0 ∷ ps.0, ps.1, ps.2)) (Ok ([], g, ts)) ≡ cond b (r >>= λ p. many_at other k n (max g p.1) p.2 >>= λ ps. Ok (p.0 ∷ ps.0, ps.1, ps.2)) (Ok ([], g, ts))
      go false r again = refl
      go true (Err e) again = refl
      go true (Ok p) again = rw (again (max g p.1) p.2) refl

  pub several_same : (g : ℕ) (ts : List Token) → several_at read n g ts ≡ several_at other n g ts
  unfolding several_at
  several_same g ts = rw (same ts) (go (other n ts))
    where
      go : (r : Read (Tree n)) → ◌>>=◌ {B = List (Tree n) × ℕ × List Token} r (λ p. many_at read (length p.2) n (max g p.1) p.2 >>= λ ps. Ok (p.0 ∷ ps.0, ps.1, ps.2)) ≡ ◌>>=◌ {B = List (Tree n) × ℕ × List Token} r (λ p. many_at other (length p.2) n (max g p.1) p.2 >>= λ ps. Ok (p.0 ∷ ps.0, ps.1, ps.2))
      go (Err e) = refl
      go (Ok p) = rw (many_same (length p.2) (max g p.1) p.2) refl

  pub commas_same : (k g : ℕ) (ts : List Token) → commas_at read k n g ts ≡ commas_at other k n g ts
  unfolding commas_at
  commas_same zero g ts = refl
  commas_same (suc k) g ts = rw (same ts) (go (other n ts) (λ h us. commas_same k h us))
    where
      go : (r : Read (Tree n)) → ((h : ℕ) (us : List Token) → commas_at read k n h us ≡ commas_at other k n h us) → ◌>>=◌ {B = List (Tree n) × ℕ × List Token} r (λ p. if starts fixed.Comma p.2 then (commas_at read k n (max g p.1) (tail p.2) >>= λ ps. Ok (p.0 ∷ ps.0, ps.1, ps.2)) else Ok (p.0 ∷ [], max g p.1, p.2)) ≡ ◌>>=◌ {B = List (Tree n) × ℕ × List Token} r (λ p. if starts fixed.Comma p.2 then (commas_at other k n (max g p.1) (tail p.2) >>= λ ps. Ok (p.0 ∷ ps.0, ps.1, ps.2)) else Ok (p.0 ∷ [], max g p.1, p.2))
      go (Err e) again = refl
      go (Ok p) again = rw (again (max g p.1) (tail p.2)) refl

-- ---- suffixes, where the turns are spent

module _ (read : (n : Sort) → List Token → Read (Tree n)) (limit : ℕ) (n : Sort) (test : List Token → Bool) (choose : List Token → Suffix n n) (from : Spot) (k : ℕ) (a : Tree n) (h : ℕ) (ts : List Token) (total : Read (Tree n)) (so_far : again_at read limit test choose from k a h ts ≡ total) where
  pub again_spent_any : test ts ≡ true → k ≡ 0 → total ≡ Err (cond (goes_on (choose ts) a ts) (refuse ts) (TooDeep (length ts)))
  unfolding again_at
  again_spent_any e z =
      let s : again_at read limit test choose from k a h ts ≡ Err (cond (goes_on (choose ts) a ts) (refuse ts) (TooDeep (length ts))) = rw z (rw e (go (goes_on (choose ts) a ts))) in
      sym so_far ∙ s
    where
      go : (b : Bool) → cond {A = Read (Tree n)} b (Err (refuse ts)) (Err (TooDeep (length ts))) ≡ Err (cond b (refuse ts) (TooDeep (length ts)))
      go true = refl
      go false = refl

pub core_of_atom : (ts : List Token) (a : SourceExp) {r : Read SourceExp} → r ≡ Err (cond (goes_on (atom_suffix ts) a ts) (refuse ts) (TooDeep (length ts))) → r ≡ Err (TooDeep (length ts))
core_of_atom ts a {r = r} e = subst (λ (b : Bool). r ≡ Err (cond b (refuse ts) (TooDeep (length ts)))) (go (starts fixed.OpenBracket ts) (starts fixed.Dot ts)) e
  where
    go : (b c : Bool) → goes_on {n = Atom} {m = Atom} (cond b Suffix.indexed (cond c Suffix.field_name Suffix.field_digits)) a ts ≡ false
    go true c = refl
    go false true = refl
    go false false = refl

pub core_of_update : (ts : List Token) (a : Ending) {r : Read Ending} → r ≡ Err (cond (goes_on (with_suffix ts) a ts) (refuse ts) (TooDeep (length ts))) → r ≡ Err (cond (behind_range a.1 ts) (refuse ts) (TooDeep (length ts)))
core_of_update ts a {r = r} e = subst (λ (b : Bool). r ≡ Err (cond b (refuse ts) (TooDeep (length ts)))) (go (starts fixed.OpenBracket (tail ts)) (starts fixed.Dot (tail (tail ts)))) e
  where
    go : (b c : Bool) → goes_on {n = Updated} {m = Updated} (cond b Suffix.with_index (cond c Suffix.with_path Suffix.with_field)) a ts ≡ behind_range a.1 ts
    go true c = refl
    go false true = refl
    go false false = refl

pub core_of_type : (ts : List Token) (a : Ending) {r : Read Ending} → r ≡ Err (cond (goes_on (typed_suffix ts) a ts) (refuse ts) (TooDeep (length ts))) → r ≡ Err (cond (behind_updated a.1 ts) (refuse ts) (TooDeep (length ts)))
core_of_type ts a {r = r} e = subst (λ (b : Bool). r ≡ Err (cond b (refuse ts) (TooDeep (length ts)))) (go (starts fixed.Colon ts)) e
  where
    go : (b : Bool) → goes_on {n = Typed} {m = Typed} (cond b Suffix.ascribed Suffix.coerced) a ts ≡ behind_updated a.1 ts
    go true = refl
    go false = refl

-- ---- rows of lets in turns

module _ (read : (n : Sort) → List Token → Read (Tree n)) (limit : ℕ) (xs : List (Tree Let_item)) (g k i : ℕ) (ts : List Token) (total : Read (List (Tree Let_item))) (so_far : with_front xs (row_of_lets read limit (k - i) g ts) ≡ total) where
  pub lets_go_on : (x : Tree Let_item) (h : ℕ) (us : List Token) → i < k → read Let_item ts ≡ Ok (x, h, us) → starts fixed.KeyLet us ≡ true → with_front (xs ++ x ∷ []) (row_of_lets read limit (k - (i + 1)) (max g h) (tail us)) ≡ total
  unfolding row_of_lets
  lets_go_on x h us lt s c =
      let j : k - i ≡ suc (k - (i + 1)) = omega arith in
      let one : with_front xs (row_of_lets read limit (suc (k - (i + 1))) g ts) ≡ with_front (xs ++ x ∷ []) (row_of_lets read limit (k - (i + 1)) (max g h) (tail us)) = rw (s, c) (regroup read Let_item xs x (row_of_lets read limit (k - (i + 1)) (max g h) (tail us))) in
      sym one ∙ ap (λ (m : ℕ). with_front xs (row_of_lets read limit m g ts)) (sym j) ∙ so_far

  pub lets_go_on_in : (x : Tree Let_item) (h : ℕ) (us vs : List Token) → i < k → read Let_item ts ≡ Ok (x, h, us) → starts fixed.KeyLet us ≡ false → expect fixed.KeyIn us ≡ Ok vs → starts fixed.KeyLet vs ≡ true → with_front (xs ++ x ∷ []) (row_of_lets read limit (k - (i + 1)) (max g h) (tail vs)) ≡ total
  unfolding row_of_lets
  lets_go_on_in x h us vs lt s c e d =
      let j : k - i ≡ suc (k - (i + 1)) = omega arith in
      let one : with_front xs (row_of_lets read limit (suc (k - (i + 1))) g ts) ≡ with_front (xs ++ x ∷ []) (row_of_lets read limit (k - (i + 1)) (max g h) (tail vs)) = rw (s, c, e, d) (regroup read Let_item xs x (row_of_lets read limit (k - (i + 1)) (max g h) (tail vs))) in
      sym one ∙ ap (λ (m : ℕ). with_front xs (row_of_lets read limit m g ts)) (sym j) ∙ so_far

  pub lets_end_here : (x : Tree Let_item) (h : ℕ) (us vs : List Token) → i < k → read Let_item ts ≡ Ok (x, h, us) → starts fixed.KeyLet us ≡ false → expect fixed.KeyIn us ≡ Ok vs → starts fixed.KeyLet vs ≡ false → total ≡ Ok (xs ++ x ∷ [], max g h, vs)
  unfolding row_of_lets
  lets_end_here x h us vs lt s c e d =
      let j : k - i ≡ suc (k - (i + 1)) = omega arith in
      let one : with_front xs (row_of_lets read limit (suc (k - (i + 1))) g ts) ≡ Ok (xs ++ x ∷ [], max g h, vs) = rw (s, c, e, d) refl in
      sym so_far ∙ ap (λ (m : ℕ). with_front xs (row_of_lets read limit m g ts)) j ∙ one

  pub lets_fail : (e : Stop) → i < k → Fails e (read Let_item ts) → Fails e total
  unfolding row_of_lets
  lets_fail stop.Memory lt s = tt
  lets_fail (stop.Fault f) lt s =
      let j : k - i ≡ suc (k - (i + 1)) = omega arith in
      let one : with_front xs (row_of_lets read limit (suc (k - (i + 1))) g ts) ≡ Err f = rw s refl in
      sym so_far ∙ ap (λ (m : ℕ). with_front xs (row_of_lets read limit m g ts)) j ∙ one

  pub lets_fail_in : (x : Tree Let_item) (h : ℕ) (us : List Token) (e : Stop) → i < k → read Let_item ts ≡ Ok (x, h, us) → starts fixed.KeyLet us ≡ false → Fails e (expect fixed.KeyIn us) → Fails e total
  unfolding row_of_lets
  lets_fail_in x h us stop.Memory lt s c f = tt
  lets_fail_in x h us (stop.Fault f) lt s c e =
      let j : k - i ≡ suc (k - (i + 1)) = omega arith in
      let one : with_front xs (row_of_lets read limit (suc (k - (i + 1))) g ts) ≡ Err f = rw (s, c, e) refl in
      sym so_far ∙ ap (λ (m : ℕ). with_front xs (row_of_lets read limit m g ts)) j ∙ one

  pub lets_spent : k ≤ i → total ≡ Err (refuse ts)
  unfolding row_of_lets
  lets_spent le =
      let j : k - i ≡ 0 = omega arith in
      let one : with_front xs (row_of_lets read limit 0 g ts) ≡ Err (refuse ts) = refl in
      sym so_far ∙ ap (λ (m : ℕ). with_front xs (row_of_lets read limit m g ts)) j ∙ one
