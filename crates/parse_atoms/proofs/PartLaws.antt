-- A part of an index, plain or in a section, is one that is written so.
use Rattle.std.proofs.Common.{◌≡◌, Bool, true, false, cond, ◌&&◌, ◌||◌, List, Some, None, Ok, Err, Result, refl}
use Rattle.fut_token.specs.declared.token.Fixed.TheVariants as fixed
use Rattle.fut_token.specs.declared.token.Token.{Token}
use Rattle.fut_ast.specs.Behind.{begins_operand}
use Rattle.fut_ast.specs.ExpRows.{backwards, from_index, named_backwards, named_from, named_to, to_index}
use Rattle.fut_ast.specs.Parts.{going_back, without}
use Rattle.fut_ast.specs.Rows.{of_exp}
use Rattle.fut_ast.specs.Sorts.{Sort, Tree, Index_item, Named_item, Operands}
use Rattle.fut_ast.specs.Tokens.{spot_of, starts, tail}
use Rattle.fut_ast.specs.declared.node.What.TheVariants as what
use Rattle.parse_nodes.specs.Parts.{Written, plain_part, section_part}
use Rattle.fut_grammar.specs.declared.fault.Fault.{Fault}
use Rattle.fut_grammar.specs.Phrases.{bounded, ended, flat_at, index_at, items, named_at, phrases}
use Rattle.fut_grammar.specs.Reading.{◌>>=◌, Read, expect, has_at, look_at, one_at, optional_at, parts_at, refuse, refuse_sort, row_at, sub_at, upto_at}
use Rattle.fut_grammar.proofs.Bools.{drop_right}
use Rattle.fut_grammar.proofs.Choices.{not_starting}
use Rattle.parse_atoms.specs.Parts.{any_part_at, part_at, reversal_at}

-- readings that begin alike
step : {A B C D : Type 0} (r : Result A Fault) (f : A → Result B Fault) (g : B → Result C Fault) (k : A → Result D Fault) (l : D → Result C Fault) → ((x : A) → f x >>= g ≡ k x >>= l) → (r >>= f) >>= g ≡ (r >>= k) >>= l
step (Ok x) f g k l same = same x
step (Err e) f g k l same = refl

-- a reading in one step, and in as many more
two : {A B C : Type 0} (r : Result A Fault) (f : A → Result C Fault) (k : A → Result B Fault) (l : B → Result C Fault) → ((x : A) → f x ≡ k x >>= l) → r >>= f ≡ (r >>= k) >>= l
two (Ok x) f k l same = same x
two (Err e) f k l same = refl

three : {A B C D : Type 0} (r : Result A Fault) (f : A → Result D Fault) (k : A → Result B Fault) (l : B → Result C Fault) (m : C → Result D Fault) → ((x : A) → f x ≡ (k x >>= l) >>= m) → r >>= f ≡ ((r >>= k) >>= l) >>= m
three (Ok x) f k l m same = same x
three (Err e) f k l m same = refl

first : {A B C D E : Type 0} (r : Result A Fault) (f : A → Result B Fault) (g : B → Result E Fault) (k : A → Result C Fault) (l : C → Result D Fault) (m : D → Result E Fault) → ((x : A) → f x >>= g ≡ (k x >>= l) >>= m) → (r >>= f) >>= g ≡ ((r >>= k) >>= l) >>= m
first (Ok x) f g k l m same = same x
first (Err e) f g k l m same = refl

-- a part as it is written, carried to a sort of parts
abbrev pub carried : {A : Type 0} → (Written → A) → Read Written → Read A
carried f r = r >>= λ y. Ok (f y.0, y.1, y.2)

-- nothing goes on with the part
closed : {A : Type 0} (f : Written → A) (r : Read Written) → (carried f r >>= λ y. cond {A = Read A} (starts fixed.Colon y.2 || begins_operand y.2) (Err (refuse y.2)) (Ok y)) ≡ carried f (r >>= λ y. cond {A = Read Written} (starts fixed.Colon y.2 || begins_operand y.2) (Err (refuse y.2)) (Ok y))
closed f (Err e) = refl
closed {A = A} f (Ok y) = go (starts fixed.Colon y.2 || begins_operand y.2)
  where
    go : (b : Bool) → cond {A = Read A} b (Err (refuse y.2)) (Ok (f y.0, y.1, y.2)) ≡ carried f (cond {A = Read Written} b (Err (refuse y.2)) (Ok y))
    go true = refl
    go false = refl

module _ (sub : (n : Sort) → List Token → Read (Tree n)) (ts : List Token) where
  colon_first : starts fixed.Colon ts ≡ true → begins_operand ts ≡ false
  colon_first e = go (begins_operand ts) refl
    where
      go : (b : Bool) → begins_operand ts ≡ b → b ≡ false
      go true b = let n : starts fixed.Colon ts ≡ false = not_starting fixed.Colon (λ us. begins_operand us) ts (λ t us k. rw k refl) b in absurd cc
      go false b = refl

  no_first : begins_operand ts ≡ false → optional_at sub (Operands 1) 0 ts ≡ Ok (None, 0, ts)
  unfolding optional_at
  no_first n = rw n refl

  upto_is : starts fixed.Colon ts ≡ true → upto_at sub 0 ts ≡ (optional_at sub (Operands 1) 0 (tail ts) >>= λ y. Ok (Some (spot_of ts, y.0), y.1, y.2))
  unfolding upto_at
  upto_is e = rw e refl

  index_backwards : row_at sub (of_exp backwards) ts ≡ carried plain_part (reversal_at ts >>= λ us. Ok ((spot_of ts, None, None), 0, us))
  unfolding row_at parts_at has_at reversal_at
  index_backwards =
      first (expect fixed.Colon ts) _ _ _ _ _ (λ us. first (look_at going_back us) _ _ _ _ _ (λ u. first (expect fixed.Colon us) _ _ _ _ _ (λ vs. first (expect fixed.Minus vs) _ _ _ _ _ (λ ws. step (one_at ws) _ _ _ _ (λ xs. refl)))))

  named_backwards_is : row_at sub (of_exp named_backwards) ts ≡ carried section_part (reversal_at ts >>= λ us. Ok ((spot_of ts, None, None), 0, us))
  unfolding row_at parts_at has_at reversal_at
  named_backwards_is =
      first (expect fixed.Colon ts) _ _ _ _ _ (λ us. first (look_at going_back us) _ _ _ _ _ (λ u. first (expect fixed.Colon us) _ _ _ _ _ (λ vs. first (expect fixed.Minus vs) _ _ _ _ _ (λ ws. step (one_at ws) _ _ _ _ (λ xs. refl)))))

  index_ends : starts fixed.Colon ts ≡ true → row_at sub (of_exp to_index) ts ≡ carried plain_part (optional_at sub (Operands 1) 0 ts >>= λ e. upto_at sub e.1 e.2 >>= λ u. look_at (without what.Stride) u.2 >>= λ l. Ok ((spot_of ts, e.0, u.0), u.1, u.2))
  unfolding row_at parts_at has_at expect
  index_ends e =
      rw (no_first (colon_first e), upto_is e, e) (three (optional_at sub (Operands 1) 0 (tail ts)) _ _ _ _ (λ y. step (look_at (without what.Stride) y.2) _ _ _ _ (λ l. refl)))

  named_ends : starts fixed.Colon ts ≡ true → row_at sub (of_exp named_to) ts ≡ carried section_part (optional_at sub (Operands 1) 0 ts >>= λ e. upto_at sub e.1 e.2 >>= λ u. look_at (without what.Stride) u.2 >>= λ l. Ok ((spot_of ts, e.0, u.0), u.1, u.2))
  unfolding row_at parts_at has_at expect
  named_ends e =
      rw (no_first (colon_first e), upto_is e, e) (three (optional_at sub (Operands 1) 0 (tail ts)) _ _ _ _ (λ y. step (look_at (without what.Stride) y.2) _ _ _ _ (λ l. refl)))

  index_starts : begins_operand ts ≡ true → row_at sub (of_exp from_index) ts ≡ carried plain_part (optional_at sub (Operands 1) 0 ts >>= λ e. upto_at sub e.1 e.2 >>= λ u. look_at (without what.Stride) u.2 >>= λ l. Ok ((spot_of ts, e.0, u.0), u.1, u.2))
  unfolding row_at parts_at has_at sub_at optional_at
  index_starts b =
      rw b (first (sub (Operands 1) ts) _ _ _ _ _ (λ e. two (upto_at sub _ _) _ _ _ (λ u. step (look_at (without what.Stride) u.2) _ _ _ _ (λ l. refl))))

  named_starts : begins_operand ts ≡ true → row_at sub (of_exp named_from) ts ≡ carried section_part (optional_at sub (Operands 1) 0 ts >>= λ e. upto_at sub e.1 e.2 >>= λ u. look_at (without what.Stride) u.2 >>= λ l. Ok ((spot_of ts, e.0, u.0), u.1, u.2))
  unfolding row_at parts_at has_at sub_at optional_at
  named_starts b =
      rw b (first (sub (Operands 1) ts) _ _ _ _ _ (λ e. two (upto_at sub _ _) _ _ _ (λ u. step (look_at (without what.Stride) u.2) _ _ _ _ (λ l. refl))))

  index_any : (begins_operand ts || starts fixed.Colon ts) ≡ true → index_at sub ts ≡ carried plain_part (any_part_at sub ts)
  unfolding index_at any_part_at
  index_any b = go (starts fixed.Colon ts) (starts fixed.Colon (tail ts)) refl
    where
      go : (c d : Bool) → starts fixed.Colon ts ≡ c → cond c (cond d (row_at sub (of_exp backwards) ts) (row_at sub (of_exp to_index) ts)) (row_at sub (of_exp from_index) ts) ≡ carried plain_part (cond (c && d) (reversal_at ts >>= λ us. Ok ((spot_of ts, None, None), 0, us)) (optional_at sub (Operands 1) 0 ts >>= λ e. upto_at sub e.1 e.2 >>= λ u. look_at (without what.Stride) u.2 >>= λ l. Ok ((spot_of ts, e.0, u.0), u.1, u.2)))
      go true true e = index_backwards
      go true false e = index_ends e
      go false d e = index_starts (drop_right (begins_operand ts) (starts fixed.Colon ts) b e)

  named_any : (begins_operand ts || starts fixed.Colon ts) ≡ true → named_at sub ts ≡ carried section_part (any_part_at sub ts)
  unfolding named_at any_part_at
  named_any b = go (starts fixed.Colon ts) (starts fixed.Colon (tail ts)) refl
    where
      go : (c d : Bool) → starts fixed.Colon ts ≡ c → cond c (cond d (row_at sub (of_exp named_backwards) ts) (row_at sub (of_exp named_to) ts)) (row_at sub (of_exp named_from) ts) ≡ carried section_part (cond (c && d) (reversal_at ts >>= λ us. Ok ((spot_of ts, None, None), 0, us)) (optional_at sub (Operands 1) 0 ts >>= λ e. upto_at sub e.1 e.2 >>= λ u. look_at (without what.Stride) u.2 >>= λ l. Ok ((spot_of ts, e.0, u.0), u.1, u.2)))
      go true true e = named_backwards_is
      go true false e = named_ends e
      go false d e = named_starts (drop_right (begins_operand ts) (starts fixed.Colon ts) b e)

module _ (inner : (n : Sort) → List Token → Read (Tree n)) (ts : List Token) where
  pub index_written : phrases inner Index_item ts ≡ carried plain_part (part_at (items inner) ts)
  unfolding phrases bounded ended flat_at refuse_sort part_at
  index_written = go (begins_operand ts || starts fixed.Colon ts) refl
    where
      go : (b : Bool) → (begins_operand ts || starts fixed.Colon ts) ≡ b → cond b (index_at (items inner) ts >>= λ y. cond {A = Read (Tree Index_item)} (starts fixed.Colon y.2 || begins_operand y.2) (Err (refuse y.2)) (Ok y)) (Err (refuse ts)) ≡ carried plain_part (cond b (any_part_at (items inner) ts >>= λ y. cond {A = Read Written} (starts fixed.Colon y.2 || begins_operand y.2) (Err (refuse y.2)) (Ok y)) (Err (refuse ts)))
      go true b = rw (index_any (items inner) ts b) (closed plain_part (any_part_at (items inner) ts))
      go false b = refl

  pub named_written : phrases inner Named_item ts ≡ carried section_part (part_at (items inner) ts)
  unfolding phrases bounded ended flat_at refuse_sort part_at
  named_written = go (begins_operand ts || starts fixed.Colon ts) refl
    where
      go : (b : Bool) → (begins_operand ts || starts fixed.Colon ts) ≡ b → cond b (named_at (items inner) ts >>= λ y. cond {A = Read (Tree Named_item)} (starts fixed.Colon y.2 || begins_operand y.2) (Err (refuse y.2)) (Ok y)) (Err (refuse ts)) ≡ carried section_part (cond b (any_part_at (items inner) ts >>= λ y. cond {A = Read Written} (starts fixed.Colon y.2 || begins_operand y.2) (Err (refuse y.2)) (Ok y)) (Err (refuse ts)))
      go true b = rw (named_any (items inner) ts b) (closed section_part (any_part_at (items inner) ts))
      go false b = refl
