-- What a reader answers where one of its parts fails or where its node was made, and rows whose phrases stand between two symbols.
use Rattle.std.proofs.Common.{◌≡◌, ◌≤◌, ◌<◌, nat_lt, ℕ, suc, true, false, Bool, List, ◌∷◌, [], length, Result, Ok, Err, refl, sym, ap, subst, arith, rules}
use Rattle.std.specs.Prelude.{if◌then◌else◌}
use Rattle.std.specs.Result.{IfOk}
use Rattle.fut_token.specs.declared.token.Fixed.{Fixed}
use Rattle.fut_token.specs.declared.token.Token.{Token}
use Rattle.fut_ast.specs.Parts.{Sign, Commas, Word}
use Rattle.fut_ast.specs.Sorts.{Sort, Tree, Text}
use Rattle.fut_ast.specs.Tokens.{starts, tail}
use Rattle.fut_grammar.specs.declared.fault.Fault.{Fault}
use Rattle.fut_grammar.specs.declared.fault.Stop.{Stop}
use Rattle.fut_grammar.specs.declared.fault.Stop.TheVariants as stop
use Rattle.fut_grammar.specs.Reading.{◌>>=◌, Fails, Gives, Read, commas_at, word_at, parts_at, has_at, expect}
use Rattle.parse_types.specs.declared.found.Found.{Found}
use Rattle.parse_types.specs.Found.{found_as}
use Rattle.parse_types.specs.Made.{node_of}
use Rattle.parse_types.specs.Closed.{Closes}
use Rattle.parse_types.specs.Signs.{before, enclosed_at, word_before}

-- one reading fails as another does, where its faults are that one's
pub fails_as : {A B : Type 0} (e : Stop) {r : Result A Fault} {q : Result B Fault} → Fails e r → ((f : Fault) → r ≡ Err f → q ≡ Err f) → Fails e q
fails_as stop.Memory failed same = tt
fails_as (stop.Fault f) failed same = same f failed

-- what was read is as high as reading says
abbrev height_in : {Y : Type 0} → Read Y → ℕ
height_in (Ok y) = y.1
height_in (Err f) = 0

pub high_as : {X Y : Type 0} (view : X → Y) (r : Result (Found X) Stop) (y : Y) {h k : ℕ} (us : List Token) → Gives (found_as view) r (Ok (y, h, us)) → h ≤ k → IfOk r (λ x. x.height ≤ k)
high_as view (Ok x) y us gives le = let same : x.height ≡ _ = sym (ap height_in gives) in rw same le
high_as view (Err e) y us gives le = tt

pub high_is : {X Y : Type 0} (view : X → Y) (r : Result (Found X) Stop) (y : Y) (h : ℕ) (us : List Token) → Gives (found_as view) r (Ok (y, h, us)) → IfOk r (λ x. x.height ≡ h)
high_is view (Ok x) y h us gives = sym (ap height_in gives)
high_is view (Err e) y h us gives = tt

pub low_as : {X : Type 0} (r : Result (Found X) Stop) {h k : ℕ} → IfOk r (λ x. x.height ≡ h) → h ≤ k → IfOk r (λ x. x.height ≤ k)
low_as (Ok x) same le = rw same le
low_as (Err e) same le = tt

pub under : {X : Type 0} (r : Result (Found X) Stop) {k m : ℕ} → IfOk r (λ x. x.height ≤ k) → k < m → IfOk r (λ x. x.height < m)
under (Ok x) le lt = omega (arith, le, lt)
under (Err e) le lt = tt

-- of what was handed over
pub when_ok : {X Y : Type 0} (view : X → Y) (m : Result Y Fault) {r : Result X Stop} {x : X} → r ≡ Ok x → Gives view r m → m ≡ Ok (view x)
when_ok view m same given = subst (λ r. Gives view r m) same given

pub when_err : {X Y : Type 0} (view : X → Y) (m : Result Y Fault) {r : Result X Stop} {e : Stop} → r ≡ Err e → Gives view r m → Fails e m
when_err view m same given = subst (λ r. Gives view r m) same given

-- a keyword or symbol behind what was found
pub before_as : {X Y : Type 0} (view : X → Y) (f : Fixed) (r q : Result (Found X) Stop) (m : Read Y) → Closes f r q → Gives (found_as view) r m → Gives (found_as view) q (before f m)
before_as view f (Ok x) (Ok y) m (begun, tree, height, rest) read = rw (read, begun, tree, height, rest) refl
before_as view f (Ok x) (Err e) m (none, same) read = rw (same, read, none) refl
before_as view f (Err e) q m same read = rw same (fails_as e read (λ g is. rw is refl))

pub before_low : {X : Type 0} (f : Fixed) (r q : Result (Found X) Stop) (k : ℕ) → Closes f r q → IfOk r (λ x. x.height ≤ k) → IfOk q (λ x. x.height ≤ k)
before_low f (Ok x) (Ok y) k (begun, tree, height, rest) low = rw height low
before_low f (Ok x) (Err e) k closes low = tt
before_low f (Err e) q k same low = rw same tt

-- what nothing goes on with
pub same_read : {A : Type 0} (r : Result A Fault) → (r >>= λ y. Ok y) ≡ r
same_read (Ok y) = refl
same_read (Err f) = refl

-- whether another node fits on top
pub below : {h d : ℕ} → h ≤ d → nat_lt h (suc d) ≡ true
below {h} {d} le = let lt : h < suc d = omega (arith, le) in search (arith, rules, lt)

pub above : {h d : ℕ} → d < h → nat_lt h (suc d) ≡ false
above {h} {d} lt = let le : suc d ≤ h = omega (arith, lt) in search (arith, rules, le)

-- by the outcome of a test, and of reading
pub by_test : {C : Type 0} (b : Bool) → (b ≡ true → C) → (b ≡ false → C) → C
by_test true holds fails = holds refl
by_test false holds fails = fails refl

pub by_read : {A C : Type 0} (r : Result A Fault) → ((y : A) → r ≡ Ok y → C) → ((f : Fault) → r ≡ Err f → C) → C
by_read (Ok y) reads fails = reads y refl
by_read (Err f) reads fails = fails f refl

-- a row of two symbols, or of phrases with commas between and the two symbols around them
module _ (sub : (n : Sort) → List Token → Read (Tree n)) (n m : Sort) (opening closing : Fixed) (made : List (Tree m) → Tree n) (ts : List Token) where
  abbrev pub none_row : Read (Tree n)
  none_row = parts_at sub true n (Sign opening ∷ Sign closing ∷ []) (λ sign end. made []) 0 ts

  abbrev pub enclosed_row : Read (Tree n)
  enclosed_row = parts_at sub true n (Sign opening ∷ Commas m ∷ Sign closing ∷ []) (λ sign xs end. made xs) 0 ts

  pub enclosed_as : (if starts closing (tail ts) then none_row else enclosed_row) ≡ node_of made (enclosed_at sub opening closing m ts)
  unfolding parts_at has_at expect
  enclosed_as =
      by_test (starts opening ts)
      (λ begun. by_test (starts closing (tail ts))
      (λ none. rw (begun, none) refl)
      (λ some. by_read (commas_at sub (length (tail ts)) m 0 (tail ts))
      (λ y read. by_test (starts closing y.2) (λ ended. rw (begun, some, read, ended) refl) (λ ended. rw (begun, some, read, ended) refl))
      (λ f read. rw (begun, some, read) refl)))
      (λ begun. by_test (starts closing (tail ts)) (λ none. rw (begun, none) refl) (λ some. rw (begun, some) refl))

-- a name between two symbols, in what is no node
module _ (sub : (n : Sort) → List Token → Read (Tree n)) (n : Sort) (opening closing : Fixed) (made : Text → Tree n) (ts : List Token) where
  abbrev pub word_row : Read (Tree n)
  word_row = parts_at sub false n (Sign opening ∷ Word ∷ Sign closing ∷ []) (λ sign x end. made x.1) 0 ts

  pub word_as : starts opening ts ≡ true → word_row ≡ (word_before closing (tail ts) >>= λ y. Ok (made y.0, 0, y.1))
  unfolding parts_at has_at expect
  word_as begun =
      by_read (word_at (tail ts))
      (λ y read. by_test (starts closing y.1) (λ ended. rw (begun, read, ended) refl) (λ ended. rw (begun, read, ended) refl))
      (λ f read. rw (begun, read) refl)
